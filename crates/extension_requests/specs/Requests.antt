-- What the words of a line ask for: `domain FIELD log_size log_extended`, `row HEX`, or neither.
use Rattle.std.specs.Prelude.{ℕ, cond, List, [], ◌∷◌, Some, None, codes, Option}
use Rattle.std.specs.Option.{option_map}
use Rattle.std.specs.Str.{bytes_eq}
use Rattle.words.specs.Numerals.{decimal_of}
use Rattle.extension_requests.specs.declared.request.Domain.{Domain}
use Rattle.extension_requests.specs.declared.request.FieldName.{FieldName}
use Rattle.extension_requests.specs.declared.request.FieldName.TheVariants as field
use Rattle.extension_requests.specs.declared.request.Request.{Request}
use Rattle.extension_requests.specs.declared.request.Request.TheVariants as request

-- a domain by its field and dimensions, or the digits of a row
pub data Asked : Type 0 where
  domain : Domain → Asked
  row : List ℕ → Asked

abbrev pub asked_by : Request → Asked
asked_by (request.Domain d) = domain d
asked_by (request.Row d) = row d.now

abbrev pub shown : Option Request → Option Asked
shown r = option_map asked_by r

-- the name of a field on a line
abbrev pub field_name : FieldName → List ℕ
field_name field.Byte = codes "8"
field_name field.Bits16 = codes "16"
field_name field.Bits32 = codes "32"
field_name field.Pile4 = codes "p4"

abbrev pub named_field : List ℕ → Option FieldName
named_field w =
    cond (bytes_eq w (codes "8")) (Some field.Byte)
    (cond (bytes_eq w (codes "16")) (Some field.Bits16)
    (cond (bytes_eq w (codes "32")) (Some field.Bits32)
    (cond (bytes_eq w (codes "p4")) (Some field.Pile4) None)))

abbrev pub joined : Option FieldName → Option ℕ → Option ℕ → Option Domain
joined None s e = None
joined (Some f) None e = None
joined (Some f) (Some s) None = None
joined (Some f) (Some s) (Some e) = Some (record { field = f; log_size = s; log_extended = e })

unfoldable pub domain_written : List (List ℕ) → Option Domain
domain_written [] = None
domain_written (f ∷ []) = None
domain_written (f ∷ s ∷ []) = None
domain_written (f ∷ s ∷ e ∷ []) = joined (named_field f) (decimal_of s) (decimal_of e)
domain_written (f ∷ s ∷ e ∷ w ∷ ws) = None

abbrev pub only_word : List (List ℕ) → Option (List ℕ)
only_word [] = None
only_word (d ∷ []) = Some d
only_word (d ∷ w ∷ ws) = None

-- what the words of a line ask for
abbrev pub requested : List (List ℕ) → Option Asked
requested [] = None
requested (w ∷ ws) =
    cond (bytes_eq w (codes "domain")) (option_map domain (domain_written ws))
    (cond (bytes_eq w (codes "row")) (option_map row (only_word ws)) None)
