-- What a line asks for: the field of its first word, the operation of its second, and the operands
-- after it. The first reason that applies is why a line has no answer.
use Rattle.std.specs.Prelude.{ℕ, ◌^◌, Bool, true, false, cond, ◌&&◌, List, [], ◌∷◌, Some, None, Ok, Err, codes, Option, Result, nat_lt}
use Rattle.std.specs.Option.{unwrap_or, ok_or}
use Rattle.std.specs.Str.{bytes_eq}
use Rattle.words.specs.Numerals.{decimal_of, hexadecimal_of}
use Rattle.field_requests.specs.declared.request.FieldName.{FieldName}
use Rattle.field_requests.specs.declared.request.FieldName.TheVariants as field
use Rattle.field_requests.specs.declared.calculation.Question.{Question}
use Rattle.field_requests.specs.declared.calculation.Question.TheVariants as question
use Rattle.field_requests.specs.declared.request.Request.{Request}
use Rattle.field_requests.specs.declared.request.Request.TheVariants as request
use Rattle.field_requests.specs.declared.request.Reason.{Reason}
use Rattle.field_requests.specs.declared.request.Reason.TheVariants as reason

-- the value of the first name that is the word
abbrev pub named : {X : Type 0} → List (List ℕ × X) → List ℕ → Option X
named [] w = None
named (n ∷ ns) w = cond (bytes_eq w n.0) (Some n.1) (named ns w)

abbrev pub fields : List (List ℕ × FieldName)
fields =
    (codes "1", field.Bit) ∷ (codes "8", field.Byte) ∷ (codes "16", field.Bits16) ∷ (codes "32", field.Bits32)
    ∷ (codes "64", field.Bits64) ∷ (codes "p2", field.Pile2) ∷ (codes "p4", field.Pile4) ∷ (codes "p8", field.Pile8) ∷ []

abbrev pub named_field : List ℕ → Option FieldName
named_field w = named fields w

-- the number of bits of an element
abbrev pub bits_of : FieldName → ℕ
bits_of field.Bit = 1
bits_of field.Byte = 8
bits_of field.Bits16 = 16
bits_of field.Bits32 = 32
bits_of field.Bits64 = 64
bits_of field.Pile2 = 2
bits_of field.Pile4 = 4
bits_of field.Pile8 = 8

-- whether Byte lies below the field, so that an element can be scaled by a byte
abbrev pub scales_of : FieldName → Bool
scales_of field.Bit = false
scales_of field.Byte = false
scales_of field.Bits16 = true
scales_of field.Bits32 = true
scales_of field.Bits64 = true
scales_of field.Pile2 = false
scales_of field.Pile4 = false
scales_of field.Pile8 = false

abbrev pub reason_text : Reason → List ℕ
reason_text reason.UnknownField = codes "unknown field"
reason_text reason.UnknownOperation = codes "unknown operation"
reason_text reason.WrongOperands = codes "wrong operands"
reason_text reason.NotAnElement = codes "not an element"
reason_text reason.NotANumber = codes "not a number"

-- an answer made of an answer, which may fail too; a reason stays
abbrev pub after : {X Y : Type 0} → Result X Reason → (X → Result Y Reason) → Result Y Reason
after (Ok x) f = f x
after (Err e) f = Err e

abbrev pub then : {X Y : Type 0} → Result X Reason → (X → Y) → Result Y Reason
then (Ok x) f = Ok (f x)
then (Err e) f = Err e

-- no word after the operation, one, or two; another number of them is wrong
abbrev pub none_of : List (List ℕ) → Result (Unit {0}) Reason
none_of [] = Ok tt
none_of (a ∷ ws) = Err reason.WrongOperands

abbrev pub one_word : List (List ℕ) → Result (List ℕ) Reason
one_word [] = Err reason.WrongOperands
one_word (a ∷ []) = Ok a
one_word (a ∷ b ∷ ws) = Err reason.WrongOperands

abbrev pub two_words : List (List ℕ) → Result (List ℕ × List ℕ) Reason
two_words [] = Err reason.WrongOperands
two_words (a ∷ []) = Err reason.WrongOperands
two_words (a ∷ b ∷ []) = Ok (a, b)
two_words (a ∷ b ∷ c ∷ ws) = Err reason.WrongOperands

-- the number of an element of the field
abbrev pub element_of : FieldName → List ℕ → Result ℕ Reason
element_of f w =
    elim (hexadecimal_of w) [
      | Some n ↦ cond (nat_lt n (2 ^ bits_of f)) (Ok n) (Err reason.NotAnElement)
      | None ↦ Err reason.NotAnElement
    ]

abbrev pub index_in : List ℕ → Result ℕ Reason
index_in w = ok_or (decimal_of w) reason.NotANumber

abbrev pub both : Result ℕ Reason → Result ℕ Reason → Result (ℕ × ℕ) Reason
both (Ok x) (Ok y) = Ok (x, y)
both (Ok x) (Err e) = Err e
both (Err e) y = Err e

unfoldable pub one_of : FieldName → List (List ℕ) → Result ℕ Reason
one_of f ws = after (one_word ws) (element_of f)

unfoldable pub two_of : FieldName → FieldName → List (List ℕ) → Result (ℕ × ℕ) Reason
two_of f g ws = after (two_words ws) (λ p. both (element_of f p.0) (element_of g p.1))

abbrev pub index_of : List (List ℕ) → Result ℕ Reason
index_of ws = after (one_word ws) index_in

-- the questions by the names of their operations, with the words after the name
abbrev pub questions : FieldName → List (List ℕ) → List (List ℕ × Result (Question ℕ) Reason)
questions f ws =
    (codes "sum", then (two_of f f ws) (λ p. question.Sum p.0 p.1))
    ∷ (codes "product", then (two_of f f ws) (λ p. question.Product p.0 p.1))
    ∷ (codes "equal", then (two_of f f ws) (λ p. question.Equal p.0 p.1))
    ∷ (codes "inverse", then (one_of f ws) (λ n. question.Inverse n))
    ∷ (codes "solve", then (one_of f ws) (λ n. question.Solve n))
    ∷ (codes "top", then (none_of ws) (λ _. question.Top))
    ∷ (codes "basis", then (index_of ws) (λ n. question.Basis n))
    ∷ (codes "point", then (index_of ws) (λ n. question.Point n)) ∷ []

unfoldable pub question_for : FieldName → List ℕ → List (List ℕ) → Result (Question ℕ) Reason
question_for f o ws = unwrap_or (named (questions f ws) o) (Err reason.UnknownOperation)

-- scale is an operation of the fields above Byte alone
abbrev pub request_for : FieldName → List ℕ → List (List ℕ) → Result Request Reason
request_for f o ws =
    cond (bytes_eq o (codes "scale") && scales_of f) (then (two_of f field.Byte ws) (λ p. request.Scale p.0 p.1))
    (cond (bytes_eq o (codes "bits")) (then (none_of ws) (λ _. request.Bits))
    (then (question_for f o ws) (λ q. request.Question q)))

abbrev pub asked : Option FieldName → List (List ℕ) → Result (FieldName × Request) Reason
asked None ws = Err reason.UnknownField
asked (Some f) [] = Err reason.UnknownOperation
asked (Some f) (o ∷ ws) = then (request_for f o ws) (λ r. (f, r))

-- what the words of a line ask for
abbrev pub requested : List (List ℕ) → Result (FieldName × Request) Reason
requested [] = Err reason.UnknownField
requested (f ∷ ws) = asked (named_field f) ws
