use Rattle.std.proofs.Common.{sym, subst}
use Rattle.std.specs.Str.{IsUtf8}
use Rattle.std.proofs.lemmas.Str.{IsUtf8-from_ascii}
use Rattle.fields.proofs.Texts.{IsAscii-low_digits}
use Rattle.fields.proofs.text.HexadecimalDisplay.fmt.Goals as goal

pub unreachable-requires : goal.unreachable-requires
unreachable-requires g c = c.in_default.ensures.cases.0 (subst IsUtf8 (sym c.write_digits.ensures) (IsUtf8-from_ascii _ (IsAscii-low_digits _ _)))
