-- A record that a few tests show to be right, after a right record of its disposition. Not every right record passes; `judge_as`
-- decides of the others. Assumes nothing.
use Rattle.std.specs.Prelude.{ℕ, Bool, true, false, ◌&&◌, List, eqb, length}
use Rattle.sequences.specs.Text.{text}
use Rattle.fields.specs.Bytes.{is_equal}
use Rattle.records.specs.Bytes.{bad_byte}
use Rattle.records.specs.Checks.{is_present, is_listed}
use Rattle.records.specs.Field.{field, byte_at}
use Rattle.records.specs.declared.kind.RecordKind.{RecordKind}
use Rattle.records.specs.declared.kind.RecordKind.TheVariants.{Im, R14, R16, R20, R30, R40, R50, R59, R51, R70, Ef}

-- enough for the checks after the number: text at 11-34 is text at 11-40 and 11-65 too
abbrev pub quick_checks : RecordKind → List ℕ → Bool
quick_checks Im rec = false
quick_checks R14 rec = false
quick_checks R16 rec = false
quick_checks R20 rec = is_present (field 11 34 rec)
quick_checks R30 rec = is_present (field 11 34 rec)
quick_checks R40 rec = true
quick_checks R50 rec = true
quick_checks R59 rec = is_present (field 11 34 rec)
quick_checks R51 rec = true
quick_checks R70 rec = is_listed (byte_at 94 rec) (text " PB")
quick_checks Ef rec = false

-- and its bytes are printable, and 4-10 are the number that is due
abbrev pub passes_quick_test : RecordKind → List ℕ → List ℕ → Bool
passes_quick_test k number rec = eqb (length rec) 120 && (quick_checks k rec && (is_equal (field 4 10 rec) number && eqb (bad_byte rec) 0))
