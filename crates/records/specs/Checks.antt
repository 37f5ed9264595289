-- Document 01's table of checks, with document 02's E1, the kinds of flow, E4, one company code, and E5, no amount of zero: for each record
-- type one list, by rising position, of what must hold, the number of the refusal and the field's first position. For one field 5 stands
-- before what compares its digits, and 6 before 22. Assumes nothing.
use Rattle.std.specs.Prelude.{ℕ, Bool, not, ◌||◌, List, [], ◌∷◌, ◌++◌, eqb}
use Rattle.std.specs.List.{list_any}
use Rattle.sequences.specs.Text.{text}
use Rattle.fields.specs.Bytes.{is_blank, is_equal}
use Rattle.fields.specs.Calendar.{is_day}
use Rattle.fields.specs.Date.{day_of}
use Rattle.fields.specs.Digits.{is_digits, number, is_above_zero}
use Rattle.records.specs.Company.{company_in, agrees}
use Rattle.records.specs.Constants.{currency}
use Rattle.records.specs.Context.{Header, Context}
use Rattle.records.specs.Field.{field, byte_at}
use Rattle.records.specs.FlowKinds.{sign, total_at, kind_in, is_known, is_of, or_requests}
use Rattle.records.specs.RecordVerdict.{Check, check}
use Rattle.records.specs.declared.flow_kind.FlowKind.{FlowKind}
use Rattle.records.specs.declared.judged.Counts.{Counts}
use Rattle.records.specs.declared.kind.RecordKind.{RecordKind}
use Rattle.records.specs.declared.kind.RecordKind.TheVariants.{Im, R14, R16, R20, R30, R40, R50, R59, R51, R70, Ef}
use Rattle.std.specs.Prelude.{Option}

-- "present": not all blanks
abbrev pub is_present : List ℕ → Bool
is_present bs = not (is_blank bs)

-- the six digits name a day of the calendar
abbrev pub is_date : List ℕ → Bool
is_date bs = is_day (day_of bs).day (day_of bs).month (day_of bs).year

-- one of the listed bytes
abbrev pub is_listed : ℕ → List ℕ → Bool
is_listed b xs = list_any (λ (x : ℕ). eqb b x) xs

-- row IM. 105-111: all seven blank, or else each part by itself
abbrev pub header_checks : List ℕ → List Check
header_checks rec =
    check (is_present (field 4 8 rec)) 7 4
    ∷ check (is_digits (field 9 13 rec)) 5 9
    ∷ check (is_digits (field 14 19 rec)) 5 14
    ∷ check (is_date (field 14 19 rec)) 8 14
    ∷ check (is_present (field 20 39 rec)) 7 20
    ∷ check (is_blank (field 105 111 rec) || is_equal (field 105 105 rec) (text "1")) 6 105
    ∷ check (is_blank (field 105 111 rec) || is_equal (field 106 106 rec) (text "$")) 6 106
    ∷ check (is_blank (field 105 111 rec) || is_digits (field 107 111 rec)) 5 107
    ∷ check (is_equal (field 114 114 rec) currency) 6 114
    ∷ []

-- 4-10 of every record of a disposition: its number
abbrev pub number_checks : ℕ → List ℕ → List Check
number_checks n rec =
    check (is_digits (field 4 10 rec)) 5 4
    ∷ check (eqb (number (field 4 10 rec)) n) 9 4
    ∷ []

-- 34-46 of row 14, the amount. `AmountRows` holds what the table says at 34 against the rule of the field alone
abbrev pub amount_checks : List ℕ → List Check
amount_checks rec =
    check (is_digits (field 34 46 rec)) 5 34
    ∷ check (is_above_zero (number (field 34 46 rec))) 25 34
    ∷ []

-- row 14, after its number, up to 47: what is to be paid. 29-33: the causale of a kind, and where the flow's kind is known already, of that
-- one; 47: that kind's sign
abbrev pub payment_checks : Option FlowKind → List ℕ → List Check
payment_checks kind rec =
    check (is_digits (field 23 28 rec)) 5 23
    ∷ check (is_date (field 23 28 rec)) 8 23
    ∷ check (is_known (kind_in rec)) 6 29
    ∷ check (is_of kind (field 29 33 rec)) 22 29
    ∷ (amount_checks rec
    ++ (check (is_equal (field 47 47 rec) (sign (or_requests (kind_in rec)))) 6 47 ∷ []))

-- and from 48 on: the codes
abbrev pub code_checks : List ℕ → List ℕ → List ℕ → List Check
code_checks abi company rec =
    check (is_digits (field 48 52 rec)) 5 48
    ∷ check (is_equal (field 48 52 rec) abi) 10 48
    ∷ check (is_blank (field 53 57 rec) || is_digits (field 53 57 rec)) 5 53
    ∷ check (agrees company (company_in rec)) 11 92
    ∷ check (is_listed (byte_at 97 rec) (text " 1234569")) 6 97
    ∷ check (is_equal (field 120 120 rec) currency) 6 120
    ∷ []

abbrev pub disposition_checks : List ℕ → List ℕ → Option FlowKind → List ℕ → List Check
disposition_checks abi company kind rec = payment_checks kind rec ++ code_checks abi company rec

-- row 16, after its number
abbrev pub coordinates_checks : List ℕ → List ℕ → List Check
coordinates_checks abi rec =
    check (is_equal (field 11 12 rec) (text "IT") || is_equal (field 11 12 rec) (text "SM")) 6 11
    ∷ check (is_digits (field 13 14 rec)) 5 13
    ∷ check (is_present (field 15 15 rec)) 7 15
    ∷ check (is_digits (field 16 20 rec)) 5 16
    ∷ check (is_equal (field 16 20 rec) abi) 10 16
    ∷ check (is_digits (field 21 25 rec)) 5 21
    ∷ check (is_above_zero (number (field 21 25 rec))) 6 21
    ∷ check (is_present (field 26 37 rec)) 7 26
    ∷ []

-- row EF: the copies of the header are compared and nothing else, and the counts are those of the flow so far; the sum stands at the place
-- of the flow's kind, and zeros at the other
abbrev pub trailer_checks : Header → FlowKind → Counts → List ℕ → List Check
trailer_checks header kind counts rec =
    check (is_equal (field 4 8 rec) header.mittente) 10 4
    ∷ check (is_equal (field 9 13 rec) header.abi) 10 9
    ∷ check (is_equal (field 14 19 rec) header.date) 10 14
    ∷ check (is_equal (field 20 39 rec) header.name) 10 20
    ∷ check (is_digits (field 46 52 rec)) 5 46
    ∷ check (eqb (number (field 46 52 rec)) counts.dispositions) 12 46
    ∷ check (is_digits (field 53 67 rec)) 5 53
    ∷ check (eqb (number (field 53 67 rec)) (total_at kind 53 counts.cents)) 13 53
    ∷ check (is_digits (field 68 82 rec)) 5 68
    ∷ check (eqb (number (field 68 82 rec)) (total_at kind 68 counts.cents)) 13 68
    ∷ check (is_digits (field 83 89 rec)) 5 83
    ∷ check (eqb (number (field 83 89 rec)) counts.records) 14 83
    ∷ check (is_equal (field 114 114 rec) header.currency) 10 114
    ∷ []

-- the table: each record type and its checks. 40, 50 and 51 have only their number to keep
unfoldable pub checks : RecordKind → Context → List ℕ → List Check
checks Im ctx rec = header_checks rec
checks R14 ctx rec = number_checks ctx.counts.dispositions rec ++ disposition_checks ctx.header.abi ctx.company ctx.kind rec
checks R16 ctx rec = number_checks ctx.counts.dispositions rec ++ coordinates_checks ctx.header.abi rec
checks R20 ctx rec = number_checks ctx.counts.dispositions rec ++ (check (is_present (field 11 34 rec)) 7 11 ∷ [])
checks R30 ctx rec = number_checks ctx.counts.dispositions rec ++ (check (is_present (field 11 40 rec)) 7 11 ∷ [])
checks R40 ctx rec = number_checks ctx.counts.dispositions rec
checks R50 ctx rec = number_checks ctx.counts.dispositions rec
checks R59 ctx rec = number_checks ctx.counts.dispositions rec ++ (check (is_present (field 11 65 rec)) 7 11 ∷ [])
checks R51 ctx rec = number_checks ctx.counts.dispositions rec
checks R70 ctx rec = number_checks ctx.counts.dispositions rec ++ (check (is_listed (byte_at 94 rec) (text " PB")) 6 94 ∷ [])
checks Ef ctx rec = trailer_checks ctx.header (or_requests ctx.kind) ctx.counts rec
