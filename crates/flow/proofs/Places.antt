-- A record at its place in the flow: which law finds what. Assumes nothing.
use Prim.Native.Nat.{ℕ, min}
use mathlib.Core.Bool.{true}
use mathlib.Core.List.{List}
use mathlib.Core.Path.{◌≡◌, ◌∙◌}
use native.Mathlib.Omega.{arith}
use lib.ListN.{length}
use borrow.Author.Tests.{eq-eqb, ne_eqb}
use Rattle.records.specs.Bytes.{bad_byte}
use Rattle.records.specs.Context.{Header, context}
use Rattle.records.specs.RecordVerdict.{refused}
use Rattle.records.specs.Judge.{judge_as}
use Rattle.records.specs.Kinds.{has_type}
use Rattle.records.specs.Limits.{count_limit, cents_limit, saturated_counts}
use Rattle.records.specs.declared.judged.Counts.{Counts}
use Rattle.records.specs.declared.kind.RecordKind.{RecordKind}
use Rattle.flow.specs.Order.{In, permitted, among}
use Rattle.flow.specs.Walking.{dispositions_with, judge_typed, judge_record, counts_at}
use Rattle.flow.specs.declared.walk.Walk.{Walk}
use Rattle.flow.proofs.Among.{HasNone, among_tested, none_missing}
use Rattle.flow.proofs.Exact.{counts_alike}
use Rattle.std.specs.Prelude.{Option, Some, None}

-- the counts handed to the rules: that of the dispositions may have stopped
abbrev pub handed : Walk → ℕ → RecordKind → Counts
handed w n k = record { dispositions = min (dispositions_with w k) count_limit; cents = w.cents; records = n }

module _ (header : Header) (w : Walk) (company : List ℕ) (n : ℕ) (rec : List ℕ) where
  -- no record is judged otherwise for it
  pub handed_alike : (k : RecordKind) → judge_as k (context header company w.kind (counts_at w n k)) rec ≡ judge_as k (context header company w.kind (handed w n k)) rec
  handed_alike k =
      let count : min (dispositions_with w k) count_limit ≡ min (min (dispositions_with w k) count_limit) count_limit = omega arith in
      let alike : saturated_counts (counts_at w n k) ≡ saturated_counts (handed w n k) = λ i. record { dispositions = count i; cents = min w.cents cents_limit; records = n } in
      counts_alike header company w.kind k (counts_at w n k) (handed w n k) rec alike

  pub other_length : (length rec ≡ 120 → ⊥) → judge_record header w company n rec ≡ refused 1 0
  unfolding judge_record
  other_length h = rw (ne_eqb (length rec) 120 h)

  module _ (whole : length rec ≡ 120) where
    pub bad_byte_lem : (bad_byte rec ≡ 0 → ⊥) → judge_record header w company n rec ≡ refused 2 (bad_byte rec)
    unfolding judge_record
    bad_byte_lem h = rw (eq-eqb (length rec) 120 whole, ne_eqb (bad_byte rec) 0 h)

    by_type : (x : Option RecordKind) → bad_byte rec ≡ 0 → among (permitted w.place.due) rec ≡ x → judge_record header w company n rec ≡ judge_typed header w company n rec x
    unfolding judge_record
    by_type x printable e = rw (eq-eqb (length rec) 120 whole, eq-eqb (bad_byte rec) 0 printable, e)

    pub no_type : bad_byte rec ≡ 0 → among (permitted w.place.due) rec ≡ None → judge_record header w company n rec ≡ refused 3 2
    unfolding judge_typed
    no_type printable e = by_type None printable e

    pub of_type : (k : RecordKind) → bad_byte rec ≡ 0 → among (permitted w.place.due) rec ≡ Some k → judge_record header w company n rec ≡ judge_as k (context header company w.kind (handed w n k)) rec
    unfolding judge_typed
    of_type k printable e = by_type (Some k) printable e ∙ handed_alike k

    -- a record of a permitted type is judged by the rules of its kind
    pub judged_of : (k : RecordKind) → bad_byte rec ≡ 0 → In k (permitted w.place.due) → has_type k rec ≡ true → judge_record header w company n rec ≡ judge_as k (context header company w.kind (counts_at w n k)) rec
    unfolding judge_typed
    judged_of k printable i t = by_type (Some k) printable (among_tested (permitted w.place.due) rec k i t)

    -- one of none of them by 3
    pub judged_none : bad_byte rec ≡ 0 → HasNone (permitted w.place.due) rec → judge_record header w company n rec ≡ refused 3 2
    judged_none printable none = no_type printable (none_missing (permitted w.place.due) rec none)
