-- The positions that are written in a record, by the kind of its item: they cover those that the table of checks names. Assumes nothing.
use Prim.Native.Nat.{ℕ, suc, ◌+◌, ◌-◌, ◌<◌}
use mathlib.Core.Bool.{Bool, true, false, not, ◌&&◌, ◌||◌, and-eq-true_iff, true≢false}
use mathlib.Core.List.{List, [], ◌∷◌, ◌++◌, map}
use mathlib.Core.Logic.{inl, inr}
use mathlib.Core.Path.{◌≡◌, refl, sym, ◌∙◌}
use native.Mathlib.Omega.{arith}
use lib.Dec.{leb}
use lib.ListN.{length, drop, get_or}
use lib.Seq.{ext_get_or}
use borrow.Author.Tests.{leb-true, le-leb}
use Rattle.sequences.specs.All.{All}
use Rattle.sequences.specs.Sum.{sum}
use Rattle.sequences.proofs.Below.{all_below, below}
use Rattle.sequences.proofs.Part.{part_length, part_get_d}
use Rattle.fields.proofs.Decimal.{written-length}
use Rattle.fields.specs.Digits.{digits}
use Rattle.records.specs.Checked.{checked, Alike}
use Rattle.records.specs.Field.{Span, ◌to◌, width, field}
use Rattle.records.specs.Kinds.{Role, Heads, Opens, GoesOn, Closes, role, by_role}
use Rattle.records.specs.declared.flow_kind.FlowKind.{FlowKind}
use Rattle.records.specs.declared.kind.RecordKind.{RecordKind}
use Rattle.records.proofs.EachKind.{each-kind}
use Rattle.list.specs.Encode.{Placed, place, supplied, body_placed}
use Rattle.list.specs.Table.{record_of, carried}
use Rattle.list.specs.declared.table.ItemKind.{ItemKind}
use Rattle.list.proofs.Carried.{split_first}
use Rattle.list.proofs.ItemKinds.{each_item}
use Rattle.list.proofs.OneRecord.{causale-length, sign-length}
use Rattle.list.proofs.Placing.{Fits, Covered}
use Rattle.list.proofs.TableSpans.{Within, are_within, all-within}

-- index i, counted from 0, lies in one of the spans
abbrev inside : Span → ℕ → Bool
inside (a to e) i = leb (a - 1) i && leb (suc i) e

abbrev pub in_spans : List Span → ℕ → Bool
in_spans [] i = false
in_spans (s ∷ ss) i = inside s i || in_spans ss i

-- bytes placed at spans
abbrev pub Spanned : List Placed → List Span → Type 0
Spanned [] [] = Unit
Spanned [] (s ∷ ss) = ⊥
Spanned (p ∷ ps) [] = ⊥
Spanned (place p bs ∷ ps) ((a to e) ∷ ss) = ((p ≡ a) × (length bs ≡ width (a to e))) × Spanned ps ss

pub spanned_append : (ps qs : List Placed) (ss ts : List Span) → Spanned ps ss → Spanned qs ts → Spanned (ps ++ qs) (ss ++ ts)
spanned_append [] qs [] ts p q = q
spanned_append [] qs (s ∷ ss) ts p q = absurd p
spanned_append (place p bs ∷ ps) qs [] ts s q = absurd s
spanned_append (place p bs ∷ ps) qs ((a to e) ∷ ss) ts s q = (s.0, spanned_append ps qs ss ts s.1 q)

-- cover the positions of the spans
pub spanned_covers : (ps : List Placed) (ss : List Span) (i : ℕ) → Spanned ps ss → in_spans ss i ≡ true → Covered i ps
spanned_covers [] [] i s t = absurd (true≢false (sym t))
spanned_covers [] (x ∷ ss) i s t = absurd s
spanned_covers (place p bs ∷ ps) [] i s t = absurd s
spanned_covers (place p bs ∷ ps) ((a to e) ∷ ss) i s t = by (inside (a to e) i) refl t (spanned_covers ps ss i s.1)
  where
    by : (b : Bool) → inside (a to e) i ≡ b → (b || in_spans ss i) ≡ true → (in_spans ss i ≡ true → Covered i ps) → Covered i (place p bs ∷ ps)
    by true h t rest =
        let both = (and-eq-true_iff (leb (a - 1) i) (leb (suc i) e)).0 h in
        let from = leb-true (a - 1) i both.0 in
        let upto = leb-true (suc i) e both.1 in
        let first = s.0.0 in
        let size = s.0.1 in
        inl (omega arith, omega arith)
    by false h t rest = inr (rest t)

-- and lie within the record where the spans do
pub spanned_fits : (ps : List Placed) (ss : List Span) → Spanned ps ss → All Within ss → All Fits ps
spanned_fits [] ss s within = tt
spanned_fits (place p bs ∷ ps) [] s within = absurd s
spanned_fits (place p bs ∷ ps) ((a to e) ∷ ss) s within =
    let first = s.0.0 in
    let size = s.0.1 in
    let starts = within.0.starts in
    let ordered = within.0.ordered in
    let ends = within.0.ends in
    (omega arith, spanned_fits ps ss s.1 within.1)

pub body_spanned : (ss : List Span) (body : List ℕ) → sum (map width ss) ≡ length body → Spanned (body_placed ss body) ss
unfolding body_placed
body_spanned [] body e = tt
body_spanned ((a to f) ∷ ss) body e =
    let sizes = split_first (a to f) ss body e in
    ((refl, sizes.0), body_spanned ss (drop (width (a to f)) body) sizes.1)

-- what is supplied, by what the record does in a flow
abbrev supplied_spans : Role → List Span
supplied_spans Heads = (114 to 114) ∷ []
supplied_spans Opens = (4 to 10) ∷ (29 to 33) ∷ (47 to 47) ∷ (48 to 52) ∷ (120 to 120) ∷ []
supplied_spans GoesOn = (4 to 10) ∷ []
supplied_spans Closes = []

pub supplied_spanned : (q : FlowKind) (n : ℕ) (abi : List ℕ) (r : Role) → (by_role r false true false false ≡ true → length abi ≡ 5) → Spanned (supplied r q (digits 7 n) abi) (supplied_spans r)
supplied_spanned q n abi Heads five = ((refl, refl), tt)
supplied_spanned q n abi Opens five = ((refl, written-length 7 n), ((refl, causale-length q), ((refl, sign-length q), ((refl, five refl), ((refl, refl), tt)))))
supplied_spanned q n abi GoesOn five = ((refl, written-length 7 n), tt)
supplied_spanned q n abi Closes five = tt

-- all that is written in the record of an item
abbrev pub written_spans : ItemKind → List Span
written_spans k = (2 to 3) ∷ (supplied_spans (role (record_of k)) ++ carried k)

pub written-within : (k : ItemKind) → All Within (written_spans k)
written-within k = all-within (written_spans k) (each_item (λ (k : ItemKind). are_within (written_spans k) ≡ true) (refl, (refl, (refl, (refl, (refl, (refl, (refl, (refl, (refl, (refl, (refl, tt))))))))))) k)

-- covers what is checked
abbrev both_or_none : ItemKind → ℕ → Bool
both_or_none k i = not (in_spans (checked (record_of k)) i) || in_spans (written_spans k) i

checked_covered : (k : ItemKind) → all_below 120 (both_or_none k) ≡ true
checked_covered = each_item (λ (k : ItemKind). all_below 120 (both_or_none k) ≡ true) (refl, (refl, (refl, (refl, (refl, (refl, (refl, (refl, (refl, (refl, (refl, tt)))))))))))

pub checked-written : (k : ItemKind) (i : ℕ) → i < 120 → in_spans (checked (record_of k)) i ≡ true → in_spans (written_spans k) i ≡ true
checked-written k i h t = by (in_spans (checked (record_of k)) i) t (below 120 (both_or_none k) (checked_covered k) i h)
  where
    by : (b : Bool) → b ≡ true → (not b || in_spans (written_spans k) i) ≡ true → in_spans (written_spans k) i ≡ true
    by true e u = u
    by false e u = absurd (true≢false (sym e))

-- the positions that are checked lie within the record
pub checked-within : (k : RecordKind) → All Within (checked k)
checked-within k = all-within (checked k) (each-kind (λ (k : RecordKind). are_within (checked k) ≡ true) (refl, (refl, (refl, (refl, (refl, (refl, (refl, (refl, (refl, (refl, (refl, tt))))))))))) k)

-- records that have the same bytes at the positions of spans are alike there
pub alike_by_bytes : (ss : List Span) (rec other : List ℕ) → length rec ≡ 120 → length other ≡ 120 → All Within ss → ((i : ℕ) → i < 120 → in_spans ss i ≡ true → get_or rec i 0 ≡ get_or other i 0) → Alike ss rec other
alike_by_bytes [] rec other whole whole' within same = tt
alike_by_bytes ((a to e) ∷ ss) rec other whole whole' within same =
    (ext_get_or 0 (field a e rec) (field a e other) (size rec whole ∙ sym (size other whole')) at_index, alike_by_bytes ss rec other whole whole' within.1 (λ i h t. same i h (later (inside (a to e) i) (in_spans ss i) t)))
  where
    later : (b c : Bool) → c ≡ true → (b || c) ≡ true
    later true c t = refl
    later false c t = t

    size : (r : List ℕ) → length r ≡ 120 → length (field a e r) ≡ width (a to e)
    size r w =
        let starts = within.0.starts in
        let ordered = within.0.ordered in
        let ends = within.0.ends in
        part_length (a - 1) (width (a to e)) r (omega arith)

    at_index : (j : ℕ) → j < length (field a e rec) → get_or (field a e rec) j 0 ≡ get_or (field a e other) j 0
    at_index j h =
        let starts = within.0.starts in
        let ordered = within.0.ordered in
        let ends = within.0.ends in
        let small : j < width (a to e) = omega (arith, size rec whole) in
        let here : inside (a to e) (a - 1 + j) ≡ true = rw (le-leb (a - 1) (a - 1 + j) (omega arith), le-leb (suc (a - 1 + j)) e (omega arith)) in
        let first : (b c : Bool) → b ≡ true → (b || c) ≡ true = λ b c t. rw t in
        part_get_d (a - 1) (width (a to e)) rec j small ∙ same (a - 1 + j) (omega arith) (first (inside (a to e) (a - 1 + j)) (in_spans ss (a - 1 + j)) here) ∙ sym (part_get_d (a - 1) (width (a to e)) other j small)
