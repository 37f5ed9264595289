-- What holds of each kind of item: the header's of each kind of flow, and the nine others. Assumes nothing.
use Prim.Native.Nat.{ℕ}
use mathlib.Core.Bool.{Bool, true, false, cond, true≢false}
use mathlib.Core.List.{List, [], ◌∷◌}
use mathlib.Core.Path.{◌≡◌, refl, sym, ◌∙◌, ap}
use lib.Dec.{eqb}
use borrow.Author.Tests.{eqb-true}
use Rattle.sequences.specs.All.{All}
use Rattle.records.specs.Kinds.{heads, opens, closes}
use Rattle.list.specs.Table.{rows, letter, record_of, first_row, row_of, with_row}
use Rattle.records.specs.declared.flow_kind.FlowKind.{FlowKind}
use Rattle.records.specs.declared.flow_kind.FlowKind.TheVariants.{Requests, Recalls}
use Rattle.list.specs.Encode.{kind_meant}
use Rattle.list.specs.declared.table.ItemKind.{ItemKind}
use Rattle.list.specs.declared.table.ItemKind.TheVariants.{H, D, S, C, B, A, R, X, K, Z}
use Rattle.std.specs.Prelude.{Option, Some, None}

pub each_item : (P : ItemKind → Type 0) → All P rows → (k : ItemKind) → P k
each_item P all (H Recalls) = all.0
each_item P all (H Requests) = all.1.0
each_item P all D = all.1.1.0
each_item P all S = all.1.1.1.0
each_item P all C = all.1.1.1.1.0
each_item P all B = all.1.1.1.1.1.0
each_item P all A = all.1.1.1.1.1.1.0
each_item P all R = all.1.1.1.1.1.1.1.0
each_item P all X = all.1.1.1.1.1.1.1.1.0
each_item P all K = all.1.1.1.1.1.1.1.1.1.0
each_item P all Z = all.1.1.1.1.1.1.1.1.1.1.0

-- a row is of one kind, or missing
pub of_same : {k l : ItemKind} → Some k ≡ Some l → k ≡ l
of_same {k} e = ap (λ (r : Option ItemKind). with_row r (λ (m : ItemKind). m) k) e

pub not_missing : {k : ItemKind} → Some k ≡ None → ⊥
not_missing e = true≢false (ap (λ (r : Option ItemKind). with_row r (λ (m : ItemKind). true) false) e)

-- the first row that passes a test does pass
pub first_passes : (p : ItemKind → Bool) (ks : List ItemKind) (k : ItemKind) → first_row p ks ≡ Some k → p k ≡ true
unfolding first_row
first_passes p [] k e = absurd (not_missing (sym e))
first_passes p (l ∷ ks) k e = by (p l) refl e (first_passes p ks k)
  where
    by : (b : Bool) → p l ≡ b → cond b (Some l) (first_row p ks) ≡ Some k → (first_row p ks ≡ Some k → p k ≡ true) → p k ≡ true
    by true t e rest = ap p (sym (of_same e)) ∙ t
    by false t e rest = rest e

-- a kind byte and its kind tell each other
pub row-letter : (b : ℕ) (k : ItemKind) → row_of b ≡ Some k → letter k ≡ b
row-letter b k e = sym (eqb-true b (letter k) (first_passes (λ (l : ItemKind). eqb b (letter l)) rows k e))

pub letter-row : (k : ItemKind) → row_of (letter k) ≡ Some k
unfolding first_row
letter-row = each_item (λ (k : ItemKind). row_of (letter k) ≡ Some k) (refl, (refl, (refl, (refl, (refl, (refl, (refl, (refl, (refl, (refl, (refl, tt)))))))))))

-- so no two kinds have one letter
pub letters-differ : (k l : ItemKind) → letter k ≡ letter l → k ≡ l
letters-differ k l e = of_same (sym (letter-row k) ∙ ap row_of e ∙ letter-row l)

-- the one kind that opens a disposition
pub opens_d : (k : ItemKind) → opens (record_of k) ≡ true → k ≡ D
opens_d = each_item (λ (k : ItemKind). opens (record_of k) ≡ true → k ≡ D) (λ e. absurd (true≢false (sym e)), (λ e. absurd (true≢false (sym e)), (λ e. refl, (λ e. absurd (true≢false (sym e)), (λ e. absurd (true≢false (sym e)), (λ e. absurd (true≢false (sym e)), (λ e. absurd (true≢false (sym e)), (λ e. absurd (true≢false (sym e)), (λ e. absurd (true≢false (sym e)), (λ e. absurd (true≢false (sym e)), (λ e. absurd (true≢false (sym e)), tt)))))))))))

-- no record of an item closes a flow
pub item_open : (k : ItemKind) → closes (record_of k) ≡ false
item_open = each_item (λ (k : ItemKind). closes (record_of k) ≡ false) (refl, (refl, (refl, (refl, (refl, (refl, (refl, (refl, (refl, (refl, (refl, tt)))))))))))

-- the items that head a flow are those of headers, which tell its kind
pub heads_h : (q : FlowKind) (k : ItemKind) → heads (record_of k) ≡ true → k ≡ H (kind_meant q k)
heads_h q = each_item (λ (k : ItemKind). heads (record_of k) ≡ true → k ≡ H (kind_meant q k)) (λ e. refl, (λ e. refl, (λ e. absurd (true≢false (sym e)), (λ e. absurd (true≢false (sym e)), (λ e. absurd (true≢false (sym e)), (λ e. absurd (true≢false (sym e)), (λ e. absurd (true≢false (sym e)), (λ e. absurd (true≢false (sym e)), (λ e. absurd (true≢false (sym e)), (λ e. absurd (true≢false (sym e)), (λ e. absurd (true≢false (sym e)), tt)))))))))))

-- after any other the kind that was meant stays
pub kind_stays : (q : FlowKind) (k : ItemKind) → heads (record_of k) ≡ false → kind_meant q k ≡ q
kind_stays q = each_item (λ (k : ItemKind). heads (record_of k) ≡ false → kind_meant q k ≡ q) (λ e. absurd (true≢false e), (λ e. absurd (true≢false e), (λ e. refl, (λ e. refl, (λ e. refl, (λ e. refl, (λ e. refl, (λ e. refl, (λ e. refl, (λ e. refl, (λ e. refl, tt)))))))))))
