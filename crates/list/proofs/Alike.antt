-- Records that carry the same: the spans are compared one by one, and two records whose kinds are known carry the same exactly where their
-- items are the same. Assumes nothing.
use Prim.Native.Nat.{ℕ}
use mathlib.Core.Bool.{Bool, true, false, ◌&&◌, and-eq-true_iff, false≢true}
use mathlib.Core.List.{List, [], ◌∷◌, ◌++◌, flatten}
use mathlib.Core.Logic.{◌↔◌}
use mathlib.Core.Path.{◌≡◌, refl, sym, ◌∙◌, ap, ap₂, subst}
use native.Mathlib.Nat.{suc_inj, suc-ne-zero}
use lib.Dec.{eqb}
use lib.ListN.{length, drop, get_or}
use borrow.Author.Tests.{eqb-true, eq-eqb}
use Rattle.sequences.specs.All.{All}
use Rattle.fields.specs.Bytes.{is_equal}
use Rattle.fields.proofs.Bytes.{is_equal_true, is_equal_refl}
use Rattle.records.specs.Field.{Span, ◌to◌, field_at}
use Rattle.records.specs.Kinds.{has_type, closes}
use Rattle.records.specs.declared.flow_kind.FlowKind.{FlowKind}
use Rattle.records.specs.declared.kind.RecordKind.{RecordKind}
use Rattle.records.proofs.ByKind.{type_tested, one_type}
use Rattle.grammar.specs.Grammar.{Typed}
use Rattle.grammar.specs.Rules.{Formed}
use Rattle.list.specs.Items.{Item, item_bytes}
use Rattle.list.specs.ReadBack.{gather}
use Rattle.list.specs.Same.{is_same, are_same, is_alike, carries_same}
use Rattle.list.specs.Table.{letter, record_of, carried}
use Rattle.list.specs.declared.table.ItemKind.{ItemKind}
use Rattle.list.proofs.Carried.{span_length}
use Rattle.list.proofs.ItemKinds.{letters-differ}
use Rattle.list.proofs.RecordsAgain.{kind_for, record_for, own_item}
use Rattle.list.proofs.Rewritten.{own_row}
use Rattle.list.proofs.TableSpans.{Within, carried-within}

-- bytes one after the other are the same where their parts are
is_equal-append : (xs ys us vs : List ℕ) → length xs ≡ length ys → is_equal (xs ++ us) (ys ++ vs) ≡ (is_equal xs ys && is_equal us vs)
unfolding is_equal
is_equal-append [] [] us vs size = refl
is_equal-append [] (y ∷ ys) us vs size = absurd (suc-ne-zero _ (sym size))
is_equal-append (x ∷ xs) [] us vs size = absurd (suc-ne-zero _ size)
is_equal-append (x ∷ xs) (y ∷ ys) us vs size = ap (λ (b : Bool). eqb x y && b) (is_equal-append xs ys us vs (suc_inj size)) ∙ sym (joined (eqb x y))
  where
    joined : (b : Bool) → ((b && is_equal xs ys) && is_equal us vs) ≡ (b && (is_equal xs ys && is_equal us vs))
    joined true = refl
    joined false = refl

-- the bytes at spans are compared one by one or all at once
gather_alike : (ss : List Span) (rec other : List ℕ) → All Within ss → length rec ≡ 120 → length other ≡ 120 → is_alike ss rec other ≡ is_equal (gather ss rec) (gather ss other)
unfolding is_alike is_equal flatten
gather_alike [] rec other within whole whole' = refl
gather_alike ((a to e) ∷ ss) rec other within whole whole' =
    let size : length (field_at (a to e) rec) ≡ length (field_at (a to e) other) = span_length a e rec within.0 whole ∙ sym (span_length a e other within.0 whole') in
    ap (λ (b : Bool). is_equal (field_at (a to e) rec) (field_at (a to e) other) && b) (gather_alike ss rec other within.1 whole whole')
    ∙ sym (is_equal-append (field_at (a to e) rec) (field_at (a to e) other) (gather ss rec) (gather ss other) size)

-- a test that holds exactly where another does answers as it does
tests_agree : (a b : Bool) → (a ≡ true → b ≡ true) → (b ≡ true → a ≡ true) → a ≡ b
tests_agree true b there back = sym (there refl)
tests_agree false true there back = back refl
tests_agree false false there back = refl

-- two records whose kinds are known, none of them EF
module _ (q : FlowKind) (r s : Typed) (formed : Formed r.kind r.bytes) (formed' : Formed s.kind s.bytes) (not_last : closes r.kind ≡ false) (not-last' : closes s.kind ≡ false) where
  abbrev kind : ItemKind
  kind = kind_for q r.kind

  abbrev kind' : ItemKind
  kind' = kind_for q s.kind

  -- have one type exactly where their items have one letter
  types_letters : has_type (record_of kind) s.bytes ≡ eqb (letter kind) (letter kind')
  types_letters =
      let typed : has_type s.kind s.bytes ≡ true = type_tested s.kind s.bytes formed'.type in
      let own : record_of kind ≡ r.kind = record_for q r.kind not_last in
      let own' : record_of kind' ≡ s.kind = record_for q s.kind not-last' in
      tests_agree (has_type (record_of kind) s.bytes) (eqb (letter kind) (letter kind'))
      (λ t. eq-eqb _ _ (ap (λ (k : RecordKind). letter (kind_for q k)) (sym own ∙ one_type (record_of kind) s.kind s.bytes t typed)))
      (λ t. subst (λ (k : RecordKind). has_type k s.bytes ≡ true) (sym (ap record_of (letters-differ kind kind' (eqb-true _ _ t)) ∙ own')) typed)

  -- and carry the same exactly where their items are the same
  pub carried_same : carries_same q r.bytes s.bytes ≡ is_same (own_item q r) (own_item q s)
  unfolding is_equal
  carried_same = rw (own_row q r formed not_last) (by (eqb (letter kind) (letter kind')) refl)
    where
      by :
          (b : Bool) → eqb (letter kind) (letter kind') ≡ b
          → (has_type (record_of kind) s.bytes && is_alike (carried kind) r.bytes s.bytes) ≡ (eqb (letter kind) (letter kind') && is_equal (gather (carried kind) r.bytes) (gather (carried kind') s.bytes))
      by true e =
          let same : kind ≡ kind' = letters-differ kind kind' (eqb-true _ _ e) in
          rw (types_letters, e)
          (gather_alike (carried kind) r.bytes s.bytes (carried-within kind) formed.whole formed'.whole ∙ ap (λ (k : ItemKind). is_equal (gather (carried kind) r.bytes) (gather (carried k) s.bytes)) same)
      by false e = rw (types_letters, e)

-- items are the same exactly where they are equal
item-same : (x y : Item) → is_same x y ≡ true → x ≡ y
item-same x y t =
    let bytes : item_bytes x ≡ item_bytes y = is_equal_true (item_bytes x) (item_bytes y) t in
    let kinds = letters-differ x.kind y.kind (ap (λ (l : List ℕ). get_or l 0 0) bytes) in
    λ i. record { kind = kinds i; body = ap (drop 1) bytes i }

same-equal : (xs ys : List Item) → are_same xs ys ≡ true → xs ≡ ys
unfolding are_same
same-equal [] [] t = refl
same-equal [] (y ∷ ys) t = absurd (false≢true t)
same-equal (x ∷ xs) [] t = absurd (false≢true t)
same-equal (x ∷ xs) (y ∷ ys) t =
    let both = (and-eq-true_iff (is_same x y) (are_same xs ys)).0 t in
    ap₂ ◌∷◌ (item-same x y both.0) (same-equal xs ys both.1)

equal-same : (xs : List Item) → are_same xs xs ≡ true
unfolding are_same
equal-same [] = refl
equal-same (x ∷ xs) = rw (is_equal_refl (item_bytes x), equal-same xs)

pub same_decides : (xs ys : List Item) → (are_same xs ys ≡ true) ↔ (xs ≡ ys)
same_decides xs ys = (same-equal xs ys, λ e. subst (λ (l : List Item). are_same xs l ≡ true) e (equal-same xs))

-- and not where there are more of one
pub same_length : (xs ys : List Item) → ¬ (length xs ≡ length ys) → are_same xs ys ≡ false
same_length xs ys apart = by (are_same xs ys) refl
  where
    by : (b : Bool) → are_same xs ys ≡ b → b ≡ false
    by true t = absurd (apart (ap (λ (l : List Item). length l) (same-equal xs ys t)))
    by false t = refl
