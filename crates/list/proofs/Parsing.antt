-- What the bytes of a list say, item by item. Assumes nothing.
use Prim.Native.Nat.{ℕ, zero, suc, ◌+◌, ◌≤◌, ◌<◌}
use mathlib.Core.List.{List, [], ◌∷◌}
use mathlib.Core.Path.{◌≡◌, refl, sym, ◌∙◌}
use native.Mathlib.Omega.{arith}
use lib.ListN.{length, take, drop, take-append-drop}
use borrow.Author.Tests.{le-leb, lt-leb}
use Rattle.list.specs.Items.{Item, item, Parsed, items, faulty, with_item, items_from, FirstItem, NoFirst}
use Rattle.list.specs.Table.{body_length, row_of}
use Rattle.list.specs.declared.table.ItemKind.{ItemKind}
use Rattle.list.proofs.ItemKinds.{row-letter}
use Rattle.std.specs.Prelude.{Some, None, Result, Ok, Err}

-- the bytes of a body are passed over
pub body_passed : (n s : ℕ) (bs : List ℕ) → items_from n s bs ≡ items_from n 0 (drop s bs)
unfolding items_from
body_passed n zero bs = refl
body_passed n (suc s) [] = refl
body_passed n (suc s) (b ∷ bs) = body_passed n s bs

-- bytes begin with no item where there are none, where the table does not have the kind byte, and where the body is cut short
pub empty_none : (list : List ℕ) → length list ≡ 0 → NoFirst list
unfolding items_from
empty_none [] e = record { said = λ n. refl }
empty_none (b ∷ bs) e = absurd (omega arith)

module _ (b : ℕ) (bs : List ℕ) where
  pub unknown_none : row_of b ≡ None → NoFirst (b ∷ bs)
  unfolding items_from
  unknown_none row = record { said = λ n. rw row refl }

  pub short_none : (k : ItemKind) → row_of b ≡ Some k → length bs < body_length k → NoFirst (b ∷ bs)
  unfolding items_from
  short_none k row short = record { said = λ n. rw (row, lt-leb (body_length k) (length bs) short) refl }

  -- and else with one
  pub item_first : (k : ItemKind) → row_of b ≡ Some k → body_length k ≤ length bs → FirstItem (b ∷ bs) k (take (body_length k) bs) (drop (body_length k) bs)
  unfolding items_from
  item_first k row fits =
      record {
        said = λ n. rw (row, le-leb (body_length k) (length bs) fits, body_passed (suc n) (body_length k) bs) refl;
        bytes = (λ i. sym (row-letter b k row) i ∷ sym (take-append-drop (body_length k) bs) i);
      }

-- the count of all, where so much is said after n items
abbrev pub counted_from : ℕ → Parsed → Result ℕ ℕ
counted_from n (items is) = Ok (n + length is)
counted_from n (faulty m) = Err m

pub items-not-faulty : {is : List Item} {n : ℕ} → items is ≡ faulty n → ⊥
items-not-faulty e = let never : ◌≡◌ {A = ℕ} 0 1 = cc in omega arith

-- the first of the items that bytes say, and the others
pub record Next (n : ℕ) (k : ItemKind) (body after : List ℕ) (is : List Item) : Type 0 where
  pub others : List Item
  pub whole : is ≡ item k body ∷ others
  pub left : items_from (suc n) 0 after ≡ items others

pub next_item : {list : List ℕ} {k : ItemKind} {body after : List ℕ} → FirstItem list k body after → (n : ℕ) (is : List Item) → items_from n 0 list ≡ items is → Next n k body after is
next_item {k = k} {body = body} {after = after} first n is e = by (items_from (suc n) 0 after) refl (sym (first.said n) ∙ e)
  where
    by : (p : Parsed) → items_from (suc n) 0 after ≡ p → with_item (item k body) p ≡ items is → Next n k body after is
    by (items others) b w = record { others = others; whole = cc; left = b }
    by (faulty m) b w = absurd (items-not-faulty (sym w))

pub no_more : (list : List ℕ) → NoFirst list → (n : ℕ) (is : List Item) → items_from n 0 list ≡ items is → is ≡ []
no_more [] none n is e = let same : items [] ≡ items is = sym (none.said n) ∙ e in cc
no_more (b ∷ bs) none n is e = absurd (items-not-faulty (sym e ∙ none.said n))
