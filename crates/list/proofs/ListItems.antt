-- The items that a list is read as are those that it is the bytes of. Assumes nothing.
use Prim.Native.Nat.{ℕ, zero, suc, ◌+◌, ◌≤◌, ◌<◌}
use mathlib.Core.Bool.{Bool, true, false}
use mathlib.Core.List.{List, [], ◌∷◌, ◌++◌, append-nil, append_assoc, flatten}
use mathlib.Core.Logic.{◌⊎◌, inl, inr, ⊎_elim}
use mathlib.Core.Path.{◌≡◌, refl, sym, ◌∙◌, ap, subst}
use native.Mathlib.Nat.{not-suc-le-zero}
use native.Mathlib.Omega.{arith}
use lib.Dec.{leb}
use lib.ListN.{length, take, drop, length-drop, length-append, take-append-drop}
use lib.Seq.{length-take-le, take_at, drop_at}
use borrow.Author.Tests.{leb-true, leb-false, le-leb, lt-leb}
use Rattle.sequences.specs.All.{All}
use Rattle.list.specs.Items.{Item, item, Proper, list_bytes, Parsed, items, faulty, with_item, items_from, parse}
use Rattle.list.specs.Laws.{ItemsExact, NoItem, FaultyAt, FaultyExact}
use Rattle.list.specs.Table.{letter, body_length, row_of}
use Rattle.list.specs.declared.table.ItemKind.{ItemKind}
use Rattle.list.proofs.ItemKinds.{of_same, not_missing, row-letter, letter-row}
use Rattle.list.proofs.Parsing.{body_passed, items-not-faulty}
use Rattle.std.specs.Prelude.{Option, Some, None}

-- items, and what the bytes after them say
abbrev pub all_before : List Item → Parsed → Parsed
all_before [] p = p
all_before (it ∷ is) p = with_item it (all_before is p)

all-items : (is : List Item) → all_before is (items []) ≡ items is
all-items [] = refl
all-items (it ∷ is) = ap (with_item it) (all-items is)

all-faulty : (is : List Item) (n : ℕ) → all_before is (faulty n) ≡ faulty n
all-faulty [] n = refl
all-faulty (it ∷ is) n = ap (with_item it) (all-faulty is n)

pub items_read : (n : ℕ) (is : List Item) (rest : List ℕ) → All Proper is → items_from n 0 (list_bytes is ++ rest) ≡ all_before is (items_from (n + length is) 0 rest)
unfolding items_from flatten
items_read n [] rest proper = let same : n ≡ n + 0 = omega arith in ap (λ (m : ℕ). items_from m 0 rest) same
items_read n (it ∷ is) rest proper =
    let joined : (it.body ++ list_bytes is) ++ rest ≡ it.body ++ (list_bytes is ++ rest) = append_assoc it.body (list_bytes is) rest in
    let size : length it.body ≡ body_length it.kind = proper.0.sized in
    let enough : leb (body_length it.kind) (length (it.body ++ (list_bytes is ++ rest))) ≡ true = le-leb (body_length it.kind) (length (it.body ++ (list_bytes is ++ rest))) (rw length-append (omega arith)) in
    let body : take (body_length it.kind) (it.body ++ (list_bytes is ++ rest)) ≡ it.body = take_at it.body (list_bytes is ++ rest) (body_length it.kind) size in
    let after : items_from (suc n) (body_length it.kind) (it.body ++ (list_bytes is ++ rest)) ≡ items_from (suc n) 0 (list_bytes is ++ rest) = body_passed (suc n) (body_length it.kind) (it.body ++ (list_bytes is ++ rest)) ∙ ap (items_from (suc n) 0) (drop_at it.body (list_bytes is ++ rest) (body_length it.kind) size) in
    let number : suc n + length is ≡ n + suc (length is) = omega arith in
    rw (joined, letter-row it.kind, enough, body, after, items_read (suc n) is rest proper.1, number)

-- bytes that begin with no item say so
no_item_read : (n : ℕ) (rest : List ℕ) → NoItem rest → items_from n 0 rest ≡ faulty (suc n)
unfolding items_from
no_item_read n rest none = rw none.some (by (row_of none.byte) refl)
  where
    by : (row : Option ItemKind) → row_of none.byte ≡ row → items_from n 0 (none.byte ∷ none.rest) ≡ faulty (suc n)
    by (Some k) e = let cut : leb (body_length k) (length none.rest) ≡ false = lt-leb (body_length k) (length none.rest) (none.short k (row-letter none.byte k e)) in rw (e, cut)
    by None e = rw e

-- bytes are items, or have a fault
pub record AreItems (bs : List ℕ) : Type 0 where
  pub these : List Item
  pub bytes : list_bytes these ≡ bs
  pub proper : All Proper these

abbrev View : List ℕ → Type 0
View bs = AreItems bs ⊎ ((n : ℕ) × FaultyAt bs n)

-- an item, and the bytes after it
one-before : (b : ℕ) (bs : List ℕ) (k : ItemKind) → row_of b ≡ Some k → body_length k ≤ length bs → View (drop (body_length k) bs) → View (b ∷ bs)
unfolding flatten
one-before b bs k row fits v =
    let w = body_length k in
    let it = item k (take w bs) in
    let proper : Proper it = record { sized = length-take-le w bs fits } in
    let bytes : (rest : List ℕ) → rest ≡ drop w bs → letter k ∷ (take w bs ++ rest) ≡ b ∷ bs = λ rest e. (λ i. row-letter b k row i ∷ (take w bs ++ e i)) ∙ ap (λ (l : List ℕ). b ∷ l) (take-append-drop w bs) in
    ⊎_elim
    (λ (v : AreItems (drop w bs)). inl (record { these = it ∷ v.these; bytes = bytes (list_bytes v.these) v.bytes; proper = (proper, v.proper) }))
    (λ (v : (n : ℕ) × FaultyAt (drop w bs) n).
    let f = v.1 in
    inr (
      suc v.0,
      record {
        before = it ∷ f.before;
        rest = f.rest;
        bytes = ap (λ (l : List ℕ). letter k ∷ l) (append_assoc (take w bs) (list_bytes f.before) f.rest) ∙ bytes (list_bytes f.before ++ f.rest) f.bytes;
        proper = (proper, f.proper);
        none = f.none;
        number = ap suc f.number;
      },
    ))
    v

none_first : (b : ℕ) (bs : List ℕ) → ((k : ItemKind) → row_of b ≡ Some k → length bs < body_length k) → View (b ∷ bs)
unfolding flatten
none_first b bs short =
    inr (
      1,
      record {
        before = [];
        rest = b ∷ bs;
        bytes = refl;
        proper = tt;
        none = record { byte = b; rest = bs; some = refl; short = λ k e. short k (ap row_of (sym e) ∙ letter-row k) };
        number = refl;
      },
    )

view_next : (fuel : ℕ) → ((cs : List ℕ) → length cs < fuel → View cs) → (bs : List ℕ) → length bs < suc fuel → View bs
unfolding flatten
view_next fuel shorter [] h = inl (record { these = []; bytes = refl; proper = tt })
view_next fuel shorter (b ∷ bs) h = by (row_of b) refl
  where
    sized : (k : ItemKind) → row_of b ≡ Some k → (fits : Bool) → leb (body_length k) (length bs) ≡ fits → View (b ∷ bs)
    sized k e true f = one-before b bs k e (leb-true (body_length k) (length bs) f) (shorter (drop (body_length k) bs) (omega (arith, length-drop (body_length k) bs)))
    sized k e false f = none_first b bs (λ l same. subst (λ (m : ItemKind). length bs < body_length m) (of_same (sym e ∙ same)) (leb-false (body_length k) (length bs) f))

    by : (row : Option ItemKind) → row_of b ≡ row → View (b ∷ bs)
    by (Some k) e = sized k e (leb (body_length k) (length bs)) refl
    by None e = none_first b bs (λ k same. absurd (not_missing (sym same ∙ e)))

view : (fuel : ℕ) (bs : List ℕ) → length bs < fuel → View bs
view zero bs h = absurd (not-suc-le-zero h)
view (suc fuel) bs h = view_next fuel (view fuel) bs h

-- each says so when it is read
pub read-items : (list : List ℕ) (is : List Item) → list_bytes is ≡ list → All Proper is → parse list ≡ items is
unfolding items_from
read-items list is bytes proper =
    ap parse (sym bytes ∙ sym (append-nil (list_bytes is))) ∙ items_read 0 is [] proper ∙ all-items is

read-faulty : (list : List ℕ) (n : ℕ) → FaultyAt list n → parse list ≡ faulty n
read-faulty list n f =
    let number : suc (0 + length f.before) ≡ n = omega (arith, f.number) in
    ap parse (sym f.bytes) ∙ items_read 0 f.before f.rest f.proper ∙ ap (all_before f.before) (no_item_read (0 + length f.before) f.rest f.none ∙ ap faulty number) ∙ all-faulty f.before n

pub items_exact : ItemsExact
items_exact list is = (λ e. by e (view (suc (length list)) list (omega arith)), λ (bytes, proper). read-items list is bytes proper)
  where
    by : parse list ≡ items is → View list → (list_bytes is ≡ list) × All Proper is
    by e (inl a) =
        let same : a.these ≡ is = let z : items a.these ≡ items is = sym (read-items list a.these a.bytes a.proper) ∙ e in cc in
        (ap list_bytes (sym same) ∙ a.bytes, subst (All Proper) same a.proper)
    by e (inr f) = absurd (items-not-faulty (sym e ∙ read-faulty list f.0 f.1))

pub faulty_exact : FaultyExact
faulty_exact list n = (λ e. by e (view (suc (length list)) list (omega arith)), read-faulty list n)
  where
    by : parse list ≡ faulty n → View list → FaultyAt list n
    by e (inl a) = absurd (items-not-faulty (sym (read-items list a.these a.bytes a.proper) ∙ e))
    by e (inr f) =
        let same : f.0 ≡ n = let z : faulty f.0 ≡ faulty n = sym (read-faulty list f.0 f.1) ∙ e in cc in
        subst (FaultyAt list) same f.1
