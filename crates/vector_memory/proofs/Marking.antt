-- Laws of the marks, for a loop over i: the element at i, then the rest; and past the end none is left. Assumes nothing.
use Rattle.std.proofs.Common.{ℕ, ◌+◌, ◌≤◌, ◌<◌, ◌≡◌, refl, ◌∙◌, Bool, true, false, not, cond, Some, None, List, [], ◌∷◌, ◌++◌, arith, length, take, drop, set, get_or, append_assoc, append-nil, add-one}
use lib.ListN.{drop_of_length-le}
use lib.Seq.{take-suc-set, drop-set-lt, take_all, drop-cons}
use Rattle.vector_memory.specs.Marks.{marks_from, marked, changed_from}

turned : {B : Type 0} (t : Bool) (x y : B) → cond t x y ≡ cond (not t) y x
turned true x y = refl
turned false x y = refl

module _ {A : Type 0} (marker : ℕ → A) where
  module _ (same : A → A → Bool) where
    changed_next : (xs : List A) (i : ℕ) (d : A) → i < length xs → changed_from same marker i (drop i xs) ≡ cond (same (get_or xs i d) (marker i)) (changed_from same marker (i + 1) (drop (i + 1) xs)) (Some i)
    unfolding changed_from
    changed_next xs i d h = rw (drop-cons xs i d h, add-one i) refl

    -- where the code finds the element x, the mark m and whether they differ
    pub changed_here : (xs : List A) (i : ℕ) (x m : A) (differ : Bool) → i < length xs → x ≡ get_or xs i x → m ≡ marker i → differ ≡ not (same x m) → changed_from same marker i (drop i xs) ≡ cond differ (Some i) (changed_from same marker (i + 1) (drop (i + 1) xs))
    changed_here xs i x m differ h found mark test = changed_next xs i x h ∙ rw (← found, ← mark, test) (turned (same x m) _ _)

    pub changed_past : (xs : List A) (i : ℕ) → length xs ≤ i → changed_from same marker i (drop i xs) ≡ None
    unfolding changed_from
    changed_past xs i h = rw (drop_of_length-le xs h)

  -- what is marked from i on is marked from i + 1 on, once the index i is
  pub marked_next : (xs : List A) (i : ℕ) (d : A) → i < length xs → marked marker (i + 1) (set xs i (marker i)) ≡ marked marker i xs
  unfolding marks_from
  marked_next xs i d h =
      let stored : take (i + 1) (set xs i (marker i)) ≡ take i xs ++ (marker i ∷ []) = rw add-one (take-suc-set xs i (marker i) h) in
      let after : drop (i + 1) (set xs i (marker i)) ≡ drop (i + 1) xs = drop-set-lt (i + 1) xs i (marker i) (omega arith) in
      rw (stored, after, append_assoc, drop-cons xs i d h, add-one i)

  pub marked_past : (xs : List A) (i : ℕ) → length xs ≤ i → marked marker i xs ≡ xs
  unfolding marks_from
  marked_past xs i h = rw (drop_of_length-le xs h, append-nil) (take_all i xs h)
