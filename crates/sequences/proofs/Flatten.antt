-- Lists joined to one. Assumes nothing.
use Prim.Native.Nat.{ℕ, zero, suc, ◌+◌, ◌≤◌, ◌<◌}
use mathlib.Core.List.{List, [], ◌∷◌, ◌++◌, append-nil, append_assoc, map, map-append, flatten}
use mathlib.Core.Path.{◌≡◌, refl, sym, ◌∙◌, ap}
use native.Mathlib.Nat.{le_of_suc-le-suc, not-suc-le-zero}
use native.Mathlib.Omega.{arith}
use lib.ListN.{length, take, get_or, length-append}
use Rattle.sequences.specs.Sum.{sum}

pub flatten-append : {A : Type 0} (xss yss : List (List A)) → flatten (xss ++ yss) ≡ flatten xss ++ flatten yss
unfolding flatten
flatten-append [] yss = refl
flatten-append {A} (xs ∷ xss) yss = ap (λ (l : List A). xs ++ l) (flatten-append xss yss) ∙ sym (append_assoc xs (flatten xss) (flatten yss))

-- joined within, and then all: or all at once
pub flatten-flatten : {A : Type 0} (xsss : List (List (List A))) → flatten (map flatten xsss) ≡ flatten (flatten xsss)
unfolding flatten
flatten-flatten [] = refl
flatten-flatten {A} (xss ∷ xsss) = ap (λ (l : List A). flatten xss ++ l) (flatten-flatten xsss) ∙ sym (flatten-append xss (flatten xsss))

pub map-flatten : {A B : Type 0} (g : A → B) (xss : List (List A)) → map g (flatten xss) ≡ flatten (map (map g) xss)
unfolding flatten
map-flatten g [] = refl
map-flatten {B = B} g (xs ∷ xss) = map-append g xs (flatten xss) ∙ ap (λ (l : List B). map g xs ++ l) (map-flatten g xss)

-- one more of a list of lists
pub flatten_next : {A : Type 0} (xs : List (List A)) (k : ℕ) → k < length xs → flatten (take (suc k) xs) ≡ flatten (take k xs) ++ get_or xs k []
unfolding flatten
flatten_next [] k h = absurd (not-suc-le-zero h)
flatten_next (x ∷ xs) zero h = append-nil x
flatten_next {A} (x ∷ xs) (suc k) h = ap (λ (l : List A). x ++ l) (flatten_next xs k (le_of_suc-le-suc h)) ∙ sym (append_assoc x (flatten (take k xs)) (get_or xs k []))

-- the first of them are no more
pub flatten_taken : {A : Type 0} (xs : List (List A)) (k : ℕ) → length (flatten (take k xs)) ≤ length (flatten xs)
unfolding flatten
flatten_taken xs zero = omega arith
flatten_taken [] (suc k) = omega arith
flatten_taken (x ∷ xs) (suc k) =
    let rest = flatten_taken xs k in
    rw (length-append, length-append) (omega arith)

-- as many elements as the lists have together
pub flatten-count : {A : Type 0} (xss : List (List A)) → length (flatten xss) ≡ sum (map (λ (xs : List A). length xs) xss)
unfolding flatten
flatten-count [] = refl
flatten-count (xs ∷ xss) = length-append xs (flatten xss) ∙ ap (λ (n : ℕ). length xs + n) (flatten-count xss)
