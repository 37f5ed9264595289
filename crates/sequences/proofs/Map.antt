-- A function at each element of a list. Assumes nothing.
use mathlib.Core.List.{List, [], ◌∷◌, ◌++◌, map, map-append, nil≢cons, head-eq_of_cons-eq, tail-eq_of_cons-eq}
use mathlib.Core.Path.{◌≡◌, refl, ◌∙◌, ap}
use Prim.Native.Nat.{ℕ, zero, suc, ◌≤◌, ◌<◌}
use native.Mathlib.Nat.{le_refl}
use native.Mathlib.Omega.{arith}
use lib.ListN.{length, take, get_or}
use lib.Seq.{take-suc, take-length}
use Rattle.sequences.specs.Sum.{up_to}

-- what is mapped to two lists joined, is two lists joined
pub map_split : {A B : Type 0} (g : A → B) (xs : List A) (bs cs : List B) → map g xs ≡ bs ++ cs → (ys zs : List A) × (xs ≡ ys ++ zs) × (map g ys ≡ bs) × (map g zs ≡ cs)
map_split g xs [] cs e = ([], xs, refl, refl, e)
map_split g [] (b ∷ bs) cs e = absurd (nil≢cons e)
map_split {A = A} g (x ∷ xs) (b ∷ bs) cs e =
    let rest = map_split g xs bs cs (tail-eq_of_cons-eq e) in
    let one = head-eq_of_cons-eq e in
    (x ∷ rest.0, rest.1, ap (λ (l : List A). x ∷ l) rest.2, cc, rest.4)

-- the elements by their numbers, counted from 1
pub by_number : {A B : Type 0} (g : ℕ → B) (h : A → B) (xs : List A) (d : A) → ((k : ℕ) → k < length xs → g (suc k) ≡ h (get_or xs k d)) → map g (up_to (length xs)) ≡ map h xs
by_number g h xs d each = go (length xs) (le_refl (length xs)) ∙ ap (map h) (take-length xs)
  where
    go : (n : ℕ) → n ≤ length xs → map g (up_to n) ≡ map h (take n xs)
    go zero few = refl
    go (suc n) few =
        map-append g (up_to n) (suc n ∷ []) ∙ cc (go n (omega arith), each n few, map-append h (take n xs) (get_or xs n d ∷ []), take-suc xs n d few)
