-- Two lists joined. Assumes nothing.
use Prim.Native.Nat.{ℕ, ◌+◌, ◌-◌}
use mathlib.Core.List.{List, [], ◌∷◌, ◌++◌, append_assoc}
use mathlib.Core.Path.{◌≡◌, refl, sym, ◌∙◌, ap}
use native.Mathlib.Omega.{arith}
use lib.ListN.{length, take, drop, get_or, length-append}
use lib.Seq.{take_at, drop_at, get_or_at}

-- where the first are as long, equal lists are joined of equal ones
pub append-same : {A : Type 0} (xs ys us vs : List A) → length xs ≡ length ys → xs ++ us ≡ ys ++ vs → (xs ≡ ys) × (us ≡ vs)
append-same xs ys us vs size same = (
  sym (take_at xs us (length xs) refl) ∙ ap (take (length xs)) same ∙ take_at ys vs (length xs) (sym size),
  sym (drop_at xs us (length xs) refl) ∙ ap (drop (length xs)) same ∙ drop_at ys vs (length xs) (sym size),
)

-- the k-th of a list, counted from 1, between those before it and those after it
pub parted :
    {A : Type 0} (k : ℕ) (d : A) (xs pre : List A) (x : A) (post : List A) → xs ≡ pre ++ (x ∷ post) → k ≡ 1 + length pre
    → (take (k - 1) xs ≡ pre) × (get_or xs (k - 1) d ≡ x) × (drop k xs ≡ post)
parted {A} k d xs pre x post split number =
    let starts : length pre ≡ k - 1 = omega arith in
    let ends : length (pre ++ (x ∷ [])) ≡ k = length-append pre (x ∷ []) ∙ omega arith in (
      ap (take (k - 1)) split ∙ take_at pre (x ∷ post) (k - 1) starts,
      ap (λ (l : List A). get_or l (k - 1) d) split ∙ get_or_at pre x post d (k - 1) starts,
      ap (drop k) (split ∙ sym (append_assoc pre (x ∷ []) post)) ∙ drop_at (pre ++ (x ∷ [])) post k ends,
    )
