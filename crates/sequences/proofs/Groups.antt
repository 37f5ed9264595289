-- Laws of `lead` and `groups`: together they are the list, and where each group starts. Assumes nothing.
use Prim.Native.Nat.{ℕ, zero, suc, ◌+◌, ◌≤◌, ◌<◌}
use mathlib.Core.Bool.{Bool, true, false, cond}
use mathlib.Core.List.{List, [], ◌∷◌, ◌++◌, flatten, append-nil}
use mathlib.Core.Path.{◌≡◌, refl, sym, ◌∙◌, ap, subst}
use native.Mathlib.Nat.{le_of_suc-le-suc, not-suc-le-zero}
use native.Mathlib.Omega.{arith}
use lib.ListN.{length, take, drop, get_or, length-append, drop_of_length-le}
use lib.Seq.{drop-cons}
use Rattle.sequences.specs.All.{All}
use Rattle.sequences.specs.Groups.{lead, groups}
use Rattle.sequences.proofs.Flatten.{flatten_next, flatten_taken}

module _ {A : Type 0} (p : A → Bool) where
  -- for a loop over i: the element at i passes, or it leads the rest; and past the end nothing does
  pub lead_next : (xs : List A) (i : ℕ) (d : A) → i < length xs → lead p (drop i xs) ≡ cond (p (get_or xs i d)) [] (get_or xs i d ∷ lead p (drop (suc i) xs))
  unfolding lead
  lead_next xs i d h = rw (drop-cons xs i d)

  pub lead_end : (xs : List A) (i : ℕ) → length xs ≤ i → lead p (drop i xs) ≡ []
  unfolding lead
  lead_end xs i h = rw (drop_of_length-le xs h)

  -- what leads, and then the groups, are the list
  pub lead-groups : (xs : List A) → lead p xs ++ flatten (groups p xs) ≡ xs
  unfolding lead groups flatten
  lead-groups [] = refl
  lead-groups (x ∷ xs) = by (p x) (lead-groups xs)
    where
      by : (b : Bool) → lead p xs ++ flatten (groups p xs) ≡ xs → cond b [] (x ∷ lead p xs) ++ flatten (cond b ((x ∷ lead p xs) ∷ groups p xs) (groups p xs)) ≡ x ∷ xs
      by true e = ap (λ (l : List A). x ∷ l) e
      by false e = ap (λ (l : List A). x ∷ l) e

  -- the index at which group k starts, both counted from 0
  abbrev pub group_start : List A → ℕ → ℕ
  group_start xs k = length (lead p xs) + length (flatten (take k (groups p xs)))

  -- group k starts at index s: an element that passes stands there, and those after it up to the next that does are its others
  pub record Group (xs : List A) (d : A) (k s : ℕ) : Type 0 where
    pub within : s < length xs
    pub opens : p (get_or xs s d) ≡ true
    pub all : get_or (groups p xs) k [] ≡ get_or xs s d ∷ lead p (drop (suc s) xs)

  pub group_at : (xs : List A) (d : A) (k : ℕ) → k < length (groups p xs) → Group xs d k (group_start xs k)
  unfolding lead groups flatten
  group_at [] d k h = absurd (not-suc-le-zero h)
  group_at (x ∷ xs) d k h = by (p x) refl k h (group_at xs d)
    where
      -- a group of xs is one of x ∷ xs, a place further on
      on : (k j s : ℕ) → Group xs d j s → get_or (groups p (x ∷ xs)) k [] ≡ get_or (groups p xs) j [] → group_start (x ∷ xs) k ≡ suc s → Group (x ∷ xs) d k (group_start (x ∷ xs) k)
      on k j s g same starts =
          let far = g.within in
          subst (Group (x ∷ xs) d k) (sym starts) (record { within = omega arith; opens = g.opens; all = same ∙ g.all })

      by : (b : Bool) → p x ≡ b → (k : ℕ) → k < length (groups p (x ∷ xs)) → ((k : ℕ) → k < length (groups p xs) → Group xs d k (group_start xs k)) → Group (x ∷ xs) d k (group_start (x ∷ xs) k)
      by true e zero h rest =
          let starts : group_start (x ∷ xs) 0 ≡ 0 = rw e in
          subst (Group (x ∷ xs) d 0) (sym starts) (record { within = omega arith; opens = e; all = rw e })
      by true e (suc k) h rest =
          on (suc k) k (group_start xs k) (rest k (le_of_suc-le-suc (rw e at h))) (rw e) (rw (e, length-append) (omega arith))
      by false e k h rest = on k k (group_start xs k) (rest k (rw e at h)) (rw e) (rw e (omega arith))

  -- the next group starts where it ends
  pub start_next : (xs : List A) (k : ℕ) → k < length (groups p xs) → group_start xs (suc k) ≡ group_start xs k + length (get_or (groups p xs) k [])
  start_next xs k h = rw (flatten_next (groups p xs) k h, length-append) (omega arith)

  -- and no group ends beyond the list
  pub start-within : (xs : List A) (k : ℕ) → group_start xs k ≤ length xs
  start-within xs k =
      let whole = simp length-append at (ap length (lead-groups xs)) in
      omega (arith, flatten_taken (groups p xs) k)

  -- elements that do not pass, in front
  pub lead-none : (xs ys : List A) → All (λ (x : A). p x ≡ false) xs → lead p (xs ++ ys) ≡ xs ++ lead p ys
  unfolding lead
  lead-none [] ys none = refl
  lead-none (x ∷ xs) ys none = rw none.0 (ap (λ (l : List A). x ∷ l) (lead-none xs ys none.1))

  pub groups_none : (xs ys : List A) → All (λ (x : A). p x ≡ false) xs → groups p (xs ++ ys) ≡ groups p ys
  unfolding groups
  groups_none [] ys none = refl
  groups_none (x ∷ xs) ys none = rw none.0 (groups_none xs ys none.1)

  -- a list that an element which passes opens, and no other of it does
  pub record Opens (xs : List A) : Type 0 where
    pub first : A
    pub others : List A
    pub whole : xs ≡ first ∷ others
    pub passes : p first ≡ true
    pub none : All (λ (x : A). p x ≡ false) others

  -- each group of a list is one
  lead_fails : (xs : List A) → All (λ (x : A). p x ≡ false) (lead p xs)
  unfolding lead
  lead_fails [] = tt
  lead_fails (x ∷ xs) = by (p x) refl (lead_fails xs)
    where
      by : (b : Bool) → p x ≡ b → All (λ (y : A). p y ≡ false) (lead p xs) → All (λ (y : A). p y ≡ false) (cond b [] (x ∷ lead p xs))
      by true e rest = tt
      by false e rest = (e, rest)

  pub groups_open : (xs : List A) → All Opens (groups p xs)
  unfolding groups
  groups_open [] = tt
  groups_open (x ∷ xs) = by (p x) refl (groups_open xs)
    where
      by : (b : Bool) → p x ≡ b → All Opens (groups p xs) → All Opens (cond b ((x ∷ lead p xs) ∷ groups p xs) (groups p xs))
      by true e rest = (record { first = x; others = lead p xs; whole = refl; passes = e; none = lead_fails xs }, rest)
      by false e rest = rest

  -- groups are found again in the list that they make
  pub lead_joined : (xss : List (List A)) → All Opens xss → lead p (flatten xss) ≡ []
  unfolding flatten lead
  lead_joined [] opens = refl
  lead_joined (xs ∷ xss) opens =
      let o = opens.0 in
      rw (o.whole, o.passes)

  pub groups_joined : (xss : List (List A)) → All Opens xss → groups p (flatten xss) ≡ xss
  unfolding groups flatten
  groups_joined [] opens = refl
  groups_joined (xs ∷ xss) opens =
      let o = opens.0 in
      let rest = flatten xss in
      let led : lead p (o.others ++ rest) ≡ o.others = lead-none o.others rest o.none ∙ ap (λ (l : List A). o.others ++ l) (lead_joined xss opens.1) ∙ append-nil o.others in
      let after : groups p (o.others ++ rest) ≡ xss = groups_none o.others rest o.none ∙ groups_joined xss opens.1 in
      ap (λ (l : List A). groups p (l ++ rest)) o.whole ∙ rw (o.passes, led, after) (ap (λ (l : List A). l ∷ xss) (sym o.whole))
