-- Laws of `line_list`: the first line, and the lines after it. Assumes nothing.
use borrow.Author.Tests.{ltb-true, ltb-false}
use Rattle.std.proofs.Common.{Some, None, ℕ, ◌+◌, ◌-◌, ◌<◌, ◌≤◌, ◌≡◌, suc, Bool, true, false, cond, not, List, [], ◌∷◌, eqb, refl, ap, arith, length, take, drop}
use Rattle.std.specs.List.{position_or_len, position}
use Rattle.std.proofs.lemmas.List.Sums.{prefix_len-le-length}
use Rattle.vector_lines.proofs.Escapes.{lent_rest}
use Rattle.vector_lines.specs.Texts.{line_list, led}

-- where the first line feed is
abbrev pub feed : List ℕ → ℕ
feed xs = position_or_len (λ b. eqb b 10) xs

-- a line feed or not, the first line is known from that of the bytes after the first
cut_either : (t : Bool) (b : ℕ) (bs : List ℕ) → (feed bs < length bs → line_list bs ≡ take (feed bs) bs ∷ line_list (drop (feed bs + 1) bs)) → cond (not t) (1 + feed bs) 0 < suc (length bs) → cond t ([] ∷ line_list bs) (led b (line_list bs)) ≡ take (cond (not t) (1 + feed bs) 0) (b ∷ bs) ∷ line_list (drop (cond (not t) (1 + feed bs) 0 + 1) (b ∷ bs))
cut_either true b bs before h = refl
cut_either false b bs before h =
    let n : 1 + feed bs ≡ suc (feed bs) = omega arith in
    let m : suc (feed bs) + 1 ≡ suc (feed bs + 1) = omega arith in
    rw (before (omega arith), n, m) refl

pub line_cut : (xs : List ℕ) → feed xs < length xs → line_list xs ≡ take (feed xs) xs ∷ line_list (drop (feed xs + 1) xs)
unfolding line_list
line_cut [] h = absurd (omega arith)
line_cut (b ∷ bs) h = cut_either (eqb b 10) b bs (line_cut bs) h

-- with no line feed, all is one line
last_either : (t : Bool) (b : ℕ) (bs : List ℕ) → (feed bs ≡ length bs → 0 < length bs → line_list bs ≡ bs ∷ []) → cond (not t) (1 + feed bs) 0 ≡ suc (length bs) → cond t ([] ∷ line_list bs) (led b (line_list bs)) ≡ (b ∷ bs) ∷ []
unfolding line_list
last_either true b bs after h = absurd (omega arith)
last_either false b [] after h = refl
last_either false b (c ∷ cs) after h = rw (after (omega arith) (omega arith)) refl

pub line_last : (xs : List ℕ) → feed xs ≡ length xs → 0 < length xs → line_list xs ≡ xs ∷ []
unfolding line_list
line_last [] h some = absurd (omega arith)
line_last (b ∷ bs) h some = last_either (eqb b 10) b bs (line_last bs) h

-- what the answer of a test says of the place that it goes with
place : (t : Bool) (n i : ℕ) → cond t (Some n) None ≡ Some i → (t ≡ true) × (n ≡ i)
place true n i e = (refl, cc)
place false n i e = absurd (cc)

nowhere : (t : Bool) (n : ℕ) → cond t (Some n) None ≡ None → t ≡ false
nowhere true n e = absurd (cc)
nowhere false n e = refl

-- where the first line feed is at i, and the rest as the code lends it
pub line_at : (xs : List ℕ) (i : ℕ) → position (λ b. eqb b 10) xs ≡ Some i → line_list xs ≡ take i xs ∷ line_list (take (length xs - (i + 1)) (drop (i + 1) xs))
line_at xs i e =
    let found = place _ (feed xs) i e in
    let below : feed xs < length xs = ltb-true (feed xs) (length xs) found.0 in
    rw (lent_rest xs (i + 1), ← found.1) (line_cut xs below)

-- where there is none, and some byte
pub line_only : (xs : List ℕ) → position (λ b. eqb b 10) xs ≡ None → 0 < length xs → line_list xs ≡ xs ∷ line_list []
unfolding line_list
line_only xs e some =
    let above : length xs ≤ feed xs = ltb-false (feed xs) (length xs) (nowhere _ (feed xs) e) in
    let within : feed xs ≤ length xs = prefix_len-le-length (λ b. not (eqb b 10)) xs in
    line_last xs (omega arith) some

-- where there is no byte
pub line_none : (xs : List ℕ) → length xs ≤ 0 → line_list xs ≡ []
unfolding line_list
line_none [] h = refl
line_none (b ∷ bs) h = absurd (omega arith)

-- and that fewer lines are left after it
pub lines_fewer : (xs : List ℕ) (i : ℕ) → position (λ b. eqb b 10) xs ≡ Some i → length (line_list (take (length xs - (i + 1)) (drop (i + 1) xs))) < length (line_list xs)
lines_fewer xs i e = let first = line_at xs i e in omega (arith, ap length first)
