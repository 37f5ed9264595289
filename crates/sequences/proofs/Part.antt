-- Laws of `part` and `put`: a part's length, a part written back, and what stays outside it. Assumes nothing.
use mathlib.Core.Path.{◌≡◌, refl, sym, ◌∙◌, ap, ap₂}
use mathlib.Core.List.{List, [], ◌∷◌, ◌++◌, append_assoc}
use mathlib.Core.Bool.{Bool, true, false}
use Prim.Native.Nat.{ℕ, zero, suc, ◌+◌, ◌-◌, ◌≤◌, ◌<◌}
use native.Mathlib.Nat.{le_refl, add-zero}
use native.Mathlib.Omega.{arith}
use lib.Dec.{leb}
use lib.ListN.{length, take, drop, get_or, length-append, length-take, length-drop, take-append-drop}
use lib.Seq.{length-take-le, take-nil, drop-drop, take_at, drop_at, get_or-take, get_or-drop, take-append_seam, take-append-le, drop-append-le, take-append-add, drop-append-add, take-take, take-add}
use borrow.Author.Tests.{leb-true, leb-false}
use borrow.Rule.Slice.PartMut.{put_mid}
use Rattle.sequences.specs.All.{All}
use Rattle.sequences.specs.Part.{part, put}
use Rattle.sequences.proofs.All.{all_append, all-before, all_after}

-- a part within the list has its length
pub part_length : (a n : ℕ) (xs : List ℕ) → a + n ≤ length xs → length (part a n xs) ≡ n
part_length a n xs h = length-take-le n (drop a xs) (rw length-drop (omega arith))

pub part_at_most : (a n : ℕ) (xs : List ℕ) → length (part a n xs) ≤ n
part_at_most a n xs = rw length-take (omega arith)

-- two parts in a row are one
pub part_join : (a n m : ℕ) (xs : List ℕ) → part a (n + m) xs ≡ part a n xs ++ part (a + n) m xs
part_join a n m xs = take-add n m (drop a xs) ∙ ap (λ (l : List ℕ). part a n xs ++ take m l) (drop-drop n a xs)

-- the end of what was taken from the front
drop-take : (b n : ℕ) (xs : List ℕ) → drop b (take (b + n) xs) ≡ take n (drop b xs)
drop-take zero n xs = let all : 0 + n ≡ n = omega arith in rw all
drop-take (suc b) n [] = rw (take-nil, take-nil)
drop-take (suc b) n (x ∷ xs) = let on : suc b + n ≡ suc (b + n) = omega arith in rw on (drop-take b n xs)

-- a part of a part
pub part-part : (a n b m : ℕ) (xs : List ℕ) → b + m ≤ n → part b m (part a n xs) ≡ part (a + b) m xs
part-part a n b m xs h =
    let split : b + (n - b) ≡ n = omega arith in
    ap (λ (k : ℕ). part b m (part a k xs)) (sym split) ∙ rw (drop-take, drop-drop) (take-take m (n - b) (drop (a + b) xs) (omega arith))

-- an element of a part is one of the list
pub part_get_d : (a n : ℕ) (xs : List ℕ) (i : ℕ) → i < n → get_or (part a n xs) i 0 ≡ get_or xs (a + i) 0
part_get_d a n xs i h = rw (get_or-take, get_or-drop)

head : (xs : List ℕ) (i : ℕ) → get_or (drop i xs) 0 0 ≡ get_or xs i 0
head xs i = rw (get_or-drop, add-zero)

module _ (a : ℕ) (ys xs : List ℕ) (fits : a + length ys ≤ length xs) where
  before : length (take a xs) ≡ a
  before = length-take-le a xs (omega arith)

  through : length (take a xs ++ ys) ≡ a + length ys
  through = length-append (take a xs) ys ∙ ap (λ (n : ℕ). n + length ys) before

  -- the list keeps its length
  pub put-length : length (put a ys xs) ≡ length xs
  put-length = rw (length-append, length-append, length-drop, before) (omega arith)

  -- what was written stands there
  pub part-put : part a (length ys) (put a ys xs) ≡ ys
  part-put = rw (drop_at (take a xs) (ys ++ drop (a + length ys) xs) a before) (take-append_seam ys (drop (a + length ys) xs))

  -- what stands before it stays
  pub take_put : (n : ℕ) → n ≤ a → take n (put a ys xs) ≡ take n xs
  take_put n h =
      let within : n ≤ length (take a xs) = rw before h in
      take-append-le n (take a xs) (ys ++ drop (a + length ys) xs) within ∙ take-take n a xs h

  -- what stands after it stays
  pub drop-put : (n : ℕ) → a + length ys ≤ n → drop n (put a ys xs) ≡ drop n xs
  drop-put n h =
      let end = a + length ys in
      let split : end + (n - end) ≡ n = omega arith in
      let seam : drop end (put a ys xs) ≡ drop end xs = rw (← append_assoc) (drop_at (take a xs ++ ys) (drop end xs) end through) in
      rw (← split) (sym (drop-drop (n - end) end (put a ys xs)) ∙ ap (drop (n - end)) seam ∙ drop-drop (n - end) end xs)

  -- each element that was written stands at its place
  pub get_d_put : (i : ℕ) → a ≤ i → i < a + length ys → get_or (put a ys xs) i 0 ≡ get_or ys (i - a) 0
  get_d_put i h k =
      let place : a + (i - a) ≡ i = omega arith in
      let within : i - a < length ys = omega arith in
      ap (λ (j : ℕ). get_or (put a ys xs) j 0) (sym place) ∙ sym (part_get_d a (length ys) (put a ys xs) (i - a) within) ∙ ap (λ (l : List ℕ). get_or l (i - a) 0) part-put

  -- and each element outside it stays
  pub get_d_put_before : (i : ℕ) → i < a → get_or (put a ys xs) i 0 ≡ get_or xs i 0
  get_d_put_before i h = sym (get_or-take a (put a ys xs) i 0 h) ∙ ap (λ (l : List ℕ). get_or l i 0) (take_put a (le_refl a)) ∙ get_or-take a xs i 0 h

  pub get_d_put_after : (i : ℕ) → a + length ys ≤ i → get_or (put a ys xs) i 0 ≡ get_or xs i 0
  get_d_put_after i h = sym (head (put a ys xs) i) ∙ ap (λ (l : List ℕ). get_or l 0 0) (drop-put i h) ∙ head xs i

  pub get_d_put_elsewhere : (i : ℕ) → ¬ ((a ≤ i) × (i < a + length ys)) → get_or (put a ys xs) i 0 ≡ get_or xs i 0
  get_d_put_elsewhere i outside = by (leb a i) (leb (a + length ys) i) refl refl
    where
      by : (b d : Bool) → leb a i ≡ b → leb (a + length ys) i ≡ d → get_or (put a ys xs) i 0 ≡ get_or xs i 0
      by false d s t = get_d_put_before i (leb-false a i s)
      by true true s t = get_d_put_after i (leb-true (a + length ys) i t)
      by true false s t = absurd (outside (leb-true a i s, leb-false (a + length ys) i t))

  -- so does each part that lies outside it
  pub part-put-before : (b n : ℕ) → b + n ≤ a → part b n (put a ys xs) ≡ part b n xs
  part-put-before b n h =
      sym (drop-take b n (put a ys xs)) ∙ ap (drop b) (take_put (b + n) h) ∙ drop-take b n xs

  pub part-put_after : (b n : ℕ) → a + length ys ≤ b → part b n (put a ys xs) ≡ part b n xs
  part-put_after b n h = ap (take n) (drop-put b h)

-- what holds of every element of both holds of every element of the list written over
pub all-put : (P : ℕ → Type 0) (a : ℕ) (ys xs : List ℕ) → All P ys → All P xs → All P (put a ys xs)
all-put P a ys xs placed all =
    let end = a + length ys in
    all_append P (take a xs) (ys ++ drop end xs) (all-before P (take a xs) (drop a xs) (rw take-append-drop all))
    (all_append P ys (drop end xs) placed (all_after P (take end xs) (drop end xs) (rw take-append-drop all)))

-- nothing written over
pub put-nothing : (a : ℕ) (xs : List ℕ) → put a [] xs ≡ xs
put-nothing a xs = let end : a + 0 ≡ a = omega arith in rw end (take-append-drop a xs)

-- two lists joined are written over one after the other
pub put-append : (a : ℕ) (ys zs xs : List ℕ) → a + length ys + length zs ≤ length xs → put a (ys ++ zs) xs ≡ put (a + length ys) zs (put a ys xs)
put-append a ys zs xs fits =
    let end = a + length ys in
    let within : end ≤ length xs = omega arith in
    let after = drop (end + length zs) xs in
    let sizes : a + length (ys ++ zs) ≡ end + length zs = rw length-append (omega arith) in
    let front : take end (put a ys xs) ≡ take a xs ++ ys = ap (take end) (sym (append_assoc (take a xs) ys (drop end xs))) ∙ take_at (take a xs ++ ys) (drop end xs) end (through a ys xs within) in
    let back : drop (end + length zs) (put a ys xs) ≡ after = drop-put a ys xs within (end + length zs) (omega arith) in
    ap (λ (n : ℕ). take a xs ++ ((ys ++ zs) ++ drop n xs)) sizes
    ∙ ap (λ (l : List ℕ). take a xs ++ l) (append_assoc ys zs after)
    ∙ sym (append_assoc (take a xs) ys (zs ++ after))
    ∙ (λ i. sym front i ++ (zs ++ sym back i))

-- a part written back as it was
pub put-part : (a n : ℕ) (xs : List ℕ) → a + n ≤ length xs → put a (part a n xs) xs ≡ xs
put-part a n xs h = rw (part_length, ← drop-drop n a xs, take-append-drop, take-append-drop)

-- a part lent as `&mut xs[a..e]` that comes back as ys is ys written over
pub lent_is_put : (a e : ℕ) (xs ys : List ℕ) → length ys ≡ e - a → put_mid a (e - a) xs ys ≡ put a ys xs
lent_is_put a e xs ys l = rw (drop-drop, l)

-- and so is one of n elements, lent as `&mut xs[a..a + n]`, that comes back with g done to it
pub lent_changed :
    (a n : ℕ) (xs back : List ℕ) (g : List ℕ → List ℕ) → length (g (part a n xs)) ≡ n → back ≡ g (part a (a + n - a) xs)
    → put_mid a (a + n - a) xs back ≡ put a (g (part a n xs)) xs
lent_changed a n xs back g size came =
    let lent : a + n - a ≡ n = omega arith in
    let whole : back ≡ g (part a n xs) = came ∙ ap (λ (m : ℕ). g (part a m xs)) lent in
    ap (put_mid a (a + n - a) xs) whole ∙ lent_is_put a (a + n) xs (g (part a n xs)) (size ∙ sym lent)

-- written over in the front, or in the back, of two lists joined
module _ (a : ℕ) (bs xs ys : List ℕ) where
  pub put_front : a + length bs ≤ length xs → put a bs (xs ++ ys) ≡ put a bs xs ++ ys
  put_front fits =
      let front = take-append-le a xs ys (omega arith) in
      let back = drop-append-le (a + length bs) xs ys fits in
      (λ i. front i ++ (bs ++ back i)) ∙ ap (λ (l : List ℕ). take a xs ++ l) (sym (append_assoc bs (drop (a + length bs) xs) ys)) ∙ sym (append_assoc (take a xs) (bs ++ drop (a + length bs) xs) ys)

  pub put_back : put (length xs + a) bs (xs ++ ys) ≡ xs ++ put a bs ys
  put_back =
      let front = take-append-add xs ys a in
      let place : length xs + a + length bs ≡ length xs + (a + length bs) = omega arith in
      let back : drop (length xs + a + length bs) (xs ++ ys) ≡ drop (a + length bs) ys = rw place (drop-append-add xs ys (a + length bs)) in
      (λ i. front i ++ (bs ++ back i)) ∙ append_assoc xs (take a ys) (bs ++ drop (a + length bs) ys)

-- written twice at one place, the second stays
pub put_again : (a : ℕ) (bs cs xs : List ℕ) → length bs ≡ length cs → a + length cs ≤ length xs → put a bs (put a cs xs) ≡ put a bs xs
put_again a bs cs xs same fits =
    let front = take_put a cs xs fits a (le_refl a) in
    let back = drop-put a cs xs fits (a + length bs) (omega arith) in
    λ i. front i ++ (bs ++ back i)

-- written at two places, either first
pub put_apart : (a b : ℕ) (ys zs xs : List ℕ) → a + length ys ≤ b → b + length zs ≤ length xs → put a ys (put b zs xs) ≡ put b zs (put a ys xs)
put_apart a b ys zs xs before fits =
    let front = take b xs in
    let back = drop b xs in
    let size : length front ≡ b = length-take-le b xs (omega arith) in
    let at : length front + 0 ≡ b = omega arith in
    let whole : front ++ back ≡ xs = take-append-drop b xs in
    let within : a + length ys ≤ length front = omega arith in
    let kept : length (put a ys front) + 0 ≡ b = omega (arith, put-length a ys front within) in
    let one : put b zs xs ≡ front ++ put 0 zs back = ap₂ (λ (m : ℕ) (l : List ℕ). put m zs l) (sym at) (sym whole) ∙ put_back 0 zs front back in
    let two : put a ys xs ≡ put a ys front ++ back = ap (put a ys) (sym whole) ∙ put_front a ys front back within in
    ap (put a ys) one ∙ put_front a ys front (put 0 zs back) within
    ∙ sym (ap₂ (λ (m : ℕ) (l : List ℕ). put m zs l) (sym kept) two ∙ put_back 0 zs (put a ys front) back)

-- after two lists joined stands the third
pub drop-two : (n m : ℕ) (xs ys zs : List ℕ) → length xs ≡ n → length ys ≡ m → drop (n + m) (xs ++ (ys ++ zs)) ≡ zs
drop-two n m xs ys zs first second = sym (drop-drop m n (xs ++ (ys ++ zs))) ∙ ap (drop m) (drop_at xs (ys ++ zs) n first) ∙ drop_at ys zs m second

-- the one in the middle is replaced by one as long
pub put_at : (n : ℕ) (xs ys zs bs : List ℕ) → length xs ≡ n → length ys ≡ length bs → put n bs (xs ++ (ys ++ zs)) ≡ xs ++ (bs ++ zs)
put_at n xs ys zs bs first second = λ i. take_at xs (ys ++ zs) n first i ++ (bs ++ drop-two n (length bs) xs ys zs first second i)

-- or has a part written over
pub put_between : (n b : ℕ) (xs ys zs bs : List ℕ) → length xs ≡ n → b + length bs ≤ length ys → put (n + b) bs (xs ++ (ys ++ zs)) ≡ xs ++ (put b bs ys ++ zs)
put_between n b xs ys zs bs starts fits =
    ap (λ (m : ℕ). put (m + b) bs (xs ++ (ys ++ zs))) (sym starts) ∙ put_back b bs xs (ys ++ zs) ∙ ap (λ (l : List ℕ). xs ++ l) (put_front b bs ys zs fits)

-- a part of a part is written over
pub put-within : (a n b : ℕ) (ys xs : List ℕ) → b + length ys ≤ n → a + n ≤ length xs → put (a + b) ys xs ≡ put a (put b ys (part a n xs)) xs
put-within a n b ys xs inner outer =
    let size = part_length a n xs outer in
    let own : length (put b ys (part a n xs)) ≡ n = put-length b ys (part a n xs) (omega arith) ∙ size in
    let split : xs ≡ take a xs ++ (part a n xs ++ drop (a + n) xs) = sym (rw (← drop-drop n a xs, take-append-drop, take-append-drop)) in
    ap (put (a + b) ys) split ∙ put_between a b (take a xs) (part a n xs) (drop (a + n) xs) ys (length-take-le a xs (omega arith)) (omega arith)
    ∙ ap (λ (m : ℕ). take a xs ++ (put b ys (part a n xs) ++ drop (a + m) xs)) (sym own)
