-- `reading::read_full` meets its contract: what a read gives stands behind what was read before. Assumes nothing.
use Rattle.std.proofs.Common.{◌≡◌, ◌∙◌, ◌+◌, ◌-◌, ◌≤◌, ℕ, List, ◌++◌, refl, sym, ap, subst, arith, length, take, drop}
use Rattle.std.proofs.lemmas.List.{length-take, length-take-le}
use Rattle.std.proofs.lemmas.Slice.{take-put_mid}
use Rattle.std.proofs.Math.Seq.{take-append-add, take-take}
use Rattle.std.proofs.KnownBytes.{Consumes-trans}
use borrow.Rule.Slice.PartMut.{put_mid, same_len_mid}
use Rattle.reading.proofs.read_full.Goals as goal

-- the front of a list of which a part from a on is written over
read_over : (a k n : ℕ) (xs ys : List ℕ) → a ≤ length xs → n ≤ length ys → take (a + n) (put_mid a k xs ys) ≡ take a xs ++ take n ys
read_over a k n xs ys within few =
    let front : length (take a xs) ≡ a = length-take-le a xs within in
    sym (take-take (a + n) (a + length ys) (put_mid a k xs ys) (omega arith))
    ∙ ap (take (a + n)) (take-put_mid a k xs ys (a + length ys) refl within)
    ∙ subst (λ (m : ℕ). take (m + n) (take a xs ++ ys) ≡ take a xs ++ take n ys) front (take-append-add (take a xs) ys n)

pub loop-done-preserved : goal.loop-done-preserved
loop-done-preserved g c =
    let loop = c.loop-done in
    let n = c.in-Ok.n in
    let room = length loop.buf - loop.done in
    let given = c.in-Ok.ensures.bytes.0 in
    let few : n ≤ length c.read.new.buf = c.in-Ok.ensures.bound.0 in
    let same : length (put_mid loop.done room loop.buf c.read.new.buf) ≡ length loop.buf = same_len_mid loop.done room loop.buf c.read.new.buf c.read.auto.buf in
    let size : length c.read.new.buf ≤ room = omega (arith, c.read.auto.buf, length-take room (drop loop.done loop.buf)) in
    let over = read_over loop.done room n loop.buf c.read.new.buf loop.invariant.bound few in
    record {
      bound = omega (arith, few, size, same, loop.invariant.bound);
      bytes = rw over (Consumes-trans _ _ _ _ _ loop.invariant.bytes given);
    }
