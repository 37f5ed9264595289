-- `records::bad_byte` meets its contract. Assumes nothing.
use Prim.Native.Nat.{◌-◌, ◌≤◌}
use mathlib.Core.Bool.{true, ◌&&◌}
use mathlib.Core.Path.{◌≡◌, sym, ◌∙◌, ap}
use native.Mathlib.Omega.{arith}
use lib.ListN.{length, take, drop, length-drop}
use lib.Seq.{take_all}
use Rattle.sequences.specs.Every.{every}
use Rattle.sequences.proofs.Every.{every_split, every_fold}
use Rattle.records.specs.Bytes.{is_printable}
use Rattle.records.proofs.Printable.{no_bad_byte}
use Rattle.records.proofs.bytes.bad_byte.Goals as goal

pub returns-then-all_printable : goal.returns-then-all_printable
returns-then-all_printable c =
    let rec = c.args.rec.now in
    let whole : length (drop 96 rec) ≤ length rec - 96 = omega (arith, length-drop 96 rec) in
    let rest : take (length rec - 96) (drop 96 rec) ≡ drop 96 rec = take_all _ _ whole in
    let front = c.all_printable.ensures ∙ every_fold is_printable true (take 96 rec) in
    let back = c.all_printable-2.ensures ∙ every_fold is_printable true (take (length rec - 96) (drop 96 rec)) ∙ ap (every is_printable) rest in
    let joined : (every is_printable (take 96 rec) && every is_printable (drop 96 rec)) ≡ true = rw (← front, ← back) c.if-all_printable.true in
    sym (no_bad_byte 1 _ (every_split is_printable 96 rec ∙ joined))
