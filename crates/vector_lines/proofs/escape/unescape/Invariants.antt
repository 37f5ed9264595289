-- `vector_lines::unescape`: what has been written so far and what is left, as `Decoding` has it. Assumes nothing.
use Rattle.vector_lines.proofs.Escapes.{Decoding}
use Rattle.vector_lines.proofs.escape.unescape.Given as goal

abbrev pub invariant-loop-n : goal.invariant-loop-n
invariant-loop-n l = Decoding l.text l.initial.out l.out l.rest l.n
