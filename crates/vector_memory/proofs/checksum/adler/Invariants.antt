-- `vector_memory::adler`: both sums stay below the modulus, and with what is left of the bytes they decide as the whole does. Assumes nothing.
use Rattle.std.proofs.Common.{◌≡◌, ◌<◌, drop}
use Rattle.vector_memory.specs.Checksum.{adler_from, adler32}
use Rattle.vector_memory.proofs.checksum.adler.Given as goal

abbrev pub invariant-loop-b : goal.invariant-loop-b
invariant-loop-b l = record {
  low_below : l.low < 65521;
  high_below : l.high < 65521;
  rest : adler32 l.bytes ≡ adler_from l.low l.high (drop l.b-index l.bytes);
}
