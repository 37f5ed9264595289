-- What is proved of the reasons. `proofs/` has its proof under the law's name in small letters. Assumes nothing.
use Rattle.std.specs.Prelude.{◌≡◌}
use Rattle.refusals.specs.Numbers.{number_of}
use Rattle.refusals.specs.declared.Reason.{Reason}

-- a number tells its reason: no two have the same
abbrev pub NumberTold : Type 0
NumberTold = (r s : Reason) → number_of r ≡ number_of s → r ≡ s
