-- Four bytes in the other order. Assumes nothing.
use native.Mathlib.Omega.{arith}
use Rattle.word.specs.Swaps.{swap_bytes}
use Rattle.bits.proofs.swaps.swap4.Goals as goal

pub returns : goal.returns
unfolding swap_bytes
returns c = omega arith
