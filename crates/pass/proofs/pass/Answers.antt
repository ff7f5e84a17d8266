-- The pass has room for the places. Assumes nothing.
use native.Mathlib.Omega.{arith}
use Rattle.pass.proofs.pass.Goals as goal

pub pass_with-requires : goal.pass_with-requires
pass_with-requires c = omega (arith, c.if-block.true)

pub pass_with-requires-2 : goal.pass_with-requires-2
pass_with-requires-2 c = omega arith

pub returns-then-block : goal.returns-then-block
returns-then-block c = c.pass_with.ensures

pub returns : goal.returns
returns c = c.pass_with-2.ensures
