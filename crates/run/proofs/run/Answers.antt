-- `run` answers as the definition does: there is room for the places. Assumes nothing.
use native.Mathlib.Omega.{arith}
use Rattle.run.proofs.run.Goals as goal

pub run_with-requires : goal.run_with-requires
run_with-requires c = omega (arith, c.if-block.true)

pub run_with-requires-2 : goal.run_with-requires-2
run_with-requires-2 c = omega arith

pub returns-then-block : goal.returns-then-block
returns-then-block c = c.run_with.ensures

pub returns : goal.returns
returns c = c.run_with-2.ensures
