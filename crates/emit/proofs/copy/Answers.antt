-- `copy` copies bytes. Assumes nothing.
use native.Mathlib.Omega.{arith}
use Rattle.passes.proofs.Stores.{copied_start, copied_length, copied_next, copied_ends}
use Rattle.emit.proofs.copy.Goals as goal

pub loop-j-init : goal.loop-j-init
loop-j-init c = copied_start _ _ _ _

pub bounds-out-to : goal.bounds-out-to
bounds-out-to c = omega (arith, copied_length c.loop-j.invariant, c.requires, c.loop-j-test.true)

pub loop-j-preserved : goal.loop-j-preserved
loop-j-preserved c = copied_next c.loop-j.invariant (omega (arith, c.requires, c.loop-j-test.true))

pub shape_of-out : goal.shape_of-out
shape_of-out c = copied_length c.loop-j.invariant

pub returns : goal.returns
returns c = copied_ends c.loop-j.invariant (omega arith) c.loop-j-test.false
