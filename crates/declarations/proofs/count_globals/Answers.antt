-- `count_globals` reads declarations of globals. Assumes nothing.
use native.Mathlib.Omega.{arith}
use Rattle.block.proofs.Declaring.{declaring_start, next_global}
use Rattle.declarations.proofs.count_globals.Goals as goal

pub loop-n-init : goal.loop-n-init
loop-n-init c T law = declaring_start T _ _

pub loop-n-preserved : goal.loop-n-preserved
loop-n-preserved c T law = next_global law (c.loop-n.invariant T law) (omega arith) (omega arith) c.declares_global.ensures c.if-not-declares_global.false c.code.ensures
