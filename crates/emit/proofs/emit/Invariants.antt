-- The kept ops, copied in runs. Assumes nothing.
use lib.ListN.{length}
use Rattle.passes.proofs.Emitting.{EmittingSo}
use Rattle.emit.proofs.emit.Given as goal

abbrev pub invariant-loop-i : goal.invariant-loop-i
invariant-loop-i l = EmittingSo l.ops.block.now l.ops.places.now l.marks l.initial.out l.out (length l.ops.places.now) l.from l.to l.i
