-- `copy` copies bytes. Assumes nothing.
use Rattle.passes.proofs.Stores.{Copied}
use Rattle.emit.proofs.copy.Given as goal

abbrev pub invariant-loop-j : goal.invariant-loop-j
invariant-loop-j l = Copied l.block l.initial.out l.out l.from l.to l.j
