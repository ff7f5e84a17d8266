-- How many bytes an access moves. Assumes nothing.
use Rattle.memory.proofs.Faults.{size_is, sized}
use Rattle.memory.proofs.AccessFlags.size.Goals as goal

pub returns-clause-bound : goal.returns-clause-bound
returns-clause-bound c = rw (size_is c.args.self.bits) (sized c.args.self.bits).1
