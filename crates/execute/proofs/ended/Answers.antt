-- An exit and a fault count, an op without a stated result does not. Assumes nothing.
use Rattle.runs.proofs.Running.{ended_so, ended_uncounted}
use Rattle.execute.proofs.ended.Goals as goal

pub returns-in-Leaves : goal.returns-in-Leaves
returns-in-Leaves c = ended_so c.args.op c.args.count c.in-Leaves.is

pub returns-in-Faults : goal.returns-in-Faults
returns-in-Faults c = ended_so c.args.op c.args.count c.in-Faults.is

pub returns-in-Unstated : goal.returns-in-Unstated
returns-in-Unstated c = ended_uncounted c.args.op c.args.count c.in-Unstated.is
