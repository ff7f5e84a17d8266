-- `run_ops` runs the ops on the lent globals, with temporaries at zero. Assumes nothing.
use mathlib.Core.Path.{refl}
use borrow.Author.Rules.{rules}
use Rattle.runs.proofs.Ran.{ops_ran}
use Rattle.run.proofs.run_ops.Goals as goal

pub execute-requires : goal.execute-requires
execute-requires c = c.requires

pub returns : goal.returns
returns c = ops_ran _ _ _ _ _ _ refl (search rules) c.execute.ensures
