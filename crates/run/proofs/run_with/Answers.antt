-- `run_with` answers as the definition does: the check, rule 11, and the ops. Assumes nothing.
use mathlib.Core.Path.{◌∙◌}
use Rattle.runs.proofs.Ran.{unlent_ran, accepted_ran}
use Rattle.run.proofs.Ready.{ready_first}
use Rattle.run.proofs.run_with.Goals as goal

pub returns-then-not-lent_ok : goal.returns-then-not-lent_ok
returns-then-not-lent_ok c = unlent_ran c.in_ok-s.ensures c.args.globals.now c.args.memory.now c.lent_ok.ensures c.if-not-lent_ok.true

pub run_ops-ending-requires : goal.run_ops-ending-requires
run_ops-ending-requires c = ready_first c.in_ok-s.ensures

pub returns : goal.returns
returns c = c.run_ops-ending.ensures ∙ accepted_ran c.in_ok-s.ensures c.args.globals.now c.args.memory.now c.lent_ok.ensures c.if-not-lent_ok.false
