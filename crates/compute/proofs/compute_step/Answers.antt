-- A pure op that reads something: its value, or no stated result. Assumes nothing.
use native.Mathlib.Omega.{arith}
use Rattle.block.proofs.Views.{inside}
use Rattle.runs.specs.Evaluates.{env_of}
use Rattle.runs.proofs.Variables.{put_env}
use Rattle.runs.proofs.Performed.{compute_falls, compute_unstated}
use Rattle.compute.proofs.compute_step.Goals as goal

pub bounds-block-at : goal.bounds-block-at
bounds-block-at c =
    let pre = c.requires in
    inside pre.stands pre.role_is 1 (omega arith)

pub returns-in_default : goal.returns-in_default
returns-in_default c =
    let start = c in
    let evaluated = c.evaluate-stated in
    compute_unstated start.requires (env_of start.args.globals.now start.args.temps.now) evaluated.result evaluated.ensures c.in_default.is

pub returns : goal.returns
returns c =
    let start = c in
    let entry = c.entry-entry.ensures in
    let evaluated = c.evaluate-stated in
    compute_falls start.requires (env_of start.args.globals.now start.args.temps.now) evaluated.result evaluated.ensures c.in-Some.is
    (put_env c.put.ensures) entry c.body_length.ensures
