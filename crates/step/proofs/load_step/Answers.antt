-- A load: its value, or the fault. Assumes nothing.
use Rattle.runs.specs.Evaluates.{env_of}
use Rattle.runs.proofs.Variables.{put_env}
use Rattle.runs.proofs.Performed.{load_falls}
use Rattle.step.proofs.load_step.Goals as goal

pub returns-in-Ok : goal.returns-in-Ok
returns-in-Ok c =
    let args = c.args in
    let get = c.get-address.ensures in
    let load = c.load.ensures in
    load_falls args.block.now (env_of args.globals.now args.temps.now) args.memory.now args.at args.wide get load c.in-Ok.is (put_env c.put.ensures)
