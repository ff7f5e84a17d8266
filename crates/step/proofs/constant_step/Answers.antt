-- A constant: the eight bytes. Assumes nothing.
use Prim.Native.Nat.{◌+◌}
use native.Mathlib.Omega.{arith}
use Rattle.memory.proofs.Numbers.{low_slice}
use Rattle.runs.specs.Evaluates.{env_of}
use Rattle.runs.proofs.Variables.{put_env}
use Rattle.runs.proofs.Performed.{constant_falls}
use Rattle.step.proofs.constant_step.Goals as goal

pub returns : goal.returns
returns c =
    let a = c.args in
    constant_falls a.block.now (env_of a.globals.now a.temps.now) _ a.at
    (low_slice a.block.now (a.at + 2) (a.at + 10) c.from_little_endian.ensures (omega arith)) (put_env c.put.ensures)
