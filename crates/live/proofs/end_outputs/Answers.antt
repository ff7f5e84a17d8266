-- There is at most one output. Assumes nothing.
use mathlib.Core.Path.{refl}
use Prim.Native.Nat.{◌+◌}
use native.Mathlib.Omega.{arith}
use lib.ListN.{get_or}
use Rattle.ops.specs.Rows.{outs_in}
use Rattle.ops.specs.Fields.{bytes_at}
use Rattle.ops.specs.Plans.{entry_at}
use Rattle.ops.proofs.Shapes.{outs_as_lem}
use Rattle.passes.proofs.Before.{operands_inside}
use Rattle.passes.proofs.Events.{timed_one, timed_none, timed_as, one_byte, no_byte}
use Rattle.live.proofs.end_outputs.Goals as goal

pub bounds-op-op : goal.bounds-op-op
bounds-op-op c =
    let s = c in
    omega (arith, operands_inside s.args.op.now.stands refl, outs_as_lem _ s.args.op.now.shaped c.outs.ensures, c.if-outs-eq1.true)

pub returns-then-outs-eq1 : goal.returns-then-outs-eq1
returns-then-outs-eq1 c =
    let s = c in
    let a = s.args in
    timed_as (bytes_at a.op.now.block.now (a.op.now.at + 1) (outs_in (entry_at a.op.now.block.now a.op.now.at))) (one_byte a.op.now.block.now (a.op.now.at + 1) (get_or a.op.now.block.now a.op.now.at 0) refl (outs_as_lem _ s.args.op.now.shaped c.outs.ensures) c.if-outs-eq1.true) (timed_one c.put.ensures)

pub returns-else-outs-eq1 : goal.returns-else-outs-eq1
returns-else-outs-eq1 c =
    let s = c in
    let a = s.args in
    timed_as (bytes_at a.op.now.block.now (a.op.now.at + 1) (outs_in (entry_at a.op.now.block.now a.op.now.at))) (no_byte a.op.now.block.now (a.op.now.at + 1) (get_or a.op.now.block.now a.op.now.at 0) refl (outs_as_lem _ s.args.op.now.shaped c.outs.ensures) c.if-outs-eq1.false) (timed_none a.events.now a.time)
