-- A pure op's output dies, and its inputs wake; of any other op the inputs come last. Assumes nothing.
use mathlib.Core.Path.{refl, sym, ◌∙◌}
use Prim.Native.Nat.{◌<◌}
use native.Mathlib.Omega.{arith}
use lib.ListN.{get_or}
use borrow.Author.Tests.{ltb-true, ltb-false}
use Rattle.ops.specs.Shapes.{role_as}
use Rattle.ops.proofs.Shapes.{outs_as_lem, ins_as_lem, role_as_lem}
use Rattle.passes.proofs.Before.{operands_inside}
use Rattle.passes.proofs.Counts.{few_ins, pure_out}
use Rattle.passes.proofs.Events.{timed_one, turn_constant, turn_inputs, turn_computed, not_replaced}
use Rattle.live.proofs.live_before.Goals as goal

pub returns-then-mark-eq1 : goal.returns-then-mark-eq1
returns-then-mark-eq1 c =
    let s = c in
    turn_constant s.args.mark s.args.time s.args.events.now s.args.floors.now s.args.op.now.stands refl s.requires.0 _ c.if-mark-eq1.true (timed_one c.put.ensures)

pub wake-requires : goal.wake-requires
wake-requires c =
    let n = ins_as_lem _ c.args.op.now.shaped c.ins.ensures in
    let role : 7 < role_as c.args.op.now.shape = ltb-true 7 _ (sym c.is_pure.ensures ∙ c.if-is_pure.true) in
    let kind = get_or c.args.op.now.block.now c.args.op.now.at 0 in (
      omega (arith, operands_inside c.args.op.now.stands refl, pure_out kind refl (omega (arith, role_as_lem _ c.args.op.now.shaped refl, role)), n),
      omega (arith, few_ins kind refl, n),
    )

pub returns-then-is_pure : goal.returns-then-is_pure
returns-then-is_pure c =
    let k = c in
    let s = k in
    turn_computed s.args.mark s.args.time s.args.events.now s.args.floors.now s.args.op.now.stands refl s.requires.0 _ _ (role_as_lem _ s.args.op.now.shaped refl) (ltb-true 7 _ (sym k.is_pure.ensures ∙ k.if-is_pure.true)) c.if-mark-eq1.false
    (timed_one c.put.ensures) (rw (ins_as_lem _ s.args.op.now.shaped c.ins.ensures) at c.wake.ensures)

pub wake-requires-2 : goal.wake-requires-2
wake-requires-2 c =
    let s = c in
    let n = ins_as_lem _ s.args.op.now.shaped c.ins-2.ensures in
    (omega (arith, operands_inside s.args.op.now.stands refl, n, outs_as_lem _ s.args.op.now.shaped c.outs.ensures), omega (arith, few_ins (get_or s.args.op.now.block.now s.args.op.now.at 0) refl, n))

pub returns : goal.returns
returns c =
    let k = c in
    let s = k in
    turn_inputs s.args.mark s.args.time s.args.events.now s.args.floors.now s.args.op.now.stands refl s.requires.0 _ _ _
    (not_replaced s.args.mark s.args.time s.args.events.now s.args.floors.now s.args.op.now.stands refl s.requires.0 (role_as_lem _ s.args.op.now.shaped refl) (omega (arith, ltb-false 7 (role_as s.args.op.now.shape) (sym k.is_pure.ensures ∙ k.if-is_pure.false))) s.requires.2)
    c.live_but_inputs.ensures (rw (outs_as_lem _ s.args.op.now.shaped c.outs.ensures, ins_as_lem _ s.args.op.now.shaped c.ins-2.ensures) at c.wake-2.ensures)

pub bounds-op-op : goal.bounds-op-op
bounds-op-op c =
    let role : 7 < role_as c.args.op.now.shape = ltb-true 7 _ (sym c.is_pure.ensures ∙ c.if-is_pure.true) in
    omega (arith, operands_inside c.args.op.now.stands refl, pure_out (get_or c.args.op.now.block.now c.args.op.now.at 0) refl (omega (arith, role_as_lem _ c.args.op.now.shaped refl, role)))

pub live_but_inputs-requires : goal.live_but_inputs-requires
live_but_inputs-requires c = let k = c in let p = k.requires in (p.0, p.1, (sym k.is_pure.ensures ∙ k.if-is_pure.false))
