-- Only a pure op is dead, where its output is not live. Assumes nothing.
use mathlib.Core.Path.{refl, sym, ◌∙◌}
use Prim.Native.Nat.{◌+◌, ◌<◌}
use native.Mathlib.Omega.{arith}
use lib.ListN.{get_or}
use borrow.Author.Tests.{ltb-true, ltb-false, not-true, not-false}
use Rattle.ops.specs.Shapes.{role_as}
use Rattle.ops.proofs.Shapes.{role_as_lem}
use Rattle.passes.specs.Live.{live_of}
use Rattle.passes.proofs.Before.{operands_inside, never_dead, dead_if}
use Rattle.passes.proofs.Counts.{pure_out}
use Rattle.passes.proofs.Events.{none_one}
use Rattle.prune.proofs.dead_op.Goals as goal

pub returns-then-not-is_pure : goal.returns-then-not-is_pure
returns-then-not-is_pure c =
    let start = c in
    let a = start.args in
    let low = ltb-false 7 (role_as a.op.now.shape) (sym c.is_pure.ensures ∙ not-true _ c.if-not-is_pure.true-raw) in
    never_dead start.args.op.now.stands refl (live_of a.events.now a.floors.now a.classes.now) (role_as_lem _ start.args.op.now.shaped refl) (omega (arith, low))

pub bounds-op-op : goal.bounds-op-op
bounds-op-op c =
    let pure : 7 < role_as c.args.op.now.shape = ltb-true 7 _ (sym c.is_pure.ensures ∙ not-false _ c.if-not-is_pure.false-raw) in
    let one = pure_out (get_or c.args.op.now.block.now c.args.op.now.at 0) refl (omega (arith, role_as_lem _ c.args.op.now.shaped refl, pure)) in
    omega (arith, operands_inside c.args.op.now.stands refl, one)

pub returns : goal.returns
returns c =
    let a = c.args in
    let l = live_of a.events.now a.floors.now a.classes.now in
    let pure : 7 < role_as c.args.op.now.shape = ltb-true 7 _ (sym c.is_pure.ensures ∙ not-false _ c.if-not-is_pure.false-raw) in
    let one = pure_out (get_or c.args.op.now.block.now c.args.op.now.at 0) refl (omega (arith, role_as_lem _ c.args.op.now.shaped refl, pure)) in
    dead_if c.args.op.now.stands refl l (role_as_lem _ c.args.op.now.shaped refl) (omega (arith, pure)) (none_one l a.op.now.block.now (a.op.now.at + 1) one c.is_live.ensures)
