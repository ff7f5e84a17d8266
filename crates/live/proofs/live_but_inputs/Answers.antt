-- What is live before an op but for its inputs, by its role. Assumes nothing.
use mathlib.Core.Path.{refl, sym, ◌∙◌}
use native.Mathlib.Omega.{arith}
use borrow.Author.Tests.{ltb-true, ltb-false}
use Rattle.ops.specs.Plans.{entry_at}
use Rattle.ops.specs.Shapes.{role_as}
use Rattle.ops.proofs.Shapes.{role_as_lem, role_or_lem, labels_as}
use Rattle.passes.proofs.Events.{turn_ends, turn_others}
use Rattle.live.proofs.live_but_inputs.Goals as goal

pub returns-then-is_closing : goal.returns-then-is_closing
returns-then-is_closing c =
    let s = c in
    let a = s.args in
    turn_ends (entry_at a.op.now.block.now a.op.now.at) a.time a.op.now.block.now a.op.now.at a.events.now a.floors.now (role_or_lem _ s.args.op.now.shaped c.role.ensures) s.requires.0 (ltb-true _ 5 (sym c.is_closing.ensures ∙ c.if-is_closing.true)) (rw (labels_as _ s.args.op.now.shaped) at c.local_time.ensures)

pub returns : goal.returns
returns c =
    let e = c in
    let s = e in
    let a = s.args in
    turn_others (entry_at a.op.now.block.now a.op.now.at) a.time a.op.now.block.now a.op.now.at a.events.now a.floors.now (role_or_lem _ s.args.op.now.shaped e.role.ensures) s.requires.0 _ c.end_outputs.ensures (ltb-false _ 5 (sym e.is_closing.ensures ∙ e.if-is_closing.false))
    (omega (arith, role_or_lem _ s.args.op.now.shaped e.role.ensures, role_as_lem _ s.args.op.now.shaped refl, ltb-false 7 (role_as a.op.now.shape) s.requires.2)) (rw (labels_as _ s.args.op.now.shaped) at c.local_time-2.ensures)
