-- What is known after an op that stays, by its role. Assumes nothing.
use mathlib.Core.Path.{refl, sym, ◌∙◌}
use Prim.Native.Nat.{◌+◌}
use native.Mathlib.Omega.{arith}
use borrow.Author.Tests.{eqb-true, eqb-false, ltb-true, ltb-false}
use Rattle.memory.proofs.Numbers.{low_slice}
use Rattle.ops.proofs.Shapes.{outs_as_lem, role_or_lem}
use Rattle.block.specs.Scan.{marked}
use Rattle.block.proofs.MarkSets.{marked_none}
use Rattle.block.proofs.Views.{inside}
use Rattle.passes.proofs.Before.{operands_inside}
use Rattle.passes.proofs.Knowing.{is_constant, over_constant, over_end, over_output, over_nothing, forgotten}
use Rattle.fold.proofs.pass_over.Goals as goal

pub bounds-op-op : goal.bounds-op-op
bounds-op-op c = inside c.args.op.now.stands (is_constant c.args.op.now.stands refl (role_or_lem _ c.args.op.now.shaped c.role-role.ensures) (marked c.args.known.now) c.args.values.now (eqb-true _ 8 (sym c.is_constant.ensures ∙ c.if-is_constant.true))) 1 (omega arith)

pub slice_bounds-from_little_endian-end : goal.slice_bounds-from_little_endian-end
slice_bounds-from_little_endian-end c = omega (arith, inside c.args.op.now.stands (is_constant c.args.op.now.stands refl (role_or_lem _ c.args.op.now.shaped c.role-role.ensures) (marked c.args.known.now) c.args.values.now (eqb-true _ 8 (sym c.is_constant.ensures ∙ c.if-is_constant.true))) 9 (omega arith))

pub returns-then-is_constant : goal.returns-then-is_constant
returns-then-is_constant c =
    let k = c in
    let start = k in
    let a = start.args in
    over_constant start.args.op.now.stands refl (role_or_lem _ start.args.op.now.shaped k.role-role.ensures) (marked a.known.now) a.values.now (eqb-true _ 8 (sym k.is_constant.ensures ∙ k.if-is_constant.true))
    (low_slice a.op.now.block.now (a.op.now.at + 2) (a.op.now.at + 10) c.from_little_endian.ensures (omega arith)) c.learn.ensures

pub returns-then-is_closing : goal.returns-then-is_closing
returns-then-is_closing c =
    let start = c in
    over_end start.args.op.now.stands refl (role_or_lem _ start.args.op.now.shaped c.role-role.ensures) (marked start.args.known.now) start.args.values.now (ltb-true _ 5 (sym c.is_closing.ensures ∙ c.if-is_closing.true)) (marked_none 256 refl)

pub bounds-op-op-then-outs-eq1 : goal.bounds-op-op-then-outs-eq1
bounds-op-op-then-outs-eq1 c =
    let start = c in
    omega (arith, operands_inside start.args.op.now.stands refl, outs_as_lem _ start.args.op.now.shaped c.outs.ensures, c.if-outs-eq1.true)

pub returns-then-outs-eq1 : goal.returns-then-outs-eq1
returns-then-outs-eq1 c =
    let start = c in
    over_output start.args.op.now.stands refl (role_or_lem _ start.args.op.now.shaped c.role-role.ensures) (marked start.args.known.now) start.args.values.now (ltb-false _ 5 (sym c.is_closing.ensures ∙ c.if-is_closing.false)) (eqb-false _ 8 (sym c.is_constant.ensures ∙ c.if-is_constant.false)) start.requires
    (outs_as_lem _ start.args.op.now.shaped c.outs.ensures) c.if-outs-eq1.true (forgotten c.put.ensures)

pub returns-else-outs-eq1 : goal.returns-else-outs-eq1
returns-else-outs-eq1 c =
    let start = c in
    over_nothing start.args.op.now.stands refl (role_or_lem _ start.args.op.now.shaped c.role-role.ensures) (marked start.args.known.now) start.args.values.now (ltb-false _ 5 (sym c.is_closing.ensures ∙ c.if-is_closing.false)) (eqb-false _ 8 (sym c.is_constant.ensures ∙ c.if-is_constant.false)) start.requires
    (outs_as_lem _ start.args.op.now.shaped c.outs.ensures) c.if-outs-eq1.false
