-- Fold at an op, whether it computes or not. Assumes nothing.
use mathlib.Core.Path.{refl, sym, ◌∙◌}
use Rattle.ops.proofs.Shapes.{computes_as_lem}
use Rattle.block.specs.Scan.{marked}
use Rattle.passes.proofs.Knowing.{others_state, folds_none}
use Rattle.fold.proofs.fold_op.Goals as goal

pub fold_computing-requires : goal.fold_computing-requires
fold_computing-requires c =
    let s = c in
    sym (computes_as_lem _ s.args.op.now.shaped) ∙ sym c.is_computing.ensures ∙ c.if-is_computing.true

pub pass_over-requires : goal.pass_over-requires
pass_over-requires c = let s = c in
    others_state s.args.op.now.stands refl (marked s.args.known.now) s.args.values.now (sym (computes_as_lem _ s.args.op.now.shaped) ∙ sym c.is_computing.ensures ∙ c.if-is_computing.false)

pub returns : goal.returns
returns c = folds_none (let s = c in
    others_state s.args.op.now.stands refl (marked s.args.known.now) s.args.values.now (sym (computes_as_lem _ s.args.op.now.shaped) ∙ sym c.is_computing.ensures ∙ c.if-is_computing.false)) c.pass_over.ensures
