-- The pass of an accepted block: fold, prune, and the result if there is room. Assumes nothing.
use native.Mathlib.Omega.{arith}
use Rattle.passes.proofs.Passing.{declared_fit, few_here, size_small, pass_short, all_fit, pass_stores}
use Rattle.passes.proofs.Pruning.{kept_marked}
use Rattle.rewrite.proofs.write_result.Goals as goal

pub prune-requires : goal.prune-requires
prune-requires c =
    let r = c.args.source.now.ready in (record { constants = _; folded = c.fold.ensures }, r.classes_are.few, few_here r, omega (arith, c.requires.0))

pub overflow_add-size : goal.overflow_add-size
overflow_add-size c = omega (arith, size_small c.args.source.now.ready c.prune.ensures)

pub returns-then-out-size : goal.returns-then-out-size
returns-then-out-size c = pass_short c.args.source.now.ready c.prune.ensures c.if-out-size.true

pub emit-requires : goal.emit-requires
emit-requires c =
    let r = c.args.source.now.ready in (
      kept_marked c.fold.ensures c.prune.ensures,
      omega (arith, r.first_is, declared_fit r),
      omega (arith, c.requires.0),
      omega (arith, c.requires.1),
      all_fit r c.prune.ensures c.args.out.now c.if-out-size.false,
    )

pub returns : goal.returns
returns c = pass_stores c.args.source.now.ready c.prune.ensures c.args.out.now c.if-out-size.false c.emit.ensures
