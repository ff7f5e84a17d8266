-- A value that is known to be stated takes the op's place. Assumes nothing.
use mathlib.Core.Path.{refl}
use native.Mathlib.Omega.{arith}
use Rattle.block.specs.Scan.{marked}
use Rattle.block.proofs.Views.{inside}
use Rattle.passes.proofs.Knowing.{computed_at, folds_value, folds_none, over_computing, forgotten}
use Rattle.fold.proofs.fold_computing.Goals as goal

pub bounds-op-op : goal.bounds-op-op
bounds-op-op c =
    let s = c in
    inside s.args.op.now.stands (computed_at s.args.op.now.stands refl s.requires).role_is 1 (omega arith)

pub returns-in_default : goal.returns-in_default
returns-in_default c =
    let s = c in
    let none = rw c.in_default.is at s.stated_by-stated.ensures in
    folds_none none (over_computing s.args.op.now.stands refl s.requires (marked s.args.known.now) s.args.values.now none (forgotten c.put.ensures))

pub returns : goal.returns
returns c = folds_value c.args.op.now.stands c.stated_by-stated.ensures c.in-Some.is c.learn.ensures
