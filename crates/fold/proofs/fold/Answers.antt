-- Fold, from the first op. Assumes nothing.
use mathlib.Core.Path.{refl, ◌∙◌}
use Prim.Native.Nat.{◌<◌}
use native.Mathlib.Omega.{arith}
use lib.ListN.{length, length-set}
use Rattle.block.proofs.MarkSets.{marked_none}
use Rattle.passes.proofs.Forward.{folding_start, folding_stays, folding_puts, folding_ends}
use Rattle.fold.proofs.fold.Goals as goal
use Rattle.fold.proofs.fold.Goals.{in-Some, in-None}

pub loop-i-init : goal.loop-i-init
loop-i-init c = (refl, refl, folding_start _ (marked_none 256 refl))

pub bounds-marks-i : goal.bounds-marks-i
bounds-marks-i c = omega (arith, c.requires.0, c.loop-i.invariant.0, c.loop-i-test.true, c.len-i-end.ensures)

pub offset_bounds-constants-i : goal.offset_bounds-constants-i
offset_bounds-constants-i c = omega (arith, c.requires.1, c.loop-i.invariant.1, c.loop-i-test.true, c.len-i-end.ensures)

pub bounds-constants-i : goal.bounds-constants-i
bounds-constants-i c = omega (arith, c.requires.1, c.loop-i.invariant.1, c.loop-i-test.true, c.len-i-end.ensures)

pub bounds-marks-i-in-None : goal.bounds-marks-i-in-None
bounds-marks-i-in-None c = omega (arith, c.requires.0, c.loop-i.invariant.0, c.loop-i-test.true, c.len-i-end.ensures)

pub loop-i-preserved : goal.loop-i-preserved
loop-i-preserved c =
    let loop = c.loop-i in
    let more : loop.i < length c.args.ops.now.places.now = omega (arith, c.loop-i-test.true, c.len-i-end.ensures) in
    let folds = rw (c.op-op.ensures.0, c.op-op.ensures.1) at c.fold_op-stated.ensures in
    let long : loop.i < length loop.marks = omega (arith, c.requires.0, loop.invariant.0, more) in
    let longer : loop.i < length loop.constants = omega (arith, c.requires.1, loop.invariant.1, more) in
    elim c.match-stated.branch [
      | in-Some w ↦ rw (w.marks-is, w.constants-is) (length-set loop.marks loop.i _ ∙ loop.invariant.0, length-set loop.constants loop.i _ ∙ loop.invariant.1, folding_puts loop.invariant.2 more folds long longer w.in-Some.is)
      | in-None w ↦ rw (w.marks-is, w.constants-is) (length-set loop.marks loop.i _ ∙ loop.invariant.0, loop.invariant.1, folding_stays loop.invariant.2 more folds long w.in-None.is)
    ]

pub shape_of-marks : goal.shape_of-marks
shape_of-marks c = c.loop-i.invariant.0

pub shape_of-constants : goal.shape_of-constants
shape_of-constants c = c.loop-i.invariant.1

pub returns : goal.returns
returns c = folding_ends c.loop-i.invariant.2 (omega (arith, c.loop-i-test.false, c.len-i-end.ensures))
