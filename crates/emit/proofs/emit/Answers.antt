-- The kept ops, copied in runs. Assumes nothing.
use mathlib.Core.Path.{ap, ◌∙◌}
use Prim.Native.Nat.{◌-◌, ◌<◌}
use native.Mathlib.Omega.{arith}
use lib.ListN.{length, drop, length-drop}
use lib.Seq.{length-sets, length-take-le}
use Rattle.passes.proofs.Emitting.{emitting_start, here, emitting_stays, edit_computes, edit_room, emitting_edits, run_fits, emitting_ends, marked_some}
use Rattle.emit.proofs.emit.Goals as goal
use Rattle.emit.proofs.emit.Goals.{then-mark-ne0, else-mark-ne0}

pub loop-i-init : goal.loop-i-init
loop-i-init c = emitting_start c.requires.1

pub bounds-marks-i : goal.bounds-marks-i
bounds-marks-i c = omega (arith, c.requires.2, c.loop-i-test.true, c.len-i-end.ensures)

pub offset_bounds-constants-i : goal.offset_bounds-constants-i
offset_bounds-constants-i c = omega (arith, c.requires.3, c.loop-i-test.true, c.len-i-end.ensures)

pub bounds-constants-i : goal.bounds-constants-i
bounds-constants-i c = omega (arith, c.requires.3, c.loop-i-test.true, c.len-i-end.ensures)

pub put_edit-to-requires : goal.put_edit-to-requires
put_edit-to-requires c =
    let laid = c.args.ops.now.laid in
    let left = c.requires.0 in
    let so = c.loop-i.invariant in
    let more : c.loop-i.i < length c.args.ops.now.places.now = omega (arith, c.loop-i-test.true, c.len-i-end.ensures) in
    rw (c.op-op.ensures.0, c.op-op.ensures.1) (
      edit_computes laid left so more,
      (here laid left so more).ordered,
      edit_room laid left so more (marked_some c.if-mark-ne0.true) c.requires.4,
    )

pub loop-i-preserved : goal.loop-i-preserved
loop-i-preserved c =
    let laid = c.args.ops.now.laid in
    let left = c.requires.0 in
    let so = c.loop-i.invariant in
    let more : c.loop-i.i < length c.args.ops.now.places.now = omega (arith, c.loop-i-test.true, c.len-i-end.ensures) in
    elim c.if-mark-ne0.branch [
      | then-mark-ne0 w ↦ rw (w.out-is, w.from-is, w.to-is) (let put = rw (w.op-op.ensures.0, w.op-op.ensures.1) at w.put_edit-to.ensures in emitting_edits laid left so more (marked_some w.if-mark-ne0.true) put.1 put.0 w.place-from.ensures)
      | else-mark-ne0 w ↦ rw (w.out-is, w.from-is, w.to-is) (emitting_stays laid left so more w.if-mark-ne0.false)
    ]

pub put_bytes-requires : goal.put_bytes-requires
put_bytes-requires c =
    let block = c.args.ops.now.block.now in
    let fits = run_fits c.args.ops.now.laid c.requires.0 c.loop-i.invariant (omega (arith, c.loop-i-test.false, c.len-i-end.ensures)) c.requires.4 in
    let long = length-take-le (length block - c.loop-i.from) (drop c.loop-i.from block) (omega (arith, length-drop c.loop-i.from block)) in
    omega (arith, fits.1, long)

pub shape_of-out : goal.shape_of-out
shape_of-out c = ap length c.put_bytes.ensures ∙ (simp length-sets) ∙ c.loop-i.invariant.copied.same_long

pub returns : goal.returns
returns c = emitting_ends c.args.ops.now.laid c.requires.0 c.loop-i.invariant (omega (arith, c.loop-i-test.false, c.len-i-end.ensures)) c.put_bytes.ensures
