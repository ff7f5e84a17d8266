-- Prune, from the last op. Assumes nothing.
use mathlib.Core.Path.{◌≡◌, refl, sym, ◌∙◌}
use Prim.Native.Nat.{ℕ, ◌-◌, ◌≤◌, ◌<◌}
use native.Mathlib.Omega.{arith}
use lib.Dec.{eqb}
use lib.ListN.{length, get_or, length-set}
use Rattle.ops.proofs.Bounds.{limits_fit}
use Rattle.block.specs.Rules.{globals_in, kept_in}
use Rattle.passes.proofs.Events.{start_live, start_young, later}
use Rattle.passes.proofs.Placing.{place_there, place_last, place_before}
use Rattle.passes.proofs.Pruning.{pruning_start, before_that, long_so, mark_computes, size_fits, pruning_dead, pruning_kept, pruning_ends}
use Rattle.prune.proofs.prune.Goals as goal
use Rattle.prune.proofs.prune.Goals.{then-dead_op, else-dead_op}

-- an op that the loop has not read
low_there : {i n m : ℕ} → n ≡ m → 0 < i → i ≤ n → (i - 1 < m) × (i ≤ m)
low_there e k h = (omega (arith, e, k, h), omega (arith, e, h))

pub loop-i-init : goal.loop-i-init
loop-i-init c =
    let a = c.args in
    let block = a.ops.now.block.now in
    let places = a.ops.now.places.now in
    rw c.len-i.ensures (
      refl,
      place_last block places (length places),
      omega arith,
      start_young,
      rw (start_live a.classes.now c.requires.1) (pruning_start block places a.marks.now (globals_in a.classes.now) (kept_in a.classes.now) (length places)),
    )

pub op-op-requires : goal.op-op-requires
op-op-requires c = (low_there c.len-i.ensures c.loop-i-test.true c.loop-i.auto.i).0

pub bounds-marks-i : goal.bounds-marks-i
bounds-marks-i c = omega (arith, c.requires.3, c.loop-i.invariant.0, low_there c.len-i.ensures c.loop-i-test.true c.loop-i.auto.i)

pub bounds-marks-i-else-dead_op : goal.bounds-marks-i-else-dead_op
bounds-marks-i-else-dead_op c = omega (arith, c.requires.3, c.loop-i.invariant.0, low_there c.len-i.ensures c.loop-i-test.true c.loop-i.auto.i)

pub live_before-requires : goal.live_before-requires
live_before-requires c =
    let loop = c.loop-i in
    let low = (low_there c.len-i.ensures c.loop-i-test.true loop.auto.i).0 in (
      omega (arith, loop.invariant.2),
      omega (arith, loop.invariant.2, c.requires.2),
      rw (c.op-op.ensures.0, c.op-op.ensures.1) (mark_computes c.args.ops.now.laid c.requires.0.folded (before_that loop.invariant.4 c.loop-i-test.true) low),
    )

pub length_left-size-requires : goal.length_left-size-requires
length_left-size-requires c =
    let more = c.loop-i-test.true in
    omega (arith, c.loop-i.invariant.1, c.op-op.ensures.1, place_before c.args.ops.now.laid (low_there c.len-i.ensures more c.loop-i.auto.i).1 more)

pub overflow_add-size : goal.overflow_add-size
overflow_add-size c =
    let loop = c.loop-i in
    let laid = c.args.ops.now.laid in
    let more = c.loop-i-test.true in
    let low = low_there c.len-i.ensures more loop.auto.i in
    let n = long_so (eqb (get_or loop.marks (loop.i - 1) 0) 1) _ _ (rw c.op-op.ensures.1 at c.length_left-size.ensures) (loop.invariant.1 ∙ place_before laid low.1 more) in
    omega (arith, size_fits laid c.requires.0.folded (before_that loop.invariant.4 more) low.0 n, c.requires.2)

pub overflow_add-time : goal.overflow_add-time
overflow_add-time c = omega (arith, limits_fit.times, c.loop-i.invariant.2, c.requires.2)

pub loop-i-preserved : goal.loop-i-preserved
loop-i-preserved c =
    let loop = c.loop-i in
    let laid = c.args.ops.now.laid in
    let more = c.loop-i-test.true in
    let low = low_there c.len-i.ensures more loop.auto.i in
    let a = c.args in
    let long : loop.i - 1 < length loop.marks = omega (arith, c.requires.3, loop.invariant.0, low.0) in
    let op = c.op-op.ensures in
    let there = op.1 ∙ place_there a.ops.now.block.now a.ops.now.places.now low.0 in
    let dead = rw (op.0, op.1) at c.dead_op.ensures in
    elim c.if-dead_op.branch [
      | then-dead_op w ↦ rw (w.marks-is, w.events-is, w.floors-is, w.size-is) (
        length-set loop.marks (loop.i - 1) _ ∙ loop.invariant.0,
        there,
        omega (arith, loop.invariant.2, low.0, more),
        later loop.invariant.3 (omega arith),
        pruning_dead laid c.requires.0.folded (before_that loop.invariant.4 more) low.0 long (sym w.if-dead_op.true ∙ dead),
      )
      | else-dead_op w ↦ rw (w.marks-is, w.events-is, w.floors-is, w.size-is) (
        loop.invariant.0,
        there,
        omega (arith, loop.invariant.2, low.0, more),
        later (w.live_before.ensures.young_so loop.invariant.3) (omega arith),
        pruning_kept laid c.requires.0.folded (before_that loop.invariant.4 more) low.0 (sym w.if-dead_op.false ∙ dead) ((rw (op.0, op.1) at w.live_before.ensures).live_so a.classes.now c.requires.1 loop.invariant.3)
            (long_so (eqb (get_or loop.marks (loop.i - 1) 0) 1) _ _ (rw op.1 at w.length_left-size.ensures) (loop.invariant.1 ∙ place_before laid low.1 more)),
      )
    ]

pub shape_of-marks : goal.shape_of-marks
shape_of-marks c = c.loop-i.invariant.0

pub returns : goal.returns
returns c = pruning_ends c.loop-i.invariant.4 c.loop-i-test.false
