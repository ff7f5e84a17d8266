-- `execute` runs the ops: the run of what is left is the run of the whole. Assumes nothing.
use mathlib.Core.Path.{refl}
use mathlib.Core.List.{List}
use Prim.Native.Nat.{ℕ, ◌+◌, ◌<◌}
use native.Mathlib.Omega.{arith}
use borrow.Author.Rules.{rules}
use Rattle.theory.specs.Machine.{St}
use Rattle.ops.specs.Ops.{tcg}
use Rattle.ops.specs.Kinds.{document01}
use Rattle.runs.specs.Steps.{state_of, ReadyToRun}
use Rattle.runs.proofs.Running.{Running, Turn, running_start, more_ops, inside_now, stands_now, few_now, stops_now, falls_on, label_now, number_now, target_now}
use Rattle.runs.proofs.Running.{jumps_on}
use Rattle.execute.proofs.execute.Goals as goal
use Rattle.execute.proofs.execute.Goals.{in-Falls, in-JumpsTo}

-- the turn that the loop is at
turn : {block places labels : List ℕ} {start ops op at count : ℕ} {first s : St (tcg document01)} → ReadyToRun block places labels start ops → Running block first s op at count
    → Turn block first s places labels op at count start ops
turn ready running = record { ready = ready; running = running }

pub loop-op-init : goal.loop-op-init
loop-op-init c = (refl, refl, running_start c.requires _)

pub bounds-block-at : goal.bounds-block-at
bounds-block-at c = inside_now (turn c.requires c.loop-op.invariant.2)

pub step-outcome-requires : goal.step-outcome-requires
step-outcome-requires c = stands_now (turn c.requires c.loop-op.invariant.2)

pub bounds-labels-from : goal.bounds-labels-from
bounds-labels-from c = label_now (turn c.requires c.loop-op.invariant.2) c.step-outcome.ensures c.in-JumpsTo.is c.from.ensures refl

pub overflow_sub-op : goal.overflow_sub-op
overflow_sub-op c = number_now (turn c.requires c.loop-op.invariant.2) c.step-outcome.ensures c.in-JumpsTo.is c.from.ensures c.from-op.ensures

pub bounds-places-op : goal.bounds-places-op
bounds-places-op c = target_now (turn c.requires c.loop-op.invariant.2) c.step-outcome.ensures c.in-JumpsTo.is c.from.ensures c.from-op.ensures

pub ended-requires : goal.ended-requires
ended-requires c = few_now (turn c.requires c.loop-op.invariant.2)

pub returns-in-Stops : goal.returns-in-Stops
returns-in-Stops c = stops_now (turn c.requires c.loop-op.invariant.2) c.step-outcome.ensures c.in-Stops.is c.ended.ensures

pub overflow_add-count : goal.overflow_add-count
overflow_add-count c = omega (arith, few_now (turn c.requires c.loop-op.invariant.2))

-- a turn that goes on comes further, and stands at an op again
goes_on : (c : goal.Joined-outcome) →
    let first = state_of c.args.globals.now c.args.temps.now c.args.memory.now in
    let next = c.step-outcome.new in
    (c.loop-op.op < c.match-outcome.op) × Running c.args.block.now first (state_of next.globals next.temps next.memory) c.match-outcome.op c.match-outcome.at (c.loop-op.count + 1)
goes_on c =
    let now = turn c.requires c.loop-op.invariant.2 in
    let step = c.step-outcome.ensures in
    elim c.match-outcome.branch [
      | in-Falls w ↦ falls_on now step w.in-Falls.is w.op-is w.at-is
      | in-JumpsTo w ↦ jumps_on now step w.in-JumpsTo.is w.from.ensures w.from-op.ensures w.from-at.ensures w.op-is w.at-is
    ]

pub loop-op-smaller : goal.loop-op-smaller
loop-op-smaller c = omega (arith, more_ops (turn c.requires c.loop-op.invariant.2), (goes_on c).0)

pub loop-op-preserved : goal.loop-op-preserved
loop-op-preserved c = (search rules, search rules, (goes_on c).1)

-- the loop's own end
pub unreachable-requires : goal.unreachable-requires
unreachable-requires c = omega (arith, more_ops (turn c.requires c.loop-op.invariant.2), c.loop-op-test.false)
