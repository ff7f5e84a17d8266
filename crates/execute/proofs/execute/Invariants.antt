-- `execute` runs the ops: the run of what is left is the run of the whole. Assumes nothing.
use mathlib.Core.Path.{◌≡◌}
use Prim.Native.Nat.{◌-◌}
use lib.ListN.{length}
use Rattle.runs.proofs.Running.{Running}
use Rattle.runs.specs.Steps.{state_of}
use Rattle.execute.proofs.execute.Given as goal

abbrev pub invariant-loop-op : goal.invariant-loop-op
invariant-loop-op l = (length l.globals ≡ length l.initial.globals) × (length l.memory ≡ length l.initial.memory) × Running l.block (state_of l.initial.globals l.initial.temps l.initial.memory) (state_of l.globals l.temps l.memory) l.op l.at l.count

abbrev pub decreases-loop-op : goal.decreases-loop-op
decreases-loop-op l = length l.places - l.op
