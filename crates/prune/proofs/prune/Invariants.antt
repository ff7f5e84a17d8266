-- Prune, from the last op. Assumes nothing.
use mathlib.Core.Path.{◌≡◌}
use Prim.Native.Nat.{◌+◌, ◌-◌, ◌*◌}
use lib.ListN.{length}
use Rattle.block.specs.Rules.{globals_in, kept_in}
use Rattle.passes.specs.Knows.{folded_ops}
use Rattle.passes.specs.Laid.{ops_at, place_of}
use Rattle.passes.specs.Live.{live_of, Young}
use Rattle.passes.proofs.Pruning.{Pruning}
use Rattle.prune.proofs.prune.Given as goal

abbrev pub invariant-loop-i : goal.invariant-loop-i
invariant-loop-i l = let block = l.ops.block.now in let places = l.ops.places.now in let n = length l.ops.places.now in
    (length l.marks ≡ length l.initial.marks) × (l.next ≡ place_of block places n l.i) × (l.time ≡ 2 + 2 * (n - l.i)) × Young l.events l.floors l.time
    × Pruning (folded_ops (ops_at block places 0 n)) (globals_in l.classes) (kept_in l.classes) l.initial.marks l.marks (live_of l.events l.floors l.classes) l.i l.size
