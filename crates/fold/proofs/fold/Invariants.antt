-- Fold, from the first op. Assumes nothing.
use mathlib.Core.Path.{◌≡◌}
use lib.ListN.{length}
use Rattle.block.specs.Scan.{marked}
use Rattle.passes.proofs.Forward.{FoldingSo}
use Rattle.fold.proofs.fold.Given as goal

abbrev pub invariant-loop-i : goal.invariant-loop-i
invariant-loop-i l = (length l.marks ≡ length l.initial.marks) × (length l.constants ≡ length l.initial.constants) × FoldingSo l.ops.block.now l.ops.places.now l.marks l.constants (marked l.known) l.values (length l.ops.places.now) l.i
