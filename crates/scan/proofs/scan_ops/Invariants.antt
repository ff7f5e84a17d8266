-- `scan_ops` reads the ops. Assumes nothing.
use mathlib.Core.Path.{◌≡◌}
use Prim.Native.Nat.{◌-◌, ◌≤◌}
use lib.ListN.{length}
use Rattle.ops.specs.Table.{row_of}
use Rattle.block.specs.Scan.{Reading}
use Rattle.scan.proofs.scan_ops.Given as goal

abbrev pub invariant-loop-at : goal.invariant-loop-at
invariant-loop-at l = (l.at ≤ length l.block) × Reading row_of l.block l.start l.initial.places l.base l.vars l.labels l.targets l.places l.at l.ops l.last × (length l.places ≡ length l.initial.places)

abbrev pub decreases-loop-at : goal.decreases-loop-at
decreases-loop-at l = length l.block - l.at
