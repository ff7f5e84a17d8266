-- `all_set` is rule 7 at the end. Assumes nothing.
use mathlib.Core.Path.{◌≡◌}
use lib.ListN.{length}
use Rattle.block.specs.Rules.{all_set}
use Rattle.block.specs.Scan.{marked, numbered}
use Rattle.rules.proofs.all_set.Given as goal

abbrev pub invariant-loop-target : goal.invariant-loop-target
invariant-loop-target l = l.all ≡ all_set (marked l.targets) (numbered l.labels) (length l.yielded)
