-- Each class is filled in. Assumes nothing.
use mathlib.Core.Path.{◌≡◌}
use lib.ListN.{length}
use Rattle.passes.specs.Ready.{class_in}
use Rattle.passes.proofs.Classes.{Filled}
use Rattle.pass.proofs.classes_of.Given as goal

abbrev pub invariant-loop-i : goal.invariant-loop-i
invariant-loop-i l = (length l.of ≡ 256) × Filled (class_in l.base l.globals) l.of l.i
