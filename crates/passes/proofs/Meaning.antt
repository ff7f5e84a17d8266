-- Ends alike differ in their number of ops alone. Assumes nothing.
use mathlib.Core.Path.{refl}
use Rattle.passes.specs.Demand.{same_exit, same_fault}
use Rattle.passes.specs.Meaning.{SameButCount}

pub same_but_count : SameButCount
same_but_count source target (same_exit l) = (refl, l)
same_but_count source target (same_fault l) = (refl, l)
