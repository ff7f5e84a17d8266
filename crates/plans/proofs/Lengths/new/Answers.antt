-- `Lengths::new` has the length of each kind's record: one computed comparison. Assumes nothing.
use mathlib.Core.Path.{refl}
use Rattle.ops.specs.Table.{kind_table}
use Rattle.plans.proofs.Lengths.new.Goals as goal

pub invariant_of-result : goal.invariant_of-result
unfolding kind_table
invariant_of-result c = record { is_table = refl }
