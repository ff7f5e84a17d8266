-- `Ranks::new` has the rank of each kind: one computed comparison. Assumes nothing.
use mathlib.Core.Path.{refl}
use Rattle.ops.specs.Table.{kind_table}
use Rattle.ops.specs.Plans.{rank_of}
use Rattle.plans.proofs.Ranks.new.Goals as goal

pub invariant_of-result : goal.invariant_of-result
unfolding kind_table rank_of
invariant_of-result c = record { is_table = refl }
