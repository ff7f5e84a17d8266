-- `Shapes::new` has the shape of each kind: one computed comparison. Assumes nothing.
use mathlib.Core.Path.{refl}
use Rattle.ops.specs.Table.{kind_table}
use Rattle.ops.specs.Shapes.{shape_of}
use Rattle.shapes.proofs.Shapes.new.Goals as goal

pub invariant_of-result : goal.invariant_of-result
unfolding kind_table shape_of
invariant_of-result c = record { is_table = refl }
