-- A row is the shape of its kind. Assumes nothing.
use Rattle.ops.proofs.Shapes.{shape_of_lem}
use Rattle.shapes.proofs.Shapes.shape.Goals as goal

pub returns : goal.returns
returns c = shape_of_lem c.args.kind c.shape_in.ensures c.args.self.now.is_table
