-- The role of a number. Assumes nothing.
use Rattle.ops.specs.Rows.{role_no}
use Rattle.kinds.proofs.Entry.role.Goals as goal

pub returns : goal.returns
unfolding role_no
returns c = rw (← c.self.view_is) c.from_number.ensures
