-- The low bytes of a number, in either order. Assumes nothing.
use Rattle.memory.proofs.Parts.{little_put, big_put}
use Rattle.memory.proofs.put_number.Goals as goal

pub returns-then-big : goal.returns-then-big
returns-then-big c = rw c.if-big.true (big_put c.args.bytes.now c.requires c.args.x c.to_be_bytes.ensures c.copy_from_slice.ensures.after)

pub returns-else-big : goal.returns-else-big
returns-else-big c = rw c.if-big.false (little_put c.args.bytes.now c.requires c.args.x c.to_le_bytes.ensures c.copy_from_slice-else-big.ensures.after)
