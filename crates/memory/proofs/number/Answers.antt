-- The number of a slice of bytes, in either order. Assumes nothing.
use Rattle.memory.proofs.Parts.{little_read, big_read}
use Rattle.memory.proofs.Digits.{low_below, high_below}
use Rattle.memory.proofs.number.Goals as goal

pub returns-then-big-clause-value : goal.returns-then-big-clause-value
returns-then-big-clause-value c = rw c.if-big.true (big_read c.args.bytes.now c.requires _ c.from_be_bytes.ensures c.copy_from_slice.ensures.after)

pub returns-then-big-clause-bound : goal.returns-then-big-clause-bound
returns-then-big-clause-bound c =
    rw (big_read c.args.bytes.now c.requires _ c.from_be_bytes.ensures c.copy_from_slice.ensures.after) (high_below c.args.bytes.now (λ i. (c.type_inv.bytes i).fits) 0 _)

pub returns-else-big-clause-value : goal.returns-else-big-clause-value
returns-else-big-clause-value c = rw c.if-big.false (little_read c.args.bytes.now c.requires _ c.from_le_bytes.ensures c.copy_from_slice-else-big.ensures.after)

pub returns-else-big-clause-bound : goal.returns-else-big-clause-bound
returns-else-big-clause-bound c =
    rw (little_read c.args.bytes.now c.requires _ c.from_le_bytes.ensures c.copy_from_slice-else-big.ensures.after) (low_below c.args.bytes.now (λ i. (c.type_inv.bytes i).fits) 0 _)
