-- A signed remainder of 32 bits. Assumes nothing.
use Rattle.std.proofs.Common.{w32}
use Rattle.words.proofs.Signed.{by_remainder}
use Rattle.words.proofs.word32.U32Word.remainder.Goals as goal

pub returns : goal.returns
returns c = by_remainder w32 c.ranges.self c.ranges.other c.requires c.cast_signed.ensures c.cast_signed-2.ensures c.cast_unsigned.ensures
