-- A signed quotient of 64 bits. Assumes nothing.
use Rattle.std.proofs.Common.{w64}
use Rattle.words.proofs.Signed.{by_quotient}
use Rattle.words.proofs.word64.U64Word.quotient.Goals as goal

pub returns : goal.returns
returns c = by_quotient w64 c.ranges.self c.ranges.other c.requires c.cast_signed.ensures c.cast_signed-2.ensures c.cast_unsigned.ensures
