-- The first eight bytes of a slice, as a number. Assumes nothing.
use mathlib.Core.Path.{◌∙◌}
use native.Mathlib.Omega.{arith}
use Rattle.memory.proofs.Numbers.{low_all}
use Rattle.memory.proofs.Parts.{first_eight}
use Rattle.memory.proofs.from_little_endian.Goals as goal

pub returns-in-Some : goal.returns-in-Some
returns-in-Some c = first_eight c.args.bytes.now c.from_le_bytes.ensures c.in-Some.ensures.cases.same

pub returns-in-None : goal.returns-in-None
returns-in-None c = c.number.ensures.value ∙ low_all _ (omega (arith, c.in-None.ensures.cases))
