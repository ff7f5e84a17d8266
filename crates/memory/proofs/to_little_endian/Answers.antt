-- A number's eight bytes. Assumes nothing.
use mathlib.Core.Path.{◌∙◌}
use Rattle.memory.proofs.Parts.{little_of}
use Rattle.memory.proofs.to_little_endian.Goals as goal

pub returns : goal.returns
returns c = c.to_le_bytes.ensures ∙ little_of 8 c.args.x
