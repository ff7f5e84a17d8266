-- `movi_kind` goes by the type of the output. Assumes nothing.
use mathlib.Core.Path.{sym, ◌∙◌}
use Rattle.emit.proofs.movi_kind.Goals as goal

pub returns-then-is_narrow : goal.returns-then-is_narrow
returns-then-is_narrow c = rw (sym c.is_narrow.ensures ∙ c.if-is_narrow.true)

pub returns-else-is_narrow : goal.returns-else-is_narrow
returns-else-is_narrow c = rw (sym c.is_narrow.ensures ∙ c.if-is_narrow.false)
