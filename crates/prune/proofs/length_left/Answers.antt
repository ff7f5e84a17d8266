-- A constant has ten bytes. Assumes nothing.
use borrow.Author.Tests.{eq-eqb, ne_eqb}
use Rattle.prune.proofs.length_left.Goals as goal

pub returns-then-mark-eq1 : goal.returns-then-mark-eq1
returns-then-mark-eq1 c = simp (eq-eqb _ _ c.if-mark-eq1.true)

pub returns : goal.returns
returns c = simp (ne_eqb _ _ c.if-mark-eq1.false)
