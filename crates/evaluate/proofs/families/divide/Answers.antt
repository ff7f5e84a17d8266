-- The four divisions, by kind. Assumes nothing.
use Rattle.ops.specs.Eval.{divide_of}
use Rattle.ops.proofs.Families.{last_divide}
use Rattle.evaluate.proofs.families.divide.Goals as goal

pub returns-in-31 : goal.returns-in-31
unfolding divide_of
returns-in-31 g c = rw c.in-31.is c.divs.ensures

pub returns-in-32 : goal.returns-in-32
unfolding divide_of
returns-in-32 g c = rw c.in-32.is c.divu.ensures

pub returns-in-33 : goal.returns-in-33
unfolding divide_of
returns-in-33 g c = rw c.in-33.is c.rems.ensures

pub returns-in_default : goal.returns-in_default
unfolding divide_of
returns-in_default g c = last_divide g.W.Word.BITS _ _ _ c.in_default.in_default-own.rest c.remu.ensures
