-- mov, neg and not, by kind. Assumes nothing.
use mathlib.Core.Path.{refl, ap}
use Rattle.std.specs.Prelude.{Some}
use Rattle.ops.specs.Eval.{unary_of}
use Rattle.ops.proofs.Families.{last_unary}
use Rattle.evaluate.proofs.families.unary.Goals as goal

pub returns-in-17 : goal.returns-in-17
unfolding unary_of
returns-in-17 g c = rw c.in-17.is refl

pub returns-in-18 : goal.returns-in-18
unfolding unary_of
returns-in-18 g c = rw c.in-18.is (ap Some c.neg.ensures)

pub returns-in_default : goal.returns-in_default
unfolding unary_of
returns-in_default g c = last_unary g.W.Word.BITS _ _ c.in_default.in_default-own.rest c.not.ensures
