-- The eleven kinds from add to nor, by kind. Assumes nothing.
use mathlib.Core.Path.{ap}
use Rattle.std.specs.Prelude.{Some}
use Rattle.ops.specs.Eval.{logic_of}
use Rattle.ops.proofs.Families.{last_logic}
use Rattle.evaluate.proofs.families.logic.Goals as goal

pub returns-in-20 : goal.returns-in-20
unfolding logic_of
returns-in-20 g c = rw c.in-20.is (ap Some c.add.ensures)

pub returns-in-21 : goal.returns-in-21
unfolding logic_of
returns-in-21 g c = rw c.in-21.is (ap Some c.sub.ensures)

pub returns-in-22 : goal.returns-in-22
unfolding logic_of
returns-in-22 g c = rw c.in-22.is (ap Some c.mul.ensures)

pub returns-in-23 : goal.returns-in-23
unfolding logic_of
returns-in-23 g c = rw c.in-23.is (ap Some c.and.ensures)

pub returns-in-24 : goal.returns-in-24
unfolding logic_of
returns-in-24 g c = rw c.in-24.is (ap Some c.or.ensures)

pub returns-in-25 : goal.returns-in-25
unfolding logic_of
returns-in-25 g c = rw c.in-25.is (ap Some c.xor.ensures)

pub returns-in-26 : goal.returns-in-26
unfolding logic_of
returns-in-26 g c = rw c.in-26.is (ap Some c.andc.ensures)

pub returns-in-27 : goal.returns-in-27
unfolding logic_of
returns-in-27 g c = rw c.in-27.is (ap Some c.orc.ensures)

pub returns-in-28 : goal.returns-in-28
unfolding logic_of
returns-in-28 g c = rw c.in-28.is (ap Some c.eqv.ensures)

pub returns-in-29 : goal.returns-in-29
unfolding logic_of
returns-in-29 g c = rw c.in-29.is (ap Some c.nand.ensures)

pub returns-in_default : goal.returns-in_default
unfolding logic_of
returns-in_default g c = last_logic g.W.Word.BITS _ _ _ c.in_default.in_default-own.rest c.nor.ensures
