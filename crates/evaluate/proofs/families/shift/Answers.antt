-- The shifts and rotates, by kind. Assumes nothing.
use Rattle.ops.specs.Eval.{shift_of}
use Rattle.ops.proofs.Families.{last_shift}
use Rattle.evaluate.proofs.families.shift.Goals as goal

pub returns-in-35 : goal.returns-in-35
unfolding shift_of
returns-in-35 g c = rw c.in-35.is c.shl.ensures

pub returns-in-36 : goal.returns-in-36
unfolding shift_of
returns-in-36 g c = rw c.in-36.is c.shr.ensures

pub returns-in-37 : goal.returns-in-37
unfolding shift_of
returns-in-37 g c = rw c.in-37.is c.sar.ensures

pub returns-in-38 : goal.returns-in-38
unfolding shift_of
returns-in-38 g c = rw c.in-38.is c.rotl.ensures

pub returns-in_default : goal.returns-in_default
unfolding shift_of
returns-in_default g c = last_shift g.W.Word.BITS _ _ _ c.in_default.in_default-own.rest c.rotr.ensures
