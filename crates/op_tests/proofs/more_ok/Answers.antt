-- `more_ok` tests what else the plan asks. Assumes nothing.
use native.Mathlib.Omega.{arith}
use Rattle.block.proofs.Quick.{more_0, more_1, more_2, more_3, more_4}
use Rattle.op_tests.proofs.more_ok.Goals as goal

pub returns-then-m-eq1-2 : goal.returns-then-m-eq1-2
returns-then-m-eq1-2 c = more_1 _ _ _ _ _ c.more-m.ensures c.if-m-eq1-2.true c.constant_ok.ensures

pub returns-then-m-eq1 : goal.returns-then-m-eq1
returns-then-m-eq1 c =
    more_3 _ _ _ _ _ c.more-m.ensures c.requires.few c.if-m-eq1.true c.if-m-eq1-2.false c.inputs_fit.ensures

pub returns-then-m-eq0 : goal.returns-then-m-eq0
returns-then-m-eq0 c = more_0 _ _ _ _ _ c.more-m.ensures c.if-m-eq0.true

pub returns-then-m-eq2 : goal.returns-then-m-eq2
returns-then-m-eq2 c = more_2 _ _ _ _ _ c.more-m.ensures c.if-m-eq2.true c.label_ok.ensures

pub returns : goal.returns
returns c =
    let odd = c in
    more_4 _ _ _ _ _ odd.more-m.ensures odd.requires.few (omega (arith, odd.if-m-eq1.false)) c.if-m-eq0.false c.if-m-eq2.false c.bytes_ok.ensures
