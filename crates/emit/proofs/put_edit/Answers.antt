-- The constant, or nothing, after the run. Assumes nothing.
use mathlib.Core.List.{append-nil}
use native.Mathlib.Omega.{arith}
use borrow.Author.Tests.{eq-eqb, ne_eqb}
use Rattle.emit.proofs.put_edit.Goals as goal

pub put_constant-requires : goal.put_constant-requires
put_constant-requires c =
    let pre = c.requires in
    (pre.0 c.if-mark-eq1.true, pre.1, rw (eq-eqb _ _ c.if-mark-eq1.true) at pre.2)

pub returns-then-mark-eq1 : goal.returns-then-mark-eq1
returns-then-mark-eq1 c = rw (eq-eqb _ _ c.if-mark-eq1.true) c.put_constant.ensures

pub returns : goal.returns
returns c = rw (ne_eqb _ _ c.if-mark-eq1.false) (omega arith, rw append-nil c.put_bytes.ensures)
