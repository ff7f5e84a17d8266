-- `mark_op` marks what an op leaves. Assumes nothing.
use Rattle.block.proofs.Marking.{marks_opened, marks_directed}
use Rattle.op_marks.proofs.mark_op.Goals as goal

pub returns-then-not-directs : goal.returns-then-not-directs
returns-then-not-directs c =
    let r = c.requires in
    marks_opened r.0 r.3 r.2 _ _ r.4 c.open_first.ensures c.directs.ensures c.if-not-directs.true

pub returns : goal.returns
returns c =
    let r = c.requires in
    marks_directed r.0 r.3 r.2 c.directs.ensures c.if-not-directs.false c.end_block.ensures c.mark_label.ensures
