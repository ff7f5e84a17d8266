-- One or two bytes, or up to four. Assumes nothing.
use Rattle.ops.specs.Fields.{bytes_at}
use Rattle.passes.proofs.Events.{timed_one, timed_none, timed_more, timed_as, two_bytes, four_bytes, counted}
use Rattle.live.proofs.wake.Goals as goal

pub returns-then-count-eq0 : goal.returns-then-count-eq0
returns-then-count-eq0 c = rw c.if-count-eq0.true (timed_none _ _)

pub returns-then-count-le2 : goal.returns-then-count-le2
returns-then-count-le2 c =
    let a = c.args in
    timed_as (bytes_at a.block.now a.from a.count) (two_bytes a.block.now a.from a.count (counted c.if-count-eq0.false) c.if-count-le2.true) (timed_more _ (timed_one c.put.ensures) c.put-2.ensures)

pub returns : goal.returns
returns c =
    let a = c.args in
    timed_as (bytes_at a.block.now a.from a.count) (four_bytes a.block.now a.from a.count c.if-count-le2.false c.requires.1)
    (timed_more _ (timed_more _ (timed_more _ (timed_one c.put.ensures) c.put-2.ensures) c.put-3.ensures) c.put-4.ensures)
