-- `scan_ops` reads the ops. Assumes nothing.
use mathlib.Core.Path.{refl, ◌∙◌}
use Prim.Native.Nat.{ℕ, ◌%◌}
use mathlib.Core.List.{List}
use lib.ListN.{length-set}
use Rattle.ops.specs.Rows.{Table}
use Rattle.block.specs.Scan.{Reading}
use Rattle.block.proofs.Scanning.{few_ops_here, stands_at, begins_start, begins_inside}
use Rattle.block.proofs.Turning.{fails_at, sound, is_op, inside, room, again, ready, label_low, ends_at, ends_refused}
use Rattle.scan.proofs.scan_ops.Goals as goal

-- before the first op the rank is that of none, which is no exit_tb's
none_last : {T : Table} {b places₀ base vars labels targets places : List ℕ} {start p ops : ℕ}
    → Reading T b start places₀ base vars labels targets places p ops 0 → Reading T b start places₀ base vars labels targets places p ops 255
none_last r =
    record {
      seen = r.seen;
      goes_on = r.goes_on;
      coded = r.coded;
      based = r.based;
      labels_so = r.labels_so;
      targets_so = r.targets_so;
      ops_so = r.ops_so;
      last_so = r.last_so;
      up_to = r.up_to;
      first_op = r.first_op;
      few = r.few;
    }

pub loop-at-init : goal.loop-at-init
loop-at-init c =
    let p = c.requires in (begins_inside p.0, none_last (begins_start _ p.0 p.1), refl)

pub returns-then-not-op_ok : goal.returns-then-not-op_ok
returns-then-not-op_ok c =
    let s = c.stopped.ensures in
    rw s.2 (fails_at c.loop-at.invariant.1 c.loop-at-test.true c.op_ok.ensures c.if-not-op_ok.true (s.0, s.1))

pub mark_op-requires : goal.mark_op-requires
mark_op-requires c =
    let r = c.loop-at.invariant.1 in
    let here = c.loop-at-test.true in
    let t = c.op_ok.ensures in
    let passed = c.if-not-op_ok.false in
    let s = sound r here t passed in
    (stands_at s, few_ops_here s, c.rank-rank.ensures, is_op r here t passed, ready r here t passed, label_low r here t passed c.rank-rank.ensures)

pub loop-at-preserved : goal.loop-at-preserved
loop-at-preserved c =
    let l = c.loop-at in
    let r = l.invariant.1 in
    let here = c.loop-at-test.true in
    let t = c.op_ok.ensures in
    let passed = c.if-not-op_ok.false in (
      inside r here t passed c.rank-rank.ensures c.record_length-n.ensures,
      again r here t passed c.rank-rank.ensures c.record_length-n.ensures c.requires.2 _ _ _ c.mark_op.ensures,
      length-set l.places l.ops (l.at % 65536) ∙ l.invariant.2,
    )

pub bounds-places-ops : goal.bounds-places-ops
bounds-places-ops c =
    let e = c.loop-at.invariant.2 in
    rw e (room c.loop-at.invariant.1 c.loop-at-test.true c.op_ok.ensures c.if-not-op_ok.false c.rank-rank.ensures c.record_length-n.ensures c.requires.2)

pub returns-in-Ok : goal.returns-in-Ok
returns-in-Ok c = ends_at c.loop-at.invariant.1 c.loop-at-test.false c.end_rule.ensures c.in-Ok.is

pub returns-in-Err : goal.returns-in-Err
returns-in-Err c = ends_refused c.loop-at.invariant.1 c.loop-at-test.false c.end_rule.ensures c.in-Err.is
