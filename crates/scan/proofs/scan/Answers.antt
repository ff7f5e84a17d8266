-- `scan` reads the declarations and then the ops. Assumes nothing.
use native.Mathlib.Omega.{arith}
use borrow.Author.Rules.{rules}
use Rattle.block.proofs.Scanned.{begins_by, scan_refused, ops_refused, scan_approved}
use Rattle.ops.proofs.Document01.{table_lawful}
use Rattle.ops.specs.Table.{row_of}
use Rattle.scan.proofs.scan.Goals as goal

pub returns-in_err-d : goal.returns-in_err-d
returns-in_err-d c =
    let p = c.requires in
    let h = scan_refused c.args.places.now c.args.labels.now (c.in_err-d.ensures row_of table_lawful) p.0 p.1 in
    let g = c.from_residual.ensures in
    search (rules, h, g)

pub overflow_mul-start : goal.overflow_mul-start
overflow_mul-start c = omega (arith, (c.in_ok-d.ensures row_of table_lawful).declaring.few)

pub scan_ops-requires : goal.scan_ops-requires
scan_ops-requires c = let p = c.requires in (begins_by (c.in_ok-d.ensures row_of table_lawful) p.0, p.1, p.2)

pub returns-in-Err : goal.returns-in-Err
returns-in-Err c = ops_refused (c.in_ok-d.ensures row_of table_lawful) c.requires.0 c.in-Err.ensures

pub returns-in-Ok : goal.returns-in-Ok
returns-in-Ok c = scan_approved (c.in_ok-d.ensures row_of table_lawful) c.requires.0 c.in-Ok.ensures
