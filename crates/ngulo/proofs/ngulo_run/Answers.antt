-- The ending as a number and a report. Assumes nothing.
use mathlib.Core.Path.{refl}
use Rattle.ngulo.proofs.Small.{run_place, run_answers, ended_answers, fault_report}
use Rattle.ngulo.proofs.ngulo_run.Goals as goal

pub refused-requires : goal.refused-requires
refused-requires c =
    let lent = c.args in
    run_place lent.block.now lent.globals.now lent.memory.now c.run.ensures c.in-Err.is

pub returns-in-Err : goal.returns-in-Err
returns-in-Err c =
    run_answers c.run.ensures c.in-Err.is c.refused.ensures refl

pub returns-in-Exit : goal.returns-in-Exit
returns-in-Exit c =
    ended_answers c.run.ensures c.in-Ok.is c.in-Exit.is c.report_as.ensures

pub returns-in-Fault : goal.returns-in-Fault
returns-in-Fault c =
    ended_answers c.run.ensures c.in-Ok.is c.in-Fault.is (fault_report c.report_as-in-Fault.ensures c.fault_access.ensures)

pub returns-in-NoResult : goal.returns-in-NoResult
returns-in-NoResult c =
    ended_answers c.run.ensures c.in-Ok.is c.in-NoResult.is c.report_as-in-NoResult.ensures
