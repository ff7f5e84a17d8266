-- The verdict as a number. Assumes nothing.
use mathlib.Core.Path.{sym, ap, ◌∙◌}
use Rattle.ngulo.specs.Numbers.{check_number}
use Rattle.ngulo.proofs.Small.{check_place}
use Rattle.ngulo.proofs.ngulo_check.Goals as goal

pub refused-requires : goal.refused-requires
refused-requires c =
    check_place c.args.block.now c.check-verdict.ensures c.in-Err.is

pub returns-in-Ok : goal.returns-in-Ok
returns-in-Ok c = ap check_number (sym c.in-Ok.is ∙ c.check-verdict.ensures)

pub returns-in-Err : goal.returns-in-Err
returns-in-Err c =
    c.refused.ensures ∙ ap check_number (sym c.in-Err.is ∙ c.check-verdict.ensures)
