-- The answer of the pass as a number. Assumes nothing.
use mathlib.Core.Path.{sym, ap, ◌∙◌}
use native.Mathlib.Omega.{arith}
use Rattle.ngulo.specs.Numbers.{pass_number}
use Rattle.ngulo.proofs.Small.{pass_place, pass_length}
use Rattle.ngulo.proofs.ngulo_pass.Goals as goal

pub refused-requires : goal.refused-requires
refused-requires c =
    pass_place c.args.block.now c.args.out.now c.pass-written.ensures.0 c.in-Err.is

pub overflow_mul-result : goal.overflow_mul-result
overflow_mul-result c =
    omega (arith, pass_length c.args.block.now c.args.out.now c.pass-written.ensures.0 c.in-Ok.is)

pub returns-in-Err : goal.returns-in-Err
returns-in-Err c =
    (c.refused.ensures ∙ ap pass_number (sym c.in-Err.is ∙ c.pass-written.ensures.0), c.pass-written.ensures.1)

pub returns-in-Ok : goal.returns-in-Ok
returns-in-Ok c =
    (ap pass_number (sym c.in-Ok.is ∙ c.pass-written.ensures.0), c.pass-written.ensures.1)
