-- Each class is filled in. Assumes nothing.
use mathlib.Core.Path.{refl, ap, ◌∙◌}
use Prim.Native.Nat.{ℕ}
use native.Mathlib.Omega.{arith}
use lib.ListN.{length-set}
use Rattle.passes.specs.Ready.{class_by}
use Rattle.block.proofs.Codes.{code_at}
use Rattle.passes.proofs.Classes.{filled_start, filled_next, filled_ends}
use Rattle.pass.proofs.classes_of.Goals as goal

pub loop-i-init : goal.loop-i-init
loop-i-init c = (refl, filled_start _ 256)

pub loop-i-preserved : goal.loop-i-preserved
loop-i-preserved c =
    let l = c.loop-i in (
      length-set l.of l.i _ ∙ l.invariant.0,
      filled_next l.invariant.1 (omega arith) (c.class_of.ensures ∙ ap (λ (x : ℕ). class_by x l.i c.args.globals) (code_at c.args.base.now l.i (omega arith) refl)),
    )

pub returns : goal.returns
returns c = filled_ends c.loop-i.invariant.1 (omega arith)
