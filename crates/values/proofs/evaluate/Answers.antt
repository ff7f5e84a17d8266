-- The op states what eval answers. Assumes nothing.
use mathlib.Core.Path.{refl, sym, ◌∙◌}
use native.Mathlib.Omega.{arith}
use Rattle.runs.specs.Evaluates.{env_of}
use Rattle.runs.proofs.Stating.{bytes_fit, evaluates, evaluates_two}
use Rattle.values.proofs.evaluate.Goals as goal

pub slice_bounds-eval-end : goal.slice_bounds-eval-end
slice_bounds-eval-end c =
    let pre = c.requires in
    omega (arith, bytes_fit pre.0 refl pre.1 pre.2)

pub returns-then-reads_four : goal.returns-then-reads_four
returns-then-reads_four c =
    let four = c in
    let two = four in
    let start = two in
    evaluates start.requires.0 refl start.requires.1 start.requires.2 (env_of start.args.globals.now start.args.temps.now) two.input-a.ensures two.input-b.ensures
    four.input-x.ensures four.input-y.ensures c.eval.ensures

pub slice_bounds-eval-end-2 : goal.slice_bounds-eval-end-2
slice_bounds-eval-end-2 c =
    let pre = c.requires in
    omega (arith, bytes_fit pre.0 refl pre.1 pre.2)

pub returns : goal.returns
returns c =
    let not-four = c.before.before in
    let two = not-four.before.before in
    let start = two in
    evaluates_two start.requires.0 refl start.requires.1 start.requires.2 (env_of start.args.globals.now start.args.temps.now) (sym not-four.reads_four.ensures ∙ not-four.if-reads_four.false)
    two.input-a.ensures two.input-b.ensures c.eval-2.ensures
