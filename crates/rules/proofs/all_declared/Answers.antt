-- `all_declared` is the test of rule 4. Assumes nothing.
use mathlib.Core.Path.{ap, ◌∙◌, ◌≡◌}
use mathlib.Core.Bool.{not}
use Prim.Native.Nat.{◌+◌, ◌-◌, ◌%◌}
use native.Mathlib.Omega.{arith}
use lib.Dec.{eqb}
use borrow.Author.Rules.{rules}
use Rattle.std.specs.Prelude.{◌↔◌, All, IsTrue, slice_range}
use Rattle.std.proofs.iter.runs.Made.{chains}
use Rattle.block.specs.Scan.{codes_in, declared_all}
use Rattle.block.proofs.Operands.{bytes_taken, declared_so}
use Rattle.rules.proofs.all_declared.Goals as goal

pub returns : goal.returns
returns c =
    let a = c.args in
    let each : IsTrue c.all.result ↔ All (λ v. IsTrue (not (eqb (codes_in a.vars.now v % 16) 15))) (slice_range a.block.now a.p (a.p + a.count)) = search (rules, chains) in
    let e : a.p + a.count - a.p ≡ a.count = omega arith in
    declared_so a.vars.now _ c.all.result each ∙ ap (declared_all a.vars.now) (rw e (bytes_taken a.block.now a.p a.count c.requires))
