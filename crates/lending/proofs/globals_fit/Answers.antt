-- The globals are tested one by one. Assumes nothing.
use Prim.Native.Nat.{ℕ, ◌<◌}
use lib.ListN.{length, get_or}
use borrow.Author.Rules.{rules}
use Rattle.std.specs.Prelude.{◌↔◌, IsTrue}
use Rattle.runs.specs.Steps.{code_fits}
use Rattle.runs.proofs.Lending.{fit_so}
use Rattle.lending.proofs.globals_fit.Goals as goal

pub returns : goal.returns
returns c =
    let base = c.args.base.now in
    let globals = c.args.globals.now in
    let each : IsTrue c.all.result ↔ ((k : ℕ) → k < length base → k < length globals → IsTrue (code_fits (get_or base k 0) (get_or globals k 0))) = search rules in
    fit_so base globals c.all.result each
