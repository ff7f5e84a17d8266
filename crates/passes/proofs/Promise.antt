-- Demand 3 of the answers of calls, from demand 3 of the definitions. Assumes nothing.
use mathlib.Core.Path.{◌≡◌, sym, ap, ◌∙◌, subst₂}
use mathlib.Core.List.{List, ◌++◌}
use Prim.Native.Nat.{ℕ}
use lib.ListN.{length, take, drop}
use lib.Seq.{take-append_seam, drop-append_seam}
use Rattle.runs.specs.Runs.{Ran}
use Rattle.passes.specs.Demand.{unstated_end, Alike, Demand3}
use Rattle.passes.specs.Passes.{Written, Length, Passed, pass_of, Optimised}
use Rattle.passes.specs.Promise.{Wrote, Promised}
use Rattle.passes.proofs.Demand.{demand_3}
use Rattle.ops.specs.Kinds.{document01}

-- a pass that answered, where the definition gives a length and that many bytes
wrote : (block out : List ℕ) (answer : Written) (out' : List ℕ) (size : ℕ) (result : List ℕ) → length result ≡ size
    → pass_of block out ≡ record { answer = Length size; out = result ++ drop size out } → Optimised block out answer out'
    → Wrote size result out answer out'
wrote block out answer out' size result l e o =
    let bytes : out' ≡ result ++ drop size out = o.1 ∙ ap (λ (p : Passed). p.out) e in
    record {
      answers = o.0 ∙ ap (λ (p : Passed). p.answer) e;
      first = ap (take size) bytes ∙ ap (λ (n : ℕ). take n (result ++ drop size out)) (sym l) ∙ take-append_seam result (drop size out);
      rest = ap (drop size) bytes ∙ ap (λ (n : ℕ). drop n (result ++ drop size out)) (sym l) ∙ drop-append_seam result (drop size out);
    }

pub promise : Promised
promise block out answer out' c room o =
    let d : Demand3 document01 block out = demand_3 block out (sym c) room in
    record {
      size = d.size;
      result = d.result;
      wrote = wrote block out answer out' d.size d.result d.sized d.answers o;
      sized = d.sized;
      small = d.small;
      accepted = λ verdict v. v ∙ d.accepted;
      alike = λ globals memory ending ending' globals₁ memory₁ globals₂ memory₂ fit run₁ run₂ stated.
          let a : Alike (record { answer = ending; globals = globals₁; memory = memory₁ }) (record { answer = ending'; globals = globals₂; memory = memory₂ }) =
          subst₂ (λ (s t : Ran). Alike s t) (sym run₁) (sym run₂)
          (d.alike globals memory fit (ap (λ (r : Ran). unstated_end r.answer) (sym run₁) ∙ stated)) in
          (a.end, a.globals, a.memory);
      folded = d.folded;
      used = d.used;
      again = λ buffer answer' buffer' r p. wrote d.result buffer answer' buffer' d.size d.result d.sized (d.again buffer r) p;
    }
