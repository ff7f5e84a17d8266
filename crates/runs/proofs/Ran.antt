-- The run's answer, from what the scan and the loop give. Assumes nothing.
use mathlib.Core.Path.{◌≡◌, sym, ap, ◌∙◌}
use mathlib.Core.Bool.{Bool, true, false, cond}
use mathlib.Core.Logic.{◌⊎◌, inl, inr}
use mathlib.Core.List.{List, [], ◌∷◌}
use Prim.Native.Nat.{ℕ, suc, ◌-◌, ◌≤◌}
use native.Mathlib.Omega.{arith}
use lib.Dec.{eqb}
use lib.ListN.{length, replicate}
use borrow.Author.Tests.{eqb-true}
use Rattle.theory.specs.Machine.{St, Result}
use Rattle.theory.proofs.Sets.{tell}
use Rattle.ops.specs.Ops.{tcg}
use Rattle.ops.specs.Kinds.{document01}
use Rattle.ops.specs.Table.{row_of}
use Rattle.block.specs.Records.{records_of, declarations, ops_from, classes_of, global_count}
use Rattle.std.specs.Prelude.{Ok, Err}
use Rattle.block.specs.declared.Refusal.{Refusal}
use Rattle.block.specs.Scan.{Approved, Rejected}
use Rattle.block.proofs.Declaring.{classes_length, types_length}
use Rattle.runs.proofs.Lending.{codes_fit_lem}
use Rattle.runs.proofs.Variables.{lent_env, globals_left}
use Rattle.runs.specs.Runs.{fits, values_from, Refused, ran_as, answer_of, ran_of, ops_run, run_ops, run_refused, run_checked, run_of, run_by}
use Rattle.runs.specs.Steps.{state_of, ReadyToRun, Executed, lent_ok}
use Rattle.runs.specs.declared.Ending.{Ending}

-- the ops' run, on the lent globals and temporaries that start at zero
pub ops_ran : {b : List ℕ} {ending : Ending} (globals temps memory globals' temps' memory' : List ℕ) → temps ≡ replicate 256 0 → length globals' ≡ length globals
    → Executed b (state_of globals temps memory) (state_of globals' temps' memory') ending → ran_as (Ok ending) globals' memory' ≡ run_ops document01 (ops_from (records_of row_of b)) globals memory
unfolding run_ops
ops_ran {b} {ending} globals temps memory globals' temps' memory' e n x =
    let os = ops_from (records_of row_of b) in
    let r : Result (tcg document01) = ops_run document01 os (state_of globals temps memory) in
    let a : Ok ending ≡ answer_of r.end (length os - length r.left) r.count = x.answers in
    let c : globals' ≡ values_from r.state.env 0 (length globals) = globals_left globals' temps' (length globals) n ∙ ap (λ (s : St (tcg document01)). values_from s.env 0 (length globals)) x.state_is in
    let m : memory' ≡ r.state.mem = ap (λ (s : St (tcg document01)). s.mem) x.state_is in
    (λ i. ran_as (a i) (c i) (m i))
    ∙ ap (λ (f : ℕ → ℕ). ran_of document01 (length os) (length globals) (ops_run document01 os (record { env = f; mem = memory }))) (lent_env globals temps e)

-- the globals are some of the variables
pub global_few : (cs : List ℕ) → global_count cs ≤ length cs
global_few [] = omega arith
global_few (c ∷ cs) = go (eqb c 0) (global_few cs)
  where
    go : (t : Bool) → global_count cs ≤ length cs → cond t (suc (global_count cs)) 0 ≤ suc (length cs)
    go true h = omega arith
    go false h = omega arith

-- a refusal
pub refused_ran : {b places₀ base places labels : List ℕ} {refusal : Refusal} {start n globals ops : ℕ} → Rejected row_of b places₀ base places labels refusal start n globals ops → (lent memory : List ℕ)
    → ran_as (Err refusal) lent memory ≡ run_of b lent memory
unfolding run_by run_checked
refused_ran {b} s lent memory = ap (run_checked document01 (records_of row_of b) lent memory) s.answers

module _ {b places₀ base places labels : List ℕ} {start n globals ops : ℕ} (a : Approved row_of b places₀ base places labels start n globals ops) where
  abbrev declared : List (List ℕ)
  declared = declarations (records_of row_of b)

  pub ready_by : ReadyToRun b places labels start ops
  ready_by = record { places₀ = places₀; base = base; n = n; globals = globals; approved = a }

  module _ (lent memory : List ℕ) {t : Bool} (e : t ≡ lent_ok base globals lent memory) where
    -- as many are lent as are declared, or rule 11 is broken already
    fits_so : fits declared lent memory ≡ lent_ok base globals lent memory
    unfolding fits
    fits_so = go (tell (eqb (length lent) globals))
      where
        go : (eqb (length lent) globals ≡ true) ⊎ (eqb (length lent) globals ≡ false) → fits declared lent memory ≡ lent_ok base globals lent memory
        go (inr x) = rw (sym a.globals_are, x)
        go (inl x) =
            let few : length lent ≤ length (classes_of declared) = omega (arith, eqb-true (length lent) globals x, a.globals_are, global_few (classes_of declared)) in
            let c = codes_fit_lem lent a.coded few (omega (arith, classes_length declared, types_length declared)) (omega (arith, classes_length declared, a.variables, a.few, a.long_base)) in
            rw (sym a.globals_are, c)

    choice : run_of b lent memory ≡ cond t (run_ops document01 (ops_from (records_of row_of b)) lent memory) (run_refused 11 0 lent memory)
    unfolding run_by run_checked
    choice =
        ap (run_checked document01 (records_of row_of b) lent memory) a.accepted
        ∙ ap (λ (x : Bool). cond x (run_ops document01 (ops_from (records_of row_of b)) lent memory) (run_refused 11 0 lent memory)) (fits_so ∙ sym e)

    -- rule 11
    pub unlent_ran : t ≡ false → ran_as (Refused 11 0) lent memory ≡ run_of b lent memory
    unlent_ran f = sym (choice ∙ rw f)

    pub accepted_ran : t ≡ true → run_ops document01 (ops_from (records_of row_of b)) lent memory ≡ run_of b lent memory
    accepted_ran f = sym (choice ∙ rw f)
