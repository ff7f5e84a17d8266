-- The runs of a block and of the pass's result are alike. Assumes nothing.
use mathlib.Core.Path.{◌≡◌, refl, sym, ap, ap₂, ◌∙◌, subst, subst₂}
use mathlib.Core.Bool.{Bool, true, false, cond, ◌&&◌, true≢false, false≢true}
use mathlib.Core.List.{List, [], ◌∷◌}
use Prim.Native.Nat.{ℕ, zero, suc, ◌+◌, ◌-◌, ◌≤◌, ◌<◌}
use native.Mathlib.Omega.{arith}
use lib.Dec.{eqb, leb}
use lib.ListN.{length}
use borrow.Author.Tests.{eqb-true}
use Rattle.theory.specs.Machine.{End, exit, fault, unstated, fell, spent, Result, runs}
use Rattle.theory.proofs.Scoped.{scoped}
use Rattle.theory.specs.Sets.{empty}
use Rattle.theory.proofs.PruneBy.{Agree}
use Rattle.theory.proofs.Sets.{and_l, and_r}
use Rattle.theory.proofs.Simulation.{unspent, stated, definite, not_fell, proper, Matches, same_run}
use Rattle.ops.specs.Ops.{Fault, tcg, Dialect}
use Rattle.ops.specs.Limits.{max_memory}
use Rattle.block.specs.Records.{classes_of, declared_types, global_count}
use Rattle.block.proofs.Parts.{Parts}
use Rattle.runs.specs.Runs.{globals_fit, fits, entry, values_from, Ran, answer_of, ran_of, ops_run, run_ops, run_checked, run_by}
use Rattle.runs.proofs.Ends.{run_ends}
use Rattle.passes.specs.Demand.{Fit, unstated_end, SameEnd, same_exit, same_fault, Alike}
use Rattle.passes.specs.Passes.{pass_ops}
use Rattle.passes.proofs.Result.{ops_preserved}
use Rattle.block.specs.Rules.{globals_in, kept_in}
use Rattle.block.specs.Checks.{Accepted}
use Rattle.block.specs.Checks.{check_by}
use Rattle.ops.proofs.Lawful.{Lawful}

-- the variables below the number of globals are globals
pub globals_below : (classes : List ℕ) (v : ℕ) → v < global_count classes → globals_in classes v ≡ true
globals_below [] v h = absurd (omega arith)
globals_below (c ∷ cs) v h = go (eqb c 0) refl v h (λ u. globals_below cs u)
  where
    go : (b : Bool) → eqb c 0 ≡ b → (u : ℕ) → u < cond b (suc (global_count cs)) 0 → ((t : ℕ) → t < global_count cs → globals_in cs t ≡ true) → globals_in (c ∷ cs) u ≡ true
    go true e zero l ih = e
    go true e (suc u) l ih = ih u (omega arith)
    go false e u l ih = absurd (omega arith)

values_same : (e e' : ℕ → ℕ) (v n : ℕ) → ((u : ℕ) → u < v + n → e u ≡ e' u) → values_from e v n ≡ values_from e' v n
values_same e e' v zero h = refl
values_same e e' v (suc n) h =
    ap₂ (λ (x : ℕ) (xs : List ℕ). x ∷ xs) (h v (omega arith)) (values_same e e' (suc v) n (λ u l. h u (omega arith)))

-- a run that ends in one of the three ways, and not without a stated result, exits or faults
same_end : (end : End ℕ Fault) (p q m n : ℕ) → n ≤ m → proper end ≡ true → unstated_end (answer_of end p m) ≡ false → SameEnd (answer_of end p m) (answer_of end q n)
same_end (exit v) p q m n l w h = same_exit l
same_end (fault f) p q m n l w h = same_fault l
same_end unstated p q m n l w h = absurd (true≢false h)
same_end fell p q m n l w h = absurd (false≢true w)
same_end spent p q m n l w h = absurd (false≢true w)

definite_end : (end : End ℕ Fault) (p m : ℕ) → proper end ≡ true → unstated_end (answer_of end p m) ≡ false → definite end ≡ true
definite_end (exit v) p m w h = refl
definite_end (fault f) p m w h = refl
definite_end unstated p m w h = absurd (true≢false h)
definite_end fell p m w h = absurd (false≢true w)
definite_end spent p m w h = absurd (false≢true w)

-- two results that match give runs alike
matches_alike : (D : Dialect) (classes : List ℕ) (a b n : ℕ) (r r' : Result (tcg D)) → n ≡ global_count classes → Matches (tcg D) (Agree 0 (globals_in classes)) r r'
    → proper r.end ≡ true → unstated_end (ran_of D a n r).answer ≡ false → Alike (ran_of D a n r) (ran_of D b n r')
matches_alike D classes a b n r r' e m w h =
    record {
      end = subst (λ (x : End ℕ Fault). SameEnd (ran_of D a n r).answer (answer_of x (b - length r'.left) r'.count)) (sym m.end)
          (same_end r.end (a - length r.left) (b - length r'.left) r.count r'.count m.count w h);
      globals = values_same r'.state.env r.state.env 0 n (λ u l. sym (m.state.vars u (globals_below classes u (omega arith))));
      memory = sym m.state.mem;
    }

-- a run of an accepted block on fitting globals and memory is the run of its ops
pub run_accepted : {D : Dialect} (block : List ℕ) (ds os : List (List ℕ)) (globals memory : List ℕ) → check_by D.rows block ≡ Accepted → Parts D block ds os → fits ds globals memory ≡ true
    → run_by D block globals memory ≡ run_ops D os globals memory
unfolding run_by run_checked
run_accepted block ds os globals memory h p f = rw (h, p.declared, p.ops, f)

fit_count : (ds : List (List ℕ)) (globals memory : List ℕ) → fits ds globals memory ≡ true → length globals ≡ global_count (classes_of ds)
unfolding fits
fit_count ds globals memory f =
    let a : (eqb (length globals) (global_count (classes_of ds)) && globals_fit (declared_types ds) globals) ≡ true =
    and_l (eqb (length globals) (global_count (classes_of ds)) && globals_fit (declared_types ds) globals) (leb (length memory) max_memory) f in
    eqb-true (length globals) (global_count (classes_of ds)) (and_l (eqb (length globals) (global_count (classes_of ds))) (globals_fit (declared_types ds) globals) a)

-- neither run is out of steps: that of the result is the same with the block's limit as with its own
runs_alike : {D : Dialect} (law : Lawful D) (ds os : List (List ℕ)) (globals memory : List ℕ) → scoped (tcg D) (kept_in (classes_of ds)) empty os ≡ true → fits ds globals memory ≡ true
    → proper (ops_run D os (entry D globals memory)).end ≡ true → unspent (ops_run D (pass_ops D (classes_of ds) os) (entry D globals memory)).end ≡ true
    → unstated_end (run_ops D os globals memory).answer ≡ false → Alike (run_ops D os globals memory) (run_ops D (pass_ops D (classes_of ds) os) globals memory)
unfolding run_ops pass_ops
runs_alike {D = D} law ds os globals memory c f w u h =
    let os' = pass_ops D (classes_of ds) os in
    let s = entry D globals memory in
    let r = ops_run D os s in
    let d : definite r.end ≡ true = definite_end r.end (length os - length r.left) r.count w h in
    let m = (ops_preserved law (classes_of ds) os c).alike (suc (length os)) s tt d in
    let r' = runs (tcg D) (suc (length os)) os' s in
    let u' : unspent r'.end ≡ true = rw m.end (and_l (unspent r.end) (stated r.end) d) in
    let e : r' ≡ ops_run D os' s = same_run (tcg D) os' (suc (length os)) (suc (length os')) os' s u' u in
    matches_alike D (classes_of ds) (length os) (length os') (length globals) r (ops_run D os' s) (fit_count ds globals memory f)
    (subst (Matches (tcg D) (Agree 0 (globals_in (classes_of ds))) r) e m) w h

pub blocks_alike : {D : Dialect} (law : Lawful D) (block result : List ℕ) (ds os : List (List ℕ)) → check_by D.rows block ≡ Accepted → Parts D block ds os → check_by D.rows result ≡ Accepted
    → Parts D result ds (pass_ops D (classes_of ds) os) → (globals memory : List ℕ) → Fit D block globals memory → unstated_end (run_by D block globals memory).answer ≡ false
    → Alike (run_by D block globals memory) (run_by D result globals memory)
blocks_alike {D = D} law block result ds os h p h' p' globals memory f u =
    let f₁ : fits ds globals memory ≡ true = sym (ap (λ (t : List (List ℕ)). fits t globals memory) p.declared) ∙ f in
    let e = run_accepted block ds os globals memory h p f₁ in
    let e' = run_accepted result ds (pass_ops D (classes_of ds) os) globals memory h' p' f₁ in
    let u₁ : unstated_end (run_ops D os globals memory).answer ≡ false = sym (ap (λ (t : Ran). unstated_end t.answer) e) ∙ u in
    let w : proper (ops_run D os (entry D globals memory)).end ≡ true = subst (λ (q : List (List ℕ)). proper (ops_run D q (entry D globals memory)).end ≡ true) p.ops (run_ends law block globals memory h) in
    let v : proper (ops_run D (pass_ops D (classes_of ds) os) (entry D globals memory)).end ≡ true = subst (λ (q : List (List ℕ)). proper (ops_run D q (entry D globals memory)).end ≡ true) p'.ops (run_ends law result globals memory h') in
    let n : unspent (ops_run D (pass_ops D (classes_of ds) os) (entry D globals memory)).end ≡ true = and_r (not_fell (ops_run D (pass_ops D (classes_of ds) os) (entry D globals memory)).end) _ v in
    subst₂ Alike (sym e) (sym e') (runs_alike law ds os globals memory p.in_scope f₁ w n u₁)
