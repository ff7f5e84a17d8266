-- What the variables hold, in the lent globals and the temporaries. Assumes nothing.
use mathlib.Core.Path.{◌≡◌, refl, sym, ap, ◌∙◌, fun_ext}
use mathlib.Core.Bool.{true, false, cond}
use mathlib.Core.List.{List, []}
use mathlib.Core.Logic.{◌⊎◌, inl, inr}
use Prim.Native.Nat.{ℕ, zero, suc, ◌+◌, ◌≤◌, ◌<◌}
use native.Mathlib.Omega.{arith}
use native.Mathlib.Nat.{zero-add, add-zero}
use lib.Dec.{eqb, ltb}
use lib.ListN.{length, get_or, set, replicate, length-set, get_or-eq_default}
use lib.Seq.{ext_get_or}
use borrow.Author.Tests.{ltb-true, ltb-false, eqb-true, lt-ltb, le-ltb}
use Rattle.theory.specs.Sets.{upd}
use Rattle.theory.proofs.Sets.{tell}
use Rattle.block.specs.Scan.{SetAt}
use Rattle.block.proofs.MarkSets.{at_place, zeros}
use Rattle.runs.specs.Runs.{values_from}
use Rattle.runs.specs.Evaluates.{env_of, PutAt}

-- a variable is read from the globals, or from the temporaries
module _ (globals temps : List ℕ) {v i : ℕ} (e : i ≡ v) where
  pub get_global : i < length globals → get_or globals i 0 ≡ env_of globals temps v
  unfolding env_of
  get_global h = rw (lt-ltb v (length globals) (omega arith)) (ap (λ (j : ℕ). get_or globals j 0) e)

  pub get_other : length globals ≤ i → get_or temps i 0 ≡ env_of globals temps v
  unfolding env_of
  get_other h = rw (le-ltb v (length globals) (omega arith)) (ap (λ (j : ℕ). get_or temps j 0) e)

  -- and put into the one or the other
  pub put_global : {globals' : List ℕ} {x : ℕ} → i < length globals → globals' ≡ set globals i x → PutAt globals temps v x globals' temps
  put_global {globals'} {x} h q = record { global = λ l. (record { inside = l; becomes = q ∙ ap (λ (j : ℕ). set globals j x) e }, refl); other = λ l. absurd (omega arith) }

  pub put_other : {temps' : List ℕ} {x : ℕ} → length globals ≤ i → SetAt temps v x temps' → PutAt globals temps v x globals temps'
  put_other h s = record { global = λ l. absurd (omega arith); other = λ l. (refl, s) }

-- a variable that is put: what the variables hold then
pub put_env : {globals temps globals' temps' : List ℕ} {v x : ℕ} → PutAt globals temps v x globals' temps' → upd (env_of globals temps) v x ≡ env_of globals' temps'
unfolding env_of
put_env {globals} {temps} {globals'} {temps'} {v} {x} s = fun_ext (λ u. go u (tell (ltb v (length globals))))
  where
    global : (u : ℕ) → (ltb v (length globals) ≡ true) → cond (eqb v u) x (env_of globals temps u) ≡ env_of globals' temps' u
    global u t =
        let q = s.global (ltb-true v (length globals) t) in
        let n : length globals' ≡ length globals = ap length q.0.becomes ∙ simp length-set in
        rw (n, at_place q.0 u, q.1) (pick (tell (eqb v u)))
      where
        pick : (eqb v u ≡ true) ⊎ (eqb v u ≡ false) → cond (eqb v u) x (env_of globals temps u) ≡ cond (ltb u (length globals)) (cond (eqb v u) x (get_or globals u 0)) (get_or temps u 0)
        pick (inl e) = let w : ltb u (length globals) ≡ true = ap (λ (i : ℕ). ltb i (length globals)) (sym (eqb-true v u e)) ∙ t in rw (e, w)
        pick (inr e) = rw e

    other : (u : ℕ) → (ltb v (length globals) ≡ false) → cond (eqb v u) x (env_of globals temps u) ≡ env_of globals' temps' u
    other u t =
        let q = s.other (ltb-false v (length globals) t) in
        rw (q.0, at_place q.1 u) (pick (tell (eqb v u)))
      where
        pick : (eqb v u ≡ true) ⊎ (eqb v u ≡ false) → cond (eqb v u) x (env_of globals temps u) ≡ cond (ltb u (length globals)) (get_or globals u 0) (cond (eqb v u) x (get_or temps u 0))
        pick (inl e) = let w : ltb u (length globals) ≡ false = ap (λ (i : ℕ). ltb i (length globals)) (sym (eqb-true v u e)) ∙ t in rw (e, w)
        pick (inr e) = rw e

    go : (u : ℕ) → (ltb v (length globals) ≡ true) ⊎ (ltb v (length globals) ≡ false) → cond (eqb v u) x (env_of globals temps u) ≡ env_of globals' temps' u
    go u (inl t) = global u t
    go u (inr t) = other u t

values_length : (env : ℕ → ℕ) (v n : ℕ) → length (values_from env v n) ≡ n
values_length env v zero = refl
values_length env v (suc n) = ap suc (values_length env (suc v) n)

values_at : (env : ℕ → ℕ) (v n i : ℕ) → i < n → get_or (values_from env v n) i 0 ≡ env (v + i)
values_at env v zero i h = absurd (omega arith)
values_at env v (suc n) zero h = ap env (sym (add-zero v))
values_at env v (suc n) (suc i) h = let e : suc v + i ≡ v + suc i = omega arith in values_at env (suc v) n i (omega arith) ∙ ap env e

-- the temporaries start at zero, so the variables hold the globals and else nothing
pub lent_env : (globals temps : List ℕ) → temps ≡ replicate 256 0 → env_of globals temps ≡ (λ v. get_or globals v 0)
unfolding env_of
lent_env globals temps e = fun_ext (λ v. ap (λ (l : List ℕ). cond (ltb v (length globals)) (get_or globals v 0) (get_or l v 0)) e ∙ go v (tell (ltb v (length globals))))
  where
    go : (v : ℕ) → (ltb v (length globals) ≡ true) ⊎ (ltb v (length globals) ≡ false) → cond (ltb v (length globals)) (get_or globals v 0) (get_or (replicate 256 0) v 0) ≡ get_or globals v 0
    go v (inl t) = rw t
    go v (inr t) = let q : length globals ≤ v = ltb-false v (length globals) t in rw t (zeros 256 v ∙ sym (get_or-eq_default globals 0 {n = v} q))

-- no global is lent
pub env_alone : (temps : List ℕ) → env_of [] temps ≡ (λ v. get_or temps v 0)
unfolding env_of
env_alone temps = fun_ext (λ v. rw (le-ltb v 0 (omega arith)))

-- the globals are what the first variables hold
pub globals_left : (globals temps : List ℕ) (n : ℕ) → length globals ≡ n → globals ≡ values_from (env_of globals temps) 0 n
unfolding env_of
globals_left globals temps n e =
    ext_get_or 0 globals (values_from (env_of globals temps) 0 n) (e ∙ sym (values_length (env_of globals temps) 0 n))
    (λ j l. sym (values_at (env_of globals temps) 0 n j (omega arith) ∙ ap (env_of globals temps) (zero-add j) ∙ rw (lt-ltb j (length globals) l)))
