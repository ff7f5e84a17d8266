-- What the pass makes of a block preserves its runs, and is settled. Assumes nothing.
use mathlib.Core.Path.{◌≡◌, ◌∙◌}
use mathlib.Core.Bool.{true}
use Prim.Native.Nat.{ℕ}
use native.Mathlib.Omega.{arith}
use Rattle.theory.specs.Fold.{nothing, on, Rule, fold, pass, Still}
use Rattle.theory.specs.Machine.{Lang, St, Prog, runs}
use Rattle.theory.specs.Sets.{All, Vars, empty}
use Rattle.theory.specs.Prune.{AllUsed, live_all}
use Rattle.theory.proofs.Scoped.{scoped}
use Rattle.theory.proofs.Again.{pass_still, pass_used, pass_again}
use Rattle.theory.proofs.Fold.{Fitting, fold_right}
use Rattle.theory.proofs.Law.{Lawful}
use Rattle.theory.proofs.Liveness.{prune_right}
use Rattle.theory.proofs.PruneBy.{Agree}
use Rattle.theory.proofs.Scope.{fold_scoped, pass_scoped}
use Rattle.theory.proofs.Simulation.{definite, Matches}

module _ (L : Lang) (glob kept : Vars) (wide : (v : ℕ) → glob v ≡ true → kept v ≡ true) (rule : Rule L) (Ok : L.Op → Type 0) (Fit : (ℕ → L.Val) → Type 0)
    (fitting : Fitting L Ok Fit) (good : Lawful L Ok Fit rule) where
  pub record Preserves (b : Prog L) : Type 0 where
    pub accepted : scoped L kept empty (pass L rule glob kept b) ≡ true
    -- both runs are lent one limit
    pub alike : (n : ℕ) (s : St L) → Fit s.env → definite (runs L n b s).end ≡ true → Matches L (Agree L.zero_v glob) (runs L n b s) (runs L n (pass L rule glob kept b) s)
    pub folded : Still L rule (pass L rule glob kept b) nothing
    pub used : AllUsed L (live_all L glob kept) (pass L rule glob kept b)
    pub again : pass L rule glob kept (pass L rule glob kept b) ≡ pass L rule glob kept b

  pub preserves : (b : Prog L) → All Ok b → scoped L kept empty b ≡ true → Preserves b
  preserves b a c =
      record {
        accepted = pass_scoped L glob kept wide Ok Fit rule good b c;
        alike = at;
        folded = pass_still L Ok Fit rule good glob kept b;
        used = pass_used L Ok Fit rule good glob kept b;
        again = pass_again L Ok Fit rule good glob kept b;
      }
    where
      at : (n : ℕ) (s : St L) → Fit s.env → definite (runs L n b s).end ≡ true → Matches L (Agree L.zero_v glob) (runs L n b s) (runs L n (pass L rule glob kept b) s)
      at n s g x =
          let f = fold_right L rule Ok Fit fitting good b a n s g x in
          let c₁ : scoped L kept empty (fold L rule b (on nothing)) ≡ true = fold_scoped L kept Ok Fit rule good b (on nothing) empty empty (λ v q. q) c in
          let p = prune_right L glob kept wide (fold L rule b (on nothing)) c₁ n s (rw f.end x) in
          record { end = p.end ∙ f.end; state = rw f.state at p.state; count = omega (arith, p.count, f.count) }
