-- The pass done again changes nothing: no op of its result folds, and none is dead. Assumes nothing.
use mathlib.Core.Path.{◌≡◌, refl, ap, ◌∙◌}
use mathlib.Core.Bool.{Bool, true, false, cond}
use Rattle.std.specs.Prelude.{None}
use mathlib.Core.List.{[], ◌∷◌}
use mathlib.Core.Logic.{◌⊎◌, inl, inr}
use Prim.Native.Nat.{ℕ}
use Rattle.theory.specs.Fold.{Known, nothing, Rewrite, put, omit, cut, on, off, gain, learned, Rule, emit, resume, fold, pass, Still}
use Rattle.theory.specs.Machine.{Lang, writes, inputs, outputs, computes, pure, closes, any_label, Prog, Viewed}
use Rattle.theory.specs.Prune.{dead, prune_by, live, prune, live_all, AllUsed}
use Rattle.theory.specs.Sets.{Vars, none_in}
use Rattle.theory.proofs.Fold.{any_learned}
use Rattle.theory.proofs.Law.{Rests, Lawful}
use Rattle.theory.proofs.Liveness.{base_keeps}
use Rattle.theory.proofs.PruneBy.{Keeps}
use Rattle.theory.proofs.Sets.{and_l, and_r, tell, dead_out, writes_other, writes_both}
use Rattle.theory.proofs.Views.{pure_open}

-- a prune by a note leaves no dead op, by any note that says of what is left what the first says of the whole
pub left_used : (L : Lang) (note note' : Prog L → Vars) → ((r : Prog L) → note' (prune_by L note r) ≡ note r) → (r : Prog L) → AllUsed L note' (prune_by L note r)
left_used L note note' e [] = tt
left_used L note note' e (o ∷ r) = go (tell (dead (L.view o) (note r))) (left_used L note note' e r)
  where
    go : (dead (L.view o) (note r) ≡ true) ⊎ (dead (L.view o) (note r) ≡ false) → AllUsed L note' (prune_by L note r) → AllUsed L note' (prune_by L note (o ∷ r))
    go (inl d) ih = rw d ih
    go (inr d) ih = rw d (rw (e r) d, ih)

-- where no op is dead, none is dropped
pub used-same : (L : Lang) (note : Prog L → Vars) (r : Prog L) → AllUsed L note r → prune_by L note r ≡ r
used-same L note [] h = refl
used-same L note (o ∷ r) h = rw h.0 (ap (λ (q : Prog L). o ∷ q) (used-same L note r h.1))

module _ (L : Lang) (glob kept : Vars) where
  -- with the dropped ops gone, what is live is what prune worked out
  prune_live : (r : Prog L) → live_all L glob kept (prune L glob kept r) ≡ live L glob kept r
  prune_live [] = refl
  prune_live (o ∷ r) = go (tell (dead (L.view o) (live L glob kept r))) (prune_live r)
    where
      go : (dead (L.view o) (live L glob kept r) ≡ true) ⊎ (dead (L.view o) (live L glob kept r) ≡ false)
          → live_all L glob kept (prune L glob kept r) ≡ live L glob kept r → live_all L glob kept (prune L glob kept (o ∷ r)) ≡ live L glob kept (o ∷ r)
      go (inl d) ih = rw d ih
      go (inr d) ih = rw d (rw ih)

  -- where no op is dead, the two notes are one
  used_live : (r : Prog L) → AllUsed L (live_all L glob kept) r → (live L glob kept r ≡ live_all L glob kept r) × AllUsed L (live L glob kept) r
  used_live [] h = (refl, tt)
  used_live (o ∷ r) h = let p = used_live r h.1 in (rw (p.0, h.0), (rw p.0 h.0, p.1))

module _ (L : Lang) (Ok : L.Op → Type 0) (Fit : (ℕ → L.Val) → Type 0) (rule : Rule L) (good : Lawful L Ok Fit rule) where
  pub still_same : (r : Prog L) (k : Known L.Val) → Still L rule r k → fold L rule r (on k) ≡ r
  still_same [] k h = refl
  still_same (o ∷ r) k h = rw h.0 (ap (λ (q : Prog L). o ∷ q) (still_same r (learned k (L.view o)) h.1))

  fold_both : (r : Prog L) → ((k : Known L.Val) → Still L rule (fold L rule r (on k)) k) × ((k : Known L.Val) → Still L rule (fold L rule r off) k)
  fold_both [] = (λ k. tt, λ k. tt)
  fold_both (o ∷ r) = both_cases (fold_both r)
    where
      both_cases : ((k : Known L.Val) → Still L rule (fold L rule r (on k)) k) × ((k : Known L.Val) → Still L rule (fold L rule r off) k)
          → ((k : Known L.Val) → Still L rule (fold L rule (o ∷ r) (on k)) k) × ((k : Known L.Val) → Still L rule (fold L rule (o ∷ r) off) k)
      both_cases ih = (λ k. reads_on k (rule k o) (good.rests k o), λ k. reads_off k (tell (any_label (L.view o))))
        where
          reads_on : (k : Known L.Val) (x : Rewrite L.Op) → Rests L rule k x → Still L rule (emit L rule k (fold L rule r) x) k
          reads_on k (put o') q = (q, ih.0 (learned k (L.view o')))
          reads_on k omit q = ih.0 k
          reads_on k (cut o') q = (q, ih.1 (learned k (L.view o')))

          reads_off : (k : Known L.Val) → (any_label (L.view o) ≡ true) ⊎ (any_label (L.view o) ≡ false) → Still L rule (resume L rule o (fold L rule r) (any_label (L.view o))) k
          reads_off k (inl e) = rw e (good.stays k o e, rw (any_learned k (L.view o) e) (ih.0 nothing))
          reads_off k (inr e) = rw e (ih.1 k)

  pub fold_still : (r : Prog L) → Still L rule (fold L rule r (on nothing)) nothing
  fold_still r = (fold_both r).0 nothing

  -- a prune drops no op that fold learns from for a kept one
  module _ (note : Prog L → Vars) (keeps : Keeps L note) where
    learned_live : (o : L.Op) (r : Prog L) (k k' : Known L.Val) → dead (L.view o) (note r) ≡ false → ((v : ℕ) → note (o ∷ r) v ≡ true → k v ≡ k' v)
        → (v : ℕ) → note r v ≡ true → learned k (L.view o) v ≡ learned k' (L.view o) v
    learned_live o r k k' d h v q = go (closes w) refl
      where
        w : Viewed L
        w = L.view o

        go : (b : Bool) → closes w ≡ b
            → cond b nothing (writes None k (outputs w) (gain (inputs w) (computes w))) v ≡ cond b nothing (writes None k' (outputs w) (gain (inputs w) (computes w))) v
        go true e = refl
        go false e = writes_both None k k' (outputs w) (gain (inputs w) (computes w)) v (λ x. h v (keeps.on_live o r v d e x q))

    learned_dead : (w : Viewed L) (l : Vars) (k : Known L.Val) (v : ℕ) → dead w l ≡ true → l v ≡ true → learned k w v ≡ k v
    learned_dead w l k v d q =
        rw (pure_open w (and_l (pure w) (none_in (outputs w) l) d))
        (writes_other None k (outputs w) (gain (inputs w) (computes w)) v (dead_out (outputs w) l v (and_r (pure w) (none_in (outputs w) l) d) q))

    pub still_prune : (r : Prog L) (k k' : Known L.Val) → Still L rule r k → ((v : ℕ) → note r v ≡ true → k v ≡ k' v) → Still L rule (prune_by L note r) k'
    still_prune [] k k' h a = tt
    still_prune (o ∷ r) k k' h a = go (tell (dead w (note r))) (λ j. still_prune r (learned k w) j h.1)
      where
        w : Viewed L
        w = L.view o

        go : (dead w (note r) ≡ true) ⊎ (dead w (note r) ≡ false)
            → ((j : Known L.Val) → ((v : ℕ) → note r v ≡ true → learned k w v ≡ j v) → Still L rule (prune_by L note r) j)
            → Still L rule (prune_by L note (o ∷ r)) k'
        go (inl d) ih = rw d (ih k' (λ v q. learned_dead w (note r) k v d q ∙ a v (keeps.drop_live o r v d q)))
        go (inr d) ih =
            let e : rule k o ≡ rule k' o = good.near k k' o (λ v q. a v (keeps.in_live o r v d q)) in
            rw d (rw e at h.0, ih (learned k' w) (learned_live o r k k' d a))

  module _ (glob kept : Vars) where
    -- no op of the pass's result folds
    pub pass_still : (b : Prog L) → Still L rule (pass L rule glob kept b) nothing
    pass_still b = still_prune (live L glob kept) (base_keeps L glob kept) (fold L rule b (on nothing)) nothing nothing (fold_still b) (λ v q. refl)

    -- no pure op of it has dead outputs
    pub pass_used : (b : Prog L) → AllUsed L (live_all L glob kept) (pass L rule glob kept b)
    pass_used b = left_used L (live L glob kept) (live_all L glob kept) (prune_live L glob kept) (fold L rule b (on nothing))

    -- the pass done again changes nothing
    pub pass_again : (b : Prog L) → pass L rule glob kept (pass L rule glob kept b) ≡ pass L rule glob kept b
    pass_again b =
        ap (prune L glob kept) (still_same (pass L rule glob kept b) nothing (pass_still b))
        ∙ used-same L (live L glob kept) (pass L rule glob kept b) (used_live L glob kept (pass L rule glob kept b) (pass_used b)).1
