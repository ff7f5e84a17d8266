-- Document 01's list of what is live covers what the ops need, where temporaries keep to their extended basic blocks. Assumes nothing.
use mathlib.Core.Path.{◌≡◌, refl}
use mathlib.Core.Bool.{Bool, true, false, cond, ◌||◌}
use mathlib.Core.List.{[], ◌∷◌}
use mathlib.Core.Logic.{◌⊎◌, inl, inr}
use Prim.Native.Nat.{ℕ}
use Rattle.theory.specs.Machine.{Lang, outputs, pure, closes, is_label, St, Prog, Viewed, seek, runs}
use Rattle.theory.specs.Prune.{dead, live, prune}
use Rattle.theory.proofs.Scoped.{may_read, wrote, scoped}
use Rattle.theory.specs.Sets.{Vars, empty, has, none_in}
use Rattle.theory.proofs.PruneBy.{Agree, Keeps, asks, Covers, prune_by_right}
use Rattle.theory.proofs.Sets.{or_l, and_l, and_r, tell, dead_out, or_mid, or_no}
use Rattle.theory.proofs.Simulation.{definite, Matches}
use Rattle.theory.proofs.Views.{pure_open, label_is, label_any, need_mono, inputs_need, passes, need_scoped}

pub base_keeps : (L : Lang) (glob kept : Vars) → Keeps L (live L glob kept)
base_keeps L glob kept =
    record {
      in_live = λ o r v d h. rw d (inputs_need glob (L.view o) _ _ v h);
      on_live = λ o r v d e h q. rw d (passes glob (L.view o) _ _ v e h (rw e q));
      drop_live = λ o r v d q. rw d q;
    }

module _ (L : Lang) (glob kept : Vars) (wide : (v : ℕ) → glob v ≡ true → kept v ≡ true) where
  -- a dead op makes nothing live and writes nothing that is
  pub dead_scoped : (w : Viewed L) (l u : Vars) (v : ℕ) → dead w l ≡ true → (kept v || wrote u w v) ≡ true → l v ≡ true → (kept v || u v) ≡ true
  dead_scoped w l u v d h q =
      let e : closes w ≡ false = pure_open w (and_l (pure w) (none_in (outputs w) l) d) in
      or_mid (kept v) (has (outputs w) v) (u v) (rw e at h) (dead_out (outputs w) l v (and_r (pure w) (none_in (outputs w) l) d) q)

  -- what is live outlives the extended basic block or is written in it
  pub live_scoped : (r : Prog L) (u : Vars) (v : ℕ) → scoped L kept u r ≡ true → live L glob kept r v ≡ true → (kept v || u v) ≡ true
  live_scoped [] u v c h = or_l (kept v) (u v) (wide v h)
  live_scoped (o ∷ r) u v c h = go (tell (dead w l)) (live_scoped r (wrote u w) v (and_r (may_read kept u w) (scoped L kept (wrote u w) r) c))
    where
      w : Viewed L
      w = L.view o

      l : Vars
      l = live L glob kept r

      past : (b : Bool) → closes w ≡ b → (l v ≡ true → (kept v || wrote u w v) ≡ true) → cond b kept l v ≡ true → (kept v || wrote u w v) ≡ true
      past true e ih q = or_l (kept v) (wrote u w v) q
      past false e ih q = ih q

      go : (dead w l ≡ true) ⊎ (dead w l ≡ false) → (l v ≡ true → (kept v || wrote u w v) ≡ true) → (kept v || u v) ≡ true
      go (inl d) ih = let q : l v ≡ true = rw d at h in dead_scoped w l u v d (ih q) q
      go (inr d) ih =
          need_scoped glob kept wide w (cond (closes w) kept l) u (λ k. kept) v (and_l (may_read kept u w) (scoped L kept (wrote u w) r) c) (past (closes w) refl ih) (λ k q. q)
          (rw d at h)

  pub seek_scoped : (k : ℕ) (r : Prog L) (u : Vars) → scoped L kept u r ≡ true → scoped L kept empty (seek L k r) ≡ true
  seek_scoped k [] u h = refl
  seek_scoped k (o ∷ r) u h = go (tell (is_label k (L.view o))) (seek_scoped k r (wrote u (L.view o)) q)
    where
      q : scoped L kept (wrote u (L.view o)) r ≡ true
      q = and_r (may_read kept u (L.view o)) (scoped L kept (wrote u (L.view o)) r) h

      go : (is_label k (L.view o) ≡ true) ⊎ (is_label k (L.view o) ≡ false) → scoped L kept empty (seek L k r) ≡ true
          → scoped L kept empty (seek L k (o ∷ r)) ≡ true
      go (inl e) ih = let p = label_is (L.view o) (label_any k (L.view o) e) in rw (e, p.1) (rw p.1 at q)
      go (inr e) ih = rw e ih

  -- the rests of a block that keeps the rule of temporaries
  abbrev pub In : Prog L → Type 0
  In r = (u : Vars) × (scoped L kept u r ≡ true)

  pub inside : (o : L.Op) (r : Prog L) (p : In (o ∷ r)) → scoped L kept (wrote p.0 (L.view o)) r ≡ true
  inside o r p = and_r (may_read kept p.0 (L.view o)) (scoped L kept (wrote p.0 (L.view o)) r) p.1

  module _ (b : Prog L) (c : scoped L kept empty b ≡ true) where
    base_holds : (o : L.Op) (r : Prog L) → In (o ∷ r) → (v : ℕ) → asks L glob (live L glob kept) b o r v ≡ true → live L glob kept (o ∷ r) v ≡ true
    base_holds o r p v h = go (tell (dead w l))
      where
        w : Viewed L
        w = L.view o

        l : Vars
        l = live L glob kept r

        past : (b : Bool) → closes w ≡ b → l v ≡ true → cond b kept l v ≡ true
        past true e q = or_no (kept v) (rw e at (live_scoped r (wrote p.0 w) v (inside o r p) q))
        past false e q = q

        go : (dead w l ≡ true) ⊎ (dead w l ≡ false) → live L glob kept (o ∷ r) v ≡ true
        go (inl x) = rw x (rw x at h)
        go (inr x) =
            rw x
            (need_mono glob w l (cond (closes w) kept l) (λ k. live L glob kept (seek L k b)) (λ k. kept) v (past (closes w) refl)
            (λ k q. or_no (kept v) (live_scoped (seek L k b) empty v (seek_scoped k b empty c) q))
            (rw x at h))

    pub base_covers : Covers L glob (live L glob kept) b In
    base_covers =
        record {
          stop = λ v q. q;
          holds = base_holds;
          rest = λ o r p. (wrote p.0 (L.view o), inside o r p);
          dest = λ k. (empty, seek_scoped k b empty c);
        }

    -- what prune keeps ends as the block did, with the same globals and memory, in no more ops
    pub prune_right : (n : ℕ) (s : St L) → definite (runs L n b s).end ≡ true → Matches L (Agree L.zero_v glob) (runs L n b s) (runs L n (prune L glob kept b) s)
    prune_right n s x = prune_by_right L glob (live L glob kept) b In base_covers n s (empty, c) x
