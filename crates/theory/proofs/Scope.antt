-- The pass keeps the rule of temporaries: none is read before a write in its extended basic block. Assumes nothing.
use mathlib.Core.Path.{◌≡◌, refl}
use mathlib.Core.Bool.{Bool, true, false, cond, ◌||◌}
use mathlib.Core.List.{List, [], ◌∷◌}
use mathlib.Core.Logic.{◌⊎◌, inl, inr}
use Prim.Native.Nat.{ℕ}
use lib.Dec.{eqb}
use borrow.Author.Tests.{eq-eqb}
use Rattle.theory.specs.Fold.{nothing, Rewrite, put, omit, cut, Mode, on, off, learned, Rule, emit, resume, fold, pass}
use Rattle.theory.specs.Machine.{View, Lang, inputs, outputs, closes, any_label, Prog, Viewed}
use Rattle.theory.specs.Prune.{dead, prune_by, live}
use Rattle.theory.proofs.Scoped.{may_read, wrote, scoped}
use Rattle.theory.specs.Sets.{Vars, empty, has, plus, all_in}
use Rattle.theory.proofs.Law.{Among, Fits, Lawful}
use Rattle.theory.proofs.Liveness.{base_keeps, live_scoped}
use Rattle.theory.proofs.PruneBy.{Keeps}
use Rattle.theory.proofs.Sets.{or_cases, or_l, or_r, and_l, and_r, and_i, tell, in_all, or_no}
use Rattle.theory.proofs.Views.{label_is}

or_mono : (a h u u' : Bool) → ((a || u) ≡ true → (a || u') ≡ true) → (a || (h || u)) ≡ true → (a || (h || u')) ≡ true
or_mono true h u u' f p = refl
or_mono false true u u' f p = refl
or_mono false false u u' f p = f p

module _ (kept : Vars) where
  -- what may be read where u is written may be read where u' is
  abbrev pub Le : Vars → Vars → Type 0
  Le u u' = (v : ℕ) → (kept v || u v) ≡ true → (kept v || u' v) ≡ true

  all_more : (xs : List ℕ) (u u' : Vars) → Le u u' → all_in kept xs u ≡ true → all_in kept xs u' ≡ true
  all_more [] u u' h p = refl
  all_more (x ∷ xs) u u' h p =
      and_i (kept x || u' x) (all_in kept xs u') (h x (and_l (kept x || u x) (all_in kept xs u) p))
      (all_more xs u u' h (and_r (kept x || u x) (all_in kept xs u) p))

  -- all are in if each is
  all_in_lem : (xs : List ℕ) (u : Vars) → ((v : ℕ) → has xs v ≡ true → (kept v || u v) ≡ true) → all_in kept xs u ≡ true
  all_in_lem [] u h = refl
  all_in_lem (x ∷ xs) u h =
      and_i (kept x || u x) (all_in kept xs u) (h x (or_l (eqb x x) (has xs x) (eq-eqb x x refl))) (all_in_lem xs u (λ v q. h v (or_r (eqb x v) (has xs v) q)))

  module _ {Val Mem Out Flt : Type 0} where
    wrote_more : (w : View Val Mem Out Flt) (u u' : Vars) → Le u u' → Le (wrote u w) (wrote u' w)
    wrote_more w u u' h v = go (closes w)
      where
        go : (b : Bool) → (kept v || cond b empty (plus u (outputs w)) v) ≡ true → (kept v || cond b empty (plus u' (outputs w)) v) ≡ true
        go true p = p
        go false p = or_mono (kept v) (has (outputs w) v) (u v) (u' v) (h v) p

module _ (L : Lang) (kept : Vars) (Ok : L.Op → Type 0) (Fit : (ℕ → L.Val) → Type 0) (rule : Rule L) (good : Lawful L Ok Fit rule) where
  -- on: with more written than in the source; off: with anything written
  abbrev Within : Mode L.Val → Vars → Vars → Type 0
  Within (on k) u u' = Le kept u u'
  Within off u u' = Unit {0}

  pub fold_scoped : (r : Prog L) (m : Mode L.Val) (u u' : Vars) → Within m u u' → scoped L kept u r ≡ true → scoped L kept u' (fold L rule r m) ≡ true
  fold_scoped [] m u u' h c = refl
  fold_scoped (o ∷ r) (on k) u u' h c = go (rule k o) (good.fits k o) (λ m x h'. fold_scoped r m (wrote u w) x h' (and_r (may_read kept u w) (scoped L kept (wrote u w) r) c))
    where
      w : Viewed L
      w = L.view o

      m₁ : may_read kept u' w ≡ true
      m₁ = all_more kept (inputs w) u u' h (and_l (may_read kept u w) (scoped L kept (wrote u w) r) c)

      -- what reads no more may be read
      fewer : (o' : L.Op) → Among (inputs (L.view o')) (inputs w) → may_read kept u' (L.view o') ≡ true
      fewer o' y = all_in_lem kept (inputs (L.view o')) u' (λ v q. in_all kept (inputs w) u' v m₁ (y v q))

      -- an op that is omitted writes what it reads
      omits : Among (outputs w) (inputs w) → Le kept (wrote u' w) u'
      omits y v = by (closes w)
        where
          at : (kept v ≡ true) ⊎ ((has (outputs w) v || u' v) ≡ true) → (kept v || u' v) ≡ true
          at (inl e) = or_l (kept v) (u' v) e
          at (inr e) = or_else (or_cases (has (outputs w) v) (u' v) e)
            where
              or_else : (has (outputs w) v ≡ true) ⊎ (u' v ≡ true) → (kept v || u' v) ≡ true
              or_else (inl q) = in_all kept (inputs w) u' v m₁ (y v q)
              or_else (inr q) = or_r (kept v) (u' v) q

          by : (x : Bool) → (kept v || cond x empty (plus u' (outputs w)) v) ≡ true → (kept v || u' v) ≡ true
          by true q = or_l (kept v) (u' v) (or_no (kept v) q)
          by false q = at (or_cases (kept v) (has (outputs w) v || u' v) q)

      go : (x : Rewrite L.Op) → Fits L Ok o x
          → ((m : Mode L.Val) (y : Vars) → Within m (wrote u w) y → scoped L kept y (fold L rule r m) ≡ true)
          → scoped L kept u' (emit L rule k (fold L rule r) x) ≡ true
      go (put o') y ih =
          and_i (may_read kept u' (L.view o')) (scoped L kept (wrote u' (L.view o')) (fold L rule r (on (learned k (L.view o'))))) (fewer o' y.0)
          (ih (on (learned k (L.view o'))) (wrote u' (L.view o')) (rw (y.1, y.2) (wrote_more kept w u u' h)))
      go omit y ih = ih (on k) u' (λ v t. omits y v (wrote_more kept w u u' h v t))
      go (cut o') y ih =
          and_i (may_read kept u' (L.view o')) (scoped L kept (wrote u' (L.view o')) (fold L rule r off)) (fewer o' y.0)
          (ih off (wrote u' (L.view o')) tt)
  fold_scoped (o ∷ r) off u u' h c = go (any_label (L.view o)) refl (λ m x h'. fold_scoped r m (wrote u w) x h' (and_r (may_read kept u w) (scoped L kept (wrote u w) r) c))
    where
      w : Viewed L
      w = L.view o

      go : (b : Bool) → any_label w ≡ b → ((m : Mode L.Val) (y : Vars) → Within m (wrote u w) y → scoped L kept y (fold L rule r m) ≡ true)
          → scoped L kept u' (resume L rule o (fold L rule r) b) ≡ true
      go true e ih =
          let p = label_is w e in
          and_i (may_read kept u' w) (scoped L kept (wrote u' w) (fold L rule r (on nothing))) (rw p.1) (ih (on nothing) (wrote u' w) (rw p.1 (λ v q. q)))
      go false e ih = ih off u' tt

-- so does a prune by a note of what is live, where a live temporary is one that is written
module _ (L : Lang) (kept : Vars) (note : Prog L → Vars) (keeps : Keeps L note)
    (within : (r : Prog L) (u : Vars) (v : ℕ) → scoped L kept u r ≡ true → note r v ≡ true → (kept v || u v) ≡ true) where
  pub prune_scoped : (r : Prog L) (u u' : Vars) → scoped L kept u r ≡ true → ((v : ℕ) → note r v ≡ true → (kept v || u' v) ≡ true)
      → scoped L kept u' (prune_by L note r) ≡ true
  prune_scoped [] u u' c h = refl
  prune_scoped (o ∷ r) u u' c h =
      go (tell (dead w (note r))) (λ x. prune_scoped r (wrote u w) x c')
    where
      w : Viewed L
      w = L.view o

      c' : scoped L kept (wrote u w) r ≡ true
      c' = and_r (may_read kept u w) (scoped L kept (wrote u w) r) c

      -- what is live after a kept op was so before it, or is written by it
      past : dead w (note r) ≡ false → (v : ℕ) → note r v ≡ true → (b : Bool) → closes w ≡ b → (kept v || cond b empty (plus u (outputs w)) v) ≡ true
          → (kept v || cond b empty (plus u' (outputs w)) v) ≡ true
      past d v q true e x = x
      past d v q false e x = at (tell (has (outputs w) v))
        where
          at : (has (outputs w) v ≡ true) ⊎ (has (outputs w) v ≡ false) → (kept v || (has (outputs w) v || u' v)) ≡ true
          at (inl y) = or_r (kept v) (has (outputs w) v || u' v) (or_l (has (outputs w) v) (u' v) y)
          at (inr y) = rw y (h v (keeps.on_live o r v d e y q))

      go : (dead w (note r) ≡ true) ⊎ (dead w (note r) ≡ false)
          → ((x : Vars) → ((v : ℕ) → note r v ≡ true → (kept v || x v) ≡ true) → scoped L kept x (prune_by L note r) ≡ true)
          → scoped L kept u' (prune_by L note (o ∷ r)) ≡ true
      go (inl d) ih = rw d (ih u' (λ v q. h v (keeps.drop_live o r v d q)))
      go (inr d) ih =
          rw d
          (and_i (may_read kept u' w) (scoped L kept (wrote u' w) (prune_by L note r)) (all_in_lem kept (inputs w) u' (λ v q. h v (keeps.in_live o r v d q)))
          (ih (wrote u' w) (λ v q. past d v q (closes w) refl (within r (wrote u w) v c' q))))

module _ (L : Lang) (glob kept : Vars) (wide : (v : ℕ) → glob v ≡ true → kept v ≡ true) where
  module _ (Ok : L.Op → Type 0) (Fit : (ℕ → L.Val) → Type 0) (rule : Rule L) (good : Lawful L Ok Fit rule) where
    pub pass_scoped : (b : Prog L) → scoped L kept empty b ≡ true → scoped L kept empty (pass L rule glob kept b) ≡ true
    pass_scoped b c =
        let f : scoped L kept empty (fold L rule b (on nothing)) ≡ true = fold_scoped L kept Ok Fit rule good b (on nothing) empty empty (λ v q. q) c in
        prune_scoped L kept (live L glob kept) (base_keeps L glob kept) (live_scoped L glob kept wide) (fold L rule b (on nothing)) empty empty f
        (λ v. live_scoped L glob kept wide (fold L rule b (on nothing)) empty v f)
