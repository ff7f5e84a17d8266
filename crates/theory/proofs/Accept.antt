-- A check that reads the ops in order accepts what the pass makes of a block that it accepts, but for the rule of temporaries. Assumes nothing.
use mathlib.Core.Path.{◌≡◌, refl, ap}
use mathlib.Core.Bool.{Bool, true, false}
use mathlib.Core.List.{[], ◌∷◌}
use mathlib.Core.Logic.{◌⊎◌, inl, inr}
use Rattle.theory.proofs.Checker.{Checker, checks}
use Rattle.theory.specs.Fold.{Known, nothing, Rewrite, put, omit, cut, Mode, on, off, learned, Rule, emit}
use Rattle.theory.specs.Fold.{resume, fold, pass}
use Rattle.theory.specs.Machine.{Lang, outputs, pure, any_label, Prog}
use Rattle.theory.specs.Prune.{dead, prune_by, live}
use Rattle.theory.specs.Sets.{Vars, none_in}
use Rattle.theory.proofs.Law.{further, chain}
use Rattle.theory.proofs.Sets.{and_l, and_r, and_i, tell}

-- Le x y: whatever is accepted after x is accepted after y
pub record Lenient (L : Lang) (C : Checker L) : Type 1 where
  pub Le : C.Seen → C.Seen → Type 0
  pub le_refl : (x : C.Seen) → Le x x
  pub le_trans : (x y z : C.Seen) → Le x y → Le y z → Le x z
  pub ok_le : (x y : C.Seen) (o : L.Op) → Le x y → C.ok x o ≡ true → C.ok y o ≡ true
  pub next_le : (x y : C.Seen) (o : L.Op) → Le x y → Le (C.next x o) (C.next y o)
  pub fin_le : (x y : C.Seen) → Le x y → C.fin x ≡ true → C.fin y ≡ true
  -- a pure op may go
  pub drop_ok : (x : C.Seen) (o : L.Op) → C.ok x o ≡ true → pure (L.view o) ≡ true → Le (C.next x o) x

-- Good: what is known of the known values. Off x y: up to the next label, whatever is accepted after x is accepted from there on after y
pub record Cutting (L : Lang) (C : Checker L) (N : Lenient L C) : Type 1 where
  pub Good : Known L.Val → Type 0
  pub good_none : Good nothing
  pub Off : C.Seen → C.Seen → Type 0
  pub off_le : (x y z : C.Seen) → N.Le x y → Off y z → Off x z
  pub off_next : (x y : C.Seen) (o : L.Op) → Off x y → C.ok x o ≡ true → any_label (L.view o) ≡ false → Off (C.next x o) y
  pub off_label : (x y : C.Seen) (o : L.Op) → Off x y → C.ok x o ≡ true → any_label (L.view o) ≡ true → (C.ok y o ≡ true) × N.Le (C.next x o) (C.next y o)
  pub off_fin : (x y : C.Seen) → Off x y → C.fin x ≡ true → C.fin y ≡ true

module _ (L : Lang) (C : Checker L) (N : Lenient L C) (T : Cutting L C N) where
  -- the check accepts what a rule puts in an op's place
  abbrev pub Admitted : C.Seen → Known L.Val → L.Op → Rewrite L.Op → Type 0
  Admitted x k o (put o') = (C.ok x o' ≡ true) × N.Le (C.next x o) (C.next x o') × T.Good (learned k (L.view o'))
  Admitted x k o omit = N.Le (C.next x o) x
  Admitted x k o (cut o') = (C.ok x o' ≡ true) × T.Off (C.next x o) (C.next x o')

  abbrev pub Admits : Rule L → Type 0
  Admits rule = (x : C.Seen) (k : Known L.Val) (o : L.Op) → T.Good k → C.ok x o ≡ true → Admitted x k o (rule k o)

  -- one rule after another
  pub chain_admits : (p q : Rule L) → Admits p → Admits q → Admits (chain L p q)
  chain_admits p q ap aq x k o g h = by (p k o) (ap x k o g h)
    where
      by : (y : Rewrite L.Op) → Admitted x k o y → Admitted x k o (further L q k y)
      by (put o') a = go (q k o') (aq x k o' g a.0)
        where
          go : (y : Rewrite L.Op) → Admitted x k o' y → Admitted x k o y
          go (put e) d = (d.0, N.le_trans _ _ _ a.1 d.1, d.2)
          go omit d = N.le_trans _ _ _ a.1 d
          go (cut e) d = (d.0, T.off_le _ _ _ a.1 d.1)
      by omit a = a
      by (cut o') a = a

module _ (L : Lang) (C : Checker L) (N : Lenient L C) where
  pub prune_checks : (note : Prog L → Vars) (r : Prog L) (x y : C.Seen) → N.Le x y → checks L C x r ≡ true → checks L C y (prune_by L note r) ≡ true
  prune_checks note [] x y h c = N.fin_le x y h c
  prune_checks note (o ∷ r) x y h c =
      go (tell (dead (L.view o) (note r))) (λ u g. prune_checks note r (C.next x o) u g (and_r (C.ok x o) (checks L C (C.next x o) r) c))
    where
      go : (dead (L.view o) (note r) ≡ true) ⊎ (dead (L.view o) (note r) ≡ false)
          → ((u : C.Seen) → N.Le (C.next x o) u → checks L C u (prune_by L note r) ≡ true) → checks L C y (prune_by L note (o ∷ r)) ≡ true
      go (inl d) ih = rw d (ih y (N.le_trans (C.next x o) x y (N.drop_ok x o (and_l (C.ok x o) (checks L C (C.next x o) r) c) (and_l (pure (L.view o)) (none_in (outputs (L.view o)) (note r)) d)) h))
      go (inr d) ih =
          rw d
          (and_i (C.ok y o) (checks L C (C.next y o) (prune_by L note r)) (N.ok_le x y o h (and_l (C.ok x o) (checks L C (C.next x o) r) c))
          (ih (C.next y o) (N.next_le x y o h)))

  module _ (T : Cutting L C N) (rule : Rule L) (A : Admits L C N T rule) where
    abbrev Fine : Mode L.Val → C.Seen → C.Seen → Type 0
    Fine (on k) x y = T.Good k × N.Le x y
    Fine off x y = T.Off x y

    pub fold_checks : (r : Prog L) (m : Mode L.Val) (x y : C.Seen) → Fine m x y → checks L C x r ≡ true → checks L C y (fold L rule r m) ≡ true
    fold_checks [] (on k) x y f c = N.fin_le x y f.1 c
    fold_checks [] off x y f c = T.off_fin x y f c
    fold_checks (o ∷ r) (on k) x y f c =
        go (rule k o) (A y k o f.0 (N.ok_le x y o f.1 (and_l (C.ok x o) (checks L C (C.next x o) r) c)))
        (λ n u g. fold_checks r n (C.next x o) u g (and_r (C.ok x o) (checks L C (C.next x o) r) c))
      where
        h : N.Le (C.next x o) (C.next y o)
        h = N.next_le x y o f.1

        go : (z : Rewrite L.Op) → Admitted L C N T y k o z → ((n : Mode L.Val) (u : C.Seen) → Fine n (C.next x o) u → checks L C u (fold L rule r n) ≡ true)
            → checks L C y (emit L rule k (fold L rule r) z) ≡ true
        go (put o') p ih =
            and_i (C.ok y o') (checks L C (C.next y o') (fold L rule r (on (learned k (L.view o'))))) p.0
            (ih (on (learned k (L.view o'))) (C.next y o') (p.2, N.le_trans (C.next x o) (C.next y o) (C.next y o') h p.1))
        go omit p ih = ih (on k) y (f.0, N.le_trans (C.next x o) (C.next y o) y h p)
        go (cut o') p ih =
            and_i (C.ok y o') (checks L C (C.next y o') (fold L rule r off)) p.0 (ih off (C.next y o') (T.off_le (C.next x o) (C.next y o) (C.next y o') h p.1))
    fold_checks (o ∷ r) off x y f c =
        go (any_label (L.view o)) refl (λ n u g. fold_checks r n (C.next x o) u g (and_r (C.ok x o) (checks L C (C.next x o) r) c))
      where
        okx : C.ok x o ≡ true
        okx = and_l (C.ok x o) (checks L C (C.next x o) r) c

        go : (b : Bool) → any_label (L.view o) ≡ b → ((n : Mode L.Val) (u : C.Seen) → Fine n (C.next x o) u → checks L C u (fold L rule r n) ≡ true)
            → checks L C y (resume L rule o (fold L rule r) b) ≡ true
        go true e ih =
            let p = T.off_label x y o f okx e in
            and_i (C.ok y o) (checks L C (C.next y o) (fold L rule r (on nothing))) p.0 (ih (on nothing) (C.next y o) (T.good_none, p.1))
        go false e ih = ih off y (T.off_next x y o f okx e)

    -- what the pass makes of a block that is accepted from x on is accepted from there on
    pub pass_checks : (glob kept : Vars) (b : Prog L) (x : C.Seen) → checks L C x b ≡ true → checks L C x (pass L rule glob kept b) ≡ true
    pass_checks glob kept b x c =
        prune_checks (live L glob kept) (fold L rule b (on nothing)) x x (N.le_refl x) (fold_checks b (on nothing) x x (T.good_none, N.le_refl x) c)
