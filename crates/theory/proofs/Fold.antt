-- What fold makes of a block does what the block did. Assumes nothing.
use mathlib.Core.Path.{◌≡◌, refl, sym, ap, ◌∙◌}
use mathlib.Core.Bool.{Bool, true, false, cond}
use Rattle.std.specs.Prelude.{Option, None, Some, is_some}
use mathlib.Core.List.{List, [], ◌∷◌}
use mathlib.Core.Logic.{◌⊎◌, inl, inr}
use Prim.Native.Nat.{ℕ}
use lib.Dec.{eqb}
use Rattle.theory.specs.Fold.{Known, nothing, Rewrite, put, omit, cut, Mode, on, off, somes, given, gain, learned, Rule, emit}
use Rattle.theory.specs.Fold.{fold}
use Rattle.theory.specs.Machine.{Touch, faults, gives, always, when, Way, to, out, View, calc, access, label, flow, Lang}
use Rattle.theory.specs.Machine.{unstated, State, Effect, falls, jumps, stops, head_or, tail_of, reads, writes}
use Rattle.theory.specs.Sets.{upd, All}
use Rattle.theory.specs.Machine.{any_label, is_label, after_calc, after_access, sent, effect, St, Prog, Effects, seek, moved, runs}
use Rattle.theory.proofs.Law.{Right, As, Fits, Lawful}
use Rattle.theory.proofs.Sets.{tell}
use Rattle.theory.proofs.Simulation.{definite, Follows, drops, moves, ends, open_end, Matches, simulates}
use Rattle.theory.proofs.Views.{label_closes, no_some, label_any, any_none}

pub gain_none : {Val : Type 0} (ins : List ℕ) → gain {Val = Val} ins (λ xs. None) ≡ []
gain_none [] = refl
gain_none (i ∷ is) = refl

module _ {Val : Type 0} (z : Val) where
  right_upd : (k : Known Val) (e : ℕ → Val) (o : ℕ) (x : Option Val) (y : Val) → Right k e → ((a : Val) → x ≡ Some a → y ≡ a)
      → Right (upd k o x) (upd e o y)
  right_upd k e o x y r h v a q = go (eqb o v) q
    where
      go : (t : Bool) → cond t x (k v) ≡ Some a → cond t y (e v) ≡ a
      go true p = h a p
      go false p = r v a p

  right_none : (outs : List ℕ) (vs : List Val) (k : Known Val) (e : ℕ → Val) → Right k e → Right (writes None k outs []) (writes z e outs vs)
  right_none [] vs k e r = r
  right_none (o ∷ os) vs k e r = right_none os (tail_of vs) (upd k o None) (upd e o (head_or z vs)) (right_upd k e o None (head_or z vs) r (λ a q. no_some q))

  right_some : (outs : List ℕ) (vs : List Val) (k : Known Val) (e : ℕ → Val) → Right k e → Right (writes None k outs (somes vs)) (writes z e outs vs)
  right_some [] vs k e r = r
  right_some (o ∷ os) [] k e r = right_none (o ∷ os) [] k e r
  right_some (o ∷ os) (v ∷ vs) k e r = right_some os vs (upd k o (Some v)) (upd e o v) (right_upd k e o (Some v) v r (λ a q. cc))

  right_nothing : (e : ℕ → Val) → Right nothing e
  right_nothing e v x q = no_some q

  module _ {Mem Out Flt : Type 0} where
    -- the state in which an effect leaves the next op, if it falls through
    abbrev pub Leaves : (State Val Mem → Type 0) → Effect Val Mem Out Flt → Type 0
    Leaves P (falls t) = P t
    Leaves P (jumps j) = Unit {0}
    Leaves P (stops x) = Unit {0}

    right_learned : (w : View Val Mem Out Flt) (k : Known Val) (s : State Val Mem) → Right k s.env → Leaves (λ t. Right (learned k w) t.env) (effect z w s)
    right_learned (calc outs [] f) k s r = go (f [])
      where
        go : (x : Option (List Val)) → Leaves (λ t. Right (writes None k outs (given x)) t.env) (after_calc z outs s x)
        go None = tt
        go (Some vs) = right_some outs vs k s.env r
    right_learned (calc outs (i ∷ is) f) k s r = go (f (reads s.env (i ∷ is)))
      where
        go : (x : Option (List Val)) → Leaves (λ t. Right (writes None k outs []) t.env) (after_calc z outs s x)
        go None = tt
        go (Some vs) = right_none outs vs k s.env r
    right_learned (access outs ins f) k s r = go (f s.mem (reads s.env ins))
      where
        go : (x : Touch Val Mem Flt) → Leaves (λ t. Right (writes None k outs (gain ins (λ xs. None))) t.env) (after_access z outs s x)
        go (faults x) = tt
        go (gives vs m) = rw (gain_none ins) (right_none outs vs k s.env r)
    right_learned (label j) k s r = right_nothing s.env
    right_learned (flow ins always (to j)) k s r = tt
    right_learned (flow ins always (out g)) k s r = tt
    right_learned (flow ins (when f) y) k s r = go (f s.mem (reads s.env ins)) y
      where
        go : (x : Bool) (y : Way Val Out) → Leaves (λ t. Right (learned {Flt = Flt} k (flow ins (when f) y)) t.env) (cond x (sent y (reads s.env ins)) (falls s))
        go true (to j) = tt
        go true (out g) = tt
        go false (to j) = r
        go false (out g) = right_nothing s.env

-- at a label nothing is known
pub any_learned : {Val Mem Out Flt : Type 0} (k : Known Val) (w : View Val Mem Out Flt) → any_label w ≡ true → learned k w ≡ nothing
any_learned k w e = rw (label_closes w e)

pub seek_all : (L : Lang) (P : L.Op → Type 0) (k : ℕ) (r : Prog L) → All P r → All P (seek L k r)
seek_all L P k [] h = h
seek_all L P k (o ∷ r) h = go (is_label k (L.view o)) (seek_all L P k r h.1)
  where
    go : (b : Bool) → All P (seek L k r) → All P (cond b (o ∷ r) (seek L k r))
    go true ih = h
    go false ih = ih

-- what an op leaves fits, if the check accepts the op
abbrev pub Fitting : (L : Lang) → (L.Op → Type 0) → ((ℕ → L.Val) → Type 0) → Type 0
Fitting L Ok Fit = (o : L.Op) (s : St L) → Ok o → Fit s.env → Leaves L.zero_v (λ t. Fit t.env) (effect L.zero_v (L.view o) s)

-- where nothing is said of the values, anything fits
pub any_fits : (L : Lang) → Fitting L (λ o. Unit {0}) (λ e. Unit {0})
any_fits L o s c f = go (effect L.zero_v (L.view o) s)
  where
    go : (x : Effects L) → Leaves L.zero_v (λ t. Unit {0}) x
    go (falls t) = tt
    go (jumps j) = tt
    go (stops e) = tt

module _ (L : Lang) (rule : Rule L) (Ok : L.Op → Type 0) (Fit : (ℕ → L.Val) → Type 0) (fitting : Fitting L Ok Fit) (good : Lawful L Ok Fit rule) where
  -- at a label fold starts anew, whatever it knew
  fold_label : (o : L.Op) (r : Prog L) (m : Mode L.Val) → any_label (L.view o) ≡ true → fold L rule (o ∷ r) m ≡ o ∷ fold L rule r (on nothing)
  fold_label o r (on k) e = rw (good.stays k o e, any_learned k (L.view o) e)
  fold_label o r off e = rw e

  -- any other op is no label after fold
  fold_plain : (j : ℕ) (o : L.Op) (r : Prog L) (m : Mode L.Val) → any_label (L.view o) ≡ false
      → (n : Mode L.Val) × (seek L j (fold L rule (o ∷ r) m) ≡ seek L j (fold L rule r n))
  fold_plain j o r (on k) e = go (rule k o) (good.fits k o)
    where
      go : (x : Rewrite L.Op) → Fits L Ok o x → (n : Mode L.Val) × (seek L j (emit L rule k (fold L rule r) x) ≡ seek L j (fold L rule r n))
      go (put o') q = (on (learned k (L.view o')), rw (any_none j (L.view o') (ap is_some q.3 ∙ e)))
      go omit q = (on k, refl)
      go (cut o') q = (off, rw (any_none j (L.view o') q.1))
  fold_plain j o r off e = (off, rw e)

  seek_fold : (j : ℕ) (r : Prog L) (m : Mode L.Val) → seek L j (fold L rule r m) ≡ fold L rule (seek L j r) (on nothing)
  seek_fold j [] m = refl
  seek_fold j (o ∷ r) m = go (tell (is_label j (L.view o))) (tell (any_label (L.view o))) (seek_fold j r)
    where
      go : (is_label j (L.view o) ≡ true) ⊎ (is_label j (L.view o) ≡ false) → (any_label (L.view o) ≡ true) ⊎ (any_label (L.view o) ≡ false)
          → ((n : Mode L.Val) → seek L j (fold L rule r n) ≡ fold L rule (seek L j r) (on nothing))
          → seek L j (fold L rule (o ∷ r) m) ≡ fold L rule (seek L j (o ∷ r)) (on nothing)
      go (inl e) a ih =
          let y : any_label (L.view o) ≡ true = label_any j (L.view o) e in
          rw (fold_label o r m y, e) (sym (fold_label o r (on nothing) y))
      go (inr e) (inl a) ih = rw (fold_label o r m a, e) (ih (on nothing))
      go (inr e) (inr a) ih = let p = fold_plain j o r m a in rw (p.1, e) (ih p.0)

  pub record Folded (r : Prog L) (s : St L) (r' : Prog L) (s' : St L) : Type 0 where
    pub k : Known L.Val
    pub prog : r' ≡ fold L rule r (on k)
    pub right : Right k s.env
    pub oks : All Ok r
    pub fit : Fit s.env
    pub same : s' ≡ s

  module _ (b : Prog L) (all : All Ok b) where
    abbrev made : Prog L
    made = fold L rule b (on nothing)

    at_fold : (r : Prog L) (s : St L) (k : Known L.Val) → Right k s.env → All Ok r → Fit s.env
        → Follows L b made Folded (λ x y. y ≡ x) r s (fold L rule r (on k)) s
    at_fold [] s k h c f = ends refl refl refl
    at_fold (o ∷ r) s k h c f = go (rule k o) (good.does k o s h c.0 f)
      where
        z : L.Val
        z = L.zero_v

        go : (x : Rewrite L.Op) → (effect z (L.view o) s ≡ stops unstated) ⊎ As L s o x → Follows L b made Folded (λ x y. y ≡ x) (o ∷ r) s (emit L rule k (fold L rule r) x) s
        go x (inl e) = open_end (ap (moved L b r s) e)
        go (put o') (inr e) = by (effect z (L.view o') s) refl (right_learned z (L.view o') k s h) (rw e (fitting o s c.0 f))
          where
            by : (x : Effects L) → effect z (L.view o') s ≡ x → Leaves z (λ t. Right (learned k (L.view o')) t.env) x → Leaves z (λ t. Fit t.env) x
                → Follows L b made Folded (λ x y. y ≡ x) (o ∷ r) s (o' ∷ fold L rule r (on (learned k (L.view o')))) s
            by (falls t) q l g =
                moves (ap (moved L b r s) (sym e ∙ q)) (ap (moved L made (fold L rule r (on (learned k (L.view o')))) s) q)
                (record { k = learned k (L.view o'); prog = refl; right = l; oks = c.1; fit = g; same = refl })
            by (jumps j) q l g =
                moves (ap (moved L b r s) (sym e ∙ q)) (ap (moved L made (fold L rule r (on (learned k (L.view o')))) s) q)
                (record { k = nothing; prog = seek_fold j b (on nothing); right = right_nothing z s.env; oks = seek_all L Ok j b all; fit = f; same = refl })
            by (stops x) q l g = ends (ap (moved L b r s) (sym e ∙ q)) (ap (moved L made (fold L rule r (on (learned k (L.view o')))) s) q) refl
        go omit (inr e) = drops (ap (moved L b r s) e) (record { k = k; prog = refl; right = h; oks = c.1; fit = f; same = refl })
        go (cut o') (inr p) =
            moves (ap (moved L b r s) p.1) (ap (moved L made (fold L rule r off) s) p.2)
            (record { k = nothing; prog = seek_fold p.0 b (on nothing); right = right_nothing z s.env; oks = seek_all L Ok p.0 b all; fit = f; same = refl })

    folded_follows : (r : Prog L) (s : St L) (r' : Prog L) (s' : St L) → Folded r s r' s' → Follows L b made Folded (λ x y. y ≡ x) r s r' s'
    folded_follows r s r' s' x = rw (x.prog, x.same) (at_fold r s x.k x.right x.oks x.fit)

    -- what fold makes ends as the block did, in the same state and in no more ops
    pub fold_right : (n : ℕ) (s : St L) → Fit s.env → definite (runs L n b s).end ≡ true → Matches L (λ x y. y ≡ x) (runs L n b s) (runs L n made s)
    fold_right n s g f =
        simulates L b made Folded (λ x y. y ≡ x) folded_follows n b s made s
        (record { k = nothing; prog = refl; right = right_nothing L.zero_v s.env; oks = all; fit = g; same = refl })
        f
