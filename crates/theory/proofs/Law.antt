-- The laws of a rule of fold, and that one rule after another has them where it has. Assumes nothing.
use mathlib.Core.Path.{◌≡◌, refl, sym, ◌∙◌}
use mathlib.Core.Bool.{true, false}
use Rattle.std.specs.Prelude.{Some}
use mathlib.Core.List.{List}
use mathlib.Core.Logic.{◌⊎◌, inl, inr}
use Prim.Native.Nat.{ℕ}
use Rattle.theory.specs.Fold.{Known, Rewrite, put, omit, cut, Rule}
use Rattle.theory.specs.Machine.{Lang, unstated, falls, jumps, stops, inputs, outputs, closes, label_of, any_label, effect, St}
use Rattle.theory.specs.Machine.{Effects}
use Rattle.theory.specs.Sets.{has}

module _ {Val : Type 0} where
  -- what is known is so
  abbrev pub Right : Known Val → (ℕ → Val) → Type 0
  Right k e = (v : ℕ) (x : Val) → k v ≡ Some x → e v ≡ x

-- each of the first is one of the second
abbrev pub Among : List ℕ → List ℕ → Type 0
Among xs ys = (v : ℕ) → has xs v ≡ true → has ys v ≡ true

-- one rule, and then another on what it puts
abbrev pub further : (L : Lang) → Rule L → Known L.Val → Rewrite L.Op → Rewrite L.Op
further L q k (put o) = q k o
further L q k omit = omit
further L q k (cut o) = cut o

abbrev pub chain : (L : Lang) → Rule L → Rule L → Rule L
chain L p q k o = further L q k (p k o)

module _ (L : Lang) where
  abbrev pub effects : L.Op → St L → Effects L
  effects o s = effect L.zero_v (L.view o) s

  -- what takes an op's place does what the op did
  abbrev pub As : St L → L.Op → Rewrite L.Op → Type 0
  As s o (put o') = effects o' s ≡ effects o s
  As s o omit = effects o s ≡ falls s
  As s o (cut o') = (j : ℕ) × (effects o s ≡ jumps j) × (effects o' s ≡ jumps j)

  -- it reads no more, and writes and ends what the op did
  abbrev pub Fits : (L.Op → Type 0) → L.Op → Rewrite L.Op → Type 0
  Fits Ok o (put o') =
      Among (inputs (L.view o')) (inputs (L.view o)) × (outputs (L.view o') ≡ outputs (L.view o)) × (closes (L.view o') ≡ closes (L.view o))
      × (label_of (L.view o') ≡ label_of (L.view o)) × (Ok o → Ok o')
  Fits Ok o omit = Among (outputs (L.view o)) (inputs (L.view o))
  Fits Ok o (cut o') = Among (inputs (L.view o')) (inputs (L.view o)) × (any_label (L.view o') ≡ false)

  -- the rule leaves it alone
  abbrev pub Rests : Rule L → Known L.Val → Rewrite L.Op → Type 0
  Rests rule k (put o) = rule k o ≡ put o
  Rests rule k omit = Unit {0}
  Rests rule k (cut o) = rule k o ≡ put o

  -- Ok: what the check says of an op; Fit: what it then says of the values that variables hold, as that each fits its width
  pub record Lawful (Ok : L.Op → Type 0) (Fit : (ℕ → L.Val) → Type 0) (rule : Rule L) : Type 0 where
    pub does : (k : Known L.Val) (o : L.Op) (s : St L) → Right k s.env → Ok o → Fit s.env → (effects o s ≡ stops unstated) ⊎ As s o (rule k o)
    pub fits : (k : Known L.Val) (o : L.Op) → Fits Ok o (rule k o)
    pub rests : (k : Known L.Val) (o : L.Op) → Rests rule k (rule k o)
    pub stays : (k : Known L.Val) (o : L.Op) → any_label (L.view o) ≡ true → rule k o ≡ put o
    -- it goes by what is known of the op's inputs
    pub near : (k k' : Known L.Val) (o : L.Op) → ((v : ℕ) → has (inputs (L.view o)) v ≡ true → k v ≡ k' v) → rule k o ≡ rule k' o

  module _ (Ok : L.Op → Type 0) (Fit : (ℕ → L.Val) → Type 0) (p q : Rule L) (lp : Lawful Ok Fit p) (lq : Lawful Ok Fit q)
      -- what the first leaves alone, it leaves alone when the second is through with it; and the second leaves alone what the first cuts to
      (quiet : (k : Known L.Val) (o : L.Op) → p k o ≡ put o → Rests p k (q k o))
      (cuts : (k : Known L.Val) (o o' : L.Op) → p k o ≡ cut o' → q k o' ≡ put o') where
    chain_does : (k : Known L.Val) (o : L.Op) (s : St L) → Right k s.env → Ok o → Fit s.env → (x : Rewrite L.Op) → Fits Ok o x
        → (effects o s ≡ stops unstated) ⊎ As s o x → (effects o s ≡ stops unstated) ⊎ As s o (further L q k x)
    chain_does k o s r c f x y (inl e) = inl e
    chain_does k o s r c f (put o') y (inr e) = go (q k o') (lq.does k o' s r (y.4 c) f)
      where
        go : (x : Rewrite L.Op) → (effects o' s ≡ stops unstated) ⊎ As s o' x → (effects o s ≡ stops unstated) ⊎ As s o x
        go x (inl d) = inl (sym e ∙ d)
        go (put a) (inr d) = inr (d ∙ e)
        go omit (inr d) = inr (sym e ∙ d)
        go (cut a) (inr d) = inr (d.0, sym e ∙ d.1, d.2)
    chain_does k o s r c f omit y (inr e) = inr e
    chain_does k o s r c f (cut o') y (inr e) = inr e

    chain_fits : (k : Known L.Val) (o : L.Op) (x : Rewrite L.Op) → Fits Ok o x → Fits Ok o (further L q k x)
    chain_fits k o (put o') y = go (q k o') (lq.fits k o')
      where
        go : (x : Rewrite L.Op) → Fits Ok o' x → Fits Ok o x
        go (put a) d = (λ v h. y.0 v (d.0 v h), d.1 ∙ y.1, d.2 ∙ y.2, d.3 ∙ y.3, λ c. d.4 (y.4 c))
        go omit d = λ v h. y.0 v (d v (rw y.1 h))
        go (cut a) d = (λ v h. y.0 v (d.0 v h), d.1)
    chain_fits k o omit y = y
    chain_fits k o (cut o') y = y

    chain_rests : (k : Known L.Val) (o : L.Op) (x : Rewrite L.Op) → p k o ≡ x → Rests p k x → Rests (chain L p q) k (further L q k x)
    chain_rests k o (put o') e y = go (q k o') (lq.rests k o') (quiet k o' y)
      where
        go : (x : Rewrite L.Op) → Rests q k x → Rests p k x → Rests (chain L p q) k x
        go (put a) d h = rw h d
        go omit d h = tt
        go (cut a) d h = rw h d
    chain_rests k o omit e y = tt
    chain_rests k o (cut o') e y = rw y (cuts k o o' e)

    chain_near : (k k' : Known L.Val) (o : L.Op) → ((v : ℕ) → has (inputs (L.view o)) v ≡ true → k v ≡ k' v) → (x : Rewrite L.Op) → Fits Ok o x
        → further L q k x ≡ further L q k' x
    chain_near k k' o h (put o') y = lq.near k k' o' (λ v m. h v (y.0 v m))
    chain_near k k' o h omit y = refl
    chain_near k k' o h (cut o') y = refl

    pub chain_lawful : Lawful Ok Fit (chain L p q)
    chain_lawful =
        record {
          does = λ k o s r c f. chain_does k o s r c f (p k o) (lp.fits k o) (lp.does k o s r c f);
          fits = λ k o. chain_fits k o (p k o) (lp.fits k o);
          rests = λ k o. chain_rests k o (p k o) refl (lp.rests k o);
          stays = λ k o e. rw (lp.stays k o e) (lq.stays k o e);
          near = λ k k' o h. rw (lp.near k k' o h) (chain_near k k' o h (p k' o) (lp.fits k' o));
        }
