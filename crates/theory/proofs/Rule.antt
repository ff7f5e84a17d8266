-- Document 01's rule for fold has the laws: it replaces an op only by its stated result, and leaves alone what it puts in place. Assumes nothing.
use mathlib.Core.Path.{◌≡◌, refl, sym, ap, subst}
use mathlib.Core.Bool.{Bool, true, false, cond, ◌&&◌, false≢true}
use Rattle.std.specs.Prelude.{Option, None, Some, is_some, option_map, option_and_then}
use mathlib.Core.List.{List, [], ◌∷◌}
use mathlib.Core.Logic.{inr}
use Prim.Native.Nat.{ℕ}
use Rattle.theory.specs.Fold.{Known, Rewrite, put, Folding, all_known, tried}
use Rattle.theory.specs.Fold.{base_rule}
use Rattle.theory.specs.Machine.{calc, Lang, head_or, reads, inputs, outputs, computes, closes, label_of, after_calc}
use Rattle.theory.specs.Machine.{effect, St, Viewed}
use Rattle.theory.proofs.Law.{Right, effects, As, Fits, Rests, Lawful}
use Rattle.theory.proofs.Sets.{clash, reads_same}
use Rattle.theory.proofs.Views.{no_some, computes_calc, label_is}

module _ {Val : Type 0} where
  -- the known values of the inputs are their values
  pub known_right : (k : Known Val) (e : ℕ → Val) (is : List ℕ) (xs : List Val) → Right k e → all_known (reads k is) ≡ Some xs → reads e is ≡ xs
  known_right k e [] xs r q = cc
  known_right k e (i ∷ is) xs r q = go (λ ys. known_right k e is ys r) (k i) refl q
    where
      rest : (a : Val) → e i ≡ a → (x : Option (List Val)) → ((ys : List Val) → x ≡ Some ys → reads e is ≡ ys) → option_map (λ vs. a ∷ vs) x ≡ Some xs → e i ∷ reads e is ≡ xs
      rest a ea None ih p = no_some p
      rest a ea (Some ys) ih p = let d : reads e is ≡ ys = ih ys refl in cc

      go : ((ys : List Val) → all_known (reads k is) ≡ Some ys → reads e is ≡ ys) → (x : Option Val) → k i ≡ x → all_known (x ∷ reads k is) ≡ Some xs → e i ∷ reads e is ≡ xs
      go ih None h p = no_some p
      go ih (Some a) h p = rest a (r i a h) (all_known (reads k is)) ih p

-- what an instance has to show: an op that may fold and computes a result has one output, its constant writes that value there,
-- and no constant may fold
pub record Constants (L : Lang) (fo : Folding L) : Type 0 where
  pub out : L.Op → ℕ
  pub one_out : (o : L.Op) (xs vs : List L.Val) → fo.foldable o ≡ true → computes (L.view o) xs ≡ Some vs → outputs (L.view o) ≡ out o ∷ []
  pub const_view : (o : L.Op) (xs vs : List L.Val) → fo.foldable o ≡ true → computes (L.view o) xs ≡ Some vs
      → L.view (fo.const o (head_or L.zero_v vs)) ≡ calc (out o ∷ []) [] (λ ys. Some (head_or L.zero_v vs ∷ []))
  pub const_fixed : (o : L.Op) (v : L.Val) → fo.foldable o ≡ true → fo.foldable (fo.const o v) ≡ false

module _ (L : Lang) (fo : Folding L) (law : Constants L fo) where
  still_none : (b : Bool) (y : Option (List L.Val)) (o : L.Op) → fo.foldable o ≡ b → cond b (tried L fo o y) (put o) ≡ put o → (b && is_some y) ≡ false
  still_none true None o c q = refl
  still_none true (Some vs) o c q =
      let e : fo.const o (head_or L.zero_v vs) ≡ o = cc in
      let d : fo.foldable o ≡ false = subst (λ (x : L.Op). fo.foldable x ≡ false) e (law.const_fixed o (head_or L.zero_v vs) c) in
      clash (fo.foldable o) c d
  still_none false y o c q = refl

  -- an op that fold leaves as it is may not fold, or an input is not known, or no result is stated
  pub none_foldable : (k : Known L.Val) (o : L.Op) → base_rule L fo k o ≡ put o
      → (fo.foldable o && is_some (option_and_then (computes (L.view o)) (all_known (reads k (inputs (L.view o)))))) ≡ false
  none_foldable k o q = still_none (fo.foldable o) (option_and_then (computes (L.view o)) (all_known (reads k (inputs (L.view o))))) o refl q

  -- what the rule comes to
  pub data Puts (k : Known L.Val) (o : L.Op) : Rewrite L.Op → Type 0 where
    same : Puts k o (put o)
    folds : (xs vs : List L.Val) → fo.foldable o ≡ true → all_known (reads k (inputs (L.view o))) ≡ Some xs → computes (L.view o) xs ≡ Some vs
        → Puts k o (put (fo.const o (head_or L.zero_v vs)))

  pub puts : (k : Known L.Val) (o : L.Op) → Puts k o (base_rule L fo k o)
  puts k o = go (fo.foldable o) refl
    where
      with_result : fo.foldable o ≡ true → (xs : List L.Val) → all_known (reads k (inputs (L.view o))) ≡ Some xs → (y : Option (List L.Val)) → computes (L.view o) xs ≡ y
          → Puts k o (tried L fo o y)
      with_result c xs h None g = same
      with_result c xs h (Some vs) g = folds xs vs c h g

      with_known : fo.foldable o ≡ true → (x : Option (List L.Val)) → all_known (reads k (inputs (L.view o))) ≡ x → Puts k o (tried L fo o (option_and_then (computes (L.view o)) x))
      with_known c None h = same
      with_known c (Some xs) h = with_result c xs h (computes (L.view o) xs) refl

      go : (b : Bool) → fo.foldable o ≡ b → Puts k o (cond b (tried L fo o (option_and_then (computes (L.view o)) (all_known (reads k (inputs (L.view o)))))) (put o))
      go true c = with_known c (all_known (reads k (inputs (L.view o)))) refl
      go false c = same

  -- an op that computes nothing stays
  pub base_stays : (k : Known L.Val) (o : L.Op) → ((xs : List L.Val) → computes (L.view o) xs ≡ None) → base_rule L fo k o ≡ put o
  base_stays k o h = go (fo.foldable o) (all_known (reads k (inputs (L.view o))))
    where
      go : (b : Bool) (x : Option (List L.Val)) → cond b (tried L fo o (option_and_then (computes (L.view o)) x)) (put o) ≡ put o
      go true None = refl
      go true (Some xs) = rw (h xs)
      go false x = refl

  module _ (Ok : L.Op → Type 0) (Fit : (ℕ → L.Val) → Type 0)
      (const-ok : (o : L.Op) (xs vs : List L.Val) → fo.foldable o ≡ true → computes (L.view o) xs ≡ Some vs → Ok o → Ok (fo.const o (head_or L.zero_v vs))) where
    pub base_lawful : Lawful L Ok Fit (base_rule L fo)
    base_lawful =
        record {
          does = λ k o s r c f. inr (does k o s r (base_rule L fo k o) (puts k o));
          fits = λ k o. fits k o (base_rule L fo k o) (puts k o);
          rests = λ k o. rests k o (base_rule L fo k o) refl (puts k o);
          stays = λ k o e. let p = label_is (L.view o) e in base_stays k o (rw p.1 (λ xs. refl));
          near = λ k k' o h. rw (reads_same k k' (inputs (L.view o)) h);
        }
      where
        does : (k : Known L.Val) (o : L.Op) (s : St L) → Right k s.env → (x : Rewrite L.Op) → Puts k o x → As L s o x
        does k o s r x same = refl
        does k o s r x (folds xs vs c h g) =
            let y : reads s.env (inputs (L.view o)) ≡ xs = known_right k s.env (inputs (L.view o)) xs r h in
            let e : effects L o s ≡ after_calc L.zero_v (outputs (L.view o)) s (computes (L.view o) (reads s.env (inputs (L.view o))))
            = ap (λ (u : Viewed L). effect L.zero_v u s) (computes_calc (L.view o) xs vs g) in
            rw (law.const_view o xs vs c g, e, y, g, law.one_out o xs vs c g)

        fits : (k : Known L.Val) (o : L.Op) (x : Rewrite L.Op) → Puts k o x → Fits L Ok o x
        fits k o x same = (λ v h. h, refl, refl, refl, λ c. c)
        fits k o x (folds xs vs c h g) =
            let e : L.view o ≡ calc (outputs (L.view o)) (inputs (L.view o)) (computes (L.view o)) = computes_calc (L.view o) xs vs g in
            rw (law.const_view o xs vs c g) (λ v q. absurd (false≢true q), sym (law.one_out o xs vs c g), sym (ap closes e), sym (ap label_of e), const-ok o xs vs c g)

        rests : (k : Known L.Val) (o : L.Op) (x : Rewrite L.Op) → base_rule L fo k o ≡ x → Puts k o x → Rests L (base_rule L fo) k x
        rests k o x e same = e
        rests k o x e (folds xs vs c h g) = rw (law.const_fixed o (head_or L.zero_v vs) c)
