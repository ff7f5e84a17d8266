-- What holds of every view, by its constructors; other proofs take no view apart, but for its effect. Assumes nothing.
use mathlib.Core.Path.{◌≡◌, refl, ap}
use mathlib.Core.Bool.{Bool, true, false, cond, not, ◌||◌, false≢true, true≢false}
use Rattle.std.specs.Prelude.{Option, None, Some, is_some}
use mathlib.Core.List.{List, []}
use mathlib.Core.Logic.{◌⊎◌, inl, inr}
use Prim.Native.Nat.{ℕ}
use borrow.Author.Tests.{not-true}
use Rattle.theory.specs.Machine.{Touch, always, when, Way, to, out, View, calc, access, label, flow, one_of, inputs, outputs}
use Rattle.theory.specs.Machine.{computes, pure, closes, label_of, any_label, is_label}
use Rattle.theory.specs.Prune.{dead, there, need}
use Rattle.theory.proofs.Scoped.{may_read, wrote}
use Rattle.theory.specs.Sets.{Vars, empty, has, without, plus, both}
use Rattle.theory.proofs.Sets.{or_cases, or_l, or_r, and_l, and_r, in_all, or_mid, or_no, or_both, or_map, and_map}

pub no_some {ℓ} : {A : Type 0} {B : Type ℓ} {a : A} → None ≡ Some a → B
no_some e = absurd (false≢true (ap is_some e))

module _ {Val Out : Type 0} (glob : Vars) where
  there_mono : (y : Way Val Out) (t t' : ℕ → Vars) (v : ℕ) → ((k : ℕ) → t k v ≡ true → t' k v ≡ true) → there glob y t v ≡ true → there glob y t' v ≡ true
  there_mono (to k) t t' v h q = h k q
  there_mono (out g) t t' v h q = q

  there_kept : (y : Way Val Out) (t : ℕ → Vars) (kept : Vars) (v : ℕ) → (glob v ≡ true → kept v ≡ true) → ((k : ℕ) → t k v ≡ true → kept v ≡ true)
      → there glob y t v ≡ true → kept v ≡ true
  there_kept (to k) t kept v g h q = h k q
  there_kept (out x) t kept v g h q = g q

-- an access may fault, and then shows all globals
pub globals_shown : (Val Mem Out Flt : Type 0) (glob : Vars) (outs ins : List ℕ) (f : Mem → List Val → Touch Val Mem Flt) (l : Vars) (t : ℕ → Vars) (v : ℕ) → glob v ≡ true
    → need {Out = Out} glob (access outs ins f) l t v ≡ true
globals_shown Val Mem Out Flt glob outs ins f l t v h = or_r (has ins v) _ (or_l (glob v) _ h)

module _ {Val Mem Out Flt : Type 0} where
  -- a label ends an extended basic block
  pub label_closes : (w : View Val Mem Out Flt) → any_label w ≡ true → closes w ≡ true
  label_closes (calc outs ins f) h = h
  label_closes (access outs ins f) h = h
  label_closes (label k) h = refl
  label_closes (flow ins c y) h = absurd (false≢true h)

  pub pure_open : (w : View Val Mem Out Flt) → pure w ≡ true → closes w ≡ false
  pure_open (calc outs ins f) h = refl
  pure_open (access outs ins f) h = refl
  pure_open (label k) h = absurd (false≢true h)
  pure_open (flow ins c y) h = absurd (false≢true h)

  -- an op that computes a result is pure
  pub computes_calc : (w : View Val Mem Out Flt) (xs vs : List Val) → computes w xs ≡ Some vs → w ≡ calc (outputs w) (inputs w) (computes w)
  computes_calc (calc outs ins f) xs vs h = refl
  computes_calc (access outs ins f) xs vs h = no_some h
  computes_calc (label k) xs vs h = no_some h
  computes_calc (flow ins c y) xs vs h = no_some h

  pub label_is : (w : View Val Mem Out Flt) → any_label w ≡ true → (k : ℕ) × (w ≡ label k)
  label_is (calc outs ins f) h = absurd (false≢true h)
  label_is (access outs ins f) h = absurd (false≢true h)
  label_is (label k) h = (k, refl)
  label_is (flow ins c y) h = absurd (false≢true h)

  pub label_any : (k : ℕ) (w : View Val Mem Out Flt) → is_label k w ≡ true → any_label w ≡ true
  label_any k w h = go (label_of w) h
    where
      go : (x : Option ℕ) → one_of k x ≡ true → is_some x ≡ true
      go None q = q
      go (Some l) q = refl

  pub any_none : (k : ℕ) (w : View Val Mem Out Flt) → any_label w ≡ false → is_label k w ≡ false
  any_none k w h = go (label_of w) h
    where
      go : (x : Option ℕ) → is_some x ≡ false → one_of k x ≡ false
      go None q = refl
      go (Some l) q = absurd (true≢false q)

  -- a label is not dropped
  pub label_stays : (k : ℕ) (w : View Val Mem Out Flt) (l : Vars) → is_label k w ≡ true → dead w l ≡ false
  label_stays k w l h = let p = label_is w (label_any k w h) in rw p.1

  module _ (glob : Vars) where
    -- what is live after an op is live before it, unless it writes that or ends the extended basic block
    pub passes : (w : View Val Mem Out Flt) (l : Vars) (t : ℕ → Vars) (v : ℕ) → closes w ≡ false → has (outputs w) v ≡ false → l v ≡ true → need glob w l t v ≡ true
    passes (calc outs ins f) l t v e h q = or_r (has ins v) (without l outs v) (rw h q)
    passes (access outs ins f) l t v e h q = or_r (has ins v) (both glob (without l outs) v) (or_r (glob v) (without l outs v) (rw h q))
    passes (label k) l t v e h q = q
    passes (flow ins always y) l t v e h q = absurd (true≢false e)
    passes (flow ins (when f) y) l t v e h q = or_r (has ins v) (both (there glob y t) l v) (or_r (there glob y t v) (l v) q)

    -- with more live after an op and at the labels, more is live before it
    pub need_mono : (w : View Val Mem Out Flt) (l l' : Vars) (t t' : ℕ → Vars) (v : ℕ) → (l v ≡ true → l' v ≡ true) → ((k : ℕ) → t k v ≡ true → t' k v ≡ true)
        → need glob w l t v ≡ true → need glob w l' t' v ≡ true
    need_mono (calc outs ins f) l l' t t' v a b q = or_map (has ins v) (without l outs v) (without l' outs v) (and_map (not (has outs v)) (l v) (l' v) a) q
    need_mono (access outs ins f) l l' t t' v a b q =
        or_map (has ins v) (both glob (without l outs) v) (both glob (without l' outs) v)
        (or_map (glob v) (without l outs v) (without l' outs v) (and_map (not (has outs v)) (l v) (l' v) a)) q
    need_mono (label k) l l' t t' v a b q = a q
    need_mono (flow ins always y) l l' t t' v a b q = or_map (has ins v) (there glob y t v) (there glob y t' v) (there_mono glob y t t' v b) q
    need_mono (flow ins (when f) y) l l' t t' v a b q =
        or_map (has ins v) (both (there glob y t) l v) (both (there glob y t') l' v)
        (or_both (there glob y t v) (there glob y t' v) (l v) (l' v) (there_mono glob y t t' v b) a) q

    -- an op's inputs are live before it
    pub inputs_need : (w : View Val Mem Out Flt) (l : Vars) (t : ℕ → Vars) (v : ℕ) → has (inputs w) v ≡ true → need glob w l t v ≡ true
    inputs_need (calc outs ins f) l t v h = or_l (has ins v) (without l outs v) h
    inputs_need (access outs ins f) l t v h = or_l (has ins v) (both glob (without l outs) v) h
    inputs_need (label k) l t v h = absurd (false≢true h)
    inputs_need (flow ins always y) l t v h = or_l (has ins v) (there glob y t v) h
    inputs_need (flow ins (when f) y) l t v h = or_l (has ins v) (both (there glob y t) l v) h

    module _ (kept : Vars) (wide : (v : ℕ) → glob v ≡ true → kept v ≡ true) where
      -- where a temporary that is live after the op is written by then, one that is live before it is written before it
      pub need_scoped : (w : View Val Mem Out Flt) (l u : Vars) (t : ℕ → Vars) (v : ℕ) → may_read kept u w ≡ true
          → (l v ≡ true → (kept v || wrote u w v) ≡ true) → ((k : ℕ) → t k v ≡ true → kept v ≡ true)
          → need glob w l t v ≡ true → (kept v || u v) ≡ true
      need_scoped (calc outs ins f) l u t v r a b h = go (or_cases (has ins v) (without l outs v) h)
        where
          go : (has ins v ≡ true) ⊎ (without l outs v ≡ true) → (kept v || u v) ≡ true
          go (inl q) = in_all kept ins u v r q
          go (inr q) = or_mid (kept v) (has outs v) (u v) (a (and_r (not (has outs v)) (l v) q)) (not-true (has outs v) (and_l (not (has outs v)) (l v) q))
      need_scoped (access outs ins f) l u t v r a b h = go (or_cases (has ins v) (both glob (without l outs) v) h)
        where
          go₂ : (glob v ≡ true) ⊎ (without l outs v ≡ true) → (kept v || u v) ≡ true
          go₂ (inl q) = or_l (kept v) (u v) (wide v q)
          go₂ (inr q) = or_mid (kept v) (has outs v) (u v) (a (and_r (not (has outs v)) (l v) q)) (not-true (has outs v) (and_l (not (has outs v)) (l v) q))

          go : (has ins v ≡ true) ⊎ (both glob (without l outs) v ≡ true) → (kept v || u v) ≡ true
          go (inl q) = in_all kept ins u v r q
          go (inr q) = go₂ (or_cases (glob v) (without l outs v) q)
      need_scoped (label k) l u t v r a b h = or_l (kept v) (u v) (or_no (kept v) (a h))
      need_scoped (flow ins always y) l u t v r a b h = go (or_cases (has ins v) (there glob y t v) h)
        where
          go : (has ins v ≡ true) ⊎ (there glob y t v ≡ true) → (kept v || u v) ≡ true
          go (inl q) = in_all kept ins u v r q
          go (inr q) = or_l (kept v) (u v) (there_kept glob y t kept v (wide v) b q)
      need_scoped (flow ins (when f) y) l u t v r a b h = go (or_cases (has ins v) (both (there glob y t) l v) h)
        where
          past : (x : Bool) → (kept v || cond x empty (plus u []) v) ≡ true → (kept v || u v) ≡ true
          past true q = or_l (kept v) (u v) (or_no (kept v) q)
          past false q = q

          go₂ : (there glob y t v ≡ true) ⊎ (l v ≡ true) → (kept v || u v) ≡ true
          go₂ (inl q) = or_l (kept v) (u v) (there_kept glob y t kept v (wide v) b q)
          go₂ (inr q) = past (closes {Flt = Flt} (flow ins (when f) y)) (a q)

          go : (has ins v ≡ true) ⊎ (both (there glob y t) l v ≡ true) → (kept v || u v) ≡ true
          go (inl q) = in_all kept ins u v r q
          go (inr q) = go₂ (or_cases (there glob y t v) (l v) q)
