-- Tests, sets of variables, and values written. Assumes nothing.
use mathlib.Core.Path.{◌≡◌, refl, sym, ap₂, ◌∙◌}
use mathlib.Core.Bool.{Bool, true, false, not, ◌&&◌, ◌||◌, false≢true, true≢false}
use mathlib.Core.List.{List, [], ◌∷◌}
use mathlib.Core.Logic.{◌⊎◌, inl, inr}
use Prim.Native.Nat.{ℕ}
use lib.Dec.{eqb}
use borrow.Author.Tests.{eqb-true, not-true, eq-eqb}
use Rattle.theory.specs.Machine.{head_or, tail_of, reads, writes}
use Rattle.theory.specs.Sets.{upd, Vars, has, none_in, all_in}

pub or_cases : (a b : Bool) → (a || b) ≡ true → (a ≡ true) ⊎ (b ≡ true)
or_cases true b h = inl refl
or_cases false b h = inr h

pub or_l : (a b : Bool) → a ≡ true → (a || b) ≡ true
or_l true b h = refl
or_l false b h = absurd (false≢true h)

pub or_r : (a b : Bool) → b ≡ true → (a || b) ≡ true
or_r true b h = refl
or_r false b h = h

pub or_false_l : (a b : Bool) → (a || b) ≡ false → a ≡ false
or_false_l true b h = h
or_false_l false b h = refl

pub or_false_r : (a b : Bool) → (a || b) ≡ false → b ≡ false
or_false_r true b h = absurd (true≢false h)
or_false_r false b h = h

pub and_l : (a b : Bool) → (a && b) ≡ true → a ≡ true
and_l true b h = refl
and_l false b h = h

pub and_r : (a b : Bool) → (a && b) ≡ true → b ≡ true
and_r true b h = h
and_r false b h = absurd (false≢true h)

pub and_i : (a b : Bool) → a ≡ true → b ≡ true → (a && b) ≡ true
and_i true b h k = k
and_i false b h k = h

pub clash {ℓ} : {A : Type ℓ} (a : Bool) → a ≡ true → a ≡ false → A
clash a h k = absurd (true≢false (sym h ∙ k))

pub tell : (a : Bool) → (a ≡ true) ⊎ (a ≡ false)
tell true = inl refl
tell false = inr refl

-- a variable that is live is no output of a dead op
pub dead_out : (xs : List ℕ) (l : Vars) (v : ℕ) → none_in xs l ≡ true → l v ≡ true → has xs v ≡ false
dead_out [] l v h k = refl
dead_out (x ∷ xs) l v h k = go (tell (eqb x v)) (dead_out xs l v (and_r (not (l x)) (none_in xs l) h) k)
  where
    go : (eqb x v ≡ true) ⊎ (eqb x v ≡ false) → has xs v ≡ false → (eqb x v || has xs v) ≡ false
    go (inl e) r =
        let lx : l x ≡ false = not-true (l x) (and_l (not (l x)) (none_in xs l) h) in
        let xv : x ≡ v = eqb-true x v e in
        clash (l v) k (rw xv at lx)
    go (inr e) r = rw e r

pub in_all : (kept : Vars) (xs : List ℕ) (w : Vars) (v : ℕ) → all_in kept xs w ≡ true → has xs v ≡ true → (kept v || w v) ≡ true
in_all kept [] w v h k = absurd (false≢true k)
in_all kept (x ∷ xs) w v h k =
    go (or_cases (eqb x v) (has xs v) k) (in_all kept xs w v (and_r (kept x || w x) (all_in kept xs w) h))
  where
    go : (eqb x v ≡ true) ⊎ (has xs v ≡ true) → (has xs v ≡ true → (kept v || w v) ≡ true) → (kept v || w v) ≡ true
    go (inl e) r = rw (eqb-true x v e) at (and_l (kept x || w x) (all_in kept xs w) h)
    go (inr e) r = r e

module _ {Val : Type 0} (z : Val) where
  pub writes_other : (e : ℕ → Val) (os : List ℕ) (vs : List Val) (v : ℕ) → has os v ≡ false → writes z e os vs v ≡ e v
  writes_other e [] vs v h = refl
  writes_other e (o ∷ os) vs v h =
      writes_other (upd e o (head_or z vs)) os (tail_of vs) v (or_false_r (eqb o v) (has os v) h) ∙ rw (or_false_l (eqb o v) (has os v) h)

  -- written alike, two environments agree where they agreed before or were written
  pub writes_both : (e e' : ℕ → Val) (os : List ℕ) (vs : List Val) (v : ℕ)
      → (has os v ≡ false → e v ≡ e' v) → writes z e os vs v ≡ writes z e' os vs v
  writes_both e e' [] vs v h = h refl
  writes_both e e' (o ∷ os) vs v h =
      writes_both (upd e o (head_or z vs)) (upd e' o (head_or z vs)) os (tail_of vs) v (go (tell (eqb o v)))
    where
      go : (eqb o v ≡ true) ⊎ (eqb o v ≡ false) → has os v ≡ false → upd e o (head_or z vs) v ≡ upd e' o (head_or z vs) v
      go (inl q) k = rw q
      go (inr q) k = rw q (h (rw q k))

pub reads_same : {Val : Type 0} (e e' : ℕ → Val) (is : List ℕ) → ((v : ℕ) → has is v ≡ true → e v ≡ e' v) → reads e is ≡ reads e' is
reads_same {Val} e e' [] h = refl
reads_same {Val} e e' (i ∷ is) h =
    ap₂ (λ (a : Val) (b : List Val). a ∷ b) (h i (or_l (eqb i i) (has is i) (eq-eqb i i refl)))
    (reads_same e e' is (λ v k. h v (or_r (eqb i v) (has is v) k)))

pub or_mid : (a b c : Bool) → (a || (b || c)) ≡ true → b ≡ false → (a || c) ≡ true
or_mid true b c h k = refl
or_mid false true c h k = absurd (true≢false k)
or_mid false false c h k = h

pub or_no : (a : Bool) → (a || false) ≡ true → a ≡ true
or_no true h = refl
or_no false h = h

pub or_both : (a a' b b' : Bool) → (a ≡ true → a' ≡ true) → (b ≡ true → b' ≡ true) → (a || b) ≡ true → (a' || b') ≡ true
or_both true a' b b' f g h = or_l a' b' (f refl)
or_both false a' b b' f g h = or_r a' b' (g h)

pub or_map : (a b b' : Bool) → (b ≡ true → b' ≡ true) → (a || b) ≡ true → (a || b') ≡ true
or_map a b b' g h = or_both a a b b' (λ q. q) g h

pub and_map : (a b b' : Bool) → (b ≡ true → b' ≡ true) → (a && b) ≡ true → (a && b') ≡ true
and_map true b b' g h = g h
and_map false b b' g h = h
