-- A condition holds in the cases that its bits say, over the width. Assumes nothing.
use mathlib.Core.Path.{◌≡◌, refl, sym, ◌∙◌}
use mathlib.Core.Bool.{Bool, true, false, cond, not, ◌&&◌, ◌||◌, beq, false≢true}
use Prim.Native.Nat.{ℕ, ◌/◌, ◌%◌, ◌^◌, ◌<◌}
use native.Mathlib.Omega.{arith}
use lib.Dec.{eqb, ltb, leb}
use borrow.Author.Tests.{ltb-true, ltb-false, eqb-true, eqb-false, lt-ltb, le-ltb, le-leb, lt-leb, ne_eqb}
use Rattle.word.specs.Condition.{lts_w, les_w, cond_w}
use Rattle.word.proofs.Flip.{flip, flipped}
use Rattle.widths.specs.Cases.{case_of, answers_of}

-- the orders of two numbers, from less and equal
pub record Told (lt le gt ge eq : Bool) : Type 0 where
  pub at_least : ge ≡ not lt
  pub at_most : le ≡ (lt || eq)
  pub greater : gt ≡ not (lt || eq)

told : (a b : ℕ) → Told (ltb a b) (leb a b) (ltb b a) (leb b a) (eqb a b)
told a b = go (ltb a b) (eqb a b) refl refl
  where
    go : (l e : Bool) → ltb a b ≡ l → eqb a b ≡ e → Told l (leb a b) (ltb b a) (leb b a) e
    go true e p q =
        let h : a < b = ltb-true a b p in
        record { at_least = lt-leb b a h; at_most = le-leb a b (omega arith); greater = le-ltb b a (omega arith) }
    go false true p q =
        let h : a ≡ b = eqb-true a b q in
        record { at_least = le-leb b a (omega arith); at_most = le-leb a b (omega arith); greater = le-ltb b a (omega arith) }
    go false false p q =
        let h : b < a = omega (arith, ltb-false a b p, eqb-false a b q) in
        record { at_least = le-leb b a (omega arith); at_most = lt-leb a b h; greater = lt-ltb b a h }

-- and read as signed, from the words with their top bits turned over
told_signed : (w a b : ℕ) → a < 2 ^ w → b < 2 ^ w → Told (lts_w w a b) (les_w w a b) (lts_w w b a) (les_w w b a) (eqb a b)
told_signed w a b la lb =
    let f = flipped w a b la lb in
    let g = flipped w b a lb la in
    rw (f.less, f.at_most, g.less, g.at_most, f.equal) at (told (flip w a) (flip w b))

pub lts_flipped : (w a b : ℕ) → a < 2 ^ w → b < 2 ^ w → ltb (flip w a) (flip w b) ≡ lts_w w a b
lts_flipped w a b la lb = (flipped w a b la lb).less

-- a test of three answers that always passes, by one computation
abbrev each : (Bool → Bool) → Bool
each f = f true && f false

one_of : (f : Bool → Bool) → each f ≡ true → (b : Bool) → f b ≡ true
one_of f h b = go (f true) (f false) refl refl h b
  where
    go : (s t : Bool) → f true ≡ s → f false ≡ t → (s && t) ≡ true → (b : Bool) → f b ≡ true
    go true t p q h true = p
    go true t p q h false = q ∙ h
    go false t p q h b = absurd (false≢true h)

abbrev all : (Bool → Bool → Bool → Bool) → Bool
all f = each (λ e. each (λ l. each (λ u. f e l u)))

three : (f : Bool → Bool → Bool → Bool) → all f ≡ true → (e l u : Bool) → f e l u ≡ true
three f h e l u = one_of (f e l) (one_of (λ l. each (f e l)) (one_of (λ e. each (λ l. each (f e l))) h e) l) u

same : (a b : Bool) → beq a b ≡ true → a ≡ b
same true true h = refl
same true false h = sym h
same false true h = h
same false false h = refl

pub case_small : (e l u : Bool) → case_of e l u < 32
case_small e l u = ltb-true (case_of e l u) 32 (three (λ e l u. ltb (case_of e l u) 32) refl e l u)

-- a bit of a number, at a case
abbrev bit_at : ℕ → Bool → Bool → Bool → Bool
bit_at m e l u = eqb (m / 2 ^ case_of e l u % 2) 1

picks : (m : ℕ) (f : Bool → Bool → Bool → Bool) → all (λ e l u. beq (bit_at m e l u) (f e l u)) ≡ true → (e l u : Bool) → bit_at m e l u ≡ f e l u
picks m f h e l u = same (bit_at m e l u) (f e l u) (three (λ e l u. beq (bit_at m e l u) (f e l u)) h e l u)

within : (b : Bool) (f : ℕ → Bool) {m n : ℕ} {s t : Bool} → f m ≡ s → f n ≡ t → f (cond b m n) ≡ cond b s t
within true f p q = p
within false f p q = q

pub answered : (w c a b : ℕ) → a < 2 ^ w → b < 2 ^ w → eqb (answers_of c / 2 ^ case_of (eqb a b) (lts_w w a b) (ltb a b) % 2) 1 ≡ cond_w w c a b
unfolding answers_of cond_w
answered w c a b la lb =
    let e = eqb a b in
    let l = lts_w w a b in
    let u = ltb a b in
    let plain = told a b in
    let signed = told_signed w a b la lb in
    let f : ℕ → Bool = λ m. bit_at m e l u in
    within (eqb c 0) f (picks 0xAA (λ e l u. e) refl e l u)
    (within (eqb c 1) f (picks 0x55 (λ e l u. not e) refl e l u)
    (within (eqb c 2) f (picks 0xCC (λ e l u. l) refl e l u)
    (within (eqb c 3) f (picks 0x33 (λ e l u. not l) refl e l u ∙ sym signed.at_least)
    (within (eqb c 4) f (picks 0xEE (λ e l u. l || e) refl e l u ∙ sym signed.at_most)
    (within (eqb c 5) f (picks 0x11 (λ e l u. not (l || e)) refl e l u ∙ sym signed.greater)
    (within (eqb c 6) f (picks 0xF0 (λ e l u. u) refl e l u)
    (within (eqb c 7) f (picks 0x0F (λ e l u. not u) refl e l u ∙ sym plain.at_least)
    (within (eqb c 8) f (picks 0xFA (λ e l u. u || e) refl e l u ∙ sym plain.at_most)
    (within (eqb c 9) f (picks 0x05 (λ e l u. not (u || e)) refl e l u ∙ sym plain.greater) (picks 0 (λ e l u. false) refl e l u))))))))))

-- the bits of a number that is no condition's
abbrev Others : ℕ → Type 0
Others c =
    (((((((((Unit {0} × (c ≡ 0 → ⊥)) × (c ≡ 1 → ⊥)) × (c ≡ 2 → ⊥)) × (c ≡ 3 → ⊥)) × (c ≡ 4 → ⊥)) × (c ≡ 5 → ⊥)) × (c ≡ 6 → ⊥)) × (c ≡ 7 → ⊥)) × (c ≡ 8 → ⊥)) × (c ≡ 9 → ⊥)

pub none_else : (c : ℕ) → Others c → 0 ≡ answers_of c
unfolding answers_of
none_else c ((((((((((u, n0), n1), n2), n3), n4), n5), n6), n7), n8), n9) =
    rw
    (ne_eqb c 0 n0, ne_eqb c 1 n1, ne_eqb c 2 n2, ne_eqb c 3 n3, ne_eqb c 4 n4, ne_eqb c 5 n5, ne_eqb c 6 n6, ne_eqb c 7 n7, ne_eqb c 8 n8, ne_eqb c 9 n9)
