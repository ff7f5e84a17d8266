-- Signed readings of words, over the width. Assumes nothing.
use mathlib.Core.Path.{◌≡◌, refl, sym, ap, ◌∙◌, subst}
use mathlib.Core.Logic.{⊎_elim, ◌⊎◌, inl, inr}
use mathlib.Core.Bool.{Bool, true, false}
use Prim.Native.Nat.{ℕ, zero, suc, ◌+◌, ◌-◌, ◌/◌, ◌^◌, ◌≤◌, ◌<◌, zero-le, suc-le-suc}
use native.Mathlib.Nat.{le_trans, lt_of_le_of_lt, lt_of_lt_of_le, div-le_self, div-one, div-lt_self, pos_of_ne-zero}
use native.Mathlib.Omega.{arith}
use Rattle.std.specs.Prelude.{Some}
use lib.Dec.{T, ltb, leb-zero}
use lib.IntN.{ℤ, pos, negsuc, nat_abs, neg_ℤ}
use lib.Signed.{mag, le_z, non_neg, quot_z, rem_z, shr_z, mag_rem}
use borrow.Author.Tests.{le-ltb}
use lib.Arith.{lt_of_le-ne}
use Rattle.word.specs.Word.{signed_w, bits_w, divs_w, rems_w, no_quotient, by_signed}
use Rattle.word.proofs.Picks.{not_by_zero, not_least, signed_value}
use mir.Syntax.{Width, w8, w16, w32, w64, w128}
use mir.Val.{bits, hbits, Fits, SFits, to_z, of_z, sel}
use mir.Facts.{to_z-of_z, of_z-to_z, to_z_pos, sfits_to_z}

-- a width's power is twice its half's
pub half : (w : Width) → 2 ^ bits w ≡ 2 ^ hbits w + 2 ^ hbits w
half w8 = refl
half w16 = refl
half w32 = refl
half w64 = refl
half w128 = refl

-- and its half one bit less
less_one : (w : Width) → bits w - 1 ≡ hbits w
less_one w8 = refl
less_one w16 = refl
less_one w32 = refl
less_one w64 = refl
less_one w128 = refl

-- a word read as signed
reads_signed : (w : Width) (a : ℕ) → to_z w a ≡ signed_w (bits w) a
reads_signed w a = ap (λ (k : ℕ). sel (ltb a (2 ^ k)) (pos a) (negsuc (2 ^ bits w - suc a))) (sym (less_one w))

-- what the cast of a number that is not negative asks and gives
pub not_negative : (w : Width) (z : ℤ) → SFits w z → le_z (pos 0) z ≡ true → T (non_neg z) × Fits w (nat_abs z)
not_negative w (pos n) f t = (tt, record { fits = let h = f.sfits in let e = half w in omega arith })
not_negative w (negsuc n) f t = absurd (subst T (sym t) tt)

-- the complement of a negative number's bits, read as signed
pub complement : (w : Width) (z : ℤ) → SFits w z → le_z (pos 0) z ≡ false → to_z w ((2 ^ bits w - 1) - of_z w z) ≡ pos (mag z)
complement w (pos n) f t = absurd (subst T (sym (leb-zero n) ∙ t) tt)
complement w (negsuc n) f t =
    let h = f.sfits in
    let e = half w in
    ap (to_z w) (omega arith) ∙ to_z_pos w h

-- a quotient fits but for the least number by minus one
quot_up : (w : Width) {a : ℕ} (q : ℕ) → a < 2 ^ hbits w → q ≤ a → SFits w (pos q)
quot_up w q h l = record { sfits = omega arith }

quot_down : (w : Width) {a : ℕ} (q : ℕ) → a < 2 ^ hbits w → q ≤ suc a → SFits w (neg_ℤ (pos q))
quot_down w zero h l = record { sfits = omega arith }
quot_down w (suc q) h l = record { sfits = omega arith }

-- both negative: only by minus one can the quotient be suc a
quot_both : (w : Width) (a b : ℕ) → a < 2 ^ hbits w → (suc a ≡ 2 ^ hbits w → b ≡ 0 → ⊥) → suc a / suc b < 2 ^ hbits w
quot_both w a zero h but = lt_of_le-ne (le_trans (div-le_self (suc a) 1) h) (λ e. but (sym (div-one (suc a)) ∙ e) refl)
quot_both w a (suc b) h but = lt_of_lt_of_le (div-lt_self (suc-le-suc zero-le) (suc-le-suc (suc-le-suc zero-le))) h

quot_fits : (w : Width) (x y : ℤ) → SFits w x → (suc (mag x) ≡ 2 ^ hbits w → T (non_neg x) ⊎ (y ≡ negsuc 0 → ⊥)) → SFits w (quot_z x y)
quot_fits w (pos a) (pos b) f but = quot_up w (a / b) f.sfits (div-le_self a b)
quot_fits w (pos a) (negsuc b) f but = quot_down w (a / suc b) f.sfits (le_trans (div-le_self a (suc b)) (omega arith))
quot_fits w (negsuc a) (pos b) f but = quot_down w (suc a / b) f.sfits (div-le_self (suc a) b)
quot_fits w (negsuc a) (negsuc b) f but = record { sfits = quot_both w a b f.sfits (λ e z. ⊎_elim (λ t. t) (λ n. n (ap negsuc z)) (but e)) }

-- the least number's magnitude is its word's, and only the word of ones reads as minus one
only : (w : Width) (a b : ℕ) → Fits w a → Fits w b → (a ≡ 2 ^ hbits w → b ≡ 2 ^ bits w - 1 → ⊥)
    → suc (mag (to_z w a)) ≡ 2 ^ hbits w → T (non_neg (to_z w a)) ⊎ (to_z w b ≡ negsuc 0 → ⊥)
only w a b fa fb but e = by_sign (to_z w a) refl
  where
    by_sign : (x : ℤ) → to_z w a ≡ x → T (non_neg (to_z w a)) ⊎ (to_z w b ≡ negsuc 0 → ⊥)
    by_sign (pos n) p = inl (rw p tt)
    by_sign (negsuc n) p =
        inr (λ q. but
        (let l = ap (λ (z : ℤ). suc (mag z)) (sym p) ∙ e in let g = sym (of_z-to_z fa) ∙ ap (of_z w) p in let h = half w in omega arith)
        (sym (of_z-to_z fb) ∙ ap (of_z w) q))

-- two words read as signed, whose division states a result, and the test that says so
pub record Divided (w : Width) (a b : ℕ) (x y : ℤ) : Type 0 where
  pub fits_a : Fits w a
  pub fits_b : Fits w b
  pub read_a : x ≡ to_z w a
  pub read_b : y ≡ to_z w b
  pub test : Bool
  pub tested : test ≡ no_quotient (bits w) a b
  pub passed : test ≡ false

pub reading : {w : Width} {a b : ℕ} {x y : ℤ} {t : Bool} → Fits w a → Fits w b → x ≡ to_z w a → y ≡ to_z w b → t ≡ no_quotient (bits w) a b → t ≡ false → Divided w a b x y
reading {t = t} fa fb ea eb e f = record { fits_a = fa; fits_b = fb; read_a = ea; read_b = eb; test = t; tested = e; passed = f }

-- the divisor is not zero, and the quotient fits
pub divides : {w : Width} {a b : ℕ} {x y : ℤ} → Divided w a b x y → (0 < of_z w y) × SFits w (quot_z (to_z w (of_z w x)) (to_z w (of_z w y)))
divides {w} {a} {b} d =
    rw (d.read_a, d.read_b, of_z-to_z d.fits_a, of_z-to_z d.fits_b)
    (pos_of_ne-zero (not_by_zero (bits w) a b d.tested d.passed), quot_fits w (to_z w a) (to_z w b) (sfits_to_z d.fits_a) (only w a b d.fits_a d.fits_b apart))
  where
    apart : a ≡ 2 ^ hbits w → b ≡ 2 ^ bits w - 1 → ⊥
    apart p = not_least (bits w) a b d.tested d.passed (p ∙ ap (2 ^◌) (sym (less_one w)))

-- the bits of a number that is not negative, and of one that is, as the code takes them
module _ (w : Width) {z : ℤ} (f : SFits w z) where
  pub up_asks : le_z (pos 0) (to_z w (of_z w z)) ≡ true → T (non_neg (to_z w (of_z w z))) × Fits w (nat_abs (to_z w (of_z w z)))
  up_asks t = rw (to_z-of_z f) (not_negative w z f (rw (to_z-of_z f) at t))

  pub up_gives : le_z (pos 0) (to_z w (of_z w z)) ≡ true → nat_abs (to_z w (of_z w z)) ≡ bits_w (bits w) z
  up_gives t = rw (to_z-of_z f) (gives z (rw (to_z-of_z f) at t))
    where
      gives : (z : ℤ) → le_z (pos 0) z ≡ true → nat_abs z ≡ bits_w (bits w) z
      gives (pos n) t = refl
      gives (negsuc n) t = absurd (subst T (sym t) tt)

  pub down_asks : le_z (pos 0) (to_z w (of_z w z)) ≡ false → T (non_neg (to_z w ((2 ^ bits w - 1) - of_z w z))) × Fits w (nat_abs (to_z w ((2 ^ bits w - 1) - of_z w z)))
  down_asks t = rw (complement w z f (rw (to_z-of_z f) at t)) (tt, record { fits = let h = f.sfits in let e = half w in omega arith })

  pub down_gives : le_z (pos 0) (to_z w (of_z w z)) ≡ false → (2 ^ bits w - 1) - nat_abs (to_z w ((2 ^ bits w - 1) - of_z w z)) ≡ bits_w (bits w) z
  down_gives t = rw (complement w z f (rw (to_z-of_z f) at t)) (gives z (rw (to_z-of_z f) at t))
    where
      gives : (z : ℤ) → le_z (pos 0) z ≡ false → (2 ^ bits w - 1) - mag z ≡ bits_w (bits w) z
      gives (pos n) t = absurd (subst T (sym (leb-zero n) ∙ t) tt)
      gives (negsuc n) t = omega arith

-- a reading that was stored and read again
pub reads : (w : Width) {a : ℕ} {x : ℤ} → Fits w a → x ≡ to_z w a → to_z w (of_z w x) ≡ to_z w a
reads w fa e = ap (λ (z : ℤ). to_z w (of_z w z)) e ∙ ap (to_z w) (of_z-to_z fa)

-- what the division states: the bits of the quotient, and of the remainder
module _ {w : Width} {a b : ℕ} {x y : ℤ} (d : Divided w a b x y) {r : ℕ} where
  pub quotient : r ≡ bits_w (bits w) (to_z w (of_z w (quot_z (to_z w (of_z w x)) (to_z w (of_z w y))))) → Some r ≡ by_signed (bits w) a b (divs_w (bits w) a b)
  unfolding divs_w
  quotient e =
      signed_value (bits w) a b d.tested d.passed
      (e ∙ ap (bits_w (bits w)) (to_z-of_z (divides d).1 ∙ (λ i. quot_z ((reads w d.fits_a d.read_a ∙ reads_signed w a) i) ((reads w d.fits_b d.read_b ∙ reads_signed w b) i))))

  pub remainder : r ≡ bits_w (bits w) (to_z w (of_z w (rem_z (to_z w (of_z w x)) (to_z w (of_z w y))))) → Some r ≡ by_signed (bits w) a b (rems_w (bits w) a b)
  unfolding rems_w
  remainder e =
      signed_value (bits w) a b d.tested d.passed
      (e ∙ ap (bits_w (bits w))
      (ap (λ (z : ℤ). to_z w (of_z w z)) (λ i. rem_z (reads w d.fits_a d.read_a i) (reads w d.fits_b d.read_b i))
      ∙ (to_z-of_z (record { sfits = lt_of_le_of_lt (mag_rem (to_z w a) (to_z w b)) (sfits_to_z d.fits_a).sfits })
      ∙ (λ i. rem_z (reads_signed w a i) (reads_signed w b i)))))

-- an arithmetic shift, by the top bit
pub shift_up : (w : Width) (a k : ℕ) → a < 2 ^ hbits w → a / 2 ^ k ≡ bits_w (bits w) (shr_z (to_z w a) (2 ^ k))
shift_up w a k h = sym (ap (λ (z : ℤ). bits_w (bits w) (shr_z z (2 ^ k))) (to_z_pos w h))

pub shift_down : (w : Width) (a k : ℕ) → Fits w a → 2 ^ hbits w ≤ a → (2 ^ bits w - 1) - ((2 ^ bits w - 1) - a) / 2 ^ k ≡ bits_w (bits w) (shr_z (to_z w a) (2 ^ k))
shift_down w a k f h =
    let e : (2 ^ bits w - 1) - a ≡ 2 ^ bits w - suc a = omega arith in
    rw e (ones_less (2 ^ bits w) ((2 ^ bits w - suc a) / 2 ^ k))
    ∙ sym (ap (λ (t : Bool). bits_w (bits w) (shr_z (sel t (pos a) (negsuc (2 ^ bits w - suc a))) (2 ^ k))) (le-ltb a (2 ^ hbits w) h))
  where
    ones_less : (p n : ℕ) → (p - 1) - n ≡ p - suc n
    ones_less p n = omega arith
