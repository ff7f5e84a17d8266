-- Counts of a word among more bits. Assumes nothing.
use mathlib.Core.Path.{◌≡◌, refl, ap, ◌∙◌}
use Prim.Native.Nat.{ℕ, zero, suc, ◌+◌, ◌-◌, ◌*◌, ◌/◌, ◌%◌, ◌^◌, ◌≤◌, ◌<◌}
use native.Mathlib.Nat.{pos_of_ne-zero, pow-suc, mod-lt, lt_of_lt_of_le}
use native.Mathlib.Omega.{arith}
use native.Mathlib.Decide.{dec_lt}
use lib.Count.{count_leading_zeros, leading_top, count_trailing_zeros, under}
use lib.Dec.{lit<}
use lib.Pow.{pow_mono}
use Rattle.word.specs.Swaps.{clz_w, ctz_w}
use Rattle.word.proofs.Counts.{leading, trailing}

-- the zeros above: those of the bits that the word lacks, and its own
module _ (n w a : ℕ) (l : w ≤ n) (h : a < 2 ^ w) (some : a ≡ 0 → ⊥) where
  one_top : (i j : ℕ) → 2 ^ i ≤ a → a < 2 ^ suc j → i ≤ j
  one_top i j p q = elim (dec_lt j i) [ yes k ↦ absurd (let m : 2 ^ suc j ≤ 2 ^ i = pow_mono k in omega arith) | no k ↦ omega arith ]

  above : count_leading_zeros n a ≡ (n - w) + count_leading_zeros w a
  above =
      let (i, e, p, q) = leading_top w a (pos_of_ne-zero some) h in
      let (j, f, r, s) = leading_top n a (pos_of_ne-zero some) (lt_of_lt_of_le h (pow_mono l)) in
      let u = one_top i j p s in
      let v = one_top j i r q in
      omega arith

  pub leading_fits : n - w ≤ count_leading_zeros n a
  leading_fits = omega (arith, above)

  pub leading_among : (b : ℕ) → count_leading_zeros n a - (n - w) ≡ clz_w w a b
  leading_among b = let e : count_leading_zeros n a - (n - w) ≡ count_leading_zeros w a = omega (arith, above) in e ∙ leading w a b h some

-- the zeros below are the word's
below : (n w a : ℕ) → w ≤ n → a < 2 ^ w → (a ≡ 0 → ⊥) → count_trailing_zeros n a ≡ count_trailing_zeros w a
unfolding count_trailing_zeros
below n zero a l h some = absurd (some (omega arith))
below zero (suc w) a l h some = absurd (omega arith)
below (suc n) (suc w) a l h some = go (λ p q. below n w (a / 2) (omega arith) p q) (a % 2) refl (mod-lt a (lit< tt))
  where
    two : 2 ^ suc w ≡ 2 ^ w * 2
    two = pow-suc 2 w

    go : (a / 2 < 2 ^ w → (a / 2 ≡ 0 → ⊥) → count_trailing_zeros n (a / 2) ≡ count_trailing_zeros w (a / 2)) → (b : ℕ) → a % 2 ≡ b → b < 2
        → under b (count_trailing_zeros n (a / 2)) ≡ under b (count_trailing_zeros w (a / 2))
    go rest zero e m = ap (under 0) (rest (omega (arith, two)) (λ z. some (omega arith)))
    go rest (suc zero) e m = refl
    go rest (suc (suc b)) e m = absurd (omega arith)

pub trailing_among : (n w a b : ℕ) → w ≤ n → a < 2 ^ w → (a ≡ 0 → ⊥) → count_trailing_zeros n a ≡ ctz_w w a b
trailing_among n w a b l h some = below n w a l h some ∙ trailing w a b some
