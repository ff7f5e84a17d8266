-- Rotations of words, over the width. Assumes nothing.
use mathlib.Core.Path.{◌≡◌, sym, ◌∙◌, subst}
use Prim.Native.Nat.{ℕ, ◌+◌, ◌-◌, ◌*◌, ◌/◌, ◌%◌, ◌^◌, ◌≤◌, ◌<◌}
use native.Mathlib.Nat.{sub-add_cancel, mul-mod_left, add-zero, mod-lt, add_comm, mul-one, mod-eq_of_lt, div-eq_of_lt, div-one, zero-add}
use native.Mathlib.Omega.{arith}
use lib.Arith.{digits_lt, sub-sub_self}
use lib.Pow.{pow-add, pow_pos, mod-pow-add, shl-shr, shr_lt}

module _ (j k a : ℕ) (h : a < 2 ^ (j + k)) where
  -- the bits that stay
  kept : (a * 2 ^ k) % 2 ^ (j + k) ≡ a % 2 ^ j * 2 ^ k
  kept = mod-pow-add (a * 2 ^ k) j k ∙ (λ i. (shl-shr a k i % 2 ^ j) * 2 ^ k + mul-mod_left a (2 ^ k) i) ∙ add-zero (a % 2 ^ j * 2 ^ k)

  wraps : (a * 2 ^ k) % 2 ^ (j + k) + a / 2 ^ j < 2 ^ (j + k)
  wraps = rw (kept, pow-add 2 j k) (digits_lt (mod-lt a (pow_pos j)) (shr_lt k j (rw (add_comm k j) h)))

-- a word turned by k
pub turned : (w k : ℕ) {a : ℕ} → k ≤ w → a < 2 ^ w → (a * 2 ^ k) % 2 ^ w + a / 2 ^ (w - k) < 2 ^ w
turned w k {a} l h = subst (λ (n : ℕ). (a * 2 ^ k) % 2 ^ n + a / 2 ^ (w - k) < 2 ^ n) (sub-add_cancel l) (wraps (w - k) k a (rw (sub-add_cancel l) h))

-- and not turned
pub still : (w : ℕ) {a : ℕ} → a < 2 ^ w → a ≡ (a * 2 ^ 0) % 2 ^ w + a / 2 ^ w
still w {a} h = sym ((λ i. (mul-one a i) % 2 ^ w + div-eq_of_lt h i) ∙ add-zero (a % 2 ^ w) ∙ mod-eq_of_lt h)

pub still_r : (w : ℕ) {a : ℕ} → a < 2 ^ w → a ≡ (a * 2 ^ w) % 2 ^ w + a / 2 ^ 0
still_r w {a} h = sym ((λ i. mul-mod_left a (2 ^ w) i + div-one a i) ∙ zero-add a)

pub turned_r : (w k : ℕ) {a : ℕ} → k ≤ w → a < 2 ^ w → (a * 2 ^ (w - k)) % 2 ^ w + a / 2 ^ k < 2 ^ w
turned_r w k {a} l h = subst (λ (n : ℕ). (a * 2 ^ (w - k)) % 2 ^ w + a / 2 ^ n < 2 ^ w) (sub-sub_self l) (turned w (w - k) (omega arith) h)
