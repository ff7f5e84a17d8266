-- One byte more of a number that is read, one less of one that is written, and the sign of one. Assumes nothing.
use mathlib.Core.Path.{◌≡◌, refl, sym, ap, subst, ◌∙◌}
use mathlib.Core.Bool.{Bool, true, false}
use mathlib.Core.List.{List}
use Prim.Native.Nat.{ℕ, zero, suc, ◌+◌, ◌-◌, ◌*◌, ◌%◌, ◌^◌, ◌≤◌, ◌<◌}
use native.Mathlib.Nat.{pow-suc, pow-le-pow_right, lt_of_lt_of_le, one-mul, mod-eq_of_lt, two-pow-succ, mul-suc}
use native.Mathlib.Numerals.{add-one}
use native.Mathlib.Omega.{arith}
use lib.Dec.{lit<}
use lib.Pow.{pow-add, pow-lt, pow_pos, pow_mono}
use lib.Arith.{digits_lt}
use borrow.Author.Tests.{lt-ltb, le-ltb}
use mir.Syntax.{w64}
use mir.Val.{Fits}
use Rattle.word.specs.Word.{extend_w}
use lib.ListN.{get_or}
use Rattle.memory.specs.Answer.{access_width}
use Rattle.memory.specs.Bytes.{low_first, high_first}

-- one digit of base 256 more
pub digit : (i : ℕ) {x b : ℕ} → x < 256 ^ i → b < 256 → x * 256 + b < 256 ^ (i + 1)
digit i hx hb = rw (add-one i, pow-suc 256 i) (digits_lt hx hb)

-- and eight of them fit
pub fits8 : (i : ℕ) {y : ℕ} → i ≤ 8 → y < 256 ^ i → y < 2 ^ 64
fits8 i l h = lt_of_lt_of_le h (pow-le-pow_right (lit< tt) l)

pub room : (i : ℕ) {x : ℕ} → i < 8 → x < 256 ^ i → x * 256 + 255 < 2 ^ 64
room i l h = fits8 (i + 1) (omega arith) (digit i h (lit< tt))

-- n bytes make a number below 256 ^ n
module _ (m : List ℕ) (bytes : (i : ℕ) → get_or m i 0 < 256) where
  pub low_below : (p n : ℕ) → low_first m p n < 256 ^ n
  unfolding low_first
  low_below p zero = lit< tt
  low_below p (suc n) = subst (λ (k : ℕ). low_first m (p + 1) n * 256 + get_or m p 0 < 256 ^ k) (add-one n) (digit n (low_below (p + 1) n) (bytes p))

  pub high_below : (p n : ℕ) → high_first m p n < 256 ^ n
  unfolding high_first
  high_below p zero = lit< tt
  high_below p (suc n) = subst (λ (k : ℕ). high_first m p n * 256 + get_or m (p + n) 0 < 256 ^ k) (add-one n) (digit n (high_below p n) (bytes (p + n)))

pow256 : (n : ℕ) → 256 ^ n ≡ 2 ^ (8 * n)
pow256 zero = refl
pow256 (suc n) = pow-suc 256 n ∙ ap (λ (k : ℕ). k * 256) (pow256 n) ∙ sym (pow-add 2 (8 * n) 8) ∙ ap (λ (k : ℕ). 2 ^ k) (sym (mul-suc 8 n))

-- the half of n bytes' range, and the highest number in it, as the code makes them
abbrev half_of : ℕ → ℕ
half_of n = (1 * 2 ^ (8 * n - 1)) % 2 ^ 64

abbrev ones_of : ℕ → ℕ
ones_of n = half_of n - 1 + half_of n

-- a number of n bytes read as signed at w bits
module _ (n : ℕ) (l : 0 < n) (u : n ≤ 8) where
  half_is : half_of n ≡ 2 ^ (8 * n - 1)
  half_is = ap (λ (k : ℕ). k % 2 ^ 64) (one-mul (2 ^ (8 * n - 1))) ∙ mod-eq_of_lt (pow-lt {j = 64} (omega arith))

  whole : 2 ^ (8 * n) ≡ 2 ^ (8 * n - 1) + 2 ^ (8 * n - 1)
  whole = let e : 8 * n ≡ suc (8 * n - 1) = omega arith in ap (λ (k : ℕ). 2 ^ k) e ∙ two-pow-succ (8 * n - 1)

  pub half_positive : 1 ≤ half_of n
  half_positive = rw half_is (pow_pos (8 * n - 1))

  pub ones_are : ones_of n ≡ 2 ^ (8 * n) - 1
  ones_are = rw half_is (let p = pow_pos (8 * n - 1) in let e = whole in omega arith)

  pub ones_fit : Fits w64 (ones_of n)
  ones_fit = record { fits = rw ones_are (let p = pow_pos (8 * n) in let e = pow_mono {i = 8 * n} {j = 64} (omega arith) in omega arith) }

  module _ (w : ℕ) {x : ℕ} where
    pub stays : x < half_of n → x ≡ extend_w (8 * n) w x
    unfolding extend_w
    stays h = rw (lt-ltb x (2 ^ (8 * n - 1)) (rw half_is at h))

    grown : half_of n ≤ x → extend_w (8 * n) w x ≡ x + (2 ^ w - 2 ^ (8 * n))
    unfolding extend_w
    grown h = rw (le-ltb x (2 ^ (8 * n - 1)) (rw half_is at h))

    module _ {t : ℕ} (e : t ≡ 2 ^ w - 1) where
      pub narrows : half_of n ≤ x → t < ones_of n → x ≡ extend_w (8 * n) w x
      narrows h s = let g = grown h in let s' = rw ones_are at s in omega arith

      pub grows : half_of n ≤ x → x + (t - ones_of n) ≡ extend_w (8 * n) w x
      grows h = rw ones_are (let g = grown h in let p = pow_pos w in let q = pow_pos (8 * n) in omega arith)

  pub room_above : (b : Bool) {x t : ℕ} → x < 256 ^ n → t ≡ 2 ^ access_width b - 1 → ones_of n ≤ t → Fits w64 (x + (t - ones_of n))
  room_above b {x} {t} h e g = record { fits = rw ones_are (let f = below b in let g' = rw ones_are at g in let q = rw (pow256 n) at h in omega arith) }
    where
      below : (b : Bool) → 2 ^ access_width b ≤ 2 ^ 64
      below true = omega arith
      below false = omega arith
