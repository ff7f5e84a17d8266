-- The halves of a product, by the halves of its factors, in any base P. Assumes nothing.
use mathlib.Core.Path.{◌≡◌, refl, sym, ap, ◌∙◌}
use Prim.Native.Nat.{ℕ, ◌+◌, ◌-◌, ◌*◌, ◌/◌, ◌%◌, ◌^◌, ◌≤◌, ◌<◌}
use native.Mathlib.Nat.{add_assoc, add_comm, add_left_comm, mul_assoc, mul_comm, mul_left_comm, mul-add, add-mul, div-add-mod'}
use native.Mathlib.Nat.{mod-lt, mul-le-mul, add-mod-mod, mul-add-mod_self_right, add-mul-mod_self_right, lt_of_le_of_lt, le_of_lt, mul-le-mul_left, mul-lt-mul_of_pos_right}
use native.Mathlib.Omega.{arith}
use lib.Arith.{digits_lt, digits_div}
use lib.Pow.{pow-add, pow_pos, le_ones, shr_lt}

-- a product of two words of k bits
pub below : (k : ℕ) {a b : ℕ} → a < 2 ^ k → b < 2 ^ k → a * b < 2 ^ (k + k)
below k {a} {b} ha hb =
    rw (pow-add 2 k k) (lt_of_le_of_lt (mul-le-mul_left a (le_of_lt hb)) (mul-lt-mul_of_pos_right ha (pow_pos k)))

-- the four products of the halves of two words of k + k bits: each leaves room for two halves more
pub record Products (k a b : ℕ) : Type 0 where
  pub low : a % 2 ^ k * (b % 2 ^ k) ≤ (2 ^ k - 1) * (2 ^ k - 1)
  pub cross : a / 2 ^ k * (b % 2 ^ k) ≤ (2 ^ k - 1) * (2 ^ k - 1)
  pub other : a % 2 ^ k * (b / 2 ^ k) ≤ (2 ^ k - 1) * (2 ^ k - 1)
  pub high : a / 2 ^ k * (b / 2 ^ k) ≤ (2 ^ k - 1) * (2 ^ k - 1)

pub products : (k a b : ℕ) → a < 2 ^ (k + k) → b < 2 ^ (k + k) → Products k a b
products k a b ha hb =
    record {
      low = mul-le-mul (lower a) (lower b);
      cross = mul-le-mul (upper ha) (lower b);
      other = mul-le-mul (lower a) (upper hb);
      high = mul-le-mul (upper ha) (upper hb);
    }
  where
    lower : (n : ℕ) → n % 2 ^ k ≤ 2 ^ k - 1
    lower n = le_ones k (mod-lt n (pow_pos k))

    upper : {n : ℕ} → n < 2 ^ (k + k) → n / 2 ^ k ≤ 2 ^ k - 1
    upper h = le_ones k (shr_lt k k h)

-- a factor may be reduced first
mod_mul_mod : (z m p : ℕ) → (z % m * p) % m ≡ (z * p) % m
mod_mul_mod z m p =
    sym (ap (λ (n : ℕ). (n * p) % m) (sym (div-add-mod' z m)) ∙ ap (λ (n : ℕ). n % m) (regroup (z / m) m (z % m) p) ∙ mul-add-mod_self_right (z / m * p) m (z % m * p))
  where
    regroup : (q m r p : ℕ) → (q * m + r) * p ≡ q * p * m + r * p
    regroup q m r p = simp (add-mul, mul_assoc, mul_comm, add_comm) refl

columns : (P a₀ a₁ b₀ b₁ : ℕ) → (a₁ * P + a₀) * (b₁ * P + b₀) ≡ (a₀ * b₀ + (a₁ * b₀ + a₀ * b₁) * P) + a₁ * b₁ * (P * P)
columns P a₀ a₁ b₀ b₁ = simp (mul-add, add-mul, mul_assoc, mul_comm, mul_left_comm, add_assoc, add_comm, add_left_comm) refl

pub low_half : (P a b : ℕ) → (a % P * (b % P) + ((a / P * (b % P) + a % P * (b / P)) % (P * P) * P) % (P * P)) % (P * P) ≡ (a * b) % (P * P)
low_half P a b =
    ap (λ (n : ℕ). (a % P * (b % P) + n) % (P * P)) (mod_mul_mod (a / P * (b % P) + a % P * (b / P)) (P * P) P)
    ∙ add-mod-mod (a % P * (b % P)) ((a / P * (b % P) + a % P * (b / P)) * P) (P * P)
    ∙ sym (add-mul-mod_self_right (a % P * (b % P) + (a / P * (b % P) + a % P * (b / P)) * P) (a / P * (b / P)) (P * P))
    ∙ ap (λ (n : ℕ). n % (P * P)) (sym (columns P (a % P) (a / P) (b % P) (b / P)))
    ∙ (λ i. (div-add-mod' a P i * div-add-mod' b P i) % (P * P))

-- the high half: the high halves' product, and what two sums carry to it. The first is of a cross product and what the low halves' product carries,
-- the second of the other cross product and the low half of the first sum
abbrev pub first_sum : ℕ → ℕ → ℕ → ℕ
first_sum P a b = a / P * (b % P) + a % P * (b % P) / P

abbrev pub second_sum : ℕ → ℕ → ℕ → ℕ
second_sum P a b = a % P * (b / P) + first_sum P a b % P

pub high_half : (P a b : ℕ) → 0 < P → a / P * (b / P) + first_sum P a b / P + second_sum P a b / P ≡ (a * b) / (P * P)
high_half P a b h = sym (ap (λ (n : ℕ). n / (P * P)) digits ∙ digits_div (z + m / P + s / P) (digits_lt (mod-lt s h) (mod-lt l h)))
  where
    l : ℕ
    l = a % P * (b % P)

    x : ℕ
    x = a / P * (b % P)

    y : ℕ
    y = a % P * (b / P)

    z : ℕ
    z = a / P * (b / P)

    m : ℕ
    m = x + l / P

    s : ℕ
    s = y + m % P

    carried : (n : ℕ) → n * P ≡ n / P * (P * P) + n % P * P
    carried n = ap (λ (k : ℕ). k * P) (sym (div-add-mod' n P)) ∙ add-mul (n / P * P) (n % P) P ∙ ap (λ (k : ℕ). k + n % P * P) (mul_assoc (n / P) P P)

    digits : a * b ≡ (z + m / P + s / P) * (P * P) + (s % P * P + l % P)
    digits =
        sym (λ i. div-add-mod' a P i * div-add-mod' b P i) ∙ columns P (a % P) (a / P) (b % P) (b / P)
        ∙ rw (add-mul (z + m / P) (s / P) (P * P), add-mul z (m / P) (P * P))
        (omega (arith, carried m, carried s, add-mul x y P, add-mul x (l / P) P, add-mul y (m % P) P, div-add-mod' l P))
