-- What the bits of a number are: of its parts, shifted, turned over, and of masks. Assumes nothing.
use mathlib.Core.Path.{◌≡◌, sym, ap, ◌∙◌, subst}
use Prim.Native.Nat.{ℕ, suc, ◌+◌, ◌-◌, ◌*◌, ◌/◌, ◌%◌, ◌^◌, ◌≤◌, ◌<◌}
use native.Mathlib.Nat.{add-zero, add-mul, mod-lt, mod-mod, div-eq_of_lt, sub-add_cancel, lt_of_lt_of_le, pow-suc}
use native.Mathlib.Omega.{arith}
use lib.Bits.{bit_and, bit_or, and_shr, or_shr, and_mod, or_mod, and_mask}
use lib.Pow.{pow_pos, pow_mono, split, high, low, field, mod-mod-pow, shr-shr, shr_lt, ones_split, ones_sub-lt}
use Rattle.word.specs.Fields.{bit_at}

-- the k low bits of n keep their parts, l bits from p on
pub part_mod : (n k p l : ℕ) → l + p ≤ k → n % 2 ^ k / 2 ^ p % 2 ^ l ≡ n / 2 ^ p % 2 ^ l
part_mod n k p l h =
    let e : n % 2 ^ k % 2 ^ (l + p) ≡ n % 2 ^ (l + p) =
    subst (λ (m : ℕ). n % 2 ^ m % 2 ^ (l + p) ≡ n % 2 ^ (l + p)) (sub-add_cancel h) (mod-mod-pow n (k - (l + p)) (l + p)) in
    sym (field (n % 2 ^ k) l p) ∙ ap (λ (x : ℕ). x / 2 ^ p) e ∙ field n l p

pub bit_mod : (n k i : ℕ) → i < k → bit_at (n % 2 ^ k) i ≡ bit_at n i
bit_mod n k i h = part_mod n k i 1 (omega arith)

-- of h above the k bits of r
pub bit_low : (h r k i : ℕ) → r < 2 ^ k → i < k → bit_at (h * 2 ^ k + r) i ≡ bit_at r i
bit_low h r k i b l = sym (bit_mod (h * 2 ^ k + r) k i l) ∙ ap (λ (x : ℕ). bit_at x i) (low h k b)

pub bit_high : (h r k i : ℕ) → r < 2 ^ k → bit_at (h * 2 ^ k + r) (k + i) ≡ bit_at h i
bit_high h r k i b = ap (λ (x : ℕ). x % 2) (sym (shr-shr (h * 2 ^ k + r) k i) ∙ ap (λ (x : ℕ). x / 2 ^ i) (high h k b))

-- past its length a number has no ones
pub bit_over : {a k : ℕ} (i : ℕ) → a < 2 ^ k → k ≤ i → bit_at a i ≡ 0
bit_over i h l = ap (λ (x : ℕ). x % 2) (div-eq_of_lt (lt_of_lt_of_le h (pow_mono l)))

-- shifted down, and up
pub bit_shr : (a k i : ℕ) → bit_at (a / 2 ^ k) i ≡ bit_at a (k + i)
bit_shr a k i = ap (λ (x : ℕ). x % 2) (shr-shr a k i)

pub bit_shl_low : (a k i : ℕ) → i < k → bit_at (a * 2 ^ k) i ≡ 0
bit_shl_low a k i l = ap (λ (x : ℕ). bit_at x i) (sym (add-zero (a * 2 ^ k))) ∙ bit_low a 0 k i (pow_pos k) l ∙ bit_over {a = 0} {k = 0} i (omega arith) (omega arith)

pub bit_shl : (a k i : ℕ) → bit_at (a * 2 ^ k) (k + i) ≡ bit_at a i
bit_shl a k i = ap (λ (x : ℕ). bit_at x (k + i)) (sym (add-zero (a * 2 ^ k))) ∙ bit_high a 0 k i (pow_pos k)

-- bit by bit
pub bit_and_lem : (a b i : ℕ) → bit_at (bit_and a b) i ≡ bit_and (bit_at a i) (bit_at b i)
bit_and_lem a b i = ap (λ (x : ℕ). x % 2) (and_shr a b i) ∙ and_mod (a / 2 ^ i) (b / 2 ^ i) 1

pub bit_or_lem : (a b i : ℕ) → bit_at (bit_or a b) i ≡ bit_or (bit_at a i) (bit_at b i)
bit_or_lem a b i = ap (λ (x : ℕ). x % 2) (or_shr a b i) ∙ or_mod (a / 2 ^ i) (b / 2 ^ i) 1

-- a bit and a one
pub and_bit : (a i : ℕ) → bit_and (bit_at a i) 1 ≡ bit_at a i
and_bit a i = and_mask (bit_at a i) 1 ∙ mod-mod (a / 2 ^ i) 2

-- all bits but those of a number of j + k bits, shifted down
pub not_shr : (a j k : ℕ) → a < 2 ^ (j + k) → ((2 ^ (j + k) - 1) - a) / 2 ^ k ≡ (2 ^ j - 1) - a / 2 ^ k
not_shr a j k h =
    let q = a / 2 ^ k in
    let r = a % 2 ^ k in
    let d = (2 ^ j - 1) - q in
    let b : q < 2 ^ j = shr_lt j k h in
    let l : r < 2 ^ k = mod-lt a (pow_pos k) in
    let e : (2 ^ j - 1) * 2 ^ k ≡ q * 2 ^ k + d * 2 ^ k = ap (λ (x : ℕ). x * 2 ^ k) (omega arith) ∙ add-mul q d (2 ^ k) in
    let s : (2 ^ (j + k) - 1) - a ≡ d * 2 ^ k + ((2 ^ k - 1) - r) = omega (arith, ones_split j k, e, split a k) in
    ap (λ (x : ℕ). x / 2 ^ k) s ∙ high d k (ones_sub-lt k r)

-- turned over
pub bit_not : (a w i : ℕ) → a < 2 ^ w → i < w → bit_at ((2 ^ w - 1) - a) i ≡ 1 - bit_at a i
bit_not a w i h l =
    let j = w - suc i in
    let e : suc j + i ≡ w = omega arith in
    let h' : a < 2 ^ (suc j + i) = subst (λ (n : ℕ). a < 2 ^ n) (sym e) h in
    let b : a / 2 ^ i < 2 ^ suc j = shr_lt (suc j) i h' in
    let two : 2 ^ suc j ≡ 2 ^ j * 2 = pow-suc 2 j in
    let odd : ((2 ^ suc j - 1) - a / 2 ^ i) % 2 ≡ 1 - a / 2 ^ i % 2 = omega (arith, b, two) in
    subst (λ (n : ℕ). bit_at ((2 ^ n - 1) - a) i ≡ 1 - bit_at a i) e (ap (λ (x : ℕ). x % 2) (not_shr a (suc j) i h') ∙ odd)

-- n ones
pub bit_ones : (n i : ℕ) → i < n → bit_at (2 ^ n - 1) i ≡ 1
bit_ones n i l = ap (λ (x : ℕ). bit_at x i) (omega arith) ∙ bit_not 0 n i (pow_pos n) l ∙ ap (λ (x : ℕ). 1 - x) (bit_over {a = 0} {k = 0} i (omega arith) (omega arith))
