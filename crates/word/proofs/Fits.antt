-- The result of every operation fits the width, and a stated result is the one computed. Assumes nothing.
use mathlib.Core.Path.{◌≡◌, refl, sym}
use mathlib.Core.Bool.{Bool, true, false, ◌&&◌, ◌||◌}
use Rattle.std.specs.Prelude.{Option, Some}
use Rattle.std.proofs.lemmas.Option.{none-some, same_Some, cond_some}
use Prim.Native.Nat.{ℕ, zero, suc, ◌+◌, ◌-◌, ◌*◌, ◌/◌, ◌%◌, ◌^◌, ◌≤◌, ◌<◌, zero-le, suc-le-suc}
use native.Mathlib.Nat.{mod-lt, mod-le, le_of_lt, lt_of_le_of_lt, div-le_self}
use native.Mathlib.Omega.{arith}
use lib.Bits.{bit_and, bit_or, bit_xor, and_lt, or_lt}
use lib.Dec.{ltb, eqb}
use lib.IntN.{ℤ, pos, negsuc, neg_ℤ, nat_abs}
use lib.Pow.{pow_pos, pow_mono, ones_sub-lt, pow-sub-lt}
use lib.Signed.{quot_z, rem_z, shr_z}
use mir.Val.{sel}
use borrow.Author.Tests.{ltb-true, ltb-false}
use Rattle.word.specs.Word.{add_w, sub_w, mul_w, neg_w, not_w, andc_w, orc_w, eqv_w, nand_w, nor_w, shl_w, shr_w, sar_w, rotl_w, rotr_w, signed_w, bits_w, divs_w, rems_w, extend_w}
use Rattle.word.specs.Word.{by_divisor, by_signed, by_count}
use Rattle.word.proofs.Tests.{cond_told}
use Rattle.word.proofs.Rotate.{turned, turned_r}

-- what is taken modulo the power
pub mod_fits : (w a : ℕ) → a % 2 ^ w < 2 ^ w
mod_fits w a = mod-lt a (pow_pos w)

pub add_fits : (w a b : ℕ) → add_w w a b < 2 ^ w
add_fits w a b = mod_fits w (a + b)

pub sub_fits : (w a b : ℕ) → sub_w w a b < 2 ^ w
sub_fits w a b = mod_fits w (a + (2 ^ w - b))

pub mul_fits : (w a b : ℕ) → mul_w w a b < 2 ^ w
mul_fits w a b = mod_fits w (a * b)

pub neg_fits : (w a : ℕ) → neg_w w a < 2 ^ w
neg_fits w a = mod_fits w (2 ^ w - a)

pub shl_fits : (w a k : ℕ) → shl_w w a k < 2 ^ w
shl_fits w a k = mod_fits w (a * 2 ^ k)

-- what is turned over
pub not_fits : (w a : ℕ) → not_w w a < 2 ^ w
not_fits w a = ones_sub-lt w a

pub eqv_fits : (w a b : ℕ) → eqv_w w a b < 2 ^ w
eqv_fits w a b = not_fits w (bit_xor a b)

pub nand_fits : (w a b : ℕ) → nand_w w a b < 2 ^ w
nand_fits w a b = not_fits w (bit_and a b)

pub nor_fits : (w a b : ℕ) → nor_w w a b < 2 ^ w
nor_fits w a b = not_fits w (bit_or a b)

-- bit by bit; `and`, `or` and `xor` themselves are lib.Bits' and_lt, or_lt and xor_lt
pub andc_fits : (w a b : ℕ) → a < 2 ^ w → andc_w w a b < 2 ^ w
andc_fits w a b h = and_lt w a (not_w w b) h (not_fits w b)

pub orc_fits : (w a b : ℕ) → a < 2 ^ w → orc_w w a b < 2 ^ w
orc_fits w a b h = or_lt w a (not_w w b) h (not_fits w b)

-- what is no larger than a
pub divu_fits : (w a b : ℕ) → a < 2 ^ w → a / b < 2 ^ w
divu_fits w a b h = lt_of_le_of_lt (div-le_self a b) h

pub remu_fits : (w a b : ℕ) → a < 2 ^ w → a % b < 2 ^ w
remu_fits w a b h = lt_of_le_of_lt (mod-le a b) h

pub shr_fits : (w a k : ℕ) → a < 2 ^ w → shr_w w a k < 2 ^ w
shr_fits w a k h = divu_fits w a (2 ^ k) h

-- rotates
pub rotl_fits : (w a k : ℕ) → k < w → a < 2 ^ w → rotl_w w a k < 2 ^ w
rotl_fits w a k l h = turned w k (le_of_lt l) h

pub rotr_fits : (w a k : ℕ) → k < w → a < 2 ^ w → rotr_w w a k < 2 ^ w
rotr_fits w a k l h = turned_r w k (le_of_lt l) h

-- signed: what is no further from zero than a's reading
signed_near : (w a : ℕ) → a < 2 ^ w → nat_abs (signed_w w a) < 2 ^ w
signed_near w a h = go (ltb a (2 ^ (w - 1))) refl
  where
    go : (b : Bool) → ltb a (2 ^ (w - 1)) ≡ b → nat_abs (sel b (pos a) (negsuc (2 ^ w - suc a))) < 2 ^ w
    go true e = h
    go false e = let p = pow_pos (w - 1) in let l = ltb-false a (2 ^ (w - 1)) e in omega arith

bits_fit : (w : ℕ) (z : ℤ) → nat_abs z < 2 ^ w → bits_w w z < 2 ^ w
bits_fit w (pos n) h = h
bits_fit w (negsuc n) h = pow-sub-lt w (suc-le-suc zero-le)

near : (w a : ℕ) (z : ℤ) → a < 2 ^ w → nat_abs z ≤ nat_abs (signed_w w a) → bits_w w z < 2 ^ w
near w a z h l = bits_fit w z (lt_of_le_of_lt l (signed_near w a h))

abs_neg : (n : ℕ) → nat_abs (neg_ℤ (pos n)) ≡ n
abs_neg zero = refl
abs_neg (suc n) = refl

abs_shr : (z : ℤ) (m : ℕ) → nat_abs (shr_z z m) ≤ nat_abs z
abs_shr (pos a) m = div-le_self a m
abs_shr (negsuc a) m = suc-le-suc (div-le_self a m)

abs_quot : (z d : ℤ) → nat_abs (quot_z z d) ≤ nat_abs z
abs_quot (pos a) (pos b) = div-le_self a b
abs_quot (pos a) (negsuc b) = rw (abs_neg (a / suc b)) (div-le_self a (suc b))
abs_quot (negsuc a) (pos b) = rw (abs_neg (suc a / b)) (div-le_self (suc a) b)
abs_quot (negsuc a) (negsuc b) = div-le_self (suc a) (suc b)

abs_rem : (z d : ℤ) → nat_abs (rem_z z d) ≤ nat_abs z
abs_rem (pos a) d = mod-le a (nat_abs d)
abs_rem (negsuc a) d = rw (abs_neg (suc a % nat_abs d)) (mod-le (suc a) (nat_abs d))

pub sar_fits : (w a k : ℕ) → a < 2 ^ w → sar_w w a k < 2 ^ w
unfolding sar_w
sar_fits w a k h = near w a (shr_z (signed_w w a) (2 ^ k)) h (abs_shr (signed_w w a) (2 ^ k))

pub divs_fits : (w a b : ℕ) → a < 2 ^ w → divs_w w a b < 2 ^ w
unfolding divs_w
divs_fits w a b h = near w a (quot_z (signed_w w a) (signed_w w b)) h (abs_quot (signed_w w a) (signed_w w b))

pub rems_fits : (w a b : ℕ) → a < 2 ^ w → rems_w w a b < 2 ^ w
unfolding rems_w
rems_fits w a b h = near w a (rem_z (signed_w w a) (signed_w w b)) h (abs_rem (signed_w w a) (signed_w w b))

pub extend_fits : (f w a : ℕ) → f ≤ w → a < 2 ^ f → extend_w f w a < 2 ^ w
unfolding extend_w
extend_fits f w a l h =
    let m : 2 ^ f ≤ 2 ^ w = pow_mono l in
    cond_told (λ (n : ℕ). n < 2 ^ w) (ltb a (2 ^ (f - 1))) (λ e. omega arith) (λ e. omega arith)

-- a stated result is the one computed
pub divisor_states : (b x y : ℕ) → by_divisor b x ≡ Some y → y ≡ x
unfolding by_divisor
divisor_states b x y = cond_told (λ (o : Option ℕ). o ≡ Some y → y ≡ x) (eqb b 0) (λ t e. absurd (none-some y e)) (λ t e. sym (same_Some x y e))

pub signed_states : (w a b x y : ℕ) → by_signed w a b x ≡ Some y → y ≡ x
unfolding by_signed
signed_states w a b x y =
    cond_told (λ (o : Option ℕ). o ≡ Some y → y ≡ x) (eqb b 0 || (eqb a (2 ^ (w - 1)) && eqb b (2 ^ w - 1))) (λ t e. absurd (none-some y e)) (λ t e. sym (same_Some x y e))

pub count_states : (w k x y : ℕ) → by_count w k x ≡ Some y → (k < w) × (y ≡ x)
unfolding by_count
count_states w k x y e = let p = cond_some (ltb k w) x y e in (ltb-true k w p.0, sym p.1)
