-- What each op computes on numbers below 2 ^ w, once over the width w. Assumes nothing.
use Rattle.std.specs.Prelude.{ℕ, suc, ◌+◌, ◌-◌, ◌*◌, ◌/◌, ◌%◌, ◌^◌, Bool, cond, ◌&&◌, ◌||◌, ltb, eqb, ℤ, pos, negsuc, Option, None, Some}
use Rattle.std.specs.Int.Bits.{bit_and, bit_or, bit_xor}
use mir.Val.{sel}
use Rattle.std.specs.Int.Signed.{quot_z, rem_z, shr_z}

-- "Sums, differences, products and negations wrap at the width."
abbrev pub add_w : ℕ → ℕ → ℕ → ℕ
add_w w a b = (a + b) % 2 ^ w

abbrev pub sub_w : ℕ → ℕ → ℕ → ℕ
sub_w w a b = (a + (2 ^ w - b)) % 2 ^ w

abbrev pub mul_w : ℕ → ℕ → ℕ → ℕ
mul_w w a b = (a * b) % 2 ^ w

abbrev pub neg_w : ℕ → ℕ → ℕ
neg_w w a = (2 ^ w - a) % 2 ^ w

-- the bits turned over
abbrev pub not_w : ℕ → ℕ → ℕ
not_w w a = (2 ^ w - 1) - a

abbrev pub andc_w : ℕ → ℕ → ℕ → ℕ
andc_w w a b = bit_and a (not_w w b)

abbrev pub orc_w : ℕ → ℕ → ℕ → ℕ
orc_w w a b = bit_or a (not_w w b)

abbrev pub eqv_w : ℕ → ℕ → ℕ → ℕ
eqv_w w a b = not_w w (bit_xor a b)

abbrev pub nand_w : ℕ → ℕ → ℕ → ℕ
nand_w w a b = not_w w (bit_and a b)

abbrev pub nor_w : ℕ → ℕ → ℕ → ℕ
nor_w w a b = not_w w (bit_or a b)

-- shifts and rotates by a count k below the width
abbrev pub shl_w : ℕ → ℕ → ℕ → ℕ
shl_w w a k = (a * 2 ^ k) % 2 ^ w

abbrev pub shr_w : ℕ → ℕ → ℕ → ℕ
shr_w w a k = a / 2 ^ k

abbrev pub rotl_w : ℕ → ℕ → ℕ → ℕ
rotl_w w a k = shl_w w a k + a / 2 ^ (w - k)

abbrev pub rotr_w : ℕ → ℕ → ℕ → ℕ
rotr_w w a k = shl_w w a (w - k) + a / 2 ^ k

-- the number that w bits hold, read as signed; and the bits of a signed number
abbrev pub signed_w : ℕ → ℕ → ℤ
signed_w w a = sel (ltb a (2 ^ (w - 1))) (pos a) (negsuc (2 ^ w - suc a))

abbrev pub bits_w : ℕ → ℤ → ℕ
bits_w w (pos n) = n
bits_w w (negsuc n) = 2 ^ w - suc n

unfoldable pub sar_w : ℕ → ℕ → ℕ → ℕ
sar_w w a k = bits_w w (shr_z (signed_w w a) (2 ^ k))

-- "Signed division truncates toward zero, and the remainder takes the dividend's sign."
unfoldable pub divs_w : ℕ → ℕ → ℕ → ℕ
divs_w w a b = bits_w w (quot_z (signed_w w a) (signed_w w b))

unfoldable pub rems_w : ℕ → ℕ → ℕ → ℕ
rems_w w a b = bits_w w (rem_z (signed_w w a) (signed_w w b))

-- f bits read as signed, at w bits
unfoldable pub extend_w : ℕ → ℕ → ℕ → ℕ
extend_w f w a = cond (ltb a (2 ^ (f - 1))) a (a + (2 ^ w - 2 ^ f))

-- "No result is stated for a zero divisor"
unfoldable pub by_divisor : ℕ → ℕ → Option ℕ
by_divisor b x = cond (eqb b 0) None (Some x)

-- ", for the smallest signed value divided by minus one (divs and rems)"
abbrev pub no_quotient : ℕ → ℕ → ℕ → Bool
no_quotient w a b = eqb b 0 || (eqb a (2 ^ (w - 1)) && eqb b (2 ^ w - 1))

unfoldable pub by_signed : ℕ → ℕ → ℕ → ℕ → Option ℕ
by_signed w a b x = cond (no_quotient w a b) None (Some x)

-- ", and for a shift or rotate whose count, read unsigned, is at or above the width."
unfoldable pub by_count : ℕ → ℕ → ℕ → Option ℕ
by_count w k x = cond (ltb k w) (Some x) None
