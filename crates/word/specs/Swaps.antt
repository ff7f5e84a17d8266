-- Byte swaps and bit counts, once over the width w. Assumes nothing.
use Rattle.std.specs.Prelude.{◌≡◌, ℕ, zero, suc, ◌+◌, ◌-◌, ◌*◌, ◌/◌, ◌%◌, ◌^◌, ◌≤◌, ◌<◌, Bool, cond, not, ◌&&◌, ◌||◌, eqb, ltb, Option, None, Some}
use Rattle.std.specs.Bool.{beq}
use Rattle.word.specs.Word.{extend_w}
use Rattle.word.specs.Fields.{bit_at}

-- "In the flags byte IZ is bit 0, OZ bit 1 and OS bit 2; the rest are zero."
abbrev pub has_iz : ℕ → Bool
has_iz flags = eqb (bit_at flags 0) 1

abbrev pub has_oz : ℕ → Bool
has_oz flags = eqb (bit_at flags 1) 1

abbrev pub has_os : ℕ → Bool
has_os flags = eqb (bit_at flags 2) 1

-- "A 16-bit swap, or a 32-bit swap of a 64-bit value, must carry exactly one of OZ and OS; other swaps carry zero flags."
unfoldable pub swap_flags_ok : ℕ → Bool
swap_flags_ok flags = ltb flags 8 && not (beq (has_oz flags) (has_os flags))

abbrev pub no_flags_ok : ℕ → Bool
no_flags_ok flags = eqb flags 0

-- the n low bytes in the other order
unfoldable pub swap_bytes : ℕ → ℕ → ℕ
swap_bytes zero a = 0
swap_bytes (suc n) a = a % 256 * 2 ^ (8 * n) + swap_bytes n (a / 256)

-- "16 bit byte swap on the low bits of a 32/64 bit input": of n bytes. "If flags & TCG_BSWAP_OZ, then t0 will be zero-extended from bit 15. If
-- flags & TCG_BSWAP_OS, then t0 will be sign-extended from bit 15."
unfoldable pub bswap_w : ℕ → ℕ → ℕ → ℕ → ℕ
bswap_w w n flags a = cond (has_os flags) (extend_w (8 * n) w (swap_bytes n a)) (swap_bytes n a)

-- "If flags & TCG_BSWAP_IZ, then t1 is known to be zero-extended from bit 15." "With IZ set and an input that is not zero-extended, no result is stated."
abbrev pub input_ok : ℕ → ℕ → ℕ → Bool
input_ok n flags a = not (has_iz flags) || ltb a (2 ^ (8 * n))

unfoldable pub by_input : ℕ → ℕ → ℕ → ℕ → Option ℕ
by_input n flags a x = cond (input_ok n flags a) (Some x) None

-- The byte law: byte i of a swap of n bytes, at least one and no more than the width has, and what stands above them. `byte_law` (proofs/Swaps) is its proof
abbrev pub byte_at : ℕ → ℕ → ℕ
byte_at a i = a / 2 ^ (8 * i) % 256

pub record ByteLaw (w n flags : ℕ) : Type 0 where
  -- the bytes in the other order
  pub swapped : (a i : ℕ) → i < n → byte_at (bswap_w w n flags a) i ≡ byte_at a (n - suc i)
  -- above them zeros, but with OS copies of the sign bit of the swapped bytes, the top bit of byte 0 of t1
  pub above : (a i : ℕ) → n ≤ i → 8 * suc i ≤ w → byte_at (bswap_w w n flags a) i ≡ cond (has_os flags && eqb (bit_at a 7) 1) 255 0

-- the position of the highest one among the n low bits, and of the lowest from bit i on; the number of ones among the n low bits
unfoldable pub highest_one : ℕ → ℕ → ℕ
highest_one zero a = 0
highest_one (suc n) a = cond (eqb (bit_at a n) 1) n (highest_one n a)

unfoldable pub lowest_one : ℕ → ℕ → ℕ → ℕ
lowest_one zero i a = i
lowest_one (suc n) i a = cond (eqb (bit_at a i) 1) i (lowest_one n (suc i) a)

unfoldable pub ones_among : ℕ → ℕ → ℕ
ones_among zero a = 0
ones_among (suc n) a = bit_at a n + ones_among n a

-- "t0 = t1 ? clz(t1) : t2": the zeros above the highest one
unfoldable pub clz_w : ℕ → ℕ → ℕ → ℕ
clz_w w a b = cond (eqb a 0) b (w - suc (highest_one w a))

-- "t0 = t1 ? ctz(t1) : t2": the zeros below the lowest one
unfoldable pub ctz_w : ℕ → ℕ → ℕ → ℕ
ctz_w w a b = cond (eqb a 0) b (lowest_one w 0 a)

-- "t0 = number of bits set in t1"
unfoldable pub ctpop_w : ℕ → ℕ → ℕ
ctpop_w w a = ones_among w a
