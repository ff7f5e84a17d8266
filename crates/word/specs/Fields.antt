-- Bit fields, once over the width w, and what each bit of their results is. Assumes nothing.
use Rattle.std.specs.Prelude.{◌≡◌, ℕ, ◌+◌, ◌-◌, ◌*◌, ◌/◌, ◌%◌, ◌^◌, ◌<◌, Bool, cond, ◌&&◌, ltb, leb, Option, None, Some}
use Rattle.std.specs.Int.Bits.{bit_and, bit_or}
use Rattle.word.specs.Word.{andc_w, shl_w, extend_w}

-- "A field needs a length of at least 1 and must end within the width; extract2 takes positions 0 to the width."
abbrev pub field_ok : ℕ → ℕ → ℕ → Bool
field_ok w pos len = ltb 0 len && leb (pos + len) w

abbrev pub position_ok : ℕ → ℕ → Bool
position_ok w pos = leb pos w

-- of any other field no result is stated
unfoldable pub by_field : ℕ → ℕ → ℕ → ℕ → Option ℕ
by_field w pos len x = cond (field_ok w pos len) (Some x) None

unfoldable pub by_position : ℕ → ℕ → ℕ → Option ℕ
by_position w pos x = cond (position_ok w pos) (Some x) None

-- "LEN - the length of the bitfield", "POS - the position of the first bit, counting from the LSB"
abbrev pub field_mask : ℕ → ℕ → ℕ
field_mask pos len = (2 ^ len - 1) * 2 ^ pos

-- "Deposit T2 as a bitfield into T1"; "dest = (t1 & ~0x0f00) | ((t2 << 8) & 0x0f00)" at 8, 4
unfoldable pub deposit_w : ℕ → ℕ → ℕ → ℕ → ℕ → ℕ
deposit_w w pos len a b = bit_or (andc_w w a (field_mask pos len)) (bit_and (shl_w w b pos) (field_mask pos len))

-- "Extract a bitfield from T1"; "For extract_*, the result will be extended to the left with zeros"
unfoldable pub extract_w : ℕ → ℕ → ℕ → ℕ
extract_w pos len a = a / 2 ^ pos % 2 ^ len

-- "for sextract_*, the result will be extended to the left with copies of the bitfield sign bit at pos + len - 1"
unfoldable pub sextract_w : ℕ → ℕ → ℕ → ℕ → ℕ
sextract_w w pos len a = extend_w len w (extract_w pos len a)

-- "extract an N-bit quantity from the concatenation of t2:t1, beginning at pos"
unfoldable pub extract2_w : ℕ → ℕ → ℕ → ℕ → ℕ
extract2_w w pos a b = (b * 2 ^ w + a) / 2 ^ pos % 2 ^ w

-- The bit law: bit i of each result, for the values a and b of t1 and t2, a below 2 ^ w. `bit_law` (proofs/Fields) is its proof
abbrev pub bit_at : ℕ → ℕ → ℕ
bit_at a i = a / 2 ^ i % 2

-- of a field of length len, at least 1, at pos, that ends within the width
pub record BitLaw (w pos len : ℕ) : Type 0 where
  -- bit i - pos of t2 where pos ≤ i < pos + len, else bit i of t1
  pub deposit : (a b i : ℕ) → a < 2 ^ w → i < w → bit_at (deposit_w w pos len a b) i ≡ cond (leb pos i && ltb i (pos + len)) (bit_at b (i - pos)) (bit_at a i)
  -- bit i + pos of t1 where i < len, else 0
  pub extract : (a i : ℕ) → bit_at (extract_w pos len a) i ≡ cond (ltb i len) (bit_at a (i + pos)) 0
  -- the same, and bit pos + len - 1 of t1 above
  pub sextract : (a i : ℕ) → i < w → bit_at (sextract_w w pos len a) i ≡ cond (ltb i len) (bit_at a (i + pos)) (bit_at a (pos + len - 1))

-- of a position up to the width: bit i + pos of t2:t1, which is t1's below the width and t2's from there on
pub record Extract2Law (w pos : ℕ) : Type 0 where
  pub extract2 : (a b i : ℕ) → a < 2 ^ w → i < w → bit_at (extract2_w w pos a b) i ≡ cond (ltb (i + pos) w) (bit_at a (i + pos)) (bit_at b (i + pos - w))
