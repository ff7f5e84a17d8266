-- Double-word arithmetic, once over the width w of its single words. Assumes nothing.
use Rattle.std.specs.Prelude.{ℕ, ◌+◌, ◌-◌, ◌*◌, ◌/◌, ◌%◌, ◌^◌, cond, ltb, ◌*ℤ◌}
use Rattle.word.specs.Word.{add_w, sub_w, signed_w, bits_w}

-- "the double-word inputs T1 and T2 are formed from two single-word arguments, and the double-word output T0 is returned in two single-word outputs"
abbrev pub double_w : ℕ → ℕ → ℕ → ℕ
double_w w low high = low + 2 ^ w * high

abbrev pub low_w : ℕ → ℕ → ℕ
low_w w x = x % 2 ^ w

abbrev pub high_w : ℕ → ℕ → ℕ
high_w w x = x / 2 ^ w

-- sums and differences wrap at the double width
unfoldable pub add2_w : ℕ → ℕ → ℕ → ℕ → ℕ → ℕ
add2_w w al ah bl bh = add_w (2 * w) (double_w w al ah) (double_w w bl bh)

unfoldable pub sub2_w : ℕ → ℕ → ℕ → ℕ → ℕ → ℕ
sub2_w w al ah bl bh = sub_w (2 * w) (double_w w al ah) (double_w w bl bh)

-- "two unsigned inputs T1 and T2 yielding the full double-word product T0"
unfoldable pub mulu2_w : ℕ → ℕ → ℕ → ℕ
mulu2_w w a b = a * b

-- "Similar to mulu2, except the two inputs T1 and T2 are signed."
unfoldable pub muls2_w : ℕ → ℕ → ℕ → ℕ
muls2_w w a b = bits_w (2 * w) (signed_w w a *ℤ signed_w w b)

-- "Provide the high part of a signed or unsigned multiply, respectively."
unfoldable pub muluh_w : ℕ → ℕ → ℕ → ℕ
muluh_w w a b = high_w w (mulu2_w w a b)

unfoldable pub mulsh_w : ℕ → ℕ → ℕ → ℕ
mulsh_w w a b = high_w w (muls2_w w a b)

-- what the low words carry to the high ones, and what they borrow
abbrev pub carry_w : ℕ → ℕ → ℕ → ℕ
carry_w w a b = (a + b) / 2 ^ w

abbrev pub borrow_w : ℕ → ℕ → ℕ
borrow_w a b = cond (ltb a b) 1 0

-- what the sign of a takes from the high half of the unsigned product: b where the top bit of a is set
abbrev pub taken_w : ℕ → ℕ → ℕ → ℕ
taken_w w a b = cond (ltb a (2 ^ (w - 1))) 0 b
