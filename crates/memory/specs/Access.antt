-- Loads and stores. Assumes nothing.
use Rattle.std.specs.Prelude.{ℕ, ◌+◌, ◌*◌, ◌/◌, ◌%◌, ◌^◌, Bool, cond, not, ◌&&◌, ◌||◌, List, ltb, leb, eqb, Result, Ok, Err, ⊤}
use Rattle.word.specs.Word.{extend_w}
use Rattle.memory.specs.declared.Reason.{Reason}
use Rattle.memory.specs.declared.Reason.TheVariants.{Bounds, Alignment}
use Rattle.memory.specs.Bytes.{low_first, high_first, put_low, put_high}

-- "Flags: bits 0 and 1 give the access size as 1, 2, 4 or 8 bytes; bit 2 sign-extends a load; bit 3 means big-endian."
abbrev pub size_of : ℕ → ℕ
size_of flags = 2 ^ (flags % 4)

abbrev pub sign_extends : ℕ → Bool
sign_extends flags = eqb (flags / 4 % 2) 1

abbrev pub big_endian : ℕ → Bool
big_endian flags = eqb (flags / 8 % 2) 1

-- "Flag bit 4 asks that the address be a multiple of the size."
abbrev pub asks_aligned : ℕ → Bool
asks_aligned flags = eqb (flags / 16 % 2) 1

-- "Other bits are zero. The size never exceeds the width. Bit 2 is refused on a store." "Refusal 6 stops objecting to bit 4.": the others are 5 to 7
unfoldable pub flags_ok : ℕ → Bool → ℕ → Bool
flags_ok w store flags = ltb flags 32 && leb (8 * size_of flags) w && not (store && sign_extends flags)

-- the address is a multiple of the size, or need not be
unfoldable pub aligned : ℕ → ℕ → Bool
aligned address flags = not (asks_aligned flags) || eqb (address % size_of flags) 0

-- "An access faults when address plus size, as whole numbers, exceeds the memory's length; it then changes nothing." "The access leaf must
-- answer why it failed, bounds or alignment, with alignment first where both apply"
unfoldable pub access_at : ℕ → ℕ → ℕ → Result ⊤ Reason
access_at length address flags =
    cond (aligned address flags)
    (cond (leb (address + size_of flags) length) (Ok tt) (Err Bounds))
    (Err Alignment)

-- "A narrow load without bit 2 zero-extends"
unfoldable pub loaded : ℕ → ℕ → List ℕ → ℕ → ℕ
loaded w flags m address =
    let x = cond (big_endian flags) (high_first m address (size_of flags)) (low_first m address (size_of flags)) in
    cond (sign_extends flags) (extend_w (8 * size_of flags) w x) x

-- "; a narrow store writes the low bytes."
unfoldable pub stored : ℕ → List ℕ → ℕ → ℕ → List ℕ
stored flags m address x = cond (big_endian flags) (put_high m address (size_of flags) x) (put_low m address (size_of flags) x)
