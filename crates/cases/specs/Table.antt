-- The table of kinds against document 01's ranges of kinds. Proved in proofs/Table.antt. Assumes nothing.
use Rattle.std.specs.Prelude.{ℕ, zero, suc, ◌+◌, ◌≡◌, Bool, true, not, ◌&&◌, ◌||◌, eqb}
use Rattle.std.specs.Bool.{beq}
use Rattle.ops.specs.Kinds.{between}
use Rattle.ops.specs.Table.{row_of}
use Rattle.ops.specs.Rows.{known, body_length, output_count, pure_kind}
use Rattle.ops.specs.Folds.{foldable_row}

-- a range of kinds from 10 on, in either width
abbrev pub either : ℕ → ℕ → ℕ → Bool
either lo hi k = between lo hi k || between (0x80 + lo) (0x80 + hi) k

abbrev pub given : Bool → ℕ → ℕ → Bool
given test n m = not test || eqb n m

-- "kinds 2D to 36 in this order, plus 80 for 64 bits"; "000 has no 32-bit bswap64"
abbrev pub bit_kind : ℕ → Bool
bit_kind k = either 0x2D 0x36 k && not (eqb k 0x33)

-- the kinds there are, those that fold ("kinds 05 to 07 or 11 to 29 (either width)", and 2D to 36), and the pure ones ("kinds 05 to 07 and 10 to 29 in either width", and 2D to 36)
abbrev pub kind_row : ℕ → Bool
kind_row k =
    beq (known row_of k) (between 0x01 0x07 k || (either 0x10 0x2C k || bit_kind k))
    && beq (foldable_row (row_of k)) (between 0x05 0x07 k || (either 0x11 0x29 k || bit_kind k))
    && beq (pure_kind row_of k) (between 0x05 0x07 k || (either 0x10 0x29 k || bit_kind k))

-- the lengths of the bodies in document 01's table of ops, of the declaration, and of "000's operands in its order, one byte each"
abbrev pub length_row : ℕ → Bool
length_row k =
    given (eqb k 0x01) (body_length row_of k) 2
    && given (between 0x02 0x04 k) (body_length row_of k) 1
    && given (between 0x05 0x07 k || either 0x11 0x13 k) (body_length row_of k) 2
    && given (either 0x10 0x10 k) (body_length row_of k) 9
    && given (either 0x14 0x27 k || either 0x2B 0x2C k) (body_length row_of k) 3
    && given (either 0x28 0x28 k || either 0x2A 0x2A k) (body_length row_of k) 4
    && given (either 0x29 0x29 k) (body_length row_of k) 6
    && given (either 0x2D 0x2D k) (body_length row_of k) 5
    && given (either 0x2E 0x30 k) (body_length row_of k) 4
    && given (either 0x31 0x32 k || (eqb k 0xB3 || either 0x34 0x35 k)) (body_length row_of k) 3
    && given (either 0x36 0x36 k) (body_length row_of k) 2

-- an output for each pure op and each load, none for any other
abbrev pub output_row : ℕ → Bool
output_row k = given (pure_kind row_of k || either 0x2B 0x2B k) (output_count row_of k) 1 && given (not (pure_kind row_of k || either 0x2B 0x2B k)) (output_count row_of k) 0

abbrev pub all_kinds : (ℕ → Bool) → ℕ → Bool
all_kinds test zero = true
all_kinds test (suc n) = test n && all_kinds test n

-- every kind, 00 to FF
unfoldable pub KindTable : Type 0
KindTable = all_kinds (λ k. kind_row k && length_row k && output_row k) 256 ≡ true
