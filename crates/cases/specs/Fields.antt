-- Bit fields, swaps and counts. Proved in proofs/Fields.antt. Assumes nothing.
use Rattle.std.specs.Prelude.{ℕ, ◌≡◌, Bool, true, false, ◌&&◌, List, [], ◌∷◌, ◌++◌, eqb, Option, None, Some, Ok, is_none}
use Rattle.std.specs.Int.Bits.{bit_and, bit_or}
use Rattle.word.specs.Word.{not_w, shl_w, sar_w}
use Rattle.word.specs.Fields.{deposit_w, sextract_w}
use Rattle.ops.specs.Kinds.{computed_of}
use Rattle.block.specs.Checks.{Accepted, Refused}
use Rattle.block.specs.Checks.{check_of}
use Rattle.runs.specs.declared.Ending.TheVariants.{Exit, NoResult}
use Rattle.runs.specs.Runs.{ran_as, run_of}
use Rattle.cases.specs.Examples.{movi64, exit, Gives, declared5}

-- 000's two examples, of every value: "dest = (t1 & ~0x0f00) | ((t2 << 8) & 0x0f00)" and "dest = (t1 << 20) >> 28 (using an arithmetic right shift)"
unfoldable pub Document000 : Type 0
Document000 =
    ((t1 t2 : ℕ) → deposit_w 32 8 4 t1 t2 ≡ bit_or (bit_and t1 (not_w 32 0x0f00)) (bit_and (shl_w 32 t2 8) 0x0f00))
    × ((t1 : ℕ) → sextract_w 32 8 4 t1 ≡ sar_w 32 (shl_w 32 t1 20) 28)

-- what a kind states of the bytes after its operands and its inputs
abbrev pub is : Option ℕ → ℕ → Bool
is None x = false
is (Some y) x = eqb y x

abbrev pub gives : ℕ → List ℕ → List ℕ → ℕ → Bool
gives k bytes inputs x = is (computed_of k bytes inputs) x

abbrev pub unstated : ℕ → List ℕ → List ℕ → Bool
unstated k bytes inputs = is_none (computed_of k bytes inputs)

-- fields at positions 0 and the last, of length 1 and of the whole width; extract2 at 0, the last position and the width
unfoldable pub FieldCases : Type 0
FieldCases =
    (
    gives 0x2D (0x0 ∷ 0x1 ∷ []) (0x80F00F01 ∷ 0x12345674 ∷ []) 0x80F00F00
    && gives 0x2D (0x1F ∷ 0x1 ∷ []) (0x80F00F01 ∷ 0x12345674 ∷ []) 0xF00F01
    && gives 0x2D (0x0 ∷ 0x20 ∷ []) (0x80F00F01 ∷ 0x12345674 ∷ []) 0x12345674
    && gives 0x2D (0x8 ∷ 0x4 ∷ []) (0x80F00F01 ∷ 0x12345674 ∷ []) 0x80F00401
    && gives 0x2D (0x18 ∷ 0x8 ∷ []) (0x80F00F01 ∷ 0x12345674 ∷ []) 0x74F00F01
    && gives 0x2E (0x0 ∷ 0x1 ∷ []) (0x80F00F01 ∷ []) 0x1
    && gives 0x2F (0x0 ∷ 0x1 ∷ []) (0x80F00F01 ∷ []) 0xFFFFFFFF
    && gives 0x2E (0x1F ∷ 0x1 ∷ []) (0x80F00F01 ∷ []) 0x1
    && gives 0x2F (0x1F ∷ 0x1 ∷ []) (0x80F00F01 ∷ []) 0xFFFFFFFF
    && gives 0x2E (0x0 ∷ 0x20 ∷ []) (0x80F00F01 ∷ []) 0x80F00F01
    && gives 0x2F (0x0 ∷ 0x20 ∷ []) (0x80F00F01 ∷ []) 0x80F00F01
    && gives 0x2E (0x8 ∷ 0x4 ∷ []) (0x80F00F01 ∷ []) 0xF
    && gives 0x2F (0x8 ∷ 0x4 ∷ []) (0x80F00F01 ∷ []) 0xFFFFFFFF
    && gives 0x2E (0x18 ∷ 0x8 ∷ []) (0x80F00F01 ∷ []) 0x80
    && gives 0x2F (0x18 ∷ 0x8 ∷ []) (0x80F00F01 ∷ []) 0xFFFFFF80
    && gives 0x30 (0x0 ∷ []) (0x80F00F01 ∷ 0x12345674 ∷ []) 0x80F00F01
    && gives 0x30 (0x1 ∷ []) (0x80F00F01 ∷ 0x12345674 ∷ []) 0x40780780
    && gives 0x30 (0x8 ∷ []) (0x80F00F01 ∷ 0x12345674 ∷ []) 0x7480F00F
    && gives 0x30 (0x1F ∷ []) (0x80F00F01 ∷ 0x12345674 ∷ []) 0x2468ACE9
    && gives 0x30 (0x20 ∷ []) (0x80F00F01 ∷ 0x12345674 ∷ []) 0x12345674
    && gives 0xAD (0x0 ∷ 0x1 ∷ []) (0x80F00F017FFE8001 ∷ 0x123456789ABCDEF4 ∷ []) 0x80F00F017FFE8000
    && gives 0xAD (0x3F ∷ 0x1 ∷ []) (0x80F00F017FFE8001 ∷ 0x123456789ABCDEF4 ∷ []) 0xF00F017FFE8001
    && gives 0xAD (0x0 ∷ 0x40 ∷ []) (0x80F00F017FFE8001 ∷ 0x123456789ABCDEF4 ∷ []) 0x123456789ABCDEF4
    && gives 0xAD (0x8 ∷ 0x4 ∷ []) (0x80F00F017FFE8001 ∷ 0x123456789ABCDEF4 ∷ []) 0x80F00F017FFE8401
    && gives 0xAD (0x38 ∷ 0x8 ∷ []) (0x80F00F017FFE8001 ∷ 0x123456789ABCDEF4 ∷ []) 0xF4F00F017FFE8001
    && gives 0xAE (0x0 ∷ 0x1 ∷ []) (0x80F00F017FFE8001 ∷ []) 0x1
    && gives 0xAF (0x0 ∷ 0x1 ∷ []) (0x80F00F017FFE8001 ∷ []) 0xFFFFFFFFFFFFFFFF
    && gives 0xAE (0x3F ∷ 0x1 ∷ []) (0x80F00F017FFE8001 ∷ []) 0x1
    && gives 0xAF (0x3F ∷ 0x1 ∷ []) (0x80F00F017FFE8001 ∷ []) 0xFFFFFFFFFFFFFFFF
    && gives 0xAE (0x0 ∷ 0x40 ∷ []) (0x80F00F017FFE8001 ∷ []) 0x80F00F017FFE8001
    && gives 0xAF (0x0 ∷ 0x40 ∷ []) (0x80F00F017FFE8001 ∷ []) 0x80F00F017FFE8001
    && gives 0xAE (0x8 ∷ 0x4 ∷ []) (0x80F00F017FFE8001 ∷ []) 0x0
    && gives 0xAF (0x8 ∷ 0x4 ∷ []) (0x80F00F017FFE8001 ∷ []) 0x0
    && gives 0xAE (0x38 ∷ 0x8 ∷ []) (0x80F00F017FFE8001 ∷ []) 0x80
    && gives 0xAF (0x38 ∷ 0x8 ∷ []) (0x80F00F017FFE8001 ∷ []) 0xFFFFFFFFFFFFFF80
    && gives 0xB0 (0x0 ∷ []) (0x80F00F017FFE8001 ∷ 0x123456789ABCDEF4 ∷ []) 0x80F00F017FFE8001
    && gives 0xB0 (0x1 ∷ []) (0x80F00F017FFE8001 ∷ 0x123456789ABCDEF4 ∷ []) 0x40780780BFFF4000
    && gives 0xB0 (0x8 ∷ []) (0x80F00F017FFE8001 ∷ 0x123456789ABCDEF4 ∷ []) 0xF480F00F017FFE80
    && gives 0xB0 (0x3F ∷ []) (0x80F00F017FFE8001 ∷ 0x123456789ABCDEF4 ∷ []) 0x2468ACF13579BDE9
    && gives 0xB0 (0x40 ∷ []) (0x80F00F017FFE8001 ∷ 0x123456789ABCDEF4 ∷ []) 0x123456789ABCDEF4
    )
    ≡ true

-- OZ and OS, each with the sign bit of the swapped bytes clear and set; IZ with an input that is zero-extended and one that is not
unfoldable pub SwapCases : Type 0
SwapCases =
    (
    gives 0x31 (0x2 ∷ []) (0x12348001 ∷ []) 0x180
    && gives 0x31 (0x2 ∷ []) (0x12340180 ∷ []) 0x8001
    && gives 0x31 (0x4 ∷ []) (0x12340180 ∷ []) 0xFFFF8001
    && gives 0x31 (0x4 ∷ []) (0x12348001 ∷ []) 0x180
    && gives 0x31 (0x3 ∷ []) (0x8001 ∷ []) 0x180
    && gives 0x31 (0x5 ∷ []) (0x180 ∷ []) 0xFFFF8001
    && unstated 0x31 (0x3 ∷ []) (0x18001 ∷ [])
    && unstated 0x31 (0x5 ∷ []) (0x18001 ∷ [])
    && gives 0xB1 (0x2 ∷ []) (0x12348001 ∷ []) 0x180
    && gives 0xB1 (0x2 ∷ []) (0x12340180 ∷ []) 0x8001
    && gives 0xB1 (0x4 ∷ []) (0x12340180 ∷ []) 0xFFFFFFFFFFFF8001
    && gives 0xB1 (0x4 ∷ []) (0x12348001 ∷ []) 0x180
    && gives 0xB1 (0x3 ∷ []) (0x8001 ∷ []) 0x180
    && gives 0xB1 (0x5 ∷ []) (0x180 ∷ []) 0xFFFFFFFFFFFF8001
    && unstated 0xB1 (0x3 ∷ []) (0x18001 ∷ [])
    && unstated 0xB1 (0x5 ∷ []) (0x18001 ∷ [])
    && gives 0x32 (0x0 ∷ []) (0x80F00F01 ∷ []) 0x10FF080
    && gives 0xB2 (0x2 ∷ []) (0x1234567880000001 ∷ []) 0x1000080
    && gives 0xB2 (0x2 ∷ []) (0x1234567801020380 ∷ []) 0x80030201
    && gives 0xB2 (0x4 ∷ []) (0x1234567801020380 ∷ []) 0xFFFFFFFF80030201
    && gives 0xB2 (0x4 ∷ []) (0x1234567880000001 ∷ []) 0x1000080
    && gives 0xB2 (0x3 ∷ []) (0x80000001 ∷ []) 0x1000080
    && gives 0xB2 (0x5 ∷ []) (0x1020380 ∷ []) 0xFFFFFFFF80030201
    && unstated 0xB2 (0x3 ∷ []) (0x180000001 ∷ [])
    && unstated 0xB2 (0x5 ∷ []) (0x180000001 ∷ [])
    && gives 0xB3 (0x0 ∷ []) (0x102030405060780 ∷ []) 0x8007060504030201
    )
    ≡ true

-- zero inputs, the lowest and the highest bit, all ones
unfoldable pub CountCases : Type 0
CountCases =
    (
    gives 0x34 ([]) (0x0 ∷ 0x5 ∷ []) 0x5
    && gives 0x35 ([]) (0x0 ∷ 0x5 ∷ []) 0x5
    && gives 0x34 ([]) (0x1 ∷ 0x5 ∷ []) 0x1F
    && gives 0x35 ([]) (0x1 ∷ 0x5 ∷ []) 0x0
    && gives 0x34 ([]) (0x80000000 ∷ 0x5 ∷ []) 0x0
    && gives 0x35 ([]) (0x80000000 ∷ 0x5 ∷ []) 0x1F
    && gives 0x34 ([]) (0xFFFFFFFF ∷ 0x5 ∷ []) 0x0
    && gives 0x35 ([]) (0xFFFFFFFF ∷ 0x5 ∷ []) 0x0
    && gives 0x34 ([]) (0xF0 ∷ 0x5 ∷ []) 0x18
    && gives 0x35 ([]) (0xF0 ∷ 0x5 ∷ []) 0x4
    && gives 0x36 ([]) (0x0 ∷ []) 0x0
    && gives 0x36 ([]) (0x1 ∷ []) 0x1
    && gives 0x36 ([]) (0x80000000 ∷ []) 0x1
    && gives 0x36 ([]) (0xFFFFFFFF ∷ []) 0x20
    && gives 0x36 ([]) (0x80F00F01 ∷ []) 0xA
    && gives 0xB4 ([]) (0x0 ∷ 0x5 ∷ []) 0x5
    && gives 0xB5 ([]) (0x0 ∷ 0x5 ∷ []) 0x5
    && gives 0xB4 ([]) (0x1 ∷ 0x5 ∷ []) 0x3F
    && gives 0xB5 ([]) (0x1 ∷ 0x5 ∷ []) 0x0
    && gives 0xB4 ([]) (0x8000000000000000 ∷ 0x5 ∷ []) 0x0
    && gives 0xB5 ([]) (0x8000000000000000 ∷ 0x5 ∷ []) 0x3F
    && gives 0xB4 ([]) (0xFFFFFFFFFFFFFFFF ∷ 0x5 ∷ []) 0x0
    && gives 0xB5 ([]) (0xFFFFFFFFFFFFFFFF ∷ 0x5 ∷ []) 0x0
    && gives 0xB4 ([]) (0xF0 ∷ 0x5 ∷ []) 0x38
    && gives 0xB5 ([]) (0xF0 ∷ 0x5 ∷ []) 0x4
    && gives 0xB6 ([]) (0x0 ∷ []) 0x0
    && gives 0xB6 ([]) (0x1 ∷ []) 0x1
    && gives 0xB6 ([]) (0x8000000000000000 ∷ []) 0x1
    && gives 0xB6 ([]) (0xFFFFFFFFFFFFFFFF ∷ []) 0x40
    && gives 0xB6 ([]) (0x80F00F01 ∷ []) 0xA
    )
    ≡ true

-- an op on v0 and v1, at 15, and what the check says of it; the same with 32-bit globals, at 9, where v2 has 64 bits
abbrev pub checked : List ℕ → List ℕ
checked op = declared5 ++ op ++ exit 0x00

abbrev pub checked32 : List ℕ → List ℕ
checked32 op = (0x01 ∷ 0x00 ∷ 0x00 ∷ 0x01 ∷ 0x00 ∷ 0x00 ∷ 0x01 ∷ 0x00 ∷ 0x01 ∷ []) ++ op ++ exit 0x02

-- both sides of each limit: length 0 and 1, the end at the width and one past it; extract2 at the width and one past it; "exactly one of OZ and OS", zero flags; no bswap64_i32
unfoldable pub FieldLimits : Type 0
FieldLimits =
    (check_of (checked (0xAD ∷ 0x00 ∷ 0x00 ∷ 0x01 ∷ 0 ∷ 0 ∷ [])) ≡ Refused 6 15)
    × (check_of (checked (0xAD ∷ 0x00 ∷ 0x00 ∷ 0x01 ∷ 0 ∷ 64 ∷ [])) ≡ Accepted)
    × (check_of (checked (0xAD ∷ 0x00 ∷ 0x00 ∷ 0x01 ∷ 63 ∷ 1 ∷ [])) ≡ Accepted)
    × (check_of (checked (0xAD ∷ 0x00 ∷ 0x00 ∷ 0x01 ∷ 63 ∷ 2 ∷ [])) ≡ Refused 6 15)
    × (check_of (checked (0xAE ∷ 0x00 ∷ 0x01 ∷ 64 ∷ 1 ∷ [])) ≡ Refused 6 15)
    × (check_of (checked (0xAF ∷ 0x00 ∷ 0x01 ∷ 128 ∷ 192 ∷ [])) ≡ Refused 6 15)
    × (check_of (checked (0xB0 ∷ 0x00 ∷ 0x00 ∷ 0x01 ∷ 64 ∷ [])) ≡ Accepted)
    × (check_of (checked (0xB0 ∷ 0x00 ∷ 0x00 ∷ 0x01 ∷ 65 ∷ [])) ≡ Refused 6 15)
    × (check_of (checked (0xB1 ∷ 0x00 ∷ 0x01 ∷ 1 ∷ [])) ≡ Refused 6 15)
    × (check_of (checked (0xB1 ∷ 0x00 ∷ 0x01 ∷ 2 ∷ [])) ≡ Accepted)
    × (check_of (checked (0xB2 ∷ 0x00 ∷ 0x01 ∷ 5 ∷ [])) ≡ Accepted)
    × (check_of (checked (0xB2 ∷ 0x00 ∷ 0x01 ∷ 6 ∷ [])) ≡ Refused 6 15)
    × (check_of (checked (0xB3 ∷ 0x00 ∷ 0x01 ∷ 0 ∷ [])) ≡ Accepted)
    × (check_of (checked (0xB3 ∷ 0x00 ∷ 0x01 ∷ 1 ∷ [])) ≡ Refused 6 15)
    × (check_of (checked (0xB1 ∷ 0x00 ∷ 0x01 ∷ 0x0A ∷ [])) ≡ Refused 6 15)
    × (check_of (checked (0x33 ∷ 0x00 ∷ 0x01 ∷ 0 ∷ [])) ≡ Refused 2 15)

unfoldable pub NarrowLimits : Type 0
NarrowLimits =
    (check_of (checked32 (0x2D ∷ 0x00 ∷ 0x00 ∷ 0x01 ∷ 0 ∷ 32 ∷ [])) ≡ Accepted)
    × (check_of (checked32 (0x2D ∷ 0x00 ∷ 0x00 ∷ 0x01 ∷ 31 ∷ 2 ∷ [])) ≡ Refused 6 9)
    × (check_of (checked32 (0x2E ∷ 0x00 ∷ 0x01 ∷ 31 ∷ 1 ∷ [])) ≡ Accepted)
    × (check_of (checked32 (0x2F ∷ 0x00 ∷ 0x01 ∷ 0 ∷ 33 ∷ [])) ≡ Refused 6 9)
    × (check_of (checked32 (0x2F ∷ 0x00 ∷ 0x01 ∷ 5 ∷ 0 ∷ [])) ≡ Refused 6 9)
    × (check_of (checked32 (0x30 ∷ 0x00 ∷ 0x00 ∷ 0x01 ∷ 32 ∷ [])) ≡ Accepted)
    × (check_of (checked32 (0x30 ∷ 0x00 ∷ 0x00 ∷ 0x01 ∷ 33 ∷ [])) ≡ Refused 6 9)
    × (check_of (checked32 (0x31 ∷ 0x00 ∷ 0x01 ∷ 4 ∷ [])) ≡ Accepted)
    × (check_of (checked32 (0x31 ∷ 0x00 ∷ 0x01 ∷ 7 ∷ [])) ≡ Refused 6 9)
    × (check_of (checked32 (0x32 ∷ 0x00 ∷ 0x01 ∷ 0 ∷ [])) ≡ Accepted)
    × (check_of (checked32 (0x32 ∷ 0x00 ∷ 0x01 ∷ 2 ∷ [])) ≡ Refused 6 9)

-- v3 := 5; v0 := the field of v1 at 8, 4 replaced by v3, which stays: v1 is not known; v4 := the swapped bytes of v3, folded; v1 := the leading zeros of v4
unfoldable pub field_block : List ℕ
field_block =
    declared5 ++ movi64 0x03 0x05 ++ (0xAD ∷ 0x00 ∷ 0x01 ∷ 0x03 ∷ 8 ∷ 4 ∷ []) ++ (0xB1 ∷ 0x04 ∷ 0x03 ∷ 3 ∷ []) ++ (0xB4 ∷ 0x01 ∷ 0x04 ∷ 0x03 ∷ []) ++ exit 0x00

unfoldable pub field_result : List ℕ
field_result = declared5 ++ movi64 0x03 0x05 ++ (0xAD ∷ 0x00 ∷ 0x01 ∷ 0x03 ∷ 8 ∷ 4 ∷ []) ++ movi64 0x01 0x35 ++ exit 0x00

unfoldable pub FieldBlock : Type 0
FieldBlock =
    Gives field_block field_result
    × (run_of field_block (1 ∷ 0xFFFF ∷ []) [] ≡ ran_as (Ok (Exit 0xF5FF 5)) (0xF5FF ∷ 0x35 ∷ []) [])
    × (run_of field_result (1 ∷ 0xFFFF ∷ []) [] ≡ ran_as (Ok (Exit 0xF5FF 4)) (0xF5FF ∷ 0x35 ∷ []) [])

-- "With IZ set and an input that is not zero-extended, no result is stated": v0 := v1 swapped; the run stops before it
unfoldable pub not_extended : List ℕ
not_extended = declared5 ++ (0xB1 ∷ 0x00 ∷ 0x01 ∷ 3 ∷ []) ++ exit 0x00

-- v3 := 0x10000; v0 := v3 swapped, which is not folded though v3 is known
unfoldable pub known_not_extended : List ℕ
known_not_extended = declared5 ++ (0x90 ∷ 0x03 ∷ 0 ∷ 0 ∷ 1 ∷ 0 ∷ 0 ∷ 0 ∷ 0 ∷ 0 ∷ []) ++ (0xB1 ∷ 0x00 ∷ 0x03 ∷ 3 ∷ []) ++ exit 0x00

unfoldable pub NotExtended : Type 0
NotExtended =
    Gives known_not_extended known_not_extended
    × (run_of not_extended (7 ∷ 0x10000 ∷ []) [] ≡ ran_as (Ok (NoResult 0 0)) (7 ∷ 0x10000 ∷ []) []) × (run_of not_extended (7 ∷ 0xFFFE ∷ []) [] ≡ ran_as (Ok (Exit 0xFEFF 2)) (0xFEFF ∷ 0xFFFE ∷ []) [])
