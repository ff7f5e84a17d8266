-- Document 01's table of kinds, as the requests left it. Assumes nothing.
use Rattle.std.specs.Prelude.{ℕ, zero, suc, ◌+◌, ◌*◌, cond, List, [], ◌∷◌, ◌++◌, eqb, replicate}
use Rattle.ops.specs.Rows.{Table, entry, table_of}

-- n operands of one type
abbrev pub alike : ℕ → ℕ → ℕ
alike zero t = 0
alike (suc n) t = t + 4 * alike n t

-- "Every operand has the op's width, except that addresses are 64-bit, and kinds 05 to 07 have the widths in their names."
-- "movi: d, eight bytes little-endian"
abbrev pub movi : ℕ → ℕ
movi t = entry 1 0 8 (cond (eqb t 0) 8 0) 8 t

-- d and n inputs, then a condition where so many bytes follow
abbrev pub pure_op : ℕ → ℕ → ℕ → ℕ
pure_op n conds t = entry 1 n conds (2 * conds) 9 (alike (suc n) t)

-- d and n inputs, then so many bytes with a test of their own
abbrev pub tested_op : ℕ → ℕ → ℕ → ℕ → ℕ
tested_op n bytes test t = entry 1 n bytes test 9 (alike (suc n) t)

abbrev pub convert : ℕ → ℕ → ℕ
convert to from = entry 1 1 0 0 9 (to + 4 * from)

abbrev pub brcond : ℕ → ℕ
brcond t = entry 0 2 2 3 5 (alike 2 t)

abbrev pub load : ℕ → ℕ
load t = entry 1 1 1 (4 + t) 6 (t + 4)

abbrev pub store : ℕ → ℕ
store t = entry 0 2 1 (6 + t) 7 (t + 4)

-- a swap of all bytes, which carries zero flags, and of fewer, which says how it is extended
abbrev pub whole_swap : ℕ → ℕ
whole_swap = tested_op 1 1 14

abbrev pub part_swap : ℕ → ℕ
part_swap = tested_op 1 1 13

-- "Adding 80 (hex) to kinds 10 to 2C gives the 64-bit form"; "kinds 2D to 36 in this order, plus 80 for 64 bits": the kinds 10 to 36 at a type
abbrev pub wide_kinds : ℕ → List ℕ
wide_kinds t =
    -- 10 movi; 11, 12, 13: mov, neg, not
    movi t ∷ replicate 3 (pure_op 1 0 t)
    -- 14 to 1E: add, sub, mul, and, or, xor, andc, orc, eqv, nand, nor; 1F to 22: divs, divu, rems, remu; 23 to 27: shl, shr, sar, rotl, rotr
    ++ replicate 20 (pure_op 2 0 t)
    -- 28 setcond, 29 movcond, 2A brcond, 2B qemu_ld, 2C qemu_st
    ++ (pure_op 2 1 t ∷ pure_op 4 1 t ∷ brcond t ∷ load t ∷ store t
    -- 2D deposit, 2E extract, 2F sextract, 30 extract2
    ∷ tested_op 2 2 (9 + t) t ∷ tested_op 1 2 (9 + t) t ∷ tested_op 1 2 (9 + t) t ∷ tested_op 2 1 (11 + t) t
    -- 31 bswap16, 32 bswap32, 33 bswap64, which 000 has for 64 bits only
    ∷ part_swap t ∷ cond (eqb t 0) (whole_swap t) (part_swap t) ∷ cond (eqb t 0) 0 (whole_swap t)
    -- 34 clz, 35 ctz, 36 ctpop
    ∷ pure_op 2 0 t ∷ pure_op 2 0 t ∷ pure_op 1 0 t ∷ [])

-- the entry of every kind; 0 is unknown
unfoldable pub kind_table : List ℕ
kind_table =
    -- 00; 01: declaration, class and type; 02, 03: set_label, br, a label; 04: exit_tb
    (0 ∷ entry 0 0 2 0 1 0 ∷ entry 0 0 1 1 2 0 ∷ entry 0 0 1 1 3 0 ∷ entry 0 1 0 0 4 1
    -- 05, 06, 07: ext_i32_i64, extu_i32_i64, trunc_i64_i32
    ∷ convert 1 0 ∷ convert 1 0 ∷ convert 0 1 ∷ replicate 8 0)
    ++ (wide_kinds 0 ++ (replicate 89 0 ++ (wide_kinds 1 ++ replicate 73 0)))

abbrev pub row_of : Table
row_of = table_of kind_table
