-- What the pure ops compute, by kind, once over the width: none where no result is stated. Assumes nothing.
use Rattle.std.specs.Prelude.{ℕ, ◌*◌, ◌/◌, ◌%◌, ◌^◌, cond, eqb, leb, Option, None, Some}
use Rattle.std.specs.Int.Bits.{bit_and, bit_or, bit_xor}
use Rattle.word.specs.Word.{add_w, sub_w, mul_w, neg_w, not_w, andc_w, orc_w, eqv_w, nand_w, nor_w, shl_w, shr_w, sar_w, rotl_w, rotr_w, divs_w, rems_w, extend_w}
use Rattle.word.specs.Word.{by_divisor, by_signed, by_count}
use Rattle.word.specs.Condition.{cond_w}
use Rattle.word.specs.Fields.{by_field, by_position, deposit_w, extract_w, sextract_w, extract2_w}
use Rattle.word.specs.Swaps.{by_input, bswap_w, clz_w, ctz_w, ctpop_w}

-- 05, 06, 07: "ext_i32_i64, extu_i32_i64, trunc_i64_i32: d, a"
unfoldable pub convert_of : ℕ → ℕ → Option ℕ
convert_of k a = cond (eqb k 0x05) (Some (extend_w 32 64 a)) (cond (eqb k 0x06) (Some a) (Some (a % 2 ^ 32)))

-- 11, 12, 13: "mov, neg, not: d, a"
unfoldable pub unary_of : ℕ → ℕ → ℕ → Option ℕ
unary_of w k a = cond (eqb k 0x11) (Some a) (cond (eqb k 0x12) (Some (neg_w w a)) (Some (not_w w a)))

-- 14 to 1E: "add, sub, mul, and, or, xor, andc, orc, eqv, nand, nor: d, a, b"
unfoldable pub logic_of : ℕ → ℕ → ℕ → ℕ → Option ℕ
logic_of w k a b =
    cond (eqb k 0x14) (Some (add_w w a b))
    (cond (eqb k 0x15) (Some (sub_w w a b))
    (cond (eqb k 0x16) (Some (mul_w w a b))
    (cond (eqb k 0x17) (Some (bit_and a b))
    (cond (eqb k 0x18) (Some (bit_or a b))
    (cond (eqb k 0x19) (Some (bit_xor a b))
    (cond (eqb k 0x1A) (Some (andc_w w a b))
    (cond (eqb k 0x1B) (Some (orc_w w a b))
    (cond (eqb k 0x1C) (Some (eqv_w w a b))
    (cond (eqb k 0x1D) (Some (nand_w w a b))
    (Some (nor_w w a b)))))))))))

-- 1F to 22: "divs, divu, rems, remu (in 000: div, divu, rem, remu): d, a, b"
unfoldable pub divide_of : ℕ → ℕ → ℕ → ℕ → Option ℕ
divide_of w k a b =
    cond (eqb k 0x1F) (by_signed w a b (divs_w w a b))
    (cond (eqb k 0x20) (by_divisor b (a / b))
    (cond (eqb k 0x21) (by_signed w a b (rems_w w a b))
    (by_divisor b (a % b))))

-- 23 to 27: "shl, shr, sar, rotl, rotr: d, a, b"
unfoldable pub shift_of : ℕ → ℕ → ℕ → ℕ → Option ℕ
shift_of w k a b =
    cond (eqb k 0x23) (by_count w b (shl_w w a b))
    (cond (eqb k 0x24) (by_count w b (shr_w w a b))
    (cond (eqb k 0x25) (by_count w b (sar_w w a b))
    (cond (eqb k 0x26) (by_count w b (rotl_w w a b))
    (by_count w b (rotr_w w a b)))))

-- 28: "setcond: d, a, b, cond", 1 where the condition holds, else 0
unfoldable pub setcond_of : ℕ → ℕ → ℕ → ℕ → Option ℕ
setcond_of w c a b = Some (cond (cond_w w c a b) 1 0)

-- 29: "movcond: d, c1, c2, v1, v2, cond", v1 where the condition holds of c1 and c2, else v2
unfoldable pub movcond_of : ℕ → ℕ → ℕ → ℕ → ℕ → ℕ → Option ℕ
movcond_of w c c1 c2 v1 v2 = Some (cond (cond_w w c c1 c2) v1 v2)

-- 2D: "deposit_i32/i64 dest, t1, t2, pos, len"
unfoldable pub deposit_of : ℕ → ℕ → ℕ → ℕ → ℕ → Option ℕ
deposit_of w pos len a b = by_field w pos len (deposit_w w pos len a b)

-- 2E, 2F: "extract_i32/i64 dest, t1, pos, len", "sextract_i32/i64 dest, t1, pos, len"
unfoldable pub extract_of : ℕ → ℕ → ℕ → ℕ → ℕ → Option ℕ
extract_of w k pos len a = cond (eqb k 0x2E) (by_field w pos len (extract_w pos len a)) (by_field w pos len (sextract_w w pos len a))

-- 30: "extract2_i32/i64 dest, t1, t2, pos"
unfoldable pub extract2_of : ℕ → ℕ → ℕ → ℕ → Option ℕ
extract2_of w pos a b = by_position w pos (extract2_w w pos a b)

-- 31, 32, 33: "bswap16_i32/i64 t0, t1, flags", "bswap32_i64 t0, t1, flags", "bswap32_i32 t0, t1, flags", "bswap64_i64 t0, t1, flags", of so many
-- bytes; no result is stated where these are more than the width has
abbrev pub swapped_bytes : ℕ → ℕ
swapped_bytes k = cond (eqb k 0x31) 2 (cond (eqb k 0x32) 4 8)

unfoldable pub swap_of : ℕ → ℕ → ℕ → ℕ → Option ℕ
swap_of w k flags a = let n = swapped_bytes k in cond (leb (8 * n) w) (by_input n flags a (bswap_w w n flags a)) None

-- 34, 35: "clz_i32/i64 t0, t1, t2", "ctz_i32/i64 t0, t1, t2"
unfoldable pub count_of : ℕ → ℕ → ℕ → ℕ → Option ℕ
count_of w k a b = cond (eqb k 0x34) (Some (clz_w w a b)) (Some (ctz_w w a b))

-- 36: "ctpop_i32/i64 t0, t1"
unfoldable pub ctpop_of : ℕ → ℕ → Option ℕ
ctpop_of w a = Some (ctpop_w w a)
