-- High halves, as the code takes them. Assumes nothing.
use mathlib.Core.Path.{◌≡◌, sym, ◌∙◌}
use Prim.Native.Nat.{ℕ, ◌+◌, ◌-◌, ◌*◌, ◌/◌, ◌%◌, ◌^◌, ◌≤◌, ◌<◌}
use native.Mathlib.Nat.{mod-add-mod, mod-eq_of_lt, div-eq_of_lt, add-div_right}
use native.Mathlib.Omega.{arith}
use lib.Pow.{pow_pos}
use Rattle.word.specs.Word.{add_w, sub_w}
use Rattle.word.specs.Double.{high_w, add2_w, sub2_w, mulu2_w, muluh_w, mulsh_w, carry_w, borrow_w, taken_w}
use Rattle.word.proofs.Double.{add2_high_lem, sub2_high_lem, muluh_fits, mulsh_by}

pub of_sum : (w al ah bl bh : ℕ) → add_w w (add_w w ah bh) (carry_w w al bl) ≡ high_w w (add2_w w al ah bl bh)
of_sum w al ah bl bh = mod-add-mod _ _ _ ∙ sym (add2_high_lem w al ah bl bh)

pub of_difference : (w al ah bl bh : ℕ) → al < 2 ^ w → bl < 2 ^ w → bh < 2 ^ w → sub_w w (sub_w w ah bh) (borrow_w al bl) ≡ high_w w (sub2_w w al ah bl bh)
of_difference w al ah bl bh ha hl hh = sym (sub2_high_lem w al ah bl bh ha hl hh)

pub of_product : (w a b : ℕ) → a < 2 ^ w → b < 2 ^ w → a * b / 2 ^ w % 2 ^ w ≡ muluh_w w a b
unfolding muluh_w mulu2_w
of_product w a b ha hb = mod-eq_of_lt (muluh_fits w a b ha hb)

pub of_signed : (w a b : ℕ) → a < 2 ^ w → b < 2 ^ w → sub_w w (sub_w w (muluh_w w a b) (taken_w w a b)) (taken_w w b a) ≡ mulsh_w w a b
of_signed w a b ha hb = sym (mulsh_by w a b ha hb)

-- a sum passes the width, or does not
pub of_carry : (w a b : ℕ) → a < 2 ^ w → b < 2 ^ w → (2 ^ w - 1) - a < b → 1 % 2 ^ w ≡ carry_w w a b
of_carry w a b ha hb h =
    let z : (a + b - 2 ^ w) / 2 ^ w ≡ 0 = div-eq_of_lt (omega arith) in
    let e : a + b ≡ (a + b - 2 ^ w) + 2 ^ w = omega arith in
    let one : 1 < 2 ^ w = omega arith in
    mod-eq_of_lt one ∙ rw e (omega (arith, add-div_right (a + b - 2 ^ w) (pow_pos w), z))

pub of_none : (w a b : ℕ) → a < 2 ^ w → b ≤ (2 ^ w - 1) - a → 0 % 2 ^ w ≡ carry_w w a b
of_none w a b ha h = mod-eq_of_lt (pow_pos w) ∙ sym (div-eq_of_lt (omega arith))
