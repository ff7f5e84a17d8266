-- Double-word arithmetic by its single words, over the width. Assumes nothing.
use mathlib.Core.Path.{◌≡◌, refl, sym, ap, ◌∙◌}
use mathlib.Core.Bool.{Bool, true, false, cond}
use Prim.Native.Nat.{ℕ, zero, suc, ◌+◌, ◌-◌, ◌*◌, ◌/◌, ◌%◌, ◌^◌, ◌<◌, zero-le, suc-le-suc}
use native.Mathlib.Nat.{add_comm, add_assoc, mul_comm, mul-add, add-mul, two-mul, sub-zero}
use native.Mathlib.Nat.{mod-lt, mod_self, mod-eq_of_lt, mod-add-mod, add-mod_right, add-mul-mod_self_left, div-eq_of_lt, add-div_right, add-mul-div_left}
use native.Mathlib.Omega.{arith}
use lib.Dec.{ltb}
use lib.IntN.{pos, negsuc, neg_ℤ, ◌*ℤ◌}
use lib.Pow.{pow-add, pow_pos, pow-sub-lt, field, mod-mod-pow, shr_lt}
use mir.Val.{sel}
use borrow.Author.Tests.{ltb-true, ltb-false}
use Rattle.word.specs.Word.{add_w, sub_w, mul_w, bits_w}
use Rattle.word.specs.Double.{double_w, low_w, high_w, add2_w, sub2_w, mulu2_w, muls2_w, muluh_w, mulsh_w, carry_w, borrow_w, taken_w}
use Rattle.word.proofs.Tests.{cond_told}
use Rattle.word.proofs.Product.{below}

twice : (w : ℕ) → 2 ^ (2 * w) ≡ 2 ^ (w + w)
twice w = ap (2 ^◌) (two-mul w)

-- what wraps at the double width: its low word, and its high one, which fits the width
module _ (w : ℕ) where
  low_of : (x y : ℕ) → low_w w ((x + 2 ^ w * y) % 2 ^ (2 * w)) ≡ x % 2 ^ w
  low_of x y = rw (twice w) (mod-mod-pow (x + 2 ^ w * y) w w) ∙ add-mul-mod_self_left x (2 ^ w) y

  high_of : (x y : ℕ) → high_w w ((x + 2 ^ w * y) % 2 ^ (2 * w)) ≡ (x / 2 ^ w + y) % 2 ^ w
  high_of x y = rw (twice w) (field (x + 2 ^ w * y) w w) ∙ ap (λ (n : ℕ). n % 2 ^ w) (add-mul-div_left x y (pow_pos w))

  high_fits : (x : ℕ) → high_w w (x % 2 ^ (2 * w)) < 2 ^ w
  high_fits x = rw (twice w) (shr_lt w w (mod-lt x (pow_pos (w + w))))

-- sums: the carry law
summed : (w al ah bl bh : ℕ) → double_w w al ah + double_w w bl bh ≡ (al + bl) + 2 ^ w * (ah + bh)
summed w al ah bl bh = rw (mul-add (2 ^ w) ah bh) (omega arith)

pub add2_low : (w al ah bl bh : ℕ) → low_w w (add2_w w al ah bl bh) ≡ add_w w al bl
unfolding add2_w
add2_low w al ah bl bh = rw (summed w al ah bl bh) (low_of w (al + bl) (ah + bh))

pub add2_high_lem : (w al ah bl bh : ℕ) → high_w w (add2_w w al ah bl bh) ≡ (ah + bh + carry_w w al bl) % 2 ^ w
unfolding add2_w
add2_high_lem w al ah bl bh =
    rw (summed w al ah bl bh) (high_of w (al + bl) (ah + bh)) ∙ ap (λ (n : ℕ). n % 2 ^ w) (add_comm ((al + bl) / 2 ^ w) (ah + bh))

-- differences: the borrow law
differed : (w al ah bl bh : ℕ) → bl < 2 ^ w → bh < 2 ^ w
    → double_w w al ah + (2 ^ (2 * w) - double_w w bl bh) ≡ (al + (2 ^ w - bl)) + 2 ^ w * (ah + (2 ^ w - suc bh))
differed w al ah bl bh hl hh =
    let d = 2 ^ w - suc bh in
    let e : 2 ^ (2 * w) ≡ 2 ^ w * bh + 2 ^ w * d + 2 ^ w =
    twice w ∙ pow-add 2 w w ∙ ap (λ (n : ℕ). 2 ^ w * n) (omega arith) ∙ mul-add (2 ^ w) (bh + d) 1 ∙ rw (mul-add (2 ^ w) bh d) (omega arith) in
    rw (mul-add (2 ^ w) ah d) (omega arith)

pub sub2_low : (w al ah bl bh : ℕ) → bl < 2 ^ w → bh < 2 ^ w → low_w w (sub2_w w al ah bl bh) ≡ sub_w w al bl
unfolding sub2_w
sub2_low w al ah bl bh hl hh = rw (differed w al ah bl bh hl hh) (low_of w (al + (2 ^ w - bl)) (ah + (2 ^ w - suc bh)))

-- either the low words' difference, wrapped, passes the width, or it borrows
borrowed : (w a b : ℕ) → a < 2 ^ w → b < 2 ^ w → (a + (2 ^ w - b)) / 2 ^ w + borrow_w a b ≡ 1
borrowed w a b ha hb =
    cond_told (λ (n : ℕ). (a + (2 ^ w - b)) / 2 ^ w + n ≡ 1) (ltb a b)
    (λ t. let l = ltb-true a b t in ap (λ (n : ℕ). n + 1) (div-eq_of_lt (omega arith)))
    (λ t. let l = ltb-false a b t in
    let z : (a - b) / 2 ^ w ≡ 0 = div-eq_of_lt (omega arith) in
    let e : a + (2 ^ w - b) ≡ (a - b) + 2 ^ w = omega arith in
    rw e (omega (arith, add-div_right (a - b) (pow_pos w))))

pub sub2_high_lem : (w al ah bl bh : ℕ) → al < 2 ^ w → bl < 2 ^ w → bh < 2 ^ w → high_w w (sub2_w w al ah bl bh) ≡ sub_w w (sub_w w ah bh) (borrow_w al bl)
unfolding sub2_w
sub2_high_lem w al ah bl bh ha hl hh =
    let b = borrowed w al bl ha hl in
    rw (differed w al ah bl bh hl hh) (high_of w (al + (2 ^ w - bl)) (ah + (2 ^ w - suc bh)))
    ∙ sym (add-mod_right ((al + (2 ^ w - bl)) / 2 ^ w + (ah + (2 ^ w - suc bh))) (2 ^ w))
    ∙ ap (λ (n : ℕ). n % 2 ^ w) (omega arith)
    ∙ sym (mod-add-mod (ah + (2 ^ w - bh)) (2 ^ w) (2 ^ w - borrow_w al bl))

-- unsigned products
pub mulu2_low : (w a b : ℕ) → low_w w (mulu2_w w a b) ≡ mul_w w a b
unfolding mulu2_w
mulu2_low w a b = refl

mulu2_high_fits : (w a b : ℕ) → a < 2 ^ w → b < 2 ^ w → high_w w (mulu2_w w a b) < 2 ^ w
unfolding mulu2_w
mulu2_high_fits w a b ha hb = shr_lt w w (below w ha hb)

pub muluh_fits : (w a b : ℕ) → a < 2 ^ w → b < 2 ^ w → muluh_w w a b < 2 ^ w
unfolding muluh_w
muluh_fits w a b ha hb = mulu2_high_fits w a b ha hb

-- the bits of a number that is not positive
neg_bits : (w n : ℕ) → bits_w w (neg_ℤ (pos n)) ≡ (2 ^ w - n) % 2 ^ w
neg_bits w zero = sym (ap (λ (n : ℕ). n % 2 ^ w) (sub-zero (2 ^ w)) ∙ mod_self (2 ^ w))
neg_bits w (suc n) = sym (mod-eq_of_lt (pow-sub-lt w (suc-le-suc zero-le)))

-- signed products: the unsigned one, less in the high word what each sign takes
abbrev less : ℕ → ℕ → ℕ → ℕ
less w a b = (2 ^ w - taken_w w a b) + (2 ^ w - taken_w w b a)

signed : (w a b : ℕ) → a < 2 ^ w → b < 2 ^ w → muls2_w w a b ≡ (a * b + 2 ^ w * less w a b) % 2 ^ (2 * w)
unfolding muls2_w
signed w a b ha hb = rw (mul-add (2 ^ w) (2 ^ w - taken_w w a b) (2 ^ w - taken_w w b a)) (go (ltb a (2 ^ (w - 1))) (ltb b (2 ^ (w - 1))) refl refl)
  where
    c : ℕ
    c = 2 ^ w - a

    d : ℕ
    d = 2 ^ w - b

    Q : ℕ
    Q = 2 ^ (2 * w)

    square : Q ≡ 2 ^ w * 2 ^ w
    square = twice w ∙ pow-add 2 w w

    full : 2 ^ w * (2 ^ w - 0) ≡ Q
    full = ap (λ (n : ℕ). 2 ^ w * n) (sub-zero (2 ^ w)) ∙ sym square

    by_d : 2 ^ w * d ≡ a * d + c * d
    by_d = ap (λ (n : ℕ). n * d) (omega arith) ∙ add-mul a c d

    by_c : 2 ^ w * c ≡ c * b + c * d
    by_c = mul_comm (2 ^ w) c ∙ ap (λ (n : ℕ). c * n) (omega arith) ∙ mul-add c b d

    whole : Q ≡ 2 ^ w * d + (a * b + c * b)
    whole = square ∙ ap (λ (n : ℕ). 2 ^ w * n) (omega arith) ∙ mul-add (2 ^ w) d b ∙ ap (λ (n : ℕ). 2 ^ w * d + n) (ap (λ (n : ℕ). n * b) (omega arith) ∙ add-mul a c b)

    small : {x y : ℕ} → x < 2 ^ w → y < 2 ^ w → (x * y) % Q ≡ x * y
    small hx hy = mod-eq_of_lt (rw (twice w) (below w hx hy))

    wrapped : (x : ℕ) {y : ℕ} → y ≡ x + Q → x % Q ≡ y % Q
    wrapped x e = sym (ap (λ (n : ℕ). n % Q) e ∙ add-mod_right x Q)

    flip : {x : ℕ} → x < 2 ^ w → suc (2 ^ w - suc x) ≡ 2 ^ w - x
    flip h = omega arith

    go : (s t : Bool) → ltb a (2 ^ (w - 1)) ≡ s → ltb b (2 ^ (w - 1)) ≡ t
        → bits_w (2 * w) (sel s (pos a) (negsuc (2 ^ w - suc a)) *ℤ sel t (pos b) (negsuc (2 ^ w - suc b)))
        ≡ (a * b + (2 ^ w * (2 ^ w - cond s 0 b) + 2 ^ w * (2 ^ w - cond t 0 a))) % Q
    go true true p q = sym (small ha hb) ∙ wrapped (a * b) refl ∙ wrapped (a * b + Q) (omega (arith, full))
    go true false p q = ap (λ (n : ℕ). bits_w (2 * w) (neg_ℤ (pos (a * n)))) (flip hb) ∙ neg_bits (2 * w) (a * d) ∙ wrapped (Q - a * d) (omega (arith, full, by_c, by_d, whole))
    go false true p q = ap (λ (n : ℕ). bits_w (2 * w) (neg_ℤ (pos (n * b)))) (flip ha) ∙ neg_bits (2 * w) (c * b) ∙ wrapped (Q - c * b) (omega (arith, full, by_d, whole))
    go false false p q =
        let z = pow_pos (w - 1) in
        let la = ltb-false a (2 ^ (w - 1)) p in
        let lb = ltb-false b (2 ^ (w - 1)) q in
        (λ i. flip ha i * flip hb i) ∙ sym (small (omega arith) (omega arith)) ∙ wrapped (c * d) (omega (arith, by_d, by_c, whole))

pub muls2_low : (w a b : ℕ) → a < 2 ^ w → b < 2 ^ w → low_w w (muls2_w w a b) ≡ mul_w w a b
muls2_low w a b ha hb = rw (signed w a b ha hb) (low_of w (a * b) (less w a b))

muls2_high_fits : (w a b : ℕ) → a < 2 ^ w → b < 2 ^ w → high_w w (muls2_w w a b) < 2 ^ w
muls2_high_fits w a b ha hb = rw (signed w a b ha hb) (high_fits w (a * b + 2 ^ w * less w a b))

pub mulsh_fits : (w a b : ℕ) → a < 2 ^ w → b < 2 ^ w → mulsh_w w a b < 2 ^ w
unfolding mulsh_w
mulsh_fits w a b ha hb = muls2_high_fits w a b ha hb

pub mulsh_by : (w a b : ℕ) → a < 2 ^ w → b < 2 ^ w → mulsh_w w a b ≡ sub_w w (sub_w w (muluh_w w a b) (taken_w w a b)) (taken_w w b a)
unfolding mulsh_w muluh_w mulu2_w
mulsh_by w a b ha hb =
    rw (signed w a b ha hb) (high_of w (a * b) (less w a b))
    ∙ ap (λ (n : ℕ). n % 2 ^ w) (sym (add_assoc (a * b / 2 ^ w) (2 ^ w - taken_w w a b) (2 ^ w - taken_w w b a)))
    ∙ sym (mod-add-mod (a * b / 2 ^ w + (2 ^ w - taken_w w a b)) (2 ^ w) (2 ^ w - taken_w w b a))
