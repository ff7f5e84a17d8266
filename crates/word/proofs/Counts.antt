-- The counts are the language's, over the width. Assumes nothing.
use mathlib.Core.Path.{◌≡◌, refl, sym, ap, ap₂, ◌∙◌, subst}
use mathlib.Core.Bool.{Bool, true, false, cond}
use Prim.Native.Nat.{ℕ, zero, suc, ◌+◌, ◌*◌, ◌/◌, ◌%◌, ◌^◌, ◌≤◌, ◌<◌}
use native.Mathlib.Nat.{add-zero, mod-lt, div-one, mod-eq_of_lt, pos_of_ne-zero, lt_of_le_of_lt}
use native.Mathlib.Omega.{arith}
use lib.Count.{ones, ones_cat, ones-le, count_leading_zeros, leading_top, count_trailing_zeros, trailing_le, under}
use lib.Dec.{eqb, lit<}
use lib.Pow.{pow_pos, mod-pow-add, shr-shr}
use borrow.Author.Tests.{eqb-true, eqb-false, eq-eqb, ne_eqb}
use Rattle.word.specs.Fields.{bit_at}
use Rattle.word.specs.Swaps.{highest_one, lowest_one, ones_among, clz_w, ctz_w, ctpop_w}
use Rattle.word.proofs.Tests.{cond_told}
use Rattle.word.proofs.Bits.{bit_over}
use Rattle.word.proofs.Fields.{top_one}

-- the highest one of a number of j + 1 bits
highest_is : (n j a : ℕ) → 2 ^ j ≤ a → a < 2 ^ suc j → j < n → highest_one n a ≡ j
unfolding highest_one
highest_is zero j a l h b = absurd (omega arith)
highest_is (suc n) j a l h b = go (λ c. highest_is n j a l h c) (eqb n j) refl
  where
    go : (j < n → highest_one n a ≡ j) → (t : Bool) → eqb n j ≡ t → cond (eqb (bit_at a n) 1) n (highest_one n a) ≡ j
    go rest true t =
        let e : n ≡ j = eqb-true n j t in
        ap (λ (x : Bool). cond x n (highest_one n a)) (eq-eqb (bit_at a n) 1 (subst (λ (k : ℕ). bit_at a k ≡ 1) (sym e) (top_one j h l))) ∙ e
    go rest false t =
        let c : j < n = omega (arith, eqb-false n j t) in
        ap (λ (x : ℕ). cond (eqb x 1) n (highest_one n a)) (bit_over n h c) ∙ rest c

-- "clz, ctz and ctpop from 000 (02): the language's leading, trailing and one counts, with the zero input handled apart"
pub leading : (w a b : ℕ) → a < 2 ^ w → (a ≡ 0 → ⊥) → count_leading_zeros w a ≡ clz_w w a b
unfolding clz_w
leading w a b h n =
    let (j, e, l, u) = leading_top w a (pos_of_ne-zero n) h in
    rw (ne_eqb a 0 n, highest_is w j a l u (omega (arith, e))) (omega (arith, e))

pub leading_none : (w a b : ℕ) → a ≡ 0 → b ≡ clz_w w a b
unfolding clz_w
leading_none w a b e = rw (eq-eqb a 0 e)

-- the lowest one from bit i on
lowest_is : (n i a : ℕ) → lowest_one n i a ≡ i + count_trailing_zeros n (a / 2 ^ i)
unfolding lowest_one count_trailing_zeros
lowest_is zero i a = sym (add-zero i)
lowest_is (suc n) i a = go (lowest_is n (suc i) a) (bit_at a i) refl (mod-lt (a / 2 ^ i) (lit< tt))
  where
    halved : a / 2 ^ i / 2 ≡ a / 2 ^ suc i
    halved = let e : i + 1 ≡ suc i = omega arith in shr-shr a i 1 ∙ ap (λ (k : ℕ). a / 2 ^ k) e

    go : lowest_one n (suc i) a ≡ suc i + count_trailing_zeros n (a / 2 ^ suc i) → (b : ℕ) → bit_at a i ≡ b → b < 2
        → cond (eqb (bit_at a i) 1) i (lowest_one n (suc i) a) ≡ i + under (bit_at a i) (count_trailing_zeros n (a / 2 ^ i / 2))
    go rest zero e l = rw (e, halved) (rest ∙ omega arith)
    go rest (suc zero) e l = rw e (sym (add-zero i))
    go rest (suc (suc b)) e l = absurd (omega arith)

pub trailing : (w a b : ℕ) → (a ≡ 0 → ⊥) → count_trailing_zeros w a ≡ ctz_w w a b
unfolding ctz_w
trailing w a b n = rw (ne_eqb a 0 n, lowest_is w 0 a, div-one a) (omega arith)

pub trailing_none : (w a b : ℕ) → a ≡ 0 → b ≡ ctz_w w a b
unfolding ctz_w
trailing_none w a b e = rw (eq-eqb a 0 e)

-- the ones
bit_count : (x : ℕ) → ones (x % 2) ≡ x % 2
unfolding ones
bit_count x = go (x % 2) (mod-lt x (lit< tt))
  where
    go : (b : ℕ) → b < 2 → ones b ≡ b
    go zero l = refl
    go (suc zero) l = refl
    go (suc (suc b)) l = absurd (omega arith)

ones_among_lem : (n a : ℕ) → ones_among n a ≡ ones (a % 2 ^ n)
unfolding ones_among
ones_among_lem zero a = let e : a % 2 ^ 0 ≡ 0 = omega arith in rw e nothing
  where
    nothing : 0 ≡ ones 0
    nothing = sym (bit_count 0)
ones_among_lem (suc n) a =
    let e : 1 + n ≡ suc n = omega arith in
    let s : a % 2 ^ suc n ≡ bit_at a n * 2 ^ n + a % 2 ^ n = subst (λ (k : ℕ). a % 2 ^ k ≡ bit_at a n * 2 ^ n + a % 2 ^ n) e (mod-pow-add a 1 n) in
    ap₂ (λ (x y : ℕ). x + y) (sym (bit_count (a / 2 ^ n))) (ones_among_lem n a) ∙ sym (ones_cat n (bit_at a n) (a % 2 ^ n) (mod-lt a (pow_pos n))) ∙ ap ones (sym s)

pub counted_ones : (w a : ℕ) → a < 2 ^ w → ones a ≡ ctpop_w w a
unfolding ctpop_w
counted_ones w a h = ap ones (sym (mod-eq_of_lt h)) ∙ sym (ones_among_lem w a)

-- counts fit, at a width that is below its power
module _ (w a : ℕ) (h : a < 2 ^ w) (room : w < 2 ^ w) where
  pub clz_fits : (b : ℕ) → b < 2 ^ w → clz_w w a b < 2 ^ w
  unfolding clz_w
  clz_fits b l = cond_told (λ (x : ℕ). x < 2 ^ w) (eqb a 0) (λ t. l) (λ t. omega arith)

  pub ctz_fits : (b : ℕ) → b < 2 ^ w → ctz_w w a b < 2 ^ w
  unfolding ctz_w
  ctz_fits b l =
      cond_told (λ (x : ℕ). x < 2 ^ w) (eqb a 0) (λ t. l)
      (λ t. lt_of_le_of_lt (rw (lowest_is w 0 a) (omega (arith, trailing_le w (a / 2 ^ 0)))) room)

  pub ctpop_fits : ctpop_w w a < 2 ^ w
  ctpop_fits = lt_of_le_of_lt (rw (sym (counted_ones w a h)) (ones-le w a h)) room
