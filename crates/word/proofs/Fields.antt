-- The bit law of the field ops, over width, position and length. Assumes nothing.
use mathlib.Core.Path.{◌≡◌, refl, sym, ap, ap₂, ◌∙◌, subst}
use mathlib.Core.Bool.{Bool, cond, ◌&&◌}
use Prim.Native.Nat.{ℕ, suc, ◌+◌, ◌-◌, ◌*◌, ◌/◌, ◌^◌, ◌≤◌, ◌<◌}
use native.Mathlib.Nat.{add_comm, one-mul, le-div_iff_mul-le, sub-add_cancel, lt_of_lt_of_le}
use native.Mathlib.Omega.{arith}
use lib.Dec.{ltb, leb}
use lib.Bits.{bit_and, bit_or, and_zero_r, or_zero_l, or_zero_r}
use lib.Pow.{pow_pos, pow_mono, shl_lt, shr_lt, ones_lt, high_ones}
use borrow.Author.Tests.{ltb-true, ltb-false, leb-true, leb-false, lt-ltb}
use Rattle.word.specs.Word.{andc_w, shl_w, not_w, extend_w}
use Rattle.word.specs.Fields.{field_mask, deposit_w, extract_w, sextract_w, extract2_w, bit_at, BitLaw, Extract2Law}
use Rattle.word.proofs.Tests.{cond_told, cond_both}
use Rattle.word.proofs.Fits.{mod_fits}
use Rattle.word.proofs.Bits.{bit_mod, bit_low, bit_high, bit_over, bit_shr, bit_shl, bit_shl_low, bit_and_lem, bit_or_lem, and_bit, bit_not, bit_ones}

-- a position from k on
from : {k i : ℕ} → k ≤ i → k + (i - k) ≡ i
from l = omega arith

-- the bits of a mask
module _ (pos len i : ℕ) where
  mask_in : pos ≤ i → i < pos + len → bit_at (field_mask pos len) i ≡ 1
  mask_in l h = subst (λ (j : ℕ). bit_at (field_mask pos len) j ≡ 1) (from l) (bit_shl (2 ^ len - 1) pos (i - pos) ∙ bit_ones len (i - pos) (omega arith))

  mask_below : i < pos → bit_at (field_mask pos len) i ≡ 0
  mask_below l = bit_shl_low (2 ^ len - 1) pos i l

  mask_above : pos + len ≤ i → bit_at (field_mask pos len) i ≡ 0
  mask_above l = subst (λ (j : ℕ). bit_at (field_mask pos len) j ≡ 0) (from {k = pos} {i = i} (omega arith)) (bit_shl (2 ^ len - 1) pos (i - pos) ∙ bit_over (i - pos) (ones_lt len) (omega arith))

pub mask_fits : (w pos len : ℕ) → pos + len ≤ w → field_mask pos len < 2 ^ w
mask_fits w pos len h = lt_of_lt_of_le (shl_lt len pos (ones_lt len)) (pow_mono (omega arith))

-- a bit of what a mask m picks from s, and leaves of a
module _ (w a s m i : ℕ) (fits : m < 2 ^ w) (l : i < w) where
  abbrev picked : ℕ
  picked = bit_or (andc_w w a m) (bit_and s m)

  parts : bit_at picked i ≡ bit_or (bit_and (bit_at a i) (1 - bit_at m i)) (bit_and (bit_at s i) (bit_at m i))
  parts =
      bit_or_lem (andc_w w a m) (bit_and s m) i
      ∙ ap₂ bit_or (bit_and_lem a (not_w w m) i ∙ ap (bit_and (bit_at a i)) (bit_not m w i fits l)) (bit_and_lem s m i)

  picks : bit_at m i ≡ 1 → bit_at picked i ≡ bit_at s i
  picks e =
      parts ∙ ap (λ (x : ℕ). bit_or (bit_and (bit_at a i) (1 - x)) (bit_and (bit_at s i) x)) e
      ∙ ap₂ bit_or (and_zero_r (bit_at a i)) (and_bit s i) ∙ or_zero_l (bit_at s i)

  leaves : bit_at m i ≡ 0 → bit_at picked i ≡ bit_at a i
  leaves e =
      parts ∙ ap (λ (x : ℕ). bit_or (bit_and (bit_at a i) (1 - x)) (bit_and (bit_at s i) x)) e
      ∙ ap₂ bit_or (and_bit a i) (and_zero_r (bit_at s i)) ∙ or_zero_r (bit_at a i)

deposit_bit : (w pos len a b i : ℕ) → pos + len ≤ w → i < w → bit_at (deposit_w w pos len a b) i ≡ cond (leb pos i && ltb i (pos + len)) (bit_at b (i - pos)) (bit_at a i)
unfolding deposit_w
deposit_bit w pos len a b i end l =
    let m = field_mask pos len in
    let fits = mask_fits w pos len end in
    cond_both (λ (x : ℕ). bit_at (deposit_w w pos len a b) i ≡ x) (leb pos i) (ltb i (pos + len))
    (λ p q.
    let here : pos ≤ i = leb-true pos i p in
    picks w a (shl_w w b pos) m i fits l (mask_in pos len i here (ltb-true i (pos + len) q))
    ∙ bit_mod (b * 2 ^ pos) w i l ∙ subst (λ (j : ℕ). bit_at (b * 2 ^ pos) j ≡ bit_at b (i - pos)) (from here) (bit_shl b pos (i - pos)))
    (λ p. leaves w a (shl_w w b pos) m i fits l (mask_below pos len i (leb-false pos i p)))
    (λ q. leaves w a (shl_w w b pos) m i fits l (mask_above pos len i (ltb-false i (pos + len) q)))

extract_bit : (pos len a i : ℕ) → bit_at (extract_w pos len a) i ≡ cond (ltb i len) (bit_at a (i + pos)) 0
unfolding extract_w
extract_bit pos len a i =
    cond_told (λ (x : ℕ). bit_at (extract_w pos len a) i ≡ x) (ltb i len)
    (λ t. bit_mod (a / 2 ^ pos) len i (ltb-true i len t) ∙ bit_shr a pos i ∙ ap (bit_at a) (add_comm pos i))
    (λ t. bit_over i (mod_fits len (a / 2 ^ pos)) (ltb-false i len t))

pub extract_fits : (pos len a : ℕ) → extract_w pos len a < 2 ^ len
unfolding extract_w
extract_fits pos len a = mod_fits len (a / 2 ^ pos)

-- the top bit of a number of n + 1 bits
top_zero : {x : ℕ} (n : ℕ) → x < 2 ^ n → bit_at x n ≡ 0
top_zero n h = bit_over n h (omega arith)

pub top_one : {x : ℕ} (n : ℕ) → x < 2 ^ suc n → 2 ^ n ≤ x → bit_at x n ≡ 1
top_one {x} n h l =
    let q = x / 2 ^ n in
    let e : 1 + n ≡ suc n = omega arith in
    let above : q < 2 = shr_lt 1 n (subst (λ (m : ℕ). x < 2 ^ m) (sym e) h) in
    let below : 1 ≤ q = (le-div_iff_mul-le (pow_pos n)).1 (rw (one-mul (2 ^ n)) l) in
    omega (arith, above, below)

-- x of len bits, read as signed: copies of its top bit above it
module _ (w len x i : ℕ) (some-bit : 0 < len) (long : len ≤ w) (fits : x < 2 ^ len) (l : i < w) where
  abbrev n : ℕ
  n = len - 1

  extended_bit : bit_at (extend_w len w x) i ≡ cond (ltb i len) (bit_at x i) (bit_at x (len - 1))
  unfolding extend_w
  extended_bit =
      cond_told (λ (y : ℕ). bit_at y i ≡ cond (ltb i len) (bit_at x i) (bit_at x n)) (ltb x (2 ^ n))
      (λ t. cond_told (λ (y : ℕ). bit_at x i ≡ y) (ltb i len) (λ u. refl)
      (λ u. bit_over i fits (ltb-false i len u) ∙ sym (top_zero n (ltb-true x (2 ^ n) t))))
      (λ t.
      let up : x + (2 ^ w - 2 ^ len) ≡ (2 ^ (w - len) - 1) * 2 ^ len + x =
      add_comm x (2 ^ w - 2 ^ len) ∙ ap (λ (y : ℕ). y + x) (subst (λ (m : ℕ). 2 ^ m - 2 ^ len ≡ (2 ^ (w - len) - 1) * 2 ^ len) (sub-add_cancel long) (high_ones (w - len) len)) in
      let e : suc n ≡ len = omega arith in
      ap (λ (y : ℕ). bit_at y i) up
      ∙ cond_told (λ (y : ℕ). bit_at ((2 ^ (w - len) - 1) * 2 ^ len + x) i ≡ y) (ltb i len)
      (λ u. bit_low (2 ^ (w - len) - 1) x len i fits (ltb-true i len u))
      (λ u.
      let over : len ≤ i = ltb-false i len u in
      subst (λ (j : ℕ). bit_at ((2 ^ (w - len) - 1) * 2 ^ len + x) j ≡ 1) (from over)
      (bit_high (2 ^ (w - len) - 1) x len (i - len) fits ∙ bit_ones (w - len) (i - len) (omega arith))
      ∙ sym (top_one n (subst (λ (m : ℕ). x < 2 ^ m) (sym e) fits) (ltb-false x (2 ^ n) t))))

sextract_bit : (w pos len a i : ℕ) → 0 < len → pos + len ≤ w → i < w
    → bit_at (sextract_w w pos len a) i ≡ cond (ltb i len) (bit_at a (i + pos)) (bit_at a (pos + len - 1))
unfolding sextract_w
sextract_bit w pos len a i some-bit end l =
    let x = extract_w pos len a in
    let top : bit_at x (len - 1) ≡ bit_at a (pos + len - 1) =
    extract_bit pos len a (len - 1) ∙ ap (λ (t : Bool). cond t (bit_at a (len - 1 + pos)) 0) (lt-ltb (len - 1) len (omega arith)) ∙ ap (bit_at a) (omega arith) in
    extended_bit w len x i some-bit (omega arith) (extract_fits pos len a) l
    ∙ cond_told (λ (y : ℕ). cond (ltb i len) (bit_at x i) (bit_at x (len - 1)) ≡ y) (ltb i len)
    (λ t. ap (λ (b : Bool). cond b (bit_at x i) (bit_at x (len - 1))) t ∙ extract_bit pos len a i ∙ ap (λ (b : Bool). cond b (bit_at a (i + pos)) 0) t)
    (λ t. ap (λ (b : Bool). cond b (bit_at x i) (bit_at x (len - 1))) t ∙ top)

pub bit_law : (w pos len : ℕ) → 0 < len → pos + len ≤ w → BitLaw w pos len
bit_law w pos len some-bit end =
    record {
      deposit = λ a b i h l. deposit_bit w pos len a b i end l;
      extract = extract_bit pos len;
      sextract = λ a i l. sextract_bit w pos len a i some-bit end l;
    }

pub extract2_law : (w pos : ℕ) → Extract2Law w pos
unfolding extract2_w
extract2_law w pos = record { extract2 = go }
  where
    go : (a b i : ℕ) → a < 2 ^ w → i < w → bit_at (extract2_w w pos a b) i ≡ cond (ltb (i + pos) w) (bit_at a (i + pos)) (bit_at b (i + pos - w))
    go a b i h l =
        let n = b * 2 ^ w + a in
        bit_mod (n / 2 ^ pos) w i l ∙ bit_shr n pos i ∙ ap (bit_at n) (add_comm pos i)
        ∙ cond_told (λ (x : ℕ). bit_at n (i + pos) ≡ x) (ltb (i + pos) w)
        (λ t. bit_low b a w (i + pos) h (ltb-true (i + pos) w t))
        (λ t. subst (λ (j : ℕ). bit_at n j ≡ bit_at b (i + pos - w)) (from (ltb-false (i + pos) w t)) (bit_high b a w (i + pos - w) h))
