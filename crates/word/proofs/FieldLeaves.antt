-- Results of the field ops fit, and what their code computes, over width, position and length. Assumes nothing.
use mathlib.Core.Path.{◌≡◌, refl, sym, ap, ap₂, ◌∙◌, subst}
use mathlib.Core.Bool.{Bool, true, false, not, ◌&&◌}
use Rattle.std.specs.Prelude.{Option, None, Some}
use Rattle.std.proofs.lemmas.Option.{cond_some}
use Prim.Native.Nat.{ℕ, ◌+◌, ◌-◌, ◌*◌, ◌/◌, ◌%◌, ◌^◌, ◌≤◌, ◌<◌}
use native.Mathlib.Nat.{add-zero, add-mul, mul_assoc, mul-mod_left, mod-lt, lt_of_lt_of_le, lt_of_le_of_lt, div-one, mod-eq_of_lt}
use native.Mathlib.Omega.{arith}
use lib.Dec.{T, ltb, leb}
use lib.Bits.{bit_and, bit_or, and_lt, and_le_l, or_lt, or_shifted_r}
use lib.Pow.{split, pow_pos, pow_mono, pow-add, shr_lt, shl_exact, shl-shr, shr-shr, ones_lt, ones_split, high, low, field, mod-pow-add}
use borrow.Author.Tests.{ltb-true, leb-true, lt-ltb}
use Rattle.word.specs.Word.{shl_w, sar_w, extend_w, by_count}
use Rattle.word.specs.Fields.{field_ok, position_ok, by_field, by_position, field_mask, deposit_w, extract_w, sextract_w, extract2_w}
use Rattle.word.proofs.Tests.{on, off}
use Rattle.word.proofs.Fits.{mod_fits, andc_fits, shl_fits, extend_fits}
use Rattle.word.proofs.Fields.{mask_fits, extract_fits}
use Rattle.word.proofs.Widen.{sar_extends}

-- shifted down from above
shifted : {n : ℕ} (a b u k : ℕ) → b * 2 ^ (u + k) + a ≡ n → n / 2 ^ k ≡ b * 2 ^ u + a / 2 ^ k
shifted {n} a b u k e =
    let p : b * 2 ^ (u + k) ≡ b * 2 ^ u * 2 ^ k = ap (λ (x : ℕ). b * x) (pow-add 2 u k) ∙ sym (mul_assoc b (2 ^ u) (2 ^ k)) in
    let s : (b * 2 ^ u + a / 2 ^ k) * 2 ^ k + a % 2 ^ k ≡ n =
    ap (λ (x : ℕ). x + a % 2 ^ k) (add-mul (b * 2 ^ u) (a / 2 ^ k) (2 ^ k)) ∙ omega (arith, p, e, split a k) in
    ap (λ (x : ℕ). x / 2 ^ k) (sym s) ∙ high (b * 2 ^ u + a / 2 ^ k) k (mod-lt a (pow_pos k))

-- a field within the width, and a position
field_ends : (w pos len : ℕ) → field_ok w pos len ≡ true → (0 < len) × (pos + len ≤ w)
field_ends w pos len e = go (ltb 0 len) (leb (pos + len) w) refl refl e
  where
    go : (s t : Bool) → ltb 0 len ≡ s → leb (pos + len) w ≡ t → (s && t) ≡ true → (0 < len) × (pos + len ≤ w)
    go true true p q h = (ltb-true 0 len p, leb-true (pos + len) w q)
    go true false p q h = absurd (subst T (sym h) tt)
    go false t p q h = absurd (subst T (sym h) tt)

-- results fit
module _ (w pos len a : ℕ) (end : pos + len ≤ w) where
  pub deposit_fits : (b : ℕ) → a < 2 ^ w → deposit_w w pos len a b < 2 ^ w
  unfolding deposit_w
  deposit_fits b h = or_lt w _ _ (andc_fits w a (field_mask pos len) h) (and_lt w (shl_w w b pos) (field_mask pos len) (shl_fits w b pos) (mask_fits w pos len end))

  pub extracted_fits : extract_w pos len a < 2 ^ w
  extracted_fits = lt_of_lt_of_le (extract_fits pos len a) (pow_mono (omega arith))

  pub sextract_fits : sextract_w w pos len a < 2 ^ w
  unfolding sextract_w
  sextract_fits = extend_fits len w (extract_w pos len a) (omega arith) (extract_fits pos len a)

pub extract2_fits : (w pos a b : ℕ) → extract2_w w pos a b < 2 ^ w
unfolding extract2_w
extract2_fits w pos a b = mod_fits w ((b * 2 ^ w + a) / 2 ^ pos)

-- a stated result is the one computed, of a field within the width
pub field_states : (w pos len x y : ℕ) → by_field w pos len x ≡ Some y → (pos + len ≤ w) × (y ≡ x)
unfolding by_field
field_states w pos len x y e = let p = cond_some (field_ok w pos len) x y e in ((field_ends w pos len p.0).1, sym p.1)

pub position_states : (w pos x y : ℕ) → by_position w pos x ≡ Some y → y ≡ x
unfolding by_position
position_states w pos x y e = sym (cond_some (position_ok w pos) x y e).1

-- what the code's test for a field settles
module _ (w pos len : ℕ) {r : Bool} (e : r ≡ field_ok w pos len) where
  pub no_field : (v : ℕ) → not r ≡ true → None ≡ by_field w pos len v
  unfolding by_field
  no_field v t = rw (sym e ∙ off r t)

  pub has_field : {x v : ℕ} → not r ≡ false → x ≡ v → Some x ≡ by_field w pos len v
  unfolding by_field
  has_field t q = rw (sym e ∙ on r t, q)

  pub field_in : not r ≡ false → (0 < len) × (pos + len ≤ w)
  field_in t = field_ends w pos len (sym e ∙ on r t)

module _ (w pos : ℕ) {r : Bool} (e : r ≡ position_ok w pos) where
  pub no_position : (v : ℕ) → not r ≡ true → None ≡ by_position w pos v
  unfolding by_position
  no_position v t = rw (sym e ∙ off r t)

  pub has_position : {x v : ℕ} → not r ≡ false → x ≡ v → Some x ≡ by_position w pos v
  unfolding by_position
  has_position t q = rw (sym e ∙ on r t, q)

  pub position_in : not r ≡ false → pos ≤ w
  position_in t = leb-true pos w (sym e ∙ on r t)

-- the code of deposit: its parts fit; all ones, shifted down and up, are the mask
pub merged_fits : (w a m s n : ℕ) → a < 2 ^ w → s < 2 ^ w → bit_or (bit_and a m) (bit_and s n) < 2 ^ w
merged_fits w a m s n h l = or_lt w (bit_and a m) (bit_and s n) (lt_of_le_of_lt (and_le_l a m) h) (lt_of_le_of_lt (and_le_l s n) l)

pub masked : (w pos len : ℕ) → pos + len ≤ w → ((2 ^ w - 1) / 2 ^ (w - len) * 2 ^ pos) % 2 ^ w ≡ field_mask pos len
masked w pos len end =
    let e : len + (w - len) ≡ w = omega arith in
    let ones : (2 ^ w - 1) / 2 ^ (w - len) ≡ 2 ^ len - 1 =
    subst (λ (n : ℕ). (2 ^ n - 1) / 2 ^ (w - len) ≡ 2 ^ len - 1) e (ap (λ (x : ℕ). x / 2 ^ (w - len)) (ones_split len (w - len)) ∙ high (2 ^ len - 1) (w - len) (ones_lt (w - len))) in
    ap (λ (x : ℕ). (x * 2 ^ pos) % 2 ^ w) ones ∙ shl_exact len pos w (ones_lt len) (omega arith)

-- of extract: to the top, and down again
module _ (w pos len a : ℕ) (end : pos + len ≤ w) where
  abbrev down : ℕ
  down = w - len

  abbrev up : ℕ
  up = down - pos

  pub moved : shl_w w a up / 2 ^ down ≡ extract_w pos len a
  unfolding extract_w
  moved =
      let e : len + down ≡ w = omega arith in
      let d : down ≡ up + pos = omega arith in
      subst (λ (n : ℕ). (a * 2 ^ up) % 2 ^ n / 2 ^ down ≡ a / 2 ^ pos % 2 ^ len) e
      (field (a * 2 ^ up) len down ∙ ap (λ (x : ℕ). x % 2 ^ len) (ap (λ (n : ℕ). a * 2 ^ up / 2 ^ n) d ∙ sym (shr-shr (a * 2 ^ up) up pos) ∙ ap (λ (x : ℕ). x / 2 ^ pos) (shl-shr a up)))

  -- of sextract: the same with an arithmetic shift
  pub moved_signed : 0 < len → sar_w w (shl_w w a up) down ≡ sextract_w w pos len a
  unfolding sextract_w
  moved_signed some-bit = sar_extends w len (shl_w w a up) some-bit (omega arith) (shl_fits w a up) ∙ ap (extend_w len w) moved

  -- by the word's own shift, whose count is below the width
  pub by_sar : {t : Bool} {r : Option ℕ} → t ≡ field_ok w pos len → not t ≡ false → r ≡ by_count w down (sar_w w (shl_w w a up) down) → r ≡ by_field w pos len (sextract_w w pos len a)
  unfolding by_field by_count
  by_sar {t} e n q =
      let f = field_ends w pos len (sym e ∙ on t n) in
      q ∙ rw (lt-ltb down w (omega (arith, f)), sym e ∙ on t n, moved_signed f.0)

-- a number of len bits, read as signed
pub sextract_low : (w len s : ℕ) → s < 2 ^ len → sextract_w w 0 len s ≡ extend_w len w s
unfolding sextract_w extract_w
sextract_low w len s h = ap (extend_w len w) (ap (λ (x : ℕ). x % 2 ^ len) (div-one s) ∙ mod-eq_of_lt h)

-- of extract2
module _ (w pos a b : ℕ) (h : a < 2 ^ w) where
  pub at_none : pos ≡ 0 → a ≡ extract2_w w pos a b
  unfolding extract2_w
  at_none e = sym (ap (λ (n : ℕ). (b * 2 ^ w + a) / 2 ^ n % 2 ^ w) e ∙ ap (λ (x : ℕ). x % 2 ^ w) (div-one (b * 2 ^ w + a)) ∙ low b w h)

  pub at_width : b < 2 ^ w → pos ≡ w → b ≡ extract2_w w pos a b
  unfolding extract2_w
  at_width l e = sym (ap (λ (n : ℕ). (b * 2 ^ w + a) / 2 ^ n % 2 ^ w) e ∙ ap (λ (x : ℕ). x % 2 ^ w) (high b w h) ∙ mod-eq_of_lt l)

  pub across : pos ≤ w → bit_or (a / 2 ^ pos) (shl_w w b (w - pos)) ≡ extract2_w w pos a b
  unfolding extract2_w
  across l =
      let u = w - pos in
      let e : pos + u ≡ w = omega arith in
      let e' : u + pos ≡ w = omega arith in
      let low_part : a / 2 ^ pos < 2 ^ u = shr_lt u pos (subst (λ (n : ℕ). a < 2 ^ n) (sym e') h) in
      let n : (b * 2 ^ w + a) / 2 ^ pos ≡ b * 2 ^ u + a / 2 ^ pos = shifted a b u pos (ap (λ (n : ℕ). b * 2 ^ n + a) e') in
      let high_part : shl_w w b u ≡ b % 2 ^ pos * 2 ^ u = subst (λ (n : ℕ). (b * 2 ^ u) % 2 ^ n ≡ b % 2 ^ pos * 2 ^ u) e (mod-pow-add (b * 2 ^ u) pos u ∙ ap₂ (λ (x y : ℕ). x % 2 ^ pos * 2 ^ u + y) (shl-shr b u) (mul-mod_left b (2 ^ u)) ∙ add-zero (b % 2 ^ pos * 2 ^ u)) in
      ap (bit_or (a / 2 ^ pos)) high_part ∙ or_shifted_r (b % 2 ^ pos) u (a / 2 ^ pos) low_part
      ∙ sym
      (ap (λ (x : ℕ). x % 2 ^ w) n
      ∙ subst (λ (m : ℕ). (b * 2 ^ u + a / 2 ^ pos) % 2 ^ m ≡ b % 2 ^ pos * 2 ^ u + a / 2 ^ pos) e
      (mod-pow-add (b * 2 ^ u + a / 2 ^ pos) pos u ∙ ap₂ (λ (x y : ℕ). x % 2 ^ pos * 2 ^ u + y) (high b u low_part) (low b u low_part)))
