-- The byte law of the swaps, that their results fit, and what their code computes, over the width and the bytes. Assumes nothing.
use mathlib.Core.Path.{◌≡◌, refl, sym, ap, ◌∙◌, subst}
use mathlib.Core.Bool.{Bool, true, false, cond, not, ◌&&◌, ◌||◌, beq}
use Rattle.std.specs.Prelude.{Option, None, Some}
use Rattle.std.proofs.lemmas.Option.{cond_some}
use Prim.Native.Nat.{ℕ, zero, suc, ◌+◌, ◌-◌, ◌*◌, ◌/◌, ◌%◌, ◌^◌, ◌≤◌, ◌<◌}
use native.Mathlib.Nat.{add_comm, mod-lt, mod-mod, div-one, div-eq_of_lt, sub-add_cancel, lt_of_lt_of_le, mul-le-mul_right}
use native.Mathlib.Omega.{arith}
use lib.Arith.{digits_lt}
use lib.Dec.{eqb, ltb, leb, lit<}
use lib.Pow.{pow_mono, pow-add, high, low, shr-shr, ones_split, ones_lt, high_ones}
use borrow.Author.Tests.{eqb-true, eqb-false, ltb-true, ltb-false, lt-ltb, le-ltb, lt-leb}
use Rattle.word.specs.Word.{extend_w}
use Rattle.word.specs.Fields.{field_ok, by_field, sextract_w, bit_at}
use Rattle.word.specs.Swaps.{has_iz, has_oz, has_os, swap_flags_ok, swap_bytes, bswap_w, input_ok, by_input, byte_at, ByteLaw}
use Rattle.word.proofs.Tests.{cond_all, on, off}
use Rattle.word.proofs.Bits.{part_mod}
use Rattle.word.proofs.Fits.{extend_fits}
use Rattle.word.proofs.FieldLeaves.{sextract_low}

-- one byte more
eight_more : (n : ℕ) → 8 * suc n ≡ 8 + 8 * n
eight_more n = omega arith

pub swap_fits : (n a : ℕ) → swap_bytes n a < 2 ^ (8 * n)
unfolding swap_bytes
swap_fits zero a = lit< tt
swap_fits (suc n) a =
    subst (λ (k : ℕ). swap_bytes (suc n) a < 2 ^ k) (sym (eight_more n))
    (rw (pow-add 2 8 (8 * n)) (digits_lt {q = a % 256} {m = 256} (mod-lt a (lit< tt)) (swap_fits n (a / 256))))

-- a byte of s, below q
byte_low : (q s n i : ℕ) → s < 2 ^ (8 * n) → i < n → byte_at (q * 2 ^ (8 * n) + s) i ≡ byte_at s i
byte_low q s n i b l =
    sym (part_mod (q * 2 ^ (8 * n) + s) (8 * n) (8 * i) 8 (omega arith)) ∙ ap (λ (x : ℕ). x / 2 ^ (8 * i) % 256) (low q (8 * n) b)

swap_byte : (n a i : ℕ) → i < n → byte_at (swap_bytes n a) i ≡ byte_at a (n - suc i)
unfolding swap_bytes
swap_byte zero a i l = absurd (omega arith)
swap_byte (suc n) a i l = go (λ h. swap_byte n (a / 256) i h) (eqb i n) refl
  where
    q : ℕ
    q = a % 256

    s : ℕ
    s = swap_bytes n (a / 256)

    go : (i < n → byte_at s i ≡ byte_at (a / 256) (n - suc i)) → (t : Bool) → eqb i n ≡ t → byte_at (q * 2 ^ (8 * n) + s) i ≡ byte_at a (suc n - suc i)
    go rest true t =
        let e : i ≡ n = eqb-true i n t in
        let z : suc n - suc i ≡ 0 = omega arith in
        rw (z, e) (ap (λ (x : ℕ). x % 256) (high q (8 * n) (swap_fits n (a / 256))) ∙ mod-mod a 256 ∙ ap (λ (x : ℕ). x % 256) (sym (div-one a)))
    go rest false t =
        let h : i < n = omega (arith, eqb-false i n t) in
        let e : suc n - suc i ≡ suc (n - suc i) = omega arith in
        byte_low q s n i (swap_fits n (a / 256)) h ∙ rest h
        ∙ ap (λ (x : ℕ). x % 256) (shr-shr a 8 (8 * (n - suc i)) ∙ ap (λ (k : ℕ). a / 2 ^ k) (sym (eight_more (n - suc i)) ∙ ap (λ (k : ℕ). 8 * k) (sym e)))

-- past its length a number has no bytes
byte_over : {s n : ℕ} (i : ℕ) → s < 2 ^ (8 * n) → n ≤ i → byte_at s i ≡ 0
byte_over {n = n} i h l = ap (λ (x : ℕ). x % 256) (div-eq_of_lt (lt_of_lt_of_le h (pow_mono {i = 8 * n} {j = 8 * i} (omega arith))))

-- a byte of ones
byte_ones : (m i : ℕ) → 8 * suc i ≤ m → byte_at (2 ^ m - 1) i ≡ 255
byte_ones m i h =
    let k = 8 * i in
    let j = m - 8 * suc i in
    let e : (j + 8) + k ≡ m = omega arith in
    subst (λ (n : ℕ). (2 ^ n - 1) / 2 ^ k % 256 ≡ 255) e
    (ap (λ (x : ℕ). x / 2 ^ k % 256) (ones_split (j + 8) k) ∙ ap (λ (x : ℕ). x % 256) (high (2 ^ (j + 8) - 1) k (ones_lt k))
    ∙ ap (λ (x : ℕ). x % 256) (ones_split j 8) ∙ low (2 ^ j - 1) 8 (lit< tt))

-- the sign of the swapped bytes is the top bit of byte 0
module _ (m a : ℕ) where
  half : 2 ^ (8 * suc m - 1) ≡ 128 * 2 ^ (8 * m)
  half = ap (2 ^◌) (omega arith) ∙ pow-add 2 7 (8 * m)

  signed_top : ltb (swap_bytes (suc m) a) (2 ^ (8 * suc m - 1)) ≡ not (eqb (bit_at a 7) 1)
  unfolding swap_bytes
  signed_top = go (ltb (a % 256) 128) refl
    where
      s : ℕ
      s = swap_bytes m (a / 256)

      go : (t : Bool) → ltb (a % 256) 128 ≡ t → ltb (a % 256 * 2 ^ (8 * m) + s) (2 ^ (8 * suc m - 1)) ≡ not (eqb (bit_at a 7) 1)
      go true t =
          let l : a % 256 < 128 = ltb-true (a % 256) 128 t in
          let z : bit_at a 7 ≡ 0 = omega arith in
          lt-ltb (a % 256 * 2 ^ (8 * m) + s) (2 ^ (8 * suc m - 1)) (rw half (digits_lt l (swap_fits m (a / 256)))) ∙ sym (ap (λ (x : ℕ). not (eqb x 1)) z)
      go false t =
          let l : 128 ≤ a % 256 = ltb-false (a % 256) 128 t in
          let o : bit_at a 7 ≡ 1 = omega arith in
          let g : 128 * 2 ^ (8 * m) ≤ a % 256 * 2 ^ (8 * m) = mul-le-mul_right (2 ^ (8 * m)) l in
          le-ltb (a % 256 * 2 ^ (8 * m) + s) (2 ^ (8 * suc m - 1)) (rw half (omega (arith, g))) ∙ sym (ap (λ (x : ℕ). not (eqb x 1)) o)

module _ (w m flags : ℕ) (long : 8 * suc m ≤ w) where
  -- bytes of a number of n bytes, read as signed
  up : (s : ℕ) → s + (2 ^ w - 2 ^ (8 * suc m)) ≡ (2 ^ (w - 8 * suc m) - 1) * 2 ^ (8 * suc m) + s
  up s =
      add_comm s (2 ^ w - 2 ^ (8 * suc m))
      ∙ ap (λ (y : ℕ). y + s) (subst (λ (k : ℕ). 2 ^ k - 2 ^ (8 * suc m) ≡ (2 ^ (w - 8 * suc m) - 1) * 2 ^ (8 * suc m)) (sub-add_cancel long) (high_ones (w - 8 * suc m) (8 * suc m)))

  extended_low : (s i : ℕ) → s < 2 ^ (8 * suc m) → i < suc m → byte_at (extend_w (8 * suc m) w s) i ≡ byte_at s i
  unfolding extend_w
  extended_low s i b l =
      cond_all (λ (x : ℕ). byte_at x i ≡ byte_at s i) (ltb s (2 ^ (8 * suc m - 1))) refl
      (ap (λ (x : ℕ). byte_at x i) (up s) ∙ byte_low (2 ^ (w - 8 * suc m) - 1) s (suc m) i b l)

  extended_high : (s i : ℕ) → s < 2 ^ (8 * suc m) → suc m ≤ i → 8 * suc i ≤ w → byte_at (extend_w (8 * suc m) w s) i ≡ cond (ltb s (2 ^ (8 * suc m - 1))) 0 255
  unfolding extend_w
  extended_high s i b l h = go (ltb s (2 ^ (8 * suc m - 1)))
    where
      above : byte_at ((2 ^ (w - 8 * suc m) - 1) * 2 ^ (8 * suc m) + s) i ≡ 255
      above =
          let e : 8 * suc m + 8 * (i - suc m) ≡ 8 * i = omega arith in
          let x = (2 ^ (w - 8 * suc m) - 1) * 2 ^ (8 * suc m) + s in
          ap (λ (k : ℕ). x / 2 ^ k % 256) (sym e) ∙ ap (λ (y : ℕ). y % 256) (sym (shr-shr x (8 * suc m) (8 * (i - suc m))) ∙ ap (λ (y : ℕ). y / 2 ^ (8 * (i - suc m))) (high (2 ^ (w - 8 * suc m) - 1) (8 * suc m) b))
          ∙ byte_ones (w - 8 * suc m) (i - suc m) (omega arith)

      go : (t : Bool) → byte_at (cond t s (s + (2 ^ w - 2 ^ (8 * suc m)))) i ≡ cond t 0 255
      go true = byte_over {s = s} {n = suc m} i b l
      go false = ap (λ (x : ℕ). byte_at x i) (up s) ∙ above

  pub byte_law : ByteLaw w (suc m) flags
  unfolding bswap_w
  byte_law =
      record {
        swapped =
            λ a i l. cond_all (λ (x : ℕ). byte_at x i ≡ byte_at a (suc m - suc i)) (has_os flags)
            (extended_low (swap_bytes (suc m) a) i (swap_fits (suc m) a) l ∙ swap_byte (suc m) a i l) (swap_byte (suc m) a i l);
        above = λ a i l h. go a i l h (has_os flags);
      }
    where
      go : (a i : ℕ) → suc m ≤ i → 8 * suc i ≤ w → (t : Bool)
          → byte_at (cond t (extend_w (8 * suc m) w (swap_bytes (suc m) a)) (swap_bytes (suc m) a)) i ≡ cond (t && eqb (bit_at a 7) 1) 255 0
      go a i l h false = byte_over {s = swap_bytes (suc m) a} {n = suc m} i (swap_fits (suc m) a) l
      go a i l h true =
          extended_high (swap_bytes (suc m) a) i (swap_fits (suc m) a) l h ∙ ap (λ (t : Bool). cond t 0 255) (signed_top m a) ∙ turned (eqb (bit_at a 7) 1)
        where
          turned : (t : Bool) → cond {A = ℕ} (not t) 0 255 ≡ cond t 255 0
          turned true = refl
          turned false = refl

-- results fit
pub bswap_fits : (w n flags a : ℕ) → 8 * n ≤ w → bswap_w w n flags a < 2 ^ w
unfolding bswap_w
bswap_fits w n flags a l =
    cond_all (λ (x : ℕ). x < 2 ^ w) (has_os flags) (extend_fits (8 * n) w (swap_bytes n a) l (swap_fits n a)) (lt_of_lt_of_le (swap_fits n a) (pow_mono l))

pub input_states : (n flags a x y : ℕ) → by_input n flags a x ≡ Some y → y ≡ x
unfolding by_input
input_states n flags a x y e = sym (cond_some (input_ok n flags a) x y e).1

-- what the code's tests settle: of the input
module _ (n flags a : ℕ) {r : Bool} (e : r ≡ input_ok n flags a) where
  pub no_input : (v : ℕ) → not r ≡ true → None ≡ by_input n flags a v
  unfolding by_input
  no_input v t = rw (sym e ∙ off r t)

  pub has_input : {x v : ℕ} → not r ≡ false → x ≡ v → Some x ≡ by_input n flags a v
  unfolding by_input
  has_input t q = rw (sym e ∙ on r t, q)

-- of the output
module _ (w n flags a : ℕ) {r : Bool} (e : r ≡ has_os flags) {x : ℕ} where
  pub swapped_signed : r ≡ true → x ≡ extend_w (8 * n) w (swap_bytes n a) → x ≡ bswap_w w n flags a
  unfolding bswap_w
  swapped_signed t q = rw (sym e ∙ t, q)

  pub swapped_zero : r ≡ false → x ≡ swap_bytes n a → x ≡ bswap_w w n flags a
  unfolding bswap_w
  swapped_zero f q = rw (sym e ∙ f, q)

-- with OS, by the field of the swapped bytes
pub swapped_by_field : (w n flags a : ℕ) {t o : Bool} {s : ℕ} {r : Option ℕ} → field_ok w 0 (8 * n) ≡ true → t ≡ input_ok n flags a → not t ≡ false → o ≡ has_os flags → o ≡ true → s ≡ swap_bytes n a
    → r ≡ by_field w 0 (8 * n) (sextract_w w 0 (8 * n) s) → r ≡ by_input n flags a (bswap_w w n flags a)
unfolding by_field by_input bswap_w
swapped_by_field w n flags a {t} {s = s} whole e i q y z r =
    r ∙ rw (whole, sym e ∙ on t i, sym q ∙ y) (ap Some (ap (sextract_w w 0 (8 * n)) z ∙ sextract_low w (8 * n) (swap_bytes n a) (swap_fits n a)))

-- a swap of the whole width has nothing to extend
pub whole_swap_lem : (w n flags a : ℕ) → 8 * n ≡ w → a < 2 ^ w → Some (swap_bytes n a) ≡ by_input n flags a (bswap_w w n flags a)
unfolding by_input bswap_w extend_w
whole_swap_lem w n flags a e h =
    let s = swap_bytes n a in
    let small : ltb a (2 ^ (8 * n)) ≡ true = lt-ltb a (2 ^ (8 * n)) (rw e h) in
    let same : s ≡ cond (has_os flags) (cond (ltb s (2 ^ (8 * n - 1))) s (s + (2 ^ w - 2 ^ (8 * n)))) s =
    cond_all (λ (x : ℕ). s ≡ x) (has_os flags) (cond_all (λ (x : ℕ). s ≡ x) (ltb s (2 ^ (8 * n - 1))) refl (rw e (omega arith))) refl in
    ap Some same ∙ sym (ap (λ (b : Bool). cond (not (has_iz flags) || b) (Some (bswap_w w n flags a)) None) small ∙ ap (λ (b : Bool). cond b (Some (bswap_w w n flags a)) None) (either (has_iz flags)))
  where
    either : (b : Bool) → (not b || true) ≡ true
    either true = refl
    either false = refl

-- the flags of a swap that has something to extend: 2 to 5
pub flags_under : (f : ℕ) → f < 2 → false ≡ swap_flags_ok f
unfolding swap_flags_ok
flags_under zero l = refl
flags_under (suc zero) l = refl
flags_under (suc (suc f)) l = absurd (omega arith)

pub flags_over : (f : ℕ) → 2 ≤ f → leb f 5 ≡ swap_flags_ok f
unfolding swap_flags_ok
flags_over zero l = absurd (omega arith)
flags_over (suc zero) l = absurd (omega arith)
flags_over (suc (suc zero)) l = refl
flags_over (suc (suc (suc zero))) l = refl
flags_over (suc (suc (suc (suc zero)))) l = refl
flags_over (suc (suc (suc (suc (suc zero))))) l = refl
flags_over (suc (suc (suc (suc (suc (suc zero)))))) l = refl
flags_over (suc (suc (suc (suc (suc (suc (suc zero))))))) l = refl
flags_over (suc (suc (suc (suc (suc (suc (suc (suc f)))))))) l =
    let n = suc (suc (suc (suc (suc (suc (suc (suc f))))))) in
    lt-leb n 5 (omega arith) ∙ sym (ap (λ (b : Bool). b && not (beq (has_oz n) (has_os n))) (le-ltb n 8 (omega arith)))

-- eight bytes by halves
pub swap_halves : (a : ℕ) → swap_bytes 4 a * 2 ^ 32 + swap_bytes 4 (a / 2 ^ 32) ≡ swap_bytes 8 a
unfolding swap_bytes
swap_halves a = rw (high_half a) (linear (a % 256) (a / 256 % 256) (a / 256 / 256 % 256) (a / 256 / 256 / 256 % 256) _ _ _ _)
  where
    high_half : (a : ℕ) → a / 2 ^ 32 ≡ a / 256 / 256 / 256 / 256
    high_half a = sym (shr-shr a 8 24) ∙ sym (shr-shr (a / 256) 8 16) ∙ sym (shr-shr (a / 256 / 256) 8 8)

    linear : (x0 x1 x2 x3 x4 x5 x6 x7 : ℕ)
        → (x0 * 2 ^ 24 + (x1 * 2 ^ 16 + (x2 * 2 ^ 8 + (x3 * 1 + 0)))) * 2 ^ 32 + (x4 * 2 ^ 24 + (x5 * 2 ^ 16 + (x6 * 2 ^ 8 + (x7 * 1 + 0))))
        ≡ x0 * 2 ^ 56 + (x1 * 2 ^ 48 + (x2 * 2 ^ 40 + (x3 * 2 ^ 32 + (x4 * 2 ^ 24 + (x5 * 2 ^ 16 + (x6 * 2 ^ 8 + (x7 * 1 + 0)))))))
    linear x0 x1 x2 x3 x4 x5 x6 x7 = omega arith
