-- What an op that may fold states fits its output's type, for every kind. Assumes nothing.
use mathlib.Core.Path.{◌≡◌, refl, sym, subst}
use mathlib.Core.Bool.{Bool, true, false, cond, not, ◌&&◌, ◌||◌}
use Rattle.std.specs.Prelude.{Option, Some}
use mathlib.Core.List.{List, [], ◌∷◌}
use mathlib.Core.Logic.{◌⊎◌, inl, inr}
use Prim.Native.Nat.{ℕ, zero, suc, ◌+◌, ◌-◌, ◌*◌, ◌%◌, ◌^◌, ◌≤◌, ◌<◌}
use native.Mathlib.Omega.{arith}
use lib.Dec.{eqb, ltb, leb, lit<, lit≤}
use lib.Bits.{and_lt, or_lt, xor_lt}
use borrow.Author.Tests.{eqb-true, eqb-false, ne_eqb, ltb-true, ltb-false, leb-true, le-leb, lt-leb}
use native.Mathlib.Nat.{lt_of_lt_of_le}
use lib.Pow.{pow_pos}
use Rattle.theory.proofs.Sets.{and_l, and_r, tell, clash}
use Rattle.word.specs.Condition.{cond_w}
use Rattle.word.specs.Word.{by_divisor, by_signed, by_count}
use Rattle.word.proofs.Fits.{mod_fits, add_fits, sub_fits, mul_fits, neg_fits, shl_fits, not_fits, eqv_fits, nand_fits, nor_fits, andc_fits, orc_fits}
use Rattle.word.proofs.Fits.{divu_fits, remu_fits, shr_fits, rotl_fits, rotr_fits, sar_fits, divs_fits, rems_fits, extend_fits, divisor_states}
use Rattle.word.proofs.Fits.{signed_states, count_states}
use Rattle.word.specs.Fields.{by_field, extract2_w}
use Rattle.word.specs.Swaps.{bswap_w}
use Rattle.word.proofs.FieldLeaves.{field_states, position_states, deposit_fits, extracted_fits, sextract_fits, extract2_fits}
use Rattle.word.proofs.Swaps.{input_states, bswap_fits}
use Rattle.word.proofs.Counts.{clz_fits, ctz_fits, ctpop_fits}
use Rattle.word.proofs.Tests.{cond_told, cond_all}
use Rattle.ops.specs.Eval.{convert_of, unary_of, logic_of, divide_of, shift_of, setcond_of, movcond_of, deposit_of, extract_of, extract2_of, swapped_bytes, swap_of, count_of, ctpop_of}
use Rattle.ops.specs.Rows.{bits_of, role_no, types_of, at, table_of}
use Rattle.ops.specs.Kinds.{between, wide_of, computed_of}
use Rattle.ops.specs.Table.{kind_table, row_of}
use Rattle.ops.specs.Ops.{at_types}
use Rattle.theory.proofs.Views.{no_some}
use Rattle.ops.proofs.Ranges.{every_from, ranged}
use Rattle.ops.proofs.Inputs.{within, outside, folds_small}
use Rattle.ops.specs.Folds.{foldable_row}

-- a stated number fits the width
abbrev Below : ℕ → Option ℕ → Type 0
Below w o = (x : ℕ) → o ≡ Some x → x < 2 ^ w

below : (w y : ℕ) → y < 2 ^ w → Below w (Some y)
below w y h x e = let p : y ≡ x = cc in subst (λ (n : ℕ). n < 2 ^ w) p h

-- of a choice, by its sides
either : (w : ℕ) (b : Bool) {x y : Option ℕ} → Below w x → Below w y → Below w (cond b x y)
either w = cond_all (Below w)

-- the values of the families, at inputs that fit
convert_up : (k a : ℕ) → a < 2 ^ 32 → Below 64 (convert_of k a)
unfolding convert_of
convert_up k a h =
    let l : 2 ^ 32 ≤ 2 ^ 64 = lit≤ tt in
    either 64 (eqb k 0x05) (below 64 _ (extend_fits 32 64 a (lit≤ tt) h))
    (either 64 (eqb k 0x06) (below 64 a (lt_of_lt_of_le h l))
    (below 64 (a % 2 ^ 32) (lt_of_lt_of_le (mod_fits 32 a) l)))

convert_down : (k a : ℕ) → k ≡ 0x07 → Below 32 (convert_of k a)
unfolding convert_of
convert_down k a e = rw e (below 32 (a % 2 ^ 32) (mod_fits 32 a))

module _ (w k a : ℕ) (ha : a < 2 ^ w) where
  unary_below : Below w (unary_of w k a)
  unfolding unary_of
  unary_below = either w (eqb k 0x11) (below w a ha) (either w (eqb k 0x12) (below w _ (neg_fits w a)) (below w _ (not_fits w a)))

  logic_below : (b : ℕ) → b < 2 ^ w → Below w (logic_of w k a b)
  unfolding logic_of
  logic_below b hb =
      either w (eqb k 0x14) (below w _ (add_fits w a b))
      (either w (eqb k 0x15) (below w _ (sub_fits w a b))
      (either w (eqb k 0x16) (below w _ (mul_fits w a b))
      (either w (eqb k 0x17) (below w _ (and_lt w a b ha hb))
      (either w (eqb k 0x18) (below w _ (or_lt w a b ha hb))
      (either w (eqb k 0x19) (below w _ (xor_lt w a b ha hb))
      (either w (eqb k 0x1A) (below w _ (andc_fits w a b ha))
      (either w (eqb k 0x1B) (below w _ (orc_fits w a b ha))
      (either w (eqb k 0x1C) (below w _ (eqv_fits w a b))
      (either w (eqb k 0x1D) (below w _ (nand_fits w a b))
      (below w _ (nor_fits w a b)))))))))))

  divide_below : (b : ℕ) → Below w (divide_of w k a b)
  unfolding divide_of
  divide_below b =
      either w (eqb k 0x1F) (by_signed_lem (divs_fits w a b ha))
      (either w (eqb k 0x20) (by_divisor_lem (divu_fits w a b ha))
      (either w (eqb k 0x21) (by_signed_lem (rems_fits w a b ha))
      (by_divisor_lem (remu_fits w a b ha))))
    where
      by_signed_lem : {y : ℕ} → y < 2 ^ w → Below w (by_signed w a b y)
      by_signed_lem {y} h x e = rw (signed_states w a b y x e) h

      by_divisor_lem : {y : ℕ} → y < 2 ^ w → Below w (by_divisor b y)
      by_divisor_lem {y} h x e = rw (divisor_states b y x e) h

  shift_below : (b : ℕ) → Below w (shift_of w k a b)
  unfolding shift_of
  shift_below b =
      either w (eqb k 0x23) (by_count_lem (λ l. shl_fits w a b))
      (either w (eqb k 0x24) (by_count_lem (λ l. shr_fits w a b ha))
      (either w (eqb k 0x25) (by_count_lem (λ l. sar_fits w a b ha))
      (either w (eqb k 0x26) (by_count_lem (λ l. rotl_fits w a b l ha))
      (by_count_lem (λ l. rotr_fits w a b l ha)))))
    where
      by_count_lem : {y : ℕ} → (b < w → y < 2 ^ w) → Below w (by_count w b y)
      by_count_lem {y} h x e = let s = count_states w b y x e in rw s.1 (h s.0)

setcond_below : (w c a b : ℕ) → 1 < 2 ^ w → Below w (setcond_of w c a b)
unfolding setcond_of
setcond_below w c a b h = below w _ (cond_all (λ (n : ℕ). n < 2 ^ w) (cond_w w c a b) h (pow_pos w))

movcond_below : (w c a b x y : ℕ) → x < 2 ^ w → y < 2 ^ w → Below w (movcond_of w c a b x y)
unfolding movcond_of
movcond_below w c a b x y hx hy = below w _ (cond_all (λ (n : ℕ). n < 2 ^ w) (cond_w w c a b) hx hy)

-- fields, swaps and counts
module _ (w pos len a : ℕ) where
  by_field_lem : {y : ℕ} → (pos + len ≤ w → y < 2 ^ w) → Below w (by_field w pos len y)
  by_field_lem {y} h x e = let s = field_states w pos len y x e in rw s.1 (h s.0)

  deposit_below : (b : ℕ) → a < 2 ^ w → Below w (deposit_of w pos len a b)
  unfolding deposit_of
  deposit_below b h = by_field_lem (λ l. deposit_fits w pos len a l b h)

  extract_below : (k : ℕ) → Below w (extract_of w k pos len a)
  unfolding extract_of
  extract_below k = either w (eqb k 0x2E) (by_field_lem (extracted_fits w pos len a)) (by_field_lem (sextract_fits w pos len a))

extract2_below : (w pos a b : ℕ) → Below w (extract2_of w pos a b)
unfolding extract2_of
extract2_below w pos a b x e = rw (position_states w pos (extract2_w w pos a b) x e) (extract2_fits w pos a b)

swap_below : (w k flags a : ℕ) → Below w (swap_of w k flags a)
unfolding swap_of
swap_below w k flags a =
    let n = swapped_bytes k in
    cond_told (Below w) (leb (8 * n) w) (λ t x e. rw (input_states n flags a (bswap_w w n flags a) x e) (bswap_fits w n flags a (leb-true (8 * n) w t))) (λ t x e. no_some e)

module _ (w a : ℕ) (ha : a < 2 ^ w) (room : w < 2 ^ w) where
  count_below : (k b : ℕ) → b < 2 ^ w → Below w (count_of w k a b)
  unfolding count_of
  count_below k b hb = either w (eqb k 0x34) (below w _ (clz_fits w a ha room b hb)) (below w _ (ctz_fits w a ha room b hb))

  ctpop_below : Below w (ctpop_of w a)
  unfolding ctpop_of
  ctpop_below = below w _ (ctpop_fits w a ha room)

-- at a width of 32 or 64 bits, with inputs that all fit
module _ (w : ℕ) (some_bits : 0 < w) (room : w < 2 ^ w) (j : ℕ) (bytes vs : List ℕ) (fits : (i : ℕ) → at vs i < 2 ^ w) where
  wide_below : Below w (wide_of w j bytes vs)
  unfolding wide_of
  wide_below =
      either w (between 0x11 0x13 j) (unary_below w j _ (fits 0))
      (either w (between 0x14 0x1E j) (logic_below w j _ (fits 0) _ (fits 1))
      (either w (between 0x1F 0x22 j) (divide_below w j _ (fits 0) _)
      (either w (between 0x23 0x27 j) (shift_below w j _ (fits 0) _)
      (either w (eqb j 0x28) (setcond_below w _ _ _ (omega (arith, room)))
      (either w (eqb j 0x29) (movcond_below w _ _ _ _ _ (fits 2) (fits 3))
      (either w (eqb j 0x2D) (deposit_below w _ _ _ _ (fits 0))
      (either w (between 0x2E 0x2F j) (extract_below w _ _ _ j)
      (either w (eqb j 0x30) (extract2_below w _ _ _)
      (either w (between 0x31 0x33 j) (swap_below w j _ _)
      (either w (between 0x34 0x35 j) (count_below w _ (fits 0) room j _ (fits 1))
      (either w (eqb j 0x36) (ctpop_below w _ (fits 0) room)
      (λ x e. no_some e))))))))))))

-- the types of a kind that may fold: its output's, and its inputs'
abbrev pub out_type : ℕ → ℕ
out_type k = cond (between 0x05 0x06 k) 1 (cond (leb 0x80 k) 1 0)

abbrev pub in_type : ℕ → ℕ
in_type k = cond (eqb k 0x07) 1 (cond (leb 0x80 k) 1 0)

abbrev pub all_are : ℕ → List ℕ → Bool
all_are t [] = true
all_are t (x ∷ xs) = eqb x t && all_are t xs

-- every value that is read fits
read_fits : (t : ℕ) (ts vs : List ℕ) → all_are t ts ≡ true → (i : ℕ) → at (at_types ts vs) i < 2 ^ bits_of t
read_fits t [] vs h i = pow_pos (bits_of t)
read_fits t (x ∷ ts) [] h zero = pow_pos (bits_of t)
read_fits t (x ∷ ts) [] h (suc i) = read_fits t ts [] (and_r (eqb x t) (all_are t ts) h) i
read_fits t (x ∷ ts) (v ∷ vs) h zero = rw (eqb-true x t (and_l (eqb x t) (all_are t ts) h)) (mod_fits (bits_of t) v)
read_fits t (x ∷ ts) (v ∷ vs) h (suc i) = read_fits t ts vs (and_r (eqb x t) (all_are t ts) h) i

-- by their kinds
pub record Types (k out inp : ℕ) : Type 0 where
  pub out_is : out_type k ≡ out
  pub in_is : in_type k ≡ inp

pub extending : (k : ℕ) → 0x05 ≤ k → k ≤ 0x06 → Types k 1 0
extending k p q = record { out_is = rw (within 0x05 0x06 k p q); in_is = rw (ne_eqb k 0x07 (omega arith), lt-leb 0x80 k (omega arith)) }

pub narrow : (k : ℕ) → between 0x05 0x07 k ≡ false → k < 0x80 → Types k 0 0
narrow k n l = go (tell (eqb k 0x07)) (tell (between 0x05 0x06 k))
  where
    go : (eqb k 0x07 ≡ true) ⊎ (eqb k 0x07 ≡ false) → (between 0x05 0x06 k ≡ true) ⊎ (between 0x05 0x06 k ≡ false) → Types k 0 0
    go (inl e) y = let q = eqb-true k 0x07 e in clash (between 0x05 0x07 k) (within 0x05 0x07 k (omega arith) (omega arith)) n
    go (inr e) (inl y) = let h : k ≤ 0x06 = leb-true k 0x06 (and_r (leb 0x05 k) (leb k 0x06) y) in clash (between 0x05 0x07 k) (within 0x05 0x07 k (leb-true 0x05 k (and_l (leb 0x05 k) (leb k 0x06) y)) (omega arith)) n
    go (inr e) (inr y) = record { out_is = rw (y, lt-leb 0x80 k l); in_is = rw (e, lt-leb 0x80 k l) }

pub wide : (k : ℕ) → 0x80 ≤ k → Types k 1 1
wide k l = record { out_is = rw (outside 0x05 0x06 k (λ p q. omega arith), le-leb 0x80 k l); in_is = rw (ne_eqb k 0x07 (omega arith), le-leb 0x80 k l) }

module _ (k : ℕ) (bytes vs : List ℕ) (fits : (i : ℕ) → at vs i < 2 ^ bits_of (in_type k)) where
  abbrev Fit : Option ℕ → Type 0
  Fit o = Below (bits_of (out_type k)) o

  at_types_lem : {out inp : ℕ} {o : Option ℕ} → Types k out inp → (((i : ℕ) → at vs i < 2 ^ bits_of inp) → Below (bits_of out) o) → Fit o
  at_types_lem {o = o} t f =
      subst (λ (n : ℕ). Below (bits_of n) o) (sym t.out_is) (f (λ i. subst (λ (n : ℕ). at vs i < 2 ^ bits_of n) t.in_is (fits i)))

  range : {lo hi : ℕ} → between lo hi k ≡ true → (lo ≤ k) × (k ≤ hi)
  range {lo} {hi} t = (leb-true lo k (and_l (leb lo k) (leb k hi) t), leb-true k hi (and_r (leb lo k) (leb k hi) t))

  converted : between 0x05 0x07 k ≡ true → Fit (convert_of k (at vs 0))
  converted t = go (tell (eqb k 0x07))
    where
      go : (eqb k 0x07 ≡ true) ⊎ (eqb k 0x07 ≡ false) → Fit (convert_of k (at vs 0))
      go (inl e) = let q = eqb-true k 0x07 e in subst (λ (n : ℕ). Below (bits_of (out_type n)) (convert_of k (at vs 0))) (sym q) (convert_down k (at vs 0) q)
      go (inr e) = at_types_lem (extending k (range t).0 (omega (arith, (range t).1, eqb-false k 0x07 e))) (λ f. convert_up k (at vs 0) (f 0))

  computed_below : Fit (computed_of k bytes vs)
  unfolding computed_of
  computed_below =
      cond_told Fit (between 0x05 0x07 k) converted
      (λ n. cond_told Fit (ltb k 0x80) (λ t. at_types_lem (narrow k n (ltb-true k 0x80 t)) (wide_below 32 (lit< tt) (lit< tt) k bytes vs))
      (λ t. at_types_lem (wide k (ltb-false k 0x80 t)) (wide_below 64 (lit< tt) (lit< tt) (k - 0x80) bytes vs)))

-- the row of such a kind has these types
abbrev typed : ℕ → Bool
typed k = let row = row_of k in not (foldable_row row) || (eqb (at row.outs 0) (out_type k) && all_are (in_type k) row.ins)

all_typed : every_from typed 0 256 ≡ true
unfolding table_of kind_table role_no types_of
all_typed = refl

-- what a kind that may fold states, of its inputs read at their types, fits its output's
module _ (k : ℕ) (h : foldable_row (row_of k) ≡ true) where
  types_are : (eqb (at (row_of k).outs 0) (out_type k) && all_are (in_type k) (row_of k).ins) ≡ true
  types_are =
      let t : (not (foldable_row (row_of k)) || (eqb (at (row_of k).outs 0) (out_type k) && all_are (in_type k) (row_of k).ins)) ≡ true =
      ranged typed 256 0 all_typed k (omega arith) (omega (arith, folds_small k h)) in
      rw h at t

  pub ins_are : all_are (in_type k) (row_of k).ins ≡ true
  ins_are = and_r (eqb (at (row_of k).outs 0) (out_type k)) _ types_are

  out_is : at (row_of k).outs 0 ≡ out_type k
  out_is = eqb-true (at (row_of k).outs 0) (out_type k) (and_l (eqb (at (row_of k).outs 0) (out_type k)) _ types_are)

  pub out_small : at (row_of k).outs 0 < 2
  out_small = rw out_is (cond_all (λ (n : ℕ). n < 2) (between 0x05 0x06 k) (lit< tt) (cond_all (λ (n : ℕ). n < 2) (leb 0x80 k) (lit< tt) (lit< tt)))

  pub folded_fits : (bytes vs : List ℕ) (x : ℕ) → computed_of k bytes (at_types (row_of k).ins vs) ≡ Some x → x < 2 ^ bits_of (at (row_of k).outs 0)
  folded_fits bytes vs x e =
      rw out_is
      (computed_below k bytes (at_types (row_of k).ins vs)
      (read_fits (in_type k) (row_of k).ins vs ins_are) x e)
