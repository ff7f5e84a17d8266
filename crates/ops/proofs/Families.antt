-- What a family states: the last kind of each, and the family of a kind, once over the width. Assumes nothing.
use mathlib.Core.Path.{◌≡◌, refl, sym}
use mathlib.Core.Bool.{Bool, false, cond}
use Rattle.std.specs.Prelude.{Option, None, Some}
use mathlib.Core.List.{List, [], ◌∷◌}
use mathlib.Core.Logic.{⊎_elim, ◌⊎◌}
use Prim.Native.Nat.{ℕ, suc, ◌%◌, ◌^◌, ◌≤◌, ◌<◌}
use native.Mathlib.Omega.{arith}
use native.Mathlib.Nat.{mod-mod}
use lib.Dec.{eqb, lit≤}
use borrow.Author.Tests.{ne_eqb, le-leb, lt-leb}
use Rattle.word.specs.Word.{extend_w, not_w, nor_w, rotr_w, by_divisor, by_count}
use Rattle.word.specs.Condition.{cond_w}
use Rattle.word.specs.Fields.{by_field, by_position, deposit_w, extract_w, sextract_w, extract2_w}
use Rattle.word.specs.Swaps.{by_input, bswap_w, swap_bytes, clz_w, ctz_w, ctpop_w}
use Rattle.word.proofs.Swaps.{whole_swap_lem}
use Rattle.word.proofs.Tests.{cond_all}
use Rattle.ops.specs.Eval.{convert_of, unary_of, logic_of, divide_of, shift_of, setcond_of, movcond_of, deposit_of, extract_of, extract2_of, swap_of, count_of, ctpop_of}
use Rattle.ops.specs.Rows.{at}
use Rattle.ops.specs.Kinds.{between, wide_of}
use Rattle.ops.proofs.Ranges.{Past}
use Rattle.ops.proofs.Inputs.{within, outside}

-- the last kind of a family
module _ (w k a : ℕ) where
  pub last_unary : {r : ℕ} → Past 0x11 2 k → r ≡ not_w w a → Some r ≡ unary_of w k a
  unfolding unary_of
  last_unary ((u, n1), n2) e = rw (ne_eqb k 0x11 n1, ne_eqb k 0x12 n2, e)

  pub last_logic : (b : ℕ) {r : ℕ} → Past 0x14 10 k → r ≡ nor_w w a b → Some r ≡ logic_of w k a b
  unfolding logic_of
  last_logic b ((((((((((u, n1), n2), n3), n4), n5), n6), n7), n8), n9), n10) e =
      rw (
        ne_eqb k 0x14 n1,
        ne_eqb k 0x15 n2,
        ne_eqb k 0x16 n3,
        ne_eqb k 0x17 n4,
        ne_eqb k 0x18 n5,
        ne_eqb k 0x19 n6,
        ne_eqb k 0x1A n7,
        ne_eqb k 0x1B n8,
        ne_eqb k 0x1C n9,
        ne_eqb k 0x1D n10,
        e,
      )

  pub last_divide : (b : ℕ) {r : Option ℕ} → Past 0x1F 3 k → r ≡ by_divisor b (a % b) → r ≡ divide_of w k a b
  unfolding divide_of
  last_divide b (((u, n1), n2), n3) e = rw (ne_eqb k 0x1F n1, ne_eqb k 0x20 n2, ne_eqb k 0x21 n3, e)

  pub last_shift : (b : ℕ) {r : Option ℕ} → Past 0x23 4 k → r ≡ by_count w b (rotr_w w a b) → r ≡ shift_of w k a b
  unfolding shift_of
  last_shift b ((((u, n1), n2), n3), n4) e = rw (ne_eqb k 0x23 n1, ne_eqb k 0x24 n2, ne_eqb k 0x25 n3, ne_eqb k 0x26 n4, e)

-- the conversions, of the low 32 bits l of the input
module _ (a : ℕ) {k l r : ℕ} where
  pub convert_first : k ≡ 0x05 → l ≡ a % 2 ^ 32 → r ≡ extend_w 32 64 l → Some r ≡ convert_of k (a % 2 ^ 32)
  unfolding convert_of
  convert_first h d e = rw (h, e, d)

  pub convert_rest : Past 0x05 1 k → l ≡ a % 2 ^ 32 → r ≡ l → Some r ≡ convert_of k (a % 2 ^ 32)
  unfolding convert_of
  convert_rest (u, n) d e =
      rw (ne_eqb k 0x05 n, mod-mod a (2 ^ 32), e, d)
      (cond_all (λ (o : Option ℕ). Some (a % 2 ^ 32) ≡ o) (eqb k 0x06) refl refl)

-- none of the kinds that are told apart one by one
abbrev Singles : ℕ → Type 0
Singles k =
    ((((((((((((Unit {0} × (k ≡ 0x28 → ⊥)) × (k ≡ 0x29 → ⊥)) × (k ≡ 0x2D → ⊥)) × (k ≡ 0x2E → ⊥)) × (k ≡ 0x2F → ⊥)) × (k ≡ 0x30 → ⊥)) × (k ≡ 0x31 → ⊥)) × (k ≡ 0x32 → ⊥))
    × (k ≡ 0x33 → ⊥)) × (k ≡ 0x34 → ⊥)) × (k ≡ 0x35 → ⊥)) × (k ≡ 0x36 → ⊥))

-- and so outside ranges
apart : (k : ℕ) → (k < 0x11) ⊎ (0x27 < k) → (lo hi : ℕ) → 0x11 ≤ lo → hi ≤ 0x27 → between lo hi k ≡ false
apart k o lo hi l h = outside lo hi k (λ p q. ⊎_elim (λ r. omega arith) (λ r. omega arith) o)

none_of_two : (k n : ℕ) → (k ≡ n → ⊥) → (k ≡ suc n → ⊥) → n ≤ k → k ≤ suc n → ⊥
none_of_two k n p q l h = omega arith

none_of_three : (k n : ℕ) → (k ≡ n → ⊥) → (k ≡ suc n → ⊥) → (k ≡ suc (suc n) → ⊥) → n ≤ k → k ≤ suc (suc n) → ⊥
none_of_three k n p q r l h = omega arith

-- the family of a kind
module _ (w k : ℕ) (bytes : List ℕ) (a b x y : ℕ) where
  pub states_unary : {r : ℕ} → 0x11 ≤ k → k ≤ 0x13 → Some r ≡ unary_of w k a → Some r ≡ wide_of w k bytes (a ∷ b ∷ x ∷ y ∷ [])
  unfolding wide_of
  states_unary p q e = rw (within 0x11 0x13 k p q) e

  pub states_logic : {r : ℕ} → 0x14 ≤ k → k ≤ 0x1E → Some r ≡ logic_of w k a b → Some r ≡ wide_of w k bytes (a ∷ b ∷ x ∷ y ∷ [])
  unfolding wide_of
  states_logic p q e = rw (outside 0x11 0x13 k (λ l m. omega arith), within 0x14 0x1E k p q) e

  pub states_divide : {r : Option ℕ} → 0x1F ≤ k → k ≤ 0x22 → r ≡ divide_of w k a b → r ≡ wide_of w k bytes (a ∷ b ∷ x ∷ y ∷ [])
  unfolding wide_of
  states_divide p q e = rw (outside 0x11 0x13 k (λ l m. omega arith), outside 0x14 0x1E k (λ l m. omega arith), within 0x1F 0x22 k p q) e

  pub states_shift : {r : Option ℕ} → 0x23 ≤ k → k ≤ 0x27 → r ≡ shift_of w k a b → r ≡ wide_of w k bytes (a ∷ b ∷ x ∷ y ∷ [])
  unfolding wide_of
  states_shift p q e =
      rw (
        outside 0x11 0x13 k (λ l m. omega arith),
        outside 0x14 0x1E k (λ l m. omega arith),
        outside 0x1F 0x22 k (λ l m. omega arith),
        within 0x23 0x27 k p q,
      )
      e

  -- setcond and movcond: a choice by the condition t
  pub states_setcond : {t : Bool} {r f : ℕ} → k ≡ 0x28 → f ≡ at bytes 0 → t ≡ cond_w w f a b → r ≡ cond t 1 0 → Some r ≡ wide_of w k bytes (a ∷ b ∷ x ∷ y ∷ [])
  unfolding wide_of setcond_of
  states_setcond h g d e = rw (h, sym g, sym d, e)

  pub states_movcond : {t : Bool} {r f : ℕ} → k ≡ 0x29 → f ≡ at bytes 0 → t ≡ cond_w w f a b → r ≡ cond t x y → Some r ≡ wide_of w k bytes (a ∷ b ∷ x ∷ y ∷ [])
  unfolding wide_of movcond_of
  states_movcond h g d e = rw (h, sym g, sym d, e)

  -- fields, from what stands for the bytes after the operands
  module _ {r : Option ℕ} {p l : ℕ} (f : p ≡ at bytes 0) (g : l ≡ at bytes 1) where
    pub states_deposit : k ≡ 0x2D → r ≡ by_field w p l (deposit_w w p l a b) → r ≡ wide_of w k bytes (a ∷ b ∷ x ∷ y ∷ [])
    unfolding wide_of deposit_of
    states_deposit h e = rw (h, sym f, sym g) e

    pub states_extract : k ≡ 0x2E → r ≡ by_field w p l (extract_w p l a) → r ≡ wide_of w k bytes (a ∷ b ∷ x ∷ y ∷ [])
    unfolding wide_of extract_of
    states_extract h e = rw (h, sym f, sym g) e

    pub states_sextract : k ≡ 0x2F → r ≡ by_field w p l (sextract_w w p l a) → r ≡ wide_of w k bytes (a ∷ b ∷ x ∷ y ∷ [])
    unfolding wide_of extract_of
    states_sextract h e = rw (h, sym f, sym g) e

  pub states_extract2 : {r : Option ℕ} {p : ℕ} → p ≡ at bytes 0 → k ≡ 0x30 → r ≡ by_position w p (extract2_w w p a b) → r ≡ wide_of w k bytes (a ∷ b ∷ x ∷ y ∷ [])
  unfolding wide_of extract2_of
  states_extract2 f h e = rw (h, sym f) e

  -- swaps of two bytes and of four, and of all
  pub states_swap2 : {r : Option ℕ} {f : ℕ} → 16 ≤ w → f ≡ at bytes 0 → k ≡ 0x31 → r ≡ by_input 2 f a (bswap_w w 2 f a) → r ≡ wide_of w k bytes (a ∷ b ∷ x ∷ y ∷ [])
  unfolding wide_of swap_of
  states_swap2 l f h e = rw (h, sym f, le-leb 16 w l) e

  pub states_swap4 : {r : Option ℕ} {f : ℕ} → 32 ≤ w → f ≡ at bytes 0 → k ≡ 0x32 → r ≡ by_input 4 f a (bswap_w w 4 f a) → r ≡ wide_of w k bytes (a ∷ b ∷ x ∷ y ∷ [])
  unfolding wide_of swap_of
  states_swap4 l f h e = rw (h, sym f, le-leb 32 w l) e

  pub states_whole4 : {r : ℕ} → 32 ≡ w → a < 2 ^ w → k ≡ 0x32 → r ≡ swap_bytes 4 a → Some r ≡ wide_of w k bytes (a ∷ b ∷ x ∷ y ∷ [])
  unfolding wide_of swap_of
  states_whole4 s l h e = rw (h, le-leb 32 w (omega arith), e) (whole_swap_lem w 4 (at bytes 0) a s l)

  pub states_whole8 : {r : ℕ} → 64 ≡ w → a < 2 ^ w → k ≡ 0x33 → r ≡ swap_bytes 8 a → Some r ≡ wide_of w k bytes (a ∷ b ∷ x ∷ y ∷ [])
  unfolding wide_of swap_of
  states_whole8 s l h e = rw (h, le-leb 64 w (omega arith), e) (whole_swap_lem w 8 (at bytes 0) a s l)

  pub no_whole8 : w < 64 → k ≡ 0x33 → None ≡ wide_of w k bytes (a ∷ b ∷ x ∷ y ∷ [])
  unfolding wide_of swap_of
  no_whole8 l h = rw (h, lt-leb 64 w l)

  -- counts
  pub states_clz : {r : ℕ} → k ≡ 0x34 → r ≡ clz_w w a b → Some r ≡ wide_of w k bytes (a ∷ b ∷ x ∷ y ∷ [])
  unfolding wide_of count_of
  states_clz h e = rw (h, e)

  pub states_ctz : {r : ℕ} → k ≡ 0x35 → r ≡ ctz_w w a b → Some r ≡ wide_of w k bytes (a ∷ b ∷ x ∷ y ∷ [])
  unfolding wide_of count_of
  states_ctz h e = rw (h, e)

  pub states_ctpop : {r : ℕ} → k ≡ 0x36 → r ≡ ctpop_w w a → Some r ≡ wide_of w k bytes (a ∷ b ∷ x ∷ y ∷ [])
  unfolding wide_of ctpop_of
  states_ctpop h e = rw (h, e)

  -- every other kind
  pub states_none : Singles k → (k < 0x11) ⊎ (0x27 < k) → None ≡ wide_of w k bytes (a ∷ b ∷ x ∷ y ∷ [])
  unfolding wide_of
  states_none ((((((((((((u, n28), n29), n2D), n2E), n2F), n30), n31), n32), n33), n34), n35), n36) o =
      rw (
        apart k o 0x11 0x13 (lit≤ tt) (lit≤ tt),
        apart k o 0x14 0x1E (lit≤ tt) (lit≤ tt),
        apart k o 0x1F 0x22 (lit≤ tt) (lit≤ tt),
        apart k o 0x23 0x27 (lit≤ tt) (lit≤ tt),
        ne_eqb k 0x28 n28,
        ne_eqb k 0x29 n29,
        ne_eqb k 0x2D n2D,
        outside 0x2E 0x2F k (none_of_two k 0x2E n2E n2F),
        ne_eqb k 0x30 n30,
        outside 0x31 0x33 k (none_of_three k 0x31 n31 n32 n33),
        outside 0x34 0x35 k (none_of_two k 0x34 n34 n35),
        ne_eqb k 0x36 n36,
      )
