-- What a kind that may fold states of four values, by its family, and that every other kind states nothing. Assumes nothing.
use mathlib.Core.Path.{◌≡◌, refl, sym, ap, ◌∙◌}
use mathlib.Core.Bool.{true, false}
use mathlib.Core.List.{List, [], ◌∷◌}
use mathlib.Core.Logic.{⊎_elim, ◌⊎◌, inl, inr}
use Prim.Native.Nat.{ℕ, zero, suc, ◌-◌, ◌%◌, ◌^◌, ◌≤◌, ◌<◌}
use native.Mathlib.Omega.{arith}
use native.Mathlib.Nat.{mod-mod, mod-eq_of_lt, zero-mod}
use lib.Dec.{eqb}
use lib.ListN.{length}
use borrow.Author.Tests.{eqb-true, eqb-false, lt-ltb, le-ltb}
use Rattle.theory.proofs.Sets.{and_l, and_r, tell}
use Rattle.ops.specs.Eval.{convert_of}
use Rattle.ops.specs.Evaluate.{folded_of}
use Rattle.ops.specs.Rows.{bits_of, at}
use Rattle.ops.specs.Kinds.{between, wide_of, computed_of}
use Rattle.ops.specs.Table.{row_of}
use Rattle.ops.specs.Ops.{at_types}
use Rattle.ops.proofs.Inputs.{within, outside, folds_alike, unstated_kind}
use Rattle.ops.proofs.Fits.{all_are, in_type, ins_are, extending, narrow, wide}
use Rattle.ops.specs.Folds.{foldable_row}

-- values read at one type
read_at : (t : ℕ) (ts vs : List ℕ) → all_are t ts ≡ true → (i : ℕ) → i < length ts → at (at_types ts vs) i ≡ at vs i % 2 ^ bits_of t
read_at t [] vs h i l = absurd (omega arith)
read_at t (x ∷ ts) [] h zero l = sym (zero-mod (2 ^ bits_of t))
read_at t (x ∷ ts) [] h (suc i) l = read_at t ts [] (and_r (eqb x t) (all_are t ts) h) i (omega arith)
read_at t (x ∷ ts) (v ∷ vs) h zero l = ap (λ (y : ℕ). v % 2 ^ bits_of y) (eqb-true x t (and_l (eqb x t) (all_are t ts) h))
read_at t (x ∷ ts) (v ∷ vs) h (suc i) l = read_at t ts vs (and_r (eqb x t) (all_are t ts) h) i (omega arith)

abbrev reduced : ℕ → List ℕ → List ℕ
reduced m [] = []
reduced m (v ∷ vs) = v % m ∷ reduced m vs

each_reduced : (m : ℕ) (vs : List ℕ) (i : ℕ) → at (reduced m vs) i ≡ at vs i % m
each_reduced m [] i = sym (zero-mod m)
each_reduced m (v ∷ vs) zero = refl
each_reduced m (v ∷ vs) (suc i) = each_reduced m vs i

module _ (k : ℕ) (bytes : List ℕ) (a b x y : ℕ) where
  abbrev four : List ℕ
  four = a ∷ b ∷ x ∷ y ∷ []

  -- of a kind whose inputs all have the type t
  folds_at : (t : ℕ) → in_type k ≡ t → foldable_row (row_of k) ≡ true → folded_of k bytes a b x y ≡ computed_of k bytes (reduced (2 ^ bits_of t) four)
  unfolding folded_of
  folds_at t e h =
      rw h
      (folds_alike k h
      (record {
        values = λ i l. read_at t (row_of k).ins four (ap (λ (n : ℕ). all_are n (row_of k).ins) (sym e) ∙ ins_are k h) i l ∙ sym (each_reduced (2 ^ bits_of t) four i);
        bytes_so = λ i l. refl;
      }))

  -- a kind that may fold, and one that does not
  by_row : (t : ℕ) → k < 256 → in_type k ≡ t → computed_of k bytes (reduced (2 ^ bits_of t) four) ≡ folded_of k bytes a b x y
  unfolding folded_of
  by_row t h e = go (tell (foldable_row (row_of k)))
    where
      go : (foldable_row (row_of k) ≡ true) ⊎ (foldable_row (row_of k) ≡ false) → computed_of k bytes (reduced (2 ^ bits_of t) four) ≡ folded_of k bytes a b x y
      go (inl f) = sym (folds_at t e f)
      go (inr f) = unstated_kind k h f bytes (reduced (2 ^ bits_of t) four) ∙ sym (rw f)

  -- the kinds below 80 but for 05 to 07, and those from 80 on, from inputs read at their width
  pub read_narrow : {p q r s : ℕ} → (k < 0x05) ⊎ ((0x07 < k) × (k < 0x80)) → p ≡ a % 2 ^ 32 → q ≡ b % 2 ^ 32 → r ≡ x % 2 ^ 32 → s ≡ y % 2 ^ 32
      → wide_of 32 k bytes (p ∷ q ∷ r ∷ s ∷ []) ≡ folded_of k bytes a b x y
  unfolding computed_of
  read_narrow o e f g h =
      let none : between 0x05 0x07 k ≡ false = outside 0x05 0x07 k (λ u v. ⊎_elim (λ t. omega arith) (λ t. omega (arith, t.0)) o) in
      let l : k < 0x80 = ⊎_elim (λ t. omega arith) (λ t. t.1) o in
      rw (e, f, g, h) (sym (rw (none, lt-ltb k 0x80 l)) ∙ by_row 0 (omega arith) (narrow k none l).in_is)

  pub read_wide : 0x80 ≤ k → k < 256 → a < 2 ^ 64 → b < 2 ^ 64 → x < 2 ^ 64 → y < 2 ^ 64 → wide_of 64 (k - 0x80) bytes four ≡ folded_of k bytes a b x y
  unfolding computed_of
  read_wide l m e f g h =
      sym (rw (outside 0x05 0x07 k (λ u v. omega arith), le-ltb k 0x80 l, mod-eq_of_lt e, mod-eq_of_lt f, mod-eq_of_lt g, mod-eq_of_lt h)) ∙ by_row 1 m (wide k l).in_is

  -- the kinds 05 to 07: each reads the low 32 bits
  pub folded_convert : 0x05 ≤ k → k ≤ 0x07 → a < 2 ^ 64 → folded_of k bytes a b x y ≡ convert_of k (a % 2 ^ 32)
  unfolding computed_of convert_of
  folded_convert p q h = go (tell (eqb k 0x07))
    where
      go : (eqb k 0x07 ≡ true) ⊎ (eqb k 0x07 ≡ false) → folded_of k bytes a b x y ≡ convert_of k (a % 2 ^ 32)
      go (inl e) =
          sym (by_row 1 (omega arith) (ap in_type (eqb-true k 0x07 e))) ∙ rw (within 0x05 0x07 k p q, eqb-true k 0x07 e, mod-eq_of_lt h, mod-mod a (2 ^ 32))
      go (inr e) = sym (by_row 0 (omega arith) (extending k p (omega (arith, eqb-false k 0x07 e))).in_is) ∙ rw (within 0x05 0x07 k p q)
