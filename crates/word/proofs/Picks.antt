-- Which results are stated, over the width. Assumes nothing.
use mathlib.Core.Path.{◌≡◌, sym, ◌∙◌, subst}
use mathlib.Core.Bool.{Bool, true, false}
use Prim.Native.Nat.{ℕ, ◌-◌, ◌^◌, ◌≤◌, ◌<◌}
use Rattle.std.specs.Prelude.{None, Some}
use lib.Dec.{T, eqb}
use borrow.Author.Tests.{eq-eqb, ne_eqb, lt-ltb, le-ltb}
use Rattle.word.specs.Word.{by_divisor, no_quotient, by_signed, by_count}

-- a count below the width, and one at or above it
pub counted : (w : ℕ) {k v r : ℕ} → k < w → r ≡ v → Some r ≡ by_count w k v
unfolding by_count
counted w h e = rw (lt-ltb _ w h, e)

pub uncounted : (w : ℕ) {k : ℕ} (v : ℕ) → w ≤ k → None ≡ by_count w k v
unfolding by_count
uncounted w v h = rw (le-ltb _ w h)

-- a divisor that is zero, and another
pub by_zero : {b : ℕ} (v : ℕ) → b ≡ 0 → None ≡ by_divisor b v
unfolding by_divisor
by_zero {b} v h = rw (eq-eqb b 0 h)

pub by_other : {b v : ℕ} → (b ≡ 0 → ⊥) → Some v ≡ by_divisor b v
unfolding by_divisor
by_other {b} h = rw (ne_eqb b 0 h)

-- no quotient: by zero, the smallest value by minus one, and the others
module _ (w a b : ℕ) where
  pub none_by_zero : b ≡ 0 → eqb b 0 ≡ no_quotient w a b
  none_by_zero h = rw (eq-eqb b 0 h)

  pub none_of_least : (b ≡ 0 → ⊥) → a ≡ 2 ^ (w - 1) → eqb b (2 ^ w - 1) ≡ no_quotient w a b
  none_of_least n p = rw (ne_eqb b 0 n, eq-eqb a (2 ^ (w - 1)) p)

  pub none_else : (b ≡ 0 → ⊥) → (a ≡ 2 ^ (w - 1) → ⊥) → eqb a (2 ^ (w - 1)) ≡ no_quotient w a b
  none_else n p = rw (ne_eqb b 0 n, ne_eqb a (2 ^ (w - 1)) p)

-- what a test for it settles
module _ (w a b : ℕ) {r : Bool} (e : r ≡ no_quotient w a b) where
  pub signed_none : (v : ℕ) → r ≡ true → None ≡ by_signed w a b v
  unfolding by_signed
  signed_none v t = rw (sym e ∙ t)

  pub signed_value : {x v : ℕ} → r ≡ false → x ≡ v → Some x ≡ by_signed w a b v
  unfolding by_signed
  signed_value f q = rw (sym e ∙ f, q)

  pub not_by_zero : r ≡ false → b ≡ 0 → ⊥
  not_by_zero f z = absurd (subst T (sym (eq-eqb b 0 z) ∙ (none_by_zero w a b z ∙ (sym e ∙ f))) tt)

  pub not_least : r ≡ false → a ≡ 2 ^ (w - 1) → b ≡ 2 ^ w - 1 → ⊥
  not_least f p q = absurd (subst T (sym (eq-eqb b (2 ^ w - 1) q) ∙ (none_of_least w a b (not_by_zero f) p ∙ (sym e ∙ f))) tt)
