-- A test that passes at every entry of a table, or at every number of a range, by one computation. Assumes nothing.
use mathlib.Core.Path.{◌≡◌, refl, sym, ◌∙◌, subst}
use mathlib.Core.Bool.{Bool, true, false, ◌&&◌, beq}
use mathlib.Core.List.{List, [], ◌∷◌}
use mathlib.Core.Logic.{◌⊎◌, inl, inr}
use Prim.Native.Nat.{ℕ, zero, suc, ◌+◌, ◌≤◌, ◌<◌}
use native.Mathlib.Omega.{arith}
use lib.Dec.{eqb}
use lib.ListN.{length, get_or}
use borrow.Author.Tests.{eqb-true, eqb-false}
use native.Mathlib.Nat.{zero-add, suc-add, add-zero, add-suc}
use lib.Arith.{lt_of_le-ne}
use Rattle.theory.proofs.Sets.{and_l, and_r, tell}

-- the test f passes at each of n numbers from lo
abbrev pub every_from : (ℕ → Bool) → ℕ → ℕ → Bool
every_from f lo zero = true
every_from f lo (suc n) = f lo && every_from f (suc lo) n

pub ranged : (f : ℕ → Bool) (n lo : ℕ) → every_from f lo n ≡ true → (k : ℕ) → lo ≤ k → k < lo + n → f k ≡ true
ranged f zero lo t k l h = absurd (omega arith)
ranged f (suc n) lo t k l h = go (tell (eqb lo k)) (λ p. ranged f n (suc lo) (and_r (f lo) (every_from f (suc lo) n) t) k p (omega arith))
  where
    go : (eqb lo k ≡ true) ⊎ (eqb lo k ≡ false) → (suc lo ≤ k → f k ≡ true) → f k ≡ true
    go (inl e) more = subst (λ (m : ℕ). f m ≡ true) (eqb-true lo k e) (and_l (f lo) (every_from f (suc lo) n) t)
    go (inr e) more = more (lt_of_le-ne l (eqb-false lo k e))

-- the test passes at each entry of a list and its place, counted from lo
abbrev pub every : (ℕ → ℕ → Bool) → ℕ → List ℕ → Bool
every f lo [] = true
every f lo (x ∷ xs) = f lo x && every f (suc lo) xs

from : (f : ℕ → ℕ → Bool) (xs : List ℕ) (lo : ℕ) → every f lo xs ≡ true → (k : ℕ) → k < length xs → f (lo + k) (get_or xs k 0) ≡ true
from f [] lo t k h = absurd (omega arith)
from f (x ∷ xs) lo t zero h = subst (λ (m : ℕ). f m x ≡ true) (sym (add-zero lo)) (and_l (f lo x) (every f (suc lo) xs) t)
from f (x ∷ xs) lo t (suc k) h =
    subst (λ (m : ℕ). f m (get_or xs k 0) ≡ true) (suc-add lo k ∙ sym (add-suc lo k))
    (from f xs (suc lo) (and_r (f lo x) (every f (suc lo) xs) t) k (omega arith))

pub listed : (f : ℕ → ℕ → Bool) (xs : List ℕ) → every f 0 xs ≡ true → (k : ℕ) → k < length xs → f k (get_or xs k 0) ≡ true
listed f xs t k h = subst (λ (m : ℕ). f m (get_or xs k 0) ≡ true) (zero-add k) (from f xs 0 t k h)

-- two tests agree at each number below n
pub beq_same : (a b : Bool) → beq a b ≡ true → a ≡ b
beq_same true true h = refl
beq_same true false h = sym h
beq_same false true h = h
beq_same false false h = refl

pub agreed : (f g : ℕ → Bool) (n : ℕ) → every_from (λ k. beq (f k) (g k)) 0 n ≡ true → (k : ℕ) → k < n → f k ≡ g k
agreed f g n t k h = beq_same (f k) (g k) (ranged (λ j. beq (f j) (g j)) n 0 t k (omega arith) (omega arith))

-- what a match on n numbers from lo leaves over; from 0 on, the numbers from n on
abbrev pub Past : ℕ → ℕ → ℕ → Type 0
Past lo zero k = Unit {0}
Past lo (suc n) k = Past lo n k × (k ≡ lo + n → ⊥)

pub left_over : (n k : ℕ) → Past 0 n k → n ≤ k
left_over zero k p = omega arith
left_over (suc n) k (p, d) = let l = left_over n k p in let d' : k ≡ n → ⊥ = λ e. d (e ∙ sym (zero-add n)) in omega arith
