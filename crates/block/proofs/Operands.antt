-- Loops over the operands of a record that stop at the first one that fails a test. Assumes nothing.
use mathlib.Core.Path.{◌≡◌, refl, sym, ap, ap₂, ◌∙◌}
use mathlib.Core.Bool.{Bool, true, false, not, ◌&&◌}
use mathlib.Core.Logic.{◌⊎◌, inl, inr}
use mathlib.Core.List.{List, [], ◌∷◌}
use Prim.Native.Nat.{ℕ, zero, suc, ◌+◌, ◌-◌, ◌/◌, ◌%◌, ◌≤◌, ◌<◌}
use native.Mathlib.Omega.{arith}
use lib.Dec.{eqb, ltb}
use lib.ListN.{length, take, drop}
use lib.Seq.{drop-cons}
use borrow.Author.Tests.{ltb-true, ltb-false, lt-ltb, le-ltb}
use native.Mathlib.Nat.{sub-zero, add-zero}
use Rattle.std.specs.Prelude.{◌↔◌, All, IsTrue}
use Rattle.std.proofs.lemmas.Bool.Decides.{Decides-by_and, same_from_decides}
use Rattle.theory.proofs.Sets.{tell}
use Rattle.ops.specs.Rows.{at}
use Rattle.ops.specs.Fields.{bytes_at}
use Rattle.block.specs.Scan.{codes_in, fits_as, operands_fit, declared_all}

-- the test f passes at each value; s goes along
abbrev pub each_by : (ℕ → ℕ → Bool) → (ℕ → ℕ) → ℕ → List ℕ → Bool
each_by f step s [] = true
each_by f step s (v ∷ vs) = f s v && each_by f step (step s) vs

-- what is left to test from the i-th of n bytes from p on, with s, decides the whole, with s₀
pub record Left (f : ℕ → ℕ → Bool) (step : ℕ → ℕ) (b : List ℕ) (p n s₀ i s : ℕ) : Type 0 where
  pub left : each_by f step s (bytes_at b (p + i) (n - i)) ≡ each_by f step s₀ (bytes_at b p n)

pub left_start : (f : ℕ → ℕ → Bool) (step : ℕ → ℕ) (b : List ℕ) (p n s : ℕ) → Left f step b p n s 0 s
left_start f step b p n s = record { left = rw (add-zero p, sub-zero n) }

module _ {f : ℕ → ℕ → Bool} {step : ℕ → ℕ} {b : List ℕ} {p n s₀ i s : ℕ} (l : Left f step b p n s₀ i s) where
  turn : i < n → (f s (at b (p + i)) && each_by f step (step s) (bytes_at b (p + (i + 1)) (n - (i + 1)))) ≡ each_by f step s₀ (bytes_at b p n)
  turn h =
      let e : n - i ≡ suc (n - (i + 1)) = omega arith in
      let q : suc (p + i) ≡ p + (i + 1) = omega arith in
      rw (← q) (rw e at l.left)

  pub left_next : i < n → f s (at b (p + i)) ≡ true → Left f step b p n s₀ (i + 1) (step s)
  left_next h t = record { left = rw t at (turn h) }

  pub left_stops : i < n → f s (at b (p + i)) ≡ false → false ≡ each_by f step s₀ (bytes_at b p n)
  left_stops h t = rw t at (turn h)

  pub left_ends : n ≤ i → true ≡ each_by f step s₀ (bytes_at b p n)
  left_ends h = let e : n - i ≡ 0 = omega arith in rw e at l.left

-- n bytes from p on, as a slice
pub bytes_taken : (b : List ℕ) (p n : ℕ) → p + n ≤ length b → take n (drop p b) ≡ bytes_at b p n
bytes_taken b p zero h = refl
bytes_taken b p (suc n) h =
    let l : p < length b = omega arith in
    rw (drop-cons b p 0 l) (ap (λ (t : List ℕ). at b p ∷ t) (bytes_taken b (suc p) n (omega arith)))

-- rule 4: each is declared
pub declared_so : (vars vs : List ℕ) (r : Bool) → (IsTrue r ↔ All (λ v. IsTrue (not (eqb (codes_in vars v % 16) 15))) vs) → r ≡ declared_all vars vs
declared_so vars vs r h =
    same_from_decides r (declared_all vars vs) h
    (Decides-by_and (λ v. not (eqb (codes_in vars v % 16) 15)) (λ v. IsTrue (not (eqb (codes_in vars v % 16) 15))) (declared_all vars) (λ v. (λ t. t, λ t. t)) refl (λ _ _. refl) vs)

-- rules 4, 5 and 8 together: each fits
pub record Fits (b vars : List ℕ) (p count outs codes i rest : ℕ) : Type 0 where
  pub left : operands_fit vars (outs - i) rest (bytes_at b (p + i) (count - i)) ≡ operands_fit vars outs codes (bytes_at b p count)

pub fits_start : (b vars : List ℕ) (p count outs codes : ℕ) → Fits b vars p count outs codes 0 codes
fits_start b vars p count outs codes = record { left = rw (add-zero p, sub-zero count, sub-zero outs) }

output_at : (i outs : ℕ) → ltb 0 (outs - i) ≡ ltb i outs
output_at i outs = go (tell (ltb i outs))
  where
    go : (ltb i outs ≡ true) ⊎ (ltb i outs ≡ false) → ltb 0 (outs - i) ≡ ltb i outs
    go (inl t) = lt-ltb 0 (outs - i) (omega (arith, ltb-true i outs t)) ∙ sym t
    go (inr t) = le-ltb 0 (outs - i) (omega (arith, ltb-false i outs t)) ∙ sym t

module _ {b vars : List ℕ} {p count outs codes i rest code : ℕ} {r : Bool} (l : Fits b vars p count outs codes i rest) (h : i < count) (e : code ≡ codes_in vars (at b (p + i)))
    (f : r ≡ fits_as (ltb i outs) code (rest % 4)) where
  fit_turn : (r && operands_fit vars (outs - (i + 1)) (rest / 4) (bytes_at b (p + (i + 1)) (count - (i + 1)))) ≡ operands_fit vars outs codes (bytes_at b p count)
  unfolding operands_fit
  fit_turn =
      let m : count - i ≡ suc (count - (i + 1)) = omega arith in
      let q : suc (p + i) ≡ p + (i + 1) = omega arith in
      let o : outs - i - 1 ≡ outs - (i + 1) = omega arith in
      let t : fits_as (ltb 0 (outs - i)) (codes_in vars (at b (p + i))) (rest % 4) ≡ r =
      ap₂ (λ (k : Bool) (x : ℕ). fits_as k x (rest % 4)) (output_at i outs) (sym e) ∙ sym f in
      rw (← q, ← o, ← t) (rw m at l.left)

  pub fits_next : r ≡ true → Fits b vars p count outs codes (i + 1) (rest / 4)
  fits_next t = record { left = rw t at fit_turn }

  pub fits_stops : r ≡ false → false ≡ operands_fit vars outs codes (bytes_at b p count)
  fits_stops t = rw t at fit_turn

pub fits_ends : {b vars : List ℕ} {p count outs codes i rest : ℕ} → Fits b vars p count outs codes i rest → count ≤ i → true ≡ operands_fit vars outs codes (bytes_at b p count)
unfolding operands_fit
fits_ends {count = count} {i = i} l h = let m : count - i ≡ 0 = omega arith in rw m at l.left
