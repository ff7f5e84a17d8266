-- A pure op states what eval answers. Assumes nothing.
use mathlib.Core.Path.{◌≡◌, refl, sym, ap, ap₂, ◌∙◌}
use mathlib.Core.Bool.{true, false, ◌&&◌}
use Rattle.std.specs.Prelude.{Option}
use mathlib.Core.List.{List}
use Prim.Native.Nat.{ℕ, suc, ◌+◌, ◌-◌, ◌%◌, ◌≤◌}
use native.Mathlib.Omega.{arith}
use lib.Dec.{eqb}
use lib.ListN.{length, get_or, take, drop}
use lib.Seq.{take-take}
use Rattle.theory.specs.Machine.{reads}
use Rattle.ops.specs.Evaluate.{folded_of}
use Rattle.ops.specs.Rows.{Role, computing, outs_in, ins_in, rest_in, is_computing, at}
use Rattle.ops.specs.Kinds.{one, document01}
use Rattle.ops.specs.Table.{kind_table, row_of}
use Rattle.ops.specs.Rows.{operand_count}
use Rattle.ops.specs.Ops.{eval_of}
use Rattle.ops.proofs.Entry.{Digits, digits}
use Rattle.ops.proofs.Inputs.{folded_inputs, two_inputs}
use Rattle.ops.proofs.Table.{row_of_lem}
use Rattle.ops.specs.Folds.{foldable_row}
use Rattle.runs.specs.Evaluates.{Computed, inputs_at, states_at}

-- n operands, and m bytes after them
module _ {b : List ℕ} {p k : ℕ} (c : Computed b p k) {e n m : ℕ} (q : e ≡ get_or kind_table k 0) (en : n ≡ outs_in e + ins_in e) (em : m ≡ rest_in e) where
  folds : foldable_row (row_of k) ≡ true
  folds = ap₂ (λ (r : Role) (outs : ℕ). is_computing r && eqb outs 1) c.role_is (ap length (row_of_lem computing k c.role_is).one_out)

  d : Digits row_of e k
  d = digits kind_table q

  pub bytes_fit : p + 1 + n + m ≤ length b
  bytes_fit = omega (arith, c.stands.whole, d.body)

  pub evaluates : (env : ℕ → ℕ) {u v x y : ℕ} {r : Option ℕ} → u ≡ env (at b (p + 2)) → v ≡ env (at b (p + 3)) → x ≡ env (at b (p + 4))
      → y ≡ env (at b (p + 5)) → r ≡ folded_of k (take (p + 1 + n + m - (p + 1 + n)) (drop (p + 1 + n) b)) u v x y
      → states_at b p k (reads env (inputs_at b p k)) ≡ one r
  evaluates env {u} {v} {x} {y} eu ev ex ey e =
      let rest = (row_of k).rest in
      let bytes = take rest (drop (p + (1 + operand_count row_of k)) b) in
      let size : p + 1 + n + m - (p + 1 + n) ≡ rest = omega (arith, d.rest) in
      let place : p + 1 + n ≡ p + (1 + operand_count row_of k) = omega (arith, d.operands) in
      let same : take (p + 1 + n + m - (p + 1 + n)) (drop (p + 1 + n) b) ≡ bytes = ap₂ (λ (i j : ℕ). take i (drop j b)) size place in
      let e₁ : suc (p + 2) ≡ p + 3 = omega arith in
      let e₂ : suc (suc (p + 2)) ≡ p + 4 = omega arith in
      let e₃ : suc (suc (suc (p + 2))) ≡ p + 5 = omega arith in
      ap (λ (s : List ℕ). eval_of document01 k s (reads env (inputs_at b p k))) (sym (take-take rest rest (drop (p + (1 + operand_count row_of k)) b) (omega arith)))
      ∙ folded_inputs k folds env b bytes (p + 2)
      ∙ rw (e₃, e₂, e₁, ← eu, ← ev, ← ex, ← ey, ← same) (ap one (sym e))

  -- and but for movcond, of the first two values alone
  pub evaluates_two : (env : ℕ → ℕ) {u v : ℕ} {r : Option ℕ} → eqb (k % 0x80) 0x29 ≡ false → u ≡ env (at b (p + 2)) → v ≡ env (at b (p + 3))
      → r ≡ folded_of k (take (p + 1 + n + m - (p + 1 + n)) (drop (p + 1 + n) b)) u v 0 0 → states_at b p k (reads env (inputs_at b p k)) ≡ one r
  evaluates_two env {u} {v} four eu ev e =
      evaluates env eu ev refl refl (e ∙ two_inputs k four (take (p + 1 + n + m - (p + 1 + n)) (drop (p + 1 + n) b)) u v 0 0 (env (at b (p + 4))) (env (at b (p + 5))))
