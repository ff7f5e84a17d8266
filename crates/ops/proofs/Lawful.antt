-- What the laws take of a dialect. Assumes nothing.
use mathlib.Core.Path.{◌≡◌}
use mathlib.Core.Bool.{true, false}
use Rattle.std.specs.Prelude.{Some}
use mathlib.Core.List.{List, [], ◌∷◌}
use Prim.Native.Nat.{ℕ, suc}
use lib.ListN.{length}
use Rattle.theory.specs.Machine.{calc}
use Rattle.ops.specs.Rows.{Row, known, body_length, test_ok}
use Rattle.ops.specs.Ops.{Dialect, eval_of, view_of}
use Rattle.ops.specs.Fields.{kind_of, row_at, outs_by, ins_by, rest_by}
use Rattle.ops.specs.Lawful.{LawfulTable}
use Rattle.ops.specs.Folds.{foldable_row, movi_of}

-- m is a constant of the type t, with the output d and the value x: what it does, and what the check finds in it
pub record Constant (D : Dialect) (t d x : ℕ) (m : List ℕ) : Type 0 where
  pub view : view_of D m ≡ calc (d ∷ []) [] (λ ys. Some (x ∷ []))
  pub is_known : known D.rows (kind_of m) ≡ true
  pub long : length m ≡ suc (body_length D.rows (kind_of m))
  pub outs : outs_by (row_at D.rows m) m ≡ d ∷ []
  pub ins : ins_by (row_at D.rows m) m ≡ []
  pub types : (row_at D.rows m).outs ≡ t ∷ []
  pub no_inputs : (row_at D.rows m).ins ≡ []
  pub rest : test_ok (row_at D.rows m).test (rest_by (row_at D.rows m) m) ≡ true

-- what an op that may fold states: one value, and the dialect has a constant of it, of the output's type
pub record States (D : Dialect) (row : Row) (vs : List ℕ) : Type 0 where
  pub type : ℕ
  pub value : ℕ
  pub one_out : row.outs ≡ type ∷ []
  pub one_value : vs ≡ value ∷ []
  pub constant_of : (d : ℕ) → Constant D type d value (movi_of type d value)

pub record Lawful (D : Dialect) : Type 0 where
  pub table : LawfulTable D.rows
  -- an op that may fold states such a value, and a constant does not fold
  pub folds : (k : ℕ) → foldable_row (D.rows k) ≡ true → (bytes xs vs : List ℕ) → eval_of D k bytes xs ≡ Some vs → States D (D.rows k) vs
  pub fixed : (t d x : ℕ) → foldable_row (row_at D.rows (movi_of t d x)) ≡ false
