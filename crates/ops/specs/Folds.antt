-- What fold puts in an op's place. Assumes nothing.
use Rattle.std.specs.Prelude.{ℕ, Bool, cond, ◌&&◌, List, ◌∷◌, eqb, length}
use Rattle.theory.specs.Machine.{head_or}
use Rattle.theory.specs.Fold.{Folding}
use Rattle.memory.specs.Bytes.{bytes_of}
use Rattle.ops.specs.Rows.{Row, is_computing, at}
use Rattle.ops.specs.Ops.{Dialect, tcg}
use Rattle.ops.specs.Fields.{row_at}

-- "becomes a movi of the output's width": the constant of a type, with its output and its value
abbrev pub movi_kind : ℕ → ℕ
movi_kind type = cond (eqb type 0) 0x10 0x90

abbrev pub movi_of : ℕ → ℕ → ℕ → List ℕ
movi_of type d x = movi_kind type ∷ d ∷ bytes_of 8 x

-- an op that may fold: a pure op that reads something; one output
abbrev pub foldable_row : Row → Bool
foldable_row row = is_computing row.role && eqb (length row.outs) 1

-- fold puts the constant of the output's type
abbrev pub folding : (D : Dialect) → Folding (tcg D)
folding D = record { foldable = λ r. foldable_row (row_at D.rows r); const = λ r x. movi_of (head_or 0 (row_at D.rows r).outs) (at r 1) x }
