-- What an op that may fold states, from four values. Assumes nothing.
use Rattle.std.specs.Prelude.{ℕ, cond, List, [], ◌∷◌, Option, None}
use Rattle.ops.specs.Kinds.{computed_of}
use Rattle.ops.specs.Table.{row_of}
use Rattle.ops.specs.Ops.{at_types}
use Rattle.ops.specs.Folds.{foldable_row}

-- from the bytes after the operands and four values, of which an op reads as many as it has inputs; none for every other kind
unfoldable pub folded_of : ℕ → List ℕ → ℕ → ℕ → ℕ → ℕ → Option ℕ
folded_of k bytes a b x y = cond (foldable_row (row_of k)) (computed_of k bytes (at_types (row_of k).ins (a ∷ b ∷ x ∷ y ∷ []))) None
