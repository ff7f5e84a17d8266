-- Ops at places of a block, what fold leaves of them, and those that are kept. Assumes nothing.
use Rattle.std.specs.Prelude.{◌≡◌, ℕ, zero, suc, ◌+◌, ◌<◌, cond, List, [], ◌∷◌, eqb, ltb, length, get_or, Some}
use Rattle.theory.specs.Machine.{calc}
use Rattle.ops.specs.Rows.{body_length, role_of, computing}
use Rattle.ops.specs.Ops.{view_of}
use Rattle.ops.specs.Kinds.{document01}
use Rattle.ops.specs.Table.{row_of}
use Rattle.ops.specs.Folds.{folding}
use Rattle.block.specs.Scan.{record_at, Stands}

-- n ops, the first of them at the i-th place
unfoldable pub ops_at : List ℕ → List ℕ → ℕ → ℕ → List (List ℕ)
ops_at block places i zero = []
ops_at block places i (suc n) = record_at row_of block (get_or places i 0) ∷ ops_at block places (suc i) n

-- the place of the i-th of so many ops; after the last, the block's end
abbrev pub place_of : List ℕ → List ℕ → ℕ → ℕ → ℕ
place_of block places ops i = cond (ltb i ops) (get_or places i 0) (length block)

-- so many ops stand at the places, one after the other up to the block's end
pub record Laid (block places : List ℕ) (ops : ℕ) : Type 0 where
  pub stands : (i : ℕ) → i < ops → Stands row_of block (get_or places i 0) (get_or block (get_or places i 0) 0)
  pub next_is : (i : ℕ) → i < ops → place_of block places ops (i + 1) ≡ get_or places i 0 + suc (body_length row_of (get_or block (get_or places i 0) 0))

-- the constant of this value, in place of the op at a place
pub record Constant (block : List ℕ) (place value : ℕ) (op : List ℕ) : Type 0 where
  pub op_is : op ≡ (folding document01).const (record_at row_of block place) value
  pub role_is : role_of row_of (get_or block place 0) ≡ computing
  pub view_is : view_of document01 op ≡ calc (get_or block (place + 1) 0 ∷ []) [] (λ ys. Some (value ∷ []))

-- what fold leaves of the op at a place, by its mark: 0, the op as it is; 1, a constant
pub record Leaves (block : List ℕ) (place mark value : ℕ) (op : List ℕ) : Type 0 where
  pub stays : mark ≡ 0 → op ≡ record_at row_of block place
  pub becomes : mark ≡ 1 → Constant block place value op

-- what is written in place of the op at a place, by its mark: the constant, or nothing
abbrev pub edit_of : List ℕ → ℕ → ℕ → ℕ → List ℕ
edit_of block place mark value = cond (eqb mark 1) ((folding document01).const (record_at row_of block place) value) []

-- the ops that are kept, the first of them the i-th: those whose mark is below 2
unfoldable pub kept_from : ℕ → List ℕ → List (List ℕ) → List (List ℕ)
kept_from i marks [] = []
kept_from i marks (o ∷ os) = let more = kept_from (suc i) marks os in cond (ltb (get_or marks i 0) 2) (o ∷ more) more
