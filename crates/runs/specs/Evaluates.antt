-- What a pure op states of its inputs, where it stands in a block. Assumes nothing.
use Rattle.std.specs.Prelude.{◌≡◌, cond, List, ℕ, ◌+◌, ◌≤◌, ◌<◌, ltb, length, get_or, take, drop, Option}
use Rattle.ops.specs.Rows.{computing}
use Rattle.ops.specs.Kinds.{document01}
use Rattle.ops.specs.Table.{row_of}
use Rattle.ops.specs.Rows.{role_of, operand_count}
use Rattle.ops.specs.Ops.{eval_of}
use Rattle.ops.specs.Fields.{bytes_at}
use Rattle.block.specs.Scan.{Stands, SetAt}

-- a pure op that reads something stands at the place
pub record Computed (block : List ℕ) (place kind : ℕ) : Type 0 where
  pub stands : Stands row_of block place kind
  pub role_is : role_of row_of kind ≡ computing

-- its inputs, and what it states of their values
abbrev pub inputs_at : List ℕ → ℕ → ℕ → List ℕ
inputs_at block place kind = bytes_at block (place + 2) (length (row_of kind).ins)

abbrev pub states_at : List ℕ → ℕ → ℕ → List ℕ → Option (List ℕ)
states_at block place kind = eval_of document01 kind (take (row_of kind).rest (drop (place + (1 + operand_count row_of kind)) block))

-- what the variables hold: the first are the globals, as many as are lent; the others are temporaries of either class
unfoldable pub env_of : List ℕ → List ℕ → ℕ → ℕ
env_of globals temps = λ v. cond (ltb v (length globals)) (get_or globals v 0) (get_or temps v 0)

-- the variable v now holds x: one of the lists has changed, at one place
pub record PutAt (globals temps : List ℕ) (v x : ℕ) (globals' temps' : List ℕ) : Type 0 where
  pub global : v < length globals → SetAt globals v x globals' × (temps' ≡ temps)
  pub other : length globals ≤ v → (globals' ≡ globals) × SetAt temps v x temps'
