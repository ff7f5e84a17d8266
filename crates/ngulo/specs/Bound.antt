-- The header's ngulo_result_bound: how long a result can be, by the length of its block. Proved in proofs/Bound.antt. Assumes nothing.
use Rattle.std.specs.Prelude.{◌≡◌, List, ℕ, ◌*◌, ◌≤◌, length}
use Rattle.block.specs.Checks.{check_of}
use Rattle.block.specs.Checks.{Accepted}
use Rattle.ops.specs.Kinds.{document01}
use Rattle.ops.specs.Limits.{max_bytes}
use Rattle.passes.specs.Passes.{result_of}

-- for every accepted block: at most `max_bytes` bytes, and at most ten for each three of the block
pub record Bounded (block : List ℕ) : Type 0 where
  pub most : length (result_of document01 block) ≤ max_bytes
  pub ten_for_three : 3 * length (result_of document01 block) ≤ 10 * length block

abbrev pub ResultBound : Type 0
ResultBound = (block : List ℕ) → check_of block ≡ Accepted → Bounded block
