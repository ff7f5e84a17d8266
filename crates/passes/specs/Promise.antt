-- Demand 3, of the answers of calls as the contracts of the check, the run and the pass give them. Proved in proofs/Promise.antt. Assumes nothing.
-- The words in quotation marks are the demand's, and document 01's on what they mean.
use Rattle.std.specs.Prelude.{◌≡◌, false, List, ℕ, ◌≤◌, length, take, drop}
use Rattle.theory.specs.Fold.{nothing, base_rule, Still}
use Rattle.theory.specs.Prune.{AllUsed, live_all}
use Rattle.ops.specs.Ops.{tcg}
use Rattle.ops.specs.Kinds.{document01}
use Rattle.ops.specs.Table.{row_of}
use Rattle.ops.specs.Folds.{folding}
use Rattle.ops.specs.Limits.{max_bytes}
use Rattle.block.specs.Checks.{Checked}
use Rattle.block.specs.Records.{records_of, declarations, ops_from, classes_of}
use Rattle.block.specs.Rules.{globals_in, kept_in}
use Rattle.runs.specs.Runs.{Answer, Run}
use Rattle.passes.specs.Demand.{Fit, Room, unstated_end, SameEnd}
use Rattle.passes.specs.Passes.{result_of, Written, Length, Optimised}
use Rattle.block.specs.Checks.{Verdict}
use Rattle.block.specs.Checks.{Accepted}

-- the answer is the result's length, the result is the first bytes, and "bytes of the buffer after it stay as they were"
pub record Wrote (size : ℕ) (result out : List ℕ) (answer : Written) (out' : List ℕ) : Type 0 where
  pub answers : answer ≡ Length size
  pub first : take size out' ≡ result
  pub rest : drop size out' ≡ drop size out

-- what holds of a pass that answered, and of every call that answers after it
pub record Promise (block out : List ℕ) (answer : Written) (out' : List ℕ) : Type 0 where
  -- "The pass never refuses an accepted block with room for the result"
  pub size : ℕ
  pub result : List ℕ
  pub wrote : Wrote size result out answer out'
  pub sized : length result ≡ size
  pub small : size ≤ max_bytes
  -- "its result is accepted"
  pub accepted : (verdict : Verdict) → Checked result verdict → verdict ≡ Accepted
  -- "runs to the same exit or fault with the same globals and memory in no more ops (unless the source run meets an op without a stated result)"
  pub alike : (globals memory : List ℕ) (ending ending' : Answer) (globals₁ memory₁ globals₂ memory₂ : List ℕ) → Fit document01 block globals memory
      → Run block globals memory ending globals₁ memory₁ → Run result globals memory ending' globals₂ memory₂
      → unstated_end ending ≡ false → SameEnd ending ending' × (globals₂ ≡ globals₁) × (memory₂ ≡ memory₁)
  -- "nothing foldable and no dead pure op remains"
  pub folded : Still (tcg document01) (base_rule (tcg document01) (folding document01)) (ops_from (records_of row_of result)) nothing
  pub used : AllUsed (tcg document01) (live_all (tcg document01) (globals_in (classes_of (declarations (records_of row_of result)))) (kept_in (classes_of (declarations (records_of row_of result))))) (ops_from (records_of row_of result))
  -- "doing the pass again gives the same bytes"
  pub again : (buffer : List ℕ) (answer' : Written) (buffer' : List ℕ) → Room result buffer → Optimised result buffer answer' buffer'
      → Wrote size result buffer answer' buffer'

-- for every block that a call of the check accepted and every buffer with room, of every call of the pass
abbrev pub Promised : Type 0
Promised = (block out : List ℕ) (answer : Written) (out' : List ℕ) → Checked block Accepted → Room (result_of document01 block) out
    → Optimised block out answer out' → Promise block out answer out'
