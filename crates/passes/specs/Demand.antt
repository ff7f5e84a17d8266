-- Demand 3, of what the check, the run and the pass answer. Proved in proofs/Demand.antt. Assumes nothing.
-- The words in quotation marks are the demand's, document 01's on what they mean, and request 04's.
use Rattle.std.specs.Prelude.{ℕ, ◌≤◌, ◌≡◌, Bool, true, false, List, ◌++◌, length, drop, Ok, Err}
use Rattle.theory.specs.Prune.{AllUsed, live_all}
use Rattle.theory.specs.Fold.{nothing, base_rule, Still}
use Rattle.memory.specs.declared.Reason.{Reason}
use Rattle.ops.specs.Ops.{tcg, Dialect}
use Rattle.ops.specs.Kinds.{document01}
use Rattle.ops.specs.Folds.{folding}
use Rattle.ops.specs.Limits.{max_bytes}
use Rattle.block.specs.Checks.{Accepted}
use Rattle.block.specs.Records.{records_of, declarations, ops_from, classes_of}
use Rattle.block.specs.Rules.{globals_in, kept_in}
use Rattle.block.specs.Checks.{check_by}
use Rattle.runs.specs.declared.Ending.TheVariants.{Exit, Fault, NoResult}
use Rattle.runs.specs.Runs.{Answer, Ran, fits, run_by}
use Rattle.passes.specs.Passes.{Length, result_of, pass_by}

-- "A block is accepted if the check gives it no refusal."
abbrev pub IsAccepted : Dialect → List ℕ → Type 0
IsAccepted D block = check_by D.rows block ≡ Accepted

-- "Globals and memory fit it if nothing in row 11 applies to them."
abbrev pub Fit : Dialect → List ℕ → List ℕ → List ℕ → Type 0
Fit D block globals memory = fits (declarations (records_of D.rows block)) globals memory ≡ true

-- "A buffer has room if it is at least as long as the result, whatever it holds."
abbrev pub Room : List ℕ → List ℕ → Type 0
Room result out = length result ≤ length out

-- "A run meets an op without a stated result exactly when it ends in that way."
abbrev pub unstated_end : Answer → Bool
unstated_end (Err refusal) = false
unstated_end (Ok (Exit value count)) = false
unstated_end (Ok (Fault store address flags reason count)) = false
unstated_end (Ok (NoResult position count)) = true

-- "Same exit: the same value. Same fault: load or store alike, the same address and the same flags." "Demand 3's "same fault" includes it", the
-- reason. In no more ops
pub data SameEnd : Answer → Answer → Type 0 where
  same_exit : {value m n : ℕ} → n ≤ m → SameEnd (Ok (Exit value m)) (Ok (Exit value n))
  same_fault : {store : Bool} {address flags : ℕ} {reason : Reason} {m n : ℕ} → n ≤ m
      → SameEnd (Ok (Fault store address flags reason m)) (Ok (Fault store address flags reason n))

-- "Each block runs on its own copy of the same globals and memory; what the runs leave there is compared, temporaries are not.
-- The numbers of ops compared are those that the runs answer."
pub record Alike (source target : Ran) : Type 0 where
  pub end : SameEnd source.answer target.answer
  pub globals : target.globals ≡ source.globals
  pub memory : target.memory ≡ source.memory

-- Demand 3 of a block and an output buffer: what is promised of the pass's answer
pub record Demand3 (D : Dialect) (block out : List ℕ) : Type 0 where
  -- "The pass never refuses an accepted block with room for the result": it answers a length, and the result is that many bytes
  pub size : ℕ
  pub result : List ℕ
  pub answers : pass_by D block out ≡ record { answer = Length size; out = result ++ drop size out }
  pub sized : length result ≡ size
  pub small : size ≤ max_bytes
  -- "its result is accepted"
  pub accepted : IsAccepted D result
  -- "runs to the same exit or fault with the same globals and memory in no more ops (unless the source run meets an op without a stated result)"
  pub alike : (globals memory : List ℕ) → Fit D block globals memory → unstated_end (run_by D block globals memory).answer ≡ false
      → Alike (run_by D block globals memory) (run_by D result globals memory)
  -- "nothing foldable and no dead pure op remains"
  pub folded : Still (tcg D) (base_rule (tcg D) (folding D)) (ops_from (records_of D.rows result)) nothing
  pub used : AllUsed (tcg D) (live_all (tcg D) (globals_in (classes_of (declarations (records_of D.rows result)))) (kept_in (classes_of (declarations (records_of D.rows result))))) (ops_from (records_of D.rows result))
  -- "doing the pass again gives the same bytes": "The pass done again is lent the result's bytes alone as its block."
  pub again : (out' : List ℕ) → Room result out' → pass_by D result out' ≡ record { answer = Length size; out = result ++ drop size out' }

-- for every block that the check accepts and every output buffer with room
abbrev pub DemandOf : Dialect → Type 0
DemandOf D = (block out : List ℕ) → IsAccepted D block → Room (result_of D block) out → Demand3 D block out

-- of document 01
abbrev pub Demand : Type 0
Demand = DemandOf document01
