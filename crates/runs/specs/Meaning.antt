-- What the run's answers mean, for readers. Proved in proofs/Meaning.antt. Assumes nothing.
use Rattle.std.specs.Prelude.{◌≡◌, Bool, true, List, [], ℕ, suc, ◌-◌, ◌<◌, ◌⊎◌, length, get_or, drop, None, Ok}
use Rattle.theory.specs.Machine.{exit, fault, stops, inputs, computes, pure, reads, effect, St, goes, step}
use Rattle.memory.specs.declared.Reason.{Reason}
use Rattle.ops.specs.Ops.{Dialect, view_of, tcg, fault_of}
use Rattle.block.specs.Checks.{check_by}
use Rattle.block.specs.Records.{records_of, declarations, ops_from}
use Rattle.block.specs.Checks.{Accepted}
use Rattle.runs.specs.Runs.{fits, entry, values_from, Answer, no_answer, answer_of, ops_run, run_by}
use Rattle.runs.specs.declared.Ending.TheVariants.{Exit, Fault, NoResult}

-- so many ops, completed one after the other "along the path taken", lead from the ops r and the state s to the ops r' and the state s'
pub data PathTaken (D : Dialect) (ops : List (List ℕ)) : ℕ → List (List ℕ) → St (tcg D) → List (List ℕ) → St (tcg D) → Type 0 where
  here : {r : List (List ℕ)} {s : St (tcg D)} → PathTaken D ops 0 r s r s
  on : {n : ℕ} {r q r' : List (List ℕ)} {s t s' : St (tcg D)} → step (tcg D) ops r s ≡ goes q t → PathTaken D ops n q t r' s' → PathTaken D ops (suc n) r s r' s'

-- the op is pure and states nothing of the values that its inputs have
pub record StatesNothing (D : Dialect) (op : List ℕ) (s : St (tcg D)) : Type 0 where
  pub op_pure : pure (view_of D op) ≡ true
  pub none_stated : computes (view_of D op) (reads s.env (inputs (view_of D op))) ≡ None

-- what the op at a position answers in a state, after so many completed ops: it exits with this value; it faults with "load or store, address
-- and flags", and the reason; or it states nothing. It counts: "the op that exits or faults does, and the op without a result does not". No op
-- answers a refusal
pub data Answers (D : Dialect) (op : List ℕ) (s : St (tcg D)) (position completed : ℕ) : Answer → Type 0 where
  exits : {value : ℕ} → effect 0 (view_of D op) s ≡ stops (exit value) → Answers D op s position completed (Ok (Exit value (suc completed)))
  faults : {store : Bool} {address flags : ℕ} {reason : Reason} → effect 0 (view_of D op) s ≡ stops (fault (fault_of store address flags reason))
      → Answers D op s position completed (Ok (Fault store address flags reason (suc completed)))
  unstated : StatesNothing D op s → Answers D op s position completed (Ok (NoResult position completed))

-- a run of these ops from the state s on: the op at a position, "counted from 0 among the ops", ended it, in the state s' that the completed
-- ops left
pub record Ended (D : Dialect) (ops : List (List ℕ)) (s : St (tcg D)) (answer : Answer) (s' : St (tcg D)) : Type 0 where
  pub position : ℕ
  pub completed : ℕ
  pub inside : position < length ops
  pub path : PathTaken D ops completed ops s (drop position ops) s'
  pub answers : Answers D (get_or ops position []) s' position completed answer

-- whatever the ops are, one of them ended the run, or it has no answer: it came past the last op, or was out of steps
abbrev pub OpsMean : Dialect → Type 0
OpsMean D = (ops : List (List ℕ)) (s : St (tcg D)) →
    let r = ops_run D ops s in
    let answer = answer_of r.end (length ops - length r.left) r.count in
    (answer ≡ no_answer) ⊎ Ended D ops s answer r.state

-- an accepted block's run has an answer: "It ends in one of three ways", by one of its ops. "The globals and memory then hold what the completed ops left."
pub record RunMeans (D : Dialect) (block globals memory : List ℕ) : Type 0 where
  pub left : St (tcg D)
  pub ended : Ended D (ops_from (records_of D.rows block)) (entry D globals memory) (run_by D block globals memory).answer left
  pub globals_left : (run_by D block globals memory).globals ≡ values_from left.env 0 (length globals)
  pub memory_left : (run_by D block globals memory).memory ≡ left.mem

-- every run of an accepted block, on globals and memory that fit it
abbrev pub RunsMean : Dialect → Type 0
RunsMean D = (block globals memory : List ℕ) → check_by D.rows block ≡ Accepted → fits (declarations (records_of D.rows block)) globals memory ≡ true
    → RunMeans D block globals memory
