-- The run: its answer, and the globals and memory that it leaves. Assumes nothing.
use Rattle.std.specs.Prelude.{ℕ, zero, suc, ◌-◌, ◌≡◌, Bool, true, cond, ◌&&◌, List, [], ◌∷◌, eqb, leb, length, get_or, Ok, Err}
use Rattle.theory.specs.Machine.{St, End, exit, fault, unstated, fell, spent, Result, runs}
use Rattle.ops.specs.Limits.{max_memory}
use Rattle.ops.specs.Rows.{bits_of, narrow_ok}
use Rattle.ops.specs.Ops.{Fault, tcg, Dialect}
use Rattle.ops.specs.Kinds.{document01}
use Rattle.block.specs.Records.{records_of, declarations, ops_from, classes_of, declared_types, global_count}
use Rattle.block.specs.Checks.{OrRefused, Verdict, check_by}
use Rattle.runs.specs.declared.Ending.{Ending}
use Rattle.runs.specs.declared.Ending.TheVariants.{Exit, Fault as Faulted, NoResult}

-- 11: "number of lent globals differs from those declared, a 32-bit global of 2^32 or more, memory above 65,536 bytes"
abbrev pub globals_fit : List ℕ → List ℕ → Bool
globals_fit ts [] = true
globals_fit [] (g ∷ gs) = true
globals_fit (t ∷ ts) (g ∷ gs) = narrow_ok (bits_of t) g && globals_fit ts gs

unfoldable pub fits : List (List ℕ) → List ℕ → List ℕ → Bool
fits declared globals memory = eqb (length globals) (global_count (classes_of declared)) && globals_fit (declared_types declared) globals && leb (length memory) max_memory

-- "Globals outlive the block. Local temporaries last for the block and start at zero (our rule)."
abbrev pub entry : (D : Dialect) → List ℕ → List ℕ → St (tcg D)
entry D globals memory = record { env = λ v. get_or globals v 0; mem = memory }

-- n values from the variable v on
abbrev pub values_from : (ℕ → ℕ) → ℕ → ℕ → List ℕ
values_from env v zero = []
values_from env v (suc n) = env v ∷ values_from env (suc v) n

-- a run's answer: how it ended, or a refusal
abbrev pub Answer : Type 0
Answer = OrRefused Ending

abbrev pub Refused : ℕ → ℕ → Answer
Refused number place = Err (record { number = number; place = place })

-- what a run answers, and what it leaves in the lent globals and memory
pub record Ran : Type 0 where
  pub answer : Answer
  pub globals : List ℕ
  pub memory : List ℕ

-- the run that ended with this answer and left these globals and memory
abbrev pub ran_as : Answer → List ℕ → List ℕ → Ran
ran_as answer globals memory = record { answer = answer; globals = globals; memory = memory }

-- the answer of no run: no rule has the number 0
abbrev pub no_answer : Answer
no_answer = Refused 0 0

-- "It ends in one of three ways: exit with a value; fault with load or store, address and flags; or no stated result, with the op's
-- position counted from 0 among the ops." "every fault the runner reports carries that reason". No run of an accepted block falls past its
-- last op or uses up its steps (specs/Meaning)
abbrev pub answer_of : End ℕ Fault → ℕ → ℕ → Answer
answer_of (exit v) position count = Ok (Exit v count)
answer_of (fault f) position count = Ok (Faulted f.store f.address f.flags f.reason count)
answer_of unstated position count = Ok (NoResult position count)
answer_of fell position count = no_answer
answer_of spent position count = no_answer

-- "The globals and memory then hold what the completed ops left."
abbrev pub ran_of : (D : Dialect) → ℕ → ℕ → Result (tcg D) → Ran
ran_of D ops globals r =
    record {
      answer = answer_of r.end (ops - length r.left) r.count;
      globals = values_from r.state.env 0 globals;
      memory = r.state.mem;
    }

-- a run of a block's ops, of at most one step more than there are ops: "Jumps go forward only", so no run is out of steps (proofs/Ends)
abbrev pub ops_run : (D : Dialect) → List (List ℕ) → St (tcg D) → Result (tcg D)
ops_run D ops s = runs (tcg D) (suc (length ops)) ops s

unfoldable pub run_ops : Dialect → List (List ℕ) → List ℕ → List ℕ → Ran
run_ops D ops globals memory = ran_of D (length ops) (length globals) (ops_run D ops (entry D globals memory))

-- "A refusal changes no lent buffer and carries only its number and place."
abbrev pub run_refused : ℕ → ℕ → List ℕ → List ℕ → Ran
run_refused number place globals memory = record { answer = Refused number place; globals = globals; memory = memory }

-- "A run takes the block, the globals as 64-bit numbers, and the memory." First the check's rules, then 11
unfoldable pub run_checked : Dialect → List (List ℕ) → List ℕ → List ℕ → Verdict → Ran
run_checked D records globals memory (Err refusal) = run_refused refusal.number refusal.place globals memory
run_checked D records globals memory (Ok accepted) =
    let ran = run_ops D (ops_from records) globals memory in
    cond (fits (declarations records) globals memory) ran (run_refused 11 0 globals memory)

unfoldable pub run_by : Dialect → List ℕ → List ℕ → List ℕ → Ran
run_by D block globals memory = run_checked D (records_of D.rows block) globals memory (check_by D.rows block)

-- document 01's
abbrev pub run_of : List ℕ → List ℕ → List ℕ → Ran
run_of = run_by document01

-- a call of the run that was lent globals and memory answered so and left globals' and memory'
abbrev pub Run : (block globals memory : List ℕ) (answer : Answer) (globals' memory' : List ℕ) → Type 0
Run block globals memory answer globals' memory' = ran_as answer globals' memory' ≡ run_of block globals memory
