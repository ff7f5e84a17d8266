-- The answers of the calls for C can be told apart: each is read back from its numbers. Proved in proofs/Apart.antt. Assumes nothing.
use Rattle.std.specs.Prelude.{◌≡◌, cond, List, ◌⊎◌, ℕ, ◌/◌, ◌%◌, ◌≤◌, eqb, get_or, Ok}
use Rattle.memory.specs.declared.Reason.{Reason}
use Rattle.memory.specs.declared.Reason.TheVariants.{Bounds, Alignment}
use Rattle.block.specs.Checks.{check_of}
use Rattle.block.specs.Checks.{Verdict, Accepted, Refused}
use Rattle.runs.specs.Runs.{Answer, Refused as RunRefused, run_of}
use Rattle.runs.specs.declared.Ending.{Ending}
use Rattle.runs.specs.declared.Ending.TheVariants.{Exit, Fault, NoResult}
use Rattle.passes.specs.Passes.{Written, Length, Refused as PassRefused, pass_of}
use Rattle.ngulo.specs.Numbers.{check_number, pass_number, run_number, report_of}

-- a refusal's number is the low byte of an answer, its place the rest
abbrev pub low_byte : ℕ → ℕ
low_byte x = x % 256

abbrev pub above_byte : ℕ → ℕ
above_byte x = x / 256

abbrev pub verdict_of : ℕ → Verdict
verdict_of x = cond (eqb (low_byte x) 0) Accepted (Refused (low_byte x) (above_byte x))

abbrev pub written_of : ℕ → Written
written_of x = cond (eqb (low_byte x) 0) (Length (above_byte x)) (PassRefused (low_byte x) (above_byte x))

-- the reason with this number
abbrev pub reason_of : ℕ → Reason
reason_of n = cond (eqb n 1) Alignment Bounds

-- a report of four numbers: 1 an exit, 2 a fault, 3 no stated result
abbrev pub reported : ℕ → ℕ → ℕ → ℕ → Ending
reported ending x y count =
    cond (eqb ending 1) (Exit x count)
    (cond (eqb ending 2) (Fault (eqb (above_byte y % 2) 1) x (low_byte y) (reason_of (y / 65536)) count)
    (NoResult x count))

abbrev pub ending_of : ℕ → List ℕ → Answer
ending_of x report =
    cond (eqb (low_byte x) 0) (Ok (reported (get_or report 0 0) (get_or report 1 0) (get_or report 2 0) (get_or report 3 0))) (RunRefused (low_byte x) (above_byte x))

abbrev pub OneTo : ℕ → ℕ → Type 0
OneTo last number = (1 ≤ number) × (number ≤ last)

-- what the check answers: a refusal is numbered 1 to 10, and 0 is the answer exactly if the block is accepted
pub record CheckApart (v : Verdict) : Type 0 where
  pub numbered : (number place : ℕ) → v ≡ Refused number place → OneTo 10 number
  pub read_back : verdict_of (check_number v) ≡ v
  pub zero_accepted : check_number v ≡ 0 → v ≡ Accepted
  pub accepted_zero : v ≡ Accepted → check_number v ≡ 0

-- what the pass answers: a refusal is numbered 1 to 10, or 12
pub record PassApart (w : Written) : Type 0 where
  pub numbered : (number place : ℕ) → w ≡ PassRefused number place → OneTo 10 number ⊎ (number ≡ 12)
  pub read_back : written_of (pass_number w) ≡ w

-- what the run answers: a refusal is numbered 1 to 11, and 0 is the answer exactly if the run is not refused; then the report tells how it ended
pub record RunApart (w : Answer) : Type 0 where
  pub numbered : (number place : ℕ) → w ≡ RunRefused number place → OneTo 11 number
  pub read_back : (report : List ℕ) → ending_of (run_number w) (report_of w report) ≡ w
  pub zero_ended : run_number w ≡ 0 → (number place : ℕ) → w ≡ RunRefused number place → ⊥
  pub ended_zero : ((number place : ℕ) → w ≡ RunRefused number place → ⊥) → run_number w ≡ 0

-- for every block, buffer, globals and memory
pub record Apart : Type 0 where
  pub of_check : (block : List ℕ) → CheckApart (check_of block)
  pub of_pass : (block out : List ℕ) → PassApart (pass_of block out).answer
  pub of_run : (block globals memory : List ℕ) → RunApart (run_of block globals memory).answer
