-- The answers of the calls for C, as numbers. Assumes nothing.
use Rattle.std.specs.Prelude.{◌≡◌, Bool, cond, List, [], ◌∷◌, ℕ, ◌+◌, ◌*◌, Ok, Err}
use Rattle.memory.specs.declared.Reason.{Reason}
use Rattle.memory.specs.Answer.{reason_number}
use Rattle.runs.specs.Runs.{Answer, Ran}
use Rattle.block.specs.Checks.{Verdict}
use Rattle.runs.specs.declared.Ending.TheVariants.{Exit, Fault, NoResult}
use Rattle.passes.specs.Passes.{Written}

-- the version of the library, 0.7.0: 65536 times the first number, 256 times the second, and the third
abbrev pub version : ℕ
version = 65536 * 0 + 256 * 7 + 0

-- a refusal: its number, and 256 times its place
abbrev pub refusal : ℕ → ℕ → ℕ
refusal number place = number + 256 * place

-- the check: 0 if the block is accepted, else the refusal
abbrev pub check_number : Verdict → ℕ
check_number (Ok accepted) = 0
check_number (Err broken) = refusal broken.number broken.place

-- the pass: 256 times the length of the result, else the refusal
abbrev pub pass_number : Written → ℕ
pass_number (Ok n) = 256 * n
pass_number (Err broken) = refusal broken.number broken.place

-- the run: 0 with a report, else the refusal
abbrev pub run_number : Answer → ℕ
run_number (Ok ending) = 0
run_number (Err broken) = refusal broken.number broken.place

-- the access of a fault: its flags, 256 for a store, and 65536 times the number of the reason
abbrev pub access_number : Bool → ℕ → Reason → ℕ
access_number store flags reason = flags + 256 * cond store 1 0 + 65536 * reason_number reason

-- the report: 1, exit value, 0, count; 2, address, access, count; 3, position, 0, count; a refused run leaves it as it was
abbrev pub report_of : Answer → List ℕ → List ℕ
report_of (Err broken) report = report
report_of (Ok (Exit value count)) report = 1 ∷ value ∷ 0 ∷ count ∷ []
report_of (Ok (Fault store address flags reason count)) report = 2 ∷ address ∷ access_number store flags reason ∷ count ∷ []
report_of (Ok (NoResult position count)) report = 3 ∷ position ∷ 0 ∷ count ∷ []

-- the answer of the call for a run: its number, the report, the globals and the memory
pub record RunAnswer (ran : Ran) (r : ℕ) (report report' globals' memory' : List ℕ) : Type 0 where
  pub number_is : r ≡ run_number ran.answer
  pub report_is : report' ≡ report_of ran.answer report
  pub globals_are : globals' ≡ ran.globals
  pub memory_is : memory' ≡ ran.memory
