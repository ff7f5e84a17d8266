-- The pass: its answer, and the bytes that it leaves in the output buffer. Assumes nothing.
use Rattle.std.specs.Prelude.{ℕ, cond, ◌≡◌, List, ◌++◌, leb, length, drop, Ok, Err}
use Rattle.theory.specs.Machine.{Prog}
use Rattle.theory.specs.Fold.{base_rule, pass}
use Rattle.ops.specs.Ops.{tcg, Dialect}
use Rattle.ops.specs.Kinds.{document01}
use Rattle.ops.specs.Folds.{folding}
use Rattle.block.specs.Records.{records_of, record_bytes, declarations, ops_from, classes_of}
use Rattle.block.specs.Rules.{globals_in, kept_in}
use Rattle.block.specs.Checks.{OrRefused, Verdict, check_by}

-- the ops that fold and prune leave, of variables of these classes
unfoldable pub pass_ops : (D : Dialect) → List ℕ → Prog (tcg D) → Prog (tcg D)
pass_ops D classes ops = pass (tcg D) (base_rule (tcg D) (folding D)) (globals_in classes) (kept_in classes) ops

-- "Declarations are copied. The result is the declarations and kept ops"
abbrev pub result_records : Dialect → List (List ℕ) → List (List ℕ)
result_records D records = declarations records ++ pass_ops D (classes_of (declarations records)) (ops_from records)

unfoldable pub result_of : Dialect → List ℕ → List ℕ
result_of D block = record_bytes (result_records D (records_of D.rows block))

-- the pass's answer: the length of the result, or a refusal
abbrev pub Written : Type 0
Written = OrRefused ℕ

abbrev pub Length : ℕ → Written
Length n = Ok n

abbrev pub Refused : ℕ → ℕ → Written
Refused number place = Err (record { number = number; place = place })

-- what the pass answers, and what it leaves in the lent buffer
pub record Passed : Type 0 where
  pub answer : Written
  pub out : List ℕ

abbrev pub pass_refused : ℕ → ℕ → List ℕ → Passed
pass_refused number place out = record { answer = Refused number place; out = out }

-- "; bytes of the buffer after it stay as they were. The answer is its length."
abbrev pub written : List ℕ → List ℕ → Passed
written result out = record { answer = Length (length result); out = result ++ drop (length result) out }

-- first the check's rules, then 12: "output buffer shorter than the result"
unfoldable pub pass_checked : List ℕ → List ℕ → Verdict → Passed
pass_checked result out (Err refusal) = pass_refused refusal.number refusal.place out
pass_checked result out (Ok accepted) = cond (leb (length result) (length out)) (written result out) (pass_refused 12 0 out)

unfoldable pub pass_by : Dialect → List ℕ → List ℕ → Passed
pass_by D block out = pass_checked (result_of D block) out (check_by D.rows block)

-- document 01's
abbrev pub pass_of : List ℕ → List ℕ → Passed
pass_of = pass_by document01

-- a call of the pass that was lent this block and the buffer out gave this answer and left out'
abbrev pub Optimised : List ℕ → List ℕ → Written → List ℕ → Type 0
Optimised block out answer out' = (answer ≡ (pass_of block out).answer) × (out' ≡ (pass_of block out).out)
