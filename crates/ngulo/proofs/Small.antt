-- Places and lengths are small, so that the numbers fit. Assumes nothing.
use mathlib.Core.Path.{◌≡◌, refl, sym, ap, ◌∙◌, subst}
use mathlib.Core.Bool.{Bool, true, false, cond}
use mathlib.Core.List.{List, [], ◌∷◌, ◌++◌}
use Prim.Native.Nat.{ℕ, suc, ◌+◌, ◌-◌, ◌*◌, ◌≤◌}
use native.Mathlib.Omega.{arith}
use lib.Dec.{leb}
use lib.ListN.{length, length-append}
use borrow.Author.Tests.{eqb-true}
use Rattle.theory.specs.Machine.{End, exit, fault, unstated, fell, spent, Result}
use Rattle.memory.specs.declared.Reason.{Reason}
use Rattle.memory.specs.declared.Reason.TheVariants.{Bounds, Alignment}
use Rattle.memory.specs.Answer.{reason_number}
use Rattle.ops.specs.Limits.{max_variables, max_ops, max_bytes}
use Rattle.ops.specs.Rows.{body_length}
use Rattle.ops.specs.Ops.{tcg}
use Rattle.ops.specs.Fields.{kind_of}
use Rattle.ops.specs.Kinds.{document01}
use Rattle.ops.specs.Table.{row_of}
use Rattle.ops.proofs.Table.{body_short}
use Rattle.ops.proofs.Document01.{lawful, table_lawful}
use Rattle.block.specs.Checks.{asks, op_rules, check_of}
use Rattle.block.specs.Meaning.{AllMet, EachMeets}
use Rattle.block.specs.Records.{records_of, record_bytes, is_declaration, declarations, ops_from, class_of, classes_of}
use Rattle.block.proofs.Checker.{room3, room9}
use Rattle.block.proofs.Meaning.{refused_means}
use Rattle.block.proofs.Parts.{parts}
use Rattle.runs.specs.Runs.{fits, entry, Answer, Ran, ran_as, answer_of, ran_of, ops_run, run_ops, run_refused, run_checked, run_of, run_by}
use Rattle.passes.specs.Passes.{Written, pass_ops, result_of, pass_refused, written, pass_checked, pass_of, pass_by}
use Rattle.passes.proofs.Result.{parts_size, kept_parts, result_of_lem}
use Rattle.ngulo.specs.Numbers.{run_number, access_number, report_of, RunAnswer}
use Rattle.block.specs.Rules.{Seen, start, rule3, declared, passed, next}
use Rattle.std.specs.Prelude.{Ok, Err}
use Rattle.block.specs.Checks.{Verdict, Accepted, Refused}
use Rattle.block.specs.declared.Refusal.{Refusal}
use Rattle.runs.specs.declared.Ending.{Ending}

next_is : (s : Seen) (r : List ℕ) (b : Bool) → is_declaration r ≡ b → next row_of s r ≡ cond b (declared s r) (passed row_of s r)
unfolding next
next_is s r b e = ap (λ (t : Bool). cond t (declared s r) (passed row_of s r)) e

-- records that meet the rules have no more bytes than the limits allow
each_small : (rs : List (List ℕ)) (s : Seen) → EachMeets row_of s rs → length s.classes ≤ max_variables → s.ops ≤ max_ops
    → length (record_bytes rs) + 3 * length s.classes + 10 * s.ops ≤ max_bytes
each_small [] s e l n = omega arith
each_small (r ∷ rs) s e l n = go (is_declaration r) refl (each_small rs (next row_of s r) (λ before q after z. e (r ∷ before) q after (ap (λ (k : List (List ℕ)). r ∷ k) z)))
  where
    long : length r ≡ suc (body_length row_of (kind_of r))
    long = (e [] r rs refl).met1

    met : (b : Bool) → is_declaration r ≡ b → AllMet (cond b (asks 3 (rule3 s r) ∷ []) (op_rules row_of s r))
    met b d = subst (λ (t : Bool). AllMet (cond t (asks 3 (rule3 s r) ∷ []) (op_rules row_of s r))) d (e [] r rs refl).rules

    go : (b : Bool) → is_declaration r ≡ b
        → (length (next row_of s r).classes ≤ max_variables → (next row_of s r).ops ≤ max_ops → length (record_bytes rs) + 3 * length (next row_of s r).classes + 10 * (next row_of s r).ops ≤ max_bytes)
        → length (r ++ record_bytes rs) + 3 * length s.classes + 10 * s.ops ≤ max_bytes
    go true d ih =
        let q = next_is s r true d in
        let c : length (next row_of s r).classes ≡ length s.classes + 1 = ap (λ (t : Seen). length t.classes) q ∙ length-append s.classes (class_of r ∷ []) in
        let o : (next row_of s r).ops ≡ s.ops = ap (λ (t : Seen). t.ops) q in
        let b = room3 s r (met true d).0 in
        let three : length r ≡ 3 = long ∙ ap (λ (k : ℕ). suc (body_length row_of k)) (eqb-true (kind_of r) 0x01 d) ∙ ap suc table_lawful.declared_body in
        omega (arith, length-append r (record_bytes rs), three, ih (omega arith) (omega arith))
    go false d ih =
        let q = next_is s r false d in
        let c : length (next row_of s r).classes ≡ length s.classes = ap (λ (t : Seen). length t.classes) q in
        let o : (next row_of s r).ops ≡ suc s.ops = ap (λ (t : Seen). t.ops) q in
        let b = room9 s r (met false d).0 in
        omega (arith, length-append r (record_bytes rs), long, body_short (kind_of r), ih (omega arith) (omega arith))

-- so a refusal stands at no place beyond them
pub place_small : (block : List ℕ) (number place : ℕ) → check_of block ≡ Refused number place → place ≤ max_bytes
place_small block number place e =
    let b = (refused_means row_of block number place).refused_broken e in
    omega (arith, b.place_is, each_small b.before start b.each (omega arith) (omega arith))

-- the numbers of an answer fit
abbrev pub SmallVerdict : Verdict → Type 0
SmallVerdict (Ok accepted) = Unit {0}
SmallVerdict (Err broken) = broken.place ≤ max_bytes

pub verdict_small : (block : List ℕ) (v : Verdict) → v ≡ check_of block → SmallVerdict v
verdict_small block (Ok accepted) e = tt
verdict_small block (Err broken) e = omega (arith, place_small block broken.number broken.place (sym e))

abbrev pub SmallWritten : Written → Type 0
SmallWritten (Ok n) = n ≤ max_bytes
SmallWritten (Err broken) = broken.place ≤ max_bytes

pub result_small : (block : List ℕ) → check_of block ≡ Accepted → length (result_of document01 block) ≤ max_bytes
result_small block h =
    let p = parts lawful block h in
    let e = result_of_lem block (declarations (records_of row_of block)) (ops_from (records_of row_of block)) p in
    let q = (kept_parts lawful block (declarations (records_of row_of block)) (ops_from (records_of row_of block)) p).1 in
    omega (arith, ap length e, parts_size lawful _ (declarations (records_of row_of block)) (pass_ops document01 (classes_of (declarations (records_of row_of block))) (ops_from (records_of row_of block))) q)

written_by : (block out : List ℕ) (v : Verdict) → check_of block ≡ v → SmallWritten (pass_checked (result_of document01 block) out v).answer
unfolding pass_checked
written_by block out (Err broken) e = omega (arith, place_small block broken.number broken.place e)
written_by block out (Ok accepted) e = go (leb (length (result_of document01 block)) (length out))
  where
    go : (b : Bool) → SmallWritten (cond b (written (result_of document01 block) out) (pass_refused 12 0 out)).answer
    go true = omega (arith, result_small block e)
    go false = omega arith

pub written_small : (block out : List ℕ) (w : Written) → w ≡ (pass_of block out).answer → SmallWritten w
unfolding pass_by
written_small block out w e = subst SmallWritten (sym e) (written_by block out (check_of block) refl)

abbrev pub SmallAnswer : Answer → Type 0
SmallAnswer (Ok ending) = Unit {0}
SmallAnswer (Err broken) = broken.place ≤ max_bytes

ran_small : (ops : ℕ) (globals : ℕ) (r : Result (tcg document01)) → SmallAnswer (ran_of document01 ops globals r).answer
ran_small ops globals r = go r.end
  where
    go : (e : End ℕ (tcg document01).Flt) → SmallAnswer (answer_of e (ops - length r.left) r.count)
    go (exit v) = tt
    go (fault f) = tt
    go unstated = tt
    go fell = omega arith
    go spent = omega arith

ending_by : (block globals memory : List ℕ) (v : Verdict) → check_of block ≡ v → SmallAnswer (run_checked document01 (records_of row_of block) globals memory v).answer
unfolding run_checked run_ops
ending_by block globals memory (Err broken) e = omega (arith, place_small block broken.number broken.place e)
ending_by block globals memory (Ok accepted) e = go (fits (declarations (records_of row_of block)) globals memory)
  where
    go : (b : Bool) → SmallAnswer (cond b (run_ops document01 (ops_from (records_of row_of block)) globals memory) (run_refused 11 0 globals memory)).answer
    go true = ran_small (length (ops_from (records_of row_of block))) (length globals) (ops_run document01 (ops_from (records_of row_of block)) (entry document01 globals memory))
    go false = omega arith

pub ending_small : (block globals memory : List ℕ) (w : Answer) → w ≡ (run_of block globals memory).answer → SmallAnswer w
unfolding run_by
ending_small block globals memory w e = subst SmallAnswer (sym e) (ending_by block globals memory (check_of block) refl)

-- a refusal's place, as the calls answer it
pub check_place : (block : List ℕ) {v : Verdict} {broken : Refusal} → v ≡ check_of block → v ≡ Err broken → broken.place ≤ max_bytes
check_place block {v} {broken} e q = verdict_small block (Err broken) (sym q ∙ e)

pub pass_place : (block out : List ℕ) {w : Written} {broken : Refusal} → w ≡ (pass_of block out).answer → w ≡ Err broken → broken.place ≤ max_bytes
pass_place block out {w} {broken} e q = written_small block out (Err broken) (sym q ∙ e)

pub pass_length : (block out : List ℕ) {w : Written} {n : ℕ} → w ≡ (pass_of block out).answer → w ≡ Ok n → n ≤ max_bytes
pass_length block out {w} {n} e q = written_small block out (Ok n) (sym q ∙ e)

pub run_place : (block globals memory : List ℕ) {w : Answer} {globals' memory' : List ℕ} {broken : Refusal} → ran_as w globals' memory' ≡ run_of block globals memory → w ≡ Err broken → broken.place ≤ max_bytes
run_place block globals memory {w} {globals'} {memory'} {broken} e q =
    ending_small block globals memory (Err broken) (sym q ∙ ap (λ (r : Ran). r.answer) e)

-- what the calls answer, from what the functions do
pub run_answers : {ran : Ran} {w v : Answer} {r : ℕ} {report report' globals memory : List ℕ} → ran_as w globals memory ≡ ran → w ≡ v → r ≡ run_number v → report' ≡ report_of v report
    → RunAnswer ran r report report' globals memory
run_answers {ran} {w} {v} {r} {report} {report'} e q n p =
    let z : v ≡ ran.answer = sym q ∙ ap (λ (x : Ran). x.answer) e in
    record {
      number_is = n ∙ ap run_number z;
      report_is = p ∙ ap (λ (x : Answer). report_of x report) z;
      globals_are = ap (λ (x : Ran). x.globals) e;
      memory_is = ap (λ (x : Ran). x.memory) e;
    }

-- the same of a run that is not refused
pub ended_answers : {ran : Ran} {w : Answer} {ending end : Ending} {report report' globals memory : List ℕ} → ran_as w globals memory ≡ ran → w ≡ Ok ending → ending ≡ end
    → report' ≡ report_of (Ok end) report → RunAnswer ran 0 report report' globals memory
ended_answers e q z p = run_answers e (q ∙ ap (λ (x : Ending). Ok x) z) refl p

-- the access of a fault, from the flags and the number of the reason
module _ (reason : Reason) {store : Bool} {x y flags : ℕ} (q : x ≡ flags) (h : y ≡ reason_number reason) where
  pub access_store : store ≡ true → x + 65536 * y + 256 ≡ access_number store flags reason
  access_store e = rw e (omega (arith, q, h))

  pub access_load : store ≡ false → x + 65536 * y ≡ access_number store flags reason
  access_load e = rw e (omega (arith, q, h))

pub reason_small : (reason : Reason) {y : ℕ} → y ≡ reason_number reason → y ≤ 1
reason_small Bounds e = omega arith
reason_small Alignment e = omega arith

pub fault_report : {report : List ℕ} {address x y count : ℕ} → report ≡ 2 ∷ address ∷ x ∷ count ∷ [] → x ≡ y → report ≡ 2 ∷ address ∷ y ∷ count ∷ []
fault_report {report} {address} {x} {y} {count} e q = e ∙ ap (λ (n : ℕ). 2 ∷ address ∷ n ∷ count ∷ []) q
