-- The answers of the calls are read back from their numbers: the number of a refusal is small and not 0, and the flags of a fault are small. Assumes nothing.
use mathlib.Core.Path.{◌≡◌, refl, sym, ap, ◌∙◌}
use mathlib.Core.Bool.{Bool, true, false, cond}
use mathlib.Core.List.{List, [], ◌∷◌}
use mathlib.Core.Logic.{◌⊎◌, inl, inr}
use Prim.Native.Nat.{ℕ, ◌+◌, ◌*◌, ◌/◌, ◌%◌, ◌-◌, ◌<◌}
use native.Mathlib.Omega.{arith}
use native.Mathlib.Nat.{add-mul-mod_self_left, add-mul-div_left, mod-eq_of_lt, div-eq_of_lt, mul-mod_right, mul-div_cancel_left}
use lib.Dec.{eqb, leb}
use lib.ListN.{length}
use borrow.Author.Tests.{ne_eqb}
use Rattle.theory.specs.Machine.{End, exit, fault, unstated, fell, spent, Result}
use Rattle.theory.specs.Sets.{All}
use Rattle.theory.proofs.Sets.{clash}
use Rattle.theory.proofs.Simulation.{proper}
use Rattle.ops.proofs.Document01.{lawful}
use Rattle.ops.specs.Ops.{Fault, tcg}
use Rattle.ops.specs.Kinds.{document01}
use Rattle.ops.specs.Table.{row_of}
use Rattle.block.specs.Checks.{Finding, asks, op_rules, rules_of, check_of}
use Rattle.block.specs.Meaning.{FirstBroken, here, later, Breaks, unknown2, short1, record_breaks, ending}
use Rattle.block.specs.Records.{records_of, is_declaration, declarations, ops_from}
use Rattle.block.specs.Rules.{Seen, rule3}
use Rattle.std.specs.Prelude.{Ok, Err}
use Rattle.block.specs.Checks.{Verdict, Refused}
use Rattle.block.proofs.Refusals.{same_number}
use Rattle.block.proofs.Meaning.{refused_means}
use Rattle.runs.proofs.Ends.{run_ends}
use Rattle.runs.specs.Runs.{fits, entry, Answer, Refused as RunRefused, answer_of, ran_of, ops_run, run_ops, run_refused, run_checked, run_of, run_by}
use Rattle.runs.specs.declared.Ending.{Ending}
use Rattle.runs.specs.declared.Ending.TheVariants.{Exit, Fault as Faulted, NoResult}
use Rattle.passes.specs.Passes.{Written, Refused as PassRefused, result_of, pass_refused, written, pass_checked, pass_of, pass_by}
use Rattle.memory.specs.declared.Reason.{Reason}
use Rattle.memory.specs.declared.Reason.TheVariants.{Bounds, Alignment}
use Rattle.memory.specs.Answer.{reason_number}
use Rattle.ngulo.specs.Numbers.{refusal, run_number, access_number, report_of}
use Rattle.ngulo.specs.Apart.{low_byte, above_byte, reason_of, ending_of, OneTo, CheckApart, PassApart, RunApart, Apart}
use Rattle.ngulo.proofs.Flags.{FlagsFit, block_fits}

-- the numbers of the rules
abbrev Numbers : List Finding → Type 0
Numbers xs = All (λ x. OneTo 10 x.number) xs

first_numbered : {xs : List Finding} {number : ℕ} → Numbers xs → FirstBroken xs number → OneTo 10 number
first_numbered h (here e) = h.0
first_numbered h (later e f) = first_numbered h.1 f

rules_numbers : (s : Seen) (r : List ℕ) → Numbers (rules_of row_of s r)
rules_numbers s r = go (is_declaration r)
  where
    go : (b : Bool) → Numbers (cond b (asks 3 (rule3 s r) ∷ []) (op_rules row_of s r))
    go true = ((omega arith, omega arith), tt)
    go false = ((omega arith, omega arith), ((omega arith, omega arith), ((omega arith, omega arith), ((omega arith, omega arith), ((omega arith, omega arith), ((omega arith, omega arith), tt))))))

breaks_numbered : {s : Seen} {rest : List ℕ} {number : ℕ} → Breaks row_of s rest number → OneTo 10 number
breaks_numbered (unknown2 a b) = (omega arith, omega arith)
breaks_numbered (short1 a b c) = (omega arith, omega arith)
breaks_numbered {s} (record_breaks r rest a b c f) = first_numbered (rules_numbers s r) f
breaks_numbered {s} (ending a f) = first_numbered ((omega arith, omega arith), ((omega arith, omega arith), tt)) f

check_numbered : (block : List ℕ) (number place : ℕ) → check_of block ≡ Refused number place → OneTo 10 number
check_numbered block number place e = breaks_numbered ((refused_means row_of block number place).refused_broken e).broken

-- a number below 256 with 256 times another
low_is : (n p : ℕ) → n < 256 → (n + 256 * p) % 256 ≡ n
low_is n p h = add-mul-mod_self_left n 256 p ∙ mod-eq_of_lt h

above_is : (n p : ℕ) → n < 256 → (n + 256 * p) / 256 ≡ p
above_is n p h = add-mul-div_left n p (omega arith) ∙ omega (arith, div-eq_of_lt h)

-- a refusal, taken apart
module _ (n p : ℕ) (h : OneTo 12 n) where
  refusal_low : low_byte (refusal n p) ≡ n
  refusal_low = low_is n p (omega (arith, h.1))

  refusal_above : above_byte (refusal n p) ≡ p
  refusal_above = above_is n p (omega (arith, h.1))

  refusal_test : eqb (low_byte (refusal n p)) 0 ≡ false
  refusal_test = rw refusal_low (ne_eqb n 0 (λ z. omega (arith, h.0)))

  not_zero : refusal n p ≡ 0 → ⊥
  not_zero z = omega (arith, h.0)

-- the check
check_apart : (v : Verdict) → ((number place : ℕ) → v ≡ Refused number place → OneTo 10 number) → CheckApart v
check_apart (Ok accepted) h = record { numbered = h; read_back = refl; zero_accepted = λ z. refl; accepted_zero = λ z. refl }
check_apart (Err broken) h =
    let n = broken.number in
    let p = broken.place in
    let m : OneTo 12 n = ((h n p refl).0, omega (arith, (h n p refl).1)) in
    record {
      numbered = h;
      read_back = rw (refusal_test n p m, refusal_low n p m, refusal_above n p m);
      zero_accepted = λ z. absurd (not_zero n p m z);
      accepted_zero = λ z. let w : ◌≡◌ {A = ℕ} 0 1 = cc in absurd (omega arith);
    }

-- the pass
pass_apart : (w : Written) → ((number place : ℕ) → w ≡ PassRefused number place → OneTo 10 number ⊎ (number ≡ 12)) → PassApart w
pass_apart (Ok n) h = record { numbered = h; read_back = rw (mul-mod_right 256 n, mul-div_cancel_left n {n = 256} (omega arith)) }
pass_apart (Err broken) h =
    let n = broken.number in
    let p = broken.place in
    let m = go (h n p refl) in
    record { numbered = h; read_back = rw (refusal_test n p m, refusal_low n p m, refusal_above n p m) }
  where
    go : OneTo 10 broken.number ⊎ (broken.number ≡ 12) → OneTo 12 broken.number
    go (inl q) = (q.0, omega (arith, q.1))
    go (inr e) = (omega arith, omega arith)

-- the run: what its answer is like, refused or ended
abbrev RunLike : Answer → Type 0
RunLike (Err broken) = OneTo 11 broken.number
RunLike (Ok (Exit value count)) = Unit {0}
RunLike (Ok (Faulted store address flags reason count)) = flags < 256
RunLike (Ok (NoResult position count)) = Unit {0}

-- the access of a fault, read back
abbrev access_of : ℕ → ℕ → ℕ → Ending
access_of y address count = Faulted (eqb (above_byte y % 2) 1) address (low_byte y) (reason_of (y / 65536)) count

store_back : (store : Bool) → (cond {A = ℕ} store 1 0 < 2) × (eqb (cond store 1 0) 1 ≡ store)
store_back true = (omega arith, refl)
store_back false = (omega arith, refl)

reason_back : (reason : Reason) → reason_of (reason_number reason) ≡ reason
reason_back Bounds = refl
reason_back Alignment = refl

fault_back : (store : Bool) (address flags : ℕ) (reason : Reason) (count : ℕ) → flags < 256
    → access_of (access_number store flags reason) address count ≡ Faulted store address flags reason count
fault_back store address flags reason count h =
    let s = store_back store in
    let low : access_number store flags reason % 256 ≡ flags = omega (arith, s.0) in
    let above : access_number store flags reason / 256 ≡ cond store 1 0 + 256 * reason_number reason = omega (arith, s.0) in
    let bit : (cond store 1 0 + 256 * reason_number reason) % 2 ≡ cond store 1 0 = omega (arith, s.0) in
    let top : access_number store flags reason / 65536 ≡ reason_number reason = omega (arith, s.0) in
    rw (low, above, bit, top, s.1, reason_back reason)

ended_apart : {w : Answer} → ((number place : ℕ) → w ≡ RunRefused number place → ⊥) → run_number w ≡ 0 → ((report : List ℕ) → ending_of (run_number w) (report_of w report) ≡ w) → RunApart w
ended_apart n z back = record { numbered = λ number place e. absurd (n number place e); read_back = back; zero_ended = λ q. n; ended_zero = λ q. z }

run_apart : (w : Answer) → RunLike w → RunApart w
run_apart (Err broken) h =
    let n = broken.number in
    let p = broken.place in
    let m : OneTo 12 n = (h.0, omega (arith, h.1)) in
    record {
      numbered = λ number place e. let q : n ≡ number = same_number e in rw (← q) h;
      read_back = λ report. rw (refusal_test n p m, refusal_low n p m, refusal_above n p m);
      zero_ended = λ z number place e. not_zero n p m z;
      ended_zero = λ q. absurd (q n p refl);
    }
run_apart (Ok (Exit value count)) h = ended_apart (λ number place e. let z : ◌≡◌ {A = ℕ} 0 1 = cc in omega arith) refl (λ report. refl)
run_apart (Ok (Faulted store address flags reason count)) h = ended_apart (λ number place e. let z : ◌≡◌ {A = ℕ} 0 1 = cc in omega arith) refl (λ report. ap (λ (x : Ending). Ok x) (fault_back store address flags reason count h))
run_apart (Ok (NoResult position count)) h = ended_apart (λ number place e. let z : ◌≡◌ {A = ℕ} 0 1 = cc in omega arith) refl (λ report. refl)

ran_like : (ops globals : ℕ) (r : Result (tcg document01)) → proper r.end ≡ true → FlagsFit r.end → RunLike (ran_of document01 ops globals r).answer
ran_like ops globals r p h = go r.end p h
  where
    go : (e : End ℕ Fault) → proper e ≡ true → FlagsFit e → RunLike (answer_of e (ops - length r.left) r.count)
    go (exit v) z q = tt
    go (fault f) z q = q
    go unstated z q = tt
    go fell z q = clash false z refl
    go spent z q = clash false z refl

run_like : (block globals memory : List ℕ) (v : Verdict) → check_of block ≡ v → RunLike (run_checked document01 (records_of row_of block) globals memory v).answer
unfolding run_checked run_ops
run_like block globals memory (Err broken) e = let q = check_numbered block broken.number broken.place e in (q.0, omega (arith, q.1))
run_like block globals memory (Ok accepted) e = go (fits (declarations (records_of row_of block)) globals memory)
  where
    go : (b : Bool) → RunLike (cond b (run_ops document01 (ops_from (records_of row_of block)) globals memory) (run_refused 11 0 globals memory)).answer
    go true = ran_like (length (ops_from (records_of row_of block))) (length globals) (ops_run document01 (ops_from (records_of row_of block)) (entry document01 globals memory)) (run_ends lawful block globals memory e) (block_fits block globals memory e)
    go false = (omega arith, omega arith)

pass_numbered : (block out : List ℕ) (v : Verdict) → check_of block ≡ v → (number place : ℕ) → (pass_checked (result_of document01 block) out v).answer ≡ PassRefused number place → OneTo 10 number ⊎ (number ≡ 12)
unfolding pass_checked
pass_numbered block out (Err broken) e number place q = let m : broken.number ≡ number = same_number q in inl (rw (← m) (check_numbered block broken.number broken.place e))
pass_numbered block out (Ok accepted) e number place q = go (leb (length (result_of document01 block)) (length out)) q
  where
    go : (b : Bool) → (cond b (written (result_of document01 block) out) (pass_refused 12 0 out)).answer ≡ PassRefused number place → OneTo 10 number ⊎ (number ≡ 12)
    go true w = let z : ◌≡◌ {A = ℕ} 0 1 = cc in absurd (omega arith)
    go false w = let m : 12 ≡ number = same_number w in inr (sym m)

pub apart : Apart
unfolding run_by pass_by
apart =
    record {
      of_check = λ block. check_apart (check_of block) (check_numbered block);
      of_pass = λ block out. pass_apart (pass_of block out).answer (pass_numbered block out (check_of block) refl);
      of_run = λ block globals memory. run_apart (run_of block globals memory).answer (run_like block globals memory (check_of block) refl);
    }
