-- The pass of a block: its declarations' bytes, and the result in the buffer. Assumes nothing.
use mathlib.Core.Path.{◌≡◌, sym, ap, ap₂, ◌∙◌}
use mathlib.Core.Bool.{Bool, cond}
use mathlib.Core.List.{List, ◌++◌}
use Prim.Native.Nat.{ℕ, ◌+◌, ◌*◌, ◌≤◌, ◌<◌}
use native.Mathlib.Omega.{arith}
use lib.Dec.{ltb}
use lib.ListN.{length, get_or, take, drop, length-append}
use lib.Seq.{take_at, sets, sets-eq}
use borrow.Author.Tests.{lt-leb}
use native.Mathlib.Nat.{zero-add}
use Rattle.theory.specs.Prune.{prune}
use Rattle.theory.specs.Sets.{Vars}
use Rattle.ops.specs.Ops.{tcg}
use Rattle.ops.specs.Kinds.{document01}
use Rattle.ops.specs.Table.{row_of}
use Rattle.block.specs.Checks.{check_of, check_by}
use Rattle.block.specs.Records.{cut_of, records_of, record_bytes, declarations, ops_from, classes_of}
use Rattle.block.specs.Rules.{start as unread, globals_in, kept_in}
use Rattle.block.specs.Scan.{Approved}
use Rattle.ops.specs.Limits.{max_ops, max_bytes}
use Rattle.ops.proofs.Bounds.{limits_fit}
use Rattle.block.proofs.Places.{places_long}
use Rattle.block.proofs.Accepts.{check_accepts}
use Rattle.block.proofs.Checker.{declared_in, few_ops}
use Rattle.block.proofs.Cut.{split_records}
use Rattle.block.proofs.Declaring.{classes_length}
use Rattle.block.proofs.Meaning.{cut_together}
use Rattle.block.proofs.Parts.{Parts, parts}
use Rattle.passes.specs.Knows.{folded_ops}
use Rattle.passes.specs.Laid.{ops_at, kept_from}
use Rattle.passes.specs.Live.{Keeps, emitted}
use Rattle.passes.specs.Passes.{pass_ops, result_of, Written, Length, Refused, Passed, pass_refused, written, pass_checked, pass_of, pass_by}
use Rattle.passes.specs.Ready.{class_in, ClassesOf, ReadyToPass}
use Rattle.passes.proofs.Classes.{globals_first, classes_so}
use Rattle.passes.proofs.Placing.{scan_laid, scan_ops, scan_first}
use Rattle.passes.proofs.Result.{declarations_size, ops_size, concat_append, parts_size, kept_parts, result_of_lem, pass_answers}
use Rattle.std.specs.Prelude.{Err}
use Rattle.block.specs.Checks.{Verdict, Accepted}
use Rattle.block.specs.declared.Refusal.{Refusal}
use Rattle.ops.proofs.Document01.{lawful}

-- an accepted block is its declarations and its ops
pub accepted_bytes : (block : List ℕ) → check_of block ≡ Accepted → record_bytes (declarations (records_of row_of block)) ++ record_bytes (ops_from (records_of row_of block)) ≡ block
unfolding check_by cut_of
accepted_bytes block h =
    let rs = records_of row_of block in
    sym (concat_append (declarations rs) (ops_from rs)) ∙ ap record_bytes (split_records rs)
    ∙ cut_together row_of (length block) block (omega arith) (check_accepts row_of unread 0 (cut_of row_of block).records (cut_of row_of block).tail h).0

-- an accepted block
module _ {block places classes : List ℕ} {start ops : ℕ} (r : ReadyToPass block places classes start ops) where
  abbrev ds : List (List ℕ)
  ds = declarations (records_of row_of block)

  abbrev os : List (List ℕ)
  os = ops_from (records_of row_of block)

  its_parts : Parts document01 block ds os
  its_parts = parts lawful block r.accepted

  -- its declarations are its first bytes
  declared_bytes : take start block ≡ record_bytes ds
  declared_bytes = ap (take start) (sym (accepted_bytes block r.accepted)) ∙ take_at (record_bytes ds) (record_bytes os) start (sym r.start_is)

  pub declared_fit : start ≤ length block
  declared_fit = omega (arith, r.start_is, length-append (record_bytes ds) (record_bytes os), ap length (accepted_bytes block r.accepted))

  pub few_here : ops ≤ max_ops
  few_here = omega (arith, r.count_is, few_ops document01 (declared_in unread ds) os its_parts.checked (omega arith))

  result_small : length (result_of document01 block) ≤ max_bytes
  result_small =
      let e : result_of document01 block ≡ record_bytes (ds ++ pass_ops document01 (classes_of ds) os) = result_of_lem block ds os its_parts in
      let b = parts_size lawful (record_bytes (ds ++ pass_ops document01 (classes_of ds) os)) ds (pass_ops document01 (classes_of ds) os) (kept_parts lawful block ds os its_parts).1 in
      omega (arith, ap length e, b)

  no_room : (out : List ℕ) → length out < length (result_of document01 block) → pass_of block out ≡ pass_refused 12 0 out
  unfolding pass_by pass_checked
  no_room out l =
      ap (pass_checked (result_of document01 block) out) r.accepted
      ∙ ap (λ (b : Bool). cond b (written (result_of document01 block) out) (pass_refused 12 0 out)) (lt-leb (length (result_of document01 block)) (length out) l)

  -- what prune keeps of what fold leaves
  module _ {marks₀ marks : List ℕ} {size : ℕ} (k : Keeps (folded_ops (ops_at block places 0 ops)) (globals_in classes) (kept_in classes) marks₀ marks size) where
    abbrev left : List ℕ
    left = record_bytes (kept_from 0 marks (folded_ops (ops_at block places 0 ops)))

    kept_ops : kept_from 0 marks (folded_ops (ops_at block places 0 ops)) ≡ pass_ops document01 (classes_of ds) os
    unfolding pass_ops
    kept_ops =
        k.kept_are ∙ ap₂ (λ (g m : Vars). prune (tcg document01) g m (folded_ops (ops_at block places 0 ops))) r.classes_are.globals_so r.classes_are.kept_so
        ∙ ap (λ (q : List (List ℕ)). prune (tcg document01) (globals_in (classes_of ds)) (kept_in (classes_of ds)) (folded_ops q)) r.ops_are

    result_is : result_of document01 block ≡ record_bytes ds ++ left
    result_is =
        result_of_lem block ds os its_parts ∙ concat_append ds (pass_ops document01 (classes_of ds) os) ∙ ap (λ (x : List (List ℕ)). record_bytes ds ++ record_bytes x) (sym kept_ops)

    result_size : start + size ≡ length (result_of document01 block)
    result_size = omega (arith, ap length result_is, length-append (record_bytes ds) left, r.start_is, k.size_is)

    pub size_small : start + size ≤ max_bytes
    size_small = omega (arith, result_size, result_small)

    -- too short a buffer
    pub pass_short : {out : List ℕ} → length out < start + size → (Refused 12 0 ≡ (pass_of block out).answer) × (out ≡ (pass_of block out).out)
    pass_short {out} l =
        let e = no_room out (omega (arith, result_size, l)) in (sym (ap (λ (p : Passed). p.answer) e), sym (ap (λ (p : Passed). p.out) e))

    -- the declarations and the kept ops are stored
    emitted_is : emitted block places marks ops ≡ result_of document01 block
    emitted_is = ap (λ (n : ℕ). take n block ++ left) r.first_is ∙ ap (λ (x : List ℕ). x ++ left) declared_bytes ∙ sym result_is

    module _ (out : List ℕ) (l : start + size ≤ length out) where
      pub all_fit : length (emitted block places marks ops) ≤ length out
      all_fit = omega (arith, ap length emitted_is, result_size, l)

      stored : {out' : List ℕ} → out' ≡ sets out 0 (emitted block places marks ops) → out' ≡ result_of document01 block ++ drop (length (result_of document01 block)) out
      stored q =
          q ∙ ap (sets out 0) emitted_is ∙ sets-eq (result_of document01 block) out 0 (omega (arith, l, result_size))
          ∙ ap (λ (m : ℕ). result_of document01 block ++ drop m out) (zero-add (length (result_of document01 block)))

      pub pass_stores : {out' : List ℕ} → out' ≡ sets out 0 (emitted block places marks ops) → (Length (start + size) ≡ (pass_of block out).answer) × (out' ≡ (pass_of block out).out)
      pass_stores q =
          let a = pass_answers document01 block out r.accepted (omega (arith, l, result_size)) in
          (ap Length result_size ∙ sym (ap (λ (p : Passed). p.answer) a), stored q ∙ sym (ap (λ (p : Passed). p.out) a))

-- what the scan tells
module _ {block places₀ base places labels : List ℕ} {start n globals ops : ℕ} (a : Approved row_of block places₀ base places labels start n globals ops) where
  abbrev declared : List (List ℕ)
  declared = declarations (records_of row_of block)

  its : Parts document01 block declared (ops_from (records_of row_of block))
  its = parts lawful block a.accepted

  start_so : start ≡ length (record_bytes declared)
  start_so = a.start_is ∙ sym (declarations_size lawful declared its.wholes.0 its.all_declared ∙ ap (λ (m : ℕ). 3 * m) a.variables)

  abbrev ops_in : List (List ℕ)
  ops_in = ops_from (records_of row_of block)

  all_bytes : start + length (record_bytes ops_in) ≡ length block
  all_bytes = omega (arith, start_so, length-append (record_bytes declared) (record_bytes ops_in), ap length (accepted_bytes block a.accepted))

  ops_few : length ops_in ≤ max_ops
  ops_few = omega (arith, few_ops document01 (declared_in unread declared) ops_in its.checked (omega arith))

  block_small : length block < 65536
  block_small = omega (arith, limits_fit.places, all_bytes, a.start_is, a.few, ops_few, ops_size lawful ops_in its.wholes.1)

  -- the classes of its variables
  classed : (of : List ℕ) → ((v : ℕ) → get_or of v 2 ≡ cond (ltb v n) (class_in base globals v) 2) → ClassesOf (classes_of declared) of
  classed of c =
      classes_so of globals a.coded (λ v. globals_first row_of unread declared its.all_declared its.met v ∙ ap (ltb v) (sym a.globals_are))
      (λ v. c v ∙ ap (λ (m : ℕ). cond (ltb v m) (class_in base globals v) 2) (sym (classes_length declared ∙ a.variables)))

  pub ready_by : (of : List ℕ) → ((v : ℕ) → get_or of v 2 ≡ cond (ltb v n) (class_in base globals v) 2) → ReadyToPass block places of start ops
  ready_by of c =
      let room : length ops_in ≤ length places₀ = omega (arith, a.held, a.count_is) in
      record {
        accepted = a.accepted;
        start_is = start_so;
        first_is = rw a.count_is (scan_first block places₀ places start ops_in a.ops_are a.places_are room all_bytes block_small);
        laid = rw a.count_is (scan_laid block places₀ places start ops_in a.ops_are a.places_are room all_bytes block_small);
        ops_are = rw a.count_is (scan_ops block places₀ places start ops_in a.ops_are a.places_are room all_bytes block_small);
        count_is = a.count_is;
        held = omega (arith, a.held, ap length a.places_are, places_long ops_in start 0 places₀);
        classes_are = classed of c;
      }

  pub few_by : n ≤ 256
  few_by = omega (arith, limits_fit.variables, a.few)

-- of a refused block
refused_pass : (block out : List ℕ) (refusal : Refusal) → ◌≡◌ {A = Verdict} (Err refusal) (check_of block) → pass_of block out ≡ pass_refused refusal.number refusal.place out
unfolding pass_by pass_checked
refused_pass block out refusal e = ap (pass_checked (result_of document01 block) out) (sym e)

pub pass_refuses : (block out : List ℕ) {refusal : Refusal} → ◌≡◌ {A = Verdict} (Err refusal) (check_of block)
    → (◌≡◌ {A = Written} (Err refusal) (pass_of block out).answer) × (out ≡ (pass_of block out).out)
pass_refuses block out {refusal} e =
    let q = refused_pass block out refusal e in (sym (ap (λ (p : Passed). p.answer) q), sym (ap (λ (p : Passed). p.out) q))
