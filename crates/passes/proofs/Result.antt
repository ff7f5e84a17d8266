-- The result of the pass: its records, its acceptance, its size, and the pass of it. Assumes nothing.
use mathlib.Core.Path.{◌≡◌, refl, sym, ap, ◌∙◌}
use mathlib.Core.Bool.{Bool, true, cond}
use mathlib.Core.List.{List, [], ◌∷◌, ◌++◌, append_assoc}
use Prim.Native.Nat.{ℕ, suc, ◌*◌, ◌≤◌}
use native.Mathlib.Omega.{arith}
use lib.ListN.{length, get_or, length-append}
use borrow.Author.Tests.{eqb-true, le-leb}
use Rattle.theory.specs.Fold.{Rule, base_rule}
use Rattle.theory.specs.Machine.{Prog}
use Rattle.theory.specs.Sets.{All, empty}
use Rattle.theory.proofs.Scoped.{scoped}
use Rattle.theory.proofs.Accept.{pass_checks}
use Rattle.theory.proofs.Pass.{Preserves, preserves}
use Rattle.theory.proofs.Fold.{any_fits}
use Rattle.theory.proofs.Law.{Lawful as LawfulRule}
use Rattle.theory.proofs.Rule.{base_lawful}
use Rattle.theory.proofs.Sets.{and_r}
use Rattle.ops.specs.Rows.{known, body_length}
use Rattle.ops.specs.Ops.{tcg, Dialect}
use Rattle.ops.specs.Fields.{kind_of}
use Rattle.ops.proofs.Folding.{constants}
use Rattle.ops.proofs.Lawful.{Lawful}
use Rattle.ops.specs.Folds.{folding}
use Rattle.ops.specs.Limits.{max_bytes}
use Rattle.block.specs.Records.{record_bytes, is_declaration, classes_of}
use Rattle.block.proofs.Lenient.{lenient, cutting, admits}
use Rattle.block.proofs.Parts.{Parts, joined}
use Rattle.passes.specs.Passes.{pass_ops, result_of, pass_refused, written, pass_checked, pass_by}
use Rattle.block.specs.Rules.{start, globals_in, kept_in}
use Rattle.block.proofs.Checker.{checker, declared_in, few_declared, few_ops}
use Rattle.block.proofs.Cut.{whole, AllWhole, AllDeclared}
use Rattle.block.specs.Checks.{Accepted}
use Rattle.block.specs.Checks.{check_by}

pub globals_kept : (classes : List ℕ) (v : ℕ) → globals_in classes v ≡ true → kept_in classes v ≡ true
globals_kept classes v h = rw (eqb-true (get_or classes v 2) 0 h)

abbrev pub rule : (D : Dialect) → Rule (tcg D)
rule D = base_rule (tcg D) (folding D)

-- it has the laws, whatever the op and whatever the variables hold
pub rule_lawful : {D : Dialect} (law : Lawful D) → LawfulRule (tcg D) (λ o. Unit {0}) (λ e. Unit {0}) (rule D)
rule_lawful {D = D} law = base_lawful (tcg D) (folding D) (constants law) (λ o. Unit {0}) (λ e. Unit {0}) (λ o xs vs t g c. tt)

-- what fold and prune leave of ops that meet the rule of temporaries
pub ops_preserved : {D : Dialect} (law : Lawful D) (classes : List ℕ) (os : Prog (tcg D)) → scoped (tcg D) (kept_in classes) empty os ≡ true
    → Preserves (tcg D) (globals_in classes) (kept_in classes) (globals_kept classes) (rule D) (λ o. Unit {0}) (λ e. Unit {0}) (any_fits (tcg D)) (rule_lawful law) os
ops_preserved {D = D} law classes os c =
    preserves (tcg D) (globals_in classes) (kept_in classes) (globals_kept classes) (rule D) (λ o. Unit {0}) (λ e. Unit {0}) (any_fits (tcg D)) (rule_lawful law) os (any_op os) c
  where
    any_op : (os : Prog (tcg D)) → All (λ (o : List ℕ). Unit {0}) os
    any_op [] = tt
    any_op (o ∷ os) = (tt, any_op os)

-- sizes: a declaration has three bytes, an op at most ten
declaration_size : {D : Dialect} (law : Lawful D) (r : List ℕ) → whole D.rows r ≡ true → is_declaration r ≡ true → length r ≡ 3
declaration_size {D = D} law r w d =
    let k : kind_of r ≡ 0x01 = eqb-true (kind_of r) 0x01 d in
    let l : length r ≡ suc (body_length D.rows (kind_of r)) = eqb-true (length r) (suc (body_length D.rows (kind_of r))) (and_r (known D.rows (kind_of r)) _ w) in
    l ∙ ap (λ (n : ℕ). suc (body_length D.rows n)) k ∙ ap suc law.table.declared_body

pub declarations_size : {D : Dialect} (law : Lawful D) (ds : List (List ℕ)) → AllWhole D.rows ds → AllDeclared ds → length (record_bytes ds) ≡ 3 * length ds
declarations_size law [] w d = refl
declarations_size law (r ∷ ds) w d =
    omega (arith, length-append r (record_bytes ds), declaration_size law r w.0 d.0, declarations_size law ds w.1 d.1)

pub ops_size : {D : Dialect} (law : Lawful D) (os : List (List ℕ)) → AllWhole D.rows os → length (record_bytes os) ≤ 10 * length os
ops_size law [] w = omega arith
ops_size {D = D} law (r ∷ os) w =
    let l : length r ≡ suc (body_length D.rows (kind_of r)) = eqb-true (length r) (suc (body_length D.rows (kind_of r))) (and_r (known D.rows (kind_of r)) _ w.0) in
    omega (arith, length-append r (record_bytes os), l, law.table.body_short (kind_of r), ops_size law os w.1)

pub concat_append : (xs ys : List (List ℕ)) → record_bytes (xs ++ ys) ≡ record_bytes xs ++ record_bytes ys
concat_append [] ys = refl
concat_append (x ∷ xs) ys = ap (λ (q : List ℕ). x ++ q) (concat_append xs ys) ∙ sym (append_assoc x (record_bytes xs) (record_bytes ys))

-- no more bytes than the limits allow
pub parts_size : {D : Dialect} (law : Lawful D) (block : List ℕ) (ds os : List (List ℕ)) → Parts D block ds os → length (record_bytes (ds ++ os)) ≤ max_bytes
parts_size {D = D} law block ds os p =
    omega (
      arith,
      ap length (concat_append ds os),
      length-append (record_bytes ds) (record_bytes os),
      declarations_size law ds p.wholes.0 p.all_declared,
      ops_size law os p.wholes.1,
      few_declared D.rows start ds p.all_declared p.met (omega arith),
      few_ops D (declared_in start ds) os p.checked (omega arith),
    )

-- what the pass makes of them
pub kept_parts : {D : Dialect} (law : Lawful D) (block : List ℕ) (ds os : List (List ℕ)) → Parts D block ds os
    → (check_by D.rows (record_bytes (ds ++ pass_ops D (classes_of ds) os)) ≡ Accepted) × Parts D (record_bytes (ds ++ pass_ops D (classes_of ds) os)) ds (pass_ops D (classes_of ds) os)
unfolding pass_ops
kept_parts {D = D} law block ds os p =
    joined law ds (pass_ops D (classes_of ds) os) p.wholes.0 p.all_declared p.met
    (pass_checks (tcg D) (checker D) (lenient law) (cutting law) (rule D) (admits law) (globals_in (classes_of ds)) (kept_in (classes_of ds)) os (declared_in start ds) p.checked)
    (ops_preserved law (classes_of ds) os p.in_scope).accepted

-- a block's result, from its parts
pub result_of_lem : {D : Dialect} (block : List ℕ) (ds os : List (List ℕ)) → Parts D block ds os → result_of D block ≡ record_bytes (ds ++ pass_ops D (classes_of ds) os)
unfolding result_of
result_of_lem block ds os p = rw (p.declared, p.ops)

-- the answer of the pass where there is room
pub pass_answers : (D : Dialect) (block out : List ℕ) → check_by D.rows block ≡ Accepted → length (result_of D block) ≤ length out → pass_by D block out ≡ written (result_of D block) out
unfolding pass_by pass_checked
pass_answers D block out h l =
    ap (pass_checked (result_of D block) out) h
    ∙ ap (λ (b : Bool). cond b (written (result_of D block) out) (pass_refused 12 0 out)) (le-leb (length (result_of D block)) (length out) l)
