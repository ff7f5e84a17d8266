-- The header's bound of a result: an op that fold replaces has three bytes or more, what takes its place has ten. Assumes nothing.
use mathlib.Core.Path.{◌≡◌, refl, sym, ap, ◌∙◌}
use mathlib.Core.Bool.{Bool, true, false, cond, not, ◌||◌}
use mathlib.Core.List.{List, [], ◌∷◌}
use Rattle.std.specs.Prelude.{Option, None, Some, option_and_then}
use Prim.Native.Nat.{ℕ, suc, ◌*◌, ◌≤◌}
use native.Mathlib.Omega.{arith}
use lib.Dec.{leb}
use lib.ListN.{length, length-append}
use borrow.Author.Tests.{eqb-true, leb-true}
use Rattle.theory.specs.Machine.{Lang, Prog, head_or, computes, inputs, reads}
use Rattle.theory.specs.Sets.{Vars}
use Rattle.theory.specs.Fold.{Known, on, put, nothing, learned, fold, emit, tried, all_known, base_rule}
use Rattle.theory.specs.Prune.{dead, prune_by, live}
use Rattle.theory.proofs.Sets.{and_r}
use Rattle.memory.proofs.Numbers.{length_bytes}
use Rattle.ops.specs.Rows.{row_in, body_of, known, body_length, table_of, types_of, role_no}
use Rattle.ops.specs.Table.{kind_table, row_of}
use Rattle.ops.specs.Kinds.{document01}
use Rattle.ops.specs.Ops.{tcg}
use Rattle.ops.specs.Fields.{kind_of}
use Rattle.ops.specs.Folds.{foldable_row, folding}
use Rattle.ops.proofs.Ranges.{every}
use Rattle.ops.proofs.Table.{for_each}
use Rattle.ops.proofs.Document01.{lawful}
use Rattle.block.specs.Records.{records_of, record_bytes, declarations, ops_from, classes_of}
use Rattle.block.specs.Rules.{globals_in, kept_in}
use Rattle.block.proofs.Cut.{whole, AllWhole, bytes_both}
use Rattle.block.proofs.Parts.{parts}
use Rattle.passes.specs.Passes.{pass_ops}
use Rattle.passes.proofs.Result.{result_of_lem}
use Rattle.passes.proofs.Passing.{accepted_bytes}
use Rattle.ngulo.specs.Bound.{ResultBound}
use Rattle.ngulo.proofs.Small.{result_small}

-- one computed test over the table: an op that may fold has a body of two bytes or more
abbrev long_body : ℕ → ℕ → Bool
long_body k e = not (foldable_row (row_in e)) || leb 2 (body_of (row_in e))

all_long : every long_body 0 kind_table ≡ true
unfolding kind_table types_of role_no
all_long = refl

long_body_lem : (k : ℕ) → (not (foldable_row (row_of k)) || leb 2 (body_length row_of k)) ≡ true
unfolding table_of types_of role_no
long_body_lem k = for_each long_body all_long (λ (k : ℕ). refl) k

foldable_long : (r : List ℕ) → whole row_of r ≡ true → foldable_row (row_of (kind_of r)) ≡ true → 3 ≤ length r
foldable_long r w f =
    let l : length r ≡ suc (body_length row_of (kind_of r)) = eqb-true (length r) (suc (body_length row_of (kind_of r))) (and_r (known row_of (kind_of r)) _ w) in
    let b : 2 ≤ body_length row_of (kind_of r) = leb-true 2 (body_length row_of (kind_of r)) (sym (ap (λ (t : Bool). not t || leb 2 (body_length row_of (kind_of r))) f) ∙ long_body_lem (kind_of r)) in
    omega arith

abbrev L : Lang
L = tcg document01

abbrev size : Prog L → ℕ
size os = length (record_bytes os)

-- what fold leaves
abbrev folded : Prog L → Known ℕ → Prog L
folded os k = fold L (base_rule L (folding document01)) os (on k)

fold_one : (o p : List ℕ) (r : Prog L) (k : Known ℕ) → 3 * length p ≤ 10 * length o → 3 * size (folded r k) ≤ 10 * size r → 3 * size (p ∷ folded r k) ≤ 10 * size (o ∷ r)
fold_one o p r k h ih = omega (arith, length-append p (record_bytes (folded r k)), length-append o (record_bytes r))

fold_by : (o : List ℕ) (r : Prog L) (k : Known ℕ) → whole row_of o ≡ true → ((m : Known ℕ) → 3 * size (folded r m) ≤ 10 * size r)
    → (b : Bool) → foldable_row (row_of (kind_of o)) ≡ b → (v : Option (List ℕ))
    → 3 * size (emit L (base_rule L (folding document01)) k (fold L (base_rule L (folding document01)) r) (cond b (tried L (folding document01) o v) (put o))) ≤ 10 * size (o ∷ r)
fold_by o r k w ih false e v = fold_one o o r (learned k (L.view o)) (omega arith) (ih (learned k (L.view o)))
fold_by o r k w ih true e None = fold_one o o r (learned k (L.view o)) (omega arith) (ih (learned k (L.view o)))
fold_by o r k w ih true e (Some vs) =
    let p : List ℕ = (folding document01).const o (head_or 0 vs) in
    fold_one o p r (learned k (L.view p)) (omega (arith, length_bytes 8 (head_or 0 vs), foldable_long o w e)) (ih (learned k (L.view p)))

fold_bound : (os : Prog L) (k : Known ℕ) → AllWhole row_of os → 3 * size (folded os k) ≤ 10 * size os
fold_bound [] k w = omega arith
fold_bound (o ∷ r) k w =
    fold_by o r k w.0 (λ (m : Known ℕ). fold_bound r m w.1) (foldable_row (row_of (kind_of o))) refl (option_and_then (computes (L.view o)) (all_known (reads k (inputs (L.view o)))))

-- what prune leaves
prune_bound : (note : Prog L → Vars) (os : Prog L) → size (prune_by L note os) ≤ size os
prune_bound note [] = omega arith
prune_bound note (o ∷ r) = go (dead (L.view o) (note r)) (prune_bound note r)
  where
    left : Prog L
    left = prune_by L note r

    go : (b : Bool) → size left ≤ size r → size (cond b left (o ∷ left)) ≤ size (o ∷ r)
    go true ih = omega (arith, length-append o (record_bytes r))
    go false ih = omega (arith, length-append o (record_bytes left), length-append o (record_bytes r))

ops_bound : (classes : List ℕ) (os : Prog L) → AllWhole row_of os → 3 * size (pass_ops document01 classes os) ≤ 10 * size os
unfolding pass_ops
ops_bound classes os w = omega (arith, prune_bound (live L (globals_in classes) (kept_in classes)) (folded os nothing), fold_bound os nothing w)

pub result_bound : ResultBound
result_bound block h =
    let ds = declarations (records_of row_of block) in
    let os = ops_from (records_of row_of block) in
    let p = parts lawful block h in
    record {
      most = result_small block h;
      ten_for_three =
          omega (
            arith,
            ap length (result_of_lem block ds os p),
            bytes_both ds (pass_ops document01 (classes_of ds) os),
            length-append (record_bytes ds) (record_bytes os),
            ap length (accepted_bytes block h),
            ops_bound (classes_of ds) os p.wholes.1,
          );
    }
