-- The constant that fold puts in an op's place, in a lawful dialect. Assumes nothing.
use mathlib.Core.Path.{◌≡◌, refl, sym, ap, ◌∙◌}
use mathlib.Core.Bool.{true, false}
use Rattle.std.specs.Prelude.{Some}
use mathlib.Core.List.{List, [], ◌∷◌}
use Prim.Native.Nat.{ℕ}
use native.Mathlib.Omega.{arith}
use lib.Dec.{eqb}
use lib.ListN.{length}
use borrow.Author.Tests.{eqb-true}
use Rattle.theory.specs.Machine.{calc, computes as stated, outputs, head_or}
use Rattle.theory.proofs.Rule.{Constants}
use Rattle.theory.proofs.Sets.{and_l, and_r, clash}
use Rattle.ops.specs.Rows.{Role, unknown, declares, sets_label, jumps_to, exits, branches, loads, stores, constant, computing, Row, is_computing, at}
use Rattle.ops.specs.Ops.{Dialect, eval_of, view_for, view_of, tcg}
use Rattle.ops.specs.Fields.{kind_of, row_at, bytes_at, outs_by, ins_by, rest_by}
use Rattle.ops.proofs.Lawful.{States, Lawful}
use Rattle.ops.specs.Folds.{foldable_row, folding, movi_of}

-- a row that may fold: one output, and a pure op's view
pub single : (row : Row) → foldable_row row ≡ true → row.outs ≡ at row.outs 0 ∷ []
single row h = go row.outs (eqb-true (length row.outs) 1 (and_r (is_computing row.role) (eqb (length row.outs) 1) h))
  where
    go : (xs : List ℕ) → length xs ≡ 1 → xs ≡ at xs 0 ∷ []
    go [] e = absurd (omega arith)
    go (x ∷ []) e = refl
    go (x ∷ y ∷ xs) e = absurd (omega arith)

pub computing_role : (r : Role) → is_computing r ≡ true → r ≡ computing
computing_role unknown h = clash false h refl
computing_role declares h = clash false h refl
computing_role sets_label h = clash false h refl
computing_role jumps_to h = clash false h refl
computing_role exits h = clash false h refl
computing_role branches h = clash false h refl
computing_role loads h = clash false h refl
computing_role stores h = clash false h refl
computing_role constant h = clash false h refl
computing_role computing h = refl

folds_view : (D : Dialect) (o : List ℕ) → (let row = row_at D.rows o in foldable_row row ≡ true → view_of D o ≡ calc (outs_by row o) (ins_by row o) (eval_of D (kind_of o) (rest_by row o)))
unfolding view_of
folds_view D o h = let row = row_at D.rows o in ap (λ (r : Role). view_for D r row o) (computing_role row.role (and_l (is_computing row.role) _ h))

module _ {D : Dialect} (law : Lawful D) (o xs vs : List ℕ) (t : foldable_row (row_at D.rows o) ≡ true) (g : stated (view_of D o) xs ≡ Some vs) where
  pub states : States D (row_at D.rows o) vs
  states = law.folds (kind_of o) t (rest_by (row_at D.rows o) o) xs vs (sym (ap (λ w. stated w xs) (folds_view D o t)) ∙ g)

  -- what is put in the op's place
  pub constant_for : (s : States D (row_at D.rows o) vs) → (folding D).const o (head_or 0 vs) ≡ movi_of s.type (at o 1) s.value
  constant_for s = rw (s.one_out, s.one_value)

  one_out : outputs (view_of D o) ≡ at o 1 ∷ []
  one_out = ap outputs (folds_view D o t) ∙ ap (λ (ts : List ℕ). bytes_at o 1 (length ts)) (single (row_at D.rows o) t)

  pub const_view : view_of D ((folding D).const o (head_or 0 vs)) ≡ calc (at o 1 ∷ []) [] (λ ys. Some (head_or 0 vs ∷ []))
  const_view =
      let s = states in
      ap (view_of D) (constant_for s) ∙ (s.constant_of (at o 1)).view ∙ ap (λ (n : ℕ). calc (at o 1 ∷ []) [] (λ ys. Some (n ∷ []))) (sym (ap (head_or 0) s.one_value))

pub constants : {D : Dialect} → Lawful D → Constants (tcg D) (folding D)
constants {D} law = record { out = λ o. at o 1; one_out = one_out law; const_view = const_view law; const_fixed = λ o v t. law.fixed (head_or 0 (row_at D.rows o).outs) (at o 1) v }
