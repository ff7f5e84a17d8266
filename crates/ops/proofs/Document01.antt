-- Document 01's table and dialect are lawful. Assumes nothing.
use mathlib.Core.Path.{◌≡◌, refl, sym, ap, ◌∙◌, fun_ext}
use mathlib.Core.Bool.{true, cond, ◌||◌}
use Rattle.std.specs.Prelude.{Option, None, Some}
use mathlib.Core.List.{List, [], ◌∷◌}
use mathlib.Core.Logic.{◌⊎◌, inl, inr}
use Prim.Native.Nat.{ℕ, zero, suc, ◌^◌, ◌<◌}
use native.Mathlib.Omega.{arith}
use lib.Dec.{eqb}
use lib.ListN.{get_or, drop}
use lib.Seq.{get_or-drop}
use borrow.Author.Tests.{eqb-true, lt-ltb, ltb-true}
use Rattle.theory.specs.Machine.{calc}
use Rattle.theory.proofs.Views.{no_some}
use Rattle.theory.proofs.Sets.{and_r, or_cases}
use Rattle.memory.specs.Bytes.{low_first, bytes_of}
use Rattle.memory.proofs.Numbers.{low_bytes, length_bytes}
use Rattle.ops.specs.Limits.{label_count}
use Rattle.ops.specs.Rows.{Role, sets_label, jumps_to, branches, constant, role_no, Row, number_of, bits_of, types_of, table_of, body_of}
use Rattle.ops.specs.Rows.{is_known, is_setting, is_jumping, at, cond_ok, label_ok, test_ok}
use Rattle.ops.specs.Ops.{at_types, eval_of, view_for, view_of}
use Rattle.ops.specs.Fields.{kind_of, row_at, outs_by, ins_by, rest_by, label_by}
use Rattle.ops.specs.Kinds.{one, computed_of, states_of, document01}
use Rattle.ops.specs.Table.{kind_table, row_of}
use Rattle.ops.proofs.Table.{type_at, row_with, row_of_lem, asks_few, body_short, same_number}
use Rattle.ops.proofs.Inputs.{no_movi, evaluated}
use Rattle.ops.proofs.Fits.{folded_fits, out_small}
use Rattle.ops.specs.Lawful.{LawfulTable}
use Rattle.ops.proofs.Lawful.{Constant, States, Lawful}
use Rattle.ops.proofs.Folding.{single}
use Rattle.ops.specs.Folds.{foldable_row, movi_kind, movi_of}

-- rule 6 asks that a label be below the limit
module _ (o : List ℕ) where
  abbrev Asked : Row → Type 0
  Asked row = test_ok row.test (rest_by row o) ≡ true → label_by row o < label_count

  first_byte : (r : Role) → Asked (row_with [] [] 1 1 r)
  unfolding test_ok
  first_byte r h = ltb-true (at o 1) label_count (rw (get_or-drop 1 o 0 0) at h)

  second_byte : (t : ℕ) → Asked (row_with [] (t ∷ t ∷ []) 2 3 branches)
  unfolding test_ok
  second_byte t h = ltb-true (at o 4) label_count (rw (get_or-drop 3 o 1 0) at (and_r (cond_ok (get_or (drop 3 o) 0 0)) (label_ok (get_or (drop 3 o) 1 0)) h))

  its_role : (r : Role) → eqb (number_of (row_at row_of o).role) (number_of r) ≡ true → (row_at row_of o).role ≡ r
  its_role r h = same_number (row_at row_of o).role r (eqb-true (number_of (row_at row_of o).role) (number_of r) h)

  label_low : (is_setting (row_at row_of o).role || is_jumping (row_at row_of o).role) ≡ true → Asked (row_at row_of o)
  label_low h = go (or_cases (is_setting (row_at row_of o).role) (is_jumping (row_at row_of o).role) h)
    where
      jumps : (eqb (number_of (row_at row_of o).role) 3 ≡ true) ⊎ (eqb (number_of (row_at row_of o).role) 5 ≡ true) → Asked (row_at row_of o)
      jumps (inl e) = rw (row_of_lem jumps_to (kind_of o) (its_role jumps_to e)) (first_byte jumps_to)
      jumps (inr e) = rw (row_of_lem branches (kind_of o) (its_role branches e)) (second_byte (type_at (kind_of o)))

      go : (is_setting (row_at row_of o).role ≡ true) ⊎ (is_jumping (row_at row_of o).role ≡ true) → Asked (row_at row_of o)
      go (inl e) = rw (row_of_lem sets_label (kind_of o) (its_role sets_label e)) (first_byte sets_label)
      go (inr e) = jumps (or_cases (eqb (number_of (row_at row_of o).role) 3) (eqb (number_of (row_at row_of o).role) 5) e)

pub table_lawful : LawfulTable row_of
unfolding table_of kind_table role_no types_of
table_lawful =
    record {
      declaring = refl;
      declared_body = refl;
      exiting = refl;
      label_reads = λ k e. ap (λ (row : Row). row.ins) (row_of_lem sets_label k e);
      branch_writes = λ k e. ap (λ (row : Row). row.outs) (row_of_lem branches k e);
      label_low = label_low;
      asks_few = λ k. asks_few k refl;
      body_short = body_short;
    }

-- a movi
abbrev movi_row : ℕ → Row
movi_row t = row_with (t ∷ []) [] 8 (cond (eqb t 0) 8 0) constant

movi_row_lem : (t : ℕ) → t < 2 → row_of (movi_kind t) ≡ movi_row t
unfolding table_of kind_table role_no types_of
movi_row_lem zero h = refl
movi_row_lem (suc zero) h = refl
movi_row_lem (suc (suc t)) h = absurd (omega arith)

movi_states : (t : ℕ) (bytes vs : List ℕ) → t < 2 → eval_of document01 (movi_kind t) bytes vs ≡ Some (low_first bytes 0 8 ∷ [])
unfolding eval_of states_of
movi_states zero bytes vs h = refl
movi_states (suc zero) bytes vs h = refl
movi_states (suc (suc t)) bytes vs h = absurd (omega arith)

within_64 : (t x : ℕ) → t < 2 → x < 2 ^ bits_of t → x < 2 ^ 64
within_64 zero x h l = omega arith
within_64 (suc zero) x h l = l
within_64 (suc (suc t)) x h l = absurd (omega arith)

movi_test : (t x : ℕ) (bytes : List ℕ) → t < 2 → x < 2 ^ bits_of t → low_first bytes 0 8 ≡ x → test_ok (cond (eqb t 0) 8 0) bytes ≡ true
unfolding test_ok
movi_test zero x bytes h l e = lt-ltb (low_first bytes 0 8) (2 ^ 32) (rw e l)
movi_test (suc zero) x bytes h l e = refl
movi_test (suc (suc t)) x bytes h l e = absurd (omega arith)

movi_facts : (t d x : ℕ) → t < 2 → x < 2 ^ bits_of t → Constant document01 t d x (movi_of t d x)
unfolding view_of
movi_facts t d x small h =
    let row = movi_row_lem t small in
    let e : low_first (bytes_of 8 x) 0 8 ≡ x = low_bytes 8 x (within_64 t x small h) in
    record {
      view =
          ap (λ (y : Row). view_for document01 y.role y (movi_of t d x)) row
          ∙ ap (calc (d ∷ []) []) (fun_ext (λ ys. movi_states t (bytes_of 8 x) ys small ∙ ap (λ (n : ℕ). Some (n ∷ [])) e));
      is_known = ap (λ (y : Row). is_known y.role) row;
      long = ap (λ (n : ℕ). suc (suc n)) (length_bytes 8 x) ∙ ap (λ (y : Row). suc (body_of y)) (sym row);
      outs = ap (λ (y : Row). outs_by y (movi_of t d x)) row;
      ins = ap (λ (y : Row). ins_by y (movi_of t d x)) row;
      types = ap (λ (y : Row). y.outs) row;
      no_inputs = ap (λ (y : Row). y.ins) row;
      rest = ap (λ (y : Row). test_ok y.test (rest_by y (movi_of t d x))) row ∙ movi_test t x (bytes_of 8 x) small h e;
    }

-- an op that may fold states one value, and it fits
folds : (k : ℕ) → foldable_row (row_of k) ≡ true → (bytes xs vs : List ℕ) → eval_of document01 k bytes xs ≡ Some vs → States document01 (row_of k) vs
folds k t bytes xs vs g = go (computed_of k bytes (at_types (row_of k).ins xs)) refl (sym (evaluated k t bytes xs) ∙ g)
  where
    go : (y : Option ℕ) → computed_of k bytes (at_types (row_of k).ins xs) ≡ y → one y ≡ Some vs → States document01 (row_of k) vs
    go None q e = no_some e
    go (Some x) q e =
        record {
          type = at (row_of k).outs 0;
          value = x;
          one_out = single (row_of k) t;
          one_value = cc;
          constant_of = λ d. movi_facts (at (row_of k).outs 0) d x (out_small k t) (folded_fits k t bytes xs x q);
        }

pub lawful : Lawful document01
lawful = record { table = table_lawful; folds = folds; fixed = λ t d x. no_movi t }
