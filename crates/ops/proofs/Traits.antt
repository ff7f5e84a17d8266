-- What the theory sees of a record, by the columns of its role. Assumes nothing.
use mathlib.Core.Path.{◌≡◌, refl, sym, ap}
use mathlib.Core.Bool.{Bool, true, false, cond}
use Rattle.std.specs.Prelude.{None, Some}
use mathlib.Core.List.{List, []}
use Prim.Native.Nat.{ℕ, ◌+◌}
use lib.ListN.{length}
use Rattle.theory.specs.Machine.{inputs, outputs, closes, label_of, target, pure}
use Rattle.theory.specs.Sets.{Vars, plus, empty}
use Rattle.theory.proofs.Scoped.{wrote}
use Rattle.theory.proofs.Sets.{clash}
use Rattle.ops.specs.Rows.{Role, unknown, declares, sets_label, jumps_to, exits, branches, loads, stores, constant, computing, Row, is_pure, is_closing, is_setting, is_jumping}
use Rattle.ops.specs.Ops.{view_for, view_of, Dialect}
use Rattle.ops.specs.Fields.{bytes_at, kind_of, row_at, outs_by, ins_by, label_by}
use Rattle.ops.proofs.Lawful.{Lawful}

module _ (D : Dialect) (row : Row) (r : List ℕ) where
  -- what the theory sees of an op, by the columns of its role
  abbrev Columns : Role → Type 0
  Columns x =
      (closes (view_for D x row r) ≡ is_closing x)
      × (pure (view_for D x row r) ≡ is_pure x)
      × (label_of (view_for D x row r) ≡ cond (is_setting x) (Some (label_by row r)) None)
      × (target (view_for D x row r) ≡ cond (is_jumping x) (Some (label_by row r)) None)

  columns : (x : Role) → Columns x
  columns unknown = (refl, refl, refl, refl)
  columns declares = (refl, refl, refl, refl)
  columns sets_label = (refl, refl, refl, refl)
  columns jumps_to = (refl, refl, refl, refl)
  columns exits = (refl, refl, refl, refl)
  columns branches = (refl, refl, refl, refl)
  columns loads = (refl, refl, refl, refl)
  columns stores = (refl, refl, refl, refl)
  columns constant = (refl, refl, refl, refl)
  columns computing = (refl, refl, refl, refl)

  inputs_by : (x : Role) → (x ≡ sets_label → ins_by row r ≡ []) → inputs (view_for D x row r) ≡ ins_by row r
  inputs_by unknown h = refl
  inputs_by declares h = refl
  inputs_by sets_label h = sym (h refl)
  inputs_by jumps_to h = refl
  inputs_by exits h = refl
  inputs_by branches h = refl
  inputs_by loads h = refl
  inputs_by stores h = refl
  inputs_by constant h = refl
  inputs_by computing h = refl

  outputs_by : (x : Role) → (x ≡ branches → outs_by row r ≡ []) → outputs (view_for D x row r) ≡ cond (is_closing x) [] (outs_by row r)
  outputs_by unknown h = refl
  outputs_by declares h = refl
  outputs_by sets_label h = refl
  outputs_by jumps_to h = refl
  outputs_by exits h = refl
  outputs_by branches h = sym (h refl)
  outputs_by loads h = refl
  outputs_by stores h = refl
  outputs_by constant h = refl
  outputs_by computing h = refl

module _ (D : Dialect) (r : List ℕ) where
  pub closes_at : closes (view_of D r) ≡ is_closing (row_at D.rows r).role
  unfolding view_of
  closes_at = (columns D (row_at D.rows r) r (row_at D.rows r).role).0

  pub pure_at : pure (view_of D r) ≡ is_pure (row_at D.rows r).role
  unfolding view_of
  pure_at = (columns D (row_at D.rows r) r (row_at D.rows r).role).1

  pub label_at : label_of (view_of D r) ≡ cond (is_setting (row_at D.rows r).role) (Some (label_by (row_at D.rows r) r)) None
  unfolding view_of
  label_at = (columns D (row_at D.rows r) r (row_at D.rows r).role).2

  pub target_at : target (view_of D r) ≡ cond (is_jumping (row_at D.rows r).role) (Some (label_by (row_at D.rows r) r)) None
  unfolding view_of
  target_at = (columns D (row_at D.rows r) r (row_at D.rows r).role).3

module _ {D : Dialect} (law : Lawful D) (r : List ℕ) where
  pub inputs_at_lem : inputs (view_of D r) ≡ ins_by (row_at D.rows r) r
  unfolding view_of
  inputs_at_lem = inputs_by D (row_at D.rows r) r (row_at D.rows r).role (λ e. ap (λ (ts : List ℕ). bytes_at r (1 + length (row_at D.rows r).outs) (length ts)) (law.table.label_reads (kind_of r) e))

  pub outputs_at : outputs (view_of D r) ≡ cond (is_closing (row_at D.rows r).role) [] (outs_by (row_at D.rows r) r)
  unfolding view_of
  outputs_at = outputs_by D (row_at D.rows r) r (row_at D.rows r).role (λ e. ap (λ (ts : List ℕ). bytes_at r 1 (length ts)) (law.table.branch_writes (kind_of r) e))

  pub wrote_at : (w : Vars) → wrote w (view_of D r) ≡ cond (is_closing (row_at D.rows r).role) empty (plus w (outs_by (row_at D.rows r) r))
  wrote_at w = rw (closes_at D r, outputs_at) (go (is_closing (row_at D.rows r).role))
    where
      go : (b : Bool) → cond b empty (plus w (cond b [] (outs_by (row_at D.rows r) r))) ≡ cond b empty (plus w (outs_by (row_at D.rows r) r))
      go true = refl
      go false = refl

-- a pure op sets no label and jumps to none
pub pure_quiet : (x : Role) → is_pure x ≡ true → (is_setting x ≡ false) × (is_jumping x ≡ false)
pure_quiet unknown h = clash false h refl
pure_quiet declares h = clash false h refl
pure_quiet sets_label h = clash false h refl
pure_quiet jumps_to h = clash false h refl
pure_quiet exits h = clash false h refl
pure_quiet branches h = clash false h refl
pure_quiet loads h = clash false h refl
pure_quiet stores h = clash false h refl
pure_quiet constant h = (refl, refl)
pure_quiet computing h = (refl, refl)
