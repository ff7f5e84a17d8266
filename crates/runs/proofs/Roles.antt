-- Roles by their numbers, and the labels that ops set and jump to. Assumes nothing.
use mathlib.Core.Path.{◌≡◌, refl, sym, ap, ◌∙◌, subst}
use mathlib.Core.Bool.{Bool, true, false, cond, ◌||◌, false≢true, true≢false}
use Rattle.std.specs.Prelude.{None, Some}
use mathlib.Core.List.{List}
use Prim.Native.Nat.{ℕ, ◌<◌}
use lib.Dec.{eqb}
use lib.ListN.{get_or}
use borrow.Author.Tests.{eqb-true, ne_eqb}
use Rattle.word.proofs.Tests.{cond_all}
use Rattle.theory.specs.Machine.{one_of, is_label}
use Rattle.theory.specs.Sets.{Vars}
use Rattle.theory.proofs.Sets.{clash}
use Rattle.theory.proofs.Simulation.{is_jump}
use Rattle.ops.specs.Limits.{label_count}
use Rattle.ops.specs.Rows.{Role, role_no, Row, role_in, number_of}
use Rattle.ops.specs.Rows.{is_setting, is_jumping}
use Rattle.ops.specs.Table.{kind_table, row_of}
use Rattle.ops.specs.Rows.{role_of}
use Rattle.ops.specs.Ops.{view_of, Dialect}
use Rattle.ops.specs.Fields.{row_at, label_by}
use Rattle.ops.proofs.Entry.{Digits, digits}
use Rattle.ops.proofs.Table.{same_number}
use Rattle.ops.proofs.Traits.{label_at, target_at}
use Rattle.ops.proofs.Lawful.{Lawful}
use Rattle.block.specs.Rules.{Seen, rule6, marked_by}

-- the role of a kind, from the number that its entry has
pub role_by : (r : Role) {e n : ℕ} (k : ℕ) → e ≡ get_or kind_table k 0 → n ≡ number_of (role_no (role_in e)) → n ≡ number_of r → role_of row_of k ≡ r
role_by r {e} k q m n = let d : Digits row_of e k = digits kind_table q in ap (λ (row : Row). row.role) d.row ∙ same_number (role_no (role_in e)) r (sym m ∙ n)

-- the label m, where there is one, is k
abbrev pub named : Bool → ℕ → ℕ → Bool
named x m k = one_of k (cond x (Some m) None)

pub named_is : (x : Bool) (m k : ℕ) → named x m k ≡ true → (x ≡ true) × (m ≡ k)
named_is true m k h = (refl, eqb-true m k h)
named_is false m k h = absurd (false≢true h)

module _ (D : Dialect) (o : List ℕ) where
  pub is_label_lem : (k : ℕ) → is_label k (view_of D o) ≡ named (is_setting (row_at D.rows o).role) (label_by (row_at D.rows o) o) k
  is_label_lem k = ap (one_of k) (label_at D o)

  pub is_jump_lem : (k : ℕ) → is_jump k (view_of D o) ≡ named (is_jumping (row_at D.rows o).role) (label_by (row_at D.rows o) o) k
  is_jump_lem k = ap (one_of k) (target_at D o)

-- rule 6 asks that a label be below the limit
pub label_low : {D : Dialect} (law : Lawful D) (o : List ℕ) (s : Seen) → is_setting (row_at D.rows o).role ≡ true → rule6 D.rows s o ≡ true → label_by (row_at D.rows o) o < label_count
unfolding rule6
label_low {D = D} law o s x h = law.table.label_low o (ap (λ (b : Bool). b || is_jumping (row_at D.rows o).role) x) h

pub jump_low : {D : Dialect} (law : Lawful D) (o : List ℕ) (s : Seen) (k : ℕ) → is_jump k (view_of D o) ≡ true → rule6 D.rows s o ≡ true → k < label_count
unfolding rule6
jump_low {D = D} law o s k j h =
    let p = named_is (is_jumping (row_at D.rows o).role) (label_by (row_at D.rows o) o) k (sym (is_jump_lem D o k) ∙ j) in
    subst (λ (n : ℕ). n < label_count) p.1 (law.table.label_low o (or_right (is_setting (row_at D.rows o).role) p.0) h)
  where
    or_right : (a : Bool) {b : Bool} → b ≡ true → (a || b) ≡ true
    or_right true e = refl
    or_right false e = e

-- an op that may jump sets no label
pub jumping_only : (r : Role) → is_jumping r ≡ true → is_setting r ≡ false
jumping_only r h = ne_eqb (number_of r) 2 (λ e. clash (is_jumping r) h (ap (λ (n : ℕ). eqb n 3 || eqb n 5) e))

-- what is marked once an op has been read, whose label is m where x says so
pub other_label : (x : Bool) (labels : Vars) (m k : ℕ) → named x m k ≡ false → marked_by x labels m k ≡ labels k
other_label true labels m k h = rw h
other_label false labels m k h = refl

pub stays_marked : (x : Bool) (labels : Vars) (m k : ℕ) → labels k ≡ true → marked_by x labels m k ≡ true
stays_marked true labels m k t = cond_all (λ (b : Bool). b ≡ true) (eqb m k) refl t
stays_marked false labels m k t = t

pub unmarked : (x : Bool) (labels : Vars) (m k : ℕ) → marked_by x labels m k ≡ false → (labels k ≡ false) × (named x m k ≡ false)
unmarked true labels m k h = go (eqb m k) h
  where
    go : (b : Bool) → cond b true (labels k) ≡ false → (labels k ≡ false) × (b ≡ false)
    go true q = absurd (true≢false q)
    go false q = (q, refl)
unmarked false labels m k h = (h, refl)
