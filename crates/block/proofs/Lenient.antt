-- The check accepts what fold and prune leave of accepted ops, but for the rule of temporaries. Assumes nothing.
use mathlib.Core.Path.{◌≡◌, refl, sym, ap, ap₂, ◌∙◌}
use mathlib.Core.Bool.{Bool, true, false, not, ◌&&◌}
use mathlib.Core.List.{List, [], ◌∷◌, ◌++◌}
use Prim.Native.Nat.{ℕ, suc, ◌≤◌}
use native.Mathlib.Omega.{arith}
use lib.Dec.{eqb, ltb}
use lib.ListN.{length, get_or}
use borrow.Author.Tests.{ltb-true, eqb-true, ne_eqb, lt-ltb, eq-eqb}
use Rattle.ops.specs.Limits.{max_ops}
use Rattle.theory.specs.Fold.{Known, Rewrite, base_rule}
use Rattle.theory.specs.Machine.{head_or, pure}
use Rattle.theory.proofs.Views.{computes_calc}
use Rattle.theory.specs.Sets.{Vars}
use Rattle.theory.proofs.Accept.{Lenient, Cutting, Admitted, Admits}
use Rattle.theory.proofs.Rule.{Puts, same, folds, puts}
use Rattle.theory.proofs.Sets.{and_l, and_r, and_i, clash}
use Rattle.ops.specs.Rows.{Role, role_of, is_pure, is_setting, is_jumping, at, Table}
use Rattle.ops.specs.Rows.{known, body_length}
use Rattle.ops.specs.Ops.{leave, view_for, view_of, tcg, Dialect}
use Rattle.ops.specs.Fields.{kind_of, row_at, ins_by, label_by}
use Rattle.ops.proofs.Traits.{pure_at, pure_quiet}
use Rattle.ops.proofs.Folding.{states, constant_for, const_view, constants}
use Rattle.ops.proofs.Lawful.{Constant, Lawful}
use Rattle.ops.specs.Folds.{folding, movi_of}
use Rattle.block.specs.Checks.{end_rules}
use Rattle.block.specs.Records.{is_declaration}
use Rattle.block.specs.Rules.{Seen, all_below, operands_of, rule4, have_types, rule5, rule6, marked_by, rule7, rule9, rule10}
use Rattle.block.specs.Rules.{rule7end, passed}
use Rattle.block.proofs.Accepts.{all_met}
use Rattle.block.proofs.Checker.{op_ok, checker}
use Rattle.block.proofs.Cut.{whole}

-- whatever is accepted after x is accepted after y
pub record Le (x y : Seen) : Type 0 where
  pub classes : y.classes ≡ x.classes
  pub types : y.types ≡ x.types
  pub labels : y.labels ≡ x.labels
  pub targets : y.targets ≡ x.targets
  pub ops : y.ops ≤ x.ops
  pub last : x.last ≡ 0x04 → y.last ≡ 0x04

rules_le : (T : Table) (x y : Seen) (o : List ℕ) → Le x y → (rule9 x o && (rule4 T x o && (rule5 T x o && (rule6 T x o && rule7 T x o)))) ≡ true
    → (rule9 y o && (rule4 T y o && (rule5 T y o && (rule6 T y o && rule7 T y o)))) ≡ true
unfolding rule9 rule4 rule5 rule6 rule7
rules_le T x y o l h =
    and_i (rule9 y o) _ (lt-ltb y.ops max_ops (omega (arith, l.ops, ltb-true x.ops max_ops (and_l (rule9 x o) _ h))))
    (rw (l.classes, l.types, l.labels) (and_r (rule9 x o) (rule4 T x o && (rule5 T x o && (rule6 T x o && rule7 T x o))) h))

ok_le : (T : Table) (x y : Seen) (o : List ℕ) → Le x y → op_ok T x o ≡ true → op_ok T y o ≡ true
ok_le T x y o l h =
    let p = and_r (whole T o) (not (is_declaration o) && (rule9 x o && (rule4 T x o && (rule5 T x o && (rule6 T x o && rule7 T x o))))) h in
    and_i (whole T o) (not (is_declaration o) && (rule9 y o && (rule4 T y o && (rule5 T y o && (rule6 T y o && rule7 T y o)))))
    (and_l (whole T o) (not (is_declaration o) && (rule9 x o && (rule4 T x o && (rule5 T x o && (rule6 T x o && rule7 T x o))))) h)
    (and_i (not (is_declaration o)) (rule9 y o && (rule4 T y o && (rule5 T y o && (rule6 T y o && rule7 T y o))))
    (and_l (not (is_declaration o)) (rule9 x o && (rule4 T x o && (rule5 T x o && (rule6 T x o && rule7 T x o)))) p)
    (rules_le T x y o l (and_r (not (is_declaration o)) (rule9 x o && (rule4 T x o && (rule5 T x o && (rule6 T x o && rule7 T x o)))) p)))

next_le : (T : Table) (x y : Seen) (o : List ℕ) → Le x y → Le (passed T x o) (passed T y o)
next_le T x y o l =
    record {
      classes = l.classes;
      types = l.types;
      labels = ap (λ (f : Vars). marked_by (is_setting (row_at T o).role) f (label_by (row_at T o) o)) l.labels;
      targets = ap (λ (f : Vars). marked_by (is_jumping (row_at T o).role) f (label_by (row_at T o) o)) l.targets;
      ops = omega (arith, l.ops);
      last = λ e. e;
    }

end_le : (x y : Seen) → Le x y → all_met (end_rules x) ≡ true → all_met (end_rules y) ≡ true
unfolding rule10 rule7end
end_le x y l h =
    and_i (eqb y.last 0x04) _ (eq-eqb y.last 0x04 (l.last (eqb-true x.last 0x04 (and_l (rule10 x) _ h))))
    (rw (l.targets, l.labels) (and_r (rule10 x) (rule7end x && true) h))

-- a pure op marks no label and jumps to none, and is no exit
calc_labels : (D : Dialect) (labels targets : Vars) (o : List ℕ) → pure (view_of D o) ≡ true
    → (marked_by (is_setting (row_at D.rows o).role) labels (label_by (row_at D.rows o) o) ≡ labels) × (marked_by (is_jumping (row_at D.rows o).role) targets (label_by (row_at D.rows o) o) ≡ targets)
calc_labels D labels targets o c =
    let q = pure_quiet (row_at D.rows o).role (sym (pure_at D o) ∙ c) in
    (ap (λ (b : Bool). marked_by b labels (label_by (row_at D.rows o) o)) q.0, ap (λ (b : Bool). marked_by b targets (label_by (row_at D.rows o) o)) q.1)

pub exit_view : {D : Dialect} (law : Lawful D) (o : List ℕ) → kind_of o ≡ 0x04 → view_of D o ≡ leave (ins_by (row_at D.rows o) o)
unfolding view_of
exit_view {D = D} law o e = ap (λ (r : Role). view_for D r (row_at D.rows o) o) (ap (role_of D.rows) e ∙ law.table.exiting)

no_exit : {D : Dialect} (law : Lawful D) {A : Type 0} (o : List ℕ) → pure (view_of D o) ≡ true → kind_of o ≡ 0x04 → A
no_exit {D = D} law o c e = clash (pure (view_of D o)) c (ap pure (exit_view law o e))

drop_ok : {D : Dialect} (law : Lawful D) (x : Seen) (o : List ℕ) → pure (view_of D o) ≡ true → Le (passed D.rows x o) x
drop_ok {D = D} law x o c =
    let l = calc_labels D x.labels x.targets o c in
    record {
      classes = refl;
      types = refl;
      labels = sym l.0;
      targets = sym l.1;
      ops = omega arith;
      last = λ e. no_exit law o c e;
    }

pub lenient : {D : Dialect} (law : Lawful D) → Lenient (tcg D) (checker D)
lenient {D = D} law =
    record {
      Le = Le;
      le_refl = λ x. record { classes = refl; types = refl; labels = refl; targets = refl; ops = omega arith; last = λ e. e };
      le_trans = λ x y z a b. record {
        classes = b.classes ∙ a.classes;
        types = b.types ∙ a.types;
        labels = b.labels ∙ a.labels;
        targets = b.targets ∙ a.targets;
        ops = omega (arith, a.ops, b.ops);
        last = λ e. b.last (a.last e);
      };
      ok_le = ok_le D.rows;
      next_le = next_le D.rows;
      fin_le = end_le;
      drop_ok = λ x o h c. drop_ok law x o c;
    }

-- a constant in the place of an accepted op with the same output is accepted
module _ {D : Dialect} (law : Lawful D) (x : Seen) (o o' : List ℕ) (w v : ℕ) (one : (row_at D.rows o).outs ≡ w ∷ []) (m : Constant D w (at o 1) v o') where
  constant_operands : operands_of D.rows o' ≡ at o 1 ∷ []
  constant_operands = rw (m.outs, m.ins)

  first_operand : operands_of D.rows o ≡ at o 1 ∷ ins_by (row_at D.rows o) o
  first_operand = rw one

  constant_4 : rule4 D.rows x o ≡ true → rule4 D.rows x o' ≡ true
  unfolding rule4
  constant_4 h =
      let k : (ltb (at o 1) (length x.classes) && all_below (length x.classes) (ins_by (row_at D.rows o) o)) ≡ true = sym (ap (all_below (length x.classes)) first_operand) ∙ h in
      ap (all_below (length x.classes)) constant_operands ∙ and_i (ltb (at o 1) (length x.classes)) true (and_l (ltb (at o 1) (length x.classes)) _ k) refl

  constant_5 : rule5 D.rows x o ≡ true → rule5 D.rows x o' ≡ true
  unfolding rule5
  constant_5 h =
      let k : (eqb (get_or x.types (at o 1) 0) w && have_types x.types (ins_by (row_at D.rows o) o) (row_at D.rows o).ins) ≡ true =
      sym (ap₂ (have_types x.types) first_operand (ap (λ (t : List ℕ). t ++ (row_at D.rows o).ins) one)) ∙ h in
      ap₂ (have_types x.types) constant_operands (ap₂ (λ (s t : List ℕ). s ++ t) m.types m.no_inputs)
      ∙ and_i (eqb (get_or x.types (at o 1) 0) w) true (and_l (eqb (get_or x.types (at o 1) 0) w) _ k) refl

  constant_9 : rule9 x o ≡ true → rule9 x o' ≡ true
  unfolding rule9
  constant_9 h = h

  constant_6 : rule6 D.rows x o' ≡ true
  unfolding rule6
  constant_6 = m.rest

  constant_7 : rule7 D.rows x o' ≡ true
  unfolding rule7
  constant_7 =
      let q = pure_quiet (row_at D.rows o').role (sym (pure_at D o') ∙ ap pure m.view) in
      rw (q.0, q.1)

  constant_whole : whole D.rows o' ≡ true
  constant_whole =
      and_i (known D.rows (kind_of o')) (eqb (length o') (suc (body_length D.rows (kind_of o'))))
      m.is_known (eq-eqb (length o') (suc (body_length D.rows (kind_of o'))) m.long)

  no_declaration : is_declaration o' ≡ false
  no_declaration =
      ne_eqb (kind_of o') 0x01 (λ e. clash (is_pure (row_at D.rows o').role) (sym (pure_at D o') ∙ ap pure m.view) (ap is_pure (ap (role_of D.rows) e ∙ law.table.declaring)))

  constant_ok : op_ok D.rows x o ≡ true → op_ok D.rows x o' ≡ true
  constant_ok h =
      let a = and_r (not (is_declaration o)) (rule9 x o && (rule4 D.rows x o && (rule5 D.rows x o && (rule6 D.rows x o && rule7 D.rows x o))))
      (and_r (whole D.rows o) (not (is_declaration o) && (rule9 x o && (rule4 D.rows x o && (rule5 D.rows x o && (rule6 D.rows x o && rule7 D.rows x o))))) h) in
      let b = and_r (rule9 x o) (rule4 D.rows x o && (rule5 D.rows x o && (rule6 D.rows x o && rule7 D.rows x o))) a in
      let c = and_r (rule4 D.rows x o) (rule5 D.rows x o && (rule6 D.rows x o && rule7 D.rows x o)) b in
      and_i (whole D.rows o') _ constant_whole
      (and_i (not (is_declaration o')) _ (ap not no_declaration)
      (and_i (rule9 x o') _ (constant_9 (and_l (rule9 x o) _ a))
      (and_i (rule4 D.rows x o') _ (constant_4 (and_l (rule4 D.rows x o) _ b))
      (and_i (rule5 D.rows x o') _ (constant_5 (and_l (rule5 D.rows x o) _ c))
      (and_i (rule6 D.rows x o') _ constant_6 constant_7)))))

-- document 01's rule never cuts
pub cutting : {D : Dialect} (law : Lawful D) → Cutting (tcg D) (checker D) (lenient law)
cutting law =
    record {
      Good = λ k. Unit {0};
      good_none = tt;
      Off = λ x y. ⊥;
      off_le = λ x y z a n. n;
      off_next = λ x y o n h e. n;
      off_label = λ x y o n h e. absurd n;
      off_fin = λ x y n h. absurd n;
    }

-- what fold puts in place
admitted : {D : Dialect} (law : Lawful D) (x : Seen) (k : Known ℕ) (o : List ℕ) (y : Rewrite (List ℕ)) → Puts (tcg D) (folding D) (constants law) k o y → op_ok D.rows x o ≡ true
    → Admitted (tcg D) (checker D) (lenient law) (cutting law) x k o y
unfolding lenient cutting
admitted law x k o y same h = (h, record { classes = refl; types = refl; labels = refl; targets = refl; ops = omega arith; last = λ q. q }, tt)
admitted {D = D} law x k o y (folds xs vs t a g) h =
    let o' = (folding D).const o (head_or 0 vs) in
    let s = states law o xs vs t g in
    let c' = movi_of s.type (at o 1) s.value in
    let q : o' ≡ c' = constant_for law o xs vs t g s in
    let c : pure (view_of D o) ≡ true = ap pure (computes_calc (view_of D o) xs vs g) in
    let l = calc_labels D x.labels x.targets o c in
    let l' = calc_labels D x.labels x.targets o' (ap pure (const_view law o xs vs t g)) in (
      ap (op_ok D.rows x) q ∙ constant_ok law x o c' s.type s.value s.one_out (s.constant_of (at o 1)) h,
      record {
        classes = refl;
        types = refl;
        labels = l'.0 ∙ sym l.0;
        targets = l'.1 ∙ sym l.1;
        ops = omega arith;
        last = λ z. no_exit law o c z;
      },
      tt,
    )

pub admits : {D : Dialect} (law : Lawful D) → Admits (tcg D) (checker D) (lenient law) (cutting law) (base_rule (tcg D) (folding D))
admits {D = D} law x k o u h = admitted law x k o (base_rule (tcg D) (folding D) k o) (puts (tcg D) (folding D) (constants law) k o) h
