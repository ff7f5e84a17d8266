-- Every run of an accepted block exits, faults or meets an op without a stated result. Assumes nothing.
use mathlib.Core.Path.{◌≡◌, refl, sym, ap, ◌∙◌, subst}
use mathlib.Core.Bool.{Bool, true, false, cond, not, ◌&&◌, ◌||◌}
use mathlib.Core.List.{List, [], ◌∷◌}
use mathlib.Core.Logic.{◌⊎◌, inl, inr}
use Prim.Native.Nat.{ℕ, zero, suc, ◌<◌}
use native.Mathlib.Omega.{arith}
use lib.Dec.{eqb}
use lib.ListN.{length, get_or}
use borrow.Author.Tests.{eqb-true, eqb-false, eq-eqb, not-true}
use lib.Arith.{lt_of_le-ne}
use Rattle.theory.proofs.Checker.{checks}
use Rattle.theory.specs.Machine.{is_label, St, seek}
use Rattle.theory.specs.Sets.{Vars}
use Rattle.theory.proofs.Ends.{Grounded, ends_properly}
use Rattle.theory.proofs.Simulation.{proper, goes_on, is_jump}
use Rattle.theory.proofs.Sets.{and_l, and_r, clash, tell}
use Rattle.ops.specs.Limits.{label_count}
use Rattle.ops.specs.Rows.{is_setting, is_jumping, Table}
use Rattle.ops.specs.Ops.{view_of, tcg, Dialect}
use Rattle.ops.specs.Fields.{kind_of, row_at, label_by}
use Rattle.block.specs.Checks.{end_rules, check_by}
use Rattle.block.specs.Records.{records_of, is_declaration, declarations, ops_from}
use Rattle.block.specs.Rules.{Seen, start, rule4, rule5, rule6, rule7, rule9, rule10, all_set, rule7end, passed}
use Rattle.block.proofs.Accepts.{all_met}
use Rattle.block.proofs.Cut.{whole}
use Rattle.block.proofs.Lenient.{exit_view}
use Rattle.block.proofs.Parts.{parts}
use Rattle.runs.specs.Runs.{entry, ops_run}
use Rattle.runs.proofs.Roles.{named_is, is_label_lem, is_jump_lem, jump_low, jumping_only, other_label, stays_marked, unmarked}
use Rattle.block.proofs.Checker.{op_ok, checker, declared_in}
use Rattle.block.specs.Checks.{Accepted}
use Rattle.ops.proofs.Lawful.{Lawful}

-- a label that is not set yet is found in what is left
abbrev pub Ahead : Dialect → List (List ℕ) → Seen → List (List ℕ) → Type 0
Ahead D b s r = (l : ℕ) → s.labels l ≡ false → seek (tcg D) l b ≡ seek (tcg D) l r

pub ahead_next : (D : Dialect) (b : List (List ℕ)) (s : Seen) (o : List ℕ) (r : List (List ℕ)) → Ahead D b s (o ∷ r) → Ahead D b (passed D.rows s o) r
ahead_next D b s o r a l h = let p = unmarked (is_setting (row_at D.rows o).role) s.labels (label_by (row_at D.rows o) o) l h in a l p.0 ∙ rw (is_label_lem D o l ∙ p.1)

-- an op is due, the check accepts what is left, and b is the block
abbrev Due : Dialect → List (List ℕ) → List (List ℕ) → Type 0
Due D b [] = ⊥
Due D b (o ∷ r) = (s : Seen) × (checks (tcg D) (checker D) s (o ∷ r) ≡ true) × Ahead D b s (o ∷ r)

-- the last op is an exit
not_last : {D : Dialect} (law : Lawful D) (s : Seen) (o : List ℕ) → all_met (end_rules (passed D.rows s o)) ≡ true → goes_on (view_of D o) ≡ false
unfolding rule10
not_last law s o h = ap goes_on (exit_view law o (eqb-true (kind_of o) 0x04 (and_l (eqb (kind_of o) 0x04) _ h)))

next_due : {D : Dialect} (law : Lawful D) (b : List (List ℕ)) (o : List ℕ) (r : List (List ℕ)) → Due D b (o ∷ r) → goes_on (view_of D o) ≡ true → Due D b r
next_due {D = D} law b o [] d h = clash (goes_on (view_of D o)) h (not_last law d.0 o (and_r (op_ok D.rows d.0 o) (all_met (end_rules (passed D.rows d.0 o))) d.1))
next_due {D = D} law b o (q ∷ r) d h = (passed D.rows d.0 o, and_r (op_ok D.rows d.0 o) (checks (tcg D) (checker D) (passed D.rows d.0 o) (q ∷ r)) d.1, ahead_next D b d.0 o (q ∷ r) d.2)

-- an op that goes on has an op after it
pub goes_inside : {D : Dialect} (law : Lawful D) (s : Seen) (os : List (List ℕ)) (i : ℕ) → checks (tcg D) (checker D) s os ≡ true → i < length os → goes_on (view_of D (get_or os i [])) ≡ true → suc i < length os
goes_inside law s [] i c h g = absurd (omega arith)
goes_inside {D = D} law s (o ∷ []) zero c h g = clash (goes_on (view_of D o)) g (not_last law s o (and_r (op_ok D.rows s o) (all_met (end_rules (passed D.rows s o))) c))
goes_inside {D = D} law s (o ∷ (q ∷ os)) zero c h g = omega arith
goes_inside {D = D} law s (o ∷ os) (suc i) c h g =
    omega (arith, goes_inside law (passed D.rows s o) os i (and_r (op_ok D.rows s o) (checks (tcg D) (checker D) (passed D.rows s o) os) c) (omega arith) g)

-- a label that is not set stays so up to its set_label, and a target stays one
pub other_labels : (D : Dialect) (s : Seen) (o : List ℕ) (k : ℕ) → is_label k (view_of D o) ≡ false → s.labels k ≡ false → s.targets k ≡ true
    → ((passed D.rows s o).labels k ≡ false) × ((passed D.rows s o).targets k ≡ true)
other_labels D s o k n l t =
    let m = label_by (row_at D.rows o) o in
    (other_label (is_setting (row_at D.rows o).role) s.labels m k (sym (is_label_lem D o k) ∙ n) ∙ l, stays_marked (is_jumping (row_at D.rows o).role) s.targets m k t)

-- at the end each target is set
all_set_lem : (targets labels : Vars) (n k : ℕ) → all_set targets labels n ≡ true → k < n → targets k ≡ true → labels k ≡ true
all_set_lem targets labels zero k h l t = absurd (omega arith)
all_set_lem targets labels (suc n) k h l t = go (tell (eqb n k)) (all_set_lem targets labels n k (and_r (not (targets n) || labels n) (all_set targets labels n) h))
  where
    here : n ≡ k → labels k ≡ true
    here e =
        let a : (not (targets n) || labels n) ≡ true = and_l (not (targets n) || labels n) (all_set targets labels n) h in
        let b : (not (targets k) || labels k) ≡ true = subst (λ (m : ℕ). (not (targets m) || labels m) ≡ true) e a in
        rw t at b

    go : (eqb n k ≡ true) ⊎ (eqb n k ≡ false) → (k < n → targets k ≡ true → labels k ≡ true) → labels k ≡ true
    go (inl e) ih = here (eqb-true n k e)
    go (inr e) ih = ih (lt_of_le-ne (omega arith) (λ q. eqb-false n k e (sym q))) t

pub end_set : (s : Seen) (k : ℕ) → all_met (end_rules s) ≡ true → k < label_count → s.targets k ≡ true → s.labels k ≡ true
unfolding rule7end
end_set s k h l t =
    all_set_lem s.targets s.labels label_count k (and_l (rule7end s) true (and_r (rule10 s) (rule7end s && true) h)) l t

found : (D : Dialect) (b r : List (List ℕ)) (s : Seen) (k : ℕ) → checks (tcg D) (checker D) s r ≡ true → Ahead D b s r → k < label_count → s.labels k ≡ false → s.targets k ≡ true → Due D b (seek (tcg D) k r)
found D b [] s k c a m l t = clash (s.labels k) (end_set s k c m t) l
found D b (o ∷ r) s k c a m l t =
    go (is_label k (view_of D o)) refl
    (λ n. let p = other_labels D s o k n l t in
    found D b r (passed D.rows s o) k (and_r (op_ok D.rows s o) (checks (tcg D) (checker D) (passed D.rows s o) r) c) (ahead_next D b s o r a) m p.0 p.1)
  where
    go : (x : Bool) → is_label k (view_of D o) ≡ x → (is_label k (view_of D o) ≡ false → Due D b (seek (tcg D) k r)) → Due D b (cond x (o ∷ r) (seek (tcg D) k r))
    go true e ih = (s, c, a)
    go false e ih = ih e

pub op_parts : (T : Table) (s : Seen) (o : List ℕ) → op_ok T s o ≡ true → (rule6 T s o ≡ true) × (rule7 T s o ≡ true)
op_parts T s o h =
    let a = and_r (not (is_declaration o)) (rule9 s o && (rule4 T s o && (rule5 T s o && (rule6 T s o && rule7 T s o))))
    (and_r (whole T o) (not (is_declaration o) && (rule9 s o && (rule4 T s o && (rule5 T s o && (rule6 T s o && rule7 T s o))))) h) in
    let b = and_r (rule5 T s o) (rule6 T s o && rule7 T s o) (and_r (rule4 T s o) (rule5 T s o && (rule6 T s o && rule7 T s o)) (and_r (rule9 s o) (rule4 T s o && (rule5 T s o && (rule6 T s o && rule7 T s o))) a)) in
    (and_l (rule6 T s o) (rule7 T s o) b, and_r (rule6 T s o) (rule7 T s o) b)

-- a jump's label is not yet set, and is then jumped to
pub landed_labels : (D : Dialect) (s : Seen) (o : List ℕ) (k : ℕ) → is_jump k (view_of D o) ≡ true → rule7 D.rows s o ≡ true
    → ((passed D.rows s o).labels k ≡ false) × ((passed D.rows s o).targets k ≡ true)
unfolding rule7
landed_labels D s o k j h =
    let role = (row_at D.rows o).role in
    let m = label_by (row_at D.rows o) o in
    let p = named_is (is_jumping role) m k (sym (is_jump_lem D o k) ∙ j) in
    let only : is_setting role ≡ false = jumping_only role p.0 in
    let free : not (s.labels m) ≡ true = rw (only, p.0) at h in
    (rw only (subst (λ (n : ℕ). s.labels n ≡ false) p.1 (not-true (s.labels m) free)), rw p.0 (ap (λ (b : Bool). cond b true (s.targets k)) (eq-eqb m k p.1)))

module _ {D : Dialect} (law : Lawful D) (b : List (List ℕ)) (o : List ℕ) (r : List (List ℕ)) (k : ℕ) (d : Due D b (o ∷ r)) (j : is_jump k (view_of D o) ≡ true) where
  met : (rule6 D.rows d.0 o ≡ true) × (rule7 D.rows d.0 o ≡ true)
  met = op_parts D.rows d.0 o (and_l (op_ok D.rows d.0 o) (checks (tcg D) (checker D) (passed D.rows d.0 o) r) d.1)

  forward : seek (tcg D) k b ≡ seek (tcg D) k r
  forward = ahead_next D b d.0 o r d.2 k (landed_labels D d.0 o k j met.1).0

  landed_due : Due D b (seek (tcg D) k b)
  landed_due =
      let q = landed_labels D d.0 o k j met.1 in
      rw forward
      (found D b r (passed D.rows d.0 o) k (and_r (op_ok D.rows d.0 o) (checks (tcg D) (checker D) (passed D.rows d.0 o) r) d.1) (ahead_next D b d.0 o r d.2) (jump_low law o d.0 k j met.0) q.0 q.1)

grounded : {D : Dialect} (law : Lawful D) (b : List (List ℕ)) → Grounded (tcg D) b (Due D b)
grounded law b = record { some_op = λ d. d; next_op = next_due law b; landed = landed_due law b }

no_op_lem : (s : Seen) → s.last ≡ 0 → rule10 s ≡ false
unfolding rule10
no_op_lem s e = rw e

pub some_ops : (D : Dialect) (s : Seen) (os : List (List ℕ)) → s.last ≡ 0 → checks (tcg D) (checker D) s os ≡ true → 0 < length os
some_ops D s [] e c = clash (rule10 s) (and_l (rule10 s) _ c) (no_op_lem s e)
some_ops D s (o ∷ os) e c = omega arith

-- accepted ops end in one of the three ways
pub ops_end : {D : Dialect} (law : Lawful D) (s : Seen) (os : List (List ℕ)) (t : St (tcg D)) → s.last ≡ 0 → checks (tcg D) (checker D) s os ≡ true → proper (ops_run D os t).end ≡ true
ops_end law s [] t e c = clash (rule10 s) (and_l (rule10 s) _ c) (no_op_lem s e)
ops_end {D = D} law s (o ∷ os) t e c = ends_properly (tcg D) (o ∷ os) (Due D (o ∷ os)) (grounded law (o ∷ os)) (forward law (o ∷ os)) t (s, c, λ l h. refl)

-- "It ends in one of three ways": every run of an accepted block does
pub run_ends : {D : Dialect} (law : Lawful D) (block globals memory : List ℕ) → check_by D.rows block ≡ Accepted → proper (ops_run D (ops_from (records_of D.rows block)) (entry D globals memory)).end ≡ true
run_ends {D = D} law block globals memory h =
    let p = parts law block h in
    ops_end law (declared_in start (declarations (records_of D.rows block))) (ops_from (records_of D.rows block)) (entry D globals memory) refl p.checked
