-- Where jumps land: the label's number that the scan keeps is that of the op at which the run goes on. Assumes nothing.
use mathlib.Core.Path.{◌≡◌, refl, sym, ap, ◌∙◌, subst, subst₂}
use mathlib.Core.Bool.{Bool, true, false, cond, not, ◌||◌, false≢true}
use mathlib.Core.List.{List, [], ◌∷◌}
use Prim.Native.Nat.{ℕ, zero, suc, ◌+◌, ◌-◌, ◌≤◌, ◌<◌}
use native.Mathlib.Omega.{arith}
use lib.Dec.{eqb}
use lib.ListN.{length, get_or, drop, set, replicate, length-set, length-drop}
use lib.Seq.{drop-cons, drop-drop}
use borrow.Author.Tests.{eqb-true, not-true, ne_eqb}
use native.Mathlib.Nat.{zero-add, add-zero}
use Rattle.theory.proofs.Checker.{checks}
use Rattle.theory.specs.Machine.{is_label, seek}
use Rattle.theory.specs.Sets.{upd, Vars, empty}
use Rattle.theory.proofs.Simulation.{is_jump}
use Rattle.theory.proofs.Sets.{and_l, and_r, clash}
use Rattle.ops.specs.Limits.{label_count}
use Rattle.ops.specs.Rows.{is_setting, is_jumping}
use Rattle.ops.specs.Ops.{view_of, tcg, Dialect}
use Rattle.ops.specs.Fields.{row_at, label_by}
use Rattle.block.specs.Rules.{Seen, rule7, marked_by, passed}
use Rattle.block.specs.Scan.{numbered, labelled_by, labels_from}
use Rattle.block.proofs.Checker.{op_ok, checker}
use Rattle.block.proofs.MarkSets.{set_here, at_place, numbered_upd, numbered_none}
use Rattle.runs.proofs.Ends.{Ahead, ahead_next, other_labels, end_set, op_parts, landed_labels}
use Rattle.runs.proofs.Roles.{named, is_label_lem, label_low, jump_low, stays_marked}
use Rattle.ops.proofs.Lawful.{Lawful}

-- the numbers say which labels are set
abbrev Says : List ℕ → Seen → Type 0
Says L s = (length L ≡ label_count) × ((v : ℕ) → numbered L v ≡ s.labels v)

-- where x says so, the label m is numbered
abbrev numbered_by : Bool → ℕ → ℕ → List ℕ → List ℕ
numbered_by x m i L = cond x (set L m (i + 1)) L

says_by : (x : Bool) (L : List ℕ) (labels : Vars) (m i : ℕ) → length L ≡ label_count → ((v : ℕ) → numbered L v ≡ labels v) → (x ≡ true → m < label_count)
    → (length (numbered_by x m i L) ≡ label_count) × ((v : ℕ) → numbered (numbered_by x m i L) v ≡ marked_by x labels m v)
says_by true L labels m i n h b =
    let e : numbered (set L m (i + 1)) ≡ upd (numbered L) m true = numbered_upd (set_here L m (i + 1) (omega (arith, b refl))) (omega arith) in
    (length-set L m (i + 1) ∙ n, λ v. ap (λ (f : Vars). f v) e ∙ ap (cond (eqb m v) true) (h v))
says_by false L labels m i n h b = (n, h)

-- a label that is set keeps its number
keeps_number : (x y : Bool) (L : List ℕ) (labels : Vars) (m i l : ℕ) → (x ≡ true → m < length L) → (not (x || y) || not (labels m)) ≡ true → labels l ≡ true
    → get_or (numbered_by x m i L) l 0 ≡ get_or L l 0
keeps_number true y L labels m i l b h t =
    at_place (set_here L m (i + 1) (b refl)) l ∙ rw (ne_eqb m l (λ e. clash (labels l) t (subst (λ (n : ℕ). labels n ≡ false) e (not-true (labels m) h))))
keeps_number false y L labels m i l b h t = refl

-- and the label of an op that sets one has the op's number
label_number : (x : Bool) (m l i : ℕ) (L : List ℕ) → named x m l ≡ true → l < length L → get_or (numbered_by x m i L) l 0 ≡ i + 1
label_number true m l i L e h = at_place (set_here L m (i + 1) (omega (arith, eqb-true m l e))) l ∙ rw e
label_number false m l i L e h = absurd (false≢true e)

module _ {D : Dialect} (law : Lawful D) (L : List ℕ) (s : Seen) (o : List ℕ) (i : ℕ) (h : Says L s) (k : op_ok D.rows s o ≡ true) where
  says_next : Says (labelled_by (row_at D.rows o) (label_by (row_at D.rows o) o) i L) (passed D.rows s o)
  says_next = says_by (is_setting (row_at D.rows o).role) L s.labels (label_by (row_at D.rows o) o) i h.0 h.1 (λ x. omega (arith, label_low law o s x (op_parts D.rows s o k).0))

  keeps : (l : ℕ) → s.labels l ≡ true → get_or (labelled_by (row_at D.rows o) (label_by (row_at D.rows o) o) i L) l 0 ≡ get_or L l 0
  unfolding rule7
  keeps l t =
      keeps_number (is_setting (row_at D.rows o).role) (is_jumping (row_at D.rows o).role) L s.labels (label_by (row_at D.rows o) o) i l
      (λ x. omega (arith, label_low law o s x (op_parts D.rows s o k).0, h.0)) (op_parts D.rows s o k).1 t

stays : {D : Dialect} (law : Lawful D) (os : List (List ℕ)) (s : Seen) (L : List ℕ) (i l : ℕ) → checks (tcg D) (checker D) s os ≡ true → Says L s → s.labels l ≡ true → get_or (labels_from D.rows i L os) l 0 ≡ get_or L l 0
unfolding labels_from
stays law [] s L i l c h t = refl
stays {D = D} law (o ∷ os) s L i l c h t =
    let k : op_ok D.rows s o ≡ true = and_l (op_ok D.rows s o) (checks (tcg D) (checker D) (passed D.rows s o) os) c in
    stays law os (passed D.rows s o) (labelled_by (row_at D.rows o) (label_by (row_at D.rows o) o) i L) (suc i) l (and_r (op_ok D.rows s o) (checks (tcg D) (checker D) (passed D.rows s o) os) c) (says_next law L s o i h k)
    (stays_marked (is_setting (row_at D.rows o).role) s.labels (label_by (row_at D.rows o) o) l t)
    ∙ keeps law L s o i h k l t

-- the op that sets a label that is jumped to: so many ops on
record Found (D : Dialect) (os : List (List ℕ)) (l number i : ℕ) : Type 0 where
  on : ℕ
  here : seek (tcg D) l os ≡ drop on os
  inside : on < length os
  numbered_so : number ≡ suc (i + on)

found : {D : Dialect} (law : Lawful D) (os : List (List ℕ)) (s : Seen) (L : List ℕ) (i l : ℕ) → checks (tcg D) (checker D) s os ≡ true → Says L s → l < label_count → s.labels l ≡ false → s.targets l ≡ true
    → Found D os l (get_or (labels_from D.rows i L os) l 0) i
unfolding labels_from
found law [] s L i l c h b f t = clash (s.labels l) (end_set s l c b t) f
found {D = D} law (o ∷ os) s L i l c h b f t =
    go (is_label l (view_of D o)) refl
    (λ e. let p = other_labels D s o l e f t in found law os (passed D.rows s o) (labelled_by (row_at D.rows o) (label_by (row_at D.rows o) o) i L) (suc i) l c' h' b p.0 p.1)
  where
    k : op_ok D.rows s o ≡ true
    k = and_l (op_ok D.rows s o) (checks (tcg D) (checker D) (passed D.rows s o) os) c

    c' : checks (tcg D) (checker D) (passed D.rows s o) os ≡ true
    c' = and_r (op_ok D.rows s o) (checks (tcg D) (checker D) (passed D.rows s o) os) c

    h' : Says (labelled_by (row_at D.rows o) (label_by (row_at D.rows o) o) i L) (passed D.rows s o)
    h' = says_next law L s o i h k

    go : (x : Bool) → is_label l (view_of D o) ≡ x
        → (is_label l (view_of D o) ≡ false → Found D os l (get_or (labels_from D.rows (suc i) (labelled_by (row_at D.rows o) (label_by (row_at D.rows o) o) i L) os) l 0) (suc i))
        → Found D (o ∷ os) l (get_or (labels_from D.rows (suc i) (labelled_by (row_at D.rows o) (label_by (row_at D.rows o) o) i L) os) l 0) i
    go true e ih =
        let n : get_or (labelled_by (row_at D.rows o) (label_by (row_at D.rows o) o) i L) l 0 ≡ i + 1 = label_number (is_setting (row_at D.rows o).role) (label_by (row_at D.rows o) o) l i L (sym (is_label_lem D o l) ∙ e) (omega (arith, h.0)) in
        let set : (passed D.rows s o).labels l ≡ true = sym (h'.1 l) ∙ ap (λ (x : ℕ). not (eqb x 0)) n ∙ rw (ne_eqb (i + 1) 0 (λ q. omega arith)) in
        record {
          on = 0;
          here = rw e;
          inside = omega arith;
          numbered_so = stays law os (passed D.rows s o) (labelled_by (row_at D.rows o) (label_by (row_at D.rows o) o) i L) (suc i) l c' h' set ∙ n ∙ last i;
        }
      where
        last : (i : ℕ) → i + 1 ≡ suc (i + 0)
        last i = omega arith
    go false e ih =
        let q = ih e in
        record { on = suc q.on; here = rw e q.here; inside = omega (arith, q.inside); numbered_so = q.numbered_so ∙ next i q.on }
      where
        next : (i n : ℕ) → suc (suc i + n) ≡ suc (i + suc n)
        next i n = omega arith

-- the check at the i-th op of a block
record Reached (D : Dialect) (b os : List (List ℕ)) (i : ℕ) : Type 0 where
  seen_so : Seen
  numbers : List ℕ
  checked : checks (tcg D) (checker D) seen_so os ≡ true
  says : Says numbers seen_so
  same : labels_from D.rows 0 (replicate label_count 0) b ≡ labels_from D.rows i numbers os
  ahead : Ahead D b seen_so os

reach_next : {D : Dialect} (law : Lawful D) (b : List (List ℕ)) (o : List ℕ) (os : List (List ℕ)) (i : ℕ) → Reached D b (o ∷ os) i → Reached D b os (suc i)
unfolding labels_from
reach_next {D = D} law b o os i r =
    let s = r.seen_so in
    let k : op_ok D.rows s o ≡ true = and_l (op_ok D.rows s o) (checks (tcg D) (checker D) (passed D.rows s o) os) r.checked in
    record {
      seen_so = passed D.rows s o;
      numbers = labelled_by (row_at D.rows o) (label_by (row_at D.rows o) o) i r.numbers;
      checked = and_r (op_ok D.rows s o) (checks (tcg D) (checker D) (passed D.rows s o) os) r.checked;
      says = says_next law r.numbers s o i r.says k;
      same = r.same;
      ahead = ahead_next D b s o os r.ahead;
    }

reach : {D : Dialect} (law : Lawful D) (b : List (List ℕ)) (i j : ℕ) (os : List (List ℕ)) → Reached D b os j → Reached D b (drop i os) (j + i)
unfolding labels_from
reach law b zero j os r = rw (add-zero j) r
reach law b (suc i) j [] r = record { seen_so = r.seen_so; numbers = r.numbers; checked = r.checked; says = r.says; same = r.same; ahead = r.ahead }
reach {D = D} law b (suc i) j (o ∷ os) r = let e : suc j + i ≡ j + suc i = omega arith in subst (λ (n : ℕ). Reached D b (drop i os) n) e (reach law b i (suc j) os (reach_next law b o os j r))

-- a jump of the i-th op lands further on, at the op whose number the scan keeps
pub record Lands (D : Dialect) (os : List (List ℕ)) (l number i : ℕ) : Type 0 where
  pub has_number : 1 ≤ number
  pub further : i < number - 1
  pub inside : number - 1 < length os
  pub here : seek (tcg D) l os ≡ drop (number - 1) os
  pub low : l < label_count

lands : {D : Dialect} (os : List (List ℕ)) (i l number : ℕ) → seek (tcg D) l os ≡ seek (tcg D) l (drop (suc i) os) → Found D (drop (suc i) os) l number (suc i) → l < label_count → Lands D os l number i
lands os i l number e f low =
    let n : suc i + f.on ≡ number - 1 = omega (arith, f.numbered_so) in
    record {
      has_number = omega (arith, f.numbered_so);
      further = omega (arith, f.numbered_so);
      inside = omega (arith, f.numbered_so, f.inside, length-drop (suc i) os);
      here = e ∙ f.here ∙ drop-drop f.on (suc i) os ∙ ap (λ (x : ℕ). drop x os) n;
      low = low;
    }

pub jump_lands : {D : Dialect} (law : Lawful D) (s : Seen) (os : List (List ℕ)) (i l : ℕ) → checks (tcg D) (checker D) s os ≡ true → s.labels ≡ empty → i < length os → is_jump l (view_of D (get_or os i [])) ≡ true
    → Lands D os l (get_or (labels_from D.rows 0 (replicate label_count 0) os) l 0) i
unfolding labels_from reach_next
jump_lands {D = D} law s os i l c e h j =
    let o = get_or os i [] in
    let rest = drop (suc i) os in
    let r₀ : Reached D os os 0 =
    record {
      seen_so = s;
      numbers = replicate label_count 0;
      checked = c;
      says = (refl, λ v. ap (λ (f : Vars). f v) (numbered_none label_count refl ∙ sym e));
      same = refl;
      ahead = λ m q. refl;
    } in
    let r₁ : Reached D os (o ∷ rest) i = subst₂ (Reached D os) (drop-cons os i [] h) (zero-add i) (reach law os i 0 os r₀) in
    let t = r₁.seen_so in
    let k : op_ok D.rows t o ≡ true = and_l (op_ok D.rows t o) (checks (tcg D) (checker D) (passed D.rows t o) rest) r₁.checked in
    let p = op_parts D.rows t o k in
    let q = landed_labels D t o l j p.1 in
    let r₂ = reach_next law os o rest i r₁ in
    lands os i l (get_or (labels_from D.rows 0 (replicate label_count 0) os) l 0) (r₂.ahead l q.0)
    (subst (λ (n : List ℕ). Found D rest l (get_or n l 0) (suc i)) (sym r₂.same)
    (found law rest (passed D.rows t o) r₂.numbers (suc i) l r₂.checked r₂.says (jump_low law o t l j p.0) q.0 q.1))
    (jump_low law o t l j p.0)
