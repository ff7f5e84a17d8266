-- One turn of the loop over the ops. Assumes nothing.
use mathlib.Core.Path.{◌≡◌, refl, sym, ap, ap₂, ◌∙◌, subst}
use mathlib.Core.Logic.{◌⊎◌, inl, inr}
use mathlib.Core.Bool.{Bool, true, false, cond, not, ◌&&◌, ◌||◌}
use mathlib.Core.List.{List, [], ◌∷◌, ◌++◌, append_assoc}
use Prim.Native.Nat.{ℕ, suc, ◌+◌, ◌-◌, ◌%◌, ◌≤◌, ◌<◌}
use native.Mathlib.Omega.{arith}
use lib.Dec.{eqb, ltb, leb}
use lib.ListN.{length, get_or, drop, set, replicate, length-append}
use borrow.Author.Tests.{ltb-true, ltb-false, eqb-true, eqb-false, eq-eqb, ne_eqb, leb-false, le-leb, lt-leb, not-true}
use native.Mathlib.Nat.{zero-add, add-zero}
use native.Mathlib.Numerals.{add-one}
use Rattle.ops.specs.Limits.{max_variables, max_ops, label_count}
use Rattle.theory.specs.Sets.{Vars}
use Rattle.theory.proofs.Sets.{tell, and_l, and_r}
use Rattle.ops.specs.Rows.{known, body_length, Table}
use Rattle.ops.specs.Rows.{outs_in, ins_in, rest_in, role_in, row_in, Row, role_no, is_known, is_setting, is_jumping}
use Rattle.ops.specs.Fields.{kind_of, row_at, bytes_at, outs_by, ins_by, label_by}
use Rattle.ops.specs.Plans.{exit_rank}
use Rattle.ops.proofs.Entry.{Digits}
use Rattle.block.proofs.Codes.{coded_next}
use Rattle.block.proofs.Cut.{bytes_more}
use Rattle.block.proofs.OpRules.{Op, tests_alike, stopped_not, no_op_lem, no_fit, op_fits}
use Rattle.block.proofs.Views.{row_at_lem, output_bytes, label_byte}
use Rattle.block.specs.Checks.{asks, first_broken, op_rules, rules_of, end_rules, refused_or, check_by}
use Rattle.block.specs.Records.{Cut, cons, cut_of, is_declaration, class_of, type_of, classes_of, declared_types}
use Rattle.block.specs.Rules.{Seen, all_global, all_below, rule3, rule4, marked_by, rule9, rule10, all_set}
use Rattle.block.specs.Rules.{rule7end, passed, next}
use Rattle.block.specs.Scan.{record_at, Stands, check_at, codes_in, codes_by, marked, numbered, LabelledAs, declared_seen, record_rule, op_tests, operands_ok, entry_rule, op_stands, op_ok}
use Rattle.block.specs.Scan.{labelled_by, targeted_by, places_from, labels_from, records_at, UpTo, ScannedBy, Marks, Begins, Reading}
use Rattle.block.proofs.Accepts.{all_met, none_broken, numbered_rules}
use Rattle.block.proofs.Fields.{kind_at, below_left}
use Rattle.block.proofs.Places.{places_more, labels_more}
use Rattle.block.proofs.MarkSets.{marked_none, numbered_none}
use Rattle.block.proofs.Steps.{cut_record, record_length, at_unknown, at_short, at_record, cut_end, at_end}
use Rattle.block.specs.Checks.{Accepted, Refused}

-- a place's answer by the rule that its record breaks
at_place : (T : Table) (s : Seen) (b : List ℕ) (p : ℕ) → p < length b
    → check_at T s b p ≡ refused_or (record_rule T s b p) p (check_at T (next T s (record_at T b p)) b (p + suc (body_length T (get_or b p 0))))
unfolding record_rule
at_place T s b p h = go (known T (get_or b p 0)) refl (ltb (length b) (p + suc (body_length T (get_or b p 0)))) refl
  where
    k : ℕ
    k = get_or b p 0

    go : (t : Bool) → known T k ≡ t → (u : Bool) → ltb (length b) (p + suc (body_length T k)) ≡ u
        → check_at T s b p ≡ refused_or (cond t (cond u 1 (first_broken (rules_of T s (record_at T b p)))) 2) p (check_at T (next T s (record_at T b p)) b (p + suc (body_length T k)))
    go false e u f = at_unknown T b p h s e
    go true e true f = at_short T b p h s e (ltb-true (length b) (p + suc (body_length T k)) f)
    go true e false f = at_record T b p h s e (ltb-false (length b) (p + suc (body_length T k)) f)

-- a record of a known kind stands at a place, whole
pub record WholeAt (T : Table) (b : List ℕ) (p : ℕ) : Type 0 where
  pub is_known : known T (get_or b p 0) ≡ true
  pub within : p + suc (body_length T (get_or b p 0)) ≤ length b

rule_whole : (T : Table) (s : Seen) (b : List ℕ) (p : ℕ) → record_rule T s b p ≡ 0 → WholeAt T b p
unfolding record_rule
rule_whole T s b p = go (known T (get_or b p 0)) refl (ltb (length b) (p + suc (body_length T (get_or b p 0)))) refl
  where
    k : ℕ
    k = get_or b p 0

    go : (t : Bool) → known T k ≡ t → (u : Bool) → ltb (length b) (p + suc (body_length T k)) ≡ u
        → cond t (cond u 1 (first_broken (rules_of T s (record_at T b p)))) 2 ≡ 0 → WholeAt T b p
    go false e u f q = absurd (omega arith)
    go true e true f q = absurd (omega arith)
    go true e false f q = record { is_known = e; within = ltb-false (length b) (p + suc (body_length T k)) f }

-- what a record that breaks no rule after ops is: an op, and not one too many
sound_rule : (T : Table) (s : Seen) (b : List ℕ) (p : ℕ) → record_rule T s b p ≡ 0 → all_met (rules_of T s (record_at T b p)) ≡ true
unfolding record_rule
sound_rule T s b p = go (known T (get_or b p 0)) (ltb (length b) (p + suc (body_length T (get_or b p 0))))
  where
    go : (t u : Bool) → cond t (cond u 1 (first_broken (rules_of T s (record_at T b p)))) 2 ≡ 0 → all_met (rules_of T s (record_at T b p)) ≡ true
    go false u q = absurd (omega arith)
    go true true q = absurd (omega arith)
    go true false q = sym (none_broken (rules_of T s (record_at T b p)) (numbered_rules T s (record_at T b p))) ∙ eq-eqb (first_broken (rules_of T s (record_at T b p))) 0 q

late_rule : (s : Seen) (r : List ℕ) → rule3 s r ≡ true → s.ops ≡ 0
unfolding rule3
late_rule s r h =
    eqb-true s.ops 0
    (and_l (eqb s.ops 0) (leb (class_of r) 2)
    (and_l (eqb s.ops 0 && leb (class_of r) 2) (leb (type_of r) 1)
    (and_l (eqb s.ops 0 && leb (class_of r) 2 && leb (type_of r) 1) (not (eqb (class_of r) 0) || all_global s.classes)
    (and_l (eqb s.ops 0 && leb (class_of r) 2 && leb (type_of r) 1 && (not (eqb (class_of r) 0) || all_global s.classes)) (ltb (length s.classes) max_variables) h))))

few_rule : (s : Seen) (r : List ℕ) → rule9 s r ≡ true → s.ops < max_ops
unfolding rule9
few_rule s r h = ltb-true s.ops max_ops h

-- the record breaks no rule: it is an op of declared variables, and not one too many
pub record SoundOp (T : Table) (s : Seen) (b : List ℕ) (p : ℕ) : Type 0 where
  pub is_op : get_or b p 0 ≡ 1 → ⊥
  pub few : s.ops < max_ops
  pub declared : rule4 T s (record_at T b p) ≡ true

op_here : (T : Table) (s : Seen) (b : List ℕ) (p : ℕ) → record_rule T s b p ≡ 0 → (get_or b p 0 ≡ 1 → s.ops ≡ 0 → ⊥) → SoundOp T s b p
op_here T s b p z d = go (is_declaration (record_at T b p)) refl (sound_rule T s b p z)
  where
    w : p + suc (body_length T (get_or b p 0)) ≤ length b
    w = (rule_whole T s b p z).within

    go : (t : Bool) → is_declaration (record_at T b p) ≡ t → all_met (cond t (asks 3 (rule3 s (record_at T b p)) ∷ []) (op_rules T s (record_at T b p))) ≡ true → SoundOp T s b p
    go true e m =
        let k : get_or b p 0 ≡ 1 = sym (kind_at T b p w) ∙ eqb-true (kind_of (record_at T b p)) 0x01 e in
        absurd (d k (late_rule s (record_at T b p) (and_l (rule3 s (record_at T b p)) true m)))
    go false e m =
        record {
          is_op = λ k. eqb-false (kind_of (record_at T b p)) 0x01 e (kind_at T b p w ∙ k);
          few = few_rule s (record_at T b p) (and_l (rule9 s (record_at T b p)) _ m);
          declared = and_l (rule4 T s (record_at T b p)) _ (and_r (rule9 s (record_at T b p)) _ m);
        }

-- an op that stands at a place is inside
stands_inside : (e : ℕ) (b : List ℕ) (p : ℕ) → op_stands e b p ≡ true → p + (outs_in e + ins_in e + rest_in e) < length b
stands_inside e b p k =
    let long : Bool = leb (length b - p) (outs_in e + ins_in e + rest_in e) in
    let l = and_r (is_known (role_no (role_in e))) (not long) (and_l (is_known (role_no (role_in e)) && not long) (not (eqb (get_or b p 0) 1)) k) in
    omega (arith, leb-false (length b - p) (outs_in e + ins_in e + rest_in e) (not-true long l))

pub op_inside : (e : ℕ) (b : List ℕ) (p : ℕ) {stands : Bool} → stands ≡ op_stands e b p → stands ≡ true → p + (outs_in e + ins_in e + rest_in e) < length b
op_inside e b p o t = stands_inside e b p (sym o ∙ t)

-- the record there breaks no rule
module _ {T : Table} {b : List ℕ} {start : ℕ} {places₀ base vars labels targets places : List ℕ} {p ops last : ℕ}
    (s : Reading T b start places₀ base vars labels targets places p ops last) where
  pub record Sound : Type 0 where
    pub here : p < length b
    pub sound : record_rule T s.seen b p ≡ 0

module _ {T : Table} {b : List ℕ} {start : ℕ} {places₀ base vars labels targets places : List ℕ} {p ops last : ℕ}
    (s : Reading T b start places₀ base vars labels targets places p ops last) (h : p < length b) where
  -- the rule that the record there breaks, by the entry of its kind and the arrays
  late : get_or b p 0 ≡ 1 → rule3 s.seen (record_at T b p) ≡ false
  late k = go (tell (rule3 s.seen (record_at T b p)))
    where
      go : (rule3 s.seen (record_at T b p) ≡ true) ⊎ (rule3 s.seen (record_at T b p) ≡ false) → rule3 s.seen (record_at T b p) ≡ false
      go (inl t) = absurd (s.first_op (sym s.ops_so ∙ late_rule s.seen (record_at T b p) t) h k)
      go (inr t) = t

  module _ {e : ℕ} (d : Digits T e (get_or b p 0)) where
    whole_rule : p + suc (body_length T (get_or b p 0)) ≤ length b
        → first_broken (rules_of T s.seen (record_at T b p)) ≡ cond (eqb (get_or b p 0) 1) 3 (first_broken (op_tests e b p ops vars labels (operands_ok e b p vars)))
    unfolding first_broken
    whole_rule l = rw (kind_at T b p l) (go (tell (eqb (get_or b p 0) 1)))
      where
        go : (eqb (get_or b p 0) 1 ≡ true) ⊎ (eqb (get_or b p 0) 1 ≡ false)
            → first_broken (cond (eqb (get_or b p 0) 1) (asks 3 (rule3 s.seen (record_at T b p)) ∷ []) (op_rules T s.seen (record_at T b p)))
            ≡ cond (eqb (get_or b p 0) 1) 3 (first_broken (op_tests e b p ops vars labels (operands_ok e b p vars)))
        go (inl z) = rw (z, late (eqb-true (get_or b p 0) 1 z))
        go (inr z) =
            rw z
            (sym
            (tests_alike (record { e = e; b = b; p = p; ops = ops; vars = vars; labels = labels }) s.seen (record { its_kind = refl; whole = l }) d s.coded s.labels_so
            s.ops_so))

    entry_rule_lem : record_rule T s.seen b p ≡ entry_rule e b p ops vars labels (operands_ok e b p vars)
    unfolding record_rule entry_rule
    entry_rule_lem = go (tell (known T (get_or b p 0))) (tell (ltb (length b) (p + suc (body_length T (get_or b p 0)))))
      where
        go : (known T (get_or b p 0) ≡ true) ⊎ (known T (get_or b p 0) ≡ false)
            → (ltb (length b) (p + suc (body_length T (get_or b p 0))) ≡ true) ⊎ (ltb (length b) (p + suc (body_length T (get_or b p 0))) ≡ false)
            → cond (known T (get_or b p 0)) (cond (ltb (length b) (p + suc (body_length T (get_or b p 0)))) 1 (first_broken (rules_of T s.seen (record_at T b p)))) 2
            ≡ cond (is_known (role_no (role_in e))) (cond (leb (length b - p) (outs_in e + ins_in e + rest_in e)) 1 (cond (eqb (get_or b p 0) 1) 3 (first_broken (op_tests e b p ops vars labels (operands_ok e b p vars))))) 2
        go (inr x) y = rw (x, sym d.is_known ∙ x)
        go (inl x) (inl y) =
            let l = ltb-true (length b) (p + suc (body_length T (get_or b p 0))) y in
            rw (x, sym d.is_known ∙ x, y, le-leb (length b - p) (outs_in e + ins_in e + rest_in e) (omega (arith, l, d.body)))
        go (inl x) (inr y) =
            let l = ltb-false (length b) (p + suc (body_length T (get_or b p 0))) y in
            rw (x, sym d.is_known ∙ x, y, lt-leb (length b - p) (outs_in e + ins_in e + rest_in e) (omega (arith, l, d.body))) (whole_rule l)

    -- it is refused, or breaks no rule
    abbrev here : Op
    here = record { e = e; b = b; p = p; ops = ops; vars = vars; labels = labels }

    refused_at : {rule : ℕ} → rule ≡ entry_rule e b p ops vars labels (operands_ok e b p vars) → (rule ≡ 0 → ⊥) → ScannedBy T b start places₀ places labels (Refused rule p) p ops
    refused_at {rule} q z =
        let a : rule ≡ record_rule T s.seen b p = q ∙ sym entry_rule_lem in
        record {
          answers = ap (λ (m : ℕ). Refused m p) a ∙ same_refusal (record_rule T s.seen b p) (λ u. z (a ∙ u)) ∙ sym (at_place T s.seen b p h) ∙ s.goes_on;
          up_to = s.up_to;
          all_read = λ u. cc;
        }
      where
        same_refusal : (m : ℕ) → (m ≡ 0 → ⊥) → Refused m p ≡ refused_or m p (check_at T (next T s.seen (record_at T b p)) b (p + suc (body_length T (get_or b p 0))))
        same_refusal m u = rw (ne_eqb m 0 u)

    module _ {stands : Bool} (o : stands ≡ op_stands e b p) where
      pub stopped_at : {rule place : ℕ} → stands ≡ false → (rule ≡ entry_rule e b p ops vars labels false) × (place ≡ p) → ScannedBy T b start places₀ places labels (Refused rule place) place ops
      stopped_at t q = rw q.1 (refused_at (q.0 ∙ sym (no_op_lem here (sym o ∙ t))) (λ u. stopped_not here (sym q.0 ∙ u)))

      module _ (t : stands ≡ true) {ok : Bool} (f : ok ≡ op_ok e b p ops vars labels) where
        pub unfit_at : {rule place : ℕ} → ok ≡ false → (rule ≡ entry_rule e b p ops vars labels false) × (place ≡ p) → ScannedBy T b start places₀ places labels (Refused rule place) place ops
        unfit_at k q = rw q.1 (refused_at (q.0 ∙ sym (no_fit here (sym o ∙ t) (sym f ∙ k))) (λ u. stopped_not here (sym q.0 ∙ u)))

        pub sound_at : ok ≡ true → Sound s
        sound_at k = record { here = h; sound = entry_rule_lem ∙ op_fits here (sym o ∙ t) (sym f ∙ k) }

module _ {T : Table} {b : List ℕ} {start : ℕ} {places₀ base vars labels targets places : List ℕ} {p ops last : ℕ}
    {s : Reading T b start places₀ base vars labels targets places p ops last} (k : Sound s) where
  its_op : SoundOp T s.seen b p
  its_op = op_here T s.seen b p k.sound (λ d q. s.first_op (sym s.ops_so ∙ q) k.here d)

  pub few_ops_here : ops < max_ops
  few_ops_here = omega (arith, its_op.few, s.ops_so)

  whole_here : WholeAt T b p
  whole_here = rule_whole T s.seen b p k.sound

  pub whole_op : p + suc (body_length T (get_or b p 0)) ≤ length b
  whole_op = whole_here.within

  pub stands_at : Stands T b p (get_or b p 0)
  stands_at = record { its_kind = refl; whole = whole_op }

  cut_here : cut_of T (drop p b) ≡ cons (record_at T b p) (cut_of T (drop (p + suc (body_length T (get_or b p 0))) b))
  cut_here = cut_record T b p k.here whole_here.is_known whole_here.within

  long_here : length (record_at T b p) ≡ suc (body_length T (get_or b p 0))
  long_here = record_length T b p k.here whole_here.within

  seen_next : next T s.seen (record_at T b p) ≡ passed T s.seen (record_at T b p)
  unfolding next
  seen_next = rw (ne_eqb (kind_of (record_at T b p)) 0x01 (λ q. its_op.is_op (sym (kind_at T b p whole_here.within) ∙ q)))

  outs_below : all_below (length s.seen.classes) (outs_by (row_at T (record_at T b p)) (record_at T b p)) ≡ true
  unfolding rule4
  outs_below = below_left (length s.seen.classes) (outs_by (row_at T (record_at T b p)) (record_at T b p)) (ins_by (row_at T (record_at T b p)) (record_at T b p)) its_op.declared

  pub again_at : {m n : ℕ} → m ≡ body_length T (get_or b p 0) → 1 ≤ m → ops < length places₀ → eqb n exit_rank ≡ eqb (get_or b p 0) 0x04 → (vars' labels' targets' : List ℕ)
      → Marks T (record_at T b p) ops base vars vars' labels labels' targets targets'
      → Reading T b start places₀ base vars' labels' targets' (set places ops (p % 65536)) (p + (1 + m)) (ops + 1) n
  again_at {m} z long room exits vars' labels' targets' w =
      let q : p + (1 + m) ≡ p + suc (body_length T (get_or b p 0)) = omega (arith, z) in
      let row = row_at T (record_at T b p) in
      rw q
      (record {
        seen = passed T s.seen (record_at T b p);
        goes_on =
            ap (λ (t : Seen). check_at T t b (p + suc (body_length T (get_or b p 0)))) (sym seen_next)
            ∙ sym (ap (λ (m : ℕ). refused_or m p (check_at T (next T s.seen (record_at T b p)) b (p + suc (body_length T (get_or b p 0))))) k.sound)
            ∙ sym (at_place T s.seen b p k.here) ∙ s.goes_on;
        coded = coded_next s.based s.coded row vars' (outs_by row (record_at T b p)) w.codes_so outs_below;
        based = s.based;
        labels_so = ap (λ (ls : Vars). marked_by (is_setting row.role) ls (label_by row (record_at T b p))) s.labels_so ∙ sym w.labelled.labels_so;
        targets_so = ap (λ (ts : Vars). marked_by (is_jumping row.role) ts (label_by row (record_at T b p))) s.targets_so ∙ sym w.targets_so;
        ops_so = ap suc s.ops_so ∙ sym (add-one ops);
        last_so = exits ∙ sym (ap (λ (k : ℕ). eqb k 0x04) (kind_at T b p whole_here.within));
        up_to = further;
        first_op = λ x. absurd (omega arith);
        few = omega (arith, few_ops_here);
      })
    where
      further : UpTo T b start places₀ (set places ops (p % 65536)) labels' (p + suc (body_length T (get_or b p 0))) (ops + 1)
      further =
          record {
            read = s.up_to.read ++ (record_at T b p ∷ []);
            records_are =
                s.up_to.records_are ∙ ap (λ (c : Cut). s.up_to.read ++ c.records) cut_here
                ∙ sym (append_assoc s.up_to.read (record_at T b p ∷ []) (records_at T b (p + suc (body_length T (get_or b p 0)))));
            spans = omega (arith, bytes_more s.up_to.read (record_at T b p), s.up_to.spans, long_here);
            least = omega (arith, s.up_to.least, z, long);
            held = omega (arith, room);
            count = length-append s.up_to.read (record_at T b p ∷ []) ∙ ap (λ (n : ℕ). n + 1) s.up_to.count;
            places_are =
                ap₂ (λ (P : List ℕ) (n : ℕ). set P n (p % 65536)) s.up_to.places_are (sym (zero-add (length s.up_to.read) ∙ s.up_to.count))
                ∙ ap (λ (n : ℕ). set (places_from start 0 places₀ s.up_to.read) (0 + length s.up_to.read) (n % 65536)) (sym s.up_to.spans)
                ∙ sym (places_more s.up_to.read (record_at T b p) start 0 places₀);
            labels_are =
                w.labelled.numbers_so
                ∙ ap₂ (λ (n : ℕ) (ls : List ℕ). labelled_by (row_at T (record_at T b p)) (label_by (row_at T (record_at T b p)) (record_at T b p)) n ls) (sym (zero-add (length s.up_to.read) ∙ s.up_to.count)) s.up_to.labels_are
                ∙ sym (labels_more T s.up_to.read (record_at T b p) 0 (replicate label_count 0));
          }

-- the end
module _ {T : Table} {b : List ℕ} {start : ℕ} {places₀ base vars labels targets places : List ℕ} {p ops last : ℕ}
    (s : Reading T b start places₀ base vars labels targets places p ops last) (h : length b ≤ p) where
  end_answer : refused_or (first_broken (end_rules s.seen)) p Accepted ≡ check_by T b
  end_answer = sym (at_end T s.seen b p h) ∙ s.goes_on

  rest : records_at T b p ≡ []
  rest = ap (λ (c : Cut). c.records) (cut_end T b p h)

  pub scanning_10 : eqb last exit_rank ≡ false → ScannedBy T b start places₀ places labels (Refused 10 p) p ops
  unfolding first_broken rule10
  scanning_10 q = record { answers = rw (sym s.last_so ∙ q) at end_answer; up_to = s.up_to; all_read = λ z. rest }

  module _ {r : Bool} (q : eqb last exit_rank ≡ true) (e : r ≡ all_set (marked targets) (numbered labels) label_count) where
    pub scanning_7 : r ≡ false → ScannedBy T b start places₀ places labels (Refused 7 p) p ops
    unfolding first_broken rule10 rule7end
    scanning_7 t = record { answers = rw (sym s.last_so ∙ q, s.targets_so, s.labels_so, sym e ∙ t) at end_answer; up_to = s.up_to; all_read = λ z. rest }

    pub scanning_0 : r ≡ true → ScannedBy T b start places₀ places labels Accepted p ops
    unfolding first_broken rule10 rule7end
    scanning_0 t = record { answers = rw (sym s.last_so ∙ q, s.targets_so, s.labels_so, sym e ∙ t) at end_answer; up_to = s.up_to; all_read = λ z. rest }

-- the start, after the declarations
pub begins_start : {T : Table} {b base labels : List ℕ} {p : ℕ} (places₀ : List ℕ) → Begins T b base p → labels ≡ replicate label_count 0
    → Reading T b p places₀ base base labels (replicate label_count 0) places₀ p 0 0
unfolding places_from labels_from
begins_start {T = T} {b = b} {labels = labels} {p = p} places₀ g z =
    record {
      seen = declared_seen (classes_of g.after.before) (declared_types g.after.before);
      goes_on = g.after.goes_on;
      coded = g.after.coded refl;
      based = g.after.coded refl;
      labels_so = sym (numbered_none label_count z);
      targets_so = sym (marked_none label_count refl);
      ops_so = refl;
      last_so = refl;
      up_to = at_first;
      first_op = λ e. g.no_more;
      few = omega arith;
    }
  where
    at_first : UpTo T b p places₀ places₀ labels p 0
    at_first = record { read = []; records_are = refl; spans = add-zero p; count = refl; least = omega arith; held = omega arith; places_are = refl; labels_are = z }

pub begins_inside : {T : Table} {b base : List ℕ} {p : ℕ} → Begins T b base p → p ≤ length b
begins_inside g = g.after.reached

-- what an op leaves in the arrays, from the digits of its entry
module _ {T : Table} {b : List ℕ} {p k e : ℕ} (s : Stands T b p k) (d : Digits T e k) where
  label_is : label_by (row_at T (record_at T b p)) (record_at T b p) ≡ get_or b (p + (outs_in e + ins_in e + rest_in e)) 0
  label_is = label_byte s ∙ ap (λ (n : ℕ). get_or b (p + n) 0) d.body

  row_is : row_at T (record_at T b p) ≡ row_in e
  row_is = row_at_lem s ∙ d.row

  pub last_inside : p + (outs_in e + ins_in e + rest_in e) < length b
  last_inside = omega (arith, s.whole, d.body)

  pub marks_by : {op : ℕ} {base vars vars' labels labels' targets targets' : List ℕ} → codes_in vars' ≡ codes_by (row_in e) (codes_in base) (codes_in vars) (bytes_at b (p + 1) (outs_in e))
      → LabelledAs (row_in e) (get_or b (p + (outs_in e + ins_in e + rest_in e)) 0) op labels labels'
      → marked targets' ≡ marked_by (is_jumping (role_no (role_in e))) (marked targets) (get_or b (p + (outs_in e + ins_in e + rest_in e)) 0)
      → targets' ≡ targeted_by (is_jumping (role_no (role_in e))) (get_or b (p + (outs_in e + ins_in e + rest_in e)) 0) targets
      → Marks T (record_at T b p) op base vars vars' labels labels' targets targets'
  marks_by {op} {base} {vars} {vars'} {labels} {labels'} {targets} w l t u =
      record {
        codes_so = w ∙ sym (ap₂ (λ (row : Row) (os : List ℕ). codes_by row (codes_in base) (codes_in vars) os) row_is (output_bytes s ∙ ap (bytes_at b (p + 1)) d.outs));
        labelled = subst (λ (row : Row). LabelledAs row (label_by (row_at T (record_at T b p)) (record_at T b p)) op labels labels') (sym row_is)
            (subst (λ (n : ℕ). LabelledAs (row_in e) n op labels labels') (sym label_is) l);
        targets_so = t ∙ sym (ap₂ (λ (row : Row) (n : ℕ). marked_by (is_jumping row.role) (marked targets) n) row_is label_is);
        targets_are = u ∙ sym (ap₂ (λ (row : Row) (n : ℕ). targeted_by (is_jumping row.role) n targets) row_is label_is);
      }
