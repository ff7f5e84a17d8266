-- One turn of the loop over the ops, by the rank of the op's kind and the length of its record. Assumes nothing.
use mathlib.Core.Path.{◌≡◌, refl, sym, ap, ◌∙◌, subst}
use mathlib.Core.Logic.{◌⊎◌, inl, inr}
use mathlib.Core.Bool.{Bool, true, false, cond}
use mathlib.Core.List.{List}
use Prim.Native.Nat.{ℕ, ◌+◌, ◌-◌, ◌%◌, ◌≤◌, ◌<◌}
use native.Mathlib.Omega.{arith}
use lib.Dec.{eqb}
use lib.ListN.{length, get_or, set}
use borrow.Author.Tests.{eqb-true}
use Rattle.theory.proofs.Sets.{tell, and_l, and_r, clash}
use Rattle.ops.specs.Limits.{label_count}
use Rattle.ops.specs.Rows.{body_length, outs_in, ins_in, rest_in}
use Rattle.ops.specs.Table.{kind_table, row_of}
use Rattle.ops.specs.Plans.{no_op, length_by, more_by, length_in, plan_of, rank_of, plan_at, exit_rank}
use Rattle.ops.proofs.Entry.{digits}
use Rattle.ops.proofs.Plans.{plan, plan_at_lem, ranked_op}
use Rattle.block.specs.Scan.{record_at, RoomFor, op_stands, op_ok, op_passes, entry_rule, end_rule, marked, numbered, ScannedBy, ScannedAll, ScannedTo, Marks, FirstReady, LabelLow, Reading}
use Rattle.block.specs.Rules.{all_set}
use Rattle.block.specs.Checks.{Verdict, Accepted, Refused, refused_or}
use Rattle.block.specs.declared.Refusal.{Refusal}
use Rattle.std.specs.Prelude.{Err}
use Rattle.block.proofs.Codes.{code_small}
use Rattle.block.proofs.Refusals.{same_place}
use Rattle.block.proofs.Quick.{some_op, first_met, label_met}
use Rattle.block.proofs.Marking.{length_here, has_body}
use Rattle.block.proofs.Scanning.{Sound, stopped_at, unfit_at, sound_at, few_ops_here, stands_at, again_at, whole_op, scanning_10, scanning_7, scanning_0}

module _ {b : List ℕ} {start : ℕ} {places₀ base vars labels targets places : List ℕ} {p ops last : ℕ}
    (s : Reading row_of b start places₀ base vars labels targets places p ops last) (here : p < length b) {r : Bool} (t : r ≡ op_passes (get_or kind_table (get_or b p 0) 0) b p ops vars labels) where
  abbrev e : ℕ
  e = get_or kind_table (get_or b p 0) 0

  -- a test fails
  pub fails_at : {refusal : Refusal} → r ≡ false → (refusal.number ≡ entry_rule e b p ops vars labels false) × (refusal.place ≡ p) → ScannedTo row_of b start places₀ places labels refusal ops
  fails_at {refusal} f q = go (tell (op_stands e b p)) (tell (op_ok e b p ops vars labels))
    where
      go : (op_stands e b p ≡ true) ⊎ (op_stands e b p ≡ false) → (op_ok e b p ops vars labels ≡ true) ⊎ (op_ok e b p ops vars labels ≡ false) → ScannedBy row_of b start places₀ places labels (Err refusal) refusal.place ops
      go (inr x) y = stopped_at s here (digits kind_table refl) refl x q
      go (inl x) (inr y) = unfit_at s here (digits kind_table refl) refl x refl y q
      go (inl x) (inl y) = absurd (clash r (t ∙ rw (x, y)) f)

  -- all pass
  module _ (y : r ≡ true) where
    pub sound : Sound s
    sound =
        let both = sym t ∙ y in
        sound_at s here (digits kind_table refl) refl (and_l (op_stands e b p) (op_ok e b p ops vars labels) both) refl (and_r (op_stands e b p) (op_ok e b p ops vars labels) both)

    pub is_op : no_op e ≡ false
    is_op = some_op b p ops vars labels (get_or b p 0) refl refl (sym t ∙ y)

    -- the next place
    module _ {r' n : ℕ} (z : r' ≡ rank_of e) (w : n ≡ length_by e) where
      long : n ≡ 1 + body_length row_of (get_or b p 0)
      long = w ∙ length_here (stands_at sound) is_op ∙ ap (λ (m : ℕ). 1 + m) (sym (digits kind_table refl).body)

      pub inside : p + n ≤ length b
      inside = omega (arith, long, whole_op sound)

      body : 1 ≤ body_length row_of (get_or b p 0)
      body = has_body (stands_at sound) is_op

      pub further : 0 < n
      further = omega (arith, long)

      -- there is room for its place
      pub room : RoomFor b places₀ → ops < length places₀
      room h = omega (arith, long, body, inside, s.up_to.least, few_ops_here sound, h)

      pub again : RoomFor b places₀ → (vars' labels' targets' : List ℕ) → Marks row_of (record_at row_of b p) ops base vars vars' labels labels' targets targets'
          → Reading row_of b start places₀ base vars' labels' targets' (set places ops (p % 65536)) (p + n) (ops + 1) r'
      again h vars' labels' targets' m =
          subst (λ (i : ℕ). Reading row_of b start places₀ base vars' labels' targets' (set places ops (p % 65536)) i (ops + 1) r') (ap (λ (i : ℕ). p + i) (sym long))
          (again_at sound refl body (room h) (ranked_op (get_or b p 0) refl z is_op).exits vars' labels' targets' m)

    whole_length : length_in (plan_of e) ≤ length b - p
    whole_length =
        let long = (plan (get_or b p 0) refl).length_so ∙ length_here (stands_at sound) is_op in
        let body : body_length row_of (get_or b p 0) ≡ outs_in e + ins_in e + rest_in e = (digits kind_table refl).body in
        omega (arith, long, body, whole_op sound)

    -- the first operand, if it is no output, may be read
    pub ready : FirstReady e b p vars
    ready c o =
        omega (arith, first_met b p ops vars labels (get_or b p 0) refl refl refl whole_length here is_op (few_ops_here sound) (sym t ∙ y) c o, code_small s.coded (get_or b (p + 1) 0))

    -- its label, if it has one, is below the limit
    pub label_low : {n : ℕ} → n ≡ rank_of e → LabelLow n b p
    label_low {n} z w =
        let flow = ranked_op (get_or b p 0) refl z is_op in
        let same : plan_at n ≡ plan_of e = plan_at_lem (get_or b p 0) refl z in
        let more : more_by e ≡ 2 = eqb-true _ 2 (sym flow.labels ∙ w) in
        subst (λ (h : ℕ). get_or b (p + length_in h - 1) 0 < label_count) (sym same)
        (label_met b p ops vars labels (get_or b p 0) refl refl refl whole_length here is_op (few_ops_here sound) (sym t ∙ y) more)

-- a refusal has the place at which it is given
refused_place : (rule p : ℕ) {refusal : Refusal} → ◌≡◌ {A = Verdict} (Err refusal) (refused_or rule p Accepted) → p ≡ refusal.place
refused_place rule p {refusal} q = go (eqb rule 0) q
  where
    go : (b : Bool) → ◌≡◌ {A = Verdict} (Err refusal) (cond b Accepted (Refused rule p)) → p ≡ refusal.place
    go true z = cc
    go false z = sym (same_place z)

-- the end, which is refused or not
module _ {b : List ℕ} {start : ℕ} {places₀ base vars labels targets places : List ℕ} {p ops last : ℕ} (s : Reading row_of b start places₀ base vars labels targets places p ops last) (h : length b ≤ p) where
  ends_as : {verdict : Verdict} → verdict ≡ refused_or (end_rule (eqb last exit_rank) targets labels) p Accepted → ScannedBy row_of b start places₀ places labels verdict p ops
  ends_as {verdict} e = go (tell (eqb last exit_rank)) (tell (all_set (marked targets) (numbered labels) label_count))
    where
      go : (eqb last exit_rank ≡ true) ⊎ (eqb last exit_rank ≡ false) → (all_set (marked targets) (numbered labels) label_count ≡ true) ⊎ (all_set (marked targets) (numbered labels) label_count ≡ false) → ScannedBy row_of b start places₀ places labels verdict p ops
      go (inr x) y = let q : verdict ≡ Refused 10 p = e ∙ rw x in rw q (scanning_10 s h x)
      go (inl x) (inr y) = let q : verdict ≡ Refused 7 p = e ∙ rw (x, y) in rw q (scanning_7 s h x refl y)
      go (inl x) (inl y) = let q : verdict ≡ Accepted = e ∙ rw (x, y) in rw q (scanning_0 s h x refl y)

  pub ends_refused : {verdict : Verdict} {refusal : Refusal} → verdict ≡ refused_or (end_rule (eqb last exit_rank) targets labels) p Accepted → verdict ≡ Err refusal → ScannedTo row_of b start places₀ places labels refusal ops
  ends_refused {refusal = refusal} e q =
      let r = ends_as (sym q ∙ e) in
      let place : p ≡ refusal.place = refused_place _ p (sym q ∙ e) in
      subst (λ (n : ℕ). ScannedBy row_of b start places₀ places labels (Err refusal) n ops) place r

  pub ends_at : {verdict : Verdict} → verdict ≡ refused_or (end_rule (eqb last exit_rank) targets labels) p Accepted → verdict ≡ Accepted → ScannedAll row_of b start places₀ places labels ops
  ends_at e q = record { place = p; scanned = ends_as (sym q ∙ e) }
