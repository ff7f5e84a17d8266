-- What an op leaves in the arrays, by the entry and the rank of its kind. Assumes nothing.
use mathlib.Core.Path.{◌≡◌, refl, sym, ap, ap₂, ◌∙◌, subst, fun_ext}
use mathlib.Core.Logic.{◌⊎◌, inl, inr}
use mathlib.Core.Bool.{Bool, true, false, cond}
use mathlib.Core.List.{List, [], ◌∷◌}
use Prim.Native.Nat.{ℕ, zero, suc, ◌+◌, ◌-◌, ◌≤◌, ◌<◌}
use native.Mathlib.Omega.{arith}
use lib.Dec.{eqb, leb}
use native.Mathlib.Nat.{mod-eq_of_lt}
use lib.ListN.{length, get_or, set}
use borrow.Author.Tests.{eqb-true, leb-false, lt-leb, ne_eqb}
use Rattle.theory.proofs.Sets.{tell, clash}
use Rattle.ops.specs.Rows.{body_length, outs_in, ins_in, rest_in, role_in, role_no, is_closing}
use Rattle.ops.specs.Table.{kind_table, row_of}
use Rattle.ops.specs.Fields.{bytes_at}
use Rattle.ops.specs.Plans.{no_op, length_by, length_in, plan_of, rank_of, plan_at, flow_rank, exit_rank, setting_rank, has_label}
use Rattle.ops.proofs.Entry.{Digits, digits}
use Rattle.ops.proofs.Plans.{plan, Sorted, sorted, plan_at_lem, RankedOp, ranked_op}
use Rattle.block.specs.Rules.{marked_by}
use Rattle.block.specs.Scan.{record_at, Stands, SetAt, codes_in, open_all, FirstReady, marked, numbered, targeted_by, LabelMarks, sets_label, jumps_to, Marks}
use Rattle.block.proofs.MarkSets.{numbered_upd, marked_upd}
use Rattle.block.proofs.Scanning.{marks_by}

-- a variable that may be read already
opened_same : (codes : ℕ → ℕ) (v : ℕ) → codes v < 16 → open_all codes (v ∷ []) ≡ codes
opened_same codes v l = fun_ext (λ u. go u (tell (eqb v u)))
  where
    go : (u : ℕ) → (eqb v u ≡ true) ⊎ (eqb v u ≡ false) → open_all codes (v ∷ []) u ≡ codes u
    go u (inl t) = rw t (mod-eq_of_lt (rw (sym (eqb-true v u t)) l))
    go u (inr t) = rw t

-- the label is set, or jumped to, by the rank
module _ (n l op : ℕ) (labels targets : List ℕ) {m : Bool} (e : m ≡ has_label n) where
  pub label_none : m ≡ false → LabelMarks (sets_label n) (jumps_to n) l op labels labels targets targets
  label_none z =
      let t : has_label n ≡ false = sym e ∙ z in
      let s : eqb n setting_rank ≡ false = ne_eqb n setting_rank (λ q. clash (has_label n) (ap has_label q) t) in
      record { labels_so = sym (rw s); numbers_so = sym (rw s); targets_so = sym (rw t); targets_are = sym (rw t) }

  module _ (two : m ≡ true) {s : Bool} (f : s ≡ eqb n setting_rank) where
    has_one : has_label n ≡ true
    has_one = sym e ∙ two

    pub label_set : {k : ℕ} {labels' : List ℕ} → s ≡ true → k ≡ l → SetAt labels k (op + 1) labels' → LabelMarks (sets_label n) (jumps_to n) l op labels labels' targets targets
    label_set {k} {labels'} t q w =
        let u = sym f ∙ t in
        let w' : SetAt labels l (op + 1) labels' = subst (λ (n : ℕ). SetAt labels n (op + 1) labels') q w in
        record { labels_so = numbered_upd w' (omega arith) ∙ sym (rw u); numbers_so = w'.becomes ∙ sym (rw u); targets_so = sym (rw (has_one, u)); targets_are = sym (rw (has_one, u)) }

    pub label_jumped : {k : ℕ} {targets' : List ℕ} → s ≡ false → k ≡ l → SetAt targets k 1 targets' → LabelMarks (sets_label n) (jumps_to n) l op labels labels targets targets'
    label_jumped {k} {targets'} t q w =
        let u = sym f ∙ t in
        let w' : SetAt targets l 1 targets' = subst (λ (n : ℕ). SetAt targets n 1 targets') q w in
        record { labels_so = sym (rw u); numbers_so = sym (rw u); targets_so = marked_upd w' ∙ sym (rw (has_one, u)); targets_are = w'.becomes ∙ sym (rw (has_one, u)) }

-- by the entry: an op of a kind stands at a place
module _ {b : List ℕ} {p k : ℕ} (st : Stands row_of b p k) (n : no_op (get_or kind_table k 0) ≡ false) where
  abbrev e : ℕ
  e = get_or kind_table k 0

  op : Sorted k e
  op = sorted k refl n

  d : Digits row_of e k
  d = digits kind_table refl

  pub length_here : length_by e ≡ 1 + (outs_in e + ins_in e + rest_in e)
  length_here = rw n

  pub has_body : 1 ≤ body_length row_of k
  has_body = omega (arith, d.body, op.has_byte)

  pub operand_here : p + 1 < length b
  operand_here = omega (arith, st.whole, d.body, op.has_byte)

  -- the first operand is the output, or may be read already
  outputs : (vars : List ℕ) → is_closing (role_no (role_in e)) ≡ false → FirstReady e b p vars → open_all (codes_in vars) (get_or b (p + 1) 0 ∷ []) ≡ open_all (codes_in vars) (bytes_at b (p + 1) (outs_in e))
  outputs vars c f = go (outs_in e) refl op.few_outs
    where
      go : (o : ℕ) → outs_in e ≡ o → o < 2 → open_all (codes_in vars) (get_or b (p + 1) 0 ∷ []) ≡ open_all (codes_in vars) (bytes_at b (p + 1) (outs_in e))
      go zero y l = rw y (opened_same (codes_in vars) (get_or b (p + 1) 0) (f c y))
      go (suc zero) y l = rw y
      go (suc (suc o)) y l = absurd (omega arith)

  module _ {r : ℕ} (its : r ≡ rank_of e) where
    flow : RankedOp k e r
    flow = ranked_op k refl its n

    at_rank : plan_at r ≡ plan_of e
    at_rank = plan_at_lem k refl its

    long : length_in (plan_at r) ≡ 1 + (outs_in e + ins_in e + rest_in e)
    long = ap length_in at_rank ∙ (plan k refl).length_so ∙ length_here

    pub whole_here : (p + length_in (plan_at r) ≤ length b) × (1 < length_in (plan_at r))
    whole_here = (omega (arith, st.whole, d.body, long), omega (arith, long, op.has_byte))

    module _ {num : ℕ} {base vars vars' labels labels' targets targets' : List ℕ} where
      marks_so : codes_in vars' ≡ cond (leb exit_rank r) (codes_in base) (open_all (codes_in vars) (bytes_at b (p + 1) (outs_in e)))
          → LabelMarks (sets_label r) (jumps_to r) (get_or b (p + length_in (plan_at r) - 1) 0) num labels labels' targets targets'
          → Marks row_of (record_at row_of b p) num base vars vars' labels labels' targets targets'
      marks_so w m =
          let l : p + length_in (plan_at r) - 1 ≡ p + (outs_in e + ins_in e + rest_in e) = omega (arith, long) in
          marks_by st d (w ∙ ap (λ (t : Bool). cond t (codes_in base) (open_all (codes_in vars) (bytes_at b (p + 1) (outs_in e)))) flow.closes)
          (record {
            labels_so = m.labels_so ∙ ap₂ (λ (s : Bool) (i : ℕ). marked_by s (numbered labels) (get_or b i 0)) flow.sets l;
            numbers_so = m.numbers_so ∙ ap₂ (λ (s : Bool) (i : ℕ). cond s (set labels (get_or b i 0) (num + 1)) labels) flow.sets l;
          })
          (m.targets_so ∙ ap₂ (λ (s : Bool) (i : ℕ). marked_by s (marked targets) (get_or b i 0)) flow.jumps l)
          (m.targets_are ∙ ap₂ (λ (s : Bool) (i : ℕ). targeted_by s (get_or b i 0) targets) flow.jumps l)

      -- an op that directs the run writes nothing
      pub marks_directed : {t : Bool} → t ≡ leb flow_rank r → t ≡ true → codes_in vars' ≡ cond (leb exit_rank r) (codes_in base) (codes_in vars)
          → LabelMarks (sets_label r) (jumps_to r) (get_or b (p + length_in (plan_at r) - 1) 0) num labels labels' targets targets'
          → Marks row_of (record_at row_of b p) num base vars vars' labels labels' targets targets'
      marks_directed q c w m = marks_so (w ∙ ap (λ (n : ℕ). cond (leb exit_rank r) (codes_in base) (open_all (codes_in vars) (bytes_at b (p + 1) n))) (sym (flow.writes_none (sym q ∙ c)))) m

    -- any other ends nothing and has no label
    module _ {num : ℕ} {base vars vars' : List ℕ} (labels targets : List ℕ) (f : FirstReady e b p vars) (w : codes_in vars' ≡ open_all (codes_in vars) (get_or b (p + 1) 0 ∷ [])) where
      pub marks_opened : {t : Bool} → t ≡ leb flow_rank r → t ≡ false → Marks row_of (record_at row_of b p) num base vars vars' labels labels targets targets
      marks_opened q c =
          let n : leb flow_rank r ≡ false = sym q ∙ c in
          let go : leb exit_rank r ≡ false = lt-leb exit_rank r (omega (arith, leb-false flow_rank r n)) in
          marks_so (w ∙ outputs vars (sym flow.closes ∙ go) f ∙ sym (rw go)) (label_none r _ num labels targets refl (rw n))
