-- The digits of a plan are those that its entry gives, what its rank tells, and the sorts that ops are of: one computed test each over the table. Assumes nothing.
use mathlib.Core.Path.{◌≡◌, refl, sym, ap, ◌∙◌}
use mathlib.Core.Bool.{Bool, true, false, cond, not, ◌&&◌, ◌||◌, beq}
use mathlib.Core.List.{List, [], ◌∷◌}
use mathlib.Core.Logic.{◌⊎◌, inl, inr}
use Prim.Native.Nat.{ℕ, zero, suc, ◌+◌, ◌-◌, ◌*◌, ◌/◌, ◌≤◌, ◌<◌}
use native.Mathlib.Omega.{arith}
use lib.Dec.{eqb, ltb, leb}
use lib.ListN.{length, get_or}
use borrow.Author.Tests.{eqb-true, ltb-true, leb-true}
use Rattle.theory.proofs.Sets.{and_l, and_r, tell, clash}
use Rattle.ops.specs.Rows.{outs_in, ins_in, rest_in, test_in, role_in, types_of, role_no, is_known, is_closing, is_setting, is_jumping}
use Rattle.ops.specs.Table.{kind_table}
use Rattle.ops.specs.Plans.{type_in, no_op, length_by, out_ask_by, second_by, in_ask_by, in_at_by, byte_test_by, ask_of, byte_at_by, more_by, plan_of, each, stands_for, rank_of, plan_at, straight_end, flow_rank, exit_rank, setting_rank, has_label, rank_table, length_table}
use Rattle.ops.specs.Plans.{length_in, out_ask_in, first_ask_in, second_ask_in, first_at_in, second_at_in, byte_at_in, byte_ask_in, more_in, test_as}
use Rattle.ops.proofs.Ranges.{every, beq_same}
use Rattle.ops.proofs.Table.{table_long, past, for_each}

-- the plan of an entry
pub record Plan (e h : ℕ) : Type 0 where
  pub length_so : length_in h ≡ length_by e
  pub out_ask : out_ask_in h ≡ out_ask_by e
  pub first_ask : first_ask_in h ≡ in_ask_by e (outs_in e)
  pub second_ask : second_ask_in h ≡ in_ask_by e (second_by e)
  pub first_at : first_at_in h ≡ in_at_by e (outs_in e)
  pub second_at : second_at_in h ≡ in_at_by e (second_by e)
  pub byte_at : byte_at_in h ≡ byte_at_by e
  pub byte_ask : byte_ask_in h ≡ ask_of (byte_test_by e)
  pub byte_few : byte_test_by e < 8
  pub more_so : more_in h ≡ more_by e
  pub test_so : test_as h ≡ test_in e

-- both parts of a test that passes
abbrev pub Both : Bool → Bool → Type 0
Both a b = (a ≡ true) × (b ≡ true)

pub both : (a b : Bool) → (a && b) ≡ true → Both a b
both a b h = (and_l a b h, and_r a b h)

abbrev digits_ok : ℕ → ℕ → Bool
digits_ok k e =
    let h = plan_of e in
    eqb (length_in h) (length_by e)
    && (eqb (out_ask_in h) (out_ask_by e)
    && (eqb (first_ask_in h) (in_ask_by e (outs_in e))
    && (eqb (second_ask_in h) (in_ask_by e (second_by e))
    && (eqb (first_at_in h) (in_at_by e (outs_in e))
    && (eqb (second_at_in h) (in_at_by e (second_by e))
    && (eqb (byte_at_in h) (byte_at_by e)
    && (eqb (byte_ask_in h) (ask_of (byte_test_by e))
    && (ltb (byte_test_by e) 8 && (eqb (more_in h) (more_by e) && eqb (test_as h) (test_in e))))))))))

digits_right : every digits_ok 0 kind_table ≡ true
unfolding plan_of kind_table types_of
digits_right = refl

by_digits : (k e : ℕ) → digits_ok k e ≡ true → Plan e (plan_of e)
by_digits k e t =
    let (a1, t1) = both _ _ t in
    let (a2, t2) = both _ _ t1 in
    let (a3, t3) = both _ _ t2 in
    let (a4, t4) = both _ _ t3 in
    let (a5, t5) = both _ _ t4 in
    let (a6, t6) = both _ _ t5 in
    let (a7, t7) = both _ _ t6 in
    let (a8, t8) = both _ _ t7 in
    let (a9, t9) = both _ _ t8 in
    let (a10, a11) = both _ _ t9 in
    record {
      length_so = eqb-true _ _ a1;
      out_ask = eqb-true _ _ a2;
      first_ask = eqb-true _ _ a3;
      second_ask = eqb-true _ _ a4;
      first_at = eqb-true _ _ a5;
      second_at = eqb-true _ _ a6;
      byte_at = eqb-true _ _ a7;
      byte_ask = eqb-true _ _ a8;
      byte_few = ltb-true _ _ a9;
      more_so = eqb-true _ _ a10;
      test_so = eqb-true _ _ a11;
    }

pub plan : (k : ℕ) {e : ℕ} → e ≡ get_or kind_table k 0 → Plan e (plan_of e)
unfolding plan_of types_of
plan k q = rw q (by_digits k (get_or kind_table k 0) (for_each digits_ok digits_right (λ k. refl) k))

-- what an op of an entry has: at most one output, and inputs, bytes and label as one of five sorts
pub data Sort (e : ℕ) : Type 0 where
  plainly : ins_in e < 3 → more_by e ≡ 0 → byte_test_by e ≡ test_in e → (is_setting (role_no (role_in e)) || is_jumping (role_no (role_in e))) ≡ false → Sort e
  four_inputs : ins_in e ≡ 4 → outs_in e ≡ 1 → type_in e 3 ≡ type_in e 1 → type_in e 4 ≡ type_in e 1 → more_by e ≡ 3 → byte_test_by e ≡ test_in e
      → (is_setting (role_no (role_in e)) || is_jumping (role_no (role_in e))) ≡ false → Sort e
  constant_sort : ins_in e ≡ 0 → outs_in e ≡ 1 → more_by e ≡ 1 → test_in e ≡ 8 → (is_setting (role_no (role_in e)) || is_jumping (role_no (role_in e))) ≡ false → Sort e
  labelled : ins_in e < 3 → more_by e ≡ 2 → (test_in e ≡ 1) ⊎ (test_in e ≡ 3) → test_in e ≡ 2 * rest_in e - 1 → (is_setting (role_no (role_in e)) || is_jumping (role_no (role_in e))) ≡ true → Sort e
  by_number : ins_in e < 3 → more_by e ≡ 4 → byte_test_by e ≡ 0 → 1 ≤ rest_in e → (is_setting (role_no (role_in e)) || is_jumping (role_no (role_in e))) ≡ false → Sort e

pub record Sorted (k e : ℕ) : Type 0 where
  pub few_outs : outs_in e < 2
  pub has_byte : 1 ≤ outs_in e + ins_in e + rest_in e
  pub short : outs_in e + ins_in e + rest_in e ≤ 9
  pub sort : Sort e
  pub is_known : is_known (role_no (role_in e)) ≡ true
  pub not_one : eqb k 1 ≡ false

abbrev jumps : ℕ → Bool
jumps e = is_setting (role_no (role_in e)) || is_jumping (role_no (role_in e))

abbrev sort_ok : ℕ → Bool
sort_ok e =
    cond (eqb (more_by e) 0) (ltb (ins_in e) 3 && (eqb (byte_test_by e) (test_in e) && not (jumps e)))
    (cond (eqb (more_by e) 3) (eqb (ins_in e) 4 && (eqb (outs_in e) 1 && (eqb (type_in e 3) (type_in e 1) && (eqb (type_in e 4) (type_in e 1) && (eqb (byte_test_by e) (test_in e) && not (jumps e))))))
    (cond (eqb (more_by e) 1) (ltb (ins_in e) 1 && (eqb (outs_in e) 1 && (eqb (test_in e) 8 && not (jumps e))))
    (cond (eqb (more_by e) 4) (ltb (ins_in e) 3 && (eqb (byte_test_by e) 0 && (leb 1 (rest_in e) && not (jumps e))))
    (ltb (ins_in e) 3 && (eqb (more_by e) 2 && ((eqb (test_in e) 1 || eqb (test_in e) 3) && (eqb (test_in e) (2 * rest_in e - 1) && jumps e)))))))

abbrev op_ok : ℕ → ℕ → Bool
op_ok k e =
    no_op e
    || (ltb (outs_in e) 2
    && (leb 1 (outs_in e + ins_in e + rest_in e)
    && (leb (outs_in e + ins_in e + rest_in e) 9 && (sort_ok e && (is_known (role_no (role_in e)) && not (eqb k 1))))))

ops_right : every op_ok 0 kind_table ≡ true
unfolding kind_table types_of role_no
ops_right = refl

pub not_so : (b : Bool) → not b ≡ true → b ≡ false
not_so false h = refl
not_so true h = sym h

pub or_not : (a b : Bool) → a ≡ false → (a || b) ≡ true → b ≡ true
or_not false b e h = h
or_not true b e h = absurd (clash true refl e)

by_sort : (e : ℕ) → sort_ok e ≡ true → Sort e
by_sort e h = go0 (tell (eqb (more_by e) 0))
  where
    go3 : (ltb (ins_in e) 3 && (eqb (more_by e) 2 && ((eqb (test_in e) 1 || eqb (test_in e) 3) && (eqb (test_in e) (2 * rest_in e - 1) && jumps e)))) ≡ true → Sort e
    go3 t =
        let (a1, t1) = both _ _ t in
        let (a2, t2) = both _ _ t1 in
        let (a3, t3) = both _ _ t2 in
        let (a4, a5) = both _ _ t3 in
        labelled (ltb-true _ _ a1) (eqb-true _ _ a2) (one_of (tell (eqb (test_in e) 1)) a3) (eqb-true _ _ a4) a5
      where
        one_of : (eqb (test_in e) 1 ≡ true) ⊎ (eqb (test_in e) 1 ≡ false) → (eqb (test_in e) 1 || eqb (test_in e) 3) ≡ true → (test_in e ≡ 1) ⊎ (test_in e ≡ 3)
        one_of (inl z) t = inl (eqb-true _ _ z)
        one_of (inr z) t = inr (eqb-true _ _ (or_not (eqb (test_in e) 1) (eqb (test_in e) 3) z t))

    go4 : (eqb (more_by e) 4 ≡ true) ⊎ (eqb (more_by e) 4 ≡ false) → eqb (more_by e) 0 ≡ false → eqb (more_by e) 3 ≡ false → eqb (more_by e) 1 ≡ false → Sort e
    go4 (inl z) y x w =
        let t : (ltb (ins_in e) 3 && (eqb (byte_test_by e) 0 && (leb 1 (rest_in e) && not (jumps e)))) ≡ true = rw (y, x, w, z) at h in
        let (a1, t1) = both _ _ t in
        let (a2, t2) = both _ _ t1 in
        let (a3, a4) = both _ _ t2 in
        by_number (ltb-true _ _ a1) (eqb-true _ _ z) (eqb-true _ _ a2) (leb-true _ _ a3) (not_so _ a4)
    go4 (inr z) y x w = go3 (rw (y, x, w, z) at h)

    go2 : (eqb (more_by e) 1 ≡ true) ⊎ (eqb (more_by e) 1 ≡ false) → eqb (more_by e) 0 ≡ false → eqb (more_by e) 3 ≡ false → Sort e
    go2 (inl z) y x =
        let t : (ltb (ins_in e) 1 && (eqb (outs_in e) 1 && (eqb (test_in e) 8 && not (jumps e)))) ≡ true = rw (y, x, z) at h in
        let (a1, t1) = both (ltb (ins_in e) 1) (eqb (outs_in e) 1 && (eqb (test_in e) 8 && not (jumps e))) t in
        let (a2, t2) = both _ _ t1 in
        let (a3, a4) = both _ _ t2 in
        let l : ins_in e < 1 = ltb-true _ _ a1 in
        constant_sort (omega arith) (eqb-true _ _ a2) (eqb-true _ _ z) (eqb-true _ _ a3) (not_so _ a4)
    go2 (inr z) y x = go4 (tell (eqb (more_by e) 4)) y x z

    go1 : (eqb (more_by e) 3 ≡ true) ⊎ (eqb (more_by e) 3 ≡ false) → eqb (more_by e) 0 ≡ false → Sort e
    go1 (inl z) y =
        let t : (eqb (ins_in e) 4 && (eqb (outs_in e) 1 && (eqb (type_in e 3) (type_in e 1) && (eqb (type_in e 4) (type_in e 1) && (eqb (byte_test_by e) (test_in e) && not (jumps e)))))) ≡ true =
        rw (y, z) at h in
        let (a1, t1) = both _ _ t in
        let (a2, t2) = both _ _ t1 in
        let (a3, t3) = both _ _ t2 in
        let (a4, t4) = both _ _ t3 in
        let (a5, a6) = both _ _ t4 in
        four_inputs (eqb-true _ _ a1) (eqb-true _ _ a2) (eqb-true _ _ a3) (eqb-true _ _ a4) (eqb-true _ _ z) (eqb-true _ _ a5) (not_so _ a6)
    go1 (inr z) y = go2 (tell (eqb (more_by e) 1)) y z

    go0 : (eqb (more_by e) 0 ≡ true) ⊎ (eqb (more_by e) 0 ≡ false) → Sort e
    go0 (inl z) =
        let t : (ltb (ins_in e) 3 && (eqb (byte_test_by e) (test_in e) && not (jumps e))) ≡ true = rw z at h in
        let (a1, t1) = both _ _ t in
        let (a2, a3) = both _ _ t1 in
        plainly (ltb-true _ _ a1) (eqb-true _ _ z) (eqb-true _ _ a2) (not_so _ a3)
    go0 (inr z) = go1 (tell (eqb (more_by e) 3)) z

pub sorted : (k : ℕ) {e : ℕ} → e ≡ get_or kind_table k 0 → no_op e ≡ false → Sorted k e
unfolding types_of role_no
sorted k {e} q n =
    let t : op_ok k e ≡ true = rw q (for_each op_ok ops_right (λ k. refl) k) in
    let (a1, t1) = both _ _ (or_not (no_op e) _ n t) in
    let (a2, t2) = both _ _ t1 in
    let (a3, t3) = both _ _ t2 in
    let (a4, t4) = both _ _ t3 in
    let (a5, a6) = both _ _ t4 in
    record {
      few_outs = ltb-true _ _ a1;
      has_byte = leb-true _ _ a2;
      short = leb-true _ _ a3;
      sort = by_sort e a4;
      is_known = a5;
      not_one = not_so _ a6;
    }

-- an entry that is none: its kind is unknown, or declares; no byte passes its test
abbrev none_ok : ℕ → ℕ → Bool
none_ok k e = not (no_op e) || (not (is_known (role_no (role_in e))) || eqb k 1)

abbrev no_plan_ok : ℕ → ℕ → Bool
no_plan_ok k e = not (no_op e) || (eqb (in_at_by e (outs_in e)) 1 && (eqb (in_at_by e (second_by e)) 1 && (leb (byte_at_by e) 7 && eqb (more_by e) 0)))

no_plan_right : every no_plan_ok 0 kind_table ≡ true
unfolding kind_table
no_plan_right = refl

pub record NoPlan (e : ℕ) : Type 0 where
  pub first : in_at_by e (outs_in e) ≡ 1
  pub second : in_at_by e (second_by e) ≡ 1
  pub byte : byte_at_by e ≤ 7
  pub more : more_by e ≡ 0

pub no_plan : (k : ℕ) {e : ℕ} → e ≡ get_or kind_table k 0 → no_op e ≡ true → NoPlan e
no_plan k {e} q n =
    let t : no_plan_ok k e ≡ true = rw q (for_each no_plan_ok no_plan_right (λ k. refl) k) in
    let (a1, t1) = both _ _ (or_not (not (no_op e)) _ (ap not n) t) in
    let (a2, t2) = both _ _ t1 in
    let (a3, a4) = both _ _ t2 in
    record { first = eqb-true _ _ a1; second = eqb-true _ _ a2; byte = leb-true _ _ a3; more = eqb-true _ _ a4 }

none_right : every none_ok 0 kind_table ≡ true
unfolding kind_table role_no
none_right = refl

pub no_op_so : (k : ℕ) {e : ℕ} → e ≡ get_or kind_table k 0 → no_op e ≡ true → (is_known (role_no (role_in e)) ≡ false) ⊎ (k ≡ 1)
unfolding role_no
no_op_so k {e} q n = go (tell (is_known (role_no (role_in e)))) (or_not (not (no_op e)) _ (ap not n) (rw q (for_each none_ok none_right (λ k. refl) k)))
  where
    go : (is_known (role_no (role_in e)) ≡ true) ⊎ (is_known (role_no (role_in e)) ≡ false) → (not (is_known (role_no (role_in e))) || eqb k 1) ≡ true → (is_known (role_no (role_in e)) ≡ false) ⊎ (k ≡ 1)
    go (inl z) t = inr (eqb-true k 1 (or_not (not (is_known (role_no (role_in e)))) (eqb k 1) (ap not z) t))
    go (inr z) t = inl z

-- an op that has no output and closes nothing reads its first operand, which stands first
abbrev reads_ok : ℕ → ℕ → Bool
reads_ok k e =
    let h = plan_of e in
    no_op e || (is_closing (role_no (role_in e)) || (not (eqb (outs_in e) 0) || (eqb (first_at_in h) 1 && eqb (first_ask_in h / 16) 1)))

reads_right : every reads_ok 0 kind_table ≡ true
unfolding plan_of kind_table types_of role_no
reads_right = refl

pub first_read : (k : ℕ) {e h : ℕ} → e ≡ get_or kind_table k 0 → h ≡ plan_of e → no_op e ≡ false → is_closing (role_no (role_in e)) ≡ false → outs_in e ≡ 0
    → (first_at_in h ≡ 1) × (first_ask_in h / 16 ≡ 1)
unfolding plan_of types_of role_no
first_read k {e} {h} q z n c o =
    let t : reads_ok k e ≡ true = rw q (for_each reads_ok reads_right (λ k. refl) k) in
    let t' : (is_closing (role_no (role_in e)) || (not (eqb (outs_in e) 0) || (eqb (first_at_in h) 1 && eqb (first_ask_in h / 16) 1))) ≡ true = rw z (or_not (no_op e) _ n t) in
    let (a, b) = both _ _ (or_not (not (eqb (outs_in e) 0)) _ (rw o) (or_not (is_closing (role_no (role_in e))) _ c t')) in
    (eqb-true _ _ a, eqb-true _ _ b)

-- what the rank of an entry tells: its plan; of the straight ones, that nothing else is asked
abbrev rank_ok : ℕ → ℕ → Bool
rank_ok k e = let n = rank_of e in eqb (plan_at n) (plan_of e) && (not (ltb n straight_end) || eqb (more_by e) 0)

ranks_right : every rank_ok 0 kind_table ≡ true
unfolding rank_of plan_at plan_of kind_table types_of
ranks_right = refl

none_ranks : (k : ℕ) → rank_ok k 0 ≡ true
unfolding rank_of plan_at plan_of kind_table types_of
none_ranks k = refl

ranked : (k : ℕ) {e : ℕ} → e ≡ get_or kind_table k 0 → rank_ok k e ≡ true
ranked k q = rw q (for_each rank_ok ranks_right none_ranks k)

pub plan_at_lem : (k : ℕ) {e n : ℕ} → e ≡ get_or kind_table k 0 → n ≡ rank_of e → plan_at n ≡ plan_of e
plan_at_lem k {e} q r = rw r (eqb-true _ _ (both _ _ (ranked k q)).0)

-- beyond the ranks of ops is the plan of none
pub plan_none : (n : ℕ) → length stands_for ≤ n → 0x0454000f ≡ plan_at n
unfolding plan_at plan_of kind_table types_of
plan_none n l = let z : get_or stands_for n 0 ≡ 0 = past stands_for n l in rw z

pub straight_so : (k : ℕ) {e n : ℕ} → e ≡ get_or kind_table k 0 → n ≡ rank_of e → ltb n straight_end ≡ true → more_by e ≡ 0
straight_so k {e} {n} q r y =
    eqb-true _ _ (or_not (not (ltb (rank_of e) straight_end)) _ (ap not (rw r at y)) (both (eqb (plan_at (rank_of e)) (plan_of e)) _ (ranked k q)).1)

-- and of an op, whether it ends an extended basic block, what it does to a label, whether it is exit_tb, and that one that directs the run writes nothing
pub record RankedOp (k e n : ℕ) : Type 0 where
  pub closes : leb exit_rank n ≡ is_closing (role_no (role_in e))
  pub sets : eqb n setting_rank ≡ is_setting (role_no (role_in e))
  pub jumps : (has_label n && not (eqb n setting_rank)) ≡ is_jumping (role_no (role_in e))
  pub exits : eqb n exit_rank ≡ eqb k 0x04
  pub labels : has_label n ≡ eqb (more_by e) 2
  pub writes_none : leb flow_rank n ≡ true → outs_in e ≡ 0

abbrev flow_ok : ℕ → ℕ → Bool
flow_ok k e =
    let n = rank_of e in
    let r = role_no (role_in e) in
    no_op e
    || (beq (leb exit_rank n) (is_closing r)
    && (beq (eqb n setting_rank) (is_setting r) && (beq (has_label n && not (eqb n setting_rank)) (is_jumping r) && (beq (eqb n exit_rank) (eqb k 0x04) && (beq (has_label n) (eqb (more_by e) 2) && (not (leb flow_rank n) || eqb (outs_in e) 0))))))

flows_right : every flow_ok 0 kind_table ≡ true
unfolding rank_of kind_table role_no
flows_right = refl

pub ranked_op : (k : ℕ) {e n : ℕ} → e ≡ get_or kind_table k 0 → n ≡ rank_of e → no_op e ≡ false → RankedOp k e n
unfolding role_no
ranked_op k {e} {n} q r none =
    let t : flow_ok k e ≡ true = rw q (for_each flow_ok flows_right (λ k. refl) k) in
    let (a1, t1) = both _ _ (or_not (no_op e) _ none t) in
    let (a2, t2) = both _ _ t1 in
    let (a3, t3) = both _ _ t2 in
    let (a4, t4) = both _ _ t3 in
    let (a5, a6) = both _ _ t4 in
    rw r
    (record {
      closes = beq_same _ _ a1;
      sets = beq_same _ _ a2;
      jumps = beq_same _ _ a3;
      exits = beq_same _ _ a4;
      labels = beq_same _ _ a5;
      writes_none = λ d. eqb-true _ _ (or_not (not (leb flow_rank (rank_of e))) _ (ap not d) a6);
    })

-- tables of what an entry gives
each_at : (f : ℕ → ℕ) (es : List ℕ) (k : ℕ) → k < length es → get_or (each f es) k 0 ≡ f (get_or es k 0)
each_at f [] k h = absurd (omega arith)
each_at f (e ∷ es) zero h = refl
each_at f (e ∷ es) (suc k) h = each_at f es k (omega arith)

pub rank_in : {ranks : List ℕ} {n : ℕ} (k : ℕ) → k < 256 → n ≡ get_or ranks k 0 → ranks ≡ rank_table → n ≡ rank_of (get_or kind_table k 0)
rank_in k l q z = q ∙ ap (λ (ts : List ℕ). get_or ts k 0) z ∙ each_at rank_of kind_table k (rw table_long l)

pub length_in_lem : {lengths : List ℕ} {n : ℕ} (k : ℕ) → k < 256 → n ≡ get_or lengths k 0 → lengths ≡ length_table → n ≡ length_by (get_or kind_table k 0)
length_in_lem k l q z = q ∙ ap (λ (ts : List ℕ). get_or ts k 0) z ∙ each_at length_by kind_table k (rw table_long l)
