-- What is live before an op, and whether it is dead, by the columns of its role. Assumes nothing.
use mathlib.Core.Path.{◌≡◌, refl, sym, ap, ap₂, ◌∙◌}
use mathlib.Core.Bool.{Bool, true, false, cond, ◌&&◌}
use mathlib.Core.List.{List, []}
use mathlib.Core.Logic.{◌⊎◌, inl, inr}
use Prim.Native.Nat.{ℕ, ◌+◌, ◌≤◌, ◌<◌}
use native.Mathlib.Omega.{arith}
use native.Mathlib.Nat.{add_assoc}
use lib.ListN.{length, get_or}
use borrow.Author.Tests.{ltb-true, lt-ltb, le-ltb}
use Rattle.theory.specs.Prune.{dead, before}
use Rattle.theory.specs.Sets.{Vars, without, plus, both, none_in}
use Rattle.theory.proofs.Sets.{tell}
use Rattle.ops.specs.Rows.{Role, unknown, declares, sets_label, jumps_to, exits, branches, loads, stores, constant, computing, role_no, Row, outs_in, ins_in, role_in}
use Rattle.ops.specs.Rows.{number_of, is_pure, is_closing}
use Rattle.ops.specs.Kinds.{document01}
use Rattle.ops.specs.Table.{kind_table, row_of}
use Rattle.ops.specs.Ops.{view_for, view_of}
use Rattle.ops.specs.Fields.{kind_of, row_at, bytes_at, outs_by, ins_by}
use Rattle.ops.proofs.Document01.{lawful}
use Rattle.ops.proofs.Entry.{Digits, digits}
use Rattle.ops.proofs.Table.{row_of_lem}
use Rattle.ops.proofs.Traits.{pure_at, outputs_at}
use Rattle.block.specs.Scan.{record_at, Stands}
use Rattle.block.proofs.Views.{row_at_lem, output_bytes, input_bytes}
use Rattle.passes.specs.Live.{live_before, shown_by, before_by}

module _ (glob kept l : Vars) (row : Row) (r : List ℕ) where
  before_by_lem : (x : Role) → (x ≡ sets_label → ins_by row r ≡ []) → (x ≡ branches → outs_by row r ≡ []) → before glob kept (view_for document01 x row r) l ≡ plus (before_by x glob kept (outs_by row r) l) (ins_by row r)
  before_by_lem unknown h o = refl
  before_by_lem declares h o = refl
  before_by_lem sets_label h o = ap (plus kept) (sym (h refl))
  before_by_lem jumps_to h o = refl
  before_by_lem exits h o = refl
  before_by_lem branches h o = ap (λ (outs : List ℕ). plus (both kept (without l outs)) (ins_by row r)) (sym (o refl))
  before_by_lem loads h o = refl
  before_by_lem stores h o = refl
  before_by_lem constant h o = refl
  before_by_lem computing h o = refl

-- no pure op ends an extended basic block
pure_open : (x : Role) → is_pure x ≡ true → is_closing x ≡ false
pure_open x h = le-ltb (number_of x) 5 (omega (arith, ltb-true 7 (number_of x) h))

dead_by : (x : Role) (outs : List ℕ) (l : Vars) → (is_pure x && none_in (cond (is_closing x) [] outs) l) ≡ (is_pure x && none_in outs l)
dead_by x outs l = go (tell (is_pure x))
  where
    go : (is_pure x ≡ true) ⊎ (is_pure x ≡ false) → (is_pure x && none_in (cond (is_closing x) [] outs) l) ≡ (is_pure x && none_in outs l)
    go (inl h) = rw (pure_open x h)
    go (inr h) = rw h

-- from the number of the role
module _ (x : Role) (glob kept : Vars) (outs : List ℕ) (l : Vars) {m : Vars} {n : ℕ} (q : n ≡ number_of x) where
  pub ends_before : n < 5 → m ≡ shown_by x glob kept → m ≡ before_by x glob kept outs l
  ends_before h w = rw (lt-ltb (number_of x) 5 (omega arith)) w

  pub pure_before : 7 < n → m ≡ without l outs → m ≡ before_by x glob kept outs l
  pure_before h w = rw (le-ltb (number_of x) 5 (omega arith), lt-ltb 7 (number_of x) (omega arith)) w

  pub others_before : {l' : Vars} → 5 ≤ n → n ≤ 7 → m ≡ both (shown_by x glob kept) l' → l' ≡ without l outs → m ≡ before_by x glob kept outs l
  others_before h k w e = rw (le-ltb (number_of x) 5 (omega arith), le-ltb 7 (number_of x) (omega arith)) (w ∙ ap (both (shown_by x glob kept)) e)

-- the op that stands at a place, by the digits of its kind's entry
module _ {b : List ℕ} {p k e : ℕ} (s : Stands row_of b p k) (q : e ≡ get_or kind_table k 0) where
  abbrev d : Digits row_of e k
  d = digits kind_table q

  pub its_role : (row_at row_of (record_at row_of b p)).role ≡ role_no (role_in e)
  its_role = ap (λ (row : Row). row.role) (row_at_lem s ∙ d.row)

  pub its_outputs : outs_by (row_at row_of (record_at row_of b p)) (record_at row_of b p) ≡ bytes_at b (p + 1) (outs_in e)
  its_outputs = output_bytes s ∙ ap (bytes_at b (p + 1)) d.outs

  its_inputs : ins_by (row_at row_of (record_at row_of b p)) (record_at row_of b p) ≡ bytes_at b (p + 1 + outs_in e) (ins_in e)
  its_inputs =
      input_bytes s ∙ ap₂ (λ (n m : ℕ). bytes_at b (p + (1 + n)) m) d.outs d.ins ∙ ap (λ (n : ℕ). bytes_at b n (ins_in e)) (sym (add_assoc p 1 (outs_in e)))

  pub operands_inside : p + 1 + outs_in e + ins_in e ≤ length b
  operands_inside = omega (arith, d.body, s.whole)

  module _ (glob kept l : Vars) where
    live_is : live_before glob kept (record_at row_of b p) l
        ≡ plus (before_by (role_no (role_in e)) glob kept (bytes_at b (p + 1) (outs_in e)) l) (bytes_at b (p + 1 + outs_in e) (ins_in e))
    unfolding view_of
    live_is =
        let r = record_at row_of b p in
        before_by_lem glob kept l (row_at row_of r) r (row_at row_of r).role (λ z. ap (λ (row : Row). ins_by row r) (row_of_lem sets_label (kind_of r) z)) (λ z. ap (λ (row : Row). outs_by row r) (row_of_lem branches (kind_of r) z))
        ∙ rw (its_role, its_outputs, its_inputs)

    -- then the inputs
    pub live_before_is : {m m' : Vars} → m ≡ before_by (role_no (role_in e)) glob kept (bytes_at b (p + 1) (outs_in e)) l → m' ≡ plus m (bytes_at b (p + 1 + outs_in e) (ins_in e))
        → m' ≡ live_before glob kept (record_at row_of b p) l
    live_before_is w w' = w' ∙ ap (λ (m : Vars). plus m (bytes_at b (p + 1 + outs_in e) (ins_in e))) w ∙ sym live_is

  dead_is : (l : Vars) → dead (view_of document01 (record_at row_of b p)) l ≡ (is_pure (role_no (role_in e)) && none_in (bytes_at b (p + 1) (outs_in e)) l)
  dead_is l = rw (pure_at document01 (record_at row_of b p), outputs_at lawful (record_at row_of b p), its_role, its_outputs) (dead_by (role_no (role_in e)) (bytes_at b (p + 1) (outs_in e)) l)

  module _ (l : Vars) {n : ℕ} (m : n ≡ number_of (role_no (role_in e))) where
    pub never_dead : n < 8 → false ≡ dead (view_of document01 (record_at row_of b p)) l
    never_dead h =
        sym (dead_is l ∙ ap (λ (t : Bool). t && none_in (bytes_at b (p + 1) (outs_in e)) l) (le-ltb 7 (number_of (role_no (role_in e))) (omega arith)))

    pub dead_if : {t : Bool} → 8 ≤ n → t ≡ none_in (bytes_at b (p + 1) (outs_in e)) l → t ≡ dead (view_of document01 (record_at row_of b p)) l
    dead_if h q =
        q ∙ sym (dead_is l ∙ ap (λ (t : Bool). t && none_in (bytes_at b (p + 1) (outs_in e)) l) (lt-ltb 7 (number_of (role_no (role_in e))) (omega arith)))
