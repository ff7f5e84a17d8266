-- The rules of the op at a place, by the scan's tests. Assumes nothing.
use mathlib.Core.Path.{◌≡◌, refl, sym, ap, ap₂, ◌∙◌}
use mathlib.Core.Bool.{Bool, true, false, cond, not, ◌&&◌, ◌||◌, beq}
use mathlib.Core.List.{List, [], ◌∷◌}
use Prim.Native.Nat.{ℕ, zero, suc, ◌+◌, ◌-◌, ◌/◌, ◌%◌, ◌≤◌, ◌<◌}
use native.Mathlib.Omega.{arith}
use native.Mathlib.Nat.{add-zero, zero-add, suc-add}
use lib.Bits.{bit_and}
use lib.Dec.{eqb, ltb, leb}
use lib.ListN.{length, get_or, take, drop}
use borrow.Author.Tests.{lt-ltb, le-ltb, le-leb, lt-leb, eq-eqb, ne_eqb}
use Rattle.theory.specs.Sets.{Vars, all_in}
use Rattle.theory.proofs.Sets.{and_l, and_r}
use Rattle.ops.specs.Limits.{max_ops}
use Rattle.ops.specs.Rows.{Table, Row, outs_in, ins_in, rest_in, test_in, role_in, types_in, types_of, row_in, role_no, is_known, test_ok, output_count, operand_types, operand_count}
use Rattle.ops.specs.Fields.{bytes_at}
use Rattle.ops.specs.Plans.{ask}
use Rattle.ops.proofs.Entry.{Digits}
use Rattle.ops.proofs.Ranges.{every_from, ranged, beq_same}
use Rattle.block.specs.Checks.{asks, first_broken, op_rules}
use Rattle.block.specs.Rules.{Seen, kept_in, all_below, rule4, have_types, rule5, rule6, label_free, rule7, rule8, rule9}
use Rattle.block.specs.Scan.{record_at, Stands, codes_in, against, Coded, fits_as, operands_fit, declared_all, numbered, op_tests, operands_ok, entry_rule, op_stands, op_ok}
use Rattle.block.proofs.Codes.{fit_all}
use Rattle.block.proofs.Views.{kind_byte, row_at_lem, operand_bytes, input_bytes, label_byte, rule4_at, rule6_at}

unlike : false ≡ true → ⊥
unlike q = omega (arith, ap (λ (b : Bool). cond {A = ℕ} b 0 1) q)

-- operands that fit are declared and have their types: it is so for each byte below 32
lows : Bool → ℕ → ℕ → Bool
lows output t y = not (eqb (bit_and y (ask output t)) 0) || (not (eqb (y % 16) 15) && eqb (bit_and y (ask true t)) 0)

all_low : (output : Bool) → every_from (λ t. every_from (lows output t) 0 32) 0 4 ≡ true
unfolding lows
all_low true = refl
all_low false = refl

fits_low : (output : Bool) (x t : ℕ) → t < 4 → fits_as output x t ≡ true → (not (eqb (x % 16) 15) ≡ true) × (fits_as true x t ≡ true)
unfolding lows
fits_low output x t l h =
    let low = ranged (lows output t) 32 0 (ranged (λ t. every_from (lows output t) 0 32) 4 0 (all_low output) t (omega arith) (omega arith)) (x % 32) (omega arith) (omega arith) in
    let q : (not (eqb (x % 32 % 16) 15) && eqb (bit_and (x % 32) (ask true t)) 0) ≡ true = rw h at low in
    let m : x % 32 % 16 ≡ x % 16 = omega arith in
    (rw m at (and_l (not (eqb (x % 32 % 16) 15)) (fits_as true x t) q), and_r (not (eqb (x % 32 % 16) 15)) (fits_as true x t) q)

fit_declared : (vars : List ℕ) (outs codes : ℕ) (vs : List ℕ) → operands_fit vars outs codes vs ≡ true → declared_all vars vs ≡ true
unfolding operands_fit
fit_declared vars outs codes [] h = refl
fit_declared vars outs codes (v ∷ vs) h =
    let f : fits_as (ltb 0 outs) (codes_in vars v) (codes % 4) ≡ true = and_l (fits_as (ltb 0 outs) (codes_in vars v) (codes % 4)) (operands_fit vars (outs - 1) (codes / 4) vs) h in
    rw (fits_low (ltb 0 outs) (codes_in vars v) (codes % 4) (omega arith) f).0
    (fit_declared vars (outs - 1) (codes / 4) vs (and_r (fits_as (ltb 0 outs) (codes_in vars v) (codes % 4)) (operands_fit vars (outs - 1) (codes / 4) vs) h))

fit_typed : (vars : List ℕ) (outs codes m : ℕ) (vs : List ℕ) → length vs ≡ m → operands_fit vars outs codes vs ≡ true → operands_fit vars m codes vs ≡ true
unfolding operands_fit
fit_typed vars outs codes m [] e h = refl
fit_typed vars outs codes zero (v ∷ vs) e h = absurd (omega arith)
fit_typed vars outs codes (suc m) (v ∷ vs) e h =
    let f : fits_as (ltb 0 outs) (codes_in vars v) (codes % 4) ≡ true = and_l (fits_as (ltb 0 outs) (codes_in vars v) (codes % 4)) (operands_fit vars (outs - 1) (codes / 4) vs) h in
    let q : suc m - 1 ≡ m = omega arith in
    rw (q, lt-ltb 0 (suc m) (omega arith), (fits_low (ltb 0 outs) (codes_in vars v) (codes % 4) (omega arith) f).1)
    (fit_typed vars (outs - 1) (codes / 4) m vs (omega arith) (and_r (fits_as (ltb 0 outs) (codes_in vars v) (codes % 4)) (operands_fit vars (outs - 1) (codes / 4) vs) h))

bytes_length : (b : List ℕ) (q m : ℕ) → length (bytes_at b q m) ≡ m
bytes_length b q zero = refl
bytes_length b q (suc m) = ap suc (bytes_length b (suc q) m)

-- an op: the entry of its kind, its block and place, and what the scan has of the block before it
pub record Op : Type 0 where
  pub e : ℕ
  pub b : List ℕ
  pub p : ℕ
  pub ops : ℕ
  pub vars : List ℕ
  pub labels : List ℕ

module _ (q : Op) where
  abbrev named : List ℕ
  named = bytes_at q.b (q.p + 1) (outs_in q.e + ins_in q.e)

  abbrev fit : Bool
  fit = operands_ok q.e q.b q.p q.vars

  abbrev rest_ok : Bool
  rest_ok = test_ok (test_in q.e) (take (rest_in q.e) (drop (q.p + 1 + (outs_in q.e + ins_in q.e)) q.b))

  abbrev free : Bool
  free = label_free (row_in q.e) (numbered q.labels) (get_or q.b (q.p + (outs_in q.e + ins_in q.e + rest_in q.e)) 0)

  -- the first rule that is broken, where the operands do not fit
  abbrev pub First : ℕ → Type 0
  First r = r ≡ first_broken (op_tests q.e q.b q.p q.ops q.vars q.labels false)

  -- the tests passed, in their order
  pub record Met4 : Type 0 where
    pub few : q.ops < max_ops
    pub declared : declared_all q.vars named ≡ true

  pub record Met5 : Type 0 where
    pub before : Met4
    pub typed : operands_fit q.vars (outs_in q.e + ins_in q.e) (types_in q.e) named ≡ true

  pub record Met6 : Type 0 where
    pub before : Met5
    pub rest_so : rest_ok ≡ true

pub is_9 : (q : Op) → max_ops ≤ q.ops → First q 9
unfolding first_broken
is_9 q l = rw (le-ltb q.ops max_ops l)

pub is_4 : (q : Op) → q.ops < max_ops → declared_all q.vars (named q) ≡ false → First q 4
unfolding first_broken
is_4 q few t = rw (lt-ltb q.ops max_ops few, t)

pub is_5 : {q : Op} → Met4 q → operands_fit q.vars (outs_in q.e + ins_in q.e) (types_in q.e) (named q) ≡ false → First q 5
unfolding first_broken
is_5 {q} m t = rw (lt-ltb q.ops max_ops m.few, m.declared, t)

pub is_6 : {q : Op} → Met5 q → rest_ok q ≡ false → First q 6
unfolding first_broken
is_6 {q} m t = rw (lt-ltb q.ops max_ops m.before.few, m.before.declared, m.typed, t)

module _ {q : Op} (m : Met6 q) where
  pub is_7 : free q ≡ false → First q 7
  unfolding first_broken
  is_7 t = rw (lt-ltb q.ops max_ops m.before.before.few, m.before.before.declared, m.before.typed, m.rest_so, t)

  pub is_8 : free q ≡ true → First q 8
  unfolding first_broken
  is_8 t = rw (lt-ltb q.ops max_ops m.before.before.few, m.before.before.declared, m.before.typed, m.rest_so, t)

-- what the leaves answer, in these terms
module _ (q : Op) {count : ℕ} (n : count ≡ outs_in q.e + ins_in q.e) where
  pub count_inside : q.p + (outs_in q.e + ins_in q.e + rest_in q.e) < length q.b → q.p + 1 + count ≤ length q.b
  count_inside l = omega (arith, n)

  pub rest_inside : q.p + (outs_in q.e + ins_in q.e + rest_in q.e) < length q.b → q.p + 1 + count + rest_in q.e ≤ length q.b
  rest_inside l = omega (arith, n)

  module _ {r t : Bool} where
    pub declared_by : r ≡ declared_all q.vars (bytes_at q.b (q.p + 1) count) → r ≡ t → declared_all q.vars (named q) ≡ t
    declared_by e a = rw n at (sym e ∙ a)

    pub typed_by : {codes : ℕ} → codes ≡ types_in q.e → r ≡ operands_fit q.vars count codes (bytes_at q.b (q.p + 1) count) → r ≡ t
        → operands_fit q.vars (outs_in q.e + ins_in q.e) (types_in q.e) (named q) ≡ t
    typed_by c e a = rw (n, c) at (sym e ∙ a)

    pub fit_by : {outs codes : ℕ} → outs ≡ outs_in q.e → codes ≡ types_in q.e → r ≡ operands_fit q.vars outs codes (bytes_at q.b (q.p + 1) count) → r ≡ t → fit q ≡ t
    fit_by o c e a = rw (n, o, c) at (sym e ∙ a)

    pub rest_by_lem : {m k : ℕ} → m ≡ test_in q.e → k ≡ rest_in q.e → r ≡ test_ok m (take k (drop (q.p + 1 + count) q.b)) → r ≡ t → rest_ok q ≡ t
    rest_by_lem z y e a = rw (n, z, y) at (sym e ∙ a)

pub free_by : (q : Op) {r t : Bool} → r ≡ free q → r ≡ t → free q ≡ t
free_by q e a = sym e ∙ a

-- the record's rule, test by test
module _ (e : ℕ) (b : List ℕ) (p ops : ℕ) (vars labels : List ℕ) where
  pub entry_2 : is_known (role_no (role_in e)) ≡ false → 2 ≡ entry_rule e b p ops vars labels false
  unfolding entry_rule
  entry_2 k = rw k

  module _ (k : is_known (role_no (role_in e)) ≡ true) where
    pub entry_1 : length b - p ≤ outs_in e + ins_in e + rest_in e → 1 ≡ entry_rule e b p ops vars labels false
    unfolding entry_rule
    entry_1 l = rw (k, le-leb (length b - p) (outs_in e + ins_in e + rest_in e) l)

    module _ (l : outs_in e + ins_in e + rest_in e < length b - p) where
      pub entry_3 : get_or b p 0 ≡ 1 → 3 ≡ entry_rule e b p ops vars labels false
      unfolding entry_rule
      entry_3 d = rw (k, lt-leb (length b - p) (outs_in e + ins_in e + rest_in e) l, eq-eqb (get_or b p 0) 1 d)

      pub entry_op : {r : ℕ} → (get_or b p 0 ≡ 1 → ⊥) → r ≡ first_broken (op_tests e b p ops vars labels false) → r ≡ entry_rule e b p ops vars labels false
      unfolding entry_rule
      entry_op d q = rw (k, lt-leb (length b - p) (outs_in e + ins_in e + rest_in e) l, ne_eqb (get_or b p 0) 1 d) q

-- the fast test: it passes where no rule is broken; where it does not, the operands need not be asked again
all_met_lem : (n a b c d : Bool) → first_broken (asks 9 n ∷ asks 4 a ∷ asks 5 b ∷ asks 6 c ∷ asks 7 d ∷ asks 8 false ∷ []) ≡ 0 → ⊥
unfolding first_broken
all_met_lem false a b c d e = omega arith
all_met_lem true false b c d e = omega arith
all_met_lem true true false c d e = omega arith
all_met_lem true true true false d e = omega arith
all_met_lem true true true true false e = omega arith
all_met_lem true true true true true e = omega arith

not_all : (n a b c d f : Bool) → (n && f && c && d) ≡ false
    → first_broken (asks 9 n ∷ asks 4 a ∷ asks 5 b ∷ asks 6 c ∷ asks 7 d ∷ asks 8 f ∷ []) ≡ first_broken (asks 9 n ∷ asks 4 a ∷ asks 5 b ∷ asks 6 c ∷ asks 7 d ∷ asks 8 false ∷ [])
unfolding first_broken
not_all n a b c d false h = refl
not_all false a b c d true h = refl
not_all true false b c d true h = refl
not_all true true false c d true h = refl
not_all true true true false d true h = refl
not_all true true true true false true h = refl
not_all true true true true true true h = absurd (unlike (sym h))

module _ (q : Op) where
  pub stopped_not : entry_rule q.e q.b q.p q.ops q.vars q.labels false ≡ 0 → ⊥
  unfolding entry_rule
  stopped_not = go (is_known (role_no (role_in q.e))) (leb (length q.b - q.p) (outs_in q.e + ins_in q.e + rest_in q.e)) (eqb (get_or q.b q.p 0) 1)
    where
      go : (k s d : Bool) → cond k (cond s 1 (cond d 3 (first_broken (op_tests q.e q.b q.p q.ops q.vars q.labels false)))) 2 ≡ 0 → ⊥
      go false s d z = omega arith
      go true true d z = omega arith
      go true false true z = omega arith
      go true false false z =
          all_met_lem (ltb q.ops max_ops) (declared_all q.vars (named q)) (operands_fit q.vars (outs_in q.e + ins_in q.e) (types_in q.e) (named q)) (rest_ok q) (free q) z

  pub no_op_lem : op_stands q.e q.b q.p ≡ false → entry_rule q.e q.b q.p q.ops q.vars q.labels (fit q) ≡ entry_rule q.e q.b q.p q.ops q.vars q.labels false
  unfolding entry_rule
  no_op_lem = go (is_known (role_no (role_in q.e))) (leb (length q.b - q.p) (outs_in q.e + ins_in q.e + rest_in q.e)) (eqb (get_or q.b q.p 0) 1) _ _
    where
      go : (k s d : Bool) (x y : ℕ) → (k && not s && not d) ≡ false → cond k (cond s 1 (cond d 3 x)) 2 ≡ cond k (cond s 1 (cond d 3 y)) 2
      go false s d x y h = refl
      go true true d x y h = refl
      go true false true x y h = refl
      go true false false x y h = absurd (unlike (sym h))

  module _ (o : op_stands q.e q.b q.p ≡ true) where
    stands_rule : (f : Bool) → entry_rule q.e q.b q.p q.ops q.vars q.labels f ≡ first_broken (op_tests q.e q.b q.p q.ops q.vars q.labels f)
    unfolding entry_rule
    stands_rule f = go (is_known (role_no (role_in q.e))) (leb (length q.b - q.p) (outs_in q.e + ins_in q.e + rest_in q.e)) (eqb (get_or q.b q.p 0) 1) _ o
      where
        go : (k s d : Bool) (x : ℕ) → (k && not s && not d) ≡ true → cond k (cond s 1 (cond d 3 x)) 2 ≡ x
        go true false false x h = refl
        go true false true x h = absurd (unlike h)
        go true true d x h = absurd (unlike h)
        go false s d x h = absurd (unlike h)

    pub no_fit : op_ok q.e q.b q.p q.ops q.vars q.labels ≡ false
        → entry_rule q.e q.b q.p q.ops q.vars q.labels (fit q) ≡ entry_rule q.e q.b q.p q.ops q.vars q.labels false
    no_fit h =
        stands_rule (fit q)
        ∙ not_all (ltb q.ops max_ops) (declared_all q.vars (named q)) (operands_fit q.vars (outs_in q.e + ins_in q.e) (types_in q.e) (named q)) (rest_ok q) (free q) (fit q) h
        ∙ sym (stands_rule false)

    pub op_fits : op_ok q.e q.b q.p q.ops q.vars q.labels ≡ true → entry_rule q.e q.b q.p q.ops q.vars q.labels (fit q) ≡ 0
    unfolding first_broken
    op_fits h =
        let m = outs_in q.e + ins_in q.e in
        let c = and_l (ltb q.ops max_ops && fit q && rest_ok q) (free q) h in
        let d = and_l (ltb q.ops max_ops && fit q) (rest_ok q) c in
        let f = and_r (ltb q.ops max_ops) (fit q) d in
        stands_rule (fit q)
        ∙ rw (and_l (ltb q.ops max_ops) (fit q) d, fit_declared q.vars (outs_in q.e) (types_in q.e) (named q) f, fit_typed q.vars (outs_in q.e) (types_in q.e) m (named q) (bytes_length q.b (q.p + 1) m) f, and_r (ltb q.ops max_ops && fit q) (rest_ok q) c, and_r (ltb q.ops max_ops && fit q && rest_ok q) (free q) h, f)

-- the tests are the rules, where the variables' bytes and the labels are those of what has been seen
rules_alike : (n a b c d e : Bool) → first_broken (asks 9 n ∷ asks 4 a ∷ asks 5 (a && b && true) ∷ asks 6 c ∷ asks 7 d ∷ asks 8 (a && b && e) ∷ []) ≡ first_broken (asks 9 n ∷ asks 4 a ∷ asks 5 b ∷ asks 6 c ∷ asks 7 d ∷ asks 8 e ∷ [])
unfolding first_broken
rules_alike false a b c d e = refl
rules_alike true false b c d e = refl
rules_alike true true false c d e = refl
rules_alike true true true c d e = refl

drop_bytes : (b : List ℕ) (m k p : ℕ) → drop m (bytes_at b p (m + k)) ≡ bytes_at b (p + m) k
drop_bytes b zero k p = rw (add-zero p, zero-add k)
drop_bytes b (suc m) k p = rw (suc-add m k) (drop_bytes b m k (suc p) ∙ ap (λ (n : ℕ). bytes_at b n k) (omega arith))

drop_all : (b : List ℕ) (m p : ℕ) → drop m (bytes_at b p m) ≡ []
drop_all b zero p = refl
drop_all b (suc m) p = drop_all b m (suc p)

declaring : Bool → Bool → ℕ → Bool
declaring below k x = beq (not (eqb (cond below (against k x) 15 % 16) 15)) below

all_declaring : (below k : Bool) → every_from (declaring below k) 0 4 ≡ true
unfolding declaring
all_declaring true true = refl
all_declaring true false = refl
all_declaring false k = refl

declared_code : (below k : Bool) (x : ℕ) → x < 4 → not (eqb (cond below (against k x) 15 % 16) 15) ≡ below
unfolding declaring
declared_code below k x l = beq_same _ _ (ranged (declaring below k) 4 0 (all_declaring below k) x (omega arith) (omega arith))

declared_below : {vars classes types : List ℕ} {written : Vars} → Coded vars classes types written → (vs : List ℕ) → declared_all vars vs ≡ all_below (length classes) vs
declared_below c [] = refl
declared_below {vars} {classes} {types} {written} c (v ∷ vs) =
    ap₂ (λ (x y : Bool). x && y) (ap (λ (codes : ℕ → ℕ). not (eqb (codes v % 16) 15)) c.codes_are ∙ declared_code (ltb v (length classes)) (kept_in classes v || written v) (get_or types v 0) (c.types_small v)) (declared_below c vs)

module _ (q : Op) (s : Seen) {T : Table} {k : ℕ} (st : Stands T q.b q.p k) (d : Digits T q.e k) (c : Coded q.vars s.classes s.types s.written)
    (ls : s.labels ≡ numbered q.labels) (os : s.ops ≡ q.ops) where
  abbrev its : List ℕ
  its = record_at T q.b q.p

  abbrev count : ℕ
  count = outs_in q.e + ins_in q.e

  rule_4 : rule4 T s its ≡ all_below (length s.classes) (named q)
  rule_4 = rule4_at st s ∙ ap (λ (m : ℕ). all_below (length s.classes) (bytes_at q.b (q.p + 1) m)) d.operands

  rule_5 : rule5 T s its ≡ have_types s.types (named q) (types_of count (types_in q.e))
  unfolding rule5
  rule_5 = ap₂ (have_types s.types) (operand_bytes st ∙ ap (bytes_at q.b (q.p + 1)) d.operands) (ap (operand_types T) (kind_byte st) ∙ d.types)

  rule_6 : rule6 T s its ≡ rest_ok q
  rule_6 =
      let m : q.p + (1 + operand_count T k) ≡ q.p + 1 + count = omega (arith, d.operands) in
      rule6_at st s ∙ ap (λ (row : Row). test_ok row.test (take (T k).rest (drop (q.p + (1 + operand_count T k)) q.b))) d.row
      ∙ ap₂ (λ (x y : ℕ). test_ok (test_in q.e) (take x (drop y q.b))) d.rest m

  rule_7 : rule7 T s its ≡ free q
  unfolding rule7
  rule_7 =
      ap₂ (λ (row : Row) (l : ℕ). label_free row s.labels l) (row_at_lem st ∙ d.row) (label_byte st ∙ ap (λ (m : ℕ). get_or q.b (q.p + m) 0) d.body)
      ∙ ap (λ (labels : Vars). label_free (row_in q.e) labels (get_or q.b (q.p + (count + rest_in q.e)) 0)) ls

  rule_8 : rule8 T s its ≡ all_in (kept_in s.classes) (drop (outs_in q.e) (named q)) s.written
  unfolding rule8
  rule_8 =
      let m : q.p + (1 + output_count T k) ≡ q.p + 1 + outs_in q.e = omega (arith, d.outs) in
      ap (λ (vs : List ℕ). all_in (kept_in s.classes) vs s.written)
      (input_bytes st ∙ ap₂ (bytes_at q.b) m d.ins ∙ sym (drop_bytes q.b (outs_in q.e) (ins_in q.e) (q.p + 1)))

  typed : operands_fit q.vars count (types_in q.e) (named q) ≡ (all_below (length s.classes) (named q) && have_types s.types (named q) (types_of count (types_in q.e)) && true)
  typed =
      fit_all c count (types_in q.e) count (named q) (bytes_length q.b (q.p + 1) count)
      ∙ ap (λ (vs : List ℕ). all_below (length s.classes) (named q) && have_types s.types (named q) (types_of count (types_in q.e)) && all_in (kept_in s.classes) vs s.written) (drop_all q.b count (q.p + 1))

  fits : operands_ok q.e q.b q.p q.vars ≡ (all_below (length s.classes) (named q) && have_types s.types (named q) (types_of count (types_in q.e)) && all_in (kept_in s.classes) (drop (outs_in q.e) (named q)) s.written)
  fits = fit_all c (outs_in q.e) (types_in q.e) count (named q) (bytes_length q.b (q.p + 1) count)

  pub tests_alike : first_broken (op_tests q.e q.b q.p q.ops q.vars q.labels (operands_ok q.e q.b q.p q.vars)) ≡ first_broken (op_rules T s its)
  unfolding rule9
  tests_alike =
      rw (declared_below c (named q), typed, fits, rule_4, rule_5, rule_6, rule_7, rule_8, os)
      (rules_alike (ltb q.ops max_ops) (all_below (length s.classes) (named q)) (have_types s.types (named q) (types_of count (types_in q.e))) (rest_ok q) (free q) (all_in (kept_in s.classes) (drop (outs_in q.e) (named q)) s.written))
