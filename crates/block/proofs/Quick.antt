-- The tests of an op by the plan of its kind are those by its entry. Assumes nothing.
use mathlib.Core.Path.{◌≡◌, refl, sym, ap, ap₂, ◌∙◌, subst}
use mathlib.Core.Logic.{◌⊎◌, inl, inr}
use mathlib.Core.Bool.{Bool, true, false, cond, not, ◌&&◌, ◌||◌, beq}
use mathlib.Core.List.{List, [], ◌∷◌}
use Prim.Native.Nat.{ℕ, zero, suc, ◌+◌, ◌-◌, ◌/◌, ◌%◌, ◌^◌, ◌≤◌, ◌<◌}
use native.Mathlib.Omega.{arith}
use lib.Bits.{bit_and}
use lib.Dec.{eqb, ltb, leb}
use lib.ListN.{length, get_or, take, drop}
use lib.Seq.{get_or-take, get_or-drop}
use native.Mathlib.Nat.{add-zero}
use borrow.Author.Tests.{eqb-true, ltb-true, ltb-false, lt-ltb, le-ltb, le-leb, lt-leb, leb-true, eq-eqb, ne_eqb}
use Rattle.theory.proofs.Sets.{tell, and_l, and_r, clash}
use Rattle.memory.specs.Access.{flags_ok}
use Rattle.memory.specs.Bytes.{low_first}
use Rattle.ops.specs.Limits.{max_ops, label_count}
use Rattle.ops.specs.Rows.{outs_in, ins_in, rest_in, test_in, role_in, types_in, types_of, row_in, role_no, is_known, is_closing, is_setting, is_jumping, at, cond_ok, label_ok, test_ok, asks_for}
use Rattle.ops.specs.Table.{kind_table}
use Rattle.ops.specs.Plans.{type_in, no_op, length_by, out_ask_by, second_by, in_ask_by, in_at_by, byte_test_by, ask_of, byte_at_by, more_by, plan_of, length_in, out_ask_in, first_ask_in, second_ask_in, first_at_in, second_at_in, byte_at_in, byte_ask_in, more_in}
use Rattle.ops.proofs.Plans.{Plan, plan, Sort, plainly, four_inputs, constant_sort, labelled, by_number, Sorted, sorted, no_op_so, no_plan, or_not, first_read}
use Rattle.ops.proofs.Ranges.{every_from, ranged, beq_same}
use Rattle.ops.proofs.Table.{asks_few}
use Rattle.block.specs.Rules.{label_free}
use Rattle.block.specs.Scan.{codes_in, meets, fits_as, operands_fit, numbered, operands_ok, op_stands, op_ok, op_passes, Placed, code_at, three_fit, byte_ok, refusals_of, refusals_from, refusal_table, label_fits, bytes_pass, more_ok}
use Rattle.block.proofs.Rests.{branch_test, label_test, constant_test}

-- nothing is asked
askless : (x : ℕ) → meets 0 x ≡ true
askless x = ranged (λ y. eqb (bit_and y 0) 0) 32 0 refl (x % 32) (omega arith) (omega arith)

and_none : (a : Bool) → (a && false) ≡ false
and_none true = refl
and_none false = refl

and_one : (a : Bool) → (a && true) ≡ a
and_one true = refl
and_one false = refl

and_same : (a : Bool) → (a && a) ≡ a
and_same true = refl
and_same false = refl

and_twice : (a b : Bool) → (a && b && b) ≡ (a && (b && true))
and_twice true true = refl
and_twice true false = refl
and_twice false b = refl

and_more : (a b c : Bool) → (a && b && c) ≡ (a && (b && (c && true)))
and_more true true true = refl
and_more true true false = refl
and_more true false c = refl
and_more false b c = refl

and_five : (a b c d f : Bool) → (a && b && c && (d && f)) ≡ (a && (b && (c && (d && (f && true)))))
and_five true true true true true = refl
and_five true true true true false = refl
and_five true true true false f = refl
and_five true true false d f = refl
and_five true false c d f = refl
and_five false b c d f = refl

and_last : (a b c : Bool) → (a && b && c) ≡ (a && c && b && true)
and_last true true true = refl
and_last true true false = refl
and_last true false true = refl
and_last true false false = refl
and_last false b c = refl

and_middle : (a b : Bool) → (a && true && b) ≡ (a && b && true)
and_middle true true = refl
and_middle true false = refl
and_middle false b = refl

and_assoc : (a b c : Bool) → (a && b && c) ≡ (a && (b && c))
and_assoc true b c = refl
and_assoc false b c = refl

and_after : (a b c d : Bool) → (a && b && (c && d)) ≡ (a && b && c && d)
and_after true true c d = refl
and_after true false c d = refl
and_after false b c d = refl

-- the operands: the output and the first two inputs
module _ (e : ℕ) (b : List ℕ) (p : ℕ) (vars : List ℕ) where
  abbrev three : Bool
  three =
      meets (out_ask_by e) (code_at b vars (p + 1)) && meets (in_ask_by e (outs_in e)) (code_at b vars (p + in_at_by e (outs_in e)))
      && meets (in_ask_by e (second_by e)) (code_at b vars (p + in_at_by e (second_by e)))

  -- the i-th operand
  abbrev fit : Bool → ℕ → ℕ → Bool
  fit output i t = fits_as output (codes_in vars (at b i)) t

  second : p + 2 ≡ suc (p + 1)
  second = omega arith

  third : p + 3 ≡ suc (suc (p + 1))
  third = omega arith

  pub three_fit_lem : outs_in e < 2 → ins_in e < 3 → three ≡ operands_ok e b p vars
  unfolding operands_fit types_of
  three_fit_lem = go (outs_in e) (ins_in e) refl refl
    where
      go : (o i : ℕ) → outs_in e ≡ o → ins_in e ≡ i → o < 2 → i < 3 → three ≡ operands_ok e b p vars
      go zero zero x y l m = rw (x, y, askless (code_at b vars (p + 1)))
      go zero (suc zero) x y l m = rw (x, y, askless (code_at b vars (p + 1))) (and_same (fit false (p + 1) (types_in e % 4)) ∙ sym (and_one (fit false (p + 1) (types_in e % 4))))
      go zero (suc (suc zero)) x y l m = rw (x, y, askless (code_at b vars (p + 1)), second) (ap (λ (t : Bool). fit false (p + 1) (types_in e % 4) && t) (sym (and_one (fit false (suc (p + 1)) (types_in e / 4 % 4)))))
      go (suc zero) zero x y l m = rw (x, y, askless (code_at b vars (p + 1))) (and_one (fit true (p + 1) (types_in e % 4) && true))
      go (suc zero) (suc zero) x y l m = rw (x, y, second) (and_twice (fit true (p + 1) (types_in e % 4)) (fit false (suc (p + 1)) (types_in e / 4 % 4)))
      go (suc zero) (suc (suc zero)) x y l m = rw (x, y, second, third) (and_more (fit true (p + 1) (types_in e % 4)) (fit false (suc (p + 1)) (types_in e / 4 % 4)) (fit false (suc (suc (p + 1))) (types_in e / 4 / 4 % 4)))
      go (suc (suc o)) i x y l m = absurd (omega arith)
      go zero (suc (suc (suc i))) x y l m = absurd (omega arith)
      go (suc zero) (suc (suc (suc i))) x y l m = absurd (omega arith)

  fourth : p + 4 ≡ suc (suc (suc (p + 1)))
  fourth = omega arith

  fifth : p + 5 ≡ suc (suc (suc (suc (p + 1))))
  fifth = omega arith

  -- and two more
  pub five_fit : outs_in e ≡ 1 → ins_in e ≡ 4 → type_in e 3 ≡ type_in e 1 → type_in e 4 ≡ type_in e 1
      → (three && (meets (in_ask_by e (outs_in e)) (code_at b vars (p + 4)) && meets (in_ask_by e (outs_in e)) (code_at b vars (p + 5)))) ≡ operands_ok e b p vars
  unfolding operands_fit types_of
  five_fit x y u v =
      let t = types_in e in
      let A = fit true (p + 1) (t % 4) in
      let B = fit false (suc (p + 1)) (t / 4 % 4) in
      let C = fit false (suc (suc (p + 1))) (t / 4 / 4 % 4) in
      let u' : t / 4 / 4 / 4 % 4 ≡ t / 4 % 4 = rw (x, y) at u in
      let v' : t / 4 / 4 / 4 / 4 % 4 ≡ t / 4 % 4 = rw (x, y) at v in
      rw (x, y, second, third, fourth, fifth)
      (and_five A B C (fit false (suc (suc (suc (p + 1)))) (t / 4 % 4)) (fit false (suc (suc (suc (suc (p + 1))))) (t / 4 % 4))
      ∙ ap₂ (λ (i j : ℕ). A && (B && (C && (fit false (suc (suc (suc (p + 1)))) i && (fit false (suc (suc (suc (suc (p + 1))))) j && true))))) (sym u') (sym v'))

-- the test of one byte
byte_test : ℕ → Bool
byte_test t = not (eqb t 1) && not (eqb t 3)

one_no : (x : ℕ) → byte_ok 1 x ≡ false
unfolding byte_ok
one_no x = refl

zero_ok : (x : ℕ) → byte_ok 0 x ≡ true
unfolding byte_ok test_ok
zero_ok x = refl

byte_so : (t x : ℕ) → byte_test t ≡ true → byte_ok t x ≡ test_ok t (x ∷ [])
unfolding byte_ok byte_test
byte_so t x s = rw (and_l (not (eqb t 1)) (not (eqb t 3)) s)

unlike : false ≡ true → ⊥
unlike q = omega (arith, ap (λ (b : Bool). cond {A = ℕ} b 0 1) q)

-- a table of the tests that refuse a byte has a bit for each
refusal_ok : ℕ → ℕ → Bool
refusal_ok t x = beq (eqb (bit_and (refusals_of x) (ask_of t)) 0) (byte_ok t x)

refusals_right : every_from (λ t. every_from (refusal_ok t) 0 256) 0 8 ≡ true
unfolding refusal_ok refusals_of byte_ok test_ok flags_ok
refusals_right = refl

refusals_at : (n x k : ℕ) → k < n → get_or (refusals_from x n) k 0 ≡ refusals_of (x + k)
refusals_at zero x k l = absurd (omega arith)
refusals_at (suc n) x zero l = ap refusals_of (sym (add-zero x))
refusals_at (suc n) x (suc k) l = refusals_at n (suc x) k (omega arith) ∙ ap refusals_of (omega arith)

byte_refused : {table : List ℕ} {t x a : ℕ} {r : Bool} → table ≡ refusal_table → t < 8 → a ≡ ask_of t → x < 256 → r ≡ eqb (bit_and (get_or table x 0) a) 0 → r ≡ byte_ok t x
unfolding refusal_ok
byte_refused {table} {t} {x} {r = r} z l w m e =
    let y : get_or table x 0 ≡ refusals_of x = ap (λ (ts : List ℕ). get_or ts x 0) z ∙ refusals_at 256 0 x m ∙ ap refusals_of (omega arith) in
    let o = ranged (refusal_ok t) 256 0 (ranged (λ t. every_from (refusal_ok t) 0 256) 8 0 refusals_right t (omega arith) (omega arith)) x (omega arith) (omega arith) in
    e ∙ ap₂ (λ (a i : ℕ). eqb (bit_and a i) 0) y w ∙ beq_same _ _ o

first_only : (t : ℕ) (bytes : List ℕ) → t < 8 → byte_test t ≡ true → test_ok t bytes ≡ test_ok t (at bytes 0 ∷ [])
unfolding test_ok byte_test
first_only zero bytes l s = refl
first_only (suc zero) bytes l s = absurd (unlike s)
first_only (suc (suc zero)) bytes l s = refl
first_only (suc (suc (suc zero))) bytes l s = absurd (unlike s)
first_only (suc (suc (suc (suc zero)))) bytes l s = refl
first_only (suc (suc (suc (suc (suc zero))))) bytes l s = refl
first_only (suc (suc (suc (suc (suc (suc zero)))))) bytes l s = refl
first_only (suc (suc (suc (suc (suc (suc (suc zero))))))) bytes l s = refl
first_only (suc (suc (suc (suc (suc (suc (suc (suc t)))))))) bytes l s = absurd (omega arith)

single : (t : ℕ) → cond (eqb t 3) 2 (cond (ltb 1 t && ltb t 8) t 0) ≡ t → (t < 8) × (byte_test t ≡ true)
unfolding byte_test
single zero q = (omega arith, refl)
single (suc zero) q = absurd (omega arith)
single (suc (suc zero)) q = (omega arith, refl)
single (suc (suc (suc zero))) q = absurd (omega arith)
single (suc (suc (suc (suc zero)))) q = (omega arith, refl)
single (suc (suc (suc (suc (suc zero))))) q = (omega arith, refl)
single (suc (suc (suc (suc (suc (suc zero)))))) q = (omega arith, refl)
single (suc (suc (suc (suc (suc (suc (suc zero))))))) q = (omega arith, refl)
single (suc (suc (suc (suc (suc (suc (suc (suc t)))))))) q =
    let n = suc (suc (suc (suc (suc (suc (suc (suc t))))))) in
    absurd (omega (arith, rw (le-ltb n 8 (omega arith), ne_eqb n 3 (λ z. omega arith), lt-ltb 1 n (omega arith)) at q))

asking : ℕ → Bool
asking t = not (byte_test t) || (eqb t 0 || eqb (asks_for t) 1)

all_asking : every_from asking 0 8 ≡ true
unfolding asking byte_test
all_asking = refl

asks_one : (t : ℕ) → t < 8 → byte_test t ≡ true → (t ≡ 0 → ⊥) → asks_for t ≡ 1
unfolding asking
asks_one t l s n = eqb-true (asks_for t) 1 (or_not (eqb t 0) (eqb (asks_for t) 1) (ne_eqb t 0 n) (or_not (not (byte_test t)) _ (ap not s) (ranged asking 8 0 all_asking t (omega arith) (omega arith))))

testing : ℕ → Bool
testing t = eqb (cond (eqb t 3) 2 (cond (ltb 1 t && ltb t 8) t 0)) 0 || leb 1 (asks_for t)

all_testing : every_from testing 0 16 ≡ true
unfolding testing
all_testing = refl

tested : (t : ℕ) → t < 16 → (cond (eqb t 3) 2 (cond (ltb 1 t && ltb t 8) t 0) ≡ 0 → ⊥) → 1 ≤ asks_for t
unfolding testing
tested t l n = leb-true 1 (asks_for t) (or_not (eqb (cond (eqb t 3) 2 (cond (ltb 1 t && ltb t 8) t 0)) 0) (leb 1 (asks_for t)) (ne_eqb _ 0 n) (ranged testing 16 0 all_testing t (omega arith) (omega arith)))

no_rest : (bytes : List ℕ) → test_ok 0 bytes ≡ true
unfolding test_ok
no_rest bytes = refl

two_bytes : byte_test 2 ≡ true
unfolding byte_test
two_bytes = refl

two_test : (x : ℕ) → test_ok 2 (x ∷ []) ≡ cond_ok x
unfolding test_ok
two_test x = refl

-- what is asked has bit 4
asked_below : ℕ → ℕ → Bool
asked_below asked code = not (eqb (asked / 16) 1) || (not (eqb (bit_and code asked) 0) || ltb code 16)

all_below_lem : every_from (λ asked. every_from (asked_below asked) 0 32) 0 32 ≡ true
unfolding asked_below
all_below_lem = refl

below_16 : (asked code : ℕ) → asked < 32 → code < 32 → asked / 16 ≡ 1 → eqb (bit_and code asked) 0 ≡ true → code < 16
unfolding asked_below
below_16 asked code l m o t =
    let u = ranged (asked_below asked) 32 0 (ranged (λ asked. every_from (asked_below asked) 0 32) 32 0 all_below_lem asked (omega arith) (omega arith)) code (omega arith) (omega arith) in
    ltb-true code 16 (or_not (not (eqb (bit_and code asked) 0)) _ (ap not t) (or_not (not (eqb (asked / 16) 1)) _ (rw o) u))

-- an op with this entry and plan
module _ (b : List ℕ) (p : ℕ) (vars labels : List ℕ) {e h : ℕ} (g : Plan e h) (few : asks_for (test_in e) ≤ rest_in e) (some_op : no_op e ≡ false) where
  abbrev count : ℕ
  count = outs_in e + ins_in e

  abbrev rest : Bool
  rest = test_ok (test_in e) (take (rest_in e) (drop (p + 1 + count) b))

  abbrev byte : Bool
  byte = byte_ok (byte_test_by e) (get_or b (p + byte_at_in h) 0)

  abbrev more : Bool
  more = more_ok h b p vars labels

  abbrev free : Bool
  free = label_free (row_in e) (numbered labels) (get_or b (p + (count + rest_in e)) 0)

  byte_first : 0 < rest_in e → at (take (rest_in e) (drop (p + 1 + count) b)) 0 ≡ at b (p + 1 + count)
  byte_first l = get_or-take (rest_in e) (drop (p + 1 + count) b) 0 0 l ∙ get_or-drop (p + 1 + count) b 0 0 ∙ ap (at b) (add-zero (p + 1 + count))

  -- the byte after the operands is all that is tested, or more
  byte_none : byte_test_by e ≡ 0 → byte ≡ true
  byte_none y = ap (λ (t : ℕ). byte_ok t (get_or b (p + byte_at_in h) 0)) y ∙ zero_ok (get_or b (p + byte_at_in h) 0)

  byte_there : {t : ℕ} → byte_test_by e ≡ suc t → byte ≡ byte_ok (suc t) (at b (p + 1 + count))
  byte_there {t} y =
      let m : byte_at_by e ≡ 1 + count = rw (y, ne_eqb (suc t) 0 (λ u. omega arith)) in
      let n : p + byte_at_in h ≡ p + 1 + count = omega (arith, g.byte_at, m) in
      ap₂ (λ (t i : ℕ). byte_ok t (at b i)) y n

  rest_byte : byte_test_by e ≡ test_in e → rest ≡ byte
  rest_byte y = go (test_in e) refl (single (test_in e) (rw some_op at y))
    where
      go : (t : ℕ) → test_in e ≡ t → (test_in e < 8) × (byte_test (test_in e) ≡ true) → rest ≡ byte
      go zero x s = ap (λ (t : ℕ). test_ok t (take (rest_in e) (drop (p + 1 + count) b))) x ∙ no_rest _ ∙ sym (byte_none (y ∙ x))
      go (suc t) x s =
          let one : asks_for (test_in e) ≡ 1 = asks_one (test_in e) s.0 s.1 (λ u. omega arith) in
          first_only (test_in e) (take (rest_in e) (drop (p + 1 + count) b)) s.0 s.1
          ∙ ap (λ (x : ℕ). test_ok (test_in e) (x ∷ [])) (byte_first (omega arith))
          ∙ sym (byte_so (test_in e) (at b (p + 1 + count)) s.1) ∙ ap (λ (t : ℕ). byte_ok t (at b (p + 1 + count))) x ∙ sym (byte_there (y ∙ x))

  -- what else is asked
  more_none : more_by e ≡ 0 → more ≡ true
  unfolding more_ok
  more_none y = rw (g.more_so ∙ y)

  more_inputs : more_by e ≡ 3 → more ≡ (meets (in_ask_by e (outs_in e)) (code_at b vars (p + 4)) && meets (in_ask_by e (outs_in e)) (code_at b vars (p + 5)))
  unfolding more_ok
  more_inputs y = rw (g.more_so ∙ y, g.first_ask)

  more_constant : more_by e ≡ 1 → more ≡ ltb (low_first b (p + 2) 8) (2 ^ 32)
  unfolding more_ok
  more_constant y = rw (g.more_so ∙ y)

  more_label : more_by e ≡ 2 → more ≡ label_fits labels (get_or b (p + length_in h - 1) 0)
  unfolding more_ok
  more_label y = rw (g.more_so ∙ y)

  more_test : length_in h ≡ 1 + (count + rest_in e) → more_by e ≡ 4 → more ≡ rest
  unfolding more_ok
  more_test n y =
      let i : byte_at_by e ≡ 1 + count = rw (y, and_none (eqb (byte_test_by e) 0)) in
      let d : length_in h - byte_at_in h ≡ rest_in e = omega (arith, n, g.byte_at, i) in
      let q : p + byte_at_in h ≡ p + 1 + count = omega (arith, g.byte_at, i) in
      rw (g.more_so ∙ y, g.test_so, d, q)

  three_so : three_fit h b p vars ≡ three e b p vars
  three_so = rw (g.out_ask, g.first_ask, g.second_ask, g.first_at, g.second_at)

  free_none : (is_setting (role_no (role_in e)) || is_jumping (role_no (role_in e))) ≡ false → free ≡ true
  free_none y = rw y

  free_label : (is_setting (role_no (role_in e)) || is_jumping (role_no (role_in e))) ≡ true → free ≡ not (numbered labels (get_or b (p + (count + rest_in e)) 0))
  free_label y = rw y

  -- all tests together are those by the entry
  pub quick_so : outs_in e < 2 → length_in h ≡ 1 + (count + rest_in e) → Sort e → (three_fit h b p vars && byte && more) ≡ (operands_ok e b p vars && rest && free)
  quick_so o n (plainly i m t s) = rw (three_so, three_fit_lem e b p vars o i, rest_byte t, more_none m, free_none s)
  quick_so o n (four_inputs i x u v m t s) = rw (three_so, ← five_fit e b p vars x i u v, rest_byte t, more_inputs m, free_none s) (and_last (three e b p vars) byte _)
  quick_so o n (constant_sort i x m t s) =
      let c : p + 1 + count ≡ p + 2 = omega (arith, i, x) in
      let z : byte_test_by e ≡ 0 = rw (some_op, t) in
      rw (three_so, three_fit_lem e b p vars o (omega (arith, i)), byte_none z, more_constant m, constant_test b (p + 1 + count) e few t, c, free_none s)
      (and_middle (operands_ok e b p vars) (ltb (low_first b (p + 2) 8) (2 ^ 32)))
  quick_so o n (labelled i m (inl t) r s) =
      let l : p + length_in h - 1 ≡ p + (count + rest_in e) = omega (arith, n) in
      let c : p + 1 + count ≡ p + (count + rest_in e) = omega (arith, t, r) in
      let z : byte_test_by e ≡ 0 = rw (some_op, t) in
      let L = get_or b (p + (count + rest_in e)) 0 in
      rw (three_so, three_fit_lem e b p vars o i, byte_none z, more_label m, l, label_test b (p + 1 + count) e few t, c, free_label s)
      (and_after (operands_ok e b p vars) true (label_ok L) (not (numbered labels L)) ∙ ap (λ (x : Bool). x && label_ok L && not (numbered labels L)) (and_one (operands_ok e b p vars)))
  quick_so o n (labelled i m (inr t) r s) =
      let l : p + length_in h - 1 ≡ p + (count + rest_in e) = omega (arith, n) in
      let c : p + 1 + count + 1 ≡ p + (count + rest_in e) = omega (arith, t, r) in
      let z : byte_test_by e ≡ 2 = rw (some_op, t) in
      let L = get_or b (p + (count + rest_in e)) 0 in
      let X = at b (p + 1 + count) in
      rw (three_so, three_fit_lem e b p vars o i, byte_there z ∙ byte_so 2 X two_bytes ∙ two_test X, more_label m, l, branch_test b (p + 1 + count) e few t, c, free_label s)
      (and_after (operands_ok e b p vars) (cond_ok X) (label_ok L) (not (numbered labels L)) ∙ ap (λ (x : Bool). x && not (numbered labels L)) (and_assoc (operands_ok e b p vars) (cond_ok X) (label_ok L)))
  quick_so o n (by_number i m t l s) =
      rw (three_so, three_fit_lem e b p vars o i, byte_none t, more_test n m, free_none s) (and_middle (operands_ok e b p vars) rest)

-- the op at a place: the entry and plan of its kind
module _ (b : List ℕ) (p ops : ℕ) (vars labels : List ℕ) (k : ℕ) {e h : ℕ} (its : k ≡ get_or b p 0) (q : e ≡ get_or kind_table k 0) (z : h ≡ plan_of e) where
  its_plan : Plan e h
  its_plan = subst (λ (x : ℕ). Plan e x) (sym z) (plan k q)

  abbrev passes : Bool
  passes = op_passes e b p ops vars labels

  -- no op stands there
  none_stands : no_op e ≡ true → op_stands e b p ≡ false
  none_stands n = go (no_op_so k q n)
    where
      go : (is_known (role_no (role_in e)) ≡ false) ⊎ (k ≡ 1) → op_stands e b p ≡ false
      go (inl y) = rw y
      go (inr y) = rw (eq-eqb (get_or b p 0) 1 (sym its ∙ y)) (and_none (is_known (role_no (role_in e)) && not (leb (length b - p) (outs_in e + ins_in e + rest_in e))))

  pub length_is : {n : ℕ} → n ≡ length_by e → n ≡ length_in h
  length_is w = w ∙ sym its_plan.length_so

  -- the byte that is tested, by a table
  pub byte_is : {table : List ℕ} {a i : ℕ} {r : Bool} → table ≡ refusal_table → a ≡ byte_ask_in h → i ≡ byte_at_in h → get_or b (p + i) 0 < 256 → r ≡ eqb (bit_and (get_or table (get_or b (p + i) 0) 0) a) 0
      → r ≡ byte_ok (byte_test_by e) (get_or b (p + byte_at_in h) 0)
  byte_is {i = i} z w u m r =
      byte_refused z its_plan.byte_few (w ∙ its_plan.byte_ask) m r ∙ ap (λ (i : ℕ). byte_ok (byte_test_by e) (get_or b (p + i) 0)) u

  length_so : no_op e ≡ false → length_in h ≡ 1 + (outs_in e + ins_in e + rest_in e)
  length_so n = its_plan.length_so ∙ rw n

  pub fails_short : length b - p < length_in h → false ≡ passes
  fails_short l = go (tell (no_op e))
    where
      go : (no_op e ≡ true) ⊎ (no_op e ≡ false) → false ≡ passes
      go (inl n) = rw (none_stands n)
      go (inr n) = rw (le-leb (length b - p) (outs_in e + ins_in e + rest_in e) (omega (arith, l, length_so n))) (sym (ap (λ (x : Bool). x && not (eqb (get_or b p 0) 1) && op_ok e b p ops vars labels) (and_none (is_known (role_no (role_in e))))))

  pub fails_late : max_ops ≤ ops → false ≡ passes
  fails_late l = rw (le-ltb ops max_ops l) (sym (and_none (op_stands e b p)))

  -- an op stands there, whole
  module _ (l : length_in h ≤ length b - p) (here : p < length b) (is_op : no_op e ≡ false) where
    op : Sorted k e
    op = sorted k q is_op

    stands_here : op_stands e b p ≡ true
    stands_here = rw (op.is_known, lt-leb (length b - p) (outs_in e + ins_in e + rest_in e) (omega (arith, l, length_so is_op)), sym (ap (λ (x : ℕ). eqb x 1) its) ∙ op.not_one)

    first_in : first_at_in h < length_in h
    first_in = go (tell (ltb 0 (ins_in e)))
      where
        go : (ltb 0 (ins_in e) ≡ true) ⊎ (ltb 0 (ins_in e) ≡ false) → first_at_in h < length_in h
        go (inl y) = let a : in_at_by e (outs_in e) ≡ 1 + outs_in e = rw y in omega (arith, its_plan.first_at, a, length_so is_op, ltb-true 0 (ins_in e) y)
        go (inr y) = let a : in_at_by e (outs_in e) ≡ 1 = rw y in omega (arith, its_plan.first_at, a, length_so is_op, op.has_byte)

    second_in : second_at_in h < length_in h
    second_in = go (tell (ltb 0 (ins_in e))) (tell (ltb 1 (ins_in e)))
      where
        go : (ltb 0 (ins_in e) ≡ true) ⊎ (ltb 0 (ins_in e) ≡ false) → (ltb 1 (ins_in e) ≡ true) ⊎ (ltb 1 (ins_in e) ≡ false) → second_at_in h < length_in h
        go (inl y) (inl x) = let a : in_at_by e (second_by e) ≡ 1 + suc (outs_in e) = rw (y, x) in omega (arith, its_plan.second_at, a, length_so is_op, ltb-true 1 (ins_in e) x)
        go (inl y) (inr x) = let a : in_at_by e (second_by e) ≡ 1 + outs_in e = rw (y, x) in omega (arith, its_plan.second_at, a, length_so is_op, ltb-true 0 (ins_in e) y)
        go (inr y) x = let a : in_at_by e (second_by e) ≡ 1 = rw y in omega (arith, its_plan.second_at, a, length_so is_op, op.has_byte)

    byte_in : byte_at_in h < length_in h
    byte_in = go (byte_test_by e) refl op.sort
      where
        at_none : byte_test_by e ≡ 0 → eqb (more_by e) 4 ≡ false → byte_at_in h < length_in h
        at_none y m = let a : byte_at_by e ≡ 0 = rw (y, m) in omega (arith, its_plan.byte_at, a, length_so is_op)

        less : {m : ℕ} → more_by e ≡ m → eqb m 4 ≡ false → eqb (more_by e) 4 ≡ false
        less q z = ap (λ (n : ℕ). eqb n 4) q ∙ z

        go : (t : ℕ) → byte_test_by e ≡ t → Sort e → byte_at_in h < length_in h
        go zero y (by_number i m t l s) =
            let a : byte_at_by e ≡ 1 + (outs_in e + ins_in e) = rw (m, and_none (eqb (byte_test_by e) 0)) in
            omega (arith, its_plan.byte_at, a, length_so is_op, l)
        go zero y (plainly i m t s) = at_none y (less m refl)
        go zero y (four_inputs i x u v m t s) = at_none y (less m refl)
        go zero y (constant_sort i x m t s) = at_none y (less m refl)
        go zero y (labelled i m x r s) = at_none y (less m refl)
        go (suc t) y sort =
            let a : byte_at_by e ≡ 1 + (outs_in e + ins_in e) = rw (y, ne_eqb (suc t) 0 (λ u. omega arith)) in
            let y' : cond (eqb (test_in e) 3) 2 (cond (ltb 1 (test_in e) && ltb (test_in e) 8) (test_in e) 0) ≡ suc t = rw is_op at y in
            let r : 1 ≤ asks_for (test_in e) = tested (test_in e) (omega arith) (λ u. omega (arith, sym y' ∙ u)) in
            omega (arith, its_plan.byte_at, a, length_so is_op, r, asks_few k q)

    more_in_lem : (t : ℕ) → more_in h ≡ t → Sort e → (t ≡ 3 → 5 < length_in h) × (t ≡ 1 → 10 ≤ length_in h)
    more_in_lem t m (plainly i y x s) = let y' = its_plan.more_so ∙ y in ((λ u. absurd (omega (arith, y', m, u))), (λ u. absurd (omega (arith, y', m, u))))
    more_in_lem t m (four_inputs i x u v y z s) = let y' = its_plan.more_so ∙ y in ((λ w. omega (arith, length_so is_op, i, x)), (λ w. absurd (omega (arith, y', m, w))))
    more_in_lem t m (constant_sort i x y u s) =
        let y' = its_plan.more_so ∙ y in
        let r : asks_for (test_in e) ≡ 8 = ap asks_for u in
        ((λ w. absurd (omega (arith, y', m, w))), (λ w. omega (arith, length_so is_op, i, x, r, asks_few k q)))
    more_in_lem t m (by_number i y x l s) = let y' = its_plan.more_so ∙ y in ((λ u. absurd (omega (arith, y', m, u))), (λ u. absurd (omega (arith, y', m, u))))
    more_in_lem t m (labelled i y x r s) = let y' = its_plan.more_so ∙ y in ((λ u. absurd (omega (arith, y', m, u))), (λ u. absurd (omega (arith, y', m, u))))

    few_asked : Sort e → more_in h < 5
    few_asked (plainly i y x s) = omega (arith, its_plan.more_so, y)
    few_asked (four_inputs i x u v y z s) = omega (arith, its_plan.more_so, y)
    few_asked (constant_sort i x y u s) = omega (arith, its_plan.more_so, y)
    few_asked (labelled i y x r s) = omega (arith, its_plan.more_so, y)
    few_asked (by_number i y x l s) = omega (arith, its_plan.more_so, y)

    placed_op : Placed h b p
    placed_op =
        record {
          whole = omega arith;
          operand = omega (arith, length_so is_op, op.has_byte);
          first = first_in;
          second = second_in;
          byte = byte_in;
          constant = λ m. (more_in_lem 1 m op.sort).1 refl;
          inputs = λ m. (more_in_lem 3 m op.sort).0 refl;
          few = few_asked op.sort;
        }

    alike : ops < max_ops → (three_fit h b p vars && byte_ok (byte_test_by e) (get_or b (p + byte_at_in h) 0) && more_ok h b p vars labels) ≡ passes
    alike few = quick_so b p vars labels its_plan (asks_few k q) is_op op.few_outs (length_so is_op) op.sort ∙ sym (rw (stands_here, lt-ltb ops max_ops few))

  -- no op: no byte passes its test
  module _ (l : length_in h ≤ length b - p) (here : p < length b) (n : no_op e ≡ true) where
    long : length_in h ≡ 15
    long = its_plan.length_so ∙ rw n

    placed_none : Placed h b p
    placed_none =
        let o = no_plan k q n in
        record {
          whole = omega arith;
          operand = omega (arith, long);
          first = omega (arith, long, its_plan.first_at, o.first);
          second = omega (arith, long, its_plan.second_at, o.second);
          byte = omega (arith, long, its_plan.byte_at, o.byte);
          constant = λ m. absurd (omega (arith, its_plan.more_so, o.more, m));
          inputs = λ m. absurd (omega (arith, its_plan.more_so, o.more, m));
          few = omega (arith, its_plan.more_so, o.more);
        }

    none_byte : byte_ok (byte_test_by e) (get_or b (p + byte_at_in h) 0) ≡ false
    none_byte = let t : byte_test_by e ≡ 1 = rw n in ap (λ (t : ℕ). byte_ok t (get_or b (p + byte_at_in h) 0)) t ∙ one_no (get_or b (p + byte_at_in h) 0)

  module _ (l : length_in h ≤ length b - p) (here : p < length b) where
    pub placed : Placed h b p
    placed = go (tell (no_op e))
      where
        go : (no_op e ≡ true) ⊎ (no_op e ≡ false) → Placed h b p
        go (inl n) = placed_none l here n
        go (inr n) = placed_op l here n

    -- the tests of the operands and of the byte, and that it is not one op too many
    abbrev tested_byte : Bool
    tested_byte = byte_ok (byte_test_by e) (get_or b (p + byte_at_in h) 0)

    abbrev tests : Bool
    tests = three_fit h b p vars && tested_byte && ltb ops max_ops

    pub fails_fit : tests ≡ false → false ≡ passes
    fails_fit t = go (tell (no_op e)) (tell (ltb ops max_ops))
      where
        go : (no_op e ≡ true) ⊎ (no_op e ≡ false) → (ltb ops max_ops ≡ true) ⊎ (ltb ops max_ops ≡ false) → false ≡ passes
        go (inl n) y = rw (none_stands n)
        go (inr n) (inr y) = fails_late (ltb-false ops max_ops y)
        go (inr n) (inl y) =
            let t' : (three_fit h b p vars && tested_byte) ≡ false = sym (and_one (three_fit h b p vars && tested_byte)) ∙ (rw y at t) in
            sym (ap (λ (x : Bool). x && more_ok h b p vars labels) t') ∙ alike l here n (ltb-true ops max_ops y)

    pub passes_so : {r : Bool} → tests ≡ true → r ≡ more_ok h b p vars labels → r ≡ passes
    passes_so {r} t m = go (tell (no_op e))
      where
        fit : (three_fit h b p vars && tested_byte) ≡ true
        fit = and_l (three_fit h b p vars && tested_byte) (ltb ops max_ops) t

        go : (no_op e ≡ true) ⊎ (no_op e ≡ false) → r ≡ passes
        go (inl n) = absurd (clash tested_byte (and_r (three_fit h b p vars) tested_byte fit) (none_byte l here n))
        go (inr n) = m ∙ sym (ap (λ (x : Bool). x && more_ok h b p vars labels) fit) ∙ alike l here n (ltb-true ops max_ops (and_r (three_fit h b p vars && tested_byte) (ltb ops max_ops) t))

    -- nothing else is asked
    pub passes_straight : tests ≡ true → more_by e ≡ 0 → true ≡ passes
    unfolding more_ok
    passes_straight t y = passes_so t (rw (its_plan.more_so ∙ y))

    -- an op that passes reads its first operand, if that is not its output: its byte does not speak against it
    pub first_met : (n : no_op e ≡ false) → ops < max_ops → passes ≡ true → is_closing (role_no (role_in e)) ≡ false → outs_in e ≡ 0 → code_at b vars (p + 1) % 32 < 16
    first_met n few y c o =
        let (at_first, asked) = first_read k q z n c o in
        let fit = and_l (three_fit h b p vars) tested_byte (and_l (three_fit h b p vars && tested_byte) (more_ok h b p vars labels) (alike l here n few ∙ y)) in
        let met = and_r (meets (out_ask_in h) (code_at b vars (p + 1))) _ (and_l _ (meets (second_ask_in h) (code_at b vars (p + second_at_in h))) fit) in
        below_16 (first_ask_in h) (code_at b vars (p + 1) % 32) (omega arith) (omega arith) asked
        (ap (λ (i : ℕ). meets (first_ask_in h) (code_at b vars (p + i))) (sym at_first) ∙ met)

    -- its label, if it has one, is below the limit
    pub label_met : (n : no_op e ≡ false) → ops < max_ops → passes ≡ true → more_by e ≡ 2 → get_or b (p + length_in h - 1) 0 < label_count
    unfolding more_ok
    label_met n few y m =
        let all = and_r (three_fit h b p vars && tested_byte) (more_ok h b p vars labels) (alike l here n few ∙ y) in
        let fits : label_fits labels (get_or b (p + length_in h - 1) 0) ≡ true = rw (its_plan.more_so ∙ m) at all in
        ltb-true _ label_count (and_l _ (not (numbered labels (get_or b (p + length_in h - 1) 0))) fits)

-- an op that passes is one
pub some_op : (b : List ℕ) (p ops : ℕ) (vars labels : List ℕ) (k : ℕ) {e : ℕ} → k ≡ get_or b p 0 → e ≡ get_or kind_table k 0 → op_passes e b p ops vars labels ≡ true → no_op e ≡ false
some_op b p ops vars labels k {e} its q y = go (tell (no_op e))
  where
    go : (no_op e ≡ true) ⊎ (no_op e ≡ false) → no_op e ≡ false
    go (inr n) = n
    go (inl n) = absurd (clash (op_stands e b p) (and_l (op_stands e b p) (op_ok e b p ops vars labels) y) (none_stands b p ops vars labels k its q refl n))

-- what the leaves answer, in these terms
module _ {asked asked' code code' : ℕ} {r : Bool} where
  pub met : r ≡ meets asked code → asked ≡ asked' → code ≡ code' → r ≡ meets asked' code'
  met e a c = e ∙ ap₂ meets a c

pub both_so : {a b a' b' : Bool} → a ≡ a' → b ≡ b' → (a && b) ≡ (a' && b')
both_so e f = ap₂ (λ (x y : Bool). x && y) e f

pub code_moved : (b vars : List ℕ) (p : ℕ) {code i j : ℕ} → code ≡ code_at b vars (p + i) → i ≡ j → code ≡ code_at b vars (p + j)
code_moved b vars p e q = e ∙ ap (λ (n : ℕ). code_at b vars (p + n)) q

module _ (h : ℕ) (b : List ℕ) (p : ℕ) (vars labels : List ℕ) {m : ℕ} (e : m ≡ more_in h) where
  pub more_0 : m ≡ 0 → true ≡ more_ok h b p vars labels
  unfolding more_ok
  more_0 y = rw (sym e ∙ y)

  pub more_1 : {r : Bool} → m ≡ 1 → r ≡ ltb (low_first b (p + 2) 8) (2 ^ 32) → r ≡ more_ok h b p vars labels
  unfolding more_ok
  more_1 y f = f ∙ sym (rw (sym e ∙ y))

  pub more_2 : {r : Bool} → m ≡ 2 → r ≡ label_fits labels (get_or b (p + length_in h - 1) 0) → r ≡ more_ok h b p vars labels
  unfolding more_ok
  more_2 y f = f ∙ sym (rw (sym e ∙ y))

  -- a plan asks for one of five things
  module _ (few : more_in h < 5) where
    pub is_3 : m % 2 ≡ 1 → (m ≡ 1 → ⊥) → more_in h ≡ 3
    is_3 x y = omega (arith, e)

    pub more_3 : {r : Bool} → m % 2 ≡ 1 → (m ≡ 1 → ⊥) → r ≡ (meets (first_ask_in h) (code_at b vars (p + 4)) && meets (first_ask_in h) (code_at b vars (p + 5))) → r ≡ more_ok h b p vars labels
    unfolding more_ok
    more_3 x y f = f ∙ sym (rw (is_3 x y))

    pub more_4 : {r : Bool} → m % 2 ≡ 0 → (m ≡ 0 → ⊥) → (m ≡ 2 → ⊥) → r ≡ bytes_pass h b p → r ≡ more_ok h b p vars labels
    unfolding more_ok
    more_4 x y z f = let q : more_in h ≡ 4 = omega (arith, e) in f ∙ sym (rw q)

pub label_by_lem : (labels b : List ℕ) {i j : ℕ} {low r : Bool} → low ≡ ltb (get_or b i 0) label_count → r ≡ numbered labels (get_or b i 0) → i ≡ j → (low && not r) ≡ label_fits labels (get_or b j 0)
label_by_lem labels b l e q = ap₂ (λ (x y : Bool). x && not y) l e ∙ ap (λ (n : ℕ). label_fits labels (get_or b n 0)) q
