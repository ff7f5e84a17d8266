-- One turn of the loop over the declarations. Assumes nothing.
use mathlib.Core.Path.{◌≡◌, refl, sym, ap, ap₂, ◌∙◌, subst, fun_ext}
use mathlib.Core.Bool.{Bool, true, false, cond, not, ◌&&◌, ◌||◌}
use mathlib.Core.List.{List, [], ◌∷◌, ◌++◌, append_assoc}
use mathlib.Core.Logic.{◌⊎◌, inl, inr}
use Prim.Native.Nat.{ℕ, zero, suc, ◌+◌, ◌-◌, ◌*◌, ◌/◌, ◌≤◌, ◌<◌, min}
use native.Mathlib.Omega.{arith}
use lib.Dec.{eqb, ltb, leb, eqb-zero-suc, eqb-suc-suc}
use lib.ListN.{length, get_or, drop, set, replicate, length-set, length-append}
use borrow.Author.Tests.{ltb-true, ltb-false, lt-ltb, leb-true, leb-false, le-ltb, eqb-true, eqb-false, eq-eqb, ne_eqb}
use native.Mathlib.Numerals.{add-one}
use native.Mathlib.Nat.{add-zero, zero-add}
use Rattle.ops.specs.Limits.{max_variables}
use Rattle.theory.specs.Sets.{empty}
use Rattle.theory.proofs.Sets.{and_l, and_r, tell, clash}
use Rattle.ops.specs.Rows.{is_known, Table}
use Rattle.ops.specs.Rows.{known, body_length}
use Rattle.ops.specs.Fields.{kind_of}
use Rattle.block.specs.Checks.{asks, first_broken, refused_or, check_by}
use Rattle.block.specs.Records.{Cut, cons, cut_of, records_of, is_declaration, class_of, type_of, classes_of, declared_types, global_count}
use Rattle.block.specs.Rules.{Seen}
use Rattle.block.specs.Scan.{Stands, codes_in, code_of, Coded, code_for, codes_from, declaration_ok, declares_global, declares_other, declared_rule, Stopped, RefusedBy}
use Rattle.block.proofs.Codes.{coded_more}
use Rattle.block.proofs.Cut.{bytes_more, all_append}
use Rattle.block.proofs.Refusals.{same_place}
use Rattle.block.proofs.Views.{byte, kind_byte}
use Rattle.block.proofs.Steps.{cut_record, record_length, at_short, at_record, at_start}
use Rattle.block.specs.Rules.{all_global, rule3, declared, next}
use Rattle.block.specs.Scan.{record_at, check_at, declared_seen, Declaring}
use Rattle.block.specs.Checks.{Verdict, Accepted, Refused}
use Rattle.block.specs.declared.Refusal.{Refusal}
use Rattle.std.specs.Prelude.{Err}
use Rattle.ops.specs.Lawful.{LawfulTable}
use Rattle.ops.proofs.Plans.{not_so}

pub last_false : (a b : Bool) → b ≡ false → false ≡ (a && b)
last_false true b h = sym h
last_false false b h = refl

pub only : (a : Bool) → a ≡ (a && true)
only true = refl
only false = refl

-- the globals come first: all are globals exactly when as many are as there are variables
count_all : (cs : List ℕ) → eqb (global_count cs) (length cs) ≡ all_global cs
count_all [] = refl
count_all (c ∷ cs) = go (eqb c 0) (count_all cs)
  where
    go : (b : Bool) → eqb (global_count cs) (length cs) ≡ all_global cs → eqb (cond b (suc (global_count cs)) 0) (suc (length cs)) ≡ (b && all_global cs)
    go true ih = eqb-suc-suc (global_count cs) (length cs) ∙ ih
    go false ih = eqb-zero-suc (length cs)

count_more : (cs : List ℕ) → all_global cs ≡ true → global_count (cs ++ (0 ∷ [])) ≡ suc (global_count cs)
count_more [] h = refl
count_more (c ∷ cs) h = rw (and_l (eqb c 0) (all_global cs) h) (ap suc (count_more cs (and_r (eqb c 0) (all_global cs) h)))

count_other : (cs : List ℕ) (c : ℕ) → eqb c 0 ≡ false → global_count (cs ++ (c ∷ [])) ≡ global_count cs
count_other [] c h = rw h
count_other (d ∷ cs) c h = go (eqb d 0) (count_other cs c h)
  where
    go : (b : Bool) → global_count (cs ++ (c ∷ [])) ≡ global_count cs → cond b (suc (global_count (cs ++ (c ∷ [])))) 0 ≡ cond b (suc (global_count cs)) 0
    go true ih = ap suc ih
    go false ih = refl

classes_append : (ds : List (List ℕ)) (d : List ℕ) → classes_of (ds ++ (d ∷ [])) ≡ classes_of ds ++ (class_of d ∷ [])
classes_append [] d = refl
classes_append (x ∷ ds) d = ap (λ (q : List ℕ). class_of x ∷ q) (classes_append ds d)

types_append : (ds : List (List ℕ)) (d : List ℕ) → declared_types (ds ++ (d ∷ [])) ≡ declared_types ds ++ (type_of d ∷ [])
types_append [] d = refl
types_append (x ∷ ds) d = ap (λ (q : List ℕ). type_of x ∷ q) (types_append ds d)

pub types_length : (ds : List (List ℕ)) → length (declared_types ds) ≡ length ds
types_length [] = refl
types_length (d ∷ ds) = ap suc (types_length ds)

pub classes_length : (ds : List (List ℕ)) → length (classes_of ds) ≡ length ds
classes_length [] = refl
classes_length (d ∷ ds) = ap suc (classes_length ds)

pub declaring_start : (T : Table) (b vars : List ℕ) → Declaring T b vars vars 0 0 0
unfolding codes_from
declaring_start T b vars =
    record {
      before = [];
      goes_on = sym (at_start T b);
      records_are = refl;
      all_declared = tt;
      count = refl;
      globals_are = refl;
      place_is = refl;
      spans = refl;
      reached = omega arith;
      few = omega arith;
      vars_are = refl;
      coded = λ z. record { codes_are = ap codes_in z ∙ fun_ext (λ v. all 256 v ∙ sym (none v)); types_small = λ v. omega arith; inside = λ v h. refl };
      long_vars = refl;
    }
  where
    none : (v : ℕ) → code_of [] [] empty v ≡ 15
    none v = rw (le-ltb v 0 (omega arith))

    all : (m v : ℕ) → get_or {A = ℕ} (replicate m 15) v 15 ≡ 15
    all zero v = refl
    all (suc m) zero = refl
    all (suc m) (suc v) = all m v

-- the byte of one variable more
codes_append : (ds : List (List ℕ)) (d : List ℕ) (i : ℕ) (vars : List ℕ) → codes_from i vars (ds ++ (d ∷ [])) ≡ set (codes_from i vars ds) (i + length ds) (code_for (class_of d) (type_of d))
unfolding codes_from
codes_append [] d i vars = rw (add-zero i)
codes_append (x ∷ ds) d i vars =
    let e : suc i + length ds ≡ i + suc (length ds) = omega arith in
    codes_append ds d (suc i) (set vars i (code_for (class_of x) (type_of x)))
    ∙ ap (λ (n : ℕ). set (codes_from (suc i) (set vars i (code_for (class_of x) (type_of x))) ds) n (code_for (class_of d) (type_of d))) e

module _ {T : Table} (law : LawfulTable T) {b vars₀ vars : List ℕ} {p n globals : ℕ} (d : Declaring T b vars₀ vars p n globals) (h : p < length b) (k : get_or b p 0 ≡ 1) where
  abbrev classes : List ℕ
  classes = classes_of d.before

  abbrev types : List ℕ
  types = declared_types d.before

  body : body_length T (get_or b p 0) ≡ 2
  body = ap (body_length T) k ∙ law.declared_body

  is_known_lem : known T (get_or b p 0) ≡ true
  is_known_lem = ap (known T) k ∙ ap is_known law.declaring

  pub declaring_short : length b - p < 3 → Refused 1 p ≡ check_by T b
  declaring_short l = sym (at_short T b p h (declared_seen classes types) is_known_lem (omega (arith, body))) ∙ d.goes_on

  module _ (l : 3 ≤ length b - p) where
    within : p + suc (body_length T (get_or b p 0)) ≤ length b
    within = omega (arith, body)

    stands : Stands T b p (get_or b p 0)
    stands = record { its_kind = refl; whole = within }

    kind : is_declaration (record_at T b p) ≡ true
    kind = eq-eqb (kind_of (record_at T b p)) 0x01 (kind_byte stands ∙ k)

    class : class_of (record_at T b p) ≡ get_or b (p + 1) 0
    class = byte stands 1 (omega (arith, body))

    type : type_of (record_at T b p) ≡ get_or b (p + 2) 0
    type = byte stands 2 (omega (arith, body))

    abbrev met : Bool
    met = declaration_ok (get_or b (p + 1) 0) (get_or b (p + 2) 0) globals n

    -- the byte of the variable that is declared
    abbrev code : ℕ
    code = code_for (get_or b (p + 1) 0) (get_or b (p + 2) 0)

    lc : length classes ≡ n
    lc = classes_length d.before ∙ d.count

    lt : length types ≡ n
    lt = types_length d.before ∙ d.count

    rule_3 : rule3 (declared_seen classes types) (record_at T b p) ≡ met
    unfolding rule3 declaration_ok
    rule_3 = let all : all_global classes ≡ eqb globals n = sym (count_all classes) ∙ ap₂ eqb (sym d.globals_are) lc in rw (class, type, all, lc)

    turn : refused_or (first_broken (asks 3 met ∷ [])) p (check_at T (declared (declared_seen classes types) (record_at T b p)) b (p + 3)) ≡ check_by T b
    unfolding next
    turn =
        let e = at_record T b p h (declared_seen classes types) is_known_lem within in
        let q : p + suc (body_length T (get_or b p 0)) ≡ p + 3 = omega (arith, body) in
        rw (← rule_3) (sym (rw (kind, q) at e) ∙ d.goes_on)

    pub declaring_refused : met ≡ false → Refused 3 p ≡ check_by T b
    unfolding first_broken
    declaring_refused t = rw t at turn

    module _ (t : met ≡ true) where
      few_more : n < max_variables
      unfolding declaration_ok
      few_more =
          ltb-true n max_variables
          (and_r (leb (get_or b (p + 1) 0) 2 && leb (get_or b (p + 2) 0) 1 && (not (eqb (get_or b (p + 1) 0) 0) || eqb globals n)) (ltb n max_variables) t)

      global_test : (not (eqb (get_or b (p + 1) 0) 0) || eqb globals n) ≡ true
      unfolding declaration_ok
      global_test =
          and_r (leb (get_or b (p + 1) 0) 2 && leb (get_or b (p + 2) 0) 1) (not (eqb (get_or b (p + 1) 0) 0) || eqb globals n)
          (and_l (leb (get_or b (p + 1) 0) 2 && leb (get_or b (p + 2) 0) 1 && (not (eqb (get_or b (p + 1) 0) 0) || eqb globals n)) (ltb n max_variables) t)

      pub type_low : get_or b (p + 2) 0 < 2
      unfolding declaration_ok
      type_low =
          let e : leb (get_or b (p + 2) 0) 1 ≡ true =
          and_r (leb (get_or b (p + 1) 0) 2) (leb (get_or b (p + 2) 0) 1)
          (and_l (leb (get_or b (p + 1) 0) 2 && leb (get_or b (p + 2) 0) 1) (not (eqb (get_or b (p + 1) 0) 0) || eqb globals n)
          (and_l (leb (get_or b (p + 1) 0) 2 && leb (get_or b (p + 2) 0) 1 && (not (eqb (get_or b (p + 1) 0) 0) || eqb globals n)) (ltb n max_variables) t)) in
          omega (arith, leb-true (get_or b (p + 2) 0) 1 e)

      abbrev more_before : List (List ℕ)
      more_before = d.before ++ (record_at T b p ∷ [])

      classes_more : classes_of more_before ≡ classes ++ (get_or b (p + 1) 0 ∷ [])
      classes_more = classes_append d.before (record_at T b p) ∙ ap (λ (y : ℕ). classes ++ (y ∷ [])) class

      types_more : declared_types more_before ≡ types ++ (get_or b (p + 2) 0 ∷ [])
      types_more = types_append d.before (record_at T b p) ∙ ap (λ (y : ℕ). types ++ (y ∷ [])) type

      seen_more : declared (declared_seen classes types) (record_at T b p) ≡ declared_seen (classes_of more_before) (declared_types more_before)
      seen_more = rw (classes_more, types_more, class, type)

      goes : check_at T (declared_seen (classes_of more_before) (declared_types more_before)) b (p + 3) ≡ check_by T b
      unfolding first_broken
      goes = ap (λ (s : Seen). check_at T s b (p + 3)) (sym seen_more) ∙ (rw t at turn)

      records_more : records_of T b ≡ more_before ++ (cut_of T (drop (p + 3) b)).records
      records_more =
          let q : p + suc (body_length T (get_or b p 0)) ≡ p + 3 = omega (arith, body) in
          let c : cut_of T (drop p b) ≡ cons (record_at T b p) (cut_of T (drop (p + 3) b)) =
          cut_record T b p h is_known_lem within ∙ ap (λ (m : ℕ). cons (record_at T b p) (cut_of T (drop m b))) q in
          d.records_are ∙ ap (λ (x : Cut). d.before ++ x.records) c
          ∙ sym (append_assoc d.before (record_at T b p ∷ []) (cut_of T (drop (p + 3) b)).records)

      more : (g : ℕ) → g ≡ global_count (classes ++ (get_or b (p + 1) 0 ∷ [])) → Declaring T b vars₀ (set vars n code) (p + 3) (n + 1) g
      more g e =
          record {
            before = more_before;
            goes_on = goes;
            records_are = records_more;
            all_declared = all_append (λ r. is_declaration r ≡ true) d.before (record_at T b p ∷ []) d.all_declared (kind, tt);
            count = length-append d.before (record_at T b p ∷ []) ∙ ap (λ (m : ℕ). m + 1) d.count;
            globals_are = e ∙ ap global_count (sym classes_more);
            place_is = omega (arith, d.place_is);
            spans = omega (arith, bytes_more d.before (record_at T b p), d.spans, record_length T b p h within, body);
            reached = omega (arith, within, body);
            few = omega (arith, few_more);
            vars_are =
                ap₂ (λ (vs : List ℕ) (m : ℕ). set vs m code) d.vars_are (sym (zero-add (length d.before) ∙ d.count))
                ∙ ap₂ (λ (c t : ℕ). set (codes_from 0 vars₀ d.before) (0 + length d.before) (code_for c t)) (sym class) (sym type)
                ∙ sym (codes_append d.before (record_at T b p) 0 vars₀);
            coded = λ z.
                subst (λ (cs : List ℕ). Coded (set vars n code) cs (declared_types more_before) empty) (sym classes_more)
                (subst (λ (ts : List ℕ). Coded (set vars n code) (classes ++ (get_or b (p + 1) 0 ∷ [])) ts empty) (sym types_more)
                (coded_more (d.coded z) lc lt (omega (arith, few_more, d.long_vars, ap length z)) (get_or b (p + 1) 0) (get_or b (p + 2) 0) (omega (arith, type_low))));
            long_vars = length-set vars n code ∙ d.long_vars;
          }

      -- a global
      pub declaring_global : get_or b (p + 1) 0 ≡ 0 → Declaring T b vars₀ (set vars n code) (p + 3) (n + 1) (globals + 1)
      declaring_global z =
          let all : all_global classes ≡ true = sym (count_all classes) ∙ ap₂ eqb (sym d.globals_are) lc ∙ (rw (eq-eqb (get_or b (p + 1) 0) 0 z) at global_test) in
          more (globals + 1)
          (add-one globals ∙ ap suc d.globals_are ∙ sym (count_more classes all) ∙ ap (λ (c : ℕ). global_count (classes ++ (c ∷ []))) (sym z))

      -- a temporary
      pub declaring_other : (get_or b (p + 1) 0 ≡ 0 → ⊥) → Declaring T b vars₀ (set vars n code) (p + 3) (n + 1) globals
      declaring_other z = more globals (d.globals_are ∙ sym (count_other classes (get_or b (p + 1) 0) (ne_eqb (get_or b (p + 1) 0) 0 z)))

-- no room for one more: fewer than three bytes are left, or there are max_variables variables
pub no_room : (b : List ℕ) (p n globals : ℕ) → p ≡ 3 * n → (max_variables ≤ n) ⊎ (length b / 3 ≤ n) → Stopped b p n globals
unfolding declaration_ok
no_room b p n globals e (inl l) h k w = rw (le-ltb n max_variables l) (sym (last_false (leb (get_or b (p + 1) 0) 2 && leb (get_or b (p + 2) 0) 1 && (not (eqb (get_or b (p + 1) 0) 0) || eqb globals n)) false refl))
no_room b p n globals e (inr l) h k w = absurd (omega arith)

-- the answer at the place where they end
module _ {T : Table} (law : LawfulTable T) {b vars₀ vars : List ℕ} {p n globals : ℕ} (d : Declaring T b vars₀ vars p n globals) (s : Stopped b p n globals) where
  pub refuses : {verdict : Verdict} {refusal : Refusal} → verdict ≡ refused_or (declared_rule b p) p Accepted → verdict ≡ Err refusal → RefusedBy T b vars₀ vars refusal n globals
  refuses {verdict} {refusal} e q = go (tell (leb (length b) p)) (tell (eqb (get_or b p 0) 1)) (tell (ltb (length b - p) 3))
    where
      refused : {m : ℕ} → verdict ≡ Refused m p → Refused m p ≡ check_by T b → RefusedBy T b vars₀ vars refusal n globals
      refused {m} z r =
          let same : ◌≡◌ {A = Verdict} (Err refusal) (Refused m p) = sym q ∙ z in
          let place : refusal.place ≡ p = same_place same in
          record { declaring = rw place d; refused = same ∙ r }

      go : (leb (length b) p ≡ true) ⊎ (leb (length b) p ≡ false) → (eqb (get_or b p 0) 1 ≡ true) ⊎ (eqb (get_or b p 0) 1 ≡ false) → (ltb (length b - p) 3 ≡ true) ⊎ (ltb (length b - p) 3 ≡ false)
          → RefusedBy T b vars₀ vars refusal n globals
      go (inl x) y z = let u : ◌≡◌ {A = Verdict} (Err refusal) Accepted = sym q ∙ e ∙ rw x in cc
      go (inr x) (inr y) z = let u : ◌≡◌ {A = Verdict} (Err refusal) Accepted = sym q ∙ e ∙ rw (x, y) in cc
      go (inr x) (inl y) (inl z) =
          refused (e ∙ rw (x, y, z)) (declaring_short law d (leb-false (length b) p x) (eqb-true (get_or b p 0) 1 y) (ltb-true (length b - p) 3 z))
      go (inr x) (inl y) (inr z) =
          let h = leb-false (length b) p x in
          let k = eqb-true (get_or b p 0) 1 y in
          let l = ltb-false (length b - p) 3 z in
          refused (e ∙ rw (x, y, z)) (declaring_refused law d h k l (s h k l))

-- one more declaration, in the loop's terms
module _ {T : Table} (law : LawfulTable T) {b vars₀ vars : List ℕ} {n globals : ℕ} (d : Declaring T b vars₀ vars (3 * n) n globals) (h : n < length b / 3) (k : get_or b (3 * n) 0 ≡ 1) {r : Bool}
    (e : r ≡ declaration_ok (get_or b (3 * n + 1) 0) (get_or b (3 * n + 2) 0) globals n) (t : r ≡ true) where
  next_place : {m g : ℕ} {vars' : List ℕ} → Declaring T b vars₀ vars' (3 * n + 3) m g → Declaring T b vars₀ vars' (3 * (n + 1)) m g
  next_place {m} {g} {vars'} x = let q : 3 * n + 3 ≡ 3 * (n + 1) = omega arith in subst (λ (p : ℕ). Declaring T b vars₀ vars' p m g) q x

  pub low_type : get_or b (3 * n + 2) 0 < 2
  low_type = type_low law d (omega arith) k (omega arith) (sym e ∙ t)

  pub again_global : {g x : ℕ} → x ≡ code_for (get_or b (3 * n + 1) 0) (get_or b (3 * n + 2) 0) → get_or b (3 * n + 1) 0 ≡ 0 → g ≡ globals + 1 → Declaring T b vars₀ (set vars n x) (3 * (n + 1)) (n + 1) g
  again_global c z q = rw (q, c) (next_place (declaring_global law d (omega arith) k (omega arith) (sym e ∙ t) z))

  pub again_other : {g x : ℕ} → x ≡ code_for (get_or b (3 * n + 1) 0) (get_or b (3 * n + 2) 0) → (get_or b (3 * n + 1) 0 ≡ 0 → ⊥) → g ≡ globals → Declaring T b vars₀ (set vars n x) (3 * (n + 1)) (n + 1) g
  again_other c z q = rw (q, c) (next_place (declaring_other law d (omega arith) k (omega arith) (sym e ∙ t) z))

-- a good declaration, by the tests of the two loops
module _ (kind class type n : ℕ) (few : n < max_variables) where
  global_ok : declares_global kind class type ≡ true → declaration_ok class type n n ≡ true
  unfolding declaration_ok
  global_ok t =
      let a = and_l (eqb kind 1 && eqb class 0) (leb type 1) t in
      let z = eqb-true class 0 (and_r (eqb kind 1) (eqb class 0) a) in
      rw (z, and_r (eqb kind 1 && eqb class 0) (leb type 1) t, eq-eqb n n refl, lt-ltb n max_variables few)

  other_ok : (globals : ℕ) → declares_other kind class type ≡ true → declaration_ok class type globals n ≡ true
  unfolding declaration_ok
  other_ok globals t =
      let a = and_l (eqb kind 1 && not (eqb class 0) && leb class 2) (leb type 1) t in
      let b = and_l (eqb kind 1 && not (eqb class 0)) (leb class 2) a in
      rw (and_r (eqb kind 1 && not (eqb class 0)) (leb class 2) a, and_r (eqb kind 1 && not (eqb class 0) && leb class 2) (leb type 1) t, and_r (eqb kind 1) (not (eqb class 0)) b, lt-ltb n max_variables few)

pub global_kind : (kind class type : ℕ) → declares_global kind class type ≡ true → (kind ≡ 1) × (class ≡ 0) × (type < 2)
global_kind kind class type t =
    let a = and_l (eqb kind 1 && eqb class 0) (leb type 1) t in
    (eqb-true kind 1 (and_l (eqb kind 1) (eqb class 0) a), eqb-true class 0 (and_r (eqb kind 1) (eqb class 0) a), omega (arith, leb-true type 1 (and_r (eqb kind 1 && eqb class 0) (leb type 1) t)))

pub other_kind : (kind class type : ℕ) → declares_other kind class type ≡ true → (kind ≡ 1) × (class ≡ 0 → ⊥) × (type < 2)
other_kind kind class type t =
    let a = and_l (eqb kind 1 && not (eqb class 0) && leb class 2) (leb type 1) t in
    let b = and_l (eqb kind 1 && not (eqb class 0)) (leb class 2) a in
    (eqb-true kind 1 (and_l (eqb kind 1) (not (eqb class 0)) b), eqb-false class 0 (not_so (eqb class 0) (and_r (eqb kind 1) (not (eqb class 0)) b)), omega (arith, leb-true type 1 (and_r (eqb kind 1 && not (eqb class 0) && leb class 2) (leb type 1) t)))

-- one turn of each loop
pub next_global : {T : Table} (law : LawfulTable T) {b vars₀ vars : List ℕ} {n x : ℕ} {r : Bool} → Declaring T b vars₀ vars (3 * n) n n → n < length b / 3 → n < max_variables
    → r ≡ declares_global (get_or b (3 * n) 0) (get_or b (3 * n + 1) 0) (get_or b (3 * n + 2) 0) → r ≡ true → x ≡ code_for 0 (get_or b (3 * n + 2) 0) → Declaring T b vars₀ (set vars n x) (3 * (n + 1)) (n + 1) (n + 1)
next_global law {b} {n = n} d h l e t c =
    let k = global_kind (get_or b (3 * n) 0) (get_or b (3 * n + 1) 0) (get_or b (3 * n + 2) 0) (sym e ∙ t) in
    again_global law d h k.0 refl (global_ok (get_or b (3 * n) 0) (get_or b (3 * n + 1) 0) (get_or b (3 * n + 2) 0) n l (sym e ∙ t)) (c ∙ ap (λ (z : ℕ). code_for z (get_or b (3 * n + 2) 0)) (sym k.1)) k.1 refl

pub next_other : {T : Table} (law : LawfulTable T) {b vars₀ vars : List ℕ} {n globals x : ℕ} {r : Bool} → Declaring T b vars₀ vars (3 * n) n globals → n < length b / 3 → n < max_variables
    → r ≡ declares_other (get_or b (3 * n) 0) (get_or b (3 * n + 1) 0) (get_or b (3 * n + 2) 0) → r ≡ true → x ≡ code_for (get_or b (3 * n + 1) 0) (get_or b (3 * n + 2) 0)
    → Declaring T b vars₀ (set vars n x) (3 * (n + 1)) (n + 1) globals
next_other law {b} {n = n} {globals = globals} d h l e t c =
    let k = other_kind (get_or b (3 * n) 0) (get_or b (3 * n + 1) 0) (get_or b (3 * n + 2) 0) (sym e ∙ t) in
    again_other law d h k.0 refl (other_ok (get_or b (3 * n) 0) (get_or b (3 * n + 1) 0) (get_or b (3 * n + 2) 0) n l globals (sym e ∙ t)) c k.1 refl

-- where the second loop stops, no good declaration stands
pub stops_at : (b : List ℕ) (n globals : ℕ) {r : Bool} → r ≡ declares_other (get_or b (3 * n) 0) (get_or b (3 * n + 1) 0) (get_or b (3 * n + 2) 0) → r ≡ false
    → (n ≡ globals → declares_global (get_or b (3 * n) 0) (get_or b (3 * n + 1) 0) (get_or b (3 * n + 2) 0) ≡ false) → Stopped b (3 * n) n globals
unfolding declaration_ok
stops_at b n globals {r} e t g h k l = go (tell (eqb class 0)) (tell (leb class 2)) (tell (leb type 1)) (tell (eqb globals n))
  where
    class : ℕ
    class = get_or b (3 * n + 1) 0

    type : ℕ
    type = get_or b (3 * n + 2) 0

    other : declares_other (get_or b (3 * n) 0) (get_or b (3 * n + 1) 0) (get_or b (3 * n + 2) 0) ≡ false
    other = sym e ∙ t

    go : (eqb (get_or b (3 * n + 1) 0) 0 ≡ true) ⊎ (eqb (get_or b (3 * n + 1) 0) 0 ≡ false) → (leb (get_or b (3 * n + 1) 0) 2 ≡ true) ⊎ (leb (get_or b (3 * n + 1) 0) 2 ≡ false)
        → (leb (get_or b (3 * n + 2) 0) 1 ≡ true) ⊎ (leb (get_or b (3 * n + 2) 0) 1 ≡ false) → (eqb globals n ≡ true) ⊎ (eqb globals n ≡ false)
        → (leb (get_or b (3 * n + 1) 0) 2 && leb (get_or b (3 * n + 2) 0) 1 && (not (eqb (get_or b (3 * n + 1) 0) 0) || eqb globals n) && ltb n max_variables) ≡ false
    go x (inr y) z w = rw y
    go x (inl y) (inr z) w = rw (y, z)
    go (inl x) (inl y) (inl z) (inr w) = rw (y, z, x, w)
    go (inr x) (inl y) (inl z) w = absurd (clash _ (rw (eq-eqb (get_or b (3 * n) 0) 1 k, x, y, z) refl) other)
    go (inl x) (inl y) (inl z) (inl w) = absurd (clash _ (rw (eq-eqb (get_or b (3 * n) 0) 1 k, x, z) refl) (g (sym (eqb-true globals n w))))

pub no_more_room : (b : List ℕ) (n globals : ℕ) {limit : ℕ} → limit ≡ min (length b / 3) max_variables → limit ≤ n → Stopped b (3 * n) n globals
no_more_room b n globals e l = go (tell (leb max_variables n))
  where
    go : (leb max_variables n ≡ true) ⊎ (leb max_variables n ≡ false) → Stopped b (3 * n) n globals
    go (inl x) = no_room b (3 * n) n globals refl (inl (leb-true max_variables n x))
    go (inr x) = no_room b (3 * n) n globals refl (inr (omega (arith, leb-false max_variables n x, e, l)))
