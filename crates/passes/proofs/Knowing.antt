-- What fold knows, and what it leaves of an op. Assumes nothing.
use mathlib.Core.Path.{◌≡◌, refl, sym, ap, ap₂, ◌∙◌, subst, fun_ext}
use mathlib.Core.Bool.{Bool, true, false, cond, not, ◌&&◌, ◌||◌, true≢false}
use mathlib.Core.Logic.{◌⊎◌, inl, inr}
use Rattle.std.specs.Prelude.{Option, None, Some, option_map, option_and_then}
use mathlib.Core.List.{List, [], ◌∷◌}
use Prim.Native.Nat.{ℕ, zero, suc, ◌+◌, ◌-◌, ◌≤◌, ◌<◌}
use native.Mathlib.Omega.{arith}
use lib.Arith.{lt_of_le-ne}
use lib.Dec.{eqb, ltb}
use lib.ListN.{get_or}
use borrow.Author.Tests.{ltb-true, lt-ltb, le-ltb}
use Rattle.theory.specs.Fold.{Known, nothing, put, learned, given, gain, all_known, tried, base_rule}
use Rattle.theory.specs.Machine.{View, calc, access, label, flow, computes as stated, inputs, outputs, pure, closes, reads, writes}
use Rattle.theory.specs.Sets.{upd, Vars, empty, has, without}
use Rattle.theory.proofs.Sets.{and_l, and_r, tell, clash}
use Rattle.theory.proofs.Views.{no_some}
use Rattle.memory.specs.Bytes.{low_first}
use Rattle.ops.specs.Rows.{constant, computing, role_no, Row, outs_in, ins_in, role_in, number_of, is_pure, is_computing, is_closing, at}
use Rattle.ops.specs.Kinds.{one, document01}
use Rattle.ops.specs.Table.{kind_table, row_of}
use Rattle.ops.specs.Rows.{role_of}
use Rattle.ops.specs.Ops.{Fault, view_of, tcg}
use Rattle.ops.specs.Fields.{row_at, bytes_at}
use Rattle.ops.proofs.Entry.{digits}
use Rattle.ops.proofs.Folding.{const_view, computing_role}
use Rattle.ops.proofs.Traits.{closes_at, pure_at, outputs_at}
use Rattle.block.specs.Scan.{record_at, Stands, SetAt, marked}
use Rattle.block.proofs.MarkSets.{at_place}
use Rattle.block.proofs.Operands.{each_by}
use Rattle.block.proofs.Views.{body_from_lem, byte, row_at_lem, constant_view_lem, pure_view_lem}
use Rattle.runs.specs.Evaluates.{Computed, inputs_at, states_at, env_of}
use Rattle.runs.proofs.Roles.{role_by}
use Rattle.runs.proofs.Variables.{env_alone}
use Rattle.ops.proofs.Table.{number_of_lem}
use Rattle.ops.proofs.Document01.{lawful}
use Rattle.ops.specs.Folds.{foldable_row, folding}
use Rattle.passes.specs.Knows.{known_of, every_in, stated_by, StatesKnown, Stays, Folds}
use Rattle.passes.specs.Laid.{Constant}
use Rattle.passes.proofs.Before.{its_role, its_outputs}
use Rattle.passes.proofs.Constants.{computing_folds, one_output_lem}
use Rattle.passes.proofs.Counts.{few_outs, none_else}

-- a variable that is known, with its value
pub put_known : {known known' values values' : List ℕ} {v x : ℕ} → SetAt known v 1 known' → SetAt values v x values'
    → known_of (marked known') values' ≡ upd (known_of (marked known) values) v (Some x)
put_known {known} {known'} {values} {values'} {v} {x} s t =
    fun_ext (λ u. ap₂ (λ (n m : ℕ). cond (eqb n 1) (Some m) None) (at_place s u) (at_place t u) ∙ go (eqb v u) u)
  where
    go : (b : Bool) (u : ℕ) → cond (eqb (cond b 1 (get_or known u 0)) 1) (Some (cond b x (get_or values u 0))) None ≡ cond b (Some x) (known_of (marked known) values u)
    go true u = refl
    go false u = refl

-- one that is known no longer
pub forgotten : {known known' : List ℕ} {v : ℕ} → SetAt known v 0 known' → marked known' ≡ without (marked known) (v ∷ [])
forgotten {known} {known'} {v} s = fun_ext (λ u. ap (λ (n : ℕ). eqb n 1) (at_place s u) ∙ go (eqb v u) u)
  where
    go : (b : Bool) (u : ℕ) → eqb (cond b 0 (get_or known u 0)) 1 ≡ (not (b || false) && marked known u)
    go true u = refl
    go false u = refl

pub none_known : {known : Vars} (values : List ℕ) → known ≡ empty → known_of known values ≡ nothing
none_known values e = ap (λ (l : Vars). known_of l values) e

-- variables that leave the set become unknown
writes_none : (k : Known ℕ) (outs : List ℕ) (v : ℕ) → writes None k outs [] v ≡ cond (has outs v) None (k v)
writes_none k [] v = refl
writes_none k (o ∷ outs) v = writes_none (upd k o None) outs v ∙ go (eqb o v) (has outs v)
  where
    go : (t h : Bool) → cond h None (cond t None (k v)) ≡ cond (t || h) None (k v)
    go true true = refl
    go true false = refl
    go false h = refl

forgets : (known known' : Vars) (values outs : List ℕ) → known' ≡ without known outs → known_of known' values ≡ writes None (known_of known values) outs []
forgets known known' values outs e =
    fun_ext (λ v. ap (λ (l : Vars). cond (l v) (Some (get_or values v 0)) None) e ∙ go (has outs v) (known v) (get_or values v 0) ∙ sym (writes_none (known_of known values) outs v))
  where
    go : (h m : Bool) (x : ℕ) → cond (not h && m) (Some x) None ≡ cond h None (cond m (Some x) None)
    go true m x = refl
    go false m x = refl

-- the loop over the inputs
pub all_each : (l : Vars) (vs : List ℕ) → each_by (λ s v. l v) (λ s. s) 0 vs ≡ every_in vs l
all_each l [] = refl
all_each l (v ∷ vs) = rw (all_each l vs)

-- one or two of them, by the first and the last
pub ends_known : (b : List ℕ) (p n : ℕ) (l : Vars) → 0 < n → n ≤ 2 → (l (get_or b p 0) && l (get_or b (p + n - 1) 0)) ≡ every_in (bytes_at b p n) l
ends_known b p zero l h k = absurd (omega arith)
ends_known b p (suc zero) l h k = let e : p + 1 - 1 ≡ p = omega arith in rw e (go (l (get_or b p 0)))
  where
    go : (t : Bool) → (t && t) ≡ (t && true)
    go true = refl
    go false = refl
ends_known b p (suc (suc zero)) l h k = let e : p + 2 - 1 ≡ suc p = omega arith in rw e (go (l (get_or b p 0)) (l (get_or b (suc p) 0)))
  where
    go : (t u : Bool) → (t && u) ≡ (t && (u && true))
    go true true = refl
    go true false = refl
    go false u = refl
ends_known b p (suc (suc (suc n))) l h k = absurd (omega arith)

-- none, if the first or the last is not
last_known : (b : List ℕ) (p n : ℕ) (l : Vars) → every_in (bytes_at b p (suc n)) l ≡ true → l (get_or b (p + n) 0) ≡ true
last_known b p zero l h = let e : p + 0 ≡ p = omega arith in rw e (and_l (l (get_or b p 0)) true h)
last_known b p (suc n) l h = let e : p + suc n ≡ suc p + n = omega arith in rw e (last_known b (suc p) n l (and_r (l (get_or b p 0)) _ h))

pub ends_unknown : (b : List ℕ) (p n : ℕ) (l : Vars) → 0 < n → (l (get_or b p 0) && l (get_or b (p + n - 1) 0)) ≡ false → every_in (bytes_at b p n) l ≡ false
ends_unknown b p zero l h f = absurd (omega arith)
ends_unknown b p (suc n) l h f = go (tell (every_in (bytes_at b p (suc n)) l))
  where
    last : p + suc n - 1 ≡ p + n
    last = omega arith

    go : (every_in (bytes_at b p (suc n)) l ≡ true) ⊎ (every_in (bytes_at b p (suc n)) l ≡ false) → every_in (bytes_at b p (suc n)) l ≡ false
    go (inr t) = t
    go (inl t) =
        let both : (l (get_or b p 0) && l (get_or b (p + n) 0)) ≡ true = rw (and_l (l (get_or b p 0)) _ t) (last_known b p n l t) in
        absurd (clash _ both (rw last at f))

-- the values of inputs that are all known
inputs_known : (known : Vars) (values xs : List ℕ) → every_in xs known ≡ true → all_known (reads (known_of known values) xs) ≡ Some (reads (λ v. get_or values v 0) xs)
inputs_known known values [] h = refl
inputs_known known values (x ∷ xs) h =
    ap (λ (t : Bool). all_known (cond t (Some (get_or values x 0)) None ∷ reads (known_of known values) xs)) (and_l (known x) (every_in xs known) h)
    ∙ ap (option_map (λ vs. get_or values x 0 ∷ vs)) (inputs_known known values xs (and_r (known x) (every_in xs known) h))

inputs_unknown : (known : Vars) (values xs : List ℕ) → every_in xs known ≡ false → all_known (reads (known_of known values) xs) ≡ None
inputs_unknown known values [] h = absurd (true≢false h)
inputs_unknown known values (x ∷ xs) h = go (known x) h (inputs_unknown known values xs)
  where
    go : (t : Bool) → (t && every_in xs known) ≡ false → (every_in xs known ≡ false → all_known (reads (known_of known values) xs) ≡ None)
        → all_known (cond t (Some (get_or values x 0)) None ∷ reads (known_of known values) xs) ≡ None
    go true e ih = ap (option_map (λ vs. get_or values x 0 ∷ vs)) (ih e)
    go false e ih = refl

-- an op is a pure one that reads something, by its kind's entry
pub computed_at : {b : List ℕ} {p k e : ℕ} → Stands row_of b p k → e ≡ get_or kind_table k 0 → is_computing (role_no (role_in e)) ≡ true → Computed b p k
computed_at {e = e} s q h = record { stands = s; role_is = ap (λ (row : Row). row.role) (digits kind_table q).row ∙ computing_role (role_no (role_in e)) h }

-- what it is known to state
module _ {b : List ℕ} {p k : ℕ} (c : Computed b p k) {e : ℕ} (q : e ≡ get_or kind_table k 0) (known : Vars) (values : List ℕ) {n m : ℕ} {t : Bool}
    (en : n ≡ outs_in e) (em : m ≡ ins_in e) (w : t ≡ every_in (bytes_at b (p + 1 + n) m) known) where
  these : t ≡ every_in (inputs_at b p k) known
  these =
      let z : p + 1 + n ≡ p + 2 = omega (arith, one_output_lem k q c.role_is) in
      w ∙ ap₂ (λ (i j : ℕ). every_in (bytes_at b i j) known) z (em ∙ sym (digits kind_table q).ins)

  stated_is : stated_by (known_of known values) (record_at row_of b p) ≡ option_and_then (states_at b p k) (all_known (reads (known_of known values) (inputs_at b p k)))
  stated_is = rw (ap foldable_row (row_at_lem c.stands) ∙ computing_folds k c.role_is, pure_view_lem c.stands c.role_is)

  pub states_known : {r : Option ℕ} → t ≡ true → states_at b p k (reads (env_of [] values) (inputs_at b p k)) ≡ one r → StatesKnown b p known values r
  states_known h s =
      record { states_so = stated_is ∙ ap (option_and_then (states_at b p k)) (inputs_known known values (inputs_at b p k) (sym these ∙ h)) ∙ ap (λ (env : ℕ → ℕ). states_at b p k (reads env (inputs_at b p k))) (sym (env_alone values)) ∙ s }

  pub unknown_states : t ≡ false → StatesKnown b p known values None
  unknown_states h = record { states_so = stated_is ∙ ap (option_and_then (states_at b p k)) (inputs_unknown known values (inputs_at b p k) (sym these ∙ h)) }

-- no other op is known to state anything
pub others_state : {b : List ℕ} {p k e : ℕ} → Stands row_of b p k → e ≡ get_or kind_table k 0 → (known : Vars) (values : List ℕ) → is_computing (role_no (role_in e)) ≡ false
    → StatesKnown b p known values None
others_state {b} {p} s q known values h = record { states_so = rw (its_role s q, h) }

-- fold's rule, by what is known to be stated
rule_is : (k : Known ℕ) (o : List ℕ) → base_rule (tcg document01) (folding document01) k o ≡ tried (tcg document01) (folding document01) o (stated_by k o)
rule_is k o = go (foldable_row (row_at row_of o)) (option_and_then (stated (view_of document01 o)) (all_known (reads k (inputs (view_of document01 o)))))
  where
    go : (t : Bool) (x : Option (List ℕ)) → cond t (tried (tcg document01) (folding document01) o x) (put o) ≡ tried (tcg document01) (folding document01) o (cond t x None)
    go true x = refl
    go false x = refl

-- an op that is known to state a value
module _ {b : List ℕ} {p : ℕ} (s : Stands row_of b p (get_or b p 0)) {known : Vars} {values : List ℕ} {r : Option ℕ} {x : ℕ} (w : StatesKnown b p known values r) (e : r ≡ Some x) where
  value_so : stated_by (known_of known values) (record_at row_of b p) ≡ Some (x ∷ [])
  value_so = w.states_so ∙ ap one e

  may_fold : foldable_row (row_at row_of (record_at row_of b p)) ≡ true
  may_fold = go (foldable_row (row_at row_of (record_at row_of b p))) (option_and_then (stated (view_of document01 (record_at row_of b p))) (all_known (reads (known_of known values) (inputs (view_of document01 (record_at row_of b p)))))) value_so
    where
      go : (t : Bool) (y : Option (List ℕ)) → cond t y None ≡ Some (x ∷ []) → t ≡ true
      go true y h = refl
      go false y h = no_some h

  pub computes_so : role_of row_of (get_or b p 0) ≡ computing
  computes_so =
      sym (ap (λ (row : Row). row.role) (row_at_lem s)) ∙ computing_role (row_at row_of (record_at row_of b p)).role (and_l (is_computing (row_at row_of (record_at row_of b p)).role) _ may_fold)

  const_shape : view_of document01 ((folding document01).const (record_at row_of b p) x) ≡ calc (at b (p + 1) ∷ []) [] (λ ys. Some (x ∷ []))
  const_shape = go (all_known (reads (known_of known values) (inputs (view_of document01 (record_at row_of b p))))) (rw may_fold at value_so)
    where
      go : (ks : Option (List ℕ)) → option_and_then (stated (view_of document01 (record_at row_of b p))) ks ≡ Some (x ∷ []) → view_of document01 ((folding document01).const (record_at row_of b p) x) ≡ calc (at b (p + 1) ∷ []) [] (λ ys. Some (x ∷ []))
      go None h = no_some h
      go (Some xs) h =
          const_view lawful (record_at row_of b p) xs (x ∷ []) may_fold h ∙ ap (λ (n : ℕ). calc (n ∷ []) [] (λ ys. Some (x ∷ []))) (byte s 1 (body_from_lem computing (get_or b p 0) computes_so))

  pub folds_value : {known' : Vars} {values' : List ℕ} → known_of known' values' ≡ upd (known_of known values) (at b (p + 1)) (Some x) → Folds b p known values known' values' (Some x)
  folds_value u =
      record {
        rule_so = rule_is (known_of known values) (record_at row_of b p) ∙ ap (tried (tcg document01) (folding document01) (record_at row_of b p)) value_so;
        known_so = u ∙ sym (ap (learned (known_of known values)) const_shape);
        constant_so = λ y z. let q : x ≡ y = cc in subst (λ (n : ℕ). Constant b p n ((folding document01).const (record_at row_of b p) n)) q (record { op_is = refl; role_is = computes_so; view_is = const_shape });
      }

-- any other op stays
pub folds_none : {b : List ℕ} {p : ℕ} {known known' : Vars} {values values' : List ℕ} → StatesKnown b p known values None
    → Stays b p known values known' values' → Folds b p known values known' values' None
folds_none {b} {p} {known} {values = values} w u =
    record {
      rule_so = rule_is (known_of known values) (record_at row_of b p) ∙ ap (tried (tcg document01) (folding document01) (record_at row_of b p)) w.states_so;
      known_so = u.known_after;
      constant_so = λ x z. no_some z;
    }

-- an op that states nothing of what is known gives no value
no_gain : (k : Known ℕ) (ins : List ℕ) (f : List ℕ → Option (List ℕ)) → option_and_then f (all_known (reads k ins)) ≡ None → gain ins f ≡ []
no_gain k [] f h = ap given h
no_gain k (i ∷ ins) f h = refl

-- an op that is not pure computes nothing
impure : (w : View ℕ (List ℕ) ℕ Fault) → pure w ≡ false → (ks : Option (List ℕ)) → option_and_then (stated w) ks ≡ None
impure (calc outs ins f) h ks = clash true refl h
impure (access outs ins f) h None = refl
impure (access outs ins f) h (Some xs) = refl
impure (label l) h None = refl
impure (label l) h (Some xs) = refl
impure (flow ins c y) h None = refl
impure (flow ins c y) h (Some xs) = refl

-- what is known after an op that stays, by the number of its role
module _ {b : List ℕ} {p k : ℕ} (s : Stands row_of b p k) {e n : ℕ} (q : e ≡ get_or kind_table k 0) (m : n ≡ number_of (role_no (role_in e))) (known : Vars) (values : List ℕ) where
  pub is_constant : n ≡ 8 → role_of row_of k ≡ constant
  is_constant h = role_by constant k q m h

  pub over_constant : {known' : Vars} {values' : List ℕ} {x : ℕ} → n ≡ 8 → x ≡ low_first b (p + 2) 8 → known_of known' values' ≡ upd (known_of known values) (at b (p + 1)) (Some x)
      → Stays b p known values known' values'
  over_constant h y u =
      record { known_after = u ∙ ap (λ (z : ℕ). upd (known_of known values) (at b (p + 1)) (Some z)) y ∙ sym (ap (learned (known_of known values)) (constant_view_lem s (is_constant h))) }

  closing : closes (view_of document01 (record_at row_of b p)) ≡ is_closing (role_no (role_in e))
  closing = closes_at document01 (record_at row_of b p) ∙ ap is_closing (its_role s q)

  pub over_end : {known' : Vars} → n < 5 → known' ≡ empty → Stays b p known values known' values
  over_end h z = record { known_after = none_known values z ∙ rw (closing ∙ lt-ltb (number_of (role_no (role_in e))) 5 (omega arith)) }

  module _ (h : 5 ≤ n) (i : n ≡ 8 → ⊥) (w : StatesKnown b p known values None) where
    abbrev o : List ℕ
    o = record_at row_of b p

    nothing_stated : option_and_then (stated (view_of document01 o)) (all_known (reads (known_of known values) (inputs (view_of document01 o)))) ≡ None
    nothing_stated = go (tell (ltb 7 (number_of (role_no (role_in e)))))
      where
        go : (is_pure (role_no (role_in e)) ≡ true) ⊎ (is_pure (role_no (role_in e)) ≡ false) → option_and_then (stated (view_of document01 o)) (all_known (reads (known_of known values) (inputs (view_of document01 o)))) ≡ None
        go (inl t) =
            let j : 7 < n = omega (arith, ltb-true 7 (number_of (role_no (role_in e))) t) in
            let nine : n ≡ 9 = omega (arith, (number_of_lem (role_no (role_in e))).1, lt_of_le-ne {i = 8} {k = n} (omega arith) (λ z. i (sym z))) in
            rw (ap foldable_row (row_at_lem s) ∙ computing_folds k (role_by computing k q m nine)) at w.states_so
        go (inr t) = impure (view_of document01 o) (pure_at document01 o ∙ ap is_pure (its_role s q) ∙ t) (all_known (reads (known_of known values) (inputs (view_of document01 o))))

    over_others : {known' : Vars} → known' ≡ without known (bytes_at b (p + 1) (outs_in e)) → Stays b p known values known' values
    over_others {known'} u =
        let stays : is_closing (role_no (role_in e)) ≡ false = le-ltb (number_of (role_no (role_in e))) 5 (omega arith) in
        let outs : outputs (view_of document01 o) ≡ bytes_at b (p + 1) (outs_in e) =
        outputs_at lawful o ∙ ap₂ (λ (t : Bool) (xs : List ℕ). cond t [] xs) (ap is_closing (its_role s q) ∙ stays) (its_outputs s q) in
        record {
          known_after =
              forgets known known' values (bytes_at b (p + 1) (outs_in e)) u
              ∙ sym (rw (closing ∙ stays) (ap₂ (λ (xs : List ℕ) (ys : List (Option ℕ)). writes None (known_of known values) xs ys) outs (no_gain (known_of known values) (inputs (view_of document01 o)) (stated (view_of document01 o)) nothing_stated)));
        }

    -- by how many outputs it has
    pub over_output : {known' : Vars} {d : ℕ} → d ≡ outs_in e → d ≡ 1 → known' ≡ without known (get_or b (p + 1) 0 ∷ []) → Stays b p known values known' values
    over_output f g u = over_others (u ∙ ap (λ (m : ℕ). without known (bytes_at b (p + 1) m)) (sym g ∙ f))

    pub over_nothing : {d : ℕ} → d ≡ outs_in e → (d ≡ 1 → ⊥) → Stays b p known values known values
    over_nothing {d} f g = let z : outs_in e ≡ 0 = none_else (outs_in e) (few_outs k q) (λ y. g (f ∙ y)) in over_others (ap (λ (m : ℕ). without known (bytes_at b (p + 1) m)) (sym z))

-- a computing op that states nothing of what is known: its output is known no longer
pub over_computing : {b : List ℕ} {p e : ℕ} → Stands row_of b p (get_or b p 0) → e ≡ get_or kind_table (get_or b p 0) 0 → is_computing (role_no (role_in e)) ≡ true
    → (known : Vars) (values : List ℕ) {known' : Vars} → StatesKnown b p known values None → known' ≡ without known (get_or b (p + 1) 0 ∷ []) → Stays b p known values known' values
over_computing {b} {p} {e} s q h known values w u =
    let l = ltb-true 8 (number_of (role_no (role_in e))) h in
    over_output s q refl known values (omega arith) (λ z. omega arith) w (sym (one_output_lem (get_or b p 0) q (computed_at s q h).role_is)) refl u
