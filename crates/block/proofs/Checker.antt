-- The check of the ops as a check in order, with the rule of temporaries apart; and the check of the declarations before them. Assumes nothing.
use mathlib.Core.Path.{◌≡◌, refl, sym, ap, ap₂, ◌∙◌}
use mathlib.Core.Bool.{Bool, true, false, cond, not, ◌&&◌, ◌||◌, false≢true}
use mathlib.Core.List.{List, [], ◌∷◌, ◌++◌, append_assoc, append-nil}
use Prim.Native.Nat.{ℕ, ◌+◌, ◌≤◌, ◌<◌}
use native.Mathlib.Omega.{arith}
use lib.Dec.{eqb, ltb, leb, eqb-suc-zero}
use lib.ListN.{length, length-append}
use Rattle.ops.specs.Limits.{max_variables, max_ops}
use borrow.Author.Tests.{ltb-true, not-true}
use Rattle.theory.proofs.Checker.{Checker, checks}
use Rattle.theory.proofs.Scoped.{scoped}
use Rattle.theory.specs.Sets.{Vars, all_in}
use Rattle.theory.proofs.Sets.{and_l, and_r, and_i, clash}
use Rattle.ops.specs.Rows.{Table}
use Rattle.ops.specs.Ops.{tcg, Dialect}
use Rattle.ops.proofs.Traits.{inputs_at_lem, wrote_at}
use Rattle.ops.proofs.Lawful.{Lawful}
use Rattle.block.specs.Checks.{asks, op_rules, rules_of, end_rules}
use Rattle.block.specs.Meaning.{seen}
use Rattle.block.specs.Records.{is_declaration, class_of, type_of, classes_of, declared_types}
use Rattle.block.specs.Rules.{all_global}
use Rattle.block.proofs.Accepts.{all_met, accepts, meet}
use Rattle.block.proofs.Cut.{whole, AllWhole, AllDeclared, head_op}
use Rattle.block.specs.Rules.{Seen, kept_in, rule3, rule4, rule5, rule6, rule7, rule8, rule9, declared, passed, next}

-- what the check asks of an op, but for rule 8
abbrev pub op_ok : Table → Seen → List ℕ → Bool
op_ok T s r = whole T r && (not (is_declaration r) && (rule9 s r && (rule4 T s r && (rule5 T s r && (rule6 T s r && rule7 T s r)))))

abbrev pub checker : (D : Dialect) → Checker (tcg D)
checker D = record { Seen = Seen; ok = op_ok D.rows; next = passed D.rows; fin = λ s. all_met (end_rules s) }

abbrev pub in_scope : Dialect → Seen → List (List ℕ) → Bool
in_scope D s os = scoped (tcg D) (kept_in s.classes) s.written os

late : (T : Table) (s : Seen) (o r : List ℕ) → rule3 (passed T s o) r ≡ false
unfolding rule3
late T s o r = rw (eqb-suc-zero s.ops)

-- after an op no declaration is accepted
head_after : (T : Table) (s : Seen) (o : List ℕ) (os : List (List ℕ)) → accepts T (passed T s o) os ≡ true → head_op os ≡ true
head_after T s o [] h = refl
head_after T s o (r ∷ rs) h = go (is_declaration r) (and_l (all_met (rules_of T (passed T s o) r)) (accepts T (next T (passed T s o) r) rs) h)
  where
    go : (b : Bool) → all_met (cond b (asks 3 (rule3 (passed T s o) r) ∷ []) (op_rules T (passed T s o) r)) ≡ true → not b ≡ true
    go true e = clash (rule3 (passed T s o) r) (and_l (rule3 (passed T s o) r) true e) (late T s o r)
    go false e = refl

-- six tests, the last apart
sixth_apart : (a b c d e f : Bool) → (a && (b && (c && (d && (e && (f && true)))))) ≡ true → ((a && (b && (c && (d && e)))) ≡ true) × (f ≡ true)
sixth_apart true true true true true true h = (refl, refl)
sixth_apart true true true true true false h = (refl, h)
sixth_apart true true true true false f h = (h, absurd (false≢true h))
sixth_apart true true true false e f h = (h, absurd (false≢true h))
sixth_apart true true false d e f h = (h, absurd (false≢true h))
sixth_apart true false c d e f h = (h, absurd (false≢true h))
sixth_apart false b c d e f h = (h, absurd (false≢true h))

sixth_joined : (a b c d e f : Bool) → (a && (b && (c && (d && e)))) ≡ true → f ≡ true → (a && (b && (c && (d && (e && (f && true)))))) ≡ true
sixth_joined true true true true true true h k = refl
sixth_joined true true true true true false h k = k
sixth_joined true true true true false f h k = h
sixth_joined true true true false e f h k = h
sixth_joined true true false d e f h k = h
sixth_joined true false c d e f h k = h
sixth_joined false b c d e f h k = h

-- the rules of an op that is no declaration, rule 8 apart
op_rules_lem : (T : Table) (s : Seen) (o : List ℕ) → is_declaration o ≡ false → rules_of T s o ≡ op_rules T s o
op_rules_lem T s o e = rw e

op_next : (T : Table) (s : Seen) (o : List ℕ) → is_declaration o ≡ false → next T s o ≡ passed T s o
unfolding next
op_next T s o e = rw e

-- the rule of temporaries, op by op
scope_step : {D : Dialect} (law : Lawful D) (s : Seen) (o : List ℕ) (os : List (List ℕ)) → in_scope D s (o ∷ os) ≡ (rule8 D.rows s o && in_scope D (passed D.rows s o) os)
unfolding rule8
scope_step {D = D} law s o os =
    ap₂ (λ (is : List ℕ) (w : Vars). all_in (kept_in s.classes) is s.written && scoped (tcg D) (kept_in s.classes) w os) (inputs_at_lem law o) (wrote_at law o s.written)

pub accepts_ops : {D : Dialect} (law : Lawful D) (s : Seen) (os : List (List ℕ)) → head_op os ≡ true → AllWhole D.rows os → accepts D.rows s os ≡ true
    → (checks (tcg D) (checker D) s os ≡ true) × (in_scope D s os ≡ true)
accepts_ops law s [] n w h = (h, refl)
accepts_ops {D = D} law s (o ∷ os) n w h =
    let e : is_declaration o ≡ false = not-true (is_declaration o) n in
    let m : all_met (rules_of D.rows s o) ≡ true = and_l (all_met (rules_of D.rows s o)) (accepts D.rows (next D.rows s o) os) h in
    let m' : all_met (op_rules D.rows s o) ≡ true = sym (ap all_met (op_rules_lem D.rows s o e)) ∙ m in
    let r : accepts D.rows (next D.rows s o) os ≡ true = and_r (all_met (rules_of D.rows s o)) (accepts D.rows (next D.rows s o) os) h in
    let r' : accepts D.rows (passed D.rows s o) os ≡ true = sym (ap (λ (q : Seen). accepts D.rows q os) (op_next D.rows s o e)) ∙ r in
    let p = sixth_apart (rule9 s o) (rule4 D.rows s o) (rule5 D.rows s o) (rule6 D.rows s o) (rule7 D.rows s o) (rule8 D.rows s o) m' in
    let q = accepts_ops law (passed D.rows s o) os (head_after D.rows s o os r') w.1 r' in (
      and_i (op_ok D.rows s o) (checks (tcg D) (checker D) (passed D.rows s o) os)
          (and_i (whole D.rows o) (not (is_declaration o) && (rule9 s o && (rule4 D.rows s o && (rule5 D.rows s o && (rule6 D.rows s o && rule7 D.rows s o))))) w.0
          (and_i (not (is_declaration o)) (rule9 s o && (rule4 D.rows s o && (rule5 D.rows s o && (rule6 D.rows s o && rule7 D.rows s o)))) n p.0)) q.0,
      scope_step law s o os ∙ and_i (rule8 D.rows s o) (in_scope D (passed D.rows s o) os) p.1 q.1,
    )

pub ops_accepts : {D : Dialect} (law : Lawful D) (s : Seen) (os : List (List ℕ)) → checks (tcg D) (checker D) s os ≡ true → in_scope D s os ≡ true
    → AllWhole D.rows os × (head_op os ≡ true) × (accepts D.rows s os ≡ true)
ops_accepts law s [] h k = (tt, refl, h)
ops_accepts {D = D} law s (o ∷ os) h k =
    let ok : op_ok D.rows s o ≡ true = and_l (op_ok D.rows s o) (checks (tcg D) (checker D) (passed D.rows s o) os) h in
    let more : (not (is_declaration o) && (rule9 s o && (rule4 D.rows s o && (rule5 D.rows s o && (rule6 D.rows s o && rule7 D.rows s o))))) ≡ true = and_r (whole D.rows o) _ ok in
    let n : not (is_declaration o) ≡ true = and_l (not (is_declaration o)) _ more in
    let e : is_declaration o ≡ false = not-true (is_declaration o) n in
    let k' : (rule8 D.rows s o && in_scope D (passed D.rows s o) os) ≡ true = sym (scope_step law s o os) ∙ k in
    let q = ops_accepts law (passed D.rows s o) os (and_r (op_ok D.rows s o) (checks (tcg D) (checker D) (passed D.rows s o) os) h) (and_r (rule8 D.rows s o) _ k') in
    let m : all_met (op_rules D.rows s o) ≡ true = sixth_joined (rule9 s o) (rule4 D.rows s o) (rule5 D.rows s o) (rule6 D.rows s o) (rule7 D.rows s o) (rule8 D.rows s o) (and_r (not (is_declaration o)) _ more) (and_l (rule8 D.rows s o) _ k') in
    let m' : all_met (rules_of D.rows s o) ≡ true = ap all_met (op_rules_lem D.rows s o e) ∙ m in
    let r : accepts D.rows (next D.rows s o) os ≡ true = ap (λ (t : Seen). accepts D.rows t os) (op_next D.rows s o e) ∙ q.2 in
    ((and_l (whole D.rows o) _ ok, q.0), n, and_i (all_met (rules_of D.rows s o)) (accepts D.rows (next D.rows s o) os) m' r)

-- what is seen after declarations alone
abbrev pub declared_in : Seen → List (List ℕ) → Seen
declared_in s ds =
    record {
      classes = s.classes ++ classes_of ds;
      types = s.types ++ declared_types ds;
      written = s.written;
      labels = s.labels;
      targets = s.targets;
      ops = s.ops;
      last = s.last;
    }

declared_next : (T : Table) (s : Seen) (d : List ℕ) → is_declaration d ≡ true → next T s d ≡ declared s d
unfolding next
declared_next T s d e = rw e

pub seen_declared : (T : Table) (s : Seen) (ds : List (List ℕ)) → AllDeclared ds → seen T s ds ≡ declared_in s ds
seen_declared T s [] h = rw (append-nil s.classes, append-nil s.types)
seen_declared T s (d ∷ ds) h =
    rw (declared_next T s d h.0, seen_declared T (declared s d) ds h.1, append_assoc s.classes (class_of d ∷ []) (classes_of ds), append_assoc s.types (type_of d ∷ []) (declared_types ds))

pub room3 : (s : Seen) (d : List ℕ) → rule3 s d ≡ true → length s.classes < max_variables
unfolding rule3
room3 s d h = ltb-true (length s.classes) max_variables (and_r (eqb s.ops 0 && leb (class_of d) 2 && leb (type_of d) 1 && (not (eqb (class_of d) 0) || all_global s.classes)) (ltb (length s.classes) max_variables) h)

pub room9 : (s : Seen) (o : List ℕ) → rule9 s o ≡ true → s.ops < max_ops
unfolding rule9
room9 s o h = ltb-true s.ops max_ops h

-- no more declarations and ops than the limits
pub few_declared : (T : Table) (s : Seen) (ds : List (List ℕ)) → AllDeclared ds → meet T s ds ≡ true → length s.classes ≤ max_variables → length s.classes + length ds ≤ max_variables
few_declared T s [] h m l = omega arith
few_declared T s (d ∷ ds) h m l =
    let m₁ : all_met (rules_of T s d) ≡ true = and_l (all_met (rules_of T s d)) (meet T (next T s d) ds) m in
    let m₂ : (rule3 s d && true) ≡ true = rw h.0 at m₁ in
    let m₃ : meet T (declared s d) ds ≡ true = rw (declared_next T s d h.0) at (and_r (all_met (rules_of T s d)) (meet T (next T s d) ds) m) in
    let b : length s.classes < max_variables = room3 s d (and_l (rule3 s d) true m₂) in
    let e : length (s.classes ++ (class_of d ∷ [])) ≡ length s.classes + 1 = length-append s.classes (class_of d ∷ []) in
    omega (arith, few_declared T (declared s d) ds h.1 m₃ (omega arith), e)

pub few_ops : (D : Dialect) (s : Seen) (os : List (List ℕ)) → checks (tcg D) (checker D) s os ≡ true → s.ops ≤ max_ops → s.ops + length os ≤ max_ops
few_ops D s [] h l = omega arith
few_ops D s (o ∷ os) h l =
    let ok : op_ok D.rows s o ≡ true = and_l (op_ok D.rows s o) (checks (tcg D) (checker D) (passed D.rows s o) os) h in
    let b : s.ops < max_ops = room9 s o (and_l (rule9 s o) _ (and_r (not (is_declaration o)) _ (and_r (whole D.rows o) _ ok))) in
    omega (arith, few_ops D (passed D.rows s o) os (and_r (op_ok D.rows s o) (checks (tcg D) (checker D) (passed D.rows s o) os) h) (omega arith))
