-- The classes of the variables, in an array that is filled from the first. Assumes nothing.
use mathlib.Core.Path.{◌≡◌, refl, sym, ap, ◌∙◌, subst, fun_ext}
use mathlib.Core.Bool.{Bool, true, false, cond, not, ◌&&◌, ◌||◌, beq}
use mathlib.Core.List.{List, [], ◌∷◌, ◌++◌}
use mathlib.Core.Logic.{◌⊎◌, inl, inr}
use Prim.Native.Nat.{ℕ, zero, suc, ◌+◌, ◌≤◌, ◌<◌}
use native.Mathlib.Omega.{arith}
use lib.Arith.{lt_of_le-ne}
use lib.Dec.{eqb, ltb, leb, leb-zero, leb-suc-zero, leb-suc-suc}
use lib.ListN.{length, get_or, set, replicate, get_or-eq_default}
use lib.Seq.{get_or-set_same, get_or-set_other}
use borrow.Author.Tests.{ltb-true, ltb-false, lt-ltb, le-ltb, eqb-true, eqb-false}
use Rattle.theory.specs.Sets.{empty}
use Rattle.theory.proofs.Sets.{tell, and_l, and_r, clash}
use Rattle.ops.specs.Rows.{Table}
use Rattle.ops.proofs.Ranges.{every_from, ranged, beq_same}
use Rattle.block.specs.Records.{is_declaration, class_of, type_of, classes_of, global_count}
use Rattle.block.specs.Checks.{rules_of}
use Rattle.block.specs.Rules.{Seen, globals_in, kept_in, all_global, rule3, next, declared}
use Rattle.block.specs.Scan.{codes_in, against, Coded}
use Rattle.block.proofs.Accepts.{all_met, meet}
use Rattle.block.proofs.Cut.{AllDeclared}
use Rattle.passes.specs.Ready.{class_in, ClassesOf}

-- the first i are filled in, and all others are 2
pub record Filled (f : ℕ → ℕ) (of : List ℕ) (i : ℕ) : Type 0 where
  pub first : (v : ℕ) → v < i → get_or of v 2 ≡ f v
  pub others : (v : ℕ) → i ≤ v → get_or of v 2 ≡ 2

twos : (n v : ℕ) → get_or {A = ℕ} (replicate n 2) v 2 ≡ 2
twos zero v = refl
twos (suc n) zero = refl
twos (suc n) (suc v) = twos n v

pub filled_start : (f : ℕ → ℕ) (n : ℕ) → Filled f (replicate n 2) 0
filled_start f n = record { first = λ v h. absurd (omega arith); others = λ v h. twos n v }

module _ {f : ℕ → ℕ} {of : List ℕ} {i : ℕ} (s : Filled f of i) where
  pub filled_next : {x : ℕ} → i < length of → x ≡ f i → Filled f (set of i x) (i + 1)
  filled_next {x} l e =
      record {
        first = λ v k. go v (tell (eqb i v)) k;
        others = λ v k. get_or-set_other of i v x 2 (λ z. omega arith) ∙ s.others v (omega arith);
      }
    where
      go : (v : ℕ) → (eqb i v ≡ true) ⊎ (eqb i v ≡ false) → v < i + 1 → get_or (set of i x) v 2 ≡ f v
      go v (inl q) k = subst (λ (u : ℕ). get_or (set of i x) u 2 ≡ f u) (eqb-true i v q) (get_or-set_same of i x 2 l ∙ e)
      go v (inr q) k =
          let n = eqb-false i v q in
          get_or-set_other of i v x 2 (λ z. n (sym z)) ∙ s.first v (lt_of_le-ne {i = v} {k = i} (omega arith) (λ z. n (sym z)))

  -- all are filled in
  pub filled_ends : {n : ℕ} → i ≡ n → (v : ℕ) → get_or of v 2 ≡ cond (ltb v n) (f v) 2
  filled_ends {n} e v = go (tell (ltb v i))
    where
      go : (ltb v i ≡ true) ⊎ (ltb v i ≡ false) → get_or of v 2 ≡ cond (ltb v n) (f v) 2
      go (inl q) = let w = ltb-true v i q in s.first v w ∙ sym (rw (lt-ltb v n (omega arith)))
      go (inr q) = let w = ltb-false v i q in s.others v w ∙ sym (rw (le-ltb v n (omega arith)))

-- a byte below 15 is that of a variable that outlives an extended basic block
lasting : Bool → ℕ → Bool
lasting k t = beq (ltb (against k t) 15) k

all_lasting : (k : Bool) → every_from (lasting k) 0 4 ≡ true
unfolding lasting
all_lasting true = refl
all_lasting false = refl

kept_code : (k : Bool) (t : ℕ) → t < 4 → ltb (against k t) 15 ≡ k
unfolding lasting
kept_code k t l = beq_same (ltb (against k t) 15) k (ranged (lasting k) 4 0 (all_lasting k) t (omega arith) (omega arith))

-- so the array holds the classes that are declared
module _ {base classes types : List ℕ} (of : List ℕ) (globals : ℕ) (c : Coded base classes types empty) (g : (v : ℕ) → globals_in classes v ≡ ltb v globals)
    (a : (v : ℕ) → get_or of v 2 ≡ cond (ltb v (length classes)) (class_in base globals v) 2) where
  code_at : (v : ℕ) → v < length classes → ltb (codes_in base v) 15 ≡ kept_in classes v
  code_at v l = ap (λ (codes : ℕ → ℕ). ltb (codes v) 15) c.codes_are ∙ rw (lt-ltb v (length classes) l) (kept_code (kept_in classes v || false) (get_or types v 0) (c.types_small v) ∙ go (kept_in classes v))
    where
      go : (k : Bool) → (k || false) ≡ k
      go true = refl
      go false = refl

  past : (v : ℕ) → length classes ≤ v → get_or classes v 2 ≡ 2
  past v l = get_or-eq_default classes 2 {n = v} l

  small : (v : ℕ) → get_or of v 2 < 3
  small v = go (ltb v (length classes)) (ltb v globals) (ltb (codes_in base v) 15) (a v)
    where
      go : (x y z : Bool) → get_or of v 2 ≡ cond x (cond y 0 (cond z 1 2)) 2 → get_or of v 2 < 3
      go true true z q = omega arith
      go true false true q = omega arith
      go true false false q = omega arith
      go false y z q = omega arith

  global_so : (v : ℕ) → globals_in of v ≡ globals_in classes v
  global_so v = ap (λ (n : ℕ). eqb n 0) (a v) ∙ go (tell (ltb v (length classes)))
    where
      split : (y z : Bool) → eqb (cond y 0 (cond z 1 2)) 0 ≡ y
      split true z = refl
      split false true = refl
      split false false = refl

      go : (ltb v (length classes) ≡ true) ⊎ (ltb v (length classes) ≡ false) → eqb (cond (ltb v (length classes)) (class_in base globals v) 2) 0 ≡ globals_in classes v
      go (inl x) = rw x (split (ltb v globals) (ltb (codes_in base v) 15) ∙ sym (g v))
      go (inr x) = rw x (sym (ap (λ (n : ℕ). eqb n 0) (past v (ltb-false v (length classes) x))))

  -- a global outlives every extended basic block
  kept_so : (v : ℕ) → kept_in of v ≡ kept_in classes v
  kept_so v = ap (λ (n : ℕ). ltb n 2) (a v) ∙ go (tell (ltb v (length classes)))
    where
      zero_kept : (n : ℕ) → eqb n 0 ≡ true → ltb n 2 ≡ true
      zero_kept n q = lt-ltb n 2 (omega (arith, eqb-true n 0 q))

      split : (y z : Bool) → (y ≡ true → kept_in classes v ≡ true) → z ≡ kept_in classes v → ltb (cond y 0 (cond z 1 2)) 2 ≡ kept_in classes v
      split true z h e = sym (h refl)
      split false true h e = e
      split false false h e = e

      go : (ltb v (length classes) ≡ true) ⊎ (ltb v (length classes) ≡ false) → ltb (cond (ltb v (length classes)) (class_in base globals v) 2) 2 ≡ kept_in classes v
      go (inl x) = rw x (split (ltb v globals) (ltb (codes_in base v) 15) (λ y. zero_kept (get_or classes v 2) (g v ∙ y)) (code_at v (ltb-true v (length classes) x)))
      go (inr x) = rw x (sym (ap (λ (n : ℕ). ltb n 2) (past v (ltb-false v (length classes) x))))

  pub classes_so : ClassesOf classes of
  classes_so = record { few = record { class_few = small }; globals_so = fun_ext global_so; kept_so = fun_ext kept_so }

-- by rule 3 the globals come first
all_more : (cs : List ℕ) (c : ℕ) → all_global (cs ++ (c ∷ [])) ≡ (all_global cs && eqb c 0)
all_more [] c = go (eqb c 0)
  where
    go : (t : Bool) → (t && true) ≡ t
    go true = refl
    go false = refl
all_more (x ∷ cs) c = go (eqb x 0) (all_more cs c)
  where
    go : (t : Bool) → all_global (cs ++ (c ∷ [])) ≡ (all_global cs && eqb c 0) → (t && all_global (cs ++ (c ∷ []))) ≡ ((t && all_global cs) && eqb c 0)
    go true e = e
    go false e = refl

global_ok : (s : Seen) (d : List ℕ) → rule3 s d ≡ true → (not (eqb (class_of d) 0) || all_global s.classes) ≡ true
unfolding rule3
global_ok s d h = and_r (eqb s.ops 0 && leb (class_of d) 2 && leb (type_of d) 1) (not (eqb (class_of d) 0) || all_global s.classes) (and_l (eqb s.ops 0 && leb (class_of d) 2 && leb (type_of d) 1 && (not (eqb (class_of d) 0) || all_global s.classes)) _ h)

next_declared : (T : Table) (s : Seen) (d : List ℕ) → is_declaration d ≡ true → next T s d ≡ declared s d
unfolding next
next_declared T s d e = rw e

pub globals_first : (T : Table) (s : Seen) (ds : List (List ℕ)) → AllDeclared ds → meet T s ds ≡ true → (v : ℕ)
    → globals_in (classes_of ds) v ≡ (all_global s.classes && ltb v (global_count (classes_of ds)))
globals_first T s [] h m v = sym (ap (λ (t : Bool). all_global s.classes && t) (leb-suc-zero v) ∙ and_false (all_global s.classes))
  where
    and_false : (t : Bool) → (t && false) ≡ false
    and_false true = refl
    and_false false = refl
globals_first T s (d ∷ ds) h m v =
    let m₁ : all_met (rules_of T s d) ≡ true = and_l (all_met (rules_of T s d)) (meet T (next T s d) ds) m in
    let m₂ : (rule3 s d && true) ≡ true = rw h.0 at m₁ in
    let m₃ : meet T (declared s d) ds ≡ true = rw (next_declared T s d h.0) at (and_r (all_met (rules_of T s d)) (meet T (next T s d) ds) m) in
    go v (eqb (class_of d) 0) refl (all_global s.classes) refl (global_ok s d (and_l (rule3 s d) true m₂)) (λ u. globals_first T (declared s d) ds h.1 m₃ u ∙ ap (λ (t : Bool). t && ltb u (global_count (classes_of ds))) (all_more s.classes (class_of d)))
  where
    go : (v : ℕ) (c : Bool) → eqb (class_of d) 0 ≡ c → (a : Bool) → all_global s.classes ≡ a → (not (eqb (class_of d) 0) || all_global s.classes) ≡ true
        → ((u : ℕ) → globals_in (classes_of ds) u ≡ ((all_global s.classes && eqb (class_of d) 0) && ltb u (global_count (classes_of ds))))
        → globals_in (class_of d ∷ classes_of ds) v ≡ (all_global s.classes && ltb v (cond (eqb (class_of d) 0) (suc (global_count (classes_of ds))) 0))
    go zero true e true f k ih = rw (e, f) (sym (leb-suc-suc 0 (global_count (classes_of ds)) ∙ leb-zero (global_count (classes_of ds))))
    go (suc u) true e true f k ih = ih u ∙ rw (e, f) (sym (leb-suc-suc (suc u) (global_count (classes_of ds))))
    go v true e false f k ih = clash (not (eqb (class_of d) 0) || all_global s.classes) k (rw (e, f))
    go zero false e true f k ih = rw (e, f)
    go (suc u) false e true f k ih = ih u ∙ rw (e, f) (sym (leb-suc-zero (suc u)))
    go zero false e false f k ih = rw (e, f)
    go (suc u) false e false f k ih = ih u ∙ rw (e, f)
