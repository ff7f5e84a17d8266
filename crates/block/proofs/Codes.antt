-- The variables' bytes: which operands fit, and what writing changes. Assumes nothing.
use mathlib.Core.Path.{◌≡◌, refl, sym, ap, ap₂, ◌∙◌, fun_ext}
use mathlib.Core.Logic.{◌⊎◌, inl, inr}
use mathlib.Core.Bool.{Bool, true, false, cond, ◌&&◌, ◌||◌, beq}
use mathlib.Core.List.{List, [], ◌∷◌, ◌++◌}
use Prim.Native.Nat.{ℕ, zero, suc, ◌-◌, ◌/◌, ◌%◌, ◌≤◌, ◌<◌}
use native.Mathlib.Omega.{arith}
use native.Mathlib.Nat.{mod-eq_of_lt}
use lib.Dec.{eqb, ltb, eqb-suc-suc}
use lib.ListN.{length, get_or, drop, set, length-append}
use lib.Seq.{get_or-set_same, get_or-set_other}
use borrow.Author.Tests.{eqb-true, eqb-false, ltb-true, ltb-false, lt-ltb, le-ltb, eq-eqb, ne_eqb}
use Rattle.theory.specs.Sets.{Vars, empty, has, plus, all_in}
use Rattle.theory.proofs.Sets.{tell, and_l, and_r}
use Rattle.ops.specs.Rows.{Row, is_closing, types_of}
use Rattle.ops.proofs.Ranges.{every_from, ranged, beq_same}
use Rattle.block.specs.Rules.{kept_in, all_below, have_types, wrote_by}
use Rattle.block.specs.Scan.{SetAt, codes_in, against, code_of, Coded, fits_as, operands_fit, opened, open_all, codes_by, code_for}

-- what holds of each type below 4 by computation
typed : (f : ℕ → Bool) → every_from f 0 4 ≡ true → (x : ℕ) → x < 4 → f x ≡ true
typed f t x l = ranged f 4 0 t x (omega arith) (omega arith)

-- a byte fits a type exactly when the variable is declared, has the type and, if it is read, may be read
fitting : Bool → Bool → Bool → ℕ → ℕ → Bool
fitting output below kept x t = beq (fits_as output (cond below (against kept x) 15) t) (below && eqb x t && (output || kept))

all_fitting : (output below kept : Bool) → every_from (λ x. every_from (λ t. fitting output below kept x t) 0 4) 0 4 ≡ true
unfolding fitting
all_fitting true true true = refl
all_fitting true true false = refl
all_fitting true false true = refl
all_fitting true false false = refl
all_fitting false true true = refl
all_fitting false true false = refl
all_fitting false false true = refl
all_fitting false false false = refl

fits_code : (output below kept : Bool) (x t : ℕ) → x < 4 → t < 4 → fits_as output (cond below (against kept x) 15) t ≡ (below && eqb x t && (output || kept))
unfolding fitting
fits_code output below kept x t h l = beq_same _ _ (typed (λ t. fitting output below kept x t) (typed (λ x. every_from (λ t. fitting output below kept x t) 0 4) (all_fitting output below kept) x h) t l)

-- so all operands fit exactly when rules 4, 5 and 8 are met
shuffle : (a b c d e f : Bool) → ((a && b && c) && (d && e && f)) ≡ ((a && d) && (b && e) && (c && f))
shuffle false b c d e f = refl
shuffle true false c false e f = refl
shuffle true false c true e f = refl
shuffle true true false false e f = refl
shuffle true true false true false f = refl
shuffle true true false true true f = refl
shuffle true true true false e f = refl
shuffle true true true true e f = refl

module _ {vars classes types : List ℕ} {written : Vars} (c : Coded vars classes types written) where
  fits_at : (output : Bool) (v t : ℕ) → t < 4 → fits_as output (codes_in vars v) t ≡ (ltb v (length classes) && eqb (get_or types v 0) t && (output || (kept_in classes v || written v)))
  fits_at output v t l =
      ap (λ (codes : ℕ → ℕ). fits_as output (codes v) t) c.codes_are
      ∙ fits_code output (ltb v (length classes)) (kept_in classes v || written v) (get_or types v 0) t (c.types_small v) l

  pub fit_all : (outs codes m : ℕ) (vs : List ℕ) → length vs ≡ m
      → operands_fit vars outs codes vs ≡ (all_below (length classes) vs && have_types types vs (types_of m codes) && all_in (kept_in classes) (drop outs vs) written)
  unfolding operands_fit types_of
  fit_all zero codes m [] e = refl
  fit_all (suc outs) codes m [] e = refl
  fit_all outs codes zero (v ∷ vs) e = absurd (omega arith)
  fit_all zero codes (suc m) (v ∷ vs) e =
      ap₂ (λ (x y : Bool). x && y) (fits_at false v (codes % 4) (omega arith)) (fit_all zero (codes / 4) m vs (omega arith))
      ∙ shuffle (ltb v (length classes)) (eqb (get_or types v 0) (codes % 4)) (kept_in classes v || written v) (all_below (length classes) vs) (have_types types vs (types_of m (codes / 4))) (all_in (kept_in classes) vs written)
  fit_all (suc outs) codes (suc m) (v ∷ vs) e =
      let q : suc outs - 1 ≡ outs = omega arith in
      rw (q, lt-ltb 0 (suc outs) (omega arith))
      (ap₂ (λ (x y : Bool). x && y) (fits_at true v (codes % 4) (omega arith)) (fit_all outs (codes / 4) m vs (omega arith))
      ∙ shuffle (ltb v (length classes)) (eqb (get_or types v 0) (codes % 4)) true (all_below (length classes) vs) (have_types types vs (types_of m (codes / 4))) (all_in (kept_in classes) (drop outs vs) written))

  -- a byte has five bits
  pub code_small : (v : ℕ) → codes_in vars v < 32
  code_small v = let q : codes_in vars v ≡ code_of classes types written v = ap (λ (codes : ℕ → ℕ). codes v) c.codes_are in rw q (go (ltb v (length classes)) (kept_in classes v || written v))
    where
      go : (below kept : Bool) → cond below (against kept (get_or types v 0)) 15 < 32
      go false kept = omega arith
      go true true = omega arith
      go true false = omega arith

-- an entry of an array that one store changes
get_d_set : (xs : List ℕ) (i x v d : ℕ) → i < length xs → get_or (set xs i x) v d ≡ cond (eqb v i) x (get_or xs v d)
get_d_set xs i x v d h = go (tell (eqb v i))
  where
    go : (eqb v i ≡ true) ⊎ (eqb v i ≡ false) → get_or (set xs i x) v d ≡ cond (eqb v i) x (get_or xs v d)
    go (inl e) = rw e (ap (λ (n : ℕ). get_or (set xs i x) n d) (eqb-true v i e) ∙ get_or-set_same xs i x d h)
    go (inr e) = rw e (get_or-set_other xs i v x d (eqb-false v i e))

-- writing
pub opened_here : (vars : List ℕ) (v : ℕ) {x y : ℕ} {vars' : List ℕ} → x ≡ codes_in vars v → y ≡ opened x → SetAt vars v y vars' → codes_in vars' ≡ open_all (codes_in vars) (v ∷ [])
opened_here vars v {x} {y} e z s = fun_ext (λ u. ap (λ (xs : List ℕ). get_or xs u 15) s.becomes ∙ get_d_set vars v y u 15 s.inside ∙ go u (tell (eqb u v)))
  where
    go : (u : ℕ) → (eqb u v ≡ true) ⊎ (eqb u v ≡ false) → cond (eqb u v) y (codes_in vars u) ≡ open_all (codes_in vars) (v ∷ []) u
    go u (inl t) =
        let q = eqb-true u v t in
        let c : y ≡ opened (codes_in vars u) = z ∙ ap opened (e ∙ ap (codes_in vars) (sym q)) in
        rw (t, eq-eqb v u (sym q), c)
    go u (inr t) = rw (t, ne_eqb v u (λ q. eqb-false u v t (sym q)))

-- a byte of an array of 256
pub code_at : (vars : List ℕ) (v : ℕ) {x : ℕ} → v < length vars → x ≡ get_or vars v 0 → x ≡ codes_in vars v
code_at vars v h e = e ∙ go vars v h
  where
    go : (xs : List ℕ) (v : ℕ) → v < length xs → get_or xs v 0 ≡ get_or xs v 15
    go [] v h = absurd (omega arith)
    go (x ∷ xs) zero h = refl
    go (x ∷ xs) (suc v) h = go xs v (omega arith)

-- one more declaration
get_d_append : (xs : List ℕ) (x v d : ℕ) → get_or (xs ++ (x ∷ [])) v d ≡ cond (eqb v (length xs)) x (get_or xs v d)
get_d_append [] x zero d = refl
get_d_append [] x (suc v) d = rw (ne_eqb (suc v) 0 (λ e. omega arith))
get_d_append (y ∷ xs) x zero d = rw (ne_eqb 0 (suc (length xs)) (λ e. omega arith))
get_d_append (y ∷ xs) x (suc v) d = get_d_append xs x v d ∙ ap (λ (t : Bool). cond t x (get_or xs v d)) (sym (eqb-suc-suc v (length xs)))

module _ {vars classes types : List ℕ} {n : ℕ} (c : Coded vars classes types empty) (lc : length classes ≡ n) (lt : length types ≡ n) (h : n < length vars) (class type : ℕ)
    (small : type < 4) where
  abbrev classes' : List ℕ
  classes' = classes ++ (class ∷ [])

  abbrev types' : List ℕ
  types' = types ++ (type ∷ [])

  long : length classes' ≡ suc n
  long = length-append classes (class ∷ []) ∙ omega (arith, lc)

  more_code : (v : ℕ) → (eqb v n ≡ true) ⊎ (eqb v n ≡ false) → cond (eqb v n) (code_for class type) (code_of classes types empty v) ≡ code_of classes' types' empty v
  more_code v (inl e) =
      let q = eqb-true v n e in
      let m : type % 4 ≡ type = mod-eq_of_lt small in
      rw (get_d_append classes class v 2, get_d_append types type v 0, lc, lt, e, long, lt-ltb v (suc n) (omega arith), m) (tail (ltb class 2))
    where
      tail : (k : Bool) → against k type ≡ against (k || false) type
      tail true = refl
      tail false = refl
  more_code v (inr e) =
      rw (get_d_append classes class v 2, get_d_append types type v 0, lc, lt, e, long) (ap (λ (t : Bool). cond t (against (kept_in classes v || false) (get_or types v 0)) 15) same)
    where
      same : ltb v n ≡ ltb v (suc n)
      same = go (tell (ltb v n))
        where
          go : (ltb v n ≡ true) ⊎ (ltb v n ≡ false) → ltb v n ≡ ltb v (suc n)
          go (inl t) = t ∙ sym (lt-ltb v (suc n) (omega (arith, ltb-true v n t)))
          go (inr t) = t ∙ sym (le-ltb v (suc n) (omega (arith, ltb-false v n t, eqb-false v n e)))

  small' : (v : ℕ) → get_or types' v 0 < 4
  small' v = ap_lt (eqb v (length types)) refl
    where
      ap_lt : (t : Bool) → eqb v (length types) ≡ t → get_or types' v 0 < 4
      ap_lt true e = let q : get_or types' v 0 ≡ type = get_d_append types type v 0 ∙ rw e in omega (arith, q, small)
      ap_lt false e = let q : get_or types' v 0 ≡ get_or types v 0 = get_d_append types type v 0 ∙ rw e in omega (arith, q, c.types_small v)

  pub coded_more : Coded (set vars n (code_for class type)) classes' types' empty
  coded_more =
      record {
        codes_are = fun_ext (λ v. get_d_set vars n (code_for class type) v 15 h ∙ ap (λ (codes : ℕ → ℕ). cond (eqb v n) (code_for class type) (codes v)) c.codes_are ∙ more_code v (tell (eqb v n)));
        types_small = small';
        inside = λ v l. refl;
      }

-- what is written may be read afterwards
module _ {base vars classes types : List ℕ} {written : Vars} (z : Coded base classes types empty) (c : Coded vars classes types written) where
  below_has : (outs : List ℕ) → all_below (length classes) outs ≡ true → (v : ℕ) → length classes ≤ v → has outs v ≡ false
  below_has [] h v l = refl
  below_has (x ∷ xs) h v l =
      let b : x < length classes = ltb-true x (length classes) (and_l (ltb x (length classes)) (all_below (length classes) xs) h) in
      rw (ne_eqb x v (λ q. omega arith)) (below_has xs (and_r (ltb x (length classes)) (all_below (length classes) xs) h) v l)

  opening_code : Bool → Bool → Bool → Bool → ℕ → Bool
  opening_code h below k w x = eqb (cond h (opened (cond below (against (k || w) x) 15)) (cond below (against (k || w) x) 15)) (cond below (against (k || (h || w)) x) 15)

  open_all_lem : (h below k w : Bool) → every_from (opening_code h below k w) 0 4 ≡ true
  unfolding opening_code
  open_all_lem true true true w = refl
  open_all_lem true true false true = refl
  open_all_lem true true false false = refl
  open_all_lem true false k w = refl
  open_all_lem false true true w = refl
  open_all_lem false true false true = refl
  open_all_lem false true false false = refl
  open_all_lem false false k w = refl

  open_code : (h below k w : Bool) (x : ℕ) → x < 4 → cond h (opened (cond below (against (k || w) x) 15)) (cond below (against (k || w) x) 15) ≡ cond below (against (k || (h || w)) x) 15
  unfolding opening_code
  open_code h below k w x l = eqb-true _ _ (typed (opening_code h below k w) (open_all_lem h below k w) x l)

  pub coded_next : (row : Row) (vars' outs : List ℕ) → codes_in vars' ≡ codes_by row (codes_in base) (codes_in vars) outs → all_below (length classes) outs ≡ true
      → Coded vars' classes types (wrote_by row written outs)
  coded_next row vars' outs e h = go (is_closing row.role) e
    where
      go : (closing : Bool) → codes_in vars' ≡ cond closing (codes_in base) (open_all (codes_in vars) outs) → Coded vars' classes types (cond closing empty (plus written outs))
      go true e = record { codes_are = e ∙ z.codes_are; types_small = c.types_small; inside = z.inside }
      go false e =
          record {
            codes_are = e ∙ ap (λ (codes : ℕ → ℕ). open_all codes outs) c.codes_are
                ∙ fun_ext (λ v. open_code (has outs v) (ltb v (length classes)) (kept_in classes v) (written v) (get_or types v 0) (c.types_small v));
            types_small = c.types_small;
            inside = λ v l. rw (below_has outs h v l) (c.inside v l);
          }
