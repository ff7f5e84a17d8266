-- The sets of variables and labels that arrays hold, and how stores change them. Assumes nothing.
use mathlib.Core.Path.{◌≡◌, refl, sym, ap, ap₂, ◌∙◌, subst, fun_ext}
use mathlib.Core.Bool.{Bool, true, false, cond, not, ◌&&◌, ◌||◌}
use mathlib.Core.List.{List, [], ◌∷◌}
use mathlib.Core.Logic.{◌⊎◌, inl, inr}
use Prim.Native.Nat.{ℕ, zero, suc, ◌+◌, ◌≤◌, ◌<◌}
use native.Mathlib.Omega.{arith}
use native.Mathlib.Numerals.{add-one}
use lib.Dec.{eqb}
use lib.ListN.{length, get_or, set, replicate}
use lib.Seq.{get_or-set_same, get_or-set_other}
use borrow.Author.Tests.{eqb-true, eqb-false, ne_eqb}
use Rattle.theory.specs.Sets.{upd, Vars, empty}
use Rattle.theory.proofs.Sets.{tell}
use Rattle.ops.specs.Rows.{Row, is_setting, is_jumping}
use Rattle.block.specs.Rules.{all_set, label_free}
use Rattle.block.specs.Scan.{marked, numbered, SetAt}

pub set_here : (xs : List ℕ) (i x : ℕ) → i < length xs → SetAt xs i x (set xs i x)
set_here xs i x h = record { inside = h; becomes = refl }

-- a place that is set to 1 joins the set
module _ {xs ys : List ℕ} {d x : ℕ} (s : SetAt xs d x ys) where
  pub at_place : (v : ℕ) → get_or ys v 0 ≡ cond (eqb d v) x (get_or xs v 0)
  at_place v = ap (λ (l : List ℕ). get_or l v 0) s.becomes ∙ go (tell (eqb d v))
    where
      go : (eqb d v ≡ true) ⊎ (eqb d v ≡ false) → get_or (set xs d x) v 0 ≡ cond (eqb d v) x (get_or xs v 0)
      go (inl e) = rw e (subst (λ (n : ℕ). get_or (set xs d x) n 0 ≡ x) (eqb-true d v e) (get_or-set_same xs d x 0 s.inside))
      go (inr e) = rw e (get_or-set_other xs d v x 0 (λ q. eqb-false d v e (sym q)))

pub marked_upd : {xs ys : List ℕ} {d : ℕ} → SetAt xs d 1 ys → marked ys ≡ upd (marked xs) d true
marked_upd {xs} {ys} {d} s = fun_ext (λ v. ap (λ (n : ℕ). eqb n 1) (at_place s v) ∙ go (eqb d v) (get_or xs v 0))
  where
    go : (b : Bool) (y : ℕ) → eqb (cond b 1 y) 1 ≡ cond b true (eqb y 1)
    go true y = refl
    go false y = refl

pub numbered_upd : {xs ys : List ℕ} {d x : ℕ} → SetAt xs d x ys → 0 < x → numbered ys ≡ upd (numbered xs) d true
numbered_upd {xs} {ys} {d} {x} s h = fun_ext (λ v. ap (λ (m : ℕ). not (eqb m 0)) (at_place s v) ∙ go (eqb d v) (get_or xs v 0))
  where
    go : (b : Bool) (y : ℕ) → not (eqb (cond b x y) 0) ≡ cond b true (not (eqb y 0))
    go true y = rw (ne_eqb x 0 (λ q. omega arith))
    go false y = refl

-- nothing is marked among zeros
pub zeros : (n v : ℕ) → get_or {A = ℕ} (replicate n 0) v 0 ≡ 0
zeros zero v = refl
zeros (suc n) zero = refl
zeros (suc n) (suc v) = zeros n v

pub marked_none : {xs : List ℕ} (n : ℕ) → xs ≡ replicate n 0 → marked xs ≡ empty
marked_none n e = ap marked e ∙ fun_ext (λ v. ap (λ (m : ℕ). eqb m 1) (zeros n v))

pub numbered_none : {xs : List ℕ} (n : ℕ) → xs ≡ replicate n 0 → numbered xs ≡ empty
numbered_none n e = ap numbered e ∙ fun_ext (λ v. ap (λ (m : ℕ). not (eqb m 0)) (zeros n v))

-- nor beyond the end
pub beyond_none : (xs : List ℕ) (l : ℕ) → length xs ≤ l → numbered xs l ≡ false
beyond_none [] l h = refl
beyond_none (x ∷ xs) zero h = absurd (omega arith)
beyond_none (x ∷ xs) (suc l) h = beyond_none xs l (omega arith)

-- the labels below i that are jumped to are set, and one more
pub set_next : (targets labels : List ℕ) (i : ℕ) {all one : Bool} → all ≡ all_set (marked targets) (numbered labels) i → one ≡ (not (marked targets i) || numbered labels i)
    → (one && all) ≡ all_set (marked targets) (numbered labels) (i + 1)
set_next targets labels i e q = ap₂ (λ (a b : Bool). a && b) q e ∙ ap (all_set (marked targets) (numbered labels)) (sym (add-one i))

-- rule 7, by the columns of the role
module _ (row : Row) (labels : Vars) {s j : Bool} (es : s ≡ is_setting row.role) (ej : j ≡ is_jumping row.role) where
  named_is : (s || j) ≡ (is_setting row.role || is_jumping row.role)
  named_is = ap₂ (λ (a b : Bool). a || b) es ej

  pub free_named : (l : ℕ) {m : ℕ} {u : Bool} → (s || j) ≡ true → m ≡ l → u ≡ labels m → not u ≡ label_free row labels l
  free_named l t e f = rw (sym named_is ∙ t, f, e)

  pub free_other : (l : ℕ) → (s || j) ≡ false → true ≡ label_free row labels l
  free_other l t = rw (sym named_is ∙ t)
