-- Rule 11: the lent globals and memory. Assumes nothing.
use mathlib.Core.Path.{◌≡◌, refl, sym, ap, ap₂, ◌∙◌}
use mathlib.Core.Bool.{not, Bool, true, false, cond, ◌&&◌, ◌||◌, beq}
use mathlib.Core.List.{List, [], ◌∷◌}
use Prim.Native.Nat.{ℕ, zero, suc, ◌+◌, ◌%◌, ◌^◌, ◌≤◌, ◌<◌}
use native.Mathlib.Omega.{arith}
use lib.Dec.{eqb, ltb, leb}
use lib.ListN.{length, get_or, drop, drop_of_length-le}
use lib.Seq.{drop-cons}
use borrow.Author.Tests.{lt-ltb, eq-eqb, ne_eqb}
use native.Mathlib.Nat.{zero-add}
use Rattle.std.specs.Bool.{Decides}
use Rattle.std.specs.Prelude.{◌↔◌, IsTrue}
use Rattle.std.proofs.lemmas.Bool.Decides.{same_from_decides}
use Rattle.theory.proofs.Sets.{and_l, and_r, and_i}
use Rattle.ops.specs.Limits.{max_memory}
use Rattle.ops.specs.Rows.{bits_of, narrow_ok}
use Rattle.runs.specs.Runs.{globals_fit}
use Rattle.runs.specs.Steps.{code_fits, codes_fit, lent_ok}
use Rattle.theory.specs.Sets.{empty}
use Rattle.ops.proofs.Ranges.{every_from, ranged, beq_same}
use Rattle.block.specs.Rules.{kept_in}
use Rattle.block.specs.Scan.{against, Coded}

get_d_any : (xs : List ℕ) (v d e : ℕ) → v < length xs → get_or xs v d ≡ get_or xs v e
get_d_any [] v d e h = absurd (omega arith)
get_d_any (x ∷ xs) zero d e h = refl
get_d_any (x ∷ xs) (suc v) d e h = get_d_any xs v d e (omega arith)

-- each global fits the byte of its variable
abbrev EachFits : List ℕ → List ℕ → Type 0
EachFits base globals = (k : ℕ) → k < length base → k < length globals → IsTrue (code_fits (get_or base k 0) (get_or globals k 0))

fits_at : (c g : ℕ) (cs gs : List ℕ) → IsTrue (code_fits c g) → EachFits cs gs → EachFits (c ∷ cs) (g ∷ gs)
fits_at c g cs gs t f zero h l = t
fits_at c g cs gs t f (suc k) h l = f k (omega arith) (omega arith)

fit_decides : (base globals : List ℕ) → Decides (codes_fit base globals) (EachFits base globals)
fit_decides base [] = (λ t k h l. absurd (omega arith), λ f. refl)
fit_decides [] (g ∷ gs) = (λ t k h l. absurd (omega arith), λ f. refl)
fit_decides (c ∷ cs) (g ∷ gs) =
    let d = fit_decides cs gs in (
      λ t. fits_at c g cs gs (and_l (code_fits c g) (codes_fit cs gs) t) (d.0 (and_r (code_fits c g) (codes_fit cs gs) t)),
      λ f. and_i (code_fits c g) (codes_fit cs gs) (f 0 (omega arith) (omega arith)) (d.1 (λ k h l. f (suc k) (omega arith) (omega arith))),
    )

pub fit_so : (base globals : List ℕ) (r : Bool) → (IsTrue r ↔ ((k : ℕ) → k < length base → k < length globals → IsTrue (code_fits (get_or base k 0) (get_or globals k 0)))) → r ≡ codes_fit base globals
fit_so base globals r h = same_from_decides r (codes_fit base globals) h (fit_decides base globals)

-- rule 11, test by test
module _ (base : List ℕ) (declared : ℕ) (globals memory : List ℕ) where
  pub lent_count : (length globals ≡ declared → ⊥) → false ≡ lent_ok base declared globals memory
  lent_count h = rw (ne_eqb (length globals) declared h)

  module _ (h : length globals ≡ declared) {t : Bool} (e : t ≡ codes_fit base globals) where
    pub lent_wide : t ≡ false → false ≡ lent_ok base declared globals memory
    lent_wide q = rw (eq-eqb (length globals) declared h, sym e ∙ q)

    pub lent_last : t ≡ true → leb (length memory) max_memory ≡ lent_ok base declared globals memory
    lent_last q = rw (eq-eqb (length globals) declared h, sym e ∙ q)

-- the bytes tell the types of the variables that are declared
parity : Bool → ℕ → ℕ → Bool
parity k g t = beq (eqb (against k t % 2) 1) (not (eqb t 0))

all_parity : (k : Bool) (g : ℕ) → every_from (parity k g) 0 4 ≡ true
unfolding parity
all_parity true g = refl
all_parity false g = refl

code_wide : (k : Bool) (g t : ℕ) → t < 4 → code_fits (against k t) g ≡ narrow_ok (bits_of t) g
unfolding parity
code_wide k g t l = ap (λ (b : Bool). b || ltb g (2 ^ 32)) (beq_same (eqb (against k t % 2) 1) (not (eqb t 0)) (ranged (parity k g) 4 0 (all_parity k g) t (omega arith) (omega arith))) ∙ go (eqb t 0)
  where
    go : (b : Bool) → (not b || ltb g (2 ^ 32)) ≡ narrow_ok (cond b 32 64) g
    go true = refl
    go false = refl

-- by the first i globals of each side
module _ (base types globals : List ℕ) (same : (v : ℕ) → v < length globals → code_fits (get_or base v 0) (get_or globals v 0) ≡ narrow_ok (bits_of (get_or types v 0)) (get_or globals v 0)) where
  upto : (n i : ℕ) → i + n ≡ length globals → length globals ≤ length base → length globals ≤ length types → codes_fit (drop i base) (drop i globals) ≡ globals_fit (drop i types) (drop i globals)
  upto zero i e l m = let h : length globals ≤ i = omega arith in let q : drop i globals ≡ [] = drop_of_length-le globals h in rw q
  upto (suc n) i e l m =
      ap₂ codes_fit (drop-cons base i 0 (omega arith)) (drop-cons globals i 0 (omega arith))
      ∙ ap₂ (λ (x y : Bool). x && y) (same i (omega arith)) (upto n (suc i) (omega arith) l m)
      ∙ sym (ap₂ globals_fit (drop-cons types i 0 (omega arith)) (drop-cons globals i 0 (omega arith)))

pub codes_fit_lem : {base classes types : List ℕ} (globals : List ℕ) → Coded base classes types empty → length globals ≤ length classes → length classes ≤ length types → length classes ≤ length base
    → codes_fit base globals ≡ globals_fit types globals
codes_fit_lem {base} {classes} {types} globals c few lt lb = upto base types globals same (length globals) 0 (zero-add (length globals)) (omega arith) (omega arith)
  where
    same : (v : ℕ) → v < length globals → code_fits (get_or base v 0) (get_or globals v 0) ≡ narrow_ok (bits_of (get_or types v 0)) (get_or globals v 0)
    same v h =
        let q : get_or base v 0 ≡ against (kept_in classes v || false) (get_or types v 0) =
        get_d_any base v 0 15 (omega arith) ∙ ap (λ (codes : ℕ → ℕ). codes v) c.codes_are ∙ rw (lt-ltb v (length classes) (omega arith)) in
        ap (λ (x : ℕ). code_fits x (get_or globals v 0)) q
        ∙ code_wide (kept_in classes v || false) (get_or globals v 0) (get_or types v 0) (c.types_small v)
