-- What the kinds that a step tells apart are, by computed tests over the table. Assumes nothing.
use mathlib.Core.Path.{◌≡◌, refl, sym, ap, ◌∙◌, subst}
use mathlib.Core.Bool.{Bool, true, false, ◌&&◌, ◌||◌}
use mathlib.Core.List.{List}
use mathlib.Core.Logic.{⊎_elim, ◌⊎◌, inl, inr}
use Prim.Native.Nat.{ℕ, zero, suc, ◌+◌, ◌≤◌, ◌<◌}
use native.Mathlib.Omega.{arith}
use lib.Dec.{eqb, ltb}
use lib.ListN.{get_or}
use borrow.Author.Tests.{ltb-true, ne_eqb}
use Rattle.theory.proofs.Sets.{and_l, and_r}
use Rattle.ops.specs.Rows.{Role, sets_label, jumps_to, exits, branches, loads, stores, constant, computing, role_no, table_of, is_computing, number_of, role_of, body_length}
use Rattle.ops.specs.Kinds.{between}
use Rattle.ops.specs.Table.{kind_table, row_of}
use Rattle.ops.proofs.Inputs.{outside}
use Rattle.ops.proofs.Ranges.{every_from, ranged, agreed}
use Rattle.ops.proofs.Table.{number_of_lem, same_number}
use Rattle.block.specs.Scan.{Stands}
use Rattle.runs.specs.Evaluates.{Computed}
use Rattle.runs.specs.Steps.{next_at, plain_kind}

-- the kinds that compute
abbrev pub computes : ℕ → Bool
computes k = between 0x05 0x07 k || (between 0x11 0x29 k || (between 0x91 0xA9 k || (between 0x2D 0x32 k || (between 0x34 0x36 k || between 0xAD 0xB6 k))))

computes_so : (k : ℕ) → k < 256 → is_computing (role_of row_of k) ≡ computes k
unfolding table_of kind_table role_no
computes_so = agreed (λ k. is_computing (role_of row_of k)) computes 256 refl

computing_only : (r : Role) → is_computing r ≡ true → r ≡ computing
computing_only r h = same_number r computing (omega (arith, ltb-true 8 (number_of r) h, (number_of_lem r).1))

-- a kind that is written out
module _ {b : List ℕ} {p kind k : ℕ} (s : Stands row_of b p kind) (e : kind ≡ k) where
  pub computed : (ltb k 256 && computes k) ≡ true → Computed b p k
  computed t =
      let small : k < 256 = ltb-true k 256 (and_l (ltb k 256) (computes k) t) in
      record {
        stands = subst (Stands row_of b p) e s;
        role_is = computing_only (role_of row_of k) (computes_so k small ∙ and_r (ltb k 256) (computes k) t);
      }

-- what a match on n numbers from lo leaves over, of what was left before
abbrev pub Past : Type 0 → ℕ → ℕ → ℕ → Type 0
Past B lo zero k = B
Past B lo (suc n) k = Past B lo n k × (k ≡ lo + n → ⊥)

past : (B : Type 0) (lo n k : ℕ) → Past B lo n k → lo ≤ k → k < lo + n → ⊥
past B lo zero k r l h = omega arith
past B lo (suc n) k (r, e) l h = past B lo n k r l (omega arith)

before : (B : Type 0) (lo n k : ℕ) → Past B lo n k → B
before B lo zero k r = r
before B lo (suc n) k (r, e) = before B lo n k r

pub not_between : (B : Type 0) (lo n k : ℕ) → Past B lo (suc n) k → between lo (lo + n) k ≡ false
not_between B lo n k r = outside lo (lo + n) k (λ l h. past B lo (suc n) k r l (omega arith))

-- of the narrow kinds, and of the wide
pub not_narrow : (k : ℕ) → Past (Past (Unit {0}) 0x05 3 k) 0x11 25 k → (between 0x05 0x07 k ≡ false) × (between 0x11 0x29 k ≡ false)
not_narrow k r = (not_between (Unit {0}) 0x05 2 k (before (Past (Unit {0}) 0x05 3 k) 0x11 25 k r), not_between (Past (Unit {0}) 0x05 3 k) 0x11 24 k r)

pub not_wide : (k : ℕ) → Past (Unit {0}) 0x91 25 k → between 0x91 0xA9 k ≡ false
not_wide k r = not_between (Unit {0}) 0x91 24 k r

-- what is left does not compute
pub computes_not : (k : ℕ) → k < 256 → between 0x05 0x07 k ≡ false → between 0x11 0x29 k ≡ false → between 0x91 0xA9 k ≡ false
    → Past (Past (Past (Unit {0}) 0x2D 6 k) 0x34 3 k) 0xAD 10 k → is_computing (role_of row_of k) ≡ false
computes_not k small l m n r =
    let fields = Past (Unit {0}) 0x2D 6 k in
    let low = Past fields 0x34 3 k in
    let r₁ : low = before low 0xAD 10 k r in
    computes_so k small
    ∙ rw (l, m, n, not_between (Unit {0}) 0x2D 5 k (before fields 0x34 3 k r₁), not_between fields 0x34 2 k r₁, not_between low 0xAD 9 k r)

-- a plain kind that does not compute is no op's
pub no_op_lem : (k : ℕ) → plain_kind k ≡ true → is_computing (role_of row_of k) ≡ false → number_of (role_of row_of k) < 2
no_op_lem k t f = ltb-true (number_of (role_of row_of k)) 2 (rw f at t)

-- the kinds that do not compute, by role
module _ {k : ℕ} where
  pub constant_kinds : (k ≡ 0x10) ⊎ (k ≡ 0x90) → role_of row_of k ≡ constant
  unfolding table_of kind_table role_no
  constant_kinds = ⊎_elim (ap (role_of row_of)) (ap (role_of row_of))

  pub load_kinds : (k ≡ 0x2B) ⊎ (k ≡ 0xAB) → role_of row_of k ≡ loads
  unfolding table_of kind_table role_no
  load_kinds = ⊎_elim (ap (role_of row_of)) (ap (role_of row_of))

  pub store_kinds : (k ≡ 0x2C) ⊎ (k ≡ 0xAC) → role_of row_of k ≡ stores
  unfolding table_of kind_table role_no
  store_kinds = ⊎_elim (ap (role_of row_of)) (ap (role_of row_of))

  pub branch_kinds : (k ≡ 0x2A) ⊎ (k ≡ 0xAA) → role_of row_of k ≡ branches
  unfolding table_of kind_table role_no
  branch_kinds = ⊎_elim (ap (role_of row_of)) (ap (role_of row_of))

  pub label_kind : k ≡ 0x02 → role_of row_of k ≡ sets_label
  unfolding table_of kind_table role_no
  label_kind = ap (role_of row_of)

  pub jump_kind : k ≡ 0x03 → role_of row_of k ≡ jumps_to
  unfolding table_of kind_table role_no
  jump_kind = ap (role_of row_of)

  pub exit_kind : k ≡ 0x04 → role_of row_of k ≡ exits
  unfolding table_of kind_table role_no
  exit_kind = ap (role_of row_of)

abbrev directs : ℕ → Bool
directs k =
    eqb k 0x10 || (eqb k 0x90 || (eqb k 0x2B || (eqb k 0xAB || (eqb k 0x2C || (eqb k 0xAC || (eqb k 0x2A || (eqb k 0xAA || (eqb k 0x02 || (eqb k 0x03 || eqb k 0x04)))))))))

all_plain : every_from (λ k. directs k || plain_kind k) 0 256 ≡ true
unfolding table_of kind_table role_no
all_plain = refl

-- every other kind is plain
abbrev pub Others : ℕ → Type 0
Others k =
    ((((((Unit {0} × ((k ≡ 0x10) ⊎ (k ≡ 0x90) → ⊥)) × ((k ≡ 0x2B) ⊎ (k ≡ 0xAB) → ⊥)) × ((k ≡ 0x2C) ⊎ (k ≡ 0xAC) → ⊥)) × ((k ≡ 0x2A) ⊎ (k ≡ 0xAA) → ⊥))
    × (k ≡ 0x02 → ⊥)) × (k ≡ 0x03 → ⊥)) × (k ≡ 0x04 → ⊥)

pub plain_else : (k : ℕ) → k < 256 → Others k → plain_kind k ≡ true
plain_else k h (((((((u, movi), load), store), branch), label), jump), leaves) =
    let t : (directs k || plain_kind k) ≡ true = ranged (λ j. directs j || plain_kind j) 256 0 all_plain k (omega arith) h in
    rw (
      ne_eqb k 0x10 (λ e. movi (inl e)),
      ne_eqb k 0x90 (λ e. movi (inr e)),
      ne_eqb k 0x2B (λ e. load (inl e)),
      ne_eqb k 0xAB (λ e. load (inr e)),
      ne_eqb k 0x2C (λ e. store (inl e)),
      ne_eqb k 0xAC (λ e. store (inr e)),
      ne_eqb k 0x2A (λ e. branch (inl e)),
      ne_eqb k 0xAA (λ e. branch (inr e)),
      ne_eqb k 0x02 label,
      ne_eqb k 0x03 jump,
      ne_eqb k 0x04 leaves,
    ) at t

-- the next op's place, from the length of the body
pub next_is : {b : List ℕ} {p k : ℕ} → Stands row_of b p k → (n : ℕ) → body_length row_of k ≡ n → p + suc n ≡ next_at b p
next_is {p = p} s n h = ap (λ (m : ℕ). p + suc m) (sym h ∙ ap (body_length row_of) s.its_kind)

-- an entry of the lent table
pub entry_is : {kinds : List ℕ} {e : ℕ} (k : ℕ) → kinds ≡ kind_table → e ≡ get_or kinds k 0 → e ≡ get_or kind_table k 0
entry_is k q h = h ∙ ap (λ (kinds : List ℕ). get_or kinds k 0) q
