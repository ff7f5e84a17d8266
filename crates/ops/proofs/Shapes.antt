-- The digits of a shape are those of its entry: one computed test over the table. Assumes nothing.
use mathlib.Core.Path.{◌≡◌, refl, sym, ap, ◌∙◌}
use mathlib.Core.Bool.{Bool, true, cond, ◌&&◌, ◌||◌}
use mathlib.Core.List.{List, [], ◌∷◌}
use Prim.Native.Nat.{ℕ, zero, suc, ◌%◌, ◌<◌}
use native.Mathlib.Omega.{arith}
use lib.Dec.{eqb, ltb}
use lib.ListN.{get_or}
use Rattle.std.proofs.lemmas.List.{get_or_default}
use borrow.Author.Tests.{eqb-true, ltb-true, lt-ltb}
use Rattle.ops.specs.Rows.{Role, roles, unknown, computing, outs_in, ins_in, rest_in, role_in, types_in, role_no, number_of, is_computing, is_setting, is_jumping}
use Rattle.ops.specs.Roles.{role_or}
use Rattle.ops.specs.Table.{kind_table}
use Rattle.ops.specs.Plans.{each}
use Rattle.ops.specs.Shapes.{shape_of, shape_table, outs_as, type_as, ins_as, rest_as, role_as, computes_as, sets_as, jumps_as}
use Rattle.ops.proofs.Ranges.{every}
use Rattle.ops.proofs.Table.{role_read, for_each}
use Rattle.ops.proofs.Plans.{both}

-- the shape of an entry, whose role has a number below 10
pub record Shape (e s : ℕ) : Type 0 where
  pub outs_so : outs_as s ≡ outs_in e
  pub type_so : type_as s ≡ types_in e % 4
  pub ins_so : ins_as s ≡ ins_in e
  pub rest_so : rest_as s ≡ rest_in e
  pub role_so : role_as s ≡ role_in e
  pub role_small : role_in e < 10

abbrev shape_ok : ℕ → ℕ → Bool
shape_ok k e =
    let s = shape_of e in
    eqb (outs_as s) (outs_in e)
    && (eqb (type_as s) (types_in e % 4) && (eqb (ins_as s) (ins_in e) && (eqb (rest_as s) (rest_in e) && (eqb (role_as s) (role_in e) && ltb (role_in e) 10))))

shapes_right : every shape_ok 0 kind_table ≡ true
unfolding shape_of kind_table
shapes_right = refl

by_digits : (k e : ℕ) → shape_ok k e ≡ true → Shape e (shape_of e)
by_digits k e t =
    let (a1, t1) = both _ _ t in
    let (a2, t2) = both _ _ t1 in
    let (a3, t3) = both _ _ t2 in
    let (a4, t4) = both _ _ t3 in
    let (a5, a6) = both _ _ t4 in
    record {
      outs_so = eqb-true _ _ a1;
      type_so = eqb-true _ _ a2;
      ins_so = eqb-true _ _ a3;
      rest_so = eqb-true _ _ a4;
      role_so = eqb-true _ _ a5;
      role_small = ltb-true _ _ a6;
    }

pub shape : (k : ℕ) {s : ℕ} → s ≡ shape_of (get_or kind_table k 0) → Shape (get_or kind_table k 0) s
unfolding shape_of
shape k q = rw q (by_digits k (get_or kind_table k 0) (for_each shape_ok shapes_right (λ k. refl) k))

-- the table has the shape of each kind
shaped_at : (es : List ℕ) (k : ℕ) → get_or (each shape_of es) k 0 ≡ shape_of (get_or es k 0)
unfolding shape_of
shaped_at [] k = refl
shaped_at (e ∷ es) zero = refl
shaped_at (e ∷ es) (suc k) = shaped_at es k

pub shape_of_lem : {shapes : List ℕ} {s : ℕ} (k : ℕ) → s ≡ get_or shapes k 0 → shapes ≡ shape_table → s ≡ shape_of (get_or kind_table k 0)
shape_of_lem k q z = q ∙ ap (λ (ss : List ℕ). get_or ss k 0) z ∙ shaped_at kind_table k

-- what is read of a shape is what its entry says
pub outs_as_lem : (k : ℕ) {s r : ℕ} → s ≡ shape_of (get_or kind_table k 0) → r ≡ outs_as s → r ≡ outs_in (get_or kind_table k 0)
outs_as_lem k q h = h ∙ (shape k q).outs_so

pub type_as_lem : (k : ℕ) {s : ℕ} → s ≡ shape_of (get_or kind_table k 0) → type_as s ≡ types_in (get_or kind_table k 0) % 4
type_as_lem k q = (shape k q).type_so

pub ins_as_lem : (k : ℕ) {s r : ℕ} → s ≡ shape_of (get_or kind_table k 0) → r ≡ ins_as s → r ≡ ins_in (get_or kind_table k 0)
ins_as_lem k q h = h ∙ (shape k q).ins_so

pub rest_as_lem : (k : ℕ) {s r : ℕ} → s ≡ shape_of (get_or kind_table k 0) → r ≡ rest_as s → r ≡ rest_in (get_or kind_table k 0)
rest_as_lem k q h = h ∙ (shape k q).rest_so

-- no role's number is out of range
number_as : (k : ℕ) {s : ℕ} → s ≡ shape_of (get_or kind_table k 0) → role_as s ≡ number_of (role_no (role_in (get_or kind_table k 0)))
number_as k q =
    let p = shape k q in
    let n = role_in (get_or kind_table k 0) in
    p.role_so ∙ sym (ap (λ (b : Bool). cond b n 0) (lt-ltb n 10 p.role_small)) ∙ role_read n (omega arith)

pub role_as_lem : (k : ℕ) {s r : ℕ} → s ≡ shape_of (get_or kind_table k 0) → r ≡ role_as s → r ≡ number_of (role_no (role_in (get_or kind_table k 0)))
role_as_lem k q h = h ∙ number_as k q

-- the number of the role that is read of it
pub role_or_lem : (k : ℕ) {s : ℕ} {r : Role} → s ≡ shape_of (get_or kind_table k 0) → r ≡ role_or (role_as s) computing → number_of r ≡ number_of (role_no (role_in (get_or kind_table k 0)))
unfolding role_no
role_or_lem k q h =
    let p = shape k q in
    let n = role_in (get_or kind_table k 0) in
    ap number_of (h ∙ ap (λ (m : ℕ). role_or m computing) p.role_so ∙ get_or_default roles n computing unknown p.role_small)

pub computes_as_lem : (k : ℕ) {s : ℕ} → s ≡ shape_of (get_or kind_table k 0) → computes_as s ≡ is_computing (role_no (role_in (get_or kind_table k 0)))
computes_as_lem k q = ap (λ (n : ℕ). ltb 8 n) (number_as k q)

-- whether it sets a label or may jump to one
pub labels_as : (k : ℕ) {s : ℕ} → s ≡ shape_of (get_or kind_table k 0)
    → (sets_as s || jumps_as s) ≡ (let r = role_no (role_in (get_or kind_table k 0)) in is_setting r || is_jumping r)
labels_as k q = ap (λ (n : ℕ). eqb n 2 || (eqb n 3 || eqb n 5)) (number_as k q)
