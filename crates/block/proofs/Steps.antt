-- One step of the check: what a place of the block answers. Assumes nothing.
use mathlib.Core.Path.{◌≡◌, refl, ap, ◌∙◌}
use mathlib.Core.Bool.{true, false, cond}
use mathlib.Core.List.{List, [], ◌∷◌}
use Prim.Native.Nat.{ℕ, zero, suc, ◌+◌, ◌≤◌, ◌<◌}
use native.Mathlib.Omega.{arith}
use lib.Dec.{ltb}
use lib.ListN.{length, get_or, take, drop, drop_of_length-le, length-drop}
use lib.Seq.{drop-cons, length-take-le, drop-drop}
use borrow.Author.Tests.{lt-ltb, le-ltb}
use Rattle.ops.specs.Rows.{known, body_length, Table}
use Rattle.block.specs.Checks.{first_broken, rules_of, end_rules, refused_or, check_from, check_by}
use Rattle.block.specs.Records.{nothing_left, stray, cons, cut_by, cut_of}
use Rattle.block.specs.Rules.{Seen, start, next}
use Rattle.block.specs.Scan.{record_at, check_at}
use Rattle.block.specs.Checks.{Accepted, Refused}

-- any bound that is large enough gives the same cut
cut_empty : (T : Table) (n m : ℕ) → cut_by T n [] ≡ cut_by T m []
unfolding cut_by
cut_empty T zero zero = refl
cut_empty T zero (suc m) = refl
cut_empty T (suc n) zero = refl
cut_empty T (suc n) (suc m) = refl

same_bounds : (T : Table) (n m : ℕ) (bytes : List ℕ) → length bytes ≤ n → length bytes ≤ m → cut_by T n bytes ≡ cut_by T m bytes
unfolding cut_by
same_bounds T zero m [] l h = cut_empty T zero m
same_bounds T zero m (k ∷ bytes) l h = absurd (omega arith)
same_bounds T (suc n) m [] l h = cut_empty T (suc n) m
same_bounds T (suc n) zero (k ∷ bytes) l h = absurd (omega arith)
same_bounds T (suc n) (suc m) (k ∷ bytes) l h =
    rw (same_bounds T n m (drop (body_length T k) bytes) (omega (arith, length-drop (body_length T k) bytes)) (omega (arith, length-drop (body_length T k) bytes)))

-- the first record of bytes that start with a kind
pub cut_first : (T : Table) (k : ℕ) (bytes : List ℕ) → cut_of T (k ∷ bytes)
    ≡ cond (known T k) (cond (ltb (length bytes) (body_length T k)) (stray 1) (cons (k ∷ take (body_length T k) bytes) (cut_of T (drop (body_length T k) bytes)))) (stray 2)
unfolding cut_of cut_by
cut_first T k bytes =
    rw (same_bounds T (length bytes) (length (drop (body_length T k) bytes)) (drop (body_length T k) bytes) (omega (arith, length-drop (body_length T k) bytes)) (omega arith))

-- the bytes from a place on
module _ (T : Table) (b : List ℕ) (p : ℕ) (h : p < length b) where
  rest : drop p b ≡ get_or b p 0 ∷ drop (suc p) b
  rest = drop-cons b p 0 h

  pub record_is : record_at T b p ≡ get_or b p 0 ∷ take (body_length T (get_or b p 0)) (drop (suc p) b)
  record_is = rw rest

  after : (m : ℕ) → drop m (drop (suc p) b) ≡ drop (p + suc m) b
  after m = let e : suc p + m ≡ p + suc m = omega arith in drop-drop m (suc p) b ∙ ap (λ (n : ℕ). drop n b) e

  pub cut_unknown : known T (get_or b p 0) ≡ false → cut_of T (drop p b) ≡ stray 2
  cut_unknown e = ap (cut_of T) rest ∙ cut_first T (get_or b p 0) (drop (suc p) b) ∙ rw e

  pub cut_short : known T (get_or b p 0) ≡ true → length b < p + suc (body_length T (get_or b p 0)) → cut_of T (drop p b) ≡ stray 1
  cut_short e l =
      let t : ltb (length (drop (suc p) b)) (body_length T (get_or b p 0)) ≡ true = lt-ltb (length (drop (suc p) b)) (body_length T (get_or b p 0)) (omega (arith, length-drop (suc p) b)) in
      ap (cut_of T) rest ∙ cut_first T (get_or b p 0) (drop (suc p) b) ∙ rw (e, t)

  pub cut_record : known T (get_or b p 0) ≡ true → p + suc (body_length T (get_or b p 0)) ≤ length b
      → cut_of T (drop p b) ≡ cons (record_at T b p) (cut_of T (drop (p + suc (body_length T (get_or b p 0))) b))
  cut_record e l =
      let t : ltb (length (drop (suc p) b)) (body_length T (get_or b p 0)) ≡ false = le-ltb (length (drop (suc p) b)) (body_length T (get_or b p 0)) (omega (arith, length-drop (suc p) b)) in
      ap (cut_of T) rest ∙ cut_first T (get_or b p 0) (drop (suc p) b) ∙ rw (e, t, after (body_length T (get_or b p 0)), record_is)

  pub record_length : p + suc (body_length T (get_or b p 0)) ≤ length b → length (record_at T b p) ≡ suc (body_length T (get_or b p 0))
  record_length l = length-take-le (suc (body_length T (get_or b p 0))) (drop p b) (omega (arith, length-drop p b))

  module _ (s : Seen) where
    pub at_unknown : known T (get_or b p 0) ≡ false → check_at T s b p ≡ Refused 2 p
    unfolding check_at check_from
    at_unknown e = rw (cut_unknown e)

    pub at_short : known T (get_or b p 0) ≡ true → length b < p + suc (body_length T (get_or b p 0)) → check_at T s b p ≡ Refused 1 p
    unfolding check_at check_from
    at_short e l = rw (cut_short e l)

    pub at_record : known T (get_or b p 0) ≡ true → p + suc (body_length T (get_or b p 0)) ≤ length b
        → check_at T s b p ≡ refused_or (first_broken (rules_of T s (record_at T b p))) p (check_at T (next T s (record_at T b p)) b (p + suc (body_length T (get_or b p 0))))
    unfolding check_at check_from
    at_record e l = rw (cut_record e l, record_length l)

pub cut_end : (T : Table) (b : List ℕ) (p : ℕ) → length b ≤ p → cut_of T (drop p b) ≡ nothing_left
unfolding cut_of cut_by
cut_end T b p h = rw (drop_of_length-le b h)

pub at_end : (T : Table) (s : Seen) (b : List ℕ) (p : ℕ) → length b ≤ p → check_at T s b p ≡ refused_or (first_broken (end_rules s)) p Accepted
unfolding check_at check_from
at_end T s b p h = rw (cut_end T b p h)

pub at_start : (T : Table) (b : List ℕ) → check_by T b ≡ check_at T start b 0
unfolding check_by check_at
at_start T b = refl
