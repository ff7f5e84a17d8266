-- The rules of the record at a place of a block, in terms of the block's bytes and the scan's arrays. Assumes nothing.
use mathlib.Core.Path.{◌≡◌, refl}
use mathlib.Core.Bool.{true}
use mathlib.Core.List.{List, [], ◌∷◌, ◌++◌}
use Prim.Native.Nat.{ℕ, suc, ◌+◌, ◌≤◌}
use lib.Dec.{ltb}
use lib.ListN.{length, get_or}
use Rattle.theory.proofs.Sets.{and_l, and_r}
use Rattle.ops.specs.Rows.{Table}
use Rattle.ops.specs.Rows.{body_length}
use Rattle.ops.specs.Fields.{kind_of}
use Rattle.block.specs.Rules.{all_below}
use Rattle.block.specs.Scan.{record_at}
use Rattle.block.proofs.Views.{kind_byte}

-- its kind is the byte at the place
pub kind_at : (T : Table) (b : List ℕ) (p : ℕ) → p + suc (body_length T (get_or b p 0)) ≤ length b → kind_of (record_at T b p) ≡ get_or b p 0
kind_at T b p h = kind_byte {T = T} (record { its_kind = refl; whole = h })

-- the first of variables that are all below n
pub below_left : (n : ℕ) (xs ys : List ℕ) → all_below n (xs ++ ys) ≡ true → all_below n xs ≡ true
below_left n [] ys h = refl
below_left n (x ∷ xs) ys h = rw (and_l (ltb x n) (all_below n (xs ++ ys)) h) (below_left n xs ys (and_r (ltb x n) (all_below n (xs ++ ys)) h))
