-- The ops that are kept, by their marks. Assumes nothing.
use mathlib.Core.Path.{◌≡◌, refl, ap₂}
use mathlib.Core.Bool.{cond}
use mathlib.Core.List.{List, [], ◌∷◌}
use Prim.Native.Nat.{ℕ, suc, ◌≤◌, ◌<◌}
use native.Mathlib.Omega.{arith}
use lib.Dec.{ltb}
use lib.ListN.{length, get_or, drop, set, drop_of_length-le}
use lib.Seq.{get_or-set_other}
use borrow.Author.Tests.{lt-ltb, le-ltb}
use Rattle.passes.specs.Laid.{kept_from}

-- those from the i-th on
pub kept_more : (i : ℕ) (marks : List ℕ) (o : List ℕ) (os : List (List ℕ)) → get_or marks i 0 < 2 → kept_from i marks (o ∷ os) ≡ o ∷ kept_from (suc i) marks os
unfolding kept_from
kept_more i marks o os h = rw (lt-ltb (get_or marks i 0) 2 h)

pub kept_less : (i : ℕ) (marks : List ℕ) (o : List ℕ) (os : List (List ℕ)) → 2 ≤ get_or marks i 0 → kept_from i marks (o ∷ os) ≡ kept_from (suc i) marks os
unfolding kept_from
kept_less i marks o os h = rw (le-ltb (get_or marks i 0) 2 h)

pub kept_none : (i : ℕ) (marks : List ℕ) (os : List (List ℕ)) → length os ≤ i → kept_from i marks (drop i os) ≡ []
unfolding kept_from
kept_none i marks os h = rw (drop_of_length-le os h)

-- marks before the i-th do not matter
pub kept_later : (i j x : ℕ) (marks : List ℕ) (os : List (List ℕ)) → j < i → kept_from i (set marks j x) os ≡ kept_from i marks os
unfolding kept_from
kept_later i j x marks [] h = refl
kept_later i j x marks (o ∷ os) h =
    ap₂ (λ (k : ℕ) (more : List (List ℕ)). cond (ltb k 2) (o ∷ more) more) (get_or-set_other marks j i x 0 (λ e. omega arith)) (kept_later (suc i) j x marks os (omega arith))
