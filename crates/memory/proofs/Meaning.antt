-- An access is served, or fails by its alignment or by its bounds. Assumes nothing.
use mathlib.Core.Path.{◌≡◌, refl, sym, ◌∙◌}
use mathlib.Core.Bool.{Bool, true, false, cond, not, ◌||◌, false≢true}
use Prim.Native.Nat.{◌+◌, ◌/◌, ◌%◌, ◌<◌}
use native.Mathlib.Omega.{arith}
use lib.Dec.{eqb, leb}
use borrow.Author.Tests.{eqb-true, eqb-false, leb-true, leb-false, lt-ltb}
use Rattle.std.specs.Prelude.{Ok, Err}
use Rattle.memory.specs.Access.{size_of, asks_aligned, flags_ok, aligned, access_at}
use Rattle.memory.specs.Meaning.{Multiple, Means, misaligned, past_end, served, AccessMeans, WithoutBit, BitAllowed}
use Rattle.memory.specs.declared.Reason.TheVariants.{Bounds, Alignment}

pub access_means : AccessMeans
unfolding access_at aligned
access_means l a f = by (asks_aligned f) refl (eqb (a % size_of f) 0) refl
  where
    ends : (asks_aligned f ≡ true → Multiple a f) → (u : Bool) → leb (a + size_of f) l ≡ u → Means l a f (cond u (Ok tt) (Err Bounds))
    ends m true e = served m (leb-true (a + size_of f) l e)
    ends m false e = past_end m (leb-false (a + size_of f) l e)

    by : (b : Bool) → asks_aligned f ≡ b → (m : Bool) → eqb (a % size_of f) 0 ≡ m
        → Means l a f (cond (not b || m) (cond (leb (a + size_of f) l) (Ok tt) (Err Bounds)) (Err Alignment))
    by true e true q = ends (λ z. eqb-true (a % size_of f) 0 q) (leb (a + size_of f) l) refl
    by true e false q = misaligned e (eqb-false (a % size_of f) 0 q)
    by false e m q = ends (λ z. absurd (false≢true (sym e ∙ z))) (leb (a + size_of f) l) refl

pub without_bit_lem : WithoutBit
unfolding access_at aligned
without_bit_lem l a f e = rw e

pub bit_allowed : BitAllowed
unfolding flags_ok
bit_allowed w store f h =
    let high : f + 16 < 32 = omega arith in
    let low : f < 32 = omega arith in
    let size : (f + 16) % 4 ≡ f % 4 = omega arith in
    let four : (f + 16) / 4 ≡ f / 4 + 4 = omega arith in
    let sign : (f / 4 + 4) % 2 ≡ f / 4 % 2 = omega arith in
    rw (lt-ltb (f + 16) 32 high, lt-ltb f 32 low, size, four, sign)
