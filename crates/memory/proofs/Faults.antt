-- The size of an access, whether it is aligned and inside the memory, and what a load gives and a store leaves. Assumes nothing.
use mathlib.Core.Path.{◌≡◌, refl, sym, ap, ◌∙◌}
use mathlib.Core.Bool.{Bool, true, false, cond}
use mathlib.Core.List.{List}
use Prim.Native.Nat.{ℕ, zero, suc, ◌+◌, ◌*◌, ◌%◌, ◌^◌, ◌≤◌, ◌<◌}
use native.Mathlib.Nat.{one-mul, mod-eq_of_lt}
use native.Mathlib.Omega.{arith}
use lib.Dec.{leb}
use lib.Pow.{pow_pos, pow-lt, pow_mono}
use lib.ListN.{length}
use borrow.Author.Tests.{leb-true}
use Rattle.std.specs.Prelude.{Result, Ok, Err, ⊤}
use Rattle.word.specs.Word.{extend_w}
use Rattle.memory.specs.declared.Reason.{Reason}
use Rattle.memory.specs.declared.Reason.TheVariants.{Bounds, Alignment}
use Rattle.memory.specs.Bytes.{low_first, high_first, put_low, put_high}
use Rattle.memory.specs.Access.{size_of, sign_extends, big_endian, aligned, access_at, loaded, stored}
use Rattle.memory.specs.Answer.{loaded_by, left_by}

-- what an access that is served is answered
abbrev pub served : Result ⊤ Reason
served = Ok tt

pub size_is : (f : ℕ) → (1 * 2 ^ (f % 4)) % 2 ^ 64 ≡ size_of f
size_is f = let l : f % 4 < 64 = omega arith in ap (λ (k : ℕ). k % 2 ^ 64) (one-mul (2 ^ (f % 4))) ∙ mod-eq_of_lt (pow-lt {j = 64} l)

pub sized : (f : ℕ) → (0 < size_of f) × (size_of f ≤ 8)
sized f = let l : f % 4 ≤ 3 = omega arith in (pow_pos (f % 4), pow_mono {j = 3} l)

-- the size that a match on the others leaves over
pub eight : (f : ℕ) {n : ℕ} → n ≡ size_of f → ((Unit {0} × (n ≡ 1 → ⊥)) × (n ≡ 2 → ⊥)) × (n ≡ 4 → ⊥) → n ≡ 8
eight f {n} e (((u, n1), n2), n4) = go (f % 4) e (omega arith)
  where
    go : (k : ℕ) → n ≡ 2 ^ k → k < 4 → n ≡ 8
    go zero q l = absurd (n1 q)
    go (suc zero) q l = absurd (n2 q)
    go (suc (suc zero)) q l = absurd (n4 q)
    go (suc (suc (suc zero))) q l = q
    go (suc (suc (suc (suc k)))) q l = absurd (omega arith)

-- an access that is served is inside
served_inside : (l a f : ℕ) → access_at l a f ≡ served → a + size_of f ≤ l
unfolding access_at
served_inside l a f = go (aligned a f) (leb (a + size_of f) l) refl
  where
    go : (t u : Bool) → leb (a + size_of f) l ≡ u → cond t (cond u served (Err Bounds)) (Err Alignment) ≡ served → a + size_of f ≤ l
    go true true e q = leb-true (a + size_of f) l e
    go true false e q = let z : ◌≡◌ {A = ℕ} 0 1 = cc in absurd (omega arith)
    go false u e q = let z : ◌≡◌ {A = ℕ} 0 1 = cc in absurd (omega arith)

-- of an access that is served
module _ (f a : ℕ) (m : List ℕ) (g : served ≡ access_at (length m) a f) where
  pub room : a + size_of f ≤ length m
  room = served_inside (length m) a f (sym g)

  pub load_gives : (w : ℕ) {x y : ℕ} → x ≡ cond (big_endian f) (high_first m a (size_of f)) (low_first m a (size_of f))
      → y ≡ cond (sign_extends f) (extend_w (8 * size_of f) w x) x → Ok y ≡ loaded_by (access_at (length m) a f) (loaded w f m a)
  unfolding loaded
  load_gives w p q = rw (← g, q, p) refl

  pub store_leaves : (x : ℕ) {after : List ℕ} → after ≡ cond (big_endian f) (put_high m a (size_of f) x) (put_low m a (size_of f) x)
      → (served ≡ access_at (length m) a f) × (after ≡ left_by served m (stored f m a x))
  unfolding stored
  store_leaves x p = (g, p)
