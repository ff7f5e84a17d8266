-- The byte of a variable, by its class. Assumes nothing.
use mathlib.Core.Path.{◌≡◌, refl}
use Prim.Native.Nat.{ℕ, zero, suc, ◌%◌, ◌^◌, ◌<◌}
use native.Mathlib.Omega.{arith}
use borrow.Author.Tests.{lt-ltb, le-ltb}
use Rattle.declarations.proofs.code.Goals as goal

-- two to the type is one more than the type
bits : (t : ℕ) → t < 2 → 2 ^ (t % 4) ≡ suc t
bits zero l = refl
bits (suc zero) l = refl
bits (suc (suc t)) l = absurd (omega arith)

pub returns-then-class-lt2 : goal.returns-then-class-lt2
returns-then-class-lt2 c = rw (lt-ltb _ _ c.if-class-lt2.true, bits c.args.ty c.requires) (omega (arith, c.requires))

pub returns-else-class-lt2 : goal.returns-else-class-lt2
returns-else-class-lt2 c = rw (le-ltb _ _ c.if-class-lt2.false, bits c.args.ty c.requires) (omega (arith, c.requires))
