-- Eight bytes in the other order, by halves. Assumes nothing.
use mathlib.Core.Path.{ap₂, ◌∙◌}
use Prim.Native.Nat.{ℕ, ◌+◌, ◌*◌, ◌/◌, ◌^◌}
use native.Mathlib.Omega.{arith}
use Rattle.word.proofs.Swaps.{swap_fits, swap_halves}
use Rattle.bits.proofs.swaps.bswap64.Goals as goal

pub overflow_mul-result : goal.overflow_mul-result
overflow_mul-result c = omega (arith, c.swap4.ensures, swap_fits 4 c.args.a)

pub overflow_add-result : goal.overflow_add-result
overflow_add-result c =
    let a = c.args.a in
    omega (arith, c.swap4.ensures, c.swap4-2.ensures, swap_fits 4 a, swap_fits 4 (a / 2 ^ 32))

pub returns : goal.returns
returns c = ap₂ (λ (x y : ℕ). x * 2 ^ 32 + y) c.swap4.ensures c.swap4-2.ensures ∙ swap_halves c.args.a
