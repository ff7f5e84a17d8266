-- A constant is below 2^32. Assumes nothing.
use mathlib.Core.Path.{refl, ap}
use Prim.Native.Nat.{ℕ, ◌+◌, ◌^◌}
use lib.Dec.{ltb}
use Rattle.memory.proofs.Numbers.{low_slice}
use Rattle.op_tests.proofs.constant_ok.Goals as goal

pub returns : goal.returns
returns c =
    let a = c.args in
    ap (λ (x : ℕ). ltb x (2 ^ 32)) (low_slice a.block.now a.p (a.p + 8) c.from_little_endian.ensures refl)
