-- The pass answers and stores as the definition does. Assumes nothing.
use borrow.Author.Rules.{rules}
use native.Mathlib.Omega.{arith}
use mathlib.Core.Path.{◌≡◌, refl}
use mathlib.Core.List.{List}
use Prim.Native.Nat.{ℕ, ◌≤◌}
use lib.ListN.{length, take, length-take}
use Rattle.laid.specs.declared.Ops.{Ops}
use Rattle.passes.proofs.Passing.{ready_by, few_by, few_here, pass_refuses}
use Rattle.passes.proofs.Placing.{ready_first}
use Rattle.pass.proofs.pass_with.Goals as goal

-- the ops are as many as the places that are lent
few : {o o' : Ops} (P : List ℕ) (n : ℕ) → o ≡ o' → o'.places.now ≡ take n P → length o.places.now ≤ n
few P n e q = rw (e, q) (omega (arith, length-take n P))

pub returns-in_err-s : goal.returns-in_err-s
returns-in_err-s c = let h = pass_refuses c.args.block.now c.args.out.now c.in_err-s.ensures.answers in search (rules, h)

pub classes_of-classes-requires : goal.classes_of-classes-requires
classes_of-classes-requires c = few_by c.in_ok-s.ensures

pub invariant_of-ops : goal.invariant_of-ops
invariant_of-ops c = record { laid = (ready_first refl (ready_by c.in_ok-s.ensures _ c.classes_of-classes.ensures)).laid }

pub new-source-requires : goal.new-source-requires
new-source-requires c = ready_first refl (ready_by c.in_ok-s.ensures _ c.classes_of-classes.ensures)

pub write_in-requires : goal.write_in-requires
write_in-requires c = (omega (arith, few _ _ c.new-source.ensures.0 refl, c.if-s-le-FEW_OPS.true), omega arith)

pub write_in-requires-then-s-le-SHORT_OPS : goal.write_in-requires-then-s-le-SHORT_OPS
write_in-requires-then-s-le-SHORT_OPS c = (omega (arith, few _ _ c.new-source.ensures.0 refl, c.if-s-le-SHORT_OPS.true), omega arith)

pub write_in-requires-2 : goal.write_in-requires-2
write_in-requires-2 c = (few_here c.new-source.result.ready, omega arith)
