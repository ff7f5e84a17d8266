-- A computing op is evaluated where all its inputs are known. Assumes nothing.
use mathlib.Core.Path.{refl, ap₂}
use Prim.Native.Nat.{ℕ, ◌+◌}
use native.Mathlib.Omega.{arith}
use lib.ListN.{get_or}
use Rattle.ops.proofs.Shapes.{outs_as_lem, ins_as_lem, rest_as_lem}
use Rattle.block.specs.Scan.{marked}
use Rattle.passes.proofs.Before.{operands_inside}
use Rattle.passes.proofs.Counts.{computing_in}
use Rattle.passes.proofs.Knowing.{computed_at, states_known, unknown_states}
use Rattle.fold.proofs.stated_by.Goals as goal

pub all_known-requires : goal.all_known-requires
all_known-requires c =
    let s = c in
    (omega (arith, operands_inside s.args.op.now.stands refl, (ins_as_lem _ c.args.op.now.shaped c.ins-inputs.ensures), (outs_as_lem _ c.args.op.now.shaped c.outs-outputs.ensures)), omega (arith, computing_in (get_or s.args.op.now.block.now s.args.op.now.at 0) refl s.requires, (ins_as_lem _ c.args.op.now.shaped c.ins-inputs.ensures)))

pub evaluate-requires : goal.evaluate-requires
evaluate-requires c =
    let k = c in
    let s = k in
    ((computed_at s.args.op.now.stands refl s.requires), ap₂ (λ (n m : ℕ). n + m) (outs_as_lem _ k.args.op.now.shaped k.outs-outputs.ensures) (ins_as_lem _ k.args.op.now.shaped k.ins-inputs.ensures), rest_as_lem _ s.args.op.now.shaped c.rest.ensures)

pub returns-then-all_known : goal.returns-then-all_known
returns-then-all_known c =
    let k = c in
    let s = k in
    states_known (computed_at s.args.op.now.stands refl s.requires) refl (marked s.args.known.now) s.args.values.now (outs_as_lem _ k.args.op.now.shaped k.outs-outputs.ensures) (ins_as_lem _ k.args.op.now.shaped k.ins-inputs.ensures) c.all_known.ensures c.if-all_known.true c.evaluate.ensures

pub returns : goal.returns
returns c =
    let k = c in
    let s = k in
    unknown_states (computed_at s.args.op.now.stands refl s.requires) refl (marked s.args.known.now) s.args.values.now (outs_as_lem _ k.args.op.now.shaped k.outs-outputs.ensures) (ins_as_lem _ k.args.op.now.shaped k.ins-inputs.ensures) c.all_known.ensures c.if-all_known.false
