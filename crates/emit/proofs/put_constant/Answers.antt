-- A run, and the constant after it. Assumes nothing.
use mathlib.Core.Path.{refl}
use native.Mathlib.Omega.{arith}
use Rattle.ops.proofs.Shapes.{type_as_lem}
use Rattle.block.proofs.Views.{inside}
use Rattle.passes.proofs.Constants.{constant_after}
use Rattle.emit.proofs.put_constant.Goals as goal

pub bounds-op-op : goal.bounds-op-op
bounds-op-op c =
    let start = c in
    inside start.args.op.now.stands start.requires.0 1 (omega arith)

pub returns : goal.returns
returns c =
    let start = c in
    let a = start.args in (
      refl,
      constant_after start.args.op.now.stands refl start.requires.0 a.out.now a.to a.value (rw (type_as_lem _ start.args.op.now.shaped) at c.movi_kind.ensures) start.requires.1
          c.put_bytes.ensures c.put_movi.ensures,
    )
