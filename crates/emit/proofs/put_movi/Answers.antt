-- `put_movi` stores a movi. Assumes nothing.
use mathlib.Core.Path.{sym, ap, ◌∙◌}
use Prim.Native.Nat.{◌+◌}
use native.Mathlib.Omega.{arith}
use lib.ListN.{length, length-set}
use lib.Seq.{length-sets, sets, take_all}
use Rattle.memory.proofs.Numbers.{length_bytes}
use Rattle.passes.proofs.Stores.{movi_sets}
use Rattle.emit.proofs.put_movi.Goals as goal

pub bounds-out-to-2 : goal.bounds-out-to-2
bounds-out-to-2 c = omega (arith, length-set c.args.out.now c.args.to c.args.kind, c.requires)

pub put_bytes-requires : goal.put_bytes-requires
put_bytes-requires c = simp length-set (omega (arith, ap length c.to_little_endian.ensures, length_bytes 8 c.args.value, c.requires))

pub shape_of-out : goal.shape_of-out
shape_of-out c = ap length c.put_bytes.ensures ∙ simp (length-sets, length-set)

pub returns : goal.returns
returns c =
    let a = c.args in
    let bytes = c.to_little_endian in
    let long = take_all 8 bytes.result (omega (arith, ap length bytes.ensures, length_bytes 8 a.value)) in
    movi_sets a.out.now a.to a.kind a.d a.value bytes.ensures (c.put_bytes.ensures ∙ ap (sets _ (a.to + 2)) (sym long))
