-- The bytes of an access stored, in either order. Assumes nothing.
use mathlib.Core.Path.{◌∙◌, sym}
use native.Mathlib.Omega.{arith}
use borrow.Author.Rules.{rules}
use Rattle.memory.proofs.Faults.{eight}
use Rattle.memory.proofs.Parts.{writes_part}
use Rattle.memory.proofs.write.Goals as goal

pub slice_bounds-put_number-end-in_default : goal.slice_bounds-put_number-end-in_default
slice_bounds-put_number-end-in_default c = let size = eight c.args.flags.bits c.size.ensures.value c.in_default.in_default-own.rest in search rules

pub returns-in-1 : goal.returns-in-1
returns-in-1 c = writes_part _ _ 1 c.args.flags.bits (omega (arith, c.requires, sym c.in-1.is ∙ c.size.ensures.value)) (sym c.in-1.is ∙ c.size.ensures.value) c.big_endian-big.ensures _ c.put_number.ensures

pub returns-in-2 : goal.returns-in-2
returns-in-2 c = writes_part _ _ 2 c.args.flags.bits (omega (arith, c.requires, sym c.in-2.is ∙ c.size.ensures.value)) (sym c.in-2.is ∙ c.size.ensures.value) c.big_endian-big.ensures _ c.put_number-in-2.ensures

pub returns-in-4 : goal.returns-in-4
returns-in-4 c = writes_part _ _ 4 c.args.flags.bits (omega (arith, c.requires, sym c.in-4.is ∙ c.size.ensures.value)) (sym c.in-4.is ∙ c.size.ensures.value) c.big_endian-big.ensures _ c.put_number-in-4.ensures

pub returns-in_default : goal.returns-in_default
returns-in_default c =
    let size = sym (eight c.args.flags.bits c.size.ensures.value c.in_default.in_default-own.rest) ∙ c.size.ensures.value in
    writes_part _ _ 8 c.args.flags.bits (omega arith) size c.big_endian-big.ensures _ c.put_number-in_default.ensures
