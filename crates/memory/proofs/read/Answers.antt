-- The bytes of an access, in either order. Assumes nothing.
use mathlib.Core.Path.{◌∙◌, sym}
use native.Mathlib.Omega.{arith}
use borrow.Author.Rules.{rules}
use Rattle.memory.proofs.Faults.{eight}
use Rattle.memory.proofs.Parts.{reads_part}
use Rattle.memory.proofs.read.Goals as goal

pub slice_bounds-number-end-in_default : goal.slice_bounds-number-end-in_default
slice_bounds-number-end-in_default c = let size = eight c.args.flags.bits c.size.ensures.value c.in_default.in_default-own.rest in search rules

pub returns-in-1-clause-value : goal.returns-in-1-clause-value
returns-in-1-clause-value c = reads_part _ _ 1 c.args.flags.bits (omega (arith, c.requires, sym c.in-1.is ∙ c.size.ensures.value)) (sym c.in-1.is ∙ c.size.ensures.value) c.big_endian-big.ensures c.number.ensures.value

pub returns-in-2-clause-value : goal.returns-in-2-clause-value
returns-in-2-clause-value c = reads_part _ _ 2 c.args.flags.bits (omega (arith, c.requires, sym c.in-2.is ∙ c.size.ensures.value)) (sym c.in-2.is ∙ c.size.ensures.value) c.big_endian-big.ensures c.number-in-2.ensures.value

pub returns-in-4-clause-value : goal.returns-in-4-clause-value
returns-in-4-clause-value c = reads_part _ _ 4 c.args.flags.bits (omega (arith, c.requires, sym c.in-4.is ∙ c.size.ensures.value)) (sym c.in-4.is ∙ c.size.ensures.value) c.big_endian-big.ensures c.number-in-4.ensures.value

pub returns-in_default-clause-value : goal.returns-in_default-clause-value
returns-in_default-clause-value c =
    let size = sym (eight c.args.flags.bits c.size.ensures.value c.in_default.in_default-own.rest) ∙ c.size.ensures.value in
    reads_part _ _ 8 c.args.flags.bits (omega arith) size c.big_endian-big.ensures c.number-in_default.ensures.value

pub returns-in_default-clause-bound : goal.returns-in_default-clause-bound
returns-in_default-clause-bound c = let size = eight c.args.flags.bits c.size.ensures.value c.in_default.in_default-own.rest in search rules
