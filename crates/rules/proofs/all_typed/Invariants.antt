-- `all_typed` tests each operand. Assumes nothing.
use Rattle.block.proofs.Operands.{Fits}
use Rattle.rules.proofs.all_typed.Given as goal

abbrev pub invariant-loop-v : goal.invariant-loop-v
invariant-loop-v l = Fits l.block l.vars l.p l.count l.count l.codes l.v-index l.rest
