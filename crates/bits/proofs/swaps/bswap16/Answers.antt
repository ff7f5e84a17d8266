-- 16 bits in the other order, extended as the flags say. Assumes nothing.
use Rattle.word.proofs.Swaps.{swap_fits}
use Rattle.bits.proofs.Swapped.{unstated, swapped}
use Rattle.bits.proofs.swaps.bswap16.Goals as goal

pub returns-then-not-input_ok : goal.returns-then-not-input_ok
returns-then-not-input_ok g c = unstated g.W.Word.BITS 2 _ c.number-x.ensures.value c.input_ok.ensures c.if-not-input_ok.true

pub extended-requires-clause-fits : goal.extended-requires-clause-fits
extended-requires-clause-fits g c = rw c.swap2.ensures (swap_fits 2 c.number-x.result)

pub returns : goal.returns
returns g c = swapped g.W.Word.BITS 2 _ c.number-x.ensures.value c.input_ok.ensures c.if-not-input_ok.false c.swap2.ensures c.extended.ensures
