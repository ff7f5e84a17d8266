-- Swapped bytes, extended. Assumes nothing.
use mathlib.Core.Path.{sym, ◌∙◌}
use Rattle.bits.proofs.Swapped.{by_sign}
use Rattle.bits.proofs.swaps.extended.Goals as goal

pub returns-then-has_os : goal.returns-then-has_os
returns-then-has_os g c =
    rw (sym c.has_os.ensures ∙ c.if-has_os.true) (by_sign g.W.Word.BITS c.args.len c.args.swapped c.requires.some c.requires.room c.requires.fits c.low.ensures c.sextract.ensures)

pub returns : goal.returns
returns g c = rw (sym c.has_os.ensures ∙ c.if-has_os.false)
