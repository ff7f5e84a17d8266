-- The family of a kind. Assumes nothing.
use mathlib.Core.Path.{sym, ap, ◌∙◌}
use mathlib.Core.Logic.{inl, inr}
use native.Mathlib.Nat.{le_of_suc-le-suc}
use native.Mathlib.Omega.{arith}
use Rattle.std.specs.Prelude.{Some, cond}
use Rattle.word.specs.Swaps.{swap_bytes}
use Rattle.ops.proofs.Families.{states_unary, states_logic, states_divide, states_shift, states_setcond, states_movcond, states_deposit, states_extract, states_sextract, states_extract2}
use Rattle.ops.proofs.Families.{states_swap2, states_swap4, states_whole8, states_clz, states_ctz, states_ctpop, states_none, no_whole8}
use Rattle.evaluate.proofs.families.family.Goals as goal

pub returns-in-40 : goal.returns-in-40
returns-in-40 g c = states_setcond g.W.Word.BITS _ _ _ _ _ _ c.in-40.is c.first.ensures c.holds.ensures c.choose.ensures

pub returns-in-41 : goal.returns-in-41
returns-in-41 g c = states_movcond g.W.Word.BITS _ _ _ _ _ _ c.in-41.is c.first-in-41.ensures c.holds-in-41.ensures (c.choose-in-41.ensures ∙ (λ i. cond c.holds-in-41.result (c.number.ensures.value i) (c.number-in-41.ensures.value i)))

pub returns-in-45 : goal.returns-in-45
returns-in-45 g c = states_deposit g.W.Word.BITS _ _ _ _ _ _ c.first-in-45.ensures c.byte_at.ensures c.in-45.is c.deposit.ensures

pub returns-in-46 : goal.returns-in-46
returns-in-46 g c = states_extract g.W.Word.BITS _ _ _ _ _ _ c.first-in-46.ensures c.byte_at-in-46.ensures c.in-46.is c.extract.ensures

pub returns-in-47 : goal.returns-in-47
returns-in-47 g c = states_sextract g.W.Word.BITS _ _ _ _ _ _ c.first-in-47.ensures c.byte_at-in-47.ensures c.in-47.is c.sextract.ensures

pub returns-in-48 : goal.returns-in-48
returns-in-48 g c = states_extract2 g.W.Word.BITS _ _ _ _ _ _ c.first-in-48.ensures c.in-48.is c.extract2.ensures

pub returns-in-49 : goal.returns-in-49
returns-in-49 g c = states_swap2 g.W.Word.BITS _ _ _ _ _ _ (omega (arith, g.met.W.Word.widths)) c.first-in-49.ensures c.in-49.is c.bswap16.ensures

pub returns-in-50 : goal.returns-in-50
returns-in-50 g c = states_swap4 g.W.Word.BITS _ _ _ _ _ _ (omega (arith, g.met.W.Word.widths)) c.first-in-50.ensures c.in-50.is c.bswap32.ensures

pub returns-then-BITS-eq64 : goal.returns-then-BITS-eq64
returns-then-BITS-eq64 g c =
    states_whole8 g.W.Word.BITS _ _ _ _ _ _ (omega arith) (rw (sym c.number-then-BITS-eq64.ensures.value) c.number-then-BITS-eq64.ensures.fits) c.in-51.is
    (c.bswap64.ensures ∙ ap (swap_bytes 8) c.number-then-BITS-eq64.ensures.value)

pub returns-else-BITS-eq64 : goal.returns-else-BITS-eq64
returns-else-BITS-eq64 g c = no_whole8 g.W.Word.BITS _ _ _ _ _ _ (omega (arith, g.met.W.Word.widths)) c.in-51.is

pub returns-in-52 : goal.returns-in-52
returns-in-52 g c = states_clz g.W.Word.BITS _ _ _ _ _ _ c.in-52.is c.clz.ensures

pub returns-in-53 : goal.returns-in-53
returns-in-53 g c = states_ctz g.W.Word.BITS _ _ _ _ _ _ c.in-53.is c.ctz.ensures

pub returns-in-54 : goal.returns-in-54
returns-in-54 g c = states_ctpop g.W.Word.BITS _ _ _ _ _ _ c.in-54.is c.ctpop.ensures

pub returns-in-17-to-19 : goal.returns-in-17-to-19
returns-in-17-to-19 g c = states_unary g.W.Word.BITS _ _ _ _ _ _ c.in-17-to-19.if-k-lt17-own.false (le_of_suc-le-suc c.in-17-to-19.if-k-lt20-own.true) (ap Some c.number-in-17-to-19.ensures.value ∙ c.unary.ensures)

pub returns-in-20-to-30 : goal.returns-in-20-to-30
returns-in-20-to-30 g c = states_logic g.W.Word.BITS _ _ _ _ _ _ c.in-20-to-30.if-k-lt20-own.false (le_of_suc-le-suc c.in-20-to-30.if-k-lt31-own.true) (ap Some c.number-in-20-to-30.ensures.value ∙ c.logic.ensures)

pub returns-in-31-to-34 : goal.returns-in-31-to-34
returns-in-31-to-34 g c = states_divide g.W.Word.BITS _ _ _ _ _ _ c.in-31-to-34.if-k-lt31-own.false (le_of_suc-le-suc c.in-31-to-34.if-k-lt35-own.true) c.divide.ensures

pub returns-in-35-to-39 : goal.returns-in-35-to-39
returns-in-35-to-39 g c = states_shift g.W.Word.BITS _ _ _ _ _ _ c.in-35-to-39.if-k-lt35-own.false (le_of_suc-le-suc c.in-35-to-39.if-k-lt40-own.true) c.shift.ensures

pub returns-in_default : goal.returns-in_default
returns-in_default g c = states_none g.W.Word.BITS _ _ _ _ _ _ c.in_default.in_default-own.rest (inl c.in_default.if-k-lt17-own.true)

pub returns-in_default-2 : goal.returns-in_default-2
returns-in_default-2 g c = states_none g.W.Word.BITS _ _ _ _ _ _ c.in_default.in_default-own.rest (inr c.in_default.if-k-lt40-own.false)
