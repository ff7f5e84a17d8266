-- Sign extension, by the reading at 32 bits. Assumes nothing.
use mathlib.Core.Path.{ap, ◌∙◌}
use Prim.Native.Nat.{ℕ, ◌%◌, ◌^◌}
use native.Mathlib.Nat.{mod-eq_of_lt}
use lib.Dec.{lit≤}
use lib.IntN.{ℤ}
use mir.Syntax.{w64}
use mir.Val.{to_z, of_z}
use mir.Facts.{to_z-of_z}
use Rattle.word.specs.Word.{bits_w}
use Rattle.word.proofs.Fits.{extend_fits}
use Rattle.word.proofs.Widen.{reading_fits, extended}
use Rattle.widths.proofs.convert.ext_i32_i64.Goals as goal

pub returns : goal.returns
returns c =
    let s = c in
    let read = ap (λ (z : ℤ). to_z w64 (of_z w64 z)) c.to_signed.ensures ∙ to_z-of_z (reading_fits s.ranges.a) in
    c.to_bits.ensures ∙ ap (λ (n : ℕ). n % 2 ^ 64) (ap (bits_w 64) read ∙ extended s.args.a s.ranges.a)
    ∙ mod-eq_of_lt (extend_fits 32 64 s.args.a (lit≤ tt) s.ranges.a.fits)
