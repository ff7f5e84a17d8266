-- One of OZ and OS: 2 to 5. Assumes nothing.
use mathlib.Core.Path.{◌∙◌}
use Prim.Native.Nat.{◌<◌}
use borrow.Author.Tests.{lt-leb}
use native.Mathlib.Omega.{arith}
use Rattle.word.proofs.Swaps.{flags_over, flags_under}
use Rattle.immediates.proofs.swap_flags_ok.Goals as goal

pub returns-then-flags-ge2 : goal.returns-then-flags-ge2
returns-then-flags-ge2 c = flags_over c.args.flags (omega arith)

pub returns-else-flags-ge2 : goal.returns-else-flags-ge2
returns-else-flags-ge2 c =
    let low : c.args.flags < 2 = omega arith in
    lt-leb 2 c.args.flags low ∙ flags_under c.args.flags low
