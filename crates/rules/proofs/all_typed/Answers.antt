-- `all_typed` tests each operand. Assumes nothing.
use mathlib.Core.Path.{◌≡◌, ap, ◌∙◌}
use mathlib.Core.Bool.{Bool, true, false}
use mathlib.Core.List.{List}
use Prim.Native.Nat.{ℕ, ◌+◌, ◌-◌, ◌/◌, ◌%◌, ◌≤◌, ◌<◌}
use native.Mathlib.Omega.{arith}
use lib.Dec.{ltb}
use lib.ListN.{length, get_or, take, drop, length-drop}
use lib.Seq.{get_or-take, get_or-drop, length-take-le}
use borrow.Author.Tests.{lt-ltb}
use Rattle.ops.specs.Rows.{at}
use Rattle.ops.specs.Fields.{bytes_at}
use Rattle.ops.specs.Plans.{ask}
use Rattle.block.specs.Scan.{codes_in, meets, fits_as, operands_fit}
use Rattle.block.proofs.Operands.{Fits, fits_next, fits_stops, fits_ends}
use Rattle.rules.proofs.all_typed.Goals as goal

-- the bytes of the operands, as the loop's slice
abbrev operands : List ℕ → ℕ → ℕ → List ℕ
operands b p n = take (p + n - p) (drop p b)

long : (b : List ℕ) (p n : ℕ) → p + n ≤ length b → length (operands b p n) ≡ n
long b p n h = length-take-le (p + n - p) (drop p b) (omega (arith, length-drop p b)) ∙ omega arith

-- one turn of the loop: the operand at the index, its byte, and the test of it as an output
module _ {b vars : List ℕ} {p n i codes rest asked code : ℕ} {r : Bool} (l : Fits b vars p n n codes i rest) (w : p + n ≤ length b) (t : i < length (operands b p n))
    (e : code ≡ codes_in vars (get_or (operands b p n) i 0)) (a : asked ≡ ask true (rest % 4)) (f : r ≡ meets asked code) where
  inside : i < n
  inside = omega (arith, long b p n w)

  its_byte : code ≡ codes_in vars (at b (p + i))
  its_byte = e ∙ ap (codes_in vars) (get_or-take (p + n - p) (drop p b) i 0 (omega (arith, inside)) ∙ get_or-drop p b i 0)

  as_output : r ≡ fits_as (ltb i n) code (rest % 4)
  as_output = rw (lt-ltb i n inside, ← a) f

  next : r ≡ true → Fits b vars p n n codes (i + 1) (rest / 4)
  next = fits_next l inside its_byte as_output

  stops : r ≡ false → false ≡ operands_fit vars n codes (bytes_at b p n)
  stops = fits_stops l inside its_byte as_output

pub returns-then-not-meets : goal.returns-then-not-meets
returns-then-not-meets c = stops c.loop-v.invariant c.requires c.loop-v-test.true c.code.ensures c.type_ask.ensures c.meets.ensures c.if-not-meets.true

pub loop-v-preserved : goal.loop-v-preserved
loop-v-preserved c = next c.loop-v.invariant c.requires c.loop-v-test.true c.code.ensures c.type_ask.ensures c.meets.ensures c.if-not-meets.false

pub returns : goal.returns
returns c = fits_ends c.loop-v.invariant (omega (arith, long c.args.block.now c.args.p c.args.count c.requires, c.loop-v-test.false))
