-- `count_others` reads declarations after the globals. Assumes nothing.
use mathlib.Core.Path.{◌≡◌, sym, subst}
use mathlib.Core.Bool.{false}
use Prim.Native.Nat.{ℕ, ◌+◌, ◌*◌}
use native.Mathlib.Omega.{arith}
use lib.ListN.{get_or}
use Rattle.block.specs.Scan.{declares_global}
use Rattle.block.proofs.Declaring.{next_other, stops_at, no_more_room}
use Rattle.declarations.proofs.count_others.Goals as goal

pub returns-then-not-declares_other : goal.returns-then-not-declares_other
returns-then-not-declares_other c =
    let b = c.args.block.now in
    let n = c.loop-n.n in (
      c.loop-n.invariant,
      stops_at b n c.args.globals c.declares_other.ensures c.if-not-declares_other.true
          (λ q. subst (λ (n : ℕ). declares_global (get_or b (3 * n) 0) (get_or b (3 * n + 1) 0) (get_or b (3 * n + 2) 0) ≡ false) (sym q) (c.requires.1 (omega (arith, q)))),
      omega arith,
    )

pub loop-n-preserved : goal.loop-n-preserved
loop-n-preserved c T law v x = next_other law (c.loop-n.invariant T law v x) (omega arith) (omega arith) c.declares_other.ensures c.if-not-declares_other.false c.code.ensures

pub returns : goal.returns
returns c =
    let all : c.loop-n.n ≡ c.args.limit = omega arith in
    rw (sym all) (c.loop-n.invariant, no_more_room c.args.block.now c.loop-n.n c.args.globals c.requires.2 c.loop-n-test.false, omega arith)
