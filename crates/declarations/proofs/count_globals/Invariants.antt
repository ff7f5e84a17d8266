-- `count_globals` reads declarations of globals. Assumes nothing.
use Prim.Native.Nat.{◌*◌}
use Rattle.ops.specs.Rows.{Table}
use Rattle.ops.specs.Lawful.{LawfulTable}
use Rattle.block.specs.Scan.{Declaring}
use Rattle.declarations.proofs.count_globals.Given as goal

abbrev pub invariant-loop-n : goal.invariant-loop-n
invariant-loop-n l = (T : Table) → LawfulTable T → Declaring T l.block l.initial.vars l.vars (3 * l.n) l.n l.n
