-- `count_others` reads declarations after the globals. Assumes nothing.
use mathlib.Core.List.{List}
use Prim.Native.Nat.{ℕ, ◌*◌}
use Rattle.ops.specs.Rows.{Table}
use Rattle.ops.specs.Lawful.{LawfulTable}
use Rattle.block.specs.Scan.{Declaring}
use Rattle.declarations.proofs.count_others.Given as goal

abbrev pub invariant-loop-n : goal.invariant-loop-n
invariant-loop-n l = (T : Table) → LawfulTable T → (v : List ℕ) → Declaring T l.block v l.initial.vars (3 * l.globals) l.globals l.globals → Declaring T l.block v l.vars (3 * l.n) l.n l.globals
