-- An accepted block, as the scan tells it. Assumes nothing.
use Rattle.std.specs.Prelude.{◌≡◌, cond, List, ℕ, ◌≤◌, ltb, length}
use Rattle.block.specs.Checks.{check_of}
use Rattle.block.specs.Records.{records_of, record_bytes, declarations, ops_from, classes_of}
use Rattle.block.specs.Rules.{globals_in, kept_in}
use Rattle.block.specs.Scan.{codes_in}
use Rattle.block.specs.Checks.{Accepted}
use Rattle.ops.specs.Table.{row_of}
use Rattle.passes.specs.Laid.{ops_at, place_of, Laid}
use Rattle.passes.specs.Live.{Classed}

-- the class of the v-th variable, which has this byte at the start of an extended basic block, where so many are globals
abbrev pub class_by : ℕ → ℕ → ℕ → ℕ
class_by code v globals = cond (ltb v globals) 0 (cond (ltb code 15) 1 2)

abbrev pub class_in : List ℕ → ℕ → ℕ → ℕ
class_in base globals v = class_by (codes_in base v) v globals

-- an array of classes that holds these, and is 2 for all that are not declared
pub record ClassesOf (declared classes : List ℕ) : Type 0 where
  pub few : Classed classes
  pub globals_so : globals_in classes ≡ globals_in declared
  pub kept_so : kept_in classes ≡ kept_in declared

-- where its ops start and each of them stands, how many there are, and the classes of its variables
pub record ReadyToPass (block places classes : List ℕ) (start ops : ℕ) : Type 0 where
  pub accepted : check_of block ≡ Accepted
  pub start_is : start ≡ length (record_bytes (declarations (records_of row_of block)))
  pub first_is : place_of block places ops 0 ≡ start
  pub laid : Laid block places ops
  pub ops_are : ops_at block places 0 ops ≡ ops_from (records_of row_of block)
  pub count_is : ops ≡ length (ops_from (records_of row_of block))
  pub held : ops ≤ length places
  pub classes_are : ClassesOf (classes_of (declarations (records_of row_of block))) classes
