-- The table of kinds is document 01's, by computation over all 256 kinds. Assumes nothing.
use mathlib.Core.Path.{refl}
use Rattle.ops.specs.Rows.{role_no, types_of, table_of}
use Rattle.ops.specs.Table.{kind_table}
use Rattle.cases.specs.Table.{KindTable}

pub kind_table_lem : KindTable
unfolding KindTable table_of kind_table role_no types_of
kind_table_lem = refl
