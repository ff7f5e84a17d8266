-- The limits, by computation. Assumes nothing.
use mathlib.Core.Path.{refl}
use Rattle.memory.specs.Bytes.{low_first}
use Rattle.ops.specs.Rows.{role_no, types_of, test_ok, table_of}
use Rattle.ops.specs.Table.{kind_table}
use Rattle.block.specs.Checks.{first_broken, check_from, check_by}
use Rattle.block.specs.Records.{cut_by, cut_of}
use Rattle.block.specs.Rules.{rule3, rule4, rule5, rule6, rule7, rule8, rule9, rule10, rule7end, next}
use Rattle.cases.specs.Limits.{Variables, Ops, Labels, Size}

pub variables : Variables
unfolding Variables check_by check_from cut_of cut_by first_broken rule3 rule4 rule5 rule6 rule7 rule8 rule9 rule10 rule7end next table_of kind_table role_no types_of test_ok
variables = (refl, refl, refl)

pub ops : Ops
unfolding Ops check_by check_from cut_of cut_by first_broken rule3 rule4 rule5 rule6 rule7 rule8 rule9 rule10 rule7end next table_of kind_table role_no types_of test_ok
ops = (refl, refl)

pub labels : Labels
unfolding Labels check_by check_from cut_of cut_by first_broken rule3 rule4 rule5 rule6 rule7 rule8 rule9 rule10 rule7end next table_of kind_table role_no types_of test_ok
labels = (refl, refl, refl, refl)

pub size : Size
unfolding Size check_by check_from cut_of cut_by first_broken rule3 rule4 rule5 rule6 rule7 rule8 rule9 rule10 rule7end next table_of kind_table role_no types_of test_ok low_first
size = (refl, refl)
