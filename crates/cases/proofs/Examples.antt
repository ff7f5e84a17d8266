-- Case 12, and the examples of the mistakes, by computation. Assumes nothing.
use mathlib.Core.Path.{refl}
use Rattle.word.specs.Word.{by_divisor}
use Rattle.memory.specs.Access.{flags_ok, aligned, access_at, loaded}
use Rattle.memory.specs.Bytes.{low_first, bytes_of}
use Rattle.ops.specs.Eval.{unary_of, logic_of, divide_of}
use Rattle.ops.specs.Rows.{role_no, types_of, test_ok, table_of}
use Rattle.ops.specs.Kinds.{wide_of, computed_of, states_of}
use Rattle.ops.specs.Table.{kind_table}
use Rattle.ops.specs.Kinds.{load_of, store_of, holds_of}
use Rattle.ops.specs.Ops.{eval_of, view_of}
use Rattle.block.specs.Checks.{first_broken, check_from, check_by}
use Rattle.block.specs.Records.{cut_by, cut_of}
use Rattle.block.specs.Rules.{rule3, rule4, rule5, rule6, rule7, rule8, rule9, rule10, rule7end, next}
use Rattle.runs.specs.Runs.{fits, run_ops, run_checked, run_by}
use Rattle.passes.specs.Passes.{pass_ops, result_of, pass_checked, pass_by}
use Rattle.cases.specs.Examples.{source12, result12, Case12, write_before_load, dead_load, load_into_global, division_by_zero, known_at_label, Mistakes}

pub case_12 : Case12
unfolding Case12 source12 result12 pass_by pass_checked pass_ops result_of check_by check_from cut_of cut_by first_broken rule3 rule4 rule5 rule6 rule7 rule8 rule9 rule10 rule7end next run_by run_checked run_ops fits eval_of view_of table_of kind_table role_no types_of test_ok wide_of computed_of states_of load_of store_of holds_of unary_of logic_of low_first bytes_of
case_12 = (refl, refl, refl)

pub mistakes : Mistakes
unfolding Mistakes write_before_load dead_load load_into_global division_by_zero known_at_label pass_by pass_checked pass_ops result_of check_by check_from cut_of cut_by first_broken rule3 rule4 rule5 rule6 rule7 rule8 rule9 rule10 rule7end next run_by run_checked run_ops fits eval_of view_of table_of kind_table role_no types_of test_ok wide_of computed_of states_of load_of store_of holds_of unary_of logic_of divide_of by_divisor flags_ok aligned access_at loaded low_first bytes_of
mistakes = (refl, refl, refl, refl, refl, refl, refl, refl, refl, refl)
