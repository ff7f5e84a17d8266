-- Aligned accesses, by computation. Assumes nothing.
use mathlib.Core.Path.{refl}
use mathlib.Core.Bool.{true, false}
use Rattle.word.specs.Word.{extend_w}
use Rattle.memory.specs.Access.{flags_ok, aligned, access_at, loaded, stored}
use Rattle.memory.specs.Bytes.{low_first, high_first, put_low, put_high, bytes_of}
use Rattle.ops.specs.Eval.{logic_of}
use Rattle.ops.specs.Rows.{role_no, types_of, test_ok, table_of}
use Rattle.ops.specs.Kinds.{wide_of, computed_of, states_of, load_of, store_of, holds_of}
use Rattle.ops.specs.Table.{kind_table}
use Rattle.ops.specs.Ops.{eval_of, view_of}
use Rattle.block.specs.Checks.{first_broken, check_from, check_by}
use Rattle.block.specs.Records.{cut_by, cut_of}
use Rattle.block.specs.Rules.{rule3, rule4, rule5, rule6, rule7, rule8, rule9, rule10, rule7end, next}
use Rattle.runs.specs.Runs.{fits, run_ops, run_checked, run_by}
use Rattle.passes.specs.Passes.{pass_ops, result_of, pass_checked, pass_by}
use Rattle.cases.specs.Aligned.{AlignedCases, AlignedLeaves, AlignedEnds, AlignedFlags, aligned_load, aligned_result, AlignedPass}

pub aligned_cases : AlignedCases
unfolding AlignedCases check_by check_from cut_of cut_by first_broken rule3 rule4 rule5 rule6 rule7 rule8 rule9 rule10 rule7end next run_by run_checked run_ops fits eval_of view_of table_of kind_table role_no types_of test_ok states_of load_of store_of holds_of flags_ok aligned access_at loaded stored low_first put_low
aligned_cases true = refl
aligned_cases false = refl

pub aligned_leaves : AlignedLeaves
unfolding AlignedLeaves check_by check_from cut_of cut_by first_broken rule3 rule4 rule5 rule6 rule7 rule8 rule9 rule10 rule7end next run_by run_checked run_ops fits eval_of view_of table_of kind_table role_no types_of test_ok states_of load_of store_of holds_of flags_ok aligned access_at loaded stored low_first high_first put_low put_high extend_w
aligned_leaves = (refl, refl, refl, refl, refl, refl, refl, refl, refl)

pub aligned_ends : AlignedEnds
unfolding AlignedEnds check_by check_from cut_of cut_by first_broken rule3 rule4 rule5 rule6 rule7 rule8 rule9 rule10 rule7end next run_by run_checked run_ops fits eval_of view_of table_of kind_table role_no types_of test_ok states_of load_of store_of holds_of flags_ok aligned access_at
aligned_ends = (refl, refl, refl)

pub aligned_flags : AlignedFlags
unfolding AlignedFlags check_by check_from cut_of cut_by first_broken rule3 rule4 rule5 rule6 rule7 rule8 rule9 rule10 rule7end next table_of kind_table role_no types_of test_ok flags_ok
aligned_flags = (refl, refl, refl, refl)

pub aligned_pass : AlignedPass
unfolding AlignedPass aligned_load aligned_result pass_by pass_checked pass_ops result_of check_by check_from cut_of cut_by first_broken rule3 rule4 rule5 rule6 rule7 rule8 rule9 rule10 rule7end next run_by run_checked run_ops fits eval_of view_of table_of kind_table role_no types_of test_ok wide_of computed_of states_of load_of store_of holds_of logic_of flags_ok aligned access_at loaded low_first bytes_of
aligned_pass = (refl, refl, refl, refl, refl, refl)
