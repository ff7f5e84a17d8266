-- The examples of extended basic blocks, by computation. Assumes nothing.
use mathlib.Core.Path.{refl}
use Rattle.memory.specs.Bytes.{low_first, bytes_of}
use Rattle.word.specs.Condition.{cond_w}
use Rattle.ops.specs.Eval.{logic_of}
use Rattle.ops.specs.Rows.{role_no, types_of, test_ok, table_of}
use Rattle.ops.specs.Kinds.{wide_of, computed_of, states_of, holds_of}
use Rattle.ops.specs.Table.{kind_table}
use Rattle.ops.specs.Ops.{eval_of, view_of}
use Rattle.block.specs.Checks.{first_broken, check_from, check_by}
use Rattle.block.specs.Records.{cut_by, cut_of}
use Rattle.block.specs.Rules.{rule3, rule4, rule5, rule6, rule7, rule8, rule9, rule10, rule7end, next}
use Rattle.runs.specs.Runs.{fits, run_ops, run_checked, run_by}
use Rattle.passes.specs.Passes.{pass_ops, result_of, pass_checked, pass_by}
use Rattle.cases.specs.Extended.{across, across_result, Across, ReadAfter, known_at_target, KnownAtTarget, dead_across, dead_across_result, DeadAcross}

pub across_branch : Across
unfolding Across across across_result pass_by pass_checked pass_ops result_of check_by check_from cut_of cut_by first_broken rule3 rule4 rule5 rule6 rule7 rule8 rule9 rule10 rule7end next run_by run_checked run_ops fits eval_of view_of table_of kind_table role_no types_of test_ok wide_of computed_of states_of holds_of logic_of cond_w low_first bytes_of
across_branch = (refl, refl, refl, refl, refl)

pub read_after_lem : ReadAfter
unfolding ReadAfter check_by check_from cut_of cut_by first_broken rule3 rule4 rule5 rule6 rule7 rule8 rule9 rule10 rule7end next table_of kind_table role_no types_of test_ok
read_after_lem = (refl, refl, refl, refl, refl, refl, refl)

pub known_at_target_lem : KnownAtTarget
unfolding KnownAtTarget known_at_target pass_by pass_checked pass_ops result_of check_by check_from cut_of cut_by first_broken rule3 rule4 rule5 rule6 rule7 rule8 rule9 rule10 rule7end next run_by run_checked run_ops fits eval_of view_of table_of kind_table role_no types_of test_ok wide_of computed_of states_of holds_of logic_of cond_w low_first bytes_of
known_at_target_lem = (refl, refl, refl)

pub dead_across_lem : DeadAcross
unfolding DeadAcross dead_across dead_across_result pass_by pass_checked pass_ops result_of check_by check_from cut_of cut_by first_broken rule3 rule4 rule5 rule6 rule7 rule8 rule9 rule10 rule7end next run_by run_checked run_ops fits eval_of view_of table_of kind_table role_no types_of test_ok wide_of computed_of states_of holds_of logic_of cond_w low_first bytes_of
dead_across_lem = (refl, refl, refl)
