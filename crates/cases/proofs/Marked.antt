-- The marked cases hold of the definitions, by computation. Assumes nothing.
use mathlib.Core.Path.{refl}
use Rattle.word.specs.Condition.{lts_w, les_w, cond_w}
use Rattle.word.specs.Word.{sar_w, divs_w, rems_w, extend_w, by_divisor, by_signed, by_count}
use Rattle.memory.specs.Access.{flags_ok, aligned, access_at, loaded}
use Rattle.memory.specs.Bytes.{low_first, high_first}
use Rattle.ops.specs.Eval.{convert_of, unary_of, logic_of, divide_of, shift_of, setcond_of, movcond_of}
use Rattle.ops.specs.Rows.{role_no, types_of, test_ok, table_of}
use Rattle.ops.specs.Kinds.{wide_of, computed_of, states_of}
use Rattle.ops.specs.Table.{kind_table}
use Rattle.ops.specs.Kinds.{load_of, store_of, holds_of}
use Rattle.ops.specs.Ops.{eval_of, view_of}
use Rattle.block.specs.Checks.{first_broken, check_from, check_by}
use Rattle.block.specs.Records.{cut_by, cut_of}
use Rattle.block.specs.Rules.{rule3, rule4, rule5, rule6, rule7, rule8, rule9, rule10, rule7end, next}
use Rattle.runs.specs.Runs.{fits, run_ops, run_checked, run_by}
use Rattle.cases.specs.Marked.{marked_cases, MarkedCases}

pub marked_cases_lem : MarkedCases
unfolding MarkedCases marked_cases check_by check_from cut_of cut_by first_broken rule3 rule4 rule5 rule6 rule7 rule8 rule9 rule10 rule7end next run_by run_checked run_ops fits eval_of view_of table_of kind_table role_no types_of test_ok wide_of computed_of states_of load_of store_of holds_of convert_of unary_of logic_of divide_of shift_of setcond_of movcond_of cond_w lts_w les_w by_divisor by_signed by_count divs_w rems_w sar_w extend_w flags_ok aligned access_at loaded low_first high_first
marked_cases_lem g = refl
