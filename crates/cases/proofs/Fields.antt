-- Bit fields, swaps and counts, by computation; 000's examples of every value. Assumes nothing.
use mathlib.Core.Path.{refl, sym}
use lib.Dec.{lit<, lit≤}
use Rattle.memory.specs.Bytes.{low_first, bytes_of}
use Rattle.word.specs.Word.{extend_w}
use Rattle.word.specs.Fields.{by_field, by_position, deposit_w, extract_w, sextract_w, extract2_w}
use Rattle.word.specs.Swaps.{swap_flags_ok, swap_bytes, bswap_w, by_input, highest_one, lowest_one, ones_among, clz_w, ctz_w, ctpop_w}
use Rattle.word.proofs.FieldLeaves.{moved_signed}
use Rattle.ops.specs.Eval.{deposit_of, extract_of, extract2_of, swap_of, count_of, ctpop_of}
use Rattle.ops.specs.Rows.{role_no, types_of, test_ok, table_of}
use Rattle.ops.specs.Kinds.{wide_of, computed_of, states_of}
use Rattle.ops.specs.Table.{kind_table}
use Rattle.ops.specs.Ops.{eval_of, view_of}
use Rattle.block.specs.Checks.{first_broken, check_from, check_by}
use Rattle.block.specs.Records.{cut_by, cut_of}
use Rattle.block.specs.Rules.{rule3, rule4, rule5, rule6, rule7, rule8, rule9, rule10, rule7end, next}
use Rattle.runs.specs.Runs.{fits, run_ops, run_checked, run_by}
use Rattle.passes.specs.Passes.{pass_ops, result_of, pass_checked, pass_by}
use Rattle.cases.specs.Fields.{Document000, FieldCases, SwapCases, CountCases, FieldLimits, NarrowLimits, field_block, field_result, FieldBlock, not_extended, known_not_extended, NotExtended}

pub document_000 : Document000
unfolding Document000 deposit_w
document_000 = (λ t1 t2. refl, λ t1. sym (moved_signed 32 8 4 t1 (lit≤ tt) (lit< tt)))

pub field_cases : FieldCases
unfolding FieldCases computed_of wide_of deposit_of extract_of extract2_of swap_of count_of ctpop_of by_field by_position by_input deposit_w extract_w sextract_w extract2_w bswap_w swap_bytes clz_w ctz_w ctpop_w highest_one lowest_one ones_among extend_w
field_cases = refl

pub swap_cases : SwapCases
unfolding SwapCases computed_of wide_of deposit_of extract_of extract2_of swap_of count_of ctpop_of by_field by_position by_input deposit_w extract_w sextract_w extract2_w bswap_w swap_bytes clz_w ctz_w ctpop_w highest_one lowest_one ones_among extend_w
swap_cases = refl

pub count_cases : CountCases
unfolding CountCases computed_of wide_of deposit_of extract_of extract2_of swap_of count_of ctpop_of by_field by_position by_input deposit_w extract_w sextract_w extract2_w bswap_w swap_bytes clz_w ctz_w ctpop_w highest_one lowest_one ones_among extend_w
count_cases = refl

pub field_limits : FieldLimits
unfolding FieldLimits check_by check_from cut_of cut_by first_broken rule3 rule4 rule5 rule6 rule7 rule8 rule9 rule10 rule7end next table_of kind_table role_no types_of test_ok swap_flags_ok
field_limits = (refl, refl, refl, refl, refl, refl, refl, refl, refl, refl, refl, refl, refl, refl, refl, refl)

pub narrow_limits : NarrowLimits
unfolding NarrowLimits check_by check_from cut_of cut_by first_broken rule3 rule4 rule5 rule6 rule7 rule8 rule9 rule10 rule7end next table_of kind_table role_no types_of test_ok swap_flags_ok
narrow_limits = (refl, refl, refl, refl, refl, refl, refl, refl, refl, refl, refl)

pub field_block_lem : FieldBlock
unfolding FieldBlock field_block field_result pass_by pass_checked pass_ops result_of check_by check_from cut_of cut_by first_broken rule3 rule4 rule5 rule6 rule7 rule8 rule9 rule10 rule7end next run_by run_checked run_ops fits eval_of view_of table_of kind_table role_no types_of test_ok swap_flags_ok wide_of computed_of states_of deposit_of extract_of extract2_of swap_of count_of ctpop_of by_field by_position by_input deposit_w extract_w sextract_w extract2_w bswap_w swap_bytes clz_w ctz_w ctpop_w highest_one lowest_one ones_among extend_w low_first bytes_of
field_block_lem = (refl, refl, refl)

pub not_extended_lem : NotExtended
unfolding NotExtended not_extended known_not_extended pass_by pass_checked pass_ops result_of check_by check_from cut_of cut_by first_broken rule3 rule4 rule5 rule6 rule7 rule8 rule9 rule10 rule7end next run_by run_checked run_ops fits eval_of view_of table_of kind_table role_no types_of test_ok swap_flags_ok wide_of computed_of states_of deposit_of extract_of extract2_of swap_of count_of ctpop_of by_field by_position by_input deposit_w extract_w sextract_w extract2_w bswap_w swap_bytes clz_w ctz_w ctpop_w highest_one lowest_one ones_among extend_w low_first bytes_of
not_extended_lem = (refl, refl, refl)
