-- The conversions between the widths, by kind. Assumes nothing.
use Rattle.ops.proofs.Families.{convert_first, convert_rest}
use Rattle.evaluate.proofs.converted.Goals as goal

pub returns-in-5 : goal.returns-in-5
returns-in-5 c = convert_first _ c.in-5.is c.trunc_i64_i32-low.ensures c.ext_i32_i64.ensures

pub returns-in_default : goal.returns-in_default
returns-in_default c = convert_rest _ c.in_default.in_default-own.rest c.trunc_i64_i32-low.ensures c.extu_i32_i64.ensures
