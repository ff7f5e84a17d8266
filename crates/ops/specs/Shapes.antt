-- What the passes ask of an op, taken from the entry of its kind and held in 16 bits: its shape. Assumes nothing.
use Rattle.std.specs.Prelude.{ℕ, ◌+◌, ◌*◌, ◌/◌, ◌%◌, Bool, ◌||◌, List, eqb, ltb}
use Rattle.ops.specs.Rows.{outs_in, ins_in, rest_in, role_in, types_in}
use Rattle.ops.specs.Table.{kind_table}
use Rattle.ops.specs.Plans.{each, entry_at}

-- the shape, in digits from the lowest: the outputs, the type of the first operand, the inputs, the bytes after the operands, the role's number
unfoldable pub shape_of : ℕ → ℕ
shape_of e = outs_in e + 4 * (types_in e % 4) + 16 * ins_in e + 256 * rest_in e + 4096 * role_in e

abbrev pub shape_table : List ℕ
shape_table = each shape_of kind_table

-- that of the kind at a place of a block
abbrev pub shape_at : List ℕ → ℕ → ℕ
shape_at block place = shape_of (entry_at block place)

-- its digits
abbrev pub outs_as : ℕ → ℕ
outs_as s = s % 4

abbrev pub type_as : ℕ → ℕ
type_as s = s / 4 % 4

abbrev pub ins_as : ℕ → ℕ
ins_as s = s / 16 % 16

abbrev pub rest_as : ℕ → ℕ
rest_as s = s / 256 % 16

abbrev pub role_as : ℕ → ℕ
role_as s = s / 4096

-- the op is pure; it computes; it sets a label; it may jump to one
abbrev pub pure_as : ℕ → Bool
pure_as s = ltb 7 (role_as s)

abbrev pub computes_as : ℕ → Bool
computes_as s = ltb 8 (role_as s)

abbrev pub sets_as : ℕ → Bool
sets_as s = eqb (role_as s) 2

abbrev pub jumps_as : ℕ → Bool
jumps_as s = eqb (role_as s) 3 || eqb (role_as s) 5
