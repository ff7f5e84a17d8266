-- What a fast test of an op goes by, worked out from the entry of its kind and held in one number: its plan. Assumes nothing.
use Rattle.std.specs.Prelude.{ℕ, suc, ◌+◌, ◌*◌, ◌/◌, ◌%◌, ◌^◌, Bool, true, false, cond, not, ◌&&◌, ◌||◌, List, [], ◌∷◌, eqb, ltb, leb, get_or}
use Rattle.ops.specs.Rows.{outs_in, ins_in, rest_in, test_in, role_in, types_in, types_of}
use Rattle.ops.specs.Table.{kind_table}

-- a variable's byte has a bit for each thing that speaks against its use: bit t that it has not the type t, bit 4 that it may not be read.
-- What an operand of a type asks: that none of these bits is there; an output need only have the type
abbrev pub ask : Bool → ℕ → ℕ
ask output type = cond output (2 ^ type) (2 ^ type + 16)

-- the type of the i-th operand
abbrev pub type_in : ℕ → ℕ → ℕ
type_in e i = get_or (types_of (outs_in e + ins_in e) (types_in e)) i 0

-- no op: unknown, or a declaration
abbrev pub no_op : ℕ → Bool
no_op e = ltb (role_in e) 2

-- the length of the record, 15 if it is no op
abbrev pub length_by : ℕ → ℕ
length_by e = cond (no_op e) 15 (1 + (outs_in e + ins_in e + rest_in e))

-- what the output asks, and the first two inputs (one twice); and where these stand in the record
abbrev pub out_ask_by : ℕ → ℕ
out_ask_by e = cond (ltb 0 (outs_in e)) (ask true (type_in e 0)) 0

abbrev pub second_by : ℕ → ℕ
second_by e = cond (ltb 1 (ins_in e)) (suc (outs_in e)) (outs_in e)

abbrev pub in_ask_by : ℕ → ℕ → ℕ
in_ask_by e i = cond (ltb 0 (ins_in e)) (ask false (type_in e i)) 0

abbrev pub in_at_by : ℕ → ℕ → ℕ
in_at_by e i = cond (ltb 0 (ins_in e)) (1 + i) 1

-- the test of one byte after the operands, that of a branch being its condition's; 1, which no byte passes, if it is no op; what a test asks of a
-- byte, a bit for its number, none for test 0; and where the byte stands
abbrev pub byte_test_by : ℕ → ℕ
byte_test_by e = let t = test_in e in cond (no_op e) 1 (cond (eqb t 3) 2 (cond (ltb 1 t && ltb t 8) t 0))

abbrev pub ask_of : ℕ → ℕ
ask_of t = cond (eqb t 0) 0 (2 ^ t)

-- what else is asked: 1, that the constant is below 2^32; 2, of the label; 3, of two more inputs; 4, the test by its number, of the bytes after the operands
abbrev pub more_by : ℕ → ℕ
more_by e = cond (eqb (ins_in e) 4) 3 (cond (eqb (test_in e) 8) 1 (cond (eqb (test_in e) 1 || eqb (test_in e) 3) 2 (cond (ltb 8 (test_in e)) 4 0)))

abbrev pub byte_at_by : ℕ → ℕ
byte_at_by e = cond (eqb (byte_test_by e) 0 && not (eqb (more_by e) 4)) 0 (1 + (outs_in e + ins_in e))

-- the plan, in digits from the lowest
unfoldable pub plan_of : ℕ → ℕ
plan_of e =
    length_by e + 2 ^ 4 * out_ask_by e + 2 ^ 8 * in_ask_by e (outs_in e) + 2 ^ 13 * in_ask_by e (second_by e) + 2 ^ 18 * in_at_by e (outs_in e) + 2 ^ 20 * in_at_by e (second_by e)
    + 2 ^ 22 * byte_at_by e + 2 ^ 25 * ask_of (byte_test_by e) + 2 ^ 33 * more_by e + 2 ^ 36 * test_in e

-- its digits
abbrev pub length_in : ℕ → ℕ
length_in h = h % 16

abbrev pub out_ask_in : ℕ → ℕ
out_ask_in h = h / 16 % 16

abbrev pub first_ask_in : ℕ → ℕ
first_ask_in h = h / 256 % 32

abbrev pub second_ask_in : ℕ → ℕ
second_ask_in h = h / 8192 % 32

abbrev pub first_at_in : ℕ → ℕ
first_at_in h = h / 262144 % 4

abbrev pub second_at_in : ℕ → ℕ
second_at_in h = h / 1048576 % 4

abbrev pub byte_at_in : ℕ → ℕ
byte_at_in h = h / 4194304 % 8

abbrev pub byte_ask_in : ℕ → ℕ
byte_ask_in h = h / 33554432 % 256

abbrev pub more_in : ℕ → ℕ
more_in h = h / 8589934592 % 8

abbrev pub test_as : ℕ → ℕ
test_as h = h / 68719476736 % 16

-- kinds that stand for all that have the same entry: first those of which nothing else is asked, last those that direct the run, and of these
-- first brcond, then those that end an extended basic block: exit_tb, br and set_label
abbrev pub stands_for : List ℕ
stands_for =
    0x2b ∷ 0xab ∷ 0x2c ∷ 0xac ∷ 0x90 ∷ 0x05 ∷ 0x07 ∷ 0x11 ∷ 0x91 ∷ 0x14 ∷ 0x94 ∷ 0x28 ∷ 0xa8
    ∷ 0x29 ∷ 0xa9 ∷ 0x10 ∷ 0x2d ∷ 0xad ∷ 0x2e ∷ 0xae ∷ 0x30 ∷ 0xb0 ∷ 0x31 ∷ 0xb1 ∷ 0x32 ∷ 0xb3
    ∷ 0x2a ∷ 0xaa ∷ 0x04 ∷ 0x03 ∷ 0x02 ∷ []

-- the rank of an entry is its place among theirs, 255 if it is none of an op
abbrev pub rank_among : ℕ → List ℕ → ℕ
rank_among e [] = 0
rank_among e (k ∷ ks) = cond (eqb e (get_or kind_table k 0)) 0 (suc (rank_among e ks))

unfoldable pub rank_of : ℕ → ℕ
rank_of e = cond (no_op e) 255 (rank_among e stands_for)

unfoldable pub plan_at : ℕ → ℕ
plan_at n = plan_of (get_or kind_table (get_or stands_for n 0) 0)

-- what a rank tells: below the first of these nothing else is asked; from the second on, brcond's, an op directs the run; from exit_tb's on it
-- ends the extended basic block; the last is set_label's
abbrev pub straight_end : ℕ
straight_end = 13

abbrev pub flow_rank : ℕ
flow_rank = 26

abbrev pub exit_rank : ℕ
exit_rank = 28

abbrev pub setting_rank : ℕ
setting_rank = 30

-- an op that directs the run has a label, unless it is exit_tb
abbrev pub has_label : ℕ → Bool
has_label n = leb flow_rank n && not (eqb n exit_rank)

-- the entry of the kind at a place of a block
abbrev pub entry_at : List ℕ → ℕ → ℕ
entry_at block place = get_or kind_table (get_or block place 0) 0

-- tables of what each entry gives
abbrev pub each : (ℕ → ℕ) → List ℕ → List ℕ
each f [] = []
each f (e ∷ es) = f e ∷ each f es

abbrev pub rank_table : List ℕ
rank_table = each rank_of kind_table

abbrev pub length_table : List ℕ
length_table = each length_by kind_table
