-- Rows of a table of kinds, as data. Assumes nothing.
use Rattle.std.specs.Prelude.{ℕ, zero, suc, ◌+◌, ◌*◌, ◌/◌, ◌%◌, ◌^◌, Bool, true, false, cond, not, ◌&&◌, ◌||◌, List, [], ◌∷◌, ◌++◌, eqb, leb, ltb, length, get_or}
use Rattle.memory.specs.Bytes.{low_first}
use Rattle.word.specs.Fields.{field_ok, position_ok}
use Rattle.word.specs.Swaps.{swap_flags_ok, no_flags_ok}
use Rattle.memory.specs.Access.{flags_ok}
use Rattle.ops.specs.Limits.{label_count}

-- what a kind is for. constant: a pure op that reads nothing, movi; computing: one that reads something
pub data Role : Type 0 where
  unknown declares sets_label jumps_to exits branches loads stores constant computing : Role

abbrev pub roles : List Role
roles = unknown ∷ declares ∷ sets_label ∷ jumps_to ∷ exits ∷ branches ∷ loads ∷ stores ∷ constant ∷ computing ∷ []

unfoldable pub role_no : ℕ → Role
role_no n = get_or roles n unknown

-- a row: the types of the outputs and of the inputs ("outputs first, in the order shown"), how many bytes follow them (a constant, a
-- condition, flags, a position, a length or a label), the number of their test, and the role. Types: 0 is 32 bits, 1 is 64 bits
pub record Row : Type 0 where
  pub outs : List ℕ
  pub ins : List ℕ
  pub rest : ℕ
  pub test : ℕ
  pub role : Role

abbrev pub bits_of : ℕ → ℕ
bits_of type = cond (eqb type 0) 32 64

-- a table of kinds
abbrev pub Table : Type 0
Table = ℕ → Row

-- an entry of a table in hexadecimal digits from the lowest: outputs, inputs, bytes after them, test, role; then the types, two bits each
abbrev pub entry : ℕ → ℕ → ℕ → ℕ → ℕ → ℕ → ℕ
entry outs ins rest test role types = outs + 16 * ins + 256 * rest + 4096 * test + 65536 * role + 1048576 * types

abbrev pub outs_in : ℕ → ℕ
outs_in e = e % 16

abbrev pub ins_in : ℕ → ℕ
ins_in e = e / 16 % 16

abbrev pub rest_in : ℕ → ℕ
rest_in e = e / 256 % 16

abbrev pub test_in : ℕ → ℕ
test_in e = e / 4096 % 16

abbrev pub role_in : ℕ → ℕ
role_in e = e / 65536 % 16

abbrev pub types_in : ℕ → ℕ
types_in e = e / 1048576

-- n types, the first lowest
unfoldable pub types_of : ℕ → ℕ → List ℕ
types_of zero x = []
types_of (suc n) x = x % 4 ∷ types_of n (x / 4)

abbrev pub row_in : ℕ → Row
row_in e =
    record {
      outs = types_of (outs_in e) (types_in e);
      ins = types_of (ins_in e) (types_in e / 4 ^ outs_in e);
      rest = rest_in e;
      test = test_in e;
      role = role_no (role_in e);
    }

unfoldable pub table_of : List ℕ → Table
table_of kinds k = row_in (get_or kinds k 0)

-- "a body whose length the kind fixes"
abbrev pub body_of : Row → ℕ
body_of row = length row.outs + length row.ins + row.rest

-- columns of a role, by its number: it is known; it is a pure op's, of these one's that reads nothing, or something ("An op of kinds 05 to 07 or
-- 11 to 29 (either width)", and 2D to 36); it ends the extended basic block ("Set_label, br and exit_tb end everything as before"); it sets a label; it may jump to one
abbrev pub number_of : Role → ℕ
number_of unknown = 0
number_of declares = 1
number_of sets_label = 2
number_of jumps_to = 3
number_of exits = 4
number_of branches = 5
number_of loads = 6
number_of stores = 7
number_of constant = 8
number_of computing = 9

abbrev pub is_known : Role → Bool
is_known r = ltb 0 (number_of r)

abbrev pub is_pure : Role → Bool
is_pure r = ltb 7 (number_of r)

abbrev pub is_constant : Role → Bool
is_constant r = eqb (number_of r) 8

abbrev pub is_computing : Role → Bool
is_computing r = ltb 8 (number_of r)

abbrev pub is_closing : Role → Bool
is_closing r = ltb (number_of r) 5

abbrev pub is_setting : Role → Bool
is_setting r = eqb (number_of r) 2

abbrev pub is_jumping : Role → Bool
is_jumping r = eqb (number_of r) 3 || eqb (number_of r) 5

-- what a table says of a kind
abbrev pub role_of : Table → ℕ → Role
role_of T k = (T k).role

abbrev pub known : Table → ℕ → Bool
known T k = is_known (role_of T k)

abbrev pub body_length : Table → ℕ → ℕ
body_length T k = body_of (T k)

abbrev pub output_count : Table → ℕ → ℕ
output_count T k = length (T k).outs

abbrev pub operand_types : Table → ℕ → List ℕ
operand_types T k = (T k).outs ++ (T k).ins

abbrev pub operand_count : Table → ℕ → ℕ
operand_count T k = length (operand_types T k)

abbrev pub pure_kind : Table → ℕ → Bool
pure_kind T k = is_pure (role_of T k)

abbrev pub at : List ℕ → ℕ → ℕ
at xs i = get_or xs i 0

-- refused: "cond above 9", a label beyond the limit, a 32-bit value "of 2^32 or more"
abbrev pub cond_ok : ℕ → Bool
cond_ok c = leb c 9

abbrev pub label_ok : ℕ → Bool
label_ok l = ltb l label_count

abbrev pub narrow_ok : ℕ → ℕ → Bool
narrow_ok w x = not (eqb w 32) || ltb x (2 ^ 32)

-- refusal 6: the tests of the bytes after the operands, by number; 0 asks nothing
unfoldable pub test_ok : ℕ → List ℕ → Bool
test_ok t bytes =
    cond (eqb t 1) (label_ok (at bytes 0))
    (cond (eqb t 2) (cond_ok (at bytes 0))
    (cond (eqb t 3) (cond_ok (at bytes 0) && label_ok (at bytes 1))
    (cond (eqb t 4) (flags_ok 32 false (at bytes 0))
    (cond (eqb t 5) (flags_ok 64 false (at bytes 0))
    (cond (eqb t 6) (flags_ok 32 true (at bytes 0))
    (cond (eqb t 7) (flags_ok 64 true (at bytes 0))
    (cond (eqb t 8) (ltb (low_first bytes 0 8) (2 ^ 32))
    (cond (eqb t 9) (field_ok 32 (at bytes 0) (at bytes 1))
    (cond (eqb t 10) (field_ok 64 (at bytes 0) (at bytes 1))
    (cond (eqb t 11) (position_ok 32 (at bytes 0))
    (cond (eqb t 12) (position_ok 64 (at bytes 0))
    (cond (eqb t 13) (swap_flags_ok (at bytes 0))
    (cond (eqb t 14) (no_flags_ok (at bytes 0))
    true)))))))))))))

-- how many bytes a test asks for
abbrev pub asks_for : ℕ → ℕ
asks_for t = cond (eqb t 0 || ltb 14 t) 0 (cond (eqb t 3 || (eqb t 9 || eqb t 10)) 2 (cond (eqb t 8) 8 1))
