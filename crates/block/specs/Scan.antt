-- What the scan's arrays hold. Assumes nothing.
use Rattle.std.specs.Prelude.{◌≡◌, Bool, true, false, cond, not, ◌&&◌, ◌||◌, List, [], ◌∷◌, ◌++◌, ℕ, zero, suc, ◌+◌, ◌-◌, ◌*◌, ◌/◌, ◌%◌, ◌^◌, ◌≤◌, ◌<◌, min, eqb, ltb, leb, length, get_or, take, drop, set, replicate, Err}
use Rattle.std.specs.Int.Bits.{bit_and}
use Rattle.theory.specs.Sets.{All, Vars, empty, has}
use Rattle.ops.specs.Rows.{known, body_length, Table}
use Rattle.ops.specs.Limits.{max_variables, max_ops, label_count}
use Rattle.ops.specs.Plans.{ask, length_in, out_ask_in, first_ask_in, second_ask_in, first_at_in, second_at_in, byte_at_in, more_in, test_as, setting_rank, has_label, exit_rank, plan_at}
use Rattle.memory.specs.Bytes.{low_first}
use Rattle.ops.specs.Rows.{Row, outs_in, ins_in, rest_in, test_in, role_in, types_in, row_in, role_no, is_known, is_closing, is_setting, is_jumping, test_ok}
use Rattle.ops.specs.Fields.{row_at, bytes_at, outs_by, label_by}
use Rattle.block.specs.Checks.{Verdict, Accepted, Finding, asks, first_broken, rules_of, check_from, check_by}
use Rattle.block.specs.Records.{cut_of, records_of, record_bytes, is_declaration, declarations, ops_from, class_of, type_of, classes_of, declared_types, global_count}
use Rattle.block.specs.Rules.{Seen, kept_in, label_free, marked_by, all_set}
use Rattle.block.specs.declared.Refusal.{Refusal}

-- the record that starts at a place
abbrev pub record_at : Table → List ℕ → ℕ → List ℕ
record_at T block place = take (suc (body_length T (get_or block place 0))) (drop place block)

-- a whole record of this kind starts at the place
pub record Stands (T : Table) (block : List ℕ) (place kind : ℕ) : Type 0 where
  pub its_kind : kind ≡ get_or block place 0
  pub whole : place + suc (body_length T kind) ≤ length block

-- ys is xs with x at the place i, which is inside
pub record SetAt {A : Type 0} (xs : List A) (i : ℕ) (x : A) (ys : List A) : Type 0 where
  pub inside : i < length xs
  pub becomes : ys ≡ set xs i x

-- the same where i is below the limit of labels, else nothing
pub record SetLabelAt {A : Type 0} (xs : List A) (i : ℕ) (x : A) (ys : List A) : Type 0 where
  pub below : i < label_count → SetAt xs i x ys
  pub beyond : label_count ≤ i → ys ≡ xs

-- the check's answer from a place on, after what has been seen
unfoldable pub check_at : Table → Seen → List ℕ → ℕ → Verdict
check_at T s block place = check_from T s place (cut_of T (drop place block)).records (cut_of T (drop place block)).tail

-- the byte of each variable, a bit for each thing that speaks against its use: bit t that it has not the type t, bit 4 that it may not be
-- read (rules 4, 5 and 8 in one); it has no type if it is not declared
abbrev pub codes_in : List ℕ → ℕ → ℕ
codes_in vars v = get_or vars v 15

abbrev pub against : Bool → ℕ → ℕ
against readable type = cond readable (15 - 2 ^ type) (31 - 2 ^ type)

abbrev pub code_of : List ℕ → List ℕ → Vars → ℕ → ℕ
code_of classes types written v = cond (ltb v (length classes)) (against (kept_in classes v || written v) (get_or types v 0)) 15

pub record Coded (vars classes types : List ℕ) (written : Vars) : Type 0 where
  pub codes_are : codes_in vars ≡ code_of classes types written
  pub types_small : (v : ℕ) → get_or types v 0 < 4
  pub inside : (v : ℕ) → length classes ≤ v → written v ≡ false

-- none of the bits that are asked for is there
abbrev pub meets : ℕ → ℕ → Bool
meets asked code = eqb (bit_and (code % 32) asked) 0

-- a variable with this byte may be read at a type; an output need only have it
abbrev pub fits_as : Bool → ℕ → ℕ → Bool
fits_as output code type = meets (ask output type) code

-- each operand fits, outputs first; the types are two bits of the number each, the first operand's lowest
unfoldable pub operands_fit : List ℕ → ℕ → ℕ → List ℕ → Bool
operands_fit vars outs codes [] = true
operands_fit vars outs codes (v ∷ vs) = fits_as (ltb 0 outs) (codes_in vars v) (codes % 4) && operands_fit vars (outs - 1) (codes / 4) vs

-- each is declared
abbrev pub declared_all : List ℕ → List ℕ → Bool
declared_all vars [] = true
declared_all vars (v ∷ vs) = not (eqb (codes_in vars v % 16) 15) && declared_all vars vs

-- the bytes once some variables are written: they may be read
abbrev pub opened : ℕ → ℕ
opened code = code % 16

abbrev pub open_all : (ℕ → ℕ) → List ℕ → ℕ → ℕ
open_all codes vs v = cond (has vs v) (opened (codes v)) (codes v)

-- the variables whose byte is 1; the labels whose number is not 0
abbrev pub marked : List ℕ → Vars
marked bytes v = eqb (get_or bytes v 0) 1

abbrev pub numbered : List ℕ → Vars
numbered numbers l = not (eqb (get_or numbers l 0) 0)

-- the labels' numbers once an op has been read: a label's is one more than its op's
abbrev pub labelled_by : Row → ℕ → ℕ → List ℕ → List ℕ
labelled_by row l op labels = cond (is_setting row.role) (set labels l (op + 1)) labels

pub record LabelledAs (row : Row) (l op : ℕ) (labels labels' : List ℕ) : Type 0 where
  pub labels_so : numbered labels' ≡ marked_by (is_setting row.role) (numbered labels) l
  pub numbers_so : labels' ≡ labelled_by row l op labels

-- the labels jumped to: the byte of a label to which an op may jump becomes 1
abbrev pub targeted_by : Bool → ℕ → List ℕ → List ℕ
targeted_by jumps l targets = cond jumps (set targets l 1) targets

-- by the entry of its kind: the first operand of an op that has no output and ends no extended basic block may be read. By its rank: that the
-- label of an op that has one is below the limit; whether the op sets its label, or may jump to it; what that leaves
abbrev pub FirstReady : ℕ → List ℕ → ℕ → List ℕ → Type 0
FirstReady e block place vars = is_closing (role_no (role_in e)) ≡ false → outs_in e ≡ 0 → codes_in vars (get_or block (place + 1) 0) < 16

abbrev pub LabelLow : ℕ → List ℕ → ℕ → Type 0
LabelLow n block place = has_label n ≡ true → get_or block (place + length_in (plan_at n) - 1) 0 < label_count

abbrev pub sets_label : ℕ → Bool
sets_label n = eqb n setting_rank

abbrev pub jumps_to : ℕ → Bool
jumps_to n = has_label n && not (eqb n setting_rank)

pub record LabelMarks (sets jumps : Bool) (l op : ℕ) (labels labels' targets targets' : List ℕ) : Type 0 where
  pub labels_so : numbered labels' ≡ marked_by sets (numbered labels) l
  pub numbers_so : labels' ≡ cond sets (set labels l (op + 1)) labels
  pub targets_so : marked targets' ≡ marked_by jumps (marked targets) l
  pub targets_are : targets' ≡ targeted_by jumps l targets

-- what is seen after declarations of variables of these classes and types
abbrev pub declared_seen : List ℕ → List ℕ → Seen
declared_seen classes types = record { classes = classes; types = types; written = empty; labels = empty; targets = empty; ops = 0; last = 0 }

-- the byte of a variable of this class and type
abbrev pub code_for : ℕ → ℕ → ℕ
code_for class type = against (ltb class 2) (type % 4)

-- the bytes of the variables that these records declare, the first of them the i-th
unfoldable pub codes_from : ℕ → List ℕ → List (List ℕ) → List ℕ
codes_from i vars [] = vars
codes_from i vars (d ∷ ds) = codes_from (suc i) (set vars i (code_for (class_of d) (type_of d))) ds

-- n declarations have been read up to a place, and the check goes on from there
pub record Declaring (T : Table) (block vars₀ vars : List ℕ) (place n globals : ℕ) : Type 0 where
  pub before : List (List ℕ)
  pub goes_on : check_at T (declared_seen (classes_of before) (declared_types before)) block place ≡ check_by T block
  pub records_are : records_of T block ≡ before ++ (cut_of T (drop place block)).records
  pub all_declared : All (λ r. is_declaration r ≡ true) before
  pub count : length before ≡ n
  pub globals_are : globals ≡ global_count (classes_of before)
  pub place_is : place ≡ 3 * n
  pub spans : length (record_bytes before) ≡ place
  pub reached : place ≤ length block
  pub few : n ≤ max_variables
  pub vars_are : vars ≡ codes_from 0 vars₀ before
  pub coded : vars₀ ≡ replicate 256 15 → Coded vars (classes_of before) (declared_types before) empty
  pub long_vars : length vars ≡ length vars₀

-- rule 3 of the n-th variable's declaration, where so many are globals
unfoldable pub declaration_ok : ℕ → ℕ → ℕ → ℕ → Bool
declaration_ok class type globals n = leb class 2 && leb type 1 && (not (eqb class 0) || eqb globals n) && ltb n max_variables

-- three bytes declare a global; or another variable
abbrev pub declares_global : ℕ → ℕ → ℕ → Bool
declares_global kind class type = eqb kind 1 && eqb class 0 && leb type 1

abbrev pub declares_other : ℕ → ℕ → ℕ → Bool
declares_other kind class type = eqb kind 1 && not (eqb class 0) && leb class 2 && leb type 1

-- the n-th declaration, where there is room for one, is not that of a global
abbrev pub NoGlobal : List ℕ → ℕ → ℕ → Type 0
NoGlobal block limit n = n < limit → declares_global (get_or block (3 * n) 0) (get_or block (3 * n + 1) 0) (get_or block (3 * n + 2) 0) ≡ false

-- where the declarations have been read, no good one stands at the place
abbrev pub Stopped : List ℕ → ℕ → ℕ → ℕ → Type 0
Stopped block place n globals =
    place < length block → get_or block place 0 ≡ 1 → 3 ≤ length block - place → declaration_ok (get_or block (place + 1) 0) (get_or block (place + 2) 0) globals n ≡ false

-- the rule that a declaration at a place breaks, where no good one stands: 1 if it lacks bytes, else 3; 0 if there is none
abbrev pub declared_rule : List ℕ → ℕ → ℕ
declared_rule block place = cond (leb (length block) place) 0 (cond (not (eqb (get_or block place 0) 1)) 0 (cond (ltb (length block - place) 3) 1 3))

-- what the scan of the declarations answers: n of them, so many of globals, have been read, and none follows
pub record DeclaredBy (T : Table) (block vars₀ vars : List ℕ) (n globals : ℕ) : Type 0 where
  pub declaring : Declaring T block vars₀ vars (3 * n) n globals
  pub no_more : 3 * n < length block → get_or block (3 * n) 0 ≡ 1 → ⊥

-- or n of them, so many of globals, have been read up to the place of a refusal, and the check refuses the next
pub record RefusedBy (T : Table) (block vars₀ vars : List ℕ) (refusal : Refusal) (n globals : ℕ) : Type 0 where
  pub declaring : Declaring T block vars₀ vars refusal.place n globals
  pub refused : Err refusal ≡ check_by T block

-- the rule that the record at a place breaks, 2 and 1 first; 0 if none
unfoldable pub record_rule : Table → Seen → List ℕ → ℕ → ℕ
record_rule T s block place =
    let k = get_or block place 0 in
    cond (known T k) (cond (ltb (length block) (place + suc (body_length T k))) 1 (first_broken (rules_of T s (record_at T block place)))) 2

-- the same from the entry of its kind and the arrays: the tests of an op in the order in which they are asked; the last is whether its operands fit
abbrev pub op_tests : ℕ → List ℕ → ℕ → ℕ → List ℕ → List ℕ → Bool → List Finding
op_tests e block place ops vars labels fit =
    let count : ℕ = outs_in e + ins_in e in
    let vs = bytes_at block (place + 1) count in
    asks 9 (ltb ops max_ops) ∷ asks 4 (declared_all vars vs) ∷ asks 5 (operands_fit vars count (types_in e) vs)
    ∷ asks 6 (test_ok (test_in e) (take (rest_in e) (drop (place + 1 + count) block)))
    ∷ asks 7 (label_free (row_in e) (numbered labels) (get_or block (place + (count + rest_in e)) 0)) ∷ asks 8 fit ∷ []

abbrev pub operands_ok : ℕ → List ℕ → ℕ → List ℕ → Bool
operands_ok e block place vars = operands_fit vars (outs_in e) (types_in e) (bytes_at block (place + 1) (outs_in e + ins_in e))

unfoldable pub entry_rule : ℕ → List ℕ → ℕ → ℕ → List ℕ → List ℕ → Bool → ℕ
entry_rule e block place ops vars labels fit =
    cond (is_known (role_no (role_in e)))
    (cond (leb (length block - place) (outs_in e + ins_in e + rest_in e)) 1
    (cond (eqb (get_or block place 0) 1) 3 (first_broken (op_tests e block place ops vars labels fit)))) 2

-- an op stands there, whole; it meets every rule
abbrev pub op_stands : ℕ → List ℕ → ℕ → Bool
op_stands e block place = is_known (role_no (role_in e)) && not (leb (length block - place) (outs_in e + ins_in e + rest_in e)) && not (eqb (get_or block place 0) 1)

abbrev pub op_ok : ℕ → List ℕ → ℕ → ℕ → List ℕ → List ℕ → Bool
op_ok e block place ops vars labels =
    ltb ops max_ops && operands_ok e block place vars && test_ok (test_in e) (take (rest_in e) (drop (place + 1 + (outs_in e + ins_in e)) block))
    && label_free (row_in e) (numbered labels) (get_or block (place + (outs_in e + ins_in e + rest_in e)) 0)

-- both at once
abbrev pub op_passes : ℕ → List ℕ → ℕ → ℕ → List ℕ → List ℕ → Bool
op_passes e block place ops vars labels = op_stands e block place && op_ok e block place ops vars labels

-- the same by the plan of its kind: the byte of the variable that stands so far into the record; the operands; the byte after them, where no byte
-- passes test 1; what else is asked
abbrev pub code_at : List ℕ → List ℕ → ℕ → ℕ
code_at block vars i = codes_in vars (get_or block i 0)

abbrev pub three_fit : ℕ → List ℕ → ℕ → List ℕ → Bool
three_fit h block place vars =
    meets (out_ask_in h) (code_at block vars (place + 1)) && meets (first_ask_in h) (code_at block vars (place + first_at_in h))
    && meets (second_ask_in h) (code_at block vars (place + second_at_in h))

unfoldable pub byte_ok : ℕ → ℕ → Bool
byte_ok t x = not (eqb t 1) && test_ok t (x ∷ [])

-- the tests up to 7 that refuse a byte, a bit for the number of each; and those of all bytes from x on
abbrev pub refused_by : ℕ → ℕ → ℕ
refused_by t x = cond (byte_ok t x) 0 (2 ^ t)

unfoldable pub refusals_of : ℕ → ℕ
refusals_of x = refused_by 1 x + refused_by 2 x + refused_by 3 x + refused_by 4 x + refused_by 5 x + refused_by 6 x + refused_by 7 x

abbrev pub refusals_from : ℕ → ℕ → List ℕ
refusals_from x zero = []
refusals_from x (suc n) = refusals_of x ∷ refusals_from (suc x) n

abbrev pub refusal_table : List ℕ
refusal_table = refusals_from 0 256

abbrev pub label_fits : List ℕ → ℕ → Bool
label_fits labels l = ltb l label_count && not (numbered labels l)

-- the bytes that these tests read are inside; what else is asked is one of five things
pub record Placed (h : ℕ) (block : List ℕ) (place : ℕ) : Type 0 where
  pub whole : place + length_in h ≤ length block
  pub operand : 1 < length_in h
  pub first : first_at_in h < length_in h
  pub second : second_at_in h < length_in h
  pub byte : byte_at_in h < length_in h
  pub constant : more_in h ≡ 1 → 10 ≤ length_in h
  pub inputs : more_in h ≡ 3 → 5 < length_in h
  pub few : more_in h < 5

-- the bytes after the operands pass the test that the plan names
abbrev pub bytes_pass : ℕ → List ℕ → ℕ → Bool
bytes_pass h block place = test_ok (test_as h) (take (length_in h - byte_at_in h) (drop (place + byte_at_in h) block))

unfoldable pub more_ok : ℕ → List ℕ → ℕ → List ℕ → List ℕ → Bool
more_ok h block place vars labels =
    cond (eqb (more_in h) 1) (ltb (low_first block (place + 2) 8) (2 ^ 32))
    (cond (eqb (more_in h) 2) (label_fits labels (get_or block (place + length_in h - 1) 0))
    (cond (eqb (more_in h) 3) (meets (first_ask_in h) (code_at block vars (place + 4)) && meets (first_ask_in h) (code_at block vars (place + 5)))
    (cond (eqb (more_in h) 4) (bytes_pass h block place) true)))

-- the places of ops that start at a place, the first of them the i-th; and the labels' numbers
unfoldable pub places_from : ℕ → ℕ → List ℕ → List (List ℕ) → List ℕ
places_from place i places [] = places
places_from place i places (o ∷ os) = places_from (place + length o) (suc i) (set places i (place % 65536)) os

unfoldable pub labels_from : Table → ℕ → List ℕ → List (List ℕ) → List ℕ
labels_from T i labels [] = labels
labels_from T i labels (o ∷ os) = labels_from T (suc i) (labelled_by (row_at T o) (label_by (row_at T o) o) i labels) os

-- the records from a place on
abbrev pub records_at : Table → List ℕ → ℕ → List (List ℕ)
records_at T block place = (cut_of T (drop place block)).records

-- an array has room for a number for each op that a block can have: an op has at least two bytes
abbrev pub RoomFor : List ℕ → List ℕ → Type 0
RoomFor block places = min (length block / 2) max_ops ≤ length places

-- the ops from start up to a place: how many there are, each of at least two bytes, and that the arrays hold where each of them and each label is
pub record UpTo (T : Table) (block : List ℕ) (start : ℕ) (places₀ places labels : List ℕ) (place ops : ℕ) : Type 0 where
  pub read : List (List ℕ)
  pub records_are : records_at T block start ≡ read ++ records_at T block place
  pub spans : start + length (record_bytes read) ≡ place
  pub count : length read ≡ ops
  pub least : 2 * ops ≤ place
  pub held : ops ≤ length places₀
  pub places_are : places ≡ places_from start 0 places₀ read
  pub labels_are : labels ≡ labels_from T 0 (replicate label_count 0) read

-- what the scan of the ops comes to: the check's answer, and the ops up to its place
pub record ScannedBy (T : Table) (block : List ℕ) (start : ℕ) (places₀ places labels : List ℕ) (verdict : Verdict) (place ops : ℕ) : Type 0 where
  pub answers : verdict ≡ check_by T block
  pub up_to : UpTo T block start places₀ places labels place ops
  pub all_read : verdict ≡ Accepted → records_at T block place ≡ []

-- what it answers: how many ops there are, all of them read up to some place; or the refusal, and how many ops have been read up to its place
pub record ScannedAll (T : Table) (block : List ℕ) (start : ℕ) (places₀ places labels : List ℕ) (ops : ℕ) : Type 0 where
  pub place : ℕ
  pub scanned : ScannedBy T block start places₀ places labels Accepted place ops

abbrev pub ScannedTo : Table → List ℕ → ℕ → List ℕ → List ℕ → List ℕ → Refusal → ℕ → Type 0
ScannedTo T block start places₀ places labels refusal ops = ScannedBy T block start places₀ places labels (Err refusal) refusal.place ops

-- the rule that is broken at the end, after an op that is exit_tb or not; 0 if none
abbrev pub end_rule : Bool → List ℕ → List ℕ → ℕ
end_rule exits targets labels = cond (not exits) 10 (cond (all_set (marked targets) (numbered labels) label_count) 0 7)

-- the variables' bytes after an op, from those at the start of an extended basic block
abbrev pub codes_by : Row → (ℕ → ℕ) → (ℕ → ℕ) → List ℕ → ℕ → ℕ
codes_by row base codes outs = cond (is_closing row.role) base (open_all codes outs)

-- what an op leaves in the arrays: the variables' bytes, the labels set and their numbers, the labels jumped to
pub record Marks (T : Table) (r : List ℕ) (op : ℕ) (base vars vars' labels labels' targets targets' : List ℕ) : Type 0 where
  pub codes_so : codes_in vars' ≡ codes_by (row_at T r) (codes_in base) (codes_in vars) (outs_by (row_at T r) r)
  pub labelled : LabelledAs (row_at T r) (label_by (row_at T r) r) op labels labels'
  pub targets_so : marked targets' ≡ marked_by (is_jumping (row_at T r).role) (marked targets) (label_by (row_at T r) r)
  pub targets_are : targets' ≡ targeted_by (is_jumping (row_at T r).role) (label_by (row_at T r) r) targets

-- the ops begin at a place, after the declarations
pub record Begins (T : Table) (block base : List ℕ) (place : ℕ) : Type 0 where
  pub n : ℕ
  pub globals : ℕ
  pub after : Declaring T block (replicate 256 15) base place n globals
  pub no_more : place < length block → get_or block place 0 ≡ 1 → ⊥

-- ops have been read up to a place, and the check goes on from there: what has been seen, and that the arrays hold it; last: the rank of the last op's kind
pub record Reading (T : Table) (b : List ℕ) (start : ℕ) (places₀ base vars labels targets places : List ℕ) (p ops last : ℕ) : Type 0 where
  pub seen : Seen
  pub goes_on : check_at T seen b p ≡ check_by T b
  pub coded : Coded vars seen.classes seen.types seen.written
  pub based : Coded base seen.classes seen.types empty
  pub labels_so : seen.labels ≡ numbered labels
  pub targets_so : seen.targets ≡ marked targets
  pub ops_so : seen.ops ≡ ops
  pub last_so : eqb last exit_rank ≡ eqb seen.last 0x04
  pub up_to : UpTo T b start places₀ places labels p ops
  pub first_op : ops ≡ 0 → p < length b → get_or b p 0 ≡ 1 → ⊥
  pub few : ops ≤ max_ops

-- what the scan tells of an accepted block, with the declarations and ops as the definitions have them
pub record Approved (T : Table) (block places₀ base places labels : List ℕ) (start n globals ops : ℕ) : Type 0 where
  pub accepted : check_by T block ≡ Accepted
  pub variables : length (declarations (records_of T block)) ≡ n
  pub coded : Coded base (classes_of (declarations (records_of T block))) (declared_types (declarations (records_of T block))) empty
  pub long_base : length base ≡ 256
  pub globals_are : globals ≡ global_count (classes_of (declarations (records_of T block)))
  pub few : n ≤ max_variables
  pub start_is : start ≡ 3 * n
  pub ops_are : records_at T block start ≡ ops_from (records_of T block)
  pub count_is : ops ≡ length (ops_from (records_of T block))
  pub held : ops ≤ length places₀
  pub places_are : places ≡ places_from start 0 places₀ (ops_from (records_of T block))
  pub labels_are : labels ≡ labels_from T 0 (replicate label_count 0) (ops_from (records_of T block))

-- what the scan of a block comes to: the check's answer; the declarations and ops before its place, and what the arrays hold of them
pub record Scanned (T : Table) (block places₀ base places labels : List ℕ) (verdict : Verdict) (place start n globals ops : ℕ) : Type 0 where
  pub answers : verdict ≡ check_by T block
  pub before : List (List ℕ)
  pub records_are : records_of T block ≡ before ++ records_at T block place
  pub all_read : verdict ≡ Accepted → records_at T block place ≡ []
  pub place_is : place ≡ length (record_bytes before)
  pub variables : length (declarations before) ≡ n
  pub coded : Coded base (classes_of (declarations before)) (declared_types (declarations before)) empty
  pub long_base : length base ≡ 256
  pub globals_are : globals ≡ global_count (classes_of (declarations before))
  pub few : n ≤ max_variables
  pub start_is : start ≡ 3 * n
  pub ops_before : records_at T block start ≡ ops_from before ++ records_at T block place
  pub count_is : ops ≡ length (ops_from before)
  pub held : ops ≤ length places₀
  pub places_are : places ≡ places_from start 0 places₀ (ops_from before)
  pub labels_are : labels ≡ labels_from T 0 (replicate label_count 0) (ops_from before)

-- what it answers of a refused block: the check's refusal; where the ops start, and how many variables, globals and ops have been read before its place
abbrev pub Rejected : Table → List ℕ → List ℕ → List ℕ → List ℕ → List ℕ → Refusal → ℕ → ℕ → ℕ → ℕ → Type 0
Rejected T block places₀ base places labels refusal start n globals ops = Scanned T block places₀ base places labels (Err refusal) refusal.place start n globals ops
