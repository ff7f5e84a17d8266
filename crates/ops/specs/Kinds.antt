-- Document 01's dialect, as the requests left it: what the ops of a kind do. Assumes nothing.
use Rattle.std.specs.Prelude.{ℕ, ◌-◌, Bool, true, false, cond, ◌&&◌, ◌||◌, List, [], ◌∷◌, eqb, ltb, leb, length, Option, None, Some, Result, Ok, Err, ⊤}
use Rattle.theory.specs.Machine.{Touch, faults, gives}
use Rattle.word.specs.Condition.{cond_w}
use Rattle.memory.specs.Bytes.{low_first}
use Rattle.memory.specs.declared.Reason.{Reason}
use Rattle.memory.specs.Access.{access_at, loaded, stored}
use Rattle.memory.specs.Answer.{access_width}
use Rattle.ops.specs.Eval.{convert_of, unary_of, logic_of, divide_of, shift_of, setcond_of, movcond_of, deposit_of, extract_of, extract2_of, swap_of, count_of, ctpop_of}
use Rattle.ops.specs.Rows.{at}
use Rattle.ops.specs.Table.{row_of}
use Rattle.ops.specs.Ops.{Fault, fault_of, Dialect}

abbrev pub between : ℕ → ℕ → ℕ → Bool
between lo hi k = leb lo k && leb k hi

-- an op with one output
abbrev pub one : Option ℕ → Option (List ℕ)
one None = None
one (Some x) = Some (x ∷ [])

-- the kinds 11 to 29 and 2D to 36 at a width, from the bytes after the operands and the inputs' values; none for every other kind
unfoldable pub wide_of : ℕ → ℕ → List ℕ → List ℕ → Option ℕ
wide_of w k bytes vs =
    cond (between 0x11 0x13 k) (unary_of w k (at vs 0))
    (cond (between 0x14 0x1E k) (logic_of w k (at vs 0) (at vs 1))
    (cond (between 0x1F 0x22 k) (divide_of w k (at vs 0) (at vs 1))
    (cond (between 0x23 0x27 k) (shift_of w k (at vs 0) (at vs 1))
    (cond (eqb k 0x28) (setcond_of w (at bytes 0) (at vs 0) (at vs 1))
    (cond (eqb k 0x29) (movcond_of w (at bytes 0) (at vs 0) (at vs 1) (at vs 2) (at vs 3))
    (cond (eqb k 0x2D) (deposit_of w (at bytes 0) (at bytes 1) (at vs 0) (at vs 1))
    (cond (between 0x2E 0x2F k) (extract_of w k (at bytes 0) (at bytes 1) (at vs 0))
    (cond (eqb k 0x30) (extract2_of w (at bytes 0) (at vs 0) (at vs 1))
    (cond (between 0x31 0x33 k) (swap_of w k (at bytes 0) (at vs 0))
    (cond (between 0x34 0x35 k) (count_of w k (at vs 0) (at vs 1))
    (cond (eqb k 0x36) (ctpop_of w (at vs 0))
    None)))))))))))

-- the kinds 05 to 07, and those in either width
unfoldable pub computed_of : ℕ → List ℕ → List ℕ → Option ℕ
computed_of k bytes vs =
    cond (between 0x05 0x07 k) (convert_of k (at vs 0)) (cond (ltb k 0x80) (wide_of 32 k bytes vs) (wide_of 64 (k - 0x80) bytes vs))

-- what a pure op of kind k states; none for every other kind
unfoldable pub states_of : ℕ → List ℕ → List ℕ → Option (List ℕ)
states_of k bytes vs = one (cond (eqb k 0x10 || eqb k 0x90) (Some (low_first bytes 0 8)) (computed_of k bytes vs))

-- the op's width
abbrev pub op_width : ℕ → ℕ
op_width k = access_width (leb 0x80 k)

-- an access gives this if it is served, else it faults
abbrev pub touched : Bool → ℕ → ℕ → Touch ℕ (List ℕ) Fault → Result ⊤ Reason → Touch ℕ (List ℕ) Fault
touched store address flags given (Ok served) = given
touched store address flags given (Err reason) = faults (fault_of store address flags reason)

-- "qemu_ld: d, address, flags", of this width
abbrev pub load_at : ℕ → ℕ → List ℕ → ℕ → Touch ℕ (List ℕ) Fault
load_at w flags m address = touched false address flags (gives (loaded w flags m address ∷ []) m) (access_at (length m) address flags)

unfoldable pub load_of : ℕ → List ℕ → List ℕ → List ℕ → Touch ℕ (List ℕ) Fault
load_of k bytes m vs = load_at (op_width k) (at bytes 0) m (at vs 0)

-- "qemu_st: value, address, flags"
abbrev pub store_at : ℕ → List ℕ → ℕ → ℕ → Touch ℕ (List ℕ) Fault
store_at flags m address x = touched true address flags (gives [] (stored flags m address x)) (access_at (length m) address flags)

unfoldable pub store_of : ℕ → List ℕ → List ℕ → List ℕ → Touch ℕ (List ℕ) Fault
store_of k bytes m vs = store_at (at bytes 0) m (at vs 1) (at vs 0)

-- "brcond: a, b, cond, label"
unfoldable pub holds_of : ℕ → List ℕ → List ℕ → Bool
holds_of k bytes vs = cond_w (op_width k) (at bytes 0) (at vs 0) (at vs 1)

-- document 01's ops
abbrev pub document01 : Dialect
document01 = record { rows = row_of; states = states_of; load_of = load_of; store_of = store_of; holds_of = holds_of }
