-- What a record does in a dialect, and the language of ops. Assumes nothing.
use Rattle.std.specs.Prelude.{ℕ, ◌%◌, ◌^◌, Bool, List, [], ◌∷◌, Option}
use Rattle.theory.specs.Machine.{always, when, to, out, View, calc, access, label, flow, Touch, Lang, head_or}
use Rattle.memory.specs.declared.Reason.{Reason}
use Rattle.ops.specs.Rows.{Role, unknown, declares, sets_label, jumps_to, exits, branches, loads, stores, constant, computing, Row, Table, bits_of}
use Rattle.ops.specs.Fields.{kind_of, row_at, outs_by, ins_by, rest_by, label_by}

-- "Values are unsigned numbers below two to the width": each input of a pure op or a condition is read at its type
abbrev pub at_types : List ℕ → List ℕ → List ℕ
at_types [] vs = []
at_types (t ∷ ts) [] = 0 ∷ at_types ts []
at_types (t ∷ ts) (v ∷ vs) = v % 2 ^ bits_of t ∷ at_types ts vs

-- "fault with load or store, address and flags"; "every fault the runner reports carries that reason"
pub record Fault : Type 0 where
  pub store : Bool
  pub address : ℕ
  pub flags : ℕ
  pub reason : Reason

abbrev pub fault_of : Bool → ℕ → ℕ → Reason → Fault
fault_of store address flags reason = record { store = store; address = address; flags = flags; reason = reason }

-- a dialect: its rows; what a pure op of a kind states, from the bytes after its operands and its inputs' values; what its loads and stores
-- do to the memory; and when a condition holds
pub record Dialect : Type 0 where
  pub rows : Table
  pub states : ℕ → List ℕ → List ℕ → Option (List ℕ)
  pub load_of : ℕ → List ℕ → List ℕ → List ℕ → Touch ℕ (List ℕ) Fault
  pub store_of : ℕ → List ℕ → List ℕ → List ℕ → Touch ℕ (List ℕ) Fault
  pub holds_of : ℕ → List ℕ → List ℕ → Bool

unfoldable pub eval_of : Dialect → ℕ → List ℕ → List ℕ → Option (List ℕ)
eval_of D k bytes vs = D.states k bytes (at_types (D.rows k).ins vs)

-- exit_tb
abbrev pub leave : List ℕ → View ℕ (List ℕ) ℕ Fault
leave ins = flow ins always (out (λ vs. head_or 0 vs))

-- what an op does. A record that is no op has no view of its own; an accepted block runs none
abbrev pub view_for : Dialect → Role → Row → List ℕ → View ℕ (List ℕ) ℕ Fault
view_for D unknown row r = leave (ins_by row r)
view_for D declares row r = leave (ins_by row r)
view_for D sets_label row r = label (label_by row r)
view_for D jumps_to row r = flow (ins_by row r) always (to (label_by row r))
view_for D exits row r = leave (ins_by row r)
view_for D branches row r = flow (ins_by row r) (when (λ m vs. D.holds_of (kind_of r) (rest_by row r) (at_types row.ins vs))) (to (label_by row r))
view_for D loads row r = access (outs_by row r) (ins_by row r) (D.load_of (kind_of r) (rest_by row r))
view_for D stores row r = access (outs_by row r) (ins_by row r) (D.store_of (kind_of r) (rest_by row r))
view_for D constant row r = calc (outs_by row r) (ins_by row r) (eval_of D (kind_of r) (rest_by row r))
view_for D computing row r = calc (outs_by row r) (ins_by row r) (eval_of D (kind_of r) (rest_by row r))

unfoldable pub view_of : Dialect → List ℕ → View ℕ (List ℕ) ℕ Fault
view_of D r = let row = row_at D.rows r in view_for D row.role row r

-- the language of ops: an op is its record, values are numbers, the memory a list of bytes
abbrev pub tcg : Dialect → Lang
tcg D = record { Op = List ℕ; Val = ℕ; Mem = List ℕ; Out = ℕ; Flt = Fault; zero_v = 0; view = view_of D }
