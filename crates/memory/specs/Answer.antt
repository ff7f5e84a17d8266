-- What the access leaf answers and leaves, and the numbers and words of its reasons. Assumes nothing.
use Rattle.std.specs.Prelude.{ℕ, Bool, true, false, List, Result, Ok, Err, codes, ⊤}
use Rattle.memory.specs.declared.Reason.{Reason}
use Rattle.memory.specs.declared.Reason.TheVariants.{Bounds, Alignment}

-- the width that a load extends to
abbrev pub access_width : Bool → ℕ
access_width true = 64
access_width false = 32

-- the number of a reason: "bounds or alignment"
abbrev pub reason_number : Reason → ℕ
reason_number Bounds = 0
reason_number Alignment = 1

-- and its word
abbrev pub reason_word : Reason → List ℕ
reason_word Bounds = codes "bounds"
reason_word Alignment = codes "alignment"

-- a load gives the number x, if it is served
abbrev pub loaded_by : Result ⊤ Reason → ℕ → Result ℕ Reason
loaded_by (Ok served) x = Ok x
loaded_by (Err reason) x = Err reason

-- the memory that a store leaves: where it fails, the one before
abbrev pub left_by : Result ⊤ Reason → List ℕ → List ℕ → List ℕ
left_by (Ok served) before after = after
left_by (Err reason) before after = before
