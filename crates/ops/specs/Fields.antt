-- A record is the list of its bytes, the kind first; what they are, by its row. Assumes nothing.
use Rattle.std.specs.Prelude.{ℕ, zero, suc, ◌+◌, List, [], ◌∷◌, length, drop}
use Rattle.ops.specs.Rows.{Row, Table, body_of, at}

abbrev pub kind_of : List ℕ → ℕ
kind_of r = at r 0

abbrev pub row_at : Table → List ℕ → Row
row_at T r = T (kind_of r)

-- n bytes of a record from i on
abbrev pub bytes_at : List ℕ → ℕ → ℕ → List ℕ
bytes_at r i zero = []
bytes_at r i (suc n) = at r i ∷ bytes_at r (suc i) n

-- the variables that a record names, and the bytes after them; the last of these is the label, if it has one
abbrev pub outs_by : Row → List ℕ → List ℕ
outs_by row r = bytes_at r 1 (length row.outs)

abbrev pub ins_by : Row → List ℕ → List ℕ
ins_by row r = bytes_at r (1 + length row.outs) (length row.ins)

abbrev pub rest_by : Row → List ℕ → List ℕ
rest_by row r = drop (1 + (length row.outs + length row.ins)) r

abbrev pub label_by : Row → List ℕ → ℕ
label_by row r = at r (body_of row)
