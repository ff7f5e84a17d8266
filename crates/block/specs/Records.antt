-- A block's bytes cut into records. Assumes nothing.
use Rattle.std.specs.Prelude.{ℕ, zero, suc, Bool, cond, List, [], ◌∷◌, ◌++◌, eqb, ltb, length, take, drop}
use Rattle.ops.specs.Rows.{at, Table}
use Rattle.ops.specs.Rows.{known, body_length}
use Rattle.ops.specs.Fields.{kind_of}

-- the whole records of a block, and the rule that the record after them breaks: 2, unknown kind; 1, it runs past the end; 0, none follows
pub record Cut : Type 0 where
  pub records : List (List ℕ)
  pub tail : ℕ

abbrev pub nothing_left : Cut
nothing_left = record { records = []; tail = 0 }

abbrev pub stray : ℕ → Cut
stray rule = record { records = []; tail = rule }

abbrev pub cons : List ℕ → Cut → Cut
cons r c = record { records = r ∷ c.records; tail = c.tail }

-- "one byte of kind, then a body whose length the kind fixes"; the number bounds the records
unfoldable pub cut_by : Table → ℕ → List ℕ → Cut
cut_by T zero bytes = nothing_left
cut_by T (suc n) [] = nothing_left
cut_by T (suc n) (k ∷ bytes) =
    let more = cons (k ∷ take (body_length T k) bytes) (cut_by T n (drop (body_length T k) bytes)) in
    cond (known T k) (cond (ltb (length bytes) (body_length T k)) (stray 1) more) (stray 2)

unfoldable pub cut_of : Table → List ℕ → Cut
cut_of T block = cut_by T (length block) block

abbrev pub records_of : Table → List ℕ → List (List ℕ)
records_of T block = (cut_of T block).records

-- the bytes of records
abbrev pub record_bytes : List (List ℕ) → List ℕ
record_bytes [] = []
record_bytes (r ∷ rs) = r ++ record_bytes rs

abbrev pub is_declaration : List ℕ → Bool
is_declaration r = eqb (kind_of r) 0x01

-- "All declarations stand before the first op": the declarations, and the records from the first op on
abbrev pub declarations : List (List ℕ) → List (List ℕ)
declarations [] = []
declarations (r ∷ rs) = cond (is_declaration r) (r ∷ declarations rs) []

abbrev pub ops_from : List (List ℕ) → List (List ℕ)
ops_from [] = []
ops_from (r ∷ rs) = cond (is_declaration r) (ops_from rs) (r ∷ rs)

-- "A declaration has kind 01 and body class, type. Class 0 is a global, 1 a local temporary, 2 a temporary. Type 0 is 32 bits, 1 is 64 bits."
abbrev pub class_of : List ℕ → ℕ
class_of r = at r 1

abbrev pub type_of : List ℕ → ℕ
type_of r = at r 2

-- the classes and types of the variables, "numbered from 0 in order"
abbrev pub classes_of : List (List ℕ) → List ℕ
classes_of [] = []
classes_of (d ∷ ds) = class_of d ∷ classes_of ds

abbrev pub declared_types : List (List ℕ) → List ℕ
declared_types [] = []
declared_types (d ∷ ds) = type_of d ∷ declared_types ds

-- the number of globals, which stand before the rest
abbrev pub global_count : List ℕ → ℕ
global_count [] = 0
global_count (c ∷ cs) = cond (eqb c 0) (suc (global_count cs)) 0
