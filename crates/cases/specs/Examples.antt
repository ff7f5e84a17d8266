-- Case 12, and an example for each of document 01's mistakes. Proved in proofs/Examples.antt. Assumes nothing.
use Rattle.std.specs.Prelude.{ℕ, ◌≡◌, false, List, [], ◌∷◌, ◌++◌, length, Ok}
use Rattle.memory.specs.declared.Reason.TheVariants.{Bounds}
use Rattle.runs.specs.declared.Ending.TheVariants.{Exit, Fault, NoResult}
use Rattle.runs.specs.Runs.{run_of}
use Rattle.passes.specs.Passes.{Length, pass_of}

-- a 64-bit movi of a number below 256
abbrev pub movi64 : ℕ → ℕ → List ℕ
movi64 d x = 0x90 ∷ d ∷ x ∷ 0 ∷ 0 ∷ 0 ∷ 0 ∷ 0 ∷ 0 ∷ 0 ∷ []

abbrev pub exit : ℕ → List ℕ
exit t = 0x04 ∷ t ∷ []

-- "000's three-op example, whole." In, and out: a 64-bit global, three 32-bit globals, a 32-bit temporary, and the ops
unfoldable pub source12 : List ℕ
source12 = 0x01 ∷ 0x00 ∷ 0x01 ∷ 0x01 ∷ 0x00 ∷ 0x00 ∷ 0x01 ∷ 0x00 ∷ 0x00 ∷ 0x01 ∷ 0x00 ∷ 0x00 ∷ 0x01 ∷ 0x02 ∷ 0x00 ∷ 0x10 ∷ 0x04 ∷ 0x01 ∷ 0x00 ∷ 0x00 ∷ 0x00 ∷ 0x00 ∷ 0x00 ∷ 0x00 ∷ 0x00 ∷ 0x14 ∷ 0x01 ∷ 0x02 ∷ 0x03 ∷ 0x14 ∷ 0x01 ∷ 0x01 ∷ 0x04 ∷ 0x11 ∷ 0x01 ∷ 0x04 ∷ 0x04 ∷ 0x00 ∷ []

unfoldable pub result12 : List ℕ
result12 = 0x01 ∷ 0x00 ∷ 0x01 ∷ 0x01 ∷ 0x00 ∷ 0x00 ∷ 0x01 ∷ 0x00 ∷ 0x00 ∷ 0x01 ∷ 0x00 ∷ 0x00 ∷ 0x01 ∷ 0x02 ∷ 0x00 ∷ 0x10 ∷ 0x01 ∷ 0x01 ∷ 0x00 ∷ 0x00 ∷ 0x00 ∷ 0x00 ∷ 0x00 ∷ 0x00 ∷ 0x00 ∷ 0x04 ∷ 0x00 ∷ []

-- a buffer of the result's length, full of 0xEE
abbrev pub filled : List ℕ → List ℕ
filled [] = []
filled (x ∷ xs) = 0xEE ∷ filled xs

-- the pass of a block, into a buffer of a result's length, answers that result
abbrev pub Gives : List ℕ → List ℕ → Type 0
Gives block result = pass_of block (filled result) ≡ record { answer = Length (length result); out = result }

abbrev pub globals12 : List ℕ
globals12 = 7 ∷ 2 ∷ 3 ∷ 4 ∷ []

-- "Five ops run before, two after."
unfoldable pub Case12 : Type 0
Case12 =
    Gives source12 result12
    × (run_of source12 globals12 [] ≡ record { answer = Ok (Exit 7 5); globals = 7 ∷ 1 ∷ 3 ∷ 4 ∷ []; memory = [] })
    × (run_of result12 globals12 [] ≡ record { answer = Ok (Exit 7 2); globals = 7 ∷ 1 ∷ 3 ∷ 4 ∷ []; memory = [] })

-- v0 and v1 are 64-bit globals, v2 a 64-bit local temporary, v3 and v4 are 64-bit temporaries
abbrev pub declared5 : List ℕ
declared5 = 0x01 ∷ 0x00 ∷ 0x01 ∷ 0x01 ∷ 0x00 ∷ 0x01 ∷ 0x01 ∷ 0x01 ∷ 0x01 ∷ 0x01 ∷ 0x02 ∷ 0x01 ∷ 0x01 ∷ 0x02 ∷ 0x01 ∷ []

-- an 8-byte load of d from the address in v1
abbrev pub load8 : ℕ → List ℕ
load8 d = 0xAB ∷ d ∷ 0x01 ∷ 0x03 ∷ []

-- "Dropping a global's write because a later op overwrites it, though a load or store between may fault."
-- v0 := 5; v3 := load; v0 := 0; exit. The incident: the first write stays, and is seen where the load faults
unfoldable pub write_before_load : List ℕ
write_before_load = declared5 ++ movi64 0x00 0x05 ++ load8 0x03 ++ movi64 0x00 0x00 ++ exit 0x00

-- "Dropping a load because its output is dead. The fault is seen."
unfoldable pub dead_load : List ℕ
dead_load = declared5 ++ load8 0x03 ++ exit 0x00

-- "Treating a load into a global as killing it before the access: on a fault the old value is seen."
unfoldable pub load_into_global : List ℕ
load_into_global = declared5 ++ movi64 0x00 0x05 ++ load8 0x00 ++ exit 0x00

-- "Folding a division by known zero to some number.": v3 := 7; v4 := 0; v0 := v3 divu v4
unfoldable pub division_by_zero : List ℕ
division_by_zero = declared5 ++ movi64 0x03 0x07 ++ movi64 0x04 0x00 ++ (0xA0 ∷ 0x00 ∷ 0x03 ∷ 0x04 ∷ []) ++ exit 0x00

-- "Keeping known values past a label.": v2 := 1; set_label 0; v0 := v2 + v2
unfoldable pub known_at_label : List ℕ
known_at_label = declared5 ++ movi64 0x02 0x01 ++ (0x02 ∷ 0x00 ∷ []) ++ (0x94 ∷ 0x00 ∷ 0x02 ∷ 0x02 ∷ []) ++ exit 0x00

-- where the five mistakes would change a block, the pass leaves it as it is; and what the runs are where the load faults
unfoldable pub Mistakes : Type 0
Mistakes =
    Gives write_before_load write_before_load
    × (run_of write_before_load (1 ∷ 0x10 ∷ []) [] ≡ record { answer = Ok (Fault false 0x10 0x03 Bounds 2); globals = 5 ∷ 0x10 ∷ []; memory = [] })
    × Gives dead_load dead_load
    × (run_of dead_load (1 ∷ 0x10 ∷ []) [] ≡ record { answer = Ok (Fault false 0x10 0x03 Bounds 1); globals = 1 ∷ 0x10 ∷ []; memory = [] })
    × Gives load_into_global load_into_global
    × (run_of load_into_global (1 ∷ 0x10 ∷ []) [] ≡ record { answer = Ok (Fault false 0x10 0x03 Bounds 2); globals = 5 ∷ 0x10 ∷ []; memory = [] })
    × Gives division_by_zero division_by_zero
    × (run_of division_by_zero (1 ∷ 0x10 ∷ []) [] ≡ record { answer = Ok (NoResult 2 2); globals = 1 ∷ 0x10 ∷ []; memory = [] })
    × Gives known_at_label known_at_label
    × (run_of known_at_label (1 ∷ 0x10 ∷ []) [] ≡ record { answer = Ok (Exit 2 4); globals = 2 ∷ 0x10 ∷ []; memory = [] })
