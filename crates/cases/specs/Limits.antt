-- The limits of request 05: both sides of each. Proved in proofs/Limits.antt. Assumes nothing.
use Rattle.std.specs.Prelude.{ℕ, ◌≡◌, List, [], ◌∷◌, ◌++◌, replicate}
use Rattle.block.specs.Records.{record_bytes}
use Rattle.block.specs.Checks.{Accepted, Refused}
use Rattle.block.specs.Checks.{check_of}
use Rattle.cases.specs.Examples.{movi64, exit}

-- a record n times
abbrev pub times : ℕ → List ℕ → List ℕ
times n r = record_bytes (replicate n r)

-- a 64-bit global
abbrev pub global : List ℕ
global = 0x01 ∷ 0x00 ∷ 0x01 ∷ []

-- case 11, as request 05 moves it: 200 variables pass, the 201st gets 3; so the last that can be named is 199
unfoldable pub Variables : Type 0
Variables =
    (check_of (times 200 global ++ exit 199) ≡ Accepted) × (check_of (times 200 global ++ exit 200) ≡ Refused 4 600) × (check_of (times 201 global ++ exit 0x00) ≡ Refused 3 600)

-- 1,024 ops pass, the 1,025th gets 9: moves of a global to itself, and exit_tb
abbrev pub moves : ℕ → List ℕ
moves n = global ++ times n (0x91 ∷ 0x00 ∷ 0x00 ∷ []) ++ exit 0x00

unfoldable pub Ops : Type 0
Ops = (check_of (moves 1023) ≡ Accepted) × (check_of (moves 1024) ≡ Refused 9 3075)

-- "labels to 128 (0 to 127)": set, jumped to and branched to
abbrev pub labelled : ℕ → List ℕ
labelled l = global ++ (0xAA ∷ 0x00 ∷ 0x00 ∷ 0x00 ∷ l ∷ 0x03 ∷ l ∷ 0x02 ∷ l ∷ []) ++ exit 0x00

unfoldable pub Labels : Type 0
Labels =
    (check_of (labelled 127) ≡ Accepted) × (check_of (labelled 128) ≡ Refused 6 3) × (check_of (global ++ (0x03 ∷ 128 ∷ [])) ≡ Refused 6 3) × (check_of (global ++ (0x02 ∷ 128 ∷ [])) ≡ Refused 6 3)

-- the longest block that is accepted, of 10,832 bytes; and a refusal at 10,840, the last place that there can be
unfoldable pub Size : Type 0
Size = (check_of (times 200 global ++ times 1023 (movi64 0x00 0x05) ++ exit 0x00) ≡ Accepted) × (check_of (times 200 global ++ times 1025 (movi64 0x00 0x05)) ≡ Refused 9 10840)
