-- Extended basic blocks: what lives on past a conditional branch, and what does not. Proved in proofs/Extended.antt. Assumes nothing.
use Rattle.std.specs.Prelude.{ℕ, ◌≡◌, List, [], ◌∷◌, ◌++◌, Ok}
use Rattle.block.specs.Checks.{Accepted, Refused}
use Rattle.block.specs.Checks.{check_of}
use Rattle.runs.specs.declared.Ending.TheVariants.{Exit}
use Rattle.runs.specs.Runs.{ran_as, run_of}
use Rattle.cases.specs.Examples.{movi64, exit, Gives, declared5}

-- d := a + b
abbrev pub add64 : ℕ → ℕ → ℕ → List ℕ
add64 d a b = 0x94 ∷ d ∷ a ∷ b ∷ []

-- to label 0 if v0 and v1 are equal
abbrev pub branch : List ℕ
branch = 0xAA ∷ 0x00 ∷ 0x01 ∷ 0x00 ∷ 0x00 ∷ []

abbrev pub label0 : List ℕ
label0 = 0x02 ∷ 0x00 ∷ []

abbrev pub jump0 : List ℕ
jump0 = 0x03 ∷ 0x00 ∷ []

-- "now it keeps both for the next op": v3 := 5; v4 := v1 + v1; branch; v0 := v3 + v3; v1 := v1 + v4; label. The sum of the constant with itself
-- is folded past the branch, and v4 is read past it in the block and in the result
unfoldable pub across : List ℕ
across = declared5 ++ movi64 0x03 0x05 ++ add64 0x04 0x01 0x01 ++ branch ++ add64 0x00 0x03 0x03 ++ add64 0x01 0x01 0x04 ++ label0 ++ exit 0x00

unfoldable pub across_result : List ℕ
across_result = declared5 ++ add64 0x04 0x01 0x01 ++ branch ++ movi64 0x00 0x0A ++ add64 0x01 0x01 0x04 ++ label0 ++ exit 0x00

-- both fall through, or both jump, in an op less
unfoldable pub Across : Type 0
Across =
    Gives across across_result
    × (run_of across (1 ∷ 7 ∷ []) [] ≡ ran_as (Ok (Exit 10 7)) (10 ∷ 21 ∷ []) [])
    × (run_of across_result (1 ∷ 7 ∷ []) [] ≡ ran_as (Ok (Exit 10 6)) (10 ∷ 21 ∷ []) [])
    × (run_of across (7 ∷ 7 ∷ []) [] ≡ ran_as (Ok (Exit 7 5)) (7 ∷ 7 ∷ []) [])
    × (run_of across_result (7 ∷ 7 ∷ []) [] ≡ ran_as (Ok (Exit 7 4)) (7 ∷ 7 ∷ []) [])

-- v3 := 5; some ops; v0 := v3 + v3, which stands at 25 and their length; label; exit
abbrev pub read_after : List ℕ → List ℕ
read_after ops = declared5 ++ movi64 0x03 0x05 ++ ops ++ add64 0x00 0x03 0x03 ++ label0 ++ exit 0x00

-- a temporary may be read after a branch, and after two; "Set_label, br and exit_tb end everything as before", also after a branch
unfoldable pub ReadAfter : Type 0
ReadAfter =
    (check_of (read_after branch) ≡ Accepted)
    × (check_of (read_after (branch ++ branch)) ≡ Accepted)
    × (check_of (read_after jump0) ≡ Refused 8 27)
    × (check_of (read_after (branch ++ jump0)) ≡ Refused 8 32)
    × (check_of (read_after (exit 0x00)) ≡ Refused 8 27)
    × (check_of (read_after (branch ++ exit 0x00)) ≡ Refused 8 32)
    × (check_of (declared5 ++ movi64 0x03 0x05 ++ branch ++ label0 ++ add64 0x00 0x03 0x03 ++ exit 0x00) ≡ Refused 8 32)

-- v2 := 1; branch; v2 := 2; label; v0 := v2 + v2. Nothing is known at the label, which both ways reach, and the first write is needed there
unfoldable pub known_at_target : List ℕ
known_at_target = declared5 ++ movi64 0x02 0x01 ++ branch ++ movi64 0x02 0x02 ++ label0 ++ add64 0x00 0x02 0x02 ++ exit 0x00

unfoldable pub KnownAtTarget : Type 0
KnownAtTarget =
    Gives known_at_target known_at_target
    × (run_of known_at_target (1 ∷ 7 ∷ []) [] ≡ ran_as (Ok (Exit 4 6)) (4 ∷ 7 ∷ []) [])
    × (run_of known_at_target (7 ∷ 7 ∷ []) [] ≡ ran_as (Ok (Exit 2 5)) (2 ∷ 7 ∷ []) [])

-- v3 := v1 + v1; branch; v3 := v0 + v0; v1 := v3 + v3; label. No op reads the first v3: it is dead after the branch, and so before it
unfoldable pub dead_across : List ℕ
dead_across = declared5 ++ add64 0x03 0x01 0x01 ++ branch ++ add64 0x03 0x00 0x00 ++ add64 0x01 0x03 0x03 ++ label0 ++ exit 0x00

unfoldable pub dead_across_result : List ℕ
dead_across_result = declared5 ++ branch ++ add64 0x03 0x00 0x00 ++ add64 0x01 0x03 0x03 ++ label0 ++ exit 0x00

unfoldable pub DeadAcross : Type 0
DeadAcross =
    Gives dead_across dead_across_result
    × (run_of dead_across (1 ∷ 7 ∷ []) [] ≡ ran_as (Ok (Exit 1 6)) (1 ∷ 4 ∷ []) [])
    × (run_of dead_across_result (1 ∷ 7 ∷ []) [] ≡ ran_as (Ok (Exit 1 5)) (1 ∷ 4 ∷ []) [])
