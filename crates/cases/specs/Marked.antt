-- The cases of document 01 marked P, as one table of what the check and whole runs answer. Proved in proofs/Marked.antt. Assumes nothing.
use Rattle.std.specs.Prelude.{ℕ, false, ◌≡◌, List, [], ◌∷◌, ◌++◌, map, Ok}
use Rattle.block.specs.Checks.{Verdict, Accepted, Refused, check_of}
use Rattle.memory.specs.declared.Reason.TheVariants.{Bounds}
use Rattle.runs.specs.declared.Ending.TheVariants.{Exit, Fault, NoResult}
use Rattle.runs.specs.Runs.{Ran, ran_as, run_of}

-- what the check answers of a block; what a run answers, with the globals and memory that it leaves
pub data Answer : Type 0 where
  check : Verdict → Answer
  run : Ran → Answer

-- a case: its number in document 01, what the definitions answer, and what they should
pub record Case : Type 0 where
  pub number : ℕ
  pub answer : Answer
  pub expected : Answer

abbrev pub is : ℕ → Answer → Answer → Case
is number answer expected = record { number = number; answer = answer; expected = expected }

-- one 64-bit global; exit with it
abbrev pub exit_with_global : List ℕ
exit_with_global = 0x01 ∷ 0x00 ∷ 0x01 ∷ 0x04 ∷ 0x00 ∷ []

-- globals of these types: 0 for 32 bits, 1 for 64
abbrev pub globals_of : List ℕ → List ℕ
globals_of [] = []
globals_of (t ∷ ts) = 0x01 ∷ 0x00 ∷ t ∷ globals_of ts

-- a block of globals of these types, one op, and an exit with global 0
abbrev pub block_of : List ℕ → List ℕ → List ℕ
block_of types op = globals_of types ++ op ++ (0x04 ∷ 0x00 ∷ [])

-- an op of this kind on 32-bit globals: 1 is the result, 2 and 3 are the operands a and b; rest: the bytes after the operands
abbrev pub binary32 : ℕ → List ℕ → ℕ → ℕ → Answer
binary32 kind rest a b = run (run_of (block_of (1 ∷ 0 ∷ 0 ∷ 0 ∷ []) (kind ∷ 1 ∷ 2 ∷ 3 ∷ rest)) (7 ∷ 0xEE ∷ a ∷ b ∷ []) [])

-- it runs, the result is x, and the block exits after two ops; or it has no stated result, and nothing is changed
abbrev pub gives : ℕ → ℕ → ℕ → Answer
gives a b x = run (ran_as (Ok (Exit 7 2)) (7 ∷ x ∷ a ∷ b ∷ []) [])

abbrev pub unstated : ℕ → ℕ → Answer
unstated a b = run (ran_as (Ok (NoResult 0 0)) (7 ∷ 0xEE ∷ a ∷ b ∷ []) [])

-- from a 32-bit global 1 to a 64-bit global 0, which the block exits with
abbrev pub widen : ℕ → ℕ → Answer
widen kind a = run (run_of (block_of (1 ∷ 0 ∷ []) (kind ∷ 0 ∷ 1 ∷ [])) (0xEE ∷ a ∷ []) [])

abbrev pub widened : ℕ → ℕ → Answer
widened a x = run (ran_as (Ok (Exit x 2)) (x ∷ a ∷ []) [])

-- from a 64-bit global 0 to a 32-bit global 1
abbrev pub narrow : ℕ → ℕ → Answer
narrow kind a = run (run_of (block_of (1 ∷ 0 ∷ []) (kind ∷ 1 ∷ 0 ∷ [])) (a ∷ 0xEE ∷ []) [])

abbrev pub narrowed : ℕ → ℕ → Answer
narrowed a x = run (ran_as (Ok (Exit a 2)) (a ∷ x ∷ []) [])

-- a load into a 32-bit global 1 from the address in global 0
abbrev pub load32 : ℕ → ℕ → List ℕ → Answer
load32 flags address memory = run (run_of (block_of (1 ∷ 0 ∷ []) (0x2B ∷ 1 ∷ 0 ∷ flags ∷ [])) (address ∷ 0xEE ∷ []) memory)

-- it is served with x, or faults: the flags ask for no alignment
abbrev pub served : ℕ → List ℕ → ℕ → Answer
served address memory x = run (ran_as (Ok (Exit address 2)) (address ∷ x ∷ []) memory)

abbrev pub faulted : ℕ → ℕ → List ℕ → Answer
faulted flags address memory = run (ran_as (Ok (Fault false address flags Bounds 1)) (address ∷ 0xEE ∷ []) memory)

-- "Memory of 16 (decimal) bytes"
abbrev pub sixteen : List ℕ
sixteen = 0 ∷ 1 ∷ 2 ∷ 3 ∷ 4 ∷ 5 ∷ 6 ∷ 7 ∷ 8 ∷ 9 ∷ 10 ∷ 11 ∷ 12 ∷ 13 ∷ 14 ∷ 15 ∷ []

abbrev pub byte80 : List ℕ
byte80 = 0x80 ∷ []

abbrev pub bytes1234 : List ℕ
bytes1234 = 0x12 ∷ 0x34 ∷ []

-- g: the value of a 64-bit global
unfoldable pub marked_cases : ℕ → List Case
marked_cases g =
    -- "Empty block: refusal 10 at 0"; the bytes 01 00: "refusal 1 at 0"
    is 1 (check (check_of [])) (check (Refused 10 0))
    ∷ is 1 (check (check_of (0x01 ∷ 0x00 ∷ []))) (check (Refused 1 0))
    -- "is accepted and exits with global 0 after one op"
    ∷ is 2 (check (check_of exit_with_global)) (check Accepted)
    ∷ is 2 (run (run_of exit_with_global (g ∷ []) [])) (run (ran_as (Ok (Exit g 1)) (g ∷ []) []))
    -- "add_i32 FFFFFFFF, 1 is 0"
    ∷ is 3 (binary32 0x14 [] 0xFFFFFFFF 1) (gives 0xFFFFFFFF 1 0)
    -- "divs_i32 80000000 by FFFFFFFF: no stated result; 80000001 by FFFFFFFF is 7FFFFFFF"
    ∷ is 4 (binary32 0x1F [] 0x80000000 0xFFFFFFFF) (unstated 0x80000000 0xFFFFFFFF)
    ∷ is 4 (binary32 0x1F [] 0x80000001 0xFFFFFFFF) (gives 0x80000001 0xFFFFFFFF 0x7FFFFFFF)
    -- "FFFFFFF9 by 2 in 32 bits: divs FFFFFFFD, rems FFFFFFFF"
    ∷ is 5 (binary32 0x1F [] 0xFFFFFFF9 2) (gives 0xFFFFFFF9 2 0xFFFFFFFD)
    ∷ is 5 (binary32 0x21 [] 0xFFFFFFF9 2) (gives 0xFFFFFFF9 2 0xFFFFFFFF)
    -- "sar_i32 80000000 by decimal 31 is FFFFFFFF; by 32, no stated result"
    ∷ is 6 (binary32 0x25 [] 0x80000000 31) (gives 0x80000000 31 0xFFFFFFFF)
    ∷ is 6 (binary32 0x25 [] 0x80000000 32) (unstated 0x80000000 32)
    -- "setcond_i32 FFFFFFFF, 0: LT gives 1, LTU gives 0"
    ∷ is 7 (binary32 0x28 (2 ∷ []) 0xFFFFFFFF 0) (gives 0xFFFFFFFF 0 1)
    ∷ is 7 (binary32 0x28 (6 ∷ []) 0xFFFFFFFF 0) (gives 0xFFFFFFFF 0 0)
    -- "ext_i32_i64 80000000 is FFFFFFFF80000000; extu gives 80000000; trunc of 100000005 is 5"
    ∷ is 8 (widen 0x05 0x80000000) (widened 0x80000000 0xFFFFFFFF80000000)
    ∷ is 8 (widen 0x06 0x80000000) (widened 0x80000000 0x80000000)
    ∷ is 8 (narrow 0x07 0x100000005) (narrowed 0x100000005 5)
    -- "a 4-byte load at 12 is served, at 13 faults; one byte at FFFFFFFFFFFFFFFF faults"
    ∷ is 9 (load32 2 12 sixteen) (served 12 sixteen 0x0F0E0D0C)
    ∷ is 9 (load32 2 13 sixteen) (faulted 2 13 sixteen)
    ∷ is 9 (load32 0 0xFFFFFFFFFFFFFFFF sixteen) (faulted 0 0xFFFFFFFFFFFFFFFF sixteen)
    -- "Byte 80 loaded signed into 32 bits: FFFFFF80. Bytes 12 34: 3412 little-endian, 1234 big-endian"
    ∷ is 10 (load32 4 0 byte80) (served 0 byte80 0xFFFFFF80)
    ∷ is 10 (load32 1 0 bytes1234) (served 0 bytes1234 0x3412)
    ∷ is 10 (load32 9 0 bytes1234) (served 0 bytes1234 0x1234)
    ∷ []

abbrev pub answers : List Case → List Answer
answers cs = map (λ c. c.answer) cs

abbrev pub expecteds : List Case → List Answer
expecteds cs = map (λ c. c.expected) cs

-- every row's answer is the expected one
unfoldable pub MarkedCases : Type 0
MarkedCases = (g : ℕ) → answers (marked_cases g) ≡ expecteds (marked_cases g)
