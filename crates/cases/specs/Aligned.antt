-- Aligned accesses, request 04: at every size, inside and outside the memory, with and without the bit. Proved in proofs/Aligned.antt. Assumes nothing.
use Rattle.std.specs.Prelude.{ℕ, Bool, true, false, cond, ◌≡◌, List, [], ◌∷◌, ◌++◌, map, Result, Ok, Err, ⊤}
use Rattle.memory.specs.declared.Reason.{Reason}
use Rattle.memory.specs.declared.Reason.TheVariants.{Bounds, Alignment}
use Rattle.block.specs.Checks.{Verdict, Accepted, Refused, check_of}
use Rattle.runs.specs.declared.Ending.TheVariants.{Exit, Fault}
use Rattle.runs.specs.Runs.{Answer as RunAnswer, ran_as, run_of}
use Rattle.cases.specs.Marked.{Answer, run, block_of, load32, served, sixteen}
use Rattle.cases.specs.Examples.{movi64, exit, declared5, Gives}

-- an access of a 64-bit global 1 at the address in global 0, with these flags
abbrev pub access_block : Bool → ℕ → List ℕ
access_block store flags = block_of (1 ∷ 1 ∷ []) (cond store 0xAC 0xAB ∷ 1 ∷ 0 ∷ flags ∷ [])

-- flags, an address, and whether the access to a memory of 16 bytes is served, or why it fails
pub record Case : Type 0 where
  pub flags : ℕ
  pub address : ℕ
  pub expected : Result ⊤ Reason

abbrev pub tried : ℕ → ℕ → Result ⊤ Reason → Case
tried flags address expected = record { flags = flags; address = address; expected = expected }

-- how the block ends, and how it should
abbrev pub ends : Bool → Case → RunAnswer
ends store c = (run_of (access_block store c.flags) (c.address ∷ 0xEE ∷ []) sixteen).answer

abbrev pub ends_by : Bool → Case → Result ⊤ Reason → RunAnswer
ends_by store c (Ok served) = Ok (Exit c.address 2)
ends_by store c (Err reason) = Ok (Fault store c.address c.flags reason 1)

-- sizes 1, 2, 4 and 8, with the bit: served up to the end; "alignment first where both apply"; past the end; at 2^64 - 1, which is a
-- multiple of no size but 1; and at the last address that is one
abbrev pub with_bit : List Case
with_bit =
    tried 0x10 15 (Ok tt) ∷ tried 0x10 16 (Err Bounds) ∷ tried 0x10 0xFFFFFFFFFFFFFFFF (Err Bounds)
    ∷ tried 0x11 14 (Ok tt) ∷ tried 0x11 13 (Err Alignment) ∷ tried 0x11 15 (Err Alignment) ∷ tried 0x11 16 (Err Bounds)
    ∷ tried 0x11 0xFFFFFFFFFFFFFFFF (Err Alignment) ∷ tried 0x11 0xFFFFFFFFFFFFFFFE (Err Bounds)
    ∷ tried 0x12 12 (Ok tt) ∷ tried 0x12 9 (Err Alignment) ∷ tried 0x12 10 (Err Alignment) ∷ tried 0x12 13 (Err Alignment) ∷ tried 0x12 16 (Err Bounds)
    ∷ tried 0x12 0xFFFFFFFFFFFFFFFF (Err Alignment) ∷ tried 0x12 0xFFFFFFFFFFFFFFFC (Err Bounds)
    ∷ tried 0x13 8 (Ok tt) ∷ tried 0x13 1 (Err Alignment) ∷ tried 0x13 4 (Err Alignment) ∷ tried 0x13 12 (Err Alignment) ∷ tried 0x13 16 (Err Bounds)
    ∷ tried 0x13 0xFFFFFFFFFFFFFFFF (Err Alignment) ∷ tried 0x13 0xFFFFFFFFFFFFFFF8 (Err Bounds) ∷ []

-- the same sizes and addresses: "Without the bit nothing changes except the reason reported."
abbrev pub without_bit : List Case
without_bit =
    tried 0x00 15 (Ok tt) ∷ tried 0x00 16 (Err Bounds) ∷ tried 0x00 0xFFFFFFFFFFFFFFFF (Err Bounds)
    ∷ tried 0x01 14 (Ok tt) ∷ tried 0x01 13 (Ok tt) ∷ tried 0x01 15 (Err Bounds) ∷ tried 0x01 16 (Err Bounds)
    ∷ tried 0x01 0xFFFFFFFFFFFFFFFF (Err Bounds) ∷ tried 0x01 0xFFFFFFFFFFFFFFFE (Err Bounds)
    ∷ tried 0x02 12 (Ok tt) ∷ tried 0x02 9 (Ok tt) ∷ tried 0x02 10 (Ok tt) ∷ tried 0x02 13 (Err Bounds) ∷ tried 0x02 16 (Err Bounds)
    ∷ tried 0x02 0xFFFFFFFFFFFFFFFF (Err Bounds) ∷ tried 0x02 0xFFFFFFFFFFFFFFFC (Err Bounds)
    ∷ tried 0x03 8 (Ok tt) ∷ tried 0x03 1 (Ok tt) ∷ tried 0x03 4 (Ok tt) ∷ tried 0x03 12 (Err Bounds) ∷ tried 0x03 16 (Err Bounds)
    ∷ tried 0x03 0xFFFFFFFFFFFFFFFF (Err Bounds) ∷ tried 0x03 0xFFFFFFFFFFFFFFF8 (Err Bounds) ∷ []

-- every access ends as it should, a load or a store
unfoldable pub AlignedCases : Type 0
AlignedCases =
    (store : Bool) → map (ends store) (with_bit ++ without_bit) ≡ map (λ c. ends_by store c c.expected) (with_bit ++ without_bit)

-- a store of a 32-bit global 1 at the address in global 0
abbrev pub store32 : ℕ → ℕ → List ℕ → Answer
store32 flags address memory = run (run_of (block_of (1 ∷ 0 ∷ []) (0x2C ∷ 1 ∷ 0 ∷ flags ∷ [])) (address ∷ 0x89ABCDEF ∷ []) memory)

-- what an access leaves: a big-endian and a signed load and a store that are served; a load and a store that fail, where nothing changes; the same
-- of 32 bits
unfoldable pub AlignedLeaves : Type 0
AlignedLeaves =
    (run_of (access_block false 0x1A) (8 ∷ 0xEE ∷ []) sixteen ≡ ran_as (Ok (Exit 8 2)) (8 ∷ 0x08090A0B ∷ []) sixteen)
    × (run_of (access_block false 0x15) (0 ∷ 0xEE ∷ []) (0xFE ∷ 0xFF ∷ []) ≡ ran_as (Ok (Exit 0 2)) (0 ∷ 0xFFFFFFFFFFFFFFFE ∷ []) (0xFE ∷ 0xFF ∷ []))
    × (run_of (access_block true 0x11) (2 ∷ 0x1234 ∷ []) (1 ∷ 2 ∷ 3 ∷ 4 ∷ []) ≡ ran_as (Ok (Exit 2 2)) (2 ∷ 0x1234 ∷ []) (1 ∷ 2 ∷ 0x34 ∷ 0x12 ∷ []))
    × (run_of (access_block false 0x12) (13 ∷ 0xEE ∷ []) sixteen ≡ ran_as (Ok (Fault false 13 0x12 Alignment 1)) (13 ∷ 0xEE ∷ []) sixteen)
    × (run_of (access_block true 0x11) (1 ∷ 0x1234 ∷ []) (1 ∷ 2 ∷ 3 ∷ 4 ∷ []) ≡ ran_as (Ok (Fault true 1 0x11 Alignment 1)) (1 ∷ 0x1234 ∷ []) (1 ∷ 2 ∷ 3 ∷ 4 ∷ []))
    × (load32 0x12 12 sixteen ≡ served 12 sixteen 0x0F0E0D0C)
    × (load32 0x12 13 sixteen ≡ run (ran_as (Ok (Fault false 13 0x12 Alignment 1)) (13 ∷ 0xEE ∷ []) sixteen))
    × (store32 0x12 1 (1 ∷ 2 ∷ 3 ∷ 4 ∷ []) ≡ run (ran_as (Ok (Fault true 1 0x12 Alignment 1)) (1 ∷ 0x89ABCDEF ∷ []) (1 ∷ 2 ∷ 3 ∷ 4 ∷ [])))
    × (store32 0x12 0 (1 ∷ 2 ∷ 3 ∷ 4 ∷ []) ≡ run (ran_as (Ok (Exit 0 2)) (0 ∷ 0x89ABCDEF ∷ []) (0xEF ∷ 0xCD ∷ 0xAB ∷ 0x89 ∷ [])))

-- an access that ends one byte past the memory, and any to no memory
unfoldable pub AlignedEnds : Type 0
AlignedEnds =
    (load32 0x12 4 (1 ∷ 2 ∷ 3 ∷ 4 ∷ 5 ∷ 6 ∷ 7 ∷ []) ≡ run (ran_as (Ok (Fault false 4 0x12 Bounds 1)) (4 ∷ 0xEE ∷ []) (1 ∷ 2 ∷ 3 ∷ 4 ∷ 5 ∷ 6 ∷ 7 ∷ [])))
    × (load32 0x12 2 [] ≡ run (ran_as (Ok (Fault false 2 0x12 Alignment 1)) (2 ∷ 0xEE ∷ []) []))
    × (load32 0x12 0 [] ≡ run (ran_as (Ok (Fault false 0 0x12 Bounds 1)) (0 ∷ 0xEE ∷ []) []))

-- "Refusal 6 stops objecting to bit 4.": the bit with each size, with the byte order, and with the sign; bits 5, 6 and 7 are refused
abbrev pub flags_tried : List ℕ
flags_tried = 0x10 ∷ 0x11 ∷ 0x12 ∷ 0x13 ∷ 0x1A ∷ 0x16 ∷ 0x1F ∷ 0x20 ∷ 0x30 ∷ 0x50 ∷ 0x90 ∷ []

-- the check's answers of an access of this kind, of a global 1 of this type, with each of these flags
abbrev pub verdicts : ℕ → ℕ → List Verdict
verdicts type kind = map (λ flags. check_of (block_of (1 ∷ type ∷ []) (kind ∷ 1 ∷ 0 ∷ flags ∷ []))) flags_tried

abbrev pub no : Verdict
no = Refused 6 6

unfoldable pub AlignedFlags : Type 0
AlignedFlags =
    (verdicts 0 0x2B ≡ Accepted ∷ Accepted ∷ Accepted ∷ no ∷ Accepted ∷ Accepted ∷ no ∷ no ∷ no ∷ no ∷ no ∷ [])
    × (verdicts 1 0xAB ≡ Accepted ∷ Accepted ∷ Accepted ∷ Accepted ∷ Accepted ∷ Accepted ∷ Accepted ∷ no ∷ no ∷ no ∷ no ∷ [])
    × (verdicts 0 0x2C ≡ Accepted ∷ Accepted ∷ Accepted ∷ no ∷ Accepted ∷ no ∷ no ∷ no ∷ no ∷ no ∷ no ∷ [])
    × (verdicts 1 0xAC ≡ Accepted ∷ Accepted ∷ Accepted ∷ Accepted ∷ Accepted ∷ no ∷ no ∷ no ∷ no ∷ no ∷ no ∷ [])

-- v0 := 5; v3 := 1; v3 := v3 + v3; v3 := load of 8 bytes, which asks for a multiple; v0 := 0; exit. Both writes of v3 before the load are dropped,
-- the access stays as it is, and "same fault" includes the reason
unfoldable pub aligned_load : List ℕ
aligned_load = declared5 ++ movi64 0x00 0x05 ++ movi64 0x03 0x01 ++ (0x94 ∷ 0x03 ∷ 0x03 ∷ 0x03 ∷ []) ++ (0xAB ∷ 0x03 ∷ 0x01 ∷ 0x13 ∷ []) ++ movi64 0x00 0x00 ++ exit 0x00

unfoldable pub aligned_result : List ℕ
aligned_result = declared5 ++ movi64 0x00 0x05 ++ (0xAB ∷ 0x03 ∷ 0x01 ∷ 0x13 ∷ []) ++ movi64 0x00 0x00 ++ exit 0x00

unfoldable pub AlignedPass : Type 0
AlignedPass =
    Gives aligned_load aligned_result
    × (run_of aligned_load (1 ∷ 0x14 ∷ []) sixteen ≡ ran_as (Ok (Fault false 0x14 0x13 Alignment 4)) (5 ∷ 0x14 ∷ []) sixteen)
    × (run_of aligned_result (1 ∷ 0x14 ∷ []) sixteen ≡ ran_as (Ok (Fault false 0x14 0x13 Alignment 2)) (5 ∷ 0x14 ∷ []) sixteen)
    × (run_of aligned_load (1 ∷ 0x18 ∷ []) sixteen ≡ ran_as (Ok (Fault false 0x18 0x13 Bounds 4)) (5 ∷ 0x18 ∷ []) sixteen)
    × (run_of aligned_result (1 ∷ 0x18 ∷ []) sixteen ≡ ran_as (Ok (Fault false 0x18 0x13 Bounds 2)) (5 ∷ 0x18 ∷ []) sixteen)
    × (run_of aligned_result (1 ∷ 0x08 ∷ []) sixteen ≡ ran_as (Ok (Exit 0 4)) (0 ∷ 0x08 ∷ []) sixteen)
