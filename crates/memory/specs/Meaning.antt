-- What the answer of an access means, for readers. Proved in proofs/Meaning.antt. Assumes nothing.
use Rattle.std.specs.Prelude.{◌≡◌, Bool, true, false, cond, ℕ, ◌+◌, ◌%◌, ◌≤◌, ◌<◌, leb, Result, Ok, Err, ⊤}
use Rattle.memory.specs.Access.{size_of, asks_aligned, flags_ok, access_at}
use Rattle.memory.specs.declared.Reason.{Reason}
use Rattle.memory.specs.declared.Reason.TheVariants.{Bounds, Alignment}

-- "a multiple of the size"
abbrev pub Multiple : ℕ → ℕ → Type 0
Multiple address flags = address % size_of flags ≡ 0

-- why an access fails, or that it is served: no two of these hold of one access
pub data Means (length address flags : ℕ) : Result ⊤ Reason → Type 0 where
  misaligned : asks_aligned flags ≡ true → (Multiple address flags → ⊥) → Means length address flags (Err Alignment)
  past_end : (asks_aligned flags ≡ true → Multiple address flags) → length < address + size_of flags → Means length address flags (Err Bounds)
  served : (asks_aligned flags ≡ true → Multiple address flags) → address + size_of flags ≤ length → Means length address flags (Ok tt)

abbrev pub AccessMeans : Type 0
AccessMeans = (length address flags : ℕ) → Means length address flags (access_at length address flags)

-- "Without the bit nothing changes except the reason reported."
abbrev pub WithoutBit : Type 0
WithoutBit = (length address flags : ℕ) → asks_aligned flags ≡ false
    → access_at length address flags ≡ cond (leb (address + size_of flags) length) (Ok tt) (Err Bounds)

-- "Refusal 6 stops objecting to bit 4.": flags are allowed with it exactly if they are without
abbrev pub BitAllowed : Type 0
BitAllowed = (w : ℕ) (store : Bool) (flags : ℕ) → flags < 16 → flags_ok w store (flags + 16) ≡ flags_ok w store flags
