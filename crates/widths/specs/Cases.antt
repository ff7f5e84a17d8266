-- The cases that conditions tell apart, as numbers. Assumes nothing.
use Rattle.std.specs.Prelude.{ℕ, Bool, cond, eqb}
use Rattle.std.specs.Int.Bits.{bit_or}

-- equal, less, less as unsigned
abbrev pub case_of : Bool → Bool → Bool → ℕ
case_of equal less below = bit_or (bit_or (cond equal 1 0) (cond less 2 0)) (cond below 4 0)

-- the bits of the cases in which a condition holds
unfoldable pub answers_of : ℕ → ℕ
answers_of c =
    cond (eqb c 0) 0xAA
    (cond (eqb c 1) 0x55
    (cond (eqb c 2) 0xCC
    (cond (eqb c 3) 0x33
    (cond (eqb c 4) 0xEE
    (cond (eqb c 5) 0x11
    (cond (eqb c 6) 0xF0
    (cond (eqb c 7) 0x0F
    (cond (eqb c 8) 0xFA
    (cond (eqb c 9) 0x05 0)))))))))
