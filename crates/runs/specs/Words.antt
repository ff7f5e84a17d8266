-- What an ending prints. Assumes nothing.
use Rattle.std.specs.Prelude.{ℕ, ◌/◌, ◌%◌, Bool, true, false, cond, List, [], ◌∷◌, ◌++◌, eqb, codes, decimal}
use Rattle.std.specs.Fmt.{digits, digit_glyph}
use Rattle.memory.specs.Answer.{reason_word}
use Rattle.runs.specs.declared.Ending.{Ending}
use Rattle.runs.specs.declared.Ending.TheVariants.{Exit, Fault, NoResult}

-- the word of an access: a store, or else a load
abbrev pub access_word : Bool → List ℕ
access_word true = codes "store"
access_word false = codes "load"

-- 0x and the number in hexadecimal, with small letters and no zeros before it
abbrev pub hexadecimal : ℕ → List ℕ
hexadecimal n = codes "0x" ++ digits 16 false n

-- 0x and the byte in hexadecimal, always two digits
abbrev pub hexadecimal_byte : ℕ → List ℕ
hexadecimal_byte n = codes "0x" ++ (digit_glyph false (n / 16) ∷ digit_glyph false (n % 16) ∷ [])

-- after how many ops: "1 op", else the number and "ops"
abbrev pub after_words : ℕ → List ℕ
after_words count = codes " after " ++ (decimal count ++ (codes " " ++ cond (eqb count 1) (codes "op") (codes "ops")))

-- an exit by its value; a fault by its access, address, flags and reason; no stated result by the op's position. Then how many ops were run
abbrev pub ending_words : Ending → List ℕ
ending_words (Exit value count) = codes "exit " ++ (hexadecimal value ++ after_words count)
ending_words (Fault store address flags reason count) =
    codes "fault " ++ (access_word store ++ (codes " at " ++ (hexadecimal address ++ (codes " flags " ++ (hexadecimal_byte flags
    ++ (codes " (" ++ (reason_word reason ++ (codes ")" ++ after_words count))))))))
ending_words (NoResult position count) = codes "no stated result at op " ++ (decimal position ++ after_words count)
