-- Conditions 0 to 9, once over the width. Assumes nothing.
use Rattle.std.specs.Prelude.{ℕ, Bool, false, cond, not, ltb, leb, eqb}
use Rattle.std.specs.Int.Signed.{lt_z, le_z}
use Rattle.word.specs.Word.{signed_w}

unfoldable pub lts_w : ℕ → ℕ → ℕ → Bool
lts_w w a b = lt_z (signed_w w a) (signed_w w b)

unfoldable pub les_w : ℕ → ℕ → ℕ → Bool
les_w w a b = le_z (signed_w w a) (signed_w w b)

-- "Conditions 0 to 9: EQ, NE, LT, GE, LE, GT, LTU, GEU, LEU, GTU; LT, GE, LE and GT read their operands as signed"
unfoldable pub cond_w : ℕ → ℕ → ℕ → ℕ → Bool
cond_w w c a b =
    cond (eqb c 0) (eqb a b)
    (cond (eqb c 1) (not (eqb a b))
    (cond (eqb c 2) (lts_w w a b)
    (cond (eqb c 3) (les_w w b a)
    (cond (eqb c 4) (les_w w a b)
    (cond (eqb c 5) (lts_w w b a)
    (cond (eqb c 6) (ltb a b)
    (cond (eqb c 7) (leb b a)
    (cond (eqb c 8) (leb a b)
    (cond (eqb c 9) (ltb b a) false)))))))))
