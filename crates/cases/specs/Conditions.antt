-- The conditions at the corners of a width, by the order in which the corners are written. Proved in proofs/Conditions.antt. Assumes nothing.
use Rattle.std.specs.Prelude.{ℕ, suc, ◌+◌, ◌-◌, ◌^◌, ◌≡◌, Bool, true, not, ◌&&◌, List, [], ◌∷◌, eqb, ltb, leb}
use Rattle.std.specs.Bool.{beq}
use Rattle.word.specs.Condition.{cond_w}

-- as unsigned numbers rise: both sides of the top bit, and the ends
abbrev pub unsigned_corners : ℕ → List ℕ
unsigned_corners w = 0 ∷ 1 ∷ (2 ^ (w - 1) - 1) ∷ (2 ^ (w - 1)) ∷ (2 ^ (w - 1) + 1) ∷ (2 ^ w - 1) ∷ []

-- as signed numbers rise: the smallest and the next, minus one, zero, one, the largest
abbrev pub signed_corners : ℕ → List ℕ
signed_corners w = (2 ^ (w - 1)) ∷ (2 ^ (w - 1) + 1) ∷ (2 ^ w - 1) ∷ 0 ∷ 1 ∷ (2 ^ (w - 1) - 1) ∷ []

-- EQ, NE, and an order's four conditions from number c on, of the corners at places i and j
abbrev pub as_places : ℕ → ℕ → ℕ → ℕ → ℕ → ℕ → Bool
as_places w c i a j b =
    beq (cond_w w 0 a b) (eqb i j)
    && beq (cond_w w 1 a b) (not (eqb i j))
    && beq (cond_w w c a b) (ltb i j)
    && beq (cond_w w (c + 1) a b) (leb j i)
    && beq (cond_w w (c + 2) a b) (leb i j)
    && beq (cond_w w (c + 3) a b) (ltb j i)

-- a test of every element with its place, from n on
abbrev pub placed : (ℕ → ℕ → Bool) → ℕ → List ℕ → Bool
placed test n [] = true
placed test n (x ∷ xs) = test n x && placed test (suc n) xs

-- and of any two of them
abbrev pub pairs : (ℕ → ℕ → ℕ → ℕ → Bool) → List ℕ → Bool
pairs test xs = placed (λ i a. placed (λ j b. test i a j b) 0 xs) 0 xs

-- LT, GE, LE and GT go by the signed order; LTU, GEU, LEU and GTU by the unsigned
abbrev pub corners_of : ℕ → Bool
corners_of w = pairs (as_places w 2) (signed_corners w) && pairs (as_places w 6) (unsigned_corners w)

-- at both widths
unfoldable pub ConditionCorners : Type 0
ConditionCorners = (corners_of 32 && corners_of 64) ≡ true
