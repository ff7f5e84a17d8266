-- The check: the first broken rule, by number and place. Assumes nothing.
use Rattle.std.specs.Prelude.{ℕ, ◌+◌, Bool, cond, ◌≡◌, List, [], ◌∷◌, eqb, length, Result, Ok, Err}
use Rattle.block.specs.declared.Refusal.{Refusal}
use Rattle.block.specs.Records.{cut_of, is_declaration}
use Rattle.block.specs.Rules.{Seen, start, next, rule3, rule4, rule5, rule6, rule7, rule8, rule9, rule10, rule7end}
use Rattle.ops.specs.Rows.{Table}
use Rattle.ops.specs.Table.{row_of}

-- an answer, or a refusal: the number of a rule, and a place
abbrev pub OrRefused : Type 0 → Type 0
OrRefused A = Result A Refusal

-- the check's: it accepts, or refuses
abbrev pub Verdict : Type 0
Verdict = OrRefused (Unit {0})

abbrev pub Accepted : Verdict
Accepted = Ok tt

abbrev pub Refused : ℕ → ℕ → Verdict
Refused number place = Err (record { number = number; place = place })

-- a rule's number, and whether it is met
pub record Finding : Type 0 where
  pub number : ℕ
  pub met : Bool

abbrev pub asks : ℕ → Bool → Finding
asks number met = record { number = number; met = met }

-- the number of the first rule that is not met; 0 if all are
unfoldable pub first_broken : List Finding → ℕ
first_broken [] = 0
first_broken (x ∷ xs) = cond x.met (first_broken xs) x.number

-- "Within one: 2, 1, then 3 or 9, then 4, 5, 6, 7, 8" (2 and 1 are the cut's)
abbrev pub op_rules : Table → Seen → List ℕ → List Finding
op_rules T s r =
    asks 9 (rule9 s r) ∷ asks 4 (rule4 T s r) ∷ asks 5 (rule5 T s r) ∷ asks 6 (rule6 T s r) ∷ asks 7 (rule7 T s r) ∷ asks 8 (rule8 T s r) ∷ []

abbrev pub rules_of : Table → Seen → List ℕ → List Finding
rules_of T s r = cond (is_declaration r) (asks 3 (rule3 s r) ∷ []) (op_rules T s r)

-- "After the last record 10 comes before 7."
abbrev pub end_rules : Seen → List Finding
end_rules s = asks 10 (rule10 s) ∷ asks 7 (rule7end s) ∷ []

abbrev pub refused_or : ℕ → ℕ → Verdict → Verdict
refused_or number place go = cond (eqb number 0) go (Refused number place)

-- "Records are read in order and the first bad one answers." place: where the next record starts
unfoldable pub check_from : Table → Seen → ℕ → List (List ℕ) → ℕ → Verdict
check_from T s place [] tail = refused_or tail place (refused_or (first_broken (end_rules s)) place Accepted)
check_from T s place (r ∷ rs) tail = let go = check_from T (next T s r) (place + length r) rs tail in refused_or (first_broken (rules_of T s r)) place go

unfoldable pub check_by : Table → List ℕ → Verdict
check_by T block = check_from T start 0 (cut_of T block).records (cut_of T block).tail

-- document 01's
abbrev pub check_of : List ℕ → Verdict
check_of = check_by row_of

-- a call of the check that was lent this block answered this verdict
abbrev pub Checked : List ℕ → Verdict → Type 0
Checked block verdict = verdict ≡ check_of block
