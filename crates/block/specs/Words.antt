-- What a refusal prints. Assumes nothing.
use Rattle.std.specs.Prelude.{ℕ, List, ◌++◌, codes, decimal}
use Rattle.block.specs.declared.Refusal.{Refusal}

-- "refusal", the rule's number, "at" and the place, both in decimal
abbrev pub refusal_words : Refusal → List ℕ
refusal_words refusal = codes "refusal " ++ (decimal refusal.number ++ (codes " at " ++ decimal refusal.place))
