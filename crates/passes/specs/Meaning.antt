-- What the same end means, for readers. Proved in proofs/Meaning.antt. Assumes nothing.
use Rattle.std.specs.Prelude.{ℕ, ◌≤◌, ◌≡◌, Ok, Err}
use Rattle.runs.specs.Runs.{Answer}
use Rattle.runs.specs.declared.Ending.TheVariants.{Exit, Fault, NoResult}
use Rattle.passes.specs.Demand.{SameEnd}

-- the number of ops run, 0 of a refusal; and an answer with that left out
abbrev pub count_of : Answer → ℕ
count_of (Err refusal) = 0
count_of (Ok (Exit value count)) = count
count_of (Ok (Fault store address flags reason count)) = count
count_of (Ok (NoResult position count)) = count

abbrev pub uncounted : Answer → Answer
uncounted (Err refusal) = Err refusal
uncounted (Ok (Exit value count)) = Ok (Exit value 0)
uncounted (Ok (Fault store address flags reason count)) = Ok (Fault store address flags reason 0)
uncounted (Ok (NoResult position count)) = Ok (NoResult position 0)

-- nothing but the number of ops may differ, and that is no more
abbrev pub SameButCount : Type 0
SameButCount = (source target : Answer) → SameEnd source target → (uncounted target ≡ uncounted source) × (count_of target ≤ count_of source)
