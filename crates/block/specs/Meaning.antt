-- What the check's answers mean, for readers. Proved in proofs/Meaning.antt. Assumes nothing.
use Rattle.std.specs.Prelude.{◌≡◌, true, false, List, [], ◌∷◌, ◌++◌, ℕ, suc, ◌<◌, length}
use Rattle.ops.specs.Rows.{known, body_length, Table}
use Rattle.ops.specs.Fields.{kind_of}
use Rattle.theory.specs.Sets.{All}
use Rattle.block.specs.Checks.{Finding, rules_of, end_rules, check_by}
use Rattle.block.specs.Records.{record_bytes}
use Rattle.block.specs.Rules.{Seen, start, next}
use Rattle.block.specs.Checks.{Accepted, Refused}

-- what is seen once records have been read
abbrev pub seen : Table → Seen → List (List ℕ) → Seen
seen T s [] = s
seen T s (r ∷ rs) = seen T (next T s r) rs

-- every rule of a list is met; the first that is not has this number
abbrev pub AllMet : List Finding → Type 0
AllMet rules = All (λ x. x.met ≡ true) rules

pub data FirstBroken : List Finding → ℕ → Type 0 where
  here : {x : Finding} {xs : List Finding} → x.met ≡ false → FirstBroken (x ∷ xs) x.number
  later : {x : Finding} {xs : List Finding} {number : ℕ} → x.met ≡ true → FirstBroken xs number → FirstBroken (x ∷ xs) number

-- one record after what has been seen. It is whole and of a known kind: not 1, "a record runs past the end", and not 2, "unknown kind, 00
-- included"; and it meets each of its rules: a declaration 3, an op 4 to 9
pub record Meets (T : Table) (s : Seen) (r : List ℕ) : Type 0 where
  pub met1 : length r ≡ suc (body_length T (kind_of r))
  pub met2 : known T (kind_of r) ≡ true
  pub rules : AllMet (rules_of T s r)

-- each of these records, wherever it stands, meets the rules after those before it
abbrev pub EachMeets : Table → Seen → List (List ℕ) → Type 0
EachMeets T s rs = (before : List (List ℕ)) (r : List ℕ) (after : List (List ℕ)) → rs ≡ before ++ (r ∷ after) → Meets T (seen T s before) r

-- the bytes are records put together, each record meets its rules, and the end meets 10, "no op, or last op is not exit_tb", and
-- 7, "a jumped-to label never set"
pub record Obeys (T : Table) (block : List ℕ) : Type 0 where
  pub records : List (List ℕ)
  pub together : record_bytes records ≡ block
  pub each : EachMeets T start records
  pub end : AllMet (end_rules (seen T start records))

-- the bytes that follow the records seen break the rule of this number and none that is asked before it: "2, 1", those of a whole record,
-- or, where nothing follows, "10 comes before 7"
pub data Breaks (T : Table) (s : Seen) (rest : List ℕ) : ℕ → Type 0 where
  unknown2 : 0 < length rest → known T (kind_of rest) ≡ false → Breaks T s rest 2
  short1 : 0 < length rest → known T (kind_of rest) ≡ true → length rest < suc (body_length T (kind_of rest)) → Breaks T s rest 1
  record_breaks : {number : ℕ} (r after : List ℕ) → r ++ after ≡ rest → known T (kind_of r) ≡ true → length r ≡ suc (body_length T (kind_of r))
      → FirstBroken (rules_of T s r) number → Breaks T s rest number
  ending : {number : ℕ} → rest ≡ [] → FirstBroken (end_rules s) number → Breaks T s rest number

-- records that all meet their rules end at the place, and what follows there breaks the rule of this number; where nothing follows, the
-- place is the block's length
pub record Broken (T : Table) (block : List ℕ) (number place : ℕ) : Type 0 where
  pub before : List (List ℕ)
  pub rest : List ℕ
  pub together : record_bytes before ++ rest ≡ block
  pub place_is : place ≡ length (record_bytes before)
  pub each : EachMeets T start before
  pub broken : Breaks T (seen T start before) rest number

-- the check accepts a block exactly when the block obeys the rules
pub record AcceptedMeans (T : Table) (block : List ℕ) : Type 0 where
  pub accepted_obeys : check_by T block ≡ Accepted → Obeys T block
  pub obeys_accepted : Obeys T block → check_by T block ≡ Accepted

-- the check refuses a block with a number and a place exactly when that rule is broken there first: "Records are read in order and the
-- first bad one answers."
pub record RefusedMeans (T : Table) (block : List ℕ) (number place : ℕ) : Type 0 where
  pub refused_broken : check_by T block ≡ Refused number place → Broken T block number place
  pub broken_refused : Broken T block number place → check_by T block ≡ Refused number place
