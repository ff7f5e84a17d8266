-- The check accepts a block exactly when every record meets every rule, and the end does. Assumes nothing.
use mathlib.Core.Path.{◌≡◌, refl, sym, ◌∙◌}
use mathlib.Core.Bool.{Bool, true, false, cond, ◌&&◌}
use mathlib.Core.List.{List, [], ◌∷◌, ◌++◌}
use Prim.Native.Nat.{ℕ, ◌+◌, ◌<◌}
use native.Mathlib.Omega.{arith}
use lib.Dec.{eqb}
use lib.ListN.{length}
use borrow.Author.Tests.{eqb-true, ne_eqb}
use Rattle.theory.specs.Sets.{All}
use Rattle.theory.proofs.Sets.{and_l, and_r, and_i}
use Rattle.block.specs.Checks.{Finding, asks, first_broken, op_rules, rules_of, end_rules, refused_or, check_from, check_by}
use Rattle.block.specs.Meaning.{seen}
use Rattle.block.specs.Records.{cut_of, records_of, record_bytes, is_declaration}
use Rattle.block.specs.Rules.{Seen, start, rule3, next}
use Rattle.block.proofs.Cut.{AllWhole, cut_whole, cut_concat}
use Rattle.block.specs.Checks.{Verdict}
use Rattle.block.specs.Checks.{Accepted, Refused}
use Rattle.ops.specs.Rows.{Table}

abbrev pub all_met : List Finding → Bool
all_met [] = true
all_met (x ∷ xs) = x.met && all_met xs

-- each record meets its rules after those before it, and the end meets its own
abbrev pub accepts : Table → Seen → List (List ℕ) → Bool
accepts T s [] = all_met (end_rules s)
accepts T s (r ∷ rs) = all_met (rules_of T s r) && accepts T (next T s r) rs

abbrev pub Numbered : List Finding → Type 0
Numbered xs = All (λ x. 0 < x.number) xs

-- no rule is the first broken exactly when all are met
pub none_broken : (xs : List Finding) → Numbered xs → eqb (first_broken xs) 0 ≡ all_met xs
unfolding first_broken
none_broken [] h = refl
none_broken (x ∷ xs) h = go x.met (none_broken xs h.1)
  where
    go : (b : Bool) → eqb (first_broken xs) 0 ≡ all_met xs → eqb (cond b (first_broken xs) x.number) 0 ≡ (b && all_met xs)
    go true ih = ih
    go false ih = ne_eqb x.number 0 (λ e. omega (arith, h.0))

numbered_op : (T : Table) (s : Seen) (r : List ℕ) → Numbered (op_rules T s r)
numbered_op T s r = (omega arith, (omega arith, (omega arith, (omega arith, (omega arith, (omega arith, tt))))))

pub numbered_rules : (T : Table) (s : Seen) (r : List ℕ) → Numbered (rules_of T s r)
numbered_rules T s r = go (is_declaration r)
  where
    go : (b : Bool) → Numbered (cond b (asks 3 (rule3 s r) ∷ []) (op_rules T s r))
    go true = (omega arith, tt)
    go false = numbered_op T s r

pub numbered_end : (s : Seen) → Numbered (end_rules s)
numbered_end s = (omega arith, (omega arith, tt))

answer_accepted : (number place : ℕ) (go : Verdict) → refused_or number place go ≡ Accepted → (eqb number 0 ≡ true) × (go ≡ Accepted)
answer_accepted number place go h = by (eqb number 0) _ h
  where
    by : (b : Bool) (p : ℕ) → cond b go (Refused number p) ≡ Accepted → (b ≡ true) × (go ≡ Accepted)
    by true p e = (refl, e)
    by false p e = (cc, cc)

pub check_accepts : (T : Table) (s : Seen) (place : ℕ) (rs : List (List ℕ)) (tail : ℕ) → check_from T s place rs tail ≡ Accepted → (tail ≡ 0) × (accepts T s rs ≡ true)
unfolding check_from
check_accepts T s place [] tail h =
    let p = answer_accepted tail place (refused_or (first_broken (end_rules s)) place Accepted) h in
    let q = answer_accepted (first_broken (end_rules s)) place Accepted p.1 in
    (eqb-true tail 0 p.0, rw (← none_broken (end_rules s) (numbered_end s)) q.0)
check_accepts T s place (r ∷ rs) tail h =
    let p = answer_accepted (first_broken (rules_of T s r)) place (check_from T (next T s r) (place + length r) rs tail) h in
    let q = check_accepts T (next T s r) (place + length r) rs tail p.1 in
    let m : all_met (rules_of T s r) ≡ true = sym (none_broken (rules_of T s r) (numbered_rules T s r)) ∙ p.0 in
    (q.0, and_i (all_met (rules_of T s r)) (accepts T (next T s r) rs) m q.1)

pub accepts_check : (T : Table) (s : Seen) (place : ℕ) (rs : List (List ℕ)) → accepts T s rs ≡ true → check_from T s place rs 0 ≡ Accepted
unfolding check_from
accepts_check T s place [] h = let e : eqb (first_broken (end_rules s)) 0 ≡ true = none_broken (end_rules s) (numbered_end s) ∙ h in rw e
accepts_check T s place (r ∷ rs) h =
    let e : eqb (first_broken (rules_of T s r)) 0 ≡ true = none_broken (rules_of T s r) (numbered_rules T s r) ∙ and_l (all_met (rules_of T s r)) (accepts T (next T s r) rs) h in
    rw e (accepts_check T (next T s r) (place + length r) rs (and_r (all_met (rules_of T s r)) (accepts T (next T s r) rs) h))

-- the records of an accepted block: whole, and accepted
pub accepted_records : (T : Table) (block : List ℕ) → check_by T block ≡ Accepted → AllWhole T (records_of T block) × (accepts T start (records_of T block) ≡ true)
unfolding check_by cut_of
accepted_records T block h = (cut_whole T (length block) block, (check_accepts T start 0 (cut_of T block).records (cut_of T block).tail h).1)

-- whole records that are accepted make an accepted block
pub records_accepted : (T : Table) (rs : List (List ℕ)) → AllWhole T rs → accepts T start rs ≡ true → check_by T (record_bytes rs) ≡ Accepted
unfolding check_by
records_accepted T rs w h = rw (cut_concat T rs w) (accepts_check T start 0 rs h)

-- records read one after the other each meet their rules
abbrev pub meet : Table → Seen → List (List ℕ) → Bool
meet T s [] = true
meet T s (r ∷ rs) = all_met (rules_of T s r) && meet T (next T s r) rs

pub accepts_append : (T : Table) (s : Seen) (xs ys : List (List ℕ)) → accepts T s (xs ++ ys) ≡ (meet T s xs && accepts T (seen T s xs) ys)
accepts_append T s [] ys = refl
accepts_append T s (x ∷ xs) ys = rw (accepts_append T (next T s x) xs ys) (go (all_met (rules_of T s x)))
  where
    go : (b : Bool) → (b && (meet T (next T s x) xs && accepts T (seen T (next T s x) xs) ys)) ≡ ((b && meet T (next T s x) xs) && accepts T (seen T (next T s x) xs) ys)
    go true = refl
    go false = refl
