-- What the check's answers mean: accepted, the block obeys every rule; refused, the first rule that is broken. Assumes nothing.
use mathlib.Core.Path.{◌≡◌, refl, sym, ap, ◌∙◌}
use mathlib.Core.Bool.{Bool, true, false, cond}
use mathlib.Core.List.{List, [], ◌∷◌, ◌++◌, append_assoc}
use Prim.Native.Nat.{ℕ, zero, suc, ◌+◌, ◌≤◌}
use native.Mathlib.Omega.{arith}
use lib.Dec.{eqb, ltb}
use lib.ListN.{length, take, drop, length-append, length-drop, take-append-drop}
use lib.Seq.{take_at, drop_at, length-take-le}
use borrow.Author.Tests.{ltb-true, ltb-false, eqb-true, eqb-false, lt-ltb, le-ltb, eq-eqb, ne_eqb}
use Rattle.theory.proofs.Sets.{and_l, and_r, and_i, clash}
use Rattle.ops.specs.Rows.{known, body_length, Table}
use Rattle.ops.specs.Fields.{kind_of}
use Rattle.block.specs.Checks.{Finding, first_broken, rules_of, end_rules, refused_or, check_from, check_by}
use Rattle.block.specs.Meaning.{seen, AllMet, FirstBroken, here, later, Meets, EachMeets, Obeys, Breaks, unknown2, short1, record_breaks, ending, Broken, AcceptedMeans, RefusedMeans}
use Rattle.block.specs.Records.{Cut, stray, cons, cut_by, cut_of, records_of, record_bytes}
use Rattle.block.specs.Rules.{Seen, start, next}
use Rattle.block.specs.Checks.{Verdict}
use Rattle.block.specs.Checks.{Accepted, Refused}
use Rattle.block.proofs.Accepts.{all_met, accepts, Numbered, none_broken, numbered_rules, numbered_end, check_accepts, accepted_records, records_accepted}
use Rattle.block.proofs.Cut.{whole, AllWhole, no_record}
use Rattle.block.proofs.Refusals.{same_number, same_place}
use Rattle.block.proofs.Steps.{cut_first}

-- a record's rules, each by itself, and the check's list of them
whole_met : (T : Table) (r : List ℕ) → whole T r ≡ true → (known T (kind_of r) ≡ true) × (length r ≡ suc (body_length T (kind_of r)))
whole_met T r w =
    (and_l (known T (kind_of r)) _ w, eqb-true (length r) (suc (body_length T (kind_of r))) (and_r (known T (kind_of r)) (eqb (length r) (suc (body_length T (kind_of r)))) w))

met_whole : (T : Table) (r : List ℕ) → known T (kind_of r) ≡ true → length r ≡ suc (body_length T (kind_of r)) → whole T r ≡ true
met_whole T r k l = and_i (known T (kind_of r)) (eqb (length r) (suc (body_length T (kind_of r)))) k (eq-eqb (length r) (suc (body_length T (kind_of r))) l)

-- a list of rules: all are met, or the first that is not is found
all_met_lem : (xs : List Finding) → AllMet xs → all_met xs ≡ true
all_met_lem [] h = refl
all_met_lem (x ∷ xs) h = and_i x.met (all_met xs) h.0 (all_met_lem xs h.1)

met_all : (xs : List Finding) → all_met xs ≡ true → AllMet xs
met_all [] h = tt
met_all (x ∷ xs) h = (and_l x.met (all_met xs) h, met_all xs (and_r x.met (all_met xs) h))

found : (xs : List Finding) → (first_broken xs ≡ 0 → ⊥) → FirstBroken xs (first_broken xs)
unfolding first_broken
found [] h = absurd (h refl)
found (x ∷ xs) h = go x.met refl (found xs) h
  where
    go : (b : Bool) → x.met ≡ b → ((first_broken xs ≡ 0 → ⊥) → FirstBroken xs (first_broken xs)) → (cond b (first_broken xs) x.number ≡ 0 → ⊥)
        → FirstBroken (x ∷ xs) (cond b (first_broken xs) x.number)
    go true e ih q = later e (ih q)
    go false e ih q = here e

is_first : {xs : List Finding} {number : ℕ} → FirstBroken xs number → first_broken xs ≡ number
unfolding first_broken
is_first (here e) = rw e
is_first (later e f) = rw e (is_first f)

no_zero : {xs : List Finding} {number : ℕ} → Numbered xs → FirstBroken xs number → number ≡ 0 → ⊥
no_zero h (here e) z = omega (arith, h.0)
no_zero h (later e f) z = no_zero h.1 f z

module _ (T : Table) (s : Seen) (r : List ℕ) where
  meets_all : Meets T s r → all_met (rules_of T s r) ≡ true
  meets_all m = all_met_lem (rules_of T s r) m.rules

  all_meets : whole T r ≡ true → all_met (rules_of T s r) ≡ true → Meets T s r
  all_meets w m = record { met1 = (whole_met T r w).1; met2 = (whole_met T r w).0; rules = met_all (rules_of T s r) m }

-- records one by one
each_none : (T : Table) (s : Seen) → EachMeets T s []
each_none T s [] r after e = let z : ◌≡◌ {A = ℕ} 0 1 = cc in absurd (omega arith)
each_none T s (x ∷ before) r after e = let z : ◌≡◌ {A = ℕ} 0 1 = cc in absurd (omega arith)

module _ (T : Table) {s : Seen} {r : List ℕ} {rs : List (List ℕ)} where
  each_cons : Meets T s r → EachMeets T (next T s r) rs → EachMeets T s (r ∷ rs)
  each_cons m h [] r' after e = let q : r ≡ r' = cc in rw (← q) m
  each_cons m h (x ∷ before) r' after e =
      let q : r ≡ x = cc in
      let t : rs ≡ before ++ (r' ∷ after) = cc in
      rw (← q) (h before r' after t)

  each_first : EachMeets T s (r ∷ rs) → Meets T s r
  each_first h = h [] r rs refl

  each_rest : EachMeets T s (r ∷ rs) → EachMeets T (next T s r) rs
  each_rest h before q after e = h (r ∷ before) q after (ap (λ (l : List (List ℕ)). r ∷ l) e)

-- accepted
met_records : (T : Table) (s : Seen) (rs : List (List ℕ)) → AllWhole T rs → accepts T s rs ≡ true
    → EachMeets T s rs × AllMet (end_rules (seen T s rs))
met_records T s [] w h = (each_none T s, met_all (end_rules s) h)
met_records T s (r ∷ rs) w h =
    let q = met_records T (next T s r) rs w.1 (and_r (all_met (rules_of T s r)) (accepts T (next T s r) rs) h) in
    (each_cons T (all_meets T s r w.0 (and_l (all_met (rules_of T s r)) (accepts T (next T s r) rs) h)) q.0, q.1)

records_met : (T : Table) (s : Seen) (rs : List (List ℕ)) → EachMeets T s rs → AllMet (end_rules (seen T s rs)) → AllWhole T rs × (accepts T s rs ≡ true)
records_met T s [] h t = (tt, all_met_lem (end_rules s) t)
records_met T s (r ∷ rs) h t =
    let m : Meets T s r = each_first T h in
    let q = records_met T (next T s r) rs (each_rest T h) t in
    ((met_whole T r m.met2 m.met1, q.0), and_i (all_met (rules_of T s r)) (accepts T (next T s r) rs) (meets_all T s r m) q.1)

-- records that leave nothing over are the bytes
pub cut_together : (T : Table) (n : ℕ) (bytes : List ℕ) → length bytes ≤ n → (cut_by T n bytes).tail ≡ 0 → record_bytes (cut_by T n bytes).records ≡ bytes
unfolding cut_by
cut_together T zero [] l z = refl
cut_together T zero (k ∷ bytes) l z = absurd (omega arith)
cut_together T (suc n) [] l z = refl
cut_together T (suc n) (k ∷ bytes) l z =
    go (cut_by T n (drop (body_length T k) bytes)) (known T k) (ltb (length bytes) (body_length T k))
    (cut_together T n (drop (body_length T k) bytes) (omega (arith, length-drop (body_length T k) bytes))) z
  where
    go : (more : Cut) (t u : Bool) → (more.tail ≡ 0 → record_bytes more.records ≡ drop (body_length T k) bytes)
        → (cond t (cond u (stray 1) (cons (k ∷ take (body_length T k) bytes) more)) (stray 2)).tail ≡ 0
        → record_bytes (cond t (cond u (stray 1) (cons (k ∷ take (body_length T k) bytes) more)) (stray 2)).records ≡ k ∷ bytes
    go more false u ih q = absurd (omega arith)
    go more true true ih q = absurd (omega arith)
    go more true false ih q =
        ap (λ (l : List ℕ). k ∷ l) (ap (λ (l : List ℕ). take (body_length T k) bytes ++ l) (ih q) ∙ take-append-drop (body_length T k) bytes)

accepted_obeys : (T : Table) (block : List ℕ) → check_by T block ≡ Accepted → Obeys T block
unfolding check_by cut_of
accepted_obeys T block h =
    let a = accepted_records T block h in
    let z = (check_accepts T start 0 (cut_of T block).records (cut_of T block).tail h).0 in
    let m = met_records T start (records_of T block) a.0 a.1 in
    record { records = records_of T block; together = cut_together T (length block) block (omega arith) z; each = m.0; end = m.1 }

obeys_accepted : {T : Table} (block : List ℕ) → Obeys T block → check_by T block ≡ Accepted
obeys_accepted {T = T} block o =
    let m = records_met T start o.records o.each o.end in
    rw (← o.together) (records_accepted T o.records m.0 m.1)

pub accepted_means : (T : Table) (block : List ℕ) → AcceptedMeans T block
accepted_means T block = record { accepted_obeys = accepted_obeys T block; obeys_accepted = obeys_accepted block }

-- refused: what Broken says, from any place on
record BrokenFrom (T : Table) (s : Seen) (place : ℕ) (bytes : List ℕ) (number p : ℕ) : Type 0 where
  before : List (List ℕ)
  rest : List ℕ
  together : record_bytes before ++ rest ≡ bytes
  place_is : p ≡ place + length (record_bytes before)
  each : EachMeets T s before
  broken : Breaks T (seen T s before) rest number

module _ (T : Table) {s : Seen} {place number p : ℕ} where
  broken_here : {bytes : List ℕ} {m : ℕ} → Breaks T s bytes m → Refused m place ≡ Refused number p → BrokenFrom T s place bytes number p
  broken_here {bytes} {m} b h =
      let q : m ≡ number = same_number h in
      let z : place ≡ p = same_place h in
      record { before = []; rest = bytes; together = refl; place_is = omega arith; each = each_none T s; broken = rw q at b }

  broken_later : (r bytes : List ℕ) → Meets T s r → BrokenFrom T (next T s r) (place + length r) bytes number p → BrokenFrom T s place (r ++ bytes) number p
  broken_later r bytes m b =
      record {
        before = r ∷ b.before;
        rest = b.rest;
        together = append_assoc r (record_bytes b.before) b.rest ∙ ap (λ (l : List ℕ). r ++ l) b.together;
        place_is = omega (arith, b.place_is, length-append r (record_bytes b.before));
        each = each_cons T m b.each;
        broken = b.broken;
      }

  broken_end : refused_or (first_broken (end_rules s)) place Accepted ≡ Refused number p → BrokenFrom T s place [] number p
  broken_end h = go (eqb (first_broken (end_rules s)) 0) refl h
    where
      go : (b : Bool) → eqb (first_broken (end_rules s)) 0 ≡ b → cond b Accepted (Refused (first_broken (end_rules s)) place) ≡ Refused number p → BrokenFrom T s place [] number p
      go true e q = let z : ◌≡◌ {A = ℕ} 0 1 = cc in absurd (omega arith)
      go false e q = broken_here (ending refl (found (end_rules s) (eqb-false (first_broken (end_rules s)) 0 e))) q

refusal : (T : Table) (n : ℕ) (bytes : List ℕ) (s : Seen) (place number p : ℕ) → length bytes ≤ n
    → check_from T s place (cut_by T n bytes).records (cut_by T n bytes).tail ≡ Refused number p → BrokenFrom T s place bytes number p
unfolding cut_by check_from
refusal T zero [] s place number p l h = broken_end T h
refusal T zero (k ∷ bytes) s place number p l h = absurd (omega arith)
refusal T (suc n) [] s place number p l h = broken_end T h
refusal T (suc n) (k ∷ bytes) s place number p l h =
    go (cut_by T n (drop m bytes)) (known T k) refl (ltb (length bytes) m) refl
    (refusal T n (drop m bytes) (next T s r) (place + length r) number p (omega (arith, length-drop m bytes))) h
  where
    m : ℕ
    m = body_length T k

    r : List ℕ
    r = k ∷ take m bytes

    whole_r : ltb (length bytes) m ≡ false → length r ≡ suc m
    whole_r f = ap suc (length-take-le m bytes (ltb-false (length bytes) m f))

    along : (b : Bool) (go_on : Verdict) → known T k ≡ true → ltb (length bytes) m ≡ false → eqb (first_broken (rules_of T s r)) 0 ≡ b
        → (go_on ≡ Refused number p → BrokenFrom T (next T s r) (place + length r) (drop m bytes) number p)
        → cond b go_on (Refused (first_broken (rules_of T s r)) place) ≡ Refused number p → BrokenFrom T s place (k ∷ bytes) number p
    along true go_on e f z ih q =
        let a : all_met (rules_of T s r) ≡ true = sym (none_broken (rules_of T s r) (numbered_rules T s r)) ∙ z in
        rw take-append-drop at (broken_later T r (drop m bytes) (all_meets T s r (met_whole T r e (whole_r f)) a) (ih q))
    along false go_on e f z ih q =
        broken_here T
        (record_breaks r (drop m bytes) (ap (λ (t : List ℕ). k ∷ t) (take-append-drop m bytes)) e (whole_r f)
        (found (rules_of T s r) (eqb-false (first_broken (rules_of T s r)) 0 z))) q

    go : (more : Cut) (t : Bool) → known T k ≡ t → (u : Bool) → ltb (length bytes) m ≡ u
        → (check_from T (next T s r) (place + length r) more.records more.tail ≡ Refused number p
        → BrokenFrom T (next T s r) (place + length r) (drop m bytes) number p)
        → check_from T s place (cond t (cond u (stray 1) (cons r more)) (stray 2)).records (cond t (cond u (stray 1) (cons r more)) (stray 2)).tail ≡ Refused number p
        → BrokenFrom T s place (k ∷ bytes) number p
    go more false e u f ih q = broken_here T (unknown2 (omega arith) e) q
    go more true e true f ih q = broken_here T (short1 (omega arith) e (omega (arith, ltb-true (length bytes) m f))) q
    go more true e false f ih q =
        along (eqb (first_broken (rules_of T s r)) 0) (check_from T (next T s r) (place + length r) more.records more.tail) e f refl ih q

refused_broken : (T : Table) (block : List ℕ) (number place : ℕ) → check_by T block ≡ Refused number place → Broken T block number place
unfolding check_by cut_of
refused_broken T block number place h =
    let b = refusal T (length block) block start 0 number place (omega arith) h in
    record { before = b.before; rest = b.rest; together = b.together; place_is = omega (arith, b.place_is); each = b.each; broken = b.broken }

-- and back: a record that is broken is the one that answers
front : (T : Table) (r bytes : List ℕ) → whole T r ≡ true → cut_of T (r ++ bytes) ≡ cons r (cut_of T bytes)
front T [] bytes w = clash (whole T []) w (no_record T)
front T (k ∷ body) bytes w =
    let m = whole_met T (k ∷ body) w in
    let e : length body ≡ body_length T k = omega (arith, m.1) in
    let f : ltb (length (body ++ bytes)) (body_length T k) ≡ false = le-ltb (length (body ++ bytes)) (body_length T k) (omega (arith, length-append body bytes)) in
    cut_first T k (body ++ bytes) ∙ rw (m.0, f, take_at body bytes (body_length T k) e, drop_at body bytes (body_length T k) e)

-- the check's answer for bytes that start at a place
abbrev answer_from : Table → Seen → ℕ → List ℕ → Verdict
answer_from T s place bytes = check_from T s place (cut_of T bytes).records (cut_of T bytes).tail

answer_record : (T : Table) (s : Seen) (place : ℕ) (r bytes : List ℕ) → whole T r ≡ true
    → answer_from T s place (r ++ bytes) ≡ refused_or (first_broken (rules_of T s r)) place (answer_from T (next T s r) (place + length r) bytes)
unfolding check_from
answer_record T s place r bytes w = rw (front T r bytes w)

answer_on : {T : Table} (s : Seen) (place : ℕ) (r bytes : List ℕ) → Meets T s r → answer_from T s place (r ++ bytes) ≡ answer_from T (next T s r) (place + length r) bytes
answer_on {T = T} s place r bytes m =
    let z : eqb (first_broken (rules_of T s r)) 0 ≡ true = none_broken (rules_of T s r) (numbered_rules T s r) ∙ meets_all T s r m in
    answer_record T s place r bytes (met_whole T r m.met2 m.met1) ∙ rw z

answer_here : {T : Table} (s : Seen) (place : ℕ) (rest : List ℕ) (number : ℕ) → Breaks T s rest number → answer_from T s place rest ≡ Refused number place
unfolding check_from first_broken cut_of cut_by
answer_here s place [] number (unknown2 l k) = absurd (omega arith)
answer_here s place (k ∷ bytes) number (unknown2 l e) = rw e
answer_here s place [] number (short1 l k q) = absurd (omega arith)
answer_here {T = T} s place (k ∷ bytes) number (short1 l e q) = rw (e, lt-ltb (length bytes) (body_length T k) (omega arith))
answer_here {T = T} s place rest number (record_breaks r after e k l b) =
    rw (← e)
    (answer_record T s place r after (met_whole T r k l)
    ∙ ap (λ (m : ℕ). refused_or m place (answer_from T (next T s r) (place + length r) after)) (is_first b)
    ∙ rw (ne_eqb number 0 (no_zero (numbered_rules T s r) b)))
answer_here s place rest number (ending e b) = rw e (rw (is_first b, ne_eqb number 0 (no_zero (numbered_end s) b)))

answer_after : {T : Table} (before : List (List ℕ)) (s : Seen) (place : ℕ) (rest : List ℕ) (number : ℕ) → EachMeets T s before → Breaks T (seen T s before) rest number
    → answer_from T s place (record_bytes before ++ rest) ≡ Refused number (place + length (record_bytes before))
answer_after [] s place rest number h b = let e : place ≡ place + 0 = omega arith in answer_here s place rest number b ∙ ap (Refused number) e
answer_after {T = T} (r ∷ rs) s place rest number h b =
    let e : place + length r + length (record_bytes rs) ≡ place + length (r ++ record_bytes rs) = omega (arith, length-append r (record_bytes rs)) in
    ap (answer_from T s place) (append_assoc r (record_bytes rs) rest)
    ∙ answer_on s place r (record_bytes rs ++ rest) (each_first T h)
    ∙ answer_after rs (next T s r) (place + length r) rest number (each_rest T h) b ∙ ap (Refused number) e

broken_refused : {T : Table} (block : List ℕ) (number place : ℕ) → Broken T block number place → check_by T block ≡ Refused number place
unfolding check_by
broken_refused {T = T} block number place b =
    let e : 0 + length (record_bytes b.before) ≡ place = omega (arith, b.place_is) in
    ap (answer_from T start 0) (sym b.together) ∙ answer_after b.before start 0 b.rest number b.each b.broken ∙ ap (Refused number) e

pub refused_means : (T : Table) (block : List ℕ) (number place : ℕ) → RefusedMeans T block number place
refused_means T block number place = record { refused_broken = refused_broken T block number place; broken_refused = broken_refused block number place }
