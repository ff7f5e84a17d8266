-- Ops at places of a block: the i-th of them, and the places that the scan keeps. Assumes nothing.
use mathlib.Core.Path.{◌≡◌, refl, sym, ap, ap₂, ◌∙◌}
use mathlib.Core.Bool.{true, false}
use mathlib.Core.List.{List, [], ◌∷◌}
use mathlib.Core.Logic.{◌⊎◌, inl, inr}
use Prim.Native.Nat.{ℕ, zero, suc, ◌+◌, ◌-◌, ◌≤◌, ◌<◌}
use native.Mathlib.Omega.{arith}
use native.Mathlib.Nat.{add-zero, zero-add, mod-eq_of_lt}
use native.Mathlib.Numerals.{add-one}
use lib.Dec.{ltb}
use lib.ListN.{length, get_or, take, drop, length-append}
use lib.Seq.{drop-cons, length-take-le}
use Rattle.std.proofs.lemmas.List.{get_or-take}
use borrow.Author.Tests.{ltb-true, ltb-false, lt-ltb, le-ltb}
use Rattle.theory.proofs.Sets.{tell}
use Rattle.ops.specs.Rows.{body_length}
use Rattle.ops.specs.Table.{row_of}
use Rattle.block.specs.Records.{record_bytes}
use Rattle.block.specs.Scan.{record_at, records_at, places_from, Stands}
use Rattle.block.proofs.Places.{Standing, standing, span_of, records_from, places_at}
use Rattle.block.proofs.Steps.{record_length}
use Rattle.passes.specs.Laid.{ops_at, place_of, Laid}
use Rattle.passes.specs.Ready.{ReadyToPass}

module _ (b P : List ℕ) where
  pub ops_long : (i n : ℕ) → length (ops_at b P i n) ≡ n
  unfolding ops_at
  ops_long i zero = refl
  ops_long i (suc n) = ap suc (ops_long (suc i) n)

  pub op_at : (i n j : ℕ) → j < n → get_or (ops_at b P i n) j [] ≡ record_at row_of b (get_or P (i + j) 0)
  unfolding ops_at
  op_at i zero j h = absurd (omega arith)
  op_at i (suc n) zero h = ap (λ (m : ℕ). record_at row_of b (get_or P m 0)) (sym (add-zero i))
  op_at i (suc n) (suc j) h = let e : suc i + j ≡ i + suc j = omega arith in op_at (suc i) n j (omega arith) ∙ ap (λ (m : ℕ). record_at row_of b (get_or P m 0)) e

  -- the i-th op, and those after it
  pub op_here : {ops i : ℕ} → i < ops → drop i (ops_at b P 0 ops) ≡ record_at row_of b (get_or P i 0) ∷ drop (i + 1) (ops_at b P 0 ops)
  op_here {ops} {i} h =
      drop-cons (ops_at b P 0 ops) i [] (omega (arith, ops_long 0 ops))
      ∙ ap₂ (λ (o : List ℕ) (n : ℕ). o ∷ drop n (ops_at b P 0 ops)) (op_at 0 ops i h ∙ ap (λ (m : ℕ). record_at row_of b (get_or P m 0)) (zero-add i)) (sym (add-one i))

  -- the ops are those that stand there
  pub ops_are : (i : ℕ) (os : List (List ℕ)) → ((j : ℕ) → j < length os → record_at row_of b (get_or P (i + j) 0) ≡ get_or os j []) → ops_at b P i (length os) ≡ os
  unfolding ops_at
  ops_are i [] h = refl
  ops_are i (o ∷ os) h =
      ap₂ (λ (x : List ℕ) (xs : List (List ℕ)). x ∷ xs) (ap (λ (m : ℕ). record_at row_of b (get_or P m 0)) (sym (add-zero i)) ∙ h 0 (omega arith))
      (ops_are (suc i) os (λ j l. let e : suc i + j ≡ i + suc j = omega arith in ap (λ (m : ℕ). record_at row_of b (get_or P m 0)) e ∙ h (suc j) (omega arith)))

-- the place of the i-th op, after the last, and before the i-th
pub place_there : (b P : List ℕ) {ops i : ℕ} → i < ops → get_or P i 0 ≡ place_of b P ops i
place_there b P {ops} {i} h = rw (lt-ltb i ops h)

pub place_last : (b P : List ℕ) (ops : ℕ) → length b ≡ place_of b P ops ops
place_last b P ops = rw (le-ltb ops ops (omega arith))

pub place_before : {b P : List ℕ} {ops i : ℕ} → Laid b P ops → i ≤ ops → 0 < i → place_of b P ops i ≡ get_or P (i - 1) 0 + suc (body_length row_of (get_or b (get_or P (i - 1) 0) 0))
place_before {b} {P} {ops} {i} l h k = let e : i ≡ i - 1 + 1 = omega arith in ap (place_of b P ops) e ∙ l.next_is (i - 1) (omega arith)

-- the record at the i-th place
module _ {b P : List ℕ} {ops i : ℕ} (l : Laid b P ops) (h : i < ops) where
  pub op_inside : get_or P i 0 < length b
  op_inside = omega (arith, (l.stands i h).whole)

  pub op_long : length (record_at row_of b (get_or P i 0)) ≡ suc (body_length row_of (get_or b (get_or P i 0) 0))
  op_long = record_length row_of b (get_or P i 0) op_inside (l.stands i h).whole

-- the places of the ops alone
module _ (b P : List ℕ) (ops : ℕ) where
  first_place : (i : ℕ) → place_of b (take ops P) ops i ≡ place_of b P ops i
  first_place i = go (tell (ltb i ops))
    where
      go : (ltb i ops ≡ true) ⊎ (ltb i ops ≡ false) → place_of b (take ops P) ops i ≡ place_of b P ops i
      go (inl q) = rw q (get_or-take ops P i 0 (ltb-true i ops q))
      go (inr q) = rw q

  first_laid : Laid b P ops → Laid b (take ops P) ops
  first_laid l =
      record {
        stands = λ i h. rw (get_or-take ops P i 0 h) (l.stands i h);
        next_is = λ i h. rw (get_or-take ops P i 0 h) (first_place (i + 1) ∙ l.next_is i h);
      }

  first_ops : (i n : ℕ) → i + n ≤ ops → ops_at b (take ops P) i n ≡ ops_at b P i n
  unfolding ops_at
  first_ops i zero h = refl
  first_ops i (suc n) h = ap₂ (λ (m : ℕ) (xs : List (List ℕ)). record_at row_of b m ∷ xs) (get_or-take ops P i 0 (omega arith)) (first_ops (suc i) n (omega arith))

-- an accepted block has the places of its ops alone
pub ready_first : {b P Q classes : List ℕ} {start ops : ℕ} → Q ≡ take ops P → ReadyToPass b P classes start ops → ReadyToPass b Q classes start (length Q)
ready_first {b} {P} {Q} {classes} {start} {ops} q r =
    let long : length (take ops P) ≡ ops = length-take-le ops P r.held in
    rw (q, long) (record {
      accepted = r.accepted;
      start_is = r.start_is;
      first_is = first_place b P ops 0 ∙ r.first_is;
      laid = first_laid b P ops r.laid;
      ops_are = first_ops b P ops 0 ops (omega arith) ∙ r.ops_are;
      count_is = r.count_is;
      held = omega (arith, long);
      classes_are = r.classes_are;
    })

span_next : (j : ℕ) (os : List (List ℕ)) → j < length os → span_of (suc j) os ≡ span_of j os + length (get_or os j [])
span_next j [] h = absurd (omega arith)
span_next zero (o ∷ os) h = omega arith
span_next (suc j) (o ∷ os) h = omega (arith, span_next j os (omega arith))

span_all : (os : List (List ℕ)) → span_of (length os) os ≡ length (record_bytes os)
span_all [] = refl
span_all (o ∷ os) = omega (arith, span_all os, length-append o (record_bytes os))

-- the places that the scan keeps
module _ (b P₀ P : List ℕ) (start : ℕ) (os : List (List ℕ)) (r : records_at row_of b start ≡ os) (p : P ≡ places_from start 0 P₀ os) (few : length os ≤ length P₀)
    (all : start + length (record_bytes os) ≡ length b) (small : length b < 65536) where
  module _ (j : ℕ) (h : j < length os) where
    here : records_at row_of b (start + span_of j os) ≡ get_or os j [] ∷ drop (suc j) os
    here = records_from row_of b start j os r (omega arith) ∙ drop-cons os j [] h

    stood : Standing row_of b (start + span_of j os) (get_or os j []) (drop (suc j) os)
    stood = standing row_of b (start + span_of j os) (get_or os j []) (drop (suc j) os) here

    place_is : get_or P j 0 ≡ start + span_of j os
    place_is =
        ap (λ (l : List ℕ). get_or l j 0) p ∙ ap (λ (n : ℕ). get_or (places_from start 0 P₀ os) n 0) (sym (zero-add j))
        ∙ places_at os start 0 P₀ j h (omega arith) ∙ mod-eq_of_lt (omega (arith, stood.inside))

    its_record : record_at row_of b (get_or P (0 + j) 0) ≡ get_or os j []
    its_record = ap (λ (n : ℕ). record_at row_of b (get_or P n 0)) (zero-add j) ∙ ap (record_at row_of b) place_is ∙ stood.record_here

    stands_so : Stands row_of b (get_or P j 0) (get_or b (get_or P j 0) 0)
    stands_so = record { its_kind = refl; whole = rw place_is stood.whole_here }

    -- the place after it
    after : start + span_of (suc j) os ≡ get_or P j 0 + suc (body_length row_of (get_or b (get_or P j 0) 0))
    after =
        let l : length (get_or os j []) ≡ suc (body_length row_of (get_or b (start + span_of j os) 0)) =
        sym (ap length stood.record_here) ∙ record_length row_of b (start + span_of j os) stood.inside stood.whole_here in
        rw place_is (omega (arith, span_next j os h, l))

  pub place_of_lem : (j : ℕ) → j ≤ length os → place_of b P (length os) j ≡ start + span_of j os
  place_of_lem j h = go (tell (ltb j (length os)))
    where
      go : (ltb j (length os) ≡ true) ⊎ (ltb j (length os) ≡ false) → place_of b P (length os) j ≡ start + span_of j os
      go (inl q) = rw q (place_is j (ltb-true j (length os) q))
      go (inr q) =
          let e : j ≡ length os = omega (arith, ltb-false j (length os) q) in
          rw q (sym all ∙ ap (λ (n : ℕ). start + n) (sym (span_all os) ∙ ap (λ (n : ℕ). span_of n os) (sym e)))

  pub scan_laid : Laid b P (length os)
  scan_laid = record { stands = λ i h. stands_so i h; next_is = λ i h. place_of_lem (i + 1) (omega arith) ∙ ap (λ (n : ℕ). start + span_of n os) (add-one i) ∙ after i h }

  pub scan_ops : ops_at b P 0 (length os) ≡ os
  scan_ops = ops_are b P 0 os (λ j h. its_record j h)

  pub scan_first : place_of b P (length os) 0 ≡ start
  scan_first = place_of_lem 0 (omega arith) ∙ add-zero start
