-- The places of a block's records. Assumes nothing.
use mathlib.Core.Path.{◌≡◌, refl, sym, ap, ap₂, ◌∙◌}
use mathlib.Core.Bool.{Bool, true, false}
use mathlib.Core.List.{List, [], ◌∷◌, ◌++◌}
use Prim.Native.Nat.{ℕ, zero, suc, ◌+◌, ◌%◌, ◌≤◌, ◌<◌}
use native.Mathlib.Omega.{arith}
use lib.Dec.{ltb}
use lib.ListN.{length, get_or, drop, set, length-set, length-append}
use lib.Seq.{get_or-set_same, get_or-set_other}
use borrow.Author.Tests.{ltb-true, ltb-false}
use native.Mathlib.Nat.{add-zero}
use Rattle.ops.specs.Rows.{known, body_length, Table}
use Rattle.ops.specs.Fields.{row_at, label_by}
use Rattle.block.specs.Records.{Cut, record_bytes}
use Rattle.block.specs.Scan.{record_at, places_from, labelled_by, labels_from, records_at}
use Rattle.block.proofs.Steps.{cut_unknown, cut_short, cut_record, record_length, cut_end}

-- a record stands at a place, and the others follow it
pub record Standing (T : Table) (b : List ℕ) (p : ℕ) (o : List ℕ) (rest : List (List ℕ)) : Type 0 where
  pub inside : p < length b
  pub is_known : known T (get_or b p 0) ≡ true
  pub whole_here : p + suc (body_length T (get_or b p 0)) ≤ length b
  pub record_here : record_at T b p ≡ o
  pub others : records_at T b (p + suc (body_length T (get_or b p 0))) ≡ rest

no_cons : {A : Type 0} (o : List ℕ) (rest : List (List ℕ)) → [] ≡ o ∷ rest → A
no_cons o rest e = let z : ◌≡◌ {A = ℕ} 0 1 = cc in absurd (omega arith)

pub standing : (T : Table) (b : List ℕ) (p : ℕ) (o : List ℕ) (rest : List (List ℕ)) → records_at T b p ≡ o ∷ rest → Standing T b p o rest
standing T b p o rest e = go (ltb p (length b)) refl
  where
    k : ℕ
    k = get_or b p 0

    found : p < length b → (t : Bool) → known T k ≡ t → (u : Bool) → ltb (length b) (p + suc (body_length T k)) ≡ u → Standing T b p o rest
    found h false f u g = no_cons o rest (sym (ap (λ (c : Cut). c.records) (cut_unknown T b p h f)) ∙ e)
    found h true f true g = no_cons o rest (sym (ap (λ (c : Cut). c.records) (cut_short T b p h f (ltb-true (length b) (p + suc (body_length T k)) g))) ∙ e)
    found h true f false g =
        let w = ltb-false (length b) (p + suc (body_length T k)) g in
        let q : record_at T b p ∷ records_at T b (p + suc (body_length T k)) ≡ o ∷ rest = sym (ap (λ (c : Cut). c.records) (cut_record T b p h f w)) ∙ e in
        record { inside = h; is_known = f; whole_here = w; record_here = cc; others = cc }

    go : (t : Bool) → ltb p (length b) ≡ t → Standing T b p o rest
    go true h = found (ltb-true p (length b) h) (known T k) refl (ltb (length b) (p + suc (body_length T k))) refl
    go false h = no_cons o rest (sym (ap (λ (c : Cut). c.records) (cut_end T b p (ltb-false p (length b) h))) ∙ e)

-- the bytes of the first j records
abbrev pub span_of : ℕ → List (List ℕ) → ℕ
span_of zero os = 0
span_of (suc j) [] = 0
span_of (suc j) (o ∷ os) = length o + span_of j os

-- the records from the j-th on
pub records_from : (T : Table) (b : List ℕ) (p j : ℕ) (os : List (List ℕ)) → records_at T b p ≡ os → j ≤ length os → records_at T b (p + span_of j os) ≡ drop j os
records_from T b p zero os e l = rw (add-zero p) e
records_from T b p (suc j) [] e l = absurd (omega arith)
records_from T b p (suc j) (o ∷ os) e l =
    let s = standing T b p o os e in
    let n : length o ≡ suc (body_length T (get_or b p 0)) = sym (ap length s.record_here) ∙ record_length T b p s.inside s.whole_here in
    let q : p + (length o + span_of j os) ≡ p + suc (body_length T (get_or b p 0)) + span_of j os = omega (arith, n) in
    ap (records_at T b) q ∙ records_from T b (p + suc (body_length T (get_or b p 0))) j os s.others (omega arith)

-- a place that is kept before the i-th stays
places_before : (os : List (List ℕ)) (p i : ℕ) (P : List ℕ) (j : ℕ) → j < i → get_or (places_from p i P os) j 0 ≡ get_or P j 0
unfolding places_from
places_before [] p i P j l = refl
places_before (o ∷ os) p i P j l =
    places_before os (p + length o) (suc i) (set P i (p % 65536)) j (omega arith) ∙ get_or-set_other P i j (p % 65536) 0 (λ e. omega arith)

pub places_at : (os : List (List ℕ)) (p i : ℕ) (P : List ℕ) (j : ℕ) → j < length os → i + length os ≤ length P
    → get_or (places_from p i P os) (i + j) 0 ≡ (p + span_of j os) % 65536
unfolding places_from
places_at [] p i P j l h = absurd (omega arith)
places_at (o ∷ os) p i P zero l h =
    let e : i + 0 ≡ i = omega arith in
    ap (λ (n : ℕ). get_or (places_from (p + length o) (suc i) (set P i (p % 65536)) os) n 0) e
    ∙ places_before os (p + length o) (suc i) (set P i (p % 65536)) i (omega arith)
    ∙ get_or-set_same P i (p % 65536) 0 (omega arith) ∙ ap (λ (n : ℕ). n % 65536) (sym (add-zero p))
places_at (o ∷ os) p i P (suc j) l h =
    let e : i + suc j ≡ suc i + j = omega arith in
    let q : p + length o + span_of j os ≡ p + (length o + span_of j os) = omega arith in
    ap (λ (n : ℕ). get_or (places_from (p + length o) (suc i) (set P i (p % 65536)) os) n 0) e
    ∙ places_at os (p + length o) (suc i) (set P i (p % 65536)) j (omega arith) (omega (arith, length-set P i (p % 65536)))
    ∙ ap (λ (n : ℕ). n % 65536) q

-- one op more
pub places_more : (os : List (List ℕ)) (o : List ℕ) (p i : ℕ) (P : List ℕ)
    → places_from p i P (os ++ (o ∷ [])) ≡ set (places_from p i P os) (i + length os) ((p + length (record_bytes os)) % 65536)
unfolding places_from
places_more [] o p i P = rw (add-zero i, add-zero p)
places_more (x ∷ os) o p i P =
    let e : suc i + length os ≡ i + suc (length os) = omega arith in
    let q : p + length x + length (record_bytes os) ≡ p + length (x ++ record_bytes os) = omega (arith, length-append x (record_bytes os)) in
    places_more os o (p + length x) (suc i) (set P i (p % 65536))
    ∙ ap₂ (λ (n m : ℕ). set (places_from (p + length x) (suc i) (set P i (p % 65536)) os) n (m % 65536)) e q

pub labels_more : (T : Table) (os : List (List ℕ)) (o : List ℕ) (i : ℕ) (L : List ℕ)
    → labels_from T i L (os ++ (o ∷ [])) ≡ labelled_by (row_at T o) (label_by (row_at T o) o) (i + length os) (labels_from T i L os)
unfolding labels_from
labels_more T [] o i L = rw (add-zero i)
labels_more T (x ∷ os) o i L =
    let e : suc i + length os ≡ i + suc (length os) = omega arith in
    labels_more T os o (suc i) (labelled_by (row_at T x) (label_by (row_at T x) x) i L)
    ∙ ap (λ (n : ℕ). labelled_by (row_at T o) (label_by (row_at T o) o) n (labels_from T (suc i) (labelled_by (row_at T x) (label_by (row_at T x) x) i L) os)) e

-- no place is added
pub places_long : (os : List (List ℕ)) (p i : ℕ) (P : List ℕ) → length (places_from p i P os) ≡ length P
unfolding places_from
places_long [] p i P = refl
places_long (o ∷ os) p i P = places_long os (p + length o) (suc i) (set P i (p % 65536)) ∙ length-set P i (p % 65536)
