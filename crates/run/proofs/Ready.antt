-- The places that the scan keeps, cut to those of the ops. Assumes nothing.
use mathlib.Core.Path.{◌≡◌, refl, ap, ◌∙◌}
use mathlib.Core.List.{List, [], ◌∷◌}
use Prim.Native.Nat.{ℕ, suc, ◌+◌, ◌%◌, ◌≤◌}
use native.Mathlib.Omega.{arith}
use lib.ListN.{length, take, set}
use lib.Seq.{length-take-le, take-set-lt}
use Rattle.ops.specs.Table.{row_of}
use Rattle.block.specs.Records.{records_of, ops_from}
use Rattle.block.specs.Scan.{places_from, Approved}
use Rattle.block.proofs.Places.{places_long}
use Rattle.runs.specs.Steps.{ReadyToRun}
use Rattle.runs.proofs.Ran.{ready_by}

-- the first n places, where n are enough for the ops
first_places : (os : List (List ℕ)) (p i n : ℕ) (P : List ℕ) → i + length os ≤ n → take n (places_from p i P os) ≡ places_from p i (take n P) os
unfolding places_from
first_places [] p i n P h = refl
first_places (o ∷ os) p i n P h =
    first_places os (p + length o) (suc i) n (set P i (p % 65536)) (omega arith)
    ∙ ap (λ (l : List ℕ). places_from (p + length o) (suc i) l os) (take-set-lt n P i (p % 65536) (omega arith))

-- an accepted block has the places of its ops alone
pub ready_first : {b places₀ base places labels : List ℕ} {start n globals ops : ℕ} → Approved row_of b places₀ base places labels start n globals ops
    → ReadyToRun b (take ops places) labels start (length (take ops places))
ready_first {b} {places₀} {base} {places} {labels} {start} {n} {globals} {ops} a =
    let os = ops_from (records_of row_of b) in
    let long : length (take ops places) ≡ ops = length-take-le ops places (omega (arith, a.held, ap length a.places_are, places_long os start 0 places₀)) in
    let room : length (take ops places₀) ≡ ops = length-take-le ops places₀ a.held in
    let first : Approved row_of b (take ops places₀) base (take ops places) labels start n globals ops =
    record {
      accepted = a.accepted;
      variables = a.variables;
      coded = a.coded;
      long_base = a.long_base;
      globals_are = a.globals_are;
      few = a.few;
      start_is = a.start_is;
      ops_are = a.ops_are;
      count_is = a.count_is;
      held = omega (arith, room);
      places_are = ap (take ops) a.places_are ∙ first_places os start 0 ops places₀ (omega (arith, a.count_is));
      labels_are = a.labels_are;
    } in
    rw long (ready_by first)
