-- The run of a block's ops, turn by turn: the run of what is left is the run of the whole. Assumes nothing.
use mathlib.Core.Path.{◌≡◌, refl, sym, ap, ap₂, ◌∙◌, subst, subst₂}
use mathlib.Core.Bool.{true}
use mathlib.Core.List.{List, [], ◌∷◌}
use Prim.Native.Nat.{ℕ, zero, suc, ◌+◌, ◌-◌, ◌*◌, ◌%◌, ◌≤◌, ◌<◌}
use native.Mathlib.Omega.{arith}
use lib.ListN.{length, get_or, drop, length-drop}
use lib.Seq.{drop-cons}
use native.Mathlib.Nat.{zero-add, add-zero, mod-eq_of_lt}
use native.Mathlib.Numerals.{add-one}
use Rattle.theory.proofs.Checker.{checks}
use Rattle.theory.specs.Machine.{View, Effect}
use Rattle.theory.specs.Machine.{jumps, stops, effect, St, Result, cost, seek, moved, counted, after, run}
use Rattle.theory.specs.Sets.{empty}
use Rattle.theory.proofs.Simulation.{is_jump, Says, says}
use Rattle.ops.specs.Kinds.{document01}
use Rattle.ops.specs.Table.{row_of}
use Rattle.ops.specs.Rows.{body_length}
use Rattle.ops.specs.Ops.{Fault, view_of, tcg}
use Rattle.ops.proofs.Table.{body_short}
use Rattle.ops.proofs.Document01.{lawful}
use Rattle.block.specs.Records.{records_of, declarations, ops_from}
use Rattle.block.specs.Scan.{record_at, Stands, places_from, records_at}
use Rattle.block.proofs.Parts.{parts}
use Rattle.block.proofs.Places.{Standing, standing, span_of, records_from, places_at, places_long}
use Rattle.block.proofs.Steps.{record_length}
use Rattle.runs.specs.Runs.{answer_of, ops_run}
use Rattle.runs.specs.Steps.{end_of, effect_of, after_state, Performs, next_at, ReadyToRun, Executed}
use Rattle.runs.proofs.Ends.{some_ops, goes_inside}
use Rattle.runs.proofs.Landing.{Lands, jump_lands}
use Rattle.ops.specs.Limits.{max_ops, label_count}
use Rattle.ops.proofs.Bounds.{limits_fit}
use Rattle.block.proofs.Checker.{checker, declared_in, few_ops}
use Rattle.block.specs.Rules.{start as seen_first}
use Rattle.std.specs.Prelude.{Ok}
use Rattle.runs.specs.declared.Ending.{Ending}
use Rattle.runs.specs.declared.Ending.TheVariants.{NoResult}
use Rattle.runs.specs.declared.Outcome.{Outcome}
use Rattle.runs.specs.declared.Outcome.TheVariants.{Falls, JumpsTo, Stops}
use Rattle.runs.specs.declared.Stop.{Stop}
use Rattle.runs.specs.declared.Stop.TheVariants.{Unstated}

-- a block's ops
abbrev pub ops_of : List ℕ → List (List ℕ)
ops_of b = ops_from (records_of row_of b)

-- so many ops were run before
abbrev pub sooner : ℕ → Result (tcg document01) → Result (tcg document01)
sooner n r = record { end = r.end; state = r.state; count = n + r.count; left = r.left }

-- an effect that jumps is a jump's
effect_jumps : (w : View ℕ (List ℕ) ℕ Fault) (s : St (tcg document01)) (l : ℕ) → effect 0 w s ≡ jumps l → is_jump l w ≡ true
effect_jumps w s l e = subst (Says w) e (says 0 w s)

-- a record has at most ten bytes
span_small : (b : List ℕ) (p j : ℕ) (os : List (List ℕ)) → records_at row_of b p ≡ os → j ≤ length os → span_of j os ≤ 10 * j
span_small b p zero os e l = omega arith
span_small b p (suc j) [] e l = absurd (omega arith)
span_small b p (suc j) (o ∷ os) e l =
    let s = standing row_of b p o os e in
    let n : length o ≡ suc (body_length row_of (get_or b p 0)) = sym (ap length s.record_here) ∙ record_length row_of b p s.inside s.whole_here in
    omega (arith, n, body_short (get_or b p 0), span_small b (p + suc (body_length row_of (get_or b p 0))) j os s.others (omega arith))

module _ {b places labels : List ℕ} {start ops : ℕ} (r : ReadyToRun b places labels start ops) where
  checked : checks (tcg document01) (checker document01) (declared_in seen_first (declarations (records_of row_of b))) (ops_of b) ≡ true
  checked = (parts lawful b r.approved.accepted).checked

  pub few : length (ops_of b) ≤ max_ops
  few = omega (arith, few_ops document01 (declared_in seen_first (declarations (records_of row_of b))) (ops_of b) checked (omega arith))

  pub count_of : ops ≡ length (ops_of b)
  count_of = r.approved.count_is

  -- as many places are kept as there are ops
  pub held : length (ops_of b) ≤ length places
  held = let a = r.approved in omega (arith, a.held, a.count_is, ap length a.places_are, places_long (ops_of b) start 0 r.places₀)

  -- the j-th op stands at the place that the scan kept
  pub place_of_lem : (j : ℕ) → j < length (ops_of b) → records_at row_of b (get_or places j 0) ≡ drop j (ops_of b)
  place_of_lem j h =
      let a = r.approved in
      let e : get_or places j 0 ≡ (start + span_of j (ops_of b)) % 65536 =
      ap (λ (l : List ℕ). get_or l j 0) a.places_are
      ∙ ap (λ (n : ℕ). get_or (places_from start 0 r.places₀ (ops_of b)) n 0) (sym (zero-add j))
      ∙ places_at (ops_of b) start 0 r.places₀ j h (omega (arith, a.held, count_of)) in
      let l : start + span_of j (ops_of b) < 65536 = omega (arith, limits_fit.places, a.start_is, a.few, few, span_small b start j (ops_of b) a.ops_are (omega arith)) in
      ap (records_at row_of b) (e ∙ mod-eq_of_lt l) ∙ records_from row_of b start j (ops_of b) a.ops_are (omega arith)

-- op ops on, the ops that are left stand at a place; so many have been run, and the run goes on from here
pub record Running (b : List ℕ) (s₀ s : St (tcg document01)) (op place count : ℕ) : Type 0 where
  pub fuel : ℕ
  pub fuel_is : count + fuel ≡ suc (length (ops_of b))
  pub early : count ≤ op
  pub within : op < length (ops_of b)
  pub here : records_at row_of b place ≡ drop op (ops_of b)
  pub goes_on : ops_run document01 (ops_of b) s₀ ≡ sooner count (run (tcg document01) (ops_of b) fuel (drop op (ops_of b)) s)

pub running_start : {b places labels : List ℕ} {start ops : ℕ} → ReadyToRun b places labels start ops → (s : St (tcg document01)) → Running b s s 0 start 0
running_start {b} r s =
    record {
      fuel = suc (length (ops_of b));
      fuel_is = zero-add (suc (length (ops_of b)));
      early = omega arith;
      within = some_ops document01 (declared_in seen_first (declarations (records_of row_of b))) (ops_of b) refl (checked r);
      here = r.approved.ops_are;
      goes_on = nothing_sooner (ops_run document01 (ops_of b) s);
    }
  where
    nothing_sooner : (q : Result (tcg document01)) → q ≡ sooner 0 q
    nothing_sooner q = ap (λ (n : ℕ). record { end = q.end; state = q.state; count = n; left = q.left }) (sym (zero-add q.count))

module _ {b : List ℕ} {s₀ s : St (tcg document01)} {op place count : ℕ} (u : Running b s₀ s op place count) where
  h : op < length (ops_of b)
  h = u.within

  abbrev onward : List (List ℕ)
  onward = drop (suc op) (ops_of b)

  first : drop op (ops_of b) ≡ get_or (ops_of b) op [] ∷ onward
  first = drop-cons (ops_of b) op [] h

  pub stood : Standing row_of b place (get_or (ops_of b) op []) (drop (suc op) (ops_of b))
  stood = standing row_of b place (get_or (ops_of b) op []) onward (u.here ∙ first)

  pub stands_at : (kind : ℕ) → kind ≡ get_or b place 0 → Stands row_of b place kind
  stands_at kind e = record { its_kind = e; whole = rw e stood.whole_here }

  pub place_inside : place < length b
  place_inside = stood.inside

  module _ {s' : St (tcg document01)} {o : Outcome} (p : Performs (view_of document01 (record_at row_of b place)) (next_at b place) s s' o) where
    told : effect 0 (view_of document01 (get_or (ops_of b) op [])) s ≡ effect_of o s'
    told = ap (λ (q : List ℕ). effect 0 (view_of document01 q) s) (sym stood.record_here) ∙ sym p.tells

    changed : s' ≡ after_state s (effect_of o s')
    changed = p.leaves_so ∙ ap (after_state s) (sym p.tells)

    more : u.fuel ≡ suc (u.fuel - 1)
    more = omega (arith, u.fuel_is, u.early)

    -- the run as one step and what follows it
    turned : ops_run document01 (ops_of b) s₀
        ≡ sooner count (after (tcg document01) (run (tcg document01) (ops_of b) (u.fuel - 1)) (drop op (ops_of b)) s (moved (tcg document01) (ops_of b) onward s (effect_of o s')))
    turned =
        u.goes_on ∙ ap (λ (f : ℕ). sooner count (run (tcg document01) (ops_of b) f (drop op (ops_of b)) s)) more
        ∙ ap (λ (l : List (List ℕ)). sooner count (run (tcg document01) (ops_of b) (suc (u.fuel - 1)) l s)) first
        ∙ ap (λ (x : Effect ℕ (List ℕ) ℕ Fault). sooner count (after (tcg document01) (run (tcg document01) (ops_of b) (u.fuel - 1)) (get_or (ops_of b) op [] ∷ onward) s (moved (tcg document01) (ops_of b) onward s x))) told
        ∙ ap (λ (l : List (List ℕ)). sooner count (after (tcg document01) (run (tcg document01) (ops_of b) (u.fuel - 1)) l s (moved (tcg document01) (ops_of b) onward s (effect_of o s')))) (sym first)

    counts : (q : Result (tcg document01)) → sooner count (counted (tcg document01) q) ≡ sooner (count + 1) q
    counts q = let e : count + suc q.count ≡ count + 1 + q.count = omega arith in ap (λ (n : ℕ). record { end = q.end; state = q.state; count = n; left = q.left }) e

    -- the op that ends the run
    pub run_stops : {e : Stop} → o ≡ Stops e → {ending : Ending} → Ok ending ≡ answer_of (end_of e) op (count + cost (end_of e)) → Executed b s₀ s' ending
    run_stops {e} k a =
        let q : effect_of o s' ≡ stops (end_of e) = ap (λ (x : Outcome). effect_of x s') k in
        let t : ops_run document01 (ops_of b) s₀ ≡ record { end = end_of e; state = s; count = count + cost (end_of e); left = drop op (ops_of b) } =
        turned ∙ ap (λ (x : Effect ℕ (List ℕ) ℕ Fault). sooner count (after (tcg document01) (run (tcg document01) (ops_of b) (u.fuel - 1)) (drop op (ops_of b)) s (moved (tcg document01) (ops_of b) onward s x))) q in
        let n : op ≡ length (ops_of b) - length (drop op (ops_of b)) = omega (arith, length-drop op (ops_of b)) in
        record {
          answers = a ∙ ap (λ (i : ℕ). answer_of (end_of e) i (count + cost (end_of e))) n ∙ sym (ap (λ (x : Result (tcg document01)). answer_of x.end (length (ops_of b) - length x.left) x.count) t);
          state_is = changed ∙ ap (after_state s) q ∙ sym (ap (λ (x : Result (tcg document01)). x.state) t);
        }

  module _ {s' : St (tcg document01)} where
    -- the next op: the last one does not go on
    pub run_falls : {places labels : List ℕ} {start ops : ℕ} → ReadyToRun b places labels start ops → {next : ℕ} → Performs (view_of document01 (record_at row_of b place)) (next_at b place) s s' (Falls next)
        → Running b s₀ s' (op + 1) next (count + 1)
    run_falls r p =
        record {
          fuel = u.fuel - 1;
          fuel_is = omega (arith, u.fuel_is, u.early);
          early = omega (arith, u.early);
          within = omega (arith, goes_inside lawful (declared_in seen_first (declarations (records_of row_of b))) (ops_of b) op (checked r) h (subst (Says (view_of document01 (get_or (ops_of b) op []))) (told p) (says 0 (view_of document01 (get_or (ops_of b) op [])) s)));
          here = ap (records_at row_of b) p.goes_to ∙ stood.others ∙ ap (λ (i : ℕ). drop i (ops_of b)) (sym (add-one op));
          goes_on =
              turned p ∙ counts p (run (tcg document01) (ops_of b) (u.fuel - 1) onward s')
              ∙ ap (λ (i : ℕ). sooner (count + 1) (run (tcg document01) (ops_of b) (u.fuel - 1) (drop i (ops_of b)) s')) (sym (add-one op));
        }

    -- a jump
    module _ {places labels : List ℕ} {start ops : ℕ} (r : ReadyToRun b places labels start ops) {l : ℕ} (p : Performs (view_of document01 (record_at row_of b place)) (next_at b place) s s' (JumpsTo l)) where
      pub landing : Lands document01 (ops_of b) l (get_or labels l 0) op
      landing =
          subst (λ (x : List ℕ). Lands document01 (ops_of b) l (get_or x l 0) op) (sym r.approved.labels_are)
          (jump_lands lawful (declared_in seen_first (declarations (records_of row_of b))) (ops_of b) op l (checked r) no_labels h
          (effect_jumps (view_of document01 (get_or (ops_of b) op [])) s l (told p)))
        where
          no_labels : (declared_in seen_first (declarations (records_of row_of b))).labels ≡ empty
          no_labels = refl

      pub run_jumps : Running b s₀ s' (get_or labels l 0 - 1) (get_or places (get_or labels l 0 - 1) 0) (count + 1)
      run_jumps =
          record {
            fuel = u.fuel - 1;
            fuel_is = omega (arith, u.fuel_is, u.early);
            early = omega (arith, u.early, landing.further);
            within = landing.inside;
            here = place_of_lem r (get_or labels l 0 - 1) landing.inside;
            goes_on =
                turned p ∙ counts p (run (tcg document01) (ops_of b) (u.fuel - 1) (seek (tcg document01) l (ops_of b)) s)
                ∙ ap₂ (λ (q : List (List ℕ)) (s : St (tcg document01)). sooner (count + 1) (run (tcg document01) (ops_of b) (u.fuel - 1) q s)) landing.here (sym (changed p));
          }

-- a turn of the loop: the run stands at one of the ops
pub record Turn (b : List ℕ) (s₀ s : St (tcg document01)) (places labels : List ℕ) (op place count start ops : ℕ) : Type 0 where
  pub ready : ReadyToRun b places labels start ops
  pub running : Running b s₀ s op place count

module _ {b : List ℕ} {s₀ s : St (tcg document01)} {places labels : List ℕ} {op place count start ops : ℕ} (t : Turn b s₀ s places labels op place count start ops) where
  -- no run comes past the last op
  pub more_ops : op < ops
  more_ops = omega (arith, count_of t.ready, t.running.within)

  pub inside_now : place < length b
  inside_now = place_inside t.running

  pub stands_now : Stands row_of b place (get_or b place 0)
  stands_now = stands_at t.running (get_or b place 0) refl

  pub few_now : count < max_ops
  few_now = omega (arith, t.running.early, t.running.within, few t.ready)

  module _ {s' : St (tcg document01)} {o : Outcome} (p : Performs (view_of document01 (record_at row_of b place)) (next_at b place) s s' o) where
    so : {x : Outcome} → o ≡ x → Performs (view_of document01 (record_at row_of b place)) (next_at b place) s s' x
    so e = subst (Performs (view_of document01 (record_at row_of b place)) (next_at b place) s s') e p

    pub stops_now : {e : Stop} → o ≡ Stops e → {ending : Ending} → Ok ending ≡ answer_of (end_of e) op (count + cost (end_of e)) → Executed b s₀ s' ending
    stops_now e a = run_stops t.running p e a

    pub falls_on : {next : ℕ} → o ≡ Falls next → {op' place' : ℕ} → op' ≡ op + 1 → place' ≡ next → (op < op') × Running b s₀ s' op' place' (count + 1)
    falls_on f q w = (omega (arith, q), subst₂ (λ (x y : ℕ). Running b s₀ s' x y (count + 1)) (sym q) (sym w) (run_falls t.running t.ready (so f)))

    -- the label's number, as it is read
    module _ {l i m : ℕ} (e : o ≡ JumpsTo l) (ei : i ≡ l) (em : m ≡ get_or labels i 0) where
      number : m ≡ get_or labels l 0
      number = em ∙ ap (λ (x : ℕ). get_or labels x 0) ei

      pub label_now : i < label_count
      label_now = omega (arith, ei, (landing t.running t.ready (so e)).low)

      pub number_now : 1 ≤ m
      number_now = omega (arith, number, (landing t.running t.ready (so e)).has_number)

      pub target_now : m - 1 < length places
      target_now = omega (arith, number, (landing t.running t.ready (so e)).inside, held t.ready)

      pub jumps_on : {op' q place' : ℕ} → q ≡ get_or places (m - 1) 0 → op' ≡ m - 1 → place' ≡ q → (op < op') × Running b s₀ s' op' place' (count + 1)
      jumps_on {op'} {q} {place'} eq eo ep =
          let n : op' ≡ get_or labels l 0 - 1 = eo ∙ ap (λ (x : ℕ). x - 1) number in
          let w : place' ≡ get_or places (get_or labels l 0 - 1) 0 = ep ∙ eq ∙ ap (λ (x : ℕ). get_or places (x - 1) 0) number in
          (omega (arith, n, (landing t.running t.ready (so e)).further), subst₂ (λ (x y : ℕ). Running b s₀ s' x y (count + 1)) (sym n) (sym w) (run_jumps t.running t.ready (so e)))

-- the answer of the op that ends the run
pub ended_so : (op count : ℕ) {s t : Stop} → s ≡ t → answer_of (end_of t) op (count + cost (end_of t)) ≡ answer_of (end_of s) op (count + cost (end_of s))
ended_so op count e = sym (ap (λ (s : Stop). answer_of (end_of s) op (count + cost (end_of s))) e)

pub ended_uncounted : (op count : ℕ) {s : Stop} → s ≡ Unstated → Ok (NoResult op count) ≡ answer_of (end_of s) op (count + cost (end_of s))
ended_uncounted op count e = ap (λ (n : ℕ). Ok (NoResult op n)) (sym (add-zero count)) ∙ ended_so op count e
