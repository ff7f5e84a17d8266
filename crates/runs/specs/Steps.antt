-- What a step and the loop over the ops come to. Assumes nothing.
use Rattle.std.specs.Prelude.{◌≡◌, Bool, cond, ◌&&◌, ◌||◌, true, List, [], ◌∷◌, ℕ, suc, ◌+◌, ◌-◌, ◌%◌, ◌^◌, eqb, ltb, leb, length, get_or, Some, Ok}
use Rattle.theory.specs.Machine.{when, to, View, calc, access, flow, End, exit, fault, unstated, Effect, falls, jumps, stops, effect, St}
use Rattle.word.specs.Condition.{cond_w}
use Rattle.memory.specs.Answer.{access_width}
use Rattle.memory.specs.Bytes.{low_first}
use Rattle.ops.specs.Limits.{max_memory}
use Rattle.ops.specs.Rows.{at, body_length, is_computing, number_of, role_of}
use Rattle.ops.specs.Ops.{at_types, Fault, fault_of, tcg}
use Rattle.ops.specs.Kinds.{load_at, store_at, document01}
use Rattle.ops.specs.Table.{row_of}
use Rattle.block.specs.Records.{records_of, ops_from}
use Rattle.block.specs.Scan.{Approved}
use Rattle.runs.specs.Evaluates.{env_of}
use Rattle.runs.specs.Runs.{answer_of, ops_run}
use Rattle.runs.specs.declared.Ending.{Ending}
use Rattle.runs.specs.declared.Outcome.{Outcome}
use Rattle.runs.specs.declared.Outcome.TheVariants.{Falls, JumpsTo, Stops}
use Rattle.runs.specs.declared.Stop.{Stop}
use Rattle.runs.specs.declared.Stop.TheVariants.{Leaves, Faults, Unstated}

-- the machine's state, from the globals, the temporaries and the memory
abbrev pub state_of : List ℕ → List ℕ → List ℕ → St (tcg document01)
state_of globals temps memory = record { env = env_of globals temps; mem = memory }

-- how a run ends, and the effect that an outcome tells, with the state that an op leaves to the next
abbrev pub end_of : Stop → End ℕ Fault
end_of (Leaves v) = exit v
end_of (Faults store address flags reason) = fault (fault_of store address flags reason)
end_of Unstated = unstated

abbrev pub effect_of : Outcome → St (tcg document01) → Effect ℕ (List ℕ) ℕ Fault
effect_of (Falls p) t = falls t
effect_of (JumpsTo l) t = jumps l
effect_of (Stops e) t = stops (end_of e)

-- where the op after the one at a place starts, and where an outcome goes on if it falls there
abbrev pub next_at : List ℕ → ℕ → ℕ
next_at block place = place + suc (body_length row_of (get_or block place 0))

abbrev pub place_or : ℕ → Outcome → ℕ
place_or next (Falls p) = p
place_or next (JumpsTo l) = next
place_or next (Stops e) = next

-- the op computes, or the record is no op
abbrev pub plain_kind : ℕ → Bool
plain_kind kind = is_computing (role_of row_of kind) || ltb (number_of (role_of row_of kind)) 2

-- the state after an effect: only an op that leaves one to the next changes it
abbrev pub after_state : St (tcg document01) → Effect ℕ (List ℕ) ℕ Fault → St (tcg document01)
after_state s (falls t) = t
after_state s (jumps l) = s
after_state s (stops e) = s

-- an op with this view, before the place next, is run from a state: its outcome, and the state that it leaves
pub record Performs (w : View ℕ (List ℕ) ℕ Fault) (next : ℕ) (s s' : St (tcg document01)) (outcome : Outcome) : Type 0 where
  pub tells : effect_of outcome s' ≡ effect 0 w s
  pub leaves_so : s' ≡ after_state s (effect 0 w s)
  pub goes_to : place_or next outcome ≡ next

-- the same where the op leaves every memory as it is, by what the variables hold before and after it
pub record PerformsAlone (w : View ℕ (List ℕ) ℕ Fault) (next : ℕ) (env env' : ℕ → ℕ) (outcome : Outcome) : Type 0 where
  pub under : (m : List ℕ) → Performs w next (record { env = env; mem = m }) (record { env = env'; mem = m }) outcome

-- the scan has accepted the block, and kept where its ops and labels are
pub record ReadyToRun (block places labels : List ℕ) (start ops : ℕ) : Type 0 where
  pub places₀ : List ℕ
  pub base : List ℕ
  pub n : ℕ
  pub globals : ℕ
  pub approved : Approved row_of block places₀ base places labels start n globals ops

-- the run of a block's ops from a state: how it ends, and the state that is left
pub record Executed (block : List ℕ) (s s' : St (tcg document01)) (ending : Ending) : Type 0 where
  pub answers :
      let ops = ops_from (records_of row_of block) in
      let r = ops_run document01 ops s in
      Ok ending ≡ answer_of r.end (length ops - length r.left) r.count
  pub state_is : s' ≡ (ops_run document01 (ops_from (records_of row_of block)) s).state

-- rule 11, where the variables have these bytes, of which bit 0 is clear for 32 bits, and so many of them are globals
abbrev pub code_fits : ℕ → ℕ → Bool
code_fits code x = eqb (code % 2) 1 || ltb x (2 ^ 32)

abbrev pub codes_fit : List ℕ → List ℕ → Bool
codes_fit codes [] = true
codes_fit [] (g ∷ gs) = true
codes_fit (c ∷ cs) (g ∷ gs) = code_fits c g && codes_fit cs gs

abbrev pub lent_ok : List ℕ → ℕ → List ℕ → List ℕ → Bool
lent_ok base declared globals memory = eqb (length globals) declared && codes_fit base globals && leb (length memory) max_memory

-- the views of the ops that a step takes apart, from the bytes of the block after the place
abbrev pub branch_op : List ℕ → ℕ → Bool → View ℕ (List ℕ) ℕ Fault
branch_op b p wide =
    let t : ℕ = cond wide 1 0 in
    flow (at b (p + 1) ∷ at b (p + 2) ∷ [])
    (when (λ m vs. let xs = at_types (t ∷ t ∷ []) vs in cond_w (access_width wide) (at b (p + 3)) (at xs 0) (at xs 1))) (to (at b (p + 4)))

abbrev pub load_op : List ℕ → ℕ → Bool → View ℕ (List ℕ) ℕ Fault
load_op b p wide = access (at b (p + 1) ∷ []) (at b (p + 2) ∷ []) (λ m vs. load_at (access_width wide) (at b (p + 3)) m (at vs 0))

abbrev pub store_op : List ℕ → ℕ → View ℕ (List ℕ) ℕ Fault
store_op b p = access [] (at b (p + 1) ∷ at b (p + 2) ∷ []) (λ m vs. store_at (at b (p + 3)) m (at vs 1) (at vs 0))

abbrev pub constant_op : List ℕ → ℕ → View ℕ (List ℕ) ℕ Fault
constant_op b p = calc (at b (p + 1) ∷ []) [] (λ vs. Some (low_first b (p + 2) 8 ∷ []))
