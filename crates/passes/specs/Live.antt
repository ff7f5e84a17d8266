-- Liveness and what prune keeps, as the code's sets and arrays hold them. Assumes nothing.
use Rattle.std.specs.Prelude.{◌≡◌, cond, ◌||◌, List, [], ◌∷◌, ◌++◌, ℕ, ◌+◌, ◌%◌, ◌≤◌, ◌<◌, eqb, ltb, length, get_or, take}
use Rattle.theory.specs.Sets.{Vars, has, without, both}
use Rattle.theory.specs.Prune.{before, prune}
use Rattle.ops.specs.Rows.{Role, role_in, role_no, outs_in, is_pure, is_closing, is_setting, is_jumping}
use Rattle.ops.specs.Ops.{view_of, tcg}
use Rattle.ops.specs.Fields.{bytes_at}
use Rattle.ops.specs.Kinds.{document01}
use Rattle.ops.specs.Table.{row_of}
use Rattle.block.specs.Records.{record_bytes}
use Rattle.block.specs.Rules.{globals_in, kept_in}
use Rattle.block.specs.Scan.{record_at}
use Rattle.passes.specs.Laid.{ops_at, place_of, Leaves, kept_from}
use Rattle.passes.specs.Knows.{folded_ops}

-- what is live before an op, from what is live after it
abbrev pub live_before : Vars → Vars → List ℕ → Vars → Vars
live_before globals kept op l = before globals kept (view_of document01 op) l

-- what is live at the label that an op sets or may jump to; the globals if it has none
abbrev pub shown_by : Role → Vars → Vars → Vars
shown_by role globals kept = cond (is_setting role || is_jumping role) kept globals

-- what is live before an op by its role and outputs, but for its inputs
abbrev pub before_by : Role → Vars → Vars → List ℕ → Vars → Vars
before_by role globals kept outs l =
    cond (is_closing role) (shown_by role globals kept) (cond (is_pure role) (without l outs) (both (shown_by role globals kept) (without l outs)))

-- the same for the op with this entry at a place
abbrev pub before_at : ℕ → List ℕ → ℕ → Vars → Vars → Vars → Vars
before_at e block place globals kept l = before_by (role_no (role_in e)) globals kept (bytes_at block (place + 1) (outs_in e)) l

-- what is live before the op that fold leaves of the one at a place, by its mark
abbrev pub live_as : ℕ → List ℕ → ℕ → Vars → Vars → Vars → Vars
live_as mark block place globals kept l =
    cond (eqb mark 1) (without l (get_or block (place + 1) 0 ∷ [])) (live_before globals kept (record_at row_of block place) l)

-- Prune holds what is live as the times of the last events, which grow as it reads backward: of each variable, and of each class. An odd time
-- makes live, an even one ends that; the later of the two decides.
abbrev pub last_of : ℕ → ℕ → ℕ
last_of own all = cond (ltb own all) all own

abbrev pub live_of : List ℕ → List ℕ → List ℕ → Vars
live_of events floors classes v = eqb (last_of (get_or events v 0) (get_or floors (get_or classes v 2 % 4) 0) % 2) 1

-- no event is later than now
pub record Young (events floors : List ℕ) (now : ℕ) : Type 0 where
  pub events_young : (v : ℕ) → get_or events v 0 ≤ now
  pub floors_young : (c : ℕ) → get_or floors c 0 ≤ now

-- each class is one of the three
pub record Classed (classes : List ℕ) : Type 0 where
  pub class_few : (v : ℕ) → get_or classes v 2 < 3

-- what was live becomes this, of globals, variables that outlive an extended basic block, and what was live
pub record Turns (events floors : List ℕ) (now : ℕ) (f : Vars → Vars → Vars → Vars) (events' floors' : List ℕ) : Type 0 where
  pub live_so : (classes : List ℕ) → Classed classes → Young events floors now → live_of events' floors' classes ≡ f (globals_in classes) (kept_in classes) (live_of events floors classes)
  pub young_so : Young events floors now → Young events' floors' (now + 1)

-- each of these variables has this time
pub record Timed (events vs : List ℕ) (time : ℕ) (events' : List ℕ) : Type 0 where
  pub times_are : (v : ℕ) → get_or events' v 0 ≡ cond (has vs v) time (get_or events v 0)

-- prune keeps the ops whose mark is below 2, as they were marked, and they have so many bytes
pub record Keeps (ops : List (List ℕ)) (globals kept : Vars) (marks₀ marks : List ℕ) (size : ℕ) : Type 0 where
  pub kept_are : kept_from 0 marks ops ≡ prune (tcg document01) globals kept ops
  pub size_is : size ≡ length (record_bytes (kept_from 0 marks ops))
  pub marks_are : (i : ℕ) → get_or marks i 0 < 2 → get_or marks i 0 ≡ get_or marks₀ i 0

-- ops that are kept, with what fold leaves of them
pub record Marked (block places marks constants : List ℕ) (ops : ℕ) : Type 0 where
  pub left : (i : ℕ) → i < ops → get_or marks i 0 < 2 → Leaves block (get_or places i 0) (get_or marks i 0) (get_or constants i 0) (get_or (folded_ops (ops_at block places 0 ops)) i [])

-- the bytes before the first op, and the ops that are kept
abbrev pub emitted : List ℕ → List ℕ → List ℕ → ℕ → List ℕ
emitted block places marks ops = take (place_of block places ops 0) block ++ record_bytes (kept_from 0 marks (folded_ops (ops_at block places 0 ops)))
