-- What the run's answers mean: a run of an accepted block ends by one of its ops, and its answer is that op's. Assumes nothing.
use mathlib.Core.Path.{◌≡◌, refl, sym, ap, ap₂, subst}
use mathlib.Core.Bool.{Bool, true, false, cond, false≢true, true≢false}
use Rattle.std.specs.Prelude.{Option, None, Some}
use mathlib.Core.List.{List, [], ◌∷◌}
use mathlib.Core.Logic.{◌⊎◌, inl, inr}
use Prim.Native.Nat.{ℕ, zero, suc, ◌+◌, ◌-◌, ◌<◌}
use native.Mathlib.Omega.{arith}
use native.Mathlib.Nat.{zero-add}
use lib.Dec.{ltb}
use lib.ListN.{length, get_or, drop, drop_of_length-le, length-drop}
use lib.Seq.{drop-cons}
use borrow.Author.Tests.{ltb-true, ltb-false}
use Rattle.theory.specs.Machine.{always, when, to, out, Touch, faults, gives, Way, View, calc, access, label, flow, End, exit, fault, unstated, fell, spent, falls, jumps, stops}
use Rattle.theory.specs.Machine.{is_label, pure, computes, inputs, reads, after_calc, after_access, sent, effect, State, St, Effects, Result, cost, goes, seek, moved, step, after, run}
use Rattle.theory.proofs.Simulation.{proper}
use Rattle.theory.proofs.Sets.{tell}
use Rattle.ops.specs.Ops.{Dialect, Fault, view_of, tcg}
use Rattle.ops.proofs.Lawful.{Lawful}
use Rattle.block.specs.Checks.{check_by}
use Rattle.block.specs.Records.{records_of, declarations, ops_from}
use Rattle.block.specs.Checks.{Accepted}
use Rattle.runs.specs.Runs.{fits, entry, Answer, Refused, Ran, no_answer, answer_of, ops_run, run_ops, run_checked, run_by}
use Rattle.runs.specs.Meaning.{PathTaken, here, on, Answers, exits, faults as faulted, unstated as stated_none, Ended, OpsMean, RunsMean}
use Rattle.runs.proofs.Ends.{run_ends}

-- only a pure op that states nothing ends a run so
module _ {Val Mem Out Flt : Type 0} (z : Val) (s : State Val Mem) where
  abbrev Nothing : View Val Mem Out Flt → Type 0
  Nothing w = (pure w ≡ true) × (computes w (reads s.env (inputs w)) ≡ None)

  sends : (y : Way Val Out) (xs : List Val) → sent {Mem = Mem} {Flt = Flt} y xs ≡ stops unstated → ⊥
  sends (to k) xs e = let q : ◌≡◌ {A = ℕ} 0 1 = cc in omega arith
  sends (out g) xs e = let q : ◌≡◌ {A = ℕ} 0 1 = cc in omega arith

  states_none : (w : View Val Mem Out Flt) → effect z w s ≡ stops unstated → Nothing w
  states_none (calc outs ins f) e = (refl, go (f (reads s.env ins)) e)
    where
      go : (x : Option (List Val)) → after_calc {Out = Out} {Flt = Flt} z outs s x ≡ stops unstated → x ≡ None
      go None q = refl
      go (Some vs) q = let q : ◌≡◌ {A = ℕ} 0 1 = cc in absurd (omega arith)
  states_none (access outs ins f) e = absurd (go (f s.mem (reads s.env ins)) e)
    where
      go : (x : Touch Val Mem Flt) → after_access {Out = Out} z outs s x ≡ stops unstated → ⊥
      go (faults t) q = let q : ◌≡◌ {A = ℕ} 0 1 = cc in omega arith
      go (gives vs m) q = let q : ◌≡◌ {A = ℕ} 0 1 = cc in omega arith
  states_none (label k) e = let q : ◌≡◌ {A = ℕ} 0 1 = cc in absurd (omega arith)
  states_none (flow ins always y) e = absurd (sends y (reads s.env ins) e)
  states_none (flow ins (when f) y) e = absurd (go (f s.mem (reads s.env ins)) e)
    where
      go : (b : Bool) → cond b (sent {Mem = Mem} {Flt = Flt} y (reads s.env ins)) (falls s) ≡ stops unstated → ⊥
      go true q = sends y (reads s.env ins) q
      go false q = let q : ◌≡◌ {A = ℕ} 0 1 = cc in omega arith

-- a label is sought in the block, so what follows it is the end of the block
seek_drop : (D : Dialect) (k : ℕ) (b : List (List ℕ)) → (j : ℕ) × (seek (tcg D) k b ≡ drop j b)
seek_drop D k [] = (0, refl)
seek_drop D k (o ∷ b) = go (is_label k (view_of D o)) (seek_drop D k b)
  where
    go : (x : Bool) → (j : ℕ) × (seek (tcg D) k b ≡ drop j b) → (j : ℕ) × (cond x (o ∷ b) (seek (tcg D) k b) ≡ drop j (o ∷ b))
    go true h = (0, refl)
    go false (j, e) = (suc j, e)

-- a result that the op at a position of the block ended, after so many completed ops
record Stopped (D : Dialect) (b r : List (List ℕ)) (s : St (tcg D)) (x : Result (tcg D)) : Type 0 where
  position : ℕ
  completed : ℕ
  inside : position < length b
  left_is : x.left ≡ drop position b
  counts : x.count ≡ completed + cost x.end
  path : PathTaken D b completed r s (drop position b) x.state
  ends : effect 0 (view_of D (get_or b position [])) x.state ≡ stops x.end

module _ (D : Dialect) (b : List (List ℕ)) where
  -- one op more before it
  sooner : {r q : List (List ℕ)} {s t : St (tcg D)} (x : Result (tcg D)) → step (tcg D) b r s ≡ goes q t → Stopped D b q t x
      → Stopped D b r s (record { end = x.end; state = x.state; count = suc x.count; left = x.left })
  sooner x e h =
      record {
        position = h.position;
        completed = suc h.completed;
        inside = h.inside;
        left_is = h.left_is;
        counts = omega (arith, h.counts);
        path = on e h.path;
        ends = h.ends;
      }

  abbrev Ends : ℕ → List (List ℕ) → St (tcg D) → Type 0
  Ends n r s = proper (run (tcg D) b n r s).end ≡ true → Stopped D b r s (run (tcg D) b n r s)

  -- at the i-th op
  module _ (n i : ℕ) (s : St (tcg D)) (l : i < length b) (ih : (j : ℕ) (t : St (tcg D)) → Ends n (drop j b) t) where
    abbrev o : List ℕ
    o = get_or b i []

    abbrev rest : List (List ℕ)
    rest = drop (suc i) b

    first : drop i b ≡ o ∷ rest
    first = drop-cons b i [] l

    go : (x : Effects (tcg D)) → effect 0 (view_of D o) s ≡ x → proper (after (tcg D) (run (tcg D) b n) (o ∷ rest) s (moved (tcg D) b rest s x)).end ≡ true
        → Stopped D b (o ∷ rest) s (after (tcg D) (run (tcg D) b n) (o ∷ rest) s (moved (tcg D) b rest s x))
    go (falls t) e p = sooner (run (tcg D) b n rest t) (ap (moved (tcg D) b rest s) e) (ih (suc i) t p)
    go (jumps k) e p =
        let j = seek_drop D k b in
        sooner (run (tcg D) b n (seek (tcg D) k b) s) (ap (moved (tcg D) b rest s) e) (subst (λ (q : List (List ℕ)). Ends n q s) (sym j.1) (ih j.0 s) p)
    go (stops y) e p =
        record {
          position = i;
          completed = 0;
          inside = l;
          left_is = sym first;
          counts = sym (zero-add (cost y));
          path = subst (λ (q : List (List ℕ)). PathTaken D b 0 (o ∷ rest) s q s) (sym first) here;
          ends = e;
        }

    at_op : Ends (suc n) (drop i b) s
    at_op = subst (λ (q : List (List ℕ)). Ends (suc n) q s) (sym first) (go (effect 0 (view_of D o) s) refl)

  past : (n : ℕ) (s : St (tcg D)) → Ends (suc n) [] s
  past n s p = absurd (false≢true p)

  stopped : (n i : ℕ) (s : St (tcg D)) → Ends n (drop i b) s
  stopped zero i s = λ p. absurd (false≢true p)
  stopped (suc n) i s = by (tell (ltb i (length b))) (stopped n)
    where
      by : (ltb i (length b) ≡ true) ⊎ (ltb i (length b) ≡ false) → ((j : ℕ) (t : St (tcg D)) → Ends n (drop j b) t) → Ends (suc n) (drop i b) s
      by (inl t) ih = at_op n i s (ltb-true i (length b) t) ih
      by (inr t) ih = subst (λ (q : List (List ℕ)). Ends (suc n) q s) (sym (drop_of_length-le b (ltb-false i (length b) t))) (past n s)

-- the answer of the op that ended the run
answer_so : (D : Dialect) (op : List ℕ) (s : St (tcg D)) (position completed : ℕ) (e : End ℕ Fault) → proper e ≡ true → effect 0 (view_of D op) s ≡ stops e
    → Answers D op s position completed (answer_of e position (completed + cost e))
answer_so D op s position completed (exit v) p h = let n : completed + 1 ≡ suc completed = omega arith in rw n (exits h)
answer_so D op s position completed (fault f) p h = let n : completed + 1 ≡ suc completed = omega arith in rw n (faulted h)
answer_so D op s position completed unstated p h =
    let n : completed + 0 ≡ completed = omega arith in
    let q = states_none 0 s (view_of D op) h in
    rw n (stated_none (record { op_pure = q.0; none_stated = q.1 }))
answer_so D op s position completed fell p h = absurd (false≢true p)
answer_so D op s position completed spent p h = absurd (false≢true p)

-- every other end has no answer
no_answer_lem : (e : End ℕ Fault) (position count : ℕ) → proper e ≡ false → answer_of e position count ≡ no_answer
no_answer_lem (exit v) position count p = absurd (true≢false p)
no_answer_lem (fault f) position count p = absurd (true≢false p)
no_answer_lem unstated position count p = absurd (true≢false p)
no_answer_lem fell position count p = refl
no_answer_lem spent position count p = refl

-- a run of ops from a state
module _ (D : Dialect) (os : List (List ℕ)) (s : St (tcg D)) where
  abbrev r : Result (tcg D)
  r = ops_run D os s

  abbrev answer : Answer
  answer = answer_of r.end (length os - length r.left) r.count

  ended_so : proper r.end ≡ true → Ended D os s answer r.state
  ended_so p =
      let h : Stopped D os os s r = stopped D os (suc (length os)) 0 s p in
      let position : length os - length r.left ≡ h.position = omega (arith, ap length h.left_is, length-drop h.position os, h.inside) in
      let is : answer ≡ answer_of r.end h.position (h.completed + cost r.end) = ap₂ (answer_of r.end) position h.counts in
      record {
        position = h.position;
        completed = h.completed;
        inside = h.inside;
        path = h.path;
        answers = subst (Answers D (get_or os h.position []) r.state h.position h.completed) (sym is)
            (answer_so D (get_or os h.position []) r.state h.position h.completed r.end p h.ends);
      }

  by_end : (proper r.end ≡ true) ⊎ (proper r.end ≡ false) → (answer ≡ no_answer) ⊎ Ended D os s answer r.state
  by_end (inl p) = inr (ended_so p)
  by_end (inr p) = inl (no_answer_lem r.end (length os - length r.left) r.count p)

pub ops_mean : (D : Dialect) → OpsMean D
ops_mean D os s = by_end D os s (tell (proper (ops_run D os s).end))

pub runs_mean : {D : Dialect} (law : Lawful D) → RunsMean D
unfolding run_by run_checked run_ops
runs_mean {D} law block globals memory accepted fit =
    let os = ops_from (records_of D.rows block) in
    let s = entry D globals memory in
    let ran : run_by D block globals memory ≡ run_ops D os globals memory = rw (accepted, fit) in
    record {
      left = (ops_run D os s).state;
      ended = subst (λ (a : Answer). Ended D os s a (ops_run D os s).state) (sym (ap (λ (x : Ran). x.answer) ran)) (ended_so D os s (run_ends law block globals memory accepted));
      globals_left = ap (λ (x : Ran). x.globals) ran;
      memory_left = ap (λ (x : Ran). x.memory) ran;
    }

-- the answer is never a refusal: none stands among what an op answers
never : {D : Dialect} {op : List ℕ} {s : St (tcg D)} {position completed : ℕ} {answer : Answer} {number place : ℕ} → Answers D op s position completed answer → answer ≡ Refused number place → ⊥
never (exits h) e = let q : ◌≡◌ {A = ℕ} 0 1 = cc in omega arith
never (faulted h) e = let q : ◌≡◌ {A = ℕ} 0 1 = cc in omega arith
never (stated_none h) e = let q : ◌≡◌ {A = ℕ} 0 1 = cc in omega arith

pub never_refused : {D : Dialect} (law : Lawful D) (block globals memory : List ℕ) → check_by D.rows block ≡ Accepted → fits (declarations (records_of D.rows block)) globals memory ≡ true
    → (number place : ℕ) → (run_by D block globals memory).answer ≡ Refused number place → ⊥
never_refused law block globals memory accepted fit number place e = never (runs_mean law block globals memory accepted fit).ended.answers e
