-- What each op does to the values and the memory, as the step's parts find it. Assumes nothing.
use mathlib.Core.Path.{◌≡◌, refl, sym, ap, ap₂, ◌∙◌, subst}
use mathlib.Core.Bool.{Bool, true, false, cond}
use Rattle.std.specs.Prelude.{Option, None, Some}
use mathlib.Core.List.{List, [], ◌∷◌}
use Prim.Native.Nat.{ℕ, zero, suc, ◌+◌, ◌%◌, ◌^◌, ◌<◌}
use native.Mathlib.Omega.{arith}
use lib.ListN.{length, get_or}
use native.Mathlib.Nat.{mod-eq_of_lt}
use Rattle.theory.specs.Machine.{gives, always, to, View, label, flow, exit, falls, jumps, stops, reads, after_calc, after_access, effect, St}
use Rattle.theory.specs.Sets.{upd}
use Rattle.word.specs.Condition.{cond_w}
use Rattle.memory.specs.Access.{access_at, loaded, stored}
use Rattle.memory.specs.Answer.{access_width, loaded_by, left_by}
use Rattle.memory.specs.Bytes.{low_first}
use Rattle.ops.specs.Rows.{unknown, declares, sets_label, jumps_to, exits, number_of, bits_of, at, outs_in, ins_in, rest_in, body_length}
use Rattle.ops.specs.Kinds.{one, document01}
use Rattle.ops.specs.Table.{kind_table, row_of}
use Rattle.ops.specs.Rows.{role_of}
use Rattle.ops.specs.Ops.{leave, Fault, view_of, tcg}
use Rattle.ops.specs.Kinds.{touched, load_at, store_at}
use Rattle.block.specs.Scan.{record_at, Stands}
use Rattle.block.proofs.Views.{unknown_view, declare_view, label_view, jump_view, leave_view, pure_view_lem}
use Rattle.ops.proofs.Entry.{Digits, digits}
use Rattle.ops.proofs.Table.{same_number}
use Rattle.runs.specs.Evaluates.{Computed, inputs_at, states_at}
use Rattle.runs.specs.Steps.{effect_of, after_state, Performs, PerformsAlone, next_at, place_or, branch_op, load_op, store_op, constant_op}
use Rattle.memory.specs.declared.Reason.{Reason}
use Rattle.std.specs.Prelude.{Result, Ok, Err, ⊤}
use Rattle.memory.proofs.Faults.{served}
use Rattle.runs.specs.declared.Outcome.{Outcome}
use Rattle.runs.specs.declared.Outcome.TheVariants.{Falls, JumpsTo, Stops}
use Rattle.runs.specs.declared.Stop.TheVariants.{Leaves, Faults, Unstated}

module _ (w : View ℕ (List ℕ) ℕ Fault) (next : ℕ) (s : St (tcg document01)) where
  -- an op that leaves the state as it was
  pub stays : (o : Outcome) → effect 0 w s ≡ effect_of o s → place_or next o ≡ next → Performs w next s s o
  stays o e g = record { tells = sym e; leaves_so = sym (ap (after_state s) e ∙ same o); goes_to = g }
    where
      same : (o : Outcome) → after_state s (effect_of o s) ≡ s
      same (Falls p) = refl
      same (JumpsTo l) = refl
      same (Stops e) = refl

  -- an op that leaves another to the next op
  pub falls_to : (s' : St (tcg document01)) → effect 0 w s ≡ falls s' → Performs w next s s' (Falls next)
  falls_to s' e = record { tells = sym e; leaves_so = sym (ap (after_state s) e); goes_to = refl }

-- what the variables and the memory hold
abbrev holding : (ℕ → ℕ) → List ℕ → St (tcg document01)
holding env memory = record { env = env; mem = memory }

-- conditions and branches
pub holds_wide : (c a b : ℕ) {wide r : Bool} → wide ≡ true → a < 2 ^ 64 → b < 2 ^ 64 → r ≡ cond_w 64 c a b
    → r ≡ cond_w (access_width wide) c (a % 2 ^ access_width wide) (b % 2 ^ access_width wide)
holds_wide c a b e l m q = rw (e, mod-eq_of_lt l, mod-eq_of_lt m) q

pub holds_narrow : (c a b : ℕ) {wide r : Bool} {x y : ℕ} → wide ≡ false → x ≡ a % 2 ^ 32 → y ≡ b % 2 ^ 32 → r ≡ cond_w 32 c x y
    → r ≡ cond_w (access_width wide) c (a % 2 ^ access_width wide) (b % 2 ^ access_width wide)
holds_narrow c a b e l m q = rw (e, ← l, ← m) q

-- the type of an op's width
width_is : (wide : Bool) → access_width wide ≡ bits_of (cond wide 1 0)
width_is true = refl
width_is false = refl

module _ (b : List ℕ) (env : ℕ → ℕ) (p : ℕ) (wide : Bool) {x y : ℕ} {r : Bool} (ex : x ≡ env (at b (p + 1))) (ey : y ≡ env (at b (p + 2)))
    (e : r ≡ cond_w (access_width wide) (at b (p + 3)) (x % 2 ^ access_width wide) (y % 2 ^ access_width wide)) where
  decides : r ≡ cond_w (access_width wide) (at b (p + 3)) (env (at b (p + 1)) % 2 ^ bits_of (cond wide 1 0)) (env (at b (p + 2)) % 2 ^ bits_of (cond wide 1 0))
  decides =
      e ∙ ap₂ (λ (u v : ℕ). cond_w (access_width wide) (at b (p + 3)) (u % 2 ^ access_width wide) (v % 2 ^ access_width wide)) ex ey
      ∙ ap (λ (w : ℕ). cond_w (access_width wide) (at b (p + 3)) (env (at b (p + 1)) % 2 ^ w) (env (at b (p + 2)) % 2 ^ w)) (width_is wide)

  branches_so : (t : Bool) (o : Outcome) → r ≡ t → ((m : List ℕ) → cond t (jumps (at b (p + 4))) (falls (holding env m)) ≡ effect_of o (holding env m))
      → place_or (p + 5) o ≡ p + 5 → PerformsAlone (branch_op b p wide) (p + 5) env env o
  branches_so t o q f g =
      record { under = λ m. stays (branch_op b p wide) (p + 5) (holding env m) o (ap (λ (u : Bool). cond u (jumps (at b (p + 4))) (falls (holding env m))) (sym decides ∙ q) ∙ f m) g }

  pub branch_jumps : r ≡ true → PerformsAlone (branch_op b p wide) (p + 5) env env (JumpsTo (at b (p + 4)))
  branch_jumps t = branches_so true (JumpsTo (at b (p + 4))) t (λ m. refl) refl

  pub branch_falls : r ≡ false → PerformsAlone (branch_op b p wide) (p + 5) env env (Falls (p + 5))
  branch_falls t = branches_so false (Falls (p + 5)) t (λ m. refl) refl

-- loads
load_value : (a : Result ⊤ Reason) {x y : ℕ} → loaded_by a y ≡ Ok x → (a ≡ served) × (y ≡ x)
load_value (Ok u) e = (refl, cc)
load_value (Err reason) e = let z : ◌≡◌ {A = ℕ} 0 1 = cc in absurd (omega arith)

load_fails : (a : Result ⊤ Reason) (y : ℕ) {reason : Reason} → loaded_by a y ≡ Err reason → a ≡ Err reason
load_fails (Ok u) y e = let z : ◌≡◌ {A = ℕ} 0 1 = cc in absurd (omega arith)
load_fails (Err why) y e = cc

module _ (b : List ℕ) (env : ℕ → ℕ) (memory : List ℕ) (p : ℕ) (wide : Bool) {q : ℕ} {r : Result ℕ Reason} (eq : q ≡ env (at b (p + 2)))
    (e : r ≡ loaded_by (access_at (length memory) q (at b (p + 3))) (loaded (access_width wide) (at b (p + 3)) memory q)) where
  loads_so : (a : Result ⊤ Reason) → access_at (length memory) q (at b (p + 3)) ≡ a
      → effect 0 (load_op b p wide) (holding env memory)
      ≡ after_access {Out = ℕ} 0 (at b (p + 1) ∷ []) (holding env memory) (touched false q (at b (p + 3)) (gives (loaded (access_width wide) (at b (p + 3)) memory q ∷ []) memory) a)
  loads_so a h =
      ap (λ (x : ℕ). after_access {Out = ℕ} 0 (at b (p + 1) ∷ []) (holding env memory) (load_at (access_width wide) (at b (p + 3)) memory x)) (sym eq)
      ∙ ap (λ (x : Result ⊤ Reason). after_access {Out = ℕ} 0 (at b (p + 1) ∷ []) (holding env memory) (touched false q (at b (p + 3)) (gives (loaded (access_width wide) (at b (p + 3)) memory q ∷ []) memory) x)) h

  pub load_falls : {x : ℕ} {env' : ℕ → ℕ} → r ≡ Ok x → upd env (at b (p + 1)) x ≡ env' → Performs (load_op b p wide) (p + 4) (holding env memory) (holding env' memory) (Falls (p + 4))
  load_falls {x} {env'} t s =
      let v = load_value (access_at (length memory) q (at b (p + 3))) (sym e ∙ t) in
      falls_to (load_op b p wide) (p + 4) (holding env memory) (holding env' memory)
      (loads_so served v.0 ∙ ap (λ (y : ℕ). falls (holding (upd env (at b (p + 1)) y) memory)) v.1 ∙ ap (λ (f : ℕ → ℕ). falls (holding f memory)) s)

  pub loads_fault : {reason : Reason} → r ≡ Err reason → Performs (load_op b p wide) (p + 4) (holding env memory) (holding env memory) (Stops (Faults false q (at b (p + 3)) reason))
  loads_fault {reason} t =
      stays (load_op b p wide) (p + 4) (holding env memory) (Stops (Faults false q (at b (p + 3)) reason))
      (loads_so (Err reason) (load_fails (access_at (length memory) q (at b (p + 3))) (loaded (access_width wide) (at b (p + 3)) memory q) (sym e ∙ t)))
      refl

-- stores
module _ (b : List ℕ) (env : ℕ → ℕ) (memory : List ℕ) (p : ℕ) {x q : ℕ} {memory' : List ℕ} {r : Result ⊤ Reason} (ex : x ≡ env (at b (p + 1))) (eq : q ≡ env (at b (p + 2)))
    (e : (r ≡ access_at (length memory) q (at b (p + 3))) × (memory' ≡ left_by r memory (stored (at b (p + 3)) memory q x))) where
  stores_so : (a : Result ⊤ Reason) → r ≡ a
      → effect 0 (store_op b p) (holding env memory) ≡ after_access {Out = ℕ} 0 [] (holding env memory) (touched true q (at b (p + 3)) (gives [] (stored (at b (p + 3)) memory q x)) a)
  stores_so a h =
      ap₂ (λ (u v : ℕ). after_access {Out = ℕ} 0 [] (holding env memory) (store_at (at b (p + 3)) memory v u)) (sym ex) (sym eq)
      ∙ ap (λ (y : Result ⊤ Reason). after_access {Out = ℕ} 0 [] (holding env memory) (touched true q (at b (p + 3)) (gives [] (stored (at b (p + 3)) memory q x)) y)) (sym e.0 ∙ h)

  left_so : (a : Result ⊤ Reason) → r ≡ a → left_by a memory (stored (at b (p + 3)) memory q x) ≡ memory'
  left_so a h = sym (e.1 ∙ ap (λ (y : Result ⊤ Reason). left_by y memory (stored (at b (p + 3)) memory q x)) h)

  pub store_falls : r ≡ served → Performs (store_op b p) (p + 4) (holding env memory) (holding env memory') (Falls (p + 4))
  store_falls t =
      falls_to (store_op b p) (p + 4) (holding env memory) (holding env memory')
      (stores_so served t ∙ ap (λ (m : List ℕ). falls (holding env m)) (left_so served t))

  pub stores_fault : {reason : Reason} → r ≡ Err reason → Performs (store_op b p) (p + 4) (holding env memory) (holding env memory') (Stops (Faults true q (at b (p + 3)) reason))
  stores_fault {reason} t =
      subst (λ (m : List ℕ). Performs (store_op b p) (p + 4) (holding env memory) (holding env m) (Stops (Faults true q (at b (p + 3)) reason))) (left_so (Err reason) t)
      (stays (store_op b p) (p + 4) (holding env memory) (Stops (Faults true q (at b (p + 3)) reason)) (stores_so (Err reason) t) refl)

-- constants
pub constant_falls : (b : List ℕ) (env env' : ℕ → ℕ) (p : ℕ) {x : ℕ} → x ≡ low_first b (p + 2) 8 → upd env (at b (p + 1)) x ≡ env'
    → PerformsAlone (constant_op b p) (p + 10) env env' (Falls (p + 10))
constant_falls b env env' p {x} e s =
    record {
      under = λ m.
          falls_to (constant_op b p) (p + 10) (holding env m) (holding env' m)
          (ap (λ (y : ℕ). falls (record { env = upd env (at b (p + 1)) y; mem = m })) (sym e)
          ∙ ap (λ (f : ℕ → ℕ). falls (record { env = f; mem = m })) s);
    }

-- the next op's place, from the digits of the entry
body_next : {b : List ℕ} {p k : ℕ} → Stands row_of b p k → {e n : ℕ} → e ≡ get_or kind_table k 0 → n ≡ outs_in e + ins_in e + rest_in e → p + 1 + n ≡ next_at b p
body_next s {e} q h =
    let d : Digits row_of e _ = digits kind_table q in
    omega (arith, h, d.body, ap (body_length row_of) s.its_kind)

-- pure ops that read something
module _ {b : List ℕ} {p k : ℕ} (c : Computed b p k) (env : ℕ → ℕ) (r : Option ℕ) (e : states_at b p k (reads env (inputs_at b p k)) ≡ one r) where
  acts : (m : List ℕ) → effect 0 (view_of document01 (record_at row_of b p)) (holding env m) ≡ after_calc 0 (at b (p + 1) ∷ []) (holding env m) (one r)
  acts m =
      ap (λ (w : View ℕ (List ℕ) ℕ Fault). effect 0 w (holding env m)) (pure_view_lem c.stands c.role_is)
      ∙ ap (after_calc 0 (at b (p + 1) ∷ []) (holding env m)) e

  pub compute_falls : {x e n : ℕ} {env' : ℕ → ℕ} → r ≡ Some x → upd env (at b (p + 1)) x ≡ env' → e ≡ get_or kind_table k 0 → n ≡ outs_in e + ins_in e + rest_in e
      → PerformsAlone (view_of document01 (record_at row_of b p)) (next_at b p) env env' (Falls (p + 1 + n))
  compute_falls {x} {e} {n} {env'} t s q h =
      subst (λ (j : ℕ). PerformsAlone (view_of document01 (record_at row_of b p)) (next_at b p) env env' (Falls j)) (sym (body_next c.stands q h))
      (record {
        under = λ m.
            falls_to (view_of document01 (record_at row_of b p)) (next_at b p) (holding env m) (holding env' m)
            (acts m ∙ ap (λ (o : Option ℕ). after_calc 0 (at b (p + 1) ∷ []) (holding env m) (one o)) t
            ∙ ap (λ (v : ℕ → ℕ). falls (record { env = v; mem = m })) s);
      })

  pub compute_unstated : r ≡ None → PerformsAlone (view_of document01 (record_at row_of b p)) (next_at b p) env env (Stops Unstated)
  compute_unstated t =
      record {
        under = λ m.
            stays (view_of document01 (record_at row_of b p)) (next_at b p) (holding env m) (Stops Unstated)
            (acts m ∙ ap (λ (o : Option ℕ). after_calc 0 (at b (p + 1) ∷ []) (holding env m) (one o)) t)
            refl;
      }

-- the ops that change nothing
module _ {b : List ℕ} {p k : ℕ} (s : Stands row_of b p k) (env : ℕ → ℕ) (memory : List ℕ) where
  alone : (v : View ℕ (List ℕ) ℕ Fault) (o : Outcome) → view_of document01 (record_at row_of b p) ≡ v → effect 0 v (holding env memory) ≡ effect_of o (holding env memory)
      → place_or (next_at b p) o ≡ next_at b p → Performs (view_of document01 (record_at row_of b p)) (next_at b p) (holding env memory) (holding env memory) o
  alone v o e q g = stays (view_of document01 (record_at row_of b p)) (next_at b p) (holding env memory) o (ap (λ (w : View ℕ (List ℕ) ℕ Fault). effect 0 w (holding env memory)) e ∙ q) g

  pub step_label : role_of row_of k ≡ sets_label → {n : ℕ} → n ≡ next_at b p → Performs (view_of document01 (record_at row_of b p)) (next_at b p) (holding env memory) (holding env memory) (Falls n)
  step_label e {n} g = alone (label (at b (p + 1))) (Falls n) (label_view s e) refl g

  pub step_jumps : role_of row_of k ≡ jumps_to → Performs (view_of document01 (record_at row_of b p)) (next_at b p) (holding env memory) (holding env memory) (JumpsTo (at b (p + 1)))
  step_jumps e = alone (flow [] always (to (at b (p + 1)))) (JumpsTo (at b (p + 1))) (jump_view s e) refl refl

  pub step_exits : role_of row_of k ≡ exits → {x : ℕ} → x ≡ env (at b (p + 1)) → Performs (view_of document01 (record_at row_of b p)) (next_at b p) (holding env memory) (holding env memory) (Stops (Leaves x))
  step_exits e {x} q = alone (leave (at b (p + 1) ∷ [])) (Stops (Leaves x)) (leave_view s e) (ap (λ (v : ℕ). stops (exit v)) (sym q)) refl

-- a record that is no op: its role has the number 0 or 1
pub step_none : {b : List ℕ} {p k : ℕ} → Stands row_of b p k → (env : ℕ → ℕ) → number_of (role_of row_of k) < 2
    → PerformsAlone (view_of document01 (record_at row_of b p)) (next_at b p) env env (Stops (Leaves 0))
step_none {b} {p} {k} s env h = record { under = λ m. go m (number_of (role_of row_of k)) refl h }
  where
    go : (m : List ℕ) (n : ℕ) → number_of (role_of row_of k) ≡ n → n < 2 → Performs (view_of document01 (record_at row_of b p)) (next_at b p) (holding env m) (holding env m) (Stops (Leaves 0))
    go m zero q h = alone s env m (leave []) (Stops (Leaves 0)) (unknown_view s (same_number (role_of row_of k) unknown q)) refl refl
    go m (suc zero) q h = alone s env m (leave []) (Stops (Leaves 0)) (declare_view s (same_number (role_of row_of k) declares q)) refl refl
    go m (suc (suc n)) q h = absurd (omega arith)
