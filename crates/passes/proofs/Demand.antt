-- Demand 3. Assumes nothing.
use mathlib.Core.Path.{◌≡◌, refl, sym, ap, ◌∙◌, subst, subst₂}
use mathlib.Core.List.{List, ◌++◌}
use Prim.Native.Nat.{ℕ, ◌≤◌}
use lib.ListN.{length}
use Rattle.theory.specs.Fold.{nothing, Still}
use Rattle.theory.specs.Machine.{Prog}
use Rattle.theory.specs.Prune.{AllUsed, live_all}
use Rattle.memory.proofs.Digits.{room}
use Rattle.ops.specs.Ops.{tcg, Dialect}
use Rattle.block.specs.Records.{records_of, record_bytes, declarations, ops_from, classes_of}
use Rattle.block.proofs.Parts.{Parts, parts}
use Rattle.passes.specs.Demand.{Room, Demand3, DemandOf, Demand}
use Rattle.passes.specs.Passes.{pass_ops, result_of, written}
use Rattle.passes.proofs.Alike.{blocks_alike}
use Rattle.passes.proofs.Result.{rule, ops_preserved, parts_size, kept_parts, result_of_lem, pass_answers}
use Rattle.block.specs.Rules.{globals_in, kept_in}
use Rattle.block.specs.Checks.{Accepted}
use Rattle.block.specs.Checks.{check_by}
use Rattle.ops.proofs.Lawful.{Lawful}
use Rattle.ops.proofs.Document01.{lawful}

-- the pass of a block from its parts: folded, used, and again
module _ {D : Dialect} (law : Lawful D) (block : List ℕ) (ds os : List (List ℕ)) (h : check_by D.rows block ≡ Accepted) (p : Parts D block ds os) where
  kept : List (List ℕ)
  kept = pass_ops D (classes_of ds) os

  bytes : List ℕ
  bytes = record_bytes (ds ++ kept)

  same : result_of D block ≡ bytes
  unfolding bytes kept
  same = result_of_lem block ds os p

  q : (check_by D.rows bytes ≡ Accepted) × Parts D bytes ds kept
  unfolding bytes kept
  q = kept_parts law block ds os p

  folded : Still (tcg D) (rule D) (ops_from (records_of D.rows bytes)) nothing
  unfolding bytes kept pass_ops
  folded = subst (λ (t : Prog (tcg D)). Still (tcg D) (rule D) t nothing) (sym q.1.ops) (ops_preserved law (classes_of ds) os p.in_scope).folded

  used : AllUsed (tcg D) (live_all (tcg D) (globals_in (classes_of (declarations (records_of D.rows bytes)))) (kept_in (classes_of (declarations (records_of D.rows bytes))))) (ops_from (records_of D.rows bytes))
  unfolding bytes kept pass_ops
  used =
      subst₂ (λ (t : List (List ℕ)) (u : Prog (tcg D)). AllUsed (tcg D) (live_all (tcg D) (globals_in (classes_of t)) (kept_in (classes_of t))) u) (sym q.1.declared) (sym q.1.ops)
      (ops_preserved law (classes_of ds) os p.in_scope).used

  settled : result_of D bytes ≡ bytes
  unfolding bytes kept pass_ops
  settled = result_of_lem bytes ds kept q.1 ∙ ap (λ (t : Prog (tcg D)). record_bytes (ds ++ t)) (ops_preserved law (classes_of ds) os p.in_scope).again

  demand3 : (out : List ℕ) → Room (result_of D block) out → Demand3 D block out
  unfolding bytes kept
  demand3 out room =
      record {
        size = length bytes;
        result = bytes;
        answers = pass_answers D block out h room ∙ ap (λ (t : List ℕ). written t out) same;
        sized = refl;
        small = parts_size law bytes ds kept q.1;
        accepted = q.0;
        alike = blocks_alike law block bytes ds os h p q.0 q.1;
        folded = folded;
        used = used;
        again = λ out' r. pass_answers D bytes out' q.0 (subst (λ (t : List ℕ). length t ≤ length out') (sym settled) r) ∙ ap (λ (t : List ℕ). written t out') settled;
      }

-- in a lawful dialect: every accepted block, every buffer with room
pub demand_of : {D : Dialect} (law : Lawful D) → DemandOf D
demand_of {D = D} law block out h room = demand3 law block (declarations (records_of D.rows block)) (ops_from (records_of D.rows block)) h (parts law block h) out room

-- of document 01
pub demand_3 : Demand
demand_3 = demand_of lawful
