-- A fault's flags are below 256: they are those of an op that the check accepts. Assumes nothing.
use mathlib.Core.Path.{◌≡◌, refl, ap, subst}
use mathlib.Core.Bool.{Bool, true, false, cond, not, ◌&&◌}
use mathlib.Core.List.{List, [], ◌∷◌}
use Rattle.std.specs.Prelude.{Option, None, Some}
use Prim.Native.Nat.{ℕ, zero, suc, ◌+◌, ◌*◌, ◌<◌}
use native.Mathlib.Omega.{arith}
use lib.Dec.{ltb, leb}
use lib.ListN.{length}
use borrow.Author.Tests.{ltb-true}
use Rattle.theory.specs.Machine.{Touch, faults, gives, when, to, calc, access, flow, reads, End, exit, fault, unstated, fell, spent, falls, jumps, stops, is_label, after_calc, after_access, effect, St, Effects, seek, moved, after, run}
use Rattle.theory.specs.Sets.{All}
use Rattle.word.proofs.Tests.{cond_all}
use Rattle.theory.proofs.Checker.{checks}
use Rattle.theory.proofs.Sets.{and_l, and_r}
use Rattle.std.specs.Prelude.{Result, Ok, Err, ⊤}
use Rattle.memory.specs.declared.Reason.{Reason}
use Rattle.memory.specs.Access.{size_of, sign_extends, flags_ok, access_at, loaded, stored}
use Rattle.ops.specs.Rows.{Role, unknown, declares, sets_label, jumps_to, exits, branches, loads, stores, constant, computing, Row, at, test_ok, role_of}
use Rattle.ops.specs.Ops.{Fault, at_types, eval_of, view_for, view_of, tcg}
use Rattle.ops.specs.Fields.{kind_of, row_at, outs_by, ins_by, rest_by, label_by}
use Rattle.ops.specs.Kinds.{document01, touched, load_of, store_of, holds_of, op_width}
use Rattle.ops.specs.Table.{row_of}
use Rattle.ops.proofs.Table.{type_at, type_small, row_of_lem}
use Rattle.ops.proofs.Document01.{lawful}
use Rattle.block.specs.Checks.{check_of}
use Rattle.block.specs.Records.{records_of, declarations, ops_from}
use Rattle.block.specs.Rules.{Seen, start, rule6, passed}
use Rattle.block.specs.Checks.{Accepted}
use Rattle.block.proofs.Checker.{op_ok, checker, declared_in}
use Rattle.block.proofs.Parts.{parts}
use Rattle.runs.specs.Runs.{entry, ops_run}
use Rattle.runs.proofs.Ends.{op_parts}

-- what a run, an effect and an op may end with
abbrev pub FlagsFit : End ℕ Fault → Type 0
FlagsFit (exit v) = Unit {0}
FlagsFit (fault f) = f.flags < 256
FlagsFit unstated = Unit {0}
FlagsFit fell = Unit {0}
FlagsFit spent = Unit {0}

abbrev EffectFits : Effects (tcg document01) → Type 0
EffectFits (falls s) = Unit {0}
EffectFits (jumps k) = Unit {0}
EffectFits (stops e) = FlagsFit e

abbrev OpFits : List ℕ → Type 0
OpFits o = (s : St (tcg document01)) → EffectFits (effect 0 (view_of document01 o) s)

-- flags of a load and of a store, at either type
flags_low : (w : ℕ) (store : Bool) (flags : ℕ) → flags_ok w store flags ≡ true → flags < 256
unfolding flags_ok
flags_low w store flags h = omega (arith, ltb-true flags 32 (and_l (ltb flags 32) (leb (8 * size_of flags) w) (and_l (ltb flags 32 && leb (8 * size_of flags) w) (not (store && sign_extends flags)) h)))

load_flags : (t : ℕ) (bytes : List ℕ) → t < 2 → test_ok (4 + t) bytes ≡ true → at bytes 0 < 256
unfolding test_ok
load_flags zero bytes l h = flags_low 32 false (at bytes 0) h
load_flags (suc zero) bytes l h = flags_low 64 false (at bytes 0) h
load_flags (suc (suc t)) bytes l h = absurd (omega arith)

store_flags : (t : ℕ) (bytes : List ℕ) → t < 2 → test_ok (6 + t) bytes ≡ true → at bytes 0 < 256
unfolding test_ok
store_flags zero bytes l h = flags_low 32 true (at bytes 0) h
store_flags (suc zero) bytes l h = flags_low 64 true (at bytes 0) h
store_flags (suc (suc t)) bytes l h = absurd (omega arith)

-- what each view does
abbrev TouchFits : Touch ℕ (List ℕ) Fault → Type 0
TouchFits (faults f) = f.flags < 256
TouchFits (gives vs m) = Unit {0}

calc_fits : (outs ins : List ℕ) (f : List ℕ → Option (List ℕ)) (s : St (tcg document01)) → EffectFits (effect 0 (calc outs ins f) s)
calc_fits outs ins f s = go (f (reads s.env ins))
  where
    go : (x : Option (List ℕ)) → EffectFits (after_calc 0 outs s x)
    go None = tt
    go (Some vs) = tt

access_fits : (outs ins : List ℕ) (f : List ℕ → List ℕ → Touch ℕ (List ℕ) Fault) → ((m vs : List ℕ) → TouchFits (f m vs)) → (s : St (tcg document01)) → EffectFits (effect 0 (access outs ins f) s)
access_fits outs ins f h s = go (f s.mem (reads s.env ins)) (h s.mem (reads s.env ins))
  where
    go : (x : Touch ℕ (List ℕ) Fault) → TouchFits x → EffectFits (after_access 0 outs s x)
    go (faults x) q = q
    go (gives vs m) q = tt

branch_fits : (ins : List ℕ) (f : List ℕ → List ℕ → Bool) (k : ℕ) (s : St (tcg document01)) → EffectFits (effect 0 (flow ins (when f) (to k)) s)
branch_fits ins f k s = cond_all EffectFits (f s.mem (reads s.env ins)) tt tt

touched_fits : (store : Bool) (address : ℕ) (given : Touch ℕ (List ℕ) Fault) {flags : ℕ} → flags < 256 → TouchFits given → (a : Result ⊤ Reason) → TouchFits (touched store address flags given a)
touched_fits store address given l g (Ok served) = g
touched_fits store address given l g (Err reason) = l

load_fits : (k : ℕ) (bytes : List ℕ) → at bytes 0 < 256 → (m vs : List ℕ) → TouchFits (load_of k bytes m vs)
unfolding load_of
load_fits k bytes l m vs = touched_fits false (at vs 0) (gives (loaded (op_width k) (at bytes 0) m (at vs 0) ∷ []) m) l tt (access_at (length m) (at vs 0) (at bytes 0))

store_fits : (k : ℕ) (bytes : List ℕ) → at bytes 0 < 256 → (m vs : List ℕ) → TouchFits (store_of k bytes m vs)
unfolding store_of
store_fits k bytes l m vs = touched_fits true (at vs 1) (gives [] (stored (at bytes 0) m (at vs 1) (at vs 0))) l tt (access_at (length m) (at vs 1) (at bytes 0))

module _ (o : List ℕ) (h : test_ok (row_at row_of o).test (rest_by (row_at row_of o) o) ≡ true) where
  tested : {n : ℕ} → (row_at row_of o).test ≡ n → test_ok n (rest_by (row_at row_of o) o) ≡ true
  tested e = subst (λ (n : ℕ). test_ok n (rest_by (row_at row_of o) o) ≡ true) e h

  role_fits : (x : Role) → role_of row_of (kind_of o) ≡ x → (s : St (tcg document01)) → EffectFits (effect 0 (view_for document01 x (row_at row_of o) o) s)
  role_fits unknown e s = tt
  role_fits declares e s = tt
  role_fits sets_label e s = tt
  role_fits jumps_to e s = tt
  role_fits exits e s = tt
  role_fits branches e s = let row = row_at row_of o in branch_fits (ins_by row o) (λ m vs. holds_of (kind_of o) (rest_by row o) (at_types row.ins vs)) (label_by row o) s
  role_fits loads e s =
      let row = row_at row_of o in
      let l = load_flags (type_at (kind_of o)) (rest_by row o) (type_small (kind_of o)) (tested (ap (λ (q : Row). q.test) (row_of_lem loads (kind_of o) e))) in
      access_fits (outs_by row o) (ins_by row o) (load_of (kind_of o) (rest_by row o)) (load_fits (kind_of o) (rest_by row o) l) s
  role_fits stores e s =
      let row = row_at row_of o in
      let l = store_flags (type_at (kind_of o)) (rest_by row o) (type_small (kind_of o)) (tested (ap (λ (q : Row). q.test) (row_of_lem stores (kind_of o) e))) in
      access_fits (outs_by row o) (ins_by row o) (store_of (kind_of o) (rest_by row o)) (store_fits (kind_of o) (rest_by row o) l) s
  role_fits constant e s = let row = row_at row_of o in calc_fits (outs_by row o) (ins_by row o) (eval_of document01 (kind_of o) (rest_by row o)) s
  role_fits computing e s = let row = row_at row_of o in calc_fits (outs_by row o) (ins_by row o) (eval_of document01 (kind_of o) (rest_by row o)) s

  op_fits : OpFits o
  unfolding view_of
  op_fits s = role_fits (role_of row_of (kind_of o)) refl s

seek_fits : (k : ℕ) (os : List (List ℕ)) → All OpFits os → All OpFits (seek (tcg document01) k os)
seek_fits k [] h = tt
seek_fits k (o ∷ os) h = go (is_label k (view_of document01 o)) (seek_fits k os h.1)
  where
    go : (b : Bool) → All OpFits (seek (tcg document01) k os) → All OpFits (cond b (o ∷ os) (seek (tcg document01) k os))
    go true ih = h
    go false ih = ih

module _ (b : List (List ℕ)) (h : All OpFits b) where
  after_fits : (n : ℕ) → ((r : List (List ℕ)) (s : St (tcg document01)) → All OpFits r → FlagsFit (run (tcg document01) b n r s).end) → (o : List ℕ) (r : List (List ℕ)) (s : St (tcg document01)) → All OpFits r
      → (x : Effects (tcg document01)) → EffectFits x → FlagsFit (after (tcg document01) (run (tcg document01) b n) (o ∷ r) s (moved (tcg document01) b r s x)).end
  after_fits n ih o r s q (falls t) f = ih r t q
  after_fits n ih o r s q (jumps k) f = ih (seek (tcg document01) k b) s (seek_fits k b h)
  after_fits n ih o r s q (stops e) f = f

  run_fits : (n : ℕ) (r : List (List ℕ)) (s : St (tcg document01)) → All OpFits r → FlagsFit (run (tcg document01) b n r s).end
  run_fits zero r s q = tt
  run_fits (suc n) [] s q = tt
  run_fits (suc n) (o ∷ r) s q = after_fits n (run_fits n) o r s q.1 (effect 0 (view_of document01 o) s) (q.0 s)

ops_fit : (s : Seen) (os : List (List ℕ)) → checks (tcg document01) (checker document01) s os ≡ true → All OpFits os
unfolding rule6
ops_fit s [] h = tt
ops_fit s (o ∷ os) h =
    let ok : op_ok row_of s o ≡ true = and_l (op_ok row_of s o) (checks (tcg document01) (checker document01) (passed row_of s o) os) h in
    (op_fits o (op_parts row_of s o ok).0, ops_fit (passed row_of s o) os (and_r (op_ok row_of s o) _ h))

pub block_fits : (block globals memory : List ℕ) → check_of block ≡ Accepted → FlagsFit (ops_run document01 (ops_from (records_of row_of block)) (entry document01 globals memory)).end
block_fits block globals memory h =
    let os = ops_from (records_of row_of block) in
    let q = ops_fit (declared_in start (declarations (records_of row_of block))) os (parts lawful block h).checked in
    run_fits os q (suc (length os)) os (entry document01 globals memory) q
