-- How many outputs and inputs an op has: a test of the whole table. Assumes nothing.
use mathlib.Core.Path.{◌≡◌, refl}
use mathlib.Core.Bool.{Bool, true, not, ◌&&◌, ◌||◌}
use Prim.Native.Nat.{ℕ, zero, suc, ◌≤◌, ◌<◌}
use native.Mathlib.Omega.{arith}
use lib.Dec.{eqb, ltb, leb}
use lib.ListN.{get_or}
use borrow.Author.Tests.{ltb-true, leb-true, eqb-true, lt-ltb}
use Rattle.theory.proofs.Sets.{and_l, and_r}
use Rattle.ops.specs.Rows.{outs_in, ins_in, role_in, role_no, number_of, is_computing}
use Rattle.ops.specs.Table.{kind_table}
use Rattle.ops.proofs.Ranges.{every}
use Rattle.ops.proofs.Table.{for_each}

-- at most four inputs, at most one output; a pure op has an output, and a computing one an input
abbrev one_out : ℕ → ℕ → Bool
one_out k e = leb (ins_in e) 4 && (leb (outs_in e) 1 && ((not (ltb 7 (number_of (role_no (role_in e)))) || eqb (outs_in e) 1) && (not (ltb 8 (number_of (role_no (role_in e)))) || ltb 0 (ins_in e))))

all_so : every one_out 0 kind_table ≡ true
unfolding kind_table role_no
all_so = refl

none_so : (k : ℕ) → one_out k 0 ≡ true
unfolding role_no
none_so k = refl

module _ {e : ℕ} (k : ℕ) (q : e ≡ get_or kind_table k 0) where
  so : one_out k e ≡ true
  so = rw q (for_each one_out all_so none_so k)

  pub few_outs : outs_in e ≤ 1
  few_outs = leb-true (outs_in e) 1 (and_l (leb (outs_in e) 1) _ (and_r (leb (ins_in e) 4) _ so))

  pub few_ins : ins_in e ≤ 4
  few_ins = leb-true (ins_in e) 4 (and_l (leb (ins_in e) 4) _ so)

  pub pure_out : 7 < number_of (role_no (role_in e)) → outs_in e ≡ 1
  pure_out h =
      let t : (not (ltb 7 (number_of (role_no (role_in e)))) || eqb (outs_in e) 1) ≡ true = and_l _ (not (ltb 8 (number_of (role_no (role_in e)))) || ltb 0 (ins_in e)) (and_r (leb (outs_in e) 1) _ (and_r (leb (ins_in e) 4) _ so)) in
      eqb-true (outs_in e) 1 (rw (lt-ltb 7 (number_of (role_no (role_in e))) h) at t)

  pub computing_in : is_computing (role_no (role_in e)) ≡ true → 0 < ins_in e
  computing_in h =
      let t : (not (ltb 8 (number_of (role_no (role_in e)))) || ltb 0 (ins_in e)) ≡ true = and_r (not (ltb 7 (number_of (role_no (role_in e)))) || eqb (outs_in e) 1) _ (and_r (leb (outs_in e) 1) _ (and_r (leb (ins_in e) 4) _ so)) in
      ltb-true 0 (ins_in e) (rw h at t)

pub none_else : (n : ℕ) → n ≤ 1 → (n ≡ 1 → ⊥) → n ≡ 0
none_else zero h k = refl
none_else (suc zero) h k = absurd (k refl)
none_else (suc (suc n)) h k = absurd (omega arith)
