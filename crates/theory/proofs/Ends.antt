-- Where every op that may go on has an op after it, and every jump lands, no run comes past the last op;
-- where jumps go forward too, a step for each op is enough. Assumes nothing.
use mathlib.Core.Path.{◌≡◌, refl}
use mathlib.Core.Bool.{Bool, true, false, cond}
use mathlib.Core.List.{[], ◌∷◌}
use Prim.Native.Nat.{ℕ, zero, suc, ◌≤◌, ◌<◌}
use native.Mathlib.Omega.{arith}
use lib.ListN.{length}
use Rattle.theory.specs.Machine.{Lang, falls, jumps, stops, is_label, effect, St, Prog, Effects, seek, moved, after, run, runs}
use Rattle.theory.proofs.Sets.{and_l, and_r, and_i}
use Rattle.theory.proofs.Simulation.{unspent, not_fell, proper, goes_on, is_jump, Says, says}

-- Due r: an op is due at r, and so it goes on
pub record Grounded (L : Lang) (b : Prog L) (Due : Prog L → Type 0) : Type 0 where
  pub some_op : Due [] → ⊥
  pub next_op : (o : L.Op) (r : Prog L) → Due (o ∷ r) → goes_on (L.view o) ≡ true → Due r
  pub landed : (o : L.Op) (r : Prog L) (k : ℕ) → Due (o ∷ r) → is_jump k (L.view o) ≡ true → Due (seek L k b)

seek_length : (L : Lang) (k : ℕ) (r : Prog L) → length (seek L k r) ≤ length r
seek_length L k [] = omega arith
seek_length L k (o ∷ r) = go (is_label k (L.view o)) (seek_length L k r)
  where
    go : (x : Bool) → length (seek L k r) ≤ length r → length (cond x (o ∷ r) (seek L k r)) ≤ length (o ∷ r)
    go true h = omega arith
    go false h = omega arith

module _ (L : Lang) (b : Prog L) (Due : Prog L → Type 0) (g : Grounded L b Due) where
  after_ends : (n : ℕ) → ((r : Prog L) (s : St L) → Due r → not_fell (run L b n r s).end ≡ true) → (o : L.Op) (r : Prog L) (s : St L) → Due (o ∷ r)
      → (x : Effects L) → Says (L.view o) x → not_fell (after L (run L b n) (o ∷ r) s (moved L b r s x)).end ≡ true
  after_ends n ih o r s d (falls t) h = ih r t (g.next_op o r d h)
  after_ends n ih o r s d (jumps k) h = ih (seek L k b) s (g.landed o r k d h)
  after_ends n ih o r s d (stops e) h = and_l (not_fell e) (unspent e) h

  -- the run exits, faults, meets an op without a stated result or is out of steps
  pub never_falls : (n : ℕ) (r : Prog L) (s : St L) → Due r → not_fell (run L b n r s).end ≡ true
  never_falls zero r s d = refl
  never_falls (suc n) [] s d = absurd (g.some_op d)
  never_falls (suc n) (o ∷ r) s d = after_ends n (never_falls n) o r s d (effect L.zero_v (L.view o) s) (says L.zero_v (L.view o) s)

  -- "Jumps go forward only": where a label is sought in the whole block, it is found in what is left
  module _ (forward : (o : L.Op) (r : Prog L) (k : ℕ) → Due (o ∷ r) → is_jump k (L.view o) ≡ true → seek L k b ≡ seek L k r) where
    after_enough : (n : ℕ) → ((r : Prog L) (s : St L) → Due r → length r < n → unspent (run L b n r s).end ≡ true) → (o : L.Op) (r : Prog L) (s : St L) → Due (o ∷ r) → length r < n
        → (x : Effects L) → Says (L.view o) x → unspent (after L (run L b n) (o ∷ r) s (moved L b r s x)).end ≡ true
    after_enough n ih o r s d l (falls t) h = ih r t (g.next_op o r d h) l
    after_enough n ih o r s d l (jumps k) h =
        let e : length (seek L k b) ≤ length r = rw (forward o r k d h) (seek_length L k r) in
        ih (seek L k b) s (g.landed o r k d h) (omega (arith, e))
    after_enough n ih o r s d l (stops e) h = and_r (not_fell e) (unspent e) h

    enough : (n : ℕ) (r : Prog L) (s : St L) → Due r → length r < n → unspent (run L b n r s).end ≡ true
    enough zero r s d l = absurd (omega arith)
    enough (suc n) [] s d l = absurd (g.some_op d)
    enough (suc n) (o ∷ r) s d l = after_enough n (enough n) o r s d (omega arith) (effect L.zero_v (L.view o) s) (says L.zero_v (L.view o) s)

    pub ends_properly : (s : St L) → Due b → proper (runs L (suc (length b)) b s).end ≡ true
    ends_properly s d =
        let e = (runs L (suc (length b)) b s).end in
        and_i (not_fell e) (unspent e) (never_falls (suc (length b)) b s d) (enough (suc (length b)) b s d (omega arith))
