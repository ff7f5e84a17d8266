-- A run of one program follows a run of another. Assumes nothing.
use mathlib.Core.Path.{◌≡◌, refl, ap}
use mathlib.Core.Bool.{Bool, true, false, cond, ◌&&◌, false≢true}
use Rattle.std.specs.Prelude.{Option, None, Some}
use mathlib.Core.List.{List}
use Prim.Native.Nat.{ℕ, zero, suc, ◌≤◌}
use native.Mathlib.Omega.{arith}
use borrow.Author.Tests.{eq-eqb}
use Rattle.theory.specs.Machine.{Touch, faults, gives, When, always, when, to, out, View, calc, access, label, flow, Lang}
use Rattle.theory.specs.Machine.{End, exit, fault, unstated, fell, spent, State, Effect, falls, jumps, stops, reads, one_of, target}
use Rattle.theory.specs.Machine.{after_calc, after_access, effect, St, Prog, Result, Move, goes, halts, step, counted, after, run}
use Rattle.theory.proofs.Sets.{and_l}

-- the run did not use up its steps; it met no op without a stated result; neither
abbrev pub unspent : {Out Flt : Type 0} → End Out Flt → Bool
unspent (exit v) = true
unspent (fault f) = true
unspent unstated = true
unspent fell = true
unspent spent = false

abbrev pub stated : {Out Flt : Type 0} → End Out Flt → Bool
stated (exit v) = true
stated (fault f) = true
stated unstated = false
stated fell = true
stated spent = true

abbrev pub definite : {Out Flt : Type 0} → End Out Flt → Bool
definite e = unspent e && stated e

-- how a step of the first program is followed in the second
pub data Follows (L : Lang) (b b' : Prog L) (R : Prog L → St L → Prog L → St L → Type 0) (Same : St L → St L → Type 0) (r : Prog L) (s : St L) (r' : Prog L) (s' : St L) : Type 0 where
  drops : {q : Prog L} {t : St L} → step L b r s ≡ goes q t → R q t r' s' → Follows L b b' R Same r s r' s'
  moves : {q : Prog L} {t : St L} {q' : Prog L} {t' : St L} → step L b r s ≡ goes q t → step L b' r' s' ≡ goes q' t' → R q t q' t' → Follows L b b' R Same r s r' s'
  ends : {e : End L.Out L.Flt} → step L b r s ≡ halts e → step L b' r' s' ≡ halts e → Same s s' → Follows L b b' R Same r s r' s'
  open_end : step L b r s ≡ halts unstated → Follows L b b' R Same r s r' s'

abbrev pub not_fell : {Out Flt : Type 0} → End Out Flt → Bool
not_fell (exit v) = true
not_fell (fault f) = true
not_fell unstated = true
not_fell fell = false
not_fell spent = true

-- one of the three endings
abbrev pub proper : {Out Flt : Type 0} → End Out Flt → Bool
proper e = not_fell e && unspent e

module _ {Val Mem Out Flt : Type 0} where
  -- the op may go on with the next; it may jump to the label k
  abbrev pub goes_on : View Val Mem Out Flt → Bool
  goes_on (calc outs ins f) = true
  goes_on (access outs ins f) = true
  goes_on (label k) = true
  goes_on (flow ins always y) = false
  goes_on (flow ins (when f) y) = true

  abbrev pub is_jump : ℕ → View Val Mem Out Flt → Bool
  is_jump k w = one_of k (target w)

  -- what an effect says of the op
  abbrev pub Says : View Val Mem Out Flt → Effect Val Mem Out Flt → Type 0
  Says w (falls t) = goes_on w ≡ true
  Says w (jumps k) = is_jump k w ≡ true
  Says w (stops e) = proper e ≡ true

  pub says : (z : Val) (w : View Val Mem Out Flt) (s : State Val Mem) → Says w (effect z w s)
  says z (calc outs ins f) s = go (f (reads s.env ins))
    where
      go : (x : Option (List Val)) → Says (calc outs ins f) (after_calc z outs s x)
      go None = refl
      go (Some vs) = refl
  says z (access outs ins f) s = go (f s.mem (reads s.env ins))
    where
      go : (x : Touch Val Mem Flt) → Says (access outs ins f) (after_access z outs s x)
      go (faults x) = refl
      go (gives vs m) = refl
  says z (label k) s = refl
  says z (flow ins c (to k)) s = by c
    where
      by : (c : When Val Mem) → Says (flow ins c (to k)) (effect z (flow ins c (to k)) s)
      by always = eq-eqb k k refl
      by (when f) = go (f s.mem (reads s.env ins))
        where
          go : (x : Bool) → Says (flow ins (when f) (to k)) (cond x (jumps k) (falls s))
          go true = eq-eqb k k refl
          go false = refl
  says z (flow ins c (out g)) s = by c
    where
      by : (c : When Val Mem) → Says (flow ins c (out g)) (effect z (flow ins c (out g)) s)
      by always = refl
      by (when f) = go (f s.mem (reads s.env ins))
        where
          go : (x : Bool) → Says (flow ins (when f) (out g)) (cond x (stops (exit (g (reads s.env ins)))) (falls s))
          go true = refl
          go false = refl

module _ (L : Lang) where
  pub record Matches (Same : St L → St L → Type 0) (a b : Result L) : Type 0 where
    pub end : b.end ≡ a.end
    pub state : Same a.state b.state
    pub count : b.count ≤ a.count

  -- more steps change no run that is not out of them
  more_after : (b : Prog L) (n : ℕ) → ((q : Prog L) (t : St L) → unspent (run L b n q t).end ≡ true → run L b (suc n) q t ≡ run L b n q t)
      → (r : Prog L) (s : St L) (m : Move L) → unspent (after L (run L b n) r s m).end ≡ true
      → after L (run L b (suc n)) r s m ≡ after L (run L b n) r s m
  more_after b n ih r s (goes q t) h = ap (counted L) (ih q t h)
  more_after b n ih r s (halts e) h = refl

  pub more : (b : Prog L) (n : ℕ) (r : Prog L) (s : St L) → unspent (run L b n r s).end ≡ true → run L b (suc n) r s ≡ run L b n r s
  more b zero r s h = absurd (false≢true h)
  more b (suc n) r s h = more_after b n (more b n) r s (step L b r s) h

  -- two runs within their limits are the same
  same_after : (b : Prog L) (m n : ℕ) → ((q : Prog L) (t : St L) → unspent (run L b m q t).end ≡ true → unspent (run L b n q t).end ≡ true → run L b m q t ≡ run L b n q t)
      → (r : Prog L) (s : St L) (x : Move L) → unspent (after L (run L b m) r s x).end ≡ true → unspent (after L (run L b n) r s x).end ≡ true
      → after L (run L b m) r s x ≡ after L (run L b n) r s x
  same_after b m n ih r s (goes q t) h h' = ap (counted L) (ih q t h h')
  same_after b m n ih r s (halts e) h h' = refl

  pub same_run : (b : Prog L) (m n : ℕ) (r : Prog L) (s : St L) → unspent (run L b m r s).end ≡ true → unspent (run L b n r s).end ≡ true → run L b m r s ≡ run L b n r s
  same_run b zero n r s h h' = absurd (false≢true h)
  same_run b (suc m) zero r s h h' = absurd (false≢true h')
  same_run b (suc m) (suc n) r s h h' = same_after b m n (same_run b m n) r s (step L b r s) h h'

  module _ (b b' : Prog L) (R : Prog L → St L → Prog L → St L → Type 0) (Same : St L → St L → Type 0)
      (local : (r : Prog L) (s : St L) (r' : Prog L) (s' : St L) → R r s r' s' → Follows L b b' R Same r s r' s') where
    follow : (n : ℕ) (r : Prog L) (s : St L) (r' : Prog L) (s' : St L)
        → ((q : Prog L) (t : St L) (q' : Prog L) (t' : St L) → R q t q' t' → definite (run L b n q t).end ≡ true → Matches Same (run L b n q t) (run L b' n q' t'))
        → Follows L b b' R Same r s r' s' → definite (run L b (suc n) r s).end ≡ true
        → Matches Same (run L b (suc n) r s) (run L b' (suc n) r' s')
    follow n r s r' s' ih (drops {q = q} {t = t} e x) h =
        let h₁ : definite (run L b n q t).end ≡ true = rw e at h in
        let m : Matches Same (run L b n q t) (run L b' n r' s') = ih q t r' s' x h₁ in
        let y : definite (run L b' n r' s').end ≡ true = rw m.end h₁ in
        let k : run L b' (suc n) r' s' ≡ run L b' n r' s' = more b' n r' s' (and_l (unspent (run L b' n r' s').end) (stated (run L b' n r' s').end) y) in
        rw (k, e) (record { end = m.end; state = m.state; count = omega (arith, m.count) })
    follow n r s r' s' ih (moves {q = q} {t = t} {q' = q'} {t' = t'} e e' x) h =
        let h₁ : definite (run L b n q t).end ≡ true = rw e at h in
        let m : Matches Same (run L b n q t) (run L b' n q' t') = ih q t q' t' x h₁ in
        rw (e, e') (record { end = m.end; state = m.state; count = omega (arith, m.count) })
    follow n r s r' s' ih (ends e e' x) h = rw (e, e') (record { end = refl; state = x; count = omega arith })
    follow n r s r' s' ih (open_end e) h = let z : false ≡ true = rw e at h in absurd (false≢true z)

    pub simulates : (n : ℕ) (r : Prog L) (s : St L) (r' : Prog L) (s' : St L) → R r s r' s' → definite (run L b n r s).end ≡ true
        → Matches Same (run L b n r s) (run L b' n r' s')
    simulates zero r s r' s' x h = absurd (false≢true h)
    simulates (suc n) r s r' s' x h = follow n r s r' s' (simulates n) (local r s r' s' x) h
