-- Prune by any note of what is live that covers what the ops need: what is kept does what the block did. Assumes nothing.
use mathlib.Core.Path.{◌≡◌, refl, ap, ap₂, ◌∙◌}
use mathlib.Core.Bool.{Bool, true, false, cond, not, false≢true}
use Rattle.std.specs.Prelude.{Option, None, Some}
use mathlib.Core.List.{List, [], ◌∷◌}
use mathlib.Core.Logic.{◌⊎◌, inl, inr}
use Prim.Native.Nat.{ℕ}
use Rattle.theory.specs.Machine.{Touch, faults, gives, always, when, Way, to, out, calc, access, label, flow, Lang, End, exit}
use Rattle.theory.specs.Machine.{fault, unstated, State, falls, jumps, stops, reads, writes, inputs, outputs, closes, is_label}
use Rattle.theory.specs.Machine.{after_calc, after_access, sent, effect, St, Prog, Viewed, Effects, seek, moved, step, runs}
use Rattle.theory.specs.Prune.{dead, there, need, prune_by}
use Rattle.theory.specs.Sets.{Vars, has, without, both}
use Rattle.theory.proofs.Sets.{or_l, or_r, and_i, tell, dead_out, writes_other, writes_both, reads_same}
use Rattle.theory.proofs.Simulation.{definite, Follows, drops, moves, ends, open_end, Matches, simulates}
use Rattle.theory.proofs.Views.{globals_shown, label_stays}

module _ {Val Mem : Type 0} (z : Val) where
  -- two states that agree on the variables of a set
  pub record Agree (l : Vars) (s t : State Val Mem) : Type 0 where
    pub vars : (v : ℕ) → l v ≡ true → s.env v ≡ t.env v
    pub mem : s.mem ≡ t.mem

  pub agree_less : {l : Vars} {s t : State Val Mem} (k : Vars) → Agree l s t → ((v : ℕ) → k v ≡ true → l v ≡ true) → Agree k s t
  agree_less k a h = record { vars = λ v q. a.vars v (h v q); mem = a.mem }

  -- two environments that agree before the writes agree after them
  pub agree_writes : (l : Vars) (outs : List ℕ) (vs : List Val) (s s' : State Val Mem) (m m' : Mem) → m ≡ m'
      → ((v : ℕ) → without l outs v ≡ true → s.env v ≡ s'.env v)
      → Agree l (record { env = writes z s.env outs vs; mem = m }) (record { env = writes z s'.env outs vs; mem = m' })
  agree_writes l outs vs s s' m m' e h =
      record {
        vars = λ v q. writes_both z s.env s'.env outs vs v (λ k. h v (and_i (not (has outs v)) (l v) (ap not k) q));
        mem = e;
      }

-- prune keeps the labels
pub seek_prune : (L : Lang) (note : Prog L → Vars) (k : ℕ) (r : Prog L) → seek L k (prune_by L note r) ≡ prune_by L note (seek L k r)
seek_prune L note k [] = refl
seek_prune L note k (o ∷ r) = go (tell (is_label k (L.view o))) (tell (dead (L.view o) (note r))) (seek_prune L note k r)
  where
    go : (is_label k (L.view o) ≡ true) ⊎ (is_label k (L.view o) ≡ false) → (dead (L.view o) (note r) ≡ true) ⊎ (dead (L.view o) (note r) ≡ false)
        → seek L k (prune_by L note r) ≡ prune_by L note (seek L k r) → seek L k (prune_by L note (o ∷ r)) ≡ prune_by L note (seek L k (o ∷ r))
    go (inl e) x ih = let d : dead (L.view o) (note r) ≡ false = label_stays k (L.view o) (note r) e in rw (e, d, e)
    go (inr e) (inl d) ih = rw (e, d) ih
    go (inr e) (inr d) ih = rw (e, d, e) ih

-- what a note of what is live has: the inputs of a kept op are live before it, and what is live after an op is live before it,
-- unless a kept op writes it or ends the extended basic block
pub record Keeps (L : Lang) (note : Prog L → Vars) : Type 0 where
  pub in_live : (o : L.Op) (r : Prog L) (v : ℕ) → dead (L.view o) (note r) ≡ false → has (inputs (L.view o)) v ≡ true → note (o ∷ r) v ≡ true
  pub on_live : (o : L.Op) (r : Prog L) (v : ℕ) → dead (L.view o) (note r) ≡ false → closes (L.view o) ≡ false → has (outputs (L.view o)) v ≡ false → note r v ≡ true → note (o ∷ r) v ≡ true
  pub drop_live : (o : L.Op) (r : Prog L) (v : ℕ) → dead (L.view o) (note r) ≡ true → note r v ≡ true → note (o ∷ r) v ≡ true

module _ (L : Lang) (glob : Vars) (note : Prog L → Vars) (b : Prog L) where
  -- what must be live before an op: what it needs, and of a dropped one, what is live after it
  abbrev pub asks : L.Op → Prog L → Vars
  asks o r = cond (dead (L.view o) (note r)) (note r) (need glob (L.view o) (note r) (λ k. note (seek L k b)))

  -- P holds of each rest that a run of the block b can come to
  pub record Covers (P : Prog L → Type 0) : Type 0 where
    pub stop : (v : ℕ) → glob v ≡ true → note [] v ≡ true
    pub holds : (o : L.Op) (r : Prog L) → P (o ∷ r) → (v : ℕ) → asks o r v ≡ true → note (o ∷ r) v ≡ true
    pub rest : (o : L.Op) (r : Prog L) → P (o ∷ r) → P r
    pub dest : (k : ℕ) → P (seek L k b)

  abbrev left : Prog L
  left = prune_by L note b

  module _ (P : Prog L → Type 0) (ok : Covers P) where
    z : L.Val
    z = L.zero_v

    pub record Pruned (r : Prog L) (s : St L) (r' : Prog L) (s' : St L) : Type 0 where
      pub prog : r' ≡ prune_by L note r
      pub agree : Agree L.zero_v (note r) s s'
      pub inv : P r

    -- the two states agree on what the op needs; what then
    goal : L.Op → Prog L → St L → St L → Effects L → Effects L → Type 0
    goal o r s s' e e' = P (o ∷ r) → step L b (o ∷ r) s ≡ moved L b r s e → step L left (o ∷ prune_by L note r) s' ≡ moved L left (prune_by L note r) s' e'
        → Follows L b left Pruned (Agree L.zero_v glob) (o ∷ r) s (o ∷ prune_by L note r) s'

    to_next : (o : L.Op) (r : Prog L) (s s' t t' : St L) → Agree L.zero_v (note r) t t' → goal o r s s' (falls t) (falls t')
    unfolding goal
    to_next o r s s' t t' a p e e' = moves e e' (record { prog = refl; agree = a; inv = ok.rest o r p })

    to_dest : (o : L.Op) (r : Prog L) (s s' : St L) (k : ℕ) → Agree L.zero_v (note (seek L k b)) s s' → goal o r s s' (jumps k) (jumps k)
    unfolding goal
    to_dest o r s s' k a p e e' = moves e e' (record { prog = seek_prune L note k b; agree = a; inv = ok.dest k })

    to_end : (o : L.Op) (r : Prog L) (s s' : St L) (x : End L.Out L.Flt) → Agree L.zero_v glob s s' → goal o r s s' (stops x) (stops x)
    unfolding goal
    to_end o r s s' x a p e e' = ends e e' a

    to_open : (o : L.Op) (r : Prog L) (s s' : St L) → goal o r s s' (stops unstated) (stops unstated)
    unfolding goal
    to_open o r s s' p e e' = open_end e

    sends : (y : Way L.Val L.Out) (xs : List L.Val) (o : L.Op) (r : Prog L) (s s' : St L) → Agree L.zero_v (there glob y (λ k. note (seek L k b))) s s'
        → goal o r s s' (sent y xs) (sent y xs)
    sends (to k) xs o r s s' a = to_dest o r s s' k a
    sends (out g) xs o r s s' a = to_end o r s s' (exit (g xs)) a

    keeps : (w : Viewed L) (o : L.Op) (r : Prog L) (s s' : St L) → Agree L.zero_v (need glob w (note r) (λ k. note (seek L k b))) s s'
        → goal o r s s' (effect L.zero_v w s) (effect L.zero_v w s')
    keeps (calc outs ins f) o r s s' a =
        rw (reads_same s.env s'.env ins (λ v q. a.vars v (or_l (has ins v) (without (note r) outs v) q))) (go (f (reads s'.env ins)))
      where
        go : (y : Option (List L.Val)) → goal o r s s' (after_calc L.zero_v outs s y) (after_calc L.zero_v outs s' y)
        go None = to_open o r s s'
        go (Some vs) =
            to_next o r s s' _ _
            (agree_writes L.zero_v (note r) outs vs s s' s.mem s'.mem a.mem (λ v q. a.vars v (or_r (has ins v) (without (note r) outs v) q)))
    keeps (access outs ins f) o r s s' a = rw same (go (f s'.mem (reads s'.env ins)))
      where
        same : f s.mem (reads s.env ins) ≡ f s'.mem (reads s'.env ins)
        same = ap₂ f a.mem (reads_same s.env s'.env ins (λ v q. a.vars v (or_l (has ins v) (both glob (without (note r) outs) v) q)))

        go : (y : Touch L.Val L.Mem L.Flt) → goal o r s s' (after_access L.zero_v outs s y) (after_access L.zero_v outs s' y)
        go (faults y) =
            to_end o r s s' (fault y)
            (agree_less L.zero_v glob a (λ v q. globals_shown L.Val L.Mem L.Out L.Flt glob outs ins f (note r) (λ k. note (seek L k b)) v q))
        go (gives vs m) =
            to_next o r s s' _ _
            (agree_writes L.zero_v (note r) outs vs s s' m m refl
            (λ v q. a.vars v (or_r (has ins v) (both glob (without (note r) outs) v) (or_r (glob v) (without (note r) outs v) q))))
    keeps (label k) o r s s' a = to_next o r s s' s s' a
    keeps (flow ins always y) o r s s' a =
        rw (reads_same s.env s'.env ins (λ v q. a.vars v (or_l (has ins v) (there glob y t v) q)))
        (sends y (reads s'.env ins) o r s s' (agree_less L.zero_v (there glob y t) a (λ v q. or_r (has ins v) (there glob y t v) q)))
      where
        t : ℕ → Vars
        t k = note (seek L k b)
    keeps (flow ins (when f) y) o r s s' a =
        rw (reads_same s.env s'.env ins (λ v q. a.vars v (or_l (has ins v) (both (there glob y t) (note r) v) q)), ap (λ (m : L.Mem). f m (reads s'.env ins)) a.mem) (go (f s'.mem (reads s'.env ins)))
      where
        t : ℕ → Vars
        t k = note (seek L k b)

        rest : Agree L.zero_v (both (there glob y t) (note r)) s s'
        rest = agree_less L.zero_v (both (there glob y t) (note r)) a (λ v q. or_r (has ins v) (both (there glob y t) (note r) v) q)

        go : (x : Bool) → goal o r s s' (cond x (sent y (reads s'.env ins)) (falls s)) (cond x (sent y (reads s'.env ins)) (falls s'))
        go true = sends y (reads s'.env ins) o r s s' (agree_less L.zero_v (there glob y t) rest (λ v q. or_l (there glob y t v) (note r v) q))
        go false = to_next o r s s' s s' (agree_less L.zero_v (note r) rest (λ v q. or_r (there glob y t v) (note r v) q))

    skips : (w : Viewed L) (o : L.Op) (r : Prog L) (s s' : St L) → dead w (note r) ≡ true
        → Agree L.zero_v (note r) s s' → P (o ∷ r) → step L b (o ∷ r) s ≡ moved L b r s (effect L.zero_v w s)
        → Follows L b left Pruned (Agree L.zero_v glob) (o ∷ r) s (prune_by L note r) s'
    skips (calc outs ins f) o r s s' x a p e = go (f (reads s.env ins)) e
      where
        go : (y : Option (List L.Val)) → step L b (o ∷ r) s ≡ moved L b r s (after_calc L.zero_v outs s y)
            → Follows L b left Pruned (Agree L.zero_v glob) (o ∷ r) s (prune_by L note r) s'
        go None q = open_end q
        go (Some vs) q =
            drops q
            (record {
              prog = refl;
              agree = record { vars = λ v k. writes_other L.zero_v s.env outs vs v (dead_out outs (note r) v x k) ∙ a.vars v k; mem = a.mem };
              inv = ok.rest o r p;
            })
    skips (access outs ins f) o r s s' x a p e = absurd (false≢true x)
    skips (label k) o r s s' x a p e = absurd (false≢true x)
    skips (flow ins c y) o r s s' x a p e = absurd (false≢true x)

    at_prune : (r : Prog L) (s s' : St L) → Agree L.zero_v (note r) s s' → P r → Follows L b left Pruned (Agree L.zero_v glob) r s (prune_by L note r) s'
    unfolding goal
    at_prune [] s s' a p = ends refl refl (agree_less L.zero_v glob a ok.stop)
    at_prune (o ∷ r) s s' a p = go (tell (dead (L.view o) (note r)))
      where
        a₁ : Agree L.zero_v (asks o r) s s'
        a₁ = agree_less L.zero_v (asks o r) a (ok.holds o r p)

        go : (dead (L.view o) (note r) ≡ true) ⊎ (dead (L.view o) (note r) ≡ false) → Follows L b left Pruned (Agree L.zero_v glob) (o ∷ r) s (prune_by L note (o ∷ r)) s'
        go (inl x) = rw x (skips (L.view o) o r s s' x (rw x at a₁) p refl)
        go (inr x) = rw x (keeps (L.view o) o r s s' (rw x at a₁) p refl refl)

    follows : (r : Prog L) (s : St L) (r' : Prog L) (s' : St L) → Pruned r s r' s' → Follows L b left Pruned (Agree L.zero_v glob) r s r' s'
    follows r s r' s' x = rw x.prog (at_prune r s s' x.agree x.inv)

    pub prune_by_right : (n : ℕ) (s : St L) → P b → definite (runs L n b s).end ≡ true → Matches L (Agree L.zero_v glob) (runs L n b s) (runs L n left s)
    prune_by_right n s p x =
        simulates L b left Pruned (Agree L.zero_v glob) follows n b s left s (record { prog = refl; agree = record { vars = λ v q. refl; mem = refl }; inv = p }) x
