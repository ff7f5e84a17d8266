-- A machine for blocks. A program is a list of ops, each seen through its view; no op kind is named here. Assumes nothing.
use Rattle.std.specs.Prelude.{ℕ, zero, suc, Bool, true, false, cond, List, [], ◌∷◌, eqb, Option, None, Some, is_some}
use Rattle.theory.specs.Sets.{upd}

-- what an access does: it faults, or gives the values of its outputs and the next memory
pub data Touch (Val Mem Flt : Type 0) : Type 0 where
  faults : Flt → Touch Val Mem Flt
  gives : List Val → Mem → Touch Val Mem Flt

-- whether a flow op goes its way: always, or when a test of the memory and its inputs' values holds; else it goes on with the next op
pub data When (Val Mem : Type 0) : Type 0 where
  always : When Val Mem
  when : (Mem → List Val → Bool) → When Val Mem

-- the way of a flow op: to a label, or out of the block
pub data Way (Val Out : Type 0) : Type 0 where
  to : ℕ → Way Val Out
  out : (List Val → Out) → Way Val Out

-- what the theory sees of an op: its outputs, its inputs, and what it does with the inputs' values.
-- calc: a pure op; none where no result is stated. access: a load or store. flow: a jump, a branch or an exit
pub data View (Val Mem Out Flt : Type 0) : Type 0 where
  calc : List ℕ → List ℕ → (List Val → Option (List Val)) → View Val Mem Out Flt
  access : List ℕ → List ℕ → (Mem → List Val → Touch Val Mem Flt) → View Val Mem Out Flt
  label : ℕ → View Val Mem Out Flt
  flow : List ℕ → When Val Mem → Way Val Out → View Val Mem Out Flt

pub record Lang : Type 1 where
  pub Op : Type 0
  pub Val : Type 0
  pub Mem : Type 0
  pub Out : Type 0
  pub Flt : Type 0
  pub zero_v : Val
  pub view : Op → View Val Mem Out Flt

-- how a run ends: an exit with what it gives, a fault, an op without a stated result; past the last op; or out of steps
pub data End (Out Flt : Type 0) : Type 0 where
  exit : Out → End Out Flt
  fault : Flt → End Out Flt
  unstated : End Out Flt
  fell : End Out Flt
  spent : End Out Flt

pub record State (Val Mem : Type 0) : Type 0 where
  pub env : ℕ → Val
  pub mem : Mem

-- what one op does: it leaves a state to the next op, jumps, or ends the run (the last two change no state)
pub data Effect (Val Mem Out Flt : Type 0) : Type 0 where
  falls : State Val Mem → Effect Val Mem Out Flt
  jumps : ℕ → Effect Val Mem Out Flt
  stops : End Out Flt → Effect Val Mem Out Flt

abbrev pub head_or : {A : Type 0} → A → List A → A
head_or z [] = z
head_or z (v ∷ vs) = v

abbrev pub tail_of : {A : Type 0} → List A → List A
tail_of [] = []
tail_of (v ∷ vs) = vs

-- the values of the inputs
abbrev pub reads : {A : Type 0} → (ℕ → A) → List ℕ → List A
reads e [] = []
reads e (i ∷ is) = e i ∷ reads e is

-- the outputs written, in order
abbrev pub writes : {A : Type 0} → A → (ℕ → A) → List ℕ → List A → ℕ → A
writes z e [] vs = e
writes z e (o ∷ os) vs = writes z (upd e o (head_or z vs)) os (tail_of vs)

abbrev pub one_of : ℕ → Option ℕ → Bool
one_of k None = false
one_of k (Some l) = eqb l k

module _ {Val Mem Out Flt : Type 0} where
  abbrev pub inputs : View Val Mem Out Flt → List ℕ
  inputs (calc outs ins f) = ins
  inputs (access outs ins f) = ins
  inputs (label k) = []
  inputs (flow ins c y) = ins

  abbrev pub outputs : View Val Mem Out Flt → List ℕ
  outputs (calc outs ins f) = outs
  outputs (access outs ins f) = outs
  outputs (label k) = []
  outputs (flow ins c y) = []

  -- what a pure op computes
  abbrev pub computes : View Val Mem Out Flt → List Val → Option (List Val)
  computes (calc outs ins f) xs = f xs
  computes (access outs ins f) xs = None
  computes (label k) xs = None
  computes (flow ins c y) xs = None

  abbrev pub pure : View Val Mem Out Flt → Bool
  pure (calc outs ins f) = true
  pure (access outs ins f) = false
  pure (label k) = false
  pure (flow ins c y) = false

  -- no temporary and no known value outlives the op: it ends the extended basic block. "a temporary lives through an extended basic block,
  -- which a conditional branch does not end on its fall-through path"; an op that may leave the block ends it
  abbrev pub closes : View Val Mem Out Flt → Bool
  closes (calc outs ins f) = false
  closes (access outs ins f) = false
  closes (label k) = true
  closes (flow ins always y) = true
  closes (flow ins (when f) (to k)) = false
  closes (flow ins (when f) (out g)) = true

  -- the label to which it may jump
  abbrev pub target : View Val Mem Out Flt → Option ℕ
  target (calc outs ins f) = None
  target (access outs ins f) = None
  target (label k) = None
  target (flow ins c (to k)) = Some k
  target (flow ins c (out g)) = None

  abbrev pub label_of : View Val Mem Out Flt → Option ℕ
  label_of (calc outs ins f) = None
  label_of (access outs ins f) = None
  label_of (label k) = Some k
  label_of (flow ins c y) = None

  abbrev pub any_label : View Val Mem Out Flt → Bool
  any_label w = is_some (label_of w)

  abbrev pub is_label : ℕ → View Val Mem Out Flt → Bool
  is_label k w = one_of k (label_of w)

  abbrev pub after_calc : Val → List ℕ → State Val Mem → Option (List Val) → Effect Val Mem Out Flt
  after_calc z outs s None = stops unstated
  after_calc z outs s (Some vs) = falls (record { env = writes z s.env outs vs; mem = s.mem })

  abbrev pub after_access : Val → List ℕ → State Val Mem → Touch Val Mem Flt → Effect Val Mem Out Flt
  after_access z outs s (faults f) = stops (fault f)
  after_access z outs s (gives vs m) = falls (record { env = writes z s.env outs vs; mem = m })

  abbrev pub sent : Way Val Out → List Val → Effect Val Mem Out Flt
  sent (to k) xs = jumps k
  sent (out g) xs = stops (exit (g xs))

  abbrev pub effect : Val → View Val Mem Out Flt → State Val Mem → Effect Val Mem Out Flt
  effect z (calc outs ins f) s = after_calc z outs s (f (reads s.env ins))
  effect z (access outs ins f) s = after_access z outs s (f s.mem (reads s.env ins))
  effect z (label l) s = falls s
  effect z (flow ins always y) s = sent y (reads s.env ins)
  effect z (flow ins (when f) y) s = cond (f s.mem (reads s.env ins)) (sent y (reads s.env ins)) (falls s)

module _ (L : Lang) where
  abbrev pub St : Type 0
  St = State L.Val L.Mem

  abbrev pub Prog : Type 0
  Prog = List L.Op

  abbrev pub Viewed : Type 0
  Viewed = View L.Val L.Mem L.Out L.Flt

  abbrev pub Effects : Type 0
  Effects = Effect L.Val L.Mem L.Out L.Flt

-- a run's end, the state that the completed ops left, the number of ops run, and the ops from the one that ended it on
pub record Result (L : Lang) : Type 0 where
  pub end : End L.Out L.Flt
  pub state : St L
  pub count : ℕ
  pub left : Prog L

-- the op that exits or faults counts; the op without a stated result, and the one that is due when the run is out of steps, do not
abbrev pub cost : {Out Flt : Type 0} → End Out Flt → ℕ
cost (exit v) = 1
cost (fault f) = 1
cost unstated = 0
cost fell = 0
cost spent = 0

-- what one step comes to: the ops still to run and the state, or an end
pub data Move (L : Lang) : Type 0 where
  goes : Prog L → St L → Move L
  halts : End L.Out L.Flt → Move L

module _ (L : Lang) where
  -- from the label k on; nothing if there is none
  abbrev pub seek : ℕ → Prog L → Prog L
  seek k [] = []
  seek k (o ∷ r) = cond (is_label k (L.view o)) (o ∷ r) (seek k r)

  -- b: the block, in which a jump lands
  abbrev pub moved : Prog L → Prog L → St L → Effects L → Move L
  moved b r s (falls t) = goes r t
  moved b r s (jumps k) = goes (seek k b) s
  moved b r s (stops e) = halts e

  abbrev pub step : Prog L → Prog L → St L → Move L
  step b [] s = halts fell
  step b (o ∷ r) s = moved b r s (effect L.zero_v (L.view o) s)

  abbrev pub ended : End L.Out L.Flt → Prog L → St L → Result L
  ended e r s = record { end = e; state = s; count = cost e; left = r }

  abbrev pub counted : Result L → Result L
  counted r = record { end = r.end; state = r.state; count = suc r.count; left = r.left }

  abbrev pub after : (Prog L → St L → Result L) → Prog L → St L → Move L → Result L
  after go r s (goes q t) = counted (go q t)
  after go r s (halts e) = ended e r s

  -- a run of at most n steps, from r on in the block b
  abbrev pub run : Prog L → ℕ → Prog L → St L → Result L
  run b zero r s = ended spent r s
  run b (suc n) r s = after (run b n) r s (step b r s)

  -- a run of the whole block, of at most n steps
  abbrev pub runs : ℕ → Prog L → St L → Result L
  runs n b s = run b n b s
