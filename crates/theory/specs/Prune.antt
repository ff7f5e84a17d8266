-- Liveness and prune. Assumes nothing.
use Rattle.std.specs.Prelude.{Bool, false, cond, ◌&&◌, ◌≡◌, ℕ, [], ◌∷◌}
use Rattle.theory.specs.Machine.{always, when, Way, to, out, View, calc, access, label, flow, Lang, Prog, outputs, pure, closes}
use Rattle.theory.specs.Sets.{Vars, without, plus, both, none_in}

module _ {Val Mem Out Flt : Type 0} where
  -- "A pure op is dropped when its output is dead, that is, not live after it"
  abbrev pub dead : View Val Mem Out Flt → Vars → Bool
  dead w l = pure w && none_in (outputs w) l

-- what is live where a way leads. glob: the globals, which are live where it leads out; t k: what is live at the label k
abbrev pub there : {Val Out : Type 0} → Vars → Way Val Out → (ℕ → Vars) → Vars
there glob (to k) t = t k
there glob (out g) t = glob

module _ {Val Mem Out Flt : Type 0} (glob : Vars) where
  -- what a kept op needs to be live just before it, from what is live after it (l) and at the labels (t); an access that faults shows all globals
  abbrev pub need : View Val Mem Out Flt → Vars → (ℕ → Vars) → Vars
  need (calc outs ins f) l t = plus (without l outs) ins
  need (access outs ins f) l t = plus (both glob (without l outs)) ins
  need (label k) l t = l
  need (flow ins always y) l t = plus (there glob y t) ins
  need (flow ins (when f) y) l t = plus (both (there glob y t) l) ins

  -- what is live just before a kept op. kept: the globals and local temporaries, which are live at a label and where an extended basic
  -- block ends. "exit_tb: all globals, and its operand"; "br and set_label: all globals and local temporaries"; "Just before brcond, what is
  -- live is all globals and local temporaries, its operands, and the temporaries live after it";
  -- "load or store: what was live after it less a load's output, then all globals, then its inputs";
  -- "pure op: what was live after it less its output, then its inputs"
  abbrev pub before : Vars → View Val Mem Out Flt → Vars → Vars
  before kept w l = need w (cond (closes w) kept l) (λ k. kept)

-- the ops that are not dead, by any note of what is live before the ops that are left
abbrev pub prune_by : (L : Lang) → (Prog L → Vars) → Prog L → Prog L
prune_by L note [] = []
prune_by L note (o ∷ r) = cond (dead (L.view o) (note r)) (prune_by L note r) (o ∷ prune_by L note r)

-- no pure op is dead, by such a note
abbrev pub AllUsed : (L : Lang) → (Prog L → Vars) → Prog L → Type 0
AllUsed L note [] = Unit {0}
AllUsed L note (o ∷ r) = (dead (L.view o) (note r) ≡ false) × AllUsed L note r

module _ (L : Lang) (glob kept : Vars) where
  -- what is live before the first op; an op that is dropped "makes nothing live"
  abbrev pub live : Prog L → Vars
  live [] = glob
  live (o ∷ r) = cond (dead (L.view o) (live r)) (live r) (before glob kept (L.view o) (live r))

  abbrev pub prune : Prog L → Prog L
  prune r = prune_by L live r

  -- what is live by the list, "read with every op of the result kept"
  abbrev pub live_all : Prog L → Vars
  live_all [] = glob
  live_all (o ∷ r) = before glob kept (L.view o) (live_all r)
