-- Fold: ops whose inputs are known become constants. Assumes nothing.
use Rattle.std.specs.Prelude.{ℕ, ◌≡◌, Bool, true, false, cond, List, [], ◌∷◌, Option, None, Some, option_map, option_and_then}
use Rattle.theory.specs.Machine.{View, Lang, Prog, writes, reads, head_or, inputs, outputs, computes, closes, any_label}
use Rattle.theory.specs.Sets.{Vars}
use Rattle.theory.specs.Prune.{prune}

-- the values that are known
abbrev pub Known : Type 0 → Type 0
Known Val = ℕ → Option Val

abbrev pub nothing : {Val : Type 0} → Known Val
nothing v = None

-- what fold puts in an op's place: an op; no op; or an op after which all up to the next label is dropped
pub data Rewrite (Op : Type 0) : Type 0 where
  put : Op → Rewrite Op
  omit : Rewrite Op
  cut : Op → Rewrite Op

-- fold reads on with what is known, or drops up to the next label
pub data Mode (Val : Type 0) : Type 0 where
  on : Known Val → Mode Val
  off : Mode Val

abbrev pub somes : {Val : Type 0} → List Val → List (Option Val)
somes [] = []
somes (v ∷ vs) = Some v ∷ somes vs

abbrev pub given : {Val : Type 0} → Option (List Val) → List (Option Val)
given None = []
given (Some vs) = somes vs

-- the values that an op is known to write: those of a constant, which reads nothing
abbrev pub gain : {Val : Type 0} → List ℕ → (List Val → Option (List Val)) → List (Option Val)
gain [] f = given (f [])
gain (i ∷ is) f = []

module _ {Val Mem Out Flt : Type 0} where
  -- what is known after an op: "the values written by movi or by folded ops in this" extended basic block. "The output of any op that is
  -- neither a movi nor so folded becomes unknown. Nothing is known at the start or after set_label, br" or exit_tb; brcond "keeps both",
  -- temporaries and known values, "for the next op"
  abbrev pub learned : Known Val → View Val Mem Out Flt → Known Val
  learned k w = cond (closes w) nothing (writes None k (outputs w) (gain (inputs w) (computes w)))

-- a rule gives, from what is known and an op, what to put in its place
abbrev pub Rule : Lang → Type 0
Rule L = Known L.Val → L.Op → Rewrite L.Op

module _ (L : Lang) (rule : Rule L) where
  abbrev pub emit : Known L.Val → (Mode L.Val → Prog L) → Rewrite L.Op → Prog L
  emit k go (put o) = o ∷ go (on (learned k (L.view o)))
  emit k go omit = go (on k)
  emit k go (cut o) = o ∷ go off

  abbrev pub resume : L.Op → (Mode L.Val → Prog L) → Bool → Prog L
  resume o go true = o ∷ go (on nothing)
  resume o go false = go off

  -- "Fold reads forward."
  abbrev pub fold : Prog L → Mode L.Val → Prog L
  fold [] m = []
  fold (o ∷ r) (on k) = emit k (fold r) (rule k o)
  fold (o ∷ r) off = resume o (fold r) (any_label (L.view o))

  abbrev pub pass : Vars → Vars → Prog L → Prog L
  pass glob kept b = prune L glob kept (fold b (on nothing))

  -- "Folding could replace an op of the result if fold, reading the result from its first op, would do so." Here it leaves each op as it is
  abbrev pub Still : Prog L → Known L.Val → Type 0
  Still [] k = Unit {0}
  Still (o ∷ r) k = (rule k o ≡ put o) × Still r (learned k (L.view o))

-- which ops may fold, and the constant that takes an op's place
pub record Folding (L : Lang) : Type 0 where
  pub foldable : L.Op → Bool
  pub const : L.Op → L.Val → L.Op

-- the inputs' values, if all are known
abbrev pub all_known : {Val : Type 0} → List (Option Val) → Option (List Val)
all_known [] = Some []
all_known (None ∷ ks) = None
all_known (Some v ∷ ks) = option_map (λ vs. v ∷ vs) (all_known ks)

module _ (L : Lang) (fo : Folding L) where
  -- "An op of kinds 05 to 07 or 11 to 29 (either width) whose inputs are all known and whose result is stated becomes a movi of the output's width."
  abbrev pub tried : L.Op → Option (List L.Val) → Rewrite L.Op
  tried o None = put o
  tried o (Some vs) = put (fo.const o (head_or L.zero_v vs))

  -- loads, stores, set_label, br, brcond and exit_tb compute nothing: they "stay as they are"
  abbrev pub base_rule : Rule L
  base_rule k o = cond (fo.foldable o) (tried o (option_and_then (computes (L.view o)) (all_known (reads k (inputs (L.view o)))))) (put o)
