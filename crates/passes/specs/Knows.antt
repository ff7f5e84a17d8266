-- What fold knows and leaves. Assumes nothing.
use Rattle.std.specs.Prelude.{◌≡◌, Bool, true, ◌&&◌, cond, List, [], ◌∷◌, ℕ, ◌<◌, get_or, Option, None, Some, option_and_then}
use Rattle.theory.specs.Machine.{inputs, computes, reads}
use Rattle.theory.specs.Sets.{Vars}
use Rattle.theory.specs.Fold.{Known, nothing, put, on, learned, fold, base_rule, all_known}
use Rattle.ops.specs.Ops.{view_of, tcg}
use Rattle.ops.specs.Fields.{row_at}
use Rattle.ops.specs.Kinds.{one, document01}
use Rattle.ops.specs.Table.{row_of}
use Rattle.ops.specs.Folds.{foldable_row, folding}
use Rattle.block.specs.Scan.{record_at}
use Rattle.passes.specs.Laid.{ops_at, Constant, Leaves}

-- the values that are known: those of the variables in the set
abbrev pub known_of : Vars → List ℕ → Known ℕ
known_of known values = λ v. cond (known v) (Some (get_or values v 0)) None

-- each of the variables is in the set
abbrev pub every_in : List ℕ → Vars → Bool
every_in [] l = true
every_in (x ∷ xs) l = l x && every_in xs l

-- what an op that may fold states, where all its inputs are known
abbrev pub stated_by : Known ℕ → List ℕ → Option (List ℕ)
stated_by known o = cond (foldable_row (row_at row_of o)) (option_and_then (computes (view_of document01 o)) (all_known (reads known (inputs (view_of document01 o))))) None

pub record StatesKnown (block : List ℕ) (place : ℕ) (known : Vars) (values : List ℕ) (r : Option ℕ) : Type 0 where
  pub states_so : stated_by (known_of known values) (record_at row_of block place) ≡ one r

-- the op that fold leaves: the constant where a value is stated
abbrev pub left_by : Option ℕ → List ℕ → List ℕ
left_by (Some x) o = (folding document01).const o x
left_by None o = o

-- what is known after an op that stays as it is
pub record Stays (block : List ℕ) (place : ℕ) (known : Vars) (values : List ℕ) (known' : Vars) (values' : List ℕ) : Type 0 where
  pub known_after : known_of known' values' ≡ learned (known_of known values) (view_of document01 (record_at row_of block place))

-- fold at one op: what it leaves, and what is known after it
pub record Folds (block : List ℕ) (place : ℕ) (known : Vars) (values : List ℕ) (known' : Vars) (values' : List ℕ) (r : Option ℕ) : Type 0 where
  pub rule_so : base_rule (tcg document01) (folding document01) (known_of known values) (record_at row_of block place) ≡ put (left_by r (record_at row_of block place))
  pub known_so : known_of known' values' ≡ learned (known_of known values) (view_of document01 (left_by r (record_at row_of block place)))
  pub constant_so : (x : ℕ) → r ≡ Some x → Constant block place x ((folding document01).const (record_at row_of block place) x)

-- the ops that fold leaves
abbrev pub folded_ops : List (List ℕ) → List (List ℕ)
folded_ops os = fold (tcg document01) (base_rule (tcg document01) (folding document01)) os (on nothing)

-- fold of so many ops: the mark of each, and the values of the constants
pub record Folded (block places marks constants : List ℕ) (ops : ℕ) : Type 0 where
  pub left : (i : ℕ) → i < ops → Leaves block (get_or places i 0) (get_or marks i 0) (get_or constants i 0) (get_or (folded_ops (ops_at block places 0 ops)) i [])
  pub marks_few : (i : ℕ) → i < ops → get_or marks i 0 < 2

-- the same with some constants
pub record Noted (block places marks : List ℕ) (ops : ℕ) : Type 0 where
  pub constants : List ℕ
  pub folded : Folded block places marks constants ops
