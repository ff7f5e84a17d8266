-- The rules that a record must meet, each by itself, after the records before it. Assumes nothing.
use Rattle.std.specs.Prelude.{ℕ, zero, suc, Bool, true, cond, not, ◌&&◌, ◌||◌, List, [], ◌∷◌, ◌++◌, eqb, ltb, leb, length, get_or}
use Rattle.theory.specs.Sets.{upd, Vars, empty, plus, all_in}
use Rattle.ops.specs.Limits.{max_variables, max_ops, label_count}
use Rattle.ops.specs.Rows.{Row, is_closing, is_setting, is_jumping, test_ok, Table}
use Rattle.ops.specs.Fields.{kind_of, row_at, outs_by, ins_by, rest_by, label_by}
use Rattle.block.specs.Records.{is_declaration, class_of, type_of}

-- what the records read so far come to: the class and type of each variable, the variables written in this extended basic block,
-- the labels set and jumped to, the number of ops, and the last op's kind (0: no op yet)
pub record Seen : Type 0 where
  pub classes : List ℕ
  pub types : List ℕ
  pub written : Vars
  pub labels : Vars
  pub targets : Vars
  pub ops : ℕ
  pub last : ℕ

abbrev pub start : Seen
start = record { classes = []; types = []; written = empty; labels = empty; targets = empty; ops = 0; last = 0 }

-- the globals, and the variables that outlive an extended basic block: globals and local temporaries
abbrev pub globals_in : List ℕ → Vars
globals_in classes v = eqb (get_or classes v 2) 0

abbrev pub kept_in : List ℕ → Vars
kept_in classes v = ltb (get_or classes v 2) 2

abbrev pub all_global : List ℕ → Bool
all_global [] = true
all_global (c ∷ cs) = eqb c 0 && all_global cs

-- 3: "declaration after an op, bad class or type, global after a temporary of either class", a variable beyond the limit
unfoldable pub rule3 : Seen → List ℕ → Bool
rule3 s r = eqb s.ops 0 && leb (class_of r) 2 && leb (type_of r) 1 && (not (eqb (class_of r) 0) || all_global s.classes) && ltb (length s.classes) max_variables

-- 4: "variable not declared"
abbrev pub all_below : ℕ → List ℕ → Bool
all_below n [] = true
all_below n (v ∷ vs) = ltb v n && all_below n vs

abbrev pub operands_of : Table → List ℕ → List ℕ
operands_of T r = outs_by (row_at T r) r ++ ins_by (row_at T r) r

unfoldable pub rule4 : Table → Seen → List ℕ → Bool
rule4 T s r = all_below (length s.classes) (operands_of T r)

-- 5: "an operand has the wrong width"
abbrev pub have_types : List ℕ → List ℕ → List ℕ → Bool
have_types types [] ts = true
have_types types (v ∷ vs) [] = true
have_types types (v ∷ vs) (t ∷ ts) = eqb (get_or types v 0) t && have_types types vs ts

unfoldable pub rule5 : Table → Seen → List ℕ → Bool
rule5 T s r = have_types s.types (operands_of T r) ((row_at T r).outs ++ (row_at T r).ins)

-- 6: "cond above 9, bad flags", a label beyond the limit, "32-bit movi of 2^32 or more"; and of fields and swaps: "Breaches get refusal 6."
unfoldable pub rule6 : Table → Seen → List ℕ → Bool
rule6 T s r = test_ok (row_at T r).test (rest_by (row_at T r) r)

-- 7: "label set twice, or jump to a label already set"
abbrev pub label_free : Row → Vars → ℕ → Bool
label_free row labels l = not (is_setting row.role || is_jumping row.role) || not (labels l)

unfoldable pub rule7 : Table → Seen → List ℕ → Bool
rule7 T s r = label_free (row_at T r) s.labels (label_by (row_at T r) r)

-- 8: "temporary read before a write in its basic block", which "now speaks of the extended block"; "reads come before the record's own write"
unfoldable pub rule8 : Table → Seen → List ℕ → Bool
rule8 T s r = all_in (kept_in s.classes) (ins_by (row_at T r) r) s.written

-- 9: an op beyond the limit
unfoldable pub rule9 : Seen → List ℕ → Bool
rule9 s r = ltb s.ops max_ops

-- 10: "no op, or last op is not exit_tb"
unfoldable pub rule10 : Seen → Bool
rule10 s = eqb s.last 0x04

-- 7: "a jumped-to label never set"
abbrev pub all_set : Vars → Vars → ℕ → Bool
all_set targets labels zero = true
all_set targets labels (suc n) = (not (targets n) || labels n) && all_set targets labels n

unfoldable pub rule7end : Seen → Bool
rule7end s = all_set s.targets s.labels label_count

-- what is seen once the record is read
abbrev pub declared : Seen → List ℕ → Seen
declared s r =
    record {
      classes = s.classes ++ (class_of r ∷ []);
      types = s.types ++ (type_of r ∷ []);
      written = s.written;
      labels = s.labels;
      targets = s.targets;
      ops = s.ops;
      last = s.last;
    }

-- "a temporary lives through an extended basic block, which a conditional branch does not end on its fall-through path"; "Set_label, br and
-- exit_tb end everything as before"
abbrev pub wrote_by : Row → Vars → List ℕ → Vars
wrote_by row w outs = cond (is_closing row.role) empty (plus w outs)

abbrev pub marked_by : Bool → Vars → ℕ → Vars
marked_by b labels l = cond b (upd labels l true) labels

abbrev pub passed : Table → Seen → List ℕ → Seen
passed T s r =
    record {
      classes = s.classes;
      types = s.types;
      written = wrote_by (row_at T r) s.written (outs_by (row_at T r) r);
      labels = marked_by (is_setting (row_at T r).role) s.labels (label_by (row_at T r) r);
      targets = marked_by (is_jumping (row_at T r).role) s.targets (label_by (row_at T r) r);
      ops = suc s.ops;
      last = kind_of r;
    }

unfoldable pub next : Table → Seen → List ℕ → Seen
next T s r = cond (is_declaration r) (declared s r) (passed T s r)
