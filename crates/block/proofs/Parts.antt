-- An accepted block is declarations and then ops, and such records make an accepted block. Assumes nothing.
use mathlib.Core.Path.{◌≡◌, refl, sym, ap, ◌∙◌, subst}
use mathlib.Core.Bool.{true, ◌&&◌}
use mathlib.Core.List.{List, ◌++◌}
use Prim.Native.Nat.{ℕ}
use Rattle.theory.proofs.Checker.{checks}
use Rattle.theory.proofs.Scoped.{scoped}
use Rattle.theory.specs.Sets.{empty}
use Rattle.theory.proofs.Sets.{and_l, and_r, and_i}
use Rattle.ops.specs.Ops.{tcg, Dialect}
use Rattle.block.specs.Meaning.{seen}
use Rattle.block.specs.Records.{Cut, records_of, record_bytes, declarations, ops_from, classes_of}
use Rattle.block.specs.Rules.{Seen, start, kept_in}
use Rattle.block.proofs.Accepts.{accepts, accepted_records, records_accepted, meet, accepts_append}
use Rattle.block.proofs.Cut.{all_left, all_right}
use Rattle.block.proofs.Checker.{checker, in_scope, accepts_ops, ops_accepts, declared_in, seen_declared}
use Rattle.block.proofs.Cut.{whole, AllWhole, cut_concat, split_records, AllDeclared, declared_all_lem, head_op, ops_head, split_again, all_append}
use Rattle.block.specs.Checks.{Accepted}
use Rattle.block.specs.Checks.{check_by}
use Rattle.ops.proofs.Lawful.{Lawful}

-- the records of an accepted block: declarations, and ops that meet every rule
pub record Parts (D : Dialect) (block : List ℕ) (ds os : List (List ℕ)) : Type 0 where
  pub records : records_of D.rows block ≡ ds ++ os
  pub declared : declarations (records_of D.rows block) ≡ ds
  pub ops : ops_from (records_of D.rows block) ≡ os
  pub wholes : AllWhole D.rows ds × AllWhole D.rows os
  pub all_declared : AllDeclared ds
  pub met : meet D.rows start ds ≡ true
  pub checked : checks (tcg D) (checker D) (declared_in start ds) os ≡ true
  pub in_scope : scoped (tcg D) (kept_in (classes_of ds)) empty os ≡ true

pub parts : {D : Dialect} (law : Lawful D) (block : List ℕ) → check_by D.rows block ≡ Accepted → Parts D block (declarations (records_of D.rows block)) (ops_from (records_of D.rows block))
parts {D = D} law block h =
    record {
      records = sym (split_records rs);
      declared = refl;
      ops = refl;
      wholes = (w.0, w.1);
      all_declared = declared_all_lem rs;
      met = m;
      checked = p.0;
      in_scope = p.1;
    }
  where
    rs : List (List ℕ)
    rs = records_of D.rows block

    ds : List (List ℕ)
    ds = declarations rs

    os : List (List ℕ)
    os = ops_from rs

    a : AllWhole D.rows rs × (accepts D.rows start rs ≡ true)
    a = accepted_records D.rows block h

    w' : AllWhole D.rows (ds ++ os)
    w' = subst (AllWhole D.rows) (sym (split_records rs)) a.0

    w : AllWhole D.rows ds × AllWhole D.rows os
    w = (all_left (λ r. whole D.rows r ≡ true) ds os w', all_right (λ r. whole D.rows r ≡ true) ds os w')

    b : (meet D.rows start ds && accepts D.rows (seen D.rows start ds) os) ≡ true
    b = sym (accepts_append D.rows start ds os) ∙ ap (accepts D.rows start) (split_records rs) ∙ a.1

    m : meet D.rows start ds ≡ true
    m = and_l (meet D.rows start ds) (accepts D.rows (seen D.rows start ds) os) b

    c : accepts D.rows (declared_in start ds) os ≡ true
    c = sym (ap (λ (s : Seen). accepts D.rows s os) (seen_declared D.rows start ds (declared_all_lem rs))) ∙ and_r (meet D.rows start ds) (accepts D.rows (seen D.rows start ds) os) b

    p : (checks (tcg D) (checker D) (declared_in start ds) os ≡ true) × (in_scope D (declared_in start ds) os ≡ true)
    p = accepts_ops law (declared_in start ds) os (ops_head rs) w.1 c

-- the other way: declarations and ops that meet every rule make an accepted block
pub joined : {D : Dialect} (law : Lawful D) (ds os : List (List ℕ)) → AllWhole D.rows ds → AllDeclared ds → meet D.rows start ds ≡ true → checks (tcg D) (checker D) (declared_in start ds) os ≡ true
    → scoped (tcg D) (kept_in (classes_of ds)) empty os ≡ true → (check_by D.rows (record_bytes (ds ++ os)) ≡ Accepted) × Parts D (record_bytes (ds ++ os)) ds os
joined {D = D} law ds os wd d m c k = (
  records_accepted D.rows (ds ++ os) w (accepts_append D.rows start ds os ∙ and_i (meet D.rows start ds) (accepts D.rows (seen D.rows start ds) os) m (ap (λ (s : Seen). accepts D.rows s os) (seen_declared D.rows start ds d) ∙ q.2)),
  record {
    records = ap (λ (t : Cut). t.records) (cut_concat D.rows (ds ++ os) w);
    declared = ap (λ (t : Cut). declarations t.records) (cut_concat D.rows (ds ++ os) w) ∙ z.0;
    ops = ap (λ (t : Cut). ops_from t.records) (cut_concat D.rows (ds ++ os) w) ∙ z.1;
    wholes = (wd, q.0);
    all_declared = d;
    met = m;
    checked = c;
    in_scope = k;
  },
)
  where
    q : AllWhole D.rows os × (head_op os ≡ true) × (accepts D.rows (declared_in start ds) os ≡ true)
    q = ops_accepts law (declared_in start ds) os c k

    w : AllWhole D.rows (ds ++ os)
    w = all_append (λ r. whole D.rows r ≡ true) ds os wd q.0

    z : (declarations (ds ++ os) ≡ ds) × (ops_from (ds ++ os) ≡ os)
    z = split_again ds os d q.1
