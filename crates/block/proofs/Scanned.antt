-- The scan of the declarations and of the ops together. Assumes nothing.
use mathlib.Core.Path.{◌≡◌, refl, sym, ap, ◌∙◌, subst}
use mathlib.Core.Bool.{true, not}
use mathlib.Core.List.{List, [], ◌∷◌, ◌++◌, append_assoc, append-nil}
use Prim.Native.Nat.{ℕ, ◌+◌, ◌*◌, ◌<◌}
use native.Mathlib.Omega.{arith}
use lib.ListN.{length, get_or, replicate}
use Rattle.ops.specs.Limits.{label_count}
use borrow.Author.Tests.{ne_eqb}
use Rattle.theory.specs.Sets.{empty}
use Rattle.ops.specs.Fields.{kind_of}
use Rattle.ops.specs.Rows.{Table}
use Rattle.block.specs.Records.{records_of, record_bytes, declarations, ops_from, classes_of, declared_types, global_count}
use Rattle.block.specs.Scan.{Coded, DeclaredBy, RefusedBy, places_from, labels_from, records_at, ScannedBy, ScannedAll, ScannedTo, Declaring, Begins, Approved, Scanned, Rejected}
use Rattle.block.proofs.Cut.{bytes_both, head_op, split_again}
use Rattle.block.proofs.Fields.{kind_at}
use Rattle.block.proofs.Places.{standing}
use Rattle.block.specs.Checks.{Verdict, Accepted}
use Rattle.block.specs.declared.Refusal.{Refusal}

-- the first record after the declarations is an op
no_declaration : (T : Table) (b : List ℕ) (p : ℕ) → (p < length b → get_or b p 0 ≡ 1 → ⊥) → head_op (records_at T b p) ≡ true
no_declaration T b p k = go (records_at T b p) refl
  where
    go : (rs : List (List ℕ)) → records_at T b p ≡ rs → head_op rs ≡ true
    go [] e = refl
    go (r ∷ rs) e =
        let s = standing T b p r rs e in
        ap not (ne_eqb (kind_of r) 0x01 (λ q. k s.inside (sym (kind_at T b p s.whole_here) ∙ ap kind_of s.record_here ∙ q)))

-- what stands before a place starts with an op, if what stands from there on does
head_left : (os more : List (List ℕ)) → head_op (os ++ more) ≡ true → head_op os ≡ true
head_left [] more h = refl
head_left (o ∷ os) more h = h

-- what the first scan leaves to the second
pub begins_by : {T : Table} {b vars₀ vars : List ℕ} {n globals : ℕ} → DeclaredBy T b vars₀ vars n globals → vars₀ ≡ replicate 256 15 → Begins T b vars (3 * n)
begins_by {T = T} {b = b} {vars = vars} {n = n} {globals = globals} d z =
    record { n = n; globals = globals; after = subst (λ (v : List ℕ). Declaring T b v vars (3 * n) n globals) z d.declaring; no_more = d.no_more }

-- a declaration is refused: no op has been read
pub scan_refused : {T : Table} {b vars₀ vars : List ℕ} {refusal : Refusal} {n globals : ℕ} (places labels : List ℕ) → RefusedBy T b vars₀ vars refusal n globals → vars₀ ≡ replicate 256 15 → labels ≡ replicate label_count 0
    → Rejected T b places vars places labels refusal refusal.place n globals 0
unfolding places_from labels_from
scan_refused {T = T} {b = b} {refusal = refusal} places labels s f z =
    let d = s.declaring in
    let p = refusal.place in
    let q = rw (append-nil d.before) at (split_again d.before [] d.all_declared refl) in
    record {
      answers = s.refused;
      before = d.before;
      records_are = d.records_are;
      all_read = λ u. cc;
      place_is = sym d.spans;
      variables = ap length q.0 ∙ d.count;
      coded = rw q.0 (d.coded f);
      long_base = d.long_vars ∙ ap length f;
      globals_are = d.globals_are ∙ ap (λ (x : List (List ℕ)). global_count (classes_of x)) (sym q.0);
      few = d.few;
      start_is = d.place_is;
      ops_before = ap (λ (x : List (List ℕ)). x ++ records_at T b p) (sym q.1);
      count_is = ap length (sym q.1);
      held = omega arith;
      places_are = ap (places_from p 0 places) (sym q.1);
      labels_are = z ∙ ap (labels_from T 0 (replicate label_count 0)) (sym q.1);
    }

-- the declarations have been read, and then ops
scan_done : {T : Table} {b vars₀ vars places₀ places labels : List ℕ} {verdict : Verdict} {n globals place ops : ℕ} → DeclaredBy T b vars₀ vars n globals → vars₀ ≡ replicate 256 15
    → ScannedBy T b (3 * n) places₀ places labels verdict place ops → Scanned T b places₀ vars places labels verdict place (3 * n) n globals ops
scan_done {T = T} {b = b} {places₀ = places₀} {n = n} {place = place} s f o =
    let p = 3 * n in
    let d = s.declaring in
    let u = o.up_to in
    let ds = d.before in
    let q = split_again ds u.read d.all_declared (head_left u.read (records_at T b place) (rw u.records_are at (no_declaration T b p s.no_more))) in
    record {
      answers = o.answers;
      before = ds ++ u.read;
      records_are = d.records_are ∙ ap (λ (x : List (List ℕ)). ds ++ x) u.records_are ∙ sym (append_assoc ds u.read (records_at T b place));
      all_read = o.all_read;
      place_is = sym (bytes_both ds u.read ∙ ap (λ (m : ℕ). m + length (record_bytes u.read)) d.spans ∙ u.spans);
      variables = ap length q.0 ∙ d.count;
      coded = rw q.0 (d.coded f);
      long_base = d.long_vars ∙ ap length f;
      globals_are = d.globals_are ∙ ap (λ (x : List (List ℕ)). global_count (classes_of x)) (sym q.0);
      few = d.few;
      start_is = d.place_is;
      ops_before = u.records_are ∙ ap (λ (x : List (List ℕ)). x ++ records_at T b place) (sym q.1);
      count_is = sym u.count ∙ ap length (sym q.1);
      held = u.held;
      places_are = u.places_are ∙ ap (places_from p 0 places₀) (sym q.1);
      labels_are = u.labels_are ∙ ap (labels_from T 0 (replicate label_count 0)) (sym q.1);
    }

-- an op, or the end, is refused
pub ops_refused : {T : Table} {b vars₀ vars places₀ places labels : List ℕ} {refusal : Refusal} {n globals ops : ℕ} → DeclaredBy T b vars₀ vars n globals → vars₀ ≡ replicate 256 15
    → ScannedTo T b (3 * n) places₀ places labels refusal ops → Rejected T b places₀ vars places labels refusal (3 * n) n globals ops
ops_refused s f o = scan_done s f o

-- what is told of an accepted block
approve : {T : Table} {b places₀ base places labels : List ℕ} {place start n globals ops : ℕ} → Scanned T b places₀ base places labels Accepted place start n globals ops → Approved T b places₀ base places labels start n globals ops
approve {T} {b} {places₀} {base} {start = start} s =
    let all : s.before ≡ records_of T b = sym (append-nil s.before) ∙ ap (λ (x : List (List ℕ)). s.before ++ x) (sym (s.all_read refl)) ∙ sym s.records_are in
    record {
      accepted = sym s.answers;
      variables = ap (λ (x : List (List ℕ)). length (declarations x)) (sym all) ∙ s.variables;
      coded = subst (λ (x : List (List ℕ)). Coded base (classes_of (declarations x)) (declared_types (declarations x)) empty) all s.coded;
      long_base = s.long_base;
      globals_are = s.globals_are ∙ ap (λ (x : List (List ℕ)). global_count (classes_of (declarations x))) all;
      few = s.few;
      start_is = s.start_is;
      ops_are = s.ops_before ∙ ap (λ (x : List (List ℕ)). ops_from s.before ++ x) (s.all_read refl) ∙ append-nil (ops_from s.before) ∙ ap ops_from all;
      count_is = s.count_is ∙ ap (λ (x : List (List ℕ)). length (ops_from x)) all;
      held = s.held;
      places_are = s.places_are ∙ ap (λ (x : List (List ℕ)). places_from start 0 places₀ (ops_from x)) all;
      labels_are = s.labels_are ∙ ap (λ (x : List (List ℕ)). labels_from T 0 (replicate label_count 0) (ops_from x)) all;
    }

pub scan_approved : {T : Table} {b vars₀ vars places₀ places labels : List ℕ} {n globals ops : ℕ} → DeclaredBy T b vars₀ vars n globals → vars₀ ≡ replicate 256 15
    → ScannedAll T b (3 * n) places₀ places labels ops → Approved T b places₀ vars places labels (3 * n) n globals ops
scan_approved s f o = approve (scan_done s f o.scanned)
