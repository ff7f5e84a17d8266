-- Records cut from bytes are whole, and whole records put together are cut into themselves. Assumes nothing.
use mathlib.Core.Path.{◌≡◌, refl, sym, ap, ◌∙◌}
use mathlib.Core.Bool.{Bool, true, false, cond, not, ◌&&◌}
use mathlib.Core.List.{List, [], ◌∷◌, ◌++◌, append-nil}
use Prim.Native.Nat.{ℕ, zero, suc, ◌+◌, ◌≤◌}
use native.Mathlib.Nat.{zero-add}
use native.Mathlib.Omega.{arith}
use lib.Dec.{eqb, ltb, eqb-zero-suc}
use lib.ListN.{length, take, drop, length-append}
use lib.Seq.{take_at, drop_at, length-take-le}
use borrow.Author.Tests.{ltb-false, eqb-true, not-true, le-ltb, eq-eqb}
use Rattle.theory.specs.Sets.{All}
use Rattle.theory.proofs.Sets.{and_l, and_r, and_i, clash}
use Rattle.theory.proofs.Simulation.{more}
use Rattle.ops.specs.Rows.{known, body_length, Table}
use Rattle.ops.specs.Fields.{kind_of}
use Rattle.block.specs.Records.{Cut, nothing_left, stray, cons, cut_by, cut_of, record_bytes, is_declaration, declarations, ops_from}

-- a record of a known kind, with its body
abbrev pub whole : Table → List ℕ → Bool
whole T r = known T (kind_of r) && eqb (length r) (suc (body_length T (kind_of r)))

abbrev pub AllWhole : Table → List (List ℕ) → Type 0
AllWhole T rs = All (λ r. whole T r ≡ true) rs

abbrev pub cut_clean : List (List ℕ) → Cut
cut_clean rs = record { records = rs; tail = 0 }

-- what is cut is whole
cut_cons : (T : Table) (k : ℕ) (bytes : List ℕ) (more : Cut) (t s : Bool) → known T k ≡ t → ltb (length bytes) (body_length T k) ≡ s → AllWhole T more.records
    → AllWhole T (cond t (cond s (stray 1) (cons (k ∷ take (body_length T k) bytes) more)) (stray 2)).records
cut_cons T k bytes more true true e f h = tt
cut_cons T k bytes more true false e f h = (
  and_i (known T k) (eqb (suc (length (take (body_length T k) bytes))) (suc (body_length T k))) e
      (eq-eqb (suc (length (take (body_length T k) bytes))) (suc (body_length T k))
      (ap suc (length-take-le (body_length T k) bytes (ltb-false (length bytes) (body_length T k) f)))),
  h,
)
cut_cons T k bytes more false s e f h = tt

pub cut_whole : (T : Table) (n : ℕ) (bytes : List ℕ) → AllWhole T (cut_by T n bytes).records
unfolding cut_by
cut_whole T zero bytes = tt
cut_whole T (suc n) [] = tt
cut_whole T (suc n) (k ∷ bytes) =
    cut_cons T k bytes (cut_by T n (drop (body_length T k) bytes)) (known T k) (ltb (length bytes) (body_length T k)) refl refl (cut_whole T n (drop (body_length T k) bytes))

-- a whole record in front is the first that is cut
cut_first : (T : Table) (n k : ℕ) (body bytes : List ℕ) → whole T (k ∷ body) ≡ true → cut_by T (suc n) (k ∷ (body ++ bytes)) ≡ cons (k ∷ body) (cut_by T n bytes)
unfolding cut_by
cut_first T n k body bytes h =
    let e : length body ≡ body_length T k = omega (arith, eqb-true (length (k ∷ body)) (suc (body_length T k)) (and_r (known T k) (eqb (length (k ∷ body)) (suc (body_length T k))) h)) in
    let f : ltb (length (body ++ bytes)) (body_length T k) ≡ false = le-ltb (length (body ++ bytes)) (body_length T k) (omega (arith, length-append body bytes)) in
    rw (and_l (known T k) (eqb (length (k ∷ body)) (suc (body_length T k))) h, f, take_at body bytes (body_length T k) e, drop_at body bytes (body_length T k) e)

cut_none : (T : Table) (n : ℕ) → cut_by T n [] ≡ nothing_left
unfolding cut_by
cut_none T zero = refl
cut_none T (suc n) = refl

pub no_record : (T : Table) → whole T [] ≡ false
no_record T = go (known T 0)
  where
    go : (b : Bool) → (b && eqb 0 (suc (body_length T 0))) ≡ false
    go true = eqb-zero-suc (body_length T 0)
    go false = refl

cut_records : (T : Table) (rs : List (List ℕ)) (n : ℕ) → AllWhole T rs → length (record_bytes rs) ≤ n → cut_by T n (record_bytes rs) ≡ cut_clean rs
cut_records T [] n h l = cut_none T n
cut_records T ([] ∷ rs) n h l = clash (whole T []) h.0 (no_record T)
cut_records T ((k ∷ body) ∷ rs) zero h l = absurd (omega arith)
cut_records T ((k ∷ body) ∷ rs) (suc n) h l =
    cut_first T n k body (record_bytes rs) h.0
    ∙ ap (cons (k ∷ body)) (cut_records T rs n h.1 (omega (arith, length-append body (record_bytes rs))))

pub cut_concat : (T : Table) (rs : List (List ℕ)) → AllWhole T rs → cut_of T (record_bytes rs) ≡ cut_clean rs
unfolding cut_of
cut_concat T rs h = cut_records T rs (length (record_bytes rs)) h (omega arith)

-- the bytes of more records, or of one more
pub bytes_both : (rs os : List (List ℕ)) → length (record_bytes (rs ++ os)) ≡ length (record_bytes rs) + length (record_bytes os)
bytes_both [] os = sym (zero-add (length (record_bytes os)))
bytes_both (x ∷ rs) os = omega (arith, length-append x (record_bytes (rs ++ os)), length-append x (record_bytes rs), bytes_both rs os)

pub bytes_more : (rs : List (List ℕ)) (r : List ℕ) → length (record_bytes (rs ++ (r ∷ []))) ≡ length (record_bytes rs) + length r
bytes_more rs r = bytes_both rs (r ∷ []) ∙ ap (λ (x : List ℕ). length (record_bytes rs) + length x) (append-nil r)

-- the declarations and the records from the first op on
pub split_records : (rs : List (List ℕ)) → declarations rs ++ ops_from rs ≡ rs
split_records [] = refl
split_records (r ∷ rs) = go (is_declaration r) (split_records rs)
  where
    go : (b : Bool) → declarations rs ++ ops_from rs ≡ rs → cond b (r ∷ declarations rs) [] ++ cond b (ops_from rs) (r ∷ rs) ≡ r ∷ rs
    go true e = ap (λ (q : List (List ℕ)). r ∷ q) e
    go false e = refl

abbrev pub AllDeclared : List (List ℕ) → Type 0
AllDeclared rs = All (λ r. is_declaration r ≡ true) rs

pub declared_all_lem : (rs : List (List ℕ)) → AllDeclared (declarations rs)
declared_all_lem [] = tt
declared_all_lem (r ∷ rs) = go (is_declaration r) refl (declared_all_lem rs)
  where
    go : (b : Bool) → is_declaration r ≡ b → AllDeclared (declarations rs) → AllDeclared (cond b (r ∷ declarations rs) [])
    go true e h = (e, h)
    go false e h = tt

-- the first record is an op, if there is one
abbrev pub head_op : List (List ℕ) → Bool
head_op [] = true
head_op (r ∷ rs) = not (is_declaration r)

pub ops_head : (rs : List (List ℕ)) → head_op (ops_from rs) ≡ true
ops_head [] = refl
ops_head (r ∷ rs) = go (is_declaration r) refl (ops_head rs)
  where
    go : (b : Bool) → is_declaration r ≡ b → head_op (ops_from rs) ≡ true → head_op (cond b (ops_from rs) (r ∷ rs)) ≡ true
    go true e h = h
    go false e h = ap not e

head_split : (os : List (List ℕ)) → head_op os ≡ true → (declarations os ≡ []) × (ops_from os ≡ os)
head_split [] h = (refl, refl)
head_split (o ∷ os) h = let e : is_declaration o ≡ false = not-true (is_declaration o) h in rw e (refl, refl)

-- declarations and then ops come apart again
pub split_again : (ds os : List (List ℕ)) → AllDeclared ds → head_op os ≡ true → (declarations (ds ++ os) ≡ ds) × (ops_from (ds ++ os) ≡ os)
split_again [] os h k = head_split os k
split_again (d ∷ ds) os h k = let p = split_again ds os h.1 k in rw h.0 (ap (λ (q : List (List ℕ)). d ∷ q) p.0, p.1)

pub all_append : {A : Type 0} (P : A → Type 0) (xs ys : List A) → All P xs → All P ys → All P (xs ++ ys)
all_append P [] ys h k = k
all_append P (x ∷ xs) ys h k = (h.0, all_append P xs ys h.1 k)

pub all_left : {A : Type 0} (P : A → Type 0) (xs ys : List A) → All P (xs ++ ys) → All P xs
all_left P [] ys h = tt
all_left P (x ∷ xs) ys h = (h.0, all_left P xs ys h.1)

pub all_right : {A : Type 0} (P : A → Type 0) (xs ys : List A) → All P (xs ++ ys) → All P ys
all_right P [] ys h = h
all_right P (x ∷ xs) ys h = all_right P xs ys h.1
