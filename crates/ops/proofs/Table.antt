-- The row of a kind, from its role: one computed test over the table. Assumes nothing.
use mathlib.Core.Path.{◌≡◌, refl, sym, ap, ◌∙◌, subst}
use mathlib.Core.Bool.{Bool, true, false, cond, not, ◌&&◌, ◌||◌}
use mathlib.Core.List.{List, [], ◌∷◌}
use mathlib.Core.Logic.{◌⊎◌, inl, inr}
use Prim.Native.Nat.{ℕ, zero, suc, ◌+◌, ◌/◌, ◌%◌, ◌^◌, ◌≤◌, ◌<◌}
use native.Mathlib.Omega.{arith}
use lib.Dec.{eqb, ltb, leb, lit<}
use lib.ListN.{length, get_or}
use borrow.Author.Tests.{eqb-true, ltb-true, ltb-false, leb-true}
use Rattle.word.proofs.Tests.{cond_all}
use Rattle.theory.proofs.Sets.{and_l, and_r, tell}
use Rattle.ops.specs.Rows.{Role, unknown, declares, sets_label, jumps_to, exits, branches, loads, stores, constant, computing, role_no, Row, entry}
use Rattle.ops.specs.Rows.{outs_in, ins_in, rest_in, test_in, role_in, types_in, types_of, row_in, body_of, number_of, asks_for, table_of}
use Rattle.ops.specs.Table.{movi, brcond, load, store, kind_table, row_of}
use Rattle.ops.specs.Rows.{role_of, body_length}
use Rattle.ops.proofs.Ranges.{ranged, every, listed}

-- the type of the op's width: 0, or 1 for the kinds from 80 on
abbrev pub type_at : ℕ → ℕ
type_at k = cond (leb 0x80 k) 1 0

pub type_small : (k : ℕ) → type_at k < 2
type_small k = cond_all (λ (n : ℕ). n < 2) (leb 0x80 k) (lit< tt) (lit< tt)

-- the one row of a role at a type; a computing op has one output
abbrev pub row_with : List ℕ → List ℕ → ℕ → ℕ → Role → Row
row_with outs ins rest test role = record { outs = outs; ins = ins; rest = rest; test = test; role = role }

pub record Computing (row : Row) : Type 0 where
  pub type : ℕ
  pub one_out : row.outs ≡ type ∷ []

abbrev pub RowFor : Role → ℕ → Row → Type 0
RowFor unknown t row = row ≡ row_with [] [] 0 0 unknown
RowFor declares t row = row ≡ row_with [] [] 2 0 declares
RowFor sets_label t row = row ≡ row_with [] [] 1 1 sets_label
RowFor jumps_to t row = row ≡ row_with [] [] 1 1 jumps_to
RowFor exits t row = row ≡ row_with [] (1 ∷ []) 0 0 exits
RowFor branches t row = row ≡ row_with [] (t ∷ t ∷ []) 2 3 branches
RowFor loads t row = row ≡ row_with (t ∷ []) (1 ∷ []) 1 (4 + t) loads
RowFor stores t row = row ≡ row_with [] (t ∷ 1 ∷ []) 1 (6 + t) stores
RowFor constant t row = row ≡ row_with (t ∷ []) [] 8 (cond (eqb t 0) 8 0) constant
RowFor computing t row = Computing row

-- the entries that have these rows, by role number and type
abbrev entry_for : ℕ → ℕ → ℕ → ℕ
entry_for n t e = get_or (0 ∷ entry 0 0 2 0 1 0 ∷ entry 0 0 1 1 2 0 ∷ entry 0 0 1 1 3 0 ∷ entry 0 1 0 0 4 1 ∷ brcond t ∷ load t ∷ store t ∷ movi t ∷ e ∷ []) n (suc e)

-- what is asked of the entry of a kind
abbrev canonical : ℕ → ℕ → Bool
canonical k e = eqb e (entry_for (role_in e) (type_at k) e)

abbrev one_output : ℕ → Bool
one_output e = eqb (outs_in e) 1

abbrev right : ℕ → ℕ → Bool
right k e =
    canonical k e
    && ((not (eqb (role_in e) 9) || one_output e) && (leb (outs_in e + ins_in e + rest_in e) 9 && leb (asks_for (test_in e)) (rest_in e)))

all_right : every right 0 kind_table ≡ true
unfolding kind_table
all_right = refl

pub table_long : length kind_table ≡ 256
unfolding kind_table
table_long = refl

at_kind : (k : ℕ) → k < 256 → right k (get_or kind_table k 0) ≡ true
at_kind k h = listed right kind_table all_right k (rw table_long h)

-- past the table
pub past : (xs : List ℕ) (k : ℕ) → length xs ≤ k → get_or xs k 0 ≡ 0
past [] k h = refl
past (x ∷ xs) zero h = absurd (omega arith)
past (x ∷ xs) (suc k) h = past xs k (omega arith)

pub beyond : (k : ℕ) → 256 ≤ k → get_or kind_table k 0 ≡ 0
beyond k h = past kind_table k (rw table_long h)

-- a test that every entry of the table passes, and 0, holds for every kind
pub for_each : (f : ℕ → ℕ → Bool) → every f 0 kind_table ≡ true → ((k : ℕ) → f k 0 ≡ true) → (k : ℕ) → f k (get_or kind_table k 0) ≡ true
for_each f t z k = go (tell (ltb k 256))
  where
    go : (ltb k 256 ≡ true) ⊎ (ltb k 256 ≡ false) → f k (get_or kind_table k 0) ≡ true
    go (inl h) = listed f kind_table t k (rw table_long (ltb-true k 256 h))
    go (inr h) = rw (beyond k (ltb-false k 256 h)) (z k)

pub unknown_beyond : (k : ℕ) → 256 ≤ k → role_of row_of k ≡ unknown
unfolding table_of role_no
unknown_beyond k h = ap (λ (e : ℕ). role_no (role_in e)) (beyond k h)

-- from the test of an entry to its row
same_row : (r : Role) (t : ℕ) {e x : ℕ} → e ≡ x → RowFor r t (row_in x) → RowFor r t (row_in e)
same_row r t q f = subst (λ (y : ℕ). RowFor r t (row_in y)) (sym q) f

computing_row : (e : ℕ) → one_output e ≡ true → Computing (row_in e)
unfolding types_of
computing_row e h = record { type = types_in e % 4; one_out = ap (λ (n : ℕ). types_of n (types_in e)) (eqb-true (outs_in e) 1 h) }

by_role : (n t e : ℕ) → t < 2 → e ≡ entry_for n t e → (not (eqb n 9) || one_output e) ≡ true → RowFor (role_no n) t (row_in e)
unfolding role_no types_of
by_role zero t e h q c = same_row unknown t q refl
by_role (suc zero) t e h q c = same_row declares t q refl
by_role (suc (suc zero)) t e h q c = same_row sets_label t q refl
by_role (suc (suc (suc zero))) t e h q c = same_row jumps_to t q refl
by_role (suc (suc (suc (suc zero)))) t e h q c = same_row exits t q refl
by_role (suc (suc (suc (suc (suc zero))))) zero e h q c = same_row branches 0 q refl
by_role (suc (suc (suc (suc (suc zero))))) (suc zero) e h q c = same_row branches 1 q refl
by_role (suc (suc (suc (suc (suc zero))))) (suc (suc t)) e h q c = absurd (omega arith)
by_role (suc (suc (suc (suc (suc (suc zero)))))) zero e h q c = same_row loads 0 q refl
by_role (suc (suc (suc (suc (suc (suc zero)))))) (suc zero) e h q c = same_row loads 1 q refl
by_role (suc (suc (suc (suc (suc (suc zero)))))) (suc (suc t)) e h q c = absurd (omega arith)
by_role (suc (suc (suc (suc (suc (suc (suc zero))))))) zero e h q c = same_row stores 0 q refl
by_role (suc (suc (suc (suc (suc (suc (suc zero))))))) (suc zero) e h q c = same_row stores 1 q refl
by_role (suc (suc (suc (suc (suc (suc (suc zero))))))) (suc (suc t)) e h q c = absurd (omega arith)
by_role (suc (suc (suc (suc (suc (suc (suc (suc zero)))))))) zero e h q c = same_row constant 0 q refl
by_role (suc (suc (suc (suc (suc (suc (suc (suc zero)))))))) (suc zero) e h q c = same_row constant 1 q refl
by_role (suc (suc (suc (suc (suc (suc (suc (suc zero)))))))) (suc (suc t)) e h q c = absurd (omega arith)
by_role (suc (suc (suc (suc (suc (suc (suc (suc (suc zero))))))))) t e h q c = computing_row e c
by_role (suc (suc (suc (suc (suc (suc (suc (suc (suc (suc n)))))))))) t e h q c = absurd (omega arith)

row_for : (k : ℕ) → RowFor (role_of row_of k) (type_at k) (row_of k)
unfolding table_of role_no types_of
row_for k = go (tell (ltb k 256))
  where
    go : (ltb k 256 ≡ true) ⊎ (ltb k 256 ≡ false) → RowFor (role_no (role_in (get_or kind_table k 0))) (type_at k) (row_in (get_or kind_table k 0))
    go (inl h) =
        let l : k < 256 = ltb-true k 256 h in
        let e = get_or kind_table k 0 in
        let t = at_kind k l in
        by_role (role_in e) (type_at k) e (type_small k) (eqb-true e (entry_for (role_in e) (type_at k) e) (and_l (canonical k e) _ t))
        (and_l (not (eqb (role_in e) 9) || one_output e) _ (and_r (canonical k e) _ t))
    go (inr h) = rw (beyond k (ltb-false k 256 h))

-- a kind of this role has this row
pub row_of_lem : (r : Role) (k : ℕ) → role_of row_of k ≡ r → RowFor r (type_at k) (row_of k)
row_of_lem r k e = subst (λ (x : Role). RowFor x (type_at k) (row_of k)) e (row_for k)

pub types_length : (n x : ℕ) → length (types_of n x) ≡ n
unfolding types_of
types_length zero x = refl
types_length (suc n) x = ap suc (types_length n (x / 4))

-- the counts of an entry's row are its digits
pub body_in : (e : ℕ) → body_of (row_in e) ≡ outs_in e + ins_in e + rest_in e
body_in e = rw (types_length (outs_in e) (types_in e), types_length (ins_in e) (types_in e / 4 ^ outs_in e))

sizes_at : (k : ℕ) → k < 256 → (let e = get_or kind_table k 0 in leb (outs_in e + ins_in e + rest_in e) 9 && leb (asks_for (test_in e)) (rest_in e)) ≡ true
sizes_at k h = let e = get_or kind_table k 0 in and_r (not (eqb (role_in e) 9) || one_output e) _ (and_r (canonical k e) _ (at_kind k h))

-- a test asks for no more bytes than follow the operands
pub asks_few : {e : ℕ} (k : ℕ) → e ≡ get_or kind_table k 0 → asks_for (test_in e) ≤ rest_in e
asks_few {e} k q = subst (λ (x : ℕ). asks_for (test_in x) ≤ rest_in x) (sym q) (go (tell (ltb k 256)))
  where
    go : (ltb k 256 ≡ true) ⊎ (ltb k 256 ≡ false) → (let e = get_or kind_table k 0 in asks_for (test_in e) ≤ rest_in e)
    go (inl h) = let e = get_or kind_table k 0 in leb-true (asks_for (test_in e)) (rest_in e) (and_r (leb (outs_in e + ins_in e + rest_in e) 9) _ (sizes_at k (ltb-true k 256 h)))
    go (inr h) = rw (beyond k (ltb-false k 256 h)) (omega arith)

-- no body is longer than nine bytes
pub body_short : (k : ℕ) → body_length row_of k ≤ 9
unfolding table_of
body_short k = rw (body_in (get_or kind_table k 0)) (go (tell (ltb k 256)))
  where
    go : (ltb k 256 ≡ true) ⊎ (ltb k 256 ≡ false) → (let e = get_or kind_table k 0 in outs_in e + ins_in e + rest_in e ≤ 9)
    go (inl h) =
        let e = get_or kind_table k 0 in
        leb-true _ 9 (and_l (leb (outs_in e + ins_in e + rest_in e) 9) (leb (asks_for (test_in e)) (rest_in e)) (sizes_at k (ltb-true k 256 h)))
    go (inr h) = rw (beyond k (ltb-false k 256 h)) (omega arith)

-- the number of a role, as the code reads it
pub role_read : (n : ℕ) → n < 16 → cond (ltb n 10) n 0 ≡ number_of (role_no n)
unfolding role_no
role_read n h = eqb-true (cond (ltb n 10) n 0) (number_of (role_no n)) (ranged (λ m. eqb (cond (ltb m 10) m 0) (number_of (role_no m))) 16 0 refl n (omega arith) (omega arith))

-- roles are told apart by their numbers
pub number_of_lem : (r : Role) → (role_no (number_of r) ≡ r) × (number_of r < 10)
unfolding role_no
number_of_lem unknown = (refl, lit< tt)
number_of_lem declares = (refl, lit< tt)
number_of_lem sets_label = (refl, lit< tt)
number_of_lem jumps_to = (refl, lit< tt)
number_of_lem exits = (refl, lit< tt)
number_of_lem branches = (refl, lit< tt)
number_of_lem loads = (refl, lit< tt)
number_of_lem stores = (refl, lit< tt)
number_of_lem constant = (refl, lit< tt)
number_of_lem computing = (refl, lit< tt)

pub same_number : (r s : Role) → number_of r ≡ number_of s → r ≡ s
same_number r s e = sym (number_of_lem r).0 ∙ ap role_no e ∙ (number_of_lem s).0
