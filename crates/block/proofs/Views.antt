-- What the op that starts at a place of a block does, from its kind's row and the block's bytes. Assumes nothing.
use mathlib.Core.Path.{◌≡◌, refl, sym, ap, ap₂, ◌∙◌, subst, fun_ext}
use Rattle.std.specs.Prelude.{Some}
use mathlib.Core.List.{List, [], ◌∷◌, ◌++◌}
use Prim.Native.Nat.{ℕ, zero, suc, ◌+◌, ◌≤◌, ◌<◌}
use native.Mathlib.Omega.{arith}
use lib.ListN.{length, get_or, take, drop, length-append}
use lib.Seq.{take-nil, get_or-take, drop-drop, get_or-drop}
use native.Mathlib.Nat.{zero-add, suc-add, add-zero, add-suc, add_assoc}
use Rattle.theory.specs.Machine.{always, when, to, View, calc, access, label, flow}
use Rattle.word.specs.Condition.{cond_w}
use Rattle.memory.specs.Bytes.{low_first}
use Rattle.memory.proofs.Numbers.{low_same}
use Rattle.ops.specs.Rows.{Role, unknown, declares, sets_label, jumps_to, exits, branches, loads, stores, constant, computing, Row, body_of, at, test_ok}
use Rattle.ops.specs.Kinds.{document01}
use Rattle.ops.specs.Table.{row_of}
use Rattle.ops.specs.Rows.{role_of, body_length, output_count, operand_count, Table}
use Rattle.ops.specs.Ops.{at_types, eval_of, Fault, leave, view_for, view_of}
use Rattle.ops.specs.Fields.{kind_of, row_at, bytes_at, outs_by, ins_by, rest_by, label_by}
use Rattle.ops.specs.Kinds.{op_width, load_at, store_at, load_of, store_of, holds_of}
use Rattle.ops.proofs.Inputs.{constant_states}
use Rattle.ops.proofs.Table.{type_at, RowFor, row_of_lem}
use Rattle.block.specs.Rules.{Seen, all_below, operands_of, rule4, rule6}
use Rattle.block.specs.Scan.{record_at, Stands}

-- the views, from the bytes that they read
abbrev pub constant_view : ℕ → ℕ → View ℕ (List ℕ) ℕ Fault
constant_view d x = calc (d ∷ []) [] (λ vs. Some (x ∷ []))

abbrev pub branch_view : ℕ → ℕ → ℕ → ℕ → ℕ → ℕ → View ℕ (List ℕ) ℕ Fault
branch_view k t a b c l = flow (a ∷ b ∷ []) (when (λ m vs. let xs = at_types (t ∷ t ∷ []) vs in cond_w (op_width k) c (at xs 0) (at xs 1))) (to l)

abbrev pub load_view : ℕ → ℕ → ℕ → ℕ → View ℕ (List ℕ) ℕ Fault
load_view k d a f = access (d ∷ []) (a ∷ []) (λ m vs. load_at (op_width k) f m (at vs 0))

abbrev pub store_view : ℕ → ℕ → ℕ → View ℕ (List ℕ) ℕ Fault
store_view x a f = access [] (x ∷ a ∷ []) (λ m vs. store_at f m (at vs 1) (at vs 0))

abbrev pub pure_view : ℕ → ℕ → List ℕ → List ℕ → View ℕ (List ℕ) ℕ Fault
pure_view k d ins rest = calc (d ∷ []) ins (eval_of document01 k rest)

-- no record of a role has fewer bytes after its kind than this
abbrev pub body_from : Role → ℕ
body_from unknown = 0
body_from declares = 2
body_from sets_label = 1
body_from jumps_to = 1
body_from exits = 1
body_from branches = 4
body_from loads = 3
body_from stores = 3
body_from constant = 9
body_from computing = 1

sized : (r : Role) (t : ℕ) (row : Row) → RowFor r t row → body_from r ≤ body_of row
sized unknown t row e = rw e (omega arith)
sized declares t row e = rw e (omega arith)
sized sets_label t row e = rw e (omega arith)
sized jumps_to t row e = rw e (omega arith)
sized exits t row e = rw e (omega arith)
sized branches t row e = rw e (omega arith)
sized loads t row e = rw e (omega arith)
sized stores t row e = rw e (omega arith)
sized constant t row e = rw e (omega arith)
sized computing t row c = omega (arith, ap length c.one_out)

pub body_from_lem : (r : Role) (k : ℕ) → role_of row_of k ≡ r → body_from r ≤ body_length row_of k
body_from_lem r k e = sized r (type_at k) (row_of k) (row_of_lem r k e)

-- lists
drop_take : (j n : ℕ) (l : List ℕ) → drop j (take (j + n) l) ≡ take n (drop j l)
drop_take zero n l = rw (zero-add n)
drop_take (suc j) n [] = rw (take-nil {A = ℕ} (suc j + n), take-nil {A = ℕ} n)
drop_take (suc j) n (x ∷ l) = rw (suc-add j n) (drop_take j n l)

bytes_append : (r : List ℕ) (n i m : ℕ) → bytes_at r i n ++ bytes_at r (i + n) m ≡ bytes_at r i (n + m)
bytes_append r zero i m = rw (add-zero i, zero-add m)
bytes_append r (suc n) i m = rw (suc-add n m) (ap (λ (xs : List ℕ). at r i ∷ xs) (ap (λ (j : ℕ). bytes_at r (suc i) n ++ bytes_at r j m) (add-suc i n ∙ sym (suc-add i n)) ∙ bytes_append r n (suc i) m))

-- the record at a place: its bytes are the block's
module _ {T : Table} {b : List ℕ} {p k : ℕ} (s : Stands T b p k) where
  pub byte : (i : ℕ) → i ≤ body_length T k → at (record_at T b p) i ≡ at b (p + i)
  byte i h = get_or-take (suc (body_length T (get_or b p 0))) (drop p b) i 0 (subst (λ (n : ℕ). i < suc (body_length T n)) s.its_kind (omega arith)) ∙ get_or-drop p b i 0

  pub kind_byte : kind_of (record_at T b p) ≡ k
  kind_byte = byte 0 (omega arith) ∙ ap (at b) (add-zero p) ∙ sym s.its_kind

  pub row_at_lem : row_at T (record_at T b p) ≡ T k
  row_at_lem = ap T kind_byte

  pub some_bytes : (n i : ℕ) → i + n ≤ suc (body_length T k) → bytes_at (record_at T b p) i n ≡ bytes_at b (p + i) n
  some_bytes zero i h = refl
  some_bytes (suc n) i h = ap₂ (λ (x : ℕ) (xs : List ℕ). x ∷ xs) (byte i (omega arith)) (some_bytes n (suc i) (omega arith) ∙ ap (λ (m : ℕ). bytes_at b m n) (add-suc p i))

  -- the operands: the outputs, then the inputs
  pub operand_bytes : operands_of T (record_at T b p) ≡ bytes_at b (p + 1) (operand_count T k)
  operand_bytes =
      ap (λ (row : Row). outs_by row (record_at T b p) ++ ins_by row (record_at T b p)) row_at_lem
      ∙ bytes_append (record_at T b p) (length (T k).outs) 1 (length (T k).ins)
      ∙ ap (bytes_at (record_at T b p) 1) (sym (length-append (T k).outs (T k).ins))
      ∙ some_bytes (operand_count T k) 1 (rw (length-append (T k).outs (T k).ins) (omega arith))

  pub input_bytes : ins_by (row_at T (record_at T b p)) (record_at T b p) ≡ bytes_at b (p + (1 + output_count T k)) (length (T k).ins)
  input_bytes = ap (λ (row : Row). ins_by row (record_at T b p)) row_at_lem ∙ some_bytes (length (T k).ins) (1 + output_count T k) (omega arith)

  -- the bytes after the operands
  pub rest_bytes : rest_by (T k) (record_at T b p) ≡ take (T k).rest (drop (p + (1 + operand_count T k)) b)
  rest_bytes =
      let row = T k in
      let j = 1 + (length row.outs + length row.ins) in
      let e : suc (body_length T k) ≡ j + row.rest = omega arith in
      ap (λ (n : ℕ). drop j (take (suc (body_length T n)) (drop p b))) (sym s.its_kind)
      ∙ ap (λ (n : ℕ). drop j (take n (drop p b))) e
      ∙ drop_take j row.rest (drop p b)
      ∙ ap (take row.rest) (drop-drop j p b)
      ∙ ap (λ (n : ℕ). take row.rest (drop (p + (1 + n)) b)) (sym (length-append row.outs row.ins))

  -- rule 6 is asked of them
  pub rule6_at : (t : Seen) → rule6 T t (record_at T b p) ≡ test_ok (T k).test (take (T k).rest (drop (p + (1 + operand_count T k)) b))
  unfolding rule6
  rule6_at t = ap (λ (row : Row). test_ok row.test (rest_by row (record_at T b p))) row_at_lem ∙ ap (test_ok (T k).test) rest_bytes

  -- and rule 4 of the operands
  pub rule4_at : (t : Seen) → rule4 T t (record_at T b p) ≡ all_below (length t.classes) (bytes_at b (p + 1) (operand_count T k))
  unfolding rule4
  rule4_at t = ap (all_below (length t.classes)) operand_bytes

  -- its label, if it has one
  pub label_byte : label_by (row_at T (record_at T b p)) (record_at T b p) ≡ at b (p + body_length T k)
  label_byte = ap (λ (row : Row). label_by row (record_at T b p)) row_at_lem ∙ byte (body_length T k) (omega arith)

  pub output_bytes : outs_by (row_at T (record_at T b p)) (record_at T b p) ≡ bytes_at b (p + 1) (output_count T k)
  output_bytes = ap (λ (row : Row). outs_by row (record_at T b p)) row_at_lem ∙ some_bytes (output_count T k) 1 (omega arith)

  after : (j i : ℕ) → j + i ≤ body_length T k → at (drop j (record_at T b p)) i ≡ at b (p + (j + i))
  after j i h = get_or-drop j (record_at T b p) i 0 ∙ byte (j + i) h

  low_after : (j n : ℕ) → j + n ≤ suc (body_length T k) → low_first (drop j (record_at T b p)) 0 n ≡ low_first b (p + j) n
  low_after j n h =
      low_same (drop j (record_at T b p)) b 0 (p + j) n
      (λ i l. ap (at (drop j (record_at T b p))) (zero-add i) ∙ after j i (omega arith) ∙ ap (at b) (sym (add_assoc p j i)))

  body_is : (row : Row) → T k ≡ row → body_of row ≡ body_length T k
  body_is row e = sym (ap body_of e)

-- what the op there does, by its role
module _ {b : List ℕ} {p k : ℕ} (s : Stands row_of b p k) where
  pub inside : {r : Role} → role_of row_of k ≡ r → (i : ℕ) → i ≤ body_from r → p + i < length b
  inside {r} e i h = let l : body_from r ≤ body_length row_of k = body_from_lem r k e in omega arith

  by_row : (row : Row) → row_of k ≡ row → view_of document01 (record_at row_of b p) ≡ view_for document01 row.role row (record_at row_of b p)
  unfolding view_of
  by_row row e = ap (λ (x : Row). view_for document01 x.role x (record_at row_of b p)) (row_at_lem s ∙ e)

  pub unknown_view : role_of row_of k ≡ unknown → view_of document01 (record_at row_of b p) ≡ leave []
  unknown_view e = by_row _ (row_of_lem unknown k e)

  pub declare_view : role_of row_of k ≡ declares → view_of document01 (record_at row_of b p) ≡ leave []
  declare_view e = by_row _ (row_of_lem declares k e)

  pub label_view : role_of row_of k ≡ sets_label → view_of document01 (record_at row_of b p) ≡ label (at b (p + 1))
  label_view e = by_row _ (row_of_lem sets_label k e) ∙ ap label (byte s 1 (omega (arith, body_is s _ (row_of_lem sets_label k e))))

  pub jump_view : role_of row_of k ≡ jumps_to → view_of document01 (record_at row_of b p) ≡ flow [] always (to (at b (p + 1)))
  jump_view e = by_row _ (row_of_lem jumps_to k e) ∙ ap (λ (l : ℕ). flow [] always (to l)) (byte s 1 (omega (arith, body_is s _ (row_of_lem jumps_to k e))))

  pub leave_view : role_of row_of k ≡ exits → view_of document01 (record_at row_of b p) ≡ leave (at b (p + 1) ∷ [])
  leave_view e = by_row _ (row_of_lem exits k e) ∙ ap (λ (x : ℕ). leave (x ∷ [])) (byte s 1 (omega (arith, body_is s _ (row_of_lem exits k e))))

  pub branch_view_lem : role_of row_of k ≡ branches → view_of document01 (record_at row_of b p) ≡ branch_view k (type_at k) (at b (p + 1)) (at b (p + 2)) (at b (p + 3)) (at b (p + 4))
  unfolding holds_of
  branch_view_lem e =
      let l = body_is s _ (row_of_lem branches k e) in
      by_row _ (row_of_lem branches k e) ∙ rw (kind_byte s, byte s 1 (omega (arith, l)), byte s 2 (omega (arith, l)), after s 3 0 (omega (arith, l)), byte s 4 (omega (arith, l)))

  pub load_view_lem : role_of row_of k ≡ loads → view_of document01 (record_at row_of b p) ≡ load_view k (at b (p + 1)) (at b (p + 2)) (at b (p + 3))
  unfolding load_of
  load_view_lem e =
      let l = body_is s _ (row_of_lem loads k e) in
      by_row _ (row_of_lem loads k e)
      ∙ rw (byte s 1 (omega (arith, l)), byte s 2 (omega (arith, l)))
      (ap (access (at b (p + 1) ∷ []) (at b (p + 2) ∷ [])) (fun_ext (λ m. fun_ext (λ vs. rw (kind_byte s, after s 3 0 (omega (arith, l)))))))

  pub store_view_lem : role_of row_of k ≡ stores → view_of document01 (record_at row_of b p) ≡ store_view (at b (p + 1)) (at b (p + 2)) (at b (p + 3))
  unfolding store_of
  store_view_lem e =
      let l = body_is s _ (row_of_lem stores k e) in
      by_row _ (row_of_lem stores k e)
      ∙ rw (byte s 1 (omega (arith, l)), byte s 2 (omega (arith, l)))
      (ap (access [] (at b (p + 1) ∷ at b (p + 2) ∷ [])) (fun_ext (λ m. fun_ext (λ vs. rw (after s 3 0 (omega (arith, l)))))))

  pub constant_view_lem : role_of row_of k ≡ constant → view_of document01 (record_at row_of b p) ≡ constant_view (at b (p + 1)) (low_first b (p + 2) 8)
  constant_view_lem e =
      let l = body_is s _ (row_of_lem constant k e) in
      by_row _ (row_of_lem constant k e)
      ∙ rw (byte s 1 (omega (arith, l)))
      (ap (calc (at b (p + 1) ∷ []) [])
      (fun_ext (λ vs. constant_states (kind_of (record_at row_of b p)) (ap (role_of row_of) (kind_byte s) ∙ e) _ vs ∙ ap (λ (x : ℕ). Some (x ∷ [])) (low_after s 2 8 (omega (arith, l))))))

  pub pure_view_lem : role_of row_of k ≡ computing
      → view_of document01 (record_at row_of b p) ≡ pure_view k (at b (p + 1)) (bytes_at b (p + 2) (length (row_of k).ins)) (take (row_of k).rest (drop (p + (1 + operand_count row_of k)) b))
  pure_view_lem e =
      let c = row_of_lem computing k e in
      let single : length (row_of k).outs ≡ 1 = ap length c.one_out in
      let o : outs_by (row_of k) (record_at row_of b p) ≡ at b (p + 1) ∷ [] = ap (bytes_at (record_at row_of b p) 1) single ∙ some_bytes s 1 1 (omega arith) in
      let i : ins_by (row_of k) (record_at row_of b p) ≡ bytes_at b (p + 2) (length (row_of k).ins) = ap (λ (n : ℕ). bytes_at (record_at row_of b p) (1 + n) (length (row_of k).ins)) single ∙ some_bytes s (length (row_of k).ins) 2 (omega arith) in
      by_row (row_of k) refl ∙ ap (λ (r : Role). view_for document01 r (row_of k) (record_at row_of b p)) e ∙ rw (o, i, rest_bytes s, kind_byte s)
