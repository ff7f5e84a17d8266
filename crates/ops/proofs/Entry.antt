-- The row of a kind, from the digits of its entry. Assumes nothing.
use mathlib.Core.Path.{◌≡◌, sym, ap, ap₂, ◌∙◌}
use mathlib.Core.List.{List, ◌∷◌, ◌++◌}
use Prim.Native.Nat.{ℕ, zero, suc, ◌+◌, ◌/◌, ◌%◌, ◌^◌}
use native.Mathlib.Nat.{zero-add, suc-add, pow-zero, pow-succ', div-one, div-div-eq-div-mul}
use lib.ListN.{length, get_or, length-append}
use Rattle.ops.specs.Rows.{outs_in, ins_in, rest_in, role_in, types_in, types_of, role_no, row_in, Row, is_known, table_of, Table}
use Rattle.ops.specs.Rows.{known, body_length, output_count, operand_types, operand_count}
use Rattle.ops.proofs.Table.{types_length}

types_append : (a b x : ℕ) → types_of a x ++ types_of b (x / 4 ^ a) ≡ types_of (a + b) x
unfolding types_of
types_append zero b x = ap (types_of b) (ap (λ (n : ℕ). x / n) (pow-zero 4) ∙ div-one x) ∙ ap (λ (n : ℕ). types_of n x) (sym (zero-add b))
types_append (suc a) b x =
    ap (λ (xs : List ℕ). x % 4 ∷ xs)
    (ap (λ (n : ℕ). types_of a (x / 4) ++ types_of b n) (ap (λ (n : ℕ). x / n) (pow-succ' 4 a) ∙ sym (div-div-eq-div-mul x 4 (4 ^ a))) ∙ types_append a b (x / 4))
    ∙ ap (λ (n : ℕ). types_of n x) (sym (suc-add a b))

-- the entry e of the kind k
pub record Digits (T : Table) (e k : ℕ) : Type 0 where
  pub row : T k ≡ row_in e
  pub is_known : known T k ≡ is_known (role_no (role_in e))
  pub outs : output_count T k ≡ outs_in e
  pub ins : length (T k).ins ≡ ins_in e
  pub rest : (T k).rest ≡ rest_in e
  pub operands : operand_count T k ≡ outs_in e + ins_in e
  pub types : operand_types T k ≡ types_of (outs_in e + ins_in e) (types_in e)
  pub body : body_length T k ≡ outs_in e + ins_in e + rest_in e

by_row : (T : Table) {e k : ℕ} → T k ≡ row_in e → Digits T e k
by_row T {e} {k} row =
    let outs : output_count T k ≡ outs_in e = ap (λ (r : Row). length r.outs) row ∙ types_length (outs_in e) (types_in e) in
    let ins : length (T k).ins ≡ ins_in e = ap (λ (r : Row). length r.ins) row ∙ types_length (ins_in e) (types_in e / 4 ^ outs_in e) in
    let rest : (T k).rest ≡ rest_in e = ap (λ (r : Row). r.rest) row in
    record {
      row = row;
      is_known = ap (λ (r : Row). is_known r.role) row;
      outs = outs;
      ins = ins;
      rest = rest;
      operands = length-append (T k).outs (T k).ins ∙ ap₂ (λ (m n : ℕ). m + n) outs ins;
      types = ap (λ (r : Row). r.outs ++ r.ins) row ∙ types_append (outs_in e) (ins_in e) (types_in e);
      body = ap₂ (λ (m n : ℕ). m + n) (ap₂ (λ (m n : ℕ). m + n) outs ins) rest;
    }

pub digits : (kinds : List ℕ) {e k : ℕ} → e ≡ get_or kinds k 0 → Digits (table_of kinds) e k
unfolding table_of
digits kinds q = by_row (table_of kinds) (ap row_in (sym q))
