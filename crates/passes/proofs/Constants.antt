-- The constant that takes an op's place. Assumes nothing.
use mathlib.Core.Path.{◌≡◌, sym, ap, ap₂, ◌∙◌}
use mathlib.Core.Bool.{true}
use mathlib.Core.List.{List, ◌∷◌, ◌++◌}
use Prim.Native.Nat.{ℕ, suc, ◌+◌, ◌-◌, ◌%◌, ◌≤◌}
use native.Mathlib.Omega.{arith}
use lib.ListN.{length, get_or, take, drop, length-drop}
use lib.Seq.{length-take-le, sets}
use Rattle.theory.specs.Machine.{head_or}
use Rattle.memory.specs.Bytes.{bytes_of}
use Rattle.memory.proofs.Numbers.{length_bytes}
use Rattle.ops.specs.Rows.{computing, Row, outs_in, types_in, types_of}
use Rattle.ops.specs.Kinds.{document01}
use Rattle.ops.specs.Table.{kind_table, row_of}
use Rattle.ops.specs.Rows.{role_of}
use Rattle.ops.specs.Folds.{foldable_row, folding, movi_kind}
use Rattle.ops.proofs.Entry.{digits}
use Rattle.ops.proofs.Table.{row_of_lem}
use Rattle.block.specs.Scan.{record_at, Stands}
use Rattle.block.proofs.Views.{body_from_lem, byte, row_at_lem}
use Rattle.passes.proofs.Stores.{sets_append}

-- an op that computes may fold, and has one output
pub computing_folds : (k : ℕ) → role_of row_of k ≡ computing → foldable_row (row_of k) ≡ true
computing_folds k r = rw (r, (row_of_lem computing k r).one_out)

module _ {e : ℕ} (k : ℕ) (q : e ≡ get_or kind_table k 0) (r : role_of row_of k ≡ computing) where
  pub one_output_lem : outs_in e ≡ 1
  one_output_lem = sym (digits kind_table q).outs ∙ ap length (row_of_lem computing k r).one_out

  -- whose type is the first of the entry's
  movi_kind_lem : {kind : ℕ} → kind ≡ movi_kind (types_in e % 4) → kind ≡ movi_kind (head_or 0 (row_of k).outs)
  unfolding types_of
  movi_kind_lem m =
      m ∙ sym (ap (λ (row : Row). movi_kind (head_or 0 row.outs)) (digits kind_table q).row ∙ ap (λ (n : ℕ). movi_kind (head_or 0 (types_of n (types_in e)))) one_output_lem)

pub constant_long : (o : List ℕ) (x : ℕ) → length ((folding document01).const o x) ≡ 10
constant_long o x = ap (λ (n : ℕ). suc (suc n)) (length_bytes 8 x)

-- its bytes
module _ {b : List ℕ} {p e : ℕ} (s : Stands row_of b p (get_or b p 0)) (q : e ≡ get_or kind_table (get_or b p 0) 0) (r : role_of row_of (get_or b p 0) ≡ computing) where
  constant_bytes : {kind : ℕ} (x : ℕ) → kind ≡ movi_kind (types_in e % 4) → kind ∷ get_or b (p + 1) 0 ∷ bytes_of 8 x ≡ (folding document01).const (record_at row_of b p) x
  constant_bytes x m =
      sym (ap₂ (λ (w : ℕ) (d : ℕ). w ∷ d ∷ bytes_of 8 x)
      (ap (λ (row : Row). movi_kind (head_or 0 row.outs)) (row_at_lem s) ∙ sym (movi_kind_lem (get_or b p 0) q r m))
      (byte s 1 (body_from_lem computing (get_or b p 0) r)))

  -- a run of bytes is stored, and the constant after it
  pub constant_after : {from kind : ℕ} {out₁ out₂ : List ℕ} (out : List ℕ) (to x : ℕ) → kind ≡ movi_kind (types_in e % 4) → from ≤ p → out₁ ≡ sets out to (take (p - from) (drop from b))
      → out₂ ≡ sets out₁ (to + (p - from)) (kind ∷ get_or b (p + 1) 0 ∷ bytes_of 8 x)
      → out₂ ≡ sets out to (take (p - from) (drop from b) ++ (folding document01).const (record_at row_of b p) x)
  constant_after {from} {kind} out to x m h w w' =
      let run = take (p - from) (drop from b) in
      let l : length (take (p - from) (drop from b)) ≡ p - from = length-take-le (p - from) (drop from b) (omega (arith, length-drop from b, s.whole)) in
      w' ∙ ap₂ (λ (y : List ℕ) (n : ℕ). sets y (to + n) (kind ∷ get_or b (p + 1) 0 ∷ bytes_of 8 x)) w (sym l)
      ∙ sym (sets_append out to run (kind ∷ get_or b (p + 1) 0 ∷ bytes_of 8 x)) ∙ ap (λ (y : List ℕ). sets out to (run ++ y)) (constant_bytes x m)
