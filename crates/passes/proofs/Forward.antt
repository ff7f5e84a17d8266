-- Fold, op by op from the first, and what it leaves. Assumes nothing.
use mathlib.Core.Path.{◌≡◌, refl, sym, ap, ◌∙◌, subst}
use mathlib.Core.Bool.{true, false}
use Rattle.std.specs.Prelude.{Option, None, Some}
use mathlib.Core.List.{List, [], ◌∷◌}
use mathlib.Core.Logic.{◌⊎◌, inl, inr}
use Prim.Native.Nat.{ℕ, suc, ◌+◌, ◌≤◌, ◌<◌}
use native.Mathlib.Nat.{add-zero}
use native.Mathlib.Omega.{arith}
use lib.Dec.{ltb}
use lib.ListN.{length, get_or, drop, set}
use lib.Seq.{drop-drop, get_or-drop, get_or-set_same, get_or-set_other}
use borrow.Author.Tests.{ltb-true, ltb-false}
use Rattle.theory.specs.Fold.{Known, nothing, on, Rewrite, learned, emit, fold as fold_ops}
use Rattle.theory.specs.Machine.{head_or}
use Rattle.theory.specs.Sets.{Vars, empty}
use Rattle.theory.proofs.Rule.{Puts, same, folds, puts}
use Rattle.theory.proofs.Sets.{tell}
use Rattle.ops.specs.Ops.{view_of, tcg}
use Rattle.ops.specs.Kinds.{document01}
use Rattle.ops.specs.Table.{row_of}
use Rattle.ops.proofs.Document01.{lawful}
use Rattle.ops.proofs.Folding.{constants}
use Rattle.ops.specs.Folds.{folding}
use Rattle.block.specs.Scan.{record_at}
use Rattle.passes.specs.Laid.{ops_at, Constant, Leaves}
use Rattle.passes.specs.Knows.{known_of, left_by, Folds, folded_ops, Folded}
use Rattle.passes.proofs.Knowing.{none_known}
use Rattle.passes.proofs.Placing.{ops_long, op_here}
use Rattle.passes.proofs.Result.{rule}

-- fold leaves one op for each
left_long : (os : List (List ℕ)) (k : Known ℕ) → length (fold_ops (tcg document01) (rule document01) os (on k)) ≡ length os
left_long [] k = refl
left_long (o ∷ os) k = go (rule document01 k o) (puts (tcg document01) (folding document01) (constants lawful) k o) (left_long os)
  where
    go : (y : Rewrite (List ℕ)) → Puts (tcg document01) (folding document01) (constants lawful) k o y
        → ((j : Known ℕ) → length (fold_ops (tcg document01) (rule document01) os (on j)) ≡ length os)
        → length (emit (tcg document01) (rule document01) k (fold_ops (tcg document01) (rule document01) os) y) ≡ suc (length os)
    go y same n = ap suc (n (learned k (view_of document01 o)))
    go y (folds xs vs t a g) n = ap suc (n (learned k (view_of document01 ((folding document01).const o (head_or 0 vs)))))

pub folded_long : (b P : List ℕ) (ops : ℕ) → length (folded_ops (ops_at b P 0 ops)) ≡ ops
folded_long b P ops = left_long (ops_at b P 0 ops) nothing ∙ ops_long b P 0 ops

below_next : (i j : ℕ) → j < i + 1 → (j < i) ⊎ (i ≡ j)
below_next i j l = go (tell (ltb j i))
  where
    go : (ltb j i ≡ true) ⊎ (ltb j i ≡ false) → (j < i) ⊎ (i ≡ j)
    go (inl q) = inl (ltb-true j i q)
    go (inr q) = inr (omega (arith, ltb-false j i q))

-- the ops before the i-th have been folded
pub record FoldingSo (b P marks constants : List ℕ) (known : Vars) (values : List ℕ) (ops i : ℕ) : Type 0 where
  pub left_so : drop i (folded_ops (ops_at b P 0 ops)) ≡ fold_ops (tcg document01) (rule document01) (drop i (ops_at b P 0 ops)) (on (known_of known values))
  pub done : (j : ℕ) → j < i → Leaves b (get_or P j 0) (get_or marks j 0) (get_or constants j 0) (get_or (folded_ops (ops_at b P 0 ops)) j [])
  pub few : (j : ℕ) → j < i → get_or marks j 0 < 2

pub folding_start : {b P marks constants : List ℕ} {known : Vars} {ops : ℕ} (values : List ℕ) → known ≡ empty → FoldingSo b P marks constants known values ops 0
folding_start {b} {P} {ops = ops} values e =
    record {
      left_so = ap (λ (k : Known ℕ). fold_ops (tcg document01) (rule document01) (ops_at b P 0 ops) (on k)) (sym (none_known values e));
      done = λ j l. absurd (omega arith);
      few = λ j l. absurd (omega arith);
    }

module _ {b P marks constants : List ℕ} {known : Vars} {values : List ℕ} {ops i : ℕ} (s : FoldingSo b P marks constants known values ops i) where
  abbrev os : List (List ℕ)
  os = ops_at b P 0 ops

  -- what fold leaves of the i-th, and of the rest
  module _ (h : i < ops) {known' : Vars} {values' : List ℕ} {r : Option ℕ} (f : Folds b (get_or P i 0) known values known' values' r) where
    abbrev o : List ℕ
    o = record_at row_of b (get_or P i 0)

    here : drop i (folded_ops os) ≡ left_by r o ∷ fold_ops (tcg document01) (rule document01) (drop (i + 1) os) (on (known_of known' values'))
    here =
        s.left_so
        ∙ ap (λ (q : List (List ℕ)). fold_ops (tcg document01) (rule document01) q (on (known_of known values))) (op_here b P h)
        ∙ ap (emit (tcg document01) (rule document01) (known_of known values) (fold_ops (tcg document01) (rule document01) (drop (i + 1) os))) f.rule_so
        ∙ ap (λ (k : Known ℕ). left_by r o ∷ fold_ops (tcg document01) (rule document01) (drop (i + 1) os) (on k)) (sym f.known_so)

    left_next : drop (i + 1) (folded_ops os) ≡ fold_ops (tcg document01) (rule document01) (drop (i + 1) os) (on (known_of known' values'))
    left_next = sym (drop-drop 1 i (folded_ops os)) ∙ ap (drop 1) here

    this : get_or (folded_ops (ops_at b P 0 ops)) i [] ≡ left_by r (record_at row_of b (get_or P i 0))
    this = ap (λ (n : ℕ). get_or (folded_ops os) n []) (sym (add-zero i)) ∙ sym (get_or-drop i (folded_ops os) 0 []) ∙ ap (λ (q : List (List ℕ)). get_or q 0 []) here

    stays_so : r ≡ None → (value : ℕ) → Leaves b (get_or P i 0) 0 value (get_or (folded_ops (ops_at b P 0 ops)) i [])
    stays_so e value = record { stays = λ z. this ∙ ap (λ (t : Option ℕ). left_by t o) e; becomes = λ z. absurd (omega arith) }

    becomes_so : {x : ℕ} → r ≡ Some x → Leaves b (get_or P i 0) 1 x (get_or (folded_ops (ops_at b P 0 ops)) i [])
    becomes_so {x} e =
        record {
          stays = λ z. absurd (omega arith);
          becomes = λ z. subst (Constant b (get_or P i 0) x) (sym (this ∙ ap (λ (t : Option ℕ). left_by t o) e)) (f.constant_so x e);
        }

    -- its mark is stored, and a constant's value
    module _ (marks' constants' : List ℕ) {m : ℕ} (em : get_or marks' i 0 ≡ m) (low : m < 2) (marks_so : (j : ℕ) → j < i → get_or marks' j 0 ≡ get_or marks j 0)
        (constants-so : (j : ℕ) → j < i → get_or constants' j 0 ≡ get_or constants j 0) where
      few_next : (j : ℕ) → (j < i) ⊎ (i ≡ j) → get_or marks' j 0 < 2
      few_next j (inl w) = omega (arith, marks_so j w, s.few j w)
      few_next j (inr e) = subst (λ (n : ℕ). get_or marks' n 0 < 2) e (omega (arith, em))

      done_next : Leaves b (get_or P i 0) (get_or marks' i 0) (get_or constants' i 0) (get_or (folded_ops (ops_at b P 0 ops)) i []) → (j : ℕ) → (j < i) ⊎ (i ≡ j)
          → Leaves b (get_or P j 0) (get_or marks' j 0) (get_or constants' j 0) (get_or (folded_ops (ops_at b P 0 ops)) j [])
      done_next w j (inl q) = rw (marks_so j q, constants-so j q) (s.done j q)
      done_next w j (inr e) = subst (λ (n : ℕ). Leaves b (get_or P n 0) (get_or marks' n 0) (get_or constants' n 0) (get_or (folded_ops (ops_at b P 0 ops)) n [])) e w

      next_so : Leaves b (get_or P i 0) m (get_or constants' i 0) (get_or (folded_ops (ops_at b P 0 ops)) i []) → FoldingSo b P marks' constants' known' values' ops (i + 1)
      next_so w = record { left_so = left_next; done = λ j l. done_next (rw em w) j (below_next i j l); few = λ j l. few_next j (below_next i j l) }

    pub folding_stays : i < length marks → r ≡ None → FoldingSo b P (set marks i 0) constants known' values' ops (i + 1)
    folding_stays long e =
        next_so (set marks i 0) constants (get_or-set_same marks i 0 0 long) (omega arith) (λ j l. get_or-set_other marks i j 0 0 (λ z. omega arith)) (λ j l. refl) (stays_so e (get_or constants i 0))

    pub folding_puts : i < length marks → i < length constants → {x : ℕ} → r ≡ Some x → FoldingSo b P (set marks i 1) (set constants i x) known' values' ops (i + 1)
    folding_puts long longer {x} e =
        next_so (set marks i 1) (set constants i x) (get_or-set_same marks i 1 0 long) (omega arith) (λ j l. get_or-set_other marks i j 1 0 (λ z. omega arith))
        (λ j l. get_or-set_other constants i j x 0 (λ z. omega arith)) (rw (get_or-set_same constants i x 0 longer) (becomes_so e))

  -- all have been folded
  pub folding_ends : ops ≤ i → Folded b P marks constants ops
  folding_ends h = record { left = λ j l. s.done j (omega arith); marks_few = λ j l. s.few j (omega arith) }
