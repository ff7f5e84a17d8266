-- `op_ok` is the fast test of an op. Assumes nothing.
use mathlib.Core.Path.{◌≡◌, refl, sym, ◌∙◌}
use mathlib.Core.Bool.{Bool, true, false, ◌&&◌}
use mathlib.Core.List.{List, []}
use Prim.Native.Nat.{ℕ, ◌+◌, ◌-◌, ◌≤◌, ◌<◌}
use native.Mathlib.Omega.{arith}
use borrow.Author.Rules.{rules}
use lib.Bits.{bit_and}
use lib.Dec.{eqb, ltb}
use lib.ListN.{length, get_or}
use Rattle.ops.specs.Limits.{max_ops}
use Rattle.ops.specs.Plans.{length_by, length_in, byte_ask_in, byte_at_in, byte_test_by, plan_of, rank_of, plan_at, straight_end, entry_at}
use Rattle.ops.proofs.Plans.{plan_at_lem, straight_so}
use Rattle.block.specs.Scan.{Placed, byte_ok, three_fit, more_ok, op_passes, refusal_table}
use Rattle.block.proofs.Quick.{length_is, fails_short, placed, fails_fit, passes_so, passes_straight, byte_is, both_so}
use Rattle.op_tests.proofs.op_ok.Goals as goal

-- the op at a place, by the rank and the record's length of its kind
module _ (b : List ℕ) (p : ℕ) {rank n h : ℕ} (here : p < length b) (z : rank ≡ rank_of (entry_at b p)) (w : n ≡ length_by (entry_at b p)) (its : h ≡ plan_at rank) where
  plan : h ≡ plan_of (entry_at b p)
  plan = its ∙ plan_at_lem _ refl z

  long : n ≡ length_in h
  long = length_is b p 0 [] [] _ refl refl plan w

  short : (ops : ℕ) (vars labels : List ℕ) → length b - p < n → false ≡ op_passes (entry_at b p) b p ops vars labels
  short ops vars labels l = fails_short b p ops vars labels _ refl refl plan (omega (arith, l, long))

  -- it is whole
  module _ (l : n ≤ length b - p) where
    whole : length_in h ≤ length b - p
    whole = omega (arith, l, long)

    there : Placed h b p
    there = placed b p 0 [] [] _ refl refl plan whole here

    -- the first tests
    module _ (ops : ℕ) (vars labels : List ℕ) {asked i : ℕ} {three byte few : Bool} (t : three ≡ three_fit h b p vars) (a : asked ≡ byte_ask_in h) (x : i ≡ byte_at_in h)
        (small : get_or b (p + i) 0 < 256) (y : byte ≡ eqb (bit_and (get_or refusal_table (get_or b (p + i) 0) 0) asked) 0) (u : few ≡ ltb ops max_ops) where
      tests : (three && byte && few) ≡ (three_fit h b p vars && byte_ok (byte_test_by (entry_at b p)) (get_or b (p + byte_at_in h) 0) && ltb ops max_ops)
      tests = both_so (both_so t (byte_is b p ops vars labels _ refl refl plan refl a x small y)) u

      fails : (three && byte && few) ≡ false → false ≡ op_passes (entry_at b p) b p ops vars labels
      fails f = fails_fit b p ops vars labels _ refl refl plan whole here (sym tests ∙ f)

      module _ (f : (three && byte && few) ≡ true) {r : Bool} where
        straight : r ≡ ltb rank straight_end → r ≡ true → true ≡ op_passes (entry_at b p) b p ops vars labels
        straight s g = passes_straight b p ops vars labels _ refl refl plan whole here (sym tests ∙ f) (straight_so _ refl z (sym s ∙ g))

        passes : r ≡ more_ok h b p vars labels → r ≡ op_passes (entry_at b p) b p ops vars labels
        passes m = passes_so b p ops vars labels _ refl refl plan whole here (sym tests ∙ f) m

pub returns-then-block-at : goal.returns-then-block-at
returns-then-block-at c = let r = c.requires in short c.args.block.now c.args.at r.0 r.1 r.2 c.plan-plan.ensures _ _ _ c.if-block-at.true

pub bounds-block-at : goal.bounds-block-at
bounds-block-at c =
    let r = c.requires in
    let p = there c.args.block.now c.args.at r.0 r.1 r.2 c.plan-plan.ensures c.if-block-at.false in
    omega (arith, p.whole, p.byte, c.byte_at.ensures)

pub three_fit-requires : goal.three_fit-requires
three_fit-requires c = let r = c.requires in there c.args.block.now c.args.at r.0 r.1 r.2 c.plan-plan.ensures c.if-block-at.false

pub more_ok-requires : goal.more_ok-requires
more_ok-requires c = let r = c.requires in there c.args.block.now c.args.at r.0 r.1 r.2 c.plan-plan.ensures c.if-block-at.false

pub returns-then-not-three_fit-pass : goal.returns-then-not-three_fit-pass
returns-then-not-three_fit-pass c =
    let r = c.requires in
    fails c.args.block.now c.args.at r.0 r.1 r.2 c.plan-plan.ensures c.if-block-at.false c.args.op c.args.vars.now c.args.labels.now c.three_fit.ensures c.byte_ask.ensures c.byte_at.ensures (search rules) c.pass.ensures c.op_fits.ensures
    c.if-not-three_fit-pass.true

pub returns-then-is_straight : goal.returns-then-is_straight
returns-then-is_straight c =
    let r = c.requires in
    straight c.args.block.now c.args.at r.0 r.1 r.2 c.plan-plan.ensures c.if-block-at.false c.args.op c.args.vars.now c.args.labels.now c.three_fit.ensures c.byte_ask.ensures c.byte_at.ensures (search rules) c.pass.ensures c.op_fits.ensures
    c.if-not-three_fit-pass.false c.is_straight.ensures c.if-is_straight.true

pub returns : goal.returns
returns c =
    let r = c.requires in
    passes c.args.block.now c.args.at r.0 r.1 r.2 c.plan-plan.ensures c.if-block-at.false c.args.op c.args.vars.now c.args.labels.now c.three_fit.ensures c.byte_ask.ensures c.byte_at.ensures (search rules) c.pass.ensures c.op_fits.ensures
    c.if-not-three_fit-pass.false c.more_ok.ensures
