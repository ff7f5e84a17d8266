-- One or two bytes are tested without a loop. Assumes nothing.
use mathlib.Core.Path.{◌≡◌, refl, sym, ap, ap₂, ◌∙◌}
use mathlib.Core.Bool.{Bool, ◌&&◌}
use mathlib.Core.List.{List}
use Prim.Native.Nat.{ℕ, zero, suc, ◌+◌, ◌-◌, ◌≤◌}
use native.Mathlib.Omega.{arith}
use lib.ListN.{length, get_or, take, drop}
use lib.Seq.{drop-cons}
use Rattle.std.specs.List.{list_all}
use Rattle.ops.specs.Fields.{bytes_at}
use Rattle.passes.specs.Knows.{every_in}
use borrow.Author.Tests.{not-true, not-false}
use Rattle.block.specs.Scan.{marked}
use Rattle.passes.proofs.Knowing.{ends_known, ends_unknown}
use Rattle.fold.proofs.all_known.Goals as goal

-- the bytes from a place on, as a part of the block
all_of : (l : ℕ → Bool) (b : List ℕ) (p n : ℕ) → p + n ≤ length b → list_all l (take n (drop p b)) ≡ every_in (bytes_at b p n) l
all_of l b p zero h = refl
all_of l b p (suc n) h =
    ap (λ (x : List ℕ). list_all l (take (suc n) x)) (drop-cons b p 0 (omega arith))
    ∙ ap (λ (t : Bool). l (get_or b p 0) && t) (all_of l b (suc p) n (omega arith))

pub returns-then-not-is_known : goal.returns-then-not-is_known
returns-then-not-is_known c =
    let s = c in
    sym (ends_unknown s.args.block.now s.args.from s.args.count (marked s.args.known.now) s.requires.1 (sym (ap₂ (λ (t u : Bool). t && u) c.is_known.ensures c.is_known-2.ensures) ∙ not-true _ c.if-not-is_known.true-raw))

pub returns-then-count-le2 : goal.returns-then-count-le2
returns-then-count-le2 c =
    let s = c in
    sym (not-false _ c.if-not-is_known.false-raw) ∙ (ap₂ (λ (t u : Bool). t && u) c.is_known.ensures c.is_known-2.ensures) ∙ ends_known s.args.block.now s.args.from s.args.count (marked s.args.known.now) s.requires.1 c.if-count-le2.true

pub returns : goal.returns
returns c =
    let a = c.args in
    let known = marked a.known.now in
    let long : a.from + a.count - a.from ≡ a.count = omega arith in
    c.each_known.ensures ∙ ap (λ (n : ℕ). list_all known (take n (drop a.from a.block.now))) long ∙ all_of known a.block.now a.from a.count c.requires.0
