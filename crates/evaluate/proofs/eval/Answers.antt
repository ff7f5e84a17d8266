-- What the ops that may fold state, by kind. Assumes nothing.
use mathlib.Core.Path.{sym, ◌∙◌}
use mathlib.Core.Logic.{◌⊎◌, inl, inr}
use Prim.Native.Nat.{◌<◌}
use native.Mathlib.Omega.{arith}
use Rattle.ops.proofs.Folded.{folded_convert, read_narrow, read_wide}
use borrow.Author.Rules.{rules}
use Rattle.evaluate.proofs.eval.Goals as goal
use Rattle.evaluate.proofs.eval.Goals.{in_default-via-then-kind-lt5, in_default-via-else-kind-lt5+else-kind-lt8+then-kind-lt128}

pub returns-in-5-to-7 : goal.returns-in-5-to-7
returns-in-5-to-7 c =
    let s = c in
    c.converted.ensures ∙ sym (folded_convert s.args.kind _ _ _ _ _ (omega arith) (omega arith) (omega arith))

pub returns-in-128-to-255 : goal.returns-in-128-to-255
returns-in-128-to-255 c = c.family.ensures ∙ read_wide _ _ _ _ _ _ (omega arith) (omega arith) (search rules) (search rules) (search rules) (search rules)

pub returns-in_default : goal.returns-in_default
returns-in_default c =
    let narrow : (c.args.kind < 0x05) ⊎ ((0x07 < c.args.kind) × (c.args.kind < 0x80)) = elim c.in_default.branch [ in_default-via-then-kind-lt5 w ↦ inl (omega arith) | in_default-via-else-kind-lt5+else-kind-lt8+then-kind-lt128 w ↦ inr (omega arith, omega arith) ] in
    c.family-in_default.ensures
    ∙ read_narrow _ _ _ _ _ _ narrow c.trunc_i64_i32.ensures c.trunc_i64_i32-in_default.ensures c.trunc_i64_i32-in_default-2.ensures c.trunc_i64_i32-in_default-3.ensures
