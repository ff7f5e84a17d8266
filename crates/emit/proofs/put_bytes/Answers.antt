-- All of the bytes are copied. Assumes nothing.
use mathlib.Core.Path.{◌≡◌, refl, ap, ◌∙◌}
use mathlib.Core.List.{List, [], ◌∷◌}
use Prim.Native.Nat.{ℕ}
use lib.ListN.{length, take}
use lib.Seq.{sets}
use Rattle.emit.proofs.put_bytes.Goals as goal

whole : (xs : List ℕ) → take (length xs) xs ≡ xs
whole [] = refl
whole (x ∷ xs) = ap (λ (ys : List ℕ). x ∷ ys) (whole xs)

pub returns : goal.returns
returns c = c.copy.ensures ∙ ap (sets c.args.out.now c.args.to) (whole c.args.bytes.now)
