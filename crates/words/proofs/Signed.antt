-- Signed numbers by the machine's, at its widths. Assumes nothing.
use mathlib.Core.Path.{◌≡◌, refl, sym, ◌∙◌}
use mathlib.Core.Bool.{false}
use Prim.Native.Nat.{ℕ, ◌%◌, ◌^◌}
use native.Mathlib.Nat.{mod-eq_of_lt}
use native.Mathlib.Omega.{arith}
use lib.IntN.{ℤ, pos, negsuc}
use lib.Signed.{quot_z, rem_z}
use mir.Syntax.{Width, w32, w64}
use mir.Val.{bits, Fits, SFits, to_z, of_z}
use Rattle.word.specs.Word.{bits_w, divs_w, rems_w, no_quotient}
use Rattle.word.proofs.Fits.{signed_states}
use Rattle.word.proofs.Signed.{Divided, reading, quotient, remainder}

-- the bits of a number of either width among 64
pub narrow_bits : (z : ℤ) → SFits w32 z → bits_w 64 z % 2 ^ 32 ≡ bits_w 32 z
narrow_bits (pos n) f = let l = f.sfits in mod-eq_of_lt (omega arith)
narrow_bits (negsuc n) f = let l = f.sfits in omega arith

pub wide_bits : (z : ℤ) → SFits w64 z → bits_w 64 z % 2 ^ 64 ≡ bits_w 64 z
wide_bits (pos n) f = let l = f.sfits in mod-eq_of_lt (omega arith)
wide_bits (negsuc n) f = let l = f.sfits in omega arith

as_bits : (w : Width) (z : ℤ) → of_z w z ≡ bits_w (bits w) z
as_bits w (pos n) = refl
as_bits w (negsuc n) = refl

module _ (w : Width) {a b : ℕ} {x y : ℤ} (fa : Fits w a) (fb : Fits w b) (stated : no_quotient (bits w) a b ≡ false) (ea : x ≡ to_z w a) (eb : y ≡ to_z w b) where
  divided : Divided w a b x y
  divided = reading fa fb ea eb refl stated

  pub by_quotient : {r : ℕ} → r ≡ of_z w (to_z w (of_z w (quot_z (to_z w (of_z w x)) (to_z w (of_z w y))))) → r ≡ divs_w (bits w) a b
  by_quotient e = signed_states (bits w) a b _ _ (sym (quotient divided (e ∙ as_bits w (to_z w (of_z w (quot_z (to_z w (of_z w x)) (to_z w (of_z w y))))))))

  pub by_remainder : {r : ℕ} → r ≡ of_z w (to_z w (of_z w (rem_z (to_z w (of_z w x)) (to_z w (of_z w y))))) → r ≡ rems_w (bits w) a b
  by_remainder e = signed_states (bits w) a b _ _ (sym (remainder divided (e ∙ as_bits w (to_z w (of_z w (rem_z (to_z w (of_z w x)) (to_z w (of_z w y))))))))
