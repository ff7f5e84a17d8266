-- Sign extension: from 32 to 64 bits, and by an arithmetic shift. Assumes nothing.
use mathlib.Core.Path.{◌≡◌, refl, sym, ap, ◌∙◌, subst}
use mathlib.Core.Bool.{Bool, true, false, cond}
use Prim.Native.Nat.{ℕ, suc, ◌+◌, ◌-◌, ◌/◌, ◌^◌, ◌≤◌, ◌<◌}
use native.Mathlib.Nat.{le-div_iff_mul-le}
use native.Mathlib.Omega.{arith}
use lib.Dec.{ltb}
use lib.IntN.{pos, negsuc}
use lib.Pow.{pow_pos, pow_mono, pow-add, shr_lt}
use lib.Signed.{shr_z}
use borrow.Author.Tests.{ltb-true, ltb-false, lt-ltb, le-ltb}
use mir.Syntax.{w32, w64}
use mir.Val.{Fits, SFits, to_z, sel}
use mir.Facts.{sfits_to_z, sfits_widen}
use Rattle.word.specs.Word.{signed_w, bits_w, sar_w, extend_w}
use Rattle.word.proofs.Bits.{not_shr}

-- the reading at 32 bits fits 64
pub reading_fits : {a : ℕ} → Fits w32 a → SFits w64 (to_z w32 a)
reading_fits f = sfits_widen tt (sfits_to_z f)

-- extension keeps the reading
pub extended : (a : ℕ) → Fits w32 a → bits_w 64 (signed_w 32 a) ≡ extend_w 32 64 a
unfolding extend_w
extended a f = by (ltb a (2 ^ 31)) refl
  where
    by : (t : Bool) → ltb a (2 ^ 31) ≡ t → bits_w 64 (sel t (pos a) (negsuc (2 ^ 32 - suc a))) ≡ cond t a (a + (2 ^ 64 - 2 ^ 32))
    by true e = refl
    by false e = let l = f.fits in omega arith

-- an arithmetic shift down to len bits reads them as signed
pub sar_extends : (w len a : ℕ) → 0 < len → len ≤ w → a < 2 ^ w → sar_w w a (w - len) ≡ extend_w len w (a / 2 ^ (w - len))
unfolding sar_w extend_w
sar_extends w len a some-bit long h = go (ltb a (2 ^ (w - 1))) refl
  where
    v : ℕ
    v = w - len

    e : len + v ≡ w
    e = omega arith

    top : len - 1 + v ≡ w - 1
    top = omega arith

    go : (t : Bool) → ltb a (2 ^ (w - 1)) ≡ t
        → bits_w w (shr_z (sel t (pos a) (negsuc (2 ^ w - suc a))) (2 ^ v)) ≡ cond (ltb (a / 2 ^ v) (2 ^ (len - 1))) (a / 2 ^ v) (a / 2 ^ v + (2 ^ w - 2 ^ len))
    go true t =
        let l : a / 2 ^ v < 2 ^ (len - 1) = shr_lt (len - 1) v (subst (λ (n : ℕ). a < 2 ^ n) (sym top) (ltb-true a (2 ^ (w - 1)) t)) in
        sym (ap (λ (b : Bool). cond b (a / 2 ^ v) (a / 2 ^ v + (2 ^ w - 2 ^ len))) (lt-ltb (a / 2 ^ v) (2 ^ (len - 1)) l))
    go false t =
        let l : 2 ^ (w - 1) ≤ a = ltb-false a (2 ^ (w - 1)) t in
        let q = a / 2 ^ v in
        let h' : a < 2 ^ (len + v) = subst (λ (n : ℕ). a < 2 ^ n) (sym e) h in
        let b : q < 2 ^ len = shr_lt len v h' in
        let m : 2 ^ (len - 1) ≤ q = (le-div_iff_mul-le (pow_pos v)).1 (subst (λ (x : ℕ). x ≤ a) (sym (sym (pow-add 2 (len - 1) v) ∙ ap (2 ^◌) top)) l) in
        let c : (2 ^ w - suc a) / 2 ^ v ≡ (2 ^ len - 1) - q =
        ap (λ (x : ℕ). x / 2 ^ v) (omega arith) ∙ subst (λ (n : ℕ). ((2 ^ n - 1) - a) / 2 ^ v ≡ (2 ^ len - 1) - q) e (not_shr a len v h') in
        let k : 2 ^ len ≤ 2 ^ w = pow_mono long in
        ap (λ (x : ℕ). 2 ^ w - suc x) c ∙ omega arith
        ∙ sym (ap (λ (b : Bool). cond b q (q + (2 ^ w - 2 ^ len))) (le-ltb q (2 ^ (len - 1)) m))
