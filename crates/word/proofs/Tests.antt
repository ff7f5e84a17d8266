-- What holds on both sides of a test holds of the choice. Assumes nothing.
use mathlib.Core.Path.{◌≡◌, refl, sym}
use mathlib.Core.Bool.{Bool, true, false, cond, not, ◌&&◌}

-- each side is told the test's answer
pub cond_told : {A : Type 0} (P : A → Type 0) (b : Bool) {x y : A} → (b ≡ true → P x) → (b ≡ false → P y) → P (cond b x y)
cond_told P true f g = f refl
cond_told P false f g = g refl

-- and where neither side needs it
pub cond_all : {A : Type 0} (P : A → Type 0) (b : Bool) {x y : A} → P x → P y → P (cond b x y)
cond_all P b p q = cond_told P b (λ e. p) (λ e. q)

-- of two tests, each that fails is told
pub cond_both : {A : Type 0} (P : A → Type 0) (b c : Bool) {x y : A} → (b ≡ true → c ≡ true → P x) → (b ≡ false → P y) → (c ≡ false → P y) → P (cond (b && c) x y)
cond_both P true true f g h = f refl refl
cond_both P true false f g h = h refl
cond_both P false c f g h = g refl

-- a test turned over
pub on : (b : Bool) → not b ≡ false → b ≡ true
on true e = refl
on false e = sym e

pub off : (b : Bool) → not b ≡ true → b ≡ false
off true e = sym e
off false e = refl
