-- Refusals that are the same are so in number and place. Assumes nothing.
use mathlib.Core.Path.{◌≡◌, ap}
use Rattle.std.specs.Prelude.{Result, Err}
use Rattle.block.specs.declared.Refusal.{Refusal}

module _ {A : Type 0} {r s : Refusal} (e : ◌≡◌ {A = Result A Refusal} (Err r) (Err s)) where
  pub same_refusal : r ≡ s
  same_refusal = cc

  pub same_number : r.number ≡ s.number
  same_number = ap (λ (x : Refusal). x.number) same_refusal

  pub same_place : r.place ≡ s.place
  same_place = ap (λ (x : Refusal). x.place) same_refusal
