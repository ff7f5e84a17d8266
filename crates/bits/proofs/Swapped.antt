-- What a swap states, by its tests. Assumes nothing.
use mathlib.Core.Path.{◌≡◌, ap, ◌∙◌}
use mathlib.Core.Bool.{Bool, true, false, not, cond, ◌||◌}
use Prim.Native.Nat.{ℕ, ◌+◌, ◌*◌, ◌%◌, ◌^◌, ◌≤◌, ◌<◌}
use native.Mathlib.Nat.{mod-eq_of_lt, lt_of_lt_of_le}
use native.Mathlib.Omega.{arith}
use Rattle.std.specs.Prelude.{Option, None, Some}
use lib.Dec.{ltb}
use lib.Pow.{pow_mono}
use borrow.Author.Tests.{lt-ltb, le-leb}
use Rattle.word.specs.Word.{extend_w}
use Rattle.word.specs.Fields.{by_field, sextract_w}
use Rattle.word.specs.Swaps.{has_iz, has_os, input_ok, swap_bytes, by_input, bswap_w}
use Rattle.word.proofs.FieldLeaves.{sextract_low}
use Rattle.word.proofs.Swaps.{no_input, has_input}

-- len bits of a word that has no others, by the field that they are
pub by_sign : (w len s : ℕ) {l : ℕ} {r : Option ℕ} → 0 < len → len ≤ w → s < 2 ^ len → l ≡ s % 2 ^ w → r ≡ by_field w 0 len (sextract_w w 0 len l) → r ≡ Some (extend_w len w s)
unfolding by_field
by_sign w len s some room fits low e =
    let same = low ∙ mod-eq_of_lt (lt_of_lt_of_le fits (pow_mono room)) in
    e ∙ rw (lt-ltb 0 len some, le-leb (0 + len) w (omega arith), same) (ap Some (sextract_low w len s fits))

-- of n bytes, by the number of the word and the test on it
module _ (w n flags : ℕ) {x a : ℕ} {t : Bool} (same : x ≡ a) (tested : t ≡ (not (has_iz flags) || ltb x (2 ^ (8 * n)))) where
  of_word : t ≡ input_ok n flags a
  of_word = tested ∙ ap (input_ok n flags) same

  pub unstated : t ≡ false → None ≡ by_input n flags a (bswap_w w n flags a)
  unstated off = no_input n flags a of_word _ (ap not off)

  pub swapped : {s : ℕ} {r : Option ℕ} → t ≡ true → s ≡ swap_bytes n x → r ≡ Some (cond (has_os flags) (extend_w (8 * n) w s) s) → r ≡ by_input n flags a (bswap_w w n flags a)
  unfolding bswap_w
  swapped {s} passed e r =
      let q : s ≡ swap_bytes n a = e ∙ ap (swap_bytes n) same in
      r ∙ has_input n flags a of_word (ap not passed) (ap (λ (y : ℕ). cond (has_os flags) (extend_w (8 * n) w y) y) q)
