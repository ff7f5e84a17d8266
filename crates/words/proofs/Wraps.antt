-- What wraps at the width and loses nothing. Assumes nothing.
use mathlib.Core.Path.{◌≡◌}
use Prim.Native.Nat.{ℕ, ◌-◌, ◌/◌, ◌%◌, ◌^◌, ◌<◌}
use native.Mathlib.Nat.{mod-eq_of_lt}
use lib.Bits.{bit_or, bit_xor, or_lt, xor_lt}
use Rattle.word.specs.Word.{add_w, shl_w, rotl_w, rotr_w}
use Rattle.word.proofs.Fits.{rotl_fits, rotr_fits}

pub or_low : (w a b : ℕ) → a < 2 ^ w → b < 2 ^ w → bit_or a b % 2 ^ w ≡ bit_or a b
or_low w a b ha hb = mod-eq_of_lt (or_lt w a b ha hb)

pub xor_low : (w a b : ℕ) → a < 2 ^ w → b < 2 ^ w → bit_xor a b % 2 ^ w ≡ bit_xor a b
xor_low w a b ha hb = mod-eq_of_lt (xor_lt w a b ha hb)

-- the two parts of a word that is turned have no bit in common
pub turned_left : (w a k : ℕ) → k < w → a < 2 ^ w → add_w w (shl_w w a k) (a / 2 ^ (w - k)) ≡ rotl_w w a k
turned_left w a k l h = mod-eq_of_lt (rotl_fits w a k l h)

pub turned_right : (w a k : ℕ) → k < w → a < 2 ^ w → add_w w (shl_w w a (w - k)) (a / 2 ^ k) ≡ rotr_w w a k
turned_right w a k l h = mod-eq_of_lt (rotr_fits w a k l h)
