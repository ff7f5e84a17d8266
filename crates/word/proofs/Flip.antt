-- The signed order is the order of the words with their top bits turned over, over the width. Assumes nothing.
use mathlib.Core.Path.{◌≡◌, sym, ap, ◌∙◌}
use Prim.Native.Nat.{ℕ, zero, suc, ◌+◌, ◌-◌, ◌*◌, ◌^◌, ◌≤◌, ◌<◌}
use native.Mathlib.Nat.{one-mul, zero-mul, zero-add, add-zero}
use native.Mathlib.Decide.{dec_lt}
use native.Mathlib.Omega.{arith}
use lib.Bits.{bit_xor, xor_comm, xor_shifted, xor_block, xor_zero_r}
use lib.Dec.{ltb, leb, eqb}
use lib.IntN.{pos, negsuc}
use lib.Pow.{pow_pos}
use borrow.Author.Tests.{lt-ltb, le-ltb, le-leb, lt-leb, eq-eqb, ne_eqb}
use Rattle.word.specs.Word.{signed_w}
use Rattle.word.specs.Condition.{lts_w, les_w}

-- a word with its top bit turned over
abbrev pub flip : ℕ → ℕ → ℕ
flip w a = bit_xor a (2 ^ (w - 1))

-- below the half the bit is added, from it on it is taken away
flip_low : (h a : ℕ) → a < 2 ^ h → bit_xor a (2 ^ h) ≡ 2 ^ h + a
flip_low h a l =
    xor_comm a (2 ^ h) ∙ ap (λ (n : ℕ). bit_xor n a) (sym (one-mul (2 ^ h))) ∙ xor_shifted 1 h a l ∙ ap (λ (n : ℕ). n + a) (one-mul (2 ^ h))

flip_high : (h r : ℕ) → r < 2 ^ h → bit_xor (2 ^ h + r) (2 ^ h) ≡ r
flip_high h r l =
    (λ i. bit_xor (sym (one-mul (2 ^ h)) i + r) (sym (add-zero (2 ^ h)) i))
    ∙ ap (λ (n : ℕ). bit_xor (1 * 2 ^ h + r) (n + 0)) (sym (one-mul (2 ^ h)))
    ∙ xor_block h 1 1 r 0 l (pow_pos h)
    ∙ ap (λ (n : ℕ). 0 * 2 ^ h + n) (xor_zero_r r) ∙ ap (λ (n : ℕ). n + r) (zero-mul (2 ^ h)) ∙ zero-add r

-- a width's power is at most twice its half's
halves : (w : ℕ) → 2 ^ w ≤ 2 ^ (w - 1) + 2 ^ (w - 1)
halves zero = omega arith
halves (suc h) = let e : suc h - 1 ≡ h = omega arith in rw e (omega arith)

-- a word in the lower half or the upper one: its reading, and its flip
data Half (w a : ℕ) : Type 0 where
  low : a < 2 ^ (w - 1) → signed_w w a ≡ pos a → flip w a ≡ 2 ^ (w - 1) + a → Half w a
  high : 2 ^ (w - 1) ≤ a → signed_w w a ≡ negsuc (2 ^ w - suc a) → flip w a ≡ a - 2 ^ (w - 1) → Half w a

halved : (w a : ℕ) → a < 2 ^ w → Half w a
halved w a f = by (dec_lt a (2 ^ (w - 1)))
  where
    by : Dec (a < 2 ^ (w - 1)) → Half w a
    by (yes p) = low p (rw (lt-ltb a (2 ^ (w - 1)) p)) (flip_low (w - 1) a p)
    by (no p) =
        let l : 2 ^ (w - 1) ≤ a = omega arith in
        let e : a ≡ 2 ^ (w - 1) + (a - 2 ^ (w - 1)) = omega arith in
        let s : a - 2 ^ (w - 1) < 2 ^ (w - 1) = (let q = halves w in omega arith) in
        high l (rw (le-ltb a (2 ^ (w - 1)) l)) (ap (λ (n : ℕ). bit_xor n (2 ^ (w - 1))) e ∙ flip_high (w - 1) (a - 2 ^ (w - 1)) s)

-- how two numbers stand
data Order (a b : ℕ) : Type 0 where
  less : a < b → Order a b
  equal : a ≡ b → Order a b
  more : b < a → Order a b

order : (a b : ℕ) → Order a b
order a b = by (dec_lt a b) (dec_lt b a)
  where
    by : Dec (a < b) → Dec (b < a) → Order a b
    by (yes p) d = less p
    by (no p) (yes q) = more q
    by (no p) (no q) = equal (omega arith)

-- x and y stand as a and b do
record Same (x y a b : ℕ) : Type 0 where
  lt : ltb x y ≡ ltb a b
  le : leb x y ≡ leb a b
  eq : eqb x y ≡ eqb a b

same : (x y a b : ℕ) → (a < b → x < y) → (a ≡ b → x ≡ y) → (b < a → y < x) → Same x y a b
same x y a b up level down = by (order a b)
  where
    by : Order a b → Same x y a b
    by (less p) =
        let q = up p in
        record {
          lt = lt-ltb x y q ∙ sym (lt-ltb a b p);
          le = le-leb x y (omega arith) ∙ sym (le-leb a b (omega arith));
          eq = ne_eqb x y (λ (e : x ≡ y). omega arith) ∙ sym (ne_eqb a b (λ (e : a ≡ b). omega arith));
        }
    by (equal p) =
        let q = level p in
        record {
          lt = le-ltb x y (omega arith) ∙ sym (le-ltb a b (omega arith));
          le = le-leb x y (omega arith) ∙ sym (le-leb a b (omega arith));
          eq = eq-eqb x y q ∙ sym (eq-eqb a b p);
        }
    by (more p) =
        let q = down p in
        record {
          lt = le-ltb x y (omega arith) ∙ sym (le-ltb a b (omega arith));
          le = lt-leb x y q ∙ sym (lt-leb a b p);
          eq = ne_eqb x y (λ (e : x ≡ y). omega arith) ∙ sym (ne_eqb a b (λ (e : a ≡ b). omega arith));
        }

-- "compare after turning over the top bit of each operand": so turned over, two words stand as they do read as signed
pub record Flipped (w a b : ℕ) : Type 0 where
  pub less : ltb (flip w a) (flip w b) ≡ lts_w w a b
  pub at_most : leb (flip w a) (flip w b) ≡ les_w w a b
  pub equal : eqb (flip w a) (flip w b) ≡ eqb a b

pub flipped : (w a b : ℕ) → a < 2 ^ w → b < 2 ^ w → Flipped w a b
unfolding lts_w les_w
flipped w a b fa fb = by (halved w a fa) (halved w b fb)
  where
    by : Half w a → Half w b → Flipped w a b
    by (low l z x) (low l' z' x') =
        let s = same (2 ^ (w - 1) + a) (2 ^ (w - 1) + b) a b (λ q. omega arith) (λ q. omega arith) (λ q. omega arith) in
        record { less = rw (x, x', z, z') s.lt; at_most = rw (x, x', z, z') s.le; equal = rw (x, x') s.eq }
    by (low l z x) (high l' z' x') =
        let h = halves w in
        let s = same (2 ^ (w - 1) + a) (b - 2 ^ (w - 1)) 1 0 (λ q. omega arith) (λ q. omega arith) (λ q. omega arith) in
        record { less = rw (x, x', z, z') s.lt; at_most = rw (x, x', z, z') s.le; equal = rw (x, x') (s.eq ∙ sym (ne_eqb a b (λ e. omega arith))) }
    by (high l z x) (low l' z' x') =
        let h = halves w in
        let s = same (a - 2 ^ (w - 1)) (2 ^ (w - 1) + b) 0 1 (λ q. omega arith) (λ q. omega arith) (λ q. omega arith) in
        record { less = rw (x, x', z, z') s.lt; at_most = rw (x, x', z, z') s.le; equal = rw (x, x') (s.eq ∙ sym (ne_eqb a b (λ e. omega arith))) }
    by (high l z x) (high l' z' x') =
        let s = same (a - 2 ^ (w - 1)) (b - 2 ^ (w - 1)) (2 ^ w - suc b) (2 ^ w - suc a) (λ q. omega arith) (λ q. omega arith) (λ q. omega arith) in
        let e = same (a - 2 ^ (w - 1)) (b - 2 ^ (w - 1)) a b (λ q. omega arith) (λ q. omega arith) (λ q. omega arith) in
        record { less = rw (x, x', z, z') s.lt; at_most = rw (x, x', z, z') s.le; equal = rw (x, x') e.eq }
