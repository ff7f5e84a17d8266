-- Numbers as bytes. Assumes nothing.
use Rattle.std.specs.Prelude.{ℕ, zero, suc, ◌+◌, ◌*◌, ◌/◌, ◌%◌, List, [], ◌∷◌, get_or, set}

-- the number in n bytes from p: the first byte lowest; the first byte highest
unfoldable pub low_first : List ℕ → ℕ → ℕ → ℕ
low_first m p zero = 0
low_first m p (suc n) = low_first m (p + 1) n * 256 + get_or m p 0

unfoldable pub high_first : List ℕ → ℕ → ℕ → ℕ
high_first m p zero = 0
high_first m p (suc n) = high_first m p n * 256 + get_or m (p + n) 0

-- the low n bytes of x put at p: the lowest first; the highest first
unfoldable pub put_low : List ℕ → ℕ → ℕ → ℕ → List ℕ
put_low m p zero x = m
put_low m p (suc n) x = put_low (set m p (x % 256)) (p + 1) n (x / 256)

unfoldable pub put_high : List ℕ → ℕ → ℕ → ℕ → List ℕ
put_high m p zero x = m
put_high m p (suc n) x = put_high (set m (p + n) (x % 256)) p n (x / 256)

-- the low n bytes of x, the lowest first
unfoldable pub bytes_of : ℕ → ℕ → List ℕ
bytes_of zero x = []
bytes_of (suc n) x = x % 256 ∷ bytes_of n (x / 256)
