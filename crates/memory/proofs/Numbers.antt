-- A number's bytes give the number again. Assumes nothing.
use mathlib.Core.Path.{◌≡◌, refl, sym, ap, ap₂, ◌∙◌}
use mathlib.Core.List.{List, ◌∷◌}
use Prim.Native.Nat.{ℕ, zero, suc, ◌+◌, ◌-◌, ◌*◌, ◌/◌, ◌%◌, ◌^◌, ◌≤◌, ◌<◌}
use native.Mathlib.Omega.{arith}
use lib.ListN.{length, get_or, take, drop, get_or-eq_default}
use lib.Seq.{get_or-take, get_or-drop}
use native.Mathlib.Nat.{suc-add, add-zero, zero-add}
use Rattle.memory.specs.Bytes.{low_first, high_first, bytes_of}

-- a byte in front moves the place by one
pub low_cons : (b : ℕ) (m : List ℕ) (p n : ℕ) → low_first (b ∷ m) (suc p) n ≡ low_first m p n
unfolding low_first
low_cons b m p zero = refl
low_cons b m p (suc n) = rw (suc-add p 1, low_cons b m (p + 1) n)

pub low_bytes : (n x : ℕ) → x < 256 ^ n → low_first (bytes_of n x) 0 n ≡ x
unfolding low_first bytes_of
low_bytes zero x h = omega arith
low_bytes (suc n) x h =
    rw (low_cons (x % 256) (bytes_of n (x / 256)) 0 n, low_bytes n (x / 256) (omega arith))
    (omega arith)

pub length_bytes : (n x : ℕ) → length (bytes_of n x) ≡ n
unfolding bytes_of
length_bytes zero x = refl
length_bytes (suc n) x = ap suc (length_bytes n (x / 256))

-- the same bytes in another place make the same number
pub low_same : (m m' : List ℕ) (p p' n : ℕ) → ((i : ℕ) → i < n → get_or m (p + i) 0 ≡ get_or m' (p' + i) 0) → low_first m p n ≡ low_first m' p' n
unfolding low_first
low_same m m' p p' zero h = refl
low_same m m' p p' (suc n) h =
    ap₂ (λ (x y : ℕ). x * 256 + y) (low_same m m' (p + 1) (p' + 1) n later) (rw (add-zero p, add-zero p') at (h 0 (omega arith)))
  where
    later : (i : ℕ) → i < n → get_or m (p + 1 + i) 0 ≡ get_or m' (p' + 1 + i) 0
    later i l =
        let e : p + 1 + i ≡ p + (i + 1) = omega arith in
        let e' : p' + 1 + i ≡ p' + (i + 1) = omega arith in
        rw (e, e') (h (i + 1) (omega arith))

pub high_same : (m m' : List ℕ) (p p' n : ℕ) → ((i : ℕ) → i < n → get_or m (p + i) 0 ≡ get_or m' (p' + i) 0) → high_first m p n ≡ high_first m' p' n
unfolding high_first
high_same m m' p p' zero h = refl
high_same m m' p p' (suc n) h = ap₂ (λ (x y : ℕ). x * 256 + y) (high_same m m' p p' n (λ i l. h i (omega arith))) (h n (omega arith))

-- the bytes from a place on, by themselves
pub low_part : (b : List ℕ) (p n : ℕ) → low_first (take n (drop p b)) 0 n ≡ low_first b p n
low_part b p n = low_same (take n (drop p b)) b 0 p n (λ i l. ap (λ (k : ℕ). get_or (take n (drop p b)) k 0) (zero-add i) ∙ get_or-take n (drop p b) i 0 l ∙ get_or-drop p b i 0)

pub high_part : (b : List ℕ) (p n : ℕ) → high_first (take n (drop p b)) 0 n ≡ high_first b p n
high_part b p n = high_same (take n (drop p b)) b 0 p n (λ i l. ap (λ (k : ℕ). get_or (take n (drop p b)) k 0) (zero-add i) ∙ get_or-take n (drop p b) i 0 l ∙ get_or-drop p b i 0)

-- the number that a slice of eight bytes from a place on gives
pub low_slice : (b : List ℕ) (p e : ℕ) {x : ℕ} → x ≡ low_first (take (e - p) (drop p b)) 0 8 → e ≡ p + 8 → x ≡ low_first b p 8
low_slice b p e q z = let eight : e - p ≡ 8 = omega arith in q ∙ ap (λ (n : ℕ). low_first (take n (drop p b)) 0 8) eight ∙ low_part b p 8

-- bytes past the end are zero
low_none : (m : List ℕ) (p n : ℕ) → length m ≤ p → low_first m p n ≡ 0
unfolding low_first
low_none m p zero h = refl
low_none m p (suc n) h = rw (low_none m (p + 1) n (omega arith), get_or-eq_default m 0 h) refl

low_short : (m : List ℕ) (p n t : ℕ) → n ≤ t → length m ≤ p + n → low_first m p n ≡ low_first m p t
unfolding low_first
low_short m p zero t l h = sym (low_none m p t (omega arith))
low_short m p (suc n) zero l h = absurd (omega arith)
low_short m p (suc n) (suc t) l h = ap (λ (x : ℕ). x * 256 + get_or m p 0) (low_short m (p + 1) n t (omega arith) (omega arith))

pub low_all : (m : List ℕ) {n : ℕ} → length m ≤ n → low_first m 0 (length m) ≡ low_first m 0 n
low_all m {n} h = low_short m 0 (length m) n h (omega arith)
