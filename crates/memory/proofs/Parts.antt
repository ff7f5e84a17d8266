-- The library's bytes of a number, and the bytes of a part of the memory. Assumes nothing.
use mathlib.Core.Path.{◌≡◌, refl, sym, ap, ap₂, ◌∙◌}
use mathlib.Core.Bool.{Bool, true, false, cond}
use mathlib.Core.List.{List, [], ◌∷◌, ◌++◌}
use Prim.Native.Nat.{ℕ, zero, suc, ◌+◌, ◌-◌, ◌*◌, ◌/◌, ◌%◌, ◌^◌, ◌≤◌, ◌<◌}
use native.Mathlib.Omega.{arith}
use native.Mathlib.Nat.{pow-succ', div-div-eq-div-mul}
use native.Mathlib.Nat.{suc-add, zero-add, add-zero, add-suc}
use native.Mathlib.Numerals.{add-one}
use lib.ListN.{length, get_or, take, drop, set, replicate, length-set, get_or-append}
use lib.Seq.{take-suc-set, drop-cons, drop-length}
use borrow.Rule.Slice.PartMut.{put_mid}
use mir.Syntax.{w64}
use Rattle.std.specs.Int.{from_le_bytes, from_be_bytes, to_le_bytes, to_be_bytes, bytes_low_first, bytes_high_first, byte_at}
use Rattle.std.proofs.Common.{append_assoc, length-drop}
use Rattle.std.proofs.lemmas.List.{take-append-drop, drop-set, drop-set-lt, drop-set-add, take-set-le, append-nil, get_or-drop, get_or-append-add, length-take, take_all}
use Rattle.memory.proofs.Numbers.{low_same, low_all, low_part, high_part}
use Rattle.memory.specs.Access.{size_of, big_endian}
use Rattle.memory.specs.Bytes.{low_first, high_first, put_low, put_high, bytes_of}

-- eight bytes read by the library
pub little_is : (e : List ℕ) → from_le_bytes w64 e ≡ low_first e 0 8
unfolding low_first
little_is e = omega arith

pub big_is : (e : List ℕ) → from_be_bytes w64 e ≡ high_first e 0 8
unfolding high_first
big_is e = omega arith

-- a slice of at most eight bytes among zeros
zeros : (n i : ℕ) → ◌≡◌ {A = ℕ} (get_or (replicate n 0) i 0) 0
zeros zero i = refl
zeros (suc n) zero = refl
zeros (suc n) (suc i) = zeros n i

padded : (b z : List ℕ) → ((i : ℕ) → get_or z i 0 ≡ 0) → (i : ℕ) → get_or (b ++ z) i 0 ≡ get_or b i 0
padded [] z h i = h i
padded (x ∷ b) z h zero = refl
padded (x ∷ b) z h (suc i) = padded b z h i

front : (k : ℕ) (z : List ℕ) → ((i : ℕ) → get_or z i 0 ≡ 0) → (i : ℕ) → get_or (take k z) i 0 ≡ 0
front zero z h i = refl
front (suc k) [] h i = refl
front (suc k) (x ∷ z) h zero = h zero
front (suc k) (x ∷ z) h (suc i) = front k z (λ j. h (suc j)) i

high_none : (m : List ℕ) (n : ℕ) → ((i : ℕ) → i < n → get_or m i 0 ≡ 0) → high_first m 0 n ≡ 0
unfolding high_first
high_none m zero h = refl
high_none m (suc n) h = rw (high_none m n (λ i l. h i (omega arith)), zero-add n, h n (omega arith)) refl

high_skip : (e b : List ℕ) (k n : ℕ) → ((i : ℕ) → i < k → get_or e i 0 ≡ 0) → ((i : ℕ) → i < n → get_or e (k + i) 0 ≡ get_or b i 0)
    → high_first e 0 (k + n) ≡ high_first b 0 n
unfolding high_first
high_skip e b k zero h s = rw (add-zero k) (high_none e k h)
high_skip e b k (suc n) h s =
    rw (add-suc k n) (ap₂ (λ (x y : ℕ). x * 256 + y) (high_skip e b k n h (λ i l. s i (omega arith))) (rw (zero-add (k + n), zero-add n) (s n (omega arith))))

module _ (b : List ℕ) (l : length b ≤ 8) where
  low_among : (z : List ℕ) → ((i : ℕ) → get_or z i 0 ≡ 0) → low_first (b ++ z) 0 8 ≡ low_first b 0 (length b)
  low_among z h = low_same (b ++ z) b 0 0 8 (λ i u. padded b z h (0 + i)) ∙ sym (low_all b l)

  pub little_read : (n : ℕ) {x : ℕ} {b' : List ℕ} → x ≡ from_le_bytes w64 (put_mid 0 n (replicate 8 0) b') → b' ≡ b → x ≡ low_first b 0 (length b)
  little_read n e q = (rw q at e) ∙ little_is (b ++ drop n (replicate 8 0)) ∙ low_among (drop n (replicate 8 0)) (λ i. get_or-drop n (replicate 8 0) i 0 ∙ zeros 8 (n + i))

  high_among : (k : ℕ) (z z' : List ℕ) → ((i : ℕ) → get_or z i 0 ≡ 0) → length z ≡ k → k + length b ≡ 8 → high_first (z ++ (b ++ z')) 0 8 ≡ high_first b 0 (length b)
  high_among k z z' h e s = ap (high_first (z ++ (b ++ z')) 0) (sym s) ∙ high_skip (z ++ (b ++ z')) b k (length b)
      (λ i u. get_or-append z (b ++ z') 0 i (omega arith) ∙ h i)
      (λ i u. ap (λ (j : ℕ). get_or (z ++ (b ++ z')) (j + i) 0) (sym e) ∙ get_or-append-add z (b ++ z') i 0 ∙ get_or-append b z' 0 i u)

  pub big_read : (n : ℕ) {x : ℕ} {b' : List ℕ} → x ≡ from_be_bytes w64 (put_mid (8 - length b) n (replicate 8 0) b') → b' ≡ b → x ≡ high_first b 0 (length b)
  big_read n e q =
      let k = 8 - length b in
      let z : List ℕ = take k (replicate 8 0) in
      (rw q at e) ∙ big_is (z ++ (b ++ drop n (drop k (replicate 8 0))))
      ∙ high_among k z (drop n (drop k (replicate 8 0))) (front k (replicate 8 0) (zeros 8)) (simp length-take (omega arith)) (omega arith)

-- the first eight bytes
pub first_eight : (b : List ℕ) {x : ℕ} {e : List ℕ} → x ≡ from_le_bytes w64 e → e ≡ take 8 b → x ≡ low_first b 0 8
first_eight b e q = (rw q at e) ∙ little_is (take 8 b) ∙ low_part b 0 8

-- byte i + 1 of a number is byte i of its quotient
byte_down : (i x : ℕ) → byte_at (suc i) x ≡ byte_at i (x / 256)
byte_down zero x = omega arith
byte_down (suc i) x = ap (λ (q : ℕ). q % 256) (ap (λ (d : ℕ). x / d) (pow-succ' 256 (suc i)) ∙ sym (div-div-eq-div-mul x 256 (256 ^ suc i)))

low_down : (i n x : ℕ) → bytes_low_first (suc i) n x ≡ bytes_low_first i n (x / 256)
low_down i zero x = refl
low_down i (suc n) x = ap₂ (λ (b : ℕ) (bs : List ℕ). b ∷ bs) (byte_down i x) (low_down (suc i) n x)

-- and given by it
pub little_of : (n x : ℕ) → bytes_low_first 0 n x ≡ bytes_of n x
unfolding bytes_of
little_of zero x = refl
little_of (suc n) x = ap (λ (bs : List ℕ). x % 256 ∷ bs) (low_down 0 n x ∙ little_of n (x / 256))

high_down : (n x : ℕ) → bytes_high_first (suc n) x ≡ bytes_high_first n (x / 256) ++ (x % 256 ∷ [])
high_down zero x = refl
high_down (suc n) x = ap₂ (λ (b : ℕ) (bs : List ℕ). b ∷ bs) (byte_down n x) (high_down n x)

-- the low n bytes of more
low_front : (n k x : ℕ) → take n (bytes_of (n + k) x) ≡ bytes_of n x
unfolding bytes_of
low_front zero k x = refl
low_front (suc n) k x = rw (suc-add n k) (ap (λ (bs : List ℕ). x % 256 ∷ bs) (low_front n k (x / 256)))

high_back : (k n x : ℕ) → drop k (bytes_high_first (k + n) x) ≡ bytes_high_first n x
high_back zero n x = rw (zero-add n) refl
high_back (suc k) n x = rw (suc-add k n) (high_back k n x)

-- n bytes put into a memory with room for them
pub put_low_is : (m : List ℕ) (p n x : ℕ) → p + n ≤ length m → put_low m p n x ≡ put_mid p n m (bytes_of n x)
unfolding put_low bytes_of
put_low_is m p zero x h = sym (take-append-drop p m)
put_low_is m p (suc n) x h =
    let b = x % 256 in
    let ih = put_low_is (set m p b) (p + 1) n (x / 256) (simp length-set (omega arith)) in
    let front : take (p + 1) (set m p b) ≡ take p m ++ (b ∷ []) = rw (add-one p) (take-suc-set m p b (omega arith)) in
    let back : drop (p + 1) (set m p b) ≡ drop (suc p) m = drop-set-lt (p + 1) m p b (omega arith) ∙ rw (add-one p) refl in
    let rest : drop p m ≡ get_or m p 0 ∷ drop (suc p) m = drop-cons m p 0 (omega arith) in
    ih ∙ rw (front, back, rest) (append_assoc (take p m) (b ∷ []) (bytes_of n (x / 256) ++ drop n (drop (suc p) m)))

pub put_high_is : (m : List ℕ) (p n x : ℕ) → p + n ≤ length m → put_high m p n x ≡ put_mid p n m (bytes_high_first n x)
unfolding put_high
put_high_is m p zero x h = sym (take-append-drop p m)
put_high_is m p (suc n) x h =
    let b = x % 256 in
    let ih = put_high_is (set m (p + n) b) p n (x / 256) (simp length-set (omega arith)) in
    let front : take p (set m (p + n) b) ≡ take p m = take-set-le p m (p + n) b (omega arith) in
    let room : n < length (drop p m) = simp length-drop (omega arith) in
    let back : drop n (drop p (set m (p + n) b)) ≡ b ∷ drop (n + 1) (drop p m) = ap (drop n) (drop-set-add p m n b) ∙ drop-set (drop p m) n b room in
    let H = bytes_high_first n (x / 256) in
    let rest = drop (n + 1) (drop p m) in
    ih ∙ rw (front, back) (ap (λ (bs : List ℕ). take p m ++ bs) (sym (append_assoc H (b ∷ []) rest) ∙ rw (← high_down n x, add-one n) refl))

-- and the bytes put into a slice that they fill
fill : (m ys : List ℕ) → put_mid 0 (length m) m ys ≡ ys
fill m ys = rw (drop-length m) (append-nil ys)

low_fill : (m : List ℕ) (x : ℕ) → put_low m 0 (length m) x ≡ bytes_of (length m) x
low_fill m x = put_low_is m 0 (length m) x (omega arith) ∙ fill m (bytes_of (length m) x)

high_fill : (m : List ℕ) (x : ℕ) → put_high m 0 (length m) x ≡ bytes_high_first (length m) x
high_fill m x = put_high_is m 0 (length m) x (omega arith) ∙ fill m (bytes_high_first (length m) x)

high_length : (n x : ℕ) → length (bytes_high_first n x) ≡ n
high_length zero x = refl
high_length (suc n) x = ap suc (high_length n x)

-- the library's bytes of x, as many as a slice has
module _ (m : List ℕ) (l : length m ≤ 8) (x : ℕ) {bytes new : List ℕ} where
  pub little_put : bytes ≡ to_le_bytes w64 x → new ≡ take (length m) bytes → new ≡ put_low m 0 (length m) x
  little_put e q =
      let whole : length m + (8 - length m) ≡ 8 = omega arith in
      q ∙ ap (take {A = ℕ} (length m)) (e ∙ little_of 8 x ∙ ap (λ (k : ℕ). bytes_of k x) (sym whole)) ∙ low_front (length m) (8 - length m) x ∙ sym (low_fill m x)

  pub big_put : bytes ≡ to_be_bytes w64 x → new ≡ take (8 - (8 - length m)) (drop (8 - length m) bytes) → new ≡ put_high m 0 (length m) x
  big_put e q =
      let whole : 8 - length m + length m ≡ 8 = omega arith in
      let back : drop (8 - length m) bytes ≡ bytes_high_first (length m) x
      = ap (drop {A = ℕ} (8 - length m)) (e ∙ ap (λ (k : ℕ). bytes_high_first k x) (sym whole)) ∙ high_back (8 - length m) (length m) x in
      let long : length (bytes_high_first (length m) x) ≤ 8 - (8 - length m) = rw (high_length (length m) x) (omega arith) in
      q ∙ ap (take {A = ℕ} (8 - (8 - length m))) back ∙ take_all (8 - (8 - length m)) (bytes_high_first (length m) x) long ∙ sym (high_fill m x)

-- the part of a memory that an access reads or writes
part_length : (m : List ℕ) (p n : ℕ) → p + n ≤ length m → length (take (p + n - p) (drop p m)) ≡ n
part_length m p n h = simp (length-take, length-drop) (omega arith)

module _ (m : List ℕ) (p n f : ℕ) (h : p + n ≤ length m) (e : n ≡ size_of f) {big : Bool} (o : big ≡ big_endian f) where
  pub reads_part : {x : ℕ} → x ≡ cond big (high_first (take (p + n - p) (drop p m)) 0 (length (take (p + n - p) (drop p m)))) (low_first (take (p + n - p) (drop p m)) 0 (length (take (p + n - p) (drop p m))))
      → x ≡ cond (big_endian f) (high_first m p (size_of f)) (low_first m p (size_of f))
  reads_part q = let k : p + n - p ≡ n = omega arith in let l = part_length m p n h in q ∙ rw (← e, ← o, l, k, high_part m p n, low_part m p n) refl

  pub writes_part : (x : ℕ) {new : List ℕ}
      → new ≡ cond big (put_high (take (p + n - p) (drop p m)) 0 (length (take (p + n - p) (drop p m))) x) (put_low (take (p + n - p) (drop p m)) 0 (length (take (p + n - p) (drop p m))) x)
      → put_mid p (p + n - p) m new ≡ cond (big_endian f) (put_high m p (size_of f) x) (put_low m p (size_of f) x)
  writes_part x q =
      let k : p + n - p ≡ n = omega arith in
      let l = part_length m p n h in
      rw (q, high_fill (take (p + n - p) (drop p m)) x, low_fill (take (p + n - p) (drop p m)) x, l, k, ← e, ← o, put_high_is m p n x h, put_low_is m p n x h) (either big)
    where
      either : (b : Bool) → put_mid p n m (cond b (bytes_high_first n x) (bytes_of n x)) ≡ cond b (put_mid p n m (bytes_high_first n x)) (put_mid p n m (bytes_of n x))
      either true = refl
      either false = refl
