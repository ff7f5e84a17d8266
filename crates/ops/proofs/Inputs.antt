-- An op that may fold reads as many values as it has inputs, and the bytes after its operands; every other kind states nothing. Assumes nothing.
use mathlib.Core.Path.{◌≡◌, refl, sym, ap, ap₂, ◌∙◌, subst}
use mathlib.Core.Logic.{◌⊎◌, inl, inr}
use mathlib.Core.Bool.{Bool, true, false, cond, not, ◌&&◌, ◌||◌}
use Rattle.std.specs.Prelude.{Option, None, Some}
use mathlib.Core.List.{List, [], ◌∷◌}
use Prim.Native.Nat.{ℕ, zero, suc, ◌-◌, ◌%◌, ◌^◌, ◌≤◌, ◌<◌}
use native.Mathlib.Nat.{zero-mod}
use native.Mathlib.Omega.{arith}
use lib.Dec.{T, eqb, ltb, leb, lit<}
use lib.ListN.{length, take}
use lib.Seq.{get_or-take}
use borrow.Author.Tests.{eqb-true, ne_eqb, ltb-true, ltb-false, leb-true, le-leb}
use Rattle.theory.specs.Machine.{reads}
use Rattle.theory.proofs.Sets.{and_l, and_r, tell, clash}
use Rattle.memory.specs.Bytes.{low_first}
use Rattle.ops.specs.Eval.{unary_of, logic_of, divide_of, shift_of, setcond_of, movcond_of, convert_of, deposit_of, extract_of, extract2_of, swap_of, count_of, ctpop_of}
use Rattle.ops.specs.Rows.{Role, constant, number_of, role_no, bits_of, types_of, is_computing, at, table_of}
use Rattle.ops.specs.Evaluate.{folded_of}
use Rattle.ops.specs.Kinds.{between, one, wide_of, computed_of, states_of, document01}
use Rattle.ops.specs.Table.{kind_table, row_of}
use Rattle.ops.specs.Rows.{role_of}
use Rattle.ops.specs.Ops.{at_types, eval_of}
use Rattle.ops.specs.Fields.{bytes_at}
use Rattle.ops.specs.Folds.{foldable_row, movi_kind}
use Rattle.ops.proofs.Ranges.{every_from, ranged}
use Rattle.ops.proofs.Table.{unknown_beyond}

-- a number within a range, and outside it
pub within : (lo hi k : ℕ) → lo ≤ k → k ≤ hi → between lo hi k ≡ true
within lo hi k p q = rw (le-leb lo k p, le-leb k hi q)

pub outside : (lo hi k : ℕ) → (lo ≤ k → k ≤ hi → ⊥) → between lo hi k ≡ false
outside lo hi k n = both (leb lo k) (leb k hi) (λ p q. n (leb-true lo k p) (leb-true k hi q))
  where
    both : (s t : Bool) → (s ≡ true → t ≡ true → ⊥) → (s && t) ≡ false
    both true true f = absurd (f refl refl)
    both true false f = refl
    both false t f = refl

-- how many values a kind reads, by the kind of its 32-bit form, and how many of the bytes after the operands
abbrev values : ℕ → ℕ
values j =
    cond (between 0x11 0x13 j) 1
    (cond (between 0x14 0x1E j) 2
    (cond (between 0x1F 0x22 j) 2
    (cond (between 0x23 0x27 j) 2
    (cond (eqb j 0x28) 2
    (cond (eqb j 0x29) 4
    (cond (eqb j 0x2D) 2
    (cond (between 0x2E 0x2F j) 1
    (cond (eqb j 0x30) 2
    (cond (between 0x31 0x33 j) 1
    (cond (between 0x34 0x35 j) 2
    (cond (eqb j 0x36) 1
    0)))))))))))

abbrev tail : ℕ → ℕ
tail j =
    cond (between 0x11 0x13 j) 0
    (cond (between 0x14 0x1E j) 0
    (cond (between 0x1F 0x22 j) 0
    (cond (between 0x23 0x27 j) 0
    (cond (eqb j 0x28) 1
    (cond (eqb j 0x29) 1
    (cond (eqb j 0x2D) 2
    (cond (between 0x2E 0x2F j) 2
    (cond (eqb j 0x30) 1
    (cond (between 0x31 0x33 j) 1
    (cond (between 0x34 0x35 j) 0
    (cond (eqb j 0x36) 0
    0)))))))))))

-- two lists of values, and two of bytes, that an op which reads so many of each cannot tell apart
pub record Alike (n m : ℕ) (bytes bytes' vs vs' : List ℕ) : Type 0 where
  pub values : (i : ℕ) → i < n → at vs i ≡ at vs' i
  pub bytes_so : (i : ℕ) → i < m → at bytes i ≡ at bytes' i

module _ {bytes bytes' vs vs' : List ℕ} where
  -- a choice, by its sides
  sides : {A : Type 0} (b : Bool) {n n' m m' : ℕ} {x x' y y' : A} → (Alike n m bytes bytes' vs vs' → x ≡ x') → (Alike n' m' bytes bytes' vs vs' → y ≡ y')
      → Alike (cond b n n') (cond b m m') bytes bytes' vs vs' → cond b x y ≡ cond b x' y'
  sides true f g = f
  sides false f g = g

  -- of the first value, the first two, the first byte, the first two
  module _ {n m : ℕ} (a : Alike n m bytes bytes' vs vs') where
    one_value : {A : Type 0} (f : ℕ → A) → 0 < n → f (at vs 0) ≡ f (at vs' 0)
    one_value f l = ap f (a.values 0 l)

    two_values : {A : Type 0} (f : ℕ → ℕ → A) → 1 < n → f (at vs 0) (at vs 1) ≡ f (at vs' 0) (at vs' 1)
    two_values f l = ap₂ f (a.values 0 (omega arith)) (a.values 1 l)

    one_byte : {A : Type 0} (f : ℕ → A) → 0 < m → f (at bytes 0) ≡ f (at bytes' 0)
    one_byte f l = ap f (a.bytes_so 0 l)

    two_bytes : {A : Type 0} (f : ℕ → ℕ → A) → 1 < m → f (at bytes 0) (at bytes 1) ≡ f (at bytes' 0) (at bytes' 1)
    two_bytes f l = ap₂ f (a.bytes_so 0 (omega arith)) (a.bytes_so 1 l)

  wide_alike : (w j : ℕ) → Alike (values j) (tail j) bytes bytes' vs vs' → wide_of w j bytes vs ≡ wide_of w j bytes' vs'
  unfolding wide_of
  wide_alike w j =
      sides (between 0x11 0x13 j) (λ a. one_value a (unary_of w j) (lit< tt))
      (sides (between 0x14 0x1E j) (λ a. two_values a (logic_of w j) (lit< tt))
      (sides (between 0x1F 0x22 j) (λ a. two_values a (divide_of w j) (lit< tt))
      (sides (between 0x23 0x27 j) (λ a. two_values a (shift_of w j) (lit< tt))
      (sides (eqb j 0x28) (λ a. one_byte a (λ c. setcond_of w c (at vs 0) (at vs 1)) (lit< tt) ∙ two_values a (setcond_of w (at bytes' 0)) (lit< tt))
      (sides (eqb j 0x29)
      (λ a. one_byte a (λ c. movcond_of w c (at vs 0) (at vs 1) (at vs 2) (at vs 3)) (lit< tt) ∙ two_values a (λ x y. movcond_of w (at bytes' 0) x y (at vs 2) (at vs 3)) (lit< tt)
      ∙ ap₂ (movcond_of w (at bytes' 0) (at vs' 0) (at vs' 1)) (a.values 2 (lit< tt)) (a.values 3 (lit< tt)))
      (sides (eqb j 0x2D) (λ a. two_bytes a (λ p l. deposit_of w p l (at vs 0) (at vs 1)) (lit< tt) ∙ two_values a (deposit_of w (at bytes' 0) (at bytes' 1)) (lit< tt))
      (sides (between 0x2E 0x2F j) (λ a. two_bytes a (λ p l. extract_of w j p l (at vs 0)) (lit< tt) ∙ one_value a (extract_of w j (at bytes' 0) (at bytes' 1)) (lit< tt))
      (sides (eqb j 0x30) (λ a. one_byte a (λ p. extract2_of w p (at vs 0) (at vs 1)) (lit< tt) ∙ two_values a (extract2_of w (at bytes' 0)) (lit< tt))
      (sides (between 0x31 0x33 j) (λ a. one_byte a (λ f. swap_of w j f (at vs 0)) (lit< tt) ∙ one_value a (swap_of w j (at bytes' 0)) (lit< tt))
      (sides (between 0x34 0x35 j) (λ a. two_values a (count_of w j) (lit< tt))
      (sides (eqb j 0x36) (λ a. one_value a (ctpop_of w) (lit< tt))
      (λ a. refl))))))))))))

-- the same by kind
abbrev values_of : ℕ → ℕ
values_of k = cond (between 0x05 0x07 k) 1 (cond (ltb k 0x80) (values k) (values (k - 0x80)))

abbrev tail_of : ℕ → ℕ
tail_of k = cond (between 0x05 0x07 k) 0 (cond (ltb k 0x80) (tail k) (tail (k - 0x80)))

module _ {bytes bytes' vs vs' : List ℕ} where
  computed_alike : (k : ℕ) → Alike (values_of k) (tail_of k) bytes bytes' vs vs' → computed_of k bytes vs ≡ computed_of k bytes' vs'
  unfolding computed_of
  computed_alike k =
      sides (between 0x05 0x07 k) (λ a. one_value a (convert_of k) (lit< tt)) (sides (ltb k 0x80) (wide_alike 32 k) (wide_alike 64 (k - 0x80)))

-- the row of a kind that may fold says how many, and no such kind has more than four inputs
abbrev counted : ℕ → Bool
counted k =
    let row = row_of k in
    not (foldable_row row) || (eqb (length row.ins) (values_of k) && (eqb row.rest (tail_of k) && leb (length row.ins) 4))

all_counted : every_from counted 0 256 ≡ true
unfolding table_of kind_table role_no types_of
all_counted = refl

-- every other kind states nothing
abbrev is_none : Option ℕ → Bool
is_none None = true
is_none (Some x) = false

is_none_lem : (o : Option ℕ) → is_none o ≡ true → o ≡ None
is_none_lem None h = refl
is_none_lem (Some x) h = absurd (subst T (sym h) tt)

unstated_so : (bytes vs : List ℕ) → every_from (λ k. foldable_row (row_of k) || is_none (computed_of k bytes vs)) 0 256 ≡ true
unfolding computed_of wide_of swap_of table_of kind_table role_no types_of
unstated_so bytes vs = refl

pub unstated_kind : (k : ℕ) → k < 256 → foldable_row (row_of k) ≡ false → (bytes vs : List ℕ) → computed_of k bytes vs ≡ None
unstated_kind k h f bytes vs =
    let t : (foldable_row (row_of k) || is_none (computed_of k bytes vs)) ≡ true =
    ranged (λ j. foldable_row (row_of j) || is_none (computed_of j bytes vs)) 256 0 (unstated_so bytes vs) k (omega arith) (omega arith) in
    is_none_lem (computed_of k bytes vs) (rw f at t)

-- no kind past the table may fold, and no movi
pub folds_small : (k : ℕ) → foldable_row (row_of k) ≡ true → k < 256
folds_small k h = go (tell (ltb k 256))
  where
    go : (ltb k 256 ≡ true) ⊎ (ltb k 256 ≡ false) → k < 256
    go (inl t) = ltb-true k 256 t
    go (inr t) = clash (foldable_row (row_of k)) h (ap (λ (r : Role). is_computing r && eqb (length (row_of k).outs) 1) (unknown_beyond k (ltb-false k 256 t)))

pub no_movi : (t : ℕ) → foldable_row (row_of (movi_kind t)) ≡ false
unfolding table_of kind_table role_no
no_movi t = go (eqb t 0)
  where
    go : (b : Bool) → foldable_row (row_of (cond b 0x10 0x90)) ≡ false
    go true = refl
    go false = refl

-- what a kind that may fold states is one value
pub evaluated : (k : ℕ) → foldable_row (row_of k) ≡ true → (bytes vs : List ℕ) → eval_of document01 k bytes vs ≡ one (computed_of k bytes (at_types (row_of k).ins vs))
unfolding eval_of states_of
evaluated k h bytes vs = rw (differ 0x10 (no_movi 0), differ 0x90 (no_movi 1))
  where
    differ : (m : ℕ) → foldable_row (row_of m) ≡ false → eqb k m ≡ false
    differ m f = ne_eqb k m (λ e. clash (foldable_row (row_of k)) h (ap (λ (j : ℕ). foldable_row (row_of j)) e ∙ f))

pub record Counts (k : ℕ) : Type 0 where
  pub inputs : length (row_of k).ins ≡ values_of k
  pub after : (row_of k).rest ≡ tail_of k
  pub few : length (row_of k).ins ≤ 4

counts : (k : ℕ) → foldable_row (row_of k) ≡ true → Counts k
counts k h =
    let row = row_of k in
    let n = length row.ins in
    let t : (not (foldable_row row) || (eqb n (values_of k) && (eqb row.rest (tail_of k) && leb n 4))) ≡ true = ranged counted 256 0 all_counted k (omega arith) (omega (arith, folds_small k h)) in
    let u : (eqb n (values_of k) && (eqb row.rest (tail_of k) && leb n 4)) ≡ true = rw h at t in
    let v = and_r (eqb n (values_of k)) (eqb row.rest (tail_of k) && leb n 4) u in
    record {
      inputs = eqb-true n (values_of k) (and_l (eqb n (values_of k)) _ u);
      after = eqb-true row.rest (tail_of k) (and_l (eqb row.rest (tail_of k)) (leb n 4) v);
      few = leb-true n 4 (and_r (eqb row.rest (tail_of k)) (leb n 4) v);
    }

-- it cannot tell these apart
pub folds_alike : (k : ℕ) → foldable_row (row_of k) ≡ true → {bytes bytes' vs vs' : List ℕ}
    → Alike (length (row_of k).ins) (row_of k).rest bytes bytes' vs vs' → computed_of k bytes vs ≡ computed_of k bytes' vs'
folds_alike k h {bytes} {bytes'} {vs} {vs'} a = let c = counts k h in computed_alike k (subst₂ c.inputs c.after a)
  where
    subst₂ : {n n' m m' : ℕ} → n ≡ n' → m ≡ m' → Alike n m bytes bytes' vs vs' → Alike n' m' bytes bytes' vs vs'
    subst₂ {n' = n'} {m = m} p q a = subst (λ (m : ℕ). Alike n' m bytes bytes' vs vs') q (subst (λ (n : ℕ). Alike n m bytes bytes' vs vs') p a)

-- but for movcond, two at most are read
few_read : every_from (λ k. not (foldable_row (row_of k)) || (eqb (k % 0x80) 0x29 || leb (length (row_of k).ins) 2)) 0 256 ≡ true
unfolding table_of kind_table role_no types_of
few_read = refl

-- values read at their types
types_alike : (ts vs vs' : List ℕ) → ((i : ℕ) → i < length ts → at vs i ≡ at vs' i) → at_types ts vs ≡ at_types ts vs'
types_alike [] vs vs' h = refl
types_alike (t ∷ ts) [] [] h = refl
types_alike (t ∷ ts) [] (v' ∷ vs') h =
    ap₂ (λ (x : ℕ) (xs : List ℕ). x ∷ xs) (sym (zero-mod (2 ^ bits_of t)) ∙ ap (λ (x : ℕ). x % 2 ^ bits_of t) (h 0 (omega arith))) (types_alike ts [] vs' (λ i l. h (suc i) (omega arith)))
types_alike (t ∷ ts) (v ∷ vs) [] h =
    ap₂ (λ (x : ℕ) (xs : List ℕ). x ∷ xs) (ap (λ (x : ℕ). x % 2 ^ bits_of t) (h 0 (omega arith)) ∙ zero-mod (2 ^ bits_of t)) (types_alike ts vs [] (λ i l. h (suc i) (omega arith)))
types_alike (t ∷ ts) (v ∷ vs) (v' ∷ vs') h =
    ap₂ (λ (x : ℕ) (xs : List ℕ). x ∷ xs) (ap (λ (x : ℕ). x % 2 ^ bits_of t) (h 0 (omega arith))) (types_alike ts vs vs' (λ i l. h (suc i) (omega arith)))

-- the inputs that a block names from the place i on are the first of four values
module _ (env : ℕ → ℕ) (b : List ℕ) (i : ℕ) where
  abbrev pub four_at : List ℕ
  four_at = env (at b i) ∷ env (at b (suc i)) ∷ env (at b (suc (suc i))) ∷ env (at b (suc (suc (suc i)))) ∷ []

  first_four : (n j : ℕ) → n ≤ 4 → j < n → at (reads env (bytes_at b i n)) j ≡ at four_at j
  first_four zero j l h = absurd (omega arith)
  first_four (suc n) zero l h = refl
  first_four (suc zero) (suc j) l h = absurd (omega arith)
  first_four (suc (suc n)) (suc zero) l h = refl
  first_four (suc (suc zero)) (suc (suc j)) l h = absurd (omega arith)
  first_four (suc (suc (suc n))) (suc (suc zero)) l h = refl
  first_four (suc (suc (suc zero))) (suc (suc (suc j))) l h = absurd (omega arith)
  first_four (suc (suc (suc (suc n)))) (suc (suc (suc zero))) l h = refl
  first_four (suc (suc (suc (suc n)))) (suc (suc (suc (suc j)))) l h = absurd (omega arith)

-- what is read of them, and of the bytes after the operands
pub folded_inputs : (k : ℕ) → foldable_row (row_of k) ≡ true → (env : ℕ → ℕ) (b bytes : List ℕ) (i : ℕ)
    → eval_of document01 k (take (row_of k).rest bytes) (reads env (bytes_at b i (length (row_of k).ins)))
    ≡ one (folded_of k bytes (env (at b i)) (env (at b (suc i))) (env (at b (suc (suc i)))) (env (at b (suc (suc (suc i))))))
unfolding folded_of
folded_inputs k h env b bytes i =
    let row = row_of k in
    let n = length row.ins in
    let same : at_types row.ins (reads env (bytes_at b i n)) ≡ at_types row.ins (four_at env b i) =
    types_alike row.ins (reads env (bytes_at b i n)) (four_at env b i) (λ j l. first_four env b i n j (counts k h).few l) in
    evaluated k h (take row.rest bytes) (reads env (bytes_at b i n))
    ∙ rw h
    (ap one
    (folds_alike k h (record { values = λ j l. ap (λ (xs : List ℕ). at xs j) same; bytes_so = λ j l. get_or-take row.rest bytes j 0 l })))

-- the last two values are movcond's alone
pub two_inputs : (k : ℕ) → eqb (k % 0x80) 0x29 ≡ false → (bytes : List ℕ) (a b x y x' y' : ℕ) → folded_of k bytes a b x y ≡ folded_of k bytes a b x' y'
unfolding folded_of
two_inputs k n bytes a b x y x' y' = go (tell (foldable_row (row_of k)))
  where
    ts : List ℕ
    ts = (row_of k).ins

    alike : length ts ≤ 2 → (i : ℕ) → i < length ts → at (a ∷ b ∷ x ∷ y ∷ []) i ≡ at (a ∷ b ∷ x' ∷ y' ∷ []) i
    alike l zero h = refl
    alike l (suc zero) h = refl
    alike l (suc (suc i)) h = absurd (omega arith)

    go : (foldable_row (row_of k) ≡ true) ⊎ (foldable_row (row_of k) ≡ false)
        → cond (foldable_row (row_of k)) (computed_of k bytes (at_types ts (a ∷ b ∷ x ∷ y ∷ []))) None ≡ cond (foldable_row (row_of k)) (computed_of k bytes (at_types ts (a ∷ b ∷ x' ∷ y' ∷ []))) None
    go (inr f) = rw f
    go (inl f) =
        let t : (not (foldable_row (row_of k)) || (eqb (k % 0x80) 0x29 || leb (length ts) 2)) ≡ true =
        ranged (λ k. not (foldable_row (row_of k)) || (eqb (k % 0x80) 0x29 || leb (length (row_of k).ins) 2)) 256 0 few_read k (omega arith) (omega (arith, folds_small k f)) in
        let l : leb (length ts) 2 ≡ true = rw (f, n) at t in
        rw f (ap (computed_of k bytes) (types_alike ts (a ∷ b ∷ x ∷ y ∷ []) (a ∷ b ∷ x' ∷ y' ∷ []) (alike (leb-true (length ts) 2 l))))

-- a constant states its bytes
constant_kinds : every_from (λ k. not (eqb (number_of (role_of row_of k)) 8) || (eqb k 0x10 || eqb k 0x90)) 0 256 ≡ true
unfolding table_of kind_table role_no
constant_kinds = refl

pub constant_states : (k : ℕ) → role_of row_of k ≡ constant → (bytes vs : List ℕ) → eval_of document01 k bytes vs ≡ Some (low_first bytes 0 8 ∷ [])
unfolding eval_of states_of
constant_states k e bytes vs = ap (λ (b : Bool). one (cond b (Some (low_first bytes 0 8)) (computed_of k bytes (at_types (row_of k).ins vs)))) (go (tell (ltb k 256)))
  where
    number : number_of (role_of row_of k) ≡ 8
    number = ap number_of e

    go : (ltb k 256 ≡ true) ⊎ (ltb k 256 ≡ false) → (eqb k 0x10 || eqb k 0x90) ≡ true
    go (inl t) =
        let q : (not (eqb (number_of (role_of row_of k)) 8) || (eqb k 0x10 || eqb k 0x90)) ≡ true =
        ranged (λ j. not (eqb (number_of (role_of row_of j)) 8) || (eqb j 0x10 || eqb j 0x90)) 256 0 constant_kinds k (omega arith) (omega (arith, ltb-true k 256 t)) in
        rw number at q
    go (inr t) = let z : ◌≡◌ {A = ℕ} 0 8 = sym (ap number_of (unknown_beyond k (ltb-false k 256 t))) ∙ number in absurd (omega arith)
