-- What rule 6 asks of the bytes from p on that follow the operands, from the number of their test. Assumes nothing.
use mathlib.Core.Path.{◌≡◌, ap, ap₂, ◌∙◌, subst}
use mathlib.Core.Bool.{true, false, ◌&&◌}
use mathlib.Core.List.{List}
use Prim.Native.Nat.{ℕ, ◌+◌, ◌^◌, ◌≤◌, ◌<◌}
use native.Mathlib.Omega.{arith}
use native.Mathlib.Nat.{zero-add, add-zero}
use lib.Dec.{ltb}
use lib.ListN.{take, drop}
use lib.Seq.{get_or-take, get_or-drop}
use borrow.Author.Tests.{ne_eqb}
use Rattle.word.specs.Fields.{field_ok, position_ok}
use Rattle.word.specs.Swaps.{swap_flags_ok, no_flags_ok}
use Rattle.memory.specs.Access.{flags_ok}
use Rattle.memory.specs.Bytes.{low_first}
use Rattle.memory.proofs.Numbers.{low_same}
use Rattle.ops.proofs.Ranges.{Past}
use Rattle.ops.specs.Rows.{rest_in, test_in, at, cond_ok, label_ok, test_ok, asks_for}

-- the test of any bytes, by its number
module _ (bytes : List ℕ) {t : ℕ} where
  pub test_1 : t ≡ 1 → test_ok t bytes ≡ label_ok (at bytes 0)
  unfolding test_ok
  test_1 q = rw q

  pub test_2 : t ≡ 2 → test_ok t bytes ≡ cond_ok (at bytes 0)
  unfolding test_ok
  test_2 q = rw q

  pub test_3 : t ≡ 3 → test_ok t bytes ≡ (cond_ok (at bytes 0) && label_ok (at bytes 1))
  unfolding test_ok
  test_3 q = rw q

  pub test_4 : t ≡ 4 → test_ok t bytes ≡ flags_ok 32 false (at bytes 0)
  unfolding test_ok
  test_4 q = rw q

  pub test_5 : t ≡ 5 → test_ok t bytes ≡ flags_ok 64 false (at bytes 0)
  unfolding test_ok
  test_5 q = rw q

  pub test_6 : t ≡ 6 → test_ok t bytes ≡ flags_ok 32 true (at bytes 0)
  unfolding test_ok
  test_6 q = rw q

  pub test_7 : t ≡ 7 → test_ok t bytes ≡ flags_ok 64 true (at bytes 0)
  unfolding test_ok
  test_7 q = rw q

  pub test_8 : t ≡ 8 → test_ok t bytes ≡ ltb (low_first bytes 0 8) (2 ^ 32)
  unfolding test_ok
  test_8 q = rw q

  pub test_9 : t ≡ 9 → test_ok t bytes ≡ field_ok 32 (at bytes 0) (at bytes 1)
  unfolding test_ok
  test_9 q = rw q

  pub test_10 : t ≡ 10 → test_ok t bytes ≡ field_ok 64 (at bytes 0) (at bytes 1)
  unfolding test_ok
  test_10 q = rw q

  pub test_11 : t ≡ 11 → test_ok t bytes ≡ position_ok 32 (at bytes 0)
  unfolding test_ok
  test_11 q = rw q

  pub test_12 : t ≡ 12 → test_ok t bytes ≡ position_ok 64 (at bytes 0)
  unfolding test_ok
  test_12 q = rw q

  pub test_13 : t ≡ 13 → test_ok t bytes ≡ swap_flags_ok (at bytes 0)
  unfolding test_ok
  test_13 q = rw q

  pub test_14 : t ≡ 14 → test_ok t bytes ≡ no_flags_ok (at bytes 0)
  unfolding test_ok
  test_14 q = rw q

  -- what a match on the numbers 1 to 14 leaves over
  pub no_test : Past 1 14 t → true ≡ test_ok t bytes
  unfolding test_ok
  no_test ((((((((((((((u, n1), n2), n3), n4), n5), n6), n7), n8), n9), n10), n11), n12), n13), n14) =
      rw (
        ne_eqb t 1 n1,
        ne_eqb t 2 n2,
        ne_eqb t 3 n3,
        ne_eqb t 4 n4,
        ne_eqb t 5 n5,
        ne_eqb t 6 n6,
        ne_eqb t 7 n7,
        ne_eqb t 8 n8,
        ne_eqb t 9 n9,
        ne_eqb t 10 n10,
        ne_eqb t 11 n11,
        ne_eqb t 12 n12,
        ne_eqb t 13 n13,
        ne_eqb t 14 n14,
      )

-- an entry whose test asks for no more bytes than there are
module _ (b : List ℕ) (p e : ℕ) (few : asks_for (test_in e) ≤ rest_in e) where
  byte : (i : ℕ) → i < rest_in e → at (take (rest_in e) (drop p b)) i ≡ at b (p + i)
  byte i h = get_or-take (rest_in e) (drop p b) i 0 h ∙ get_or-drop p b i 0

  first : 0 < rest_in e → at (take (rest_in e) (drop p b)) 0 ≡ at b p
  first h = byte 0 h ∙ ap (at b) (add-zero p)

  -- a test by its number, and how many bytes it asks for
  asked : {t : ℕ} → test_in e ≡ t → asks_for t ≤ rest_in e
  asked q = subst (λ (n : ℕ). asks_for n ≤ rest_in e) q few

  numbered : {t : ℕ} → test_in e ≡ t → test_ok (test_in e) (take (rest_in e) (drop p b)) ≡ test_ok t (take (rest_in e) (drop p b))
  numbered q = ap (λ (n : ℕ). test_ok n (take (rest_in e) (drop p b))) q

  pub label_test : test_in e ≡ 1 → test_ok (test_in e) (take (rest_in e) (drop p b)) ≡ label_ok (at b p)
  unfolding test_ok
  label_test q = numbered q ∙ ap label_ok (first (omega (arith, asked q)))

  pub branch_test : test_in e ≡ 3 → test_ok (test_in e) (take (rest_in e) (drop p b)) ≡ (cond_ok (at b p) && label_ok (at b (p + 1)))
  unfolding test_ok
  branch_test q = numbered q ∙ ap₂ (λ (c l : ℕ). cond_ok c && label_ok l) (first (omega (arith, asked q))) (byte 1 (omega (arith, asked q)))

  pub constant_test : test_in e ≡ 8 → test_ok (test_in e) (take (rest_in e) (drop p b)) ≡ ltb (low_first b p 8) (2 ^ 32)
  unfolding test_ok
  constant_test q =
      let room : 8 ≤ rest_in e = asked q in
      numbered q
      ∙ ap (λ (x : ℕ). ltb x (2 ^ 32)) (low_same (take (rest_in e) (drop p b)) b 0 p 8 (λ i l. ap (at (take (rest_in e) (drop p b))) (zero-add i) ∙ byte i (omega arith)))
