-- The kept ops, copied in runs between those that are not as they were. Assumes nothing.
use mathlib.Core.Path.{◌≡◌, refl, sym, ap, ◌∙◌, subst}
use mathlib.Core.Bool.{true, false, cond}
use mathlib.Core.List.{List, [], ◌∷◌, ◌++◌}
use mathlib.Core.Logic.{◌⊎◌, inl, inr}
use Prim.Native.Nat.{ℕ, suc, ◌+◌, ◌-◌, ◌≤◌, ◌<◌}
use native.Mathlib.Omega.{arith}
use native.Mathlib.Numerals.{add-one}
use native.Mathlib.Nat.{zero-add}
use lib.Arith.{lt_of_le-ne}
use lib.Dec.{eqb}
use lib.ListN.{length, get_or, take, drop, length-append}
use lib.Seq.{sets, drop-cons}
use borrow.Author.Tests.{eqb-true, eqb-false, lt-ltb, le-ltb}
use Rattle.theory.proofs.Sets.{tell}
use Rattle.ops.specs.Rows.{body_length, computing, role_of}
use Rattle.ops.specs.Table.{row_of}
use Rattle.block.specs.Records.{record_bytes}
use Rattle.block.specs.Scan.{record_at}
use Rattle.passes.specs.Knows.{folded_ops}
use Rattle.passes.specs.Laid.{ops_at, place_of, Laid, edit_of, kept_from}
use Rattle.passes.specs.Live.{Marked, emitted}
use Rattle.passes.proofs.Bytes.{kept_more, kept_less, kept_none}
use Rattle.passes.proofs.Constants.{constant_long}
use Rattle.passes.proofs.Forward.{folded_long}
use Rattle.passes.proofs.Stores.{Copying, copying_start, copying_over, copying_put, copying_ends, copying_room}

-- the kept ops before the i-th are stored, or wait
pub record EmittingSo (b P marks out₀ out : List ℕ) (ops from to i : ℕ) : Type 0 where
  pub copied : Copying b out₀ out 0 from (place_of b P ops i) to (emitted b P marks ops) (record_bytes (kept_from i marks (drop i (folded_ops (ops_at b P 0 ops)))))

pub emitting_start : {b P marks out : List ℕ} {ops : ℕ} → place_of b P ops 0 ≤ length b → EmittingSo b P marks out out ops 0 0 0
emitting_start {b} {P} {marks} {out} {ops} h =
    let first = place_of b P ops 0 in
    let left = record_bytes (kept_from 0 marks (folded_ops (ops_at b P 0 ops))) in
    let over = copying_over (copying_start {b = b} {out = out} {start = 0} {p = 0} {all = emitted b P marks ops} (omega arith)) first {more' = left} refl (omega (arith, h)) in
    record { copied = subst (λ (n : ℕ). Copying b out out 0 0 n 0 (emitted b P marks ops) left) (zero-add first) over }

pub marked_some : {m : ℕ} → (m ≡ 0 → ⊥) → 0 < m
marked_some {m} n = lt_of_le-ne {i = 0} {k = m} (omega arith) (λ z. n (sym z))

-- the bytes in an op's place
pub edit_long : (b : List ℕ) (p m x : ℕ) → length (edit_of b p m x) ≡ cond (eqb m 1) 10 0
edit_long b p m x = go (tell (eqb m 1))
  where
    go : (eqb m 1 ≡ true) ⊎ (eqb m 1 ≡ false) → length (edit_of b p m x) ≡ cond (eqb m 1) 10 0
    go (inl q) = rw q (constant_long (record_at row_of b p) x)
    go (inr q) = rw q

module _ {b P marks constants out₀ out : List ℕ} {ops from to i : ℕ} (laid : Laid b P ops) (left : Marked b P marks constants ops) (s : EmittingSo b P marks out₀ out ops from to i) where
  abbrev os : List (List ℕ)
  os = folded_ops (ops_at b P 0 ops)

  module _ (h : i < ops) where
    abbrev o : List ℕ
    o = get_or (folded_ops (ops_at b P 0 ops)) i []

    abbrev more : List ℕ
    more = record_bytes (kept_from (i + 1) marks (drop (i + 1) (folded_ops (ops_at b P 0 ops))))

    abbrev body : ℕ
    body = suc (body_length row_of (get_or b (get_or P i 0) 0))

    cut : drop i os ≡ o ∷ drop (suc i) os
    cut = drop-cons os i [] (omega (arith, folded_long b P ops))

    place_here : place_of b P ops i ≡ get_or P i 0
    place_here = rw (lt-ltb i ops h)

    pub here : Copying b out₀ out 0 from (get_or P i 0) to (emitted b P marks ops) (record_bytes (kept_from i marks (drop i (folded_ops (ops_at b P 0 ops)))))
    here = subst (λ (n : ℕ). Copying b out₀ out 0 from n to (emitted b P marks ops) (record_bytes (kept_from i marks (drop i os)))) place_here s.copied

    kept_here : get_or marks i 0 < 2 → record_bytes (kept_from i marks (drop i os)) ≡ o ++ more
    kept_here k =
        ap (λ (xs : List (List ℕ)). record_bytes (kept_from i marks xs)) cut ∙ ap record_bytes (kept_more i marks o (drop (suc i) os) k)
        ∙ ap (λ (n : ℕ). o ++ record_bytes (kept_from n marks (drop n os))) (sym (add-one i))

    dropped_here : 2 ≤ get_or marks i 0 → record_bytes (kept_from i marks (drop i os)) ≡ more
    dropped_here k =
        ap (λ (xs : List (List ℕ)). record_bytes (kept_from i marks xs)) cut ∙ ap record_bytes (kept_less i marks o (drop (suc i) os) k)
        ∙ ap (λ (n : ℕ). record_bytes (kept_from n marks (drop n os))) (sym (add-one i))

    -- it waits
    pub emitting_stays : get_or marks i 0 ≡ 0 → EmittingSo b P marks out₀ out ops from to (i + 1)
    emitting_stays k =
        let e = kept_here (omega arith) ∙ ap (λ (x : List ℕ). x ++ more) ((left.left i h (omega arith)).stays k) in
        record {
          copied =
              subst (λ (n : ℕ). Copying b out₀ out 0 from n to (emitted b P marks ops) more) (sym (laid.next_is i h)) (copying_over here body e (laid.stands i h).whole);
        }

    -- an op that a constant replaces computes
    pub edit_computes : get_or marks i 0 ≡ 1 → role_of row_of (get_or b (get_or P i 0) 0) ≡ computing
    edit_computes k = ((left.left i h (omega arith)).becomes k).role_is

    module _ (k : 0 < get_or marks i 0) where
      edit_here : record_bytes (kept_from i marks (drop i os)) ≡ edit_of b (get_or P i 0) (get_or marks i 0) (get_or constants i 0) ++ more
      edit_here = go (tell (eqb (get_or marks i 0) 1))
        where
          go : (eqb (get_or marks i 0) 1 ≡ true) ⊎ (eqb (get_or marks i 0) 1 ≡ false) → record_bytes (kept_from i marks (drop i os)) ≡ edit_of b (get_or P i 0) (get_or marks i 0) (get_or constants i 0) ++ more
          go (inl q) =
              let one : get_or marks i 0 ≡ 1 = eqb-true (get_or marks i 0) 1 q in
              rw q (kept_here (omega arith) ∙ ap (λ (x : List ℕ). x ++ more) ((left.left i h (omega arith)).becomes one).op_is)
          go (inr q) = rw q (dropped_here (above (get_or marks i 0) k (eqb-false (get_or marks i 0) 1 q)))
            where
              above : (m : ℕ) → 0 < m → (m ≡ 1 → ⊥) → 2 ≤ m
              above m l n = lt_of_le-ne {i = 1} {k = m} l (λ z. n (sym z))

      pub edit_room : length (emitted b P marks ops) ≤ length out₀ → to + (get_or P i 0 - from) + cond (eqb (get_or marks i 0) 1) 10 0 ≤ length out
      edit_room r =
          omega (
            arith,
            copying_room here (omega (arith, r)),
            ap length edit_here,
            length-append (edit_of b (get_or P i 0) (get_or marks i 0) (get_or constants i 0)) more,
            edit_long b (get_or P i 0) (get_or marks i 0) (get_or constants i 0),
          )

      -- those that wait are stored, and what stands in its place
      pub emitting_edits : {out' : List ℕ} {to' next : ℕ} → out' ≡ sets out to (take (get_or P i 0 - from) (drop from b) ++ edit_of b (get_or P i 0) (get_or marks i 0) (get_or constants i 0))
          → to' ≡ to + (get_or P i 0 - from) + cond (eqb (get_or marks i 0) 1) 10 0 → next ≡ place_of b P ops (i + 1) → EmittingSo b P marks out₀ out' ops next to' (i + 1)
      emitting_edits {out'} {to'} {next} q t n =
          let x = edit_of b (get_or P i 0) (get_or marks i 0) (get_or constants i 0) in
          let z : to' ≡ to + (get_or P i 0 - from) + length x = t ∙ ap (λ (m : ℕ). to + (get_or P i 0 - from) + m) (sym (edit_long b (get_or P i 0) (get_or marks i 0) (get_or constants i 0))) in
          record {
            copied =
                subst (λ (m : ℕ). Copying b out₀ out' 0 next m to' (emitted b P marks ops) more) n
                (copying_put here x edit_here q z (omega (arith, n, laid.next_is i h, (laid.stands i h).whole)));
          }

  module _ (h : ops ≤ i) where
    place_end : place_of b P ops i ≡ length b
    place_end = rw (le-ltb i ops h)

    last : Copying b out₀ out 0 from (length b) to (emitted b P marks ops) (record_bytes (kept_from i marks (drop i (folded_ops (ops_at b P 0 ops)))))
    last = subst (λ (n : ℕ). Copying b out₀ out 0 from n to (emitted b P marks ops) (record_bytes (kept_from i marks (drop i os)))) place_end s.copied

    pub run_fits : length (emitted b P marks ops) ≤ length out₀ → (from ≤ length b) × (to + (length b - from) ≤ length out)
    run_fits r = (last.ordered, omega (arith, copying_room last (omega (arith, r))))

    pub emitting_ends : {out' : List ℕ} → out' ≡ sets out to (take (length b - from) (drop from b)) → out' ≡ sets out₀ 0 (emitted b P marks ops)
    emitting_ends q = (copying_ends last (ap record_bytes (kept_none i marks os (omega (arith, folded_long b P ops)))) q).0
