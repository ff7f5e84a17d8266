-- Prune, op by op from the last. Assumes nothing.
use mathlib.Core.Path.{◌≡◌, refl, sym, ap, ◌∙◌, subst}
use mathlib.Core.Bool.{Bool, true, false, cond}
use mathlib.Core.List.{List, [], ◌∷◌, ◌++◌}
use mathlib.Core.Logic.{◌⊎◌, inl, inr}
use Prim.Native.Nat.{ℕ, zero, suc, ◌+◌, ◌-◌, ◌*◌, ◌≤◌, ◌<◌}
use native.Mathlib.Omega.{arith}
use lib.Dec.{eqb}
use lib.ListN.{length, get_or, drop, set, length-append, drop_of_length-le}
use lib.Seq.{drop-cons, get_or-set_same, get_or-set_other}
use borrow.Author.Tests.{eq-eqb, ne_eqb, eqb-true, eqb-false}
use Rattle.theory.specs.Sets.{Vars}
use Rattle.theory.specs.Prune.{dead, live as live_ops, prune}
use Rattle.theory.proofs.Sets.{tell}
use Rattle.ops.specs.Rows.{body_length, role_of, computing}
use Rattle.ops.specs.Kinds.{document01}
use Rattle.ops.specs.Table.{row_of}
use Rattle.ops.specs.Ops.{view_of, tcg}
use Rattle.ops.proofs.Table.{body_short}
use Rattle.block.specs.Records.{record_bytes}
use Rattle.block.specs.Scan.{record_at, Stands}
use Rattle.block.proofs.Views.{pure_view_lem}
use Rattle.passes.specs.Knows.{folded_ops, Folded}
use Rattle.passes.specs.Laid.{ops_at, Laid, Leaves, kept_from}
use Rattle.passes.specs.Live.{live_before, live_as, Keeps, Marked}
use Rattle.passes.proofs.Bytes.{kept_more, kept_less, kept_none, kept_later}
use Rattle.passes.proofs.Constants.{constant_long}
use Rattle.passes.proofs.Forward.{folded_long}
use Rattle.passes.proofs.Placing.{op_long}

pub below_two : (m : ℕ) → m < 2 → (m ≡ 0) ⊎ (m ≡ 1)
below_two zero h = inl refl
below_two (suc zero) h = inr refl
below_two (suc (suc m)) h = absurd (omega arith)

-- what fold leaves of an op, by its mark: whether it is dead, what is live before it, and its length
module _ {b : List ℕ} {p m x : ℕ} {o : List ℕ} (s : Stands row_of b p (get_or b p 0)) (w : Leaves b p m x o) (few : m < 2) where
  left_dead : (l : Vars) → dead (view_of document01 o) l ≡ dead (view_of document01 (record_at row_of b p)) l
  left_dead l = go (below_two m few)
    where
      go : (m ≡ 0) ⊎ (m ≡ 1) → dead (view_of document01 o) l ≡ dead (view_of document01 (record_at row_of b p)) l
      go (inl z) = ap (λ (q : List ℕ). dead (view_of document01 q) l) (w.stays z)
      go (inr z) = rw ((w.becomes z).view_is, pure_view_lem s (w.becomes z).role_is)

  left_live : (glob kept l : Vars) → live_before glob kept o l ≡ live_as m b p glob kept l
  left_live glob kept l = go (below_two m few)
    where
      go : (m ≡ 0) ⊎ (m ≡ 1) → live_before glob kept o l ≡ live_as m b p glob kept l
      go (inl z) = rw (ne_eqb m 1 (λ y. omega arith)) (ap (λ (q : List ℕ). live_before glob kept q l) (w.stays z))
      go (inr z) = rw (eq-eqb m 1 z, (w.becomes z).view_is)

  left_long : length o ≡ cond (eqb m 1) 10 (length (record_at row_of b p))
  left_long = go (below_two m few)
    where
      go : (m ≡ 0) ⊎ (m ≡ 1) → length o ≡ cond (eqb m 1) 10 (length (record_at row_of b p))
      go (inl z) = rw (ne_eqb m 1 (λ y. omega arith)) (ap length (w.stays z))
      go (inr z) = rw (eq-eqb m 1 z) (ap length (w.becomes z).op_is ∙ constant_long (record_at row_of b p) x)

-- the ops from the i-th on have been pruned
pub record Pruning (os : List (List ℕ)) (glob kept : Vars) (marks₀ marks : List ℕ) (live : Vars) (i size : ℕ) : Type 0 where
  pub kept_so : kept_from i marks (drop i os) ≡ prune (tcg document01) glob kept (drop i os)
  pub live_so : live ≡ live_ops (tcg document01) glob kept (drop i os)
  pub size_so : size ≡ length (record_bytes (kept_from i marks (drop i os)))
  pub earlier : (j : ℕ) → j < i → get_or marks j 0 ≡ get_or marks₀ j 0
  pub marks_so : (j : ℕ) → get_or marks j 0 < 2 → get_or marks j 0 ≡ get_or marks₀ j 0
  pub small : size + 10 * i ≤ 10 * length os

pub pruning_start : (b P marks : List ℕ) (glob kept : Vars) (ops : ℕ) → Pruning (folded_ops (ops_at b P 0 ops)) glob kept marks marks glob ops 0
pruning_start b P marks glob kept ops =
    let os = folded_ops (ops_at b P 0 ops) in
    let e : length (folded_ops (ops_at b P 0 ops)) ≡ ops = folded_long b P ops in
    let d : drop ops (folded_ops (ops_at b P 0 ops)) ≡ [] = drop_of_length-le os {i = ops} (omega arith) in
    let k = kept_none ops marks os (omega arith) in
    record {
      kept_so = k ∙ rw d;
      live_so = rw d;
      size_so = sym (ap (λ (xs : List (List ℕ)). length (record_bytes xs)) k);
      earlier = λ j h. refl;
      marks_so = λ j h. refl;
      small = omega arith;
    }

-- from the i-th on is after the one before it
pub before_that : {os : List (List ℕ)} {glob kept : Vars} {marks₀ marks : List ℕ} {live : Vars} {i size : ℕ} → Pruning os glob kept marks₀ marks live i size → 0 < i
    → Pruning os glob kept marks₀ marks live (suc (i - 1)) size
before_that {os} {glob} {kept} {marks₀} {marks} {live} {i} {size} s h =
    let e : i ≡ suc (i - 1) = omega arith in subst (λ (n : ℕ). Pruning os glob kept marks₀ marks live n size) e s

-- the length of what is left of an op, from its place and the next
pub long_so : (t : Bool) (at body : ℕ) {n next : ℕ} → n ≡ cond t 10 (next - at) → next ≡ at + body → n ≡ cond t 10 body
long_so t at body {n} {next} e q = let z : next - at ≡ body = omega arith in e ∙ ap (cond t 10) z

module _ {b P constants marks₀ marks : List ℕ} {glob kept live : Vars} {ops i size : ℕ} (laid : Laid b P ops) (f : Folded b P marks₀ constants ops)
    (s : Pruning (folded_ops (ops_at b P 0 ops)) glob kept marks₀ marks live (suc i) size) (h : i < ops) where
  abbrev os : List (List ℕ)
  os = folded_ops (ops_at b P 0 ops)

  abbrev o : List ℕ
  o = get_or (folded_ops (ops_at b P 0 ops)) i []

  cut : drop i (folded_ops (ops_at b P 0 ops)) ≡ get_or (folded_ops (ops_at b P 0 ops)) i [] ∷ drop (suc i) (folded_ops (ops_at b P 0 ops))
  cut = drop-cons os i [] (omega (arith, folded_long b P ops))

  mark_is : get_or marks i 0 ≡ get_or marks₀ i 0
  mark_is = s.earlier i (omega arith)

  leaves : Leaves b (get_or P i 0) (get_or marks i 0) (get_or constants i 0) (get_or (folded_ops (ops_at b P 0 ops)) i [])
  leaves = rw mark_is (f.left i h)

  mark_few : get_or marks i 0 < 2
  mark_few = omega (arith, mark_is, f.marks_few i h)

  dead_so : dead (view_of document01 o) (live_ops (tcg document01) glob kept (drop (suc i) os)) ≡ dead (view_of document01 (record_at row_of b (get_or P i 0))) live
  dead_so = left_dead (laid.stands i h) leaves mark_few (live_ops (tcg document01) glob kept (drop (suc i) os)) ∙ ap (dead (view_of document01 (record_at row_of b (get_or P i 0)))) (sym s.live_so)

  pub mark_computes : get_or marks i 0 ≡ 1 → role_of row_of (get_or b (get_or P i 0) 0) ≡ computing
  mark_computes e = ((f.left i h).becomes (sym mark_is ∙ e)).role_is

  -- the op is dropped
  pub pruning_dead : i < length marks → true ≡ dead (view_of document01 (record_at row_of b (get_or P i 0))) live → Pruning (folded_ops (ops_at b P 0 ops)) glob kept marks₀ (set marks i 2) live i size
  pruning_dead long d =
      let w = dead_so ∙ sym d in
      let here : get_or (set marks i 2) i 0 ≡ 2 = get_or-set_same marks i 2 0 long in
      let k : kept_from i (set marks i 2) (o ∷ drop (suc i) os) ≡ kept_from (suc i) marks (drop (suc i) os) =
      kept_less i (set marks i 2) o (drop (suc i) os) (omega (arith, here)) ∙ kept_later (suc i) i 2 marks (drop (suc i) os) (omega arith) in
      record {
        kept_so = rw cut (k ∙ s.kept_so ∙ rw w);
        live_so = rw cut (s.live_so ∙ rw w);
        size_so = rw cut (s.size_so ∙ ap (λ (xs : List (List ℕ)). length (record_bytes xs)) (sym k));
        earlier = λ j l. get_or-set_other marks i j 2 0 (λ z. omega arith) ∙ s.earlier j (omega arith);
        marks_so = λ j l. later j (tell (eqb i j)) l;
        small = omega (arith, s.small);
      }
    where
      later : (j : ℕ) → (eqb i j ≡ true) ⊎ (eqb i j ≡ false) → get_or (set marks i 2) j 0 < 2 → get_or (set marks i 2) j 0 ≡ get_or marks₀ j 0
      later j (inl q) l = let e : i ≡ j = eqb-true i j q in absurd (omega (arith, get_or-set_same marks i 2 0 long, ap (λ (n : ℕ). get_or (set marks i 2) n 0) e))
      later j (inr q) l = let e = get_or-set_other marks i j 2 0 (λ z. eqb-false i j q (sym z)) in e ∙ s.marks_so j (omega (arith, e))

  -- it is kept
  kept_short : {n : ℕ} (t : Bool) → n ≡ cond t 10 (suc (body_length row_of (get_or b (get_or P i 0) 0))) → n ≤ 10
  kept_short true q = omega (arith, q)
  kept_short false q = omega (arith, q, body_short (get_or b (get_or P i 0) 0))

  kept_long : length o ≡ cond (eqb (get_or marks i 0) 1) 10 (suc (body_length row_of (get_or b (get_or P i 0) 0)))
  kept_long = left_long (laid.stands i h) leaves mark_few ∙ ap (cond (eqb (get_or marks i 0) 1) 10) (op_long laid h)

  pub pruning_kept : {live' : Vars} {n : ℕ} → false ≡ dead (view_of document01 (record_at row_of b (get_or P i 0))) live → live' ≡ live_as (get_or marks i 0) b (get_or P i 0) glob kept live
      → n ≡ cond (eqb (get_or marks i 0) 1) 10 (suc (body_length row_of (get_or b (get_or P i 0) 0))) → Pruning (folded_ops (ops_at b P 0 ops)) glob kept marks₀ marks live' i (size + n)
  pruning_kept {live'} {n} d m e =
      let w = dead_so ∙ sym d in
      let k = kept_more i marks o (drop (suc i) os) mark_few in
      let z : size + n ≡ length (o ++ record_bytes (kept_from (suc i) marks (drop (suc i) os))) = omega (arith, e, s.size_so, kept_long, length-append o (record_bytes (kept_from (suc i) marks (drop (suc i) os)))) in
      record {
        kept_so = rw cut (k ∙ ap (λ (xs : List (List ℕ)). o ∷ xs) s.kept_so ∙ rw w);
        live_so = rw cut (m ∙ sym (left_live (laid.stands i h) leaves mark_few glob kept live) ∙ ap (live_before glob kept o) s.live_so ∙ rw w);
        size_so = rw cut (z ∙ ap (λ (xs : List (List ℕ)). length (record_bytes xs)) (sym k));
        earlier = λ j l. s.earlier j (omega arith);
        marks_so = s.marks_so;
        small = omega (arith, s.small, kept_short (eqb (get_or marks i 0) 1) e);
      }

  -- the bytes so far and its own
  pub size_fits : {n : ℕ} → n ≡ cond (eqb (get_or marks i 0) 1) 10 (suc (body_length row_of (get_or b (get_or P i 0) 0))) → size + n ≤ 10 * ops
  size_fits {n} e = omega (arith, s.small, folded_long b P ops, kept_short (eqb (get_or marks i 0) 1) e)

pub pruning_ends : {os : List (List ℕ)} {glob kept : Vars} {marks₀ marks : List ℕ} {live : Vars} {i size : ℕ} → Pruning os glob kept marks₀ marks live i size → i ≤ 0 → Keeps os glob kept marks₀ marks size
pruning_ends {os} {glob} {kept} {marks₀} {marks} {live} {i} {size} s h =
    let z : i ≡ 0 = omega arith in
    let s₀ = subst (λ (n : ℕ). Pruning os glob kept marks₀ marks live n size) z s in
    record { kept_are = s₀.kept_so; size_is = s₀.size_so; marks_are = s₀.marks_so }

-- those that are kept are as fold left them
pub kept_marked : {b P constants marks₀ marks : List ℕ} {os : List (List ℕ)} {glob kept : Vars} {ops size : ℕ} → Folded b P marks₀ constants ops → Keeps os glob kept marks₀ marks size → Marked b P marks constants ops
kept_marked f k = record { left = λ i h l. rw (k.marks_are i l) (f.left i h) }
