-- Bytes stored one after the other. Assumes nothing.
use mathlib.Core.Path.{◌≡◌, refl, sym, ap, ap₂, ◌∙◌}
use mathlib.Core.List.{List, [], ◌∷◌, ◌++◌, append_assoc, append-nil}
use Prim.Native.Nat.{ℕ, suc, ◌+◌, ◌-◌, ◌≤◌, ◌<◌}
use native.Mathlib.Omega.{arith}
use lib.ListN.{length, get_or, take, drop, set, length-drop, length-append}
use lib.Seq.{length-take-le, take_all, sets, length-sets, take-suc, get_or-drop, take-add, drop-drop}
use native.Mathlib.Nat.{add-zero, le_antisymm}
use native.Mathlib.Numerals.{add-one}
use Rattle.memory.specs.Bytes.{bytes_of}
use Rattle.memory.proofs.Numbers.{length_bytes}

pub sets_append : (l : List ℕ) (i : ℕ) (xs ys : List ℕ) → sets l i (xs ++ ys) ≡ sets (sets l i xs) (i + length xs) ys
sets_append l i [] ys = ap (λ (n : ℕ). sets l n ys) (sym (add-zero i))
sets_append l i (x ∷ xs) ys =
    let e : suc i + length xs ≡ i + suc (length xs) = omega arith in
    sets_append (set l i x) (suc i) xs ys ∙ ap (λ (n : ℕ). sets (sets (set l i x) (suc i) xs) n ys) e

-- a copy of j bytes so far
pub record Copied (b out₀ out : List ℕ) (from to j : ℕ) : Type 0 where
  pub so : out ≡ sets out₀ to (take j (drop from b))

pub copied_start : (b out : List ℕ) (from to : ℕ) → Copied b out out from to 0
copied_start b out from to = record { so = refl }

pub copied_length : {b out₀ out : List ℕ} {from to j : ℕ} → Copied b out₀ out from to j → length out ≡ length out₀
copied_length {b} {out₀} {out} {from} {to} {j} c = ap length c.so ∙ length-sets out₀ to (take j (drop from b))

pub copied_next : {b out₀ out : List ℕ} {from to j : ℕ} → Copied b out₀ out from to j → from + j < length b
    → Copied b out₀ (set out (to + j) (get_or b (from + j) 0)) from to (j + 1)
copied_next {b} {out₀} {out} {from} {to} {j} c h =
    let l : j < length (drop from b) = omega (arith, length-drop from b) in
    let e : length (take j (drop from b)) ≡ j = length-take-le j (drop from b) (omega arith) in
    record {
      so =
          ap₂ (λ (x : List ℕ) (y : ℕ). set x (to + j) y) c.so (sym (get_or-drop from b j 0))
          ∙ ap (λ (n : ℕ). set (sets out₀ to (take j (drop from b))) (to + n) (get_or (drop from b) j 0)) (sym e)
          ∙ sym (sets_append out₀ to (take j (drop from b)) (get_or (drop from b) j 0 ∷ []))
          ∙ ap (sets out₀ to) (sym (take-suc (drop from b) j 0 l) ∙ ap (λ (n : ℕ). take n (drop from b)) (sym (add-one j)));
    }

pub copied_ends : {b out₀ out : List ℕ} {from to j n : ℕ} → Copied b out₀ out from to j → j ≤ n → n ≤ j → out ≡ sets out₀ to (take n (drop from b))
copied_ends {b} {out₀} {out} {from} {to} {j} c l h = let e : j ≡ _ = le_antisymm l h in c.so ∙ ap (λ (m : ℕ). sets out₀ to (take m (drop from b))) e

-- a movi: its kind, its output, and the bytes of its number
pub movi_sets : (out : List ℕ) {out' bytes : List ℕ} (to kind d x : ℕ) → bytes ≡ bytes_of 8 x → out' ≡ sets (set (set out to kind) (to + 1) d) (to + 2) (take 8 (drop 0 bytes))
    → out' ≡ sets out to (kind ∷ d ∷ bytes_of 8 x)
movi_sets out to kind d x z e =
    let q : to + 2 ≡ suc (suc to) = omega arith in
    e ∙ ap (λ (y : List ℕ). sets (set (set out to kind) (to + 1) d) (to + 2) (take 8 y)) z ∙ ap (sets (set (set out to kind) (to + 1) d) (to + 2)) (all_eight x)
    ∙ ap₂ (λ (a c : ℕ). sets (set (set out to kind) a d) c (bytes_of 8 x)) (add-one to) q
  where
    all_eight : (x : ℕ) → take 8 (bytes_of 8 x) ≡ bytes_of 8 x
    all_eight x = take_all 8 (bytes_of 8 x) (omega (arith, length_bytes 8 x))

-- records copied in runs: some bytes are stored, those of b between two places wait, more are to come, and all of them will stand from start on
pub record Copying (b out₀ out : List ℕ) (start from at to : ℕ) (all more : List ℕ) : Type 0 where
  pub stored : sets out to (take (at - from) (drop from b) ++ more) ≡ sets out₀ start all
  pub place_so : to + (at - from) + length more ≡ start + length all
  pub same_long : length out ≡ length out₀
  pub ordered : from ≤ at
  pub inside : at ≤ length b

nothing_waits : (b : List ℕ) (p : ℕ) → take (p - p) (drop p b) ≡ []
nothing_waits b p = let e : p - p ≡ 0 = omega arith in ap (λ (n : ℕ). take n (drop p b)) e

pub copying_start : {b out : List ℕ} {start p : ℕ} {all : List ℕ} → p ≤ length b → Copying b out out start p p start all all
copying_start {b} {out} {start} {p} {all} h =
    record { stored = ap (λ (x : List ℕ). sets out start (x ++ all)) (nothing_waits b p); place_so = omega arith; same_long = refl; ordered = omega arith; inside = h }

module _ {b out₀ out : List ℕ} {start from at to : ℕ} {all more : List ℕ} (c : Copying b out₀ out start from at to all more) where
  abbrev run : List ℕ
  run = take (at - from) (drop from b)

  run_long : length (take (at - from) (drop from b)) ≡ at - from
  run_long = length-take-le (at - from) (drop from b) (omega (arith, length-drop from b, c.inside))

  -- the next bytes of b wait too
  pub copying_over : (n : ℕ) {more' : List ℕ} → more ≡ take n (drop at b) ++ more' → at + n ≤ length b → Copying b out₀ out start from (at + n) to all more'
  copying_over n {more'} e h =
      let l : length (take n (drop at b)) ≡ n = length-take-le n (drop at b) (omega (arith, length-drop at b)) in
      let z : at + n - from ≡ at - from + n = omega (arith, c.ordered) in
      let w : from + (at - from) ≡ at = omega (arith, c.ordered) in
      let r : take (at + n - from) (drop from b) ≡ run ++ take n (drop at b) =
      ap (λ (m : ℕ). take m (drop from b)) z ∙ take-add (at - from) n (drop from b)
      ∙ ap (λ (x : List ℕ). run ++ take n x) (drop-drop (at - from) from b ∙ ap (λ (m : ℕ). drop m b) w) in
      record {
        stored = ap (λ (x : List ℕ). sets out to (x ++ more')) r ∙ ap (sets out to) (append_assoc run (take n (drop at b)) more' ∙ ap (λ (x : List ℕ). run ++ x) (sym e)) ∙ c.stored;
        place_so = omega (arith, c.place_so, ap length e, length-append (take n (drop at b)) more', l, z);
        same_long = c.same_long;
        ordered = omega (arith, c.ordered);
        inside = h;
      }

  -- the bytes that wait are stored, and others after them
  pub copying_put : (x : List ℕ) {more' out' : List ℕ} {to' next : ℕ} → more ≡ x ++ more' → out' ≡ sets out to (take (at - from) (drop from b) ++ x) → to' ≡ to + (at - from) + length x → next ≤ length b
      → Copying b out₀ out' start next next to' all more'
  copying_put x {more'} {out'} {to'} {next} e q t h =
      let l : length (run ++ x) ≡ at - from + length x = length-append run x ∙ ap (λ (n : ℕ). n + length x) run_long in
      let z : to' ≡ to + length (run ++ x) = omega (arith, l, t) in
      record {
        stored =
            ap (λ (y : List ℕ). sets out' to' (y ++ more')) (nothing_waits b next) ∙ ap₂ (λ (y : List ℕ) (n : ℕ). sets y n more') q z
            ∙ sym (sets_append out to (run ++ x) more') ∙ ap (sets out to) (append_assoc run x more' ∙ ap (λ (y : List ℕ). run ++ y) (sym e)) ∙ c.stored;
        place_so = omega (arith, c.place_so, ap length e, length-append x more', t);
        same_long = ap length q ∙ length-sets out to (run ++ x) ∙ c.same_long;
        ordered = omega arith;
        inside = h;
      }

  -- no more are to come, and those that wait are stored
  pub copying_ends : {out' : List ℕ} → more ≡ [] → out' ≡ sets out to (take (at - from) (drop from b)) → (out' ≡ sets out₀ start all) × (to + (at - from) ≡ start + length all)
  copying_ends e q =
      (q ∙ ap (sets out to) (sym (append-nil run)) ∙ ap (λ (x : List ℕ). sets out to (run ++ x)) (sym e) ∙ c.stored, omega (arith, c.place_so, ap length e))

  -- there is room for them
  pub copying_room : start + length all ≤ length out₀ → to + (at - from) + length more ≤ length out
  copying_room h = omega (arith, c.place_so, c.same_long)

  pub run_inside : from + (at - from) ≤ length b
  run_inside = omega (arith, c.ordered, c.inside)
