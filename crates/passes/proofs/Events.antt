-- What is live, as times of events. Assumes nothing.
use mathlib.Core.Path.{◌≡◌, refl, sym, ap, ap₂, ◌∙◌, subst, fun_ext}
use mathlib.Core.Bool.{Bool, true, false, cond, not, ◌&&◌, ◌||◌}
use mathlib.Core.List.{List, [], ◌∷◌}
use mathlib.Core.Logic.{◌⊎◌, inl, inr}
use Prim.Native.Nat.{ℕ, zero, suc, ◌+◌, ◌-◌, ◌%◌, ◌≤◌, ◌<◌}
use native.Mathlib.Omega.{arith}
use lib.Arith.{lt_of_le-ne}
use lib.Dec.{eqb, ltb}
use lib.ListN.{length, get_or, replicate}
use borrow.Author.Tests.{ltb-false, lt-ltb, le-ltb, eq-eqb, ne_eqb}
use Rattle.theory.specs.Sets.{Vars, has, plus, without, both, none_in}
use Rattle.theory.proofs.Sets.{tell}
use Rattle.ops.specs.Rows.{Role, Row, computing, role_of, outs_in, ins_in, role_in, role_no, number_of, is_setting, is_jumping}
use Rattle.ops.specs.Table.{kind_table, row_of}
use Rattle.ops.specs.Fields.{bytes_at}
use Rattle.block.specs.Rules.{globals_in, kept_in}
use Rattle.block.specs.Scan.{SetAt, Stands}
use Rattle.block.proofs.MarkSets.{at_place, zeros}
use Rattle.passes.specs.Live.{before_at, live_as, last_of, live_of, Young, Classed, Turns, Timed}
use Rattle.passes.proofs.Before.{ends_before, pure_before, others_before, live_before_is}
use Rattle.ops.proofs.Entry.{digits}
use Rattle.passes.proofs.Counts.{few_outs, none_else, pure_out}

-- the last of two events
last_own : (n c : ℕ) → c ≤ n → last_of n c ≡ n
last_own n c h = rw (le-ltb n c h)

last_all : (s n : ℕ) → s ≤ n → last_of s n ≡ n
last_all s n h = go (tell (ltb s n))
  where
    go : (ltb s n ≡ true) ⊎ (ltb s n ≡ false) → last_of s n ≡ n
    go (inl q) = rw q
    go (inr q) = rw q (omega (arith, ltb-false s n q))

-- whether a variable is live, as its class's byte is read
same : (v : ℕ) (xs : List ℕ) → v < length xs → get_or xs v 0 ≡ get_or xs v 2
same v [] l = absurd (omega arith)
same zero (x ∷ xs) l = refl
same (suc v) (x ∷ xs) l = same v xs (omega arith)

module _ (events floors classes : List ℕ) (v : ℕ) (h : v < length classes) where
  live_is : eqb (last_of (get_or events v 0) (get_or floors (get_or classes v 0 % 4) 0) % 2) 1 ≡ live_of events floors classes v
  live_is = ap (λ (c : ℕ). eqb (last_of (get_or events v 0) (get_or floors (c % 4) 0) % 2) 1) (same v classes h)

  pub live_all_lem : get_or events v 0 < get_or floors (get_or classes v 0 % 4) 0 → eqb (get_or floors (get_or classes v 0 % 4) 0 % 2) 1 ≡ live_of events floors classes v
  live_all_lem k = rw (lt-ltb (get_or events v 0) (get_or floors (get_or classes v 0 % 4) 0) k) at live_is

  pub live_own : get_or floors (get_or classes v 0 % 4) 0 ≤ get_or events v 0 → eqb (get_or events v 0 % 2) 1 ≡ live_of events floors classes v
  live_own k = rw (le-ltb (get_or events v 0) (get_or floors (get_or classes v 0 % 4) 0) k) at live_is

pub none_one : (l : Vars) (b : List ℕ) (p : ℕ) {n : ℕ} {t : Bool} → n ≡ 1 → t ≡ l (get_or b p 0) → not t ≡ none_in (bytes_at b p n) l
none_one l b p e q = rw (e, q) (go (l (get_or b p 0)))
  where
    go : (t : Bool) → not t ≡ (not t && true)
    go true = refl
    go false = refl

pub counted : {n : ℕ} → (n ≡ 0 → ⊥) → 0 < n
counted {n} k = lt_of_le-ne {i = 0} {k = n} (omega arith) (λ z. k (sym z))

pub time_by : (s j : Bool) {s' j' t : Bool} (a b : ℕ) → s' ≡ s → j' ≡ j → (s' || j') ≡ t → cond t a b ≡ cond (s || j) a b
time_by s j a b p q r = ap (λ (t : Bool). cond t a b) (sym r ∙ ap₂ (λ (x y : Bool). x || y) p q)

-- at an even time
module _ (now : ℕ) (even : now % 2 ≡ 0) where
  after_odd : (now + 1) % 2 ≡ 1
  after_odd = omega arith

  ends_here : {n : ℕ} → n ≡ now → eqb (n % 2) 1 ≡ false
  ends_here e = ap (λ (m : ℕ). eqb (m % 2) 1) e ∙ ap (λ (m : ℕ). eqb m 1) even

  lives_here : {n : ℕ} → n ≡ now + 1 → eqb (n % 2) 1 ≡ true
  lives_here e = ap (λ (m : ℕ). eqb (m % 2) 1) e ∙ ap (λ (m : ℕ). eqb m 1) after_odd

  -- variables whose time is now are not live, and those whose time is later are
  module _ (events floors vs : List ℕ) (events' : List ℕ) where
    pub ended : Timed events vs now events' → ((c : ℕ) → get_or floors c 0 ≤ now) → (classes : List ℕ) → live_of events' floors classes ≡ without (live_of events floors classes) vs
    ended s y classes = fun_ext (λ v. ap (λ (n : ℕ). eqb (last_of n (get_or floors (get_or classes v 2 % 4) 0) % 2) 1) (s.times_are v) ∙ go v (has vs v))
      where
        go : (v : ℕ) (t : Bool) → eqb (last_of (cond t now (get_or events v 0)) (get_or floors (get_or classes v 2 % 4) 0) % 2) 1 ≡ (not t && live_of events floors classes v)
        go v true = ends_here (last_own now (get_or floors (get_or classes v 2 % 4) 0) (y (get_or classes v 2 % 4)))
        go v false = refl

    pub woken : Timed events vs (now + 1) events' → ((c : ℕ) → get_or floors c 0 ≤ now + 1) → (classes : List ℕ) → live_of events' floors classes ≡ plus (live_of events floors classes) vs
    woken s y classes = fun_ext (λ v. ap (λ (n : ℕ). eqb (last_of n (get_or floors (get_or classes v 2 % 4) 0) % 2) 1) (s.times_are v) ∙ go v (has vs v))
      where
        go : (v : ℕ) (t : Bool) → eqb (last_of (cond t (now + 1) (get_or events v 0)) (get_or floors (get_or classes v 2 % 4) 0) % 2) 1 ≡ (t || live_of events floors classes v)
        go v true = lives_here (last_own (now + 1) (get_or floors (get_or classes v 2 % 4) 0) (y (get_or classes v 2 % 4)))
        go v false = refl

  -- an event of all globals, and of local temporaries where t; and such an event where nothing else stays live
  module _ (events floors : List ℕ) (y : (v : ℕ) → get_or events v 0 ≤ now) (classes : List ℕ) (few : Classed classes) (t : Bool) where
    split : (v : ℕ) → cond t (ltb (get_or classes v 2) 2) (eqb (get_or classes v 2) 0) ≡ cond t (kept_in classes) (globals_in classes) v
    split v = by t
      where
        by : (t : Bool) → cond t (ltb (get_or classes v 2) 2) (eqb (get_or classes v 2) 0) ≡ cond t (kept_in classes) (globals_in classes) v
        by true = refl
        by false = refl

    wakes : (v : ℕ) → eqb (last_of (get_or events v 0) (now + 1) % 2) 1 ≡ true
    wakes v = lives_here (last_all (get_or events v 0) (now + 1) (omega (arith, y v)))

    pub shown : {x : ℕ} → x ≡ cond t (now + 1) (get_or floors 1 0)
        → live_of events ((now + 1) ∷ x ∷ get_or floors 2 0 ∷ 0 ∷ []) classes ≡ both (cond t (kept_in classes) (globals_in classes)) (live_of events floors classes)
    shown e = fun_ext (λ v. rw e (go v t (get_or classes v 2) (few.class_few v)) ∙ ap (λ (s : Bool). s || live_of events floors classes v) (split v))
      where
        go : (v : ℕ) (t : Bool) (k : ℕ) → k < 3 → eqb (last_of (get_or events v 0) (get_or ((now + 1) ∷ cond t (now + 1) (get_or floors 1 0) ∷ get_or floors 2 0 ∷ 0 ∷ []) (k % 4) 0) % 2) 1
            ≡ (cond t (ltb k 2) (eqb k 0) || eqb (last_of (get_or events v 0) (get_or floors (k % 4) 0) % 2) 1)
        go v true zero h = wakes v
        go v false zero h = wakes v
        go v true (suc zero) h = wakes v
        go v false (suc zero) h = refl
        go v true (suc (suc zero)) h = refl
        go v false (suc (suc zero)) h = refl
        go v t (suc (suc (suc k))) h = absurd (omega arith)

    pub closed : {x : ℕ} → x ≡ cond t (now + 1) now → live_of events ((now + 1) ∷ x ∷ now ∷ 0 ∷ []) classes ≡ cond t (kept_in classes) (globals_in classes)
    closed e = fun_ext (λ v. rw e (go v t (get_or classes v 2) (few.class_few v)) ∙ split v)
      where
        go : (v : ℕ) (t : Bool) (k : ℕ) → k < 3 → eqb (last_of (get_or events v 0) (get_or ((now + 1) ∷ cond t (now + 1) now ∷ now ∷ 0 ∷ []) (k % 4) 0) % 2) 1 ≡ cond t (ltb k 2) (eqb k 0)
        go v true zero h = wakes v
        go v false zero h = wakes v
        go v true (suc zero) h = wakes v
        go v false (suc zero) h = ends_here (last_all (get_or events v 0) now (y v))
        go v true (suc (suc zero)) h = ends_here (last_all (get_or events v 0) now (y v))
        go v false (suc (suc zero)) h = ends_here (last_all (get_or events v 0) now (y v))
        go v t (suc (suc (suc k))) h = absurd (omega arith)

-- the time of one variable is stored
pub timed_one : {events events' : List ℕ} {v n : ℕ} → SetAt events v n events' → Timed events (v ∷ []) n events'
timed_one {events} {events'} {v} {n} s = record { times_are = λ u. at_place s u ∙ go (eqb v u) (get_or events u 0) }
  where
    go : (t : Bool) (m : ℕ) → cond t n m ≡ cond (t || false) n m
    go true m = refl
    go false m = refl

pub timed_none : (events : List ℕ) (n : ℕ) → Timed events [] n events
timed_none events n = record { times_are = λ v. refl }

timed_young : {events vs : List ℕ} {n : ℕ} {events' : List ℕ} → Timed events vs n events' → (m : ℕ) → n ≤ m → ((v : ℕ) → get_or events v 0 ≤ m) → (v : ℕ) → get_or events' v 0 ≤ m
timed_young {events} {vs} {n} {events'} s m h y v = omega (arith, s.times_are v, go (has vs v))
  where
    go : (t : Bool) → cond t n (get_or events v 0) ≤ m
    go true = h
    go false = y v

-- at the start all globals are live
pub start_live : (classes : List ℕ) → Classed classes → live_of (replicate 256 0) (1 ∷ 0 ∷ 0 ∷ 0 ∷ []) classes ≡ globals_in classes
start_live classes few = fun_ext (λ v. ap (λ (n : ℕ). eqb (last_of n (get_or (1 ∷ 0 ∷ 0 ∷ 0 ∷ []) (get_or classes v 2 % 4) 0) % 2) 1) (zeros 256 v) ∙ go (get_or classes v 2) (few.class_few v))
  where
    go : (k : ℕ) → k < 3 → eqb (last_of 0 (get_or (1 ∷ 0 ∷ 0 ∷ 0 ∷ []) (k % 4) 0) % 2) 1 ≡ eqb k 0
    go zero h = refl
    go (suc zero) h = refl
    go (suc (suc zero)) h = refl
    go (suc (suc (suc k))) h = absurd (omega arith)

four_young : (a b c d m : ℕ) → a ≤ m → b ≤ m → c ≤ m → d ≤ m → (k : ℕ) → get_or (a ∷ b ∷ c ∷ d ∷ []) k 0 ≤ m
four_young a b c d m p q r s zero = p
four_young a b c d m p q r s (suc zero) = q
four_young a b c d m p q r s (suc (suc zero)) = r
four_young a b c d m p q r s (suc (suc (suc zero))) = s
four_young a b c d m p q r s (suc (suc (suc (suc k)))) = omega arith

pub start_young : Young (replicate 256 0) (1 ∷ 0 ∷ 0 ∷ 0 ∷ []) 2
start_young = record { events_young = λ v. omega (arith, zeros 256 v); floors_young = four_young 1 0 0 0 2 (omega arith) (omega arith) (omega arith) (omega arith) }

-- up to four variables, by stores of the first, the last, and two more
pub timed_more : {events events₁ events₂ : List ℕ} {v n : ℕ} (vs : List ℕ) → Timed events vs n events₁ → SetAt events₁ v n events₂ → Timed events (v ∷ vs) n events₂
timed_more {events} {events₁} {events₂} {v} {n} vs s t = record { times_are = λ u. at_place t u ∙ ap (cond (eqb v u) n) (s.times_are u) ∙ go (eqb v u) (has vs u) (get_or events u 0) }
  where
    go : (a b : Bool) (m : ℕ) → cond a n (cond b n m) ≡ cond (a || b) n m
    go true b m = refl
    go false b m = refl

-- the same variables in another order
pub timed_as : {events vs : List ℕ} {n : ℕ} {events' : List ℕ} (ws : List ℕ) → ((u : ℕ) → has vs u ≡ has ws u) → Timed events vs n events' → Timed events ws n events'
timed_as {events} {vs} {n} {events'} ws h s = record { times_are = λ u. s.times_are u ∙ ap (λ (t : Bool). cond t n (get_or events u 0)) (h u) }

module _ (b : List ℕ) (p : ℕ) where
  pub two_bytes : (n : ℕ) → 0 < n → n ≤ 2 → (u : ℕ) → has (get_or b (p + n - 1) 0 ∷ get_or b p 0 ∷ []) u ≡ has (bytes_at b p n) u
  two_bytes zero h k u = absurd (omega arith)
  two_bytes (suc zero) h k u = let e : p + 1 - 1 ≡ p = omega arith in rw e (go (eqb (get_or b p 0) u))
    where
      go : (t : Bool) → (t || (t || false)) ≡ (t || false)
      go true = refl
      go false = refl
  two_bytes (suc (suc zero)) h k u = let e : p + 2 - 1 ≡ suc p = omega arith in rw e (go (eqb (get_or b p 0) u) (eqb (get_or b (suc p) 0) u))
    where
      go : (t w : Bool) → (w || (t || false)) ≡ (t || (w || false))
      go true true = refl
      go true false = refl
      go false w = refl
  two_bytes (suc (suc (suc n))) h k u = absurd (omega arith)

  pub four_bytes : (n : ℕ) → 2 < n → n ≤ 4 → (u : ℕ) → has (get_or b (p + 2) 0 ∷ get_or b (p + 1) 0 ∷ get_or b (p + n - 1) 0 ∷ get_or b p 0 ∷ []) u ≡ has (bytes_at b p n) u
  four_bytes zero h k u = absurd (omega arith)
  four_bytes (suc zero) h k u = absurd (omega arith)
  four_bytes (suc (suc zero)) h k u = absurd (omega arith)
  four_bytes (suc (suc (suc zero))) h k u =
      let e : p + 3 - 1 ≡ suc (suc p) = omega arith in
      let f : p + 2 ≡ suc (suc p) = omega arith in
      let g : p + 1 ≡ suc p = omega arith in
      rw (e, f, g) (go (eqb (get_or b p 0) u) (eqb (get_or b (suc p) 0) u) (eqb (get_or b (suc (suc p)) 0) u))
    where
      go : (x y z : Bool) → (z || (y || (z || (x || false)))) ≡ (x || (y || (z || false)))
      go true true true = refl
      go true true false = refl
      go true false true = refl
      go true false false = refl
      go false true true = refl
      go false true false = refl
      go false false true = refl
      go false false false = refl
  four_bytes (suc (suc (suc (suc zero)))) h k u =
      let e : p + 4 - 1 ≡ suc (suc (suc p)) = omega arith in
      let f : p + 2 ≡ suc (suc p) = omega arith in
      let g : p + 1 ≡ suc p = omega arith in
      rw (e, f, g) (go (eqb (get_or b p 0) u) (eqb (get_or b (suc p) 0) u) (eqb (get_or b (suc (suc p)) 0) u) (eqb (get_or b (suc (suc (suc p))) 0) u))
    where
      go : (x y z w : Bool) → (z || (y || (w || (x || false)))) ≡ (x || (y || (z || (w || false))))
      go true true true w = refl
      go true true false true = refl
      go true true false false = refl
      go true false true w = refl
      go true false false true = refl
      go true false false false = refl
      go false true true w = refl
      go false true false true = refl
      go false true false false = refl
      go false false true w = refl
      go false false false true = refl
      go false false false false = refl
  four_bytes (suc (suc (suc (suc (suc n))))) h k u = absurd (omega arith)

  -- an op's outputs, of which there is at most one
  pub one_byte : {e d : ℕ} (k : ℕ) → e ≡ get_or kind_table k 0 → d ≡ outs_in e → d ≡ 1 → (u : ℕ) → has (get_or b p 0 ∷ []) u ≡ has (bytes_at b p (outs_in e)) u
  one_byte k q f g u = ap (λ (n : ℕ). has (bytes_at b p n) u) (sym g ∙ f)

  pub no_byte : {e d : ℕ} (k : ℕ) → e ≡ get_or kind_table k 0 → d ≡ outs_in e → (d ≡ 1 → ⊥) → (u : ℕ) → has [] u ≡ has (bytes_at b p (outs_in e)) u
  no_byte {e} k q f g u = ap (λ (n : ℕ). has (bytes_at b p n) u) (sym (none_else (outs_in e) (few_outs k q) (λ y. g (f ∙ y))))

-- what an op that is kept makes of what was live, but for its inputs, by the number of its role
module _ (e : ℕ) {n : ℕ} (now : ℕ) (b : List ℕ) (p : ℕ) (events floors : List ℕ) (q : n ≡ number_of (role_no (role_in e))) (even : now % 2 ≡ 0) where
  abbrev role : Role
  role = role_no (role_in e)

  abbrev labelled : Bool
  labelled = is_setting (role_no (role_in e)) || is_jumping (role_no (role_in e))

  time_young : {x floor : ℕ} → x ≡ cond labelled (now + 1) floor → floor ≤ now + 1 → x ≤ now + 1
  time_young {x} {floor} z h = go labelled z
    where
      go : (t : Bool) → x ≡ cond t (now + 1) floor → x ≤ now + 1
      go true z = omega arith
      go false z = omega arith

  pub turn_ends : {x : ℕ} → n < 5 → x ≡ cond (is_setting (role_no (role_in e)) || is_jumping (role_no (role_in e))) (now + 1) now → Turns events floors now (before_at e b p) events ((now + 1) ∷ x ∷ now ∷ 0 ∷ [])
  turn_ends {x} h w =
      record {
        live_so = λ classes few y.
            ends_before role (globals_in classes) (kept_in classes) (bytes_at b (p + 1) (outs_in e)) (live_of events floors classes) q h
            (closed now even events floors y.events_young classes few labelled w);
        young_so = λ y. record {
          events_young = λ v. omega (arith, y.events_young v);
          floors_young = four_young (now + 1) x now 0 (now + 1) (omega arith) (time_young w (omega arith)) (omega arith) (omega arith);
        };
      }

  module _ (events' : List ℕ) (s : Timed events (bytes_at b (p + 1) (outs_in e)) now events') where
    pub turn_pure : 7 < n → Turns events floors now (before_at e b p) events' floors
    turn_pure h =
        record {
          live_so = λ classes few y.
              pure_before role (globals_in classes) (kept_in classes) (bytes_at b (p + 1) (outs_in e)) (live_of events floors classes) q h
              (ended now even events floors (bytes_at b (p + 1) (outs_in e)) events' s y.floors_young classes);
          young_so = λ y. record { events_young = timed_young s (now + 1) (omega arith) (λ v. omega (arith, y.events_young v)); floors_young = λ c. omega (arith, y.floors_young c) };
        }

    pub turn_others : {x : ℕ} → 5 ≤ n → n ≤ 7 → x ≡ cond (is_setting (role_no (role_in e)) || is_jumping (role_no (role_in e))) (now + 1) (get_or floors 1 0)
        → Turns events floors now (before_at e b p) events' ((now + 1) ∷ x ∷ get_or floors 2 0 ∷ 0 ∷ [])
    turn_others {x} h k w =
        record {
          live_so = λ classes few y.
              others_before role (globals_in classes) (kept_in classes) (bytes_at b (p + 1) (outs_in e)) (live_of events floors classes) q h k
              (shown now even events' floors (timed_young s now (omega arith) y.events_young) classes few labelled w)
              (ended now even events floors (bytes_at b (p + 1) (outs_in e)) events' s y.floors_young classes);
          young_so = λ y. record {
            events_young = timed_young s (now + 1) (omega arith) (λ v. omega (arith, y.events_young v));
            floors_young = four_young (now + 1) x (get_or floors 2 0) 0 (now + 1) (omega arith) (time_young w (omega (arith, y.floors_young 1))) (omega (arith, y.floors_young 2)) (omega arith);
          };
        }

-- then its inputs; of an op that a constant replaces, only its output
module _ {b : List ℕ} {p e : ℕ} (m now : ℕ) (events floors : List ℕ) (s : Stands row_of b p (get_or b p 0)) (q : e ≡ get_or kind_table (get_or b p 0) 0) (even : now % 2 ≡ 0) where
  pub turn_constant : (events' : List ℕ) → m ≡ 1 → Timed events (get_or b (p + 1) 0 ∷ []) now events' → Turns events floors now (live_as m b p) events' floors
  turn_constant events' z t =
      record {
        live_so = λ classes few y. rw (eq-eqb m 1 z) (ended now even events floors (get_or b (p + 1) 0 ∷ []) events' t y.floors_young classes);
        young_so = λ y. record { events_young = timed_young t (now + 1) (omega arith) (λ v. omega (arith, y.events_young v)); floors_young = λ c. omega (arith, y.floors_young c) };
      }

  pub turn_inputs : (events₁ floors₁ events₂ : List ℕ) → (m ≡ 1 → ⊥) → Turns events floors now (before_at e b p) events₁ floors₁ → Timed events₁ (bytes_at b (p + 1 + outs_in e) (ins_in e)) (now + 1) events₂
      → Turns events floors now (live_as m b p) events₂ floors₁
  turn_inputs events₁ floors₁ events₂ z f t =
      record {
        live_so = λ classes few y.
            rw (ne_eqb m 1 z)
            (live_before_is s q (globals_in classes) (kept_in classes) (live_of events floors classes) (f.live_so classes few y)
            (woken now even events₁ floors₁ (bytes_at b (p + 1 + outs_in e) (ins_in e)) events₂ t (f.young_so y).floors_young classes));
        young_so = λ y. record { events_young = timed_young t (now + 1) (omega arith) (f.young_so y).events_young; floors_young = (f.young_so y).floors_young };
      }

  -- of a pure op that stays
  pub turn_computed : {n : ℕ} (events₁ events₂ : List ℕ) → n ≡ number_of (role_no (role_in e)) → 7 < n → (m ≡ 1 → ⊥) → Timed events (get_or b (p + 1) 0 ∷ []) now events₁
      → Timed events₁ (bytes_at b (p + 2) (ins_in e)) (now + 1) events₂ → Turns events floors now (live_as m b p) events₂ floors
  turn_computed events₁ events₂ r h z t u =
      let one : outs_in e ≡ 1 = pure_out (get_or b p 0) q (omega (arith, r, h)) in
      let o : Timed events (bytes_at b (p + 1) (outs_in e)) now events₁ = rw one t in
      let i : p + 2 ≡ p + 1 + outs_in e = omega (arith, one) in
      turn_inputs events₁ floors events₂ z (turn_pure e now b p events floors r even events₁ o h) (subst (λ (i : ℕ). Timed events₁ (bytes_at b i (ins_in e)) (now + 1) events₂) i u)

  -- no constant replaces an op that is not pure
  pub not_replaced : {n : ℕ} → n ≡ number_of (role_no (role_in e)) → n < 8 → (m ≡ 1 → role_of row_of (get_or b p 0) ≡ computing) → m ≡ 1 → ⊥
  not_replaced r h w y =
      let nine : number_of (role_no (role_in e)) ≡ 9 = ap number_of (sym (ap (λ (row : Row). row.role) (digits kind_table q).row) ∙ w y) in
      omega (arith, r, h, nine)

-- the next time
pub later : {events floors : List ℕ} {now now' : ℕ} → Young events floors now → now ≤ now' → Young events floors now'
later y h = record { events_young = λ v. omega (arith, y.events_young v); floors_young = λ c. omega (arith, y.floors_young c) }
