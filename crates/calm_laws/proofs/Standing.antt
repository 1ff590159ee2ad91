-- One tick of a class that meets no clear: while it stands it only counts, and else it moves.
-- Assumes nothing.
use Prim.Native.Nat.{ℕ, ◌+◌, ◌-◌, ◌^◌, ◌≤◌, ◌<◌}
use mathlib.Core.Path.{◌≡◌, refl, sym, ap, ap₂, ◌∙◌}
use mathlib.Core.Bool.{Bool, true, false, true≢false, cond, not, ◌&&◌, ◌||◌}
use native.Mathlib.Omega.{arith}
use native.Mathlib.Decide.{dec_lt}
use lib.Dec.{leb, ltb}
use borrow.Author.Tests.{le-leb, lt-leb, leb-true, leb-false, le-ltb, lt-ltb}
use Rattle.class_rules.specs.Class.{lock, phase, phase_cyc, state_of, state_number}
use Rattle.class_rules.specs.Step.{at, trigger, due, counted, starts_from, after_phase, in_phase, moved_from, class_step}
use Rattle.class_rules.specs.declared.Class.{Class}
use Rattle.class_rules.specs.declared.ClassState.{ClassState}
use Rattle.class_rules.specs.declared.ClassState.TheVariants.{Idle, Timeout, Phase0, Phase1, Phase2, Phase3, Terminal}
use Rattle.class_rules.specs.declared.Place.{Place}
use Rattle.class_rules.specs.declared.Signals.{Signals}
use Rattle.calm_laws.specs.Stand.{forever, least, to_trigger, stand_from, stands, count_after, accum_after, with_counts, jumped, Fits}

-- ── the smaller of two numbers ──

pub least_left : (a b : ℕ) → a ≤ b → least a b ≡ a
least_left a b h = ap (λ (t : Bool). cond t a b) (le-leb a b h)

pub least_right : (a b : ℕ) → b ≤ a → least a b ≡ b
least_right a b h = go (leb a b) refl
  where
    go : (t : Bool) → leb a b ≡ t → cond t a b ≡ b
    go true e = omega (arith, leb-true a b e)
    go false e = refl

pub least_below : (a b : ℕ) → (least a b ≤ a) × (least a b ≤ b)
least_below a b = go (leb a b) refl
  where
    go : (t : Bool) → leb a b ≡ t → (cond t a b ≤ a) × (cond t a b ≤ b)
    go true e = (omega arith, leb-true a b e)
    go false e = (omega (arith, leb-false a b e), omega arith)

least_less : (a b n : ℕ) → least (a - n) (b - n) ≡ least a b - n
least_less a b n = go (dec_lt b a)
  where
    go : Dec (b < a) → least (a - n) (b - n) ≡ least a b - n
    go (yes l) = least_right (a - n) (b - n) (omega arith) ∙ ap (λ (x : ℕ). x - n) (sym (least_right a b (omega arith)))
    go (no l) = least_left (a - n) (b - n) (omega arith) ∙ ap (λ (x : ℕ). x - n) (sym (least_left a b (omega arith)))

pub least_some : (a b : ℕ) → 0 < a → 0 < b → least a b ≡ 0 → ⊥
least_some a b p q e = go (leb a b) e
  where
    go : (t : Bool) → cond t a b ≡ 0 → ⊥
    go true e = omega arith
    go false e = omega arith

-- ── how long it stands, n ticks on ──

-- what ACCUM_CNT lacks of a threshold t
lacks : (t a n : ℕ) → t < 2 ^ 16 → t - least (a + n) 65535 ≡ (t - a) - n
lacks t a n h = go (dec_lt 65535 (a + n))
  where
    go : Dec (65535 < a + n) → t - least (a + n) 65535 ≡ (t - a) - n
    go (yes l) = rw (least_right (a + n) 65535 (omega arith)) (omega arith)
    go (no l) = rw (least_left (a + n) 65535 (omega arith)) (omega arith)

idle_less : (d e : Bool) (t a n : ℕ) → t < 2 ^ 16 → cond d 0 (cond e (t - a) forever) < forever
    → cond d 0 (cond e (t - accum_after e n a) forever) ≡ cond d 0 (cond e (t - a) forever) - n
idle_less true e t a n h l = omega arith
idle_less false true t a n h l = lacks t a n h
idle_less false false t a n h l = absurd (omega arith)

idle_ever : (d e : Bool) (t a n : ℕ) → t < 2 ^ 16 → cond d 0 (cond e (t - a) forever) ≡ forever
    → cond d 0 (cond e (t - accum_after e n a) forever) ≡ forever
idle_ever true e t a n h l = absurd (omega arith)
idle_ever false true t a n h l = absurd (omega arith)
idle_ever false false t a n h l = refl

idle_most : (d e : Bool) (t a : ℕ) → t < 2 ^ 16 → cond d 0 (cond e (t - a) forever) ≤ forever
idle_most true e t a h = omega arith
idle_most false true t a h = omega arith
idle_most false false t a h = omega arith

timeout_less : (d e : Bool) (t a x l n : ℕ) → t < 2 ^ 16 → l < 2 ^ 32
    → cond d (least (l - (x + n)) (cond e (t - accum_after e n a) forever)) 0 ≡ cond d (least (l - x) (cond e (t - a) forever)) 0 - n
timeout_less false e t a x l n h g = omega arith
timeout_less true true t a x l n h g = let p : l - (x + n) ≡ (l - x) - n = omega arith in ap₂ least p (lacks t a n h) ∙ least_less (l - x) (t - a) n
timeout_less true false t a x l n h g =
    let p : l - (x + n) ≡ (l - x) - n = omega arith in
    least_left (l - (x + n)) forever (omega arith) ∙ p ∙ ap (λ (y : ℕ). y - n) (sym (least_left (l - x) forever (omega arith)))

timeout_most : (d : Bool) (g x l : ℕ) → l < 2 ^ 32 → cond d (least (l - x) g) 0 < forever
timeout_most true g x l h = omega (arith, least_below (l - x) g)
timeout_most false g x l h = omega arith

module _ (s : Signals) (c : Class) (v : Fits c) where
  -- it never stands longer than forever
  most_from : (m : ClassState) → stand_from m s c ≤ forever
  unfolding stand_from
  most_from Idle = idle_most (due s c) s.event c.thresh c.accum v.thresh
  most_from Timeout = omega (arith, timeout_most (due s c) (to_trigger s c) c.count c.timeout v.timeout)
  most_from Phase0 = omega (arith, v.lengths 0 (omega arith))
  most_from Phase1 = omega (arith, v.lengths 1 (omega arith))
  most_from Phase2 = omega (arith, v.lengths 2 (omega arith))
  most_from Phase3 = omega (arith, v.lengths 3 (omega arith))
  most_from Terminal = omega arith

  less_from : (m : ClassState) (n : ℕ) → stand_from m s c < forever
      → stand_from m s (with_counts c (count_after m n c.count) (accum_after s.event n c.accum)) ≡ stand_from m s c - n
  unfolding stand_from
  less_from Idle n l = idle_less (due s c) s.event c.thresh c.accum n v.thresh l
  less_from Timeout n l = timeout_less (due s c) s.event c.thresh c.accum c.count c.timeout n v.thresh v.timeout
  less_from Phase0 n l = omega arith
  less_from Phase1 n l = omega arith
  less_from Phase2 n l = omega arith
  less_from Phase3 n l = omega arith
  less_from Terminal n l = absurd (omega arith)

  ever_from : (m : ClassState) (n : ℕ) → stand_from m s c ≡ forever
      → stand_from m s (with_counts c (count_after m n c.count) (accum_after s.event n c.accum)) ≡ forever
  unfolding stand_from
  ever_from Idle n l = idle_ever (due s c) s.event c.thresh c.accum n v.thresh l
  ever_from Timeout n l = absurd (omega (arith, timeout_most (due s c) (to_trigger s c) c.count c.timeout v.timeout))
  ever_from Phase0 n l = absurd (omega (arith, v.lengths 0 (omega arith)))
  ever_from Phase1 n l = absurd (omega (arith, v.lengths 1 (omega arith)))
  ever_from Phase2 n l = absurd (omega (arith, v.lengths 2 (omega arith)))
  ever_from Phase3 n l = absurd (omega (arith, v.lengths 3 (omega arith)))
  ever_from Terminal n l = refl

  pub stands_most : stands s c ≤ forever
  stands_most = most_from (state_of c.state)

  -- n ticks on, n less; or still forever
  pub stands_less : (n : ℕ) → stands s c < forever → stands s (jumped s n c) ≡ stands s c - n
  unfolding jumped
  stands_less n l = less_from (state_of c.state) n l

  pub stands_ever : (n : ℕ) → stands s c ≡ forever → stands s (jumped s n c) ≡ forever
  unfolding jumped
  stands_ever n l = ever_from (state_of c.state) n l

-- ── one tick ──

-- below the threshold an event is no trigger
no_trigger : (e k : Bool) (t a : ℕ) → 0 < cond e (t - a) forever → (e && (not k && leb t a)) ≡ false
no_trigger true true t a h = refl
no_trigger true false t a h = lt-leb t a (omega arith)
no_trigger false k t a h = refl

-- at the threshold it is one
is_trigger : (e : Bool) (t a : ℕ) → cond e (t - a) forever ≡ 0 → (e && (not false && leb t a)) ≡ true
is_trigger true t a h = le-leb t a (omega arith)
is_trigger false t a h = absurd (omega arith)

idle_parts : (d : Bool) (g : ℕ) → 0 < cond d 0 g → (d ≡ false) × (0 < g)
idle_parts true g h = absurd (omega arith)
idle_parts false g h = (refl, h)

timeout_parts : (d : Bool) (a g : ℕ) → 0 < cond d (least a g) 0 → (d ≡ true) × (0 < a) × (0 < g)
timeout_parts true a g h = let b = least_below a g in (refl, omega arith, omega arith)
timeout_parts false a g h = absurd (omega arith)

module _ (s : Signals) (c : Class) (k : s.clear ≡ false) where
  phase_stands : (p : ℕ) → 0 < phase_cyc c p - c.count → in_phase p s c ≡ at (phase p) (c.count + 1)
  phase_stands p h = rw (k, lt-leb (phase_cyc c p) c.count (omega arith))

  -- standing, it does not start, and counts
  stands_from : (m : ClassState) → 0 < stand_from m s c → (starts_from m s c ≡ false) × (moved_from m s c ≡ at m (count_after m 1 c.count))
  unfolding stand_from starts_from moved_from
  stands_from Idle h =
      let b = idle_parts (due s c) (to_trigger s c) h in
      let t : trigger s c ≡ false = no_trigger s.event s.clear c.thresh c.accum b.1 in
      (t, rw (t, b.0))
  stands_from Timeout h =
      let b = timeout_parts (due s c) (c.timeout - c.count) (to_trigger s c) h in
      let t : trigger s c ≡ false = no_trigger s.event s.clear c.thresh c.accum b.2 in
      let l : leb c.timeout c.count ≡ false = lt-leb c.timeout c.count (omega (arith, b.1)) in
      (rw (t, b.0, l), rw (t, b.0, l))
  stands_from Phase0 h = (refl, phase_stands 0 h)
  stands_from Phase1 h = (refl, phase_stands 1 h)
  stands_from Phase2 h = (refl, phase_stands 2 h)
  stands_from Phase3 h = (refl, phase_stands 3 h)
  stands_from Terminal h = (refl, rw k)

  -- at the end of its time it moves: another state
  phase_moves : (p : ℕ) → phase_cyc c p - c.count ≡ 0 → in_phase p s c ≡ after_phase p
  phase_moves p h = rw (k, le-leb (phase_cyc c p) c.count (omega arith))

  moves_from : (m : ClassState) → stand_from m s c ≡ 0 → state_number (moved_from m s c).state ≡ state_number m → ⊥
  unfolding stand_from starts_from moved_from
  moves_from Idle h n = idle (trigger s c) (due s c) h t n
    where
      t : to_trigger s c ≡ 0 → trigger s c ≡ true
      t g = rw k (is_trigger s.event c.thresh c.accum g)

      idle : (t d : Bool) → cond d 0 (to_trigger s c) ≡ 0 → (to_trigger s c ≡ 0 → t ≡ true)
          → state_number (cond t (at Phase0 1) (cond d (at Timeout 1) (at Idle c.count))).state ≡ 0 → ⊥
      idle true d h t n = omega arith
      idle false true h t n = omega arith
      idle false false h t n = true≢false (sym (t h))
  moves_from Timeout h n = timeout (trigger s c) (due s c) h t n
    where
      t : to_trigger s c ≡ 0 → trigger s c ≡ true
      t g = rw k (is_trigger s.event c.thresh c.accum g)

      -- due, and neither by a trigger nor by its count
      waits : (b : Bool) → leb c.timeout c.count ≡ b → least (c.timeout - c.count) (to_trigger s c) ≡ 0 → (to_trigger s c ≡ 0 → false ≡ true) → b ≡ true
      waits true e h t = refl
      waits false e h t = absurd (never (dec_lt 0 (to_trigger s c)))
        where
          l : c.count < c.timeout
          l = leb-false c.timeout c.count e

          never : Dec (0 < to_trigger s c) → ⊥
          never (yes g) = least_some (c.timeout - c.count) (to_trigger s c) (omega (arith, l)) g h
          never (no g) = true≢false (sym (t (omega arith)))

      timeout : (t d : Bool) → cond d (least (c.timeout - c.count) (to_trigger s c)) 0 ≡ 0 → (to_trigger s c ≡ 0 → t ≡ true)
          → state_number (cond (t || (d && leb c.timeout c.count)) (at Phase0 1) (cond d (at Timeout (c.count + 1)) (at Idle 0))).state ≡ 1 → ⊥
      timeout true d h t n = omega arith
      timeout false false h t n = omega arith
      timeout false true h t n = late (leb c.timeout c.count) (waits (leb c.timeout c.count) refl h t) n
        where
          late : (b : Bool) → b ≡ true → state_number (cond b (at Phase0 1) (at Timeout (c.count + 1))).state ≡ 1 → ⊥
          late true e n = omega arith
          late false e n = true≢false (sym e)
  moves_from Phase0 h n = omega (arith, sym (ap (λ (w : Place). state_number w.state) (phase_moves 0 h)) ∙ n)
  moves_from Phase1 h n = omega (arith, sym (ap (λ (w : Place). state_number w.state) (phase_moves 1 h)) ∙ n)
  moves_from Phase2 h n = omega (arith, sym (ap (λ (w : Place). state_number w.state) (phase_moves 2 h)) ∙ n)
  moves_from Phase3 h n = omega (arith, sym (ap (λ (w : Place). state_number w.state) (phase_moves 3 h)) ∙ n)
  moves_from Terminal h n = omega arith

  -- ACCUM_CNT
  counted_one : counted s c ≡ accum_after s.event 1 c.accum
  unfolding counted
  counted_one = rw k (go s.event (dec_lt c.accum 65535))
    where
      go : (e : Bool) → Dec (c.accum < 65535) → cond e (cond (ltb c.accum 65535) (c.accum + 1) 65535) c.accum ≡ accum_after e 1 c.accum
      go false d = refl
      go true (yes l) = rw (lt-ltb c.accum 65535 l, least_left (c.accum + 1) 65535 (omega arith))
      go true (no l) = rw (le-ltb c.accum 65535 (omega arith), least_right (c.accum + 1) 65535 (omega arith))

  -- the tick of a class that stands is a jump of 1
  pub one : Fits c → 0 < stands s c → class_step s c ≡ jumped s 1 c
  unfolding class_step jumped
  one v h =
      let w = stands_from (state_of c.state) h in
      ap₂ (λ (p : Place) (z : Bool). made p (counted s c) z) w.1 w.0
      ∙ ap₂ (λ (a x : ℕ). put (count_after (state_of c.state) 1 c.count) a x) counted_one v.named
    where
      put : ℕ → ℕ → ℕ → Class
      put n a x = record {
        lengths = c.lengths;
        timeout = c.timeout;
        count = n;
        ctrl = c.ctrl;
        accum = a;
        thresh = c.thresh;
        regwen = c.regwen;
        clrwen = c.clrwen;
        state = x;
      }

      made : Place → ℕ → Bool → Class
      made w a z = record {
        lengths = c.lengths;
        timeout = c.timeout;
        count = w.count;
        ctrl = c.ctrl;
        accum = a;
        thresh = c.thresh;
        regwen = c.regwen;
        clrwen = cond (z && lock c) 0 c.clrwen;
        state = state_number w.state;
      }

  -- that of one that does not stand any longer changes its state
  pub leaves : Fits c → stands s c ≡ 0 → (class_step s c).state ≡ c.state → ⊥
  unfolding class_step
  leaves v h n = moves_from (state_of c.state) h (n ∙ sym v.named)
