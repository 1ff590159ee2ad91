-- Request (xii), one class: a jump is that many plain ticks while it stands, the tick after that moves it, and no line changes in between.
-- Assumes nothing.
use Prim.Native.Nat.{ℕ, zero, suc, ◌+◌, ◌-◌, ◌^◌, ◌≤◌, ◌<◌}
use mathlib.Core.Path.{◌≡◌, refl, sym, ap, ap₂, ◌∙◌}
use mathlib.Core.Bool.{Bool, true, false, cond}
use native.Mathlib.Omega.{arith}
use native.Mathlib.Decide.{dec_lt}
use lib.Dec.{ltb}
use borrow.Author.Tests.{ltb-true}
use Rattle.class_rules.proofs.ClassLaws.{state_number_law}
use Rattle.class_rules.specs.Class.{drives, state_of, state_number}
use Rattle.class_rules.specs.Step.{counted, due, moved, class_step}
use Rattle.class_rules.specs.declared.Class.{Class}
use Rattle.class_rules.specs.declared.ClassState.{ClassState}
use Rattle.class_rules.specs.declared.ClassState.TheVariants.{Idle, Timeout, Phase0, Phase1, Phase2, Phase3, Terminal}
use Rattle.class_rules.specs.declared.Signals.{Signals}
use Rattle.calm_laws.specs.Stand.{class_after, forever, least, to_trigger, stand_from, stands, counts, count_after, accum_after, with_counts, jumped, Fits}
use Rattle.calm_laws.proofs.Standing.{least_left, least_right, least_below, stands_most, stands_less, stands_ever, one, leaves}

-- ── jumps add up ──

count_none : (b : Bool) (x : ℕ) → cond b (x + 0) x ≡ x
count_none true x = omega arith
count_none false x = refl

count_next : (b : Bool) (n x : ℕ) → cond b (cond b (x + n) x + 1) (cond b (x + n) x) ≡ cond b (x + suc n) x
count_next true n x = omega arith
count_next false n x = refl

accum_none : (e : Bool) (x : ℕ) → x < 2 ^ 16 → accum_after e 0 x ≡ x
accum_none true x h = least_left (x + 0) 65535 (omega arith) ∙ count_none true x
accum_none false x h = refl

accum_next : (e : Bool) (n x : ℕ) → accum_after e 1 (accum_after e n x) ≡ accum_after e (suc n) x
accum_next false n x = refl
accum_next true n x = go (dec_lt (x + n) 65535)
  where
    go : Dec (x + n < 65535) → least (least (x + n) 65535 + 1) 65535 ≡ least (x + suc n) 65535
    go (yes l) =
        rw (least_left (x + n) 65535 (omega arith), least_left (x + n + 1) 65535 (omega arith), least_left (x + suc n) 65535 (omega arith)) (omega arith)
    go (no l) = rw (least_right (x + n) 65535 (omega arith), least_right (x + suc n) 65535 (omega arith))

accum_fits : (e : Bool) (n x : ℕ) → x < 2 ^ 16 → accum_after e n x < 2 ^ 16
accum_fits true n x h = omega (arith, least_below (x + n) 65535)
accum_fits false n x h = h

-- no ticks
jumped_none : (s : Signals) (c : Class) → Fits c → jumped s 0 c ≡ c
unfolding jumped
jumped_none s c v = ap₂ (with_counts c) (count_none (counts (state_of c.state)) c.count) (accum_none s.event c.accum v.accum)

-- one more
jumped_next : (s : Signals) (n : ℕ) (c : Class) → jumped s 1 (jumped s n c) ≡ jumped s (suc n) c
unfolding jumped
jumped_next s n c = ap₂ (with_counts c) (count_next (counts (state_of c.state)) n c.count) (accum_next s.event n c.accum)

pub jumped_fits : (s : Signals) (n : ℕ) (c : Class) → Fits c → Fits (jumped s n c)
unfolding jumped
jumped_fits s n c v =
    record { named = v.named; accum = accum_fits s.event n c.accum v.accum; thresh = v.thresh; timeout = v.timeout; lengths = v.lengths }

-- ── (a) a jump is that many plain ticks ──

module _ (s : Signals) (c : Class) (k : s.clear ≡ false) (v : Fits c) where
  -- before the end of its time it still stands
  stands_on : (n : ℕ) → n < stands s c → 0 < stands s (jumped s n c)
  stands_on n h = go (dec_lt (stands s c) forever)
    where
      go : Dec (stands s c < forever) → 0 < stands s (jumped s n c)
      go (yes l) = omega (arith, stands_less s c v n l)
      go (no l) = omega (arith, stands_ever s c v n (omega (arith, stands_most s c v)))

  pub jump_is : (n : ℕ) → n ≤ stands s c → class_after s n c ≡ jumped s n c
  unfolding class_after
  jump_is zero h = sym (jumped_none s c v)
  jump_is (suc n) h =
      ap (class_step s) (jump_is n (omega arith)) ∙ one s (jumped s n c) k (jumped_fits s n c v) (stands_on n h) ∙ jumped_next s n c

  -- ── (b) its time is exact ──

  -- it keeps its state so long
  pub stays : (n : ℕ) → n ≤ stands s c → (class_after s n c).state ≡ c.state
  unfolding jumped
  stays n h = ap (λ (b : Class). b.state) (jump_is n h)

  -- and the tick after that takes it to another
  pub moves : stands s c < forever → (class_after s (suc (stands s c)) c).state ≡ c.state → ⊥
  unfolding class_after jumped
  moves l e =
      let n = stands s c in
      let j = jump_is n (omega arith) in
      leaves s (jumped s n c) k (jumped_fits s n c v) (let z = stands_less s c v n l in omega arith) (sym (ap (λ (b : Class). (class_step s b).state) j) ∙ e)

  -- ── (d) no line changes in a jump ──

  pub same_lines : (n : ℕ) → n ≤ stands s c → (e : ℕ) → drives (class_after s n c) e ≡ drives c e
  unfolding drives jumped
  same_lines n h e = ap (λ (b : Class). drives b e) (jump_is n h)

-- ── what is asked of a class holds after any tick of it ──

counted_fits : (k e l : Bool) (x : ℕ) → x < 2 ^ 16 → ltb x 65535 ≡ l → cond k 0 (cond e (cond l (x + 1) 65535) x) < 2 ^ 16
counted_fits true e l x h t = omega arith
counted_fits false true true x h t = omega (arith, ltb-true x 65535 t)
counted_fits false true false x h t = omega arith
counted_fits false false l x h t = h

pub step_fits : (s : Signals) (c : Class) → Fits c → Fits (class_step s c)
unfolding class_step counted
step_fits s c v =
    record {
      named = ap state_number (state_number_law (moved s c).state);
      accum = counted_fits s.clear s.event (ltb c.accum 65535) c.accum v.accum refl;
      thresh = v.thresh;
      timeout = v.timeout;
      lengths = v.lengths;
    }

-- ── ESC_CNT after a jump still fits ──

timeout_room : (d : Bool) (g x l n : ℕ) → x < 2 ^ 32 → l < 2 ^ 32 → n ≤ cond d (least (l - x) g) 0 → x + n < 2 ^ 32
timeout_room true g x l n h t e = omega (arith, least_below (l - x) g)
timeout_room false g x l n h t e = omega arith

pub count_room : (s : Signals) (c : Class) (n : ℕ) → Fits c → c.count < 2 ^ 32 → n ≤ stands s c → count_after (state_of c.state) n c.count < 2 ^ 32
unfolding stand_from
count_room s c n v h = go (state_of c.state)
  where
    go : (m : ClassState) → n ≤ stand_from m s c → count_after m n c.count < 2 ^ 32
    go Idle e = h
    go Timeout e = timeout_room (due s c) (to_trigger s c) c.count c.timeout n h v.timeout e
    go Phase0 e = omega (arith, v.lengths 0 (omega arith))
    go Phase1 e = omega (arith, v.lengths 1 (omega arith))
    go Phase2 e = omega (arith, v.lengths 2 (omega arith))
    go Phase3 e = omega (arith, v.lengths 3 (omega arith))
    go Terminal e = h
