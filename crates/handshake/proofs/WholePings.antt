-- Request (ix) once more, taken from the claim over every state, list, alert, line and tick, in raw registers. A claim that says less, or asks for more, does
-- not give it.
-- Assumes nothing.
use Prim.Native.Nat.{ℕ, suc, ◌+◌, ◌-◌, ◌/◌, ◌%◌, ◌≤◌, ◌<◌}
use mathlib.Core.Path.{◌≡◌, sym, ap, ap₂, ◌∙◌, subst}
use mathlib.Core.Bool.{Bool, true, false, cond, not, ◌&&◌, ◌||◌}
use mathlib.Core.List.{List}
use native.Mathlib.Omega.{arith}
use borrow.Author.Tests.{eqb-true, eq-eqb, ne_eqb}
use lib.Dec.{eqb}
use lib.ListN.{get_or, length, take}
use Rattle.bits.proofs.IndexLaws.{and-true}
use Rattle.bits.specs.Bits.{bit}
use Rattle.escalation.specs.List.{no_input, no_tick}
use Rattle.laws.specs.Pinging.{meets_in, asks_in, fails_in}
use Rattle.rules.specs.Access.{value, acted}
use Rattle.rules.specs.Run.{run, ticks}
use Rattle.rules.specs.Samples.{occurs}
use Rattle.rules.specs.Tick.{hears, answered_in}
use Rattle.rules.specs.Valid.{valid}
use Rattle.rules.specs.declared.Handler.{Handler}
use Rattle.rules.specs.declared.Input.{Input}
use Rattle.handshake.specs.Pings.{line_opens, line_fails, line_answered, line_closes, sets, Pings}
use Rattle.handshake.proofs.Handshake.{handshake}
use Rattle.handshake.proofs.Pings.{pings}

module _ (h : Handler) (xs : List Input) (v : valid h ≡ true) where
  -- before tick t, counted from 0; its input; after its step 1
  abbrev state : ℕ → Handler
  state t = run h (take t xs)

  abbrev input : ℕ → Input
  input t = get_or xs t no_input

  abbrev read : ℕ → Handler
  read t = acted (state t) (input t).access

  abbrev occurring : ℕ → ℕ → Bool
  occurring j t = occurs (read t) (hears (state t) (input t)) j

  claim : Pings h xs
  claim = pings h xs v

  -- register 6
  stays_one : (t u : ℕ) → t ≤ u → u ≤ length xs → (state t).timer.enable ≡ 1 → (state u).timer.enable ≡ 1
  stays_one t u l m e = eqb-true (state u).timer.enable 1 (claim.on_stays t u l m (eq-eqb (state t).timer.enable 1 e))

  -- a ping of alert i that opens in tick p and is not answered in it and the next k, at this timeout
  module _ (i p limit k : ℕ) (l : i < h.n) (above : 0 < limit) (inside : p + k < length xs) (o : asks_in (state p) (input p) i ≡ true)
      (limits : (t : ℕ) → p ≤ t → t ≤ p + k → (read t).timer.timeout ≡ limit)
      (silent : (t : ℕ) → p ≤ t → t ≤ p + k → answered_in (state t) (input t) i ≡ false) where
    fails_at : k ≡ limit → fails_in (state (p + k)) (input (p + k)) i ≡ true
    unfolding value
    fails_at b = claim.alert_fails i p limit k l above (omega (arith, b)) inside o limits silent ∙ eq-eqb k limit b

    not_before : k < limit → fails_in (state (p + k)) (input (p + k)) i ≡ false
    unfolding value
    not_before b =
        claim.alert_fails i p limit k l above (omega (arith, b)) inside o limits silent ∙ ne_eqb k limit (λ (e : k ≡ limit). omega (arith, b, e))

  -- and of line e, that no escalation closes before; what answers and closes it is said in WholeLinePings
  module _ (e p limit k : ℕ) (above : 0 < limit) (inside : p + k < length xs) (o : line_opens h xs e p ≡ true)
      (limits : (t : ℕ) → p ≤ t → t ≤ p + k → (read t).timer.timeout ≡ limit)
      (silent : (t : ℕ) → p ≤ t → t ≤ p + k → line_answered h xs e t ≡ false)
      (calm : (t : ℕ) → p ≤ t → t < p + k → line_closes h xs e t ≡ false) where
    line_fails_at : k ≡ limit → line_fails h xs e (p + k) ≡ true
    unfolding value
    line_fails_at b = claim.line_fails_law e p limit k above (omega (arith, b)) inside o limits silent calm ∙ eq-eqb k limit b

    line_not_before : k < limit → line_fails h xs e (p + k) ≡ false
    unfolding value
    line_not_before b =
        claim.line_fails_law e p limit k above (omega (arith, b)) inside o limits silent calm ∙ ne_eqb k limit (λ (d : k ≡ limit). omega (arith, b, d))

  -- at timeout 0 none fails
  none_at_0 : (t : ℕ) → (read t).timer.timeout ≡ 0 → ((i : ℕ) → fails_in (state t) (input t) i ≡ false) × ((e : ℕ) → line_fails h xs e t ≡ false)
  unfolding value
  none_at_0 = claim.none_fails_at_0

  -- local 0 and local 1 occur where a ping of theirs fails and they are enabled, and nowhere else
  module _ (t : ℕ) (m : t < length xs) where
    abbrev drawn : ℕ
    drawn = (state t).links.turn.alert

    abbrev line : ℕ
    line = (state t).links.turn.number / 2 % 4

    occurs_0 : fails_in (state t) (input t) drawn ≡ true → get_or (read t).locals.en 0 0 ≡ 1 → occurring 0 t ≡ true
    unfolding value
    occurs_0 f e = claim.local_0 t m ∙ ap₂ ◌&&◌ f (eq-eqb (get_or (read t).locals.en 0 0) 1 e)

    only_0 : occurring 0 t ≡ true → (fails_in (state t) (input t) drawn ≡ true) × (get_or (read t).locals.en 0 0 ≡ 1)
    unfolding value
    only_0 o =
        let b = and-true (fails_in (state t) (input t) drawn) (eqb (get_or (read t).locals.en 0 0) 1) (sym (claim.local_0 t m) ∙ o) in
        (b.0, eqb-true (get_or (read t).locals.en 0 0) 1 b.1)

    occurs_1 : line_fails h xs line t ≡ true → get_or (read t).locals.en 1 0 ≡ 1 → occurring 1 t ≡ true
    unfolding value
    occurs_1 f e = claim.local_1 t m ∙ ap₂ ◌&&◌ f (eq-eqb (get_or (read t).locals.en 1 0) 1 e)

    only_1 : occurring 1 t ≡ true → (line_fails h xs line t ≡ true) × (get_or (read t).locals.en 1 0 ≡ 1)
    unfolding value
    only_1 o =
        let b = and-true (line_fails h xs line t) (eqb (get_or (read t).locals.en 1 0) 1) (sym (claim.local_1 t m) ∙ o) in
        (b.0, eqb-true (get_or (read t).locals.en 1 0) 1 b.1)

  -- a turn that tick s sets: an alert that is drawn, locked and enabled there is pinged in its tick, and not before ..
  module _ (s : ℕ) (e : sets h xs s ≡ true) (k : ℕ) (inside : suc s + k < length xs) where
    abbrev low : ℕ
    low = (input s).sample.word % 65536

    module _ (i : ℕ) (l : i < h.n) (alerting : (state (suc s)).links.turn.number % 2 ≡ 0) (drawn : (input s).sample.word / 65536 % 256 ≡ i)
        (locked : get_or (read s).alerts.regwen i 0 ≡ 0) (enabled : get_or (read s).alerts.en i 0 ≡ 1) where
      asked : k ≤ low → asks_in (state (suc s + k)) (input (suc s + k)) i ≡ eqb k low
      unfolding value
      asked b = claim.pinged i s l e (ap (λ (n : ℕ). eqb n 1) alerting) drawn locked enabled k b inside

      is_pinged : k ≡ low → asks_in (state (suc s + k)) (input (suc s + k)) i ≡ true
      is_pinged b = asked (omega (arith, b)) ∙ eq-eqb k low b

      not_pinged : k < low → asks_in (state (suc s + k)) (input (suc s + k)) i ≡ false
      not_pinged b = asked (omega (arith, b)) ∙ ne_eqb k low (λ (d : k ≡ low). omega (arith, b, d))

      -- its ping pair, bit 63 - i % 64 of word i / 64, changes its level in that tick and in none of those before
      abbrev pair : ℕ → Bool
      pair t = bit (get_or (get_or (ticks h xs) t no_tick).output.ping.pos (i / 64) 0) (63 - i % 64)

      changes : k ≤ low → pair (suc s + k) ≡ cond (eqb k low) (not (pair (s + k))) (pair (s + k))
      changes b =
          let e : suc (s + k) ≡ suc s + k = omega arith in
          subst (λ (t : ℕ). pair t ≡ cond (asks_in (state t) (input t) i) (not (pair (s + k))) (pair (s + k))) e
          (((handshake h xs v).alerts i l).level (s + k) (omega (arith, inside)))
          ∙ ap (λ (c : Bool). cond c (not (pair (s + k))) (pair (s + k))) (asked b)

      pair_changes : k ≡ low → pair (suc s + k) ≡ not (pair (s + k))
      pair_changes b = changes (omega (arith, b)) ∙ ap (λ (c : Bool). cond c (not (pair (s + k))) (pair (s + k))) (eq-eqb k low b)

      pair_stays : k < low → pair (suc s + k) ≡ pair (s + k)
      pair_stays b =
          changes (omega (arith, b)) ∙ ap (λ (c : Bool). cond c (not (pair (s + k))) (pair (s + k))) (ne_eqb k low (λ (d : k ≡ low). omega (arith, b, d)))

    -- .. and so is the line
    module _ (lines : (state (suc s)).links.turn.number % 2 ≡ 1) where
      line_asked : k ≤ low → line_opens h xs ((state (suc s)).links.turn.number / 2 % 4) (suc s + k) ≡ eqb k low
      line_asked b = claim.line_pinged s e (eq-eqb ((state (suc s)).links.turn.number % 2) 1 lines) k b inside

      line_is_pinged : k ≡ low → line_opens h xs ((state (suc s)).links.turn.number / 2 % 4) (suc s + k) ≡ true
      line_is_pinged b = line_asked (omega (arith, b)) ∙ eq-eqb k low b

      line_not_pinged : k < low → line_opens h xs ((state (suc s)).links.turn.number / 2 % 4) (suc s + k) ≡ false
      line_not_pinged b = line_asked (omega (arith, b)) ∙ ne_eqb k low (λ (d : k ≡ low). omega (arith, b, d))

  -- turns go by turns
  module _ (t : ℕ) (m : t < length xs) where
    first_turn : (meets_in (state t) (input t)).begins ≡ true → (state (suc t)).links.turn.number ≡ 0
    first_turn b =
        claim.number t m
        ∙ ap (λ (c : Bool). cond c 0 (cond (sets h xs t) (((state t).links.turn.number + 1) % 8) (state t).links.turn.number)) b

    next_turn : (meets_in (state t) (input t)).begins ≡ false → sets h xs t ≡ true → (state (suc t)).links.turn.number ≡ ((state t).links.turn.number + 1) % 8
    next_turn b e =
        claim.number t m
        ∙ ap₂ (λ (c d : Bool). cond c 0 (cond d (((state t).links.turn.number + 1) % 8) (state t).links.turn.number)) b e

    same_turn : (meets_in (state t) (input t)).begins ≡ false → sets h xs t ≡ false → (state (suc t)).links.turn.number ≡ (state t).links.turn.number
    same_turn b e =
        claim.number t m
        ∙ ap₂ (λ (c d : Bool). cond c 0 (cond d (((state t).links.turn.number + 1) % 8) (state t).links.turn.number)) b e

  -- with the timeout locked every turn ends, the first too
  count_fits : h.links.turn.count < 65536 → (t : ℕ) → t ≤ length xs → (state t).links.turn.count < 65536
  count_fits = claim.counts_fit

  ends_in_time : (a limit : ℕ) → (state a).timer.enable ≡ 1 → (state a).timer.regwen ≡ 0 → (state a).timer.timeout ≡ limit → 0 < limit
      → h.links.turn.count < 65536 → a + (65536 + limit) ≤ length xs → (u : ℕ) × (a ≤ u) × (u < a + (65536 + limit)) × (sets h xs u ≡ true)
  unfolding value
  ends_in_time a limit on r n above c inside =
      claim.turn_ends a limit (eq-eqb (state a).timer.enable 1 on) r n above (count_fits c a (omega (arith, inside))) inside

  -- a line's ping is open until it is answered, fails or is closed by an escalation, and then closed
  module _ (e : ℕ) (l : e < 4) where
    abbrev open_in : ℕ → Bool
    open_in t = line_opens h xs e t || bit (state t).links.lines e

    line_opened : (t : ℕ) → t < length xs → line_opens h xs e t ≡ true → bit (state t).links.lines e ≡ false
    line_opened = (claim.lines e l).opened

    line_failed : (t : ℕ) → t < length xs → line_fails h xs e t ≡ true → (open_in t ≡ true) × (line_answered h xs e t ≡ false)
    line_failed = (claim.lines e l).failed

    line_stays : (t u : ℕ) → u < length xs → open_in t ≡ true → t ≤ u → ((w : ℕ) → t ≤ w → w < u → line_answered h xs e w ≡ false)
        → ((w : ℕ) → t ≤ w → w < u → line_fails h xs e w ≡ false) → ((w : ℕ) → t ≤ w → w < u → line_closes h xs e w ≡ false) → open_in u ≡ true
    line_stays = (claim.lines e l).stays

    line_closed : (t u : ℕ) → u < length xs → (line_answered h xs e t || (line_fails h xs e t || line_closes h xs e t)) ≡ true → t < u
        → ((w : ℕ) → suc t ≤ w → w < suc u → line_opens h xs e w ≡ false) → open_in u ≡ false
    line_closed = (claim.lines e l).closed
