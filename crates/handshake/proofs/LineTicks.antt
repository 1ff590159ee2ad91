-- Request (xi), a line's ping in a tick of a list, and from a tick to the next.
-- Assumes nothing.
use Prim.Native.Nat.{ℕ, suc, ◌+◌, ◌<◌}
use mathlib.Core.Path.{◌≡◌, refl, sym, ap, ap₂, ◌∙◌, subst}
use mathlib.Core.Bool.{Bool, true, false, false≢true, and-false, or-true, cond, ◌&&◌, ◌||◌}
use mathlib.Core.List.{List}
use borrow.Author.Tests.{eqb-true}
use lib.Dec.{eqb, ltb}
use lib.ListN.{length}
use Rattle.bits.proofs.IndexLaws.{and-true}
use Rattle.bits.specs.Bits.{bit}
use Rattle.bits.specs.Index.{any_to}
use Rattle.escalation.proofs.ListTicks.{at, input, at_next, given_handler, given_lines}
use Rattle.laws.proofs.Tick.Turns.{local_3}
use Rattle.link_rules.proofs.Owned
use Rattle.link_rules.specs.Codes.{last_bit}
use Rattle.link_rules.specs.Sender.{still_right}
use Rattle.link_rules.specs.Senders.{line_count}
use Rattle.link_rules.specs.Timer.{is_line, line_of, opens, open_now, age, open_after, fails, ends, turned}
use Rattle.link_rules.specs.declared.Turn.{Turn}
use Rattle.rules.specs.Access.{value}
use Rattle.rules.specs.Samples.{says_answered, was_right}
use Rattle.rules.specs.State.{sender}
use Rattle.rules.specs.Tick.{lines, after}
use Rattle.rules.specs.Valid.{valid}
use Rattle.rules.specs.declared.Field.{Field}
use Rattle.rules.specs.declared.Handler.{Handler}
use Rattle.rules.specs.declared.Input.{Input}
use Rattle.rules.specs.declared.Register.TheVariants.{Local}
use Rattle.handshake.specs.LinePings.{checked_at, wrong_at, line_open, line_on, pair_was}
use Rattle.handshake.specs.Pings.{read_at, meets_at, turn_at, lines_turn, line_opens, line_fails, line_answered, line_closes, sets, occurs_in}
use Rattle.handshake.proofs.LineSteps.{answer_said, right_after_law, closed_is}
use Rattle.handshake.proofs.TimerTicks.{next, left_open, on_next, is_running, on_at}
use Rattle.handshake.proofs.TurnSteps.{Runs, kept, ends_open}

-- ── tests ──

-- a test that holds alone
pub alone : (a b : Bool) → b ≡ true → (a && b) ≡ a
alone true true e = refl
alone false true e = refl
alone a false e = absurd (false≢true e)

module _ (h : Handler) (xs : List Input) (v : valid h ≡ true) where
  -- ── line e's turn ──

  pub is_lines : (e t : ℕ) → lines_turn h xs e t ≡ true → (is_line (turn_at h xs t) ≡ true) × (e ≡ line_of (turn_at h xs t))
  is_lines e t l =
      let p = and-true (is_line (turn_at h xs t)) (eqb e (line_of (turn_at h xs t))) l in
      (p.0, eqb-true e (line_of (turn_at h xs t)) p.1)

  -- ── in one tick ──

  pub occurs_3 : (t : ℕ) → occurs_in h xs 3 t ≡ (any_to (λ e. wrong_at h xs e t) line_count && eqb (value (read_at h xs t) (Local Field.En 3)) 1)
  unfolding value
  occurs_3 t = local_3 (at h xs t) (input xs t)

  pub said : (e t : ℕ) → checked_at xs t ≡ false
      → (line_answered h xs e t ≡ (line_open h xs e t && says_answered (input xs t).sample.receive e)) × (line_closes h xs e t ≡ false)
  said e t c = (
    go (lines_turn h xs e t) refl,
    ap (λ (b : Bool). b && lines_turn h xs e t)
        (closed_is (at h xs t) (input xs t)
        ∙ ap (λ (b : Bool). b && (is_line (turn_at h xs t) && (open_now (meets_at h xs t) (turn_at h xs t) && (bit (lines (after (at h xs t) (input xs t))) (line_of (turn_at h xs t)) || (opens (meets_at h xs t) (turn_at h xs t) && last_bit (sender (at h xs t) (line_of (turn_at h xs t))).sound.stands))))) c),
  )
    where
      go : (b : Bool) → lines_turn h xs e t ≡ b
          → ((meets_at h xs t).answered && b) ≡ ((open_now (meets_at h xs t) (turn_at h xs t) && b) && says_answered (input xs t).sample.receive e)
      go true l =
          let p = is_lines e t l in
          alone (meets_at h xs t).answered true refl ∙ answer_said (at h xs t) (input xs t) p.0 c
          ∙ ap₂ (λ (a : Bool) (k : ℕ). a && says_answered (input xs t).sample.receive k) (sym (alone (open_now (meets_at h xs t) (turn_at h xs t)) true refl)) (sym p.1)
      go false l =
          and-false (meets_at h xs t).answered
          ∙ sym (ap (λ (b : Bool). b && says_answered (input xs t).sample.receive e) (and-false (open_now (meets_at h xs t) (turn_at h xs t))))

  -- step 5 of the tick
  pub on_is : (e t : ℕ) → t < length xs → line_on h xs e t ≡ bit (lines (after (at h xs t) (input xs t))) e
  on_is e t l =
      ap (λ (n : ℕ). bit n e)
      (given_lines h xs v t l ∙ ap lines (given_handler h xs v t l ∙ at_next h xs v t l))

  pub closes : (e t : ℕ) → t < length xs
      → line_closes h xs e t ≡ (checked_at xs t && (line_open h xs e t && (line_on h xs e t || (line_opens h xs e t && pair_was h xs e t))))
  closes e t m = go (lines_turn h xs e t) refl
    where
      o : Bool
      o = open_now (meets_at h xs t) (turn_at h xs t)

      p : Bool
      p = opens (meets_at h xs t) (turn_at h xs t)

      table : (c i o s p w : Bool) → i ≡ true → ((c && (i && (o && (s || (p && w))))) && true) ≡ (c && ((o && true) && (s || ((p && true) && w))))
      table true true true true p w e = refl
      table true true true false true true e = refl
      table true true true false true false e = refl
      table true true true false false w e = refl
      table true true false s p w e = refl
      table false true o s p w e = refl
      table c false o s p w e = absurd (false≢true e)

      none : (c o s : Bool) → (c && ((o && false) && s)) ≡ false
      none true true s = refl
      none true false s = refl
      none false o s = refl

      go : (b : Bool) → lines_turn h xs e t ≡ b
          → ((meets_at h xs t).closed && b) ≡ (checked_at xs t && ((o && b) && (line_on h xs e t || ((p && b) && pair_was h xs e t))))
      go true l =
          let q = is_lines e t l in
          ap (λ (b : Bool). b && true) (closed_is (at h xs t) (input xs t))
          ∙ subst (λ (k : ℕ). ((checked_at xs t && (is_line (turn_at h xs t) && (o && (bit (lines (after (at h xs t) (input xs t))) k || (p && pair_was h xs k t))))) && true)
          ≡ (checked_at xs t && ((o && true) && (line_on h xs e t || ((p && true) && pair_was h xs e t))))) q.1
          (ap (λ (b : Bool). (checked_at xs t && (is_line (turn_at h xs t) && (o && (b || (p && pair_was h xs e t))))) && true) (sym (on_is e t m))
          ∙ table (checked_at xs t) (is_line (turn_at h xs t)) o (line_on h xs e t) p (pair_was h xs e t) q.0)
      go false l =
          and-false (meets_at h xs t).closed ∙ sym (none (checked_at xs t) o (line_on h xs e t || ((p && false) && pair_was h xs e t)))

  -- ── from tick to tick ──

  module _ (e t : ℕ) (o : line_open h xs e t ≡ true) where
    pub parts : (open_now (meets_at h xs t) (turn_at h xs t) ≡ true) × (lines_turn h xs e t ≡ true)
    parts = and-true (open_now (meets_at h xs t) (turn_at h xs t)) (lines_turn h xs e t) o

    runs : Runs (meets_at h xs t)
    unfolding open_now
    runs = is_running h xs v t (on_at h xs v t (and-true (meets_at h xs t).runs _ parts.0).0)

    pub ends_are : sets h xs t ≡ (line_answered h xs e t || (line_fails h xs e t || line_closes h xs e t))
    ends_are =
        ap₂ (λ (b r : Bool). b || (r && ends (meets_at h xs t) (turn_at h xs t))) runs.begins runs.runs
        ∙ ends_open (meets_at h xs t) (turn_at h xs t) parts.0
        ∙ sym (ap₂ ◌||◌ (alone (meets_at h xs t).answered (lines_turn h xs e t) parts.1)
        (ap₂ ◌||◌ (alone (fails (meets_at h xs t) (turn_at h xs t)) (lines_turn h xs e t) parts.1) (alone (meets_at h xs t).closed (lines_turn h xs e t) parts.1)))

    module _ (m : t < length xs) (n : sets h xs t ≡ false) where
      unended : ends (meets_at h xs t) (turn_at h xs t) ≡ false
      unended = sym (ap₂ (λ (b r : Bool). b || (r && ends (meets_at h xs t) (turn_at h xs t))) runs.begins runs.runs) ∙ n

      lasts : (turned (meets_at h xs t) (turn_at h xs t) ≡ record { number = (turn_at h xs t).number; alert = (turn_at h xs t).alert; count = age (meets_at h xs t) (turn_at h xs t) })
          × (open_after (meets_at h xs t) (turn_at h xs t) ≡ true)
      lasts = kept (meets_at h xs t) (turn_at h xs t) runs parts.0 unended

      pending_next : (meets_at h xs (suc t)).pending ≡ true
      pending_next = left_open h xs v t m ∙ lasts.1

      turn_next : turn_at h xs (suc t) ≡ record { number = (turn_at h xs t).number; alert = (turn_at h xs t).alert; count = age (meets_at h xs t) (turn_at h xs t) }
      turn_next = next h xs v t m ∙ lasts.0

      own_next : lines_turn h xs e (suc t) ≡ true
      own_next = ap (λ (z : Turn). is_line z && eqb e (line_of z)) turn_next ∙ parts.1

      unopened : opens (meets_at h xs (suc t)) (turn_at h xs (suc t)) ≡ false
      unfolding opens
      unopened = rw pending_next (ap (λ (b : Bool). b && (is_line (turn_at h xs (suc t)) || (meets_at h xs (suc t)).pingable)) (and-false (meets_at h xs (suc t)).runs))

      pub stays : (line_open h xs e (suc t) ≡ true) × (line_opens h xs e (suc t) ≡ false)
      unfolding open_now
      stays =
          let c = on_next h xs v t m (on_at h xs v t runs.runs) in (
            ap₂ ◌&&◌
                (ap₂ (λ (r p : Bool). r && (p || opens (meets_at h xs (suc t)) (turn_at h xs (suc t)))) (is_running h xs v (suc t) c).runs pending_next)
                own_next,
            ap (λ (b : Bool). b && lines_turn h xs e (suc t)) unopened,
          )

      -- its age, and whether its answers were right so far
      pub older : age (meets_at h xs (suc t)) (turn_at h xs (suc t))
          ≡ cond (ltb (age (meets_at h xs t) (turn_at h xs t)) 65535) (age (meets_at h xs t) (turn_at h xs t) + 1) 65535
      older =
          ap (λ (b : Bool). cond b (cond (ltb (turn_at h xs (suc t)).count 65535) ((turn_at h xs (suc t)).count + 1) 65535) 0) pending_next
          ∙ ap (λ (z : Turn). cond (ltb z.count 65535) (z.count + 1) 65535) turn_next

      pub right_next : checked_at xs t ≡ true
          → (opens (meets_at h xs (suc t)) (turn_at h xs (suc t)) || was_right (at h xs (suc t)))
          ≡ still_right (age (meets_at h xs t) (turn_at h xs t)) (opens (meets_at h xs t) (turn_at h xs t) || was_right (at h xs t)) (wrong_at h xs e t)
      right_next c =
          let q = is_lines e t parts.1 in
          let r : Bool = opens (meets_at h xs t) (turn_at h xs t) || was_right (at h xs t) in
          ap (λ (b : Bool). b || was_right (at h xs (suc t))) unopened
          ∙ ap was_right (at_next h xs v t m) ∙ right_after_law (at h xs t) (input xs t)
          ∙ ap₂ (λ (b i : Bool). b && (i && (open_now (meets_at h xs t) (turn_at h xs t) && still_right (age (meets_at h xs t) (turn_at h xs t)) r (wrong_at h xs (line_of (turn_at h xs t)) t)))) c q.0
          ∙ ap₂ (λ (b : Bool) (k : ℕ). b && still_right (age (meets_at h xs t) (turn_at h xs t)) r (wrong_at h xs k t)) parts.0 (sym q.1)

  -- a ping that opens is open
  pub opens_open : (e t : ℕ) → line_opens h xs e t ≡ true → line_open h xs e t ≡ true
  unfolding open_now
  opens_open e t o =
      let q = and-true (opens (meets_at h xs t) (turn_at h xs t)) (lines_turn h xs e t) o in
      ap₂ ◌&&◌
      (ap₂ (λ (r b : Bool). r && ((meets_at h xs t).pending || b)) (Owned.opens_runs (meets_at h xs t) (turn_at h xs t) q.0) q.0
      ∙ or-true (meets_at h xs t).pending)
      q.1
