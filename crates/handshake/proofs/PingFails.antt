-- Request (ix): which pings fail in a list of ticks, and what occurs then.
-- Assumes nothing.
use Prim.Native.Nat.{ℕ, ◌+◌, ◌/◌, ◌%◌, ◌≤◌, ◌<◌}
use mathlib.Core.Path.{◌≡◌, refl, sym, ap, ap₂, ◌∙◌}
use mathlib.Core.Bool.{Bool, true, false, not, and-true, ◌&&◌}
use mathlib.Core.List.{List}
use native.Mathlib.Omega.{arith}
use borrow.Author.Tests.{eq-eqb}
use lib.Dec.{eqb, ltb, leb}
use lib.ListN.{length}
use Rattle.bits.proofs.IndexLaws
use Rattle.escalation.proofs.ListTicks.{at, input}
use Rattle.laws.proofs.Tick.Turns.{local_0, local_1}
use Rattle.link_rules.proofs.Owned
use Rattle.link_rules.specs.Timer.{is_line, line_of, open_now, age, opens, fails, fails_alert, fails_line}
use Rattle.rules.specs.Access.{value}
use Rattle.rules.specs.State.{local}
use Rattle.rules.specs.Valid.{valid}
use Rattle.rules.specs.declared.Field.{Field}
use Rattle.rules.specs.declared.Handler.{Handler}
use Rattle.rules.specs.declared.Input.{Input}
use Rattle.rules.specs.declared.Register.TheVariants.{Only, Local}
use Rattle.rules.specs.declared.Single.TheVariants.{PingTimeout}
use Rattle.handshake.specs.Alone.{answer_in, fails_in}
use Rattle.handshake.specs.Handshake.{asks_in}
use Rattle.handshake.specs.Pings.{read_at, meets_at, turn_at, lines_turn, line_opens, line_fails, line_answered, line_closes, occurs_in, Timeout}
use Rattle.handshake.proofs.Alone.{at_n}
use Rattle.handshake.proofs.Pinged.{answered_is, unclosed, parts}
use Rattle.handshake.proofs.Turning.{fails_then}
use Rattle.handshake.proofs.TimerTicks.{few, next, left_open, on_stays, is_running, on_at, limit_fits, limit_is}

module _ (h : Handler) (xs : List Input) (v : valid h ≡ true) where
  -- ── a ping that opens in tick p, gets no answer and is not closed, up to the last of some ticks ──

  module _ (p limit last : ℕ) (above : 0 < limit) (short : last ≤ limit) (inside : p + last < length xs) (o : opens (meets_at h xs p) (turn_at h xs p) ≡ true)
      (limits : Timeout h xs p (p + last) limit)
      (silent : (t : ℕ) → p ≤ t → t ≤ p + last → ((turn_at h xs t).number ≡ (turn_at h xs p).number) → ((turn_at h xs t).alert ≡ (turn_at h xs p).alert)
      → (meets_at h xs t).answered ≡ false)
      (calm : (t : ℕ) → p ≤ t → t < p + last → ((turn_at h xs t).number ≡ (turn_at h xs p).number) → ((turn_at h xs t).alert ≡ (turn_at h xs p).alert)
      → (meets_at h xs t).closed ≡ false) where
    turn_fails : (k : ℕ) → k ≤ last
        → (fails (meets_at h xs (p + k)) (turn_at h xs (p + k)) ≡ eqb k limit)
        × ((turn_at h xs (p + k)).number ≡ (turn_at h xs p).number)
        × ((turn_at h xs (p + k)).alert ≡ (turn_at h xs p).alert)
    turn_fails =
        fails_then (length xs) (meets_at h xs) (turn_at h xs) (next h xs v) (left_open h xs v) p limit last o above (limit_fits h xs v p limit (limits p (omega arith) (omega arith))) short inside
        (λ t a b. is_running h xs v t (on_stays h xs v p t a (omega (arith, b, inside)) (on_at h xs v p (Owned.opens_runs (meets_at h xs p) (turn_at h xs p) o))))
        (λ t a b. limit_is h xs v t limit (limits t a b)) silent calm

  pub alert_fails : (i p limit k : ℕ) → i < h.n → 0 < limit → k ≤ limit → p + k < length xs → asks_in h xs i p ≡ true → Timeout h xs p (p + k) limit
      → ((t : ℕ) → p ≤ t → t ≤ p + k → answer_in h xs i t ≡ false) → fails_in h xs i (p + k) ≡ eqb k limit
  alert_fails i p limit k l above short inside o limits silent =
      let q = parts (at h xs p) (input xs p) i (few h xs v p) (below p) o in
      let r = turn_fails p limit k above short inside q.0 limits
      (λ t c d n a. answered_is (at h xs t) (input xs t) i (few h xs v t) (below t) (same t n q.1.0, q.1.1 ∙ sym a) ∙ silent t c d)
      (λ t c d n a. unclosed (at h xs t) (input xs t) i (few h xs v t) (below t) (same t n q.1.0)) k (omega arith) in
      ap₂ (λ (x y : Bool). (fails (meets_at h xs (p + k)) (turn_at h xs (p + k)) && not x) && y) (same (p + k) r.1 q.1.0)
      (eq-eqb i (turn_at h xs (p + k)).alert (q.1.1 ∙ sym r.2))
      ∙ both (fails (meets_at h xs (p + k)) (turn_at h xs (p + k))) ∙ r.0
    where
      below : (t : ℕ) → i < (at h xs t).n
      below t = omega (arith, l, at_n h xs v t)

      same : (t : ℕ) → (turn_at h xs t).number ≡ (turn_at h xs p).number → is_line (turn_at h xs p) ≡ false → is_line (turn_at h xs t) ≡ false
      same t n e = ap (λ (m : ℕ). eqb (m % 2) 1) n ∙ e

      both : (b : Bool) → ((b && true) && true) ≡ b
      both true = refl
      both false = refl

  pub line_fails_law : (e p limit k : ℕ) → 0 < limit → k ≤ limit → p + k < length xs → line_opens h xs e p ≡ true → Timeout h xs p (p + k) limit
      → ((t : ℕ) → p ≤ t → t ≤ p + k → line_answered h xs e t ≡ false) → ((t : ℕ) → p ≤ t → t < p + k → line_closes h xs e t ≡ false)
      → line_fails h xs e (p + k) ≡ eqb k limit
  line_fails_law e p limit k above short inside o limits silent calm =
      let q = IndexLaws.and-true (opens (meets_at h xs p) (turn_at h xs p)) (lines_turn h xs e p) o in
      let r = turn_fails p limit k above short inside q.0 limits
      (λ t c d n a. alone (meets_at h xs t).answered (lines_turn h xs e t) (own t n q.1) (silent t c d))
      (λ t c d n a. alone (meets_at h xs t).closed (lines_turn h xs e t) (own t n q.1) (calm t c d)) k (omega arith) in
      ap (λ (y : Bool). fails (meets_at h xs (p + k)) (turn_at h xs (p + k)) && y) (own (p + k) r.1 q.1)
      ∙ and-true (fails (meets_at h xs (p + k)) (turn_at h xs (p + k))) ∙ r.0
    where
      own : (t : ℕ) → (turn_at h xs t).number ≡ (turn_at h xs p).number → lines_turn h xs e p ≡ true → lines_turn h xs e t ≡ true
      own t n l = ap (λ (m : ℕ). eqb (m % 2) 1 && eqb e (m / 2 % 4)) n ∙ l

      alone : (a b : Bool) → b ≡ true → (a && b) ≡ false → a ≡ false
      alone a b l f = sym (and-true a) ∙ ap (λ (y : Bool). a && y) (sym l) ∙ f

  -- ── which local alert occurs ──

  own_alert : (t : ℕ) → fails_in h xs (turn_at h xs t).alert t ≡ fails_alert (meets_at h xs t) (turn_at h xs t)
  own_alert t =
      ap (λ (b : Bool). fails_alert (meets_at h xs t) (turn_at h xs t) && b) (eq-eqb (turn_at h xs t).alert (turn_at h xs t).alert refl)
      ∙ and-true (fails_alert (meets_at h xs t) (turn_at h xs t))

  own_line : (t : ℕ) → line_fails h xs (line_of (turn_at h xs t)) t ≡ fails_line (meets_at h xs t) (turn_at h xs t)
  own_line t =
      ap (λ (b : Bool). fails (meets_at h xs t) (turn_at h xs t) && (is_line (turn_at h xs t) && b)) (eq-eqb (line_of (turn_at h xs t)) (line_of (turn_at h xs t)) refl)
      ∙ ap (λ (b : Bool). fails (meets_at h xs t) (turn_at h xs t) && b) (and-true (is_line (turn_at h xs t)))

  pub occurs_0 : (t : ℕ) → occurs_in h xs 0 t ≡ (fails_in h xs (turn_at h xs t).alert t && eqb (value (read_at h xs t) (Local Field.En 0)) 1)
  unfolding value
  occurs_0 t = local_0 (at h xs t) (input xs t) ∙ ap (λ (b : Bool). b && eqb (local (read_at h xs t) Field.En 0) 1) (sym (own_alert t))

  pub occurs_1 : (t : ℕ) → occurs_in h xs 1 t ≡ (line_fails h xs (line_of (turn_at h xs t)) t && eqb (value (read_at h xs t) (Local Field.En 1)) 1)
  unfolding value
  occurs_1 t = local_1 (at h xs t) (input xs t) ∙ ap (λ (b : Bool). b && eqb (local (read_at h xs t) Field.En 1) 1) (sym (own_line t))

  -- "at timeout 0 it waits for its answer"
  pub none_fails_at_0 : (t : ℕ) → value (read_at h xs t) (Only PingTimeout) ≡ 0 → ((i : ℕ) → fails_in h xs i t ≡ false) × ((e : ℕ) → line_fails h xs e t ≡ false)
  unfolding value fails
  none_fails_at_0 t e =
      let z : fails (meets_at h xs t) (turn_at h xs t) ≡ false = never in (
        λ i. ap (λ (b : Bool). (b && not (is_line (turn_at h xs t))) && eqb i (turn_at h xs t).alert) z,
        λ l. ap (λ (b : Bool). b && lines_turn h xs l t) z,
      )
    where
      last : (a b c : Bool) → (a && (b && (false && c))) ≡ false
      last true true c = refl
      last true false c = refl
      last false b c = refl

      never : fails (meets_at h xs t) (turn_at h xs t) ≡ false
      never =
          ap (λ (n : ℕ). open_now (meets_at h xs t) (turn_at h xs t) && (not (meets_at h xs t).answered && (ltb 0 n && leb (meets_at h xs t).timeout (age (meets_at h xs t) (turn_at h xs t))))) e
          ∙ last (open_now (meets_at h xs t) (turn_at h xs t)) (not (meets_at h xs t).answered) (leb (meets_at h xs t).timeout (age (meets_at h xs t) (turn_at h xs t)))
