-- Request (xi), what the tick does with a line's ping: what answers it, whether its answers were right so far, and what closes it.
-- Assumes nothing.
use mathlib.Core.Path.{◌≡◌, refl, ap, ◌∙◌}
use mathlib.Core.Bool.{Bool, true, false, cond, not, ◌&&◌, ◌||◌}
use borrow.Author.Tests.{eq-eqb}
use lib.Dec.{eqb}
use Rattle.bits.specs.Bits.{bit, num}
use Rattle.laws.proofs.Samples.Receivers.{acted_links}
use Rattle.laws.specs.Pinging.{meets_in}
use Rattle.link_rules.specs.Codes.{last_bit}
use Rattle.link_rules.specs.LinePing.{answered_by_wires, right_after, closed_by_line}
use Rattle.link_rules.specs.Sender.{closes, still_right, is_answered}
use Rattle.link_rules.specs.Senders.{sender_in}
use Rattle.link_rules.specs.Timer.{is_line, line_of, opens, open_now, age}
use Rattle.link_rules.specs.declared.Drive.{Drive}
use Rattle.link_rules.specs.declared.Meets.{Meets}
use Rattle.link_rules.specs.declared.Turn.{Turn}
use Rattle.rules.specs.Access.{acted, effects}
use Rattle.rules.specs.Samples.{answered, asks_for, before, checks, says_answered, line_wrong, was_right, heard}
use Rattle.rules.specs.State.{sender}
use Rattle.rules.specs.Tick.{lines, driven, closed_now, hears, links_after, reached, after}
use Rattle.rules.specs.declared.Effects.{Effects}
use Rattle.rules.specs.declared.Handler.{Handler}
use Rattle.rules.specs.declared.Input.{Input}
use Rattle.rules.specs.declared.Links.{Links}
use Rattle.rules.specs.declared.Receive.{Receive}

bit_num : (b : Bool) → bit (num b) 0 ≡ b
unfolding bit
bit_num true = refl
bit_num false = refl

-- i it is a line's turn, o its ping opens, l the line is on, w its pair was on in the tick before
closes_is : (i o l w : Bool) → (i && (l || ((o && (i && true)) && not ((o && (i && true)) && (not l && not w))))) ≡ (i && (l || (o && w)))
closes_is false o l w = refl
closes_is true true true w = refl
closes_is true true false true = refl
closes_is true true false false = refl
closes_is true false true w = refl
closes_is true false false w = refl

-- the order of two tests
swap : (a b c : Bool) → (a && (b && c)) ≡ (b && (a && c))
swap true b c = refl
swap false true c = refl
swap false false c = refl

module _ (h : Handler) (x : Input) where
  abbrev turn : Turn
  turn = h.links.turn

  abbrev m : Meets
  m = meets_in h x

  abbrev g : Handler
  g = acted h x.access

  abbrev fx : Effects
  fx = effects h x.access

  abbrev r : Receive
  r = x.sample.receive

  -- the receive pair of the turn's line is wrong
  abbrev is_wrong : Bool
  is_wrong = line_wrong g x.sample (line_of turn)

  -- all answers to the open ping were right before this tick; one that opens has had none
  abbrev were_right : Bool
  were_right = opens m turn || was_right h

  -- ── what answers ──

  answer_by : is_line turn ≡ true
      → m.answered ≡ cond (checks r) (open_now m turn && is_answered (age m turn) were_right is_wrong) (open_now m turn && says_answered r (line_of turn))
  unfolding answered_by_wires open_now opens
  answer_by l =
      ap (λ (z : Links).
      cond (is_line z.turn)
      (cond (checks r) (answered_by_wires (before g x.sample fx) z.turn (bit z.right 0) (line_wrong g x.sample (line_of z.turn)))
      (open_now (before g x.sample fx) z.turn && says_answered r (line_of z.turn)))
      (answered g (asks_for g x.sample fx) x.sample.alerts z.turn.alert)) (acted_links h x.access)
      ∙ ap (λ (b : Bool).
      cond b
      (cond (checks r) (open_now m turn && is_answered (age m turn) were_right is_wrong) (open_now m turn && says_answered r (line_of turn)))
      (answered g (asks_for g x.sample fx) x.sample.alerts turn.alert)) l

  -- by wires, and as an older record says
  pub answer_wires : is_line turn ≡ true → checks r ≡ true → m.answered ≡ (open_now m turn && is_answered (age m turn) were_right is_wrong)
  answer_wires l c =
      answer_by l ∙ ap (λ (b : Bool). cond b (open_now m turn && is_answered (age m turn) were_right is_wrong) (open_now m turn && says_answered r (line_of turn))) c

  pub answer_said : is_line turn ≡ true → checks r ≡ false → m.answered ≡ (open_now m turn && says_answered r (line_of turn))
  answer_said l c =
      answer_by l ∙ ap (λ (b : Bool). cond b (open_now m turn && is_answered (age m turn) were_right is_wrong) (open_now m turn && says_answered r (line_of turn))) c

  -- ── what was right so far ──

  pub right_after_law : was_right (after h x) ≡ (checks r && (is_line turn && (open_now m turn && still_right (age m turn) were_right is_wrong)))
  unfolding after links_after hears heard right_after open_now opens
  right_after_law =
      bit_num (right_after (checks r) (before g x.sample fx) g.links.turn (was_right g) (line_wrong g x.sample (line_of g.links.turn)))
      ∙ ap (λ (z : Links). right_after (checks r) (before g x.sample fx) z.turn (bit z.right 0) (line_wrong g x.sample (line_of z.turn))) (acted_links h x.access)

  -- ── what closes ──

  pub closed_is : m.closed
      ≡ (checks r && (is_line turn && (open_now m turn && (bit (lines (after h x)) (line_of turn) || (opens m turn && last_bit (sender h (line_of turn)).sound.stands)))))
  unfolding after lines closed_now closed_by_line driven hears heard open_now opens
  closed_is =
      ap (λ (z : Links).
      let d : Drive = record {
        line = bit (lines (reached h x)) (line_of z.turn);
        ping = opens m z.turn && (is_line z.turn && eqb (line_of z.turn) (line_of z.turn));
      } in
      checks r && (is_line z.turn && (open_now m z.turn && closes (sender_in z.senders (line_of z.turn)) d))) (acted_links h x.access)
      ∙ ap (λ (q : Bool).
      checks r && (is_line turn && (open_now m turn && (on || ((opens m turn && (is_line turn && q)) && not ((opens m turn && (is_line turn && q)) && (not on && not was)))))))
      (eq-eqb (line_of turn) (line_of turn) refl)
      ∙ ap (λ (b : Bool). checks r && b)
      (swap (is_line turn) (open_now m turn) (on || ((opens m turn && (is_line turn && true)) && not ((opens m turn && (is_line turn && true)) && (not on && not was))))
      ∙ ap (λ (b : Bool). open_now m turn && b) (closes_is (is_line turn) (opens m turn) on was)
      ∙ swap (open_now m turn) (is_line turn) (on || (opens m turn && was)))
    where
      on : Bool
      on = bit (lines (reached h x)) (line_of turn)

      was : Bool
      was = last_bit (sender h (line_of turn)).sound.stands
