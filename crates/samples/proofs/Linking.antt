-- What `link` makes of the facts of its calls.
-- Assumes nothing.
use Prim.Native.Nat.{ℕ}
use mathlib.Core.Path.{◌≡◌, refl, sym, ap, ap₂, ◌∙◌}
use mathlib.Core.Bool.{Bool, true, false, false≢true, and_assoc, not, ◌&&◌, ◌||◌}
use borrow.Author.Tests.{eq-eqb}
use lib.Dec.{eqb}
use Rattle.bits.specs.Bits.{bit, num}
use Rattle.link_rules.proofs.CodeLaws.{last_back}
use Rattle.link_rules.proofs.SenderLaws.{senders_ext}
use Rattle.link_rules.specs.Codes.{last_bit}
use Rattle.link_rules.specs.LinePing.{closed_by_line, closing}
use Rattle.link_rules.specs.Sender.{sent}
use Rattle.link_rules.specs.Senders.{sender_in, sent_all}
use Rattle.link_rules.specs.Timer.{is_line, line_of, opens, open_now, ends, turned}
use Rattle.link_rules.specs.declared.Meets.{Meets}
use Rattle.link_rules.specs.declared.Senders.{Senders}
use Rattle.link_rules.specs.declared.Turn.{Turn}
use Rattle.rules.specs.declared.Links.{Links}
use Rattle.samples.specs.Linked.{lines_by, driven_by, closed_line, whole_by, linked_by}
use Rattle.samples.specs.declared.pace.Met.{Met}

-- in a line's turn the ping that opens is its line's
own_ping : (c l o q on s x : Bool) → x ≡ true
    → (c && (l && (o && (on || (q && not (q && (not on && not s)))))))
    ≡ (c && (l && (o && (on || ((q && (l && x)) && not ((q && (l && x)) && (not on && not s)))))))
own_ping c true o true on s true e = refl
own_ping c true o false on s true e = refl
own_ping c false o q on s true e = refl
own_ping c l o q on s false e = absurd (false≢true e)

module _ (k : Links) (v : Met) (lit : ℕ) where
  abbrev t : Turn
  t = k.turn

  abbrev m : Meets
  m = v.meets

  -- what the calls of `link` ensure
  pub record Calls (e : ℕ) (line on last closed : Bool) (met : Meets) (opened ending opening : Bool) (pings : ℕ) (after : Turn) (lines : ℕ) (senders : Senders) (r : ℕ) : Type 0 where
    pub is_number : e ≡ line_of t
    pub is_line_law : line ≡ is_line t
    pub is_on_law : on ≡ bit lit e
    pub is_last : last ≡ bit k.senders.last e
    pub is_closed : closed ≡ (v.checked && (is_line t && (open_now m t && (on || (opens m t && not (opens m t && (not on && not last)))))))
    pub is_met : met ≡ closing closed m
    pub is_open : opened ≡ open_now met t
    pub is_ending : ending ≡ ends met t
    pub is_opening : opening ≡ opens m t
    pub are_pings : (l : ℕ) → bit pings l ≡ ((opening && line) && eqb l e)
    pub turns : after ≡ turned met t
    pub marks : lines ≡ lines_by line e (opened && not ending) k.lines
    pub sends : senders ≡ sent_all k.senders (λ l. record { line = bit lit l; ping = bit pings l })
    pub is_right : r ≡ num v.right

  module _ (e : ℕ) (line on last closed : Bool) (met : Meets) (opened ending opening : Bool) (pings : ℕ) (after : Turn) (lines : ℕ) (senders : Senders) (r : ℕ)
      (x : Calls e line on last closed met opened ending opening pings after lines senders r) where
    closed_is : closed ≡ closed_line k v lit
    unfolding closed_by_line
    closed_is =
        x.is_closed
        ∙ ap₂ (λ (a b : Bool). v.checked && (is_line t && (open_now m t && (a || (opens m t && not (opens m t && (not a && not b)))))))
        (x.is_on_law ∙ ap (bit lit) x.is_number)
        (x.is_last ∙ ap (bit k.senders.last) x.is_number ∙ sym (last_back (bit k.senders.last (line_of t)) (bit k.senders.deep (line_of t))))
        ∙ own_ping v.checked (is_line t) (open_now m t) (opens m t) (bit lit (line_of t)) (last_bit (sender_in k.senders (line_of t)).sound.stands) (eqb (line_of t) (line_of t)) (eq-eqb (line_of t) (line_of t) refl)

    met_is : met ≡ whole_by k v lit
    met_is = x.is_met ∙ ap (λ (b : Bool). closing b m) closed_is

    ping_is : (l : ℕ) → bit pings l ≡ (driven_by k v lit l).ping
    ping_is l =
        x.are_pings l
        ∙ (λ u. (x.is_opening u && x.is_line_law u) && eqb l (x.is_number u))
        ∙ and_assoc (opens m t) (is_line t) (eqb l (line_of t))

    sends_are : senders ≡ sent_all k.senders (driven_by k v lit)
    sends_are =
        x.sends
        ∙ senders_ext _ _ (λ l h. ap (λ (b : Bool). sent (sender_in k.senders l) (record { line = bit lit l; ping = b })) (ping_is l))

    left_is : (opened && not ending) ≡ (open_now (whole_by k v lit) t && not (ends (whole_by k v lit) t))
    left_is = ap₂ (λ (o d : Bool). o && not d) (x.is_open ∙ ap (λ (n : Meets). open_now n t) met_is) (x.is_ending ∙ ap (λ (n : Meets). ends n t) met_is)

    pub linked : record { receivers = v.receivers; turn = after; lines = lines; senders = senders; right = r } ≡ linked_by k v lit
    linked = λ u.
        record {
          receivers = v.receivers;
          turn = (x.turns ∙ ap (λ (n : Meets). turned n t) met_is) u;
          lines = (x.marks ∙ (λ w. lines_by (x.is_line_law w) (x.is_number w) (left_is w) k.lines)) u;
          senders = sends_are u;
          right = x.is_right u;
        }
