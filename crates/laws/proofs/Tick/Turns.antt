-- Requests (ix) and (xi), the ping timer through a tick: its turn, its open pings and register 6.
-- Assumes nothing.
use Prim.Native.Nat.{ℕ, ◌≤◌, ◌<◌}
use mathlib.Core.Path.{◌≡◌, sym, ap, ap₂, ◌∙◌, subst}
use mathlib.Core.Bool.{Bool, true, ◌&&◌, ◌||◌}
use mathlib.Core.List.{List, [], ◌∷◌}
use native.Mathlib.Omega.{arith}
use lib.Dec.{eqb}
use Rattle.bits.specs.Bits.{bit}
use Rattle.bits.specs.Index.{any_to}
use Rattle.link_rules.specs.Pings.{line_after}
use Rattle.link_rules.specs.Senders.{line_count}
use Rattle.link_rules.specs.Timer.{opens, open_now, open_after, fails, fails_alert, fails_line, turned}
use Rattle.rules.specs.Access.{acted, effects}
use Rattle.rules.specs.Run.{run}
use Rattle.rules.specs.Samples.{turn_pending, line_wrong, heard, occurs}
use Rattle.rules.specs.State.{most, local, is_on}
use Rattle.rules.specs.Tick.{lines, hears, reached, after, tick, ticked}
use Rattle.rules.specs.Valid.{valid}
use Rattle.rules.specs.declared.Field.{Field}
use Rattle.rules.specs.declared.Handler.{Handler}
use Rattle.rules.specs.declared.Input.{Input}
use Rattle.rules.specs.declared.Links.{Links}
use Rattle.rules.specs.declared.Ticked.{Ticked}
use Rattle.rules.specs.declared.Timer.{Timer}
use Rattle.laws.specs.Facts.{PingsOwned}
use Rattle.laws.specs.Pinging.{enables, links_pending, meets_in}
use Rattle.laws.proofs.Map.Cases.{pick}
use Rattle.laws.proofs.Access.Enabling.{acted_on, on_is, runs_is}
use Rattle.laws.proofs.Access.RegisterFile.{acted_n}
use Rattle.laws.proofs.Samples.Heard.{heard_raise}
use Rattle.laws.proofs.Samples.Raises.{raised_0, raised_1, raised_3}
use Rattle.laws.proofs.Samples.Receivers.{acted_links}
use Rattle.laws.proofs.Tick.Frame.{after_n, after_timer}
use Rattle.laws.proofs.Tick.Links.{linked_turn, linked_line}
use Rattle.laws.proofs.Tick.OpenPings.{linked_owned, linked_open}

-- ── register 6 ──

-- it is 1 after a tick if it was or an accepted write has set it
pub after_on : (h : Handler) (x : Input) → is_on (after h x) ≡ (is_on h || enables h x.access)
after_on h x = ap (λ (t : Timer). eqb t.enable 1) (after_timer h x) ∙ acted_on h x.access

-- so "Once 6 is 1 it stays 1", in a tick, refused or not, and in any number of them
pub ticked_on : (h : Handler) (x : Input) → is_on h ≡ true → is_on (ticked h x).handler ≡ true
unfolding ticked tick
ticked_on h x e =
    pick (λ (t : Ticked). is_on t.handler ≡ true) (valid h) _ _ (λ _. after_on h x ∙ ap (λ (b : Bool). b || enables h x.access) e) (λ _. e)

pub run_on : (h : Handler) (xs : List Input) → is_on h ≡ true → is_on (run h xs) ≡ true
unfolding run
run_on h [] e = e
run_on h (x ∷ xs) e = run_on (ticked h x).handler xs (ticked_on h x e)

-- ── what the timer meets, by the state before the tick ──

module _ (h : Handler) (x : Input) where
  abbrev g : Handler
  g = acted h x.access

  pub met_runs : h.timer.enable < 2 → (meets_in h x).runs ≡ is_on h
  met_runs l = runs_is h x.access l

  pub met_pending : (meets_in h x).pending ≡ turn_pending h
  met_pending = ap₂ links_pending (acted_n h x.access) (acted_links h x.access)

  -- ── the turn and the lines ──

  pub after_turn : (after h x).links.turn ≡ turned (meets_in h x) h.links.turn
  unfolding hears heard after
  after_turn =
      linked_turn g (hears h x) (lines (reached h x)) ∙ ap (λ (l : Links). turned (meets_in h x) l.turn) (acted_links h x.access)

  pub after_line : (e : ℕ) → e < 4 → bit (after h x).links.lines e ≡ line_after (meets_in h x) h.links.turn (bit h.links.lines e) e
  unfolding hears heard after
  after_line e l =
      linked_line g (hears h x) (lines (reached h x)) e l
      ∙ ap (λ (z : Links). line_after (meets_in h x) z.turn (bit z.lines e) e) (acted_links h x.access)

  -- ── what a ping that fails does: local 0 or 1 occurs, in these ticks and no other ──

  pub local_0 : occurs g (hears h x) 0 ≡ (fails_alert (meets_in h x) h.links.turn && eqb (local g Field.En 0) 1)
  unfolding hears occurs fails open_now opens
  local_0 =
      ap (λ (b : Bool). b && eqb (local g Field.En 0) 1)
      (heard_raise g x.sample (effects h x.access) 0 (omega arith) ∙ raised_0 h x.access g x.sample
      ∙ ap (λ (z : Links). fails_alert (meets_in h x) z.turn) (acted_links h x.access))

  pub local_1 : occurs g (hears h x) 1 ≡ (fails_line (meets_in h x) h.links.turn && eqb (local g Field.En 1) 1)
  unfolding hears occurs fails open_now opens
  local_1 =
      ap (λ (b : Bool). b && eqb (local g Field.En 1) 1)
      (heard_raise g x.sample (effects h x.access) 1 (omega arith) ∙ raised_1 h x.access g x.sample
      ∙ ap (λ (z : Links). fails_line (meets_in h x) z.turn) (acted_links h x.access))

  -- ── request (xi): local 3 occurs where a receive pair is wrong, and nowhere else ──

  pub local_3 : occurs g (hears h x) 3 ≡ (any_to (line_wrong g x.sample) line_count && eqb (local g Field.En 3) 1)
  unfolding hears occurs
  local_3 =
      ap (λ (b : Bool). b && eqb (local g Field.En 3) 1)
      (heard_raise g x.sample (effects h x.access) 3 (omega arith) ∙ raised_3 h x.access g x.sample)

  -- ── the open pings: only the turn's, before and after ──

  module _ (n : h.n ≤ most) (l : h.timer.enable < 2) (o : PingsOwned h.n (is_on h) h.links) where
    few : g.n ≤ most
    few = subst (λ (k : ℕ). k ≤ most) (sym (acted_n h x.access)) n

    owned : PingsOwned g.n (meets_in h x).runs g.links
    owned =
        subst (λ (k : ℕ). PingsOwned k (meets_in h x).runs g.links) (sym (acted_n h x.access))
        (subst (λ (b : Bool). PingsOwned h.n b g.links) (sym (met_runs l))
        (subst (PingsOwned h.n (is_on h)) (sym (acted_links h x.access)) o))

    runs_after : ((meets_in h x).runs || (meets_in h x).begins) ≡ is_on (after h x)
    runs_after =
        ap (λ (b : Bool). b || (effects h x.access).begins) (met_runs l) ∙ sym (on_is h x.access l)
        ∙ sym (ap (λ (t : Timer). eqb t.enable 1) (after_timer h x))

    pub after_owned : PingsOwned (after h x).n (is_on (after h x)) (after h x).links
    unfolding hears after
    after_owned =
        subst (λ (b : Bool). PingsOwned (after h x).n b (after h x).links) runs_after
        (subst (λ (k : ℕ). PingsOwned k ((meets_in h x).runs || (meets_in h x).begins) (after h x).links) (acted_n h x.access ∙ sym (after_n h x))
        (linked_owned g x.sample (effects h x.access) (lines (reached h x)) few owned))

    -- what the timer leaves open is what the next tick finds open
    pub after_pending : turn_pending (after h x) ≡ open_after (meets_in h x) h.links.turn
    unfolding hears after
    after_pending =
        ap (λ (k : ℕ). links_pending k (after h x).links) (after_n h x ∙ sym (acted_n h x.access))
        ∙ linked_open g x.sample (effects h x.access) (lines (reached h x)) few owned
        ∙ ap (λ (z : Links). open_after (meets_in h x) z.turn) (acted_links h x.access)
