-- The laws of the entries at N and above in the raw fields, for every list of ticks and every N: laws that said less would not do here.
-- Assumes nothing.
use Prim.Native.Nat.{ℕ, ◌≤◌, ◌<◌}
use mathlib.Core.Path.{◌≡◌, sym, ap, ◌∙◌}
use mathlib.Core.Bool.{false}
use mathlib.Core.List.{List}
use native.Mathlib.Omega.{arith}
use lib.ListN.{get_or}
use Rattle.bits.proofs.WordLaws.{place_in_each}
use Rattle.bits.specs.Index.{place_in, words_by}
use Rattle.link_rules.specs.Receiver.{new_receiver}
use Rattle.link_rules.specs.declared.Receiver.{Receiver}
use Rattle.rules.specs.Run.{run}
use Rattle.rules.specs.Stages.{stage_in}
use Rattle.rules.specs.State.{words, receivers_by, made}
use Rattle.rules.specs.declared.Field.{Field}
use Rattle.rules.specs.declared.Handler.{Handler}
use Rattle.rules.specs.declared.Input.{Input}
use Rattle.rules.specs.declared.Receivers.{Receivers}
use Rattle.laws.specs.Above.{SameAbove}
use Rattle.laws.proofs.Samples.Heard.{receiver_by, receiver_bits}
use Rattle.laws.proofs.State.Above.{run_above, made_entries}

-- what g has of alert i is what h has
pub record Untouched (h g : Handler) (i : ℕ) : Type 0 where
  pub regwen : get_or g.alerts.regwen i 0 ≡ get_or h.alerts.regwen i 0
  pub en : get_or g.alerts.en i 0 ≡ get_or h.alerts.en i 0
  pub class : get_or g.alerts.class i 0 ≡ get_or h.alerts.class i 0
  pub cause : get_or g.alerts.cause i 0 ≡ get_or h.alerts.cause i 0
  pub pausing : place_in g.links.receivers.pausing i ≡ place_in h.links.receivers.pausing i
  pub busy : place_in g.links.receivers.busy i ≡ place_in h.links.receivers.busy i
  pub level : place_in g.links.receivers.level i ≡ place_in h.links.receivers.level i
  pub pending : place_in g.links.receivers.pending i ≡ place_in h.links.receivers.pending i
  pub en_stage : get_or g.stages.alerts.en i 0 ≡ get_or h.stages.alerts.en i 0
  pub class_stage : get_or g.stages.alerts.class i 0 ≡ get_or h.stages.alerts.class i 0

pub untouched : (h g : Handler) → SameAbove h g → (i : ℕ) → h.n ≤ i → i < 248 → Untouched h g i
unfolding stage_in
untouched h g s i a l = record {
  regwen = s.alerts Field.Regwen i a l;
  en = s.alerts Field.En i a l;
  class = s.alerts Field.Class i a l;
  cause = s.alerts Field.Cause i a l;
  pausing = (receiver_bits g.links.receivers h.links.receivers i (s.receivers i a (omega arith))).0;
  busy = (receiver_bits g.links.receivers h.links.receivers i (s.receivers i a (omega arith))).1;
  level = ap (λ (r : Receiver). r.level) (s.receivers i a (omega arith));
  pending = ap (λ (r : Receiver). r.pending) (s.receivers i a (omega arith));
  en_stage = s.stages Field.En i a l;
  class_stage = s.stages Field.Class i a l;
}

-- "no call changes them": a list of ticks
by_ticks : (h : Handler) (xs : List Input) (i : ℕ) → h.n ≤ i → i < 248 → Untouched h (run h xs) i
by_ticks h xs = untouched h (run h xs) (run_above h xs)

-- "a new handler has them at reset", ready, with ping pairs at (0,1) and neither a ping nor a stage open
abbrev none : Receivers
none = receivers_by (λ i. new_receiver)

low : (i : ℕ) → i < 248 → place_in (words_by words (λ j. false)) i ≡ false
low i l = place_in_each words (λ j. false) i (omega arith)

at_reset : (n i : ℕ) → i < 248
    → (get_or (made n).handler.alerts.regwen i 0 ≡ 1)
    × (get_or (made n).handler.alerts.en i 0 ≡ 0)
    × (get_or (made n).handler.alerts.class i 0 ≡ 0)
    × (get_or (made n).handler.alerts.cause i 0 ≡ 0)
    × (place_in (made n).handler.links.receivers.pausing i ≡ false)
    × (place_in (made n).handler.links.receivers.busy i ≡ false)
    × (place_in (made n).handler.links.receivers.level i ≡ false)
    × (place_in (made n).handler.links.receivers.pending i ≡ false)
    × (get_or (made n).handler.stages.alerts.en i 0 ≡ 0)
    × (get_or (made n).handler.stages.alerts.class i 0 ≡ 0)
unfolding stage_in
at_reset n i l =
    let e = made_entries n in
    let r = e.receivers i (omega arith) in
    let b = receiver_bits (made n).handler.links.receivers none i (r ∙ sym (receiver_by (λ j. new_receiver) i (omega arith))) in
    (e.alerts Field.Regwen i l, e.alerts Field.En i l, e.alerts Field.Class i l, e.alerts Field.Cause i l, b.0 ∙ low i l, b.1 ∙ low i l, ap (λ (x : Receiver). x.level) r, ap (λ (x : Receiver). x.pending) r, e.stages Field.En i l, e.stages Field.Class i l)
