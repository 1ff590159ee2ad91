-- Request (xii): a round of the engine as the code takes it, with t ticks to go in all.
-- Assumes nothing.
use Prim.Native.Nat.{ℕ, ◌+◌, ◌-◌, ◌^◌, ◌≤◌, ◌<◌, min}
use mathlib.Core.Path.{◌≡◌, refl, sym, ap, ◌∙◌}
use mathlib.Core.Bool.{false}
use mathlib.Core.List.{List, ◌++◌}
use native.Mathlib.Omega.{arith}
use lib.Dec.{ltb}
use lib.ListN.{length}
use Rattle.bits.specs.Bits.{num}
use Rattle.class_rules.specs.declared.Class.{Class}
use Rattle.class_rules.specs.declared.Signals.{Signals}
use Rattle.link_rules.specs.Senders.{sent_all}
use Rattle.link_rules.specs.declared.Senders.{Senders}
use Rattle.laws.specs.OutputMasks.{lines_on}
use Rattle.calm_rules.specs.Ticks.{change}
use Rattle.calm_laws.specs.Four.{four_stands, four_jump, moves_in, FourFit, Running}
use Rattle.calm_laws.specs.Stand.{least}
use Rattle.calm_laws.specs.Steady.{steady, senders_for}
use Rattle.calm_laws.proofs.Rounds.{round_room, round_next, round_falls}
use Rattle.calm_laws.proofs.Standing.{least_below}
use Rattle.calm.specs.RoundBy.{RoundBy}
use Rattle.calm.specs.declared.round.Round.{Round}
use Rattle.calm.proofs.Standing.{min_least}

-- n ticks are done; the round takes m more and one
module _ (s : ℕ → Signals) (k : (j : ℕ) → (s j).clear ≡ false) (cs : List Class) (ss : Senders) (v : FourFit cs) (from most : ℕ) (old : List ℕ)
    (n : ℕ) (ds : List Class) (ts : Senders) (ws : List ℕ) (r : Running s cs ss from most old n ds ts ws)
    (t : ℕ) (small : t < 2 ^ 32) (more : n < t) (m : ℕ) (time : m ≡ min (t - n - 1) (four_stands s ds)) (q : Round) (g : RoundBy s ds ts m q) where
  time_is : m ≡ least (t - n - 1) (four_stands s ds)
  time_is = time ∙ min_least (t - n - 1) (four_stands s ds)

  stands : m ≤ four_stands s ds
  stands = omega (arith, time_is, (least_below (t - n - 1) (four_stands s ds)).1)

  pub in_time : n + (m + 1) ≤ t
  in_time = omega (arith, time_is, (least_below (t - n - 1) (four_stands s ds)).0, more)

  lines_is : q.lines ≡ lines_on q.moved.classes
  lines_is = g.lines ∙ ap lines_on (sym g.classes)

  stepped : q.moved.senders ≡ sent_all (senders_for (lines_on (four_jump s m ds)) m ts) (steady (lines_on q.moved.classes))
  stepped =
      g.senders
      ∙ ap (λ (xs : List Class). sent_all (senders_for (lines_on (four_jump s m ds)) m ts) (steady (lines_on xs))) (sym g.classes)

  pub entry : (q.lines ≡ q.before → ⊥) → length ws < most
  entry d =
      round_room s k cs ss v from most old n ds ts ws r m stands (four_jump s m ds) q.moved.classes refl g.classes
      (senders_for (lines_on (four_jump s m ds)) m ts) q.moved.senders refl stepped (λ l. d (lines_is ∙ l ∙ sym g.before))

  pub next : Running s cs ss from most old (n + (m + 1)) q.moved.classes q.moved.senders (ws ++ change q.before q.lines (from + (n + (m + 1))))
  next =
      let e : n + (m + 1) ≡ n + m + 1 = omega arith in
      rw (e, g.before, lines_is)
      (round_next s k cs ss v from most old n ds ts ws r m stands (four_jump s m ds) q.moved.classes refl g.classes
      (senders_for (lines_on (four_jump s m ds)) m ts) q.moved.senders refl stepped)

  pub falls : moves_in s q.moved.classes + num (ltb (n + (m + 1)) t) < moves_in s ds + num (ltb n t)
  falls =
      let e : n + (m + 1) ≡ n + m + 1 = omega arith in
      rw e
      (round_falls s k cs ss v from most old n ds ts ws r m stands (four_jump s m ds) q.moved.classes refl g.classes
      (senders_for (lines_on (four_jump s m ds)) m ts) q.moved.senders refl stepped t small more time_is)
