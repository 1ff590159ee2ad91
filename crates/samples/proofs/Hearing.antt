-- What is heard, as the code puts it together: what `pace` tells, and the local alerts raised.
-- Assumes nothing.
use Prim.Native.Nat.{ℕ, ◌<◌, ◌≤◌}
use mathlib.Core.Path.{◌≡◌, ap, subst, ◌∙◌}
use mathlib.Core.Bool.{Bool, ◌&&◌, and_assoc}
use mathlib.Core.List.{List}
use native.Mathlib.Omega.{arith}
use lib.Dec.{ltb}
use Rattle.bits.specs.Bits.{bits_of}
use Rattle.bits.specs.Index.{any_to, words_by}
use Rattle.bits.proofs.IndexLaws.{any_ext}
use Rattle.bits.proofs.WordLaws.{place_in_each}
use Rattle.link_rules.specs.Pair.{equal}
use Rattle.rules.specs.State.{most, words, local_count}
use Rattle.rules.specs.Samples.{positive, negative, happened, answered, receiver_after, alert_broken, pingable, receiver_timed, line_wrong, raised, heard}
use Rattle.rules.specs.declared.Effects.{Effects}
use Rattle.rules.specs.declared.Handler.{Handler}
use Rattle.rules.specs.declared.Heard.{Heard}
use Rattle.rules.specs.declared.Sample.{Sample}
use Rattle.rules.specs.declared.Wires.{Wires}
use Rattle.events.specs.Noted.{enabled_in}
use Rattle.events.specs.Gathered.{among_words}
use Rattle.samples.specs.Paced.{PacedBy}
use Rattle.samples.specs.Occurred.{raised_by}
use Rattle.samples.specs.declared.pace.Met.{Met}
use Rattle.samples.specs.declared.pace.Paced.{Paced}

-- the enabled alerts among those that the words of a rule name
among : (f : ℕ → Bool) (ws en : List ℕ) (n i : ℕ) → n ≤ most → i < n → ws ≡ words_by words (λ j. ltb j n && f j)
    → among_words ws en i ≡ (ltb i n && (f i && enabled_in en i))
among f ws en n i small h e =
    ap (λ (xs : List ℕ). among_words xs en i) e
    ∙ ap (λ (t : Bool). t && enabled_in en i) (place_in_each words (λ j. ltb j n && f j) i (omega arith))
    ∙ and_assoc (ltb i n) (f i) (enabled_in en i)

-- what is left for the links, events, answers and local alerts
abbrev hearing : Met → List ℕ → List ℕ → ℕ → Heard
hearing v events answers raises =
    record {
      receivers = v.receivers;
      events = events;
      answers = answers;
      raises = raises;
      meets = v.meets;
      checked = v.checked;
      right = v.right;
    }

module _ (g : Handler) (x : Sample) (fx : Effects) (r : Paced) (drawn b : Bool) (mask : ℕ) (small : g.n ≤ most)
    (can : drawn ≡ pingable g)
    (paced : PacedBy g.n g.links g.timer fx.begins drawn x r)
    (search : b ≡ any_to (among_words r.equal g.alerts.en) g.n)
    (raises : mask ≡ bits_of local_count (raised_by b r.wrong r.fails_alert r.fails_line fx.raises)) where
  abbrev w : Wires
  w = x.alerts

  told : PacedBy g.n g.links g.timer fx.begins (pingable g) x r
  told = subst (λ (p : Bool). PacedBy g.n g.links g.timer fx.begins p x r) can paced

  -- whether an enabled alert has equal wires
  breaks : (i : ℕ) → i < g.n → among_words r.equal g.alerts.en i ≡ alert_broken g w i
  unfolding alert_broken
  breaks i h = among (λ j. equal (positive w j) (negative w j)) r.equal g.alerts.en g.n i small h told.equals

  broken : b ≡ any_to (alert_broken g w) g.n
  broken = search ∙ any_ext (among_words r.equal g.alerts.en) (alert_broken g w) g.n breaks

  pub heard_by : hearing r.met r.events r.answers mask ≡ heard g x fx
  unfolding heard happened answered receiver_after receiver_timed line_wrong raised
  heard_by =
      λ t.
      hearing (record { receivers = told.receivers t; meets = told.meets t; checked = told.checked t; right = told.right t })
      (told.happened t) (told.answered t)
      ((raises ∙ (λ u. bits_of local_count (raised_by (broken u) (told.any_wrong u) (told.alert_fails u) (told.line_fails_law u) fx.raises))) t)
