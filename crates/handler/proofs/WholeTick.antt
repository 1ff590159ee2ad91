-- What the calls of steps 2 to 5 ensure, put together, is the tick of the rules after its step 1.
-- Assumes nothing.
use Prim.Native.Nat.{ℕ, ◌≤◌}
use mathlib.Core.Path.{◌≡◌, sym, ap, ap₂, subst, ◌∙◌}
use mathlib.Core.List.{List}
use Rattle.bits.specs.Bits.{bits_of}
use Rattle.class_rules.specs.declared.Class.{Class}
use Rattle.rules.specs.Access.{accessed, acted, effects}
use Rattle.rules.specs.Samples.{heard, assigned, sampled}
use Rattle.rules.specs.State.{most, with_links}
use Rattle.rules.specs.Tick.{driven, closed_now, lines_timed, links_after, interrupts, lines, output_of, hears, after, tick}
use Rattle.rules.specs.declared.Access.{Access}
use Rattle.rules.specs.declared.Accessed.{Accessed}
use Rattle.rules.specs.declared.Effects.{Effects}
use Rattle.rules.specs.declared.Handler.{Handler}
use Rattle.rules.specs.declared.Heard.{Heard}
use Rattle.rules.specs.declared.Input.{Input}
use Rattle.rules.specs.declared.Links.{Links}
use Rattle.rules.specs.declared.Sample.{Sample}
use Rattle.laws.proofs.Access.RegisterFile.{acted_n}
use Rattle.samples.specs.Linked.{linked_by}
use Rattle.samples.specs.Sampled.{SampledBy}
use Rattle.samples.specs.declared.Sampled.{Sampled}
use Rattle.samples.specs.declared.pace.Met.{Met}
use Rattle.handler.specs.Classes.{classes_by, interrupts_by}
use Rattle.handler.specs.Finished.{finished, finished_of, ends, relinked}
use Rattle.laws.specs.OutputMasks.{interrupts_on, lines_on}
use Rattle.handler.specs.declared.tick.Finished.{Finished}
use Rattle.handler.proofs.ClassSteps.{with_stepped, joined, stepped_by}

-- an access leaves N
pub accessed_most : (h : Handler) (x : Access) (a : Accessed) → a ≡ accessed h x → h.n ≤ most → a.handler.n ≤ most
unfolding acted
accessed_most h x a e l = subst (λ (n : ℕ). n ≤ most) (sym (ap (λ (b : Accessed). b.handler.n) e ∙ acted_n h x)) l

-- what step 2 leaves for the links
abbrev pub met_of : Heard → Met
met_of v = record { receivers = v.receivers; meets = v.meets; checked = v.checked; right = v.right }

-- steps 2 to 5 of the state g as the code joins them
abbrev linked : Handler → Heard → Effects → Handler
linked g v fx = relinked g v (joined (sampled g v) (bits_of 4 (assigned g v)) fx.clears)

-- a tick is its step 1, then the rest of it
pub finished_tick : (h : Handler) (x : Input) (a : Accessed) → a ≡ accessed h x.access → finished a.handler a.effects x.sample ≡ finished_of (tick h x)
unfolding acted effects hears after tick output_of finished
finished_tick h x a e = ap (λ (b : Accessed). finished b.handler b.effects x.sample) e

-- the calls: v is what step 2 hears, s the rest of it, i and cs are INTR_STATE and the classes after steps 3 and 4, o and l are the interrupts and the
-- lines of step 5, k the links; these are written last
module _ (g : Handler) (fx : Effects) (x : Sample) (v : Heard) (s : Sampled) (i : ℕ) (cs : List Class) (o l : ℕ) (k : Links) where
  pub finish_by : v ≡ heard g x fx → SampledBy g v s
      → i ≡ interrupts_by s.handler.classes s.handler.interrupts.state s.assigned
      → cs ≡ classes_by s.handler.classes s.handler.interrupts.state s.assigned fx.clears
      → o ≡ interrupts_on i s.handler.interrupts.enable → l ≡ lines_on cs → k ≡ linked_by g.links (met_of v) l
      → ◌≡◌ {A = Finished} (record { handler = with_links k (with_stepped cs i s.handler); interrupts = o; lines = l }) (finished g fx x)
  unfolding interrupts lines interrupts_on lines_on links_after lines_timed closed_now driven finished
  finish_by ev es ei ec eo el ek =
      ap₂ (λ (p : ℕ) (q : Links). record { handler = with_links q (with_stepped cs i s.handler); interrupts = p; lines = l }) eo ek
      ∙ ap (λ (q : ℕ). record { handler = with_links (linked_by g.links (met_of v) q) (with_stepped cs i s.handler); interrupts = interrupts_on i s.handler.interrupts.enable; lines = q }) el
      ∙ ap₂ (λ (j : ℕ) (ds : List Class). ends (relinked g v (with_stepped ds j s.handler))) ei ec
      ∙ ap₂ (λ (d : Handler) (m : ℕ). ends (relinked g v (joined d m fx.clears))) es.handler es.assigns
      ∙ ap (λ (w : Heard). ends (linked g w fx)) ev
      ∙ ap (λ (d : Handler). ends (relinked g (heard g x fx) d)) (stepped_by g (heard g x fx) fx)
