-- Request (xi): "older editions run as in (ix), senders unchecked": the tick of an older record makes no local 3 occur, and a line closes no ping in it.
-- Assumes nothing.
use Prim.Native.Nat.{ℕ}
use mathlib.Core.Path.{◌≡◌, refl, ap, ◌∙◌}
use mathlib.Core.Bool.{Bool, false, ◌&&◌}
use mathlib.Core.List.{List}
use lib.Dec.{eqb}
use Rattle.bits.specs.Index.{any_to}
use Rattle.bits.proofs.IndexLaws.{any_none}
use Rattle.link_rules.specs.LinePing.{closed_by_line}
use Rattle.link_rules.specs.Senders.{line_count}
use Rattle.rules.specs.Access.{acted}
use Rattle.rules.specs.Samples.{checks, line_wrong, heard, occurs}
use Rattle.rules.specs.State.{local}
use Rattle.rules.specs.Tick.{hears, closed_now}
use Rattle.rules.specs.declared.Field.{Field}
use Rattle.rules.specs.declared.Handler.{Handler}
use Rattle.rules.specs.declared.Input.{Input}
use Rattle.rules.specs.declared.Sample.{Sample}
use Rattle.trace_rules.specs.Edition.{has_pairs}
use Rattle.trace_rules.specs.Record.{held_in, input_of}
use Rattle.trace_rules.specs.declared.Edition.{Edition}
use Rattle.trace_rules.specs.declared.Edition.TheVariants.{Alerts64, Alerts248, Pings, Wires}
use Rattle.laws.proofs.Tick.Turns.{local_3}

-- what a record says of the senders is its edition's alone
pub checked_is : (e : Edition) (bytes : List ℕ) → checks (input_of e bytes).sample.receive ≡ has_pairs e
unfolding input_of held_in
checked_is Alerts64 bytes = refl
checked_is Alerts248 bytes = refl
checked_is Pings bytes = refl
checked_is Wires bytes = refl

-- no pair is wrong that nobody checks
none_wrong : (g : Handler) (s : Sample) → checks s.receive ≡ false → any_to (line_wrong g s) line_count ≡ false
unfolding line_wrong
none_wrong g s c = any_none (line_wrong g s) line_count (λ i l. rw c)

module _ (e : Edition) (o : has_pairs e ≡ false) (h : Handler) (bytes : List ℕ) where
  abbrev x : Input
  x = input_of e bytes

  pub older_no_fault : occurs (acted h x.access) (hears h x) 3 ≡ false
  older_no_fault = local_3 h x ∙ ap (λ (b : Bool). b && eqb (local (acted h x.access) Field.En 3) 1) (none_wrong (acted h x.access) x.sample (checked_is e bytes ∙ o))

  pub older_closes_none : (lit : ℕ) → closed_now (acted h x.access) (hears h x) lit ≡ false
  unfolding closed_now closed_by_line hears heard
  older_closes_none lit = rw (checked_is e bytes ∙ o)
