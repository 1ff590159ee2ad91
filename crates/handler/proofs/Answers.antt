-- The answer of a tick as one signed number, and the tick of a valid and of any other state.
-- Assumes nothing.
use mathlib.Core.Path.{◌≡◌, sym, ap, ap₂, ◌∙◌}
use mathlib.Core.Bool.{true, false}
use native.Mathlib.Omega.{arith}
use lib.IntN.{ℤ, pos, negsuc}
use mir.Facts.{to_z-of_z}
use mir.Syntax.{w64}
use mir.Val.{SFits, to_z, of_z}
use borrow.Author.Rules.{sfits_of}
use Rattle.rules.specs.Answer.{number}
use Rattle.rules.specs.Tick.{acknowledge_pairs, ping_pairs, escalation_pairs, output_of, tick, ticked, no_output}
use Rattle.rules.specs.Valid.{valid}
use Rattle.rules.specs.declared.Answer.{Answer}
use Rattle.rules.specs.declared.Handler.{Handler}
use Rattle.rules.specs.declared.Input.{Input}
use Rattle.rules.specs.declared.LinePairs.{LinePairs}
use Rattle.rules.specs.declared.Output.{Output}
use Rattle.rules.specs.declared.Refusal.TheVariants.{BadState}
use Rattle.rules.specs.declared.Wires.{Wires}
use Rattle.laws.proofs.Valid.Refusal7.{ticked_good, ticked_bad}
use Rattle.answers.specs.Meaning.{Meaning}
use Rattle.rules.specs.Access.{accessed, answer_to}
use Rattle.rules.specs.declared.Accessed.{Accessed}
use Rattle.handler.specs.Answered.{answered}
use Rattle.handler.specs.Finished.{finished, finished_of}
use Rattle.handler.specs.declared.tick.Answered.{Answered}
use Rattle.handler.specs.declared.tick.Finished.{Finished}
use Rattle.handler.proofs.WholeTick.{finished_tick}

-- an answer's number is one of 64 bits, by its meaning at both ends
number_fits : (a : Answer) (z : ℤ) → z ≡ number a → Meaning a → SFits w64 z
number_fits a (pos n) e m = let l = m.highest n (sym e) in sfits_of (omega arith)
number_fits a (negsuc n) e m = let l = m.lowest n (sym e) in sfits_of (omega arith)

-- and the bits that hold it read back as it
pub read_back : (a : Answer) (z : ℤ) → (z ≡ number a) × Meaning a → to_z w64 (of_z w64 z) ≡ number a
read_back a z p = to_z-of_z (number_fits a z p.0 p.1) ∙ p.0

-- a valid state: step 1, then the rest of the tick, and the pairs
pub answered_good : (h : Handler) (x : Input) (b : Accessed) (t : Finished) (a p : Wires) (q : LinePairs) (z : ℤ) → valid h ≡ true
    → b ≡ accessed h x.access → t ≡ finished b.handler b.effects x.sample
    → a ≡ acknowledge_pairs h → p ≡ ping_pairs t.handler → q ≡ escalation_pairs t.handler → (z ≡ number b.answer) × Meaning b.answer
    → ◌≡◌ {A = Answered}
    (record {
      handler = t.handler;
      answer = to_z w64 (of_z w64 z);
      output = record { interrupts = t.interrupts; lines = t.lines; acknowledge = a; ping = p; escalation = q };
    })
    (answered (ticked h x))
unfolding answered tick output_of answer_to
answered_good h x b t a p q z v eb e ea ep eq m =
    ap (λ (y : ℤ). ended t.handler y t a p q) (read_back b.answer z m)
    ∙ (λ u. ended t.handler (number b.answer) t (ea u) (ep u) (eq u))
    ∙ (λ u. ended (same u).handler (number (eb u).answer) (same u) (acknowledge_pairs h) (ping_pairs (same u).handler) (escalation_pairs (same u).handler))
    ∙ ap answered (sym (ticked_good h x v))
  where
    same : t ≡ finished_of (tick h x)
    same = e ∙ finished_tick h x b eb

    ended : Handler → ℤ → Finished → Wires → Wires → LinePairs → Answered
    ended g y s a p q =
        record { handler = g; answer = y; output = record { interrupts = s.interrupts; lines = s.lines; acknowledge = a; ping = p; escalation = q } }

-- any other
pub answered_bad : (h : Handler) (x : Input) (z : ℤ) (o : Output) → valid h ≡ false → (z ≡ number (Answer.Refused BadState)) × Meaning (Answer.Refused BadState)
    → o ≡ no_output → ◌≡◌ {A = Answered} (record { handler = h; answer = to_z w64 (of_z w64 z); output = o }) (answered (ticked h x))
unfolding answered
answered_bad h x z o v p e =
    ap₂ (λ (y : ℤ) (q : Output). record { handler = h; answer = y; output = q }) (read_back (Answer.Refused BadState) z p) e
    ∙ ap answered (sym (ticked_bad h x v))
