-- What the calls of an account ensure, put together, is what the tick hears.
-- Assumes nothing.
use Prim.Native.Nat.{ℕ}
use mathlib.Core.Path.{◌≡◌, refl, ap, ap₂, ◌∙◌}
use mathlib.Core.Bool.{Bool, true, false, cond}
use lib.IntN.{ℤ}
use lib.ListN.{replicate}
use mir.Syntax.{w64}
use mir.Val.{to_z, of_z}
use Rattle.bits.specs.Bits.{bits_of}
use Rattle.rules.specs.Access.{accessed, acted, answer_to, effects}
use Rattle.rules.specs.Answer.{number}
use Rattle.rules.specs.Samples.{heard, occurs}
use Rattle.rules.specs.State.{words, local_count}
use Rattle.rules.specs.Tick.{hears, no_output, tick, ticked}
use Rattle.rules.specs.Valid.{valid}
use Rattle.rules.specs.declared.Accessed.{Accessed}
use Rattle.rules.specs.declared.Answer.{Answer}
use Rattle.rules.specs.declared.Handler.{Handler}
use Rattle.rules.specs.declared.Heard.{Heard}
use Rattle.rules.specs.declared.Input.{Input}
use Rattle.rules.specs.declared.Refusal.TheVariants.{BadState}
use Rattle.answers.specs.Meaning.{Meaning}
use Rattle.samples.specs.Occurred.{among_bits}
use Rattle.handler.specs.Account.{told, nothing_told, account}
use Rattle.handler.specs.declared.account.Account.{Account}
use Rattle.handler.proofs.Answers.{read_back}

-- a is step 1, v what is heard, m the local alerts that occur, z the answer
pub account_good : (h : Handler) (x : Input) (a : Accessed) (v : Heard) (m : ℕ) (z : ℤ) → valid h ≡ true → a ≡ accessed h x.access
    → v ≡ heard a.handler x.sample a.effects → m ≡ bits_of local_count (among_bits v.raises a.handler.locals.en)
    → (z ≡ number a.answer) × Meaning a.answer
    → ◌≡◌ {A = Account} (record { events = v.events; answers = v.answers; locals = m; answer = to_z w64 (of_z w64 z) }) (account h x)
unfolding account hears acted effects answer_to occurs
account_good h x a v m z e ea ev em ez =
    ap₂ (λ (k : ℕ) (y : ℤ). record { events = v.events; answers = v.answers; locals = k; answer = y }) em (read_back a.answer z ez)
    ∙ ap (λ (w : Heard). by a w) ev ∙ ap (λ (b : Accessed). by b (heard b.handler x.sample b.effects)) ea ∙ rw e
  where
    by : Accessed → Heard → Account
    by b w =
        record { events = w.events; answers = w.answers; locals = bits_of local_count (among_bits w.raises b.handler.locals.en); answer = number b.answer }

-- any other state
pub account_bad : (h : Handler) (x : Input) (z : ℤ) → valid h ≡ false → (z ≡ number (Answer.Refused BadState)) × Meaning (Answer.Refused BadState)
    → ◌≡◌ {A = Account} (record { events = replicate words 0; answers = replicate words 0; locals = 0; answer = to_z w64 (of_z w64 z) }) (account h x)
unfolding account
account_bad h x z e ez =
    ap (λ (y : ℤ). record { events = replicate words 0; answers = replicate words 0; locals = 0; answer = y }) (read_back (Answer.Refused BadState) z ez) ∙ rw e

-- its answer is the tick's
pub account_answer : (h : Handler) (x : Input) → (account h x).answer ≡ number (ticked h x).answer
unfolding account ticked tick
account_answer h x = go (valid h)
  where
    go : (b : Bool) → (cond b (told h x) nothing_told).answer ≡ number (cond b (tick h x) (record { handler = h; answer = Answer.Refused BadState; output = no_output })).answer
    go true = refl
    go false = refl
