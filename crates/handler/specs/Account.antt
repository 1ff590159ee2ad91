-- What a tick hears, as it is told to who asks.
-- Assumes nothing.
use Rattle.std.specs.Prelude.{cond, replicate}
use Rattle.bits.specs.Bits.{bits_of}
use Rattle.rules.specs.Access.{acted, answer_to}
use Rattle.rules.specs.Answer.{number}
use Rattle.rules.specs.Samples.{occurs}
use Rattle.rules.specs.State.{words, local_count}
use Rattle.rules.specs.Tick.{hears}
use Rattle.rules.specs.Valid.{valid}
use Rattle.rules.specs.declared.Answer.{Answer}
use Rattle.rules.specs.declared.Handler.{Handler}
use Rattle.rules.specs.declared.Input.{Input}
use Rattle.rules.specs.declared.Refusal.TheVariants.{BadState}
use Rattle.handler.specs.declared.account.Account.{Account}

-- of a tick that runs
abbrev pub told : Handler → Input → Account
told h x =
    record {
      events = (hears h x).events;
      answers = (hears h x).answers;
      locals = bits_of local_count (occurs (acted h x.access) (hears h x));
      answer = number (answer_to h x.access);
    }

-- refusal 7: nothing is heard
abbrev pub nothing_told : Account
nothing_told = record { events = replicate words 0; answers = replicate words 0; locals = 0; answer = number (Answer.Refused BadState) }

unfoldable pub account : Handler → Input → Account
account h x = cond (valid h) (told h x) nothing_told
