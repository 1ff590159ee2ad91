-- Sequences of calls, and all that they give. The state is the caller's: a call takes the state that the one before it left, or one that the caller hands in.
-- Assumes nothing.
use Rattle.std.specs.Prelude.{ℕ, ◌≤◌, ◌≡◌, List, [], ◌∷◌, ℤ, get_or}
use Rattle.batch.specs.declared.Batched.{Batched}
use Rattle.boundary.specs.declared.Wired.{Wired}
use Rattle.call_sentences.specs.Arguments.{Lists, Words}
use Rattle.calm_rules.specs.declared.Calmed.{Calmed}
use Rattle.dump_rules.specs.declared.Content.{Content}
use Rattle.handler.specs.declared.account.Account.{Account}
use Rattle.handler.specs.declared.tick.Answered.{Answered}
use Rattle.link_rules.specs.declared.LineReceivers.{LineReceivers}
use Rattle.link_rules.specs.declared.Listened.{Listened}
use Rattle.policy.specs.declared.Installed.{Installed}
use Rattle.rules.specs.declared.Handler.{Handler}
use Rattle.rules.specs.declared.Made.{Made}
use Rattle.rules.specs.declared.Wires.{Wires}
use Rattle.sentences.specs.AccessArrays.{Sized}
use Rattle.trace_rules.specs.declared.Edition.{Edition}
use Rattle.everything.specs.Everything.{Library, Everything}

pub data Call : Type 0 where
  -- no call of the library: the caller goes on with this state
  take : Handler → Call
  do_new : ℕ → Call
  do_tick : ℕ → ℕ → ℕ → Wired → Call
  do_hear : ℕ → ℕ → ℕ → Wired → Call
  do_batch : Edition → List ℕ → List ℕ → Call
  do_record : Lists → List ℕ → Call
  do_receive : LineReceivers → ℕ → ℕ → Call
  do_install : ℕ → Call
  do_calm : Wires → ℕ → List ℕ → Call
  do_dump : List ℕ → Call
  do_read : List ℕ → Call

-- what the C types can hold, as far as it is needed: a state's arrays have their lengths, bytes are bytes, wires are in words of 64 bits, entropy words and ticks of 32
pub data Typed : Call → Type 0 where
  any_state : {h : Handler} → Sized h → Typed (take h)
  any_new : {n : ℕ} → Typed (do_new n)
  any_tick : {k r v : ℕ} {w : Wired} → Typed (do_tick k r v w)
  any_hear : {k r v : ℕ} {w : Wired} → Typed (do_hear k r v w)
  any_batch : {e : Edition} {bytes out : List ℕ} → ((i : ℕ) → get_or bytes i 0 ≤ 255) → Typed (do_batch e bytes out)
  any_record : {l : Lists} {buffer : List ℕ} → Words l → Typed (do_record l buffer)
  any_receive : {r : LineReceivers} {p m : ℕ} → Typed (do_receive r p m)
  any_install : {c : ℕ} → Typed (do_install c)
  any_calm : {w : Wires} {n : ℕ} {list : List ℕ} → n ≤ 4294967295 → Typed (do_calm w n list)
  any_dump : {buffer : List ℕ} → Typed (do_dump buffer)
  any_read : {bytes : List ℕ} → ((i : ℕ) → get_or bytes i 0 ≤ 255) → Typed (do_read bytes)

pub data AllTyped : List Call → Type 0 where
  none : AllTyped []
  one : {c : Call} {cs : List Call} → Typed c → AllTyped cs → AllTyped (c ∷ cs)

-- what a caller gets: all of what comes back, and the list or buffer that it lent
pub data Got : Type 0 where
  taken : Handler → Got
  of_new : Made → Got
  of_tick : Answered → Got
  of_hear : Account → Got
  of_batch : Batched → List ℕ → Got
  of_record : ℤ → List ℕ → Got
  of_receive : Listened → Got
  of_install : Installed → Got
  of_calm : Calmed → List ℕ → Got
  of_dump : ℤ → List ℕ → Got
  of_read : Content → Got

abbrev pub got : Library → Handler → Call → Got
got l h (take g) = taken g
got l h (do_new n) = of_new (l.new n)
got l h (do_tick k r v w) = of_tick (l.tick h k r v w)
got l h (do_hear k r v w) = of_hear (l.hear h k r v w)
got l h (do_batch e bytes out) = of_batch (l.batch e h bytes out) (l.batch_words e h bytes out)
got l h (do_record x buffer) = of_record (l.write x buffer) (l.write_bytes x buffer)
got l h (do_receive r p m) = of_receive (l.receive r p m)
got l h (do_install c) = of_install (l.install c h)
got l h (do_calm w n list) = of_calm (l.calm h w n list) (l.calm_words h w n list)
got l h (do_dump buffer) = of_dump (l.dump h buffer) (l.dump_bytes h buffer)
got l h (do_read bytes) = of_read (l.read_dump_law bytes)

-- the state with which the caller goes on: the one that came back, if one did
abbrev pub after : Handler → Got → Handler
after h (taken g) = g
after h (of_new m) = m.handler
after h (of_tick t) = t.handler
after h (of_hear a) = h
after h (of_batch b words) = b.handler
after h (of_record n bytes) = h
after h (of_receive x) = h
after h (of_install b) = b.handler
after h (of_calm c words) = c.handler
after h (of_dump n bytes) = h
after h (of_read c) = h

-- all that a sequence of calls gives
unfoldable pub all : Library → Handler → List Call → List Got
all l h [] = []
all l h (c ∷ cs) = got l h c ∷ all l (after h (got l h c)) cs

-- ── one call of the library that is built: h is the state that it was handed, c the call, and g what came back ──

-- it gives what every library gives of which all sentences hold
abbrev pub AsSaid : Handler → Call → Got → Type 0
AsSaid h c g = (l : Library) → Everything l → Sized h → Typed c → g ≡ got l h c

-- the eight lists of a writing, as they are lent
abbrev pub lists : List ℕ → List ℕ → List ℕ → List ℕ → List ℕ → List ℕ → List ℕ → List ℕ → Lists
lists kinds registers values positive negative entropy receive_positive_law receive_negative_law =
    record {
      kinds = kinds;
      registers = registers;
      values = values;
      positive = positive;
      negative = negative;
      entropy = entropy;
      receive_positive_law = receive_positive_law;
      receive_negative_law = receive_negative_law;
    }

-- of a call without a state
abbrev pub AsSaidOf : Call → Got → Type 0
AsSaidOf c g = (h : Handler) → AsSaid h c g
