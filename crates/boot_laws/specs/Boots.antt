-- Request (vi), "Boot policy": what comes of any boot, one that succeeds, one that stops and one that does not begin. proofs/Boots.antt proves it of
-- every lifecycle and state.
-- Assumes nothing.
use Rattle.std.specs.Prelude.{ℕ, ◌≤◌, ◌<◌, ◌≡◌, ◌⊎◌, true, false, pos, negsuc, length, take, replicate}
use Rattle.laws.specs.Above.{SameAbove}
use Rattle.laws.specs.Pinging.{asks_in}
use Rattle.link_rules.specs.Pair.{rises}
use Rattle.link_rules.specs.Receiver.{new_receiver}
use Rattle.link_rules.specs.Senders.{line_count}
use Rattle.link_rules.specs.declared.Handshake.TheVariants.{Ready}
use Rattle.rules.specs.Access.{value}
use Rattle.rules.specs.Run.{run}
use Rattle.rules.specs.Samples.{positive, negative}
use Rattle.rules.specs.State.{most, new_handler, receiver, sender}
use Rattle.rules.specs.Tick.{happens_in}
use Rattle.rules.specs.Valid.{valid}
use Rattle.rules.specs.declared.Field.{Field}
use Rattle.rules.specs.declared.Handler.{Handler}
use Rattle.rules.specs.declared.Input.{Input}
use Rattle.rules.specs.declared.Register.TheVariants.{Only, Local}
use Rattle.rules.specs.declared.Single.TheVariants.{PingEnable}
use Rattle.policy.specs.Install.{asks}
use Rattle.policy.specs.Plan.{plan_of, boot}
use Rattle.policy.specs.Sound.{free}
use Rattle.policy.specs.Table.{alert_count}
use Rattle.policy.specs.declared.Installed.{Installed}
use Rattle.policy.specs.declared.Lifecycle.{Lifecycle}
use Rattle.policy.specs.Progress.{Progress}
use Rattle.boot_laws.specs.Ran.{inputs, StoppedAt}
use Rattle.boot_laws.specs.Stands.{Success, Stands, Untouched, Unlocked, NoPingEvent, NoWrongEvent, AtRest, Eventless, Linked}

-- what a success gives: register 0, answer 0 and the state after all ticks of the plan
abbrev pub booted : Lifecycle → Handler → Installed
booted l h = record { handler = run h (inputs (asks (plan_of l))); answer = pos 0; register = 0; spare = replicate 6 0 }

-- "It stops at the first refusal or difference and returns that register number, the answer and the state reached": a boot that begins comes to
-- its end, or stopped at the first answer that is not wanted, with what that tick gave
abbrev pub Either : Lifecycle → Handler → Type 0
Either l h = (boot l h ≡ booted l h) ⊎ ((s : Progress) × StoppedAt h (asks (plan_of l)) s × (boot l h ≡ s.reached))

pub record Boots (l : Lifecycle) (h : Handler) : Type 0 where
  -- "It needs N of at least 58, else 13 and an unchanged state; 7 comes before", each with register 0
  pub bad_state : valid h ≡ false → boot l h ≡ record { handler = h; answer = negsuc 6; register = 0; spare = replicate 6 0 }
  pub few_alerts : valid h ≡ true → h.n < alert_count → boot l h ≡ record { handler = h; answer = negsuc 12; register = 0; spare = replicate 6 0 }
  pub either : valid h ≡ true → alert_count ≤ h.n → Either l h
  -- it comes to its end where no register of the plan is locked or has another stage open, whatever the thresholds
  pub succeeds : valid h ≡ true → alert_count ≤ h.n → free h (plan_of l) ≡ true → boot l h ≡ booted l h
  -- "register 0 on success, .. success answers 0": both only after all ticks of the plan
  pub success : Success l h → (valid h ≡ true) × (alert_count ≤ h.n) × (boot l h ≡ booted l h)
  -- "and after a success each of the 58 alerts is proved to stand as the table says"
  pub stands : Success l h → Stands l (boot l h).handler
  pub eventless : Success l h → NoPingEvent h → NoWrongEvent l h → Eventless h (boot l h).handler
  -- a boot that starts at rest has none, and ends at rest
  pub at_rest : Success l h → AtRest h → NoPingEvent h × NoWrongEvent l h × AtRest (boot l h).handler
  -- and in no other: where local 3 is enabled and a sender waits for a 1 in a tick of the boot, local 3 has occurred after it
  pub wrong :
      Success l h → value h (Local Field.En 3) ≡ 1
      → (i e : ℕ) → i < length (asks (plan_of l)) → e < line_count → (sender (run h (take i (inputs (asks (plan_of l))))) e).sound.answer ≡ true
      → value (boot l h).handler (Local Field.Cause 3) ≡ 1
  pub untouched : Untouched l h (boot l h).handler
  pub unlocked : Unlocked l h (boot l h).handler
  -- "States that calls produce never get it", and "Stored entries at N and above are no registers: .. no call changes them"
  pub keeps_valid : valid h ≡ true → valid (boot l h).handler ≡ true
  pub keeps_above : SameAbove h (boot l h).handler
  -- request (viii): the receivers below N of any boot; after a success all are ready, wherever they stood ..
  pub linked : Linked h (boot l h).handler
  pub ready : Success l h → (i : ℕ) → i < h.n → (receiver (boot l h).handler i).stands ≡ Ready
  -- .. so that a rise in the next tick is an event, unless its ping is open after the boot or opens now
  pub first_rise :
      Success l h → (x : Input) (i : ℕ) → i < h.n → rises (positive x.sample.alerts i) (negative x.sample.alerts i) ≡ true
      → (receiver (boot l h).handler i).pending ≡ false → asks_in (boot l h).handler x i ≡ false → happens_in (boot l h).handler x i ≡ true
  -- request (ix): while register 6 is 0 none is open and none opens
  pub off_rise :
      Success l h → value h (Only PingEnable) ≡ 0 → (x : Input) (i : ℕ) → i < h.n
      → rises (positive x.sample.alerts i) (negative x.sample.alerts i) ≡ true → happens_in (boot l h).handler x i ≡ true

-- "On a new handler so large it always succeeds", and every receiver is then as in a new handler: ready, with no ping open
pub record NewBoots (l : Lifecycle) (n : ℕ) : Type 0 where
  pub new_succeeds : alert_count ≤ n → n ≤ most → boot l (new_handler n) ≡ booted l (new_handler n)
  pub receivers : (i : ℕ) → i < n → n ≤ most → receiver (boot l (new_handler n)).handler i ≡ new_receiver
  -- nothing is on its lines' wires, before the boot and after it: so no event came, and its senders are as new
  pub rests : AtRest (new_handler n)
  pub rests_after : alert_count ≤ n → n ≤ most → AtRest (boot l (new_handler n)).handler
