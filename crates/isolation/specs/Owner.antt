-- Request (x), for the owner of class k: can another class's tenant slow it? Two runs from one state, which differ in what the tenant does alone.
-- proofs/Undisturbed.antt proves it.
-- Assumes nothing.
use Rattle.std.specs.Prelude.{ℕ, ◌<◌, ◌≡◌, ◌⊎◌, Bool, true, false, not, ◌&&◌, List, eqb}
use Rattle.bits.specs.Index.{any_to}
use Rattle.class_rules.specs.Step.{starts}
use Rattle.escalation.specs.List.{IsTick, before, input_at, given_at, class_read}
use Rattle.laws.specs.Pinging.{asks_in, fails_in}
use Rattle.link_rules.specs.Senders.{line_count}
use Rattle.rules.specs.Access.{acted, named}
use Rattle.rules.specs.Samples.{positive, negative, line_wrong}
use Rattle.rules.specs.State.{local, alert, is_on}
use Rattle.rules.specs.Tick.{signals_in}
use Rattle.rules.specs.declared.Access.{Access}
use Rattle.rules.specs.declared.Field.{Field}
use Rattle.rules.specs.declared.Handler.{Handler}
use Rattle.rules.specs.declared.Input.{Input}
use Rattle.rules.specs.declared.Register.{Register}
use Rattle.rules.specs.declared.Register.TheVariants.{Only, Local, Alert, Block, Unassigned}
use Rattle.rules.specs.declared.Single.TheVariants.{IntrState, IntrEnable, IntrTest, PingRegwen, PingTimeout, PingEnable}
use Rattle.isolation.specs.Isolation.{SameClass, SameInterrupt}
use Rattle.isolation.specs.OwnAccess.{is_own, changes_state, changes_enable}

-- ── the tenant: `his i` says that alert i is his ──

-- what he may name: the interrupt registers, the ping timer's (`pings` below speaks of what comes of it), local alerts, his alerts, the blocks of other
-- classes, and what is no register
abbrev pub may_name : ℕ → (ℕ → Bool) → Register → Bool
may_name k his (Only IntrState) = true
may_name k his (Only IntrEnable) = true
may_name k his (Only IntrTest) = true
may_name k his (Only PingRegwen) = true
may_name k his (Only PingTimeout) = true
may_name k his (Only PingEnable) = true
may_name k his (Local f j) = true
may_name k his (Alert f i) = his i
may_name k his (Block s j) = not (eqb k j)
may_name k his Unassigned = true

-- an access that leaves class k's bits of INTR_STATE and INTR_ENABLE as they are
abbrev pub leaves_bits : ℕ → Handler → Access → Bool
leaves_bits k g a = not (changes_state g a k) && not (changes_enable g a k)

-- his access: it names such a register and leaves those bits
abbrev pub by_tenant : ℕ → (ℕ → Bool) → Handler → Access → Bool
by_tenant k his g a = may_name k his (named g a) && leaves_bits k g a

-- local alert j is enabled and assigned to class k
abbrev pub reaches : ℕ → Handler → ℕ → Bool
reaches k h j = eqb (local h Field.En j) 1 && eqb (local h Field.Class j) k

-- and so is alert i
abbrev pub alert_reaches : ℕ → Handler → ℕ → Bool
alert_reaches k h i = eqb (alert h Field.En i) 1 && eqb (alert h Field.Class i) k

-- request (xi), in the tick of state g and input x: a line's receive pair is wrong; and local 3, which it raises, is enabled and assigned to class k
abbrev pub wrong_in : Handler → Input → Bool
wrong_in g x = any_to (line_wrong (acted g x.access) x.sample) line_count

abbrev pub wrong_for : ℕ → Handler → Input → Bool
wrong_for k g x = wrong_in g x && reaches k (acted g x.access) 3

-- in the tick of state g and input x, as step 2 reads them: each of his alerts, local 2 and local 5 are disabled or assigned to another class
pub record Apart (k : ℕ) (his : ℕ → Bool) (g : Handler) (x : Input) : Type 0 where
  pub alerts : (i : ℕ) → i < g.n → his i ≡ true → alert_reaches k (acted g x.access) i ≡ false
  pub local_2 : reaches k (acted g x.access) 2 ≡ false
  pub local_5 : reaches k (acted g x.access) 5 ≡ false
  -- request (ix): register 6 is 0 before the tick, or local 0 and local 1, which a ping that fails raises, are disabled or assigned to another class too
  pub failing : (is_on g ≡ false) ⊎ ((reaches k (acted g x.access) 0 ≡ false) × (reaches k (acted g x.access) 1 ≡ false))

-- two ticks that are equal but for his accesses, his alerts' wires, the entropy word and what comes back from the lines. The ping timer is shared: his answer ends a
-- turn, so that another's alert is pinged in another tick, and a rise of it is then an answer and no event (requests (viii) and (ix)). So register 6 is 0
-- before both ticks, or the pings of alerts that are not his open in both or in neither, and fail so
pub record ButTenant (k : ℕ) (his : ℕ → Bool) (g : Handler) (x : Input) (f : Handler) (y : Input) : Type 0 where
  pub access : (x.access ≡ y.access) ⊎ ((by_tenant k his g x.access ≡ true) × (by_tenant k his f y.access ≡ true))
  pub pos : (i : ℕ) → i < g.n → his i ≡ false → positive x.sample.alerts i ≡ positive y.sample.alerts i
  pub neg : (i : ℕ) → i < g.n → his i ≡ false → negative x.sample.alerts i ≡ negative y.sample.alerts i
  pub pings :
      ((is_on g ≡ false) × (is_on f ≡ false))
      ⊎ ((i : ℕ) → i < g.n → his i ≡ false → (asks_in g x i ≡ asks_in f y i) × (fails_in g x i ≡ fails_in f y i))
  -- request (xi): the lines are shared too, and what is right on a receive pair goes by what was sent on the line, by the tenant's class too. So a pair is
  -- wrong for class k in both ticks or in neither: equal receive pairs do if what was sent is equal, and any do if no pair is wrong or local 3 is elsewhere
  pub wrong : wrong_for k g x ≡ wrong_for k f y
  pub apart : Apart k his g x × Apart k his f y

-- so are all ticks of the runs with inputs xs and ys from the state h
abbrev pub OnlyTenant : ℕ → (ℕ → Bool) → ℕ → Handler → List Input → List Input → Type 0
OnlyTenant k his first h xs ys =
    (t : ℕ) → IsTick first xs t → ButTenant k his (before first h xs t) (input_at first xs t) (before first h ys t) (input_at first ys t)

-- ── then the owner's class is the same in every tick of both runs ──

-- its escalation starts in the tick of state g and input x
abbrev pub starts_in : ℕ → Handler → Input → Bool
starts_in k g x = starts (signals_in g x k) (class_read g x k)

pub record Undisturbed (k first : ℕ) (h : Handler) (xs ys : List Input) : Type 0 where
  -- class k's escalation starts in the same tick
  pub start : (t : ℕ) → IsTick first xs t → starts_in k (before first h xs t) (input_at first xs t) ≡ starts_in k (before first h ys t) (input_at first ys t)
  -- and takes as long: its STATE and ESC_CNT, with all else that is its own, are equal in every tick
  pub class : (t : ℕ) → IsTick first xs t → SameClass k (given_at first h xs t) (given_at first h ys t)
  pub interrupt : (t : ℕ) → IsTick first xs t → SameInterrupt k (given_at first h xs t) (given_at first h ys t)
  pub answer :
      (t : ℕ) → IsTick first xs t → is_own (before first h xs t) (input_at first xs t).access k ≡ true
      → (given_at first h xs t).answer ≡ (given_at first h ys t).answer
