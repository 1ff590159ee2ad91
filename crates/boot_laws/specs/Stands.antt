-- Request (vi), "Boot policy": what a success is, how the handler then stands, and what is as before.
-- Assumes nothing.
use Rattle.std.specs.Prelude.{ℕ, ◌≤◌, ◌<◌, ◌≡◌, Bool, true, false, ◌&&◌, ◌⊎◌, eqb, pos, length, take}
use Rattle.class_rules.specs.Class.{en, lock, state_of}
use Rattle.class_rules.specs.declared.ClassState.TheVariants.{Idle}
use Rattle.link_rules.specs.Sender.{new_sender}
use Rattle.link_rules.specs.Senders.{line_count}
use Rattle.link_rules.specs.declared.Handshake.TheVariants.{Ready}
use Rattle.laws.specs.Frame.{moves_itself}
use Rattle.laws.specs.InMap.{in_map}
use Rattle.laws.specs.Quiet.{runs}
use Rattle.rules.specs.Access.{value}
use Rattle.rules.specs.Map.{field_row}
use Rattle.rules.specs.Run.{run}
use Rattle.rules.specs.Stages.{stage}
use Rattle.rules.specs.State.{local_count, class_count, class_at, receiver, sender}
use Rattle.rules.specs.declared.Field.{Field}
use Rattle.rules.specs.declared.Handler.{Handler}
use Rattle.rules.specs.declared.Register.{Register}
use Rattle.rules.specs.declared.Register.TheVariants.{Only, Local, Alert, Block}
use Rattle.rules.specs.declared.Setting.{Setting}
use Rattle.rules.specs.declared.Setting.TheVariants.{Ctrl, AccumCnt, AccumThresh, TimeoutCyc, PhaseCyc}
use Rattle.rules.specs.declared.Single.TheVariants.{IntrState, IntrEnable, PingEnable}
use Rattle.policy.specs.Plan.{class_of, en_of, is_a, locks, ctrl_of, length_of, plan_of, boot}
use Rattle.policy.specs.Install.{Entry, asks}
use Rattle.boot_laws.specs.Ran.{inputs, Among}
use Rattle.policy.specs.Sound.{unnamed}
use Rattle.policy.specs.Table.{alert_count, mark_at}
use Rattle.policy.specs.declared.Lifecycle.{Lifecycle}

-- "register 0 on success, .. success answers 0"
pub record Success (l : Lifecycle) (h : Handler) : Type 0 where
  pub register : (boot l h).register ≡ 0
  pub answer : (boot l h).answer ≡ pos 0

-- each of the 58 alerts as the table says, each class with its settings, and locked what the lifecycle locks
pub record Stands (l : Lifecycle) (g : Handler) : Type 0 where
  pub class : (i : ℕ) → i < alert_count → value g (Alert Field.Class i) ≡ class_of (mark_at l i)
  pub enable : (i : ℕ) → i < alert_count → value g (Alert Field.En i) ≡ en_of (mark_at l i)
  pub alert_locks : (i : ℕ) → i < alert_count → locks l ≡ true → is_a (mark_at l i) ≡ true → value g (Alert Field.Regwen i) ≡ 0
  pub thresh : (k : ℕ) → k < class_count → value g (Block AccumThresh k) ≡ 0
  pub timeout : (k : ℕ) → k < class_count → value g (Block TimeoutCyc k) ≡ 0
  pub lengths : (k p : ℕ) → k < class_count → p < 4 → value g (Block (PhaseCyc p) k) ≡ length_of k p
  pub ctrl : (k : ℕ) → k < class_count → value g (Block Ctrl k) ≡ ctrl_of l k
  -- class A is locked with EN and LOCK
  pub class_locks : locks l ≡ true → (value g (Block Setting.Regwen 0) ≡ 0) × (en (class_at g 0) ≡ true) × (lock (class_at g 0) ≡ true)
  -- and no stage is open at a register that the plan names
  pub unstaged : (e : Entry) → Among e (plan_of l) → stage g e.register ≡ 0

-- what no boot moves, wherever it stops: what its plan does not name and steps 2 to 4 of a tick leave, and every stage but the plan's
pub record Untouched (l : Lifecycle) (h g : Handler) : Type 0 where
  pub n : g.n ≡ h.n
  pub values : (o : Register) → in_map h.n o ≡ true → unnamed o (plan_of l) ≡ true → moves_itself o ≡ false → value g o ≡ value h o
  pub stages : (o : Register) → in_map h.n o ≡ true → unnamed o (plan_of l) ≡ true → stage g o ≡ stage h o
  pub enables : value g (Only IntrEnable) ≡ value h (Only IntrEnable)
  -- so "local alerts and alerts from 58 up are not written"; a CAUSE is an event's to set
  pub locals : (f : Field) (j : ℕ) → j < local_count → (field_row f).moves ≡ false → value g (Local f j) ≡ value h (Local f j)
  pub local_stages_law : (f : Field) (j : ℕ) → j < local_count → stage g (Local f j) ≡ stage h (Local f j)
  pub others : (f : Field) (i : ℕ) → alert_count ≤ i → i < h.n → (field_row f).moves ≡ false → value g (Alert f i) ≡ value h (Alert f i)
  pub other_stages : (f : Field) (i : ℕ) → alert_count ≤ i → i < h.n → stage g (Alert f i) ≡ stage h (Alert f i)
  -- all wires are at (0,1), so no alert has an event, whatever the ping timer does
  pub causes : (i : ℕ) → i < h.n → value g (Alert Field.Cause i) ≡ value h (Alert Field.Cause i)

-- the boot locks alert i, and class k
abbrev pub locks_alert : Lifecycle → ℕ → Bool
locks_alert l i = locks l && is_a (mark_at l i)

abbrev pub locks_class : Lifecycle → ℕ → Bool
locks_class l k = locks l && eqb k 0

-- "its REGWEN and those of alerts marked A, never X, are locked, only in PROD and PROD_END": every other lock is as before, wherever the boot stops
pub record Unlocked (l : Lifecycle) (h g : Handler) : Type 0 where
  pub alerts : (i : ℕ) → i < alert_count → i < h.n → locks_alert l i ≡ false → value g (Alert Field.Regwen i) ≡ value h (Alert Field.Regwen i)
  -- classes B, C and D always, and class A where the lifecycle does not lock it
  pub classes : (k : ℕ) → k < class_count → locks_class l k ≡ false → value g (Block Setting.Regwen k) ≡ value h (Block Setting.Regwen k)

-- request (ix): a ping that fails in a boot makes no local alert occur: register 6 is 0, or local 0 and local 1 are disabled
abbrev pub NoPingEvent : Handler → Type 0
NoPingEvent h = (value h (Only PingEnable) ≡ 0) ⊎ ((value h (Local Field.En 0) ≡ 0) × (value h (Local Field.En 1) ≡ 0))

-- request (xi): no line's sender waits for an answer of 1. The installer hands in (0,1), so that local 3 occurs in its tick where one does: while a line is
-- on, in the tick after, and while a ping is being answered
abbrev pub Unasked : Handler → Type 0
Unasked h = (e : ℕ) → e < line_count → (sender h e).sound.answer ≡ false

-- what the installer hands in makes no local alert occur: local 3 is disabled, or no sender waits for a 1 in any tick of the boot
abbrev pub NoWrongEvent : Lifecycle → Handler → Type 0
NoWrongEvent l h =
    (value h (Local Field.En 3) ≡ 0)
    ⊎ ((i : ℕ) → i < length (asks (plan_of l)) → Unasked (run h (take i (inputs (asks (plan_of l))))))

-- so it is where nothing is on the wires and nothing comes: register 6 is 0, no interrupt bit is set, every class is Idle and every sender is as new
pub record AtRest (h : Handler) : Type 0 where
  pub off : value h (Only PingEnable) ≡ 0
  pub interrupts : value h (Only IntrState) ≡ 0
  pub classes : (k : ℕ) → k < class_count → state_of (class_at h k).state ≡ Idle
  pub senders : (e : ℕ) → e < line_count → sender h e ≡ new_sender

-- what moves only with an event: after a success none came, so INTR_STATE, every CAUSE and every ACCUM_CNT is as before. STATE, ESC_CNT and
-- CLR_REGWEN are the run's: a class in Timeout or a phase moves without an event
pub record Eventless (h g : Handler) : Type 0 where
  pub values : (o : Register) → in_map h.n o ≡ true → moves_itself o ≡ true → runs o ≡ false → value g o ≡ value h o
  pub interrupts : value g (Only IntrState) ≡ value h (Only IntrState)
  pub local_causes : (j : ℕ) → j < local_count → value g (Local Field.Cause j) ≡ value h (Local Field.Cause j)
  pub causes : (i : ℕ) → i < h.n → value g (Alert Field.Cause i) ≡ value h (Alert Field.Cause i)
  pub counts : (k : ℕ) → k < class_count → value g (Block AccumCnt k) ≡ value h (Block AccumCnt k)

-- request (viii): a boot has all wires at (0,1), so that a receiver that is ready stays ready, wherever the boot stops. Request (ix): no plan sets register
-- 6, and while it is 0 no ping pair changes its level and no ping opens
pub record Linked (h g : Handler) : Type 0 where
  pub levels : value h (Only PingEnable) ≡ 0 → (i : ℕ) → i < h.n → (receiver g i).level ≡ (receiver h i).level
  pub pings : value h (Only PingEnable) ≡ 0 → (i : ℕ) → i < h.n → (receiver g i).pending ≡ (receiver h i).pending
  pub stays_ready : (i : ℕ) → i < h.n → (receiver h i).stands ≡ Ready → (receiver g i).stands ≡ Ready
