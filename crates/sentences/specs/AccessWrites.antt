-- "Register map" and step 1: what an access makes of each register, in sentences: raw fields and plain comparisons, and no definition of the rules.
-- Assumes nothing.
use Rattle.std.specs.Prelude.{ℕ, ◌+◌, ◌≤◌, ◌<◌, ◌≡◌, ◌↔◌, ◌⊎◌, ◌≢◌, true, false, get_or}
use Rattle.bits.specs.Bits.{bit}
use Rattle.rules.specs.declared.Access.{Access}
use Rattle.rules.specs.declared.Field.{Field}
use Rattle.rules.specs.declared.Handler.{Handler}
use Rattle.rules.specs.declared.Register.{Register}
use Rattle.rules.specs.declared.Register.TheVariants.{Only, Local, Alert}
use Rattle.rules.specs.declared.Single.TheVariants.{IntrState, IntrTest, PingEnable}
use Rattle.sentences.specs.AccessMap.{Names, Plain, Shadowed}
use Rattle.sentences.specs.AccessRefusals.{Writes, Given5, Given1, Given2, Given4, Given14, Accepted}
use Rattle.sentences.specs.Raw.{alert_list, held, code}

-- an accepted write of v to q that is no first write to a shadowed register: these "now take two equal writes: the first is staged, the second
-- commits". "A staged value acts on nothing": no sentence below reads a stage but through this
pub record Commits (h : Handler) (x : Access) (q : Register) (v : ℕ) : Type 0 where
  pub accepted : Accepted h x
  pub writes : Writes h x q v
  pub second : Shadowed q → code h q ≡ v + 1

-- the access changes what q holds
pub data Changes (h : Handler) (x : Access) : Register → Type 0 where
  takes : (q : Register) (v : ℕ) → Plain q → Commits h x q v → Changes h x q
  local_cause : (j : ℕ) → Commits h x (Local Field.Cause j) 1 → Changes h x (Local Field.Cause j)
  alert_cause : (i : ℕ) → Commits h x (Alert Field.Cause i) 1 → Changes h x (Alert Field.Cause i)
  ping_enable : (v : ℕ) → v ≢ 0 → Commits h x (Only PingEnable) v → Changes h x (Only PingEnable)
  intr_state : (v : ℕ) → Commits h x (Only IntrState) v → Changes h x (Only IntrState)
  intr_test : (v : ℕ) → Commits h x (Only IntrTest) v → Changes h x (Only IntrState)

-- ── the sentences: the state is h before step 1 with the access x, and g after ──

pub record Written (h : Handler) (x : Access) (g : Handler) : Type 0 where
  -- what is written is held: a REGWEN or CLR_REGWEN too, "a written 0 locks"
  pub takes : (q : Register) (v : ℕ) → Plain q → Commits h x q v → held g q ≡ v
  -- "In CAUSE a written 1 clears."
  pub local_cause : (j : ℕ) → Commits h x (Local Field.Cause j) 1 → held g (Local Field.Cause j) ≡ 0
  pub alert_cause : (i : ℕ) → Commits h x (Alert Field.Cause i) 1 → held g (Alert Field.Cause i) ≡ 0
  -- request (ix): "6 (enable, 1 bit; a written 0 does nothing)"
  pub ping_enable : (v : ℕ) → v ≢ 0 → Commits h x (Only PingEnable) v → held g (Only PingEnable) ≡ v
  -- "INTR_STATE, a 1 clears"; "Bit or field for class or line 0 is lowest."
  pub intr_state : (v : ℕ) → Commits h x (Only IntrState) v → (k : ℕ) → k < 4
      → (bit g.interrupts.state k ≡ true) ↔ ((bit h.interrupts.state k ≡ true) × (bit v k ≡ false))
  -- "INTR_TEST, .. a 1 sets INTR_STATE"
  pub intr_test : (v : ℕ) → Commits h x (Only IntrTest) v → (k : ℕ) → k < 4
      → (bit g.interrupts.state k ≡ true) ↔ ((bit h.interrupts.state k ≡ true) ⊎ (bit v k ≡ true))
  -- "INTR_STATE, a 1 clears | 4": its bits
  pub intr_width : (v : ℕ) → Commits h x (Only IntrState) v ⊎ Commits h x (Only IntrTest) v → g.interrupts.state < 16
  -- a reading: every other register stays. So a first write, a 0 to CAUSE or to 6, and a write to CLR change none ("CLR holds no value"), nor does a write
  -- refused with 3 or 12 ("changes nothing")
  pub stays : (r : ℕ) (q : Register) → Names h.n r q → ¬ Changes h x q → held g q ≡ held h q
  -- "Stored entries at N and above are no registers: .. no call changes them."
  pub above : (f : Field) (i : ℕ) → h.n ≤ i → i < 248 → get_or (alert_list g f) i 0 ≡ get_or (alert_list h f) i 0
  -- a reading: N stays, and so do the alerts' receivers, the turn and the open pings, which are step 2's
  pub n : g.n ≡ h.n
  pub links : g.links ≡ h.links
  -- refusals 5, 1, 2 and 4: "access does nothing"; 14 too: "So 3 and 12 are now the refusals that may change something"
  pub after_5 : Given5 h x → g ≡ h
  pub after_1 : Given1 h x → g ≡ h
  pub after_2 : Given2 h x → g ≡ h
  pub after_4 : Given4 h x → g ≡ h
  pub after_14 : Given14 h x → g ≡ h
