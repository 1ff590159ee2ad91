-- The owner's corollary once more, taken from the theorem over every class, tenant, state and list: what the tenant leaves alone, in raw registers and
-- bits, and what is then equal. A corollary that says less, or asks the tenant or the station for more, does not give it.
-- Assumes nothing.
use Prim.Native.Nat.{ℕ, ◌+◌, ◌≤◌, ◌<◌}
use mathlib.Core.Path.{◌≡◌, refl, sym, ap, ap₂, ◌∙◌}
use mathlib.Core.Logic.{◌⊎◌, inl, inr}
use mathlib.Core.Bool.{Bool, true, false, and-false, not, ◌&&◌, ◌||◌, xor}
use mathlib.Core.List.{List}
use borrow.Author.Tests.{eqb-true, ne_eqb}
use lib.Dec.{eqb}
use lib.ListN.{length}
use Rattle.bits.proofs.IndexLaws.{any_none, any_ext}
use Rattle.bits.specs.Bits.{bit}
use Rattle.class_rules.specs.Class.{drives}
use Rattle.class_rules.specs.Step.{starts}
use Rattle.escalation.specs.List.{IsTick, before, input_at, given_at, class_read}
use Rattle.laws.proofs.Map.Cases.{by_kind, by_single}
use Rattle.laws.proofs.Samples.Receivers.{acted_links}
use Rattle.laws.specs.Block.{of_block}
use Rattle.laws.specs.Pinging.{asks_in, fails_in}
use Rattle.link_rules.specs.Pair.{equal, differ}
use Rattle.rules.specs.Access.{value, named, acted}
use Rattle.rules.specs.Samples.{positive, negative, checks, receive_positive, receive_negative, line_wrong}
use Rattle.rules.specs.Stages.{stage}
use Rattle.rules.specs.State.{local, alert, class_at, is_on}
use Rattle.rules.specs.Tick.{signals_in}
use Rattle.rules.specs.Valid.{valid}
use Rattle.rules.specs.declared.Access.{Access}
use Rattle.rules.specs.declared.Field.{Field}
use Rattle.rules.specs.declared.Handler.{Handler}
use Rattle.rules.specs.declared.Input.{Input}
use Rattle.rules.specs.declared.Links.{Links}
use Rattle.rules.specs.declared.Receive.{Receive}
use Rattle.rules.specs.declared.Receive.TheVariants.{Pairs, Answers}
use Rattle.rules.specs.declared.Register.{Register}
use Rattle.rules.specs.declared.Register.TheVariants.{Only, Alert, Block}
use Rattle.rules.specs.declared.Setting.{Setting}
use Rattle.isolation.specs.Owner.{may_name, by_tenant, reaches, wrong_in, wrong_for, Apart, ButTenant, OnlyTenant, Undisturbed}
use Rattle.isolation.proofs.Undisturbed.{undisturbed}
use Rattle.isolation.proofs.WholeIsolation.{shown, shown_same}

-- ── the tenant's access a to the state g: it names no register of block k, of alerts only his own, and leaves class k's interrupt bits ──

record Tenant (k : ℕ) (his : ℕ → Bool) (g : Handler) (a : Access) : Type 0 where
  pub block : (s : Setting) → named g a ≡ Block s k → ⊥
  pub alerts : (d : Field) (i : ℕ) → named g a ≡ Alert d i → his i ≡ true
  pub state : bit g.interrupts.state k ≡ bit (acted g a).interrupts.state k
  pub enable : bit g.interrupts.enable k ≡ bit (acted g a).interrupts.enable k

may : (k : ℕ) (his : ℕ → Bool) (q : Register) → ((s : Setting) → q ≡ Block s k → ⊥) → ((d : Field) (i : ℕ) → q ≡ Alert d i → his i ≡ true)
    → may_name k his q ≡ true
may k his q =
    by_kind (λ q. ((s : Setting) → q ≡ Block s k → ⊥) → ((d : Field) (i : ℕ) → q ≡ Alert d i → his i ≡ true) → may_name k his q ≡ true)
    (λ o b a. by_single (λ o. may_name k his (Only o) ≡ true) refl refl refl refl refl refl o) (λ d j b a. refl) (λ d i b a. a d i refl)
    (λ s j b a. ap not (ne_eqb k j (λ e. b s (ap (Block s) (sym e))))) (λ b a. refl) q

pub same_bit : (p q : Bool) → p ≡ q → not (xor p q) ≡ true
unfolding xor
same_bit true true e = refl
same_bit true false e = sym e
same_bit false true e = e
same_bit false false e = refl

by_tenant_law : (k : ℕ) (his : ℕ → Bool) (g : Handler) (a : Access) → Tenant k his g a → by_tenant k his g a ≡ true
by_tenant_law k his g a t =
    ap₂ ◌&&◌ (may k his (named g a) t.block t.alerts) (ap₂ ◌&&◌ (same_bit _ _ t.state) (same_bit _ _ t.enable))

-- ── the station, as step 2 of a tick reads it: his alerts are not in class k; local 2 and local 5, where enabled, are not either ──

record Station (k : ℕ) (his : ℕ → Bool) (g : Handler) (x : Input) : Type 0 where
  pub alerts : (i : ℕ) → i < g.n → his i ≡ true → alert (acted g x.access) Field.En i ≡ 1 → alert (acted g x.access) Field.Class i ≡ k → ⊥
  pub local_2 : local (acted g x.access) Field.En 2 ≡ 1 → local (acted g x.access) Field.Class 2 ≡ k → ⊥
  pub local_5 : local (acted g x.access) Field.En 5 ≡ 1 → local (acted g x.access) Field.Class 5 ≡ k → ⊥
  -- register 6 is 0, or local 0 and local 1, where enabled, are not in it either
  pub failing :
      (g.timer.enable ≡ 0)
      ⊎ ((local (acted g x.access) Field.En 0 ≡ 1 → local (acted g x.access) Field.Class 0 ≡ k → ⊥)
      × (local (acted g x.access) Field.En 1 ≡ 1 → local (acted g x.access) Field.Class 1 ≡ k → ⊥))

off : (g : Handler) → g.timer.enable ≡ 0 → is_on g ≡ false
off g e = ap (λ (v : ℕ). eqb v 1) e

neither : (en class k : ℕ) → (en ≡ 1 → class ≡ k → ⊥) → (eqb en 1 && eqb class k) ≡ false
neither en class k e = go (eqb en 1) refl
  where
    go : (b : Bool) → eqb en 1 ≡ b → (b && eqb class k) ≡ false
    go true c = ne_eqb class k (e (eqb-true en 1 c))
    go false c = refl

apart : (k : ℕ) (his : ℕ → Bool) (g : Handler) (x : Input) → Station k his g x → Apart k his g x
apart k his g x s =
    record {
      alerts = λ i l e. neither (alert (acted g x.access) Field.En i) (alert (acted g x.access) Field.Class i) k (s.alerts i l e);
      local_2 = neither (local (acted g x.access) Field.En 2) (local (acted g x.access) Field.Class 2) k s.local_2;
      local_5 = neither (local (acted g x.access) Field.En 5) (local (acted g x.access) Field.Class 5) k s.local_5;
      failing = go s.failing;
    }
  where
    go : (g.timer.enable ≡ 0)
        ⊎ ((local (acted g x.access) Field.En 0 ≡ 1 → local (acted g x.access) Field.Class 0 ≡ k → ⊥)
        × (local (acted g x.access) Field.En 1 ≡ 1 → local (acted g x.access) Field.Class 1 ≡ k → ⊥))
        → (is_on g ≡ false) ⊎ ((reaches k (acted g x.access) 0 ≡ false) × (reaches k (acted g x.access) 1 ≡ false))
    go (inl o) = inl (off g o)
    go (inr e) = inr (
      neither (local (acted g x.access) Field.En 0) (local (acted g x.access) Field.Class 0) k e.0,
      neither (local (acted g x.access) Field.En 1) (local (acted g x.access) Field.Class 1) k e.1,
    )

-- ── what comes back from the lines ──

-- it is right: wires that differ, the positive one as what was sent asks for; an older record says nothing of it
abbrev Right : Handler → Receive → Type 0
Right g (Pairs p m) = (e : ℕ) → e < 4 → (bit p e ≡ bit g.links.senders.answer e) × (bit m e ≡ not (bit g.links.senders.answer e))
Right g (Answers a) = Unit {0}

-- no receive pair is wrong; or local 3, where enabled, is not in class k
abbrev Unharmed : ℕ → Handler → Input → Type 0
Unharmed k g x =
    Right g x.sample.receive
    ⊎ (local (acted g x.access) Field.En 3 ≡ 1 → local (acted g x.access) Field.Class 3 ≡ k → ⊥)

-- the same comes back in both ticks, the same is right, and local 3 has the same registers
record SameBack (g : Handler) (x : Input) (f : Handler) (y : Input) : Type 0 where
  pub receive : x.sample.receive ≡ y.sample.receive
  pub answers : (e : ℕ) → e < 4 → bit g.links.senders.answer e ≡ bit f.links.senders.answer e
  pub en : local (acted g x.access) Field.En 3 ≡ local (acted f y.access) Field.En 3
  pub class : local (acted g x.access) Field.Class 3 ≡ local (acted f y.access) Field.Class 3

is_right : (a p m : Bool) → p ≡ a → m ≡ not a → (equal p m || differ p a) ≡ false
is_right true p m e f = rw (e, f) refl
is_right false p m e f = rw (e, f) refl

-- the sender after step 1 is the one before it
acted_answer : (g : Handler) (a : Access) (e : ℕ) → bit (acted g a).links.senders.answer e ≡ bit g.links.senders.answer e
acted_answer g a e = ap (λ (z : Links). bit z.senders.answer e) (acted_links g a)

right_line : (g : Handler) (x : Input) (r : Receive) → x.sample.receive ≡ r → Right g r → (e : ℕ) → e < 4 → line_wrong (acted g x.access) x.sample e ≡ false
unfolding line_wrong
right_line g x (Pairs p m) c r e l =
    rw c
    (is_right (bit (acted g x.access).links.senders.answer e) (bit p e) (bit m e) ((r e l).0 ∙ sym (acted_answer g x.access e))
    ((r e l).1 ∙ ap not (sym (acted_answer g x.access e))))
right_line g x (Answers a) c r e l = rw c refl

unharmed : (k : ℕ) (g : Handler) (x : Input) → Unharmed k g x → wrong_for k g x ≡ false
unharmed k g x (inl r) =
    ap (λ (b : Bool). b && reaches k (acted g x.access) 3)
    (any_none (line_wrong (acted g x.access) x.sample) 4 (right_line g x x.sample.receive refl r))
unharmed k g x (inr e) =
    ap (λ (b : Bool). wrong_in g x && b) (neither (local (acted g x.access) Field.En 3) (local (acted g x.access) Field.Class 3) k e)
    ∙ and-false (wrong_in g x)

same_line : (g : Handler) (x : Input) (f : Handler) (y : Input) → SameBack g x f y → (e : ℕ) → e < 4
    → line_wrong (acted g x.access) x.sample e ≡ line_wrong (acted f y.access) y.sample e
unfolding line_wrong
same_line g x f y b e l =
    ap₂ (λ (r : Receive) (a : Bool). checks r && (equal (receive_positive r e) (receive_negative r e) || differ (receive_positive r e) a)) b.receive
    (acted_answer g x.access e ∙ b.answers e l ∙ sym (acted_answer f y.access e))

same_back : (k : ℕ) (g : Handler) (x : Input) (f : Handler) (y : Input) → SameBack g x f y → wrong_for k g x ≡ wrong_for k f y
same_back k g x f y b =
    ap₂ ◌&&◌ (any_ext (line_wrong (acted g x.access) x.sample) (line_wrong (acted f y.access) y.sample) 4 (same_line g x f y b))
    (ap₂ (λ (n c : ℕ). eqb n 1 && eqb c k) b.en b.class)

-- ── two ticks that are equal but for what the tenant does ──

record Differ (k : ℕ) (his : ℕ → Bool) (g : Handler) (x : Input) (f : Handler) (y : Input) : Type 0 where
  pub access : (x.access ≡ y.access) ⊎ (Tenant k his g x.access × Tenant k his f y.access)
  pub pos : (i : ℕ) → i < g.n → his i ≡ false → positive x.sample.alerts i ≡ positive y.sample.alerts i
  pub neg : (i : ℕ) → i < g.n → his i ≡ false → negative x.sample.alerts i ≡ negative y.sample.alerts i
  -- register 6 is 0 before both, or the pings of the others' alerts open and fail in both or in neither
  pub pings :
      ((g.timer.enable ≡ 0) × (f.timer.enable ≡ 0))
      ⊎ ((i : ℕ) → i < g.n → his i ≡ false → (asks_in g x i ≡ asks_in f y i) × (fails_in g x i ≡ fails_in f y i))
  -- what comes back from the lines does no harm to class k in either, or the same in both
  pub back : (Unharmed k g x × Unharmed k f y) ⊎ SameBack g x f y
  pub stations : Station k his g x × Station k his f y

but_tenant : (k : ℕ) (his : ℕ → Bool) (g : Handler) (x : Input) (f : Handler) (y : Input) → Differ k his g x f y → ButTenant k his g x f y
but_tenant k his g x f y d =
    record {
      access = go d.access;
      pos = d.pos;
      neg = d.neg;
      pings = ping d.pings;
      wrong = back d.back;
      apart = (apart k his g x d.stations.0, apart k his f y d.stations.1);
    }
  where
    go : (x.access ≡ y.access) ⊎ (Tenant k his g x.access × Tenant k his f y.access)
        → (x.access ≡ y.access) ⊎ ((by_tenant k his g x.access ≡ true) × (by_tenant k his f y.access ≡ true))
    go (inl e) = inl e
    go (inr t) = inr (by_tenant_law k his g x.access t.0, by_tenant_law k his f y.access t.1)

    ping : ((g.timer.enable ≡ 0) × (f.timer.enable ≡ 0))
        ⊎ ((i : ℕ) → i < g.n → his i ≡ false → (asks_in g x i ≡ asks_in f y i) × (fails_in g x i ≡ fails_in f y i))
        → ((is_on g ≡ false) × (is_on f ≡ false))
        ⊎ ((i : ℕ) → i < g.n → his i ≡ false → (asks_in g x i ≡ asks_in f y i) × (fails_in g x i ≡ fails_in f y i))
    ping (inl o) = inl (off g o.0, off f o.1)
    ping (inr p) = inr p

    back : (Unharmed k g x × Unharmed k f y) ⊎ SameBack g x f y → wrong_for k g x ≡ wrong_for k f y
    back (inl u) = unharmed k g x u.0 ∙ sym (unharmed k f y u.1)
    back (inr b) = same_back k g x f y b

-- ── then the owner's class starts in the same ticks, and shows and answers the same in each ──

module _ (k : ℕ) (his : ℕ → Bool) (first : ℕ) (h : Handler) (xs ys : List Input) (l : k < 4) (v : valid h ≡ true) (n : length xs ≡ length ys)
    (d : (t : ℕ) → IsTick first xs t → Differ k his (before first h xs t) (input_at first xs t) (before first h ys t) (input_at first ys t)) where
  only : OnlyTenant k his first h xs ys
  only t m = but_tenant k his (before first h xs t) (input_at first xs t) (before first h ys t) (input_at first ys t) (d t m)

  claim : Undisturbed k first h xs ys
  claim = undisturbed k his first h xs ys l v n only

  module _ (t : ℕ) (from : first ≤ t) (to : t < first + length xs) where
    m : IsTick first xs t
    m = record { from = from; to = to }

    starts_alike : starts (signals_in (before first h xs t) (input_at first xs t) k) (class_read (before first h xs t) (input_at first xs t) k)
        ≡ starts (signals_in (before first h ys t) (input_at first ys t) k) (class_read (before first h ys t) (input_at first ys t) k)
    starts_alike = claim.start t m

    shows_alike : shown k (given_at first h xs t) ≡ shown k (given_at first h ys t)
    shows_alike = shown_same k (given_at first h xs t) (given_at first h ys t) (claim.class t m)

    registers_alike : (s : Setting)
        → (value (given_at first h xs t).handler (Block s k) ≡ value (given_at first h ys t).handler (Block s k))
        × (stage (given_at first h xs t).handler (Block s k) ≡ stage (given_at first h ys t).handler (Block s k))
    registers_alike s = ((claim.class t m).registers s, (claim.class t m).staged s)

    lines_alike : (e : ℕ) → drives (class_at (given_at first h xs t).handler k) e ≡ drives (class_at (given_at first h ys t).handler k) e
    lines_alike = (claim.class t m).lines

    interrupts_alike : (bit (given_at first h xs t).output.interrupts k ≡ bit (given_at first h ys t).output.interrupts k)
        × (bit (given_at first h xs t).handler.interrupts.enable k ≡ bit (given_at first h ys t).handler.interrupts.enable k)
    interrupts_alike = ((claim.interrupt t m).interrupt, (claim.interrupt t m).enable_bit)

    answers_alike : of_block k (named (before first h xs t) (input_at first xs t).access) ≡ true
        → (given_at first h xs t).answer ≡ (given_at first h ys t).answer
    answers_alike = claim.answer t m
