-- The ways, locks and shadows of the sentences and the columns of the rules.
-- Assumes nothing.
use mathlib.Core.Path.{◌≡◌, refl}
use mathlib.Core.Logic.{◌↔◌}
use mathlib.Core.Bool.{true}
use borrow.Author.Tests.{eqb-true, eq-eqb}
use Rattle.laws.proofs.Map.Cases.{never}
use Rattle.rules.specs.Access.{value, locked}
use Rattle.rules.specs.Map.{read_only, write_only, guard, is_lock, is_shadowed}
use Rattle.rules.specs.declared.Field.{Field}
use Rattle.rules.specs.declared.Handler.{Handler}
use Rattle.rules.specs.declared.Register.{Register}
use Rattle.rules.specs.declared.Register.TheVariants.{Only, Local, Alert, Block, Unassigned}
use Rattle.rules.specs.declared.Setting.{Setting}
use Rattle.rules.specs.declared.Setting.TheVariants.{Ctrl, ClrRegwen, Clr, AccumCnt, AccumThresh, TimeoutCyc, PhaseCyc, EscCnt}
use Rattle.rules.specs.declared.Single.TheVariants.{IntrState, IntrEnable, IntrTest, PingRegwen, PingTimeout, PingEnable}
use Rattle.sentences.specs.AccessMap.{WriteOnly, ReadOnly, Regwen, Shut, Shadowed}

pub write_only_is : (q : Register) → (write_only q ≡ true) ↔ WriteOnly q
unfolding write_only
write_only_is q = (to q, from q)
  where
    to : (q : Register) → write_only q ≡ true → WriteOnly q
    to (Only IntrState) = never
    to (Only IntrEnable) = never
    to (Only IntrTest) = (λ e. WriteOnly.intr_test)
    to (Only PingRegwen) = never
    to (Only PingTimeout) = never
    to (Only PingEnable) = never
    to (Local Field.Regwen j) = never
    to (Local Field.En j) = never
    to (Local Field.Class j) = never
    to (Local Field.Cause j) = never
    to (Alert Field.Regwen i) = never
    to (Alert Field.En i) = never
    to (Alert Field.Class i) = never
    to (Alert Field.Cause i) = never
    to (Block Setting.Regwen k) = never
    to (Block Ctrl k) = never
    to (Block ClrRegwen k) = never
    to (Block Clr k) = (λ e. WriteOnly.clr k)
    to (Block AccumCnt k) = never
    to (Block AccumThresh k) = never
    to (Block TimeoutCyc k) = never
    to (Block (PhaseCyc p) k) = never
    to (Block EscCnt k) = never
    to (Block Setting.State k) = never
    to Unassigned = never

    from : (q : Register) → WriteOnly q → write_only q ≡ true
    from q WriteOnly.intr_test = refl
    from q (WriteOnly.clr k) = refl

pub read_only_is : (q : Register) → (read_only q ≡ true) ↔ ReadOnly q
unfolding read_only
read_only_is q = (to q, from q)
  where
    to : (q : Register) → read_only q ≡ true → ReadOnly q
    to (Only IntrState) = never
    to (Only IntrEnable) = never
    to (Only IntrTest) = never
    to (Only PingRegwen) = never
    to (Only PingTimeout) = never
    to (Only PingEnable) = never
    to (Local Field.Regwen j) = never
    to (Local Field.En j) = never
    to (Local Field.Class j) = never
    to (Local Field.Cause j) = never
    to (Alert Field.Regwen i) = never
    to (Alert Field.En i) = never
    to (Alert Field.Class i) = never
    to (Alert Field.Cause i) = never
    to (Block Setting.Regwen k) = never
    to (Block Ctrl k) = never
    to (Block ClrRegwen k) = never
    to (Block Clr k) = never
    to (Block AccumCnt k) = (λ e. ReadOnly.accum_cnt k)
    to (Block AccumThresh k) = never
    to (Block TimeoutCyc k) = never
    to (Block (PhaseCyc p) k) = never
    to (Block EscCnt k) = (λ e. ReadOnly.esc_cnt k)
    to (Block Setting.State k) = (λ e. ReadOnly.state k)
    to Unassigned = never

    from : (q : Register) → ReadOnly q → read_only q ≡ true
    from q (ReadOnly.accum_cnt k) = refl
    from q (ReadOnly.esc_cnt k) = refl
    from q (ReadOnly.state k) = refl

pub regwen_is : (q : Register) → (is_lock q ≡ true) ↔ Regwen q
unfolding is_lock
regwen_is q = (to q, from q)
  where
    to : (q : Register) → is_lock q ≡ true → Regwen q
    to (Only IntrState) = never
    to (Only IntrEnable) = never
    to (Only IntrTest) = never
    to (Only PingRegwen) = (λ e. Regwen.timer)
    to (Only PingTimeout) = never
    to (Only PingEnable) = never
    to (Local Field.Regwen j) = (λ e. Regwen.local j)
    to (Local Field.En j) = never
    to (Local Field.Class j) = never
    to (Local Field.Cause j) = never
    to (Alert Field.Regwen i) = (λ e. Regwen.alert i)
    to (Alert Field.En i) = never
    to (Alert Field.Class i) = never
    to (Alert Field.Cause i) = never
    to (Block Setting.Regwen k) = (λ e. Regwen.class k)
    to (Block Ctrl k) = never
    to (Block ClrRegwen k) = (λ e. Regwen.clr k)
    to (Block Clr k) = never
    to (Block AccumCnt k) = never
    to (Block AccumThresh k) = never
    to (Block TimeoutCyc k) = never
    to (Block (PhaseCyc p) k) = never
    to (Block EscCnt k) = never
    to (Block Setting.State k) = never
    to Unassigned = never

    from : (q : Register) → Regwen q → is_lock q ≡ true
    from q Regwen.timer = refl
    from q (Regwen.local j) = refl
    from q (Regwen.alert i) = refl
    from q (Regwen.class k) = refl
    from q (Regwen.clr k) = refl

pub shadowed_is : (q : Register) → (is_shadowed q ≡ true) ↔ Shadowed q
unfolding is_shadowed
shadowed_is q = (to q, from q)
  where
    to : (q : Register) → is_shadowed q ≡ true → Shadowed q
    to (Only IntrState) = never
    to (Only IntrEnable) = never
    to (Only IntrTest) = never
    to (Only PingRegwen) = never
    to (Only PingTimeout) = (λ e. Shadowed.ping_timeout)
    to (Only PingEnable) = never
    to (Local Field.Regwen j) = never
    to (Local Field.En j) = (λ e. Shadowed.local_en j)
    to (Local Field.Class j) = (λ e. Shadowed.local_class j)
    to (Local Field.Cause j) = never
    to (Alert Field.Regwen i) = never
    to (Alert Field.En i) = (λ e. Shadowed.alert_en i)
    to (Alert Field.Class i) = (λ e. Shadowed.alert_class i)
    to (Alert Field.Cause i) = never
    to (Block Setting.Regwen k) = never
    to (Block Ctrl k) = (λ e. Shadowed.ctrl k)
    to (Block ClrRegwen k) = never
    to (Block Clr k) = never
    to (Block AccumCnt k) = never
    to (Block AccumThresh k) = (λ e. Shadowed.accum_thresh k)
    to (Block TimeoutCyc k) = (λ e. Shadowed.timeout_cyc k)
    to (Block (PhaseCyc p) k) = (λ e. Shadowed.phase_cyc k p)
    to (Block EscCnt k) = never
    to (Block Setting.State k) = never
    to Unassigned = never

    from : (q : Register) → Shadowed q → is_shadowed q ≡ true
    from q (Shadowed.local_en j) = refl
    from q (Shadowed.local_class j) = refl
    from q (Shadowed.alert_en i) = refl
    from q (Shadowed.alert_class i) = refl
    from q (Shadowed.ctrl k) = refl
    from q (Shadowed.accum_thresh k) = refl
    from q (Shadowed.timeout_cyc k) = refl
    from q (Shadowed.phase_cyc k p) = refl
    from q Shadowed.ping_timeout = refl

pub shut_is : (h : Handler) (q : Register) → (locked h q ≡ true) ↔ Shut h q
unfolding locked guard value
shut_is h q = (to h q, from h q)
  where
    to : (h : Handler) (q : Register) → locked h q ≡ true → Shut h q
    to h (Only IntrState) = never
    to h (Only IntrEnable) = never
    to h (Only IntrTest) = never
    to h (Only PingRegwen) = (λ e. Shut.ping_regwen (eqb-true _ 0 e))
    to h (Only PingTimeout) = (λ e. Shut.ping_timeout (eqb-true _ 0 e))
    to h (Only PingEnable) = (λ e. Shut.ping_enable (eqb-true _ 0 e))
    to h (Local Field.Regwen j) = (λ e. Shut.local_regwen j (eqb-true _ 0 e))
    to h (Local Field.En j) = (λ e. Shut.local_en j (eqb-true _ 0 e))
    to h (Local Field.Class j) = (λ e. Shut.local_class j (eqb-true _ 0 e))
    to h (Local Field.Cause j) = never
    to h (Alert Field.Regwen i) = (λ e. Shut.alert_regwen i (eqb-true _ 0 e))
    to h (Alert Field.En i) = (λ e. Shut.alert_en i (eqb-true _ 0 e))
    to h (Alert Field.Class i) = (λ e. Shut.alert_class i (eqb-true _ 0 e))
    to h (Alert Field.Cause i) = never
    to h (Block Setting.Regwen k) = (λ e. Shut.regwen k (eqb-true _ 0 e))
    to h (Block Ctrl k) = (λ e. Shut.ctrl k (eqb-true _ 0 e))
    to h (Block ClrRegwen k) = (λ e. Shut.clr_regwen k (eqb-true _ 0 e))
    to h (Block Clr k) = (λ e. Shut.clr k (eqb-true _ 0 e))
    to h (Block AccumCnt k) = never
    to h (Block AccumThresh k) = (λ e. Shut.accum_thresh k (eqb-true _ 0 e))
    to h (Block TimeoutCyc k) = (λ e. Shut.timeout_cyc k (eqb-true _ 0 e))
    to h (Block (PhaseCyc p) k) = (λ e. Shut.phase_cyc k p (eqb-true _ 0 e))
    to h (Block EscCnt k) = never
    to h (Block Setting.State k) = never
    to h Unassigned = never

    from : (h : Handler) (q : Register) → Shut h q → locked h q ≡ true
    from h q (Shut.ping_regwen e) = eq-eqb _ 0 e
    from h q (Shut.ping_timeout e) = eq-eqb _ 0 e
    from h q (Shut.ping_enable e) = eq-eqb _ 0 e
    from h q (Shut.local_regwen j e) = eq-eqb _ 0 e
    from h q (Shut.local_en j e) = eq-eqb _ 0 e
    from h q (Shut.local_class j e) = eq-eqb _ 0 e
    from h q (Shut.alert_regwen i e) = eq-eqb _ 0 e
    from h q (Shut.alert_en i e) = eq-eqb _ 0 e
    from h q (Shut.alert_class i e) = eq-eqb _ 0 e
    from h q (Shut.regwen k e) = eq-eqb _ 0 e
    from h q (Shut.ctrl k e) = eq-eqb _ 0 e
    from h q (Shut.clr_regwen k e) = eq-eqb _ 0 e
    from h q (Shut.clr k e) = eq-eqb _ 0 e
    from h q (Shut.accum_thresh k e) = eq-eqb _ 0 e
    from h q (Shut.timeout_cyc k e) = eq-eqb _ 0 e
    from h q (Shut.phase_cyc k p e) = eq-eqb _ 0 e
