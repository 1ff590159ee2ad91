-- Wrong boots that the sentences refuse, as theorems: by which accesses, where it stops and what it returns.
-- Assumes nothing.
use Prim.Native.Nat.{ℕ, ◌-◌}
use mathlib.Core.Path.{refl}
use mathlib.Core.Bool.{Bool, true, false, cond, not, ◌&&◌, ◌||◌}
use mathlib.Core.List.{List, ◌∷◌}
use native.Mathlib.Omega.{arith}
use lib.Dec.{ltb}
use lib.IntN.{pos, neg_ℤ}
use lib.ListN.{get_or, drop, replicate}
use Rattle.class_rules.specs.declared.Class.{Class}
use Rattle.policy.specs.Install.{Ask, rest, is, under, stopped, asked, write}
use Rattle.policy.specs.Plan.{barred}
use Rattle.policy.specs.declared.Bar.TheVariants.{FewAlerts}
use Rattle.policy.specs.declared.Installed.{Installed}
use Rattle.policy.specs.Progress.{Progress}
use Rattle.rules.specs.Answer.{number}
use Rattle.rules.specs.State.{reset_class, class_at, new_handler}
use Rattle.rules.specs.Tick.{ticked}
use Rattle.rules.specs.Valid.{valid}
use Rattle.rules.specs.declared.Access.{Access}
use Rattle.rules.specs.declared.Access.TheVariants.{Nothing, Read, Write, Malformed}
use Rattle.rules.specs.declared.Handler.{Handler}
use Rattle.rules.specs.declared.Input.{Input}
use Rattle.trace_sentences.proofs.HoldsWords.{refusal_of_law}
use Rattle.boot_sentences.specs.Boots.{Installer}
use Rattle.boot_sentences.proofs.BootScenes.{boot_by, right, boots, differs_in}
use Rattle.boot_sentences.proofs.HoldsBoots.{installed}

-- ── by which accesses ──

-- one write where two are wanted: the read finds 0 in CLASS of alert 0
abbrev one_write : ℕ → List Ask
one_write c = drop 1 (right c)

pub no_single_write : ¬ Installer (boot_by asked one_write)
unfolding boots
no_single_write = differs_in (boot_by asked one_write) 1 58 1 0 0 reset_class 0 refl (λ b. b.register) 768 769 refl refl (λ e. omega (arith, e))

-- class A in Phase 0, so that its count tells the ticks
abbrev phase0 : Class
phase0 = record { lengths = replicate 4 99; timeout = 0; count = 1; ctrl = 0x393C; accum = 0; thresh = 0; regwen = 1; clrwen = 1; state = 4 }

-- no read after the writes of alert 0
abbrev unread : ℕ → List Ask
unread c = write 768 2 ∷ write 768 2 ∷ write 512 1 ∷ write 512 1 ∷ drop 6 (right c)

pub no_register_unread : ¬ Installer (boot_by asked unread)
unfolding boots
no_register_unread = differs_in (boot_by asked unread) 1 58 1 0 0 phase0 0 refl (λ b. (class_at b.handler 0).count) 6 8 refl refl (λ e. omega (arith, e))

-- wires at (0,0): local 2 occurs
abbrev equal : Access → Input
equal x = record { access = x; sample = record { alerts = record { pos = (rest x).sample.alerts.pos; neg = (rest x).sample.alerts.pos }; word = 0; receive = (rest x).sample.receive } }

abbrev by_equal : Handler → Ask → Progress
by_equal h a = let t = ticked h (equal a.access) in cond (is (number t.answer) a.wanted) (under t.handler) (stopped a.register t)

pub no_equal_wires : ¬ Installer (boot_by by_equal right)
unfolding boots
no_equal_wires =
    differs_in (boot_by by_equal right) 1 58 0 1 0 reset_class 1 refl (λ b. get_or b.handler.locals.cause 2 9) 1 0 refl refl (λ e. omega (arith, e))

-- ── where it stops, and what it returns ──

-- answers to writes not looked at: the read of a locked register is what stops it
abbrev is_read : Access → Bool
is_read Nothing = false
is_read (Read r) = true
is_read (Write r v) = false
is_read Malformed = false

abbrev late : Handler → Ask → Progress
late h a = let t = ticked h (rest a.access) in cond (not (is_read a.access) || is (number t.answer) a.wanted) (under t.handler) (stopped a.register t)

pub no_late_stop : ¬ Installer (boot_by late right)
unfolding boots
no_late_stop = differs_in (boot_by late right) 1 58 0 0 0 reset_class 0 refl (λ b. refusal_of_law b.answer) 0 3 refl refl (λ e. omega (arith, e))

-- the state before the stop: the stage of 1 at CLASS of alert 0, which 12 dropped, is still there
abbrev kept_state : Handler → Ask → Progress
kept_state h a =
    let t = ticked h (rest a.access) in
    cond (is (number t.answer) a.wanted) (under t.handler) (stopped a.register (record { handler = h; answer = t.answer; output = t.output }))

pub no_state_before_stop : ¬ Installer (boot_by kept_state right)
unfolding boots
no_state_before_stop =
    differs_in (boot_by kept_state right) 1 58 57 0 2 reset_class 0 refl (λ b. get_or b.handler.stages.alerts.class 0 9) 2 0 refl refl (λ e. omega (arith, e))

-- the register's place in the boot in the register's stead
abbrev placed : ℕ → Handler → Installed
placed c h = let b = installed c h in record { handler = b.handler; answer = b.answer; register = b.register - 768; spare = b.spare }

pub no_place_returned : ¬ Installer placed
unfolding boots
no_place_returned = differs_in placed 1 58 1 0 0 reset_class 0 refl (λ b. b.register) 1 769 refl refl (λ e. omega (arith, e))

-- ── where it does not begin ──

-- 13 before 7: 57 alerts, and class A in STATE 2
abbrev damaged : Class
damaged = record { lengths = replicate 4 0; timeout = 0; count = 0; ctrl = 0x393C; accum = 0; thresh = 0; regwen = 1; clrwen = 1; state = 2 }

abbrev hasty : ℕ → Handler → Installed
hasty c h = cond (ltb h.n 58) (barred h FewAlerts) (installed c h)

pub no_thirteen_before_seven : ¬ Installer hasty
unfolding boots
no_thirteen_before_seven = differs_in hasty 1 57 0 0 0 damaged 0 refl (λ b. refusal_of_law b.answer) 13 7 refl refl (λ e. omega (arith, e))

-- 13 with a new state
abbrev emptied : ℕ → Handler → Installed
emptied c h =
    cond (valid h && ltb h.n 58) (record { handler = new_handler 0; answer = neg_ℤ (pos 13); register = 0; spare = replicate 6 0 }) (installed c h)

pub no_state_changed_by_13 : ¬ Installer emptied
unfolding boots
no_state_changed_by_13 = differs_in emptied 1 57 0 0 0 reset_class 0 refl (λ b. b.handler.n) 0 57 refl refl (λ e. omega (arith, e))
