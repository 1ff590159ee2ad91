use mathlib.Core.Path.{◌≡◌}
use Rattle.policy.specs.Install.{under, install, asks}
use Rattle.policy.specs.Plan.{alert_entries, class_entries, lock_entries, parts_to}
use Rattle.installer.proofs.plan.install.Given as goal

-- the parts below the counter are carried out
abbrev pub invariant-loop-i : goal.invariant-loop-i
invariant-loop-i l = under l.h ≡ install (under l.initial.h) (asks (parts_to (alert_entries l.l) l.i))

abbrev pub invariant-loop-k : goal.invariant-loop-k
invariant-loop-k l = under l.h ≡ install (under l.initial.h) (asks (parts_to (class_entries l.l) l.k))

abbrev pub invariant-loop-a : goal.invariant-loop-a
invariant-loop-a l = under l.h ≡ install (under l.initial.h) (asks (parts_to (lock_entries l.l) l.a))
