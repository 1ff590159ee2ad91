-- `write::store_setting` meets its contract, register by register.
-- Assumes nothing.
use mathlib.Core.Path.{◌≡◌}
use native.Mathlib.Omega.{arith}
use lib.ListN.{length}
use Rattle.register_file.proofs.Stores.{set_register, set_phase, set_none}
use Rattle.rules.specs.declared.Setting.{Setting}
use borrow.Author.Rules.{rules}
use Rattle.register_file.proofs.write.store_setting.Goals as goal

pub returns-in-Regwen : goal.returns-in-Regwen
returns-in-Regwen c =
    let x = c.args in
    let l : length x.c.now.lengths ≡ 4 = search rules in
    rw c.in-Regwen.is (set_register x.v x.c.now Setting.Regwen l (λ p h e. omega arith))

pub returns-in-Ctrl : goal.returns-in-Ctrl
returns-in-Ctrl c =
    let x = c.args in
    let l : length x.c.now.lengths ≡ 4 = search rules in
    rw c.in-Ctrl.is (set_register x.v x.c.now Setting.Ctrl l (λ p h e. omega arith))

pub returns-in-ClrRegwen : goal.returns-in-ClrRegwen
returns-in-ClrRegwen c =
    let x = c.args in
    let l : length x.c.now.lengths ≡ 4 = search rules in
    rw c.in-ClrRegwen.is (set_register x.v x.c.now Setting.ClrRegwen l (λ p h e. omega arith))

pub returns-in-AccumThresh : goal.returns-in-AccumThresh
returns-in-AccumThresh c =
    let x = c.args in
    let l : length x.c.now.lengths ≡ 4 = search rules in
    rw c.in-AccumThresh.is (set_register x.v x.c.now Setting.AccumThresh l (λ p h e. omega arith))

pub returns-in-TimeoutCyc : goal.returns-in-TimeoutCyc
returns-in-TimeoutCyc c =
    let x = c.args in
    let l : length x.c.now.lengths ≡ 4 = search rules in
    rw c.in-TimeoutCyc.is (set_register x.v x.c.now Setting.TimeoutCyc l (λ p h e. omega arith))

pub returns-in-PhaseCyc : goal.returns-in-PhaseCyc
returns-in-PhaseCyc c = rw (c.in-PhaseCyc.is, c.put_entry.ensures 0) (set_phase c.args.v c.args.c.now c.in-PhaseCyc.p)

pub returns-in_default : goal.returns-in_default
returns-in_default c =
    let x = c.args in
    let n = c.in_default in
    set_none x.v x.c.now x.s (search rules) n.not-Regwen n.not-Ctrl n.not-ClrRegwen n.not-AccumThresh n.not-TimeoutCyc n.not-PhaseCyc
