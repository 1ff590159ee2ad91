-- Request (xiv): a state that holds what a dump shows. What no dump shows of it is as in a new handler.
-- Assumes nothing.
use Rattle.std.specs.Prelude.{ℕ, ◌-◌, get_or, replicate}
use Rattle.bits.specs.Index.{each}
use Rattle.class_rules.specs.declared.Class.{Class}
use Rattle.dump_rules.specs.Content.{flag_at, code_at}
use Rattle.dump_rules.specs.Reader.{no_class}
use Rattle.dump_rules.specs.Shown.{Shown, is_cause}
use Rattle.rules.specs.Map.{decode, number_of, is_lock}
use Rattle.rules.specs.State.{most, local_count, class_count, reset_class, new_handler}
use Rattle.rules.specs.declared.ClassStages.{ClassStages}
use Rattle.rules.specs.declared.Field.{Field}
use Rattle.rules.specs.declared.Handler.{Handler}
use Rattle.rules.specs.declared.Register.{Register}
use Rattle.rules.specs.declared.Register.TheVariants.{Only, Local, Alert, Block}
use Rattle.rules.specs.declared.Setting.{Setting}
use Rattle.rules.specs.declared.Setting.TheVariants.{Ctrl, ClrRegwen, AccumThresh, TimeoutCyc, PhaseCyc}
use Rattle.rules.specs.declared.Single.TheVariants.{PingRegwen, PingTimeout}
use Rattle.rules.specs.declared.Stages.{Stages}

-- what is shown of a register: its cause, its lock as the register holds it, the code of its stage
unfoldable pub cause_of : Shown → Register → ℕ
cause_of s q = flag_at (λ r. is_cause (decode s.n r)) s.causes (number_of q)

unfoldable pub lock_of : Shown → Register → ℕ
lock_of s q = 1 - flag_at (λ r. is_lock (decode s.n r)) s.locks (number_of q)

unfoldable pub code_of : Shown → Register → ℕ
code_of s q = code_at s.stages (number_of q)

abbrev pub class_holding : Shown → ℕ → Class
class_holding s k =
    record {
      lengths = reset_class.lengths;
      timeout = reset_class.timeout;
      count = (get_or s.classes k no_class).count;
      ctrl = reset_class.ctrl;
      accum = (get_or s.classes k no_class).accum;
      thresh = reset_class.thresh;
      regwen = lock_of s (Block Setting.Regwen k);
      clrwen = lock_of s (Block ClrRegwen k);
      state = (get_or s.classes k no_class).state;
    }

abbrev pub class_stages_holding : Shown → ℕ → ClassStages
class_stages_holding s k =
    record {
      lengths = each 4 (λ p. code_of s (Block (PhaseCyc p) k));
      timeout = code_of s (Block TimeoutCyc k);
      ctrl = code_of s (Block Ctrl k);
      thresh = code_of s (Block AccumThresh k);
    }

abbrev pub stages_holding : Shown → Stages
stages_holding s =
    record {
      classes = each class_count (class_stages_holding s);
      alerts = record { en = each most (λ i. code_of s (Alert Field.En i)); class = each most (λ i. code_of s (Alert Field.Class i)) };
      locals = record { en = each local_count (λ j. code_of s (Local Field.En j)); class = each local_count (λ j. code_of s (Local Field.Class j)) };
      timeout = code_of s (Only PingTimeout);
    }

unfoldable pub holding : Shown → Handler
holding s =
    record {
      n = s.n;
      links = (new_handler s.n).links;
      classes = each class_count (class_holding s);
      alerts =
          record {
            regwen = each most (λ i. lock_of s (Alert Field.Regwen i));
            en = replicate most 0;
            class = replicate most 0;
            cause = each most (λ i. cause_of s (Alert Field.Cause i));
          };
      locals =
          record {
            regwen = each local_count (λ j. lock_of s (Local Field.Regwen j));
            en = replicate local_count 0;
            class = replicate local_count 0;
            cause = each local_count (λ j. cause_of s (Local Field.Cause j));
          };
      interrupts = record { state = 0; enable = 0 };
      timer = record { timeout = 0; regwen = lock_of s (Only PingRegwen); enable = 0 };
      stages = stages_holding s;
    }
