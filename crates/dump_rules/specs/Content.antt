-- Request (xiv): the content as callers get it, by register number. It has one form for each content: 0 stands at every number that is no register
-- of its kind, of alerts at N and above too.
-- Assumes nothing.
use Rattle.std.specs.Prelude.{ℕ, ◌+◌, Bool, cond, List, [], ◌∷◌, eqb, pos, neg_ℤ, length, get_or, replicate}
use Rattle.bits.specs.Index.{each}
use Rattle.rules.specs.Map.{decode, is_lock}
use Rattle.rules.specs.State.{class_count}
use Rattle.rules.specs.declared.Register.{Register}
use Rattle.dump_rules.specs.Reader.{Seen, shows, cut_start, no_dump, no_class}
use Rattle.dump_rules.specs.Shown.{ShownClass, ShownStage, Shown, picks, limit, is_cause}
use Rattle.dump_rules.specs.declared.Content.{Content}
use Rattle.dump_rules.specs.declared.ContentClass.{ContentClass}
use Rattle.dump_rules.specs.declared.Unread.{Unread}
use Rattle.dump_rules.specs.declared.Unread.TheVariants.{CutDump, NoDump}

-- ── by register number ──

-- the bit of register r: before it come as many as there are registers of the kind with lower numbers
abbrev pub flag_at : (ℕ → Bool) → List ℕ → ℕ → ℕ
flag_at p bits r = cond (p r) (get_or bits (length (picks p 0 r)) 0) 0

unfoldable pub flags_by : (Register → Bool) → ℕ → List ℕ → List ℕ
flags_by p n bits = each limit (flag_at (λ r. p (decode n r)) bits)

-- the stage of register r, by its code as a state has it: 0 for none, the staged value plus 1
unfoldable pub code_at : List ShownStage → ℕ → ℕ
code_at [] r = 0
code_at (s ∷ ss) r = cond (eqb s.register r) (s.value + 1) (code_at ss r)

unfoldable pub codes_by : List ShownStage → List ℕ
codes_by ss = each limit (code_at ss)

-- ── the whole ──

abbrev pub class_of : ShownClass → ContentClass
class_of c = record { state = c.state; count = c.count; accum = c.accum }

-- success answers 0
abbrev pub given : Shown → Content
given s =
    record {
      answer = pos 0;
      n = s.n;
      classes = each class_count (λ k. class_of (get_or s.classes k no_class));
      stages = codes_by s.stages;
      causes = flags_by is_cause s.n s.causes;
      locked = flags_by is_lock s.n s.locks;
    }

abbrev pub unread_number : Unread → ℕ
unread_number CutDump = 17
unread_number NoDump = 16

-- "the reader shows nothing of anything else"
abbrev pub nothing_of : Unread → Content
nothing_of u =
    record {
      answer = neg_ℤ (pos (unread_number u));
      n = 0;
      classes = replicate class_count (class_of no_class);
      stages = replicate limit 0;
      causes = replicate limit 0;
      locked = replicate limit 0;
    }

unfoldable pub content_by : Seen → Content
content_by (shows s) = given s
content_by cut_start = nothing_of CutDump
content_by no_dump = nothing_of NoDump
