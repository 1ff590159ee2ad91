-- What the reader gives, by what the bytes are judged to be.
-- Assumes nothing.
use mathlib.Core.Path.{◌≡◌, refl, ap, ap₂, ◌∙◌}
use lib.IntN.{ℤ, pos, neg_ℤ}
use lib.ListN.{replicate}
use mir.Syntax.{w64}
use mir.Val.{to_z, of_z}
use Rattle.std.specs.Prelude.{Result, Ok, Err}
use Rattle.dump_reader.specs.Steps.{judged_of}
use Rattle.dump_rules.specs.Content.{unread_number, class_of, nothing_of, content_by}
use Rattle.dump_rules.specs.Reader.{Seen, shows, cut_start, no_dump, no_class}
use Rattle.dump_rules.specs.Shown.{Shown, limit}
use Rattle.dump_rules.specs.declared.Content.{Content}
use Rattle.dump_rules.specs.declared.ContentClass.{ContentClass}
use Rattle.dump_rules.specs.declared.Unread.{Unread}
use Rattle.dump_rules.specs.declared.Unread.TheVariants.{CutDump, NoDump}

abbrev judged_ok : Result (Unit {0}) Unread
judged_ok = Ok tt

pub a_dump : (r : Seen) → judged_ok ≡ judged_of r → (s : Shown) × (r ≡ shows s)
a_dump (shows s) e = (s, refl)
a_dump cut_start e = cc
a_dump no_dump e = cc

abbrev unread : Unread → Result (Unit {0}) Unread
unread u = Err u

pub none_read : (u : Unread) (r : Seen) → unread u ≡ judged_of r → nothing_of u ≡ content_by r
unfolding content_by
none_read u (shows s) e = cc
none_read u cut_start e = let i : u ≡ CutDump = cc in ap nothing_of i
none_read u no_dump e = let i : u ≡ NoDump = cc in ap nothing_of i

-- the answer as a word
answer_word : (u : Unread) → to_z w64 (of_z w64 (neg_ℤ (pos (unread_number u)))) ≡ neg_ℤ (pos (unread_number u))
answer_word CutDump = refl
answer_word NoDump = refl

pub nothing_is : (u : Unread) (z : ℤ) (d : ContentClass) → z ≡ neg_ℤ (pos (unread_number u)) → d ≡ class_of no_class
    → ◌≡◌ {A = Content} (record {
      answer = to_z w64 (of_z w64 z);
      n = 0;
      classes = replicate 4 d;
      stages = replicate limit 0;
      causes = replicate limit 0;
      locked = replicate limit 0;
    }) (nothing_of u)
nothing_is u z d e f =
    ap₂ (λ (y : ℤ) (x : ContentClass). record {
      answer = y;
      n = 0;
      classes = replicate 4 x;
      stages = replicate limit 0;
      causes = replicate limit 0;
      locked = replicate limit 0;
    }) (ap (λ (y : ℤ). to_z w64 (of_z w64 y)) e ∙ answer_word u) f
