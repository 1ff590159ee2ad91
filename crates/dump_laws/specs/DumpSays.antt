-- Request (xiv), the writer, the reader's refusals and what a state shows, said a second time in the request's own numbers and order.
-- proofs/DumpSays.antt proves it of every state, buffer and bytes.
-- Assumes nothing.
use Rattle.std.specs.Prelude.{ℕ, ◌-◌, ◌≤◌, ◌<◌, ◌≡◌, true, false, List, [], ◌∷◌, ◌++◌, map, pos, neg_ℤ, length, drop, replicate}
use Rattle.dump_rules.specs.Content.{content_by}
use Rattle.dump_rules.specs.Dump.{dump_of}
use Rattle.dump_rules.specs.Reader.{cut_start, no_dump, read_dump}
use Rattle.dump_rules.specs.Shown.{ShownClass, shown}
use Rattle.dump_rules.specs.Writer.{write_dump}
use Rattle.dump_rules.specs.declared.Content.{Content}
use Rattle.rules.specs.Access.{value}
use Rattle.rules.specs.Map.{decode}
use Rattle.rules.specs.State.{class_at}
use Rattle.rules.specs.Valid.{valid}
use Rattle.rules.specs.declared.Handler.{Handler}
use Rattle.dump_laws.specs.Claims.{up_from}

-- "The writer refuses with 7, then 11, as in (ii)": either leaves the buffer; success answers the bytes written, later bytes stay
pub record WriterSays (h : Handler) (buffer : List ℕ) : Type 0 where
  pub seven : valid h ≡ false → ((write_dump h buffer).answer ≡ neg_ℤ (pos 7)) × ((write_dump h buffer).buffer ≡ buffer)
  pub eleven :
      valid h ≡ true → length buffer < length (dump_of (shown h)) → ((write_dump h buffer).answer ≡ neg_ℤ (pos 11)) × ((write_dump h buffer).buffer ≡ buffer)
  pub written :
      valid h ≡ true → length (dump_of (shown h)) ≤ length buffer
      → ((write_dump h buffer).answer ≡ pos (length (dump_of (shown h))))
      × ((write_dump h buffer).buffer ≡ dump_of (shown h) ++ drop (length (dump_of (shown h))) buffer)

-- "shows nothing of anything else": the answer, and 0 everywhere
abbrev pub nothing_but : ℕ → Content
nothing_but m =
    record {
      answer = neg_ℤ (pos m);
      n = 0;
      classes = replicate 4 (record { state = 0; count = 0; accum = 0 });
      stages = replicate 1344 0;
      causes = replicate 1344 0;
      locked = replicate 1344 0;
    }

-- "17 for a cut start of a dump or no bytes, 16 for the rest"
pub record ReaderSays (bytes : List ℕ) : Type 0 where
  pub cut : read_dump bytes ≡ cut_start → content_by (read_dump bytes) ≡ nothing_but 17
  pub none : read_dump bytes ≡ no_dump → content_by (read_dump bytes) ≡ nothing_but 16

-- class k as it is shown
abbrev pub class_shown : Handler → ℕ → ShownClass
class_shown h k = record { state = (class_at h k).state; count = (class_at h k).count; accum = (class_at h k).accum }

-- "each class's STATE, count and accumulator, all causes, all locks, CLR_REGWEN too (a bit each, 1 for locked, register numbers rising)"
pub record StateShows (h : Handler) : Type 0 where
  pub n : (shown h).n ≡ h.n
  pub classes : (shown h).classes ≡ class_shown h 0 ∷ class_shown h 1 ∷ class_shown h 2 ∷ class_shown h 3 ∷ []
  pub causes : h.n ≤ 248 → (shown h).causes ≡ map (λ r. value h (decode h.n r)) (up_from 40 7 ++ up_from 1024 h.n)
  pub locks :
      h.n ≤ 248
      → (shown h).locks
      ≡ map (λ r. 1 - value h (decode h.n r))
      ((4 ∷ up_from 16 7) ++ (up_from 256 h.n ++ (1280 ∷ 1282 ∷ 1296 ∷ 1298 ∷ 1312 ∷ 1314 ∷ 1328 ∷ 1330 ∷ [])))
