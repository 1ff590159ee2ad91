-- What the reader's contract cites shows a state of its dump, and nothing where it refuses.
-- Assumes nothing.
use Prim.Native.Nat.{ℕ, zero, suc, ◌+◌, ◌-◌, ◌<◌}
use mathlib.Core.Path.{◌≡◌, refl, sym, ap, ◌∙◌, subst}
use mathlib.Core.Bool.{Bool, true, false, cond}
use native.Mathlib.Omega.{arith}
use lib.ListN.{get_or, replicate, length-replicate}
use Rattle.bits.proofs.IndexLaws.{length_each}
use Rattle.dump_laws.proofs.Dumps.{dumps}
use Rattle.dump_laws.specs.DumpSays.{nothing_but}
use Rattle.dump_rules.specs.Content.{flags_by, codes_by, content_by}
use Rattle.dump_rules.specs.Dump.{dump_of}
use Rattle.dump_rules.specs.Reader.{Seen, shows, read_dump}
use Rattle.dump_rules.specs.Shown.{Shown, is_cause, shown}
use Rattle.dump_rules.specs.declared.Content.{Content}
use Rattle.dump_rules.specs.declared.ContentClass.{ContentClass}
use Rattle.dump_rules.proofs.KindLaws.{cause_register, lock_register}
use Rattle.dump_rules.proofs.LawfulDump.{past_map}
use Rattle.rules.specs.Access.{value}
use Rattle.rules.specs.Map.{decode, is_register, is_lock}
use Rattle.rules.specs.Valid.{valid}
use Rattle.rules.specs.declared.Handler.{Handler}
use Rattle.rules.specs.declared.Register.{Register}
use Rattle.sentences.specs.AccessMap.{Names, Regwen}
use Rattle.sentences.specs.Raw.{held, code}
use Rattle.sentences.specs.Valid.{Valid}
use Rattle.sentences.proofs.AccessMap.{held_is, code_is, row_is}
use Rattle.sentences.proofs.AccessWays.{regwen_is}
use Rattle.sentences.proofs.HoldsValid.{holds_valid}
use Rattle.dump_sentences.specs.Contents.{Cause, Entries, Shows, Nothing}
use Rattle.dump_sentences.specs.DumpBytes.{Staged}
use Rattle.dump_sentences.proofs.ContentLaws.{cause_is}
use Rattle.dump_sentences.proofs.StagedLaws.{decodes, named, staged_code, is_staged}

-- what a caller gets of the dump of a state
abbrev content_of : Handler → Content
content_of h = content_by (read_dump (dump_of (shown h)))

given_entries : (s : Shown) → Entries (content_by (shows s))
unfolding content_by flags_by codes_by
given_entries s = record { classes = length_each 4 _; stages = length_each 1344 _; causes = length_each 1344 _; locked = length_each 1344 _ }

module _ (h : Handler) (v : Valid h) where
  is_valid_law : valid h ≡ true
  is_valid_law = (holds_valid h).1 v

  -- a number that names a register is below 1344
  below : (r : ℕ) (q : Register) → Names h.n r q → r < 1344
  below r q x = past_map h.n r (ap is_register (decodes h.n r q v.n x) ∙ row_is h.n r q x.0 x.1)

  held_of : (r : ℕ) (q : Register) → Names h.n r q → value h (decode h.n r) ≡ held h q
  held_of r q x = ap (value h) (decodes h.n r q v.n x) ∙ held_is h q

  cause_entry : (r : ℕ) (q : Register) → Names h.n r q → Cause q → get_or (content_of h).causes r 0 ≡ held h q
  cause_entry r q x w =
      (dumps.tells h is_valid_law).causes r (below r q x)
      ∙ ap (λ (b : Bool). cond b (value h (decode h.n r)) 0) (ap is_cause (decodes h.n r q v.n x) ∙ (cause_is q).1 w)
      ∙ held_of r q x

  lock_entry : (r : ℕ) (q : Register) → Names h.n r q → Regwen q → get_or (content_of h).locked r 0 ≡ 1 - held h q
  lock_entry r q x w =
      (dumps.tells h is_valid_law).locked r (below r q x)
      ∙ ap (λ (b : Bool). cond b (1 - value h (decode h.n r)) 0) (ap is_lock (decodes h.n r q v.n x) ∙ (regwen_is q).1 w)
      ∙ ap (λ (k : ℕ). 1 - k) (held_of r q x)

  no_cause_entry : (r : ℕ) → r < 1344 → ((q : Register) → Names h.n r q → ¬ Cause q) → get_or (content_of h).causes r 0 ≡ 0
  no_cause_entry r l f = (dumps.tells h is_valid_law).causes r l ∙ go (is_cause (decode h.n r)) refl
    where
      go : (b : Bool) → is_cause (decode h.n r) ≡ b → cond (is_cause (decode h.n r)) (value h (decode h.n r)) 0 ≡ 0
      go true e = absurd (f (decode h.n r) (named h.n r (cause_register (decode h.n r) e)) ((cause_is (decode h.n r)).0 e))
      go false e = ap (λ (b : Bool). cond b (value h (decode h.n r)) 0) e

  no_lock_entry : (r : ℕ) → r < 1344 → ((q : Register) → Names h.n r q → ¬ Regwen q) → get_or (content_of h).locked r 0 ≡ 0
  no_lock_entry r l f = (dumps.tells h is_valid_law).locked r l ∙ go (is_lock (decode h.n r)) refl
    where
      go : (b : Bool) → is_lock (decode h.n r) ≡ b → cond (is_lock (decode h.n r)) (1 - value h (decode h.n r)) 0 ≡ 0
      go true e = absurd (f (decode h.n r) (named h.n r (lock_register (decode h.n r) e)) ((regwen_is (decode h.n r)).0 e))
      go false e = ap (λ (b : Bool). cond b (1 - value h (decode h.n r)) 0) e

  stage_entry : (r u : ℕ) → r < 1344 → Staged h r u → get_or (content_of h).stages r 0 ≡ u + 1
  stage_entry r u l s =
      (dumps.tells h is_valid_law).stages r l ∙ code_is h (decode h.n r) ∙ staged_code h v.n r u s ∙ omega arith

  no_stage_entry : (r : ℕ) → r < 1344 → ((u : ℕ) → ¬ Staged h r u) → get_or (content_of h).stages r 0 ≡ 0
  no_stage_entry r l f = (dumps.tells h is_valid_law).stages r l ∙ code_is h (decode h.n r) ∙ go (code h (decode h.n r)) refl
    where
      go : (c : ℕ) → code h (decode h.n r) ≡ c → code h (decode h.n r) ≡ 0
      go zero e = e
      go (suc u) e = absurd (f u (is_staged h v.n r u e))

  pub holds_shows : Shows h (content_of h)
  holds_shows =
      let t = dumps.tells h is_valid_law in
      record {
        answer = t.answer;
        n = t.n;
        state = λ k l. ap (λ (x : ContentClass). x.state) (t.class k l);
        count = λ k l. ap (λ (x : ContentClass). x.count) (t.class k l);
        accumulator = λ k l. ap (λ (x : ContentClass). x.accum) (t.class k l);
        cause = cause_entry;
        no_cause = no_cause_entry;
        locked = λ r q x w e. lock_entry r q x w ∙ ap (λ (k : ℕ). 1 - k) e;
        unlocked = λ r q x w e. lock_entry r q x w ∙ ap (λ (k : ℕ). 1 - k) e;
        no_lock = no_lock_entry;
        stage = stage_entry;
        no_stage = no_stage_entry;
        entries = subst (λ (x : Seen). Entries (content_by x)) (sym (dumps.read_back h is_valid_law)) (given_entries (shown h));
      }

-- ── refused ──

abbrev no_entry : ℕ
no_entry = 0

abbrev no_class : ContentClass
no_class = record { state = 0; count = 0; accum = 0 }

at_zeros : (k r : ℕ) → get_or (replicate k no_entry) r 0 ≡ 0
at_zeros zero r = refl
at_zeros (suc k) zero = refl
at_zeros (suc k) (suc r) = at_zeros k r

at_no_class : (k r : ℕ) → get_or (replicate k no_class) r no_class ≡ no_class
at_no_class zero r = refl
at_no_class (suc k) zero = refl
at_no_class (suc k) (suc r) = at_no_class k r

pub holds_nothing : (m : ℕ) → Nothing m (nothing_but m)
holds_nothing m =
    record {
      answer = refl;
      n = refl;
      state = λ k l. ap (λ (x : ContentClass). x.state) (at_no_class 4 k);
      count = λ k l. ap (λ (x : ContentClass). x.count) (at_no_class 4 k);
      accumulator = λ k l. ap (λ (x : ContentClass). x.accum) (at_no_class 4 k);
      stages = λ r l. at_zeros 1344 r;
      causes = λ r l. at_zeros 1344 r;
      locked = λ r l. at_zeros 1344 r;
      entries =
          record {
            classes = length-replicate 4 no_class;
            stages = length-replicate 1344 no_entry;
            causes = length-replicate 1344 no_entry;
            locked = length-replicate 1344 no_entry;
          };
    }
