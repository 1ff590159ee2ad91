-- The rule of making satisfies its sentences.
-- Assumes nothing.
use Prim.Native.Nat.{ℕ, ◌≤◌, ◌<◌}
use mathlib.Core.Path.{◌≡◌, refl, sym, subst}
use mathlib.Core.Bool.{true, false}
use native.Mathlib.Omega.{arith}
use native.Mathlib.Decide.{dec_lt}
use borrow.Author.Tests.{eq-eqb, ne_eqb, lt-ltb, le-ltb}
use lib.Dec.{eqb}
use lib.ListN.{get_or, replicate, get_or-replicate, length-replicate}
use Rattle.bits.specs.Bits.{bits_of, word_of}
use Rattle.bits.specs.Index.{each_from, words_by}
use Rattle.bits.proofs.IndexLaws.{or_right}
use Rattle.class_rules.specs.Class.{no_class}
use Rattle.rules.specs.Answer.{number}
use Rattle.rules.specs.Stages.{no_class_stages}
use Rattle.rules.specs.State.{reset_class, new_handler, bad_count, made}
use Rattle.rules.specs.declared.ClassStages.{ClassStages}
use Rattle.sentences.specs.Making.{Entries, NewClass, NoStages, New, Making}
use Rattle.sentences.proofs.SentenceCases.{by_phase}

-- ── a new handler ──

repeated : (n v : ℕ) → Entries n v (replicate n v)
repeated n v = record { many = length-replicate n v; each_is = λ i l. get_or-replicate n i v 0 l }

new_class : NewClass reset_class
new_class =
    record {
      regwen = refl;
      clrwen = refl;
      ctrl = refl;
      accum = refl;
      thresh = refl;
      timeout = refl;
      lengths = repeated 4 0;
      count = refl;
      state = refl;
    }

abbrev unstaged : ClassStages
unstaged = record { lengths = replicate 4 0; timeout = 0; ctrl = 0; thresh = 0 }

no_stages : NoStages unstaged
no_stages = record { ctrl = refl; thresh = refl; timeout = refl; lengths = repeated 4 0 }

-- words without a bit
no_bits : Entries 4 0 (words_by 4 (λ i. false))
unfolding word_of each_from
no_bits = record { many = refl; each_is = by_phase (λ v. get_or (words_by 4 (λ i. false)) v 0 ≡ 0) refl refl refl refl }

new : (n : ℕ) → New n (new_handler n)
unfolding new_handler bits_of
new n =
    record {
      alerts = refl;
      intr_state = refl;
      intr_enable = refl;
      local_regwen = repeated 7 1;
      local_en = repeated 7 0;
      local_class = repeated 7 0;
      local_cause = repeated 7 0;
      alert_regwen = repeated 248 1;
      alert_en = repeated 248 0;
      alert_class = repeated 248 0;
      alert_cause = repeated 248 0;
      class_entries = length-replicate 4 reset_class;
      classes = λ k l. subst NewClass (sym (get_or-replicate 4 k reset_class no_class l)) new_class;
      pausing = no_bits;
      busy = no_bits;
      level = no_bits;
      pending = no_bits;
      ping_regwen = refl;
      ping_timeout = refl;
      ping_enable = refl;
      turn_number = refl;
      turn_alert = refl;
      turn_count = refl;
      line_pings = refl;
      sender_on = refl;
      sender_first = refl;
      sender_last = refl;
      sender_deep = refl;
      sender_answer = refl;
      ping_right = refl;
      staged_local_en = repeated 7 0;
      staged_local_class = repeated 7 0;
      staged_alert_en = repeated 248 0;
      staged_alert_class = repeated 248 0;
      staged_ping_timeout = refl;
      staged_entries = length-replicate 4 unstaged;
      staged_classes = λ k l. subst NoStages (sym (get_or-replicate 4 k unstaged no_class_stages l)) no_stages;
    }

-- ── making ──

good : (n : ℕ) → 1 ≤ n → n ≤ 248 → bad_count n ≡ false
good n a b = simp (ne_eqb n 0 (λ e. omega arith), le-ltb 248 n b)

bad : (n : ℕ) → ¬ ((1 ≤ n) × (n ≤ 248)) → bad_count n ≡ true
bad n f = go (dec_lt n 1)
  where
    go : Dec (n < 1) → bad_count n ≡ true
    go (yes l) = let e : n ≡ 0 = omega arith in simp (eq-eqb n 0 e)
    go (no l) = or_right (eqb n 0) (lt-ltb 248 n (over (dec_lt 248 n)))
      where
        over : Dec (248 < n) → 248 < n
        over (yes m) = m
        over (no m) = absurd (f (omega arith, omega arith))

pub holds_making : Making made
unfolding made number
holds_making n =
    record {
      handler = λ a b. simp (good n a b) (new n);
      accepted = λ a b. simp (good n a b);
      none = λ f. simp (bad n f) (new 0);
      refused = λ f. simp (bad n f);
    }
