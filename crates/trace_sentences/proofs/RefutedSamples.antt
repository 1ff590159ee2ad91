-- Wrong readers of what stands behind a record's wires, as in RefutedRecords.antt: the word and the answers of request (ix), the receive pairs of request (xi).
-- Assumes nothing.
use Prim.Native.Nat.{ℕ, ◌+◌, ◌-◌, ◌*◌, ◌/◌, ◌%◌}
use mathlib.Core.Path.{◌≡◌, refl, sym, ap, ◌∙◌}
use mathlib.Core.Bool.{true, false, false≢true, cond, not}
use mathlib.Core.List.{List, [], ◌∷◌, ◌++◌}
use borrow.Author.Tests.{eq-eqb}
use lib.Dec.{eqb, ltb}
use lib.ListN.{get_or, length, drop, replicate}
use Rattle.bits.specs.Bits.{bit, bits_of, field}
use Rattle.bits.specs.Fields.{pack, unpack, of_bytes}
use Rattle.rules.specs.Access.{malformed}
use Rattle.rules.specs.declared.Access.{Access}
use Rattle.rules.specs.declared.Input.{Input}
use Rattle.rules.specs.declared.Receive.{Receive}
use Rattle.rules.specs.declared.Receive.TheVariants.{Pairs, Answers}
use Rattle.trace_rules.specs.Record.{layout, access_of, answers_of, positives_of, negatives_of, receive_of, held_in, input_of}
use Rattle.trace_rules.specs.declared.Edition.{Edition}
use Rattle.trace_rules.specs.declared.Edition.TheVariants.{Alerts64, Alerts248, Pings, Wires}
use Rattle.trace_sentences.specs.RecordBits.{form, Reader}
use Rattle.trace_sentences.proofs.HoldsRecords.{holds_reader}
use Rattle.trace_sentences.proofs.OnlyRecords.{only_reader}
use Rattle.trace_sentences.proofs.RefutedRecords.{are_bytes, up_to_255, other_access}

-- ── request (ix) ──

-- a reader that finds another word, or something else of the lines, in the last five bytes of a record than the rules do
abbrev last_5 : ℕ → ℕ → ℕ → ℕ → ℕ → List ℕ
last_5 a b c d f = replicate 70 0 ++ (a ∷ b ∷ c ∷ d ∷ f ∷ [])

other_number : (read : Edition → List ℕ → Input) (e : Edition) (bytes : List ℕ) → length bytes ≡ (form e).bytes → are_bytes bytes ≡ true
    → (f : Input → ℕ) → eqb (f (read e bytes)) (f (input_of e bytes)) ≡ false → ¬ Reader read
other_number read e bytes l b f d r =
    let s : f (read e bytes) ≡ f (input_of e bytes) = ap f (only_reader read input_of r holds_reader e bytes l (up_to_255 bytes b)) in
    false≢true (sym d ∙ eq-eqb (f (read e bytes)) (f (input_of e bytes)) s)

abbrev sample_by : (ℕ → ℕ → ℕ) → (Edition → ℕ → ℕ → Receive) → Edition → List ℕ → Input
sample_by word receive e bytes =
    let ts = drop 6 (unpack (layout e) (of_bytes bytes)) in
    record {
      access = (input_of e bytes).access;
      sample =
          record {
            alerts = (input_of e bytes).sample.alerts;
            word = word (get_or ts 0 0) (get_or ts 1 0);
            receive = receive e (get_or ts 1 0) (get_or ts 2 0);
          };
    }

-- as the rules have it, but for the records of request (ix), or for those of request (xi)
abbrev rightly : Edition → ℕ → ℕ → Receive
rightly e zeros last = receive_of e last

abbrev pings_by : (ℕ → ℕ → Receive) → Edition → ℕ → ℕ → Receive
pings_by f Alerts64 zeros last = receive_of Alerts64 last
pings_by f Alerts248 zeros last = receive_of Alerts248 last
pings_by f Pings zeros last = f zeros last
pings_by f Wires zeros last = receive_of Wires last

abbrev pairs_by : (ℕ → Receive) → Edition → ℕ → ℕ → Receive
pairs_by f Alerts64 zeros last = receive_of Alerts64 last
pairs_by f Alerts248 zeros last = receive_of Alerts248 last
pairs_by f Pings zeros last = receive_of Pings last
pairs_by f Wires zeros last = f last

-- what comes back from the lines, as one number
abbrev code : Receive → ℕ
code (Answers a) = a
code (Pairs p m) = 256 + 16 * p + m

abbrev coded : Input → ℕ
coded x = code x.sample.receive

-- line 3 first
pub no_line_3_first : ¬ Reader (sample_by (λ w z. w) (pings_by (λ z a. Answers a)))
unfolding input_of held_in answers_of unpack pack bit bits_of are_bytes
no_line_3_first = other_number _ Pings (last_5 0 0 0 0 8) refl refl coded refl

-- the word's low half first
pub no_low_half_first : ¬ Reader (sample_by (λ w z. w % 65536 * 65536 + w / 65536) rightly)
unfolding input_of held_in unpack pack are_bytes
no_low_half_first = other_number _ Pings (last_5 0 1 0 0 0) refl refl (λ x. x.sample.word) refl

-- zero bits that are not zero silence the word, or the answers
pub no_silenced_word : ¬ Reader (sample_by (λ w z. cond (eqb z 0) w 0) rightly)
unfolding input_of held_in unpack pack are_bytes
no_silenced_word = other_number _ Pings (last_5 0 0 0 1 0x10) refl refl (λ x. x.sample.word) refl

pub no_silenced_answers : ¬ Reader (sample_by (λ w z. w) (pings_by (λ z a. Answers (cond (eqb z 0) (answers_of a) 0))))
unfolding input_of held_in answers_of unpack pack bit bits_of are_bytes
no_silenced_answers = other_number _ Pings (last_5 0 0 0 0 0x18) refl refl coded refl

-- an older record that has a word
abbrev worded : Edition → List ℕ → Input
worded e bytes =
    record { access = (input_of e bytes).access; sample = record { alerts = (input_of e bytes).sample.alerts; word = field 8 32 (of_bytes bytes); receive = (input_of e bytes).sample.receive } }

pub no_older_word : ¬ Reader worded
unfolding input_of held_in unpack pack are_bytes
no_older_word = other_number worded Alerts248 (replicate 68 0 ++ (1 ∷ 0 ∷ [])) refl refl (λ x. x.sample.word) refl

-- ── request (xi) ──

-- line 3's pair first: line 0's positive wire is 1
pub no_pair_3_first : ¬ Reader (sample_by (λ w z. w) (pairs_by (λ x. Pairs (bits_of 4 (λ l. bit x (2 * l + 1))) (bits_of 4 (λ l. bit x (2 * l))))))
unfolding input_of held_in positives_of negatives_of unpack pack bit bits_of are_bytes
no_pair_3_first = other_number _ Wires (last_5 0 0 0 0 0x80) refl refl coded refl

-- the negative wire of each pair first
pub no_negative_wire_first : ¬ Reader (sample_by (λ w z. w) (pairs_by (λ x. Pairs (negatives_of x) (positives_of x))))
unfolding input_of held_in positives_of negatives_of unpack pack bit bits_of are_bytes
no_negative_wire_first = other_number _ Wires (last_5 0 0 0 0 0x80) refl refl coded refl

-- four positive wires, and then four negative ones, as the alerts' wires stand
pub no_positive_wires_first : ¬ Reader (sample_by (λ w z. w) (pairs_by (λ x. Pairs (bits_of 4 (λ l. bit x (7 - l))) (bits_of 4 (λ l. bit x (3 - l))))))
unfolding input_of held_in positives_of negatives_of unpack pack bit bits_of are_bytes
no_positive_wires_first = other_number _ Wires (last_5 0 0 0 0 0x40) refl refl coded refl

-- an older record whose senders are checked: of 75 bytes, an answered line as a pair on; of 70 and of 24, all pairs at rest
pub no_checked_answers : ¬ Reader (sample_by (λ w z. w) (pings_by (λ z a. Pairs (answers_of a) (15 - answers_of a))))
unfolding input_of held_in answers_of unpack pack bit bits_of are_bytes
no_checked_answers = other_number _ Pings (last_5 0 0 0 0 0) refl refl coded refl

abbrev resting : Edition → ℕ → ℕ → Receive
resting Alerts64 zeros last = Pairs 0 15
resting Alerts248 zeros last = Pairs 0 15
resting Pings zeros last = receive_of Pings last
resting Wires zeros last = receive_of Wires last

pub no_checked_rest : ¬ Reader (sample_by (λ w z. w) resting)
unfolding input_of held_in unpack pack are_bytes
no_checked_rest = other_number _ Alerts248 (replicate 70 0) refl refl coded refl

-- a newest record whose answers are taken as bits still
pub no_answers_in_newest : ¬ Reader (sample_by (λ w z. w) (pairs_by (λ x. Answers (answers_of (x % 16)))))
unfolding input_of held_in answers_of positives_of negatives_of unpack pack bit bits_of are_bytes
no_answers_in_newest = other_number _ Wires (last_5 0 0 0 0 0) refl refl coded refl

-- a newest record whose last byte still has four zero bits: line 0's positive wire is 1
abbrev still_zero : Edition → List ℕ → Input
still_zero e bytes = record { access = cond (ltb (get_or bytes 74 0) 16) (input_of e bytes).access Access.Malformed; sample = (input_of e bytes).sample }

pub no_zero_bits_in_newest : ¬ Reader still_zero
unfolding input_of held_in unpack pack access_of are_bytes
no_zero_bits_in_newest = other_access still_zero Wires (last_5 0 0 0 0 0x80) refl refl (λ a. not (malformed a)) refl refl
