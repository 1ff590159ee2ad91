-- The words of the receivers at the lines' ends, read at one line.
-- Assumes nothing.
use Prim.Native.Nat.{ℕ, ◌-◌, ◌^◌, ◌<◌}
use mathlib.Core.Path.{◌≡◌, refl, sym, ap, ap₂, ◌∙◌}
use mathlib.Core.Bool.{Bool, true, false, cond, not, xor, ◌&&◌, ◌||◌}
use native.Mathlib.Omega.{arith}
use lib.Bits.{bit_and, bit_or, bit_xor, and_lt, xor_lt}
use Rattle.bits.specs.Bits.{bit}
use Rattle.bits.proofs.BitLaws.{bit_and_law, bit_or_law, bit_xor_law}
use Rattle.bits.proofs.TruthTables.{by2, by4}
use Rattle.link_rules.proofs.CodeLaws.{last_back, deep_back, response_after}
use Rattle.link_rules.specs.Codes.{response_of, last_bit, deep_bit}
use Rattle.link_rules.specs.EscalationReceiver.{new_sound, sound_after, sees, sees_at, escalates, listened, responds_negative}
use Rattle.link_rules.specs.LineReceivers.{escalation_receiver_in}
use Rattle.link_rules.specs.Pair.{equal}
use Rattle.link_rules.specs.Senders.{line_count}
use Rattle.link_rules.specs.declared.EscalationReceiver.{EscalationReceiver}
use Rattle.link_rules.specs.declared.LineReceivers.{LineReceivers}
use Rattle.link_rules.specs.declared.SoundReceiver.{SoundReceiver}
use Rattle.senders.proofs.Lines.{not32, answer_table}

-- ── one receiver, in its four bits ──

abbrev receiver : Bool → Bool → Bool → Bool → EscalationReceiver
receiver l d a b = record { sound = record { stands = response_of l d; answer = a }; broken = b }

-- after equal wires it starts anew
anew : (l d a b : Bool)
    → cond b new_sound (record { stands = response_of l d; answer = a }) ≡ record { stands = response_of (not b && l) (not b && d); answer = not b && a }
anew l d a true = refl
anew l d a false = refl

-- its bits after a tick, as the code has them
abbrev last_now : Bool → Bool → Bool
last_now p m = xor p m && p

abbrev deep_now : Bool → Bool → Bool → Bool → Bool → Bool
deep_now l d b p m = (xor p m && (not b && l)) && (p || not (not b && d))

abbrev answer_now : Bool → Bool → Bool → Bool → Bool → Bool → Bool
answer_now l d a b p m = (xor p m && ((p || xor (not b && l) (not b && d)) && not (not b && a))) || (not (xor p m) && (b && not a))

or-false : (a : Bool) → a || false ≡ a
or-false true = refl
or-false false = refl

-- on sound wires
sound_after_law : (l d a p : Bool) → sound_after (record { stands = response_of l d; answer = a }) p
    ≡ record { stands = response_of p (l && (p || not d)); answer = ((p || xor l d) && not a) || false }
sound_after_law l d a p =
    response_after l d a p
    ∙ ap (λ x. record { stands = response_of p (l && (p || not d)); answer = x }) (sym (or-false ((p || xor l d) && not a) ∙ answer_table l d a p))

moved : (l d a b p m : Bool) → listened (receiver l d a b) p m ≡ receiver (last_now p m) (deep_now l d b p m) (answer_now l d a b p m) (not (xor p m))
unfolding listened xor
moved l d a b true true = refl
moved l d a b false false = refl
moved l d a b true false =
    ap (λ (h : SoundReceiver). record { sound = sound_after h true; broken = false }) (anew l d a b)
    ∙ ap (λ (h : SoundReceiver). record { sound = h; broken = false }) (sound_after_law (not b && l) (not b && d) (not b && a) true)
moved l d a b false true =
    ap (λ (h : SoundReceiver). record { sound = sound_after h false; broken = false }) (anew l d a b)
    ∙ ap (λ (h : SoundReceiver). record { sound = h; broken = false }) (sound_after_law (not b && l) (not b && d) (not b && a) false)

module _ (l d a b p m : Bool) where
  abbrev after : EscalationReceiver
  after = listened (receiver l d a b) p m

  last_after : last_now p m ≡ last_bit after.sound.stands
  last_after = sym (ap (λ (x : EscalationReceiver). last_bit x.sound.stands) (moved l d a b p m) ∙ last_back (last_now p m) (deep_now l d b p m))

  deep_after : deep_now l d b p m ≡ deep_bit after.sound.stands
  deep_after = sym (ap (λ (x : EscalationReceiver). deep_bit x.sound.stands) (moved l d a b p m) ∙ deep_back (last_now p m) (deep_now l d b p m))

  answer_after : answer_now l d a b p m ≡ after.sound.answer
  answer_after = sym (ap (λ (x : EscalationReceiver). x.sound.answer) (moved l d a b p m))

  broken_after : not (xor p m) ≡ after.broken
  broken_after = sym (ap (λ (x : EscalationReceiver). x.broken) (moved l d a b p m))

-- ── what it sends back and what it sees ──

negative_table : (a b : Bool) → not (xor b a) ≡ cond b a (not a)
unfolding xor
negative_table = by2 (λ a b. not (xor b a)) (λ a b. cond b a (not a)) tt

equal_table : (p m : Bool) → not (xor p m) ≡ equal p m
unfolding xor
equal_table = by2 (λ p m. not (xor p m)) equal tt

sees_table : (l d b p : Bool) → ((not b && p) && l) ≡ (not b && sees_at (response_of l d) p)
sees_table = by4 (λ l d b p. (not b && p) && l) (λ l d b p. not b && sees_at (response_of l d) p) tt

seen_now : (l d a b p m : Bool) → (not (xor p m) || ((not b && p) && l)) ≡ escalates (receiver l d a b) p m
unfolding escalates sees
seen_now l d a b p m = ap₂ ◌||◌ (equal_table p m) (sees_table l d b p)

-- ── the four, in words ──

module _ (r : LineReceivers) (p m : ℕ) (hd : r.deep < 2 ^ 32) (ha : r.answer < 2 ^ 32) (hb : r.broken < 2 ^ 32) (hp : p < 2 ^ 32) (hm : m < 2 ^ 32) where
  abbrev sound : ℕ
  sound = bit_xor p m

  abbrev whole : ℕ
  whole = 4294967295 - r.broken

  abbrev last : ℕ
  last = bit_and whole r.last

  abbrev deep : ℕ
  deep = bit_and whole r.deep

  abbrev answered : ℕ
  answered = bit_and (bit_or p (bit_xor last deep)) (4294967295 - bit_and whole r.answer)

  abbrev toggled : ℕ
  toggled = bit_and r.broken (4294967295 - r.answer)

  module _ (e : ℕ) (h : e < line_count) where
    abbrev here : EscalationReceiver
    here = listened (escalation_receiver_in r e) (bit p e) (bit m e)

    pub last_bit_law : bit (bit_and sound p) e ≡ last_bit here.sound.stands
    last_bit_law = simp (bit_and_law, bit_xor_law) (last_after (bit r.last e) (bit r.deep e) (bit r.answer e) (bit r.broken e) (bit p e) (bit m e))

    pub deep_bit_law : bit (bit_and (bit_and sound last) (bit_or p (4294967295 - deep))) e ≡ deep_bit here.sound.stands
    deep_bit_law =
        let hw : deep < 2 ^ 32 = and_lt 32 whole r.deep (omega arith) hd in
        simp (bit_and_law, bit_or_law, bit_xor_law, not32) (deep_after (bit r.last e) (bit r.deep e) (bit r.answer e) (bit r.broken e) (bit p e) (bit m e))

    pub answer_bit : bit (bit_or (bit_and sound answered) (bit_and (4294967295 - sound) toggled)) e ≡ here.sound.answer
    answer_bit =
        let hs : sound < 2 ^ 32 = xor_lt 32 p m hp hm in
        let hw : bit_and whole r.answer < 2 ^ 32 = and_lt 32 whole r.answer (omega arith) ha in
        simp (bit_and_law, bit_or_law, bit_xor_law, not32) (answer_after (bit r.last e) (bit r.deep e) (bit r.answer e) (bit r.broken e) (bit p e) (bit m e))

    pub broken_bit : bit (4294967295 - sound) e ≡ here.broken
    broken_bit =
        let hs : sound < 2 ^ 32 = xor_lt 32 p m hp hm in
        simp (bit_xor_law, not32) (broken_after (bit r.last e) (bit r.deep e) (bit r.answer e) (bit r.broken e) (bit p e) (bit m e))

    pub negative_bit : bit (4294967295 - bit_xor r.broken r.answer) e ≡ responds_negative (escalation_receiver_in r e)
    negative_bit =
        let hw : bit_xor r.broken r.answer < 2 ^ 32 = xor_lt 32 r.broken r.answer hb ha in
        simp (bit_xor_law, not32) (negative_table (bit r.answer e) (bit r.broken e))

    pub seen_bit : bit (bit_or (4294967295 - sound) (bit_and (bit_and whole p) r.last)) e ≡ escalates (escalation_receiver_in r e) (bit p e) (bit m e)
    seen_bit =
        let hs : sound < 2 ^ 32 = xor_lt 32 p m hp hm in
        simp (bit_and_law, bit_or_law, bit_xor_law, not32) (seen_now (bit r.last e) (bit r.deep e) (bit r.answer e) (bit r.broken e) (bit p e) (bit m e))
