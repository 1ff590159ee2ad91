-- Request (xii): a sender with a steady line and no ping is at rest after four ticks from any state, and then as it was every second tick.
-- Assumes nothing.
use Prim.Native.Nat.{ℕ, zero, suc, ◌+◌, ◌-◌, ◌*◌, ◌/◌, ◌%◌, ◌<◌}
use mathlib.Core.Path.{◌≡◌, refl, sym, ap, ◌∙◌}
use mathlib.Core.Bool.{Bool, true, false, cond}
use native.Mathlib.Omega.{arith}
use native.Mathlib.Nat.{zero-add, suc-add, div-add-mod'}
use native.Mathlib.Decide.{dec_lt}
use borrow.Author.Tests.{lt-ltb, le-ltb}
use lib.Dec.{ltb}
use Rattle.bits.specs.Bits.{bit}
use Rattle.link_rules.proofs.SenderLaws.{sender_by, senders_ext}
use Rattle.link_rules.specs.EscalationReceiver.{sound_after}
use Rattle.link_rules.specs.Sender.{sent}
use Rattle.link_rules.specs.Senders.{sender_in, senders_by}
use Rattle.link_rules.specs.declared.Response.{Response}
use Rattle.link_rules.specs.declared.Response.TheVariants.{Quiet, Checking, Answering, Escalating}
use Rattle.link_rules.specs.declared.Sender.{Sender}
use Rattle.link_rules.specs.declared.Senders.{Senders}
use Rattle.calm_laws.specs.Steady.{line_alone, steady, sent_for, senders_for, short}

-- ── one sender ──

abbrev sender : Bool → Bool → Response → Bool → Sender
sender o f r a = record { on = o; first = f; sound = record { stands = r; answer = a } }

-- six ticks are as four, wherever the sender and its sound receiver stand
six_on : (o f : Bool) (r : Response) (a : Bool) → sent_for true 6 (sender o f r a) ≡ sent_for true 4 (sender o f r a)
unfolding sent_for sent sound_after
six_on o f Quiet true = refl
six_on o f Quiet false = refl
six_on o f Checking true = refl
six_on o f Checking false = refl
six_on o f Answering true = refl
six_on o f Answering false = refl
six_on o f Escalating true = refl
six_on o f Escalating false = refl

six_off : (o f : Bool) (r : Response) (a : Bool) → sent_for false 6 (sender o f r a) ≡ sent_for false 4 (sender o f r a)
unfolding sent_for sent sound_after
six_off o true Quiet true = refl
six_off o true Quiet false = refl
six_off o true Checking true = refl
six_off o true Checking false = refl
six_off o true Answering true = refl
six_off o true Answering false = refl
six_off o true Escalating true = refl
six_off o true Escalating false = refl
six_off o false Quiet true = refl
six_off o false Quiet false = refl
six_off o false Checking true = refl
six_off o false Checking false = refl
six_off o false Answering true = refl
six_off o false Answering false = refl
six_off o false Escalating true = refl
six_off o false Escalating false = refl

six : (on : Bool) (s : Sender) → sent_for on 6 s ≡ sent_for on 4 s
six true s = six_on s.on s.first s.sound.stands s.sound.answer
six false s = six_off s.on s.first s.sound.stands s.sound.answer

-- ticks after ticks
sent_add : (on : Bool) (a b : ℕ) (s : Sender) → sent_for on (a + b) s ≡ sent_for on a (sent_for on b s)
unfolding sent_for
sent_add on zero b s = ap (λ (n : ℕ). sent_for on n s) (zero-add b)
sent_add on (suc a) b s = ap (λ (n : ℕ). sent_for on n s) (suc-add a b) ∙ ap (λ (t : Sender). sent t (line_alone on)) (sent_add on a b s)

-- from the fourth tick on an even number of ticks more leaves the sender as it is
even : (on : Bool) (s : Sender) (j : ℕ) → sent_for on (j * 2 + 4) s ≡ sent_for on 4 s
even on s zero = refl
even on s (suc j) =
    let e : suc j * 2 + 4 ≡ j * 2 + 6 = omega arith in
    ap (λ (n : ℕ). sent_for on n s) e ∙ sent_add on (j * 2) 6 s ∙ ap (sent_for on (j * 2)) (six on s) ∙ sym (sent_add on (j * 2) 4 s) ∙ even on s j

-- any number of ticks in at most five
pub shorter : (on : Bool) (m : ℕ) (s : Sender) → sent_for on m s ≡ sent_for on (short m) s
unfolding short
shorter on m s = go (dec_lt m 4)
  where
    go : Dec (m < 4) → sent_for on m s ≡ sent_for on (cond (ltb m 4) m (4 + (m - 4) % 2)) s
    go (yes l) = ap (λ (b : Bool). sent_for on (cond b m (4 + (m - 4) % 2)) s) (sym (lt-ltb m 4 l))
    go (no l) =
        let i = (m - 4) % 2 in
        let j = (m - 4) / 2 in
        let e : m ≡ i + (j * 2 + 4) = omega (arith, div-add-mod' (m - 4) 2) in
        let f : i + 4 ≡ 4 + i = omega arith in
        ap (λ (n : ℕ). sent_for on n s) e
        ∙ sent_add on i (j * 2 + 4) s
        ∙ ap (sent_for on i) (even on s j)
        ∙ sym (sent_add on i 4 s)
        ∙ ap (λ (n : ℕ). sent_for on n s) f
        ∙ ap (λ (b : Bool). sent_for on (cond b m (4 + i)) s) (sym (le-ltb m 4 (omega arith)))

-- a tick or more are not none
short_some : (m : ℕ) → short (suc m) ≡ 0 → ⊥
unfolding short
short_some m e = go (dec_lt (suc m) 4)
  where
    go : Dec (suc m < 4) → ⊥
    go (yes l) = let z : suc m ≡ 0 = ap (λ (b : Bool). cond b (suc m) (4 + (suc m - 4) % 2)) (sym (lt-ltb (suc m) 4 l)) ∙ e in omega (arith, z)
    go (no l) = let z : 4 + (suc m - 4) % 2 ≡ 0 = ap (λ (b : Bool). cond b (suc m) (4 + (suc m - 4) % 2)) (sym (le-ltb (suc m) 4 (omega arith))) ∙ e in omega (arith, z)

-- ── the four, in words ──

-- after a tick at least they are the four senders one by one
pub for_by : (lit m : ℕ) (s : Senders) → senders_for lit (suc m) s ≡ senders_by (λ e. sent_for (bit lit e) (suc m) (sender_in s e))
unfolding senders_for sent_for
for_by lit zero s = refl
for_by lit (suc m) s =
    senders_ext (λ e. sent (sender_in (senders_for lit (suc m) s) e) (steady lit e)) (λ e. sent_for (bit lit e) (suc (suc m)) (sender_in s e))
    (λ e l. ap (λ (t : Sender). sent t (steady lit e))
    (ap (λ (z : Senders). sender_in z e) (for_by lit m s) ∙ sender_by (λ k. sent_for (bit lit k) (suc m) (sender_in s k)) e l))

pub for_short : (lit m : ℕ) (s : Senders) → senders_for lit m s ≡ senders_for lit (short m) s
unfolding short
for_short lit zero s = refl
for_short lit (suc m) s = go (short (suc m)) refl
  where
    go : (n : ℕ) → short (suc m) ≡ n → senders_for lit (suc m) s ≡ senders_for lit n s
    go zero e = absurd (short_some m e)
    go (suc n) e =
        for_by lit m s
        ∙ senders_ext (λ k. sent_for (bit lit k) (suc m) (sender_in s k)) (λ k. sent_for (bit lit k) (suc n) (sender_in s k))
        (λ k l. shorter (bit lit k) (suc m) (sender_in s k) ∙ ap (λ (x : ℕ). sent_for (bit lit k) x (sender_in s k)) e)
        ∙ sym (for_by lit n s)
