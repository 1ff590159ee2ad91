-- Request (xi), the lines' senders through a tick, and the escalation pairs that it puts out.
-- Assumes nothing.
use Prim.Native.Nat.{ℕ, ◌<◌}
use mathlib.Core.Path.{◌≡◌, refl, ap, ◌∙◌}
use mathlib.Core.Bool.{Bool, true, false, not, ◌&&◌}
use lib.Dec.{eqb}
use Rattle.bits.specs.Bits.{bit}
use Rattle.bits.proofs.BitLaws.{bit_bits_of}
use Rattle.link_rules.specs.Codes.{last_bit}
use Rattle.link_rules.specs.EscalationReceiver.{response_after, sound_after}
use Rattle.link_rules.specs.Sender.{pair, sent}
use Rattle.link_rules.specs.Senders.{line_count, sender_in}
use Rattle.link_rules.specs.Timer.{is_line, line_of, opens}
use Rattle.link_rules.specs.declared.Drive.{Drive}
use Rattle.link_rules.specs.declared.Response.{Response}
use Rattle.link_rules.specs.declared.Response.TheVariants.{Quiet, Checking, Answering, Escalating}
use Rattle.link_rules.specs.declared.Sender.{Sender}
use Rattle.rules.specs.Access.{acted}
use Rattle.rules.specs.Samples.{heard}
use Rattle.rules.specs.State.{sender}
use Rattle.rules.specs.Tick.{lines, driven, line_pairs, escalation_pairs, hears, reached, after}
use Rattle.rules.specs.declared.Handler.{Handler}
use Rattle.rules.specs.declared.Input.{Input}
use Rattle.rules.specs.declared.LinePairs.{LinePairs}
use Rattle.rules.specs.declared.Links.{Links}
use Rattle.laws.specs.Pinging.{meets_in}
use Rattle.laws.specs.Sending.{drive_in}
use Rattle.laws.proofs.Samples.Receivers.{acted_links}
use Rattle.laws.proofs.Tick.Links.{linked_sender}

-- ── a line's sender after the tick ──

pub after_sender : (h : Handler) (x : Input) (e : ℕ) → e < line_count → sender (after h x) e ≡ sent (sender h e) (drive_in h x e)
unfolding after lines driven hears heard opens
after_sender h x e l =
    linked_sender (acted h x.access) (hears h x) (lines (reached h x)) e l
    ∙ ap (λ (z : Links).
    sent (sender_in z.senders e)
    (record { line = bit (lines (reached h x)) e; ping = opens (meets_in h x) z.turn && (is_line z.turn && eqb e (line_of z.turn)) }))
    (acted_links h x.access)

-- ── the escalation pairs ──

-- the pair (1,0) where b holds, else (0,1)
abbrev pub IsLinePair : LinePairs → ℕ → Bool → Type 0
IsLinePair w e b = (bit w.pos e ≡ b) × (bit w.neg e ≡ not b)

pub line_pairs_at : (f : ℕ → Bool) (e : ℕ) → e < line_count → IsLinePair (line_pairs f) e (f e)
line_pairs_at f e l = (bit_bits_of line_count f e l, bit_bits_of line_count (λ k. not (f k)) e l)

-- by what the sender sent last
pub escalation_at : (g : Handler) (e : ℕ) → e < line_count → IsLinePair (escalation_pairs g) e (last_bit (sender g e).sound.stands)
unfolding escalation_pairs
escalation_at g e l = line_pairs_at (λ k. last_bit (sender g k).sound.stands) e l

last_after : (r : Response) (p : Bool) → last_bit (response_after r p) ≡ p
last_after Quiet true = refl
last_after Quiet false = refl
last_after Checking true = refl
last_after Checking false = refl
last_after Answering true = refl
last_after Answering false = refl
last_after Escalating true = refl
last_after Escalating false = refl

pub last_sent : (s : Sender) (d : Drive) → last_bit (sent s d).sound.stands ≡ pair s d
unfolding sent sound_after
last_sent s d = last_after s.sound.stands (pair s d)

-- so in a tick it is the pair that the sender sends in it
pub after_escalation : (h : Handler) (x : Input) (e : ℕ) → e < line_count → IsLinePair (escalation_pairs (after h x)) e (pair (sender h e) (drive_in h x e))
after_escalation h x e l =
    let c : last_bit (sender (after h x) e).sound.stands ≡ pair (sender h e) (drive_in h x e) =
    ap (λ (s : Sender). last_bit s.sound.stands) (after_sender h x e l) ∙ last_sent (sender h e) (drive_in h x e) in
    let w = escalation_at (after h x) e l in (w.0 ∙ c, w.1 ∙ ap not c)
