-- The second statement of one line once more, taken from the theorem over every list, pair and tick, in raw wires. A claim that says less, or asks for more
-- (what is sent or seen left open, a pulse that is longer, one direction alone), does not give it.
-- Assumes nothing.
use Prim.Native.Nat.{ℕ, zero, suc, ◌<◌}
use mathlib.Core.Path.{◌≡◌, refl, sym, ap, ap₂, ◌∙◌}
use mathlib.Core.Logic.{◌↔◌, ◌⊎◌, inl, inr}
use mathlib.Core.Bool.{Bool, true, false, false≢true, true≢false, not, ◌&&◌, ◌||◌}
use mathlib.Core.List.{List, [], ◌∷◌}
use native.Mathlib.Omega.{arith}
use lib.ListN.{get_or, length, take}
use Rattle.link_rules.proofs.Seen.{was_pair, sees_exactly, sends, theorem}
use Rattle.link_rules.specs.Codes.{last_bit}
use Rattle.link_rules.specs.EscalationReceiver.{escalates, listeneds, responds_positive, responds_negative}
use Rattle.link_rules.specs.Pair.{equal, differ}
use Rattle.link_rules.specs.Seen.{pulse_at}
use Rattle.link_rules.specs.Sender.{sent, sents, pairs}
use Rattle.link_rules.specs.declared.Drive.{Drive}
use Rattle.link_rules.specs.declared.EscalationReceiver.{EscalationReceiver}
use Rattle.link_rules.specs.declared.Response.TheVariants.{Quiet}
use Rattle.link_rules.specs.declared.Sender.{Sender}

-- an answer that is not wrong
pub was_right : (p m a : Bool) → (equal p m || differ p a) ≡ false → (p ≡ not m) × (p ≡ a)
was_right true true a w = absurd (true≢false w)
was_right false false a w = absurd (true≢false w)
was_right true false true w = (refl, refl)
was_right true false false w = absurd (true≢false w)
was_right false true true w = absurd (true≢false w)
was_right false true false w = (refl, refl)

-- ── a new receiver on sound wires: ps says in which ticks the pair is on, whoever sends it ──

module _ (ps : List Bool) where
  -- before tick i: new before the first, quiet and answering 0; then tick by tick
  abbrev receiver : ℕ → EscalationReceiver
  receiver i = listeneds (record { sound = record { stands = Quiet; answer = false }; broken = false }) (take i ps)

  abbrev on : ℕ → Bool
  on i = get_or ps i false

  abbrev sees : ℕ → Bool
  sees i = escalates (receiver i) (on i) (not (on i))

  -- where its pair is on in this tick and the one before, and only there
  exactly : (i : ℕ) → (sees (suc i) ≡ true) ↔ ((on (suc i) ≡ true) × (on i ≡ true))
  exactly i = (sees_exactly ps).exactly (suc i)

  not_in_the_first : sees 0 ≡ false
  not_in_the_first = go (sees 0) refl
    where
      go : (b : Bool) → sees 0 ≡ b → b ≡ false
      go true e = sym (((sees_exactly ps).exactly 0).0 e).1
      go false e = refl

-- ── a new sender, given ds, and a new receiver at the other end of its pair ──

module _ (ds : List Drive) where
  abbrev fresh : Sender
  fresh = record { on = false; first = false; sound = record { stands = Quiet; answer = false } }

  -- before tick i; the line, and a ping that opens, in it; the pair that is sent
  abbrev sender : ℕ → Sender
  sender i = sents fresh (take i ds)

  abbrev given : ℕ → Drive
  given i = get_or ds i (record { line = false; ping = false })

  abbrev line : ℕ → Bool
  line i = (given i).line

  abbrev wire : List Bool
  wire = pairs fresh ds

  abbrev is_on : ℕ → Bool
  is_on i = get_or wire i false

  -- a ping's pulse is on the wire: it opens, the line is off and the pair was off in the tick before, as the sender has it
  abbrev Pulse : ℕ → Type 0
  Pulse i = ((given i).ping ≡ true) × (line i ≡ false) × (last_bit (sender i).sound.stands ≡ false)

  pulse : (i : ℕ) → Pulse i → pulse_at ds i ≡ true
  pulse i p = ap₂ ◌&&◌ p.0 (ap₂ (λ (a b : Bool). not a && not b) p.1 p.2)

  -- ── what is sent ──

  was_on : (s : Sender) (cs : List Drive) (i : ℕ) → suc i < length cs → last_bit (sents s (take (suc i) cs)).sound.stands ≡ get_or (pairs s cs) i false
  unfolding sents pairs
  was_on s [] i l = absurd (omega (arith, l))
  was_on s (d ∷ cs) zero l = was_pair s d
  was_on s (d ∷ cs) (suc i) l = was_on (sent s d) cs i (omega (arith, l))

  -- a line that is on, the tick after the first of its being on, and a ping's pulse where line and pair are off; nothing else
  pair_first : 0 < length ds → is_on 0 ≡ (line 0 || ((given 0).ping && not (line 0)))
  unfolding sents
  pair_first l = (sends ds).pair_is 0 l ∙ table (line 0) (given 0).ping
    where
      table : (a b : Bool) → ((a || false) || (b && (not a && true))) ≡ (a || (b && not a))
      table true b = refl
      table false true = refl
      table false false = refl

  pair_second : 1 < length ds → is_on 1 ≡ ((line 1 || line 0) || ((given 1).ping && (not (line 1) && not (is_on 0))))
  pair_second l =
      (sends ds).pair_is 1 l ∙ ap (λ (b : Bool). (line 1 || line 0) || ((given 1).ping && (not (line 1) && not b))) (was_on fresh ds 0 l)

  pair_later : (i : ℕ) → suc (suc i) < length ds
      → is_on (suc (suc i))
      ≡ ((line (suc (suc i)) || (line (suc i) && not (line i))) || ((given (suc (suc i))).ping && (not (line (suc (suc i))) && not (is_on (suc i)))))
  pair_later i l =
      (sends ds).pair_is (suc (suc i)) l
      ∙ ap (λ (b : Bool). (line (suc (suc i)) || (line (suc i) && not (line i))) || ((given (suc (suc i))).ping && (not (line (suc (suc i))) && not b)))
      (was_on fresh ds (suc i) l)

  -- a pulse is one tick long: off before it, and after it on only if the line is
  off_before : (i : ℕ) → Pulse (suc i) → is_on i ≡ false
  off_before i p = (sends ds).off_before (suc i) (pulse (suc i) p)

  off_after : (i : ℕ) → Pulse i → is_on (suc i) ≡ line (suc i)
  off_after i p = (sends ds).off_after i (pulse i p)

  -- ── what is seen ──

  abbrev sees_it : ℕ → Bool
  sees_it i = sees wire i

  exactly_there : (i : ℕ) → (sees_it (suc i) ≡ true) ↔ ((is_on (suc i) ≡ true) × (is_on i ≡ true))
  exactly_there i = (theorem ds).exactly.exactly (suc i)

  never_in_ping : (i : ℕ) → Pulse i → sees_it i ≡ false
  never_in_ping i p = (theorem ds).never_in_ping i (pulse i p)

  never_after_ping : (i : ℕ) → Pulse i → sees_it (suc i) ≡ line (suc i)
  never_after_ping i p = (theorem ds).never_after_ping i (pulse i p)

  only_lines : (i : ℕ) → sees_it (suc i) ≡ true → (line (suc i) ≡ true) ⊎ (line i ≡ true)
  only_lines i = (theorem ds).only_lines (suc i)

  only_lines_first : sees_it 0 ≡ true → line 0 ≡ true
  only_lines_first s = go ((theorem ds).only_lines 0 s)
    where
      go : (line 0 ≡ true) ⊎ (false ≡ true) → line 0 ≡ true
      go (inl o) = o
      go (inr o) = absurd (false≢true o)

  every_line : (i : ℕ) → suc i < length ds → line i ≡ true → (sees_it i ≡ true) ⊎ (sees_it (suc i) ≡ true)
  every_line = (theorem ds).every_line

  -- what the receiver answers is right: wires that differ, and the answer that the sender waits for
  never_wrong : (i : ℕ)
      → (responds_positive (receiver wire i) ≡ not (responds_negative (receiver wire i))) × (responds_positive (receiver wire i) ≡ (sender i).sound.answer)
  never_wrong i =
      was_right (responds_positive (receiver wire i)) (responds_negative (receiver wire i)) (sender i).sound.answer ((theorem ds).never_wrong i)
