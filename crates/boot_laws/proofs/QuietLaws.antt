-- Accesses that get the answer that is wanted, with wires at rest: no event comes.
-- Assumes nothing.
use Prim.Native.Nat.{ℕ, zero, suc, ◌+◌, ◌-◌, ◌/◌, ◌%◌, ◌^◌, ◌≤◌, ◌<◌}
use mathlib.Core.Path.{◌≡◌, refl, sym, ap, ◌∙◌}
use mathlib.Core.Bool.{Bool, true, false, false≢true, and-false, not, ◌&&◌, ◌||◌}
use mathlib.Core.Logic.{inl, inr}
use native.Mathlib.Omega.{arith}
use borrow.Author.Tests.{ne_eqb}
use lib.Dec.{eqb}
use lib.IntN.{ℤ}
use lib.ListN.{get_or-replicate}
use Rattle.std.specs.Prelude.{Ok, Err}
use Rattle.bits.proofs.BitLaws.{bit_none, bit_ones}
use Rattle.bits.proofs.IndexLaws.{any_none}
use Rattle.bits.specs.Bits.{bit, place}
use Rattle.bits.specs.Index.{any_to}
use Rattle.class_rules.specs.Class.{state_of}
use Rattle.class_rules.specs.declared.ClassState.TheVariants.{Idle}
use Rattle.laws.proofs.Samples.AtRest.{none_happened, none_broken}
use Rattle.laws.proofs.Map.Cases.{by_kind, by_setting}
use Rattle.laws.proofs.Samples.Heard.{heard_raise, unheard}
use Rattle.laws.proofs.Valid.KeepsAccess.{acted_valid}
use Rattle.laws.proofs.Tick.Quiet.{quiet_tick, quiet_waits}
use Rattle.laws.proofs.Tick.TimerOff.{none_fails}
use Rattle.laws.proofs.Samples.Raises.{accepted_raises, raised_0, raised_1, raised_3}
use Rattle.laws.proofs.Samples.Receivers.{acted_links}
use Rattle.laws.proofs.Valid.Refusal7.{ticked_handler}
use Rattle.laws.proofs.Access.Step1.{clears_if}
use Rattle.laws.proofs.Valid.ValidLaws.{facts}
use Rattle.laws.proofs.Access.Written.{ticked_answer}
use Rattle.laws.specs.InMap.{in_map}
use Rattle.laws.specs.Quiet.{AtRest, Silent, runs}
use Rattle.laws.specs.RegisterFile.{commits, plain}
use Rattle.laws.specs.StageFile.{names}
use Rattle.link_rules.specs.Pair.{equal, differ}
use Rattle.link_rules.specs.Senders.{line_count, sender_in}
use Rattle.link_rules.specs.Timer.{is_line, opens, open_now, fails}
use Rattle.rules.proofs.AnswerLaws.{refused_number}
use Rattle.rules.specs.Access.{value, verdict, accepts, accepted, is_clr_of, writes_clr, accessed_by, accessed, acted, answer_to, effects, clears}
use Rattle.rules.specs.Answer.{number, Verdict}
use Rattle.rules.specs.Map.{number_of}
use Rattle.rules.specs.Samples.{alert_broken, line_wrong, asks_for, raised, alert_event, occurs}
use Rattle.rules.specs.State.{most, words, local_count, class_count, local, class_at, sender}
use Rattle.rules.specs.Tick.{hears}
use Rattle.rules.specs.Valid.{valid}
use Rattle.rules.specs.declared.Access.{Access}
use Rattle.rules.specs.declared.Access.TheVariants.{Write}
use Rattle.rules.specs.declared.Answer.{Answer}
use Rattle.rules.specs.declared.Field.{Field}
use Rattle.rules.specs.declared.Handler.{Handler}
use Rattle.rules.specs.declared.Links.{Links}
use Rattle.rules.specs.declared.Refusal.{Refusal}
use Rattle.rules.specs.declared.Register.{Register}
use Rattle.rules.specs.declared.Sample.{Sample}
use Rattle.rules.specs.declared.Register.TheVariants.{Only, Local, Block}
use Rattle.rules.specs.declared.Single.TheVariants.{IntrState}
use Rattle.policy.specs.Install.{Ask, rest, is, write, read}
use Rattle.boot_laws.specs.Ran.{input_of, wants, reach}
use Rattle.boot_laws.specs.Stands.{NoPingEvent, Unasked}
use Rattle.boot_laws.proofs.AskLaws.{Kept, reach_kept}
use Rattle.boot_laws.proofs.EntryLaws.{Fit, names_it, spares, other_name, reach_stage}
use Rattle.boot_laws.proofs.InstallLaws.{Same}
use Rattle.boot_laws.proofs.NoPings.{Clear, Harmless, HarmlessPairs, Unwrong, write_keeps, read_keeps, write_harmless, read_harmless, write_harmless_pairs, read_harmless_pairs, write_local, read_local}

-- all wires at (0,1)
pub at_rest : (x : Access) → AtRest (rest x).sample.alerts
at_rest x =
    record {
      low = λ i l. let d : i / 64 < words = omega arith in
          ap (λ (y : ℕ). place y (i % 64)) (get_or-replicate words (i / 64) 0 0 d) ∙ bit_none (63 - i % 64);
      high = λ i l. let d : i / 64 < words = omega arith in
          ap (λ (y : ℕ). place y (i % 64)) (get_or-replicate words (i / 64) (2 ^ 64 - 1) 0 d) ∙ bit_ones 64 (63 - i % 64) (omega arith);
    }

-- a refusal is no answer that is wanted
refused_not : (m : Refusal) (v : ℕ) → is (number (Answer.Refused m)) v ≡ false
refused_not m v = ap (λ (z : ℤ). is z v) (refused_number m).2

pub wants_accepted : (h : Handler) (a : Ask) → valid h ≡ true → wants h a ≡ true → accepted h a.access ≡ true
unfolding answer_to accessed
wants_accepted h a t w = go (verdict h a.access) (ap (λ (x : Answer). is (number x) a.wanted) (sym (ticked_answer h (input_of a) t)) ∙ w)
  where
    go : (v : Verdict) → is (number (accessed_by v h a.access).answer) a.wanted ≡ true → accepts v ≡ true
    go (Ok tt) x = refl
    go (Err m) x = absurd (false≢true (sym (refused_not m a.wanted) ∙ x))

-- ── nothing comes of what step 2 hears in a tick of the boot that gets the answer that is wanted ──

module _ (h : Handler) (a : Ask) (t : valid h ≡ true) (w : wants h a ≡ true) (p : Harmless h a.access) (y : HarmlessPairs h a.access) where
  abbrev g : Handler
  g = acted h a.access

  abbrev s : Sample
  s = (input_of a).sample

  small : g.n ≤ most
  small = (facts g (acted_valid h a.access t)).n

  none_raised : (effects h a.access).raises ≡ 0
  none_raised = accepted_raises h a.access (wants_accepted h a t w)

  unbroken : (i : ℕ) → i < most → alert_broken g s.alerts i ≡ false
  unbroken = none_broken g (asks_for g s (effects h a.access)) s.alerts (at_rest a.access)

  -- no sender waits for a 1: the pairs (0,1) are right
  none_wrong : Unasked h → any_to (line_wrong g s) line_count ≡ false
  unfolding line_wrong
  none_wrong u = any_none (line_wrong g s) line_count right
    where
      is_right : (p m a : Bool) → p ≡ false → m ≡ true → a ≡ false → (equal p m || differ p a) ≡ false
      is_right p m a b c d = rw (b, c, d) refl

      right : (e : ℕ) → e < line_count → line_wrong g s e ≡ false
      right e l =
          is_right (bit 0 e) (bit 15 e) (sender g e).sound.answer (bit_none e) (bit_ones 4 e l)
          (ap (λ (z : Links). (sender_in z.senders e).sound.answer) (acted_links h a.access) ∙ u e l)

  -- but for local 0, 1 and 3 none is raised
  others : (j : ℕ) → (j ≡ 0 → ⊥) → (j ≡ 1 → ⊥) → (j ≡ 3 → ⊥) → raised g s (effects h a.access) j ≡ false
  unfolding raised
  others j x y z =
      simp (
        ne_eqb j 0 x,
        ne_eqb j 1 y,
        ne_eqb j 3 z,
        and-false (eqb j 2),
        any_none (alert_broken g s.alerts) g.n (λ i l. unbroken i (omega (arith, small, l))),
        none_raised,
        bit_none j,
      )

  -- none of these is: no ping fails, or local 0 and local 1 are disabled; no sender waits for a 1, or local 3 is; all wires are at (0,1), so not local 2; no
  -- write differs, so not local 5; no other can occur
  off : (j : ℕ) → j < local_count → (raised g s (effects h a.access) j && eqb (local g Field.En j) 1) ≡ false
  unfolding fails open_now opens
  off zero l = go p
    where
      go : Harmless h a.access → (raised g s (effects h a.access) 0 && eqb (local g Field.En 0) 1) ≡ false
      go (inl o) =
          ap (λ (b : Bool). b && eqb (local g Field.En 0) 1)
          (raised_0 h a.access g s ∙ ap (λ (b : Bool). b && not (is_line g.links.turn)) (none_fails h (input_of a) t o g.links.turn))
      go (inr e) = ap (λ (b : Bool). raised g s (effects h a.access) 0 && b) e.0 ∙ and-false (raised g s (effects h a.access) 0)
  off (suc zero) l = go p
    where
      go : Harmless h a.access → (raised g s (effects h a.access) 1 && eqb (local g Field.En 1) 1) ≡ false
      go (inl o) =
          ap (λ (b : Bool). b && eqb (local g Field.En 1) 1)
          (raised_1 h a.access g s ∙ ap (λ (b : Bool). b && is_line g.links.turn) (none_fails h (input_of a) t o g.links.turn))
      go (inr e) = ap (λ (b : Bool). raised g s (effects h a.access) 1 && b) e.1 ∙ and-false (raised g s (effects h a.access) 1)
  off (suc (suc (suc zero))) l = go y
    where
      go : HarmlessPairs h a.access → (raised g s (effects h a.access) 3 && eqb (local g Field.En 3) 1) ≡ false
      go (inl e) = ap (λ (b : Bool). raised g s (effects h a.access) 3 && b) e ∙ and-false (raised g s (effects h a.access) 3)
      go (inr u) = ap (λ (b : Bool). b && eqb (local g Field.En 3) 1) (raised_3 h a.access g s ∙ none_wrong u)
  off (suc (suc zero)) l = ap (λ (b : Bool). b && eqb (local g Field.En 2) 1) (others 2 (λ (z : 2 ≡ 0). omega (arith, z)) (λ (z : 2 ≡ 1). omega (arith, z)) (λ (z : 2 ≡ 3). omega (arith, z)))
  off (suc (suc (suc (suc j)))) l =
      ap (λ (b : Bool). b && eqb (local g Field.En (suc (suc (suc (suc j))))) 1)
      (others (suc (suc (suc (suc j)))) (λ (z : suc (suc (suc (suc j))) ≡ 0). omega (arith, z)) (λ (z : suc (suc (suc (suc j))) ≡ 1). omega (arith, z))
      (λ (z : suc (suc (suc (suc j))) ≡ 3). omega (arith, z)))

  boot_locals : (j : ℕ) → j < local_count → occurs g (hears h (input_of a)) j ≡ false
  unfolding hears occurs
  boot_locals j l = ap (λ (b : Bool). b && eqb (local g Field.En j) 1) (heard_raise g s (effects h a.access) j l) ∙ off j l

  -- and no alert has an event
  boot_alerts : (i : ℕ) → i < most → alert_event g (hears h (input_of a)) i ≡ false
  unfolding hears
  boot_alerts i l = unheard g s (effects h a.access) i l (none_happened g (asks_for g s (effects h a.access)) s.alerts (at_rest a.access) i l)

  boot_silent : Silent g (hears h (input_of a))
  boot_silent = record { alerts = boot_alerts; locals = boot_locals }

-- a plain register is no CLR
plain_clr : (k : ℕ) (q : Register) → plain q ≡ true → is_clr_of k q ≡ false
plain_clr k =
    by_kind P (λ o p. refl) (λ f j p. refl) (λ f i p. refl)
    (λ s j. by_setting (λ s. P (Block s j)) (λ p. refl) (λ p. refl) (λ p. refl) (λ p. absurd (false≢true p)) (λ p. refl) (λ p. refl) (λ p. refl)
    (λ i p. rw (ne_eqb (7 + i) 3 (λ (d : 7 + i ≡ 3). omega arith))) (λ p. refl) (λ p. refl) s) (λ p. refl)
  where
    P : Register → Type 0
    P q = plain q ≡ true → is_clr_of k q ≡ false

-- ── one tick that names q and gets the answer that is wanted ──

module _ (h f : Handler) (w : Kept h f) (q : Register) (v : ℕ) (k : Fit h.n q v) (u : Clear q) (p : NoPingEvent f) (z : Unwrong f) where
  in_f : in_map f.n q ≡ true
  in_f = ap (λ (n : ℕ). in_map n q) w.n ∙ k.exists

  -- it clears nothing
  no_clear : (x : Access) → ((j : ℕ) → writes_clr f x j ≡ false) → (j : ℕ) → j < class_count → clears f x j ≡ false
  no_clear x c j l = clears_if f x j l ∙ ap (λ (b : Bool). accepted f x && b) (c j) ∙ and-false (accepted f x)

  write_clr : (j : ℕ) → writes_clr f (Write (number_of q) v) j ≡ false
  write_clr j =
      ap (λ (p : Register). is_clr_of j p && eqb v 1) (names_it f w.good q v in_f k.takes) ∙ ap (λ (b : Bool). b && eqb v 1) (plain_clr j q k.takes)

  -- it leaves every other register but STATE, ESC_CNT and CLR_REGWEN, and every other stage
  module _ (o : Register) (a : in_map h.n o ≡ true) (r : runs o ≡ false) (d : number_of q ≡ number_of o → ⊥) where
    in_o : in_map f.n o ≡ true
    in_o = ap (λ (n : ℕ). in_map n o) w.n ∙ a

    same_by : (x : Ask) → Same o h f → wants f x ≡ true → Harmless f x.access → HarmlessPairs f x.access → ((j : ℕ) → writes_clr f x.access j ≡ false) → commits f x.access o ≡ false
        → names f x.access o ≡ false → Same o h (reach f x)
    same_by x s g n b c m y =
        record {
          kept = reach_kept h f x w;
          holds = ap (λ (e : Handler). value e o) (ticked_handler f (input_of x) w.good)
              ∙ quiet_tick f (input_of x) w.good (boot_silent f x w.good g n b) (no_clear x.access c) o in_o r m ∙ s.holds;
          staged = reach_stage f w.good o in_o x y ∙ s.staged;
        }

    pub quiet_write : Same o h f → wants f (write (number_of q) v) ≡ true → Same o h (reach f (write (number_of q) v))
    quiet_write s g =
        same_by (write (number_of q) v) s g (write_harmless f w.good q v in_f k.takes u p) (write_harmless_pairs f w.good q v in_f k.takes u z) write_clr
        (spares f w.good q v in_f k.takes o d) (other_name f w.good q v in_f k.takes o d)

    pub quiet_read : Same o h f → wants f (read (number_of q) v) ≡ true → Same o h (reach f (read (number_of q) v))
    quiet_read s g =
        same_by (read (number_of q) v) s g (read_harmless f w.good q v in_f k.takes u p) (read_harmless_pairs f w.good q v in_f k.takes u z) (λ j. refl) refl (other_name f w.good q v in_f k.takes o d)

  -- an Idle class whose interrupt bit is 0 stays Idle
  idle_by : (x : Ask) (j : ℕ) → j < class_count → wants f x ≡ true → Harmless f x.access → HarmlessPairs f x.access → ((i : ℕ) → writes_clr f x.access i ≡ false)
      → commits f x.access (Only IntrState) ≡ false
      → bit f.interrupts.state j ≡ false → state_of (class_at f j).state ≡ Idle → state_of (class_at (reach f x) j).state ≡ Idle
  idle_by x j l g n y c m b s =
      ap (λ (e : Handler). state_of (class_at e j).state) (ticked_handler f (input_of x) w.good)
      ∙ quiet_waits f (input_of x) w.good (boot_silent f x w.good g n y) (no_clear x.access c) j l m b s

  pub idle_write : (j : ℕ) → j < class_count → wants f (write (number_of q) v) ≡ true → (number_of q ≡ number_of (Only IntrState) → ⊥)
      → bit f.interrupts.state j ≡ false → state_of (class_at f j).state ≡ Idle → state_of (class_at (reach f (write (number_of q) v)) j).state ≡ Idle
  idle_write j l g d = idle_by (write (number_of q) v) j l g (write_harmless f w.good q v in_f k.takes u p) (write_harmless_pairs f w.good q v in_f k.takes u z) write_clr (spares f w.good q v in_f k.takes (Only IntrState) d)

  pub idle_read : (j : ℕ) → j < class_count → wants f (read (number_of q) v) ≡ true → bit f.interrupts.state j ≡ false
      → state_of (class_at f j).state ≡ Idle → state_of (class_at (reach f (read (number_of q) v)) j).state ≡ Idle
  idle_read j l g = idle_by (read (number_of q) v) j l g (read_harmless f w.good q v in_f k.takes u p) (read_harmless_pairs f w.good q v in_f k.takes u z) (λ i. refl) refl

  -- and where no failing ping is an event, none becomes one
  pub pings_write : NoPingEvent (reach f (write (number_of q) v))
  pings_write = write_keeps f w.good q v in_f k.takes u p

  pub pings_read : NoPingEvent (reach f (read (number_of q) v))
  pings_read = read_keeps f w.good q v in_f k.takes u p

  -- local 3 is enabled or disabled as before
  pub three_write : value (reach f (write (number_of q) v)) (Local Field.En 3) ≡ value f (Local Field.En 3)
  three_write = write_local f w.good q v in_f k.takes u 3 (omega arith)

  pub three_read : value (reach f (read (number_of q) v)) (Local Field.En 3) ≡ value f (Local Field.En 3)
  three_read = read_local f w.good q v in_f k.takes u 3 (omega arith)
