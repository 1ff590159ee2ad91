-- What the contracts of the installer and of the boundary's install call cite, the policy's boot of a lifecycle's number, satisfies the sentences.
-- Assumes nothing.
use Prim.Native.Nat.{ℕ, ◌≤◌, ◌<◌}
use mathlib.Core.Path.{◌≡◌, refl, sym, ap, ◌∙◌, subst}
use mathlib.Core.List.{List}
use native.Mathlib.Omega.{arith}
use borrow.Author.Tests.{ne_eqb, le-ltb}
use lib.IntN.{ℤ, pos}
use lib.ListN.{replicate}
use Rattle.boot_laws.specs.Stands.{Success}
use Rattle.boot_laws.proofs.Boot.{begins}
use Rattle.boot_laws.proofs.Boots.{boots, new_boots}
use Rattle.policy.specs.Install.{Ask, under, install}
use Rattle.policy.specs.Plan.{boot, lifecycle_of}
use Rattle.policy.specs.declared.Installed.{Installed}
use Rattle.policy.specs.declared.Lifecycle.{Lifecycle}
use Rattle.rules.specs.Answer.{number}
use Rattle.rules.specs.State.{made, new_handler}
use Rattle.rules.specs.Tick.{ticked}
use Rattle.rules.specs.Valid.{valid}
use Rattle.rules.specs.declared.Handler.{Handler}
use Rattle.rules.specs.declared.Made.{Made}
use Rattle.sentences.specs.Making.{Making}
use Rattle.sentences.specs.Valid.{Valid}
use Rattle.sentences.proofs.HoldsMaking.{holds_making}
use Rattle.sentences.proofs.HoldsValid.{holds_valid}
use Rattle.sentences.proofs.OnlyMaking.{only_making}
use Rattle.sentences.proofs.SentenceCases.{off}
use Rattle.sentences.proofs.Whole.{holds_whole}
use Rattle.boot_sentences.specs.Boots.{BootIs, Installer}
use Rattle.boot_sentences.specs.Course.{Returns, Course}
use Rattle.boot_sentences.specs.Stands.{Stands}
use Rattle.boot_sentences.proofs.HoldsCourse.{asks_in, turn_at, holds_course}
use Rattle.boot_sentences.proofs.HoldsOrder.{puts_of, places, turns_many, same_asks, holds_order}
use Rattle.boot_sentences.proofs.HoldsStands.{holds_stands, holds_unwritten}
use Rattle.boot_sentences.proofs.HoldsTurns.{turns_of, put_at, holds_turns}

-- the boot of a lifecycle's number
abbrev pub installed : ℕ → Handler → Installed
installed c h = boot (lifecycle_of c) h

-- ── one column ──

module _ (c : ℕ) (h : Handler) (l : c ≤ 5) where
  returned : (r : ℕ) (a : ℤ) → installed c h ≡ record { handler = h; answer = a; register = r; spare = replicate 6 0 } → Returns r a h (installed c h)
  returned r a e = subst (Returns r a h) (sym e) (record { register = refl; answer = refl; state = refl; spare = refl })

  runs : Valid h → 58 ≤ h.n → Course ticked number 609 (turn_at (turns_of (puts_of c))) h (installed c h)
  runs v n =
      subst (Course ticked number 609 (turn_at (turns_of (puts_of c))) h)
      (ap (λ (xs : List Ask). (install (under h) xs).reached) (same_asks c l) ∙ sym (begins (lifecycle_of c) h ((holds_valid h).1 v) n))
      (subst (λ (w : ℕ). Course ticked number w (turn_at (turns_of (puts_of c))) h (install (under h) (asks_in (turns_of (puts_of c)))).reached) (turns_many c l)
      (holds_course (turns_of (puts_of c)) h))

  pub is_boot : BootIs ticked number (turn_at (turns_of (puts_of c))) h (installed c h)
  is_boot =
      record {
        bad_state = λ v. returned 0 _ ((boots (lifecycle_of c) h).bad_state (off (valid h) (holds_valid h) v));
        few_alerts = λ v n. returned 0 _ ((boots (lifecycle_of c) h).few_alerts ((holds_valid h).1 v) n);
        begins = runs;
      }

-- any number over 5 is PROD_END's
pub over_five : (c : ℕ) → 5 < c → lifecycle_of c ≡ lifecycle_of 2
unfolding lifecycle_of
over_five c l =
    simp
    (ne_eqb c 0 (λ e. omega arith), ne_eqb c 1 (λ e. omega arith), ne_eqb c 2 (λ e. omega arith), ne_eqb c 3 (λ e. omega arith), ne_eqb c 4 (λ e. omega arith), ne_eqb c 5 (λ e. omega arith))

-- ── a new handler ──

made_new : (n : ℕ) → 58 ≤ n → n ≤ 248 → (made n).handler ≡ new_handler n
unfolding made
made_new n a b = simp (ne_eqb n 0 (λ e. omega arith), le-ltb 248 n b)

pub new_goes : (f : ℕ → Made) → Making f → (c n : ℕ) → 58 ≤ n → n ≤ 248 → ((installed c (f n).handler).register ≡ 0) × ((installed c (f n).handler).answer ≡ pos 0)
new_goes f m c n a b =
    let e : (f n).handler ≡ new_handler n = ap (λ (x : Made). x.handler) (only_making f made m holds_making n) ∙ made_new n a b in
    let s = (new_boots (lifecycle_of c) n).new_succeeds a b in (
      ap (λ (h : Handler). (installed c h).register) e ∙ ap (λ (x : Installed). x.register) s,
      ap (λ (h : Handler). (installed c h).answer) e ∙ ap (λ (x : Installed). x.answer) s,
    )

-- ── the installer ──

unfoldable pub holds_installer : Installer installed
holds_installer =
    record {
      tick = ticked;
      number = number;
      ticks = holds_whole;
      put = λ c. put_at (puts_of c);
      order = holds_order;
      turn = λ c. turn_at (turns_of (puts_of c));
      turns = λ c l. holds_turns (puts_of c) (places c l);
      lifecycles = λ c h l. is_boot c h l;
      over_five = λ c h l.
          subst (λ (x : Lifecycle). BootIs ticked number (turn_at (turns_of (puts_of 2))) h (boot x h)) (sym (over_five c l)) (is_boot 2 h (omega arith));
      unwritten = λ c h. holds_unwritten (lifecycle_of c) h;
      new_succeeds = new_goes;
      stands = λ c h l r a. holds_stands c h l (record { register = r; answer = a });
      stands_over_five = λ c h l r a.
          let e = over_five c l in
          subst (λ (x : Lifecycle). Stands 2 (boot x h).handler) (sym e)
          (holds_stands 2 h (omega arith) (subst (λ (x : Lifecycle). Success x h) e (record { register = r; answer = a })));
    }

-- each lifecycle of the installer's own has its number, so that its boot is one of these
pub has_number : (l : Lifecycle) → (c : ℕ) × (c ≤ 5) × (lifecycle_of c ≡ l)
unfolding lifecycle_of
has_number Lifecycle.Raw = (0, omega arith, refl)
has_number Lifecycle.Prod = (1, omega arith, refl)
has_number Lifecycle.ProdEnd = (2, omega arith, refl)
has_number Lifecycle.Dev = (3, omega arith, refl)
has_number Lifecycle.Rma = (4, omega arith, refl)
has_number Lifecycle.Scrap = (5, omega arith, refl)
