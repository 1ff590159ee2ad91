-- No sentence of the calls is missing. Nothing here knows the rules' definitions.
-- Assumes nothing.
use Prim.Native.Nat.{ℕ, zero, suc, ◌*◌, ◌≤◌, ◌<◌}
use mathlib.Core.Path.{◌≡◌, refl, sym, ◌∙◌, subst}
use mathlib.Core.List.{List, []}
use native.Mathlib.Omega.{arith}
use native.Mathlib.Decide.{ℕ_discrete}
use lib.IntN.{ℤ}
use lib.ListN.{get_or, length}
use lib.Seq.{ext_get_or}
use Rattle.boundary.specs.declared.Wired.{Wired}
use Rattle.rules.specs.declared.Access.{Access}
use Rattle.rules.specs.declared.Input.{Input}
use Rattle.trace_sentences.specs.Writers.{no_input, entry, WriteIs}
use Rattle.trace_sentences.proofs.OnlyWriters.{SameWrite, same_refuses, same_write}
use Rattle.trace_sentences.proofs.BytePlaces.{dec_or, dec_not}
use Rattle.call_sentences.specs.Arguments.{TickInput, TickInputs, Lists, EntryIs, FourOf, ListIs, Uneven, Words, WriteCall, WriteCalls}

module _ (register value : ℕ) (w : Wired) (x y : Input) where
  same_access : (kind : ℕ) → TickInput kind register value w x → TickInput kind register value w y → x.access ≡ y.access
  same_access zero a b = a.nothing refl ∙ sym (b.nothing refl)
  same_access (suc zero) a b = a.read refl ∙ sym (b.read refl)
  same_access (suc (suc zero)) a b = a.write refl ∙ sym (b.write refl)
  same_access (suc (suc (suc k))) a b = let l : 3 ≤ suc (suc (suc k)) = omega arith in a.other l ∙ sym (b.other l)

pub only_tick_inputs : (f g : ℕ → ℕ → ℕ → Wired → Input) → TickInputs f → TickInputs g → (kind register value : ℕ) (w : Wired) → f kind register value w ≡ g kind register value w
only_tick_inputs f g a b kind register value w =
    let x = f kind register value w in
    let y = g kind register value w in
    let p = a kind register value w in
    let q = b kind register value w in
    λ i.
    record {
      access = same_access register value w x y kind p q i;
      sample = record { alerts = (p.alerts ∙ sym q.alerts) i; word = (p.word ∙ sym q.word) i; receive = (p.receive ∙ sym q.receive) i };
    }

-- ── a writing ──

same_entry : (kind register value : ℕ) (a b : Access) → EntryIs kind register value a → EntryIs kind register value b → a ≡ b
same_entry zero register value a b x y = go (ℕ_discrete register 0) (ℕ_discrete value 0)
  where
    go : Dec (register ≡ 0) → Dec (value ≡ 0) → a ≡ b
    go (yes r) (yes v) = x.nothing refl r v ∙ sym (y.nothing refl r v)
    go (no f) v = x.nothing_register refl f ∙ sym (y.nothing_register refl f)
    go (yes r) (no f) = x.nothing_value refl f ∙ sym (y.nothing_value refl f)
same_entry (suc zero) register value a b x y = go (ℕ_discrete value 0)
  where
    go : Dec (value ≡ 0) → a ≡ b
    go (yes v) = x.read refl v ∙ sym (y.read refl v)
    go (no f) = x.read_value refl f ∙ sym (y.read_value refl f)
same_entry (suc (suc zero)) register value a b x y = x.write refl ∙ sym (y.write refl)
same_entry (suc (suc (suc k))) register value a b x y = let l : 3 ≤ suc (suc (suc k)) = omega arith in x.other l ∙ sym (y.other l)

same_four : (list : List ℕ) (i : ℕ) (ws vs : List ℕ) → FourOf list i ws → FourOf list i vs → ws ≡ vs
same_four list i ws vs x y =
    ext_get_or 0 ws vs (x.four ∙ sym y.four) (λ v l. let k : v < 4 = omega (arith, x.four) in x.word v k ∙ sym (y.word v k))

module _ (l : Lists) where
  same_lists : (xs ys : List Input) → ListIs l xs → ListIs l ys → xs ≡ ys
  same_lists xs ys x y = ext_get_or no_input xs ys (x.many ∙ sym y.many) (λ i h. at i (omega (arith, x.many)))
    where
      at : (i : ℕ) → i < length l.kinds → entry xs i ≡ entry ys i
      at i h = λ j.
          record {
            access =
                same_entry (get_or l.kinds i 0) (get_or l.registers i 0) (get_or l.values i 0) (entry xs i).access (entry ys i).access (x.access i h)
                (y.access i h) j;
            sample = record {
              alerts = record {
                pos = same_four l.positive i (entry xs i).sample.alerts.pos (entry ys i).sample.alerts.pos (x.pos i h) (y.pos i h) j;
                neg = same_four l.negative i (entry xs i).sample.alerts.neg (entry ys i).sample.alerts.neg (x.neg i h) (y.neg i h) j;
              };
              word = (x.word i h ∙ sym (y.word i h)) j;
              receive = (x.receive i h ∙ sym (y.receive i h)) j;
            };
          }

  dec_uneven : Dec (Uneven l)
  dec_uneven =
      dec_or (dec_not (ℕ_discrete (length l.registers) (length l.kinds)))
      (dec_or (dec_not (ℕ_discrete (length l.values) (length l.kinds)))
      (dec_or (dec_not (ℕ_discrete (length l.positive) (length l.kinds * 4)))
      (dec_or (dec_not (ℕ_discrete (length l.negative) (length l.kinds * 4)))
      (dec_or (dec_not (ℕ_discrete (length l.entropy) (length l.kinds)))
      (dec_or (dec_not (ℕ_discrete (length l.receive_positive_law) (length l.kinds)))
      (dec_not (ℕ_discrete (length l.receive_negative_law) (length l.kinds))))))))

  pub same_call : (buffer : List ℕ) (a b : ℤ) (left kept : List ℕ) → WriteCall l buffer a left → WriteCall l buffer b kept → SameWrite a b left kept
  same_call buffer a b left kept x y = go dec_uneven
    where
      go : Dec (Uneven l) → SameWrite a b left kept
      go (yes u) = same_refuses [] buffer a b left kept 10 (x.uneven u) (y.uneven u)
      go (no f) =
          let p = x.writes f in
          let q = y.writes f in
          let e = same_lists p.0 q.0 p.1 q.1 in
          same_write p.0 buffer a b left kept p.2 (subst (λ (xs : List Input). WriteIs xs buffer b kept) (sym e) q.2)

pub only_write_calls : (f g : Lists → List ℕ → ℤ) (m k : Lists → List ℕ → List ℕ) → WriteCalls f m → WriteCalls g k → (l : Lists) (buffer : List ℕ)
    → Words l → SameWrite (f l buffer) (g l buffer) (m l buffer) (k l buffer)
only_write_calls f g m k x y l buffer w = same_call l buffer (f l buffer) (g l buffer) (m l buffer) (k l buffer) (x l buffer w) (y l buffer w)
