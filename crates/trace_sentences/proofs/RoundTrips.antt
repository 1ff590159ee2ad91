-- Request (ii)'s two round trips, of any reader and any record that satisfy the sentences.
-- Assumes nothing.
use Prim.Native.Nat.{ℕ, ◌-◌, ◌≤◌, ◌<◌}
use mathlib.Core.Path.{◌≡◌, refl, sym, ap, ◌∙◌}
use mathlib.Core.List.{List}
use native.Mathlib.Omega.{arith}
use lib.ListN.{get_or, length}
use Rattle.bits.specs.Bits.{bit}
use Rattle.bits.specs.Index.{place_in}
use Rattle.trace_rules.specs.declared.Edition.{Edition}
use Rattle.trace_rules.specs.declared.Edition.TheVariants.{Wires}
use Rattle.rules.specs.declared.Input.{Input}
use Rattle.rules.specs.declared.Receive.{Receive}
use Rattle.trace_sentences.specs.RecordBits.{form, Bad, Reader}
use Rattle.trace_sentences.specs.Writers.{RecordOf}
use Rattle.trace_sentences.proofs.OnlyRecords.{same_access, some_kind}
use Rattle.trace_sentences.proofs.OnlyWriters.{same_record}

module _ (read : Edition → List ℕ → Input) (r : Reader read) where
  -- "Reading what was written gives the same accesses and samples"
  pub record ReadBack (x : Input) (bytes : List ℕ) : Type 0 where
    pub access : (read Wires bytes).access ≡ x.access
    pub positive : (i : ℕ) → i < 248 → place_in (read Wires bytes).sample.alerts.pos i ≡ place_in x.sample.alerts.pos i
    pub negative : (i : ℕ) → i < 248 → place_in (read Wires bytes).sample.alerts.neg i ≡ place_in x.sample.alerts.neg i
    -- request (ix): the same 32 bits of the word; request (xi): the same receive pairs of the four lines
    pub word : (k : ℕ) → k < 32 → bit (read Wires bytes).sample.word k ≡ bit x.sample.word k
    pub pairs : (p m q o : ℕ) × (x.sample.receive ≡ Receive.Pairs p m) × ((read Wires bytes).sample.receive ≡ Receive.Pairs q o)
        × ((l : ℕ) → l < 4 → (bit q l ≡ bit p l) × (bit o l ≡ bit m l))

  pub read_written : (x : Input) (bytes : List ℕ) → RecordOf x bytes → ReadBack x bytes
  read_written x bytes w =
      let p = w.access in
      let h = r Wires bytes p.size p.byte in
      let k = some_kind Wires bytes p.size p.byte in
      record {
        access = same_access Wires bytes k.0 k.1 (read Wires bytes) p.held.0 h p.held.1 ∙ p.held.2;
        positive = λ i l. h.positive.wire i l ∙ w.positive i l;
        negative = λ i l. h.negative.wire i l ∙ w.negative i l;
        word = λ j l.
            let e : 31 - (31 - j) ≡ j = omega arith in
            let m : 31 - j < 32 = omega arith in
            ap (bit (read Wires bytes).sample.word) (sym e) ∙ h.word.bits (31 - j) m ∙ w.word (31 - j) m ∙ ap (bit x.sample.word) e;
        pairs =
            let (p, m, d, y) = w.pairs in let (q, o, a, i, j, e) = h.receive.pairs refl in
            (p, m, q, o, d, e, λ l b. (a.positive l b ∙ sym (y.positive l b), a.negative l b ∙ sym (y.negative l b)));
      }

  -- "and writing what was read gives the same bytes for every well-formed record"
  pub written_read : (bytes other : List ℕ) → length bytes ≡ 75 → ((i : ℕ) → get_or bytes i 0 ≤ 255) → ¬ Bad (form Wires) bytes
      → RecordOf (read Wires bytes) other → other ≡ bytes
  written_read bytes other l b f w =
      let h = r Wires bytes l b in
      same_record (read Wires bytes) other bytes w
      (record {
        access = record { size = l; byte = b; well_formed = f; held = (read Wires bytes, h, refl) };
        positive = λ i m. sym (h.positive.wire i m);
        negative = λ i m. sym (h.negative.wire i m);
        word = λ i m. sym (h.word.bits i m);
        pairs = let (q, o, a, i, j, e) = h.receive.pairs refl in (q, o, e, a);
      })
