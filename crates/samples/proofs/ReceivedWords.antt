-- The words of 64 receivers as `receive` gives them, each at the places of its alerts; and the four of them together.
-- Assumes nothing.
use Prim.Native.Nat.{ℕ, ◌+◌, ◌*◌, ◌^◌, ◌<◌}
use mathlib.Core.Path.{◌≡◌, sym, ap, ap₂, ◌∙◌}
use mathlib.Core.Bool.{Bool, cond, ◌&&◌}
use mathlib.Core.List.{List, [], ◌∷◌}
use lib.Dec.{ltb}
use lib.ListN.{get_or}
use Rattle.bits.specs.Bits.{place}
use Rattle.bits.specs.Index.{each_from}
use Rattle.bits.proofs.BitLaws.{is_word64}
use Rattle.bits.proofs.WordLaws.{place_in_at}
use Rattle.link_rules.specs.Codes.{pausing_bit, busy_bit}
use Rattle.link_rules.specs.Receiver.{received}
use Rattle.link_rules.specs.declared.Received as one
use Rattle.link_rules.specs.declared.Receiver.{Receiver}
use Rattle.link_rules.proofs.CodeLaws.{pausing_back, busy_back}
use Rattle.rules.specs.Samples.{given_to}
use Rattle.rules.specs.State.{receiver_in}
use Rattle.rules.specs.declared.Receivers.{Receivers}
use Rattle.rules.specs.declared.Wires.{Wires}
use Rattle.samples.specs.Received.{receiver_of, given_of, ReceivedWord, receives, receiver_at, happens_at, answers_at, equal_at, ToldWord, ReceivedAll}
use Rattle.samples.specs.declared.receive.Word.{Word}
use Rattle.samples.specs.declared.receive.Told.{Told}
use Rattle.samples.specs.declared.receive.Received.{Received}

-- all words of what 64 alerts tell have 64 bits
pub record Small (t : Told) : Type 0 where
  pub pausing : t.word.pausing < 2 ^ 64
  pub busy : t.word.busy < 2 ^ 64
  pub level : t.word.level < 2 ^ 64
  pub pending : t.word.pending < 2 ^ 64
  pub events : t.events < 2 ^ 64
  pub answers : t.answers < 2 ^ 64
  pub equal : t.equal < 2 ^ 64

-- word v of the receivers
abbrev pub word_at : Receivers → ℕ → Word
word_at r v = record { pausing = get_or r.pausing v 0; busy = get_or r.busy v 0; level = get_or r.level v 0; pending = get_or r.pending v 0 }

module _ (n : ℕ) (r : Receivers) (asks : List ℕ) (w : Wires) (v live : ℕ) (t : Told) (counts : (b : ℕ) → b < 64 → place live b ≡ ltb (v * 64 + b) n)
    (e : ReceivedWord (word_at r v) (get_or asks v 0) (get_or w.pos v 0) (get_or w.neg v 0) live t) where
  -- the receiver of alert v * 64 + b, and what it is given
  receiver_is : (b : ℕ) → b < 64 → receiver_of (word_at r v) b ≡ receiver_in r (v * 64 + b)
  receiver_is b h = rw (place_in_at r.pausing v b h, place_in_at r.busy v b h, place_in_at r.level v b h, place_in_at r.pending v b h)

  given_is : (b : ℕ) → b < 64
      → given_of (get_or asks v 0) (get_or w.pos v 0) (get_or w.neg v 0) b ≡ given_to asks w (v * 64 + b)
  given_is b h = rw (place_in_at asks v b h, place_in_at w.pos v b h, place_in_at w.neg v b h)

  gives : (b : ℕ) → b < 64
      → received (given_of (get_or asks v 0) (get_or w.pos v 0) (get_or w.neg v 0) b) (receiver_of (word_at r v) b) ≡ receives n r asks w (v * 64 + b)
  gives b h = ap₂ received (given_is b h) (receiver_is b h)

  after_is : (b : ℕ) → b < 64 → receiver_of t.word b ≡ receiver_at n r asks w (v * 64 + b)
  after_is b h =
      e.receivers b h
      ∙ ap (λ (l : Bool). cond l (received (given_of (get_or asks v 0) (get_or w.pos v 0) (get_or w.neg v 0) b) (receiver_of (word_at r v) b)).receiver (receiver_of (word_at r v) b)) (counts b h)
      ∙ ap₂ (λ (x : one.Received) (y : Receiver). cond (ltb (v * 64 + b) n) x.receiver y) (gives b h) (receiver_is b h)

  told_event : (b : ℕ) → b < 64 → place t.events b ≡ happens_at n r asks w (v * 64 + b)
  told_event b h = e.happened b h ∙ ap₂ (λ (l : Bool) (x : one.Received). l && x.event) (counts b h) (gives b h)

  told_answer : (b : ℕ) → b < 64 → place t.answers b ≡ answers_at n r asks w (v * 64 + b)
  told_answer b h = e.answered b h ∙ ap₂ (λ (l : Bool) (x : one.Received). l && x.answer) (counts b h) (gives b h)

  told_equal : (b : ℕ) → b < 64 → place t.equal b ≡ equal_at n r asks w (v * 64 + b)
  told_equal b h = rw (e.equals b h, counts b h, place_in_at w.pos v b h, place_in_at w.neg v b h)

  pub told_word : Small t → ToldWord n r asks w v t
  told_word m =
      record {
        pausing =
            is_word64 t.word.pausing _ m.pausing
            (λ b h. sym (pausing_back (place t.word.pausing b) (place t.word.busy b)) ∙ ap (λ (x : Receiver). pausing_bit x.stands) (after_is b h));
        busy =
            is_word64 t.word.busy _ m.busy
            (λ b h. sym (busy_back (place t.word.pausing b) (place t.word.busy b)) ∙ ap (λ (x : Receiver). busy_bit x.stands) (after_is b h));
        level = is_word64 t.word.level _ m.level (λ b h. ap (λ (x : Receiver). x.level) (after_is b h));
        pending = is_word64 t.word.pending _ m.pending (λ b h. ap (λ (x : Receiver). x.pending) (after_is b h));
        happened = is_word64 t.events _ m.events told_event;
        answered = is_word64 t.answers _ m.answers told_answer;
        equals = is_word64 t.equal _ m.equal told_equal;
      }

-- the four words
abbrev pub joined : Told → Told → Told → Told → Received
joined a b c d =
    record {
      receivers =
          record {
            pausing = a.word.pausing ∷ b.word.pausing ∷ c.word.pausing ∷ d.word.pausing ∷ [];
            busy = a.word.busy ∷ b.word.busy ∷ c.word.busy ∷ d.word.busy ∷ [];
            level = a.word.level ∷ b.word.level ∷ c.word.level ∷ d.word.level ∷ [];
            pending = a.word.pending ∷ b.word.pending ∷ c.word.pending ∷ d.word.pending ∷ [];
          };
      events = a.events ∷ b.events ∷ c.events ∷ d.events ∷ [];
      answers = a.answers ∷ b.answers ∷ c.answers ∷ d.answers ∷ [];
      equal = a.equal ∷ b.equal ∷ c.equal ∷ d.equal ∷ [];
    }

pub received_all : (n : ℕ) (r : Receivers) (asks : List ℕ) (w : Wires) (a b c d : Told) → ToldWord n r asks w 0 a → ToldWord n r asks w 1 b → ToldWord n r asks w 2 c → ToldWord n r asks w 3 d
    → ReceivedAll n r asks w (joined a b c d)
unfolding each_from
received_all n r asks w a b c d ea eb ec ed =
    record {
      receivers =
          λ t. record {
            pausing = ea.pausing t ∷ eb.pausing t ∷ ec.pausing t ∷ ed.pausing t ∷ [];
            busy = ea.busy t ∷ eb.busy t ∷ ec.busy t ∷ ed.busy t ∷ [];
            level = ea.level t ∷ eb.level t ∷ ec.level t ∷ ed.level t ∷ [];
            pending = ea.pending t ∷ eb.pending t ∷ ec.pending t ∷ ed.pending t ∷ [];
          };
      happened = λ t. ea.happened t ∷ eb.happened t ∷ ec.happened t ∷ ed.happened t ∷ [];
      answered = λ t. ea.answered t ∷ eb.answered t ∷ ec.answered t ∷ ed.answered t ∷ [];
      equals = λ t. ea.equals t ∷ eb.equals t ∷ ec.equals t ∷ ed.equals t ∷ [];
    }
