-- `receive::receive_all` meets its contract: word by word.
-- Assumes nothing.
use Prim.Native.Nat.{ℕ, ◌<◌}
use mathlib.Core.Path.{◌∙◌}
use borrow.Author.Rules.{rules}
use lib.ListN.{get_or}
use Rattle.bits.proofs.IndexLaws.{is_each}
use Rattle.masks.proofs.Made.{made_by, mapped}
use Rattle.rules.specs.State.{words}
use Rattle.samples.specs.Received.{ToldWord}
use Rattle.samples.specs.declared.receive.Told.{Told}
use Rattle.samples.proofs.receive.receive_all.Goals as goal

no_told : Told
no_told = record { word = record { pausing = 0; busy = 0; level = 0; pending = 0 }; events = 0; answers = 0; equal = 0 }

pub returns : goal.returns
returns c =
    let a = c.args in
    let told : (v : ℕ) → v < words → ToldWord a.n a.r a.asks a.w v (get_or c.from_fn-told.result v no_told) =
    made_by _ _ (ToldWord a.n a.r a.asks a.w) (λ v y q k. search rules) c.from_fn-told.ensures.items no_told in
    record {
      receivers = λ t. record {
        pausing = (is_each words c.map.result _ 0 c.map.ensures.items.long (λ v l. mapped _ _ (λ (t : Told). t.word.pausing) (λ x y q k. search rules) c.map.ensures.items no_told 0 v l ∙ (told v l).pausing)) t;
        busy = (is_each words c.map-2.result _ 0 c.map-2.ensures.items.long (λ v l. mapped _ _ (λ (t : Told). t.word.busy) (λ x y q k. search rules) c.map-2.ensures.items no_told 0 v l ∙ (told v l).busy)) t;
        level = (is_each words c.map-3.result _ 0 c.map-3.ensures.items.long (λ v l. mapped _ _ (λ (t : Told). t.word.level) (λ x y q k. search rules) c.map-3.ensures.items no_told 0 v l ∙ (told v l).level)) t;
        pending = (is_each words c.map-4.result _ 0 c.map-4.ensures.items.long (λ v l. mapped _ _ (λ (t : Told). t.word.pending) (λ x y q k. search rules) c.map-4.ensures.items no_told 0 v l ∙ (told v l).pending)) t;
      };
      happened = is_each words c.map-5.result _ 0 c.map-5.ensures.items.long (λ v l. mapped _ _ (λ (t : Told). t.events) (λ x y q k. search rules) c.map-5.ensures.items no_told 0 v l ∙ (told v l).happened);
      answered = is_each words c.map-6.result _ 0 c.map-6.ensures.items.long (λ v l. mapped _ _ (λ (t : Told). t.answers) (λ x y q k. search rules) c.map-6.ensures.items no_told 0 v l ∙ (told v l).answered);
      equals = is_each words c.map-7.result _ 0 c.map-7.ensures.items.long (λ v l. mapped _ _ (λ (t : Told). t.equal) (λ x y q k. search rules) c.map-7.ensures.items no_told 0 v l ∙ (told v l).equals);
    }
