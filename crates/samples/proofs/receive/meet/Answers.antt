-- `receive::meet` meets its contract: its words, read at each place.
-- Assumes nothing.
use Prim.Native.Nat.{◌<◌, ◌^◌}
use borrow.Author.Rules.{rules}
use Rattle.samples.proofs.ReceiverWords.{receiver_place, event_place, answer_place, equal_place}
use Rattle.samples.proofs.receive.meet.Goals as goal

pub returns : goal.returns
returns c =
    let x = c.args in
    let w = x.w in
    let ha : w.pausing < 2 ^ 64 = search rules in
    let hb : w.busy < 2 ^ 64 = search rules in
    let ho : w.pending < 2 ^ 64 = search rules in
    let hp : x.p < 2 ^ 64 = search rules in
    let hq : x.q < 2 ^ 64 = search rules in
    let hl : x.live < 2 ^ 64 = search rules in
    record {
      receivers = λ i h. receiver_place w.pausing w.busy w.level w.pending x.asks x.p x.q x.live ha hb ho hp hq i h hl;
      happened = λ i h. event_place w.pausing w.busy w.level w.pending x.asks x.p x.q x.live ha hb ho hp hq i h hl;
      answered = λ i h. answer_place w.pausing w.busy w.level w.pending x.asks x.p x.q x.live ha hb ho hp hq i h hl;
      equals = λ i h. equal_place w.pausing w.busy w.level w.pending x.asks x.p x.q x.live ha hb ho hp hq i h hl;
    }
