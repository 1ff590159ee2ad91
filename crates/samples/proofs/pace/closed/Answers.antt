-- `pace::closed` meets its contract: word by word.
-- Assumes nothing.
use Rattle.std.proofs.Common.{rules, ◌≡◌}
use Rattle.bits.specs.Index.{each}
use Rattle.masks.proofs.Made.{made}
use Rattle.rules.specs.State.{words}
use Rattle.samples.specs.Paced.{closed_word}
use Rattle.samples.proofs.pace.closed.Goals as goal

pub returns : goal.returns
returns c =
    let a = c.args in
    let e : c.from_fn.result ≡ each words (closed_word a.n a.r.pending a.fails a.i) =
    made _ _ (closed_word a.n a.r.pending a.fails a.i) (λ v y q k. search rules) 0 c.from_fn.ensures.items in
    λ t. record { pausing = a.r.pausing; busy = a.r.busy; level = a.r.level; pending = e t }
