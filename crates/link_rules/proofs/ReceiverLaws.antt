-- One receiver, one tick.
-- Assumes nothing.
use mathlib.Core.Path.{◌≡◌, refl, ap, ap₂, ◌∙◌}
use mathlib.Core.Bool.{Bool, true, false, not, ◌&&◌, ◌||◌}
use Rattle.link_rules.specs.Receiver.{takes, asked_for, stands_after, received}
use Rattle.link_rules.specs.declared.Given.{Given}
use Rattle.link_rules.specs.declared.Handshake.{Handshake}
use Rattle.link_rules.specs.declared.Handshake.TheVariants.{Ready}
use Rattle.link_rules.specs.declared.Receiver.{Receiver}

-- receivers are equal where their three parts are
pub same_receiver : (r q : Receiver) → r.stands ≡ q.stands → r.level ≡ q.level → r.pending ≡ q.pending → r ≡ q
same_receiver r q a b c =
    ap (λ (s : Handshake). record { stands = s; level = r.level; pending = r.pending }) a
    ∙ ap₂ (λ (v o : Bool). record { stands = q.stands; level = v; pending = o }) b c

-- where it stands after the tick goes by its wires alone, and so does whether a rise is taken
pub received_stands : (x : Given) (r : Receiver) → (received x r).receiver.stands ≡ stands_after r.stands x.pos x.neg
unfolding received asked_for
received_stands x r = refl

either : (t o : Bool) → ((t && not o) || (t && o)) ≡ t
either true true = refl
either true false = refl
either false o = refl

pub received_taken : (x : Given) (r : Receiver) → ((received x r).event || (received x r).answer) ≡ takes r.stands x.pos x.neg
unfolding received asked_for
received_taken x r = either (takes r.stands x.pos x.neg) (x.asks || r.pending)

-- a ready receiver on the pair (0,1) stays ready, and takes nothing
pub rest_ready : stands_after Ready false true ≡ Ready
unfolding stands_after
rest_ready = refl
