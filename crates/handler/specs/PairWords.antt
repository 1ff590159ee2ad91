-- Request (viii), the acknowledge and ping pairs of n alerts, as the code gives them: in words of 64.
-- Assumes nothing.
use Rattle.std.specs.Prelude.{ℕ, ◌+◌, ◌*◌, ◌-◌, Bool, ◌&&◌, List, ltb, get_or}
use Rattle.bits.specs.Bits.{word_of}
use Rattle.bits.specs.Index.{each}
use Rattle.link_rules.specs.Receiver.{acknowledges}
use Rattle.rules.specs.State.{words, receiver_in}
use Rattle.rules.specs.declared.Receivers.{Receivers}
use Rattle.rules.specs.declared.Wires.{Wires}

-- alert i's acknowledge pair, or its ping pair, is (1,0)
abbrev pub is_acknowledged : ℕ → Receivers → ℕ → Bool
is_acknowledged n r i = ltb i n && acknowledges (receiver_in r i).stands

abbrev pub is_high : ℕ → Receivers → ℕ → Bool
is_high n r i = ltb i n && (receiver_in r i).level

-- word v of a rule
abbrev pub word_by : (ℕ → Bool) → ℕ → ℕ
word_by f v = word_of 64 (λ b. f (v * 64 + b))

-- words of positive wires, and the negative wires that are their opposites
abbrev pub spread : List ℕ → Wires
spread on = record { pos = on; neg = each words (λ v. 18446744073709551615 - get_or on v 0) }
