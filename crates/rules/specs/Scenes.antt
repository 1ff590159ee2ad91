-- Ticks as the examples and the cases of document 01 write them: inputs, and what is seen of them.
-- Assumes nothing.
use Rattle.std.specs.Prelude.{ℕ, ◌-◌, ◌^◌, List, [], ◌∷◌, ℤ, pos, neg_ℤ, replicate}
use Rattle.bits.specs.Fields.{unpack}
use Rattle.rules.specs.Answer.{number}
use Rattle.rules.specs.Map.{number_of}
use Rattle.rules.specs.Samples.{at_rest}
use Rattle.rules.specs.State.{words}
use Rattle.rules.specs.Tick.{ticked}
use Rattle.rules.specs.declared.Access.{Access}
use Rattle.rules.specs.declared.Handler.{Handler}
use Rattle.rules.specs.declared.Input.{Input}
use Rattle.rules.specs.declared.Receive.{Receive}
use Rattle.rules.specs.declared.Receive.TheVariants.{Pairs, Answers}
use Rattle.rules.specs.declared.Register.{Register}

-- ── inputs ──

abbrev pub ones : ℕ
ones = 2 ^ 256 - 1

-- an access with this entropy word, what comes back from the lines and these positive and negative wires, each set as one number, alert 0 highest
abbrev pub sampling : ℕ → Receive → ℕ → ℕ → Access → Input
sampling u r p m x =
    let cut = unpack (replicate words 64) in
    record { access = x; sample = record { alerts = record { pos = cut p; neg = cut m }; word = u; receive = r } }

-- as a record of request (ix) has it, with these answered escalation pings
abbrev pub timing : ℕ → ℕ → ℕ → ℕ → Access → Input
timing u a p m x = sampling u (Answers a) p m x

-- receive pairs at rest
abbrev pub wired : ℕ → ℕ → Access → Input
wired p m x = sampling 0 (Pairs 0 15) p m x

-- alert i's place in a set of wires
abbrev pub wire : ℕ → ℕ
wire i = 2 ^ (255 - i)

-- all wires at (0,1)
abbrev pub rest : Access → Input
rest x = record { access = x; sample = at_rest }

-- alert i at (1,0), the others at (0,1)
abbrev pub raise : ℕ → Access → Input
raise i x = wired (wire i) (ones - wire i) x

-- request (viii): after a rise, the ticks at (0,1) until its receiver is ready again: the drop, and two of pause
abbrev pub pause : List Input
pause = replicate 3 (rest Access.Nothing)

-- alert i at (1,1) or at (0,0), the others at (0,1)
abbrev pub both_high : ℕ → Access → Input
both_high i x = wired (wire i) ones x

abbrev pub both_low : ℕ → Access → Input
both_low i x = wired 0 (ones - wire i) x

abbrev pub none : Access
none = Access.Nothing

abbrev pub write : Register → ℕ → Access
write q v = Access.Write (number_of q) v

-- request (v): a shadowed register takes two equal writes
abbrev pub configure : Register → ℕ → List Access
configure q v = write q v ∷ write q v ∷ []

-- ── what is seen ──

abbrev pub gives : Handler → Input → ℤ
gives h x = number (ticked h x).answer

abbrev pub refused : ℕ → ℤ
refused m = neg_ℤ (pos m)
