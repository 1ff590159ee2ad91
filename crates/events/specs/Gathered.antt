-- What the alerts' events do.
-- Assumes nothing.
use Rattle.std.specs.Prelude.{ℕ, Bool, ◌&&◌, List}
use Rattle.bits.specs.Index.{place_in}
use Rattle.rules.specs.State.{most}
use Rattle.events.specs.Noted.{Noted, enabled_in}
use Rattle.events.specs.declared.gather.Gathered.{Gathered}

-- the enabled alerts among those that the words name
abbrev pub among_words : List ℕ → List ℕ → ℕ → Bool
among_words ws en i = place_in ws i && enabled_in en i

-- the events of the enabled alerts below n are noted
abbrev pub GatheredAll : ℕ → List ℕ → List ℕ → List ℕ → List ℕ → Gathered → Type 0
GatheredAll n events en class before r = Noted (among_words events en) class before most n r.cause r.hits
