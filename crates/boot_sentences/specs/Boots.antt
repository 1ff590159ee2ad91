-- Request (vi), "Boot policy": an installer, in sentences: literal numbers and raw fields, and no definition of the rules or of the policy.
-- Assumes nothing.
use Rattle.std.specs.Prelude.{ℕ, ◌≤◌, ◌<◌, ◌≡◌, ℤ, pos, neg_ℤ}
use Rattle.policy.specs.declared.Installed.{Installed}
use Rattle.rules.specs.declared.Answer.{Answer}
use Rattle.rules.specs.declared.Handler.{Handler}
use Rattle.rules.specs.declared.Input.{Input}
use Rattle.rules.specs.declared.Made.{Made}
use Rattle.rules.specs.declared.Ticked.{Ticked}
use Rattle.sentences.specs.Making.{Making}
use Rattle.sentences.specs.Valid.{Valid}
use Rattle.sentences.specs.Whole.{Whole}
use Rattle.boot_sentences.specs.Course.{Returns, Course}
use Rattle.boot_sentences.specs.Order.{Put, Order}
use Rattle.boot_sentences.specs.Stands.{Stands, Unwritten}
use Rattle.boot_sentences.specs.Turns.{Turn, Turns}

-- a boot of the state h gives b
pub record BootIs (tick : Handler → Input → Ticked) (number : Answer → ℤ) (turn : ℕ → Turn) (h : Handler) (b : Installed) : Type 0 where
  -- "7 comes before"; "register 0 on .. 7 and 13", "an unchanged state"
  pub bad_state : ¬ Valid h → Returns 0 (neg_ℤ (pos 7)) h b
  -- "It needs N of at least 58, else 13 and an unchanged state"
  pub few_alerts : Valid h → h.n < 58 → Returns 0 (neg_ℤ (pos 13)) h b
  -- else 203 places of three turns each
  pub begins : Valid h → 58 ≤ h.n → Course tick number 609 turn h b

-- "Put a separate installer above the handler. It takes a lifecycle": its number and a state
pub record Installer (install : ℕ → Handler → Installed) : Type 0 where
  -- "The installer relies only on what the handler promises": the tick of document 01's sentences, and the number of each answer
  pub tick : Handler → Input → Ticked
  pub number : Answer → ℤ
  pub ticks : Whole tick number
  -- in each column, what is put where and by which accesses
  pub put : ℕ → ℕ → Put
  pub order : (c : ℕ) → c ≤ 5 → Order c (put c)
  pub turn : ℕ → ℕ → Turn
  pub turns : (c : ℕ) → c ≤ 5 → Turns (put c) (turn c)
  -- "six lifecycles": RAW/TEST is 0, PROD 1, PROD_END 2, DEV 3, RMA 4, SCRAP 5
  pub lifecycles : (c : ℕ) (h : Handler) → c ≤ 5 → BootIs tick number (turn c) h (install c h)
  -- a reading: any other number is read as the strictest, PROD_END
  pub over_five : (c : ℕ) (h : Handler) → 5 < c → BootIs tick number (turn 2) h (install c h)
  -- "Local alerts and alerts from 58 up are not written"
  pub unwritten : (c : ℕ) (h : Handler) → Unwritten h (install c h).handler
  -- "On a new handler so large it always succeeds"
  pub new_succeeds :
      (made : ℕ → Made) → Making made → (c n : ℕ) → 58 ≤ n → n ≤ 248
      → ((install c (made n).handler).register ≡ 0) × ((install c (made n).handler).answer ≡ pos 0)
  -- "and after a success each of the 58 alerts is proved to stand as the table says"
  pub stands : (c : ℕ) (h : Handler) → c ≤ 5 → (install c h).register ≡ 0 → (install c h).answer ≡ pos 0 → Stands c (install c h).handler
  pub stands_over_five : (c : ℕ) (h : Handler) → 5 < c → (install c h).register ≡ 0 → (install c h).answer ≡ pos 0 → Stands 2 (install c h).handler
