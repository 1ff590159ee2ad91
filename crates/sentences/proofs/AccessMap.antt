-- The table of the sentences and the map of the rules.
-- Assumes nothing.
use Prim.Native.Nat.{ℕ, ◌<◌, ◌≤◌}
use mathlib.Core.Path.{◌≡◌, refl, sym, ap, ◌∙◌, subst}
use mathlib.Core.Bool.{true, false≢true}
use borrow.Author.Tests.{ltb-true, lt-ltb}
use lib.Dec.{ltb}
use Rattle.bits.proofs.IndexLaws.{and-true, true_and}
use Rattle.laws.specs.InMap.{in_map, setting_exists}
use Rattle.laws.proofs.Map.Cases.{by_kind, by_single, by_field, by_setting}
use Rattle.laws.proofs.Map.MapLaws.{decode_number, number_decode, decode_in_map}
use Rattle.rules.specs.Access.{value}
use Rattle.rules.specs.Map.{decode, number_of, is_register, bits}
use Rattle.rules.specs.Stages.{stage, stage_in}
use Rattle.rules.specs.declared.Field.{Field}
use Rattle.rules.specs.declared.Handler.{Handler}
use Rattle.rules.specs.declared.Register.{Register}
use Rattle.rules.specs.declared.Register.TheVariants.{Only, Local, Alert, Block, Unassigned}
use Rattle.rules.specs.declared.Setting.{Setting}
use Rattle.rules.specs.declared.Setting.TheVariants.{Ctrl, ClrRegwen, Clr, AccumCnt, AccumThresh, TimeoutCyc, PhaseCyc, EscCnt}
use Rattle.rules.specs.declared.Single.TheVariants.{IntrState, IntrEnable, IntrTest, PingRegwen, PingTimeout, PingEnable}
use Rattle.sentences.specs.AccessMap.{Row}
use Rattle.sentences.specs.Raw.{held, code}

-- what the rules say of a row of the table
pub record Found (n r : ℕ) (q : Register) (b : ℕ) : Type 0 where
  pub number : number_of q ≡ r
  pub exists : in_map n q ≡ true
  pub width : bits q ≡ b

pub found : (n r : ℕ) (q : Register) (b : ℕ) → Row n r q b → Found n r q b
unfolding number_of bits
found n r q b Row.intr_state = record { number = refl; exists = refl; width = refl }
found n r q b Row.intr_enable = record { number = refl; exists = refl; width = refl }
found n r q b Row.intr_test = record { number = refl; exists = refl; width = refl }
found n r q b Row.ping_regwen = record { number = refl; exists = refl; width = refl }
found n r q b Row.ping_timeout = record { number = refl; exists = refl; width = refl }
found n r q b Row.ping_enable = record { number = refl; exists = refl; width = refl }
found n r q b (Row.local_regwen j l) = record { number = refl; exists = lt-ltb j 7 l; width = refl }
found n r q b (Row.local_en j l) = record { number = refl; exists = lt-ltb j 7 l; width = refl }
found n r q b (Row.local_class j l) = record { number = refl; exists = lt-ltb j 7 l; width = refl }
found n r q b (Row.local_cause j l) = record { number = refl; exists = lt-ltb j 7 l; width = refl }
found n r q b (Row.alert_regwen i l) = record { number = refl; exists = lt-ltb i n l; width = refl }
found n r q b (Row.alert_en i l) = record { number = refl; exists = lt-ltb i n l; width = refl }
found n r q b (Row.alert_class i l) = record { number = refl; exists = lt-ltb i n l; width = refl }
found n r q b (Row.alert_cause i l) = record { number = refl; exists = lt-ltb i n l; width = refl }
found n r q b (Row.regwen k l) = record { number = refl; exists = true_and (lt-ltb k 4 l) refl; width = refl }
found n r q b (Row.ctrl k l) = record { number = refl; exists = true_and (lt-ltb k 4 l) refl; width = refl }
found n r q b (Row.clr_regwen k l) = record { number = refl; exists = true_and (lt-ltb k 4 l) refl; width = refl }
found n r q b (Row.clr k l) = record { number = refl; exists = true_and (lt-ltb k 4 l) refl; width = refl }
found n r q b (Row.accum_cnt k l) = record { number = refl; exists = true_and (lt-ltb k 4 l) refl; width = refl }
found n r q b (Row.accum_thresh k l) = record { number = refl; exists = true_and (lt-ltb k 4 l) refl; width = refl }
found n r q b (Row.timeout_cyc k l) = record { number = refl; exists = true_and (lt-ltb k 4 l) refl; width = refl }
found n r q b (Row.phase_cyc k p l m) = record { number = refl; exists = true_and (lt-ltb k 4 l) (lt-ltb p 4 m); width = refl }
found n r q b (Row.esc_cnt k l) = record { number = refl; exists = true_and (lt-ltb k 4 l) refl; width = refl }
found n r q b (Row.state k l) = record { number = refl; exists = true_and (lt-ltb k 4 l) refl; width = refl }

-- ── from a register of the rules to its row ──

local_row : (n : ℕ) (f : Field) (j : ℕ) → j < 7 → Row n (number_of (Local f j)) (Local f j) (bits (Local f j))
unfolding number_of bits
local_row n Field.Regwen j l = Row.local_regwen j l
local_row n Field.En j l = Row.local_en j l
local_row n Field.Class j l = Row.local_class j l
local_row n Field.Cause j l = Row.local_cause j l

alert_row : (n : ℕ) (f : Field) (i : ℕ) → i < n → Row n (number_of (Alert f i)) (Alert f i) (bits (Alert f i))
unfolding number_of bits
alert_row n Field.Regwen i l = Row.alert_regwen i l
alert_row n Field.En i l = Row.alert_en i l
alert_row n Field.Class i l = Row.alert_class i l
alert_row n Field.Cause i l = Row.alert_cause i l

block_row : (n : ℕ) (s : Setting) (k : ℕ) → k < 4 → setting_exists s ≡ true → Row n (number_of (Block s k)) (Block s k) (bits (Block s k))
unfolding number_of bits
block_row n Setting.Regwen k l e = Row.regwen k l
block_row n Ctrl k l e = Row.ctrl k l
block_row n ClrRegwen k l e = Row.clr_regwen k l
block_row n Clr k l e = Row.clr k l
block_row n AccumCnt k l e = Row.accum_cnt k l
block_row n AccumThresh k l e = Row.accum_thresh k l
block_row n TimeoutCyc k l e = Row.timeout_cyc k l
block_row n (PhaseCyc p) k l e = Row.phase_cyc k p l (ltb-true p 4 e)
block_row n EscCnt k l e = Row.esc_cnt k l
block_row n Setting.State k l e = Row.state k l

pub row : (n : ℕ) (q : Register) → in_map n q ≡ true → Row n (number_of q) q (bits q)
unfolding number_of bits
row n (Only IntrState) e = Row.intr_state
row n (Only IntrEnable) e = Row.intr_enable
row n (Only IntrTest) e = Row.intr_test
row n (Only PingRegwen) e = Row.ping_regwen
row n (Only PingTimeout) e = Row.ping_timeout
row n (Only PingEnable) e = Row.ping_enable
row n (Local f j) e = local_row n f j (ltb-true j 7 e)
row n (Alert f i) e = alert_row n f i (ltb-true i n e)
row n (Block s k) e = let b = and-true (ltb k 4) (setting_exists s) e in block_row n s k (ltb-true k 4 b.0) b.1
row n Unassigned e = absurd (false≢true e)

-- ── a number ──

-- what has a row is what its number decodes to
pub row_decodes : (n r : ℕ) (q : Register) (b : ℕ) → n ≤ 248 → Row n r q b → decode n r ≡ q
row_decodes n r q b m t = let f = found n r q b t in ap (decode n) (sym f.number) ∙ decode_number n q m f.exists

-- and what a number decodes to has its row
pub decode_row : (n r : ℕ) → is_register (decode n r) ≡ true → Row n r (decode n r) (bits (decode n r))
decode_row n r e =
    subst (λ (s : ℕ). Row n s (decode n r) (bits (decode n r))) (number_decode n r e) (row n (decode n r) (decode_in_map n r e))

-- what has a row is a register
in_map_is : (n : ℕ) (q : Register) → in_map n q ≡ true → is_register q ≡ true
in_map_is n = by_kind (λ q. in_map n q ≡ true → is_register q ≡ true) (λ o e. refl) (λ f j e. refl) (λ f i e. refl) (λ s k e. refl) (λ e. e)

pub row_is : (n r : ℕ) (q : Register) (b : ℕ) → Row n r q b → is_register q ≡ true
row_is n r q b t = in_map_is n q (found n r q b t).exists

-- ── what the state holds ──

pub held_is : (h : Handler) (q : Register) → value h q ≡ held h q
unfolding value
held_is h = by_kind (λ q. value h q ≡ held h q) (by_single (λ o. value h (Only o) ≡ held h (Only o)) refl refl refl refl refl refl)
    (λ f j. by_field (λ f. value h (Local f j) ≡ held h (Local f j)) refl refl refl refl f)
    (λ f i. by_field (λ f. value h (Alert f i) ≡ held h (Alert f i)) refl refl refl refl f)
    (λ s k. by_setting (λ s. value h (Block s k) ≡ held h (Block s k)) refl refl refl refl refl refl refl (λ p. refl) refl refl s) refl

pub code_is : (h : Handler) (q : Register) → stage h q ≡ code h q
unfolding stage_in
code_is h = by_kind (λ q. stage h q ≡ code h q) (by_single (λ o. stage h (Only o) ≡ code h (Only o)) refl refl refl refl refl refl)
    (λ f j. by_field (λ f. stage h (Local f j) ≡ code h (Local f j)) refl refl refl refl f)
    (λ f i. by_field (λ f. stage h (Alert f i) ≡ code h (Alert f i)) refl refl refl refl f)
    (λ s k. by_setting (λ s. stage h (Block s k) ≡ code h (Block s k)) refl refl refl refl refl refl refl (λ p. refl) refl refl s) refl
