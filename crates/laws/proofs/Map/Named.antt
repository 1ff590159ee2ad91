-- Registers are told apart by their numbers: an access that names the number of a register of the handler names it.
-- Assumes nothing.
use Prim.Native.Nat.{ℕ, ◌≤◌}
use mathlib.Core.Path.{◌≡◌, refl, sym, ap}
use mathlib.Core.Bool.{Bool, true, false, false≢true}
use borrow.Author.Tests.{eqb-true}
use lib.Dec.{eqb}
use Rattle.bits.proofs.IndexLaws.{and-true}
use Rattle.rules.specs.Access.{named}
use Rattle.rules.specs.Map.{decode, number_of, is_register}
use Rattle.rules.specs.State.{most}
use Rattle.rules.specs.declared.Access.{Access}
use Rattle.rules.specs.declared.Access.TheVariants.{Nothing, Read, Write, Malformed}
use Rattle.rules.specs.declared.Field.{Field}
use Rattle.rules.specs.declared.Handler.{Handler}
use Rattle.rules.specs.declared.Register.{Register}
use Rattle.rules.specs.declared.Register.TheVariants.{Only, Local, Alert, Block, Unassigned}
use Rattle.laws.specs.InMap.{in_map}
use Rattle.laws.specs.RegisterFile.{target, writes, stores, commits}
use Rattle.laws.specs.StageFile.{names}
use Rattle.laws.proofs.Map.Cases.{by_kind}
use Rattle.laws.proofs.Map.MapLaws.{decode_in_map, number_eq}
use Rattle.laws.proofs.Access.RegisterFile.{accepted_in_map, stores_accepted, target_in_map}
use Rattle.laws.proofs.Stages.StageFile.{in_most}
use Rattle.laws.proofs.Stages.StageLaws.{number_none}

-- an access names a register of the handler, or none
pub named_in_map : (h : Handler) (x : Access) → is_register (named h x) ≡ true → in_map h.n (named h x) ≡ true
named_in_map h Nothing = λ e. e
named_in_map h (Read r) = decode_in_map h.n r
named_in_map h (Write r v) = decode_in_map h.n r
named_in_map h Malformed = λ e. e

module _ (h : Handler) (p : Register) (m : h.n ≤ most) (a : in_map h.n p ≡ true) where
  -- a number that decodes to p's number
  decoded_is : (r : ℕ) → eqb (number_of (decode h.n r)) (number_of p) ≡ true → decode h.n r ≡ p
  decoded_is r e = go (is_register (decode h.n r)) refl
    where
      go : (b : Bool) → is_register (decode h.n r) ≡ b → decode h.n r ≡ p
      go true i = number_eq h.n (decode h.n r) p m (decode_in_map h.n r i) a (eqb-true _ _ e)
      go false i = absurd (number_none (decode h.n r) p i (in_most h.n p m a) (eqb-true _ _ e))

  none_is : eqb (number_of Unassigned) (number_of p) ≡ true → Unassigned ≡ p
  none_is e = absurd (number_none Unassigned p refl (in_most h.n p m a) (eqb-true _ _ e))

  -- the access names p
  pub named_is : (x : Access) → names h x p ≡ true → named h x ≡ p
  named_is Nothing e = none_is e
  named_is (Read r) e = decoded_is r e
  named_is (Write r v) e = decoded_is r e
  named_is Malformed e = none_is e

  -- a write that changes p is to the register that writes p
  pub committed_target : (r v : ℕ) → commits h (Write r v) p ≡ true → target (decode h.n r) ≡ p
  committed_target r v c =
      let b = and-true (stores h r v) (writes (decode h.n r) p) c in
      number_eq h.n (target (decode h.n r)) p m
      (target_in_map h.n (decode h.n r) (accepted_in_map h r v (stores_accepted h r v b.0))) a (eqb-true _ _ b.1)

-- what writes a register of an alert is itself
pub alert_target : (d : Field) (i : ℕ) (q : Register) → target q ≡ Alert d i → q ≡ Alert d i
alert_target d i q =
    by_kind (λ q. target q ≡ Alert d i → q ≡ Alert d i) (λ o e. absurd (false≢true (sym (ap single e)))) (λ f j e. e) (λ f j e. e)
    (λ t j e. e) (λ e. e) q
  where
    single : Register → Bool
    single (Only o) = true
    single (Local f j) = false
    single (Alert f j) = false
    single (Block s k) = false
    single Unassigned = false
