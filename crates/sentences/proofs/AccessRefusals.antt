-- The cases of an access's refusals: the tests of the rules say what the sentences say.
-- Assumes nothing.
use Prim.Native.Nat.{ℕ, ◌+◌, ◌^◌, ◌≤◌}
use mathlib.Core.Path.{◌≡◌, refl, sym, ap, ◌∙◌}
use mathlib.Core.Logic.{◌↔◌, inl, inr, ⊎_elim}
use mathlib.Core.Bool.{Bool, true, false, false≢true, not, ◌&&◌}
use native.Mathlib.Omega.{arith}
use borrow.Author.Tests.{eqb-true, eqb-false, eq-eqb, ne_eqb, ltb-false, le-ltb, not-true, not-false}
use lib.Dec.{eqb}
use Rattle.bits.proofs.IndexLaws.{and-true, true_and}
use Rattle.bits.specs.Bits.{fits}
use Rattle.class_rules.specs.Class.{en}
use Rattle.laws.proofs.Map.Cases.{never}
use Rattle.rules.specs.Access.{malformed, no_register, wrong_way, too_wide, silly, silly_threshold, locked, bars, barred, unlike, differs}
use Rattle.rules.specs.Map.{decode, is_register, bits, read_only, write_only, is_lock, offset}
use Rattle.rules.specs.Stages.{stage, is_open}
use Rattle.rules.specs.State.{class_at}
use Rattle.rules.specs.declared.Access.{Access}
use Rattle.rules.specs.declared.Access.TheVariants.{Nothing, Read, Write}
use Rattle.rules.specs.declared.Handler.{Handler}
use Rattle.rules.specs.declared.Register.{Register}
use Rattle.rules.specs.declared.Register.TheVariants.{Only, Local, Alert, Block, Unassigned}
use Rattle.rules.specs.declared.Setting.{Setting}
use Rattle.rules.specs.declared.Setting.TheVariants.{Ctrl, ClrRegwen, Clr, AccumCnt, AccumThresh, TimeoutCyc, PhaseCyc, EscCnt}
use Rattle.sentences.specs.AccessMap.{Row, Names, Regwen}
use Rattle.sentences.specs.AccessRefusals.{Reads, Writes, Malformed, NoRegister, WrongWay, TooWide, SillyThreshold, Locked, Differs}
use Rattle.sentences.proofs.AccessMap.{found, row_decodes, decode_row, row_is, code_is}
use Rattle.sentences.proofs.AccessWays.{write_only_is, read_only_is, regwen_is, shut_is}

-- 5
pub malformed_is : (x : Access) → (malformed x ≡ true) ↔ Malformed x
malformed_is x = (to x, λ e. ap malformed e)
  where
    to : (x : Access) → malformed x ≡ true → Malformed x
    to Nothing = never
    to (Read r) = never
    to (Write r v) = never
    to Access.Malformed = λ e. refl

module _ (h : Handler) (m : h.n ≤ 248) where
  -- a number that names no register
  none : (r : ℕ) → (not (is_register (decode h.n r)) ≡ true) ↔ ((q : Register) → ¬ Names h.n r q)
  none r = (to, from)
    where
      to : not (is_register (decode h.n r)) ≡ true → (q : Register) → ¬ Names h.n r q
      to e q t =
          false≢true (sym (not-true (is_register (decode h.n r)) e) ∙ ap is_register (row_decodes h.n r q t.0 m t.1) ∙ row_is h.n r q t.0 t.1)

      from : ((q : Register) → ¬ Names h.n r q) → not (is_register (decode h.n r)) ≡ true
      from f = go (is_register (decode h.n r)) refl
        where
          go : (b : Bool) → is_register (decode h.n r) ≡ b → not b ≡ true
          go true e = absurd (f (decode h.n r) (bits (decode h.n r), decode_row h.n r e))
          go false e = refl

  -- 1
  pub no_register_is : (x : Access) → (no_register h x ≡ true) ↔ NoRegister h x
  no_register_is x = (to x, λ c. ⊎_elim (λ e. ap (no_register h) e ∙ (none c.0).1 c.2) (λ s. ap (no_register h) s.1 ∙ (none c.0).1 c.2) c.1)
    where
      to : (x : Access) → no_register h x ≡ true → NoRegister h x
      to Nothing = never
      to (Read r) = λ e. (r, inl refl, (none r).0 e)
      to (Write r v) = λ e. (r, inr (v, refl), (none r).0 e)
      to Access.Malformed = never

  -- the register that a write names, and a read
  pub written_is : (x : Access) (q : Register) (v : ℕ) (w : Writes h x q v) → decode h.n w.number ≡ q
  written_is x q v w = row_decodes h.n w.number q w.names.0 m w.names.1

  pub read_is : (x : Access) (q : Register) (w : Reads h x q) → decode h.n w.number ≡ q
  read_is x q w = row_decodes h.n w.number q w.names.0 m w.names.1

  -- what a read and a write of a register's number name
  module _ (r : ℕ) (e : not (is_register (decode h.n r)) ≡ false) where
    is_row : Row h.n r (decode h.n r) (bits (decode h.n r))
    is_row = decode_row h.n r (not-false (is_register (decode h.n r)) e)

    pub read_names : Reads h (Read r) (decode h.n r)
    read_names = record { number = r; access = refl; names = (bits (decode h.n r), is_row) }

    pub write_names : (v : ℕ) → Writes h (Write r v) (decode h.n r) v
    write_names v = record { number = r; access = refl; names = (bits (decode h.n r), is_row) }

  -- 2
  pub wrong_way_is : (x : Access) → no_register h x ≡ false → (wrong_way h x ≡ true) ↔ WrongWay h x
  wrong_way_is x n = (to x n, from)
    where
      to : (x : Access) → no_register h x ≡ false → wrong_way h x ≡ true → WrongWay h x
      to Nothing n = never
      to (Read r) n = λ e. (decode h.n r, inl (read_names r n, (write_only_is (decode h.n r)).0 e))
      to (Write r v) n = λ e. (decode h.n r, inr (v, write_names r n v, (read_only_is (decode h.n r)).0 e))
      to Access.Malformed n = never

      from : WrongWay h x → wrong_way h x ≡ true
      from c =
          ⊎_elim (λ s. ap (wrong_way h) s.0.access ∙ ap write_only (read_is x c.0 s.0) ∙ (write_only_is c.0).1 s.1)
          (λ s. ap (wrong_way h) s.1.access ∙ ap read_only (written_is x c.0 s.0 s.1) ∙ (read_only_is c.0).1 s.2) c.1

  -- 4
  pub too_wide_is : (x : Access) → no_register h x ≡ false → (too_wide h x ≡ true) ↔ TooWide h x
  too_wide_is x n = (to x n, from)
    where
      to : (x : Access) → no_register h x ≡ false → too_wide h x ≡ true → TooWide h x
      to Nothing n = never
      to (Read r) n = never
      to (Write r v) n = λ e.
          (r, v, bits (decode h.n r), decode h.n r, refl, is_row r n, ltb-false v (2 ^ bits (decode h.n r)) (not-true _ e))
      to Access.Malformed n = never

      from : TooWide h x → too_wide h x ≡ true
      from c =
          let d : decode h.n c.0 ≡ c.3 = row_decodes h.n c.0 c.3 c.2 m c.5 in
          let w : bits (decode h.n c.0) ≡ c.2 = ap bits d ∙ (found h.n c.0 c.3 c.2 c.5).width in
          ap (too_wide h) c.4 ∙ ap (λ (b : ℕ). not (fits b c.1)) w ∙ ap not (le-ltb c.1 (2 ^ c.2) c.6)

  -- 14
  pub silly_is : (x : Access) → no_register h x ≡ false → (silly_threshold h x ≡ true) ↔ SillyThreshold h x
  silly_is x n = (to x n, from)
    where
      -- the register is a class REGWEN and the value 0
      at : (r v : ℕ) (q : Register) → Writes h (Write r v) q v → silly h q v ≡ true → SillyThreshold h (Write r v)
      at r v (Only o) w = never
      at r v (Local f j) w = never
      at r v (Alert f i) w = never
      at r v (Block s k) w = λ e. block s w (and-true _ _ e)
        where
          rest : ℕ → Bool
          rest v = eqb v 0 && (en (class_at h k) && (eqb (class_at h k).thresh 65535 && eqb (class_at h k).regwen 1))

          block : (s : Setting) → Writes h (Write r v) (Block s k) v → (eqb (offset s) 0 ≡ true) × (rest v ≡ true) → SillyThreshold h (Write r v)
          block Setting.Regwen w e =
              let a = and-true (eqb v 0) _ e.1 in
              let b = and-true (en (class_at h k)) _ a.1 in
              let c = and-true (eqb (class_at h k).thresh 65535) (eqb (class_at h k).regwen 1) b.1 in
              let z : v ≡ 0 = eqb-true v 0 a.0 in
              let y : Writes h (Write r v) (Block Setting.Regwen k) 0 = record { number = w.number; access = w.access ∙ ap (Write w.number) z; names = w.names } in
              (k, y, b.0, eqb-true (class_at h k).thresh 65535 c.0, eqb-true (class_at h k).regwen 1 c.1)
          block Ctrl w e = never e.0
          block ClrRegwen w e = never e.0
          block Clr w e = never e.0
          block AccumCnt w e = never e.0
          block AccumThresh w e = never e.0
          block TimeoutCyc w e = never e.0
          block (PhaseCyc p) w e = absurd (let z : 7 + p ≡ 0 = eqb-true (7 + p) 0 e.0 in omega arith)
          block EscCnt w e = never e.0
          block Setting.State w e = never e.0
      at r v Unassigned w = never

      to : (x : Access) → no_register h x ≡ false → silly_threshold h x ≡ true → SillyThreshold h x
      to Nothing n = never
      to (Read r) n = never
      to (Write r v) n = at r v (decode h.n r) (write_names r n v)
      to Access.Malformed n = never

      from : SillyThreshold h x → silly_threshold h x ≡ true
      from c =
          ap (silly_threshold h) c.1.access ∙ ap (λ (q : Register). silly h q 0) (written_is x (Block Setting.Regwen c.0) 0 c.1)
          ∙ true_and c.2 (true_and (eq-eqb _ 65535 c.3) (eq-eqb _ 1 c.4))

  -- 3
  pub locked_is : (x : Access) → no_register h x ≡ false → (barred h x ≡ true) ↔ Locked h x
  locked_is x n = (to x n, from)
    where
      -- in a lock a 0 is accepted again
      again : (q : Register) (v : ℕ) → (not (is_lock q && eqb v 0) ≡ true) ↔ (¬ (Regwen q × (v ≡ 0)))
      again q v = (λ e s. false≢true (sym (not-true _ e) ∙ true_and ((regwen_is q).1 s.0) (eq-eqb v 0 s.1)), λ f. go f (is_lock q && eqb v 0) refl)
        where
          go : ¬ (Regwen q × (v ≡ 0)) → (b : Bool) → (is_lock q && eqb v 0) ≡ b → not b ≡ true
          go f true e = let s = and-true (is_lock q) (eqb v 0) e in absurd (f ((regwen_is q).0 s.0, eqb-true v 0 s.1))
          go f false e = refl

      to : (x : Access) → no_register h x ≡ false → barred h x ≡ true → Locked h x
      to Nothing n = never
      to (Read r) n = never
      to (Write r v) n = λ e.
          let q : Register = decode h.n r in
          let s = and-true (locked h q) (not (is_lock q && eqb v 0)) e in
          (q, v, write_names r n v, (shut_is h q).0 s.0, (again q v).0 s.1)
      to Access.Malformed n = never

      from : Locked h x → barred h x ≡ true
      from c =
          ap (barred h) c.2.access ∙ ap (λ (q : Register). bars h q c.1) (written_is x c.0 c.1 c.2)
          ∙ true_and ((shut_is h c.0).1 c.3) ((again c.0 c.1).1 c.4)

  -- 12
  pub differs_is : (x : Access) → no_register h x ≡ false → (differs h x ≡ true) ↔ Differs h x
  differs_is x n = (to x n, from)
    where
      to : (x : Access) → no_register h x ≡ false → differs h x ≡ true → Differs h x
      to Nothing n = never
      to (Read r) n = never
      to (Write r v) n = λ e.
          let q : Register = decode h.n r in
          let s = and-true (is_open h.stages q) (not (eqb (stage h q) (v + 1))) e in
          (q, v, write_names r n v, λ z. eqb-false (stage h q) 0 (not-true _ s.0) (code_is h q ∙ z), λ z. eqb-false (stage h q) (v + 1) (not-true _ s.1) (code_is h q ∙ z))
      to Access.Malformed n = never

      from : Differs h x → differs h x ≡ true
      from c =
          ap (differs h) c.2.access ∙ ap (λ (q : Register). unlike h q c.1) (written_is x c.0 c.1 c.2)
          ∙ true_and (ap not (ne_eqb (stage h c.0) 0 (λ z. c.3 (sym (code_is h c.0) ∙ z))))
          (ap not (ne_eqb (stage h c.0) (c.1 + 1) (λ z. c.4 (sym (code_is h c.0) ∙ z))))
