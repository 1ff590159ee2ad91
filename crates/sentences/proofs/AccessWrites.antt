-- What the rules make of each register in step 1 satisfies the sentences.
-- Assumes nothing.
use Prim.Native.Nat.{ℕ, ◌+◌, ◌≤◌, ◌<◌}
use mathlib.Core.Path.{◌≡◌, refl, sym, ap, ◌∙◌, subst}
use mathlib.Core.Logic.Iff
use mathlib.Core.Logic.{◌↔◌, ◌⊎◌, ◌≢◌, ⊎_elim}
use mathlib.Core.Bool.{Bool, true, false, false≢true, cond, not, ◌&&◌, ◌||◌}
use native.Mathlib.Omega.{arith}
use borrow.Author.Tests.{eqb-true, eq-eqb, ne_eqb, not-true}
use lib.Dec.{eqb}
use Rattle.bits.proofs.BitLaws.{bit_bits_of, bits_of_lt}
use Rattle.bits.proofs.IndexLaws.{and-true, true_and}
use Rattle.bits.specs.Bits.{bit, bits_of}
use Rattle.laws.specs.InMap.{in_map}
use Rattle.laws.specs.Refusals.{Unrefused}
use Rattle.laws.specs.RegisterFile.{target, new_value, writes, stores, commits, committed}
use Rattle.laws.proofs.Map.Cases.{by_kind, by_single, by_field, by_setting}
use Rattle.laws.proofs.Map.MapLaws.{number_eq}
use Rattle.laws.proofs.Access.Refusals.{unrefused}
use Rattle.laws.proofs.Access.RegisterFile.{accepted_in_map, stores_accepted, acted_value, acted_target, target_in_map}
use Rattle.rules.specs.Access.{value, accepted, is_first, acted}
use Rattle.rules.specs.Map.{decode, number_of, is_shadowed}
use Rattle.rules.specs.Stages.{stage, is_open}
use Rattle.rules.specs.declared.Access.{Access}
use Rattle.rules.specs.declared.Access.TheVariants.{Nothing, Read, Write}
use Rattle.rules.specs.declared.Field.{Field}
use Rattle.rules.specs.declared.Handler.{Handler}
use Rattle.rules.specs.declared.Register.{Register}
use Rattle.rules.specs.declared.Register.TheVariants.{Only, Local, Alert, Block}
use Rattle.rules.specs.declared.Single.TheVariants.{IntrState, IntrEnable, IntrTest, PingRegwen, PingTimeout, PingEnable}
use Rattle.sentences.specs.AccessMap.{Names, Plain, Shadowed}
use Rattle.sentences.specs.Raw.{held, code}
use Rattle.sentences.specs.AccessWrites.{Commits, Changes}
use Rattle.sentences.proofs.AccessCases.{or_is}
use Rattle.sentences.proofs.AccessMap.{found, held_is, code_is}
use Rattle.sentences.proofs.AccessRefusals.{written_is, write_names}
use Rattle.sentences.proofs.AccessVerdict.{accepted_is}
use Rattle.sentences.proofs.AccessWays.{shadowed_is}
use Rattle.sentences.proofs.SentenceCases.{not_is, and_is}

-- a plain register is written itself and takes what is written
plain_takes : (q : Register) → Plain q → (target q ≡ q) × ((old v : ℕ) → new_value q old v ≡ v)
plain_takes q Plain.intr_enable = (refl, λ old v. refl)
plain_takes q Plain.ping_regwen = (refl, λ old v. refl)
plain_takes q Plain.ping_timeout = (refl, λ old v. refl)
plain_takes q (Plain.local_regwen j) = (refl, λ old v. refl)
plain_takes q (Plain.local_en j) = (refl, λ old v. refl)
plain_takes q (Plain.local_class j) = (refl, λ old v. refl)
plain_takes q (Plain.alert_regwen i) = (refl, λ old v. refl)
plain_takes q (Plain.alert_en i) = (refl, λ old v. refl)
plain_takes q (Plain.alert_class i) = (refl, λ old v. refl)
plain_takes q (Plain.regwen k) = (refl, λ old v. refl)
plain_takes q (Plain.ctrl k) = (refl, λ old v. refl)
plain_takes q (Plain.clr_regwen k) = (refl, λ old v. refl)
plain_takes q (Plain.accum_thresh k) = (refl, λ old v. refl)
plain_takes q (Plain.timeout_cyc k) = (refl, λ old v. refl)
plain_takes q (Plain.phase_cyc k p) = (refl, λ old v. refl)

module _ (h : Handler) (m : h.n ≤ 248) where
  -- ── a write that commits, in the sentences and in the rules ──

  -- no first write
  pub not_first : (q : Register) (v : ℕ) → (Shadowed q → code h q ≡ v + 1) → is_first h q ≡ false
  not_first q v s = go (is_shadowed q) refl
    where
      go : (b : Bool) → is_shadowed q ≡ b → (b && not (is_open h.stages q)) ≡ false
      go true e =
          let z : stage h q ≡ v + 1 = code_is h q ∙ s ((shadowed_is q).0 e) in
          ap (λ (t : Bool). not (not t)) (ne_eqb (stage h q) 0 (λ (o : stage h q ≡ 0). omega arith))
      go false e = refl

  pub commits_stores : (x : Access) (q : Register) (v : ℕ) (c : Commits h x q v) → stores h c.writes.number v ≡ true
  commits_stores x q v c =
      let r : ℕ = c.writes.number in
      true_and (ap (accepted h) (sym c.writes.access) ∙ (accepted_is h x m).1 c.accepted)
      (ap not (ap (is_first h) (written_is h m x q v c.writes) ∙ not_first q v c.second))

  pub stores_commits : (r v : ℕ) → stores h r v ≡ true → Commits h (Write r v) (decode h.n r) v
  stores_commits r v e = record { accepted = (accepted_is h (Write r v) m).0 a; writes = write_names h m r u.exists v; second = second }
    where
      q : Register
      q = decode h.n r

      a : accepted h (Write r v) ≡ true
      a = stores_accepted h r v e

      u : Unrefused h (Write r v)
      u = unrefused h (Write r v) a

      second : Shadowed q → code h q ≡ v + 1
      second s = sym (code_is h q) ∙ go (eqb (stage h q) 0) (eqb (stage h q) (v + 1)) refl refl
        where
          first : is_first h q ≡ false
          first = not-true (is_first h q) (and-true (accepted h (Write r v)) (not (is_first h q)) e).1

          open_is : not (not (eqb (stage h q) 0)) ≡ false
          open_is = ap (λ (b : Bool). b && not (is_open h.stages q)) (sym ((shadowed_is q).1 s)) ∙ first

          go : (b c : Bool) → eqb (stage h q) 0 ≡ b → eqb (stage h q) (v + 1) ≡ c → stage h q ≡ v + 1
          go b true i j = eqb-true (stage h q) (v + 1) j
          go true false i j = absurd (false≢true (sym open_is ∙ ap (λ (t : Bool). not (not t)) i))
          go false false i j = absurd (false≢true (sym u.same ∙ true_and (ap not i) (ap not j)))

  module _ (x : Access) where
    -- ── what a committed write makes of the register that it writes ──

    stored : (q : Register) (v : ℕ) → Commits h x q v → value (acted h x) (target q) ≡ new_value q (value h (target q)) v
    stored q v c =
        let r : ℕ = c.writes.number in
        ap (λ (y : Access). value (acted h y) (target q)) c.writes.access
        ∙ subst (λ (p : Register). value (acted h (Write r v)) (target p) ≡ new_value p (value h (target p)) v) (written_is h m x q v c.writes)
        (acted_target h r v m (commits_stores x q v c))

    pub takes : (q : Register) (v : ℕ) → Plain q → Commits h x q v → held (acted h x) q ≡ v
    takes q v p c =
        let t = plain_takes q p in
        sym (held_is (acted h x) q) ∙ ap (value (acted h x)) (sym t.0) ∙ stored q v c ∙ t.1 (value h (target q)) v

    pub local_cause : (j : ℕ) → Commits h x (Local Field.Cause j) 1 → held (acted h x) (Local Field.Cause j) ≡ 0
    local_cause j c = sym (held_is (acted h x) (Local Field.Cause j)) ∙ stored (Local Field.Cause j) 1 c

    pub alert_cause : (i : ℕ) → Commits h x (Alert Field.Cause i) 1 → held (acted h x) (Alert Field.Cause i) ≡ 0
    alert_cause i c = sym (held_is (acted h x) (Alert Field.Cause i)) ∙ stored (Alert Field.Cause i) 1 c

    pub ping_enable : (v : ℕ) → v ≢ 0 → Commits h x (Only PingEnable) v → held (acted h x) (Only PingEnable) ≡ v
    ping_enable v n c =
        sym (held_is (acted h x) (Only PingEnable)) ∙ stored (Only PingEnable) v c
        ∙ ap (λ (b : Bool). cond b (value h (Only PingEnable)) v) (ne_eqb v 0 n)

    -- INTR_STATE
    cleared : (v : ℕ) → Commits h x (Only IntrState) v → (acted h x).interrupts.state ≡ bits_of 4 (λ k. bit h.interrupts.state k && not (bit v k))
    cleared v c =
        sym (held_is (acted h x) (Only IntrState)) ∙ stored (Only IntrState) v c ∙ ap (λ (o : ℕ). bits_of 4 (λ k. bit o k && not (bit v k))) (held_is h (Only IntrState))

    tested : (v : ℕ) → Commits h x (Only IntrTest) v → (acted h x).interrupts.state ≡ bits_of 4 (λ k. bit h.interrupts.state k || bit v k)
    tested v c =
        sym (held_is (acted h x) (Only IntrState)) ∙ stored (Only IntrTest) v c ∙ ap (λ (o : ℕ). bits_of 4 (λ k. bit o k || bit v k)) (held_is h (Only IntrState))

    -- a bit of what was made of bits
    bit_of : (a k : ℕ) (f : ℕ → Bool) {P : Type 0} → a ≡ bits_of 4 f → k < 4 → (f k ≡ true) ↔ P → (bit a k ≡ true) ↔ P
    bit_of a k f e l i =
        let d : bit a k ≡ f k = ap (λ (b : ℕ). bit b k) e ∙ bit_bits_of 4 f k l in (λ t. i.0 (sym d ∙ t), λ p. d ∙ i.1 p)

    pub intr_state : (v : ℕ) → Commits h x (Only IntrState) v → (k : ℕ) → k < 4
        → (bit (acted h x).interrupts.state k ≡ true) ↔ ((bit h.interrupts.state k ≡ true) × (bit v k ≡ false))
    intr_state v c k l =
        bit_of (acted h x).interrupts.state k (λ k. bit h.interrupts.state k && not (bit v k)) (cleared v c) l
        (and_is (bit h.interrupts.state k) (not (bit v k)) Iff.rfl (not_is (bit v k)))

    pub intr_test : (v : ℕ) → Commits h x (Only IntrTest) v → (k : ℕ) → k < 4
        → (bit (acted h x).interrupts.state k ≡ true) ↔ ((bit h.interrupts.state k ≡ true) ⊎ (bit v k ≡ true))
    intr_test v c k l =
        bit_of (acted h x).interrupts.state k (λ k. bit h.interrupts.state k || bit v k) (tested v c) l (or_is (bit h.interrupts.state k) (bit v k))

    pub intr_width : (v : ℕ) → Commits h x (Only IntrState) v ⊎ Commits h x (Only IntrTest) v → (acted h x).interrupts.state < 16
    intr_width v =
        ⊎_elim (λ c. subst (λ (a : ℕ). a < 16) (sym (cleared v c)) (bits_of_lt 4 _)) (λ c. subst (λ (a : ℕ). a < 16) (sym (tested v c)) (bits_of_lt 4 _))

    -- ── what stays ──

    -- a committed write that changes nothing in p keeps what p holds
    kept : (q p : Register) (v old : ℕ) → Commits h x q v → target q ≡ p → ¬ Changes h x p → new_value q old v ≡ old
    kept q p v old c e n = by_kind (λ q. Commits h x q v → target q ≡ p → new_value q old v ≡ old)
        (by_single (λ o. Commits h x (Only o) v → target (Only o) ≡ p → new_value (Only o) old v ≡ old) (λ c e. against (Changes.intr_state v c) e)
        (λ c e. against (Changes.takes (Only IntrEnable) v Plain.intr_enable c) e) (λ c e. against (Changes.intr_test v c) e)
        (λ c e. against (Changes.takes (Only PingRegwen) v Plain.ping_regwen c) e) (λ c e. against (Changes.takes (Only PingTimeout) v Plain.ping_timeout c) e)
        (λ c e. enabled (λ z. against (Changes.ping_enable v z c) e)))
        (λ f j. by_field (λ f. Commits h x (Local f j) v → Local f j ≡ p → new_value (Local f j) old v ≡ old)
        (λ c e. against (Changes.takes _ v (Plain.local_regwen j) c) e) (λ c e. against (Changes.takes _ v (Plain.local_en j) c) e)
        (λ c e. against (Changes.takes _ v (Plain.local_class j) c) e)
        (λ c e. cause (λ z. against (Changes.local_cause j (subst (Commits h x (Local Field.Cause j)) z c)) e)) f)
        (λ f i. by_field (λ f. Commits h x (Alert f i) v → Alert f i ≡ p → new_value (Alert f i) old v ≡ old)
        (λ c e. against (Changes.takes _ v (Plain.alert_regwen i) c) e) (λ c e. against (Changes.takes _ v (Plain.alert_en i) c) e)
        (λ c e. against (Changes.takes _ v (Plain.alert_class i) c) e)
        (λ c e. cause (λ z. against (Changes.alert_cause i (subst (Commits h x (Alert Field.Cause i)) z c)) e)) f)
        (λ s k. by_setting (λ s. Commits h x (Block s k) v → Block s k ≡ p → new_value (Block s k) old v ≡ old)
        (λ c e. against (Changes.takes _ v (Plain.regwen k) c) e) (λ c e. against (Changes.takes _ v (Plain.ctrl k) c) e)
        (λ c e. against (Changes.takes _ v (Plain.clr_regwen k) c) e) (λ c e. refl) (λ c e. refl) (λ c e. against (Changes.takes _ v (Plain.accum_thresh k) c) e)
        (λ c e. against (Changes.takes _ v (Plain.timeout_cyc k) c) e) (λ o c e. against (Changes.takes _ v (Plain.phase_cyc k o) c) e) (λ c e. refl) (λ c e. refl) s)
        (λ c e. refl) q c e
      where
        against : {A : Type 0} {q : Register} → Changes h x q → q ≡ p → A
        against c e = absurd (n (subst (Changes h x) e c))

        enabled : ((v ≢ 0) → cond (eqb v 0) old v ≡ old) → cond (eqb v 0) old v ≡ old
        enabled f = go (eqb v 0) refl
          where
            go : (b : Bool) → eqb v 0 ≡ b → cond b old v ≡ old
            go true e = refl
            go false e = ap (λ (b : Bool). cond b old v) (sym e) ∙ f (λ (z : v ≡ 0). false≢true (sym e ∙ eq-eqb v 0 z))

        cause : ((v ≡ 1) → cond (eqb v 1) 0 old ≡ old) → cond (eqb v 1) 0 old ≡ old
        cause f = go (eqb v 1) refl
          where
            go : (b : Bool) → eqb v 1 ≡ b → cond b 0 old ≡ old
            go true e = ap (λ (b : Bool). cond b 0 old) (sym e) ∙ f (eqb-true v 1 e)
            go false e = refl

    pub stays : (r : ℕ) (p : Register) → Names h.n r p → ¬ Changes h x p → held (acted h x) p ≡ held h p
    stays r p t n = sym (held_is (acted h x) p) ∙ acted_value h x p m a ∙ go x refl (commits h x p) refl ∙ held_is h p
      where
        a : in_map h.n p ≡ true
        a = (found h.n r p t.0 t.1).exists

        written : (r v : ℕ) → x ≡ Write r v → commits h (Write r v) p ≡ true → new_value (decode h.n r) (value h p) v ≡ value h p
        written r v d e =
            let b = and-true (stores h r v) (writes (decode h.n r) p) e in
            let q : Register = decode h.n r in
            let i : in_map h.n q ≡ true = accepted_in_map h r v (stores_accepted h r v b.0) in
            let c : Commits h x q v = subst (λ (y : Access). Commits h y q v) (sym d) (stores_commits r v b.0) in
            kept q p v (value h p) c (number_eq h.n (target q) p m (target_in_map h.n q i) a (eqb-true (number_of (target q)) (number_of p) b.1)) n

        go : (y : Access) → x ≡ y → (b : Bool) → commits h y p ≡ b → cond b (committed h y (value h p)) (value h p) ≡ value h p
        go y d false e = refl
        go Nothing d true e = refl
        go (Read r) d true e = refl
        go (Write r v) d true e = written r v d e
        go Access.Malformed d true e = refl
