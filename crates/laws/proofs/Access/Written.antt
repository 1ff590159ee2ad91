-- Ticks that write a register: what it then holds, its stage and its lock.
-- Assumes nothing.
use Prim.Native.Nat.{ℕ, ◌+◌, ◌≤◌, ◌<◌}
use mathlib.Core.Path.{◌≡◌, refl, sym, ap, ◌∙◌, subst}
use mathlib.Core.Bool.{Bool, true, false, false≢true, cond, not, ◌&&◌}
use native.Mathlib.Omega.{arith}
use borrow.Author.Tests.{eq-eqb, ne_eqb, lt-ltb, le-ltb, ltb-true}
use lib.Dec.{eqb, ltb}
use lib.ListN.{get_or-replicate}
use Rattle.std.specs.Prelude.{Ok, Err}
use Rattle.bits.proofs.IndexLaws.{and-true}
use Rattle.bits.specs.Bits.{fits}
use Rattle.class_rules.specs.Class.{no_class}
use Rattle.class_rules.specs.declared.Class.{Class}
use Rattle.rules.specs.Access.{value, locked, silly, bars, verdict, accepts, accepted, is_first, unlike, in_order, accessed_by, accessed, acted, answer_to}
use Rattle.rules.specs.Answer.{first_of, Verdict}
use Rattle.rules.specs.Map.{decode, number_of, is_register, bits, read_only, guard, is_shadowed}
use Rattle.rules.specs.Stages.{stage}
use Rattle.rules.specs.State.{most, local_count, class_count, local, alert, class_at, reset_class, new_handler, bad_count, made}
use Rattle.rules.specs.Tick.{after, tick, ticked}
use Rattle.rules.specs.Valid.{valid}
use Rattle.rules.specs.declared.Access.TheVariants.{Read, Write}
use Rattle.rules.specs.declared.Answer.{Answer}
use Rattle.rules.specs.declared.Field.{Field}
use Rattle.rules.specs.declared.Handler.{Handler}
use Rattle.rules.specs.declared.Input.{Input}
use Rattle.rules.specs.declared.Refusal.{Refusal}
use Rattle.rules.specs.declared.Register.{Register}
use Rattle.rules.specs.declared.Register.TheVariants.{Only, Local, Alert, Block}
use Rattle.rules.specs.declared.Sample.{Sample}
use Rattle.rules.specs.declared.Ticked.{Ticked}
use Rattle.laws.specs.Frame.{moves_itself}
use Rattle.laws.specs.InMap.{in_map}
use Rattle.laws.specs.RegisterFile.{target, new_value, stores, plain}
use Rattle.laws.specs.StageFile.{stage_by}
use Rattle.laws.proofs.Map.Cases.{by_kind, by_single, by_field, by_setting, never}
use Rattle.laws.proofs.Tick.Frame.{after_still, after_stage}
use Rattle.laws.proofs.Valid.KeepsValid.{made_valid}
use Rattle.laws.proofs.Valid.Refusal7.{ticked_good}
use Rattle.laws.proofs.Access.RegisterFile.{accepted_in_map, stores_accepted, acted_target, plain_takes}
use Rattle.laws.proofs.Stages.StageFile.{in_most, acted_stage}

-- ── the tick that writes v at number r ──

-- its answer is step 1's
pub ticked_answer : (h : Handler) (x : Input) → valid h ≡ true → (ticked h x).answer ≡ answer_to h x.access
unfolding tick
ticked_answer h x e = ap (λ (t : Ticked). t.answer) (ticked_good h x e)

module _ (h : Handler) (s : Sample) (r v : ℕ) (q : Register) (m : h.n ≤ most) (d : decode h.n r ≡ q) where
  abbrev written : Handler
  written = after h (record { access = Write r v; sample = s })

  -- a register that reads as what is written and does not move by itself holds v, where the write commits
  pub after_written : stores h r v ≡ true → plain q ≡ true → moves_itself q ≡ false → value written q ≡ v
  after_written e f t =
      let p = plain_takes q f in
      let a : in_map h.n q ≡ true = ap (in_map h.n) (sym d) ∙ accepted_in_map h r v (stores_accepted h r v e) in
      let w : value (acted h (Write r v)) (target q) ≡ new_value q (value h (target q)) v =
      subst (λ (p : Register). value (acted h (Write r v)) (target p) ≡ new_value p (value h (target p)) v) d (acted_target h r v m e) in
      after_still h (record { access = Write r v; sample = s }) q a t
      ∙ ap (value (acted h (Write r v))) (sym p.0) ∙ w ∙ p.1 (value h (target q)) v

  -- a first write is staged, and any other that is accepted leaves no stage
  pub after_staged : accepted h (Write r v) ≡ true → stage written q ≡ cond (is_first h q) (v + 1) 0
  after_staged e =
      after_stage h (record { access = Write r v; sample = s }) q
      ∙ subst (λ (p : Register). stage (acted h (Write r v)) p ≡ cond (is_first h p) (v + 1) 0) d own
    where
      w : Register
      w = decode h.n r

      go : (t : Verdict) → accepts t ≡ true → (b : Bool) → b ≡ true
          → cond b (stage_by t h (Write r v) (stage h w)) (stage h w) ≡ cond (is_first h w) (v + 1) 0
      go (Ok tt) x true y = refl
      go (Err n) x b y = absurd (false≢true x)
      go (Ok tt) x false y = absurd (false≢true y)

      own : stage (acted h (Write r v)) w ≡ cond (is_first h w) (v + 1) 0
      own =
          acted_stage h m w (in_most h.n w m (accepted_in_map h r v e)) (Write r v)
          ∙ go (verdict h (Write r v)) e (eqb (number_of w) (number_of w)) (eq-eqb (number_of w) (number_of w) refl)

-- ── the tick that reads ──

-- it drops the stage of the register
pub after_read : (h : Handler) (s : Sample) (r : ℕ) (q : Register) → h.n ≤ most → decode h.n r ≡ q → in_map h.n q ≡ true
    → accepted h (Read r) ≡ true → stage (after h (record { access = Read r; sample = s })) q ≡ 0
after_read h s r q m d a e =
    after_stage h (record { access = Read r; sample = s }) q
    ∙ acted_stage h m q (in_most h.n q m a) (Read r)
    ∙ go (verdict h (Read r)) e (eqb (number_of (decode h.n r)) (number_of q)) (eq-eqb (number_of (decode h.n r)) (number_of q) (ap number_of d))
  where
    go : (t : Verdict) → accepts t ≡ true → (b : Bool) → b ≡ true → cond b (stage_by t h (Read r) (stage h q)) (stage h q) ≡ 0
    go (Ok tt) x true y = refl
    go (Err n) x b y = absurd (false≢true x)
    go (Ok tt) x false y = absurd (false≢true y)

-- ── the write that is refused ──

-- by 3, where none of 1, 2, 4 and 14 is
pub write_locked : (h : Handler) (r v : ℕ) → is_register (decode h.n r) ≡ true → read_only (decode h.n r) ≡ false
    → fits (bits (decode h.n r)) v ≡ true → silly h (decode h.n r) v ≡ false → bars h (decode h.n r) v ≡ true
    → answer_to h (Write r v) ≡ Answer.Refused Refusal.Locked
unfolding answer_to accessed verdict first_of
write_locked h r v a b c d e =
    ap (λ (t : Verdict). (accessed_by t h (Write r v)).answer)
    (ap (λ (x : Bool). by (not x) (read_only q) (not (fits (bits q) v)) (silly h q v) (bars h q v) (unlike h q v)) a
    ∙ ap (λ (x : Bool). by false x (not (fits (bits q) v)) (silly h q v) (bars h q v) (unlike h q v)) b
    ∙ ap (λ (x : Bool). by false false (not x) (silly h q v) (bars h q v) (unlike h q v)) c
    ∙ ap (λ (x : Bool). by false false false x (bars h q v) (unlike h q v)) d ∙ ap (λ (x : Bool). by false false false false x (unlike h q v)) e)
  where
    q : Register
    q = decode h.n r

    by : Bool → Bool → Bool → Bool → Bool → Bool → Verdict
    by none wrong wide late shut other = first_of (in_order false none wrong wide late shut other)

-- ── the map ──

-- a larger handler has the registers of a smaller one
pub in_more : (n m : ℕ) (q : Register) → n ≤ m → in_map n q ≡ true → in_map m q ≡ true
in_more n m q l =
    by_kind (λ q. in_map n q ≡ true → in_map m q ≡ true) (λ o a. a) (λ f j a. a)
    (λ f i a. lt-ltb i m (omega (arith, ltb-true i n a))) (λ s k a. a) (λ a. a) q

-- what guards a register that reads as what is written and does not move by itself does not move either
pub guard_still : (q : Register) → plain q ≡ true → moves_itself q ≡ false → moves_itself (guard q) ≡ false
unfolding guard
guard_still q =
    by_kind P (by_single (λ o. P (Only o)) (λ p e. refl) (λ p e. refl) (λ p e. refl) (λ p e. refl) (λ p e. refl) (λ p e. refl))
    (λ f j. by_field (λ f. P (Local f j)) (λ p e. refl) (λ p e. refl) (λ p e. refl) (λ p e. refl) f)
    (λ f i. by_field (λ f. P (Alert f i)) (λ p e. refl) (λ p e. refl) (λ p e. refl) (λ p e. refl) f)
    (λ s k. by_setting (λ s. P (Block s k)) (λ p e. refl) (λ p e. refl) (λ p e. e) (λ p e. absurd (false≢true p)) (λ p e. refl)
    (λ p e. refl) (λ p e. refl) (λ i p e. refl) (λ p e. refl) (λ p e. refl) s) (λ p e. refl) q
  where
    P : Register → Type 0
    P q = plain q ≡ true → moves_itself q ≡ false → moves_itself (guard q) ≡ false

-- a shadowed register is another than its guard, and no write to it locks a silly threshold
pub shadowed_apart : (q : Register) → is_shadowed q ≡ true → number_of q ≡ number_of (guard q) → ⊥
unfolding is_shadowed guard number_of
shadowed_apart =
    by_kind P (by_single (λ o. P (Only o)) never never never never (λ _ e. omega arith) never) (λ f j. by_field (λ f. P (Local f j)) never (λ _ e. omega arith) (λ _ e. omega arith) never f)
    (λ f i. by_field (λ f. P (Alert f i)) never (λ _ e. omega arith) (λ _ e. omega arith) never f)
    (λ s k. by_setting (λ s. P (Block s k)) never (λ _ e. omega arith) never never never (λ _ e. omega arith) (λ _ e. omega arith)
    (λ p _ e. omega arith) never never s) never
  where
    P : Register → Type 0
    P q = is_shadowed q ≡ true → number_of q ≡ number_of (guard q) → ⊥

pub shadowed_wise : (h : Handler) (q : Register) (v : ℕ) → is_shadowed q ≡ true → silly h q v ≡ false
unfolding is_shadowed
shadowed_wise h q v =
    by_kind P (λ o e. refl) (λ f j e. refl) (λ f i e. refl)
    (λ s k. by_setting (λ s. P (Block s k)) (λ e. absurd (false≢true e)) (λ e. refl) (λ e. refl) (λ e. refl) (λ e. refl) (λ e. refl) (λ e. refl)
    (λ p e. rw (ne_eqb (7 + p) 0 (λ (d : 7 + p ≡ 0). omega arith))) (λ e. refl) (λ e. refl) s) (λ e. refl) q
  where
    P : Register → Type 0
    P q = is_shadowed q ≡ true → silly h q v ≡ false

-- ── locks ──

-- where the guard holds the same, the lock is the same
pub locked_same : (h g : Handler) (q : Register) → (is_register (guard q) ≡ true → value g (guard q) ≡ value h (guard q)) → locked g q ≡ locked h q
unfolding locked
locked_same h g q e = go (is_register (guard q)) refl
  where
    go : (b : Bool) → is_register (guard q) ≡ b → (b && eqb (value g (guard q)) 0) ≡ (b && eqb (value h (guard q)) 0)
    go true d = ap (λ (x : ℕ). eqb x 0) (e d)
    go false d = refl

-- ── a new handler ──

-- it is valid
pub new_valid : (n : ℕ) → 0 < n → n ≤ most → valid (new_handler n) ≡ true
unfolding made
new_valid n a b =
    let c : bad_count n ≡ false = rw (ne_eqb n 0 (λ (e : n ≡ 0). omega arith)) (le-ltb most n b) in
    let d : (made n).handler ≡ new_handler n = rw c in
    ap valid (sym d) ∙ made_valid n

-- and nothing in it is locked
pub new_unlocked : (n : ℕ) (q : Register) → n ≤ most → in_map n q ≡ true → locked (new_handler n) q ≡ false
unfolding locked guard value new_handler
new_unlocked n q m =
    by_kind P (by_single (λ o. P (Only o)) (λ a. refl) (λ a. refl) (λ a. refl) (λ a. refl) (λ a. refl) (λ a. refl))
    (λ f j. by_field (λ f. P (Local f j)) (own_local j) (own_local j) (own_local j) (λ a. refl) f)
    (λ f i. by_field (λ f. P (Alert f i)) (own_alert i) (own_alert i) (own_alert i) (λ a. refl) f)
    (λ s k. by_setting (λ s. P (Block s k)) (own_class k true) (own_class k true) (own_clear k true) (own_clear k true) (λ a. refl)
    (own_class k true) (own_class k true) (λ p. own_class k (ltb p 4)) (λ a. refl) (λ a. refl) s) (λ a. refl) q
  where
    P : Register → Type 0
    P q = in_map n q ≡ true → locked (new_handler n) q ≡ false

    own_local : (j : ℕ) → ltb j local_count ≡ true → eqb (local (new_handler n) Field.Regwen j) 0 ≡ false
    own_local j a = ap (λ (x : ℕ). eqb x 0) (get_or-replicate local_count j 1 0 (ltb-true j local_count a))

    own_alert : (i : ℕ) → ltb i n ≡ true → eqb (alert (new_handler n) Field.Regwen i) 0 ≡ false
    own_alert i a = ap (λ (x : ℕ). eqb x 0) (get_or-replicate most i 1 0 (omega (arith, ltb-true i n a)))

    reset : (k : ℕ) (b : Bool) → (ltb k class_count && b) ≡ true → class_at (new_handler n) k ≡ reset_class
    reset k b a = get_or-replicate class_count k reset_class no_class (ltb-true k class_count (and-true (ltb k class_count) b a).0)

    own_class : (k : ℕ) (b : Bool) → (ltb k class_count && b) ≡ true → eqb (class_at (new_handler n) k).regwen 0 ≡ false
    own_class k b a = ap (λ (c : Class). eqb c.regwen 0) (reset k b a)

    own_clear : (k : ℕ) (b : Bool) → (ltb k class_count && b) ≡ true → eqb (class_at (new_handler n) k).clrwen 0 ≡ false
    own_clear k b a = ap (λ (c : Class). eqb c.clrwen 0) (reset k b a)
