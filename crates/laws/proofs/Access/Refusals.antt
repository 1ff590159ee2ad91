-- Refusals: the first case that holds is given, and what a refused access changes.
-- Assumes nothing.
use Prim.Native.Nat.{ℕ, zero, suc, ◌^◌, ◌≤◌, ◌<◌}
use mathlib.Core.Path.{◌≡◌, refl, sym, ap, ap₂, ◌∙◌, subst}
use mathlib.Core.Logic.{◌⊎◌, ◌↔◌, inl, inr, ⊎_elim}
use mathlib.Core.Bool.{Bool, true, false, false≢true, cond, not, ◌&&◌, ◌||◌}
use mathlib.Core.List.{List, [], ◌∷◌}
use native.Mathlib.Omega.{arith}
use lib.Dec.{eqb}
use lib.IntN.{pos, neg_ℤ, neg_ℤ-neg_ℤ}
use lib.ListN.{get_or, length}
use Rattle.std.specs.Prelude.{Ok, Err}
use Rattle.bits.specs.Bits.{bits_of, fits}
use Rattle.rules.specs.Access.{value, silly, bars, unlike, access_cases, verdict, accepts, accepted, named, drops, kept, raised_by, accessed_by, accessed, acted, answer_to, effects}
use Rattle.rules.specs.Answer.{refusal_number, number, Case, first_of, Verdict}
use Rattle.rules.specs.Map.{decode, is_register, bits, read_only}
use Rattle.rules.specs.Stages.{dropped}
use Rattle.rules.specs.State.{with_stages, with_links}
use Rattle.rules.specs.Samples.{heard}
use Rattle.rules.specs.Tick.{stepped, lines, links_after, output_of, hears, no_output, after, tick, ticked}
use Rattle.rules.specs.Valid.{valid}
use Rattle.rules.specs.declared.Access.{Access}
use Rattle.rules.specs.declared.Answer.{Answer}
use Rattle.rules.specs.declared.Effects.{Effects}
use Rattle.rules.specs.declared.Handler.{Handler}
use Rattle.rules.specs.declared.Refusal.{Refusal}
use Rattle.rules.specs.declared.Sample.{Sample}
use Rattle.rules.specs.declared.Ticked.{Ticked}
use Rattle.laws.specs.Refusals.{First, Unrefused, AccessRefusal, AccessNumber}
use Rattle.laws.proofs.Access.Step1.{drops_by}

-- ── the first case, of any list of cases ──

module _ (d : Case) (m : Refusal) where
  -- from the refusal to its case, and back
  to_first : (cs : List Case) → first_of cs ≡ Err m → First cs d m
  unfolding first_of
  to_first [] e = absurd (let z : ◌≡◌ {A = ℕ} 0 1 = cc in omega arith)
  to_first (c ∷ cs) e = go c.holds refl e (to_first cs)
    where
      later : c.holds ≡ false → (f : First cs d m) (j : ℕ) → j < suc f.place → (get_or (c ∷ cs) j d).holds ≡ false
      later p f zero l = p
      later p f (suc j) l = f.alone j (omega arith)

      go : (b : Bool) → c.holds ≡ b → cond b (Err c.refusal) (first_of cs) ≡ Err m
          → (first_of cs ≡ Err m → First cs d m) → First (c ∷ cs) d m
      go true p e g = record { place = 0; inside = omega arith; names = cc; occurs = p; alone = λ j l. absurd (omega arith) }
      go false p e g =
          let f = g e in
          record { place = suc f.place; inside = omega (arith, f.inside); names = f.names; occurs = f.occurs; alone = later p f }

  from_first : (cs : List Case) → First cs d m → first_of cs ≡ Err m
  unfolding first_of
  from_first [] f = absurd (omega (arith, f.inside))
  from_first (c ∷ cs) f = go f.place f.inside f.names f.occurs f.alone (from_first cs)
    where
      go : (i : ℕ) → i < length (c ∷ cs) → (get_or (c ∷ cs) i d).refusal ≡ m → (get_or (c ∷ cs) i d).holds ≡ true
          → ((j : ℕ) → j < i → (get_or (c ∷ cs) j d).holds ≡ false) → (First cs d m → first_of cs ≡ Err m)
          → first_of (c ∷ cs) ≡ Err m
      go zero l n o a g = rw o (ap Err n)
      go (suc i) l n o a g =
          rw (a 0 (omega arith)) (g (record { place = i; inside = omega arith; names = n; occurs = o; alone = λ j k. a (suc j) (omega arith) }))

-- m is given exactly where its case is the first that holds
pub first_is : (cs : List Case) (d : Case) (m : Refusal) → first_of cs ≡ Err m ↔ First cs d m
first_is cs d m = (to_first d m cs, from_first d m cs)

module _ (d : Case) where
  -- from an acceptance to the cases, and back
  none_holds : (cs : List Case) → first_of cs ≡ Ok tt → (i : ℕ) → i < length cs → (get_or cs i d).holds ≡ false
  unfolding first_of
  none_holds [] e i l = absurd (omega arith)
  none_holds (c ∷ cs) e i l = go c.holds refl e i l (none_holds cs)
    where
      go : (b : Bool) → c.holds ≡ b → cond b (Err c.refusal) (first_of cs) ≡ Ok tt → (i : ℕ) → i < length (c ∷ cs)
          → (first_of cs ≡ Ok tt → (i : ℕ) → i < length cs → (get_or cs i d).holds ≡ false) → (get_or (c ∷ cs) i d).holds ≡ false
      go true p e i l g = absurd (let z : ◌≡◌ {A = ℕ} 0 1 = cc in omega arith)
      go false p e zero l g = p
      go false p e (suc i) l g = g e i (omega arith)

  none_refuses : (cs : List Case) → ((i : ℕ) → i < length cs → (get_or cs i d).holds ≡ false) → first_of cs ≡ Ok tt
  unfolding first_of
  none_refuses [] f = refl
  none_refuses (c ∷ cs) f = rw (f 0 (omega arith)) (none_refuses cs (λ i l. f (suc i) (omega arith)))

-- accepted is what no case refuses
pub first_accepts : (cs : List Case) (d : Case)
    → first_of cs ≡ (Ok tt) ↔ ((i : ℕ) → i < length cs → (get_or cs i d).holds ≡ false)
first_accepts cs d = (none_holds d cs, none_refuses d cs)

-- ── an access ──

-- past the end of the list
none : Case
none = record { refusal = Refusal.BadRecord; holds = false }

-- accepted by the verdict
accepts_is : (t : Verdict) → accepts t ≡ true → t ≡ Ok tt
accepts_is (Ok tt) e = refl
accepts_is (Err m) e = absurd (false≢true e)

-- an accepted access meets no case
pub unrefused : (h : Handler) (x : Access) → accepted h x ≡ true → Unrefused h x
unfolding verdict
unrefused h x e =
    record {
      formed = clear 0 (omega arith);
      exists = clear 1 (omega arith);
      way = clear 2 (omega arith);
      width = clear 3 (omega arith);
      threshold = clear 4 (omega arith);
      free = clear 5 (omega arith);
      same = clear 6 (omega arith);
    }
  where
    clear : (i : ℕ) → i < 7 → (get_or (access_cases h x) i none).holds ≡ false
    clear = (first_accepts (access_cases h x) none).0 (accepts_is (verdict h x) e)

-- and what meets no case is accepted
pub is_accepted : (h : Handler) (x : Access) → Unrefused h x → accepted h x ≡ true
unfolding verdict first_of
is_accepted h x u = rw (u.formed, u.exists, u.way, u.width, u.threshold, u.free, u.same)

-- a write is accepted if its number is a register's, which is not read only, holds the value, locks no silly threshold, is not locked and has no
-- other stage open
pub accepted_write : (h : Handler) (r v : ℕ)
    → accepted h (Access.Write r v)
    ≡ (is_register (decode h.n r) && (not (read_only (decode h.n r)) && (fits (bits (decode h.n r)) v
    && (not (silly h (decode h.n r) v) && (not (bars h (decode h.n r) v) && not (unlike h (decode h.n r) v))))))
unfolding verdict first_of
accepted_write h r v =
    go (is_register (decode h.n r)) (read_only (decode h.n r)) (fits (bits (decode h.n r)) v) (silly h (decode h.n r) v)
    (bars h (decode h.n r) v) (unlike h (decode h.n r) v)
  where
    go : (a b c s d e : Bool)
        → accepts (cond (not a) (Err Refusal.NoRegister) (cond b (Err Refusal.WrongWay)
        (cond (not c) (Err Refusal.TooWide) (cond s (Err Refusal.SillyThreshold)
        (cond d (Err Refusal.Locked) (cond e (Err Refusal.Differs) (Ok tt)))))))
        ≡ (a && (not b && (c && (not s && (not d && not e)))))
    go false b c s d e = refl
    go true true c s d e = refl
    go true false false s d e = refl
    go true false true true d e = refl
    go true false true false true e = refl
    go true false true false false true = refl
    go true false true false false false = refl

-- and its stage is dropped, refused or not, if it is a register's, not read only, holds the value, and locks no silly threshold
pub drops_write : (h : Handler) (r v : ℕ)
    → drops_by (verdict h (Access.Write r v))
    ≡ (is_register (decode h.n r) && (not (read_only (decode h.n r)) && (fits (bits (decode h.n r)) v
    && (not (silly h (decode h.n r) v) && not (accepted h (Access.Write r v))))))
unfolding verdict first_of
drops_write h r v =
    go (is_register (decode h.n r)) (read_only (decode h.n r)) (fits (bits (decode h.n r)) v) (silly h (decode h.n r) v)
    (bars h (decode h.n r) v) (unlike h (decode h.n r) v)
  where
    by : Bool → Bool → Bool → Bool → Bool → Bool → Verdict
    by a b c s d e =
        cond (not a) (Err Refusal.NoRegister) (cond b (Err Refusal.WrongWay)
        (cond (not c) (Err Refusal.TooWide) (cond s (Err Refusal.SillyThreshold)
        (cond d (Err Refusal.Locked) (cond e (Err Refusal.Differs) (Ok tt))))))

    go : (a b c s d e : Bool) → drops_by (by a b c s d e) ≡ (a && (not b && (c && (not s && not (accepts (by a b c s d e))))))
    go false b c s d e = refl
    go true true c s d e = refl
    go true false false s d e = refl
    go true false true true d e = refl
    go true false true false true e = refl
    go true false true false false true = refl
    go true false true false false false = refl

-- ── a refused access ──

module _ (h : Handler) (x : Access) (m : Refusal) (e : verdict h x ≡ Err m) where
  -- "3 and 12 are now the refusals that may change something": the stage of the register that is named, and nothing else
  pub acted_refused : acted h x ≡ kept m h (named h x)
  unfolding acted accessed
  acted_refused = ap (λ (t : Verdict). (accessed_by t h x).handler) e

  pub effects_refused : effects h x ≡ record { clears = 0; raises = raised_by m; begins = false }
  unfolding effects accessed
  effects_refused = ap (λ (t : Verdict). (accessed_by t h x).effects) e

  -- every other leaves the state
  pub refused_keeps : drops m ≡ false → acted h x ≡ h
  refused_keeps d = acted_refused ∙ ap (λ (b : Bool). cond b (with_stages (dropped (named h x) h.stages) h) h) d

-- and raises no local alert
raises_none : (m : Refusal) → drops m ≡ false → raised_by m ≡ 0
raises_none m = go (eqb (refusal_number m) 3) (eqb (refusal_number m) 12)
  where
    go : (a b : Bool) → (a || b) ≡ false → cond b (2 ^ 5) 0 ≡ 0
    go true b d = absurd (false≢true (sym d))
    go false true d = absurd (false≢true (sym d))
    go false false d = refl

-- steps 2 to 4 of the state g
abbrev steps_on : Handler → Sample → Effects → Handler
steps_on g s fx = let k = stepped g (heard g s fx) fx in with_links (links_after g (heard g s fx) (lines k)) k

module _ (h : Handler) where
  -- no access
  acted_nothing : acted h Access.Nothing ≡ h
  unfolding acted accessed verdict first_of
  acted_nothing = refl

  effects_nothing : effects h Access.Nothing ≡ record { clears = 0; raises = 0; begins = false }
  unfolding effects accessed verdict first_of bits_of
  effects_nothing = refl

  module _ (x : Access) (s : Sample) (m : Refusal) (e : verdict h x ≡ Err m) where
    -- a refused access is as none on the state without the stage that it drops, but for local 5
    pub refused_after : after h (record { access = x; sample = s }) ≡ steps_on (kept m h (named h x)) s (record { clears = 0; raises = raised_by m; begins = false })
    unfolding hears after
    refused_after = ap₂ (λ (g : Handler) (fx : Effects). steps_on g s fx) (acted_refused h x m e) (effects_refused h x m e)

    -- one refused with 1, 2, 4 or 5 is as none, in the state after the tick
    pub refused_as_none : drops m ≡ false → after h (record { access = x; sample = s }) ≡ after h (record { access = Access.Nothing; sample = s })
    unfolding hears after
    refused_as_none d =
        ap₂ (λ (g : Handler) (fx : Effects). steps_on g s fx) (refused_keeps h x m e d ∙ sym acted_nothing)
        (effects_refused h x m e ∙ ap (λ (a : ℕ). record { clears = 0; raises = a; begins = false }) (raises_none m d) ∙ sym effects_nothing)

    -- and its outputs
    pub refused_output : drops m ≡ false
        → (tick h (record { access = x; sample = s })).output ≡ (tick h (record { access = Access.Nothing; sample = s })).output
    unfolding tick
    refused_output d = ap (output_of h) (refused_as_none d)

    -- so too where refusal 7 is asked first
    pub refused_ticked : drops m ≡ false
        → ((ticked h (record { access = x; sample = s })).handler ≡ (ticked h (record { access = Access.Nothing; sample = s })).handler)
        × ((ticked h (record { access = x; sample = s })).output ≡ (ticked h (record { access = Access.Nothing; sample = s })).output)
    unfolding ticked tick
    refused_ticked d = go (valid h)
      where
        refused : Ticked
        refused = record { handler = h; answer = Answer.Refused Refusal.BadState; output = no_output }

        go : (b : Bool)
            → ((cond b (tick h (record { access = x; sample = s })) refused).handler ≡ (cond b (tick h (record { access = Access.Nothing; sample = s })) refused).handler)
            × ((cond b (tick h (record { access = x; sample = s })) refused).output ≡ (cond b (tick h (record { access = Access.Nothing; sample = s })) refused).output)
        go true = (refused_as_none d, refused_output d)
        go false = (refl, refl)

-- one refused with 3 is as none on the state without the stage
pub locked_after : (h : Handler) (x : Access) (s : Sample) → verdict h x ≡ Err Refusal.Locked
    → after h (record { access = x; sample = s })
    ≡ after (with_stages (dropped (named h x) h.stages) h) (record { access = Access.Nothing; sample = s })
unfolding hears after
locked_after h x s e =
    let g : Handler = with_stages (dropped (named h x) h.stages) h in
    ap₂ (λ (k : Handler) (fx : Effects). steps_on k s fx) (acted_refused h x Refusal.Locked e ∙ sym (acted_nothing g))
    (effects_refused h x Refusal.Locked e ∙ sym (effects_nothing g))

-- ── the numbers that come back ──

-- the seven refusals of an access
access_refusal : (h : Handler) (x : Access) (m : Refusal) → verdict h x ≡ Err m → AccessRefusal (refusal_number m)
unfolding verdict
access_refusal h x m e = let f = (first_is (access_cases h x) none m).0 e in subst P f.names (small f.place f.inside)
  where
    P : Refusal → Type 0
    P m = AccessRefusal (refusal_number m)

    small : (i : ℕ) → i < 7 → P (get_or (access_cases h x) i none).refusal
    small zero l = inl (omega arith, omega arith)
    small (suc zero) l = inl (omega arith, omega arith)
    small (suc (suc zero)) l = inl (omega arith, omega arith)
    small (suc (suc (suc zero))) l = inl (omega arith, omega arith)
    small (suc (suc (suc (suc zero)))) l = inr (inr refl)
    small (suc (suc (suc (suc (suc zero))))) l = inl (omega arith, omega arith)
    small (suc (suc (suc (suc (suc (suc zero)))))) l = inr (inl refl)
    small (suc (suc (suc (suc (suc (suc (suc i))))))) l = absurd (omega arith)

-- a read gives 0 to 4,294,967,295, anything else accepted 0, and a refusal -1 to -5, -12 or -14
pub answer_number : (h : Handler) (x : Access) → ((r : ℕ) → value h (decode h.n r) < 2 ^ 32) → AccessNumber (number (answer_to h x))
unfolding answer_to accessed number
answer_number h x w = go (verdict h x) refl x
  where
    go : (t : Verdict) → verdict h x ≡ t → (y : Access) → AccessNumber (number (accessed_by t h y).answer)
    go (Ok tt) e Access.Nothing = inl (0, omega arith, refl)
    go (Ok tt) e (Access.Read r) = inl (value h (decode h.n r), omega (arith, w r), refl)
    go (Ok tt) e (Access.Write r v) = inl (0, omega arith, refl)
    go (Ok tt) e Access.Malformed = inl (0, omega arith, refl)
    go (Err m) e y = inr (refusal_number m, access_refusal h x m e, refl)

-- so no access answers -6, which a new handler answers alone
pub answer_refusal : (h : Handler) (x : Access) (m : ℕ) → number (answer_to h x) ≡ neg_ℤ (pos m) → (m ≤ 5) ⊎ ((m ≡ 12) ⊎ (m ≡ 14))
unfolding answer_to accessed number
answer_refusal h x m = go (verdict h x) refl x
  where
    value_least : (v m : ℕ) → pos v ≡ neg_ℤ (pos m) → (m ≤ 5) ⊎ ((m ≡ 12) ⊎ (m ≡ 14))
    value_least v zero e = inl (omega arith)
    value_least v (suc m) e = absurd (let z : ◌≡◌ {A = ℕ} 0 1 = cc in omega arith)

    go : (t : Verdict) → verdict h x ≡ t → (y : Access) → number (accessed_by t h y).answer ≡ neg_ℤ (pos m) → (m ≤ 5) ⊎ ((m ≡ 12) ⊎ (m ≡ 14))
    go (Ok tt) e Access.Nothing d = value_least 0 m d
    go (Ok tt) e (Access.Read r) d = value_least (value h (decode h.n r)) m d
    go (Ok tt) e (Access.Write r v) d = value_least 0 m d
    go (Ok tt) e Access.Malformed d = value_least 0 m d
    go (Err r) e y d =
        let i : pos (refusal_number r) ≡ pos m = sym (neg_ℤ-neg_ℤ (pos (refusal_number r))) ∙ ap neg_ℤ d ∙ neg_ℤ-neg_ℤ (pos m) in
        let j : refusal_number r ≡ m = cc in
        ⊎_elim (λ (b : (1 ≤ refusal_number r) × (refusal_number r ≤ 5)). inl (omega (arith, b.1)))
        (λ (b : (refusal_number r ≡ 12) ⊎ (refusal_number r ≡ 14)). inr (⊎_elim (λ c. inl (sym j ∙ c)) (λ c. inr (sym j ∙ c)) b)) (access_refusal h x r e)
