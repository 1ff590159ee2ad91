-- Request (xi), a line's ping, once more, taken from the claim over every state, list, line and tick, in raw registers and wires. A claim that says less, or
-- asks for more, does not give it.
-- Assumes nothing.
use Prim.Native.Nat.{ℕ, zero, suc, ◌+◌, ◌-◌, ◌≤◌, ◌<◌}
use mathlib.Core.Path.{◌≡◌, refl, sym, ap, ap₂, ◌∙◌}
use mathlib.Core.Logic.{◌⊎◌, inl, inr}
use mathlib.Core.Bool.{Bool, true, false, false≢true, true≢false, not, and-false, or-true, ◌&&◌, ◌||◌}
use mathlib.Core.List.{List}
use native.Mathlib.Omega.{arith}
use borrow.Author.Tests.{eqb-true, eq-eqb, ne_eqb}
use lib.Dec.{eqb}
use lib.ListN.{get_or, length, take}
use Rattle.bits.proofs.IndexLaws.{and-true, any_at, any_some, all_of, all_at}
use Rattle.bits.specs.Bits.{bit}
use Rattle.escalation.specs.List.{no_input, no_tick}
use Rattle.laws.proofs.Samples.Receivers.{acted_links}
use Rattle.link_rules.proofs.CodeLaws.{last_back}
use Rattle.link_rules.specs.Codes.{response_of}
use Rattle.link_rules.specs.Pair.{equal, differ}
use Rattle.link_rules.specs.Sender
use Rattle.link_rules.specs.Sender.{new_sender}
use Rattle.link_rules.specs.Senders.{sender_in}
use Rattle.link_rules.specs.declared.Sender.{Sender}
use Rattle.rules.specs.Access.{value, acted}
use Rattle.rules.specs.Run.{run, ticks}
use Rattle.rules.specs.Samples.{checks, receive_positive, receive_negative, says_answered, line_wrong, occurs}
use Rattle.rules.specs.State.{sender}
use Rattle.rules.specs.Tick.{hears}
use Rattle.rules.specs.Valid.{valid}
use Rattle.rules.specs.declared.Handler.{Handler}
use Rattle.rules.specs.declared.Input.{Input}
use Rattle.rules.specs.declared.Links.{Links}
use Rattle.rules.specs.declared.Receive.{Receive}
use Rattle.rules.specs.declared.Receive.TheVariants.{Pairs, Answers}
use Rattle.handshake.specs.LinePings.{checked_at, wrong_at, line_open, line_on, pair_was, all_right, LinePings}
use Rattle.handshake.specs.Pings.{line_opens, line_fails, line_answered, line_closes, sets}
use Rattle.handshake.proofs.LinePings.{line_pings}
use Rattle.handshake.proofs.WholeHandshake.{one_of}

-- ── tests ──

is_wrong : (p m a : Bool) → (p ≡ m) ⊎ (p ≡ not a) → (equal p m || differ p a) ≡ true
is_wrong true true a e = refl
is_wrong false false a e = refl
is_wrong true false true (inl e) = absurd (true≢false e)
is_wrong true false true (inr e) = absurd (true≢false e)
is_wrong true false false e = refl
is_wrong false true true e = refl
is_wrong false true false (inl e) = absurd (false≢true e)
is_wrong false true false (inr e) = absurd (false≢true e)

was_wrong : (p m a : Bool) → (equal p m || differ p a) ≡ true → (p ≡ m) ⊎ (p ≡ not a)
was_wrong true true a e = inl refl
was_wrong false false a e = inl refl
was_wrong true false true e = absurd (false≢true e)
was_wrong true false false e = inr refl
was_wrong false true true e = inr refl
was_wrong false true false e = absurd (false≢true e)

is_right : (p m a : Bool) → p ≡ a → m ≡ not a → (equal p m || differ p a) ≡ false
is_right p m true e f = rw (e, f) refl
is_right p m false e f = rw (e, f) refl

any_of : (a b c : Bool) → (a ≡ true) ⊎ ((b ≡ true) ⊎ (c ≡ true)) → (a || (b || c)) ≡ true
any_of true b c e = refl
any_of false b c (inl e) = absurd (false≢true e)
any_of false true c (inr e) = refl
any_of false false c (inr (inl e)) = absurd (false≢true e)
any_of false false c (inr (inr e)) = e

module _ (h : Handler) (xs : List Input) (v : valid h ≡ true) where
  -- before tick t, counted from 0; its input; after its step 1; what comes back
  abbrev state : ℕ → Handler
  state t = run h (take t xs)

  abbrev input : ℕ → Input
  input t = get_or xs t no_input

  abbrev read : ℕ → Handler
  read t = acted (state t) (input t).access

  abbrev back : ℕ → Receive
  back t = (input t).sample.receive

  -- the right answer of line e in tick t
  abbrev answer : ℕ → ℕ → Bool
  answer e t = bit (state t).links.senders.answer e

  abbrev occurring : ℕ → ℕ → Bool
  occurring j t = occurs (read t) (hears (state t) (input t)) j

  claim : LinePings h xs
  claim = line_pings h xs v

  read_answer : (e t : ℕ) → bit (read t).links.senders.answer e ≡ answer e t
  read_answer e t = ap (λ (z : Links). bit z.senders.answer e) (acted_links (state t) (input t).access)

  -- ── a wrong pair ──

  module _ (t p m e : ℕ) (b : back t ≡ Pairs p m) where
    wrong_is : wrong_at h xs e t ≡ (equal (bit p e) (bit m e) || differ (bit p e) (answer e t))
    unfolding line_wrong
    wrong_is = rw b (ap (λ (a : Bool). equal (bit p e) (bit m e) || differ (bit p e) a) (read_answer e t))

    wrong : (bit p e ≡ bit m e) ⊎ (bit p e ≡ not (answer e t)) → wrong_at h xs e t ≡ true
    wrong w = wrong_is ∙ is_wrong (bit p e) (bit m e) (answer e t) w

    right : bit p e ≡ answer e t → bit m e ≡ not (answer e t) → wrong_at h xs e t ≡ false
    right q w = wrong_is ∙ is_right (bit p e) (bit m e) (answer e t) q w

  -- ── local 3 ──

  occurs_3 : (t p m e : ℕ) → t < length xs → e < 4 → back t ≡ Pairs p m → (bit p e ≡ bit m e) ⊎ (bit p e ≡ not (answer e t))
      → get_or (read t).locals.en 3 0 ≡ 1 → occurring 3 t ≡ true
  unfolding value
  occurs_3 t p m e l b c w n =
      claim.local_3 t l ∙ ap₂ ◌&&◌ (any_at (λ k. wrong_at h xs k t) 4 e b (wrong t p m e c w)) (eq-eqb (get_or (read t).locals.en 3 0) 1 n)

  abbrev IsWrong : ℕ → Type 0
  IsWrong t = (e : ℕ) × (p : ℕ) × (m : ℕ) × (e < 4) × (back t ≡ Pairs p m) × ((bit p e ≡ bit m e) ⊎ (bit p e ≡ not (answer e t)))

  only_3 : (t : ℕ) → t < length xs → occurring 3 t ≡ true → (get_or (read t).locals.en 3 0 ≡ 1) × IsWrong t
  unfolding value line_wrong
  only_3 t l o =
      let c = and-true _ (eqb (get_or (read t).locals.en 3 0) 1) (sym (claim.local_3 t l) ∙ o) in
      let s = any_some (λ k. wrong_at h xs k t) 4 c.0 in
      (eqb-true (get_or (read t).locals.en 3 0) 1 c.1, go (back t) refl s.0 s.1 s.2)
    where
      go : (r : Receive) → back t ≡ r → (e : ℕ) → e < 4 → wrong_at h xs e t ≡ true → IsWrong t
      go (Pairs p m) q e b w = (e, p, m, b, q, was_wrong (bit p e) (bit m e) (answer e t) (sym (wrong_is t p m e q) ∙ w))
      go (Answers a) q e b w = absurd (false≢true (sym (ap (λ (r : Receive). checks r && Sender.wrong (sender (read t) e) (receive_positive r e) (receive_negative r e)) q) ∙ w))

  -- ── a ping of line e that opens in tick p, receive pairs in every tick from it on, and no end of its turn before ──

  module _ (e p : ℕ) (o : line_opens h xs e p ≡ true) where
    abbrev Lasts : ℕ → Type 0
    Lasts k = ((t : ℕ) → p ≤ t → t ≤ p + k → (a : ℕ) × (b : ℕ) × (back t ≡ Pairs a b)) × ((t : ℕ) → p ≤ t → t < p + k → sets h xs t ≡ false)

    checked : (k : ℕ) → Lasts k → (t : ℕ) → p ≤ t → t ≤ p + k → checked_at xs t ≡ true
    checked k s t a b = let c = s.0 t a b in rw c.2 refl

    -- all four answers are right: it is answered in the fourth tick
    is_answered : p + 4 < length xs → Lasts 4
        → ((t a b : ℕ) → p < t → t ≤ p + 4 → back t ≡ Pairs a b → (bit a e ≡ answer e t) × (bit b e ≡ not (answer e t))) → line_answered h xs e (p + 4) ≡ true
    is_answered m s r =
        claim.answered e p 4 m o (checked 4 s) s.1
        ∙ all_of (λ j. not (wrong_at h xs e (p + suc j))) 4 (λ j b.
        let c = s.0 (p + suc j) (omega arith) (omega (arith, b)) in
        let d = r (p + suc j) c.0 c.1 (omega arith) (omega (arith, b)) c.2 in
        ap not (right (p + suc j) c.0 c.1 e c.2 d.0 d.1))

    -- one is wrong: it is not
    is_not : p + 4 < length xs → Lasts 4 → (j a b : ℕ) → j < 4 → back (p + suc j) ≡ Pairs a b
        → (bit a e ≡ bit b e) ⊎ (bit a e ≡ not (answer e (p + suc j))) → line_answered h xs e (p + 4) ≡ false
    is_not m s j a b l c w = claim.answered e p 4 m o (checked 4 s) s.1 ∙ go (all_right h xs e p 4) refl
      where
        go : (q : Bool) → all_right h xs e p 4 ≡ q → q ≡ false
        go false q = refl
        go true q = sym (all_at (λ i. not (wrong_at h xs e (p + suc i))) 4 q j l) ∙ ap not (wrong (p + suc j) a b e c w)

    -- nor in any other tick
    in_no_other : (k : ℕ) → p + k < length xs → Lasts k → (k ≡ 4 → ⊥) → line_answered h xs e (p + k) ≡ false
    in_no_other k m s d = claim.answered e p k m o (checked k s) s.1 ∙ ap (λ (b : Bool). b && all_right h xs e p 4) (ne_eqb k 4 d)

  -- ── the next ping of the line, and the right answers ──

  eight_apart : (e p q : ℕ) → q < length xs → line_opens h xs e p ≡ true → line_opens h xs e q ≡ true → p < q → p + 8 ≤ q
  eight_apart = claim.apart

  -- a sender as new, a ping of its line that is sent in tick p, and the line off up to three ticks later
  module _ (e p : ℕ) (l : e < 4) (m : p + 4 < length xs)
      (fresh : (bit h.links.senders.on e ≡ false) × (bit h.links.senders.first e ≡ false))
      (still : (bit h.links.senders.last e ≡ false) × (bit h.links.senders.deep e ≡ false) × (bit h.links.senders.answer e ≡ false))
      (o : line_opens h xs e p ≡ true) (free : bit (state p).links.senders.last e ≡ false)
      (off : (t : ℕ) → p ≤ t → t < p + 4 → bit (get_or (ticks h xs) t no_tick).output.lines e ≡ false) where
    make : Bool → Bool → Bool → Bool → Bool → Sender
    make a b c d f = record { on = a; first = b; sound = record { stands = response_of c d; answer = f } }

    is_new : sender_in h.links.senders e ≡ new_sender
    unfolding make
    is_new =
        ap₂ (λ (x y : Bool). make x y (bit h.links.senders.last e) (bit h.links.senders.deep e) (bit h.links.senders.answer e)) fresh.0 fresh.1
        ∙ ap₂ (λ (x y : Bool). make false false x y (bit h.links.senders.answer e)) still.0 still.1
        ∙ ap (λ (x : Bool). make false false false false x) still.2

    -- 1010
    pattern : (answer e (p + 1) ≡ true) × (answer e (p + 2) ≡ false) × (answer e (p + 3) ≡ true) × (answer e (p + 4) ≡ false)
    pattern =
        let c = claim.pattern e p l m is_new
        (record { opens = o; off_before = last_back (bit (state p).links.senders.last e) (bit (state p).links.senders.deep e) ∙ free; off = off }) in
        (c.one, c.two, c.three, c.four)

    -- "answered from the next tick with the 1010 pattern"
    answered_so : Lasts e p o 4 → ((a b : ℕ) → back (p + 1) ≡ Pairs a b → (bit a e ≡ true) × (bit b e ≡ false))
        → ((a b : ℕ) → back (p + 2) ≡ Pairs a b → (bit a e ≡ false) × (bit b e ≡ true))
        → ((a b : ℕ) → back (p + 3) ≡ Pairs a b → (bit a e ≡ true) × (bit b e ≡ false))
        → ((a b : ℕ) → back (p + 4) ≡ Pairs a b → (bit a e ≡ false) × (bit b e ≡ true)) → line_answered h xs e (p + 4) ≡ true
    answered_so s w x y z = is_answered e p o m s (λ t a b f g. by (t - p) t a b (omega (arith, f)) (omega (arith, f)) (omega (arith, g)))
      where
        at : (t k a b : ℕ) (u : Bool) → t ≡ p + k → answer e (p + k) ≡ u → ((a b : ℕ) → back (p + k) ≡ Pairs a b → (bit a e ≡ u) × (bit b e ≡ not u))
            → back t ≡ Pairs a b → (bit a e ≡ answer e t) × (bit b e ≡ not (answer e t))
        at t k a b u d n f q =
            let c = f a b (ap back (sym d) ∙ q) in
            let i = ap (answer e) d ∙ n in
            (c.0 ∙ sym i, c.1 ∙ ap not (sym i))

        by : (k t a b : ℕ) → t ≡ p + k → 0 < k → k ≤ 4 → back t ≡ Pairs a b → (bit a e ≡ answer e t) × (bit b e ≡ not (answer e t))
        by zero t a b d i j q = absurd (omega (arith, i))
        by (suc zero) t a b d i j q = at t 1 a b true d pattern.0 w q
        by (suc (suc zero)) t a b d i j q = at t 2 a b false d pattern.1 x q
        by (suc (suc (suc zero))) t a b d i j q = at t 3 a b true d pattern.2 y q
        by (suc (suc (suc (suc zero)))) t a b d i j q = at t 4 a b false d pattern.3 z q
        by (suc (suc (suc (suc (suc k))))) t a b d i j q = absurd (omega (arith, j))

  -- ── an older record: the open ping is answered where the line's bit says so, and no escalation closes it ──

  module _ (e t a : ℕ) (m : t < length xs) (c : back t ≡ Answers a) where
    older : (line_answered h xs e t ≡ (line_open h xs e t && says_answered (back t) e)) × (line_closes h xs e t ≡ false)
    older = claim.said e t m (ap checks c)

    as_said : line_open h xs e t ≡ true → bit a e ≡ true → line_answered h xs e t ≡ true
    as_said o s = older.0 ∙ ap₂ ◌&&◌ o (ap (λ (r : Receive). says_answered r e) c ∙ s)

    not_said : (line_open h xs e t ≡ false) ⊎ (bit a e ≡ false) → line_answered h xs e t ≡ false
    not_said (inl o) = older.0 ∙ ap (λ (b : Bool). b && says_answered (back t) e) o
    not_said (inr s) =
        older.0 ∙ ap (λ (b : Bool). line_open h xs e t && b) (ap (λ (r : Receive). says_answered r e) c ∙ s) ∙ and-false (line_open h xs e t)

    closes_none : line_closes h xs e t ≡ false
    closes_none = older.1

  -- ── what ends the turn of an open ping, whatever the record ──

  module _ (e t : ℕ) (m : t < length xs) (o : line_open h xs e t ≡ true) where
    abbrev IsOver : Type 0
    IsOver = (line_answered h xs e t ≡ true) ⊎ ((line_fails h xs e t ≡ true) ⊎ (line_closes h xs e t ≡ true))

    ends_by : IsOver → sets h xs t ≡ true
    ends_by w = claim.ends e t m o ∙ any_of (line_answered h xs e t) (line_fails h xs e t) (line_closes h xs e t) w

    ends_only : sets h xs t ≡ true → IsOver
    ends_only s = one_of (line_answered h xs e t) (line_fails h xs e t) (line_closes h xs e t) (sym (claim.ends e t m o) ∙ s)

  -- ── what closes it ──

  -- nothing closes a ping that is not open
  only_open : (e t : ℕ) → t < length xs → line_open h xs e t ≡ false → line_closes h xs e t ≡ false
  only_open e t m o =
      claim.closes e t m ∙ ap (λ (b : Bool). checked_at xs t && (b && (line_on h xs e t || (line_opens h xs e t && pair_was h xs e t)))) o ∙ and-false (checked_at xs t)

  module _ (e t a b : ℕ) (m : t < length xs) (c : back t ≡ Pairs a b) (o : line_open h xs e t ≡ true) where
    abbrev line : Bool
    line = bit (get_or (ticks h xs) t no_tick).output.lines e

    is_checked : checked_at xs t ≡ true
    is_checked = rw c refl

    closed_is : line_closes h xs e t ≡ (line || (line_opens h xs e t && pair_was h xs e t))
    closed_is = claim.closes e t m ∙ ap₂ (λ (x y : Bool). x && (y && (line || (line_opens h xs e t && pair_was h xs e t)))) is_checked o

    -- a line that is on, and the turn ends
    by_line : line ≡ true → (line_closes h xs e t ≡ true) × (sets h xs t ≡ true)
    by_line s = (d, ends_by e t m o (inr (inr d)))
      where
        d : line_closes h xs e t ≡ true
        d = closed_is ∙ ap (λ (x : Bool). x || (line_opens h xs e t && pair_was h xs e t)) s

    -- while the line is off: a ping that opens in this tick, right after a pair that was on, and nothing else
    by_pair : line ≡ false → line_closes h xs e t ≡ true → (line_opens h xs e t ≡ true) × (bit (state t).links.senders.last e ≡ true)
    by_pair s d =
        let q = and-true (line_opens h xs e t) (pair_was h xs e t) (sym (closed_is ∙ ap (λ (x : Bool). x || (line_opens h xs e t && pair_was h xs e t)) s) ∙ d) in
        (q.0, sym (last_back (bit (state t).links.senders.last e) (bit (state t).links.senders.deep e)) ∙ q.1)

    closes_pair : line_opens h xs e t ≡ true → bit (state t).links.senders.last e ≡ true → line_closes h xs e t ≡ true
    closes_pair q w =
        closed_is
        ∙ ap₂ (λ (x y : Bool). line || (x && y)) q (last_back (bit (state t).links.senders.last e) (bit (state t).links.senders.deep e) ∙ w)
        ∙ or-true line
