-- The whole claim across calls once more, taken from the theorem over every state, sequence of calls, tick and line, and said of what each call gives
-- back by itself. A claim that says less, or asks for more (a line left out, fewer calls, a first number, one more hypothesis), does not give it.
-- Assumes nothing.
use Prim.Native.Nat.{ℕ, zero, suc, ◌+◌, ◌-◌, ◌≤◌, ◌<◌}
use mathlib.Core.Path.{◌≡◌, refl, sym, ap, ap₂, subst, ◌∙◌}
use mathlib.Core.Logic.{◌≢◌, ◌⊎◌, inl, inr}
use mathlib.Core.Bool.{Bool, true, false}
use mathlib.Core.List.{List, [], ◌∷◌, ◌++◌, map}
use native.Mathlib.Nat.{le_of_suc-le-suc, not-suc-le-zero}
use native.Mathlib.Omega.{arith}
use lib.IntN.{pos, neg_ℤ}
use lib.ListN.{get_or, length, take, replicate, length-append, length-map, length-replicate, get_or-replicate, get_or-append}
use lib.Seq.{take_at, get_or-append-add, get_or-take}
use Rattle.bits.specs.Bits.{bit}
use Rattle.escalation.specs.Escalation.{Demand3}
use Rattle.escalation.specs.List.{IsTick, given_at, no_input, no_tick}
use Rattle.laws.proofs.Valid.Refusal7.{seven, seven_number}
use Rattle.laws.proofs.Tick.Runs.{ticks_at}
use Rattle.policy.specs.Install.{Ask, asks}
use Rattle.policy.specs.Plan.{plan_of, boot}
use Rattle.policy.specs.declared.Installed.{Installed}
use Rattle.policy.specs.declared.Lifecycle.{Lifecycle}
use Rattle.policy.specs.Progress.{Progress}
use Rattle.boot_laws.specs.Ran
use Rattle.boot_laws.specs.Ran.{wants, no_ask, StoppedAt}
use Rattle.boot_laws.proofs.Boot.{boot_either}
use Rattle.boot_laws.specs.Boots.{booted}
use Rattle.trace_rules.specs.Batch.{batch, batch_verdict, batch_inputs}
use Rattle.rules.specs.Answer.{number}
use Rattle.rules.specs.Run.{run, ticks}
use Rattle.rules.specs.Tick.{ticked}
use Rattle.rules.specs.Valid.{valid}
use Rattle.trace_rules.specs.declared.Edition.{Edition}
use Rattle.rules.specs.declared.Handler.{Handler}
use Rattle.rules.specs.declared.Input.{Input}
use Rattle.rules.specs.declared.Ticked.{Ticked}
use Rattle.calls.specs.BootTicks.{boot_inputs}
use Rattle.calls.specs.Calls.{Call, Tick, Batch, Boot, leaves, inputs, shows, line_in, Seen, Shown, Unseen, seen, leaves_all, in_turn, inputs_all, seen_all, shows_all, seen_at, shows_at, AcrossCalls}
use Rattle.calls.proofs.BootTicks.{boot_ran}
use Rattle.calls.proofs.Calls.{across_calls, turn_append}

-- ── lists ──

shows_length : (h : Handler) (cs : List Call) → length (shows_all h cs) ≡ length (inputs_all h cs)
unfolding in_turn
shows_length h [] = refl
shows_length h (c ∷ cs) =
    length-append (replicate (length (inputs h c)) (shows c)) (shows_all (leaves h c) cs)
    ∙ ap₂ ◌+◌ (length-replicate (length (inputs h c)) (shows c)) (shows_length (leaves h c) cs)
    ∙ sym (length-append (inputs h c) (inputs_all (leaves h c) cs))

-- place j of the list in the middle
middle : {A : Type 0} (us bs cs : List A) (n j : ℕ) (d : A) → length us ≡ n → j < length bs → get_or (us ++ (bs ++ cs)) (n + j) d ≡ get_or bs j d
middle us bs cs n j d e l =
    ap (λ (k : ℕ). get_or (us ++ (bs ++ cs)) (k + j) d) (sym e) ∙ get_or-append-add us (bs ++ cs) j d ∙ get_or-append bs cs d j l

map_at : {A B : Type 0} (f : A → B) (us : List A) (j : ℕ) (a : A) (b : B) → j < length us → get_or (map f us) j b ≡ f (get_or us j a)
map_at f [] j a b l = absurd (not-suc-le-zero l)
map_at f (x ∷ us) zero a b l = refl
map_at f (x ∷ us) (suc j) a b l = map_at f us j a b (le_of_suc-le-suc l)

-- ── calls us, then the call c, then calls bs, from any state that refusal 7 does not meet ──

module _ (h : Handler) (v : valid h ≡ true) (us : List Call) (c : Call) (bs : List Call) where
  abbrev calls : List Call
  calls = us ++ c ∷ bs

  abbrev xs : List Input
  xs = inputs_all h calls

  -- the state on which c is called, and how many ticks ran before it
  abbrev g : Handler
  g = leaves_all h us

  abbrev n : ℕ
  n = length (inputs_all h us)

  claim : AcrossCalls h calls
  claim = across_calls h calls v

  -- the list is that of each call's ticks on the state that the last call left
  xs_is : xs ≡ inputs_all h us ++ (inputs g c ++ inputs_all (leaves g c) bs)
  unfolding in_turn
  xs_is = turn_append inputs h us (c ∷ bs)

  first_calls : take (length us) calls ≡ us
  first_calls = take_at us (c ∷ bs) (length us) refl

  -- state: c is called on the state after the n ticks before it, and refusal 7 does not meet it
  pub every_state : g ≡ run h (take n xs)
  every_state =
      ap (leaves_all h) (sym first_calls) ∙ claim.states (length us) ∙ ap (λ (cs : List Call). run h (take (length (inputs_all h cs)) xs)) first_calls

  pub every_good : valid g ≡ true
  every_good = ap (λ (cs : List Call). valid (leaves_all h cs)) (sym first_calls) ∙ claim.accepted (length us)

  -- answers: no tick answers -7
  pub no_tick_7 : (first t : ℕ) → IsTick first xs t → number (given_at first h xs t).answer ≢ neg_ℤ (pos 7)
  no_tick_7 first t m e =
      let i : ℕ = t - first in
      let l : i < length xs = omega (arith, m.from, m.to) in
      let o : get_or (ticks h xs) i no_tick ≡ ticked (run h (take i xs)) (get_or xs i no_input) = ticks_at h xs i no_input no_tick l in
      let bad : valid (run h (take i xs)) ≡ false = (seven_number (run h (take i xs)) (get_or xs i no_input)).0 (ap (λ (u : Ticked). number u.answer) (sym o) ∙ e) in
      claim.runs first t m (ap (λ (u : Ticked). u.answer) o ∙ (seven (run h (take i xs)) (get_or xs i no_input)).1 bad)

  -- demand 3, of the ticks of all calls
  pub every_demand : Demand3 h (inputs_all h us ++ (inputs g c ++ inputs_all (leaves g c) bs))
  every_demand = subst (Demand3 h) xs_is claim.demand3

  -- ── tick j of c, whatever the number of the first tick ──

  -- each call has as many places as ticks
  seen_places : (f : Handler) (cs : List Call) → valid f ≡ true → length (seen_all f cs) ≡ length (inputs_all f cs)
  seen_places f cs w = (across_calls f cs w).each_tick

  module _ (first j : ℕ) (l : j < length (inputs g c)) where
    abbrev t : ℕ
    t = first + (n + j)

    of_list : IsTick first xs t
    of_list =
        let a : length xs ≡ n + (length (inputs g c) + length (inputs_all (leaves g c) bs)) =
        ap length xs_is ∙ length-append (inputs_all h us) (inputs g c ++ inputs_all (leaves g c) bs)
        ∙ ap (λ (k : ℕ). n + k) (length-append (inputs g c) (inputs_all (leaves g c) bs)) in
        record { from = omega arith; to = omega (arith, a) }

    number_is : t - first ≡ n + j
    number_is = omega arith

    -- its place is the caller's
    shows_here : shows_at first h calls t ≡ shows c
    unfolding in_turn
    shows_here =
        ap (λ (k : ℕ). get_or (shows_all h calls) k false) number_is
        ∙ ap (λ (ys : List Bool). get_or ys (n + j) false) (turn_append (λ f d. replicate (length (inputs f d)) (shows d)) h us (c ∷ bs))
        ∙ middle (shows_all h us) (replicate (length (inputs g c)) (shows c)) (shows_all (leaves g c) bs) n j false (shows_length h us)
        (omega (arith, length-replicate (length (inputs g c)) (shows c)))
        ∙ get_or-replicate (length (inputs g c)) j (shows c) false l

    in_call : j < length (seen g c)
    unfolding in_turn
    in_call =
        let a : length (seen g c ++ []) ≡ length (inputs g c ++ []) = seen_places g (c ∷ []) every_good in
        omega (arith, l, a, length-append (seen g c) [], length-append (inputs g c) [])

    seen_here : seen_at first h calls t ≡ get_or (seen g c) j Unseen
    unfolding in_turn
    seen_here =
        ap (λ (k : ℕ). get_or (seen_all h calls) k Unseen) number_is
        ∙ ap (λ (ys : List Seen). get_or ys (n + j) Unseen) (turn_append seen h us (c ∷ bs))
        ∙ middle (seen_all h us) (seen g c) (seen_all (leaves g c) bs) n j Unseen (seen_places h us v) in_call

    -- shown by a tick call, a batch and a calm call, by a boot not
    pub every_shown : shows c ≡ true → (f : ℕ → Bool) × (get_or (seen g c) j Unseen ≡ Shown f)
    every_shown s = let u = claim.shown first t of_list (shows_here ∙ s) in (u.0, sym seen_here ∙ u.1)

    pub every_unseen : shows c ≡ false → seen_at first h calls t ≡ Unseen
    every_unseen s = claim.unseen first t of_list (shows_here ∙ s)

    pub every_line : (f : ℕ → Bool) → get_or (seen g c) j Unseen ≡ Shown f → (e : ℕ) → e < 4 → f e ≡ bit (given_at first h xs t).output.lines e
    every_line f s e b = claim.line first t e f of_list (seen_here ∙ s) b

-- ── in numbers: bit e of the lines that a tick call gives, and bit 59 - e of word j of the list that a batch leaves ──

module _ (h : Handler) (v : valid h ≡ true) (us bs : List Call) (first e : ℕ) (b : e < 4) where
  pub tick_line : (x : Input)
      → bit (ticked (leaves_all h us) x).output.lines e
      ≡ bit (given_at first h (inputs_all h (us ++ Tick x ∷ bs)) (first + (length (inputs_all h us) + 0))).output.lines e
  tick_line x = every_line h v us (Tick x) bs first 0 (omega arith) (bit (ticked (leaves_all h us) x).output.lines) refl e b

  pub word_line : (w : Edition) (bytes out : List ℕ) (j : ℕ)
      → j < length (batch_inputs w (batch_verdict w (leaves_all h us) bytes out) bytes)
      → bit (get_or (batch w (leaves_all h us) bytes out).out j 0) (59 - e)
      ≡ bit (given_at first h (inputs_all h (us ++ Batch w bytes out ∷ bs)) (first + (length (inputs_all h us) + j))).output.lines e
  word_line w bytes out j l =
      let f : Handler = leaves_all h us in
      let d : Call = Batch w bytes out in
      let left : List ℕ = take (length (inputs f d)) (batch w f bytes out).out in
      let k : j < length left = omega (arith, in_call h v us d bs first j l, length-map left (λ (u : ℕ). Shown (line_in u))) in
      let s : get_or (seen f d) j Unseen ≡ Shown (line_in (get_or (batch w f bytes out).out j 0)) =
      map_at (λ (u : ℕ). Shown (line_in u)) left j 0 Unseen k
      ∙ ap (λ (u : ℕ). Shown (line_in u)) (get_or-take (length (inputs f d)) (batch w f bytes out).out j 0 l) in
      every_line h v us d bs first j l (line_in (get_or (batch w f bytes out).out j 0)) s e b

-- nobody sees the ticks of a boot
pub boot_unseen : (h : Handler) → valid h ≡ true → (us bs : List Call) (l : Lifecycle) (first j : ℕ) → j < length (boot_inputs l (leaves_all h us))
    → seen_at first h (us ++ Boot l ∷ bs) (first + (length (inputs_all h us) + j)) ≡ Unseen
boot_unseen h v us bs l first j m = every_unseen h v us (Boot l) bs first j m refl

-- ── the ticks of any boot: none, all of the plan's, or those up to the first answer that is not wanted ──

module _ (l : Lifecycle) (h : Handler) where
  abbrev plan : List Ask
  plan = asks (plan_of l)

  pub boot_none : (valid h ≡ false) ⊎ (h.n < 58) → boot_inputs l h ≡ []
  boot_none (inl e) = (boot_ran l h).refused_7 e
  boot_none (inr m) = (boot_ran l h).refused_13 m

  pub boot_begun : valid h ≡ true → 58 ≤ h.n
      → (boot_inputs l h ≡ Ran.inputs plan)
      ⊎ ((p : ℕ) × (wants (run h (take p (Ran.inputs plan))) (get_or plan p no_ask) ≡ false) × (boot_inputs l h ≡ take (suc p) (Ran.inputs plan)))
  boot_begun t m = go (boot_either l h t m)
    where
      go : (boot l h ≡ booted l h) ⊎ ((s : Progress) × StoppedAt h plan s × (boot l h ≡ s.reached))
          → (boot_inputs l h ≡ Ran.inputs plan)
          ⊎ ((p : ℕ) × (wants (run h (take p (Ran.inputs plan))) (get_or plan p no_ask) ≡ false) × (boot_inputs l h ≡ take (suc p) (Ran.inputs plan)))
      go (inl e) =
          inl ((boot_ran l h).success (record { register = ap (λ (r : Installed). r.register) e; answer = ap (λ (r : Installed). r.answer) e }))
      go (inr q) = inr (q.1.place, q.1.there, (boot_ran l h).stop t m q.0 q.1)
