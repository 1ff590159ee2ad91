-- Demand 3 across calls at work: an escalation that goes over the boundaries of calls, computed and by the theorem, and each part of the claim.
-- Assumes nothing.
use Prim.Native.Nat.{ℕ, ◌+◌, ◌-◌, ◌≤◌, ◌<◌}
use mathlib.Core.Path.{◌≡◌, refl, sym, ap, ◌∙◌}
use mathlib.Core.Logic.{◌≢◌, ◌⊎◌, inl, inr}
use mathlib.Core.Bool.{Bool, true, false, false≢true}
use mathlib.Core.List.{List, [], ◌∷◌, ◌++◌, map}
use native.Mathlib.Omega.{arith}
use lib.ListN.{get_or, length, take, replicate}
use lib.Seq.{take-length}
use lib.IntN.{negsuc}
use Rattle.bits.specs.Bits.{bit}
use Rattle.class_rules.specs.declared.Class.{Class}
use Rattle.escalation.proofs.StartExamples.{locked, post}
use Rattle.escalation.specs.Escalation.{Escalated, value_of}
use Rattle.escalation.specs.List.{IsTick, given_at, no_tick}
use Rattle.laws.proofs.Valid.Refusal7.{seven}
use Rattle.rules.proofs.Scenes.{rules, settings, zeros}
use Rattle.trace_rules.proofs.TraceScenes.{traces}
use Rattle.trace_rules.specs.Batch.{batch}
use Rattle.rules.specs.Run.{ticks}
use Rattle.rules.specs.Scenes.{rest, raise, none, write}
use Rattle.rules.specs.Tick.{ticked}
use Rattle.rules.specs.Valid.{valid}
use Rattle.rules.specs.declared.Answer.{Answer}
use Rattle.trace_rules.specs.declared.Edition.{Edition}
use Rattle.rules.specs.declared.Handler.{Handler}
use Rattle.rules.specs.declared.Input.{Input}
use Rattle.rules.specs.declared.Refusal.TheVariants.{BadState}
use Rattle.rules.specs.declared.Register.TheVariants.{Block}
use Rattle.rules.specs.declared.Setting.{Setting}
use Rattle.calls.specs.Calls.{Call, Tick, Batch, leaves, Seen, Shown, Unseen, leaves_all, in_turn, inputs_all, seen_all, seen_at, shows_at, AcrossCalls}
use Rattle.calls.proofs.Calls.{across_calls}

-- ── five calls: class 2 starts in the first, in tick 100, with phases of two ticks; line e is mapped to Phase e ──

abbrev pub class : Class
class = locked 0 0 (2 ∷ 2 ∷ 2 ∷ 2 ∷ [])

abbrev pub station : Handler
station = post 2 class

-- a record of each edition with no access and all wires at (0,1)
abbrev rest64 : List ℕ
rest64 = replicate 16 0 ++ replicate 8 255

abbrev rest248 : List ℕ
rest248 = replicate 39 0 ++ replicate 31 255

abbrev pub starting : Call
starting = Tick (raise 1 none)

-- 71 bytes: refused with 8
abbrev refused : Call
refused = Batch Edition.Alerts248 (0 ∷ rest248) (5 ∷ 5 ∷ [])

-- two records of the old edition into a list of three, and one of the new
abbrev old : Call
old = Batch Edition.Alerts64 (rest64 ++ rest64) (7 ∷ 7 ∷ 7 ∷ [])

abbrev new : Call
new = Batch Edition.Alerts248 rest248 (9 ∷ [])

abbrev pub calls : List Call
calls = starting ∷ refused ∷ old ∷ new ∷ Tick (rest none) ∷ []

-- what the batches give, each on the state that the calls before it left: the refused one its list as it was, the others their words
abbrev after : ℕ → Handler
after i = leaves_all station (take i calls)

gives : ((batch Edition.Alerts248 (after 1) (0 ∷ rest248) (5 ∷ 5 ∷ [])).answer ≡ negsuc 7)
    × ((batch Edition.Alerts248 (after 1) (0 ∷ rest248) (5 ∷ 5 ∷ [])).out ≡ 5 ∷ 5 ∷ [])
    × ((batch Edition.Alerts64 (after 2) (rest64 ++ rest64) (7 ∷ 7 ∷ 7 ∷ [])).out ≡ 0x0800000000000000 ∷ 0x0400000000000000 ∷ 7 ∷ [])
    × ((batch Edition.Alerts248 (after 3) rest248 (9 ∷ [])).out ≡ 0x0400000000000000 ∷ [])
unfolding rules traces leaves_all
gives = (refl, refl, refl, refl)

-- the four lines of a tick that is shown
abbrev pub lines : Seen → List Bool
lines (Shown f) = f 0 ∷ f 1 ∷ f 2 ∷ f 3 ∷ []
lines Unseen = []

-- the lines that the callers see in ticks 100 to 104: 0, 0, 1, 1, 2

computed : map lines (seen_all station calls)
    ≡ (true ∷ false ∷ false ∷ false ∷ [])
    ∷ (true ∷ false ∷ false ∷ false ∷ [])
    ∷ (false ∷ true ∷ false ∷ false ∷ [])
    ∷ (false ∷ true ∷ false ∷ false ∷ [])
    ∷ (false ∷ false ∷ true ∷ false ∷ [])
    ∷ []
unfolding rules traces in_turn
computed = refl

-- ── the same start, and then any calls cs: what the claim says of every tick t that they reach ──

module _ (cs : List Call) where
  claim : AcrossCalls station (starting ∷ cs)
  unfolding rules traces
  claim = across_calls station (starting ∷ cs) refl

  -- whatever the number of the first tick, line 0 is seen on in it
  at_any_number : (first : ℕ) (f : ℕ → Bool) → seen_at first station (starting ∷ cs) first ≡ Shown f → f 0 ≡ true
  unfolding rules traces in_turn
  at_any_number first f s =
      let n : first - first ≡ 0 = omega arith in
      claim.line first first 0 f (record { from = omega arith; to = omega arith }) s (omega arith)
      ∙ ap (λ (i : ℕ). bit (get_or (ticks station (inputs_all station (starting ∷ cs))) i no_tick).output.lines 0) n

  module _ (t : ℕ) (from : 100 ≤ t) (to : t ≤ 100 + length (inputs_all (leaves station starting) cs)) where
    of_list : IsTick 100 (inputs_all station (starting ∷ cs)) t
    unfolding in_turn
    of_list = record { from = from; to = omega arith }

    escalated : Escalated class 100 t (given_at 100 station (inputs_all station (starting ∷ cs)) t) 2
    unfolding rules traces in_turn
    escalated =
        claim.demand3.escalation 100 2 100 (record { from = omega arith; to = omega arith })
        (record { is_class = omega arith; is_start = refl; is_locked = refl; has_en = refl; has_lock = refl }) t from of_list

    -- line 1 is on in ticks 102 and 103, wherever they are seen: by a tick call or in the word of a batch
    seen_on : (f : ℕ → Bool) → seen_at 100 station (starting ∷ cs) t ≡ Shown f → 102 ≤ t → t < 104 → f 1 ≡ true
    unfolding bit
    seen_on f s a b =
        claim.line 100 t 1 f of_list s (omega arith)
        ∙ (escalated.line 1 (omega arith)).inside refl (record { from = omega arith; to = omega arith })

    -- each of these ticks has its place: shown, or by a boot and unseen
    one_each : t - 100 < length (seen_all station (starting ∷ cs))
    unfolding in_turn
    one_each = omega (arith, claim.each_tick)

    shown_or_not : (b : Bool) → shows_at 100 station (starting ∷ cs) t ≡ b
        → ((f : ℕ → Bool) × (seen_at 100 station (starting ∷ cs) t ≡ Shown f)) ⊎ (seen_at 100 station (starting ∷ cs) t ≡ Unseen)
    shown_or_not true e = inl (claim.shown 100 t of_list e)
    shown_or_not false e = inr (claim.unseen 100 t of_list e)

    -- none of them is refused with 7
    no_7 : (given_at 100 station (inputs_all station (starting ∷ cs)) t).answer ≢ Answer.Refused BadState
    no_7 = claim.runs 100 t of_list

-- ── from any state that refusal 7 does not meet, after any calls: a tick call is not refused with 7 ──

tick_runs : (h : Handler) (cs : List Call) (x : Input) → valid h ≡ true → (ticked (leaves_all h cs) x).answer ≢ Answer.Refused BadState
tick_runs h cs x v e =
    let ok : valid (leaves_all h (take (length cs) cs)) ≡ true = (across_calls h cs v).accepted (length cs) in
    false≢true (sym ((seven (leaves_all h cs) x).0 e) ∙ ap (λ (ds : List Call). valid (leaves_all h ds)) (sym (take-length cs)) ∙ ok)

-- ── locks: class 3 is locked by a tick call, and after any calls its CTRL, 1329, is as it was ──

abbrev open3 : Handler
open3 = post 3 (settings 0x393F 0 0 zeros)

abbrev locking : Call
locking = Tick (rest (write (Block Setting.Regwen 3) 0))

stays : (cs : List Call) → value_of (leaves_all open3 (locking ∷ cs)) 1329 ≡ 0x393F
unfolding rules traces in_turn
stays cs =
    let a : AcrossCalls open3 (locking ∷ cs) = across_calls open3 (locking ∷ cs) refl in
    let n : ℕ = length (locking ∷ cs) in
    let j : ℕ = length (inputs_all open3 (take n (locking ∷ cs))) in
    let e : take n (locking ∷ cs) ≡ locking ∷ cs = take-length (locking ∷ cs) in
    let m : j ≡ length (inputs_all open3 (locking ∷ cs)) = ap (λ (ds : List Call). length (inputs_all open3 ds)) e in
    ap (λ (ds : List Call). value_of (leaves_all open3 ds) 1329) (sym e)
    ∙ ap (λ (g : Handler). value_of g 1329) (a.states n)
    ∙ (a.demand3.locks 1 j 1329 (omega arith) (omega arith) refl).1
