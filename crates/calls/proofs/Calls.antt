-- Demand 3 across calls, of every sequence of calls from every state that refusal 7 does not meet.
-- Assumes nothing.
use Prim.Native.Nat.{ℕ, zero, suc, ◌+◌, ◌-◌, ◌≤◌, ◌<◌}
use mathlib.Core.Path.{◌≡◌, refl, sym, ap, subst, ◌∙◌}
use mathlib.Core.Logic.{◌≢◌}
use mathlib.Core.Bool.{Bool, true, false, false≢true, true≢false}
use mathlib.Core.List.{List, [], ◌∷◌, ◌++◌, map, append_assoc}
use native.Mathlib.Nat.{le_of_suc-le-suc, not-suc-le-zero, add-zero, add-suc, suc-add, zero-add}
use native.Mathlib.Omega.{arith}
use lib.ListN.{get_or, length, take, drop, replicate, length-append, length-map}
use lib.Seq.{take_at, take-append-add}
use Rattle.std.specs.Prelude.{Result, Ok, Err}
use Rattle.bits.specs.Bits.{bit}
use Rattle.bits.specs.Index.{each, each_from}
use Rattle.calm_laws.proofs.CalmRuns.{calm_is_run, length_inputs}
use Rattle.calm_laws.proofs.CalmTicks.{calm_output_at}
use Rattle.calm_laws.proofs.Tells.{tells}
use Rattle.calm_laws.specs.Tells.{lines_by}
use Rattle.calm_rules.specs.Call.{calm_verdict, inputs_by, calmed_by, list_by, calmed, calmed_list, call_inputs}
use Rattle.calm_rules.specs.Ticks.{calm_inputs, calm_changes}
use Rattle.calm_rules.specs.declared.Bar.{Bar}
use Rattle.escalation.proofs.Demand3.{demand3}
use Rattle.escalation.specs.List.{IsTick, given_at, no_input, no_tick}
use Rattle.laws.proofs.Valid.KeepsValid.{run_valid}
use Rattle.laws.proofs.Valid.Refusal7.{seven}
use Rattle.laws.proofs.Tick.Runs.{run_append, ticks_append, ticks_at, length_ticks}
use Rattle.trace_rules.specs.Batch.{batch, batch_of, batch_verdict, batch_inputs}
use Rattle.rules.specs.Run.{run, ticks}
use Rattle.rules.specs.Tick.{lines, ticked}
use Rattle.rules.specs.Valid.{valid}
use Rattle.trace_rules.specs.Word.{word_of}
use Rattle.rules.specs.declared.Answer.{Answer}
use Rattle.rules.specs.declared.Handler.{Handler}
use Rattle.rules.specs.declared.Input.{Input}
use Rattle.rules.specs.declared.Refusal.TheVariants.{BadState}
use Rattle.rules.specs.declared.Output.{Output}
use Rattle.rules.specs.declared.Ticked.{Ticked}
use Rattle.rules.specs.declared.Wires.{Wires}
use Rattle.trace_laws.proofs.WordFields.{line_bit}
use Rattle.trace_laws.proofs.ReadValues.{read_fits}
use Rattle.calls.specs.BootTicks.{boot_inputs}
use Rattle.calls.specs.Calls.{Call, Tick, Batch, Boot, Calm, leaves, inputs, shows, line_in, Seen, Shown, Unseen, word_count, seen, leaves_all, in_turn, inputs_all, seen_all, shows_all, AcrossCalls}
use Rattle.calls.proofs.BootTicks.{boot_run}

-- ── what is seen of a list of ticks ──

-- of each that is shown its lines, of each other nothing
data SeenOf : List Bool → List Seen → List Ticked → Type 0 where
  none : SeenOf [] [] []
  shows_lines :
      {f : ℕ → Bool} {t : Ticked} {bs : List Bool} {fs : List Seen} {ts : List Ticked} → ((e : ℕ) → e < 4 → f e ≡ bit t.output.lines e) → SeenOf bs fs ts
      → SeenOf (true ∷ bs) (Shown f ∷ fs) (t ∷ ts)
  shows_none : {t : Ticked} {bs : List Bool} {fs : List Seen} {ts : List Ticked} → SeenOf bs fs ts → SeenOf (false ∷ bs) (Unseen ∷ fs) (t ∷ ts)

seen_append : {bs cs : List Bool} {fs gs : List Seen} {ts us : List Ticked} → SeenOf bs fs ts → SeenOf cs gs us → SeenOf (bs ++ cs) (fs ++ gs) (ts ++ us)
seen_append none b = b
seen_append (shows_lines s a) b = shows_lines s (seen_append a b)
seen_append (shows_none a) b = shows_none (seen_append a b)

seen_length : {bs : List Bool} {fs : List Seen} {ts : List Ticked} → SeenOf bs fs ts → length fs ≡ length ts
seen_length none = refl
seen_length (shows_lines s a) = ap suc (seen_length a)
seen_length (shows_none a) = ap suc (seen_length a)

-- of one of them
record SeenIn (b : Bool) (s : Seen) (t : Ticked) : Type 0 where
  shown : b ≡ true → (f : ℕ → Bool) × (s ≡ Shown f)
  unseen : b ≡ false → s ≡ Unseen
  line : (f : ℕ → Bool) → s ≡ Shown f → (e : ℕ) → e < 4 → f e ≡ bit t.output.lines e

abbrev is_shown : Seen → Bool
is_shown (Shown f) = true
is_shown Unseen = false

abbrev lines_of : Seen → ℕ → Bool
lines_of (Shown f) = f
lines_of Unseen = λ _. false

seen_at : {bs : List Bool} {fs : List Seen} {ts : List Ticked} → SeenOf bs fs ts → (b : Bool) (d : Seen) (n : Ticked) (i : ℕ) → i < length ts
    → SeenIn (get_or bs i b) (get_or fs i d) (get_or ts i n)
seen_at none b d n i l = absurd (not-suc-le-zero l)
seen_at (shows_lines {f} s a) b d n zero l =
    record {
      shown = λ _. (f, refl);
      unseen = λ e. absurd (true≢false e);
      line = λ g e k m. ap (λ (u : Seen). lines_of u k) (sym e) ∙ s k m;
    }
seen_at (shows_none a) b d n zero l =
    record { shown = λ e. absurd (false≢true e); unseen = λ _. refl; line = λ g e k m. absurd (false≢true (ap is_shown e)) }
seen_at (shows_lines s a) b d n (suc i) l = seen_at a b d n i (le_of_suc-le-suc l)
seen_at (shows_none a) b d n (suc i) l = seen_at a b d n i (le_of_suc-le-suc l)

-- ── one call ──

-- a calm call that runs, and one that is refused
calm_leaves : (h : Handler) (w : Wires) (n : ℕ) (d : Result (Unit {0}) Bar) → (calmed_by d h w n).handler ≡ run h (inputs_by d h w n)
unfolding run
calm_leaves h w n (Ok _) = calm_is_run h w n
calm_leaves h w n (Err b) = refl

-- it leaves the state after its ticks
leaves_run : (h : Handler) (c : Call) → leaves h c ≡ run h (inputs h c)
unfolding run batch batch_of calmed call_inputs
leaves_run h (Tick x) = refl
leaves_run h (Batch v bytes out) = refl
leaves_run h (Boot l) = boot_run l h
leaves_run h (Calm w n small list) = calm_leaves h w n (calm_verdict h list)

-- the lines of a tick are in its word
words_seen : (h : Handler) (xs : List Input) → valid h ≡ true
    → SeenOf (replicate (length xs) true) (map (λ (w : ℕ). Shown (line_in w)) (map word_of (ticks h xs))) (ticks h xs)
unfolding ticks run
words_seen h [] v = none
words_seen h (x ∷ xs) v = shows_lines (line_bit (ticked h x) (read_fits h v x)) (words_seen (ticked h x).handler xs (run_valid h (x ∷ []) v))

-- a place for each tick that nobody sees
none_seen : (h : Handler) (xs : List Input) → SeenOf (replicate (length xs) false) (replicate (length xs) Unseen) (ticks h xs)
unfolding ticks
none_seen h [] = none
none_seen h (x ∷ xs) = shows_none (none_seen (ticked h x).handler xs)

-- a list of ticks whose lines are these
by_index : (f : ℕ → ℕ → Bool) (ts : List Ticked) (first : ℕ)
    → ((i : ℕ) → i < length ts → (e : ℕ) → e < 4 → f (first + i) e ≡ bit (get_or ts i no_tick).output.lines e)
    → SeenOf (replicate (length ts) true) (each_from first (length ts) (λ i. Shown (f i))) ts
unfolding each_from
by_index f [] first s = none
by_index f (t ∷ ts) first s =
    shows_lines (λ e l. ap (λ (i : ℕ). f i e) (sym (add-zero first)) ∙ s 0 (omega arith) e l)
    (by_index f ts (suc first) (λ i l e m. ap (λ (j : ℕ). f j e) (suc-add first i ∙ sym (add-suc first i)) ∙ s (suc i) (omega arith) e m))

-- the words of a calm call tell the lines of its ticks
calm_seen : (h : Handler) (w : Wires) (n : ℕ) (list : List ℕ) (d : Result (Unit {0}) Bar) → valid h ≡ true → n ≤ 4294967295
    → SeenOf (replicate (length (inputs_by d h w n)) true)
    (each (length (inputs_by d h w n)) (λ i. Shown (bit (lines_by (lines h) (take (word_count (calmed_by d h w n).answer) (list_by d h w n list)) (suc i)))))
    (ticks h (inputs_by d h w n))
unfolding ticks each_from
calm_seen h w n list (Ok _) v small =
    subst (λ (k : ℕ). SeenOf (replicate k true) (each k (λ i. Shown (bit (lines_by (lines h) ws (suc i))))) (ticks h xs)) (length_ticks h xs)
    (by_index (λ i. bit (lines_by (lines h) ws (suc i))) (ticks h xs) 0
    (λ i l e m. ap (λ (j : ℕ). bit (lines_by (lines h) ws (suc j)) e) (zero-add i) ∙ ap (λ (o : ℕ). bit o e) (told i (omega (arith, l, length_ticks h xs, length_inputs h w n)))))
  where
    xs : List Input
    xs = calm_inputs h w n

    ws : List ℕ
    ws = take (length (calm_changes h w n)) (calm_changes h w n ++ drop (length (calm_changes h w n)) list)

    told : (i : ℕ) → i < n → lines_by (lines h) ws (suc i) ≡ (get_or (ticks h xs) i no_tick).output.lines
    told i l =
        ap (λ (us : List ℕ). lines_by (lines h) us (suc i)) (take_at (calm_changes h w n) (drop (length (calm_changes h w n)) list) (length (calm_changes h w n)) refl)
        ∙ (tells h w n v (omega arith)).each_tick (suc i) l
        ∙ ap (λ (o : Output). o.lines) (sym (calm_output_at h w n i no_input no_tick l))
calm_seen h w n list (Err b) v small = none

seen_ticks : (h : Handler) (c : Call) → valid h ≡ true → SeenOf (replicate (length (inputs h c)) (shows c)) (seen h c) (ticks h (inputs h c))
unfolding ticks batch batch_of calmed calmed_list call_inputs
seen_ticks h (Tick x) v = shows_lines (λ e l. refl) none
seen_ticks h (Batch v bytes out) ok =
    let xs = batch_inputs v (batch_verdict v h bytes out) bytes in
    subst (λ (ws : List ℕ). SeenOf (replicate (length xs) true) (map (λ (w : ℕ). Shown (line_in w)) ws) (ticks h xs))
    (sym (take_at (map word_of (ticks h xs)) (drop (length xs) out) (length xs) (length-map (ticks h xs) word_of ∙ length_ticks h xs)))
    (words_seen h xs ok)
seen_ticks h (Boot l) v = none_seen h (boot_inputs l h)
seen_ticks h (Calm w n small list) v = calm_seen h w n list (calm_verdict h list) v small

-- ── calls one after another ──

pub all_run : (h : Handler) (cs : List Call) → leaves_all h cs ≡ run h (inputs_all h cs)
unfolding leaves_all in_turn run
all_run h [] = refl
all_run h (c ∷ cs) =
    all_run (leaves h c) cs ∙ ap (λ (g : Handler). run g (inputs_all (leaves h c) cs)) (leaves_run h c)
    ∙ sym (run_append h (inputs h c) (inputs_all (leaves h c) cs))

-- what calls give is what the first of them give, and then the others on the state that those left
pub turn_append : {A : Type 0} (f : Handler → Call → List A) (h : Handler) (us bs : List Call)
    → in_turn f h (us ++ bs) ≡ in_turn f h us ++ in_turn f (leaves_all h us) bs
unfolding in_turn leaves_all
turn_append {A} f h [] bs = refl
turn_append {A} f h (a ∷ us) bs =
    ap (λ (ys : List A). f h a ++ ys) (turn_append f (leaves h a) us bs) ∙ sym (append_assoc (f h a) (in_turn f (leaves h a) us) (in_turn f (leaves_all (leaves h a) us) bs))

-- the ticks of the first i calls are the first of all
pub inputs_first : (h : Handler) (cs : List Call) (i : ℕ) → inputs_all h (take i cs) ≡ take (length (inputs_all h (take i cs))) (inputs_all h cs)
unfolding in_turn
inputs_first h cs zero = refl
inputs_first h [] (suc i) = refl
inputs_first h (c ∷ cs) (suc i) =
    let xs = inputs h c in
    let ys = inputs_all (leaves h c) (take i cs) in
    let zs = inputs_all (leaves h c) cs in
    ap (λ (us : List Input). xs ++ us) (inputs_first (leaves h c) cs i)
    ∙ sym (take-append-add xs zs (length ys))
    ∙ sym (ap (λ (n : ℕ). take n (xs ++ zs)) (length-append xs ys))

seen_all_law : (h : Handler) (cs : List Call) → valid h ≡ true → SeenOf (shows_all h cs) (seen_all h cs) (ticks h (inputs_all h cs))
unfolding in_turn ticks
seen_all_law h [] v = none
seen_all_law h (c ∷ cs) v =
    let g : leaves h c ≡ run h (inputs h c) = leaves_run h c in
    subst (SeenOf (shows_all h (c ∷ cs)) (seen_all h (c ∷ cs)))
    (ap (λ (f : Handler). ticks h (inputs h c) ++ ticks f (inputs_all (leaves h c) cs)) g ∙ sym (ticks_append h (inputs h c) (inputs_all (leaves h c) cs)))
    (seen_append (seen_ticks h c v) (seen_all_law (leaves h c) cs (ap valid g ∙ run_valid h (inputs h c) v)))

-- ── the claim ──

pub across_calls : (h : Handler) (cs : List Call) → valid h ≡ true → AcrossCalls h cs
across_calls h cs v =
    record {
      states = λ i. all_run h (take i cs) ∙ ap (run h) (inputs_first h cs i);
      accepted = λ i. ap valid (all_run h (take i cs)) ∙ run_valid h (inputs_all h (take i cs)) v;
      runs = runs;
      each_tick = seen_length (seen_all_law h cs v) ∙ length_ticks h xs;
      shown = λ first t a. (at first t a).shown;
      unseen = λ first t a. (at first t a).unseen;
      line = λ first t e f a s l. (at first t a).line f s e l;
      demand3 = demand3 h xs v;
    }
  where
    xs : List Input
    xs = inputs_all h cs

    at : (first t : ℕ) → IsTick first xs t
        → SeenIn (get_or (shows_all h cs) (t - first) false) (get_or (seen_all h cs) (t - first) Unseen) (get_or (ticks h xs) (t - first) no_tick)
    at first t a = seen_at (seen_all_law h cs v) false Unseen no_tick (t - first) (omega (arith, a.from, a.to, length_ticks h xs))

    runs : (first t : ℕ) → IsTick first xs t → (given_at first h xs t).answer ≢ Answer.Refused BadState
    runs first t a e =
        let i : ℕ = t - first in
        let l : i < length xs = omega (arith, a.from, a.to) in
        let bad = (seven (run h (take i xs)) (get_or xs i no_input)).0 (sym (ap (λ (o : Ticked). o.answer) (ticks_at h xs i no_input no_tick l)) ∙ e) in
        false≢true (sym bad ∙ run_valid h (take i xs) v)
