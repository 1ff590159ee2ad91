-- The sentences once more, taken from the theorem over every state that 7 accepts and all bytes, in raw fields and literal numbers. A claim that says less
-- does not give it.
-- Assumes nothing.
use Prim.Native.Nat.{ℕ, ◌+◌, ◌-◌, ◌*◌, ◌≤◌, ◌<◌}
use mathlib.Core.Path.{◌≡◌, refl, ap, ◌∙◌}
use mathlib.Core.Logic.{◌≢◌}
use mathlib.Core.Bool.{Bool, true, cond}
use mathlib.Core.List.{List, [], ◌∷◌, ◌++◌}
use native.Mathlib.Omega.{arith}
use borrow.Author.Tests.{lt-ltb, le-ltb}
use lib.Dec.{ltb}
use lib.IntN.{pos}
use lib.ListN.{length, get_or, take}
use Rattle.bits.proofs.IndexLaws.{true_and}
use Rattle.class_rules.specs.Class.{no_class}
use Rattle.dump_rules.specs.Content.{content_by}
use Rattle.dump_rules.specs.Dump.{dump_of}
use Rattle.dump_rules.specs.Reader.{shows, cut_start, no_dump, read_dump}
use Rattle.dump_rules.specs.Shown.{Shown, is_cause, numbers_with, shown}
use Rattle.dump_rules.specs.Writer.{write_dump}
use Rattle.dump_rules.specs.declared.Content.{Content}
use Rattle.dump_rules.specs.declared.ContentClass.{ContentClass}
use Rattle.dump_rules.proofs.LawfulDump.{past_map}
use Rattle.formats.specs.BitList.{AreBytes}
use Rattle.laws.specs.InMap.{in_map}
use Rattle.laws.proofs.Map.MapLaws.{decode_number, decode_alert}
use Rattle.laws.proofs.Valid.ValidLaws.{facts}
use Rattle.rules.specs.Access.{value}
use Rattle.rules.specs.Map.{decode, number_of, is_lock, is_shadowed, is_register}
use Rattle.rules.specs.Stages.{stage_in, stage, no_class_stages}
use Rattle.rules.specs.State.{field_index}
use Rattle.rules.specs.Valid.{valid}
use Rattle.rules.specs.declared.Field.{Field}
use Rattle.rules.specs.declared.Handler.{Handler}
use Rattle.rules.specs.declared.Register.{Register}
use Rattle.rules.specs.declared.Register.TheVariants.{Only, Local, Alert, Block, Unassigned}
use Rattle.rules.specs.declared.Setting.{Setting}
use Rattle.rules.specs.declared.Setting.TheVariants.{Ctrl, ClrRegwen, AccumThresh, TimeoutCyc, PhaseCyc}
use Rattle.rules.specs.declared.Single.TheVariants.{PingRegwen, PingTimeout}
use Rattle.dump_laws.specs.Claims.{up_from, Agree}
use Rattle.dump_laws.proofs.Dumps.{dumps}

-- ── what a caller is told of a state ──

module _ (h : Handler) (v : valid h ≡ true) where
  abbrev c : Content
  c = content_by (read_dump (dump_of (shown h)))

  -- a register is at its number
  at : (q : Register) → in_map h.n q ≡ true → is_register q ≡ true → (decode h.n (number_of q) ≡ q) × (number_of q < 1344)
  at q a r =
      let d : decode h.n (number_of q) ≡ q = decode_number h.n q (facts h v).n a in
      (d, past_map h.n (number_of q) (ap is_register d ∙ r))

  cause : (q : Register) → in_map h.n q ≡ true → is_register q ≡ true → get_or c.causes (number_of q) 0 ≡ cond (is_cause q) (value h q) 0
  cause q a r = let x = at q a r in (dumps.tells h v).causes (number_of q) x.1 ∙ ap (λ (p : Register). cond (is_cause p) (value h p) 0) x.0

  lock : (q : Register) → in_map h.n q ≡ true → is_register q ≡ true → get_or c.locked (number_of q) 0 ≡ cond (is_lock q) (1 - value h q) 0
  lock q a r = let x = at q a r in (dumps.tells h v).locked (number_of q) x.1 ∙ ap (λ (p : Register). cond (is_lock p) (1 - value h p) 0) x.0

  code : (q : Register) → in_map h.n q ≡ true → is_register q ≡ true → get_or c.stages (number_of q) 0 ≡ stage h q
  code q a r = let x = at q a r in (dumps.tells h v).stages (number_of q) x.1 ∙ ap (stage h) x.0

  answered : (c.answer ≡ pos 0) × (c.n ≡ h.n)
  answered = ((dumps.tells h v).answer, (dumps.tells h v).n)

  a_class : (k : ℕ) → k < 4 → let x = get_or c.classes k (record { state = 0; count = 0; accum = 0 }) in let y = get_or h.classes k no_class in
      (x.state ≡ y.state) × (x.count ≡ y.count) × (x.accum ≡ y.accum)
  a_class k l =
      let e = (dumps.tells h v).class k l in
      (ap (λ (x : ContentClass). x.state) e, ap (λ (x : ContentClass). x.count) e, ap (λ (x : ContentClass). x.accum) e)

  local_alert : (j : ℕ) → j < 7
      → (get_or c.causes (40 + j) 0 ≡ get_or h.locals.cause j 0) × (get_or c.locked (16 + j) 0 ≡ 1 - get_or h.locals.regwen j 0)
      × (get_or c.stages (24 + j) 0 ≡ get_or h.stages.locals.en j 0) × (get_or c.stages (32 + j) 0 ≡ get_or h.stages.locals.class j 0)
  unfolding number_of value stage_in is_lock
  local_alert j l =
      let a : ltb j 7 ≡ true = lt-ltb j 7 l in
      (cause (Local Field.Cause j) a refl, lock (Local Field.Regwen j) a refl, code (Local Field.En j) a refl, code (Local Field.Class j) a refl)

  an_alert : (i : ℕ) → i < h.n
      → (get_or c.causes (1024 + i) 0 ≡ get_or h.alerts.cause i 0) × (get_or c.locked (256 + i) 0 ≡ 1 - get_or h.alerts.regwen i 0)
      × (get_or c.stages (512 + i) 0 ≡ get_or h.stages.alerts.en i 0) × (get_or c.stages (768 + i) 0 ≡ get_or h.stages.alerts.class i 0)
  unfolding number_of value stage_in is_lock
  an_alert i l =
      let a : ltb i h.n ≡ true = lt-ltb i h.n l in
      (cause (Alert Field.Cause i) a refl, lock (Alert Field.Regwen i) a refl, code (Alert Field.En i) a refl, code (Alert Field.Class i) a refl)

  -- entries at N and above are 0
  no_alert : (i : ℕ) → h.n ≤ i → i < 256
      → (get_or c.causes (1024 + i) 0 ≡ 0) × (get_or c.locked (256 + i) 0 ≡ 0) × (get_or c.stages (512 + i) 0 ≡ 0) × (get_or c.stages (768 + i) 0 ≡ 0)
  unfolding value stage_in is_lock
  no_alert i l m = (
    (dumps.tells h v).causes (1024 + i) (omega arith) ∙ ap (λ (q : Register). cond (is_cause q) (value h q) 0) (none Field.Cause (1024 + i) (omega arith) (omega arith) (omega arith)),
    (dumps.tells h v).locked (256 + i) (omega arith) ∙ ap (λ (q : Register). cond (is_lock q) (1 - value h q) 0) (none Field.Regwen (256 + i) (omega arith) (omega arith) (omega arith)),
    (dumps.tells h v).stages (512 + i) (omega arith) ∙ ap (stage h) (none Field.En (512 + i) (omega arith) (omega arith) (omega arith)),
    (dumps.tells h v).stages (768 + i) (omega arith) ∙ ap (stage h) (none Field.Class (768 + i) (omega arith) (omega arith) (omega arith)),
  )
    where
      open_field : Field → ℕ
      open_field f = (1 + field_index f) * 256

      none : (f : Field) (r : ℕ) → open_field f ≤ r → r < open_field f + 256 → h.n ≤ r - open_field f → decode h.n r ≡ Unassigned
      none f r a b d =
          decode_alert h.n r f a b
          ∙ ap (λ (t : Bool). cond t (Alert f (r - open_field f)) Unassigned) (le-ltb (r - open_field f) h.n d)

  the_ping_timer : (get_or c.locked 4 0 ≡ 1 - h.timer.regwen) × (get_or c.stages 5 0 ≡ h.stages.timeout)
  unfolding number_of value stage_in is_lock
  the_ping_timer = (lock (Only PingRegwen) refl refl, code (Only PingTimeout) refl refl)

  a_block : (k : ℕ) → k < 4 → let y = get_or h.classes k no_class in let z = get_or h.stages.classes k no_class_stages in
      (get_or c.locked (1280 + 16 * k + 0) 0 ≡ 1 - y.regwen) × (get_or c.locked (1280 + 16 * k + 2) 0 ≡ 1 - y.clrwen)
      × (get_or c.stages (1280 + 16 * k + 1) 0 ≡ z.ctrl) × (get_or c.stages (1280 + 16 * k + 5) 0 ≡ z.thresh) × (get_or c.stages (1280 + 16 * k + 6) 0 ≡ z.timeout)
  unfolding number_of value stage_in is_lock
  a_block k l =
      let a : ltb k 4 ≡ true = lt-ltb k 4 l in
      let b = true_and a refl in
      (lock (Block Setting.Regwen k) b refl, lock (Block ClrRegwen k) b refl, code (Block Ctrl k) b refl, code (Block AccumThresh k) b refl, code (Block TimeoutCyc k) b refl)

  a_length : (k p : ℕ) → k < 4 → p < 4 → get_or c.stages (1280 + 16 * k + (7 + p)) 0 ≡ get_or (get_or h.stages.classes k no_class_stages).lengths p 0
  unfolding number_of stage_in
  a_length k p l m = code (Block (PhaseCyc p) k) (true_and (lt-ltb k 4 l) (lt-ltb p 4 m)) refl

-- ── any bytes: what they are decides ──

module _ (bytes : List ℕ) (b : AreBytes bytes) where
  -- the content, exactly of a dump
  shown_is : (h : Handler) → valid h ≡ true → bytes ≡ dump_of (shown h) → read_dump bytes ≡ shows (shown h)
  shown_is h v e = (dumps.accepts bytes (shown h) b).1 (h, (v, e), refl)

  shown_of : (s : Shown) → read_dump bytes ≡ shows s → (h : Handler) × (valid h ≡ true) × (bytes ≡ dump_of (shown h)) × (shown h ≡ s)
  shown_of s e = let x = (dumps.accepts bytes s b).0 e in (x.0, x.1.0, x.1.1, x.2)

  -- 17, exactly where a nonempty rest makes them a dump
  cut_is : (h : Handler) (rest : List ℕ) → valid h ≡ true → rest ≢ [] → bytes ++ rest ≡ dump_of (shown h) → read_dump bytes ≡ cut_start
  cut_is h rest v r e = (dumps.seventeen bytes b).1 (h, rest, r, (v, e))

  cut_of : read_dump bytes ≡ cut_start → (h : Handler) × (rest : List ℕ) × (valid h ≡ true) × (rest ≢ []) × (bytes ++ rest ≡ dump_of (shown h))
  cut_of e = let x = (dumps.seventeen bytes b).0 e in (x.0, x.1, x.3.0, x.2, x.3.1)

  -- 16, exactly for the rest
  none_is : ((h : Handler) → valid h ≡ true → bytes ≡ dump_of (shown h) → ⊥)
      → ((h : Handler) (rest : List ℕ) → valid h ≡ true → rest ≢ [] → bytes ++ rest ≡ dump_of (shown h) → ⊥) → read_dump bytes ≡ no_dump
  none_is f g = (dumps.sixteen bytes b).1 ((λ h d. f h d.0 d.1), (λ c. g c.0 c.1 c.3.0 c.2 c.3.1))

  none_of : read_dump bytes ≡ no_dump → (h : Handler) → valid h ≡ true → bytes ≢ dump_of (shown h)
  none_of e h v d = ((dumps.sixteen bytes b).0 e).0 h (v, d)

  none_cut : read_dump bytes ≡ no_dump → (h : Handler) (rest : List ℕ) → valid h ≡ true → rest ≢ [] → bytes ++ rest ≢ dump_of (shown h)
  none_cut e h rest v r d = ((dumps.sixteen bytes b).0 e).1 (h, rest, r, (v, d))

  -- and no other has its content, of a caller's either
  one : (other : List ℕ) (s : Shown) → AreBytes other → read_dump bytes ≡ shows s → read_dump other ≡ shows s → bytes ≡ other
  one other s o d e = dumps.one_dump bytes other s b o d e

  one_told : (other : List ℕ) → AreBytes other → (content_by (read_dump bytes)).answer ≡ pos 0 → content_by (read_dump bytes) ≡ content_by (read_dump other) → bytes ≡ other
  one_told other o z e = dumps.one_form bytes other b o z e

short : (h : Handler) → valid h ≡ true → length (dump_of (shown h)) ≤ 3332
short h v = dumps.longest h v

nothing_read : read_dump [] ≡ cut_start
nothing_read = dumps.no_bytes

read_again : (h : Handler) → valid h ≡ true → read_dump (dump_of (shown h)) ≡ shows (shown h)
read_again h v = dumps.read_back h v

written : (h : Handler) (buffer : List ℕ) → valid h ≡ true → length (dump_of (shown h)) ≤ length buffer
    → read_dump (take (length (dump_of (shown h))) (write_dump h buffer).buffer) ≡ shows (shown h)
written h buffer v l = ap read_dump (dumps.writes h buffer v l).1 ∙ dumps.read_back h v

answers : (h : Handler) (buffer : List ℕ) → valid h ≡ true → length (dump_of (shown h)) ≤ length buffer → (write_dump h buffer).answer ≡ pos (length (dump_of (shown h)))
answers h buffer v l = (dumps.writes h buffer v l).0

-- ── two states ──

module _ (g h : Handler) (v : valid g ≡ true) (w : valid h ≡ true) where
  abbrev both : dump_of (shown g) ≡ dump_of (shown h) → Agree g h
  both e = (dumps.agree g h v w).0 e

  same_alerts : dump_of (shown g) ≡ dump_of (shown h) → (i : ℕ) → i < g.n
      → (g.n ≡ h.n) × (get_or g.alerts.cause i 0 ≡ get_or h.alerts.cause i 0) × (get_or g.alerts.regwen i 0 ≡ get_or h.alerts.regwen i 0)
      × (get_or g.stages.alerts.en i 0 ≡ get_or h.stages.alerts.en i 0)
  unfolding value stage_in is_lock
  same_alerts e i l =
      let a : ltb i g.n ≡ true = lt-ltb i g.n l in
      ((both e).n, (both e).cause (Alert Field.Cause i) a refl, (both e).lock (Alert Field.Regwen i) a refl, (both e).stages (Alert Field.En i) a)

  same_class : dump_of (shown g) ≡ dump_of (shown h) → (k : ℕ) → k < 4 → let x = get_or g.classes k no_class in let y = get_or h.classes k no_class in
      (x.state ≡ y.state) × (x.count ≡ y.count) × (x.accum ≡ y.accum) × (x.regwen ≡ y.regwen) × (x.clrwen ≡ y.clrwen)
  unfolding value is_lock
  same_class e k l =
      let a = true_and (lt-ltb k 4 l) refl in
      ((both e).state k l, (both e).count k l, (both e).accum k l, (both e).lock (Block Setting.Regwen k) a refl, (both e).lock (Block ClrRegwen k) a refl)

  -- what is not shown does not matter
  same_dump : Agree g h → dump_of (shown g) ≡ dump_of (shown h)
  same_dump a = (dumps.agree g h v w).1 a

-- ── the lists ──

module _ (n : ℕ) (small : n ≤ 248) where
  causes : numbers_with is_cause n ≡ up_from 40 7 ++ up_from 1024 n
  causes = (dumps.listed n small).causes

  locks : numbers_with is_lock n ≡ 4 ∷ (up_from 16 7 ++ (up_from 256 n ++ (1280 ∷ 1282 ∷ 1296 ∷ 1298 ∷ 1312 ∷ 1314 ∷ 1328 ∷ 1330 ∷ [])))
  locks = (dumps.listed n small).locks

  shadowed : numbers_with is_shadowed n
      ≡ 5 ∷ (up_from 24 7 ++ up_from 32 7 ++ (up_from 512 n ++ (up_from 768 n ++ (1281 ∷ (up_from 1285 6 ++ (1297 ∷ (up_from 1301 6 ++ (1313 ∷ (up_from 1317 6 ++ (1329 ∷ up_from 1333 6))))))))))
  shadowed = (dumps.listed n small).shadowed
