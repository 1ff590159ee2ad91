-- No sentence of step 1 is missing: whatever satisfies them leaves one state. Nothing here knows the rules' definitions.
-- Assumes nothing.
use Prim.Native.Nat.{ℕ, ◌+◌, ◌<◌}
use mathlib.Core.Path.{◌≡◌, refl, sym, ap, ◌∙◌}
use mathlib.Core.Logic.{inl, inr}
use native.Mathlib.Omega.{arith}
use native.Mathlib.Decide.{dec_lt, ℕ_discrete}
use lib.ListN.{get_or}
use Rattle.bits.proofs.BitLaws.{bit_ext}
use Rattle.bits.specs.Bits.{bit}
use Rattle.rules.specs.declared.Access.{Access}
use Rattle.rules.specs.declared.Access.TheVariants.{Write}
use Rattle.rules.specs.declared.Field.{Field}
use Rattle.rules.specs.declared.Handler.{Handler}
use Rattle.rules.specs.declared.Register.{Register}
use Rattle.rules.specs.declared.Register.TheVariants.{Alert, Block}
use Rattle.rules.specs.declared.Setting.{Setting}
use Rattle.rules.specs.declared.Setting.TheVariants.{Ctrl, ClrRegwen, AccumCnt, AccumThresh, TimeoutCyc, PhaseCyc, EscCnt}
use Rattle.sentences.specs.AccessArrays.{Sized}
use Rattle.sentences.specs.AccessMap.{Row, Shadowed}
use Rattle.sentences.specs.Raw.{no_class, class_of, no_stages, stages_of, held, code}
use Rattle.sentences.specs.AccessRefusals.{Reads, Writes, Malformed, NoRegister, WrongWay, TooWide, SillyThreshold, Locked, Differs, Accepted, Given3, Given12}
use Rattle.sentences.specs.AccessWrites.{Commits, Changes, Written}
use Rattle.sentences.specs.StageWrites.{Staged}
use Rattle.sentences.proofs.AccessCases.{same_list, no_read}
use Rattle.sentences.proofs.SentenceCases.{either, same_test}

module _ (h : Handler) (x : Access) (f g : Handler) (a : Written h x f) (b : Written h x g) where
  -- ── what each register holds ──

  same_bits : f.interrupts.state < 16 → g.interrupts.state < 16 → ((k : ℕ) → k < 4 → bit f.interrupts.state k ≡ bit g.interrupts.state k)
      → f.interrupts.state ≡ g.interrupts.state
  same_bits l m e = bit_ext 4 f.interrupts.state g.interrupts.state l m e

  same_changed : (q : Register) → Changes h x q → held f q ≡ held g q
  same_changed q (Changes.takes r v p c) = a.takes r v p c ∙ sym (b.takes r v p c)
  same_changed q (Changes.local_cause j c) = a.local_cause j c ∙ sym (b.local_cause j c)
  same_changed q (Changes.alert_cause i c) = a.alert_cause i c ∙ sym (b.alert_cause i c)
  same_changed q (Changes.ping_enable v n c) = a.ping_enable v n c ∙ sym (b.ping_enable v n c)
  same_changed q (Changes.intr_state v c) =
      same_bits (a.intr_width v (inl c)) (b.intr_width v (inl c))
      (λ k l. same_test (bit f.interrupts.state k) (bit g.interrupts.state k) (a.intr_state v c k l) (b.intr_state v c k l))
  same_changed q (Changes.intr_test v c) =
      same_bits (a.intr_width v (inr c)) (b.intr_width v (inr c))
      (λ k l. same_test (bit f.interrupts.state k) (bit g.interrupts.state k) (a.intr_test v c k l) (b.intr_test v c k l))

  same_held : (r : ℕ) (q : Register) (w : ℕ) → Row h.n r q w → held f q ≡ held g q
  same_held r q w m =
      either {A = Changes h x q} (ℕ_discrete (held f q) (held g q)) (same_changed q)
      (λ none. a.stays r q (w, m) none ∙ sym (b.stays r q (w, m) none))

  -- an alert's register, or the entry at N and above
  same_alert : (e : Field) (i : ℕ) → (i < h.n → held f (Alert e i) ≡ held g (Alert e i)) → i < 248 → held f (Alert e i) ≡ held g (Alert e i)
  same_alert e i s l = go (dec_lt i h.n)
    where
      go : Dec (i < h.n) → held f (Alert e i) ≡ held g (Alert e i)
      go (yes m) = s m
      go (no m) = a.above e i (omega arith) l ∙ sym (b.above e i (omega arith) l)

  module _ (s : Sized f) (t : Sized g) where
    same_alerts : f.alerts ≡ g.alerts
    same_alerts = λ i. record { regwen = regwen i; en = en i; class = class i; cause = cause i }
      where
        regwen : f.alerts.regwen ≡ g.alerts.regwen
        regwen = same_list 0 248 _ _ (s.alerts Field.Regwen) (t.alerts Field.Regwen) (λ i. same_alert Field.Regwen i (λ m. same_held _ _ _ (Row.alert_regwen i m)))

        en : f.alerts.en ≡ g.alerts.en
        en = same_list 0 248 _ _ (s.alerts Field.En) (t.alerts Field.En) (λ i. same_alert Field.En i (λ m. same_held _ _ _ (Row.alert_en i m)))

        class : f.alerts.class ≡ g.alerts.class
        class = same_list 0 248 _ _ (s.alerts Field.Class) (t.alerts Field.Class) (λ i. same_alert Field.Class i (λ m. same_held _ _ _ (Row.alert_class i m)))

        cause : f.alerts.cause ≡ g.alerts.cause
        cause = same_list 0 248 _ _ (s.alerts Field.Cause) (t.alerts Field.Cause) (λ i. same_alert Field.Cause i (λ m. same_held _ _ _ (Row.alert_cause i m)))

    same_locals : f.locals ≡ g.locals
    same_locals = λ i. record { regwen = regwen i; en = en i; class = class i; cause = cause i }
      where
        regwen : f.locals.regwen ≡ g.locals.regwen
        regwen = same_list 0 7 _ _ (s.locals Field.Regwen) (t.locals Field.Regwen) (λ j l. same_held _ _ _ (Row.local_regwen j l))

        en : f.locals.en ≡ g.locals.en
        en = same_list 0 7 _ _ (s.locals Field.En) (t.locals Field.En) (λ j l. same_held _ _ _ (Row.local_en j l))

        class : f.locals.class ≡ g.locals.class
        class = same_list 0 7 _ _ (s.locals Field.Class) (t.locals Field.Class) (λ j l. same_held _ _ _ (Row.local_class j l))

        cause : f.locals.cause ≡ g.locals.cause
        cause = same_list 0 7 _ _ (s.locals Field.Cause) (t.locals Field.Cause) (λ j l. same_held _ _ _ (Row.local_cause j l))

    same_block : (k : ℕ) → k < 4 → class_of f k ≡ class_of g k
    same_block k l = λ i.
        record {
          lengths = same_list 0 4 (class_of f k).lengths (class_of g k).lengths (s.lengths k l) (t.lengths k l) (λ p m. same_held _ (Block (PhaseCyc p) k) _ (Row.phase_cyc k p l m)) i;
          timeout = same_held _ (Block TimeoutCyc k) _ (Row.timeout_cyc k l) i;
          count = same_held _ (Block EscCnt k) _ (Row.esc_cnt k l) i;
          ctrl = same_held _ (Block Ctrl k) _ (Row.ctrl k l) i;
          accum = same_held _ (Block AccumCnt k) _ (Row.accum_cnt k l) i;
          thresh = same_held _ (Block AccumThresh k) _ (Row.accum_thresh k l) i;
          regwen = same_held _ (Block Setting.Regwen k) _ (Row.regwen k l) i;
          clrwen = same_held _ (Block ClrRegwen k) _ (Row.clr_regwen k l) i;
          state = same_held _ (Block Setting.State k) _ (Row.state k l) i;
        }

    same_classes : f.classes ≡ g.classes
    same_classes = same_list no_class 4 f.classes g.classes s.classes t.classes same_block

    same_interrupts : f.interrupts ≡ g.interrupts
    same_interrupts = λ i. record { state = same_held _ _ _ Row.intr_state i; enable = same_held _ _ _ Row.intr_enable i }

    same_timer : f.timer ≡ g.timer
    same_timer = λ i.
        record { timeout = same_held _ _ _ Row.ping_timeout i; regwen = same_held _ _ _ Row.ping_regwen i; enable = same_held _ _ _ Row.ping_enable i }

    -- ── what each stage is ──

    module _ (c : Staged h x f) (d : Staged h x g) where
      -- of a register that an access names
      same_read : (q : Register) → Accepted h x → Reads h x q → code f q ≡ code g q
      same_read q n r = c.read q n r ∙ sym (d.read q n r)

      same_written : (q : Register) (v : ℕ) → Shadowed q → Accepted h x → Writes h x q v → code f q ≡ code g q
      same_written q v w n r = go (ℕ_discrete (code h q) 0) (ℕ_discrete (code h q) (v + 1))
        where
          go : Dec (code h q ≡ 0) → Dec (code h q ≡ v + 1) → code f q ≡ code g q
          go (yes z) o = c.first q v n r w z ∙ sym (d.first q v n r w z)
          go (no z) (yes o) =
              let m : Commits h x q v = record { accepted = n; writes = r; second = λ _. o } in c.second q v w m ∙ sym (d.second q v w m)
          go (no z) (no o) = absurd (n.1.1.1.1.1.1 (q, v, r, z, o))

      -- a read or a write of the register, or neither
      same_by : (r : ℕ) (q : Register) (w : ℕ) → Row h.n r q w → (Reads h x q → code f q ≡ code g q)
          → ((v : ℕ) → Writes h x q v → code f q ≡ code g q) → code f q ≡ code g q
      same_by r q w m s t =
          either {A = Reads h x q} (ℕ_discrete (code f q) (code g q)) s
          (λ i. either {A = (v : ℕ) × Writes h x q v} (ℕ_discrete (code f q) (code g q)) (λ u. t u.0 u.1)
          (λ j. c.stays r q (w, m) i j ∙ sym (d.stays r q (w, m) i j)))

      -- a write is no read
      not_both : (q p : Register) (v : ℕ) → Writes h x q v → Reads h x p → code f p ≡ code g p
      not_both q p v w r = absurd (no_read (Write w.number v) refl r.number (sym w.access ∙ r.access))

      -- both leave the state
      same_left : (q : Register) → f ≡ h → g ≡ h → code f q ≡ code g q
      same_left q i j = ap (λ (k : Handler). code k q) (i ∙ sym j)

      same_code : (r : ℕ) (q : Register) (w : ℕ) → Row h.n r q w → Shadowed q → code f q ≡ code g q
      same_code r q w m u =
          let e : Dec (code f q ≡ code g q) = ℕ_discrete (code f q) (code g q) in
          either {A = Malformed x} e (λ o. same_left q (a.after_5 o) (b.after_5 o))
          (λ i. either {A = NoRegister h x} e (λ o. same_left q (a.after_1 (i, o)) (b.after_1 (i, o)))
          (λ j. either {A = WrongWay h x} e (λ o. same_left q (a.after_2 (i, (j, o))) (b.after_2 (i, (j, o))))
          (λ k. either {A = TooWide h x} e (λ o. same_left q (a.after_4 (i, (j, (k, o)))) (b.after_4 (i, (j, (k, o)))))
          (λ l. either {A = SillyThreshold h x} e (λ o. same_left q (a.after_14 (i, (j, (k, (l, o))))) (b.after_14 (i, (j, (k, (l, o))))))
          (λ n. either {A = Locked h x} e
          (λ o. let y : Given3 h x = (i, (j, (k, (l, (n, o))))) in
          same_by r q w m (not_both o.0 q o.1 o.2) (λ v z. c.locked q v y z ∙ sym (d.locked q v y z)))
          (λ p. either {A = Differs h x} e
          (λ o. let y : Given12 h x = (i, (j, (k, (l, (n, (p, o)))))) in
          same_by r q w m (not_both o.0 q o.1 o.2) (λ v z. c.differs q v y z ∙ sym (d.differs q v y z)))
          (λ o. let y : Accepted h x = (i, (j, (k, (l, (n, (p, o)))))) in
          same_by r q w m (same_read q y) (λ v. same_written q v u y))))))))

      -- EN and CLASS of the alerts, those at N and above too
      same_alert_stages : f.stages.alerts ≡ g.stages.alerts
      same_alert_stages = λ i. record { en = en i; class = class i }
        where
          go_en : (i : ℕ) → i < 248 → Dec (i < h.n) → get_or f.stages.alerts.en i 0 ≡ get_or g.stages.alerts.en i 0
          go_en i l (yes m) = same_code _ _ _ (Row.alert_en i m) (Shadowed.alert_en i)
          go_en i l (no m) = c.above_en i (omega arith) l ∙ sym (d.above_en i (omega arith) l)

          go_class : (i : ℕ) → i < 248 → Dec (i < h.n) → get_or f.stages.alerts.class i 0 ≡ get_or g.stages.alerts.class i 0
          go_class i l (yes m) = same_code _ _ _ (Row.alert_class i m) (Shadowed.alert_class i)
          go_class i l (no m) = c.above_class i (omega arith) l ∙ sym (d.above_class i (omega arith) l)

          en : f.stages.alerts.en ≡ g.stages.alerts.en
          en = same_list 0 248 _ _ s.alert_en t.alert_en (λ i l. go_en i l (dec_lt i h.n))

          class : f.stages.alerts.class ≡ g.stages.alerts.class
          class = same_list 0 248 _ _ s.alert_class t.alert_class (λ i l. go_class i l (dec_lt i h.n))

      same_local_stages : f.stages.locals ≡ g.stages.locals
      same_local_stages = λ i. record { en = en i; class = class i }
        where
          en : f.stages.locals.en ≡ g.stages.locals.en
          en = same_list 0 7 _ _ s.local_en t.local_en (λ j l. same_code _ _ _ (Row.local_en j l) (Shadowed.local_en j))

          class : f.stages.locals.class ≡ g.stages.locals.class
          class = same_list 0 7 _ _ s.local_class t.local_class (λ j l. same_code _ _ _ (Row.local_class j l) (Shadowed.local_class j))

      same_block_stages : (k : ℕ) → k < 4 → stages_of f k ≡ stages_of g k
      same_block_stages k l = λ i.
          record {
            lengths = same_list 0 4 (stages_of f k).lengths (stages_of g k).lengths (s.stage_lengths k l) (t.stage_lengths k l)
                (λ p m. same_code _ (Block (PhaseCyc p) k) _ (Row.phase_cyc k p l m) (Shadowed.phase_cyc k p)) i;
            timeout = same_code _ (Block TimeoutCyc k) _ (Row.timeout_cyc k l) (Shadowed.timeout_cyc k) i;
            ctrl = same_code _ (Block Ctrl k) _ (Row.ctrl k l) (Shadowed.ctrl k) i;
            thresh = same_code _ (Block AccumThresh k) _ (Row.accum_thresh k l) (Shadowed.accum_thresh k) i;
          }

      same_stages : f.stages ≡ g.stages
      same_stages = λ i.
          record {
            classes = same_list no_stages 4 f.stages.classes g.stages.classes s.stages t.stages same_block_stages i;
            alerts = same_alert_stages i;
            locals = same_local_stages i;
            timeout = same_code _ _ _ Row.ping_timeout Shadowed.ping_timeout i;
          }

      pub same_state : f ≡ g
      same_state = λ i.
          record {
            n = (a.n ∙ sym b.n) i;
            links = (a.links ∙ sym b.links) i;
            classes = same_classes i;
            alerts = same_alerts i;
            locals = same_locals i;
            interrupts = same_interrupts i;
            timer = same_timer i;
            stages = same_stages i;
          }
