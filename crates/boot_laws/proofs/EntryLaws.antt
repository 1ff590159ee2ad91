-- One register that is written, twice where shadowed, and read back.
-- Assumes nothing.
use Prim.Native.Nat.{ℕ, ◌+◌}
use mathlib.Core.Path.{◌≡◌, refl, sym, ap, ap₂, ◌∙◌, subst}
use mathlib.Core.Bool.{Bool, true, false, cond, not, and-false, ◌&&◌}
use mathlib.Core.List.{List, [], ◌∷◌, ◌++◌}
use native.Mathlib.Omega.{arith}
use borrow.Author.Tests.{eqb-true, eq-eqb, ne_eqb, not-true}
use lib.Dec.{eqb}
use lib.IntN.{ℤ}
use Rattle.bits.specs.Bits.{fits}
use Rattle.bits.proofs.IndexLaws.{and-true, true_and}
use Rattle.laws.proofs.Map.Cases.{pick}
use Rattle.laws.proofs.Tick.Frame.{after_frame, after_stage_other}
use Rattle.laws.proofs.Access.Locks.{guard_in_map}
use Rattle.laws.proofs.Map.MapLaws.{decode_number}
use Rattle.laws.proofs.Valid.Refusal7.{ticked_handler}
use Rattle.laws.proofs.Access.Refusals.{is_accepted, accepted_write}
use Rattle.laws.proofs.Access.RegisterFile.{as_written_law, read_answer, plain_takes}
use Rattle.laws.proofs.Stages.StageFile.{in_most}
use Rattle.laws.proofs.Access.Step1.{answer_accepted}
use Rattle.laws.proofs.Valid.ValidLaws.{facts}
use Rattle.laws.proofs.Access.Written.{ticked_answer, after_read, after_written, after_staged, shadowed_apart, shadowed_wise, guard_still, locked_same}
use Rattle.laws.specs.Frame.{moves_itself}
use Rattle.laws.specs.InMap.{in_map}
use Rattle.laws.specs.RegisterFile.{target, as_written, stores, commits, plain}
use Rattle.laws.specs.StageFile.{names}
use Rattle.rules.specs.Access.{value, locked, bars, unlike, silly, accepted, is_first}
use Rattle.rules.specs.Answer.{number}
use Rattle.rules.specs.Map.{decode, number_of, is_register, row, bits, read_only, write_only, is_lock, is_shadowed, guard}
use Rattle.rules.specs.Stages.{stage, is_open}
use Rattle.rules.specs.Tick.{ticked}
use Rattle.rules.specs.Valid.{valid}
use Rattle.rules.specs.declared.Access.TheVariants.{Read, Write}
use Rattle.rules.specs.declared.Answer.{Answer}
use Rattle.rules.specs.declared.Handler.{Handler}
use Rattle.rules.specs.declared.Register.{Register}
use Rattle.policy.specs.Install.{Ask, Entry, rest, is, under, asked, ask, install, write, read, asks_of}
use Rattle.boot_laws.specs.Ran.{input_of, wants, reach}
use Rattle.policy.specs.Sound.{installable}
use Rattle.policy.specs.Progress.{Progress}
use Rattle.boot_laws.proofs.AskLaws.{asked_wanted, asked_going, was_going, Kept, reach_kept, install_kept, install_run}
use Rattle.policy.proofs.Asks.{install_append}

-- ── what the test of an entry says ──

pub record Fit (n : ℕ) (q : Register) (v : ℕ) : Type 0 where
  pub exists : in_map n q ≡ true
  pub way : read_only q ≡ false
  pub takes : plain q ≡ true
  pub still : moves_itself q ≡ false
  pub width : fits (bits q) v ≡ true
  pub sane : eqb v 65535 ≡ false

pub fit : (n : ℕ) (e : Entry) → installable n e ≡ true → Fit n e.register e.value
fit n e t =
    let a = and-true _ _ t in
    let b = and-true _ _ a.1 in
    let c = and-true _ _ b.1 in
    let d = and-true _ _ c.1 in
    let f = and-true _ _ d.1 in
    record { exists = a.0; way = not-true _ b.0; takes = c.0; still = not-true _ d.0; width = f.0; sane = not-true _ f.1 }

-- ── a tick that names q, in a valid state h ──

module _ (h : Handler) (t : valid h ≡ true) (q : Register) (v : ℕ) (a : in_map h.n q ≡ true) (p : plain q ≡ true) where
  pub names_it : decode h.n (number_of q) ≡ q
  names_it = decode_number h.n q (facts h t).n a

  -- it writes no other register, and names none
  pub spares : (o : Register) → (number_of q ≡ number_of o → ⊥) → commits h (Write (number_of q) v) o ≡ false
  spares o d =
      ap (λ (x : Register). stores h (number_of q) v && eqb (number_of (target x)) (number_of o)) names_it
      ∙ ap (λ (x : Register). stores h (number_of q) v && eqb (number_of x) (number_of o)) (plain_takes q p).0
      ∙ ap (λ (b : Bool). stores h (number_of q) v && b) (ne_eqb (number_of q) (number_of o) d)
      ∙ and-false (stores h (number_of q) v)

  pub other_name : (o : Register) → (number_of q ≡ number_of o → ⊥) → eqb (number_of (decode h.n (number_of q))) (number_of o) ≡ false
  other_name o d = ap (λ (x : Register). eqb (number_of x) (number_of o)) names_it ∙ ne_eqb (number_of q) (number_of o) d

  -- the read answers the value
  reads : number (ticked h (rest (Read (number_of q)))).answer ≡ number (Answer.Value (value h q))
  unfolding write_only
  reads =
      let k = and-true (is_register q) (as_written (row q).way) p in
      ap number
      (ticked_answer h (rest (Read (number_of q))) t
      ∙ read_answer h (number_of q) (ap is_register names_it ∙ k.0) (ap write_only names_it ∙ as_written_law (row q).way k.1)
      ∙ ap (λ (x : Register). Answer.Value (value h x)) names_it)

  read_accepted : accepted h (Read (number_of q)) ≡ true
  unfolding write_only
  read_accepted =
      let k = and-true (is_register q) (as_written (row q).way) p in
      is_accepted h (Read (number_of q))
      (record {
        formed = refl;
        exists = ap not (ap is_register names_it ∙ k.0);
        way = ap write_only names_it ∙ as_written_law (row q).way k.1;
        width = refl;
        threshold = refl;
        free = refl;
        same = refl;
      })

  -- so it gets the answer that is wanted where the register holds v
  pub read_wants : wants h (read (number_of q) v) ≡ eqb (value h q) v
  unfolding number
  read_wants = ap (λ (z : ℤ). is z v) reads

-- ── what a tick leaves of a register that it does not write and that does not move by itself ──

module _ (h : Handler) (t : valid h ≡ true) (o : Register) (b : in_map h.n o ≡ true) where
  pub reach_value : (x : Ask) → moves_itself o ≡ false → commits h x.access o ≡ false → value (reach h x) o ≡ value h o
  reach_value x s c = ap (λ (g : Handler). value g o) (ticked_handler h (input_of x) t) ∙ after_frame h (input_of x) o (facts h t).n b c s

  pub reach_stage : (x : Ask) → names h x.access o ≡ false → stage (reach h x) o ≡ stage h o
  reach_stage x c =
      ap (λ (g : Handler). stage g o) (ticked_handler h (input_of x) t)
      ∙ after_stage_other h (input_of x) o (facts h t).n (in_most h.n o (facts h t).n b) c

-- ── after a success the register holds the value, and no stage is open ──

-- register q holds v, and has no stage
abbrev pub Settled : Register → ℕ → Handler → Type 0
Settled q v g = (value g q ≡ v) × (stage g q ≡ 0)

module _ (h : Handler) (t : valid h ≡ true) (q : Register) (v : ℕ) (k : Fit h.n q v) where
  -- whatever came before the read
  last_read : (xs : List Ask) → (install (under h) (xs ++ (read (number_of q) v ∷ []))).going ≡ true
      → Settled q v (install (under h) (xs ++ (read (number_of q) v ∷ []))).reached.handler
  unfolding install ask
  last_read xs g =
      let r : Ask = read (number_of q) v in
      let i : install (under h) (xs ++ (r ∷ [])) ≡ ask (install (under h) xs) r = install_append (under h) xs (r ∷ []) in
      let s : (install (under h) xs).going ≡ true = was_going (install (under h) xs) (r ∷ []) (ap (λ (p : Progress). p.going) (sym i) ∙ g) in
      let f : Handler = (install (under h) xs).reached.handler in
      let u : install (under h) xs ≡ under f = install_run h xs s ∙ ap (λ (p : Progress). under p.reached.handler) (sym (install_run h xs s)) in
      let e : Kept h f = install_kept h (under h) xs (record { good = t; n = refl }) in
      let a : in_map f.n q ≡ true = ap (λ (n : ℕ). in_map n q) e.n ∙ k.exists in
      let j : install (under h) (xs ++ (r ∷ [])) ≡ asked f r = i ∙ ap (λ (p : Progress). ask p r) u in
      let w : wants f r ≡ true = asked_going f r (ap (λ (p : Progress). p.going) (sym j) ∙ g) in
      subst (λ (p : Progress). Settled q v p.reached.handler) (sym (j ∙ asked_wanted f r w)) (
        reach_value f e.good q a r k.still refl ∙ eqb-true (value f q) v (sym (read_wants f e.good q v a k.takes) ∙ w),
        ap (λ (g : Handler). stage g q) (ticked_handler f (input_of r) e.good)
            ∙ after_read f _ (number_of q) q (facts f e.good).n (names_it f e.good q v a k.takes) a (read_accepted f e.good q v a k.takes),
      )

  pub put_holds : (install (under h) (asks_of (record { register = q; value = v }))).going ≡ true
      → Settled q v (install (under h) (asks_of (record { register = q; value = v }))).reached.handler
  unfolding asks_of
  put_holds =
      pick (λ (xs : List Ask). (install (under h) xs).going ≡ true → Settled q v (install (under h) xs).reached.handler) (is_shadowed q) _ _
      (λ _. last_read (write (number_of q) v ∷ write (number_of q) v ∷ [])) (λ _. last_read (write (number_of q) v ∷ []))

-- ── a register that is not locked, has no other stage open and locks no silly threshold ──

-- what a write to it finds
pub record Open (h : Handler) (q : Register) (v : ℕ) : Type 0 where
  pub unlocked : locked h q ≡ false
  pub like : unlike h q v ≡ false
  pub wise : silly h q v ≡ false

module _ (h : Handler) (t : valid h ≡ true) (q : Register) (v : ℕ) (k : Fit h.n q v) (l : Open h q v) where
  is_it : decode h.n (number_of q) ≡ q
  is_it = names_it h t q v k.exists k.takes

  -- the write is accepted and answers 0
  accepts : accepted h (Write (number_of q) v) ≡ true
  accepts =
      accepted_write h (number_of q) v
      ∙ ap (λ (x : Register). is_register x && (not (read_only x) && (fits (bits x) v && (not (silly h x v) && (not (bars h x v) && not (unlike h x v)))))) is_it
      ∙ true_and (and-true (is_register q) (as_written (row q).way) k.takes).0
      (true_and (ap not k.way) (true_and k.width (true_and (ap not l.wise)
      (true_and (ap (λ (b : Bool). not (b && not (is_lock q && eqb v 0))) l.unlocked) (ap not l.like)))))

  pub write_wants : wants h (write (number_of q) v) ≡ true
  unfolding number
  write_wants = ap (λ (x : Answer). is (number x) 0) (ticked_answer h (rest (Write (number_of q) v)) t ∙ answer_accepted h (Write (number_of q) v) accepts)

  -- where it commits, the register then holds v
  pub write_commits : is_first h q ≡ false → value (reach h (write (number_of q) v)) q ≡ v
  write_commits f =
      ap (λ (g : Handler). value g q) (ticked_handler h (rest (Write (number_of q) v)) t)
      ∙ after_written h _ (number_of q) v q (facts h t).n is_it
      (true_and accepts (ap (λ (x : Register). not (is_first h x)) is_it ∙ ap not f)) k.takes k.still

  -- a first write leaves what it holds
  pub write_stages : is_first h q ≡ true → value (reach h (write (number_of q) v)) q ≡ value h q
  write_stages f =
      reach_value h t q k.exists (write (number_of q) v) k.still
      (ap (λ (x : Register). (accepted h (Write (number_of q) v) && not (is_first h x)) && eqb (number_of (target x)) (number_of q)) is_it
      ∙ ap (λ (b : Bool). (accepted h (Write (number_of q) v) && not b) && eqb (number_of (target q)) (number_of q)) f
      ∙ ap (λ (b : Bool). b && eqb (number_of (target q)) (number_of q)) (and-false (accepted h (Write (number_of q) v))))

  -- its stage then is that of v or none
  pub write_stage : stage (reach h (write (number_of q) v)) q ≡ cond (is_first h q) (v + 1) 0
  write_stage =
      ap (λ (g : Handler). stage g q) (ticked_handler h (rest (Write (number_of q) v)) t)
      ∙ after_staged h _ (number_of q) v q (facts h t).n is_it accepts

  -- a shadowed one stays so
  pub write_open : is_shadowed q ≡ true → Open (reach h (write (number_of q) v)) q v
  write_open s =
      record {
        unlocked = locked_same h g q (λ r. reach_value h t (guard q) (guard_in_map h.n q k.exists r) (write (number_of q) v)
            (guard_still q k.takes k.still) (spares h t q v k.exists k.takes (guard q) (shadowed_apart q s)))
            ∙ l.unlocked;
        like = ap (λ (c : ℕ). not (eqb c 0) && not (eqb c (v + 1))) write_stage ∙ either (is_first h q);
        wise = shadowed_wise g q v s;
      }
    where
      g : Handler
      g = reach h (write (number_of q) v)

      either : (b : Bool) → (not (eqb (cond b (v + 1) 0) 0) && not (eqb (cond b (v + 1) 0) (v + 1))) ≡ false
      either true = ap (λ (b : Bool). not (eqb (v + 1) 0) && not b) (eq-eqb (v + 1) (v + 1) refl) ∙ and-false (not (eqb (v + 1) 0))
      either false = refl

-- ── it goes on ──

module _ (h : Handler) (t : valid h ≡ true) (q : Register) (v : ℕ) (k : Fit h.n q v) (l : Open h q v) where
  abbrev w : Ask
  w = write (number_of q) v

  abbrev g : Handler
  g = reach h w

  valid_g : Kept h g
  valid_g = reach_kept h h w (record { good = t; n = refl })

  fit_g : Fit g.n q v
  fit_g = subst (λ (n : ℕ). Fit n q v) (sym valid_g.n) k

  -- of two writes one commits: the second where no stage was open, the first where one was
  second_holds : (s : is_shadowed q ≡ true) → value (reach g w) q ≡ v
  second_holds s = go (is_open h.stages q) refl
    where
      o : Open g q v
      o = write_open h t q v k l s

      first_is : (f : Handler) (b : Bool) → is_open f.stages q ≡ b → is_first f q ≡ not b
      first_is f b e = ap₂ (λ (x y : Bool). x && not y) s e

      go : (b : Bool) → is_open h.stages q ≡ b → value (reach g w) q ≡ v
      go false e =
          write_commits g valid_g.good q v fit_g o
          (first_is g true (ap (λ (c : ℕ). not (eqb c 0)) (write_stage h t q v k l ∙ ap (λ (b : Bool). cond b (v + 1) 0) (first_is h false e))
          ∙ ap not (ne_eqb (v + 1) 0 (λ (d : v + 1 ≡ 0). omega arith))))
      go true e =
          write_stages g valid_g.good q v fit_g o
          (first_is g false (ap (λ (c : ℕ). not (eqb c 0)) (write_stage h t q v k l ∙ ap (λ (b : Bool). cond b (v + 1) 0) (first_is h true e))))
          ∙ write_commits h t q v k l (first_is h true e)

  read_goes : (f : Handler) → Kept h f → value f q ≡ v → (install (under f) (read (number_of q) v ∷ [])).going ≡ true
  unfolding install ask
  read_goes f e d =
      ap (λ (p : Progress). p.going)
      (asked_wanted f (read (number_of q) v)
      (read_wants f e.good q v (ap (λ (n : ℕ). in_map n q) e.n ∙ k.exists) k.takes ∙ eq-eqb (value f q) v d))

  write_goes : (f : Handler) (xs : List Ask) → wants f w ≡ true → (install (under (reach f w)) xs).going ≡ true → (install (under f) (w ∷ xs)).going ≡ true
  unfolding install ask
  write_goes f xs e d = ap (λ (p : Progress). (install p xs).going) (asked_wanted f w e) ∙ d

  pub put_goes : (install (under h) (asks_of (record { register = q; value = v }))).going ≡ true
  unfolding asks_of
  put_goes =
      pick (λ (xs : List Ask). (install (under h) xs).going ≡ true) (is_shadowed q) _ _
      (λ s. write_goes h _ (write_wants h t q v k l)
      (write_goes g _ (write_wants g valid_g.good q v fit_g (write_open h t q v k l s))
      (read_goes (reach g w) (reach_kept h g w valid_g) (second_holds s))))
      (λ s. write_goes h _ (write_wants h t q v k l)
      (read_goes g valid_g (write_commits h t q v k l (ap (λ (b : Bool). b && not (is_open h.stages q)) s))))
