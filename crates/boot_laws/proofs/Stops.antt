-- Where a list of registers stops: at one that is locked, after others that are free.
-- Assumes nothing.
use Prim.Native.Nat.{ℕ, ◌<◌}
use mathlib.Core.Path.{◌≡◌, refl, sym, ap, ◌∙◌, subst}
use mathlib.Core.Bool.{Bool, true, false, not, ◌&&◌}
use mathlib.Core.List.{List, [], ◌∷◌, ◌++◌}
use lib.Dec.{eqb}
use lib.IntN.{negsuc}
use Rattle.bits.proofs.IndexLaws.{and-true, true_and}
use Rattle.bits.specs.Bits.{fits}
use Rattle.laws.proofs.Map.Cases.{pick}
use Rattle.laws.proofs.Access.Locks.{guard_in_map}
use Rattle.laws.proofs.Access.Written.{ticked_answer, write_locked, shadowed_wise, guard_still, locked_same}
use Rattle.laws.specs.RegisterFile.{as_written}
use Rattle.rules.specs.Access.{locked, silly, bars}
use Rattle.rules.specs.Answer.{number}
use Rattle.rules.specs.Map.{decode, number_of, is_register, row, bits, read_only, is_lock, is_shadowed, guard}
use Rattle.rules.specs.State.{class_count}
use Rattle.rules.specs.Tick.{ticked}
use Rattle.rules.specs.Valid.{valid}
use Rattle.rules.specs.declared.Access.TheVariants.{Write}
use Rattle.rules.specs.declared.Answer.{Answer}
use Rattle.rules.specs.declared.Handler.{Handler}
use Rattle.rules.specs.declared.Refusal.{Refusal}
use Rattle.rules.specs.declared.Register.{Register}
use Rattle.policy.specs.Install.{Ask, Entry, rest, is, under, stopped, asked, ask, install, write, read, once, twice, asks_of, asks}
use Rattle.boot_laws.specs.Ran.{wants}
use Rattle.policy.specs.Sound.{unnamed, sound, free}
use Rattle.policy.specs.Progress.{Progress}
use Rattle.boot_laws.proofs.AskLaws.{asked_other, stays, Kept, install_kept, install_run}
use Rattle.policy.proofs.Asks.{install_append, asks_append}
use Rattle.boot_laws.proofs.EntryLaws.{Fit, names_it}
use Rattle.boot_laws.proofs.InstallLaws.{install_frame}
use Rattle.boot_laws.proofs.Succeeds.{Wise, install_succeeds}

-- ── a shadowed register that is locked ──

module _ (h : Handler) (t : valid h ≡ true) (q : Register) (v : ℕ) (k : Fit h.n q v) (s : is_shadowed q ≡ true) (n : is_lock q ≡ false) (l : locked h q ≡ true) where
  is_it : decode h.n (number_of q) ≡ q
  is_it = names_it h t q v k.exists k.takes

  -- the write is refused with 3
  refused : (ticked h (rest (Write (number_of q) v))).answer ≡ Answer.Refused Refusal.Locked
  refused =
      ticked_answer h (rest (Write (number_of q) v)) t
      ∙ write_locked h (number_of q) v (ap is_register is_it ∙ (and-true (is_register q) (as_written (row q).way) k.takes).0) (ap read_only is_it ∙ k.way)
      (ap (λ (x : Register). fits (bits x) v) is_it ∙ k.width) (ap (λ (x : Register). silly h x v) is_it ∙ shadowed_wise h q v s)
      (ap (λ (x : Register). bars h x v) is_it ∙ true_and l (ap (λ (b : Bool). not (b && eqb v 0)) n))

  -- what then is given: its number, -3, and the state after that tick
  abbrev pub there : Progress
  there = stopped (number_of q) (ticked h (rest (Write (number_of q) v)))

  unwanted : wants h (write (number_of q) v) ≡ false
  unfolding number
  unwanted = ap (λ (a : Answer). is (number a) 0) refused

  pub lock_stops : install (under h) (asks_of (record { register = q; value = v })) ≡ there
  unfolding asks_of install ask
  lock_stops =
      pick (λ (xs : List Ask). install (under h) xs ≡ there) (is_shadowed q) (twice (number_of q) v) (once (number_of q) v)
      (λ _. at_once (write (number_of q) v ∷ read (number_of q) v ∷ [])) (λ _. at_once (read (number_of q) v ∷ []))
    where
      at_once : (xs : List Ask) → install (asked h (write (number_of q) v)) xs ≡ there
      at_once xs = ap (λ (p : Progress). install p xs) (asked_other h (write (number_of q) v) unwanted) ∙ stays there xs refl

  pub lock_answer : there.reached.answer ≡ negsuc 2
  unfolding number
  lock_answer = ap number refused

-- ── after others ──

module _ (h : Handler) (es : List Entry) (e : Entry) (fs : List Entry) (t : valid h ≡ true) (k : sound h.n es ≡ true) (x : Fit h.n e.register e.value)
    (f : free h es ≡ true) (w : (j : ℕ) → j < class_count → Wise j h es) where
  abbrev g : Handler
  g = (install (under h) (asks es)).reached.handler

  kept : Kept h g
  kept = install_kept h (under h) (asks es) (record { good = t; n = refl })

  -- a register that no earlier entry's write unlocks or locks
  still_locked : unnamed (guard e.register) es ≡ true → locked g e.register ≡ locked h e.register
  still_locked u =
      locked_same h g e.register
      (λ r. (install_frame h es (guard e.register) t k (guard_in_map h.n e.register x.exists r) (guard_still e.register x.takes x.still) u).holds)

  -- it stops there with -3
  pub stops_locked : is_shadowed e.register ≡ true → is_lock e.register ≡ false → unnamed (guard e.register) es ≡ true → locked h e.register ≡ true
      → ((install (under h) (asks (es ++ (e ∷ fs)))).reached.register ≡ number_of e.register)
      × ((install (under h) (asks (es ++ (e ∷ fs)))).reached.answer ≡ negsuc 2)
  unfolding asks
  stops_locked s n u l =
      let y : Fit g.n e.register e.value = subst (λ (m : ℕ). Fit m e.register e.value) (sym kept.n) x in
      let b : locked g e.register ≡ true = still_locked u ∙ l in
      let p : Progress = there g kept.good e.register e.value y s n b in
      let o = install_run h (asks es) (install_succeeds h es t k f w) in
      let i : install (under h) (asks (es ++ (e ∷ fs))) ≡ p =
      ap (install (under h)) (asks_append es (e ∷ fs)) ∙ install_append (under h) (asks es) (asks (e ∷ fs))
      ∙ ap (λ (r : Progress). install r (asks (e ∷ fs))) (o ∙ ap (λ (r : Progress). under r.reached.handler) (sym o))
      ∙ install_append (under g) (asks_of e) (asks fs)
      ∙ ap (λ (r : Progress). install r (asks fs)) (lock_stops g kept.good e.register e.value y s n b) ∙ stays p (asks fs) refl in (
        ap (λ (r : Progress). r.reached.register) i,
        ap (λ (r : Progress). r.reached.answer) i ∙ lock_answer g kept.good e.register e.value y s n b,
      )
