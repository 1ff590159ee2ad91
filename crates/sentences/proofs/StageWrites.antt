-- What the rules make of each stage in step 1 satisfies the sentences.
-- Assumes nothing.
use Prim.Native.Nat.{ℕ, ◌+◌, ◌≤◌, ◌<◌}
use mathlib.Core.Path.{◌≡◌, refl, sym, ap, ◌∙◌, subst}
use mathlib.Core.Bool.{Bool, true, false, false≢true, cond, not}
use native.Mathlib.Omega.{arith}
use borrow.Author.Tests.{eq-eqb, ne_eqb, ltb-true, lt-ltb}
use Rattle.std.specs.Prelude.{Ok, Err}
use Rattle.bits.proofs.IndexLaws.{true_and}
use Rattle.laws.specs.InMap.{in_map}
use Rattle.laws.specs.StageFile.{stage_by}
use Rattle.laws.proofs.Map.Named.{named_in_map}
use Rattle.laws.proofs.Map.MapLaws.{number_eq}
use Rattle.laws.proofs.Stages.StageFile.{in_most, acted_stage, stage_other}
use Rattle.laws.proofs.Stages.StageLaws.{number_none}
use Rattle.rules.specs.Access.{verdict, is_first, named, acted}
use Rattle.rules.specs.Map.{decode, number_of, is_register, bits}
use Rattle.rules.specs.Stages.{stage}
use Rattle.rules.specs.declared.Access.{Access}
use Rattle.rules.specs.declared.Access.TheVariants.{Nothing, Read, Write}
use Rattle.rules.specs.declared.Field.{Field}
use Rattle.rules.specs.declared.Handler.{Handler}
use Rattle.rules.specs.declared.Refusal.{Refusal}
use Rattle.rules.specs.declared.Register.{Register}
use Rattle.rules.specs.declared.Register.TheVariants.{Alert}
use Rattle.rules.specs.Answer.{Verdict}
use Rattle.sentences.specs.AccessMap.{Row, Names, Shadowed}
use Rattle.sentences.specs.Raw.{code}
use Rattle.sentences.specs.AccessRefusals.{Reads, Writes, Accepted}
use Rattle.sentences.specs.StageWrites.{Staged}
use Rattle.sentences.proofs.AccessMap.{found, decode_row, code_is}
use Rattle.sentences.proofs.AccessRefusals.{written_is, read_is}
use Rattle.sentences.proofs.AccessVerdict.{refusal_of, verdict_of, is_3, is_12, is_0}
use Rattle.sentences.proofs.AccessWays.{shadowed_is}
use Rattle.sentences.proofs.AccessWrites.{not_first}

module _ (h : Handler) (x : Access) (m : h.n ≤ 248) where
  -- a register of a row is one of the largest handler's
  in_map_law : (r : ℕ) (q : Register) → Names h.n r q → in_map 248 q ≡ true
  in_map_law r q t = in_most h.n q m (found h.n r q t.0 t.1).exists

  -- ── the stage of the register that the access names ──

  -- by the verdict
  by_verdict : (q : Register) (t : Verdict) → in_map 248 q ≡ true → named h x ≡ q → verdict h x ≡ t → stage (acted h x) q ≡ stage_by t h x (stage h q)
  by_verdict q t a d e =
      acted_stage h m q a x
      ∙ ap (λ (b : Bool). cond b (stage_by (verdict h x) h x (stage h q)) (stage h q)) (eq-eqb (number_of (named h x)) (number_of q) (ap number_of d))
      ∙ ap (λ (s : Verdict). stage_by s h x (stage h q)) e

  -- a verdict of this number
  met : (t : Verdict) → refusal_of (verdict h x) ≡ refusal_of t → verdict h x ≡ t
  met t = verdict_of (verdict h x) t

  module _ (q : Register) (v : ℕ) (w : Writes h x q v) where
    write_names : named h x ≡ q
    write_names = ap (named h) w.access ∙ written_is h m x q v w

    -- an accepted write stages its value if it is the first, and leaves no stage otherwise
    accepted_write : (b : Bool) → is_first h q ≡ b → Accepted h x → code (acted h x) q ≡ cond b (v + 1) 0
    accepted_write b f c =
        sym (code_is (acted h x) q) ∙ by_verdict q (Ok tt) (in_map_law w.number q w.names) write_names (met (Ok tt) ((is_0 h x m).1 c))
        ∙ ap (λ (y : Access). stage_by (Ok tt) h y (stage h q)) w.access
        ∙ ap (λ (p : Register). cond (is_first h p) (v + 1) 0) (written_is h m x q v w) ∙ ap (λ (b : Bool). cond b (v + 1) 0) f

    -- a first write
    is_first_law : Shadowed q → code h q ≡ 0 → is_first h q ≡ true
    is_first_law s z = true_and ((shadowed_is q).1 s) (ap (λ (t : Bool). not (not t)) (eq-eqb (stage h q) 0 (code_is h q ∙ z)))

    -- refused with 3 and with 12
    refused_write : (t : Verdict) → refusal_of (verdict h x) ≡ refusal_of t → stage_by t h x (stage h q) ≡ 0 → code (acted h x) q ≡ 0
    refused_write t e d = sym (code_is (acted h x) q) ∙ by_verdict q t (in_map_law w.number q w.names) write_names (met t e) ∙ d

  read_drops : (q : Register) → Accepted h x → Reads h x q → code (acted h x) q ≡ 0
  read_drops q c w =
      sym (code_is (acted h x) q)
      ∙ by_verdict q (Ok tt) (in_map_law w.number q w.names) (ap (named h) w.access ∙ read_is h m x q w) (met (Ok tt) ((is_0 h x m).1 c))
      ∙ ap (λ (y : Access). stage_by (Ok tt) h y (stage h q)) w.access

  -- ── every other stage ──

  not_named : (p : Register) → in_map 248 p ≡ true → (is_register (named h x) ≡ true → named h x ≡ p → ⊥) → code (acted h x) p ≡ code h p
  not_named p a f =
      sym (code_is (acted h x) p)
      ∙ stage_other h m p a x (ne_eqb (number_of (named h x)) (number_of p) (λ (e : number_of (named h x) ≡ number_of p). go (is_register (named h x)) refl e))
      ∙ code_is h p
    where
      go : (b : Bool) → is_register (named h x) ≡ b → number_of (named h x) ≡ number_of p → ⊥
      go true d e = f d (number_eq 248 (named h x) p (omega arith) (in_most h.n (named h x) m (named_in_map h x d)) a e)
      go false d e = number_none (named h x) p d a e

  stage_stays : (r : ℕ) (q : Register) → Names h.n r q → ¬ Reads h x q → ¬ ((v : ℕ) × Writes h x q v) → code (acted h x) q ≡ code h q
  stage_stays r q t i j = not_named q (in_map_law r q t) (go x refl)
    where
      row : (s : ℕ) → is_register (decode h.n s) ≡ true → decode h.n s ≡ q → Names h.n s q
      row s d e = (bits (decode h.n s), subst (λ (p : Register). Row h.n s p (bits (decode h.n s))) e (decode_row h.n s d))

      go : (y : Access) → x ≡ y → is_register (named h y) ≡ true → named h y ≡ q → ⊥
      go Nothing z d e = false≢true d
      go (Read s) z d e = i (record { number = s; access = z; names = row s d e })
      go (Write s v) z d e = j (v, record { number = s; access = z; names = row s d e })
      go Access.Malformed z d e = false≢true d

  -- entries at N and above
  stage_above : (f : Field) (i : ℕ) → h.n ≤ i → i < 248 → code (acted h x) (Alert f i) ≡ code h (Alert f i)
  stage_above f i l b =
      not_named (Alert f i) (lt-ltb i 248 b)
      (λ d e. let o : i < h.n = ltb-true i h.n (ap (in_map h.n) (sym e) ∙ named_in_map h x d) in omega arith)

  pub holds_staged : Staged h x (acted h x)
  holds_staged =
      record {
        first = λ q v c w s z. accepted_write q v w true (is_first_law q v w s z) c;
        second = λ q v s c. accepted_write q v c.writes false (not_first h m q v c.second) c.accepted;
        read = read_drops;
        locked = λ q v c w. refused_write q v w (Err Refusal.Locked) ((is_3 h x m).1 c) refl;
        differs = λ q v c w. refused_write q v w (Err Refusal.Differs) ((is_12 h x m).1 c) refl;
        stays = stage_stays;
        above_en = stage_above Field.En;
        above_class = stage_above Field.Class;
      }
