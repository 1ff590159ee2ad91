-- How long a dump is at most.
-- Assumes nothing.
use Prim.Native.Nat.{ℕ, zero, suc, ◌+◌, ◌-◌, ◌*◌, ◌/◌, ◌≤◌}
use mathlib.Core.Path.{◌≡◌, refl, ap, ◌∙◌}
use mathlib.Core.Bool.{true}
use mathlib.Core.List.{List, [], ◌∷◌, ◌++◌}
use native.Mathlib.Omega.{arith}
use lib.ListN.{length, length-append}
use Rattle.dump_rules.specs.Dump.{head_bits, dump_of}
use Rattle.dump_rules.specs.Shown.{Shown, WellShown, picks, limit, numbers_with, shown}
use Rattle.dump_rules.proofs.GoodDump.{rise_many}
use Rattle.dump_rules.proofs.ReaderLaws.{dump_length_law}
use Rattle.dump_rules.proofs.ShownLaws.{shown_well}
use Rattle.rules.specs.Map.{decode, is_shadowed}
use Rattle.rules.specs.Valid.{valid}
use Rattle.rules.specs.declared.Handler.{Handler}
use Rattle.dump_laws.specs.Claims.{up_from}
use Rattle.dump_laws.proofs.Listed.{listed}

length_from : (a m : ℕ) → length (up_from a m) ≡ m
length_from a zero = refl
length_from a (suc m) = ap suc (length_from (suc a) m)

module _ (s : Shown) (w : WellShown s) where
  abbrev n : ℕ
  n = s.n

  many_causes : length s.causes ≡ 7 + n
  many_causes =
      w.all_causes ∙ ap length (listed n w.alerts).causes ∙ length-append (up_from 40 7) (up_from 1024 n)
      ∙ ap (λ (x : ℕ). 7 + x) (length_from 1024 n)

  many_locks : length s.locks ≡ 16 + n
  many_locks =
      w.all_locks ∙ ap length (listed n w.alerts).locks
      ∙ (let a : length (up_from 256 n ++ (1280 ∷ 1282 ∷ 1296 ∷ 1298 ∷ 1312 ∷ 1314 ∷ 1328 ∷ 1330 ∷ [])) ≡ length (up_from 256 n) + 8 = length-append (up_from 256 n) (1280 ∷ 1282 ∷ 1296 ∷ 1298 ∷ 1312 ∷ 1314 ∷ 1328 ∷ 1330 ∷ []) in
      let b : length (up_from 256 n) ≡ n = length_from 256 n in
      let c : 8 + length (up_from 256 n ++ (1280 ∷ 1282 ∷ 1296 ∷ 1298 ∷ 1312 ∷ 1314 ∷ 1328 ∷ 1330 ∷ [])) ≡ 16 + n = omega arith in
      length-append (4 ∷ up_from 16 7) (up_from 256 n ++ (1280 ∷ 1282 ∷ 1296 ∷ 1298 ∷ 1312 ∷ 1314 ∷ 1328 ∷ 1330 ∷ [])) ∙ c)

  abbrev blocks : List ℕ
  blocks = (1281 ∷ up_from 1285 6) ++ ((1297 ∷ up_from 1301 6) ++ ((1313 ∷ up_from 1317 6) ++ (1329 ∷ up_from 1333 6)))

  many_shadowed : length (numbers_with is_shadowed n) ≡ 43 + 2 * n
  many_shadowed =
      ap length (listed n w.alerts).shadowed
      ∙ (let a : length (up_from 512 n ++ (up_from 768 n ++ blocks)) ≡ length (up_from 512 n) + length (up_from 768 n ++ blocks) = length-append (up_from 512 n) (up_from 768 n ++ blocks) in
      let b : length (up_from 768 n ++ blocks) ≡ length (up_from 768 n) + 28 = length-append (up_from 768 n) blocks in
      let c : length (up_from 512 n) ≡ n = length_from 512 n in
      let d : length (up_from 768 n) ≡ n = length_from 768 n in
      let e : 15 + length (up_from 512 n ++ (up_from 768 n ++ blocks)) ≡ 43 + 2 * n = omega arith in
      length-append (5 ∷ (up_from 24 7 ++ up_from 32 7)) (up_from 512 n ++ (up_from 768 n ++ blocks)) ∙ e)

  few_stages : length s.stages ≤ 43 + 2 * n
  few_stages =
      let a : length s.stages ≤ length (picks (λ r. is_shadowed (decode n r)) 0 (limit - 0)) = rise_many n 0 s.stages w.rising in
      let b : length (picks (λ r. is_shadowed (decode n r)) 0 (limit - 0)) ≡ 43 + 2 * n = many_shadowed in
      omega arith

  pub well_short : length (dump_of s) ≤ 3332
  well_short =
      let a : length (dump_of s) ≡ 4 + (head_bits (length s.causes) (length s.locks) + 7) / 8 + 2 + 6 * length s.stages = dump_length_law s w in
      omega (arith, many_causes, many_locks, few_stages, w.alerts)

pub longest : (h : Handler) → valid h ≡ true → length (dump_of (shown h)) ≤ 3332
longest h v = well_short (shown h) (shown_well h v)
