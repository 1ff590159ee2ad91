-- Worked examples: a dump, byte by byte, and bytes that are a cut start or none.
-- Assumes nothing.
use Prim.Native.Nat.{ℕ}
use mathlib.Core.Path.{◌≡◌, refl}
use mathlib.Core.List.{List, [], ◌∷◌}
use lib.ListN.{replicate}
use native.Mathlib.Omega.{arith}
use Rattle.bits.specs.Bits.{bit}
use Rattle.bits.specs.Index.{each_from, any_to}
use Rattle.class_rules.specs.Class.{state_of}
use Rattle.formats.specs.BitList.{bit_list, number_of, bits_of_bytes, bytes_of_bits}
use Rattle.formats.specs.Format.{flat}
use Rattle.rules.specs.Access.{value, store}
use Rattle.rules.specs.Map.{block_at, decode, bits, is_lock, is_shadowed}
use Rattle.rules.specs.Stages.{stage_in, with_stage, staged}
use Rattle.rules.specs.State.{new_handler, no_stages, with_alerts, with_stages}
use Rattle.rules.specs.declared.Handler.{Handler}
use Rattle.rules.specs.declared.Register.TheVariants.{Only}
use Rattle.rules.specs.declared.Single.TheVariants.{PingRegwen, PingTimeout}
use Rattle.dump_rules.specs.Shown.{Shown, WellShown, shown, picks, numbers_with, is_cause}
use Rattle.dump_rules.specs.Dump.{dump_bits, dump_of}
use Rattle.dump_rules.specs.Reader.{cut_start, no_dump, read_dump}

-- alert 0 of one; class 0 in Phase 0, class 2 in Timeout, class 3 Terminal; three causes, locks of the ping timer, local 0, alert 0, classes 0, 2 and 3; three open stages
abbrev content : Shown
content =
    record {
      n = 1;
      classes = record { state = 4; count = 1; accum = 3 } ∷ record { state = 0; count = 0; accum = 0 } ∷ record { state = 1; count = 5; accum = 65535 } ∷ record { state = 3; count = 0; accum = 7 } ∷ [];
      causes = 1 ∷ 0 ∷ 0 ∷ 0 ∷ 0 ∷ 0 ∷ 1 ∷ 1 ∷ [];
      locks = 1 ∷ 1 ∷ 0 ∷ 0 ∷ 0 ∷ 0 ∷ 0 ∷ 0 ∷ 1 ∷ 1 ∷ 1 ∷ 0 ∷ 0 ∷ 0 ∷ 1 ∷ 1 ∷ 0 ∷ [];
      stages = record { register = 5; value = 9 } ∷ record { register = 24; value = 1 } ∷ record { register = 1281; value = 0x3FFF } ∷ [];
    }

well : WellShown content
unfolding picks decode block_at is_lock is_shadowed bits state_of
well =
    record {
      alerts = omega arith;
      four = refl;
      each_class = (refl, (refl, (refl, (refl, tt))));
      all_causes = refl;
      cause_bits = (omega arith, (omega arith, (omega arith, (omega arith, (omega arith, (omega arith, (omega arith, (omega arith, tt))))))));
      all_locks = refl;
      lock_bits =
          (omega arith, (omega arith, (omega arith, (omega arith, (omega arith, (omega arith, (omega arith, (omega arith, (omega arith, (omega arith, (omega arith, (omega arith, (omega arith, (omega arith, (omega arith, (omega arith, (omega arith, tt)))))))))))))))));
      rising = (omega arith, refl, omega arith, (omega arith, refl, omega arith, (omega arith, refl, omega arith, tt)));
    }

dumped : dump_of content ≡ 84 ∷ 68 ∷ 77 ∷ 80 ∷ 1 ∷ 128 ∷ 0 ∷ 0 ∷ 0 ∷ 32 ∷ 0 ∷ 96 ∷ 0 ∷ 0 ∷ 0 ∷ 0 ∷ 0 ∷ 0 ∷ 128 ∷ 0 ∷ 0 ∷ 2 ∷ 255 ∷ 255 ∷ 176 ∷ 0 ∷ 0 ∷ 0 ∷ 0 ∷ 0 ∷ 120 ∷ 60 ∷ 14 ∷ 48 ∷ 0 ∷ 3 ∷ 0 ∷ 5 ∷ 0 ∷ 0 ∷ 0 ∷ 9 ∷ 0 ∷ 24 ∷ 0 ∷ 0 ∷ 0 ∷ 1 ∷ 5 ∷ 1 ∷ 0 ∷ 0 ∷ 63 ∷ 255 ∷ []
unfolding dump_of dump_bits flat bit_list bits_of_bytes bytes_of_bits number_of bit
dumped = refl

-- a handler of one alert, of which the ping timer and alert 0 are locked, alert 0 has its cause and a timeout of 9 stands half written
abbrev held : Handler
held =
    with_stages (staged (Only PingTimeout) 9 no_stages) (with_alerts (record {
      regwen = 0 ∷ replicate 247 1;
      en = replicate 248 0;
      class = replicate 248 0;
      cause = 1 ∷ replicate 247 0;
    }) (store (new_handler 1) (Only PingRegwen) 0))

shown_held : shown held ≡ record {
  n = 1;
  classes = replicate 4 (record { state = 0; count = 0; accum = 0 });
  causes = 0 ∷ 0 ∷ 0 ∷ 0 ∷ 0 ∷ 0 ∷ 0 ∷ 1 ∷ [];
  locks = 1 ∷ 0 ∷ 0 ∷ 0 ∷ 0 ∷ 0 ∷ 0 ∷ 0 ∷ 1 ∷ 0 ∷ 0 ∷ 0 ∷ 0 ∷ 0 ∷ 0 ∷ 0 ∷ 0 ∷ [];
  stages = record { register = 5; value = 9 } ∷ [];
}
unfolding shown picks decode block_at is_lock value stage_in with_stage store new_handler each_from
shown_held = refl

-- the numbers of causes and locks, rising
causes_of_two : numbers_with is_cause 2 ≡ 40 ∷ 41 ∷ 42 ∷ 43 ∷ 44 ∷ 45 ∷ 46 ∷ 1024 ∷ 1025 ∷ []
unfolding picks decode block_at
causes_of_two = refl

locks_of_two : numbers_with is_lock 2 ≡ 4 ∷ 16 ∷ 17 ∷ 18 ∷ 19 ∷ 20 ∷ 21 ∷ 22 ∷ 256 ∷ 257 ∷ 1280 ∷ 1282 ∷ 1296 ∷ 1298 ∷ 1312 ∷ 1314 ∷ 1328 ∷ 1330 ∷ []
unfolding picks decode block_at is_lock
locks_of_two = refl

-- no bytes: cut
pub no_bytes : read_dump [] ≡ cut_start
unfolding read_dump bits_of_bytes number_of any_to
no_bytes = refl

another_mark : read_dump (84 ∷ 68 ∷ 77 ∷ 81 ∷ []) ≡ no_dump
unfolding read_dump bits_of_bytes bit_list number_of any_to bit
another_mark = refl

-- N = 249
too_many : read_dump (84 ∷ 68 ∷ 77 ∷ 80 ∷ 249 ∷ []) ≡ no_dump
unfolding read_dump bits_of_bytes bit_list number_of any_to bit picks decode block_at is_lock
too_many = refl

-- a STATE of 2, and a count of 1 in Idle, each with the start of an accumulator
no_state : read_dump (84 ∷ 68 ∷ 77 ∷ 80 ∷ 1 ∷ 64 ∷ 0 ∷ 0 ∷ 0 ∷ 0 ∷ []) ≡ no_dump
unfolding read_dump bits_of_bytes bit_list number_of any_to bit picks decode block_at is_lock state_of
no_state = refl

no_count : read_dump (84 ∷ 68 ∷ 77 ∷ 80 ∷ 1 ∷ 0 ∷ 0 ∷ 0 ∷ 0 ∷ 32 ∷ []) ≡ no_dump
unfolding read_dump bits_of_bytes bit_list number_of any_to bit picks decode block_at is_lock state_of
no_count = refl

-- the dump above, with other bits before the stages' number or other stages
abbrev dump_with : ℕ → List ℕ → List ℕ
dump_with last stages =
    84 ∷ 68 ∷ 77 ∷ 80 ∷ 1 ∷ 128 ∷ 0 ∷ 0 ∷ 0 ∷ 32 ∷ 0 ∷ 96 ∷ 0 ∷ 0 ∷ 0 ∷ 0 ∷ 0 ∷ 0 ∷ 128 ∷ 0 ∷ 0 ∷ 2 ∷ 255 ∷ 255 ∷ 176 ∷ 0 ∷ 0 ∷ 0 ∷ 0 ∷ 0 ∷ 120 ∷ 60 ∷ 14 ∷ last ∷ stages

-- zeros to a full byte
padded : read_dump (dump_with 49 (0 ∷ 0 ∷ [])) ≡ no_dump
unfolding read_dump bits_of_bytes bit_list number_of any_to bit picks decode block_at is_lock is_shadowed state_of
padded = refl

-- numbers rising
falling : read_dump (dump_with 48 (0 ∷ 2 ∷ 0 ∷ 24 ∷ 0 ∷ 0 ∷ 0 ∷ 1 ∷ 0 ∷ 5 ∷ 0 ∷ 0 ∷ 0 ∷ 9 ∷ [])) ≡ no_dump
unfolding read_dump bits_of_bytes bit_list number_of any_to bit bits picks decode block_at is_lock is_shadowed state_of
falling = refl

-- nothing behind it
longer : read_dump (dump_with 48 (0 ∷ 0 ∷ 0 ∷ [])) ≡ no_dump
unfolding read_dump bits_of_bytes bit_list number_of any_to bit picks decode block_at is_lock is_shadowed state_of
longer = refl
