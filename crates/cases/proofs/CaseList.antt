-- P1 to P12, computed by the checker on the rules' own tick.
-- Assumes nothing.
use mathlib.Core.Path.{refl}
use Rattle.cases.specs.CaseList.{List12}
use Rattle.rules.proofs.Scenes.{rules}
use Rattle.trace_rules.proofs.TraceScenes.{traces}

pub list12 : List12
unfolding rules traces
list12 =
    record {
      P1 = refl;
      P2 = refl;
      P2_held = refl;
      P2_stage = refl;
      P3_P4 = refl;
      P5_state = refl;
      P5_accum = refl;
      P6_before = (refl, refl, refl);
      P6 = (refl, refl);
      P7 = refl;
      P8 = (refl, refl);
      P9_before = (refl, refl, refl, refl);
      P9 = (refl, refl, refl, refl);
      P9_start = refl;
      P10 = (refl, refl);
      P11 = refl;
      P12 = refl;
    }
