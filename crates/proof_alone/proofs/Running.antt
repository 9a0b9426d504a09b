-- What a walk makes of a run; and one walk on the ground of another.
use Rattle.std.proofs.Common.{List, ◌++◌, sym, subst, append-nil, append_assoc}
use Rattle.zw_text.specs.declared.entry.Entry.{Entry}
use Rattle.law_host.specs.law_transcript.Lists.{EachAfter}
use Rattle.proof_line.proofs.Lists.{each-append}
use Rattle.proof_alone.specs.State.{HostMachine}
use Rattle.proof_alone.specs.Steps.{happens, entries}
use Rattle.proof_alone.specs.Phases.{Phase, Resting}
use Rattle.proof_alone.specs.Runs.{Run, Knowledge, Walk, WalkOver, both_know}
use Rattle.proof_alone.specs.Runs.Run.{Begins, Turned, Stepped}

module _ (Law : List Entry → Entry → Type 0) (Know : Knowledge) (walk : Walk Law Know) (before : List Entry) where
  -- every entry keeps the law, and what is known at the start is known here
  pub run_keeps : {start : HostMachine} {here : Phase} {told : List Entry} {m : HostMachine} → Run start here told m → Know Resting before start
      → EachAfter Law before told × Know here (before ++ told) m
  run_keeps {start} Begins knows = (tt, subst (λ (l : List Entry). Know Resting l start) (sym (append-nil before)) knows)
  run_keeps {here = next} {told = told} {m = m} (Turned {here = here} turns run) knows =
      let got = run_keeps run knows in (got.0, walk.turn here next (before ++ told) m turns got.1)
  run_keeps {here = next} {m = later} (Stepped {here = here} {told = told} {m = m} step may all_is later_is run) knows =
      let got = run_keeps run knows in
      let one = walk.step here next (before ++ told) m step may got.1 in
      let known : Know next (before ++ (told ++ entries m step)) (happens m step)
      = subst (λ (l : List Entry). Know next l (happens m step)) (append_assoc before told (entries m step)) one.1 in
      subst (λ (l : List Entry). EachAfter Law before l × Know next (before ++ l) later) (sym all_is)
      (each-append Law before told (entries m step) got.0 one.0, subst (λ (n : HostMachine). Know next (before ++ (told ++ entries m step)) n) (sym later_is) known)

-- the ground goes on with it
pub over : (Ground : Knowledge) (First Law : List Entry → Entry → Type 0) (Know : Knowledge) → Walk First Ground → WalkOver Ground First Law Know → Walk Law (both_know Ground Know)
over Ground First Law Know ground walk = record {
  step = λ here next past m one may known.
      let base = ground.step here next past m one may known.0 in
      let got = walk.step here next past m one may known.0 base.0 known.1 in (got.0, (base.1, got.1));
  turn = λ here next past m turns known. (ground.turn here next past m turns known.0, walk.turn here next past m turns known.0 known.1);
}
