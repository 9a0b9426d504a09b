-- What a walk on a ground makes of a run along which the ground is known.
use Rattle.std.proofs.Common.{List, [], ◌∷◌, ◌++◌, sym, subst}
use Rattle.zw_text.specs.declared.entry.Entry.{Entry}
use Rattle.law_transcript.specs.Lists.{EachAfter}
use Rattle.proof_host.proofs.Lists.{each-append}
use Rattle.proof_giving.specs.proof_queue.proof_attempts.proof_requests.proof_alone.State.{HostMachine}
use Rattle.proof_giving.specs.proof_queue.proof_attempts.proof_requests.proof_alone.Steps.{entries, happens}
use Rattle.proof_giving.specs.proof_queue.proof_attempts.proof_requests.proof_alone.Phases.{Phase, Resting}
use Rattle.proof_giving.specs.proof_queue.proof_attempts.proof_requests.proof_alone.Runs.{Knowledge, Run, WalkOver, both_know}
use Rattle.proof_giving.specs.proof_queue.proof_attempts.proof_requests.proof_alone.Runs.Run.{Begins, Turned, Stepped}
use Rattle.proof_giving.specs.proof_queue.proof_attempts.Since.{WalkBoth}
use Rattle.proof_choice.specs.Turning.{AllAlong}

each_any : (past told : List Entry) → EachAfter (λ past e. Unit {0}) past told
each_any past [] = tt
each_any past (e ∷ told) = (tt, each_any (past ++ e ∷ []) told)

module _ (start : HostMachine) where
  pub known_last : (Know : Knowledge) → {here : Phase} {told : List Entry} {m : HostMachine} → (run : Run start here told m) → AllAlong Know run → Know here told m
  known_last Know Begins all = all
  known_last Know (Turned turns run) all = all.1
  known_last Know (Stepped step may all_is later_is run) all = all.1

  -- both are known, and what one says of the other
  pub both_along : (First Second : Knowledge) → {here : Phase} {told : List Entry} {m : HostMachine} → (run : Run start here told m) → AllAlong First run → AllAlong Second run → AllAlong (both_know First Second) run
  both_along First Second Begins one other = (one, other)
  both_along First Second (Turned turns run) one other = (both_along First Second run one.0 other.0, (one.1, other.1))
  both_along First Second (Stepped step may all_is later_is run) one other = (both_along First Second run one.0 other.0, (one.1, other.1))

  pub so_along : (First Second : Knowledge) → ((here : Phase) (told : List Entry) (m : HostMachine) → First here told m → Second here told m)
      → {here : Phase} {told : List Entry} {m : HostMachine} → (run : Run start here told m) → AllAlong First run → AllAlong Second run
  so_along First Second says Begins all = says Resting [] start all
  so_along First Second says {here = next} {told = told} {m = m} (Turned turns run) all = (so_along First Second says run all.0, says next told m all.1)
  so_along First Second says {here = next} {told = all_told} {m = later} (Stepped step may all_is later_is run) all = (so_along First Second says run all.0, says next all_told later all.1)

  -- what every run knows
  pub every_along : (Know : Knowledge) → ((here : Phase) (told : List Entry) (m : HostMachine) → Run start here told m → Know here told m)
      → {here : Phase} {told : List Entry} {m : HostMachine} → (run : Run start here told m) → AllAlong Know run
  every_along Know every Begins = every Resting [] start Begins
  every_along Know every {here = next} {told = told} {m = m} (Turned turns run) = (every_along Know every run, every next told m (Turned turns run))
  every_along Know every {here = next} {told = all} {m = later} (Stepped step may all_is later_is run) = (every_along Know every run, every next all later (Stepped step may all_is later_is run))

  -- what a walk on a ground knows
  module _ (Ground Know : Knowledge) (walk : WalkBoth Ground Know) (first : Know Resting [] start) where
    pub walks_along : {here : Phase} {told : List Entry} {m : HostMachine} → (run : Run start here told m) → AllAlong Ground run → AllAlong Know run
    walks_along Begins ground = first
    walks_along {here = next} {told = told} {m = m} (Turned {here = here} turns run) ground =
        let before = walks_along run ground.0 in (before, walk.turn here next told m turns (known_last Ground run ground.0) (known_last Know run before))
    walks_along {here = next} {told = all} {m = later} (Stepped {here = here} {told = told} {m = m} one may all_is later_is run) ground =
        let before = walks_along run ground.0 in
        let after : Ground next (told ++ entries m one) (happens m one)
        = subst (λ (k : HostMachine). Ground next (told ++ entries m one) k) later_is (subst (λ (l : List Entry). Ground next l later) all_is ground.1) in (
          before,
          subst (λ (l : List Entry). Know next l later) (sym all_is)
              (subst (λ (k : HostMachine). Know next (told ++ entries m one) k) (sym later_is) (walk.step here next told m one may (known_last Ground run ground.0) after (known_last Know run before))),
        )

  -- and a law over it
  module _ (Ground : Knowledge) (Law : List Entry → Entry → Type 0) (walk : WalkOver Ground (λ past e. Unit {0}) Law (λ here past m. Unit {0})) where
    pub law_along : {here : Phase} {told : List Entry} {m : HostMachine} → (run : Run start here told m) → AllAlong Ground run → EachAfter Law [] told
    law_along Begins ground = tt
    law_along (Turned turns run) ground = law_along run ground.0
    law_along {here = next} (Stepped {here = here} {told = told} {m = m} one may all_is later_is run) ground =
        subst (λ (l : List Entry). EachAfter Law [] l) (sym all_is)
        (each-append Law [] told (entries m one) (law_along run ground.0) (walk.step here next told m one may (known_last Ground run ground.0) (each_any told (entries m one)) tt).0)

  -- with what it knows besides
  module _ (Ground Know : Knowledge) (Law : List Entry → Entry → Type 0) (walk : WalkOver Ground (λ past e. Unit {0}) Law Know) (first : Know Resting [] start) where
    pub told_along : {here : Phase} {told : List Entry} {m : HostMachine} → (run : Run start here told m) → AllAlong Ground run → EachAfter Law [] told × Know here told m
    told_along Begins ground = (tt, first)
    told_along {here = next} {told = told} {m = m} (Turned {here = here} turns run) ground =
        let before = told_along run ground.0 in (before.0, walk.turn here next told m turns (known_last Ground run ground.0) before.1)
    told_along {here = next} {told = all} {m = later} (Stepped {here = here} {told = told} {m = m} one may all_is later_is run) ground =
        let before = told_along run ground.0 in
        let goes = walk.step here next told m one may (known_last Ground run ground.0) (each_any told (entries m one)) before.1 in (
          subst (λ (l : List Entry). EachAfter Law [] l) (sym all_is) (each-append Law [] told (entries m one) before.0 goes.0),
          subst (λ (l : List Entry). Know next l later) (sym all_is) (subst (λ (k : HostMachine). Know next (told ++ entries m one) k) (sym later_is) goes.1),
        )
