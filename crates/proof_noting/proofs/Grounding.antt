-- What is known along each run of which all is so.
use Rattle.std.proofs.Common.{◌≡◌, ◌≤◌, ℕ, List, [], refl}
use Rattle.zw_text.specs.declared.entry.Entry.{Entry}
use Rattle.host_heard.specs.declared.told.Told.{Told}
use Rattle.law_transcript.specs.Units.{Carried}
use Rattle.law_time.specs.Heeds.{Heeds}
use Rattle.law_time.specs.Unanswered.{to_give_up}
use Rattle.proof_hearing.specs.proof_choice.Turning.{AllAlong, KnowsAll}
use Rattle.proof_hearing.specs.proof_choice.Waits.{AskingGround}
use Rattle.proof_hearing.proofs.Along.{known_last}
use Rattle.proof_hearing.proofs.ReadyTie.{asked_of, facts_of, ground_of}
use Rattle.proof_hearing.specs.proof_choice.proof_giving.Walking.{Grounds, KnowsAttempts}
use Rattle.proof_hearing.proofs.AtRest.{none_is_over}
use Rattle.proof_hearing.proofs.Rested.{before_number}
use Rattle.proof_hearing.specs.proof_queue.Heeding.{AllSteps, HeedsAs, HeedsSo}
use Rattle.proof_hearing.specs.proof_queue.proof_attempts.proof_requests.law_host.Heard.{heeds_alone}
use Rattle.proof_hearing.specs.proof_queue.proof_attempts.proof_requests.proof_alone.Careful.{Careful}
use Rattle.proof_hearing.specs.proof_queue.proof_attempts.proof_requests.proof_alone.State.{HostMachine}
use Rattle.proof_hearing.specs.proof_queue.proof_attempts.proof_requests.proof_alone.Phases.{Phase, Resting}
use Rattle.proof_hearing.specs.proof_queue.proof_attempts.proof_requests.proof_alone.Runs.{Run, both_know}
use Rattle.proof_noting.specs.Ground.{ErrandsAlong, GroundAlong}
use Rattle.proof_noting.specs.Steps.{first_of}

module _ (key : List ℕ) (taken : List Entry → Carried → List Told) where
  abbrev heeds : Heeds
  heeds = heeds_alone taken

  abbrev start : HostMachine
  start = first_of key

  -- what the attempts of a host are known by, and what it chooses by
  abbrev pub GroundsSo : Type 0
  GroundsSo = (here : Phase) (told : List Entry) (m : HostMachine) → Run start here told m → Grounds heeds here told m

  abbrev pub CountsSo : Type 0
  CountsSo = (here : Phase) (told : List Entry) (m : HostMachine) → (run : Run start here told m) → Careful run → AllSteps (HeedsSo heeds) run → AllSteps (HeedsAs heeds) run → KnowsAttempts heeds here told m

  abbrev pub ChoosesSo : Type 0
  ChoosesSo =
      (here : Phase) (told : List Entry) (m : HostMachine) → (run : Run start here told m) → Careful run → AllSteps (HeedsSo heeds) run → AllSteps (HeedsAs heeds) run
      → AllAlong (both_know (AskingGround heeds) (KnowsAll heeds)) run

  module _ (grounds : GroundsSo) (counts : CountsSo) (chooses : ChoosesSo) (errands : ErrandsAlong key) where
    -- of no node a command is to be given up at a time
    abbrev NoneTo : List Entry → ℕ → Type 0
    NoneTo told now = (n : ℕ) → 1 ≤ n → n ≤ 232 → to_give_up heeds told now n ≡ []

    rests : (told : List Entry) (m : HostMachine) → (run : Run start Resting told m) → Careful run → AllSteps (HeedsSo heeds) run → AllSteps (HeedsAs heeds) run → NoneTo told m.clock
    rests told m run careful sure as_told n from to =
        let g : Grounds heeds Resting told m = grounds Resting told m run in
        none_is_over heeds n told m.clock m.came m.state (ground_of Resting told m g).0.1 (asked_of Resting told m g) ((facts_of Resting told m g).nodes.facts n)
        (counts Resting told m run careful sure as_told n from to)

    pub grounded : GroundAlong taken start
    grounded here told m sure =
        let known = known_last start (both_know (AskingGround heeds) (KnowsAll heeds)) sure.run (chooses here told m sure.run sure.careful sure.heeds_so sure.heeds_as) in
        record {
          grounds = grounds here told m sure.run;
          counts = counts here told m sure.run sure.careful sure.heeds_so sure.heeds_as;
          asks = known.0;
          all = known.1;
          rested = λ awaits. before_number NoneTo taken start refl rests sure.run sure.careful sure.heeds_so sure.heeds_as awaits;
          errands = errands told (here, m, sure.run);
        }
