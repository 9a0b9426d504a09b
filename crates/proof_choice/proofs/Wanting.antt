-- What waits in the host is known along each careful run where it submits, and where it rests.
use Rattle.std.proofs.Common.{◌≡◌, ℕ, ◌+◌, ◌&&◌, List, [], map, refl, sym, ap, ◌∙◌}
use Rattle.std.proofs.lemmas.Bool.{or_left}
use Rattle.zw_words.specs.declared.side.Side.TheVariants.{Host}
use Rattle.zw_text.specs.declared.entry.Entry.{Entry}
use Rattle.zw_text.specs.declared.entry.Entry.TheVariants as entry
use Rattle.host_heard.specs.declared.told.Told.{Told}
use Rattle.law_transcript.specs.Units.{Carried}
use Rattle.law_time.specs.Heeds.{Heeds}
use Rattle.law_time.specs.Judged.{is_acknowledgement}
use Rattle.law_time.specs.Queue.{judges_first, requests, with_due}
use Rattle.law_time.specs.Requests.{Asked, asked, is_new}
use Rattle.proof_giving.specs.proof_queue.proof_attempts.proof_requests.law_host.Heard.{heeds_alone}
use Rattle.proof_giving.specs.proof_queue.proof_attempts.proof_requests.proof_alone.State.{HostMachine}
use Rattle.proof_giving.specs.proof_queue.proof_attempts.proof_requests.proof_alone.Phases.{Phase, Resting, Submitting}
use Rattle.proof_giving.specs.proof_queue.proof_attempts.proof_requests.proof_alone.Careful.{Careful}
use Rattle.proof_giving.specs.proof_queue.proof_attempts.proof_requests.proof_alone.Runs.{Run}
use Rattle.proof_giving.specs.proof_queue.proof_attempts.proof_requests.proof_alone.Runs.Run.{Begins, Turned, Stepped}
use Rattle.proof_giving.specs.proof_queue.Heeding.{AllSteps, HeedsAs, HeedsSo}
use Rattle.proof_giving.specs.proof_queue.Waiting.{WaitsAtLooks, queue_of, want_of_task}
use Rattle.proof_giving.proofs.Books.{last_is}
use Rattle.proof_giving.proofs.Late.{less}
use Rattle.proof_giving.specs.Walking.{KnowsAttempts}
use Rattle.proof_choice.specs.Counting.{KnowsCounts}
use Rattle.proof_choice.specs.Turning.{AllAlong}
use Rattle.proof_choice.specs.Waits.{KnowsWants, WaitsAnew}

module _ (start : HostMachine) (taken : List Entry → Carried → List Told) where
  abbrev heeds : Heeds
  heeds = heeds_alone taken

  abbrev pub LooksAt : Phase → Type 0
  LooksAt here = (told : List Entry) (m : HostMachine) → (run : Run start here told m) → Careful run → AllSteps (HeedsSo heeds) run → WaitsAtLooks heeds told m

  anew : (told : List Entry) (m : HostMachine) → WaitsAtLooks heeds told m → WaitsAnew heeds told m
  anew told m looks unit new now =
      (looks (entry.Written Host unit) (or_left (is_new (asked told) unit) (is_acknowledgement unit && judges_first told) new) now).wants_are

  rested : (told : List Entry) (m : HostMachine) → WaitsAtLooks heeds told m → (with_due heeds told m.clock (asked told) (queue_of heeds told)).wants ≡ map want_of_task m.state.requests.queue
  rested told m looks =
      ap (λ (a : Asked). (with_due heeds told m.clock a (queue_of heeds told)).wants) (sym (last_is taken told))
      ∙ ap (λ (t : ℕ). (with_due heeds told t (requests heeds told).last (queue_of heeds told)).wants) (sym (less m.clock))
      ∙ (looks (entry.Time (m.clock + 1)) refl (less m.clock)).wants_are

  module _ (submits : LooksAt Submitting) (rests : LooksAt Resting) where
    known : (here : Phase) (told : List Entry) (m : HostMachine) → (run : Run start here told m) → Careful run → AllSteps (HeedsSo heeds) run → KnowsWants heeds here told m
    known Submitting told m run careful sure = anew told m (submits told m run careful sure)
    known Resting told m run careful sure = rested told m (rests told m run careful sure)
    known here told m run careful sure = tt

    pub wants_along : {here : Phase} {told : List Entry} {m : HostMachine} → (run : Run start here told m) → Careful run → AllSteps (HeedsSo heeds) run → AllAlong (KnowsWants heeds) run
    wants_along Begins careful sure = known Resting [] start Begins careful sure
    wants_along {here = next} {told = told} {m = m} (Turned turns run) careful sure = (wants_along run careful.0 sure, known next told m (Turned turns run) careful sure)
    wants_along {here = next} {told = all} {m = later} (Stepped step may all_is later_is run) careful sure =
        (wants_along run careful.0 sure.0, known next all later (Stepped step may all_is later_is run) careful sure)

-- and so are the attempts of each node
module _ (start : HostMachine) (heeds : Heeds) where
  abbrev pub CountsAt : Type 0
  CountsAt =
      (here : Phase) (told : List Entry) (m : HostMachine) → (run : Run start here told m) → Careful run → AllSteps (HeedsSo heeds) run → AllSteps (HeedsAs heeds) run → KnowsAttempts heeds here told m

  counted : (here : Phase) (told : List Entry) (m : HostMachine) → KnowsAttempts heeds here told m → KnowsCounts heeds here told m
  counted Submitting told m counts = counts
  counted Resting told m counts = counts
  counted here told m counts = tt

  module _ (counts : CountsAt) where
    pub tied_along : {here : Phase} {told : List Entry} {m : HostMachine} → (run : Run start here told m) → Careful run → AllSteps (HeedsSo heeds) run → AllSteps (HeedsAs heeds) run
        → AllAlong (KnowsAttempts heeds) run
    tied_along Begins careful sure as_told = counts Resting [] start Begins careful sure as_told
    tied_along {here = next} {told = told} {m = m} (Turned turns run) careful sure as_told = (tied_along run careful.0 sure as_told, counts next told m (Turned turns run) careful sure as_told)
    tied_along {here = next} {told = all} {m = later} (Stepped step may all_is later_is run) careful sure as_told =
        (tied_along run careful.0 sure.0 as_told.0, counts next all later (Stepped step may all_is later_is run) careful sure as_told)

    pub attempts_along : {here : Phase} {told : List Entry} {m : HostMachine} → (run : Run start here told m) → Careful run → AllSteps (HeedsSo heeds) run → AllSteps (HeedsAs heeds) run
        → AllAlong (KnowsCounts heeds) run
    attempts_along Begins careful sure as_told = counted Resting [] start (counts Resting [] start Begins careful sure as_told)
    attempts_along {here = next} {told = told} {m = m} (Turned turns run) careful sure as_told =
        (attempts_along run careful.0 sure as_told, counted next told m (counts next told m (Turned turns run) careful sure as_told))
    attempts_along {here = next} {told = all} {m = later} (Stepped step may all_is later_is run) careful sure as_told =
        (attempts_along run careful.0 sure.0 as_told.0, counted next all later (counts next all later (Stepped step may all_is later_is run) careful sure as_told))
