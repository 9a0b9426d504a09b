-- The walk: along each run of which all is so the course of notes follows the host from where it begins, by what each kind of step makes of it.
use Rattle.std.proofs.Common.{◌≡◌, ◌⊎◌, ℕ, inl, inr, List, [], ◌∷◌, ◌++◌, sym, subst}
use Rattle.std.specs.Prelude.{Result, Ok, Err}
use Rattle.serial_frame.specs.declared.frame.Kind.{Kind}
use Rattle.serial_frame.specs.declared.frame.Kind.TheVariants as kind
use Rattle.serial_frame.specs.declared.item.Item.{Item}
use Rattle.serial_frame.specs.declared.item.Item.TheVariants.{Good, Refused as refused_item}
use Rattle.serial_frame.specs.declared.unit.Unit.{Unit as LineUnit}
use Rattle.serial_frame.specs.declared.unit.Unit.TheVariants.{Ack, Nak, Can, Framed}
use Rattle.chip_functions.specs.Notice.{notice_of}
use Rattle.chip_functions.specs.declared.fault.BodyFault.{BodyFault}
use Rattle.chip_functions.specs.declared.notice.Notice.{Notice}
use Rattle.chip_functions.specs.declared.notice.Notice.TheVariants.{ApplicationCommandHandler}
use Rattle.zw_text.specs.declared.line.Line.TheVariants as lines
use Rattle.zw_text.specs.declared.entry.Entry.{Entry}
use Rattle.host_heard.specs.declared.told.Told.{Told}
use Rattle.law_transcript.specs.Units.{Carried}
use Rattle.host_model.specs.Events.{HostEvent}
use Rattle.host_model.proofs.Submitted.{SleepersAre, SubmittedAre, next_is, no_more_is}
use Rattle.proof_hearing.specs.proof_choice.proof_giving.Tie.{IsRequest}
use Rattle.proof_hearing.specs.proof_queue.Heeding.{AllSteps, HeedsAs, HeedsSo}
use Rattle.proof_hearing.specs.proof_queue.proof_attempts.proof_requests.law_host.Heard.{heeds_alone}
use Rattle.proof_hearing.specs.proof_queue.proof_attempts.proof_requests.proof_alone.Careful.{Careful}
use Rattle.proof_hearing.specs.proof_queue.proof_attempts.proof_requests.proof_alone.State.{HostMachine, done}
use Rattle.proof_hearing.specs.proof_queue.proof_attempts.proof_requests.proof_alone.Steps.{Step, Tells, Comes, Misses, Says, Says_nothing, Asks, Refuses, Shows, Restarts, Begins_tick, Numbers, Judges, Does, entries, happens}
use Rattle.proof_hearing.specs.proof_queue.proof_attempts.proof_requests.proof_alone.Phases.{Phase, Resting, Asked, Risen, Ticking, Open, Behind, Sleeping, Submitting, May, Turns}
use Rattle.proof_hearing.specs.proof_queue.proof_attempts.proof_requests.proof_alone.Runs.{Run}
use Rattle.proof_hearing.specs.proof_queue.proof_attempts.proof_requests.proof_alone.Runs.Run.{Begins, Turned, Stepped}
use Rattle.proof_noting.specs.Following.{Outset}
use Rattle.proof_noting.specs.Behind.{AtOpen, BehindSo}
use Rattle.proof_noting.specs.Behind.BehindSo.{None_left, One_left, Payload_left}
use Rattle.proof_noting.specs.Noting.{KnowsCourse}
use Rattle.proof_noting.specs.Parts.{Parts}
use Rattle.proof_noting.specs.Steps.{BringsFrame, BringsNotice, BringsPayload, CourseFits, Fitting, IsUnsent, StepFollows, TurnFollows, first_of}
use Rattle.proof_noting.specs.Sure.{SureRun, SureStep}
use Rattle.proof_noting.proofs.Fitted.{follows_fit}

-- ---- where it begins

-- along some run
abbrev pub OfRuns : HostMachine → Type 1
OfRuns start = (here : Phase) (told : List Entry) (m : HostMachine) → Run start here told m → Type 0

-- The course is known where it has begun. It has at first, or a step begins it; and no other step or end of a part does.
pub record Beginning (key : List ℕ) (taken : List Entry → Carried → List Told) (from : Outset) (Begun : OfRuns (first_of key)) : Type 0 where
  pub first : Begun Resting [] (first_of key) Begins → KnowsCourse key taken from (first_of key) Resting [] (first_of key)
  pub turn : (here next : Phase) (past : List Entry) (m : HostMachine) (turns : Turns here m next) (run : Run (first_of key) here past m) → Begun next past m (Turned turns run) → Begun here past m run
  pub step : (here next : Phase) (past all : List Entry) (m later : HostMachine) (one : Step) (may : May here m one next) (all_is : all ≡ past ++ entries m one) (later_is : later ≡ happens m one)
      → (sure : SureRun taken (first_of key) here past m) → SureStep taken sure.run one → Begun next all later (Stepped one may all_is later_is sure.run)
      → Begun here past m sure.run ⊎ KnowsCourse key taken from (first_of key) next (past ++ entries m one) (happens m one)

-- ---- which items bring a payload

notice_either : (read : Result Notice BodyFault) → BringsNotice read ⊎ (BringsNotice read → ⊥)
notice_either (Ok (ApplicationCommandHandler rx_status source payload)) = inl tt
notice_either (Ok notice) = inr (λ brings. brings)
notice_either (Err fault) = inr (λ brings. brings)

frame_either : (k : Kind) (read : Result Notice BodyFault) → BringsFrame k read ⊎ (BringsFrame k read → ⊥)
frame_either kind.Response read = inr (λ brings. brings)
frame_either kind.Request read = notice_either read

item_either : (item : Item) → BringsPayload item ⊎ (BringsPayload item → ⊥)
item_either (Good (Framed f)) = frame_either f.kind (notice_of f.func f.body)
item_either (Good Ack) = inr (λ brings. brings)
item_either (Good Nak) = inr (λ brings. brings)
item_either (Good Can) = inr (λ brings. brings)
item_either (refused_item refusal) = inr (λ brings. brings)

-- ---- which events a pump does

abbrev IsOfPump : HostEvent → Type 0
IsOfPump event = IsRequest event ⊎ IsUnsent event

submitted_of : SubmittedAre IsOfPump
submitted_of = record {
  abort = inl tt;
  front = inl tt;
  starts = λ n plan more payload. inl tt;
  text = λ n payload. inl tt;
  segment = λ n more payload. inl tt;
  begins = λ n session command. inr tt;
  unkept = λ n. inr tt;
}

sleepers_unsent : SleepersAre IsUnsent
sleepers_unsent = record { queues = λ n. tt; drops = λ n. tt }

module _ (key : List ℕ) (taken : List Entry → Carried → List Told) (from : Outset) (parts : Parts key taken from) where
  abbrev start : HostMachine
  start = first_of key

  abbrev Know : Phase → List Entry → HostMachine → Type 0
  Know here past m = KnowsCourse key taken from start here past m

  -- a step that may come only at one phase
  at : (here is : Phase) (past : List Entry) (m : HostMachine) (step : Step) (next : Phase) → here ≡ is → StepFollows key taken from is past m step next → StepFollows key taken from here past m step next
  at here is past m step next same follows = subst (λ (p : Phase). StepFollows key taken from p past m step next) (sym same) follows

  judges : (next : Phase) (past told : List Entry) (m : HostMachine) (item : Item) (rest : List LineUnit) (behind : List HostEvent) → BringsPayload item ⊎ (BringsPayload item → ⊥)
      → StepFollows key taken from Open past m (Judges item rest behind told) next
  judges next past told m item rest behind (inl brings) = parts.payload next past told m item rest behind brings
  judges next past told m item rest behind (inr other) = parts.judged next past told m item rest behind other

  -- an event that is left behind an item
  left_goes : (next : Phase) (past told : List Entry) (m : HostMachine) (one : HostEvent) (left : List HostEvent) → SureRun taken start (Behind (one ∷ left)) past m
      → May (Behind (one ∷ left)) m (Does one told) next → BehindSo key taken from start past m (one ∷ left) → Know next (past ++ told) (done m one)
  left_goes next past told m one [] sure may (One_left first so) = parts.one_left next past told m one sure may so
  left_goes next past told m one left sure may (Payload_left so) = parts.payload_left next past told m one left sure may so

  does : (here next : Phase) (past told : List Entry) (m : HostMachine) (event : HostEvent) → StepFollows key taken from here past m (Does event told) next
  does (Ticking left) next past told m event = parts.ticks left next past told m event
  does (Behind []) next past told m event = λ sure so may know. absurd may.0
  does (Behind (first ∷ left)) next past told m event = λ sure so may know.
      let same : event ≡ first = may.0.0 in
      subst (λ (e : HostEvent). Know next (past ++ told) (done m e)) (sym same)
      (left_goes next past told m first left sure (subst (λ (e : HostEvent). May (Behind (first ∷ left)) m (Does e told) next) same may) know)
  does Sleeping next past told m event = λ sure so may know.
      let (node, wants, event_is, to_is) = may.0 in
      parts.unsent Sleeping next past told m event tt (subst IsUnsent (sym event_is) (no_more_is IsUnsent sleepers_unsent m.state node)) sure so may know
  does Submitting next past told m event = λ sure so may know. by sure so may know (next_is IsOfPump submitted_of m.state event may.0.0)
    where
      by : (sure : SureRun taken start Submitting past m) → SureStep taken sure.run (Does event told) → May Submitting m (Does event told) next → Know Submitting past m → IsOfPump event
          → Know next (past ++ told) (done m event)
      by sure so may know (inl request) =
          subst (λ (p : Phase). Know p (past ++ told) (done m event)) (sym may.0.1)
          (parts.submits past told m event request sure so (subst (λ (p : Phase). May Submitting m (Does event told) p) may.0.1 may) know)
      by sure so may know (inr unsent) = parts.unsent Submitting next past told m event tt unsent sure so may know
  does here next past told m event = λ sure so may know. absurd may.0

  steps : (here next : Phase) (past : List Entry) (m : HostMachine) (step : Step) → May here m step next → StepFollows key taken from here past m step next
  steps here next past m (Tells e) may = parts.beside here next past m (Tells e) tt
  steps here next past m (Comes unit) may = parts.beside here next past m (Comes unit) tt
  steps here next past m (Misses text marks) may = parts.beside here next past m (Misses text marks) tt
  steps here next past m (Says words line) may = parts.beside here next past m (Says words line) tt
  steps here next past m (Says_nothing words) may = parts.beside here next past m (Says_nothing words) tt
  steps here next past m (Asks event) may = parts.beside here next past m (Asks event) tt
  steps here next past m (Refuses refusal) may = parts.beside here next past m (Refuses refusal) tt
  steps here next past m (Shows node) may = parts.beside here next past m (Shows node) tt
  steps here next past m (Restarts state) may = at here (Asked lines.Restart) past m (Restarts state) next may.0 (parts.starts next past m state)
  steps here next past m (Begins_tick left) may = parts.beside here next past m (Begins_tick left) tt
  steps here next past m Numbers may = parts.beside here next past m Numbers tt
  steps here next past m (Judges item rest behind told) may =
      at here Open past m (Judges item rest behind told) next may.0 (judges next past told m item rest behind (item_either item))
  steps here next past m (Does event told) may = does here next past told m event

  -- where nothing is left behind an item
  none_left : (past : List Entry) (m : HostMachine) → SureRun taken start (Behind []) past m → BehindSo key taken from start past m [] → AtOpen key taken from past m
  none_left past m sure (None_left so) = so
  none_left past m sure (Payload_left so) = parts.payload_over past m sure so

  turns : (here next : Phase) (past : List Entry) (m : HostMachine) → Turns here m next → TurnFollows key taken from here next past m
  turns Resting next past m is = parts.rests next past m
  turns (Asked line) next past m is = parts.asks line next past m
  turns Risen next past m is = parts.tick_begins next past m
  turns (Ticking left) next past m is = parts.tick_ends left next past m
  turns Open next past m is = parts.opens next past m
  turns (Behind []) next past m is = λ sure well to know. subst (λ (p : Phase). Know p past m) (sym to) (none_left past m sure know)
  turns (Behind (event ∷ left)) next past m is = absurd is
  turns Sleeping next past m is = parts.sleeps next past m
  turns Submitting next past m is = parts.submitted next past m

  -- ---- the walk

  module _ (Begun : OfRuns (first_of key)) (beginning : Beginning key taken from Begun) where
    -- it goes on where it had begun
    goes : (here next : Phase) (past : List Entry) (m : HostMachine) (one : Step) (sure : SureRun taken start here past m) → SureStep taken sure.run one → May here m one next
        → (Begun here past m sure.run → Know here past m) → Begun here past m sure.run ⊎ Know next (past ++ entries m one) (happens m one) → Know next (past ++ entries m one) (happens m one)
    goes here next past m one sure so may known (inl begun) = steps here next past m one may sure so may (known begun)
    goes here next past m one sure so may known (inr begins) = begins

    pub walks : {here : Phase} {told : List Entry} {m : HostMachine} → (run : Run start here told m) → Careful run → AllSteps (HeedsSo (heeds_alone taken)) run
        → AllSteps (HeedsAs (heeds_alone taken)) run → Begun here told m run → Know here told m
    walks Begins careful sure as_told begun = beginning.first begun
    walks {here = next} {told = told} {m = m} (Turned {here = here} turned run) careful sure as_told begun =
        turns here next told m turned (record { run = run; careful = careful.0; heeds_so = sure; heeds_as = as_told }) careful.1 turned
        (walks run careful.0 sure as_told (beginning.turn here next told m turned run begun))
    walks {here = next} {told = all} {m = later} (Stepped {here = here} {told = told} {m = m} step may all_is later_is run) careful sure as_told begun =
        let so_far : SureRun taken start here told m = record { run = run; careful = careful.0; heeds_so = sure.0; heeds_as = as_told.0 } in
        let so : SureStep taken run step = record { well = careful.1; heeds_so = sure.1; heeds_as = as_told.1 } in
        subst (λ (l : List Entry). Know next l later) (sym all_is)
        (subst (λ (k : HostMachine). Know next (told ++ entries m step) k) (sym later_is)
        (goes here next told m step so_far so may
        (λ before. walks run careful.0 sure.0 as_told.0 before)
        (beginning.step here next told all m later step may all_is later_is so_far so begun)))

  -- ---- it fits

  pub fits : (here : Phase) (past : List Entry) (m : HostMachine) → CourseFits key taken from here past m
  fits Resting past m = λ sure know. follows_fit key taken from past m know.course know.of know.follows
  fits (Asked line) past m = parts.fits_asked line past m
  fits Risen past m = λ sure know. follows_fit key taken from past m know.course know.of know.follows
  fits (Ticking left) past m = parts.fits_ticking left past m
  fits Open past m = λ sure know. follows_fit key taken from past m know.course know.of know.follows
  fits (Behind left) past m = λ sure know. by left know
    where
      by : (left : List HostEvent) → BehindSo key taken from start past m left → Fitting key taken from past
      by [] (None_left so) = follows_fit key taken from past m so.course so.of so.follows
      by (one ∷ []) (One_left first so) = parts.fits_one past m one so
      by left (Payload_left so) = parts.fits_payload past m left so
  fits Sleeping past m = λ sure know. follows_fit key taken from past m know.course know.of know.follows
  fits Submitting past m = λ sure know. follows_fit key taken from past m know.course know.of know.follows
