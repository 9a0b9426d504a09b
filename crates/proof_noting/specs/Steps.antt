-- What is owed so that the course of a host's notes follows a host alone along its runs (this project's own rule): at each kind of step, where a part is over, and that it fits.
use Rattle.std.specs.Prelude.{◌≡◌, Bool, true, false, List, [], ◌++◌, Some, ℕ}
use Rattle.std.specs.List.{AllByRecursion}
use Rattle.serial_frame.specs.declared.item.Item.{Item}
use Rattle.serial_frame.specs.declared.item.Item.TheVariants.{Good}
use Rattle.serial_frame.specs.declared.frame.Kind.{Kind}
use Rattle.serial_frame.specs.declared.frame.Kind.TheVariants as kind
use Rattle.serial_frame.specs.declared.unit.Unit.TheVariants.{Framed}
use Rattle.s0_crypto.specs.Sealing.{keys_of}
use Rattle.chip_functions.specs.Notice.{notice_of}
use Rattle.chip_functions.specs.declared.fault.BodyFault.{BodyFault}
use Rattle.chip_functions.specs.declared.notice.Notice.{Notice}
use Rattle.chip_functions.specs.declared.notice.Notice.TheVariants.{ApplicationCommandHandler}
use Rattle.std.specs.Prelude.{Result, Ok}
use Rattle.zw_text.specs.declared.entry.Entry.{Entry}
use Rattle.host_heard.specs.declared.told.Told.{Told}
use Rattle.law_transcript.specs.Units.{Carried}
use Rattle.host_model.specs.Events.{HostEvent, Begins, Begin_unkept, Drops_no_more, Queues_no_more}
use Rattle.proof_hearing.specs.proof_queue.proof_attempts.proof_requests.law_host.Course.{Choices}
use Rattle.proof_hearing.specs.proof_queue.proof_attempts.proof_requests.law_host.Heard.{heeds_alone}
use Rattle.proof_hearing.specs.proof_queue.proof_attempts.proof_requests.law_host.HostLegal.{IsHeeded, gone_through}
use Rattle.proof_hearing.specs.proof_queue.proof_attempts.proof_requests.law_host.Following.{ended_whole}
use Rattle.proof_hearing.specs.proof_queue.proof_attempts.proof_requests.law_host.Nonces.{UsesNonces}
use Rattle.proof_hearing.specs.proof_queue.proof_attempts.proof_requests.law_host.Notes.{NotesWhatHappens, Start, course_of}
use Rattle.proof_hearing.specs.proof_queue.proof_attempts.proof_requests.proof_alone.State.{HostMachine, first_alone}
use Rattle.proof_hearing.specs.proof_queue.proof_attempts.proof_requests.proof_alone.Steps.{Step, Tells, Comes, Misses, Says, Says_nothing, Asks, Refuses, Shows, Begins_tick, Numbers, entries, happens}
use Rattle.proof_hearing.specs.proof_queue.proof_attempts.proof_requests.proof_alone.Phases.{Phase, Sleeping, Submitting, May, Turns}
use Rattle.proof_hearing.specs.proof_queue.proof_attempts.proof_requests.proof_alone.Careful.{TurnsWell, stage_of}
use Rattle.proof_noting.specs.Following.{Outset, course_since}
use Rattle.proof_noting.specs.Sure.{SureRun, SureStep}
use Rattle.proof_noting.specs.Noting.{KnowsCourse}

-- a host that starts with this network key, over a keeper that has no records
abbrev pub first_of : List ℕ → HostMachine
first_of key = first_alone (keys_of key) (Some [])

-- ---- steps

-- where what is known of the course stands before the step, it stands after it
abbrev pub StepFollows : (key : List ℕ) (taken : List Entry → Carried → List Told) (from : Outset) (here : Phase) (past : List Entry) (m : HostMachine) (step : Step) (next : Phase) → Type 0
StepFollows key taken from here past m step next =
    (sure : SureRun taken (first_of key) here past m) → SureStep taken sure.run step → May here m step next → KnowsCourse key taken from (first_of key) here past m
    → KnowsCourse key taken from (first_of key) next (past ++ entries m step) (happens m step)

-- where a part is over
abbrev pub TurnFollows : (key : List ℕ) (taken : List Entry → Carried → List Told) (from : Outset) (here next : Phase) (past : List Entry) (m : HostMachine) → Type 0
TurnFollows key taken from here next past m =
    (sure : SureRun taken (first_of key) here past m) → TurnsWell (stage_of sure.run) here m → Turns here m next → KnowsCourse key taken from (first_of key) here past m
    → KnowsCourse key taken from (first_of key) next past m

-- a step of others, of a line that does not start the host again, or of time
abbrev pub IsBeside : Step → Type 0
IsBeside (Tells e) = Unit {0}
IsBeside (Comes unit) = Unit {0}
IsBeside (Misses text marks) = Unit {0}
IsBeside (Says words line) = Unit {0}
IsBeside (Says_nothing words) = Unit {0}
IsBeside (Asks event) = Unit {0}
IsBeside (Refuses refusal) = Unit {0}
IsBeside (Shows node) = Unit {0}
IsBeside (Begins_tick left) = Unit {0}
IsBeside Numbers = Unit {0}
IsBeside step = ⊥

-- an event of a pump that submits no request: a session begins or does not, No More Information waits or is dropped
abbrev pub IsUnsent : HostEvent → Type 0
IsUnsent (Begins n session command) = Unit {0}
IsUnsent (Begin_unkept n) = Unit {0}
IsUnsent (Queues_no_more n) = Unit {0}
IsUnsent (Drops_no_more n) = Unit {0}
IsUnsent event = ⊥

-- the parts of a pump
abbrev pub IsPumping : Phase → Type 0
IsPumping Sleeping = Unit {0}
IsPumping Submitting = Unit {0}
IsPumping here = ⊥

-- an item that brings a payload of a node
abbrev pub BringsNotice : Result Notice BodyFault → Type 0
BringsNotice (Ok (ApplicationCommandHandler rx_status source payload)) = Unit {0}
BringsNotice read = ⊥

abbrev pub BringsFrame : Kind → Result Notice BodyFault → Type 0
BringsFrame kind.Response read = ⊥
BringsFrame kind.Request read = BringsNotice read

abbrev pub BringsPayload : Item → Type 0
BringsPayload (Good (Framed f)) = BringsFrame f.kind (notice_of f.func f.body)
BringsPayload item = ⊥

-- ---- the law

-- by some choices all entries may stand, nonces are used as they should, and by each payload but the last, of which it may be in the middle, it goes as far as it took up its messages
pub record Fitting (key : List ℕ) (taken : List Entry → Carried → List Told) (from : Outset) (past : List Entry) : Type 0 where
  pub heard : List Entry
  pub split : past ≡ from.before ++ heard
  pub choices : Choices
  pub drawn : ℕ → ℕ → List ℕ
  pub fits : (course_since (heeds_alone taken) from heard choices).fits ≡ true
  pub nonces : UsesNonces key drawn (course_since (heeds_alone taken) from heard choices)
  pub heeded : AllByRecursion (IsHeeded taken) (gone_through false (course_since (heeds_alone taken) from heard choices).heeded)

abbrev pub CourseFits : (key : List ℕ) (taken : List Entry → Carried → List Told) (from : Outset) (here : Phase) (past : List Entry) (m : HostMachine) → Type 0
CourseFits key taken from here past m = SureRun taken (first_of key) here past m → KnowsCourse key taken from (first_of key) here past m → Fitting key taken from past

-- and at a rest nothing is left to be noted, and by the last payload too it goes so
pub record FittingWhole (key : List ℕ) (taken : List Entry → Carried → List Told) (from : Outset) (past : List Entry) : Type 0 where
  pub heard : List Entry
  pub split : past ≡ from.before ++ heard
  pub choices : Choices
  pub drawn : ℕ → ℕ → List ℕ
  pub fits : (course_since (heeds_alone taken) from heard choices).fits ≡ true
  pub in_the_end : (ended_whole (heeds_alone taken) past (course_since (heeds_alone taken) from heard choices)).fits ≡ true
  pub nonces : UsesNonces key drawn (course_since (heeds_alone taken) from heard choices)
  pub heeded : AllByRecursion (IsHeeded taken) (course_since (heeds_alone taken) from heard choices).heeded

-- the law of notes by these messages, and what they are in the course, but of the last payload of a run that is cut
pub record NotesInFull (key : List ℕ) (taken : List Entry → Carried → List Told) (from : Start) (whole : Bool) (heard : List Entry) : Type 0 where
  pub notes : NotesWhatHappens key (heeds_alone taken) from whole heard
  pub heeded : AllByRecursion (IsHeeded taken) (gone_through whole (course_of (heeds_alone taken) from heard notes.choices).heeded)
