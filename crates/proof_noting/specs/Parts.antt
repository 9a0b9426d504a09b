-- What each part of a host alone makes of the course of its notes (this project's own rule): each kind of step, and each part that is over; and that the course fits.
use Rattle.std.specs.Prelude.{◌≡◌, ℕ, List, [], ◌∷◌, ◌++◌}
use Rattle.serial_frame.specs.declared.item.Item.{Item}
use Rattle.serial_frame.specs.declared.unit.Unit.{Unit as LineUnit}
use Rattle.zw_text.specs.declared.line.Line.{Line}
use Rattle.zw_text.specs.declared.line.Line.TheVariants as lines
use Rattle.zw_text.specs.declared.entry.Entry.{Entry}
use Rattle.host_heard.specs.declared.told.Told.{Told}
use Rattle.law_transcript.specs.Units.{Carried}
use Rattle.host_model.specs.Events.{HostEvent}
use Rattle.host_model.specs.State.{HostState}
use Rattle.proof_hearing.specs.proof_choice.proof_giving.Tie.{IsRequest}
use Rattle.proof_hearing.specs.proof_queue.proof_attempts.proof_requests.proof_alone.State.{HostMachine, done}
use Rattle.proof_hearing.specs.proof_queue.proof_attempts.proof_requests.proof_alone.Steps.{Step, Restarts, Judges, Does}
use Rattle.proof_hearing.specs.proof_queue.proof_attempts.proof_requests.proof_alone.Phases.{Phase, Resting, Asked, Risen, Ticking, Open, Behind, Sleeping, Submitting, May}
use Rattle.proof_noting.specs.Following.{Outset}
use Rattle.proof_noting.specs.Behind.{AtOpen, InPayload, OneLeft}
use Rattle.proof_noting.specs.Ground.{GroundAlong}
use Rattle.proof_noting.specs.Noting.{AtRest, KnowsCourse}
use Rattle.proof_noting.specs.Steps.{BringsPayload, CourseFits, Fitting, FittingWhole, IsBeside, IsPumping, IsUnsent, StepFollows, TurnFollows, first_of}
use Rattle.proof_noting.specs.Sure.{SureRun}

-- each kind of step, and each part that is over
pub record Parts (key : List ℕ) (taken : List Entry → Carried → List Told) (from : Outset) : Type 0 where
  pub along : GroundAlong taken (first_of key)
  pub beside : (here next : Phase) (past : List Entry) (m : HostMachine) (step : Step) → IsBeside step → StepFollows key taken from here past m step next
  pub unsent : (here next : Phase) (past told : List Entry) (m : HostMachine) (event : HostEvent) → IsPumping here → IsUnsent event → StepFollows key taken from here past m (Does event told) next
  pub submits : (past told : List Entry) (m : HostMachine) (event : HostEvent) → IsRequest event → StepFollows key taken from Submitting past m (Does event told) Submitting
  pub starts : (next : Phase) (past : List Entry) (m : HostMachine) (state : HostState) → StepFollows key taken from (Asked lines.Restart) past m (Restarts state) next
  pub judged : (next : Phase) (past told : List Entry) (m : HostMachine) (item : Item) (rest : List LineUnit) (behind : List HostEvent) → (BringsPayload item → ⊥)
      → StepFollows key taken from Open past m (Judges item rest behind told) next
  pub payload : (next : Phase) (past told : List Entry) (m : HostMachine) (item : Item) (rest : List LineUnit) (behind : List HostEvent) → BringsPayload item
      → StepFollows key taken from Open past m (Judges item rest behind told) next
  pub one_left : (next : Phase) (past told : List Entry) (m : HostMachine) (one : HostEvent) → SureRun taken (first_of key) (Behind (one ∷ [])) past m → May (Behind (one ∷ [])) m (Does one told) next
      → OneLeft key taken from past m one → KnowsCourse key taken from (first_of key) next (past ++ told) (done m one)
  pub payload_left : (next : Phase) (past told : List Entry) (m : HostMachine) (one : HostEvent) (left : List HostEvent) → SureRun taken (first_of key) (Behind (one ∷ left)) past m
      → May (Behind (one ∷ left)) m (Does one told) next → InPayload key taken from (first_of key) past m (one ∷ left) → KnowsCourse key taken from (first_of key) next (past ++ told) (done m one)
  pub payload_over : (past : List Entry) (m : HostMachine) → SureRun taken (first_of key) (Behind []) past m → InPayload key taken from (first_of key) past m [] → AtOpen key taken from past m
  pub ticks : (left : List HostEvent) (next : Phase) (past told : List Entry) (m : HostMachine) (one : HostEvent) → StepFollows key taken from (Ticking left) past m (Does one told) next
  pub rests : (next : Phase) (past : List Entry) (m : HostMachine) → TurnFollows key taken from Resting next past m
  pub asks : (line : Line) (next : Phase) (past : List Entry) (m : HostMachine) → TurnFollows key taken from (Asked line) next past m
  pub opens : (next : Phase) (past : List Entry) (m : HostMachine) → TurnFollows key taken from Open next past m
  pub sleeps : (next : Phase) (past : List Entry) (m : HostMachine) → TurnFollows key taken from Sleeping next past m
  pub submitted : (next : Phase) (past : List Entry) (m : HostMachine) → TurnFollows key taken from Submitting next past m
  pub tick_begins : (next : Phase) (past : List Entry) (m : HostMachine) → TurnFollows key taken from Risen next past m
  pub tick_ends : (left : List HostEvent) (next : Phase) (past : List Entry) (m : HostMachine) → TurnFollows key taken from (Ticking left) next past m
  pub whole : (past : List Entry) (m : HostMachine) → SureRun taken (first_of key) Resting past m → m.left ≡ 0 → AtRest key taken from past m → FittingWhole key taken from past
  pub fits_asked : (line : Line) (past : List Entry) (m : HostMachine) → CourseFits key taken from (Asked line) past m
  pub fits_ticking : (left : List HostEvent) (past : List Entry) (m : HostMachine) → CourseFits key taken from (Ticking left) past m
  pub fits_one : (past : List Entry) (m : HostMachine) (one : HostEvent) → OneLeft key taken from past m one → Fitting key taken from past
  pub fits_payload : (past : List Entry) (m : HostMachine) (left : List HostEvent) → InPayload key taken from (first_of key) past m left → Fitting key taken from past
