-- What a host has to do with the course of its requests (this project's own rule): the word of each frame, and what the course knows of a host.
use Rattle.std.specs.Prelude.{◌≡◌, ℕ, ◌==◌, if◌then◌else◌, Bool, false, List, [], ◌∷◌, ◌++◌, Option, Some, None}
use Rattle.std.specs.List.{flat_map}
use Rattle.chip_functions.specs.declared.function.TheConstants.{SEND_DATA, SEND_DATA_ABORT}
use Rattle.serial_frame.specs.declared.unit.Unit.{Unit as LineUnit}
use Rattle.serial_frame.specs.declared.unit.Unit.TheVariants.{Ack, Nak, Can, Framed}
use Rattle.serial_link.specs.declared.turn.Turn.{Turn}
use Rattle.serial_link.specs.declared.turn.Turn.TheVariants.{Idle, Copied, Paused}
use Rattle.host_requests.specs.Frames.{function_of}
use Rattle.host_requests.specs.Next.{is_answered}
use Rattle.host_requests.specs.declared.task.Purpose.{Purpose}
use Rattle.host_requests.specs.declared.task.Purpose.TheVariants.{Housekeeping, Attempt, Abort as of_abort}
use Rattle.host_requests.specs.declared.under_way.Progress.{Progress}
use Rattle.host_requests.specs.declared.under_way.Progress.TheVariants.{Submitted}
use Rattle.host_requests.specs.declared.under_way.UnderWay.{UnderWay}
use Rattle.proof_serial.specs.host_model.declared.out.HostOut.{HostOut}
use Rattle.proof_serial.specs.host_model.declared.out.HostOut.TheVariants.{Write, Note}
use Rattle.proof_serial.specs.host_model.State.{HostState}
use Rattle.proof_serial.specs.host_model.Events.{HostEvent}
use Rattle.proof_serial.specs.host_model.Did.{after_all, outs_all}
use Rattle.proof_traffic.specs.Requests.{Word, Send, Abort, Other, Pending, Traffic, Step}
use Rattle.proof_traffic.specs.Requests as course

-- what a request with this function asks for
abbrev pub word_of : ℕ → Word
word_of function = if function == SEND_DATA then Send else (if function == SEND_DATA_ABORT then Abort else Other)

-- the word of a unit, where it is a frame, and those of what a host writes
abbrev pub words_in : LineUnit → List Word
words_in Ack = []
words_in Nak = []
words_in Can = []
words_in (Framed f) = word_of f.func ∷ []

abbrev pub words_put : HostOut → List Word
words_put (Write unit) = words_in unit
words_put (Note entry) = []

abbrev pub words_out : List HostOut → List Word
words_out outs = flat_map words_put outs

-- the frame of the host's own
abbrev pub word_on : Turn → Option Word
word_on Idle = None
word_on (Copied f copies ticks) = Some (word_of f.func)
word_on (Paused f copies ticks) = Some (word_of f.func)

-- the request under way
abbrev pub pending_of : Option UnderWay → Option Pending
pending_of None = None
pending_of (Some u) = Some (record { word = word_of (function_of u.purpose); answered = is_answered u.progress })

-- an abort that is under way is never acknowledged nor answered; while a request is under way, no abort is owed
abbrev pub IsPlain : Purpose → Progress → Type 0
IsPlain of_abort progress = progress ≡ Submitted
IsPlain (Housekeeping task) progress = Unit {0}
IsPlain (Attempt n more payload) progress = Unit {0}

abbrev pub InOrder : Option UnderWay → Bool → Type 0
InOrder None owes = Unit {0}
InOrder (Some u) owes = (owes ≡ false) × IsPlain u.purpose u.progress

-- the course knows the host's own frame, its request under way, and whether it owes an abort
pub record Knows (t : Traffic) (h : HostState) : Type 0 where
  pub link : t.link ≡ word_on h.side.turn
  pub pending : t.pending ≡ pending_of h.requests.under_way
  pub owes : t.owes ≡ h.requests.owes
  pub order : InOrder h.requests.under_way h.requests.owes

-- these steps of the course write these words, and change nothing of the chip's
pub record Writes (old new : Traffic) (words : List Word) : Type 0 where
  pub up : new.up ≡ old.up ++ words
  pub aborted : new.aborted ≡ old.aborted
  pub sending : new.sending ≡ old.sending
  pub calls : new.calls ≡ old.calls

-- these events of a host are steps of the course, which knows the host still
pub record Goes (t : Traffic) (h : HostState) (events : List HostEvent) : Type 0 where
  pub steps : List Step
  pub may : course.MayAll t steps
  pub knows : Knows (course.after_all t steps) (after_all h events)
  pub writes : Writes t (course.after_all t steps) (words_out (outs_all h events))
