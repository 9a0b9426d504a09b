-- By what a host alone goes (this project's own rule): where it judges a frame, what its node wants by the messages that are heeded is what the host puts into its queue behind it.
use Rattle.std.specs.Prelude.{◌≡◌, ℕ, ◌==◌, Bool, true, false, if◌then◌else◌, Option, Some, None, List, [], ◌∷◌, ◌++◌, length, Result, Ok}
use Rattle.std.proofs.Common.{inl, inr}
use Rattle.serial_frame.specs.Items.{unit_text}
use Rattle.serial_frame.specs.declared.frame.Kind.{Kind}
use Rattle.serial_frame.specs.declared.frame.Kind.TheVariants as kind
use Rattle.serial_frame.specs.declared.item.Item.TheVariants.{Good}
use Rattle.serial_frame.specs.declared.unit.Unit.TheVariants.{Ack, Framed}
use Rattle.chip_functions.specs.Notice.{notice_of}
use Rattle.chip_functions.specs.declared.fault.BodyFault.{BodyFault}
use Rattle.chip_functions.specs.declared.notice.Notice.{Notice}
use Rattle.chip_functions.specs.declared.notice.Notice.TheVariants.{ApplicationCommandHandler}
use Rattle.zw_words.specs.declared.side.Side.TheVariants.{Host}
use Rattle.zw_text.specs.declared.entry.Entry.{Entry}
use Rattle.zw_text.specs.declared.entry.Entry.TheVariants as entry
use Rattle.s0_session.specs.Nonces.{live_of}
use Rattle.host_heard.specs.Telling.{heard_at}
use Rattle.host_heard.specs.declared.payload.Heard.{Heard}
use Rattle.host_heard.specs.declared.payload.Heard.TheVariants.{Messages, Sealed, Unread}
use Rattle.host_heard.specs.declared.told.Told.{Told}
use Rattle.law_transcript.specs.Units.{Carried}
use Rattle.law_time.specs.Heeds.{Heeds}
use Rattle.law_time.specs.Queue.{Queue, with_all_brought}
use Rattle.host_model.specs.State.{HostState}
use Rattle.host_model.specs.Events.{HostEvent, Gives, Hears, Offers, Resends, Spends, Takes_nonce, Works}
use Rattle.host_model.specs.Taking.{AreTaken, FrameEvents, IsOpened, NoticeEvents, PayloadEvents, SealedEvents, named_by}
use Rattle.host_model.specs.After.{after}
use Rattle.host_model.specs.Did.{after_all}
use Rattle.proof_attempts.specs.proof_requests.proof_alone.State.{HostMachine}
use Rattle.proof_attempts.specs.proof_requests.proof_alone.Steps.{Step, Judges}
use Rattle.proof_attempts.specs.proof_requests.proof_alone.Phases.{Phase}
use Rattle.proof_attempts.specs.proof_requests.proof_alone.Runs.{Run}
use Rattle.proof_attempts.specs.proof_requests.proof_alone.Runs.Run.{Begins, Turned, Stepped}
use Rattle.proof_queue.specs.Waiting.{Waits, dropped_by}

-- what is wanted up to an acknowledgement is what these events put into the queue
abbrev pub PutsSo : Heeds → List Entry → HostState → List HostEvent → Type 0
PutsSo heeds past h behind =
    (queue : Queue) → Waits queue h.requests.queue [] → Waits (with_all_brought heeds past [] queue) (after_all h behind).requests.queue (dropped_by h behind)

-- so it is at a step
abbrev pub HeedsSo : Heeds → List Entry → HostMachine → Step → Type 0
HeedsSo heeds past m (Judges (Good (Framed f)) rest behind told) =
    PutsSo heeds (past ++ entry.Written Host (unit_text Ack) ∷ []) (after m.state (Hears (Good (Framed f)))) behind
HeedsSo heeds past m step = Unit {0}

-- and at each step of a run
abbrev pub AllSteps : (List Entry → HostMachine → Step → Type 0) → {start : HostMachine} {here : Phase} {told : List Entry} {m : HostMachine} → Run start here told m → Type 0
AllSteps Sure Begins = Unit {0}
AllSteps Sure (Turned turns run) = AllSteps Sure run
AllSteps Sure (Stepped {told = told} {m = m} step may all_is later_is run) = AllSteps Sure run × Sure told m step

-- ---- what is heeded

-- the message by which the host puts something into its queue, takes a nonce, or goes on waiting for a report
abbrev pub taken_up : List HostEvent → Told → List Told
taken_up (Offers n ∷ more) message = message ∷ []
taken_up (Gives n drawn ∷ more) message = message ∷ []
taken_up (Resends n payload ∷ more) message = message ∷ []
taken_up (Works n id ∷ more) message = message ∷ []
taken_up (Takes_nonce n seen text ∷ more) message = message ∷ []
taken_up events message = []

-- so of several messages
abbrev pub heeded_of : (h : HostState) (n : ℕ) (payload : List ℕ) (sealed : Bool) (messages : List Told) (events : List HostEvent) → AreTaken h n payload sealed messages events → List Told
heeded_of h n payload sealed [] events is = []
heeded_of h n payload sealed (message ∷ more) events (first, rest, are, taken, others) = taken_up first message ++ heeded_of (after_all h first) n payload sealed more rest others

-- of a payload, which what is sealed opens to
abbrev pub heeded_opened : (h : HostState) (n : ℕ) (nonce payload : List ℕ) (events : List HostEvent) → IsOpened h n nonce payload events → List Told
heeded_opened h n nonce payload events (inl is) = []
heeded_opened h n nonce payload events (inr (inl vain)) = []
heeded_opened h n nonce payload events (inr (inr (messages, rest, opens, are, taken))) = heeded_of (after h (Spends n)) n payload true messages rest taken

abbrev pub heeded_sealed : (h : HostState) (n : ℕ) (payload : List ℕ) (nonce : Option (List ℕ)) (events : List HostEvent) → SealedEvents h n payload nonce events → List Told
heeded_sealed h n payload None events is = []
heeded_sealed h n payload (Some nonce) events is = heeded_opened h n nonce payload events is

abbrev pub heeded_payload : (h : HostState) (n : ℕ) (payload : List ℕ) (heard : Heard) (events : List HostEvent) → PayloadEvents h n payload heard events → List Told
heeded_payload h n payload (Messages messages) events is = heeded_of h n payload false messages events is
heeded_payload h n payload Sealed events is = heeded_sealed h n payload (named_by payload (live_of h.nonces n)) events is
heeded_payload h n payload Unread events is = []

-- and of a frame: what the payload of a node tells
abbrev pub heeded_notice : (h : HostState) (read : Result Notice BodyFault) (events : List HostEvent) → NoticeEvents h read events → List Told
heeded_notice h (Ok (ApplicationCommandHandler rx_status source payload)) events is = heeded_payload h source payload (heard_at payload) events is
heeded_notice h read events is = []

abbrev pub heeded_frame : (h : HostState) (k : Kind) (function : ℕ) (body : List ℕ) (events : List HostEvent) → FrameEvents h k function body events → List Told
heeded_frame h kind.Response function body events is = []
heeded_frame h kind.Request function body events is = heeded_notice h (notice_of function body) events is

-- the messages that are heeded up to an acknowledgement are those by which the host does something behind it
abbrev pub HeedsAs : Heeds → List Entry → HostMachine → Step → Type 0
HeedsAs heeds past m (Judges (Good (Framed f)) rest behind told) =
    (is : FrameEvents (after m.state (Hears (Good (Framed f)))) f.kind f.func f.body behind)
    × ((carried : Carried) → heeds.taken (past ++ entry.Written Host (unit_text Ack) ∷ []) [] carried ≡ heeded_frame (after m.state (Hears (Good (Framed f)))) f.kind f.func f.body behind is)
HeedsAs heeds past m step = Unit {0}

-- ---- what is chosen

-- these messages after this past, and those as before else
abbrev pub heeding_at : (past : List Entry) (messages : List Told) → (List Entry → Carried → List Told) → List Entry → Carried → List Told
heeding_at past messages taken other carried = if length other == length past then messages else taken other carried
