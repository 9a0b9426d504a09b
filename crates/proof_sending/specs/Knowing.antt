-- What is known, at each phase of a line, of what the host has to send (this project's own rule): it is due by what the transcript shows so far, but between the words of a line and
-- the end of its effect by what stood before the words.
use Rattle.proof_air.specs.law_transcript.Nodes.{always}
use Rattle.std.specs.Prelude.{◌≡◌, ◌⊎◌, ℕ, List, [], ◌∷◌, ◌++◌}
use Rattle.std.specs.List.{AllByRecursion}
use Rattle.s0_crypto.specs.Sealing.{keys_of}
use Rattle.zw_base.specs.declared.order.Order.{Order}
use Rattle.zw_text.specs.declared.line.Line.{Line}
use Rattle.zw_text.specs.declared.line.Line.TheVariants as lines
use Rattle.zw_text.specs.declared.entry.Entry.{Entry}
use Rattle.zw_text.specs.declared.entry.Entry.TheVariants.{Said}
use Rattle.zw_text.specs.Transcript.{line_of}
use Rattle.proof_air.specs.law_transcript.Payloads.{IsAskedFor}
use Rattle.host_orders.specs.declared.carriage.Carriage.{Carriage}
use Rattle.host_requests.specs.declared.task.Task.{Task}
use Rattle.host_requests.specs.declared.task.Task.TheVariants.{Plain, Offer, Segment}
use Rattle.host_model.specs.Events.{HostEvent, Accepts, Cancels, Joins, Queues, Queues_interview, Queues_probe, IsOwn}
use Rattle.proof_air.specs.world_model.State.{Machine}
use Rattle.proof_air.specs.world_model.Events.{Event, Outside_does, Host_does, Host_takes, Decoder_ticks}
use Rattle.proof_line.specs.proof_host.Facts.{Facts}
use Rattle.proof_spoken.specs.Said.{AreSaid, KnowsListing, Tells}
use Rattle.proof_air.specs.proof_walk.ByLine.{IsOfTick, begun}
use Rattle.proof_air.specs.proof_walk.Phases.{Phase, Said_line, Begun, Doing, Ticking_host}
use Rattle.proof_line.specs.Restarts.{KeepsWell, StartsWell}
use Rattle.proof_sending.specs.Reasons.{IsReasoned}
use Rattle.proof_sending.specs.Due.{IsShown}
use Rattle.proof_sending.specs.Arriving.{ArrivesSo, BringsMore}

-- ---- events

-- a task that no reason is needed for
abbrev pub NeedsNone : Task → Type 0
NeedsNone (Plain node payload) = ⊥
NeedsNone (Offer node nonce) = ⊥
NeedsNone (Segment node payload) = ⊥
NeedsNone task = Unit {0}

-- what a line may ask of the host with no reason for a payload, and no order
abbrev pub RestsHost : HostEvent → Type 0
RestsHost (Cancels command) = Unit {0}
RestsHost (Joins node) = Unit {0}
RestsHost (Queues task) = NeedsNone task
RestsHost (Queues_interview node) = Unit {0}
RestsHost Queues_probe = Unit {0}
RestsHost event = ⊥

-- an event of the effect of a line that is so
abbrev pub IsRest : Event → Type 0
IsRest (Host_does event) = RestsHost event
IsRest (Host_takes count rest items events) = ⊥
IsRest Decoder_ticks = ⊥
IsRest event = Unit {0}

-- an event that is no line's own
abbrev pub IsMine : Event → Type 0
IsMine (Outside_does event) = IsOfTick event
IsMine (Host_does event) = IsOwn event
IsMine (Host_takes count rest items events) = Unit {0}
IsMine Decoder_ticks = Unit {0}
IsMine event = ⊥

-- what holds of all events of lines: a host that starts again has what the one before it recorded, and interviews tell what nodes list
abbrev pub IsWell : (ℕ → List ℕ) → Machine → Event → Type 0
IsWell listing m event = (StartsWell m event × KeepsWell m event) × Tells listing m event

-- ---- the host

-- the host keeps to the transcript
pub record Grounded (listing : ℕ → List ℕ) (past : List Entry) (m : Machine) : Type 0 where
  pub facts : Facts past m.host.state
  pub knows : KnowsListing (always listing) past m.host.state
  pub said : AreSaid (always listing) m.host.state.commands past
  pub arrives : ArrivesSo past

-- and all that it has to send is due
pub record IsSound (listing : ℕ → List ℕ) (key : List ℕ) (past : List Entry) (m : Machine) : Type 0 where
  pub ground : Grounded listing past m
  pub keys : m.keys ≡ keys_of key
  pub reasoned : IsReasoned (IsShown (always listing) key past) (keys_of key) m.host.state

-- the words of a line are the last entry: it is due by what stands before them
pub record Saying (listing : ℕ → List ℕ) (key : List ℕ) (line : Line) (past : List Entry) (m : Machine) : Type 0 where
  pub before : List Entry
  pub words : List ℕ
  pub is : past ≡ before ++ Said words ∷ []
  pub read : line_of (Said words) ≡ line ∷ []
  pub knew : KnowsListing (always listing) before m.host.state
  pub ground : Grounded listing past m
  pub keys : m.keys ≡ keys_of key
  pub reasoned : IsReasoned (IsShown (always listing) key before) (keys_of key) m.host.state

-- the line has begun
abbrev pub Opened : (ℕ → List ℕ) → List ℕ → Line → List Entry → Machine → Type 0
Opened listing key line past m = (first : Machine) × Saying listing key line past first × (m ≡ begun first)

-- ---- the effect of a line

-- what is left of it needs no reason
pub record Resting (listing : ℕ → List ℕ) (key : List ℕ) (left : List Event) (past : List Entry) (m : Machine) : Type 0 where
  pub before : List Entry
  pub words : List ℕ
  pub told : List Entry
  pub is : past ≡ before ++ Said words ∷ told
  pub ground : Grounded listing past m
  pub keys : m.keys ≡ keys_of key
  pub grows : BringsMore before past
  pub reasoned : IsReasoned (IsShown (always listing) key before) (keys_of key) m.host.state
  pub rests : AllByRecursion IsRest left

-- it is that an order is accepted
pub record Ordering (listing : ℕ → List ℕ) (key : List ℕ) (left : List Event) (past : List Entry) (m : Machine) : Type 0 where
  pub order : Order
  pub carriage : Carriage
  pub opened : Opened listing key (lines.Command order) past m
  pub are : left ≡ Host_does (Accepts order carriage) ∷ []

-- it is that a Set or a Get waits, which was asked for
pub record Asking (listing : ℕ → List ℕ) (key : List ℕ) (left : List Event) (past : List Entry) (m : Machine) : Type 0 where
  pub node : ℕ
  pub payload : List ℕ
  pub sound : IsSound listing key past m
  pub asked : IsAskedFor (always listing) past (record { node = node; payload = payload })
  pub are : left ≡ Host_does (Queues (Plain node payload)) ∷ []

abbrev pub Left : (ℕ → List ℕ) → List ℕ → List Event → List Entry → Machine → Type 0
Left listing key left past m =
    Resting listing key left past m ⊎ (Ordering listing key left past m ⊎ (Asking listing key left past m ⊎ ((left ≡ []) × IsSound listing key past m)))

-- ---- at each phase

abbrev pub KnowSending : (ℕ → List ℕ) → List ℕ → Phase → List Entry → Machine → Type 0
KnowSending listing key (Said_line line) past m = Saying listing key line past m
KnowSending listing key (Begun line) past m = Opened listing key line past m
KnowSending listing key (Doing line left) past m = Left listing key left past m
KnowSending listing key (Ticking_host events ticks) past m = AllByRecursion IsOwn events × IsSound listing key past m
KnowSending listing key here past m = IsSound listing key past m
