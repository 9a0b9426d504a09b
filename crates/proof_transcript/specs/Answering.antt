-- How lines are answered (this project's own): what is tied to the transcript where a line begins, and what is known at each phase of it.
use Rattle.std.specs.Prelude.{◌≡◌, ◌⊎◌, ℕ, ◌==◌, ◌&&◌, Bool, true, false, List, [], ◌∷◌, length, Contains}
use Rattle.std.specs.List.{AllByRecursion, list_any}
use Rattle.zw_base.specs.declared.order.Order.{Order}
use Rattle.air_frames.specs.Ages.{refusal_of as repeat_refusal}
use Rattle.device_sim.specs.State.{State}
use Rattle.proof_air.specs.mesh_sim.Fates.{place_of}
use Rattle.host_orders.specs.Refusals.{refusal_of}
use Rattle.zw_text.specs.declared.line.Line.{Line}
use Rattle.zw_text.specs.declared.line.Line.TheVariants as lines
use Rattle.zw_text.specs.declared.entry.Entry.{Entry}
use Rattle.zw_text.specs.declared.entry.Entry.TheVariants.{Said, Accepted, Refused}
use Rattle.zw_text.specs.Transcript.{accepted_numbers, line_last, outcome}
use Rattle.law_host.specs.law_transcript.Answers.{IsNoBadRecord, MayAnswer, before_last, known_of, properties_with, refused_without, refusals_to}
use Rattle.law_host.specs.law_transcript.Commands.{is_waiting}
use Rattle.law_host.specs.law_transcript.Nodes.{device_of, listing_of, always}
use Rattle.law_host.specs.law_transcript.Repeats.{frame_of, refused_repeat}
use Rattle.proof_air.specs.host_model.State.{HostState, node_of}
use Rattle.proof_air.specs.host_model.After.{node_for}
use Rattle.host_requests.specs.declared.task.Task.TheVariants as task
use Rattle.proof_air.specs.host_model.Events.{Queues}
use Rattle.proof_air.specs.host_model.May.{known_of as known_of_host}
use Rattle.proof_air.specs.host_model.Asking.{places_refusal, refusal_for, Waits}
use Rattle.proof_air.specs.outside_model.Events.{Discovers}
use Rattle.proof_air.specs.outside_model.Results.{device_at}
use Rattle.proof_air.specs.world_model.State.{Machine}
use Rattle.proof_air.specs.world_model.Events.{Event, Outside_does, happens, entries}
use Rattle.proof_air.specs.world_model.Refusals.{HasBad}
use Rattle.proof_air.specs.world_model.Lines.{Asks, IsEffect}
use Rattle.proof_air.specs.proof_walk.ByLine.{KnownOf, by_line, Asked, begun, Opened}
use Rattle.proof_air.specs.proof_walk.Phases.{Phase}

-- ---- entries

-- an entry that is neither a line nor an answer
abbrev pub IsFree : Entry → Type 0
IsFree (Said words) = ⊥
IsFree (Accepted command node) = ⊥
IsFree (Refused refusal) = ⊥
IsFree _ = Unit {0}

abbrev pub AreFree : List Entry → Type 0
AreFree told = AllByRecursion IsFree told

-- an event that enters only such
abbrev pub IsFreeEvent : Event → Type 0
IsFreeEvent event = (m : Machine) → AreFree (entries m event)

-- ---- what is tied to the transcript

-- a command was accepted, and waits
abbrev pub may_be_taken_back : List Entry → ℕ → Bool
may_be_taken_back past command = list_any (λ number. number == command) (accepted_numbers past) && is_waiting (outcome command past)

-- What decides the answer of a host to a line, as the transcript so far shows it: the rule that refuses an order, and what the host knows of its node; the next
-- number; and the commands that wait.
pub record HostTies (listing : List Entry → ℕ → List ℕ) (past : List Entry) (h : HostState) : Type 0 where
  pub order : (order : Order) → refusal_of (known_of listing past order.node) (properties_with listing past order) order ≡ refusal_for h order
  pub known : (node : ℕ) → known_of listing past node ≡ known_of_host (node_of h node)
  pub count : length (accepted_numbers past) ≡ length h.commands
  pub waits : (command : ℕ) → Contains (node_of h (node_for h command)).waiting command → may_be_taken_back past command ≡ true
  pub waits_not : (command : ℕ) → (Waits h command → ⊥) → may_be_taken_back past command ≡ false

-- the same of the machine; why a frame is not repeated; which nodes have a device; and that no record is invalid
pub record AnswerTies (devices : List State) (past : List Entry) (m : Machine) : Type 0 where
  pub host : HostTies (always (listing_of devices)) past m.host.state
  pub repeats : (number : ℕ) → refused_repeat past (frame_of past number) ≡ repeat_refusal m.outside.outer.air.frames number
  pub sound : (at : ℕ) → HasBad m.records at → ⊥
  pub absent : (node : ℕ) → refused_without (device_of node devices) ≡ refused_without (device_at m.outside.devices (place_of node m.outside.devices))

-- ---- what is known in a line

-- a line after which this stands has its answer, or needs none
abbrev pub IsAnswered : (List Entry → Line → List Entry) → List Entry → List Line → Type 0
IsAnswered refusals before [] = Unit {0}
IsAnswered refusals before (lines.Command order ∷ more) = ⊥
IsAnswered refusals before (lines.Cancel command ∷ more) = ⊥
IsAnswered refusals before (line ∷ more) = refusals before line ≡ []

abbrev pub Answered : List State → KnownOf
Answered devices past m = IsAnswered (refusals_to devices) (before_last past) (line_last past)

-- the chip's table was made anew, and the members are still to be asked for
pub record AwaitsMembers (devices : List State) (line : Line) (left : List Event) (past : List Entry) (m : Machine) : Type 0 where
  pub first : Machine
  pub asked : Asked (AnswerTies devices) line past first
  pub line_is : line ≡ lines.Discover
  pub is : m ≡ happens (begun first) (Outside_does Discovers)
  pub asks : Asks (places_refusal first.host.state 1) lines.Discover (Queues task.Members) left

-- its effect is to come; or it was answered, and what is left of it answers nothing
abbrev pub AwaitsAnswer : List State → Line → List Event → KnownOf
AwaitsAnswer devices line left past m =
    (Opened (AnswerTies devices) line past m × IsEffect line m left) ⊎ (AwaitsMembers devices line left past m ⊎ (Answered devices past m × AllByRecursion IsFreeEvent left))

-- at each phase of a line
abbrev pub KnowsAnswers : List State → Phase → List Entry → Machine → Type 0
KnowsAnswers devices here past m = by_line (Asked (AnswerTies devices)) (Opened (AnswerTies devices)) (AwaitsAnswer devices) (Answered devices) here past m

-- each entry is an answer exactly where it must be one, and refuses no restart for an invalid record
abbrev pub IsAnswerOf : List State → List Entry → Entry → Type 0
IsAnswerOf devices past entry = MayAnswer (always (listing_of devices)) (refusals_to devices) past entry × IsNoBadRecord entry
