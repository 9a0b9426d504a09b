-- What the host sends a lock unsealed leaves its sessions: a message of a session, a segment of one, and what is neither.
use Rattle.std.proofs.Common.{◌≡◌, ◌≢◌, ℕ, ◌*◌, ◌%◌, ◌<◌, ◌≤◌, true, false, List, length, ap, sym, ◌∙◌, subst}
use Rattle.zw_base.specs.declared.order.Order.{Order}
use Rattle.transport_segments.specs.Segment.{segment_text}
use Rattle.transport_segments.specs.Parts.{slice_at}
use Rattle.transport_segments.specs.Runs.{IsPart}
use Rattle.host_orders.specs.Refusals.{IsFit}
use Rattle.host_orders.specs.Wrapping.{message_of}
use Rattle.host_orders.specs.declared.carriage.Carriage.{Carriage}
use Rattle.device_kinds.specs.declared.kind.Kind.{Kind}
use Rattle.device_kinds.specs.declared.kind.Kind.TheVariants as kinds
use Rattle.device_kinds.specs.Kind.{lists}
use Rattle.device_sim.specs.State.{State}
use Rattle.device_sim.specs.Event.{Hears, device_after}
use Rattle.proof_messages.specs.Asking.{takes_openly, IsLeft}
use Rattle.proof_messages.specs.Others.{IsOther}
use Rattle.proof_messages.specs.Locks.{IsLock}
use Rattle.proof_course_sealed.specs.Meaning.{LeavesLocks}

-- a lock is of another kind than those that hear messages in segments
abbrev IsConfigurable : Kind → Type 0
IsConfigurable kinds.Configurable = Unit {0}
IsConfigurable kind = ⊥

not_configurable : (device : State) → IsLock device → device.kind ≢ kinds.Configurable
not_configurable device lock e = subst IsConfigurable (sym e ∙ lock.kind) tt

knows_supervision : (device : State) → IsLock device → lists device.kind 0x6C ≡ true
knows_supervision device lock = ap (λ (k : Kind). lists k 0x6C) lock.kind

pub others_leave : ((device : State) (payload drawn : List ℕ) → IsOther payload → lists device.kind 0x6C ≡ true → IsLeft device (device_after device (Hears payload drawn)))
    → (payload : List ℕ) → IsOther payload → LeavesLocks payload
others_leave left payload other device drawn lock = left device payload drawn other (knows_supervision device lock)

pub messages_leave : ((device : State) (drawn : List ℕ) (carriage : Carriage) (order : Order) (session : ℕ) → IsFit carriage.actuator order → order.end ≤ 127 → takes_openly device.kind ≡ false
    → IsLeft device (device_after device (Hears (message_of carriage order session) drawn)))
    → (carriage : Carriage) (order : Order) (session : ℕ) → IsFit carriage.actuator order → order.end ≤ 127 → LeavesLocks (message_of carriage order session)
messages_leave deaf carriage order session fit end device drawn lock = deaf device drawn carriage order session fit end (ap takes_openly lock.kind)

-- a message of this length has a segment there
pub record HasSegment (message : List ℕ) (place : ℕ) : Type 0 where
  pub some : 1 ≤ length message
  pub most : length message ≤ 512
  pub within : 39 * place < length message

pub segments_leave : ((message : List ℕ) (session place : ℕ) → 1 ≤ length message → length message ≤ 512 → 39 * place < length message
    → IsPart message (session % 16) (segment_text (session % 16) (length message) (39 * place) (slice_at message place)))
    → ((device : State) (message segment drawn : List ℕ) (session : ℕ) → device.kind ≢ kinds.Configurable → lists device.kind 0x6C ≡ true → IsPart message (session % 16) segment
    → IsLeft device (device_after device (Hears segment drawn)))
    → (message : List ℕ) (session place : ℕ) → HasSegment message place → LeavesLocks (segment_text (session % 16) (length message) (39 * place) (slice_at message place))
segments_leave part elsewhere message session place has device drawn lock =
    elsewhere device message (segment_text (session % 16) (length message) (39 * place) (slice_at message place)) drawn session (not_configurable device lock) (knows_supervision device lock)
    (part message session place has.some has.most has.within)
