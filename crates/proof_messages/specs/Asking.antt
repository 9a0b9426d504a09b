-- What the message of a session asks of a device, and what the device makes of it (this project's own; the wraps are those of the Z-Wave
-- Transport-Encapsulation Command Class Specification).
use Rattle.std.specs.Prelude.{◌≡◌, ◌≢◌, ℕ, Bool, true, false, IsTrue, List, Result, Ok}
use Rattle.zw_base.specs.declared.property.Setting.{Setting}
use Rattle.zw_base.specs.declared.order.What.{What}
use Rattle.zw_base.specs.declared.order.What.TheVariants as what
use Rattle.zw_base.specs.declared.order.Order.{Order}
use Rattle.supervision.specs.declared.session.TheConstants.{WORKING}
use Rattle.supervision.specs.declared.device_book.Heard.{Heard}
use Rattle.supervision.specs.declared.device_book.Heard.TheVariants.{New, Again, Old}
use Rattle.class_core.specs.declared.fault.ClassFault.{ClassFault}
use Rattle.class_core.specs.Ranges.{is_node}
use Rattle.class_core.specs.declared.message.CoreMessage.{CoreMessage}
use Rattle.class_info.specs.declared.message.InfoMessage.{InfoMessage}
use Rattle.class_info.specs.declared.message.InfoMessage.TheVariants.{Core}
use Rattle.encap.specs.Layers.{seen_of}
use Rattle.encap.specs.Opening.{Message}
use Rattle.transport_segments.specs.Kept.{Empty}
use Rattle.host_orders.specs.Messages.{commands_of, is_batch}
use Rattle.host_orders.specs.Wrapping.{plan_of}
use Rattle.host_orders.specs.declared.carriage.Carriage.{Carriage}
use Rattle.device_kinds.specs.declared.kind.Kind.{Kind}
use Rattle.device_kinds.specs.declared.kind.Kind.TheVariants.{Relay, Switch, Dimmer, Lock, Sensor, Thermostat, Strip, Configurable}
use Rattle.device_kinds.specs.declared.verdict.Verdict.{Verdict}
use Rattle.device_kinds.specs.declared.verdict.Verdict.TheVariants.{NoSupport, Fails, Makes, Works}
use Rattle.device_sim.specs.device_stack.declared.work.Work.{Work}
use Rattle.device_sim.specs.device_stack.State.{State, value_of, last_level_of}
use Rattle.device_kinds.specs.Judging.{judged_message, status_of}
use Rattle.device_sim.specs.Laws.{IsMade}

-- ---- what is in it

-- the message of a session as it is opened: its wraps, but those that other crates take off, and the commands of the order
abbrev pub message_in : Carriage → Order → ℕ → Message
message_in carriage order session = record { plan = seen_of (plan_of carriage order session); commands = commands_of carriage.actuator order.what }

-- what is read where a message is spelled
abbrev pub read_as : CoreMessage → Result InfoMessage ClassFault
read_as message = Ok (Core message)

-- the member that an order names is a node
abbrev pub NamesNode : What → Type 0
NamesNode (what.Associate group member) = IsTrue (is_node member)
NamesNode (what.Dissociate group member) = IsTrue (is_node member)
NamesNode _ = Unit {0}

-- ---- who hears it

-- the kinds that know Supervision, and take what is not sealed
abbrev pub takes_openly : Kind → Bool
takes_openly Relay = false
takes_openly Switch = true
takes_openly Dimmer = true
takes_openly Lock = false
takes_openly Sensor = true
takes_openly Thermostat = true
takes_openly Strip = true
takes_openly Configurable = true

-- ---- what it makes of a device

-- what the commands of an order come to at a device
abbrev pub verdict_on : State → Carriage → Order → Verdict
verdict_on device carriage order =
    judged_message device.kind (value_of device) (last_level_of device) order.end (is_batch order.what) (commands_of carriage.actuator order.what)

-- the settings that are made, at once or by work that takes time, are these
abbrev pub MakesOnly : List Setting → Verdict → Type 0
MakesOnly settings (Makes made) = made ≡ settings
MakesOnly settings (Works made) = made ≡ settings
MakesOnly settings Fails = Unit {0}
MakesOnly settings NoSupport = Unit {0}

-- the work that a device is at after a verdict: a new one, or the one before
abbrev pub IsAtWork : Work → Work → Verdict → Type 0
IsAtWork old new (Works settings) = new.settings ≡ settings
IsAtWork old new (Makes settings) = new ≡ old
IsAtWork old new Fails = new ≡ old
IsAtWork old new NoSupport = new ≡ old

-- the device took the next session, of that number and with that verdict: it was not at work, it keeps the status, it made the one change of
-- that session or began its work or did neither, and nothing of a datagram is kept
pub record HasTaken (old new : State) (session : ℕ) (verdict : Verdict) : Type 0 where
  pub free : old.sessions.status ≢ WORKING
  pub sessions : new.sessions ≡ record { taken = session; status = status_of verdict }
  pub made : IsMade session old.journal new.journal old.work_left new.work_left verdict
  pub work : IsAtWork old.work new.work verdict
  pub empty : new.reassembly ≡ Empty

-- nothing of sessions changed, no change was made, and no work
pub record IsUntouched (old new : State) : Type 0 where
  pub journal : new.journal ≡ old.journal
  pub sessions : new.sessions ≡ old.sessions
  pub work_left : new.work_left ≡ old.work_left
  pub work : new.work ≡ old.work

-- and what is kept of a datagram neither
abbrev pub IsLeft : State → State → Type 0
IsLeft old new = IsUntouched old new × (new.reassembly ≡ old.reassembly)

-- a device after a message, by what its id is for it: the next session is taken, and no other message does anything
abbrev pub Follows : State → State → Verdict → Heard → Type 0
Follows old new verdict (New session) = HasTaken old new session verdict
Follows old new verdict (Again status) = IsLeft old new
Follows old new verdict Old = IsLeft old new
