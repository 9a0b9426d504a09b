-- What lines ask of the host is plain where the orders are.
use Rattle.std.proofs.Common.{◌≡◌, ℕ, ◌≤◌, List, [], ◌∷◌, Ok, Some, arith}
use Rattle.std.specs.List.{AllByRecursion}
use Rattle.zw_base.specs.declared.order.What.{What}
use Rattle.zw_base.specs.declared.order.What.TheVariants.{Value, Mode, Setpoint, Config, Bulk, Associate, Dissociate, Interval, Comfort}
use Rattle.zw_text.specs.declared.line.Line.{Line}
use Rattle.zw_text.specs.declared.line.Line.TheVariants.{Command, Get}
use Rattle.zw_text.specs.Line.{EndStands, LineWords, line_at}
use Rattle.zw_text.proofs.TextLaws.{line_takes}
use Rattle.host_model.specs.Events.{HostEvent, Accepts, Queues, Requests_do, Finishes}
use Rattle.world_model.specs.Events.{Event, Host_does}
use Rattle.host_requests.specs.declared.task.Task.{Task}
use Rattle.host_requests.specs.declared.task.Task.TheVariants as task
use Rattle.host_requests.specs.Events.{RequestsEvent}
use Rattle.host_requests.specs.Events.RequestsEvent.{Pushes}
use Rattle.proof_once.specs.proof_messages.Others.{IsOther}
use Rattle.proof_course_plain.specs.Host.{IsOtherTask, PushesOther, AsksPlainly}
use Rattle.proof_course_plain.specs.HostGoing.{EndsNone}
use Rattle.proof_course_plain.specs.World.{IsPlainly, EndsByHearing, OrderPlain, OrdersPlain, NamesEnd, IsAskedTask, PushesNone, IsOfLine, ComesOfLine}

-- ---- a line that is read

end_near : (what : What) (end : ℕ) → EndStands what end → end ≤ 127
end_near (Value word) end is = is
end_near (Mode mode) end is = omega arith
end_near (Setpoint kind tenths) end is = omega arith
end_near (Config parameter value) end is = omega arith
end_near (Bulk offset values) end is = omega arith
end_near (Associate group member) end is = omega arith
end_near (Dissociate group member) end is = omega arith
end_near (Interval seconds) end is = omega arith
end_near (Comfort mode kind tenths) end is = omega arith

line_names : (line : Line) (words : List (List ℕ)) → LineWords line words → NamesEnd line
line_names (Command order) words (within, ends, more) = end_near order.what order.end ends
line_names (Get node end) words (within, near, are) = near
line_names _ words is = tt

pub text_names : (text : List ℕ) (line : Line) → line_at text ≡ Ok (Some line) → NamesEnd line
text_names text line is = let read = line_takes text (Some line) is in line_names line read.rest read.stands

-- ---- what the host does of itself or for a line

ends_none : (Near : Type 0) (Is : List ℕ → Type 0) (node : ℕ) (event : HostEvent) → IsOfLine Near Is node event → EndsNone node event
ends_none Near Is node (Finishes n session id command status wake_request) is = is
ends_none Near Is node event is = tt

other_task : (node : ℕ) (asked : Task) → IsAskedTask IsOther node asked → IsOtherTask node asked
other_task node (task.Plain n payload) is = is
other_task node (task.Segment n payload) is = is
other_task node asked is = tt

pub pushes_other : (Is : Task → Type 0) (event : RequestsEvent) → PushesNone event → PushesOther Is event
pushes_other Is (Pushes pushed) none = absurd none
pushes_other Is event none = tt

asks_plainly : (node : ℕ) (event : HostEvent) → IsOfLine (Unit {0}) IsOther node event → OrderPlain node event → AsksPlainly node event
asks_plainly node (Accepts order carriage) near plain = λ own. (plain own, near tt)
asks_plainly node (Queues queued) near plain = other_task node queued (near tt)
asks_plainly node (Requests_do event moment) is plain = pushes_other (IsOtherTask node) event is
asks_plainly node event is plain = tt

event_ends : (Near : Type 0) (Is : List ℕ → Type 0) (node : ℕ) (event : Event) → ComesOfLine Near Is node event → EndsByHearing node event
event_ends Near Is node (Host_does event) is = ends_none Near Is node event is
event_ends Near Is node event is = tt

event_plain : (node : ℕ) (event : Event) → ComesOfLine (Unit {0}) IsOther node event → OrdersPlain node event → IsPlainly node event
event_plain node (Host_does event) is plain = asks_plainly node event is plain
event_plain node event is plain = tt

pub events_end : (Near : Type 0) (Is : List ℕ → Type 0) (node : ℕ) (events : List Event) → AllByRecursion (ComesOfLine Near Is node) events → AllByRecursion (EndsByHearing node) events
events_end Near Is node [] all = tt
events_end Near Is node (event ∷ events) all = (event_ends Near Is node event all.0, events_end Near Is node events all.1)

pub events_plain : (node : ℕ) (events : List Event) → AllByRecursion (ComesOfLine (Unit {0}) IsOther node) events → AllByRecursion (OrdersPlain node) events → AllByRecursion (IsPlainly node) events
events_plain node [] all plain = tt
events_plain node (event ∷ events) all plain = (event_plain node event all.0 plain.0, events_plain node events all.1 plain.1)
