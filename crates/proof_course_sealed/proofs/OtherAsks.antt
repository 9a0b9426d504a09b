-- What lines ask of the host beside orders is no message of a session and no nonce, and the orders name end points of at most 127; and what it hears it hears in its pipe.
use Rattle.std.proofs.Common.{ℕ, ◌≤◌, List, [], ◌∷◌}
use Rattle.std.specs.List.{AllByRecursion}
use Rattle.zw_base.specs.declared.order.Word.{Word}
use Rattle.zw_text.specs.declared.line.Line.{Line}
use Rattle.host_orders.specs.Errands.{send_text, get_text}
use Rattle.host_requests.specs.declared.task.Task.{Task}
use Rattle.host_requests.specs.declared.task.Task.TheVariants as task
use Rattle.host_model.specs.Events.{HostEvent, Accepts, Queues, Requests_do, Finishes, Offers, Gives, Spends, Spends_unread, Takes_nonce, Resends}
use Rattle.world_model.specs.State.{Machine}
use Rattle.world_model.specs.Events.{Event, Host_does}
use Rattle.proof_course_plain.specs.proof_serial.Line.{AreLines}
use Rattle.proof_course_plain.specs.World.{NamesEnd, IsAskedTask, IsOfLine, ComesOfLine}
use Rattle.proof_course_plain.proofs.HeardPayloads.{lines_end}
use Rattle.proof_course_sealed.specs.Meaning.{IsNeither}
use Rattle.proof_course_plain.proofs.PlainOrders.{pushes_other}
use Rattle.proof_course_sealed.specs.Host.{IsOtherTask, AsksFitly}
use Rattle.proof_course_sealed.specs.HostGoing.{IsUnheard}
use Rattle.proof_course_sealed.specs.World.{IsFitly, HearsInPipe}

-- ---- one event

of_line_unheard : (Near : Type 0) (Is : List ℕ → Type 0) (node : ℕ) (event : HostEvent) → IsOfLine Near Is node event → IsUnheard node event
of_line_unheard Near Is node (Finishes n session id command status wake_request) is = is
of_line_unheard Near Is node (Offers n) is = is
of_line_unheard Near Is node (Gives n drawn) is = is
of_line_unheard Near Is node (Spends n) is = is
of_line_unheard Near Is node (Spends_unread n payload) is = is
of_line_unheard Near Is node (Takes_nonce n seen text) is = is
of_line_unheard Near Is node (Resends n payload) is = is
of_line_unheard Near Is node event is = tt

other_task : (node : ℕ) (asked : Task) → IsAskedTask IsNeither node asked → IsOtherTask node asked
other_task node (task.Plain n payload) is = is
other_task node (task.Offer n nonce) is = is
other_task node (task.Segment n payload) is = is
other_task node asked is = tt

asks_fitly : (node : ℕ) (event : HostEvent) → IsOfLine (Unit {0}) IsNeither node event → AsksFitly node event
asks_fitly node (Accepts order carriage) near = λ own. near tt
asks_fitly node (Queues queued) near = other_task node queued (near tt)
asks_fitly node (Requests_do event moment) is = pushes_other (IsOtherTask node) event is
asks_fitly node event is = tt

event_hears : (Near : Type 0) (Is : List ℕ → Type 0) (node : ℕ) (event : Event) → ComesOfLine Near Is node event → HearsInPipe node event
event_hears Near Is node (Host_does event) is = of_line_unheard Near Is node event is
event_hears Near Is node event is = tt

event_fitly : (node : ℕ) (event : Event) → ComesOfLine (Unit {0}) IsNeither node event → IsFitly node event
event_fitly node (Host_does event) is = asks_fitly node event is
event_fitly node event is = tt

-- ---- all of them

events_hear : (Near : Type 0) (Is : List ℕ → Type 0) (node : ℕ) (events : List Event) → AllByRecursion (ComesOfLine Near Is node) events → AllByRecursion (HearsInPipe node) events
events_hear Near Is node [] all = tt
events_hear Near Is node (event ∷ events) all = (event_hears Near Is node event all.0, events_hear Near Is node events all.1)

events_fitly : (node : ℕ) (events : List Event) → AllByRecursion (ComesOfLine (Unit {0}) IsNeither node) events → AllByRecursion (IsFitly node) events
events_fitly node [] all = tt
events_fitly node (event ∷ events) all = (event_fitly node event all.0, events_fitly node events all.1)

module _ (sends : (classes : List ℕ) (word : Word) → IsNeither (send_text classes word)) (gets : (classes : List ℕ) (end : ℕ) → end ≤ 127 → IsNeither (get_text classes end)) (node : ℕ) where
  pub lines_hear : (lines : List Line) (m : Machine) (events : List Event) → AreLines lines m events → AllByRecursion (HearsInPipe node) events
  lines_hear lines m events are = events_hear ⊥ IsNeither node events (lines_end ⊥ IsNeither sends gets node lines (λ none. absurd none) m events are)

  pub lines_fitly : (lines : List Line) (m : Machine) (events : List Event) → AllByRecursion NamesEnd lines → AreLines lines m events → AllByRecursion (IsFitly node) events
  lines_fitly lines m events names are = events_fitly node events (lines_end (Unit {0}) IsNeither sends gets node lines (λ near. names) m events are)
