-- Events of a host that leave the tasks that wait, and drop no message; and what a request that is submitted leaves of them.
use Rattle.std.proofs.Common.{◌≡◌, ℕ, ◌||◌, Bool, true, false, if◌then◌else◌, List, [], ◌∷◌, ◌++◌, map, refl, sym, ap, ◌∙◌, subst}
use Rattle.std.specs.Prelude.{bytes_eq, drop}
use Rattle.std.specs.List.{flat_map, list_any}
use Rattle.chip_functions.specs.declared.request.Request.{Request}
use Rattle.serial_link.specs.State.{Side, tick_side}
use Rattle.law_transcript.specs.Units.{request_in}
use Rattle.law_time.specs.Ends.{is_abort}
use Rattle.law_time.specs.Wants.{want_of}
use Rattle.host_requests.specs.Events.{RequestsEvent, end_at, task_begun}
use Rattle.host_requests.specs.Events.RequestsEvent.{Fails}
use Rattle.host_requests.specs.Frames.{request_of, task_request}
use Rattle.host_requests.specs.State.{RequestsState}
use Rattle.host_requests.specs.declared.task.Task.{Task}
use Rattle.host_requests.specs.declared.task.Task.TheVariants.{Plain, Offer, Segment, NoMore, First, Second, Members, Neighbours, IsFailed, Version, MemoryId, Capabilities}
use Rattle.host_node.specs.Events.NodeEvent.{Ticks as node_ticks}
use Rattle.host_node.specs.Steps.{tick_end}
use Rattle.host_node.specs.declared.attempt.Moment.{Moment}
use Rattle.host_node.specs.declared.attempt.Moment.TheVariants.{BeforeItsTick, BetweenTicks}
use Rattle.host_model.specs.State.{HostState, node_of}
use Rattle.host_model.specs.Sessions.{open_command}
use Rattle.host_model.specs.After.{after, failing_if, gives_up, line_ticked, node_does, requests_do, task_purpose}
use Rattle.host_model.specs.Did.{after_all}
use Rattle.host_model.specs.Events.{HostEvent, Line_ticks, Node_ticks, Requests_do}
use Rattle.host_model.specs.Outs.{outs}
use Rattle.host_model.specs.Taking.{told_if, told_requests}
use Rattle.proof_attempts.specs.proof_requests.Walking.{IsOfChip}
use Rattle.proof_attempts.proofs.Doing.{attempt_asks, end_if_asks}
use Rattle.proof_attempts.proofs.Queued.{told_queue}
use Rattle.proof_known.proofs.Followers.{bytes_same}
use Rattle.proof_queue.specs.Turn.{is_first_waiting}
use Rattle.proof_queue.specs.Waiting.{dropped_at, dropped_by, want_of_task}
use Rattle.proof_queue.proofs.Undropped.{ArePut, line_put, node_put, put_drops, request_put}

-- ---- one event

pub record IsStill (h : HostState) (event : HostEvent) : Type 0 where
  pub queue : (after h event).requests.queue ≡ h.requests.queue
  pub drops : flat_map dropped_at (outs h event) ≡ []

request_queue : (h : HostState) (event : RequestsEvent) (moment : Moment) → IsOfChip event → (after h (Requests_do event moment)).requests.queue ≡ h.requests.queue
request_queue h event moment is =
    ap (λ (p : Side × RequestsState). p.1.queue) (end_if_asks (requests_do h event) (end_at h.requests event) moment) ∙ told_queue h.requests event is

pub request_still : (h : HostState) (event : RequestsEvent) (moment : Moment) → IsOfChip event → IsStill h (Requests_do event moment)
request_still h event moment is = record { queue = request_queue h event moment is; drops = put_drops (outs h (Requests_do event moment)) (request_put h event moment) }

failing_queue : (b : Bool) (h : HostState) → (failing_if b h).requests.queue ≡ h.requests.queue
failing_queue true h = request_queue h Fails BeforeItsTick tt
failing_queue false h = refl

-- of a tick
abbrev pub IsTick : HostEvent → Type 0
IsTick Line_ticks = Unit {0}
IsTick (Requests_do event moment) = IsOfChip event
IsTick (Node_ticks n) = Unit {0}
IsTick event = ⊥

pub tick_still : (h : HostState) (event : HostEvent) → IsTick event → IsStill h event
tick_still h Line_ticks is = record { queue = failing_queue (gives_up h.side.turn (tick_side h.side).turn) (line_ticked h); drops = put_drops (outs h Line_ticks) (line_put h) }
tick_still h (Requests_do event moment) is = request_still h event moment is
tick_still h (Node_ticks n) is = record {
  queue = ap (λ (p : Side × RequestsState). p.1.queue) (attempt_asks (node_does h n node_ticks) (tick_end (node_of h n)) (open_command (node_of h n)));
  drops = put_drops (outs h (Node_ticks n)) (node_put h n);
}
tick_still h event is = absurd is

pub tick_put : (h : HostState) (event : HostEvent) → IsTick event → ArePut (outs h event)
tick_put h Line_ticks is = line_put h
tick_put h (Requests_do event moment) is = request_put h event moment
tick_put h (Node_ticks n) is = node_put h n
tick_put h event is = absurd is

-- ---- behind an item that is no frame

pub record AreStill (h : HostState) (events : List HostEvent) : Type 0 where
  pub queue : (after_all h events).requests.queue ≡ h.requests.queue
  pub drops : dropped_by h events ≡ []

pub none_still : (h : HostState) (events : List HostEvent) → events ≡ [] → AreStill h events
none_still h events is = subst (AreStill h) (sym is) (record { queue = refl; drops = refl })

pub told_still : (h : HostState) (event : RequestsEvent) → IsOfChip event → AreStill h (told_requests event)
told_still h event is =
    let still = request_still h event BetweenTicks is in record { queue = still.queue; drops = ap (λ (l : List ℕ). l ++ []) still.drops }

pub told_if_still : (h : HostState) (b : Bool) (event : RequestsEvent) (events : List HostEvent) → IsOfChip event → events ≡ told_if b event → AreStill h events
told_if_still h b event events is are = subst (AreStill h) (sym are) (by b)
  where
    by : (b : Bool) → AreStill h (told_if b event)
    by true = told_still h event is
    by false = record { queue = refl; drops = refl }

-- ---- a request that is submitted

task_no_abort : (task : Task) (id : ℕ) → is_abort (task_request task id) ≡ false
task_no_abort (Plain n payload) id = refl
task_no_abort (Offer n nonce) id = refl
task_no_abort (Segment n payload) id = refl
task_no_abort (NoMore n) id = refl
task_no_abort (First n) id = refl
task_no_abort (Second n) id = refl
task_no_abort Members id = refl
task_no_abort (Neighbours n) id = refl
task_no_abort (IsFailed n) id = refl
task_no_abort Version id = refl
task_no_abort MemoryId id = refl
task_no_abort Capabilities id = refl

-- an abort leaves all that wait, and any other request all but the first
abbrev pub left_by : Bool → List Task → List Task
left_by aborts queue = if aborts then queue else drop 1 queue

pub front_left : (s : RequestsState) (queue : List Task) (id : ℕ) → s.queue ≡ queue → (task_begun s queue).queue ≡ left_by (is_abort (request_of (task_purpose queue) id)) queue
front_left s [] id is = is
front_left s (task ∷ rest) id is = sym (ap (λ (b : Bool). left_by b (task ∷ rest)) (task_no_abort task id))

pub front_no_abort : (queue : List Task) (id : ℕ) → (queue ≡ [] → ⊥) → is_abort (request_of (task_purpose queue) id) ≡ false
front_no_abort [] id some = absurd (some refl)
front_no_abort (task ∷ rest) id some = task_no_abort task id

-- what it wants is what the first one does, whatever its callback id
want_same : (task : Task) (id : ℕ) → want_of (task_request task id) ≡ want_of_task task
want_same (Plain n payload) id = refl
want_same (Offer n nonce) id = refl
want_same (Segment n payload) id = refl
want_same (NoMore n) id = refl
want_same (First n) id = refl
want_same (Second n) id = refl
want_same Members id = refl
want_same (Neighbours n) id = refl
want_same (IsFailed n) id = refl
want_same Version id = refl
want_same MemoryId id = refl
want_same Capabilities id = refl

pub first_waits : (queue : List Task) (id : ℕ) (unit : List ℕ) → (queue ≡ [] → ⊥) → request_in unit ≡ request_of (task_purpose queue) id ∷ []
    → is_first_waiting unit (map want_of_task queue) ≡ true
first_waits [] id unit some read = absurd (some refl)
first_waits (task ∷ rest) id unit some read =
    ap (λ (l : List Request). list_any (λ request. bytes_eq (want_of_task task) (want_of request)) l) read
    ∙ ap (λ (w : List ℕ). bytes_eq (want_of_task task) w || false) (want_same task id) ∙ ap (λ (b : Bool). b || false) (bytes_same (want_of_task task))

pub empty_left : (queue : List Task) → queue ≡ [] → queue ≡ left_by false queue
empty_left queue is = is ∙ sym (ap (λ (l : List Task). drop 1 l) is)
