-- What each event of the host leaves of the segments that the attempt of a node gives, and of what waits.
use Rattle.std.proofs.Common.{◌≡◌, ◌≢◌, ◌<◌, ℕ, ◌+◌, ◌-◌, ◌==◌, ◌&&◌, nat_lt, Bool, true, false, if◌then◌else◌, Option, Some, None, List, length, refl, sym, ap, ◌∙◌, subst}
use Rattle.std.proofs.lemmas.Bool.{eq-eqb, eqb-true}
use Rattle.std.proofs.lemmas.List.{get_or-set_same, get_or-set_other, length-set}
use Rattle.supervision.specs.Host.{told_of}
use Rattle.supervision.specs.declared.host_node.Told.{Told}
use Rattle.supervision.specs.declared.host_node.Told.TheVariants.{Final, Working, Old}
use Rattle.serial_link.specs.State.{turn_ticked}
use Rattle.serial_link.specs.declared.turn.Turn.{Turn}
use Rattle.serial_link.specs.declared.turn.Turn.TheVariants.{Idle as no_turn}
use Rattle.host_keep.specs.Status.{status_byte}
use Rattle.host_requests.specs.Events.{RequestsEvent, end_at}
use Rattle.host_requests.specs.Events.RequestsEvent.{Pushes, PushesInterview, PushesProbe, BeginsAbort, BeginsPrefix, BeginsAttempt, IsSent, Fails, Responds, CallsBack, Updates, Ticks as request_ticks, Forgets}
use Rattle.host_requests.specs.Next.{next_from}
use Rattle.host_requests.specs.State.{RequestsState}
use Rattle.host_requests.specs.declared.end.End.{End}
use Rattle.host_requests.specs.declared.end.How.{How}
use Rattle.host_requests.specs.declared.end.How.TheVariants.{LinkFailed}
use Rattle.host_requests.specs.declared.next.Next.{Next}
use Rattle.host_requests.specs.declared.next.Next.TheVariants as next
use Rattle.host_requests.specs.declared.task.Purpose.{Purpose}
use Rattle.host_requests.specs.declared.task.Purpose.TheVariants.{Abort, Attempt, Housekeeping}
use Rattle.host_requests.specs.declared.task.Task.{Task}
use Rattle.host_requests.specs.declared.task.Task.TheVariants.{NoMore}
use Rattle.host_requests.specs.declared.under_way.UnderWay.{UnderWay}
use Rattle.host_node.specs.State.{NodeState, has_waiting, is_idle, is_open, is_running, is_up, unknown}
use Rattle.host_node.specs.Steps.{after_again, after_again_tick, after_attempt_end, after_attempts, after_hold_tick, after_no_more, after_occasion, after_sign, after_sleep, after_tick, after_told, as_recorded, asleep, new_series, next_due, series_over, tick_end, tried_again, wait_ticks, with_again, with_wait, without_attempt}
use Rattle.host_node.specs.Events.{NodeEvent, after as after_node}
use Rattle.host_node.specs.Events.NodeEvent.{Joins, Interviews, Puts, Takes_back, Accepts, Cancels, Begins, Blocks, Starts, Gives_segment, Gives_text, Succeeds, Takes_nonce, Restores_seen, Ends_attempt, Reports, Holds, Notifies, Sleeps, Queues_no_more, Drops_no_more, Ends_no_more, Ticks, Restarts}
use Rattle.host_node.specs.declared.attempt.Moment.{Moment}
use Rattle.host_node.specs.declared.attempt.Moment.TheVariants.{BetweenTicks}
use Rattle.host_node.specs.declared.attempt.AttemptEnd.{AttemptEnd}
use Rattle.host_node.specs.declared.attempt.AttemptEnd.TheVariants.{NoneRan, Again, Unanswered}
use Rattle.host_node.specs.declared.no_more.NoMore.TheVariants.{Unasked}
use Rattle.host_node.specs.declared.series.Series.{Series}
use Rattle.host_node.specs.declared.series.Series.TheVariants as series
use Rattle.host_node.specs.TableState.{node_of as node_among, with_node as with_node_among}
use Rattle.host_model.specs.After.{after, failing_if, finishing, gives_up, holding, is_held, line_ticked, node_does, requests_do}
use Rattle.host_model.specs.Ends.{Bad, Good, PartEnd, Passed_over, after_end, after_end_if, after_part, attempt_ended, part_end}
use Rattle.host_node.specs.Steps.{attempt_end}
use Rattle.host_model.specs.Sessions.{open_command}
use Rattle.host_model.specs.Events.{HostEvent, Accepts as Accepts_of, Finishes, Hears, Is_unkept, Line_ticks, Node_ticks, Notifies as Notifies_of, Reports_old, Requests_do, Spends, Spends_unread, Unreads, Works, Hears_value, Has_no_room}
use Rattle.host_model.specs.State.{HostState, node_of}
use Rattle.proof_answered.proofs.Following.{attempt_asks, end_if_asks, held_asks}

-- ---- one node

-- a series that runs did, and gives the same segments
pub record GivesAs (old : NodeState) (commands : List ℕ) (next segments : ℕ) (text pending : Option (List ℕ)) : Type 0 where
  pub running : old.series ≡ series.Running
  pub commands_are : commands ≡ old.book.commands
  pub next_is : next ≡ old.next_segment
  pub count : segments ≡ old.segments
  pub text_is : text ≡ old.text
  pub pending_is : pending ≡ old.pending

abbrev GivesFrom : NodeState → Series → List ℕ → ℕ → ℕ → Option (List ℕ) → Option (List ℕ) → Type 0
GivesFrom old s commands next segments text pending = s ≡ series.Running → GivesAs old commands next segments text pending

abbrev pub Gives : NodeState → NodeState → Type 0
Gives old n = n.series ≡ series.Running → GivesAs old n.book.commands n.next_segment n.segments n.text n.pending

-- no attempt starts, and none gives something
abbrev pub IsAside : NodeEvent → Type 0
IsAside (Starts plan) = ⊥
IsAside Gives_segment = ⊥
IsAside Gives_text = ⊥
IsAside (Takes_nonce seen text) = ⊥
IsAside event = Unit {0}

pub gives_itself : (n : NodeState) → Gives n n
gives_itself n = λ run. record { running = run; commands_are = refl; next_is = refl; count = refl; text_is = refl; pending_is = refl }

-- one after the other
pub gives_then : (a b c : NodeState) → GivesAs a b.book.commands b.next_segment b.segments b.text b.pending → GivesAs b c.book.commands c.next_segment c.segments c.text c.pending → GivesAs a c.book.commands c.next_segment c.segments c.text c.pending
gives_then a b c first later = record {
  running = first.running;
  commands_are = later.commands_are ∙ first.commands_are;
  next_is = later.next_is ∙ first.next_is;
  count = later.count ∙ first.count;
  text_is = later.text_is ∙ first.text_is;
  pending_is = later.pending_is ∙ first.pending_is;
}

not_due : series.Due ≢ series.Running
not_due e = absurd cc

not_idle : series.Idle ≢ series.Running
not_idle e = absurd cc

module _ (old : NodeState) where
  stops : (s : Series) (commands : List ℕ) (next segments : ℕ) (text pending : Option (List ℕ)) → s ≢ series.Running → GivesFrom old s commands next segments text pending
  stops s commands next segments text pending other = λ run. absurd (other run)

  either : (b : Bool) (x y : NodeState) → Gives old x → Gives old y → Gives old (if b then x else y)
  either true x y first later = first
  either false x y first later = later

  occasion_gives : (n : NodeState) → Gives old n → Gives old (after_occasion n)
  occasion_gives n gives = either (is_open n && is_up n && is_idle n.series) (new_series n) n (stops series.Due n.book.commands n.next_segment n.segments n.text n.pending not_due) gives

  sign_gives : (n : NodeState) → Gives old n → Gives old (after_sign n)
  sign_gives n gives = either (is_running n.series) (with_wait n wait_ticks) n gives gives

  sleep_gives : (n : NodeState) → Gives old n → Gives old (after_sleep n)
  sleep_gives n gives = either n.listens n (asleep n) gives gives

  told_gives : (n : NodeState) (status : ℕ) (told : Told) → Gives old n → Gives old (after_told n status told)
  told_gives n status (Final session) gives = λ run. absurd (not_idle run)
  told_gives n status Working gives = sign_gives n gives
  told_gives n status Old gives = gives

  end_gives : (n : NodeState) (moment : Moment) → Gives old n → Gives old (after_attempt_end n moment)
  end_gives n moment gives =
      either (is_running n.series) (after_attempts (without_attempt n) (n.book.attempts + 1) moment) n
      (either (nat_lt (n.book.attempts + 1) 3) (next_due (without_attempt n) (n.book.attempts + 1)) (after_sleep (series_over (without_attempt n) (n.book.attempts + 1) moment)) (λ run. absurd (not_due run))
      (sleep_gives (series_over (without_attempt n) (n.book.attempts + 1) moment) (λ run. absurd (not_idle run)))) gives

  again_gives : (n : NodeState) → Gives old n → Gives old (after_again n)
  again_gives n gives = either (has_waiting n) (after_occasion n) n (occasion_gives n gives) gives

  tick_gives : (n : NodeState) → Gives old n → Gives old (after_tick n)
  tick_gives n gives = by (after_again_tick (after_hold_tick n)) again
    where
      again : Gives old (after_again_tick (after_hold_tick n))
      again = either ((after_hold_tick n).again_wait == 1) (after_again (with_again (after_hold_tick n) 0)) (with_again (after_hold_tick n) ((after_hold_tick n).again_wait - 1)) (again_gives (with_again (after_hold_tick n) 0) gives) gives

      by : (x : NodeState) → Gives old x → Gives old (if x.attempt_wait == 1 then after_attempt_end x BetweenTicks else with_wait x (x.attempt_wait - 1))
      by x is = either (x.attempt_wait == 1) (after_attempt_end x BetweenTicks) (with_wait x (x.attempt_wait - 1)) (end_gives x BetweenTicks is) is

  pub aside_gives : (n : NodeState) (event : NodeEvent) → IsAside event → Gives old n → Gives old (after_node n event)
  aside_gives n Joins is gives = gives
  aside_gives n (Interviews listens classes) is gives = gives
  aside_gives n (Puts command) is gives = gives
  aside_gives n Takes_back is gives = gives
  aside_gives n Accepts is gives = occasion_gives n gives
  aside_gives n (Cancels command) is gives = gives
  aside_gives n Begins is gives = λ run. absurd (not_due run)
  aside_gives n Blocks is gives = gives
  aside_gives n (Starts plan) is gives = absurd is
  aside_gives n Gives_segment is gives = absurd is
  aside_gives n Gives_text is gives = absurd is
  aside_gives n Succeeds is gives = sign_gives n gives
  aside_gives n (Takes_nonce seen text) is gives = absurd is
  aside_gives n (Restores_seen seen) is gives = gives
  aside_gives n (Ends_attempt moment) is gives = end_gives n moment gives
  aside_gives n (Reports id status) is gives = told_gives n status (told_of n.book id status) gives
  aside_gives n Holds is gives = gives
  aside_gives n Notifies is gives = occasion_gives (record n { awake = true; no_more = tried_again n.no_more }) gives
  aside_gives n Sleeps is gives = sleep_gives n gives
  aside_gives n Queues_no_more is gives = gives
  aside_gives n Drops_no_more is gives = gives
  aside_gives n Ends_no_more is gives = sleep_gives (after_no_more n Unasked) gives
  aside_gives n Ticks is gives = tick_gives n gives
  aside_gives n Restarts is gives = occasion_gives (as_recorded n) (λ run. absurd (not_idle run))

-- an event at which nothing comes to wait, nothing is submitted, and no nonce is taken
abbrev pub LeavesParts : HostState → HostEvent → Type 0
LeavesParts h (Accepts_of order carriage) = Unit {0}
LeavesParts h (Hears item) = Unit {0}
LeavesParts h (Requests_do event moment) = Unit {0}
LeavesParts h (Unreads k payload) = Unit {0}
LeavesParts h (Is_unkept k) = Unit {0}
LeavesParts h (Reports_old k id) = Unit {0}
LeavesParts h (Works k id) = Unit {0}
LeavesParts h (Finishes k session id command status wake) = Unit {0}
LeavesParts h (Spends k) = Unit {0}
LeavesParts h (Spends_unread k payload) = Unit {0}
LeavesParts h (Notifies_of k) = Unit {0}
LeavesParts h (Hears_value k setting) = Unit {0}
LeavesParts h (Has_no_room k property) = Unit {0}
LeavesParts h (Node_ticks k) = Unit {0}
LeavesParts h Line_ticks = h.side.turn ≡ no_turn
LeavesParts h event = ⊥

-- ---- one node of a host

module _ (n : ℕ) (within : n < 233) (old : NodeState) where
  -- its table has its places
  pub record OnTable (nodes : List NodeState) : Type 0 where
    pub places : length nodes ≡ 233
    pub gives : Gives old (node_among nodes n)

  abbrev pub On : HostState → Type 0
  On h = OnTable h.nodes

  does_on : (h : HostState) (k : ℕ) (event : NodeEvent) → IsAside event → On h → On (node_does h k event)
  does_on h k event aside on = record { places = length-set h.nodes k next_state ∙ on.places; gives = by (k == n) refl }
    where
      next_state : NodeState
      next_state = after_node (node_of h k) event

      there : k ≡ n → Gives old (node_among (with_node_among h.nodes k next_state) n)
      there same =
          let few : k < length h.nodes = subst (λ (j : ℕ). j < length h.nodes) (sym same) (subst (λ (l : ℕ). n < l) (sym on.places) within) in
          subst (λ (j : ℕ). Gives old (node_among (with_node_among h.nodes k next_state) j)) same
          (subst (Gives old) (sym (get_or-set_same h.nodes k next_state (unknown 0) few)) (aside_gives old (node_of h k) event aside (subst (λ (j : ℕ). Gives old (node_of h j)) (sym same) on.gives)))

      by : (b : Bool) → (k == n) ≡ b → Gives old (node_among (with_node_among h.nodes k next_state) n)
      by true is = there (eqb-true k n is)
      by false is = subst (Gives old) (sym (get_or-set_other h.nodes k n next_state (unknown 0) (λ e. let wrong : true ≡ false = sym (eq-eqb k n (sym e)) ∙ is in cc))) on.gives

  ended_on : (h : HostState) (end : AttemptEnd) (command : Option ℕ) → On h → On (attempt_ended h end command)
  ended_on h NoneRan command on = on
  ended_on h Again command on = on
  ended_on h (Unanswered fell) None on = on
  ended_on h (Unanswered fell) (Some command) on = on

  part_on : (h : HostState) (k : ℕ) (end : PartEnd) (moment : Moment) → On h → On (after_part h k end moment)
  part_on h k Good moment on = does_on h k Succeeds tt on
  part_on h k Passed_over moment on = on
  part_on h k Bad moment on = ended_on (node_does h k (Ends_attempt moment)) (attempt_end (node_of h k)) (open_command (node_of h k)) (does_on h k (Ends_attempt moment) tt on)

  task_on : (h : HostState) (task : Task) (how : How) (moment : Moment) → On h → On (after_end h (record { purpose = Housekeeping task; how = how }) moment)
  task_on h (NoMore k) how moment on = does_on h k Ends_no_more tt on
  task_on h task how moment on = on

  end_on : (h : HostState) (purpose : Purpose) (how : How) (moment : Moment) → On h → On (after_end h (record { purpose = purpose; how = how }) moment)
  end_on h (Attempt k more payload) how moment on = part_on h k (part_end more how) moment on
  end_on h (Housekeeping task) how moment on = task_on h task how moment on
  end_on h Abort how moment on = on

  end_if_on : (h : HostState) (end : Option End) (moment : Moment) → On h → On (after_end_if h end moment)
  end_if_on h None moment on = on
  end_if_on h (Some end) moment on = end_on h end.purpose end.how moment on

  holding_on : (h : HostState) (k : ℕ) (held : Bool) → On h → On (holding h k held)
  holding_on h k true on = does_on h k Holds tt on
  holding_on h k false on = on

  pub event_on : (h : HostState) (event : HostEvent) → LeavesParts h event → On h → On (after h event)
  event_on h (Accepts_of order carriage) leaves on =
      does_on (node_does (record h { commands = (after h (Accepts_of order carriage)).commands; store = (after h (Accepts_of order carriage)).store }) order.node (Puts (length h.commands + 1))) order.node Accepts tt
      (does_on (record h { commands = (after h (Accepts_of order carriage)).commands; store = (after h (Accepts_of order carriage)).store }) order.node (Puts (length h.commands + 1)) tt (record { places = on.places; gives = on.gives }))
  event_on h (Hears item) leaves on = on
  event_on h (Requests_do event moment) leaves on = end_if_on (requests_do h event) (end_at h.requests event) moment on
  event_on h (Unreads k payload) leaves on = on
  event_on h (Is_unkept k) leaves on = on
  event_on h (Reports_old k id) leaves on = on
  event_on h (Works k id) leaves on = does_on h k (Reports id 1) tt on
  event_on h (Finishes k session id command status wake) leaves on =
      holding_on (finishing h k id command status) k (is_held h k wake) (does_on h k (Reports id (status_byte status)) tt on)
  event_on h (Spends k) leaves on = on
  event_on h (Spends_unread k payload) leaves on = on
  event_on h (Notifies_of k) leaves on = does_on h k Notifies tt on
  event_on h (Hears_value k setting) leaves on = on
  event_on h (Has_no_room k property) leaves on = on
  event_on h (Node_ticks k) leaves on = ended_on (node_does h k Ticks) (tick_end (node_of h k)) (open_command (node_of h k)) (does_on h k Ticks tt on)
  event_on h Line_ticks leaves on = subst (λ (t : Turn). On (failing_if (gives_up t (turn_ticked t)) (line_ticked h))) (sym leaves) on
  event_on h event leaves on = absurd leaves

-- ---- the requests

-- what waits, and the number given last
abbrev pub Asks_as : RequestsState → RequestsState → Type 0
Asks_as old new = (new.queue ≡ old.queue) × (new.last_id ≡ old.last_id)

-- nothing comes to wait, and no request begins
abbrev pub LeavesTasks : RequestsEvent → Type 0
LeavesTasks (Pushes task) = ⊥
LeavesTasks (PushesInterview n) = ⊥
LeavesTasks PushesProbe = ⊥
LeavesTasks BeginsAbort = ⊥
LeavesTasks BeginsPrefix = ⊥
LeavesTasks (BeginsAttempt n more payload) = ⊥
LeavesTasks Forgets = ⊥
LeavesTasks event = Unit {0}

next_as : (s : RequestsState) (step : UnderWay → Next) (u : Option UnderWay) → Asks_as s (next_from s step u)
next_as s step None = (refl, refl)
next_as s step (Some u) = by (step u)
  where
    by : (n : Next) → Asks_as s (next_from s (λ (w : UnderWay). n) (Some u))
    by (next.GoesOn progress) = (refl, refl)
    by (next.Ends how) = (refl, refl)

request_as : (h : HostState) (event : RequestsEvent) → LeavesTasks event → Asks_as h.requests (requests_do h event).requests
request_as h (Pushes task) leaves = absurd leaves
request_as h (PushesInterview n) leaves = absurd leaves
request_as h PushesProbe leaves = absurd leaves
request_as h BeginsAbort leaves = absurd leaves
request_as h BeginsPrefix leaves = absurd leaves
request_as h (BeginsAttempt n more payload) leaves = absurd leaves
request_as h IsSent leaves = next_as h.requests _ h.requests.under_way
request_as h Fails leaves = next_as h.requests (λ (u : UnderWay). next.Ends LinkFailed) h.requests.under_way
request_as h (Responds response) leaves = next_as h.requests _ h.requests.under_way
request_as h (CallsBack id status) leaves = next_as h.requests _ h.requests.under_way
request_as h (Updates update) leaves = next_as h.requests _ h.requests.under_way
request_as h request_ticks leaves = next_as h.requests _ h.requests.under_way
request_as h Forgets leaves = absurd leaves

-- so at an event of the host
abbrev pub LeavesAsked : HostEvent → Type 0
LeavesAsked (Requests_do event moment) = LeavesTasks event
LeavesAsked event = Unit {0}

pub event_as : (h : HostState) (event : HostEvent) → LeavesParts h event → LeavesAsked event → Asks_as h.requests (after h event).requests
event_as h (Accepts_of order carriage) leaves asked = (refl, refl)
event_as h (Hears item) leaves asked = (refl, refl)
event_as h (Requests_do event moment) leaves asked =
    let one = request_as h event asked in
    let same = end_if_asks (requests_do h event) (end_at h.requests event) moment in
    (ap (λ p. p.1.queue) same ∙ one.0, ap (λ p. p.1.last_id) same ∙ one.1)
event_as h (Unreads k payload) leaves asked = (refl, refl)
event_as h (Is_unkept k) leaves asked = (refl, refl)
event_as h (Reports_old k id) leaves asked = (refl, refl)
event_as h (Works k id) leaves asked = (refl, refl)
event_as h (Finishes k session id command status wake) leaves asked =
    let same = held_asks (finishing h k id command status) k (is_held h k wake) in (ap (λ p. p.1.queue) same, ap (λ p. p.1.last_id) same)
event_as h (Spends k) leaves asked = (refl, refl)
event_as h (Spends_unread k payload) leaves asked = (refl, refl)
event_as h (Notifies_of k) leaves asked = (refl, refl)
event_as h (Hears_value k setting) leaves asked = (refl, refl)
event_as h (Has_no_room k property) leaves asked = (refl, refl)
event_as h (Node_ticks k) leaves asked =
    let same = attempt_asks (node_does h k Ticks) (tick_end (node_of h k)) (open_command (node_of h k)) in (ap (λ p. p.1.queue) same, ap (λ p. p.1.last_id) same)
event_as h Line_ticks leaves asked = subst (λ (t : Turn). Asks_as h.requests (failing_if (gives_up t (turn_ticked t)) (line_ticked h)).requests) (sym leaves) (refl, refl)
event_as h event leaves asked = absurd leaves
