-- What a change of one node and of the outcome of a command keeps, that each event of a host keeps, unless it accepts an order, joins a node, interviews one, hears a
-- value, gives a part of an attempt or ends a command: of the last two, where it is kept of the node served last and of confirmed values.
use Rattle.std.proofs.Common.{◌≡◌, ℕ, ◌<◌, Bool, true, false, if◌then◌else◌, List, length, Option, Some, None, inl, inr, refl, sym, ap, ◌∙◌}
use Rattle.std.proofs.lemmas.Bool.{cases_eq, cases_lt}
use Rattle.std.proofs.lemmas.List.{get_or-set_same, get_or-set_other, set_past}
use Rattle.zw_base.specs.declared.property.Setting.{Setting}
use Rattle.zw_text.specs.declared.entry.Outcome.{Outcome}
use Rattle.zw_text.specs.declared.entry.Outcome.TheVariants.{Begun, Cancelled, Unanswered as never_answered}
use Rattle.supervision.specs.Host.{told_of}
use Rattle.supervision.specs.declared.host_node.Told.{Told}
use Rattle.supervision.specs.declared.host_node.Told.TheVariants.{Final, Working, Old}
use Rattle.s0_session.specs.Nonces.{live_of}
use Rattle.serial_link.specs.State.{tick_side}
use Rattle.host_requests.specs.declared.end.End.{End}
use Rattle.host_requests.specs.declared.end.How.{How}
use Rattle.host_requests.specs.declared.task.Purpose.{Purpose}
use Rattle.host_requests.specs.declared.task.Purpose.TheVariants.{Housekeeping, Attempt, Abort}
use Rattle.host_requests.specs.declared.task.Task.{Task}
use Rattle.host_requests.specs.declared.task.Task.TheVariants.{NoMore, Offer, Segment}
use Rattle.host_requests.specs.Events.{RequestsEvent, end_at}
use Rattle.host_requests.specs.Events.RequestsEvent.{Fails as request_fails, Pushes as request_pushes}
use Rattle.host_node.specs.declared.attempt.Moment.{Moment}
use Rattle.host_node.specs.declared.attempt.Moment.TheVariants.{BeforeItsTick}
use Rattle.host_node.specs.declared.attempt.AttemptEnd.{AttemptEnd}
use Rattle.host_node.specs.declared.attempt.AttemptEnd.TheVariants.{NoneRan, Again, Unanswered}
use Rattle.host_node.specs.State.{NodeState, is_running, unknown}
use Rattle.host_node.specs.Steps.{after_told, as_recorded, attempt_end, tick_end, wait_ticks, with_wait}
use Rattle.host_node.specs.Events.{NodeEvent, after as after_node}
use Rattle.host_node.specs.Events.NodeEvent.{Begins as node_begins, Blocks as node_blocks, Cancels as node_cancels, Drops_no_more as node_drops_no_more, Ends_attempt as node_ends_attempt, Ends_no_more as node_ends_no_more, Gives_segment as node_gives_segment, Gives_text as node_gives_text, Holds as node_holds, Interviews as node_interviews, Joins as node_joins, Notifies as node_notifies, Puts as node_puts, Queues_no_more as node_queues_no_more, Reports as node_reports, Restarts as node_restarts, Restores_seen as node_restores_seen, Starts as node_starts, Succeeds as node_succeeds, Takes_back as node_takes_back, Takes_nonce as node_takes_nonce, Ticks as node_ticks}
use Rattle.host_node.specs.Facts.{is_recorded}
use Rattle.host_node.specs.TableState.{node_of as node_among, with_node as with_node_among}
use Rattle.host_keep.specs.Status.{status_byte}
use Rattle.host_keep.specs.declared.final_status.FinalStatus.{FinalStatus}
use Rattle.proof_world.specs.host_model.State.{HostState, command_at, node_of, with_outcome}
use Rattle.proof_world.specs.host_model.Sessions.{open_command, settings_with}
use Rattle.proof_world.specs.host_model.Ends.{PartEnd, Good, Passed_over, Bad, part_end, after_part, after_task, after_end, after_end_if, attempt_ended}
use Rattle.proof_world.specs.host_model.After.{after, requests_do, is_full, is_held, holding, finishing, confirming, giving, offering, gives_up, line_ticked, failing_if, node_does, node_for, outcome_of, queues_if_room}
use Rattle.proof_world.specs.host_model.Events.{HostEvent, Accepts, Cancels, Joins, Requests_do, Interviews, Works, Finishes, Offers, Gives, Takes_nonce, Notifies, Resends, Hears_value, Line_ticks, Node_ticks, Queues_no_more, Drops_no_more, Starts, Gives_text, Gives_segment, Begins, Begin_unkept}

-- ---- a part of each node

module _ {A : Type 0} (part : NodeState → A) where
  abbrev pub part_of : List NodeState → ℕ → A
  part_of nodes m = part (node_among nodes m)

  pub part_set : (nodes : List NodeState) (n : ℕ) (state : NodeState) → part state ≡ part_of nodes n → (m : ℕ) → part_of (with_node_among nodes n state) m ≡ part_of nodes m
  part_set nodes n state e m = elim (cases_eq m n) [
    | inl same ↦ elim (cases_lt n (length nodes)) [
      | inl within ↦ ap (λ (k : ℕ). part_of (with_node_among nodes n state) k) same
          ∙ ap part (get_or-set_same nodes n state (unknown 0) within)
          ∙ e ∙ ap (λ (k : ℕ). part_of nodes k) (sym same)
      | inr past ↦ ap (λ (l : List NodeState). part_of l m) (set_past nodes n state past)
    ]
    | inr other ↦ ap part (get_or-set_other nodes n m state (unknown 0) other)
  ]

  -- the node that is changed, where it has a place, and the others
  pub part_here : (nodes : List NodeState) (n : ℕ) (state : NodeState) → n < length nodes → part_of (with_node_among nodes n state) n ≡ part state
  part_here nodes n state within = ap part (get_or-set_same nodes n state (unknown 0) within)

  pub part_there : (nodes : List NodeState) (n : ℕ) (state : NodeState) (m : ℕ) → (m ≡ n → ⊥) → part_of (with_node_among nodes n state) m ≡ part_of nodes m
  part_there nodes n state m other = ap part (get_or-set_other nodes n m state (unknown 0) other)

-- ---- events of a node

-- it is one of a host that goes on, and neither joins nor interviews the node
abbrev pub IsOfNode : NodeEvent → Type 0
IsOfNode node_joins = ⊥
IsOfNode (node_interviews listens classes) = ⊥
IsOfNode node_restarts = ⊥
IsOfNode event = Unit {0}

-- what is not recorded of a node leaves what is
abbrev pub LeavesRecords : Type 0
LeavesRecords = (n : NodeState) (event : NodeEvent) → is_recorded n event ≡ false → as_recorded (after_node n event) ≡ as_recorded n

-- it is joined, and lists classes, as before
pub record IsSameNode (old new : NodeState) : Type 0 where
  pub joined : new.joined ≡ old.joined
  pub classes : new.classes ≡ old.classes

sign_same : (b : Bool) (n : NodeState) → IsSameNode n (if b then with_wait n wait_ticks else n)
sign_same true n = record { joined = refl; classes = refl }
sign_same false n = record { joined = refl; classes = refl }

told_same : (n : NodeState) (status : ℕ) (told : Told) → IsSameNode n (after_told n status told)
told_same n status (Final session) = record { joined = refl; classes = refl }
told_same n status Working = sign_same (is_running n.series) n
told_same n status Old = record { joined = refl; classes = refl }

module _ (law : LeavesRecords) where
  by_law : (n : NodeState) (event : NodeEvent) → is_recorded n event ≡ false → IsSameNode n (after_node n event)
  by_law n event none = record { joined = ap (λ (s : NodeState). s.joined) (law n event none); classes = ap (λ (s : NodeState). s.classes) (law n event none) }

  pub node_same : (n : NodeState) (event : NodeEvent) → IsOfNode event → IsSameNode n (after_node n event)
  node_same n node_joins of = absurd of
  node_same n (node_interviews listens classes) of = absurd of
  node_same n node_restarts of = absurd of
  node_same n (node_puts command) of = record { joined = refl; classes = refl }
  node_same n node_takes_back of = record { joined = refl; classes = refl }
  node_same n (node_cancels command) of = record { joined = refl; classes = refl }
  node_same n node_begins of = record { joined = refl; classes = refl }
  node_same n (node_takes_nonce seen text) of = record { joined = refl; classes = refl }
  node_same n (node_restores_seen seen) of = record { joined = refl; classes = refl }
  node_same n (node_reports id status) of = told_same n status (told_of n.book id status)
  node_same n event of = by_law n event refl

-- ---- events of a host

-- what stays so where nothing of it changes, from one change to the next, and at each of the two
pub record Keeping (Keeps : HostState → HostState → Type 0) : Type 0 where
  pub still : (old new : HostState) → new.nodes ≡ old.nodes → new.commands ≡ old.commands → new.store ≡ old.store → new.keys ≡ old.keys → new.served ≡ old.served → Keeps old new
  pub both : (a b c : HostState) → Keeps a b → Keeps b c → Keeps a c
  pub node : (h : HostState) (n : ℕ) (event : NodeEvent) → IsOfNode event → Keeps h (node_does h n event)
  pub outcome : (h : HostState) (command : ℕ) (how : Outcome) → Keeps h (record h { commands = with_outcome h.commands command how })

-- and where another node is served last
abbrev pub Serves : (HostState → HostState → Type 0) → Type 0
Serves Keeps = (h : HostState) (n : ℕ) → Keeps h (record h { served = n })

-- and where values are confirmed
abbrev pub Confirms : (HostState → HostState → Type 0) → Type 0
Confirms Keeps = (h : HostState) (n : ℕ) (settings : List Setting) → Keeps h (record h { store = confirming h.store n settings })

-- it is none of the first four
abbrev pub IsCommon : HostEvent → Type 0
IsCommon (Accepts order carriage) = ⊥
IsCommon (Joins n) = ⊥
IsCommon (Interviews n listens classes update) = ⊥
IsCommon (Hears_value n setting) = ⊥
IsCommon event = Unit {0}

-- nor does a command end
abbrev pub IsStill : HostEvent → Type 0
IsStill (Finishes n session id command status wake_request) = ⊥
IsStill event = IsCommon event

-- nor is a part of an attempt given
abbrev pub IsPlain : HostEvent → Type 0
IsPlain (Starts n plan more payload) = ⊥
IsPlain (Gives_text n payload) = ⊥
IsPlain (Gives_segment n more payload) = ⊥
IsPlain event = IsStill event

module _ (Keeps : HostState → HostState → Type 0) (rules : Keeping Keeps) where
  same : (h : HostState) → Keeps h h
  same h = rules.still h h refl refl refl refl refl

  -- something happens to a node, and to what is kept nothing else
  does : (h new : HostState) (n : ℕ) (event : NodeEvent) → IsOfNode event → new.nodes ≡ (node_does h n event).nodes → new.commands ≡ h.commands → new.store ≡ h.store → new.keys ≡ h.keys
      → new.served ≡ h.served → Keeps h new
  does h new n event of nodes commands store keys served =
      rules.both h (node_does h n event) new (rules.node h n event of) (rules.still (node_does h n event) new nodes commands store keys served)

  attempt_kept : (h : HostState) (end : AttemptEnd) (command : Option ℕ) → Keeps h (attempt_ended h end command)
  attempt_kept h NoneRan command = same h
  attempt_kept h Again command = same h
  attempt_kept h (Unanswered fell) None = same h
  attempt_kept h (Unanswered fell) (Some command) = rules.outcome h command never_answered

  part_kept : (h : HostState) (n : ℕ) (end : PartEnd) (moment : Moment) → Keeps h (after_part h n end moment)
  part_kept h n Good moment = rules.node h n node_succeeds tt
  part_kept h n Passed_over moment = same h
  part_kept h n Bad moment =
      let ended : HostState = node_does h n (node_ends_attempt moment) in
      rules.both h ended (after_part h n Bad moment) (rules.node h n (node_ends_attempt moment) tt) (attempt_kept ended (attempt_end (node_of h n)) (open_command (node_of h n)))

  task_kept : (h : HostState) (task : Task) → Keeps h (after_task h task)
  task_kept h (NoMore n) = rules.node h n node_ends_no_more tt
  task_kept h _ = same h

  end_kept : (h : HostState) (purpose : Purpose) (how : How) (moment : Moment) → Keeps h (after_end h (record { purpose = purpose; how = how }) moment)
  end_kept h (Attempt n more payload) how moment = part_kept h n (part_end more how) moment
  end_kept h (Housekeeping task) how moment = task_kept h task
  end_kept h Abort how moment = same h

  end_if_kept : (h : HostState) (end : Option End) (moment : Moment) → Keeps h (after_end_if h end moment)
  end_if_kept h None moment = same h
  end_if_kept h (Some end) moment = end_kept h end.purpose end.how moment

  request_kept : (h : HostState) (event : RequestsEvent) (moment : Moment) → Keeps h (after_end_if (requests_do h event) (end_at h.requests event) moment)
  request_kept h event moment =
      rules.both h (requests_do h event) (after_end_if (requests_do h event) (end_at h.requests event) moment) (rules.still h (requests_do h event) refl refl refl refl refl)
      (end_if_kept (requests_do h event) (end_at h.requests event) moment)

  failing_kept : (gives : Bool) (h : HostState) → Keeps h (failing_if gives h)
  failing_kept true h = request_kept h request_fails BeforeItsTick
  failing_kept false h = same h

  task_queued : (h : HostState) (task : Task) → Keeps h (queues_if_room h task)
  task_queued h task = by (is_full h)
    where
      by : (full : Bool) → Keeps h (if full then h else requests_do h (request_pushes task))
      by true = same h
      by false = rules.still h (requests_do h (request_pushes task)) refl refl refl refl refl

  offering_kept : (h : HostState) (n : ℕ) (live : Option (List ℕ)) → Keeps h (offering h n live)
  offering_kept h n None = same h
  offering_kept h n (Some nonce) = task_queued h (Offer n nonce)

  holding_kept : (h : HostState) (n : ℕ) (held : Bool) → Keeps h (holding h n held)
  holding_kept h n true = rules.node h n node_holds tt
  holding_kept h n false = same h

  pub each_plain : (h : HostState) (event : HostEvent) → IsPlain event → Keeps h (after h event)
  each_plain h (Accepts order carriage) plain = absurd plain
  each_plain h (Joins n) plain = absurd plain
  each_plain h (Interviews n listens classes update) plain = absurd plain
  each_plain h (Hears_value n setting) plain = absurd plain
  each_plain h (Cancels command) plain =
      let n = node_for h command in
      rules.both h (node_does h n (node_cancels command)) (after h (Cancels command)) (rules.node h n (node_cancels command) tt)
      (rules.outcome (node_does h n (node_cancels command)) command Cancelled)
  each_plain h (Begins n session command) plain =
      rules.both h (node_does h n node_begins) (after h (Begins n session command)) (rules.node h n node_begins tt) (rules.outcome (node_does h n node_begins) command Begun)
  each_plain h (Requests_do event moment) plain = request_kept h event moment
  each_plain h (Works n id) plain = rules.node h n (node_reports id 1) tt
  each_plain h (Finishes n session id command status wake_request) plain = absurd plain
  each_plain h (Offers n) plain = offering_kept h n (live_of h.nonces n)
  each_plain h (Gives n drawn) plain =
      let given = giving h n drawn in
      rules.both h given (after h (Gives n drawn)) (rules.still h given refl refl refl refl refl) (offering_kept given n (live_of given.nonces n))
  each_plain h (Takes_nonce n seen text) plain = rules.node h n (node_takes_nonce seen text) tt
  each_plain h (Notifies n) plain = rules.node h n node_notifies tt
  each_plain h (Resends n payload) plain = task_queued h (Segment n payload)
  each_plain h Line_ticks plain =
      rules.both h (line_ticked h) (after h Line_ticks) (rules.still h (line_ticked h) refl refl refl refl refl) (failing_kept (gives_up h.side.turn (tick_side h.side).turn) (line_ticked h))
  each_plain h (Node_ticks n) plain =
      let ticked = node_does h n node_ticks in
      rules.both h ticked (after h (Node_ticks n)) (rules.node h n node_ticks tt) (attempt_kept ticked (tick_end (node_of h n)) (open_command (node_of h n)))
  each_plain h (Queues_no_more n) plain = does h (after h (Queues_no_more n)) n node_queues_no_more tt refl refl refl refl refl
  each_plain h (Drops_no_more n) plain = rules.node h n node_drops_no_more tt
  each_plain h (Starts n plan more payload) plain = absurd plain
  each_plain h (Gives_text n payload) plain = absurd plain
  each_plain h (Gives_segment n more payload) plain = absurd plain
  each_plain h (Begin_unkept n) plain = rules.node h n node_blocks tt
  each_plain h event plain = rules.still h (after h event) refl refl refl refl refl

  -- a part is given to a node, and it is served last
  gives_kept : Serves Keeps → (h new : HostState) (n : ℕ) (event : NodeEvent) → IsOfNode event → new.nodes ≡ (node_does h n event).nodes → new.commands ≡ h.commands → new.store ≡ h.store
      → new.keys ≡ h.keys → new.served ≡ n → Keeps h new
  gives_kept serves h new n event of nodes commands store keys served =
      let last : HostState = record h { served = n } in
      rules.both h last new (serves h n) (does last new n event of nodes commands store keys served)

  pub each_still : Serves Keeps → (h : HostState) (event : HostEvent) → IsStill event → Keeps h (after h event)
  each_still serves h (Starts n plan more payload) still = gives_kept serves h (after h (Starts n plan more payload)) n (node_starts plan) tt refl refl refl refl refl
  each_still serves h (Gives_text n payload) still = gives_kept serves h (after h (Gives_text n payload)) n node_gives_text tt refl refl refl refl refl
  each_still serves h (Gives_segment n more payload) still = gives_kept serves h (after h (Gives_segment n more payload)) n node_gives_segment tt refl refl refl refl refl
  each_still serves h event still = each_plain h event still

  finishing_kept : Confirms Keeps → (h : HostState) (n id command : ℕ) (status : FinalStatus) → Keeps h (finishing h n id command status)
  finishing_kept confirms h n id command status =
      let told : HostState = node_does h n (node_reports id (status_byte status)) in
      let ended : HostState = record told { commands = with_outcome h.commands command (outcome_of status) } in
      rules.both h told (finishing h n id command status) (rules.node h n (node_reports id (status_byte status)) tt)
      (rules.both told ended (finishing h n id command status) (rules.outcome told command (outcome_of status)) (confirms ended n (settings_with status (command_at h.commands command))))

  pub ends_kept : Confirms Keeps → (h : HostState) (n session id command : ℕ) (status : FinalStatus) (wake_request : Bool) → Keeps h (after h (Finishes n session id command status wake_request))
  ends_kept confirms h n session id command status wake_request =
      let done = finishing h n id command status in
      rules.both h done (after h (Finishes n session id command status wake_request)) (finishing_kept confirms h n id command status) (holding_kept done n (is_held h n wake_request))

  pub each_kept : Serves Keeps → Confirms Keeps → (h : HostState) (event : HostEvent) → IsCommon event → Keeps h (after h event)
  each_kept serves confirms h (Finishes n session id command status wake_request) common = ends_kept confirms h n session id command status wake_request
  each_kept serves confirms h event common = each_still serves h event common

-- ---- the node served last

-- no part of an attempt is given
abbrev pub GivesNoPart : HostEvent → Type 0
GivesNoPart (Starts n plan more payload) = ⊥
GivesNoPart (Gives_text n payload) = ⊥
GivesNoPart (Gives_segment n more payload) = ⊥
GivesNoPart event = Unit {0}

abbrev SameServed : HostState → HostState → Type 0
SameServed old new = new.served ≡ old.served

served_keeping : Keeping SameServed
served_keeping = record {
  still = λ old new nodes commands store keys served. served;
  both = λ a b c first later. later ∙ first;
  node = λ h n event of. refl;
  outcome = λ h command how. refl;
}

pub served_same : (h : HostState) (event : HostEvent) → GivesNoPart event → (after h event).served ≡ h.served
served_same h (Accepts order carriage) none = refl
served_same h (Joins n) none = refl
served_same h (Interviews n listens classes update) none = refl
served_same h (Hears_value n setting) none = refl
served_same h (Finishes n session id command status wake_request) none =
    ends_kept SameServed served_keeping (λ h n settings. refl) h n session id command status wake_request
served_same h (Starts n plan more payload) none = absurd none
served_same h (Gives_text n payload) none = absurd none
served_same h (Gives_segment n more payload) none = absurd none
served_same h event none = each_plain SameServed served_keeping h event tt
