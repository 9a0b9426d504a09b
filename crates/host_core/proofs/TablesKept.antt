-- Each event of a host, each record that it takes up and a restart leave its tables in the records.
use Rattle.std.proofs.Common.{◌≡◌, ℕ, zero, suc, ◌+◌, ◌==◌, Bool, true, false, if◌then◌else◌, is_none, List, [], ◌∷◌, ◌++◌, length, get_or, set, Option, Some, None, refl, sym, ap, ◌∙◌, subst, arith}
use Rattle.std.specs.Prelude.{IfSome}
use Rattle.std.specs.List.{AllByRecursion}
use Rattle.std.proofs.lemmas.Bool.{eqb-true, and_parts as both_true}
use Rattle.zw_base.specs.declared.order.Order.{Order}
use Rattle.zw_text.specs.declared.entry.Outcome.TheVariants as outcome
use Rattle.serial_link.specs.State.{tick_side}
use Rattle.supervision.specs.Host.{begun_of, open_session, told_of, command_at as command_of_session}
use Rattle.supervision.specs.Session.{wire_id}
use Rattle.supervision.specs.declared.host_node.Told.{Told}
use Rattle.supervision.specs.declared.host_node.Told.TheVariants.{Final, Working, Old}
use Rattle.s0_session.specs.Nonces.{live_of}
use Rattle.s0_crypto.specs.declared.key_pair.Keys.{Keys}
use Rattle.host_orders.specs.declared.carriage.Carriage.{Carriage}
use Rattle.host_requests.specs.declared.end.End.{End}
use Rattle.host_requests.specs.declared.end.How.{How}
use Rattle.host_requests.specs.declared.task.Purpose.{Purpose}
use Rattle.host_requests.specs.declared.task.Purpose.TheVariants.{Housekeeping, Attempt, Abort}
use Rattle.host_requests.specs.declared.task.Task.{Task}
use Rattle.host_requests.specs.declared.task.Task.TheVariants.{NoMore, Offer, Segment}
use Rattle.host_requests.specs.Events.{RequestsEvent, end_at}
use Rattle.host_requests.specs.Events.RequestsEvent.{BeginsAttempt as request_begins_attempt, Fails as request_fails, Pushes as request_pushes, Updates as request_updates}
use Rattle.host_node.specs.declared.attempt.AttemptEnd.{AttemptEnd}
use Rattle.host_node.specs.declared.attempt.AttemptEnd.TheVariants.{NoneRan, Again, Unanswered}
use Rattle.host_node.specs.declared.attempt.Moment.{Moment}
use Rattle.host_node.specs.declared.attempt.Moment.TheVariants.{BeforeItsTick}
use Rattle.host_node.specs.State.{NodeState, is_running, unknown}
use Rattle.host_node.specs.Steps.{as_recorded, after_told, attempt_end, tick_end, with_wait, oldest}
use Rattle.host_node.specs.Facts.{is_recorded, is_final}
use Rattle.host_node.specs.Events.{NodeEvent, after as after_node}
use Rattle.host_node.specs.Events.NodeEvent.{Accepts as node_accepts, Blocks as node_blocks, Cancels as node_cancels, Drops_no_more as node_drops_no_more, Ends_attempt as node_ends_attempt, Ends_no_more as node_ends_no_more, Gives_segment as node_gives_segment, Gives_text as node_gives_text, Holds as node_holds, Interviews as node_interviews, Joins as node_joins, Notifies as node_notifies, Puts as node_puts, Queues_no_more as node_queues_no_more, Reports as node_reports, Restores_seen as node_restores_seen, Starts as node_starts, Succeeds as node_succeeds, Takes_nonce as node_takes_nonce, Ticks as node_ticks}
use Rattle.host_node.specs.TableState.{node_of as node_among, unknown_nodes, unknown_from}
use Rattle.host_keep.specs.Kept.{Kept, after as kept_after}
use Rattle.host_keep.specs.Legal.{is_legal, is_first, first_illegal}
use Rattle.host_keep.specs.Status.{status_byte}
use Rattle.host_keep.specs.declared.final_status.FinalStatus.{FinalStatus}
use Rattle.host_keep.specs.declared.record.Record.{Record}
use Rattle.host_keep.specs.declared.record.Record.TheVariants.{Accepted, Joined, Classes, Begun, Given, Spent, Seen}
use Rattle.host_keep.specs.declared.record.Record.TheVariants as record_of
use Rattle.host_model.specs.State.{HostState, Command, node_of, command_at, with_outcome, first_host, first_nodes, first_classes}
use Rattle.host_model.specs.Sessions.{open_command}
use Rattle.host_model.specs.Ends.{PartEnd, Good, Passed_over, Bad, part_end, after_part, after_task, after_end, after_end_if, attempt_ended, unanswered}
use Rattle.host_model.specs.After.{after, accepting, node_does, node_for, requests_do, request_does, submits, submits_part, is_full, is_held, holding, finishing, giving, offering, queues_if_room, gives_up, line_ticked, failing_if, outcome_of}
use Rattle.host_model.specs.Events.{HostEvent, Accepts, Cancels, Joins, Queues, Queues_interview, Queues_probe, Hears, Requests_do, Interviews, Interview_unkept, Unreads, Is_unkept, Reports_old, Works, Finishes, Offers, Gives, Spends, Spends_unread, Takes_nonce, Notifies, Resends, Hears_value, Has_no_room, Line_ticks, Node_ticks, Queues_no_more, Drops_no_more, Submits_abort, Submits_front, Starts, Gives_text, Gives_segment, Begins, Begin_unkept}
use Rattle.host_model.specs.Records.{records_at}
use Rattle.host_model.specs.May.{May}
use Rattle.host_keep.specs.Keeping.{Shelf}
use Rattle.host_model.specs.Did.{after_all, records_all, texts_of, MayAll, Did}
use Rattle.host_model.specs.Facts.{HostFacts}
use Rattle.host_model.specs.declared.out.HostOut.{HostOut}
use Rattle.host_model.proofs.EventLists.{all_in_range}
use Rattle.host_model.specs.Holding.{Holds, HoldsAlone}
use Rattle.host_model.specs.Restoring.{may_restore, restored, ending, carriage_for}
use Rattle.host_model.specs.Opening.{restored_all, restarted}
use Rattle.host_model.proofs.Fold.{step_none}
use Rattle.host_model.proofs.Tests.{all_true, first_is}
use Rattle.host_core.specs.Recorded.{IsTold, TablesAreTold}
use Rattle.host_core.proofs.Tables.{added_told, tables_on, Sessions, order_with, Alike, alike_tables, then_alike, plain, node_so, outcome_so, begins_told, pushed_told}
use Rattle.host_model.proofs.Places.{one_set as each_set}

-- ---- at the beginning

from_none : (number count m : ℕ) → (node_among (unknown_from number count) m).book.commands ≡ []
from_none number zero m = refl
from_none number (suc more) zero = refl
from_none number (suc more) (suc m) = from_none (suc number) more m

none_begun : (m : ℕ) → (node_among unknown_nodes m).book.commands ≡ []
unfolding unknown_nodes
none_begun zero = refl
none_begun (suc m) = from_none 1 232 m

first_none : (m : ℕ) → (node_among first_nodes m).book.commands ≡ []
unfolding first_nodes
first_none =
    let once = each_set (unknown 0) (λ (s : NodeState) (m : ℕ). s.book.commands ≡ []) unknown_nodes 2 (after_node (node_among unknown_nodes 2) node_joins) none_begun (none_begun 2) in
    let g : List NodeState = set unknown_nodes 2 (after_node (node_among unknown_nodes 2) node_joins) in
    each_set (unknown 0) (λ (s : NodeState) (m : ℕ). s.book.commands ≡ []) g 2 (after_node (node_among g 2) (node_interviews true first_classes)) once (once 2)

-- a host at the beginning has neither session nor command
pub first_told : (told : Option (List (List ℕ))) (keys : Keys) → TablesAreTold told (first_host keys)
first_told told keys = record {
  sessions = λ n. subst (λ (l : List ℕ). Sessions told n l) (sym (first_none n)) (λ session low high. absurd (omega (arith, low, high)));
  commands = none;
}
  where
    none : (number : ℕ) → IfSome (command_at [] number) (λ command. IsTold told (Accepted number command.order))
    none zero = tt
    none (suc k) = tt

-- ---- a report

told_same : (n : NodeState) (status : ℕ) (told : Told) → (after_told n status told).book.commands ≡ n.book.commands
told_same n status (Final session) = refl
told_same n status Working = by (is_running n.series)
  where
    by : (b : Bool) → (if b then with_wait n 100 else n).book.commands ≡ n.book.commands
    by true = refl
    by false = refl
told_same n status Old = refl

-- ---- small steps

unanswered_so : (h : HostState) (o : Option ℕ) → Alike h (unanswered h o)
unanswered_so h None = plain refl refl
unanswered_so h (Some command) = outcome_so h command outcome.Unanswered

attempt_so : (h : HostState) (end : AttemptEnd) (o : Option ℕ) → Alike h (attempt_ended h end o)
attempt_so h NoneRan o = plain refl refl
attempt_so h Again o = plain refl refl
attempt_so h (Unanswered fell) o = unanswered_so h o

queued_so : (h : HostState) (task : Task) → Alike h (queues_if_room h task)
queued_so h task = by (is_full h)
  where
    by : (full : Bool) → Alike h (if full then h else requests_do h (request_pushes task))
    by true = plain refl refl
    by false = plain refl refl

offered_so : (h : HostState) (n : ℕ) (live : Option (List ℕ)) → Alike h (offering h n live)
offered_so h n None = plain refl refl
offered_so h n (Some nonce) = queued_so h (Offer n nonce)

pub joined_so : (h : HostState) (n : ℕ) → Alike h (after h (Joins n))
joined_so h n = node_so h n (after_node (node_of h n) node_joins) refl

pub cancelled_so : (h : HostState) (command : ℕ) → Alike h (after h (Cancels command))
cancelled_so h command =
    then_alike (node_does h (node_for h command) (node_cancels command)) (node_so h (node_for h command) (after_node (node_of h (node_for h command)) (node_cancels command)) refl)
    (outcome_so (node_does h (node_for h command) (node_cancels command)) command outcome.Cancelled)

finished_so : (h : HostState) (n id command : ℕ) (status : FinalStatus) → Alike h (finishing h n id command status)
finished_so h n id command status =
    let s = node_of h n in
    let byte = status_byte status in
    then_alike (node_does h n (node_reports id byte)) (node_so h n (after_node s (node_reports id byte)) (told_same s byte (told_of s.book id byte)))
    (record { sessions = λ m. refl; orders = order_with h.commands command (outcome_of status) })

ended_so : (h : HostState) (n session : ℕ) (status : FinalStatus) (o : Option ℕ) → Alike h (ending h n session status o)
ended_so h n session status None = plain refl refl
ended_so h n session status (Some command) = finished_so h n (wire_id session) command status

-- a restart leaves sessions and commands, where they are those that are kept
pub restarted_told : (told : Option (List (List ℕ))) (h : HostState) (kept : Kept) → Holds h kept → Holds (restarted h) kept → TablesAreTold told h → TablesAreTold told (restarted h)
restarted_told told h kept x y t =
    alike_tables told h (restarted h) (record { sessions = λ n. (y.nodes n).sessions ∙ sym (x.nodes n).sessions; orders = λ number. refl }) t

-- ---- each event

module _ (others : (n : NodeState) (event : NodeEvent) → is_recorded n event ≡ false → as_recorded (after_node n event) ≡ as_recorded n) where
  quiet_so : (h : HostState) (n : ℕ) (event : NodeEvent) → is_recorded (node_of h n) event ≡ false → Alike h (node_does h n event)
  quiet_so h n event e = node_so h n (after_node (node_of h n) event) (ap (λ (s : NodeState). s.book.commands) (others (node_of h n) event e))

  part_so : (h : HostState) (n : ℕ) (end : PartEnd) (moment : Moment) → Alike h (after_part h n end moment)
  part_so h n Good moment = quiet_so h n node_succeeds refl
  part_so h n Passed_over moment = plain refl refl
  part_so h n Bad moment =
      then_alike (node_does h n (node_ends_attempt moment)) (quiet_so h n (node_ends_attempt moment) refl)
      (attempt_so (node_does h n (node_ends_attempt moment)) (attempt_end (node_of h n)) (open_command (node_of h n)))

  task_so : (h : HostState) (task : Task) → Alike h (after_task h task)
  task_so h (NoMore n) = quiet_so h n node_ends_no_more refl
  task_so h _ = plain refl refl

  end_so : (h : HostState) (purpose : Purpose) (how : How) (moment : Moment) → Alike h (after_end h (record { purpose = purpose; how = how }) moment)
  end_so h (Attempt n more payload) how moment = part_so h n (part_end more how) moment
  end_so h (Housekeeping task) how moment = task_so h task
  end_so h Abort how moment = plain refl refl

  end_if_so : (h : HostState) (end : Option End) (moment : Moment) → Alike h (after_end_if h end moment)
  end_if_so h None moment = plain refl refl
  end_if_so h (Some end) moment = end_so h end.purpose end.how moment

  request_so : (h : HostState) (event : RequestsEvent) (moment : Moment) → Alike h (request_does h event moment)
  request_so h event moment = then_alike (requests_do h event) (plain refl refl) (end_if_so (requests_do h event) (end_at h.requests event) moment)

  failed_so : (b : Bool) (h : HostState) → Alike h (failing_if b h)
  failed_so true h = request_so h request_fails BeforeItsTick
  failed_so false h = plain refl refl

  held_so : (h : HostState) (n : ℕ) (held : Bool) → Alike h (holding h n held)
  held_so h n true = quiet_so h n node_holds refl
  held_so h n false = plain refl refl

  submitted_so : (h : HostState) (n : ℕ) (more : Bool) (payload : List ℕ) (gives : NodeEvent) → is_recorded (node_of h n) gives ≡ false → Alike h (submits_part h n more payload gives)
  submitted_so h n more payload gives e =
      let g = record (submits h (Attempt n more payload) (request_begins_attempt n more payload)) { served = n } in
      then_alike g (plain refl refl) (quiet_so g n gives e)

  accepted_told : (told : Option (List (List ℕ))) (h : HostState) (order : Order) (carriage : Carriage) → IsTold told (Accepted (length h.commands + 1) order) → TablesAreTold told h → TablesAreTold told (accepting h order carriage)
  accepted_told told h order carriage is t =
      let one : Command = record { order = order; carriage = carriage; outcome = outcome.Waiting } in
      let g : HostState = record h { commands = h.commands ++ one ∷ []; store = (accepting h order carriage).store } in
      let put = node_does g order.node (node_puts (length h.commands + 1)) in
      alike_tables told put (accepting h order carriage) (quiet_so put order.node node_accepts refl)
      (alike_tables told g put (node_so g order.node (after_node (node_of g order.node) (node_puts (length h.commands + 1))) refl) (pushed_told told h g one refl refl is t))

  begun_told : (told : Option (List (List ℕ))) (h : HostState) (n session command : ℕ) → session ≡ begun_of (node_of h n).book + 1 → command ≡ oldest (node_of h n) → IsTold told (Begun n session command)
      → TablesAreTold told h → TablesAreTold told (after h (Begins n session command))
  begun_told told h n session command next first is t =
      begins_told told h n session command (with_outcome h.commands command outcome.Begun) next first (order_with h.commands command outcome.Begun) is t

  -- what an event leaves as it is, but for accepted orders and begun sessions
  pub event_told : (told : Option (List (List ℕ))) (h : HostState) (event : HostEvent) → May h event → AllByRecursion (IsTold told) (records_at h event) → TablesAreTold told h → TablesAreTold told (after h event)
  event_told told h (Accepts order carriage) may all t = accepted_told told h order carriage all.0 t
  event_told told h (Begins n session command) may all t = begun_told told h n session command may.2 may.3 all.0 t
  event_told told h (Cancels command) may all t = alike_tables told h _ (cancelled_so h command) t
  event_told told h (Joins n) may all t = alike_tables told h _ (joined_so h n) t
  event_told told h (Queues task) may all t = alike_tables told h _ (plain refl refl) t
  event_told told h (Queues_interview n) may all t = alike_tables told h _ (plain refl refl) t
  event_told told h Queues_probe may all t = alike_tables told h _ (plain refl refl) t
  event_told told h (Hears item) may all t = alike_tables told h _ (plain refl refl) t
  event_told told h (Requests_do event moment) may all t = alike_tables told h _ (request_so h event moment) t
  event_told told h (Interviews n listens classes update) may all t =
      let g = requests_do h (request_updates update) in
      alike_tables told h _ (then_alike g (plain refl refl) (node_so g n (after_node (node_of g n) (node_interviews listens classes)) refl)) t
  event_told told h (Interview_unkept n update) may all t = alike_tables told h _ (plain refl refl) t
  event_told told h (Unreads n payload) may all t = t
  event_told told h (Is_unkept n) may all t = t
  event_told told h (Reports_old n id) may all t = t
  event_told told h (Works n id) may all t = alike_tables told h _ (quiet_so h n (node_reports id 1) (ap (λ (said : Told). is_final said) may)) t
  event_told told h (Finishes n session id command status wake_request) may all t =
      let g = finishing h n id command status in
      alike_tables told h _ (then_alike g (finished_so h n id command status) (held_so g n (is_held h n wake_request))) t
  event_told told h (Offers n) may all t = alike_tables told h _ (offered_so h n (live_of h.nonces n)) t
  event_told told h (Gives n drawn) may all t =
      let g = giving h n drawn in
      alike_tables told h _ (then_alike g (plain refl refl) (offered_so g n (live_of g.nonces n))) t
  event_told told h (Spends n) may all t = alike_tables told h _ (plain refl refl) t
  event_told told h (Spends_unread n payload) may all t = alike_tables told h _ (plain refl refl) t
  event_told told h (Takes_nonce n seen text) may all t = alike_tables told h _ (node_so h n (after_node (node_of h n) (node_takes_nonce seen text)) refl) t
  event_told told h (Notifies n) may all t = alike_tables told h _ (quiet_so h n node_notifies refl) t
  event_told told h (Resends n payload) may all t = alike_tables told h _ (queued_so h (Segment n payload)) t
  event_told told h (Hears_value n setting) may all t = alike_tables told h _ (plain refl refl) t
  event_told told h (Has_no_room n property) may all t = t
  event_told told h Line_ticks may all t =
      alike_tables told h _ (then_alike (line_ticked h) (plain refl refl) (failed_so (gives_up h.side.turn (tick_side h.side).turn) (line_ticked h))) t
  event_told told h (Node_ticks n) may all t =
      let g = node_does h n node_ticks in
      alike_tables told h _ (then_alike g (quiet_so h n node_ticks refl) (attempt_so g (tick_end (node_of h n)) (open_command (node_of h n)))) t
  event_told told h (Queues_no_more n) may all t =
      alike_tables told h _ (then_alike (node_does h n node_queues_no_more) (quiet_so h n node_queues_no_more refl) (plain refl refl)) t
  event_told told h (Drops_no_more n) may all t = alike_tables told h _ (quiet_so h n node_drops_no_more refl) t
  event_told told h Submits_abort may all t = alike_tables told h _ (plain refl refl) t
  event_told told h Submits_front may all t = alike_tables told h _ (plain refl refl) t
  event_told told h (Starts n plan more payload) may all t = alike_tables told h _ (submitted_so h n more payload (node_starts plan) refl) t
  event_told told h (Gives_text n payload) may all t = alike_tables told h _ (submitted_so h n false payload node_gives_text refl) t
  event_told told h (Gives_segment n more payload) may all t = alike_tables told h _ (submitted_so h n more payload node_gives_segment refl) t
  event_told told h (Begin_unkept n) may all t = alike_tables told h _ (quiet_so h n node_blocks refl) t

  -- and of events one after another
  events_told : (told : Option (List (List ℕ))) (h : HostState) (events : List HostEvent) → MayAll h events → AllByRecursion (IsTold told) (records_all h events) → TablesAreTold told h → TablesAreTold told (after_all h events)
  events_told told h [] may all t = t
  events_told told h (event ∷ more) may all t =
      let both = apart (records_at h event) (records_all (after h event) more) all in
      events_told told (after h event) more may.1 both.1 (event_told told h event may.0 both.0 t)
    where
      apart : (a b : List Record) → AllByRecursion (IsTold told) (a ++ b) → AllByRecursion (IsTold told) a × AllByRecursion (IsTold told) b
      apart [] b so = (tt, so)
      apart (one ∷ a) b so = let rest = apart a b so.1 in ((so.0, rest.0), rest.1)

  pub did_told : (events : List HostEvent) (old new : HostState) (before all : List HostOut) (shelf shelf' : Shelf) → Did events old new before all shelf shelf' → TablesAreTold shelf.records old → TablesAreTold shelf'.records new
  did_told events old new before all shelf shelf' d t =
      subst (λ (h : HostState). TablesAreTold shelf'.records h) (sym d.state)
      (events_told shelf'.records old events d.may (added_told (records_all old events) shelf.records shelf'.records (all_in_range old events d.may) d.records)
      (tables_on shelf.records shelf'.records (texts_of (records_all old events)) old d.records t))

  -- ---- records that are taken up

  first_so : (l : List ℕ) (command : ℕ) → is_first l command ≡ true → command ≡ get_or l 0 0
  first_so l command e = ap (λ (k : List ℕ). get_or k 0 0) (sym (first_is l command e))

  taken_up_told : (told : Option (List (List ℕ))) (h : HostState) (one : Record) → may_restore h one ≡ true → IsTold told one → TablesAreTold told h → TablesAreTold told (restored h one)
  taken_up_told told h (Accepted command order) may is t =
      accepted_told told h order (carriage_for h order)
      (subst (λ (k : ℕ). IsTold told (Accepted k order)) (eqb-true command (length h.commands + 1) (both_true (command == length h.commands + 1) _ may).0) is) t
  taken_up_told told h (Joined n) may is t = alike_tables told h _ (joined_so h n) t
  taken_up_told told h (Classes n listens classes) may is t = alike_tables told h _ (node_so h n (after_node (node_of h n) (node_interviews listens classes)) refl) t
  taken_up_told told h (Begun n session command) may is t =
      let s = node_of h n in
      let tests = all_true (session == begun_of s.book + 1) (is_none (open_session s.book)) (is_first s.waiting command) may in
      begun_told told h n session command (eqb-true session (begun_of s.book + 1) tests.0) (first_so s.waiting command tests.2) is t
  taken_up_told told h (record_of.Final n session status) may is t =
      alike_tables told h _ (ended_so h n session status (command_of_session (node_of h n).book.commands session)) t
  taken_up_told told h (record_of.Cancelled command) may is t = alike_tables told h _ (cancelled_so h command) t
  taken_up_told told h (Given n given nonce) may is t = alike_tables told h _ (plain refl refl) t
  taken_up_told told h (Spent n) may is t = alike_tables told h _ (plain refl refl) t
  taken_up_told told h (Seen n seen) may is t = alike_tables told h _ (node_so h n (after_node (node_of h n) (node_restores_seen seen)) refl) t

  -- what is known of records that a host takes up
  module _ (may : (h : HostState) (kept : Kept) (one : Record) → HoldsAlone h kept → may_restore h one ≡ is_legal kept one)
      (holds : (h : HostState) (kept : Kept) (one : Record) → HostFacts h → HoldsAlone h kept → is_legal kept one ≡ true → HoldsAlone (restored h one) (kept_after kept one))
      (facts : (h : HostState) (one : Record) → HostFacts h → may_restore h one ≡ true → HostFacts (restored h one)) where
    pub all_taken_up_told : (told : Option (List (List ℕ))) (h : HostState) (kept : Kept) (records : List Record) → HostFacts h → HoldsAlone h kept → first_illegal kept records ≡ None
        → AllByRecursion (IsTold told) records → TablesAreTold told h → TablesAreTold told (restored_all h records)
    unfolding restored_all first_illegal
    all_taken_up_told told h kept [] f x legal all t = t
    all_taken_up_told told h kept (one ∷ more) f x legal all t =
        let both = step_none (is_legal kept one) (first_illegal (kept_after kept one) more) legal in
        let test = may h kept one x ∙ both.0 in
        all_taken_up_told told (restored h one) (kept_after kept one) more (facts h one f test) (holds h kept one f x both.0) both.1 all.1 (taken_up_told told h one test all.0 t)
