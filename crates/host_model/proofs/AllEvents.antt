-- Every event of a host does to its tables what its records do, and so do events one after another.
use Rattle.std.proofs.Common.{◌≡◌, ℕ, Bool, true, false, List, [], ◌∷◌, Option, Some, None, drop, refl, sym, ap, ◌∙◌, subst}
use Rattle.std.proofs.lemmas.List.Elements.{All-contains, All-get_or}
use Rattle.supervision.specs.declared.host_node.Told.{Told}
use Rattle.serial_link.specs.State.{hear, tick_side}
use Rattle.s0_session.specs.Nonces.{account_of, live_of}
use Rattle.host_requests.specs.declared.end.End.{End}
use Rattle.host_requests.specs.declared.end.How.{How}
use Rattle.host_requests.specs.declared.task.Purpose.{Purpose}
use Rattle.host_requests.specs.declared.task.Purpose.TheVariants.{Housekeeping, Attempt, Abort}
use Rattle.host_requests.specs.declared.task.Task.{Task}
use Rattle.host_requests.specs.declared.task.Task.TheVariants.{NoMore, Segment}
use Rattle.host_requests.specs.Events.{RequestsEvent, end_at, after as after_request}
use Rattle.host_requests.specs.Events.RequestsEvent.{Fails as request_fails, BeginsAttempt as request_begins_attempt, Updates as request_updates}
use Rattle.host_node.specs.declared.attempt.Moment.{Moment}
use Rattle.host_node.specs.declared.attempt.Moment.TheVariants.{BeforeItsTick}
use Rattle.host_node.specs.State.{NodeState}
use Rattle.host_node.specs.Steps.{as_recorded, attempt_end, tick_end, after_join, after_interview}
use Rattle.host_node.specs.Facts.{is_recorded, is_final}
use Rattle.host_node.specs.Events.{NodeEvent, after as after_node}
use Rattle.host_node.specs.Events.NodeEvent.{Blocks as node_blocks, Drops_no_more as node_drops_no_more, Ends_attempt as node_ends_attempt, Ends_no_more as node_ends_no_more, Gives_segment as node_gives_segment, Gives_text as node_gives_text, Holds as node_holds, Notifies as node_notifies, Queues_no_more as node_queues_no_more, Reports as node_reports, Starts as node_starts, Succeeds as node_succeeds, Ticks as node_ticks}
use Rattle.host_keep.specs.Kept.{Kept, node_of as kept_of_node, joining, interviewed, is_among, after_all as kept_after_all}
use Rattle.host_keep.specs.Status.{status_byte}
use Rattle.host_model.specs.State.{HostState, node_of}
use Rattle.host_model.specs.Sessions.{open_command}
use Rattle.host_model.specs.Ends.{PartEnd, Good, Passed_over, Bad, part_end, after_part, after_task, after_end, after_end_if}
use Rattle.host_model.specs.After.{after, node_does, node_for, requests_do, request_does, submits, submits_part, is_held, holding, finishing, giving, gives_up, line_ticked, failing_if}
use Rattle.host_model.specs.Events.{HostEvent, Accepts, Cancels, Joins, Queues, Queues_interview, Queues_probe, Hears, Requests_do, Interviews, Interview_unkept, Unreads, Is_unkept, Reports_old, Works, Finishes, Offers, Gives, Spends, Spends_unread, Takes_nonce, Notifies, Resends, Hears_value, Has_no_room, Line_ticks, Node_ticks, Queues_no_more, Drops_no_more, Submits_abort, Submits_front, Starts, Gives_text, Gives_segment, Begins, Begin_unkept}
use Rattle.host_model.specs.Records.{records_at}
use Rattle.host_model.specs.May.{May}
use Rattle.host_model.specs.Did.{after_all, records_all, MayAll}
use Rattle.host_model.specs.Facts.{HostFacts, IsCommandOf, OwnsCommands}
use Rattle.host_model.specs.Holding.{Holds}
use Rattle.host_model.proofs.OpenSessions.{going_of, final_session}
use Rattle.host_model.proofs.Steps.{quiet, node_changes, joined, interview_said}
use Rattle.host_model.proofs.Begun.{begun}
use Rattle.host_model.proofs.Cancelled.{cancelled_is}
use Rattle.host_model.proofs.Finished.{finished, found_sound}
use Rattle.host_model.proofs.Events.{session_owned, contained, first_of, open_fact, attempt_over, queued, offered, heard, gave, spent, sees, node_quiet, accepted}
use Rattle.host_keep.proofs.RecordLists.{after_all-append}

abbrev Owned : HostState → Type 0
Owned h = (n : ℕ) → OwnsCommands h.commands n (node_of h n)

module _ (others : (n : NodeState) (event : NodeEvent) → is_recorded n event ≡ false → as_recorded (after_node n event) ≡ as_recorded n) where
  part_over : (h : HostState) (kept : Kept) (n : ℕ) (end : PartEnd) (moment : Moment) → Owned h → Holds h kept → Holds (after_part h n end moment) kept
  part_over h kept n Good moment owns x = node_quiet others h kept n node_succeeds refl x
  part_over h kept n Passed_over moment owns x = x
  part_over h kept n Bad moment owns x =
      attempt_over (node_does h n (node_ends_attempt moment)) kept n (attempt_end (node_of h n)) (open_command (node_of h n))
      (λ command e. let b = open_fact h kept n (owns n) x command e in record { owned = b.owned; begun = b.begun }) (node_quiet others h kept n (node_ends_attempt moment) refl x)

  task_over : (h : HostState) (kept : Kept) (task : Task) → Holds h kept → Holds (after_task h task) kept
  task_over h kept (NoMore n) x = node_quiet others h kept n node_ends_no_more refl x
  task_over h kept _ x = x

  over : (h : HostState) (kept : Kept) (purpose : Purpose) (how : How) (moment : Moment) → Owned h → Holds h kept → Holds (after_end h (record { purpose = purpose; how = how }) moment) kept
  over h kept (Attempt n more payload) how moment owns x = part_over h kept n (part_end more how) moment owns x
  over h kept (Housekeeping task) how moment owns x = task_over h kept task x
  over h kept Abort how moment owns x = x

  over_if : (h : HostState) (kept : Kept) (end : Option End) (moment : Moment) → Owned h → Holds h kept → Holds (after_end_if h end moment) kept
  over_if h kept None moment owns x = x
  over_if h kept (Some end) moment owns x = over h kept end.purpose end.how moment owns x

  request_did : (h : HostState) (kept : Kept) (event : RequestsEvent) (moment : Moment) → Owned h → Holds h kept → Holds (request_does h event moment) kept
  request_did h kept event moment owns x = over_if (requests_do h event) kept (end_at h.requests event) moment owns (quiet h kept h.side (after_request h.requests event) h.served x)

  failed_if : (b : Bool) (h : HostState) (kept : Kept) → Owned h → Holds h kept → Holds (failing_if b h) kept
  failed_if true h kept owns x = request_did h kept request_fails BeforeItsTick owns x
  failed_if false h kept owns x = x

  held_if : (h : HostState) (kept : Kept) (n : ℕ) (held : Bool) → Holds h kept → Holds (holding h n held) kept
  held_if h kept n true x = node_quiet others h kept n node_holds refl x
  held_if h kept n false x = x

  part_submitted : (h : HostState) (kept : Kept) (n : ℕ) (more : Bool) (payload : List ℕ) (gives : NodeEvent) → is_recorded (node_of h n) gives ≡ false → Holds h kept → Holds (submits_part h n more payload gives) kept
  part_submitted h kept n more payload gives e x =
      node_quiet others (record (submits h (Attempt n more payload) (request_begins_attempt n more payload)) { served = n }) kept n gives e (quiet h kept _ _ n x)

  pub kept_by : (h : HostState) (kept : Kept) (event : HostEvent) → HostFacts h → May h event → Holds h kept → Holds (after h event) (kept_after_all kept (records_at h event))
  unfolding kept_after_all
  kept_by h kept (Accepts order carriage) f may x = accepted others h kept order carriage may.classes may.listed may.carried f.owns x
  kept_by h kept (Cancels command) f may x =
      let n = node_for h command in
      cancelled_is h kept command (ap (λ (l : List ℕ). is_among l command) (sym (x.nodes n).waiting) ∙ contained (node_of h n).waiting command may)
      (All-contains (IsCommandOf h.commands n) (node_of h n).waiting command (f.owns n).waiting may) x
  kept_by h kept (Joins n) f may x = node_changes h kept n (joining (kept_of_node kept n)) refl refl x (after_join (node_of h n)) (joined (node_of h n) (account_of h.nonces n) (kept_of_node kept n) (x.nodes n))
  kept_by h kept (Queues task) f may x = quiet h kept h.side _ h.served x
  kept_by h kept (Queues_interview n) f may x = quiet h kept h.side _ h.served x
  kept_by h kept Queues_probe f may x = quiet h kept h.side _ h.served x
  kept_by h kept (Hears item) f may x = quiet h kept (hear h.side item) h.requests h.served x
  kept_by h kept (Requests_do event moment) f may x = request_did h kept event moment f.owns x
  kept_by h kept (Interviews n listens classes update) f may x =
      let y = quiet h kept h.side (after_request h.requests (request_updates update)) h.served x in
      node_changes (requests_do h (request_updates update)) kept n (interviewed (kept_of_node kept n) listens classes) refl refl y (after_interview (node_of h n) listens classes)
      (interview_said (node_of h n) (account_of h.nonces n) (kept_of_node kept n) listens classes (x.nodes n))
  kept_by h kept (Interview_unkept n update) f may x = quiet h kept h.side _ h.served x
  kept_by h kept (Unreads n payload) f may x = x
  kept_by h kept (Is_unkept n) f may x = x
  kept_by h kept (Reports_old n id) f may x = x
  kept_by h kept (Works n id) f may x = node_quiet others h kept n (node_reports id 1) (ap (λ (t : Told). is_final t) may) x
  kept_by h kept (Finishes n session id command status wake_request) f may x =
      let opened = final_session (node_of h n).book id (status_byte status) session may.told in
      let going = going_of (node_of h n).book (kept_of_node kept n).sessions session command (x.nodes n).sessions (x.nodes n).ended opened may.carried in
      let owned = session_owned h n session command (f.owns n) may.carried in
      held_if (finishing h n id command status) _ n (is_held h n wake_request)
      (finished h kept n id command session status may.told going.0 owned (found_sound h.store h.commands command owned.command owned.found f.commands) x)
  kept_by h kept (Offers n) f may x = offered h kept n (live_of h.nonces n) x
  kept_by h kept (Gives n drawn) f may x = offered (giving h n drawn) _ n (live_of (giving h n drawn).nonces n) (gave h kept n drawn may.0 x)
  kept_by h kept (Spends n) f may x = spent h kept n x
  kept_by h kept (Spends_unread n payload) f may x = spent h kept n x
  kept_by h kept (Takes_nonce n seen text) f may x = sees h kept n seen text x
  kept_by h kept (Notifies n) f may x = node_quiet others h kept n node_notifies refl x
  kept_by h kept (Resends n payload) f may x = queued h kept (Segment n payload) x
  kept_by h kept (Hears_value n setting) f may x = heard h kept n setting x
  kept_by h kept (Has_no_room n property) f may x = x
  kept_by h kept Line_ticks f may x = failed_if (gives_up h.side.turn (tick_side h.side).turn) (line_ticked h) kept f.owns (quiet h kept (tick_side h.side) h.requests h.served x)
  kept_by h kept (Node_ticks n) f may x =
      attempt_over (node_does h n node_ticks) kept n (tick_end (node_of h n)) (open_command (node_of h n))
      (λ command e. let b = open_fact h kept n (f.owns n) x command e in record { owned = b.owned; begun = b.begun }) (node_quiet others h kept n node_ticks refl x)
  kept_by h kept (Queues_no_more n) f may x = quiet (node_does h n node_queues_no_more) kept h.side _ h.served (node_quiet others h kept n node_queues_no_more refl x)
  kept_by h kept (Drops_no_more n) f may x = node_quiet others h kept n node_drops_no_more refl x
  kept_by h kept Submits_abort f may x = quiet h kept _ _ h.served x
  kept_by h kept Submits_front f may x = quiet h kept _ _ h.served x
  kept_by h kept (Starts n plan more payload) f may x = part_submitted h kept n more payload (node_starts plan) refl x
  kept_by h kept (Gives_text n payload) f may x = part_submitted h kept n false payload node_gives_text refl x
  kept_by h kept (Gives_segment n more payload) f may x = part_submitted h kept n more payload node_gives_segment refl x
  kept_by h kept (Begins n session command) f may x =
      let waiting = first_of (node_of h n).waiting may.1.0 in
      let first = sym (x.nodes n).waiting ∙ waiting ∙ ap (λ (c : ℕ). c ∷ drop 1 (node_of h n).waiting) (sym may.3) in
      begun h kept n command (drop 1 (node_of h n).waiting) first
      (subst (λ (c : ℕ). IsCommandOf h.commands n c) (sym may.3) (All-get_or (IsCommandOf h.commands n) (node_of h n).waiting 0 0 may.1.0 (f.owns n).waiting)) x
  kept_by h kept (Begin_unkept n) f may x = node_quiet others h kept n node_blocks refl x

  module _ (facts : (h : HostState) (event : HostEvent) → HostFacts h → May h event → HostFacts (after h event)) where
    pub all_kept : (h : HostState) (kept : Kept) (events : List HostEvent) → HostFacts h → MayAll h events → Holds h kept → Holds (after_all h events) (kept_after_all kept (records_all h events))
    unfolding kept_after_all
    all_kept h kept [] f may x = x
    all_kept h kept (event ∷ more) f may x =
        subst (λ (k : Kept). Holds (after_all (after h event) more) k) (sym (after_all-append kept (records_at h event) (records_all (after h event) more)))
        (all_kept (after h event) (kept_after_all kept (records_at h event)) more (facts h event f may.0) may.1 (kept_by h kept event f may.0 x))
