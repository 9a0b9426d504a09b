-- Each event of a host does one of six things to its commands and nodes.
use Rattle.std.proofs.Common.{◌≡◌, ℕ, ◌+◌, ◌<◌, Bool, true, false, if◌then◌else◌, Option, Some, None, List, [], ◌∷◌, ◌++◌, length, inl, inr, refl, sym, ap, subst, ap₂, ◌∙◌, arith}
use Rattle.std.specs.Prelude.{Contains}
use Rattle.std.specs.List.{AllByRecursion}
use Rattle.std.proofs.lemmas.Bool.{cases_eq, cases_lt}
use Rattle.std.proofs.lemmas.List.{get_or_past, get_or-set_same, get_or-set_other, set_past}
use Rattle.zw_text.specs.declared.entry.Entry.{Entry}
use Rattle.zw_text.specs.declared.entry.Entry.TheVariants.{Begin}
use Rattle.zw_text.specs.declared.entry.Outcome.TheVariants as outcome
use Rattle.zw_base.specs.declared.order.Order.{Order}
use Rattle.supervision.specs.Host.{open_session, told_of, command_at as command_of_session}
use Rattle.supervision.specs.declared.host_node.Told.{Told}
use Rattle.supervision.specs.declared.host_node.Told.TheVariants.{Final, Working, Old}
use Rattle.s0_session.specs.Nonces.{live_of}
use Rattle.serial_link.specs.State.{tick_side, copy_due}
use Rattle.serial_frame.specs.Frame.{FrameParts}
use Rattle.serial_frame.specs.declared.item.Item.{Item}
use Rattle.serial_frame.specs.declared.item.Item.TheVariants.{Good as good_item, Refused as refused_item}
use Rattle.serial_frame.specs.declared.item.Refusal.TheVariants.{Stray, BadLength, BadSum, BadKind, Aborted}
use Rattle.serial_frame.specs.declared.unit.Unit.TheVariants.{Ack, Nak, Can, Framed}
use Rattle.chip_functions.specs.declared.response.Response.TheVariants.{GetRoutingInfo, IsFailedNode}
use Rattle.host_model.specs.host_requests.declared.end.End.{End}
use Rattle.host_model.specs.host_requests.declared.end.How.{How}
use Rattle.host_model.specs.host_requests.declared.end.How.TheVariants.{AtResponse}
use Rattle.host_model.specs.host_requests.declared.task.Purpose.{Purpose}
use Rattle.host_model.specs.host_requests.declared.task.Purpose.TheVariants.{Housekeeping, Attempt, Abort}
use Rattle.host_model.specs.host_requests.declared.task.Task.{Task}
use Rattle.host_model.specs.host_requests.declared.task.Task.TheVariants.{Plain, NoMore, Second, Neighbours, IsFailed}
use Rattle.host_model.specs.host_requests.Events.{RequestsEvent, end_at}
use Rattle.host_model.specs.host_requests.Events.RequestsEvent.{Fails as request_fails}
use Rattle.host_model.specs.host_node.declared.attempt.Moment.{Moment}
use Rattle.host_model.specs.host_node.declared.attempt.Moment.TheVariants.{BeforeItsTick}
use Rattle.host_model.specs.host_node.declared.attempt.AttemptEnd.{AttemptEnd}
use Rattle.host_model.specs.host_node.declared.attempt.AttemptEnd.TheVariants.{NoneRan, Again, Unanswered}
use Rattle.host_model.specs.host_node.State.{NodeState, unknown}
use Rattle.host_model.specs.host_node.Steps.{after_attempt_end, after_put, after_told, as_recorded, attempt_end, falls_asleep, tick_end}
use Rattle.host_model.specs.host_node.Events.{NodeEvent, after as after_node}
use Rattle.host_model.specs.host_node.Events.NodeEvent.{Accepts as node_accepts, Blocks as node_blocks, Drops_no_more as node_drops_no_more, Ends_attempt as node_ends_attempt, Ends_no_more as node_ends_no_more, Gives_segment as node_gives_segment, Gives_text as node_gives_text, Notifies as node_notifies, Queues_no_more as node_queues_no_more, Reports as node_reports, Starts as node_starts, Succeeds as node_succeeds, Ticks as node_ticks}
use Rattle.host_model.specs.host_node.Facts.{is_recorded, is_final}
use Rattle.host_model.specs.host_node.TableState.{node_of, with_node}
use Rattle.host_model.specs.host_keep.declared.final_status.FinalStatus.{FinalStatus}
use Rattle.host_model.specs.host_keep.Status.{status_byte}
use Rattle.law_transcript.specs.host_orders.declared.carriage.Carriage.{Carriage}
use Rattle.host_model.specs.State.{HostState, Command, with_outcome}
use Rattle.host_model.specs.Sessions.{command_by, open_command}
use Rattle.host_model.specs.Ends.{PartEnd, Good, Passed_over, Bad, part_end, after_part, part_entries, after_task, task_entries, after_end, end_entries, after_end_if, end_entries_if, attempt_ended, attempt_entries, asleep_entry, neighbours_entry, failed_entry}
use Rattle.host_model.specs.After.{after, requests_do, request_does, accepting, node_for, is_held, holding, finishing, giving, offering, is_full, gives_up, line_ticked, failing_if}
use Rattle.host_model.specs.Outs.{answer_to, copy_out, noted, request_entries, failing_entries, dropped_if, held_entries}
use Rattle.host_model.specs.Events.{HostEvent, Accepts, Cancels, Joins, Queues, Queues_interview, Queues_probe, Hears, Requests_do, Interviews, Interview_unkept, Unreads, Is_unkept, Reports_old, Works, Finishes, Offers, Gives, Spends, Spends_unread, Takes_nonce, Notifies, Resends, Hears_value, Has_no_room, Line_ticks, Node_ticks, Queues_no_more, Drops_no_more, Submits_abort, Submits_front, Starts, Gives_text, Gives_segment, Begins, Begin_unkept}
use Rattle.host_model.specs.May.{May, IsAccepted, IsFinal}
use Rattle.proof_host.specs.Entries.{IsAside, notes_of, entries_at}
use Rattle.value_store.specs.Values.{Values, stored_of}
use Rattle.law_transcript.specs.host_orders.Settings.{settings, properties_of}
use Rattle.proof_host.proofs.Values.{reserving_same, hearing_same}
use Rattle.proof_host.proofs.Effect.{only_commands, SameNodes, OneNode, Effect, Leaving, Unanswering, Accepting, Cancelling, Beginning, Finishing}

-- ---- nodes

-- a node is so now, with the same commands
pub same_set : (nodes : List NodeState) (n : ℕ) (state : NodeState) → only_commands state ≡ only_commands (node_of nodes n) → SameNodes nodes (with_node nodes n state)
same_set nodes n state e m = elim (cases_eq m n) [
  | inl same ↦ elim (cases_lt n (length nodes)) [
    | inl within ↦ ap (λ (k : ℕ). only_commands (node_of (with_node nodes n state) k)) same
        ∙ ap (λ (s : NodeState). only_commands s) (get_or-set_same nodes n state (unknown 0) within)
        ∙ e ∙ ap (λ (k : ℕ). only_commands (node_of nodes k)) (sym same)
    | inr past ↦ ap (λ (l : List NodeState). only_commands (node_of l m)) (set_past nodes n state past)
  ]
  | inr other ↦ ap (λ (s : NodeState). only_commands s) (get_or-set_other nodes n m state (unknown 0) other)
]

-- a node is so now
pub one_set : (nodes : List NodeState) (n : ℕ) (state : NodeState) → n < length nodes → OneNode nodes (with_node nodes n state) n state
one_set nodes n state within = record {
  here = ap (λ (s : NodeState). only_commands s) (get_or-set_same nodes n state (unknown 0) within);
  there = λ m other. ap (λ (s : NodeState). only_commands s) (get_or-set_other nodes n m state (unknown 0) other);
}

-- and then others change nothing
then_same : (a b c : List NodeState) (n : ℕ) (state : NodeState) → OneNode a b n state → SameNodes b c → OneNode a c n state
then_same a b c n state one same = record { here = same n ∙ one.here; there = λ m other. same m ∙ one.there m other }

-- it is as good as another state with the same commands
as_other : (a b : List NodeState) (n : ℕ) (state other : NodeState) → only_commands state ≡ only_commands other → OneNode a b n state → OneNode a b n other
as_other a b n state other e one = record { here = one.here ∙ e; there = one.there }

-- a node of which something is known has a place
place_of : (nodes : List NodeState) (n : ℕ) → (node_of nodes n ≡ unknown 0 → ⊥) → n < length nodes
place_of nodes n known = elim (cases_lt n (length nodes)) [
  | inl within ↦ within
  | inr past ↦ absurd (known (get_or_past nodes n (unknown 0) past))
]

some_contained : (l : List ℕ) (c : ℕ) → Contains l c → 0 < length l
some_contained l c has = omega (arith, has.1)

none_waits : (l : List ℕ) → l ≡ [] → 0 < length l → ⊥
none_waits [] e some = omega arith
none_waits (x ∷ l) e some = cc

pub waits_place : (nodes : List NodeState) (n : ℕ) → 0 < length (node_of nodes n).waiting → n < length nodes
waits_place nodes n some = place_of nodes n (λ e. none_waits (node_of nodes n).waiting (ap (λ (s : NodeState). s.waiting) e) some)

opened_place : (nodes : List NodeState) (n c : ℕ) → open_command (node_of nodes n) ≡ Some c → n < length nodes
opened_place nodes n c opened = place_of nodes n (λ e. by (ap (λ (s : NodeState). open_command s) e) opened)
  where
    by : {o : Option ℕ} → o ≡ None → o ≡ Some c → ⊥
    by none some = cc

listed_place : (nodes : List NodeState) (n : ℕ) (classes : List ℕ) → (node_of nodes n).classes ≡ Some classes → n < length nodes
listed_place nodes n classes listed = place_of nodes n (λ e. by (ap (λ (s : NodeState). s.classes) e) listed)
  where
    by : {o : Option (List ℕ)} → o ≡ None → o ≡ Some classes → ⊥
    by none some = cc

-- ---- entries

pub notes_noted : (entries : List Entry) → notes_of (noted entries) ≡ entries
notes_noted [] = refl
notes_noted (e ∷ entries) = ap (λ (l : List Entry). e ∷ l) (notes_noted entries)

answer_notes : (item : Item) → notes_of (answer_to item) ≡ []
answer_notes (good_item (Framed f)) = refl
answer_notes (good_item Ack) = refl
answer_notes (good_item Nak) = refl
answer_notes (good_item Can) = refl
answer_notes (refused_item (BadSum want got)) = refl
answer_notes (refused_item (BadKind x)) = refl
answer_notes (refused_item (Stray x)) = refl
answer_notes (refused_item (BadLength n)) = refl
answer_notes (refused_item Aborted) = refl

pub copy_notes : (copy : Option FrameParts) (entries : List Entry) → notes_of (copy_out copy ++ noted entries) ≡ entries
copy_notes None entries = notes_noted entries
copy_notes (Some f) entries = notes_noted entries

asleep_aside : (fell : Bool) (n : ℕ) → AllByRecursion IsAside (asleep_entry fell n)
asleep_aside true n = (tt, tt)
asleep_aside false n = tt

dropped_aside : (full : Bool) (n : ℕ) → AllByRecursion IsAside (dropped_if full n)
dropped_aside true n = (tt, tt)
dropped_aside false n = tt

held_aside : (n : ℕ) (held : Bool) → AllByRecursion IsAside (held_entries n held)
held_aside n true = (tt, tt)
held_aside n false = tt

neighbours_aside : (n : ℕ) (how : How) → AllByRecursion IsAside (neighbours_entry n how)
neighbours_aside n (AtResponse (GetRoutingInfo nodes)) = (tt, tt)
neighbours_aside n _ = tt

failed_aside : (n : ℕ) (how : How) → AllByRecursion IsAside (failed_entry n how)
failed_aside n (AtResponse (IsFailedNode failed)) = (tt, tt)
failed_aside n _ = tt

task_aside : (h : HostState) (task : Task) (how : How) → AllByRecursion IsAside (task_entries h task how)
task_aside h (Plain n payload) how = (tt, tt)
task_aside h (NoMore n) how = asleep_aside (falls_asleep (node_of h.nodes n)) n
task_aside h (Second n) how = (tt, tt)
task_aside h (Neighbours n) how = neighbours_aside n how
task_aside h (IsFailed n) how = failed_aside n how
task_aside h _ how = tt

-- ---- what is told

chosen : (same works : Bool) (s session : ℕ) → (if same then (if works then Working else Final s) else Old) ≡ Final session → Some s ≡ Some session
chosen true true s session e = cc
chosen true false s session e = cc
chosen false works s session e = cc

ends_open : (outcome : Option ℕ) (commands : List ℕ) (attempts id status session : ℕ) → told_of (record { commands = commands; outcome = outcome; attempts = attempts }) id status ≡ Final session
    → open_session (record { commands = commands; outcome = outcome; attempts = attempts }) ≡ Some session
ends_open (Some s) commands attempts id status session e = cc
ends_open None [] attempts id status session e = cc
ends_open None (c ∷ more) attempts id status session e = chosen _ _ (length (c ∷ more)) session e

final_opened : (n : NodeState) (id status session command : ℕ) → told_of n.book id status ≡ Final session → command_of_session n.book.commands session ≡ Some command → open_command n ≡ Some command
final_opened n id status session command told carried =
    by (open_session n.book) (ends_open n.book.outcome n.book.commands n.book.attempts id status session told)
  where
    by : (o : Option ℕ) → o ≡ Some session → command_by n o ≡ Some command
    by None e = cc
    by (Some s) e = ap (λ (k : ℕ). command_of_session n.book.commands k) (some_same e) ∙ carried
      where
        some_same : {a b : ℕ} → Some a ≡ Some b → a ≡ b
        some_same e = cc

-- ---- events

-- from one host to another, with these entries
abbrev pub Between : HostState → HostState → List Entry → Type 0
Between old new entries = Effect old.commands new.commands old.nodes new.nodes old.store new.store entries

-- the same, with the entries as they are noted
pub noted_so : {cs cs' : List Command} {ns ns' : List NodeState} {store store' : Values} {entries puts : List Entry} → puts ≡ entries → Effect cs cs' ns ns' store store' entries
    → Effect cs cs' ns ns' store store' puts
noted_so {cs} {cs'} {ns} {ns'} {store} {store'} e effect = subst (λ (l : List Entry). Effect cs cs' ns ns' store store' l) (sym e) effect

pub left : (commands : List Command) (nodes nodes' : List NodeState) (store : Values) (entries : List Entry) → SameNodes nodes nodes' → AllByRecursion IsAside entries
    → Effect commands commands nodes nodes' store store entries
left commands nodes nodes' store entries same asides = Leaving (record { commands_are = refl; nodes_are = same; asides = asides }) (λ n p. refl)

pub untouched : (h : HostState) (entries : List Entry) → AllByRecursion IsAside entries → Between h h entries
untouched h entries asides = left h.commands h.nodes h.nodes h.store entries (λ m. refl) asides

queued : (h : HostState) (full : Bool) (more : HostState) (entries : List Entry) → more.commands ≡ h.commands → more.nodes ≡ h.nodes → more.store ≡ h.store → AllByRecursion IsAside entries → Between h (if full then h else more) entries
queued h true more entries commands nodes store asides = untouched h entries asides
queued h false more entries commands nodes store asides =
    Leaving (record { commands_are = commands; nodes_are = λ m. ap (λ (l : List NodeState). only_commands (node_of l m)) nodes; asides = asides })
    (λ n p. ap (λ (v : Values). (stored_of v n p).confirmed) store)

offered : (h : HostState) (n : ℕ) (live : Option (List ℕ)) (entries : List Entry) → AllByRecursion IsAside entries → Between h (offering h n live) entries
offered h n None entries asides = untouched h entries asides
offered h n (Some nonce) entries asides = queued h (is_full h) _ entries refl refl refl asides

-- an attempt of a node ended
attempt_over : (h : HostState) (n : ℕ) (state : NodeState) (end : AttemptEnd) → only_commands state ≡ only_commands (node_of h.nodes n)
    → Between h (attempt_ended (record h { nodes = with_node h.nodes n state }) end (open_command (node_of h.nodes n))) (attempt_entries n end (open_command (node_of h.nodes n)))
attempt_over h n state NoneRan e = left h.commands h.nodes (with_node h.nodes n state) h.store [] (same_set h.nodes n state e) tt
attempt_over h n state Again e = left h.commands h.nodes (with_node h.nodes n state) h.store [] (same_set h.nodes n state e) tt
attempt_over h n state (Unanswered fell) e = by (open_command (node_of h.nodes n)) refl
  where
    by : (o : Option ℕ) → open_command (node_of h.nodes n) ≡ o
        → Between h (attempt_ended (record h { nodes = with_node h.nodes n state }) (Unanswered fell) o) (attempt_entries n (Unanswered fell) o)
    by None is = left h.commands h.nodes (with_node h.nodes n state) h.store (asleep_entry fell n) (same_set h.nodes n state e) (asleep_aside fell n)
    by (Some c) is = Unanswering (record {
      node = n;
      command = c;
      opened = is;
      commands_are = refl;
      nodes_are = same_set h.nodes n state e;
      more = asleep_entry fell n;
      entries_are = refl;
      asides = asleep_aside fell n;
    }) (λ m p. refl)

held_same : (h : HostState) (n : ℕ) (held : Bool) → SameNodes h.nodes (holding h n held).nodes
held_same h n true = same_set h.nodes n _ refl
held_same h n false = λ m. refl

pub held_commands : (h : HostState) (n : ℕ) (held : Bool) → (holding h n held).commands ≡ h.commands
held_commands h n true = refl
held_commands h n false = refl

pub held_store : (h : HostState) (n : ℕ) (held : Bool) → (holding h n held).store ≡ h.store
held_store h n true = refl
held_store h n false = refl

-- what is not recorded of a node leaves its commands
abbrev pub LeavesRecords : Type 0
LeavesRecords = (n : NodeState) (event : NodeEvent) → is_recorded n event ≡ false → as_recorded (after_node n event) ≡ as_recorded n

module _ (law : LeavesRecords) where
  node_same : (n : NodeState) (event : NodeEvent) → is_recorded n event ≡ false → only_commands (after_node n event) ≡ only_commands n
  node_same n event not_recorded = ap (λ (s : NodeState). record s { node = 0; joined = false; listens = false; classes = None; seen = 0 }) (law n event not_recorded)

  node_left : (h : HostState) (n : ℕ) (event : NodeEvent) (entries : List Entry) → is_recorded (node_of h.nodes n) event ≡ false → AllByRecursion IsAside entries
      → Effect h.commands h.commands h.nodes (with_node h.nodes n (after_node (node_of h.nodes n) event)) h.store h.store entries
  node_left h n event entries not_recorded asides =
      left h.commands h.nodes _ h.store entries (same_set h.nodes n _ (node_same (node_of h.nodes n) event not_recorded)) asides

  part_over : (h : HostState) (n : ℕ) (end : PartEnd) (moment : Moment) → Between h (after_part h n end moment) (part_entries h n end)
  part_over h n Good moment = node_left h n node_succeeds [] refl tt
  part_over h n Passed_over moment = untouched h [] tt
  part_over h n Bad moment =
      attempt_over h n (after_attempt_end (node_of h.nodes n) moment) (attempt_end (node_of h.nodes n)) (node_same (node_of h.nodes n) (node_ends_attempt moment) refl)

  task_over : (h : HostState) (task : Task) (entries : List Entry) → AllByRecursion IsAside entries → Between h (after_task h task) entries
  task_over h (NoMore n) entries asides = node_left h n node_ends_no_more entries refl asides
  task_over h _ entries asides = untouched h entries asides

  end_over : (h : HostState) (purpose : Purpose) (how : How) (moment : Moment)
      → Between h (after_end h (record { purpose = purpose; how = how }) moment) (end_entries h (record { purpose = purpose; how = how }))
  end_over h (Attempt n more payload) how moment = part_over h n (part_end more how) moment
  end_over h (Housekeeping task) how moment = task_over h task (task_entries h task how) (task_aside h task how)
  end_over h Abort how moment = untouched h [] tt

  end_if_over : (h : HostState) (end : Option End) (moment : Moment) → Between h (after_end_if h end moment) (end_entries_if h end)
  end_if_over h None moment = untouched h [] tt
  end_if_over h (Some end) moment = end_over h end.purpose end.how moment

  request_over : (h : HostState) (event : RequestsEvent) (moment : Moment) → Between h (request_does h event moment) (request_entries h event)
  request_over h event moment = end_if_over (requests_do h event) (end_at h.requests event) moment

  failed : (gives : Bool) (h : HostState) → Between h (failing_if gives h) (failing_entries gives h)
  failed true h = request_over h request_fails BeforeItsTick
  failed false h = untouched h [] tt

  accepted : (h : HostState) (order : Order) (carriage : Carriage) → IsAccepted h order carriage → Between h (accepting h order carriage) (entries_at h (Accepts order carriage))
  accepted h order carriage may =
      let n = order.node in
      let put : NodeState = after_put (node_of h.nodes n) (length h.commands + 1) in
      let put_nodes = with_node h.nodes n put in
      Accepting (record {
        taken = record { order = order; carriage = carriage; outcome = outcome.Waiting };
        waits = refl;
        commands_are = refl;
        nodes_are = then_same h.nodes put_nodes _ n put (one_set h.nodes n put (listed_place h.nodes n may.classes may.listed))
            (same_set put_nodes n _ (node_same (node_of put_nodes n) node_accepts refl));
        entries_are = refl;
      }) (reserving_same h.store n (properties_of (settings carriage.actuator order)))

  finished : (h : HostState) (n session id command : ℕ) (status : FinalStatus) (wake_request : Bool) → IsFinal h n session id command status
      → Between h (after h (Finishes n session id command status wake_request)) (entries_at h (Finishes n session id command status wake_request))
  finished h n session id command status wake_request may =
      let state = node_of h.nodes n in
      let opened = final_opened state id (status_byte status) session command may.told may.carried in
      let done = finishing h n id command status in
      let held = is_held h n wake_request in
      Finishing (record {
        node = n;
        command = command;
        status = status;
        opened = opened;
        commands_are = held_commands done n held;
        nodes_are = then_same h.nodes done.nodes _ n _
            (as_other h.nodes done.nodes n _ _ (ap (λ (t : Told). only_commands (after_told state (status_byte status) t)) may.told)
            (one_set h.nodes n _ (opened_place h.nodes n command opened)))
            (held_same done n held);
        more = held_entries n held;
        entries_are = notes_noted _;
        asides = held_aside n held;
      }) (held_store done n held)

  pub effect : (h : HostState) (event : HostEvent) → May h event → Between h (after h event) (entries_at h event)
  effect h (Accepts order carriage) may = accepted h order carriage may
  effect h (Cancels command) may = Cancelling (record {
    node = node_for h command;
    command = command;
    waits = may;
    commands_are = refl;
    nodes_are = one_set h.nodes (node_for h command) _ (waits_place h.nodes (node_for h command) (some_contained _ command may));
    entries_are = refl;
  }) (λ m p. refl)
  effect h (Joins n) may = left h.commands h.nodes _ h.store [] (same_set h.nodes n _ refl) tt
  effect h (Queues task) may = untouched h [] tt
  effect h (Queues_interview n) may = untouched h [] tt
  effect h Queues_probe may = untouched h [] tt
  effect h (Hears item) may = noted_so (answer_notes item) (untouched h [] tt)
  effect h (Requests_do event moment) may = noted_so (notes_noted (request_entries h event)) (request_over h event moment)
  effect h (Interviews n listens classes update) may = left h.commands h.nodes _ h.store _ (same_set h.nodes n _ refl) (tt, tt)
  effect h (Interview_unkept n update) may = untouched h _ (tt, tt)
  effect h (Unreads n payload) may = untouched h _ (tt, tt)
  effect h (Is_unkept n) may = untouched h _ (tt, tt)
  effect h (Reports_old n id) may = untouched h _ (tt, tt)
  effect h (Works n id) may = node_left h n (node_reports id 1) [] (ap (λ (t : Told). is_final t) may) tt
  effect h (Finishes n session id command status wake_request) may = finished h n session id command status wake_request may
  effect h (Offers n) may = noted_so (notes_noted (dropped_if (is_full h) n)) (offered h n (live_of h.nonces n) _ (dropped_aside (is_full h) n))
  effect h (Gives n drawn) may =
      noted_so (notes_noted (dropped_if (is_full h) n)) (offered (giving h n drawn) n (live_of (giving h n drawn).nonces n) _ (dropped_aside (is_full h) n))
  effect h (Spends n) may = untouched h [] tt
  effect h (Spends_unread n payload) may = untouched h _ (tt, tt)
  effect h (Takes_nonce n seen text) may = left h.commands h.nodes _ h.store [] (same_set h.nodes n _ refl) tt
  effect h (Notifies n) may = node_left h n node_notifies _ refl (tt, tt)
  effect h (Resends n payload) may = noted_so (notes_noted (dropped_if (is_full h) n)) (queued h (is_full h) _ _ refl refl refl (dropped_aside (is_full h) n))
  effect h (Hears_value n setting) may = Leaving (record { commands_are = refl; nodes_are = λ m. refl; asides = (tt, tt) }) (hearing_same h.store n setting)
  effect h (Has_no_room n property) may = untouched h _ (tt, tt)
  effect h Line_ticks may =
      let gives = gives_up h.side.turn (tick_side h.side).turn in
      noted_so (copy_notes (copy_due h.side.turn) (failing_entries gives (line_ticked h))) (failed gives (line_ticked h))
  effect h (Node_ticks n) may =
      noted_so (notes_noted _) (attempt_over h n _ (tick_end (node_of h.nodes n)) (node_same (node_of h.nodes n) node_ticks refl))
  effect h (Queues_no_more n) may = node_left h n node_queues_no_more [] refl tt
  effect h (Drops_no_more n) may = node_left h n node_drops_no_more _ refl (tt, tt)
  effect h Submits_abort may = untouched h [] tt
  effect h Submits_front may = untouched h [] tt
  effect h (Starts n plan more payload) may = node_left h n (node_starts plan) [] refl tt
  effect h (Gives_text n payload) may = node_left h n node_gives_text [] refl tt
  effect h (Gives_segment n more payload) may = node_left h n node_gives_segment [] refl tt
  effect h (Begins n session command) may = Beginning (record {
    node = n;
    some_wait = may.1.0;
    closed = may.1.1;
    commands_are = ap (λ (c : ℕ). with_outcome h.commands c outcome.Begun) may.3;
    nodes_are = one_set h.nodes n _ (waits_place h.nodes n may.1.0);
    entries_are = ap₂ (λ (s c : ℕ). Begin n s c ∷ []) may.2 may.3;
  }) (λ m p. refl)
  effect h (Begin_unkept n) may = node_left h n node_blocks _ refl (tt, tt)
