-- Each event keeps the facts of a host.
use Rattle.std.proofs.Common.{◌≡◌, ℕ, zero, suc, ◌+◌, ◌≤◌, Bool, true, false, if◌then◌else◌, Option, Some, None, unwrap_or, List, [], ◌∷◌, ◌++◌, length, All, set, inl, refl, sym, ap, ◌∙◌, subst, arith}
use Rattle.std.specs.Option.{option_or}
use Rattle.std.proofs.lemmas.List.{length-set}
use Rattle.std.proofs.lemmas.List.Elements.{All-nil, All-push}
use Rattle.std.proofs.Math.ListN.{length-replicate}
use Rattle.zw_text.specs.declared.entry.Outcome.{Outcome}
use Rattle.zw_text.specs.declared.entry.Outcome.TheVariants as outcome
use Rattle.zw_base.specs.declared.order.Order.{Order}
use Rattle.s0_crypto.specs.declared.key_pair.Keys.{Keys}
use Rattle.s0_session.specs.declared.account.Account.{Account}
use Rattle.s0_session.specs.Nonces.{live_of, unused}
use Rattle.serial_link.specs.State.{Side, tick_side}
use Rattle.value_store.specs.Values.{Values, reserving}
use Rattle.host_requests.specs.State.{RequestsState}
use Rattle.host_requests.specs.declared.end.End.{End}
use Rattle.host_requests.specs.declared.end.How.{How}
use Rattle.host_requests.specs.declared.task.Purpose.{Purpose}
use Rattle.host_requests.specs.declared.task.Purpose.TheVariants.{Housekeeping, Attempt, Abort}
use Rattle.host_requests.specs.declared.task.Task.{Task}
use Rattle.host_requests.specs.declared.task.Task.TheVariants.{NoMore}
use Rattle.host_requests.specs.Events.{RequestsEvent, end_at, after as after_request}
use Rattle.host_requests.specs.Events.RequestsEvent.{Fails as request_fails, Pushes as request_pushes, BeginsAttempt as request_begins_attempt, Updates as request_updates}
use Rattle.host_node.specs.declared.attempt.Moment.{Moment}
use Rattle.host_node.specs.declared.attempt.Moment.TheVariants.{BeforeItsTick}
use Rattle.host_node.specs.declared.attempt.AttemptEnd.{AttemptEnd}
use Rattle.host_node.specs.declared.attempt.AttemptEnd.TheVariants.{NoneRan, Again, Unanswered}
use Rattle.host_node.specs.declared.attempt.Plan.{Plan}
use Rattle.host_node.specs.declared.attempt.Plan.TheVariants.{Whole, Segments, Sealed as seals}
use Rattle.host_node.specs.State.{NodeState, SealsText, unknown, has_work, wants_no_more}
use Rattle.host_node.specs.Steps.{attempt_end, tick_end}
use Rattle.host_node.specs.Events.{NodeEvent, after as after_node, May as node_may}
use Rattle.host_node.specs.Events.NodeEvent.{Accepts as node_accepts, Begins as node_begins, Blocks as node_blocks, Cancels as node_cancels, Drops_no_more as node_drops_no_more, Ends_attempt as node_ends_attempt, Ends_no_more as node_ends_no_more, Gives_segment as node_gives_segment, Gives_text as node_gives_text, Holds as node_holds, Interviews as node_interviews, Joins as node_joins, Notifies as node_notifies, Puts as node_puts, Queues_no_more as node_queues_no_more, Reports as node_reports, Starts as node_starts, Succeeds as node_succeeds, Takes_nonce as node_takes_nonce, Ticks as node_ticks}
use Rattle.host_node.specs.TableState.{node_of as node_among, nodes_after, unknown_nodes, unknown_from}
use Rattle.host_node.specs.TableFacts.{NodesFacts}
use Rattle.host_node.specs.Search.{least_above, next_of, first_wanting}
use Rattle.host_node.proofs.Searches.{what_is_least}
use Rattle.host_node.proofs.TableLists.{unknown_facts}
use Rattle.host_node.proofs.Words.{is_some_of}
use Rattle.host_keep.specs.declared.final_status.FinalStatus.{FinalStatus}
use Rattle.host_keep.specs.Status.{status_byte}
use Rattle.host_orders.specs.Refusals.{classes_of, IsFit}
use Rattle.host_orders.specs.Settings.{settings, properties_of}
use Rattle.host_orders.specs.Wrapping.{carriage_of, message_of, form_of}
use Rattle.host_orders.specs.declared.carriage.Carriage.{Carriage}
use Rattle.host_orders.specs.declared.carriage.Form.{Form}
use Rattle.host_orders.specs.declared.carriage.Form.TheVariants.{Plain, Cut, Sealed}
use Rattle.host_model.specs.State.{HostState, Command, node_of, command_at, with_outcome, first_nodes, first_classes, first_host}
use Rattle.host_model.specs.Sessions.{message_for, segment_count, start_by, open_command, settings_with}
use Rattle.host_model.specs.Ends.{PartEnd, Good, Passed_over, Bad, part_end, after_part, after_task, after_end, after_end_if, attempt_ended, unanswered}
use Rattle.host_model.specs.After.{after, node_does, requests_do, request_does, submits, submits_part, is_full, queues_if_room, confirming, hearing, accepting, node_for, outcome_of, is_held, holding, finishing, giving, offering, gives_up, line_ticked, failing_if}
use Rattle.host_model.specs.Events.{HostEvent, Accepts, Cancels, Joins, Queues, Queues_interview, Queues_probe, Hears, Requests_do, Interviews, Interview_unkept, Unreads, Is_unkept, Reports_old, Works, Finishes, Offers, Gives, Spends, Spends_unread, Takes_nonce, Notifies, Resends, Hears_value, Has_no_room, Line_ticks, Node_ticks, Queues_no_more, Drops_no_more, Submits_abort, Submits_front, Starts, Gives_text, Gives_segment, Begins, Begin_unkept}
use Rattle.host_model.specs.May.{May, IsAccepted, IsServed, IsStart, known_of}
use Rattle.host_model.specs.Did.{after_all, MayAll}
use Rattle.host_model.specs.Facts.{FitsForm, IsSound, IsCommandOf, OwnsCommands, HostFacts}
use Rattle.host_model.proofs.Numbered.{AllStay, outcome_stays, outcome_sound, push_stays, pushed_at, owned_stays}
use Rattle.host_model.proofs.Owning.{Brings, stays_owned, all_own}
use Rattle.host_model.proofs.Storing.{Grows, reserving_grows, all_reserved, confirming_grows, hearing_grows, sound_stays}
use Rattle.host_model.proofs.Accepted.{accepted_is_fit, accepted_fits, accepted_has_place}

-- what the nodes alone keep
abbrev pub NodesKeep : Type 0
NodesKeep = (nodes : List NodeState) (node : ℕ) (event : NodeEvent) → node_may (node_among nodes node) event → NodesFacts nodes → NodesFacts (nodes_after nodes node event)

-- ---- one part of a host is other

either : (test : Bool) (a b : HostState) → HostFacts a → HostFacts b → HostFacts (if test then a else b)
either true a b p q = p
either false a b p q = q

quiet : (h : HostState) (side : Side) (requests : RequestsState) → HostFacts h → HostFacts (record h { side = side; requests = requests })
quiet h side requests f = record { nodes = f.nodes; commands = f.commands; owns = f.owns; nonces = f.nonces; served = f.served }

other_commands : (h : HostState) (commands : List Command) → AllStay h.commands commands → All (IsSound h.store) commands → HostFacts h → HostFacts (record h { commands = commands })
other_commands h commands stay sound f =
    record { nodes = f.nodes; commands = sound; owns = λ m. owned_stays h.commands commands stay m (node_of h m) (f.owns m); nonces = f.nonces; served = f.served }

other_outcome : (h : HostState) (command : ℕ) (what : Outcome) → HostFacts h → HostFacts (record h { commands = with_outcome h.commands command what })
other_outcome h command what f =
    other_commands h (with_outcome h.commands command what) (outcome_stays h.commands command what) (outcome_sound h.store h.commands command what f.commands) f

other_store : (h : HostState) (store : Values) → Grows h.store store → HostFacts h → HostFacts (record h { store = store })
other_store h store grows f = record { nodes = f.nodes; commands = sound_stays h.store store grows h.commands f.commands; owns = f.owns; nonces = f.nonces; served = f.served }

other_nonce : (h : HostState) (n : ℕ) (account : Account) → HostFacts h → HostFacts (record h { nonces = set h.nonces n account })
other_nonce h n account f = record { nodes = f.nodes; commands = f.commands; owns = f.owns; nonces = length-set h.nonces n account ∙ f.nonces; served = f.served }

other_served : (h : HostState) (n : ℕ) → n ≤ 232 → HostFacts h → HostFacts (record h { served = n })
other_served h n within f = record { nodes = f.nodes; commands = f.commands; owns = f.owns; nonces = f.nonces; served = within }

queued : (h : HostState) (task : Task) → HostFacts h → HostFacts (queues_if_room h task)
queued h task f = either (is_full h) h (requests_do h (request_pushes task)) f (quiet h h.side (after_request h.requests (request_pushes task)) f)

offered : (h : HostState) (n : ℕ) (live : Option (List ℕ)) → HostFacts h → HostFacts (offering h n live)
offered h n None f = f
offered h n (Some nonce) f = queued h _ f

no_answer : (h : HostState) (command : Option ℕ) → HostFacts h → HostFacts (unanswered h command)
no_answer h None f = f
no_answer h (Some command) f = other_outcome h command _ f

attempt_over : (h : HostState) (end : AttemptEnd) (command : Option ℕ) → HostFacts h → HostFacts (attempt_ended h end command)
attempt_over h NoneRan command f = f
attempt_over h Again command f = f
attempt_over h (Unanswered fell) command f = no_answer h command f

-- ---- which node is served, and what it starts

least_is_node : (passes : ℕ → Bool) (number n : ℕ) → least_above passes number ≡ Some n → n ≤ 232
least_is_node passes number n e = let f = what_is_least passes number n e in omega (arith, f.from, f.to)

one_of : (a b : Option ℕ) (n : ℕ) → option_or a b ≡ Some n → (a ≡ Some n → n ≤ 232) → (b ≡ Some n → n ≤ 232) → n ≤ 232
one_of None b n e p q = q e
one_of (Some k) b n e p q = p e

pub next_is_node : (nodes : List NodeState) (served n : ℕ) → next_of nodes served ≡ Some n → n ≤ 232
next_is_node nodes served n e =
    let works : ℕ → Bool = λ node. has_work (node_among nodes node) in
    one_of (least_above works served) (least_above works 0) n e (least_is_node works served n) (least_is_node works 0 n)

pub wants : (nodes : List NodeState) (n : ℕ) → first_wanting nodes ≡ Some n → wants_no_more (node_among nodes n) ≡ true
wants nodes n e = (what_is_least (λ node. wants_no_more (node_among nodes node)) 0 n e).is_one

cut_of : (form : Form) (session : ℕ) (message : List ℕ) (count : ℕ) → Segments count ≡ (start_by form session message).plan → (form ≡ Cut) × (count ≡ segment_count message)
cut_of Plain session message count e = cc
cut_of Cut session message count e = (refl, cc)
cut_of Sealed session message count e = cc

starts_bring : (h : HostState) (n : ℕ) (plan : Plan) (more : Bool) (payload : List ℕ) → IsStart h n plan more payload → Brings h.commands n (node_of h n) (node_starts plan)
starts_bring h n Whole more payload s = tt
starts_bring h n (Segments count) more payload s =
    let is = cut_of (form_of s.command.carriage.outer) s.session (message_for s.command s.session) count s.plan_is in
    record {
      session = s.session;
      opened = s.opened;
      number = s.carried.0;
      carried = s.carried.1;
      command = s.command;
      found = s.carried.2;
      form = is.0;
      count = is.1;
    }
starts_bring h n (seals plain) more payload s = tt

sealed_has_bytes : (n : NodeState) (keys : Keys) (own nonce text : List ℕ) → SealsText n keys own nonce text → 1 ≤ length text
sealed_has_bytes n keys own nonce text s = omega (arith, ap (λ (l : List ℕ). length l) s.seals.layout)

-- ---- events

module _ (law : NodesKeep) where
  node_did : (h : HostState) (n : ℕ) (event : NodeEvent) → node_may (node_of h n) event → Brings h.commands n (node_of h n) event → HostFacts h → HostFacts (node_does h n event)
  node_did h n event may brings f = record {
    nodes = law h.nodes n event may f.nodes;
    commands = f.commands;
    owns = all_own h.commands h.nodes n (after_node (node_of h n) event) (stays_owned h.commands n (node_of h n) event may brings (f.owns n)) f.owns;
    nonces = f.nonces;
    served = f.served;
  }

  part_over : (h : HostState) (n : ℕ) (end : PartEnd) (moment : Moment) → HostFacts h → HostFacts (after_part h n end moment)
  part_over h n Good moment f = node_did h n node_succeeds tt tt f
  part_over h n Passed_over moment f = f
  part_over h n Bad moment f =
      attempt_over (node_does h n (node_ends_attempt moment)) (attempt_end (node_of h n)) (open_command (node_of h n)) (node_did h n (node_ends_attempt moment) tt tt f)

  task_over : (h : HostState) (task : Task) → HostFacts h → HostFacts (after_task h task)
  task_over h (NoMore n) f = node_did h n node_ends_no_more tt tt f
  task_over h _ f = f

  over : (h : HostState) (purpose : Purpose) (how : How) (moment : Moment) → HostFacts h → HostFacts (after_end h (record { purpose = purpose; how = how }) moment)
  over h (Attempt n more payload) how moment f = part_over h n (part_end more how) moment f
  over h (Housekeeping task) how moment f = task_over h task f
  over h Abort how moment f = f

  over_if : (h : HostState) (end : Option End) (moment : Moment) → HostFacts h → HostFacts (after_end_if h end moment)
  over_if h None moment f = f
  over_if h (Some end) moment f = over h end.purpose end.how moment f

  request_did : (h : HostState) (event : RequestsEvent) (moment : Moment) → HostFacts h → HostFacts (request_does h event moment)
  request_did h event moment f = over_if (requests_do h event) (end_at h.requests event) moment (quiet h h.side (after_request h.requests event) f)

  failed_if : (b : Bool) (h : HostState) → HostFacts h → HostFacts (failing_if b h)
  failed_if true h f = request_did h request_fails BeforeItsTick f
  failed_if false h f = f

  accepted : (h : HostState) (order : Order) (carriage : Carriage) → IsAccepted h order carriage → HostFacts h → HostFacts (accepting h order carriage)
  accepted h order carriage a f =
      let known = known_of (node_of h order.node) in
      let taken : Command = record { order = order; carriage = carriage; outcome = outcome.Waiting } in
      let properties = properties_of (settings carriage.actuator order) in
      let store = reserving h.store order.node properties in
      let classes : classes_of known ≡ a.classes = ap (λ (o : Option (List ℕ)). unwrap_or o []) a.listed in
      let carried : carriage_of (classes_of known) order ≡ carriage = ap (λ (c : List ℕ). carriage_of c order) classes ∙ sym a.carried in
      let sound : IsSound store taken = record {
        fit = subst (λ (c : Carriage). IsFit c.actuator order) carried (accepted_is_fit known order a.unrefused);
        form = λ session. subst (λ (c : Carriage). FitsForm (form_of c.outer) (message_of c order session)) carried (accepted_fits known order session a.unrefused);
        kept = all_reserved h.store order.node properties;
      } in
      let stored = other_store h store (reserving_grows h.store order.node properties) f in
      let listed = other_commands (record h { store = store }) (h.commands ++ taken ∷ []) (push_stays h.commands taken) (All-push (IsSound store) h.commands taken stored.commands sound) stored in
      let next : HostState = record h { commands = h.commands ++ taken ∷ []; store = store } in
      node_did (node_does next order.node (node_puts (length h.commands + 1))) order.node node_accepts tt tt
      (node_did next order.node (node_puts (length h.commands + 1)) (accepted_has_place known order a.unrefused)
      (record { command = taken; found = pushed_at h.commands taken; node = refl }) listed)

  finished : (h : HostState) (n id command : ℕ) (status : FinalStatus) → HostFacts h → HostFacts (finishing h n id command status)
  finished h n id command status f =
      let told = node_did h n (node_reports id (status_byte status)) tt tt f in
      other_store (record (node_does h n (node_reports id (status_byte status))) { commands = with_outcome h.commands command (outcome_of status) })
      (confirming h.store n (settings_with status (command_at h.commands command)))
      (confirming_grows h.store n (settings_with status (command_at h.commands command)))
      (other_outcome (node_does h n (node_reports id (status_byte status))) command (outcome_of status) told)

  held_if : (h : HostState) (n : ℕ) (held : Bool) → HostFacts h → HostFacts (holding h n held)
  held_if h n held f = either held (node_does h n node_holds) h (node_did h n node_holds tt tt f) f

  part_submitted : (h : HostState) (n : ℕ) (more : Bool) (payload : List ℕ) (gives : NodeEvent) → IsServed h n → node_may (node_of h n) gives → Brings h.commands n (node_of h n) gives
      → HostFacts h → HostFacts (submits_part h n more payload gives)
  part_submitted h n more payload gives served may brings f =
      node_did (record (submits h (Attempt n more payload) (request_begins_attempt n more payload)) { served = n }) n gives may brings
      (other_served (submits h (Attempt n more payload) (request_begins_attempt n more payload)) n (next_is_node h.nodes h.served n served.next) (quiet h _ _ f))

  pub kept : (h : HostState) (event : HostEvent) → May h event → HostFacts h → HostFacts (after h event)
  kept h (Accepts order carriage) may f = accepted h order carriage may f
  kept h (Cancels command) may f =
      other_outcome (node_does h (node_for h command) (node_cancels command)) command outcome.Cancelled (node_did h (node_for h command) (node_cancels command) may tt f)
  kept h (Joins n) may f = node_did h n node_joins tt tt f
  kept h (Queues task) may f = quiet h h.side _ f
  kept h (Queues_interview n) may f = quiet h h.side _ f
  kept h Queues_probe may f = quiet h h.side _ f
  kept h (Hears item) may f = quiet h _ h.requests f
  kept h (Requests_do event moment) may f = request_did h event moment f
  kept h (Interviews n listens classes update) may f = node_did (requests_do h (request_updates update)) n (node_interviews listens classes) tt tt (quiet h h.side _ f)
  kept h (Interview_unkept n update) may f = quiet h h.side _ f
  kept h (Unreads n payload) may f = f
  kept h (Is_unkept n) may f = f
  kept h (Reports_old n id) may f = f
  kept h (Works n id) may f = node_did h n (node_reports id 1) tt tt f
  kept h (Finishes n session id command status wake_request) may f = held_if (finishing h n id command status) n (is_held h n wake_request) (finished h n id command status f)
  kept h (Offers n) may f = offered h n (live_of h.nonces n) f
  kept h (Gives n drawn) may f = offered (giving h n drawn) n (live_of (giving h n drawn).nonces n) (other_nonce h n _ f)
  kept h (Spends n) may f = other_nonce h n _ f
  kept h (Spends_unread n payload) may f = other_nonce h n _ f
  kept h (Takes_nonce n seen text) may f =
      node_did h n (node_takes_nonce seen text) (is_some_of (node_of h n).pending may.3.plain may.3.is_pending) (sealed_has_bytes (node_of h n) h.keys may.1 may.0 text may.3) f
  kept h (Notifies n) may f = node_did h n node_notifies tt tt f
  kept h (Resends n payload) may f = queued h _ f
  kept h (Hears_value n setting) may f = other_store h (hearing h.store n setting) (hearing_grows h.store n setting) f
  kept h (Has_no_room n property) may f = f
  kept h Line_ticks may f = failed_if (gives_up h.side.turn (tick_side h.side).turn) (line_ticked h) (quiet h _ h.requests f)
  kept h (Node_ticks n) may f = attempt_over (node_does h n node_ticks) (tick_end (node_of h n)) (open_command (node_of h n)) (node_did h n node_ticks tt tt f)
  kept h (Queues_no_more n) may f = quiet (node_does h n node_queues_no_more) h.side _ (node_did h n node_queues_no_more (wants h.nodes n may.0) tt f)
  kept h (Drops_no_more n) may f = node_did h n node_drops_no_more (wants h.nodes n may.0) tt f
  kept h Submits_abort may f = quiet h _ _ f
  kept h Submits_front may f = quiet h _ _ f
  kept h (Starts n plan more payload) may f = part_submitted h n more payload (node_starts plan) may.0 may.2 (starts_bring h n plan more payload may.1) f
  kept h (Gives_text n payload) may f = part_submitted h n false payload node_gives_text may.0 tt tt f
  kept h (Gives_segment n more payload) may f = part_submitted h n more payload node_gives_segment may.0 may.4 tt f
  kept h (Begins n session command) may f = other_outcome (node_does h n node_begins) command outcome.Begun (node_did h n node_begins may.1 tt f)
  kept h (Begin_unkept n) may f = node_did h n node_blocks tt tt f

  pub all_kept : (h : HostState) (events : List HostEvent) → MayAll h events → HostFacts h → HostFacts (after_all h events)
  all_kept h [] may f = f
  all_kept h (event ∷ more) may f = all_kept (after h event) more may.1 (kept h event may.0 f)

-- ---- the beginning

unknown_owns : (n number : ℕ) → OwnsCommands [] n (unknown number)
unknown_owns n number = record { waiting = All-nil (IsCommandOf [] n); sessions = All-nil (IsCommandOf [] n); segments = inl refl; text = tt }

unknown_own : (number count m k : ℕ) → OwnsCommands [] m (node_among (unknown_from number count) k)
unknown_own number zero m k = unknown_owns m 0
unknown_own number (suc more) m zero = unknown_owns m number
unknown_own number (suc more) m (suc k) = unknown_own (suc number) more m k

unknown_own_at : (m k : ℕ) → OwnsCommands [] m (node_among unknown_nodes k)
unfolding unknown_nodes
unknown_own_at m zero = unknown_owns m 1
unknown_own_at m (suc k) = unknown_own 1 232 m k

module _ (law : NodesKeep) where
  first_ones : NodesFacts first_nodes
  unfolding first_nodes
  first_ones = law (nodes_after unknown_nodes 2 node_joins) 2 (node_interviews true first_classes) tt (law unknown_nodes 2 node_joins tt unknown_facts)

  first_own : (m : ℕ) → OwnsCommands [] m (node_among first_nodes m)
  unfolding first_nodes
  first_own =
      let joined = nodes_after unknown_nodes 2 node_joins in
      let own : (m : ℕ) → OwnsCommands [] m (node_among joined m) = all_own [] unknown_nodes 2 (after_node (node_among unknown_nodes 2) node_joins)
      (stays_owned [] 2 (node_among unknown_nodes 2) node_joins tt tt (unknown_own_at 2 2)) (λ m. unknown_own_at m m) in
      all_own [] joined 2 (after_node (node_among joined 2) (node_interviews true first_classes))
      (stays_owned [] 2 (node_among joined 2) (node_interviews true first_classes) tt tt (own 2)) own

  pub first_kept : (keys : Keys) → HostFacts (first_host keys)
  first_kept keys = record {
    nodes = first_ones;
    commands = All-nil (IsSound (first_host keys).store);
    owns = first_own;
    nonces = length-replicate 233 unused;
    served = omega arith;
  }
