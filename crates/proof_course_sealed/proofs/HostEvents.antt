-- Each event of the host that is not what it makes of a payload of the node, and begins no session, in the courses of a lock.
use Rattle.std.proofs.Common.{◌≡◌, ◌≢◌, ℕ, zero, suc, ◌+◌, ◌*◌, ◌%◌, ◌<◌, ◌≤◌, ◌==◌, inl, inr, Bool, true, false, nat_lt, if◌then◌else◌, Option, Some, None, List, [], ◌∷◌, ◌++◌, map, length, is_some, refl, ap, sym, ◌∙◌, subst, arith}
use Rattle.std.proofs.lemmas.List.{map-append}
use Rattle.std.specs.List.{AllByRecursion}
use Rattle.std.specs.Option.{option_to_list}
use Rattle.std.proofs.lemmas.Bool.{eqb-true}
use Rattle.zw_base.proofs.Each.{all-append, all-get}
use Rattle.supervision.specs.Host.{begun_of, open_session, command_at as command_of_session}
use Rattle.supervision.proofs.OnceLemmas.{All-slice_get}
use Rattle.proof_course.specs.Parts.{numbered}
use Rattle.serial_frame.specs.declared.unit.Unit.{Unit as LineUnit}
use Rattle.serial_frame.specs.declared.item.Item.{Item}
use Rattle.serial_link.specs.State.{Side, tick_side, copy_due}
use Rattle.zw_text.specs.declared.entry.Outcome.TheVariants.{Waiting}
use Rattle.zw_text.specs.declared.entry.Entry.TheVariants.{Out}
use Rattle.zw_base.specs.declared.order.Order.{Order}
use Rattle.transport_segments.specs.Segment.{segment_text}
use Rattle.transport_segments.specs.Parts.{slice_at}
use Rattle.encap.specs.declared.plan.Outer.{Outer}
use Rattle.encap.specs.declared.plan.Outer.TheVariants as outers
use Rattle.host_orders.specs.declared.carriage.Carriage.{Carriage}
use Rattle.host_orders.specs.declared.carriage.Form.{Form}
use Rattle.host_orders.specs.declared.carriage.Form.TheVariants.{Plain, Cut, Sealed as in_security}
use Rattle.host_orders.specs.Refusals.{IsFit}
use Rattle.host_orders.specs.Wrapping.{form_of, message_of}
use Rattle.host_requests.specs.Frames.{no_more_information, frame_of}
use Rattle.host_requests.specs.State.{next_id}
use Rattle.host_requests.specs.Events.{task_begun}
use Rattle.host_requests.specs.Events.RequestsEvent.{Pushes, PushesInterview, PushesProbe, BeginsAbort, BeginsPrefix, BeginsAttempt, Updates}
use Rattle.host_requests.specs.declared.task.Task.{Task}
use Rattle.host_requests.specs.declared.task.Task.TheVariants as task
use Rattle.host_requests.specs.declared.task.Purpose.TheVariants.{Attempt, Abort}
use Rattle.host_node.specs.State.{NodeState}
use Rattle.host_node.specs.Steps.{after_start, after_text, tick_end}
use Rattle.host_node.specs.Events.{NodeEvent, after as after_node}
use Rattle.host_node.specs.Events.NodeEvent.{Joins as node_joins, Interviews as node_interviews, Puts as node_puts, Accepts as node_accepts, Cancels as node_cancels, Blocks as node_blocks, Starts as node_starts, Gives_segment as node_gives_segment, Gives_text as node_gives_text, Reports as node_reports, Takes_nonce as node_takes_nonce, Notifies as node_notifies, Queues_no_more as node_queues_no_more, Drops_no_more as node_drops_no_more, Ticks as node_ticks}
use Rattle.host_node.specs.declared.attempt.Plan.{Plan}
use Rattle.host_node.specs.declared.attempt.Plan.TheVariants.{Whole, Segments, Sealed as seals}
use Rattle.host_keep.specs.Status.{status_byte}
use Rattle.host_keep.specs.declared.final_status.FinalStatus.{FinalStatus}
use Rattle.s0_session.specs.Nonces.{live_of}
use Rattle.host_model.specs.State.{HostState, Command, node_of, with_node, command_at}
use Rattle.host_model.specs.Sessions.{message_for, nonce_get, segment_count, segment_at, segment_by, segment_of, command_if, open_segment, open_command, settings_with, Start, start_by, start_of}
use Rattle.host_model.specs.After.{after as after_host, node_does, requests_do, submits_part, task_purpose, offering, giving, finishing, is_held, is_busy, gives_up, line_ticked, node_for, is_full, outcome_of}
use Rattle.host_model.specs.Outs.{outs, answer_to, request_entries, failing_entries, dropped_if, ended_of, stored_entries, held_entries}
use Rattle.host_model.specs.Ends.{attempt_entries}
use Rattle.host_model.specs.May.{May, IsStart}
use Rattle.host_model.specs.Facts.{HostFacts, FitsForm, IsCommandOf, IsSound}
use Rattle.host_model.specs.Events.{HostEvent, Accepts, Cancels, Joins, Queues, Queues_interview, Queues_probe, Hears, Requests_do, Interviews, Interview_unkept, Unreads, Is_unkept, Reports_old, Works, Finishes, Offers, Gives, Spends, Spends_unread, Takes_nonce, Notifies, Resends, Hears_value, Has_no_room, Line_ticks, Node_ticks, Queues_no_more, Drops_no_more, Submits_abort, Submits_front, Starts, Gives_text, Gives_segment, Begins, Begin_unkept}
use Rattle.proof_course_plain.specs.proof_serial.Line.{host_units}
use Rattle.proof_messages.specs.Hosts.{IsOpenPlan, IsAside, LeavesNonces}
use Rattle.proof_messages.proofs.LockSessions.{some_same}
use Rattle.proof_course_plain.specs.Ways.{Beside}
use Rattle.proof_course_plain.specs.Mesh.{labels}
use Rattle.proof_course_plain.specs.Lines.{Moves}
use Rattle.proof_course_plain.specs.Host.{asked_of}
use Rattle.proof_course_plain.specs.HostGoing.{IsNoBegin}
use Rattle.proof_course_plain.proofs.WayLabels.{thinned_same, move_ticked, copies_of}
use Rattle.proof_course_plain.proofs.HostEvents.{session_numbered, command_numbered, get_map, owned, open_is, noted_none, copy_units, answered}
use Rattle.proof_course_sealed.specs.Labels.{Sent, Sealed, Offer, Up}
use Rattle.proof_course_sealed.specs.Courses.{Courses, CoursesGo, GoUp, with_up}
use Rattle.proof_course_sealed.specs.Meaning.{Past, Grows, IsSealedMessage, IsNeither, HostMeans}
use Rattle.proof_course_sealed.specs.Lines.{Asks}
use Rattle.proof_course_sealed.specs.Host.{TextIs, TaskIs, NamesEndFor, AtHost, AsksFitly}
use Rattle.proof_course_sealed.specs.HostGoing.{IsUnheard}
use Rattle.proof_course_sealed.proofs.CourseSteps.{list_same}
use Rattle.proof_course_sealed.proofs.Meanings.{host_means_stays, sealed_message_stays}
use Rattle.proof_course_plain.proofs.KeptHosts.{IsQuiet, SameHost, same_host, same_then, does_same, works_same, other_same, requests_same, request_same, room_same, holding_same, failing_same, ended_same, unchanged as unchanged_host, outcome_orders}
use Rattle.proof_course_sealed.proofs.KeptBooks.{lock_course, tasks_stay}
use Rattle.proof_course_sealed.proofs.UnsealedMessages.{HasSegment}
use Rattle.proof_course_sealed.proofs.HostFrames.{attempt_asks, abort_asks, task_asks}
use Rattle.proof_course_sealed.proofs.HostActs.{Wrote, UpThins, Leaves, leaves, leaves_line, at_side, turns, quietly, accepts, submits_other, submits_text, submits_nonce}

-- the laws of what the host writes and keeps
pub record Writing : Type 0 where
  pub thins : UpThins
  pub text : (c : Courses) (carried : List Sent) (number : ℕ) (tasks : List ℕ) → GoUp c carried (Some number) tasks → 0 < begun_of c.sessions.host → CoursesGo c (with_up c (carried ++ Sealed (begun_of c.sessions.host) number ∷ []) None tasks)
  pub task : (c : Courses) (carried : List Sent) (text : Option ℕ) (number : ℕ) (tasks : List ℕ) → GoUp c carried text (number ∷ tasks) → CoursesGo c (with_up c (carried ++ Offer number ∷ []) text tasks)
  pub get : IsNeither nonce_get
  pub no_more : IsNeither no_more_information
  pub message : (carriage : Carriage) (order : Order) (session : ℕ) → IsFit carriage.actuator order → order.end ≤ 127 → IsNeither (message_of carriage order session)
  pub segment : (message : List ℕ) (session place : ℕ) → HasSegment message place → IsNeither (segment_text (session % 16) (length message) (39 * place) (slice_at message place))
  pub aside : (node : ℕ) (h : HostState) (event : HostEvent) → IsAside node event → LeavesNonces node h (after_host h event)
  pub starts : (node : ℕ) (h : HostState) (plan : Plan) (more : Bool) (payload : List ℕ) → node < length h.nodes → node_of (after_host h (Starts node plan more payload)) node ≡ after_start (node_of h node) plan
  pub sends : (node : ℕ) (h : HostState) (payload : List ℕ) → node < length h.nodes → node_of (after_host h (Gives_text node payload)) node ≡ after_text (node_of h node)

-- where an attempt starts, the courses have it that a text may wait
abbrev pub IsReady : Courses → HostEvent → Type 0
IsReady c (Starts n plan more payload) = c.node.waits ≡ true
IsReady c event = Unit {0}

-- ---- commands, and what is to be written

end_at : (node : ℕ) (commands : List Command) (number : ℕ) (command : Command) → AllByRecursion (NamesEndFor node) (map asked_of commands) → command_at commands number ≡ Some command → NamesEndFor node (asked_of command)
end_at node commands zero command all e = absurd (grind (arith, e))
end_at node commands (suc before) command all e = all-get (NamesEndFor node) (map asked_of commands) before (asked_of command) all (get_map commands before command e)

sound_at : (h : HostState) (number : ℕ) (command : Command) → HostFacts h → command_at h.commands number ≡ Some command → IsSound h.store command
sound_at h zero command facts e = absurd (grind (arith, e))
sound_at h (suc before) command facts e = All-slice_get (IsSound h.store) h.commands before command facts.commands e

-- some session has begun where the last has a command
some_begun : (commands : List ℕ) (number : ℕ) → numbered commands (length commands) ≡ number ∷ [] → 0 < length commands
some_begun [] number e = absurd (grind (arith, e))
some_begun (command ∷ commands) number e = omega arith

-- a text that waits sealed has a number
text_number : (past : Past) (node : ℕ) (t : Option (List ℕ)) (payload : List ℕ) (text : Option ℕ) → t ≡ Some payload → TextIs past node t text
    → (number : ℕ) × ((text ≡ Some number) × HostMeans past node payload (Up (Sealed (length past.commands) number)))
text_number past node None payload text e is = absurd (grind (arith, e))
text_number past node (Some sealed) payload None e is = absurd is
text_number past node (Some sealed) payload (Some number) e is = (number, (refl, subst (λ (p : List ℕ). HostMeans past node p (Up (Sealed (length past.commands) number))) (some_same sealed payload e) is))

pub text_stays : (past later : Past) (node : ℕ) (t : Option (List ℕ)) (text : Option ℕ) → Grows past later → later.commands ≡ past.commands → TextIs past node t text → TextIs later node t text
text_stays past later node None None grows same is = tt
text_stays past later node None (Some number) grows same is = absurd is
text_stays past later node (Some payload) None grows same is = absurd is
text_stays past later node (Some payload) (Some number) grows same is =
    subst (λ (cs : List ℕ). HostMeans later node payload (Up (Sealed (length cs) number))) (sym same) (host_means_stays past later node payload (Up (Sealed (length past.commands) number)) grows is)

-- an order is accepted besides
abbrev pub with_order : Past → Order → Carriage → Past
with_order past order carriage = record past { orders = past.orders ++ record { order = order; carriage = carriage } ∷ [] }

module _ (laws : Writing) (past : Past) (node : ℕ) (c : Courses) (carried : List Sent) (text : Option ℕ) (tasks : List ℕ) (h : HostState) (facts : HostFacts h) (within : node < 233) (at : AtHost past node c text tasks h) (go_up : GoUp c carried text tasks) where
  commands_are : (node_of h node).book.commands ≡ past.commands
  commands_are = at.book.0 ∙ sym at.commands

  placed : node < length h.nodes
  placed = let places = facts.nodes.places in omega (arith, within, places)

  -- the command of a session of the node
  record Carried (command : Command) : Type 0 where
    end : command.order.end ≤ 127
    sound : IsSound h.store command

  carried_by : (session number : ℕ) (command : Command) → command_of_session (node_of h node).book.commands session ≡ Some number → command_at h.commands number ≡ Some command → Carried command
  carried_by session number command carried found =
      let own : IsCommandOf h.commands node number = owned h.commands node (node_of h node).book.commands session number (facts.owns node).sessions carried in
      let both : Some own.command ≡ Some command = sym own.found ∙ found in
      let same : own.command ≡ command = cc in
      let of : command.order.node ≡ node = ap (λ (x : Command). x.order.node) (sym same) ∙ own.node in
      let end = end_at node h.commands number command (subst (λ os. AllByRecursion (NamesEndFor node) os) at.orders at.ends) found of in
      record { end = end; sound = sound_at h number command facts found }

  -- the message of a session of the node that goes sealed
  message_of_session : (session number : ℕ) (command : Command) → command_of_session (node_of h node).book.commands session ≡ Some number → command_at h.commands number ≡ Some command → command.carriage.outer ≡ outers.Security
      → IsSealedMessage past session (message_for command session)
  message_of_session session number command carried found outer =
      let p = carried_by session number command carried found in
      record {
        number = number;
        asked = asked_of command;
        carried = session_numbered past.commands session number (subst (λ (cs : List ℕ). command_of_session cs session ≡ Some number) commands_are carried);
        accepted = subst (λ os. numbered os number ≡ asked_of command ∷ []) (sym at.orders) (command_numbered h.commands number command found);
        fit = p.sound.fit;
        end = p.end;
        outer = outer;
        text_is = refl;
      }

  -- the message of a session, where it goes as it is, and a segment of it
  whole_neither : (session number : ℕ) (command : Command) → command_of_session (node_of h node).book.commands session ≡ Some number → command_at h.commands number ≡ Some command → IsNeither (message_for command session)
  whole_neither session number command carried found = let p = carried_by session number command carried found in laws.message command.carriage command.order session p.sound.fit p.end

  cut_neither : (session number : ℕ) (command : Command) (k : ℕ) → command_of_session (node_of h node).book.commands session ≡ Some number → command_at h.commands number ≡ Some command → form_of command.carriage.outer ≡ Cut
      → k < segment_count (message_for command session) → IsNeither (segment_at session (message_for command session) k)
  cut_neither session number command k carried found cut within =
      let p = carried_by session number command carried found in
      let fits : FitsForm Cut (message_for command session) = subst (λ (f : Form). FitsForm f (message_for command session)) cut (p.sound.form session) in
      let some = fits.0 in laws.segment (message_for command session) session k (record { some = some; most = fits.1; within = omega (arith, within, some) })

  segment_neither : (session : Option ℕ) (k : ℕ) (payload : List ℕ) → open_segment h (node_of h node) session k ≡ Some payload → IsNeither payload
  segment_neither None k payload e = absurd (grind (arith, e))
  segment_neither (Some session) k payload e = by (command_of_session (node_of h node).book.commands session) refl e
    where
      form_by : (number : ℕ) (command : Command) (form : Form) → form_of command.carriage.outer ≡ form → command_at h.commands number ≡ Some command → command_of_session (node_of h node).book.commands session ≡ Some number
          → segment_by form session (message_for command session) k ≡ Some payload → IsNeither payload
      form_by number command Plain form is carried e = absurd (grind (arith, e))
      form_by number command in_security form is carried e = absurd (grind (arith, e))
      form_by number command Cut form is carried e = by_count (nat_lt k (segment_count (message_for command session))) refl e
        where
          by_count : (b : Bool) → nat_lt k (segment_count (message_for command session)) ≡ b → (if b then Some (segment_at session (message_for command session) k) else None) ≡ Some payload → IsNeither payload
          by_count true less e = subst IsNeither (some_same (segment_at session (message_for command session) k) payload e) (cut_neither session number command k carried is form (grind (arith, less)))
          by_count false less e = absurd (grind (arith, e))

      found_by : (number : ℕ) (found : Option Command) → command_at h.commands number ≡ found → command_of_session (node_of h node).book.commands session ≡ Some number → segment_of found session k ≡ Some payload → IsNeither payload
      found_by number None is carried e = absurd (grind (arith, e))
      found_by number (Some command) is carried e = form_by number command (form_of command.carriage.outer) refl is carried e

      by : (number : Option ℕ) → command_of_session (node_of h node).book.commands session ≡ number → segment_of (command_if h.commands number) session k ≡ Some payload → IsNeither payload
      by None is e = absurd (grind (arith, e))
      by (Some number) is e = found_by number (command_at h.commands number) refl is e

  -- nothing but entries
  quiet : (g : HostState) (event : HostEvent) → SameHost (lock_course node) h g → LeavesNonces node h g → host_units (outs h event) ≡ [] → Wrote past node c carried h g (host_units (outs h event))
  quiet g event same nonces none = subst (λ (us : List LineUnit). Wrote past node c carried h g us) (sym none) (quietly laws.thins past node c carried text tasks h go_up g (leaves past node c text tasks h g at same nonces) same.side)

  offering_same : (g : HostState) (n : ℕ) (live : Option (List ℕ)) → n ≢ node → SameHost (lock_course node) g (offering g n live)
  offering_same g n None apart = unchanged_host (lock_course node) g
  offering_same g n (Some nonce) apart = room_same (lock_course node) g (task.Offer n nonce) apart

  accepted : (order : Order) (carriage : Carriage) → NamesEndFor node (record { order = order; carriage = carriage }) → Wrote past node c carried h (after_host h (Accepts order carriage)) []
  accepted order carriage end =
      let taken : Command = record { order = order; carriage = carriage; outcome = Waiting } in
      let g : HostState = after_host h (Accepts order carriage) in
      let base : HostState = record h { commands = h.commands ++ taken ∷ []; store = g.store } in
      let put : HostState = node_does base order.node (node_puts (length h.commands + 1)) in
      let same : SameHost (lock_course node) base g = same_then (lock_course node) base put g (does_same (lock_course node) base order.node (node_puts (length h.commands + 1)) tt) (does_same (lock_course node) put order.node node_accepts tt) in
      let later : Past = with_order past order carriage in
      let grows : Grows past later = record {
        keys = refl;
        orders = record { more = record { order = order; carriage = carriage } ∷ []; is = refl };
        commands = list_same past.commands;
        given = list_same past.given;
        shown = list_same past.shown;
      } in
      let nonces : LeavesNonces node h g = laws.aside node h (Accepts order carriage) tt in
      let there : AtHost later node c text tasks base = record {
        keys = at.keys;
        book = at.book;
        commands = at.commands;
        orders = ap (λ l. l ++ record { order = order; carriage = carriage } ∷ []) at.orders ∙ sym (map-append asked_of h.commands (taken ∷ []));
        ends = all-append (NamesEndFor node) past.orders (record { order = order; carriage = carriage } ∷ []) at.ends (end, tt);
        gave = at.gave;
        saw = at.saw;
        pending = λ plain is. sealed_message_stays past later (length past.commands) plain grows (at.pending plain is);
        texts = text_stays past later node (node_of h node).text text grows refl at.texts;
        marks = at.marks;
        queue = tasks_stay past later node h.requests.queue at.marks grows at.queue;
        numbers = at.numbers;
      } in
      accepts laws.thins past node c carried text tasks h go_up g later grows refl (leaves later node c text tasks base g there same (record { account = nonces.account; sealing = nonces.sealing })) refl

  -- a part of an attempt
  part_same : (n : ℕ) (more : Bool) (payload : List ℕ) (gives : NodeEvent) → IsQuiet true gives → SameHost (lock_course node) h (record (submits_part h n more payload gives) { side = h.side })
  part_same n more payload gives quiet =
      let begun : HostState = record (requests_do h (BeginsAttempt n more payload)) { served = n } in
      same_then (lock_course node) h begun (record (submits_part h n more payload gives) { side = h.side })
      (same_then (lock_course node) h (requests_do h (BeginsAttempt n more payload)) begun (requests_same (lock_course node) h (BeginsAttempt n more payload) tt) (same_host (lock_course node) (requests_do h (BeginsAttempt n more payload)) begun refl refl refl refl refl))
      (does_same (lock_course node) begun n gives quiet)

  -- which brings the node neither a message that it takes nor a nonce
  part_wrote : (n : ℕ) (more : Bool) (payload : List ℕ) (gives : NodeEvent) → IsQuiet true gives → (n ≡ node → IsNeither payload) → is_busy h.side.turn ≡ false → LeavesNonces node h (submits_part h n more payload gives)
      → Wrote past node c carried h (submits_part h n more payload gives) (host_units (outs h (Starts n (seals []) more payload)))
  part_wrote n more payload gives quiet aside free nonces =
      submits_other laws.thins past node c carried text tasks h go_up (submits_part h n more payload gives) (frame_of (Attempt n more payload) (next_id h.requests.last_id))
      (leaves_line past node c text tasks h (submits_part h n more payload gives) at (part_same n more payload gives quiet) nonces) refl free
      (attempt_asks past node n more payload (next_id h.requests.last_id) None aside)

  -- a sealed attempt of the node begins: a nonce is asked for, and the message of the last session waits for it
  module _ (plan : Plan) (more : Bool) (payload : List ℕ) (free : is_busy h.side.turn ≡ false) (ready : c.node.waits ≡ true) (is : IsStart h node plan more payload) (sealed : is.command.carriage.outer ≡ outers.Security) where
    abbrev begun : HostState
    begun = after_host h (Starts node plan more payload)

    abbrev last_message : List ℕ
    last_message = message_for is.command is.session

    is_last : is.session ≡ length past.commands
    is_last = (open_is (node_of h node).book is.session is.opened).0 ∙ ap (λ (cs : List ℕ). length cs) commands_are

    start : start_of is.command is.session ≡ start_by in_security is.session last_message
    start = ap (λ (o : Outer). start_by (form_of o) is.session last_message) sealed

    asks_nonce : payload ≡ nonce_get
    asks_nonce = is.payload_is ∙ ap (λ (s : Start). s.payload) start

    begun_now : node_of begun node ≡ after_start (node_of h node) (seals last_message)
    begun_now = laws.starts node h plan more payload placed ∙ ap (λ (p : Plan). after_start (node_of h node) p) (is.plan_is ∙ ap (λ (s : Start). s.plan) start)

    is_last_message : IsSealedMessage past (length past.commands) last_message
    is_last_message = subst (λ (s : ℕ). IsSealedMessage past s last_message) is_last (message_of_session is.session is.carried.0 is.command is.carried.1 is.carried.2 sealed)

    begun_there : AtHost past node c text tasks begun
    begun_there = record {
      keys = at.keys;
      book = (part_same node more payload (node_starts plan) tt).node_as c.sessions.host.commands c.sessions.host.outcome at.book;
      commands = at.commands;
      orders = at.orders;
      ends = at.ends;
      gave = at.gave;
      saw = record { count = ap (λ (s : NodeState). s.seen) begun_now ∙ at.saw.count; waiting = λ some. ready };
      pending = λ plain e. subst (λ (p : List ℕ). IsSealedMessage past (length past.commands) p) (some_same last_message plain (ap (λ (s : NodeState). s.pending) (sym begun_now) ∙ e)) is_last_message;
      texts = subst (λ (t : Option (List ℕ)). TextIs past node t text) (ap (λ (s : NodeState). s.text) (sym begun_now)) at.texts;
      marks = at.marks;
      queue = at.queue;
      numbers = at.numbers;
    }

    sealed_started : Wrote past node c carried h (after_host h (Starts node plan more payload)) (host_units (outs h (Starts node plan more payload)))
    sealed_started =
        submits_other laws.thins past node c carried text tasks h go_up begun (frame_of (Attempt node more payload) (next_id h.requests.last_id))
        (record { left = text; later = tasks; at = begun_there; of_text = thinned_same (option_to_list text); of_tasks = thinned_same tasks }) refl free
        (attempt_asks past node node more payload (next_id h.requests.last_id) None (λ own. subst IsNeither (sym asks_nonce) laws.get))

  -- one that is not sealed begins
  open_started : (plan : Plan) (more : Bool) (payload : List ℕ) → is_busy h.side.turn ≡ false → IsOpenPlan plan → IsNeither payload
      → Wrote past node c carried h (after_host h (Starts node plan more payload)) (host_units (outs h (Starts node plan more payload)))
  open_started plan more payload free unsealed aside = part_wrote node more payload (node_starts plan) tt (λ own. aside) free (laws.aside node h (Starts node plan more payload) (inr unsealed))

  started_own : (plan : Plan) (more : Bool) (payload : List ℕ) → is_busy h.side.turn ≡ false → c.node.waits ≡ true → IsStart h node plan more payload
      → Wrote past node c carried h (after_host h (Starts node plan more payload)) (host_units (outs h (Starts node plan more payload)))
  started_own plan more payload free ready is = by is.command.carriage.outer refl
    where
      start : (f : Form) → form_of is.command.carriage.outer ≡ f → start_of is.command is.session ≡ start_by f is.session (message_for is.command is.session)
      start f e = ap (λ (x : Form). start_by x is.session (message_for is.command is.session)) e

      whole : form_of is.command.carriage.outer ≡ Plain → Wrote past node c carried h (after_host h (Starts node plan more payload)) (host_units (outs h (Starts node plan more payload)))
      whole form =
          let of_plan : plan ≡ Whole = is.plan_is ∙ ap (λ (s : Start). s.plan) (start Plain form) in
          let text : payload ≡ message_for is.command is.session = is.payload_is ∙ ap (λ (s : Start). s.payload) (start Plain form) in
          open_started plan more payload free (subst IsOpenPlan (sym of_plan) tt) (subst IsNeither (sym text) (whole_neither is.session is.carried.0 is.command is.carried.1 is.carried.2))

      cut : form_of is.command.carriage.outer ≡ Cut → Wrote past node c carried h (after_host h (Starts node plan more payload)) (host_units (outs h (Starts node plan more payload)))
      cut form =
          let of_plan : plan ≡ Segments (segment_count (message_for is.command is.session)) = is.plan_is ∙ ap (λ (s : Start). s.plan) (start Cut form) in
          let text : payload ≡ segment_at is.session (message_for is.command is.session) 0 = is.payload_is ∙ ap (λ (s : Start). s.payload) (start Cut form) in
          let fits : FitsForm Cut (message_for is.command is.session) = subst (λ (f : Form). FitsForm f (message_for is.command is.session)) form ((carried_by is.session is.carried.0 is.command is.carried.1 is.carried.2).sound.form is.session) in
          let some = fits.0 in
          open_started plan more payload free (subst IsOpenPlan (sym of_plan) tt) (subst IsNeither (sym text) (cut_neither is.session is.carried.0 is.command 0 is.carried.1 is.carried.2 form (omega (arith, some))))

      by : (outer : Outer) → is.command.carriage.outer ≡ outer → Wrote past node c carried h (after_host h (Starts node plan more payload)) (host_units (outs h (Starts node plan more payload)))
      by outers.Security e = sealed_started plan more payload free ready is e
      by outers.None e = whole (ap form_of e)
      by outers.Crc16 e = whole (ap form_of e)
      by outers.Transport e = cut (ap form_of e)

  started : (n : ℕ) (plan : Plan) (more : Bool) (payload : List ℕ) → is_busy h.side.turn ≡ false → c.node.waits ≡ true → IsStart h n plan more payload
      → Wrote past node c carried h (after_host h (Starts n plan more payload)) (host_units (outs h (Starts n plan more payload)))
  started n plan more payload free ready is = by (n == node) refl
    where
      by : (b : Bool) → (n == node) ≡ b → Wrote past node c carried h (after_host h (Starts n plan more payload)) (host_units (outs h (Starts n plan more payload)))
      by true mine =
          subst (λ (k : ℕ). IsStart h k plan more payload → Wrote past node c carried h (after_host h (Starts k plan more payload)) (host_units (outs h (Starts k plan more payload)))) (sym (eqb-true n node mine))
          (started_own plan more payload free ready) is
      by false other = let apart : n ≢ node = λ own. absurd (grind (arith, other, own)) in part_wrote n more payload (node_starts plan) tt (λ own. absurd (apart own)) free (laws.aside node h (Starts n plan more payload) (inl apart))

  -- the sealed text is written
  module _ (payload : List ℕ) (free : is_busy h.side.turn ≡ false) (waited : (node_of h node).text ≡ Some payload) where
    abbrev sent : HostState
    sent = after_host h (Gives_text node payload)

    sealed_is : (sealed_number : ℕ) × ((text ≡ Some sealed_number) × HostMeans past node payload (Up (Sealed (length past.commands) sealed_number)))
    sealed_is = text_number past node (node_of h node).text payload text waited at.texts

    abbrev sealed_number : ℕ
    sealed_number = sealed_is.0

    of_last : length past.commands ≡ begun_of c.sessions.host
    of_last = ap (λ (cs : List ℕ). length cs) at.commands

    some_session : 0 < begun_of c.sessions.host
    some_session = subst (λ (k : ℕ). 0 < k) of_last (some_begun past.commands sealed_is.1.1.is.number sealed_is.1.1.is.carried)

    sent_now : node_of sent node ≡ after_text (node_of h node)
    sent_now = laws.sends node h payload placed

    sent_there : AtHost past node c None tasks sent
    sent_there = record {
      keys = at.keys;
      book = (part_same node false payload node_gives_text tt).node_as c.sessions.host.commands c.sessions.host.outcome at.book;
      commands = at.commands;
      orders = at.orders;
      ends = at.ends;
      gave = at.gave;
      saw = record { count = ap (λ (s : NodeState). s.seen) sent_now ∙ at.saw.count; waiting = λ some. at.saw.waiting (ap (λ (s : NodeState). is_some s.pending) (sym sent_now) ∙ some) };
      pending = λ plain e. at.pending plain (ap (λ (s : NodeState). s.pending) (sym sent_now) ∙ e);
      texts = subst (λ (t : Option (List ℕ)). TextIs past node t None) (ap (λ (s : NodeState). s.text) (sym sent_now)) tt;
      marks = at.marks;
      queue = at.queue;
      numbers = at.numbers;
    }

    text_own : Wrote past node c carried h (after_host h (Gives_text node payload)) (host_units (outs h (Gives_text node payload)))
    text_own =
        submits_text laws.thins past node c carried text tasks h go_up sent (frame_of (Attempt node false payload) (next_id h.requests.last_id)) sealed_number
        (laws.text c carried sealed_number tasks (subst (λ (t : Option ℕ). GoUp c carried t tasks) sealed_is.1.0 go_up) some_session) sent_there refl free
        (attempt_asks past node node false payload (next_id h.requests.last_id) (Some (Sealed (begun_of c.sessions.host) sealed_number))
        (λ own. subst (λ (s : ℕ). HostMeans past node payload (Up (Sealed s sealed_number))) of_last sealed_is.1.1))

  text_given : (n : ℕ) (payload : List ℕ) → is_busy h.side.turn ≡ false → (node_of h n).text ≡ Some payload → Wrote past node c carried h (after_host h (Gives_text n payload)) (host_units (outs h (Gives_text n payload)))
  text_given n payload free waited = by (n == node) refl
    where
      by : (b : Bool) → (n == node) ≡ b → Wrote past node c carried h (after_host h (Gives_text n payload)) (host_units (outs h (Gives_text n payload)))
      by true mine =
          subst (λ (k : ℕ). (node_of h k).text ≡ Some payload → Wrote past node c carried h (after_host h (Gives_text k payload)) (host_units (outs h (Gives_text k payload)))) (sym (eqb-true n node mine))
          (text_own payload free) waited
      by false other = let apart : n ≢ node = λ own. absurd (grind (arith, other, own)) in part_wrote n false payload node_gives_text tt (λ own. absurd (apart own)) free (laws.aside node h (Gives_text n payload) apart)

  -- a segment is given
  segment_given : (n : ℕ) (more : Bool) (payload : List ℕ) → is_busy h.side.turn ≡ false → open_segment h (node_of h n) (open_session (node_of h n).book) (node_of h n).next_segment ≡ Some payload
      → Wrote past node c carried h (after_host h (Gives_segment n more payload)) (host_units (outs h (Gives_segment n more payload)))
  segment_given n more payload free found =
      part_wrote n more payload node_gives_segment tt
      (λ own. segment_neither (open_session (node_of h node).book) (node_of h node).next_segment payload (subst (λ (k : ℕ). open_segment h (node_of h k) (open_session (node_of h k).book) (node_of h k).next_segment ≡ Some payload) own found)) free
      (laws.aside node h (Gives_segment n more payload) tt)

  -- a task that waited is submitted
  prefix_wrote : (queue : List Task) (marks : List (Option ℕ)) → Beside (TaskIs past node) queue marks → queue ≡ h.requests.queue → tasks ≡ labels marks → is_busy h.side.turn ≡ false → h.requests.queue ≢ []
      → Wrote past node c carried h (after_host h Submits_front) (host_units (outs h Submits_front))
  prefix_wrote [] marks beside queue numbers free some = absurd (some (sym queue))
  prefix_wrote (asked ∷ rest) [] beside queue numbers free some = absurd beside
  prefix_wrote (asked ∷ rest) (None ∷ marks) (first, more) queue numbers free some =
      submits_other laws.thins past node c carried text tasks h go_up (after_host h Submits_front) (frame_of (task_purpose h.requests.queue) (next_id h.requests.last_id))
      (leaves_line past node c text tasks h (after_host h Submits_front) at (requests_same (lock_course node) h BeginsPrefix tt) (laws.aside node h Submits_front tt)) refl free
      (subst (λ (q : List Task). Asks past node (frame_of (task_purpose q) (next_id h.requests.last_id)) None) queue (task_asks past node laws.no_more asked None (next_id h.requests.last_id) first))
  prefix_wrote (asked ∷ rest) (Some number ∷ marks) (first, more) queue numbers free some =
      submits_nonce laws.thins past node c carried text tasks h go_up (after_host h Submits_front) (frame_of (task_purpose h.requests.queue) (next_id h.requests.last_id)) number (labels marks)
      (laws.task c carried text number (labels marks) (subst (λ (l : List ℕ). GoUp c carried text l) numbers go_up)) (record {
        keys = at.keys;
        book = at.book;
        commands = at.commands;
        orders = at.orders;
        ends = at.ends;
        gave = at.gave;
        saw = at.saw;
        pending = at.pending;
        texts = at.texts;
        marks = marks;
        queue = subst (λ (q : List Task). Beside (TaskIs past node) (task_begun h.requests q).queue marks) queue more;
        numbers = refl;
      }) refl free
      (subst (λ (q : List Task). Asks past node (frame_of (task_purpose q) (next_id h.requests.last_id)) (Some (Offer number))) queue (task_asks past node laws.no_more asked (Some number) (next_id h.requests.last_id) first))

  line_ticks : Wrote past node c carried h (after_host h Line_ticks) (host_units (outs h Line_ticks))
  line_ticks =
      let g : HostState = after_host h Line_ticks in
      let ticked : HostState = line_ticked h in
      let same : SameHost (lock_course node) ticked g = failing_same (lock_course node) (gives_up h.side.turn (tick_side h.side).turn) ticked in
      let nonces : LeavesNonces node h g = laws.aside node h Line_ticks tt in
      let l : Leaves past node c text tasks g = leaves past node c text tasks ticked g (at_side past node c text tasks h (tick_side h.side) at) same (record { account = nonces.account; sealing = nonces.sealing }) in
      subst (λ (us : List LineUnit). Wrote past node c carried h g us) (sym (copy_units (copy_due h.side.turn) (failing_entries (gives_up h.side.turn (tick_side h.side).turn) (line_ticked h))))
      (turns laws.thins past node c carried text tasks h go_up g (copies_of (copy_due h.side.turn)) l
      (subst (λ (s : Side). Moves (Asks past node) h.side.turn [] (copies_of (copy_due h.side.turn)) s.turn [] []) (sym same.side) (move_ticked (Asks past node) h.side.turn [])))

  heard : (item : Item) → Wrote past node c carried h (after_host h (Hears item)) (host_units (answer_to item))
  heard item =
      turns laws.thins past node c carried text tasks h go_up (after_host h (Hears item)) (host_units (answer_to item))
      (record { left = text; later = tasks; at = at_side past node c text tasks h _ at; of_text = thinned_same (option_to_list text); of_tasks = thinned_same tasks })
      (answered (Asks past node) h.side.turn item)

  finished_same : (n session id command : ℕ) (status : FinalStatus) (wake_request : Bool) → n ≢ node → SameHost (lock_course node) h (after_host h (Finishes n session id command status wake_request))
  finished_same n session id command status wake_request apart =
      let done : HostState = with_node h n (after_node (node_of h n) (node_reports id (status_byte status))) in
      same_then (lock_course node) h done (after_host h (Finishes n session id command status wake_request)) (other_same (lock_course node) h n (after_node (node_of h n) (node_reports id (status_byte status))) apart)
      (same_then (lock_course node) done (finishing h n id command status) (after_host h (Finishes n session id command status wake_request))
      (same_host (lock_course node) done (finishing h n id command status) refl refl (outcome_orders h.commands command (outcome_of status)) refl refl)
      (holding_same (lock_course node) (finishing h n id command status) n (is_held h n wake_request)))

  -- the same to the node, with the law of its nonces
  silent : (event : HostEvent) → IsAside node event → SameHost (lock_course node) h (after_host h event) → host_units (outs h event) ≡ [] → Wrote past node c carried h (after_host h event) (host_units (outs h event))
  silent event aside same none = quiet (after_host h event) event same (laws.aside node h event aside) none

  unchanged : SameHost (lock_course node) h h
  unchanged = unchanged_host (lock_course node) h

  pub event_wrote : (event : HostEvent) → May h event → AsksFitly node event → IsUnheard node event → IsNoBegin event → IsReady c event → Wrote past node c carried h (after_host h event) (host_units (outs h event))
  event_wrote (Accepts order carriage) may asks aside begins ready = accepted order carriage asks
  event_wrote (Cancels command) may asks aside begins ready =
      silent (Cancels command) tt
      (same_then (lock_course node) h (node_does h (node_for h command) (node_cancels command)) (after_host h (Cancels command)) (does_same (lock_course node) h (node_for h command) (node_cancels command) tt)
      (same_host (lock_course node) (node_does h (node_for h command) (node_cancels command)) (after_host h (Cancels command)) refl refl (outcome_orders h.commands command _) refl refl)) refl
  event_wrote (Joins n) may asks aside begins ready = silent (Joins n) tt (does_same (lock_course node) h n node_joins tt) refl
  event_wrote (Queues queued) may asks aside begins ready = silent (Queues queued) tt (requests_same (lock_course node) h (Pushes queued) asks) refl
  event_wrote (Queues_interview n) may asks aside begins ready = silent (Queues_interview n) tt (requests_same (lock_course node) h (PushesInterview n) tt) refl
  event_wrote Queues_probe may asks aside begins ready = silent Queues_probe tt (requests_same (lock_course node) h PushesProbe tt) refl
  event_wrote (Hears item) may asks aside begins ready = heard item
  event_wrote (Requests_do event moment) may asks aside begins ready = silent (Requests_do event moment) tt (request_same (lock_course node) h event moment asks) (noted_none (request_entries h event))
  event_wrote (Interviews n listens classes update) may asks aside begins ready =
      silent (Interviews n listens classes update) tt
      (same_then (lock_course node) h (requests_do h (Updates update)) (after_host h (Interviews n listens classes update)) (requests_same (lock_course node) h (Updates update) tt) (does_same (lock_course node) (requests_do h (Updates update)) n (node_interviews listens classes) tt)) refl
  event_wrote (Interview_unkept n update) may asks aside begins ready = silent (Interview_unkept n update) tt (requests_same (lock_course node) h (Updates update) tt) refl
  event_wrote (Unreads n payload) may asks aside begins ready = silent (Unreads n payload) tt unchanged refl
  event_wrote (Is_unkept n) may asks aside begins ready = silent (Is_unkept n) tt unchanged refl
  event_wrote (Reports_old n id) may asks aside begins ready = silent (Reports_old n id) tt unchanged refl
  event_wrote (Works n id) may asks aside begins ready = silent (Works n id) tt (works_same (lock_course node) h n id may) refl
  event_wrote (Finishes n session id command status wake_request) may asks apart begins ready =
      silent (Finishes n session id command status wake_request) tt (finished_same n session id command status wake_request apart)
      (noted_none (Out command (ended_of status) ∷ (stored_entries n (settings_with status (command_at h.commands command)) ++ held_entries n (is_held h n wake_request))))
  event_wrote (Offers n) may asks apart begins ready = silent (Offers n) tt (offering_same h n (live_of h.nonces n) apart) (noted_none (dropped_if (is_full h) n))
  event_wrote (Gives n drawn) may asks apart begins ready =
      silent (Gives n drawn) apart
      (same_then (lock_course node) h (giving h n drawn) (after_host h (Gives n drawn)) (same_host (lock_course node) h (giving h n drawn) refl refl refl refl refl) (offering_same (giving h n drawn) n (live_of (giving h n drawn).nonces n) apart)) (noted_none (dropped_if (is_full h) n))
  event_wrote (Spends n) may asks apart begins ready = silent (Spends n) apart (same_host (lock_course node) h (after_host h (Spends n)) refl refl refl refl refl) refl
  event_wrote (Spends_unread n payload) may asks apart begins ready = silent (Spends_unread n payload) apart (same_host (lock_course node) h (after_host h (Spends_unread n payload)) refl refl refl refl refl) refl
  event_wrote (Takes_nonce n seen sealed) may asks apart begins ready = silent (Takes_nonce n seen sealed) apart (does_same (lock_course node) h n (node_takes_nonce seen sealed) tt) refl
  event_wrote (Notifies n) may asks aside begins ready = silent (Notifies n) tt (does_same (lock_course node) h n node_notifies tt) refl
  event_wrote (Resends n payload) may asks apart begins ready = silent (Resends n payload) tt (room_same (lock_course node) h (task.Segment n payload) apart) (noted_none (dropped_if (is_full h) n))
  event_wrote (Hears_value n setting) may asks aside begins ready = silent (Hears_value n setting) tt (same_host (lock_course node) h (after_host h (Hears_value n setting)) refl refl refl refl refl) refl
  event_wrote (Has_no_room n property) may asks aside begins ready = silent (Has_no_room n property) tt unchanged refl
  event_wrote Line_ticks may asks aside begins ready = line_ticks
  event_wrote (Node_ticks n) may asks aside begins ready =
      silent (Node_ticks n) tt
      (same_then (lock_course node) h (node_does h n node_ticks) (after_host h (Node_ticks n)) (does_same (lock_course node) h n node_ticks tt) (ended_same (lock_course node) (node_does h n node_ticks) (tick_end (node_of h n)) (open_command (node_of h n))))
      (noted_none (attempt_entries n (tick_end (node_of h n)) (open_command (node_of h n))))
  event_wrote (Queues_no_more n) may asks aside begins ready =
      silent (Queues_no_more n) tt
      (same_then (lock_course node) h (node_does h n node_queues_no_more) (after_host h (Queues_no_more n)) (does_same (lock_course node) h n node_queues_no_more tt) (requests_same (lock_course node) (node_does h n node_queues_no_more) (Pushes (task.NoMore n)) tt)) refl
  event_wrote (Drops_no_more n) may asks aside begins ready = silent (Drops_no_more n) tt (does_same (lock_course node) h n node_drops_no_more tt) refl
  event_wrote Submits_abort may asks aside begins ready =
      submits_other laws.thins past node c carried text tasks h go_up (after_host h Submits_abort) (frame_of Abort (next_id h.requests.last_id))
      (leaves_line past node c text tasks h (after_host h Submits_abort) at (requests_same (lock_course node) h BeginsAbort tt) (laws.aside node h Submits_abort tt)) refl may.0.free_line
      (abort_asks past node (next_id h.requests.last_id))
  event_wrote Submits_front may asks aside begins ready = prefix_wrote h.requests.queue at.marks at.queue refl at.numbers may.0.free_line may.2
  event_wrote (Starts n plan more payload) may asks aside begins ready = started n plan more payload may.0.free.free_line ready may.1
  event_wrote (Gives_text n payload) may asks aside begins ready = text_given n payload may.0.free.free_line may.1
  event_wrote (Gives_segment n more payload) may asks aside begins ready = segment_given n more payload may.0.free.free_line may.2
  event_wrote (Begins n session command) may asks aside begins ready = absurd begins
  event_wrote (Begin_unkept n) may asks aside begins ready = silent (Begin_unkept n) tt (does_same (lock_course node) h n node_blocks tt) refl
