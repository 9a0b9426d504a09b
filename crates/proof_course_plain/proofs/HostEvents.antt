-- Each event of the host that judges no report of the node and begins no session, in the course of the node.
use Rattle.std.proofs.Common.{◌≡◌, ◌≢◌, ℕ, zero, suc, ◌+◌, ◌<◌, ◌≤◌, ◌==◌, ◌⊎◌, inl, inr, Bool, true, false, nat_lt, if◌then◌else◌, Option, Some, None, List, [], ◌∷◌, ◌++◌, All, map, length, refl, ap, sym, ◌∙◌, subst, append-nil, arith}
use Rattle.std.proofs.lemmas.List.{map-append}
use Rattle.std.specs.Prelude.{slice_get}
use Rattle.std.specs.List.{AllByRecursion}
use Rattle.std.proofs.lemmas.Bool.{eqb-true}
use Rattle.zw_base.proofs.Each.{all-append, all-get}
use Rattle.supervision.specs.Host.{HostBook, begun_of, open_session, command_at as command_of_session}
use Rattle.supervision.proofs.OnceLemmas.{All-slice_get}
use Rattle.proof_course.specs.Parts.{numbered}
use Rattle.proof_course.specs.Sessions.{Course, Message}
use Rattle.serial_frame.specs.Frame.{FrameParts}
use Rattle.serial_frame.specs.declared.unit.Unit.{Unit as LineUnit}
use Rattle.serial_frame.specs.declared.unit.Unit.TheVariants.{Ack, Nak, Can, Framed}
use Rattle.serial_frame.specs.declared.item.Item.{Item}
use Rattle.serial_frame.specs.declared.item.Item.TheVariants.{Good, Refused}
use Rattle.serial_frame.specs.declared.item.Refusal.TheVariants.{Stray, BadLength, BadSum, BadKind, Aborted}
use Rattle.serial_link.specs.State.{Side, turn_heard, tick_side, copy_due}
use Rattle.serial_link.specs.declared.turn.Turn.{Turn}
use Rattle.zw_text.specs.declared.entry.Entry.{Entry}
use Rattle.zw_text.specs.declared.entry.Outcome.TheVariants.{Waiting}
use Rattle.zw_base.specs.declared.order.Order.{Order}
use Rattle.host_orders.specs.declared.carriage.Carriage.{Carriage}
use Rattle.host_orders.specs.Wrapping.{form_of}
use Rattle.host_orders.specs.declared.carriage.Form.{Form}
use Rattle.host_orders.specs.declared.carriage.Form.TheVariants.{Plain, Cut, Sealed}
use Rattle.host_requests.specs.Frames.{nonce_report, no_more_information, frame_of}
use Rattle.host_requests.specs.State.{next_id}
use Rattle.host_requests.specs.Events.RequestsEvent.{Pushes, PushesInterview, PushesProbe, BeginsAbort, BeginsPrefix, BeginsAttempt, Updates}
use Rattle.host_requests.specs.declared.task.Task.{Task}
use Rattle.host_requests.specs.declared.task.Task.TheVariants as task
use Rattle.host_requests.specs.declared.task.Purpose.TheVariants.{Housekeeping, Attempt, Abort}
use Rattle.host_node.specs.Events.{NodeEvent, after as after_node}
use Rattle.host_node.specs.Events.NodeEvent.{Joins as node_joins, Interviews as node_interviews, Puts as node_puts, Accepts as node_accepts, Cancels as node_cancels, Blocks as node_blocks, Starts as node_starts, Gives_segment as node_gives_segment, Gives_text as node_gives_text, Reports as node_reports, Takes_nonce as node_takes_nonce, Notifies as node_notifies, Queues_no_more as node_queues_no_more, Drops_no_more as node_drops_no_more, Ticks as node_ticks}
use Rattle.host_node.specs.Steps.{tick_end}
use Rattle.host_node.specs.declared.attempt.Plan.{Plan}
use Rattle.host_node.specs.declared.attempt.Plan.TheVariants.{Whole, Segments}
use Rattle.value_store.specs.Values.{Values}
use Rattle.host_keep.specs.Status.{status_byte}
use Rattle.host_keep.specs.declared.final_status.FinalStatus.{FinalStatus}
use Rattle.s0_session.specs.Nonces.{live_of}
use Rattle.host_model.specs.State.{HostState, Command, node_of, with_node, command_at}
use Rattle.host_model.specs.Sessions.{message_for, segment_count, segment_at, segment_by, segment_of, command_if, open_segment, open_command, settings_with, Start, start_by, start_of}
use Rattle.host_model.specs.After.{after as after_host, node_does, requests_do, submits_part, task_purpose, offering, giving, finishing, is_held, is_busy, gives_up, line_ticked, node_for, is_full, queues_if_room, outcome_of}
use Rattle.host_model.specs.Outs.{outs, answer_to, copy_out, noted, request_entries, failing_entries, dropped_if, ended_of, stored_entries, held_entries}
use Rattle.host_model.specs.Ends.{attempt_entries}
use Rattle.zw_text.specs.declared.entry.Entry.TheVariants.{Out}
use Rattle.host_model.specs.May.{May, IsStart, IsFree}
use Rattle.host_model.specs.Facts.{HostFacts, FitsForm, IsCommandOf, IsSound}
use Rattle.host_model.specs.Events.{HostEvent, Accepts, Cancels, Joins, Queues, Queues_interview, Queues_probe, Hears, Requests_do, Interviews, Interview_unkept, Unreads, Is_unkept, Reports_old, Works, Finishes, Offers, Gives, Spends, Spends_unread, Takes_nonce, Notifies, Resends, Hears_value, Has_no_room, Line_ticks, Node_ticks, Queues_no_more, Drops_no_more, Submits_abort, Submits_front, Starts, Gives_text, Gives_segment, Begins, Begin_unkept}
use Rattle.proof_world.specs.proof_serial.Line.{host_units}
use Rattle.proof_once.specs.proof_messages.Others.{IsOther}
use Rattle.proof_course_plain.specs.Meaning.{Asked, IsMessageOf, IsSegmentOf, IsMessage}
use Rattle.proof_course_plain.specs.Lines.{Asks, Moves}
use Rattle.proof_course_plain.specs.HostGoing.{IsAside}
use Rattle.proof_course_plain.specs.Host.{asked_of, IsPlainFor, IsTaskFor, AtHost, AsksPlainly}
use Rattle.proof_course_plain.proofs.WayLabels.{move_sign, move_heard, move_ticked, copies_of}
use Rattle.proof_course_plain.proofs.KeptHosts.{IsQuiet, StartsQuietly, SameHost, same_host, same_then, does_same, works_same, other_same, requests_same, request_same, room_same, holding_same, failing_same, ended_same, unchanged, outcome_orders}
use Rattle.proof_course_plain.proofs.KeptSessions.{plain_course}
use Rattle.proof_course_plain.proofs.Flights.{segment_stays}
use Rattle.proof_course_plain.proofs.HostFrames.{attempt_asks, abort_asks, segment_asks, task_asks}
use Rattle.proof_course_plain.proofs.HostActs.{Wrote, quietly, accepts, turns, submits_other, submits_message}

-- ---- commands by their numbers

numbered_of : {A : Type 0} (items : List A) (before : ℕ) (item : A) → slice_get items before ≡ Some item → numbered items (suc before) ≡ item ∷ []
numbered_of [] before item e = absurd (grind (arith, e))
numbered_of {A} (x ∷ items) zero item e = let same : x ≡ item = cc in ap (λ (y : A). y ∷ []) same
numbered_of (x ∷ items) (suc before) item e = numbered_of items before item e

pub session_numbered : (commands : List ℕ) (session number : ℕ) → command_of_session commands session ≡ Some number → numbered commands session ≡ number ∷ []
session_numbered commands zero number e = absurd (grind (arith, e))
session_numbered commands (suc before) number e = numbered_of commands before number e

pub get_map : (commands : List Command) (at : ℕ) (command : Command) → slice_get commands at ≡ Some command → slice_get (map asked_of commands) at ≡ Some (asked_of command)
get_map [] at command e = absurd (grind (arith, e))
get_map (x ∷ commands) zero command e = let same : x ≡ command = cc in ap (λ (y : Command). Some (asked_of y)) same
get_map (x ∷ commands) (suc at) command e = get_map commands at command e

pub command_numbered : (commands : List Command) (number : ℕ) (command : Command) → command_at commands number ≡ Some command → numbered (map asked_of commands) number ≡ asked_of command ∷ []
command_numbered commands zero command e = absurd (grind (arith, e))
command_numbered commands (suc before) command e = numbered_of (map asked_of commands) before (asked_of command) (get_map commands before command e)

plain_at : (node : ℕ) (commands : List Command) (number : ℕ) (command : Command) → AllByRecursion (IsPlainFor node) (map asked_of commands) → command_at commands number ≡ Some command → IsPlainFor node (asked_of command)
plain_at node commands zero command all e = absurd (grind (arith, e))
plain_at node commands (suc before) command all e = all-get (IsPlainFor node) (map asked_of commands) before (asked_of command) all (get_map commands before command e)

-- the message of a session, of the commands of a host; and each of its segments, where it is cut
pub message_of_command : (commands : List Command) (numbers : List ℕ) (store : Values) (session number : ℕ) (command : Command) → command_of_session numbers session ≡ Some number → command_at commands number ≡ Some command → IsSound store command
    → command.order.end ≤ 127 → IsMessageOf (map asked_of commands) numbers session (message_for command session)
message_of_command commands numbers store session number command carried found sound end = record {
  number = number;
  asked = asked_of command;
  carried = session_numbered numbers session number carried;
  accepted = command_numbered commands number command found;
  fit = sound.fit;
  end = end;
  text = refl;
}

pub segment_of_command : (commands : List Command) (numbers : List ℕ) (store : Values) (session number : ℕ) (command : Command) (k : ℕ) → command_of_session numbers session ≡ Some number → command_at commands number ≡ Some command
    → IsSound store command → command.order.end ≤ 127 → form_of command.carriage.outer ≡ Cut → k < segment_count (message_for command session)
    → (is : IsSegmentOf (map asked_of commands) numbers session (segment_at session (message_for command session) k)) × ((is.message ≡ message_for command session) × (is.place ≡ k))
segment_of_command commands numbers store session number command k carried found sound end cut within =
    let fits : FitsForm Cut (message_for command session) = subst (λ (f : Form). FitsForm f (message_for command session)) cut (sound.form session) in
    let some = fits.0 in (
      record {
        message = message_for command session;
        of = message_of_command commands numbers store session number command carried found sound end;
        most = fits.1;
        place = k;
        within = omega (arith, within, some);
        text = refl;
      },
      (refl, refl),
    )

pub owned : (commands : List Command) (node : ℕ) (numbers : List ℕ) (session number : ℕ) → All (IsCommandOf commands node) numbers → command_of_session numbers session ≡ Some number → IsCommandOf commands node number
owned commands node numbers zero number all e = absurd (grind (arith, e))
owned commands node numbers (suc before) number all e = All-slice_get (IsCommandOf commands node) numbers before number all e

pub open_is : (book : HostBook) (session : ℕ) → open_session book ≡ Some session → (session ≡ begun_of book) × (0 < begun_of book)
open_is book session e = by book.outcome book.commands refl refl e
  where
    by : (outcome : Option ℕ) (commands : List ℕ) → book.outcome ≡ outcome → book.commands ≡ commands → open_session (record { commands = commands; outcome = outcome; attempts = book.attempts }) ≡ Some session → (session ≡ begun_of book) × (0 < begun_of book)
    by (Some status) commands o are open_is = absurd (grind (arith, open_is))
    by None [] o are open_is = absurd (grind (arith, open_is))
    by None (command ∷ more) o are open_is =
        let last : suc (length more) ≡ session = cc in
        let long : begun_of book ≡ suc (length more) = ap length are in (sym last ∙ sym long, omega (arith, long))

pub noted_none : (entries : List Entry) → host_units (noted entries) ≡ []
noted_none [] = refl
noted_none (e ∷ entries) = noted_none entries

pub copy_units : (copy : Option FrameParts) (entries : List Entry) → host_units (copy_out copy ++ noted entries) ≡ copies_of copy
copy_units None entries = noted_none entries
copy_units (Some f) entries = ap (λ (l : List LineUnit). Framed f ∷ l) (noted_none entries)

-- an item is answered
pub answered : {L : Type 0} (Is : FrameParts → Option L → Type 0) (turn : Turn) (item : Item) → Moves Is turn [] (host_units (answer_to item)) (turn_heard turn item) [] []
answered Is turn (Good Ack) = move_heard Is turn (Good Ack) []
answered Is turn (Good Nak) = move_heard Is turn (Good Nak) []
answered Is turn (Good Can) = move_heard Is turn (Good Can) []
answered Is turn (Good (Framed f)) = move_sign Is Ack turn [] tt
answered Is turn (Refused (Stray x)) = move_heard Is turn (Refused (Stray x)) []
answered Is turn (Refused (BadLength n)) = move_heard Is turn (Refused (BadLength n)) []
answered Is turn (Refused (BadSum want got)) = move_sign Is Nak turn [] tt
answered Is turn (Refused (BadKind x)) = move_sign Is Nak turn [] tt
answered Is turn (Refused Aborted) = move_heard Is turn (Refused Aborted) []

-- what waits stays so, where more orders are accepted
task_more : (node : ℕ) (orders more : List Asked) (commands : List ℕ) (queued : Task) → IsTaskFor node orders commands queued → IsTaskFor node (orders ++ more) commands queued
task_more node orders more commands (task.Segment n payload) is =
    λ own. ((is own).0, subst (λ (cs : List ℕ). IsSegmentOf (orders ++ more) cs (length commands) payload) (append-nil commands) (segment_stays orders more commands [] true (length commands) payload (is own).1))
task_more node orders more commands _ is = is

pub tasks_more : (node : ℕ) (orders more : List Asked) (commands : List ℕ) (queue : List Task) → AllByRecursion (IsTaskFor node orders commands) queue → AllByRecursion (IsTaskFor node (orders ++ more) commands) queue
tasks_more node orders more commands [] all = tt
tasks_more node orders more commands (queued ∷ queue) all = (task_more node orders more commands queued all.0, tasks_more node orders more commands queue all.1)

-- ---- the events

module _ (nonces : (nonce : List ℕ) → IsOther (nonce_report nonce)) (no_more : IsOther no_more_information) (node : ℕ) (orders : List Asked) (c : Course) (h : HostState) (facts : HostFacts h) (at : AtHost node orders c.host h) where
  commands_are : (node_of h node).book.commands ≡ c.host.commands
  commands_are = at.node_as.0

  plain_all : AllByRecursion (IsPlainFor node) (map asked_of h.commands)
  plain_all = subst (λ (os : List Asked). AllByRecursion (IsPlainFor node) os) at.orders_are at.plain

  -- the command of a session of the node
  record Carried (command : Command) : Type 0 where
    unsealed : form_of command.carriage.outer ≢ Sealed
    end : command.order.end ≤ 127
    sound : IsSound h.store command

  carried_by : (session number : ℕ) (command : Command) → command_of_session (node_of h node).book.commands session ≡ Some number → command_at h.commands number ≡ Some command → Carried command
  carried_by session number command carried found =
      let own : IsCommandOf h.commands node number = owned h.commands node (node_of h node).book.commands session number (facts.owns node).sessions carried in
      let both : Some own.command ≡ Some command = sym own.found ∙ found in
      let same : own.command ≡ command = cc in
      let of : command.order.node ≡ node = ap (λ (x : Command). x.order.node) (sym same) ∙ own.node in
      let plain = plain_at node h.commands number command plain_all found of in
      record { unsealed = plain.0; end = plain.1; sound = sound_at number command found }
    where
      sound_at : (number : ℕ) (command : Command) → command_at h.commands number ≡ Some command → IsSound h.store command
      sound_at zero command e = absurd (grind (arith, e))
      sound_at (suc before) command e = All-slice_get (IsSound h.store) h.commands before command facts.commands e

  -- the message of a session of the node
  message_of_session : (session number : ℕ) (command : Command) → command_of_session (node_of h node).book.commands session ≡ Some number → command_at h.commands number ≡ Some command
      → IsMessageOf orders c.host.commands session (message_for command session)
  message_of_session session number command carried found =
      let p = carried_by session number command carried found in
      subst (λ (cs : List ℕ). IsMessageOf orders cs session (message_for command session)) commands_are
      (subst (λ (os : List Asked). IsMessageOf os (node_of h node).book.commands session (message_for command session)) (sym at.orders_are)
      (message_of_command h.commands (node_of h node).book.commands h.store session number command carried found p.sound p.end))

  -- a segment of the last session
  abbrev LastSegment : List ℕ → Type 0
  LastSegment payload = (0 < begun_of c.host) × IsSegmentOf orders c.host.commands (begun_of c.host) payload

  -- its segments, and each that is sent of the open session
  cut_segment : (session number : ℕ) (command : Command) (k : ℕ) (payload : List ℕ) → command_of_session (node_of h node).book.commands session ≡ Some number → command_at h.commands number ≡ Some command
      → form_of command.carriage.outer ≡ Cut → k < segment_count (message_for command session) → payload ≡ segment_at session (message_for command session) k → IsSegmentOf orders c.host.commands session payload
  cut_segment session number command k payload carried found cut within text =
      let p = carried_by session number command carried found in
      subst (λ (cs : List ℕ). IsSegmentOf orders cs session payload) commands_are
      (subst (λ (os : List Asked). IsSegmentOf os (node_of h node).book.commands session payload) (sym at.orders_are)
      (subst (λ (p2 : List ℕ). IsSegmentOf (map asked_of h.commands) (node_of h node).book.commands session p2) (sym text)
      (segment_of_command h.commands (node_of h node).book.commands h.store session number command k carried found p.sound p.end cut within).0))

  last_of : (session : ℕ) (payload : List ℕ) → open_session (node_of h node).book ≡ Some session → IsSegmentOf orders c.host.commands session payload → LastSegment payload
  last_of session payload opened is =
      let last = open_is (node_of h node).book session opened in
      let session_is : session ≡ begun_of c.host = last.0 ∙ ap length commands_are in
      (subst (λ (cs : List ℕ). 0 < length cs) commands_are last.1, subst (λ (s : ℕ). IsSegmentOf orders c.host.commands s payload) session_is is)

  some_text : (a b : List ℕ) → Some a ≡ Some b → b ≡ a
  some_text a b e = cc

  open_is_last : (session : Option ℕ) (k : ℕ) (payload : List ℕ) → open_session (node_of h node).book ≡ session → open_segment h (node_of h node) session k ≡ Some payload → LastSegment payload
  open_is_last None k payload opened e = absurd (grind (arith, e))
  open_is_last (Some session) k payload opened e = by (command_of_session (node_of h node).book.commands session) refl e
    where
      form_by : (number : ℕ) (command : Command) (form : Form) → form_of command.carriage.outer ≡ form → command_at h.commands number ≡ Some command → command_of_session (node_of h node).book.commands session ≡ Some number
          → segment_by form session (message_for command session) k ≡ Some payload → LastSegment payload
      form_by number command Plain form is carried e = absurd (grind (arith, e))
      form_by number command Sealed form is carried e = absurd ((carried_by session number command carried is).unsealed form)
      form_by number command Cut form is carried e = within (nat_lt k (segment_count (message_for command session))) refl e
        where
          within : (b : Bool) → nat_lt k (segment_count (message_for command session)) ≡ b → (if b then Some (segment_at session (message_for command session) k) else None) ≡ Some payload → LastSegment payload
          within true less e = last_of session payload opened (cut_segment session number command k payload carried is form (grind (arith, less)) (some_text (segment_at session (message_for command session) k) payload e))
          within false less e = absurd (grind (arith, e))

      found_by : (number : ℕ) (found : Option Command) → command_at h.commands number ≡ found → command_of_session (node_of h node).book.commands session ≡ Some number → segment_of found session k ≡ Some payload → LastSegment payload
      found_by number None is carried e = absurd (grind (arith, e))
      found_by number (Some command) is carried e = form_by number command (form_of command.carriage.outer) refl is carried e

      by : (number : Option ℕ) → command_of_session (node_of h node).book.commands session ≡ number → segment_of (command_if h.commands number) session k ≡ Some payload → LastSegment payload
      by None is e = absurd (grind (arith, e))
      by (Some number) is e = found_by number (command_at h.commands number) refl is e

  -- the same of a node that is this one
  given_is_last : (n k : ℕ) (payload : List ℕ) → open_segment h (node_of h n) (open_session (node_of h n).book) k ≡ Some payload → n ≡ node → LastSegment payload
  given_is_last n k payload found own =
      open_is_last (open_session (node_of h node).book) k payload refl (subst (λ (m : ℕ). open_segment h (node_of h m) (open_session (node_of h m).book) k ≡ Some payload) own found)

  -- nothing but entries
  quiet : (g : HostState) (event : HostEvent) → SameHost (plain_course node) h g → host_units (outs h event) ≡ [] → Wrote node orders c h g (host_units (outs h event))
  quiet g event same none = subst (λ (us : List LineUnit). Wrote node orders c h g us) (sym none) (quietly node orders c h at g same)

  offering_same : (g : HostState) (n : ℕ) (live : Option (List ℕ)) → SameHost (plain_course node) g (offering g n live)
  offering_same g n None = unchanged (plain_course node) g
  offering_same g n (Some nonce) = room_same (plain_course node) g (task.Offer n nonce) tt

  accepted : (order : Order) (carriage : Carriage) → IsPlainFor node (record { order = order; carriage = carriage }) → Wrote node orders c h (after_host h (Accepts order carriage)) []
  accepted order carriage plain =
      let taken : Command = record { order = order; carriage = carriage; outcome = Waiting } in
      let base : HostState = record h { commands = h.commands ++ taken ∷ []; store = (after_host h (Accepts order carriage)).store } in
      let put : HostState = node_does base order.node (node_puts (length h.commands + 1)) in
      let first : SameHost (plain_course node) base put = does_same (plain_course node) base order.node (node_puts (length h.commands + 1)) tt in
      let later : SameHost (plain_course node) put (node_does put order.node node_accepts) = does_same (plain_course node) put order.node node_accepts tt in
      accepts node orders c h at (after_host h (Accepts order carriage)) (record { order = order; carriage = carriage } ∷ []) (record {
        node_as = later.node_as c.host.commands c.host.outcome (first.node_as c.host.commands c.host.outcome at.node_as);
        orders_are = ap (λ l. l ++ record { order = order; carriage = carriage } ∷ []) at.orders_are ∙ sym (map-append asked_of h.commands (taken ∷ []));
        plain = all-append (IsPlainFor node) orders (record { order = order; carriage = carriage } ∷ []) at.plain (plain, tt);
        queue = tasks_more node orders (record { order = order; carriage = carriage } ∷ []) c.host.commands h.requests.queue at.queue;
      }) refl

  -- a part of an attempt of another node
  part_same : (n : ℕ) (more : Bool) (payload : List ℕ) (gives : NodeEvent) → (n ≡ node → IsQuiet false gives) → SameHost (plain_course node) h (record (submits_part h n more payload gives) { side = h.side })
  part_same n more payload gives quiet = by (n == node) refl
    where
      by : (b : Bool) → (n == node) ≡ b → SameHost (plain_course node) h (record (submits_part h n more payload gives) { side = h.side })
      by true own =
          same_then (plain_course node) h (record (requests_do h (BeginsAttempt n more payload)) { served = n }) (record (submits_part h n more payload gives) { side = h.side })
          (record { keys = refl; node_as = λ cs o was. was; orders = refl; queue = λ asked commands all. all; side = refl })
          (does_same (plain_course node) (record (requests_do h (BeginsAttempt n more payload)) { served = n }) n gives (quiet (eqb-true n node own)))
      by false other =
          same_then (plain_course node) h (record (requests_do h (BeginsAttempt n more payload)) { served = n }) (record (submits_part h n more payload gives) { side = h.side })
          (record { keys = refl; node_as = λ cs o was. was; orders = refl; queue = λ asked commands all. all; side = refl })
          (other_same (plain_course node) (record (requests_do h (BeginsAttempt n more payload)) { served = n }) n (after_node (node_of h n) gives) (λ e. absurd (grind (arith, other, e))))

  -- an attempt begins
  started : (n : ℕ) (plan : Plan) (more : Bool) (payload : List ℕ) → is_busy h.side.turn ≡ false → IsStart h n plan more payload → Wrote node orders c h (after_host h (Starts n plan more payload)) (host_units (outs h (Starts n plan more payload)))
  started n plan more payload free is = by (n == node) refl
    where
      by : (b : Bool) → (n == node) ≡ b → Wrote node orders c h (after_host h (Starts n plan more payload)) (host_units (outs h (Starts n plan more payload)))
      by false other =
          submits_other node orders c h at (after_host h (Starts n plan more payload)) (frame_of (Attempt n more payload) (next_id h.requests.last_id))
          (part_same n more payload (node_starts plan) (λ own. absurd (grind (arith, other, own)))) refl free
          (attempt_asks nonces no_more node orders c.host.commands n more payload (next_id h.requests.last_id) None (λ own. absurd (grind (arith, other, own))))
      by true mine = by_form (form_of is.command.carriage.outer) refl
        where
          own : n ≡ node
          own = eqb-true n node mine

          opened : open_session (node_of h node).book ≡ Some is.session
          opened = ap (λ (k : ℕ). open_session (node_of h k).book) (sym own) ∙ is.opened

          last : (is.session ≡ begun_of (node_of h node).book) × (0 < begun_of (node_of h node).book)
          last = open_is (node_of h node).book is.session opened

          carried : command_of_session (node_of h node).book.commands is.session ≡ Some is.carried.0
          carried = ap (λ (k : ℕ). command_of_session (node_of h k).book.commands is.session) (sym own) ∙ is.carried.1

          session_is : is.session ≡ begun_of c.host
          session_is = last.0 ∙ ap length commands_are

          some : 0 < begun_of c.host
          some = subst (λ (cs : List ℕ). 0 < length cs) commands_are last.1

          start : (f : Form) → form_of is.command.carriage.outer ≡ f → start_of is.command is.session ≡ start_by f is.session (message_for is.command is.session)
          start f e = ap (λ (x : Form). start_by x is.session (message_for is.command is.session)) e

          submitted : (is_segment : Bool) → StartsQuietly false plan → IsMessage is_segment orders c.host.commands (begun_of c.host) payload → Wrote node orders c h (after_host h (Starts n plan more payload)) (host_units (outs h (Starts n plan more payload)))
          submitted is_segment quiet message =
              submits_message node orders c h at (after_host h (Starts n plan more payload)) (frame_of (Attempt n more payload) (next_id h.requests.last_id)) is_segment
              (part_same n more payload (node_starts plan) (λ e. quiet)) refl free some
              (attempt_asks nonces no_more node orders c.host.commands n more payload (next_id h.requests.last_id) (Some (record { session = begun_of c.host; is_segment = is_segment })) (λ e. message))

          by_form : (f : Form) → form_of is.command.carriage.outer ≡ f → Wrote node orders c h (after_host h (Starts n plan more payload)) (host_units (outs h (Starts n plan more payload)))
          by_form Sealed e = absurd ((carried_by is.session is.carried.0 is.command carried is.carried.2).unsealed e)
          by_form Plain e =
              let whole : plan ≡ Whole = is.plan_is ∙ ap (λ (s : Start). s.plan) (start Plain e) in
              let text : payload ≡ message_for is.command is.session = is.payload_is ∙ ap (λ (s : Start). s.payload) (start Plain e) in
              submitted false (subst (λ (q : Plan). StartsQuietly false q) (sym whole) tt)
              (subst (λ (p : List ℕ). IsMessageOf orders c.host.commands (begun_of c.host) p) (sym text)
              (subst (λ (s : ℕ). IsMessageOf orders c.host.commands s (message_for is.command is.session)) session_is (message_of_session is.session is.carried.0 is.command carried is.carried.2)))
          by_form Cut e =
              let parts : plan ≡ Segments (segment_count (message_for is.command is.session)) = is.plan_is ∙ ap (λ (s : Start). s.plan) (start Cut e) in
              let text : payload ≡ segment_at is.session (message_for is.command is.session) 0 = is.payload_is ∙ ap (λ (s : Start). s.payload) (start Cut e) in
              let fits : FitsForm Cut (message_for is.command is.session) =
              subst (λ (f : Form). FitsForm f (message_for is.command is.session)) e ((carried_by is.session is.carried.0 is.command carried is.carried.2).sound.form is.session) in
              let long = fits.0 in
              submitted true (subst (λ (q : Plan). StartsQuietly false q) (sym parts) tt)
              (subst (λ (s : ℕ). IsSegmentOf orders c.host.commands s payload) session_is
              (cut_segment is.session is.carried.0 is.command 0 payload carried is.carried.2 e (omega (arith, long)) text))

  free_turn : IsFree h → is_busy h.side.turn ≡ false
  free_turn free = free.free_line

  abbrev last_segment : Message
  last_segment = record { session = begun_of c.host; is_segment = true }

  -- what a frame brings the node: no message of a session, or a segment of the last
  abbrev Brings : FrameParts → Type 0
  Brings f = Asks node orders c.host.commands f None ⊎ ((0 < begun_of c.host) × Asks node orders c.host.commands f (Some last_segment))

  task_brings : (queued : Task) (id : ℕ) → IsTaskFor node orders c.host.commands queued → Brings (frame_of (Housekeeping queued) id)
  task_brings (task.Segment n payload) id is = by (n == node) refl
    where
      by : (b : Bool) → (n == node) ≡ b → Brings (frame_of (Housekeeping (task.Segment n payload)) id)
      by true mine = let own : n ≡ node = eqb-true n node mine in inr ((is own).0, segment_asks nonces no_more node orders c.host.commands n payload id (Some last_segment) (λ e. (is own).1))
      by false other = inl (segment_asks nonces no_more node orders c.host.commands n payload id None (λ own. absurd (grind (arith, other, own))))
  task_brings (task.Plain n payload) id is = inl (task_asks nonces no_more node orders c.host.commands (task.Plain n payload) id is)
  task_brings (task.Offer n nonce) id is = inl (task_asks nonces no_more node orders c.host.commands (task.Offer n nonce) id is)
  task_brings (task.NoMore n) id is = inl (task_asks nonces no_more node orders c.host.commands (task.NoMore n) id is)
  task_brings (task.First n) id is = inl (task_asks nonces no_more node orders c.host.commands (task.First n) id is)
  task_brings (task.Second n) id is = inl (task_asks nonces no_more node orders c.host.commands (task.Second n) id is)
  task_brings task.Members id is = inl (task_asks nonces no_more node orders c.host.commands task.Members id is)
  task_brings (task.Neighbours n) id is = inl (task_asks nonces no_more node orders c.host.commands (task.Neighbours n) id is)
  task_brings (task.IsFailed n) id is = inl (task_asks nonces no_more node orders c.host.commands (task.IsFailed n) id is)
  task_brings task.Version id is = inl (task_asks nonces no_more node orders c.host.commands task.Version id is)
  task_brings task.MemoryId id is = inl (task_asks nonces no_more node orders c.host.commands task.MemoryId id is)
  task_brings task.Capabilities id is = inl (task_asks nonces no_more node orders c.host.commands task.Capabilities id is)

  -- a task that waited is submitted
  prefix_brings : (queue : List Task) (id : ℕ) → AllByRecursion (IsTaskFor node orders c.host.commands) queue → Brings (frame_of (task_purpose queue) id)
  prefix_brings [] id all = inl (abort_asks nonces no_more node orders c.host.commands id)
  prefix_brings (queued ∷ rest) id all = task_brings queued id all.0

  prefix_wrote : is_busy h.side.turn ≡ false → Brings (frame_of (task_purpose h.requests.queue) (next_id h.requests.last_id)) → Wrote node orders c h (after_host h Submits_front) (host_units (outs h Submits_front))
  prefix_wrote free (inl none) =
      submits_other node orders c h at (after_host h Submits_front) (frame_of (task_purpose h.requests.queue) (next_id h.requests.last_id)) (requests_same (plain_course node) h BeginsPrefix tt) refl free none
  prefix_wrote free (inr (some, segment)) =
      submits_message node orders c h at (after_host h Submits_front) (frame_of (task_purpose h.requests.queue) (next_id h.requests.last_id)) true (requests_same (plain_course node) h BeginsPrefix tt) refl free some segment

  -- a segment that is given, or waits to be sent again
  segment_given : (n : ℕ) (more : Bool) (payload : List ℕ) → is_busy h.side.turn ≡ false → open_segment h (node_of h n) (open_session (node_of h n).book) (node_of h n).next_segment ≡ Some payload
      → Wrote node orders c h (after_host h (Gives_segment n more payload)) (host_units (outs h (Gives_segment n more payload)))
  segment_given n more payload free found = by (n == node) refl
    where
      by : (b : Bool) → (n == node) ≡ b → Wrote node orders c h (after_host h (Gives_segment n more payload)) (host_units (outs h (Gives_segment n more payload)))
      by true mine =
          let last : LastSegment payload = given_is_last n (node_of h n).next_segment payload found (eqb-true n node mine) in
          submits_message node orders c h at (after_host h (Gives_segment n more payload)) (frame_of (Attempt n more payload) (next_id h.requests.last_id)) true (part_same n more payload node_gives_segment (λ own. tt)) refl free last.0
          (attempt_asks nonces no_more node orders c.host.commands n more payload (next_id h.requests.last_id) (Some last_segment) (λ e. last.1))
      by false other =
          submits_other node orders c h at (after_host h (Gives_segment n more payload)) (frame_of (Attempt n more payload) (next_id h.requests.last_id)) (part_same n more payload node_gives_segment (λ own. tt)) refl free
          (attempt_asks nonces no_more node orders c.host.commands n more payload (next_id h.requests.last_id) None (λ own. absurd (grind (arith, other, own))))

  resent : (n k : ℕ) (payload : List ℕ) → open_segment h (node_of h n) (open_session (node_of h n).book) k ≡ Some payload → Wrote node orders c h (queues_if_room h (task.Segment n payload)) []
  resent n k payload found = by (is_full h)
    where
      queued : HostState
      queued = requests_do h (Pushes (task.Segment n payload))

      there : AtHost node orders c.host queued
      there = record {
        node_as = at.node_as;
        orders_are = at.orders_are;
        plain = at.plain;
        queue = all-append (IsTaskFor node orders c.host.commands) h.requests.queue (task.Segment n payload ∷ []) at.queue (given_is_last n k payload found, tt);
      }

      by : (b : Bool) → Wrote node orders c h (if b then h else queued) []
      by true = quietly node orders c h at h (unchanged (plain_course node) h)
      by false = accepts node orders c h at queued [] (subst (λ (os : List Asked). AtHost node os c.host queued) (sym (append-nil orders)) there) refl

  text_given : (n : ℕ) (payload : List ℕ) → (node_of h n).text ≡ Some payload → n ≡ node → ⊥
  text_given n payload is own = let bad : None ≡ Some payload = sym at.node_as.1.1.0 ∙ (ap (λ (k : ℕ). (node_of h k).text) (sym own) ∙ is) in absurd cc

  nonce_taken : (n seen : ℕ) (text : List ℕ) → May h (Takes_nonce n seen text) → SameHost (plain_course node) h (node_does h n (node_takes_nonce seen text))
  nonce_taken n seen text (nonce, own, count, sealed, eight) = by (n == node) refl
    where
      by : (b : Bool) → (n == node) ≡ b → SameHost (plain_course node) h (node_does h n (node_takes_nonce seen text))
      by true mine =
          let same : n ≡ node = eqb-true n node mine in
          let bad : None ≡ Some sealed.plain = sym at.node_as.1.1.1 ∙ (ap (λ (k : ℕ). (node_of h k).pending) (sym same) ∙ sealed.is_pending) in absurd cc
      by false other = other_same (plain_course node) h n (after_node (node_of h n) (node_takes_nonce seen text)) (λ e. absurd (grind (arith, other, e)))

  finished_same : (n session id command : ℕ) (status : FinalStatus) (wake_request : Bool) → n ≢ node → SameHost (plain_course node) h (after_host h (Finishes n session id command status wake_request))
  finished_same n session id command status wake_request apart =
      let done : HostState = with_node h n (after_node (node_of h n) (node_reports id (status_byte status))) in
      same_then (plain_course node) h done (after_host h (Finishes n session id command status wake_request)) (other_same (plain_course node) h n (after_node (node_of h n) (node_reports id (status_byte status))) apart)
      (same_then (plain_course node) done (finishing h n id command status) (after_host h (Finishes n session id command status wake_request))
      (same_host (plain_course node) done (finishing h n id command status) refl refl (outcome_orders h.commands command (outcome_of status)) refl refl)
      (holding_same (plain_course node) (finishing h n id command status) n (is_held h n wake_request)))

  line_ticks : Wrote node orders c h (after_host h Line_ticks) (host_units (outs h Line_ticks))
  line_ticks =
      let ticked : HostState = line_ticked h in
      let b : Bool = gives_up h.side.turn (tick_side h.side).turn in
      let same : SameHost (plain_course node) ticked (after_host h Line_ticks) = failing_same (plain_course node) b ticked in
      let there : AtHost node orders c.host (after_host h Line_ticks) = record {
        node_as = same.node_as c.host.commands c.host.outcome at.node_as;
        orders_are = at.orders_are ∙ sym same.orders;
        plain = at.plain;
        queue = same.queue orders c.host.commands at.queue;
      } in
      subst (λ (us : List LineUnit). Wrote node orders c h (after_host h Line_ticks) us) (sym (copy_units (copy_due h.side.turn) (failing_entries (gives_up h.side.turn (tick_side h.side).turn) (line_ticked h))))
      (turns node orders c h at (after_host h Line_ticks) (copies_of (copy_due h.side.turn)) there
      (λ Is. subst (λ (s : Side). Moves Is h.side.turn [] (copies_of (copy_due h.side.turn)) s.turn [] []) (sym same.side) (move_ticked Is h.side.turn [])))

  pub event_wrote : (event : HostEvent) → May h event → AsksPlainly node event → IsAside node event → Wrote node orders c h (after_host h event) (host_units (outs h event))
  event_wrote (Accepts order carriage) may asks aside = accepted order carriage asks
  event_wrote (Cancels command) may asks aside =
      quiet (after_host h (Cancels command)) (Cancels command)
      (same_then (plain_course node) h (node_does h (node_for h command) (node_cancels command)) (after_host h (Cancels command)) (does_same (plain_course node) h (node_for h command) (node_cancels command) tt)
      (same_host (plain_course node) (node_does h (node_for h command) (node_cancels command)) (after_host h (Cancels command)) refl refl (outcome_orders h.commands command _) refl refl)) refl
  event_wrote (Joins n) may asks aside = quiet (after_host h (Joins n)) (Joins n) (does_same (plain_course node) h n node_joins tt) refl
  event_wrote (Queues queued) may asks aside = quiet (after_host h (Queues queued)) (Queues queued) (requests_same (plain_course node) h (Pushes queued) asks) refl
  event_wrote (Queues_interview n) may asks aside = quiet (after_host h (Queues_interview n)) (Queues_interview n) (requests_same (plain_course node) h (PushesInterview n) tt) refl
  event_wrote Queues_probe may asks aside = quiet (after_host h Queues_probe) Queues_probe (requests_same (plain_course node) h PushesProbe tt) refl
  event_wrote (Hears item) may asks aside =
      turns node orders c h at (after_host h (Hears item)) (host_units (answer_to item)) (record { node_as = at.node_as; orders_are = at.orders_are; plain = at.plain; queue = at.queue }) (λ Is. answered Is h.side.turn item)
  event_wrote (Requests_do event moment) may asks aside = quiet (after_host h (Requests_do event moment)) (Requests_do event moment) (request_same (plain_course node) h event moment asks) (noted_none (request_entries h event))
  event_wrote (Interviews n listens classes update) may asks aside =
      quiet (after_host h (Interviews n listens classes update)) (Interviews n listens classes update)
      (same_then (plain_course node) h (requests_do h (Updates update)) (after_host h (Interviews n listens classes update)) (requests_same (plain_course node) h (Updates update) tt) (does_same (plain_course node) (requests_do h (Updates update)) n (node_interviews listens classes) tt)) refl
  event_wrote (Interview_unkept n update) may asks aside = quiet (after_host h (Interview_unkept n update)) (Interview_unkept n update) (requests_same (plain_course node) h (Updates update) tt) refl
  event_wrote (Unreads n payload) may asks aside = quiet h (Unreads n payload) (unchanged (plain_course node) h) refl
  event_wrote (Is_unkept n) may asks aside = quiet h (Is_unkept n) (unchanged (plain_course node) h) refl
  event_wrote (Reports_old n id) may asks aside = quiet h (Reports_old n id) (unchanged (plain_course node) h) refl
  event_wrote (Works n id) may asks aside = quiet (after_host h (Works n id)) (Works n id) (works_same (plain_course node) h n id may) refl
  event_wrote (Finishes n session id command status wake_request) may asks apart =
      quiet (after_host h (Finishes n session id command status wake_request)) (Finishes n session id command status wake_request) (finished_same n session id command status wake_request apart) (noted_none (Out command (ended_of status) ∷ (stored_entries n (settings_with status (command_at h.commands command)) ++ held_entries n (is_held h n wake_request))))
  event_wrote (Offers n) may asks aside = quiet (after_host h (Offers n)) (Offers n) (offering_same h n (live_of h.nonces n)) (noted_none (dropped_if (is_full h) n))
  event_wrote (Gives n drawn) may asks aside =
      quiet (after_host h (Gives n drawn)) (Gives n drawn)
      (same_then (plain_course node) h (giving h n drawn) (after_host h (Gives n drawn)) (same_host (plain_course node) h (giving h n drawn) refl refl refl refl refl) (offering_same (giving h n drawn) n (live_of (giving h n drawn).nonces n))) (noted_none (dropped_if (is_full h) n))
  event_wrote (Spends n) may asks aside = quiet (after_host h (Spends n)) (Spends n) (same_host (plain_course node) h (after_host h (Spends n)) refl refl refl refl refl) refl
  event_wrote (Spends_unread n payload) may asks aside = quiet (after_host h (Spends_unread n payload)) (Spends_unread n payload) (same_host (plain_course node) h (after_host h (Spends_unread n payload)) refl refl refl refl refl) refl
  event_wrote (Takes_nonce n seen text) may asks aside = quiet (after_host h (Takes_nonce n seen text)) (Takes_nonce n seen text) (nonce_taken n seen text may) refl
  event_wrote (Notifies n) may asks aside = quiet (after_host h (Notifies n)) (Notifies n) (does_same (plain_course node) h n node_notifies tt) refl
  event_wrote (Resends n payload) (k, found) asks aside =
      subst (λ (us : List LineUnit). Wrote node orders c h (after_host h (Resends n payload)) us) (sym (noted_none (dropped_if (is_full h) n))) (resent n k payload found)
  event_wrote (Hears_value n setting) may asks aside = quiet (after_host h (Hears_value n setting)) (Hears_value n setting) (same_host (plain_course node) h (after_host h (Hears_value n setting)) refl refl refl refl refl) refl
  event_wrote (Has_no_room n property) may asks aside = quiet h (Has_no_room n property) (unchanged (plain_course node) h) refl
  event_wrote Line_ticks may asks aside = line_ticks
  event_wrote (Node_ticks n) may asks aside =
      quiet (after_host h (Node_ticks n)) (Node_ticks n)
      (same_then (plain_course node) h (node_does h n node_ticks) (after_host h (Node_ticks n)) (does_same (plain_course node) h n node_ticks tt) (ended_same (plain_course node) (node_does h n node_ticks) (tick_end (node_of h n)) (open_command (node_of h n)))) (noted_none (attempt_entries n (tick_end (node_of h n)) (open_command (node_of h n))))
  event_wrote (Queues_no_more n) may asks aside =
      quiet (after_host h (Queues_no_more n)) (Queues_no_more n)
      (same_then (plain_course node) h (node_does h n node_queues_no_more) (after_host h (Queues_no_more n)) (does_same (plain_course node) h n node_queues_no_more tt) (requests_same (plain_course node) (node_does h n node_queues_no_more) (Pushes (task.NoMore n)) tt)) refl
  event_wrote (Drops_no_more n) may asks aside = quiet (after_host h (Drops_no_more n)) (Drops_no_more n) (does_same (plain_course node) h n node_drops_no_more tt) refl
  event_wrote Submits_abort may asks aside =
      submits_other node orders c h at (after_host h Submits_abort) (frame_of Abort (next_id h.requests.last_id)) (requests_same (plain_course node) h BeginsAbort tt) refl (free_turn may.0)
      (abort_asks nonces no_more node orders c.host.commands (next_id h.requests.last_id))
  event_wrote Submits_front may asks aside = prefix_wrote (free_turn may.0) (prefix_brings h.requests.queue (next_id h.requests.last_id) at.queue)
  event_wrote (Starts n plan more payload) may asks aside = started n plan more payload (free_turn may.0.free) may.1
  event_wrote (Gives_text n payload) may asks aside =
      submits_other node orders c h at (after_host h (Gives_text n payload)) (frame_of (Attempt n false payload) (next_id h.requests.last_id)) (part_same n false payload node_gives_text (λ own. tt)) refl (free_turn may.0.free)
      (attempt_asks nonces no_more node orders c.host.commands n false payload (next_id h.requests.last_id) None (λ own. absurd (text_given n payload may.1 own)))
  event_wrote (Gives_segment n more payload) may asks aside = segment_given n more payload (free_turn may.0.free) may.2
  event_wrote (Begins n session command) may asks aside = absurd aside
  event_wrote (Begin_unkept n) may asks aside = quiet (after_host h (Begin_unkept n)) (Begin_unkept n) (does_same (plain_course node) h n node_blocks tt) refl
