-- Events that change nothing of the host's requests and write nothing for them.
use Rattle.std.proofs.Common.{◌≡◌, ℕ, inl, inr, Bool, true, false, if◌then◌else◌, List, [], ◌∷◌, ◌++◌, Option, Some, None, refl, sym, ap, ◌∙◌, subst}
use Rattle.std.specs.Prelude.{nat_lt}
use Rattle.std.specs.List.{AllByRecursion}
use Rattle.std.proofs.lemmas.Bool.{cases_Bool}
use Rattle.zw_base.specs.declared.property.Setting.{Setting}
use Rattle.zw_text.specs.declared.entry.Entry.{Entry}
use Rattle.zw_text.specs.declared.entry.Entry.TheVariants.{Out}
use Rattle.serial_link.specs.State.{Side}
use Rattle.class_info.specs.declared.report_status.ReportStatus.{ReportStatus}
use Rattle.class_info.specs.Values.{status_byte}
use Rattle.supervision.specs.Host.{told_of}
use Rattle.supervision.specs.declared.host_node.Told.{Told as TheTold}
use Rattle.supervision.specs.declared.host_node.Told.TheVariants as told
use Rattle.s0_session.specs.Nonces.{live_of}
use Rattle.value_store.specs.Values.{count_with}
use Rattle.host_keep.specs.declared.final_status.FinalStatus.{FinalStatus}
use Rattle.host_heard.specs.declared.payload.Heard.{Heard}
use Rattle.host_heard.specs.declared.payload.Heard.TheVariants.{Messages, Sealed, Unread}
use Rattle.host_heard.specs.declared.told.Told.{Told}
use Rattle.host_heard.specs.declared.told.Told.TheVariants.{Report, NonceGet, NonceReport, Notification, SegmentRequest, Values}
use Rattle.host_requests.specs.declared.end.End.{End}
use Rattle.host_requests.specs.declared.end.How.{How}
use Rattle.host_requests.specs.declared.task.Task.{Task}
use Rattle.host_requests.specs.declared.task.Task.TheVariants.{NoMore, Segment}
use Rattle.host_requests.specs.declared.task.Purpose.{Purpose}
use Rattle.host_requests.specs.declared.task.Purpose.TheVariants.{Housekeeping, Attempt, Abort}
use Rattle.host_requests.specs.declared.under_way.UnderWay.{UnderWay}
use Rattle.host_node.specs.declared.attempt.Moment.{Moment}
use Rattle.host_node.specs.declared.attempt.AttemptEnd.{AttemptEnd}
use Rattle.host_node.specs.declared.attempt.AttemptEnd.TheVariants.{NoneRan, Again, Unanswered}
use Rattle.host_node.specs.Steps.{attempt_end, after_attempt_end, tick_end}
use Rattle.host_node.specs.Events.NodeEvent.{Ticks as node_ticks}
use Rattle.proof_serial.specs.host_model.State.{HostState, node_of, with_node, command_at}
use Rattle.proof_serial.specs.host_model.Sessions.{open_command, settings_with}
use Rattle.proof_serial.specs.host_model.Ends.{attempt_entries, unanswered, attempt_ended, PartEnd, Good, Passed_over, Bad, part_end, after_part, after_task, after_end, after_end_if}
use Rattle.proof_serial.specs.host_model.Events.{HostEvent, Hears, Requests_do, Interviews, Interview_unkept, Unreads, Is_unkept, Reports_old, Works, Finishes, Offers, Gives, Spends, Spends_unread, Takes_nonce, Notifies, Resends, Hears_value, Has_no_room, Line_ticks, Node_ticks, Submits_abort, Submits_front, Starts, Gives_text, Gives_segment}
use Rattle.proof_serial.specs.host_model.After.{after, queues_if_room, offering, giving, holding, finishing, is_held, is_full, node_does}
use Rattle.proof_serial.specs.host_model.Outs.{outs, noted, ended_of, stored_entries, held_entries, dropped_if}
use Rattle.proof_serial.specs.host_model.Did.{after_all, outs_all}
use Rattle.proof_serial.specs.host_model.Taking.{IsKeptOr, is_secure, FinalEvents, ReportEvents, NonceGetEvents, NonceReportEvents, resent, value_event, value_events, IsTaken, AreTaken, IsOpened, SealedEvents, PayloadEvents}
use Rattle.proof_traffic.specs.Requests.{Word, Traffic}
use Rattle.proof_traffic.specs.Requests as course
use Rattle.proof_traffic.specs.HostTraffic.{words_out, word_on, pending_of, InOrder, Knows, Writes, Goes}
use Rattle.proof_traffic.proofs.HostSteps.{goes_nowhere, words-append}

-- the host's own frame, its request under way, and whether it owes an abort are as they were
pub record Same (h g : HostState) : Type 0 where
  pub side : g.side ≡ h.side
  pub under_way : g.requests.under_way ≡ h.requests.under_way
  pub owes : g.requests.owes ≡ h.requests.owes

pub same : (h : HostState) → Same h h
same h = record { side = refl; under_way = refl; owes = refl }

pub same_both : (a b c : HostState) → Same a b → Same b c → Same a c
same_both a b c first later = record { side = later.side ∙ first.side; under_way = later.under_way ∙ first.under_way; owes = later.owes ∙ first.owes }

pub knows_same : (t : Traffic) (h g : HostState) → Same h g → Knows t h → Knows t g
knows_same t h g s k = record {
  link = k.link ∙ ap (λ (x : Side). word_on x.turn) (sym s.side);
  pending = k.pending ∙ ap pending_of (sym s.under_way);
  owes = k.owes ∙ sym s.owes;
  order = subst (λ (u : Option UnderWay). InOrder u g.requests.owes) (sym s.under_way) (subst (λ (b : Bool). InOrder h.requests.under_way b) (sym s.owes) k.order);
}

-- ---- what the end of a request and of an attempt leaves so

same_unanswered : (h : HostState) (command : Option ℕ) → Same h (unanswered h command)
same_unanswered h None = same h
same_unanswered h (Some command) = record { side = refl; under_way = refl; owes = refl }

same_attempt : (h : HostState) (end : AttemptEnd) (command : Option ℕ) → Same h (attempt_ended h end command)
same_attempt h NoneRan command = same h
same_attempt h Again command = same h
same_attempt h (Unanswered fell) command = same_unanswered h command

same_part : (h : HostState) (n : ℕ) (end : PartEnd) (moment : Moment) → Same h (after_part h n end moment)
same_part h n Good moment = record { side = refl; under_way = refl; owes = refl }
same_part h n Passed_over moment = same h
same_part h n Bad moment =
    let mid : HostState = with_node h n (after_attempt_end (node_of h n) moment) in
    same_both h mid (attempt_ended mid (attempt_end (node_of h n)) (open_command (node_of h n))) (record { side = refl; under_way = refl; owes = refl })
    (same_attempt mid (attempt_end (node_of h n)) (open_command (node_of h n)))

same_task : (h : HostState) (task : Task) → Same h (after_task h task)
same_task h (NoMore n) = record { side = refl; under_way = refl; owes = refl }
same_task h _ = same h

same_end : (h : HostState) (purpose : Purpose) (how : How) (moment : Moment) → Same h (after_end h (record { purpose = purpose; how = how }) moment)
same_end h (Attempt n more payload) how moment = same_part h n (part_end more how) moment
same_end h (Housekeeping task) how moment = same_task h task
same_end h Abort how moment = same h

pub same_end_if : (h : HostState) (end : Option End) (moment : Moment) → Same h (after_end_if h end moment)
same_end_if h None moment = same h
same_end_if h (Some end) moment = same_end h end.purpose end.how moment

-- ---- quiet events

-- an event neither of the line nor of the request under way
abbrev pub IsQuiet : HostEvent → Type 0
IsQuiet (Hears item) = ⊥
IsQuiet (Requests_do event moment) = ⊥
IsQuiet (Interviews n listens classes update) = ⊥
IsQuiet (Interview_unkept n update) = ⊥
IsQuiet Line_ticks = ⊥
IsQuiet Submits_abort = ⊥
IsQuiet Submits_front = ⊥
IsQuiet (Starts n plan more payload) = ⊥
IsQuiet (Gives_text n payload) = ⊥
IsQuiet (Gives_segment n more payload) = ⊥
IsQuiet _ = Unit {0}

abbrev pub AreQuiet : List HostEvent → Type 0
AreQuiet events = AllByRecursion IsQuiet events

-- entries are no words
pub no_words : (entries : List Entry) → words_out (noted entries) ≡ []
no_words [] = refl
no_words (entry ∷ entries) = no_words entries

same_queued : (h : HostState) (task : Task) → Same h (queues_if_room h task)
same_queued h task = by (is_full h) refl
  where
    by : (full : Bool) → is_full h ≡ full → Same h (queues_if_room h task)
    by true e = rw e (same h)
    by false e = rw e (record { side = refl; under_way = refl; owes = refl })

same_offered : (h : HostState) (n : ℕ) (live : Option (List ℕ)) → Same h (offering h n live)
same_offered h n None = same h
same_offered h n (Some nonce) = same_queued h _

same_held : (h : HostState) (n : ℕ) (held : Bool) → Same h (holding h n held)
same_held h n true = record { side = refl; under_way = refl; owes = refl }
same_held h n false = same h

-- such an event leaves all that, and writes no word
pub quiet_same : (h : HostState) (event : HostEvent) → IsQuiet event → Same h (after h event)
quiet_same h (Hears item) quiet = absurd quiet
quiet_same h (Requests_do event moment) quiet = absurd quiet
quiet_same h (Interviews n listens classes update) quiet = absurd quiet
quiet_same h (Interview_unkept n update) quiet = absurd quiet
quiet_same h Line_ticks quiet = absurd quiet
quiet_same h Submits_abort quiet = absurd quiet
quiet_same h Submits_front quiet = absurd quiet
quiet_same h (Starts n plan more payload) quiet = absurd quiet
quiet_same h (Gives_text n payload) quiet = absurd quiet
quiet_same h (Gives_segment n more payload) quiet = absurd quiet
quiet_same h (Finishes n session id command status wake) quiet =
    same_both h (finishing h n id command status) (holding (finishing h n id command status) n (is_held h n wake)) (record { side = refl; under_way = refl; owes = refl })
    (same_held (finishing h n id command status) n (is_held h n wake))
quiet_same h (Offers n) quiet = same_offered h n (live_of h.nonces n)
quiet_same h (Gives n drawn) quiet =
    same_both h (giving h n drawn) (offering (giving h n drawn) n (live_of (giving h n drawn).nonces n)) (record { side = refl; under_way = refl; owes = refl })
    (same_offered (giving h n drawn) n (live_of (giving h n drawn).nonces n))
quiet_same h (Resends n payload) quiet = same_queued h (Segment n payload)
quiet_same h (Node_ticks n) quiet =
    same_both h (node_does h n node_ticks) (attempt_ended (node_does h n node_ticks) (tick_end (node_of h n)) (open_command (node_of h n))) (record { side = refl; under_way = refl; owes = refl })
    (same_attempt (node_does h n node_ticks) (tick_end (node_of h n)) (open_command (node_of h n)))
quiet_same h _ quiet = record { side = refl; under_way = refl; owes = refl }

pub quiet_mute : (h : HostState) (event : HostEvent) → IsQuiet event → words_out (outs h event) ≡ []
quiet_mute h (Hears item) quiet = absurd quiet
quiet_mute h (Requests_do event moment) quiet = absurd quiet
quiet_mute h (Interviews n listens classes update) quiet = absurd quiet
quiet_mute h (Interview_unkept n update) quiet = absurd quiet
quiet_mute h Line_ticks quiet = absurd quiet
quiet_mute h Submits_abort quiet = absurd quiet
quiet_mute h Submits_front quiet = absurd quiet
quiet_mute h (Starts n plan more payload) quiet = absurd quiet
quiet_mute h (Gives_text n payload) quiet = absurd quiet
quiet_mute h (Gives_segment n more payload) quiet = absurd quiet
quiet_mute h (Finishes n session id command status wake) quiet =
    no_words (Out command (ended_of status) ∷ (stored_entries n (settings_with status (command_at h.commands command)) ++ held_entries n (is_held h n wake)))
quiet_mute h (Offers n) quiet = no_words (dropped_if (is_full h) n)
quiet_mute h (Gives n drawn) quiet = no_words (dropped_if (is_full h) n)
quiet_mute h (Resends n payload) quiet = no_words (dropped_if (is_full h) n)
quiet_mute h (Node_ticks n) quiet = no_words (attempt_entries n (tick_end (node_of h n)) (open_command (node_of h n)))
quiet_mute h _ quiet = refl

pub quiet_goes : (t : Traffic) (h : HostState) (events : List HostEvent) → AreQuiet events → Knows t h → Goes t h events
quiet_goes t h [] quiet knows = goes_nowhere t h knows
quiet_goes t h (event ∷ events) quiet knows =
    let later : Goes t (after h event) events = quiet_goes t (after h event) events quiet.1 (knows_same t h (after h event) (quiet_same h event quiet.0) knows) in
    record {
      steps = later.steps;
      may = later.may;
      knows = later.knows;
      writes = subst (λ (ws : List Word). Writes t (course.after_all t later.steps) ws) (sym (words-append (outs h event) (outs_all (after h event) events) ∙ ap (λ (ws : List Word). ws ++ words_out (outs_all (after h event) events)) (quiet_mute h event quiet.0))) later.writes;
    }

-- and they write nothing at all
pub quiet_mutes : (h : HostState) (events : List HostEvent) → AreQuiet events → words_out (outs_all h events) ≡ []
quiet_mutes h [] quiet = refl
quiet_mutes h (event ∷ events) quiet =
    words-append (outs h event) (outs_all (after h event) events) ∙ ap (λ (ws : List Word). ws ++ words_out (outs_all (after h event) events)) (quiet_mute h event quiet.0) ∙ quiet_mutes (after h event) events quiet.1

-- ---- payloads of nodes are such events

pub quiet-append : (a b : List HostEvent) → AreQuiet a → AreQuiet b → AreQuiet (a ++ b)
quiet-append [] b first later = later
quiet-append (event ∷ a) b first later = (first.0, quiet-append a b first.1 later)

one : (event : HostEvent) (events : List HostEvent) → IsQuiet event → events ≡ event ∷ [] → AreQuiet events
one event events quiet are = subst (λ (l : List HostEvent). AreQuiet l) (sym are) (quiet, tt)

none : (events : List HostEvent) → events ≡ [] → AreQuiet events
none events are = subst (λ (l : List HostEvent). AreQuiet l) (sym are) tt

either : (kept unkept : HostEvent) (events : List HostEvent) → IsQuiet kept → IsQuiet unkept → IsKeptOr kept unkept events → AreQuiet events
either kept unkept events quiet too (inl are) = one kept events quiet are
either kept unkept events quiet too (inr are) = one unkept events too are

final : (n session id : ℕ) (command : Option ℕ) (status : Option FinalStatus) (wake : Bool) (events : List HostEvent) → FinalEvents n session id command status wake events → AreQuiet events
final n session id (Some command) (Some status) wake events is = either (Finishes n session id command status wake) (Is_unkept n) events tt tt is
final n session id (Some command) None wake events is = none events is
final n session id None (Some status) wake events is = none events is
final n session id None None wake events is = none events is

reported : (h : HostState) (n id : ℕ) (status : ReportStatus) (wake : Bool) (told : TheTold) (events : List HostEvent) → ReportEvents h n id status wake told events → AreQuiet events
reported h n id status wake told.Old events is = one (Reports_old n id) events tt is
reported h n id status wake told.Working events is = one (Works n id) events tt is
reported h n id status wake (told.Final session) events is = final n session id _ _ wake events is

asked : (n : ℕ) (live : Option (List ℕ)) (events : List HostEvent) → NonceGetEvents n live events → AreQuiet events
asked n (Some nonce) events is = one (Offers n) events tt is
asked n None events is = either (Gives n is.0) (Is_unkept n) events tt tt is.2

given : (h : HostState) (n : ℕ) (nonce : List ℕ) (count : Option ℕ) (events : List HostEvent) → NonceReportEvents h n nonce count events → AreQuiet events
given h n nonce None events is = none events is
given h n nonce (Some seen) events is = either (Takes_nonce n seen is.1) (Is_unkept n) events tt tt is.3

resends : (n : ℕ) (payload : Option (List ℕ)) (events : List HostEvent) → events ≡ resent n payload → AreQuiet events
resends n None events is = none events is
resends n (Some payload) events is = one (Resends n payload) events tt is

value : (b : Bool) (n : ℕ) (s : Setting) → IsQuiet (if b then Has_no_room n s.property else Hears_value n s)
value true n s = tt
value false n s = tt

values : (h : HostState) (n : ℕ) (settings : List Setting) → AreQuiet (value_events h n settings)
values h n [] = tt
values h n (s ∷ more) = (value (nat_lt 512 (count_with h.store n (s.property ∷ []))) n s, values (after h (value_event h n s)) n more)

plain : (h : HostState) (n : ℕ) (payload : List ℕ) (id : ℕ) (status : ReportStatus) (wake : Bool) (events : List HostEvent)
    → IsTaken h n payload false (Report id status wake) events → AreQuiet events
plain h n payload id status wake events is = elim (cases_Bool (is_secure (node_of h n).classes)) [
  | inl secure ↦ one (Unreads n payload) events tt (rw secure at is)
  | inr not_secure ↦ reported h n id status wake (told_of (node_of h n).book id (status_byte status)) events (rw not_secure at is)
]

taken : (h : HostState) (n : ℕ) (payload : List ℕ) (sealed : Bool) (message : Told) (events : List HostEvent) → IsTaken h n payload sealed message events → AreQuiet events
taken h n payload true (Report id status wake) events is = reported h n id status wake _ events is
taken h n payload false (Report id status wake) events is = plain h n payload id status wake events is
taken h n payload sealed NonceGet events is = asked n _ events is
taken h n payload sealed (NonceReport nonce) events is = given h n nonce _ events is
taken h n payload sealed Notification events is = one (Notifies n) events tt is
taken h n payload sealed (SegmentRequest id offset) events is = resends n _ events is
taken h n payload sealed (Values settings) events is = subst (λ (l : List HostEvent). AreQuiet l) (sym is) (values h n settings)

all_taken : (h : HostState) (n : ℕ) (payload : List ℕ) (sealed : Bool) (messages : List Told) (events : List HostEvent) → AreTaken h n payload sealed messages events → AreQuiet events
all_taken h n payload sealed [] events is = none events is
all_taken h n payload sealed (message ∷ more) events is =
    let (first, rest, are, first_is, others) = is in
    subst (λ (l : List HostEvent). AreQuiet l) (sym are)
    (quiet-append first rest (taken h n payload sealed message first first_is) (all_taken (after_all h first) n payload sealed more rest others))

opened : (h : HostState) (n : ℕ) (nonce payload : List ℕ) (events : List HostEvent) → IsOpened h n nonce payload events → AreQuiet events
opened h n nonce payload events (inl are) = one (Is_unkept n) events tt are
opened h n nonce payload events (inr (inl vain)) = one (Spends_unread n payload) events tt vain.1
opened h n nonce payload events (inr (inr opens)) =
    let (messages, rest, to, are, taken_so) = opens in
    subst (λ (l : List HostEvent). AreQuiet l) (sym are) (tt, all_taken (after h (Spends n)) n payload true messages rest taken_so)

sealed : (h : HostState) (n : ℕ) (payload : List ℕ) (nonce : Option (List ℕ)) (events : List HostEvent) → SealedEvents h n payload nonce events → AreQuiet events
sealed h n payload None events is = one (Unreads n payload) events tt is
sealed h n payload (Some nonce) events is = opened h n nonce payload events is

pub payload_quiet : (h : HostState) (n : ℕ) (payload : List ℕ) (heard : Heard) (events : List HostEvent) → PayloadEvents h n payload heard events → AreQuiet events
payload_quiet h n payload (Messages messages) events is = all_taken h n payload false messages events is
payload_quiet h n payload Sealed events is = sealed h n payload _ events is
payload_quiet h n payload Unread events is = one (Unreads n payload) events tt is
