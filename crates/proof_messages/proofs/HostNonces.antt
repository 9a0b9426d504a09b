-- What each event of a node, and of the host, leaves of nonces and of sealed texts.
use Rattle.std.proofs.Common.{◌≡◌, ◌≢◌, ℕ, ◌+◌, ◌-◌, ◌<◌, ◌==◌, Bool, true, false, nat_lt, if◌then◌else◌, Option, Some, None, List, length, refl, ap, sym, ◌∙◌, subst, ◌⊎◌, inl, inr, arith}
use Rattle.std.specs.Prelude.{◌&&◌, slice_set, slice_index_or}
use Rattle.std.proofs.lemmas.List.{get_or-set_same, get_or-set_other, set_past}
use Rattle.std.proofs.lemmas.Bool.{cases_lt}
use Rattle.serial_link.specs.State.{tick_side}
use Rattle.supervision.specs.Host.{told_of}
use Rattle.supervision.specs.declared.host_node.Told.{Told}
use Rattle.supervision.specs.declared.host_node.Told.TheVariants as told
use Rattle.s0_session.specs.declared.account.Account.{Account}
use Rattle.s0_session.specs.Nonces.{account_of, live_of, after_give, unused}
use Rattle.host_keep.specs.Status.{status_byte}
use Rattle.host_requests.specs.declared.task.Task.{Task}
use Rattle.host_requests.specs.declared.task.Task.TheVariants as task
use Rattle.host_requests.specs.declared.task.Purpose.{Purpose}
use Rattle.host_requests.specs.declared.task.Purpose.TheVariants.{Housekeeping, Attempt, Abort}
use Rattle.host_requests.specs.declared.end.End.{End}
use Rattle.host_requests.specs.Events.{RequestsEvent, end_at}
use Rattle.host_requests.specs.Events.RequestsEvent.{Fails as request_fails, Pushes as request_pushes, Updates as request_updates}
use Rattle.host_node.specs.declared.attempt.AttemptEnd.{AttemptEnd}
use Rattle.host_node.specs.declared.attempt.AttemptEnd.TheVariants.{NoneRan, Again, Unanswered}
use Rattle.host_node.specs.declared.attempt.Moment.{Moment}
use Rattle.host_node.specs.declared.attempt.Moment.TheVariants.{BetweenTicks, BeforeItsTick}
use Rattle.host_node.specs.declared.attempt.Plan.{Plan}
use Rattle.host_node.specs.declared.attempt.Plan.TheVariants.{Whole, Segments, Sealed}
use Rattle.host_node.specs.State.{NodeState, unknown, is_open, is_up, is_idle, is_running, has_waiting}
use Rattle.host_node.specs.Steps.{with_again, with_wait, new_series, after_occasion, without_attempt, after_sign, asleep, after_sleep, next_due, series_over, after_attempts, after_attempt_end, after_told, after_no_more_end, after_hold_tick, after_again, after_again_tick, after_attempt_tick, after_tick, as_recorded, tick_end, after_start, after_nonce, after_text}
use Rattle.host_node.specs.Events.{NodeEvent, after as after_node}
use Rattle.host_node.specs.Events.NodeEvent.{Accepts as node_accepts, Begins as node_begins, Blocks as node_blocks, Cancels as node_cancels, Drops_no_more as node_drops_no_more, Ends_attempt as node_ends_attempt, Ends_no_more as node_ends_no_more, Gives_segment as node_gives_segment, Gives_text as node_gives_text, Holds as node_holds, Interviews as node_interviews, Joins as node_joins, Notifies as node_notifies, Puts as node_puts, Queues_no_more as node_queues_no_more, Reports as node_reports, Restarts as node_restarts, Restores_seen as node_restores_seen, Sleeps as node_sleeps, Starts as node_starts, Succeeds as node_succeeds, Takes_back as node_takes_back, Takes_nonce as node_takes_nonce, Ticks as node_ticks}
use Rattle.host_node.specs.TableState.{node_of as node_among}
use Rattle.host_model.specs.State.{HostState, node_of, with_node}
use Rattle.host_model.specs.Sessions.{open_command}
use Rattle.host_model.specs.Ends.{unanswered, attempt_ended, without_report, PartEnd, Good, Passed_over, Bad, part_end, after_part, after_task, after_end, after_end_if}
use Rattle.host_model.specs.Events.{HostEvent, Accepts, Cancels, Joins, Queues, Queues_interview, Queues_probe, Hears, Requests_do, Interviews, Interview_unkept, Unreads, Is_unkept, Reports_old, Works, Finishes, Offers, Gives, Spends, Spends_unread, Takes_nonce, Notifies, Resends, Hears_value, Has_no_room, Line_ticks, Node_ticks, Queues_no_more, Drops_no_more, Submits_abort, Submits_front, Starts, Gives_text, Gives_segment, Begins, Begin_unkept}
use Rattle.host_model.specs.After.{node_does, requests_do, request_does, submits_part, queues_if_room, is_full, node_for, is_held, holding, finishing, giving, offering, gives_up, line_ticked, failing_if, after}
use Rattle.proof_messages.specs.Hosts.{LeavesSealing, IsUnsealing, IsAside, LeavesNonces}

-- ---- a node

same : (old new : NodeState) → new.seen ≡ old.seen → new.text ≡ old.text → new.pending ≡ old.pending → LeavesSealing old new
same old new seen text pending = record { seen = seen; left = inl (text, pending) }

itself : (n : NodeState) → LeavesSealing n n
itself n = same n n refl refl refl

over : (old new : NodeState) → new.seen ≡ old.seen → new.text ≡ None → new.pending ≡ None → LeavesSealing old new
over old new seen text pending = record { seen = seen; left = inr (text, pending) }

leaves_on : (a b c : NodeState) → LeavesSealing a b → LeavesSealing b c → LeavesSealing a c
leaves_on a b c x y = record { seen = y.seen ∙ x.seen; left = by x.left y.left }
  where
    by : ((b.text ≡ a.text) × (b.pending ≡ a.pending)) ⊎ ((b.text ≡ None) × (b.pending ≡ None)) → ((c.text ≡ b.text) × (c.pending ≡ b.pending)) ⊎ ((c.text ≡ None) × (c.pending ≡ None))
        → ((c.text ≡ a.text) × (c.pending ≡ a.pending)) ⊎ ((c.text ≡ None) × (c.pending ≡ None))
    by p (inr none) = inr none
    by (inl p) (inl q) = inl (q.0 ∙ p.0, q.1 ∙ p.1)
    by (inr p) (inl q) = inr (q.0 ∙ p.0, q.1 ∙ p.1)

choice : (old a b : NodeState) (test : Bool) → LeavesSealing old a → LeavesSealing old b → LeavesSealing old (if test then a else b)
choice old a b true x y = x
choice old a b false x y = y

occasion : (n : NodeState) → LeavesSealing n (after_occasion n)
occasion n = choice n (new_series n) n (is_open n && is_up n && is_idle n.series) (same n (new_series n) refl refl refl) (itself n)

sleeps : (n : NodeState) → LeavesSealing n (after_sleep n)
sleeps n = choice n n (asleep n) n.listens (itself n) (same n (asleep n) refl refl refl)

signs : (n : NodeState) → LeavesSealing n (after_sign n)
signs n = choice n (with_wait n 100) n (is_running n.series) (same n (with_wait n 100) refl refl refl) (itself n)

attempts_end : (n : NodeState) (attempts : ℕ) (moment : Moment) → LeavesSealing n (after_attempts n attempts moment)
attempts_end n attempts moment = choice n (next_due n attempts) (after_sleep (series_over n attempts moment)) (nat_lt attempts 3)
    (same n (next_due n attempts) refl refl refl) (leaves_on n (series_over n attempts moment) (after_sleep (series_over n attempts moment)) (same n (series_over n attempts moment) refl refl refl) (sleeps (series_over n attempts moment)))

attempt_over : (n : NodeState) (moment : Moment) → LeavesSealing n (after_attempt_end n moment)
attempt_over n moment = choice n (after_attempts (without_attempt n) (n.book.attempts + 1) moment) n (is_running n.series)
    (leaves_on n (without_attempt n) (after_attempts (without_attempt n) (n.book.attempts + 1) moment) (over n (without_attempt n) refl refl refl) (attempts_end (without_attempt n) (n.book.attempts + 1) moment)) (itself n)

told_so : (n : NodeState) (status : ℕ) (t : Told) → LeavesSealing n (after_told n status t)
told_so n status (told.Final session) = over n (after_told n status (told.Final session)) refl refl refl
told_so n status told.Working = signs n
told_so n status told.Old = itself n

again_tick : (n : NodeState) → LeavesSealing n (after_again_tick n)
again_tick n = choice n (after_again (with_again n 0)) (with_again n (n.again_wait - 1)) (n.again_wait == 1)
    (leaves_on n (with_again n 0) (after_again (with_again n 0)) (same n (with_again n 0) refl refl refl)
    (choice (with_again n 0) (after_occasion (with_again n 0)) (with_again n 0) (has_waiting (with_again n 0)) (occasion (with_again n 0)) (itself (with_again n 0))))
    (same n (with_again n (n.again_wait - 1)) refl refl refl)

attempt_tick : (n : NodeState) → LeavesSealing n (after_attempt_tick n)
attempt_tick n = choice n (after_attempt_end n BetweenTicks) (with_wait n (n.attempt_wait - 1)) (n.attempt_wait == 1) (attempt_over n BetweenTicks) (same n (with_wait n (n.attempt_wait - 1)) refl refl refl)

ticks : (n : NodeState) → LeavesSealing n (after_tick n)
ticks n =
    let a : NodeState = after_hold_tick n in
    leaves_on n a (after_tick n) (same n a refl refl refl) (leaves_on a (after_again_tick a) (after_attempt_tick (after_again_tick a)) (again_tick a) (attempt_tick (after_again_tick a)))

pub node_leaves : (n : NodeState) (event : NodeEvent) → IsUnsealing event → LeavesSealing n (after_node n event)
node_leaves n node_joins is = same n (after_node n node_joins) refl refl refl
node_leaves n (node_interviews listens classes) is = same n (after_node n (node_interviews listens classes)) refl refl refl
node_leaves n (node_puts command) is = same n (after_node n (node_puts command)) refl refl refl
node_leaves n node_takes_back is = same n (after_node n node_takes_back) refl refl refl
node_leaves n node_accepts is = occasion n
node_leaves n (node_cancels command) is = same n (after_node n (node_cancels command)) refl refl refl
node_leaves n node_begins is = same n (after_node n node_begins) refl refl refl
node_leaves n node_blocks is = same n (after_node n node_blocks) refl refl refl
node_leaves n (node_starts Whole) is = same n (after_node n (node_starts Whole)) refl refl refl
node_leaves n (node_starts (Segments count)) is = same n (after_node n (node_starts (Segments count))) refl refl refl
node_leaves n (node_starts (Sealed plain)) is = absurd is
node_leaves n node_gives_segment is = same n (after_node n node_gives_segment) refl refl refl
node_leaves n node_gives_text is = absurd is
node_leaves n node_succeeds is = signs n
node_leaves n (node_takes_nonce seen text) is = absurd is
node_leaves n (node_restores_seen seen) is = absurd is
node_leaves n (node_ends_attempt moment) is = attempt_over n moment
node_leaves n (node_reports id status) is = told_so n status (told_of n.book id status)
node_leaves n node_holds is = same n (after_node n node_holds) refl refl refl
node_leaves n node_notifies is = leaves_on n _ (after_node n node_notifies) (same n (record n { awake = true; no_more = _ }) refl refl refl) (occasion _)
node_leaves n node_sleeps is = sleeps n
node_leaves n node_queues_no_more is = same n (after_node n node_queues_no_more) refl refl refl
node_leaves n node_drops_no_more is = same n (after_node n node_drops_no_more) refl refl refl
node_leaves n node_ends_no_more is = leaves_on n _ (after_node n node_ends_no_more) (same n (record n { no_more = _ }) refl refl refl) (sleeps _)
node_leaves n node_ticks is = ticks n
node_leaves n node_restarts is = leaves_on n (as_recorded n) (after_node n node_restarts) (over n (as_recorded n) refl refl refl) (occasion (as_recorded n))

-- ---- the host

cases_eq : (m n : ℕ) → (m ≡ n) ⊎ (m ≢ n)
cases_eq m n = grind arith

-- what holds of a place before and after one place is set, holds of each
set_leaves : {A : Type 0} (R : A → A → Type 0) (xs : List A) (n m : ℕ) (x d : A) → ((a : A) → R a a) → (m ≡ n → R (slice_index_or xs n d) x) → R (slice_index_or xs m d) (slice_index_or (slice_set xs n x) m d)
set_leaves {A} R xs n m x d each own = elim (cases_eq m n) [
  | inl is ↦ elim (cases_lt n (length xs)) [
    | inl within ↦ subst (λ (k : ℕ). R (slice_index_or xs k d) (slice_index_or (slice_set xs n x) k d)) (sym is)
        (subst (λ (a : A). R (slice_index_or xs n d) a) (sym (get_or-set_same xs n x d within)) (own is))
    | inr past ↦ subst (λ (l : List A). R (slice_index_or xs m d) (slice_index_or l m d)) (sym (set_past xs n x past)) (each (slice_index_or xs m d))
  ]
  | inr other ↦ subst (λ (a : A). R (slice_index_or xs m d) a) (sym (get_or-set_other xs n m x d other)) (each (slice_index_or xs m d))
]

calm : (node : ℕ) (old new : HostState) → new.nonces ≡ old.nonces → new.nodes ≡ old.nodes → LeavesNonces node old new
calm node old new nonces nodes = record { account = ap (λ l. account_of l node) nonces; sealing = subst (λ l. LeavesSealing (node_of old node) (node_among l node)) (sym nodes) (itself (node_of old node)) }

on : (node : ℕ) (a b c : HostState) → LeavesNonces node a b → LeavesNonces node b c → LeavesNonces node a c
on node a b c x y = record { account = y.account ∙ x.account; sealing = leaves_on (node_of a node) (node_of b node) (node_of c node) x.sealing y.sealing }

either : (node : ℕ) (old a b : HostState) (test : Bool) → LeavesNonces node old a → LeavesNonces node old b → LeavesNonces node old (if test then a else b)
either node old a b true x y = x
either node old a b false x y = y

node_set : (node : ℕ) (h : HostState) (n : ℕ) (state : NodeState) → (node ≡ n → LeavesSealing (node_of h n) state) → LeavesNonces node h (with_node h n state)
node_set node h n state leaves = record { account = refl; sealing = set_leaves LeavesSealing h.nodes n node state (unknown 0) itself leaves }

does : (node : ℕ) (h : HostState) (n : ℕ) (event : NodeEvent) → IsUnsealing event → LeavesNonces node h (node_does h n event)
does node h n event is = node_set node h n (after_node (node_of h n) event) (λ own. node_leaves (node_of h n) event is)

account_set : (node : ℕ) (h : HostState) (n : ℕ) (account : Account) → n ≢ node → LeavesNonces node h (record h { nonces = slice_set h.nonces n account })
account_set node h n account other = record { account = get_or-set_other h.nonces n node account unused (λ e. other (sym e)); sealing = itself (node_of h node) }

queued : (node : ℕ) (h : HostState) (t : Task) → LeavesNonces node h (queues_if_room h t)
queued node h t = either node h h (requests_do h (request_pushes t)) (is_full h) (calm node h h refl refl) (calm node h (requests_do h (request_pushes t)) refl refl)

offered : (node : ℕ) (h : HostState) (n : ℕ) (live : Option (List ℕ)) → LeavesNonces node h (offering h n live)
offered node h n None = calm node h h refl refl
offered node h n (Some nonce) = queued node h _

no_answer : (node : ℕ) (h : HostState) (command : Option ℕ) → LeavesNonces node h (unanswered h command)
no_answer node h None = calm node h h refl refl
no_answer node h (Some command) = calm node h (unanswered h (Some command)) refl refl

ended : (node : ℕ) (h : HostState) (end : AttemptEnd) (command : Option ℕ) → LeavesNonces node h (attempt_ended h end command)
ended node h NoneRan command = calm node h h refl refl
ended node h Again command = calm node h h refl refl
ended node h (Unanswered fell) command = no_answer node h command

reportless : (node : ℕ) (h : HostState) (n : ℕ) (moment : Moment) → LeavesNonces node h (without_report h n moment)
reportless node h n moment =
    on node h (with_node h n (after_attempt_end (node_of h n) moment)) (without_report h n moment) (node_set node h n (after_attempt_end (node_of h n) moment) (λ own. attempt_over (node_of h n) moment)) (ended node _ _ _)

part_ended : (node : ℕ) (h : HostState) (n : ℕ) (end : PartEnd) (moment : Moment) → LeavesNonces node h (after_part h n end moment)
part_ended node h n Good moment = node_set node h n (after_sign (node_of h n)) (λ own. signs (node_of h n))
part_ended node h n Passed_over moment = calm node h h refl refl
part_ended node h n Bad moment = reportless node h n moment

task_ended : (node : ℕ) (h : HostState) (t : Task) → LeavesNonces node h (after_task h t)
task_ended node h (task.NoMore n) = node_set node h n (after_no_more_end (node_of h n)) (λ own. node_leaves (node_of h n) node_ends_no_more tt)
task_ended node h _ = calm node h h refl refl

end_leaves : (node : ℕ) (h : HostState) (end : Option End) (moment : Moment) → LeavesNonces node h (after_end_if h end moment)
end_leaves node h None moment = calm node h h refl refl
end_leaves node h (Some end) moment = by end.purpose refl
  where
    by : (purpose : Purpose) → end.purpose ≡ purpose → LeavesNonces node h (after_end h end moment)
    by (Attempt n more payload) e = rw e (part_ended node h n (part_end more end.how) moment)
    by (Housekeeping t) e = rw e (task_ended node h t)
    by Abort e = rw e (calm node h h refl refl)

request_did : (node : ℕ) (h : HostState) (event : RequestsEvent) (moment : Moment) → LeavesNonces node h (request_does h event moment)
request_did node h event moment = on node h (requests_do h event) (request_does h event moment) (calm node h (requests_do h event) refl refl) (end_leaves node (requests_do h event) (end_at h.requests event) moment)

fails : (node : ℕ) (b : Bool) (h : HostState) → LeavesNonces node h (failing_if b h)
fails node true h = request_did node h request_fails BeforeItsTick
fails node false h = calm node h h refl refl

held : (node : ℕ) (h : HostState) (n : ℕ) (b : Bool) → LeavesNonces node h (holding h n b)
held node h n b = either node h (node_does h n node_holds) h b (does node h n node_holds tt) (calm node h h refl refl)

part_given : (node : ℕ) (h : HostState) (n : ℕ) (more : Bool) (payload : List ℕ) (event : NodeEvent) → (n ≢ node) ⊎ IsUnsealing event → LeavesNonces node h (submits_part h n more payload event)
part_given node h n more payload event is = record { account = refl; sealing = set_leaves LeavesSealing h.nodes n node (after_node (node_of h n) event) (unknown 0) itself (λ own. by is own) }
  where
    by : (n ≢ node) ⊎ IsUnsealing event → node ≡ n → LeavesSealing (node_of h n) (after_node (node_of h n) event)
    by (inl other) own = absurd (other (sym own))
    by (inr un) own = node_leaves (node_of h n) event un

pub aside_leaves : (node : ℕ) (h : HostState) (event : HostEvent) → IsAside node event → LeavesNonces node h (after h event)
aside_leaves node h (Accepts order carriage) is =
    on node h (record h { commands = _; store = _ }) (after h (Accepts order carriage)) (calm node h _ refl refl)
    (on node _ _ _ (does node _ order.node (node_puts (length h.commands + 1)) tt) (does node _ order.node node_accepts tt))
aside_leaves node h (Cancels command) is = on node h (node_does h (node_for h command) (node_cancels command)) (after h (Cancels command)) (does node h (node_for h command) (node_cancels command) tt) (calm node _ _ refl refl)
aside_leaves node h (Joins n) is = does node h n node_joins tt
aside_leaves node h (Queues t) is = calm node h (after h (Queues t)) refl refl
aside_leaves node h (Queues_interview n) is = calm node h (after h (Queues_interview n)) refl refl
aside_leaves node h Queues_probe is = calm node h (after h Queues_probe) refl refl
aside_leaves node h (Hears item) is = calm node h (after h (Hears item)) refl refl
aside_leaves node h (Requests_do event moment) is = request_did node h event moment
aside_leaves node h (Interviews n listens classes update) is = on node h (requests_do h (request_updates update)) (after h (Interviews n listens classes update)) (calm node h (requests_do h (request_updates update)) refl refl) (does node (requests_do h (request_updates update)) n (node_interviews listens classes) tt)
aside_leaves node h (Interview_unkept n update) is = calm node h (after h (Interview_unkept n update)) refl refl
aside_leaves node h (Unreads n payload) is = calm node h h refl refl
aside_leaves node h (Is_unkept n) is = calm node h h refl refl
aside_leaves node h (Reports_old n id) is = calm node h h refl refl
aside_leaves node h (Works n id) is = does node h n (node_reports id 1) tt
aside_leaves node h (Finishes n session id command status wake_request) is =
    on node h (node_does h n (node_reports id (status_byte status))) (after h (Finishes n session id command status wake_request)) (does node h n (node_reports id (status_byte status)) tt)
    (on node (node_does h n (node_reports id (status_byte status))) (finishing h n id command status) (holding (finishing h n id command status) n (is_held h n wake_request)) (calm node _ _ refl refl) (held node (finishing h n id command status) n (is_held h n wake_request)))
aside_leaves node h (Offers n) is = offered node h n (live_of h.nonces n)
aside_leaves node h (Gives n drawn) is = on node h (giving h n drawn) (after h (Gives n drawn)) (account_set node h n (after_give (account_of h.nonces n) drawn) is) (offered node (giving h n drawn) n (live_of (giving h n drawn).nonces n))
aside_leaves node h (Spends n) is = account_set node h n (record (account_of h.nonces n) { live = None }) is
aside_leaves node h (Spends_unread n payload) is = account_set node h n (record (account_of h.nonces n) { live = None }) is
aside_leaves node h (Takes_nonce n seen text) is = node_set node h n (after_node (node_of h n) (node_takes_nonce seen text)) (λ own. absurd (is (sym own)))
aside_leaves node h (Notifies n) is = does node h n node_notifies tt
aside_leaves node h (Resends n payload) is = queued node h _
aside_leaves node h (Hears_value n setting) is = calm node h (after h (Hears_value n setting)) refl refl
aside_leaves node h (Has_no_room n property) is = calm node h h refl refl
aside_leaves node h Line_ticks is = on node h (line_ticked h) (after h Line_ticks) (calm node h (line_ticked h) refl refl) (fails node (gives_up h.side.turn (tick_side h.side).turn) (line_ticked h))
aside_leaves node h (Node_ticks n) is = on node h (node_does h n node_ticks) (after h (Node_ticks n)) (does node h n node_ticks tt) (ended node (node_does h n node_ticks) (tick_end (node_of h n)) (open_command (node_of h n)))
aside_leaves node h (Queues_no_more n) is = on node h (node_does h n node_queues_no_more) (after h (Queues_no_more n)) (does node h n node_queues_no_more tt) (calm node _ _ refl refl)
aside_leaves node h (Drops_no_more n) is = does node h n node_drops_no_more tt
aside_leaves node h Submits_abort is = calm node h (after h Submits_abort) refl refl
aside_leaves node h Submits_front is = calm node h (after h Submits_front) refl refl
aside_leaves node h (Starts n plan more payload) is = part_given node h n more payload (node_starts plan) is
aside_leaves node h (Gives_text n payload) is = part_given node h n false payload node_gives_text (inl is)
aside_leaves node h (Gives_segment n more payload) is = part_given node h n more payload node_gives_segment (inr tt)
aside_leaves node h (Begins n session command) is = on node h (node_does h n node_begins) (after h (Begins n session command)) (does node h n node_begins tt) (calm node _ _ refl refl)
aside_leaves node h (Begin_unkept n) is = does node h n node_blocks tt

-- ---- its own events

queue_nonces : (h : HostState) (t : Task) → (queues_if_room h t).nonces ≡ h.nonces
queue_nonces h t = by (is_full h)
  where
    by : (b : Bool) → (if b then h else requests_do h (request_pushes t)).nonces ≡ h.nonces
    by true = refl
    by false = refl

offer_nonces : (h : HostState) (n : ℕ) (live : Option (List ℕ)) → (offering h n live).nonces ≡ h.nonces
offer_nonces h n None = refl
offer_nonces h n (Some nonce) = queue_nonces h _

pub gives_own : (node : ℕ) (h : HostState) (drawn : List ℕ) → node < length h.nonces → account_of (after h (Gives node drawn)).nonces node ≡ after_give (account_of h.nonces node) drawn
gives_own node h drawn within =
    ap (λ l. account_of l node) (offer_nonces (giving h node drawn) node (live_of (giving h node drawn).nonces node)) ∙ get_or-set_same h.nonces node (after_give (account_of h.nonces node) drawn) unused within

pub spends_own : (node : ℕ) (h : HostState) → node < length h.nonces → account_of (after h (Spends node)).nonces node ≡ record (account_of h.nonces node) { live = None }
spends_own node h within = get_or-set_same h.nonces node (record (account_of h.nonces node) { live = None }) unused within

pub starts_own : (node : ℕ) (h : HostState) (plan : Plan) (more : Bool) (payload : List ℕ) → node < length h.nodes → node_of (after h (Starts node plan more payload)) node ≡ after_start (node_of h node) plan
starts_own node h plan more payload within = get_or-set_same h.nodes node (after_start (node_of h node) plan) (unknown 0) within

pub seals_own : (node seen : ℕ) (h : HostState) (text : List ℕ) → node < length h.nodes → node_of (after h (Takes_nonce node seen text)) node ≡ after_nonce (node_of h node) seen text
seals_own node seen h text within = get_or-set_same h.nodes node (after_nonce (node_of h node) seen text) (unknown 0) within

pub sends_own : (node : ℕ) (h : HostState) (payload : List ℕ) → node < length h.nodes → node_of (after h (Gives_text node payload)) node ≡ after_text (node_of h node)
sends_own node h payload within = get_or-set_same h.nodes node (after_text (node_of h node)) (unknown 0) within

pub accounts_kept : (node n seen : ℕ) (h : HostState) (plan : Plan) (more : Bool) (payload text : List ℕ) → (account_of (after h (Starts n plan more payload)).nonces node ≡ account_of h.nonces node)
    × ((account_of (after h (Takes_nonce n seen text)).nonces node ≡ account_of h.nonces node) × (account_of (after h (Gives_text n payload)).nonces node ≡ account_of h.nonces node))
accounts_kept node n seen h plan more payload text = (refl, (refl, refl))
