-- A request that ends, seen from the whole host.
use Rattle.std.proofs.Common.{◌≡◌, ℕ, Bool, true, false, List, ◌++◌, refl, ap, sym, ◌∙◌, subst, append_assoc}
use Rattle.std.specs.Prelude.{Option, Some, None, IsTrue, ◌==◌, ◌||◌, ◌&&◌, not, if◌then◌else◌}
use Rattle.chip_functions.specs.declared.response.Response.{Response}
use Rattle.chip_functions.specs.declared.response.Response.TheVariants.{GetInitData, GetCapabilities, SendData, GetVersion, MemoryGetId, GetNodeProtocolInfo, RequestNodeInfo, IsFailedNode, GetRoutingInfo}
use Rattle.chip_functions.specs.declared.function.TheConstants.{SEND_DATA}
use Rattle.chip_functions.specs.declared.notice.TransmitStatus.{TransmitStatus}
use Rattle.chip_functions.specs.declared.notice.Update.{Update}
use Rattle.chip_functions.specs.declared.response.TheConstants.{REFUSED}
use Rattle.chip_functions.specs.Response.{response_function}
use Rattle.host_node.specs.State.{NodeState}
use Rattle.host_node.specs.declared.attempt.Moment.{Moment}
use Rattle.host_node.specs.declared.attempt.Moment.TheVariants.{BeforeItsTick}
use Rattle.host_node.specs.State.{is_false}
use Rattle.host_requests.specs.Frames.{function_of}
use Rattle.host_requests.specs.State.{RequestsState}
use Rattle.host_requests.specs.Next.{is_answered, is_sent, notice_ticks, judged, end_of, end_from, at_response, at_sent, at_callback, at_update, at_tick, sent_from, ends_at_update, counted_down, on_with}
use Rattle.host_requests.specs.declared.next.Next.{Next}
use Rattle.host_requests.specs.declared.next.Next.TheVariants.{GoesOn, Ends}
use Rattle.host_requests.specs.declared.end.How.TheVariants.{AtCallback, AtUpdate, LinkFailed, Refused}
use Rattle.host_requests.specs.declared.under_way.Progress.{Progress}
use Rattle.host_requests.specs.declared.under_way.Progress.TheVariants.{Submitted, Sent, Answered}
use Rattle.host_requests.specs.Events.{RequestsEvent, end_at}
use Rattle.host_requests.specs.Events.RequestsEvent.{Fails}
use Rattle.host_requests.specs.declared.end.End.{End}
use Rattle.host_requests.specs.declared.under_way.UnderWay.{UnderWay}
use Rattle.host_model.specs.State.{HostState, Command, node_of}
use Rattle.host_model.specs.Sessions.{open_command}
use Rattle.host_model.specs.Events.{Requests_do, Node_ticks, Line_ticks}
use Rattle.host_model.specs.After.{after, requests_do, is_busy, gives_up, line_ticked, failing_if}
use Rattle.host_model.specs.Ends.{after_end_if, end_entries_if, end_entries, task_entries, attempt_ended}
use Rattle.host_model.specs.Outs.{noted, request_entries, failing_entries, copy_out, outs}
use Rattle.host_model.specs.declared.out.HostOut.{HostOut}
use Rattle.host_node.specs.Events.NodeEvent.{Ticks as node_ticks}
use Rattle.host_node.specs.Steps.{tick_end}
use Rattle.host_node.specs.declared.attempt.AttemptEnd.{AttemptEnd}
use Rattle.host_node.specs.TableState.{nodes_after}
use Rattle.host_requests.specs.declared.task.Task.{Task}
use Rattle.host_requests.specs.declared.task.Purpose.{Purpose}
use Rattle.host_requests.specs.declared.task.Purpose.TheVariants.{Housekeeping, Attempt, Abort}
use Rattle.serial_link.specs.State.{IsBusy, tick_side, copy_due}
use Rattle.serial_link.specs.declared.turn.Turn.{Turn}
use Rattle.serial_link.specs.declared.turn.Turn.TheVariants.{Idle, Copied, Paused}
use Rattle.host_parts.specs.Ending.{Lists, ListsEnd}
use Rattle.host_parts.specs.Heard.{ListsHeard, heard_as}
use Rattle.host_parts.specs.declared.hearing.Heard.{Heard}
use Rattle.host_parts.specs.declared.hearing.Heard.TheVariants.{Sent as Sent_heard, Failed, Responded, CalledBack, Updated, Ticked}

-- what is entered
pub ended_outs : (h : HostState) (event : RequestsEvent) (end : Option End) (before mid all : List HostOut) → mid ≡ before → end ≡ end_at h.requests event
    → ((k : HostState) → all ≡ mid ++ noted (end_entries_if (record k { nodes = h.nodes; commands = h.commands }) end)) → all ≡ before ++ noted (request_entries h event)
ended_outs h event end before mid all same is outs =
    subst (λ (e : Option End). all ≡ before ++ noted (end_entries_if (requests_do h event) e)) is
    (subst (λ (m : List HostOut). all ≡ m ++ noted (end_entries_if (requests_do h event) end)) same (outs (requests_do h event)))

-- the host after it
pub ended_state : (h : HostState) (event : RequestsEvent) (moment : Moment) (end : Option End) (nodes : List NodeState) (commands : List Command) → end ≡ end_at h.requests event
    → ((k : HostState) → let s : HostState = record k { nodes = nodes; commands = commands } in s ≡ after_end_if (record k { nodes = h.nodes; commands = h.commands }) end moment)
    → after h (Requests_do event moment) ≡ record (requests_do h event) { nodes = nodes; commands = commands }
ended_state h event moment end nodes commands is state =
    sym (subst (λ (e : Option End). let s : HostState = record (requests_do h event) { nodes = nodes; commands = commands } in s ≡ after_end_if (requests_do h event) e moment) is (state (requests_do h event)))

-- ---- the list that was made is that of the answer

judged_lists : (response : Response) (u : UnderWay) (list : List ℕ) → Lists response list → ListsEnd (end_of u (judged response u)) list
judged_lists (SendData answer) u list lists = elim (answer == REFUSED) as (λ b. ListsEnd (end_of u (if b then Ends Refused else GoesOn (Answered (is_sent u.progress) notice_ticks))) list) [ true ↦ tt | false ↦ tt ]
judged_lists (RequestNodeInfo answer) u list lists = elim (answer == REFUSED) as (λ b. ListsEnd (end_of u (if b then Ends Refused else GoesOn (Answered (is_sent u.progress) notice_ticks))) list) [ true ↦ tt | false ↦ tt ]
judged_lists (GetInitData v c n t w) u list lists = lists
judged_lists (GetCapabilities v r m t p f) u list lists = lists
judged_lists (GetVersion t l) u list lists = lists
judged_lists (MemoryGetId h n) u list lists = lists
judged_lists (GetNodeProtocolInfo c s r b g t) u list lists = lists
judged_lists (IsFailedNode failed) u list lists = lists
judged_lists (GetRoutingInfo nodes) u list lists = lists

responded_lists : (response : Response) (under_way : Option UnderWay) (list : List ℕ) → Lists response list → ListsEnd (end_from (at_response response) under_way) list
responded_lists response None list lists = tt
responded_lists response (Some u) list lists =
    elim (is_answered u.progress || not (response_function response == function_of u.purpose)) as (λ b. ListsEnd (end_of u (if b then GoesOn u.progress else judged response u)) list)
    [ true ↦ tt | false ↦ judged_lists response u list lists ]

-- no other end brings nodes
sent_lists : (u : UnderWay) (purpose : Purpose) (progress : Progress) (list : List ℕ) → ListsEnd (end_of u (sent_from purpose progress)) list
sent_lists u Abort Submitted list = tt
sent_lists u (Housekeeping task) Submitted list = tt
sent_lists u (Attempt node more payload) Submitted list = tt
sent_lists u purpose (Sent left) list = tt
sent_lists u purpose (Answered sent left) list = tt

silent_lists : (u : UnderWay) (progress : Option Progress) (list : List ℕ) → ListsEnd (end_of u (on_with progress)) list
silent_lists u None list = tt
silent_lists u (Some progress) list = tt

called_lists : (id last : ℕ) (status : TransmitStatus) (u : UnderWay) (list : List ℕ) → ListsEnd (end_of u (at_callback last id status u)) list
called_lists id last status u list =
    elim ((function_of u.purpose == SEND_DATA) && (id == last)) as (λ b. ListsEnd (end_of u (if b then Ends (AtCallback status) else GoesOn u.progress)) list) [ true ↦ tt | false ↦ tt ]

updated_lists : (first : Option ℕ) (update : Update) (u : UnderWay) (list : List ℕ) → ListsEnd (end_of u (at_update first update u)) list
updated_lists first update u list = elim (ends_at_update update u) as (λ b. ListsEnd (end_of u (if b then Ends (AtUpdate update first) else GoesOn u.progress)) list) [ true ↦ tt | false ↦ tt ]

none_or : (next : UnderWay → Next) (under_way : Option UnderWay) (list : List ℕ) → ((u : UnderWay) → ListsEnd (end_of u (next u)) list) → ListsEnd (end_from next under_way) list
none_or next None list each = tt
none_or next (Some u) list each = each u

lists_at : (s : RequestsState) (heard : Heard) (list : List ℕ) → ListsHeard heard list → ListsEnd (end_at s (heard_as heard)) list
lists_at s Sent_heard list lists = none_or at_sent s.under_way list (λ u. sent_lists u u.purpose u.progress list)
lists_at s Failed list lists = none_or (λ u. Ends LinkFailed) s.under_way list (λ u. tt)
lists_at s (Responded response) list lists = responded_lists response s.under_way list lists
lists_at s (CalledBack id status) list lists = none_or (at_callback s.last_id id status) s.under_way list (λ u. called_lists id s.last_id status u list)
lists_at s (Updated update) list lists = none_or (at_update s.first update) s.under_way list (λ u. updated_lists s.first update u list)
lists_at s Ticked list lists = none_or at_tick s.under_way list (λ u. silent_lists u (counted_down u.progress) list)

-- so those are listed that what is heard brings
pub heard_lists : (s : RequestsState) (heard : Heard) (list : List ℕ) (end : Option End) → end ≡ end_at s (heard_as heard) → ListsHeard heard list → ListsEnd end list
heard_lists s heard list end is lists = subst (λ (e : Option End). ListsEnd e list) (sym is) (lists_at s heard list lists)

-- ---- a task that ended

entries_of_task : (h : HostState) (e : End) (task : Task) → e.purpose ≡ Housekeeping task → end_entries h e ≡ task_entries h task e.how
entries_of_task h e task is =
    let whole : e ≡ record { purpose = Housekeeping task; how = e.how } = ap (λ (p : Purpose). let one : End = record { purpose = p; how = e.how } in one) is in
    ap (λ (one : End). end_entries h one) whole

pub task_outs : (h : HostState) (end : Option End) (e : End) (task : Task) → end ≡ Some e → e.purpose ≡ Housekeeping task → task_entries h task e.how ≡ end_entries_if h end
task_outs h end e task some is = sym (ap (λ (o : Option End). end_entries_if h o) some ∙ entries_of_task h e task is)

-- ---- a tick of a node

pub ticked_state : (h : HostState) (n : ℕ) (end : AttemptEnd) (command : Option ℕ) (nodes : List NodeState) (commands : List Command) → nodes ≡ nodes_after h.nodes n node_ticks → end ≡ tick_end (node_of h n) → command ≡ open_command (node_of h n)
    → ((k : HostState) → let s : HostState = record k { commands = commands } in s ≡ attempt_ended (record k { commands = h.commands }) end command)
    → after h (Node_ticks n) ≡ record h { nodes = nodes; commands = commands }
ticked_state h n end command nodes commands same is of state =
    let s1 = state (record h { nodes = nodes }) in
    let s2 = subst (λ (e : AttemptEnd). let s : HostState = record h { nodes = nodes; commands = commands } in s ≡ attempt_ended (record h { nodes = nodes }) e command) is s1 in
    let s3 = subst (λ (o : Option ℕ). let s : HostState = record h { nodes = nodes; commands = commands } in s ≡ attempt_ended (record h { nodes = nodes }) (tick_end (node_of h n)) o) of s2 in
    sym (subst (λ (ns : List NodeState). let s : HostState = record h { nodes = nodes; commands = commands } in s ≡ attempt_ended (record h { nodes = ns }) (tick_end (node_of h n)) (open_command (node_of h n))) same s3)

-- ---- whether a frame is on the line

pub busy_is : (turn : Turn) (b : Bool) → (IsTrue b → IsBusy turn) → (IsBusy turn → IsTrue b) → b ≡ is_busy turn
busy_is Idle true to from = absurd (to refl)
busy_is Idle false to from = refl
busy_is (Copied f copies ticks) b to from = from tt
busy_is (Paused f copies ticks) b to from = from tt

-- ---- a tick of the line

pub given_up : (before after : Turn) → is_busy before ≡ true → is_busy after ≡ false → gives_up before after ≡ true
given_up before after was now = ap (λ (b : Bool). b && is_false (is_busy after)) was ∙ ap (λ (b : Bool). is_false b) now

pub line_failed : (h : HostState) (end : Option End) (nodes : List NodeState) (commands : List Command) → gives_up h.side.turn (tick_side h.side).turn ≡ true → end ≡ end_at h.requests Fails
    → ((k : HostState) → let s : HostState = record k { nodes = nodes; commands = commands } in s ≡ after_end_if (record k { nodes = h.nodes; commands = h.commands }) end BeforeItsTick)
    → after h Line_ticks ≡ record (requests_do (line_ticked h) Fails) { nodes = nodes; commands = commands }
line_failed h end nodes commands gave is state =
    ap (λ (b : Bool). failing_if b (line_ticked h)) gave ∙ ended_state (line_ticked h) Fails BeforeItsTick end nodes commands is state

pub line_outs : (h : HostState) (end : Option End) (before mid all : List HostOut) → gives_up h.side.turn (tick_side h.side).turn ≡ true → end ≡ end_at h.requests Fails
    → mid ≡ before ++ copy_out (copy_due h.side.turn)
    → ((k : HostState) → all ≡ mid ++ noted (end_entries_if (record k { nodes = h.nodes; commands = h.commands }) end))
    → all ≡ before ++ outs h Line_ticks
line_outs h end before mid all gave is same out =
    ended_outs (line_ticked h) Fails end (before ++ copy_out (copy_due h.side.turn)) mid all same is out
    ∙ append_assoc before (copy_out (copy_due h.side.turn)) (noted (request_entries (line_ticked h) Fails))
    ∙ ap (λ (b : Bool). before ++ (copy_out (copy_due h.side.turn) ++ noted (failing_entries b (line_ticked h)))) (sym gave)
