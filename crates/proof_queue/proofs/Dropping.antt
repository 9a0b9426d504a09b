-- A node whose No More Information found the queue full stays so at an event of its host that is no pump, unless that tells that it wakes or falls asleep.
use Rattle.std.proofs.Common.{◌≡◌, ◌⊎◌, ◌≤◌, ℕ, ◌+◌, ◌-◌, ◌==◌, ◌&&◌, Bool, true, false, if◌then◌else◌, inl, inr, length, List, [], ◌∷◌, ◌++◌, nat_lt, refl, sym, ap, ◌∙◌, subst, arith}
use Rattle.std.specs.Prelude.{Option, Some, None}
use Rattle.std.proofs.lemmas.Bool.{and_right, both_ways, eq-eqb, eqb-true}
use Rattle.zw_text.specs.declared.entry.Entry.{Entry}
use Rattle.zw_text.specs.declared.entry.Entry.TheVariants as entry
use Rattle.zw_text.specs.Transcript.{wakings}
use Rattle.law_transcript.specs.Lists.{last_or}
use Rattle.law_time.specs.Requests.{are_none}
use Rattle.serial_link.specs.State.{tick_side}
use Rattle.supervision.specs.Host.{told_of}
use Rattle.supervision.specs.declared.host_node.Told.{Told}
use Rattle.supervision.specs.declared.host_node.Told.TheVariants.{Final, Working, Old}
use Rattle.host_keep.specs.Status.{status_byte}
use Rattle.host_requests.specs.Next.{end_from}
use Rattle.host_requests.specs.Events.{RequestsEvent, end_at}
use Rattle.host_requests.specs.Events.RequestsEvent.{CallsBack, Fails, IsSent, Responds, Ticks as request_ticks, Updates}
use Rattle.host_requests.specs.declared.end.End.{End}
use Rattle.host_requests.specs.declared.end.How.{How}
use Rattle.host_requests.specs.declared.end.How.TheVariants.{LinkFailed}
use Rattle.host_requests.specs.declared.next.Next.{Next}
use Rattle.host_requests.specs.declared.next.Next.TheVariants.{Ends, GoesOn}
use Rattle.host_requests.specs.declared.task.Purpose.{Purpose}
use Rattle.host_requests.specs.declared.task.Purpose.TheVariants.{Housekeeping, Attempt, Abort}
use Rattle.host_requests.specs.declared.task.Task.{Task}
use Rattle.host_requests.specs.declared.task.Task.TheVariants.{NoMore}
use Rattle.host_requests.specs.declared.under_way.UnderWay.{UnderWay}
use Rattle.host_requests.specs.State.{RequestsState}
use Rattle.host_node.specs.declared.attempt.Moment.{Moment}
use Rattle.host_node.specs.declared.attempt.Moment.TheVariants.{BetweenTicks}
use Rattle.host_node.specs.declared.attempt.Plan.{Plan}
use Rattle.host_node.specs.declared.attempt.Plan.TheVariants.{Whole, Segments, Sealed}
use Rattle.host_node.specs.declared.no_more.NoMore.{NoMore as NoMoreState}
use Rattle.host_node.specs.declared.no_more.NoMore.TheVariants.{Unasked, Queued, Dropped}
use Rattle.host_node.specs.Facts.{NoMoreFacts}
use Rattle.host_node.specs.State.{NodeState, has_waiting, is_idle, is_open, is_running, is_up}
use Rattle.host_node.specs.Steps.{after_again, after_again_tick, after_attempt_end, after_attempts, after_hold_tick, after_notification, after_occasion, after_put, after_sleep, after_told, asleep, new_series, next_due, series_over, tried_again, with_again, with_wait, without_attempt}
use Rattle.host_node.specs.Events.{NodeEvent, after as after_node}
use Rattle.host_node.specs.Events.NodeEvent.{Joins as node_joins, Interviews as node_interviews, Cancels as node_cancels, Begins as node_begins, Blocks, Starts as node_starts, Gives_segment as node_gives_segment, Gives_text as node_gives_text, Succeeds, Takes_nonce as node_takes_nonce, Ends_attempt, Reports, Holds, Ends_no_more, Ticks}
use Rattle.host_model.specs.Did.{one_if}
use Rattle.host_model.specs.State.{HostState, node_of}
use Rattle.host_model.specs.Ends.{PartEnd, Good, Passed_over, Bad, part_end}
use Rattle.host_model.specs.After.{after, gives_up, is_held, node_for}
use Rattle.host_model.specs.Events.{HostEvent, Accepts, Cancels, Joins, Requests_do, Interviews, Works, Finishes, Takes_nonce, Notifies, Line_ticks, Node_ticks, Queues_no_more, Drops_no_more, Starts, Gives_text, Gives_segment, Begins, Begin_unkept}
use Rattle.host_model.specs.Outs.{outs}
use Rattle.proof_attempts.specs.proof_work.Work.{HostWork, times_due, told_at, told_for, told_in}
use Rattle.proof_attempts.specs.proof_requests.proof_alone.Steps.{AreTold}
use Rattle.proof_attempts.proofs.Counting.{event_awake}
use Rattle.proof_attempts.proofs.Doings.{did, does_at, end_does, failing_does, held_does, node_after, part_does, purpose_does, task_does}
use Rattle.proof_known.proofs.Events.{outs_told}
use Rattle.proof_known.proofs.proof_alone_Apart.{AreOfLine}
use Rattle.proof_known.proofs.proof_device_HostOuts.{OwnIs, SharedAre, outs_are}
use Rattle.proof_queue.specs.Sleeping.{is_dropped}
use Rattle.proof_queue.proofs.Sleepers.{Are, Unwoken}

-- ---- one node

-- it is awake as it was and was told as it was; or its No More Information was not dropped, and it sleeps or that was not dropped before
abbrev Same : NodeState → NodeState → Type 0
Same s t = (t.no_more ≡ s.no_more) × (t.awake ≡ s.awake)

abbrev Falls : NodeState → NodeState → Type 0
Falls s t = Same s t ⊎ ((is_dropped t.no_more ≡ false) × ((t.awake ≡ false) ⊎ (is_dropped s.no_more ≡ false)))

same_either : (b : Bool) (s x y : NodeState) → Same s x → Same s y → Same s (if b then x else y)
same_either true s x y one other = one
same_either false s x y one other = other

falls_either : (b : Bool) (s x y : NodeState) → Falls s x → Falls s y → Falls s (if b then x else y)
falls_either true s x y one other = one
falls_either false s x y one other = other

occasion_same : (s t : NodeState) → Same s t → Same s (after_occasion t)
occasion_same s t same = same_either (is_open t && is_up t && is_idle t.series) s (new_series t) t same same

slept_falls : (s t : NodeState) → Same s t → Falls s (after_sleep t)
slept_falls s t same = falls_either t.listens s t (asleep t) (inl same) (inr (refl, inl refl))

end_falls : (s t : NodeState) (moment : Moment) → Same s t → Falls s (after_attempt_end t moment)
end_falls s t moment same =
    falls_either (is_running t.series) s (after_attempts (without_attempt t) (t.book.attempts + 1) moment) t
    (falls_either (nat_lt (t.book.attempts + 1) 3) s (next_due (without_attempt t) (t.book.attempts + 1)) (after_sleep (series_over (without_attempt t) (t.book.attempts + 1) moment)) (inl same)
    (slept_falls s (series_over (without_attempt t) (t.book.attempts + 1) moment) same)) (inl same)

again_same : (s t : NodeState) → Same s t → Same s (after_again_tick t)
again_same s t same =
    let over : NodeState = with_again t 0 in
    same_either (t.again_wait == 1) s (after_again over) (with_again t (t.again_wait - 1)) (same_either (has_waiting over) s (after_occasion over) over (occasion_same s over same) same) same

tick_falls : (s : NodeState) → Falls s (after_node s Ticks)
tick_falls s =
    let ticked : NodeState = after_again_tick (after_hold_tick s) in
    let same : Same s ticked = again_same s (after_hold_tick s) (refl, refl) in
    falls_either (ticked.attempt_wait == 1) s (after_attempt_end ticked BetweenTicks) (with_wait ticked (ticked.attempt_wait - 1)) (end_falls s ticked BetweenTicks same) (inl same)

sign_same : (s : NodeState) → Same s (after_node s Succeeds)
sign_same s = same_either (is_running s.series) s (with_wait s 100) s (refl, refl) (refl, refl)

told_same : (s : NodeState) (byte : ℕ) (t : Told) → Same s (after_told s byte t)
told_same s byte (Final session) = (refl, refl)
told_same s byte Working = sign_same s
told_same s byte Old = (refl, refl)

start_same : (s : NodeState) (plan : Plan) → Same s (after_node s (node_starts plan))
start_same s Whole = (refl, refl)
start_same s (Segments count) = (refl, refl)
start_same s (Sealed plain) = (refl, refl)

-- ---- the end of a request

ended_from : (next : UnderWay → Next) (o : Option UnderWay) (end : End) → end_from next o ≡ Some end → (u : UnderWay) × (o ≡ Some u) × (u.purpose ≡ end.purpose)
ended_from next None end is = absurd (let bad : None ≡ Some end = is in cc)
ended_from next (Some u) end is = by (next u) refl
  where
    by : (one : Next) → next u ≡ one → (v : UnderWay) × (Some u ≡ Some v) × (v.purpose ≡ end.purpose)
    by (GoesOn progress) on = absurd (let bad : None ≡ Some end = sym (ap (λ (one : Next). end_by one) on) ∙ is in cc)
      where
        end_by : Next → Option End
        end_by (GoesOn progress) = None
        end_by (Ends how) = Some (record { purpose = u.purpose; how = how })
    by (Ends how) over = (u, refl, same how (sym (ap (λ (one : Next). end_by one) over) ∙ is))
      where
        end_by : Next → Option End
        end_by (GoesOn progress) = None
        end_by (Ends how) = Some (record { purpose = u.purpose; how = how })

        same : (how : How) → Some (record { purpose = u.purpose; how = how }) ≡ Some end → u.purpose ≡ end.purpose
        same how are = let it : record { purpose = u.purpose; how = how } ≡ end = cc in ap (λ (e : End). e.purpose) it

-- it was under way
pub ended_of : (s : RequestsState) (event : RequestsEvent) (end : End) → end_at s event ≡ Some end → (u : UnderWay) × (s.under_way ≡ Some u) × (u.purpose ≡ end.purpose)
ended_of s IsSent end is = ended_from _ s.under_way end is
ended_of s Fails end is = ended_from (λ u. Ends LinkFailed) s.under_way end is
ended_of s (Responds response) end is = ended_from _ s.under_way end is
ended_of s (CallsBack id status) end is = ended_from _ s.under_way end is
ended_of s (Updates update) end is = ended_from _ s.under_way end is
ended_of s request_ticks end is = ended_from _ s.under_way end is
ended_of s event end is = absurd (let bad : None ≡ Some end = is in cc)

-- a node that it told was told by no other, and that was not dropped
undropped : (h : HostState) (event : RequestsEvent) (end : End) (k : ℕ) → HostWork h → end_at h.requests event ≡ Some end → end.purpose ≡ Housekeeping (NoMore k) → is_dropped (node_of h k).no_more ≡ false
undropped h event end k work is tells = by (node_of h k).no_more refl
  where
    found : (u : UnderWay) × (h.requests.under_way ≡ Some u) × (u.purpose ≡ end.purpose)
    found = ended_of h.requests event end is

    once : told_at k h.requests.under_way ≡ 1
    once = ap (λ (o : Option UnderWay). told_at k o) found.1 ∙ ap (λ (p : Purpose). told_for k p) (found.2 ∙ tells) ∙ ap one_if (eq-eqb k k refl)

    by : (state : NoMoreState) → (node_of h k).no_more ≡ state → is_dropped state ≡ false
    by Unasked at = refl
    by Queued at = refl
    by Dropped at = absurd (let sum : told_in k h.requests.queue + told_at k h.requests.under_way ≡ 0 = work.work.once k ∙ ap times_due at in omega (arith, sum, once))

module _ (n : ℕ) (s : NodeState) where
  one_falls : (k : ℕ) (event : NodeEvent) → (k ≡ n → Falls s (after_node s event)) → Falls s (if k == n then after_node s event else s)
  one_falls k event own = by (k == n) refl
    where
      by : (b : Bool) → (k == n) ≡ b → Falls s (if b then after_node s event else s)
      by true is = own (eqb-true k n is)
      by false is = inl (refl, refl)

  part_falls : (k : ℕ) (end : PartEnd) (moment : Moment) → Falls s (does_at n s (part_does k end moment))
  part_falls k Good moment = one_falls k Succeeds (λ same. inl (sign_same s))
  part_falls k Passed_over moment = inl (refl, refl)
  part_falls k Bad moment = one_falls k (Ends_attempt moment) (λ same. end_falls s s moment (refl, refl))

  abbrev Undropped : Purpose → Type 0
  Undropped purpose = (k : ℕ) → purpose ≡ Housekeeping (NoMore k) → k ≡ n → is_dropped s.no_more ≡ false

  task_falls : (task : Task) → Undropped (Housekeeping task) → Falls s (does_at n s (task_does task))
  task_falls (NoMore k) none =
      one_falls k Ends_no_more (λ same. falls_either s.listens s (record s { no_more = Unasked }) (asleep (record s { no_more = Unasked })) (inr (refl, inr (none k refl same))) (inr (refl, inl refl)))
  task_falls task none = inl (refl, refl)

  purpose_falls : (purpose : Purpose) (how : How) (moment : Moment) → Undropped purpose → Falls s (does_at n s (purpose_does purpose how moment))
  purpose_falls (Attempt k more payload) how moment none = part_falls k (part_end more how) moment
  purpose_falls (Housekeeping task) how moment none = task_falls task none
  purpose_falls Abort how moment none = inl (refl, refl)

  requests_fall : (end : Option End) (moment : Moment) → ((one : End) → end ≡ Some one → Undropped one.purpose) → Falls s (does_at n s (end_does end moment))
  requests_fall None moment none = inl (refl, refl)
  requests_fall (Some end) moment none = purpose_falls end.purpose end.how moment (none end refl)

  held_falls : (k : ℕ) (held : Bool) (t : NodeState) → Same s t → Falls s (does_at n t (held_does k held))
  held_falls k true t same = falls_either (k == n) s (after_node t Holds) t (inl same) (inl same)
  held_falls k false t same = inl same

-- at an event of a host that is no pump, and at which no node wakes
abbrev pub IsOrdinary : HostEvent → Type 0
IsOrdinary (Queues_no_more n) = ⊥
IsOrdinary (Drops_no_more n) = ⊥
IsOrdinary (Notifies n) = ⊥
IsOrdinary event = Unit {0}

module _ (h : HostState) (n : ℕ) (work : HostWork h) where
  abbrev node : NodeState
  node = node_of h n

  ends_fall : (event : RequestsEvent) (moment : Moment) → Falls node (does_at n node (end_does (end_at h.requests event) moment))
  ends_fall event moment =
      requests_fall n node (end_at h.requests event) moment
      (λ end is k tells same. subst (λ (m : ℕ). is_dropped (node_of h m).no_more ≡ false) same (undropped h event end k work is tells))

  failing_falls : (gives : Bool) → Falls node (does_at n node (failing_does gives h))
  failing_falls true = ends_fall Fails _
  failing_falls false = inl (refl, refl)

  event_falls : (event : HostEvent) → IsOrdinary event → Falls node (does_at n node (did h event))
  event_falls (Accepts order carriage) ordinary = by (order.node == n)
    where
      put : NodeState
      put = after_put node (length h.commands + 1)

      by : (b : Bool) → Falls node (if b then after_occasion (if b then put else node) else (if b then put else node))
      by true = inl (occasion_same node put (refl, refl))
      by false = inl (refl, refl)
  event_falls (Cancels command) ordinary = one_falls n node (node_for h command) (node_cancels command) (λ same. inl (refl, refl))
  event_falls (Joins k) ordinary = one_falls n node k node_joins (λ same. inl (refl, refl))
  event_falls (Requests_do event moment) ordinary = ends_fall event moment
  event_falls (Interviews k listens classes update) ordinary = one_falls n node k (node_interviews listens classes) (λ same. inl (refl, refl))
  event_falls (Works k id) ordinary = one_falls n node k (Reports id 1) (λ same. inl (told_same node 1 (told_of node.book id 1)))
  event_falls (Finishes k session id command status wake_request) ordinary = by (k == n)
    where
      done : NodeState
      done = after_told node (status_byte status) (told_of node.book id (status_byte status))

      by : (b : Bool) → Falls node (does_at n (if b then done else node) (held_does k (is_held h k wake_request)))
      by true = held_falls n node k (is_held h k wake_request) done (told_same node (status_byte status) (told_of node.book id (status_byte status)))
      by false = held_falls n node k (is_held h k wake_request) node (refl, refl)
  event_falls (Takes_nonce k seen text) ordinary = one_falls n node k (node_takes_nonce seen text) (λ same. inl (refl, refl))
  event_falls (Notifies k) ordinary = absurd ordinary
  event_falls Line_ticks ordinary = failing_falls (gives_up h.side.turn (tick_side h.side).turn)
  event_falls (Node_ticks k) ordinary = one_falls n node k Ticks (λ same. tick_falls node)
  event_falls (Queues_no_more k) ordinary = absurd ordinary
  event_falls (Drops_no_more k) ordinary = absurd ordinary
  event_falls (Starts k plan more payload) ordinary = one_falls n node k (node_starts plan) (λ same. inl (start_same node plan))
  event_falls (Gives_text k payload) ordinary = one_falls n node k node_gives_text (λ same. inl (refl, refl))
  event_falls (Gives_segment k more payload) ordinary = one_falls n node k node_gives_segment (λ same. inl (refl, refl))
  event_falls (Begins k session command) ordinary = one_falls n node k node_begins (λ same. inl (refl, refl))
  event_falls (Begin_unkept k) ordinary = one_falls n node k Blocks (λ same. inl (refl, refl))
  event_falls event ordinary = inl (refl, refl)

-- ---- what is told of it

line_unwoken : AreOfLine Unwoken
line_unwoken = record { written = λ side text. tt; dropped = λ side. tt; garbled = λ side text. tt; overrun = λ side. tt }

shared_unwoken : SharedAre Unwoken
shared_unwoken = record {
  unanswered = λ command. tt;
  asleep = λ n. tt;
  done = λ n how. tt;
  uninterviewed = λ n. tt;
  neighbours = λ n nodes. tt;
  failed = λ n is_failed. tt;
  stored = λ n setting. tt;
  held = λ n. tt;
  full = λ n. tt;
}

own_unwoken : (event : HostEvent) → IsOrdinary event → OwnIs Unwoken event
own_unwoken (Accepts order carriage) ordinary = λ number. tt
own_unwoken (Notifies n) ordinary = absurd ordinary
own_unwoken event ordinary = tt

abbrev SleepsOnly : ℕ → List Entry → Type 0
SleepsOnly n told = (wakings n told ≡ []) ⊎ ((are_none (wakings n told) ≡ false) × ((b : Bool) → last_or b (wakings n told) ≡ false))

sleeps_only : (n : ℕ) (told : List Entry) → Are told → SleepsOnly n told
sleeps_only n [] all = inl refl
sleeps_only n (entry.Awake k ∷ told) all = absurd all.0
sleeps_only n (entry.Asleep k ∷ told) all = by (k == n) (sleeps_only n told all.1)
  where
    by : (b : Bool) → SleepsOnly n told
        → ((if b then false ∷ [] else []) ++ wakings n told ≡ [])
        ⊎ ((are_none ((if b then false ∷ [] else []) ++ wakings n told) ≡ false) × ((c : Bool) → last_or c ((if b then false ∷ [] else []) ++ wakings n told) ≡ false))
    by true (inl none) = inr (refl, λ c. ap (λ (l : List Bool). last_or false l) none)
    by true (inr sleeps) = inr (refl, λ c. sleeps.1 false)
    by false is = is
sleeps_only n (e ∷ told) all = sleeps_only n told all.1

-- a node whose No More Information was dropped is awake
pub dropped_awake : (state : NoMoreState) (awake : Bool) (classes : Option (List ℕ)) → NoMoreFacts state awake classes → awake ≡ false → is_dropped state ≡ false
dropped_awake Unasked awake classes facts asleep_so = refl
dropped_awake Queued awake classes facts asleep_so = refl
dropped_awake Dropped awake classes facts asleep_so = absurd (both_ways awake asleep_so facts.0)

and_none : (b : Bool) → b ≡ (b && true)
and_none true = refl
and_none false = refl

-- so it stays dropped, unless it is told to wake or to fall asleep
ordinary_drops : (h : HostState) (event : HostEvent) (told : List Entry) → HostWork h → IsOrdinary event → AreTold (outs h event) told → (n : ℕ) → 1 ≤ n → n ≤ 232
    → is_dropped (node_of (after h event) n).no_more ≡ (is_dropped (node_of h n).no_more && are_none (wakings n told))
ordinary_drops h event told work ordinary are n from to =
    ap (λ (t : NodeState). is_dropped t.no_more) node_is
    ∙ by (event_falls h n work event ordinary) (sleeps_only n told (outs_told Unwoken line_unwoken (outs h event) told (outs_are Unwoken shared_unwoken h event (own_unwoken event ordinary)) are))
  where
    s : NodeState
    s = node_of h n

    t : NodeState
    t = does_at n s (did h event)

    places : length h.nodes ≡ 233
    places = work.host.nodes.places

    node_is : node_of (after h event) n ≡ t
    node_is = node_after h event n (omega (arith, places, to))

    grows : t.awake ≡ last_or s.awake (wakings n told)
    grows = sym (ap (λ (t : NodeState). t.awake) node_is) ∙ event_awake h event told are places n from to

    sleepy : s.awake ≡ false → is_dropped s.no_more ≡ false
    sleepy is = dropped_awake s.no_more s.awake s.classes (work.host.nodes.facts n).no_more is

    by : Falls s t → SleepsOnly n told → is_dropped t.no_more ≡ (is_dropped s.no_more && are_none (wakings n told))
    by (inl same) (inl none) = ap is_dropped same.0 ∙ and_none (is_dropped s.no_more) ∙ ap (λ (l : List Bool). is_dropped s.no_more && are_none l) (sym none)
    by (inl same) (inr sleeps) =
        let none : is_dropped s.no_more ≡ false = sleepy (sym same.1 ∙ grows ∙ sleeps.1 s.awake) in
        ap is_dropped same.0 ∙ none ∙ sym (ap (λ (b : Bool). b && are_none (wakings n told)) none)
    by (inr (undropped_so, why)) (inr sleeps) = undropped_so ∙ sym (and_right (is_dropped s.no_more) (are_none (wakings n told)) sleeps.0)
    by (inr (undropped_so, inr none)) (inl still) = undropped_so ∙ sym (ap (λ (b : Bool). b && are_none (wakings n told)) none)
    by (inr (undropped_so, inl sleeps)) (inl still) =
        let none : is_dropped s.no_more ≡ false = sleepy (sym (grows ∙ ap (λ (l : List Bool). last_or s.awake l) still) ∙ sleeps) in
        undropped_so ∙ sym (ap (λ (b : Bool). b && are_none (wakings n told)) none)

tried_undropped : (state : NoMoreState) → is_dropped (tried_again state) ≡ false
tried_undropped Unasked = refl
tried_undropped Queued = refl
tried_undropped Dropped = refl

wakes_drops : (h : HostState) (k : ℕ) (told : List Entry) → length h.nodes ≡ 233 → AreTold (outs h (Notifies k)) told → (n : ℕ) → 1 ≤ n → n ≤ 232
    → is_dropped (node_of (after h (Notifies k)) n).no_more ≡ (is_dropped (node_of h n).no_more && are_none (wakings n told))
wakes_drops h k told places (rest, is, none) n from to =
    ap (λ (t : NodeState). is_dropped t.no_more) (node_after h (Notifies k) n (omega (arith, places, to))) ∙ by (k == n)
    ∙ sym (ap (λ (l : List Entry). is_dropped s.no_more && are_none (wakings n l)) (is ∙ ap (λ (l : List Entry). entry.Awake k ∷ l) none))
  where
    s : NodeState
    s = node_of h n

    woken : NodeState
    woken = record s { awake = true; no_more = tried_again s.no_more }

    by : (b : Bool) → is_dropped (if b then after_notification s else s).no_more ≡ (is_dropped s.no_more && are_none ((if b then true ∷ [] else []) ++ []))
    by true =
        ap is_dropped (occasion_same woken woken (refl, refl)).0 ∙ tried_undropped s.no_more ∙ sym (and_right (is_dropped s.no_more) false refl)
    by false = and_none (is_dropped s.no_more)

abbrev pub IsNoPump : HostEvent → Type 0
IsNoPump (Queues_no_more n) = ⊥
IsNoPump (Drops_no_more n) = ⊥
IsNoPump event = Unit {0}

pub event_drops : (h : HostState) (event : HostEvent) (told : List Entry) → HostWork h → IsNoPump event → AreTold (outs h event) told → (n : ℕ) → 1 ≤ n → n ≤ 232
    → is_dropped (node_of (after h event) n).no_more ≡ (is_dropped (node_of h n).no_more && are_none (wakings n told))
event_drops h (Queues_no_more k) told work no_pump are = absurd no_pump
event_drops h (Drops_no_more k) told work no_pump are = absurd no_pump
event_drops h (Notifies k) told work no_pump are = wakes_drops h k told work.host.nodes.places are
event_drops h event told work no_pump are = ordinary_drops h event told work tt are
