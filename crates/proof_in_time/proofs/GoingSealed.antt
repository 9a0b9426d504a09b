-- What waits for a node, or is open at it, is of commands that go sealed, at every event at which no host starts: where the host takes the node to list Security 0, so does each that it accepts.
use Rattle.std.proofs.Common.{◌≡◌, ◌<◌, ◌≤◌, ◌+◌, ◌-◌, ◌==◌, ◌&&◌, ℕ, zero, suc, nat_lt, inl, inr, Bool, true, false, if◌then◌else◌, List, [], ◌∷◌, ◌++◌, length, refl, sym, ap, ◌∙◌, subst, arith}
use Rattle.std.proofs.lemmas.List.Elements.{All-head, All-tail}
use Rattle.std.specs.Prelude.{◌⊎◌, All, Option, Some, None, drop, nat_le, slice_get, slice_index, unwrap_or}
use Rattle.std.specs.List.{AllByRecursion}
use Rattle.zw_base.specs.declared.order.Order.{Order}
use Rattle.encap.specs.declared.plan.Outer.TheVariants.{None as no_outer, Crc16, Security, Transport}
use Rattle.law_transcript.specs.Lists.{Has}
use Rattle.law_transcript.proofs.Having.{has_either}
use Rattle.supervision.specs.Host.{command_at as command_of_session, open_session, told_of}
use Rattle.supervision.specs.declared.host_node.Told.{Told}
use Rattle.supervision.specs.declared.host_node.Told.TheVariants.{Final, Working, Old}
use Rattle.host_orders.specs.Classes.{actuator_of, lists}
use Rattle.host_orders.specs.Refusals.{IsFit, classes_of}
use Rattle.host_orders.specs.Wrapping.{carriage_of, outer_for, wrapped_len}
use Rattle.host_orders.specs.declared.carriage.Carriage.{Carriage}
use Rattle.host_requests.specs.Events.{end_at}
use Rattle.host_requests.specs.Events.RequestsEvent.{Fails}
use Rattle.host_requests.specs.declared.end.End.{End}
use Rattle.host_requests.specs.declared.end.How.{How}
use Rattle.host_requests.specs.declared.task.Purpose.{Purpose}
use Rattle.host_requests.specs.declared.task.Purpose.TheVariants.{Housekeeping, Attempt, Abort}
use Rattle.host_requests.specs.declared.task.Task.{Task}
use Rattle.host_requests.specs.declared.task.Task.TheVariants.{NoMore}
use Rattle.host_node.specs.declared.attempt.Moment.{Moment}
use Rattle.host_node.specs.declared.attempt.Moment.TheVariants.{BeforeItsTick, BetweenTicks}
use Rattle.host_node.specs.declared.attempt.Plan.TheVariants.{Whole, Segments, Sealed}
use Rattle.host_node.specs.declared.no_more.NoMore.TheVariants.{Unasked}
use Rattle.host_node.specs.State.{NodeState, has_waiting, is_idle, is_open, is_running, is_up}
use Rattle.host_node.specs.Events.{NodeEvent, after as after_node}
use Rattle.host_node.specs.Events.NodeEvent.{Joins, Interviews, Puts, Takes_back, Accepts, Cancels, Begins, Blocks, Starts, Gives_segment, Gives_text, Succeeds, Takes_nonce, Restores_seen, Ends_attempt, Reports, Holds, Notifies, Sleeps, Queues_no_more, Drops_no_more, Ends_no_more, Ticks, Restarts}
use Rattle.host_node.specs.Steps.{after_again, after_again_tick, after_attempt_end, after_attempts, after_hold_tick, after_no_more, after_occasion, after_sign, after_sleep, after_told, as_recorded, asleep, new_series, next_due, oldest, series_over, tried_again, wait_ticks, with_again, with_wait, without, without_attempt}
use Rattle.host_model.specs.After.{after, failing_if, gives_up, line_ticked}
use Rattle.host_model.specs.Did.{after_all}
use Rattle.host_model.specs.Ends.{PartEnd, Good, Passed_over, Bad, part_end}
use Rattle.host_model.specs.Events.{HostEvent, Accepts as host_accepts, Cancels as host_cancels, Requests_do as host_requests_do, Interviews as host_interviews, Notifies as host_notifies, Line_ticks, Node_ticks, Queues_no_more as host_queues_no_more, Drops_no_more as host_drops_no_more, Starts as host_starts, Begins as host_begins, Begin_unkept}
use Rattle.host_model.specs.Facts.{HostFacts, IsCommandOf}
use Rattle.host_model.specs.May.{IsAccepted, May as MayHost, known_of}
use Rattle.host_model.specs.Sessions.{command_by}
use Rattle.host_model.specs.State.{Command, HostState, command_at, node_of}
use Rattle.host_model.specs.Taking.{is_secure}
use Rattle.host_model.proofs.Accepted.{accepted_is_fit}
use Rattle.host_model.proofs.Silence.{judged_silent}
use Rattle.serial_link.specs.State.{tick_side}
use Rattle.world_model.specs.State.{Machine}
use Rattle.world_model.specs.Events.{Event, Outside_does, Host_does, Host_takes, Decoder_ticks, Refuses, Shows_values, Restarts as Machine_restarts, happens, May}
use Rattle.proof_course_plain.proofs.HostEvents.{owned}
use Rattle.proof_spoken.proofs.Orders.{IsNoOrder, SameOrders, event_kept, same_orders, then_same}
use Rattle.proof_spoken.proofs.Plain.{silent_none}
use Rattle.proof_answered.proofs.NodeSteps.{AllowsAt, AllowsEnd, AllowsEndIf, AllowsPart, AllowsPurpose, AllowsTask, AllowsTaskIf, AllowsWaking, IsAside}
use Rattle.proof_answered.proofs.SleeperHosts.{OfNode, PlaceIs, on_place}
use Rattle.proof_in_time.specs.InStep.{IsNear, IsNearAt}
use Rattle.proof_in_time.specs.Exchanging.{GoSealed}
use Rattle.proof_in_time.specs.SealedHosts.{GoesSealed}
use Rattle.proof_in_time.proofs.Commands.{same_at}
use Rattle.proof_in_time.proofs.InHand.{begun_opens, command_last}
use Rattle.proof_in_time.proofs.QuietPhases.{IsNoStart}

-- ---- lists

without_has : (l : List ℕ) (command n : ℕ) → Has (without l command) n → Has l n
without_has [] command n has = has
without_has (one ∷ l) command n has = by (λ later. without_has l command n later) (one == command) has
  where
    by : (Has (without l command) n → Has l n) → (b : Bool) → Has (if b then l else one ∷ without l command) n → Has (one ∷ l) n
    by rest true later = inr later
    by rest false (inl same) = inl same
    by rest false (inr later) = inr (rest later)

-- ---- at each event of its node

-- of commands of which something is so: no command has the number 0
module _ (Of : ℕ → Type 0) (none_of : Of 0) where
  abbrev AreOf : NodeState → Type 0
  AreOf x = ((number : ℕ) → Has x.waiting number → Of number) × ((session number : ℕ) → open_session x.book ≡ Some session → command_of_session x.book.commands session ≡ Some number → Of number)

  either : (b : Bool) (x y : NodeState) → AreOf x → AreOf y → AreOf (if b then x else y)
  either true x y first later = first
  either false x y first later = later

  occasion : (x : NodeState) → AreOf x → AreOf (after_occasion x)
  occasion x is = either (is_open x && is_up x && is_idle x.series) (new_series x) x is is

  sign : (x : NodeState) → AreOf x → AreOf (after_sign x)
  sign x is = either (is_running x.series) (with_wait x wait_ticks) x is is

  sleep : (x : NodeState) → AreOf x → AreOf (after_sleep x)
  sleep x is = either x.listens x (asleep x) is is

  told : (x : NodeState) (status : ℕ) (t : Told) → AreOf x → AreOf (after_told x status t)
  told x status (Final session) is = (is.0, λ one number opened at. absurd (let wrong : None ≡ Some one = opened in cc))
  told x status Working is = sign x is
  told x status Old is = is

  attempts : (x : NodeState) (count : ℕ) (moment : Moment) → AreOf x → AreOf (after_attempts x count moment)
  attempts x count moment is = either (nat_lt count 3) (next_due x count) (after_sleep (series_over x count moment)) is (sleep (series_over x count moment) is)

  attempt_end : (x : NodeState) (moment : Moment) → AreOf x → AreOf (after_attempt_end x moment)
  attempt_end x moment is =
      either (is_running x.series) (after_attempts (without_attempt x) (x.book.attempts + 1) moment) x (attempts (without_attempt x) (x.book.attempts + 1) moment is) is

  again : (x : NodeState) → AreOf x → AreOf (after_again_tick x)
  again x is =
      either (x.again_wait == 1) (after_again (with_again x 0)) (with_again x (x.again_wait - 1))
      (either (has_waiting (with_again x 0)) (after_occasion (with_again x 0)) (with_again x 0) (occasion (with_again x 0) is) is) is

  ticked : (x : NodeState) → AreOf x → AreOf (after_node x Ticks)
  ticked x is =
      either ((after_again_tick (after_hold_tick x)).attempt_wait == 1) (after_attempt_end (after_again_tick (after_hold_tick x)) BetweenTicks)
      (with_wait (after_again_tick (after_hold_tick x)) ((after_again_tick (after_hold_tick x)).attempt_wait - 1)) (attempt_end (after_again_tick (after_hold_tick x)) BetweenTicks there) there
    where
      there : AreOf (after_again_tick (after_hold_tick x))
      there = again (after_hold_tick x) is

  -- the first that waits, or none
  oldest_of : (l : List ℕ) → ((number : ℕ) → Has l number → Of number) → Of (slice_index l 0)
  oldest_of [] all = none_of
  oldest_of (first ∷ l) all = all first (inl refl)

  later_has : (l : List ℕ) (number : ℕ) → Has (drop 1 l) number → Has l number
  later_has [] number has = has
  later_has (first ∷ l) number has = inr has

  begun : (x : NodeState) → AreOf x → AreOf (after_node x Begins)
  begun x is = (
    λ number has. is.0 number (later_has x.waiting number has),
    λ session number opened at.
        let both : Some (length x.book.commands + 1) ≡ Some session = sym (begun_opens x.book (oldest x)) ∙ opened in
        let same : length x.book.commands + 1 ≡ session = cc in
        let last : Some (oldest x) ≡ Some number = sym (command_last x.book.commands (oldest x)) ∙ (ap (λ (k : ℕ). command_of_session (x.book.commands ++ oldest x ∷ []) k) same ∙ at) in
        let one : oldest x ≡ number = cc in
        subst Of one (oldest_of x.waiting is.0),
  )

  -- a command that is put there is such
  abbrev Any : NodeState → NodeEvent → Type 0
  Any x (Puts number) = Of number
  Any x Takes_back = ⊥
  Any x event = Unit {0}

  any_aside : (x : NodeState) (event : NodeEvent) → IsAside event → Any x event
  any_aside x (Puts number) aside = absurd aside
  any_aside x Takes_back aside = absurd aside
  any_aside x event aside = tt

  put : (x : NodeState) (number : ℕ) → Of number → AreOf x → AreOf (after_node x (Puts number))
  put x number of is = (λ one has. by one (has_either x.waiting (number ∷ []) one has), is.1)
    where
      by : (one : ℕ) → Has x.waiting one ⊎ Has (number ∷ []) one → Of one
      by one (inl has) = is.0 one has
      by one (inr (inl same)) = subst Of same of
      by one (inr (inr none)) = absurd none

  of_on : (x : NodeState) (event : NodeEvent) → Any x event → AreOf x → AreOf (after_node x event)
  of_on x Joins any is = is
  of_on x (Interviews listens classes) any is = is
  of_on x (Puts number) any is = put x number any is
  of_on x Takes_back any is = absurd any
  of_on x Accepts any is = occasion x is
  of_on x (Cancels command) any is = (λ number has. is.0 number (without_has x.waiting command number has), is.1)
  of_on x Begins any is = begun x is
  of_on x Blocks any is = is
  of_on x (Starts Whole) any is = is
  of_on x (Starts (Segments count)) any is = is
  of_on x (Starts (Sealed plain)) any is = is
  of_on x Gives_segment any is = is
  of_on x Gives_text any is = is
  of_on x Succeeds any is = sign x is
  of_on x (Takes_nonce seen text) any is = is
  of_on x (Restores_seen seen) any is = is
  of_on x (Ends_attempt moment) any is = attempt_end x moment is
  of_on x (Reports id status) any is = told x status (told_of x.book id status) is
  of_on x Holds any is = is
  of_on x Notifies any is = occasion (record x { awake = true; no_more = tried_again x.no_more }) is
  of_on x Sleeps any is = sleep x is
  of_on x Queues_no_more any is = is
  of_on x Drops_no_more any is = is
  of_on x Ends_no_more any is = sleep (after_no_more x Unasked) is
  of_on x Ticks any is = ticked x is
  of_on x Restarts any is = occasion (as_recorded x) is

  -- ---- at each event of the host

  module _ (n : ℕ) (within : n < 233) where
    abbrev Allows : ℕ → NodeState → NodeEvent → Type 0
    Allows = OfNode Any n

    part_any : (k : ℕ) (x : NodeState) (end : PartEnd) (moment : Moment) → AllowsPart Allows k x end moment
    part_any k x Good moment = tt
    part_any k x Passed_over moment = tt
    part_any k x Bad moment = λ same. tt

    purpose_any : (h : HostState) (purpose : Purpose) (how : How) (moment : Moment) → AllowsEnd Allows h purpose how moment
    purpose_any h (Attempt k more payload) how moment = part_any k (node_of h k) (part_end more how) moment
    purpose_any h (Housekeeping task) how moment = tt
    purpose_any h Abort how moment = tt

    end_any : (h : HostState) (end : Option End) (moment : Moment) → AllowsEndIf Allows h end moment
    end_any h None moment = tt
    end_any h (Some end) moment = purpose_any h end.purpose end.how moment

    task_any : (h : HostState) (task : Task) → AllowsTask Allows h task
    task_any h (NoMore k) = λ same. tt
    task_any h task = tt

    told_any : (h : HostState) (purpose : Purpose) → AllowsPurpose Allows h purpose
    told_any h (Housekeeping task) = task_any h task
    told_any h purpose = tt

    told_if_any : (h : HostState) (end : Option End) → AllowsTaskIf Allows h end
    told_if_any h None = tt
    told_if_any h (Some end) = told_any h end.purpose

    -- but for the line's own tick
    abbrev IsNoLine : HostEvent → Type 0
    IsNoLine Line_ticks = ⊥
    IsNoLine event = Unit {0}

    at_any : (h : HostState) (event : HostEvent) → IsNoLine event → AllowsAt Allows h event
    at_any h (host_requests_do event moment) quiet = end_any h (end_at h.requests event) moment
    at_any h (host_interviews k listens classes update) quiet = λ same. tt
    at_any h (Node_ticks k) quiet = λ same. tt
    at_any h (host_starts k plan more payload) quiet = λ same. tt
    at_any h (host_cancels other) quiet = λ same. tt
    at_any h (host_begins k session other) quiet = λ same. tt
    at_any h (Begin_unkept k) quiet = λ same. tt
    at_any h Line_ticks quiet = absurd quiet
    at_any h event quiet = tt

    -- a command that is accepted for the node is such
    abbrev PutsOf : HostState → HostEvent → Type 0
    PutsOf h (host_accepts order carriage) = order.node ≡ n → Of (length h.commands + 1)
    PutsOf h event = Unit {0}

    waking_any : (h : HostState) (event : HostEvent) → PutsOf h event → AllowsWaking Allows h event
    waking_any h (host_accepts order carriage) puts = (puts, λ same. tt)
    waking_any h (host_requests_do event moment) puts = told_if_any h (end_at h.requests event)
    waking_any h (host_notifies k) puts = λ same. tt
    waking_any h (host_queues_no_more k) puts = λ same. tt
    waking_any h (host_drops_no_more k) puts = λ same. tt
    waking_any h event puts = tt

    abbrev Stays : HostState → Type 0
    Stays h = PlaceIs AreOf n h.nodes

    other_on : (h : HostState) (event : HostEvent) → IsNoLine event → PutsOf h event → Stays h → Stays (after h event)
    other_on h event quiet puts at = on_place AreOf Any any_aside of_on n within h event (at_any h event quiet) (waking_any h event puts) at

    failing_on : (b : Bool) (h : HostState) → Stays h → Stays (failing_if b h)
    failing_on true h at = other_on h (host_requests_do Fails BeforeItsTick) tt tt at
    failing_on false h at = at

    host_on : (h : HostState) (event : HostEvent) → PutsOf h event → Stays h → Stays (after h event)
    host_on h Line_ticks puts at = failing_on (gives_up h.side.turn (tick_side h.side).turn) (line_ticked h) (record { places = at.places; is = at.is })
    host_on h event puts at = other_on h event tt puts at

    no_puts : (h : HostState) (event : HostEvent) → IsNoOrder event → PutsOf h event
    no_puts h (host_accepts order carriage) none = absurd none
    no_puts h event none = tt

    hosts_on : (h : HostState) (events : List HostEvent) → AllByRecursion IsNoOrder events → Stays h → Stays (after_all h events)
    hosts_on h [] none at = at
    hosts_on h (event ∷ events) none at = hosts_on (after h event) events none.1 (host_on h event (no_puts h event none.0) at)

-- ---- the table

-- a command of that number goes sealed
abbrev OfTable : List Command → ℕ → Type 0
OfTable commands number = (command : Command) → command_at commands number ≡ Some command → GoesSealed command.order command.carriage

none_table : (commands : List Command) → OfTable commands 0
none_table commands command found = absurd (let wrong : None ≡ Some command = found in cc)

still_there : (commands : List Command) (one : Command) (place : ℕ) (own : Command) → slice_get commands place ≡ Some own → slice_get (commands ++ one ∷ []) place ≡ Some own
still_there [] one place own is = absurd cc
still_there (first ∷ commands) one zero own is = is
still_there (first ∷ commands) one (suc place) own is = still_there commands one place own is

found_last : (commands : List Command) (one : Command) → slice_get (commands ++ one ∷ []) (length commands) ≡ Some one
found_last [] one = refl
found_last (first ∷ commands) one = found_last commands one

-- one more does not change it
more_table : (commands : List Command) (one : Command) (number : ℕ) (own : Command) → command_at commands number ≡ Some own → OfTable commands number → OfTable (commands ++ one ∷ []) number
more_table commands one zero own is of command found = absurd (let wrong : None ≡ Some own = is in cc)
more_table commands one (suc place) own is of command found =
    let both : Some own ≡ Some command = sym (still_there commands one place own is) ∙ found in
    of command (is ∙ both)

last_table : (commands : List Command) (one : Command) → GoesSealed one.order one.carriage → OfTable (commands ++ one ∷ []) (length commands + 1)
last_table commands one goes command found =
    let more : length commands + 1 ≡ suc (length commands) = omega arith in
    let last : Some one ≡ Some command = sym (found_last commands one) ∙ (sym (ap (λ (k : ℕ). command_at (commands ++ one ∷ []) k) more) ∙ found) in
    let same : one ≡ command = cc in
    subst (λ (c : Command). GoesSealed c.order c.carriage) same goes

same_table : (old new : List Command) → SameOrders old new → (number : ℕ) → OfTable old number → OfTable new number
same_table old new same number of = same_at GoesSealed old new same number of

all_kept : (h : HostState) (events : List HostEvent) → AllByRecursion IsNoOrder events → SameOrders h.commands (after_all h events).commands
all_kept h [] none = same_orders h.commands
all_kept h (event ∷ events) none = then_same h.commands (after h event).commands (after_all h (event ∷ events)).commands (event_kept h event none.0) (all_kept (after h event) events none.1)

-- ---- an order that is accepted

pub sealed_outer : (classes : List ℕ) (len : ℕ) → lists classes 0x98 ≡ true → outer_for classes len ≡ Security
sealed_outer classes len secure = ap (λ (b : Bool). if b then Security else if nat_lt 46 len then Transport else if lists classes 0x56 && nat_le (len + 4) 46 then Crc16 else no_outer) secure

pub accepted_sealed : (h : HostState) (order : Order) (carriage : Carriage) → IsAccepted h order carriage → is_secure (node_of h order.node).classes ≡ true → order.end ≤ 127 → GoesSealed order carriage
accepted_sealed h order carriage accepted secure end =
    let classes : classes_of (known_of (node_of h order.node)) ≡ accepted.classes = ap (λ (o : Option (List ℕ)). unwrap_or o []) accepted.listed in
    let carried : carriage_of (classes_of (known_of (node_of h order.node))) order ≡ carriage = ap (λ (c : List ℕ). carriage_of c order) classes ∙ sym accepted.carried in
    record {
      fit = subst (λ (c : Carriage). IsFit c.actuator order) carried (accepted_is_fit (known_of (node_of h order.node)) order accepted.unrefused);
      end = end;
      outer = ap (λ (c : Carriage). c.outer) accepted.carried
          ∙ sealed_outer accepted.classes (wrapped_len (actuator_of accepted.classes) order) (ap is_secure (sym accepted.listed) ∙ secure);
    }

-- ---- of the machine

module _ (n : ℕ) (within : n < 233) where
  -- as the law has it, and as it is kept
  abbrev Sealed_at : List Command → NodeState → Type 0
  Sealed_at commands x = AreOf (OfTable commands) (none_table commands) x

  as_kept : (h : HostState) → GoSealed n h → Sealed_at h.commands (node_of h n)
  as_kept h go = (
    λ number has command found. go number command found (inl has),
    λ session number opened at command found. go number command found (inr (ap (λ (o : Option ℕ). command_by (node_of h n) o) opened ∙ at)),
  )

  as_law : (h : HostState) → Sealed_at h.commands (node_of h n) → GoSealed n h
  as_law h is number command found (inl has) = is.0 number has command found
  as_law h is number command found (inr opened) = by (open_session (node_of h n).book) refl
    where
      by : (o : Option ℕ) → open_session (node_of h n).book ≡ o → GoesSealed command.order command.carriage
      by None none = absurd (let wrong : None ≡ Some number = sym (ap (λ (o : Option ℕ). command_by (node_of h n) o) none) ∙ opened in cc)
      by (Some session) some = is.1 session number some (sym (ap (λ (o : Option ℕ). command_by (node_of h n) o) some) ∙ opened) command found

  pub own_waits : (commands : List Command) (l : List ℕ) (number : ℕ) → All (IsCommandOf commands n) l → Has l number → IsCommandOf commands n number
  own_waits commands [] number all has = absurd has
  own_waits commands (first ∷ l) number all (inl same) = subst (IsCommandOf commands n) same (All-head (IsCommandOf commands n) first l all)
  own_waits commands (first ∷ l) number all (inr later) = own_waits commands l number (All-tail (IsCommandOf commands n) first l all) later

  -- what was so in the table before an event is so in that after it
  table_kept : (h : HostState) (event : HostEvent) → HostFacts h → Sealed_at h.commands (node_of h n) → Sealed_at (after h event).commands (node_of h n)
  table_kept h (host_accepts order carriage) facts is = (
    λ number has.
        let own = own_waits h.commands (node_of h n).waiting number (facts.owns n).waiting has in
        more_table h.commands _ number own.command own.found (is.0 number has),
    λ session number opened at.
        let own = owned h.commands n (node_of h n).book.commands session number (facts.owns n).sessions at in
        more_table h.commands _ number own.command own.found (is.1 session number opened at),
  )
  table_kept h event facts is = (
    λ number has. same_table h.commands (after h event).commands (event_kept h event tt) number (is.0 number has),
    λ session number opened at. same_table h.commands (after h event).commands (event_kept h event tt) number (is.1 session number opened at),
  )

  puts_sealed : (h : HostState) (event : HostEvent) → MayHost h event → is_secure (node_of h n).classes ≡ true → IsNear n event → PutsOf (OfTable (after h event).commands) (none_table (after h event).commands) n within h event
  puts_sealed h (host_accepts order carriage) may secure near =
      λ own. last_table h.commands _ (accepted_sealed h order carriage may (subst (λ (k : ℕ). is_secure (node_of h k).classes ≡ true) (sym own) secure) (near own))
  puts_sealed h event may secure near = tt

  host_goes : (h : HostState) (event : HostEvent) → MayHost h event → HostFacts h → is_secure (node_of h n).classes ≡ true → IsNear n event → GoSealed n h → GoSealed n (after h event)
  host_goes h event may facts secure near go =
      as_law (after h event)
      (host_on (OfTable (after h event).commands) (none_table (after h event).commands) n within h event (puts_sealed h event may secure near)
      (record { places = facts.nodes.places; is = table_kept h event facts (as_kept h go) })).is

  hosts_go : (h : HostState) (events : List HostEvent) → HostFacts h → AllByRecursion IsNoOrder events → GoSealed n h → GoSealed n (after_all h events)
  hosts_go h events facts none go =
      let kept = all_kept h events none in
      let is = as_kept h go in
      as_law (after_all h events)
      (hosts_on (OfTable (after_all h events).commands) (none_table (after_all h events).commands) n within h events none
      (record {
        places = facts.nodes.places;
        is = (
          λ number has. same_table h.commands (after_all h events).commands kept number (is.0 number has),
          λ session number opened at. same_table h.commands (after_all h events).commands kept number (is.1 session number opened at),
        );
      })).is

  pub go_sealed_on : (m : Machine) (event : Event) → IsNoStart event → May m event → HostFacts m.host.state → is_secure (node_of m.host.state n).classes ≡ true → IsNearAt n event → GoSealed n m.host.state → GoSealed n (happens m event).host.state
  unfolding happens May
  go_sealed_on m (Outside_does event) none may facts secure near go = go
  go_sealed_on m (Host_does event) none may facts secure near go = host_goes m.host.state event may.0 facts secure near go
  go_sealed_on m (Host_takes count rest items events) none may facts secure near go = hosts_go m.host.state events facts (silent_none m.host.state events (judged_silent m.host.state items events may.judged)) go
  go_sealed_on m Decoder_ticks none may facts secure near go = go
  go_sealed_on m (Refuses line refusal) none may facts secure near go = go
  go_sealed_on m (Shows_values node) none may facts secure near go = go
  go_sealed_on m (Machine_restarts state) none may facts secure near go = absurd none
