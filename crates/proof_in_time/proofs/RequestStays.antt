-- The request under way, and the sessions that have begun, at events of the host that submit nothing and begin none.
use Rattle.std.proofs.Common.{◌≡◌, ◌<◌, ℕ, ◌+◌, ◌-◌, ◌==◌, ◌&&◌, nat_lt, Bool, true, false, if◌then◌else◌, inl, inr, List, [], ◌∷◌, length, refl, sym, ap, ◌∙◌, arith}
use Rattle.std.specs.Prelude.{◌⊎◌, Option, Some, None}
use Rattle.std.specs.List.{AllByRecursion}
use Rattle.serial_frame.specs.Stream.{Rest}
use Rattle.serial_frame.specs.declared.item.Item.{Item}
use Rattle.serial_link.specs.State.{turn_ticked}
use Rattle.serial_link.specs.declared.turn.Turn.{Turn}
use Rattle.serial_link.specs.declared.turn.Turn.TheVariants.{Idle as no_turn}
use Rattle.supervision.specs.Host.{told_of}
use Rattle.supervision.specs.declared.host_node.Told.{Told}
use Rattle.supervision.specs.declared.host_node.Told.TheVariants.{Final, Old, Working}
use Rattle.host_heard.specs.Telling.{heard_at}
use Rattle.host_requests.specs.Events.{RequestsEvent, end_at, after as after_request}
use Rattle.host_requests.specs.Events.RequestsEvent.{CallsBack, Fails, IsSent, Responds, Ticks, Updates}
use Rattle.host_requests.specs.Next.{at_callback, at_response, at_sent, at_tick, at_update, next_from}
use Rattle.host_requests.specs.State.{RequestsState}
use Rattle.host_requests.specs.declared.end.End.{End}
use Rattle.host_requests.specs.declared.end.How.{How}
use Rattle.host_requests.specs.declared.end.How.TheVariants.{LinkFailed}
use Rattle.host_requests.specs.declared.next.Next.{Next}
use Rattle.host_requests.specs.declared.next.Next.TheVariants as next
use Rattle.host_requests.specs.declared.task.Purpose.{Purpose}
use Rattle.host_requests.specs.declared.task.Purpose.TheVariants.{Attempt}
use Rattle.host_requests.specs.declared.under_way.UnderWay.{UnderWay}
use Rattle.host_node.specs.State.{NodeState, has_waiting, is_idle, is_open, is_running, is_up}
use Rattle.host_node.specs.Steps.{after_again, after_again_tick, after_attempt_end, after_attempt_tick, after_attempts, after_hold_tick, after_no_more, after_occasion, after_sign, after_sleep, after_told, asleep, new_series, next_due, series_over, tried_again, wait_ticks, with_again, with_wait, without_attempt}
use Rattle.host_node.specs.Events.{NodeEvent, after as after_node}
use Rattle.host_node.specs.Events.NodeEvent.{Accepts as node_accepts, Begins as node_begins, Ends_attempt, Ends_no_more, Notifies as node_notifies, Reports, Restarts, Sleeps, Starts as node_starts, Succeeds, Ticks as node_ticks}
use Rattle.host_node.specs.declared.attempt.Moment.{Moment}
use Rattle.host_node.specs.declared.attempt.Moment.TheVariants.{BetweenTicks}
use Rattle.host_node.specs.declared.no_more.NoMore.TheVariants.{Unasked}
use Rattle.host_model.specs.After.{after, failing_if, gives_up, line_ticked, requests_do}
use Rattle.host_model.specs.Did.{after_all}
use Rattle.host_model.specs.Ends.{Bad, Good, PartEnd, Passed_over, part_end}
use Rattle.host_model.specs.Events.{HostEvent, Begins, Gives_segment, Gives_text, Hears, Interview_unkept, Interviews, Line_ticks, Requests_do, Starts, Submits_abort, Submits_front}
use Rattle.host_model.specs.State.{HostState, node_of}
use Rattle.world_model.specs.Events.{Host_takes, May}
use Rattle.world_model.specs.State.{Machine}
use Rattle.proof_answered.specs.proof_calm.proof_work.Doing.{IsTold}
use Rattle.proof_answered.specs.proof_calm.Settling.{HasMoved, IsDone}
use Rattle.proof_answered.specs.proof_calm.Tied.{TieOf, unheard}
use Rattle.proof_answered.proofs.Ending.{OfHost}
use Rattle.proof_answered.proofs.Followed.{FollowersAre, payload_all}
use Rattle.proof_answered.proofs.Following.{IsApart, apart_kept, end_if_kept, kept}
use Rattle.proof_answered.proofs.Judging.{AnyFrame, EachFollows, any_frames}
use Rattle.proof_answered.proofs.Peopled.{takes_are}
use Rattle.proof_answered.proofs.proof_traffic_Parts.{Airs}
use Rattle.proof_answered.proofs.NodeSteps.{AllowsAt, AllowsEnd, AllowsEndIf, AllowsPart, IsAside, IsFree, event_is}
use Rattle.proof_answered.proofs.SleeperHosts.{PlaceIs, each_place}

-- ---- the sessions of a node, and the segments of its attempt

-- no session begins, no attempt starts, nor does the host start again
abbrev KeepsBook : NodeEvent → Type 0
KeepsBook node_begins = ⊥
KeepsBook (node_starts plan) = ⊥
KeepsBook Restarts = ⊥
KeepsBook event = Unit {0}

module _ (sessions : List ℕ) (count : ℕ) where
  -- these are the sessions of a node, and its attempt has so many segments, or none
  abbrev Had : NodeState → Type 0
  Had x = (x.book.commands ≡ sessions) × ((x.segments ≡ 0) ⊎ (x.segments ≡ count))

  either_had : (b : Bool) (x y : NodeState) → Had x → Had y → Had (if b then x else y)
  either_had true x y first later = first
  either_had false x y first later = later

  occasion_had : (x : NodeState) → Had x → Had (after_occasion x)
  occasion_had x had = either_had (is_open x && is_up x && is_idle x.series) (new_series x) x had had

  sleep_had : (x : NodeState) → Had x → Had (after_sleep x)
  sleep_had x had = either_had x.listens x (asleep x) had had

  sign_had : (x : NodeState) → Had x → Had (after_sign x)
  sign_had x had = either_had (is_running x.series) (with_wait x wait_ticks) x had had

  attempts_had : (x : NodeState) (attempts : ℕ) (moment : Moment) → Had x → Had (after_attempts x attempts moment)
  attempts_had x attempts moment had = either_had (nat_lt attempts 3) (next_due x attempts) (after_sleep (series_over x attempts moment)) had (sleep_had (series_over x attempts moment) had)

  end_had : (x : NodeState) (moment : Moment) → Had x → Had (after_attempt_end x moment)
  end_had x moment had =
      either_had (is_running x.series) (after_attempts (without_attempt x) (x.book.attempts + 1) moment) x (attempts_had (without_attempt x) (x.book.attempts + 1) moment (had.0, inl refl)) had

  again_had : (x : NodeState) → Had x → Had (after_again x)
  again_had x had = either_had (has_waiting x) (after_occasion x) x (occasion_had x had) had

  again_tick_had : (x : NodeState) → Had x → Had (after_again_tick x)
  again_tick_had x had = either_had (x.again_wait == 1) (after_again (with_again x 0)) (with_again x (x.again_wait - 1)) (again_had (with_again x 0) had) had

  attempt_tick_had : (x : NodeState) → Had x → Had (after_attempt_tick x)
  attempt_tick_had x had = either_had (x.attempt_wait == 1) (after_attempt_end x BetweenTicks) (with_wait x (x.attempt_wait - 1)) (end_had x BetweenTicks had) had

  told_had : (x : NodeState) (status : ℕ) (it : Told) → Had x → Had (after_told x status it)
  told_had x status (Final session) had = (had.0, inl refl)
  told_had x status Working had = sign_had x had
  told_had x status Old had = had

  node_had : (x : NodeState) (event : NodeEvent) → KeepsBook event → Had x → Had (after_node x event)
  node_had x node_accepts keeps had = occasion_had x had
  node_had x node_begins keeps had = absurd keeps
  node_had x (node_starts plan) keeps had = absurd keeps
  node_had x Succeeds keeps had = sign_had x had
  node_had x (Ends_attempt moment) keeps had = end_had x moment had
  node_had x (Reports id status) keeps had = told_had x status (told_of x.book id status) had
  node_had x node_notifies keeps had = occasion_had (record x { awake = true; no_more = tried_again x.no_more }) had
  node_had x Sleeps keeps had = sleep_had x had
  node_had x Ends_no_more keeps had = sleep_had (after_no_more x Unasked) had
  node_had x node_ticks keeps had = attempt_tick_had (after_again_tick (after_hold_tick x)) (again_tick_had (after_hold_tick x) had)
  node_had x Restarts keeps had = absurd keeps
  node_had x event keeps had = had

-- so at each event of the host at which none begins
abbrev KeepsAny : ℕ → NodeState → NodeEvent → Type 0
KeepsAny n x event = KeepsBook event

free_keeps : (n : ℕ) (x : NodeState) (event : NodeEvent) → IsFree event → KeepsAny n x event
free_keeps n x node_begins free = absurd free
free_keeps n x (node_starts plan) free = absurd free
free_keeps n x Restarts free = absurd free
free_keeps n x event free = tt

aside_keeps : (x : NodeState) (event : NodeEvent) → IsAside event → KeepsBook event
aside_keeps x node_begins aside = absurd aside
aside_keeps x (node_starts plan) aside = absurd aside
aside_keeps x Restarts aside = absurd aside
aside_keeps x event aside = tt

part_keeps : (h : HostState) (k : ℕ) (end : PartEnd) (moment : Moment) → AllowsPart KeepsAny k (node_of h k) end moment
part_keeps h k Good moment = tt
part_keeps h k Passed_over moment = tt
part_keeps h k Bad moment = tt

end_keeps : (h : HostState) (purpose : Purpose) (how : How) (moment : Moment) → AllowsEnd KeepsAny h purpose how moment
end_keeps h (Attempt k more payload) how moment = part_keeps h k (part_end more how) moment
end_keeps h purpose how moment = tt

end_if_keeps : (h : HostState) (end : Option End) (moment : Moment) → AllowsEndIf KeepsAny h end moment
end_if_keeps h None moment = tt
end_if_keeps h (Some end) moment = end_keeps h end.purpose end.how moment

-- ---- an event of the host

-- it begins no session, and starts no attempt; and where the line counts a tick, no frame of the host's own is on it
abbrev BeginsNone : HostState → HostEvent → Type 0
BeginsNone h (Begins n session command) = ⊥
BeginsNone h (Starts n plan more payload) = ⊥
BeginsNone h Line_ticks = h.side.turn ≡ no_turn
BeginsNone h event = Unit {0}

none_begins : (h : HostState) (event : HostEvent) → BeginsNone h event → AllowsAt KeepsAny h event
none_begins h (Requests_do event moment) none = end_if_keeps h (end_at h.requests event) moment
none_begins h (Begins k session command) none = absurd none
none_begins h (Starts k plan more payload) none = absurd none
none_begins h Line_ticks none = none
none_begins h event none = tt

-- those of a node of it, or no segments
abbrev Was : HostState → ℕ → NodeState → Type 0
Was h n x = Had (node_of h n).book.commands (node_of h n).segments x

-- the table has as many nodes, and so it is of each
had_on : (h : HostState) (event : HostEvent) → length h.nodes ≡ 233 → BeginsNone h event → (n : ℕ) → n < 233 → PlaceIs (Was h n) n (after h event).nodes
had_on h event places none n within =
    event_is KeepsAny (PlaceIs (Was h n) n) free_keeps
    (λ nodes k one keeps at. each_place (Was h n) (λ x e. KeepsBook e) aside_keeps (node_had (node_of h n).book.commands (node_of h n).segments) n within nodes k one (λ same. keeps) at) h event (none_begins h event none)
    (record { places = places; is = (refl, inr refl) })

-- ---- from one host to another

-- the request that is under way in the second was in the first, the sessions of each node are the same, and its attempt has as many segments, or none
pub record GoesSteady (h g : HostState) : Type 0 where
  pub request : (v : UnderWay) → g.requests.under_way ≡ Some v → (u : UnderWay) × ((h.requests.under_way ≡ Some u) × (v.purpose ≡ u.purpose))
  pub places : length g.nodes ≡ 233
  pub sessions : (n : ℕ) → n < 233 → (node_of g n).book.commands ≡ (node_of h n).book.commands
  pub segments : (n : ℕ) → n < 233 → ((node_of g n).segments ≡ 0) ⊎ ((node_of g n).segments ≡ (node_of h n).segments)

pub steady_still : (h g : HostState) → g ≡ h → length h.nodes ≡ 233 → GoesSteady h g
steady_still h g same places = record {
  request = λ v is. (v, (sym (ap (λ (k : HostState). k.requests.under_way) same) ∙ is, refl));
  places = ap (λ (k : HostState). length k.nodes) same ∙ places;
  sessions = λ n within. ap (λ (k : HostState). (node_of k n).book.commands) same;
  segments = λ n within. inr (ap (λ (k : HostState). (node_of k n).segments) same);
}

fewer_then : (a b c : ℕ) → (b ≡ 0) ⊎ (b ≡ a) → (c ≡ 0) ⊎ (c ≡ b) → (c ≡ 0) ⊎ (c ≡ a)
fewer_then a b c first (inl none) = inl none
fewer_then a b c (inl none) (inr same) = inl (same ∙ none)
fewer_then a b c (inr as_many) (inr same) = inr (same ∙ as_many)

steady_then : (h g k : HostState) → GoesSteady h g → GoesSteady g k → GoesSteady h k
steady_then h g k first later = record {
  request = λ v is. let at = later.request v is in let before = first.request at.0 at.1.0 in (before.0, (before.1.0, at.1.1 ∙ before.1.1));
  places = later.places;
  sessions = λ n within. later.sessions n within ∙ first.sessions n within;
  segments = λ n within. fewer_then (node_of h n).segments (node_of g n).segments (node_of k n).segments (first.segments n within) (later.segments n within);
}

-- what comes next of a request
next_request : (s : RequestsState) (step : UnderWay → Next) (v : UnderWay) → (next_from s step s.under_way).under_way ≡ Some v → (u : UnderWay) × ((s.under_way ≡ Some u) × (v.purpose ≡ u.purpose))
next_request s step v is = by s.under_way refl is
  where
    went : (u : UnderWay) (to : Next) → s.under_way ≡ Some u → (next_from s (λ (w : UnderWay). to) (Some u)).under_way ≡ Some v → (w : UnderWay) × ((s.under_way ≡ Some w) × (v.purpose ≡ w.purpose))
    went u (next.GoesOn progress) was now = let same : record { purpose = u.purpose; progress = progress } ≡ v = cc in (u, (was, ap (λ (w : UnderWay). w.purpose) (sym same)))
    went u (next.Ends how) was now = absurd (let no : None ≡ Some v = now in cc)

    by : (under_way : Option UnderWay) → s.under_way ≡ under_way → (next_from s step under_way).under_way ≡ Some v → (u : UnderWay) × ((s.under_way ≡ Some u) × (v.purpose ≡ u.purpose))
    by None was now = absurd (let no : None ≡ Some v = sym was ∙ now in cc)
    by (Some u) was now = went u (step u) was now

-- where they are told of something
told_request : (s : RequestsState) (event : RequestsEvent) (v : UnderWay) → IsTold event → (after_request s event).under_way ≡ Some v → (u : UnderWay) × ((s.under_way ≡ Some u) × (v.purpose ≡ u.purpose))
told_request s IsSent v told is = next_request s at_sent v is
told_request s Fails v told is = next_request s (λ u. next.Ends LinkFailed) v is
told_request s (Responds response) v told is = next_request s (at_response response) v is
told_request s (CallsBack id status) v told is = next_request s (at_callback s.last_id id status) v is
told_request s (Updates update) v told is = next_request s (at_update s.first update) v is
told_request s Ticks v told is = next_request s at_tick v is
told_request s event v told is = absurd told

-- one that goes on so
abbrev pub IsSteady : HostState → HostEvent → Type 0
IsSteady h (Requests_do event moment) = IsTold event
IsSteady h (Hears item) = Unit {0}
IsSteady h Line_ticks = h.side.turn ≡ no_turn
IsSteady h (Begins n session command) = ⊥
IsSteady h event = IsApart event

steady_begins : (h : HostState) (event : HostEvent) → IsSteady h event → BeginsNone h event
steady_begins h (Begins n session command) steady = absurd steady
steady_begins h (Starts n plan more payload) steady = absurd steady
steady_begins h Line_ticks steady = steady
steady_begins h event steady = tt

kept_request : (h g : HostState) → kept g ≡ kept h → (v : UnderWay) → g.requests.under_way ≡ Some v → (u : UnderWay) × ((h.requests.under_way ≡ Some u) × (v.purpose ≡ u.purpose))
kept_request h g same v is = (v, (sym (ap (λ (k : OfHost). k.1) same) ∙ is, refl))

line_request : (h : HostState) → h.side.turn ≡ no_turn → (v : UnderWay) → (after h Line_ticks).requests.under_way ≡ Some v → (u : UnderWay) × ((h.requests.under_way ≡ Some u) × (v.purpose ≡ u.purpose))
line_request h idle v is = (v, (sym (still h idle) ∙ is, refl))
  where
    still : (k : HostState) → k.side.turn ≡ no_turn → (after k Line_ticks).requests.under_way ≡ k.requests.under_way
    still k none = ap (λ (t : Turn). (failing_if (gives_up t (turn_ticked t)) (line_ticked k)).requests.under_way) none

one_request : (h : HostState) (event : HostEvent) → IsSteady h event → (v : UnderWay) → (after h event).requests.under_way ≡ Some v → (u : UnderWay) × ((h.requests.under_way ≡ Some u) × (v.purpose ≡ u.purpose))
one_request h (Requests_do event moment) steady v is =
    told_request h.requests event v steady (sym (ap (λ (k : OfHost). k.1) (end_if_kept (requests_do h event) (end_at h.requests event) moment)) ∙ is)
one_request h (Hears item) steady v is = (v, (is, refl))
one_request h Line_ticks steady v is = line_request h steady v is
one_request h (Begins n session command) steady v is = absurd steady
one_request h (Interviews n listens classes update) steady v is = absurd steady
one_request h (Interview_unkept n update) steady v is = absurd steady
one_request h Submits_abort steady v is = absurd steady
one_request h Submits_front steady v is = absurd steady
one_request h (Starts n plan more payload) steady v is = absurd steady
one_request h (Gives_text n payload) steady v is = absurd steady
one_request h (Gives_segment n more payload) steady v is = absurd steady
one_request h event steady v is = kept_request h (after h event) (apart_kept h event steady) v is

pub steady_on : (h : HostState) (event : HostEvent) → length h.nodes ≡ 233 → IsSteady h event → GoesSteady h (after h event)
steady_on h event places steady = record {
  request = one_request h event steady;
  places = (had_on h event places (steady_begins h event steady) 0 (omega arith)).places;
  sessions = λ n within. (had_on h event places (steady_begins h event steady) n within).is.0;
  segments = λ n within. (had_on h event places (steady_begins h event steady) n within).is.1;
}

-- ---- what the host judges

-- an event that follows a frame
abbrev IsFollower : HostEvent → Type 0
IsFollower (Requests_do event moment) = IsTold event
IsFollower (Hears item) = Unit {0}
IsFollower Line_ticks = ⊥
IsFollower (Begins n session command) = ⊥
IsFollower event = IsApart event

follower_steady : (h : HostState) (event : HostEvent) → IsFollower event → IsSteady h event
follower_steady h Line_ticks is = absurd is
follower_steady h event is = is

all_steady : (h : HostState) (events : List HostEvent) → AllByRecursion IsFollower events → length h.nodes ≡ 233 → GoesSteady h (after_all h events)
all_steady h [] all places = steady_still h h refl places
all_steady h (event ∷ events) all places =
    let one = steady_on h event places (follower_steady h event all.0) in
    steady_then h (after h event) (after_all (after h event) events) one (all_steady (after h event) events all.1 one.places)

followers : (n : ℕ) → FollowersAre IsFollower n
followers n = record {
  unread = λ payload. tt;
  unkept = tt;
  old = λ id. tt;
  works = λ id. tt;
  finishes = λ session id command status wake. tt;
  offers = tt;
  gives = λ drawn. tt;
  spends = tt;
  in_vain = λ payload. tt;
  takes = λ seen text. tt;
  resends = λ payload. tt;
  hears = λ setting. tt;
  no_room = λ property. tt;
}

each_steady : (joined : List Bool) → EachFollows IsFollower AnyFrame joined
each_steady joined = record {
  hears = λ item. tt;
  told = λ event told. told;
  brings = λ h n payload events member says is. payload_all IsFollower n (followers n) h payload (heard_at payload) events (λ tells. tt) is;
}

pub takes_steady : (airs : Airs) (b : Bool) (passes : ℕ) (m : Machine) (rest : Rest) (items : List Item) (events : List HostEvent) → May m (Host_takes (length m.outside.outer.to_host.bytes) rest items events)
    → IsDone m ⊎ HasMoved b passes m → TieOf true m [] → length m.host.state.nodes ≡ 233 → GoesSteady m.host.state (after_all m.host.state events)
takes_steady airs b passes m rest items events may at tie places =
    all_steady m.host.state events
    (takes_are IsFollower AnyFrame airs b passes m rest items events (each_steady m.outside.outer.chip.state.joined) may at tie (any_frames (unheard m.outside.outer))) places
