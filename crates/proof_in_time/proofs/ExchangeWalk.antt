-- The sealed exchange with a lock alone goes on, from phase to phase, as long as the attempt runs: within as many ticks as are left the host has heard the report.
use Rattle.std.proofs.Common.{◌≡◌, ◌≢◌, ◌≤◌, ◌<◌, ℕ, suc, ◌+◌, inl, inr, Bool, false, nat_lt, Some, None, List, [], ◌∷◌, ◌++◌, length, refl, sym, ap, ◌∙◌, subst, append_assoc, arith}
use Rattle.std.proofs.lemmas.Bool.Decides.{nat_tests}
use Rattle.std.specs.Prelude.{◌⊎◌, Option}
use Rattle.std.specs.List.{AllByRecursion}
use Rattle.zw_base.proofs.Each.{all-left}
use Rattle.zw_text.specs.declared.line.Line.{Line}
use Rattle.serial_frame.specs.Frame.{FrameParts}
use Rattle.serial_frame.specs.Stream.{Rest}
use Rattle.serial_frame.specs.declared.item.Item.{Item}
use Rattle.serial_link.specs.declared.turn.Turn.TheVariants.{Idle as no_turn}
use Rattle.class_info.specs.InfoSpelling.{form}
use Rattle.class_info.specs.declared.message.InfoMessage.TheVariants.{NonceGet}
use Rattle.s0_crypto.specs.Sealing.{sealed_text}
use Rattle.s0_crypto.specs.declared.key_pair.Keys.{Keys}
use Rattle.s0_session.specs.declared.account.Account.{Account}
use Rattle.supervision.specs.Host.{begun_of, open_session}
use Rattle.chip_functions.specs.Field.{IsNode}
use Rattle.device_sim.specs.Event.{DeviceEvent, device_after, device_replies}
use Rattle.device_sim.specs.State.{State}
use Rattle.host_node.specs.State.{NodeState, has_segment}
use Rattle.host_node.specs.Steps.{after_start}
use Rattle.host_node.specs.declared.attempt.Plan.{Plan}
use Rattle.host_node.specs.declared.series.Series.TheVariants as series
use Rattle.host_orders.specs.Wrapping.{form_of}
use Rattle.host_orders.specs.declared.carriage.Form.TheVariants.{Cut, Sealed}
use Rattle.host_requests.specs.Events.RequestsEvent.{Ticks as request_ticks}
use Rattle.host_requests.specs.declared.task.Task.TheVariants as task
use Rattle.host_node.specs.declared.attempt.Moment.TheVariants.{BeforeItsTick}
use Rattle.host_model.specs.Did.{MayAll as MayAllHost, after_all}
use Rattle.host_model.specs.Events.{HostEvent, Accepts, Line_ticks, Node_ticks, Requests_do, Starts}
use Rattle.host_model.specs.Facts.{HasSegments, HostFacts}
use Rattle.host_model.specs.May.{IsStart, May as MayHost}
use Rattle.host_model.specs.Pumping.{IsNext}
use Rattle.host_model.specs.State.{HostState, node_of}
use Rattle.host_model.specs.Taking.{ends_from}
use Rattle.host_model.specs.Sessions.{command_by, open_command}
use Rattle.host_model.proofs.Submitted.{SubmittedAre, next_is as submitted_is}
use Rattle.outside_model.specs.Events.{Arrives, Begins_line, Begins_tick, Chip_takes, Chip_ticks, Cuts, Device_ticks, Gives, OuterEvent, Shows as shows_by_hand, Wakes_device}
use Rattle.world_model.specs.Events.{Decoder_ticks, Event, Host_does, Host_takes, May, Outside_does, Refuses, Shows_values, happens}
use Rattle.world_model.specs.State.{Machine}
use Rattle.proof_spoken.specs.proof_device.GoingOn.{AreSame, IsSame}
use Rattle.proof_messages.specs.Locks.{Ignores, IsLock, IsUnheard}
use Rattle.proof_course_plain.proofs.ChangesOutside.{place_is}
use Rattle.proof_course_plain.proofs.HostEvents.{open_is}
use Rattle.proof_course_plain.proofs.Replies.{one_place, one_stands}
use Rattle.proof_course_sealed.specs.Labels.{Held}
use Rattle.proof_course_sealed.specs.Lock.{AtLock}
use Rattle.proof_course_sealed.specs.Meaning.{NodeMeans}
use Rattle.proof_answered.specs.Heard.{AllSayHeard, SaysHeard}
use Rattle.proof_answered.specs.Sleepers.{IsAlone}
use Rattle.proof_answered.specs.Workers.{IsFrom}
use Rattle.proof_answered.specs.proof_calm.Passes.{frames_in}
use Rattle.proof_answered.specs.proof_calm.Resting.{IsEffect, LineAt}
use Rattle.proof_answered.specs.proof_calm.Awaited.{AwaitsAt}
use Rattle.proof_answered.specs.proof_calm.Tied.{All, IsNodeTick, IsTied, Nodes, Request, TickLeft, TieAt, unheard}
use Rattle.proof_answered.specs.proof_calm.proof_work.proof_walk.Phases.{Phase, Arriving, Between, Doing, Giving, Goes, Moved, Moving, Said_line, Sleeping, Submitting, Ticking_chip, Ticking_decoder, Ticking_devices, Ticking_host, To_tick, Turns}
use Rattle.proof_answered.proofs.Listeners.{same_place, stands_now}
use Rattle.proof_answered.proofs.proof_traffic_Parts.{Airs}
use Rattle.proof_in_time.specs.Coming.{Has, IsKept, brings, own_ticks}
use Rattle.proof_in_time.specs.Exchange.{EndsForLive, Exchange, Gets, GoesHome, HearsOut, IsCounted, IsElse, IsForLive, IsThere, IsUnheardAt, Nonces, Offers, OffersLive, OutAlone, ReportWaits, Reports, SameLock, Seals, Shows, ShowsLive, TextWaits, Texts, Wants}
use Rattle.proof_in_time.specs.Exchanging.{GoSealed, RestsSealed, WaitsSealed}
use Rattle.proof_in_time.specs.Owed.{IsOwed}
use Rattle.proof_in_time.specs.Reporting.{IsOver}
use Rattle.proof_in_time.specs.SealedHosts.{GoesSealed, HasSubmitted}
use Rattle.proof_in_time.proofs.Bounded.{begun_where, fewer, open_where, waits_none}
use Rattle.proof_in_time.proofs.ExchangeFits.{ends_fits, get_fits, shows_fits}
use Rattle.proof_in_time.proofs.ExchangeGiven.{get_given}
use Rattle.proof_in_time.proofs.ExchangeHome.{Idles, IsApartAt, Judges, NoneJudged, NoneJudgedAt, TakesHomeAt}
use Rattle.proof_in_time.proofs.ExchangeHosts.{exchange_submits}
use Rattle.proof_in_time.proofs.ExchangeJudged.{FactsLaw, OffersThen, RunsOn, SealsThen, asked_taken, ends_at, offers_end, queue_end, ran, report_taken, seals_end, shown_taken, taken_places}
use Rattle.proof_in_time.proofs.ExchangeKept.{HasLeft}
use Rattle.proof_in_time.proofs.ExchangeOwed.{AroundSealed, never_left, taken_owed}
use Rattle.proof_in_time.proofs.ExchangeOwedHost.{AsideLaw, Besides, StaysFor, event_stays, quiet_stays, same_stays}
use Rattle.proof_in_time.proofs.ExchangeRests.{does_none, silent_on}
use Rattle.proof_in_time.proofs.ExchangeRuns.{RunsQuietly, SaysCalm, apart_runs, calm_frames, follow_both, submitted_runs}
use Rattle.proof_in_time.proofs.ExchangeStays.{for_live_stays, lock_same, report_waits_stay, shows_stay}
use Rattle.proof_in_time.proofs.ExchangeSteps.{Laws, get_answered, goes_also, nonce_answered, text_answered}
use Rattle.proof_in_time.proofs.ExchangeWays.{home_left, home_on, home_said, home_turn, none_on, out_left, out_now, out_on, out_said, out_turn, owed_silent}
use Rattle.proof_in_time.proofs.FarWaits.{FarBeside, SubmitsBeside, WaitThen, goes_far, left_as, no_more, not_last}
use Rattle.proof_in_time.proofs.InTurn.{GoesByItself, has_in, left_of, owed_stays, owed_turn}
use Rattle.proof_in_time.proofs.JudgedAmong.{AllQuiet, Among, BringsNothing, follows_quietly, nothing_brought, other_parts, units_among, units_follow}
use Rattle.proof_in_time.proofs.Lasting.{KeepsAll, most_then}
use Rattle.proof_in_time.proofs.LockLabels.{Laws as LabelLaws, live_counted, told_means}
use Rattle.proof_in_time.proofs.PartsArrived.{outside_host}
use Rattle.proof_in_time.proofs.PartsCalm.{Calm as IsCalm, HasPlaces, Runs}
use Rattle.proof_in_time.proofs.NodeWaits.{IsBeside}
use Rattle.proof_in_time.proofs.PartsDue.{IsStarted, started_so}
use Rattle.proof_in_time.proofs.PartsGoing.{TiedThen, refuses_host, values_host}
use Rattle.proof_in_time.proofs.PartsHosted.{host_then}
use Rattle.proof_in_time.proofs.PartsRuns.{RunsAt}
use Rattle.proof_in_time.proofs.SealedHosts.{IsAsked, Takes, get_starts}
use Rattle.proof_in_time.proofs.SealedReports.{Opens}
use Rattle.proof_in_time.specs.Parts.{Amid}

-- what is proved of hosts, of locks, and of devices
pub record SealedLaws : Type 0 where
  pub aside : AsideLaw
  pub facts : FactsLaw
  pub takes : Takes
  pub asked : IsAsked
  pub opens : Opens
  pub lock : Laws
  pub hears : (device : State) (event : DeviceEvent) → IsLock device → IsUnheard event → Ignores device (device_after device event) (device_replies device event)
  pub labels : LabelLaws
  pub same : (m : Machine) (event : Event) → AreSame m.outside.devices (happens m event).outside.devices

-- ---- as many ticks as are left

few_then : (k later left : ℕ) (here : Phase) → HasLeft later here → later + k ≤ left → most_then later here + k ≤ most_then left here
few_then k later left (To_tick (suc ticks)) some few = omega (arith, some, few)
few_then k later left here some few = few

none_then : (later left : ℕ) (here : Phase) → HasLeft later here → later ≤ left → most_then later here ≤ most_then left here
none_then later left (To_tick (suc ticks)) some few = omega (arith, some, few)
none_then later left here some few = few

left_then : (k later left : ℕ) (here : Phase) → HasLeft later here → later + k ≤ left → k ≤ most_then left here
left_then k later left (To_tick (suc ticks)) some few = omega (arith, some, few)
left_then k later left here some few = omega (arith, few)

owed_left : (k left : ℕ) (here : Phase) (m : Machine) → IsOwed here m → k ≤ left → k ≤ most_then left here
owed_left k left (To_tick ticks) m owed few = absurd owed
owed_left k left here m owed few = few

-- ---- the host of an event

decoder_host : (m : Machine) → (happens m Decoder_ticks).host.state ≡ m.host.state
unfolding happens
decoder_host m = refl

takes_may : (m : Machine) (count : ℕ) (rest : Rest) (items : List Item) (events : List HostEvent) → May m (Host_takes count rest items events) → MayAllHost m.host.state events
unfolding May
takes_may m count rest items events may = may.may

module _ (airs : Airs) (laws : SealedLaws) (these : List Bool) (many : length these ≡ 233) (n : ℕ) (alone : IsAlone these n) (is_node : IsNode n) where
  below : n < 233
  below = let few = is_node.1 in omega (arith, few)

  -- ---- what the host has stays

  abbrev StaysThen : Machine → Event → Type 0
  StaysThen m event = Runs n (happens m event).host.state → NoneJudgedAt n m event → StaysFor n m.host.state (happens m event).host.state

  as_event : (m : Machine) (event is : Event) → event ≡ is → StaysThen m is → StaysThen m event
  as_event m event is same stays = subst (StaysThen m) (sym same) stays

  outside_stays : (m : Machine) (event : OuterEvent) → StaysThen m (Outside_does event)
  outside_stays m event run none = same_stays n m.host.state (happens m (Outside_does event)).host.state (outside_host m event)

  does_stays : (m : Machine) (event : HostEvent) → Besides m.host.state event → HasPlaces m.host.state → StaysThen m (Host_does event)
  does_stays m event is places run none = subst (StaysFor n m.host.state) (sym (host_then m event)) (event_stays laws.aside n below m.host.state event is places (subst (Runs n) (host_then m event) run))

  effect_stays : (m : Machine) (event : Event) → IsEffect event → HasPlaces m.host.state → StaysThen m event
  effect_stays m (Outside_does (Wakes_device node route)) is places = outside_stays m (Wakes_device node route)
  effect_stays m (Outside_does (shows_by_hand node)) is places = outside_stays m (shows_by_hand node)
  effect_stays m (Outside_does (Cuts size)) is places = outside_stays m (Cuts size)
  effect_stays m (Host_does (Accepts order carriage)) is places = does_stays m (Accepts order carriage) tt places
  effect_stays m (Refuses of refusal) is places = λ run none. same_stays n m.host.state (happens m (Refuses of refusal)).host.state (refuses_host m of refusal)
  effect_stays m (Shows_values node) is places = λ run none. same_stays n m.host.state (happens m (Shows_values node)).host.state (values_host m node)
  effect_stays m (Outside_does event) is places = absurd is
  effect_stays m (Host_does event) is places = absurd is
  effect_stays m event is places = absurd is

  tick_besides : (counted : Bool) (h : HostState) (first : HostEvent) (events : List HostEvent) → TickLeft counted (first ∷ events) → h.side.turn ≡ no_turn → Besides h first
  tick_besides counted h first events (All nodes are is none) turn = let one : first ≡ Line_ticks = cc in subst (Besides h) (sym one) turn
  tick_besides counted h first events (Request nodes are is none) turn = let one : first ≡ Requests_do request_ticks BeforeItsTick = cc in subst (Besides h) (sym one) tt
  tick_besides counted h first events (Nodes nodes done) turn = by first nodes.0
    where
      by : (event : HostEvent) → IsNodeTick event → Besides h event
      by (Node_ticks k) is = tt
      by event is = absurd is

  -- so where it judges none of the lock
  judged_stays : (m : Machine) (count : ℕ) (rest : Rest) (items : List Item) (events : List HostEvent) → AllByRecursion (IsFrom these) (unheard m.outside.outer) → HasPlaces m.host.state → StaysThen m (Host_takes count rest items events)
  judged_stays m count rest items events from places run calm = by calm
    where
      by : NoneJudged n m (happens m (Host_takes count rest items events)) events → StaysFor n m.host.state (happens m (Host_takes count rest items events)).host.state
      by (Idles same) = same_stays n m.host.state (happens m (Host_takes count rest items events)).host.state same
      by (Judges units waiting plain told judged tied none host) =
          let s = m.outside.outer.chip.state in
          let nothing = nothing_brought these n alone.only (frames_in units) (all-left (IsFrom these) (frames_in units) waiting (subst (AllByRecursion (IsFrom these)) told from)) none in
          let quiet = units_follow AllQuiet BringsNothing s (follows_quietly s.joined) m.host.state units waiting events plain judged tied nothing in
          subst (StaysFor n m.host.state) (sym host) (quiet_stays laws.aside n below m.host.state events quiet places (subst (Runs n) host run))

  host_stays : (here next : Phase) (m : Machine) (event : Event) → Goes here m event next → GoesByItself here → AroundSealed these n here next m event → Runs n (happens m event).host.state → NoneJudgedAt n m event → StaysFor n m.host.state (happens m event).host.state
  host_stays (Said_line line) next m event (is, to) itself a = as_event m event _ is (outside_stays m Begins_line)
  host_stays (Doing line (first ∷ es)) next m event (is, to) itself a = as_event m event first is (effect_stays m first a.lock.line.0.0 a.lock.peopled.facts.nodes.places)
  host_stays (To_tick (suc ticks)) next m event (is, to) itself a = as_event m event _ is (outside_stays m Begins_tick)
  host_stays (Arriving (suc frames) ticks) next m event (drawn, route, is, to) itself a = as_event m event _ is (outside_stays m (Arrives drawn route))
  host_stays (Giving (suc results) ticks) next m event (route, is, to) itself a = as_event m event _ is (outside_stays m (Gives route))
  host_stays (Ticking_devices place (suc count) ticks) next m event (drawn, route, is, to) itself a = as_event m event _ is (outside_stays m (Device_ticks place drawn route))
  host_stays (Ticking_chip ticks) next m event (is, to) itself a = as_event m event _ is (outside_stays m Chip_ticks)
  host_stays (Ticking_decoder ticks) next m event (is, to) itself a = as_event m event _ is (λ run none. same_stays n m.host.state (happens m Decoder_ticks).host.state (decoder_host m))
  host_stays (Ticking_host (first ∷ events) ticks) next m event (is, to) itself a =
      as_event m event _ is (does_stays m first (tick_besides a.lock.tie.counted m.host.state first events a.lock.tie.left a.lock.line.1.at_host.turn_is) a.lock.peopled.facts.nodes.places)
  host_stays (Sleeping passes ticks) next m event (k, wants, is, to) itself a = absurd (a.wants k wants)
  host_stays (Submitting passes ticks) next m event goes itself a = absurd itself
  host_stays (Moving passes ticks) next m event (rest, ways, is, to) itself a = as_event m event _ is (outside_stays m (Chip_takes (length m.outside.outer.to_chip.bytes) rest ways))
  host_stays (Moved b passes ticks) next m event (rest, items, done, is, to) itself a =
      as_event m event _ is (judged_stays m (length m.outside.outer.to_host.bytes) rest items done a.lock.speak.pending a.lock.peopled.facts.nodes.places)
  host_stays here next m event goes itself a = absurd goes

  -- ---- at an event at which the host submits nothing

  module _ (here next : Phase) (m : Machine) (event : Event) (goes : Goes here m event next) (itself : GoesByItself here) (a : AroundSealed these n here next m event) (running : Runs n m.host.state)
      (lasts : (node_of m.host.state n).attempt_wait ≢ 1) where
    abbrev begun : ℕ
    begun = begun_of (node_of m.host.state n).book

    some : 1 ≤ begun_of (node_of m.host.state n).book
    some = begun_where (node_of m.host.state n) (a.lock.peopled.facts.nodes.facts n) running

    opened : open_session (node_of m.host.state n).book ≡ Some (begun_of (node_of m.host.state n).book)
    opened = open_where (node_of m.host.state n) (a.lock.peopled.facts.nodes.facts n) running

    runs : RunsAt n begun m.host.state.nodes
    runs = record { places = a.lock.peopled.facts.nodes.places; opened = opened; running = running }

    -- where nothing of the lock is judged the attempt runs on, and what the host has stays
    run_apart : NoneJudgedAt n m event → Runs n (happens m event).host.state
    run_apart none = (apart_runs n begun below these alone.only here next m event goes itself a lasts none runs).running

    stays : NoneJudgedAt n m event → StaysFor n m.host.state (happens m event).host.state
    stays none = host_stays here next m event goes itself a (run_apart none) none

    -- the first device of the node
    there_then : IsThere n m.outside.devices → IsThere n (happens m event).outside.devices
    there_then at =
        let all = laws.same m event in
        let new = stands_now IsSame m.outside.devices (happens m event).outside.devices all at.place at.device at.stands in
        record { place = at.place; device = new.0; first = same_place n m.outside.devices (happens m event).outside.devices all ∙ at.first; stands = new.1.0 }

    same_then : IsUnheardAt n m event → (at : IsThere n m.outside.devices) → SameLock at.device (there_then at).device
    same_then none at = lock_same laws.hears n m event a.lock.step none at (there_then at)

    -- it is the lock
    own : (at : IsThere n m.outside.devices) → a.lock.step.follows.outside.mesh.device.device ≡ at.device
    own at =
        let has = a.lock.step.follows.outside.mesh.device in
        one_stands m.outside.devices has.place at.place has.device at.device has.stands at.stands (one_place n m.outside.devices has.place at.place has.first at.first)

    at_lock : (at : IsThere n m.outside.devices) → AtLock a.lock.step.past a.lock.step.courses at.device
    at_lock at = subst (λ (device : State). AtLock a.lock.step.past a.lock.step.courses device) (own at) a.lock.step.follows.outside.mesh.device.at

    other_then : StaysFor n m.host.state (happens m event).host.state → IsElse n m.host.state → IsElse n (happens m event).host.state
    other_then st other = record { no_task = st.queue ∙ other.no_task; no_text = st.text ∙ other.no_text }

    waits_then : StaysFor n m.host.state (happens m event).host.state → TextWaits n begun m.host.state → TextWaits n begun (happens m event).host.state
    waits_then st waits = record { plain = waits.plain; waits = st.pending ∙ waits.waits; message = waits.message }

    reports_then : IsUnheardAt n m event → (at : IsThere n m.outside.devices) → ReportWaits begun at.device → ReportWaits begun (there_then at).device
    reports_then none at waits = report_waits_stay begun at.device (there_then at).device (at_lock at).lock (same_then none at) some waits

    offers_then : StaysFor n m.host.state (happens m event).host.state → (payload : List ℕ) → OffersLive n m.host.state payload → OffersLive n (happens m event).host.state payload
    offers_then st payload is = record { nonce = is.nonce; live = ap (λ (account : Account). account.live) st.account ∙ is.live; is = is.is }

    ends_then : StaysFor n m.host.state (happens m event).host.state → (payload : List ℕ) → EndsForLive n begun m.host.state payload → EndsForLive n begun (happens m event).host.state payload
    ends_then st payload is = record {
      plain = is.plain;
      status = is.status;
      over = is.over;
      tells = is.tells;
      few = is.few;
      own = is.own;
      nonce = is.nonce;
      eight = is.eight;
      live = ap (λ (account : Account). account.live) st.account ∙ is.live;
      is = is.is ∙ ap (λ (keys : Keys). sealed_text keys is.own is.nonce (ends_from n) is.plain) (sym st.keys);
    }

    -- ---- the host judges it

    module _ (Is : List ℕ → Type 0) (taken : TakesHomeAt n Is m event) (full : 1 ≤ length taken.takes.payload) where
      amid : Amid (SaysCalm n begun below these alone.only) (λ (frame : FrameParts). frame ≡ brings n taken.takes.payload) (frames_in taken.takes.units)
      amid =
          let from = subst (AllByRecursion (IsFrom these)) taken.takes.are (all-left (IsFrom these) (frames_in taken.takes.units) taken.takes.waiting (subst (AllByRecursion (IsFrom these)) taken.takes.told a.lock.speak.pending)) in
          let heard = subst AllSayHeard taken.takes.are (all-left SaysHeard (frames_in taken.takes.units) taken.takes.waiting (subst AllSayHeard taken.takes.told a.calls)) in
          let of = other_parts (IsFrom these) taken.takes.before (brings n taken.takes.payload) taken.takes.behind from in
          let says = other_parts SaysHeard taken.takes.before (brings n taken.takes.payload) taken.takes.behind heard in
          record {
            before = taken.takes.before;
            one = brings n taken.takes.payload;
            behind = taken.takes.behind;
            are = taken.takes.are;
            each = calm_frames n begun below these alone.only taken.takes.before (nothing_brought these n alone.only taken.takes.before of.0 taken.takes.first) says.0;
            is = refl;
            rest = calm_frames n begun below these alone.only taken.takes.behind (nothing_brought these n alone.only taken.takes.behind of.1 taken.takes.last) says.1;
          }

      both : Among (RunsQuietly n begun below these alone.only) n taken.takes.payload m.host.state taken.events
      both =
          let s = m.outside.outer.chip.state in
          units_among (RunsQuietly n begun below these alone.only) (SaysCalm n begun below these alone.only) s (follow_both n begun below these alone.only s.joined) n taken.takes.payload m.host.state taken.takes.units taken.takes.waiting taken.events
          taken.takes.plain taken.takes.judged taken.takes.tied amid

      abbrev among : Among AllQuiet n taken.takes.payload m.host.state taken.events
      among = record { front = both.front; own = both.own; behind = both.behind; are = both.are; first = both.first.0; last = both.last.0; follows = both.follows }

      run_heard : RunsAt n begun (after_all m.host.state both.front).nodes
      run_heard = both.first.1 runs

      may_all : MayAllHost m.host.state taken.events
      may_all = takes_may m taken.count taken.rest taken.items taken.events (subst (May m) taken.event_is a.lock.may)

      keeps_all : AllByRecursion IsKept taken.events
      keeps_all = subst KeepsAll taken.event_is a.keeps

      run_all : RunsOn n (after_all m.host.state both.front) (after_all (after_all m.host.state both.front) both.own) → Runs n (after_all m.host.state taken.events)
      run_all on =
          let end_at = ends_at laws.aside laws.facts n is_node m.host.state taken.events taken.takes.payload full among a.lock.peopled.facts may_all keeps_all in
          let places = taken_places laws.aside laws.facts n is_node m.host.state taken.events taken.takes.payload full among a.lock.peopled.facts may_all keeps_all in
          (subst (λ (h : HostState). RunsAt n begun h.nodes) (sym end_at)
          (both.last.1 (record { places = places; opened = ap open_session on.book ∙ run_heard.opened; running = on.series ∙ run_heard.running }))).running

      run_later : Runs n (after_all m.host.state taken.events) → Runs n (happens m event).host.state
      run_later run = subst (Runs n) (sym taken.takes.host) run

      owed_then : IsOwed next (happens m event)
      owed_then = taken_owed airs these n alone is_node here next m event goes a.lock taken.count taken.rest taken.items taken.events taken.event_is taken.takes.none

      unheard_then : IsUnheardAt n m event
      unheard_then = subst (IsUnheardAt n m) (sym taken.event_is) tt

    -- it shows the live nonce of the lock
    shown_next : (left : ℕ) (at : IsThere n m.outside.devices) (taken : TakesHomeAt n (ShowsLive at.device) m event) → 1 ≤ length taken.takes.payload → IsElse n m.host.state → TextWaits n begun m.host.state → 4 ≤ left
        → Runs n (happens m event).host.state × Exchange n begun left next (happens m event)
    shown_next left at taken full other waits few = by then_seals
      where
        means : (held : Held) × NodeMeans a.lock.step.past n taken.takes.payload held
        means =
            told_means a.lock.step.past n a.lock.step.courses a.lock.step.up a.lock.step.down m taken.takes.payload a.lock.step.follows is_node full
            (subst (λ (frames : List FrameParts). Has (brings n taken.takes.payload) frames)
            (sym (taken.takes.told ∙ (ap (λ (frames : List FrameParts). frames ++ taken.takes.waiting) taken.takes.are ∙ append_assoc taken.takes.before (brings n taken.takes.payload ∷ taken.takes.behind) taken.takes.waiting)))
            (has_in (brings n taken.takes.payload) taken.takes.before (taken.takes.behind ++ taken.takes.waiting)))

        counted : IsCounted n m.host.state taken.takes.is.nonce
        counted = live_counted laws.labels a.lock.step.past n a.lock.step.courses a.lock.step.up a.lock.step.down m taken.takes.payload means.0 a.lock.step.follows means.1
            (record { nonce = taken.takes.is.nonce; live = ap (λ (d : State). d.given.live) (own at) ∙ taken.takes.is.live; is = taken.takes.is.is })

        facts : HostFacts m.host.state
        facts = a.lock.peopled.facts

        then_seals : Runs n (happens m event).host.state × SealsThen n begun at.device (happens m event).host.state
        then_seals =
            let may = may_all (ShowsLive at.device) taken full in
            let keeps = keeps_all (ShowsLive at.device) taken full in
            let seals =
            shown_taken laws.aside laws.facts n is_node m.host.state taken.events taken.takes.payload full (among (ShowsLive at.device) taken full) facts may keeps (run_heard (ShowsLive at.device) taken full).running laws.takes begun at.device
            (a.lock.step.follows.host.keys ∙ sym (at_lock at).keys) (place_is n m.outside.devices at.place at.device at.first at.stands) other waits taken.takes.is counted in
            let run = run_all (ShowsLive at.device) taken full seals.1 in (
              run_later (ShowsLive at.device) taken full run,
              subst (SealsThen n begun at.device) (sym taken.takes.host)
                  (seals_end laws.aside laws.facts n is_node m.host.state taken.events taken.takes.payload full (among (ShowsLive at.device) taken full) facts may keeps begun at.device run seals.0),
            )

        by : Runs n (happens m event).host.state × SealsThen n begun at.device (happens m event).host.state → Runs n (happens m event).host.state × Exchange n begun left next (happens m event)
        by (run, seals) = (
          run,
          Seals seals.payload (there_then at) taken.takes.none (owed_then (ShowsLive at.device) taken full) seals.queue seals.text
              (for_live_stays begun at.device (there_then at).device seals.payload (same_then (unheard_then (ShowsLive at.device) taken full) at) seals.is) few,
        )

    -- it asks for a nonce
    asked_next : (left : ℕ) (at : IsThere n m.outside.devices) (taken : TakesHomeAt n (λ payload. payload ≡ form NonceGet) m event) → 1 ≤ length taken.takes.payload → IsElse n m.host.state → ReportWaits begun at.device → 2 ≤ left
        → Runs n (happens m event).host.state × Exchange n begun left next (happens m event)
    asked_next left at taken full other waits few = by then_offers
      where
        facts : HostFacts m.host.state
        facts = a.lock.peopled.facts

        then_offers : Runs n (happens m event).host.state × OffersThen n (happens m event).host.state
        then_offers =
            let may = may_all (λ payload. payload ≡ form NonceGet) taken full in
            let keeps = keeps_all (λ payload. payload ≡ form NonceGet) taken full in
            let offers =
            asked_taken laws.aside laws.facts n is_node m.host.state taken.events taken.takes.payload full (among (λ payload. payload ≡ form NonceGet) taken full) facts may keeps
            (run_heard (λ payload. payload ≡ form NonceGet) taken full).running laws.asked other taken.takes.is in
            let run = run_all (λ payload. payload ≡ form NonceGet) taken full offers.1 in (
              run_later (λ payload. payload ≡ form NonceGet) taken full run,
              subst (OffersThen n) (sym taken.takes.host)
                  (offers_end laws.aside laws.facts n is_node m.host.state taken.events taken.takes.payload full (among (λ payload. payload ≡ form NonceGet) taken full) facts may keeps run offers.0),
            )

        by : Runs n (happens m event).host.state × OffersThen n (happens m event).host.state → Runs n (happens m event).host.state × Exchange n begun left next (happens m event)
        by (run, offers) = (
          run,
          Offers offers.nonce (there_then at) taken.takes.none (owed_then (λ payload. payload ≡ form NonceGet) taken full) offers.queue offers.no_text offers.live
              (reports_then (unheard_then (λ payload. payload ≡ form NonceGet) taken full) at waits) few,
        )

    -- it tells the end: then the attempt runs no more, and nothing is on its way
    ended_next : (taken : TakesHomeAt n (EndsForLive n begun m.host.state) m event) → 1 ≤ length taken.takes.payload → IsElse n m.host.state → RestsSealed n next (happens m event)
    ended_next taken full other = record {
      rests = λ run. (let was = ran laws.aside laws.facts n is_node m.host.state taken.events taken.takes.payload full (among (EndsForLive n begun m.host.state) taken full) a.lock.peopled.facts may keeps (subst (Runs n) taken.takes.host run) in
          let wrong : series.Idle ≡ series.Running = sym over.0.idle ∙ was.1 in
          absurd cc);
      no_task = ap (λ (h : HostState). h.requests.queue) taken.takes.host
          ∙ (queue_end laws.aside laws.facts n is_node m.host.state taken.events taken.takes.payload full (among (EndsForLive n begun m.host.state) taken full) a.lock.peopled.facts may keeps over.1 ∙ other.no_task);
      none = taken.takes.none;
      silent = silent_on airs these many n alone is_node here next m event goes itself;
    }
      where
        may : MayAllHost m.host.state taken.events
        may = may_all (EndsForLive n begun m.host.state) taken full

        keeps : AllByRecursion IsKept taken.events
        keeps = keeps_all (EndsForLive n begun m.host.state) taken full

        over : IsOver (node_of (after_all (after_all m.host.state (both (EndsForLive n begun m.host.state) taken full).front) (both (EndsForLive n begun m.host.state) taken full).own) n) × AllByRecursion IsCalm (both (EndsForLive n begun m.host.state) taken full).own
        over =
            report_taken laws.aside laws.facts n is_node m.host.state taken.events taken.takes.payload full (among (EndsForLive n begun m.host.state) taken full) a.lock.peopled.facts may keeps (run_heard (EndsForLive n begun m.host.state) taken full).running laws.opens begun
            a.lock.step.past.shown a.lock.step.courses.host a.lock.step.follows.host.gave opened taken.takes.is

    -- ---- each place

    heard_runs : (happens m event).host.state ≡ m.host.state → Runs n (happens m event).host.state
    heard_runs same = subst (Runs n) (sym same) running

    pub exchange_event : (left : ℕ) → Exchange n begun left here m → (Runs n (happens m event).host.state × Exchange n begun (most_then left here) next (happens m event)) ⊎ RestsSealed n next (happens m event)
    exchange_event left (Gets later other waits out only told few) = by (out_on airs these many n alone is_node (λ payload. payload ≡ form NonceGet) later here next m event goes itself a.lock (record { out = out; alone = only; told = told }))
      where
        more : HasLeft later here
        more = out_left airs these many n alone is_node (λ payload. payload ≡ form NonceGet) later here m out

        by : (OutAlone n (λ payload. payload ≡ form NonceGet) (most_then later here) next (happens m event) × IsApartAt n m event) ⊎ HearsOut n (λ payload. payload ≡ form NonceGet) next m event → (Runs n (happens m event).host.state × Exchange n begun (most_then left here) next (happens m event)) ⊎ RestsSealed n next (happens m event)
        by (inl (on, apart)) = let st = stays apart.1 in inl (run_apart apart.1, Gets (most_then later here) (other_then st other) (waits_then st waits) on.out on.alone on.told (few_then 5 later left here more few))
        by (inr hears) = inl (heard_runs hears.host, get_answered laws.lock n next m event a.lock.step begun (most_then left here) hears other waits (left_then 5 later left here more few))
    exchange_event left (Shows later at other waits home few) = by (home_on airs these many n alone is_node (ShowsLive at.device) later (shows_fits n m a.lock.step at) here next m event goes itself a.lock home)
      where
        more : HasLeft later here
        more = home_left airs these many n alone is_node (ShowsLive at.device) later here m home

        by : (GoesHome n (ShowsLive at.device) (most_then later here) next (happens m event) × IsApartAt n m event) ⊎ TakesHomeAt n (ShowsLive at.device) m event → (Runs n (happens m event).host.state × Exchange n begun (most_then left here) next (happens m event)) ⊎ RestsSealed n next (happens m event)
        by (inl (on, apart)) =
            let st = stays apart.1 in
            inl (
              run_apart apart.1,
              Shows (most_then later here) (there_then at) (other_then st other) (waits_then st waits)
                  (goes_also n (most_then later here) next (happens m event) (ShowsLive at.device) (ShowsLive (there_then at).device) (λ payload is. shows_stay at.device (there_then at).device payload (same_then apart.0 at) is) on)
                  (few_then 4 later left here more few),
            )
        by (inr taken) = inl (shown_next (most_then left here) at taken (shows_fits n m a.lock.step at taken.takes.payload taken.takes.is).0 other waits (left_then 4 later left here more few))
    exchange_event left (Seals payload at none owed empty text is few) =
        let on = none_on airs these many n alone is_node here next m event goes itself a.lock (owed_silent here m owed) none in
        let st = stays on.1.1 in
        inl (
          run_apart on.1.1,
          Seals payload (there_then at) on.0 (owed_stays airs these n alone.marked is_node here next m event goes a.lock.may a.lock.line a.lock.room a.lock.tie a.lock.then_line a.lock.then_tie itself owed) (st.queue ∙ empty) (st.text ∙ text)
              (for_live_stays begun at.device (there_then at).device payload (same_then on.1.0 at) is) (owed_left 4 left here m owed few),
        )
    exchange_event left (Texts later at other out only told few) = by (out_on airs these many n alone is_node (IsForLive begun at.device) later here next m event goes itself a.lock (record { out = out; alone = only; told = told }))
      where
        more : HasLeft later here
        more = out_left airs these many n alone is_node (IsForLive begun at.device) later here m out

        by : (OutAlone n (IsForLive begun at.device) (most_then later here) next (happens m event) × IsApartAt n m event) ⊎ HearsOut n (IsForLive begun at.device) next m event → (Runs n (happens m event).host.state × Exchange n begun (most_then left here) next (happens m event)) ⊎ RestsSealed n next (happens m event)
        by (inl (on, apart)) =
            let st = stays apart.1 in
            let now = out_now n (most_then later here) next (happens m event) (IsForLive begun at.device) (IsForLive begun (there_then at).device) (λ payload is. for_live_stays begun at.device (there_then at).device payload (same_then apart.0 at) is) on in
            inl (run_apart apart.1, Texts (most_then later here) (there_then at) (other_then st other) now.out now.alone now.told (few_then 3 later left here more few))
        by (inr hears) =
            inl (
              heard_runs hears.host,
              text_answered laws.lock n next m event a.lock.step begun (most_then left here) refl some
                  (record {
                    payload = hears.payload;
                    drawn = hears.drawn;
                    is = λ there. subst (λ (device : State). IsForLive begun device hears.payload) (sym (own at) ∙ own there) hears.is;
                    eight = hears.eight;
                    at = hears.at;
                    later = hears.later;
                    heard = hears.heard;
                    host = hears.host;
                    answers = hears.answers;
                  }) other (left_then 3 later left here more few),
            )
    exchange_event left (Wants later at other waits home few) = by (home_on airs these many n alone is_node (λ payload. payload ≡ form NonceGet) later get_fits here next m event goes itself a.lock home)
      where
        more : HasLeft later here
        more = home_left airs these many n alone is_node (λ payload. payload ≡ form NonceGet) later here m home

        by : (GoesHome n (λ payload. payload ≡ form NonceGet) (most_then later here) next (happens m event) × IsApartAt n m event) ⊎ TakesHomeAt n (λ payload. payload ≡ form NonceGet) m event → (Runs n (happens m event).host.state × Exchange n begun (most_then left here) next (happens m event)) ⊎ RestsSealed n next (happens m event)
        by (inl (on, apart)) = let st = stays apart.1 in inl (run_apart apart.1, Wants (most_then later here) (there_then at) (other_then st other) (reports_then apart.0 at waits) on (few_then 2 later left here more few))
        by (inr taken) = inl (asked_next (most_then left here) at taken (get_fits taken.takes.payload taken.takes.is).0 other waits (left_then 2 later left here more few))
    exchange_event left (Offers nonce at none owed queue no_text live waits few) =
        let on = none_on airs these many n alone is_node here next m event goes itself a.lock (owed_silent here m owed) none in
        let st = stays on.1.1 in
        inl (
          run_apart on.1.1,
          Offers nonce (there_then at) on.0 (owed_stays airs these n alone.marked is_node here next m event goes a.lock.may a.lock.line a.lock.room a.lock.tie a.lock.then_line a.lock.then_tie itself owed) (st.queue ∙ queue) (st.text ∙ no_text)
              (ap (λ (account : Account). account.live) st.account ∙ live) (reports_then on.1.0 at waits) (owed_left 2 left here m owed few),
        )
    exchange_event left (Nonces later at other waits out only told few) = by (out_on airs these many n alone is_node (OffersLive n m.host.state) later here next m event goes itself a.lock (record { out = out; alone = only; told = told }))
      where
        more : HasLeft later here
        more = out_left airs these many n alone is_node (OffersLive n m.host.state) later here m out

        by : (OutAlone n (OffersLive n m.host.state) (most_then later here) next (happens m event) × IsApartAt n m event) ⊎ HearsOut n (OffersLive n m.host.state) next m event → (Runs n (happens m event).host.state × Exchange n begun (most_then left here) next (happens m event)) ⊎ RestsSealed n next (happens m event)
        by (inl (on, apart)) =
            let st = stays apart.1 in
            let now = out_now n (most_then later here) next (happens m event) (OffersLive n m.host.state) (OffersLive n (happens m event).host.state) (offers_then st) on in
            inl (run_apart apart.1, Nonces (most_then later here) (there_then at) (other_then st other) (reports_then apart.0 at waits) now.out now.alone now.told (few_then 1 later left here more few))
        by (inr hears) =
            inl (heard_runs hears.host, nonce_answered laws.lock n next m event a.lock.step begun (most_then left here) hears other (subst (ReportWaits begun) (sym (own at) ∙ own hears.at) waits) (left_then 1 later left here more few))
    exchange_event left (Reports later other home few) = by (home_on airs these many n alone is_node (EndsForLive n begun m.host.state) later (ends_fits n begun m.host.state) here next m event goes itself a.lock home)
      where
        more : HasLeft later here
        more = home_left airs these many n alone is_node (EndsForLive n begun m.host.state) later here m home

        by : (GoesHome n (EndsForLive n begun m.host.state) (most_then later here) next (happens m event) × IsApartAt n m event) ⊎ TakesHomeAt n (EndsForLive n begun m.host.state) m event → (Runs n (happens m event).host.state × Exchange n begun (most_then left here) next (happens m event)) ⊎ RestsSealed n next (happens m event)
        by (inl (on, apart)) =
            let st = stays apart.1 in
            inl (
              run_apart apart.1,
              Reports (most_then later here) (other_then st other)
                  (goes_also n (most_then later here) next (happens m event) (EndsForLive n begun m.host.state) (EndsForLive n begun (happens m event).host.state) (ends_then st) on) (none_then later left here more few),
            )
        by (inr taken) = inr (ended_next taken (ends_fits n begun m.host.state taken.takes.payload taken.takes.is).0 other)

  -- ---- where the host submits

  -- no attempt gives segments
  no_cut : (h : HostState) → HostFacts h → GoSealed n h → has_segment (node_of h n) ≡ false
  no_cut h facts go = none (by (facts.owns n).segments)
    where
      by : ((node_of h n).segments ≡ 0) ⊎ HasSegments h.commands (node_of h n) → (node_of h n).segments ≡ 0
      by (inl zero_is) = zero_is
      by (inr has) =
          let opened : open_command (node_of h n) ≡ Some has.number = ap (command_by (node_of h n)) has.opened ∙ has.carried in
          let goes : GoesSealed has.command.order has.command.carriage = go has.number has.command has.found (inr opened) in
          absurd (let wrong : Sealed ≡ Cut = sym (ap form_of goes.outer) ∙ has.form in cc)

      none : (node_of h n).segments ≡ 0 → has_segment (node_of h n) ≡ false
      none is = let so : nat_lt (node_of h n).next_segment (node_of h n).segments ≡ false = grind (arith, nat_tests, is) in so

  -- what it submits is none of its own ticks, interviews and starts
  beside_submitted : (h : HostState) (asked : HostEvent) → IsNext h asked → MayHost h asked → Runs n h → IsBeside n h asked
  beside_submitted h asked next_so may run = submitted_is Is each h asked next_so may
    where
      Is : HostEvent → Type 0
      Is event = MayHost h event → IsBeside n h event

      each : SubmittedAre Is
      each = record {
        abort = λ may_it. tt;
        front = λ may_it. tt;
        starts = λ k plan more payload may_it. λ same. absurd (let wrong : series.Due ≡ series.Running = sym (subst (λ (j : ℕ). (node_of h j).series ≡ series.Due) same may_it.2.0) ∙ run in cc);
        text = λ k payload may_it. tt;
        segment = λ k more payload may_it. tt;
        begins = λ k with_session command may_it. tt;
        unkept = λ k may_it. tt;
      }

  does_may : (m : Machine) (asked : HostEvent) → May m (Host_does asked) → MayHost m.host.state asked
  unfolding May
  does_may m asked may = may.0

  submits_at : (here next : Phase) (m : Machine) (event : Event) → Goes here m event next → AroundSealed these n here next m event → Runs n m.host.state → SubmitsBeside airs these n alone is_node here m event
  submits_at (Submitting passes ticks) next m event (asked, next_so, is, to) a run = λ other same.
      let one : asked ≡ other = (let both : Host_does asked ≡ Host_does other = sym is ∙ same in cc) in
      subst (IsBeside n m.host.state) one (beside_submitted m.host.state asked next_so (does_may m asked (subst (May m) is a.lock.may)) run)
  submits_at here next m event goes a run = tt

  far_beside : (here next : Phase) (m : Machine) (event : Event) → Goes here m event next → AroundSealed these n here next m event → Runs n m.host.state → FarBeside airs these n alone is_node here m event
  far_beside here next m event goes a run = record {
    may = a.lock.may;
    line = a.lock.line;
    awaits = a.lock.awaits;
    routed = a.lock.routed;
    tie = a.lock.tie;
    places = a.lock.peopled.facts.nodes.places;
    wants = a.wants;
    submits = submits_at here next m event goes a run;
  }

  exchange_submitted : (passes ticks left : ℕ) (next : Phase) (m : Machine) (event : Event) (asked : HostEvent) → IsNext m.host.state asked → event ≡ Host_does asked → next ≡ Submitting passes ticks → AroundSealed these n (Submitting passes ticks) next m event
      → Runs n m.host.state → Exchange n (begun_of (node_of m.host.state n).book) left (Submitting passes ticks) m → Exchange n (begun_of (node_of m.host.state n).book) left next (happens m event)
  exchange_submitted passes ticks left next m event asked next_so is to a run exchange =
      let facts = a.lock.peopled.facts in
      let places = facts.nodes.places in
      let few = below in
      subst (λ (q : Phase). Exchange n (begun_of (node_of m.host.state n).book) left q (happens m event)) (sym to)
      (subst (λ (e : Event). Exchange n (begun_of (node_of m.host.state n).book) left (Submitting passes ticks) (happens m e)) (sym is)
      (exchange_submits airs n (begun_of (node_of m.host.state n).book) left passes ticks m asked (omega (arith, places, few)) (λ k found. alone.only k (a.workers k found)) run (no_cut m.host.state facts a.go) a.lock.tie.paid next_so exchange))

  exchange_goes : (here next : Phase) (m : Machine) (event : Event) → Goes here m event next → AroundSealed these n here next m event → Runs n m.host.state → (node_of m.host.state n).attempt_wait ≢ 1 → (left : ℕ)
      → Exchange n (begun_of (node_of m.host.state n).book) left here m
      → (Runs n (happens m event).host.state × Exchange n (begun_of (node_of m.host.state n).book) (most_then left here) next (happens m event)) ⊎ RestsSealed n next (happens m event)
  exchange_goes (Submitting passes ticks) next m event (asked, next_so, is, to) a run lasts left exchange =
      let facts = a.lock.peopled.facts in
      let runs : RunsAt n (begun_of (node_of m.host.state n).book) m.host.state.nodes = record { places = facts.nodes.places; opened = open_where (node_of m.host.state n) (facts.nodes.facts n) run; running = run } in
      let later = submitted_runs n (begun_of (node_of m.host.state n).book) below these alone.only m asked next_so (does_may m asked (subst (May m) is a.lock.may)) a.lock.tie.paid a.workers runs in
      inl (subst (λ (e : Event). Runs n (happens m e).host.state) (sym is) later.running, exchange_submitted passes ticks left next m event asked next_so is to a run exchange)
  exchange_goes here next m event goes a run lasts left exchange = exchange_event here next m event goes tt a run lasts left exchange

  -- ---- the wait

  more_left : (k later left : ℕ) (here : Phase) → HasLeft later here → later + k ≤ left → HasLeft left here
  more_left k later left (To_tick (suc ticks)) some few = omega (arith, some, few)
  more_left k later left here some few = tt

  last_left : (later left : ℕ) (here : Phase) → HasLeft later here → later ≤ left → HasLeft left here
  last_left later left (To_tick (suc ticks)) some few = omega (arith, some, few)
  last_left later left here some few = tt

  none_left : (left : ℕ) (here : Phase) (m : Machine) → IsOwed here m → HasLeft left here
  none_left left (To_tick ticks) m owed = absurd owed
  none_left left here m owed = tt

  pub some_left : (session left : ℕ) (here : Phase) (m : Machine) → Exchange n session left here m → HasLeft left here
  some_left session left here m (Gets later other waits out only told few) = more_left 5 later left here (out_left airs these many n alone is_node (λ payload. payload ≡ form NonceGet) later here m out) few
  some_left session left here m (Shows later at other waits home few) = more_left 4 later left here (home_left airs these many n alone is_node (ShowsLive at.device) later here m home) few
  some_left session left here m (Seals payload at none owed empty text is few) = none_left left here m owed
  some_left session left here m (Texts later at other out only told few) = more_left 3 later left here (out_left airs these many n alone is_node (IsForLive session at.device) later here m out) few
  some_left session left here m (Wants later at other waits home few) = more_left 2 later left here (home_left airs these many n alone is_node (λ payload. payload ≡ form NonceGet) later here m home) few
  some_left session left here m (Offers nonce at none owed queue no_text live waits few) = none_left left here m owed
  some_left session left here m (Nonces later at other waits out only told few) = more_left 1 later left here (out_left airs these many n alone is_node (OffersLive n m.host.state) later here m out) few
  some_left session left here m (Reports later other home few) = last_left later left here (home_left airs these many n alone is_node (EndsForLive n session m.host.state) later here m home) few

  fewer_most : (left : ℕ) (here : Phase) → left ≤ 23 → most_then left here ≤ 23
  fewer_most left (To_tick (suc ticks)) few = omega (arith, few)
  fewer_most left here few = few

  within_most : (left most : ℕ) (here : Phase) → left ≤ most → most_then left here ≤ most_then most here
  within_most left most (To_tick (suc ticks)) few = omega (arith, few)
  within_most left most here few = few

  -- as long as the attempt runs; and then nothing is on its way
  pub sealed_on : (most : ℕ) (here next : Phase) (m : Machine) (event : Event) → Goes here m event next → AroundSealed these n here next m event → WaitsSealed n most here m → WaitsSealed n (most_then most here) next (happens m event) ⊎ RestsSealed n next (happens m event)
  sealed_on most here next m event goes a w =
      by
      (exchange_goes here next m event goes a w.running (not_last (node_of m.host.state n).attempt_wait w.left (own_ticks n here) w.waits) w.left w.exchange)
    where
      far : WaitThen airs these n alone is_node w.left here next m event
      far = goes_far airs these n alone is_node w.left here next m event goes (far_beside here next m event goes a w.running) (some_left (begun_of (node_of m.host.state n).book) w.left here m w.exchange) w.few w.once w.waits

      by : (Runs n (happens m event).host.state × Exchange n (begun_of (node_of m.host.state n).book) (most_then w.left here) next (happens m event)) ⊎ RestsSealed n next (happens m event)
          → WaitsSealed n (most_then most here) next (happens m event) ⊎ RestsSealed n next (happens m event)
      by (inl (run, exchange)) =
          inl (record {
            once = far.once;
            running = run;
            left = most_then w.left here;
            few = fewer_most w.left here w.few;
            within = within_most w.left most here w.within;
            exchange = subst (λ (session : ℕ). Exchange n session (most_then w.left here) next (happens m event)) (sym (far.keeps run).0) exchange;
            waits = (far.keeps run).1;
          })
      by (inr rests) = inr rests

  -- ---- and with no event

  tied_then : (next : Phase) (m : Machine) → TiedThen these next m → (ticks : ℕ) → next ≡ To_tick ticks → IsTied these m
  tied_then next m tied ticks same = subst (λ (q : Phase). TiedThen these q m) same tied

  some_text : {A B : Type 0} (x : Option A) (y : A) → x ≡ Some y → B × (x ≡ None) → ⊥
  some_text x y is (empty, none) = let wrong : None ≡ Some y = sym none ∙ is in absurd cc

  some_task : {A B : Type 0} (xs : List A) (x : A) → xs ≡ x ∷ [] → (xs ≡ []) × B → ⊥
  some_task xs x is (empty, none) = let wrong : [] ≡ x ∷ [] = sym empty ∙ is in absurd cc

  exchange_turn : (session left : ℕ) (here next : Phase) (m : Machine) → Turns here m next → AwaitsAt here m → LineAt here m → TieAt here m → LineAt next m → TieAt next m → TiedThen these next m → Runs n m.host.state → Exchange n session left here m
      → Exchange n session left next m
  exchange_turn session left here next m turns awaits line tie then_line then_tie tied run (Gets later other waits out only told few) =
      let on = out_turn airs these many n alone is_node (λ payload. payload ≡ form NonceGet) later here next m turns awaits line tie then_line then_tie (record { out = out; alone = only; told = told }) in
      Gets later other waits on.out on.alone on.told few
  exchange_turn session left here next m turns awaits line tie then_line then_tie tied run (Shows later at other waits home few) =
      Shows later at other waits (home_turn airs these many n alone is_node (ShowsLive at.device) later here next m turns awaits line then_line home) few
  exchange_turn session left here next m turns awaits line tie then_line then_tie tied run (Seals payload at none owed empty text is few) =
      Seals payload at none
      (owed_turn airs these n alone.marked is_node here next m turns line awaits (tied_then next m tied) (λ tied_is free. never_left n is_node m tied_is run (some_text (node_of m.host.state n).text payload text) free) owed) empty text is few
  exchange_turn session left here next m turns awaits line tie then_line then_tie tied run (Texts later at other out only told few) =
      let on = out_turn airs these many n alone is_node (IsForLive session at.device) later here next m turns awaits line tie then_line then_tie (record { out = out; alone = only; told = told }) in
      Texts later at other on.out on.alone on.told few
  exchange_turn session left here next m turns awaits line tie then_line then_tie tied run (Wants later at other waits home few) =
      Wants later at other waits (home_turn airs these many n alone is_node (λ payload. payload ≡ form NonceGet) later here next m turns awaits line then_line home) few
  exchange_turn session left here next m turns awaits line tie then_line then_tie tied run (Offers nonce at none owed queue no_text live waits few) =
      Offers nonce at none
      (owed_turn airs these n alone.marked is_node here next m turns line awaits (tied_then next m tied) (λ tied_is free. never_left n is_node m tied_is run (some_task m.host.state.requests.queue (task.Offer n nonce) queue) free) owed) queue no_text live waits few
  exchange_turn session left here next m turns awaits line tie then_line then_tie tied run (Nonces later at other waits out only told few) =
      let on = out_turn airs these many n alone is_node (OffersLive n m.host.state) later here next m turns awaits line tie then_line then_tie (record { out = out; alone = only; told = told }) in
      Nonces later at other waits on.out on.alone on.told few
  exchange_turn session left here next m turns awaits line tie then_line then_tie tied run (Reports later other home few) =
      Reports later other (home_turn airs these many n alone is_node (EndsForLive n session m.host.state) later here next m turns awaits line then_line home) few

  pub sealed_turns : (most : ℕ) (here next : Phase) (m : Machine) → Turns here m next → AwaitsAt here m → LineAt here m → TieAt here m → LineAt next m → TieAt next m → TiedThen these next m → WaitsSealed n most here m → WaitsSealed n most next m
  sealed_turns most here next m turns awaits line tie then_line then_tie tied w =
      let less = no_more airs these n alone is_node here next m turns in
      record {
        once = fewer (own_ticks n next) (own_ticks n here) less w.once;
        running = w.running;
        left = w.left;
        few = w.few;
        within = w.within;
        exchange = exchange_turn (begun_of (node_of m.host.state n).book) w.left here next m turns awaits line tie then_line then_tie tied w.running w.exchange;
        waits = left_as airs these n alone is_node w.left here next m less w.few w.once w.waits;
      }

  exchange_said : (session left : ℕ) (line : Line) (m : Machine) → Exchange n session left Between m → Exchange n session left (Said_line line) m
  exchange_said session left line m (Gets later other waits out only told few) =
      let on = out_said airs these many n alone is_node (λ payload. payload ≡ form NonceGet) later line m (record { out = out; alone = only; told = told }) in Gets later other waits on.out on.alone on.told few
  exchange_said session left line m (Shows later at other waits home few) = Shows later at other waits (home_said airs these many n alone is_node (ShowsLive at.device) later line m home) few
  exchange_said session left line m (Seals payload at none owed empty text is few) = absurd owed
  exchange_said session left line m (Texts later at other out only told few) =
      let on = out_said airs these many n alone is_node (IsForLive session at.device) later line m (record { out = out; alone = only; told = told }) in Texts later at other on.out on.alone on.told few
  exchange_said session left line m (Wants later at other waits home few) = Wants later at other waits (home_said airs these many n alone is_node (λ payload. payload ≡ form NonceGet) later line m home) few
  exchange_said session left line m (Offers nonce at none owed queue no_text live waits few) = absurd owed
  exchange_said session left line m (Nonces later at other waits out only told few) =
      let on = out_said airs these many n alone is_node (OffersLive n m.host.state) later line m (record { out = out; alone = only; told = told }) in Nonces later at other waits on.out on.alone on.told few
  exchange_said session left line m (Reports later other home few) = Reports later other (home_said airs these many n alone is_node (EndsForLive n session m.host.state) later line m home) few

  pub sealed_said : (most : ℕ) (line : Line) (m : Machine) → WaitsSealed n most Between m → WaitsSealed n most (Said_line line) m
  sealed_said most line m w = record {
    once = w.once;
    running = w.running;
    left = w.left;
    few = w.few;
    within = w.within;
    exchange = exchange_said (begun_of (node_of m.host.state n).book) w.left line m w.exchange;
    waits = w.waits;
  }

  -- ---- an attempt starts

  starts_may : (m : Machine) (plan : Plan) (more : Bool) (payload : List ℕ) → May m (Host_does (Starts n plan more payload)) → IsStart m.host.state n plan more payload
  unfolding May
  starts_may m plan more payload may = may.0.1

  pub sealed_starts : (passes ticks : ℕ) (m : Machine) (plan : Plan) (more : Bool) (payload : List ℕ) → May m (Host_does (Starts n plan more payload)) → HostFacts m.host.state → GoSealed n m.host.state → RestsSealed n (Submitting passes ticks) m
      → WaitsSealed n 6 (Submitting passes ticks) (happens m (Host_does (Starts n plan more payload)))
  sealed_starts passes ticks m plan more payload may facts go r = record {
    once = omega arith;
    running = ap (λ (x : NodeState). x.series) node ∙ kept_so.runs;
    left = 6;
    few = omega arith;
    within = omega arith;
    exchange = subst (λ (session : ℕ). Exchange n session 6 (Submitting passes ticks) (happens m (Host_does (Starts n plan more payload)))) session_is
        (get_given n start.session 6 passes ticks (after_start (node_of m.host.state n) plan) m.host.state (happens m (Host_does (Starts n plan more payload))) given.0 (does_none airs these many n alone is_node m (Starts n plan more payload) r.none) given.1
        (omega arith));
    waits = inl (ap (λ (x : NodeState). x.attempt_wait) node ∙ (kept_so.wait ∙ waits_none (node_of m.host.state n) (facts.nodes.facts n) r.rests));
  }
    where
      start : IsStart m.host.state n plan more payload
      start = starts_may m plan more payload may

      kept_so : IsStarted (node_of m.host.state n) (after_start (node_of m.host.state n) plan)
      kept_so = started_so (node_of m.host.state n) plan

      goes : GoesSealed start.command.order start.command.carriage
      goes = go start.carried.0 start.command start.carried.2 (inr (ap (command_by (node_of m.host.state n)) start.opened ∙ start.carried.1))

      inside : n < length m.host.state.nodes
      inside = let places = facts.nodes.places in let few = below in omega (arith, places, few)

      given : HasSubmitted n (λ said. said ≡ form NonceGet) (after_start (node_of m.host.state n) plan) m.host.state passes ticks (happens m (Host_does (Starts n plan more payload)))
          × TextWaits n start.session (happens m (Host_does (Starts n plan more payload))).host.state
      given = get_starts n passes ticks m plan more payload inside start goes r.no_task (left_of (node_of m.host.state n) (facts.nodes.facts n) r.rests).no_text

      node : node_of (happens m (Host_does (Starts n plan more payload))).host.state n ≡ after_start (node_of m.host.state n) plan
      node = given.0.node

      session_is : start.session ≡ begun_of (node_of (happens m (Host_does (Starts n plan more payload))).host.state n).book
      session_is = (open_is (node_of m.host.state n).book start.session start.opened).0 ∙ sym (ap (λ (x : NodeState). begun_of x.book) node ∙ ap begun_of kept_so.book)
