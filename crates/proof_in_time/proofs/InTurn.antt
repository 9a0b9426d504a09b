-- The turn of a node comes: from phase to phase no later, and nearer with each tick.
use Rattle.std.proofs.Common.{◌≡◌, ◌≢◌, ◌≤◌, ◌<◌, ℕ, zero, suc, ◌+◌, inl, inr, Bool, true, false, List, [], ◌∷◌, ◌++◌, length, refl, sym, ap, ◌∙◌, subst, arith}
use Rattle.std.proofs.lemmas.Bool.Decides.{nat_tests}
use Rattle.std.specs.Option.{is_some}
use Rattle.std.specs.Prelude.{◌⊎◌, Option, Some, None, IsTrue}
use Rattle.serial_frame.specs.Frame.{FrameParts}
use Rattle.serial_frame.specs.Stream.{Rest}
use Rattle.serial_frame.specs.declared.item.Item.{Item}
use Rattle.route_table.specs.declared.route.Route.{Route}
use Rattle.chip_functions.specs.Field.{IsNode}
use Rattle.chip_functions.specs.declared.notice.Notice.TheVariants.{SendData}
use Rattle.chip_sim.specs.Answers.{notice_frame}
use Rattle.chip_sim.specs.Nodes.{is_marked}
use Rattle.chip_sim.specs.State.{ChipState}
use Rattle.chip_sim.specs.declared.out.Sending.{Sending}
use Rattle.host_node.specs.Facts.{NodeFacts, NothingLeft, SeriesFacts}
use Rattle.host_node.specs.Search.{next_of}
use Rattle.host_node.specs.State.{NodeState, has_segment}
use Rattle.host_node.specs.Steps.{after_start}
use Rattle.host_node.specs.declared.attempt.Plan.{Plan}
use Rattle.host_node.specs.declared.attempt.Plan.TheVariants.{Whole, Segments, Sealed}
use Rattle.host_node.specs.declared.series.Series.{Series}
use Rattle.host_node.specs.declared.series.Series.TheVariants as series
use Rattle.host_model.specs.After.{after}
use Rattle.host_model.specs.Events.{HostEvent, Gives_segment, Gives_text, Starts}
use Rattle.host_model.specs.Facts.{HostFacts}
use Rattle.host_model.specs.May.{May as MayHost}
use Rattle.host_model.specs.Pumping.{HasNothing, IsNext, no_more_event}
use Rattle.host_model.specs.State.{HostState, node_of}
use Rattle.host_model.proofs.Submitted.{SubmittedAre, next_is, no_more_is}
use Rattle.outside_model.specs.Events.{Chip_takes}
use Rattle.world_model.specs.Events.{Event, Outside_does, Host_does, Host_takes, happens, May}
use Rattle.world_model.specs.State.{Machine}
use Rattle.proof_answered.specs.proof_calm.proof_work.proof_walk.Phases.{Phase, To_tick, Ticked, Arriving, Giving, Ticking_devices, Ticking_chip, Ticking_decoder, Ticking_host, Sleeping, Submitting, Moving, Moved, Goes, Turns}
use Rattle.proof_answered.specs.proof_calm.Awaited.{AwaitsAt}
use Rattle.proof_answered.specs.proof_calm.Passes.{chip_taken}
use Rattle.proof_answered.specs.proof_calm.Resting.{CanMove, LineAt, Stands as HostStands}
use Rattle.proof_answered.specs.proof_calm.Settling.{HasMoved, IsDone}
use Rattle.proof_answered.specs.proof_calm.Tied.{At_chip, Called, HasRoom, IsCalled, IsTied, LeavesIt, LeaveIt, Nowhere, On_way, RoomAt, TieAt, TieOf, Tied, ends_of, on_line, unheard}
use Rattle.proof_answered.specs.proof_calm.Undisturbed.{HasNone, IsTaken}
use Rattle.proof_answered.proofs.Judging.{AnyFrame}
use Rattle.proof_answered.proofs.TurnOrder.{turn_least}
use Rattle.proof_answered.proofs.Awaiting.{sends_nothing}
use Rattle.proof_answered.proofs.Calm.{does_calm, takes_calm}
use Rattle.proof_answered.proofs.TurnOrder.{comes_nearer, none_works}
use Rattle.proof_answered.proofs.Tying.{request_rests}
use Rattle.proof_answered.proofs.Unheard.{chip_part_says}
use Rattle.proof_answered.proofs.proof_traffic_Parts.{Airs}
use Rattle.proof_answered.specs.Turns.{turn_of}
use Rattle.proof_in_time.specs.Owed.{IsFreeNow, IsOwed}
use Rattle.proof_in_time.specs.Coming.{Has}
use Rattle.proof_in_time.proofs.Bounded.{either_node}
use Rattle.proof_in_time.proofs.InHand.{HasTurn}
use Rattle.proof_in_time.proofs.Landed.{has_piled}
use Rattle.proof_in_time.proofs.Lasting.{no_call}
use Rattle.proof_in_time.proofs.NodeWaits.{own_start}
use Rattle.proof_in_time.proofs.Served.{IsPartOf}

-- ---- whether the request of this tick is still to be submitted

-- an attempt of the node that has work starts within so many ticks, but for those that it takes
pub data ComesTo (long : ℕ) (these : List Bool) (n ticks : ℕ) (here : Phase) (m : Machine) : Type 0 where
  In_turn : turn_of these m.host.state.served n + (long + 1) ≤ ticks → ComesTo long these n ticks here m
  Owed : IsOwed here m → turn_of these m.host.state.served n + long ≤ ticks → ComesTo long these n ticks here m

pub turn_ticks : (long : ℕ) (these : List Bool) (n ticks : ℕ) (here : Phase) (m : Machine) → is_marked these n ≡ true → ComesTo long these n ticks here m → long + 1 ≤ ticks
turn_ticks long these n ticks here m marked (In_turn few) = omega (arith, few)
turn_ticks long these n ticks here m marked (Owed owed few) = let least = turn_least these m.host.state.served n marked in omega (arith, few, least)

-- ---- a node of which no attempt runs gives nothing but its first part

pub no_sending : (s : Option Sending) → is_some s ≡ false → s ≡ None
no_sending None none = refl
no_sending (Some sending) none = absurd cc

started_runs : (state : NodeState) (plan : Plan) → (after_start state plan).series ≡ series.Running
started_runs state Whole = refl
started_runs state (Segments count) = refl
started_runs state (Sealed plain) = refl

pub left_of : (state : NodeState) → NodeFacts state → state.series ≢ series.Running → NothingLeft state.attempt_wait state.next_segment state.segments state.text state.pending
left_of state facts rests = by state.series refl facts.series
  where
    by : (s : Series) → state.series ≡ s → SeriesFacts s state.book state.attempt_wait state.again_wait state.next_segment state.segments state.text state.pending
        → NothingLeft state.attempt_wait state.next_segment state.segments state.text state.pending
    by series.Idle so is = is.1
    by series.Due so is = is.2
    by series.Running so is = absurd (rests so)

no_text : (state : NodeState) (payload : List ℕ) → NodeFacts state → state.series ≢ series.Running → state.text ≡ Some payload → ⊥
no_text state payload facts rests text = absurd (let wrong : Some payload ≡ None = sym text ∙ (left_of state facts rests).no_text in cc)

no_segment : (state : NodeState) → NodeFacts state → state.series ≢ series.Running → IsTrue (has_segment state) → ⊥
no_segment state facts rests has =
    let less : state.next_segment < state.segments = grind (arith, nat_tests, has) in
    let none = (left_of state facts rests).no_segments in
    absurd (omega (arith, less, none))

module _ (n : ℕ) (within : n < 233) where
  pub no_part : (h : HostState) (event : HostEvent) → HostFacts h → MayHost h event → IsPartOf event n → (node_of h n).series ≢ series.Running → (node_of (after h event) n).series ≢ series.Running → ⊥
  no_part h (Starts k plan more payload) facts may part rests later =
      let there : node_of (after h (Starts n plan more payload)) n ≡ after_start (node_of h n) plan = own_start n within h plan more payload facts.nodes.places in
      let runs : (node_of (after h (Starts n plan more payload)) n).series ≡ series.Running = ap (λ (x : NodeState). x.series) there ∙ started_runs (node_of h n) plan in
      later (subst (λ (j : ℕ). (node_of (after h (Starts j plan more payload)) n).series ≡ series.Running) (sym part) runs)
  no_part h (Gives_text k payload) facts may part rests later =
      no_text (node_of h n) payload (facts.nodes.facts n) rests (subst (λ (j : ℕ). (node_of h j).text ≡ Some payload) part may.1)
  no_part h (Gives_segment k more payload) facts may part rests later =
      no_segment (node_of h n) (facts.nodes.facts n) rests (subst (λ (j : ℕ). IsTrue (has_segment (node_of h j))) part may.4)
  no_part h event facts may part rests later = absurd part

-- ---- a call that the host has not judged

pub has_in : (x : FrameParts) (before behind : List FrameParts) → Has x (before ++ x ∷ behind)
has_in x [] behind = inl refl
has_in x (frame ∷ before) behind = inr (has_in x before behind)

leaves_it : (joined : List Bool) (x : FrameParts) (frames : List FrameParts) → LeaveIt joined frames → Has x frames → LeavesIt joined x
leaves_it joined x [] all has = absurd has
leaves_it joined x (frame ∷ frames) all (inl is) = subst (LeavesIt joined) (sym is) all.0
leaves_it joined x (frame ∷ frames) all (inr has) = leaves_it joined x frames all.1 has

-- ---- from phase to phase

-- what the host submits is left out
abbrev pub GoesByItself : Phase → Type 0
GoesByItself (Submitting passes ticks) = ⊥
GoesByItself here = Unit {0}

module _ (airs : Airs) (these : List Bool) (n : ℕ) (marked : is_marked these n ≡ true) (node : IsNode n) where
  below : n < 233
  below = let few = node.1 in omega (arith, few)

  to_most : n ≤ 232
  to_most = node.1

  some_node : 1 ≤ n
  some_node = node.0

  -- nothing was submitted where the host only does something else
  still_free : (m : Machine) (event : HostEvent) → (after m.host.state event).side.turn ≡ m.host.state.side.turn → IsFreeNow m → IsFreeNow (happens m (Host_does event))
  unfolding happens
  still_free m event side free = record { quiet = ap (λ (s : ChipState). s.sending) (does_calm airs m event).chip ∙ free.quiet; silent = ap on_line side ∙ free.silent }

  -- the host submits its next request: of a node that comes before
  abbrev Nearer : Machine → HostEvent → Type 0
  Nearer m event = IsFreeNow (happens m (Host_does event)) ⊎ (turn_of these (after m.host.state event).served n + 1 ≤ turn_of these m.host.state.served n)

  submits_free : (m : Machine) (event : HostEvent) → IsNext m.host.state event → MayHost m.host.state event → m.host.state.requests.owes ≡ false → m.host.state.requests.queue ≡ [] → HostFacts m.host.state
      → ((k : ℕ) → next_of m.host.state.nodes m.host.state.served ≡ Some k → is_marked these k ≡ true) → HasTurn (node_of m.host.state n) → (node_of (after m.host.state event) n).series ≢ series.Running → IsFreeNow m → Nearer m event
  submits_free m event next may paid empty facts workers turn later free = next_is Is each m.host.state event next may later
    where
      h : HostState
      h = m.host.state

      Is : HostEvent → Type 0
      Is e = MayHost m.host.state e → (node_of (after m.host.state e) n).series ≢ series.Running → Nearer m e

      served : (k : ℕ) (e : HostEvent) → (after m.host.state e).served ≡ k → IsPartOf e k → next_of m.host.state.nodes m.host.state.served ≡ Some k → Is e
      served k e is part is_next may_it then_rests = by (either_node n k)
        where
          by : (k ≡ n) ⊎ (k ≢ n) → Nearer m e
          by (inl same) = absurd (no_part n below m.host.state e facts may_it (subst (IsPartOf e) same part) turn.0 then_rests)
          by (inr other) =
              let nearer = comes_nearer these m.host.state.nodes m.host.state.served k n (workers k is_next) marked turn.1 some_node to_most (λ e2. other (sym e2)) is_next in
              inr (subst (λ (s : ℕ). turn_of these s n + 1 ≤ turn_of these m.host.state.served n) (sym is) nearer)

      each : SubmittedAre Is
      each = record {
        abort = λ may_it then_rests. absurd (let wrong : false ≡ true = sym paid ∙ may_it.1 in cc);
        front = λ may_it then_rests. absurd (may_it.2 empty);
        starts = λ k plan more payload may_it then_rests. served k (Starts k plan more payload) refl refl may_it.0.next may_it then_rests;
        text = λ k payload may_it then_rests. served k (Gives_text k payload) refl refl may_it.0.next may_it then_rests;
        segment = λ k more payload may_it then_rests. served k (Gives_segment k more payload) refl refl may_it.0.next may_it then_rests;
        begins = λ k session command may_it then_rests. inl (still_free m _ refl free);
        unkept = λ k may_it then_rests. inl (still_free m _ refl free);
      }

  -- the chip takes nothing of the host's
  pub takes_free : (passes ticks : ℕ) (m : Machine) (rest : Rest) (ways : List (Item × Option Route)) → May m (Outside_does (Chip_takes (length m.outside.outer.to_chip.bytes) rest ways)) → IsDone m ⊎ CanMove passes m → HasRoom m.outside.outer.chip.state
      → TieOf true m (on_line m.host.state.side.turn) → IsDone (chip_taken m rest ways) ⊎ HasMoved true passes (chip_taken m rest ways) → TieOf true (chip_taken m rest ways) [] → IsFreeNow m → IsFreeNow (chip_taken m rest ways)
  unfolding happens
  takes_free passes ticks m rest ways may at room tie later tie_later free = record { quiet = by tie_later.tied; silent = free.silent }
    where
      s : ChipState
      s = m.outside.outer.chip.state

      t : ChipState
      t = (chip_taken m rest ways).outside.outer.chip.state

      sent : is_some t.sending ≡ true → t.sending ≡ None
      sent sends = absurd (was tie.tied)
        where
          -- the call that was on its way stays so
          called : (is : IsCalled (ends_of m.host.state s) (unheard m.outside.outer) (on_line m.host.state.side.turn)) → LeaveIt t.joined (unheard (chip_taken m rest ways).outside.outer) → ⊥
          called is leave =
              let call : FrameParts = notice_frame (SendData m.host.state.requests.last_id is.status) in
              let there : Has call (unheard m.outside.outer) = subst (Has call) (sym is.are) (has_in call is.before is.behind) in
              no_call t.joined m.host.state.requests.last_id is.status (leaves_it t.joined call (unheard (chip_taken m rest ways).outside.outer) leave (chip_part_says AnyFrame (Has call) (has_piled call) tt passes m rest ways may at room tie later there))

          was : Tied true (ends_of m.host.state s) (unheard m.outside.outer) (on_line m.host.state.side.turn) → ⊥
          was (Nowhere is) = now_none is.none tie_later.tied
            where
              now_none : m.host.state.requests.under_way ≡ None → Tied true (ends_of (chip_taken m rest ways).host.state t) (unheard (chip_taken m rest ways).outside.outer) [] → ⊥
              now_none none (Nowhere later_is) = absurd (let wrong : true ≡ false = sym sends ∙ ap (λ (o : Option Sending). is_some o) later_is.idle in cc)
              now_none none (On_way u of fresh later_is) = absurd (let wrong = later_is.asked in cc)
              now_none none (At_chip u of fresh later_is) = absurd (let wrong : Some u ≡ None = sym of.under_way ∙ none in cc)
              now_none none (Called u of fresh later_is) = absurd (let wrong : Some u ≡ None = sym of.under_way ∙ none in cc)
          was (On_way u of fresh is) = absurd (let wrong = sym free.silent ∙ is.asked in cc)
          was (At_chip u of fresh is) = absurd (let wrong = sym free.quiet ∙ is.is_sending in cc)
          was (Called u of fresh is) = now_called tie_later.tied
            where
              now_called : Tied true (ends_of (chip_taken m rest ways).host.state t) (unheard (chip_taken m rest ways).outside.outer) [] → ⊥
              now_called (Nowhere later_is) = absurd (let wrong : true ≡ false = sym sends ∙ ap (λ (o : Option Sending). is_some o) later_is.idle in cc)
              now_called (On_way v later_of later_fresh later_is) = absurd (let wrong = later_is.asked in cc)
              now_called (At_chip v later_of later_fresh later_is) = called is later_is.leave
              now_called (Called v later_of later_fresh later_is) = absurd (let wrong : true ≡ false = sym sends ∙ ap (λ (o : Option Sending). is_some o) later_is.idle in cc)

      by : Tied true (ends_of (chip_taken m rest ways).host.state t) (unheard (chip_taken m rest ways).outside.outer) [] → t.sending ≡ None
      by (Nowhere is) = is.idle
      by (On_way u of fresh is) = is.idle
      by (At_chip u of fresh is) = sent (ap (λ (o : Option Sending). is_some o) is.is_sending)
      by (Called u of fresh is) = is.idle

  -- the host judges what comes
  pub judged_free : (passes : ℕ) (m : Machine) (count : ℕ) (rest : Rest) (items : List Item) (events : List HostEvent) → IsDone (happens m (Host_takes count rest items events)) ⊎ HostStands passes (happens m (Host_takes count rest items events))
      → m.outside.outer.chip.state.sending ≡ None → IsFreeNow (happens m (Host_takes count rest items events))
  judged_free passes m count rest items events at quiet = record {
    quiet = ap (λ (s : ChipState). s.sending) (takes_calm airs m count rest items events).chip ∙ quiet;
    silent = by at;
  }
    where
      by : IsDone (happens m (Host_takes count rest items events)) ⊎ HostStands passes (happens m (Host_takes count rest items events)) → on_line (happens m (Host_takes count rest items events)).host.state.side.turn ≡ []
      by (inl done) = ap on_line done.line.at_host.turn_is
      by (inr stands) = ap on_line stands.turn

  pub judges_free : (passes : ℕ) (m : Machine) (count : ℕ) (rest : Rest) (items : List Item) (events : List HostEvent) → IsDone (happens m (Host_takes count rest items events)) ⊎ HostStands passes (happens m (Host_takes count rest items events)) → IsFreeNow m
      → IsFreeNow (happens m (Host_takes count rest items events))
  judges_free passes m count rest items events at free = judged_free passes m count rest items events at free.quiet

  -- at an event at which the host does not submit, but as a tick begins
  owed_to : (next to : Phase) (m : Machine) (event is : Event) → event ≡ is → next ≡ to → IsOwed to (happens m is) → IsOwed next (happens m event)
  owed_to next to m event is event_is next_is owed = subst (λ (q : Phase). IsOwed q (happens m event)) (sym next_is) (subst (λ (e : Event). IsOwed to (happens m e)) (sym event_is) owed)

  pub owed_stays : (here next : Phase) (m : Machine) (event : Event) → Goes here m event next → May m event → LineAt here m → RoomAt here m → TieAt here m → LineAt next (happens m event) → TieAt next (happens m event) → GoesByItself here → IsOwed here m
      → IsOwed next (happens m event)
  owed_stays (Arriving (suc frames) ticks) next m event (drawn, route, is, to) may at room tie at_later tie_later none owed = subst (λ (q : Phase). IsOwed q (happens m event)) (sym to) tt
  owed_stays (Giving (suc results) ticks) next m event (route, is, to) may at room tie at_later tie_later none owed = subst (λ (q : Phase). IsOwed q (happens m event)) (sym to) tt
  owed_stays (Ticking_devices place (suc count) ticks) next m event (drawn, route, is, to) may at room tie at_later tie_later none owed = subst (λ (q : Phase). IsOwed q (happens m event)) (sym to) tt
  owed_stays (Ticking_chip ticks) next m event (is, to) may at room tie at_later tie_later none owed = subst (λ (q : Phase). IsOwed q (happens m event)) (sym to) tt
  owed_stays (Ticking_decoder ticks) next m event (is, to) may at room tie at_later tie_later none owed = subst (λ (q : Phase). IsOwed q (happens m event)) (sym to) tt
  owed_stays (Ticking_host (first ∷ events) ticks) next m event (is, to) may at room tie at_later tie_later none owed = subst (λ (q : Phase). IsOwed q (happens m event)) (sym to) tt
  owed_stays (Sleeping passes ticks) next m event (k, wants, is, to) may at room tie at_later tie_later none owed =
      owed_to next (Sleeping passes ticks) m event (Host_does (no_more_event m.host.state k)) is to
      (still_free m (no_more_event m.host.state k)
      (no_more_is (λ e. (after m.host.state e).side.turn ≡ m.host.state.side.turn) (record { queues = λ j. refl; drops = λ j. refl }) m.host.state k) owed)
  owed_stays (Submitting passes ticks) next m event goes may at room tie at_later tie_later none owed = absurd none
  owed_stays (Moving passes ticks) next m event (rest, ways, is, to) may at room tie at_later tie_later none owed =
      let line = subst (λ (e : Event). LineAt (Moved true passes ticks) (happens m e)) is (subst (λ (q : Phase). LineAt q (happens m event)) to at_later) in
      let tied = subst (λ (e : Event). TieAt (Moved true passes ticks) (happens m e)) is (subst (λ (q : Phase). TieAt q (happens m event)) to tie_later) in
      owed_to next (Moved true passes ticks) m event (Outside_does (Chip_takes (length m.outside.outer.to_chip.bytes) rest ways)) is to
      (takes_free passes ticks m rest ways (subst (λ (e : Event). May m e) is may) at room tie line tied owed)
  owed_stays (Moved b passes ticks) next m event (rest, items, done, is, to) may at room tie at_later tie_later none owed =
      let line = subst (λ (e : Event). LineAt (Sleeping passes ticks) (happens m e)) is (subst (λ (q : Phase). LineAt q (happens m event)) to at_later) in
      owed_to next (Sleeping passes ticks) m event (Host_takes (length m.outside.outer.to_host.bytes) rest items done) is to
      (judges_free passes m (length m.outside.outer.to_host.bytes) rest items done line owed)
  owed_stays (Ticked ticks) next m event goes may at room tie at_later tie_later none owed = absurd goes
  owed_stays (Arriving zero ticks) next m event goes may at room tie at_later tie_later none owed = absurd goes
  owed_stays (Giving zero ticks) next m event goes may at room tie at_later tie_later none owed = absurd goes
  owed_stays (Ticking_devices place zero ticks) next m event goes may at room tie at_later tie_later none owed = absurd goes
  owed_stays (Ticking_host [] ticks) next m event goes may at room tie at_later tie_later none owed = absurd goes
  owed_stays here next m event goes may at room tie at_later tie_later none owed = absurd owed

  -- at any, it is still to come, or the turn of the node has come nearer
  pub owed_on : (here next : Phase) (m : Machine) (event : Event) → Goes here m event next → May m event → LineAt here m → RoomAt here m → TieAt here m → LineAt next (happens m event) → TieAt next (happens m event) → m.host.state.requests.queue ≡ []
      → HostFacts m.host.state → ((k : ℕ) → next_of m.host.state.nodes m.host.state.served ≡ Some k → is_marked these k ≡ true) → HasTurn (node_of m.host.state n) → (node_of (happens m event).host.state n).series ≢ series.Running → IsOwed here m
      → IsOwed next (happens m event) ⊎ (turn_of these (happens m event).host.state.served n + 1 ≤ turn_of these m.host.state.served n)
  unfolding happens May
  owed_on (Submitting passes ticks) next m event (asked, next_so, is, to) may at room tie at_later tie_later empty facts workers turn later owed =
      by
      (submits_free m asked next_so (subst (λ (e : Event). May m e) is may).0 tie.paid empty facts workers turn (subst (λ (e : Event). (node_of (happens m e).host.state n).series ≢ series.Running) is later) owed)
    where
      by : Nearer m asked → IsOwed next (happens m event) ⊎ (turn_of these (happens m event).host.state.served n + 1 ≤ turn_of these m.host.state.served n)
      by (inl free) = inl (subst (λ (q : Phase). IsOwed q (happens m event)) (sym to) (subst (λ (e : Event). IsFreeNow (happens m e)) (sym is) free))
      by (inr nearer) = inr (subst (λ (e : Event). turn_of these (happens m e).host.state.served n + 1 ≤ turn_of these m.host.state.served n) (sym is) nearer)
  owed_on here next m event goes may at room tie at_later tie_later empty facts workers turn later owed = inl (owed_stays here next m event goes may at room tie at_later tie_later tt owed)

  -- where a settling ends no node with work lacks its request
  pub none_owed : (m : Machine) → IsTied these m → HasTurn (node_of m.host.state n) → IsFreeNow m → ⊥
  none_owed m tied turn free = of (request_rests m tied).request
    where
      of : (HasNone m × HasNothing m.host.state) ⊎ IsTaken m → ⊥
      of (inl (none, nothing)) =
          let idle = none_works m.host.state.nodes n some_node to_most m.host.state.served nothing.no_work in
          absurd (let wrong : true ≡ false = sym turn.1 ∙ idle in cc)
      of (inr taken) = absurd (let wrong = sym free.quiet ∙ taken.sending in cc)

  -- and where a part is over, if it cannot be so where a settling ends
  pub owed_turn : (here next : Phase) (m : Machine) → Turns here m next → LineAt here m → AwaitsAt here m → ((ticks : ℕ) → next ≡ To_tick ticks → IsTied these m) → (IsTied these m → IsFreeNow m → ⊥) → IsOwed here m → IsOwed next m
  owed_turn (Ticked ticks) next m same at awaits tied none owed = subst (λ (q : Phase). IsOwed q m) (sym same) tt
  owed_turn (Arriving zero ticks) next m same at awaits tied none owed = subst (λ (q : Phase). IsOwed q m) (sym same) tt
  owed_turn (Giving zero ticks) next m same at awaits tied none owed = subst (λ (q : Phase). IsOwed q m) (sym same) tt
  owed_turn (Ticking_devices place zero ticks) next m same at awaits tied none owed = subst (λ (q : Phase). IsOwed q m) (sym same) tt
  owed_turn (Ticking_host [] ticks) next m same at awaits tied none owed =
      subst (λ (q : Phase). IsOwed q m) (sym same) (record { quiet = no_sending m.outside.outer.chip.state.sending (sends_nothing m awaits); silent = ap on_line at.1.at_host.turn_is })
  owed_turn (Sleeping passes ticks) next m (wanted, same) at awaits tied none owed = subst (λ (q : Phase). IsOwed q m) (sym same) owed
  owed_turn (Submitting zero ticks) next m (pumped, same) at awaits tied none owed = absurd (none (tied ticks same) owed)
  owed_turn (Submitting (suc passes) ticks) next m (pumped, same) at awaits tied none owed = subst (λ (q : Phase). IsOwed q m) (sym same) owed
  owed_turn (Moving passes ticks) next m (still, same) at awaits tied none owed = subst (λ (q : Phase). IsOwed q m) (sym same) owed
  owed_turn (Moved b passes ticks) next m (still, same) at awaits tied none owed = subst (λ (q : Phase). IsOwed q m) (sym same) owed
  owed_turn (Arriving (suc frames) ticks) next m turns at awaits tied none owed = absurd turns
  owed_turn (Giving (suc results) ticks) next m turns at awaits tied none owed = absurd turns
  owed_turn (Ticking_devices place (suc count) ticks) next m turns at awaits tied none owed = absurd turns
  owed_turn (Ticking_chip ticks) next m turns at awaits tied none owed = absurd turns
  owed_turn (Ticking_decoder ticks) next m turns at awaits tied none owed = absurd turns
  owed_turn (Ticking_host (first ∷ events) ticks) next m turns at awaits tied none owed = absurd turns
  owed_turn here next m turns at awaits tied none owed = absurd owed
