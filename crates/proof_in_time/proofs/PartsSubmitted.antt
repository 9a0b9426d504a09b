-- The host submits the segment that is to go: the next of the attempt, or the one that was asked for.
use Rattle.std.proofs.Common.{◌≡◌, ◌≤◌, ◌<◌, ℕ, ◌+◌, nat_lt, inl, inr, Bool, true, false, List, [], ◌∷◌, length, refl, sym, ap, ◌∙◌, subst, arith}
use Rattle.std.proofs.lemmas.List.{get_or-set_same}
use Rattle.std.specs.Prelude.{◌⊎◌, Option, Some, None}
use Rattle.std.specs.Option.{is_some}
use Rattle.serial_frame.specs.Frame.{FrameParts}
use Rattle.supervision.specs.Host.{open_session}
use Rattle.host_requests.specs.Events.{task_begun}
use Rattle.host_requests.specs.Frames.{frame_of}
use Rattle.host_requests.specs.State.{id_after, next_id}
use Rattle.host_requests.specs.declared.task.Purpose.TheVariants.{Attempt, Housekeeping}
use Rattle.host_requests.specs.declared.task.Task.{Task}
use Rattle.host_requests.specs.declared.task.Task.TheVariants.{Segment}
use Rattle.host_requests.specs.declared.under_way.Progress.TheVariants.{Submitted}
use Rattle.host_requests.specs.declared.under_way.UnderWay.{UnderWay}
use Rattle.host_node.specs.Search.{next_of}
use Rattle.host_node.specs.State.{NodeState, unknown}
use Rattle.host_node.specs.Steps.{after_segment}
use Rattle.host_node.specs.declared.series.Series.{Series}
use Rattle.host_node.specs.declared.series.Series.TheVariants as series
use Rattle.chip_sim.specs.declared.out.Sending.{Sending}
use Rattle.host_model.specs.After.{after, task_purpose}
use Rattle.host_model.specs.Events.{HostEvent, Gives_segment, Submits_front}
use Rattle.host_model.specs.Pumping.{GivesNext, IsNext, IsNextOf, IsNextOfNodes, IsServedBy}
use Rattle.host_model.specs.Sessions.{segment_at, segment_count}
use Rattle.host_model.specs.State.{HostState, node_of}
use Rattle.world_model.specs.Events.{Host_does, happens}
use Rattle.world_model.specs.State.{Machine}
use Rattle.world_model.proofs.Hosting.{devices_host-all}
use Rattle.proof_messages.specs.Reporting.{TellsPlainly}
use Rattle.proof_answered.specs.proof_calm.proof_traffic.Facts.{one_if}
use Rattle.proof_answered.specs.proof_calm.proof_traffic.OnAir.{on_air}
use Rattle.proof_answered.specs.proof_calm.proof_traffic.OutsideTraffic.{outward}
use Rattle.proof_answered.specs.proof_calm.proof_work.proof_walk.Phases.{Submitting}
use Rattle.proof_answered.specs.proof_calm.Tied.{At_chip, Called, Nowhere, On_way, Tied, TieOf, ends_of, on_line, unheard}
use Rattle.proof_answered.specs.Workers.{IsFromSaying}
use Rattle.proof_answered.proofs.Calm.{does_calm}
use Rattle.proof_answered.proofs.Unheard.{does_says}
use Rattle.proof_answered.proofs.proof_traffic_Parts.{Airs}
use Rattle.proof_in_time.specs.Coming.{IsOnAir}
use Rattle.proof_in_time.specs.Parts.{Aired, Aired_told, Aired_two, AllPlain, AllTold, Amid, Asked, Asks, Asks_told, Asks_told_two, By_attempt, By_task, ComesPlainly, Given, HasCall, IsAsk, IsCut, IsElse, IsToGive, OnWay, Owed, Parts, To_give, To_give_two, ToHear, Waits}
use Rattle.proof_in_time.proofs.PartsCarried.{Wraps, call_last, all_wrapped, itself_wraps, wraps_pile}
use Rattle.proof_in_time.proofs.PartsFlying.{amid_out, amid_two_out, none_called}
use Rattle.proof_in_time.proofs.PartsGiven.{given_at}
use Rattle.proof_in_time.proofs.PartsPhases.{same_first, within_so}
use Rattle.proof_in_time.proofs.PartsHosted.{cut_stays, host_then}

-- ---- what the host has then

-- the task that waited is on its way
pub front_given : (h : HostState) (task : Task) → h.requests.queue ≡ task ∷ []
    → ((after h Submits_front).requests.queue ≡ []) × (((after h Submits_front).requests.under_way ≡ Some (record { purpose = Housekeeping task; progress = Submitted })) × ((after h Submits_front).requests.last_id ≡ id_after h.requests.last_id (Housekeeping task)))
front_given h task waits = (
  ap (λ (tasks : List Task). (task_begun h.requests tasks).queue) waits,
  (ap (λ (tasks : List Task). (task_begun h.requests tasks).under_way) waits, ap (λ (tasks : List Task). (task_begun h.requests tasks).last_id) waits),
)

segment_node : (n : ℕ) (h : HostState) (more : Bool) (payload : List ℕ) → n < length h.nodes → node_of (after h (Gives_segment n more payload)) n ≡ after_segment (node_of h n)
segment_node n h more payload within = get_or-set_same h.nodes n (after_segment (node_of h n)) (unknown 0) within

-- ---- the next request

module _ (n session : ℕ) (message : List ℕ) (h : HostState) (cut : IsCut n session message h) (opened : open_session (node_of h n).book ≡ Some session) (running : (node_of h n).series ≡ series.Running) (no_text : (node_of h n).text ≡ None)
    (alone : (k : ℕ) → next_of h.nodes h.served ≡ Some k → k ≡ n) (paid : h.requests.owes ≡ false) (event : HostEvent) (next_is : IsNext h event) where
  -- no task waits: it is the next segment of the attempt
  pub record GivesPart : Type 0 where
    pub more : Bool
    pub payload : List ℕ
    pub is : event ≡ Gives_segment n more payload
    pub less : (node_of h n).next_segment < segment_count message
    pub text : payload ≡ segment_at session message (node_of h n).next_segment

  pub gives_next : h.requests.queue ≡ [] → GivesPart
  gives_next empty = by (next_of h.nodes h.served) refl (subst (λ (queue : List Task). IsNextOf h false queue event) empty (subst (λ (b : Bool). IsNextOf h b h.requests.queue event) paid next_is.1))
    where
      of : GivesNext h n None event → GivesPart
      of (payload, found, event_is) =
          let is = given_at n session message h cut (node_of h n).next_segment payload opened found in
          record { more = nat_lt ((node_of h n).next_segment + 1) (node_of h n).segments; payload = payload; is = event_is; less = is.0; text = is.1 }

      served : (k : ℕ) → k ≡ n → IsServedBy h k (node_of h k).series event → GivesPart
      served k same is =
          of (subst (λ (text : Option (List ℕ)). GivesNext h n text event) no_text (subst (λ (s : Series). IsServedBy h n s event) running (subst (λ (j : ℕ). IsServedBy h j (node_of h j).series event) same is)))

      by : (found : Option ℕ) → next_of h.nodes h.served ≡ found → IsNextOfNodes h found event → GivesPart
      by None found is = absurd is
      by (Some k) found is = served k (alone k found) is

  -- one waits: that
  pub front_next : (task : Task) → h.requests.queue ≡ task ∷ [] → event ≡ Submits_front
  front_next task waits = subst (λ (queue : List Task). IsNextOf h false queue event) waits (subst (λ (b : Bool). IsNextOf h b h.requests.queue event) paid next_is.1)

-- ---- it is submitted

module _ (airs : Airs) (these : List Bool) (n session : ℕ) (within : n < 233) (passes ticks : ℕ) (m : Machine) (event : HostEvent) (next_is : IsNext m.host.state event) (tie : TieOf true m (on_line m.host.state.side.turn)) (places : length m.host.state.nodes ≡ 233)
    (opened : open_session (node_of m.host.state n).book ≡ Some session) (running : (node_of m.host.state n).series ≡ series.Running) (no_text : (node_of m.host.state n).text ≡ None)
    (alone : (k : ℕ) → next_of m.host.state.nodes m.host.state.served ≡ Some k → k ≡ n) (message : List ℕ) (cut : IsCut n session message m.host.state) (count : (node_of m.host.state n).segments ≡ segment_count message) where
  abbrev then_done : Machine
  then_done = happens m (Host_does event)

  abbrev Comes : FrameParts → Type 0
  Comes frame = IsFromSaying these TellsPlainly frame

  -- none is under way
  none_under : (u : UnderWay) → m.host.state.requests.under_way ≡ Some u → ⊥
  none_under u is = let wrong : Some u ≡ None = sym is ∙ next_is.0.none_under_way in absurd cc

  -- so no call is to be told
  no_call_told : HasCall m.host.state.requests.last_id (unheard m.outside.outer) → ⊥
  no_call_told has = by tie.tied
    where
      by : Tied true (ends_of m.host.state m.outside.outer.chip.state) (unheard m.outside.outer) (on_line m.host.state.side.turn) → ⊥
      by (Nowhere is) = none_called m.outside.outer.chip.state.joined m.host.state.requests.last_id (unheard m.outside.outer) is.leave has
      by (On_way u of fresh is) = none_under u of.under_way
      by (At_chip u of fresh is) = none_under u of.under_way
      by (Called u of fresh is) = none_under u of.under_way

  -- and nothing more of the attempt goes
  none_more : (next : ℕ) → IsElse n next m → (node_of m.host.state n).segments ≤ next → ⊥
  none_more next other none =
      let gives = gives_next n session message m.host.state cut opened running no_text alone tie.paid event next_is other.no_task in
      let less = gives.less in
      let is = other.next_is in
      absurd (omega (arith, less, none, count, is))

  pub asked_none : (place next : ℕ) → IsElse n next m → Asked these n session place m → ⊥
  asked_none place next other asked = by asked.first
    where
      by : HasCall m.host.state.requests.last_id asked.at.behind ⊎ ((node_of m.host.state n).segments ≤ (node_of m.host.state n).next_segment) → ⊥
      by (inl call) = no_call_told (subst (HasCall m.host.state.requests.last_id) (sym asked.at.are) (call_last m.host.state.requests.last_id asked.at.before (asked.at.one ∷ asked.at.behind) (inr call)))
      by (inr none) = none_more next other (subst (λ (k : ℕ). (node_of m.host.state n).segments ≤ k) other.next_is none)

  -- what is to be given is on its way to the chip
  abbrev Goes_out : ℕ → ℕ → Machine → Type 0
  Goes_out place next later = IsToGive n session message place next (Submitting passes ticks) later

  pub given_on : (place next : ℕ) → IsToGive n session message place next (Submitting passes ticks) m → IsToGive n session message place next (Submitting passes ticks) then_done
  given_on place next (Owed owed empty next_segment less follows) = by (gives_next n session message m.host.state cut opened running no_text alone tie.paid event next_is empty)
    where
      of : (more : Bool) (payload : List ℕ) → payload ≡ segment_at session message place → (h : HostState) → h ≡ after m.host.state (Gives_segment n more payload) → (later : Machine) → later.host.state ≡ h → Goes_out place next later
      of more payload text h is later host =
          let node : node_of h n ≡ after_segment (node_of m.host.state n) = ap (λ (g : HostState). node_of g n) is ∙ segment_node n m.host.state more payload (subst (λ (l : ℕ). n < l) (sym places) within) in
          let all : later.host.state ≡ after m.host.state (Gives_segment n more payload) = host ∙ is in
          Given (record { purpose = Attempt n more payload; progress = Submitted }) tt (ap (λ (g : HostState). g.requests.queue) all ∙ empty) (ap (λ (g : HostState). g.requests.under_way) all)
          (By_attempt more (ap (λ (p : List ℕ). Attempt n more p) text)) (ap (λ (g : HostState). on_line g.side.turn) all ∙ ap (λ (g : HostState). frame_of (Attempt n more payload) g.requests.last_id ∷ []) (sym all))
          (ap (λ (g : HostState). (node_of g n).next_segment) host ∙ (ap (λ (x : NodeState). x.next_segment) node ∙ (ap (λ (k : ℕ). k + 1) next_segment ∙ sym follows)))

      by : GivesPart n session message m.host.state cut opened running no_text alone tie.paid event next_is → IsToGive n session message place next (Submitting passes ticks) then_done
      by gives =
          of gives.more gives.payload (gives.text ∙ ap (λ (k : ℕ). segment_at session message k) next_segment) (after m.host.state (Gives_segment n gives.more gives.payload)) refl then_done
          (host_then m event ∙ ap (after m.host.state) gives.is)
  given_on place next (Waits owed waits next_segment) =
      let task : Task = Segment n (segment_at session message place) in
      let is : event ≡ Submits_front = front_next n session message m.host.state cut opened running no_text alone tie.paid event next_is task waits in
      let all : then_done.host.state ≡ after m.host.state Submits_front = host_then m event ∙ ap (after m.host.state) is in
      let front = front_given m.host.state task waits in
      Given (record { purpose = Housekeeping task; progress = Submitted }) tt (ap (λ (g : HostState). g.requests.queue) all ∙ front.0) (ap (λ (g : HostState). g.requests.under_way) all ∙ front.1.0) (By_task refl)
      (ap (λ (g : HostState). on_line g.side.turn) all ∙ (front_line task waits ∙ ap (λ (id : ℕ). frame_of (Housekeeping task) id ∷ []) (sym (ap (λ (g : HostState). g.requests.last_id) all ∙ front.1.1))))
      (ap (λ (g : HostState). (node_of g n).next_segment) all ∙ next_segment)
    where
      front_line : (task : Task) → m.host.state.requests.queue ≡ task ∷ [] → on_line (after m.host.state Submits_front).side.turn ≡ frame_of (Housekeeping task) (next_id m.host.state.requests.last_id) ∷ []
      front_line task waits_it = ap (λ (tasks : List Task). frame_of (task_purpose tasks) (next_id m.host.state.requests.last_id) ∷ []) waits_it
  given_on place next (Given request asking empty under_way carries line next_segment) = absurd (none_under request under_way)

  told_on : AllTold these (unheard m.outside.outer) → AllTold these (unheard then_done.outside.outer)
  told_on all =
      all_wrapped Comes (unheard m.outside.outer) (unheard then_done.outside.outer)
      (does_says Comes (Wraps Comes (unheard m.outside.outer)) (wraps_pile Comes (unheard m.outside.outer)) airs m event (itself_wraps Comes (unheard m.outside.outer))) all

  air : on_air then_done.outside.outer.air.frames ≡ on_air m.outside.outer.air.frames
  air = (does_calm airs m event).on

  -- a request that flies is under way
  module _ (sends : one_if (is_some m.outside.outer.chip.state.sending) ≡ outward (on_air m.outside.outer.air.frames)) where
    none_flies : outward (on_air m.outside.outer.air.frames) ≡ 1 → ⊥
    none_flies one = by tie.tied
      where
        by : Tied true (ends_of m.host.state m.outside.outer.chip.state) (unheard m.outside.outer) (on_line m.host.state.side.turn) → ⊥
        by (Nowhere is) = let no : one_if (is_some m.outside.outer.chip.state.sending) ≡ 0 = ap (λ (s : Option Sending). one_if (is_some s)) is.idle in absurd (omega (arith, sends, one, no))
        by (On_way u of fresh is) = none_under u of.under_way
        by (At_chip u of fresh is) = none_under u of.under_way
        by (Called u of fresh is) = none_under u of.under_way

    -- the frames as they were
    ask_then : (k : ℕ) (at : Amid (ComesPlainly these) (IsAsk n session k) (on_air m.outside.outer.air.frames)) → (there : Amid (ComesPlainly these) (IsAsk n session k) (on_air then_done.outside.outer.air.frames)) × (there.before ≡ at.before)
    ask_then k at = (record { before = at.before; one = at.one; behind = at.behind; are = air ∙ at.are; each = at.each; is = at.is; rest = at.rest }, refl)

    way_submits : (next later : ℕ) (hears : ToHear) → OnWay these n session message next later (Submitting passes ticks) m hears → OnWay these n session message next later (Submitting passes ticks) then_done hears
    way_submits next later hears (To_give place is give all told some) = To_give place is (given_on place next give) (subst (AllPlain these) (sym air) all) (told_on told) some
    way_submits next later hears (Aired place is other at told few) = absurd (none_flies (amid_out these (IsOnAir n (segment_at session message place)) (on_air m.outside.outer.air.frames) (λ frame f. f.out) at))
    way_submits next later hears (To_give_two place k is give at one told some) = let there = ask_then k at in To_give_two place k is (given_on place next give) there.0 refl (told_on told) some
    way_submits next later hears (Aired_two place k is other at told level few) =
        absurd (none_flies (amid_two_out these (IsAsk n session k) (IsOnAir n (segment_at session message place)) (on_air m.outside.outer.air.frames) (λ frame f. f.home) (λ frame f. f.out) at))
    way_submits next later hears (Aired_told place k is other at asked few) = absurd (none_flies (amid_out these (IsOnAir n (segment_at session message place)) (on_air m.outside.outer.air.frames) (λ frame f. f.out) at))
    way_submits next later hears (Asks place is other is_free none at told few) = absurd (none_more next other none)
    way_submits next later hears (Asks_told place is other owes all asked) = absurd (asked_none place next other asked)
    way_submits next later hears (Asks_told_two place k is other owes asked at one some) = absurd (asked_none place next other asked)

-- ---- the whole

-- it is one of these
abbrev pub IsPartEvent : ℕ → HostEvent → Type 0
IsPartEvent n event = ((more : Bool) × ((payload : List ℕ) × (event ≡ Gives_segment n more payload))) ⊎ (event ≡ Submits_front)

-- what the host has of the node then
record SameNode (old new : NodeState) : Type 0 where
  commands_are : new.book.commands ≡ old.book.commands
  count : new.segments ≡ old.segments
  text_is : new.text ≡ old.text
  pending_is : new.pending ≡ old.pending

part_node : (n : ℕ) (h : HostState) (event : HostEvent) → n < length h.nodes → IsPartEvent n event → SameNode (node_of h n) (node_of (after h event) n)
part_node n h event within (inl (more, (payload, is))) =
    let node : node_of (after h event) n ≡ after_segment (node_of h n) = ap (λ (e : HostEvent). node_of (after h e) n) is ∙ segment_node n h more payload within in
    record {
      commands_are = ap (λ (x : NodeState). x.book.commands) node;
      count = ap (λ (x : NodeState). x.segments) node;
      text_is = ap (λ (x : NodeState). x.text) node;
      pending_is = ap (λ (x : NodeState). x.pending) node;
    }
part_node n h event within (inr is) =
    let node : node_of (after h event) n ≡ node_of h n = ap (λ (e : HostEvent). node_of (after h e) n) is in
    record {
      commands_are = ap (λ (x : NodeState). x.book.commands) node;
      count = ap (λ (x : NodeState). x.segments) node;
      text_is = ap (λ (x : NodeState). x.text) node;
      pending_is = ap (λ (x : NodeState). x.pending) node;
    }

module _ (airs : Airs) (these : List Bool) (n session : ℕ) (within : n < 233) (passes ticks : ℕ) (m : Machine) (event : HostEvent) (next_is : IsNext m.host.state event) (tie : TieOf true m (on_line m.host.state.side.turn)) (places : length m.host.state.nodes ≡ 233)
    (opened : open_session (node_of m.host.state n).book ≡ Some session) (running : (node_of m.host.state n).series ≡ series.Running) (alone : (k : ℕ) → next_of m.host.state.nodes m.host.state.served ≡ Some k → k ≡ n)
    (sends : one_if (is_some m.outside.outer.chip.state.sending) ≡ outward (on_air m.outside.outer.air.frames)) (left : ℕ) (parts : Parts these n session left (Submitting passes ticks) m) where
  gives_it : (place next : ℕ) → IsToGive n session parts.message place next (Submitting passes ticks) m → IsPartEvent n event
  gives_it place next (Owed owed empty next_segment less follows) =
      let gives = gives_next n session parts.message m.host.state parts.cut opened running parts.no_text alone tie.paid event next_is empty in inl (gives.more, (gives.payload, gives.is))
  gives_it place next (Waits owed waits next_segment) = inr (front_next n session parts.message m.host.state parts.cut opened running parts.no_text alone tie.paid event next_is (Segment n (segment_at session parts.message place)) waits)
  gives_it place next (Given request asking empty under_way carries line next_segment) = absurd (let wrong : Some request ≡ None = sym under_way ∙ next_is.0.none_under_way in cc)

  -- any other way, nothing is submitted
  pub submits_it : (next later : ℕ) (hears : ToHear) → OnWay these n session parts.message next later (Submitting passes ticks) m hears → IsPartEvent n event
  submits_it next later hears (To_give place is give all told some) = gives_it place next give
  submits_it next later hears (To_give_two place k is give at one told some) = gives_it place next give
  submits_it next later hears (Aired place is other at told few) = let gives = gives_next n session parts.message m.host.state parts.cut opened running parts.no_text alone tie.paid event next_is other.no_task in inl (gives.more, (gives.payload, gives.is))
  submits_it next later hears (Aired_two place k is other at told level few) = let gives = gives_next n session parts.message m.host.state parts.cut opened running parts.no_text alone tie.paid event next_is other.no_task in inl (gives.more, (gives.payload, gives.is))
  submits_it next later hears (Aired_told place k is other at asked few) = let gives = gives_next n session parts.message m.host.state parts.cut opened running parts.no_text alone tie.paid event next_is other.no_task in inl (gives.more, (gives.payload, gives.is))
  submits_it next later hears (Asks place is other is_free none at told few) = let gives = gives_next n session parts.message m.host.state parts.cut opened running parts.no_text alone tie.paid event next_is other.no_task in inl (gives.more, (gives.payload, gives.is))
  submits_it next later hears (Asks_told place is other owes all asked) = let gives = gives_next n session parts.message m.host.state parts.cut opened running parts.no_text alone tie.paid event next_is other.no_task in inl (gives.more, (gives.payload, gives.is))
  submits_it next later hears (Asks_told_two place k is other owes asked at one some) =
      let gives = gives_next n session parts.message m.host.state parts.cut opened running parts.no_text alone tie.paid event next_is other.no_task in inl (gives.more, (gives.payload, gives.is))

  pub parts_submit : Parts these n session left (Submitting passes ticks) (happens m (Host_does event))
  parts_submit =
      let node = part_node n m.host.state event (subst (λ (l : ℕ). n < l) (sym places) within) (submits_it parts.next parts.later parts.hears parts.way) in
      let host = host_then m event in
      let first = same_first n m.outside.devices (happens m (Host_does event)).outside.devices (devices_host-all m (event ∷ [])) parts.stands in
      record {
        message = parts.message;
        cut = subst (IsCut n session parts.message) (sym host) (cut_stays n session parts.message m.host.state event node.commands_are parts.cut);
        count = ap (λ (h : HostState). (node_of h n).segments) host ∙ (node.count ∙ parts.count);
        no_text = ap (λ (h : HostState). (node_of h n).text) host ∙ (node.text_is ∙ parts.no_text);
        no_pending = ap (λ (h : HostState). (node_of h n).pending) host ∙ (node.pending_is ∙ parts.no_pending);
        stands = first.0;
        hears = parts.hears;
        inside = parts.inside;
        next = parts.next;
        later = parts.later;
        way = way_submits airs these n session within passes ticks m event next_is tie places opened running parts.no_text alone parts.message parts.cut parts.count sends parts.next parts.later parts.hears parts.way;
        ticks = parts.ticks;
        within = within_so session parts.message parts.stands.device first.0.device first.1 parts.hears parts.next parts.ticks parts.within;
        few = parts.few;
      }
