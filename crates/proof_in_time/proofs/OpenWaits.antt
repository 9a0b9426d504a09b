-- Over lines for one node alone that listens and takes segments, no wait of an attempt runs out.
use Rattle.std.proofs.Common.{◌≡◌, ◌≢◌, ◌≤◌, ◌<◌, ℕ, suc, inl, inr, Bool, true, false, List, [], ◌++◌, length, sym, ap, ◌∙◌, subst, arith}
use Rattle.std.specs.Prelude.{◌⊎◌, Some}
use Rattle.zw_text.specs.declared.entry.Entry.{Entry}
use Rattle.chip_functions.specs.Field.{IsNode}
use Rattle.chip_sim.specs.Nodes.{is_marked}
use Rattle.device_kinds.specs.Kind.{lists}
use Rattle.device_kinds.specs.declared.kind.Kind.{Kind}
use Rattle.device_sim.specs.State.{State}
use Rattle.host_node.specs.Search.{next_of}
use Rattle.host_node.specs.declared.series.Series.TheVariants as series
use Rattle.host_model.specs.State.{HostState, node_of}
use Rattle.host_model.specs.Taking.{is_secure}
use Rattle.world_model.specs.Events.{Event, May, entries, happens}
use Rattle.world_model.specs.State.{Machine}
use Rattle.proof_spoken.specs.proof_device.GoingOn.{AreSame, IsSame}
use Rattle.proof_course_plain.proofs.Replies.{one_place, one_stands}
use Rattle.proof_answered.specs.proof_calm.proof_work.Phases.{AsksNothing}
use Rattle.proof_answered.specs.proof_calm.proof_work.proof_walk.Phases.{Between, Goes, Phase, Said_line, To_tick}
use Rattle.proof_answered.specs.proof_calm.proof_work.proof_walk.Walk.{WalkWhere}
use Rattle.proof_answered.specs.proof_calm.Quiet.{AreQuiet}
use Rattle.proof_answered.specs.Few.{Knows}
use Rattle.proof_answered.specs.FirstAttempts.{AndInTime, IsInTime, KnowFirst}
use Rattle.proof_answered.specs.Heard.{IsHeardThen}
use Rattle.proof_answered.specs.Outward.{AllListen, IsSentTo}
use Rattle.proof_answered.specs.Sleepers.{IsAlone}
use Rattle.proof_answered.specs.Workers.{IsWorkedFor, KnowStaff, KnowsWorkers}
use Rattle.proof_answered.proofs.Listeners.{same_place, stands_now}
use Rattle.proof_answered.proofs.proof_traffic_Parts.{Airs}
use Rattle.proof_in_time.specs.Coming.{IsKeptFor, most_then}
use Rattle.proof_in_time.specs.InStep.{AreInStep, HasInStep}
use Rattle.proof_in_time.specs.Open.{Gives, IsOpenly, KnowOpen, KnowOpenFirst, OpenAt, OpenCounts, Still, TakesCut, Trails}
use Rattle.proof_in_time.proofs.AloneWalk.{OneAlone, alone_first, alone_in_time, heard_then, known_tied, listen_then, sent_then, served_then}
use Rattle.proof_in_time.proofs.Bounded.{Devices}
use Rattle.proof_in_time.proofs.Commands.{on_openly}
use Rattle.proof_in_time.proofs.Keeping.{kept_before, none_unkept, told_kept}
use Rattle.proof_in_time.proofs.Lasting.{joined_on, keeps, node_within}
use Rattle.proof_in_time.proofs.OpenBeside.{AllTied, Beside, tied_at}
use Rattle.proof_in_time.proofs.OpenSteps.{TrailSteps, open_bare, open_lasts, open_later, open_more, open_said, open_some, open_turned}
use Rattle.proof_in_time.proofs.PartsArriving.{SegmentLaws}
use Rattle.proof_in_time.proofs.Plainly.{Tells}

-- ---- a moment

-- no task waits where no attempt runs
pub open_empty : (these : List Bool) (n most : ℕ) (here : Phase) (m : Machine) → (node_of m.host.state n).series ≢ series.Running → OpenAt these n most here m → m.host.state.requests.queue ≡ []
open_empty these n most here m still (Still w quiet) = quiet.no_task
open_empty these n most here m still (Gives w quiet) = absurd (still w.running)
open_empty these n most here m still (Trails w trail) = absurd (still trail.running)

-- it is one that listens, and its wait is not at its last tick
open_one : (these : List Bool) (here : Phase) (m : Machine) → IsOpenly these here m → OneAlone these (IsOpenly these) here m
open_one these here m o = record { n = o.n; alone = o.alone; listen = o.listen; lasts = λ facts. open_lasts these o.n here m 23 facts o.at }

pub open_in_time : (these : List Bool) (here : Phase) (past : List Entry) (m : Machine) (event : Event) → IsKeptFor these past → KnowOpen these here past m → IsInTime m event
open_in_time these here past m event is known = alone_in_time these (IsOpenly these) (open_one these) here past m event is known

-- ---- the device takes segments still

pub cuts_stay : (n : ℕ) (olds news : List State) → AreSame olds news → TakesCut n olds → TakesCut n news
cuts_stay n olds news same is =
    let later = stands_now IsSame olds news same is.place is.device is.stands in
    record { place = is.place; device = later.0; first = same_place n olds news same ∙ is.first; stands = later.1.0; cut = ap (λ (kind : Kind). lists kind 0x55) later.1.1.kind ∙ is.cut }

-- it is the one in step
cut_there : (n : ℕ) (m : Machine) (step : HasInStep n m) → TakesCut n m.outside.devices → lists step.device.kind 0x55 ≡ true
cut_there n m step is =
    let same : is.device ≡ step.device = one_stands m.outside.devices is.place step.place is.device step.device is.stands step.stands (one_place n m.outside.devices is.place step.place is.first step.first) in
    subst (λ (d : State). lists d.kind 0x55 ≡ true) same is.cut

-- ---- the walk

module _ (airs : Airs) (devices : Devices) (laws : SegmentLaws) (tells : Tells) (these : List Bool) (many : length these ≡ 233) (none : is_marked these 0 ≡ false)
    (workers : (h : HostState) (k : ℕ) → KnowsWorkers these h → next_of h.nodes h.served ≡ Some k → is_marked these k ≡ true)
    (trails : (n : ℕ) (alone : IsAlone these n) (is_node : IsNode n) → TrailSteps airs devices laws tells these many n alone is_node workers) where
  node_of_one : (n : ℕ) → IsAlone these n → IsNode n
  node_of_one n alone = node_within these many none n alone.marked

  -- of the node and of its device
  module _ (n : ℕ) (alone : IsAlone these n) (here : Phase) (m : Machine) (o : IsOpenly these here m) where
    own : o.n ≡ n
    own = alone.only o.n o.alone.marked

    own_cuts : TakesCut n m.outside.devices
    own_cuts = subst (λ (k : ℕ). TakesCut k m.outside.devices) own o.cuts

    own_served : (node_of m.host.state n).listens ≡ true
    own_served = subst (λ (k : ℕ). (node_of m.host.state k).listens ≡ true) own o.served

  beside_of : (here next : Phase) (past : List Entry) (m : Machine) (event : Event) → Goes here m event next → May m event → AreInStep these m event → IsKeptFor these (past ++ entries m event) → KnowOpen these here past m
      → AllTied these next (happens m event) → (n : ℕ) → IsAlone these n → Beside these n here next m event
  beside_of here next past m event goes may steps is known then_tied n alone =
      let before = kept_before these past (entries m event) is in
      let at = known before in
      let stretched = before.worked.stretched in
      let step = (steps n alone.marked).step in
      record {
        goes = goes;
        may = may;
        tied = tied_at these here m (known_tied these here past m before at.0.0);
        then_tied = tied_at these next (happens m event) then_tied;
        sent = sent_then these (IsOpenly these) (open_one these) airs here next past m event goes may before known;
        hears = heard_then these (IsOpenly these) (open_one these) airs here past m event before known;
        keeps = keeps m event (told_kept these past (entries m event) is);
        kept = none_unkept m event (told_kept these past (entries m event) is);
        lines = at.0.1.lines;
        speak = at.0.1.speak;
        knows = at.0.0.1 stretched;
        calls = (at.0.0.0 stretched).1;
        go = at.1.go;
        joined = at.1.joined;
        listen = at.1.listen;
        step = step;
        cut = cut_there n m step (own_cuts n alone here m at.1);
        served = own_served n alone here m at.1;
      }

  -- ---- within how many ticks

  pub open_counts : (n : ℕ) → IsAlone these n → OpenCounts these n
  open_counts n alone = record {
    later = λ here next past m event goes may steps is known later most at.
        open_later airs devices laws tells these many n alone (node_of_one n alone) workers (trails n alone (node_of_one n alone)) here next m event
        (beside_of here next past m event goes may steps is known (known_tied these next (past ++ entries m event) (happens m event) is (later is).0.0) n alone) most at;
    turned = λ here next past m turns is known later most at.
        open_turned airs devices laws tells these many n alone (node_of_one n alone) workers (trails n alone (node_of_one n alone)) here next m
        (record { turns = turns; tied = known_tied these here past m is (known is).0.0; then_tied = known_tied these next past m is (later is).0.0 }) most at;
    said = λ line m most at. open_said airs devices laws tells these many n alone (node_of_one n alone) workers (trails n alone (node_of_one n alone)) line m most at;
    some = λ most ticks m runs at. open_some airs devices laws tells these many n alone (node_of_one n alone) workers (trails n alone (node_of_one n alone)) most ticks m runs at;
  }

  most_few : (here : Phase) → most_then 23 here ≤ 23
  most_few (To_tick (suc ticks)) = omega arith
  most_few here = omega arith

  -- ---- from phase to phase

  module _ (listening : (here next : Phase) (past : List Entry) (m : Machine) (event : Event) → Goes here m event next → May m event → AreQuiet past → Knows these here past m → IsSentTo these m event → AllListen these m → AllListen these (happens m event))
      (stays : (n : ℕ) (m : Machine) (event : Event) → TakesCut n m.outside.devices → TakesCut n (happens m event).outside.devices) where
    openly_on : (here next : Phase) (past : List Entry) (m : Machine) (event : Event) → Goes here m event next → May m event → AreInStep these m event → IsKeptFor these (past ++ entries m event) → KnowOpen these here past m
        → AllTied these next (happens m event) → IsOpenly these next (happens m event)
    openly_on here next past m event goes may steps is known then_tied =
        let before = kept_before these past (entries m event) is in
        let at = known before in
        let tied = known_tied these here past m before at.0.0 in
        let o = at.1 in
        let node = node_of_one o.n o.alone in
        let below : o.n < 233 = (let few = node.1 in omega (arith, few)) in
        record {
          n = o.n;
          alone = o.alone;
          at = then_at o.n
              (open_later airs devices laws tells these many o.n o.alone node workers (trails o.n o.alone node) here next m event (beside_of here next past m event goes may steps is known then_tied o.n o.alone) 23 o.at);
          go = on_openly these here next m event goes tied.0 may (λ k marked. subst (λ (j : ℕ). is_secure (node_of m.host.state j).classes ≡ false) (sym (o.alone.only k marked)) (open_bare these o.n here m 23 o.at)) steps o.go;
          joined = joined_on these here next m event goes tied.0 may o.joined;
          listen = listen_then these (IsOpenly these) (open_one these) airs listening here next past m event goes may before known;
          cuts = stays o.n m event o.cuts;
          served = served_then these (IsOpenly these) (open_one these) airs here next past m event goes may is known o.n below o.served;
        }
      where
        then_at : (n : ℕ) → OpenAt these n (most_then 23 here) next (happens m event) ⊎ (((node_of m.host.state n).series ≡ series.Due) × OpenAt these n 23 next (happens m event)) → OpenAt these n 23 next (happens m event)
        then_at n (inl on) = open_more these n next (happens m event) (most_then 23 here) 23 (most_few here) on
        then_at n (inr (due, on)) = on

    openly_as : (here next : Phase) (m : Machine) → (o : IsOpenly these here m) → OpenAt these o.n 23 next m → IsOpenly these next m
    openly_as here next m o at = record { n = o.n; alone = o.alone; at = at; go = o.go; joined = o.joined; listen = o.listen; cuts = o.cuts; served = o.served }

    -- and each series is at its first attempt
    pub open_first : WalkWhere IsHeardThen AsksNothing (KnowStaff these) → WalkWhere (AndInTime IsHeardThen) AsksNothing (KnowFirst (IsWorkedFor these) (KnowStaff these)) → WalkWhere (AreInStep these) AsksNothing (KnowOpenFirst these)
    open_first staff first =
        alone_first these (IsOpenly these) (open_one these) airs staff (AreInStep these)
        (λ line m o.
        let node = node_of_one o.n o.alone in
        openly_as Between (Said_line line) m o (open_said airs devices laws tells these many o.n o.alone node workers (trails o.n o.alone node) line m 23 o.at))
        (λ here next m turns tied then_tied o.
        let node = node_of_one o.n o.alone in
        openly_as here next m o (open_turned airs devices laws tells these many o.n o.alone node workers (trails o.n o.alone node) here next m (record { turns = turns; tied = tied; then_tied = then_tied }) 23 o.at))
        openly_on first
