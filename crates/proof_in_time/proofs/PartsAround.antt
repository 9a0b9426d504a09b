-- What the segments of an attempt of a node alone that listens ask of what is known beside: its device takes them, hears what is for it, and speaks alone; and the host serves it alone, and tells no node that there is no more.
use Rattle.std.proofs.Common.{◌≡◌, ◌≤◌, ℕ, inl, inr, ◌&&◌, Bool, true, false, Option, Some, None, List, [], refl, sym, ap, ◌∙◌, subst}
use Rattle.std.specs.Prelude.{◌==◌, option_map, slice_get}
use Rattle.std.specs.List.{AllByRecursion}
use Rattle.std.specs.Option.{is_some}
use Rattle.zw_base.proofs.Each.{all-get, all-weaker}
use Rattle.route_table.specs.declared.route.Route.{Route}
use Rattle.supervision.specs.Host.{begun_of}
use Rattle.chip_functions.specs.Field.{IsNode}
use Rattle.chip_sim.specs.Nodes.{is_marked}
use Rattle.air_frames.specs.Flown.{Flown}
use Rattle.air_frames.specs.Frames.{next_of as next_frame}
use Rattle.air_frames.specs.declared.frame.Heading.TheVariants.{Outward}
use Rattle.device_kinds.specs.Kind.{listens, lists}
use Rattle.device_sim.specs.Event.{Ticks, Wakes, device_replies}
use Rattle.device_sim.specs.State.{State}
use Rattle.mesh_sim.specs.Air.{AirState, is_joined}
use Rattle.mesh_sim.specs.Fates.{fate_of, place_of}
use Rattle.mesh_sim.specs.Routes.{backwards}
use Rattle.mesh_sim.specs.Steps.{answered_if}
use Rattle.mesh_sim.specs.declared.fate.Fate.TheVariants.{AtDevice}
use Rattle.host_node.specs.Search.{first_wanting}
use Rattle.host_node.specs.State.{NodeState, has_waiting, is_false, is_idle, is_unasked, wants_no_more}
use Rattle.host_node.specs.TableState.{node_of as node_among}
use Rattle.host_node.proofs.Searches.{what_is_least}
use Rattle.host_model.specs.State.{node_of}
use Rattle.outside_model.specs.Devices.{acts_at, acts_by_hand}
use Rattle.outside_model.specs.Events.{Arrives, Wakes_device, outcome}
use Rattle.outside_model.specs.State.{OuterState}
use Rattle.world_model.specs.Events.{Outside_does, happens}
use Rattle.world_model.specs.State.{Machine}
use Rattle.proof_messages.specs.Reporting.{TellsPlainly}
use Rattle.proof_course_plain.proofs.Replies.{one_place, one_stands}
use Rattle.proof_answered.specs.proof_calm.proof_traffic.OnAir.{on_air}
use Rattle.proof_answered.specs.proof_calm.proof_work.proof_walk.Phases.{Between}
use Rattle.proof_answered.specs.proof_calm.Awaited.{Awaits}
use Rattle.proof_answered.specs.Listening.{HasListener}
use Rattle.proof_answered.specs.proof_calm.Live.{HasLive}
use Rattle.proof_answered.specs.Outward.{AllListen, IsOf}
use Rattle.proof_answered.specs.Sleepers.{All_listen, IsAlone, TellsQuietly}
use Rattle.proof_answered.specs.Workers.{IsAway, KnowsWorkers, OnlySpeak}
use Rattle.proof_answered.proofs.AwakeNodes.{all_heard}
use Rattle.proof_answered.proofs.ChipNotices.{entered_leaves}
use Rattle.proof_answered.proofs.Outwards.{next_flight}
use Rattle.proof_answered.proofs.Staffing.{still_wants}
use Rattle.proof_answered.proofs.proof_traffic_Parts.{Airs}
use Rattle.proof_in_time.specs.Answering.{IsInStep}
use Rattle.proof_in_time.specs.InStep.{HasInStep}
use Rattle.proof_in_time.specs.Untold.{NoneEnds}
use Rattle.proof_in_time.proofs.PartsArriving.{TakesParts}
use Rattle.proof_in_time.proofs.PartsInStep.{hears_there, only_kind}
use Rattle.proof_in_time.proofs.PartsPhases.{AnswersPlainly}
use Rattle.proof_in_time.proofs.Plainly.{Tells, quiet_tells, ticks_silent, ticks_so, wakes_silent}

-- ---- what is woken and listens says nothing

hand_same : (o : OuterState) (found : Option State) (route : Option Route) → ((device : State) → found ≡ Some device → device_replies device Wakes ≡ []) → (acts_at o found Wakes route).outer.air ≡ o.air
hand_same o None route silent = refl
hand_same o (Some device) route silent = by (is_joined o.air device.node)
  where
    by : (joined : Bool) → answered_if joined o.air device.node (option_map backwards route) (device_replies device Wakes) ≡ o.air
    by true = ap (λ (rs : List (List ℕ)). answered_if true o.air device.node (option_map backwards route) rs) (silent device refl)
    by false = refl

wants_none : (a b c d e f g : Bool) → b ≡ false → (a && b && c && d && e && f && g) ≡ true → ⊥
wants_none true true c d e f g listens wants = absurd cc
wants_none true false c d e f g listens wants = absurd (let wrong : false ≡ true = wants in cc)
wants_none false b c d e f g listens wants = absurd (let wrong : false ≡ true = wants in cc)

listener_wants : (x : NodeState) → x.listens ≡ true → wants_no_more x ≡ true → ⊥
listener_wants x listens wants = wants_none x.awake (is_false x.listens) (is_some x.classes) (is_unasked x.no_more) (is_false (has_waiting x)) (is_idle x.series) (x.hold == 0) (ap is_false listens) wants

module _ (these : List Bool) (n : ℕ) (alone : IsAlone these n) (m : Machine) where
  -- the host tells nobody that there is no more, and serves the node alone
  pub none_wants : KnowsWorkers these m.host.state → (node_of m.host.state n).listens ≡ true → (k : ℕ) → first_wanting m.host.state.nodes ≡ Some k → ⊥
  none_wants knows listens k is =
      let wants : wants_no_more (node_of m.host.state k) ≡ true = (what_is_least (λ (node : ℕ). wants_no_more (node_among m.host.state.nodes node)) 0 k is).is_one in
      by wants (is_marked these k) refl
    where
      by : wants_no_more (node_of m.host.state k) ≡ true → (b : Bool) → is_marked these k ≡ b → ⊥
      by wants true marked = listener_wants (node_of m.host.state k) (subst (λ (j : ℕ). (node_of m.host.state j).listens ≡ true) (sym (alone.only k marked)) listens) wants
      by wants false other = still_wants (node_of m.host.state k) (knows.others k other) wants

  -- the frame that arrives, where it is of a device, is of this one
  pub owns_next : (airs : Airs) (is : Awaits m) → OnlySpeak these m → (frame : Flown) → next_frame m.outside.outer.air.frames ≡ Some frame → is_marked these frame.node ≡ true
  owns_next airs is speak frame next =
      let first = next_flight airs is.log (on_air m.outside.outer.air.frames) m.outside.outer.air.frames frame is.follows.fly next in
      (subst (AllByRecursion (IsOf these)) first.1 speak.frames).0

  module _ (step : HasInStep n m) where
    steps : (k : ℕ) → is_marked these k ≡ true → HasInStep k m
    steps k marked = subst (λ (j : ℕ). HasInStep j m) (sym (alone.only k marked)) step

    -- its device, if any, says at a tick what tells plainly
    pub ticks_plainly : Tells → OnlySpeak these m → (place : ℕ) (drawn : List ℕ) (device : State) → slice_get m.outside.devices place ≡ Some device → AnswersPlainly these device (Ticks drawn)
    ticks_plainly tells speak place drawn device there = by (is_marked these device.node) refl
      where
        by : (b : Bool) → is_marked these device.node ≡ b → AnswersPlainly these device (Ticks drawn)
        by true marked = inl (marked, all-weaker TellsQuietly TellsPlainly quiet_tells (device_replies device (Ticks drawn)) (ticks_so these m steps tells place device drawn marked there))
        by false other = inr (ticks_silent device drawn (all-get (IsAway these) m.outside.devices place device speak.devices there other))

    -- woken by hand it says nothing
    pub wakes_same : HasListener n m.outside.devices → (node : ℕ) (route : Option Route) → is_marked these node ≡ true
        → on_air (happens m (Outside_does (Wakes_device node route))).outside.outer.air.frames ≡ on_air m.outside.outer.air.frames
    unfolding outcome happens
    wakes_same listener node route marked =
        ap (λ (a : AirState). on_air a.frames) ((entered_leaves (outcome m.outside (Wakes_device node route)).outer (outcome m.outside (Wakes_device node route)).entries).air ∙ by (place_of node m.outside.devices) refl)
      where
        by : (place : Option ℕ) → place_of node m.outside.devices ≡ place → (acts_by_hand m.outside.outer m.outside.devices place Wakes route).outer.air ≡ m.outside.outer.air
        by None is = refl
        by (Some place) is =
            hand_same m.outside.outer (slice_get m.outside.devices place) route
            (λ device there.
            let own : place_of n m.outside.devices ≡ Some place = subst (λ (j : ℕ). place_of j m.outside.devices ≡ Some place) (alone.only node marked) is in
            let same : listener.device ≡ device = one_stands m.outside.devices listener.place place listener.device device listener.stands there (one_place n m.outside.devices listener.place place listener.first own) in
            wakes_silent device (subst (λ (d : State). listens d.kind ≡ true) same listener.is_up.is_listening))

    -- it takes the segments, and hears what is for it
    pub record Takes (session : ℕ) : Type 0 where
      pub takes : TakesParts n session m
      pub heard : (frame : Flown) → next_frame m.outside.outer.air.frames ≡ Some frame → frame.node ≡ n → frame.heading ≡ Outward → fate_of m.outside.outer.air.network m.outside.devices frame ≡ AtDevice takes.stands.place

    pub takes_all : (airs : Airs) (node : IsNode n) (session : ℕ) → begun_of (node_of m.host.state n).book ≡ session → 1 ≤ begun_of (node_of m.host.state n).book → lists step.device.kind 0x55 ≡ true → AllListen these m → Awaits m → HasLive these m.outside.outer → Takes session
    takes_all airs node session begun some cut listen is live =
        let listener = listen.nodes n alone.marked in
        let same : listener.device ≡ step.device = one_stands m.outside.devices listener.place step.place listener.device step.device listener.stands step.stands (one_place n m.outside.devices listener.place step.place listener.first step.first) in
        record {
          takes = record {
            stands = record { place = step.place; device = step.device; first = step.first; stands = step.stands };
            awake = subst (λ (d : State). d.awake ≡ true) same listener.is_up.awake;
            kind = only_kind step.device.kind cut;
            step = subst (λ (s : ℕ). IsInStep s step.device) begun (step.step some);
            at = step.plain.at;
            keeps = step.keeps;
            untold = λ next. subst (λ (s : ℕ). NoneEnds n s m) begun (step.untold node (begun ∙ next));
          };
          heard = λ frame next own out.
              let there = all_heard airs these Between [] m (Outside_does (Arrives [] None)) is live (All_listen listen) frame next out in
              hears_there n m step m.outside.outer.air.network frame there.0 own there.1;
        }
