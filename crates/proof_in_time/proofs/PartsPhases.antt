-- From phase to phase segments stay on their way, where no frame arrives, the chip takes nothing, and the host does nothing.
use Rattle.std.proofs.Common.{◌≡◌, ◌≤◌, ◌<◌, ℕ, ◌+◌, ◌*◌, ◌==◌, inl, inr, Bool, true, false, List, [], ◌∷◌, ◌++◌, length, refl, sym, ap, ◌∙◌, subst, arith}
use Rattle.std.proofs.lemmas.Bool.{eq-eqb, eqb-true, lt-ltb}
use Rattle.std.proofs.lemmas.List.{append-nil}
use Rattle.std.specs.Prelude.{◌⊎◌, ◌||◌, Option, Some, None, option_map, slice_get, slice_set}
use Rattle.std.specs.Option.{is_some}
use Rattle.std.specs.List.{AllByRecursion}
use Rattle.zw_base.proofs.Each.{all-get}
use Rattle.supervision.specs.Device.{Taken}
use Rattle.serial_frame.specs.Frame.{FrameParts}
use Rattle.route_table.specs.declared.route.Route.{Route}
use Rattle.transport_segments.specs.Kept.{Reassembly}
use Rattle.transport_segments.specs.Places.{IsLeastMissing, IsThere}
use Rattle.chip_sim.specs.Nodes.{is_marked}
use Rattle.air_frames.specs.Flown.{Flown}
use Rattle.device_stack.specs.Ticking.{ticked}
use Rattle.device_sim.specs.Event.{DeviceEvent, Ticks, Wakes, device_after, device_replies, outcome_of}
use Rattle.device_sim.specs.State.{State}
use Rattle.mesh_sim.specs.Air.{AirState, is_joined}
use Rattle.mesh_sim.specs.Fates.{place_of}
use Rattle.mesh_sim.specs.Routes.{backwards}
use Rattle.mesh_sim.specs.Steps.{answered_if}
use Rattle.chip_functions.specs.Field.{IsNode}
use Rattle.host_node.specs.State.{NodeState, has_segment, has_work}
use Rattle.host_node.specs.declared.series.Series.{Series}
use Rattle.host_node.specs.declared.series.Series.TheVariants as series
use Rattle.host_model.specs.Pumping.{HasNothing}
use Rattle.host_model.specs.Sessions.{segment_count}
use Rattle.host_model.specs.State.{HostState, node_of}
use Rattle.outside_model.specs.Devices.{acts_at, device_set, set_by_hand}
use Rattle.outside_model.specs.State.{OuterState, Outcome}
use Rattle.outside_model.specs.Events.{Device_ticks, Wakes_device, devices_after, has_entered, outcome}
use Rattle.world_model.specs.Events.{Outside_does, happens}
use Rattle.world_model.specs.State.{Machine}
use Rattle.proof_messages.specs.Reporting.{TellsPlainly}
use Rattle.proof_messages.specs.Slices.{missing_to}
use Rattle.proof_answered.specs.proof_calm.proof_traffic.OnAir.{on_air}
use Rattle.proof_answered.specs.proof_calm.Awaited.{Awaits}
use Rattle.proof_answered.specs.proof_calm.proof_work.proof_walk.Phases.{Phase}
use Rattle.proof_answered.specs.proof_calm.Tied.{IsTied, on_line, unheard}
use Rattle.proof_answered.specs.proof_calm.Undisturbed.{HasNone, IsTaken}
use Rattle.proof_answered.specs.Workers.{IsFromSaying}
use Rattle.proof_answered.proofs.TurnOrder.{none_works}
use Rattle.proof_answered.proofs.Tying.{request_rests, rests_unheard}
use Rattle.proof_answered.proofs.ChipNotices.{entered_leaves}
use Rattle.proof_answered.proofs.proof_traffic_Parts.{Airs}
use Rattle.proof_course_plain.proofs.ChangesOutside.{get_set, place_set}
use Rattle.proof_course_plain.proofs.Devices.{ticks_idle, ticks_last, ticks_on, woken_sessions}
use Rattle.proof_course_plain.proofs.MadeSettings.{get_other}
use Rattle.proof_course_plain.proofs.Replies.{one_stands}
use Rattle.proof_spoken.proofs.KeptKinds.{event_same}
use Rattle.proof_in_time.specs.Coming.{IsAsking, one_later, ticks_left}
use Rattle.proof_in_time.specs.Owed.{IsFreeIn, IsFreeNow, IsOwed}
use Rattle.proof_in_time.specs.Parts.{AllPlain, HasBefore, HasFirst, IsCut, IsInTurn, IsWanted, Lacks_last, Lacks_none, Parts, Taken as Was_taken, ToHear, come, last_place, slot_of}
use Rattle.proof_in_time.proofs.Busy.{ticked_devices}
use Rattle.proof_in_time.proofs.PartsCarried.{AllHome, GivesIn, Gives_more, HasDue, Is_told, PhaseOn, SameFor, Task_waits, Wraps, way_on}
use Rattle.proof_in_time.proofs.PartsLanded.{SaidBy, answers_stand}

-- ---- what devices say

-- more frames, which ask for nothing
pub record GrowsPlain (these : List Bool) (flights later : List Flown) : Type 0 where
  pub more : List Flown
  pub are : later ≡ flights ++ more
  pub plain : AllPlain these more

pub same_plain : (these : List Bool) (o p : OuterState) → p.air ≡ o.air → GrowsPlain these (on_air o.air.frames) (on_air p.air.frames)
same_plain these o p air = record { more = []; are = ap (λ (a : AirState). on_air a.frames) air ∙ sym (append-nil (on_air o.air.frames)); plain = tt }

pub said_plain : (these : List Bool) (n : ℕ) (replies : List (List ℕ)) (news : List Flown) → is_marked these n ≡ true → AllByRecursion TellsPlainly replies → SaidBy n replies news → AllPlain these news
said_plain these n [] [] marked plain said = tt
said_plain these n [] (frame ∷ news) marked plain said = absurd said
said_plain these n (reply ∷ replies) [] marked plain said = absurd said
said_plain these n (reply ∷ replies) (frame ∷ news) marked plain said = (
  record { of = subst (λ (k : ℕ). is_marked these k ≡ true) (sym said.0.0) marked; home = said.0.1.0; plain = subst TellsPlainly (sym said.0.1.1) plain.0 },
  said_plain these n replies news marked plain.1 said.1,
)

-- one of these answers plainly, or none does
abbrev pub AnswersPlainly : List Bool → State → DeviceEvent → Type 0
AnswersPlainly these device event = ((is_marked these device.node ≡ true) × AllByRecursion TellsPlainly (device_replies device event)) ⊎ (device_replies device event ≡ [])

module _ (airs : Airs) (these : List Bool) (m : Machine) (is : Awaits m) where
  answers_if_plain : (joined : Bool) (device : State) (event : DeviceEvent) (way : Option Route) → device.node < 233 → AnswersPlainly these device event
      → GrowsPlain these (on_air m.outside.outer.air.frames) (on_air (answered_if joined m.outside.outer.air device.node way (device_replies device event)).frames)
  answers_if_plain true device event way within (inl (marked, plain)) =
      let says = answers_stand airs is.log (on_air m.outside.outer.air.frames) m.outside.outer.air device.node way (device_replies device event) within is.follows.fly in
      record { more = says.news; are = says.are; plain = said_plain these device.node (device_replies device event) says.news marked plain says.said }
  answers_if_plain true device event way within (inr none) =
      subst (λ (rs : List (List ℕ)). GrowsPlain these (on_air m.outside.outer.air.frames) (on_air (answered_if true m.outside.outer.air device.node way rs).frames)) (sym none)
      (same_plain these m.outside.outer m.outside.outer refl)
  answers_if_plain false device event way within either = same_plain these m.outside.outer m.outside.outer refl

  acts_plain : (place : ℕ) (found : Option State) (event : DeviceEvent) (route : Option Route) → slice_get m.outside.devices place ≡ found → ((device : State) → found ≡ Some device → AnswersPlainly these device event)
      → GrowsPlain these (on_air m.outside.outer.air.frames) (on_air (acts_at m.outside.outer found event route).outer.air.frames)
  acts_plain place None event route there says = same_plain these m.outside.outer m.outside.outer refl
  acts_plain place (Some device) event route there says =
      answers_if_plain (is_joined m.outside.outer.air device.node) device event (option_map backwards route) (all-get (λ (d : State). d.node < 233) m.outside.devices place device is.nodes there) (says device refl)

  then_plain : (x : Outcome) → GrowsPlain these (on_air m.outside.outer.air.frames) (on_air x.outer.air.frames) → GrowsPlain these (on_air m.outside.outer.air.frames) (on_air (has_entered x.outer x.entries).air.frames)
  then_plain x grows = record { more = grows.more; are = ap (λ (a : AirState). on_air a.frames) (entered_leaves x.outer x.entries).air ∙ grows.are; plain = grows.plain }

  pub ticks_plain : (place : ℕ) (drawn : List ℕ) (route : Option Route) → ((device : State) → slice_get m.outside.devices place ≡ Some device → AnswersPlainly these device (Ticks drawn))
      → GrowsPlain these (on_air m.outside.outer.air.frames) (on_air (happens m (Outside_does (Device_ticks place drawn route))).outside.outer.air.frames)
  unfolding outcome happens
  ticks_plain place drawn route says =
      then_plain (outcome m.outside (Device_ticks place drawn route)) (acts_plain place (slice_get m.outside.devices place) (Ticks drawn) route refl says)

-- ---- the device

-- its number of sessions, and what it keeps, stay
abbrev pub StaysSo : State → State → Type 0
StaysSo old new = (new.sessions.taken ≡ old.sessions.taken) × (new.reassembly ≡ old.reassembly)

ticks_so : (device : State) (drawn : List ℕ) → StaysSo device (device_after device (Ticks drawn))
unfolding device_after outcome_of
ticks_so device drawn = by (device.work_left == 0) (device.work_left == 1) refl refl
  where
    by : (none last : Bool) → (device.work_left == 0) ≡ none → (device.work_left == 1) ≡ last → StaysSo device (ticked device).device
    by true last n l = let is = ticks_idle device n in (ap (λ (t : Taken). t.taken) is.sessions, is.kept)
    by false false n l = let is = ticks_on device n l in (ap (λ (t : Taken). t.taken) is.sessions, is.kept)
    by false true n l = let is = ticks_last device n l in (ap (λ (t : Taken). t.taken) is.0, is.1)

wakes_so : (device : State) → StaysSo device (device_after device Wakes)
unfolding device_after outcome_of
wakes_so device = let is = woken_sessions device in (ap (λ (t : Taken). t.taken) is.0, is.1)

-- the first device of a node stays where it stood, and so
abbrev pub FirstStays : ℕ → List State → List State → Type 0
FirstStays n olds news = (is : HasFirst n olds) → (then_is : HasFirst n news) × StaysSo is.device then_is.device

pub same_first : (n : ℕ) (olds news : List State) → news ≡ olds → FirstStays n olds news
same_first n olds news same is = (
  record { place = is.place; device = is.device; first = ap (λ (ds : List State). place_of n ds) same ∙ is.first; stands = ap (λ (ds : List State). slice_get ds is.place) same ∙ is.stands },
  (refl, refl),
)

set_first : (n : ℕ) (devices : List State) (place : ℕ) (device new : State) → slice_get devices place ≡ Some device → new.node ≡ device.node → StaysSo device new → FirstStays n devices (slice_set devices place new)
set_first n devices place device new there node stays is = by (is.place == place) refl
  where
    by : (b : Bool) → (is.place == place) ≡ b → (then_is : HasFirst n (slice_set devices place new)) × StaysSo is.device then_is.device
    by true e =
        let same : is.place ≡ place = eqb-true is.place place e in
        let own : is.device ≡ device = one_stands devices is.place place is.device device is.stands there same in (
          record {
            place = is.place;
            device = new;
            first = place_set n devices place device new there node ∙ is.first;
            stands = subst (λ (k : ℕ). slice_get (slice_set devices place new) k ≡ Some new) (sym same) (get_set devices place device new there);
          },
          (stays.0 ∙ sym (ap (λ (d : State). d.sessions.taken) own), stays.1 ∙ sym (ap (λ (d : State). d.reassembly) own)),
        )
    by false e = (
      record {
        place = is.place;
        device = is.device;
        first = place_set n devices place device new there node ∙ is.first;
        stands = get_other devices place is.place new (λ same. let wrong : true ≡ false = sym (eq-eqb is.place place same) ∙ e in absurd cc) ∙ is.stands;
      },
      (refl, refl),
    )

found_first : (n : ℕ) (devices : List State) (place : ℕ) (found : Option State) (event : DeviceEvent) → slice_get devices place ≡ found → ((device : State) → StaysSo device (device_after device event)) → FirstStays n devices (device_set devices place found event)
found_first n devices place None event there stays = same_first n devices devices refl
found_first n devices place (Some device) event there stays = set_first n devices place device (device_after device event) there (event_same device event).node (stays device)

pub ticks_first : (n : ℕ) (m : Machine) (place : ℕ) (drawn : List ℕ) (route : Option Route) → FirstStays n m.outside.devices (happens m (Outside_does (Device_ticks place drawn route))).outside.devices
ticks_first n m place drawn route =
    subst (FirstStays n m.outside.devices) (sym (ticked_devices m place (slice_get m.outside.devices place) drawn route refl))
    (found_first n m.outside.devices place (slice_get m.outside.devices place) (Ticks drawn) refl (λ device. ticks_so device drawn))

hand_first : (n : ℕ) (devices : List State) (place : Option ℕ) → FirstStays n devices (set_by_hand devices place Wakes)
hand_first n devices None = same_first n devices devices refl
hand_first n devices (Some place) = found_first n devices place (slice_get devices place) Wakes refl wakes_so

pub wakes_first : (n : ℕ) (m : Machine) (node : ℕ) (route : Option Route) → FirstStays n m.outside.devices (happens m (Outside_does (Wakes_device node route))).outside.devices
unfolding happens devices_after
wakes_first n m node route = hand_first n m.outside.devices (place_of node m.outside.devices)

-- what has come to it stays so
module _ (session : ℕ) (message : List ℕ) (old new : State) (stays : StaysSo old new) where
  come_so : come session message new ≡ come session message old
  come_so = ap (λ (r : Reassembly). come session message (record old { reassembly = r })) stays.1

  next_so : session ≡ old.sessions.taken + 1 → session ≡ new.sessions.taken + 1
  next_so next = next ∙ ap (λ (k : ℕ). k + 1) (sym stays.0)

  before_so : (place : ℕ) → HasBefore session message place old → HasBefore session message place new
  before_so place (Was_taken same) = Was_taken (same ∙ sym stays.0)
  before_so place (Lacks_last next lacks below) =
      Lacks_last (next_so next) (subst (λ (ps : List (Option ℕ)). IsThere ps (39 * last_place message) → ⊥) (sym come_so) lacks) (subst (λ (ps : List (Option ℕ)). (k : ℕ) → k < place → IsThere ps (39 * k)) (sym come_so) below)
  before_so place (Lacks_none next all) = Lacks_none (next_so next) (subst (λ (ps : List (Option ℕ)). (k : ℕ) → k < segment_count message → IsThere ps (39 * k)) (sym come_so) all)

  pub within_so : (hears : ToHear) (next ticks : ℕ) → IsInTurn session message hears next old ticks ⊎ IsWanted session message hears old ticks → IsInTurn session message hears next new ticks ⊎ IsWanted session message hears new ticks
  within_so hears next ticks (inl turn) = inl (record { place = turn.place; alone = turn.alone; follows = turn.follows; before = before_so turn.place turn.before; few = turn.few })
  within_so hears next ticks (inr w) =
      inr (record {
        next = next_so w.next;
        last = subst (λ (ps : List (Option ℕ)). IsThere ps (39 * last_place message)) (sym come_so) w.last;
        least = w.least;
        first = subst (λ (ps : List (Option ℕ)). IsLeastMissing ps (39 * w.least)) (sym come_so) w.first;
        asked = w.asked;
        few = subst (λ (ps : List (Option ℕ)). 3 * missing_to ps (segment_count message) + slot_of hears w.least + 2 ≤ ticks) (sym come_so) w.few;
      })

-- ---- the whole

pub cut_so : (n session : ℕ) (message : List ℕ) (h g : HostState) → g ≡ h → IsCut n session message h → IsCut n session message g
cut_so n session message h g same cut = subst (IsCut n session message) (sym same) cut

-- where what the host has of them is as it was
module _ (these : List Bool) (n session : ℕ) (here to : Phase) (m then_m : Machine) (same : SameFor n here m.host.state then_m.host.state) (cuts : (message : List ℕ) → IsCut n session message m.host.state → IsCut n session message then_m.host.state)
    (owed : IsOwed here m → HasDue n m → IsOwed to then_m) (free : IsFreeIn here m → AllHome (on_air m.outside.outer.air.frames) → IsFreeIn to then_m) (asking : IsAsking here → (frame : FrameParts) → on_line m.host.state.side.turn ≡ frame ∷ [] → IsAsking to)
    (told : Wraps (IsFromSaying these TellsPlainly) (unheard m.outside.outer) (unheard then_m.outside.outer)) (air : GrowsPlain these (on_air m.outside.outer.air.frames) (on_air then_m.outside.outer.air.frames))
    (stays : FirstStays n m.outside.devices then_m.outside.devices) where
  pub parts_on : (left then_left : ℕ) (parts : Parts these n session left here m) (then_later : ℕ) → PhaseOn (GivesIn here m × GivesIn to then_m) (length (on_air m.outside.outer.air.frames)) parts.later then_later here to
      → then_later + left ≤ parts.later + then_left → Parts these n session then_left to then_m
  parts_on left then_left parts then_later fits less =
      let few = parts.few in
      let first = stays parts.stands in
      record {
        message = parts.message;
        cut = cuts parts.message parts.cut;
        count = same.count ∙ parts.count;
        no_text = same.text_is ∙ parts.no_text;
        no_pending = same.pending_is ∙ parts.no_pending;
        stands = first.0;
        hears = parts.hears;
        inside = parts.inside;
        next = parts.next;
        later = then_later;
        way = way_on these n session parts.message here to m then_m same owed free asking told parts.next parts.later then_later air.more air.are air.plain fits parts.hears parts.way;
        ticks = parts.ticks;
        within = within_so session parts.message parts.stands.device first.0.device first.1 parts.hears parts.next parts.ticks parts.within;
        few = omega (arith, few, less);
      }

  -- no fewer ticks are to come before any frame arrives
  pub parts_stay : (left : ℕ) → ((place : ℕ) → place < length (on_air m.outside.outer.air.frames) → ticks_left to + one_later to place ≤ ticks_left here + one_later here place) → (GivesIn here m × GivesIn to then_m → (place : ℕ) → one_later here place ≡ 1 → one_later to place ≡ 1)
      → ((first second : ℕ) → first < second → second < length (on_air m.outside.outer.air.frames) → one_later here second ≤ one_later here first → one_later to second ≤ one_later to first) → Parts these n session left here m → Parts these n session left to then_m
  parts_stay left joint apart level parts =
      parts_on left left parts parts.later
      (record { joint = λ place within. let one = joint place within in omega (arith, one); apart = λ gives place within one. apart gives place one; some = λ gives some. some; level = level; fewer = omega arith }) (omega arith)

-- ---- a node that works

works_running : (x : NodeState) → x.series ≡ series.Running → x.next_segment < x.segments → has_work x ≡ true
works_running x running less = subst (λ (s : Series). has_work (record x { series = s }) ≡ true) (sym running) (or_true (is_some x.text) (has_segment x) (lt-ltb x.next_segment x.segments less))
  where
    or_true : (a b : Bool) → b ≡ true → (a || b) ≡ true
    or_true true b is = refl
    or_true false b is = is

-- where a settling ends nothing is to be done
pub none_due : (these : List Bool) (n : ℕ) (m : Machine) → IsTied these m → IsNode n → (node_of m.host.state n).series ≡ series.Running → HasDue n m → IsFreeNow m → ⊥
none_due these n m tied node running due free = of (request_rests m tied).request due
  where
    of : (HasNone m × HasNothing m.host.state) ⊎ IsTaken m → HasDue n m → ⊥
    of (inl (none, nothing)) (Gives_more empty less) =
        let idle = none_works m.host.state.nodes n node.0 node.1 m.host.state.served nothing.no_work in
        absurd (let wrong : true ≡ false = sym (works_running (node_of m.host.state n) running less) ∙ idle in cc)
    of (inl (none, nothing)) (Task_waits task waits) = absurd (let wrong : task ∷ [] ≡ [] = sym waits ∙ nothing.no_task in cc)
    of (inl (none, nothing)) (Is_told some) = some (rests_unheard m tied.rests)
    of (inr taken) due_is = absurd (let wrong = sym free.quiet ∙ taken.sending in cc)
