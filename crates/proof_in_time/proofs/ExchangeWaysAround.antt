-- What is known beside an exchange of a lock alone as an event comes: its devices are at no work, and no other speaks. So what is on the air stays as it is, but where a frame arrives, and where the chip takes a request.
use Rattle.std.proofs.Common.{◌≡◌, ◌≤◌, ◌<◌, ℕ, ◌+◌, ◌==◌, inl, inr, Bool, true, false, Option, Some, None, List, [], ◌∷◌, length, refl, sym, ap, ◌∙◌, subst, arith}
use Rattle.std.proofs.lemmas.Bool.{eq-eqb, eqb-true}
use Rattle.std.specs.Prelude.{◌⊎◌, option_map, slice_get}
use Rattle.std.specs.Option.{is_some}
use Rattle.zw_base.proofs.Each.{all-get}
use Rattle.zw_text.specs.declared.entry.Entry.TheVariants as entry
use Rattle.serial_frame.specs.Stream.{Rest}
use Rattle.serial_frame.specs.declared.item.Item.{Item}
use Rattle.route_table.specs.declared.route.Route.{Route}
use Rattle.chip_functions.specs.Field.{IsNode}
use Rattle.chip_sim.specs.Nodes.{is_marked}
use Rattle.chip_sim.specs.declared.out.Sending.{Sending}
use Rattle.air_frames.specs.Flown.{Flown}
use Rattle.air_frames.specs.declared.frame.Heading.{Heading}
use Rattle.device_kinds.specs.Kind.{listens}
use Rattle.device_kinds.specs.declared.kind.Kind.{Kind}
use Rattle.device_kinds.specs.declared.kind.Kind.TheVariants as kinds
use Rattle.device_sim.specs.Event.{DeviceEvent, Ticks, Wakes, device_replies}
use Rattle.device_sim.specs.State.{State}
use Rattle.mesh_sim.specs.Air.{AirState, is_joined}
use Rattle.mesh_sim.specs.Fates.{place_of}
use Rattle.mesh_sim.specs.Routes.{backwards}
use Rattle.mesh_sim.specs.Steps.{answered_if}
use Rattle.host_model.specs.Events.{Accepts}
use Rattle.outside_model.specs.Devices.{acts_at, acts_by_hand}
use Rattle.outside_model.specs.Events.{Chip_takes, Cuts, Device_ticks, Shows, Wakes_device, mesh_of, outcome}
use Rattle.outside_model.specs.State.{OuterState}
use Rattle.world_model.specs.Events.{Event, Host_does, May, Outside_does, Refuses, Shows_values, happens, shown_values}
use Rattle.world_model.specs.State.{Machine}
use Rattle.proof_course_plain.proofs.Replies.{one_place, one_stands}
use Rattle.proof_course_sealed.specs.Mesh.{HasLock}
use Rattle.proof_answered.specs.proof_calm.proof_traffic.Facts.{one_if}
use Rattle.proof_answered.specs.proof_calm.proof_traffic.OnAir.{on_air}
use Rattle.proof_answered.specs.proof_calm.proof_traffic.OutsideTraffic.{one_outward, outward}
use Rattle.proof_answered.specs.proof_calm.proof_work.proof_walk.Phases.{Phase, Moved, Moving}
use Rattle.proof_answered.specs.proof_calm.Awaited.{AwaitsAt}
use Rattle.proof_answered.specs.proof_calm.Passes.{chip_taken}
use Rattle.proof_answered.specs.proof_calm.Resting.{IsEffect, LineAt}
use Rattle.proof_answered.specs.proof_calm.Routed.{IsRouted}
use Rattle.proof_answered.specs.proof_calm.Tied.{IsPeopled, RoomAt, TieAt, on_line}
use Rattle.proof_answered.specs.Heard.{IsHeardThen}
use Rattle.proof_answered.specs.Outward.{IsSentTo}
use Rattle.proof_answered.specs.Sleepers.{IsAlone}
use Rattle.proof_answered.specs.Workers.{IsAway, IsLineFor, LinesAt, OnlySpeak}
use Rattle.proof_answered.proofs.Arrivals.{outward-append}
use Rattle.proof_answered.proofs.Calm.{does_calm, enters_calm}
use Rattle.proof_answered.proofs.ChipNotices.{entered_leaves}
use Rattle.proof_answered.proofs.proof_traffic_Parts.{Airs}
use Rattle.proof_in_time.specs.Coming.{Stands}
use Rattle.proof_in_time.specs.Exchange.{IsOut}
use Rattle.proof_in_time.specs.Locks.{LockInStep}
use Rattle.proof_in_time.proofs.PartsFlying.{sends_as}
use Rattle.proof_in_time.proofs.PartsMoved.{busy_air, free_air}
use Rattle.proof_in_time.proofs.Plainly.{ticks_silent, wakes_silent}

-- what is known of the machine as the event comes, and then
pub record AroundLock (these : List Bool) (n : ℕ) (here next : Phase) (m : Machine) (event : Event) : Type 0 where
  pub may : May m event
  pub line : LineAt here m
  pub awaits : AwaitsAt here m
  pub room : RoomAt here m
  pub routed : IsRouted m.outside.outer
  pub none_aborted : m.outside.outer.chip.state.aborted ≡ 0
  pub tie : TieAt here m
  pub peopled : IsPeopled these m
  pub then_line : LineAt next (happens m event)
  pub then_awaits : AwaitsAt next (happens m event)
  pub then_routed : IsRouted (happens m event).outside.outer
  pub then_none : (happens m event).outside.outer.chip.state.aborted ≡ 0
  pub then_tie : TieAt next (happens m event)
  pub sent : IsSentTo these m event
  pub heard : IsHeardThen m event
  pub lines : LinesAt these here
  pub speak : OnlySpeak these m
  pub joined : is_joined m.outside.outer.air n ≡ true
  pub step : LockInStep n m

-- ---- no device speaks

acts_silent : (o : OuterState) (found : Option State) (event : DeviceEvent) (route : Option Route) → ((device : State) → found ≡ Some device → device_replies device event ≡ []) → (acts_at o found event route).outer.air ≡ o.air
acts_silent o None event route silent = refl
acts_silent o (Some device) event route silent = by (is_joined o.air device.node)
  where
    by : (joined : Bool) → answered_if joined o.air device.node (option_map backwards route) (device_replies device event) ≡ o.air
    by true = ap (λ (rs : List (List ℕ)). answered_if true o.air device.node (option_map backwards route) rs) (silent device refl)
    by false = refl

module _ (these : List Bool) (n : ℕ) (alone : IsAlone these n) (m : Machine) (step : LockInStep n m) where
  lock_there : HasLock step.past n step.courses (mesh_of m.outside).devices
  lock_there = step.follows.outside.mesh.device

  -- its devices are at no work
  own_idle : (place : ℕ) (device : State) → slice_get m.outside.devices place ≡ Some device → device.node ≡ n → device.work_left ≡ 0
  own_idle place device there own = by (place == lock_there.place) refl
    where
      by : (b : Bool) → (place == lock_there.place) ≡ b → device.work_left ≡ 0
      by true same =
          let it : lock_there.device ≡ device = one_stands m.outside.devices lock_there.place place lock_there.device device lock_there.stands there (sym (eqb-true place lock_there.place same)) in
          subst (λ (d : State). d.work_left ≡ 0) it lock_there.at.lock.idle
      by false other = (lock_there.others place device there own (λ e. let wrong : true ≡ false = sym (eq-eqb place lock_there.place e) ∙ other in absurd cc)).no_work

  -- so none says anything at a tick
  tick_silent : OnlySpeak these m → (place : ℕ) (drawn : List ℕ) (device : State) → slice_get m.outside.devices place ≡ Some device → device_replies device (Ticks drawn) ≡ []
  tick_silent speak place drawn device there = by (is_marked these device.node) refl
    where
      by : (b : Bool) → is_marked these device.node ≡ b → device_replies device (Ticks drawn) ≡ []
      by true marked = ticks_silent device drawn (own_idle place device there (alone.only device.node marked))
      by false other = ticks_silent device drawn (all-get (IsAway these) m.outside.devices place device speak.devices there other)

  pub ticks_air : OnlySpeak these m → (place : ℕ) (drawn : List ℕ) (route : Option Route) → on_air (happens m (Outside_does (Device_ticks place drawn route))).outside.outer.air.frames ≡ on_air m.outside.outer.air.frames
  unfolding outcome happens
  ticks_air speak place drawn route =
      ap (λ (a : AirState). on_air a.frames)
      ((entered_leaves (outcome m.outside (Device_ticks place drawn route)).outer (outcome m.outside (Device_ticks place drawn route)).entries).air
      ∙ acts_silent m.outside.outer (slice_get m.outside.devices place) (Ticks drawn) route (λ device there. tick_silent speak place drawn device there))

  -- nor as it is woken by hand
  lock_listens : (kind : Kind) → kind ≡ kinds.Lock → listens kind ≡ true
  lock_listens kind is = ap listens is

  pub wakes_air : (node : ℕ) (route : Option Route) → is_marked these node ≡ true → on_air (happens m (Outside_does (Wakes_device node route))).outside.outer.air.frames ≡ on_air m.outside.outer.air.frames
  unfolding outcome happens
  wakes_air node route marked =
      ap (λ (a : AirState). on_air a.frames) ((entered_leaves (outcome m.outside (Wakes_device node route)).outer (outcome m.outside (Wakes_device node route)).entries).air ∙ by (place_of node m.outside.devices) refl)
    where
      by : (place : Option ℕ) → place_of node m.outside.devices ≡ place → (acts_by_hand m.outside.outer m.outside.devices place Wakes route).outer.air ≡ m.outside.outer.air
      by None is = refl
      by (Some place) is =
          acts_silent m.outside.outer (slice_get m.outside.devices place) Wakes route
          (λ device there.
          let own : place_of n m.outside.devices ≡ Some place = subst (λ (j : ℕ). place_of j m.outside.devices ≡ Some place) (alone.only node marked) is in
          let same : lock_there.device ≡ device = one_stands m.outside.devices lock_there.place place lock_there.device device lock_there.stands there (one_place n m.outside.devices lock_there.place place lock_there.first own) in
          wakes_silent device (subst (λ (d : State). listens d.kind ≡ true) same (lock_listens lock_there.device.kind lock_there.at.lock.kind)))

  -- ---- an effect of a line

  pub effect_air : Airs → (event : Event) → IsEffect event → IsLineFor these event → on_air (happens m event).outside.outer.air.frames ≡ on_air m.outside.outer.air.frames
  unfolding outcome happens
  effect_air airs (Outside_does (Wakes_device node route)) is marked = wakes_air node route marked
  effect_air airs (Outside_does (Shows node)) is marked = ap (λ (a : AirState). on_air a.frames) (entered_leaves (outcome m.outside (Shows node)).outer (outcome m.outside (Shows node)).entries).air
  effect_air airs (Outside_does (Cuts size)) is marked = refl
  effect_air airs (Host_does (Accepts order carriage)) is marked = (does_calm airs m (Accepts order carriage)).on
  effect_air airs (Refuses of refusal) is marked = (enters_calm airs m (entry.Refused refusal)).on
  effect_air airs (Shows_values node) is marked = (enters_calm airs m (shown_values m.host.state node)).on
  effect_air airs (Outside_does event) is marked = absurd is
  effect_air airs (Host_does event) is marked = absurd is
  effect_air airs event is marked = absurd is

-- ---- the chip takes its bytes

-- a frame for the node is one of the host's
pub out_some : (n : ℕ) (Is : List ℕ → Type 0) (flights : List Flown) → Stands (IsOut n Is) flights → 1 ≤ outward flights
out_some n Is flights at =
    let both = outward-append at.before (at.frame ∷ at.behind) in
    let one : outward (at.frame ∷ at.behind) ≡ 1 + outward at.behind = ap (λ (h : Heading). one_outward h + outward at.behind) at.is.out in
    let all = ap outward at.are in
    omega (arith, both, one, all)

module _ (airs : Airs) (these : List Bool) (many : length these ≡ 233) (n : ℕ) (alone : IsAlone these n) (is_node : IsNode n) where
  below : n < 233
  below = let few = is_node.1 in omega (arith, few)

  -- where it has none of the host, or one of the host is on the air, nothing goes
  pub moves_air : (passes ticks : ℕ) (m : Machine) (rest : Rest) (ways : List (Item × Option Route))
      → AroundLock these n (Moving passes ticks) (Moved true passes ticks) m (Outside_does (Chip_takes (length m.outside.outer.to_chip.bytes) rest ways))
      → (on_line m.host.state.side.turn ≡ []) ⊎ (1 ≤ outward (on_air m.outside.outer.air.frames)) → on_air (chip_taken m rest ways).outside.outer.air.frames ≡ on_air m.outside.outer.air.frames
  moves_air passes ticks m rest ways a either = by m.outside.outer.chip.state.sending refl either
    where
      sends : one_if (is_some m.outside.outer.chip.state.sending) ≡ outward (on_air m.outside.outer.air.frames)
      sends = sends_as m a.awaits a.routed a.none_aborted

      then_sends : one_if (is_some (chip_taken m rest ways).outside.outer.chip.state.sending) ≡ outward (on_air (chip_taken m rest ways).outside.outer.air.frames)
      then_sends = sends_as (chip_taken m rest ways) a.then_awaits a.then_routed a.then_none

      by : (s : Option Sending) → m.outside.outer.chip.state.sending ≡ s → (on_line m.host.state.side.turn ≡ []) ⊎ (1 ≤ outward (on_air m.outside.outer.air.frames)) → on_air (chip_taken m rest ways).outside.outer.air.frames ≡ on_air m.outside.outer.air.frames
      by (Some sending) is some =
          busy_air airs these many n 0 alone.marked is_node below passes ticks m rest ways a.awaits a.may a.line a.room a.tie a.then_line a.then_tie a.sent a.peopled sends then_sends (sym sends ∙ ap (λ (s : Option Sending). one_if (is_some s)) is)
      by None is (inl silent) =
          free_air airs these many n 0 alone.marked is_node below passes ticks m rest ways a.awaits a.may a.line a.room a.tie a.then_line a.then_tie a.sent a.peopled sends then_sends (record { quiet = is; silent = silent })
      by None is (inr some) = let none : one_if (is_some m.outside.outer.chip.state.sending) ≡ 0 = ap (λ (s : Option Sending). one_if (is_some s)) is in absurd (omega (arith, sends, none, some))
