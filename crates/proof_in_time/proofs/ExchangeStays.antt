-- What is so of the first device of a node after an event of the machine, and what stays so of a lock where it hears nothing: its nonces, what it seals, and its sessions.
use Rattle.std.proofs.Common.{◌≡◌, ◌≢◌, ◌≤◌, ℕ, ◌==◌, Bool, true, false, Option, Some, None, inl, List, [], ◌∷◌, refl, sym, ap, ◌∙◌, subst}
use Rattle.std.proofs.lemmas.Bool.{eq-eqb, eqb-true}
use Rattle.std.specs.Prelude.{slice_get, slice_set}
use Rattle.route_table.specs.declared.route.Route.{Route}
use Rattle.s0_crypto.specs.Sealing.{keys_of, sealed_text}
use Rattle.s0_session.specs.Sending.{Sending}
use Rattle.s0_session.specs.declared.account.Account.{Account}
use Rattle.supervision.specs.Device.{Taken}
use Rattle.air_frames.specs.Flown.{Flown}
use Rattle.air_frames.specs.Frames.{next_of}
use Rattle.air_frames.specs.declared.frame.Heading.TheVariants.{Outward}
use Rattle.device_kinds.specs.Kind.{host_node}
use Rattle.device_sim.specs.State.{State}
use Rattle.device_sim.specs.Event.{DeviceEvent, Hears, Sets, Ticks, Wakes, device_after, device_replies}
use Rattle.mesh_sim.specs.Fates.{Mesh, dead_hop_of, fate_of, listener_of, place_of}
use Rattle.mesh_sim.specs.Steps.{acknowledged, arriving, arriving_as, heard_at, landed, mesh_after}
use Rattle.mesh_sim.specs.declared.fate.Fate.{Fate}
use Rattle.mesh_sim.specs.declared.fate.Fate.TheVariants.{AtChip, AtDevice, Dead, Lost, Missed}
use Rattle.outside_model.specs.Devices.{device_set, set_by_hand}
use Rattle.outside_model.specs.Events.{Arrives, Device_ticks, Host_notes, OuterEvent, Repeats, Sets_device, Wakes_device, devices_after, mesh_of}
use Rattle.outside_model.specs.Events as outside
use Rattle.outside_model.specs.State.{Outside}
use Rattle.zw_text.specs.declared.entry.Entry.{Entry}
use Rattle.zw_text.specs.declared.entry.Entry.TheVariants.{Refused}
use Rattle.host_model.specs.Did.{outs_all}
use Rattle.world_model.specs.Events.{Decoder_ticks, Event, Host_does, Host_takes, Outside_does, Refuses, Restarts, Shows_values, fed, happens, shown_values}
use Rattle.world_model.specs.State.{Machine}
use Rattle.world_model.proofs.Hosting.{devices_host-all, routed_still}
use Rattle.proof_messages.specs.Locks.{Ignores, IsLock, IsUnheard}
use Rattle.proof_messages.specs.Reporting.{TellsOwn}
use Rattle.proof_messages.proofs.LockSessions.{waits_still}
use Rattle.proof_spoken.proofs.KeptKinds.{event_same}
use Rattle.proof_course_plain.proofs.Arrivals.{out_by}
use Rattle.proof_course_plain.proofs.ChangesOutside.{fate_listens, get_set, listener_is, place_is, place_set}
use Rattle.proof_course_plain.proofs.MadeSettings.{get_other}
use Rattle.proof_course_plain.proofs.Replies.{one_place, one_stands}
use Rattle.proof_in_time.specs.Exchange.{IsForLive, IsThere, IsUnheardAt, ReportWaits, SameLock, ShowsLive}
use Rattle.proof_in_time.specs.Locks.{LockInStep}

-- ---- the first device of a node, after an event

-- so it is of the first device of the node, whichever it is
abbrev Then : (State → Type 0) → ℕ → List State → Type 0
Then Is n later = (next : IsThere n later) → Is next.device

module _ (Is : State → Type 0) (n : ℕ) (unheard_so : (device : State) (event : DeviceEvent) → IsUnheard event → Is device → Is (device_after device event)) where
  at_then : (later : List State) (place : ℕ) (device : State) → place_of n later ≡ Some place → slice_get later place ≡ Some device → Is device → Then Is n later
  at_then later place device first stands so next =
      let there : next.place ≡ place = one_place n later next.place place next.first first in
      let same : next.device ≡ device = one_stands later next.place place next.device device next.stands stands there in
      subst Is (sym same) so

  same_then : (devices later : List State) → later ≡ devices → (is : IsThere n devices) → Is is.device → Then Is n later
  same_then devices later same is so = subst (Then Is n) (sym same) (at_then devices is.place is.device is.first is.stands so)

  -- one of them becomes another of its node
  set_then : (devices : List State) (place : ℕ) (device new : State) → slice_get devices place ≡ Some device → new.node ≡ device.node → (is : IsThere n devices) → Is is.device → (is.place ≡ place → is.device ≡ device → Is new)
      → Then Is n (slice_set devices place new)
  set_then devices place device new there node is so own = by (is.place == place) refl
    where
      first : place_of n (slice_set devices place new) ≡ Some is.place
      first = place_set n devices place device new there node ∙ is.first

      by : (b : Bool) → (is.place == place) ≡ b → Then Is n (slice_set devices place new)
      by true e =
          let same : is.place ≡ place = eqb-true is.place place e in
          let it : is.device ≡ device = one_stands devices is.place place is.device device is.stands there same in
          at_then (slice_set devices place new) is.place new first (subst (λ (k : ℕ). slice_get (slice_set devices place new) k ≡ Some new) (sym same) (get_set devices place device new there)) (own same it)
      by false e =
          let apart : is.place ≢ place = λ same. let wrong : true ≡ false = sym (eq-eqb is.place place same) ∙ e in absurd cc in
          at_then (slice_set devices place new) is.place is.device first (get_other devices place is.place new apart ∙ is.stands) so

  found_then : (devices : List State) (place : ℕ) (found : Option State) (event : DeviceEvent) → slice_get devices place ≡ found → (is : IsThere n devices) → Is is.device → (is.place ≡ place → Is (device_after is.device event))
      → Then Is n (device_set devices place found event)
  found_then devices place None event there is so own = same_then devices devices refl is so
  found_then devices place (Some device) event there is so own =
      set_then devices place device (device_after device event) there (event_same device event).node is so (λ same it. subst (λ (d : State). Is (device_after d event)) it (own same))

  hand_then : (devices : List State) (place : Option ℕ) (event : DeviceEvent) → IsUnheard event → (is : IsThere n devices) → Is is.device → Then Is n (set_by_hand devices place event)
  hand_then devices None event silent is so = same_then devices devices refl is so
  hand_then devices (Some place) event silent is so = found_then devices place (slice_get devices place) event refl is so (λ same. unheard_so is.device event silent so)

  -- a frame arrives, which is not for it
  heard_then : (at : Mesh) (place : ℕ) (found : Option State) (node : ℕ) (route : Option Route) (payload drawn : List ℕ) → slice_get at.devices place ≡ found → (is : IsThere n at.devices) → Is is.device → (is.place ≡ place → ⊥)
      → Then Is n (heard_at at place found node route (Hears payload drawn)).devices
  heard_then at place None node route payload drawn there is so other = same_then at.devices at.devices refl is so
  heard_then at place (Some device) node route payload drawn there is so other = found_then at.devices place (Some device) (Hears payload drawn) there is so (λ same. absurd (other same))

  module _ (at : Mesh) (frame : Flown) (drawn : List ℕ) (route : Option Route) (is : IsThere n at.devices) (so : Is is.device) (other : frame.heading ≡ Outward → frame.node ≢ n) where
    not_here : (place : ℕ) → fate_of at.air.network at.devices frame ≡ AtDevice place → is.place ≡ place → ⊥
    not_here place fate same =
        let out = out_by frame.lost (dead_hop_of at.air.network frame) frame.heading (listener_of frame.node at.devices) place fate in
        let listens = fate_listens frame.lost (dead_hop_of at.air.network frame) frame.heading (listener_of frame.node at.devices) place fate in
        let first = listener_is frame.node at.devices place listens in
        other out (sym (place_is frame.node at.devices is.place is.device (first ∙ ap Some (sym same)) is.stands) ∙ place_is n at.devices is.place is.device is.first is.stands)

    fate_then : (fate : Fate) → fate_of at.air.network at.devices frame ≡ fate → Then Is n (arriving_as at frame fate drawn route).devices
    fate_then Lost e = same_then at.devices at.devices refl is so
    fate_then (Dead from to) e = same_then at.devices at.devices refl is so
    fate_then Missed e = same_then at.devices at.devices refl is so
    fate_then AtChip e = same_then at.devices at.devices refl is so
    fate_then (AtDevice place) e =
        heard_then (record at { air = landed (acknowledged at.air) }) place (slice_get at.devices place) frame.node route frame.payload drawn refl
        (record { place = is.place; device = is.device; first = is.first; stands = is.stands }) so (not_here place e)

  arriving_then : (at : Mesh) (next : Option Flown) (drawn : List ℕ) (route : Option Route) → (is : IsThere n at.devices) → Is is.device → ((frame : Flown) → next ≡ Some frame → frame.heading ≡ Outward → frame.node ≢ n)
      → Then Is n (arriving at next drawn route).devices
  arriving_then at None drawn route is so other = same_then at.devices at.devices refl is so
  arriving_then at (Some frame) drawn route is so other = fate_then at frame drawn route is so (other frame refl) (fate_of at.air.network at.devices frame) refl

  -- ---- at each event

  outer_then : (m : Machine) (event : OuterEvent) → IsUnheardAt n m (Outside_does event) → (is : IsThere n m.outside.devices) → Is is.device → Then Is n (happens m (Outside_does event)).outside.devices
  unfolding happens devices_after mesh_after
  outer_then m (Arrives drawn route) none is so =
      arriving_then (mesh_of m.outside) (next_of m.outside.outer.air.frames) drawn route (record { place = is.place; device = is.device; first = is.first; stands = is.stands }) so none
  outer_then m (Repeats number drawn route) none is so = absurd none
  outer_then m (Device_ticks place drawn route) none is so = found_then m.outside.devices place (slice_get m.outside.devices place) (Ticks drawn) refl is so (λ same. unheard_so is.device (Ticks drawn) tt so)
  outer_then m (Wakes_device node route) none is so = hand_then m.outside.devices (place_of node m.outside.devices) Wakes tt is so
  outer_then m (Sets_device node value route) none is so = hand_then m.outside.devices (place_of node m.outside.devices) (Sets value) tt is so
  outer_then m event none is so = same_then m.outside.devices m.outside.devices refl is so

  note_still : (w : Outside) (e : Entry) → (outside.happens w (Host_notes e)).devices ≡ w.devices
  unfolding devices_after
  note_still w e = refl

  taken_still : (w : Outside) (count : ℕ) → (outside.happens w (outside.Host_takes count)).devices ≡ w.devices
  unfolding devices_after
  taken_still w count = refl

  pub event_then : (m : Machine) (event : Event) → IsUnheardAt n m event → (is : IsThere n m.outside.devices) → Is is.device → Then Is n (happens m event).outside.devices
  unfolding happens
  event_then m (Outside_does event) none is so = outer_then m event none is so
  event_then m (Host_does event) none is so = same_then m.outside.devices (happens m (Host_does event)).outside.devices (devices_host-all m (event ∷ [])) is so
  event_then m (Host_takes count rest items events) none is so =
      same_then m.outside.devices (happens m (Host_takes count rest items events)).outside.devices (routed_still (fed m count rest).outside (outs_all m.host.state events) ∙ taken_still m.outside count) is so
  event_then m Decoder_ticks none is so = same_then m.outside.devices m.outside.devices refl is so
  event_then m (Refuses line refusal) none is so = same_then m.outside.devices (happens m (Refuses line refusal)).outside.devices (note_still m.outside (Refused refusal)) is so
  event_then m (Shows_values node) none is so = same_then m.outside.devices (happens m (Shows_values node)).outside.devices (note_still m.outside (shown_values m.host.state node)) is so
  event_then m (Restarts state) none is so = same_then m.outside.devices m.outside.devices refl is so

-- ---- a lock that hears nothing

module _ (other : (device : State) (event : DeviceEvent) → IsLock device → IsUnheard event → Ignores device (device_after device event) (device_replies device event)) where
  unheard_same : (old : State) (device : State) (event : DeviceEvent) → IsUnheard event → SameLock old device → SameLock old (device_after device event)
  unheard_same old device event silent is =
      let still = other device event is.lock silent in
      let same = event_same device event in
      record { lock = still.lock; node = same.node ∙ is.node; key = same.key ∙ is.key; given = still.given ∙ is.given; sealing = still.sealing ∙ is.sealing; sessions = still.sessions ∙ is.sessions }

  pub lock_same : (n : ℕ) (m : Machine) (event : Event) → LockInStep n m → IsUnheardAt n m event → (at : IsThere n m.outside.devices) (later : IsThere n (happens m event).outside.devices) → SameLock at.device later.device
  lock_same n m event step none at later =
      let has = step.follows.outside.mesh.device in
      let same : has.device ≡ at.device = one_stands m.outside.devices has.place at.place has.device at.device has.stands at.stands (one_place n m.outside.devices has.place at.place has.first at.first) in
      event_then (SameLock at.device) n (unheard_same at.device) m event none at
      (record { lock = subst IsLock same has.at.lock; node = refl; key = refl; given = refl; sealing = refl; sessions = refl }) later

-- ---- what is so of its payloads

pub shows_stay : (old new : State) (payload : List ℕ) → SameLock old new → ShowsLive old payload → ShowsLive new payload
shows_stay old new payload same is = record { nonce = is.nonce; live = ap (λ (account : Account). account.live) same.given ∙ is.live; is = is.is }

pub for_live_stays : (session : ℕ) (old new : State) (payload : List ℕ) → SameLock old new → IsForLive session old payload → IsForLive session new payload
for_live_stays session old new payload same is = record {
  plain = is.plain;
  message = is.message;
  own = is.own;
  nonce = is.nonce;
  eight = is.eight;
  live = ap (λ (account : Account). account.live) same.given ∙ is.live;
  is = is.is
      ∙ (ap (λ (key : List ℕ). sealed_text (keys_of key) is.own is.nonce (record { sender = host_node; receiver = old.node }) is.plain) (sym same.key)
      ∙ ap (λ (node : ℕ). sealed_text (keys_of new.key) is.own is.nonce (record { sender = host_node; receiver = node }) is.plain) (sym same.node));
}

pub report_waits_stay : (session : ℕ) (old new : State) → IsLock old → SameLock old new → 1 ≤ session → ReportWaits session old → ReportWaits session new
report_waits_stay session old new lock same some waits = record {
  taken = ap (λ (taken : Taken). taken.taken) same.sessions ∙ waits.taken;
  over = λ working. waits.over (ap (λ (taken : Taken). taken.status) (sym same.sessions) ∙ working);
  waits = (
    waits.waits.0,
    (
      pending ∙ waits.waits.1.0,
      (
        (waits_still old new lock same.lock same.sessions (inl pending)
            (λ text is. (subst (λ (k : ℕ). 1 ≤ k) (sym waits.taken) some, subst (λ (t : List ℕ). TellsOwn old t) (let one : Some waits.waits.0 ≡ Some text = sym waits.waits.1.0 ∙ is in cc) waits.waits.1.1.0))
            waits.waits.0 (pending ∙ waits.waits.1.0)).1,
        waits.waits.1.1.1,
      ),
    ),
  );
}
  where
    pending : new.sealing.pending ≡ old.sealing.pending
    pending = ap (λ (sending : Sending). sending.pending) same.sealing
