-- The first device of a node makes of its sessions what is asked of it, at each event of the machine, where it does as it hears, ticks and is woken: the host leaves the devices as they are.
use Rattle.std.proofs.Common.{◌≡◌, ◌≢◌, ℕ, ◌==◌, ◌⊎◌, inl, inr, Bool, true, false, Option, Some, None, List, [], ◌∷◌, refl, ap, sym, ◌∙◌, subst, arith}
use Rattle.std.specs.Prelude.{slice_get, slice_set}
use Rattle.std.proofs.lemmas.Bool.{eqb-true}
use Rattle.route_table.specs.declared.route.Route.{Route}
use Rattle.air_frames.specs.declared.ages.Refusal.{Refusal}
use Rattle.air_frames.specs.declared.frame.Heading.{Heading}
use Rattle.air_frames.specs.declared.frame.Heading.TheVariants.{Outward, Homeward}
use Rattle.air_frames.specs.Flown.{Flown}
use Rattle.air_frames.specs.Frames.{next_of, remembered}
use Rattle.air_frames.specs.Ages.{refusal_of}
use Rattle.device_sim.specs.State.{State}
use Rattle.device_sim.specs.Event.{Hears, Ticks, Wakes, Sets, device_after}
use Rattle.mesh_sim.specs.declared.fate.Fate.{Fate}
use Rattle.mesh_sim.specs.declared.fate.Fate.TheVariants as fate
use Rattle.mesh_sim.specs.Air.{AirState}
use Rattle.mesh_sim.specs.Fates.{Mesh, place_of, listener_of, fate_of, dead_hop_of}
use Rattle.mesh_sim.specs.Steps.{landed, acknowledged, heard_at, arriving_as, arriving, heard_again, repeating_by, repeating, mesh_after}
use Rattle.mesh_sim.specs.Steps as mesh
use Rattle.outside_model.specs.State.{Outside}
use Rattle.outside_model.specs.Devices.{device_set, set_by_hand}
use Rattle.outside_model.specs.Events.{OuterEvent, Host_takes as host_takes, Host_notes, Arrives, Repeats, Device_ticks, Wakes_device, Sets_device, devices_repeated, devices_after, happens as happens_outside}
use Rattle.host_model.specs.Did.{outs_all}
use Rattle.world_model.specs.State.{Machine}
use Rattle.world_model.specs.Events.{Event, Outside_does, Host_does, Host_takes, Decoder_ticks, Refuses, Shows_values, Restarts, fed, shown_values, happens}
use Rattle.zw_text.specs.declared.entry.Entry.{Entry}
use Rattle.zw_text.specs.declared.entry.Entry.TheVariants.{Refused}
use Rattle.proof_once.proofs.Hosting.{devices_host-all, routed_still}
use Rattle.proof_traffic.proofs.ChangesOutside.{place_is, listener_is, fate_listens, get_set}
use Rattle.proof_course_plain.specs.Meaning.{Asked}
use Rattle.proof_course_plain.specs.Judged.{Judges, JudgesAt, JudgesEach, IsNoHandOutside, IsNoHand}
use Rattle.proof_course_plain.proofs.Arrivals.{out_by, awake_at_place}
use Rattle.proof_course_plain.proofs.MadeSettings.{get_other}
use Rattle.proof_course_plain.proofs.Replies.{one_stands}

-- ---- what the host does leaves the devices

-- it is not outside the host
abbrev pub IsInside : Event → Type 0
IsInside (Outside_does event) = ⊥
IsInside event = Unit {0}

note_still : (w : Outside) (e : Entry) → (happens_outside w (Host_notes e)).devices ≡ w.devices
unfolding devices_after
note_still w e = refl

taken_still : (w : Outside) (count : ℕ) → (happens_outside w (host_takes count)).devices ≡ w.devices
unfolding devices_after
taken_still w count = refl

devices_still : (m : Machine) (event : Event) → IsInside event → (happens m event).outside.devices ≡ m.outside.devices
unfolding happens
devices_still m (Outside_does event) inside = absurd inside
devices_still m (Host_does event) inside = devices_host-all m (event ∷ [])
devices_still m (Host_takes count rest items events) inside = routed_still (fed m count rest).outside (outs_all m.host.state events) ∙ taken_still m.outside count
devices_still m Decoder_ticks inside = refl
devices_still m (Refuses line refusal) inside = note_still m.outside (Refused refusal)
devices_still m (Shows_values n) inside = note_still m.outside (shown_values m.host.state n)
devices_still m (Restarts state) inside = refl

-- and what happens outside leaves the host
pub one_side : (m : Machine) (event : Event) → ((happens m event).outside.devices ≡ m.outside.devices) ⊎ ((happens m event).host.state ≡ m.host.state)
unfolding happens
one_side m (Outside_does event) = inr refl
one_side m event = inl (devices_still m event tt)

-- ---- the devices of a node

module _ (node : ℕ) (orders : List Asked) (commands : List ℕ) (devices : List State) (place : ℕ) (device : State) (first : place_of node devices ≡ Some place) (stands : slice_get devices place ≡ Some device) where
  -- they are as they were
  stays : JudgesAt node orders commands devices devices
  stays = record {
    place = place;
    device = device;
    later = device;
    first = first;
    stood = stands;
    stands = stands;
    judged = inl (record { sessions = refl; journal = refl });
  }

  stayed : (later : List State) → later ≡ devices → JudgesAt node orders commands devices later
  stayed later same = subst (λ (ds : List State). JudgesAt node orders commands devices ds) (sym same) stays

  -- one of them is another: the first of the node, or one elsewhere
  one_set : (at : ℕ) (one new : State) → slice_get devices at ≡ Some one → (at ≡ place → one ≡ device → Judges orders commands one new) → JudgesAt node orders commands devices (slice_set devices at new)
  one_set at one new stood own = by (place == at) refl
    where
      by : (b : Bool) → (place == at) ≡ b → JudgesAt node orders commands devices (slice_set devices at new)
      by true e =
          let here : at ≡ place = sym (eqb-true place at e) in
          record {
            place = at;
            device = one;
            later = new;
            first = first ∙ ap Some (sym here);
            stood = stood;
            stands = get_set devices at one new stood;
            judged = own here (one_stands devices at place one device stood stands here);
          }
      by false e = record {
        place = place;
        device = device;
        later = device;
        first = first;
        stood = stands;
        stands = get_other devices at place new (grind (arith, e)) ∙ stands;
        judged = inl (record { sessions = refl; journal = refl });
      }

  -- ---- frames

  module _ (air : AirState) (each : JudgesEach node orders commands air.frames device) where
    abbrev m : Mesh
    m = record { air = air; devices = devices }

    frame_judged : (frame : Flown) (drawn : List ℕ) (at : ℕ) (one : State) → listener_of frame.node devices ≡ Some at → slice_get devices at ≡ Some one
        → (frame.node ≡ node → device.awake ≡ true → Judges orders commands device (device_after device (Hears frame.payload drawn)))
        → JudgesAt node orders commands devices (slice_set devices at (device_after one (Hears frame.payload drawn)))
    frame_judged frame drawn at one listens stood judged = one_set at one (device_after one (Hears frame.payload drawn)) stood own
      where
        named : one.node ≡ frame.node
        named = place_is frame.node devices at one (listener_is frame.node devices at listens) stood

        own : at ≡ place → one ≡ device → Judges orders commands one (device_after one (Hears frame.payload drawn))
        own here same =
            let mine : one.node ≡ node = place_is node devices at one (first ∙ ap Some (sym here)) stood in
            subst (λ (d : State). Judges orders commands d (device_after d (Hears frame.payload drawn))) (sym same)
            (judged (sym named ∙ mine) (ap (λ (d : State). d.awake) (sym same) ∙ awake_at_place devices frame.node at one listens stood))

    -- the next frame arrives
    at_device : (frame : Flown) (drawn : List ℕ) (route : Option Route) (at : ℕ) (found : Option State) → next_of air.frames ≡ Some frame → slice_get devices at ≡ found → fate_of air.network devices frame ≡ fate.AtDevice at
        → JudgesAt node orders commands devices (heard_at (record m { air = landed (acknowledged air) }) at found frame.node route (Hears frame.payload drawn)).devices
    at_device frame drawn route at None next stood is = stays
    at_device frame drawn route at (Some one) next stood is =
        frame_judged frame drawn at one (fate_listens frame.lost (dead_hop_of air.network frame) frame.heading (listener_of frame.node devices) at is) stood
        (λ own awake. each.arrives frame drawn next own (out_by frame.lost (dead_hop_of air.network frame) frame.heading (listener_of frame.node devices) at is) awake)

    by_fate : (frame : Flown) (drawn : List ℕ) (route : Option Route) (x : Fate) → next_of air.frames ≡ Some frame → fate_of air.network devices frame ≡ x → JudgesAt node orders commands devices (arriving_as m frame x drawn route).devices
    by_fate frame drawn route fate.Lost next is = stays
    by_fate frame drawn route (fate.Dead from to) next is = stays
    by_fate frame drawn route fate.Missed next is = stays
    by_fate frame drawn route fate.AtChip next is = stays
    by_fate frame drawn route (fate.AtDevice at) next is = at_device frame drawn route at (slice_get devices at) next refl is

    arriving_judged : (drawn : List ℕ) (route : Option Route) (found : Option Flown) → next_of air.frames ≡ found → JudgesAt node orders commands devices (arriving m found drawn route).devices
    arriving_judged drawn route None next = stays
    arriving_judged drawn route (Some frame) next = by_fate frame drawn route (fate_of air.network devices frame) next refl

    -- a frame is heard again
    module _ (number : ℕ) (frame : Flown) (drawn : List ℕ) (route : Option Route) (fresh : refusal_of air.frames number ≡ None) (known : remembered air.frames number ≡ Some frame) where
      device_again : (at : ℕ) (found : Option State) → slice_get devices at ≡ found → listener_of frame.node devices ≡ Some at → frame.heading ≡ Outward
          → JudgesAt node orders commands devices (heard_at m at found frame.node route (Hears frame.payload drawn)).devices
      device_again at None stood listens outward = stays
      device_again at (Some one) stood listens outward = frame_judged frame drawn at one listens stood (λ own awake. each.repeats number frame drawn fresh known own outward awake)

      listener_again : (listener : Option ℕ) → listener_of frame.node devices ≡ listener → frame.heading ≡ Outward
          → JudgesAt node orders commands devices (heard_again m listener frame.node route (Hears frame.payload drawn)).devices
      listener_again None listens outward = stays
      listener_again (Some at) listens outward = device_again at (slice_get devices at) refl listens outward

      again_by : (heading : Heading) → frame.heading ≡ heading → JudgesAt node orders commands devices (repeating_by heading m frame drawn route).devices
      again_by Outward e = listener_again (listener_of frame.node devices) refl e
      again_by Homeward e = stays

    repeat_judged : (number : ℕ) (drawn : List ℕ) (route : Option Route) (found : Option Flown) → remembered air.frames number ≡ found → refusal_of air.frames number ≡ None
        → JudgesAt node orders commands devices (repeating m found drawn route).devices
    repeat_judged number drawn route None known fresh = stays
    repeat_judged number drawn route (Some frame) known fresh = again_by number frame drawn route fresh known frame.heading refl

    -- ---- a tick, a wake-up, a hand elsewhere

    tick_judged : (at : ℕ) (found : Option State) (drawn : List ℕ) → slice_get devices at ≡ found → JudgesAt node orders commands devices (device_set devices at found (Ticks drawn))
    tick_judged at None drawn stood = stays
    tick_judged at (Some one) drawn stood =
        one_set at one (device_after one (Ticks drawn)) stood (λ here same. subst (λ (d : State). Judges orders commands d (device_after d (Ticks drawn))) (sym same) (each.ticks drawn))

    wake_judged : (at : ℕ) (found : Option State) → slice_get devices at ≡ found → JudgesAt node orders commands devices (device_set devices at found Wakes)
    wake_judged at None stood = stays
    wake_judged at (Some one) stood = one_set at one (device_after one Wakes) stood (λ here same. subst (λ (d : State). Judges orders commands d (device_after d Wakes)) (sym same) each.wakes)

    hand_judged : (n value at : ℕ) (found : Option State) → n ≢ node → place_of n devices ≡ Some at → slice_get devices at ≡ found → JudgesAt node orders commands devices (device_set devices at found (Sets value))
    hand_judged n value at None other there stood = stays
    hand_judged n value at (Some one) other there stood =
        one_set at one (device_after one (Sets value)) stood (λ here same. absurd (other (sym (place_is n devices at one there stood) ∙ place_is node devices at one (first ∙ ap Some (sym here)) stood)))

    wakes_judged : (at : Option ℕ) → JudgesAt node orders commands devices (set_by_hand devices at Wakes)
    wakes_judged None = stays
    wakes_judged (Some at) = wake_judged at (slice_get devices at) refl

    sets_judged : (n value : ℕ) (at : Option ℕ) → n ≢ node → place_of n devices ≡ at → JudgesAt node orders commands devices (set_by_hand devices at (Sets value))
    sets_judged n value None other there = stays
    sets_judged n value (Some at) other there = hand_judged n value at (slice_get devices at) other there refl

-- ---- an event outside the host

module _ (node : ℕ) (orders : List Asked) (commands : List ℕ) (w : Outside) (place : ℕ) (device : State) (first : place_of node w.devices ≡ Some place) (stands : slice_get w.devices place ≡ Some device)
    (each : JudgesEach node orders commands w.outer.air.frames device) where
  repeats_judged : (number : ℕ) (drawn : List ℕ) (route : Option Route) (refused : Option Refusal) → refusal_of w.outer.air.frames number ≡ refused
      → JudgesAt node orders commands w.devices (devices_repeated w refused (mesh.Repeats number drawn route))
  unfolding mesh_after
  repeats_judged number drawn route (Some refused) e = stays node orders commands w.devices place device first stands
  repeats_judged number drawn route None e = repeat_judged node orders commands w.devices place device first stands w.outer.air each number drawn route (remembered w.outer.air.frames number) refl e

  outer_judged : (event : OuterEvent) → IsNoHandOutside node event → JudgesAt node orders commands w.devices (devices_after w event)
  unfolding devices_after mesh_after
  outer_judged (Arrives drawn route) none = arriving_judged node orders commands w.devices place device first stands w.outer.air each drawn route (next_of w.outer.air.frames) refl
  outer_judged (Repeats number drawn route) none = repeats_judged number drawn route (refusal_of w.outer.air.frames number) refl
  outer_judged (Device_ticks at drawn route) none = tick_judged node orders commands w.devices place device first stands w.outer.air each at (slice_get w.devices at) drawn refl
  outer_judged (Wakes_device n route) none = wakes_judged node orders commands w.devices place device first stands w.outer.air each (place_of n w.devices)
  outer_judged (Sets_device n value route) none = sets_judged node orders commands w.devices place device first stands w.outer.air each n value (place_of n w.devices) none refl
  outer_judged event none = stays node orders commands w.devices place device first stands

-- ---- an event of the machine

pub event_judged : (node : ℕ) (orders : List Asked) (commands : List ℕ) (m : Machine) (event : Event) (place : ℕ) (device : State) → place_of node m.outside.devices ≡ Some place → slice_get m.outside.devices place ≡ Some device
    → JudgesEach node orders commands m.outside.outer.air.frames device → IsNoHand node event → JudgesAt node orders commands m.outside.devices (happens m event).outside.devices
unfolding happens
event_judged node orders commands m (Outside_does event) place device first stands each none = outer_judged node orders commands m.outside place device first stands each event none
event_judged node orders commands m event place device first stands each none = stayed node orders commands m.outside.devices place device first stands (happens m event).outside.devices (devices_still m event tt)
