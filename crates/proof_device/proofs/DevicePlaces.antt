-- Devices go on, each at its place.
use Rattle.std.proofs.Common.{◌≡◌, ℕ, zero, suc, inl, inr, List, [], ◌∷◌, ◌++◌, Some, refl, ap, sym, ◌∙◌, subst}
use Rattle.std.specs.Prelude.{slice_get, slice_set}
use Rattle.law_transcript.specs.device_sim.State.{State}
use Rattle.law_transcript.specs.device_sim.Event.{DeviceEvent, device_after}
use Rattle.law_transcript.specs.device_sim.Laws.{IsInOrder}
use Rattle.law_transcript.specs.Devices.{after_events}
use Rattle.world_model.specs.outside_model.State.{Outside}
use Rattle.law_transcript.specs.zw_text.declared.entry.Entry.TheVariants.{Refused}
use Rattle.world_model.specs.host_model.Did.{outs_all}
use Rattle.world_model.specs.host_model.Outs.{answers}
use Rattle.world_model.specs.outside_model.Events.{OuterEvent, Host_takes as host_takes, Host_notes, happens as happens_outside}
use Rattle.world_model.specs.outside_model.Did.{happens_all as happens_all_outside}
use Rattle.world_model.specs.State.{Machine, routed}
use Rattle.world_model.specs.Events.{Event, Outside_does, Host_does, Host_takes, Decoder_ticks, Refuses, Shows_values, Restarts, notes, shown_values, happens}
use Rattle.world_model.specs.Did.{happens_all}
use Rattle.proof_device.specs.GoingOn.{MovesOne, GoesOn, GoOn, IsSame, AreSame, AreInOrder}
use Rattle.proof_device.proofs.KeptKinds.{same, same_then, event_same}
use Rattle.proof_device.proofs.MovedDevices.{one_moves}

-- ---- one device

after_both : (device : State) (a b : List DeviceEvent) → after_events device (a ++ b) ≡ after_events (after_events device a) b
after_both device [] b = refl
after_both device (e ∷ a) b = after_both (device_after device e) a b

goes_none : (device : State) → GoesOn device device
goes_none device = ([], refl)

goes_then : (a b c : State) → GoesOn a b → GoesOn b c → GoesOn a c
goes_then a b c first later =
    (first.0 ++ later.0, later.1 ∙ (ap (λ (s : State). after_events s later.0) first.1 ∙ sym (after_both a first.0 later.0)))

same_events : (device : State) (events : List DeviceEvent) → IsSame device (after_events device events)
same_events device [] = same device
same_events device (e ∷ events) = same_then device (device_after device e) (after_events (device_after device e) events) (event_same device e) (same_events (device_after device e) events)

goes_same : (old new : State) → GoesOn old new → IsSame old new
goes_same old new (events, is) = subst (λ (s : State). IsSame old s) (sym is) (same_events old events)

-- ---- many

pub go_none : (devices : List State) → GoOn devices devices
go_none [] = tt
go_none (d ∷ devices) = (goes_none d, go_none devices)

pub go_then : (a b c : List State) → GoOn a b → GoOn b c → GoOn a c
go_then [] [] [] first later = tt
go_then [] [] (z ∷ c) first later = absurd later
go_then [] (y ∷ b) c first later = absurd first
go_then (x ∷ a) [] c first later = absurd first
go_then (x ∷ a) (y ∷ b) [] first later = absurd later
go_then (x ∷ a) (y ∷ b) (z ∷ c) first later = (goes_then x y z first.0 later.0, go_then a b c first.1 later.1)

go_set : (devices : List State) (place : ℕ) (device : State) (event : DeviceEvent) → slice_get devices place ≡ Some device → GoOn devices (slice_set devices place (device_after device event))
go_set [] place device event e = tt
go_set (d ∷ devices) zero device event e =
    let is : d ≡ device = cc in ((event ∷ [], ap (λ (s : State). device_after s event) (sym is)), go_none devices)
go_set (d ∷ devices) (suc place) device event e = (goes_none d, go_set devices place device event e)

pub go_one : (old new : List State) → MovesOne old new → GoOn old new
go_one old new (inl e) = subst (λ (l : List State). GoOn old l) (sym e) (go_none old)
go_one old new (inr moves) = subst (λ (l : List State). GoOn old l) (sym moves.stands) (go_set old moves.place moves.device moves.event moves.stood)

pub go_same : (old new : List State) → GoOn old new → AreSame old new
go_same [] [] go = tt
go_same [] (y ∷ new) go = absurd go
go_same (x ∷ old) [] go = absurd go
go_same (x ∷ old) (y ∷ new) go = (goes_same x y go.0, go_same old new go.1)

-- ---- events

pub outside_goes : (w : Outside) (events : List OuterEvent) → GoOn w.devices (happens_all_outside w events).devices
outside_goes w [] = go_none w.devices
outside_goes w (e ∷ events) =
    go_then w.devices (happens_outside w e).devices (happens_all_outside (happens_outside w e) events).devices
    (go_one w.devices (happens_outside w e).devices (one_moves w e)) (outside_goes (happens_outside w e) events)

both_go : (w : Outside) (a b : List OuterEvent) → GoOn w.devices (happens_all_outside (happens_all_outside w a) b).devices
both_go w a b =
    go_then w.devices (happens_all_outside w a).devices (happens_all_outside (happens_all_outside w a) b).devices (outside_goes w a) (outside_goes (happens_all_outside w a) b)

pub machine_goes : (m : Machine) (event : Event) → GoOn m.outside.devices (happens m event).outside.devices
unfolding happens
machine_goes m (Outside_does event) = go_one m.outside.devices (happens_outside m.outside event).devices (one_moves m.outside event)
machine_goes m (Host_does event) = both_go m.outside (routed (outs_all m.host.state (event ∷ []))) (notes (answers m.host.state event))
machine_goes m (Host_takes count rest items events) = outside_goes m.outside (host_takes count ∷ routed (outs_all m.host.state events))
machine_goes m Decoder_ticks = go_none m.outside.devices
machine_goes m (Refuses line refusal) = outside_goes m.outside (Host_notes (Refused refusal) ∷ [])
machine_goes m (Shows_values node) = outside_goes m.outside (Host_notes (shown_values m.host.state node) ∷ [])
machine_goes m (Restarts state) = go_none m.outside.devices

pub run_goes : (m : Machine) (events : List Event) → GoOn m.outside.devices (happens_all m events).outside.devices
run_goes m [] = go_none m.outside.devices
run_goes m (e ∷ events) =
    go_then m.outside.devices (happens m e).outside.devices (happens_all (happens m e) events).outside.devices (machine_goes m e) (run_goes (happens m e) events)

-- ---- journals in order

module _ (kept : (device : State) (event : DeviceEvent) → IsInOrder device → IsInOrder (device_after device event)) where
  events_in_order : (device : State) (events : List DeviceEvent) → IsInOrder device → IsInOrder (after_events device events)
  events_in_order device [] is = is
  events_in_order device (e ∷ events) is = events_in_order (device_after device e) events (kept device e is)

  pub go_in_order : (old new : List State) → GoOn old new → AreInOrder old → AreInOrder new
  go_in_order [] [] go are = tt
  go_in_order [] (y ∷ new) go are = absurd go
  go_in_order (x ∷ old) [] go are = absurd go
  go_in_order (x ∷ old) (y ∷ new) go are =
      (subst (λ (s : State). IsInOrder s) (sym go.0.1) (events_in_order x go.0.0 are.0), go_in_order old new go.1 are.1)
