-- Each setting of a journal stays shown, whatever other devices the node has.
use Rattle.std.proofs.Common.{◌≡◌, ℕ, zero, suc, inl, inr, List, [], ◌∷◌, ◌++◌, ap, sym, ◌∙◌, subst}
use Rattle.std.specs.Prelude.{slice_set}
use Rattle.std.specs.List.{AllByRecursion, flat_map}
use Rattle.std.proofs.lemmas.Grind.{flat_map-append}
use Rattle.law_transcript.specs.device_kinds.declared.change.Change.{Change}
use Rattle.law_transcript.specs.device_sim.State.{State}
use Rattle.law_transcript.specs.device_sim.Event.{DeviceEvent, device_after}
use Rattle.world_model.specs.outside_model.Devices.{new_changes}
use Rattle.law_transcript.specs.zw_text.declared.entry.Entry.{Entry}
use Rattle.law_transcript.specs.zw_text.Transcript.{Made, made}
use Rattle.world_model.specs.State.{Machine}
use Rattle.world_model.specs.Events.{Event, happens, entries, May}
use Rattle.law_transcript.specs.Devices.{made_by}
use Rattle.law_transcript.specs.Lists.{Has}
use Rattle.proof_device.specs.GoingOn.{IsSame}
use Rattle.proof_device.specs.Showing.{IsShownAmong}
use Rattle.law_transcript.proofs.Having.{has_either, has_left, has_right}
use Rattle.proof_device.proofs.Others.{made_both}
use Rattle.proof_device.proofs.ShownChanges.{Adds, event_tells, new_are, node_at}
use Rattle.proof_device.proofs.ChangesOutside.{TellsOne}

-- more entries leave shown what was
still_among : (past T : List Entry) (device : State) → IsShownAmong past device → IsShownAmong (past ++ T) device
still_among past T device among = λ one has.
    subst (λ (l : List Made). Has l one) (sym (made_both device.node past T)) (has_left (made device.node past) (made device.node T) one (among one has))

all_still : (past T : List Entry) (devices : List State) → AllByRecursion (IsShownAmong past) devices → AllByRecursion (IsShownAmong (past ++ T)) devices
all_still past T [] all = tt
all_still past T (device ∷ devices) all = (still_among past T device all.0, all_still past T devices all.1)

all_set : (P : State → Type 0) (devices : List State) (place : ℕ) (other : State) → AllByRecursion P devices → P other → AllByRecursion P (slice_set devices place other)
all_set P [] place other all is = tt
all_set P (first ∷ devices) zero other all is = (is, all.1)
all_set P (first ∷ devices) (suc place) other all is = (all.0, all_set P devices place other all.1 is)

module _ (adds : Adds) (same : (device : State) (event : DeviceEvent) → IsSame device (device_after device event)) where
  -- the changes of an event are shown with it
  one_among : (past T : List Entry) (device : State) (event : DeviceEvent) → made device.node T ≡ flat_map made_by (new_changes device event) → IsShownAmong past device
      → IsShownAmong (past ++ T) (device_after device event)
  one_among past T device event here among = λ one has.
      let split : flat_map made_by (device_after device event).journal ≡ flat_map made_by device.journal ++ flat_map made_by (new_changes device event)
      = ap (λ (l : List Change). flat_map made_by l) (new_are adds device event) ∙ flat_map-append made_by device.journal (new_changes device event) in
      let shown : Has (made device.node past ++ made device.node T) one
      = elim (has_either (flat_map made_by device.journal) (flat_map made_by (new_changes device event)) one (subst (λ (l : List Made). Has l one) split has)) [
        | inl before ↦ has_left (made device.node past) (made device.node T) one (among one before)
        | inr now ↦ has_right (made device.node past) (made device.node T) one (subst (λ (l : List Made). Has l one) (sym here) now)
      ] in
      subst (λ (l : List Made). Has l one) (sym (ap (λ (n : ℕ). made n (past ++ T)) (same device event).node ∙ made_both device.node past T)) shown

  told_among : (past T : List Entry) (old new : List State) → TellsOne (λ n. made n T) old new → AllByRecursion (IsShownAmong past) old → AllByRecursion (IsShownAmong (past ++ T)) new
  told_among past T old new (inl (e, none)) all = subst (λ (l : List State). AllByRecursion (IsShownAmong (past ++ T)) l) (sym e) (all_still past T old all)
  told_among past T old new (inr tells) all =
      subst (λ (l : List State). AllByRecursion (IsShownAmong (past ++ T)) l) (sym tells.stands)
      (all_set (IsShownAmong (past ++ T)) old tells.place (device_after tells.device tells.event) (all_still past T old all)
      (one_among past T tells.device tells.event tells.here (node_at (IsShownAmong past) old tells.place tells.device all tells.stood)))

  pub event_among : (past : List Entry) (m : Machine) (event : Event) → May m event → AllByRecursion (IsShownAmong past) m.outside.devices
      → AllByRecursion (IsShownAmong (past ++ entries m event)) (happens m event).outside.devices
  event_among past m event may all = told_among past (entries m event) m.outside.devices (happens m event).outside.devices (event_tells adds m event may) all
