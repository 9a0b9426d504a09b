-- Where what devices do stands (this project's own model of devices): directly after what came to a device stand the changes and the frames that
-- it makes of that, and in a tick those of its own tick; a node without a device does nothing.
use Rattle.std.specs.Prelude.{◌≡◌, ◌⊎◌, ℕ, suc, ◌==◌, is_some, true, if◌then◌else◌, List, [], ◌∷◌, ⊤}
use Rattle.law_transcript.specs.device_sim.State.{State}
use Rattle.law_transcript.specs.device_sim.Event.{DeviceEvent}
use Rattle.zw_text.specs.declared.entry.Entry.{Entry}
use Rattle.zw_text.specs.declared.entry.Entry.TheVariants.{Said, Time, Air, Dev}
use Rattle.zw_text.specs.Transcript.{lines_run}
use Rattle.law_transcript.specs.Devices.{ChangedAsShown, after_events, brought, comings, replies_joined, sent_from, ticks_lived}
use Rattle.law_transcript.specs.Lists.{EachAfter}
use Rattle.law_transcript.specs.Nodes.{controller, device_of}
use Rattle.law_transcript.specs.Restarts.{ticks_asked}
use Rattle.law_wire.specs.Asked.{clock_of}

-- the node whose device did what an entry shows: a change, or a frame that is not the controller's
abbrev pub doers_of : Entry → List ℕ
doers_of (Dev node by setting) = node ∷ []
doers_of (Air frame sender receiver repeaters payload) = if sender == controller then [] else sender ∷ []
doers_of entry = []

-- ---- a device

-- how many ticks a device has lived before an entry: before a line all that were asked for, and before a tick all that begin before it; within a
-- tick its own may be to come
abbrev pub IsAge : List Entry → Entry → ℕ → Type 0
IsAge past (Said words) ticks = ticks ≡ ticks_asked (lines_run past)
IsAge past (Time tick) ticks = suc ticks ≡ tick
IsAge past entry ticks = (ticks ≡ clock_of past) ⊎ (suc ticks ≡ clock_of past)

-- all that came to a device so far it has done, and all that it did then is shown
pub record DidSoFar (node : ℕ) (old : State) (past : List Entry) (entry : Entry) : Type 0 where
  pub events : List DeviceEvent
  pub came : comings events ≡ brought node past
  pub lived : IsAge past entry (ticks_lived events)
  pub shows : ChangedAsShown node past old (after_events old events)
  pub answered : sent_from node past ≡ replies_joined node past old events

-- it has before each entry that shows no doing: so nothing stands between what came to it and what it made of that
abbrev pub HasDone : ℕ → State → List Entry → Entry → List ℕ → Type 0
HasDone node old past entry [] = DidSoFar node old past entry
HasDone node old past entry (doer ∷ more) = ⊤

abbrev pub DoesAtOnce : ℕ → State → List Entry → Type 0
DoesAtOnce node old transcript = EachAfter (λ past entry. HasDone node old past entry (doers_of entry)) [] transcript

-- ---- nodes without one

abbrev pub AreDevices : List State → List ℕ → Type 0
AreDevices devices [] = ⊤
AreDevices devices (node ∷ nodes) = (is_some (device_of node devices) ≡ true) × AreDevices devices nodes

-- each doing is of a node that has a device
abbrev pub DoneByDevices : List State → List Entry → Type 0
DoneByDevices devices transcript = EachAfter (λ past entry. AreDevices devices (doers_of entry)) [] transcript
