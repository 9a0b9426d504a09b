-- Which frames of a node are entered: none where no device did anything, and where its device acts what that replies, if the node is joined.
use Rattle.std.proofs.Common.{◌≡◌, ◌≢◌, inl, inr, ℕ, zero, suc, ◌+◌, ◌==◌, Bool, true, false, if◌then◌else◌, List, [], ◌∷◌, ◌++◌, refl, sym, ap, ◌∙◌}
use Rattle.std.proofs.lemmas.Bool.{ne_eqb, eq-eqb}
use Rattle.std.proofs.lemmas.Grind.{flat_map-append}
use Rattle.std.specs.Prelude.{Option}
use Rattle.std.specs.List.{AllByRecursion, flat_map}
use Rattle.std.specs.Option.{option_map}
use Rattle.route_table.specs.declared.route.Route.{Route}
use Rattle.air_frames.specs.declared.frame.Heading.TheVariants.{Homeward}
use Rattle.device_sim.specs.State.{State}
use Rattle.device_sim.specs.Event.{DeviceEvent, device_replies}
use Rattle.mesh_sim.specs.declared.event.AirEvent.{AirEvent}
use Rattle.mesh_sim.specs.declared.event.AirEvent.TheVariants as air_event
use Rattle.mesh_sim.specs.Air.{AirState, departing, is_joined}
use Rattle.mesh_sim.specs.Routes.{backwards}
use Rattle.mesh_sim.specs.Steps.{answers, answers_if, changed}
use Rattle.zw_text.specs.declared.entry.Entry.{Entry}
use Rattle.zw_text.specs.declared.entry.Entry.TheVariants as entry
use Rattle.zw_text.specs.Transcript.{frame_at, frames}
use Rattle.zw_text.proofs.Views.{shown-append}
use Rattle.law_transcript.specs.Devices.{sent_by, sent_from}
use Rattle.law_transcript.specs.Nodes.{controller}
use Rattle.outside_model.specs.State.{OuterState, each}
use Rattle.outside_model.specs.Air.{deals, sent_entries, to_chip}
use Rattle.outside_model.specs.Devices.{acts, changes_entries, new_changes, sends}
use Rattle.outside_model.specs.Results.{frame_ends}
use Rattle.outside_model.specs.Events.{stamp, ticked_entry}
use Rattle.proof_air.proofs.Entered.{IsChange, change_entered, changes_entered}
use Rattle.proof_devices.proofs.Quiet.{IsBy, AreBy, IsIdle, AreIdle, number_idle, to_chip_idle, ends_idle}

pub sent_both : (node : ℕ) (xs ys : List Entry) → sent_from node (xs ++ ys) ≡ sent_from node xs ++ sent_from node ys
sent_both node xs ys = ap (flat_map (sent_by node)) (shown-append frame_at xs ys) ∙ flat_map-append (sent_by node) (frames xs) (frames ys)

-- ---- none

abbrev SendsNone : ℕ → Entry → Type 0
SendsNone node e = flat_map (sent_by node) (frame_at e) ≡ []

all_unsent : (node : ℕ) (Is : Entry → Type 0) → ((e : Entry) → Is e → SendsNone node e) → (told : List Entry) → AllByRecursion Is told → sent_from node told ≡ []
all_unsent node Is none [] are = refl
all_unsent node Is none (e ∷ told) are =
    flat_map-append (sent_by node) (frame_at e) (frames told) ∙ (ap (λ (l : List (List ℕ)). l ++ sent_from node told) (none e are.0) ∙ all_unsent node Is none told are.1)

other_unsent : (node sender : ℕ) (payload : List ℕ) → sender ≢ node → ((if sender == node then payload ∷ [] else []) ++ []) ≡ []
other_unsent node sender payload apart =
    let other : (sender == node) ≡ false = ne_eqb sender node apart in ap (λ (b : Bool). (if b then payload ∷ [] else []) ++ []) other

idle_unsent : (node : ℕ) → node ≢ controller → (e : Entry) → IsIdle e → SendsNone node e
idle_unsent node apart (entry.Air frame sender receiver repeaters payload) idle = other_unsent node sender payload (λ same. apart (sym same ∙ idle))
idle_unsent node apart (entry.Said words) idle = absurd idle
idle_unsent node apart (entry.Heard frame) idle = absurd idle
idle_unsent node apart (entry.Dev at by setting) idle = absurd idle
idle_unsent node apart e idle = refl

pub none_sent : (node : ℕ) (told : List Entry) → node ≢ controller → AreIdle told → sent_from node told ≡ []
none_sent node told apart idle = all_unsent node IsIdle (idle_unsent node apart) told idle

by_unsent : (node other : ℕ) → other ≢ node → other ≢ controller → (e : Entry) → IsBy node e → SendsNone other e
by_unsent node other apart not_controller (entry.Air frame sender receiver repeaters payload) (inl is) = other_unsent other sender payload (λ same. not_controller (sym same ∙ is))
by_unsent node other apart not_controller (entry.Air frame sender receiver repeaters payload) (inr is) = other_unsent other sender payload (λ same. apart (sym same ∙ is))
by_unsent node other apart not_controller (entry.Said words) is = absurd is
by_unsent node other apart not_controller (entry.Heard frame) is = absurd is
by_unsent node other apart not_controller e is = refl

-- of no other node
pub others_sent : (node other : ℕ) (told : List Entry) → other ≢ node → other ≢ controller → AreBy node told → sent_from other told ≡ []
others_sent node other told apart not_controller by = all_unsent other (IsBy node) (by_unsent node other apart not_controller) told by

change_unsent : (node : ℕ) (e : Entry) → IsChange e → SendsNone node e
change_unsent node (entry.Dev at by setting) change = refl
change_unsent node e change = absurd change

-- the number of a tick, and what stands behind it
pub stamp_sent : (node : ℕ) (o : OuterState) (told : List Entry) → node ≢ controller → sent_from node (stamp o told) ≡ sent_from node told
stamp_sent node o [] apart = refl
stamp_sent node o (e ∷ told) apart =
    sent_both node (ticked_entry o) (e ∷ told) ∙ ap (λ (l : List (List ℕ)). l ++ sent_from node (e ∷ told)) (none_sent node (ticked_entry o) apart (number_idle o))

-- ---- what a device replies

-- if its node is joined
abbrev pub replied : Bool → List (List ℕ) → List (List ℕ)
replied joined replies = if joined then replies else []

one_sent : (b : Bool) (reply : List ℕ) (more : List (List ℕ)) → b ≡ true → (if b then reply ∷ [] else []) ++ more ≡ reply ∷ more
one_sent true reply more is = refl
one_sent false reply more is = absurd cc

answers_sent : (node : ℕ) (air : AirState) (way : Option Route) (replies : List (List ℕ)) → sent_from node (flat_map sent_entries (answers air node way replies)) ≡ replies
answers_sent node air way [] = refl
answers_sent node air way (reply ∷ replies) =
    let later : AirState = departing air node Homeward way reply in
    one_sent (node == node) reply (sent_from node (flat_map sent_entries (answers later node way replies))) (eq-eqb node node refl)
    ∙ ap (λ (l : List (List ℕ)). reply ∷ l) (answers_sent node later way replies)

pub answers_if_sent : (joined : Bool) (node : ℕ) (air : AirState) (way : Option Route) (replies : List (List ℕ))
    → sent_from node (flat_map sent_entries (answers_if joined air node way replies)) ≡ replied joined replies
answers_if_sent true node air way replies = answers_sent node air way replies
answers_if_sent false node air way replies = refl

-- where it acts of itself or by hand
pub acts_sent : (o : OuterState) (device : State) (event : DeviceEvent) (route : Option Route) → device.node ≢ controller
    → sent_from device.node (stamp (acts o device event route).outer (acts o device event route).entries) ≡ replied (is_joined o.air device.node) (device_replies device event)
acts_sent o device event route apart =
    let node : ℕ = device.node in
    let changes : List Entry = changes_entries node (new_changes device event) in
    let sending : List Entry = (sends o node route (device_replies device event)).entries in
    stamp_sent node (acts o device event route).outer (acts o device event route).entries apart
    ∙ (sent_both node changes sending
    ∙ (ap (λ (l : List (List ℕ)). l ++ sent_from node sending) (all_unsent node IsChange (change_unsent node) changes (changes_entered node (new_changes device event)))
    ∙ answers_if_sent (is_joined o.air node) node o.air (option_map backwards route) (device_replies device event)))

-- ---- events of the air

deals_sent : (node : ℕ) (devices : List State) (o : OuterState) (event : AirEvent) → node ≢ controller → sent_from node (deals devices o event).entries ≡ sent_from node (sent_entries event)
deals_sent node devices o (air_event.Heard frame) apart = refl
deals_sent node devices o (air_event.Lost frame) apart = refl
deals_sent node devices o (air_event.Unheard frame) apart = refl
deals_sent node devices o (air_event.Sent frame from to route payload) apart = refl
deals_sent node devices o (air_event.Changed at place) apart = all_unsent node IsChange (change_unsent node) (deals devices o (air_event.Changed at place)).entries (change_entered at _)
deals_sent node devices o (air_event.ToChip frame from payload) apart = none_sent node (to_chip o from payload).entries apart (to_chip_idle o from payload)
deals_sent node devices o (air_event.Done frame status dead) apart = none_sent node (frame_ends o status dead).entries apart (ends_idle o status dead)

pub all_deals_sent : (node : ℕ) (devices : List State) (o : OuterState) (events : List AirEvent) → node ≢ controller
    → sent_from node (each (deals devices) o events).entries ≡ sent_from node (flat_map sent_entries events)
all_deals_sent node devices o [] apart = refl
all_deals_sent node devices o (event ∷ events) apart =
    let later : OuterState = (deals devices o event).outer in
    sent_both node (deals devices o event).entries (each (deals devices) later events).entries
    ∙ (ap (λ (l : List (List ℕ)). l ++ sent_from node (each (deals devices) later events).entries) (deals_sent node devices o event apart)
    ∙ (ap (λ (l : List (List ℕ)). sent_from node (sent_entries event) ++ l) (all_deals_sent node devices later events apart)
    ∙ sym (sent_both node (sent_entries event) (flat_map sent_entries events))))

-- what tells of a change, or that a frame of the controller has ended, tells of no frame
pub changed_sent : (node first count : ℕ) → flat_map sent_entries (changed node first count) ≡ []
changed_sent node first zero = refl
changed_sent node first (suc count) = changed_sent node (first + 1) count
