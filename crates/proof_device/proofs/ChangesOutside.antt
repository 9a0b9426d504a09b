-- What an event outside the host shows of changes: those of the device that it moves, and no others.
use Rattle.std.proofs.Common.{◌≡◌, ◌≢◌, ℕ, zero, suc, ◌+◌, ◌-◌, ◌<◌, ◌≤◌, ◌==◌, ◌⊎◌, inl, inr, if◌then◌else◌, List, [], ◌∷◌, ◌++◌, length, drop, map, Bool, true, false, Option, Some, None, option_map, refl, ap, sym, ◌∙◌, append-nil, arith}
use Rattle.std.specs.Prelude.{slice_get, slice_set}
use Rattle.std.specs.List.{flat_map}
use Rattle.std.proofs.lemmas.Bool.{eq-eqb}
use Rattle.std.proofs.lemmas.Bool.Decides.{eqb_tells}
use Rattle.std.proofs.lemmas.Grind.{flat_map-append}
use Rattle.std.proofs.Math.Seq.{drop-length}
use Rattle.zw_base.specs.declared.property.Setting.{Setting}
use Rattle.zw_base.specs.declared.property.By.{By}
use Rattle.law_transcript.specs.zw_text.declared.entry.Entry.TheVariants as entry
use Rattle.law_transcript.specs.zw_text.Transcript.{Made, made, where_same}
use Rattle.route_table.specs.declared.route.Route.{Route}
use Rattle.law_transcript.specs.device_kinds.declared.change.Change.{Change}
use Rattle.law_transcript.specs.device_sim.State.{State}
use Rattle.law_transcript.specs.device_sim.Event.{DeviceEvent, device_after, device_replies}
use Rattle.air_frames.specs.declared.frame.Heading.{Heading}
use Rattle.air_frames.specs.declared.frame.Heading.TheVariants.{Outward, Homeward}
use Rattle.world_model.specs.mesh_sim.declared.fate.Fate.TheVariants.{Lost, AtChip, AtDevice}
use Rattle.world_model.specs.mesh_sim.declared.event.AirEvent.{AirEvent}
use Rattle.world_model.specs.mesh_sim.declared.event.AirEvent.TheVariants as air_event
use Rattle.world_model.specs.mesh_sim.Air.{AirState, is_joined, departing}
use Rattle.world_model.specs.mesh_sim.Fates.{place_of, is_awake, awake_at, listener_of, fate_by}
use Rattle.world_model.specs.mesh_sim.Routes.{backwards}
use Rattle.world_model.specs.mesh_sim.Steps.{changed, answers as air_answers, answers_if, outs_hearing}
use Rattle.world_model.specs.outside_model.State.{OuterState, each}
use Rattle.world_model.specs.outside_model.Air.{change_entries, change_at, deals}
use Rattle.world_model.specs.outside_model.Results.{device_at}
use Rattle.world_model.specs.outside_model.Devices.{changes_entries, new_changes, sends, acts}
use Rattle.law_transcript.specs.Devices.{made_by}
use Rattle.proof_device.proofs.KeptKinds.{event_same}
use Rattle.proof_device.proofs.Others.{to_chip_other, ends_other, sends_other, none_made, made_both}

-- ---- who moved, and what was shown

-- what is shown of each node, where at most one device had an event
pub record Tells (says : ℕ → List Made) (old new : List State) : Type 0 where
  pub place : ℕ
  pub device : State
  pub event : DeviceEvent
  pub stood : slice_get old place ≡ Some device
  pub stands : new ≡ slice_set old place (device_after device event)
  pub here : says device.node ≡ flat_map made_by (new_changes device event)
  pub elsewhere : (n : ℕ) → n ≢ device.node → says n ≡ []

abbrev pub TellsOne : (ℕ → List Made) → List State → List State → Type 0
TellsOne says old new = ((new ≡ old) × ((n : ℕ) → says n ≡ [])) ⊎ Tells says old new

pub tells_as : (says also : ℕ → List Made) (old new : List State) → ((n : ℕ) → also n ≡ says n) → TellsOne says old new → TellsOne also old new
tells_as says also old new same (inl (still, none)) = inl (still, λ n. same n ∙ none n)
tells_as says also old new same (inr tells) = inr (record {
  place = tells.place;
  device = tells.device;
  event = tells.event;
  stood = tells.stood;
  stands = tells.stands;
  here = same tells.device.node ∙ tells.here;
  elsewhere = λ n apart. same n ∙ tells.elsewhere n apart;
})

-- ---- entries of changes

same_is : {A : Type 0} (m n : ℕ) (x : A) → m ≡ n → where_same m n x ≡ x ∷ []
same_is m n x e = let test : (m == n) ≡ true = eq-eqb m n e in rw test refl

apart_is : {A : Type 0} (m n : ℕ) (x : A) → n ≢ m → where_same m n x ≡ []
apart_is m n x apart = by (eqb_tells m n)
  where
    by : (((m == n) ≡ true) × (m ≡ n)) ⊎ (((m == n) ≡ false) × (m ≢ n)) → where_same m n x ≡ []
    by (inl (e, same)) = absurd (apart (sym same))
    by (inr (e, other)) = rw e refl

settings_here : (node : ℕ) (by : By) (settings : List Setting)
    → made node (map (λ (s : Setting). entry.Dev node by s) settings) ≡ map (λ s. record { by = by; setting = s }) settings
settings_here node by [] = refl
settings_here node by (s ∷ settings) =
    ap (λ (l : List Made). l ++ made node (map (λ (x : Setting). entry.Dev node by x) settings)) (same_is node node (record { by = by; setting = s }) refl)
    ∙ ap (λ (l : List Made). record { by = by; setting = s } ∷ l) (settings_here node by settings)

settings_apart : (n node : ℕ) (by : By) (settings : List Setting) → n ≢ node → made n (map (λ (s : Setting). entry.Dev node by s) settings) ≡ []
settings_apart n node by [] apart = refl
settings_apart n node by (s ∷ settings) apart =
    ap (λ (l : List Made). l ++ made n (map (λ (x : Setting). entry.Dev node by x) settings)) (apart_is node n (record { by = by; setting = s }) apart)
    ∙ settings_apart n node by settings apart

change_here : (node : ℕ) (change : Change) → made node (change_entries node (Some change)) ≡ made_by change
change_here node change = settings_here node change.by change.settings

change_apart : (n node : ℕ) (change : Option Change) → n ≢ node → made n (change_entries node change) ≡ []
change_apart n node None apart = refl
change_apart n node (Some change) apart = settings_apart n node change.by change.settings apart

changes_here : (node : ℕ) (changes : List Change) → made node (changes_entries node changes) ≡ flat_map made_by changes
changes_here node [] = refl
changes_here node (change ∷ changes) =
    made_both node (change_entries node (Some change)) (changes_entries node changes)
    ∙ (ap (λ (l : List Made). l ++ made node (changes_entries node changes)) (change_here node change)
    ∙ ap (λ (l : List Made). made_by change ++ l) (changes_here node changes))

changes_apart : (n node : ℕ) (changes : List Change) → n ≢ node → made n (changes_entries node changes) ≡ []
changes_apart n node [] apart = refl
changes_apart n node (change ∷ changes) apart =
    made_both n (change_entries node (Some change)) (changes_entries node changes)
    ∙ (ap (λ (l : List Made). l ++ made n (changes_entries node changes)) (change_apart n node (Some change) apart) ∙ changes_apart n node changes apart)

-- ---- a device acts

acts_here : (o : OuterState) (device : State) (event : DeviceEvent) (route : Option Route) → made device.node (acts o device event route).entries ≡ flat_map made_by (new_changes device event)
acts_here o device event route =
    made_both device.node (changes_entries device.node (new_changes device event)) (sends o device.node route (device_replies device event)).entries
    ∙ (ap (λ (l : List Made). made device.node (changes_entries device.node (new_changes device event)) ++ l)
    (none_made device.node (sends o device.node route (device_replies device event)).entries (sends_other o device.node route (device_replies device event)))
    ∙ (append-nil (made device.node (changes_entries device.node (new_changes device event))) ∙ changes_here device.node (new_changes device event)))

acts_apart : (n : ℕ) (o : OuterState) (device : State) (event : DeviceEvent) (route : Option Route) → n ≢ device.node → made n (acts o device event route).entries ≡ []
acts_apart n o device event route apart =
    made_both n (changes_entries device.node (new_changes device event)) (sends o device.node route (device_replies device event)).entries
    ∙ (ap (λ (l : List Made). l ++ made n (sends o device.node route (device_replies device event)).entries) (changes_apart n device.node (new_changes device event) apart)
    ∙ none_made n (sends o device.node route (device_replies device event)).entries (sends_other o device.node route (device_replies device event)))

pub acts_told : (devices : List State) (o : OuterState) (place : ℕ) (device : State) (event : DeviceEvent) (route : Option Route) → slice_get devices place ≡ Some device
    → TellsOne (λ n. made n (acts o device event route).entries) devices (slice_set devices place (device_after device event))
acts_told devices o place device event route stood = inr (record {
  place = place;
  device = device;
  event = event;
  stood = stood;
  stands = refl;
  here = acts_here o device event route;
  elsewhere = λ n apart. acts_apart n o device event route apart;
})

-- ---- places of devices

-- of the first device, or of those after it
place_by : (node : ℕ) (first : State) (devices : List State) (place : ℕ) (device : State) (rest : Option ℕ)
    → (((first.node == node) ≡ true) × (first.node ≡ node)) ⊎ (((first.node == node) ≡ false) × (first.node ≢ node))
    → ((k : ℕ) → place_of node devices ≡ Some k → slice_get devices k ≡ Some device → device.node ≡ node) → place_of node devices ≡ rest
    → (if first.node == node then Some 0 else option_map suc rest) ≡ Some place → slice_get (first ∷ devices) place ≡ Some device → device.node ≡ node
place_by node first devices zero device rest (inl (t, same)) later r found at =
    let is : first ≡ device = cc in ap (λ (d : State). d.node) (sym is) ∙ same
place_by node first devices (suc place) device rest (inl (t, same)) later r found at =
    let here : Some 0 ≡ Some (suc place) = sym (ap (λ (b : Bool). if b then Some 0 else option_map suc rest) t) ∙ found in absurd cc
place_by node first devices place device None (inr (t, other)) later r found at =
    let here : option_map suc None ≡ Some place = sym (ap (λ (b : Bool). if b then Some 0 else option_map suc None) t) ∙ found in absurd cc
place_by node first devices zero device (Some k) (inr (t, other)) later r found at =
    let here : Some (suc k) ≡ Some 0 = sym (ap (λ (b : Bool). if b then Some 0 else option_map suc (Some k)) t) ∙ found in absurd cc
place_by node first devices (suc place) device (Some k) (inr (t, other)) later r found at =
    let here : Some (suc k) ≡ Some (suc place) = sym (ap (λ (b : Bool). if b then Some 0 else option_map suc (Some k)) t) ∙ found in
    let same : k ≡ place = cc in
    later place (r ∙ ap (λ (i : ℕ). Some i) same) at

pub place_is : (node : ℕ) (devices : List State) (place : ℕ) (device : State) → place_of node devices ≡ Some place → slice_get devices place ≡ Some device → device.node ≡ node
place_is node [] place device found at = absurd cc
place_is node (first ∷ devices) place device found at =
    place_by node first devices place device (place_of node devices) (eqb_tells first.node node) (λ k e at. place_is node devices k device e at) refl found at

pub place_set : (node : ℕ) (devices : List State) (place : ℕ) (device other : State) → slice_get devices place ≡ Some device → other.node ≡ device.node
    → place_of node (slice_set devices place other) ≡ place_of node devices
place_set node [] place device other at same = refl
place_set node (first ∷ devices) zero device other at same =
    let is : first ≡ device = cc in
    ap (λ (m : ℕ). if m == node then Some 0 else option_map suc (place_of node devices)) (same ∙ ap (λ (d : State). d.node) (sym is))
place_set node (first ∷ devices) (suc place) device other at same =
    ap (λ (o : Option ℕ). if first.node == node then Some 0 else option_map suc o) (place_set node devices place device other at same)

pub get_set : (devices : List State) (place : ℕ) (device other : State) → slice_get devices place ≡ Some device → slice_get (slice_set devices place other) place ≡ Some other
get_set [] place device other at = absurd cc
get_set (first ∷ devices) zero device other at = refl
get_set (first ∷ devices) (suc place) device other at = get_set devices place device other at

awake_found : (devices : List State) (place : Option ℕ) (there : ℕ) → awake_at devices place ≡ Some there → place ≡ Some there
awake_found devices None there e = absurd cc
awake_found devices (Some place) there e = by (is_awake (slice_get devices place)) e
  where
    by : (b : Bool) → (if b then Some place else None) ≡ Some there → Some place ≡ Some there
    by true e = e
    by false e = absurd cc

pub listener_is : (node : ℕ) (devices : List State) (place : ℕ) → listener_of node devices ≡ Some place → place_of node devices ≡ Some place
listener_is node devices place e = awake_found devices (place_of node devices) place e

-- what its fate says of its way
pub fate_home : (lost : Bool) (dead : Option (ℕ × ℕ)) (heading : Heading) (listener : Option ℕ) → (if lost then Lost else fate_by dead heading listener) ≡ AtChip → heading ≡ Homeward
fate_home true dead heading listener is = absurd cc
fate_home false (Some hop) heading listener is = absurd cc
fate_home false None Homeward listener is = refl
fate_home false None Outward (Some place) is = absurd cc
fate_home false None Outward None is = absurd cc

pub fate_out : (lost : Bool) (dead : Option (ℕ × ℕ)) (heading : Heading) (listener : Option ℕ) (place : ℕ)
    → (if lost then Lost else fate_by dead heading listener) ≡ AtDevice place → (heading ≡ Outward) × (listener ≡ Some place)
fate_out true dead heading listener place is = absurd cc
fate_out false (Some hop) heading listener place is = absurd cc
fate_out false None Homeward listener place is = absurd cc
fate_out false None Outward (Some at) place is = let same : at ≡ place = cc in (refl, ap (λ (k : ℕ). Some k) same)
fate_out false None Outward None place is = absurd cc

pub fate_listens : (lost : Bool) (dead : Option (ℕ × ℕ)) (heading : Heading) (listener : Option ℕ) (place : ℕ)
    → (if lost then Lost else fate_by dead heading listener) ≡ AtDevice place → listener ≡ Some place
fate_listens lost dead heading listener place is = (fate_out lost dead heading listener place is).1

-- ---- events of the air

-- what the tale of one shows
abbrev pub of_event : List State → ℕ → AirEvent → List Made
of_event devices n (air_event.Changed node at) = made n (change_entries node (change_at (device_at devices (place_of node devices)) at))
of_event devices n _ = []

deal_made : (devices : List State) (o : OuterState) (n : ℕ) (event : AirEvent) → made n (deals devices o event).entries ≡ of_event devices n event
deal_made devices o n (air_event.Heard frame) = refl
deal_made devices o n (air_event.Lost frame) = refl
deal_made devices o n (air_event.Unheard frame) = refl
deal_made devices o n (air_event.Sent frame from to route payload) = refl
deal_made devices o n (air_event.Changed node at) = refl
deal_made devices o n (air_event.ToChip frame from payload) = none_made n (deals devices o (air_event.ToChip frame from payload)).entries (to_chip_other o from payload)
deal_made devices o n (air_event.Done frame status dead) = none_made n (deals devices o (air_event.Done frame status dead)).entries (ends_other o status dead)

pub each_made : (devices : List State) (o : OuterState) (n : ℕ) (events : List AirEvent) → made n (each (deals devices) o events).entries ≡ flat_map (of_event devices n) events
each_made devices o n [] = refl
each_made devices o n (event ∷ events) =
    made_both n (deals devices o event).entries (each (deals devices) (deals devices o event).outer events).entries
    ∙ (ap (λ (l : List Made). l ++ made n (each (deals devices) (deals devices o event).outer events).entries) (deal_made devices o n event)
    ∙ ap (λ (l : List Made). of_event devices n event ++ l) (each_made devices (deals devices o event).outer n events))

answers_none : (devices : List State) (n : ℕ) (air : AirState) (node : ℕ) (way : Option Route) (replies : List (List ℕ)) → flat_map (of_event devices n) (air_answers air node way replies) ≡ []
answers_none devices n air node way [] = refl
answers_none devices n air node way (reply ∷ replies) = answers_none devices n (departing air node Homeward way reply) node way replies

answers_if_none : (devices : List State) (n : ℕ) (b : Bool) (air : AirState) (node : ℕ) (way : Option Route) (replies : List (List ℕ))
    → flat_map (of_event devices n) (answers_if b air node way replies) ≡ []
answers_if_none devices n true air node way replies = answers_none devices n air node way replies
answers_if_none devices n false air node way replies = refl

changed_apart : (devices : List State) (n node first k : ℕ) → n ≢ node → flat_map (of_event devices n) (changed node first k) ≡ []
changed_apart devices n node first zero apart = refl
changed_apart devices n node first (suc k) apart =
    ap (λ (l : List Made). l ++ flat_map (of_event devices n) (changed node (first + 1) k))
    (change_apart n node (change_at (device_at devices (place_of node devices)) first) apart)
    ∙ changed_apart devices n node (first + 1) k apart

-- the item at a place, and those after it
item_at : {A : Type 0} (xs : List A) (i : ℕ) → i < length xs → (x : A) × (slice_get xs i ≡ Some x) × (drop i xs ≡ x ∷ drop (i + 1) xs)
item_at [] i within = absurd (omega (arith, within))
item_at (x ∷ xs) zero within = (x, refl, refl)
item_at {A = A} (x ∷ xs) (suc i) within =
    let (y, there, rest) = item_at xs i (omega (arith, within)) in
    (y, there, rest ∙ ap (λ (n : ℕ). y ∷ drop n (x ∷ xs)) (let next : suc (i + 1) ≡ suc i + 1 = omega arith in next))

changed_here : (devices : List State) (node place first k : ℕ) (device : State) → place_of node devices ≡ Some place → slice_get devices place ≡ Some device
    → first + k ≡ length device.journal → flat_map (of_event devices node) (changed node first k) ≡ flat_map made_by (drop first device.journal)
changed_here devices node place first zero device found at long =
    ap (λ (l : List Change). flat_map made_by l) (sym (ap (λ (i : ℕ). drop i device.journal) (let e : first ≡ length device.journal = omega (arith, long) in e) ∙ drop-length device.journal))
changed_here devices node place first (suc k) device found at long =
    let (change, there, rest) = item_at device.journal first (omega (arith, long)) in
    let is : change_at (device_at devices (place_of node devices)) first ≡ Some change =
    ap (λ (p : Option ℕ). change_at (device_at devices p) first) found ∙ (ap (λ (d : Option State). change_at d first) at ∙ there) in
    ap (λ (l : List Made). l ++ flat_map (of_event devices node) (changed node (first + 1) k))
    (ap (λ (c : Option Change). made node (change_entries node c)) is ∙ change_here node change)
    ∙ (ap (λ (l : List Made). made_by change ++ l) (changed_here devices node place (first + 1) k device found at (omega (arith, long)))
    ∙ ap (λ (l : List Change). flat_map made_by l) (sym rest))

-- the journal only grows
abbrev pub Grows : Type 0
Grows = (device : State) (event : DeviceEvent) → length device.journal ≤ length (device_after device event).journal

-- a device heard a frame, with nothing of changes told at the end
pub hearing_told : (grows : Grows) (devices : List State) (air : AirState) (number node place : ℕ) (device : State) (event : DeviceEvent) (route : Option Route) (end : List AirEvent)
    → place_of node devices ≡ Some place → slice_get devices place ≡ Some device
    → ((n : ℕ) → flat_map (of_event (slice_set devices place (device_after device event)) n) end ≡ [])
    → TellsOne (λ n. flat_map (of_event (slice_set devices place (device_after device event)) n) (outs_hearing air number node route device event ++ end))
    devices (slice_set devices place (device_after device event))
hearing_told grows devices air number node place device event route end found at quiet = inr (record {
  place = place;
  device = device;
  event = event;
  stood = at;
  stands = refl;
  here = parts device.node
      ∙ (ap (λ (m : ℕ). flat_map (of_event later m) (changed node (length device.journal) more)) named
      ∙ changed_here later node place (length device.journal) more (device_after device event)
      (place_set node devices place device (device_after device event) at (event_same device event).node ∙ found)
      (get_set devices place device (device_after device event) at) (let g = grows device event in omega (arith, g)));
  elsewhere = λ n apart. parts n ∙ changed_apart later n node (length device.journal) more (λ e. apart (e ∙ sym named));
})
  where
    later : List State
    later = slice_set devices place (device_after device event)

    more : ℕ
    more = length (device_after device event).journal - length device.journal

    named : device.node ≡ node
    named = place_is node devices place device found at

    replies : List AirEvent
    replies = answers_if (is_joined air node) air node (option_map backwards route) (device_replies device event)

    parts : (n : ℕ) → flat_map (of_event later n) (outs_hearing air number node route device event ++ end) ≡ flat_map (of_event later n) (changed node (length device.journal) more)
    parts n =
        flat_map-append (of_event later n) (outs_hearing air number node route device event) end
        ∙ (ap (λ (l : List Made). flat_map (of_event later n) (outs_hearing air number node route device event) ++ l) (quiet n)
        ∙ (append-nil (flat_map (of_event later n) (outs_hearing air number node route device event))
        ∙ (flat_map-append (of_event later n) (changed node (length device.journal) more) replies
        ∙ (ap (λ (l : List Made). flat_map (of_event later n) (changed node (length device.journal) more) ++ l)
        (answers_if_none later n (is_joined air node) air node (option_map backwards route) (device_replies device event))
        ∙ append-nil (flat_map (of_event later n) (changed node (length device.journal) more))))))
