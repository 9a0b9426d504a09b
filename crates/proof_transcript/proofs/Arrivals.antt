-- A frame arrives, or is heard again: one entry says what became of it, and then the air goes on.
use Rattle.std.proofs.Common.{◌≡◌, ℕ, zero, suc, ◌+◌, ◌-◌, ◌⊎◌, inl, inr, Bool, true, false, if◌then◌else◌, Option, Some, None, List, [], ◌∷◌, ◌++◌, length, refl, ap, sym, subst, ◌∙◌, append_assoc, append-nil}
use Rattle.std.specs.Prelude.{slice_get, slice_set}
use Rattle.std.specs.Option.{option_map}
use Rattle.route_table.specs.declared.route.Route.{Route}
use Rattle.zw_text.specs.declared.entry.Entry.{Entry}
use Rattle.zw_text.specs.declared.entry.Entry.TheVariants as entry
use Rattle.device_sim.specs.State.{State}
use Rattle.device_sim.specs.Event.{DeviceEvent, Hears, device_after, device_replies}
use Rattle.air_frames.specs.declared.frame.Heading.{Heading}
use Rattle.air_frames.specs.declared.frame.Heading.TheVariants.{Outward, Homeward}
use Rattle.air_frames.specs.declared.ages.Refusal.{Refusal}
use Rattle.air_frames.specs.declared.ages.Refusal.TheVariants.{NeverSent, Forgotten, Stale}
use Rattle.air_frames.specs.Ages.{refusal_of}
use Rattle.air_frames.specs.Flown.{Flown}
use Rattle.air_frames.specs.Frames.{next_of, remembered}
use Rattle.proof_air.specs.mesh_sim.declared.event.AirEvent.{AirEvent}
use Rattle.proof_air.specs.mesh_sim.declared.event.AirEvent.TheVariants as air_event
use Rattle.proof_air.specs.mesh_sim.declared.fate.Fate.{Fate}
use Rattle.proof_air.specs.mesh_sim.declared.fate.Fate.TheVariants as fate
use Rattle.proof_air.specs.mesh_sim.Air.{AirState, departing, is_joined}
use Rattle.proof_air.specs.mesh_sim.Fates.{is_awake, awake_at, place_of, listener_of, dead_hop_of, fate_by, fate_of}
use Rattle.proof_air.specs.mesh_sim.Routes.{backwards}
use Rattle.proof_air.specs.mesh_sim.Steps.{done_of, status_of, landed, acknowledged, changed, sent_event, answered, answers, answered_if, answers_if, air_hearing, heard_at, outs_at, arriving_as, arrival_outs_as, arriving, arrival_outs, heard_again, outs_again, repeating_by, repeating, repeat_outs_by, repeat_outs, mesh_after, mesh_outs, MayHappen, MayArriveIf}
use Rattle.proof_air.specs.mesh_sim.Steps as mesh
use Rattle.proof_air.specs.outside_model.State.{OuterState, Outside, Outcome, each}
use Rattle.proof_air.specs.outside_model.Air.{change_entries, change_at, sent_entries, deals}
use Rattle.proof_air.specs.outside_model.Results.{device_at}
use Rattle.proof_air.specs.outside_model.Events.{mesh_of, steps, repeats}
use Rattle.proof_spoken.proofs.ChangesOutside.{fate_listens}
use Rattle.proof_transcript.proofs.Plain.{change_plain}
use Rattle.proof_transcript.proofs.KeptOverLists.{Keeps, Airs, Goes, IsSameTime, same_then, keeps_none, keeps_both, keeps_plain}
use Rattle.proof_transcript.proofs.Outcomes.{goes_still, then_goes, ends_goes, hears_goes}

-- what becomes of a frame of that number, as it is entered: only one that is not lost is heard, or not heard
abbrev pub IsFate : Flown → ℕ → Entry → Type 0
IsFate frame number (entry.Lost lost) = lost ≡ number
IsFate frame number (entry.Heard heard) = (heard ≡ number) × (frame.lost ≡ false)
IsFate frame number (entry.Unheard unheard) = (unheard ≡ number) × (frame.lost ≡ false)
IsFate frame number entry = ⊥

-- the next frame has its fate, and after that the air goes on without it
pub record Lands (Asks : List Entry → Entry → Type 0) (Knows : List Entry → AirState → Type 0) (o : OuterState) (x : Outcome) : Type 0 where
  pub frame : Flown
  pub next : next_of o.air.frames ≡ Some frame
  pub fate : Entry
  pub is : IsFate frame (o.air.frames.landed + 1) fate
  pub rest : List Entry
  pub told : x.entries ≡ fate ∷ rest
  pub keeps : Keeps Asks Knows (landed o.air) rest x.outer.air
  pub time : IsSameTime o x.outer

-- a frame that is fresh is heard again, and after that the air goes on
pub record IsAgain (Asks : List Entry → Entry → Type 0) (Knows : List Entry → AirState → Type 0) (number : ℕ) (o : OuterState) (x : Outcome) : Type 0 where
  pub allowed : refusal_of o.air.frames number ≡ None
  pub rest : List Entry
  pub told : x.entries ≡ entry.Heard number ∷ rest
  pub keeps : Keeps Asks Knows o.air rest x.outer.air
  pub time : IsSameTime o x.outer

-- what is told of a device that heard, after that
abbrev heard_events : AirState → ℕ → Option Route → State → DeviceEvent → List AirEvent
heard_events air node route device event =
    changed node (length device.journal) (length (device_after device event).journal - length device.journal)
    ++ answers_if (is_joined air node) air node (option_map backwards route) (device_replies device event)

-- ---- who hears

-- a frame that is not lost
kept_frame : (lost : Bool) (dead : Option (ℕ × ℕ)) (heading : Heading) (listener : Option ℕ) (x : Fate) → (x ≡ fate.Lost → ⊥) → (if lost then fate.Lost else fate_by dead heading listener) ≡ x → lost ≡ false
kept_frame true dead heading listener x other e = absurd (other (sym e))
kept_frame false dead heading listener x other e = refl

-- a device that hears is in the list
abbrev IsThere : Option State → Type 0
IsThere found = (device : State) × (found ≡ Some device)

awake_there : (found : Option State) → is_awake found ≡ true → IsThere found
awake_there None e = absurd cc
awake_there (Some device) e = (device, refl)

awake_found : (devices : List State) (place : Option ℕ) (there : ℕ) → awake_at devices place ≡ Some there → IsThere (slice_get devices there)
awake_found devices None there e = absurd cc
awake_found devices (Some place) there e = by (is_awake (slice_get devices place)) refl e
  where
    by : (b : Bool) → is_awake (slice_get devices place) ≡ b → (if b then Some place else None) ≡ Some there → IsThere (slice_get devices there)
    by true awake e = let same : place ≡ there = cc in subst (λ (n : ℕ). IsThere (slice_get devices n)) same (awake_there (slice_get devices place) awake)
    by false awake e = absurd cc

module _ (Asks : List Entry → Entry → Type 0) (Knows : List Entry → AirState → Type 0) (airs : Airs Asks Knows) where
  -- ---- what is told of a device that heard

  changed_keep : (devices : List State) (p : OuterState) (air : AirState) (node first count : ℕ) (rest : List AirEvent)
      → Keeps Asks Knows air (each (deals devices) p rest).entries (each (deals devices) p rest).outer.air
      → Keeps Asks Knows air (each (deals devices) p (changed node first count ++ rest)).entries (each (deals devices) p (changed node first count ++ rest)).outer.air
  changed_keep devices p air node first zero rest keeps = keeps
  changed_keep devices p air node first (suc count) rest keeps =
      let told : List Entry = change_entries node (change_at (device_at devices (place_of node devices)) first) in
      keeps_both Asks Knows air air (each (deals devices) p (changed node (first + 1) count ++ rest)).outer.air told (each (deals devices) p (changed node (first + 1) count ++ rest)).entries
      (keeps_plain Asks Knows airs air told (change_plain node (change_at (device_at devices (place_of node devices)) first))) (changed_keep devices p air node (first + 1) count rest keeps)

  answers_keep : (devices : List State) (p : OuterState) (air : AirState) (node : ℕ) (way : Option Route) (replies : List (List ℕ)) (rest : List AirEvent) → p.air ≡ answered air node way replies
      → Keeps Asks Knows p.air (each (deals devices) p rest).entries (each (deals devices) p rest).outer.air
      → Keeps Asks Knows air (each (deals devices) p (answers air node way replies ++ rest)).entries (each (deals devices) p (answers air node way replies ++ rest)).outer.air
  answers_keep devices p air node way [] rest is keeps =
      subst (λ (a : AirState). Keeps Asks Knows a (each (deals devices) p rest).entries (each (deals devices) p rest).outer.air) is keeps
  answers_keep devices p air node way (reply ∷ replies) rest is keeps =
      let next : AirState = departing air node Homeward way reply in
      keeps_both Asks Knows air next (each (deals devices) p (answers next node way replies ++ rest)).outer.air
      (sent_entries (sent_event air node way reply)) (each (deals devices) p (answers next node way replies ++ rest)).entries
      (airs.home air node way reply) (answers_keep devices p next node way replies rest is keeps)

  answers_if_keep : (joined : Bool) (devices : List State) (p : OuterState) (air : AirState) (node : ℕ) (way : Option Route) (replies : List (List ℕ)) (rest : List AirEvent)
      → p.air ≡ answered_if joined air node way replies
      → Keeps Asks Knows p.air (each (deals devices) p rest).entries (each (deals devices) p rest).outer.air
      → Keeps Asks Knows air (each (deals devices) p (answers_if joined air node way replies ++ rest)).entries (each (deals devices) p (answers_if joined air node way replies ++ rest)).outer.air
  answers_if_keep true devices p air node way replies rest is keeps = answers_keep devices p air node way replies rest is keeps
  answers_if_keep false devices p air node way replies rest is keeps =
      subst (λ (a : AirState). Keeps Asks Knows a (each (deals devices) p rest).entries (each (deals devices) p rest).outer.air) is keeps

  -- a device heard, and then the rest is told
  hearing_keep : (devices : List State) (p : OuterState) (air : AirState) (node : ℕ) (route : Option Route) (device : State) (event : DeviceEvent) (rest : List AirEvent)
      → p.air ≡ air_hearing air node route device event
      → Keeps Asks Knows p.air (each (deals devices) p rest).entries (each (deals devices) p rest).outer.air
      → Keeps Asks Knows air (each (deals devices) p (heard_events air node route device event ++ rest)).entries (each (deals devices) p (heard_events air node route device event ++ rest)).outer.air
  hearing_keep devices p air node route device event rest is keeps =
      let first : ℕ = length device.journal in
      let count : ℕ = length (device_after device event).journal - length device.journal in
      let replies : List AirEvent = answers_if (is_joined air node) air node (option_map backwards route) (device_replies device event) in
      subst (λ (events : List AirEvent). Keeps Asks Knows air (each (deals devices) p events).entries (each (deals devices) p events).outer.air) (sym (append_assoc (changed node first count) replies rest))
      (changed_keep devices p air node first count (replies ++ rest)
      (answers_if_keep (is_joined air node) devices p air node (option_map backwards route) (device_replies device event) rest is keeps))

  -- ---- the same line or tick

  deals_time : (devices : List State) (o : OuterState) (event : AirEvent) → IsSameTime o (deals devices o event).outer
  deals_time devices o (air_event.Heard frame) = record { in_tick = refl; stamped = refl }
  deals_time devices o (air_event.Lost frame) = record { in_tick = refl; stamped = refl }
  deals_time devices o (air_event.Unheard frame) = record { in_tick = refl; stamped = refl }
  deals_time devices o (air_event.Sent frame from to route payload) = record { in_tick = refl; stamped = refl }
  deals_time devices o (air_event.Changed node at) = record { in_tick = refl; stamped = refl }
  deals_time devices o (air_event.ToChip frame from payload) = (hears_goes Asks Knows airs o from payload).time
  deals_time devices o (air_event.Done frame status dead) = (ends_goes Asks Knows airs o status dead).time

  each_time : (devices : List State) (o : OuterState) (events : List AirEvent) → IsSameTime o (each (deals devices) o events).outer
  each_time devices o [] = record { in_tick = refl; stamped = refl }
  each_time devices o (event ∷ events) =
      same_then o (deals devices o event).outer (each (deals devices) (deals devices o event).outer events).outer (deals_time devices o event) (each_time devices (deals devices o event).outer events)

  -- ---- what the chip is told at the end

  only_goes : (devices : List State) (o : OuterState) (event : AirEvent) → Goes Asks Knows o (deals devices o event) → Goes Asks Knows o (each (deals devices) o (event ∷ []))
  only_goes devices o event goes =
      then_goes Asks Knows airs o (deals devices o event) (λ later. each (deals devices) later []) goes
      (λ later. record { keeps = keeps_none Asks Knows later.air; time = record { in_tick = refl; stamped = refl } })

  done_keep : (devices : List State) (p : OuterState) (heading : Heading) (number status : ℕ) (dead : Option (ℕ × ℕ))
      → Keeps Asks Knows p.air (each (deals devices) p (done_of heading number status dead)).entries (each (deals devices) p (done_of heading number status dead)).outer.air
  done_keep devices p Outward number status dead = (only_goes devices p (air_event.Done number status dead) (ends_goes Asks Knows airs p status dead)).keeps
  done_keep devices p Homeward number status dead = keeps_none Asks Knows p.air

  to_chip_keep : (devices : List State) (p : OuterState) (number from : ℕ) (payload : List ℕ)
      → Keeps Asks Knows p.air (each (deals devices) p (air_event.ToChip number from payload ∷ [])).entries (each (deals devices) p (air_event.ToChip number from payload ∷ [])).outer.air
  to_chip_keep devices p number from payload = (only_goes devices p (air_event.ToChip number from payload) (hears_goes Asks Knows airs p from payload)).keeps

  -- ---- the next frame arrives

  module _ (w : Outside) (frame : Flown) (next : next_of w.outer.air.frames ≡ Some frame) where
    -- what is told of it, in the air and with the devices as they are then
    abbrev arrived : AirState → List State → List AirEvent → Outcome
    arrived air devices events = each (deals devices) (record w.outer { air = air }) events

    abbrev number : ℕ
    number = w.outer.air.frames.landed + 1

    -- with this fate, which is told first
    lands_so : (air : AirState) (devices : List State) (event : AirEvent) (events : List AirEvent) (became : Entry) → (deals devices (record w.outer { air = air }) event).outer ≡ record w.outer { air = air }
        → (deals devices (record w.outer { air = air }) event).entries ≡ became ∷ [] → IsFate frame number became
        → Keeps Asks Knows (landed w.outer.air) (arrived air devices events).entries (arrived air devices events).outer.air → Lands Asks Knows w.outer (arrived air devices (event ∷ events))
    lands_so air devices event events became same says is keeps =
        let p : OuterState = record w.outer { air = air } in
        let time : IsSameTime p (arrived air devices (event ∷ events)).outer = each_time devices p (event ∷ events) in
        record {
          frame = frame;
          next = next;
          fate = became;
          is = is;
          rest = (arrived air devices events).entries;
          told = ap (λ (l : List Entry). l ++ (each (deals devices) (deals devices p event).outer events).entries) says ∙ ap (λ (q : OuterState). became ∷ (each (deals devices) q events).entries) same;
          keeps = subst (λ (q : OuterState). Keeps Asks Knows (landed w.outer.air) (arrived air devices events).entries (each (deals devices) q events).outer.air) (sym same) keeps;
          time = record { in_tick = time.in_tick; stamped = time.stamped };
        }

    -- a device hears it
    device_lands : (place : ℕ) (found : Option State) (event : DeviceEvent) (route : Option Route) → IsThere found → frame.lost ≡ false
        → Lands Asks Knows w.outer (arrived (heard_at (record { air = landed (acknowledged w.outer.air); devices = w.devices }) place found frame.node route event).air
        (heard_at (record { air = landed (acknowledged w.outer.air); devices = w.devices }) place found frame.node route event).devices
        (outs_at (record { air = landed (acknowledged w.outer.air); devices = w.devices }) found number frame.node route event ++ air_event.Done number (status_of w.outer.air) None ∷ []))
    device_lands place None event route there kept = let none : None ≡ Some there.0 = there.1 in absurd cc
    device_lands place (Some device) event route there kept =
        let before : AirState = landed (acknowledged w.outer.air) in
        let air : AirState = air_hearing before frame.node route device event in
        let devices : List State = slice_set w.devices place (device_after device event) in
        let p : OuterState = record w.outer { air = air } in
        let end : List AirEvent = air_event.Done number (status_of w.outer.air) None ∷ [] in
        let events : List AirEvent = heard_events before frame.node route device event ++ end in
        lands_so air devices (air_event.Heard number) events (entry.Heard number) refl refl (refl, kept)
        (keeps_both Asks Knows (landed w.outer.air) before (each (deals devices) p events).outer.air [] (each (deals devices) p events).entries
        (airs.same (landed w.outer.air) before (record { sent = refl; landed = refl; frames = refl; losing = refl }))
        (hearing_keep devices p before frame.node route device event end refl (only_goes devices p (air_event.Done number (status_of w.outer.air) None) (ends_goes Asks Knows airs p (status_of w.outer.air) None)).keeps))

    lands_as : (x : Fate) (drawn : List ℕ) (route : Option Route) → fate_of w.outer.air.network w.devices frame ≡ x
        → Lands Asks Knows w.outer (arrived (arriving_as (mesh_of w) frame x drawn route).air (arriving_as (mesh_of w) frame x drawn route).devices (arrival_outs_as (mesh_of w) number frame x drawn route))
    lands_as fate.Lost drawn route e =
        lands_so (landed w.outer.air) w.devices (air_event.Lost number) (done_of frame.heading number 1 None) (entry.Lost number) refl refl refl
        (done_keep w.devices (record w.outer { air = landed w.outer.air }) frame.heading number 1 None)
    lands_as (fate.Dead from to) drawn route e =
        lands_so (landed w.outer.air) w.devices (air_event.Unheard number) (done_of frame.heading number 1 (Some (from, to))) (entry.Unheard number) refl refl
        (refl, kept_frame frame.lost (dead_hop_of w.outer.air.network frame) frame.heading (listener_of frame.node w.devices) (fate.Dead from to) (λ same. cc) e)
        (done_keep w.devices (record w.outer { air = landed w.outer.air }) frame.heading number 1 (Some (from, to)))
    lands_as fate.Missed drawn route e =
        lands_so (landed w.outer.air) w.devices (air_event.Unheard number) (done_of frame.heading number 1 None) (entry.Unheard number) refl refl
        (refl, kept_frame frame.lost (dead_hop_of w.outer.air.network frame) frame.heading (listener_of frame.node w.devices) fate.Missed (λ same. cc) e)
        (done_keep w.devices (record w.outer { air = landed w.outer.air }) frame.heading number 1 None)
    lands_as fate.AtChip drawn route e =
        lands_so (landed w.outer.air) w.devices (air_event.Heard number) (air_event.ToChip number frame.node frame.payload ∷ []) (entry.Heard number) refl refl
        (refl, kept_frame frame.lost (dead_hop_of w.outer.air.network frame) frame.heading (listener_of frame.node w.devices) fate.AtChip (λ same. cc) e)
        (to_chip_keep w.devices (record w.outer { air = landed w.outer.air }) number frame.node frame.payload)
    lands_as (fate.AtDevice place) drawn route e =
        device_lands place (slice_get w.devices place) (Hears frame.payload drawn) route
        (awake_found w.devices (place_of frame.node w.devices) place
        (fate_listens frame.lost (dead_hop_of w.outer.air.network frame) frame.heading (listener_of frame.node w.devices) place e))
        (kept_frame frame.lost (dead_hop_of w.outer.air.network frame) frame.heading (listener_of frame.node w.devices) (fate.AtDevice place) (λ same. cc) e)

  lands_if : (w : Outside) (found : Option Flown) (drawn : List ℕ) (route : Option Route) → next_of w.outer.air.frames ≡ found → MayArriveIf (mesh_of w) found route
      → Lands Asks Knows w.outer (each (deals (arriving (mesh_of w) found drawn route).devices) (record w.outer { air = (arriving (mesh_of w) found drawn route).air }) (arrival_outs (mesh_of w) found drawn route))
  lands_if w None drawn route next may = absurd may
  lands_if w (Some frame) drawn route next may = lands_as w frame next (fate_of w.outer.air.network w.devices frame) drawn route refl

  pub arrives_lands : (w : Outside) (drawn : List ℕ) (route : Option Route) → MayHappen (mesh_of w) (mesh.Arrives drawn route) → Lands Asks Knows w.outer (steps w (mesh.Arrives drawn route))
  unfolding mesh_after mesh_outs MayHappen
  arrives_lands w drawn route may = lands_if w (next_of w.outer.air.frames) drawn route refl may.0

  -- ---- a frame is heard again

  module _ (w : Outside) (number : ℕ) (allowed : refusal_of w.outer.air.frames number ≡ None) where
    -- it is told first, or nothing is told
    abbrev IsRepeated : Outcome → Type 0
    IsRepeated x = Goes Asks Knows w.outer x ⊎ IsAgain Asks Knows number w.outer x

    again_so : (air : AirState) (devices : List State) (events : List AirEvent)
        → Keeps Asks Knows w.outer.air (each (deals devices) (record w.outer { air = air }) events).entries (each (deals devices) (record w.outer { air = air }) events).outer.air
        → IsAgain Asks Knows number w.outer (each (deals devices) (record w.outer { air = air }) (air_event.Heard number ∷ events))
    again_so air devices events keeps =
        let p : OuterState = record w.outer { air = air } in
        let time : IsSameTime p (each (deals devices) p events).outer = each_time devices p events in
        record {
          allowed = allowed;
          rest = (each (deals devices) p events).entries;
          told = refl;
          keeps = keeps;
          time = record { in_tick = time.in_tick; stamped = time.stamped };
        }

    nothing_again : Goes Asks Knows w.outer (each (deals w.devices) (record w.outer { air = w.outer.air }) [])
    nothing_again = record { keeps = keeps_none Asks Knows w.outer.air; time = record { in_tick = refl; stamped = refl } }

    device_again : (place : ℕ) (found : Option State) (node : ℕ) (event : DeviceEvent) (route : Option Route)
        → IsRepeated (each (deals (heard_at (mesh_of w) place found node route event).devices) (record w.outer { air = (heard_at (mesh_of w) place found node route event).air })
        (outs_at (mesh_of w) found number node route event))
    device_again place None node event route = inl nothing_again
    device_again place (Some device) node event route =
        let air : AirState = air_hearing w.outer.air node route device event in
        let devices : List State = slice_set w.devices place (device_after device event) in
        let p : OuterState = record w.outer { air = air } in
        inr (again_so air devices (heard_events w.outer.air node route device event)
        (subst (λ (events : List AirEvent). Keeps Asks Knows w.outer.air (each (deals devices) p events).entries (each (deals devices) p events).outer.air) (append-nil (heard_events w.outer.air node route device event))
        (hearing_keep devices p w.outer.air node route device event [] refl (keeps_none Asks Knows p.air))))

    listener_again : (place : Option ℕ) (node : ℕ) (event : DeviceEvent) (route : Option Route)
        → IsRepeated (each (deals (heard_again (mesh_of w) place node route event).devices) (record w.outer { air = (heard_again (mesh_of w) place node route event).air })
        (outs_again (mesh_of w) place number node route event))
    listener_again None node event route = inl nothing_again
    listener_again (Some place) node event route = device_again place (slice_get w.devices place) node event route

    heading_again : (heading : Heading) (frame : Flown) (drawn : List ℕ) (route : Option Route)
        → IsRepeated (each (deals (repeating_by heading (mesh_of w) frame drawn route).devices) (record w.outer { air = (repeating_by heading (mesh_of w) frame drawn route).air })
        (repeat_outs_by heading (mesh_of w) number frame drawn route))
    heading_again Homeward frame drawn route =
        inr (again_so w.outer.air w.devices (air_event.ToChip number frame.node frame.payload ∷ []) (to_chip_keep w.devices w.outer number frame.node frame.payload))
    heading_again Outward frame drawn route = listener_again (listener_of frame.node w.devices) frame.node (Hears frame.payload drawn) route

    again_if : (found : Option Flown) (drawn : List ℕ) (route : Option Route)
        → IsRepeated (each (deals (repeating (mesh_of w) found drawn route).devices) (record w.outer { air = (repeating (mesh_of w) found drawn route).air }) (repeat_outs (mesh_of w) number found drawn route))
    again_if None drawn route = inl nothing_again
    again_if (Some frame) drawn route = heading_again frame.heading frame drawn route

    steps_again : (drawn : List ℕ) (route : Option Route) → IsRepeated (steps w (mesh.Repeats number drawn route))
    unfolding mesh_after mesh_outs
    steps_again drawn route = again_if (remembered w.outer.air.frames number) drawn route

  pub repeats_again : (w : Outside) (refused : Option Refusal) (number : ℕ) (drawn : List ℕ) (route : Option Route) → refusal_of w.outer.air.frames number ≡ refused
      → Goes Asks Knows w.outer (repeats w refused (mesh.Repeats number drawn route)) ⊎ IsAgain Asks Knows number w.outer (repeats w refused (mesh.Repeats number drawn route))
  repeats_again w None number drawn route is = steps_again w number is drawn route
  repeats_again w (Some NeverSent) number drawn route is = inl (goes_still Asks Knows airs w.outer w.outer (repeats w (Some NeverSent) (mesh.Repeats number drawn route)).entries (tt, tt) refl (record { in_tick = refl; stamped = refl }))
  repeats_again w (Some Forgotten) number drawn route is = inl (goes_still Asks Knows airs w.outer w.outer (repeats w (Some Forgotten) (mesh.Repeats number drawn route)).entries (tt, tt) refl (record { in_tick = refl; stamped = refl }))
  repeats_again w (Some (Stale later)) number drawn route is =
      inl (goes_still Asks Knows airs w.outer w.outer (repeats w (Some (Stale later)) (mesh.Repeats number drawn route)).entries (tt, tt) refl (record { in_tick = refl; stamped = refl }))
