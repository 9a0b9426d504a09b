-- A frame that arrives, or is heard again: the first device of its node hears it where it goes to a node, and no device where it goes to the controller; that it was heard is entered first.
use Rattle.std.proofs.Common.{◌≡◌, ◌≢◌, ℕ, ◌+◌, ◌-◌, ◌==◌, ◌≤◌, Bool, true, false, if◌then◌else◌, List, [], ◌∷◌, ◌++◌, length, refl, sym, ap, subst, ◌∙◌, append-nil, append_assoc, inl, inr, ◌⊎◌, arith}
use Rattle.std.proofs.lemmas.Bool.{ne_eqb, eq-eqb}
use Rattle.std.specs.Prelude.{Option, Some, None, slice_get, slice_set}
use Rattle.std.specs.Option.{option_map}
use Rattle.std.specs.List.{AllByRecursion, flat_map}
use Rattle.std.proofs.lemmas.Grind.{flat_map-append}
use Rattle.zw_base.proofs.Each.{all-append}
use Rattle.route_table.specs.declared.route.Route.{Route}
use Rattle.device_sim.specs.State.{State}
use Rattle.device_sim.specs.Event.{DeviceEvent, Hears, device_after, device_replies}
use Rattle.air_frames.specs.declared.frame.Heading.{Heading}
use Rattle.air_frames.specs.declared.frame.Heading.TheVariants.{Outward, Homeward}
use Rattle.air_frames.specs.Flown.{Flown}
use Rattle.air_frames.specs.Frames.{next_of, remembered}
use Rattle.air_frames.specs.Ages.{refusal_of}
use Rattle.air_frames.specs.declared.ages.Refusal.{Refusal as RepeatRefusal}
use Rattle.air_frames.specs.declared.ages.Refusal.TheVariants.{NeverSent, Forgotten, Stale}
use Rattle.mesh_sim.specs.declared.event.AirEvent.{AirEvent}
use Rattle.mesh_sim.specs.declared.event.AirEvent.TheVariants as air_event
use Rattle.mesh_sim.specs.declared.fate.Fate.{Fate}
use Rattle.mesh_sim.specs.declared.fate.Fate.TheVariants as fate
use Rattle.mesh_sim.specs.Air.{AirState, is_joined}
use Rattle.mesh_sim.specs.Fates.{Mesh, dead_hop_of, fate_of, listener_of, place_of}
use Rattle.chip_sim.specs.Nodes.{is_marked}
use Rattle.mesh_sim.specs.Routes.{backwards}
use Rattle.mesh_sim.specs.Steps.{landed, acknowledged, status_of, done_of, changed, answers_if, outs_at, heard_at, arriving_as, arriving, arrival_outs_as, arrival_outs, heard_again, outs_again, repeating_by, repeating, repeat_outs_by, repeat_outs, mesh_after, mesh_outs}
use Rattle.mesh_sim.specs.Steps as mesh
use Rattle.zw_text.specs.declared.entry.Entry.{Entry}
use Rattle.zw_text.specs.declared.entry.Entry.TheVariants as entry
use Rattle.zw_text.specs.Transcript.{AirFrame, lines_run}
use Rattle.law_transcript.specs.Devices.{ComingAt, after_events, brought, brought_by, brought_unjoined_at, lived_by, sent_from}
use Rattle.law_transcript.specs.Devices.Coming.{Payload}
use Rattle.law_transcript.specs.Lists.{shown_after}
use Rattle.law_transcript.specs.Nodes.{controller, is_joined as is_joined_by}
use Rattle.law_transcript.specs.Repeats.{frame_of}
use Rattle.law_transcript.specs.Restarts.{ticks_asked}
use Rattle.outside_model.specs.State.{OuterState, Outside, each}
use Rattle.outside_model.specs.Air.{deals, sent_entries}
use Rattle.outside_model.specs.Events.{Arrives, Repeats, mesh_of, outcome, refusal_entries, repeats, devices_repeated, devices_after, entries, stamp, ticked_entry}
use Rattle.proof_air.specs.proof_walk.Outside.{nothing}
use Rattle.proof_air.proofs.ChangesOutside.{fate_home, fate_out, listener_is}
use Rattle.proof_air.specs.Logs.{Tie as TieAir}
use Rattle.proof_air.specs.Carrying.{IsHome}
use Rattle.proof_air.proofs.Homes.{next_home, again_home}
use Rattle.proof_devices.specs.Living.{Keeping, Tie}
use Rattle.proof_air.proofs.Entering.{AreOwn, hearing_are}
use Rattle.proof_devices.proofs.Quiet.{AreQuiet, IsBy, AreBy, AreIdle, IsMute, IsOwnEvent, are_by, are_quiet, idle_quiet, own_are_by, all_deals_idle, all_deals_own, each_both, stamp_idle}
use Rattle.proof_devices.proofs.Joined.{IsUnsaid, are_unsaid, both_none, heard_unjoined}
use Rattle.proof_devices.proofs.Sent.{all_deals_sent, answers_if_sent, changed_sent, none_sent, others_sent, replied, sent_both}
use Rattle.proof_devices.proofs.Keeping.{Keeps, Resting, Replying, idle_rests}
use Rattle.proof_devices.proofs.Shown.{IsOut, home_brings, heard_brought, still_brought}
use Rattle.proof_devices.proofs.Frames.{next_out, again_out}
use Rattle.proof_devices.proofs.Places.{tie_still, tie_first}

-- ---- what becomes of the devices

-- a frame for the controller, which no device hears
pub record ToHome (past : List Entry) (number : ℕ) (devices later : List State) : Type 0 where
  pub node : ℕ
  pub payload : List ℕ
  pub home : IsHome past number node payload
  pub same : later ≡ devices

-- one for a node, whose first device hears it
pub record ToDevice (past : List Entry) (number : ℕ) (devices later : List State) : Type 0 where
  pub node : ℕ
  pub payload : List ℕ
  pub drawn : List ℕ
  pub place : ℕ
  pub device : State
  pub out : IsOut past number node payload
  pub first : place_of node devices ≡ Some place
  pub stood : slice_get devices place ≡ Some device
  pub set : later ≡ slice_set devices place (device_after device (Hears payload drawn))

-- then stands what that device did, and its replies, if its node is joined, and then what no device did
pub record OfDevice (past : List Entry) (joined : List Bool) (number : ℕ) (rest : List AirEvent) (devices later : List State) : Type 0 where
  pub to : ToDevice past number devices later
  pub mine : List AirEvent
  pub end : List AirEvent
  pub are : rest ≡ mine ++ end
  pub own : AllByRecursion (IsOwnEvent to.node) mine
  pub mute : AllByRecursion IsMute end
  pub sent : sent_from to.node (flat_map sent_entries mine) ≡ replied (is_marked joined to.node) (device_replies to.device (Hears to.payload to.drawn))

-- these events tell first that a frame was heard, and no more of that
pub record TellsHeard (past : List Entry) (joined : List Bool) (events : List AirEvent) (devices later : List State) : Type 0 where
  pub number : ℕ
  pub rest : List AirEvent
  pub are : events ≡ air_event.Heard number ∷ rest
  pub hears : (ToHome past number devices later × AllByRecursion IsMute rest) ⊎ OfDevice past joined number rest devices later

-- or none is heard
abbrev pub TellsNone : List AirEvent → List State → List State → Type 0
TellsNone events devices later = AllByRecursion IsMute events × (later ≡ devices)

abbrev pub Tells : List Entry → List Bool → List AirEvent → List State → List State → Type 0
Tells past joined events devices later = TellsNone events devices later ⊎ TellsHeard past joined events devices later

-- ---- what is told of it

done_mute : (heading : Heading) (number status : ℕ) (dead : Option (ℕ × ℕ)) → AllByRecursion IsMute (done_of heading number status dead)
done_mute Outward number status dead = (tt, tt)
done_mute Homeward number status dead = tt

-- ---- the device at a place

at_place : (past : List Entry) (base : Mesh) (place number node : ℕ) (payload drawn : List ℕ) (found : Option State) (route : Option Route) (end : List AirEvent) → slice_get base.devices place ≡ found
    → place_of node base.devices ≡ Some place → IsOut past number node payload → AllByRecursion IsMute end
    → Tells past base.air.joined (outs_at base found number node route (Hears payload drawn) ++ end) base.devices (heard_at base place found node route (Hears payload drawn)).devices
at_place past base place number node payload drawn None route end stood first out mute = inl (mute, refl)
at_place past base place number node payload drawn (Some device) route end stood first out mute =
    let event : DeviceEvent = Hears payload drawn in
    let changes : List AirEvent = changed node (length device.journal) (length (device_after device event).journal - length device.journal) in
    let replies : List AirEvent = answers_if (is_joined base.air node) base.air node (option_map backwards route) (device_replies device event) in
    inr (record {
      number = number;
      rest = (changes ++ replies) ++ end;
      are = refl;
      hears = inr (record {
        to = record { node = node; payload = payload; drawn = drawn; place = place; device = device; out = out; first = first; stood = stood; set = refl };
        mine = changes ++ replies;
        end = end;
        are = refl;
        own = hearing_are (IsOwnEvent node) node (λ at. refl) (λ frame over payload. refl) base.air route device event;
        mute = mute;
        sent = ap (sent_from node)
            (flat_map-append sent_entries changes replies
            ∙ ap (λ (l : List Entry). l ++ flat_map sent_entries replies) (changed_sent node (length device.journal) (length (device_after device event).journal - length device.journal)))
            ∙ answers_if_sent (is_joined base.air node) node base.air (option_map backwards route) (device_replies device event);
      });
    })

-- ---- a frame arrives

module _ (past : List Entry) (w : Outside) (tie : TieAir nothing past w) where
  abbrev Tells_of : List AirEvent → List State → Type 0
  Tells_of events later = Tells past w.outer.air.joined events w.devices later

  arrives_as : (frame : Flown) (x : Fate) (drawn : List ℕ) (route : Option Route) → next_of w.outer.air.frames ≡ Some frame → fate_of w.outer.air.network w.devices frame ≡ x
      → Tells_of (arrival_outs_as (mesh_of w) (w.outer.air.frames.landed + 1) frame x drawn route) (arriving_as (mesh_of w) frame x drawn route).devices
  arrives_as frame fate.Lost drawn route next is = inl ((tt, done_mute frame.heading (w.outer.air.frames.landed + 1) 1 None), refl)
  arrives_as frame (fate.Dead from to) drawn route next is = inl ((tt, done_mute frame.heading (w.outer.air.frames.landed + 1) 1 (Some (from, to))), refl)
  arrives_as frame fate.Missed drawn route next is = inl ((tt, done_mute frame.heading (w.outer.air.frames.landed + 1) 1 None), refl)
  arrives_as frame fate.AtChip drawn route next is =
      let heads = fate_home frame.lost (dead_hop_of w.outer.air.network frame) frame.heading (listener_of frame.node w.devices) is in
      inr (record {
        number = w.outer.air.frames.landed + 1;
        rest = air_event.ToChip (w.outer.air.frames.landed + 1) frame.node frame.payload ∷ [];
        are = refl;
        hears = inl (record { node = frame.node; payload = frame.payload; home = next_home past w tie frame next heads; same = refl }, (tt, tt));
      })
  arrives_as frame (fate.AtDevice place) drawn route next is =
      let goes = fate_out frame.lost (dead_hop_of w.outer.air.network frame) frame.heading (listener_of frame.node w.devices) place is in
      at_place past (record { air = landed (acknowledged w.outer.air); devices = w.devices }) place (w.outer.air.frames.landed + 1) frame.node frame.payload drawn (slice_get w.devices place) route
      (air_event.Done (w.outer.air.frames.landed + 1) (status_of w.outer.air) None ∷ []) refl (listener_is frame.node w.devices place goes.1) (next_out past w tie frame next goes.0) (tt, tt)

  arrives_if : (found : Option Flown) (drawn : List ℕ) (route : Option Route) → next_of w.outer.air.frames ≡ found
      → Tells_of (arrival_outs (mesh_of w) found drawn route) (arriving (mesh_of w) found drawn route).devices
  arrives_if None drawn route next = inl (tt, refl)
  arrives_if (Some frame) drawn route next = arrives_as frame (fate_of w.outer.air.network w.devices frame) drawn route next refl

  -- ---- a frame is heard again

  again_at : (place : Option ℕ) (number : ℕ) (frame : Flown) (drawn : List ℕ) (route : Option Route) → listener_of frame.node w.devices ≡ place → IsOut past number frame.node frame.payload
      → Tells_of (outs_again (mesh_of w) place number frame.node route (Hears frame.payload drawn)) (heard_again (mesh_of w) place frame.node route (Hears frame.payload drawn)).devices
  again_at None number frame drawn route listens out = inl (tt, refl)
  again_at (Some place) number frame drawn route listens out =
      subst (λ (l : List AirEvent). Tells_of l (heard_at (mesh_of w) place (slice_get w.devices place) frame.node route (Hears frame.payload drawn)).devices)
      (append-nil (outs_at (mesh_of w) (slice_get w.devices place) number frame.node route (Hears frame.payload drawn)))
      (at_place past (mesh_of w) place number frame.node frame.payload drawn (slice_get w.devices place) route [] refl (listener_is frame.node w.devices place listens) out tt)

  again_by : (heading : Heading) (number : ℕ) (frame : Flown) (drawn : List ℕ) (route : Option Route) → remembered w.outer.air.frames number ≡ Some frame → frame.heading ≡ heading
      → Tells_of (repeat_outs_by heading (mesh_of w) number frame drawn route) (repeating_by heading (mesh_of w) frame drawn route).devices
  again_by Homeward number frame drawn route found heads = inr (record {
    number = number;
    rest = air_event.ToChip number frame.node frame.payload ∷ [];
    are = refl;
    hears = inl (record { node = frame.node; payload = frame.payload; home = again_home past w tie number frame found heads; same = refl }, (tt, tt));
  })
  again_by Outward number frame drawn route found heads = again_at (listener_of frame.node w.devices) number frame drawn route refl (again_out past w tie number frame found heads)

  again_if : (number : ℕ) (found : Option Flown) (drawn : List ℕ) (route : Option Route) → remembered w.outer.air.frames number ≡ found
      → Tells_of (repeat_outs (mesh_of w) number found drawn route) (repeating (mesh_of w) found drawn route).devices
  again_if number None drawn route found = inl (tt, refl)
  again_if number (Some frame) drawn route found = again_by frame.heading number frame drawn route found refl

  arrives_tell : (drawn : List ℕ) (route : Option Route) → Tells_of (mesh_outs (mesh_of w) (mesh.Arrives drawn route)) (mesh_after (mesh_of w) (mesh.Arrives drawn route)).devices
  unfolding mesh_after mesh_outs
  arrives_tell drawn route = arrives_if (next_of w.outer.air.frames) drawn route refl

  again_tell : (number : ℕ) (drawn : List ℕ) (route : Option Route)
      → Tells_of (mesh_outs (mesh_of w) (mesh.Repeats number drawn route)) (mesh_after (mesh_of w) (mesh.Repeats number drawn route)).devices
  unfolding mesh_after mesh_outs
  again_tell number drawn route = again_if number (remembered w.outer.air.frames number) drawn route refl

-- ---- with the entries

pub record EntersDevice (past : List Entry) (joined : List Bool) (number : ℕ) (rest : List Entry) (devices later : List State) : Type 0 where
  pub to : ToDevice past number devices later
  pub mine : List Entry
  pub end : List Entry
  pub are : rest ≡ mine ++ end
  pub own : AreOwn to.node mine
  pub idle : AreIdle end
  pub sent : to.node ≢ controller → sent_from to.node mine ≡ replied (is_marked joined to.node) (device_replies to.device (Hears to.payload to.drawn))

module _ (past : List Entry) (joined : List Bool) (number : ℕ) (rest : List Entry) (devices later : List State) (enters : EntersDevice past joined number rest devices later) where
  pub enters_by : AreBy enters.to.node rest
  enters_by =
      subst (AreBy enters.to.node) (sym enters.are)
      (all-append (IsBy enters.to.node) enters.mine enters.end (own_are_by enters.to.node enters.mine enters.own) (are_by enters.to.node enters.end enters.idle))

  enters_sent : enters.to.node ≢ controller → sent_from enters.to.node rest ≡ replied (is_marked joined enters.to.node) (device_replies enters.to.device (Hears enters.to.payload enters.to.drawn))
  enters_sent apart =
      ap (sent_from enters.to.node) enters.are
      ∙ (sent_both enters.to.node enters.mine enters.end
      ∙ (ap (λ (l : List (List ℕ)). sent_from enters.to.node enters.mine ++ l) (none_sent enters.to.node enters.end apart enters.idle)
      ∙ (append-nil (sent_from enters.to.node enters.mine) ∙ enters.sent apart)))

-- nothing is heard; or that one is, directly after what stands before it
pub record EntersHeard (past : List Entry) (joined : List Bool) (before told : List Entry) (devices later : List State) : Type 0 where
  pub number : ℕ
  pub rest : List Entry
  pub are : told ≡ before ++ entry.Heard number ∷ rest
  pub hears : (ToHome past number devices later × AreIdle rest) ⊎ EntersDevice past joined number rest devices later

abbrev pub Enters : List Entry → List Bool → List Entry → List Entry → List State → List State → Type 0
Enters past joined before told devices later = (AreIdle told × (later ≡ devices)) ⊎ EntersHeard past joined before told devices later

step_enters : (past : List Entry) (w : Outside) (devices : List State) (p : OuterState) (events : List AirEvent) → Tells past w.outer.air.joined events w.devices devices
    → Enters past w.outer.air.joined (ticked_entry (each (deals devices) p events).outer) (stamp (each (deals devices) p events).outer (each (deals devices) p events).entries) w.devices devices
step_enters past w devices p events (inl (mute, same)) =
    inl (stamp_idle (each (deals devices) p events).outer (each (deals devices) p events).entries (all_deals_idle devices p events mute), same)
step_enters past w devices p events (inr tells) =
    subst (λ (l : List AirEvent). Enters past w.outer.air.joined (ticked_entry (each (deals devices) p l).outer) (stamp (each (deals devices) p l).outer (each (deals devices) p l).entries) w.devices devices) (sym tells.are)
    (inr (record { number = tells.number; rest = (each (deals devices) p tells.rest).entries; are = refl; hears = by tells.hears }))
  where
    by : (ToHome past tells.number w.devices devices × AllByRecursion IsMute tells.rest) ⊎ OfDevice past w.outer.air.joined tells.number tells.rest w.devices devices
        → (ToHome past tells.number w.devices devices × AreIdle (each (deals devices) p tells.rest).entries)
        ⊎ EntersDevice past w.outer.air.joined tells.number (each (deals devices) p tells.rest).entries w.devices devices
    by (inl (home, mute)) = inl (home, all_deals_idle devices p tells.rest mute)
    by (inr of) =
        let mine = each (deals devices) p of.mine in
        inr (record {
          to = of.to;
          mine = mine.entries;
          end = (each (deals devices) mine.outer of.end).entries;
          are = ap (λ (l : List AirEvent). (each (deals devices) p l).entries) of.are ∙ each_both (deals devices) p of.mine of.end;
          own = all_deals_own of.to.node devices p of.mine of.own;
          idle = all_deals_idle devices mine.outer of.end of.mute;
          sent = λ apart. all_deals_sent of.to.node devices p of.mine apart ∙ of.sent;
        })

pub arrives_enters : (past : List Entry) (w : Outside) (drawn : List ℕ) (route : Option Route) → TieAir nothing past w
    → Enters past w.outer.air.joined (ticked_entry (outcome w (Arrives drawn route)).outer) (entries w (Arrives drawn route)) w.devices (devices_after w (Arrives drawn route))
unfolding outcome devices_after
arrives_enters past w drawn route tie =
    step_enters past w (mesh_after (mesh_of w) (mesh.Arrives drawn route)).devices (record w.outer { air = (mesh_after (mesh_of w) (mesh.Arrives drawn route)).air })
    (mesh_outs (mesh_of w) (mesh.Arrives drawn route)) (arrives_tell past w tie drawn route)

pub again_enters : (past : List Entry) (w : Outside) (number : ℕ) (drawn : List ℕ) (route : Option Route) → TieAir nothing past w
    → Enters past w.outer.air.joined (ticked_entry (outcome w (Repeats number drawn route)).outer) (entries w (Repeats number drawn route)) w.devices (devices_after w (Repeats number drawn route))
unfolding outcome devices_after
again_enters past w number drawn route tie = by (refusal_of w.outer.air.frames number)
  where
    by : (refused : Option RepeatRefusal)
        → Enters past w.outer.air.joined (ticked_entry (repeats w refused (mesh.Repeats number drawn route)).outer) (stamp (repeats w refused (mesh.Repeats number drawn route)).outer (repeats w refused (mesh.Repeats number drawn route)).entries) w.devices (devices_repeated w refused (mesh.Repeats number drawn route))
    by None = step_enters past w (mesh_after (mesh_of w) (mesh.Repeats number drawn route)).devices (record w.outer { air = (mesh_after (mesh_of w) (mesh.Repeats number drawn route)).air }) (mesh_outs (mesh_of w) (mesh.Repeats number drawn route)) (again_tell past w tie number drawn route)
    by (Some NeverSent) = inl (stamp_idle w.outer (refusal_entries NeverSent) (tt, tt), refl)
    by (Some Forgotten) = inl (stamp_idle w.outer (refusal_entries Forgotten) (tt, tt), refl)
    by (Some (Stale later)) = inl (stamp_idle w.outer (refusal_entries (Stale later)) (tt, tt), refl)

-- ---- the tie

-- what the frame brings a node
out_brings : (node ticks : ℕ) (past : List Entry) (number : ℕ) (payload : List ℕ) → IsOut past number node payload
    → brought_by node ticks (frame_of past number) ≡ record { ticks = ticks; coming = Payload payload } ∷ []
out_brings node ticks past number payload out =
    let here : (out.frame.receiver == node) ≡ true = eq-eqb out.frame.receiver node out.receiver in
    ap (brought_by node ticks) out.found ∙ (rw here (ap (λ (p : List ℕ). record { ticks = ticks; coming = Payload p } ∷ []) out.payload_is))

out_brings_no_other : (node other ticks : ℕ) (past : List Entry) (number : ℕ) (payload : List ℕ) → other ≢ node → IsOut past number node payload
    → brought_by other ticks (frame_of past number) ≡ []
out_brings_no_other node other ticks past number payload apart out =
    let elsewhere : (out.frame.receiver == other) ≡ false = ne_eqb out.frame.receiver other (λ same. apart (sym same ∙ out.receiver)) in
    ap (brought_by other ticks) out.found ∙ (rw elsewhere refl)

-- that a frame was heard stands between entries that bring nothing
module _ (node : ℕ) (past before : List Entry) (number : ℕ) (rest told : List Entry) (idle : AreIdle before) (quiet : AreQuiet rest) (are : told ≡ before ++ entry.Heard number ∷ rest) where
  pub heard_unsaid : AllByRecursion IsUnsaid told
  heard_unsaid =
      subst (AllByRecursion IsUnsaid) (sym are) (all-append IsUnsaid before (entry.Heard number ∷ rest) (are_unsaid before (idle_quiet before idle)) (refl, are_unsaid rest quiet))

  pub heard_came : shown_after (brought_unjoined_at node) past told
      ≡ (if is_joined_by (past ++ before) node then [] else brought_by node (lived_by (past ++ before)) (frame_of (past ++ before) number))
  heard_came = ap (shown_after (brought_unjoined_at node) past) are ∙ heard_unjoined node past before number rest (idle_quiet before idle) quiet

  heard_sends : node ≢ controller → sent_from node told ≡ sent_from node rest
  heard_sends apart =
      ap (sent_from node) are
      ∙ (sent_both node before (entry.Heard number ∷ rest) ∙ ap (λ (l : List (List ℕ)). l ++ sent_from node rest) (none_sent node before apart idle))

  -- it brings the node nothing
  heard_rests : node ≢ controller → brought_by node (lived_by (past ++ before)) (frame_of (past ++ before) number) ≡ [] → sent_from node rest ≡ [] → Resting node past told
  heard_rests apart none silent = record {
    unsaid = heard_unsaid;
    nothing = heard_came ∙ (ap (λ (l : List ComingAt). if is_joined_by (past ++ before) node then [] else l) none ∙ both_none (is_joined_by (past ++ before) node));
    silent = heard_sends apart ∙ silent;
  }

  -- its device hears it, and replies if the node is joined
  heard_replies : (joined : Bool) (replies : List (List ℕ)) → node ≢ controller → is_joined_by (past ++ before) node ≡ is_joined_by past node → sent_from node rest ≡ replied joined replies
      → Replying node joined replies past told
  heard_replies joined replies apart still sent = record {
    unsaid = heard_unsaid;
    nothing = λ is. heard_came
        ∙ ap (λ (b : Bool). if◌then◌else◌ {A = List ComingAt} b [] (brought_by node (lived_by (past ++ before)) (frame_of (past ++ before) number))) (still ∙ is);
    sent = heard_sends apart ∙ sent;
  }

-- all have lived as many ticks, and as many has a device before the entry, with what stands before that
module _ (Also : Keeping) (olds : List State) (Joins : List Entry → AirState → Type 0) (keeps : Keeps olds Also Joins) (ticks : ℕ) (past before told : List Entry) (w v : Outside)
    (idle : AreIdle before) (lived : lived_by (past ++ before) ≡ ticks) (same_frame : (number : ℕ) → frame_of (past ++ before) number ≡ frame_of past number)
    (still_joined : (node : ℕ) → is_joined_by (past ++ before) node ≡ is_joined_by past node) (asked : ticks ≤ ticks_asked (lines_run past)) (joins : Joins past w.outer.air)
    (tie : Tie Also olds (λ place. ticks) past w) where
  module _ (number : ℕ) (rest : List Entry) (are : told ≡ before ++ entry.Heard number ∷ rest) (quiet : AreQuiet rest) where
    comes_by : (node : ℕ) → brought_by node (lived_by (past ++ before)) (frame_of (past ++ before) number) ≡ brought_by node ticks (frame_of past number)
    comes_by node =
        ap (λ (n : ℕ). brought_by node n (frame_of (past ++ before) number)) lived ∙ ap (λ (o : Option AirFrame). brought_by node ticks o) (same_frame number)

    grown : (node : ℕ) → brought node (past ++ told) ≡ brought node past ++ brought_by node ticks (frame_of past number)
    grown node =
        ap (λ (l : List Entry). brought node (past ++ l)) are
        ∙ (ap (brought node) (sym (append_assoc past before (entry.Heard number ∷ rest)))
        ∙ (heard_brought node (past ++ before) number rest quiet
        ∙ (ap (λ (l : List ComingAt). l ++ brought_by node (lived_by (past ++ before)) (frame_of (past ++ before) number)) (still_brought node past before (idle_quiet before idle))
        ∙ ap (λ (l : List ComingAt). brought node past ++ l) (comes_by node))))

    none_grown : (node : ℕ) → brought_by node ticks (frame_of past number) ≡ [] → brought node (past ++ told) ≡ brought node past
    none_grown node none = grown node ∙ (ap (λ (l : List ComingAt). brought node past ++ l) none ∙ append-nil (brought node past))

    rests_so : (old : State) (events : List DeviceEvent) → old.node ≢ controller → brought_by old.node ticks (frame_of past number) ≡ [] → sent_from old.node rest ≡ []
        → Also past old events → Also (past ++ told) old events
    rests_so old events apart none silent also =
        keeps.rests past told old events apart (heard_rests old.node past before number rest told idle quiet are apart (comes_by old.node ∙ none) silent) also

    -- a frame for the controller
    home_tie : ToHome past number w.devices v.devices → AreIdle rest → Tie Also olds (λ place. ticks) (past ++ told) v
    home_tie home rest_idle =
        let none : (node : ℕ) → node ≢ controller → brought_by node ticks (frame_of past number) ≡ []
        = λ node apart. home_brings node ticks (frame_of past number) (record { node = home.node; payload = home.payload }) apart home.home in
        tie_still Also olds (λ place. ticks) (λ place. ticks) past (past ++ told) w v home.same (λ place. refl) (λ place old first apart. none_grown old.node (none old.node apart))
        (λ place old events apart came ticked also. rests_so old events apart (none old.node apart) (none_sent old.node rest apart rest_idle) also) tie

    -- one for a node
    device_tie : EntersDevice past w.outer.air.joined number rest w.devices v.devices → Tie Also olds (λ place. ticks) (past ++ told) v
    device_tie enters =
        let to = enters.to in
        let event : DeviceEvent = Hears to.payload to.drawn in
        let none : (other : ℕ) → other ≢ to.node → brought_by other ticks (frame_of past number) ≡ [] = λ other differ. out_brings_no_other to.node other ticks past number to.payload differ to.out in
        tie_first Also olds ticks past (past ++ told) w v to.node to.place to.device event to.first to.stood to.set refl
        (λ old same apart. (
          grown to.node ∙ ap (λ (l : List ComingAt). brought to.node past ++ l) (out_brings to.node ticks past number to.payload to.out),
          λ events runs came lived_so comes ticked also. keeps.does past told w.outer.air old events event (λ is. apart (sym same ∙ is)) joins
              (subst (λ (n : ℕ). Replying n (is_joined w.outer.air n) (device_replies (after_events old events) event) past told) (sym same)
              (subst (λ (s : State). Replying to.node (is_joined w.outer.air to.node) (device_replies s event) past told) runs
              (heard_replies to.node past before number rest told idle quiet are (is_joined w.outer.air to.node) (device_replies to.device event) apart (still_joined to.node) (enters_sent past w.outer.air.joined number rest w.devices v.devices enters apart))))
              (omega (arith, ap length came)) comes (subst (λ (n : ℕ). n ≤ ticks_asked (lines_run past)) (sym ticked) asked) also,
        ))
        (λ other differ apart. (
          none_grown other.node (none other.node differ),
          λ events came ticked also. rests_so other events apart (none other.node differ) (others_sent to.node other.node rest differ apart (enters_by past w.outer.air.joined number rest w.devices v.devices enters)) also,
        )) tie

  pub enters_tie : Enters past w.outer.air.joined before told w.devices v.devices → Tie Also olds (λ place. ticks) (past ++ told) v
  enters_tie (inl (told_idle, same)) =
      tie_still Also olds (λ place. ticks) (λ place. ticks) past (past ++ told) w v same (λ place. refl)
      (λ place old first apart. still_brought old.node past told (idle_quiet told told_idle))
      (λ place old events apart came ticked also. keeps.rests past told old events apart (idle_rests old.node past told apart told_idle) also) tie
  enters_tie (inr enters) = by enters.hears
    where
      by : (ToHome past enters.number w.devices v.devices × AreIdle enters.rest) ⊎ EntersDevice past w.outer.air.joined enters.number enters.rest w.devices v.devices
          → Tie Also olds (λ place. ticks) (past ++ told) v
      by (inl (home, rest_idle)) = home_tie enters.number enters.rest enters.are (idle_quiet enters.rest rest_idle) home rest_idle
      by (inr device) = device_tie enters.number enters.rest enters.are (are_quiet device.to.node enters.rest (enters_by past w.outer.air.joined enters.number enters.rest w.devices v.devices device)) device
