-- Chip and air know the same joined nodes at each moment: both learn of a node only where it joins.
use Rattle.std.proofs.Common.{◌≡◌, ℕ, ◌-◌, ◌==◌, Bool, true, false, if◌then◌else◌, List, [], ◌∷◌, ◌++◌, refl, sym, ap, ◌∙◌}
use Rattle.std.specs.Prelude.{Option, Some, None, option_map, slice_get, slice_set}
use Rattle.s0_crypto.specs.declared.key_pair.Keys.{Keys}
use Rattle.serial_frame.specs.Stream.{after_tick}
use Rattle.route_table.specs.declared.route.Route.{Route}
use Rattle.device_sim.specs.State.{State}
use Rattle.device_sim.specs.Event.{DeviceEvent, Hears, device_replies}
use Rattle.chip_functions.specs.declared.notice.TransmitStatus.{TransmitStatus}
use Rattle.chip_sim.specs.Nodes.{none_marked}
use Rattle.chip_sim.specs.State.{ChipState}
use Rattle.chip_sim.specs.Requests.{heard, passed}
use Rattle.chip_sim.specs.Events.{ChipEvent, Judged, Ticked, Heard as chip_hears, Done, Informed, Joined, Linked, Forgets, Collides, after, collides, ended, outs}
use Rattle.chip_sim.specs.Did.{after_all}
use Rattle.chip_sim.specs.declared.out.ChipOut.{ChipOut}
use Rattle.chip_sim.specs.declared.out.ChipOut.TheVariants.{Write, OnAir, NoRoute, AskInfo, Full}
use Rattle.chip_sim.specs.declared.out.Sending.{Sending as SendingParts}
use Rattle.air_frames.specs.declared.frame.Heading.TheVariants.{Homeward}
use Rattle.air_frames.specs.Flown.{Flown}
use Rattle.air_frames.specs.Frames.{next_of, remembered}
use Rattle.mesh_sim.specs.declared.event.AirEvent.{AirEvent}
use Rattle.mesh_sim.specs.declared.event.AirEvent.TheVariants as air_event
use Rattle.mesh_sim.specs.declared.fate.Fate.{Fate}
use Rattle.mesh_sim.specs.declared.fate.Fate.TheVariants.{Lost, Dead, Missed, AtChip, AtDevice}
use Rattle.mesh_sim.specs.Air.{AirState, departing, is_joined, joining}
use Rattle.mesh_sim.specs.Fates.{Mesh, fate_of, listener_of, place_of}
use Rattle.mesh_sim.specs.Routes.{backwards}
use Rattle.mesh_sim.specs.Steps.{AirStep, acknowledged, answered, answered_if, arriving, arriving_as, heard_again, heard_at, landed, mesh_after, repeating, repeating_by}
use Rattle.mesh_sim.specs.Steps as mesh
use Rattle.air_frames.specs.declared.frame.Heading.{Heading}
use Rattle.air_frames.specs.declared.frame.Heading.TheVariants.{Outward}
use Rattle.zw_words.specs.declared.side.Side.TheVariants.{Host as by_host, Chip as by_chip}
use Rattle.outside_model.specs.State.{OuterState, Outcome, Outside, first_outer, with_chip}
use Rattle.outside_model.specs.Chip.{chip_does, put_out}
use Rattle.outside_model.specs.Results.{device_at}
use Rattle.outside_model.specs.Nodes.{links_of, listens_at}
use Rattle.outside_model.specs.Air.{deals}
use Rattle.outside_model.specs.Events.{OuterEvent, Host_writes, Host_takes, Host_notes, Shows, Joins, Discovers, Links, Loses, Loses_acks, Marks_loss, Marks_change, Clears_pipe, Collides_next, Stalls, Cuts, mesh_of, outcome, ticked_entry}
use Rattle.world_model.specs.State.{first_machine}
use Rattle.proof_air.proofs.Results.{Gives, IsGiven, ends_go, gives_go, to_chip_goes}
use Rattle.proof_air.specs.proof_walk.Outside.{IsHearing, IsSimple, Outer}
use Rattle.proof_air.specs.proof_walk.Walk.{Walk}
use Rattle.proof_air.proofs.Machines.{machine_keeps}
use Rattle.proof_air.proofs.Times.{does_chip, each_keeps}
use Rattle.proof_air.proofs.Airing.{begins_joined}
use Rattle.proof_air.proofs.Alone.{Any, covers_any}
use Rattle.proof_chip.specs.Knowing.{AnyEntry, KnownNodes, KnowsNodes, SameNodes}
use Rattle.proof_chip.proofs.Judged.{judged_nodes}
use Rattle.proof_chip.proofs.Learning.{any_each, discovers_keep, joins_keep}

-- ---- the chip

ended_joined : (o : Option SendingParts) (s : ChipState) (status : TransmitStatus) → (ended o s status).joined ≡ s.joined
ended_joined None s status = refl
ended_joined (Some parts) s status = refl

-- no node joins
abbrev JoinsNone : ChipEvent → Type 0
JoinsNone (Joined node listening) = ⊥
JoinsNone event = Unit {0}

after_joined : (s : ChipState) (event : ChipEvent) → JoinsNone event → (after s event).joined ≡ s.joined
after_joined s (Judged item way) none = (judged_nodes (passed (collides s) item) (heard s item)).0
after_joined s Ticked none = refl
after_joined s (chip_hears n payload) none = refl
after_joined s (Done status) none = by (s.aborted == 0)
  where
    by : (b : Bool) → (if b then ended s.sending s status else record s { aborted = s.aborted - 1 }).joined ≡ s.joined
    by true = ended_joined s.sending s status
    by false = refl
after_joined s (Informed n profile) none = refl
after_joined s (Joined n listening) none = absurd none
after_joined s (Linked a b live) none = refl
after_joined s (Forgets a b) none = refl
after_joined s Collides none = refl

put_joined : (o : OuterState) (out : ChipOut) → (put_out o out).outer.air.joined ≡ o.air.joined
put_joined o (Write unit) = refl
put_joined o (OnAir to route payload) = refl
put_joined o NoRoute = refl
put_joined o (AskInfo node) = refl
put_joined o Full = refl

does_same : (o : OuterState) (event : ChipEvent) → JoinsNone event → SameNodes o → SameNodes (chip_does o event).outer
unfolding chip_does
does_same o event none same =
    ap (λ (s : ChipState). s.joined) (does_chip o event)
    ∙ after_joined o.chip.state event none
    ∙ same
    ∙ sym (each_keeps (λ (p : OuterState). p.air.joined) put_out put_joined (with_chip o (after o.chip.state event)) (outs o.chip.state event))

joins_same : (o : OuterState) (node : ℕ) (listening : Bool) → SameNodes o
    → (after_all (after o.chip.state (Joined node listening)) (links_of (joining o.air node listening) node)).joined ≡ (joining o.air node listening).joined
joins_same o node listening same =
    joins_keep (λ (s : ChipState). s.joined) (λ s a b live. refl) o node listening ∙ ap (λ (l : List Bool). slice_set l node true) same

given_joins : (event : ChipEvent) → IsGiven event → JoinsNone event
given_joins (Joined node listening) given = absurd given
given_joins event given = tt

abbrev Goes : OuterState → Outcome → Type 0
Goes o x = SameNodes o → SameNodes x.outer

given_same : Gives Goes
given_same = record {
  still = λ o p is same. ap (λ (s : ChipState). s.joined) is.chip ∙ same ∙ sym (ap (λ (a : AirState). a.joined) is.air);
  both = λ o first next one later same. later first.outer (one same);
  later = λ o p x is goes same. goes (ap (λ (s : ChipState). s.joined) is.chip ∙ same ∙ sym (ap (λ (a : AirState). a.joined) is.air));
  does = λ o event is same. does_same o event (given_joins event is) same;
  forgotten = λ o a b same. same;
}

deals_same : (there : List State) (o : OuterState) (event : AirEvent) → Goes o (deals there o event)
deals_same there o (air_event.Heard frame) same = same
deals_same there o (air_event.Lost frame) same = same
deals_same there o (air_event.Unheard frame) same = same
deals_same there o (air_event.Sent frame from to route payload) same = same
deals_same there o (air_event.Changed node at) same = same
deals_same there o (air_event.ToChip frame from payload) same = to_chip_goes Goes given_same o from payload same
deals_same there o (air_event.Done frame status dead) same = ends_go Goes given_same o status dead same

-- ---- the air

answered_joined : (air : AirState) (node : ℕ) (way : Option Route) (replies : List (List ℕ)) → (answered air node way replies).joined ≡ air.joined
answered_joined air node way [] = refl
answered_joined air node way (reply ∷ replies) = answered_joined (departing air node Homeward way reply) node way replies

answers_joined : (b : Bool) (air : AirState) (node : ℕ) (way : Option Route) (replies : List (List ℕ)) → (answered_if b air node way replies).joined ≡ air.joined
answers_joined true air node way replies = answered_joined air node way replies
answers_joined false air node way replies = refl

heard_joined : (there : Mesh) (place : ℕ) (device : Option State) (node : ℕ) (route : Option Route) (event : DeviceEvent) → (heard_at there place device node route event).air.joined ≡ there.air.joined
heard_joined there place None node route event = refl
heard_joined there place (Some device) node route event = answers_joined (is_joined there.air node) there.air node (option_map backwards route) (device_replies device event)

arrival_joined : (there : Mesh) (frame : Flown) (fate : Fate) (drawn : List ℕ) (route : Option Route) → (arriving_as there frame fate drawn route).air.joined ≡ there.air.joined
arrival_joined there frame Lost drawn route = refl
arrival_joined there frame (Dead from to) drawn route = refl
arrival_joined there frame Missed drawn route = refl
arrival_joined there frame AtChip drawn route = refl
arrival_joined there frame (AtDevice place) drawn route =
    heard_joined (record there { air = landed (acknowledged there.air) }) place (slice_get there.devices place) frame.node route (Hears frame.payload drawn)

arriving_joined : (there : Mesh) (next : Option Flown) (drawn : List ℕ) (route : Option Route) → (arriving there next drawn route).air.joined ≡ there.air.joined
arriving_joined there None drawn route = refl
arriving_joined there (Some frame) drawn route = arrival_joined there frame (fate_of there.air.network there.devices frame) drawn route

again_joined : (there : Mesh) (place : Option ℕ) (node : ℕ) (route : Option Route) (event : DeviceEvent) → (heard_again there place node route event).air.joined ≡ there.air.joined
again_joined there None node route event = refl
again_joined there (Some place) node route event = heard_joined there place (slice_get there.devices place) node route event

repeat_joined : (heading : Heading) (there : Mesh) (frame : Flown) (drawn : List ℕ) (route : Option Route) → (repeating_by heading there frame drawn route).air.joined ≡ there.air.joined
repeat_joined Homeward there frame drawn route = refl
repeat_joined Outward there frame drawn route = again_joined there (listener_of frame.node there.devices) frame.node route (Hears frame.payload drawn)

repeating_joined : (there : Mesh) (frame : Option Flown) (drawn : List ℕ) (route : Option Route) → (repeating there frame drawn route).air.joined ≡ there.air.joined
repeating_joined there None drawn route = refl
repeating_joined there (Some frame) drawn route = repeat_joined frame.heading there frame drawn route

steps_joined : (there : Mesh) (step : AirStep) → IsHearing step → (mesh_after there step).air.joined ≡ there.air.joined
unfolding mesh_after
steps_joined there (mesh.Arrives drawn route) hearing = arriving_joined there (next_of there.air.frames) drawn route
steps_joined there (mesh.Repeats number drawn route) hearing = repeating_joined there (remembered there.air.frames number) drawn route
steps_joined there step hearing = absurd hearing

-- ---- simple events

simple_same : (w : Outside) (event : OuterEvent) → IsSimple event → SameNodes w.outer → SameNodes (outcome w event).outer
unfolding outcome
simple_same w (Host_writes unit) simple same = same
simple_same w (Host_takes count) simple same = same
simple_same w (Host_notes note) simple same = same
simple_same w (Shows node) simple same = same
simple_same w (Joins node) simple same = joins_same w.outer node (listens_at (device_at w.devices (place_of node w.devices))) same
simple_same w Discovers simple same = discovers_keep (λ (s : ChipState). s.joined) (λ s a b live. refl) w.outer ∙ same
simple_same w (Links a b live) simple same = same
simple_same w (Loses count) simple same = same
simple_same w (Loses_acks count) simple same = same
simple_same w (Marks_loss by_host) simple same = same
simple_same w (Marks_loss by_chip) simple same = same
simple_same w (Marks_change by_host garble) simple same = same
simple_same w (Marks_change by_chip garble) simple same = same
simple_same w (Clears_pipe by_host) simple same = same
simple_same w (Clears_pipe by_chip) simple same = same
simple_same w Collides_next simple same = same
simple_same w (Stalls ticks) simple same = same
simple_same w (Cuts size) simple same = same
simple_same w event simple same = absurd simple

-- ---- all of it

members : Outer AnyEntry (λ pending. KnowsNodes) Any
members = record {
  line = λ covers awaits past w same. same;
  tick = λ covers awaits past w same. (tt, same);
  number = λ past w same. same;
  stamps = λ awaits stamped past w same. same;
  simple = λ w event simple covers awaits past silent same. (any_each past (outcome w event).entries, simple_same w event simple same);
  session = λ w node session command awaits past silent same. ((tt, tt), same ∙ sym (begins_joined w.outer.air node session));
  takes = λ w count rest ways may awaits past silent same. (tt, same);
  judges = λ w way ways may awaits past silent same. (any_each past (chip_does w.outer (Judged way.0 way.1)).entries, does_same w.outer (Judged way.0 way.1) tt same);
  judged = λ awaits past w same. same;
  ticks = λ w awaits past silent same.
      let fed : OuterState = record w.outer { chip = record { decoder = after_tick w.outer.chip.decoder; state = w.outer.chip.state } } in
      (any_each past (chip_does fed Ticked).entries, does_same fed Ticked tt same);
  gives = λ w route may awaits past silent same. (any_each past _, gives_go Goes given_same w.outer w.devices w.outer.due route same);
  steps = λ w step hearing may awaits past silent same. (tt, same ∙ sym (steps_joined (mesh_of w) step hearing));
  deals = λ w event events awaits past silent same. (any_each past (deals w.devices w.outer event).entries, deals_same w.devices w.outer event same);
  acts = λ w place device event route found may awaits past silent same.
      (any_each past _, same ∙ sym (answers_joined (is_joined w.outer.air device.node) w.outer.air device.node (option_map backwards route) (device_replies device event)));
}

pub members_walk : Walk AnyEntry (λ here past m. KnownNodes past m)
members_walk = record {
  said = λ past m words line read known. (tt, (known.0, any_each (past ++ _ ∷ []) (ticked_entry m.outside.outer)));
  event = λ here next past m event goes may known. machine_keeps AnyEntry (λ pending. KnowsNodes) Any members (λ event own. tt) m event (covers_any event) may past known;
  turn = λ here next past m turns known. known;
}

pub members_first : (keys : Keys) (records : Option (List (List ℕ))) (devices : List State) → KnownNodes [] (first_machine keys records devices)
unfolding first_outer none_marked
members_first keys records devices = (refl, any_each [] (ticked_entry (first_machine keys records devices).outside.outer))
