-- Each event outside the host, in the course of one node.
use Rattle.std.proofs.Common.{◌≡◌, ℕ, ◌<◌, ◌≤◌, ◌==◌, Bool, true, false, Option, Some, None, List, [], ◌∷◌, ◌++◌, refl, ap, sym, ◌∙◌, subst, append-nil, arith}
use Rattle.std.specs.Prelude.{slice_get, slice_set}
use Rattle.std.specs.Option.{option_map}
use Rattle.std.proofs.lemmas.Bool.{eqb-true}
use Rattle.supervision.specs.Host.{no_sessions}
use Rattle.supervision.specs.Device.{Taken}
use Rattle.supervision.specs.Ends.{Report}
use Rattle.proof_course.specs.Sessions.{Course, Message, first_course}
use Rattle.proof_course.specs.SessionFacts.{CourseFacts}
use Rattle.serial_frame.specs.Stream.{Rest, no_rest, after_tick}
use Rattle.serial_frame.specs.declared.item.Item.{Item}
use Rattle.serial_link.specs.declared.turn.Turn.{Turn}
use Rattle.serial_link.specs.declared.turn.Turn.TheVariants.{Idle}
use Rattle.serial_pipes.specs.Events.{Clears}
use Rattle.serial_pipes.specs.Events as way
use Rattle.serial_pipes.specs.declared.marks.Garble.{Garble}
use Rattle.zw_words.specs.declared.side.Side.{Side}
use Rattle.zw_words.specs.declared.side.Side.TheVariants.{Host, Chip}
use Rattle.route_table.specs.declared.route.Route.{Route}
use Rattle.chip_sim.specs.Events.{Collides, Ticked, Joined, after}
use Rattle.chip_sim.specs.Did.{after_all}
use Rattle.air_frames.specs.declared.frame.Heading.TheVariants.{Outward}
use Rattle.air_frames.specs.Ages.{refusal_of}
use Rattle.air_frames.specs.declared.ages.Refusal.{Refusal as RepeatRefusal}
use Rattle.air_frames.specs.Flown.{Flown}
use Rattle.air_frames.specs.Frames.{FramesState, no_frames}
use Rattle.air_frames.specs.History.{Mark}
use Rattle.proof_traffic.specs.Flights.{Fly}
use Rattle.device_sim.specs.State.{State}
use Rattle.device_sim.specs.Event.{DeviceEvent, Ticks, Wakes, Sets, device_after, device_replies}
use Rattle.mesh_sim.specs.declared.event.AirEvent.{AirEvent}
use Rattle.mesh_sim.specs.Air.{AirState, is_joined, joining}
use Rattle.mesh_sim.specs.Fates.{Mesh, place_of}
use Rattle.mesh_sim.specs.Routes.{backwards}
use Rattle.mesh_sim.specs.Steps.{mesh_after, mesh_outs, MayHappen, answered_if}
use Rattle.mesh_sim.specs.Steps as mesh
use Rattle.outside_model.specs.Results.{device_at, gives}
use Rattle.outside_model.specs.Air.{deals}
use Rattle.outside_model.specs.Nodes.{listens_at, joins, discovers, links_of}
use Rattle.outside_model.specs.Chip.{chip_does}
use Rattle.outside_model.specs.Devices.{acts_at, acts_by_hand, device_set, set_by_hand}
use Rattle.outside_model.specs.State.{OuterState, Outside, outside, with_chip, each, first_outer}
use Rattle.outside_model.specs.Events.{OuterEvent, Begins_line, Begins_tick, Host_writes, Host_takes as host_takes, Host_notes, Host_begins, Chip_takes, Arrives, Gives, Device_ticks, Chip_ticks, Repeats, Wakes_device, Sets_device, Shows, Joins, Discovers, Links, Loses, Loses_acks, Marks_loss, Marks_change, Clears_pipe, Collides_next, Stalls, Cuts, is_own, outcome, devices_after, happens, repeats, devices_repeated, mesh_of, May, MayRepeat, with_way, way_of}
use Rattle.proof_traffic.specs.OutsideTraffic.{outward}
use Rattle.proof_traffic.specs.OnAir.{IsFew, OuterStaysFew}
use Rattle.proof_world.specs.proof_serial.Way.{Carries}
use Rattle.proof_world.proofs.Ways.{carries_none}
use Rattle.proof_traffic.proofs.ChangesOutside.{place_is}
use Rattle.proof_course_plain.specs.Ways.{Thinned}
use Rattle.proof_course_plain.specs.Meaning.{Asked}
use Rattle.proof_course_plain.specs.Air.{OnAir}
use Rattle.proof_course_plain.specs.Making.{Makes, AllMake, HearsNone}
use Rattle.proof_course_plain.specs.Device.{AtDevice, GoesAs}
use Rattle.proof_course_plain.specs.Mesh.{HasDevice, InMesh, IsTold, labels, brought, Adds, MeshGoes}
use Rattle.proof_course_plain.specs.Outside.{Follows, OuterGoes, SideRests, Rests}
use Rattle.proof_course_plain.proofs.ThinnedWays.{goes_nowhere, up_thins, down_thins}
use Rattle.proof_course_plain.proofs.WayLabels.{thinned_same, thinned_after, labels-append}
use Rattle.proof_course_plain.proofs.Segments.{kept_none}
use Rattle.proof_course_plain.proofs.MadeSettings.{first_makes}
use Rattle.proof_course_plain.proofs.Idle.{idle_makes}
use Rattle.proof_course_plain.proofs.Replies.{Flying, one_place, one_stands}
use Rattle.proof_course_plain.proofs.ChipNotices.{ChipTells, tells_still, tells_one, deals_tell, gives_tells, joins_tell, discovers_tell, collides_tell}
use Rattle.proof_course_plain.proofs.Outer.{mesh_down, mesh_up, outer_goes, entered, takes_go}

-- the laws that are used
pub record Laws : Type 0 where
  pub flying : Flying
  pub room : (log : List Mark) (before : List Flown) (flight : Flown) (o : OuterState) → Fly log (before ++ flight ∷ []) o.air.frames → flight.heading ≡ Outward → IsFew o → outward before ≤ 1
  pub arrives : (node : ℕ) (orders : List Asked) (c : Course) (m : Mesh) (drawn : List ℕ) (route : Option Route) → node < 233 → CourseFacts c → InMesh node orders c m → MayHappen m (mesh.Arrives drawn route)
      → MeshGoes node orders c (mesh_after m (mesh.Arrives drawn route)) (brought (mesh_outs m (mesh.Arrives drawn route)))
  pub repeats : (node : ℕ) (orders : List Asked) (c : Course) (m : Mesh) (number : ℕ) (drawn : List ℕ) (route : Option Route) → node < 233 → CourseFacts c → InMesh node orders c m → refusal_of m.air.frames number ≡ None → MayHappen m (mesh.Repeats number drawn route)
      → MeshGoes node orders c (mesh_after m (mesh.Repeats number drawn route)) (brought (mesh_outs m (mesh.Repeats number drawn route)))
  pub own : (node : ℕ) (orders : List Asked) (c : Course) (m : Mesh) (place : ℕ) (device : State) (event : DeviceEvent) (found : Option Route) → InMesh node orders c m → slice_get m.devices place ≡ Some device
      → place_of device.node m.devices ≡ Some place → (device.node ≡ node → GoesAs c device event) → (device.node ≡ node → Makes orders c.host.commands (device_after device event))
      → MeshGoes node orders c (record { air = answered_if (is_joined m.air device.node) m.air device.node found (device_replies device event); devices = slice_set m.devices place (device_after device event) }) []
  pub ticks : (node : ℕ) (orders : List Asked) (c : Course) (m : Mesh) (place : ℕ) (device : State) (drawn : List ℕ) (found : Option Route) → InMesh node orders c m → slice_get m.devices place ≡ Some device
      → MeshGoes node orders c (record { air = answered_if (is_joined m.air device.node) m.air device.node found (device_replies device (Ticks drawn)); devices = slice_set m.devices place (device_after device (Ticks drawn)) }) []
  pub wakes : (c : Course) (device : State) → AtDevice c device → GoesAs c device Wakes
  pub sets : (c : Course) (device : State) (value : ℕ) → AtDevice c device → GoesAs c device (Sets value)
  pub keeps : (orders : List Asked) (commands : List ℕ) (device : State) (event : DeviceEvent) → HearsNone event → Makes orders commands device → Makes orders commands (device_after device event)

module _ (laws : Laws) (node : ℕ) (orders : List Asked) (c : Course) (rest : Rest) (turn : Turn) (up down : List Item) where
  nothing_adds : Adds c c []
  nothing_adds = record { host = refl; sent = refl; up = refl; down = sym (append-nil c.down); told = refl }

  same_mesh : (w : Outside) (air : AirState) → air.frames ≡ w.outer.air.frames → InMesh node orders c (mesh_of w) → InMesh node orders c (record { air = air; devices = w.devices })
  same_mesh w air is m =
      record { log = m.log; flights = m.flights; on_air = subst (λ (fs : FramesState). OnAir node orders c.host c.air c.old m.log m.flights fs) (sym is) m.on_air; device = m.device; made = m.made }

  -- nothing of this changes
  still : (w : Outside) (n : OuterState) → Follows node orders c rest turn up down w → n.chip ≡ w.outer.chip → n.to_host ≡ w.outer.to_host → n.to_chip ≡ w.outer.to_chip → n.air.frames ≡ w.outer.air.frames
      → OuterGoes node orders c rest turn (outside n w.devices)
  still w n f chip to_host to_chip frames =
      outer_goes node orders c rest turn up down w c [] n n w.devices f chip to_host to_chip (goes_nowhere c) nothing_adds (same_mesh w n.air frames f.mesh)
      (tells_still IsTold node n n [] (record { chip = refl; to_host = refl; to_chip = refl }) refl)

  -- the chip does something, and the air is as it was
  chip_goes : (w : Outside) (n : OuterState) → Follows node orders c rest turn up down w → ChipTells IsTold node [] w.outer n → OuterGoes node orders c rest turn (outside n w.devices)
  chip_goes w n f tells = outer_goes node orders c rest turn up down w c [] w.outer n w.devices f refl refl refl (goes_nowhere c) nothing_adds f.mesh tells

  -- what happens on the air is dealt with
  mesh_goes : (w : Outside) (m : Mesh) (outs : List AirEvent) → Follows node orders c rest turn up down w → MeshGoes node orders c m (brought outs)
      → OuterGoes node orders c rest turn (outside (each (deals m.devices) (record w.outer { air = m.air }) outs).outer m.devices)
  mesh_goes w m outs f g =
      outer_goes node orders c rest turn up down w g.later (labels g.marks) (record w.outer { air = m.air }) (each (deals m.devices) (record w.outer { air = m.air }) outs).outer m.devices f refl refl refl g.goes g.adds g.in_mesh
      (deals_tell IsTold node m.devices (record w.outer { air = m.air }) outs g.marks g.brings)

  repeats_go : (w : Outside) (refused : Option RepeatRefusal) (number : ℕ) (drawn : List ℕ) (route : Option Route) → node < 233 → CourseFacts c → Follows node orders c rest turn up down w → refusal_of w.outer.air.frames number ≡ refused
      → MayRepeat w refused (mesh.Repeats number drawn route) → OuterGoes node orders c rest turn (outside (repeats w refused (mesh.Repeats number drawn route)).outer (devices_repeated w refused (mesh.Repeats number drawn route)))
  repeats_go w None number drawn route within course f is may =
      mesh_goes w (mesh_after (mesh_of w) (mesh.Repeats number drawn route)) (mesh_outs (mesh_of w) (mesh.Repeats number drawn route)) f (laws.repeats node orders c (mesh_of w) number drawn route within course f.mesh is may)
  repeats_go w (Some refused) number drawn route within course f is may = still w w.outer f refl refl refl refl

  -- a tick of a device
  device_ticks : (w : Outside) (place : ℕ) (found : Option State) (drawn : List ℕ) (route : Option Route) → Follows node orders c rest turn up down w → slice_get w.devices place ≡ found
      → OuterGoes node orders c rest turn (outside (acts_at w.outer found (Ticks drawn) route).outer (device_set w.devices place found (Ticks drawn)))
  device_ticks w place None drawn route f stood = still w w.outer f refl refl refl refl
  device_ticks w place (Some device) drawn route f stood =
      mesh_goes w (record { air = answered_if (is_joined w.outer.air device.node) w.outer.air device.node (option_map backwards route) (device_replies device (Ticks drawn)); devices = slice_set w.devices place (device_after device (Ticks drawn)) }) [] f
      (laws.ticks node orders c (mesh_of w) place device drawn (option_map backwards route) f.mesh stood)

  -- an event of the first device of a node
  acts_go : (w : Outside) (n place : ℕ) (found : Option State) (event : DeviceEvent) (route : Option Route) → HearsNone event → Follows node orders c rest turn up down w → place_of n w.devices ≡ Some place → slice_get w.devices place ≡ found
      → ((device : State) → AtDevice c device → GoesAs c device event) → OuterGoes node orders c rest turn (outside (acts_at w.outer found event route).outer (device_set w.devices place found event))
  acts_go w n place None event route none f first stood goes = still w w.outer f refl refl refl refl
  acts_go w n place (Some device) event route none f first stood goes =
      let h = f.mesh.device in
      let of_node : device.node ≡ n = place_is n w.devices place device first stood in
      let here : place_of device.node w.devices ≡ Some place = ap (λ (k : ℕ). place_of k w.devices) of_node ∙ first in
      mesh_goes w (record { air = answered_if (is_joined w.outer.air device.node) w.outer.air device.node (option_map backwards route) (device_replies device event); devices = slice_set w.devices place (device_after device event) }) [] f
      (laws.own node orders c (mesh_of w) place device event (option_map backwards route) f.mesh stood here
      (λ own. goes device (subst (λ (d : State). AtDevice c d)
      (sym (one_stands w.devices place h.place device h.device stood h.stands (one_place node w.devices place h.place (ap (λ (k : ℕ). place_of k w.devices) (sym own) ∙ here) h.first))) h.at))
      (λ own. laws.keeps orders c.host.commands device event none (f.mesh.made place device stood own)))

  hand_go : (w : Outside) (n : ℕ) (place : Option ℕ) (event : DeviceEvent) (route : Option Route) → HearsNone event → Follows node orders c rest turn up down w → place_of n w.devices ≡ place → ((device : State) → AtDevice c device → GoesAs c device event)
      → OuterGoes node orders c rest turn (outside (acts_by_hand w.outer w.devices place event route).outer (set_by_hand w.devices place event))
  hand_go w n None event route none f first goes = still w w.outer f refl refl refl refl
  hand_go w n (Some place) event route none f first goes = acts_go w n place (slice_get w.devices place) event route none f first refl goes

  -- a node joins
  joins_go : (w : Outside) (n : ℕ) (listening : Bool) → Follows node orders c rest turn up down w → OuterGoes node orders c rest turn (outside (joins w.outer n listening) w.devices)
  joins_go w n listening f =
      let air : AirState = joining w.outer.air n listening in
      let mid : OuterState = with_chip w.outer (after_all w.outer.chip.state (Joined n listening ∷ links_of air n)) in
      let g : OuterGoes node orders c rest turn (outside mid w.devices) = chip_goes w mid f (joins_tell IsTold node w.outer n listening) in
      record {
        later = g.later;
        goes = g.goes;
        host = g.host;
        told = g.told;
        up = g.up;
        down = g.down;
        follows = record {
          mesh = record { log = g.follows.mesh.log; flights = g.follows.mesh.flights; on_air = g.follows.mesh.on_air; device = g.follows.mesh.device; made = g.follows.mesh.made };
          to_chip = g.follows.to_chip;
          to_host = g.follows.to_host;
          frames = g.follows.frames;
          waits = g.follows.waits;
          messages = g.follows.messages;
          reports = g.follows.reports;
        };
      }

  -- marks of the line
  loses_go : (w : Outside) (side : Side) → Follows node orders c rest turn up down w → OuterGoes node orders c rest turn (outside (with_way w.outer side (way.after (way_of w.outer side) way.Loses)) w.devices)
  loses_go w Host f = record {
    later = c;
    goes = goes_nowhere c;
    host = refl;
    told = refl;
    up = up;
    down = down;
    follows = record { mesh = f.mesh; to_chip = f.to_chip; to_host = f.to_host; frames = f.frames; waits = f.waits; messages = f.messages; reports = f.reports };
  }
  loses_go w Chip f = record {
    later = c;
    goes = goes_nowhere c;
    host = refl;
    told = refl;
    up = up;
    down = down;
    follows = record { mesh = f.mesh; to_chip = f.to_chip; to_host = f.to_host; frames = f.frames; waits = f.waits; messages = f.messages; reports = f.reports };
  }

  changes_go : (w : Outside) (side : Side) (garble : Garble) → Follows node orders c rest turn up down w → OuterGoes node orders c rest turn (outside (with_way w.outer side (way.after (way_of w.outer side) (way.Changes garble))) w.devices)
  changes_go w Host garble f = record {
    later = c;
    goes = goes_nowhere c;
    host = refl;
    told = refl;
    up = up;
    down = down;
    follows = record { mesh = f.mesh; to_chip = f.to_chip; to_host = f.to_host; frames = f.frames; waits = f.waits; messages = f.messages; reports = f.reports };
  }
  changes_go w Chip garble f = record {
    later = c;
    goes = goes_nowhere c;
    host = refl;
    told = refl;
    up = up;
    down = down;
    follows = record { mesh = f.mesh; to_chip = f.to_chip; to_host = f.to_host; frames = f.frames; waits = f.waits; messages = f.messages; reports = f.reports };
  }

  -- what is on its way is lost
  clears_go : (w : Outside) (side : Side) → Follows node orders c rest turn up down w → SideRests rest w side → OuterGoes node orders c rest turn (outside (with_way w.outer side (way.after (way_of w.outer side) Clears)) w.devices)
  clears_go w Host f rests =
      let on = f.messages in
      let now : List Message = labels (on.on_link ++ on.waits) in
      let thin : Thinned c.up now = subst (λ (us : List Message). Thinned us now) (sym (on.are ∙ labels-append on.on_line (on.on_link ++ on.waits))) (thinned_after (labels on.on_line) now now (thinned_same now)) in
      record {
        later = record c { up = now };
        goes = up_thins c now thin;
        host = refl;
        told = refl;
        up = [];
        down = down;
        follows = record {
          mesh = mesh_up node orders c (mesh_of w) now f.mesh;
          to_chip = subst (λ (r : Rest). Carries r (way.after w.outer.to_chip Clears) []) (sym rests) (carries_none w.outer.to_chip);
          to_host = f.to_host;
          frames = f.frames;
          waits = f.waits;
          messages = record { on_line = []; on_link = on.on_link; waits = on.waits; line = tt; link = on.link; following = on.following; are = refl };
          reports = f.reports;
        };
      }
  clears_go w Chip f rests =
      let on = f.reports in
      let now : List Report = labels (on.on_link ++ on.waits) in
      let thin : Thinned c.down now = subst (λ (ds : List Report). Thinned ds now) (sym (on.are ∙ labels-append on.on_line (on.on_link ++ on.waits))) (thinned_after (labels on.on_line) now now (thinned_same now)) in
      record {
        later = record c { down = now };
        goes = down_thins c now thin;
        host = refl;
        told = refl;
        up = up;
        down = [];
        follows = record {
          mesh = mesh_down node orders c (mesh_of w) now f.mesh;
          to_chip = f.to_chip;
          to_host = subst (λ (r : Rest). Carries r (way.after w.outer.to_host Clears) []) (sym rests) (carries_none w.outer.to_host);
          frames = f.frames;
          waits = f.waits;
          messages = f.messages;
          reports = record { on_line = []; on_link = on.on_link; waits = on.waits; line = tt; link = on.link; following = on.following; are = refl };
        };
      }

  -- a tick of the chip
  tick_goes : (w : Outside) → Follows node orders c rest turn up down w → w.outer.chip.decoder ≡ no_rest → OuterGoes node orders c rest turn (outside (outcome w Chip_ticks).outer w.devices)
  unfolding outcome
  tick_goes w f rests =
      let o : OuterState = w.outer in
      let ticked : OuterState = record o { chip = record { decoder = after_tick o.chip.decoder; state = o.chip.state } } in
      let same : after_tick o.chip.decoder ≡ o.chip.decoder = ap after_tick rests ∙ sym rests in
      outer_goes node orders c rest turn up down w c [] ticked (chip_does ticked Ticked).outer w.devices f (ap (λ (r : Rest). record { decoder = r; state = o.chip.state }) same) refl refl (goes_nowhere c) nothing_adds f.mesh
      (tells_one IsTold node ticked Ticked None tt tt refl)

  -- ---- any event

  wrong : {X : Type 0} → false ≡ true → X
  wrong bad = absurd cc

  goes_by : (w : Outside) (event : OuterEvent) → node < 233 → CourseFacts c → Follows node orders c rest turn up down w → is_own event ≡ true → May w event → Rests rest w event → OuterStaysFew w.outer event
      → OuterGoes node orders c rest turn (outside (outcome w event).outer (devices_after w event))
  unfolding outcome devices_after May
  goes_by w Begins_line within course f own may rests few = still w _ f refl refl refl refl
  goes_by w Begins_tick within course f own may rests few = still w _ f refl refl refl refl
  goes_by w (Host_writes unit) within course f own may rests few = wrong own
  goes_by w (host_takes count) within course f own may rests few = wrong own
  goes_by w (Host_notes entry) within course f own may rests few = wrong own
  goes_by w (Host_begins n sessions) within course f own may rests few = wrong own
  goes_by w (Chip_takes count after_rest ways) within course f own may rests few = takes_go laws.flying laws.room node orders c rest turn up down w count after_rest ways f may few
  goes_by w (Arrives drawn route) within course f own may rests few =
      mesh_goes w (mesh_after (mesh_of w) (mesh.Arrives drawn route)) (mesh_outs (mesh_of w) (mesh.Arrives drawn route)) f (laws.arrives node orders c (mesh_of w) drawn route within course f.mesh may)
  goes_by w (Gives route) within course f own may rests few = chip_goes w (gives w.outer w.devices w.outer.due route).outer f (gives_tells IsTold node w.outer w.devices w.outer.due route)
  goes_by w (Device_ticks place drawn route) within course f own may rests few = device_ticks w place (slice_get w.devices place) drawn route f refl
  goes_by w Chip_ticks within course f own may rests few = tick_goes w f rests
  goes_by w (Repeats number drawn route) within course f own may rests few = repeats_go w (refusal_of w.outer.air.frames number) number drawn route within course f refl may
  goes_by w (Wakes_device n route) within course f own may rests few = hand_go w n (place_of n w.devices) Wakes route tt f refl (λ device at. laws.wakes c device at)
  goes_by w (Sets_device n value route) within course f own may rests few = hand_go w n (place_of n w.devices) (Sets value) route tt f refl (λ device at. laws.sets c device value at)
  goes_by w (Shows n) within course f own may rests few = still w _ f refl refl refl refl
  goes_by w (Joins n) within course f own may rests few = joins_go w n (listens_at (device_at w.devices (place_of n w.devices))) f
  goes_by w Discovers within course f own may rests few = chip_goes w (discovers w.outer) f (discovers_tell IsTold node w.outer)
  goes_by w (Links a b live) within course f own may rests few = still w _ f refl refl refl refl
  goes_by w (Loses count) within course f own may rests few = still w _ f refl refl refl refl
  goes_by w (Loses_acks count) within course f own may rests few = still w _ f refl refl refl refl
  goes_by w (Marks_loss side) within course f own may rests few = loses_go w side f
  goes_by w (Marks_change side garble) within course f own may rests few = changes_go w side garble f
  goes_by w (Clears_pipe side) within course f own may rests few = clears_go w side f rests
  goes_by w Collides_next within course f own may rests few = chip_goes w (with_chip w.outer (after w.outer.chip.state Collides)) f (collides_tell IsTold node w.outer)
  goes_by w (Stalls ticks) within course f own may rests few = still w _ f refl refl refl refl
  goes_by w (Cuts size) within course f own may rests few = still w _ f refl refl refl refl

  pub event_goes : (w : Outside) (event : OuterEvent) → node < 233 → CourseFacts c → Follows node orders c rest turn up down w → is_own event ≡ true → May w event → Rests rest w event → OuterStaysFew w.outer event
      → OuterGoes node orders c rest turn (happens w event)
  event_goes w event within course f own may rests few = entered node orders c rest turn (outcome w event).outer (devices_after w event) (outcome w event).entries (goes_by w event within course f own may rests few)

-- ---- at first

first_make : (node : ℕ) (devices : List State) → HasDevice node first_course devices → AllMake node [] [] devices
first_make node devices has place device stood own = by (place == has.place) refl
  where
    by : (here : Bool) → (place == has.place) ≡ here → Makes [] [] device
    by true e =
        let one : device ≡ has.device = one_stands devices place has.place device has.device stood has.stands (eqb-true place has.place e) in
        subst (λ (d : State). Makes [] [] d) (sym one) (first_makes has.device has.at.ended (ap (λ (t : Taken). t.taken) has.at.sessions) (kept_none has.device.reassembly has.at.kept))
    by false e = idle_makes [] [] device (has.others place device stood own (grind (arith, e)))

pub first_follows : ((node : ℕ) → OnAir node [] no_sessions [] [] [] [] no_frames) → (node : ℕ) (devices : List State) → HasDevice node first_course devices
    → Follows node [] first_course no_rest Idle [] [] (outside first_outer devices)
unfolding first_outer
first_follows first node devices has = record {
  mesh = record { log = []; flights = []; on_air = first node; device = has; made = first_make node devices has };
  to_chip = record { reads = (tt, refl); ticks = refl };
  to_host = record { reads = (tt, refl); ticks = refl };
  frames = record { turn = tt; waiting = tt };
  waits = record { busy = refl; few = omega arith };
  messages = record { on_line = []; on_link = []; waits = []; line = tt; link = tt; following = tt; are = refl };
  reports = record { on_line = []; on_link = []; waits = []; line = tt; link = tt; following = tt; are = refl };
}
