-- Each event outside the host, in the courses of a lock.
use Rattle.std.proofs.Common.{◌≡◌, ℕ, zero, suc, ◌<◌, ◌==◌, Bool, true, false, Option, Some, None, List, [], ◌∷◌, ◌++◌, refl, ap, sym, ◌∙◌, subst, append-nil, arith}
use Rattle.std.specs.Prelude.{slice_get, slice_set, slice_index_or}
use Rattle.std.specs.Option.{option_map, option_to_list}
use Rattle.std.proofs.lemmas.Bool.{eqb-true}
use Rattle.serial_frame.specs.Stream.{Rest, no_rest, after_tick}
use Rattle.serial_frame.specs.declared.item.Item.{Item}
use Rattle.serial_link.specs.declared.turn.Turn.{Turn}
use Rattle.serial_link.specs.declared.turn.Turn.TheVariants.{Idle}
use Rattle.serial_pipes.specs.Events.{Clears}
use Rattle.serial_pipes.specs.Events as way
use Rattle.serial_pipes.specs.declared.marks.Garble.{Garble}
use Rattle.zw_words.specs.declared.side.Side.{Side}
use Rattle.zw_words.specs.declared.side.Side.TheVariants.{Host, Chip}
use Rattle.route_table.specs.declared.route.Route.{Route}
use Rattle.chip_sim.specs.Events.{Collides, Ticked, Joined, after}
use Rattle.chip_sim.specs.Did.{after_all}
use Rattle.air_frames.specs.Ages.{refusal_of}
use Rattle.air_frames.specs.declared.ages.Refusal.{Refusal as RepeatRefusal}
use Rattle.air_frames.specs.Frames.{FramesState, no_frames}
use Rattle.device_sim.specs.State.{State}
use Rattle.device_sim.specs.Event.{DeviceEvent, Ticks, Wakes, Sets, device_after, device_replies}
use Rattle.mesh_sim.specs.declared.event.AirEvent.{AirEvent}
use Rattle.mesh_sim.specs.Air.{AirState, is_joined, joining}
use Rattle.mesh_sim.specs.Fates.{Mesh, place_of}
use Rattle.mesh_sim.specs.Routes.{backwards}
use Rattle.mesh_sim.specs.Steps.{mesh_after, mesh_outs, MayHappen, answered_if}
use Rattle.mesh_sim.specs.Steps as mesh
use Rattle.outside_model.specs.Results.{device_at, gives}
use Rattle.outside_model.specs.Air.{deals}
use Rattle.outside_model.specs.Nodes.{listens_at, joins, discovers, links_of}
use Rattle.outside_model.specs.Chip.{chip_does}
use Rattle.outside_model.specs.Devices.{acts_at, acts_by_hand, device_set, set_by_hand}
use Rattle.outside_model.specs.State.{OuterState, Outside, outside, with_chip, each, first_outer}
use Rattle.outside_model.specs.Events.{OuterEvent, Begins_line, Begins_tick, Host_writes, Host_takes as host_takes, Host_notes, Host_begins, Chip_takes, Arrives, Gives, Device_ticks, Chip_ticks, Repeats, Wakes_device, Sets_device, Shows, Joins, Discovers, Links, Loses, Loses_acks, Marks_loss, Marks_change, Clears_pipe, Collides_next, Stalls, Cuts, is_own, outcome, devices_after, happens, repeats, devices_repeated, mesh_of, May, MayRepeat, with_way, way_of}
use Rattle.proof_course_plain.specs.OnAir.{OuterStaysFew}
use Rattle.proof_course_plain.specs.proof_serial.Way.{Carries}
use Rattle.proof_course_plain.proofs.Ways.{carries_none}
use Rattle.proof_course_plain.proofs.ChangesOutside.{place_is}
use Rattle.proof_course_plain.specs.Ways.{Thinned}
use Rattle.proof_course_plain.specs.Making.{Makes, AllMake, HearsNone}
use Rattle.proof_course_plain.specs.Mesh.{labels, brought}
use Rattle.proof_course_plain.specs.Outside.{SideRests, Rests}
use Rattle.proof_course_plain.proofs.WayLabels.{thinned_same, thinned_after, labels-append}
use Rattle.proof_course_plain.proofs.MadeSettings.{first_makes}
use Rattle.proof_course_plain.proofs.Idle.{idle_makes}
use Rattle.proof_course_plain.proofs.Replies.{one_stands}
use Rattle.proof_course_plain.proofs.ChipNotices.{ChipTells, tells_still, tells_one, deals_tell, gives_tells, joins_tell, discovers_tell, collides_tell}
use Rattle.supervision.specs.Device.{Taken}
use Rattle.s0_crypto.specs.declared.key_pair.Keys.{Keys}
use Rattle.proof_course_sealed.specs.Labels.{Sent, Late}
use Rattle.proof_course_sealed.specs.Courses.{Courses, CoursesFacts, first_courses, with_up, with_down, SameUp, AddsDown}
use Rattle.proof_course_sealed.specs.Meaning.{Past, first_past}
use Rattle.proof_course_sealed.specs.Air.{OnAir}
use Rattle.proof_course_sealed.specs.Mesh.{HasLock, InMesh, IsTold, MeshGoes}
use Rattle.proof_course_sealed.specs.Outside.{Follows, OuterGoes}
use Rattle.proof_course_sealed.proofs.ThinnedWays.{up_together, down_together}
use Rattle.proof_course_sealed.proofs.CourseSteps.{goes_nowhere, gives_none}
use Rattle.proof_course_sealed.proofs.Elsewhere.{mesh_up, mesh_down}
use Rattle.proof_course_sealed.proofs.Outer.{AirLaws, same_books, books_up, books_down, up_down, down_up, outer_goes, entered, takes_go}

-- the laws that are used
pub record Laws : Type 0 where
  pub air : AirLaws
  pub arrives : (past : Past) (node : ℕ) (c : Courses) (m : Mesh) (drawn : List ℕ) (route : Option Route) → node < 233 → CoursesFacts c → InMesh past node c m → MayHappen m (mesh.Arrives drawn route)
      → MeshGoes past node c (mesh_after m (mesh.Arrives drawn route)) (brought (mesh_outs m (mesh.Arrives drawn route)))
  pub repeats : (past : Past) (node : ℕ) (c : Courses) (m : Mesh) (number : ℕ) (drawn : List ℕ) (route : Option Route) → node < 233 → CoursesFacts c → InMesh past node c m → refusal_of m.air.frames number ≡ None
      → MayHappen m (mesh.Repeats number drawn route) → MeshGoes past node c (mesh_after m (mesh.Repeats number drawn route)) (brought (mesh_outs m (mesh.Repeats number drawn route)))
  pub own : (past : Past) (node : ℕ) (c : Courses) (m : Mesh) (place : ℕ) (device : State) (event : DeviceEvent) (found : Option Route) → InMesh past node c m → slice_get m.devices place ≡ Some device → place_of device.node m.devices ≡ Some place → HearsNone event
      → MeshGoes past node c (record { air = answered_if (is_joined m.air device.node) m.air device.node found (device_replies device event); devices = slice_set m.devices place (device_after device event) }) []
  pub ticks : (past : Past) (node : ℕ) (c : Courses) (m : Mesh) (place : ℕ) (device : State) (drawn : List ℕ) (found : Option Route) → InMesh past node c m → slice_get m.devices place ≡ Some device
      → MeshGoes past node c (record { air = answered_if (is_joined m.air device.node) m.air device.node found (device_replies device (Ticks drawn)); devices = slice_set m.devices place (device_after device (Ticks drawn)) }) []

-- who is joined stays so
joined_more : (joined : List Bool) (n node : ℕ) → slice_index_or joined node false ≡ true → slice_index_or (slice_set joined n true) node false ≡ true
joined_more [] n node is = absurd (grind (arith, is))
joined_more (b ∷ joined) zero zero is = refl
joined_more (b ∷ joined) zero (suc node) is = is
joined_more (b ∷ joined) (suc n) zero is = is
joined_more (b ∷ joined) (suc n) (suc node) is = joined_more joined n node is

module _ (laws : Laws) (past : Past) (node : ℕ) (c : Courses) (text : Option ℕ) (tasks : List ℕ) (rest : Rest) (turn : Turn) (up down : List Item) where
  nothing_up : SameUp c c
  nothing_up = record { messages = refl; sealed = refl; offers = refl }

  nothing_adds : AddsDown c c []
  nothing_adds = record { reports = sym (append-nil c.sessions.down); nonces = sym (append-nil c.node.down); answers = sym (append-nil c.host.down) }

  same_mesh : (w : Outside) (air : AirState) → air.frames ≡ w.outer.air.frames → air.joined ≡ w.outer.air.joined → InMesh past node c (mesh_of w) → InMesh past node c (record { air = air; devices = w.devices })
  same_mesh w air is joined m = record {
    log = m.log;
    flights = m.flights;
    on_air = subst (λ (fs : FramesState). OnAir past node c m.log m.flights fs) (sym is) m.on_air;
    device = m.device;
    made = m.made;
    joined = λ some. ap (λ (js : List Bool). slice_index_or js node false) joined ∙ m.joined some;
  }

  -- no step is made
  stands_still : (w : Outside) (o n : OuterState) → Follows past node c text tasks rest turn up down w → o.chip ≡ w.outer.chip → o.to_host ≡ w.outer.to_host → o.to_chip ≡ w.outer.to_chip → InMesh past node c (record { air = o.air; devices = w.devices })
      → ChipTells (IsTold past node) node [] o n → OuterGoes past node c text tasks rest turn (outside n w.devices)
  stands_still w o n f chip to_host to_chip mesh tells =
      outer_goes laws.air.stays past node c text tasks rest turn up down w past c [] o n w.devices f chip to_host to_chip (gives_none past) (goes_nowhere c) (same_books c) nothing_up nothing_adds mesh tells

  -- nothing of this changes
  still : (w : Outside) (n : OuterState) → Follows past node c text tasks rest turn up down w → n.chip ≡ w.outer.chip → n.to_host ≡ w.outer.to_host → n.to_chip ≡ w.outer.to_chip → n.air.frames ≡ w.outer.air.frames → n.air.joined ≡ w.outer.air.joined
      → OuterGoes past node c text tasks rest turn (outside n w.devices)
  still w n f chip to_host to_chip frames joined =
      stands_still w n n f chip to_host to_chip (same_mesh w n.air frames joined f.mesh) (tells_still (IsTold past node) node n n [] (record { chip = refl; to_host = refl; to_chip = refl }) refl)

  -- the chip does something, and the air is as it was
  chip_goes : (w : Outside) (n : OuterState) → Follows past node c text tasks rest turn up down w → ChipTells (IsTold past node) node [] w.outer n → OuterGoes past node c text tasks rest turn (outside n w.devices)
  chip_goes w n f tells = stands_still w w.outer n f refl refl refl f.mesh tells

  -- what happens on the air is dealt with
  mesh_goes : (w : Outside) (m : Mesh) (outs : List AirEvent) → Follows past node c text tasks rest turn up down w → MeshGoes past node c m (brought outs)
      → OuterGoes past node c text tasks rest turn (outside (each (deals m.devices) (record w.outer { air = m.air }) outs).outer m.devices)
  mesh_goes w m outs f g =
      outer_goes laws.air.stays past node c text tasks rest turn up down w g.later_past g.later (labels g.marks) (record w.outer { air = m.air }) (each (deals m.devices) (record w.outer { air = m.air }) outs).outer m.devices f refl refl refl
      g.gives g.goes g.books g.up g.down g.in_mesh (deals_tell (IsTold g.later_past node) node m.devices (record w.outer { air = m.air }) outs g.marks g.brings)

  repeats_go : (w : Outside) (refused : Option RepeatRefusal) (number : ℕ) (drawn : List ℕ) (route : Option Route) → node < 233 → CoursesFacts c → Follows past node c text tasks rest turn up down w → refusal_of w.outer.air.frames number ≡ refused
      → MayRepeat w refused (mesh.Repeats number drawn route) → OuterGoes past node c text tasks rest turn (outside (repeats w refused (mesh.Repeats number drawn route)).outer (devices_repeated w refused (mesh.Repeats number drawn route)))
  repeats_go w None number drawn route within course f is may =
      mesh_goes w (mesh_after (mesh_of w) (mesh.Repeats number drawn route)) (mesh_outs (mesh_of w) (mesh.Repeats number drawn route)) f (laws.repeats past node c (mesh_of w) number drawn route within course f.mesh is may)
  repeats_go w (Some refused) number drawn route within course f is may = still w w.outer f refl refl refl refl refl

  -- a tick of a device
  device_ticks : (w : Outside) (place : ℕ) (found : Option State) (drawn : List ℕ) (route : Option Route) → Follows past node c text tasks rest turn up down w → slice_get w.devices place ≡ found
      → OuterGoes past node c text tasks rest turn (outside (acts_at w.outer found (Ticks drawn) route).outer (device_set w.devices place found (Ticks drawn)))
  device_ticks w place None drawn route f stood = still w w.outer f refl refl refl refl refl
  device_ticks w place (Some device) drawn route f stood =
      mesh_goes w (record { air = answered_if (is_joined w.outer.air device.node) w.outer.air device.node (option_map backwards route) (device_replies device (Ticks drawn)); devices = slice_set w.devices place (device_after device (Ticks drawn)) }) [] f
      (laws.ticks past node c (mesh_of w) place device drawn (option_map backwards route) f.mesh stood)

  -- an event of the first device of a node
  acts_go : (w : Outside) (n place : ℕ) (found : Option State) (event : DeviceEvent) (route : Option Route) → HearsNone event → Follows past node c text tasks rest turn up down w → place_of n w.devices ≡ Some place → slice_get w.devices place ≡ found
      → OuterGoes past node c text tasks rest turn (outside (acts_at w.outer found event route).outer (device_set w.devices place found event))
  acts_go w n place None event route none f first stood = still w w.outer f refl refl refl refl refl
  acts_go w n place (Some device) event route none f first stood =
      mesh_goes w (record { air = answered_if (is_joined w.outer.air device.node) w.outer.air device.node (option_map backwards route) (device_replies device event); devices = slice_set w.devices place (device_after device event) }) [] f
      (laws.own past node c (mesh_of w) place device event (option_map backwards route) f.mesh stood (ap (λ (k : ℕ). place_of k w.devices) (place_is n w.devices place device first stood) ∙ first) none)

  hand_go : (w : Outside) (n : ℕ) (place : Option ℕ) (event : DeviceEvent) (route : Option Route) → HearsNone event → Follows past node c text tasks rest turn up down w → place_of n w.devices ≡ place
      → OuterGoes past node c text tasks rest turn (outside (acts_by_hand w.outer w.devices place event route).outer (set_by_hand w.devices place event))
  hand_go w n None event route none f first = still w w.outer f refl refl refl refl refl
  hand_go w n (Some place) event route none f first = acts_go w n place (slice_get w.devices place) event route none f first refl

  -- a node joins
  joins_go : (w : Outside) (n : ℕ) (listening : Bool) → Follows past node c text tasks rest turn up down w → OuterGoes past node c text tasks rest turn (outside (joins w.outer n listening) w.devices)
  joins_go w n listening f =
      let air : AirState = joining w.outer.air n listening in
      let mid : OuterState = with_chip w.outer (after_all w.outer.chip.state (Joined n listening ∷ links_of air n)) in
      let g : OuterGoes past node c text tasks rest turn (outside mid w.devices) = chip_goes w mid f (joins_tell (IsTold past node) node w.outer n listening) in
      let m : InMesh g.later_past node g.later (mesh_of (outside mid w.devices)) = g.follows.mesh in
      record {
        later_past = g.later_past;
        later = g.later;
        gives = g.gives;
        goes = g.goes;
        books = g.books;
        up = g.up;
        down = g.down;
        follows = record {
          mesh = record { log = m.log; flights = m.flights; on_air = m.on_air; device = m.device; made = m.made; joined = λ some. joined_more w.outer.air.joined n node (m.joined some) };
          to_chip = g.follows.to_chip;
          to_host = g.follows.to_host;
          frames = g.follows.frames;
          waits = g.follows.waits;
          carried = g.follows.carried;
          go_up = g.follows.go_up;
          messages = g.follows.messages;
          late = g.follows.late;
          go_down = g.follows.go_down;
          reports = g.follows.reports;
        };
      }

  -- marks of the line
  marked : (v : Outside) → Follows past node c text tasks rest turn up down v → OuterGoes past node c text tasks rest turn v
  marked v f = record { later_past = past; later = c; gives = gives_none past; goes = goes_nowhere c; books = same_books c; up = up; down = down; follows = f }

  loses_go : (w : Outside) (side : Side) → Follows past node c text tasks rest turn up down w → OuterGoes past node c text tasks rest turn (outside (with_way w.outer side (way.after (way_of w.outer side) way.Loses)) w.devices)
  loses_go w Host f = marked _ (record {
    mesh = f.mesh;
    to_chip = f.to_chip;
    to_host = f.to_host;
    frames = f.frames;
    waits = f.waits;
    carried = f.carried;
    go_up = f.go_up;
    messages = f.messages;
    late = f.late;
    go_down = f.go_down;
    reports = f.reports;
  })
  loses_go w Chip f = marked _ (record {
    mesh = f.mesh;
    to_chip = f.to_chip;
    to_host = f.to_host;
    frames = f.frames;
    waits = f.waits;
    carried = f.carried;
    go_up = f.go_up;
    messages = f.messages;
    late = f.late;
    go_down = f.go_down;
    reports = f.reports;
  })

  changes_go : (w : Outside) (side : Side) (garble : Garble) → Follows past node c text tasks rest turn up down w
      → OuterGoes past node c text tasks rest turn (outside (with_way w.outer side (way.after (way_of w.outer side) (way.Changes garble))) w.devices)
  changes_go w Host garble f = marked _ (record {
    mesh = f.mesh;
    to_chip = f.to_chip;
    to_host = f.to_host;
    frames = f.frames;
    waits = f.waits;
    carried = f.carried;
    go_up = f.go_up;
    messages = f.messages;
    late = f.late;
    go_down = f.go_down;
    reports = f.reports;
  })
  changes_go w Chip garble f = marked _ (record {
    mesh = f.mesh;
    to_chip = f.to_chip;
    to_host = f.to_host;
    frames = f.frames;
    waits = f.waits;
    carried = f.carried;
    go_up = f.go_up;
    messages = f.messages;
    late = f.late;
    go_down = f.go_down;
    reports = f.reports;
  })

  -- what is on its way is lost
  clears_go : (w : Outside) (side : Side) → Follows past node c text tasks rest turn up down w → SideRests rest w side → OuterGoes past node c text tasks rest turn (outside (with_way w.outer side (way.after (way_of w.outer side) Clears)) w.devices)
  clears_go w Host f rests =
      let on = f.messages in
      let now : List Sent = labels (on.on_link ++ on.waits) in
      let thin : Thinned f.carried now = subst (λ (us : List Sent). Thinned us now) (sym (on.are ∙ labels-append on.on_line (on.on_link ++ on.waits))) (thinned_after (labels on.on_line) now now (thinned_same now)) in
      record {
        later_past = past;
        later = with_up c now text tasks;
        gives = gives_none past;
        goes = up_together c f.carried now text text tasks tasks f.go_up thin (thinned_same (option_to_list text)) (thinned_same tasks);
        books = books_up c now text tasks;
        up = [];
        down = down;
        follows = record {
          mesh = mesh_up laws.air.stays past node c (mesh_of w) now text tasks f.mesh;
          to_chip = subst (λ (r : Rest). Carries r (way.after w.outer.to_chip Clears) []) (sym rests) (carries_none w.outer.to_chip);
          to_host = f.to_host;
          frames = f.frames;
          waits = f.waits;
          carried = now;
          go_up = record { messages = refl; sealed = refl; offers = refl };
          messages = record { on_line = []; on_link = on.on_link; waits = on.waits; line = tt; link = on.link; following = on.following; are = refl };
          late = f.late;
          go_down = down_up c f.late now text tasks f.go_down;
          reports = f.reports;
        };
      }
  clears_go w Chip f rests =
      let on = f.reports in
      let now : List Late = labels (on.on_link ++ on.waits) in
      let thin : Thinned f.late now = subst (λ (ds : List Late). Thinned ds now) (sym (on.are ∙ labels-append on.on_line (on.on_link ++ on.waits))) (thinned_after (labels on.on_line) now now (thinned_same now)) in
      record {
        later_past = past;
        later = with_down c now;
        gives = gives_none past;
        goes = down_together c f.late now f.go_down thin;
        books = books_down c c now (same_books c);
        up = up;
        down = [];
        follows = record {
          mesh = mesh_down laws.air.stays past node c (mesh_of w) now f.mesh;
          to_chip = f.to_chip;
          to_host = subst (λ (r : Rest). Carries r (way.after w.outer.to_host Clears) []) (sym rests) (carries_none w.outer.to_host);
          frames = f.frames;
          waits = f.waits;
          carried = f.carried;
          go_up = up_down c f.carried text tasks now f.go_up;
          messages = f.messages;
          late = now;
          go_down = record { reports = refl; nonces = refl; answers = refl };
          reports = record { on_line = []; on_link = on.on_link; waits = on.waits; line = tt; link = on.link; following = on.following; are = refl };
        };
      }

  -- a tick of the chip
  tick_goes : (w : Outside) → Follows past node c text tasks rest turn up down w → w.outer.chip.decoder ≡ no_rest → OuterGoes past node c text tasks rest turn (outside (outcome w Chip_ticks).outer w.devices)
  unfolding outcome
  tick_goes w f rests =
      let o : OuterState = w.outer in
      let ticked : OuterState = record o { chip = record { decoder = after_tick o.chip.decoder; state = o.chip.state } } in
      let same : after_tick o.chip.decoder ≡ o.chip.decoder = ap after_tick rests ∙ sym rests in
      stands_still w ticked (chip_does ticked Ticked).outer f (ap (λ (r : Rest). record { decoder = r; state = o.chip.state }) same) refl refl f.mesh (tells_one (IsTold past node) node ticked Ticked None tt tt refl)

  -- ---- any event

  wrong : {X : Type 0} → false ≡ true → X
  wrong bad = absurd cc

  goes_by : (w : Outside) (event : OuterEvent) → node < 233 → CoursesFacts c → Follows past node c text tasks rest turn up down w → is_own event ≡ true → May w event → Rests rest w event → OuterStaysFew w.outer event
      → OuterGoes past node c text tasks rest turn (outside (outcome w event).outer (devices_after w event))
  unfolding outcome devices_after May
  goes_by w Begins_line within course f own may rests few = still w _ f refl refl refl refl refl
  goes_by w Begins_tick within course f own may rests few = still w _ f refl refl refl refl refl
  goes_by w (Host_writes unit) within course f own may rests few = wrong own
  goes_by w (host_takes count) within course f own may rests few = wrong own
  goes_by w (Host_notes entry) within course f own may rests few = wrong own
  goes_by w (Host_begins n sessions) within course f own may rests few = wrong own
  goes_by w (Chip_takes count after_rest ways) within course f own may rests few = takes_go laws.air past node text tasks c rest turn up down w count after_rest ways course.host f may few
  goes_by w (Arrives drawn route) within course f own may rests few =
      mesh_goes w (mesh_after (mesh_of w) (mesh.Arrives drawn route)) (mesh_outs (mesh_of w) (mesh.Arrives drawn route)) f (laws.arrives past node c (mesh_of w) drawn route within course f.mesh may)
  goes_by w (Gives route) within course f own may rests few = chip_goes w (gives w.outer w.devices w.outer.due route).outer f (gives_tells (IsTold past node) node w.outer w.devices w.outer.due route)
  goes_by w (Device_ticks place drawn route) within course f own may rests few = device_ticks w place (slice_get w.devices place) drawn route f refl
  goes_by w Chip_ticks within course f own may rests few = tick_goes w f rests
  goes_by w (Repeats number drawn route) within course f own may rests few = repeats_go w (refusal_of w.outer.air.frames number) number drawn route within course f refl may
  goes_by w (Wakes_device n route) within course f own may rests few = hand_go w n (place_of n w.devices) Wakes route tt f refl
  goes_by w (Sets_device n value route) within course f own may rests few = hand_go w n (place_of n w.devices) (Sets value) route tt f refl
  goes_by w (Shows n) within course f own may rests few = still w _ f refl refl refl refl refl
  goes_by w (Joins n) within course f own may rests few = joins_go w n (listens_at (device_at w.devices (place_of n w.devices))) f
  goes_by w Discovers within course f own may rests few = chip_goes w (discovers w.outer) f (discovers_tell (IsTold past node) node w.outer)
  goes_by w (Links a b live) within course f own may rests few = still w _ f refl refl refl refl refl
  goes_by w (Loses count) within course f own may rests few = still w _ f refl refl refl refl refl
  goes_by w (Loses_acks count) within course f own may rests few = still w _ f refl refl refl refl refl
  goes_by w (Marks_loss side) within course f own may rests few = loses_go w side f
  goes_by w (Marks_change side garble) within course f own may rests few = changes_go w side garble f
  goes_by w (Clears_pipe side) within course f own may rests few = clears_go w side f rests
  goes_by w Collides_next within course f own may rests few = chip_goes w (with_chip w.outer (after w.outer.chip.state Collides)) f (collides_tell (IsTold past node) node w.outer)
  goes_by w (Stalls ticks) within course f own may rests few = still w _ f refl refl refl refl refl
  goes_by w (Cuts size) within course f own may rests few = still w _ f refl refl refl refl refl

  pub event_goes : (w : Outside) (event : OuterEvent) → node < 233 → CoursesFacts c → Follows past node c text tasks rest turn up down w → is_own event ≡ true → May w event → Rests rest w event → OuterStaysFew w.outer event
      → OuterGoes past node c text tasks rest turn (happens w event)
  event_goes w event within course f own may rests few = entered past node c text tasks rest turn (outcome w event).outer (devices_after w event) (outcome w event).entries (goes_by w event within course f own may rests few)

-- ---- at first

first_make : (keys : Keys) (node : ℕ) (devices : List State) → HasLock (first_past keys) node first_courses devices → AllMake node [] [] devices
first_make keys node devices has place device stood own = by (place == has.place) refl
  where
    by : (here : Bool) → (place == has.place) ≡ here → Makes [] [] device
    by true e =
        let one : device ≡ has.device = one_stands devices place has.place device has.device stood has.stands (eqb-true place has.place e) in
        subst (λ (d : State). Makes [] [] d) (sym one) (first_makes has.device has.at.ended (ap (λ (t : Taken). t.taken) has.at.sessions) has.at.whole)
    by false e = idle_makes [] [] device (has.others place device stood own (grind (arith, e)))

pub first_follows : ((keys : Keys) (node : ℕ) → OnAir (first_past keys) node first_courses [] [] no_frames) → (keys : Keys) (node : ℕ) (devices : List State) → HasLock (first_past keys) node first_courses devices
    → Follows (first_past keys) node first_courses None [] no_rest Idle [] [] (outside first_outer devices)
unfolding first_outer
first_follows first keys node devices has = record {
  mesh = record { log = []; flights = []; on_air = first keys node; device = has; made = first_make keys node devices has; joined = λ some. absurd (omega (arith, some)) };
  to_chip = record { reads = (tt, refl); ticks = refl };
  to_host = record { reads = (tt, refl); ticks = refl };
  frames = record { turn = tt; waiting = tt };
  waits = record { busy = refl; few = omega arith };
  carried = [];
  go_up = record { messages = refl; sealed = refl; offers = refl };
  messages = record { on_line = []; on_link = []; waits = []; line = tt; link = tt; following = tt; are = refl };
  late = [];
  go_down = record { reports = refl; nonces = refl; answers = refl };
  reports = record { on_line = []; on_link = []; waits = []; line = tt; link = tt; following = tt; are = refl };
}
