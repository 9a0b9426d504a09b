-- Each event outside the host but the items that the chip judges.
use Rattle.std.proofs.Common.{◌≡◌, ℕ, zero, suc, ◌+◌, ◌-◌, ◌<◌, ◌≤◌, Bool, true, false, Option, Some, None, List, [], ◌∷◌, ◌++◌, length, map, filter, replicate, refl, ap, sym, subst, ◌∙◌, arith, append-nil, length-set}
use Rattle.std.specs.Prelude.{◌&&◌, nat_le, drop, slice_get, slice_set, option_map}
use Rattle.std.specs.List.{AllByRecursion, flat_map, range_with_len}
use Rattle.zw_words.specs.declared.side.Side.{Side}
use Rattle.zw_words.specs.declared.side.Side.TheVariants as side
use Rattle.zw_text.specs.declared.entry.Entry.{Entry}
use Rattle.serial_frame.specs.Stream.{after_tick}
use Rattle.chip_functions.specs.declared.notice.TransmitStatus.TheVariants.{NoRoute}
use Rattle.chip_sim.specs.State.{ChipState}
use Rattle.chip_sim.specs.Waiting.{PortState, ticked, ticked_outs, served_outs, written}
use Rattle.chip_sim.specs.Events.{ChipEvent, Ticked, Joined, Linked, Informed, after}
use Rattle.chip_sim.specs.Did.{after_all}
use Rattle.serial_link.specs.State.{copy_due}
use Rattle.route_table.specs.declared.route.Route.{Route}
use Rattle.route_table.specs.Network.{linked}
use Rattle.proof_device.specs.device_sim.State.{State}
use Rattle.proof_device.specs.device_sim.Event.{DeviceEvent, Hears, Ticks, Wakes, Sets, device_after, device_replies}
use Rattle.air_frames.specs.declared.ages.Refusal.{Refusal as RepeatRefusal}
use Rattle.air_frames.specs.declared.frame.Heading.{Heading}
use Rattle.air_frames.specs.declared.frame.Heading.TheVariants.{Outward, Homeward}
use Rattle.air_frames.specs.Ages.{refusal_of}
use Rattle.air_frames.specs.Flown.{Flown}
use Rattle.air_frames.specs.Frames.{FramesState, peer_of, remembered}
use Rattle.air_frames.specs.History.{Mark, Begins as begins_mark}
use Rattle.proof_traffic.specs.Flights.{Fly, flown_in}
use Rattle.proof_device.specs.mesh_sim.declared.event.AirEvent.{AirEvent}
use Rattle.proof_device.specs.mesh_sim.Routes.{backwards}
use Rattle.proof_device.specs.mesh_sim.Air.{AirState, is_joined, linking, joining, beginning}
use Rattle.proof_device.specs.mesh_sim.Fates.{Mesh, place_of, listener_of}
use Rattle.proof_device.specs.mesh_sim.Steps as mesh
use Rattle.proof_device.specs.mesh_sim.Steps.{AirStep, answered_if, answers_if, changed, outs_hearing, heard_at, outs_at, heard_again, outs_again, repeating_by, repeating, repeat_outs_by, repeat_outs, mesh_after, mesh_outs, MayHappen}
use Rattle.proof_device.specs.outside_model.declared.waits.Due.{Due}
use Rattle.proof_device.specs.outside_model.declared.waits.Due.TheVariants.{Info, NoRoute as no_route_due}
use Rattle.proof_device.specs.outside_model.declared.waits.Call.{Call}
use Rattle.proof_device.specs.outside_model.declared.waits.Call.TheVariants.{OfFrame, NoRoute as no_route_call}
use Rattle.proof_device.specs.outside_model.State.{OuterState, Outside, outside, with_chip, each}
use Rattle.proof_device.specs.outside_model.Chip.{chip_does, chip_ticks}
use Rattle.proof_device.specs.outside_model.Results.{call_back, without_no_route, no_route, profile_for, informs, gives}
use Rattle.proof_device.specs.outside_model.Air.{to_chip, deals}
use Rattle.proof_device.specs.outside_model.Devices.{acts, acts_at, acts_by_hand}
use Rattle.proof_device.specs.outside_model.Nodes.{is_known, links_of, joins, pairs_of, all_pairs}
use Rattle.proof_device.specs.outside_model.Events.{OuterEvent, way_of, with_way, begins, mesh_of, steps, repeats, outcome, happens, has_entered, May}
use Rattle.proof_device.specs.outside_model.Events as outer
use Rattle.proof_traffic.specs.Requests.{Word, Traffic, called}
use Rattle.proof_traffic.specs.Requests as course
use Rattle.proof_traffic.specs.Facts.{flying_in}
use Rattle.proof_traffic.specs.OutsideTraffic.{flags, outward, no_routes_due, without_frame, Follows, Goes, AreNodes, InTurn}
use Rattle.proof_traffic.proofs.Mild.{AreMild, mild-append, written_mild, served_mild, queued_mild, Untouched, SameChip, follows_chip, follows_untouched, does_mild}
use Rattle.proof_traffic.proofs.JudgedItems.{Flying}
use Rattle.proof_traffic.proofs.Calls.{Half, Leaves, call_half, call_leaves}
use Rattle.proof_traffic.proofs.Results.{host_called, less_due}
use Rattle.proof_traffic.proofs.Arrivals.{told_then, told-append, changed_told, answers_if_told, AreTold, outward-append, Homes, answered_if_homes, within_all, goes_nowhere, goes_later, heard_by_chip, Landing, Nexting, NoNexting, arrives_go}

-- ---- what touches nothing

module _ (t : Traffic) (log : List Mark) (flights : List Flown) where
  -- the chip, the air and the calls stay
  stays : (o p : OuterState) → Untouched o p → Follows t log flights o → Goes t log flights p t.up
  stays o p u f = goes_nowhere t log flights p (follows_untouched t log flights o p u f)

  -- the air changes, and no frame of it
  airs : (o : OuterState) (air : AirState) → air.frames ≡ o.air.frames → Follows t log flights o → Follows t log flights (record o { air = air })
  airs o air same f = record {
    knows = record { aborted = f.knows.aborted; sending = f.knows.sending; calls = f.knows.calls };
    await = record { frames = f.await.frames; results = f.await.results };
    fly = subst (λ (fs : FramesState). Fly log flights fs) (sym same) f.fly;
    joined = f.joined;
  }

  -- only the chip changes
  chips : (o : OuterState) (r : ChipState) → SameChip o.chip.state r → Follows t log flights o → Goes t log flights (with_chip o r) t.up
  chips o r same f = goes_nowhere t log flights (with_chip o r) (follows_chip t log flights o r same f)

  -- devices put frames on the air
  homes_go : (o : OuterState) (air : AirState) → Homes log flights air.frames → Follows t log flights o → Goes t log flights (record o { air = air }) t.up
  homes_go o air h f =
      goes_later t log h.more flights (flights ++ h.home) (record o { air = air }) t.up
      (goes_nowhere t (log ++ h.more) (flights ++ h.home) (record o { air = air })
      (record {
        knows = record { aborted = f.knows.aborted; sending = f.knows.sending; calls = f.knows.calls };
        await = record {
          frames = none_more (outward (flights ++ h.home)) (outward flights) (outward h.home) (flying_in (flags o.calls)) (outward-append flights h.home) h.none_outward f.await.frames;
          results = f.await.results;
        };
        fly = h.fly;
        joined = f.joined;
      }))
    where
      none_more : (all a b c : ℕ) → all ≡ a + b → b ≡ 0 → a ≡ c → all ≡ c
      none_more all a b c x y z = omega arith

-- ---- links of the chip's table

linked_same : (s : ChipState) (events : List ChipEvent) → AllByRecursion (λ (e : ChipEvent). (r : ChipState) → SameChip r (after r e)) events → SameChip s (after_all s events)
linked_same s [] all = record { aborted = refl; sending = refl; joined = refl }
linked_same s (e ∷ events) all =
    let first : SameChip s (after s e) = all.0 s in
    let later : SameChip (after s e) (after_all (after s e) events) = linked_same (after s e) events all.1 in
    record { aborted = later.aborted ∙ first.aborted; sending = later.sending ∙ first.sending; joined = later.joined ∙ first.joined }

link_same : (a b : ℕ) (live : Bool) (r : ChipState) → SameChip r (after r (Linked a b live))
link_same a b live r = record { aborted = refl; sending = refl; joined = refl }

join_same : (n : ℕ) (listening : Bool) (r : ChipState) → SameChip r (after r (Joined n listening))
join_same n listening r = record { aborted = refl; sending = refl; joined = length-set r.joined n true }

links_same : (node : ℕ) (live : ℕ → Bool) (others : List ℕ) → AllByRecursion (λ (e : ChipEvent). (r : ChipState) → SameChip r (after r e)) (map (λ other. Linked node other (live other)) others)
links_same node live [] = tt
links_same node live (other ∷ others) = (link_same node other (live other), links_same node live others)

all-append : (a b : List ChipEvent) → AllByRecursion (λ (e : ChipEvent). (r : ChipState) → SameChip r (after r e)) a → AllByRecursion (λ (e : ChipEvent). (r : ChipState) → SameChip r (after r e)) b
    → AllByRecursion (λ (e : ChipEvent). (r : ChipState) → SameChip r (after r e)) (a ++ b)
all-append [] b first later = later
all-append (e ∷ a) b first later = (first.0, all-append a b first.1 later)

pairs_same : (air : AirState) (nodes : List ℕ) → AllByRecursion (λ (e : ChipEvent). (r : ChipState) → SameChip r (after r e)) (flat_map (λ node. pairs_of air node) nodes)
pairs_same air [] = tt
pairs_same air (node ∷ nodes) =
    all-append (pairs_of air node) (flat_map (λ n. pairs_of air n) nodes)
    (links_same node (λ other. linked air.network node other) (filter (λ other. is_known air other) (range_with_len 1 (node - 1)))) (pairs_same air nodes)

discovers_same : (o : OuterState) → SameChip o.chip.state (after_all o.chip.state (all_pairs o.air))
unfolding all_pairs
discovers_same o = linked_same o.chip.state (all_pairs o.air) (pairs_same o.air (filter (λ node. is_known o.air node) (range_with_len 1 232)))

-- ---- devices of themselves, and by hand

node_of_place : (devices : List State) (place : ℕ) (device : State) → AreNodes devices → slice_get devices place ≡ Some device → device.node < 233
node_of_place [] place device nodes e = absurd (grind arith)
node_of_place (first ∷ devices) zero device nodes e = let same : first ≡ device = cc in subst (λ (d : State). d.node < 233) same nodes.0
node_of_place (first ∷ devices) (suc place) device nodes e = node_of_place devices place device nodes.1 e

module _ (flying : Flying) (t : Traffic) (log : List Mark) (flights : List Flown) (o : OuterState) (f : Follows t log flights o) where
  acts_go : (device : State) (event : DeviceEvent) (route : Option Route) → device.node < 233 → Goes t log flights (acts o device event route).outer t.up
  acts_go device event route within =
      homes_go t log flights o (answered_if (is_joined o.air device.node) o.air device.node (option_map backwards route) (device_replies device event))
      (answered_if_homes flying log flights (is_joined o.air device.node) o.air device.node (option_map backwards route) (device_replies device event) within f.fly) f

  acts_at_go : (devices : List State) (place : ℕ) (found : Option State) (event : DeviceEvent) (route : Option Route) → AreNodes devices → slice_get devices place ≡ found → Goes t log flights (acts_at o found event route).outer t.up
  acts_at_go devices place None event route nodes e = goes_nowhere t log flights o f
  acts_at_go devices place (Some device) event route nodes e = acts_go device event route (node_of_place devices place device nodes e)

  by_hand_go : (devices : List State) (place : Option ℕ) (event : DeviceEvent) (route : Option Route) → AreNodes devices → Goes t log flights (acts_by_hand o devices place event route).outer t.up
  by_hand_go devices None event route nodes = goes_nowhere t log flights o f
  by_hand_go devices (Some place) event route nodes = acts_at_go devices place (slice_get devices place) event route nodes refl

  -- ---- a frame is heard again

  -- a device hears it
  hears_again : (devices : List State) (number place : ℕ) (node : ℕ) (payload : List ℕ) (found : Option State) (drawn : List ℕ) (route : Option Route) → node < 233
      → let m : Mesh = record { air = o.air; devices = devices } in
      Goes t log flights (each (deals (heard_at m place found node route (Hears payload drawn)).devices) (record o { air = (heard_at m place found node route (Hears payload drawn)).air })
      (outs_at m found number node route (Hears payload drawn))).outer t.up
  hears_again devices number place node payload None drawn route within = goes_nowhere t log flights o f
  hears_again devices number place node payload (Some device) drawn route within =
      let m : Mesh = record { air = o.air; devices = devices } in
      let event : DeviceEvent = Hears payload drawn in
      let way : Option Route = option_map backwards route in
      let replies : List (List ℕ) = device_replies device event in
      let air : AirState = answered_if (is_joined o.air node) o.air node way replies in
      let dv : List State = (heard_at m place (Some device) node route event).devices in
      let events : List AirEvent = outs_hearing o.air number node route device event in
      let told : AreTold events = (
        tt,
        told-append (changed node (length device.journal) (length (device_after device event).journal - length device.journal)) (answers_if (is_joined o.air node) o.air node way replies)
            (changed_told node (length device.journal) (length (device_after device event).journal - length device.journal)) (answers_if_told (is_joined o.air node) o.air node way replies),
      ) in
      subst (λ (p : OuterState). Goes t log flights p t.up) (sym (ap (λ (es : List AirEvent). (each (deals dv) (record o { air = air }) es).outer) (sym (append-nil events)) ∙ told_then dv (record o { air = air }) events [] told))
      (homes_go t log flights o air (answered_if_homes flying log flights (is_joined o.air node) o.air node way replies within f.fly) f)

  again_by : (devices : List State) (number : ℕ) (frame : Flown) (drawn : List ℕ) (route : Option Route) (heading : Heading) → frame.node < 233
      → let m : Mesh = record { air = o.air; devices = devices } in
      Goes t log flights (each (deals (repeating_by heading m frame drawn route).devices) (record o { air = (repeating_by heading m frame drawn route).air }) (repeat_outs_by heading m number frame drawn route)).outer t.up
  again_by devices number frame drawn route Homeward within =
      goes_nowhere t log flights (to_chip o frame.node frame.payload).outer (heard_by_chip t log flights o frame.node frame.payload f)
  again_by devices number frame drawn route Outward within = by (listener_of frame.node devices)
    where
      by : (listener : Option ℕ) → let m : Mesh = record { air = o.air; devices = devices } in
          Goes t log flights (each (deals (heard_again m listener frame.node route (Hears frame.payload drawn)).devices) (record o { air = (heard_again m listener frame.node route (Hears frame.payload drawn)).air })
          (outs_again m listener number frame.node route (Hears frame.payload drawn))).outer t.up
      by None = goes_nowhere t log flights o f
      by (Some place) = hears_again devices number place frame.node frame.payload (slice_get devices place) drawn route within

  repeats_go : (kept : (number : ℕ) (frame : Flown) → remembered o.air.frames number ≡ Some frame → frame.node < 233) (devices : List State) (number : ℕ) (refused : Option RepeatRefusal) (drawn : List ℕ) (route : Option Route)
      → Goes t log flights (repeats (outside o devices) refused (mesh.Repeats number drawn route)).outer t.up
  unfolding mesh_after mesh_outs
  repeats_go kept devices number (Some refused) drawn route = goes_nowhere t log flights o f
  repeats_go kept devices number None drawn route = by (remembered o.air.frames number) refl
    where
      by : (found : Option Flown) → remembered o.air.frames number ≡ found
          → let m : Mesh = record { air = o.air; devices = devices } in
          Goes t log flights (each (deals (repeating m found drawn route).devices) (record o { air = (repeating m found drawn route).air }) (repeat_outs m number found drawn route)).outer t.up
      by None e = goes_nowhere t log flights o f
      by (Some frame) e = again_by devices number frame drawn route frame.heading (kept number frame e)

  -- ---- results that are due

  no_route_goes : outward flights ≡ 0 → (due : List Due) → o.due ≡ no_route_due ∷ due → Goes t log flights (no_route o).outer t.up
  no_route_goes none due is =
      let q : OuterState = record o { due = without_no_route o.due } in
      let hq : Half t log flights q = record { knows = record { aborted = f.knows.aborted; sending = f.knows.sending; calls = f.knows.calls }; fly = f.fly; joined = f.joined } in
      let half : Half (called t) log flights (call_back q NoRoute).outer = call_half t log flights q NoRoute hq in
      let leaves : Leaves t log flights q NoRoute hq (call_back q NoRoute).outer = call_leaves t log flights q NoRoute hq in
      let (up, host) = host_called t in
      let frames : 0 ≡ flying_in (flags o.calls) = sym none ∙ f.await.frames in
      let results : no_routes_due o.due ≡ without_frame (flags o.calls) = f.await.results in
      let (first, later) = no_frames o.calls (sym frames) in
      record {
        steps = course.Calls ∷ [];
        may = (tt, tt);
        more = [];
        now = flights;
        follows = subst (λ (l : List Mark). Follows (called t) l flights (call_back q NoRoute).outer) (sym (append-nil log))
            (record {
              knows = half.knows;
              await = record {
                frames = none ∙ sym first ∙ ap (λ (c : List Call). flying_in (flags c)) (sym leaves.calls);
                results = leaves.due ∙ less_due o.due ∙ ap (λ (n : ℕ). n - 1) results ∙ sym later ∙ ap (λ (c : List Call). without_frame (flags c)) (sym leaves.calls);
              };
              fly = half.fly;
              joined = half.joined;
            });
        up_is = up;
        host = host;
      }
    where
      -- no call waits for a frame, and so none does after the first
      no_frames : (calls : List Call) → flying_in (flags calls) ≡ 0 → (flying_in (flags (drop 1 calls)) ≡ 0) × (without_frame (flags (drop 1 calls)) ≡ without_frame (flags calls) - 1)
      no_frames [] e = (refl, refl)
      no_frames (OfFrame ∷ calls) e = absurd (omega arith)
      no_frames (no_route_call ∷ calls) e = (omega arith, omega arith)

  gives_go : (devices : List State) (due : List Due) (route : Option Route) → o.due ≡ due → outward flights ≡ 0 → Goes t log flights (gives o devices due route).outer t.up
  gives_go devices [] route is none = goes_nowhere t log flights o f
  gives_go devices (no_route_due ∷ due) route is none = no_route_goes none due is
  gives_go devices (Info node ∷ due) route is none =
      let q : OuterState = record o { due = due } in
      let g : Follows t log flights q = record {
        knows = record { aborted = f.knows.aborted; sending = f.knows.sending; calls = f.knows.calls };
        await = record { frames = f.await.frames; results = less_info (no_routes_due due) (no_routes_due o.due) (ap no_routes_due is) ∙ f.await.results };
        fly = f.fly;
        joined = f.joined;
      } in
      goes_nowhere t log flights (informs q devices node route).outer
      (does_mild t log flights q (Informed node (profile_for q.air devices node route)) (record { aborted = refl; sending = refl; joined = refl }) (queued_mild q.chip.state.port _) g)
    where
      less_info : (a b : ℕ) → b ≡ 0 + a → a ≡ b
      less_info a b e = omega arith

  -- ---- the chip ticks

  ticked_mild : (p : PortState) → AreMild (ticked_outs p)
  ticked_mild p = mild-append (written (copy_due p.side.turn)) (served_outs (ticked p)) (written_mild (copy_due p.side.turn)) (served_mild (ticked p))

  ticks_go : Goes t log flights (chip_ticks o).outer t.up
  ticks_go =
      let q : OuterState = record o { chip = record { decoder = after_tick o.chip.decoder; state = o.chip.state } } in
      let g : Follows t log flights q = record { knows = record { aborted = f.knows.aborted; sending = f.knows.sending; calls = f.knows.calls }; await = record { frames = f.await.frames; results = f.await.results }; fly = f.fly; joined = f.joined } in
      goes_nowhere t log flights (chip_does q Ticked).outer (does_mild t log flights q Ticked (record { aborted = refl; sending = refl; joined = refl }) (ticked_mild q.chip.state.port) g)

-- ---- each event

-- only whether a tick was told of may change with entries
entered_untouched : (o : OuterState) (entries : List Entry) → Untouched o (has_entered o entries)
entered_untouched o [] = record { chip = refl; air = refl; calls = refl; due = refl }
entered_untouched o (entry ∷ entries) = record { chip = refl; air = refl; calls = refl; due = refl }

goes_untouched : (t : Traffic) (log : List Mark) (flights : List Flown) (o p : OuterState) → Untouched o p → Goes t log flights o t.up → Goes t log flights p t.up
goes_untouched t log flights o p u g = record {
  steps = g.steps;
  may = g.may;
  more = g.more;
  now = g.now;
  follows = follows_untouched (course.after_all t g.steps) (log ++ g.more) g.now o p u g.follows;
  up_is = g.up_is;
  host = g.host;
}

-- how sessions that begin go into the history
abbrev pub Beginning : Type 0
Beginning = (log : List Mark) (flights : List Flown) (frames : FramesState) (node sessions : ℕ) → node < 233 → (peer_of frames node).begun ≤ sessions → Fly log flights frames →
    Fly (log ++ replicate (sessions - (peer_of frames node).begun) (begins_mark node)) flights (record frames { peers = slice_set frames.peers node (record (peer_of frames node) { begun = sessions }) })

-- which frame of the history is remembered
abbrev pub Keeping : Type 0
Keeping = (log : List Mark) (flights : List Flown) (frames : FramesState) (number : ℕ) (frame : Flown) → Fly log flights frames → remembered frames (number + 1) ≡ Some frame → slice_get (flown_in log) number ≡ Some frame

within_get : (fs : List Flown) (at : ℕ) (frame : Flown) → AllByRecursion (λ (x : Flown). x.node < 233) fs → slice_get fs at ≡ Some frame → frame.node < 233
within_get [] at frame all e = absurd (grind arith)
within_get (x ∷ fs) zero frame all e = let same : x ≡ frame = cc in subst (λ (y : Flown). y.node < 233) same all.0
within_get (x ∷ fs) (suc at) frame all e = within_get fs at frame all.1 e

kept_within : Keeping → (log : List Mark) (flights : List Flown) (frames : FramesState) → Fly log flights frames → (number : ℕ) (frame : Flown) → remembered frames number ≡ Some frame → frame.node < 233
kept_within keeping log flights frames fly zero frame e = absurd (grind (arith, e))
kept_within keeping log flights frames fly (suc number) frame e =
    within_get (flown_in log) number frame (within_all [] log fly.history.nodes)
    (keeping log flights frames number frame fly (subst (λ (n : ℕ). remembered frames n ≡ Some frame) (one_more number) e))
  where
    one_more : (n : ℕ) → suc n ≡ n + 1
    one_more n = omega arith

module _ (flying : Flying) (lands : Landing) (next : Nexting) (none : NoNexting) (beginning_goes : Beginning) (keeping : Keeping) (t : Traffic) (log : List Mark) (flights : List Flown) (o : OuterState) (devices : List State) (f : Follows t log flights o) where
  abbrev w : Outside
  w = outside o devices

  begins_go : (node sessions : ℕ) → node < 233 → Goes t log flights (record o { air = begins o.air node sessions }) t.up
  begins_go node sessions within = by (nat_le (peer_of o.air.frames node).begun sessions) refl
    where
      by : (b : Bool) → nat_le (peer_of o.air.frames node).begun sessions ≡ b → Goes t log flights (record o { air = begins o.air node sessions }) t.up
      by true e =
          let more : (peer_of o.air.frames node).begun ≤ sessions = grind (arith, e) in
          let marks : List Mark = replicate (sessions - (peer_of o.air.frames node).begun) (begins_mark node) in
          rw e (goes_later t log marks flights flights (record o { air = beginning o.air node sessions }) t.up
          (goes_nowhere t (log ++ marks) flights (record o { air = beginning o.air node sessions })
          (record {
            knows = record { aborted = f.knows.aborted; sending = f.knows.sending; calls = f.knows.calls };
            await = record { frames = f.await.frames; results = f.await.results };
            fly = beginning_goes log flights o.air.frames node sessions within more f.fly;
            joined = f.joined;
          })))
      by false e = rw e (goes_nowhere t log flights o f)

  joins_go : (node : ℕ) (listening : Bool) → Goes t log flights (joins o node listening) t.up
  joins_go node listening =
      let events : List ChipEvent = Joined node listening ∷ links_of (joining o.air node listening) node in
      let same : SameChip o.chip.state (after_all o.chip.state events) =
      linked_same o.chip.state events
      (join_same node listening, links_same node (λ other. true) (filter (λ other. is_known (joining o.air node listening) other && linked (joining o.air node listening).network node other) (range_with_len 1 232))) in
      goes_nowhere t log flights (joins o node listening)
      (airs t log flights (with_chip o (after_all o.chip.state events)) (joining o.air node listening) refl (follows_chip t log flights o (after_all o.chip.state events) same f))

  way_goes : (s : Side) (p : OuterState) → Untouched o p → Goes t log flights p t.up
  way_goes s p u = stays t log flights o p u f

  untouched_way : (s : Side) (way : _) → Untouched o (with_way o s way)
  untouched_way side.Host way = record { chip = refl; air = refl; calls = refl; due = refl }
  untouched_way side.Chip way = record { chip = refl; air = refl; calls = refl; due = refl }

  outcome_goes : (event : OuterEvent) → AreNodes devices → May w event → InTurn flights event → Goes t log flights (outcome w event).outer t.up
  unfolding outcome May
  outcome_goes outer.Begins_line nodes may turn = stays t log flights o (record o { in_tick = false }) (record { chip = refl; air = refl; calls = refl; due = refl }) f
  outcome_goes outer.Begins_tick nodes may turn = stays t log flights o (record o { clock = o.clock + 1; in_tick = true; stamped = false }) (record { chip = refl; air = refl; calls = refl; due = refl }) f
  outcome_goes (outer.Host_writes unit) nodes may turn = stays t log flights o _ (record { chip = refl; air = refl; calls = refl; due = refl }) f
  outcome_goes (outer.Host_takes count) nodes may turn = stays t log flights o _ (record { chip = refl; air = refl; calls = refl; due = refl }) f
  outcome_goes (outer.Host_notes entry) nodes may turn = goes_nowhere t log flights o f
  outcome_goes (outer.Host_begins node sessions) nodes may turn = begins_go node sessions turn
  outcome_goes (outer.Chip_takes count rest ways) nodes may turn = absurd turn
  outcome_goes (outer.Arrives drawn route) nodes may turn = arrives_go flying lands next none t log flights o devices drawn route f may
  outcome_goes (outer.Gives route) nodes may turn = gives_go flying t log flights o f devices o.due route refl turn
  outcome_goes (outer.Device_ticks place drawn route) nodes may turn = acts_at_go flying t log flights o f devices place (slice_get devices place) (Ticks drawn) route nodes refl
  outcome_goes outer.Chip_ticks nodes may turn = ticks_go flying t log flights o f
  outcome_goes (outer.Repeats number drawn route) nodes may turn = repeats_go flying t log flights o f (kept_within keeping log flights o.air.frames f.fly) devices number (refusal_of o.air.frames number) drawn route
  outcome_goes (outer.Wakes_device node route) nodes may turn = by_hand_go flying t log flights o f devices (place_of node devices) Wakes route nodes
  outcome_goes (outer.Sets_device node value route) nodes may turn = by_hand_go flying t log flights o f devices (place_of node devices) (Sets value) route nodes
  outcome_goes (outer.Shows node) nodes may turn = goes_nowhere t log flights o f
  outcome_goes (outer.Joins node) nodes may turn = joins_go node _
  outcome_goes outer.Discovers nodes may turn = chips t log flights o (after_all o.chip.state (all_pairs o.air)) (discovers_same o) f
  outcome_goes (outer.Links a b live) nodes may turn = goes_nowhere t log flights (record o { air = linking o.air a b live }) (airs t log flights o (linking o.air a b live) refl f)
  outcome_goes (outer.Loses count) nodes may turn = goes_nowhere t log flights _ (airs t log flights o (record o.air { losing = o.air.losing + count }) refl f)
  outcome_goes (outer.Loses_acks count) nodes may turn = goes_nowhere t log flights _ (airs t log flights o (record o.air { ack_losing = o.air.ack_losing + count }) refl f)
  outcome_goes (outer.Marks_loss by) nodes may turn = way_goes by _ (untouched_way by _)
  outcome_goes (outer.Marks_change by garble) nodes may turn = way_goes by _ (untouched_way by _)
  outcome_goes (outer.Clears_pipe by) nodes may turn = way_goes by _ (untouched_way by _)
  outcome_goes outer.Collides_next nodes may turn = chips t log flights o _ (record { aborted = refl; sending = refl; joined = refl }) f
  outcome_goes (outer.Stalls ticks) nodes may turn = stays t log flights o _ (record { chip = refl; air = refl; calls = refl; due = refl }) f
  outcome_goes (outer.Cuts size) nodes may turn = stays t log flights o _ (record { chip = refl; air = refl; calls = refl; due = refl }) f

  pub event_goes : (event : OuterEvent) → AreNodes devices → May w event → InTurn flights event → Goes t log flights (happens w event).outer t.up
  event_goes event nodes may turn =
      goes_untouched t log flights (outcome w event).outer (happens w event).outer (entered_untouched (outcome w event).outer (outcome w event).entries) (outcome_goes event nodes may turn)

-- while no frame is on the air and no result is due, no call is to come
pub none_to_come : (t : Traffic) (log : List Mark) (o : OuterState) → Follows t log [] o → no_routes_due o.due ≡ 0 → t.calls ≡ []
none_to_come t log o f none = f.knows.calls ∙ ap flags (no_calls o.calls (sym f.await.frames) (sym f.await.results ∙ none))
  where
    no_calls : (calls : List Call) → flying_in (flags calls) ≡ 0 → without_frame (flags calls) ≡ 0 → calls ≡ []
    no_calls [] a b = refl
    no_calls (OfFrame ∷ calls) a b = absurd (omega arith)
    no_calls (no_route_call ∷ calls) a b = absurd (omega arith)
