-- What a device sends goes on the air, in the course of one node.
use Rattle.std.proofs.Common.{◌≡◌, ◌≢◌, ℕ, ◌<◌, ◌==◌, inl, inr, Bool, true, false, ◌||◌, nat_lt, if◌then◌else◌, Option, Some, None, List, [], ◌∷◌, ◌++◌, refl, ap, sym, ◌∙◌, subst, append-nil, arith}
use Rattle.std.specs.Prelude.{slice_get, slice_set}
use Rattle.std.specs.List.{AllByRecursion}
use Rattle.std.specs.Option.{unwrap_or, is_none}
use Rattle.std.proofs.lemmas.Bool.{eqb-true}
use Rattle.supervision.specs.Host.{HostBook, begun_of}
use Rattle.supervision.specs.Device.{Taken}
use Rattle.supervision.specs.Ends.{Report}
use Rattle.proof_course.specs.Flying.{Flight}
use Rattle.proof_course.specs.Sessions.{Course, Cargo, Answer, Of_node, Step, Flies, Reports as reports, flies, after, after_all, May}
use Rattle.route_table.specs.declared.route.Route.{Route}
use Rattle.air_frames.specs.declared.frame.Departure.{Departure}
use Rattle.air_frames.specs.declared.frame.Heading.TheVariants.{Homeward}
use Rattle.air_frames.specs.Flown.{Flown}
use Rattle.air_frames.specs.Frames.{FramesState, putting}
use Rattle.air_frames.specs.History.{Mark, Goes as goes_mark, begins_in, news_after}
use Rattle.proof_traffic.specs.Flights.{flown_now}
use Rattle.device_sim.specs.State.{State}
use Rattle.device_sim.specs.Event.{DeviceEvent, Ticks, device_after, device_replies}
use Rattle.mesh_sim.specs.Air.{AirState, is_joined, no_route, departing}
use Rattle.mesh_sim.specs.Steps.{answered, answered_if}
use Rattle.mesh_sim.specs.Fates.{Mesh, place_of}
use Rattle.proof_traffic.specs.proof_device.GoingOn.{IsSame}
use Rattle.proof_traffic.proofs.ChangesOutside.{place_is, place_set, get_set}
use Rattle.proof_once.specs.proof_messages.Ending.{HasEnded}
use Rattle.proof_once.specs.proof_messages.Landing.{IsOf}
use Rattle.proof_course_plain.specs.Ways.{Beside, Goes}
use Rattle.proof_course_plain.specs.Meaning.{Asked, NodeMeans}
use Rattle.proof_course_plain.specs.Air.{BearsBy, Bears, OnAir}
use Rattle.proof_course_plain.specs.Device.{AtDevice, IsIdle, finishes, Says, GoesAs}
use Rattle.proof_course_plain.specs.Making.{Makes, AllMake, HearsNone}
use Rattle.proof_course_plain.specs.Mesh.{HasDevice, InMesh, labels, Brings, Adds, MeshGoes}
use Rattle.proof_course_plain.proofs.ThinnedWays.{goes_nowhere, goes_on, goes_once}
use Rattle.proof_course_plain.proofs.MadeSettings.{get_other, set_holds, all_make_set}
use Rattle.proof_course_plain.proofs.Idle.{idle_makes, others_set}

-- how frames go on the air, as the course has it
abbrev pub Flying : Type 0
Flying = (node : ℕ) (orders : List Asked) (host : HostBook) (air old : List (Flight Cargo)) (log : List Mark) (flights : List Flown) (frames : FramesState) (departure : Departure) (cargo : Cargo) →
    departure.node < 233 → OnAir node orders host air old log flights frames → Bears node orders host.commands (flown_now log departure) (record { cargo = cargo; since = begun_of host }) →
    OnAir node orders host (air ++ record { cargo = cargo; since = begun_of host } ∷ []) (old ++ record { cargo = cargo; since = begun_of host } ∷ [])
    (log ++ goes_mark departure ∷ []) (flights ++ flown_now log departure ∷ []) (putting frames departure)

-- ---- only the air and the history change

pub record OnlyAir (old new : Course) : Type 0 where
  pub host : new.host ≡ old.host
  pub device : new.device ≡ old.device
  pub kept : new.kept ≡ old.kept
  pub ends : new.ends ≡ old.ends
  pub sent : new.sent ≡ old.sent
  pub up : new.up ≡ old.up
  pub down : new.down ≡ old.down
  pub told : new.told ≡ old.told

same_all : (c : Course) → OnlyAir c c
same_all c = record { host = refl; device = refl; kept = refl; ends = refl; sent = refl; up = refl; down = refl; told = refl }

flown_one : (c : Course) (cargo : Cargo) → OnlyAir c (flies c cargo)
flown_one c cargo = record { host = refl; device = refl; kept = refl; ends = refl; sent = refl; up = refl; down = refl; told = refl }

air_then : (a b c : Course) → OnlyAir a b → OnlyAir b c → OnlyAir a c
air_then a b c first later = record {
  host = later.host ∙ first.host;
  device = later.device ∙ first.device;
  kept = later.kept ∙ first.kept;
  ends = later.ends ∙ first.ends;
  sent = later.sent ∙ first.sent;
  up = later.up ∙ first.up;
  down = later.down ∙ first.down;
  told = later.told ∙ first.told;
}

pub device_stays : (old new : Course) (device : State) → OnlyAir old new → AtDevice old device → AtDevice new device
device_stays old new device same at = record {
  sessions = at.sessions ∙ sym same.device;
  kept = subst (λ (k : Option ℕ). IsOf device.reassembly k) (sym same.kept) at.kept;
  ended = subst (λ (ends : List ℕ). HasEnded device ends) (sym same.ends) at.ended;
  can = at.can;
  is_open = at.is_open;
}

-- ---- replies, one after another

-- the frames of the course, whatever the history is
pub record Airs (node : ℕ) (orders : List Asked) (c : Course) (air : AirState) : Type 0 where
  pub log : List Mark
  pub flights : List Flown
  pub on_air : OnAir node orders c.host c.air c.old log flights air.frames

pub record Sent (node : ℕ) (orders : List Asked) (c : Course) (air : AirState) : Type 0 where
  pub later : Course
  pub goes : Goes c later
  pub only : OnlyAir c later
  pub airs : Airs node orders later air

sent_then : (node : ℕ) (orders : List Asked) (a b : Course) (air : AirState) → Goes a b → OnlyAir a b → Sent node orders b air → Sent node orders a air
sent_then node orders a b air goes only more = record {
  later = more.later;
  goes = goes_on a b more.later goes more.goes;
  only = air_then a b more.later only more.only;
  airs = more.airs;
}

module _ (flying : Flying) (node : ℕ) (orders : List Asked) where
  -- one frame of a device goes on the air with this cargo
  sends_one : (c : Course) (air : AirState) (of : ℕ) (way : Option Route) (reply : List ℕ) (cargo : Cargo) → of < 233 → Airs node orders c air
      → ((of == node) ≡ true → NodeMeans reply cargo) → ((of == node) ≡ false → cargo ≡ Of_node) → Airs node orders (flies c cargo) (departing air of Homeward way reply)
  sends_one c air of way reply cargo within a own other =
      let d : Departure = record { node = of; heading = Homeward; route = unwrap_or way no_route; lost = nat_lt 0 air.losing || is_none way; payload = reply } in
      record {
        log = a.log ++ goes_mark d ∷ [];
        flights = a.flights ++ flown_now a.log d ∷ [];
        on_air = flying node orders c.host c.air c.old a.log a.flights air.frames d cargo within a.on_air (by d (of == node) refl);
      }
    where
      by : (d : Departure) (b : Bool) → (of == node) ≡ b
          → BearsBy Homeward b orders c.host.commands (record { node = of; heading = Homeward; route = d.route; lost = d.lost; payload = reply; begun = begins_in of a.log; shown = news_after of [] (a.log ++ goes_mark d ∷ []) })
          (record { cargo = cargo; since = begun_of c.host })
      by d true e = (sym a.on_air.begun ∙ ap (λ (n : ℕ). begins_in n a.log) (sym (eqb-true of node e)), own e)
      by d false e = other e

  -- the first goes, and then the others
  first_goes : (c : Course) (air : AirState) (of : ℕ) (way : Option Route) (reply : List ℕ) (replies : List (List ℕ)) → of < 233 → Airs node orders c air
      → ((of == node) ≡ true → Says c.device reply) → ((cargo : Cargo) → Airs node orders (flies c cargo) (departing air of Homeward way reply) → Sent node orders (flies c cargo) (answered (departing air of Homeward way reply) of way replies))
      → Sent node orders c (answered (departing air of Homeward way reply) of way replies)
  first_goes c air of way reply replies within a says rest = by (of == node) refl
    where
      go : (step : Step) (cargo : Cargo) → May c step → after c step ≡ flies c cargo → ((of == node) ≡ true → NodeMeans reply cargo) → ((of == node) ≡ false → cargo ≡ Of_node)
          → Sent node orders c (answered (departing air of Homeward way reply) of way replies)
      go step cargo may is own other =
          sent_then node orders c (flies c cargo) (answered (departing air of Homeward way reply) of way replies)
          (subst (λ (x : Course). Goes c x) is (goes_once c step may)) (flown_one c cargo) (rest cargo (sends_one c air of way reply cargo within a own other))

      said : (of == node) ≡ true → Says c.device reply → Sent node orders c (answered (departing air of Homeward way reply) of way replies)
      said e (inl (some, report)) = go reports (Answer c.device.taken c.device.status) some refl (λ same. report) (λ other. absurd (grind (arith, e, other)))
      said e (inr none) = go (Flies Of_node) Of_node tt refl (λ same. none) (λ other. refl)

      by : (b : Bool) → (of == node) ≡ b → Sent node orders c (answered (departing air of Homeward way reply) of way replies)
      by true e = said e (says e)
      by false e = go (Flies Of_node) Of_node tt refl (λ same. absurd (grind (arith, e, same))) (λ other. refl)

  replies_go : (c : Course) (air : AirState) (of : ℕ) (way : Option Route) (replies : List (List ℕ)) → of < 233 → Airs node orders c air
      → ((of == node) ≡ true → AllByRecursion (Says c.device) replies) → Sent node orders c (answered air of way replies)
  replies_go c air of way [] within a says = record { later = c; goes = goes_nowhere c; only = same_all c; airs = a }
  replies_go c air of way (reply ∷ replies) within a says =
      first_goes c air of way reply replies within a (λ e. (says e).0) (λ cargo airs. replies_go (flies c cargo) (departing air of Homeward way reply) of way replies within airs (λ e. (says e).1))

  pub replies_go_if : (joined : Bool) (c : Course) (air : AirState) (of : ℕ) (way : Option Route) (replies : List (List ℕ)) → of < 233 → Airs node orders c air
      → ((of == node) ≡ true → AllByRecursion (Says c.device) replies) → Sent node orders c (answered_if joined air of way replies)
  replies_go_if true c air of way replies within a says = replies_go c air of way replies within a says
  replies_go_if false c air of way replies within a says = record { later = c; goes = goes_nowhere c; only = same_all c; airs = a }

-- ---- the work of the device ends, and the air is as it was

pub finished_airs : (node : ℕ) (orders : List Asked) (c : Course) (air : AirState) (final : Option ℕ) → Airs node orders c air → Airs node orders (after_all c (finishes final)) air
finished_airs node orders c air None a = a
finished_airs node orders c air (Some status) a =
    record { log = a.log; flights = a.flights; on_air = record { fly = a.on_air.fly; flying = a.on_air.flying; flown = a.on_air.flown; begun = a.on_air.begun } }

pub record KeepsWays (old new : Course) : Type 0 where
  pub host : new.host ≡ old.host
  pub sent : new.sent ≡ old.sent
  pub up : new.up ≡ old.up
  pub down : new.down ≡ old.down
  pub told : new.told ≡ old.told

pub finished_ways : (c : Course) (final : Option ℕ) → KeepsWays c (after_all c (finishes final))
finished_ways c None = record { host = refl; sent = refl; up = refl; down = refl; told = refl }
finished_ways c (Some status) = record { host = refl; sent = refl; up = refl; down = refl; told = refl }

-- ---- the devices

-- the first device of a node stands at one place
pub one_place : (node : ℕ) (devices : List State) (place other : ℕ) → place_of node devices ≡ Some place → place_of node devices ≡ Some other → place ≡ other
one_place node devices place other first also = let same : Some place ≡ Some other = sym first ∙ also in cc

-- and one device stands at a place
pub one_stands : (devices : List State) (place other : ℕ) (device one : State) → slice_get devices place ≡ Some device → slice_get devices other ≡ Some one → place ≡ other → device ≡ one
one_stands devices place other device one stood stands here = let same : Some device ≡ Some one = sym stood ∙ (ap (λ (k : ℕ). slice_get devices k) here ∙ stands) in cc

-- a device of another node stands elsewhere
pub stands_elsewhere : (node : ℕ) (devices : List State) (place own : ℕ) (device one : State) → slice_get devices place ≡ Some device → device.node ≢ node → place_of node devices ≡ Some own → slice_get devices own ≡ Some one → place ≢ own
stands_elsewhere node devices place own device one stood apart first stands here =
    apart (ap (λ (d : State). d.node) (one_stands devices place own device one stood stands here) ∙ place_is node devices own one first stands)

pub nodes_set : (devices : List State) (place : ℕ) (device new : State) → slice_get devices place ≡ Some device → new.node ≡ device.node → ((other : ℕ) (one : State) → slice_get devices other ≡ Some one → one.node < 233)
    → (other : ℕ) (one : State) → slice_get (slice_set devices place new) other ≡ Some one → one.node < 233
nodes_set devices place device new stood same nodes =
    set_holds (λ (at : ℕ) (one : State). one.node < 233) devices place device new stood (subst (λ (n : ℕ). n < 233) (sym same) (nodes place device stood)) nodes

pub own_set : (node : ℕ) (c later : Course) (devices : List State) (new : State) (h : HasDevice node c devices) → new.node ≡ h.device.node → AtDevice later new → HasDevice node later (slice_set devices h.place new)
own_set node c later devices new h same at = record {
  device = new;
  place = h.place;
  first = place_set node devices h.place h.device new h.stands same ∙ h.first;
  stands = get_set devices h.place h.device new h.stands;
  at = at;
  others = others_set node devices h.place h.place h.device new h.stands (λ own away. absurd (away refl)) h.others;
  nodes = nodes_set devices h.place h.device new h.stands same h.nodes;
}

-- one elsewhere, of another node or idle, is another than before
pub other_set : (node : ℕ) (c : Course) (devices : List State) (place : ℕ) (device new : State) (h : HasDevice node c devices) → slice_get devices place ≡ Some device → place ≢ h.place → (device.node ≡ node → IsIdle new) → new.node ≡ device.node
    → HasDevice node c (slice_set devices place new)
other_set node c devices place device new h stood away idle same = record {
  device = h.device;
  place = h.place;
  first = place_set node devices place device new stood same ∙ h.first;
  stands = get_other devices place h.place new (λ e. away (sym e)) ∙ h.stands;
  at = h.at;
  others = others_set node devices h.place place device new stood (λ own elsewhere. idle (sym same ∙ own)) h.others;
  nodes = nodes_set devices place device new stood same h.nodes;
}

-- the device of the node, and what the node's devices made
pub record Stands (node : ℕ) (orders : List Asked) (c : Course) (devices : List State) : Type 0 where
  pub has : HasDevice node c devices
  pub made : AllMake node orders c.host.commands devices

pub stands_of : (node : ℕ) (orders : List Asked) (c : Course) (mesh : Mesh) → InMesh node orders c mesh → Stands node orders c mesh.devices
stands_of node orders c mesh is = record { has = is.device; made = is.made }

pub device_moves : (node : ℕ) (c later : Course) (devices : List State) → OnlyAir c later → HasDevice node c devices → HasDevice node later devices
device_moves node c later devices only h =
    record { device = h.device; place = h.place; first = h.first; stands = h.stands; at = device_stays c later h.device only h.at; others = h.others; nodes = h.nodes }

-- ---- an event of a device

nothing_added : (a b c : Course) → KeepsWays a b → OnlyAir b c → Adds a c []
nothing_added a b c ways only = record {
  host = only.host ∙ ways.host;
  sent = only.sent ∙ ways.sent;
  up = only.up ∙ ways.up;
  down = only.down ∙ (ways.down ∙ sym (append-nil a.down));
  told = only.told ∙ ways.told;
}

pub airs_of : (node : ℕ) (orders : List Asked) (c : Course) (mesh : Mesh) → InMesh node orders c mesh → Airs node orders c mesh.air
airs_of node orders c mesh is = record { log = is.log; flights = is.flights; on_air = is.on_air }

pub mesh_then : (node : ℕ) (orders : List Asked) (a b : Course) (mesh : Mesh) → Goes a b → KeepsWays a b → MeshGoes node orders b mesh [] → MeshGoes node orders a mesh []
mesh_then node orders a b mesh goes ways g = by g.marks g.brings g.adds
  where
    by : (marks : List (Option Report)) → Beside (Brings node) [] marks → Adds b g.later (labels marks) → MeshGoes node orders a mesh []
    by [] none adds = record {
      later = g.later;
      goes = goes_on a b g.later goes g.goes;
      in_mesh = g.in_mesh;
      marks = [];
      brings = tt;
      adds = record {
        host = adds.host ∙ ways.host;
        sent = adds.sent ∙ ways.sent;
        up = adds.up ∙ ways.up;
        down = adds.down ∙ ap (λ (ds : List Report). ds ++ []) ways.down;
        told = adds.told ∙ ways.told;
      };
    }
    by (mark ∷ marks) some adds = absurd some

pub ways_stay : (c : Course) → KeepsWays c c
ways_stay c = record { host = refl; sent = refl; up = refl; down = refl; told = refl }

-- an event of a device of which the course may have heard before; where the device is another, the node's is as the course has it
pub device_goes : Flying → ((device : State) (event : DeviceEvent) → IsSame device (device_after device event)) → (node : ℕ) (orders : List Asked) (old c : Course) (mesh : Mesh) (place of : ℕ) (device : State) (event : DeviceEvent)
    (way : Option Route) (h : HasDevice node old mesh.devices) → Airs node orders c mesh.air → slice_get mesh.devices place ≡ Some device → of ≡ device.node → (device.node ≡ node → place ≡ h.place)
    → (device.node ≡ node → GoesAs c device event) → (device.node ≢ node → AtDevice c h.device) → AllMake node orders c.host.commands mesh.devices → (device.node ≡ node → Makes orders c.host.commands (device_after device event))
    → MeshGoes node orders c (record { air = answered_if (is_joined mesh.air of) mesh.air of way (device_replies device event); devices = slice_set mesh.devices place (device_after device event) }) []
device_goes flying same node orders old c mesh place of device event way h airs stood named there own other made makes = by (device.node == node) refl
  where
    within : of < 233
    within = subst (λ (n : ℕ). n < 233) (sym named) (h.nodes place device stood)

    now_made : AllMake node orders c.host.commands (slice_set mesh.devices place (device_after device event))
    now_made = all_make_set node orders c.host.commands mesh.devices place device (device_after device event) stood (same device event).node makes made

    by : (b : Bool) → (device.node == node) ≡ b
        → MeshGoes node orders c (record { air = answered_if (is_joined mesh.air of) mesh.air of way (device_replies device event); devices = slice_set mesh.devices place (device_after device event) }) []
    by true e =
        let mine : device.node ≡ node = eqb-true device.node node e in
        let g : GoesAs c device event = own mine in
        let here : place ≡ h.place = there mine in
        let one : device ≡ h.device = one_stands mesh.devices place h.place device h.device stood h.stands here in
        let between : Course = after_all c (finishes g.final) in
        let s : Sent node orders between (answered_if (is_joined mesh.air of) mesh.air of way (device_replies device event)) =
        replies_go_if flying node orders (is_joined mesh.air of) between mesh.air of way (device_replies device event) within
        (finished_airs node orders c mesh.air g.final airs) (λ e. subst (λ (t : Taken). AllByRecursion (Says t) (device_replies device event)) g.at.sessions g.says) in
        record {
          later = s.later;
          goes = goes_on c between s.later (record { steps = finishes g.final; may = g.may; is = refl }) s.goes;
          in_mesh = record {
            log = s.airs.log;
            flights = s.airs.flights;
            on_air = s.airs.on_air;
            device = device_moves node between s.later (slice_set mesh.devices place (device_after device event)) s.only
                (subst (λ (k : ℕ). HasDevice node between (slice_set mesh.devices k (device_after device event))) (sym here)
                (own_set node old between mesh.devices (device_after device event) h ((same device event).node ∙ ap (λ (d : State). d.node) one) g.at));
            made = subst (λ (b : HostBook). AllMake node orders b.commands (slice_set mesh.devices place (device_after device event))) (sym (s.only.host ∙ (finished_ways c g.final).host)) now_made;
          };
          marks = [];
          brings = tt;
          adds = nothing_added c between s.later (finished_ways c g.final) s.only;
        }
    by false e =
        let apart : device.node ≢ node = grind (arith, e) in
        let s : Sent node orders c (answered_if (is_joined mesh.air of) mesh.air of way (device_replies device event)) =
        replies_go_if flying node orders (is_joined mesh.air of) c mesh.air of way (device_replies device event) within airs (λ mine. absurd (apart (sym named ∙ eqb-true of node mine))) in
        let here : HasDevice node c mesh.devices = record { device = h.device; place = h.place; first = h.first; stands = h.stands; at = other apart; others = h.others; nodes = h.nodes } in
        record {
          later = s.later;
          goes = s.goes;
          in_mesh = record {
            log = s.airs.log;
            flights = s.airs.flights;
            on_air = s.airs.on_air;
            device = device_moves node c s.later (slice_set mesh.devices place (device_after device event)) s.only
                (other_set node c mesh.devices place device (device_after device event) here stood (stands_elsewhere node mesh.devices place h.place device h.device stood apart h.first h.stands)
                (λ own. absurd (apart own)) (same device event).node);
            made = subst (λ (b : HostBook). AllMake node orders b.commands (slice_set mesh.devices place (device_after device event))) (sym s.only.host) now_made;
          };
          marks = [];
          brings = tt;
          adds = nothing_added c c s.later (ways_stay c) s.only;
        }

-- the first device of a node has an event of its own
pub own_goes : Flying → ((device : State) (event : DeviceEvent) → IsSame device (device_after device event)) → (node : ℕ) (orders : List Asked) (c : Course) (mesh : Mesh) (place : ℕ) (device : State) (event : DeviceEvent) (way : Option Route)
    → InMesh node orders c mesh → slice_get mesh.devices place ≡ Some device → place_of device.node mesh.devices ≡ Some place → (device.node ≡ node → GoesAs c device event) → (device.node ≡ node → Makes orders c.host.commands (device_after device event))
    → MeshGoes node orders c (record { air = answered_if (is_joined mesh.air device.node) mesh.air device.node way (device_replies device event); devices = slice_set mesh.devices place (device_after device event) }) []
own_goes flying same node orders c mesh place device event way is stood first own makes =
    device_goes flying same node orders c c mesh place device.node device event way is.device (airs_of node orders c mesh is) stood refl
    (λ own. one_place node mesh.devices place is.device.place (ap (λ (n : ℕ). place_of n mesh.devices) (sym own) ∙ first) is.device.first) own (λ apart. is.device.at) is.made makes

-- ---- a tick

-- nothing is said, whether or not the device has joined
pub silence : (joined : Bool) (air : AirState) (of : ℕ) (way : Option Route) (replies : List (List ℕ)) → replies ≡ [] → answered_if joined air of way replies ≡ air
silence true air of way replies none = ap (λ (rs : List (List ℕ)). answered air of way rs) none
silence false air of way replies none = refl

-- the laws that are used
pub record TickLaws : Type 0 where
  pub flying : Flying
  pub same : (device : State) (event : DeviceEvent) → IsSame device (device_after device event)
  pub ticks : (c : Course) (device : State) (drawn : List ℕ) → AtDevice c device → GoesAs c device (Ticks drawn)
  pub keeps : (orders : List Asked) (commands : List ℕ) (device : State) (event : DeviceEvent) → HearsNone event → Makes orders commands device → Makes orders commands (device_after device event)
  pub idle : (device : State) (drawn : List ℕ) → IsIdle device → IsIdle (device_after device (Ticks drawn)) × (device_replies device (Ticks drawn) ≡ [])

-- a tick of the device of the node, of one of another node, or of an idle one of the node
module _ (laws : TickLaws) (node : ℕ) (orders : List Asked) (c : Course) (mesh : Mesh) (place : ℕ) (device : State) (drawn : List ℕ) (way : Option Route) (is : InMesh node orders c mesh) (stood : slice_get mesh.devices place ≡ Some device) where
  abbrev new : State
  new = device_after device (Ticks drawn)

  abbrev now : Mesh
  now = record { air = answered_if (is_joined mesh.air device.node) mesh.air device.node way (device_replies device (Ticks drawn)); devices = slice_set mesh.devices place new }

  idle_goes : place ≢ is.device.place → IsIdle new × (device_replies device (Ticks drawn) ≡ []) → MeshGoes node orders c now []
  idle_goes away (idle, none) =
      subst (λ (air : AirState). MeshGoes node orders c (record { air = air; devices = slice_set mesh.devices place new }) [])
      (sym (silence (is_joined mesh.air device.node) mesh.air device.node way (device_replies device (Ticks drawn)) none))
      (record {
        later = c;
        goes = goes_nowhere c;
        in_mesh = record {
          log = is.log;
          flights = is.flights;
          on_air = is.on_air;
          device = other_set node c mesh.devices place device new is.device stood away (λ own. idle) (laws.same device (Ticks drawn)).node;
          made = all_make_set node orders c.host.commands mesh.devices place device new stood (laws.same device (Ticks drawn)).node (λ own. idle_makes orders c.host.commands new idle) is.made;
        };
        marks = [];
        brings = tt;
        adds = nothing_added c c c (ways_stay c) (same_all c);
      })

  goes_as : (device.node ≡ node → place ≡ is.device.place) → MeshGoes node orders c now []
  goes_as there =
      device_goes laws.flying laws.same node orders c c mesh place device.node device (Ticks drawn) way is.device (airs_of node orders c mesh is) stood refl there
      (λ own. laws.ticks c device drawn
      (subst (λ (d : State). AtDevice c d) (sym (one_stands mesh.devices place is.device.place device is.device.device stood is.device.stands (there own))) is.device.at))
      (λ apart. is.device.at) is.made (λ own. laws.keeps orders c.host.commands device (Ticks drawn) tt (is.made place device stood own))

  pub ticks_go : MeshGoes node orders c now []
  ticks_go = by (place == is.device.place) (device.node == node) refl refl
    where
      by : (here mine : Bool) → (place == is.device.place) ≡ here → (device.node == node) ≡ mine → MeshGoes node orders c now []
      by true mine e own = goes_as (λ same. eqb-true place is.device.place e)
      by false false e own = goes_as (λ same. absurd (grind (arith, own, same)))
      by false true e own = let away : place ≢ is.device.place = grind (arith, e) in idle_goes away (laws.idle device drawn (is.device.others place device stood (eqb-true device.node node own) away))
