-- Frames arrive, or are heard again, in the course of one node.
use Rattle.std.proofs.Common.{◌≡◌, ◌≢◌, ℕ, zero, suc, ◌+◌, ◌-◌, ◌<◌, ◌==◌, inl, inr, Bool, true, false, if◌then◌else◌, Option, Some, None, List, [], ◌∷◌, ◌++◌, length, refl, ap, sym, ◌∙◌, subst, append-nil, arith}
use Rattle.std.specs.Prelude.{slice_get}
use Rattle.std.specs.Option.{option_map}
use Rattle.std.proofs.lemmas.Bool.{eqb-true}
use Rattle.supervision.specs.Host.{HostBook, begun_of}
use Rattle.supervision.specs.Device.{Taken}
use Rattle.supervision.specs.Ends.{Report}
use Rattle.proof_course.specs.Flying.{Flight}
use Rattle.proof_course.specs.SessionFacts.{CourseFacts}
use Rattle.proof_course.specs.SessionLaws.{NamesOne}
use Rattle.proof_course.specs.Sessions.{Course, Message, IsFresh, IsFreshCargo, Cargo, Command, Of_host, Answer, Of_node, Step, Lands as lands_step, Repeats as repeats_step, hears, lands, repeats, after, after_message, kept_after, May, MayRepeat}
use Rattle.route_table.specs.declared.route.Route.{Route}
use Rattle.air_frames.specs.declared.frame.Heading.{Heading}
use Rattle.air_frames.specs.declared.frame.Heading.TheVariants.{Outward, Homeward}
use Rattle.air_frames.specs.Flown.{Flown}
use Rattle.air_frames.specs.Frames.{FramesState, landing, next_of, remembered}
use Rattle.air_frames.specs.Ages.{refusal_of}
use Rattle.air_frames.specs.History.{Mark}
use Rattle.proof_traffic.specs.Flights.{Fly}
use Rattle.device_sim.specs.State.{State}
use Rattle.device_sim.specs.Event.{DeviceEvent, Hears, device_after, device_replies}
use Rattle.mesh_sim.specs.declared.event.AirEvent.{AirEvent}
use Rattle.mesh_sim.specs.declared.event.AirEvent.TheVariants.{Heard, Lost, Unheard, Sent as sent_event, Changed, ToChip, Done}
use Rattle.mesh_sim.specs.declared.fate.Fate.{Fate}
use Rattle.mesh_sim.specs.declared.fate.Fate.TheVariants as fate
use Rattle.mesh_sim.specs.Routes.{backwards}
use Rattle.mesh_sim.specs.Air.{AirState, is_joined, departing}
use Rattle.mesh_sim.specs.Fates.{Mesh, place_of, is_awake, awake_at, listener_of, fate_by, fate_of, dead_hop_of}
use Rattle.mesh_sim.specs.Steps.{Arrives, Repeats, landed, acknowledged, status_of, done_of, changed, answers, answers_if, outs_hearing, heard_at, outs_at, arriving_as, arrival_outs_as, heard_again, outs_again, repeating_by, repeating, repeat_outs_by, repeat_outs, mesh_after, mesh_outs, MayHappen}
use Rattle.proof_traffic.specs.proof_device.GoingOn.{IsSame}
use Rattle.proof_traffic.proofs.ChangesOutside.{place_is, listener_is, fate_listens}
use Rattle.proof_course_plain.specs.Ways.{Goes}
use Rattle.proof_course_plain.specs.Meaning.{Asked, HostMeans, NodeMeans}
use Rattle.proof_course_plain.specs.Air.{BearsBy, OnAir, Lands, WasThere}
use Rattle.proof_course_plain.specs.Device.{AtDevice, HearsAs}
use Rattle.proof_course_plain.specs.Making.{Makes, AllMake, NamesNext, Names}
use Rattle.proof_course_plain.specs.Mesh.{InMesh, brought_by, brought, MeshGoes}
use Rattle.proof_course_plain.proofs.ThinnedWays.{goes_nowhere, goes_once}
use Rattle.proof_course_plain.proofs.Replies.{Flying, Airs, KeepsWays, Stands, stands_of, ways_stay, airs_of, one_place, one_stands, mesh_then, device_moves, device_goes}

-- ---- what brings nothing to the chip

pub brought-append : (a b : List AirEvent) → brought (a ++ b) ≡ brought a ++ brought b
brought-append [] b = refl
brought-append (Heard frame ∷ a) b = brought-append a b
brought-append (Lost frame ∷ a) b = brought-append a b
brought-append (Unheard frame ∷ a) b = brought-append a b
brought-append (sent_event frame from to route payload ∷ a) b = brought-append a b
brought-append (Changed node at ∷ a) b = brought-append a b
brought-append (ToChip frame from payload ∷ a) b = ap (λ l. (from, payload) ∷ l) (brought-append a b)
brought-append (Done frame status dead ∷ a) b = brought-append a b

changed_brings : (node first count : ℕ) → brought (changed node first count) ≡ []
changed_brings node first zero = refl
changed_brings node first (suc more) = changed_brings node (first + 1) more

answers_bring : (air : AirState) (node : ℕ) (way : Option Route) (replies : List (List ℕ)) → brought (answers air node way replies) ≡ []
answers_bring air node way [] = refl
answers_bring air node way (reply ∷ replies) = answers_bring (departing air node Homeward way reply) node way replies

answers_if_bring : (joined : Bool) (air : AirState) (node : ℕ) (way : Option Route) (replies : List (List ℕ)) → brought (answers_if joined air node way replies) ≡ []
answers_if_bring true air node way replies = answers_bring air node way replies
answers_if_bring false air node way replies = refl

pub hearing_brings : (air : AirState) (number node : ℕ) (route : Option Route) (device : State) (event : DeviceEvent) → brought (outs_hearing air number node route device event) ≡ []
hearing_brings air number node route device event =
    brought-append (changed node (length device.journal) (length (device_after device event).journal - length device.journal)) (answers_if (is_joined air node) air node (option_map backwards route) (device_replies device event))
    ∙ (ap (λ l. l ++ brought (answers_if (is_joined air node) air node (option_map backwards route) (device_replies device event))) (changed_brings node (length device.journal) (length (device_after device event).journal - length device.journal))
    ∙ answers_if_bring (is_joined air node) air node (option_map backwards route) (device_replies device event))

pub done_brings : (heading : Heading) (number status : ℕ) (dead : Option (ℕ × ℕ)) → brought (done_of heading number status dead) ≡ []
done_brings Outward number status dead = refl
done_brings Homeward number status dead = refl

-- ---- what becomes of a frame tells whose it is

pub home_by : (lost : Bool) (dead : Option (ℕ × ℕ)) (heading : Heading) (listener : Option ℕ) → (if lost then fate.Lost else fate_by dead heading listener) ≡ fate.AtChip → heading ≡ Homeward
home_by true dead heading listener e = absurd (grind (arith, e))
home_by false (Some hop) heading listener e = absurd (grind (arith, e))
home_by false None Homeward listener e = refl
home_by false None Outward (Some place) e = absurd (grind (arith, e))
home_by false None Outward None e = absurd (grind (arith, e))

pub out_by : (lost : Bool) (dead : Option (ℕ × ℕ)) (heading : Heading) (listener : Option ℕ) (place : ℕ) → (if lost then fate.Lost else fate_by dead heading listener) ≡ fate.AtDevice place → heading ≡ Outward
out_by true dead heading listener place e = absurd (grind (arith, e))
out_by false (Some hop) heading listener place e = absurd (grind (arith, e))
out_by false None Homeward listener place e = absurd (grind (arith, e))
out_by false None Outward listener place e = refl

-- ---- what a frame that is heard leaves

heard_airs : (node : ℕ) (orders : List Asked) (c : Course) (air : AirState) (since : ℕ) (cargo : Cargo) (is_whole : Bool) → Airs node orders c air → Airs node orders (hears c since cargo is_whole) air
heard_airs node orders c air since (Command message) is_whole a =
    record { log = a.log; flights = a.flights; on_air = record { fly = a.on_air.fly; flying = a.on_air.flying; flown = a.on_air.flown; begun = a.on_air.begun } }
heard_airs node orders c air since Of_host is_whole a = a
heard_airs node orders c air since (Answer session status) is_whole a =
    record { log = a.log; flights = a.flights; on_air = record { fly = a.on_air.fly; flying = a.on_air.flying; flown = a.on_air.flown; begun = a.on_air.begun } }
heard_airs node orders c air since Of_node is_whole a = a

-- a payload of the host leaves the ways
heard_ways : (a c : Course) (orders : List Asked) (commands payload : List ℕ) (since : ℕ) (cargo : Cargo) (is_whole : Bool) → HostMeans orders commands payload cargo → KeepsWays a c → KeepsWays a (hears c since cargo is_whole)
heard_ways a c orders commands payload since (Command message) is_whole means ways = record { host = ways.host; sent = ways.sent; up = ways.up; down = ways.down; told = ways.told }
heard_ways a c orders commands payload since Of_host is_whole means ways = ways
heard_ways a c orders commands payload since (Answer session status) is_whole means ways = absurd means
heard_ways a c orders commands payload since Of_node is_whole means ways = absurd means

-- it begins no session
heard_host : (c : Course) (since : ℕ) (cargo : Cargo) (is_whole : Bool) → (hears c since cargo is_whole).host ≡ c.host
heard_host c since (Command message) is_whole = refl
heard_host c since Of_host is_whole = refl
heard_host c since (Answer session status) is_whole = refl
heard_host c since Of_node is_whole = refl

-- the laws that are used
pub record Laws : Type 0 where
  pub flying : Flying
  pub same : (device : State) (event : DeviceEvent) → IsSame device (device_after device event)
  pub hears : (orders : List Asked) (commands : List ℕ) (c : Course) (device : State) (since : ℕ) (cargo : Cargo) (payload drawn : List ℕ) → AtDevice c device → device.awake ≡ true → HostMeans orders commands payload cargo
      → Names c.device cargo → Makes orders commands device → HearsAs c device since cargo (Hears payload drawn)
  pub makes : (orders : List Asked) (commands : List ℕ) (c : Course) (device : State) (cargo : Cargo) (payload drawn : List ℕ) → AtDevice c device → device.awake ≡ true → HostMeans orders commands payload cargo
      → Names c.device cargo → Makes orders commands device → Makes orders commands (device_after device (Hears payload drawn))
  pub landing_names : (c : Course) (message : Message) (begun : ℕ) (later : List (Flight Cargo)) → CourseFacts c → c.air ≡ record { cargo = Command message; since = begun } ∷ later → NamesOne c.device message
  pub repeated_names : (c : Course) (message : Message) (begun at : ℕ) → CourseFacts c → slice_get c.old at ≡ Some (record { cargo = Command message; since = begun }) → IsFresh (begun_of c.host) begun message.is_segment
      → NamesOne c.device message
  pub facts : (c : Course) (step : Step) → CourseFacts c → May c step → CourseFacts (after c step)
  pub kept : (c : Course) (session : ℕ) → CourseFacts c → c.kept ≡ Some session → session ≡ c.device.taken + 1
  pub next : (log : List Mark) (flight : Flown) (later : List Flown) (frames : FramesState) → Fly log (flight ∷ later) frames → next_of frames ≡ Some flight
  pub none : (log : List Mark) (frames : FramesState) → Fly log [] frames → next_of frames ≡ None
  pub lands : (node : ℕ) (orders : List Asked) (host : HostBook) (air old : List (Flight Cargo)) (log : List Mark) (frame : Flown) (later : List Flown) (frames : FramesState)
      → OnAir node orders host air old log (frame ∷ later) frames → Lands node orders host air old log frame later (landing frames)
  pub repeated : (node : ℕ) (orders : List Asked) (host : HostBook) (air old : List (Flight Cargo)) (log : List Mark) (flights : List Flown) (frames : FramesState) (number : ℕ) (frame : Flown)
      → node < 233 → OnAir node orders host air old log flights frames → refusal_of frames number ≡ None → remembered frames number ≡ Some frame → WasThere node orders host old frame

pub awake_at_place : (devices : List State) (node place : ℕ) (device : State) → listener_of node devices ≡ Some place → slice_get devices place ≡ Some device → device.awake ≡ true
awake_at_place devices node place device e stood = by (place_of node devices) refl
  where
    awake : (there : ℕ) (b : Bool) → is_awake (slice_get devices there) ≡ b → (if b then Some there else None) ≡ Some place → device.awake ≡ true
    awake there true is found = let same : there ≡ place = cc in sym (ap is_awake (ap (λ (k : ℕ). slice_get devices k) same ∙ stood)) ∙ is
    awake there false is found = absurd cc

    by : (found : Option ℕ) → place_of node devices ≡ found → device.awake ≡ true
    by None is = absurd (let bad : None ≡ Some place = sym (ap (λ (o : Option ℕ). awake_at devices o) is) ∙ e in grind (arith, bad))
    by (Some there) is = awake there (is_awake (slice_get devices there)) refl (sym (ap (λ (o : Option ℕ). awake_at devices o) is) ∙ e)

-- a course that keeps a segment knows of which session it is
next_named : Laws → (c : Course) (message : Message) (since : ℕ) → CourseFacts (hears c since (Command message) false) → NamesNext c.device message
next_named laws c message since facts segment next =
    let keeps : kept_after c.device c.kept message false ≡ Some message.session = rw (segment, next) refl in
    let same : after_message c.device message false ≡ c.device = rw segment refl in
    laws.kept (hears c since (Command message) false) message.session facts keeps ∙ ap (λ (t : Taken). t.taken + 1) same

module _ (laws : Laws) (node : ℕ) (orders : List Asked) where
  -- ---- by a device

  -- the frame that is heard is the course's flight; the course goes from `c` to where it was heard, and `before` is what is there without it
  device_hears : (c before : Course) (mesh : Mesh) (frame : Flown) (flight : Flight Cargo) (place : ℕ) (device : State) (drawn : List ℕ) (route : Option Route)
      → ((is_whole : Bool) → Goes c (hears before flight.since flight.cargo is_whole)) → Goes c before → KeepsWays c before → Airs node orders before mesh.air → Stands node orders before mesh.devices
      → BearsBy Outward (frame.node == node) orders before.host.commands frame flight → listener_of frame.node mesh.devices ≡ Some place → slice_get mesh.devices place ≡ Some device → Names before.device flight.cargo
      → MeshGoes node orders c (heard_at mesh place (Some device) frame.node route (Hears frame.payload drawn)) []
  device_hears c before mesh frame flight place device drawn route goes still ways airs h bears listens stood names = by (frame.node == node) refl bears
    where
      event : DeviceEvent
      event = Hears frame.payload drawn

      first : place_of frame.node mesh.devices ≡ Some place
      first = listener_is frame.node mesh.devices place listens

      named : device.node ≡ frame.node
      named = place_is frame.node mesh.devices place device first stood

      awake : device.awake ≡ true
      awake = awake_at_place mesh.devices frame.node place device listens stood

      by : (b : Bool) → (frame.node == node) ≡ b → BearsBy Outward b orders before.host.commands frame flight → MeshGoes node orders c (heard_at mesh place (Some device) frame.node route (Hears frame.payload drawn)) []
      by true e (since, means) = as_heard (laws.hears orders before.host.commands before device flight.since flight.cargo frame.payload drawn at awake means names makes)
        where
          mine : device.node ≡ node
          mine = named ∙ eqb-true frame.node node e

          here : place ≡ h.has.place
          here = one_place node mesh.devices place h.has.place (ap (λ (n : ℕ). place_of n mesh.devices) (sym (eqb-true frame.node node e)) ∙ first) h.has.first

          at : AtDevice before device
          at = subst (λ (d : State). AtDevice before d) (sym (one_stands mesh.devices place h.has.place device h.has.device stood h.has.stands here)) h.has.at

          makes : Makes orders before.host.commands device
          makes = h.made place device stood mine

          made : Makes orders before.host.commands (device_after device event)
          made = laws.makes orders before.host.commands before device flight.cargo frame.payload drawn at awake means names makes

          as_heard : HearsAs before device flight.since flight.cargo event → MeshGoes node orders c (heard_at mesh place (Some device) frame.node route (Hears frame.payload drawn)) []
          as_heard (inl (is_whole, heard)) =
              let now : Course = hears before flight.since flight.cargo is_whole in
              let same : now.host ≡ before.host = heard_host before flight.since flight.cargo is_whole in
              mesh_then node orders c now _ (goes is_whole) (heard_ways c before orders before.host.commands frame.payload flight.since flight.cargo is_whole means ways)
              (device_goes laws.flying laws.same node orders before now mesh place frame.node device (Hears frame.payload drawn) (option_map backwards route) h.has
              (heard_airs node orders before mesh.air flight.since flight.cargo is_whole airs) stood (sym named) (λ own. here) (λ own. heard) (λ apart. absurd (apart mine))
              (subst (λ (b : HostBook). AllMake node orders b.commands mesh.devices) (sym same) h.made)
              (λ own. subst (λ (b : HostBook). Makes orders b.commands (device_after device (Hears frame.payload drawn))) (sym same) made))
          as_heard (inr (segment, unheard)) =
              mesh_then node orders c before _ still ways
              (device_goes laws.flying laws.same node orders before before mesh place frame.node device (Hears frame.payload drawn) (option_map backwards route) h.has airs stood (sym named)
              (λ own. here) (λ own. unheard) (λ apart. h.has.at) h.made (λ own. made))
      by false e other =
          let apart : device.node ≢ node = λ mine. let bad : (frame.node == node) ≡ false = e in let same : frame.node ≡ node = sym named ∙ mine in grind (arith, bad, same) in
          mesh_then node orders c before _ still ways
          (device_goes laws.flying laws.same node orders before before mesh place frame.node device (Hears frame.payload drawn) (option_map backwards route) h.has airs stood (sym named)
          (λ own. absurd (apart own)) (λ own. absurd (apart own)) (λ apart. h.has.at) h.made (λ own. absurd (apart own)))

  -- ---- by the chip

  chip_hears : (c before : Course) (mesh : Mesh) (frame : Flown) (flight : Flight Cargo) → Goes c (hears before flight.since flight.cargo false) → Goes c before → KeepsWays c before → Airs node orders before mesh.air → Stands node orders before mesh.devices
      → BearsBy Homeward (frame.node == node) orders before.host.commands frame flight → MeshGoes node orders c mesh ((frame.node, frame.payload) ∷ [])
  chip_hears c before mesh frame flight goes still ways airs h bears = by (frame.node == node) refl bears
    where
      plainly : NodeMeans frame.payload Of_node → MeshGoes node orders c mesh ((frame.node, frame.payload) ∷ [])
      plainly means = record {
        later = before;
        goes = still;
        in_mesh = record { log = airs.log; flights = airs.flights; on_air = airs.on_air; device = h.has; made = h.made };
        marks = None ∷ [];
        brings = (λ own. means, tt);
        adds = record { host = ways.host; sent = ways.sent; up = ways.up; down = ways.down ∙ sym (append-nil c.down); told = ways.told };
      }

      of_other : (frame.node == node) ≡ false → MeshGoes node orders c mesh ((frame.node, frame.payload) ∷ [])
      of_other e = record {
        later = before;
        goes = still;
        in_mesh = record { log = airs.log; flights = airs.flights; on_air = airs.on_air; device = h.has; made = h.made };
        marks = None ∷ [];
        brings = (λ own. absurd (grind (arith, e, own)), tt);
        adds = record { host = ways.host; sent = ways.sent; up = ways.up; down = ways.down ∙ sym (append-nil c.down); told = ways.told };
      }

      own : (cargo : Cargo) → flight.cargo ≡ cargo → NodeMeans frame.payload cargo → MeshGoes node orders c mesh ((frame.node, frame.payload) ∷ [])
      own (Command message) is means = absurd means
      own Of_host is means = absurd means
      own Of_node is means = plainly means
      own (Answer session status) is means =
          let report : Report = record { session = session; status = status; begun = flight.since } in
          let now : Course = record before { down = before.down ++ report ∷ [] } in
          let there : hears before flight.since flight.cargo false ≡ now = ap (λ (cargo : Cargo). hears before flight.since cargo false) is in
          record {
            later = now;
            goes = subst (λ (x : Course). Goes c x) there goes;
            in_mesh = record {
              log = airs.log;
              flights = airs.flights;
              on_air = record { fly = airs.on_air.fly; flying = airs.on_air.flying; flown = airs.on_air.flown; begun = airs.on_air.begun };
              device = record {
                device = h.has.device;
                place = h.has.place;
                first = h.has.first;
                stands = h.has.stands;
                at = record { sessions = h.has.at.sessions; kept = h.has.at.kept; ended = h.has.at.ended; can = h.has.at.can; is_open = h.has.at.is_open };
                others = h.has.others;
                nodes = h.has.nodes;
              };
              made = h.made;
            };
            marks = Some report ∷ [];
            brings = (λ mine. means, tt);
            adds = record { host = ways.host; sent = ways.sent; up = ways.up; down = ap (λ (ds : List Report). ds ++ report ∷ []) ways.down; told = ways.told };
          }

      by : (b : Bool) → (frame.node == node) ≡ b → BearsBy Homeward b orders before.host.commands frame flight → MeshGoes node orders c mesh ((frame.node, frame.payload) ∷ [])
      by true e (since, means) = own flight.cargo refl means
      by false e other = of_other e

  -- nobody hears it
  unheard : (c before : Course) (mesh : Mesh) → Goes c before → KeepsWays c before → Airs node orders before mesh.air → Stands node orders before mesh.devices → MeshGoes node orders c mesh []
  unheard c before mesh still ways airs h = record {
    later = before;
    goes = still;
    in_mesh = record { log = airs.log; flights = airs.flights; on_air = airs.on_air; device = h.has; made = h.made };
    marks = [];
    brings = tt;
    adds = record { host = ways.host; sent = ways.sent; up = ways.up; down = ways.down ∙ sym (append-nil c.down); told = ways.told };
  }

  -- ---- the next frame arrives

  module _ (c : Course) (mesh : Mesh) (frame : Flown) (later : List Flown) (log : List Mark) (on_air : OnAir node orders c.host c.air c.old log (frame ∷ later) mesh.air.frames) (h : Stands node orders c mesh.devices) (course : CourseFacts c)
      (drawn : List ℕ) (route : Option Route) where
    abbrev pub arriving_lands : Lands node orders c.host c.air c.old log frame later (landing mesh.air.frames)
    arriving_lands = laws.lands node orders c.host c.air c.old log frame later mesh.air.frames on_air

    -- without the frame
    abbrev before : Course
    before = record c { air = arriving_lands.flights }

    heard : (is_whole : Bool) → Goes c (hears before arriving_lands.flight.since arriving_lands.flight.cargo is_whole)
    heard is_whole = subst (λ (flights : List (Flight Cargo)). Goes c (lands c flights true is_whole)) arriving_lands.first (goes_once c (lands_step true is_whole) tt)

    missed : Goes c before
    missed = subst (λ (flights : List (Flight Cargo)). Goes c (lands c flights false false)) arriving_lands.first (goes_once c (lands_step false false) tt)

    ways : KeepsWays c before
    ways = record { host = refl; sent = refl; up = refl; down = refl; told = refl }

    there : (air : AirState) → air.frames ≡ landing mesh.air.frames → Airs node orders before air
    there air is = record { log = log; flights = later; on_air = subst (λ (fs : FramesState). OnAir node orders c.host arriving_lands.flights c.old log later fs) (sym is) arriving_lands.on_air }

    device : Stands node orders before mesh.devices
    device = record { has = device_moves node c before mesh.devices (record { host = refl; device = refl; kept = refl; ends = refl; sent = refl; up = refl; down = refl; told = refl }) h.has; made = h.made }

    pub arriving_named : (cargo : Cargo) → arriving_lands.flight.cargo ≡ cargo → Names c.device cargo
    arriving_named (Command message) is =
        let heard : CourseFacts (hears before arriving_lands.flight.since arriving_lands.flight.cargo false) = subst (λ (flights : List (Flight Cargo)). CourseFacts (lands c flights true false)) arriving_lands.first (laws.facts c (lands_step true false) course tt) in (
          laws.landing_names c message arriving_lands.flight.since arriving_lands.flights course (arriving_lands.first ∙ ap (λ (cargo : Cargo). record { cargo = cargo; since = arriving_lands.flight.since } ∷ arriving_lands.flights) is),
          next_named laws before message arriving_lands.flight.since (subst (λ (cargo : Cargo). CourseFacts (hears before arriving_lands.flight.since cargo false)) is heard),
        )
    arriving_named Of_host is = tt
    arriving_named (Answer session status) is = tt
    arriving_named Of_node is = tt

    lost_by : (event : AirEvent) (status : ℕ) (dead : Option (ℕ × ℕ)) (number : ℕ) → brought_by event ≡ [] → MeshGoes node orders c (record mesh { air = landed mesh.air }) (brought (event ∷ done_of frame.heading number status dead))
    lost_by event status dead number none =
        subst (λ g. MeshGoes node orders c (record mesh { air = landed mesh.air }) g) (sym (brought-append (event ∷ []) (done_of frame.heading number status dead) ∙ (ap (λ g. (g ++ []) ++ brought (done_of frame.heading number status dead)) none ∙ done_brings frame.heading number status dead)))
        (unheard c before (record mesh { air = landed mesh.air }) missed ways (there (landed mesh.air) refl) device)

    at_device : (number place : ℕ) (found : Option State) → slice_get mesh.devices place ≡ found → fate_of mesh.air.network mesh.devices frame ≡ fate.AtDevice place
        → MeshGoes node orders c (heard_at (record mesh { air = landed (acknowledged mesh.air) }) place found frame.node route (Hears frame.payload drawn))
        (brought (outs_at (record mesh { air = landed (acknowledged mesh.air) }) found number frame.node route (Hears frame.payload drawn) ++ Done number (status_of mesh.air) None ∷ []))
    at_device number place None stood is = unheard c before (record mesh { air = landed (acknowledged mesh.air) }) missed ways (there (landed (acknowledged mesh.air)) refl) device
    at_device number place (Some one) stood is =
        let now : Mesh = record mesh { air = landed (acknowledged mesh.air) } in
        let outward : frame.heading ≡ Outward = out_by frame.lost (dead_hop_of mesh.air.network frame) frame.heading (listener_of frame.node mesh.devices) place is in
        let listens : listener_of frame.node mesh.devices ≡ Some place = fate_listens frame.lost (dead_hop_of mesh.air.network frame) frame.heading (listener_of frame.node mesh.devices) place is in
        let nothing : brought (outs_hearing now.air number frame.node route one (Hears frame.payload drawn) ++ Done number (status_of mesh.air) None ∷ []) ≡ [] =
        brought-append (outs_hearing now.air number frame.node route one (Hears frame.payload drawn)) (Done number (status_of mesh.air) None ∷ [])
        ∙ ap (λ g. g ++ []) (hearing_brings now.air number frame.node route one (Hears frame.payload drawn)) in
        subst (λ g. MeshGoes node orders c (heard_at now place (Some one) frame.node route (Hears frame.payload drawn)) g) (sym nothing)
        (device_hears c before now frame arriving_lands.flight place one drawn route heard missed ways (there (landed (acknowledged mesh.air)) refl) device
        (subst (λ (heading : Heading). BearsBy heading (frame.node == node) orders c.host.commands frame arriving_lands.flight) outward arriving_lands.bears) listens stood (arriving_named arriving_lands.flight.cargo refl))

    by_fate : (number : ℕ) (x : Fate) → fate_of mesh.air.network mesh.devices frame ≡ x → MeshGoes node orders c (arriving_as mesh frame x drawn route) (brought (arrival_outs_as mesh number frame x drawn route))
    by_fate number fate.Lost is = lost_by (Lost number) 1 None number refl
    by_fate number (fate.Dead from to) is = lost_by (Unheard number) 1 (Some (from, to)) number refl
    by_fate number fate.Missed is = lost_by (Unheard number) 1 None number refl
    by_fate number fate.AtChip is =
        let home : frame.heading ≡ Homeward = home_by frame.lost (dead_hop_of mesh.air.network frame) frame.heading (listener_of frame.node mesh.devices) is in
        chip_hears c before (record mesh { air = landed mesh.air }) frame arriving_lands.flight (heard false) missed ways (there (landed mesh.air) refl) device
        (subst (λ (heading : Heading). BearsBy heading (frame.node == node) orders c.host.commands frame arriving_lands.flight) home arriving_lands.bears)
    by_fate number (fate.AtDevice place) is = at_device number place (slice_get mesh.devices place) refl is

  arrives_by : (c : Course) (mesh : Mesh) (drawn : List ℕ) (route : Option Route) (log : List Mark) (flights : List Flown) → OnAir node orders c.host c.air c.old log flights mesh.air.frames → Stands node orders c mesh.devices → CourseFacts c
      → MayHappen mesh (Arrives drawn route) → MeshGoes node orders c (mesh_after mesh (Arrives drawn route)) (brought (mesh_outs mesh (Arrives drawn route)))
  unfolding MayHappen mesh_after mesh_outs
  arrives_by c mesh drawn route log [] on_air h course may = absurd (rw (laws.none log mesh.air.frames on_air.fly) at may.0)
  arrives_by c mesh drawn route log (frame ∷ later) on_air h course may =
      rw (laws.next log frame later mesh.air.frames on_air.fly) (by_fate c mesh frame later log on_air h course drawn route (mesh.air.frames.landed + 1) (fate_of mesh.air.network mesh.devices frame) refl)

  pub arrives_go : (c : Course) (mesh : Mesh) (drawn : List ℕ) (route : Option Route) → node < 233 → CourseFacts c → InMesh node orders c mesh → MayHappen mesh (Arrives drawn route)
      → MeshGoes node orders c (mesh_after mesh (Arrives drawn route)) (brought (mesh_outs mesh (Arrives drawn route)))
  arrives_go c mesh drawn route within course is may = arrives_by c mesh drawn route is.log is.flights is.on_air (stands_of node orders c mesh is) course may

  -- ---- a frame is heard again

  module _ (c : Course) (mesh : Mesh) (number : ℕ) (frame : Flown) (course : CourseFacts c) (is : InMesh node orders c mesh) (was : WasThere node orders c.host c.old frame) (drawn : List ℕ) (route : Option Route) where
    may_repeat : MayRepeat c (slice_get c.old was.at)
    may_repeat = subst (λ (found : Option (Flight Cargo)). MayRepeat c found) (sym was.found) was.fresh

    again : (is_whole : Bool) → Goes c (hears c was.flight.since was.flight.cargo is_whole)
    again is_whole = subst (λ (found : Option (Flight Cargo)). Goes c (repeats c found is_whole)) was.found (goes_once c (repeats_step was.at is_whole) may_repeat)

    pub named_again : (cargo : Cargo) → was.flight.cargo ≡ cargo → Names c.device cargo
    named_again (Command message) is =
        let heard : CourseFacts (hears c was.flight.since was.flight.cargo false) = subst (λ (found : Option (Flight Cargo)). CourseFacts (repeats c found false)) was.found (laws.facts c (repeats_step was.at false) course may_repeat) in (
          laws.repeated_names c message was.flight.since was.at course (was.found ∙ ap (λ (cargo : Cargo). Some (record { cargo = cargo; since = was.flight.since })) is)
              (subst (λ (cargo : Cargo). IsFreshCargo (begun_of c.host) was.flight.since cargo) is was.fresh),
          next_named laws c message was.flight.since (subst (λ (cargo : Cargo). CourseFacts (hears c was.flight.since cargo false)) is heard),
        )
    named_again Of_host is = tt
    named_again (Answer session status) is = tt
    named_again Of_node is = tt

    device_again : (place : ℕ) (found : Option State) → slice_get mesh.devices place ≡ found → listener_of frame.node mesh.devices ≡ Some place → frame.heading ≡ Outward
        → MeshGoes node orders c (heard_at mesh place found frame.node route (Hears frame.payload drawn)) (brought (outs_at mesh found number frame.node route (Hears frame.payload drawn)))
    device_again place None stood listens outward = unheard c c mesh (goes_nowhere c) (ways_stay c) (airs_of node orders c mesh is) (stands_of node orders c mesh is)
    device_again place (Some one) stood listens outward =
        subst (λ g. MeshGoes node orders c (heard_at mesh place (Some one) frame.node route (Hears frame.payload drawn)) g) (sym (hearing_brings mesh.air number frame.node route one (Hears frame.payload drawn)))
        (device_hears c c mesh frame was.flight place one drawn route again (goes_nowhere c) (ways_stay c) (airs_of node orders c mesh is) (stands_of node orders c mesh is)
        (subst (λ (heading : Heading). BearsBy heading (frame.node == node) orders c.host.commands frame was.flight) outward was.bears) listens stood (named_again was.flight.cargo refl))

    listener_again : (listener : Option ℕ) → listener_of frame.node mesh.devices ≡ listener → frame.heading ≡ Outward
        → MeshGoes node orders c (heard_again mesh listener frame.node route (Hears frame.payload drawn)) (brought (outs_again mesh listener number frame.node route (Hears frame.payload drawn)))
    listener_again None listens outward = unheard c c mesh (goes_nowhere c) (ways_stay c) (airs_of node orders c mesh is) (stands_of node orders c mesh is)
    listener_again (Some place) listens outward = device_again place (slice_get mesh.devices place) refl listens outward

    again_by : (heading : Heading) → frame.heading ≡ heading → MeshGoes node orders c (repeating_by heading mesh frame drawn route) (brought (repeat_outs_by heading mesh number frame drawn route))
    again_by Outward e = listener_again (listener_of frame.node mesh.devices) refl e
    again_by Homeward e =
        chip_hears c c mesh frame was.flight (again false) (goes_nowhere c) (ways_stay c) (airs_of node orders c mesh is) (stands_of node orders c mesh is)
        (subst (λ (heading : Heading). BearsBy heading (frame.node == node) orders c.host.commands frame was.flight) e was.bears)

  repeats_by : (c : Course) (mesh : Mesh) (number : ℕ) (drawn : List ℕ) (route : Option Route) (found : Option Flown) → remembered mesh.air.frames number ≡ found → node < 233 → CourseFacts c → InMesh node orders c mesh → refusal_of mesh.air.frames number ≡ None
      → MeshGoes node orders c (repeating mesh found drawn route) (brought (repeat_outs mesh number found drawn route))
  repeats_by c mesh number drawn route None e within course is fresh = unheard c c mesh (goes_nowhere c) (ways_stay c) (airs_of node orders c mesh is) (stands_of node orders c mesh is)
  repeats_by c mesh number drawn route (Some frame) e within course is fresh =
      again_by c mesh number frame course is (laws.repeated node orders c.host c.air c.old is.log is.flights mesh.air.frames number frame within is.on_air fresh e) drawn route frame.heading refl

  pub repeats_go : (c : Course) (mesh : Mesh) (number : ℕ) (drawn : List ℕ) (route : Option Route) → node < 233 → CourseFacts c → InMesh node orders c mesh → refusal_of mesh.air.frames number ≡ None → MayHappen mesh (Repeats number drawn route)
      → MeshGoes node orders c (mesh_after mesh (Repeats number drawn route)) (brought (mesh_outs mesh (Repeats number drawn route)))
  unfolding mesh_after mesh_outs
  repeats_go c mesh number drawn route within course is fresh may = repeats_by c mesh number drawn route (remembered mesh.air.frames number) refl within course is fresh
