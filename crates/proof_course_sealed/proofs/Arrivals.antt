-- Frames arrive, or are heard again, in the courses of a lock.
use Rattle.std.proofs.Common.{◌≡◌, ◌≢◌, ℕ, zero, suc, ◌+◌, ◌<◌, ◌==◌, Bool, true, false, Option, Some, None, List, [], ◌∷◌, ◌++◌, length, map, refl, ap, sym, ◌∙◌, subst, append-nil, arith}
use Rattle.std.specs.Prelude.{slice_get, slice_set}
use Rattle.std.specs.Option.{option_map}
use Rattle.std.proofs.lemmas.Bool.{eqb-true}
use Rattle.supervision.specs.Host.{begun_of}
use Rattle.supervision.specs.Ends.{Report}
use Rattle.proof_course.specs.Flying.{Flight}
use Rattle.proof_course.specs.SessionFacts.{CourseFacts}
use Rattle.proof_course.specs.SessionLaws.{NamesOne}
use Rattle.proof_course.specs.Sessions.{Course, Message, IsFresh, IsFreshCargo, Cargo as SessionCargo, Command, Lands as lands_step, Repeats as repeats_step, hears as sessions_hears, lands as sessions_land, repeats as sessions_repeat, MayRepeat}
use Rattle.proof_course.specs.NodeNonces as node_nonces
use Rattle.proof_course.specs.NodeNonceFacts.{NonceFacts as NodeFacts}
use Rattle.proof_course.specs.HostNonces as host_nonces
use Rattle.proof_course.specs.HostNonceFacts.{NonceFacts as HostFacts}
use Rattle.proof_course.specs.NonceLaws.{NamesLive, TakesOffer}
use Rattle.route_table.specs.declared.route.Route.{Route}
use Rattle.air_frames.specs.declared.frame.Heading.{Heading}
use Rattle.air_frames.specs.declared.frame.Heading.TheVariants.{Outward, Homeward}
use Rattle.air_frames.specs.Flown.{Flown}
use Rattle.air_frames.specs.Frames.{FramesState, landing, next_of, remembered}
use Rattle.air_frames.specs.Ages.{refusal_of}
use Rattle.air_frames.specs.History.{Mark}
use Rattle.proof_course_plain.specs.Flights.{Fly as FlyInOrder}
use Rattle.device_sim.specs.State.{State}
use Rattle.device_sim.specs.Event.{DeviceEvent, Hears as hears_event, Ticks, device_after, device_replies}
use Rattle.mesh_sim.specs.declared.event.AirEvent.{AirEvent}
use Rattle.mesh_sim.specs.declared.event.AirEvent.TheVariants.{Lost, Unheard, Done}
use Rattle.mesh_sim.specs.declared.fate.Fate.{Fate}
use Rattle.mesh_sim.specs.declared.fate.Fate.TheVariants as fate
use Rattle.mesh_sim.specs.Routes.{backwards}
use Rattle.mesh_sim.specs.Air.{AirState, is_joined}
use Rattle.mesh_sim.specs.Fates.{Mesh, place_of, listener_of, fate_of, dead_hop_of}
use Rattle.mesh_sim.specs.Steps.{Arrives, Repeats, landed as air_landed, acknowledged, status_of, done_of, answered_if, outs_hearing, heard_at, outs_at, arriving_as, arrival_outs_as, heard_again, outs_again, repeating_by, repeating, repeat_outs_by, repeat_outs, mesh_after, mesh_outs, MayHappen}
use Rattle.proof_course_plain.specs.proof_device.GoingOn.{IsSame}
use Rattle.proof_course_plain.proofs.ChangesOutside.{place_is, listener_is, fate_listens}
use Rattle.proof_course_plain.specs.Meaning.{Asked}
use Rattle.proof_course_plain.specs.Making.{Makes, Names, HearsNone}
use Rattle.proof_course_plain.specs.Device.{IsIdle}
use Rattle.proof_course_plain.specs.Judged.{Judges}
use Rattle.proof_course_plain.specs.Mesh.{brought_by, brought}
use Rattle.proof_course_plain.proofs.MadeSettings.{all_make_set}
use Rattle.proof_course_plain.proofs.Idle.{idle_makes}
use Rattle.proof_course_plain.proofs.Replies.{one_place, one_stands, stands_elsewhere, silence}
use Rattle.proof_course_plain.specs.Ways.{Goes}
use Rattle.proof_course_plain.proofs.ThinnedWays.{goes_once}
use Rattle.proof_course_plain.proofs.Arrivals.{brought-append, hearing_brings, done_brings, home_by, out_by}
use Rattle.proof_course_sealed.specs.Labels.{Held, Sealed, Offer, Reports, Shows, Up, Of_host, Down, Of_node, Late, as_session, as_node, as_host}
use Rattle.proof_course_sealed.specs.Courses.{Courses, CoursesFacts, CoursesGo, NodeGoes, HostGoes, SameBooks, SameUp, AddsDown, of_sessions, of_node, of_host}
use Rattle.proof_course_sealed.specs.Meaning.{Past, HostMeans, NodeMeans}
use Rattle.proof_course_sealed.specs.Lock.{AtLock}
use Rattle.proof_course_sealed.specs.Device.{heard_by, HearsAs, NamesNonce, with_more}
use Rattle.proof_course_sealed.specs.Air.{MeansBy, OnAir, SameAir, landed, Lands, IsRecentBy, WasThere}
use Rattle.proof_course_sealed.specs.Mesh.{HasLock, InMesh, MeshGoes}
use Rattle.proof_course_sealed.proofs.CourseSteps.{goes_nowhere, goes_on, grows_none, gives_none, gives_grow}
use Rattle.proof_course_sealed.proofs.ThinnedWays.{node_nowhere, node_step, host_nowhere, host_step}
use Rattle.proof_course_sealed.proofs.Elsewhere.{SameLock, lock_stays, has_stays}
use Rattle.proof_course_sealed.proofs.Replies.{SameWays, ways_same, ways_then, nothing_down, own_set, other_set, Airing, Airs, airs_stay, joined_stays, Sent, others_say_if, means_of_host, Hears, Answered, answers_by}

-- the laws that are used
pub record Laws : Type 0 where
  pub airing : Airing
  pub same : (device : State) (event : DeviceEvent) → IsSame device (device_after device event)
  pub hears : (past : Past) (node : ℕ) (c : Courses) (device : State) (since : ℕ) (held : Held) (joined : Bool) (payload drawn : List ℕ) → AtLock past c device → NodeFacts c.node → device.node ≡ node → length drawn ≡ 8
      → HostMeans past node payload held → Names c.sessions.device (as_session held) → NamesNonce c held → (joined ≡ false → c.node.given ≡ 0) → HearsAs past node c device since held joined (hears_event payload drawn)
  pub makes : (past : Past) (node : ℕ) (c : Courses) (device : State) (held : Held) (payload drawn : List ℕ) → AtLock past c device → device.node ≡ node → HostMeans past node payload held → Names c.sessions.device (as_session held)
      → NamesNonce c held → Makes past.orders past.commands device → Makes past.orders past.commands (device_after device (hears_event payload drawn))
  pub judges : (past : Past) (node : ℕ) (c : Courses) (device : State) (held : Held) (payload drawn : List ℕ) → AtLock past c device → device.node ≡ node → HostMeans past node payload held → Names c.sessions.device (as_session held)
      → NamesNonce c held → Judges past.orders past.commands device (device_after device (hears_event payload drawn))
  pub other : (past : Past) (c : Courses) (device : State) (event : DeviceEvent) → AtLock past c device → HearsNone event → AtLock past c (device_after device event) × (device_replies device event ≡ [])
  pub keeps : (orders : List Asked) (commands : List ℕ) (device : State) (event : DeviceEvent) → HearsNone event → Makes orders commands device → Makes orders commands (device_after device event)
  pub idle : (device : State) (drawn : List ℕ) → IsIdle device → IsIdle (device_after device (Ticks drawn)) × (device_replies device (Ticks drawn) ≡ [])
  pub landing_names : (c : Course) (message : Message) (begun : ℕ) (later : List (Flight SessionCargo)) → CourseFacts c → c.air ≡ record { cargo = Command message; since = begun } ∷ later → NamesOne c.device message
  pub repeated_names : (c : Course) (message : Message) (begun at : ℕ) → CourseFacts c → slice_get c.old at ≡ Some (record { cargo = Command message; since = begun }) → IsFresh (begun_of c.host) begun message.is_segment
      → NamesOne c.device message
  pub node_landing : (c : node_nonces.Nonces) (number since : ℕ) (later : List (Flight node_nonces.Cargo)) → NodeFacts c → c.air ≡ record { cargo = node_nonces.Sealed number; since = since } ∷ later → NamesLive c number
  pub node_repeated : (c : node_nonces.Nonces) (number since at : ℕ) → NodeFacts c → slice_get c.old at ≡ Some (record { cargo = node_nonces.Sealed number; since = since }) → c.given < since + 120 → NamesLive c number
  pub host_landing : (c : host_nonces.Nonces) (number since : ℕ) (later : List (Flight host_nonces.Cargo)) → HostFacts c → c.air ≡ record { cargo = host_nonces.Offer number; since = since } ∷ later → TakesOffer c number
  pub host_repeated : (c : host_nonces.Nonces) (number since at : ℕ) → HostFacts c → slice_get c.old at ≡ Some (record { cargo = host_nonces.Offer number; since = since }) → c.shown < since + 120 → TakesOffer c number
  pub node_facts : (c : node_nonces.Nonces) (step : node_nonces.Step) → NodeFacts c → node_nonces.May c step → NodeFacts (node_nonces.after c step)
  pub next : (log : List Mark) (flight : Flown) (later : List Flown) (frames : FramesState) → FlyInOrder log (flight ∷ later) frames → next_of frames ≡ Some flight
  pub none : (log : List Mark) (frames : FramesState) → FlyInOrder log [] frames → next_of frames ≡ None
  pub lands : (past : Past) (node : ℕ) (c : Courses) (log : List Mark) (frame : Flown) (later : List Flown) (frames : FramesState) → OnAir past node c log (frame ∷ later) frames → Lands past node c log frame later (landing frames)
  pub repeated : (past : Past) (node : ℕ) (c : Courses) (log : List Mark) (flights : List Flown) (frames : FramesState) (number : ℕ) (frame : Flown) → node < 233 → OnAir past node c log flights frames → refusal_of frames number ≡ None
      → remembered frames number ≡ Some frame → WasThere past node c frame

airs_of : (past : Past) (node : ℕ) (c : Courses) (mesh : Mesh) → InMesh past node c mesh → Airs past node c mesh.air
airs_of past node c mesh is = record { log = is.log; flights = is.flights; on_air = is.on_air }

-- a lock that has not joined gave no nonce
unjoined : (given : ℕ) (joined : Bool) → (0 < given → joined ≡ true) → joined ≡ false → given ≡ 0
unjoined zero joined some e = refl
unjoined (suc before) joined some e = absurd (let on = some (omega arith) in grind (arith, e, on))

module _ (laws : Laws) (past : Past) (node : ℕ) where
  -- ---- by nobody

  unheard : (c before : Courses) (mesh : Mesh) → CoursesGo c before → SameWays c before → InMesh past node before mesh → MeshGoes past node c mesh []
  unheard c before mesh goes ways is = record {
    later_past = past;
    later = before;
    gives = gives_none past;
    goes = goes;
    in_mesh = is;
    marks = [];
    brings = tt;
    books = ways.books;
    up = ways.up;
    down = nothing_down c before ways;
  }

  -- ---- by a device

  -- a device of another node hears something, or has an event of its own
  other_goes : (c before : Courses) (mesh : Mesh) (place : ℕ) (device : State) (event : DeviceEvent) (way : Option Route) → CoursesGo c before → SameWays c before → InMesh past node before mesh → slice_get mesh.devices place ≡ Some device
      → device.node ≢ node → MeshGoes past node c (record { air = answered_if (is_joined mesh.air device.node) mesh.air device.node way (device_replies device event); devices = slice_set mesh.devices place (device_after device event) }) []
  other_goes c before mesh place device event way goes ways is stood apart =
      let of_other : (device.node == node) ≡ false = grind (arith, apart) in
      let s : Sent past node before (answered_if (is_joined mesh.air device.node) mesh.air device.node way (device_replies device event)) =
      others_say_if laws.airing (is_joined mesh.air device.node) past node before mesh.air device.node way (device_replies device event) of_other (is.device.nodes place device stood) (airs_of past node before mesh is) in
      record {
        later_past = past;
        later = s.later;
        gives = gives_none past;
        goes = goes_on c before s.later goes s.goes;
        in_mesh = record {
          log = s.airs.log;
          flights = s.airs.flights;
          on_air = s.airs.on_air;
          device = has_stays past past node before s.later (slice_set mesh.devices place (device_after device event)) refl refl s.lock
              (other_set past node before mesh.devices place device (device_after device event) is.device stood
              (stands_elsewhere node mesh.devices place is.device.place device is.device.device stood apart is.device.first is.device.stands) (λ mine. absurd (apart mine)) (laws.same device event).node);
          made = all_make_set node past.orders past.commands mesh.devices place device (device_after device event) stood (laws.same device event).node (λ mine. absurd (apart mine)) is.made;
          joined = λ some. joined_stays (is_joined mesh.air device.node) mesh.air device.node way (device_replies device event) node ∙ is.joined (subst (λ (n : ℕ). 0 < n) s.lock.given some);
        };
        marks = [];
        brings = tt;
        books = (ways_then c before s.later ways s.ways).books;
        up = (ways_then c before s.later ways s.ways).up;
        down = nothing_down c s.later (ways_then c before s.later ways s.ways);
      }

  -- the lock of the node hears a payload of the host
  lock_hears : (c before : Courses) (mesh : Mesh) (since : ℕ) (held : Held) (place : ℕ) (device : State) (payload drawn : List ℕ) (way : Option Route) → node < 233 → length drawn ≡ 8 → Hears c before since held → SameWays c before
      → InMesh past node before mesh → NodeFacts before.node → slice_get mesh.devices place ≡ Some device → place_of node mesh.devices ≡ Some place → device.node ≡ node → HostMeans past node payload held → Names before.sessions.device (as_session held) → NamesNonce before held
      → MeshGoes past node c (record { air = answered_if (is_joined mesh.air node) mesh.air node way (device_replies device (hears_event payload drawn)); devices = slice_set mesh.devices place (device_after device (hears_event payload drawn)) }) []
  lock_hears c before mesh since held place device payload drawn way within eight hears ways is facts stood first mine means names nonces = by (is_joined mesh.air node) refl
    where
      event : DeviceEvent
      event = hears_event payload drawn

      here : place ≡ is.device.place
      here = one_place node mesh.devices place is.device.place first is.device.first

      one : device ≡ is.device.device
      one = one_stands mesh.devices place is.device.place device is.device.device stood is.device.stands here

      at : AtLock past before device
      at = subst (λ (d : State). AtLock past before d) (sym one) is.device.at

      by : (joined : Bool) → is_joined mesh.air node ≡ joined → MeshGoes past node c (record { air = answered_if joined mesh.air node way (device_replies device event); devices = slice_set mesh.devices place (device_after device event) }) []
      by joined e =
          let silent : joined ≡ false → before.node.given ≡ 0 = unjoined before.node.given joined (λ some. sym e ∙ is.joined some) in
          let g : HearsAs past node before device since held joined event = laws.hears past node before device since held joined payload drawn at facts mine eight means names nonces silent in
          let later_past : Past = with_more past g.more in
          let heard : Courses = heard_by before since held joined g.hearing in
          let a : Answered later_past node c before heard joined (answered_if joined mesh.air node way (device_replies device event)) =
          answers_by laws.airing past later_past node c before since held hears (means_of_host past node payload held means) g.hearing.message g.hearing.nonce g.hearing.final g.may (gives_grow past g.more) within mesh.air way
          (device_replies device event) joined g.hearing.reply g.says (airs_of past node before mesh is) in
          record {
            later_past = later_past;
            later = a.later;
            gives = record { more = g.more; is = refl };
            goes = a.goes;
            in_mesh = record {
              log = a.airs.log;
              flights = a.airs.flights;
              on_air = a.airs.on_air;
              device = subst (λ (k : ℕ). HasLock later_past node a.later (slice_set mesh.devices k (device_after device event))) (sym here)
                  (own_set past later_past node before a.later mesh.devices (device_after device event) is.device ((laws.same device event).node ∙ ap (λ (d : State). d.node) one)
                  (lock_stays later_past later_past heard a.later (device_after device event) refl refl a.lock g.at));
              made = all_make_set node past.orders past.commands mesh.devices place device (device_after device event) stood (laws.same device event).node
                  (λ own. laws.makes past node before device held payload drawn at mine means names nonces (is.made place device stood mine)) is.made;
              joined = joined_then joined e a.later.node.given a.silent;
            };
            marks = [];
            brings = tt;
            books = (ways_then c before a.later ways a.ways).books;
            up = (ways_then c before a.later ways a.ways).up;
            down = nothing_down c a.later (ways_then c before a.later ways a.ways);
          }
        where
          joined_then : (on : Bool) → is_joined mesh.air node ≡ on → (given : ℕ) → (on ≡ false → given ≡ before.node.given) → 0 < given → is_joined (answered_if on mesh.air node way (device_replies device event)) node ≡ true
          joined_then true is_on given same some = joined_stays true mesh.air node way (device_replies device event) node ∙ is_on
          joined_then false is_on given same some = is.joined (subst (λ (n : ℕ). 0 < n) (same refl) some)

  -- the frame that is heard is of the courses; they go from `c` to where it was heard, and `before` is what is there without it
  device_hears : (c before : Courses) (mesh : Mesh) (frame : Flown) (since : ℕ) (held : Held) (place : ℕ) (device : State) (drawn : List ℕ) (route : Option Route) → node < 233 → length drawn ≡ 8 → Hears c before since held → SameWays c before
      → InMesh past node before mesh → NodeFacts before.node → MeansBy Outward (frame.node == node) past node frame.payload held → listener_of frame.node mesh.devices ≡ Some place → slice_get mesh.devices place ≡ Some device
      → Names before.sessions.device (as_session held) → NamesNonce before held → MeshGoes past node c (heard_at mesh place (Some device) frame.node route (hears_event frame.payload drawn)) []
  device_hears c before mesh frame since held place device drawn route within eight hears ways is facts means listens stood names nonces = by (frame.node == node) refl means
    where
      event : DeviceEvent
      event = hears_event frame.payload drawn

      first : place_of frame.node mesh.devices ≡ Some place
      first = listener_is frame.node mesh.devices place listens

      named : device.node ≡ frame.node
      named = place_is frame.node mesh.devices place device first stood

      by : (b : Bool) → (frame.node == node) ≡ b → MeansBy Outward b past node frame.payload held → MeshGoes past node c (heard_at mesh place (Some device) frame.node route event) []
      by true e means =
          let own : frame.node ≡ node = eqb-true frame.node node e in
          subst (λ (of : ℕ). MeshGoes past node c (record { air = answered_if (is_joined mesh.air of) mesh.air of (option_map backwards route) (device_replies device event); devices = slice_set mesh.devices place (device_after device event) }) [])
          (sym own) (lock_hears c before mesh since held place device frame.payload drawn (option_map backwards route) within eight hears ways is facts stood
          (ap (λ (n : ℕ). place_of n mesh.devices) (sym own) ∙ first) (named ∙ own) means names nonces)
      by false e other =
          let apart : device.node ≢ node = λ mine. let bad : (frame.node == node) ≡ false = e in let same : frame.node ≡ node = sym named ∙ mine in grind (arith, bad, same) in
          subst (λ (of : ℕ). MeshGoes past node c (record { air = answered_if (is_joined mesh.air of) mesh.air of (option_map backwards route) (device_replies device event); devices = slice_set mesh.devices place (device_after device event) }) [])
          named (other_goes c before mesh place device event (option_map backwards route) hears.still ways is stood apart)

  -- the mesh where a device has an event of its own
  abbrev after_own : Mesh → ℕ → State → DeviceEvent → Option Route → Mesh
  after_own mesh place device event way =
      record { air = answered_if (is_joined mesh.air device.node) mesh.air device.node way (device_replies device event); devices = slice_set mesh.devices place (device_after device event) }

  -- nothing is said then, and the lock, its place and the other devices are as they must be
  silent_goes : (c : Courses) (mesh : Mesh) (place : ℕ) (device : State) (event : DeviceEvent) (way : Option Route) → InMesh past node c mesh → slice_get mesh.devices place ≡ Some device → device_replies device event ≡ []
      → HasLock past node c (slice_set mesh.devices place (device_after device event)) → (device.node ≡ node → Makes past.orders past.commands (device_after device event)) → MeshGoes past node c (after_own mesh place device event way) []
  silent_goes c mesh place device event way is stood none has makes =
      subst (λ (air : AirState). MeshGoes past node c (record { air = air; devices = slice_set mesh.devices place (device_after device event) }) [])
      (sym (silence (is_joined mesh.air device.node) mesh.air device.node way (device_replies device event) none))
      (unheard c c (record { air = mesh.air; devices = slice_set mesh.devices place (device_after device event) }) (goes_nowhere c) (ways_same c) (record {
        log = is.log;
        flights = is.flights;
        on_air = is.on_air;
        device = has;
        made = all_make_set node past.orders past.commands mesh.devices place device (device_after device event) stood (laws.same device event).node makes is.made;
        joined = is.joined;
      }))

  -- the lock has an event at which it hears nothing
  lock_goes : (c : Courses) (mesh : Mesh) (place : ℕ) (device : State) (event : DeviceEvent) (way : Option Route) (is : InMesh past node c mesh) → slice_get mesh.devices place ≡ Some device → HearsNone event → device.node ≡ node
      → place ≡ is.device.place → MeshGoes past node c (after_own mesh place device event way) []
  lock_goes c mesh place device event way is stood none mine here =
      let one : device ≡ is.device.device = one_stands mesh.devices place is.device.place device is.device.device stood is.device.stands here in
      let now = laws.other past c device event (subst (λ (d : State). AtLock past c d) (sym one) is.device.at) none in
      silent_goes c mesh place device event way is stood now.1
      (subst (λ (k : ℕ). HasLock past node c (slice_set mesh.devices k (device_after device event))) (sym here)
      (own_set past past node c c mesh.devices (device_after device event) is.device ((laws.same device event).node ∙ ap (λ (d : State). d.node) one) now.0))
      (λ own. laws.keeps past.orders past.commands device event none (is.made place device stood mine))

  -- the first device of a node has an event at which it hears nothing
  pub own_goes : (c : Courses) (mesh : Mesh) (place : ℕ) (device : State) (event : DeviceEvent) (way : Option Route) → InMesh past node c mesh → slice_get mesh.devices place ≡ Some device → place_of device.node mesh.devices ≡ Some place
      → HearsNone event → MeshGoes past node c (after_own mesh place device event way) []
  own_goes c mesh place device event way is stood first none = by (device.node == node) refl
    where
      by : (b : Bool) → (device.node == node) ≡ b → MeshGoes past node c (after_own mesh place device event way) []
      by false e = other_goes c c mesh place device event way (goes_nowhere c) (ways_same c) is stood (grind (arith, e))
      by true e =
          let mine : device.node ≡ node = eqb-true device.node node e in
          lock_goes c mesh place device event way is stood none mine (one_place node mesh.devices place is.device.place (ap (λ (n : ℕ). place_of n mesh.devices) (sym mine) ∙ first) is.device.first)

  -- a tick: of the lock, of a device of another node, or of an idle one of the node
  pub ticks_go : (c : Courses) (mesh : Mesh) (place : ℕ) (device : State) (drawn : List ℕ) (way : Option Route) → InMesh past node c mesh → slice_get mesh.devices place ≡ Some device
      → MeshGoes past node c (after_own mesh place device (Ticks drawn) way) []
  ticks_go c mesh place device drawn way is stood = by (device.node == node) (place == is.device.place) refl refl
    where
      by : (b here : Bool) → (device.node == node) ≡ b → (place == is.device.place) ≡ here → MeshGoes past node c (after_own mesh place device (Ticks drawn) way) []
      by false here own e = other_goes c c mesh place device (Ticks drawn) way (goes_nowhere c) (ways_same c) is stood (grind (arith, own))
      by true true own e = lock_goes c mesh place device (Ticks drawn) way is stood tt (eqb-true device.node node own) (eqb-true place is.device.place e)
      by true false own e =
          let away : place ≢ is.device.place = grind (arith, e) in
          let now = laws.idle device drawn (is.device.others place device stood (eqb-true device.node node own) away) in
          silent_goes c mesh place device (Ticks drawn) way is stood now.1
          (other_set past node c mesh.devices place device (device_after device (Ticks drawn)) is.device stood away (λ mine. now.0) (laws.same device (Ticks drawn)).node)
          (λ mine. idle_makes past.orders past.commands (device_after device (Ticks drawn)) now.0)

  -- ---- by the chip

  chip_hears : (c before : Courses) (mesh : Mesh) (frame : Flown) (since : ℕ) (held : Held) → Hears c before since held → SameWays c before → InMesh past node before mesh → MeansBy Homeward (frame.node == node) past node frame.payload held
      → MeshGoes past node c mesh ((frame.node, frame.payload) ∷ [])
  chip_hears c before mesh frame since held hears ways is means = by (frame.node == node) refl held hears means
    where
      -- the courses have nothing of it
      plainly : CoursesGo c before → (frame.node ≡ node → NodeMeans past node frame.payload Of_node) → MeshGoes past node c mesh ((frame.node, frame.payload) ∷ [])
      plainly goes says = record {
        later_past = past;
        later = before;
        gives = gives_none past;
        goes = goes;
        in_mesh = is;
        marks = None ∷ [];
        brings = (says, tt);
        books = ways.books;
        up = ways.up;
        down = nothing_down c before ways;
      }

      told : (now : Courses) (late : Late) → CoursesGo c now → SameAir before now → SameLock before now → SameBooks c now → SameUp c now → AddsDown c now (late ∷ []) → NodeMeans past node frame.payload (Down late.said)
          → MeshGoes past node c mesh ((frame.node, frame.payload) ∷ [])
      told now late goes air lock books up down says =
          let there : Airs past node now mesh.air = airs_stay laws.airing past past node before now mesh.air (grows_none past) air (airs_of past node before mesh is) in
          record {
            later_past = past;
            later = now;
            gives = gives_none past;
            goes = goes;
            in_mesh = record {
              log = there.log;
              flights = there.flights;
              on_air = there.on_air;
              device = has_stays past past node before now mesh.devices refl refl lock is.device;
              made = is.made;
              joined = λ some. is.joined (subst (λ (n : ℕ). 0 < n) lock.given some);
            };
            marks = Some late ∷ [];
            brings = (λ own. says, tt);
            books = books;
            up = up;
            down = down;
          }

      by : (b : Bool) → (frame.node == node) ≡ b → (held : Held) → Hears c before since held → MeansBy Homeward b past node frame.payload held → MeshGoes past node c mesh ((frame.node, frame.payload) ∷ [])
      by false e held hears other = plainly hears.still (λ own. absurd (grind (arith, e, own)))
      by true e (Up sent) hears means = absurd means
      by true e Of_host hears means = absurd means
      by true e Of_node hears means = plainly hears.still (λ own. means)
      by true e (Down (Reports session status number)) hears means =
          let report : Report = record { session = session; status = status; begun = since } in
          told (record { sessions = record before.sessions { down = before.sessions.down ++ report ∷ [] }; node = before.node; host = record before.host { down = before.host.down ++ number ∷ [] } })
          (record { said = Reports session status number; begun = since }) (record { sessions = hears.message; node = hears.sealed; host = hears.nonce true })
          (record { sessions = (refl, refl); node = (refl, refl); host = (refl, refl); begun = refl; given = refl; shown = refl })
          (record { device = refl; kept = refl; ends = refl; given = refl; is_live = refl; seen = refl; waits = refl })
          (record { host = ways.books.host; told = ways.books.told; seen = ways.books.seen; waits = ways.books.waits; given = ways.books.given; is_live = ways.books.is_live })
          (record { messages = ways.up.messages; sealed = ways.up.sealed; offers = ways.up.offers }) (record {
            reports = ap (λ (ds : List Report). ds ++ report ∷ []) ways.reports;
            nonces = ways.nonces ∙ sym (append-nil c.node.down);
            answers = ap (λ (ds : List ℕ). ds ++ number ∷ []) ways.answers;
          }) means
      by true e (Down (Shows number)) hears means =
          told (record { sessions = before.sessions; node = record before.node { down = before.node.down ++ number ∷ [] }; host = before.host })
          (record { said = Shows number; begun = since }) (record { sessions = hears.message; node = hears.sealed; host = hears.nonce true })
          (record { sessions = (refl, refl); node = (refl, refl); host = (refl, refl); begun = refl; given = refl; shown = refl })
          (record { device = refl; kept = refl; ends = refl; given = refl; is_live = refl; seen = refl; waits = refl })
          (record { host = ways.books.host; told = ways.books.told; seen = ways.books.seen; waits = ways.books.waits; given = ways.books.given; is_live = ways.books.is_live })
          (record { messages = ways.up.messages; sealed = ways.up.sealed; offers = ways.up.offers }) (record {
            reports = ways.reports ∙ sym (append-nil c.sessions.down);
            nonces = ap (λ (ds : List ℕ). ds ++ number ∷ []) ways.nonces;
            answers = ways.answers ∙ sym (append-nil c.host.down);
          }) means

  -- ---- the next frame arrives

  module _ (c : Courses) (mesh : Mesh) (frame : Flown) (later : List Flown) (is : InMesh past node c mesh) (on_air : OnAir past node c is.log (frame ∷ later) mesh.air.frames) (facts : CoursesFacts c) (within : node < 233) where
    abbrev pub l : Lands past node c is.log frame later (landing mesh.air.frames)
    l = laws.lands past node c is.log frame later mesh.air.frames on_air

    -- without the frame
    abbrev pub before : Courses
    before = landed c l.rest

    hears : Hears c before l.aloft.begun l.aloft.held
    hears = record {
      still = record {
        sessions = subst (λ (fs : List (Flight SessionCargo)). Goes c.sessions (sessions_land c.sessions fs false false)) l.sessions (goes_once c.sessions (lands_step false false) tt);
        node = subst (λ (fs : List (Flight node_nonces.Cargo)). NodeGoes c.node (node_nonces.lands c.node fs false)) l.nonces (node_step c.node (node_nonces.Lands false) tt);
        host = subst (λ (fs : List (Flight host_nonces.Cargo)). HostGoes c.host (host_nonces.lands c.host fs false false)) l.offers (host_step c.host (host_nonces.Lands false false) tt);
      };
      message = subst (λ (fs : List (Flight SessionCargo)). Goes c.sessions (sessions_land c.sessions fs true true)) l.sessions (goes_once c.sessions (lands_step true true) tt);
      sealed = subst (λ (fs : List (Flight node_nonces.Cargo)). NodeGoes c.node (node_nonces.lands c.node fs true)) l.nonces (node_step c.node (node_nonces.Lands true) tt);
      nonce = λ goes_out. subst (λ (fs : List (Flight host_nonces.Cargo)). HostGoes c.host (host_nonces.lands c.host fs true goes_out)) l.offers (host_step c.host (host_nonces.Lands true goes_out) tt);
    }

    ways : SameWays c before
    ways = record {
      books = record { host = refl; told = refl; seen = refl; waits = refl; given = refl; is_live = refl };
      up = record { messages = refl; sealed = refl; offers = refl };
      reports = refl;
      nonces = refl;
      answers = refl;
    }

    there : (air : AirState) → air.frames ≡ landing mesh.air.frames → is_joined air node ≡ is_joined mesh.air node → InMesh past node before (record mesh { air = air })
    there air frames joined = record {
      log = is.log;
      flights = later;
      on_air = subst (λ (fs : FramesState). OnAir past node before is.log later fs) (sym frames) l.on_air;
      device = has_stays past past node c before mesh.devices refl refl (record { device = refl; kept = refl; ends = refl; given = refl; is_live = refl; seen = refl; waits = refl }) is.device;
      made = is.made;
      joined = λ some. joined ∙ is.joined some;
    }

    node_facts : NodeFacts before.node
    node_facts = subst (λ (fs : List (Flight node_nonces.Cargo)). NodeFacts (node_nonces.lands c.node fs false)) l.nonces (laws.node_facts c.node (node_nonces.Lands false) facts.node tt)

    pub names : (held : Held) → l.aloft.held ≡ held → Names before.sessions.device (as_session held)
    names (Up (Sealed session number)) is = (
      laws.landing_names c.sessions (record { session = session; is_segment = false }) l.aloft.begun (map of_sessions l.rest) facts.sessions
          (l.sessions ∙ ap (λ (h : Held). record { cargo = as_session h; since = l.aloft.begun } ∷ map of_sessions l.rest) is),
      λ segment. absurd (grind (arith, segment)),
    )
    names (Up (Offer number)) is = tt
    names Of_host is = tt
    names (Down (Reports session status number)) is = tt
    names (Down (Shows number)) is = tt
    names Of_node is = tt

    pub names_nonce : (held : Held) → l.aloft.held ≡ held → NamesNonce before held
    names_nonce (Up (Sealed session number)) is = laws.node_landing c.node number l.aloft.given (map of_node l.rest) facts.node (l.nonces ∙ ap (λ (h : Held). record { cargo = as_node h; since = l.aloft.given } ∷ map of_node l.rest) is)
    names_nonce (Up (Offer number)) is = laws.host_landing c.host number l.aloft.shown (map of_host l.rest) facts.host (l.offers ∙ ap (λ (h : Held). record { cargo = as_host h; since = l.aloft.shown } ∷ map of_host l.rest) is)
    names_nonce Of_host is = tt
    names_nonce (Down said) is = tt
    names_nonce Of_node is = tt

    module _ (drawn : List ℕ) (eight : length drawn ≡ 8) (route : Option Route) where
      lost_by : (event : AirEvent) (status : ℕ) (dead : Option (ℕ × ℕ)) (number : ℕ) → brought_by event ≡ [] → MeshGoes past node c (record mesh { air = air_landed mesh.air }) (brought (event ∷ done_of frame.heading number status dead))
      lost_by event status dead number none =
          subst (λ g. MeshGoes past node c (record mesh { air = air_landed mesh.air }) g)
          (sym (brought-append (event ∷ []) (done_of frame.heading number status dead) ∙ (ap (λ g. (g ++ []) ++ brought (done_of frame.heading number status dead)) none ∙ done_brings frame.heading number status dead)))
          (unheard c before (record mesh { air = air_landed mesh.air }) hears.still ways (there (air_landed mesh.air) refl refl))

      at_device : (number place : ℕ) (found : Option State) → slice_get mesh.devices place ≡ found → fate_of mesh.air.network mesh.devices frame ≡ fate.AtDevice place
          → MeshGoes past node c (heard_at (record mesh { air = air_landed (acknowledged mesh.air) }) place found frame.node route (hears_event frame.payload drawn))
          (brought (outs_at (record mesh { air = air_landed (acknowledged mesh.air) }) found number frame.node route (hears_event frame.payload drawn) ++ Done number (status_of mesh.air) None ∷ []))
      at_device number place None stood is = unheard c before (record mesh { air = air_landed (acknowledged mesh.air) }) hears.still ways (there (air_landed (acknowledged mesh.air)) refl refl)
      at_device number place (Some one) stood is =
          let now : Mesh = record mesh { air = air_landed (acknowledged mesh.air) } in
          let outward : frame.heading ≡ Outward = out_by frame.lost (dead_hop_of mesh.air.network frame) frame.heading (listener_of frame.node mesh.devices) place is in
          let listens : listener_of frame.node mesh.devices ≡ Some place = fate_listens frame.lost (dead_hop_of mesh.air.network frame) frame.heading (listener_of frame.node mesh.devices) place is in
          let nothing : brought (outs_hearing now.air number frame.node route one (hears_event frame.payload drawn) ++ Done number (status_of mesh.air) None ∷ []) ≡ [] =
          brought-append (outs_hearing now.air number frame.node route one (hears_event frame.payload drawn)) (Done number (status_of mesh.air) None ∷ [])
          ∙ ap (λ g. g ++ []) (hearing_brings now.air number frame.node route one (hears_event frame.payload drawn)) in
          subst (λ g. MeshGoes past node c (heard_at now place (Some one) frame.node route (hears_event frame.payload drawn)) g) (sym nothing)
          (device_hears c before now frame l.aloft.begun l.aloft.held place one drawn route within eight hears ways (there (air_landed (acknowledged mesh.air)) refl refl) node_facts
          (subst (λ (heading : Heading). MeansBy heading (frame.node == node) past node frame.payload l.aloft.held) outward l.bears.1) listens stood (names l.aloft.held refl) (names_nonce l.aloft.held refl))

      by_fate : (number : ℕ) (x : Fate) → fate_of mesh.air.network mesh.devices frame ≡ x → MeshGoes past node c (arriving_as mesh frame x drawn route) (brought (arrival_outs_as mesh number frame x drawn route))
      by_fate number fate.Lost is = lost_by (Lost number) 1 None number refl
      by_fate number (fate.Dead from to) is = lost_by (Unheard number) 1 (Some (from, to)) number refl
      by_fate number fate.Missed is = lost_by (Unheard number) 1 None number refl
      by_fate number fate.AtChip is =
          let home : frame.heading ≡ Homeward = home_by frame.lost (dead_hop_of mesh.air.network frame) frame.heading (listener_of frame.node mesh.devices) is in
          chip_hears c before (record mesh { air = air_landed mesh.air }) frame l.aloft.begun l.aloft.held hears ways (there (air_landed mesh.air) refl refl)
          (subst (λ (heading : Heading). MeansBy heading (frame.node == node) past node frame.payload l.aloft.held) home l.bears.1)
      by_fate number (fate.AtDevice place) is = at_device number place (slice_get mesh.devices place) refl is

  arrives_by : (c : Courses) (mesh : Mesh) (drawn : List ℕ) (route : Option Route) (is : InMesh past node c mesh) (flights : List Flown) → OnAir past node c is.log flights mesh.air.frames → node < 233 → CoursesFacts c
      → MayHappen mesh (Arrives drawn route) → MeshGoes past node c (mesh_after mesh (Arrives drawn route)) (brought (mesh_outs mesh (Arrives drawn route)))
  unfolding MayHappen mesh_after mesh_outs
  arrives_by c mesh drawn route is [] on_air within facts may = absurd (rw (laws.none is.log mesh.air.frames on_air.fly) at may.0)
  arrives_by c mesh drawn route is (frame ∷ later) on_air within facts may =
      rw (laws.next is.log frame later mesh.air.frames on_air.fly) (by_fate c mesh frame later is on_air facts within drawn may.1 route (mesh.air.frames.landed + 1) (fate_of mesh.air.network mesh.devices frame) refl)

  pub arrives_go : (c : Courses) (mesh : Mesh) (drawn : List ℕ) (route : Option Route) → node < 233 → CoursesFacts c → InMesh past node c mesh → MayHappen mesh (Arrives drawn route)
      → MeshGoes past node c (mesh_after mesh (Arrives drawn route)) (brought (mesh_outs mesh (Arrives drawn route)))
  arrives_go c mesh drawn route within facts is may = arrives_by c mesh drawn route is is.flights is.on_air within facts may

  -- ---- a frame is heard again

  module _ (c : Courses) (mesh : Mesh) (number : ℕ) (frame : Flown) (facts : CoursesFacts c) (is : InMesh past node c mesh) (was : WasThere past node c frame) (within : node < 233) where
    message_again : Goes c.sessions (sessions_hears c.sessions was.aloft.begun (as_session was.aloft.held) true)
    message_again = subst (λ (found : Option (Flight SessionCargo)). Goes c.sessions (sessions_repeat c.sessions found true)) was.sessions
        (goes_once c.sessions (repeats_step was.at true) (subst (λ (found : Option (Flight SessionCargo)). MayRepeat c.sessions found) (sym was.sessions) was.fresh))

    node_again : c.node.given < was.aloft.given + 120 → NodeGoes c.node (node_nonces.hears c.node (as_node was.aloft.held))
    node_again near = subst (λ (found : Option (Flight node_nonces.Cargo)). NodeGoes c.node (node_nonces.repeats c.node found)) was.nonces
        (node_step c.node (node_nonces.Repeats was.at) (subst (λ (found : Option (Flight node_nonces.Cargo)). node_nonces.MayRepeat c.node found) (sym was.nonces) near))

    host_again : (goes_out : Bool) → c.host.shown < was.aloft.shown + 120 → HostGoes c.host (host_nonces.hears c.host (as_host was.aloft.held) goes_out)
    host_again goes_out near = subst (λ (found : Option (Flight host_nonces.Cargo)). HostGoes c.host (host_nonces.repeats c.host found goes_out)) was.offers
        (host_step c.host (host_nonces.Repeats was.at goes_out) (subst (λ (found : Option (Flight host_nonces.Cargo)). host_nonces.MayRepeat c.host found) (sym was.offers) near))

    -- of a frame that holds nothing of these the nonces hear nothing
    sealed_again : (held : Held) → was.aloft.held ≡ held → IsRecentBy held c was.aloft → NodeGoes c.node (node_nonces.hears c.node (as_node was.aloft.held))
    sealed_again (Up sent) is recent = node_again recent.given
    sealed_again Of_host is recent = subst (λ (h : Held). NodeGoes c.node (node_nonces.hears c.node (as_node h))) (sym is) (node_nowhere c.node)
    sealed_again (Down said) is recent = node_again recent.given
    sealed_again Of_node is recent = subst (λ (h : Held). NodeGoes c.node (node_nonces.hears c.node (as_node h))) (sym is) (node_nowhere c.node)

    nonce_again : (held : Held) (goes_out : Bool) → was.aloft.held ≡ held → IsRecentBy held c was.aloft → HostGoes c.host (host_nonces.hears c.host (as_host was.aloft.held) goes_out)
    nonce_again (Up sent) goes_out is recent = host_again goes_out recent.shown
    nonce_again Of_host goes_out is recent = subst (λ (h : Held). HostGoes c.host (host_nonces.hears c.host (as_host h) goes_out)) (sym is) (host_nowhere c.host)
    nonce_again (Down said) goes_out is recent = host_again goes_out recent.shown
    nonce_again Of_node goes_out is recent = subst (λ (h : Held). HostGoes c.host (host_nonces.hears c.host (as_host h) goes_out)) (sym is) (host_nowhere c.host)

    hears_again : Hears c c was.aloft.begun was.aloft.held
    hears_again = record {
      still = goes_nowhere c;
      message = message_again;
      sealed = sealed_again was.aloft.held refl was.recent;
      nonce = λ goes_out. nonce_again was.aloft.held goes_out refl was.recent;
    }

    pub names_again : (held : Held) → was.aloft.held ≡ held → Names c.sessions.device (as_session held)
    names_again (Up (Sealed session number)) is = (
      laws.repeated_names c.sessions (record { session = session; is_segment = false }) was.aloft.begun was.at facts.sessions
          (was.sessions ∙ ap (λ (h : Held). Some (record { cargo = as_session h; since = was.aloft.begun })) is)
          (subst (λ (h : Held). IsFreshCargo (begun_of c.sessions.host) was.aloft.begun (as_session h)) is was.fresh),
      λ segment. absurd (grind (arith, segment)),
    )
    names_again (Up (Offer number)) is = tt
    names_again Of_host is = tt
    names_again (Down (Reports session status number)) is = tt
    names_again (Down (Shows number)) is = tt
    names_again Of_node is = tt

    pub nonces_again : (held : Held) → was.aloft.held ≡ held → IsRecentBy held c was.aloft → NamesNonce c held
    nonces_again (Up (Sealed session number)) is recent =
        laws.node_repeated c.node number was.aloft.given was.at facts.node (was.nonces ∙ ap (λ (h : Held). Some (record { cargo = as_node h; since = was.aloft.given })) is) recent.given
    nonces_again (Up (Offer number)) is recent =
        laws.host_repeated c.host number was.aloft.shown was.at facts.host (was.offers ∙ ap (λ (h : Held). Some (record { cargo = as_host h; since = was.aloft.shown })) is) recent.shown
    nonces_again Of_host is recent = tt
    nonces_again (Down said) is recent = tt
    nonces_again Of_node is recent = tt

    module _ (drawn : List ℕ) (eight : length drawn ≡ 8) (route : Option Route) where
      device_again : (place : ℕ) (found : Option State) → slice_get mesh.devices place ≡ found → listener_of frame.node mesh.devices ≡ Some place → frame.heading ≡ Outward
          → MeshGoes past node c (heard_at mesh place found frame.node route (hears_event frame.payload drawn)) (brought (outs_at mesh found number frame.node route (hears_event frame.payload drawn)))
      device_again place None stood listens outward = unheard c c mesh (goes_nowhere c) (ways_same c) is
      device_again place (Some one) stood listens outward =
          subst (λ g. MeshGoes past node c (heard_at mesh place (Some one) frame.node route (hears_event frame.payload drawn)) g) (sym (hearing_brings mesh.air number frame.node route one (hears_event frame.payload drawn)))
          (device_hears c c mesh frame was.aloft.begun was.aloft.held place one drawn route within eight hears_again (ways_same c) is facts.node
          (subst (λ (heading : Heading). MeansBy heading (frame.node == node) past node frame.payload was.aloft.held) outward was.bears.1) listens stood (names_again was.aloft.held refl)
          (nonces_again was.aloft.held refl was.recent))

      listener_again : (listener : Option ℕ) → listener_of frame.node mesh.devices ≡ listener → frame.heading ≡ Outward
          → MeshGoes past node c (heard_again mesh listener frame.node route (hears_event frame.payload drawn)) (brought (outs_again mesh listener number frame.node route (hears_event frame.payload drawn)))
      listener_again None listens outward = unheard c c mesh (goes_nowhere c) (ways_same c) is
      listener_again (Some place) listens outward = device_again place (slice_get mesh.devices place) refl listens outward

      again_by : (heading : Heading) → frame.heading ≡ heading → MeshGoes past node c (repeating_by heading mesh frame drawn route) (brought (repeat_outs_by heading mesh number frame drawn route))
      again_by Outward e = listener_again (listener_of frame.node mesh.devices) refl e
      again_by Homeward e =
          chip_hears c c mesh frame was.aloft.begun was.aloft.held hears_again (ways_same c) is (subst (λ (heading : Heading). MeansBy heading (frame.node == node) past node frame.payload was.aloft.held) e was.bears.1)

  repeats_by : (c : Courses) (mesh : Mesh) (number : ℕ) (drawn : List ℕ) (route : Option Route) (found : Option Flown) → remembered mesh.air.frames number ≡ found → node < 233 → length drawn ≡ 8 → CoursesFacts c → InMesh past node c mesh
      → refusal_of mesh.air.frames number ≡ None → MeshGoes past node c (repeating mesh found drawn route) (brought (repeat_outs mesh number found drawn route))
  repeats_by c mesh number drawn route None e within eight facts is fresh = unheard c c mesh (goes_nowhere c) (ways_same c) is
  repeats_by c mesh number drawn route (Some frame) e within eight facts is fresh =
      again_by c mesh number frame facts is (laws.repeated past node c is.log is.flights mesh.air.frames number frame within is.on_air fresh e) within drawn eight route frame.heading refl

  pub repeats_go : (c : Courses) (mesh : Mesh) (number : ℕ) (drawn : List ℕ) (route : Option Route) → node < 233 → CoursesFacts c → InMesh past node c mesh → refusal_of mesh.air.frames number ≡ None
      → MayHappen mesh (Repeats number drawn route) → MeshGoes past node c (mesh_after mesh (Repeats number drawn route)) (brought (mesh_outs mesh (Repeats number drawn route)))
  unfolding MayHappen mesh_after mesh_outs
  repeats_go c mesh number drawn route within facts is fresh may = repeats_by c mesh number drawn route (remembered mesh.air.frames number) refl within may.2 facts is fresh
