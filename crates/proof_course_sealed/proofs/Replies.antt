-- What a lock hears and says, and what other devices say, in the courses of a lock.
use Rattle.std.proofs.Common.{◌≡◌, ◌≢◌, ℕ, zero, suc, ◌+◌, ◌<◌, ◌≤◌, ◌==◌, max, Bool, true, false, ◌||◌, nat_lt, Option, Some, None, List, [], ◌∷◌, ◌++◌, refl, ap, sym, ◌∙◌, subst, append-nil, arith}
use Rattle.std.specs.Prelude.{slice_get, slice_set}
use Rattle.std.specs.Option.{unwrap_or, is_none}
use Rattle.std.proofs.lemmas.Bool.{eq-eqb}
use Rattle.supervision.specs.Host.{begun_of}
use Rattle.proof_course.specs.Flying.{Flight}
use Rattle.proof_course.specs.Sessions.{Course, Answer, Of_node as no_answer, Flies, Reports as reports, flies, hears as sessions_hears, after_all, MayAll}
use Rattle.proof_course.specs.NodeNonces as node_nonces
use Rattle.proof_course.specs.NodeNonces.{taken_as}
use Rattle.proof_course.specs.HostNonces as host_nonces
use Rattle.route_table.specs.declared.route.Route.{Route}
use Rattle.air_frames.specs.declared.frame.Departure.{Departure}
use Rattle.air_frames.specs.declared.frame.Heading.TheVariants.{Homeward}
use Rattle.air_frames.specs.Flown.{Flown}
use Rattle.air_frames.specs.Frames.{FramesState, putting}
use Rattle.air_frames.specs.History.{Mark, Goes as goes_mark}
use Rattle.proof_course_plain.specs.Flights.{flown_now}
use Rattle.device_sim.specs.State.{State}
use Rattle.mesh_sim.specs.Air.{AirState, is_joined, no_route, departing}
use Rattle.mesh_sim.specs.Steps.{answered, answered_if}
use Rattle.proof_messages.specs.Payloads.{IsOffer}
use Rattle.proof_course_plain.specs.Ways.{Goes}
use Rattle.proof_course_plain.specs.Device.{IsIdle, finishes}
use Rattle.proof_course_plain.proofs.MadeSettings.{get_other}
use Rattle.proof_course_plain.proofs.Idle.{others_set}
use Rattle.proof_course_plain.proofs.ChangesOutside.{place_set, get_set}
use Rattle.proof_course_plain.proofs.Replies.{nodes_set}
use Rattle.proof_course_plain.proofs.ThinnedWays.{goes_on as sessions_on, goes_once}
use Rattle.proof_course_sealed.specs.Labels.{Held, Sealed, Offer, Reports, Shows, Up, Of_host, Down, Of_node, as_session, as_node, as_host}
use Rattle.proof_course_sealed.specs.Courses.{Courses, CoursesGo, NodeGoes, HostGoes, SameBooks, SameUp, AddsDown}
use Rattle.proof_course_sealed.specs.Meaning.{Past, Grows, HostMeans, NodeMeans}
use Rattle.proof_course_sealed.specs.Lock.{AtLock}
use Rattle.proof_course_sealed.specs.Device.{Reply, Nothing, Tells, Gives, Asks, after_message, after_nonce, given_by, waits_by, heard_by, SaysBy}
use Rattle.proof_course_sealed.specs.Air.{MeansBy, OnAir, SameAir, Puts}
use Rattle.proof_course_sealed.specs.Mesh.{HasLock}
use Rattle.proof_course_sealed.proofs.CourseSteps.{goes_nowhere, goes_on, grows_none}
use Rattle.proof_course_sealed.proofs.Elsewhere.{SameLock, lock_itself, lock_then, AirStays}
use Rattle.proof_course_sealed.proofs.ThinnedWays.{node_on, node_step, host_on, host_step}

-- ---- what stays

-- what the host knows, and all that is on its way, is as it was
pub record SameWays (old new : Courses) : Type 0 where
  pub books : SameBooks old new
  pub up : SameUp old new
  pub reports : new.sessions.down ≡ old.sessions.down
  pub nonces : new.node.down ≡ old.node.down
  pub answers : new.host.down ≡ old.host.down

pub ways_same : (c : Courses) → SameWays c c
ways_same c = record {
  books = record { host = refl; told = refl; seen = refl; waits = refl; given = refl; is_live = refl };
  up = record { messages = refl; sealed = refl; offers = refl };
  reports = refl;
  nonces = refl;
  answers = refl;
}

pub ways_then : (a b c : Courses) → SameWays a b → SameWays b c → SameWays a c
ways_then a b c first later = record {
  books = record {
    host = later.books.host ∙ first.books.host;
    told = later.books.told ∙ first.books.told;
    seen = later.books.seen ∙ first.books.seen;
    waits = later.books.waits ∙ first.books.waits;
    given = later.books.given ∙ first.books.given;
    is_live = later.books.is_live ∙ first.books.is_live;
  };
  up = record { messages = later.up.messages ∙ first.up.messages; sealed = later.up.sealed ∙ first.up.sealed; offers = later.up.offers ∙ first.up.offers };
  reports = later.reports ∙ first.reports;
  nonces = later.nonces ∙ first.nonces;
  answers = later.answers ∙ first.answers;
}

pub nothing_down : (old new : Courses) → SameWays old new → AddsDown old new []
nothing_down old new same = record {
  reports = same.reports ∙ sym (append-nil old.sessions.down);
  nonces = same.nonces ∙ sym (append-nil old.node.down);
  answers = same.answers ∙ sym (append-nil old.host.down);
}

-- ---- a device is another than before

pub own_set : (past later_past : Past) (node : ℕ) (c later : Courses) (devices : List State) (new : State) (h : HasLock past node c devices) → new.node ≡ h.device.node → AtLock later_past later new
    → HasLock later_past node later (slice_set devices h.place new)
own_set past later_past node c later devices new h same at = record {
  device = new;
  place = h.place;
  first = place_set node devices h.place h.device new h.stands same ∙ h.first;
  stands = get_set devices h.place h.device new h.stands;
  at = at;
  others = others_set node devices h.place h.place h.device new h.stands (λ own away. absurd (away refl)) h.others;
  nodes = nodes_set devices h.place h.device new h.stands same h.nodes;
}

-- one elsewhere, of another node or idle, is another than before
pub other_set : (past : Past) (node : ℕ) (c : Courses) (devices : List State) (place : ℕ) (device new : State) (h : HasLock past node c devices) → slice_get devices place ≡ Some device → place ≢ h.place → (device.node ≡ node → IsIdle new)
    → new.node ≡ device.node → HasLock past node c (slice_set devices place new)
other_set past node c devices place device new h stood away idle same = record {
  device = h.device;
  place = h.place;
  first = place_set node devices place device new stood same ∙ h.first;
  stands = get_other devices place h.place new (λ e. away (sym e)) ∙ h.stands;
  at = h.at;
  others = others_set node devices h.place place device new stood (λ own elsewhere. idle (sym same ∙ own)) h.others;
  nodes = nodes_set devices place device new stood same h.nodes;
}

-- ---- frames go on the air

-- how frames go there, and stay what they are, as the courses have it
pub record Airing : Type 0 where
  pub goes : (past later_past : Past) (node : ℕ) (c later : Courses) (log : List Mark) (flights : List Flown) (frames : FramesState) (departure : Departure) (held : Held) → departure.node < 233 → OnAir past node c log flights frames
      → Grows past later_past → MeansBy departure.heading (departure.node == node) later_past node departure.payload held → Puts c later held
      → OnAir later_past node later (log ++ goes_mark departure ∷ []) (flights ++ flown_now log departure ∷ []) (putting frames departure)
  pub stays : AirStays

-- the frames of the courses, whatever the history is
pub record Airs (past : Past) (node : ℕ) (c : Courses) (air : AirState) : Type 0 where
  pub log : List Mark
  pub flights : List Flown
  pub on_air : OnAir past node c log flights air.frames

pub airs_stay : Airing → (past later_past : Past) (node : ℕ) (c later : Courses) (air : AirState) → Grows past later_past → SameAir c later → Airs past node c air → Airs later_past node later air
airs_stay airing past later_past node c later air grows same a = record { log = a.log; flights = a.flights; on_air = airing.stays past later_past node c later a.log a.flights air.frames a.on_air grows same }

sends_one : Airing → (past : Past) (node : ℕ) (c later : Courses) (air : AirState) (of : ℕ) (way : Option Route) (reply : List ℕ) (held : Held) → of < 233 → Airs past node c air
    → MeansBy Homeward (of == node) past node reply held → Puts c later held → Airs past node later (departing air of Homeward way reply)
sends_one airing past node c later air of way reply held within a means puts =
    let d : Departure = record { node = of; heading = Homeward; route = unwrap_or way no_route; lost = nat_lt 0 air.losing || is_none way; payload = reply } in
    record {
      log = a.log ++ goes_mark d ∷ [];
      flights = a.flights ++ flown_now a.log d ∷ [];
      on_air = airing.goes past past node c later a.log a.flights air.frames d held within a.on_air (grows_none past) means puts;
    }

pub joined_stays : (joined : Bool) (air : AirState) (of : ℕ) (way : Option Route) (replies : List (List ℕ)) (node : ℕ) → is_joined (answered_if joined air of way replies) node ≡ is_joined air node
joined_stays false air of way replies node = refl
joined_stays true air of way replies node = all air replies
  where
    all : (air : AirState) (replies : List (List ℕ)) → is_joined (answered air of way replies) node ≡ is_joined air node
    all air [] = refl
    all air (reply ∷ replies) = all (departing air of Homeward way reply) replies

-- ---- what other devices say

-- the courses once replies went there: these, and nothing else, is other than before
pub record Sent (past : Past) (node : ℕ) (c : Courses) (air : AirState) : Type 0 where
  pub later : Courses
  pub goes : CoursesGo c later
  pub ways : SameWays c later
  pub lock : SameLock c later
  pub airs : Airs past node later air

-- a frame that holds nothing of these
abbrev passes : Courses → Courses
passes c = record { sessions = flies c.sessions no_answer; node = node_nonces.flies c.node node_nonces.Of_node; host = host_nonces.flies c.host host_nonces.Of_node }

passes_go : (c : Courses) → CoursesGo c (passes c)
passes_go c = record { sessions = goes_once c.sessions (Flies no_answer) tt; node = node_step c.node (node_nonces.Flies node_nonces.Of_node) tt; host = host_step c.host (host_nonces.Flies host_nonces.Of_node) tt }

passes_ways : (c : Courses) → SameWays c (passes c)
passes_ways c = record {
  books = record { host = refl; told = refl; seen = refl; waits = refl; given = refl; is_live = refl };
  up = record { messages = refl; sealed = refl; offers = refl };
  reports = refl;
  nonces = refl;
  answers = refl;
}

passes_lock : (c : Courses) → SameLock c (passes c)
passes_lock c = record { device = refl; kept = refl; ends = refl; given = refl; is_live = refl; seen = refl; waits = refl }

passes_puts : (c : Courses) → Puts c (passes c) Of_node
passes_puts c = record { sessions = (refl, refl); node = (refl, refl); host = (refl, refl); begun = refl; counts = (refl, refl) }

others_say : Airing → (past : Past) (node : ℕ) (c : Courses) (air : AirState) (of : ℕ) (way : Option Route) (replies : List (List ℕ)) → (of == node) ≡ false → of < 233 → Airs past node c air → Sent past node c (answered air of way replies)
others_say airing past node c air of way [] other within a = record { later = c; goes = goes_nowhere c; ways = ways_same c; lock = lock_itself c; airs = a }
others_say airing past node c air of way (reply ∷ replies) other within a =
    let means : MeansBy Homeward (of == node) past node reply Of_node = subst (λ (b : Bool). MeansBy Homeward b past node reply Of_node) (sym other) refl in
    let more = others_say airing past node (passes c) (departing air of Homeward way reply) of way replies other within (sends_one airing past node c (passes c) air of way reply Of_node within a means (passes_puts c)) in
    record {
      later = more.later;
      goes = goes_on c (passes c) more.later (passes_go c) more.goes;
      ways = ways_then c (passes c) more.later (passes_ways c) more.ways;
      lock = lock_then c (passes c) more.later (passes_lock c) more.lock;
      airs = more.airs;
    }

pub others_say_if : Airing → (joined : Bool) (past : Past) (node : ℕ) (c : Courses) (air : AirState) (of : ℕ) (way : Option Route) (replies : List (List ℕ)) → (of == node) ≡ false → of < 233 → Airs past node c air
    → Sent past node c (answered_if joined air of way replies)
others_say_if airing true past node c air of way replies other within a = others_say airing past node c air of way replies other within a
others_say_if airing false past node c air of way replies other within a = record { later = c; goes = goes_nowhere c; ways = ways_same c; lock = lock_itself c; airs = a }

-- ---- what the host sends is heard

abbrev pub IsOfHost : Held → Type 0
IsOfHost (Up sent) = Unit {0}
IsOfHost Of_host = Unit {0}
IsOfHost (Down said) = ⊥
IsOfHost Of_node = ⊥

pub means_of_host : (past : Past) (node : ℕ) (payload : List ℕ) (held : Held) → HostMeans past node payload held → IsOfHost held
means_of_host past node payload (Up sent) means = tt
means_of_host past node payload Of_host means = tt
means_of_host past node payload (Down said) means = absurd means
means_of_host past node payload Of_node means = absurd means

-- what of each course stays then
record KeepsSessions (old new : Course) : Type 0 where
  host : new.host ≡ old.host
  told : new.told ≡ old.told
  up : new.up ≡ old.up
  down : new.down ≡ old.down
  air : new.air ≡ old.air
  flown : new.old ≡ old.old

record KeepsNode (old new : node_nonces.Nonces) : Type 0 where
  seen : new.seen ≡ old.seen
  waits : new.waits ≡ old.waits
  up : new.up ≡ old.up
  down : new.down ≡ old.down
  air : new.air ≡ old.air
  flown : new.old ≡ old.old

record KeepsHost (old new : host_nonces.Nonces) : Type 0 where
  given : new.given ≡ old.given
  is_live : new.is_live ≡ old.is_live
  shown : new.shown ≡ old.shown
  up : new.up ≡ old.up
  down : new.down ≡ old.down
  air : new.air ≡ old.air
  flown : new.old ≡ old.old

sessions_same : (c : Course) → KeepsSessions c c
sessions_same c = record { host = refl; told = refl; up = refl; down = refl; air = refl; flown = refl }

node_same : (c : node_nonces.Nonces) → KeepsNode c c
node_same c = record { seen = refl; waits = refl; up = refl; down = refl; air = refl; flown = refl }

host_same : (c : host_nonces.Nonces) → KeepsHost c c
host_same c = record { given = refl; is_live = refl; shown = refl; up = refl; down = refl; air = refl; flown = refl }

message_keeps : (c : Course) (since : ℕ) (held : Held) (message : Bool) → IsOfHost held → KeepsSessions c (after_message c since held message)
message_keeps c since (Up (Sealed session number)) true own = record { host = refl; told = refl; up = refl; down = refl; air = refl; flown = refl }
message_keeps c since (Up (Offer number)) true own = sessions_same c
message_keeps c since Of_host true own = sessions_same c
message_keeps c since (Down said) true own = absurd own
message_keeps c since Of_node true own = absurd own
message_keeps c since held false own = sessions_same c

finishes_keeps : (old c : Course) (final : Option ℕ) → KeepsSessions old c → KeepsSessions old (after_all c (finishes final))
finishes_keeps old c None keeps = keeps
finishes_keeps old c (Some status) keeps = record { host = keeps.host; told = keeps.told; up = keeps.up; down = keeps.down; air = keeps.air; flown = keeps.flown }

sealed_keeps : (c : node_nonces.Nonces) (held : Held) → IsOfHost held → KeepsNode c (node_nonces.hears c (as_node held)) × ((node_nonces.hears c (as_node held)).given ≡ c.given)
sealed_keeps c (Up (Sealed session number)) own = (record { seen = refl; waits = refl; up = refl; down = refl; air = refl; flown = refl }, refl)
sealed_keeps c (Up (Offer number)) own = (node_same c, refl)
sealed_keeps c Of_host own = (node_same c, refl)
sealed_keeps c (Down said) own = absurd own
sealed_keeps c Of_node own = absurd own

gives_keeps : (c : node_nonces.Nonces) (live : Bool) → KeepsNode c (node_nonces.gives c live)
gives_keeps c true = node_same c
gives_keeps c false = record { seen = refl; waits = refl; up = refl; down = refl; air = refl; flown = refl }

given_keeps : (reply : Reply) (joined : Bool) (c : node_nonces.Nonces) → KeepsNode c (given_by reply joined c)
given_keeps Nothing joined c = node_same c
given_keeps (Tells number) joined c = node_same c
given_keeps Gives true c = gives_keeps c c.is_live
given_keeps Gives false c = node_same c
given_keeps Asks joined c = node_same c

-- a lock that has not joined gives none
none_given : (reply : Reply) (c : node_nonces.Nonces) → given_by reply false c ≡ c
none_given Nothing c = refl
none_given (Tells number) c = refl
none_given Gives c = refl
none_given Asks c = refl

seals_keeps : (c : host_nonces.Nonces) (found : Option ℕ) → KeepsHost c (host_nonces.seals c found false)
seals_keeps c None = host_same c
seals_keeps c (Some number) = record { given = refl; is_live = refl; shown = refl; up = refl; down = refl; air = refl; flown = refl }

nonce_keeps : (c : host_nonces.Nonces) (held : Held) (nonce : Bool) → IsOfHost held → KeepsHost c (after_nonce c held nonce)
nonce_keeps c (Up (Sealed session number)) true own = host_same c
nonce_keeps c (Up (Offer number)) true own = seals_keeps c (taken_as c.waits c.seen number)
nonce_keeps c Of_host true own = host_same c
nonce_keeps c (Down said) true own = absurd own
nonce_keeps c Of_node true own = absurd own
nonce_keeps c held false own = host_same c

waits_keeps : (reply : Reply) (old c : host_nonces.Nonces) → KeepsHost old c → KeepsHost old (waits_by reply c)
waits_keeps Nothing old c keeps = keeps
waits_keeps (Tells number) old c keeps = keeps
waits_keeps Gives old c keeps = keeps
waits_keeps Asks old c keeps = record { given = keeps.given; is_live = keeps.is_live; shown = keeps.shown; up = keeps.up; down = keeps.down; air = keeps.air; flown = keeps.flown }

node_then : (a b c : node_nonces.Nonces) → KeepsNode a b → KeepsNode b c → KeepsNode a c
node_then a b c first later = record {
  seen = later.seen ∙ first.seen;
  waits = later.waits ∙ first.waits;
  up = later.up ∙ first.up;
  down = later.down ∙ first.down;
  air = later.air ∙ first.air;
  flown = later.flown ∙ first.flown;
}

same_ways : (old new : Courses) → KeepsSessions old.sessions new.sessions → KeepsNode old.node new.node → KeepsHost old.host new.host → SameWays old new
same_ways old new s n h = record {
  books = record { host = s.host; told = s.told; seen = n.seen; waits = n.waits; given = h.given; is_live = h.is_live };
  up = record { messages = s.up; sealed = n.up; offers = h.up };
  reports = s.down;
  nonces = n.down;
  answers = h.down;
}

same_air : (old new : Courses) → KeepsSessions old.sessions new.sessions → KeepsNode old.node new.node → KeepsHost old.host new.host → new.node.given ≡ old.node.given → SameAir old new
same_air old new s n h given = record {
  sessions = (s.air, s.flown);
  node = (n.air, n.flown);
  host = (h.air, h.flown);
  begun = ap begun_of s.host;
  given = given;
  shown = h.shown;
}

-- ---- what the lock says goes on the air

abbrev sessions_said : Reply → Course → Course
sessions_said Nothing c = c
sessions_said (Tells number) c = flies c (Answer c.device.taken c.device.status)
sessions_said Gives c = flies c no_answer
sessions_said Asks c = flies c no_answer

abbrev node_said : Reply → node_nonces.Nonces → node_nonces.Nonces
node_said Nothing c = c
node_said (Tells number) c = node_nonces.flies c node_nonces.Of_node
node_said Gives c = node_nonces.flies c (node_nonces.Offer c.given)
node_said Asks c = node_nonces.flies c node_nonces.Of_node

abbrev host_said : Reply → host_nonces.Nonces → host_nonces.Nonces
host_said Nothing c = c
host_said (Tells number) c = record (host_nonces.flies c (host_nonces.Sealed number)) { sent = max c.sent number }
host_said Gives c = host_nonces.flies c host_nonces.Of_node
host_said Asks c = host_nonces.flies c host_nonces.Of_node

abbrev said : Reply → Courses → Courses
said reply c = record { sessions = sessions_said reply c.sessions; node = node_said reply c.node; host = host_said reply c.host }

said_lock : (reply : Reply) (c : Courses) → SameLock c (said reply c)
said_lock Nothing c = record { device = refl; kept = refl; ends = refl; given = refl; is_live = refl; seen = refl; waits = refl }
said_lock (Tells number) c = record { device = refl; kept = refl; ends = refl; given = refl; is_live = refl; seen = refl; waits = refl }
said_lock Gives c = record { device = refl; kept = refl; ends = refl; given = refl; is_live = refl; seen = refl; waits = refl }
said_lock Asks c = record { device = refl; kept = refl; ends = refl; given = refl; is_live = refl; seen = refl; waits = refl }

said_ways : (reply : Reply) (c : Courses) → SameWays c (said reply c)
said_ways Nothing c = ways_same c
said_ways (Tells number) c = record {
  books = record { host = refl; told = refl; seen = refl; waits = refl; given = refl; is_live = refl };
  up = record { messages = refl; sealed = refl; offers = refl };
  reports = refl;
  nonces = refl;
  answers = refl;
}
said_ways Gives c = record {
  books = record { host = refl; told = refl; seen = refl; waits = refl; given = refl; is_live = refl };
  up = record { messages = refl; sealed = refl; offers = refl };
  reports = refl;
  nonces = refl;
  answers = refl;
}
said_ways Asks c = passes_ways c

-- a nonce that is heard and answered at once
tells_out : (c : host_nonces.Nonces) (held : Held) (nonce : Bool) (number : ℕ) → nonce ≡ true → held ≡ Up (Offer number) → taken_as c.waits c.seen number ≡ Some number
    → host_nonces.hears c (as_host held) true ≡ host_said (Tells number) (after_nonce c held nonce)
tells_out c held nonce number heard offered found =
    ap (λ (x : Held). host_nonces.hears c (as_host x) true) offered ∙ (ap (λ (o : Option ℕ). host_nonces.seals c o true) found
    ∙ sym (ap (λ (b : Bool). host_said (Tells number) (after_nonce c held b)) heard ∙ (ap (λ (x : Held). host_said (Tells number) (after_nonce c x true)) offered
    ∙ ap (λ (o : Option ℕ). host_said (Tells number) (host_nonces.seals c o false)) found)))

-- the nonce that is given is the last or the next one
gives_next : (c : node_nonces.Nonces) (live : Bool) → (c.given ≤ (node_nonces.gives c live).given) × ((node_nonces.gives c live).given ≤ c.given + 1)
gives_next c true = (omega arith, omega arith)
gives_next c false = (omega arith, omega arith)

offered_some : (nonces : List (List ℕ)) (number : ℕ) (payload : List ℕ) → IsOffer nonces number payload → 0 < number
offered_some nonces zero payload is = absurd (let none = is.is.given in grind (arith, none))
offered_some nonces (suc number) payload is = omega arith

-- how the courses go on where a frame is heard, and where it is not
pub record Hears (c before : Courses) (since : ℕ) (held : Held) : Type 0 where
  pub still : CoursesGo c before
  pub message : Goes c.sessions (sessions_hears before.sessions since (as_session held) true)
  pub sealed : NodeGoes c.node (node_nonces.hears before.node (as_node held))
  pub nonce : (goes_out : Bool) → HostGoes c.host (host_nonces.hears before.host (as_host held) goes_out)

-- the courses once the lock heard a frame and answered
pub record Answered (past : Past) (node : ℕ) (c before heard : Courses) (joined : Bool) (air : AirState) : Type 0 where
  pub later : Courses
  pub goes : CoursesGo c later
  pub ways : SameWays before later
  pub lock : SameLock heard later
  pub silent : joined ≡ false → later.node.given ≡ before.node.given
  pub airs : Airs past node later air

module _ (airing : Airing) (past later_past : Past) (node : ℕ) (c before : Courses) (since : ℕ) (held : Held) (h : Hears c before since held) (own : IsOfHost held) (message nonce : Bool) (final : Option ℕ)
    (may : MayAll (after_message before.sessions since held message) (finishes final)) (grows : Grows past later_past) (within : node < 233) (air : AirState) (way : Option Route) (replies : List (List ℕ)) where
  -- as they hear it, where this is the answer
  abbrev heard : Reply → Bool → Courses
  heard reply joined = heard_by before since held joined (record { message = message; nonce = nonce; final = final; reply = reply })

  -- the same, where no nonce is given yet
  abbrev ungiven : Reply → Courses
  ungiven reply = record (heard reply true) { node = node_nonces.hears before.node (as_node held) }

  sessions_first : (b : Bool) → Goes c.sessions (after_message before.sessions since held b)
  sessions_first true = h.message
  sessions_first false = h.still.sessions

  sessions_go : Goes c.sessions (after_all (after_message before.sessions since held message) (finishes final))
  sessions_go = sessions_on c.sessions (after_message before.sessions since held message) (after_all (after_message before.sessions since held message) (finishes final)) (sessions_first message)
      (record { steps = finishes final; may = may; is = refl })

  host_first : (b : Bool) → HostGoes c.host (after_nonce before.host held b)
  host_first true = h.nonce false
  host_first false = h.still.host

  host_waits : HostGoes c.host (waits_by Asks (after_nonce before.host held nonce))
  host_waits = host_on c.host (after_nonce before.host held nonce) (waits_by Asks (after_nonce before.host held nonce)) (host_first nonce) (host_step (after_nonce before.host held nonce) host_nonces.Waits tt)

  -- one that has not joined says nothing
  silent_goes : (reply : Reply) → CoursesGo c (heard reply false)
  silent_goes Nothing = record { sessions = sessions_go; node = h.sealed; host = host_first nonce }
  silent_goes (Tells number) = record { sessions = sessions_go; node = h.sealed; host = host_first nonce }
  silent_goes Gives = record { sessions = sessions_go; node = h.sealed; host = host_first nonce }
  silent_goes Asks = record { sessions = sessions_go; node = h.sealed; host = host_waits }

  -- another frame of the node goes there
  session_passes : (x : Course) → Goes c.sessions x → Goes c.sessions (flies x no_answer)
  session_passes x goes = sessions_on c.sessions x (flies x no_answer) goes (goes_once x (Flies no_answer) tt)

  node_passes : NodeGoes c.node (node_nonces.flies (node_nonces.hears before.node (as_node held)) node_nonces.Of_node)
  node_passes = node_on c.node (node_nonces.hears before.node (as_node held)) (node_nonces.flies (node_nonces.hears before.node (as_node held)) node_nonces.Of_node) h.sealed
      (node_step (node_nonces.hears before.node (as_node held)) (node_nonces.Flies node_nonces.Of_node) tt)

  host_passes : (x : host_nonces.Nonces) → HostGoes c.host x → HostGoes c.host (host_nonces.flies x host_nonces.Of_node)
  host_passes x goes = host_on c.host x (host_nonces.flies x host_nonces.Of_node) goes (host_step x (host_nonces.Flies host_nonces.Of_node) tt)

  says_go : (reply : Reply) → SaysBy reply later_past node before (heard reply true) held true nonce replies → CoursesGo c (said reply (heard reply true))
  says_go Nothing says = silent_goes Nothing
  says_go (Tells number) one = record {
    sessions = sessions_on c.sessions (heard (Tells number) true).sessions (sessions_said (Tells number) (heard (Tells number) true).sessions) sessions_go (goes_once (heard (Tells number) true).sessions reports one.took);
    node = node_passes;
    host = subst (λ (x : host_nonces.Nonces). HostGoes c.host x) (tells_out before.host held nonce number one.heard one.offered one.found) (h.nonce true);
  }
  says_go Gives one =
      let at : node_nonces.Nonces = node_nonces.hears before.node (as_node held) in
      let gave : node_nonces.Nonces = node_nonces.after at node_nonces.Gives in
      record {
        sessions = session_passes (heard Gives true).sessions sessions_go;
        node = node_on c.node gave (node_nonces.flies gave (node_nonces.Offer gave.given)) (node_on c.node at gave h.sealed (node_step at node_nonces.Gives tt)) (node_step gave node_nonces.Offers (one.live refl));
        host = host_passes (after_nonce before.host held nonce) (host_first nonce);
      }
  says_go Asks says = record {
    sessions = session_passes (heard Asks true).sessions sessions_go;
    node = node_passes;
    host = host_passes (waits_by Asks (after_nonce before.host held nonce)) host_waits;
  }

  -- ---- on the air

  one_goes : (reply : Reply) (text : List ℕ) (on : Held) → replies ≡ text ∷ [] → NodeMeans later_past node text on → Puts (ungiven reply) (said reply (heard reply true)) on → Airs later_past node (ungiven reply) air
      → Airs later_past node (said reply (heard reply true)) (answered air node way replies)
  one_goes reply text on says means puts a =
      subst (λ (rs : List (List ℕ)). Airs later_past node (said reply (heard reply true)) (answered air node way rs)) (sym says)
      (sends_one airing later_past node (ungiven reply) (said reply (heard reply true)) air node way text on within a
      (subst (λ (b : Bool). MeansBy Homeward b later_past node text on) (sym (eq-eqb node node refl)) means) puts)

  gives_puts : 0 < (node_nonces.after (node_nonces.hears before.node (as_node held)) node_nonces.Gives).given → Puts (ungiven Gives) (said Gives (heard Gives true)) (Down (Shows (heard Gives true).node.given))
  gives_puts some =
      let at : node_nonces.Nonces = node_nonces.hears before.node (as_node held) in
      let gave : node_nonces.Nonces = node_nonces.after at node_nonces.Gives in
      let keeps : KeepsNode at gave = gives_keeps at at.is_live in
      record {
        sessions = (refl, refl);
        node = (
          ap (λ (fs : List (Flight node_nonces.Cargo)). fs ++ record { cargo = node_nonces.Offer gave.given; since = gave.given } ∷ []) keeps.air,
          ap (λ (fs : List (Flight node_nonces.Cargo)). fs ++ record { cargo = node_nonces.Offer gave.given; since = gave.given } ∷ []) keeps.flown,
        );
        host = (refl, refl);
        begun = refl;
        counts = ((refl, some), (gives_next at at.is_live, refl));
      }

  says_airs : (reply : Reply) → SaysBy reply later_past node before (heard reply true) held true nonce replies → Airs later_past node (ungiven reply) air
      → Airs later_past node (said reply (heard reply true)) (answered air node way replies)
  says_airs Nothing (none, unheard) a = subst (λ (rs : List (List ℕ)). Airs later_past node (said Nothing (heard Nothing true)) (answered air node way rs)) (sym none) a
  says_airs (Tells number) one a =
      one_goes (Tells number) one.reply (Down (Reports (heard (Tells number) true).sessions.device.taken (heard (Tells number) true).sessions.device.status number)) one.says one.means
      (record { sessions = (refl, refl); node = (refl, refl); host = (refl, refl); begun = refl; counts = (refl, refl) }) a
  says_airs Gives one a =
      one_goes Gives one.reply (Down (Shows (heard Gives true).node.given)) one.says (one.means refl)
      (gives_puts (offered_some later_past.given (heard Gives true).node.given one.reply (one.means refl))) a
  says_airs Asks (says, unheard) a =
      one_goes Asks _ Of_node says refl (record { sessions = (refl, refl); node = (refl, refl); host = (refl, refl); begun = refl; counts = (refl, refl) }) a

  -- ---- both

  heard_sessions : KeepsSessions before.sessions (after_all (after_message before.sessions since held message) (finishes final))
  heard_sessions = finishes_keeps before.sessions (after_message before.sessions since held message) final (message_keeps before.sessions since held message own)

  heard_host : (reply : Reply) → KeepsHost before.host (waits_by reply (after_nonce before.host held nonce))
  heard_host reply = waits_keeps reply before.host (after_nonce before.host held nonce) (nonce_keeps before.host held nonce own)

  heard_node : (reply : Reply) (joined : Bool) → KeepsNode before.node (heard reply joined).node
  heard_node reply joined =
      node_then before.node (node_nonces.hears before.node (as_node held)) (heard reply joined).node (sealed_keeps before.node held own).0 (given_keeps reply joined (node_nonces.hears before.node (as_node held)))

  heard_ways : (reply : Reply) (joined : Bool) → SameWays before (heard reply joined)
  heard_ways reply joined = same_ways before (heard reply joined) heard_sessions (heard_node reply joined) (heard_host reply)

  heard_given : (reply : Reply) → (heard reply false).node.given ≡ before.node.given
  heard_given reply = ap (λ (x : node_nonces.Nonces). x.given) (none_given reply (node_nonces.hears before.node (as_node held))) ∙ (sealed_keeps before.node held own).1

  pub answers_by : (joined : Bool) (reply : Reply) → SaysBy reply later_past node before (heard reply joined) held joined nonce replies → Airs past node before air
      → Answered later_past node c before (heard reply joined) joined (answered_if joined air node way replies)
  answers_by true reply says a =
      let there : SameAir before (ungiven reply) = same_air before (ungiven reply) heard_sessions (sealed_keeps before.node held own).0 (heard_host reply) (sealed_keeps before.node held own).1 in
      record {
        later = said reply (heard reply true);
        goes = says_go reply says;
        ways = ways_then before (heard reply true) (said reply (heard reply true)) (heard_ways reply true) (said_ways reply (heard reply true));
        lock = said_lock reply (heard reply true);
        silent = λ e. absurd (grind (arith, e));
        airs = says_airs reply says (airs_stay airing past later_past node before (ungiven reply) air grows there a);
      }
  answers_by false reply says a = record {
    later = heard reply false;
    goes = silent_goes reply;
    ways = heard_ways reply false;
    lock = lock_itself (heard reply false);
    silent = λ e. heard_given reply;
    airs = airs_stay airing past later_past node before (heard reply false) air grows (same_air before (heard reply false) heard_sessions (heard_node reply false) (heard_host reply) (heard_given reply)) a;
  }
