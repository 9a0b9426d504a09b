-- What happens outside the host, in the courses of a lock.
use Rattle.std.proofs.Common.{◌≡◌, ℕ, ◌+◌, ◌<◌, ◌≤◌, ◌==◌, ◌||◌, ◌⊎◌, inl, inr, Bool, true, false, nat_lt, if◌then◌else◌, Option, Some, None, List, [], ◌∷◌, ◌++◌, map, refl, ap, sym, ◌∙◌, subst, append-nil, arith}
use Rattle.std.specs.List.{AllByRecursion}
use Rattle.std.specs.Option.{option_to_list}
use Rattle.std.proofs.lemmas.Bool.{eqb-true}
use Rattle.std.proofs.Math.Nat.{max-eq_right}
use Rattle.proof_course.specs.Flying.{Flight, one_of, hosts}
use Rattle.proof_course.specs.Sessions.{Sends, Flies, HasRoom, is_of_host, flies, sends, Of_host as no_command}
use Rattle.proof_course.specs.NodeNonces as node_nonces
use Rattle.proof_course.specs.HostNonces as host_nonces
use Rattle.proof_course.specs.HostNonceFacts.{NonceFacts as HostFacts, IsDue}
use Rattle.serial_frame.specs.Stream.{Rest}
use Rattle.serial_frame.specs.declared.item.Item.{Item}
use Rattle.serial_link.specs.declared.turn.Turn.{Turn}
use Rattle.serial_pipes.specs.State.{WayState}
use Rattle.route_table.specs.declared.route.Route.{Route}
use Rattle.chip_functions.specs.declared.request.Request.TheVariants.{SendData}
use Rattle.chip_sim.specs.State.{ChipState, ChipParts}
use Rattle.chip_sim.specs.Requests.{asked}
use Rattle.chip_sim.specs.Rules.{WaitsWell}
use Rattle.chip_sim.specs.Did.{MayAll, judged_all}
use Rattle.chip_sim.specs.Events.{Judged}
use Rattle.chip_sim.specs.Events as chip
use Rattle.air_frames.specs.declared.frame.Departure.{Departure}
use Rattle.air_frames.specs.declared.frame.Heading.{Heading}
use Rattle.air_frames.specs.declared.frame.Heading.TheVariants.{Outward, Homeward}
use Rattle.air_frames.specs.Flown.{Flown}
use Rattle.air_frames.specs.Frames.{FramesState, putting}
use Rattle.air_frames.specs.History.{Mark, Goes as goes_mark}
use Rattle.proof_course_plain.specs.Flights.{Fly as FlyInOrder, flown_now}
use Rattle.device_sim.specs.State.{State}
use Rattle.zw_text.specs.declared.entry.Entry.{Entry}
use Rattle.mesh_sim.specs.Air.{AirState, departing, is_joined}
use Rattle.outside_model.specs.State.{OuterState, Outside, outside, each}
use Rattle.outside_model.specs.Chip.{chip_does, chip_takes, MayTake}
use Rattle.outside_model.specs.Events.{has_entered}
use Rattle.proof_course_plain.specs.OutsideTraffic.{one_outward, outward}
use Rattle.proof_course_plain.specs.OnAir.{IsFew, StaysFew, fed_chip}
use Rattle.proof_course_plain.specs.proof_serial.Way.{Carries}
use Rattle.proof_course_plain.specs.proof_serial.Chip.{HasFrames, ChipDoes}
use Rattle.proof_course_plain.proofs.Ways.{carries_left}
use Rattle.proof_course_plain.proofs.ChipWays.{does_one, does_each}
use Rattle.proof_course_plain.specs.Ways.{Beside, Thinned}
use Rattle.proof_course_plain.specs.Mesh.{labels}
use Rattle.proof_course_plain.specs.Lines.{ItemIs, OnWay}
use Rattle.proof_course_plain.proofs.WayLabels.{thinned_same, thinned_after, thinned_then, first_label}
use Rattle.proof_course_plain.proofs.ChipNotices.{ChipTells}
use Rattle.proof_course_plain.proofs.HostActs.{way_weaker}
use Rattle.proof_course_plain.proofs.Outer.{Way, WayGoes, way_goes, thinned_given, Departs, item_air, asked_node}
use Rattle.proof_course_sealed.specs.Labels.{Sent, Sealed, Offer, Reports, Shows, Late, Held, Up, Of_host, Down, Of_node, picked, offer_of, report_of, shown_by, answers_for, as_session, as_node, as_host}
use Rattle.proof_course_sealed.specs.Courses.{Courses, CoursesGo, HostGoes, GoUp, GoDown, with_up, with_down, Aloft, of_sessions, of_node, of_host, SameBooks, SameUp, AddsDown}
use Rattle.proof_course_sealed.specs.Meaning.{Past, Grows, GivesMore, HostMeans}
use Rattle.proof_course_sealed.specs.Air.{MeansBy, Bears, OnAir, Puts}
use Rattle.proof_course_sealed.specs.Mesh.{InMesh, IsTold}
use Rattle.proof_course_sealed.specs.Lines.{Tells, Asks, asked_as}
use Rattle.proof_course_sealed.specs.Outside.{Follows, OuterGoes}
use Rattle.proof_course_sealed.proofs.ThinnedWays.{picked-append, up_together, down_together}
use Rattle.proof_course_sealed.proofs.CourseSteps.{goes_on, goes_once, goes_nowhere, grows_none, gives_none, gives_grows}
use Rattle.proof_course_sealed.proofs.Elsewhere.{asks_stays, tells_stays, SameLock, AirStays, mesh_with, mesh_up, mesh_down}

-- ---- other labels on their way

pub same_books : (c : Courses) → SameBooks c c
same_books c = record { host = refl; told = refl; seen = refl; waits = refl; given = refl; is_live = refl }

pub books_then : (a b c : Courses) → SameBooks a b → SameBooks b c → SameBooks a c
books_then a b c first later = record {
  host = later.host ∙ first.host;
  told = later.told ∙ first.told;
  seen = later.seen ∙ first.seen;
  waits = later.waits ∙ first.waits;
  given = later.given ∙ first.given;
  is_live = later.is_live ∙ first.is_live;
}

-- the host knows nothing of what is on its way
pub books_up : (c : Courses) (carried : List Sent) (text : Option ℕ) (tasks : List ℕ) → SameBooks c (with_up c carried text tasks)
books_up c carried text tasks = record { host = refl; told = refl; seen = refl; waits = refl; given = refl; is_live = refl }

pub books_down : (c later : Courses) (late : List Late) → SameBooks c later → SameBooks c (with_down later late)
books_down c later late same = record { host = same.host; told = same.told; seen = same.seen; waits = same.waits; given = same.given; is_live = same.is_live }

up_same : (c later : Courses) (carried : List Sent) (text : Option ℕ) (tasks : List ℕ) → SameUp c later → GoUp c carried text tasks → GoUp later carried text tasks
up_same c later carried text tasks same go = record { messages = same.messages ∙ go.messages; sealed = same.sealed ∙ go.sealed; offers = same.offers ∙ go.offers }

pub up_down : (c : Courses) (carried : List Sent) (text : Option ℕ) (tasks : List ℕ) (late : List Late) → GoUp c carried text tasks → GoUp (with_down c late) carried text tasks
up_down c carried text tasks late go = record { messages = go.messages; sealed = go.sealed; offers = go.offers }

pub down_up : (c : Courses) (late : List Late) (carried : List Sent) (text : Option ℕ) (tasks : List ℕ) → GoDown c late → GoDown (with_up c carried text tasks) late
down_up c late carried text tasks go = record { reports = go.reports; nonces = go.nonces; answers = go.answers }

-- one course has more on its way to the host
adds_picked : {B : Type 0} (pick : Late → Option B) (old new : List B) (late more : List Late) → new ≡ old ++ picked pick more → old ≡ picked pick late → new ≡ picked pick (late ++ more)
adds_picked pick old new late more adds are = adds ∙ (ap (λ l. l ++ picked pick more) are ∙ sym (picked-append pick late more))

down_adds : (c later : Courses) (late more : List Late) → AddsDown c later more → GoDown c late → GoDown later (late ++ more)
down_adds c later late more adds go = record {
  reports = adds_picked report_of c.sessions.down later.sessions.down late more adds.reports go.reports;
  nonces = adds_picked (λ (l : Late). shown_by l.said) c.node.down later.node.down late more adds.nonces go.nonces;
  answers = adds_picked (λ (l : Late). answers_for l.said) c.host.down later.host.down late more adds.answers go.answers;
}

-- ---- an event that leaves the way to the chip

module _ (stays : AirStays) (past : Past) (node : ℕ) where
  pub outer_goes : (c : Courses) (text : Option ℕ) (tasks : List ℕ) (rest : Rest) (turn : Turn) (up down : List Item) (w : Outside) (later_past : Past) (later : Courses) (given : List Late) (o p : OuterState) (devices : List State)
      → Follows past node c text tasks rest turn up down w → o.chip ≡ w.outer.chip → o.to_host ≡ w.outer.to_host → o.to_chip ≡ w.outer.to_chip → GivesMore past later_past → CoursesGo c later → SameBooks c later → SameUp c later
      → AddsDown c later given → InMesh later_past node later (record { air = o.air; devices = devices }) → ChipTells (IsTold later_past node) node given o p → OuterGoes past node c text tasks rest turn (outside p devices)
  outer_goes c text tasks rest turn up down w later_past later given o p devices f chip to_host to_chip gives goes books same adds mesh tells =
      let grows : Grows past later_past = gives_grows past later_past gives in
      let reports : OnWay (Tells later_past node) f.late down w.outer.chip.state.port.side.turn w.outer.chip.state.port.waiting =
      way_weaker (Tells past node) (Tells later_past node) (λ frame mark. tells_stays past later_past node frame mark grows) f.late down w.outer.chip.state.port.side.turn w.outer.chip.state.port.waiting f.reports in
      let before : Way (IsTold later_past node) node f.late rest down o = record {
        to_host = subst (λ (y : WayState). Carries rest y down) (sym to_host) f.to_host;
        frames = subst (λ (x : ChipParts). HasFrames x.state.port) (sym chip) f.frames;
        waits = subst (λ (x : ChipParts). WaitsWell x.state.port) (sym chip) f.waits;
        reports = subst (λ (x : ChipParts). OnWay (Tells later_past node) f.late down x.state.port.side.turn x.state.port.waiting) (sym chip) reports;
      } in
      let g : WayGoes (IsTold later_past node) node (f.late ++ labels tells.marks) rest o p = way_goes (IsTold later_past node) node f.late rest down o p tells.events tells.marks before tells.does tells.gives in
      let thin : Thinned (f.late ++ given) g.now = thinned_then (f.late ++ given) (f.late ++ labels tells.marks) g.now (thinned_given f.late given (labels tells.marks) tells.are) g.thin in
      let now : Courses = with_down later g.now in
      record {
        later_past = later_past;
        later = now;
        gives = gives;
        goes = goes_on c later now goes (down_together later (f.late ++ given) g.now (down_adds c later f.late given adds f.go_down) thin);
        books = books_down c later g.now books;
        up = up;
        down = g.down;
        follows = record {
          mesh = mesh_down stays later_past node later (record { air = p.air; devices = devices }) g.now (subst (λ (air : AirState). InMesh later_past node later (record { air = air; devices = devices })) (sym tells.air) mesh);
          to_chip = subst (λ (y : WayState). Carries p.chip.decoder y up) (sym (tells.does.to_chip ∙ to_chip))
              (subst (λ (r : Rest). Carries r w.outer.to_chip up) (sym (tells.does.decoder ∙ ap (λ (x : ChipParts). x.decoder) chip)) f.to_chip);
          to_host = g.way.to_host;
          frames = g.way.frames;
          waits = g.way.waits;
          carried = f.carried;
          go_up = up_down later f.carried text tasks g.now (up_same c later f.carried text tasks same f.go_up);
          messages = way_weaker (Asks past node) (Asks later_past node) (λ frame mark. asks_stays past later_past node frame mark grows) f.carried up turn [] f.messages;
          late = g.now;
          go_down = record { reports = refl; nonces = refl; answers = refl };
          reports = g.way.reports;
        };
      }

-- entries change nothing of this
pub entered : (past : Past) (node : ℕ) (c : Courses) (text : Option ℕ) (tasks : List ℕ) (rest : Rest) (turn : Turn) (p : OuterState) (devices : List State) (entries : List Entry) → OuterGoes past node c text tasks rest turn (outside p devices)
    → OuterGoes past node c text tasks rest turn (outside (has_entered p entries) devices)
entered past node c text tasks rest turn p devices [] g = g
entered past node c text tasks rest turn p devices (entry ∷ entries) g = record {
  later_past = g.later_past;
  later = g.later;
  gives = g.gives;
  goes = g.goes;
  books = g.books;
  up = g.up;
  down = g.down;
  follows = record {
    mesh = g.follows.mesh;
    to_chip = g.follows.to_chip;
    to_host = g.follows.to_host;
    frames = g.follows.frames;
    waits = g.follows.waits;
    carried = g.follows.carried;
    go_up = g.follows.go_up;
    messages = g.follows.messages;
    late = g.follows.late;
    go_down = g.follows.go_down;
    reports = g.follows.reports;
  };
}

-- ---- how many frames of the host are on the air

-- the host sent what is held
abbrev is_sent : Held → Bool
is_sent (Up sent) = true
is_sent Of_host = true
is_sent (Down said) = false
is_sent Of_node = false

one_sent : (past : Past) (node : ℕ) (payload : List ℕ) (heading : Heading) (own : Bool) (held : Held) → MeansBy heading own past node payload held → one_of is_sent held ≡ one_outward heading
one_sent past node payload Outward true (Up sent) means = refl
one_sent past node payload Outward true Of_host means = refl
one_sent past node payload Outward true (Down said) means = absurd means
one_sent past node payload Outward true Of_node means = absurd means
one_sent past node payload Homeward true (Up sent) means = absurd means
one_sent past node payload Homeward true Of_host means = absurd means
one_sent past node payload Homeward true (Down said) means = refl
one_sent past node payload Homeward true Of_node means = refl
one_sent past node payload Outward false held means = ap (one_of is_sent) means
one_sent past node payload Homeward false held means = ap (one_of is_sent) means

-- each course counts as many as the air has
module _ {C : Type 0} (is_hosts : C → Bool) (of : Aloft → Flight C) (same : (aloft : Aloft) → is_hosts (of aloft).cargo ≡ is_sent aloft.held) (past : Past) (node : ℕ) (c : Courses) where
  hosts_are : (frames : List Flown) (air : List Aloft) → Beside (Bears past node c) frames air → hosts is_hosts (map of air) ≡ outward frames
  hosts_are [] [] is = refl
  hosts_are [] (aloft ∷ air) is = absurd is
  hosts_are (frame ∷ frames) [] is = absurd is
  hosts_are (frame ∷ frames) (aloft ∷ air) is =
      let one : one_of is_hosts (of aloft).cargo ≡ one_outward frame.heading = ap (λ (b : Bool). if b then 1 else 0) (same aloft) ∙ one_sent past node frame.payload frame.heading (frame.node == node) aloft.held is.0.1 in
      let more = hosts_are frames air is.1 in omega (arith, one, more)

sessions_sent : (held : Held) → is_of_host (as_session held) ≡ is_sent held
sessions_sent (Up (Sealed session number)) = refl
sessions_sent (Up (Offer number)) = refl
sessions_sent Of_host = refl
sessions_sent (Down (Reports session status number)) = refl
sessions_sent (Down (Shows number)) = refl
sessions_sent Of_node = refl

node_sent : (held : Held) → node_nonces.is_of_host (as_node held) ≡ is_sent held
node_sent (Up (Sealed session number)) = refl
node_sent (Up (Offer number)) = refl
node_sent Of_host = refl
node_sent (Down (Reports session status number)) = refl
node_sent (Down (Shows number)) = refl
node_sent Of_node = refl

host_sent : (held : Held) → host_nonces.is_of_host (as_host held) ≡ is_sent held
host_sent (Up (Sealed session number)) = refl
host_sent (Up (Offer number)) = refl
host_sent Of_host = refl
host_sent (Down (Reports session status number)) = refl
host_sent (Down (Shows number)) = refl
host_sent Of_node = refl

-- each course has room for one more
pub record HaveRoom (c : Courses) : Type 0 where
  pub sessions : HasRoom c.sessions
  pub nonces : node_nonces.HasRoom c.node
  pub offers : host_nonces.HasRoom c.host

room_as : {C : Type 0} (is_hosts : C → Bool) (now flights : List (Flight C)) (sent : ℕ) → now ≡ flights → hosts is_hosts flights ≡ sent → sent ≤ 1 → hosts is_hosts now ≤ 1
room_as is_hosts now flights sent same are few = let count : hosts is_hosts now ≡ sent = ap (hosts is_hosts) same ∙ are in omega (arith, count, few)

have_room : (past : Past) (node : ℕ) (c : Courses) (log : List Mark) (flights : List Flown) (frames : FramesState) → OnAir past node c log flights frames → outward flights ≤ 1 → HaveRoom c
have_room past node c log flights frames on few = record {
  sessions = room_as is_of_host c.sessions.air (map of_sessions on.air) (outward flights) on.are.sessions.0 (hosts_are is_of_host of_sessions (λ aloft. sessions_sent aloft.held) past node c flights on.air on.flying) few;
  nonces = room_as node_nonces.is_of_host c.node.air (map of_node on.air) (outward flights) on.are.node.0 (hosts_are node_nonces.is_of_host of_node (λ aloft. node_sent aloft.held) past node c flights on.air on.flying) few;
  offers = room_as host_nonces.is_of_host c.host.air (map of_host on.air) (outward flights) on.are.host.0 (hosts_are host_nonces.is_of_host of_host (λ aloft. host_sent aloft.held) past node c flights on.air on.flying) few;
}

-- ---- what the chip puts on the air

-- the course of what the chip puts there: what is first on its way to it, or nothing of these
abbrev puts : Courses → Option Sent → Courses
puts c None = record { sessions = flies c.sessions no_command; node = node_nonces.flies c.node node_nonces.Of_host; host = host_nonces.flies c.host host_nonces.Of_host }
puts c (Some (Sealed session number)) = record { sessions = sends c.sessions c.sessions.up; node = node_nonces.sends c.node c.node.up; host = host_nonces.flies c.host host_nonces.Of_host }
puts c (Some (Offer number)) = record { sessions = flies c.sessions no_command; node = node_nonces.flies c.node node_nonces.Of_host; host = host_nonces.sends c.host c.host.up }

puts_go : (c : Courses) (mark : Option Sent) → HaveRoom c → CoursesGo c (puts c mark)
puts_go c None room = goes_once c (Flies no_command) (node_nonces.Flies node_nonces.Of_host) (host_nonces.Flies host_nonces.Of_host) room.sessions room.nonces room.offers
puts_go c (Some (Sealed session number)) room = goes_once c Sends node_nonces.Sends (host_nonces.Flies host_nonces.Of_host) room.sessions room.nonces room.offers
puts_go c (Some (Offer number)) room = goes_once c (Flies no_command) (node_nonces.Flies node_nonces.Of_host) host_nonces.Sends room.sessions room.nonces room.offers

-- a nonce that is first on its way is the last that the air showed, or the next one
record IsNext (shown number : ℕ) : Type 0 where
  some : 0 < number
  least : shown ≤ number
  most : number ≤ shown + 1

is_next : (c : host_nonces.Nonces) (number : ℕ) (later : List ℕ) → HostFacts c → c.up ≡ number ∷ later → IsNext c.shown number
is_next c number later facts first =
    let due : IsDue c.shown c.given number = (subst (λ (ns : List ℕ). AllByRecursion (IsDue c.shown c.given) ns) first facts.due).0 in
    let given = due.was_given in
    let ahead = facts.one_ahead in
    let seen = facts.sent_seen in
    let shown = facts.seen_shown in
    record { some = due.from_one; least = due.unsent; most = omega (arith, given, ahead, seen, shown) }

-- with these on their way, of which the first is put there
module _ (c : Courses) (now : List Sent) (text : Option ℕ) (tasks : List ℕ) where
  abbrev before : Option Sent → Courses
  before mark = with_up c (option_to_list mark ++ now) text tasks

  puts_so : (mark : Option Sent) → HostFacts (before mark).host → Puts (before mark) (puts (before mark) mark) (asked_as mark)
  puts_so None facts = record { sessions = (refl, refl); node = (refl, refl); host = (refl, refl); begun = refl; counts = (refl, refl) }
  puts_so (Some (Sealed session number)) facts = record { sessions = (refl, refl); node = (refl, refl); host = (refl, refl); begun = refl; counts = (refl, refl) }
  puts_so (Some (Offer number)) facts =
      let next : IsNext c.host.shown number = is_next (before (Some (Offer number))).host number (picked offer_of now ++ tasks) facts refl in
      record { sessions = (refl, refl); node = (refl, refl); host = (refl, refl); begun = refl; counts = ((max-eq_right next.least, next.some), ((next.least, next.most), refl)) }

  puts_lock : (mark : Option Sent) → SameLock (before mark) (puts (before mark) mark)
  puts_lock None = record { device = refl; kept = refl; ends = refl; given = refl; is_live = refl; seen = refl; waits = refl }
  puts_lock (Some (Sealed session number)) = record { device = refl; kept = refl; ends = refl; given = refl; is_live = refl; seen = refl; waits = refl }
  puts_lock (Some (Offer number)) = record { device = refl; kept = refl; ends = refl; given = refl; is_live = refl; seen = refl; waits = refl }

  puts_books : (mark : Option Sent) → SameBooks c (puts (before mark) mark)
  puts_books None = record { host = refl; told = refl; seen = refl; waits = refl; given = refl; is_live = refl }
  puts_books (Some (Sealed session number)) = record { host = refl; told = refl; seen = refl; waits = refl; given = refl; is_live = refl }
  puts_books (Some (Offer number)) = record { host = refl; told = refl; seen = refl; waits = refl; given = refl; is_live = refl }

  puts_up : (mark : Option Sent) → GoUp (puts (before mark) mark) now text tasks
  puts_up None = record { messages = refl; sealed = refl; offers = refl }
  puts_up (Some (Sealed session number)) = record { messages = refl; sealed = refl; offers = refl }
  puts_up (Some (Offer number)) = record { messages = refl; sealed = refl; offers = refl }

  puts_down : (mark : Option Sent) (late : List Late) → GoDown c late → GoDown (puts (before mark) mark) late
  puts_down None late go = record { reports = go.reports; nonces = go.nonces; answers = go.answers }
  puts_down (Some (Sealed session number)) late go = record { reports = go.reports; nonces = go.nonces; answers = go.answers }
  puts_down (Some (Offer number)) late go = record { reports = go.reports; nonces = go.nonces; answers = go.answers }

-- ---- an item is judged

-- what is outside but for the bytes to the chip
pub record Half (past : Past) (node : ℕ) (c : Courses) (text : Option ℕ) (tasks : List ℕ) (rest : Rest) (turn : Turn) (up down : List Item) (o : OuterState) (devices : List State) : Type 0 where
  pub mesh : InMesh past node c (record { air = o.air; devices = devices })
  pub carried : List Sent
  pub go_up : GoUp c carried text tasks
  pub messages : OnWay (Asks past node) carried up turn []
  pub late : List Late
  pub go_down : GoDown c late
  pub way : Way (IsTold past node) node late rest down o

pub record HalfGoes (past : Past) (node : ℕ) (c : Courses) (text : Option ℕ) (tasks : List ℕ) (rest : Rest) (turn : Turn) (up : List Item) (o : OuterState) (devices : List State) : Type 0 where
  pub later : Courses
  pub goes : CoursesGo c later
  pub books : SameBooks c later
  pub down : List Item
  pub half : Half past node later text tasks rest turn up down o devices

-- the laws that are used
pub record AirLaws : Type 0 where
  pub stays : AirStays
  pub flying : (past later_past : Past) (node : ℕ) (c later : Courses) (log : List Mark) (flights : List Flown) (frames : FramesState) (departure : Departure) (held : Held) → departure.node < 233 → OnAir past node c log flights frames → Grows past later_past
      → MeansBy departure.heading (departure.node == node) later_past node departure.payload held → Puts c later held → OnAir later_past node later (log ++ goes_mark departure ∷ []) (flights ++ flown_now log departure ∷ []) (putting frames departure)
  pub room : (log : List Mark) (before : List Flown) (flight : Flown) (o : OuterState) → FlyInOrder log (before ++ flight ∷ []) o.air.frames → flight.heading ≡ Outward → IsFew o → outward before ≤ 1
  pub offers : (c : host_nonces.Nonces) (steps : List host_nonces.Step) → HostFacts c → host_nonces.MayAll c steps → HostFacts (host_nonces.after_all c steps)

offers_go : AirLaws → (c later : host_nonces.Nonces) → HostFacts c → HostGoes c later → HostFacts later
offers_go laws c later facts goes = subst (λ (x : host_nonces.Nonces). HostFacts x) (sym goes.is) (laws.offers c goes.steps facts goes.may)

module _ (laws : AirLaws) (past : Past) (node : ℕ) (text : Option ℕ) (tasks : List ℕ) where
  -- a frame of the host goes on the air with this
  puts_on : (c later : Courses) (air : AirState) (o : OuterState) (devices : List State) (to : ℕ) (route : Route) (payload : List ℕ) (held : Held) → InMesh past node c (record { air = air; devices = devices }) → to < 233
      → o.air ≡ departing air to Outward (Some route) payload → IsFew o → Puts c later held → SameLock c later → ((to == node) ≡ true → HostMeans past node payload held) → ((to == node) ≡ false → held ≡ Of_host)
      → HaveRoom c × InMesh past node later (record { air = o.air; devices = devices })
  puts_on c later air o devices to route payload held mesh within air_is few put same own other =
      let d : Departure = record { node = to; heading = Outward; route = route; lost = nat_lt 0 air.losing || false; payload = payload } in
      let log : List Mark = mesh.log ++ goes_mark d ∷ [] in
      let flights : List Flown = mesh.flights ++ flown_now mesh.log d ∷ [] in
      let on : OnAir past node later log flights (departing air to Outward (Some route) payload).frames
      = laws.flying past past node c later mesh.log mesh.flights air.frames d held within mesh.on_air (grows_none past) (means (to == node) refl) put in
      let here : OnAir past node later log flights o.air.frames = subst (λ (a : AirState). OnAir past node later log flights a.frames) (sym air_is) on in (
        have_room past node c mesh.log mesh.flights air.frames mesh.on_air (laws.room log mesh.flights (flown_now mesh.log d) o here.fly refl few),
        mesh_with past past node c later (record { air = air; devices = devices }) (record { air = o.air; devices = devices }) log flights mesh (grows_none past) refl same here (ap (λ (a : AirState). is_joined a node) air_is) refl,
      )
    where
      means : (b : Bool) → (to == node) ≡ b → MeansBy Outward b past node payload held
      means true e = own e
      means false e = other e

  -- the item is judged, and what is on its way to the host keeps its labels
  module _ (c : Courses) (rest : Rest) (turn : Turn) (item : Item) (up down : List Item) (o : OuterState) (devices : List State) (route : Option Route) (h : Half past node c text tasks rest turn (item ∷ up) down o devices)
      (facts : HostFacts c.host) (may : chip.May o.chip.state (Judged item route)) (few : IsFew (chip_does o (Judged item route)).outer) where
    abbrev p : OuterState
    p = (chip_does o (Judged item route)).outer

    told_on : WayGoes (IsTold past node) node (h.late ++ labels (None ∷ [])) rest o p
    told_on = way_goes (IsTold past node) node h.late rest down o p (Judged item route ∷ []) (None ∷ []) h.way (does_one o (Judged item route) may) (refl, tt)

    ends_with : (later : Courses) (now : List Sent) → CoursesGo c later → SameBooks c later → GoUp later now text tasks → GoDown later h.late → InMesh past node later (record { air = p.air; devices = devices }) → OnWay (Asks past node) now up turn []
        → HalfGoes past node c text tasks rest turn up p devices
    ends_with later now goes books go_up go_down mesh messages =
        let thin : Thinned h.late told_on.now = subst (λ (ls : List Late). Thinned ls told_on.now) (append-nil h.late) told_on.thin in
        record {
          later = with_down later told_on.now;
          goes = goes_on c later (with_down later told_on.now) goes (down_together later h.late told_on.now go_down thin);
          books = books_down c later told_on.now books;
          down = told_on.down;
          half = record {
            mesh = mesh_down laws.stays past node later (record { air = p.air; devices = devices }) told_on.now mesh;
            carried = now;
            go_up = up_down later now text tasks told_on.now go_up;
            messages = messages;
            late = told_on.now;
            go_down = record { reports = refl; nonces = refl; answers = refl };
            way = told_on.way;
          };
        }

    -- what is on its way to the chip is this
    up_goes : (now : List Sent) → Thinned h.carried now → CoursesGo c (with_up c now text tasks)
    up_goes now thin = up_together c h.carried now text text tasks tasks h.go_up thin (thinned_same (option_to_list text)) (thinned_same tasks)

    -- the first label, or none, goes on the air
    puts_first : (mark : Option Sent) (now : List Sent) → Thinned h.carried (option_to_list mark ++ now) → OnWay (Asks past node) now up turn [] → (d : Departs o item p.air)
        → ((d.to == node) ≡ true → HostMeans past node d.payload (asked_as mark)) → ((d.to == node) ≡ false → asked_as mark ≡ Of_host) → HalfGoes past node c text tasks rest turn up p devices
    puts_first mark now thin messages d own other =
        let mid : Courses = before c now text tasks mark in
        let goes : CoursesGo c mid = up_goes (option_to_list mark ++ now) thin in
        let mesh : InMesh past node mid (record { air = o.air; devices = devices }) = mesh_up laws.stays past node c (record { air = o.air; devices = devices }) (option_to_list mark ++ now) text tasks h.mesh in
        let put : Puts mid (puts mid mark) (asked_as mark) = puts_so c now text tasks mark (offers_go laws c.host mid.host facts goes.host) in
        let on : HaveRoom mid × InMesh past node (puts mid mark) (record { air = p.air; devices = devices })
        = puts_on mid (puts mid mark) o.air p devices d.to d.route d.payload (asked_as mark) mesh (asked_node d.frame d.to d.payload d.options d.id d.asks) d.air_is few put (puts_lock c now text tasks mark) own other in
        ends_with (puts mid mark) now (goes_on c mid (puts mid mark) goes (puts_go mid mark on.0)) (puts_books c now text tasks mark) (puts_up c now text tasks mark) (puts_down c now text tasks mark h.late h.go_down) on.1 messages

    judge_by : (mark : Option Sent) (now : List Sent) → ItemIs (Asks past node) item mark → h.carried ≡ option_to_list mark ++ now → OnWay (Asks past node) now up turn [] → (p.air ≡ o.air) ⊎ Departs o item p.air
        → HalfGoes past node c text tasks rest turn up p devices
    judge_by mark now is up_is messages (inl same) =
        let thin : Thinned h.carried now = subst (λ (us : List Sent). Thinned us now) (sym up_is) (thinned_after (option_to_list mark) now now (thinned_same now)) in
        let mesh : InMesh past node c (record { air = p.air; devices = devices }) = subst (λ (a : AirState). InMesh past node c (record { air = a; devices = devices })) (sym same) h.mesh in
        ends_with (with_up c now text tasks) now (up_goes now thin) (books_up c now text tasks) (record { messages = refl; sealed = refl; offers = refl }) (down_up c h.late now text tasks h.go_down)
        (mesh_up laws.stays past node c (record { air = p.air; devices = devices }) now text tasks mesh) messages
    judge_by mark now is up_is messages (inr d) = by (d.to == node) refl
      where
        by : (b : Bool) → (d.to == node) ≡ b → HalfGoes past node c text tasks rest turn up p devices
        by true own =
            puts_first mark now (subst (λ (us : List Sent). Thinned h.carried us) up_is (thinned_same h.carried)) messages d
            (λ e. is d.frame d.is d.payload d.options d.id (subst (λ (n : ℕ). asked d.frame ≡ Some (SendData n d.payload d.options d.id)) (eqb-true d.to node own) d.asks)) (λ e. absurd (grind (arith, own, e)))
        by false other =
            puts_first None now (subst (λ (us : List Sent). Thinned us now) (sym up_is) (thinned_after (option_to_list mark) now now (thinned_same now))) messages d (λ e. absurd (grind (arith, other, e))) (λ e. refl)

    pub judge_one : HalfGoes past node c text tasks rest turn up p devices
    judge_one =
        let w = first_label (Asks past node) h.carried item up turn [] h.messages in
        judge_by w.0 w.1.1.0 w.1.0 w.1.1.1.0 w.1.1.1.1 (item_air o item route)

  -- ---- items one after another

  half_then : (c : Courses) (rest : Rest) (turn : Turn) (up : List Item) (o : OuterState) (devices : List State) (later : Courses) → CoursesGo c later → SameBooks c later → HalfGoes past node later text tasks rest turn up o devices
      → HalfGoes past node c text tasks rest turn up o devices
  half_then c rest turn up o devices later goes books g =
      record { later = g.later; goes = goes_on c later g.later goes g.goes; books = books_then c later g.later books g.books; down = g.down; half = g.half }

  pub judge_all : (c : Courses) (rest : Rest) (turn : Turn) (ways : List (Item × Option Route)) (up down : List Item) (o : OuterState) (devices : List State) → HostFacts c.host
      → Half past node c text tasks rest turn (map (λ w. w.0) ways ++ up) down o devices → MayAll o.chip.state (judged_all ways) → StaysFew o ways → HalfGoes past node c text tasks rest turn up (each chip_does o (judged_all ways)).outer devices
  judge_all c rest turn [] up down o devices facts h may few = record { later = c; goes = goes_nowhere c; books = same_books c; down = down; half = h }
  judge_all c rest turn (way ∷ ways) up down o devices facts h may few =
      let one : HalfGoes past node c text tasks rest turn (map (λ w. w.0) ways ++ up) (chip_does o (Judged way.0 way.1)).outer devices = judge_one c rest turn way.0 (map (λ w. w.0) ways ++ up) down o devices way.1 h facts may.0 few.0 in
      half_then c rest turn up (each chip_does (chip_does o (Judged way.0 way.1)).outer (judged_all ways)).outer devices one.later one.goes one.books
      (judge_all one.later rest turn ways up one.down (chip_does o (Judged way.0 way.1)).outer devices (offers_go laws c.host one.later.host facts one.goes.host) one.half
      (subst (λ (s : ChipState). MayAll s (judged_all ways)) (sym (does_one o (Judged way.0 way.1) may.0).state) may.1) few.1)

  -- the chip takes bytes
  pub takes_go : (c : Courses) (rest : Rest) (turn : Turn) (up down : List Item) (w : Outside) (count : ℕ) (after_rest : Rest) (ways : List (Item × Option Route)) → HostFacts c.host → Follows past node c text tasks rest turn up down w
      → MayTake w.outer count after_rest ways → StaysFew (fed_chip w.outer count after_rest) ways → OuterGoes past node c text tasks rest turn (outside (chip_takes w.outer count after_rest ways).outer w.devices)
  takes_go c rest turn up down w count after_rest ways facts f may few =
      let o : OuterState = w.outer in
      let fed : OuterState = fed_chip o count after_rest in
      let left = carries_left o.chip.decoder after_rest count o.to_chip up (map (λ w. w.0) ways) may.feeds f.to_chip in
      let h : Half past node c text tasks rest turn (map (λ w. w.0) ways ++ left.left) down fed w.devices = record {
        mesh = f.mesh;
        carried = f.carried;
        go_up = f.go_up;
        messages = subst (λ (is : List Item). OnWay (Asks past node) f.carried is turn []) left.parts f.messages;
        late = f.late;
        go_down = f.go_down;
        way = record { to_host = f.to_host; frames = f.frames; waits = f.waits; reports = f.reports };
      } in
      let g : HalfGoes past node c text tasks rest turn left.left (each chip_does fed (judged_all ways)).outer w.devices = judge_all c rest turn ways left.left down fed w.devices facts h may.judges few in
      let does : ChipDoes (judged_all ways) fed (each chip_does fed (judged_all ways)).outer = does_each fed (judged_all ways) may.judges in
      record {
        later_past = past;
        later = g.later;
        gives = gives_none past;
        goes = g.goes;
        books = g.books;
        up = left.left;
        down = g.down;
        follows = record {
          mesh = g.half.mesh;
          to_chip = subst (λ (y : WayState). Carries (each chip_does fed (judged_all ways)).outer.chip.decoder y left.left) (sym does.to_chip)
              (subst (λ (r : Rest). Carries r fed.to_chip left.left) (sym does.decoder) left.feeds);
          to_host = g.half.way.to_host;
          frames = g.half.way.frames;
          waits = g.half.way.waits;
          carried = g.half.carried;
          go_up = g.half.go_up;
          messages = g.half.messages;
          late = g.half.late;
          go_down = g.half.go_down;
          reports = g.half.way.reports;
        };
      }
