-- While the device of a node has not taken the last session of the host, nothing on its way to that tells the end of it: by the course of the node each report is of a session that was taken, and of the last 63.
use Rattle.std.proofs.Common.{◌≡◌, ◌≢◌, ◌≤◌, ◌<◌, ℕ, ◌+◌, ◌==◌, inl, Bool, true, Option, Some, None, List, [], ◌∷◌, ◌++◌, length, append-nil, refl, sym, ◌∙◌, subst, arith}
use Rattle.std.proofs.lemmas.Bool.{eq-eqb}
use Rattle.std.specs.List.{AllByRecursion}
use Rattle.zw_base.proofs.Each.{all-append, all-left, all-right, all-weaker}
use Rattle.supervision.specs.Ends.{Report as SessionReport}
use Rattle.supervision.specs.Host.{begun_of}
use Rattle.supervision.specs.Session.{wire_id}
use Rattle.serial_frame.specs.Frame.{FrameParts}
use Rattle.serial_frame.specs.declared.item.Item.{Item}
use Rattle.chip_functions.specs.Field.{IsNode}
use Rattle.chip_functions.specs.Notice.{notice_body, notice_function}
use Rattle.chip_functions.specs.declared.notice.Notice.{Notice}
use Rattle.chip_functions.specs.declared.notice.Notice.TheVariants.{ApplicationCommandHandler}
use Rattle.chip_functions.proofs.NoticeLaws.{notice_only}
use Rattle.chip_sim.specs.Waiting.{PortState}
use Rattle.air_frames.specs.Flown.{Flown}
use Rattle.air_frames.specs.declared.frame.Heading.{Heading}
use Rattle.air_frames.specs.declared.frame.Heading.TheVariants.{Homeward}
use Rattle.encap.specs.Opening.{opened_at}
use Rattle.device_kinds.specs.Answers.{report_status}
use Rattle.host_heard.specs.Telling.{heard_at}
use Rattle.host_heard.specs.declared.payload.Heard.TheVariants.{Messages, Unread}
use Rattle.host_heard.specs.declared.told.Told.{Told}
use Rattle.host_heard.specs.declared.told.Told.TheVariants.{NonceGet, NonceReport, Notification, Report, SegmentRequest, Values}
use Rattle.world_model.specs.State.{Machine}
use Rattle.proof_messages.specs.Reporting.{IsNoReport, TellsNone}
use Rattle.proof_messages.proofs.DeviceReports.{same_messages}
use Rattle.proof_course.specs.Flying.{Flight, KeepsUp, hosts, one_of}
use Rattle.proof_course.specs.SessionFacts.{CourseFacts, Fits, FitsBy, IsOnTime}
use Rattle.proof_course.specs.Sessions.{Answer, Cargo, Command, Course, Of_host, Of_node, is_of_host}
use Rattle.proof_course_plain.specs.Air.{Bears, BearsBy}
use Rattle.proof_course_plain.specs.Lines.{OnWay, Tells, own_frames}
use Rattle.proof_course_plain.specs.Meaning.{Asked, NodeMeans, Reports}
use Rattle.proof_course_plain.specs.Mesh.{labels, told_as}
use Rattle.proof_course_plain.specs.Ways.{Beside}
use Rattle.proof_course_plain.specs.World.{WorldFollows}
use Rattle.proof_answered.specs.proof_calm.Tied.{on_line, unheard_by}
use Rattle.proof_answered.proofs.Flights.{flights_are}
use Rattle.proof_in_time.specs.Coming.{brings}
use Rattle.proof_in_time.specs.Untold.{EndsNone, IsUnended, NoneEnds, NoneFliesEnds, NoneToldEnds}
use Rattle.proof_in_time.proofs.LockLabels.{same_line}

-- ---- what is heard in a payload

other_id : (one session : ℕ) → one < session → session ≤ one + 63 → wire_id one ≢ wire_id session
other_id one session less near same = absurd (omega (arith, less, near, same))

unended : (session : ℕ) (told : Told) → IsNoReport told → IsUnended session told
unended session (Report id status wakes) none = absurd none
unended session NonceGet none = tt
unended session (NonceReport nonce) none = tt
unended session Notification none = tt
unended session (SegmentRequest id offset) none = tt
unended session (Values values) none = tt

report_ends_none : (one status session : ℕ) (payload : List ℕ) → one < session → session ≤ one + 63 → Reports one status payload → EndsNone session payload
report_ends_none one status session payload less near reports told heard =
    subst (AllByRecursion (IsUnended session)) (same_messages (Report (wire_id one) (report_status status) reports.asks ∷ []) told (sym reports.heard ∙ heard)) (inl (other_id one session less near), tt)

none_ends_none : (session : ℕ) (payload : List ℕ) → TellsNone payload → EndsNone session payload
none_ends_none session payload none told heard = all-weaker IsNoReport (IsUnended session) (unended session) told (none told heard)

-- what is said is a report of one of the last 63 sessions, and not of the last, or none
abbrev IsOld : ℕ → Cargo → Type 0
IsOld session (Command message) = Unit {0}
IsOld session Of_host = Unit {0}
IsOld session (Answer one status) = (one < session) × (session ≤ one + 63)
IsOld session Of_node = Unit {0}

node_ends_none : (session : ℕ) (payload : List ℕ) (cargo : Cargo) → NodeMeans payload cargo → IsOld session cargo → EndsNone session payload
node_ends_none session payload (Command message) means old = absurd means
node_ends_none session payload Of_host means old = absurd means
node_ends_none session payload (Answer one status) means old = report_ends_none one status session payload old.0 old.1 means
node_ends_none session payload Of_node means old = none_ends_none session payload means.0

fewer : (one rest : ℕ) → one + rest ≤ 2 → rest ≤ 2
fewer one rest few = omega (arith, few)

empty_unread : heard_at [] ≡ Unread
unfolding heard_at opened_at
empty_unread = refl

never_messages : (told : List Told) → Unread ≡ Messages told → ⊥
never_messages told wrong = cc

module _ (n : ℕ) (is_node : IsNode n) (c : Course) (last : begun_of c.host ≡ c.device.taken + 1) where
  -- ---- on the air

  old_cargo : (since later : ℕ) (cargo : Cargo) → FitsBy c.host c.device c.sent c.ends since cargo → begun_of c.host ≤ since + 1 + later → later ≤ 2 → IsOld (begun_of c.host) cargo
  old_cargo since later (Command message) fits keeps few = tt
  old_cargo since later Of_host fits keeps few = tt
  old_cargo since later (Answer one status) fits keeps few =
      let of : one ≤ c.device.taken = fits.0.of_taken in
      let second : since ≤ one + 1 = fits.0.before_second in
      (omega (arith, of, last), omega (arith, second, keeps, few))
  old_cargo since later Of_node fits keeps few = tt

  flown_none : (orders : List Asked) (frame : Flown) (flight : Flight Cargo) → Bears n orders c.host.commands frame flight → IsOld (begun_of c.host) flight.cargo → frame.node ≡ n → frame.heading ≡ Homeward
      → EndsNone (begun_of c.host) frame.payload
  flown_none orders frame flight bears old node home =
      let means : BearsBy Homeward true orders c.host.commands frame flight = subst (λ (b : Bool). BearsBy Homeward b orders c.host.commands frame flight) (eq-eqb frame.node n node)
      (subst (λ (heading : Heading). BearsBy heading (frame.node == n) orders c.host.commands frame flight) home bears) in
      node_ends_none (begun_of c.host) frame.payload flight.cargo means.1 old

  flying_none : (orders : List Asked) (flights : List Flown) (air : List (Flight Cargo)) → Beside (Bears n orders c.host.commands) flights air → AllByRecursion (Fits c) air → KeepsUp is_of_host (begun_of c.host) c.sent air
      → hosts is_of_host air ≤ 2 → NoneFliesEnds n (begun_of c.host) flights
  flying_none orders [] air beside fits keeps few = tt
  flying_none orders (frame ∷ flights) [] beside fits keeps few = absurd beside
  flying_none orders (frame ∷ flights) (flight ∷ air) beside fits keeps few =
      let more : hosts is_of_host air ≤ 2 = fewer (one_of is_of_host flight.cargo) (hosts is_of_host air) few in
      (flown_none orders frame flight beside.0 (old_cargo flight.since (hosts is_of_host air) flight.cargo fits.0 keeps.0 more), flying_none orders flights air beside.1 fits.1 keeps.1.1 more)

  -- ---- at the chip

  abbrev IsOldMark : Option SessionReport → Type 0
  IsOldMark mark = IsOld (begun_of c.host) (told_as mark)

  marks_old : (marks : List (Option SessionReport)) → AllByRecursion (IsOnTime c.host c.device c.ends) (labels marks) → AllByRecursion IsOldMark marks
  marks_old [] all = tt
  marks_old (None ∷ marks) all = (tt, marks_old marks all)
  marks_old (Some report ∷ marks) all =
      let of : report.session ≤ c.device.taken = all.0.fits.0.of_taken in
      ((omega (arith, of, last), all.0.near), marks_old marks all.1)

  frame_none : (frame : FrameParts) (mark : Option SessionReport) → Tells n frame mark → IsOldMark mark → (payload : List ℕ) → frame ≡ brings n payload → EndsNone (begun_of c.host) payload
  frame_none frame mark tells old [] is = λ told heard. absurd (never_messages told (sym empty_unread ∙ heard))
  frame_none frame mark tells old (byte ∷ rest) is =
      let payload : List ℕ = byte ∷ rest in
      let some : 1 ≤ length payload = omega arith in
      let notice : Notice = ApplicationCommandHandler 0 n payload in
      let read = notice_only (notice_function notice) (notice_body notice) notice (record { row = (is_node, some); function = refl; tail = []; text = sym (append-nil (notice_body notice)) }) in
      let said : Tells n (brings n payload) mark = subst (λ (one : FrameParts). Tells n one mark) is tells in
      node_ends_none (begun_of c.host) payload (told_as mark) (said 0 payload refl read) old

  frames_none : (frames : List FrameParts) (marks : List (Option SessionReport)) → Beside (Tells n) frames marks → AllByRecursion IsOldMark marks → NoneToldEnds n (begun_of c.host) frames
  frames_none [] marks beside old = tt
  frames_none (frame ∷ frames) [] beside old = absurd beside
  frames_none (frame ∷ frames) (mark ∷ marks) beside old = (frame_none frame mark beside.0 old.0, frames_none frames marks beside.1 old.1)

  unheard_none : (bytes : List ℕ) (items : List Item) (port : PortState) → OnWay (Tells n) c.down items port.side.turn port.waiting → AllByRecursion (IsOnTime c.host c.device c.ends) c.down
      → NoneToldEnds n (begun_of c.host) (unheard_by bytes port)
  unheard_none bytes items port way on_time = by bytes
    where
      later : AllByRecursion IsOldMark (way.on_link ++ way.waits)
      later = all-right IsOldMark way.on_line (way.on_link ++ way.waits) (marks_old (way.on_line ++ (way.on_link ++ way.waits)) (subst (AllByRecursion (IsOnTime c.host c.device c.ends)) way.are on_time))

      waits : NoneToldEnds n (begun_of c.host) port.waiting
      waits = frames_none port.waiting way.waits way.following (all-right IsOldMark way.on_link way.waits later)

      by : (bytes : List ℕ) → NoneToldEnds n (begun_of c.host) (unheard_by bytes port)
      by [] = waits
      by (byte ∷ bytes) =
          all-append _ (on_line port.side.turn) port.waiting
          (subst (NoneToldEnds n (begun_of c.host)) (sym (same_line port.side.turn)) (frames_none (own_frames port.side.turn) way.on_link way.link (all-left IsOldMark way.on_link way.waits later))) waits

-- ---- both

pub none_ends : (n : ℕ) (orders : List Asked) (c : Course) (up down : List Item) (m : Machine) → IsNode n → WorldFollows n orders c up down m → begun_of c.host ≡ c.device.taken + 1 → NoneEnds n (begun_of c.host) m
none_ends n orders c up down m is_node follows last =
    let mesh = follows.outside.mesh in
    let facts : CourseFacts c = follows.course in
    record {
      flying = subst (NoneFliesEnds n (begun_of c.host)) (flights_are mesh.log mesh.flights m.outside.outer.air.frames mesh.on_air.fly)
          (flying_none n is_node c last orders mesh.flights c.air mesh.on_air.flying facts.flying facts.keeps_up facts.few);
      told = unheard_none n is_node c last m.outside.outer.to_host.bytes down m.outside.outer.chip.state.port follows.outside.reports facts.on_time;
    }
