-- Each payload of a lock that is on the air, or that the chip has for the host, is what the courses say of it.
use Rattle.std.proofs.Common.{◌≡◌, ◌≤◌, ℕ, ◌==◌, inl, inr, Bool, Option, List, [], ◌∷◌, ◌++◌, length, refl, sym, ◌∙◌, subst, append-nil, Some, ap}
use Rattle.std.specs.Prelude.{◌⊎◌, slice_index}
use Rattle.std.proofs.lemmas.Bool.{eq-eqb}
use Rattle.serial_frame.specs.Frame.{FrameParts}
use Rattle.serial_frame.specs.declared.item.Item.{Item}
use Rattle.serial_link.specs.declared.turn.Turn.{Turn}
use Rattle.serial_link.specs.declared.turn.Turn.TheVariants.{Copied, Idle, Paused}
use Rattle.chip_functions.specs.Field.{IsNode}
use Rattle.chip_functions.specs.Notice.{notice_body, notice_function}
use Rattle.chip_functions.specs.declared.notice.Notice.{Notice}
use Rattle.chip_functions.specs.declared.notice.Notice.TheVariants.{ApplicationCommandHandler}
use Rattle.chip_functions.proofs.NoticeLaws.{notice_only}
use Rattle.chip_sim.specs.Waiting.{PortState}
use Rattle.air_frames.specs.Flown.{Flown}
use Rattle.air_frames.specs.Frames.{FramesState}
use Rattle.air_frames.specs.History.{Mark}
use Rattle.air_frames.specs.declared.frame.Heading.{Heading}
use Rattle.air_frames.specs.declared.frame.Heading.TheVariants.{Homeward}
use Rattle.s0_session.specs.Sending.{seen_after}
use Rattle.device_sim.specs.State.{State}
use Rattle.host_model.specs.State.{HostState, node_of}
use Rattle.world_model.specs.State.{Machine}
use Rattle.proof_answered.specs.proof_calm.proof_traffic.OnAir.{on_air}
use Rattle.proof_answered.specs.proof_calm.Tied.{on_line, unheard, unheard_by}
use Rattle.proof_course_plain.specs.Flights.{Fly}
use Rattle.proof_course_plain.specs.Lines.{OnWay, own_frames}
use Rattle.proof_course_plain.specs.Ways.{Beside}
use Rattle.proof_course_sealed.specs.Air.{Bears, MeansBy}
use Rattle.proof_course_sealed.specs.Courses.{Aloft, Courses}
use Rattle.proof_course.specs.NodeNonceFacts.{NonceFacts as NodeFacts}
use Rattle.proof_messages.specs.Payloads.{report_of}
use Rattle.proof_course_sealed.specs.Exchange.{IsLiveOffer}
use Rattle.proof_course_sealed.specs.Host.{AtHost}
use Rattle.proof_course_sealed.specs.Lock.{AtLock}
use Rattle.proof_course_sealed.specs.Labels.{Held, Late}
use Rattle.proof_course_sealed.specs.Lines.{Tells}
use Rattle.proof_course_sealed.specs.Meaning.{NodeMeans, Past}
use Rattle.proof_course_sealed.specs.Mesh.{told_as}
use Rattle.proof_course_sealed.specs.World.{WorldFollows}
use Rattle.proof_in_time.specs.Coming.{Has, Stands, brings}
use Rattle.proof_in_time.specs.Exchange.{IsCounted, IsHome, ShowsLive}

-- ---- lists beside lists

beside_stands : {A B : Type 0} (R : A → B → Type 0) (before : List A) (x : A) (behind : List A) (ys : List B) → Beside R (before ++ x ∷ behind) ys → (y : B) × R x y
beside_stands R [] x behind [] is = absurd is
beside_stands R [] x behind (y ∷ ys) is = (y, is.0)
beside_stands R (a ∷ before) x behind [] is = absurd is
beside_stands R (a ∷ before) x behind (y ∷ ys) is = beside_stands R before x behind ys is.1

beside_has : {B : Type 0} (R : FrameParts → B → Type 0) (frame : FrameParts) (frames : List FrameParts) (marks : List B) → Beside R frames marks → Has frame frames → (mark : B) × R frame mark
beside_has R frame [] marks is has = absurd has
beside_has R frame (one ∷ frames) [] is has = absurd is
beside_has R frame (one ∷ frames) (mark ∷ marks) is (inl same) = (mark, subst (λ (f : FrameParts). R f mark) (sym same) is.0)
beside_has R frame (one ∷ frames) (mark ∷ marks) is (inr has) = beside_has R frame frames marks is.1 has

has_parts : (frame : FrameParts) (xs ys : List FrameParts) → Has frame (xs ++ ys) → Has frame xs ⊎ Has frame ys
has_parts frame [] ys has = inr has
has_parts frame (x ∷ xs) ys (inl same) = inl (inl same)
has_parts frame (x ∷ xs) ys (inr has) = by (has_parts frame xs ys has)
  where
    by : Has frame xs ⊎ Has frame ys → Has frame (x ∷ xs) ⊎ Has frame ys
    by (inl in_first) = inl (inr in_first)
    by (inr in_last) = inr in_last

-- ---- on the air

pub flying_means : ((log : List Mark) (flights : List Flown) (frames : FramesState) → Fly log flights frames → flights ≡ on_air frames) → (past : Past) (n : ℕ) (c : Courses) (up down : List Item) (m : Machine) (payload : List ℕ)
    → WorldFollows past n c up down m → Stands (IsHome n (λ said. said ≡ payload)) (on_air m.outside.outer.air.frames) → (held : Held) × NodeMeans past n payload held
flying_means are past n c up down m payload follows at =
    let on = follows.outside.mesh.on_air in
    let flights = are follows.outside.mesh.log follows.outside.mesh.flights m.outside.outer.air.frames on.fly in
    let borne : (aloft : Aloft) × Bears past n c at.frame aloft =
    beside_stands (Bears past n c) at.before at.frame at.behind on.air (subst (λ (fs : List Flown). Beside (Bears past n c) fs on.air) (flights ∙ at.are) on.flying) in
    let there : NodeMeans past n at.frame.payload borne.0.held = subst (λ (b : Bool). MeansBy Homeward b past n at.frame.payload borne.0.held) (eq-eqb at.frame.node n at.is.node)
    (subst (λ (heading : Heading). MeansBy heading (at.frame.node == n) past n at.frame.payload borne.0.held) at.is.home borne.1.1) in
    (borne.0.held, subst (λ (said : List ℕ). NodeMeans past n said borne.0.held) at.is.is there)

-- ---- at the chip

pub same_line : (turn : Turn) → on_line turn ≡ own_frames turn
same_line Idle = refl
same_line (Copied frame copies ticks) = refl
same_line (Paused frame copies ticks) = refl

-- a frame that the chip has for the host has a label
chip_labelled : (past : Past) (n : ℕ) (late : List Late) (items : List Item) (bytes : List ℕ) (port : PortState) (frame : FrameParts) → OnWay (Tells past n) late items port.side.turn port.waiting → Has frame (unheard_by bytes port)
    → (mark : Option Late) × Tells past n frame mark
chip_labelled past n late items [] port frame way has = beside_has (Tells past n) frame port.waiting way.waits way.following has
chip_labelled past n late items (byte ∷ bytes) port frame way has = by (has_parts frame (on_line port.side.turn) port.waiting has)
  where
    by : Has frame (on_line port.side.turn) ⊎ Has frame port.waiting → (mark : Option Late) × Tells past n frame mark
    by (inl there) = beside_has (Tells past n) frame (own_frames port.side.turn) way.on_link way.link (subst (Has frame) (same_line port.side.turn) there)
    by (inr there) = beside_has (Tells past n) frame port.waiting way.waits way.following there

pub told_means : (past : Past) (n : ℕ) (c : Courses) (up down : List Item) (m : Machine) (payload : List ℕ) → WorldFollows past n c up down m → IsNode n → 1 ≤ length payload → Has (brings n payload) (unheard m.outside.outer)
    → (held : Held) × NodeMeans past n payload held
told_means past n c up down m payload follows node some has =
    let notice : Notice = ApplicationCommandHandler 0 n payload in
    let read = notice_only (notice_function notice) (notice_body notice) notice (record { row = (node, some); function = refl; tail = []; text = sym (append-nil (notice_body notice)) }) in
    let label : (mark : Option Late) × Tells past n (brings n payload) mark =
    chip_labelled past n follows.outside.late down m.outside.outer.to_host.bytes m.outside.outer.chip.state.port (brings n payload) follows.outside.reports has in
    (told_as label.0, label.1 0 payload refl read)

-- ---- the live nonce of the lock

-- what is known of it in the courses
pub record Laws : Type 0 where
  pub shows : (past : Past) (n : ℕ) (c : Courses) (device : State) (nonce payload : List ℕ) (held : Held) → AtLock past c device → device.given.live ≡ Some nonce → NodeMeans past n payload held → payload ≡ report_of nonce → IsLiveOffer past c payload
  pub counts : (past : Past) (n : ℕ) (c : Courses) (text : Option ℕ) (tasks : List ℕ) (h : HostState) (payload : List ℕ) → AtHost past n c text tasks h → NodeFacts c.node → (offers : IsLiveOffer past c payload)
      → seen_after (node_of h n).seen (slice_index offers.offer.nonce 0) ≡ Some c.node.given

same_nonce : (a b : List ℕ) → report_of a ≡ report_of b → a ≡ b
same_nonce a b e = cc

pub live_counted : Laws → (past : Past) (n : ℕ) (c : Courses) (up down : List Item) (m : Machine) (payload : List ℕ) (held : Held) (follows : WorldFollows past n c up down m) → NodeMeans past n payload held
    → (shows : ShowsLive follows.outside.mesh.device.device payload) → IsCounted n m.host.state shows.nonce
live_counted laws past n c up down m payload held follows means shows =
    let offers = laws.shows past n c follows.outside.mesh.device.device shows.nonce payload held follows.outside.mesh.device.at shows.live means shows.is in
    let same : offers.offer.nonce ≡ shows.nonce = same_nonce offers.offer.nonce shows.nonce (sym offers.offer.text ∙ shows.is) in
    record {
      seen = c.node.given;
      counts = subst (λ (nonce : List ℕ). seen_after (node_of m.host.state n).seen (slice_index nonce 0) ≡ Some c.node.given) same
          (laws.counts past n c follows.text follows.tasks m.host.state payload follows.host follows.course.node offers);
      eight = ap (λ (nonce : List ℕ). length nonce) (sym same) ∙ offers.offer.is.eight;
    }
