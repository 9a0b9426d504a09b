-- The line, the lock and the air, where the courses change elsewhere.
use Rattle.std.proofs.Common.{◌≡◌, ℕ, ◌<◌, ◌⊎◌, inl, inr, Bool, Option, List, ◌++◌, length, refl, ap, sym, ◌∙◌, subst}
use Rattle.std.specs.Option.{ForSome}
use Rattle.s0_session.specs.declared.account.Account.{Account}
use Rattle.serial_frame.specs.Frame.{FrameParts}
use Rattle.air_frames.specs.Flown.{Flown}
use Rattle.air_frames.specs.Frames.{FramesState}
use Rattle.air_frames.specs.History.{Mark}
use Rattle.device_sim.specs.State.{State}
use Rattle.proof_messages.specs.Ending.{HasEnded}
use Rattle.mesh_sim.specs.Air.{AirState, is_joined}
use Rattle.mesh_sim.specs.Fates.{Mesh}
use Rattle.outside_model.specs.State.{Outside}
use Rattle.outside_model.specs.Events.{mesh_of}
use Rattle.proof_messages.specs.Numbers.{IsNonce, HasGiven}
use Rattle.proof_course_plain.specs.Meaning.{Asked}
use Rattle.proof_course_plain.specs.Making.{AllMake}
use Rattle.proof_course_plain.proofs.MadeSettings.{all_make_more}
use Rattle.proof_course_plain.proofs.HostActs.{SameAir as SameOuter}
use Rattle.proof_course_sealed.specs.Labels.{Sent, Late}
use Rattle.proof_course_sealed.specs.Courses.{Courses, HasSeen, with_up, with_down}
use Rattle.proof_course_sealed.specs.Meaning.{Past, Grows}
use Rattle.proof_course_sealed.specs.Lock.{IsUnsaid, AtLock}
use Rattle.proof_course_sealed.specs.Air.{OnAir, SameAir}
use Rattle.proof_course_sealed.specs.Mesh.{HasLock, InMesh, told_as}
use Rattle.proof_course_sealed.specs.Lines.{Tells, Asks, asked_as}
use Rattle.proof_course_sealed.proofs.Meanings.{host_means_stays, node_means_stays}
use Rattle.proof_course_sealed.proofs.CourseSteps.{grows_none}

-- ---- frames on the line, as more was

pub asks_stays : (past later : Past) (node : ℕ) (f : FrameParts) (mark : Option Sent) → Grows past later → Asks past node f mark → Asks later node f mark
asks_stays past later node f mark grows is payload options id e = host_means_stays past later node payload (asked_as mark) grows (is payload options id e)

pub tells_stays : (past later : Past) (node : ℕ) (f : FrameParts) (mark : Option Late) → Grows past later → Tells past node f mark → Tells later node f mark
tells_stays past later node f mark grows is status payload kind e = node_means_stays past later node payload (told_as mark) grows (is status payload kind e)

-- ---- the lock and the air, where the courses change elsewhere

-- the lock knows nothing of what changes
pub record SameLock (old new : Courses) : Type 0 where
  pub device : new.sessions.device ≡ old.sessions.device
  pub kept : new.sessions.kept ≡ old.sessions.kept
  pub ends : new.sessions.ends ≡ old.sessions.ends
  pub given : new.node.given ≡ old.node.given
  pub is_live : new.node.is_live ≡ old.node.is_live
  pub seen : new.host.seen ≡ old.host.seen
  pub waits : new.host.waits ≡ old.host.waits

pub lock_itself : (c : Courses) → SameLock c c
lock_itself c = record { device = refl; kept = refl; ends = refl; given = refl; is_live = refl; seen = refl; waits = refl }

pub lock_then : (a b c : Courses) → SameLock a b → SameLock b c → SameLock a c
lock_then a b c first later = record {
  device = later.device ∙ first.device;
  kept = later.kept ∙ first.kept;
  ends = later.ends ∙ first.ends;
  given = later.given ∙ first.given;
  is_live = later.is_live ∙ first.is_live;
  seen = later.seen ∙ first.seen;
  waits = later.waits ∙ first.waits;
}

pub air_itself : (c : Courses) → SameAir c c
air_itself c = record { sessions = (refl, refl); node = (refl, refl); host = (refl, refl); begun = refl; given = refl; shown = refl }

given_as : (a b : List (List ℕ)) (given now : ℕ) (live is_live : Bool) (account : Account) → b ≡ a → now ≡ given → is_live ≡ live → HasGiven a given live account → HasGiven b now is_live account
given_as a b given now live is_live account same count lives is = record {
  count = is.count ∙ sym count;
  all = ap (λ (l : List (List ℕ)). length l) same ∙ (is.all ∙ sym count);
  lives = is.lives ∙ sym lives;
  last = subst (λ (l : List (List ℕ)). ForSome account.live (IsNonce l now)) (sym same) (subst (λ (k : ℕ). ForSome account.live (IsNonce a k)) (sym count) is.last);
}

seen_as : (seen now : ℕ) (waits may : Bool) (count : ℕ) (pending : Option (List ℕ)) → now ≡ seen → may ≡ waits → HasSeen seen waits count pending → HasSeen now may count pending
seen_as seen now waits may count pending same waiting is = record { count = is.count ∙ sym same; waiting = λ some. waiting ∙ is.waiting some }

pub lock_stays : (past later : Past) (c now : Courses) (device : State) → later.keys ≡ past.keys → later.given ≡ past.given → SameLock c now → AtLock past c device → AtLock later now device
lock_stays past later c now device keys given same at = record {
  lock = at.lock;
  keys = at.keys ∙ sym keys;
  sessions = at.sessions ∙ sym same.device;
  kept = same.kept ∙ at.kept;
  whole = at.whole;
  ended = subst (λ (ends : List ℕ). HasEnded device ends) (sym same.ends) at.ended;
  can = at.can;
  gave = by at.gave;
  saw = seen_as c.host.seen now.host.seen c.host.waits now.host.waits device.sealing.seen device.sealing.pending same.seen same.waits at.saw;
  own = at.own;
}
  where
    by : HasGiven past.given c.node.given c.node.is_live device.given ⊎ IsUnsaid past c.node device.given → HasGiven later.given now.node.given now.node.is_live device.given ⊎ IsUnsaid later now.node device.given
    by (inl is) = inl (given_as past.given later.given c.node.given now.node.given c.node.is_live now.node.is_live device.given given same.given same.is_live is)
    by (inr is) = inr (record { none = given ∙ is.none; count = same.given ∙ is.count; dead = same.is_live ∙ is.dead; nonce = is.nonce; account_is = is.account_is; is = is.is })

pub has_stays : (past later : Past) (node : ℕ) (c now : Courses) (devices : List State) → later.keys ≡ past.keys → later.given ≡ past.given → SameLock c now → HasLock past node c devices → HasLock later node now devices
has_stays past later node c now devices keys given same h =
    record { device = h.device; place = h.place; first = h.first; stands = h.stands; at = lock_stays past later c now h.device keys given same h.at; others = h.others; nodes = h.nodes }

make_more : (past later : Past) (node : ℕ) (devices : List State) → Grows past later → AllMake node past.orders past.commands devices → AllMake node later.orders later.commands devices
make_more past later node devices grows made =
    subst (λ (os : List Asked). AllMake node os later.commands devices) (sym grows.orders.is)
    (subst (λ (cs : List ℕ). AllMake node (past.orders ++ grows.orders.more) cs devices) (sym grows.commands.is) (all_make_more node past.orders grows.orders.more past.commands grows.commands.more devices made))

-- how the air stays, as the courses of frames have it
abbrev pub AirStays : Type 0
AirStays = (past later_past : Past) (node : ℕ) (c later : Courses) (log : List Mark) (flights : List Flown) (frames : FramesState) → OnAir past node c log flights frames → Grows past later_past → SameAir c later → OnAir later_past node later log flights frames

-- the air with the devices is the same, but for the frames there
pub mesh_with : (past later : Past) (node : ℕ) (c now : Courses) (old new : Mesh) (log : List Mark) (flights : List Flown) → InMesh past node c old → Grows past later → later.given ≡ past.given → SameLock c now → OnAir later node now log flights new.air.frames
    → is_joined new.air node ≡ is_joined old.air node → new.devices ≡ old.devices → InMesh later node now new
mesh_with past later node c now old new log flights is grows given same on joined devices = record {
  log = log;
  flights = flights;
  on_air = on;
  device = subst (λ (ds : List State). HasLock later node now ds) (sym devices) (has_stays past later node c now old.devices grows.keys given same is.device);
  made = subst (λ (ds : List State). AllMake node later.orders later.commands ds) (sym devices) (make_more past later node old.devices grows is.made);
  joined = λ some. joined ∙ is.joined (subst (λ (k : ℕ). 0 < k) same.given some);
}

pub mesh_stays : AirStays → (past later : Past) (node : ℕ) (c now : Courses) (v w : Outside) → InMesh past node c (mesh_of v) → Grows past later → later.given ≡ past.given → SameLock c now → SameAir c now → SameOuter v w → InMesh later node now (mesh_of w)
mesh_stays stays past later node c now v w is grows given same air outer =
    mesh_with past later node c now (mesh_of v) (mesh_of w) is.log is.flights is grows given same
    (subst (λ (a : AirState). OnAir later node now is.log is.flights a.frames) (sym outer.air) (stays past later node c now is.log is.flights v.outer.air.frames is.on_air grows air))
    (ap (λ (a : AirState). is_joined a node) outer.air) outer.devices

-- labels on their way to the chip, what waits after them, or labels on their way to the host are no matter to the lock and the air
pub up_lock : (c : Courses) (carried : List Sent) (text : Option ℕ) (tasks : List ℕ) → SameLock c (with_up c carried text tasks)
up_lock c carried text tasks = record { device = refl; kept = refl; ends = refl; given = refl; is_live = refl; seen = refl; waits = refl }

pub down_lock : (c : Courses) (late : List Late) → SameLock c (with_down c late)
down_lock c late = record { device = refl; kept = refl; ends = refl; given = refl; is_live = refl; seen = refl; waits = refl }

pub up_air : (c : Courses) (carried : List Sent) (text : Option ℕ) (tasks : List ℕ) → SameAir c (with_up c carried text tasks)
up_air c carried text tasks = record { sessions = (refl, refl); node = (refl, refl); host = (refl, refl); begun = refl; given = refl; shown = refl }

pub down_air : (c : Courses) (late : List Late) → SameAir c (with_down c late)
down_air c late = record { sessions = (refl, refl); node = (refl, refl); host = (refl, refl); begun = refl; given = refl; shown = refl }

pub mesh_up : AirStays → (past : Past) (node : ℕ) (c : Courses) (mesh : Mesh) (carried : List Sent) (text : Option ℕ) (tasks : List ℕ) → InMesh past node c mesh → InMesh past node (with_up c carried text tasks) mesh
mesh_up stays past node c mesh carried text tasks is =
    mesh_with past past node c (with_up c carried text tasks) mesh mesh is.log is.flights is (grows_none past) refl (up_lock c carried text tasks)
    (stays past past node c (with_up c carried text tasks) is.log is.flights mesh.air.frames is.on_air (grows_none past) (up_air c carried text tasks)) refl refl

pub mesh_down : AirStays → (past : Past) (node : ℕ) (c : Courses) (mesh : Mesh) (late : List Late) → InMesh past node c mesh → InMesh past node (with_down c late) mesh
mesh_down stays past node c mesh late is =
    mesh_with past past node c (with_down c late) mesh mesh is.log is.flights is (grows_none past) refl (down_lock c late)
    (stays past past node c (with_down c late) is.log is.flights mesh.air.frames is.on_air (grows_none past) (down_air c late)) refl refl
