-- The frames on the air, and all that ever were there, as the courses of a lock have them (this project's own rule).
use Rattle.std.specs.Prelude.{◌≡◌, ◌≤◌, ◌<◌, ℕ, ◌+◌, ◌==◌, Bool, true, false, List, [], ◌∷◌, ◌++◌, map, Some, slice_get}
use Rattle.supervision.specs.Host.{begun_of}
use Rattle.proof_course.specs.Sessions.{IsFreshCargo}
use Rattle.air_frames.specs.declared.frame.Heading.{Heading}
use Rattle.air_frames.specs.declared.frame.Heading.TheVariants.{Outward, Homeward}
use Rattle.air_frames.specs.Flown.{Flown}
use Rattle.air_frames.specs.Frames.{FramesState}
use Rattle.air_frames.specs.History.{Mark, begins_in}
use Rattle.proof_course_plain.specs.Flights.{flown_in, Fly as FlyInOrder}
use Rattle.proof_course_plain.specs.Ways.{Beside}
use Rattle.proof_messages.specs.Shown.{HasShown}
use Rattle.proof_course_sealed.specs.Labels.{Held, Sealed, Offer, Reports, Shows, Up, Of_host, Down, Of_node, as_session}
use Rattle.proof_course_sealed.specs.Courses.{Courses, Aloft, Fly, of_sessions, of_node, of_host}
use Rattle.proof_course_sealed.specs.Meaning.{Past, HostMeans, NodeMeans}

-- ---- one frame

-- how many sessions had begun, and how many nonces of both ends the air had shown, as a frame went there: none more than now
pub record WentAt (c : Courses) (frame : Flown) (aloft : Aloft) : Type 0 where
  pub begun : aloft.begun ≡ frame.begun
  pub shown : frame.shown ≡ aloft.given + aloft.shown
  pub by_node : aloft.given ≤ c.node.given
  pub by_host : aloft.shown ≤ c.host.shown

-- what a payload is by its direction, and by whether it is between node 1 and the node. Of other frames the courses know whose they are
abbrev pub MeansBy : Heading → Bool → Past → ℕ → List ℕ → Held → Type 0
MeansBy Outward true past node payload held = HostMeans past node payload held
MeansBy Homeward true past node payload held = NodeMeans past node payload held
MeansBy Outward false past node payload held = held ≡ Of_host
MeansBy Homeward false past node payload held = held ≡ Of_node

-- of a frame between the two the courses know when it went there
abbrev pub WentIf : Bool → Courses → Flown → Aloft → Type 0
WentIf true c frame aloft = WentAt c frame aloft
WentIf false c frame aloft = Unit {0}

abbrev pub Bears : Past → ℕ → Courses → Flown → Aloft → Type 0
Bears past node c frame aloft = WentIf (frame.node == node) c frame aloft × MeansBy frame.heading (frame.node == node) past node frame.payload aloft.held

-- ---- all of them

-- the frames of the courses are these that are on the air, and those of that history; the history has begun and shown as much as they
pub record OnAir (past : Past) (node : ℕ) (c : Courses) (log : List Mark) (flights : List Flown) (frames : FramesState) : Type 0 where
  pub air : List Aloft
  pub old : List Aloft
  pub are : Fly c air old
  pub fly : FlyInOrder log flights frames
  pub flying : Beside (Bears past node c) flights air
  pub flown : Beside (Bears past node c) (flown_in log) old
  pub begun : begins_in node log ≡ begun_of c.sessions.host
  pub shown : HasShown node log past.given past.shown c.node.given c.host.shown

-- the courses have the same frames, and count the same
pub record SameAir (old new : Courses) : Type 0 where
  pub sessions : (new.sessions.air ≡ old.sessions.air) × (new.sessions.old ≡ old.sessions.old)
  pub node : (new.node.air ≡ old.node.air) × (new.node.old ≡ old.node.old)
  pub host : (new.host.air ≡ old.host.air) × (new.host.old ≡ old.host.old)
  pub begun : begun_of new.sessions.host ≡ begun_of old.sessions.host
  pub given : new.node.given ≡ old.node.given
  pub shown : new.host.shown ≡ old.host.shown

-- ---- a frame goes there

-- a nonce on the air is the last of its end, or the next one; anything else is none
abbrev pub CountsBy : Held → Courses → Courses → Type 0
CountsBy (Up (Sealed session number)) old new = (new.node.given ≡ old.node.given) × (new.host.shown ≡ old.host.shown)
CountsBy (Up (Offer number)) old new = ((new.host.shown ≡ number) × (0 < number)) × (((old.host.shown ≤ number) × (number ≤ old.host.shown + 1)) × (new.node.given ≡ old.node.given))
CountsBy Of_host old new = (new.node.given ≡ old.node.given) × (new.host.shown ≡ old.host.shown)
CountsBy (Down (Reports session status number)) old new = (new.node.given ≡ old.node.given) × (new.host.shown ≡ old.host.shown)
CountsBy (Down (Shows number)) old new = ((new.node.given ≡ number) × (0 < number)) × (((old.node.given ≤ number) × (number ≤ old.node.given + 1)) × (new.host.shown ≡ old.host.shown))
CountsBy Of_node old new = (new.node.given ≡ old.node.given) × (new.host.shown ≡ old.host.shown)

-- a frame as it goes there now
abbrev pub now_aloft : Courses → Held → Aloft
now_aloft c held = record { held = held; begun = begun_of c.sessions.host; given = c.node.given; shown = c.host.shown }

-- it is after the others
pub record Puts (old new : Courses) (held : Held) : Type 0 where
  pub sessions : (new.sessions.air ≡ old.sessions.air ++ of_sessions (now_aloft new held) ∷ []) × (new.sessions.old ≡ old.sessions.old ++ of_sessions (now_aloft new held) ∷ [])
  pub node : (new.node.air ≡ old.node.air ++ of_node (now_aloft new held) ∷ []) × (new.node.old ≡ old.node.old ++ of_node (now_aloft new held) ∷ [])
  pub host : (new.host.air ≡ old.host.air ++ of_host (now_aloft new held) ∷ []) × (new.host.old ≡ old.host.old ++ of_host (now_aloft new held) ∷ [])
  pub begun : begun_of new.sessions.host ≡ begun_of old.sessions.host
  pub counts : CountsBy held old new

-- ---- a frame is heard

-- the courses without the oldest frame
abbrev pub landed : Courses → List Aloft → Courses
landed c rest = record {
  sessions = record c.sessions { air = map of_sessions rest };
  node = record c.node { air = map of_node rest };
  host = record c.host { air = map of_host rest };
}

-- the oldest frame of the courses is this one, and those after it are on the air still
pub record Lands (past : Past) (node : ℕ) (c : Courses) (log : List Mark) (frame : Flown) (later : List Flown) (frames : FramesState) : Type 0 where
  pub aloft : Aloft
  pub rest : List Aloft
  pub sessions : c.sessions.air ≡ of_sessions aloft ∷ map of_sessions rest
  pub nonces : c.node.air ≡ of_node aloft ∷ map of_node rest
  pub offers : c.host.air ≡ of_host aloft ∷ map of_host rest
  pub bears : Bears past node c frame aloft
  pub on_air : OnAir past node (landed c rest) log later frames

-- neither end gave so many nonces since that a first byte might name another
pub record IsRecent (c : Courses) (aloft : Aloft) : Type 0 where
  pub given : c.node.given < aloft.given + 120
  pub shown : c.host.shown < aloft.shown + 120

-- what is sealed, or is a nonce, is so recent
abbrev pub IsRecentBy : Held → Courses → Aloft → Type 0
IsRecentBy (Up sent) c aloft = IsRecent c aloft
IsRecentBy Of_host c aloft = Unit {0}
IsRecentBy (Down said) c aloft = IsRecent c aloft
IsRecentBy Of_node c aloft = Unit {0}

-- a frame that was on the air is this one, and is fresh in each course
pub record WasThere (past : Past) (node : ℕ) (c : Courses) (frame : Flown) : Type 0 where
  pub at : ℕ
  pub aloft : Aloft
  pub sessions : slice_get c.sessions.old at ≡ Some (of_sessions aloft)
  pub nonces : slice_get c.node.old at ≡ Some (of_node aloft)
  pub offers : slice_get c.host.old at ≡ Some (of_host aloft)
  pub bears : Bears past node c frame aloft
  pub fresh : IsFreshCargo (begun_of c.sessions.host) aloft.begun (as_session aloft.held)
  pub recent : IsRecentBy aloft.held c aloft
