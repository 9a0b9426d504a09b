-- What is known of what a host alone has judged, at each phase (this project's own rule): the frames of the chip that it has judged by the transcript are those that came but for those
-- that are still to be judged, and what stands after its acknowledgement of the last one is what the events behind that one put out.
use Rattle.std.specs.Prelude.{◌≡◌, ◌⊎◌, false, true, List, [], ◌∷◌, ◌++◌, ℕ, length}
use Rattle.std.specs.List.{AllByRecursion, flat_map}
use Rattle.serial_frame.specs.Frame.{FrameParts}
use Rattle.serial_frame.specs.Items.{unit_text}
use Rattle.serial_frame.specs.declared.unit.Unit.{Unit as LineUnit}
use Rattle.serial_frame.specs.declared.unit.Unit.TheVariants.{Framed}
use Rattle.zw_text.specs.declared.line.Line.{Line}
use Rattle.zw_text.specs.declared.entry.Entry.{Entry}
use Rattle.zw_text.specs.declared.entry.Entry.TheVariants.{Said}
use Rattle.zw_text.specs.Transcript.{line_of}
use Rattle.zw_text.specs.Transcript.Way.{Whole}
use Rattle.proof_alone.specs.law_time.Judged.{acknowledged, frame_whole, frames_come, is_directly_after, is_following, judged, last_of}
use Rattle.proof_alone.specs.host_model.State.{HostState}
use Rattle.proof_alone.specs.host_model.Events.{HostEvent, Requests_do, IsOwn}
use Rattle.proof_alone.specs.host_model.Did.{after_all, outs_all}
use Rattle.proof_alone.specs.host_model.Taking.{FrameEvents}
use Rattle.proof_alone.specs.State.{HostMachine}
use Rattle.proof_alone.specs.Phases.{Phase, Asked, Behind, Ticking}
use Rattle.proof_alone.specs.Runs.{Knowledge}

-- the data frames among some units
abbrev pub frames_of : List LineUnit → List (List ℕ)
frames_of came = flat_map (λ unit. frame_whole (unit_text unit) Whole) came

-- those that came are those that were judged, as many as were acknowledged, and those that are to be judged
pub record TieFrames (past : List Entry) (came : List LineUnit) : Type 0 where
  pub done : List (List ℕ)
  pub come : frames_come past ≡ done ++ frames_of came
  pub count : acknowledged past ≡ length done

-- The last frame that was judged, by a host that was so when it had answered it; these events behind it are gone, and these are left.
-- Where nothing stands after the acknowledgement those that are gone put out nothing.
pub record LastFrame (past : List Entry) (left : List HostEvent) : Type 0 where
  pub first : HostState
  pub frame : FrameParts
  pub gone : List HostEvent
  pub followed : FrameEvents first frame.kind frame.func frame.body (gone ++ left)
  pub last : last_of (judged past) ≡ unit_text (Framed frame) ∷ []
  pub quiet : is_directly_after past ≡ true → outs_all first gone ≡ []

-- no event behind it is left, wherever what stands next is after its acknowledgement
abbrev pub Settled : List Entry → Type 0
Settled past = is_following past ≡ true → LastFrame past []

-- both, where no event behind an item is left
pub record TieJudged (past : List Entry) (came : List LineUnit) : Type 0 where
  pub frames : TieFrames past came
  pub settled : Settled past

-- these events behind it are left, and what stands next is after its acknowledgement
pub record IsBehindFrame (past : List Entry) (m : HostMachine) (left : List HostEvent) : Type 0 where
  pub frame : LastFrame past left
  pub follows : is_following past ≡ true
  pub state : m.state ≡ after_all frame.first frame.gone
  pub unnumbered : m.awaits ≡ false

-- behind another item the request under way may hear of it
abbrev pub IsOfRequest : HostEvent → Type 0
IsOfRequest (Requests_do event moment) = Unit {0}
IsOfRequest event = ⊥

-- no line was just said
abbrev pub IsElse : Phase → Type 0
IsElse (Asked line) = ⊥
IsElse here = Unit {0}

-- the words of a line stand last, and this holds of what stood before them
pub record AfterWords (line : Line) (past : List Entry) (m : HostMachine) : Type 0 where
  pub before : List Entry
  pub words : List ℕ
  pub are : past ≡ before ++ Said words ∷ []
  pub read : line_of (Said words) ≡ line ∷ []
  pub frames : TieFrames before m.came
  pub unnumbered : m.awaits ≡ false

abbrev pub KnowsJudged : Knowledge
KnowsJudged (Asked line) past m = AfterWords line past m
KnowsJudged (Ticking left) past m = AllByRecursion IsOwn left × TieJudged past m.came
KnowsJudged (Behind left) past m = TieFrames past m.came × (IsBehindFrame past m left ⊎ (AllByRecursion IsOfRequest left × Settled past))
KnowsJudged here past m = TieJudged past m.came
