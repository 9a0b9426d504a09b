-- What is known of the chip's link beside the transcript (this project's own rule): the steps that it did, and the frames that the chip had for the host. Those that were not dropped
-- were begun in that order, or wait.
use Rattle.std.specs.Prelude.{◌≡◌, ◌<◌, ℕ, ◌+◌, Bool, List, [], ◌∷◌, ◌++◌, map, length}
use Rattle.std.specs.List.{flat_map}
use Rattle.serial_frame.specs.Frame.{FrameParts}
use Rattle.serial_frame.specs.Items.{unit_text}
use Rattle.serial_frame.specs.declared.unit.Unit.TheVariants.{Framed}
use Rattle.serial_link.specs.Rules.{Event, submitted, Step, SideObeys}
use Rattle.chip_sim.specs.Link.{link_units}
use Rattle.chip_sim.specs.Rules.{WaitsWell}
use Rattle.chip_sim.specs.Waiting.{PortState}
use Rattle.zw_words.specs.declared.side.Side.TheVariants.{Chip}
use Rattle.zw_text.specs.declared.entry.Entry.{Entry}
use Rattle.zw_text.specs.Transcript.{written}
use Rattle.law_wire.specs.Asked.{Course, course_of, acks}
use Rattle.law_wire.specs.Given.{Given, Frame, given}
use Rattle.law_wire.specs.Answering.{AreOf, begun, drops, dropped, without}
use Rattle.outside_model.specs.Devices.{State}

-- ---- what a link did

-- the frames that it began to write, in order
abbrev pub submitted_at : Event → List FrameParts
submitted_at (submitted f) = f ∷ []
submitted_at event = []

abbrev pub submitted_in : List Step → List FrameParts
submitted_in steps = flat_map (λ step. submitted_at step.event) steps

-- the bytes of what it wrote, and of frames
abbrev pub unit_texts : List Step → List (List ℕ)
unit_texts steps = map (λ unit. unit_text unit) (link_units steps)

abbrev pub frame_texts : List FrameParts → List (List ℕ)
frame_texts frames = map (λ f. unit_text (Framed f)) frames

-- frames as what the chip has for the host
abbrev pub as_given : List FrameParts → List Given
as_given frames = map (λ f. Frame f) frames

-- each place is one of a list of so many, once those after it have been taken out
abbrev pub Lie : List ℕ → ℕ → Type 0
Lie [] count = Unit {0}
Lie (place ∷ places) count = (place + length places < count) × Lie places count

-- a course that goes on from another
pub record GoesOn (now later : Course) : Type 0 where
  pub frames : List FrameParts
  pub flags : List Bool
  pub passed : later.passed ≡ now.passed ++ frames
  pub firsts : later.firsts ≡ now.firsts ++ flags

-- ---- the port

-- The link did these steps, and wrote just the units of the chip; and of these frames, which the chip had for the host, those were dropped whose places the transcript tells, and the
-- others were begun in order, or wait.
pub record Serves (steps : List Step) (frames : List FrameParts) (past : List Entry) (port : PortState) : Type 0 where
  pub obeys : SideObeys steps port.side
  pub units : written Chip past ≡ unit_texts steps
  pub starts : begun (course_of steps) past ≡ frame_texts (submitted_in steps)
  pub passed : length (course_of steps).passed ≡ acks past
  pub kept : without (dropped (course_of steps) past) (as_given frames) ≡ as_given (submitted_in steps ++ port.waiting)
  pub places : Lie (dropped (course_of steps) past) (length frames)
  pub count : length frames ≡ length (submitted_in steps) + (drops past + length port.waiting)
  pub waits : WaitsWell port

-- the chip was given just what it has for the host by the transcript
pub record HasGiven (devices : List State) (course : Course) (frames : List FrameParts) (past : List Entry) : Type 0 where
  pub are : AreOf devices (frame_texts frames) (given devices course past)
  pub many : length (given devices course past) ≡ length frames
