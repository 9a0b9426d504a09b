-- That the chip brings the host what was heard on the air in order (Serial API: ApplicationCommandHandler; the order is this project's own rule), and what is known of that beside the transcript.
use Rattle.std.specs.Prelude.{Bool, true, false, ℕ, List, [], ◌∷◌, ◌++◌, ⊤}
use Rattle.std.specs.List.{flat_map}
use Rattle.serial_frame.specs.Frame.{FrameParts}
use Rattle.serial_frame.specs.Items.{unit_text}
use Rattle.serial_frame.specs.declared.unit.Unit.TheVariants.{Framed}
use Rattle.serial_link.specs.Rules.{Step}
use Rattle.zw_words.specs.declared.side.Side.TheVariants.{Chip}
use Rattle.zw_text.specs.declared.entry.Entry.{Entry}
use Rattle.zw_text.specs.declared.entry.Entry.TheVariants.{Written}
use Rattle.law_transcript.specs.Lists.{EachAfter}
use Rattle.law_transcript.specs.Units.{Carried, bringing_in}
use Rattle.law_transcript.specs.Carrying.{ArePicked, heard_home}
use Rattle.law_wire.specs.Asked.{Course, course_of}
use Rattle.law_wire.specs.Answering.{begins_next, begun}
use Rattle.proof_chip.specs.Serving.{GoesOn}

-- ---- the law

-- with a frame that the chip begins, the frames that it has begun bring some of what was heard for the controller, one each and in order
abbrev pub BringsNext : Bool → Course → List Entry → List ℕ → Type 0
BringsNext true course past unit = ArePicked (flat_map bringing_in (begun course past ++ unit ∷ [])) (heard_home past)
BringsNext false course past unit = ⊤

abbrev pub MayBegin : Course → List Entry → Entry → Type 0
MayBegin course past (Written Chip unit) = BringsNext (begins_next course past) course past unit
MayBegin course past _ = ⊤

abbrev pub BringsInOrder : Course → List Entry → Type 0
BringsInOrder course transcript = EachAfter (MayBegin course) [] transcript

-- ---- of the frames that the chip had for the host

-- what they bring
abbrev pub brought_by : List FrameParts → List Carried
brought_by frames = flat_map (λ f. bringing_in (unit_text (Framed f))) frames

-- with this to come, some of what was heard for the controller, one each and in order
abbrev pub BringSome : List FrameParts → List Carried → List Entry → Type 0
BringSome frames coming past = ArePicked (brought_by frames ++ coming) (heard_home past)

-- so they do, and the law is kept so far by each course that goes on from that of these steps
pub record Brings (steps : List Step) (frames : List FrameParts) (coming : List Carried) (past : List Entry) : Type 0 where
  pub some : BringSome frames coming past
  pub turns : (later : Course) → GoesOn (course_of steps) later → EachAfter (MayBegin later) [] past
