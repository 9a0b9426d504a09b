-- What is on its way in one direction of the serial line, with labels beside it (this project's own rule).
use Rattle.std.specs.Prelude.{◌≡◌, ℕ, List, [], ◌∷◌, ◌++◌, Option, Some, None, Ok}
use Rattle.supervision.specs.Ends.{Report}
use Rattle.proof_course.specs.Sessions.{Message, Cargo, Command, Of_host}
use Rattle.serial_frame.specs.Frame.{FrameParts}
use Rattle.serial_frame.specs.declared.frame.Kind.TheVariants as kind
use Rattle.serial_frame.specs.declared.unit.Unit.{Unit as LineUnit}
use Rattle.serial_frame.specs.declared.unit.Unit.TheVariants.{Framed}
use Rattle.serial_frame.specs.declared.item.Item.{Item}
use Rattle.serial_frame.specs.declared.item.Item.TheVariants.{Good}
use Rattle.serial_link.specs.declared.turn.Turn.{Turn}
use Rattle.serial_link.specs.declared.turn.Turn.TheVariants.{Idle, Copied, Paused}
use Rattle.serial_pipes.specs.State.{WayState}
use Rattle.chip_functions.specs.Notice.{notice_of}
use Rattle.chip_functions.specs.declared.notice.Notice.TheVariants.{ApplicationCommandHandler}
use Rattle.chip_functions.specs.declared.request.Request.TheVariants.{SendData}
use Rattle.chip_sim.specs.Requests.{asked}
use Rattle.proof_world.specs.proof_serial.Way.{items_all}
use Rattle.proof_course_plain.specs.Ways.{Beside, Thinned}
use Rattle.proof_course_plain.specs.Meaning.{Asked, HostMeans}
use Rattle.proof_course_plain.specs.Mesh.{labels, IsTold}

-- ---- frames with labels

-- a frame of the chip: where it brings a payload of the node, this holds of it and of the label
abbrev pub TellsAs : {L : Type 0} → (List ℕ → Option L → Type 0) → ℕ → FrameParts → Option L → Type 0
TellsAs Holds node f mark = (status : ℕ) (payload : List ℕ) → f.kind ≡ kind.Request → notice_of f.func f.body ≡ Ok (ApplicationCommandHandler status node payload) → Holds payload mark

-- so that it is what the label says
abbrev pub Tells : ℕ → FrameParts → Option Report → Type 0
Tells node f mark = TellsAs IsTold node f mark

-- what a payload for the node holds that has this label
abbrev pub asked_as : Option Message → Cargo
asked_as None = Of_host
asked_as (Some message) = Command message

-- a payload for the node is what this label says
abbrev pub IsAsked : List Asked → List ℕ → List ℕ → Option Message → Type 0
IsAsked orders commands payload mark = HostMeans orders commands payload (asked_as mark)

-- a frame of the host: where it asks to send the node a payload, this holds of it and of the label
abbrev pub AsksAs : {L : Type 0} → (List ℕ → Option L → Type 0) → ℕ → FrameParts → Option L → Type 0
AsksAs Holds node f mark = (payload : List ℕ) (options id : ℕ) → asked f ≡ Some (SendData node payload options id) → Holds payload mark

-- so that it is what the label says
abbrev pub Asks : ℕ → List Asked → List ℕ → FrameParts → Option Message → Type 0
Asks node orders commands f mark = AsksAs (IsAsked orders commands) node f mark

-- ---- one direction

-- an item that is a good frame has a label of the frame
abbrev pub ItemIs : {L : Type 0} → (FrameParts → Option L → Type 0) → Item → Option L → Type 0
ItemIs Is item mark = (f : FrameParts) → item ≡ Good (Framed f) → Is f mark

-- the frame of one's own that may be written again
abbrev pub own_frames : Turn → List FrameParts
own_frames Idle = []
own_frames (Copied f copies ticks) = f ∷ []
own_frames (Paused f copies ticks) = f ∷ []

-- these labels are on their way: of the items on the line, then of the own frame, then of the frames that wait
pub record OnWay {L : Type 0} (Is : FrameParts → Option L → Type 0) (carried : List L) (items : List Item) (turn : Turn) (waiting : List FrameParts) : Type 0 where
  pub on_line : List (Option L)
  pub on_link : List (Option L)
  pub waits : List (Option L)
  pub line : Beside (ItemIs Is) items on_line
  pub link : Beside Is (own_frames turn) on_link
  pub following : Beside Is waiting waits
  pub are : carried ≡ labels (on_line ++ (on_link ++ waits))

-- of these labels some were lost, and some came several times, and the rest is on its way
pub record Later {L : Type 0} (Is : FrameParts → Option L → Type 0) (carried : List L) (items : List Item) (turn : Turn) (waiting : List FrameParts) : Type 0 where
  pub now : List L
  pub thin : Thinned carried now
  pub on_way : OnWay Is now items turn waiting

-- where one side goes on like this and writes these units, labels that are on their way stay so, and these come after them, whatever the marks of the line are
abbrev pub Moves : {L : Type 0} → (FrameParts → Option L → Type 0) → Turn → List FrameParts → List LineUnit → Turn → List FrameParts → List L → Type 0
Moves {L} Is old_turn old_waiting units turn waiting more =
    (carried : List L) (items : List Item) (way : WayState) → OnWay Is carried items old_turn old_waiting → Later Is (carried ++ more) (items ++ items_all way units) turn waiting
