-- What is on its way on the serial line, with labels, in the courses of a lock (this project's own rule).
use Rattle.std.specs.Prelude.{ℕ, List, Option, Some, None}
use Rattle.serial_frame.specs.Frame.{FrameParts}
use Rattle.proof_course_plain.specs.Lines.{TellsAs, AsksAs}
use Rattle.proof_course_sealed.specs.Labels.{Sent, Held, Up, Of_host, Late}
use Rattle.proof_course_sealed.specs.Meaning.{Past, HostMeans}
use Rattle.proof_course_sealed.specs.Mesh.{IsTold}

-- a frame of the chip: where it brings a payload of the node, that is what the label says
abbrev pub Tells : Past → ℕ → FrameParts → Option Late → Type 0
Tells past node f mark = TellsAs (IsTold past node) node f mark

-- what a payload for the node holds that has this label
abbrev pub asked_as : Option Sent → Held
asked_as None = Of_host
asked_as (Some sent) = Up sent

-- a payload for the node is what this label says
abbrev pub IsAsked : Past → ℕ → List ℕ → Option Sent → Type 0
IsAsked past node payload mark = HostMeans past node payload (asked_as mark)

-- a frame of the host: where it asks to send the node a payload, that is what the label says
abbrev pub Asks : Past → ℕ → FrameParts → Option Sent → Type 0
Asks past node f mark = AsksAs (IsAsked past node) node f mark
