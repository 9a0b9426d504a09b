-- What is outside the host, in the courses of a lock (this project's own rule).
use Rattle.std.specs.Prelude.{ℕ, List, [], Option}
use Rattle.serial_frame.specs.Stream.{Rest}
use Rattle.serial_frame.specs.declared.item.Item.{Item}
use Rattle.serial_link.specs.declared.turn.Turn.{Turn}
use Rattle.chip_sim.specs.Rules.{WaitsWell}
use Rattle.outside_model.specs.State.{Outside}
use Rattle.outside_model.specs.Events.{mesh_of}
use Rattle.proof_course_plain.specs.proof_serial.Way.{Carries}
use Rattle.proof_course_plain.specs.proof_serial.Chip.{HasFrames}
use Rattle.proof_course_plain.specs.Lines.{OnWay}
use Rattle.proof_course_sealed.specs.Labels.{Sent, Late}
use Rattle.proof_course_sealed.specs.Courses.{Courses, CoursesGo, GoUp, GoDown, SameBooks}
use Rattle.proof_course_sealed.specs.Meaning.{Past, GivesMore}
use Rattle.proof_course_sealed.specs.Mesh.{InMesh}
use Rattle.proof_course_sealed.specs.Lines.{Tells, Asks}

-- The courses are where the outside is: their frames are those on the air, and the lock is the node's. What they have on the way to the chip is on the line and then in the host's own frame, which may be written again, and after that waits at the host (`text` and
-- `tasks`); what they have on the way to the host is on the line, then in the chip's own frame, then in the frames that wait at the chip. `rest` is what is unfinished at the host, `turn` the host's own frame
pub record Follows (past : Past) (node : ℕ) (c : Courses) (text : Option ℕ) (tasks : List ℕ) (rest : Rest) (turn : Turn) (up down : List Item) (w : Outside) : Type 0 where
  pub mesh : InMesh past node c (mesh_of w)
  pub to_chip : Carries w.outer.chip.decoder w.outer.to_chip up
  pub to_host : Carries rest w.outer.to_host down
  pub frames : HasFrames w.outer.chip.state.port
  pub waits : WaitsWell w.outer.chip.state.port
  pub carried : List Sent
  pub go_up : GoUp c carried text tasks
  pub messages : OnWay (Asks past node) carried up turn []
  pub late : List Late
  pub go_down : GoDown c late
  pub reports : OnWay (Tells past node) late down w.outer.chip.state.port.side.turn w.outer.chip.state.port.waiting

-- steps of the courses, none of them the host's, lead to where the outside is then
pub record OuterGoes (past : Past) (node : ℕ) (c : Courses) (text : Option ℕ) (tasks : List ℕ) (rest : Rest) (turn : Turn) (w : Outside) : Type 0 where
  pub later_past : Past
  pub later : Courses
  pub gives : GivesMore past later_past
  pub goes : CoursesGo c later
  pub books : SameBooks c later
  pub up : List Item
  pub down : List Item
  pub follows : Follows later_past node later text tasks rest turn up down w
