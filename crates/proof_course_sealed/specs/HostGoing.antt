-- What an event of the host is to the courses of a lock (this project's own rule).
use Rattle.std.specs.Prelude.{◌≢◌, ℕ, List, [], ◌++◌, Option}
use Rattle.serial_frame.specs.Stream.{Rest}
use Rattle.serial_frame.specs.declared.item.Item.{Item}
use Rattle.chip_sim.specs.Rules.{WaitsWell}
use Rattle.host_model.specs.State.{HostState}
use Rattle.host_model.specs.Events.{HostEvent, Finishes, Offers, Gives, Spends, Spends_unread, Takes_nonce, Resends}
use Rattle.outside_model.specs.State.{Outside}
use Rattle.outside_model.specs.Events.{mesh_of}
use Rattle.proof_course_plain.specs.proof_serial.Way.{Carries}
use Rattle.proof_course_plain.specs.proof_serial.Chip.{HasFrames}
use Rattle.proof_course_plain.specs.Lines.{OnWay}
use Rattle.proof_course_plain.specs.Tied.{AreOutcomes}
use Rattle.proof_course_sealed.specs.Labels.{Sent, Late}
use Rattle.proof_course_sealed.specs.Courses.{Courses, CoursesGo, GoUp, GoDown}
use Rattle.proof_course_sealed.specs.Meaning.{Past, Grows}
use Rattle.proof_course_sealed.specs.Mesh.{InMesh}
use Rattle.proof_course_sealed.specs.Lines.{Tells, Asks}
use Rattle.proof_course_sealed.specs.Host.{AtHost}

-- The courses are where the host is, and what is outside it; the host has taken `yet` out of its pipe, and judges these items next
pub record HostFollows (past : Past) (node : ℕ) (c : Courses) (rest : Rest) (up yet down : List Item) (h : HostState) (w : Outside) : Type 0 where
  pub text : Option ℕ
  pub tasks : List ℕ
  pub mesh : InMesh past node c (mesh_of w)
  pub to_chip : Carries w.outer.chip.decoder w.outer.to_chip up
  pub to_host : Carries rest w.outer.to_host down
  pub frames : HasFrames w.outer.chip.state.port
  pub waits : WaitsWell w.outer.chip.state.port
  pub carried : List Sent
  pub go_up : GoUp c carried text tasks
  pub messages : OnWay (Asks past node) carried up h.side.turn []
  pub late : List Late
  pub go_down : GoDown c late
  pub reports : OnWay (Tells past node) late (yet ++ down) w.outer.chip.state.port.side.turn w.outer.chip.state.port.waiting
  pub host : AtHost past node c text tasks h
  pub outcomes : AreOutcomes h.commands c.sessions.host.commands c.sessions.told

-- steps of the courses lead to where the host is then, and what is outside it; the items on their way to the host stay
pub record HostGoes (past : Past) (node : ℕ) (c : Courses) (rest : Rest) (yet down : List Item) (h : HostState) (w : Outside) : Type 0 where
  pub later_past : Past
  pub later : Courses
  pub grows : Grows past later_past
  pub goes : CoursesGo c later
  pub up : List Item
  pub follows : HostFollows later_past node later rest up yet down h w

-- an event that is not what the host makes of a payload of the node: it ends no session of it, and does nothing with the nonces between them and with segments
abbrev pub IsUnheard : ℕ → HostEvent → Type 0
IsUnheard node (Finishes n session id command status wake_request) = n ≢ node
IsUnheard node (Offers n) = n ≢ node
IsUnheard node (Gives n drawn) = n ≢ node
IsUnheard node (Spends n) = n ≢ node
IsUnheard node (Spends_unread n payload) = n ≢ node
IsUnheard node (Takes_nonce n seen text) = n ≢ node
IsUnheard node (Resends n payload) = n ≢ node
IsUnheard node event = Unit {0}
