-- What is outside the host, in the course of one node (this project's own rule).
use Rattle.std.specs.Prelude.{◌≡◌, ℕ, List, []}
use Rattle.proof_course.specs.Sessions.{Course}
use Rattle.serial_frame.specs.Stream.{Rest, no_rest}
use Rattle.zw_words.specs.declared.side.Side.{Side}
use Rattle.zw_words.specs.declared.side.Side.TheVariants as side
use Rattle.serial_frame.specs.declared.item.Item.{Item}
use Rattle.serial_link.specs.declared.turn.Turn.{Turn}
use Rattle.chip_sim.specs.Rules.{WaitsWell}
use Rattle.outside_model.specs.State.{Outside}
use Rattle.outside_model.specs.Events.{OuterEvent, Chip_ticks, Clears_pipe, mesh_of}
use Rattle.proof_world.specs.proof_serial.Way.{Carries}
use Rattle.proof_world.specs.proof_serial.Chip.{HasFrames}
use Rattle.proof_course_plain.specs.Ways.{Goes}
use Rattle.proof_course_plain.specs.Meaning.{Asked}
use Rattle.proof_course_plain.specs.Mesh.{InMesh}
use Rattle.proof_course_plain.specs.Lines.{Tells, Asks, OnWay}

-- The course is where the outside is: its frames are those on the air, its device is the node's; its messages are on the line to the chip, then in the host's own frame, which may be written again; and its reports on the
-- line to the host, then in the chip's own frame, then in the frames that wait at the chip. `rest` is what is unfinished at the host, `turn` the host's own frame
pub record Follows (node : ℕ) (orders : List Asked) (c : Course) (rest : Rest) (turn : Turn) (up down : List Item) (w : Outside) : Type 0 where
  pub mesh : InMesh node orders c (mesh_of w)
  pub to_chip : Carries w.outer.chip.decoder w.outer.to_chip up
  pub to_host : Carries rest w.outer.to_host down
  pub frames : HasFrames w.outer.chip.state.port
  pub waits : WaitsWell w.outer.chip.state.port
  pub messages : OnWay (Asks node orders c.host.commands) c.up up turn []
  pub reports : OnWay (Tells node) c.down down w.outer.chip.state.port.side.turn w.outer.chip.state.port.waiting

-- steps of the course, none of them the host's, lead to where the outside is then
pub record OuterGoes (node : ℕ) (orders : List Asked) (c : Course) (rest : Rest) (turn : Turn) (w : Outside) : Type 0 where
  pub later : Course
  pub goes : Goes c later
  pub host : later.host ≡ c.host
  pub told : later.told ≡ c.told
  pub up : List Item
  pub down : List Item
  pub follows : Follows node orders later rest turn up down w

-- who ticks, or loses what is on its way to it, has nothing unfinished; `rest` is what is unfinished at the host
abbrev pub SideRests : Rest → Outside → Side → Type 0
SideRests rest w side.Host = w.outer.chip.decoder ≡ no_rest
SideRests rest w side.Chip = rest ≡ no_rest

abbrev pub Rests : Rest → Outside → OuterEvent → Type 0
Rests rest w Chip_ticks = w.outer.chip.decoder ≡ no_rest
Rests rest w (Clears_pipe side) = SideRests rest w side
Rests rest w event = Unit {0}
