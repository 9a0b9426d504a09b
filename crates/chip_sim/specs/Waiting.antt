-- The chip's side of the link, and the frames that wait for the host (this project's own: at most so many wait, and a frame waits only while the link is busy).
use Rattle.std.specs.Prelude.{ℕ, Bool, true, false, Option, Some, None, List, [], ◌∷◌, ◌++◌, ◌==◌, if◌then◌else◌, length}
use Rattle.serial_frame.specs.Frame.{FrameParts}
use Rattle.serial_frame.specs.Stream.{Rest, no_rest}
use Rattle.serial_frame.specs.declared.unit.Unit.TheVariants.{Framed}
use Rattle.serial_link.specs.State.{Side, tick_side, copy_due}
use Rattle.serial_link.specs.declared.turn.Turn.{Turn}
use Rattle.serial_link.specs.declared.turn.Turn.TheVariants.{Idle, Copied, Paused}
use Rattle.chip_sim.specs.declared.out.ChipOut.{ChipOut}
use Rattle.chip_sim.specs.declared.out.ChipOut.TheVariants.{Write, Full}
use Rattle.chip_sim.specs.declared.waiting.TheConstants.{MAX_WAITING}

-- the chip's side of the link, and the frames that wait for the host, first to be served first
pub record PortState : Type 0 where
  pub side : Side
  pub waiting : List FrameParts

-- these beside what is unfinished of the host's bytes
pub record PortParts : Type 0 where
  pub decoder : Rest
  pub port : PortState

-- nothing was heard, and nothing waits
abbrev pub no_port : PortParts
no_port = record { decoder = no_rest; port = record { side = record { turn = Idle; collisions = 0 }; waiting = [] } }

-- as many frames wait as may
abbrev pub is_full : List FrameParts → Bool
is_full waiting = length waiting == MAX_WAITING

-- a frame is submitted, and its first copy written
abbrev pub begun : Side → FrameParts → Side
begun side f = record { turn = Copied f 1 0; collisions = side.collisions }

-- a frame for the host is submitted where the link is free; else it waits, or is dropped where as many wait as may
abbrev pub queued_at : Turn → PortState → FrameParts → PortState
queued_at Idle p f = record { side = begun p.side f; waiting = p.waiting }
queued_at (Copied g copies ticks) p f = if is_full p.waiting then p else record { side = p.side; waiting = p.waiting ++ f ∷ [] }
queued_at (Paused g copies ticks) p f = if is_full p.waiting then p else record { side = p.side; waiting = p.waiting ++ f ∷ [] }

abbrev pub queued : PortState → FrameParts → PortState
queued p f = queued_at p.side.turn p f

-- what is put out where a frame is queued
abbrev pub queued_outs_at : Turn → PortState → FrameParts → List ChipOut
queued_outs_at Idle p f = Write (Framed f) ∷ []
queued_outs_at (Copied g copies ticks) p f = if is_full p.waiting then Full ∷ [] else []
queued_outs_at (Paused g copies ticks) p f = if is_full p.waiting then Full ∷ [] else []

abbrev pub queued_outs : PortState → FrameParts → List ChipOut
queued_outs p f = queued_outs_at p.side.turn p f

-- the frame that is submitted next: the first that waits, where the link is free
abbrev pub next_at : Turn → List FrameParts → Option FrameParts
next_at Idle [] = None
next_at Idle (f ∷ waiting) = Some f
next_at (Copied g copies ticks) waiting = None
next_at (Paused g copies ticks) waiting = None

-- the first frame that waits is submitted, where the link is free
abbrev pub served_at : Turn → List FrameParts → Side → PortState
served_at Idle [] side = record { side = side; waiting = [] }
served_at Idle (f ∷ waiting) side = record { side = begun side f; waiting = waiting }
served_at (Copied g copies ticks) waiting side = record { side = side; waiting = waiting }
served_at (Paused g copies ticks) waiting side = record { side = side; waiting = waiting }

abbrev pub served : PortState → PortState
served p = served_at p.side.turn p.waiting p.side

-- a frame of which a copy is written
abbrev pub written : Option FrameParts → List ChipOut
written None = []
written (Some f) = Write (Framed f) ∷ []

abbrev pub served_outs : PortState → List ChipOut
served_outs p = written (next_at p.side.turn p.waiting)

-- a tick of the link
abbrev pub ticked : PortState → PortState
ticked p = record { side = tick_side p.side; waiting = p.waiting }

-- at a tick the copy that is due is written, or the next frame where the one before failed
abbrev pub ticked_outs : PortState → List ChipOut
ticked_outs p = written (copy_due p.side.turn) ++ served_outs (ticked p)
