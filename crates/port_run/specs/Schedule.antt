-- Which steps the lines of `host` are (this project's own rule).
use Rattle.std.specs.Prelude.{◌≡◌, ℕ, zero, suc, ◌-◌, ◌<◌, ◌≤◌, ◌==◌, ◌&&◌, ◌⊎◌, min, if◌then◌else◌, List, [], ◌∷◌, ◌++◌, length}
use Rattle.std.specs.List.{flat_map}
use Rattle.run_lines.specs.declared.reader.TheConstants.{PIECE}
use Rattle.zw_text.specs.declared.line.Line.{Line}
use Rattle.port_run.specs.declared.asking.Answer.{Answer}
use Rattle.port_run.specs.declared.asking.Answer.TheVariants.{Taken}
use Rattle.port_run.specs.declared.line.PortLine.{PortLine}
use Rattle.port_run.specs.declared.line.PortLine.TheVariants.{Plain, Wait}
use Rattle.port_run.specs.declared.stop.Stop.{Stop}
use Rattle.port_run.specs.declared.stop.Stop.TheVariants.{ReadFault, WriteFault, InputTooLong, NoMemory}
use Rattle.port_run.specs.Steps.{Step, Asks, Takes, Rests, Ticks, Pumps}

-- ---- clocks

-- how many ticks a clock may tell after a read of so many bytes
abbrev pub Telling : Type 1
Telling = ℕ → ℕ → Type 0

-- a quiet moment is a tick
abbrev pub quiet_ticks : ℕ → ℕ
quiet_ticks got = if got == 0 then 1 else 0

abbrev pub is_quiet : Telling
is_quiet got ticks = ticks ≡ quiet_ticks got

-- ---- one turn of a wait

-- what a read gave, and how many ticks then passed
pub record Turn : Type 0 where
  pub piece : List ℕ
  pub ticks : ℕ

-- a read of no bytes is a tick at least, and no more ticks pass than are left
abbrev pub due : ℕ → ℕ → ℕ → ℕ
due got passed left = min left (if got == 0 && passed == 0 then 1 else passed)

pub record IsTurn (Tells : Telling) (left : ℕ) (turn : Turn) : Type 0 where
  pub short : length turn.piece ≤ PIECE
  pub passed : ℕ
  pub told : Tells (length turn.piece) passed
  pub ticks_are : turn.ticks ≡ due (length turn.piece) passed left

-- each tick is followed by a pump
abbrev pub tick_steps : ℕ → List Step
tick_steps zero = []
tick_steps (suc more) = Ticks ∷ Pumps ∷ tick_steps more

-- so are bytes
abbrev pub piece_steps : List ℕ → List Step
piece_steps [] = Rests ∷ []
piece_steps (byte ∷ bytes) = Takes (byte ∷ bytes) ∷ Pumps ∷ []

-- the bytes that were read come before the ticks
abbrev pub turn_steps : Turn → List Step
turn_steps turn = piece_steps turn.piece ++ tick_steps turn.ticks

-- ---- a wait

-- turns, from so many ticks that are left to so many
abbrev pub Turns : Telling → ℕ → List Turn → ℕ → Type 0
Turns Tells left [] left' = left' ≡ left
Turns Tells left (turn ∷ turns) left' = (0 < left) × IsTurn Tells left turn × Turns Tells (left - turn.ticks) turns left'

abbrev pub steps_of : List Turn → List Step
steps_of turns = flat_map turn_steps turns

-- turns were done, with these steps
pub record Waited (Tells : Telling) (left left' : ℕ) (steps : List Step) : Type 0 where
  pub turns : List Turn
  pub are : Turns Tells left turns left'
  pub steps_are : steps ≡ steps_of turns

-- ---- lines

-- a line, how it was answered, and its steps
abbrev pub LineSteps : Telling → PortLine → Answer → List Step → Type 0
LineSteps Tells (Plain line) answer steps = steps ≡ Asks line answer ∷ Pumps ∷ []
LineSteps Tells (Wait ticks) answer steps = (answer ≡ Taken) × Waited Tells ticks 0 steps

-- lines, one after another
abbrev pub AllSteps : Telling → List PortLine → List Answer → List Step → Type 0
AllSteps Tells [] answers steps = (answers ≡ []) × (steps ≡ [])
AllSteps Tells (line ∷ lines) answers steps =
    (answer : Answer) × (more : List Answer) × (first later : List Step) × LineSteps Tells line answer first × AllSteps Tells lines more later
    × (answers ≡ answer ∷ more) × (steps ≡ first ++ later)

-- all of a run: what the start of the host left due is submitted before the first line
abbrev pub RunSteps : Telling → List PortLine → List Answer → List Step → Type 0
RunSteps Tells lines answers steps = (more : List Step) × AllSteps Tells lines answers more × (steps ≡ Pumps ∷ more)

-- ---- where no further step is done

-- some first steps of these
abbrev pub IsFirst : List Step → List Step → Type 0
IsFirst steps whole = (rest : List Step) × (whole ≡ steps ++ rest)

-- a write failed, or there was no memory
abbrev pub IsLate : Stop → Type 0
IsLate WriteFault = Unit {0}
IsLate NoMemory = Unit {0}
IsLate ReadFault = ⊥
IsLate InputTooLong = ⊥

-- in steps that read nothing
abbrev pub CutIn : List Step → Stop → List Step → Type 0
CutIn whole stop steps = IsLate stop × IsFirst steps whole

-- as bytes were taken: where there was no memory, perhaps a prefix of them
abbrev pub CutTaking : List ℕ → Stop → List Step → Type 0
CutTaking bytes ReadFault steps = ⊥
CutTaking bytes InputTooLong steps = ⊥
CutTaking bytes WriteFault steps = steps ≡ Takes bytes ∷ []
CutTaking bytes NoMemory steps = (prefix rest : List ℕ) × (bytes ≡ prefix ++ rest) × (steps ≡ Takes prefix ∷ [])

-- as bytes were taken and what may be was submitted
abbrev pub CutPiece : List ℕ → Stop → List Step → Type 0
CutPiece bytes stop steps = CutIn (Takes bytes ∷ Pumps ∷ []) stop steps ⊎ CutTaking bytes stop steps

-- as what a read gave was taken
abbrev pub CutRead : List ℕ → Stop → List Step → Type 0
CutRead bytes stop steps = (0 < length bytes) × CutPiece bytes stop steps

-- in a turn: as its bytes were taken, or at one of its ticks
abbrev pub CutSteps : Turn → Stop → List Step → Type 0
CutSteps turn stop steps =
    CutRead turn.piece stop steps ⊎ ((ticks : List Step) × (steps ≡ piece_steps turn.piece ++ ticks) × CutIn (tick_steps turn.ticks) stop ticks)

-- in a turn or before it, while so many ticks are left
abbrev pub CutTurn : Telling → ℕ → Stop → List Step → Type 0
CutTurn Tells left ReadFault steps = steps ≡ []
CutTurn Tells left InputTooLong steps = steps ≡ []
CutTurn Tells left stop steps = (turn : Turn) × IsTurn Tells left turn × CutSteps turn stop steps

-- in a wait
pub record CutWait (Tells : Telling) (ticks : ℕ) (stop : Stop) (steps : List Step) : Type 0 where
  pub left : ℕ
  pub first : List Step
  pub last : List Step
  pub parts : steps ≡ first ++ last
  pub waited : Waited Tells ticks left first
  pub more : 0 < left
  pub cut : CutTurn Tells left stop last

-- in a line
abbrev pub CutPlain : Line → Stop → List Step → Type 0
CutPlain line stop steps = (answer : Answer) × CutIn (Asks line answer ∷ Pumps ∷ []) stop steps

abbrev pub CutLine : Telling → PortLine → Stop → List Step → Type 0
CutLine Tells (Plain line) stop steps = CutPlain line stop steps
CutLine Tells (Wait ticks) stop steps = CutWait Tells ticks stop steps

-- in one of the lines, once those before it were run
pub record CutLines (Tells : Telling) (lines : List PortLine) (stop : Stop) (steps : List Step) : Type 0 where
  pub done : List PortLine
  pub line : PortLine
  pub later : List PortLine
  pub lines_are : lines ≡ done ++ line ∷ later
  pub answers : List Answer
  pub first : List Step
  pub last : List Step
  pub parts : steps ≡ first ++ last
  pub before : AllSteps Tells done answers first
  pub cut : CutLine Tells line stop last

-- in a run
abbrev pub CutRun : Telling → List PortLine → Stop → List Step → Type 0
CutRun Tells lines stop steps =
    CutIn (Pumps ∷ []) stop steps ⊎ ((more : List Step) × (steps ≡ Pumps ∷ more) × CutLines Tells lines stop more)
