-- What `generate` runs and writes (this project's own rule).
use Rattle.std.specs.Prelude.{◌≡◌, ℕ, ◌⊎◌, ◌+◌, ◌*◌, ◌%◌, ◌==◌, nat_lt, if◌then◌else◌, List, [], ◌∷◌, ◌++◌, length, filter, codes, decimal, Bool, true, false, Option}
use Rattle.std.specs.List.{flat_map, range_with_len}
use Rattle.std.specs.Io.KnownBytes.{Appends}
use Rattle.zw_base.specs.declared.order.What.TheVariants.{Value}
use Rattle.zw_base.specs.declared.order.Word.{Word}
use Rattle.zw_base.specs.declared.order.Word.TheVariants.{On, Off}
use Rattle.zw_text.specs.declared.line.Line.{Line}
use Rattle.zw_text.specs.declared.line.Line.TheVariants.{Command, Tick, Link, Join, Interview, LoseAck}
use Rattle.zw_text.specs.declared.entry.Entry.{Entry}
use Rattle.zw_text.specs.declared.entry.Entry.TheVariants.{Accepted, Out, TableEnd, TableNode, Device}
use Rattle.zw_text.specs.declared.entry.Ended.TheVariants.{Success}
use Rattle.world_model.specs.Did.{Scene, Does, Stops}
use Rattle.world_model.specs.Lines.{IsLine}
use Rattle.world_model.specs.Prefixes.{LinePrefix}
use Rattle.world_model.specs.Table.{table_entries}
use Rattle.device_sim.specs.State.{State}
use Rattle.zw_world.specs.World.{first_world, scene}
use Rattle.run_lines.specs.Writing.{AppendsPrefix}
use Rattle.run_lines.specs.declared.status.Status.{Status}
use Rattle.run_lines.specs.declared.status.Status.TheVariants.{Ok, WriteFault, NoMemory}
use Rattle.run_lines.specs.Pieces.{entry_line}
use Rattle.host_keep.specs.Keeping.{Shelf}

-- ---- the scenario

-- a node is linked to the controller, joins and is interviewed
abbrev pub joining_lines : ℕ → List Line
joining_lines node = Link 1 node ∷ Join node ∷ Interview node ∷ []

-- the node that is switched in a turn, and how
abbrev pub node_at : ℕ → ℕ
node_at turn = 2 + 8 * (turn % 4)

abbrev pub word_at : ℕ → Word
word_at turn = if nat_lt (turn % 8) 4 then On else Off

-- in every seventh turn an acknowledgement is lost
abbrev pub loss_lines : ℕ → List Line
loss_lines turn = if turn % 7 == 0 then LoseAck 1 ∷ [] else []

-- a command in its turn, and time to carry it
abbrev pub command_lines : ℕ → List Line
command_lines turn = loss_lines turn ++ Command (record { node = node_at turn; end = 0; what = Value (word_at turn) }) ∷ Tick 5 ∷ []

-- three nodes join, and there is time for their interviews
abbrev pub first_lines : List Line
first_lines = ((joining_lines 10 ++ joining_lines 18) ++ joining_lines 26) ++ Tick 10 ∷ []

-- so many hundred commands, after the joining of three nodes
abbrev pub generated_lines : ℕ → List Line
generated_lines hundreds =
    first_lines ++ flat_map command_lines (range_with_len 0 (100 * hundreds))

-- ---- its run

-- lines are run one after another, from a world at its beginning
abbrev pub AllDone : List Line → Scene → Scene → Type 0
AllDone [] old new = new ≡ old
AllDone (line ∷ lines) old new = (mid : Scene) × Does (IsLine line) old mid × AllDone lines mid new

-- the same until there is no memory: the first of them whole, and of the next one nothing, or a prefix
abbrev pub SomeDone : List Line → Scene → Scene → Type 0
SomeDone [] old new = new ≡ old
SomeDone (line ∷ lines) old new = Stops (LinePrefix line) old new ⊎ ((mid : Scene) × Does (IsLine line) old mid × SomeDone lines mid new)

-- ---- the summary

-- how many commands were accepted, and how many reported successful
abbrev pub is_accepted : Entry → Bool
is_accepted (Accepted command node) = true
is_accepted entry = false

abbrev pub is_success : Entry → Bool
is_success (Out command Success) = true
is_success entry = false

abbrev pub accepted_count : List Entry → ℕ
accepted_count entries = length (filter is_accepted entries)

abbrev pub success_count : List Entry → ℕ
success_count entries = length (filter is_success entries)

-- a line of the final table as it is printed here: the ticks, how many sessions a node had, what its device shows
abbrev pub table_line : Entry → List ℕ
table_line (TableEnd ticks) = codes "ticks " ++ (decimal ticks ++ 10 ∷ [])
table_line (TableNode node sessions) = codes "node " ++ (decimal node ++ (codes " sessions " ++ (decimal (length sessions) ++ 10 ∷ [])))
table_line (Device node setting) = entry_line (Device node setting)
table_line entry = []

abbrev pub head_text : List Entry → List ℕ
head_text entries = codes "commands " ++ (decimal (accepted_count entries) ++ (codes "\nsuccess " ++ (decimal (success_count entries) ++ 10 ∷ [])))

abbrev pub summary_text : List Entry → List Entry → List ℕ
summary_text entries table = head_text entries ++ flat_map table_line table

-- the scenario was run, and this is its summary
pub record SumsUp (hundreds : ℕ) (key : List ℕ) (before after : List State) (shelf shelf' : Shelf) (text : List ℕ) : Type 0 where
  pub last : Scene
  pub done : AllDone (generated_lines hundreds) (scene (first_world key) before shelf []) last
  pub devices : last.machine.outside.devices ≡ after
  pub records_are : last.machine.records ≡ shelf'.records
  pub faults_are : last.faults ≡ shelf'.faults
  pub text_is : text ≡ summary_text last.entries (table_entries last.machine)

-- there was no memory for all of the scenario, or for its summary
pub record IsCutShort (hundreds : ℕ) (key : List ℕ) (before after : List State) (shelf shelf' : Shelf) : Type 0 where
  pub last : Scene
  pub done : SomeDone (generated_lines hundreds) (scene (first_world key) before shelf []) last
  pub devices : last.machine.outside.devices ≡ after
  pub records_are : last.machine.records ≡ shelf'.records
  pub faults_are : last.faults ≡ shelf'.faults

-- what is written at each status
abbrev pub GenerateRan : Status → ℕ → List ℕ → List State → List State → Shelf → Shelf → Option (List ℕ) → Option (List ℕ) → Type 0
GenerateRan Ok hundreds key before after shelf shelf' sink sink' =
    (text : List ℕ) × SumsUp hundreds key before after shelf shelf' text × Appends sink sink' text
GenerateRan WriteFault hundreds key before after shelf shelf' sink sink' =
    (text : List ℕ) × SumsUp hundreds key before after shelf shelf' text × AppendsPrefix sink sink' text
GenerateRan NoMemory hundreds key before after shelf shelf' sink sink' =
    IsCutShort hundreds key before after shelf shelf' × (sink' ≡ sink)
GenerateRan status hundreds key before after shelf shelf' sink sink' = ⊥
