-- What may happen to a host alone, one step at a time, what it makes of it, and its entries (this project's own rule). A step carries what is chosen in it.
use Rattle.std.specs.Prelude.{◌≡◌, ℕ, ◌+◌, length, true, false, List, [], ◌∷◌, ◌++◌, None}
use Rattle.std.specs.List.{AllByRecursion}
use Rattle.serial_frame.specs.Items.{unit_text}
use Rattle.serial_frame.specs.declared.item.Item.{Item}
use Rattle.serial_frame.specs.declared.item.Item.TheVariants.{Good, Refused as refused_item}
use Rattle.serial_frame.specs.declared.unit.Unit.{Unit as LineUnit}
use Rattle.serial_frame.specs.declared.unit.Unit.TheVariants.{Framed}
use Rattle.zw_words.specs.declared.side.Side.TheVariants.{Host, Chip}
use Rattle.zw_text.specs.declared.line.Line.{Line}
use Rattle.zw_text.specs.declared.line.Line.TheVariants as lines
use Rattle.zw_text.specs.declared.entry.Refusal.{Refusal}
use Rattle.zw_text.specs.declared.entry.Entry.{Entry}
use Rattle.zw_text.specs.declared.entry.Entry.TheVariants as entry
use Rattle.law_host.specs.law_transcript.Restarts.{ticks_of}
use Rattle.law_host.specs.law_time.Requests.{is_answer}
use Rattle.host_orders.specs.Errands.{send_refusal, send_text, get_refusal, get_text}
use Rattle.host_orders.specs.Refusals.{classes_of}
use Rattle.host_requests.specs.declared.task.Task.TheVariants as task
use Rattle.proof_line.specs.host_model.State.{HostState, node_of}
use Rattle.proof_line.specs.host_model.Events.{HostEvent, Accepts, Cancels, Joins, Queues, Queues_interview, Queues_probe, Hears}
use Rattle.proof_line.specs.host_model.May.{known_of}
use Rattle.proof_line.specs.host_model.Asking.{carriage_for, places_refusal, interview_refusal}
use Rattle.proof_line.specs.host_model.Outs.{answers}
use Rattle.proof_line.specs.host_model.declared.out.HostOut.{HostOut}
use Rattle.proof_line.specs.host_model.declared.out.HostOut.TheVariants.{Write, Note}
use Rattle.proof_line.specs.world_model.Events.{shown_values}
use Rattle.proof_alone.specs.State.{HostMachine, done}

-- ---- entries

-- of the air, of devices and of the chip alone
abbrev pub IsOfOthers : Entry → Type 0
IsOfOthers (entry.Air frame sender receiver repeaters payload) = Unit {0}
IsOfOthers (entry.Heard frame) = Unit {0}
IsOfOthers (entry.Lost frame) = Unit {0}
IsOfOthers (entry.Unheard frame) = Unit {0}
IsOfOthers (entry.Dev node by setting) = Unit {0}
IsOfOthers (entry.Device node setting) = Unit {0}
IsOfOthers (entry.Forget first second) = Unit {0}
IsOfOthers entry.ChipFull = Unit {0}
IsOfOthers (entry.Cleared side count) = Unit {0}
IsOfOthers _ = ⊥

-- what became of a unit that the host wrote
abbrev pub IsOfUnit : Entry → Type 0
IsOfUnit (entry.Dropped Host) = Unit {0}
IsOfUnit (entry.Garbled Host unit) = Unit {0}
IsOfUnit (entry.Overrun Host) = Unit {0}
IsOfUnit _ = ⊥

-- a unit of the chip did not come as it was written: it was lost, or changed
abbrev pub DidNotCome : List Entry → Type 0
DidNotCome (entry.Dropped Chip ∷ []) = Unit {0}
DidNotCome (entry.Overrun Chip ∷ []) = Unit {0}
DidNotCome (entry.Garbled Chip unit ∷ []) = Unit {0}
DidNotCome (entry.Garbled Chip unit ∷ entry.Overrun Chip ∷ []) = Unit {0}
DidNotCome _ = ⊥

-- neither a unit that was changed nor what it became answers a frame
abbrev pub ChangesFrame : List ℕ → List Entry → Type 0
ChangesFrame text (entry.Garbled Chip unit ∷ more) = (is_answer text ≡ false) × (is_answer unit ≡ false)
ChangesFrame text marks = Unit {0}

-- what the host puts out is entered: its notes, and its units, each with what became of it
abbrev pub AreTold : List HostOut → List Entry → Type 0
AreTold [] told = told ≡ []
AreTold (Note note ∷ outs) told = (rest : List Entry) × (told ≡ note ∷ rest) × AreTold outs rest
AreTold (Write unit ∷ outs) told =
    (marks rest : List Entry) × (told ≡ entry.Written Host (unit_text unit) ∷ (marks ++ rest)) × AllByRecursion IsOfUnit marks × AreTold outs rest

-- ---- lines

-- what a line asks of the host, where no rule refuses it
abbrev pub IsAskedBy : Line → HostState → HostEvent → Type 0
IsAskedBy (lines.Command order) h event = event ≡ Accepts order (carriage_for h order)
IsAskedBy (lines.Send node word) h event =
    (send_refusal (known_of (node_of h node)) (length h.requests.queue) word ≡ None)
    × (event ≡ Queues (task.Plain node (send_text (classes_of (known_of (node_of h node))) word)))
IsAskedBy (lines.Get node end) h event =
    (get_refusal (known_of (node_of h node)) (length h.requests.queue) end ≡ None)
    × (event ≡ Queues (task.Plain node (get_text (classes_of (known_of (node_of h node))) end)))
IsAskedBy (lines.Join node) h event = event ≡ Joins node
IsAskedBy (lines.Interview node) h event = (interview_refusal h node ≡ None) × (event ≡ Queues_interview node)
IsAskedBy (lines.Cancel command) h event = event ≡ Cancels command
IsAskedBy lines.Discover h event = (places_refusal h 1 ≡ None) × (event ≡ Queues task.Members)
IsAskedBy (lines.Neighbours node) h event = (places_refusal h 1 ≡ None) × (event ≡ Queues (task.Neighbours node))
IsAskedBy (lines.Failed node) h event = (places_refusal h 1 ≡ None) × (event ≡ Queues (task.IsFailed node))
IsAskedBy lines.Probe h event = (places_refusal h 3 ≡ None) × (event ≡ Queues_probe)
IsAskedBy line h event = ⊥

-- it asks for ticks, or for nothing that a host does
abbrev pub AsksNothing : Line → Type 0
AsksNothing (lines.Cut size) = Unit {0}
AsksNothing (lines.Stall ticks) = Unit {0}
AsksNothing (lines.Drop by) = Unit {0}
AsksNothing (lines.Garble by place xor) = Unit {0}
AsksNothing lines.Collide = Unit {0}
AsksNothing (lines.Lose count) = Unit {0}
AsksNothing (lines.LoseAck count) = Unit {0}
AsksNothing (lines.Repeat frame) = Unit {0}
AsksNothing (lines.Wake node) = Unit {0}
AsksNothing (lines.Link first second) = Unit {0}
AsksNothing (lines.Unlink first second) = Unit {0}
AsksNothing (lines.Local node value) = Unit {0}
AsksNothing (lines.Show node) = Unit {0}
AsksNothing line = ⊥

-- ---- steps

-- of others: an entry; a unit of the chip comes; one does not, and this became of it
-- of a line: its words are said, or words that are no line; the host does what it asks; it is refused; the stored values of a node are shown; a host that starts from the records goes on
-- of time: a tick begins, after which so many are to come; its number is entered
-- of the host: an item is judged, which leaves these units, with these events behind it; it does an event of a tick, of an item or of a pump
pub data Step : Type 0 where
  Tells : (told : Entry) → Step
  Comes : (unit : LineUnit) → Step
  Misses : (text : List ℕ) (marks : List Entry) → Step
  Says : (words : List ℕ) (line : Line) → Step
  Says_nothing : (words : List ℕ) → Step
  Asks : (event : HostEvent) → Step
  Refuses : (refusal : Refusal) → Step
  Shows : (node : ℕ) → Step
  Restarts : (state : HostState) → Step
  Begins_tick : (left : ℕ) → Step
  Numbers : Step
  Judges : (item : Item) (rest : List LineUnit) (behind : List HostEvent) (told : List Entry) → Step
  Does : (event : HostEvent) (told : List Entry) → Step

abbrev pub happens : HostMachine → Step → HostMachine
happens m (Tells told) = m
happens m (Comes unit) = record m { came = m.came ++ unit ∷ [] }
happens m (Misses text marks) = m
happens m (Says words line) = record m { left = ticks_of line; awaits = false }
happens m (Says_nothing words) = record m { awaits = false }
happens m (Asks event) = done m event
happens m (Refuses refusal) = m
happens m (Shows node) = m
happens m (Restarts state) = record m { state = state; came = [] }
happens m (Begins_tick left) = record m { clock = m.clock + 1; left = left; awaits = true }
happens m Numbers = record m { awaits = false }
happens m (Judges item rest behind told) = record (done m (Hears item)) { came = rest }
happens m (Does event told) = done m event

abbrev pub entries : HostMachine → Step → List Entry
entries m (Tells told) = told ∷ []
entries m (Comes unit) = entry.Written Chip (unit_text unit) ∷ []
entries m (Misses text marks) = entry.Written Chip text ∷ marks
entries m (Says words line) = entry.Said words ∷ []
entries m (Says_nothing words) = entry.Said words ∷ []
entries m (Asks event) = answers m.state event
entries m (Refuses refusal) = entry.Refused refusal ∷ []
entries m (Shows node) = shown_values m.state node ∷ []
entries m (Restarts state) = []
entries m (Begins_tick left) = []
entries m Numbers = entry.Time m.clock ∷ []
entries m (Judges item rest behind told) = told
entries m (Does event told) = told

-- ---- which units have come

-- nothing but frames: no answer
abbrev pub IsFramed : LineUnit → Type 0
IsFramed (Framed f) = Unit {0}
IsFramed unit = ⊥

abbrev pub AreFrames : List LineUnit → Type 0
AreFrames came = AllByRecursion IsFramed came

-- ---- which units are judged

-- a good item is the unit that came first; what is refused need not have come
abbrev pub TakesItem : Item → List LineUnit → List LineUnit → Type 0
TakesItem (Good unit) came rest = came ≡ unit ∷ rest
TakesItem (refused_item refusal) came rest = rest ≡ came
