-- What holds of every transcript of events, said of its lines and entries alone. All of it is this project's own rule.
use Rattle.std.specs.Prelude.{◌≡◌, ℕ, zero, suc, ◌+◌, ◌-◌, ◌<◌, ◌≤◌, ◌==◌, nat_le, min, if◌then◌else◌, Option, Some, None, List, [], ◌∷◌, ◌++◌, length, slice_get}
use Rattle.std.specs.List.{flat_map}
use Rattle.zw_text.specs.Line.{IsNode}
use Rattle.event_flow.specs.declared.node_flow.TheConstants.{MOST_UNKNOWN, STALE_AGE}
use Rattle.event_flow.specs.declared.line.EventLine.{EventLine}
use Rattle.event_flow.specs.declared.line.EventLine.TheVariants.{Event, Again, Deliver}
use Rattle.event_flow.specs.declared.entry.EventRefusal.{EventRefusal}
use Rattle.event_flow.specs.declared.entry.EventRefusal.TheVariants.{Full, Idle, NeverSent, Stale}
use Rattle.event_flow.specs.declared.entry.EventEntry.{EventEntry}
use Rattle.event_flow.specs.declared.entry.EventEntry.TheVariants.{Refused, Queued, Frame, Taken, Known}
use Rattle.event_flow.specs.declared.frame.Notice.{Notice}
use Rattle.supervision.specs.Host.{open_session}
use Rattle.event_flow.specs.declared.frame.Frame.{Frame as SentFrame}
use Rattle.event_flow.specs.declared.frame.Content.TheVariants.{Event as EventContent, Receipt}
use Rattle.event_flow.specs.State.{FlowState, node_of, frame_at, later_of}
use Rattle.event_flow.specs.Steps.{after, entries}

-- a line that was run, and what was entered at it
pub record Ran : Type 0 where
  pub line : EventLine
  pub entries : List EventEntry

-- the transcript of lines that are run one after another
abbrev pub run : FlowState → List EventLine → List Ran
run w [] = []
run w (line ∷ more) = record { line = line; entries = entries w line } ∷ run (after w line) more

-- all nodes and frames after these lines
abbrev pub after_all : FlowState → List EventLine → FlowState
after_all w [] = w
after_all w (line ∷ more) = after_all (after w line) more

-- a line names a node that there is
abbrev pub NamesNode : EventLine → Type 0
NamesNode (Event node kind level) = IsNode 1 node
NamesNode (Again node) = IsNode 1 node
NamesNode (Deliver frame) = Unit {0}

-- the one list is a prefix of the other
abbrev pub IsPrefix : {A : Type 0} → List A → List A → Type 0
IsPrefix {A} prefix whole = (rest : List A) × (whole ≡ prefix ++ rest)

-- 1, 2, 3 and so on, so many of them
abbrev pub count_up : ℕ → List ℕ
count_up zero = []
count_up (suc k) = count_up k ++ suc k ∷ []

-- what is of the node
abbrev pub of_node : {A : Type 0} → ℕ → ℕ → A → List A
of_node node at x = if node == at then x ∷ [] else []

-- the event of a line at the node
abbrev pub event_of : ℕ → EventLine → List Notice
event_of node (Event at kind level) = of_node node at (record { kind = kind; level = level })
event_of node line = []

-- the event of a line at the node, where it was queued
abbrev pub queued_event : ℕ → List EventEntry → EventLine → List Notice
queued_event node (Queued at number ∷ more) line = event_of node line
queued_event node entries line = []

-- the events of the node that were queued
abbrev pub queued_in : ℕ → List Ran → List Notice
queued_in node T = flat_map (λ ran. queued_event node ran.entries ran.line) T

-- what an entry says of the node
abbrev pub taken_event : ℕ → EventEntry → List Notice
taken_event node (Taken at kind level) = of_node node at (record { kind = kind; level = level })
taken_event node entry = []

abbrev pub queued_number : ℕ → EventEntry → List ℕ
queued_number node (Queued at number) = of_node node at number
queued_number node entry = []

abbrev pub known_number : ℕ → EventEntry → List ℕ
known_number node (Known at number) = of_node node at number
known_number node entry = []

-- what all entries say
abbrev pub shown : {A : Type 0} → (EventEntry → List A) → List Ran → List A
shown view T = flat_map (λ ran. flat_map view ran.entries) T

-- the events that the host took of the node, the numbers that its events got, and those that became known
abbrev pub taken_in : ℕ → List Ran → List Notice
taken_in node T = shown (taken_event node) T

abbrev pub numbers_in : ℕ → List Ran → List ℕ
numbers_in node T = shown (queued_number node) T

abbrev pub known_in : ℕ → List Ran → List ℕ
known_in node T = shown (known_number node) T

-- how many sessions of the node have begun: those of the events that are known, and of one more where there is one
abbrev pub begun_in : ℕ → List Ran → ℕ
begun_in node T = min (length (queued_in node T)) (length (known_in node T) + 1)

-- a frame that was sent: its device, and how many sessions of that had begun by the end of the frame's line
pub record Sent : Type 0 where
  pub node : ℕ
  pub begun : ℕ

-- the device of a frame is the end of it that is not the host, node 1
abbrev pub device_end : ℕ → ℕ → ℕ
device_end sender receiver = if sender == 1 then receiver else sender

abbrev pub sent_by : List Ran → EventEntry → List Sent
sent_by so_far (Frame number sender receiver payload) =
    record { node = device_end sender receiver; begun = begun_in (device_end sender receiver) so_far } ∷ []
sent_by so_far entry = []

-- the frames of a transcript that goes on from another
abbrev pub sent_from : List Ran → List Ran → List Sent
sent_from so_far [] = []
sent_from so_far (ran ∷ more) = flat_map (sent_by (so_far ++ ran ∷ [])) ran.entries ++ sent_from (so_far ++ ran ∷ []) more

-- the frame of that number
abbrev pub sent_at : List Sent → ℕ → Option Sent
sent_at sent zero = None
sent_at sent (suc before) = slice_get sent before

-- why a delivery is refused, if it is
abbrev pub delivery_refusal : List Ran → Option Sent → Option EventRefusal
delivery_refusal T None = Some NeverSent
delivery_refusal T (Some sent) =
    if nat_le STALE_AGE (begun_in sent.node T - sent.begun) then Some (Stale (begun_in sent.node T - sent.begun)) else None

-- why a line is refused after a transcript, if it is
abbrev pub refusal_of : List Ran → EventLine → Option EventRefusal
refusal_of T (Event node kind level) =
    if nat_le MOST_UNKNOWN (length (queued_in node T) - length (known_in node T)) then Some (Full MOST_UNKNOWN) else None
refusal_of T (Again node) = if length (queued_in node T) == length (known_in node T) then Some Idle else None
refusal_of T (Deliver frame) = delivery_refusal T (sent_at (sent_from [] T) frame)

-- the refusal among entries
abbrev pub refusal_in : List EventEntry → Option EventRefusal
refusal_in (Refused refusal ∷ more) = Some refusal
refusal_in entries = None

-- what the transcript says of one node: the host took a prefix of the events that were queued, in their order; the events have
-- the numbers 1, 2, 3 and so on, and so do those that became known; and none became known before it was taken
pub record FlowOf (node : ℕ) (T : List Ran) : Type 0 where
  pub in_order : IsPrefix (taken_in node T) (queued_in node T)
  pub numbers : numbers_in node T ≡ count_up (length (queued_in node T))
  pub known : known_in node T ≡ count_up (length (known_in node T))
  pub after_taken : (before rest : List Ran) → T ≡ before ++ rest → length (known_in node before) ≤ length (taken_in node before)

-- all nodes flow so, and each refusal is the one that the transcript before it asks for
pub record Flow (T : List Ran) : Type 0 where
  pub nodes : (node : ℕ) → IsNode 1 node → FlowOf node T
  pub refusals : (before rest : List Ran) (ran : Ran) → T ≡ before ++ ran ∷ rest → refusal_in ran.entries ≡ refusal_of before ran.line

-- the frame of that number is that of the next event that the host has to take of its node, and is not stale
pub record IsNextEvent (w : FlowState) (number : ℕ) (frame : SentFrame) (notice : Notice) : Type 0 where
  pub found : frame_at w.frames number ≡ Some frame
  pub carries : frame.content ≡ EventContent notice
  pub next : frame.session ≡ length (node_of w.nodes frame.node).taken + 1
  pub fresh : later_of (node_of w.nodes frame.node) frame < STALE_AGE

-- the frame of that number is the answer to the open session of its node, and is not stale
pub record IsAnswer (w : FlowState) (number : ℕ) (frame : SentFrame) : Type 0 where
  pub found : frame_at w.frames number ≡ Some frame
  pub carries : frame.content ≡ Receipt
  pub is_open : open_session (node_of w.nodes frame.node).device ≡ Some frame.session
  pub fresh : later_of (node_of w.nodes frame.node) frame < STALE_AGE
