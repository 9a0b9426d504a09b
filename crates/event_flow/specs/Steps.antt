-- The table of lines: what each does, what is entered and which frame is sent. All of it is this project's own rule; what an
-- end makes of a session id is that of the Supervision Command Class.
use Rattle.std.specs.Prelude.{ℕ, ◌+◌, ◌-◌, nat_le, is_none, if◌then◌else◌, Option, Some, None, List, [], ◌∷◌, ◌++◌, length, slice_set}
use Rattle.supervision.specs.Session.{wire_id}
use Rattle.supervision.specs.Host.{begins, open_session, told_of, after_report}
use Rattle.supervision.specs.Device.{heard_of, after_get, finished}
use Rattle.supervision.specs.declared.session.TheConstants.{SUCCESS}
use Rattle.supervision.specs.declared.host_node.Told.{Told}
use Rattle.supervision.specs.declared.host_node.Told.TheVariants.{Final, Working, Old as Unasked}
use Rattle.supervision.specs.declared.device_book.Heard.{Heard}
use Rattle.supervision.specs.declared.device_book.Heard.TheVariants.{New, Again as Repeated, Old as Strange}
use Rattle.event_flow.specs.declared.node_flow.TheConstants.{EVENT, MOST_UNKNOWN, STALE_AGE}
use Rattle.event_flow.specs.declared.line.EventLine.{EventLine}
use Rattle.event_flow.specs.declared.line.EventLine.TheVariants.{Event, Again, Deliver}
use Rattle.event_flow.specs.declared.entry.EventRefusal.{EventRefusal}
use Rattle.event_flow.specs.declared.entry.EventRefusal.TheVariants.{Full, Idle, NeverSent, Stale}
use Rattle.event_flow.specs.declared.entry.EventEntry.{EventEntry}
use Rattle.event_flow.specs.declared.entry.EventEntry.TheVariants.{Refused, Queued, Frame as FrameEntry, Taken, Known, Old, TableNode}
use Rattle.event_flow.specs.declared.frame.Notice.{Notice}
use Rattle.event_flow.specs.declared.frame.Content.{Content}
use Rattle.event_flow.specs.declared.frame.Content.TheVariants.{Event as EventContent, Receipt}
use Rattle.event_flow.specs.declared.frame.Frame.{Frame}
use Rattle.event_flow.specs.declared.frame.Effect.{Effect}
use Rattle.event_flow.specs.State.{NodeState, FlowState, node_of, known_count, unknown_count, may_begin, event_frame, receipt_frame, later_of, frame_at, sender_of, receiver_of, payload_of}

-- a node after something happened at it, what is entered and which frame is sent
pub record Done : Type 0 where
  pub node : NodeState
  pub effect : Effect

abbrev pub does : NodeState → Option EventEntry → Option Frame → Done
does n enters sends = record { node = n; effect = record { enters = enters; sends = sends } }

-- nothing happens, and the transcript says why
abbrev pub refuses : NodeState → EventRefusal → Done
refuses n refusal = does n (Some (Refused refusal)) None

-- the node once its next session has begun
abbrev pub with_begun : NodeState → NodeState
with_begun n = record n { device = begins n.device EVENT }

-- the next session begins where it may, and its frame is sent
abbrev pub goes_on : ℕ → NodeState → EventEntry → Done
goes_on node n enters =
    if may_begin n then does (with_begun n) (Some enters) (Some (event_frame node (with_begun n)))
    else does n (Some enters) None

-- the node once one more event is queued
abbrev pub with_queued : NodeState → Notice → NodeState
with_queued n notice = record n { queued = n.queued ++ notice ∷ [] }

-- an event: refused while 16 are not known to be taken
abbrev pub queues : ℕ → NodeState → Notice → Done
queues node n notice =
    if nat_le MOST_UNKNOWN (unknown_count n) then refuses n (Full (unknown_count n))
    else goes_on node (with_queued n notice) (Queued node (length n.queued + 1))

-- once more: refused where no session is open
abbrev pub repeats : ℕ → NodeState → Done
repeats node n =
    if is_none (open_session n.device) then refuses n Idle else does n None (Some (event_frame node n))

-- the host after it took an event of that session id, with success
abbrev pub with_taken : NodeState → ℕ → Notice → NodeState
with_taken n id notice = record n { host = finished (after_get n.host id) SUCCESS; taken = n.taken ++ notice ∷ [] }

-- the host hears an event: a new one is taken and answered, the last one is answered again, and any other is ignored
abbrev pub host_hears : ℕ → NodeState → ℕ → Notice → Heard → Done
host_hears node n id notice (New session) =
    does (with_taken n id notice) (Some (Taken node notice.kind notice.level)) (Some (receipt_frame node (with_taken n id notice)))
host_hears node n id notice (Repeated status) = does n None (Some (receipt_frame node n))
host_hears node n id notice Strange = does n (Some (Old node id)) None

-- the device after a final report of that session id
abbrev pub with_known : NodeState → ℕ → NodeState
with_known n id = record n { device = after_report n.device id SUCCESS }

-- the device hears an answer: the final one of the open session makes its event known, and any other is ignored
abbrev pub device_hears : ℕ → NodeState → ℕ → Told → Done
device_hears node n id (Final session) = goes_on node (with_known n id) (Known node session)
device_hears node n id Working = does n (Some (Old node id)) None
device_hears node n id Unasked = does n (Some (Old node id)) None

-- a frame is heard by whom it is for, who reads six bits of its session
abbrev pub hears_by : ℕ → NodeState → ℕ → Content → Done
hears_by node n id (EventContent notice) = host_hears node n id notice (heard_of n.host id)
hears_by node n id Receipt = device_hears node n id (told_of n.device id SUCCESS)

-- a frame arrives: refused where 62 sessions or more have begun since
abbrev pub delivers : NodeState → Frame → Done
delivers n frame =
    if nat_le STALE_AGE (later_of n frame) then refuses n (Stale (later_of n frame))
    else hears_by frame.node n (wire_id frame.session) frame.content

-- all nodes after a line, what is entered and which frame is sent
pub record Happened : Type 0 where
  pub nodes : List NodeState
  pub effect : Effect

-- something happened at one node
abbrev pub at_node : List NodeState → ℕ → Done → Happened
at_node nodes node done = record { nodes = slice_set nodes (node - 1) done.node; effect = done.effect }

-- a delivery: refused where no such frame was sent
abbrev pub delivered : List NodeState → Option Frame → Happened
delivered nodes None = record { nodes = nodes; effect = record { enters = Some (Refused NeverSent); sends = None } }
delivered nodes (Some frame) = at_node nodes frame.node (delivers (node_of nodes frame.node) frame)

-- what a line brings about
abbrev pub happens : List NodeState → List Frame → EventLine → Happened
happens nodes frames (Event node kind level) =
    at_node nodes node (queues node (node_of nodes node) (record { kind = kind; level = level }))
happens nodes frames (Again node) = at_node nodes node (repeats node (node_of nodes node))
happens nodes frames (Deliver frame) = delivered nodes (frame_at frames frame)

-- a list of nothing or of one thing
abbrev pub listed : {A : Type 0} → Option A → List A
listed None = []
listed (Some x) = x ∷ []

-- the entry of a frame that is sent after so many others
abbrev pub frame_entries : ℕ → Option Frame → List EventEntry
frame_entries before None = []
frame_entries before (Some frame) = FrameEntry (before + 1) (sender_of frame) (receiver_of frame) (payload_of frame) ∷ []

-- all nodes and frames after a line
abbrev pub after : FlowState → EventLine → FlowState
after w line = record {
  nodes = (happens w.nodes w.frames line).nodes;
  frames = w.frames ++ listed (happens w.nodes w.frames line).effect.sends;
}

-- what is entered at a line
abbrev pub entries : FlowState → EventLine → List EventEntry
entries w line =
    listed (happens w.nodes w.frames line).effect.enters
    ++ frame_entries (length w.frames) (happens w.nodes w.frames line).effect.sends

-- the line of a node in the table, where an event of it was queued
abbrev pub row_by : ℕ → NodeState → List Notice → List EventEntry
row_by node n [] = []
row_by node n (notice ∷ more) = TableNode node (length n.queued) (length n.taken) (known_count n) ∷ []

-- the table of these nodes, from that number on
abbrev pub rows_from : ℕ → List NodeState → List EventEntry
rows_from node [] = []
rows_from node (n ∷ more) = row_by node n n.queued ++ rows_from (node + 1) more

-- the table
abbrev pub table_of : FlowState → List EventEntry
table_of w = rows_from 1 w.nodes
