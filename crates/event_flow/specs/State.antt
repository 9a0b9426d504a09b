-- What there is of events on their way to the host: what each device has queued and each end keeps of it, and the frames that
-- were sent. The ends are those of the Supervision Command Class with the roles exchanged, so a device keeps what the sender
-- of supervised commands keeps. All else is this project's own rule.
use Rattle.std.specs.Prelude.{ℕ, ◌-◌, ◌&&◌, nat_lt, Bool, is_none, Option, Some, None, List, [], ◌∷◌, length, slice_index_or, slice_get, replicate, zero, suc}
use Rattle.supervision.specs.Session.{wire_id}
use Rattle.supervision.specs.Host.{HostBook, no_sessions, begun_of, open_session}
use Rattle.supervision.specs.Device.{Taken, none_taken}
use Rattle.supervision.specs.declared.session.TheConstants.{SUCCESS}
use Rattle.event_flow.specs.declared.frame.Notice.{Notice}
use Rattle.event_flow.specs.declared.frame.Content.{Content}
use Rattle.event_flow.specs.declared.frame.Content.TheVariants.{Event, Receipt}
use Rattle.event_flow.specs.declared.frame.Frame.{Frame}

-- a node: the events that were queued at the device, of which the K-th is that of session K, the sessions at the device, what
-- the host keeps of those, and the events that the host took
pub record NodeState : Type 0 where
  pub queued : List Notice
  pub device : HostBook
  pub host : Taken
  pub taken : List Notice

-- all nodes, from node 1 on, and all frames that were sent, from frame 1 on
pub record FlowState : Type 0 where
  pub nodes : List NodeState
  pub frames : List Frame

-- a node at which nothing has happened
abbrev pub silent : NodeState
silent = record { queued = []; device = no_sessions; host = none_taken; taken = [] }

-- nothing has happened at any of the 232 nodes
unfoldable pub all_silent : FlowState
all_silent = record { nodes = replicate 232 silent; frames = [] }

-- a node of that number
abbrev pub node_of : List NodeState → ℕ → NodeState
node_of nodes node = slice_index_or nodes (node - 1) silent

-- how many events the device knows to be taken: all whose sessions have begun, but that of an open one
abbrev pub known_count : NodeState → ℕ
known_count n = known_by (open_session n.device) n.device
  where
    known_by : Option ℕ → HostBook → ℕ
    known_by None book = begun_of book
    known_by (Some session) book = session - 1

-- how many events of the device are not known to be taken
abbrev pub unknown_count : NodeState → ℕ
unknown_count n = length n.queued - known_count n

-- a session may begin: none is open, and an event has none yet
abbrev pub may_begin : NodeState → Bool
may_begin n = is_none (open_session n.device) && nat_lt (begun_of n.device) (length n.queued)

-- the event of the last session that has begun
abbrev pub last_event : NodeState → Notice
last_event n = slice_index_or n.queued (begun_of n.device - 1) (record { kind = 0; level = 0 })

-- the frame of the last session that has begun
abbrev pub event_frame : ℕ → NodeState → Frame
event_frame node n = record { node = node; session = begun_of n.device; begun = begun_of n.device; content = Event (last_event n) }

-- the answer to the last session that the host took
abbrev pub receipt_frame : ℕ → NodeState → Frame
receipt_frame node n = record { node = node; session = n.host.taken; begun = begun_of n.device; content = Receipt }

-- how many sessions of its node have begun since a frame was sent
abbrev pub later_of : NodeState → Frame → ℕ
later_of n frame = begun_of n.device - frame.begun

-- the frame of that number
abbrev pub frame_at : List Frame → ℕ → Option Frame
frame_at frames zero = None
frame_at frames (suc before) = slice_get frames before

-- who sent a frame; the host is node 1
abbrev pub sender_by : Content → ℕ → ℕ
sender_by (Event notice) node = node
sender_by Receipt node = 1

abbrev pub sender_of : Frame → ℕ
sender_of frame = sender_by frame.content frame.node

-- whom a frame is for
abbrev pub receiver_by : Content → ℕ → ℕ
receiver_by (Event notice) node = 1
receiver_by Receipt node = node

abbrev pub receiver_of : Frame → ℕ
receiver_of frame = receiver_by frame.content frame.node

-- the bytes of a frame: a Supervision Get (6C 01) round a Notification Report (71 05) of four bytes, or a Supervision Report
-- (6C 02) of success without a duration
abbrev pub payload_by : Content → ℕ → List ℕ
payload_by (Event notice) session = 108 ∷ 1 ∷ wire_id session ∷ 4 ∷ 113 ∷ 5 ∷ notice.kind ∷ notice.level ∷ []
payload_by Receipt session = 108 ∷ 2 ∷ wire_id session ∷ SUCCESS ∷ 0 ∷ []

abbrev pub payload_of : Frame → List ℕ
payload_of frame = payload_by frame.content frame.session
