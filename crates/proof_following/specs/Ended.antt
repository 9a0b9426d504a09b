-- What the end of a request makes of the course of notes (this project's own rule): what is due of it by what the request was for, in order, and which texts wait no more.
use Rattle.std.specs.Prelude.{◌≡◌, ◌⊎◌, ℕ, Bool, true, List, [], ◌∷◌, ◌++◌, Some}
use Rattle.chip_functions.specs.Field.{IsNode}
use Rattle.zw_text.specs.declared.entry.Entry.{Entry}
use Rattle.zw_text.specs.declared.entry.Entry.TheVariants as entry
use Rattle.law_transcript.specs.Units.{Carried, sending_of}
use Rattle.law_time.specs.Heeds.{Heeds}
use Rattle.law_time.specs.Errands.{errand}
use Rattle.law_time.specs.Moments.{clock}
use Rattle.law_time.specs.Requests.{asked, request_last}
use Rattle.law_time.specs.Unanswered.{to_give_up}
use Rattle.law_time.specs.Waking.{is_awake_sleeper, nodes_told}
use Rattle.host_requests.specs.Events.{RequestsEvent}
use Rattle.host_requests.specs.Events.RequestsEvent.{CallsBack, Responds, Updates}
use Rattle.host_requests.specs.Frames.{request_of}
use Rattle.host_requests.specs.declared.end.How.{How}
use Rattle.host_requests.specs.declared.end.How.TheVariants.{AtCallback, AtResponse, AtUpdate, Refused}
use Rattle.host_requests.specs.declared.next.Next.TheVariants.{Ends}
use Rattle.host_requests.specs.declared.task.Task.TheVariants.{Plain, NoMore, Second, Neighbours, IsFailed}
use Rattle.host_requests.specs.declared.task.Purpose.{Purpose}
use Rattle.host_requests.specs.declared.task.Purpose.TheVariants.{Housekeeping, Attempt}
use Rattle.host_requests.specs.declared.under_way.UnderWay.{UnderWay}
use Rattle.host_node.specs.Steps.{falls_asleep}
use Rattle.host_model.specs.State.{HostState, node_of}
use Rattle.host_model.specs.After.{requests_do}
use Rattle.host_model.specs.Ends.{asleep_entry, done_of, end_entries, failed_entry, neighbours_entry, part_end, part_entries}
use Rattle.proof_ends.specs.Ends.{errands_of}
use Rattle.proof_ends.specs.proof_attempts.Carried.{CarriesWell, nodes_of}
use Rattle.proof_ends.specs.proof_requests.Ends.{next_at}
pub use Rattle.proof_ends.specs.proof_requests.Ends.{IsLate}
use Rattle.proof_ends.specs.proof_requests.law_host.Course.{Course, each_in_turn, with_notes, without_texts}
use Rattle.proof_ends.specs.proof_requests.law_host.Ends.{ends_sealing, given_up_notes, gives_up_late, to_give_up_by_end}
use Rattle.proof_ends.specs.proof_requests.law_host.Ticks.{nodes_in_order, ticks}

-- a frame that may end a request
abbrev pub IsByFrame : How → Type 0
IsByFrame (AtCallback status) = Unit {0}
IsByFrame (AtResponse response) = Unit {0}
IsByFrame (AtUpdate update first) = Unit {0}
IsByFrame Refused = Unit {0}
IsByFrame how = ⊥

-- ---- what each end notes, by its purpose

abbrev pub errand_entries : Purpose → How → List Entry
errand_entries (Housekeeping (Plain n payload)) how = entry.Done n (done_of how) ∷ []
errand_entries purpose how = []

abbrev pub sleep_entries : HostState → Purpose → List Entry
sleep_entries g (Housekeeping (NoMore n)) = asleep_entry (falls_asleep (node_of g n)) n
sleep_entries g purpose = []

abbrev pub answer_entries : Purpose → How → List Entry
answer_entries (Housekeeping (Neighbours n)) how = neighbours_entry n how
answer_entries (Housekeeping (IsFailed n)) how = failed_entry n how
answer_entries purpose how = []

abbrev pub failed_entries : Purpose → List Entry
failed_entries (Housekeeping (Second n)) = entry.InterviewFailed n ∷ []
failed_entries purpose = []

abbrev pub outcome_entries : HostState → Purpose → How → List Entry
outcome_entries g (Attempt n more payload) how = part_entries g n (part_end more how)
outcome_entries g purpose how = []

-- what is known of the request that ends
pub record EndingOf (heeds : Heeds) (past : List Entry) (g : HostState) (id : ℕ) (p : Purpose) : Type 0 where
  pub request : request_last past ≡ request_of p id ∷ []
  pub told : nodes_told (asked past).frame ≡ nodes_of p
  pub errands : errand heeds.listing past ≡ errands_of p
  pub well : CarriesWell p
  pub sleeper : (n : ℕ) → IsNode n → is_awake_sleeper n past ≡ falls_asleep (node_of g n)

-- the course with all that is noted of it but for outcomes
abbrev pub noted_by : HostState → Purpose → How → Course → Course
noted_by g p how c = record c { over = true; due = c.due ++ ((errand_entries p how ++ (sleep_entries g p ++ answer_entries p how)) ++ failed_entries p) }

-- ---- what was sent has ended badly

-- what a request sends
abbrev pub sent_by : Purpose → ℕ → List Carried
sent_by p id = sending_of (request_of p id) ++ []

-- of these commands of a node one is given up, with these notes, or there is none
abbrev pub GoneOf : List ℕ → List Entry → ℕ → List Entry → Type 0
GoneOf commands past n outcome = ((commands ≡ []) × (outcome ≡ [])) ⊎ ((command : ℕ) × (commands ≡ command ∷ []) × (outcome ≡ given_up_notes past n command))

-- the command of a node is given up by a time, or none is
abbrev pub GoneSo : Heeds → List Entry → ℕ → ℕ → List Entry → Type 0
GoneSo heeds past now n outcome = GoneOf (to_give_up heeds past now n) past n outcome

-- what that makes of a course
abbrev pub GaveUp : Course → ℕ → List Entry → Course → Type 0
GaveUp c n outcome later = ((outcome ≡ []) × (later ≡ c)) ⊎ (later ≡ without_texts n (with_notes outcome c))

-- what the end of a request makes of one in which all else of it is noted: it ended well, or sends nothing; it ended badly; and a command is given up by it
pub data EndsAs (c : Course) (sent : List Carried) (outcome : List Entry) (later : Course) : Type 0 where
  Ends_well : outcome ≡ [] → later ≡ c → EndsAs c sent outcome later
  Ends_badly : (one : Carried) → sent ≡ one ∷ [] → outcome ≡ [] → later ≡ ends_sealing one c → EndsAs c sent outcome later
  Gives_it_up : (one : Carried) → sent ≡ one ∷ [] → later ≡ without_texts one.node (with_notes outcome (ends_sealing one c)) → EndsAs c sent outcome later

-- of the commands of nodes the end of the request gives those up that the host gives up
abbrev pub AreGone : Heeds → List Entry → ℕ → Purpose → ℕ → List Entry → Type 0
AreGone heeds past now p id outcome = ((sent_by p id ≡ []) × (outcome ≡ [])) ⊎ ((one : Carried) × (sent_by p id ≡ one ∷ []) × GoneOf (to_give_up_by_end heeds past now one.node) past one.node outcome)

-- ---- what of a course such an end leaves

-- all but what is due, whether a request is under way, and the books
abbrev pub rest_of : Course → Course
rest_of c = record c { due = []; over = true; books = [] }

-- these notes are due after what was, a request is under way or not, and the rest is the same
pub record NotedSo (c : Course) (notes : List Entry) (over : Bool) (later : Course) : Type 0 where
  pub due : later.due ≡ c.due ++ notes
  pub over_is : later.over ≡ over
  pub rest : rest_of later ≡ rest_of c

-- ---- in a host

-- a frame of the chip of which the request under way hears
abbrev pub IsFrameEvent : RequestsEvent → Type 0
IsFrameEvent (Responds response) = Unit {0}
IsFrameEvent (CallsBack id status) = Unit {0}
IsFrameEvent (Updates update) = Unit {0}
IsFrameEvent event = ⊥

-- where it ends at that, those commands are to be given up that the host gives up
abbrev pub GivesUpAsHost : Heeds → List Entry → HostState → RequestsEvent → Course → Type 0
GivesUpAsHost heeds past h event c =
    (u : UnderWay) (how : How) → h.requests.under_way ≡ Some u → next_at h.requests event u ≡ Ends how →
    AreGone heeds (past ++ (noted_by (requests_do h event) u.purpose how c).due) (clock past) u.purpose h.requests.last_id (outcome_entries (requests_do h event) u.purpose how)

-- ---- in a tick

-- the course in the middle of a tick, with the notes of an end; then nodes give up
pub record EndsInTick (heeds : Heeds) (past : List Entry) (now : ℕ) (g : HostState) (p : Purpose) (how : How) (id : ℕ) (c : Course) : Type 0 where
  pub mid : Course
  pub goes : ticks heeds past now c ≡ each_in_turn (gives_up_late heeds past now) (nodes_in_order past) mid
  pub ended : EndsAs (noted_by g p how (record c { ticked = now })) (sent_by p id) (outcome_entries g p how) mid
  pub noted : NotedSo (record c { ticked = now }) (end_entries g (record { purpose = p; how = how })) true mid
