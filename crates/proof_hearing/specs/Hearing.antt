-- What a host alone and a course make of a payload, event by event (this project's own rule): the course in the middle of it has what the events so far have noted, and its books are the
-- host's; the next event makes of it what the course makes of the next message, whatever is chosen later.
use Rattle.std.specs.Prelude.{◌≡◌, ℕ, ◌+◌, Bool, true, false, List, [], ◌∷◌, ◌++◌, length, Option, None, ⊤}
use Rattle.std.specs.List.{AllByRecursion}
use Rattle.chip_functions.specs.Field.{IsNode}
use Rattle.s0_crypto.specs.Sealing.{keys_of}
use Rattle.serial_frame.specs.declared.unit.TheConstants.{ACK}
use Rattle.zw_words.specs.declared.side.Side.TheVariants.{Host}
use Rattle.zw_text.specs.declared.entry.Entry.{Entry}
use Rattle.zw_text.specs.declared.entry.Entry.TheVariants.{Out, Written}
use Rattle.law_transcript.specs.Units.{Carried}
use Rattle.law_time.specs.Heeds.{Heeds}
use Rattle.law_time.specs.Queue.{queue_before}
use Rattle.host_heard.specs.Telling.{heard_at}
use Rattle.host_heard.specs.declared.told.Told.{Told}
use Rattle.host_model.specs.State.{HostState, node_of}
use Rattle.host_model.specs.After.{after}
use Rattle.host_model.specs.Events.{HostEvent}
use Rattle.host_model.specs.Taking.{AreTaken, PayloadEvents}
use Rattle.proof_choice.specs.proof_ends.proof_requests.law_host.Course.{Course, each_in_turn}
use Rattle.proof_choice.specs.proof_ends.proof_requests.law_host.Frames.{hears_payload}
use Rattle.proof_choice.specs.proof_ends.proof_requests.law_host.Heard.{heeds_alone, listing_heard}
use Rattle.proof_choice.specs.proof_ends.proof_requests.law_host.Nonces.{is_late}
use Rattle.proof_choice.specs.proof_ends.proof_requests.law_host.Messages.{Hearing, hears}
use Rattle.proof_choice.specs.proof_ends.proof_requests.proof_alone.Phases.{Asked, Phase}
use Rattle.proof_choice.specs.proof_ends.proof_notes.Ties.{Ties}
use Rattle.proof_choice.specs.proof_giving.proof_queue.proof_sending.Due.{AreCarried}
use Rattle.proof_choice.specs.proof_giving.proof_queue.Heeding.{heeded_of, heeded_payload}
use Rattle.proof_hearing.specs.Books.{BooksSo}

-- a course that has these choices still to come
abbrev pub choosing : List Bool → List (Option (List ℕ)) → Course → Course
choosing keepings texts course = record course { keepings = keepings; texts = texts }

-- all of it that no message of a payload changes
abbrev pub else_of : Course → Course
else_of course = record course { due = []; put = 0; books = []; keepings = []; texts = []; taken = []; opened = [] }

-- a payload of a node that a host alone judges, before it is opened
abbrev pub hearing_at : (List Entry → Carried → List Told) → (before past : List Entry) → ℕ → List ℕ → Hearing
hearing_at taken before past n payload = record { heeds = heeds_alone taken; before = before; past = past; node = n; payload = payload; was_sealed = false }

-- ---- what is known of the host

-- what is known of a host at one point of its transcript, where it hears a payload of the node
pub record Point (key : List ℕ) (heeds : Heeds) (past : List Entry) (n : ℕ) (h : HostState) : Type 0 where
  pub ties : Ties past h
  pub same_keys : h.keys ≡ keys_of key
  pub carried : AreCarried listing_heard past h.commands
  pub late : is_late heeds past n ≡ true → (node_of h n).pending ≡ None

-- a line was not just said
abbrev pub NotAsked : Phase → Type 0
NotAsked (Asked line) = ⊥
NotAsked here = ⊤

-- an entry that is no outcome
abbrev pub NoOut : Entry → Type 0
NoOut (Out command ended) = ⊥
NoOut entry = ⊤

-- what is noted leaves an attempt late, but for the node whose command ends
abbrev pub StaysLate : Heeds → ℕ → List Entry → List Entry → Type 0
StaysLate heeds n past told = (m : ℕ) → IsNode m → (m ≡ n → AllByRecursion NoOut told) → is_late heeds past m ≡ true → is_late heeds (past ++ told) m ≡ true

-- ---- what is left of a payload

-- all of it, or some messages, sealed or not
pub data Remaining : Type 0 where
  Whole : Remaining
  Left : (sealed : Bool) (messages : List Told) → Remaining

abbrev pub finishes : Hearing → Remaining → Course → Course
finishes hearing Whole course = hears_payload hearing (heard_at hearing.payload) course
finishes hearing (Left sealed messages) course = each_in_turn (hears (record hearing { was_sealed = sealed })) messages course

-- these events of the host are left of it
abbrev pub RemainsSo : HostState → Hearing → Remaining → List HostEvent → Type 0
RemainsSo h hearing Whole left = PayloadEvents h hearing.node hearing.payload (heard_at hearing.payload) left
RemainsSo h hearing (Left sealed messages) left = AreTaken h hearing.node hearing.payload sealed messages left

-- and the host goes by these messages of it
abbrev pub heeded_rest : (h : HostState) (hearing : Hearing) (remaining : Remaining) (left : List HostEvent) → RemainsSo h hearing remaining left → List Told
heeded_rest h hearing Whole left is = heeded_payload h hearing.node hearing.payload (heard_at hearing.payload) left is
heeded_rest h hearing (Left sealed messages) left is = heeded_of h hearing.node hearing.payload sealed messages left is

-- ---- the course in the middle of it

-- how many requests waited where the payload was acknowledged
abbrev pub waited : Hearing → ℕ
waited hearing = length (queue_before hearing.heeds hearing.before (Written Host (ACK ∷ []))).wants

-- what stands is what the course has noted, its books are the host's, and so is its queue
pub record HearsSo (key : List ℕ) (hearing : Hearing) (past : List Entry) (h : HostState) (course : Course) : Type 0 where
  pub stand : past ≡ hearing.past ++ course.due
  pub fits : course.fits ≡ true
  pub books : BooksSo key hearing.heeds past h course
  pub room : waited hearing + course.put ≡ length h.requests.queue

-- ---- one event

-- What an event makes of it: it notes what it is told to, chooses what it chose, and the rest is what the course makes of what is left.
pub record HeardOne (key : List ℕ) (hearing : Hearing) (remaining : Remaining) (past told : List Entry) (h : HostState) (event : HostEvent) (left : List HostEvent)
    (is : RemainsSo h hearing remaining (event ∷ left)) (course : Course) : Type 0 where
  pub more : Remaining
  pub next : Course
  pub kept : List Bool
  pub texts : List (Option (List ℕ))
  pub goes : (keepings : List Bool) (later : List (Option (List ℕ))) → finishes hearing remaining (choosing (kept ++ keepings) (texts ++ later) course) ≡ finishes hearing more (choosing keepings later next)
  pub remains : RemainsSo (after h event) hearing more left
  pub heeded : course.taken ++ heeded_rest h hearing remaining (event ∷ left) is ≡ next.taken ++ heeded_rest (after h event) hearing more left remains
  pub so : HearsSo key hearing (past ++ told) (after h event) next
  pub due : next.due ≡ course.due ++ told
  pub other : else_of next ≡ else_of course
