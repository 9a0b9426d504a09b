-- When the host takes a node to be awake or asleep (Wake Up Command Class; that a node counts as asleep after the third attempt is this project's own rule).
use Rattle.std.specs.Prelude.{◌≡◌, ℕ, ◌==◌, ◌&&◌, ◌||◌, not, bytes_eq, Bool, true, false, if◌then◌else◌, List, [], ◌∷◌}
use Rattle.std.specs.List.{flat_map, list_any}
use Rattle.host_heard.specs.Telling.{heard_at}
use Rattle.host_heard.specs.declared.payload.Heard.{Heard}
use Rattle.host_heard.specs.declared.payload.Heard.TheVariants.{Messages}
use Rattle.host_heard.specs.declared.told.Told.{Told}
use Rattle.host_heard.specs.declared.told.Told.TheVariants.{Notification}
use Rattle.zw_words.specs.declared.side.Side.TheVariants.{Host}
use Rattle.zw_text.specs.declared.entry.Ended.TheVariants.{Unanswered}
use Rattle.zw_text.specs.declared.entry.Entry.{Entry}
use Rattle.zw_text.specs.declared.entry.Entry.TheVariants.{Said, Written, Out, Awake, Asleep, Time}
use Rattle.zw_text.specs.Transcript.{sessions, shown, wakings}
use Rattle.law_wire.specs.law_transcript.Lists.{last_or}
use Rattle.law_wire.specs.law_transcript.Payloads.{no_more_information}
use Rattle.law_wire.specs.law_transcript.Restarts.{since_restart}
use Rattle.law_wire.specs.law_transcript.Stores.{node_at}
use Rattle.law_wire.specs.law_transcript.Units.{Carried, sending_in}
use Rattle.law_time.specs.Moments.{Keeps, now_at}
use Rattle.law_time.specs.Judged.{last_of, is_directly_after, is_mark, brought_here, may_be_told}
use Rattle.law_time.specs.Requests.{asked, is_new}
use Rattle.law_time.specs.Ends.{has_ended, is_ended_by_frame, is_ended_here}
use Rattle.law_time.specs.Interviews.{listens}

-- whether the last that was said of a node since the host started is that it is awake
abbrev pub counts_awake : ℕ → List Entry → Bool
counts_awake node past = last_or false (wakings node (since_restart past))

-- whether the host takes a node to be awake: it listens, or counts as awake
abbrev pub is_up : ℕ → List Entry → Bool
is_up node past = listens node past || counts_awake node past

-- a node that the host takes to be awake and not to listen
abbrev pub is_awake_sleeper : ℕ → List Entry → Bool
is_awake_sleeper node past = counts_awake node past && not (listens node past)

-- ---- waking

abbrev pub is_notification : Told → Bool
is_notification Notification = true
is_notification _ = false

-- whether a payload tells a Wake Up Notification and nothing else
abbrev pub tells_waking : Heard → Bool
tells_waking (Messages (Notification ∷ [])) = true
tells_waking _ = false

-- whether some node tells here that it is awake
abbrev pub owes_waking : List Entry → Bool
owes_waking past = is_directly_after past && list_any (λ carried. tells_waking (heard_at carried.payload)) (brought_here past)

-- a node is taken to be awake where it tells so, and wherever it does
abbrev pub may_wake : List Entry → Entry → Bool
may_wake past (Awake node) = may_be_told is_notification node past
may_wake past entry = is_mark entry || not (owes_waking past)

abbrev pub WakesAsTold : List Entry → Type 0
WakesAsTold transcript = Keeps may_wake transcript

-- ---- falling asleep

-- the nodes that the last request tells that there is no more
abbrev pub node_told : Carried → List ℕ
node_told carried = if bytes_eq carried.payload no_more_information then carried.node ∷ [] else []

abbrev pub nodes_told : List ℕ → List ℕ
nodes_told unit = flat_map node_told (sending_in unit)

abbrev pub is_told : ℕ → List ℕ → Bool
is_told node unit = list_any (λ one. one == node) (nodes_told unit)

-- the commands whose third attempt the entry says to have ended
abbrev pub given_up_at : Entry → List ℕ
given_up_at (Out command Unanswered) = command ∷ []
given_up_at _ = []

-- whether that stands just before, of the last session of a node
abbrev pub is_given_up_on : ℕ → List Entry → Bool
is_given_up_on node past =
    list_any (λ command. list_any (λ carried. carried == command) (last_of (sessions node past))) (flat_map given_up_at (last_of past))

-- whether No More Information to a node ends here
abbrev pub ends_telling : ℕ → List Entry → Bool
ends_telling node past = is_told node (asked past).frame && is_ended_here past

-- whether a frame ends the No More Information of a node here that counts as awake
abbrev pub owes_sleep_to_told : List Entry → Bool
owes_sleep_to_told past =
    is_directly_after past && is_ended_by_frame past
    && list_any (λ node. is_awake_sleeper node past) (nodes_told (asked past).frame)

-- whether the third attempt of a node that counts as awake has just ended
abbrev pub owes_sleep_to_given_up : List Entry → Bool
owes_sleep_to_given_up past =
    list_any (λ node. is_given_up_on node past && is_awake_sleeper node past)
    (flat_map (λ command. shown (node_at command) past) (flat_map given_up_at (last_of past)))

abbrev pub owes_sleep : List Entry → Bool
owes_sleep past = owes_sleep_to_told past || owes_sleep_to_given_up past

-- whether a node has counted as asleep among these
abbrev pub has_slept : ℕ → List Entry → Bool
has_slept node entries = list_any not (wakings node entries)

-- whether No More Information has ended by a time, in whatever way, and its node still counts as awake
abbrev pub is_still_awake : List Entry → ℕ → Bool
is_still_awake past now =
    has_ended (asked past) now
    && list_any (λ node. is_awake_sleeper node past && not (has_slept node (asked past).following)) (nodes_told (asked past).frame)

-- whether the host has gone on from its last request: a line or a tick begins, or it asks anew
abbrev pub moves_on : List Entry → Entry → Bool
moves_on past (Said words) = true
moves_on past (Time tick) = true
moves_on past (Written Host unit) = is_new (asked past) unit
moves_on past entry = false

-- none owes its sleep before an entry
abbrev pub owes_no_sleep : List Entry → Entry → Bool
owes_no_sleep past entry = not (owes_sleep past) && not (moves_on past entry && is_still_awake past (now_at past entry))

-- a node that counts as awake and does not listen counts as asleep where its third attempt or its No More Information has
-- ended, and wherever one of the two has: directly after a frame that ends it, and else before the host goes on
abbrev pub may_sleep : List Entry → Entry → Bool
may_sleep past (Asleep node) = is_awake_sleeper node past && (is_given_up_on node past || ends_telling node past)
may_sleep past entry = is_mark entry || owes_no_sleep past entry

pub record FallsAsleep (whole : Bool) (transcript : List Entry) : Type 0 where
  pub between : Keeps may_sleep transcript
  pub in_the_end : whole ≡ true → owes_no_sleep transcript (Said []) ≡ true
