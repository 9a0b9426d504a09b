-- Which requests wait, and when their queue is full (this project's own rule: 64 may wait; what nodes ask for, Security 0, Transport
-- Service and Wake Up Command Classes).
use Rattle.std.specs.Prelude.{ℕ, ◌+◌, ◌==◌, ◌&&◌, ◌||◌, not, bytes_eq, is_some, nat_le, nat_lt, Bool, true, false, if◌then◌else◌, List, [], ◌∷◌, ◌++◌, length, filter, map, drop}
use Rattle.std.specs.List.{flat_map, list_any}
use Rattle.zw_words.specs.declared.side.Side.TheVariants.{Host, Chip}
use Rattle.zw_text.specs.declared.entry.Refusal.TheVariants as refusals
use Rattle.zw_text.specs.declared.entry.Entry.{Entry}
use Rattle.zw_text.specs.declared.entry.Entry.TheVariants.{Said, Refused, Begin, Written, QueueFull, Awake, Asleep, Unkept, Time}
use Rattle.zw_text.specs.Transcript.{folded, shown, joined, line_last, line_of, words_said}
use Rattle.law_wire.specs.law_transcript.Answers.{before_last}
use Rattle.law_wire.specs.law_transcript.Commands.{waiting}
use Rattle.law_wire.specs.law_transcript.Nodes.{known_classes}
use Rattle.law_wire.specs.law_transcript.Restarts.{begins_refused}
use Rattle.law_wire.specs.law_transcript.Units.{Carried}
use Rattle.law_time.specs.Heeds.{Heeds}
use Rattle.law_time.specs.Moments.{Keeps, clock, later_of, now_at}
use Rattle.law_time.specs.Judged.{is_acknowledgement, is_mark, is_no_note, brought_here, last_of}
use Rattle.law_time.specs.Requests.{Asked, are_none, asked, asked_after, asked_nothing, is_new, starts_anew}
use Rattle.law_time.specs.Ends.{is_abort_frame}
use Rattle.law_time.specs.Sessions.{runs}
use Rattle.law_time.specs.Waking.{has_slept, is_awake_sleeper, is_told as tells_it}
use Rattle.law_time.specs.Holds.{held_until}
use Rattle.law_time.specs.Wants.{no_more, wants_of, wants_brought}

-- what the requests that wait want, in order; the nodes whose No More Information found the queue full since they woke; and those of
-- which it is to be told that a message was dropped
pub record Queue : Type 0 where
  pub wants : List (List ℕ)
  pub dropped : List ℕ
  pub owed : List ℕ

abbrev pub no_queue : Queue
no_queue = record { wants = []; dropped = []; owed = [] }

abbrev pub queue_places : ℕ
queue_places = 64

abbrev pub is_full : Queue → Bool
is_full queue = nat_le queue_places (length queue.wants)

-- ---- what is put into it

-- a message that a node asked for, or No More Information, waits; where 64 do it is dropped
abbrev pub with_asked : ℕ → Queue → List ℕ → Queue
with_asked node queue want =
    if is_full queue then record queue { owed = queue.owed ++ node ∷ [] } else record queue { wants = queue.wants ++ want ∷ [] }

abbrev pub with_no_more : Queue → ℕ → Queue
with_no_more queue node =
    if is_full queue then record queue { dropped = queue.dropped ++ node ∷ []; owed = queue.owed ++ node ∷ [] }
    else record queue { wants = queue.wants ++ no_more node ∷ [] }

-- one after another
abbrev pub each_with : {A : Type 0} → (Queue → A → Queue) → Queue → List A → Queue
each_with put queue [] = queue
each_with put queue (item ∷ items) = each_with put (put queue item) items

-- what a node wants by a payload that is judged here
abbrev pub with_brought : Heeds → List Entry → List Entry → Queue → Carried → Queue
with_brought heeds past rest queue carried = each_with (with_asked carried.node) queue (wants_brought heeds past rest carried)

-- ---- No More Information

-- whether it waits for a node, was dropped since the node woke, or was the last request, since which the node has not slept
abbrev pub is_told : Asked → Queue → ℕ → Bool
is_told asked queue node =
    list_any (bytes_eq (no_more node)) queue.wants || list_any (λ one. one == node) queue.dropped
    || (tells_it node asked.frame && not (has_slept node asked.following))

-- there is nothing for a node: it counts as awake, does not listen, its classes are known, no command waits and no series runs
abbrev pub has_nothing : Heeds → List Entry → ℕ → ℕ → Bool
has_nothing heeds past now node =
    is_awake_sleeper node past && is_some (known_classes heeds.listing past node) && are_none (waiting node past) && not (runs node past now)

-- a node to be told that there is no more for it, and since when: where it was held, since the end of that
pub record Due : Type 0 where
  pub node : ℕ
  pub tick : ℕ

abbrev pub due_of : Heeds → List Entry → ℕ → ℕ → List Due
due_of heeds past now node =
    let tick : ℕ = later_of (clock past) (held_until node past) in
    if has_nothing heeds past now node && nat_le tick now then record { node = node; tick = tick } ∷ [] else []

-- in the order of ticks, and in a tick in that of their numbers
abbrev pub is_earlier : Due → Due → Bool
is_earlier first second = nat_lt first.tick second.tick || ((first.tick == second.tick) && nat_lt first.node second.node)

abbrev pub put_in_order : Due → List Due → List Due
put_in_order due [] = due ∷ []
put_in_order due (first ∷ rest) = if is_earlier due first then due ∷ first ∷ rest else first ∷ put_in_order due rest

abbrev pub in_order : List Due → List Due
in_order [] = []
in_order (due ∷ rest) = put_in_order due (in_order rest)

-- the nodes that have counted as awake
abbrev pub woke_at : Entry → List ℕ
woke_at (Awake node) = node ∷ []
woke_at _ = []

abbrev pub have_woken : List Entry → List ℕ
have_woken past = if are_none (shown woke_at past) then [] else joined past

-- it is put into the queue for each that is to be told
abbrev pub with_due : Heeds → List Entry → ℕ → Asked → Queue → Queue
with_due heeds past now asked queue =
    each_with with_no_more queue
    (map (λ due. due.node) (in_order (filter (λ due. not (is_told asked queue due.node)) (flat_map (due_of heeds past now) (have_woken past)))))

-- whether what the chip writes came as bytes, in one line or in one read, the words of which are no line of a scenario: the host judges it all before it looks
abbrev pub comes_at_once : List Entry → Bool
comes_at_once past = list_any (λ words. are_none (line_of (Said words))) (last_of (words_said past))

-- whether nothing of the chip was judged since a line was said, a tick began or the chip wrote, as far as acknowledgements tell
abbrev pub first_step : Bool → Entry → Bool
first_step first (Said words) = true
first_step first (Time tick) = true
first_step first (Written Chip unit) = true
first_step first (Written Host unit) = first && not (is_acknowledgement unit)
first_step first entry = first

-- the host has looked before what is judged first: it does after each line and tick, and when it has judged what came
abbrev pub judges_first : List Entry → Bool
judges_first past = folded first_step true past && not (comes_at_once past)

-- whether the host has looked what is next before an entry: it does after each line, read and tick, and when it has judged what came
abbrev pub has_looked : List Entry → Asked → Queue → Entry → Bool
has_looked past asked queue (Said words) = true
has_looked past asked queue (Time tick) = true
has_looked past asked queue (Begin node session command) = true
has_looked past asked queue (Written Host unit) = is_new asked unit || (is_acknowledgement unit && judges_first past)
has_looked past asked queue (QueueFull node) = are_none queue.owed
has_looked past asked queue _ = false

-- the queue as it is before an entry
abbrev pub looked : Heeds → List Entry → Asked → Queue → Entry → Queue
looked heeds past asked queue entry =
    if has_looked past asked queue entry then with_due heeds past (now_at past entry) asked queue else queue

-- ---- what waits

-- what the nodes want by the frame of the chip that is judged here, after which these entries stand
abbrev pub with_all_brought : Heeds → List Entry → List Entry → Queue → Queue
with_all_brought heeds past rest queue = each_with (with_brought heeds past rest) queue (brought_here past)

-- a frame of the chip is judged, or a request is sent: the one that waited longest, unless it is an abort
abbrev pub queue_by_unit : Heeds → List Entry → Asked → Queue → List ℕ → List Entry → Queue
queue_by_unit heeds past asked queue unit rest =
    if is_acknowledgement unit then with_all_brought heeds (past ++ Written Host unit ∷ []) rest queue
    else (if is_new asked unit && not (is_abort_frame unit) then record queue { wants = drop 1 queue.wants } else queue)

-- a line that is not refused puts in what it wants, and a restart leaves nothing
abbrev pub queue_by_line : Heeds → List Entry → Queue → Entry → List Entry → Queue
queue_by_line heeds past queue entry rest =
    if begins_refused rest then queue
    else (if starts_anew entry rest then no_queue else record queue { wants = queue.wants ++ flat_map (wants_of heeds.listing past) (line_of entry) })

-- a node whose No More Information found the queue full may be told again
abbrev pub not_dropped : ℕ → Queue → Queue
not_dropped node queue = record queue { dropped = filter (λ one. not (one == node)) queue.dropped }

-- one entry, with those after it
abbrev pub queue_step : Heeds → List Entry → Asked → Queue → Entry → List Entry → Queue
queue_step heeds past asked queue (Said words) rest = queue_by_line heeds past queue (Said words) rest
queue_step heeds past asked queue (Written Host unit) rest = queue_by_unit heeds past asked queue unit rest
queue_step heeds past asked queue (QueueFull node) rest = record queue { owed = drop 1 queue.owed }
queue_step heeds past asked queue (Awake node) rest = not_dropped node queue
queue_step heeds past asked queue (Asleep node) rest = not_dropped node queue
queue_step heeds past asked queue entry rest = queue

-- the last request of the host, and what waits
pub record Requests : Type 0 where
  pub last : Asked
  pub queue : Queue

abbrev pub no_requests : Requests
no_requests = record { last = asked_nothing; queue = no_queue }

abbrev pub requests_after : Heeds → List Entry → Requests → Entry → List Entry → Requests
requests_after heeds past requests entry rest = record {
  last = asked_after past requests.last entry rest;
  queue = queue_step heeds past requests.last (looked heeds past requests.last requests.queue entry) entry rest;
}

abbrev pub requests_from : Heeds → List Entry → Requests → List Entry → Requests
requests_from heeds past requests [] = requests
requests_from heeds past requests (entry ∷ rest) = requests_from heeds (past ++ entry ∷ []) (requests_after heeds past requests entry rest) rest

abbrev pub requests : Heeds → List Entry → Requests
requests heeds past = requests_from heeds [] no_requests past

-- what waits before an entry
abbrev pub waits_before : Heeds → List Entry → Requests → Entry → Queue
waits_before heeds past requests entry = looked heeds past requests.last requests.queue entry

abbrev pub queue_before : Heeds → List Entry → Entry → Queue
queue_before heeds past entry = waits_before heeds past (requests heeds past) entry

-- ---- the laws

-- how many places the last line asks for
abbrev pub places : Heeds → List Entry → ℕ
places heeds past = length (flat_map (wants_of heeds.listing (before_last past)) (line_last past))

abbrev pub waits_before_line : Heeds → List Entry → ℕ
waits_before_line heeds past = length (queue_before heeds (before_last past) (Said [])).wants

-- the next that is to be told of a dropped message, if any, is of this node
abbrev pub is_first : ℕ → List ℕ → Bool
is_first node [] = false
is_first node (first ∷ rest) = first == node

-- the last line asks for more places than are free
abbrev pub lacks_places : Heeds → List Entry → Bool
lacks_places heeds past =
    not (places heeds past == 0) && nat_lt queue_places (waits_before_line heeds past + places heeds past)

-- whether an entry may note what the host has judged: it is of no line or unit, nor of the air or the chip, and no session begins
abbrev pub is_judged : Entry → Bool
is_judged (Written side unit) = false
is_judged entry = not (is_no_note entry)

-- what is to be said is said: that the last line was refused, and that a message was dropped, among what is noted with it
abbrev pub owes_no_refusal : Heeds → List Entry → Entry → Bool
owes_no_refusal heeds past entry =
    not (lacks_places heeds past) && (is_judged entry || are_none (queue_before heeds past entry).owed)

-- a line is refused for the queue exactly where it asks for more places than are free, and a message is dropped exactly where 64 wait
abbrev pub may_queue : Heeds → List Entry → Entry → Bool
may_queue heeds past (Refused (refusals.QueueFull waiting)) = (waiting == queue_places) && lacks_places heeds past
may_queue heeds past (Refused refusal) = true
may_queue heeds past (QueueFull node) = is_first node (queue_before heeds past (QueueFull node)).owed
may_queue heeds past (Unkept node) = true
may_queue heeds past entry = is_mark entry || owes_no_refusal heeds past entry

abbrev pub FitsQueue : Heeds → List Entry → Type 0
FitsQueue heeds transcript = Keeps (may_queue heeds) transcript
