-- Which request is next (this project's own rule): an abort that is owed, then what has waited longest, then what the sessions of nodes have to
-- send. Of these nodes each is served in its turn, in cyclic order.
use Rattle.std.specs.Prelude.{ℕ, ◌+◌, ◌-◌, ◌%◌, ◌==◌, ◌&&◌, ◌||◌, not, bytes_eq, nat_le, nat_lt, Bool, true, if◌then◌else◌, List, [], ◌∷◌, length, map, slice_index}
use Rattle.std.specs.List.{flat_map, list_any, list_all}
use Rattle.zw_base.specs.declared.node.TheConstants.{MAX_NODE}
use Rattle.chip_functions.specs.declared.request.Request.{Request}
use Rattle.chip_functions.specs.declared.request.Request.TheVariants.{SendData}
use Rattle.chip_functions.specs.declared.request.TheConstants.{TRANSMIT_OPTIONS}
use Rattle.encap.specs.Opening.{begins_with}
use Rattle.host_orders.specs.declared.carriage.Form.{Form}
use Rattle.host_orders.specs.declared.carriage.Form.TheVariants.{Plain, Cut, Sealed}
use Rattle.zw_words.specs.declared.side.Side.TheVariants.{Host}
use Rattle.zw_text.specs.declared.entry.Entry.{Entry}
use Rattle.zw_text.specs.declared.entry.Entry.TheVariants.{Begin, Written, Unkept}
use Rattle.zw_text.specs.Transcript.{joined, where_same, written}
use Rattle.law_wire.specs.law_transcript.Commands.{waiting}
use Rattle.law_wire.specs.law_transcript.Lists.{shown_after, last_or}
use Rattle.law_wire.specs.law_transcript.Payloads.{nonce_get}
use Rattle.law_wire.specs.law_transcript.Restarts.{since_restart}
use Rattle.law_wire.specs.law_transcript.Units.{Carried, request_in, sending_in}
use Rattle.law_time.specs.Heeds.{Heeds}
use Rattle.law_time.specs.Moments.{Keeps, clock}
use Rattle.law_time.specs.Judged.{is_following, last_of}
use Rattle.law_time.specs.Requests.{Asked, asked, are_none, is_new}
use Rattle.law_time.specs.Ends.{is_abort_frame, is_over, owes_abort}
use Rattle.law_time.specs.Sessions.{Session, is_open, last_command, last_place, runs, segment_at, session_of}
use Rattle.law_time.specs.Waking.{is_up}
use Rattle.law_time.specs.Wants.{want_of}
use Rattle.law_time.specs.Queue.{is_first, waits_before}
use Rattle.law_time.specs.Attempts.{Attempts, Serving, attempt_is_over, serving}

-- ---- what a session has to send

-- a part of an attempt: these bytes, or the message sealed for the nonce that begins with this byte
pub data Part : Type 0 where
  Payload : (payload : List ℕ) → Part
  Sealed_for : (first : ℕ) → Part

-- what an attempt begins with: the message, its first segment, or a Nonce Get
abbrev pub first_part : Session → Form → Part
first_part session Plain = Payload session.message
first_part session Cut = Payload (segment_at session 0)
first_part session Sealed = Payload nonce_get

-- what it goes on with: nothing, the next segment while there is one, or the message once there is a nonce for it
abbrev pub further_parts : Session → Form → Attempts → List Part
further_parts session Plain attempts = []
further_parts session Cut attempts = if nat_le attempts.sent (last_place session) then Payload (segment_at session attempts.sent) ∷ [] else []
further_parts session Sealed attempts = map (λ first. Sealed_for first) attempts.ready

-- an attempt that is over goes on with nothing, and is followed by the next one, up to the third
abbrev pub parts_by : Bool → Session → Attempts → List Part
parts_by over session attempts =
    if (attempts.begun == 0) || (over && nat_lt attempts.begun 3) then first_part session session.form ∷ []
    else (if over then [] else further_parts session session.form attempts)

-- what the session of a node has to send at a time, where its series runs
abbrev pub parts_of : Heeds → List Entry → Asked → ℕ → Attempts → List Part
parts_of heeds past last now attempts =
    if runs attempts.node past now
    then flat_map
    (λ command. parts_by (attempt_is_over heeds past last now attempts) (session_of heeds.listing past attempts.node command) attempts)
    (last_command attempts.node past)
    else []

-- ---- a session that is to begin

-- a command waits for a node that is up and whose last session is over
abbrev pub is_to_begin : ℕ → List Entry → Bool
is_to_begin node past = is_up node past && not (is_open node past) && not (are_none (waiting node past))

-- when the keeper failed for a node, and when it failed to keep that a session of it begins: then no frame was judged before
abbrev pub unkept_when : ℕ → List Entry → Entry → List ℕ
unkept_when node past (Unkept of) = where_same of node (clock past)
unkept_when node past _ = []

abbrev pub unbegun_when : ℕ → List Entry → Entry → List ℕ
unbegun_when node past (Unkept of) = if is_following past then [] else where_same of node (clock past)
unbegun_when node past _ = []

-- whether one of these was since the host started, and no tick has passed since the last one
abbrev pub is_in_tick : (List Entry → Entry → List ℕ) → List Entry → ℕ → Bool
is_in_tick shows past now =
    not (are_none (shown_after shows [] (since_restart past))) && list_any (λ tick. tick == now) (last_of (shown_after shows [] past))

-- ---- which node is next

-- something is to be sent to a node: by its session, or by one that is to begin, unless the keeper has failed for it in this tick
abbrev pub has_work : Heeds → List Entry → Asked → ℕ → Attempts → Bool
has_work heeds past last now attempts =
    not (are_none (parts_of heeds past last now attempts))
    || (is_to_begin attempts.node past && not (is_in_tick (unkept_when attempts.node) past now))

-- where a node comes after the one that was served last: the greater numbers first, in order
abbrev pub turn_of : ℕ → ℕ → ℕ
turn_of served node = if nat_lt served node then node else node + MAX_NODE

-- none that comes before a node has work
abbrev pub has_turn : Heeds → List Entry → Serving → ℕ → Bool
has_turn heeds past serving node =
    list_all (λ attempts. nat_le (turn_of serving.served node) (turn_of serving.served attempts.node)
    || not (has_work heeds past serving.requests.last (clock past) attempts)) serving.each

-- ---- the law

-- whether a payload is such a part
abbrev pub is_part : List ℕ → Part → Bool
is_part payload (Payload bytes) = bytes_eq payload bytes
is_part payload (Sealed_for first) = begins_with payload 0x98 0x81 && (slice_index payload (length payload - 9) == first)

-- a payload is the next part of the session of its node, and that node's turn has come
abbrev pub is_chosen : Heeds → List Entry → Serving → Carried → Bool
is_chosen heeds past serving carried =
    list_any (λ attempts. (attempts.node == carried.node)
    && list_any (is_part carried.payload) (parts_of heeds past serving.requests.last (clock past) attempts)) serving.each
    && has_turn heeds past serving carried.node

-- a request that is no abort is the one that waited longest, and where none waits the one of the node that is next
abbrev pub is_next : Heeds → List Entry → Serving → List ℕ → List (List ℕ) → Bool
is_next heeds past serving unit [] = list_any (is_chosen heeds past serving) (sending_in unit)
is_next heeds past serving unit (want ∷ wants) = list_any (λ request. bytes_eq want (want_of request)) (request_in unit)

-- an abort goes before all others, where one is owed
abbrev pub is_in_turn : Heeds → List Entry → Serving → List ℕ → Bool
is_in_turn heeds past serving unit =
    if owes_abort serving.requests.last (clock past) then is_abort_frame unit
    else not (is_abort_frame unit) && is_next heeds past serving unit (waits_before heeds past serving.requests (Written Host unit)).wants

-- a session begins where no abort is owed and no request waits, of the node that is next, with the command that has waited longest for it; not in
-- a tick in which the keeper has failed to keep that it does
abbrev pub begins_in_turn : Heeds → List Entry → Serving → Entry → ℕ → ℕ → Bool
begins_in_turn heeds past serving entry node command =
    not (owes_abort serving.requests.last (clock past)) && are_none (waits_before heeds past serving.requests entry).wants
    && is_to_begin node past && is_first command (waiting node past) && not (is_in_tick (unbegun_when node) past (clock past))
    && has_turn heeds past serving node

abbrev pub may_send : Heeds → List Entry → Entry → Bool
may_send heeds past (Written Host unit) = not (is_new (asked past) unit) || is_in_turn heeds past (serving heeds (joined past) past) unit
may_send heeds past (Begin node session command) =
    begins_in_turn heeds past (serving heeds (joined past) past) (Begin node session command) node command
may_send heeds past entry = true

-- each request that is new, and each session that begins, does so in its turn
abbrev pub SendsInTurn : Heeds → List Entry → Type 0
SendsInTurn heeds transcript = Keeps (may_send heeds) transcript

-- ---- one after another

-- a request that is new is sent, and a session begins, when the last request is over
abbrev pub may_follow : List Entry → Entry → Bool
may_follow past (Written Host unit) = not (is_new (asked past) unit) || is_over (asked past) (clock past)
may_follow past (Begin node session command) = is_over (asked past) (clock past)
may_follow past entry = true

abbrev pub SendsOneByOne : List Entry → Type 0
SendsOneByOne transcript = Keeps may_follow transcript

-- ---- callback ids

-- the callback id of the last message that was asked to be sent since the host started, and 0 before one
abbrev pub id_of : Request → List ℕ
id_of (SendData node payload options id) = id ∷ []
id_of request = []

abbrev pub last_id : List Entry → ℕ
last_id past = last_or 0 (flat_map id_of (flat_map request_in (written Host (since_restart past))))

-- a message has the next one after the last, 1 to 255 and 1 again, and the options of each
abbrev pub is_numbered : ℕ → Request → Bool
is_numbered before (SendData node payload options id) = (id == before % 255 + 1) && (options == TRANSMIT_OPTIONS)
is_numbered before request = true

abbrev pub may_number : List Entry → Entry → Bool
may_number past (Written Host unit) = not (is_new (asked past) unit) || list_all (is_numbered (last_id past)) (request_in unit)
may_number past entry = true

abbrev pub NumbersCallbacks : List Entry → Type 0
NumbersCallbacks transcript = Keeps may_number transcript
