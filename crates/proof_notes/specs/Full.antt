-- What the host notes of a payload, in full and in order (Supervision, Security 0, Wake Up and Transport Service Command Classes, and the reports of the Application Command Classes; which
-- notes come of which message is this project's own rule): after each payload that was judged stand the notes of its messages, one message after another, before anything else is done.
use Rattle.std.specs.Prelude.{◌≡◌, ◌⊎◌, ◌&&◌, not, ℕ, Bool, true, false, if◌then◌else◌, List, [], ◌∷◌, ◌++◌, ⊤}
use Rattle.std.specs.List.{AllByRecursion, flat_map}
use Rattle.zw_base.specs.declared.property.Setting.{Setting}
use Rattle.s0_crypto.specs.declared.key_pair.Keys.{Keys}
use Rattle.s0_crypto.specs.Opening.{sender_nonce_in}
use Rattle.s0_crypto.specs.Seal.{Seals}
use Rattle.class_info.specs.declared.report_status.ReportStatus.{ReportStatus}
use Rattle.class_info.specs.declared.report_status.ReportStatus.TheVariants as statuses
use Rattle.host_heard.specs.Telling.{heard_at}
use Rattle.host_heard.specs.declared.payload.Heard.{Heard}
use Rattle.host_heard.specs.declared.payload.Heard.TheVariants.{Messages, Sealed, Unread as unread_text}
use Rattle.host_heard.specs.declared.told.Told.{Told}
use Rattle.host_heard.specs.declared.told.Told.TheVariants as told
use Rattle.host_orders.specs.Classes.{lists}
use Rattle.zw_words.specs.declared.side.Side.TheVariants.{Host}
use Rattle.zw_text.specs.declared.entry.Ended.TheVariants as endings
use Rattle.zw_text.specs.declared.entry.Entry.{Entry}
use Rattle.zw_text.specs.declared.entry.Entry.TheVariants.{Said, Written, Out, Report, Unstored, Old, Unread, Awake, QueueFull, Unkept}
use Rattle.zw_text.specs.Transcript.{folded}
use Rattle.law_transcript.specs.Lists.{EachAfter}
use Rattle.law_transcript.specs.Nodes.{controller, host_list}
use Rattle.law_transcript.specs.Units.{Carried}
use Rattle.proof_attempts.specs.law_time.Judged.{brought_here, is_mark, is_no_note}
use Rattle.proof_attempts.specs.law_time.Requests.{are_none}
use Rattle.proof_attempts.specs.law_time.Sessions.{last_command}
use Rattle.proof_known.specs.law_host.Heard.{heeds_alone}
use Rattle.proof_known.specs.law_host.Messages.{Hearing, ended_by, final_notes, is_of_open}
use Rattle.proof_known.specs.Noted.{has_room}

-- a payload of a node, whose messages were sealed or not; a host alone goes by what the node listed
abbrev pub hearing_of : ℕ → List ℕ → Bool → Hearing
hearing_of node payload was_sealed =
    record { heeds = heeds_alone (λ past carried. []); before = []; past = []; node = node; payload = payload; was_sealed = was_sealed }

-- these notes, or that a record was not kept
abbrev pub AreUnlessUnkept : ℕ → List Entry → List Entry → Type 0
AreUnlessUnkept node notes some = (some ≡ notes) ⊎ (some ≡ Unkept node ∷ [])

-- none, or that 64 requests wait
abbrev pub AreNoneUnlessFull : ℕ → List Entry → Type 0
AreNoneUnlessFull node some = (some ≡ []) ⊎ (some ≡ QueueFull node ∷ [])

-- ---- reports of sessions

-- of the open session: that the node is at work is not noted, and a final one ends it
abbrev pub EndNotes : Hearing → List Entry → ReportStatus → Bool → List Entry → Type 0
EndNotes hearing past statuses.Working wake_request some = some ≡ []
EndNotes hearing past status wake_request some =
    AreUnlessUnkept hearing.node (flat_map (λ ended. flat_map (final_notes hearing past wake_request ended) (last_command hearing.node past)) (ended_by status)) some

-- a node that lists Security 0 told it openly
abbrev pub is_openly : Hearing → List Entry → Bool
is_openly hearing past = not hearing.was_sealed && lists (host_list hearing.heeds.listing past hearing.node) 0x98

-- then it is not read; one of the open session counts, and one of another is old
abbrev pub ReportNotes : Hearing → List Entry → ℕ → ReportStatus → Bool → (openly of_open : Bool) → List Entry → Type 0
ReportNotes hearing past id status wake_request true of_open some = some ≡ Unread hearing.node hearing.payload ∷ []
ReportNotes hearing past id status wake_request false true some = EndNotes hearing past status wake_request some
ReportNotes hearing past id status wake_request false false some = some ≡ Old hearing.node id ∷ []

-- ---- messages

abbrev pub value_note : List Entry → ℕ → Setting → Entry
value_note past node setting = if has_room past node setting.property then Report node setting else Unstored node setting.property

-- each value, or that there is no room for it, by what stood before
abbrev pub value_notes : ℕ → List Entry → List Setting → List Entry
value_notes node past [] = []
value_notes node past (setting ∷ more) = value_note past node setting ∷ value_notes node (past ++ value_note past node setting ∷ []) more

-- what a message has noted. Whether 64 requests wait, and a nonce is asked for, is not said here
abbrev pub MessageNotes : Hearing → List Entry → Told → List Entry → Type 0
MessageNotes hearing past (told.Report id status wake_request) some =
    ReportNotes hearing past id status wake_request (is_openly hearing past) (is_of_open hearing.node past id) some
MessageNotes hearing past told.NonceGet some = AreNoneUnlessFull hearing.node some ⊎ (some ≡ Unkept hearing.node ∷ [])
MessageNotes hearing past (told.NonceReport nonce) some = AreUnlessUnkept hearing.node [] some
MessageNotes hearing past told.Notification some = some ≡ Awake hearing.node ∷ []
MessageNotes hearing past (told.SegmentRequest id offset) some = AreNoneUnlessFull hearing.node some
MessageNotes hearing past (told.Values settings) some = some ≡ value_notes hearing.node past settings

-- and one after another
abbrev pub MessagesNotes : Hearing → List Entry → List Told → List Entry → Type 0
MessagesNotes hearing past [] some = some ≡ []
MessagesNotes hearing past (message ∷ more) some =
    (first rest : List Entry) × (some ≡ first ++ rest) × MessageNotes hearing past message first × MessagesNotes hearing (past ++ first) more rest

-- ---- payloads

-- its node sealed it for the host with these keys, and it opens to these messages
pub record OpensTo (keys : Keys) (node : ℕ) (payload : List ℕ) (messages : List Told) : Type 0 where
  pub nonce : List ℕ
  pub plain : List ℕ
  pub seals : Seals keys (sender_nonce_in payload) nonce (record { sender = node; receiver = controller }) plain payload
  pub tells : heard_at plain ≡ Messages messages

-- what a payload has noted: a sealed one is not read, its nonce is not kept as spent, or it opens
abbrev pub PayloadNotes : Keys → ℕ → List ℕ → List Entry → Heard → List Entry → Type 0
PayloadNotes keys node payload past (Messages messages) some = MessagesNotes (hearing_of node payload false) past messages some
PayloadNotes keys node payload past Sealed some =
    (some ≡ Unread node payload ∷ []) ⊎ ((some ≡ Unkept node ∷ [])
    ⊎ ((messages : List Told) × OpensTo keys node payload messages × MessagesNotes (hearing_of node payload true) past messages some))
PayloadNotes keys node payload past unread_text some = some ≡ Unread node payload ∷ []

-- ---- the law

-- what stands up to the last unit of the host, with what became of that, and what stands after it
pub record SinceUnit : Type 0 where
  pub upto : List Entry
  pub notes : List Entry

abbrev pub since_step : SinceUnit → Entry → SinceUnit
since_step since (Written Host unit) = record { upto = (since.upto ++ since.notes) ++ Written Host unit ∷ []; notes = [] }
since_step since entry =
    if is_mark entry && are_none since.notes then record { upto = since.upto ++ entry ∷ []; notes = [] } else record { upto = since.upto; notes = since.notes ++ entry ∷ [] }

abbrev pub since_unit : List Entry → SinceUnit
since_unit past = folded since_step (record { upto = []; notes = [] }) past

-- no outcome by a report, value, old report, payload that cannot be read or node that is awake: other things have it noted too, or no message has
abbrev pub IsElse : Entry → Type 0
IsElse (Out command endings.Success) = ⊥
IsElse (Out command endings.Fail) = ⊥
IsElse (Out command endings.NoSupport) = ⊥
IsElse (Report node setting) = ⊥
IsElse (Unstored node property) = ⊥
IsElse (Old node id) = ⊥
IsElse (Unread node payload) = ⊥
IsElse (Awake node) = ⊥
IsElse entry = ⊤

-- these are the notes of the payload, and such entries after them
abbrev pub AreWhole : Keys → List Entry → Carried → List Entry → Type 0
AreWhole keys upto carried some =
    (notes more : List Entry) × (some ≡ notes ++ more) × PayloadNotes keys carried.node carried.payload upto (heard_at carried.payload) notes × AllByRecursion IsElse more

-- the host goes on with what it judged: a note, or what became of its acknowledgement
abbrev pub goes_on : Entry → Bool
goes_on (Written Host unit) = false
goes_on entry = not (is_no_note entry)

-- what became of the acknowledgement says nothing; an entry is among the notes, with others to come; or they are whole before it
abbrev pub GoesOnWith : Keys → SinceUnit → (mark on : Bool) → Entry → Carried → Type 0
GoesOnWith keys since true on entry carried = ⊤
GoesOnWith keys since false true entry carried = (rest : List Entry) × AreWhole keys since.upto carried (since.notes ++ entry ∷ rest)
GoesOnWith keys since false false entry carried = AreWhole keys since.upto carried since.notes

-- so it is of each payload that was judged here
abbrev pub MayGoOn : Keys → List Entry → Entry → Type 0
MayGoOn keys past entry = AllByRecursion (GoesOnWith keys (since_unit past) (is_mark entry) (goes_on entry) entry) (brought_here past)

pub record NotesInFull (keys : Keys) (whole : Bool) (transcript : List Entry) : Type 0 where
  pub between : EachAfter (MayGoOn keys) [] transcript
  pub in_the_end : whole ≡ true → MayGoOn keys transcript (Said [])
