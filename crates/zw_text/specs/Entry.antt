-- The text of each entry of a transcript: its words with one space between two. All of it is this project's own rule.
use Rattle.std.specs.Prelude.{ℕ, Bool, true, false, List, [], ◌∷◌, ◌++◌, Option, Some, None, codes, decimal, map}
use Rattle.std.specs.List.{flat_map, join_with_byte}
use Rattle.hex.specs.Hex.{encode_upper}
use Rattle.zw_base.specs.declared.property.By.{By}
use Rattle.zw_base.specs.declared.property.By.TheVariants.{Session, Local, Plain}
use Rattle.zw_base.specs.PropertyWord.{property_word}
use Rattle.zw_words.specs.declared.fault.LineFault.{LineFault}
use Rattle.zw_words.specs.declared.fault.LineFault.TheVariants.{Unknown, Missing, Number, Extra, TooLong as LineTooLong}
use Rattle.zw_words.specs.Texts.{side_word}
use Rattle.zw_text.specs.declared.entry.Ended.{Ended}
use Rattle.zw_text.specs.declared.entry.Ended.TheVariants.{Success, Fail, NoSupport, Unanswered, Cancelled}
use Rattle.zw_text.specs.declared.entry.Done.{Done as HowDone}
use Rattle.zw_text.specs.declared.entry.Done.TheVariants.{Delivered, NoAck, Fail as DoneFail, NotIdle, NoRoute, Refused as DoneRefused, Silent, LinkFailed}
use Rattle.zw_text.specs.declared.entry.Refusal.{Refusal}
use Rattle.zw_text.specs.declared.entry.Refusal.TheVariants.{NotJoined, NotInterviewed, Unsupported, BadValue, Unsupervised, TooLong, MailboxFull, StoreFull, Secured, QueueFull as QueueIsFull, AlreadyJoined, KeeperFault, NotWaiting, NeverSent, Forgotten, Stale, NoDevice, BadRecord}
use Rattle.zw_text.specs.declared.entry.Entry.{Entry}
use Rattle.zw_text.specs.declared.entry.Entry.TheVariants.{Said, Accepted, Refused, Begin, Written, Dropped, Garbled, Overrun, Air, Heard, Lost, Unheard, Dev, Forget, Out, Store, Report, Unstored, Old, Unread, Awake, Asleep, Interviewed, InterviewFailed, Done, Neighbours, Failed, ChipFull, QueueFull, Device, Json, Held, Cleared, Unkept, Time, TableEnd, TableNode, TableValue, BadLine}

-- the words of some numbers, or `-` where there are none, and then other words
abbrev pub number_words : List ℕ → List (List ℕ) → List (List ℕ)
number_words [] rest = codes "-" ∷ rest
number_words (n ∷ ns) rest = decimal n ∷ map decimal ns ++ rest

-- a number, or `-` where there is none
abbrev pub number_word : Option ℕ → List ℕ
number_word None = codes "-"
number_word (Some n) = decimal n

-- what made a change: the number of the session, or a word
abbrev pub by_word : By → List ℕ
by_word (Session session) = decimal session
by_word Local = codes "local"
by_word Plain = codes "plain"

-- how a command ended
abbrev pub ended_word : Ended → List ℕ
ended_word Success = codes "success"
ended_word Fail = codes "fail"
ended_word NoSupport = codes "nosupport"
ended_word Unanswered = codes "unanswered"
ended_word Cancelled = codes "cancelled"

-- how a request ended
abbrev pub done_word : HowDone → List ℕ
done_word Delivered = codes "ok"
done_word NoAck = codes "noack"
done_word DoneFail = codes "fail"
done_word NotIdle = codes "notidle"
done_word NoRoute = codes "noroute"
done_word DoneRefused = codes "refused"
done_word Silent = codes "silent"
done_word LinkFailed = codes "link"

-- the name of a refusal, and the value that it carries: a class in hex, any other in decimal
abbrev pub refusal_words : Refusal → List (List ℕ)
refusal_words NotJoined = codes "notjoined" ∷ []
refusal_words NotInterviewed = codes "notinterviewed" ∷ []
refusal_words (Unsupported class) = codes "unsupported" ∷ encode_upper (class ∷ []) ∷ []
refusal_words BadValue = codes "badvalue" ∷ []
refusal_words Unsupervised = codes "unsupervised" ∷ []
refusal_words (TooLong bytes) = codes "toolong" ∷ decimal bytes ∷ []
refusal_words (MailboxFull waiting) = codes "mailboxfull" ∷ decimal waiting ∷ []
refusal_words (StoreFull properties) = codes "storefull" ∷ decimal properties ∷ []
refusal_words Secured = codes "secured" ∷ []
refusal_words (QueueIsFull waiting) = codes "queuefull" ∷ decimal waiting ∷ []
refusal_words AlreadyJoined = codes "alreadyjoined" ∷ []
refusal_words KeeperFault = codes "keeperfault" ∷ []
refusal_words (NotWaiting command) = codes "notwaiting" ∷ decimal command ∷ []
refusal_words NeverSent = codes "neversent" ∷ []
refusal_words Forgotten = codes "forgotten" ∷ []
refusal_words (Stale later) = codes "stale" ∷ decimal later ∷ []
refusal_words NoDevice = codes "nodevice" ∷ []
refusal_words (BadRecord place) = codes "badrecord" ∷ decimal place ∷ []

-- the name of a fault of a line
abbrev pub fault_word : LineFault → List ℕ
fault_word Unknown = codes "Unknown"
fault_word Missing = codes "Missing"
fault_word Number = codes "Number"
fault_word Extra = codes "Extra"
fault_word LineTooLong = codes "TooLong"

-- whether a node has failed
abbrev pub failed_word : Bool → List ℕ
failed_word true = codes "yes"
failed_word false = codes "no"

-- the two ends of a frame
abbrev pub ends_word : ℕ → ℕ → List ℕ
ends_word sender receiver = decimal sender ++ (codes ">" ++ decimal receiver)

-- the words of an entry; those of a line that was run and of stored values stand together as one
abbrev pub entry_words : Entry → List (List ℕ)
entry_words (Said words) = codes ">" ∷ words ∷ []
entry_words (Accepted command node) = codes "accepted" ∷ decimal command ∷ codes "node" ∷ decimal node ∷ []
entry_words (Refused refusal) = codes "refused" ∷ refusal_words refusal
entry_words (Begin node session command) = codes "begin" ∷ decimal node ∷ decimal session ∷ decimal command ∷ []
entry_words (Written side unit) = side_word side ∷ encode_upper unit ∷ []
entry_words (Dropped side) = codes "dropped" ∷ side_word side ∷ []
entry_words (Garbled side unit) = codes "garbled" ∷ side_word side ∷ encode_upper unit ∷ []
entry_words (Overrun side) = codes "overrun" ∷ side_word side ∷ []
entry_words (Air frame sender receiver repeaters payload) =
    codes "air" ∷ decimal frame ∷ ends_word sender receiver ∷ codes "via" ∷ number_words repeaters (encode_upper payload ∷ [])
entry_words (Heard frame) = codes "heard" ∷ decimal frame ∷ []
entry_words (Lost frame) = codes "lost" ∷ decimal frame ∷ []
entry_words (Unheard frame) = codes "unheard" ∷ decimal frame ∷ []
entry_words (Dev node by setting) =
    codes "dev" ∷ decimal node ∷ by_word by ∷ property_word setting.property ∷ decimal setting.value ∷ []
entry_words (Forget first second) = codes "forget" ∷ decimal first ∷ decimal second ∷ []
entry_words (Out command ended) = codes "out" ∷ decimal command ∷ ended_word ended ∷ []
entry_words (Store node setting) = codes "store" ∷ decimal node ∷ property_word setting.property ∷ decimal setting.value ∷ []
entry_words (Report node setting) = codes "report" ∷ decimal node ∷ property_word setting.property ∷ decimal setting.value ∷ []
entry_words (Unstored node property) = codes "unstored" ∷ decimal node ∷ property_word property ∷ []
entry_words (Old node id) = codes "old" ∷ decimal node ∷ decimal id ∷ []
entry_words (Unread node payload) = codes "unread" ∷ decimal node ∷ encode_upper payload ∷ []
entry_words (Awake node) = codes "awake" ∷ decimal node ∷ []
entry_words (Asleep node) = codes "asleep" ∷ decimal node ∷ []
entry_words (Interviewed node) = codes "interviewed" ∷ decimal node ∷ []
entry_words (InterviewFailed node) = codes "interview" ∷ decimal node ∷ codes "failed" ∷ []
entry_words (Done node done) = codes "done" ∷ decimal node ∷ done_word done ∷ []
entry_words (Neighbours node list) = codes "neighbours" ∷ decimal node ∷ number_words list []
entry_words (Failed node failed) = codes "failed" ∷ decimal node ∷ failed_word failed ∷ []
entry_words ChipFull = codes "chipfull" ∷ []
entry_words (QueueFull node) = codes "queuefull" ∷ decimal node ∷ []
entry_words (Device node setting) = codes "device" ∷ decimal node ∷ property_word setting.property ∷ decimal setting.value ∷ []
entry_words (Json text) = codes "json" ∷ text ∷ []
entry_words (Held node) = codes "held" ∷ decimal node ∷ []
entry_words (Cleared side bytes) = codes "cleared" ∷ side_word side ∷ decimal bytes ∷ []
entry_words (Unkept node) = codes "unkept" ∷ decimal node ∷ []
entry_words (Time tick) = codes "t" ∷ decimal tick ∷ []
entry_words (TableEnd ticks) = codes "end" ∷ decimal ticks ∷ []
entry_words (TableNode node sessions) = codes "node" ∷ decimal node ∷ codes "sessions" ∷ number_words sessions []
entry_words (TableValue node property confirmed heard) =
    codes "value" ∷ decimal node ∷ property_word property ∷ codes "confirmed" ∷ number_word confirmed ∷ codes "heard" ∷ number_word heard ∷ []
entry_words (BadLine line fault) = codes "badline" ∷ decimal line ∷ fault_word fault ∷ []

-- the text of an entry, without a line feed
unfoldable pub entry_text : Entry → List ℕ
entry_text entry = join_with_byte 32 (entry_words entry)

-- the text of a transcript: each entry's text and a line feed
abbrev pub transcript_text : List Entry → List ℕ
transcript_text entries = flat_map (λ entry. entry_text entry ++ 10 ∷ []) entries

-- an entry that is left out of a quiet transcript: units and frames
abbrev pub is_loud : Entry → Bool
is_loud (Written side unit) = true
is_loud (Air frame sender receiver repeaters payload) = true
is_loud (Heard frame) = true
is_loud (Lost frame) = true
is_loud (Unheard frame) = true
is_loud _ = false
