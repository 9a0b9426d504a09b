-- The entry that a text is taken for. Where it is no entry's text this is some entry, of another text. All of it is this
-- project's own rule.
use Rattle.std.specs.Prelude.{ℕ, ◌-◌, ◌==◌, nat_lt, Bool, if◌then◌else◌, List, [], length, take, drop, map, codes, bytes_eq, slice_get, slice_index_or, Option, Some, None, unwrap_or, Result, Ok, Err}
use Rattle.std.specs.List.{slice_split}
use Rattle.hex.specs.Hex.{decode_of}
use Rattle.hex.specs.declared.error.FromHexError.{FromHexError}
use Rattle.zw_base.specs.declared.property.By.{By}
use Rattle.zw_base.specs.declared.property.By.TheVariants.{Session, Local, Plain}
use Rattle.zw_base.specs.declared.property.Name.{Name}
use Rattle.zw_base.specs.declared.property.Name.TheVariants.{Switch, Level, Lock, Mode, Setpoint, Config, Member, Interval, Sensor, Battery}
use Rattle.zw_base.specs.declared.property.Property.{Property}
use Rattle.zw_base.specs.declared.property.Setting.{Setting}
use Rattle.zw_words.specs.declared.fault.LineFault.{LineFault}
use Rattle.zw_words.specs.declared.fault.LineFault.TheVariants.{Unknown, Missing, Number, Extra, TooLong as LineTooLong}
use Rattle.zw_words.specs.declared.side.Side.{Side}
use Rattle.zw_words.specs.declared.side.Side.TheVariants.{Host, Chip}
use Rattle.zw_text.specs.declared.entry.Ended.{Ended}
use Rattle.zw_text.specs.declared.entry.Ended.TheVariants.{Success, Fail, NoSupport, Unanswered, Cancelled}
use Rattle.zw_text.specs.declared.entry.Done.{Done as HowDone}
use Rattle.zw_text.specs.declared.entry.Done.TheVariants.{Delivered, NoAck, Fail as DoneFail, NotIdle, NoRoute, Refused as DoneRefused, Silent, LinkFailed}
use Rattle.zw_text.specs.declared.entry.Refusal.{Refusal}
use Rattle.zw_text.specs.declared.entry.Refusal.TheVariants.{NotJoined, NotInterviewed, Unsupported, BadValue, Unsupervised, TooLong, MailboxFull, StoreFull, Secured, QueueFull as QueueIsFull, AlreadyJoined, KeeperFault, NotWaiting, NeverSent, Forgotten, Stale, NoDevice, BadRecord}
use Rattle.zw_text.specs.declared.entry.Entry.{Entry}
use Rattle.zw_text.specs.declared.entry.Entry.TheVariants.{Said, Accepted, Refused, Begin, Written, Dropped, Garbled, Overrun, Air, Heard, Lost, Unheard, Dev, Forget, Out, Store, Report, Unstored, Old, Unread, Awake, Asleep, Interviewed, InterviewFailed, Done, Neighbours, Failed, ChipFull, QueueFull, Device, Json, Held, Cleared, Unkept, Time, TableEnd, TableNode, TableValue, BadLine}
use Rattle.zw_words.specs.Forms.{between_in, node_in, number_in}

-- the parts of a text between bytes c
abbrev pub parts : ℕ → List ℕ → List (List ℕ)
parts c text = slice_split (λ b. b == c) text

-- the word at a place, or none
abbrev pub at : ℕ → List (List ℕ) → List ℕ
at k ws = unwrap_or (slice_get ws k) []

-- ---- words

-- numbers of eight, four, two bytes and one, a node and an end point
unfoldable pub eight_back : List ℕ → ℕ
eight_back w = unwrap_or (number_in w) 0

unfoldable pub four_back : List ℕ → ℕ
four_back w = unwrap_or (between_in 0 4294967295 w) 0

unfoldable pub two_back : List ℕ → ℕ
two_back w = unwrap_or (between_in 0 65535 w) 0

unfoldable pub byte_back : List ℕ → ℕ
byte_back w = unwrap_or (between_in 0 255 w) 0

unfoldable pub end_back : List ℕ → ℕ
end_back w = unwrap_or (between_in 0 127 w) 0

unfoldable pub node_back : List ℕ → ℕ
node_back w = unwrap_or (node_in 1 w) 1

abbrev pub ok_or_none : Result (List ℕ) FromHexError → List ℕ
ok_or_none (Ok bytes) = bytes
ok_or_none (Err fault) = []

-- the bytes of a word in hex
unfoldable pub hex_back : List ℕ → List ℕ
hex_back w = ok_or_none (decode_of w)

unfoldable pub side_back : List ℕ → Side
side_back w = if bytes_eq w (codes "h") then Host else Chip

unfoldable pub ended_back : List ℕ → Ended
ended_back w =
    if bytes_eq w (codes "success") then Success
    else if bytes_eq w (codes "fail") then Fail
    else if bytes_eq w (codes "nosupport") then NoSupport
    else if bytes_eq w (codes "unanswered") then Unanswered
    else Cancelled

unfoldable pub done_back : List ℕ → HowDone
done_back w =
    if bytes_eq w (codes "ok") then Delivered
    else if bytes_eq w (codes "noack") then NoAck
    else if bytes_eq w (codes "fail") then DoneFail
    else if bytes_eq w (codes "notidle") then NotIdle
    else if bytes_eq w (codes "noroute") then NoRoute
    else if bytes_eq w (codes "refused") then DoneRefused
    else if bytes_eq w (codes "silent") then Silent
    else LinkFailed

unfoldable pub fault_back : List ℕ → LineFault
fault_back w =
    if bytes_eq w (codes "Unknown") then Unknown
    else if bytes_eq w (codes "Missing") then Missing
    else if bytes_eq w (codes "Number") then Number
    else if bytes_eq w (codes "Extra") then Extra
    else LineTooLong

unfoldable pub failed_back : List ℕ → Bool
failed_back w = bytes_eq w (codes "yes")

-- the first byte, or 0
abbrev pub first_byte : List ℕ → ℕ
first_byte w = slice_index_or w 0 0

unfoldable pub by_back : List ℕ → By
by_back w =
    if nat_lt 57 (first_byte w) then (if bytes_eq w (codes "local") then Local else Plain)
    else Session (eight_back w)

abbrev pub some_number : ℕ → Option ℕ
some_number n = Some n

unfoldable pub option_back : List ℕ → Option ℕ
option_back w = if nat_lt (first_byte w) 48 then None else some_number (four_back w)

unfoldable pub name_back : List ℕ → Name
name_back w =
    if bytes_eq (at 0 (parts 58 w)) (codes "switch") then Switch
    else if bytes_eq (at 0 (parts 58 w)) (codes "level") then Level
    else if bytes_eq (at 0 (parts 58 w)) (codes "lock") then Lock
    else if bytes_eq (at 0 (parts 58 w)) (codes "mode") then Mode
    else if bytes_eq (at 0 (parts 58 w)) (codes "interval") then Interval
    else if bytes_eq (at 0 (parts 58 w)) (codes "sensor") then Sensor
    else if bytes_eq (at 0 (parts 58 w)) (codes "battery") then Battery
    else if bytes_eq (at 0 (parts 58 w)) (codes "setpoint") then Setpoint (byte_back (at 1 (parts 58 w)))
    else if bytes_eq (at 0 (parts 58 w)) (codes "config") then Config (byte_back (at 1 (parts 58 w)))
    else Member (byte_back (at 1 (parts 58 w))) (node_back (at 2 (parts 58 w)))

abbrev pub make_property : ℕ → Name → Property
make_property e n = record { end = e; name = n }

unfoldable pub property_back : List ℕ → Property
property_back w = make_property (end_back (at 0 (parts 47 w))) (name_back (at 1 (parts 47 w)))

abbrev pub make_setting : Property → ℕ → Setting
make_setting p v = record { property = p; value = v }

-- a property and its value
unfoldable pub setting_back : List ℕ → List ℕ → Setting
setting_back p v = make_setting (property_back p) (four_back v)

-- ---- lists

-- some words, or none where the first is `-`
abbrev pub unless_none : List (List ℕ) → List ℕ → List ℕ
unless_none ws ns = if nat_lt (first_byte (at 0 ws)) 48 then [] else ns

unfoldable pub nodes_back : List (List ℕ) → List ℕ
nodes_back ws = unless_none ws (map node_back ws)

unfoldable pub numbers_back : List (List ℕ) → List ℕ
numbers_back ws = unless_none ws (map four_back ws)

-- all words but the last, and the last
abbrev pub but_last : List (List ℕ) → List (List ℕ)
but_last ws = take (length ws - 1) ws

abbrev pub last_of : List (List ℕ) → List ℕ
last_of ws = at (length ws - 1) ws

-- a payload, or none where it is too long
unfoldable pub payload_back : List ℕ → List ℕ
payload_back w = if nat_lt 46 (length (hex_back w)) then [] else hex_back w

-- ---- refusals

unfoldable pub valued_back : List ℕ → List ℕ → Refusal
valued_back w v =
    if bytes_eq w (codes "toolong") then TooLong (two_back v)
    else if bytes_eq w (codes "mailboxfull") then MailboxFull (byte_back v)
    else if bytes_eq w (codes "storefull") then StoreFull (two_back v)
    else if bytes_eq w (codes "queuefull") then QueueIsFull (byte_back v)
    else if bytes_eq w (codes "notwaiting") then NotWaiting (four_back v)
    else if bytes_eq w (codes "stale") then Stale (eight_back v)
    else BadRecord (eight_back v)

unfoldable pub refusal_back : List ℕ → List ℕ → Refusal
refusal_back w v =
    if bytes_eq w (codes "notjoined") then NotJoined
    else if bytes_eq w (codes "notinterviewed") then NotInterviewed
    else if bytes_eq w (codes "badvalue") then BadValue
    else if bytes_eq w (codes "unsupervised") then Unsupervised
    else if bytes_eq w (codes "secured") then Secured
    else if bytes_eq w (codes "alreadyjoined") then AlreadyJoined
    else if bytes_eq w (codes "keeperfault") then KeeperFault
    else if bytes_eq w (codes "neversent") then NeverSent
    else if bytes_eq w (codes "forgotten") then Forgotten
    else if bytes_eq w (codes "nodevice") then NoDevice
    else valued_back w v

-- a class in hex, or none
unfoldable pub class_back : List ℕ → ℕ
class_back w = first_byte (hex_back w)

-- ---- entries, by the first word

-- rows of a command, and of the time
unfoldable pub command_back : List (List ℕ) → Entry
command_back ws =
    if bytes_eq (at 0 ws) (codes "accepted") then Accepted (four_back (at 1 ws)) (node_back (at 3 ws))
    else if bytes_eq (at 0 ws) (codes "begin") then Begin (node_back (at 1 ws)) (eight_back (at 2 ws)) (four_back (at 3 ws))
    else if bytes_eq (at 0 ws) (codes "out") then Out (four_back (at 1 ws)) (ended_back (at 2 ws))
    else if bytes_eq (at 0 ws) (codes "t") then Time (eight_back (at 1 ws))
    else if bytes_eq (at 0 ws) (codes "end") then TableEnd (eight_back (at 1 ws))
    else BadLine (four_back (at 1 ws)) (fault_back (at 2 ws))

-- rows of a side
unfoldable pub side_row_back : List (List ℕ) → Entry
side_row_back ws =
    if bytes_eq (at 0 ws) (codes "chipfull") then ChipFull
    else if bytes_eq (at 0 ws) (codes "dropped") then Dropped (side_back (at 1 ws))
    else if bytes_eq (at 0 ws) (codes "overrun") then Overrun (side_back (at 1 ws))
    else if bytes_eq (at 0 ws) (codes "cleared") then Cleared (side_back (at 1 ws)) (eight_back (at 2 ws))
    else command_back ws

-- rows of a frame
unfoldable pub fate_back : List (List ℕ) → Entry
fate_back ws =
    if bytes_eq (at 0 ws) (codes "heard") then Heard (eight_back (at 1 ws))
    else if bytes_eq (at 0 ws) (codes "lost") then Lost (eight_back (at 1 ws))
    else if bytes_eq (at 0 ws) (codes "unheard") then Unheard (eight_back (at 1 ws))
    else side_row_back ws

-- rows of a value
unfoldable pub value_back : List (List ℕ) → Entry
value_back ws =
    if bytes_eq (at 0 ws) (codes "store") then Store (node_back (at 1 ws)) (setting_back (at 2 ws) (at 3 ws))
    else if bytes_eq (at 0 ws) (codes "report") then Report (node_back (at 1 ws)) (setting_back (at 2 ws) (at 3 ws))
    else if bytes_eq (at 0 ws) (codes "device") then Device (node_back (at 1 ws)) (setting_back (at 2 ws) (at 3 ws))
    else if bytes_eq (at 0 ws) (codes "unstored") then Unstored (node_back (at 1 ws)) (property_back (at 2 ws))
    else if bytes_eq (at 0 ws) (codes "dev") then Dev (node_back (at 1 ws)) (by_back (at 2 ws)) (setting_back (at 3 ws) (at 4 ws))
    else if bytes_eq (at 0 ws) (codes "value") then TableValue (node_back (at 1 ws)) (property_back (at 2 ws)) (option_back (at 4 ws)) (option_back (at 6 ws))
    else fate_back ws

-- rows of a node alone
unfoldable pub node_row_back : List (List ℕ) → Entry
node_row_back ws =
    if bytes_eq (at 0 ws) (codes "awake") then Awake (node_back (at 1 ws))
    else if bytes_eq (at 0 ws) (codes "asleep") then Asleep (node_back (at 1 ws))
    else if bytes_eq (at 0 ws) (codes "interviewed") then Interviewed (node_back (at 1 ws))
    else if bytes_eq (at 0 ws) (codes "interview") then InterviewFailed (node_back (at 1 ws))
    else if bytes_eq (at 0 ws) (codes "queuefull") then QueueFull (node_back (at 1 ws))
    else if bytes_eq (at 0 ws) (codes "held") then Held (node_back (at 1 ws))
    else if bytes_eq (at 0 ws) (codes "unkept") then Unkept (node_back (at 1 ws))
    else value_back ws

-- rows of a node and a word
unfoldable pub node_word_back : List (List ℕ) → Entry
node_word_back ws =
    if bytes_eq (at 0 ws) (codes "forget") then Forget (node_back (at 1 ws)) (node_back (at 2 ws))
    else if bytes_eq (at 0 ws) (codes "old") then Old (node_back (at 1 ws)) (byte_back (at 2 ws))
    else if bytes_eq (at 0 ws) (codes "done") then Done (node_back (at 1 ws)) (done_back (at 2 ws))
    else if bytes_eq (at 0 ws) (codes "failed") then Failed (node_back (at 1 ws)) (failed_back (at 2 ws))
    else node_row_back ws

-- refusals
unfoldable pub refused_back : List (List ℕ) → Entry
refused_back ws =
    if bytes_eq (at 1 ws) (codes "unsupported") then Refused (Unsupported (class_back (at 2 ws)))
    else Refused (refusal_back (at 1 ws) (at 2 ws))

-- rows of bytes
unfoldable pub unit_back : List (List ℕ) → Entry
unit_back ws =
    if bytes_eq (at 0 ws) (codes "h") then Written Host (hex_back (at 1 ws))
    else if bytes_eq (at 0 ws) (codes "c") then Written Chip (hex_back (at 1 ws))
    else if bytes_eq (at 0 ws) (codes "garbled") then Garbled (side_back (at 1 ws)) (hex_back (at 2 ws))
    else if bytes_eq (at 0 ws) (codes "unread") then Unread (node_back (at 1 ws)) (hex_back (at 2 ws))
    else if bytes_eq (at 0 ws) (codes "refused") then refused_back ws
    else node_word_back ws

-- a frame
unfoldable pub air_back : List (List ℕ) → Entry
air_back ws =
    Air (eight_back (at 1 ws)) (node_back (at 0 (parts 62 (at 2 ws)))) (node_back (at 1 (parts 62 (at 2 ws)))) (nodes_back (but_last (drop 4 ws))) (payload_back (last_of (drop 4 ws)))

abbrev pub neighbours_back : List (List ℕ) → Entry
neighbours_back ws = Neighbours (node_back (at 1 ws)) (nodes_back (drop 2 ws))

abbrev pub sessions_back : List (List ℕ) → Entry
sessions_back ws = TableNode (node_back (at 1 ws)) (numbers_back (drop 3 ws))

-- rows with a list
unfoldable pub back : List (List ℕ) → Entry
back ws =
    if bytes_eq (at 0 ws) (codes "air") then air_back ws
    else if bytes_eq (at 0 ws) (codes "neighbours") then neighbours_back ws
    else if bytes_eq (at 0 ws) (codes "node") then sessions_back ws
    else unit_back ws

-- texts that were taken from outside stand after their first word as they are
unfoldable pub text_of : List ℕ → List (List ℕ) → Entry
text_of text ws =
    if bytes_eq (at 0 ws) (codes ">") then Said (drop 2 text)
    else if bytes_eq (at 0 ws) (codes "json") then Json (drop 5 text)
    else back ws

-- the entry that a text is taken for
abbrev pub text_back : List ℕ → Entry
text_back text = text_of text (parts 32 text)
