-- The lines that name bytes (this project's own rule, over the splitting of `serial_frame` and the rows of the crates of bodies,
-- wraps and messages).
use Rattle.std.specs.Prelude.{◌≡◌, ℕ, zero, suc, ◌==◌, if◌then◌else◌, ◌⊎◌, List, [], ◌∷◌, ◌++◌, length, slice_index, Option, Some, None, Result, Ok, Err, codes, decimal}
use Rattle.std.specs.List.{flat_map, join_with_byte}
use Rattle.zw_words.specs.declared.side.Side.{Side}
use Rattle.zw_words.specs.declared.side.Side.TheVariants.{Host, Chip}
use Rattle.serial_frame.specs.Frame.{FrameParts}
use Rattle.serial_frame.specs.Stream.{Reads}
use Rattle.serial_frame.specs.declared.frame.Kind.{Kind}
use Rattle.serial_frame.specs.declared.frame.Kind.TheVariants.{Request as request_kind, Response as response_kind}
use Rattle.serial_frame.specs.declared.unit.Unit.TheVariants.{Ack, Nak, Can, Framed}
use Rattle.serial_frame.specs.declared.item.Item.{Item}
use Rattle.serial_frame.specs.declared.item.Item.TheVariants.{Good, Refused}
use Rattle.serial_frame.specs.declared.item.Refusal.{Refusal}
use Rattle.serial_frame.specs.declared.item.Refusal.TheVariants.{Stray, BadLength, BadSum, BadKind, Aborted}
use Rattle.chip_functions.specs.Request.{request_of}
use Rattle.chip_functions.specs.Response.{response_of}
use Rattle.chip_functions.specs.Notice.{notice_of}
use Rattle.chip_functions.specs.declared.fault.BodyFault.{BodyFault}
use Rattle.chip_functions.specs.declared.request.Request.{Request}
use Rattle.chip_functions.specs.declared.request.Request.TheVariants.{SendData}
use Rattle.chip_functions.specs.declared.notice.Notice.{Notice}
use Rattle.chip_functions.specs.declared.notice.Notice.TheVariants.{ApplicationCommandHandler}
use Rattle.class_core.specs.declared.fault.ClassFault.{ClassFault}
use Rattle.class_info.specs.InfoReading.{info_at}
use Rattle.class_info.specs.declared.message.InfoMessage.{InfoMessage}
use Rattle.encap.specs.Opening.{Message, begins_segment, opened_at}
use Rattle.encap.specs.Faults.{MayAnswer}
use Rattle.encap.specs.declared.fault.WrapFault.{WrapFault}
use Rattle.unit_report.specs.Words.{byte_word, bytes_word, body_words, wrap_words, class_words}
use Rattle.unit_report.specs.declared.payload.Form.{Form}
use Rattle.unit_report.specs.declared.payload.Form.TheVariants.{Sealed, Segment, Wrapped}

-- the text of a line: its words with one space between two
abbrev pub said : List (List ℕ) → List ℕ
said words = join_with_byte 32 words

-- the text of lines: each with a line feed
abbrev pub lines_text : List (List ℕ) → List ℕ
lines_text lines = flat_map (λ line. line ++ 10 ∷ []) lines

-- ---- a payload

-- sealed by its first byte, a segment by its first two, else a message in its wraps
abbrev pub form_of : List ℕ → Form
form_of payload = if slice_index payload 0 == 152 then Sealed else if begins_segment payload then Segment else Wrapped

-- what is wrong with the first of the commands that is no message
abbrev pub first_fault : List (List ℕ) → Option ClassFault
first_fault [] = None
first_fault (command ∷ commands) = fault_or (info_at command) (first_fault commands)
  where
    fault_or : Result InfoMessage ClassFault → Option ClassFault → Option ClassFault
    fault_or (Ok message) later = later
    fault_or (Err fault) later = Some fault

-- the line of a payload that opens: all its commands are messages, or the first that is invalid
abbrev pub commands_line : Option ClassFault → List ℕ
commands_line None = said (codes "  payload" ∷ codes "ok" ∷ [])
commands_line (Some fault) = said (codes "  payload" ∷ class_words fault)

-- the line of a payload in its wraps: they open, or this is the first fault from the outside in
abbrev pub IsWrappedLine : List ℕ → List ℕ → Type 0
IsWrappedLine payload line =
    ((message : Message) × (opened_at payload ≡ Some message) × (line ≡ commands_line (first_fault message.commands)))
    ⊎ ((fault : WrapFault) × (opened_at payload ≡ None) × MayAnswer payload fault × (line ≡ said (codes "  payload" ∷ wrap_words fault)))

-- the line of a payload
abbrev pub IsLineOf : Form → List ℕ → List ℕ → Type 0
IsLineOf Sealed payload line = line ≡ said (codes "  payload" ∷ codes "sealed" ∷ [])
IsLineOf Segment payload line = line ≡ said (codes "  payload" ∷ codes "segment" ∷ [])
IsLineOf Wrapped payload line = IsWrappedLine payload line

-- ---- a body

-- what is read of a body: the payload that it carries, where it does, or the first fault
abbrev pub BodyReading : Type 0
BodyReading = Result (Option (List ℕ)) BodyFault

abbrev pub carried_by : {A : Type 0} → (A → Option (List ℕ)) → Result A BodyFault → BodyReading
carried_by payload (Ok value) = Ok (payload value)
carried_by payload (Err fault) = Err fault

-- a SendData carries a payload
abbrev pub request_payload : Request → Option (List ℕ)
request_payload (SendData node payload options id) = Some payload
request_payload _ = None

-- and so does a frame of a node
abbrev pub notice_payload : Notice → Option (List ℕ)
notice_payload (ApplicationCommandHandler status source payload) = Some payload
notice_payload _ = None

-- the body of a frame from that side: a response, a request of the host, or a notice of the chip
abbrev pub body_of : Side → Kind → ℕ → List ℕ → BodyReading
body_of side response_kind func body = carried_by (λ response. None) (response_of func body)
body_of Host request_kind func body = carried_by request_payload (request_of func body)
body_of Chip request_kind func body = carried_by notice_payload (notice_of func body)

-- the lines below a frame
abbrev pub AreBelow : BodyReading → List (List ℕ) → Type 0
AreBelow (Err fault) lines = lines ≡ said (codes "  body" ∷ body_words fault) ∷ []
AreBelow (Ok None) lines = lines ≡ said (codes "  body" ∷ codes "ok" ∷ []) ∷ []
AreBelow (Ok (Some payload)) lines =
    (line : List ℕ) × IsLineOf (form_of payload) payload line × (lines ≡ said (codes "  body" ∷ codes "ok" ∷ []) ∷ line ∷ [])

-- ---- items

abbrev pub kind_word : Kind → List ℕ
kind_word request_kind = codes "request"
kind_word response_kind = codes "response"

-- the line of a frame
abbrev pub frame_line : FrameParts → List ℕ
frame_line f = said (codes "frame" ∷ kind_word f.kind ∷ byte_word f.func ∷ bytes_word f.body ∷ [])

-- the words for a refusal; bytes alone abort no frame
abbrev pub refusal_words : Refusal → List (List ℕ)
refusal_words (Stray byte) = codes "stray" ∷ byte_word byte ∷ []
refusal_words (BadLength len) = codes "badlength" ∷ decimal len ∷ []
refusal_words (BadSum want got) = codes "badsum" ∷ codes "want" ∷ byte_word want ∷ codes "got" ∷ byte_word got ∷ []
refusal_words (BadKind kind) = codes "badkind" ∷ byte_word kind ∷ []
refusal_words Aborted = codes "aborted" ∷ []

-- the first line of an item
abbrev pub item_line : Item → List ℕ
item_line (Good Ack) = said (codes "ack" ∷ [])
item_line (Good Nak) = said (codes "nak" ∷ [])
item_line (Good Can) = said (codes "can" ∷ [])
item_line (Good (Framed f)) = frame_line f
item_line (Refused refusal) = said (refusal_words refusal)

-- the lines below it: a frame alone has some
abbrev pub AreBelowItem : Side → Item → List (List ℕ) → Type 0
AreBelowItem side (Good Ack) below = below ≡ []
AreBelowItem side (Good Nak) below = below ≡ []
AreBelowItem side (Good Can) below = below ≡ []
AreBelowItem side (Good (Framed f)) below = AreBelow (body_of side f.kind f.func f.body) below
AreBelowItem side (Refused refusal) below = below ≡ []

-- the lines of items, one item after the other
abbrev pub AreOfItems : Side → List Item → List (List ℕ) → Type 0
AreOfItems side [] lines = lines ≡ []
AreOfItems side (item ∷ items) lines =
    (below : List (List ℕ)) × (later : List (List ℕ)) × AreBelowItem side item below × AreOfItems side items later
    × (lines ≡ (item_line item ∷ below) ++ later)

-- the line of so many bytes of a frame that is not whole
abbrev pub rest_lines : ℕ → List (List ℕ)
rest_lines zero = []
rest_lines (suc left) = said (codes "unfinished" ∷ decimal (suc left) ∷ []) ∷ []

-- the lines that name bytes from that side: those of the items that the bytes are split into, and of what is unfinished
pub record Named (side : Side) (bytes : List ℕ) (lines : List (List ℕ)) : Type 0 where
  pub items : List Item
  pub rest : List ℕ
  pub above : List (List ℕ)
  pub reads : Reads bytes items rest
  pub of_items : AreOfItems side items above
  pub lines_are : lines ≡ above ++ rest_lines (length rest)

-- a text of lines of which this holds
pub record Shows (AreLines : List (List ℕ) → Type 0) (text : List ℕ) : Type 0 where
  pub lines : List (List ℕ)
  pub are : AreLines lines
  pub text_is : text ≡ lines_text lines
