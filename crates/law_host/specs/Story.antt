-- A story of records, whoever left them (this project's own rule): what would have been heard of them, one after another. Orders and joins stand after their words, an interview is its whole
-- exchange with the chip, and a success has its values. Of nonces it says nothing: how many were counted, and which is live, is kept beside it.
use Rattle.std.specs.Prelude.{◌≡◌, ◌≤◌, ℕ, Bool, if◌then◌else◌, List, [], ◌∷◌, ◌++◌, length, map, Option, Some, IfSome}
use Rattle.serial_frame.specs.Items.{unit_text}
use Rattle.serial_frame.specs.declared.frame.Kind.TheVariants as kind
use Rattle.serial_frame.specs.declared.unit.Unit.TheVariants.{Ack, Framed}
use Rattle.chip_functions.specs.Notice.{notice_body, notice_function}
use Rattle.chip_functions.specs.Request.{request_body, request_function}
use Rattle.chip_functions.specs.Response.{response_body, response_function}
use Rattle.chip_functions.specs.declared.notice.Notice.TheVariants.{ApplicationUpdate}
use Rattle.chip_functions.specs.declared.notice.Update.TheVariants.{Received}
use Rattle.chip_functions.specs.declared.request.Request.{Request}
use Rattle.chip_functions.specs.declared.request.Request.TheVariants as requests
use Rattle.chip_functions.specs.declared.response.Response.{Response}
use Rattle.chip_functions.specs.declared.response.Response.TheVariants as responses
use Rattle.host_orders.specs.Settings.{settings}
use Rattle.host_keep.specs.Kept.{Kept, Session, Taken, after, command_of, first_kept, kept_of, node_of}
use Rattle.host_keep.specs.Legal.{AreLegal, AreTextsOf}
use Rattle.host_keep.specs.declared.final_status.FinalStatus.{FinalStatus}
use Rattle.host_keep.specs.declared.final_status.FinalStatus.TheVariants as final
use Rattle.host_keep.specs.declared.record.Record.{Record}
use Rattle.host_keep.specs.declared.record.Record.TheVariants.{Accepted, Joined, Classes, Begun, Final, Cancelled, Given, Spent, Seen}
use Rattle.zw_words.specs.declared.side.Side.TheVariants.{Host, Chip}
use Rattle.zw_text.specs.declared.line.Line.{Line}
use Rattle.zw_text.specs.declared.line.Line.TheVariants as lines
use Rattle.zw_text.specs.declared.entry.Ended.{Ended}
use Rattle.zw_text.specs.declared.entry.Ended.TheVariants as endings
use Rattle.zw_text.specs.declared.entry.Entry.{Entry}
use Rattle.zw_text.specs.declared.entry.Entry.TheVariants as entry
use Rattle.zw_text.specs.Transcript.{line_of}
use Rattle.law_host.specs.Course.{book_of}
use Rattle.law_host.specs.HostLegal.{IsLegalCounting}
use Rattle.law_host.specs.Nonces.{nonce_with}
use Rattle.law_host.specs.Notes.{Start}
use Rattle.law_host.specs.Starting.{book_kept}

-- ---- an interview

abbrev pub asks : Request → Entry
asks request = entry.Written Host (unit_text (Framed (record { kind = kind.Request; func = request_function request; body = request_body request })))

abbrev pub answers : Response → Entry
answers response = entry.Written Chip (unit_text (Framed (record { kind = kind.Response; func = response_function response; body = response_body response })))

abbrev pub informs_of : ℕ → List ℕ → Entry
informs_of node classes =
    entry.Written Chip (unit_text (Framed (record {
      kind = kind.Request;
      func = notice_function (ApplicationUpdate (Received node 0 0 0 classes));
      body = notice_body (ApplicationUpdate (Received node 0 0 0 classes));
    })))

abbrev pub acknowledges : Entry
acknowledges = entry.Written Host (unit_text Ack)

-- what the chip knows of the node, and what that lists
abbrev pub interview_told : ℕ → Bool → List ℕ → List Entry
interview_told node listens classes =
    asks (requests.GetNodeProtocolInfo node) ∷ entry.Written Chip (unit_text Ack)
    ∷ answers (responses.GetNodeProtocolInfo (if listens then 128 else 0) 0 0 0 0 0) ∷ acknowledges
    ∷ asks (requests.RequestNodeInfo node) ∷ entry.Written Chip (unit_text Ack)
    ∷ answers (responses.RequestNodeInfo 1) ∷ acknowledges
    ∷ informs_of node classes ∷ acknowledges ∷ entry.Interviewed node ∷ []

-- ---- an end

abbrev pub ended_by : FinalStatus → Ended
ended_by final.NoSupport = endings.NoSupport
ended_by final.Fail = endings.Fail
ended_by final.Success = endings.Success

abbrev pub values_told : ℕ → FinalStatus → Option Taken → List Entry
values_told node final.Success (Some taken) = map (entry.Store node) (settings taken.carriage.actuator taken.order)
values_told node status taken = []

-- of the last session
abbrev pub end_told : Kept → ℕ → FinalStatus → List Session → List Entry
end_told kept node status [] = []
end_told kept node status (session ∷ []) = entry.Out session.command (ended_by status) ∷ values_told node status (command_of kept.commands session.command)
end_told kept node status (session ∷ next ∷ more) = end_told kept node status (next ∷ more)

-- ---- records

-- the words of a line, and what follows them
abbrev pub IsAfterWords : Line → List Entry → List Entry → Type 0
IsAfterWords line more told = (words : List ℕ) × (line_of (entry.Said words) ≡ line ∷ []) × (told ≡ entry.Said words ∷ more)

-- what a record tells after those that gave this
abbrev pub TellsRecord : Kept → Record → List Entry → Type 0
TellsRecord kept (Accepted command order) told = IsAfterWords (lines.Command order) (entry.Accepted command order.node ∷ []) told
TellsRecord kept (Joined node) told = IsAfterWords (lines.Join node) [] told
TellsRecord kept (Classes node listens classes) told = IsAfterWords (lines.Interview node) (interview_told node listens classes) told
TellsRecord kept (Begun node session command) told = told ≡ entry.Begin node session command ∷ []
TellsRecord kept (Final node session status) told = told ≡ end_told kept node status (node_of kept node).sessions
TellsRecord kept (Cancelled command) told = told ≡ entry.Out command endings.Cancelled ∷ []
TellsRecord kept (Given node given nonce) told = told ≡ []
TellsRecord kept (Spent node) told = told ≡ []
TellsRecord kept (Seen node seen) told = told ≡ []

abbrev pub IsStory : Kept → List Record → List Entry → Type 0
IsStory kept [] story = story ≡ []
IsStory kept (one ∷ more) story = (told rest : List Entry) × TellsRecord kept one told × IsStory (after kept one) more rest × (story ≡ told ++ rest)

-- ---- which records have one

-- a line asks for such an order; the classes have room in a frame, whose body has 252 bytes with the six that stand before them
abbrev pub CanBeTold : Record → Type 0
CanBeTold (Accepted command order) = (words : List ℕ) × (line_of (entry.Said words) ≡ lines.Command order ∷ [])
CanBeTold (Classes node listens classes) = length classes ≤ 246
CanBeTold one = Unit {0}

-- ---- the law

-- the start of a host from these records: after their story and a line `restart`, with the nonces that were kept
pub record StartsOver (texts : List (List ℕ)) (start : Start) (counted : ℕ → ℕ) : Type 0 where
  pub records : List Record
  pub are : AreTextsOf records texts
  pub legal : AreLegal records
  pub story : List Entry
  pub tells : IsStory first_kept records story
  pub words : List ℕ
  pub restart : line_of (entry.Said words) ≡ lines.Restart ∷ []
  pub before : start.before ≡ story ++ entry.Said words ∷ []
  pub books : (node : ℕ) → book_of node start.books ≡ book_kept node (node_of (kept_of records) node)
  pub counts : (node : ℕ) → counted node ≡ (node_of (kept_of records) node).seen

-- a host alone that is legal from a start from these records, and has the nonces that were live
pub record IsLegalOver (key : List ℕ) (texts : List (List ℕ)) (whole : Bool) (heard : List Entry) (told : Option (List (List ℕ))) : Type 0 where
  pub start : Start
  pub counted : ℕ → ℕ
  pub starts : StartsOver texts start counted
  pub alone : IsLegalCounting key counted start whole heard told
  pub live : (node : ℕ) → IfSome (node_of (kept_of starts.records) node).live
      (λ nonce. nonce ≡ nonce_with alone.legal.notes.drawn node (node_of (kept_of starts.records) node).given)
