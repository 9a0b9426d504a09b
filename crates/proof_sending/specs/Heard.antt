-- What a node says in a payload gives the host its reasons (Security 0 Command Class; what is taken in whatever wraps is this project's own rule).
use Rattle.std.specs.Prelude.{◌≡◌, ℕ, List, [], ◌∷◌, length, Ok}
use Rattle.std.specs.List.{AllByRecursion}
use Rattle.serial_frame.specs.declared.frame.Kind.TheVariants.{Request}
use Rattle.serial_frame.specs.declared.item.Item.{Item}
use Rattle.serial_frame.specs.declared.item.Item.TheVariants.{Good}
use Rattle.serial_frame.specs.declared.unit.Unit.TheVariants.{Framed}
use Rattle.s0_crypto.specs.declared.key_pair.Keys.{Keys}
use Rattle.s0_crypto.specs.Opening.{sender_nonce_in}
use Rattle.s0_crypto.specs.Seal.{Seals}
use Rattle.chip_functions.specs.Notice.{notice_of}
use Rattle.chip_functions.specs.declared.notice.Notice.TheVariants.{ApplicationCommandHandler}
use Rattle.host_heard.specs.Telling.{heard_at}
use Rattle.host_heard.specs.declared.payload.Heard.TheVariants.{Messages}
use Rattle.host_heard.specs.declared.told.Told.{Told}
use Rattle.host_heard.specs.declared.told.Told.TheVariants.{NonceGet, NonceReport}
use Rattle.host_model.specs.State.{HostState}
use Rattle.host_model.specs.After.{after}
use Rattle.host_model.specs.May.{May}
use Rattle.host_model.specs.Events.{HostEvent, Line_ticks, Submits_abort, Submits_front, Starts, Gives_text, Gives_segment}
use Rattle.host_model.specs.Taking.{ends_from}
use Rattle.zw_text.specs.declared.entry.Entry.{Entry}
use Rattle.proof_line.specs.proof_host.Facts.{Facts}
use Rattle.proof_sending.specs.Reasons.{Reason, Gave_nonce, Wants_nonce, HasReason, IsReasoned}

-- a message of a node that asks for a nonce, or gives one, is a reason
abbrev pub IsHeardOf : (Reason → Type 0) → ℕ → Told → Type 0
IsHeardOf Holds node NonceGet = Holds (Wants_nonce node)
IsHeardOf Holds node (NonceReport nonce) = Holds (Gave_nonce node nonce)
IsHeardOf Holds node message = Unit {0}

abbrev pub AreHeardOf : (Reason → Type 0) → ℕ → List Told → Type 0
AreHeardOf Holds node messages = AllByRecursion (IsHeardOf Holds node) messages

-- so for what a payload tells, and for what it opens to with these keys under a nonce of eight bytes
pub record PayloadTells (Holds : Reason → Type 0) (keys : Keys) (node : ℕ) (payload : List ℕ) : Type 0 where
  pub plainly : (messages : List Told) → heard_at payload ≡ Messages messages → AreHeardOf Holds node messages
  pub sealed : (nonce plain : List ℕ) (messages : List Told) → length nonce ≡ 8 → Seals keys (sender_nonce_in payload) nonce (ends_from node) plain payload
      → heard_at plain ≡ Messages messages → AreHeardOf Holds node messages

-- so where an item that is judged brings a payload: a request of the chip
abbrev pub ItemTells : (Reason → Type 0) → Keys → Item → Type 0
ItemTells Holds keys (Good (Framed f)) =
    f.kind ≡ Request → (status source : ℕ) (payload : List ℕ) → notice_of f.func f.body ≡ Ok (ApplicationCommandHandler status source payload)
    → PayloadTells Holds keys source payload
ItemTells Holds keys item = Unit {0}

-- an event at which the host writes no frame of its own
abbrev pub WritesNoFrame : HostEvent → Type 0
WritesNoFrame Line_ticks = ⊥
WritesNoFrame Submits_abort = ⊥
WritesNoFrame Submits_front = ⊥
WritesNoFrame (Starts node plan more payload) = ⊥
WritesNoFrame (Gives_text node payload) = ⊥
WritesNoFrame (Gives_segment node more payload) = ⊥
WritesNoFrame event = Unit {0}

-- such events one after another, each of which has its reason
abbrev pub HaveReasons : (Reason → Type 0) → Keys → HostState → List HostEvent → Type 0
HaveReasons Holds keys h [] = Unit {0}
HaveReasons Holds keys h (event ∷ events) = (HasReason Holds keys h event × WritesNoFrame event) × HaveReasons Holds keys (after h event) events

-- the host keeps to some transcript, and all that it has to send is due
abbrev pub IsGrounded : (Reason → Type 0) → Keys → HostState → Type 0
IsGrounded Holds keys h = ((past : List Entry) × Facts past h) × IsReasoned Holds keys h

-- each of these events has its reason where it comes
abbrev pub GiveReasons : (Reason → Type 0) → Keys → HostState → List HostEvent → Type 0
GiveReasons Holds keys h [] = Unit {0}
GiveReasons Holds keys h (event ∷ events) =
    IsGrounded Holds keys h → May h event → (HasReason Holds keys h event × WritesNoFrame event) × GiveReasons Holds keys (after h event) events
