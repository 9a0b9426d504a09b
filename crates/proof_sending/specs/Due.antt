-- What a host asks its chip to send is due by the transcript, for reasons that hold (this project's own rule over the laws of payloads).
use Rattle.std.specs.Prelude.{◌≡◌, ◌⊎◌, ℕ, List, [], ◌∷◌, length, Some}
use Rattle.std.specs.List.{AllByRecursion}
use Rattle.serial_frame.specs.Items.{unit_text}
use Rattle.supervision.specs.Host.{command_at}
use Rattle.s0_crypto.specs.Sealing.{keys_of}
use Rattle.host_requests.specs.declared.task.Task.TheVariants.{Plain, Offer, Segment, NoMore}
use Rattle.host_requests.specs.declared.task.Purpose.{Purpose}
use Rattle.host_requests.specs.declared.task.Purpose.TheVariants.{Housekeeping, Attempt}
use Rattle.host_heard.specs.declared.told.Told.TheVariants.{NonceGet, NonceReport}
use Rattle.host_keep.specs.Kept.{Taken}
use Rattle.host_model.specs.State.{Command}
use Rattle.host_model.specs.declared.out.HostOut.{HostOut}
use Rattle.host_model.specs.declared.out.HostOut.TheVariants.{Write, Note}
use Rattle.host_orders.specs.Wrapping.{carriage_of}
use Rattle.zw_text.specs.declared.entry.Entry.{Entry}
use Rattle.zw_text.specs.Transcript.{accepted, sessions}
use Rattle.proof_air.specs.law_transcript.Lists.{listed}
use Rattle.proof_air.specs.law_transcript.Commands.{classes_for, message_for, order_of}
use Rattle.proof_air.specs.law_transcript.Payloads.{form_by, nonce_get, nonce_report, no_more_information, IsAskedFor, IsDue, IsToldBy}
use Rattle.proof_air.specs.law_transcript.Units.{Carried, sending_in}
use Rattle.proof_line.specs.proof_host.Tables.{taken_at}
use Rattle.proof_sending.specs.Reasons.{Reason, Asked_for, Wants_nonce, Gave_nonce, IsCarriedBy}

-- what a purpose asks to be sent
abbrev pub sends : Purpose → List Carried
sends (Housekeeping (Plain node payload)) = record { node = node; payload = payload } ∷ []
sends (Housekeeping (Offer node nonce)) = record { node = node; payload = nonce_report nonce } ∷ []
sends (Housekeeping (Segment node payload)) = record { node = node; payload = payload } ∷ []
sends (Housekeeping (NoMore node)) = record { node = node; payload = no_more_information } ∷ []
sends (Attempt node more payload) = record { node = node; payload = payload } ∷ []
sends _ = []

-- the payload is of this session of its node, with this command
abbrev pub IsOfCommandsBy : (Reason → Type 0) → (List Entry → ℕ → List ℕ) → List ℕ → List Entry → Carried → ℕ → List ℕ → Type 0
IsOfCommandsBy Holds listing key past carried session [] = ⊥
IsOfCommandsBy Holds listing key past carried session (number ∷ more) =
    IsCarriedBy Holds (keys_of key) carried.node session
    (form_by (classes_for listing past carried.node number) (order_of number (accepted carried.node past)))
    (message_for listing past carried.node session number) carried.payload

abbrev pub IsOfSessionBy : (Reason → Type 0) → (List Entry → ℕ → List ℕ) → List ℕ → List Entry → Carried → ℕ → Type 0
IsOfSessionBy Holds listing key past carried session = IsOfCommandsBy Holds listing key past carried session (listed (command_at (sessions carried.node past) session))

-- the payload is a Nonce Report that the node wants
pub record IsReportBy (Holds : Reason → Type 0) (carried : Carried) : Type 0 where
  pub nonce : List ℕ
  pub eight : length nonce ≡ 8
  pub asked : Holds (Wants_nonce carried.node)
  pub text : carried.payload ≡ nonce_report nonce

-- what may be sent after this past
abbrev pub IsDueBy : (Reason → Type 0) → (List Entry → ℕ → List ℕ) → List ℕ → List Entry → Carried → Type 0
IsDueBy Holds listing key past carried =
    IsOfSessionBy Holds listing key past carried (length (sessions carried.node past))
    ⊎ ((carried.payload ≡ nonce_get)
    ⊎ (IsReportBy Holds carried ⊎ ((carried.payload ≡ no_more_information) ⊎ Holds (Asked_for carried.node carried.payload))))

-- ---- by the transcript alone

-- the transcript shows what was said
abbrev pub IsShown : (List Entry → ℕ → List ℕ) → List ℕ → List Entry → Reason → Type 0
IsShown listing key past (Asked_for node payload) = IsAskedFor listing past (record { node = node; payload = payload })
IsShown listing key past (Wants_nonce node) = IsToldBy key past node NonceGet
IsShown listing key past (Gave_nonce node nonce) = IsToldBy key past node (NonceReport nonce)

-- the order of each session of a node is the one that the transcript shows, and is carried as the classes ask that were known as it was accepted
abbrev pub AreCarried : (List Entry → ℕ → List ℕ) → List Entry → List Command → Type 0
AreCarried listing past commands =
    (node session number : ℕ) (taken : Taken) → command_at (sessions node past) session ≡ Some number → taken_at commands number ≡ Some taken
    → (order_of number (accepted node past) ≡ Some taken.order) × (taken.carriage ≡ carriage_of (classes_for listing past node number) taken.order)

-- each payload that these units ask to be sent is due
abbrev pub WritesWhatIsDue : (List Entry → ℕ → List ℕ) → List ℕ → List Entry → List HostOut → Type 0
WritesWhatIsDue listing key past [] = Unit {0}
WritesWhatIsDue listing key past (Write unit ∷ puts) = AllByRecursion (IsDue listing key past) (sending_in (unit_text unit)) × WritesWhatIsDue listing key past puts
WritesWhatIsDue listing key past (Note note ∷ puts) = WritesWhatIsDue listing key past puts
