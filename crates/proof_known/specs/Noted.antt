-- What the host notes of messages was told (Supervision and Security 0 Command Classes, and the reports of the Application Command Classes): each such note stands where a payload of
-- its node was judged that tells it, or that is sealed and opens to a text that does.
use Rattle.std.specs.Prelude.{◌≡◌, [], not, nat_le, ◌∷◌, ℕ, ◌%◌, ◌==◌, ◌&&◌, bytes_eq, Bool, true, false, List, length, ⊤}
use Rattle.std.specs.List.{AllByRecursion, list_any}
use Rattle.zw_base.specs.PropertyOrder.{same_property}
use Rattle.zw_base.specs.declared.property.Property.{Property}
use Rattle.zw_base.specs.declared.property.Setting.{Setting}
use Rattle.s0_crypto.specs.declared.key_pair.Keys.{Keys}
use Rattle.s0_crypto.specs.Opening.{sender_nonce_in}
use Rattle.s0_crypto.specs.Seal.{Seals}
use Rattle.class_info.specs.declared.report_status.ReportStatus.{ReportStatus}
use Rattle.class_info.specs.declared.report_status.ReportStatus.TheVariants as statuses
use Rattle.host_heard.specs.Telling.{heard_at}
use Rattle.host_heard.specs.declared.payload.Heard.{Heard}
use Rattle.host_heard.specs.declared.payload.Heard.TheVariants.{Messages, Sealed}
use Rattle.host_heard.specs.declared.told.Told.{Told}
use Rattle.host_heard.specs.declared.told.Told.TheVariants as told
use Rattle.zw_text.specs.declared.entry.Ended.{Ended}
use Rattle.zw_text.specs.declared.entry.Ended.TheVariants as endings
use Rattle.zw_text.specs.declared.entry.Entry.{Entry}
use Rattle.zw_text.specs.declared.entry.Entry.TheVariants.{Out, Report, Unstored, Old, Unread}
use Rattle.zw_text.specs.Transcript.{sessions}
use Rattle.proof_transcript.specs.law_transcript.Lists.{EachAfter}
use Rattle.proof_transcript.specs.law_transcript.Payloads.{messages_of}
use Rattle.proof_transcript.specs.law_transcript.Units.{Carried}
use Rattle.proof_transcript.specs.law_time.Judged.{brought_here, may_be_told, may_tell, payloads_here}
use Rattle.proof_transcript.specs.law_time.Moments.{Keeps}
use Rattle.proof_transcript.specs.law_time.Sessions.{is_last_command}
use Rattle.proof_transcript.specs.law_host.Following.{same_setting}
use Rattle.proof_transcript.specs.law_host.Heard.{listing_heard}
use Rattle.proof_transcript.specs.law_transcript.Answers.{properties_kept}
use Rattle.proof_transcript.specs.law_transcript.Nodes.{controller, host_list}
use Rattle.host_orders.specs.Classes.{lists}
use Rattle.std.specs.Set.{distinct_count}

-- ---- messages

-- a report of a session with this id
abbrev pub tells_report : ℕ → Told → Bool
tells_report id (told.Report number status wake_request) = number == id
tells_report id message = false

-- by which a command ends so
abbrev pub ends_so : Ended → ReportStatus → Bool
ends_so endings.Success statuses.Success = true
ends_so endings.Fail statuses.Fail = true
ends_so endings.NoSupport statuses.NoSupport = true
ends_so ended status = false

abbrev pub tells_end : ℕ → Ended → Told → Bool
tells_end id ended (told.Report number status wake_request) = (number == id) && ends_so ended status
tells_end id ended message = false

-- a value, and one of a property
abbrev pub tells_value : Setting → Told → Bool
tells_value setting (told.Values settings) = list_any (λ one. same_setting setting one) settings
tells_value setting message = false

abbrev pub tells_property : Property → Told → Bool
tells_property property (told.Values settings) = list_any (λ one. same_property property one.property) settings
tells_property property message = false

-- ---- notes

-- what a node that lists Security 0 reports openly counts for nothing
abbrev pub may_count : List Entry → ℕ → (Told → Bool) → Heard → Bool
may_count past node such (Messages messages) = not (lists (host_list listing_heard past node) 0x98) && list_any such messages
may_count past node such heard = may_tell such heard

-- there is room for a property of a node: with it there are at most 512
abbrev pub has_room : List Entry → ℕ → Property → Bool
has_room past node property = nat_le (distinct_count same_property (property ∷ properties_kept listing_heard past node)) 512

-- the command is that of the last session of the node, which a report with its id ends so
abbrev pub is_ended_by : List Entry → ℕ → Ended → Carried → Bool
is_ended_by past command ended carried =
    is_last_command carried.node past command && may_count past carried.node (tells_end (length (sessions carried.node past) % 64) ended) (heard_at carried.payload)

abbrev pub may_end : List Entry → ℕ → Ended → Bool
may_end past command ended = list_any (is_ended_by past command ended) (brought_here past)

-- a final outcome, a value, an old report and a payload that cannot be read stand where they were told
abbrev pub may_note : List Entry → Entry → Bool
may_note past (Out command endings.Success) = may_end past command endings.Success
may_note past (Out command endings.Fail) = may_end past command endings.Fail
may_note past (Out command endings.NoSupport) = may_end past command endings.NoSupport
may_note past (Report node setting) = may_be_told (tells_value setting) node past && has_room past node setting.property
may_note past (Unstored node property) = may_be_told (tells_property property) node past && not (has_room past node property)
may_note past (Old node id) = list_any (λ payload. may_count past node (tells_report id) (heard_at payload)) (payloads_here node past)
may_note past (Unread node payload) = list_any (λ text. bytes_eq text payload) (payloads_here node past)
may_note past entry = true

abbrev pub NotesWhatWasTold : List Entry → Type 0
NotesWhatWasTold transcript = Keeps may_note transcript

-- ---- what is sealed

-- the node sealed it for the host with these keys, and it opens to a plain text that tells such a message
pub record IsOpenedTo (keys : Keys) (node : ℕ) (payload : List ℕ) (such : Told → Bool) : Type 0 where
  pub nonce : List ℕ
  pub plain : List ℕ
  pub seals : Seals keys (sender_nonce_in payload) nonce (record { sender = node; receiver = controller }) plain payload
  pub tells : list_any such (messages_of (heard_at plain)) ≡ true

-- where it is sealed
abbrev pub IsOpenedIf : Keys → (Told → Bool) → Carried → Heard → Type 0
IsOpenedIf keys such carried Sealed = IsOpenedTo keys carried.node carried.payload such
IsOpenedIf keys such carried heard = ⊤

abbrev pub OpensHere : Keys → (Carried → Told → Bool) → List Entry → Type 0
OpensHere keys such past = AllByRecursion (λ carried. IsOpenedIf keys (such carried) carried (heard_at carried.payload)) (brought_here past)

abbrev pub OpensToEnd : Keys → Ended → List Entry → Type 0
OpensToEnd keys ended past = OpensHere keys (λ carried. tells_end (length (sessions carried.node past) % 64) ended) past

-- a final outcome, a value and an old report of what is sealed are told in what it opens to
abbrev pub MayOpen : Keys → List Entry → Entry → Type 0
MayOpen keys past (Out command endings.Success) = OpensToEnd keys endings.Success past
MayOpen keys past (Out command endings.Fail) = OpensToEnd keys endings.Fail past
MayOpen keys past (Out command endings.NoSupport) = OpensToEnd keys endings.NoSupport past
MayOpen keys past (Report node setting) = OpensHere keys (λ carried. tells_value setting) past
MayOpen keys past (Unstored node property) = OpensHere keys (λ carried. tells_property property) past
MayOpen keys past (Old node id) = OpensHere keys (λ carried. tells_report id) past
MayOpen keys past entry = ⊤

abbrev pub NotesWhatOpens : Keys → List Entry → Type 0
NotesWhatOpens keys transcript = EachAfter (MayOpen keys) [] transcript
