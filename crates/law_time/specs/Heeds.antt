-- What a host goes by that its entries alone do not tell (this project's own rule): what each node listed, by which messages of a payload requests
-- and attempts go, and how many nonces of each node it had counted before.
use Rattle.std.specs.Prelude.{ℕ, ◌==◌, ◌&&◌, not, Bool, true, false, if◌then◌else◌, List, [], ◌∷◌, filter}
use Rattle.std.specs.List.{flat_map}
use Rattle.class_info.specs.declared.report_status.ReportStatus.TheVariants.{Working}
use Rattle.law_wire.specs.device_stack.State.{State}
use Rattle.host_heard.specs.Telling.{heard_at}
use Rattle.host_heard.specs.declared.told.Told.{Told}
use Rattle.host_heard.specs.declared.told.Told.TheVariants.{Report, NonceGet, NonceReport}
use Rattle.zw_text.specs.declared.entry.Entry.{Entry}
use Rattle.zw_text.specs.declared.entry.Entry.TheVariants.{Unkept}
use Rattle.law_wire.specs.law_transcript.Nodes.{always, listing_of}
use Rattle.law_wire.specs.law_transcript.Payloads.{messages_of}
use Rattle.law_wire.specs.law_transcript.Units.{Carried}
use Rattle.law_time.specs.Judged.{brought_here, is_mark}

-- what the nodes list by the entries so far; the messages of a payload by which it goes, up to the acknowledgement and by what stands after it; and how
-- many nonces of a node it had counted before all that stands
pub record Heeds : Type 0 where
  pub listing : List Entry → ℕ → List ℕ
  pub taken : List Entry → List Entry → Carried → List Told
  pub counted : ℕ → ℕ

-- those of a node in what was judged here
abbrev pub taken_here : Heeds → ℕ → List Entry → List Entry → List Told
taken_here heeds node past rest =
    flat_map (λ carried. if carried.node == node then heeds.taken past rest carried else []) (brought_here past)

-- ---- a host among devices

-- whether a message asks for a record: a final report, and a nonce that is asked for or given
abbrev pub asks_record : Told → Bool
asks_record (Report session Working wake_request) = false
asks_record (Report session status wake_request) = true
asks_record NonceGet = true
asks_record (NonceReport nonce) = true
asks_record _ = false

-- whether a record of a node is said here not to be kept
abbrev pub is_unkept_next : ℕ → List Entry → Bool
is_unkept_next node [] = false
is_unkept_next node (Unkept of ∷ rest) = of == node
is_unkept_next node (entry ∷ rest) = is_mark entry && is_unkept_next node rest

-- it goes by what is told as it came, but for what asks for a record that is not kept: of a device's messages one does at most, and a device
-- seals nothing but its reports, which ask for nothing
abbrev pub taken_plainly : List Entry → List Entry → Carried → List Told
taken_plainly past rest carried =
    if is_unkept_next carried.node rest then filter (λ message. not (asks_record message)) (messages_of (heard_at carried.payload))
    else messages_of (heard_at carried.payload)

-- each node lists what its device does, and no nonce was counted before
abbrev pub heeds_of : List State → Heeds
heeds_of devices = record { listing = always (listing_of devices); taken = taken_plainly; counted = λ node. 0 }
