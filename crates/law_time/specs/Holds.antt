-- When the host keeps a node awake (Supervision Command Class, version 2: Wake Up Request; that the hold follows the stored values
-- is this project's own rule).
use Rattle.std.specs.Prelude.{ℕ, ◌+◌, ◌%◌, ◌==◌, ◌&&◌, ◌||◌, not, Bool, true, false, if◌then◌else◌, List, [], ◌∷◌, ◌++◌, length}
use Rattle.std.specs.List.{flat_map, list_all, list_any}
use Rattle.class_info.specs.declared.report_status.ReportStatus.{ReportStatus}
use Rattle.class_info.specs.declared.report_status.ReportStatus.TheVariants.{Working}
use Rattle.host_heard.specs.declared.told.Told.{Told}
use Rattle.host_heard.specs.declared.told.Told.TheVariants.{Report}
use Rattle.host_heard.specs.declared.payload.Heard.{Heard}
use Rattle.host_heard.specs.declared.payload.Heard.TheVariants.{Messages, Sealed, Unread}
use Rattle.host_heard.specs.Telling.{heard_at}
use Rattle.zw_text.specs.declared.entry.Ended.TheVariants.{Success, Fail, NoSupport, Unanswered}
use Rattle.zw_text.specs.declared.entry.Entry.{Entry}
use Rattle.zw_text.specs.declared.entry.Entry.TheVariants.{Said, Out, Store, Held, Asleep}
use Rattle.zw_text.specs.Transcript.{folded, sessions}
use Rattle.law_time.specs.Moments.{Keeps, clock}
use Rattle.law_time.specs.Judged.{last_of, brought_here, payloads_here}
use Rattle.law_time.specs.Requests.{starts_anew}
use Rattle.law_time.specs.Interviews.{listens}
use Rattle.law_time.specs.Sessions.{is_last_command}

-- the command that has just ended by a report: only the values that it confirms may stand after that
abbrev pub final_step : List ℕ → Entry → List ℕ
final_step commands (Out command Success) = command ∷ []
final_step commands (Out command Fail) = command ∷ []
final_step commands (Out command NoSupport) = command ∷ []
final_step commands (Store node setting) = commands
final_step commands _ = []

abbrev pub just_ended : List Entry → List ℕ
just_ended past = folded final_step [] past

-- whether it is that of the last session of a node
abbrev pub is_of : ℕ → List Entry → Bool
is_of node past = list_any (λ command. list_any (λ carried. carried == command) (last_of (sessions node past))) (just_ended past)

-- a report of any other status is final
abbrev pub ends_session : ReportStatus → Bool
ends_session Working = false
ends_session _ = true

-- what a report of that session that is final asks: whether to be kept awake
abbrev pub stays_by : ℕ → Told → List Bool
stays_by id (Report session status wake_request) = if (session == id) && ends_session status then wake_request ∷ [] else []
stays_by id _ = []

-- whether each of them asks to be kept awake, and whether one does: one of them ends the session, the first but for those that were not kept
abbrev pub tells_to_stay : ℕ → Heard → Bool
tells_to_stay id (Messages messages) = list_any (λ asks. asks) (flat_map (stays_by id) messages) && list_all (λ asks. asks) (flat_map (stays_by id) messages)
tells_to_stay id _ = false

-- what is sealed may
abbrev pub may_tell_to_stay : ℕ → Heard → Bool
may_tell_to_stay id (Messages messages) = list_any (λ asks. asks) (flat_map (stays_by id) messages)
may_tell_to_stay id Sealed = true
may_tell_to_stay id Unread = false

-- whether a node that does not listen asks here to be kept awake, by the report that ends its session, as such a test of its payload says
abbrev pub stays_here : (ℕ → Heard → Bool) → ℕ → List Entry → Bool
stays_here tells node past =
    is_of node past && not (listens node past) && list_any (λ payload. tells (length (sessions node past) % 64) (heard_at payload)) (payloads_here node past)

-- whether a node whose payload was judged here does
abbrev pub owes_hold : List Entry → Bool
owes_hold past = list_any (λ carried. stays_here tells_to_stay carried.node past) (brought_here past)

-- whether the entry is a value that is confirmed
abbrev pub is_store : Entry → Bool
is_store (Store node setting) = true
is_store _ = false

-- a node is held where it may ask so, and wherever it does, after the values that its command confirms
abbrev pub may_hold : List Entry → Entry → Bool
may_hold past (Held node) = stays_here may_tell_to_stay node past
may_hold past entry = is_store entry || not (owes_hold past)

abbrev pub HoldsAsAsked : List Entry → Type 0
HoldsAsAsked transcript = Keeps may_hold transcript

-- ---- how long

-- until when a node is held: 100 ticks, and no longer than it counts as awake, than its command, where it does not listen, goes unanswered, or than the host that holds
-- it runs. One that counts as asleep may be held: it then is no longer where its third attempt has ended, which no `asleep` says.
abbrev pub hold_step : ℕ → List Entry → ℕ → Entry → List Entry → ℕ
hold_step node past until (Held of) rest = if of == node then clock past + 100 else until
hold_step node past until (Asleep of) rest = if of == node then 0 else until
hold_step node past until (Out command Unanswered) rest = if is_last_command node past command && not (listens node past) then 0 else until
hold_step node past until (Said words) rest = if starts_anew (Said words) rest then 0 else until
hold_step node past until entry rest = until

abbrev pub hold_from : ℕ → List Entry → ℕ → List Entry → ℕ
hold_from node past until [] = until
hold_from node past until (entry ∷ rest) = hold_from node (past ++ entry ∷ []) (hold_step node past until entry rest) rest

abbrev pub held_until : ℕ → List Entry → ℕ
held_until node past = hold_from node [] 0 past
