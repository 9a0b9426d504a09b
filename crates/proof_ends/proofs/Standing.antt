-- Entries beside the notes of ends: how a transcript is read on after them, and which events of a host leave no others.
use Rattle.std.proofs.Common.{◌≡◌, ◌&&◌, ◌||◌, not, ℕ, Bool, true, false, List, [], ◌∷◌, ◌++◌, refl, sym, ap, ◌∙◌, subst, append-nil, append_assoc}
use Rattle.std.specs.List.{AllByRecursion}
use Rattle.std.proofs.lemmas.Bool.{and_from, and_left, or_right}
use Rattle.zw_words.specs.declared.side.Side.TheVariants.{Host, Chip}
use Rattle.zw_text.specs.declared.entry.Entry.{Entry}
use Rattle.zw_text.specs.declared.entry.Entry.TheVariants as entry
use Rattle.zw_text.proofs.Views.{folded-append}
use Rattle.law_time.specs.Judged.{directly_step, is_directly_after, is_mark}
use Rattle.law_time.specs.Ends.{is_ending_here}
use Rattle.law_time.specs.Requests.{asked, is_new, request_last}
use Rattle.host_keep.specs.declared.final_status.FinalStatus.{FinalStatus}
use Rattle.host_keep.specs.declared.final_status.FinalStatus.TheVariants as final
use Rattle.host_model.specs.State.{HostState}
use Rattle.host_model.specs.Events.{HostEvent, Accepts, Cancels, Queues, Hears, Requests_do, Interviews, Interview_unkept, Unreads, Is_unkept, Reports_old, Finishes, Offers, Gives, Spends_unread, Notifies, Resends, Hears_value, Has_no_room, Line_ticks, Node_ticks, Drops_no_more, Submits_abort, Submits_front, Starts as starts_attempt, Gives_text, Gives_segment, Begins, Begin_unkept}
use Rattle.host_model.specs.Outs.{answers, ended_of, outs}
use Rattle.proof_rests.specs.proof_requests.Ends.{TellsNoEnd}
use Rattle.proof_rests.specs.proof_requests.proof_alone.Steps.{AreTold, DidNotCome, IsOfOthers, IsOfUnit}
use Rattle.proof_rests.proofs.Doing.{IsBeside as LeavesRequest}
use Rattle.proof_rests.specs.proof_attempts.Since.{IsOfItem}
use Rattle.proof_rests.proofs.proof_device_HostOuts.{MayPut, outs_put}
use Rattle.proof_rests.proofs.proof_waking_Parts.{NotesAlone, alone_writes, notes_told, writes_nothing}
use Rattle.proof_rests.proofs.Requested.{Unsubmitted}
use Rattle.proof_ends.specs.Ends.{Reads, is_late, is_of_end, is_turn, may_stand, owes_end, owes_none, tells_end}
use Rattle.proof_ends.specs.Ends.Reads.{Stands}

-- ---- entries

-- whatever stands before, it is no note of an end, begins no request or life of the host, and no line or tick; and what stands after it is not directly after an acknowledgement
abbrev pub IsAside : Entry → Type 0
IsAside e = (is_of_end e ≡ false) × ((past : List Entry) → is_turn past e ≡ false) × ((past : List Entry) → is_late past e ≡ false) × ((b : Bool) → directly_step b e ≡ false)

pub none_owed : (over : Bool) (past : List Entry) (e : Entry) → (over || not (is_late past e)) ≡ true → owes_end past ≡ false → owes_none over past e ≡ true
none_owed over past e waits owes = and_from (over || not (is_late past e)) (is_mark e || not (owes_end past)) waits (or_right (is_mark e) (not (owes_end past)) (ap not owes))

pub may_by : (over : Bool) (past : List Entry) (e : Entry) → is_of_end e ≡ false → is_turn past e ≡ false → owes_none over past e ≡ true → may_stand over past e ≡ true
may_by over past e none goes owes = and_from (not (is_of_end e) && not (is_turn past e)) (owes_none over past e) (and_from (not (is_of_end e)) (not (is_turn past e)) (ap not none) (ap not goes)) owes

aside_may : (over : Bool) (past : List Entry) (e : Entry) → IsAside e → owes_end past ≡ false → may_stand over past e ≡ true
aside_may over past e (none, goes, late, breaks) owes = may_by over past e none (goes past) (none_owed over past e (or_right over (not (is_late past e)) (ap not (late past))) owes)

pub broken : (past : List Entry) (e : Entry) → ((b : Bool) → directly_step b e ≡ false) → owes_end (past ++ e ∷ []) ≡ false
broken past e breaks =
    let later : List Entry = past ++ e ∷ [] in
    and_left (is_directly_after later && is_ending_here later) (tells_end (request_last later))
    (and_left (is_directly_after later) (is_ending_here later) (folded-append directly_step false past (e ∷ []) ∙ breaks (is_directly_after past)))

pub nothing_read : (over : Bool) (past told : List Entry) → told ≡ [] → Reads over past → Reads over (past ++ told)
nothing_read over past told none reads = subst (λ (l : List Entry). Reads over (past ++ l)) (sym none) (subst (Reads over) (sym (append-nil past)) reads)

pub aside_read : (over : Bool) (past told : List Entry) → AllByRecursion IsAside told → owes_end past ≡ false → Reads over past → Reads over (past ++ told)
aside_read over past [] all owes reads = nothing_read over past [] refl reads
aside_read over past (e ∷ told) all owes reads =
    subst (Reads over) (append_assoc past (e ∷ []) told)
    (aside_read over (past ++ e ∷ []) told all.1 (broken past e all.0.3) (Stands e refl (aside_may over past e all.0 owes) reads))

mark_may : (over : Bool) (past : List Entry) (e : Entry) → IsOfUnit e → may_stand over past e ≡ true
mark_may over past (entry.Dropped Host) mark = may_by over past (entry.Dropped Host) refl refl (and_from (over || true) true (or_right over true refl) refl)
mark_may over past (entry.Garbled Host unit) mark = may_by over past (entry.Garbled Host unit) refl refl (and_from (over || true) true (or_right over true refl) refl)
mark_may over past (entry.Overrun Host) mark = may_by over past (entry.Overrun Host) refl refl (and_from (over || true) true (or_right over true refl) refl)
mark_may over past e mark = absurd mark

pub marks_read : (over : Bool) (past marks : List Entry) → AllByRecursion IsOfUnit marks → Reads over past → Reads over (past ++ marks)
marks_read over past [] all reads = nothing_read over past [] refl reads
marks_read over past (e ∷ marks) all reads =
    subst (Reads over) (append_assoc past (e ∷ []) marks) (marks_read over (past ++ e ∷ []) marks all.1 (Stands e refl (mark_may over past e all.0) reads))

-- ---- of others, and what became of units

pub others_aside : (e : Entry) → IsOfOthers e → IsAside e
others_aside (entry.Air frame sender receiver repeaters payload) others = (refl, λ past. refl, λ past. refl, λ b. refl)
others_aside (entry.Heard frame) others = (refl, λ past. refl, λ past. refl, λ b. refl)
others_aside (entry.Lost frame) others = (refl, λ past. refl, λ past. refl, λ b. refl)
others_aside (entry.Unheard frame) others = (refl, λ past. refl, λ past. refl, λ b. refl)
others_aside (entry.Dev node by setting) others = (refl, λ past. refl, λ past. refl, λ b. refl)
others_aside (entry.Device node setting) others = (refl, λ past. refl, λ past. refl, λ b. refl)
others_aside (entry.Forget first second) others = (refl, λ past. refl, λ past. refl, λ b. refl)
others_aside entry.ChipFull others = (refl, λ past. refl, λ past. refl, λ b. refl)
others_aside (entry.Cleared side count) others = (refl, λ past. refl, λ past. refl, λ b. refl)
others_aside e others = absurd others

pub missed_aside : (text : List ℕ) (marks : List Entry) → DidNotCome marks → AllByRecursion IsAside (entry.Written Chip text ∷ marks)
missed_aside text (entry.Dropped Chip ∷ []) did = ((refl, λ past. refl, λ past. refl, λ b. refl), ((refl, λ past. refl, λ past. refl, λ b. refl), tt))
missed_aside text (entry.Overrun Chip ∷ []) did = ((refl, λ past. refl, λ past. refl, λ b. refl), ((refl, λ past. refl, λ past. refl, λ b. refl), tt))
missed_aside text (entry.Garbled Chip unit ∷ []) did = ((refl, λ past. refl, λ past. refl, λ b. refl), ((refl, λ past. refl, λ past. refl, λ b. refl), tt))
missed_aside text (entry.Garbled Chip unit ∷ entry.Overrun Chip ∷ []) did =
    ((refl, λ past. refl, λ past. refl, λ b. refl), ((refl, λ past. refl, λ past. refl, λ b. refl), ((refl, λ past. refl, λ past. refl, λ b. refl), tt)))
missed_aside text marks did = absurd did

-- a unit of the host that is no new request, and what became of it
pub unit_read : (over : Bool) (past told marks rest : List Entry) (unit : List ℕ) → is_new (asked past) unit ≡ false → told ≡ entry.Written Host unit ∷ (marks ++ rest) → AllByRecursion IsOfUnit marks
    → rest ≡ [] → owes_end past ≡ false → Reads over past → Reads over (past ++ told)
unit_read over past told marks rest unit old is all none owes reads =
    let e : Entry = entry.Written Host unit in
    let are : told ≡ e ∷ marks = is ∙ ap (λ (l : List Entry). e ∷ (marks ++ l)) none ∙ ap (λ (l : List Entry). e ∷ l) (append-nil marks) in
    let one : Reads over (past ++ e ∷ []) = Stands e refl (may_by over past e refl old (none_owed over past e (or_right over true refl) owes)) reads in
    subst (λ (l : List Entry). Reads over (past ++ l)) (sym are) (subst (Reads over) (append_assoc past (e ∷ []) marks) (marks_read over (past ++ e ∷ []) marks all one))

-- ---- events that note no end

-- and end no attempt, and submit nothing
abbrev pub NotesNoEnd : HostEvent → Type 0
NotesNoEnd (Interviews n listens classes update) = ⊥
NotesNoEnd (Interview_unkept n update) = ⊥
NotesNoEnd event = NotesAlone event

notes_alone : (event : HostEvent) → NotesNoEnd event → NotesAlone event
notes_alone (Interviews n listens classes update) none = absurd none
notes_alone (Interview_unkept n update) none = absurd none
notes_alone event none = none

out_aside : (command : ℕ) (status : FinalStatus) → IsAside (entry.Out command (ended_of status))
out_aside command final.NoSupport = (refl, λ past. refl, λ past. refl, λ b. refl)
out_aside command final.Fail = (refl, λ past. refl, λ past. refl, λ b. refl)
out_aside command final.Success = (refl, λ past. refl, λ past. refl, λ b. refl)

aside_put : (event : HostEvent) → NotesNoEnd event → MayPut IsAside event
aside_put (Requests_do event moment) none = absurd none
aside_put (Interviews n listens classes update) none = absurd none
aside_put (Interview_unkept n update) none = absurd none
aside_put Line_ticks none = absurd none
aside_put (Node_ticks n) none = absurd none
aside_put (Finishes n session id command status wake) none = (out_aside command status, (λ setting. (refl, λ past. refl, λ past. refl, λ b. refl)), (refl, λ past. refl, λ past. refl, λ b. refl))
aside_put (Unreads n payload) none = (refl, λ past. refl, λ past. refl, λ b. refl)
aside_put (Is_unkept n) none = (refl, λ past. refl, λ past. refl, λ b. refl)
aside_put (Reports_old n id) none = (refl, λ past. refl, λ past. refl, λ b. refl)
aside_put (Offers n) none = (refl, λ past. refl, λ past. refl, λ b. refl)
aside_put (Gives n drawn) none = (refl, λ past. refl, λ past. refl, λ b. refl)
aside_put (Spends_unread n payload) none = (refl, λ past. refl, λ past. refl, λ b. refl)
aside_put (Notifies n) none = (refl, λ past. refl, λ past. refl, λ b. refl)
aside_put (Resends n payload) none = (refl, λ past. refl, λ past. refl, λ b. refl)
aside_put (Hears_value n setting) none = (refl, λ past. refl, λ past. refl, λ b. refl)
aside_put (Has_no_room n property) none = (refl, λ past. refl, λ past. refl, λ b. refl)
aside_put (Drops_no_more n) none = (refl, λ past. refl, λ past. refl, λ b. refl)
aside_put (Begins n session command) none = (refl, λ past. refl, λ past. refl, λ b. refl)
aside_put (Begin_unkept n) none = (refl, λ past. refl, λ past. refl, λ b. refl)
aside_put event none = tt

pub event_aside : (h : HostState) (event : HostEvent) (told : List Entry) → NotesNoEnd event → AreTold (outs h event) told → AllByRecursion IsAside told
event_aside h event told none are =
    notes_told IsAside (outs h event) told (writes_nothing h event (alone_writes event (notes_alone event none))) (outs_put IsAside h event (aside_put event none)) are

-- behind an item such an event leaves the request
pub behind_leaves : (event : HostEvent) → TellsNoEnd event → IsOfItem event → Unsubmitted event → LeavesRequest event × NotesNoEnd event
behind_leaves (Hears item) none of un = absurd none
behind_leaves (Requests_do event moment) none of un = absurd none
behind_leaves (Interviews n listens classes update) none of un = absurd none
behind_leaves (Interview_unkept n update) none of un = absurd none
behind_leaves Line_ticks none of un = absurd none
behind_leaves (Queues task) none of un = absurd of
behind_leaves (Node_ticks n) none of un = absurd of
behind_leaves Submits_abort none of un = absurd un
behind_leaves Submits_front none of un = absurd un
behind_leaves (starts_attempt n plan more payload) none of un = absurd un
behind_leaves (Gives_text n payload) none of un = absurd un
behind_leaves (Gives_segment n more payload) none of un = absurd un
behind_leaves event none of un = (tt, tt)

pub answers_aside : (h : HostState) (event : HostEvent) → AllByRecursion IsAside (answers h event)
answers_aside h (Accepts order carriage) = ((refl, λ past. refl, λ past. refl, λ b. refl), tt)
answers_aside h (Cancels command) = ((refl, λ past. refl, λ past. refl, λ b. refl), tt)
answers_aside h event = tt
