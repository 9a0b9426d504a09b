-- What is entered that tells of no end of a request stands where none is to be told, and leaves none to be told; and so is all that a host puts out, but at the end of a request.
use Rattle.std.proofs.Common.{◌≡◌, Bool, false, List, [], ◌∷◌, ◌++◌, refl, sym, ap, ◌∙◌, subst, append-nil, append_assoc, inl}
use Rattle.std.specs.Prelude.{Option, Some, None}
use Rattle.std.specs.List.{AllByRecursion}
use Rattle.zw_base.proofs.Each.{all-append, all-weaker}
use Rattle.serial_frame.specs.Frame.{FrameParts}
use Rattle.serial_frame.specs.Items.{unit_text}
use Rattle.serial_frame.specs.declared.unit.Unit.TheVariants.{Ack, Nak, Can, Framed}
use Rattle.zw_words.specs.declared.side.Side.TheVariants.{Host, Chip}
use Rattle.zw_text.specs.declared.entry.Entry.{Entry}
use Rattle.zw_text.specs.declared.entry.Entry.TheVariants as entry
use Rattle.proof_waking.specs.law_transcript.Lists.{EachAfter}
use Rattle.proof_waking.specs.law_time.Judged.{directly_step, is_acknowledgement, is_directly_after}
use Rattle.host_requests.specs.declared.end.How.{How}
use Rattle.host_requests.specs.declared.task.Task.{Task}
use Rattle.host_requests.specs.declared.task.Task.TheVariants.{Plain, NoMore, Second, Neighbours, IsFailed}
use Rattle.host_requests.specs.declared.task.Purpose.{Purpose}
use Rattle.host_requests.specs.declared.task.Purpose.TheVariants.{Housekeeping, Attempt, Abort}
use Rattle.host_node.specs.Steps.{falls_asleep}
use Rattle.proof_messages.specs.host_model.State.{HostState, node_of}
use Rattle.proof_messages.specs.host_model.Ends.{end_entries, part_end, task_entries}
use Rattle.proof_messages.specs.host_model.Events.{HostEvent, Hears, Requests_do, Interviews, Interview_unkept, Unreads, Is_unkept, Reports_old, Finishes, Offers, Gives, Spends_unread, Notifies, Resends, Hears_value, Has_no_room, Line_ticks, Node_ticks, Drops_no_more, Begins, Begin_unkept}
use Rattle.proof_messages.specs.host_model.Outs.{copy_out, noted, outs}
use Rattle.proof_messages.specs.host_model.declared.out.HostOut.{HostOut}
use Rattle.proof_messages.specs.host_model.declared.out.HostOut.TheVariants.{Note, Write}
use Rattle.proof_waking.specs.proof_alone.Steps.{AreTold, IsOfUnit}
use Rattle.proof_waking.proofs.HostOuts.{AttemptsAre, MayPut, asleep_is, outs_put, part_are}
pub use Rattle.proof_waking.proofs.Settling.{directly_one}
use Rattle.proof_waking.proofs.proof_line_Hosting.{HearsNothing, IsFrameOr, puts_frames_or}
use Rattle.proof_requests.specs.Ends.{IsUntold, OwesNoEnd, TellsEnd, TellsNoEnd}
use Rattle.proof_requests.specs.Ends.OwesNoEnd.{Apart}

-- ---- entries

-- that tell of no end
abbrev pub IsElse : Entry → Type 0
IsElse (entry.Neighbours node list) = ⊥
IsElse (entry.Failed node failed) = ⊥
IsElse (entry.Done node how) = ⊥
IsElse (entry.Interviewed node) = ⊥
IsElse (entry.InterviewFailed node) = ⊥
IsElse e = Unit {0}

-- what stands after it is not directly after an acknowledgement
abbrev pub Breaks : Entry → Type 0
Breaks (entry.Written Host unit) = is_acknowledgement unit ≡ false
Breaks (entry.Dropped Host) = ⊥
Breaks (entry.Overrun Host) = ⊥
Breaks (entry.Garbled Host unit) = ⊥
Breaks e = Unit {0}

-- nor is what stands after this, where it is not itself
abbrev Stays : Entry → Type 0
Stays (entry.Written Host unit) = is_acknowledgement unit ≡ false
Stays e = Unit {0}

abbrev pub IsPlain : Entry → Type 0
IsPlain e = IsElse e × Breaks e

abbrev IsStill : Entry → Type 0
IsStill e = IsElse e × Stays e

break_step : (b : Bool) (e : Entry) → Breaks e → directly_step b e ≡ false
break_step b (entry.Written Host unit) breaks = breaks
break_step b (entry.Dropped Host) breaks = absurd breaks
break_step b (entry.Overrun Host) breaks = absurd breaks
break_step b (entry.Garbled Host unit) breaks = absurd breaks
break_step b e breaks = refl

stay_step : (e : Entry) → Stays e → directly_step false e ≡ false
stay_step (entry.Written Host unit) stays = stays
stay_step (entry.Dropped Host) stays = refl
stay_step (entry.Overrun Host) stays = refl
stay_step (entry.Garbled Host unit) stays = refl
stay_step e stays = refl

plain_still : (e : Entry) → IsPlain e → IsStill e
plain_still (entry.Written Host unit) plain = plain
plain_still e plain = (plain.0, tt)

mark_still : (e : Entry) → IsOfUnit e → IsStill e
mark_still (entry.Dropped Host) mark = (tt, tt)
mark_still (entry.Garbled Host unit) mark = (tt, tt)
mark_still (entry.Overrun Host) mark = (tt, tt)
mark_still e mark = absurd mark

pub other_told : (past : List Entry) (e : Entry) → IsElse e → OwesNoEnd past → TellsEnd past e
other_told past (entry.Neighbours node list) other owes = absurd other
other_told past (entry.Failed node failed) other owes = absurd other
other_told past (entry.Done node how) other owes = absurd other
other_told past (entry.Interviewed node) other owes = absurd other
other_told past (entry.InterviewFailed node) other owes = absurd other
other_told past (entry.Unkept node) other owes = inl owes
other_told past (entry.Dropped Host) other owes = tt
other_told past (entry.Dropped Chip) other owes = owes
other_told past (entry.Garbled Host unit) other owes = tt
other_told past (entry.Garbled Chip unit) other owes = owes
other_told past (entry.Overrun Host) other owes = tt
other_told past (entry.Overrun Chip) other owes = owes
other_told past e other owes = owes

pub mark_told : (past : List Entry) (e : Entry) → IsOfUnit e → TellsEnd past e
mark_told past (entry.Dropped Host) mark = tt
mark_told past (entry.Garbled Host unit) mark = tt
mark_told past (entry.Overrun Host) mark = tt
mark_told past e mark = absurd mark

pub marks_told : (past marks : List Entry) → AllByRecursion IsOfUnit marks → EachAfter TellsEnd past marks
marks_told past [] all = tt
marks_told past (e ∷ marks) all = (mark_told past e all.0, marks_told (past ++ e ∷ []) marks all.1)

still_go : (past told : List Entry) → AllByRecursion IsStill told → is_directly_after past ≡ false → EachAfter TellsEnd past told × (is_directly_after (past ++ told) ≡ false)
still_go past [] all none = (tt, subst (λ (l : List Entry). is_directly_after l ≡ false) (sym (append-nil past)) none)
still_go past (e ∷ told) all none =
    let next = directly_one past e ∙ ap (λ (b : Bool). directly_step b e) none ∙ stay_step e all.0.1 in
    let rest = still_go (past ++ e ∷ []) told all.1 next in
    ((other_told past e all.0.0 (Apart none), rest.0), subst (λ (l : List Entry). is_directly_after l ≡ false) (append_assoc past (e ∷ []) told) rest.1)

pub breaks_after : (past : List Entry) (e : Entry) → Breaks e → is_directly_after (past ++ e ∷ []) ≡ false
breaks_after past e breaks = directly_one past e ∙ break_step (is_directly_after past) e breaks

-- the first is not after an acknowledgement, and no other is one
abbrev pub AreQuiet : List Entry → Type 0
AreQuiet [] = Unit {0}
AreQuiet (e ∷ told) = IsPlain e × AllByRecursion IsStill told

pub quiet_go : (past told : List Entry) → AreQuiet told → OwesNoEnd past → EachAfter TellsEnd past told × OwesNoEnd (past ++ told)
quiet_go past [] quiet none = (tt, subst OwesNoEnd (sym (append-nil past)) none)
quiet_go past (e ∷ told) quiet none =
    let rest = still_go (past ++ e ∷ []) told quiet.1 (breaks_after past e quiet.0.1) in
    ((other_told past e quiet.0.0 none, rest.0), subst OwesNoEnd (append_assoc past (e ∷ []) told) (Apart rest.1))

-- ---- what is put out

abbrev pub OutQuiet : HostOut → Type 0
OutQuiet (Write unit) = is_acknowledgement (unit_text unit) ≡ false
OutQuiet (Note e) = IsPlain e

still_told : (puts : List HostOut) (told : List Entry) → AllByRecursion OutQuiet puts → AreTold puts told → AllByRecursion IsStill told
still_told [] told are is = subst (AllByRecursion IsStill) (sym is) tt
still_told (Note e ∷ puts) told are (rest, is, more) = subst (AllByRecursion IsStill) (sym is) (plain_still e are.0, still_told puts rest are.1 more)
still_told (Write unit ∷ puts) told are (marks, rest, is, all, more) =
    subst (AllByRecursion IsStill) (sym is) ((tt, are.0), all-append IsStill marks rest (all-weaker IsOfUnit IsStill mark_still marks all) (still_told puts rest are.1 more))

pub quiet_told : (puts : List HostOut) (told : List Entry) → AllByRecursion OutQuiet puts → AreTold puts told → AreQuiet told
quiet_told [] told are is = subst AreQuiet (sym is) tt
quiet_told (Note e ∷ puts) told are (rest, is, more) = subst AreQuiet (sym is) (are.0, still_told puts rest are.1 more)
quiet_told (Write unit ∷ puts) told are (marks, rest, is, all, more) =
    subst AreQuiet (sym is) ((tt, are.0), all-append IsStill marks rest (all-weaker IsOfUnit IsStill mark_still marks all) (still_told puts rest are.1 more))

pub noted_quiet : (told : List Entry) → AllByRecursion IsPlain told → AllByRecursion OutQuiet (noted told)
noted_quiet [] all = tt
noted_quiet (e ∷ told) all = (all.0, noted_quiet told all.1)

-- a frame is no acknowledgement
framed_quiet : (put : HostOut) → IsFrameOr IsPlain put → OutQuiet put
framed_quiet (Write (Framed f)) is = refl
framed_quiet (Write Ack) is = absurd is
framed_quiet (Write Nak) is = absurd is
framed_quiet (Write Can) is = absurd is
framed_quiet (Note e) is = is

-- ---- ends of requests and attempts

attempts_plain : AttemptsAre IsPlain
attempts_plain = record { unanswered = λ command. (tt, tt); asleep = λ n. (tt, tt) }

task_plain : (h : HostState) (task : Task) (how : How) → IsUntold (Housekeeping task) → AllByRecursion IsPlain (task_entries h task how)
task_plain h (Plain n payload) how untold = absurd untold
task_plain h (Second n) how untold = absurd untold
task_plain h (Neighbours n) how untold = absurd untold
task_plain h (IsFailed n) how untold = absurd untold
task_plain h (NoMore n) how untold = asleep_is IsPlain attempts_plain (falls_asleep (node_of h n)) n
task_plain h task how untold = tt

pub end_plain : (h : HostState) (purpose : Purpose) (how : How) → IsUntold purpose → AllByRecursion IsPlain (end_entries h (record { purpose = purpose; how = how }))
end_plain h (Attempt n more payload) how untold = part_are IsPlain attempts_plain h n (part_end more how)
end_plain h (Housekeeping task) how untold = task_plain h task how untold
end_plain h Abort how untold = tt

-- ---- events

pub copy_quiet : (copy : Option FrameParts) → AllByRecursion OutQuiet (copy_out copy)
copy_quiet None = tt
copy_quiet (Some f) = (refl, tt)

event_puts : (event : HostEvent) → TellsNoEnd event → MayPut IsPlain event
event_puts (Requests_do event moment) none = absurd none
event_puts (Interviews n listens classes update) none = absurd none
event_puts (Interview_unkept n update) none = absurd none
event_puts Line_ticks none = absurd none
event_puts (Node_ticks n) none = attempts_plain
event_puts (Finishes n session id command status wake) none = ((tt, tt), (λ setting. (tt, tt)), (tt, tt))
event_puts (Unreads n payload) none = (tt, tt)
event_puts (Is_unkept n) none = (tt, tt)
event_puts (Reports_old n id) none = (tt, tt)
event_puts (Offers n) none = (tt, tt)
event_puts (Gives n drawn) none = (tt, tt)
event_puts (Spends_unread n payload) none = (tt, tt)
event_puts (Notifies n) none = (tt, tt)
event_puts (Resends n payload) none = (tt, tt)
event_puts (Hears_value n setting) none = (tt, tt)
event_puts (Has_no_room n property) none = (tt, tt)
event_puts (Drops_no_more n) none = (tt, tt)
event_puts (Begins n session command) none = (tt, tt)
event_puts (Begin_unkept n) none = (tt, tt)
event_puts event none = tt

hears_nothing : (event : HostEvent) → TellsNoEnd event → HearsNothing event
hears_nothing (Hears item) none = absurd none
hears_nothing event none = tt

pub event_quiet_out : (h : HostState) (event : HostEvent) → TellsNoEnd event → AllByRecursion OutQuiet (outs h event)
event_quiet_out h event none =
    all-weaker (IsFrameOr IsPlain) OutQuiet framed_quiet (outs h event) (puts_frames_or IsPlain h event (hears_nothing event none) (outs_put IsPlain h event (event_puts event none)))
