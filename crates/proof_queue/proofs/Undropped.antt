-- Where a host notes how a request or an attempt ended, it drops no message, and no session begins.
use Rattle.std.proofs.Common.{◌≡◌, ℕ, Bool, true, false, List, [], ◌∷◌, ◌++◌, refl, sym, ap₂, subst}
use Rattle.std.specs.Prelude.{Option, Some, None}
use Rattle.std.specs.List.{AllByRecursion, flat_map}
use Rattle.zw_base.proofs.Each.{all-append, all-weaker}
use Rattle.chip_functions.specs.declared.response.Response.TheVariants.{GetRoutingInfo, IsFailedNode as failed_node}
use Rattle.serial_frame.specs.Frame.{FrameParts}
use Rattle.zw_words.specs.declared.side.Side.TheVariants.{Host}
use Rattle.zw_text.specs.declared.entry.Entry.{Entry}
use Rattle.zw_text.specs.declared.entry.Entry.TheVariants as entry
use Rattle.serial_link.specs.State.{copy_due, tick_side}
use Rattle.host_requests.specs.Events.{RequestsEvent, end_at}
use Rattle.host_requests.specs.Events.RequestsEvent.{Fails}
use Rattle.host_requests.specs.declared.end.End.{End}
use Rattle.host_requests.specs.declared.end.How.{How}
use Rattle.host_requests.specs.declared.end.How.TheVariants.{AtResponse}
use Rattle.host_requests.specs.declared.task.Purpose.{Purpose}
use Rattle.host_requests.specs.declared.task.Purpose.TheVariants.{Housekeeping, Attempt, Abort}
use Rattle.host_requests.specs.declared.task.Task.{Task}
use Rattle.host_requests.specs.declared.task.Task.TheVariants.{Plain, NoMore, Second, Neighbours, IsFailed}
use Rattle.host_node.specs.Steps.{attempt_end, falls_asleep, tick_end}
use Rattle.host_node.specs.declared.attempt.AttemptEnd.{AttemptEnd}
use Rattle.host_node.specs.declared.attempt.AttemptEnd.TheVariants.{NoneRan, Again, Unanswered}
use Rattle.host_node.specs.declared.attempt.Moment.{Moment}
use Rattle.host_model.specs.State.{HostState, node_of}
use Rattle.host_model.specs.Sessions.{open_command}
use Rattle.host_model.specs.Ends.{PartEnd, Good, Passed_over, Bad, asleep_entry, attempt_entries, end_entries, end_entries_if, failed_entry, neighbours_entry, out_entry, part_end, part_entries, task_entries}
use Rattle.host_model.specs.After.{gives_up, line_ticked, requests_do}
use Rattle.host_model.specs.Events.{Line_ticks, Node_ticks, Requests_do}
use Rattle.host_model.specs.Outs.{copy_out, failing_entries, noted, outs, request_entries}
use Rattle.host_model.specs.declared.out.HostOut.{HostOut}
use Rattle.host_model.specs.declared.out.HostOut.TheVariants.{Note, Write}
use Rattle.proof_attempts.specs.proof_requests.proof_alone.Steps.{AreTold, IsOfUnit}
use Rattle.proof_queue.specs.Waiting.{dropped_at}

abbrev pub Undropped : Entry → Type 0
Undropped (entry.QueueFull n) = ⊥
Undropped (entry.Begin node session command) = ⊥
Undropped e = Unit {0}

abbrev Are : List Entry → Type 0
Are entries = AllByRecursion Undropped entries

asleep_is : (fell : Bool) (n : ℕ) → Are (asleep_entry fell n)
asleep_is true n = (tt, tt)
asleep_is false n = tt

out_is : (command : Option ℕ) → Are (out_entry command)
out_is None = tt
out_is (Some command) = (tt, tt)

attempt_are : (n : ℕ) (end : AttemptEnd) (command : Option ℕ) → Are (attempt_entries n end command)
attempt_are n NoneRan command = tt
attempt_are n Again command = tt
attempt_are n (Unanswered fell) command = all-append Undropped (out_entry command) (asleep_entry fell n) (out_is command) (asleep_is fell n)

part_are : (h : HostState) (n : ℕ) (end : PartEnd) → Are (part_entries h n end)
part_are h n Good = tt
part_are h n Passed_over = tt
part_are h n Bad = attempt_are n (attempt_end (node_of h n)) (open_command (node_of h n))

neighbours_are : (n : ℕ) (how : How) → Are (neighbours_entry n how)
neighbours_are n (AtResponse (GetRoutingInfo nodes)) = (tt, tt)
neighbours_are n how = tt

failed_is : (n : ℕ) (how : How) → Are (failed_entry n how)
failed_is n (AtResponse (failed_node failed)) = (tt, tt)
failed_is n how = tt

task_are : (h : HostState) (task : Task) (how : How) → Are (task_entries h task how)
task_are h (Plain n payload) how = (tt, tt)
task_are h (NoMore n) how = asleep_is (falls_asleep (node_of h n)) n
task_are h (Second n) how = (tt, tt)
task_are h (Neighbours n) how = neighbours_are n how
task_are h (IsFailed n) how = failed_is n how
task_are h task how = tt

purpose_are : (h : HostState) (purpose : Purpose) (how : How) → Are (end_entries h (record { purpose = purpose; how = how }))
purpose_are h (Attempt n more payload) how = part_are h n (part_end more how)
purpose_are h (Housekeeping task) how = task_are h task how
purpose_are h Abort how = tt

end_are : (h : HostState) (end : Option End) → Are (end_entries_if h end)
end_are h None = tt
end_are h (Some end) = purpose_are h end.purpose end.how

failing_are : (gives : Bool) (h : HostState) → Are (failing_entries gives h)
failing_are true h = end_are (requests_do h Fails) (end_at h.requests Fails)
failing_are false h = tt

-- ---- what is put out

-- units, and such notes
abbrev pub ArePut : List HostOut → Type 0
ArePut [] = Unit {0}
ArePut (Note e ∷ puts) = Undropped e × ArePut puts
ArePut (Write unit ∷ puts) = ArePut puts

noted_put : (told : List Entry) → AllByRecursion Undropped told → ArePut (noted told)
noted_put [] all = tt
noted_put (e ∷ told) all = (all.0, noted_put told all.1)

put-append : (a b : List HostOut) → ArePut a → ArePut b → ArePut (a ++ b)
put-append [] b are more = more
put-append (Note e ∷ a) b are more = (are.0, put-append a b are.1 more)
put-append (Write unit ∷ a) b are more = put-append a b are more

copy_put : (copy : Option FrameParts) → ArePut (copy_out copy)
copy_put None = tt
copy_put (Some f) = tt

pub request_put : (h : HostState) (event : RequestsEvent) (moment : Moment) → ArePut (outs h (Requests_do event moment))
request_put h event moment = noted_put (request_entries h event) (end_are (requests_do h event) (end_at h.requests event))

pub node_put : (h : HostState) (n : ℕ) → ArePut (outs h (Node_ticks n))
node_put h n = noted_put (attempt_entries n (tick_end (node_of h n)) (open_command (node_of h n))) (attempt_are n (tick_end (node_of h n)) (open_command (node_of h n)))

pub line_put : (h : HostState) → ArePut (outs h Line_ticks)
line_put h =
    let gives : Bool = gives_up h.side.turn (tick_side h.side).turn in
    put-append (copy_out (copy_due h.side.turn)) (noted (failing_entries gives (line_ticked h))) (copy_put (copy_due h.side.turn))
    (noted_put (failing_entries gives (line_ticked h)) (failing_are gives (line_ticked h)))

-- so no message is dropped
drops_one : (e : Entry) → Undropped e → dropped_at (Note e) ≡ []
drops_one (entry.QueueFull n) are = absurd are
drops_one e are = refl

pub put_drops : (puts : List HostOut) → ArePut puts → flat_map dropped_at puts ≡ []
put_drops [] are = refl
put_drops (Note e ∷ puts) are = ap₂ (λ (a b : List ℕ). a ++ b) (drops_one e are.0) (put_drops puts are.1)
put_drops (Write unit ∷ puts) are = put_drops puts are

pub noted_none : (told : List Entry) → AllByRecursion Undropped told → flat_map dropped_at (noted told) ≡ []
noted_none told all = put_drops (noted told) (noted_put told all)

-- nor does what is entered of it tell of one
mark_undropped : (e : Entry) → IsOfUnit e → Undropped e
mark_undropped (entry.Dropped Host) mark = tt
mark_undropped (entry.Garbled Host unit) mark = tt
mark_undropped (entry.Overrun Host) mark = tt
mark_undropped e mark = absurd mark

pub told_undropped : (puts : List HostOut) (told : List Entry) → ArePut puts → AreTold puts told → AllByRecursion Undropped told
told_undropped [] told are is = subst (AllByRecursion Undropped) (sym is) tt
told_undropped (Note e ∷ puts) told are (rest, is, more) = subst (AllByRecursion Undropped) (sym is) (are.0, told_undropped puts rest are.1 more)
told_undropped (Write unit ∷ puts) told are (marks, rest, is, all, more) =
    subst (AllByRecursion Undropped) (sym is)
    (tt, all-append Undropped marks rest (all-weaker IsOfUnit Undropped mark_undropped marks all) (told_undropped puts rest are more))
