-- What the end of a request is to the host, and the end of an attempt (this project's own rules).
use Rattle.std.specs.Prelude.{ℕ, Bool, true, false, List, [], ◌∷◌, ◌++◌, Option, Some, None}
use Rattle.chip_functions.specs.declared.response.Response.TheVariants.{GetRoutingInfo, IsFailedNode}
use Rattle.chip_functions.specs.declared.notice.TransmitStatus.TheVariants.{CompleteOk, NoAck, Fail, NotIdle, NoRoute}
use Rattle.zw_text.specs.declared.entry.Entry.{Entry}
use Rattle.zw_text.specs.declared.entry.Entry.TheVariants.{Out, Asleep, Done as done_with, InterviewFailed, Neighbours as neighbours_are, Failed as failed_is}
use Rattle.zw_text.specs.declared.entry.Done.{Done}
use Rattle.zw_text.specs.declared.entry.Done.TheVariants as done
use Rattle.zw_text.specs.declared.entry.Ended.TheVariants.{Unanswered as out_unanswered}
use Rattle.zw_text.specs.declared.entry.Outcome.TheVariants.{Unanswered as never_answered}
use Rattle.host_requests.specs.declared.end.End.{End}
use Rattle.host_requests.specs.declared.end.How.{How}
use Rattle.host_requests.specs.declared.end.How.TheVariants.{AtCallback, AtResponse, AtUpdate, Refused, Silent, LinkFailed, AbortSent}
use Rattle.host_requests.specs.declared.task.Purpose.{Purpose}
use Rattle.host_requests.specs.declared.task.Purpose.TheVariants.{Housekeeping, Attempt, Abort}
use Rattle.host_requests.specs.declared.task.Task.{Task}
use Rattle.host_requests.specs.declared.task.Task.TheVariants.{Plain, NoMore, Second, Neighbours, IsFailed}
use Rattle.host_node.specs.Steps.{after_sign, after_attempt_end, attempt_end, after_no_more_end, falls_asleep}
use Rattle.host_node.specs.declared.attempt.Moment.{Moment}
use Rattle.host_node.specs.declared.attempt.AttemptEnd.{AttemptEnd}
use Rattle.host_node.specs.declared.attempt.AttemptEnd.TheVariants.{NoneRan, Again, Unanswered}
use Rattle.host_model.specs.State.{HostState, node_of, with_node, with_outcome}
use Rattle.host_model.specs.Sessions.{open_command}

-- a command was not answered
abbrev pub unanswered : HostState → Option ℕ → HostState
unanswered h None = h
unanswered h (Some command) = record h { commands = with_outcome h.commands command never_answered }

-- an attempt of a node ended, whose session had this command
abbrev pub attempt_ended : HostState → AttemptEnd → Option ℕ → HostState
attempt_ended h NoneRan command = h
attempt_ended h Again command = h
attempt_ended h (Unanswered fell) command = unanswered h command

abbrev pub asleep_entry : Bool → ℕ → List Entry
asleep_entry true node = Asleep node ∷ []
asleep_entry false node = []

abbrev pub out_entry : Option ℕ → List Entry
out_entry None = []
out_entry (Some command) = Out command out_unanswered ∷ []

abbrev pub attempt_entries : ℕ → AttemptEnd → Option ℕ → List Entry
attempt_entries node NoneRan command = []
attempt_entries node Again command = []
attempt_entries node (Unanswered fell) command = out_entry command ++ asleep_entry fell node

-- the running attempt of a node ends without a report
abbrev pub without_report : HostState → ℕ → Moment → HostState
without_report h node moment =
    attempt_ended (with_node h node (after_attempt_end (node_of h node) moment)) (attempt_end (node_of h node)) (open_command (node_of h node))

abbrev pub without_report_entries : HostState → ℕ → List Entry
without_report_entries h node = attempt_entries node (attempt_end (node_of h node)) (open_command (node_of h node))

-- what the end of a part of an attempt is: a good callback begins its wait, a segment that is not the last may fail
pub data PartEnd : Type 0 where
  Good : PartEnd
  Passed_over : PartEnd
  Bad : PartEnd

abbrev pub part_end : Bool → How → PartEnd
part_end more (AtCallback CompleteOk) = Good
part_end true (AtCallback NoAck) = Passed_over
part_end false (AtCallback NoAck) = Bad
part_end more (AtCallback Fail) = Bad
part_end more (AtCallback NotIdle) = Bad
part_end more (AtCallback NoRoute) = Bad
part_end more (AtResponse response) = Bad
part_end more (AtUpdate update capability) = Bad
part_end more Refused = Bad
part_end more Silent = Bad
part_end more LinkFailed = Bad
part_end more AbortSent = Bad

abbrev pub after_part : HostState → ℕ → PartEnd → Moment → HostState
after_part h node Good moment = with_node h node (after_sign (node_of h node))
after_part h node Passed_over moment = h
after_part h node Bad moment = without_report h node moment

abbrev pub part_entries : HostState → ℕ → PartEnd → List Entry
part_entries h node Good = []
part_entries h node Passed_over = []
part_entries h node Bad = without_report_entries h node

-- the word for how a request without Supervision ended
abbrev pub done_of : How → Done
done_of (AtCallback CompleteOk) = done.Delivered
done_of (AtCallback NoAck) = done.NoAck
done_of (AtCallback Fail) = done.Fail
done_of (AtCallback NotIdle) = done.NotIdle
done_of (AtCallback NoRoute) = done.NoRoute
done_of (AtResponse response) = done.Silent
done_of (AtUpdate update capability) = done.Silent
done_of Refused = done.Refused
done_of Silent = done.Silent
done_of LinkFailed = done.LinkFailed
done_of AbortSent = done.Silent

-- what a question was answered
abbrev pub neighbours_entry : ℕ → How → List Entry
neighbours_entry node (AtResponse (GetRoutingInfo nodes)) = neighbours_are node nodes ∷ []
neighbours_entry node how = []

abbrev pub failed_entry : ℕ → How → List Entry
failed_entry node (AtResponse (IsFailedNode failed)) = failed_is node failed ∷ []
failed_entry node how = []

-- the host after a task ended: No More Information lets its node sleep; the rest changes nothing
abbrev pub after_task : HostState → Task → HostState
after_task h (NoMore node) = with_node h node (after_no_more_end (node_of h node))
after_task h _ = h

-- what is entered then. An interview that ended well is an event of its own
abbrev pub task_entries : HostState → Task → How → List Entry
task_entries h (Plain node payload) how = done_with node (done_of how) ∷ []
task_entries h (NoMore node) how = asleep_entry (falls_asleep (node_of h node)) node
task_entries h (Second node) how = InterviewFailed node ∷ []
task_entries h (Neighbours node) how = neighbours_entry node how
task_entries h (IsFailed node) how = failed_entry node how
task_entries h _ how = []

-- the host after a request ended, and what is entered
abbrev pub after_end : HostState → End → Moment → HostState
after_end h end moment = end_by h end.purpose end.how moment
  where
    end_by : HostState → Purpose → How → Moment → HostState
    end_by h (Attempt node more payload) how moment = after_part h node (part_end more how) moment
    end_by h (Housekeeping task) how moment = after_task h task
    end_by h Abort how moment = h

abbrev pub end_entries : HostState → End → List Entry
end_entries h end = entries_by h end.purpose end.how
  where
    entries_by : HostState → Purpose → How → List Entry
    entries_by h (Attempt node more payload) how = part_entries h node (part_end more how)
    entries_by h (Housekeeping task) how = task_entries h task how
    entries_by h Abort how = []

-- ---- where a request may end

-- the host after that, where it ends
abbrev pub after_end_if : HostState → Option End → Moment → HostState
after_end_if h None moment = h
after_end_if h (Some end) moment = after_end h end moment

abbrev pub end_entries_if : HostState → Option End → List Entry
end_entries_if h None = []
end_entries_if h (Some end) = end_entries h end
