-- How a device words its answers (Z-Wave Transport-Encapsulation Command Class Specification: Supervision Report, Multi
-- Channel, CRC-16).
use Rattle.std.specs.Prelude.{ℕ, false, ◌==◌, if◌then◌else◌, List, [], ◌∷◌, Option, Some, None}
use Rattle.class_info.specs.declared.message.InfoMessage.{InfoMessage}
use Rattle.class_info.specs.declared.report_status.ReportStatus.{ReportStatus}
use Rattle.class_info.specs.declared.report_status.ReportStatus.TheVariants.{NoSupport, Working, Fail, Success}
use Rattle.class_info.specs.InfoSpelling.{form}
use Rattle.encap.specs.Written.{written_form}
use Rattle.encap.specs.declared.plan.Plan.{Plan}
use Rattle.encap.specs.declared.plan.Ends.{Ends}

-- the status that a device keeps, as a report carries it
abbrev pub report_status : ℕ → ReportStatus
report_status status =
    if status == 0 then NoSupport
    else if status == 1 then Working
    else if status == 2 then Fail
    else Success

-- the end points the other way round
abbrev pub swapped : Option Ends → Option Ends
swapped (Some ends) = Some (record { source = ends.target; target = ends.source })
swapped None = None

-- the wraps of the answer to a message with these wraps
abbrev pub answer_plan : Plan → Plan
answer_plan plan = record { batch = false; session = None; channel = swapped plan.channel; outer = plan.outer }

-- a message in the wraps of an answer
abbrev pub worded : Plan → InfoMessage → List ℕ
worded plan message = written_form plan (form message ∷ [])
