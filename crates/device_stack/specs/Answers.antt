-- What a device reports of its sessions (Z-Wave Transport-Encapsulation Command Class Specification: Supervision Report;
-- that a sensor from node 101 on asks to be kept awake is this project's own rule).
use Rattle.std.specs.Prelude.{ℕ, Bool, false, ◌==◌, ◌&&◌, not, nat_le, if◌then◌else◌}
use Rattle.supervision.specs.Session.{wire_id}
use Rattle.supervision.specs.declared.session.TheConstants.{WORKING}
use Rattle.class_info.specs.declared.message.InfoMessage.{InfoMessage}
use Rattle.class_info.specs.declared.message.InfoMessage.TheVariants.{SupervisionReport}
use Rattle.class_info.specs.declared.report_status.ReportStatus.TheVariants.{Working, Success}
use Rattle.encap.specs.declared.plan.Supervised.{Supervised}
use Rattle.device_kinds.specs.Kind.{listens}
use Rattle.device_kinds.specs.Answers.{report_status}
use Rattle.device_stack.specs.State.{State}

-- it asks with each final status to be kept awake
abbrev pub asks_to_wake : State → Bool
asks_to_wake device = not (listens device.kind) && nat_le 101 device.node

-- the report of a status that answers a Get: while the device works, a later one follows if it was asked for, after 1
-- second
abbrev pub status_report : State → Supervised → ℕ → InfoMessage
status_report device asked status =
    if status == WORKING
    then SupervisionReport asked.updates false asked.id Working 1
    else SupervisionReport false (asks_to_wake device) asked.id (report_status status) 0

-- the report of the end of the work of the last session taken
abbrev pub final_report : State → InfoMessage
final_report device = SupervisionReport false (asks_to_wake device) (wire_id device.sessions.taken) Success 0
