-- Supervision Reports: of no open session, of one at work, and of one that ends.
use Rattle.std.proofs.Common.{◌≡◌, ℕ, ◌≤◌, [], ◌∷◌, ◌++◌, refl, sym, subst}
use Rattle.std.specs.Prelude.{Bool, Option, Some}
use Rattle.class_info.specs.declared.report_status.ReportStatus.{ReportStatus}
use Rattle.class_info.specs.declared.report_status.ReportStatus.TheVariants as said
use Rattle.class_info.specs.Values.{status_byte}
use Rattle.supervision.specs.Host.{told_of, command_at as command_of_session}
use Rattle.supervision.specs.declared.host_node.Told.{Told}
use Rattle.supervision.specs.declared.host_node.Told.TheVariants.{Final, Working, Old}
use Rattle.host_keep.specs.Keeping.{OptAdds, Kept}
use Rattle.host_keep.specs.Rows.{IsRecord}
use Rattle.host_keep.specs.RecordText.{record_text}
use Rattle.host_keep.specs.declared.record.Record.TheVariants as record_of
use Rattle.host_keep.specs.Status.{status_of, status_byte as final_byte}
use Rattle.host_keep.specs.declared.final_status.FinalStatus.{FinalStatus}
use Rattle.host_keep.specs.declared.final_status.FinalStatus.TheVariants as final
use Rattle.host_model.specs.State.{HostState, node_of}
use Rattle.host_model.specs.Events.{Reports_old, Works, Finishes, Is_unkept}
use Rattle.host_model.specs.After.{after}
use Rattle.host_model.specs.Outs.{outs}
use Rattle.host_model.specs.May.{May}
use Rattle.host_model.specs.Taking.{ReportEvents, FinalEvents}
use Rattle.host_step_kept.specs.Choices.{chosen}
use Rattle.host_step_bytes.specs.Calls.{Scene, Does}
use Rattle.host_step_bytes.proofs.CallLists.{does_one, does_kept}
use Rattle.host_step_bytes.proofs.OneMessage.{kept_or}
use Rattle.host_step_bytes.proofs.OneNonce.{may_chosen}
use Rattle.host_step_bytes.proofs.Told.{works_at_one}

pub old_reported : (n id : ℕ) (status : ReportStatus) (wake_request : Bool) (a b : Scene) → told_of (node_of a.host n).book id (status_byte status) ≡ Old → b.host ≡ a.host
    → b.outs ≡ a.outs ++ outs a.host (Reports_old n id) → OptAdds a.shelf.records b.shelf.records [] → a.shelf.faults ≤ b.shelf.faults
    → Does (ReportEvents a.host n id status wake_request (told_of (node_of a.host n).book id (status_byte status))) a b
old_reported n id status wake_request a b is host put records falls =
    does_one (ReportEvents a.host n id status wake_request (told_of (node_of a.host n).book id (status_byte status))) (Reports_old n id) a b
    (subst (λ (t : Told). ReportEvents a.host n id status wake_request t (Reports_old n id ∷ [])) (sym is) refl) (status_byte status, is) tt host put records tt falls

pub work_reported : (n id : ℕ) (status : ReportStatus) (wake_request : Bool) (a b : Scene) → told_of (node_of a.host n).book id (status_byte status) ≡ Working → b.host ≡ after a.host (Works n id)
    → b.outs ≡ a.outs ++ outs a.host (Works n id) → OptAdds a.shelf.records b.shelf.records [] → a.shelf.faults ≤ b.shelf.faults
    → Does (ReportEvents a.host n id status wake_request (told_of (node_of a.host n).book id (status_byte status))) a b
work_reported n id status wake_request a b is host put records falls =
    does_one (ReportEvents a.host n id status wake_request (told_of (node_of a.host n).book id (status_byte status))) (Works n id) a b
    (subst (λ (t : Told). ReportEvents a.host n id status wake_request t (Works n id ∷ [])) (sym is) refl) (works_at_one (node_of a.host n).book id (status_byte status) is) tt host put records tt falls

-- a final status has its byte
pub final_is : (status : ReportStatus) (ended : FinalStatus) → status_of (status_byte status) ≡ Some ended → final_byte ended ≡ status_byte status
final_is said.NoSupport final.NoSupport e = refl
final_is said.NoSupport final.Fail e = cc
final_is said.NoSupport final.Success e = cc
final_is said.Working final.NoSupport e = cc
final_is said.Working final.Fail e = cc
final_is said.Working final.Success e = cc
final_is said.Fail final.NoSupport e = cc
final_is said.Fail final.Fail e = refl
final_is said.Fail final.Success e = cc
final_is said.Success final.NoSupport e = cc
final_is said.Success final.Fail e = cc
final_is said.Success final.Success e = refl

pub final_may : (h : HostState) (n session id command : ℕ) (status : ReportStatus) (ended : FinalStatus) (wake_request : Bool) → told_of (node_of h n).book id (status_byte status) ≡ Final session
    → command_of_session (node_of h n).book.commands session ≡ Some command → status_of (status_byte status) ≡ Some ended → May h (Finishes n session id command ended wake_request)
final_may h n session id command status ended wake_request told carried is =
    record { told = subst (λ (b : ℕ). told_of (node_of h n).book id b ≡ Final session) (sym (final_is status ended is)) told; carried = carried }

final_or : (n session id command : ℕ) (ended : FinalStatus) (wake_request is_kept : Bool) (carried : Option ℕ) (status : Option FinalStatus) → carried ≡ Some command → status ≡ Some ended
    → FinalEvents n session id carried status wake_request (chosen is_kept (Finishes n session id command ended wake_request) (Is_unkept n) ∷ [])
final_or n session id command ended wake_request is_kept carried status one two =
    subst (λ (o : Option ℕ). FinalEvents n session id o status wake_request (chosen is_kept (Finishes n session id command ended wake_request) (Is_unkept n) ∷ [])) (sym one)
    (subst (λ (o : Option FinalStatus). FinalEvents n session id (Some command) o wake_request (chosen is_kept (Finishes n session id command ended wake_request) (Is_unkept n) ∷ [])) (sym two)
    (kept_or is_kept (Finishes n session id command ended wake_request) (Is_unkept n)))

-- a report that ends the session was kept, or not
pub session_ended : (n session id command : ℕ) (status : ReportStatus) (ended : FinalStatus) (wake_request is_kept : Bool) (a b : Scene) → told_of (node_of a.host n).book id (status_byte status) ≡ Final session
    → command_of_session (node_of a.host n).book.commands session ≡ Some command → status_of (status_byte status) ≡ Some ended
    → IsRecord (record_of.Final n session ended) → Kept is_kept (record_text (record_of.Final n session ended)) a.shelf b.shelf
    → b.host ≡ after a.host (chosen is_kept (Finishes n session id command ended wake_request) (Is_unkept n)) → b.outs ≡ a.outs ++ outs a.host (chosen is_kept (Finishes n session id command ended wake_request) (Is_unkept n))
    → a.shelf.faults ≤ b.shelf.faults → Does (FinalEvents n session id (command_of_session (node_of a.host n).book.commands session) (status_of (status_byte status)) wake_request) a b
session_ended n session id command status ended wake_request is_kept a b told carried is range kept host put falls =
    does_kept (FinalEvents n session id (command_of_session (node_of a.host n).book.commands session) (status_of (status_byte status)) wake_request) is_kept (Finishes n session id command ended wake_request) (Is_unkept n)
    (record_of.Final n session ended) a b (final_or n session id command ended wake_request is_kept (command_of_session (node_of a.host n).book.commands session) (status_of (status_byte status)) carried is)
    (may_chosen a.host is_kept (Finishes n session id command ended wake_request) (Is_unkept n) (final_may a.host n session id command status ended wake_request told carried is) tt) refl range refl refl refl kept host put falls
