-- What the host makes of a report of the open session of a node.
use Rattle.std.proofs.Common.{◌≡◌, ◌≢◌, ◌<◌, ℕ, ◌==◌, Bool, true, false, if◌then◌else◌, Option, Some, None, List, [], ◌∷◌, ◌++◌, length, refl, sym, ap, ◌∙◌, subst, append-nil}
use Rattle.std.specs.Prelude.{◌⊎◌}
use Rattle.std.proofs.lemmas.Bool.{eq-eqb, eqb-true}
use Rattle.std.proofs.lemmas.List.{get_or-set_same, length-set}
use Rattle.supervision.specs.Session.{wire_id}
use Rattle.supervision.specs.Host.{open_session, told_of, command_at as command_of_session}
use Rattle.supervision.specs.declared.session.TheConstants.{WORKING}
use Rattle.supervision.specs.declared.host_node.Told.{Told as TheTold}
use Rattle.supervision.specs.declared.host_node.Told.TheVariants as told
use Rattle.class_info.specs.declared.report_status.ReportStatus.{ReportStatus}
use Rattle.class_info.specs.declared.report_status.ReportStatus.TheVariants as statuses
use Rattle.class_info.specs.Values.{status_byte as report_byte}
use Rattle.host_heard.specs.Telling.{heard_at}
use Rattle.host_heard.specs.declared.payload.Heard.{Heard}
use Rattle.host_heard.specs.declared.told.Told.TheVariants.{Report}
use Rattle.host_keep.specs.declared.final_status.FinalStatus.{FinalStatus}
use Rattle.host_keep.specs.declared.final_status.FinalStatus.TheVariants as final
use Rattle.host_keep.specs.Status.{status_byte, status_of}
use Rattle.host_node.specs.State.{NodeState, unknown}
use Rattle.host_node.specs.Steps.{after_hold, after_report, after_sign, after_told}
use Rattle.host_model.specs.After.{after, finishing, holding, is_held}
use Rattle.host_model.specs.Events.{Finishes, HostEvent, Is_unkept, Works}
use Rattle.host_model.specs.State.{HostState, node_of}
use Rattle.host_model.specs.Taking.{AreTaken, FinalEvents, IsTaken, PayloadEvents, ReportEvents, is_secure}
use Rattle.host_model.proofs.OpenSessions.{told_session}
use Rattle.host_model.proofs.Tests.{open_command_is}
use Rattle.device_kinds.specs.Answers.{report_status}
use Rattle.proof_in_time.specs.Reporting.{AwaitsReport, EndsSession, IsOver, TellsStatus}

-- ---- what a report is to a session

-- a final one, by its byte
final_said : (status : ReportStatus) → status ≢ statuses.Working → (kept : FinalStatus) × (report_byte status ≡ status_byte kept) × (status_of (report_byte status) ≡ Some kept)
final_said statuses.NoSupport over = (final.NoSupport, refl, refl)
final_said statuses.Working over = absurd (over refl)
final_said statuses.Fail over = (final.Fail, refl, refl)
final_said statuses.Success over = (final.Success, refl, refl)

over_said : (status : ℕ) → status ≢ WORKING → report_status status ≢ statuses.Working
over_said status over = none (status == 0)
  where
    work : (b c : Bool) → (b ≡ true → ⊥) → (if b then statuses.Working else if c then statuses.Fail else statuses.Success) ≢ statuses.Working
    work true c not_so e = not_so refl
    work false true not_so e = absurd cc
    work false false not_so e = absurd cc

    none : (a : Bool) → (if a then statuses.NoSupport else if status == 1 then statuses.Working else if status == 2 then statuses.Fail else statuses.Success) ≢ statuses.Working
    none true e = absurd cc
    none false e = work (status == 1) (status == 2) (λ is. over (eqb-true status 1 is)) e

working_told : (commands : List ℕ) (outcome : Option ℕ) (attempts session : ℕ) → open_session (record { commands = commands; outcome = outcome; attempts = attempts }) ≡ Some session
    → told_of (record { commands = commands; outcome = outcome; attempts = attempts }) (wire_id session) 1 ≡ told.Working
working_told [] None attempts session e = absurd (let no : None ≡ Some session = e in cc)
working_told (command ∷ more) None attempts session e =
    let some : Some (length (command ∷ more)) ≡ Some session = e in
    let same : session ≡ length (command ∷ more) = cc in
    ap (λ (b : Bool). if b then told.Working else told.Old) (eq-eqb (wire_id session) (wire_id (length (command ∷ more))) (ap wire_id same))
working_told commands (Some ended) attempts session e = absurd (let no : None ≡ Some session = e in cc)

-- ---- the events of a payload

taken_openly : (h : HostState) (n : ℕ) (payload : List ℕ) (id : ℕ) (status : ReportStatus) (wakes : Bool) (events : List HostEvent) → is_secure (node_of h n).classes ≡ false
    → IsTaken h n payload false (Report id status wakes) events → ReportEvents h n id status wakes (told_of (node_of h n).book id (report_byte status)) events
taken_openly h n payload id status wakes events openly taken = rw openly at taken

-- of one that tells a report alone
report_alone : (h : HostState) (n session status : ℕ) (payload : List ℕ) (events : List HostEvent) → AwaitsReport n session h → (tells : TellsStatus session status payload)
    → PayloadEvents h n payload (heard_at payload) events
    → ReportEvents h n (wire_id session) (report_status status) tells.wakes (told_of (node_of h n).book (wire_id session) (report_byte (report_status status))) events
report_alone h n session status payload events is tells follows = by (subst (λ (heard : Heard). PayloadEvents h n payload heard events) tells.heard follows)
  where
    by : AreTaken h n payload false (Report (wire_id session) (report_status status) tells.wakes ∷ []) events
        → ReportEvents h n (wire_id session) (report_status status) tells.wakes (told_of (node_of h n).book (wire_id session) (report_byte (report_status status))) events
    by (first, rest, are, taken, none) =
        let same : events ≡ first = are ∙ (ap (λ (l : List HostEvent). first ++ l) none ∙ append-nil first) in
        subst (ReportEvents h n (wire_id session) (report_status status) tells.wakes (told_of (node_of h n).book (wire_id session) (report_byte (report_status status)))) (sym same)
        (taken_openly h n payload (wire_id session) (report_status status) tells.wakes first is.openly taken)

pub report_works : (h : HostState) (n session : ℕ) (payload : List ℕ) (events : List HostEvent) → AwaitsReport n session h → TellsStatus session WORKING payload
    → PayloadEvents h n payload (heard_at payload) events → events ≡ Works n (wire_id session) ∷ []
report_works h n session payload events is tells follows =
    let book = (node_of h n).book in
    subst (λ (t : TheTold). ReportEvents h n (wire_id session) statuses.Working tells.wakes t events) (working_told book.commands book.outcome book.attempts session is.opened)
    (report_alone h n session WORKING payload events is tells follows)

-- of a report of the end
pub ends_by : (h : HostState) (n session status : ℕ) (wakes : Bool) (events : List HostEvent) → open_session (node_of h n).book ≡ Some session → status ≢ WORKING
    → ReportEvents h n (wire_id session) (report_status status) wakes (told_of (node_of h n).book (wire_id session) (report_byte (report_status status))) events → EndsSession n session events
ends_by h n session status wakes events opened over is = record { command = carried.0; status = said.0; wakes = wakes; are = kept }
  where
    said : (kept : FinalStatus) × (report_byte (report_status status) ≡ status_byte kept) × (status_of (report_byte (report_status status)) ≡ Some kept)
    said = final_said (report_status status) (over_said status over)

    carried : (command : ℕ) × (command_of_session (node_of h n).book.commands session ≡ Some command)
    carried = open_command_is (node_of h n).book session opened

    ends : told_of (node_of h n).book (wire_id session) (report_byte (report_status status)) ≡ told.Final session
    ends = ap (λ (byte : ℕ). told_of (node_of h n).book (wire_id session) byte) said.1 ∙ told_session (node_of h n).book session said.0 opened

    events_are : FinalEvents n session (wire_id session) (command_of_session (node_of h n).book.commands session) (status_of (report_byte (report_status status))) wakes events
    events_are = subst (λ (t : TheTold). ReportEvents h n (wire_id session) (report_status status) wakes t events) ends is

    kept : (events ≡ Finishes n session (wire_id session) carried.0 said.0 wakes ∷ []) ⊎ (events ≡ Is_unkept n ∷ [])
    kept = subst (λ (c : Option ℕ). FinalEvents n session (wire_id session) c (Some said.0) wakes events) carried.1
        (subst (λ (f : Option FinalStatus). FinalEvents n session (wire_id session) (command_of_session (node_of h n).book.commands session) f wakes events) said.2 events_are)

pub report_ends : (h : HostState) (n session status : ℕ) (payload : List ℕ) (events : List HostEvent) → AwaitsReport n session h → status ≢ WORKING → TellsStatus session status payload
    → PayloadEvents h n payload (heard_at payload) events → EndsSession n session events
report_ends h n session status payload events is over tells follows = ends_by h n session status tells.wakes events is.opened over (report_alone h n session status payload events is tells follows)

-- ---- the node after it

pub work_waits : (h : HostState) (n session : ℕ) → n < length h.nodes → AwaitsReport n session h → node_of (after h (Works n (wire_id session))) n ≡ after_sign (node_of h n)
work_waits h n session within is =
    let book = (node_of h n).book in
    get_or-set_same h.nodes n (after_report (node_of h n) (wire_id session) 1) (unknown 0) within
    ∙ ap (λ (t : TheTold). after_told (node_of h n) 1 t) (working_told book.commands book.outcome book.attempts session is.opened)

ended_over : (n : NodeState) (session : ℕ) (status : FinalStatus) → open_session n.book ≡ Some session → IsOver (after_report n (wire_id session) (status_byte status))
ended_over n session status opened =
    subst (λ (t : TheTold). IsOver (after_told n (status_byte status) t)) (sym (told_session n.book session status opened)) (record { idle = refl; no_wait = refl; closed = refl })

held_over : (h : HostState) (n : ℕ) (held : Bool) → n < length h.nodes → IsOver (node_of h n) → IsOver (node_of (holding h n held) n)
held_over h n true within is =
    subst IsOver (sym (get_or-set_same h.nodes n (after_hold (node_of h n)) (unknown 0) within)) (record { idle = is.idle; no_wait = is.no_wait; closed = is.closed })
held_over h n false within is = is

pub session_over : (h : HostState) (n session command : ℕ) (status : FinalStatus) (wakes : Bool) → n < length h.nodes → open_session (node_of h n).book ≡ Some session
    → IsOver (node_of (after h (Finishes n session (wire_id session) command status wakes)) n)
session_over h n session command status wakes within opened =
    let next : NodeState = after_report (node_of h n) (wire_id session) (status_byte status) in
    held_over (finishing h n (wire_id session) command status) n (is_held h n wakes) (subst (λ (k : ℕ). n < k) (sym (length-set h.nodes n next)) within)
    (subst IsOver (sym (get_or-set_same h.nodes n next (unknown 0) within)) (ended_over (node_of h n) session status opened))
