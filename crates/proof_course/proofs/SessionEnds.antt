-- What a change at either end leaves of frames, reports and statuses.
use Rattle.std.proofs.Common.{◌≡◌, ℕ, zero, suc, ◌+◌, ◌≤◌, ◌⊎◌, Bool, true, false, if◌then◌else◌, List, [], ◌∷◌, ◌++◌, length, Some, refl, sym, subst, inl, inr, arith, length-append}
use Rattle.std.specs.Prelude.{◌&&◌, ◌%◌, slice_get}
use Rattle.supervision.specs.Session.{wire_id}
use Rattle.supervision.specs.Host.{HostBook, begun_of, command_at, begins, told_of, after_report}
use Rattle.supervision.specs.Device.{Taken, heard_of, after_get, finished, is_new}
use Rattle.supervision.specs.Ends.{Report}
use Rattle.supervision.specs.declared.session.TheConstants.{WORKING}
use Rattle.supervision.specs.declared.host_node.Told.{Told}
use Rattle.supervision.specs.declared.host_node.Told.TheVariants.{Final, Working as still_working, Old as unknown}
use Rattle.supervision.specs.declared.device_book.Heard.TheVariants.{New}
use Rattle.supervision.proofs.EndsLemmas.{command_at-push, GetFits-begins, ReportFits-begins, ReportFits-taken, ReportFits-finished}
use Rattle.proof_course.specs.Sessions.{Message, Cargo, Command, Of_host, Answer, Of_node, after_message, is_segment_of_next, told_by}
use Rattle.proof_course.specs.SessionFacts.{IsTrueReport, FitsBy, IsOnTime}

-- ---- the host begins a session

pub one_more : (host : HostBook) (command : ℕ) → begun_of (begins host command) ≡ begun_of host + 1
one_more host command = grind (arith, length-append)

pub true-begin : (host : HostBook) (device : Taken) (ends : List ℕ) (command : ℕ) (report : Report) → IsTrueReport host device ends report
    → IsTrueReport (begins host command) device ends report
true-begin host device ends command report is =
    let more : begun_of (begins host command) ≡ begun_of host + 1 = one_more host command in
    (ReportFits-begins (begun_of host) (begun_of (begins host command)) device report (omega arith) is.0, is.1)

pub fits-begin : (host : HostBook) (device : Taken) (sent : ℕ) (ends : List ℕ) (command begun : ℕ) (cargo : Cargo) → FitsBy host device sent ends begun cargo
    → FitsBy (begins host command) device sent ends begun cargo
fits-begin host device sent ends command begun (Command message) fits =
    (fits.0, (fits.1.0, GetFits-begins host.commands command (record { session = message.session; command = fits.1.0; begun = begun }) fits.1.1))
fits-begin host device sent ends command begun Of_host fits = tt
fits-begin host device sent ends command begun (Answer session status) fits =
    true-begin host device ends command (record { session = session; status = status; begun = begun }) fits
fits-begin host device sent ends command begun Of_node fits = tt

-- ---- a message of a later session is sent

pub fits-sent : (host : HostBook) (device : Taken) (sent later : ℕ) (ends : List ℕ) (begun : ℕ) (cargo : Cargo) → sent ≤ later → FitsBy host device sent ends begun cargo
    → FitsBy host device later ends begun cargo
fits-sent host device sent later ends begun (Command message) more fits = let was : message.session ≤ sent = fits.0 in (omega arith, fits.1)
fits-sent host device sent later ends begun Of_host more fits = tt
fits-sent host device sent later ends begun (Answer session status) more fits = fits
fits-sent host device sent later ends begun Of_node more fits = tt

-- ---- the device takes a session

abbrev pub taking : Taken → Taken
taking device = record { taken = device.taken + 1; status = WORKING }

pub true-taking : (host : HostBook) (device : Taken) (ends : List ℕ) (report : Report) → IsTrueReport host device ends report → IsTrueReport host (taking device) ends report
true-taking host device ends report is = (ReportFits-taken (begun_of host) device report is.0, is.1)

pub fits-taking : (host : HostBook) (device : Taken) (sent : ℕ) (ends : List ℕ) (begun : ℕ) (cargo : Cargo) → FitsBy host device sent ends begun cargo
    → FitsBy host (taking device) sent ends begun cargo
fits-taking host device sent ends begun (Command message) fits = fits
fits-taking host device sent ends begun Of_host fits = tt
fits-taking host device sent ends begun (Answer session status) fits = true-taking host device ends (record { session = session; status = status; begun = begun }) fits
fits-taking host device sent ends begun Of_node fits = tt

pub on_time-taking : (host : HostBook) (device : Taken) (ends : List ℕ) (report : Report) → IsOnTime host device ends report → IsOnTime host (taking device) ends report
on_time-taking host device ends report is = record { fits = true-taking host device ends report is.fits; near = is.near; edge = is.edge }

-- a message leaves the device as it was, or is heard by its id
when_heard : (device : Taken) (session : ℕ) (b w n : Bool) →
    ((if b then (if w && n then after_get device (wire_id session) else device) else after_get device (wire_id session)) ≡ device)
    ⊎ ((if b then (if w && n then after_get device (wire_id session) else device) else after_get device (wire_id session)) ≡ after_get device (wire_id session))
when_heard device session false w n = inr refl
when_heard device session true true true = inr refl
when_heard device session true true false = inl refl
when_heard device session true false n = inl refl

pub message-cases : (device : Taken) (message : Message) (is_whole : Bool) → (after_message device message is_whole ≡ device) ⊎ (after_message device message is_whole ≡ after_get device (wire_id message.session))
message-cases device message is_whole = when_heard device message.session message.is_segment is_whole (is_segment_of_next device message.session)

-- of 16 sessions in a row no two have one id of four bits
pub same_of_16 : (s t : ℕ) → s % 16 ≡ t % 16 → s ≤ t → t ≤ s + 15 → s ≡ t
same_of_16 s t e a b = omega arith

pub new_heard : (device : Taken) (id : ℕ) → is_new device id ≡ true → heard_of device id ≡ New (device.taken + 1)
new_heard device id e = rw e refl

-- ---- its work comes to a final status

last_of : (ends : List ℕ) (status : ℕ) → slice_get (ends ++ status ∷ []) (length ends) ≡ Some status
last_of [] status = refl
last_of (first ∷ ends) status = last_of ends status

pub command_at-last : (ends : List ℕ) (status at : ℕ) → at ≡ length ends + 1 → command_at (ends ++ status ∷ []) at ≡ Some status
command_at-last ends status zero e = absurd (omega arith)
command_at-last ends status (suc at) e = let same : at ≡ length ends = omega arith in subst (λ (k : ℕ). slice_get (ends ++ status ∷ []) k ≡ Some status) (sym same) (last_of ends status)

pub true-finish : (host : HostBook) (device : Taken) (ends : List ℕ) (status : ℕ) (report : Report) → device.status ≡ WORKING → IsTrueReport host device ends report
    → IsTrueReport host (finished device status) (ends ++ status ∷ []) report
true-finish host device ends status report works is =
    (ReportFits-finished (begun_of host) device status report works is.0, λ final. command_at-push ends report.session report.status status (is.1 final))

pub fits-finish : (host : HostBook) (device : Taken) (sent : ℕ) (ends : List ℕ) (status begun : ℕ) (cargo : Cargo) → device.status ≡ WORKING → FitsBy host device sent ends begun cargo
    → FitsBy host (finished device status) sent (ends ++ status ∷ []) begun cargo
fits-finish host device sent ends status begun (Command message) works fits = fits
fits-finish host device sent ends status begun Of_host works fits = tt
fits-finish host device sent ends status begun (Answer session reported) works fits =
    true-finish host device ends status (record { session = session; status = reported; begun = begun }) works fits
fits-finish host device sent ends status begun Of_node works fits = tt

pub on_time-finish : (host : HostBook) (device : Taken) (ends : List ℕ) (status : ℕ) (report : Report) → device.status ≡ WORKING → IsOnTime host device ends report
    → IsOnTime host (finished device status) (ends ++ status ∷ []) report
on_time-finish host device ends status report works is = record { fits = true-finish host device ends status report works is.fits; near = is.near; edge = is.edge }

-- ---- the host judges a report

pub report-cases : (host : HostBook) (id status : ℕ) (told : Told) → told_of host id status ≡ told
    → ((after_report host id status ≡ host) × ((all : List ℕ) → told_by told status all ≡ all))
    ⊎ ((session : ℕ) × ((told ≡ Final session) × (after_report host id status ≡ record host { outcome = Some status })))
report-cases host id status (Final session) e = inr (session, (refl, rw (after_report, e) refl))
report-cases host id status still_working e = inl (rw (after_report, e) refl, λ all. refl)
report-cases host id status unknown e = inl (rw (after_report, e) refl, λ all. refl)
