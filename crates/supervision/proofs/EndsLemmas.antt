-- How each event keeps what holds of both ends, and what an id names.
use Rattle.std.proofs.Common.{ap, true, false, ◌≡◌, ◌≢◌, ℕ, zero, suc, ◌+◌, ◌<◌, ◌≤◌, ◌⊎◌, List, [], ◌∷◌, ◌++◌, length, Some, None, refl, sym, subst, ◌∙◌, inl, inr, arith, length-append}
use Rattle.std.specs.Prelude.{if◌then◌else◌, slice_get}
use Rattle.std.proofs.lemmas.Bool.Decides.{nat_tests}
use Rattle.std.proofs.lemmas.Option.{slice_get_within}
use Rattle.supervision.specs.Session.{wire_id}
use Rattle.supervision.specs.Host.{HostBook, no_sessions, begun_of, open_session, command_at, begins, with_attempts, told_of, after_report}
use Rattle.supervision.specs.Device.{Taken, none_taken, is_new, is_again, heard_of, after_get, finished}
use Rattle.supervision.specs.Ends.{Get, Report, IsSettled, EndsAgree, GetFits, ReportFits}
use Rattle.supervision.specs.declared.session.TheConstants.{SUCCESS, WORKING}
use Rattle.supervision.specs.declared.host_node.Told.TheVariants.{Final, Working as still_working, Old as unknown}
use Rattle.supervision.specs.declared.host_node.Told.{Told}
use Rattle.supervision.specs.declared.device_book.Heard.TheVariants.{New, Again, Old}

-- of 64 sessions in a row no two have one id
pub same_session : (s t : ℕ) → wire_id s ≡ wire_id t → s ≤ t → t ≤ s + 63 → s ≡ t
same_session s t e a b = omega arith

-- what it means that a device takes an id as a new session
pub record IsTaken (device : Taken) (id session : ℕ) : Type 0 where
  pub next : session ≡ device.taken + 1
  pub named : id ≡ wire_id session
  pub idle : device.status ≢ WORKING
  pub after : after_get device id ≡ record { taken = device.taken + 1; status = WORKING }

pub heard_of-New : (device : Taken) (id session : ℕ) → heard_of device id ≡ New session → IsTaken device id session
heard_of-New device id session e = record {
  next = grind (arith, nat_tests);
  named = grind (arith, nat_tests);
  idle = grind (arith, nat_tests);
  after = grind (arith, nat_tests);
}

pub heard_of-Again : (device : Taken) (id status : ℕ) → heard_of device id ≡ Again status → (0 < device.taken) × (id ≡ wire_id device.taken) × (status ≡ device.status)
heard_of-Again device id status e = grind (arith, nat_tests)

pub told_of-Final : (host : HostBook) (id status session : ℕ) → told_of host id status ≡ Final session → (open_session host ≡ Some session) × (id ≡ wire_id session) × (status ≢ WORKING)
told_of-Final host id status session e = grind (arith, nat_tests)

pub told_of-Working : (host : HostBook) (id status : ℕ) → told_of host id status ≡ still_working → (session : ℕ) × (open_session host ≡ Some session) × (id ≡ wire_id session) × (status ≡ WORKING)
told_of-Working host id status e = grind (arith, nat_tests)

pub open_session-Some : (host : HostBook) (session : ℕ) → open_session host ≡ Some session → (session ≡ begun_of host) × (0 < session) × (host.outcome ≡ None)
open_session-Some host session e = grind (arith, nat_tests)

pub open_session-None : (host : HostBook) → open_session host ≡ None → (begun_of host ≡ 0) ⊎ ((status : ℕ) × (host.outcome ≡ Some status))
open_session-None host e = grind (arith, nat_tests)

-- a book and what happens to it

pub command_at-Some : (commands : List ℕ) (session command : ℕ) → command_at commands session ≡ Some command → (0 < session) × (session ≤ length commands)
command_at-Some commands zero command e = absurd (grind arith)
command_at-Some commands (suc before) command e =
    let within : before < length commands = slice_get_within commands before command e in (omega arith, omega arith)

slice_get-push : (xs : List ℕ) (k x y : ℕ) → slice_get xs k ≡ Some x → slice_get (xs ++ y ∷ []) k ≡ Some x
slice_get-push [] k x y e = absurd (grind arith)
slice_get-push (z ∷ xs) zero x y e = e
slice_get-push (z ∷ xs) (suc k) x y e = slice_get-push xs k x y e

pub command_at-push : (commands : List ℕ) (session command next : ℕ) → command_at commands session ≡ Some command → command_at (commands ++ next ∷ []) session ≡ Some command
command_at-push commands zero command next e = absurd (grind arith)
command_at-push commands (suc before) command next e = slice_get-push commands before command next e

-- both ends

-- where no session is open the device has taken all of them
pub all_taken : (host : HostBook) (device : Taken) → EndsAgree host device → open_session host ≡ None → device.taken ≡ begun_of host
all_taken host device agree none =
    elim (open_session-None host none) [
      | inl empty ↦ let below : device.taken ≤ begun_of host = agree.not_ahead in omega arith
      | inr ended ↦ (agree.settled ended.0 ended.1).taken
    ]

pub EndsAgree-begins : (host : HostBook) (device : Taken) (command : ℕ) → EndsAgree host device → open_session host ≡ None → EndsAgree (begins host command) device
EndsAgree-begins host device command agree none =
    let all : device.taken ≡ begun_of host = all_taken host device agree none in
    let longer : length (host.commands ++ command ∷ []) ≡ length host.commands + 1 = grind (arith, length-append) in
    record {
      not_ahead = omega arith;
      one_after = omega arith;
      settled = λ status e. absurd (grind arith);
    }

pub EndsAgree-attempts : (host : HostBook) (device : Taken) (now : ℕ) → EndsAgree host device → EndsAgree (with_attempts host now) device
EndsAgree-attempts host device now agree = record {
  not_ahead = agree.not_ahead;
  one_after = agree.one_after;
  settled = λ status e. let was : IsSettled host device status = agree.settled status e in record {
    begun = was.begun;
    taken = was.taken;
    status_kept = was.status_kept;
    final = was.final;
  };
}

pub EndsAgree-taken : (host : HostBook) (device : Taken) → EndsAgree host device → device.taken + 1 ≤ begun_of host → EndsAgree host (record { taken = device.taken + 1; status = WORKING })
EndsAgree-taken host device agree below = record {
  not_ahead = below;
  one_after = let following : begun_of host ≤ device.taken + 1 = agree.one_after in omega arith;
  settled = λ status e.
      let all : device.taken ≡ begun_of host = (agree.settled status e).taken in absurd (omega arith);
}

pub EndsAgree-finished : (host : HostBook) (device : Taken) (status : ℕ) → EndsAgree host device → device.status ≡ WORKING → EndsAgree host (finished device status)
EndsAgree-finished host device status agree working = record {
  not_ahead = agree.not_ahead;
  one_after = agree.one_after;
  settled = λ other e. let was : IsSettled host device other = agree.settled other e in absurd (was.final (sym was.status_kept ∙ working));
}

pub EndsAgree-told : (host : HostBook) (device : Taken) (report : Report) → EndsAgree host device → ReportFits (begun_of host) device report → open_session host ≡ Some report.session → report.status ≢ WORKING → EndsAgree (record host { outcome = Some report.status }) device
EndsAgree-told host device report agree fits is_open final =
    let last : report.session ≡ begun_of host = (open_session-Some host report.session is_open).0 in
    let from_one : 0 < report.session = fits.from_one in
    let reached : report.session ≤ device.taken = fits.of_taken in
    let below : device.taken ≤ begun_of host = agree.not_ahead in
    let same : report.session ≡ device.taken = omega arith in
    record {
      not_ahead = agree.not_ahead;
      one_after = agree.one_after;
      settled = λ status e.
          let equal : report.status ≡ status = grind arith in
          record {
            begun = omega arith;
            taken = omega arith;
            status_kept = fits.tells same final ∙ equal;
            final = subst (λ (x : ℕ). x ≢ WORKING) equal final;
          };
    }

-- a Get

-- a Get that goes on the air now, of the last session begun or the one before
pub GetFits-sent : (commands : List ℕ) (session command : ℕ) → command_at commands session ≡ Some command → length commands ≤ session + 1 → GetFits commands (record { session = session; command = command; begun = length commands })
GetFits-sent commands session command e near =
    let within : session ≤ length commands = (command_at-Some commands session command e).1 in
    record { carries = e; after_begin = within; before_second = near; already = omega arith }

pub GetFits-begins : (commands : List ℕ) (next : ℕ) (get : Get) → GetFits commands get → GetFits (commands ++ next ∷ []) get
GetFits-begins commands next get fits =
    let longer : length (commands ++ next ∷ []) ≡ length commands + 1 = grind (arith, length-append) in
    let was : get.begun ≤ length commands = fits.already in
    record {
      carries = command_at-push commands get.session get.command next fits.carries;
      after_begin = fits.after_begin;
      before_second = fits.before_second;
      already = omega arith;
    }

-- what a Get that may still be heard names
pub record GetNames (device : Taken) (get : Get) : Type 0 where
  -- it is not of a session that lies ahead
  pub within : get.session ≤ device.taken + 1
  -- it is one of 64 in a row
  pub near : device.taken + 1 ≤ get.session + 63
  -- New is its own session, which is the one after the last
  pub fresh : (session : ℕ) → heard_of device (wire_id get.session) ≡ New session → (session ≡ get.session) × (get.session ≡ device.taken + 1)
  -- Again is its own session, which is the last
  pub again : (status : ℕ) → heard_of device (wire_id get.session) ≡ Again status → get.session ≡ device.taken

pub get_names : (device : Taken) (get : Get) → get.session ≤ device.taken + 1 → device.taken + 1 ≤ get.session + 63 → GetNames device get
get_names device get within near = record {
  within = within;
  near = near;
  fresh = λ session e.
      let taken : IsTaken device (wire_id get.session) session = heard_of-New device (wire_id get.session) session e in
      let next : session ≡ device.taken + 1 = taken.next in
      let named : wire_id get.session ≡ wire_id session = taken.named in
      let same : get.session ≡ session = same_session get.session session named (omega arith) (omega arith) in
      (sym same, same ∙ next);
  again = λ status e.
      let named : wire_id get.session ≡ wire_id device.taken = (heard_of-Again device (wire_id get.session) status e).1 in
      let below : get.session ≤ device.taken = omega arith in
      same_session get.session device.taken named below (omega arith);
}

-- a Get that fits is one of 64 in a row while at most 61 sessions have begun since it was first sent
pub get_in_time : (host : HostBook) (device : Taken) (get : Get) → EndsAgree host device → GetFits host.commands get → begun_of host ≤ get.begun + 61 → GetNames device get
get_in_time host device get agree fits fresh =
    let below : device.taken ≤ begun_of host = agree.not_ahead in
    let following : begun_of host ≤ device.taken + 1 = agree.one_after in
    let after : get.session ≤ get.begun = fits.after_begin in
    let before : get.begun ≤ get.session + 1 = fits.before_second in
    let already : get.begun ≤ begun_of host = fits.already in
    get_names device get (omega arith) (omega arith)

-- a report

pub ReportFits-sent : (host : HostBook) (device : Taken) → EndsAgree host device → 0 < device.taken → ReportFits (begun_of host) device (record { session = device.taken; status = device.status; begun = begun_of host })
ReportFits-sent host device agree some = record {
  from_one = some;
  of_taken = omega arith;
  after_begin = agree.not_ahead;
  before_second = agree.one_after;
  already = omega arith;
  tells = λ _ _. refl;
}

pub ReportFits-begins : (begun more : ℕ) (device : Taken) (report : Report) → begun ≤ more → ReportFits begun device report → ReportFits more device report
ReportFits-begins begun more device report longer fits =
    let was : report.begun ≤ begun = fits.already in
    record {
      from_one = fits.from_one;
      of_taken = fits.of_taken;
      after_begin = fits.after_begin;
      before_second = fits.before_second;
      already = omega arith;
      tells = fits.tells;
    }

pub ReportFits-taken : (begun : ℕ) (device : Taken) (report : Report) → ReportFits begun device report → ReportFits begun (record { taken = device.taken + 1; status = WORKING }) report
ReportFits-taken begun device report fits =
    let was : report.session ≤ device.taken = fits.of_taken in
    record {
      from_one = fits.from_one;
      of_taken = omega arith;
      after_begin = fits.after_begin;
      before_second = fits.before_second;
      already = fits.already;
      tells = λ e _. absurd (omega arith);
    }

pub ReportFits-finished : (begun : ℕ) (device : Taken) (status : ℕ) (report : Report) → device.status ≡ WORKING → ReportFits begun device report → ReportFits begun (finished device status) report
ReportFits-finished begun device status report working fits = record {
  from_one = fits.from_one;
  of_taken = fits.of_taken;
  after_begin = fits.after_begin;
  before_second = fits.before_second;
  already = fits.already;
  tells = λ e final. absurd (final (sym (fits.tells e final) ∙ working));
}

-- what a report that may still be heard names
pub record ReportNames (host : HostBook) (device : Taken) (report : Report) : Type 0 where
  -- a final report is of the session that is open, which is its own and the last that the device took
  pub final : (session : ℕ) → told_of host (wire_id report.session) report.status ≡ Final session → (session ≡ report.session) × (open_session host ≡ Some report.session) × (report.session ≡ device.taken) × (report.status ≢ WORKING) × (device.status ≡ report.status)
  -- so is a Working report
  pub working : told_of host (wire_id report.session) report.status ≡ still_working → open_session host ≡ Some report.session

pub report_names : (host : HostBook) (device : Taken) (report : Report) → EndsAgree host device → ReportFits (begun_of host) device report → begun_of host ≤ report.session + 63 → ReportNames host device report
report_names host device report agree fits near =
    let below : device.taken ≤ begun_of host = agree.not_ahead in
    let reached : report.session ≤ device.taken = fits.of_taken in
    record {
      final = λ session e.
          let told = told_of-Final host (wire_id report.session) report.status session e in
          let last : session ≡ begun_of host = (open_session-Some host session told.0).0 in
          let named : wire_id report.session ≡ wire_id session = told.1 in
          let same : report.session ≡ session = same_session report.session session named (omega arith) (omega arith) in
          let of_last : report.session ≡ device.taken = omega arith in
          (sym same, subst (λ (x : ℕ). open_session host ≡ Some x) (sym same) told.0, of_last, told.2, fits.tells of_last told.2);
      working = λ e.
          let told = told_of-Working host (wire_id report.session) report.status e in
          let last : told.0 ≡ begun_of host = (open_session-Some host told.0 told.1).0 in
          let same : report.session ≡ told.0 = same_session report.session told.0 told.2 (omega arith) (omega arith) in
          subst (λ (x : ℕ). open_session host ≡ Some x) (sym same) told.1;
    }

-- a report that fits is one of 64 in a row while at most 62 sessions have begun since it was first sent
pub report_in_time : (host : HostBook) (device : Taken) (report : Report) → EndsAgree host device → ReportFits (begun_of host) device report → begun_of host ≤ report.begun + 62 → ReportNames host device report
report_in_time host device report agree fits fresh =
    let before : report.begun ≤ report.session + 1 = fits.before_second in
    report_names host device report agree fits (omega arith)

-- whole calls

-- an id that is heard is taken as new, or leaves the device as it was
pub after_get-cases : (device : Taken) (id : ℕ) → (after_get device id ≡ device) ⊎ ((session : ℕ) × (heard_of device id ≡ New session))
after_get-cases device id =
    elim (is_new device id) as (λ b. ((if b then record { taken = device.taken + 1; status = WORKING } else device) ≡ device) ⊎ ((session : ℕ) × ((if b then New (device.taken + 1) else (if is_again device id then Again device.status else Old)) ≡ New session))) [
      | true ↦ inr (device.taken + 1, refl)
      | false ↦ inl refl
    ]

-- hearing a Get that is one of 64 in a row keeps that both ends agree
pub EndsAgree-heard : (host : HostBook) (device : Taken) (get : Get) → EndsAgree host device → GetFits host.commands get → device.taken + 1 ≤ get.session + 63 → EndsAgree host (after_get device (wire_id get.session))
EndsAgree-heard host device get agree fits near =
    let after : get.session ≤ get.begun = fits.after_begin in
    let already : get.begun ≤ begun_of host = fits.already in
    let following : begun_of host ≤ device.taken + 1 = agree.one_after in
    let names : GetNames device get = get_names device get (omega arith) near in
    elim (after_get-cases device (wire_id get.session)) [
      | inl same ↦ rw same agree
      | inr fresh ↦
          let next : get.session ≡ device.taken + 1 = (names.fresh fresh.0 fresh.1).1 in
          let taken : IsTaken device (wire_id get.session) fresh.0 = heard_of-New device (wire_id get.session) fresh.0 fresh.1 in
          rw taken.after (EndsAgree-taken host device agree (omega arith))
    ]

-- hearing any id keeps that a report fits
pub ReportFits-heard : (begun : ℕ) (device : Taken) (id : ℕ) (report : Report) → ReportFits begun device report → ReportFits begun (after_get device id) report
ReportFits-heard begun device id report fits =
    elim (after_get-cases device id) [
      | inl same ↦ rw same fits
      | inr fresh ↦
          let taken : IsTaken device id fresh.0 = heard_of-New device id fresh.0 fresh.1 in
          rw taken.after (ReportFits-taken begun device report fits)
    ]

pub after_report-Final : (host : HostBook) (id status session : ℕ) → told_of host id status ≡ Final session → after_report host id status ≡ record host { outcome = Some status }
after_report-Final host id status session e = rw (after_report, e) refl

-- a report says one of three things
after_report-cases : (host : HostBook) (id status : ℕ) (told : Told) → told_of host id status ≡ told → (after_report host id status ≡ host) ⊎ ((session : ℕ) × (told_of host id status ≡ Final session))
after_report-cases host id status (Final session) e = inr (session, e)
after_report-cases host id status still_working e = inl (rw (after_report, e) refl)
after_report-cases host id status unknown e = inl (rw (after_report, e) refl)

-- taking a report that is one of 64 in a row keeps that both ends agree
pub EndsAgree-reported : (host : HostBook) (device : Taken) (report : Report) → EndsAgree host device → ReportFits (begun_of host) device report → begun_of host ≤ report.session + 63 → EndsAgree (after_report host (wire_id report.session) report.status) device
EndsAgree-reported host device report agree fits near =
    elim (after_report-cases host (wire_id report.session) report.status _ refl) [
      | inl same ↦ rw same agree
      | inr final ↦
          let is = (report_names host device report agree fits near).final final.0 final.1 in
          rw (after_report-Final host (wire_id report.session) report.status final.0 final.1)
          (EndsAgree-told host device report agree fits is.1 is.3)
    ]

-- nothing has happened
pub EndsAgree-start : EndsAgree no_sessions none_taken
EndsAgree-start = record {
  not_ahead = omega arith;
  one_after = omega arith;
  settled = λ status e. absurd (grind arith);
}

-- a Get that was first sent at most 61 sessions ago is one of 64 in a row
pub get_near : (host : HostBook) (device : Taken) (get : Get) → EndsAgree host device → GetFits host.commands get → begun_of host ≤ get.begun + 61 → device.taken + 1 ≤ get.session + 63
get_near host device get agree fits fresh = (get_in_time host device get agree fits fresh).near

-- a report that was first sent at most 62 sessions ago is one of 64 in a row
pub report_near : (host : HostBook) (device : Taken) (report : Report) → ReportFits (begun_of host) device report → begun_of host ≤ report.begun + 62 → begun_of host ≤ report.session + 63
report_near host device report fits fresh =
    let before : report.begun ≤ report.session + 1 = fits.before_second in omega arith

-- a segment that was first sent at most 13 sessions ago is of one of 16 in a row
pub segment_near : (host : HostBook) (device : Taken) (get : Get) → EndsAgree host device → GetFits host.commands get → begun_of host ≤ get.begun + 13 → device.taken + 1 ≤ get.session + 15
segment_near host device get agree fits fresh =
    let below : device.taken ≤ begun_of host = agree.not_ahead in
    let before : get.begun ≤ get.session + 1 = fits.before_second in
    omega arith

-- one session more: a Get that is heard then is taken for the session 64 further on
pub late_get : (session : ℕ) → heard_of (record { taken = session + 63; status = SUCCESS }) (wire_id session) ≡ New (session + 64)
late_get session =
    let same : wire_id session ≡ wire_id (session + 64) = omega arith in grind (arith, nat_tests)

-- and so is a report
pub late_report : (commands : List ℕ) (session : ℕ) → length commands ≡ session + 64 → told_of (record { commands = commands; outcome = None; attempts = 0 }) (wire_id session) SUCCESS ≡ Final (session + 64)
late_report [] session e = absurd (omega arith)
late_report (command ∷ more) session e =
    let same : wire_id session ≡ wire_id (session + 64) = omega arith in
    let named : wire_id session ≡ wire_id (length (command ∷ more)) = same ∙ ap wire_id (sym e) in
    grind (arith, nat_tests)
