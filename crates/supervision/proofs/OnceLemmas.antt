-- Every event keeps the facts of both ends, so they hold after every list of events.
use Rattle.std.proofs.Common.{◌≡◌, ◌≢◌, ℕ, ◌+◌, ◌<◌, ◌≤◌, Bool, true, false, ◌==◌, ◌&&◌, not, List, [], ◌∷◌, ◌++◌, length, Option, Some, None, refl, sym, ap, subst, ◌∙◌, inl, inr, arith, length-append}
use Rattle.std.specs.Prelude.{nat_lt, slice_get, unwrap_or, All, AllPairs, Contains, Any}
use Rattle.std.proofs.Math.ListN.{get_or-append}
use Rattle.std.proofs.lemmas.Bool.Decides.{nat_tests, eqb_tells, leb_tells}
use Rattle.std.proofs.lemmas.Option.{slice_get_within, get_or_from_slice_get}
use Rattle.std.proofs.lemmas.List.Elements.{All-nil, All-push, All-weaker, Contains-append_left, Contains-push}
use Rattle.std.proofs.lemmas.List.Quantifiers.{all_pairs_push, Any-push}
use Rattle.supervision.specs.Session.{wire_id, is_status}
use Rattle.supervision.specs.Host.{HostBook, begun_of, open_session, command_at, begins, with_attempts, told_of}
use Rattle.supervision.specs.Device.{Taken, heard_of, finished}
use Rattle.supervision.specs.Ends.{Get, Report, EndsAgree, GetFits, ReportFits}
use Rattle.supervision.specs.Once.{Ended, ended_as, IsEarlier, IsBegun, World, Event, start, begin_when, send_when, take_when, hear_get, finish_when, answer_when, tell_when, hear_report, happens, run}
use Rattle.supervision.specs.Once.Event.{Begin, Attempts, Send, Get_comes, Finish, Answer, Report_comes}
use Rattle.supervision.specs.declared.session.TheConstants.{WORKING}
use Rattle.supervision.specs.declared.host_node.Told.{Told}
use Rattle.supervision.specs.declared.host_node.Told.TheVariants.{Final, Working as still_working, Old as unknown}
use Rattle.supervision.specs.declared.device_book.Heard.{Heard}
use Rattle.supervision.specs.declared.device_book.Heard.TheVariants.{New, Again, Old}
use Rattle.supervision.proofs.EndsLemmas.{heard_of-New, IsTaken, open_session-Some, open_session-None, command_at-push, EndsAgree-begins, EndsAgree-start, after_report-Final, EndsAgree-attempts, EndsAgree-taken, EndsAgree-finished, EndsAgree-told, GetFits-sent, GetFits-begins, GetNames, get_in_time, ReportFits-sent, ReportFits-begins, ReportFits-taken, ReportFits-finished, ReportNames, report_in_time}

abbrev pub IsWithin : ℕ → Ended → Type 0
IsWithin n e = e.session ≤ n

abbrev pub IsBefore : ℕ → Ended → Type 0
IsBefore n e = e.session < n

-- what the device brought to an end, beside both books
pub record DoneFits (commands : List ℕ) (device : Taken) (held : ℕ) (done : List Ended) : Type 0 where
  pub rise : AllPairs IsEarlier done
  pub within : All (IsWithin device.taken) done
  pub before : device.status ≡ WORKING → All (IsBefore device.taken) done
  pub begun : All (IsBegun commands) done
  pub busy : device.status ≡ WORKING → 0 < device.taken
  pub holds : 0 < device.taken → command_at commands device.taken ≡ Some held
  pub last : 0 < device.taken → device.status ≢ WORKING → Contains done (record { session = device.taken; command = held; status = device.status })

-- what the host was told, beside its book and what the device brought to an end
pub record ToldFits (host : HostBook) (done told : List Ended) : Type 0 where
  pub rise : AllPairs IsEarlier told
  pub within : All (IsWithin (begun_of host)) told
  pub before : host.outcome ≡ None → All (IsBefore (begun_of host)) told
  pub was_done : All (Contains done) told
  pub each : (session : ℕ) → 0 < session → session < begun_of host → Any (λ e. e.session ≡ session) told
  pub last : (status : ℕ) → host.outcome ≡ Some status → Any (λ e. e.session ≡ begun_of host) told

-- what holds of every world
pub record Facts (w : World) : Type 0 where
  pub agree : EndsAgree w.host w.device
  pub gets : All (GetFits w.host.commands) w.gets
  pub reports : All (ReportFits (begun_of w.host) w.device) w.reports
  pub done : DoneFits w.host.commands w.device w.held w.done
  pub told : ToldFits w.host w.done w.told

-- lists

pub All-slice_get : {X : Type 0} (P : X → Type 0) (xs : List X) (k : ℕ) (x : X) → All P xs → slice_get xs k ≡ Some x → P x
All-slice_get P xs k x all e =
    subst P (get_or_from_slice_get xs k x x e) (all k x (slice_get_within xs k x e))

Any-append_left : {X : Type 0} (P : X → Type 0) (xs : List X) (y : X) → Any P xs → Any P (xs ++ y ∷ [])
Any-append_left P xs y any =
    let longer : length (xs ++ y ∷ []) ≡ length xs + 1 = grind (arith, length-append) in
    (any.0, any.1, omega arith, get_or-append xs (y ∷ []) any.1 any.0 any.2 ∙ any.3, any.4)

pub start-facts : Facts start
start-facts = record {
  agree = EndsAgree-start;
  gets = All-nil _;
  reports = All-nil _;
  done = record {
    rise = λ i j d a b. absurd (omega arith);
    within = All-nil _;
    before = λ _. All-nil _;
    begun = All-nil _;
    busy = λ e. absurd (omega arith);
    holds = λ some. absurd (omega arith);
    last = λ some _. absurd (omega arith);
  };
  told = record {
    rise = λ i j d a b. absurd (omega arith);
    within = All-nil _;
    before = λ _. All-nil _;
    was_done = All-nil _;
    each = λ session a b. absurd (omega arith);
    last = λ status e. absurd (grind arith);
  };
}

-- a session begins

pub DoneFits-begins : (commands : List ℕ) (command : ℕ) (device : Taken) (held : ℕ) (done : List Ended) → DoneFits commands device held done → DoneFits (commands ++ command ∷ []) device held done
DoneFits-begins commands command device held done fits = record {
  rise = fits.rise;
  within = fits.within;
  before = fits.before;
  begun = All-weaker (IsBegun commands) (IsBegun (commands ++ command ∷ [])) (λ e is. command_at-push commands e.session e.command command is) done fits.begun;
  busy = fits.busy;
  holds = λ some. command_at-push commands device.taken held command (fits.holds some);
  last = fits.last;
}

-- each session before the next one has its outcome
each_before : (host : HostBook) (done told : List Ended) → ToldFits host done told → open_session host ≡ None → (session : ℕ) → 0 < session → session < begun_of host + 1 → Any (λ e. e.session ≡ session) told
each_before host done told fits none session from_one below =
    elim (eqb_tells session (begun_of host)) [
      | inl same ↦
          elim (open_session-None host none) [
            | inl empty ↦ let is : session ≡ begun_of host = same.1 in absurd (omega arith)
            | inr ended ↦ subst (λ (n : ℕ). Any (λ e. e.session ≡ n) told) (sym same.1) (fits.last ended.0 ended.1)
          ]
      | inr other ↦ let ne : session ≢ begun_of host = other.1 in fits.each session from_one (omega arith)
    ]

pub ToldFits-begins : (host : HostBook) (command : ℕ) (done told : List Ended) → ToldFits host done told → open_session host ≡ None → ToldFits (begins host command) done told
ToldFits-begins host command done told fits none =
    let longer : length (host.commands ++ command ∷ []) ≡ length host.commands + 1 = grind (arith, length-append) in
    record {
      rise = fits.rise;
      within = All-weaker (IsWithin (begun_of host)) (IsWithin (begun_of (begins host command))) (λ e is. omega arith) told fits.within;
      before = λ _.
          All-weaker (IsWithin (begun_of host)) (IsBefore (begun_of (begins host command))) (λ e is. omega arith) told fits.within;
      was_done = fits.was_done;
      each = λ session from_one below. each_before host done told fits none session from_one (omega arith);
      last = λ status e. absurd (grind arith);
    }

Facts-begin : (w : World) (command : ℕ) → Facts w → open_session w.host ≡ None → Facts (record w { host = begins w.host command })
Facts-begin w command facts none =
    let longer : length (w.host.commands ++ command ∷ []) ≡ length w.host.commands + 1 = grind (arith, length-append) in
    record {
      agree = EndsAgree-begins w.host w.device command facts.agree none;
      gets = All-weaker _ _ (λ get fits. GetFits-begins w.host.commands command get fits) w.gets facts.gets;
      reports = All-weaker _ _
          (λ report fits. ReportFits-begins (begun_of w.host) (begun_of (begins w.host command)) w.device report (omega arith) fits)
          w.reports facts.reports;
      done = DoneFits-begins w.host.commands command w.device w.held w.done facts.done;
      told = ToldFits-begins w.host command w.done w.told facts.told none;
    }

-- attempts end, and series start

pub ToldFits-attempts : (host : HostBook) (now : ℕ) (done told : List Ended) → ToldFits host done told → ToldFits (with_attempts host now) done told
ToldFits-attempts host now done told fits = record {
  rise = fits.rise;
  within = fits.within;
  before = fits.before;
  was_done = fits.was_done;
  each = fits.each;
  last = fits.last;
}

Facts-attempts : (w : World) (now : ℕ) → Facts w → Facts (record w { host = with_attempts w.host now })
Facts-attempts w now facts = record {
  agree = EndsAgree-attempts w.host w.device now facts.agree;
  gets = facts.gets;
  reports = facts.reports;
  done = facts.done;
  told = ToldFits-attempts w.host now w.done w.told facts.told;
}

-- a Get goes on the air

Facts-send : (w : World) (session command : ℕ) → Facts w → command_at w.host.commands session ≡ Some command → begun_of w.host ≤ session + 1 → Facts (record w { gets = w.gets ++ record { session = session; command = command; begun = begun_of w.host } ∷ [] })
Facts-send w session command facts is near = record {
  agree = facts.agree;
  gets = All-push (GetFits w.host.commands) w.gets _ facts.gets (GetFits-sent w.host.commands session command is near);
  reports = facts.reports;
  done = facts.done;
  told = facts.told;
}

-- the device takes a session

pub DoneFits-taken : (commands : List ℕ) (device : Taken) (held command : ℕ) (done : List Ended) → DoneFits commands device held done → command_at commands (device.taken + 1) ≡ Some command → DoneFits commands (record { taken = device.taken + 1; status = WORKING }) command done
DoneFits-taken commands device held command done fits is = record {
  rise = fits.rise;
  within = All-weaker (IsWithin device.taken) (IsWithin (device.taken + 1)) (λ e below. omega arith) done fits.within;
  before = λ _. All-weaker (IsWithin device.taken) (IsBefore (device.taken + 1)) (λ e below. omega arith) done fits.within;
  begun = fits.begun;
  busy = λ _. omega arith;
  holds = λ _. is;
  last = λ _ final. absurd (final refl);
}

Facts-take : (w : World) (get : Get) (session : ℕ) → Facts w → GetFits w.host.commands get → get.session ≡ w.device.taken + 1 → Facts (record w { device = record { taken = w.device.taken + 1; status = WORKING }; held = get.command })
Facts-take w get session facts fits next =
    let after : get.session ≤ get.begun = fits.after_begin in
    let already : get.begun ≤ begun_of w.host = fits.already in
    record {
      agree = EndsAgree-taken w.host w.device facts.agree (omega arith);
      gets = facts.gets;
      reports = All-weaker _ _ (λ report is. ReportFits-taken (begun_of w.host) w.device report is) w.reports facts.reports;
      done = DoneFits-taken w.host.commands w.device w.held get.command w.done facts.done
          (subst (λ (n : ℕ). command_at w.host.commands n ≡ Some get.command) next fits.carries);
      told = facts.told;
    }

-- the device brings it to its end

pub DoneFits-finished : (commands : List ℕ) (device : Taken) (held status : ℕ) (done : List Ended) → DoneFits commands device held done → device.status ≡ WORKING → status ≢ WORKING → DoneFits commands (finished device status) held (done ++ record { session = device.taken; command = held; status = status } ∷ [])
DoneFits-finished commands device held status done fits working final = record {
  rise = all_pairs_push IsEarlier done _ fits.rise (fits.before working);
  within = All-push (IsWithin device.taken) done _ fits.within (omega arith);
  before = λ is. absurd (final is);
  begun = All-push (IsBegun commands) done _ fits.begun (fits.holds (fits.busy working));
  busy = λ is. absurd (final is);
  holds = fits.holds;
  last = λ _ _. Contains-push done _;
}

pub ToldFits-finished : (host : HostBook) (done told : List Ended) (next : Ended) → ToldFits host done told → ToldFits host (done ++ next ∷ []) told
ToldFits-finished host done told next fits = record {
  rise = fits.rise;
  within = fits.within;
  before = fits.before;
  was_done = All-weaker (Contains done) (Contains (done ++ next ∷ [])) (λ e is. Contains-append_left done (next ∷ []) e is) told fits.was_done;
  each = fits.each;
  last = fits.last;
}

Facts-finish : (w : World) (status : ℕ) → Facts w → w.device.status ≡ WORKING → status ≢ WORKING → Facts (record w { device = finished w.device status; done = w.done ++ record { session = w.device.taken; command = w.held; status = status } ∷ [] })
Facts-finish w status facts working final = record {
  agree = EndsAgree-finished w.host w.device status facts.agree working;
  gets = facts.gets;
  reports = All-weaker _ _ (λ report is. ReportFits-finished (begun_of w.host) w.device status report working is) w.reports facts.reports;
  done = DoneFits-finished w.host.commands w.device w.held status w.done facts.done working final;
  told = ToldFits-finished w.host w.done w.told _ facts.told;
}

-- it reports

Facts-answer : (w : World) → Facts w → 0 < w.device.taken → Facts (record w { reports = w.reports ++ record { session = w.device.taken; status = w.device.status; begun = begun_of w.host } ∷ [] })
Facts-answer w facts some = record {
  agree = facts.agree;
  gets = facts.gets;
  reports = All-push (ReportFits (begun_of w.host) w.device) w.reports _ facts.reports (ReportFits-sent w.host w.device facts.agree some);
  done = facts.done;
  told = facts.told;
}

-- the host is told

pub ToldFits-told : (host : HostBook) (done told : List Ended) (next : Ended) → ToldFits host done told → host.outcome ≡ None → next.session ≡ begun_of host → Contains done next → ToldFits (record host { outcome = Some next.status }) done (told ++ next ∷ [])
ToldFits-told host done told next fits none last is = record {
  rise = all_pairs_push IsEarlier told _ fits.rise (λ k d below. let is_before = fits.before none k d below in omega (arith, is_before));
  within = All-push (IsWithin (begun_of host)) told _ fits.within (omega arith);
  before = λ e. absurd (grind arith);
  was_done = All-push (Contains done) told _ fits.was_done is;
  each = λ session from_one below. Any-append_left _ told next (fits.each session from_one below);
  last = λ status e. Any-push _ told next last;
}

Facts-told : (w : World) (report : Report) (session : ℕ) → Facts w → ReportFits (begun_of w.host) w.device report → session ≡ report.session → open_session w.host ≡ Some report.session → report.session ≡ w.device.taken → report.status ≢ WORKING → w.device.status ≡ report.status → Facts (record w { host = record w.host { outcome = Some report.status }; told = w.told ++ record { session = session; command = unwrap_or (command_at w.host.commands session) 0; status = report.status } ∷ [] })
Facts-told w report session facts fits same is_open of_last final tells =
    let opened = open_session-Some w.host report.session is_open in
    let from_one : 0 < report.session = fits.from_one in
    let some : 0 < w.device.taken = omega arith in
    let idle : w.device.status ≢ WORKING = λ e. final (sym tells ∙ e) in
    let number : session ≡ w.device.taken = same ∙ of_last in
    let holds : command_at w.host.commands session ≡ Some w.held =
    subst (λ (n : ℕ). command_at w.host.commands n ≡ Some w.held) (sym number) (facts.done.holds some) in
    let command : unwrap_or (command_at w.host.commands session) 0 ≡ w.held = ap (λ (o : Option ℕ). unwrap_or o 0) holds in
    let equal : ended_as w.device.taken w.held w.device.status ≡ ended_as session (unwrap_or (command_at w.host.commands session) 0) report.status = cc in
    record {
      agree = EndsAgree-told w.host w.device report facts.agree fits is_open final;
      gets = facts.gets;
      reports = facts.reports;
      done = facts.done;
      told = ToldFits-told w.host w.done w.told _ facts.told opened.2 (same ∙ opened.0) (
          subst (λ (e : Ended). Contains w.done e) equal (facts.done.last some idle));
    }

-- every event

begin_when-keeps : (w : World) (command : ℕ) (o : Option ℕ) → open_session w.host ≡ o → Facts w → Facts (begin_when w command o)
begin_when-keeps w command None e facts = Facts-begin w command facts e
begin_when-keeps w command (Some session) e facts = facts

send_when-keeps : (w : World) (session : ℕ) (o : Option ℕ) → command_at w.host.commands session ≡ o → Facts w → Facts (send_when w session o)
send_when-keeps w session None e facts = facts
send_when-keeps w session (Some command) e facts =
    elim (leb_tells (begun_of w.host) (session + 1)) [
      | inl near ↦ rw near.0 (Facts-send w session command facts e near.1)
      | inr far ↦ rw far.0 facts
    ]

take_when-keeps : (w : World) (get : Get) (heard : Heard) → heard_of w.device (wire_id get.session) ≡ heard → GetFits w.host.commands get → GetNames w.device get → Facts w → Facts (take_when w get heard)
take_when-keeps w get (New session) e fits names facts =
    let taken : IsTaken w.device (wire_id get.session) session = heard_of-New w.device (wire_id get.session) session e in
    rw taken.after (Facts-take w get session facts fits (names.fresh session e).1)
take_when-keeps w get (Again status) e fits names facts = facts
take_when-keeps w get Old e fits names facts = facts

hear_get-keeps : (w : World) (which : ℕ) (o : Option Get) → slice_get w.gets which ≡ o → Facts w → Facts (hear_get w o)
hear_get-keeps w which None e facts = facts
hear_get-keeps w which (Some get) e facts =
    let fits : GetFits w.host.commands get = All-slice_get (GetFits w.host.commands) w.gets which get facts.gets e in
    elim (leb_tells (begun_of w.host) (get.begun + 61)) [
      | inl fresh ↦
          rw fresh.0 (take_when-keeps w get (heard_of w.device (wire_id get.session)) refl fits
          (get_in_time w.host w.device get facts.agree fits fresh.1) facts)
      | inr stale ↦ rw stale.0 facts
    ]

finish_when-keeps : (w : World) (status : ℕ) (now : Bool) → (w.device.status == WORKING && (is_status status && not (status == WORKING))) ≡ now → Facts w → Facts (finish_when w status now)
finish_when-keeps w status true e facts =
    Facts-finish w status facts (grind (arith, nat_tests)) (grind (arith, nat_tests))
finish_when-keeps w status false e facts = facts

answer_when-keeps : (w : World) (now : Bool) → nat_lt 0 w.device.taken ≡ now → Facts w → Facts (answer_when w now)
answer_when-keeps w true e facts = Facts-answer w facts (grind (arith, nat_tests))
answer_when-keeps w false e facts = facts

tell_when-keeps : (w : World) (report : Report) (told : Told) → told_of w.host (wire_id report.session) report.status ≡ told → ReportFits (begun_of w.host) w.device report → ReportNames w.host w.device report → Facts w → Facts (tell_when w report told)
tell_when-keeps w report (Final session) e fits names facts =
    let is = names.final session e in
    rw (after_report-Final w.host (wire_id report.session) report.status session e)
    (Facts-told w report session facts fits is.0 is.1 is.2 is.3 is.4)
tell_when-keeps w report still_working e fits names facts = facts
tell_when-keeps w report unknown e fits names facts = facts

hear_report-keeps : (w : World) (which : ℕ) (o : Option Report) → slice_get w.reports which ≡ o → Facts w → Facts (hear_report w o)
hear_report-keeps w which None e facts = facts
hear_report-keeps w which (Some report) e facts =
    let fits : ReportFits (begun_of w.host) w.device report = All-slice_get (ReportFits (begun_of w.host) w.device) w.reports which report facts.reports e in
    elim (leb_tells (begun_of w.host) (report.begun + 62)) [
      | inl fresh ↦
          rw fresh.0 (tell_when-keeps w report (told_of w.host (wire_id report.session) report.status) refl fits
          (report_in_time w.host w.device report facts.agree fits fresh.1) facts)
      | inr stale ↦ rw stale.0 facts
    ]

pub happens-keeps : (w : World) (event : Event) → Facts w → Facts (happens w event)
happens-keeps w (Begin command) facts = begin_when-keeps w command (open_session w.host) refl facts
happens-keeps w (Attempts now) facts = Facts-attempts w now facts
happens-keeps w (Send session) facts = send_when-keeps w session (command_at w.host.commands session) refl facts
happens-keeps w (Get_comes which) facts = hear_get-keeps w which (slice_get w.gets which) refl facts
happens-keeps w (Finish status) facts = finish_when-keeps w status _ refl facts
happens-keeps w Answer facts = answer_when-keeps w (nat_lt 0 w.device.taken) refl facts
happens-keeps w (Report_comes which) facts = hear_report-keeps w which (slice_get w.reports which) refl facts

run-keeps : (events : List Event) (w : World) → Facts w → Facts (run events w)
run-keeps [] w facts = facts
run-keeps (event ∷ events) w facts = run-keeps events (happens w event) (happens-keeps w event facts)

pub always-facts : (events : List Event) → Facts (run events start)
always-facts events = run-keeps events start start-facts
