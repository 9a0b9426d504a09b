-- How each thing that happens at a node keeps what holds of it.
use Rattle.std.proofs.Common.{◌≡◌, ℕ, zero, suc, ◌+◌, ◌-◌, ◌<◌, ◌≤◌, Bool, true, false, Option, Some, None, List, [], ◌∷◌, ◌++◌, length, ap, refl, sym, subst, ◌∙◌, arith, length-append, append_assoc}
use Rattle.std.specs.Prelude.{◌&&◌, slice_get, slice_index_or, is_none}
use Rattle.std.proofs.lemmas.Bool.Decides.{nat_tests}
use Rattle.std.proofs.lemmas.Option.{slice_get-get_or}
use Rattle.supervision.specs.Session.{wire_id}
use Rattle.supervision.specs.Host.{HostBook, begun_of, open_session, command_at, told_of}
use Rattle.supervision.specs.Device.{Taken, heard_of, after_get}
use Rattle.supervision.specs.Ends.{Get, Report, ReportFits}
use Rattle.supervision.specs.declared.session.TheConstants.{SUCCESS, WORKING}
use Rattle.supervision.specs.declared.host_node.Told.TheVariants.{Final}
use Rattle.supervision.specs.declared.device_book.Heard.TheVariants.{New}
use Rattle.supervision.proofs.EndsLemmas.{open_session-Some, heard_of-New, told_of-Final, after_report-Final, GetNames, get_in_time, get_near, report_near, EndsAgree-begins, EndsAgree-heard, EndsAgree-finished, EndsAgree-reported, GetFits-sent, GetFits-begins, ReportFits-sent, ReportFits-begins, ReportFits-heard, ReportFits-finished}
use Rattle.event_flow.specs.declared.frame.Notice.{Notice}
use Rattle.event_flow.specs.declared.frame.Content.{Content}
use Rattle.event_flow.specs.declared.frame.Content.TheVariants.{Event as EventContent, Receipt}
use Rattle.event_flow.specs.declared.node_flow.TheConstants.{EVENT}
use Rattle.event_flow.specs.State.{NodeState, known_count, unknown_count, may_begin, event_frame, receipt_frame}
use Rattle.event_flow.specs.Steps.{with_begun, with_queued, with_known, with_taken}
use Rattle.event_flow.proofs.Facts.{FitsBy, FrameFits, Loose, NodeInv, Keeps, known-none, known-open, open-push}

-- ---- an event is queued

slice_get-push : {A : Type 0} (xs : List A) (k : ℕ) (x y : A) → slice_get xs k ≡ Some x → slice_get (xs ++ y ∷ []) k ≡ Some x
slice_get-push [] k x y e = absurd (grind arith)
slice_get-push (z ∷ xs) zero x y e = e
slice_get-push (z ∷ xs) (suc k) x y e = slice_get-push xs k x y e

pub queued-loose : (n : NodeState) (notice : Notice) → Loose n → unknown_count n < 16 → Loose (with_queued n notice)
queued-loose n notice loose few =
    let longer : length (n.queued ++ notice ∷ []) ≡ length n.queued + 1 = length-append n.queued (notice ∷ []) in
    record {
      agrees = loose.agrees;
      success = loose.success;
      counted = loose.counted;
      prefix = (loose.prefix.0 ++ notice ∷ [], ap (λ xs. xs ++ notice ∷ []) loose.prefix.1 ∙ append_assoc n.taken loose.prefix.0 (notice ∷ []));
      begun = omega (arith, longer, loose.begun);
      few = omega (arith, longer, few);
    }

pub queued-keeps : (n : NodeState) (notice : Notice) → Keeps n (with_queued n notice)
queued-keeps n notice frame fits = fits_by frame.content fits
  where
    fits_by : (content : Content) → FitsBy n frame.session frame.begun content → FitsBy (with_queued n notice) frame.session frame.begun content
    fits_by (EventContent one) fits = (fits.0, fits.1, slice_get-push n.queued (frame.session - 1) one notice fits.2)
    fits_by Receipt fits = fits

-- ---- a session begins

-- a session may begin
record MayBegin (n : NodeState) : Type 0 where
  none : open_session n.device ≡ None
  waits : begun_of n.device < length n.queued

may_begin-is : (n : NodeState) → may_begin n ≡ true → MayBegin n
may_begin-is n e = record { none = is_closed (open_session n.device) (grind arith); waits = grind (arith, nat_tests) }
  where
    is_closed : (o : Option ℕ) → is_none o ≡ true → o ≡ None
    is_closed None e = refl
    is_closed (Some x) e = absurd (grind arith)

pub begun-open : (n : NodeState) → open_session (with_begun n).device ≡ Some (begun_of n.device + 1)
begun-open n = open-push n.device.commands EVENT

pub begun-known : (n : NodeState) → may_begin n ≡ true → known_count (with_begun n) ≡ known_count n
begun-known n may =
    let is = may_begin-is n may in
    let before = known-none n is.none in
    let now = known-open (with_begun n) (begun_of n.device + 1) (begun-open n) in
    omega (arith, before, now)

pub begun-inv : (n : NodeState) → Loose n → may_begin n ≡ true → NodeInv (with_begun n)
begun-inv n loose may =
    let is = may_begin-is n may in
    let longer : begun_of (with_begun n).device ≡ begun_of n.device + 1 = length-append n.device.commands (EVENT ∷ []) in
    record {
      loose = record {
        agrees = EndsAgree-begins n.device n.host EVENT loose.agrees is.none;
        success = loose.success;
        counted = loose.counted;
        prefix = loose.prefix;
        begun = omega (arith, longer, is.waits);
        few = omega (arith, begun-known n may, loose.few);
      };
      settled = stays_open (open_session (with_begun n).device) (begun_of n.device + 1) _ (begun-open n);
    }
  where
    stays_open : (o : Option ℕ) (x : ℕ) (b : Bool) → o ≡ Some x → (is_none o && b) ≡ false
    stays_open o x b e = ap (λ p. is_none p && b) e

pub begun-keeps : (n : NodeState) → Keeps n (with_begun n)
begun-keeps n frame fits = fits_by frame.content fits
  where
    fits_by : (content : Content) → FitsBy n frame.session frame.begun content → FitsBy (with_begun n) frame.session frame.begun content
    fits_by (EventContent one) fits = (fits.0, GetFits-begins n.device.commands EVENT _ fits.1, fits.2)
    fits_by Receipt fits =
        let longer : begun_of (with_begun n).device ≡ begun_of n.device + 1 = length-append n.device.commands (EVENT ∷ []) in
        ReportFits-begins (begun_of n.device) (begun_of (with_begun n).device) n.host _ (omega (arith, longer)) fits

-- the command of the last session
last_command : (commands : List ℕ) (before : ℕ) → length commands ≡ suc before → command_at commands (length commands) ≡ Some (slice_index_or commands before 0)
last_command commands before e = ap (command_at commands) e ∙ slice_get-get_or commands before 0 (omega (arith, e))

-- the frame of the last session that has begun
pub event-fits : (node : ℕ) (n : NodeState) → 0 < begun_of n.device → begun_of n.device ≤ length n.queued → FrameFits n (event_frame node n)
event-fits node n some within = (
  slice_index_or n.device.commands (length n.device.commands - 1) 0,
  GetFits-sent n.device.commands (length n.device.commands) _ (last_command n.device.commands (length n.device.commands - 1) (omega (arith, some))) (omega arith),
  slice_get-get_or n.queued (begun_of n.device - 1) (record { kind = 0; level = 0 }) (omega (arith, some, within)),
)

-- ---- the host hears

-- what is next of a list, where that is known
next_is : {A : Type 0} (xs rest : List A) (y : A) → slice_get (xs ++ rest) (length xs) ≡ Some y → (more : List A) × (rest ≡ y ∷ more)
next_is [] [] y e = absurd (grind arith)
next_is [] (z ∷ rest) y e = (rest, cc)
next_is (x ∷ xs) rest y e = next_is xs rest y e

-- a frame that may be heard as new is the next one, and has the next event in it
pub record IsNext (n : NodeState) (session : ℕ) (notice : Notice) : Type 0 where
  pub number : session ≡ length n.taken + 1
  pub more : List Notice
  pub queued : n.queued ≡ n.taken ++ (notice ∷ more)

pub new-next : (n : NodeState) (session begun : ℕ) (notice : Notice) → Loose n → FitsBy n session begun (EventContent notice) → begun_of n.device ≤ begun + 61 → (named : ℕ) → heard_of n.host (wire_id session) ≡ New named → IsNext n session notice
new-next n session begun notice loose fits fresh named e =
    let get : Get = record { session = session; command = fits.0; begun = begun } in
    let names : GetNames n.host get = get_in_time n.device n.host get loose.agrees fits.1 fresh in
    let next : session ≡ n.host.taken + 1 = (names.fresh named e).1 in
    let place : session - 1 ≡ length n.taken = omega (arith, next, loose.counted) in
    let there : slice_get (n.taken ++ loose.prefix.0) (length n.taken) ≡ Some notice = subst (λ (xs : List Notice). slice_get xs (length n.taken) ≡ Some notice) loose.prefix.1 (subst (λ (k : ℕ). slice_get n.queued k ≡ Some notice) place fits.2) in
    let rest = next_is n.taken loose.prefix.0 notice there in
    record { number = omega (arith, next, loose.counted); more = rest.0; queued = loose.prefix.1 ∙ ap (λ xs. n.taken ++ xs) rest.1 }

-- the host's book after a new one
pub new-host : (n : NodeState) (id named : ℕ) → heard_of n.host id ≡ New named → after_get n.host id ≡ record { taken = n.host.taken + 1; status = WORKING }
new-host n id named e = (heard_of-New n.host id named e).after

pub taken-loose : (n : NodeState) (session begun : ℕ) (notice : Notice) → Loose n → FitsBy n session begun (EventContent notice) → begun_of n.device ≤ begun + 61 → (named : ℕ) → heard_of n.host (wire_id session) ≡ New named → Loose (with_taken n (wire_id session) notice)
taken-loose n session begun notice loose fits fresh named e =
    let get : Get = record { session = session; command = fits.0; begun = begun } in
    let next = new-next n session begun notice loose fits fresh named e in
    let host = new-host n (wire_id session) named e in
    let longer : length (n.taken ++ notice ∷ []) ≡ length n.taken + 1 = length-append n.taken (notice ∷ []) in
    let count : (after_get n.host (wire_id session)).taken ≡ n.host.taken + 1 = ap (λ (t : Taken). t.taken) host in
    record {
      agrees =
          EndsAgree-finished n.device (after_get n.host (wire_id session)) SUCCESS
          (EndsAgree-heard n.device n.host get loose.agrees fits.1 (get_near n.device n.host get loose.agrees fits.1 fresh))
          (ap (λ (t : Taken). t.status) host);
      success = refl;
      counted = omega (arith, count, longer, loose.counted);
      prefix = (next.more, next.queued ∙ sym (append_assoc n.taken (notice ∷ []) next.more));
      begun = loose.begun;
      few = loose.few;
    }

pub taken-keeps : (n : NodeState) (id : ℕ) (notice : Notice) (named : ℕ) → heard_of n.host id ≡ New named → Keeps n (with_taken n id notice)
taken-keeps n id notice named e frame fits = fits_by frame.content fits
  where
    fits_by : (content : Content) → FitsBy n frame.session frame.begun content → FitsBy (with_taken n id notice) frame.session frame.begun content
    fits_by (EventContent one) fits = fits
    fits_by Receipt fits =
        ReportFits-finished (begun_of n.device) (after_get n.host id) SUCCESS _ (ap (λ (t : Taken). t.status) (new-host n id named e))
        (ReportFits-heard (begun_of n.device) n.host id _ fits)

-- the answer to the last session that the host took
pub receipt-fits : (node : ℕ) (n : NodeState) → Loose n → 0 < n.host.taken → FrameFits n (receipt_frame node n)
receipt-fits node n loose some =
    subst (λ (s : ℕ). ReportFits (begun_of n.device) n.host (record { session = n.host.taken; status = s; begun = begun_of n.device })) loose.success
    (ReportFits-sent n.device n.host loose.agrees some)

-- ---- the device hears

-- a final report is of the open session, which becomes known
pub known-device : (n : NodeState) (id session : ℕ) → told_of n.device id SUCCESS ≡ Final session → (with_known n id).device ≡ record n.device { outcome = Some SUCCESS }
known-device n id session e = after_report-Final n.device id SUCCESS session e

ended-closed : (book : HostBook) (status : ℕ) → open_session (record book { outcome = Some status }) ≡ None
ended-closed book status = refl

pub record IsKnown (n : NodeState) (id session : ℕ) : Type 0 where
  pub before : known_count n + 1 ≡ session
  pub after : known_count (with_known n id) ≡ session
  pub begun : begun_of (with_known n id).device ≡ begun_of n.device

pub known-counts : (n : NodeState) (id session : ℕ) → told_of n.device id SUCCESS ≡ Final session → IsKnown n id session
known-counts n id session e =
    let told = told_of-Final n.device id SUCCESS session e in
    let last = open_session-Some n.device session told.0 in
    let device = known-device n id session e in
    let closed : open_session (with_known n id).device ≡ None = ap open_session device ∙ ended-closed n.device SUCCESS in
    let begun : begun_of (with_known n id).device ≡ begun_of n.device = ap begun_of device in
    record {
      before = omega (arith, known-open n session told.0, last.1);
      after = known-none (with_known n id) closed ∙ begun ∙ sym last.0;
      begun = begun;
    }

pub known-loose : (n : NodeState) (session begun : ℕ) → Loose n → FitsBy n session begun Receipt → begun_of n.device ≤ begun + 61 → (named : ℕ) → told_of n.device (wire_id session) SUCCESS ≡ Final named → Loose (with_known n (wire_id session))
known-loose n session begun loose fits fresh named e =
    let report : Report = record { session = session; status = SUCCESS; begun = begun } in
    let counts = known-counts n (wire_id session) named e in
    record {
      agrees = EndsAgree-reported n.device n.host report loose.agrees fits (report_near n.device n.host report fits (omega (arith, fresh)));
      success = loose.success;
      counted = loose.counted;
      prefix = loose.prefix;
      begun = omega (arith, counts.begun, loose.begun);
      few = omega (arith, counts.before, counts.after, loose.few);
    }

pub known-keeps : (n : NodeState) (id session : ℕ) → told_of n.device id SUCCESS ≡ Final session → Keeps n (with_known n id)
known-keeps n id session e frame fits =
    subst (λ (d : HostBook). FrameFits (record n { device = d }) frame) (sym (known-device n id session e)) (fits_by frame.content fits)
  where
    fits_by : (content : Content) → FitsBy n frame.session frame.begun content → FitsBy (record n { device = record n.device { outcome = Some SUCCESS } }) frame.session frame.begun content
    fits_by (EventContent one) fits = fits
    fits_by Receipt fits = fits
