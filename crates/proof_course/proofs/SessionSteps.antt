-- Each thing that happens keeps the facts of a course.
use Rattle.std.proofs.Common.{◌≡◌, ◌≢◌, ℕ, zero, suc, ◌+◌, ◌<◌, ◌≤◌, Bool, true, false, List, [], ◌∷◌, ◌++◌, length, Option, Some, None, refl, sym, ap, subst, ◌∙◌, inl, inr, arith, append_assoc, length-append}
use Rattle.std.specs.Prelude.{max, slice_get, ◌&&◌, ◌%◌, if◌then◌else◌}
use Rattle.std.proofs.lemmas.Bool.{eqb-true}
use Rattle.std.specs.List.{AllByRecursion, remove}
use Rattle.zw_base.proofs.Each.{all-append, all-both, all-weaker}
use Rattle.supervision.specs.Session.{wire_id}
use Rattle.supervision.specs.Host.{HostBook, begun_of, open_session, command_at, begins, with_attempts, told_of, after_report}
use Rattle.supervision.specs.Device.{Taken, heard_of, is_new, finished}
use Rattle.supervision.specs.Ends.{Get, Report, EndsAgree, GetFits}
use Rattle.supervision.specs.declared.session.TheConstants.{WORKING}
use Rattle.supervision.specs.declared.host_node.Told.{Told}
use Rattle.supervision.specs.declared.device_book.Heard.TheVariants.{New}
use Rattle.supervision.proofs.EndsLemmas.{all_taken, open_session-Some, heard_of-New, IsTaken, get_names, GetNames, report_names, EndsAgree-begins, EndsAgree-attempts, EndsAgree-taken, EndsAgree-finished, EndsAgree-reported, GetFits-sent, ReportFits-sent}
use Rattle.proof_course.specs.Sessions.{Course, Message, Cargo, Command, Answer, session_of, is_of_host, flies, after_message, kept_after, is_segment_of_next, told_by}
use Rattle.proof_course.specs.Ways.{doubled, NeverFalls, NoneAhead}
use Rattle.proof_course.specs.Flying.{Flight, hosts, one_of, KeepsUp}
use Rattle.proof_course.specs.SessionFacts.{IsDue, IsTrueReport, FitsBy, Fits, IsOnTime, IsOfNext, CourseFacts, reported}
use Rattle.proof_course.proofs.Lists.{all-remove, all-doubled, never-remove, never-doubled, never-push, none-remove, none-doubled, none-push, none-begin}
use Rattle.proof_course.proofs.FramesOnAir.{hosts-push, keeps-begin, keeps-push, keeps-send}
use Rattle.proof_course.proofs.SessionEnds.{one_more, true-begin, fits-begin, fits-sent, taking, fits-taking, on_time-taking, same_of_16, new_heard, command_at-last, fits-finish, on_time-finish, report-cases}

-- ---- the host

pub begins-step : (c : Course) (command : ℕ) → CourseFacts c → open_session c.host ≡ None → CourseFacts (record c { host = begins c.host command })
begins-step c command facts none =
    let all : c.device.taken ≡ begun_of c.host = all_taken c.host c.device facts.agree none in
    let taken : c.device.taken ≤ c.sent = facts.taken in
    let sent : c.sent ≤ begun_of c.host = facts.sent in
    let more : begun_of (begins c.host command) ≡ begun_of c.host + 1 = one_more c.host command in
    let told : length c.told ≡ begun_of c.host = facts.told_are.closed none in
    record {
      agree = EndsAgree-begins c.host c.device command facts.agree none;
      taken = taken;
      of_next = facts.of_next;
      sent = omega arith;
      due = all-weaker (IsDue c.sent (begun_of c.host)) (IsDue c.sent (begun_of (begins c.host command))) (λ (m : Message) is.
          let unsent : c.sent ≤ m.session = is.unsent in let has_begun : m.session ≤ begun_of c.host = is.has_begun in
          record { from_one = is.from_one; unsent = unsent; has_begun = omega arith; near = omega arith }) c.up facts.due;
      in_turn = facts.in_turn;
      flying = all-weaker (Fits c) (Fits (record c { host = begins c.host command })) (λ f fits. fits-begin c.host c.device c.sent c.ends command f.since f.cargo fits) c.air facts.flying;
      flown = all-weaker (Fits c) (Fits (record c { host = begins c.host command })) (λ f fits. fits-begin c.host c.device c.sent c.ends command f.since f.cargo fits) c.old facts.flown;
      few = facts.few;
      keeps_up = subst (λ (b : ℕ). KeepsUp is_of_host b c.sent c.air) (sym more) (keeps-begin is_of_host (begun_of c.host) c.sent c.air (omega arith) facts.keeps_up);
      on_time = all-weaker (IsOnTime c.host c.device c.ends) (IsOnTime (begins c.host command) c.device c.ends) (λ (r : Report) is.
          let near : begun_of c.host ≤ r.session + 63 = is.near in
          let other : begun_of c.host ≢ r.session + 63 = λ e. is.edge e none in
          record {
            fits = true-begin c.host c.device c.ends command r is.fits;
            near = omega arith;
            edge = λ e still. absurd (grind (arith, length-append));
          }) c.down facts.on_time;
      none_ahead = subst (λ (b : ℕ). NoneAhead reported 63 b c.down) (sym more) (none-begin reported 63 (begun_of c.host) c.down
          (all-weaker (IsOnTime c.host c.device c.ends) (λ (r : Report). r.session ≤ begun_of c.host) (λ (r : Report) is.
          let reached : r.session ≤ c.device.taken = is.fits.0.of_taken in omega arith) c.down facts.on_time));
      ends_are = facts.ends_are;
      told_are = record {
        rest = facts.told_are.rest;
        prefix = facts.told_are.prefix;
        closed = λ still. absurd (grind (arith, length-append));
        opened = λ session is. omega arith;
      };
    }

pub attempts-step : (c : Course) (count : ℕ) → CourseFacts c → CourseFacts (record c { host = with_attempts c.host count })
attempts-step c count facts = record {
  agree = EndsAgree-attempts c.host c.device count facts.agree;
  taken = facts.taken;
  of_next = facts.of_next;
  sent = facts.sent;
  due = facts.due;
  in_turn = facts.in_turn;
  flying = facts.flying;
  flown = facts.flown;
  few = facts.few;
  keeps_up = facts.keeps_up;
  on_time = all-weaker (IsOnTime c.host c.device c.ends) (IsOnTime (with_attempts c.host count) c.device c.ends)
      (λ (r : Report) is. record { fits = is.fits; near = is.near; edge = is.edge }) c.down facts.on_time;
  none_ahead = facts.none_ahead;
  ends_are = facts.ends_are;
  told_are = record { rest = facts.told_are.rest; prefix = facts.told_are.prefix; closed = facts.told_are.closed; opened = facts.told_are.opened };
}

-- ---- up to the chip

-- the messages on their way are others, of which as much holds
pub up-step : (c : Course) (up : List Message) → CourseFacts c → AllByRecursion (IsDue c.sent (begun_of c.host)) up → NeverFalls session_of up → CourseFacts (record c { up = up })
up-step c up facts due in_turn = record {
  agree = facts.agree;
  taken = facts.taken;
  of_next = facts.of_next;
  sent = facts.sent;
  due = due;
  in_turn = in_turn;
  flying = facts.flying;
  flown = facts.flown;
  few = facts.few;
  keeps_up = facts.keeps_up;
  on_time = facts.on_time;
  none_ahead = facts.none_ahead;
  ends_are = facts.ends_are;
  told_are = facts.told_are;
}

pub writes-step : (c : Course) (is_segment : Bool) → CourseFacts c → 0 < begun_of c.host → CourseFacts (record c { up = c.up ++ record { session = begun_of c.host; is_segment = is_segment } ∷ [] })
writes-step c is_segment facts some =
    up-step c (c.up ++ record { session = begun_of c.host; is_segment = is_segment } ∷ []) facts
    (all-append (IsDue c.sent (begun_of c.host)) c.up (record { session = begun_of c.host; is_segment = is_segment } ∷ []) facts.due
    (record { from_one = some; unsent = facts.sent; has_begun = omega arith; near = omega arith }, tt))
    (never-push session_of c.up (record { session = begun_of c.host; is_segment = is_segment }) facts.in_turn
    (all-weaker (IsDue c.sent (begun_of c.host)) (λ (m : Message). m.session ≤ begun_of c.host) (λ (m : Message) is. is.has_begun) c.up facts.due))

pub up_loses-step : (c : Course) (at : ℕ) → CourseFacts c → CourseFacts (record c { up = remove c.up at })
up_loses-step c at facts = up-step c (remove c.up at) facts (all-remove (IsDue c.sent (begun_of c.host)) c.up at facts.due) (never-remove session_of c.up at facts.in_turn)

pub up_doubles-step : (c : Course) (at : ℕ) → CourseFacts c → CourseFacts (record c { up = doubled c.up at })
up_doubles-step c at facts = up-step c (doubled c.up at) facts (all-doubled (IsDue c.sent (begun_of c.host)) c.up at facts.due) (never-doubled session_of c.up at facts.in_turn)

-- ---- on the air

next_sent : (device : Taken) (sent later : ℕ) (kept : Option ℕ) → sent ≤ later → IsOfNext device sent kept → IsOfNext device later kept
next_sent device sent later None more is = tt
next_sent device sent later (Some session) more is = let was : session ≤ sent = is.1 in (is.0, omega arith)

-- a frame goes on the air with which later sessions are sent, as none of the host or one of two
abbrev Sending : Course → List Message → ℕ → Cargo → Course
Sending c up sent cargo = record (flies c cargo) { up = up; sent = sent }

flying-step : (c : Course) (up : List Message) (sent : ℕ) (cargo : Cargo) → CourseFacts c → c.sent ≤ sent → sent ≤ begun_of c.host
    → AllByRecursion (IsDue sent (begun_of c.host)) up → NeverFalls session_of up → FitsBy c.host c.device sent c.ends (begun_of c.host) cargo
    → hosts is_of_host c.air + one_of is_of_host cargo ≤ 2 → KeepsUp is_of_host (begun_of c.host) sent (c.air ++ record { cargo = cargo; since = begun_of c.host } ∷ [])
    → CourseFacts (Sending c up sent cargo)
flying-step c up sent cargo facts more below due in_turn fits few keeps =
    let later = λ (f : Flight Cargo) (was : Fits c f). fits-sent c.host c.device c.sent sent c.ends f.since f.cargo more was in
    let taken : c.device.taken ≤ c.sent = facts.taken in
    let count : hosts is_of_host (c.air ++ record { cargo = cargo; since = begun_of c.host } ∷ []) ≡ hosts is_of_host c.air + one_of is_of_host cargo = hosts-push is_of_host c.air (record { cargo = cargo; since = begun_of c.host }) in
    record {
      agree = facts.agree;
      taken = omega arith;
      of_next = next_sent c.device c.sent sent c.kept more facts.of_next;
      sent = below;
      due = due;
      in_turn = in_turn;
      flying = all-append (Fits (Sending c up sent cargo)) c.air (record { cargo = cargo; since = begun_of c.host } ∷ [])
          (all-weaker (Fits c) (Fits (Sending c up sent cargo)) later c.air facts.flying) (fits, tt);
      flown = all-append (Fits (Sending c up sent cargo)) c.old (record { cargo = cargo; since = begun_of c.host } ∷ [])
          (all-weaker (Fits c) (Fits (Sending c up sent cargo)) later c.old facts.flown) (fits, tt);
      few = omega arith;
      keeps_up = keeps;
      on_time = facts.on_time;
      none_ahead = facts.none_ahead;
      ends_are = facts.ends_are;
      told_are = facts.told_are;
    }

-- another frame than a message
pub other-step : (c : Course) (cargo : Cargo) → CourseFacts c → FitsBy c.host c.device c.sent c.ends (begun_of c.host) cargo → hosts is_of_host c.air + one_of is_of_host cargo ≤ 2 → CourseFacts (flies c cargo)
other-step c cargo facts fits few =
    flying-step c c.up c.sent cargo facts (omega arith) facts.sent facts.due facts.in_turn fits few (keeps-push is_of_host (begun_of c.host) c.sent c.air cargo facts.sent facts.keeps_up)

pub reports-step : (c : Course) → CourseFacts c → 0 < c.device.taken → CourseFacts (flies c (Answer c.device.taken c.device.status))
reports-step c facts some =
    let few : hosts is_of_host c.air ≤ 2 = facts.few in
    other-step c (Answer c.device.taken c.device.status) facts
    (ReportFits-sent c.host c.device facts.agree some, λ final. facts.ends_are.last final some) (omega arith)

-- the sessions of those after the first are not below its own
following : (sent begun : ℕ) (first : Message) (up : List Message) → sent ≤ first.session → AllByRecursion (λ (later : Message). first.session ≤ later.session) up → AllByRecursion (IsDue sent begun) up
    → AllByRecursion (IsDue (max sent first.session) begun) up
following sent begun first [] below above due = tt
following sent begun first (m ∷ up) below above due =
    let unsent : sent ≤ m.session = due.0.unsent in
    let later : first.session ≤ m.session = above.0 in
    (record { from_one = due.0.from_one; unsent = omega arith; has_begun = due.0.has_begun; near = due.0.near }, following sent begun first up below above.1 due.1)

-- each session that began has its command
command_of : (commands : List ℕ) (session : ℕ) → 0 < session → session ≤ length commands → (command : ℕ) × (command_at commands session ≡ Some command)
command_of commands zero some within = absurd (omega arith)
command_of [] (suc at) some within = absurd (omega arith)
command_of (command ∷ commands) (suc zero) some within = (command, refl)
command_of (command ∷ commands) (suc (suc at)) some within = command_of commands (suc at) (omega arith) (omega arith)

pub sends-step : (c : Course) (message : Message) (later : List Message) → CourseFacts c → c.up ≡ message ∷ later → hosts is_of_host c.air ≤ 1
    → CourseFacts (record (flies c (Command message)) { up = later; sent = max c.sent message.session })
sends-step c message later facts are room =
    let due = subst (λ (up : List Message). AllByRecursion (IsDue c.sent (begun_of c.host)) up) are facts.due in
    let in_turn = subst (λ (up : List Message). NeverFalls session_of up) are facts.in_turn in
    let unsent : c.sent ≤ message.session = due.0.unsent in
    let has_begun : message.session ≤ begun_of c.host = due.0.has_begun in
    let near : begun_of c.host ≤ message.session + 1 = due.0.near in
    let command = command_of c.host.commands message.session due.0.from_one has_begun in
    flying-step c later (max c.sent message.session) (Command message) facts (omega arith) (omega arith)
    (following c.sent (begun_of c.host) message later unsent in_turn.0 due.1) in_turn.1
    (omega arith, (command.0, GetFits-sent c.host.commands message.session command.0 command.1 near))
    (omega arith)
    (keeps-send is_of_host (begun_of c.host) c.sent (max c.sent message.session) c.air (Command message) (omega arith) refl facts.keeps_up)

-- the oldest frame leaves it
pub leaves-step : (c : Course) (flight : Flight Cargo) (later : List (Flight Cargo)) → CourseFacts c → c.air ≡ flight ∷ later → CourseFacts (record c { air = later })
leaves-step c flight later facts are =
    let few : hosts is_of_host (flight ∷ later) ≤ 2 = subst (λ (air : List (Flight Cargo)). hosts is_of_host air ≤ 2) are facts.few in
    record {
      agree = facts.agree;
      taken = facts.taken;
      of_next = facts.of_next;
      sent = facts.sent;
      due = facts.due;
      in_turn = facts.in_turn;
      flying = (subst (λ (air : List (Flight Cargo)). AllByRecursion (Fits c) air) are facts.flying).1;
      flown = facts.flown;
      few = omega arith;
      keeps_up = (subst (λ (air : List (Flight Cargo)). KeepsUp is_of_host (begun_of c.host) c.sent air) are facts.keeps_up).1.1;
      on_time = facts.on_time;
      none_ahead = facts.none_ahead;
      ends_are = facts.ends_are;
      told_are = facts.told_are;
    }

-- ---- the device

takes-step : (c : Course) → CourseFacts c → c.device.status ≢ WORKING → c.device.taken + 1 ≤ c.sent → CourseFacts (record c { device = taking c.device; kept = None })
takes-step c facts idle below =
    let sent : c.sent ≤ begun_of c.host = facts.sent in
    let rests : c.device.taken ≡ length c.ends = facts.ends_are.rests idle in
    let new : Course = record c { device = taking c.device; kept = None } in
    record {
      agree = EndsAgree-taken c.host c.device facts.agree (omega arith);
      taken = below;
      of_next = tt;
      sent = sent;
      due = facts.due;
      in_turn = facts.in_turn;
      flying = all-weaker (Fits c) (Fits new) (λ f fits. fits-taking c.host c.device c.sent c.ends f.since f.cargo fits) c.air facts.flying;
      flown = all-weaker (Fits c) (Fits new) (λ f fits. fits-taking c.host c.device c.sent c.ends f.since f.cargo fits) c.old facts.flown;
      few = facts.few;
      keeps_up = facts.keeps_up;
      on_time = all-weaker (IsOnTime c.host c.device c.ends) (IsOnTime c.host (taking c.device) c.ends) (λ r is. on_time-taking c.host c.device c.ends r is) c.down facts.on_time;
      none_ahead = facts.none_ahead;
      ends_are = record {
        works = λ e. omega arith;
        rests = λ other. absurd (other refl);
        last = λ other some. absurd (other refl);
      };
      told_are = facts.told_are;
    }

-- other segments are kept
keeps-step : (c : Course) (kept : Option ℕ) → CourseFacts c → IsOfNext c.device c.sent kept → CourseFacts (record c { kept = kept })
keeps-step c kept facts is = record {
  agree = facts.agree;
  taken = facts.taken;
  of_next = is;
  sent = facts.sent;
  due = facts.due;
  in_turn = facts.in_turn;
  flying = facts.flying;
  flown = facts.flown;
  few = facts.few;
  keeps_up = facts.keeps_up;
  on_time = facts.on_time;
  none_ahead = facts.none_ahead;
  ends_are = facts.ends_are;
  told_are = facts.told_are;
}

-- by what a message is: in segments or not, made whole or not, of the next session by its id of four bits or not, and new by its id of six
-- bits or not
message_by : (c : Course) (session : ℕ) (in_segments is_whole of_next new : Bool) → (of_next ≡ true → in_segments ≡ true → session ≡ c.device.taken + 1)
    → (new ≡ true → (c.device.status ≢ WORKING) × (c.device.taken + 1 ≤ c.sent)) → session ≤ c.sent → CourseFacts c
    → CourseFacts (record c {
      device =
          if in_segments then (if is_whole && of_next then (if new then taking c.device else c.device) else c.device)
          else (if new then taking c.device else c.device);
      kept = if in_segments then (if of_next then (if is_whole then None else Some session) else c.kept) else (if new then None else c.kept);
    })
message_by c session true true true true next fresh sent facts = let is = fresh refl in takes-step c facts is.0 is.1
message_by c session true true true false next fresh sent facts = keeps-step c None facts tt
message_by c session true true false new next fresh sent facts = facts
message_by c session true false true new next fresh sent facts = keeps-step c (Some session) facts (next refl refl, sent)
message_by c session true false false new next fresh sent facts = facts
message_by c session false is_whole of_next true next fresh sent facts = let is = fresh refl in takes-step c facts is.0 is.1
message_by c session false is_whole of_next false next fresh sent facts = facts

pub message-step : (c : Course) (message : Message) (is_whole : Bool) (get : Get) → get.session ≡ message.session → GetFits c.host.commands get → message.session ≤ c.sent
    → c.device.taken + 1 ≤ message.session + 63 → (message.is_segment ≡ true → c.device.taken + 1 ≤ message.session + 15) → CourseFacts c
    → CourseFacts (record c { device = after_message c.device message is_whole; kept = kept_after c.device c.kept message is_whole })
message-step c message is_whole get of fits sent near near_segment facts =
    let below : c.sent ≤ begun_of c.host = facts.sent in
    let following : begun_of c.host ≤ c.device.taken + 1 = facts.agree.one_after in
    let names : GetNames c.device get = get_names c.device get (omega arith) (omega arith) in
    message_by c message.session message.is_segment is_whole (is_segment_of_next c.device message.session) (is_new c.device (wire_id message.session))
    (λ e is. let close = near_segment is in same_of_16 message.session (c.device.taken + 1) (eqb-true (message.session % 16) ((c.device.taken + 1) % 16) e) (omega arith) close)
    (λ e.
    let heard : heard_of c.device (wire_id message.session) ≡ New (c.device.taken + 1) = new_heard c.device (wire_id message.session) e in
    let is : IsTaken c.device (wire_id message.session) (c.device.taken + 1) = heard_of-New c.device (wire_id message.session) (c.device.taken + 1) heard in
    let heard_so : heard_of c.device (wire_id get.session) ≡ New (c.device.taken + 1) = subst (λ (s : ℕ). heard_of c.device (wire_id s) ≡ New (c.device.taken + 1)) (sym of) heard in
    let next : get.session ≡ c.device.taken + 1 = (names.fresh (c.device.taken + 1) heard_so).1 in
    (is.idle, omega arith))
    sent facts

pub finishes-step : (c : Course) (status : ℕ) → CourseFacts c → c.device.status ≡ WORKING → status ≢ WORKING
    → CourseFacts (record c { device = finished c.device status; ends = c.ends ++ status ∷ [] })
finishes-step c status facts works final =
    let taken : c.device.taken ≡ length c.ends + 1 = facts.ends_are.works works in
    let more : length (c.ends ++ status ∷ []) ≡ length c.ends + 1 = grind (arith, length-append) in
    let new : Course = record c { device = finished c.device status; ends = c.ends ++ status ∷ [] } in
    record {
      agree = EndsAgree-finished c.host c.device status facts.agree works;
      taken = facts.taken;
      of_next = facts.of_next;
      sent = facts.sent;
      due = facts.due;
      in_turn = facts.in_turn;
      flying = all-weaker (Fits c) (Fits new) (λ f fits. fits-finish c.host c.device c.sent c.ends status f.since f.cargo works fits) c.air facts.flying;
      flown = all-weaker (Fits c) (Fits new) (λ f fits. fits-finish c.host c.device c.sent c.ends status f.since f.cargo works fits) c.old facts.flown;
      few = facts.few;
      keeps_up = facts.keeps_up;
      on_time = all-weaker (IsOnTime c.host c.device c.ends) (IsOnTime c.host (finished c.device status) (c.ends ++ status ∷ []))
          (λ r is. on_time-finish c.host c.device c.ends status r works is) c.down facts.on_time;
      none_ahead = facts.none_ahead;
      ends_are = record {
        works = λ e. absurd (final e);
        rests = λ other. taken ∙ sym more;
        last = λ other some. command_at-last c.ends status c.device.taken taken;
      };
      told_are = record {
        rest = facts.told_are.rest ++ status ∷ [];
        prefix = ap (λ (l : List ℕ). l ++ status ∷ []) facts.told_are.prefix ∙ append_assoc c.told facts.told_are.rest (status ∷ []);
        closed = facts.told_are.closed;
        opened = facts.told_are.opened;
      };
    }

-- ---- down to the host

down-step : (c : Course) (down : List Report) → CourseFacts c → AllByRecursion (IsOnTime c.host c.device c.ends) down → NoneAhead reported 63 (begun_of c.host) down → CourseFacts (record c { down = down })
down-step c down facts on_time none_ahead = record {
  agree = facts.agree;
  taken = facts.taken;
  of_next = facts.of_next;
  sent = facts.sent;
  due = facts.due;
  in_turn = facts.in_turn;
  flying = facts.flying;
  flown = facts.flown;
  few = facts.few;
  keeps_up = facts.keeps_up;
  on_time = on_time;
  none_ahead = none_ahead;
  ends_are = facts.ends_are;
  told_are = facts.told_are;
}

pub down_loses-step : (c : Course) (at : ℕ) → CourseFacts c → CourseFacts (record c { down = remove c.down at })
down_loses-step c at facts =
    down-step c (remove c.down at) facts (all-remove (IsOnTime c.host c.device c.ends) c.down at facts.on_time) (none-remove reported 63 (begun_of c.host) c.down at facts.none_ahead)

pub down_doubles-step : (c : Course) (at : ℕ) → CourseFacts c → CourseFacts (record c { down = doubled c.down at })
down_doubles-step c at facts =
    down-step c (doubled c.down at) facts (all-doubled (IsOnTime c.host c.device c.ends) c.down at facts.on_time) (none-doubled reported 63 (begun_of c.host) c.down at (omega arith) facts.none_ahead)

pub report-step : (c : Course) (report : Report) → IsTrueReport c.host c.device c.ends report → begun_of c.host ≤ report.session + 62 → CourseFacts c
    → CourseFacts (record c { down = c.down ++ report ∷ [] })
report-step c report fits near facts =
    down-step c (c.down ++ report ∷ []) facts
    (all-append (IsOnTime c.host c.device c.ends) c.down (report ∷ []) facts.on_time (record { fits = fits; near = omega arith; edge = λ e. absurd (omega arith) }, tt))
    (none-push reported 63 (begun_of c.host) c.down report facts.none_ahead (omega arith))

-- what stands after the statuses that were told
after_told : (told rest : List ℕ) (status : ℕ) → slice_get (told ++ rest) (length told) ≡ Some status → (more : List ℕ) × (rest ≡ status ∷ more)
after_told [] [] status known = absurd (grind arith)
after_told [] (end ∷ more) status known = let same : end ≡ status = cc in (more, ap (λ (s : ℕ). s ∷ more) same)
after_told (first ∷ told) rest status known = after_told told rest status known

next_end : (told rest ends : List ℕ) (session status : ℕ) → ends ≡ told ++ rest → session ≡ length told + 1 → command_at ends session ≡ Some status → (more : List ℕ) × (rest ≡ status ∷ more)
next_end told rest ends zero status e is known = absurd (omega arith)
next_end told rest ends (suc at) status e is known =
    let place : at ≡ length told = omega arith in
    after_told told rest status (subst (λ (k : ℕ). slice_get (told ++ rest) k ≡ Some status) place (subst (λ (l : List ℕ). slice_get l at ≡ Some status) e known))

-- the host is told the end of the open session
told-step : (c : Course) (report : Report) (later : List Report) → CourseFacts c → c.down ≡ report ∷ later → open_session c.host ≡ Some report.session → report.session ≡ c.device.taken
    → report.status ≢ WORKING → EndsAgree (record c.host { outcome = Some report.status }) c.device
    → CourseFacts (record c { host = record c.host { outcome = Some report.status }; down = later; told = c.told ++ report.status ∷ [] })
told-step c report later facts are is_open of_last final agree =
    let on_time = subst (λ (down : List Report). AllByRecursion (IsOnTime c.host c.device c.ends) down) are facts.on_time in
    let none_ahead = subst (λ (down : List Report). NoneAhead reported 63 (begun_of c.host) down) are facts.none_ahead in
    let last : report.session ≡ begun_of c.host = (open_session-Some c.host report.session is_open).0 in
    let told : length c.told + 1 ≡ begun_of c.host = facts.told_are.opened report.session is_open in
    let more : length (c.told ++ report.status ∷ []) ≡ length c.told + 1 = grind (arith, length-append) in
    let known : command_at c.ends report.session ≡ Some report.status = on_time.0.fits.1 final in
    let rest : (more_ends : List ℕ) × (facts.told_are.rest ≡ report.status ∷ more_ends) = next_end c.told facts.told_are.rest c.ends report.session report.status facts.told_are.prefix (omega arith) known in
    record {
      agree = agree;
      taken = facts.taken;
      of_next = facts.of_next;
      sent = facts.sent;
      due = facts.due;
      in_turn = facts.in_turn;
      flying = facts.flying;
      flown = facts.flown;
      few = facts.few;
      keeps_up = facts.keeps_up;
      on_time = all-both (IsOnTime c.host c.device c.ends) (λ (r : Report). begun_of c.host ≡ r.session + 63 → report.session ≢ begun_of c.host)
          (IsOnTime (record c.host { outcome = Some report.status }) c.device c.ends)
          (λ (r : Report) is apart. record { fits = is.fits; near = is.near; edge = λ e. absurd (apart e last) }) later on_time.1 none_ahead.0;
      none_ahead = none_ahead.1;
      ends_are = facts.ends_are;
      told_are = record {
        rest = rest.0;
        prefix = facts.told_are.prefix ∙ (ap (λ (l : List ℕ). c.told ++ l) rest.1 ∙ sym (append_assoc c.told (report.status ∷ []) rest.0));
        closed = λ e. more ∙ told;
        opened = λ session e. absurd (grind arith);
      };
    }

pub judges-step : (c : Course) (report : Report) (later : List Report) → CourseFacts c → c.down ≡ report ∷ later
    → CourseFacts (record c {
      host = after_report c.host (wire_id report.session) report.status;
      down = later;
      told = told_by (told_of c.host (wire_id report.session) report.status) report.status c.told;
    })
judges-step c report later facts are =
    let on_time = subst (λ (down : List Report). AllByRecursion (IsOnTime c.host c.device c.ends) down) are facts.on_time in
    let none_ahead = subst (λ (down : List Report). NoneAhead reported 63 (begun_of c.host) down) are facts.none_ahead in
    let names = report_names c.host c.device report facts.agree on_time.0.fits.0 on_time.0.near in
    let agree : EndsAgree (after_report c.host (wire_id report.session) report.status) c.device = EndsAgree-reported c.host c.device report facts.agree on_time.0.fits.0 on_time.0.near in
    elim (report-cases c.host (wire_id report.session) report.status (told_of c.host (wire_id report.session) report.status) refl) [
      | inl still ↦
          subst (λ (h : HostBook). CourseFacts (record c { host = h; down = later; told = told_by (told_of c.host (wire_id report.session) report.status) report.status c.told })) (sym still.0)
          (subst (λ (t : List ℕ). CourseFacts (record c { down = later; told = t })) (sym (still.1 c.told)) (down-step c later facts on_time.1 none_ahead.1))
      | inr ends ↦
          let is = names.final ends.0 ends.1.0 in
          subst (λ (h : HostBook). CourseFacts (record c { host = h; down = later; told = told_by (told_of c.host (wire_id report.session) report.status) report.status c.told })) (sym ends.1.1)
          (subst (λ (t : Told). CourseFacts (record c { host = record c.host { outcome = Some report.status }; down = later; told = told_by t report.status c.told })) (sym ends.1.0)
          (told-step c report later facts are is.1 is.2 is.3 (subst (λ (h : HostBook). EndsAgree h c.device) ends.1.1 agree)))
    ]
