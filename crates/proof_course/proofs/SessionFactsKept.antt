-- Every step keeps the facts of a course, and what follows.
use Rattle.std.proofs.Common.{◌≡◌, ◌≢◌, ℕ, zero, suc, ◌+◌, ◌≤◌, ◌⊎◌, Bool, true, false, List, [], ◌∷◌, length, Option, Some, None, refl, sym, ap, subst, ◌∙◌, inl, inr, arith}
use Rattle.std.specs.Prelude.{slice_get}
use Rattle.std.specs.List.{AllByRecursion}
use Rattle.zw_base.proofs.Each.{all-get}
use Rattle.supervision.specs.Host.{HostBook, begun_of, open_session}
use Rattle.supervision.specs.Device.{Taken, after_get}
use Rattle.supervision.specs.Session.{wire_id}
use Rattle.supervision.specs.Ends.{Report}
use Rattle.supervision.specs.declared.session.TheConstants.{WORKING}
use Rattle.supervision.proofs.EndsLemmas.{EndsAgree-start, get_names, GetNames, report_names, heard_of-New}
use Rattle.proof_course.specs.Sessions.{Course, Message, Cargo, Command, Of_host, Answer, Of_node, is_of_host, Step, Begins, Attempts, Writes, Up_loses, Up_doubles, Sends, Flies, Reports, Lands, Repeats, Finishes, Down_loses, Down_doubles, Judges, IsFresh, IsFreshCargo, MayRepeat, MayFly, first_course, after, after_all, May, MayAll, sends, lands, repeats, hears, judges, flies, after_message}
use Rattle.proof_course.specs.Flying.{Flight, hosts, KeepsUp}
use Rattle.proof_course.specs.SessionFacts.{FitsBy, Fits, IsOnTime, IsOfNext, CourseFacts}
use Rattle.proof_course.specs.SessionLaws.{NamesOne, TellsOne, TakesNext, IsDone, IsApplied}
use Rattle.proof_course.proofs.Parts.{successes_part, told_success}
use Rattle.proof_course.proofs.SessionEnds.{message-cases}
use Rattle.supervision.proofs.EndsLemmas.{after_get-cases as get-cases}
use Rattle.proof_course.proofs.SessionSteps.{begins-step, attempts-step, writes-step, up_loses-step, up_doubles-step, other-step, reports-step, sends-step, leaves-step, message-step, finishes-step, down_loses-step, down_doubles-step, report-step, judges-step}

pub first_facts : CourseFacts first_course
first_facts = record {
  agree = EndsAgree-start;
  taken = omega arith;
  of_next = tt;
  sent = omega arith;
  due = tt;
  in_turn = tt;
  flying = tt;
  flown = tt;
  few = omega arith;
  keeps_up = tt;
  on_time = tt;
  none_ahead = tt;
  ends_are = record { works = λ e. absurd (grind arith); rests = λ other. refl; last = λ other some. absurd (omega arith) };
  told_are = record { rest = []; prefix = refl; closed = λ none. refl; opened = λ session is. absurd (grind arith) };
}

-- ---- how old a frame is that is heard

-- fewer than 62 sessions, or fewer than 14, are fewer than 62
fresh_enough : (now since : ℕ) (b : Bool) → IsFresh now since b → now ≤ since + 61
fresh_enough now since true fresh = omega arith
fresh_enough now since false fresh = fresh

-- a message that is not too old is of one of 64 sessions in a row
message_near : (c : Course) (message : Message) (begun : ℕ) → CourseFacts c → FitsBy c.host c.device c.sent c.ends begun (Command message) → begun_of c.host ≤ begun + 61
    → c.device.taken + 1 ≤ message.session + 63
message_near c message begun facts fits fresh =
    let before : begun ≤ message.session + 1 = fits.1.1.before_second in
    let below : c.device.taken ≤ begun_of c.host = facts.agree.not_ahead in
    omega arith

-- a segment that is heard for the first time, or is fresh, is of one of 16
segment_fresh : (now since : ℕ) (b : Bool) → b ≡ true → IsFresh now since b → now ≤ since + 13
segment_fresh now since true is fresh = fresh
segment_fresh now since false is fresh = absurd (grind arith)

segment_close : (c : Course) (message : Message) (begun : ℕ) → CourseFacts c → FitsBy c.host c.device c.sent c.ends begun (Command message) → message.is_segment ≡ true
    → (begun_of c.host ≤ begun + 3) ⊎ IsFreshCargo (begun_of c.host) begun (Command message) → c.device.taken + 1 ≤ message.session + 15
segment_close c message begun facts fits is (inl young) =
    let before : begun ≤ message.session + 1 = fits.1.1.before_second in
    let below : c.device.taken ≤ begun_of c.host = facts.agree.not_ahead in
    omega arith
segment_close c message begun facts fits is (inr fresh) =
    let young : begun_of c.host ≤ begun + 13 = segment_fresh (begun_of c.host) begun message.is_segment is fresh in
    let before : begun ≤ message.session + 1 = fits.1.1.before_second in
    let below : c.device.taken ≤ begun_of c.host = facts.agree.not_ahead in
    omega arith

-- any frame that is not too old may be heard
heard-step : (c : Course) (begun : ℕ) (cargo : Cargo) (is_whole : Bool) → CourseFacts c → FitsBy c.host c.device c.sent c.ends begun cargo → begun_of c.host ≤ begun + 61
    → (begun_of c.host ≤ begun + 3) ⊎ IsFreshCargo (begun_of c.host) begun cargo → CourseFacts (hears c begun cargo is_whole)
heard-step c begun (Command message) is_whole facts fits fresh young =
    message-step c message is_whole (record { session = message.session; command = fits.1.0; begun = begun }) refl fits.1.1 fits.0 (message_near c message begun facts fits fresh)
    (λ is. segment_close c message begun facts fits is young) facts
heard-step c begun Of_host is_whole facts fits fresh young = facts
heard-step c begun (Answer session status) is_whole facts fits fresh young =
    let after_begin : session ≤ begun = fits.0.after_begin in
    let before : begun ≤ session + 1 = fits.0.before_second in
    report-step c (record { session = session; status = status; begun = begun }) fits (omega arith) facts
heard-step c begun Of_node is_whole facts fits fresh young = facts

-- the oldest frame on the air went there three sessions ago at most
landing_age : (c : Course) (flight : Flight Cargo) (later : List (Flight Cargo)) → CourseFacts c → c.air ≡ flight ∷ later → begun_of c.host ≤ flight.since + 3
landing_age c flight later facts are =
    let few : hosts is_of_host (flight ∷ later) ≤ 2 = subst (λ (air : List (Flight Cargo)). hosts is_of_host air ≤ 2) are facts.few in
    let keeps : begun_of c.host ≤ flight.since + 1 + hosts is_of_host later = (subst (λ (air : List (Flight Cargo)). KeepsUp is_of_host (begun_of c.host) c.sent air) are facts.keeps_up).0 in
    omega arith

lands-step : (c : Course) (air : List (Flight Cargo)) (is_heard is_whole : Bool) → c.air ≡ air → CourseFacts c → CourseFacts (lands c air is_heard is_whole)
lands-step c [] is_heard is_whole are facts = facts
lands-step c (flight ∷ later) true is_whole are facts =
    let fits : Fits c flight = (subst (λ (air : List (Flight Cargo)). AllByRecursion (Fits c) air) are facts.flying).0 in
    let age : begun_of c.host ≤ flight.since + 3 = landing_age c flight later facts are in
    heard-step (record c { air = later }) flight.since flight.cargo is_whole (leaves-step c flight later facts are) fits (omega arith) (inl age)
lands-step c (flight ∷ later) false is_whole are facts = leaves-step c flight later facts are

-- how old a frame may be that is heard again
repeat_fresh : (now since : ℕ) (cargo : Cargo) → IsFreshCargo now since cargo → (now ≤ since + 61) ⊎ ((cargo ≡ Of_host) ⊎ (cargo ≡ Of_node))
repeat_fresh now since (Command message) fresh = inl (fresh_enough now since message.is_segment fresh)
repeat_fresh now since Of_host fresh = inr (inl refl)
repeat_fresh now since (Answer session status) fresh = inl fresh
repeat_fresh now since Of_node fresh = inr (inr refl)

repeats-step : (c : Course) (at : ℕ) (found : Option (Flight Cargo)) (is_whole : Bool) → slice_get c.old at ≡ found → MayRepeat c found → CourseFacts c → CourseFacts (repeats c found is_whole)
repeats-step c at None is_whole are may facts = absurd may
repeats-step c at (Some flight) is_whole are may facts =
    let fits : Fits c flight = all-get (Fits c) c.old at flight facts.flown are in
    elim (repeat_fresh (begun_of c.host) flight.since flight.cargo may) [
      | inl fresh ↦ heard-step c flight.since flight.cargo is_whole facts fits fresh (inr may)
      | inr (inl same) ↦ subst (λ (cargo : Cargo). CourseFacts (hears c flight.since cargo is_whole)) (sym same) facts
      | inr (inr same) ↦ subst (λ (cargo : Cargo). CourseFacts (hears c flight.since cargo is_whole)) (sym same) facts
    ]

flies-step : (c : Course) (cargo : Cargo) → MayFly c cargo → CourseFacts c → CourseFacts (flies c cargo)
flies-step c (Command message) may facts = absurd may
flies-step c Of_host may facts = other-step c Of_host facts tt (omega arith)
flies-step c (Answer session status) may facts = absurd may
flies-step c Of_node may facts = let few : hosts is_of_host c.air ≤ 2 = facts.few in other-step c Of_node facts tt (omega arith)

sends-steps : (c : Course) (up : List Message) → c.up ≡ up → hosts is_of_host c.air ≤ 1 → CourseFacts c → CourseFacts (sends c up)
sends-steps c [] are room facts = facts
sends-steps c (message ∷ later) are room facts = sends-step c message later facts are room

judges-steps : (c : Course) (down : List Report) → c.down ≡ down → CourseFacts c → CourseFacts (judges c down)
judges-steps c [] are facts = facts
judges-steps c (report ∷ later) are facts = judges-step c report later facts are

-- ---- every step

pub each_kept : (c : Course) (step : Step) → CourseFacts c → May c step → CourseFacts (after c step)
each_kept c (Begins command) facts may = begins-step c command facts may
each_kept c (Attempts count) facts may = attempts-step c count facts
each_kept c (Writes is_segment) facts may = writes-step c is_segment facts may
each_kept c (Up_loses at) facts may = up_loses-step c at facts
each_kept c (Up_doubles at) facts may = up_doubles-step c at facts
each_kept c Sends facts may = sends-steps c c.up refl may facts
each_kept c (Flies cargo) facts may = flies-step c cargo may facts
each_kept c Reports facts may = reports-step c facts may
each_kept c (Lands is_heard is_whole) facts may = lands-step c c.air is_heard is_whole refl facts
each_kept c (Repeats at is_whole) facts may = repeats-step c at (slice_get c.old at) is_whole refl may facts
each_kept c (Finishes status) facts may = finishes-step c status facts may.0 may.1
each_kept c (Down_loses at) facts may = down_loses-step c at facts
each_kept c (Down_doubles at) facts may = down_doubles-step c at facts
each_kept c Judges facts may = judges-steps c c.down refl facts

pub all_kept : (c : Course) (steps : List Step) → CourseFacts c → MayAll c steps → CourseFacts (after_all c steps)
all_kept c [] facts may = facts
all_kept c (step ∷ steps) facts may = all_kept (after c step) steps (each_kept c step facts may.0) may.1

-- ---- what an id names

named : (c : Course) (message : Message) (begun : ℕ) → CourseFacts c → FitsBy c.host c.device c.sent c.ends begun (Command message) → begun_of c.host ≤ begun + 61 → NamesOne c.device message
named c message begun facts fits fresh =
    let sent : message.session ≤ c.sent = fits.0 in
    let below : c.sent ≤ begun_of c.host = facts.sent in
    let following : begun_of c.host ≤ c.device.taken + 1 = facts.agree.one_after in
    let names : GetNames c.device (record { session = message.session; command = fits.1.0; begun = begun }) =
    get_names c.device (record { session = message.session; command = fits.1.0; begun = begun }) (omega arith) (message_near c message begun facts fits fresh) in
    record { is_new = names.fresh; is_again = names.again }

pub landing_named : (c : Course) (message : Message) (begun : ℕ) (later : List (Flight Cargo)) → CourseFacts c → c.air ≡ record { cargo = Command message; since = begun } ∷ later → NamesOne c.device message
landing_named c message begun later facts are =
    let fits = (subst (λ (air : List (Flight Cargo)). AllByRecursion (Fits c) air) are facts.flying).0 in
    let age : begun_of c.host ≤ begun + 3 = landing_age c (record { cargo = Command message; since = begun }) later facts are in
    named c message begun facts fits (omega arith)

pub repeated_named : (c : Course) (message : Message) (begun at : ℕ) → CourseFacts c → slice_get c.old at ≡ Some (record { cargo = Command message; since = begun })
    → IsFresh (begun_of c.host) begun message.is_segment → NamesOne c.device message
repeated_named c message begun at facts are fresh =
    named c message begun facts (all-get (Fits c) c.old at (record { cargo = Command message; since = begun }) facts.flown are) (fresh_enough (begun_of c.host) begun message.is_segment fresh)

of_next : (device : Taken) (sent session : ℕ) (kept : Option ℕ) → kept ≡ Some session → IsOfNext device sent kept → session ≡ device.taken + 1
of_next device sent session None e is = absurd (grind arith)
of_next device sent session (Some other) e is = let same : other ≡ session = cc in sym same ∙ is.0

pub kept_named : (c : Course) (session : ℕ) → CourseFacts c → c.kept ≡ Some session → session ≡ c.device.taken + 1
kept_named c session facts e = of_next c.device c.sent session c.kept e facts.of_next

pub judged_named : (c : Course) (report : Report) (later : List Report) → CourseFacts c → c.down ≡ report ∷ later → TellsOne c.host c.device report
judged_named c report later facts are =
    let on_time = subst (λ (down : List Report). AllByRecursion (IsOnTime c.host c.device c.ends) down) are facts.on_time in
    let names = report_names c.host c.device report facts.agree on_time.0.fits.0 on_time.0.near in
    record {
      ends = λ session e. let is = names.final session e in (is.0, (is.1, (is.2, is.4)));
      works = names.working;
    }

-- ---- what a step takes

get_takes : (device : Taken) (id : ℕ) → ((after_get device id).taken ≡ device.taken) ⊎ ((after_get device id).taken ≡ device.taken + 1)
get_takes device id = elim (get-cases device id) [
  | inl same ↦ inl (ap (λ (d : Taken). d.taken) same)
  | inr fresh ↦ inr (ap (λ (d : Taken). d.taken) (heard_of-New device id fresh.0 fresh.1).after)
]

message_takes : (device : Taken) (message : Message) (is_whole : Bool) → ((after_message device message is_whole).taken ≡ device.taken) ⊎ ((after_message device message is_whole).taken ≡ device.taken + 1)
message_takes device message is_whole = elim (message-cases device message is_whole) [
  | inl same ↦ inl (ap (λ (d : Taken). d.taken) same)
  | inr heard ↦ subst (λ (d : Taken). (d.taken ≡ device.taken) ⊎ (d.taken ≡ device.taken + 1)) (sym heard) (get_takes device (wire_id message.session))
]

hears_takes : (c : Course) (begun : ℕ) (cargo : Cargo) (is_whole : Bool) → TakesNext c (hears c begun cargo is_whole)
hears_takes c begun (Command message) is_whole = message_takes c.device message is_whole
hears_takes c begun Of_host is_whole = inl refl
hears_takes c begun (Answer session status) is_whole = inl refl
hears_takes c begun Of_node is_whole = inl refl

lands_takes : (c : Course) (air : List (Flight Cargo)) (is_heard is_whole : Bool) → TakesNext c (lands c air is_heard is_whole)
lands_takes c [] is_heard is_whole = inl refl
lands_takes c (flight ∷ later) true is_whole = hears_takes (record c { air = later }) flight.since flight.cargo is_whole
lands_takes c (flight ∷ later) false is_whole = inl refl

repeats_takes : (c : Course) (found : Option (Flight Cargo)) (is_whole : Bool) → TakesNext c (repeats c found is_whole)
repeats_takes c None is_whole = inl refl
repeats_takes c (Some flight) is_whole = hears_takes c flight.since flight.cargo is_whole

sends_takes : (c : Course) (up : List Message) → TakesNext c (sends c up)
sends_takes c [] = inl refl
sends_takes c (message ∷ later) = inl refl

judges_takes : (c : Course) (down : List Report) → TakesNext c (judges c down)
judges_takes c [] = inl refl
judges_takes c (report ∷ later) = inl refl

pub step_takes : (c : Course) (step : Step) → TakesNext c (after c step)
step_takes c (Begins command) = inl refl
step_takes c (Attempts count) = inl refl
step_takes c (Writes is_segment) = inl refl
step_takes c (Up_loses at) = inl refl
step_takes c (Up_doubles at) = inl refl
step_takes c Sends = sends_takes c c.up
step_takes c (Flies cargo) = inl refl
step_takes c Reports = inl refl
step_takes c (Lands is_heard is_whole) = lands_takes c c.air is_heard is_whole
step_takes c (Repeats at is_whole) = repeats_takes c (slice_get c.old at) is_whole
step_takes c (Finishes status) = inl refl
step_takes c (Down_loses at) = inl refl
step_takes c (Down_doubles at) = inl refl
step_takes c Judges = judges_takes c c.down

-- ---- what was told

open_or_not : (host : HostBook) (found : Option ℕ) → open_session host ≡ found → (open_session host ≡ None) ⊎ ((session : ℕ) × (open_session host ≡ Some session))
open_or_not host None e = inl e
open_or_not host (Some session) e = inr (session, e)

works_or_not : (status : ℕ) → (status ≡ WORKING) ⊎ (status ≢ WORKING)
works_or_not zero = inr (λ e. omega arith)
works_or_not (suc zero) = inl refl
works_or_not (suc (suc more)) = inr (λ e. omega arith)

pub done_by_facts : (c : Course) → CourseFacts c → IsDone c
done_by_facts c facts =
    let below : c.device.taken ≤ begun_of c.host = facts.agree.not_ahead in
    record {
      rest = facts.told_are.rest;
      prefix = facts.told_are.prefix;
      begun = elim (open_or_not c.host (open_session c.host) refl) [
        | inl none ↦ let told : length c.told ≡ begun_of c.host = facts.told_are.closed none in omega arith
        | inr opened ↦ let told : length c.told + 1 ≡ begun_of c.host = facts.told_are.opened opened.0 opened.1 in omega arith
      ];
      ended = elim (works_or_not c.device.status) [
        | inl works ↦ let taken : c.device.taken ≡ length c.ends + 1 = facts.ends_are.works works in omega arith
        | inr rests ↦ let taken : c.device.taken ≡ length c.ends = facts.ends_are.rests rests in omega arith
      ];
    }

pub applied_by_facts : (c : Course) → CourseFacts c → IsApplied c
applied_by_facts c facts = record {
  part = successes_part c.host.commands c.ends;
  reported = λ session is. told_success c.ends c.told facts.told_are.rest session facts.told_are.prefix is;
}
