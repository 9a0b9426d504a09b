-- What a device says: not sealed, and no report before it took a session.
use Rattle.std.proofs.Common.{◌≡◌, ℕ, ◌+◌, ◌-◌, ◌%◌, ◌<◌, ◌==◌, inl, inr, Bool, true, false, ◌&&◌, not, nat_lt, if◌then◌else◌, Option, Some, None, List, [], ◌∷◌, length, take, refl, ap, sym, ◌∙◌, subst, arith}
use Rattle.std.specs.Prelude.{Result, Ok, Err, nat_le, slice_index}
use Rattle.std.specs.List.{AllByRecursion}
use Rattle.std.specs.Option.{option_map, option_to_list, option_and_then}
use Rattle.zw_base.specs.declared.property.Name.{Name}
use Rattle.zw_base.specs.declared.property.Name.TheVariants as names
use Rattle.zw_base.specs.declared.property.Property.{Property}
use Rattle.zw_base.specs.declared.property.Setting.{Setting}
use Rattle.supervision.specs.Session.{wire_id}
use Rattle.supervision.specs.Device.{Taken, is_new, is_again, heard_of}
use Rattle.supervision.specs.declared.session.TheConstants.{WORKING}
use Rattle.supervision.specs.declared.device_book.Heard.TheVariants.{New, Again, Old}
use Rattle.class_core.specs.declared.fault.ClassFault.{ClassFault}
use Rattle.class_core.specs.declared.message.CoreMessage.TheVariants.{SwitchBinarySet, ThermostatSetpointReport, ConfigurationReport}
use Rattle.class_core.specs.declared.number.Number.TheVariants.{Two, Four}
use Rattle.class_info.specs.declared.message.InfoMessage.{InfoMessage}
use Rattle.class_info.specs.declared.message.InfoMessage.TheVariants.{Core, AssociationGet, AssociationReport, SensorMultilevelReport, SupervisionReport, TransportComplete, TransportRequest, WakeUpNotification, WakeUpNoMoreInformation}
use Rattle.class_info.specs.declared.report_status.ReportStatus.{ReportStatus}
use Rattle.class_info.specs.declared.report_status.ReportStatus.TheVariants as statuses
use Rattle.class_info.specs.InfoReading.{info_at}
use Rattle.class_info.specs.InfoSpelling.{form}
use Rattle.encap.specs.Opening.{Message, begins_with, opened_at}
use Rattle.encap.specs.Written.{only_of, written_form, addressed_form}
use Rattle.encap.specs.declared.plan.Plan.{Plan}
use Rattle.encap.specs.declared.plan.Supervised.{Supervised}
use Rattle.encap.specs.declared.plan.Ends.{Ends}
use Rattle.encap.specs.declared.plan.Outer.{Outer}
use Rattle.encap.specs.declared.plan.Outer.TheVariants.{None as no_outer, Crc16, Security, Transport}
use Rattle.host_heard.specs.declared.payload.Heard.TheVariants.{Messages}
use Rattle.host_heard.specs.declared.told.Told.TheVariants.{Report}
use Rattle.device_kinds.specs.declared.kind.Kind.{Kind}
use Rattle.device_kinds.specs.declared.effect.Effect.{Effect}
use Rattle.device_kinds.specs.declared.effect.Effect.TheVariants.{Ignores, Sleeps, Tells, Sets, Repeats, Takes}
use Rattle.device_kinds.specs.declared.verdict.Verdict.{Verdict}
use Rattle.device_kinds.specs.declared.verdict.Verdict.TheVariants.{NoSupport, Fails, Makes, Works}
use Rattle.device_kinds.specs.Kind.{listens, lists, has_end, tells, main_name_of}
use Rattle.device_stack.specs.State.{State, silent, value_of, last_level_of}
use Rattle.device_kinds.specs.Judging.{judged_message, judged_set, status_of}
use Rattle.device_kinds.specs.Telling.{report_of, asked_name, members_of, value_told, told}
use Rattle.device_kinds.specs.Answers.{report_status, swapped, answer_plan, worded}
use Rattle.device_stack.specs.Answers.{asks_to_wake, status_report, final_report}
use Rattle.device_kinds.specs.Effects.{end_of, set_plainly, effect_untold, telling, effect_alone, effect_in_session, effect_by}
use Rattle.device_stack.specs.Effects.{effect_of, takes, after_effect, status_answer, answer_of}
use Rattle.device_kinds.specs.Segments.{segment_session}
use Rattle.device_stack.specs.Hearing.{answers, answers_opened, answers_bytes, sent_openly, hears_openly, assembles, repeats_segment, hears_segment, hears_in_segments}
use Rattle.transport_segments.specs.Segment.{id_of}
use Rattle.transport_segments.specs.Taking.{is_segment, ends_its_datagram, taken_at}
use Rattle.transport_segments.specs.declared.assembler.Taken.{Taken as Assembled}
use Rattle.transport_segments.specs.declared.assembler.Taken.TheVariants.{Kept, Need, Whole}
use Rattle.device_stack.specs.Ticking.{aged, works_out, ticked, woken, by_hand, main_told, tells_by_hand, set_by_hand}
use Rattle.proof_once.specs.proof_messages.Reporting.{TellsOwn, TellsNone, TellsTrue, CanSay, asks_now}
use Rattle.proof_once.specs.proof_messages.Others.{IsNoGet}
use Rattle.proof_once.proofs.Bare.{never_begins}
use Rattle.proof_course_plain.specs.Device.{Says}

-- ---- bytes that are not sealed

abbrev pub IsBare : List ℕ → Type 0
IsBare payload = begins_with payload 152 129 ≡ false

addressed_bare : (channel : Option Ends) (text : List ℕ) → IsBare text → IsBare (addressed_form channel text)
addressed_bare None text is = is
addressed_bare (Some ends) text is = never_begins _ _

abbrev said_in : Option Ends → Outer → List ℕ → List ℕ
said_in channel outer text = written_form (record { batch = false; session = None; channel = channel; outer = outer }) (text ∷ [])

worded_bare : (channel : Option Ends) (outer : Outer) (text : List ℕ) → IsBare text → IsBare (said_in channel outer text)
worded_bare channel Crc16 text is = never_begins _ _
worded_bare channel no_outer text is = addressed_bare channel text is
worded_bare channel Security text is = addressed_bare channel text is
worded_bare channel Transport text is = addressed_bare channel text is

-- ---- values

class_bare : (text : List ℕ) → slice_index text 0 == 152 ≡ false → IsBare text
class_bare text e = by (nat_le 2 (length text)) (slice_index text 0 == 152) (slice_index text 1 == 129) e
  where
    by : (a b c : Bool) → b ≡ false → (a && b) && c ≡ false
    by true b c e = rw e refl
    by false b c e = refl

abbrev IsBareMessage : InfoMessage → Type 0
IsBareMessage message = IsBare (form message)

-- a message, where there is one
abbrev BareIf : Option InfoMessage → Type 0
BareIf None = Unit {0}
BareIf (Some message) = IsBareMessage message

report_bare : (name : Name) (value : ℕ) → BareIf (report_of name value)
report_bare names.Switch value = refl
report_bare names.Level value = refl
report_bare names.Lock value = tt
report_bare names.Mode value = refl
report_bare (names.Setpoint type) value = class_bare (form (Core (ThermostatSetpointReport (type % 16) (record { precision = 1; scale = 0; number = Two (value % 65536) })))) refl
report_bare (names.Config parameter) value = class_bare (form (Core (ConfigurationReport parameter (Four value)))) refl
report_bare (names.Member group node) value = tt
report_bare names.Interval value = refl
report_bare names.Sensor value = class_bare (form (SensorMultilevelReport 1 (record { precision = 1; scale = 0; number = Two (value % 65536) }))) refl
report_bare names.Battery value = refl

if_bare : (b : Bool) (made : Option InfoMessage) → BareIf made → BareIf (if b then made else None)
if_bare true made is = is
if_bare false made is = tt

asked_bare : (kind : Kind) (values : Property → ℕ) (end : ℕ) (name : Option Name) → BareIf (option_and_then (value_told kind values end) name)
asked_bare kind values end None = tt
asked_bare kind values end (Some name) =
    if_bare (tells kind name) (report_of name (values (record { end = end; name = name }))) (report_bare name (values (record { end = end; name = name })))

members_bare : (group : ℕ) (members : List ℕ) → IsBareMessage (AssociationReport group 5 0 members)
members_bare group members = class_bare (form (AssociationReport group 5 0 members)) refl

told_bare : (kind : Kind) (values : Property → ℕ) (end : ℕ) (asked : InfoMessage) → BareIf (told kind values end asked)
unfolding told
told_bare kind values end (AssociationGet group) =
    if_bare (has_end kind end && lists kind 0x85) (Some (AssociationReport group 5 0 (take 5 (members_of values end group)))) (members_bare group (take 5 (members_of values end group)))
told_bare kind values end asked = if_bare (has_end kind end) (option_and_then (value_told kind values end) (asked_name asked)) (asked_bare kind values end (asked_name asked))

status_bare : (device : State) (asked : Supervised) (status : ℕ) → IsBareMessage (status_report device asked status)
status_bare device asked status = by (status == WORKING)
  where
    by : (b : Bool) → IsBareMessage (if b then SupervisionReport asked.updates false asked.id statuses.Working 1 else SupervisionReport false (asks_to_wake device) asked.id (report_status status) 0)
    by true = refl
    by false = refl

-- ---- what an effect is answered with

abbrev IsBareEffect : Effect → Type 0
IsBareEffect Ignores = Unit {0}
IsBareEffect Sleeps = Unit {0}
IsBareEffect (Tells report) = IsBareMessage report
IsBareEffect (Sets settings) = Unit {0}
IsBareEffect (Repeats status) = Unit {0}
IsBareEffect (Takes verdict) = Unit {0}

abbrev AllBare : List (List ℕ) → Type 0
AllBare replies = AllByRecursion IsBare replies

status_answer_bare : (device : State) (session : Option Supervised) (channel : Option Ends) (outer : Outer) (status : ℕ)
    → AllBare (option_to_list (option_map (λ (m : InfoMessage). said_in channel outer (form m)) (status_answer device session status)))
status_answer_bare device None channel outer status = tt
status_answer_bare device (Some asked) channel outer status = (worded_bare channel outer _ (status_bare device asked status), tt)

effect_bare : (device : State) (plan : Plan) (effect : Effect) → IsBareEffect effect → AllBare (option_to_list (option_map (worded (answer_plan plan)) (answer_of device plan effect)))
effect_bare device plan Ignores is = tt
effect_bare device plan Sleeps is = tt
effect_bare device plan (Tells report) is = (worded_bare (swapped plan.channel) plan.outer _ is, tt)
effect_bare device plan (Sets settings) is = tt
effect_bare device plan (Repeats status) is = status_answer_bare device plan.session (swapped plan.channel) plan.outer status
effect_bare device plan (Takes verdict) is = status_answer_bare device plan.session (swapped plan.channel) plan.outer (status_of verdict)

sets_bare : (b : Bool) (settings : List Setting) → IsBareEffect (if b then Sets settings else Ignores)
sets_bare true settings = tt
sets_bare false settings = tt

plainly_bare : (kind : Kind) (end : ℕ) (verdict : Verdict) → IsBareEffect (set_plainly kind end verdict)
plainly_bare kind end (Makes settings) = sets_bare (not (lists kind 0x6C) && has_end kind end) settings
plainly_bare kind end (Works settings) = tt
plainly_bare kind end Fails = tt
plainly_bare kind end NoSupport = tt

untold_bare : (device : State) (end : ℕ) (message : InfoMessage) → IsBareEffect (effect_untold device.kind device.journal end message)
untold_bare device end (Core (SwitchBinarySet value)) = plainly_bare device.kind end (judged_set device.kind (value_of device) (last_level_of device) end (SwitchBinarySet value))
untold_bare device end WakeUpNoMoreInformation = by (not (listens device.kind) && has_end device.kind end)
  where
    by : (b : Bool) → IsBareEffect (if b then Sleeps else Ignores)
    by true = tt
    by false = tt
untold_bare device end _ = tt

telling_bare : (report : Option InfoMessage) (effect : Effect) → BareIf report → IsBareEffect effect → IsBareEffect (telling report effect)
telling_bare (Some report) effect bare is = bare
telling_bare None effect bare is = is

alone_bare : (device : State) (end : ℕ) (read : Result InfoMessage ClassFault) → IsBareEffect (effect_alone device.kind device.journal end read)
alone_bare device end (Ok message) =
    telling_bare (told device.kind (value_of device) end message) (effect_untold device.kind device.journal end message) (told_bare device.kind (value_of device) end message) (untold_bare device end message)
alone_bare device end (Err fault) = tt

by_bare : (device : State) (plan : Plan) (commands : List (List ℕ)) (session : Option Supervised) → IsBareEffect (effect_by device.kind device.journal device.sessions plan commands session)
by_bare device plan commands None = by plan.batch
  where
    by : (b : Bool) → IsBareEffect (if b then Ignores else effect_alone device.kind device.journal (end_of plan.channel) (info_at (only_of commands)))
    by true = tt
    by false = alone_bare device (end_of plan.channel) (info_at (only_of commands))
by_bare device plan commands (Some asked) = supervised (lists device.kind 0x6C)
  where
    again : (b : Bool) → IsBareEffect (effect_in_session device.kind device.journal plan commands (if b then Again device.sessions.status else Old))
    again true = tt
    again false = tt

    new : (b : Bool) → IsBareEffect (effect_in_session device.kind device.journal plan commands (if b then New (device.sessions.taken + 1) else (if is_again device.sessions asked.id then Again device.sessions.status else Old)))
    new true = tt
    new false = again (is_again device.sessions asked.id)

    supervised : (b : Bool) → IsBareEffect (if b then effect_in_session device.kind device.journal plan commands (heard_of device.sessions asked.id) else Ignores)
    supervised true = new (is_new device.sessions asked.id)
    supervised false = tt

message_bare : (device : State) (message : Message) → AllBare (option_to_list (answers device message).answer)
unfolding answers effect_of
message_bare device message = effect_bare device message.plan (effect_by device.kind device.journal device.sessions message.plan message.commands message.plan.session) (by_bare device message.plan message.commands message.plan.session)

pub openly_bare : (device : State) (payload : List ℕ) → AllByRecursion IsBare (hears_openly device payload).replies
unfolding hears_openly answers_bytes
openly_bare device payload = by (opened_at payload)
  where
    by : (opened : Option Message) → AllBare (sent_openly (answers_opened device opened)).replies
    by None = tt
    by (Some message) = message_bare device message

pub in_segments_bare : (device : State) (payload : List ℕ) → AllBare (hears_in_segments device payload).replies
unfolding hears_in_segments hears_segment
in_segments_bare device payload = by (is_segment payload)
  where
    complete_bare : (id : ℕ) → IsBareMessage (TransportComplete id)
    complete_bare id = class_bare (form (TransportComplete id)) refl

    assembled : (taken : Option Assembled) → AllBare (assembles device payload taken).replies
    assembled None = tt
    assembled (Some (Whole datagram)) = (complete_bare (id_of payload), openly_bare device datagram)
    assembled (Some (Need at)) = (class_bare (form (TransportRequest (id_of payload) at)) refl, tt)
    assembled (Some Kept) = tt

    again : (b : Bool) → AllBare (if b then repeats_segment device payload else silent device).replies
    again true = (complete_bare (id_of payload), (status_bare device (record { updates = false; id = wire_id device.sessions.taken }) device.sessions.status, tt))
    again false = tt

    next : (b : Bool) → AllBare (if b then assembles device payload (taken_at device.reassembly payload)
        else if nat_lt 0 device.sessions.taken && (id_of payload == segment_session device.sessions.taken) && ends_its_datagram payload then repeats_segment device payload else silent device).replies
    next true = assembled (taken_at device.reassembly payload)
    next false = again (nat_lt 0 device.sessions.taken && (id_of payload == segment_session device.sessions.taken) && ends_its_datagram payload)

    by : (b : Bool) → AllBare (if b then hears_segment device payload else hears_openly device payload).replies
    by true = next (id_of payload == segment_session (device.sessions.taken + 1))
    by false = openly_bare device payload

-- ---- no report before a session is taken

-- the answer to a message of a session, where there is one, is of a session that was taken
abbrev Taking : State → Option (List ℕ) → Type 0
Taking device None = Unit {0}
Taking device (Some text) = 0 < device.sessions.taken

again_taken : (device : Taken) (id : ℕ) → is_again device id ≡ true → 0 < device.taken
again_taken device id e = by (nat_lt 0 device.taken) refl e
  where
    by : (b : Bool) → nat_lt 0 device.taken ≡ b → (b && (id == wire_id device.taken)) ≡ true → 0 < device.taken
    by true is more = grind (arith, is)
    by false is more = cc

verdict_taken : (device : State) (plan : Plan) (asked : Supervised) (verdict : Verdict) → 0 < (takes device plan asked verdict).sessions.taken
verdict_taken device plan asked (Makes settings) = omega arith
verdict_taken device plan asked (Works settings) = omega arith
verdict_taken device plan asked Fails = omega arith
verdict_taken device plan asked NoSupport = omega arith

module _ (device : State) (batch : Bool) (asked : Supervised) (channel : Option Ends) (outer : Outer) (commands : List (List ℕ)) where
  abbrev plan : Plan
  plan = record { batch = batch; session = Some asked; channel = channel; outer = outer }

  abbrev Holds : Effect → Type 0
  Holds effect = Taking (after_effect device plan effect) (option_map (worded (answer_plan plan)) (answer_of device plan effect))

  again : (b : Bool) → is_again device.sessions asked.id ≡ b → Holds (effect_in_session device.kind device.journal plan commands (if b then Again device.sessions.status else Old))
  again true e = again_taken device.sessions asked.id e
  again false e = tt

  new : (b : Bool) → is_new device.sessions asked.id ≡ b
      → Holds (effect_in_session device.kind device.journal plan commands (if b then New (device.sessions.taken + 1) else (if is_again device.sessions asked.id then Again device.sessions.status else Old)))
  new true e = verdict_taken device plan asked (judged_message device.kind (value_of device) (last_level_of device) (end_of channel) batch commands)
  new false e = again (is_again device.sessions asked.id) refl

  supervised : (b : Bool) → Holds (if b then effect_in_session device.kind device.journal plan commands (heard_of device.sessions asked.id) else Ignores)
  supervised true = new (is_new device.sessions asked.id) refl
  supervised false = tt

  session_taken : Taking (answers device (record { plan = plan; commands = commands })).device (answers device (record { plan = plan; commands = commands })).answer
  unfolding answers effect_of
  session_taken = supervised (lists device.kind 0x6C)

-- each reply is of a device that took a session
abbrev pub AllTaken : State → List (List ℕ) → Type 0
AllTaken device replies = AllByRecursion (λ (reply : List ℕ). 0 < device.sessions.taken) replies

answer_taken : (device : State) (answer : Option (List ℕ)) → Taking device answer → AllTaken device (option_to_list answer)
answer_taken device None is = tt
answer_taken device (Some text) is = (is, tt)

message_taken : (device : State) (message : Message) (asked : Supervised) (found : Option Supervised) → found ≡ message.plan.session → message.plan.session ≡ Some asked
    → AllTaken (answers device message).device (option_to_list (answers device message).answer)
message_taken device message asked None e session = absurd (grind (arith, e, session))
message_taken device message asked (Some other) e session =
    let whole : record { plan = record { batch = message.plan.batch; session = Some other; channel = message.plan.channel; outer = message.plan.outer }; commands = message.commands } ≡ message =
    ap (λ (s : Option Supervised). record { plan = record { batch = message.plan.batch; session = s; channel = message.plan.channel; outer = message.plan.outer }; commands = message.commands }) e in
    subst (λ (m : Message). AllTaken (answers device m).device (option_to_list (answers device m).answer)) whole
    (answer_taken (answers device (record { plan = record { batch = message.plan.batch; session = Some other; channel = message.plan.channel; outer = message.plan.outer }; commands = message.commands })).device
    (answers device (record { plan = record { batch = message.plan.batch; session = Some other; channel = message.plan.channel; outer = message.plan.outer }; commands = message.commands })).answer
    (session_taken device message.plan.batch other message.plan.channel message.plan.outer message.commands))

pub get_taken : (device : State) (payload : List ℕ) (message : Message) (asked : Supervised) → opened_at payload ≡ Some message → message.plan.session ≡ Some asked
    → AllTaken (hears_openly device payload).device (hears_openly device payload).replies
unfolding hears_openly answers_bytes
get_taken device payload message asked opened session = rw opened (message_taken device message asked message.plan.session refl session)

-- ---- what does not depend on sessions

-- the same device with one session more
abbrev pub later : State → State
later device = record device { sessions = record { taken = device.sessions.taken + 1; status = device.sessions.status } }

answer_same : (device : State) (plan : Plan) (effect : Effect) → plan.session ≡ None → answer_of (later device) plan effect ≡ answer_of device plan effect
answer_same device plan Ignores none = refl
answer_same device plan Sleeps none = refl
answer_same device plan (Tells report) none = refl
answer_same device plan (Sets settings) none = refl
answer_same device plan (Repeats status) none = rw none refl
answer_same device plan (Takes verdict) none = rw none refl

-- what a message does without Supervision goes by kind and journal alone
none_same : (device : State) (plan : Plan) (commands : List (List ℕ)) → plan.session ≡ None
    → answer_of (later device) plan (effect_by device.kind device.journal (later device).sessions plan commands None)
    ≡ answer_of device plan (effect_by device.kind device.journal device.sessions plan commands None)
none_same device plan commands none = answer_same device plan (effect_by device.kind device.journal device.sessions plan commands None) none

message_same : (device : State) (message : Message) → message.plan.session ≡ None → (answers (later device) message).answer ≡ (answers device message).answer
unfolding answers effect_of
message_same device message none =
    ap (λ (s : Option Supervised). option_map (worded (answer_plan message.plan)) (answer_of (later device) message.plan (effect_by device.kind device.journal (later device).sessions message.plan message.commands s))) none
    ∙ (ap (option_map (worded (answer_plan message.plan))) (none_same device message.plan message.commands none)
    ∙ ap (λ (s : Option Supervised). option_map (worded (answer_plan message.plan)) (answer_of device message.plan (effect_by device.kind device.journal device.sessions message.plan message.commands s))) (sym none))

pub openly_same : (device : State) (payload : List ℕ) → IsNoGet payload → (hears_openly (later device) payload).replies ≡ (hears_openly device payload).replies
unfolding hears_openly answers_bytes
openly_same device payload other = by (opened_at payload) refl
  where
    by : (opened : Option Message) → opened_at payload ≡ opened → (sent_openly (answers_opened (later device) opened)).replies ≡ (sent_openly (answers_opened device opened)).replies
    by None e = refl
    by (Some message) e = ap option_to_list (message_same device message (other.no_get message e))

-- what is said alike by a device with one session more is no report
one_report : (a b : ℕ) (s t : ReportStatus) (x y : Bool) → Messages (Report a s x ∷ []) ≡ Messages (Report b t y ∷ []) → a ≡ b
one_report a b s t x y e = cc

pub never_own : (device other : State) (replies : List (List ℕ)) → other.sessions.taken ≡ device.sessions.taken + 1 → AllByRecursion (TellsTrue other) replies
    → AllByRecursion (λ (reply : List ℕ). TellsOwn device reply → 0 < device.sessions.taken) replies
never_own device other [] more all = tt
never_own device other (reply ∷ replies) more (is, all) = (by is, never_own device other replies more all)
  where
    by : TellsTrue other reply → TellsOwn device reply → 0 < device.sessions.taken
    by (inl own) mine =
        let same : wire_id other.sessions.taken ≡ wire_id device.sessions.taken = one_report _ _ _ _ _ _ (sym own ∙ mine) in
        absurd (omega (arith, same, more))
    by (inr none) mine = absurd (none (Report (wire_id device.sessions.taken) (report_status device.sessions.status) (asks_now device) ∷ []) mine).0

-- each report of its own is of a device that took a session
abbrev pub AllOwnTaken : State → List (List ℕ) → Type 0
AllOwnTaken device replies = AllByRecursion (λ (reply : List ℕ). TellsOwn device reply → 0 < device.sessions.taken) replies

-- what tells nothing is no report of its own
pub none_own : (device : State) (replies : List (List ℕ)) → AllByRecursion TellsNone replies → AllOwnTaken device replies
none_own device [] all = tt
none_own device (reply ∷ replies) (none, all) = (λ own. absurd (none _ own).0, none_own device replies all)

-- ---- together

pub all_said : (device : State) (replies : List (List ℕ)) → CanSay device → AllByRecursion (TellsTrue device) replies
    → AllByRecursion (λ (reply : List ℕ). TellsOwn device reply → 0 < device.sessions.taken) replies → AllByRecursion IsBare replies → AllByRecursion (Says device.sessions) replies
all_said device [] can all taken bare = tt
all_said device (reply ∷ replies) can (is, all) (of, taken) (plain, bare) = (by is, all_said device replies can all taken bare)
  where
    by : TellsTrue device reply → Says device.sessions reply
    by (inl own) = inl (of own, record { asks = asks_now device; heard = own; is_status = can.status })
    by (inr none) = inr (none, plain)

pub all_taken : (device : State) (replies : List (List ℕ)) → 0 < device.sessions.taken → AllByRecursion (λ (reply : List ℕ). TellsOwn device reply → 0 < device.sessions.taken) replies
all_taken device [] some = tt
all_taken device (reply ∷ replies) some = (λ own. some, all_taken device replies some)

pub weaken_taken : (device : State) (replies : List (List ℕ)) → AllTaken device replies → AllByRecursion (λ (reply : List ℕ). TellsOwn device reply → 0 < device.sessions.taken) replies
weaken_taken device [] all = tt
weaken_taken device (reply ∷ replies) (some, all) = (λ own. some, weaken_taken device replies all)

-- ---- a tick, a wake-up, a hand

pub ticks_bare : (device : State) → AllByRecursion IsBare (ticked device).replies
unfolding ticked
ticks_bare device = none (device.work_left == 0)
  where
    late : (answer : Option Plan) → AllBare (option_to_list (option_map (λ plan. worded (answer_plan plan) (final_report (aged device))) answer))
    late None = tt
    late (Some plan) = (worded_bare (swapped plan.channel) plan.outer _ refl, tt)

    last : (b : Bool) → AllBare (if b then works_out (aged device) else silent (record (aged device) { work_left = device.work_left - 1 })).replies
    last true = late device.work.answer
    last false = tt

    none : (b : Bool) → AllBare (if b then silent (aged device) else if device.work_left == 1 then works_out (aged device) else silent (record (aged device) { work_left = device.work_left - 1 })).replies
    none true = tt
    none false = last (device.work_left == 1)

pub wakes_bare : (device : State) → AllByRecursion IsBare (woken device).replies
unfolding woken
wakes_bare device = by (listens device.kind)
  where
    by : (b : Bool) → AllBare (if b then silent device else record { device = record device { awake = true; active_at = device.clock }; replies = form WakeUpNotification ∷ [] }).replies
    by true = tt
    by false = (refl, tt)

pub wakes_same : (device : State) → (woken (later device)).replies ≡ (woken device).replies
unfolding woken
wakes_same device = by (listens device.kind)
  where
    by : (b : Bool) → (if b then silent (later device) else record { device = record (later device) { awake = true; active_at = device.clock }; replies = form WakeUpNotification ∷ [] }).replies
        ≡ (if b then silent device else record { device = record device { awake = true; active_at = device.clock }; replies = form WakeUpNotification ∷ [] }).replies
    by true = refl
    by false = refl

hand_bare : (report : Option InfoMessage) → BareIf report → AllBare (option_to_list (option_map (λ report. form report) report))
hand_bare None bare = tt
hand_bare (Some report) bare = (bare, tt)

pub sets_bare_all : (device : State) (value : ℕ) → AllByRecursion IsBare (set_by_hand device value).replies
unfolding set_by_hand
sets_bare_all device value =
    hand_bare (main_told device (by_hand (main_name_of device.kind) value))
    (if_bare (device.awake && tells_by_hand device.kind && tells device.kind (main_name_of device.kind)) (report_of (main_name_of device.kind) (by_hand (main_name_of device.kind) value))
    (report_bare (main_name_of device.kind) (by_hand (main_name_of device.kind) value)))

pub sets_same : (device : State) (value : ℕ) → (set_by_hand (later device) value).replies ≡ (set_by_hand device value).replies
unfolding set_by_hand
sets_same device value = refl
