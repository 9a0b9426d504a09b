-- What is heard of the payloads of a device, event by event.
use Rattle.std.proofs.Common.{◌≡◌, ℕ, zero, suc, ◌+◌, ◌-◌, ◌*◌, ◌/◌, ◌%◌, ◌<◌, ◌≤◌, ◌==◌, inl, inr, Bool, true, false, ◌&&◌, ◌||◌, not, nat_lt, min, if◌then◌else◌, Option, Some, None, List, [], ◌∷◌, ◌++◌, length, length-append, take, filter, refl, ap, sym, ◌∙◌, subst, arith}
use Rattle.std.specs.Prelude.{Result, Ok, Err, IsTrue, nat_le, slice_index}
use Rattle.std.specs.List.{AllByRecursion, list_all, range_with_len}
use Rattle.std.specs.Option.{option_map, option_to_list, option_and_then}
use Rattle.std.proofs.lemmas.Bool.{eqb-true}
use Rattle.std.proofs.lemmas.Bool.Decides.{nat_tests}
use Rattle.zw_base.proofs.Each.{all-weaker}
use Rattle.zw_base.specs.Crc.{crc}
use Rattle.zw_base.specs.declared.property.Name.{Name}
use Rattle.zw_base.specs.declared.property.Name.TheVariants as names
use Rattle.zw_base.specs.declared.property.Property.{Property}
use Rattle.zw_base.specs.declared.property.Setting.{Setting}
use Rattle.supervision.specs.Session.{wire_id, IsStatus}
use Rattle.supervision.specs.Device.{is_new, is_again, heard_of}
use Rattle.supervision.specs.declared.session.TheConstants.{WORKING, SUCCESS}
use Rattle.supervision.specs.declared.device_book.Heard.TheVariants.{New, Again, Old}
use Rattle.s0_crypto.specs.declared.key_pair.Keys.{Keys}
use Rattle.s0_crypto.specs.declared.ends.SealEnds.{SealEnds}
use Rattle.s0_crypto.specs.Seal.{code_of}
use Rattle.s0_session.specs.Nonces.{after_spend, nonce_spent}
use Rattle.s0_session.specs.Sending.{taken_from}
use Rattle.class_core.specs.Ranges.{is_node, is_level}
use Rattle.class_core.specs.Reading.{◌>>=◌, byte_at, bits_at, in_class}
use Rattle.class_core.specs.Cell.{bits}
use Rattle.class_core.specs.declared.fault.ClassFault.{ClassFault}
use Rattle.class_core.specs.declared.message.CoreMessage.TheVariants.{SwitchBinarySet, SwitchBinaryReport, SwitchMultilevelReport, ThermostatModeReport, ThermostatSetpointReport, ConfigurationReport}
use Rattle.class_core.specs.MessageReading.{message_at}
use Rattle.class_info.specs.declared.message.InfoMessage.{InfoMessage}
use Rattle.class_info.specs.declared.message.InfoMessage.TheVariants.{Core, SensorMultilevelReport, BatteryReport, WakeUpIntervalReport, AssociationGet, AssociationReport, SupervisionReport, WakeUpNotification, WakeUpNoMoreInformation, NonceGet, NonceReport, TransportRequest, TransportComplete}
use Rattle.class_info.specs.declared.report_status.ReportStatus.TheVariants as statuses
use Rattle.class_info.specs.InfoReading.{info_at, own_at, nonce_at, transport_request_at}
use Rattle.class_info.specs.InfoSpelling.{form, IsInRange}
use Rattle.class_info.specs.Values.{status_byte}
use Rattle.class_info.proofs.InfoLaws.{again}
use Rattle.class_info.proofs.FormLaws.{form_spells}
use Rattle.encap.specs.Wraps.{Addresses, IsCommand}
use Rattle.std.proofs.lemmas.List.{length-take}
use Rattle.encap.specs.Written.{AreEnds, only_of, written_form, addressed_form, checked_form}
use Rattle.encap.specs.Opening.{Message, begins_with, opened_at}
use Rattle.encap.specs.Layers.{seen_of}
use Rattle.encap.specs.declared.plan.Plan.{Plan}
use Rattle.encap.specs.declared.plan.Supervised.{Supervised}
use Rattle.encap.specs.declared.plan.Ends.{Ends}
use Rattle.encap.specs.declared.plan.Outer.{Outer}
use Rattle.encap.specs.declared.plan.Outer.TheVariants.{None as no_outer, Crc16, Security, Transport}
use Rattle.encap.specs.Wraps.{is_crc16}
use Rattle.encap.proofs.FormLemmas.{form_wraps}
use Rattle.encap.proofs.OpenedLemmas.{opened_there, opened_back}
use Rattle.transport_segments.specs.Segment.{id_of}
use Rattle.transport_segments.specs.Taking.{is_segment, ends_its_datagram, taken_at}
use Rattle.transport_segments.specs.Kept.{Empty}
use Rattle.transport_segments.specs.declared.assembler.Taken.{Taken as Segment}
use Rattle.transport_segments.specs.declared.assembler.Taken.TheVariants.{Kept, Need, Whole}
use Rattle.host_heard.specs.declared.payload.Heard.{Heard}
use Rattle.host_heard.specs.declared.payload.Heard.TheVariants.{Messages, Sealed, Unread}
use Rattle.host_heard.specs.declared.told.Told.{Told}
use Rattle.host_heard.specs.declared.told.Told.TheVariants.{NonceGet as AsksNonce, NonceReport as TellsNonce, Notification, Report, SegmentRequest, Values}
use Rattle.host_heard.specs.Telling.{told_by, told_in, heard_by, heard_at, end_of as from_end}
use Rattle.device_kinds.specs.declared.kind.Kind.{Kind}
use Rattle.device_kinds.specs.declared.kind.Kind.TheVariants.{Lock, Configurable}
use Rattle.device_kinds.specs.declared.effect.Effect.{Effect}
use Rattle.device_kinds.specs.declared.effect.Effect.TheVariants.{Ignores, Sleeps, Tells, Sets, Repeats, Takes}
use Rattle.device_kinds.specs.declared.verdict.Verdict.{Verdict}
use Rattle.device_kinds.specs.declared.verdict.Verdict.TheVariants.{NoSupport, Fails, Makes, Works}
use Rattle.device_kinds.specs.Kind.{listens, lists, has_end, tells, nodes_from, main_name_of}
use Rattle.device_sim.specs.device_stack.State.{State, Outcome, silent, value_of, last_level_of}
use Rattle.device_kinds.specs.Judging.{judged_set, status_of}
use Rattle.device_kinds.specs.Telling.{report_of, asked_name, members_of, is_member_of, value_told, told, IsAnswer}
use Rattle.device_kinds.specs.Answers.{report_status, swapped, answer_plan, worded}
use Rattle.device_sim.specs.device_stack.Answers.{asks_to_wake, status_report, final_report}
use Rattle.device_kinds.proofs.WordedLemmas.{wrappable}
use Rattle.device_kinds.specs.Effects.{end_of, set_plainly, effect_untold, telling, effect_alone, effect_in_session, effect_by}
use Rattle.device_sim.specs.device_stack.Effects.{effect_of, takes, after_effect, answer_of}
use Rattle.device_kinds.specs.Segments.{segment_session}
use Rattle.device_sim.specs.device_stack.Hearing.{Answered, answers, answers_opened, answers_bytes, sent_openly, hears_openly, nonce_named, sent_sealed, hears_inside, hears_plain, hears_for, hears_sealed, seals_for, hears_nonces, hears_securely, assembles, repeats_segment, hears_segment, hears_in_segments, hears_by, active, hears}
use Rattle.device_sim.specs.device_stack.Ticking.{aged, works_out, ticked, woken, by_hand, main_told, tells_by_hand, set_by_hand}
use Rattle.s0_crypto.specs.Sealing.{keys_of, cipher_text_of, unsealed_at, sealed_text}
use Rattle.device_sim.specs.Event.{DeviceEvent, Hears, Ticks, Wakes, Sets, outcome_of, device_after, device_replies}
use Rattle.proof_messages.proofs.Bare.{bare, bare_opens, high_command, middle_command, low_command, never_begins}
use Rattle.host_model.proofs.Pumps.{and_false as never_ends}
use Rattle.proof_messages.specs.Asking.{takes_openly}
use Rattle.proof_messages.specs.Reporting.{CanBeAnswered, CanSay, IsNoReport, IsOpenTold, IsPlainTold, TellsNone, TellsOpenly, TellsOwn, TellsPlainly, TellsTrue, asks_now}
use Rattle.host_node.proofs.Keeps.{first_holds, second_holds}

-- ---- statuses

pub status_said : (status : ℕ) → IsStatus status → status_byte (report_status status) ≡ status
status_said status is = none (status == 0) refl
  where
    done : (b : Bool) → status == 255 ≡ b → b ≡ true → 255 ≡ status
    done true e d = sym (eqb-true status 255 e)
    done false e d = cc

    fail : (b : Bool) → status == 2 ≡ b → (b || status == 255) ≡ true → status_byte (if b then statuses.Fail else statuses.Success) ≡ status
    fail true e d = sym (eqb-true status 2 e)
    fail false e d = done (status == 255) refl d

    work : (b : Bool) → status == 1 ≡ b → ((b || status == 2) || status == 255) ≡ true → status_byte (if b then statuses.Working else if status == 2 then statuses.Fail else statuses.Success) ≡ status
    work true e d = sym (eqb-true status 1 e)
    work false e d = fail (status == 2) refl d

    none : (b : Bool) → status == 0 ≡ b
        → status_byte (if b then statuses.NoSupport else if status == 1 then statuses.Working else if status == 2 then statuses.Fail else statuses.Success) ≡ status
    none true e = sym (eqb-true status 0 e)
    none false e = work (status == 1) refl (subst (λ (b : Bool). (((b || status == 1) || status == 2) || status == 255) ≡ true) e is)

-- ---- a message that is read

one_told : (payload : List ℕ) (plan : Plan) (command : List ℕ) (message : InfoMessage) → begins_with payload 152 129 ≡ false
    → opened_at payload ≡ Some (record { plan = plan; commands = command ∷ [] }) → info_at command ≡ Ok message
    → heard_at payload ≡ Messages (told_by (from_end plan.channel) message ∷ [])
unfolding heard_at
one_told payload plan command message unsealed opened read = rw (unsealed, opened, read) refl

none_told : (payload : List ℕ) (plan : Plan) (command : List ℕ) (fault : ClassFault) → begins_with payload 152 129 ≡ false
    → opened_at payload ≡ Some (record { plan = plan; commands = command ∷ [] }) → info_at command ≡ Err fault → heard_at payload ≡ Unread
unfolding heard_at
none_told payload plan command fault unsealed opened read = rw (unsealed, opened, read) refl

pub same_messages : (a b : List Told) → Messages a ≡ Messages b → a ≡ b
same_messages a b e = cc

told_none : (payload : List ℕ) (told : Told) → IsNoReport told → heard_at payload ≡ Messages (told ∷ []) → TellsNone payload
told_none payload told is e = λ others heard. subst (λ (x : List Told). AllByRecursion IsNoReport x) (same_messages (told ∷ []) others (sym e ∙ heard)) (is, tt)

unread_none : (payload : List ℕ) → heard_at payload ≡ Unread → TellsNone payload
unread_none payload e = λ others heard. let bad : Unread ≡ Messages others = sym e ∙ heard in cc

sealed_none : (payload : List ℕ) → heard_at payload ≡ Sealed → TellsNone payload
sealed_none payload e = λ others heard. let bad : Sealed ≡ Messages others = sym e ∙ heard in cc

-- ---- a bare text

pub same_ok : (a b : InfoMessage) → ◌≡◌ {A = Result InfoMessage ClassFault} (Ok a) (Ok b) → a ≡ b
same_ok a b e = cc

bare_read : (text : List ℕ) (message : InfoMessage) → IsCommand false text → begins_with text 152 129 ≡ false → info_at text ≡ Ok message → IsNoReport (told_by 0 message) → TellsNone text
bare_read text message is unsealed read none = told_none text (told_by 0 message) none (one_told text bare text message unsealed (bare_opens text is) read)

notification_none : TellsNone (form WakeUpNotification)
notification_none =
    bare_read (form WakeUpNotification) WakeUpNotification (middle_command 0x84 (7 ∷ []) (omega arith) (omega arith)) refl (again (form WakeUpNotification) WakeUpNotification (form_spells WakeUpNotification tt)) tt

nonce_get_none : TellsNone (form NonceGet)
nonce_get_none = bare_read (form NonceGet) NonceGet (high_command 0x98 (0x40 ∷ []) (omega arith)) refl (again (form NonceGet) NonceGet (form_spells NonceGet tt)) tt

nonce_read : (bytes : List ℕ) → info_at (0x98 ∷ 0x80 ∷ bytes) ≡ (nonce_at 2 (0x98 ∷ 0x80 ∷ bytes) >>= λ nonce. Ok (NonceReport nonce))
unfolding info_at message_at own_at byte_at in_class
nonce_read bytes = refl

nonce_report_none : (bytes : List ℕ) → TellsNone (0x98 ∷ 0x80 ∷ bytes)
nonce_report_none bytes = by (nonce_at 2 (0x98 ∷ 0x80 ∷ bytes)) refl
  where
    by : (nonce : Result (List ℕ) ClassFault) → nonce_at 2 (0x98 ∷ 0x80 ∷ bytes) ≡ nonce → TellsNone (0x98 ∷ 0x80 ∷ bytes)
    by (Ok nonce) e =
        let text : List ℕ = 0x98 ∷ 0x80 ∷ bytes in
        bare_read text (NonceReport nonce) (high_command 0x98 (0x80 ∷ bytes) (omega arith)) (never_ends _)
        (nonce_read bytes ∙ ap (λ (r : Result (List ℕ) ClassFault). r >>= λ nonce. Ok (NonceReport nonce)) e) tt
    by (Err fault) e =
        let text : List ℕ = 0x98 ∷ 0x80 ∷ bytes in
        unread_none text (none_told text bare text fault (never_ends _) (bare_opens text (high_command 0x98 (0x80 ∷ bytes) (omega arith)))
        (nonce_read bytes ∙ ap (λ (r : Result (List ℕ) ClassFault). r >>= λ nonce. Ok (NonceReport nonce)) e))

complete_read : (byte : ℕ) → info_at (0x55 ∷ 0xE8 ∷ byte ∷ []) ≡ Ok (TransportComplete (bits 4 4 byte))
unfolding info_at message_at own_at byte_at in_class bits_at
complete_read byte = refl

pub complete_none : (id : ℕ) → TellsNone (form (TransportComplete id))
complete_none id = bare_read (form (TransportComplete id)) (TransportComplete (bits 4 4 _)) (low_command 0x55 _ (omega arith)) refl (complete_read _) tt

request_read : (byte low : ℕ) → info_at (0x55 ∷ 0xC8 ∷ byte ∷ low ∷ []) ≡ Ok (TransportRequest (bits 4 4 byte) (bits 0 3 byte * 256 + low))
unfolding info_at message_at own_at byte_at in_class bits_at transport_request_at
request_read byte low = refl

pub request_none : (id at : ℕ) → TellsNone (form (TransportRequest id at))
request_none id at = bare_read (form (TransportRequest id at)) (TransportRequest (bits 4 4 _) (bits 0 3 _ * 256 + _)) (low_command 0x55 _ (omega arith)) refl (request_read _ _) tt

-- a Segment Request asks for that segment
pub request_told : (id at : ℕ) → id < 16 → at < 2048 → heard_at (form (TransportRequest id at)) ≡ Messages (SegmentRequest id at ∷ [])
request_told id at few near =
    one_told (form (TransportRequest id at)) bare (form (TransportRequest id at)) (TransportRequest id at) refl (bare_opens (form (TransportRequest id at)) (low_command 0x55 _ (omega arith)))
    (again (form (TransportRequest id at)) (TransportRequest id at) (form_spells (TransportRequest id at) (few, near)))

all_true : (a : Bool) → a ≡ true → (a && true) && true ≡ true
all_true a e = rw e refl

sealed_begins : (rest : List ℕ) → begins_with (0x98 ∷ 0x81 ∷ rest) 152 129 ≡ true
sealed_begins rest = all_true (nat_le 2 (length (0x98 ∷ 0x81 ∷ rest))) (grind (arith, nat_tests))

sealed_if : (b : Bool) (other : Heard) → b ≡ true → (if b then Sealed else other) ≡ Sealed
sealed_if b other e = rw e refl

sealed_is : (keys : Keys) (own nonce plain : List ℕ) (ends : SealEnds) → heard_at (sealed_text keys own nonce ends plain) ≡ Sealed
unfolding heard_at sealed_text
sealed_is keys own nonce plain ends =
    let text : List ℕ = cipher_text_of keys own nonce plain in
    sealed_if (begins_with (0x98 ∷ 0x81 ∷ (own ++ (text ++ slice_index nonce 0 ∷ code_of keys (own ++ nonce) ends text))) 152 129)
    (heard_by (told_in (opened_at (sealed_text keys own nonce ends plain))))
    (sealed_begins (own ++ (text ++ slice_index nonce 0 ∷ code_of keys (own ++ nonce) ends text)))

-- ---- what tells a value

abbrev IsValues : Told → Type 0
IsValues (Values values) = Unit {0}
IsValues told = ⊥

values_no_report : (told : Told) → IsValues told → IsNoReport told
values_no_report (Values values) is = tt
values_no_report told is = absurd is

values_plain : (told : Told) → IsValues told → IsPlainTold told
values_plain (Values values) is = tt
values_plain told is = absurd is

record IsValue (message : InfoMessage) : Type 0 where
  answer : IsAnswer message
  range : IsInRange message
  values : (end : ℕ) → IsValues (told_by end message)

by_some : (made message : InfoMessage) → IsValue made → Some made ≡ Some message → IsValue message
by_some made message is e = let same : made ≡ message = cc in subst (λ (m : InfoMessage). IsValue m) same is

no_some : {P : Type 0} (message : InfoMessage) → None ≡ Some message → P
no_some message e = absurd cc

level_fits : (value : ℕ) → IsTrue (is_level (min value 99))
level_fits value = by (nat_le (min value 99) 99) refl
  where
    by : (b : Bool) → nat_le (min value 99) 99 ≡ b → IsTrue (is_level (min value 99))
    by true e = rw e refl
    by false e = absurd (grind (arith, nat_tests))

report_value : (name : Name) (value : ℕ) (message : InfoMessage) → report_of name value ≡ Some message → IsValue message
report_value names.Switch value message e = by_some _ message (record { answer = tt; range = tt; values = λ end. tt }) e
report_value names.Level value message e = by_some _ message (record { answer = tt; range = level_fits value; values = λ end. tt }) e
report_value names.Lock value message e = no_some message e
report_value names.Mode value message e = by_some _ message (record { answer = tt; range = omega arith; values = λ end. tt }) e
report_value (names.Setpoint type) value message e = by_some _ message (record { answer = tt; range = (omega arith, (omega arith, omega arith)); values = λ end. tt }) e
report_value (names.Config parameter) value message e = by_some _ message (record { answer = tt; range = tt; values = λ end. tt }) e
report_value (names.Member group node) value message e = no_some message e
report_value names.Interval value message e = by_some _ message (record { answer = tt; range = refl; values = λ end. tt }) e
report_value names.Sensor value message e = by_some _ message (record { answer = tt; range = (omega arith, omega arith); values = λ end. tt }) e
report_value names.Battery value message e = by_some _ message (record { answer = tt; range = refl; values = λ end. tt }) e

if_some : (b : Bool) (made : Option InfoMessage) (message : InfoMessage) → (if b then made else None) ≡ Some message → made ≡ Some message
if_some true made message e = e
if_some false made message e = no_some message e

asked_value : (kind : Kind) (values : Property → ℕ) (end : ℕ) (name : Option Name) (message : InfoMessage) → option_and_then (value_told kind values end) name ≡ Some message → IsValue message
asked_value kind values end None message e = no_some message e
asked_value kind values end (Some name) message e = report_value name _ message (if_some (tells kind name) _ message e)

-- members are nodes
range_nodes : (low count : ℕ) → 1 ≤ low → low + count ≤ 233 → list_all is_node (range_with_len low count) ≡ true
range_nodes low zero from to = refl
range_nodes low (suc count) from to =
    let here : nat_le 1 low && nat_le low 232 ≡ true = both (nat_le 1 low) (nat_le low 232) (grind (arith, nat_tests)) (grind (arith, nat_tests)) in
    rw here (range_nodes (low + 1) count (omega arith) (omega (arith, to)))
  where
    both : (a b : Bool) → a ≡ true → b ≡ true → a && b ≡ true
    both a b e f = rw (e, f) refl

all_by : (p : ℕ → Bool) (x : ℕ) (xs : List ℕ) → p x && list_all p xs ≡ true → (p x ≡ true) × (list_all p xs ≡ true)
all_by p x xs e = parts (p x) (list_all p xs) e
  where
    parts : (a b : Bool) → a && b ≡ true → (a ≡ true) × (b ≡ true)
    parts true b e = (refl, e)
    parts false b e = cc

kept_nodes : (b : Bool) (x : ℕ) (kept : List ℕ) → is_node x ≡ true → list_all is_node kept ≡ true → list_all is_node (if b then x ∷ kept else kept) ≡ true
kept_nodes true x kept e all = rw e all
kept_nodes false x kept e all = all

filter_nodes : (keep : ℕ → Bool) (xs : List ℕ) → list_all is_node xs ≡ true → list_all is_node (filter keep xs) ≡ true
filter_nodes keep [] e = refl
filter_nodes keep (x ∷ xs) e = let is = all_by is_node x xs e in kept_nodes (keep x) x (filter keep xs) is.0 (filter_nodes keep xs is.1)

take_nodes : (count : ℕ) (xs : List ℕ) → list_all is_node xs ≡ true → list_all is_node (take count xs) ≡ true
take_nodes zero xs e = refl
take_nodes (suc count) [] e = refl
take_nodes (suc count) (x ∷ xs) e = let is = all_by is_node x xs e in rw is.0 (take_nodes count xs is.1)

members_are : (values : Property → ℕ) (end group : ℕ) → list_all is_node (take 5 (members_of values end group)) ≡ true
unfolding members_of nodes_from
members_are values end group = take_nodes 5 (filter (is_member_of values end group) (range_with_len 1 232)) (filter_nodes (is_member_of values end group) (range_with_len 1 232) (range_nodes 1 232 (omega arith) (omega arith)))

few_members : (nodes : List ℕ) → length (take 5 nodes) ≤ 5
few_members nodes = omega (arith, length-take 5 nodes)

told_value : (kind : Kind) (values : Property → ℕ) (end : ℕ) (asked message : InfoMessage) → told kind values end asked ≡ Some message → IsValue message
unfolding told
told_value kind values end (AssociationGet group) message e =
    by_some _ message (record { answer = few_members (members_of values end group); range = members_are values end group; values = λ end. tt }) (if_some (has_end kind end && lists kind 0x85) _ message e)
told_value kind values end asked message e = asked_value kind values end (asked_name asked) message (if_some (has_end kind end) _ message e)

-- ---- an answer in its wraps

abbrev plan_by : Option Ends → Outer → Plan
plan_by channel outer = record { batch = false; session = None; channel = channel; outer = outer }

abbrev pub text_by : Option Ends → Outer → InfoMessage → List ℕ
text_by channel outer message = written_form (plan_by channel outer) (form message ∷ [])

answer_open : (message : InfoMessage) → IsAnswer message → begins_with (form message) 152 129 ≡ false
answer_open (Core (SwitchBinaryReport value)) is = refl
answer_open (Core (SwitchMultilevelReport level)) is = refl
answer_open (Core (ThermostatModeReport mode)) is = refl
answer_open (Core (ThermostatSetpointReport type value)) is = never_begins _ _
answer_open (Core (ConfigurationReport parameter value)) is = never_begins _ _
answer_open (SensorMultilevelReport type value) is = never_begins _ _
answer_open (BatteryReport level) is = refl
answer_open (WakeUpIntervalReport seconds target) is = refl
answer_open (AssociationReport group most following members) is = never_begins _ _
answer_open (SupervisionReport more wake_request session status duration) is = refl
answer_open _ is = absurd is

addressed_open : (channel : Option Ends) (message : InfoMessage) → IsAnswer message → begins_with (addressed_form channel (form message)) 152 129 ≡ false
addressed_open None message is = answer_open message is
addressed_open (Some ends) message is = never_begins _ _

worded_open : (channel : Option Ends) (outer : Outer) (message : InfoMessage) → IsAnswer message → begins_with (text_by channel outer message) 152 129 ≡ false
worded_open channel Crc16 message is = never_begins _ _
worded_open channel no_outer message is = addressed_open channel message is
worded_open channel Security message is = addressed_open channel message is
worded_open channel Transport message is = addressed_open channel message is

worded_opens : (channel : Option Ends) (outer : Outer) (message : InfoMessage) → AreEnds channel → IsAnswer message
    → opened_at (text_by channel outer message) ≡ Some (record { plan = seen_of (plan_by channel outer); commands = form message ∷ [] })
worded_opens channel outer message ends is =
    opened_there (plan_by channel outer) (form message ∷ []) (text_by channel outer message)
    (form_wraps (plan_by channel outer) (form message ∷ []) (text_by channel outer message) (wrappable (plan_by channel outer) (form message ∷ []) message refl refl is refl) ends refl refl)

worded_told : (channel : Option Ends) (outer : Outer) (message : InfoMessage) → AreEnds channel → IsAnswer message → IsInRange message
    → heard_at (text_by channel outer message) ≡ Messages (told_by (from_end channel) message ∷ [])
worded_told channel outer message ends is range =
    one_told (text_by channel outer message) (seen_of (plan_by channel outer)) (form message) message (worded_open channel outer message is) (worded_opens channel outer message ends is)
    (again (form message) message (form_spells message range))

value_none : (channel : Option Ends) (outer : Outer) (message : InfoMessage) → AreEnds channel → IsValue message → TellsNone (text_by channel outer message)
value_none channel outer message ends is =
    told_none _ (told_by (from_end channel) message) (values_no_report (told_by (from_end channel) message) (is.values (from_end channel))) (worded_told channel outer message ends is.answer is.range)

value_plain : (channel : Option Ends) (outer : Outer) (message : InfoMessage) → AreEnds channel → IsValue message → TellsPlainly (text_by channel outer message)
value_plain channel outer message ends is = record {
  told = told_by (from_end channel) message;
  heard = worded_told channel outer message ends is.answer is.range;
  plain = values_plain (told_by (from_end channel) message) (is.values (from_end channel));
}

-- ---- a report of a status

status_range : (device : State) (asked : Supervised) (status : ℕ) → asked.id < 64 → IsAnswer (status_report device asked status) × IsInRange (status_report device asked status)
status_range device asked status small = by (status == WORKING)
  where
    by : (b : Bool) → (λ (m : InfoMessage). IsAnswer m × IsInRange m) (if b then SupervisionReport asked.updates false asked.id statuses.Working 1 else SupervisionReport false (asks_to_wake device) asked.id (report_status status) 0)
    by true = (tt, small)
    by false = (tt, small)

status_told : (end : ℕ) (device : State) (asked : Supervised) (status : ℕ)
    → told_by end (status_report device asked status) ≡ Report asked.id (report_status status) (not (status == WORKING) && asks_to_wake device)
status_told end device asked status = by (status == WORKING) refl
  where
    by : (b : Bool) → status == WORKING ≡ b
        → told_by end (if b then SupervisionReport asked.updates false asked.id statuses.Working 1 else SupervisionReport false (asks_to_wake device) asked.id (report_status status) 0)
        ≡ Report asked.id (report_status status) (not b && asks_to_wake device)
    by true e = ap (λ (n : ℕ). Report asked.id (report_status n) false) (sym (eqb-true status WORKING e))
    by false e = refl

status_heard : (channel : Option Ends) (outer : Outer) (device : State) (asked : Supervised) (status : ℕ) → AreEnds channel → asked.id < 64
    → heard_at (text_by channel outer (status_report device asked status)) ≡ Messages (Report asked.id (report_status status) (not (status == WORKING) && asks_to_wake device) ∷ [])
status_heard channel outer device asked status ends small =
    let is = status_range device asked status small in
    worded_told channel outer (status_report device asked status) ends is.0 is.1
    ∙ ap (λ (told : Told). Messages (told ∷ [])) (status_told (from_end channel) device asked status)

-- what a device says of a session that it is at, when it keeps this status
pub own_heard : (channel : Option Ends) (outer : Outer) (device new : State) (asked : Supervised) (status : ℕ) → AreEnds channel
    → asked.id ≡ wire_id new.sessions.taken → new.sessions.status ≡ status → asks_to_wake new ≡ asks_to_wake device → TellsOwn new (text_by channel outer (status_report device asked status))
own_heard channel outer device new asked status ends id kept asks =
    let small : asked.id < 64 = omega (arith, id) in
    status_heard channel outer device asked status ends small
    ∙ rw (id, kept, asks) refl

-- ---- what an effect is answered with

abbrev IsSaid : State → Supervised → Effect → Type 0
IsSaid device asked Ignores = Unit {0}
IsSaid device asked Sleeps = Unit {0}
IsSaid device asked (Tells report) = IsValue report
IsSaid device asked (Sets settings) = Unit {0}
IsSaid device asked (Repeats status) = (status ≡ device.sessions.status) × (asked.id ≡ wire_id device.sessions.taken)
IsSaid device asked (Takes verdict) = asked.id ≡ wire_id (device.sessions.taken + 1)

abbrev AllTrue : State → List (List ℕ) → Type 0
AllTrue device replies = AllByRecursion (TellsTrue device) replies

-- and asks for nothing
abbrev IsOpen : State → List ℕ → Type 0
IsOpen device payload = TellsTrue device payload × TellsPlainly payload

abbrev AllOpen : State → List (List ℕ) → Type 0
AllOpen device replies = AllByRecursion (IsOpen device) replies

open_own : (device : State) (payload : List ℕ) → TellsOwn device payload → IsOpen device payload
open_own device payload own = (inl own, record { told = Report (wire_id device.sessions.taken) (report_status device.sessions.status) (asks_now device); heard = own; plain = tt })

open_value : (device : State) (channel : Option Ends) (outer : Outer) (message : InfoMessage) → AreEnds channel → IsValue message → IsOpen device (text_by channel outer message)
open_value device channel outer message ends is = (inr (value_none channel outer message ends is), value_plain channel outer message ends is)

pub taken_own : (plan : Plan) (channel : Option Ends) (outer : Outer) (device : State) (asked : Supervised) (verdict : Verdict) → AreEnds channel → asked.id ≡ wire_id (device.sessions.taken + 1)
    → TellsOwn (takes device plan asked verdict) (text_by channel outer (status_report device asked (status_of verdict)))
taken_own plan channel outer device asked (Makes settings) ends id = own_heard channel outer device (takes device plan asked (Makes settings)) asked SUCCESS ends id refl refl
taken_own plan channel outer device asked (Works settings) ends id = own_heard channel outer device (takes device plan asked (Works settings)) asked WORKING ends id refl refl
taken_own plan channel outer device asked Fails ends id = own_heard channel outer device (takes device plan asked Fails) asked _ ends id refl refl
taken_own plan channel outer device asked NoSupport ends id = own_heard channel outer device (takes device plan asked NoSupport) asked _ ends id refl refl

supervised_open : (device : State) (batch : Bool) (asked : Supervised) (channel : Option Ends) (outer : Outer) (effect : Effect) → AreEnds (swapped channel) → IsSaid device asked effect
    → AllOpen (after_effect device (record { batch = batch; session = Some asked; channel = channel; outer = outer }) effect)
    (option_to_list (option_map (worded (answer_plan (record { batch = batch; session = Some asked; channel = channel; outer = outer }))) (answer_of device (record { batch = batch; session = Some asked; channel = channel; outer = outer }) effect)))
supervised_open device batch asked channel outer Ignores ends is = tt
supervised_open device batch asked channel outer Sleeps ends is = tt
supervised_open device batch asked channel outer (Tells report) ends is = (open_value device (swapped channel) outer report ends is, tt)
supervised_open device batch asked channel outer (Sets settings) ends is = tt
supervised_open device batch asked channel outer (Repeats status) ends is =
    (open_own device (text_by (swapped channel) outer (status_report device asked status)) (own_heard (swapped channel) outer device device asked status ends is.1 (sym is.0) refl), tt)
supervised_open device batch asked channel outer (Takes verdict) ends is =
    let plan : Plan = record { batch = batch; session = Some asked; channel = channel; outer = outer } in
    (open_own (takes device plan asked verdict) (text_by (swapped channel) outer (status_report device asked (status_of verdict))) (taken_own plan (swapped channel) outer device asked verdict ends is), tt)

-- without a session nothing but values is told
abbrev IsUnasked : Effect → Type 0
IsUnasked (Tells report) = IsValue report
IsUnasked (Repeats status) = ⊥
IsUnasked (Takes verdict) = ⊥
IsUnasked Ignores = Unit {0}
IsUnasked Sleeps = Unit {0}
IsUnasked (Sets settings) = Unit {0}

unasked_open : (device : State) (batch : Bool) (channel : Option Ends) (outer : Outer) (effect : Effect) → AreEnds (swapped channel) → IsUnasked effect
    → AllOpen (after_effect device (record { batch = batch; session = None; channel = channel; outer = outer }) effect)
    (option_to_list (option_map (worded (answer_plan (record { batch = batch; session = None; channel = channel; outer = outer }))) (answer_of device (record { batch = batch; session = None; channel = channel; outer = outer }) effect)))
unasked_open device batch channel outer Ignores ends is = tt
unasked_open device batch channel outer Sleeps ends is = tt
unasked_open device batch channel outer (Tells report) ends is = (open_value device (swapped channel) outer report ends is, tt)
unasked_open device batch channel outer (Sets settings) ends is = tt
unasked_open device batch channel outer (Repeats status) ends is = absurd is
unasked_open device batch channel outer (Takes verdict) ends is = absurd is

-- ---- what an effect is

sets_unasked : (b : Bool) (settings : List Setting) → IsUnasked (if b then Sets settings else Ignores)
sets_unasked true settings = tt
sets_unasked false settings = tt

plainly_unasked : (kind : Kind) (end : ℕ) (verdict : Verdict) → IsUnasked (set_plainly kind end verdict)
plainly_unasked kind end (Makes settings) = sets_unasked (not (lists kind 0x6C) && has_end kind end) settings
plainly_unasked kind end (Works settings) = tt
plainly_unasked kind end Fails = tt
plainly_unasked kind end NoSupport = tt

untold_unasked : (device : State) (end : ℕ) (message : InfoMessage) → IsUnasked (effect_untold device.kind device.journal end message)
untold_unasked device end (Core (SwitchBinarySet value)) = plainly_unasked device.kind end (judged_set device.kind (value_of device) (last_level_of device) end (SwitchBinarySet value))
untold_unasked device end WakeUpNoMoreInformation = by (not (listens device.kind) && has_end device.kind end)
  where
    by : (b : Bool) → IsUnasked (if b then Sleeps else Ignores)
    by true = tt
    by false = tt
untold_unasked device end _ = tt

telling_unasked : (report : Option InfoMessage) (effect : Effect) → ((message : InfoMessage) → report ≡ Some message → IsValue message) → IsUnasked effect → IsUnasked (telling report effect)
telling_unasked (Some report) effect value is = value report refl
telling_unasked None effect value is = is

alone_unasked : (device : State) (end : ℕ) (read : Result InfoMessage ClassFault) → IsUnasked (effect_alone device.kind device.journal end read)
alone_unasked device end (Ok message) =
    telling_unasked (told device.kind (value_of device) end message) (effect_untold device.kind device.journal end message) (told_value device.kind (value_of device) end message) (untold_unasked device end message)
alone_unasked device end (Err fault) = tt

none_unasked : (device : State) (plan : Plan) (commands : List (List ℕ)) → IsUnasked (effect_by device.kind device.journal device.sessions plan commands None)
none_unasked device plan commands = by plan.batch
  where
    by : (b : Bool) → IsUnasked (if b then Ignores else effect_alone device.kind device.journal (end_of plan.channel) (info_at (only_of commands)))
    by true = tt
    by false = alone_unasked device (end_of plan.channel) (info_at (only_of commands))

asked_said : (device : State) (plan : Plan) (commands : List (List ℕ)) (asked : Supervised) → IsSaid device asked (effect_by device.kind device.journal device.sessions plan commands (Some asked))
asked_said device plan commands asked = supervised (lists device.kind 0x6C)
  where
    again_said : (b : Bool) → is_again device.sessions asked.id ≡ b → IsSaid device asked (effect_in_session device.kind device.journal plan commands (if b then Again device.sessions.status else Old))
    again_said true e = (refl, eqb-true asked.id (wire_id device.sessions.taken) (second_holds (nat_lt 0 device.sessions.taken) _ e))
    again_said false e = tt

    new_said : (b : Bool) → is_new device.sessions asked.id ≡ b
        → IsSaid device asked (effect_in_session device.kind device.journal plan commands (if b then New (device.sessions.taken + 1) else (if is_again device.sessions asked.id then Again device.sessions.status else Old)))
    new_said true e = eqb-true asked.id (wire_id (device.sessions.taken + 1)) (first_holds _ (not (device.sessions.status == WORKING)) e)
    new_said false e = again_said (is_again device.sessions asked.id) refl

    supervised : (b : Bool) → IsSaid device asked (if b then effect_in_session device.kind device.journal plan commands (heard_of device.sessions asked.id) else Ignores)
    supervised true = new_said (is_new device.sessions asked.id) refl
    supervised false = tt

-- ---- a message

abbrev open_answer : State → Message → Type 0
open_answer device message = AllOpen (answers device message).device (option_to_list (answers device message).answer)

message_open : (device : State) (batch : Bool) (session : Option Supervised) (channel : Option Ends) (outer : Outer) (commands : List (List ℕ)) → AreEnds (swapped channel)
    → open_answer device (record { plan = record { batch = batch; session = session; channel = channel; outer = outer }; commands = commands })
unfolding answers effect_of
message_open device batch (Some asked) channel outer commands ends =
    supervised_open device batch asked channel outer _ ends (asked_said device (record { batch = batch; session = Some asked; channel = channel; outer = outer }) commands asked)
message_open device batch None channel outer commands ends =
    unasked_open device batch channel outer _ ends (none_unasked device (record { batch = batch; session = None; channel = channel; outer = outer }) commands)

-- the end points of a message that is opened can be answered
pub opened_ends : (payload : List ℕ) (message : Message) → opened_at payload ≡ Some message → AreEnds (swapped message.plan.channel)
opened_ends payload message e = let wraps = opened_back payload message e in by message.plan.channel wraps.supervised wraps.addressed wraps.addresses
  where
    by : (channel : Option Ends) (inner bytes : List ℕ) → Addresses channel inner bytes → AreEnds (swapped channel)
    by None inner bytes is = tt
    by (Some ends) inner bytes is = (omega (arith, is.target), (let source = is.source in omega (arith, source)))

openly_open : (device : State) (payload : List ℕ) → AllOpen (hears_openly device payload).device (hears_openly device payload).replies
unfolding hears_openly answers_bytes
openly_open device payload = by (opened_at payload) refl
  where
    by : (opened : Option Message) → opened_at payload ≡ opened → AllOpen (sent_openly (answers_opened device opened)).device (sent_openly (answers_opened device opened)).replies
    by None e = tt
    by (Some message) e = message_open device message.plan.batch message.plan.session message.plan.channel message.plan.outer message.commands (opened_ends payload message e)

openly_true : (device : State) (payload : List ℕ) → AllTrue (hears_openly device payload).device (hears_openly device payload).replies
openly_true device payload =
    all-weaker (IsOpen (hears_openly device payload).device) (TellsTrue (hears_openly device payload).device) (λ reply is. is.0) (hears_openly device payload).replies (openly_open device payload)

-- ---- sealed

sent_sealed_true : (answered : Answered) → AllTrue (sent_sealed answered).device (sent_sealed answered).replies
sent_sealed_true answered = by answered.answer refl
  where
    by : (answer : Option (List ℕ)) → answered.answer ≡ answer → AllTrue (sent_sealed answered).device (sent_sealed answered).replies
    by None e = rw e tt
    by (Some answer) e = rw e (inr nonce_get_none, tt)

inside_true : (device : State) (message : Option Message) → AllTrue (hears_inside device message).device (hears_inside device message).replies
inside_true device None = tt
inside_true device (Some message) = by (is_crc16 message.plan.outer)
  where
    by : (b : Bool) → (λ (o : Outcome). AllTrue o.device o.replies) (if b then silent device else sent_sealed (answers device message))
    by true = tt
    by false = sent_sealed_true (answers device message)

plain_true : (device : State) (plain : Option (List ℕ)) → AllTrue (hears_plain device plain).device (hears_plain device plain).replies
plain_true device None = tt
plain_true device (Some plain) = inside_true device (opened_at plain)

for_true : (device : State) (payload : List ℕ) (nonce : Option (List ℕ)) → AllTrue (hears_for device payload nonce).device (hears_for device payload nonce).replies
for_true device payload None = tt
for_true device payload (Some nonce) = plain_true device (unsealed_at (keys_of device.key) nonce (record { sender = 1; receiver = device.node }) payload)

-- the device once the nonce with that first byte is spent
abbrev pub spent : State → ℕ → State
spent device first = record device { given = after_spend device.given first }

-- the last segment of the last session that was taken
abbrev pub is_last : State → List ℕ → Bool
is_last device segment = nat_lt 0 device.sessions.taken && (id_of segment == segment_session device.sessions.taken) && ends_its_datagram segment

sealed_message_true : (device : State) (payload : List ℕ) → AllTrue (hears_sealed device payload).device (hears_sealed device payload).replies
unfolding hears_sealed
sealed_message_true device payload = by (nat_lt (length payload) 20)
  where
    by : (b : Bool) → (λ (o : Outcome). AllTrue o.device o.replies) (if b then silent device else hears_for (spent device (nonce_named payload)) payload (nonce_spent device.given (nonce_named payload)))
    by true = tt
    by false = for_true (spent device (nonce_named payload)) payload (nonce_spent device.given (nonce_named payload))

seals_true : (device : State) (nonce drawn : List ℕ) (seen : Option ℕ) (plain : Option (List ℕ)) → AllTrue (seals_for device nonce drawn seen plain).device (seals_for device nonce drawn seen plain).replies
seals_true device nonce drawn (Some seen) (Some plain) = (inr (sealed_none _ (sealed_is (keys_of device.key) drawn nonce plain device.sealing.ends)), tt)
seals_true device nonce drawn (Some seen) None = tt
seals_true device nonce drawn None plain = tt

nonces_true : (device : State) (drawn : List ℕ) (read : Result InfoMessage ClassFault) → AllTrue (hears_nonces device drawn read).device (hears_nonces device drawn read).replies
nonces_true device drawn (Ok NonceGet) = (inr (nonce_report_none _), tt)
nonces_true device drawn (Ok (NonceReport nonce)) = seals_true device nonce drawn (taken_from device.sealing.pending device.sealing.seen (slice_index nonce 0)) device.sealing.pending
nonces_true device drawn (Ok _) = tt
nonces_true device drawn (Err fault) = tt

securely_true : (device : State) (payload drawn : List ℕ) → AllTrue (hears_securely device payload drawn).device (hears_securely device payload drawn).replies
unfolding hears_securely
securely_true device payload drawn = by (begins_with payload 0x98 0x81)
  where
    by : (b : Bool) → (λ (o : Outcome). AllTrue o.device o.replies) (if b then hears_sealed device payload else hears_nonces device drawn (info_at payload))
    by true = sealed_message_true device payload
    by false = nonces_true device drawn (info_at payload)

-- ---- in segments

pub report_length : (device : State) (asked : Supervised) (status : ℕ) → length (form (status_report device asked status)) ≡ 5
report_length device asked status = by (status == WORKING)
  where
    by : (b : Bool) → length (form (if b then SupervisionReport asked.updates false asked.id statuses.Working 1 else SupervisionReport false (asks_to_wake device) asked.id (report_status status) 0)) ≡ 5
    by true = refl
    by false = refl

addressed_length : (channel : Option Ends) (inner : List ℕ) → length inner ≡ 5 → (1 ≤ length (addressed_form channel inner)) × (length (addressed_form channel inner) ≤ 9)
addressed_length None inner is = (omega (arith, is), omega (arith, is))
addressed_length (Some ends) inner is = (omega (arith, is), omega (arith, is))

checked_length : (outer : Outer) (inner : List ℕ) → 1 ≤ length inner → length inner ≤ 9 → (1 ≤ length (checked_form outer inner)) × (length (checked_form outer inner) ≤ 13)
checked_length Crc16 inner some few =
    let all = length-append (86 ∷ 1 ∷ inner) (crc (86 ∷ 1 ∷ inner) / 256 ∷ crc (86 ∷ 1 ∷ inner) % 256 ∷ []) in (omega (arith, some, all), omega (arith, few, all))
checked_length no_outer inner some few = (some, omega (arith, few))
checked_length Security inner some few = (some, omega (arith, few))
checked_length Transport inner some few = (some, omega (arith, few))

-- a report is short, in what it may be wrapped
pub text_length : (channel : Option Ends) (outer : Outer) (device : State) (asked : Supervised) (status : ℕ)
    → (1 ≤ length (text_by channel outer (status_report device asked status))) × (length (text_by channel outer (status_report device asked status)) ≤ 13)
text_length channel outer device asked status =
    let inner = addressed_length channel (form (status_report device asked status)) (report_length device asked status) in
    checked_length outer (addressed_form channel (form (status_report device asked status))) inner.0 inner.1

pub own_again : (device : State) → TellsOwn device (form (status_report device (record { updates = false; id = wire_id device.sessions.taken }) device.sessions.status))
own_again device = own_heard None no_outer device device (record { updates = false; id = wire_id device.sessions.taken }) device.sessions.status tt refl refl refl

-- what is kept of a datagram is not told
emptied_true : (device : State) (replies : List (List ℕ)) → AllTrue device replies → AllTrue (record device { reassembly = Empty }) replies
emptied_true device [] is = tt
emptied_true device (reply ∷ replies) (is, more) = (is, emptied_true device replies more)

assembles_true : (device : State) (segment : List ℕ) (taken : Option Segment) → AllTrue (assembles device segment taken).device (assembles device segment taken).replies
assembles_true device segment None = tt
assembles_true device segment (Some (Whole datagram)) =
    (inr (complete_none (id_of segment)), emptied_true (hears_openly device datagram).device (hears_openly device datagram).replies (openly_true device datagram))
assembles_true device segment (Some (Need at)) = (inr (request_none (id_of segment) at), tt)
assembles_true device segment (Some Kept) = tt

repeats_true : (device : State) (segment : List ℕ) → AllTrue (repeats_segment device segment).device (repeats_segment device segment).replies
repeats_true device segment =
    (inr (complete_none (id_of segment)), (inl (own_again device), tt))

segment_true : (device : State) (segment : List ℕ) → AllTrue (hears_segment device segment).device (hears_segment device segment).replies
unfolding hears_segment
segment_true device segment = next (id_of segment == segment_session (device.sessions.taken + 1))
  where
    last : (b : Bool) → (λ (o : Outcome). AllTrue o.device o.replies) (if b then repeats_segment device segment else silent device)
    last true = repeats_true device segment
    last false = tt

    next : (b : Bool) → (λ (o : Outcome). AllTrue o.device o.replies) (if b then assembles device segment (taken_at device.reassembly segment) else if is_last device segment then repeats_segment device segment else silent device)
    next true = assembles_true device segment (taken_at device.reassembly segment)
    next false = last (is_last device segment)

in_segments_true : (device : State) (payload : List ℕ) → AllTrue (hears_in_segments device payload).device (hears_in_segments device payload).replies
unfolding hears_in_segments
in_segments_true device payload = by (is_segment payload)
  where
    by : (b : Bool) → (λ (o : Outcome). AllTrue o.device o.replies) (if b then hears_segment device payload else hears_openly device payload)
    by true = segment_true device payload
    by false = openly_true device payload

-- ---- events

kind_true : (kind : Kind) (device : State) (payload drawn : List ℕ) → AllTrue (hears_by kind device payload drawn).device (hears_by kind device payload drawn).replies
kind_true Lock device payload drawn = securely_true device payload drawn
kind_true Configurable device payload drawn = in_segments_true device payload
kind_true _ device payload drawn = openly_true device payload

hears_true : (device : State) (payload drawn : List ℕ) → AllTrue (hears device payload drawn).device (hears device payload drawn).replies
unfolding hears
hears_true device payload drawn = by device.awake
  where
    by : (b : Bool) → (λ (o : Outcome). AllTrue o.device o.replies) (if b then hears_by device.kind (active device) payload drawn else silent device)
    by true = kind_true device.kind (active device) payload drawn
    by false = tt

-- ---- where it takes what is not sealed, whole

kind_plain : (kind : Kind) (device : State) (payload drawn : List ℕ) → takes_openly kind ≡ true → lists kind 0x55 ≡ false → AllByRecursion TellsPlainly (hears_by kind device payload drawn).replies
kind_plain Lock device payload drawn openly whole = absurd (let no : false ≡ true = openly in cc)
kind_plain Configurable device payload drawn openly whole = absurd (let no : true ≡ false = whole in cc)
kind_plain _ device payload drawn openly whole =
    all-weaker (IsOpen (hears_openly device payload).device) TellsPlainly (λ reply is. is.1) (hears_openly device payload).replies (openly_open device payload)

pub heard_plain : (device : State) (payload drawn : List ℕ) → takes_openly device.kind ≡ true → lists device.kind 0x55 ≡ false → AllByRecursion TellsPlainly (device_replies device (Hears payload drawn))
unfolding device_replies outcome_of hears
heard_plain device payload drawn openly whole = by device.awake
  where
    by : (b : Bool) → AllByRecursion TellsPlainly (if b then hears_by device.kind (active device) payload drawn else silent device).replies
    by true = kind_plain device.kind (active device) payload drawn openly whole
    by false = tt

-- ---- where it takes what is not sealed, in segments too

plain_openly : (told : Told) → IsPlainTold told → IsOpenTold told
plain_openly (Report id status wake_request) plain = tt
plain_openly AsksNonce plain = absurd plain
plain_openly (TellsNonce nonce) plain = tt
plain_openly Notification plain = tt
plain_openly (SegmentRequest id offset) plain = tt
plain_openly (Values values) plain = tt

tells_openly : (payload : List ℕ) → TellsPlainly payload → TellsOpenly payload
tells_openly payload tells = record { told = tells.told; heard = tells.heard; openly = plain_openly tells.told tells.plain }

whole_openly : (device : State) (payload : List ℕ) → AllByRecursion TellsOpenly (hears_openly device payload).replies
whole_openly device payload =
    all-weaker (IsOpen (hears_openly device payload).device) TellsOpenly (λ reply is. tells_openly reply is.1) (hears_openly device payload).replies (openly_open device payload)

bare_openly : (text : List ℕ) (message : InfoMessage) → IsCommand false text → begins_with text 152 129 ≡ false → info_at text ≡ Ok message → IsOpenTold (told_by 0 message) → TellsOpenly text
bare_openly text message is unsealed read openly = record { told = told_by 0 message; heard = one_told text bare text message unsealed (bare_opens text is) read; openly = openly }

complete_openly : (id : ℕ) → TellsOpenly (form (TransportComplete id))
complete_openly id = bare_openly (form (TransportComplete id)) (TransportComplete (bits 4 4 _)) (low_command 0x55 _ (omega arith)) refl (complete_read _) tt

request_openly : (id at : ℕ) → TellsOpenly (form (TransportRequest id at))
request_openly id at = bare_openly (form (TransportRequest id at)) (TransportRequest (bits 4 4 _) (bits 0 3 _ * 256 + _)) (low_command 0x55 _ (omega arith)) refl (request_read _ _) tt

assembles_openly : (device : State) (segment : List ℕ) (taken : Option Segment) → AllByRecursion TellsOpenly (assembles device segment taken).replies
assembles_openly device segment None = tt
assembles_openly device segment (Some (Whole datagram)) = (complete_openly (id_of segment), whole_openly device datagram)
assembles_openly device segment (Some (Need at)) = (request_openly (id_of segment) at, tt)
assembles_openly device segment (Some Kept) = tt

repeats_openly : (device : State) (segment : List ℕ) → AllByRecursion TellsOpenly (repeats_segment device segment).replies
repeats_openly device segment = (
  complete_openly (id_of segment),
  (
    record {
      told = Report (wire_id device.sessions.taken) (report_status device.sessions.status) (asks_now device);
      heard = own_again device;
      openly = tt;
    },
    tt,
  ),
)

segment_openly : (device : State) (segment : List ℕ) → AllByRecursion TellsOpenly (hears_segment device segment).replies
unfolding hears_segment
segment_openly device segment = next (id_of segment == segment_session (device.sessions.taken + 1))
  where
    last : (b : Bool) → AllByRecursion TellsOpenly (if b then repeats_segment device segment else silent device).replies
    last true = repeats_openly device segment
    last false = tt

    next : (b : Bool) → AllByRecursion TellsOpenly (if b then assembles device segment (taken_at device.reassembly segment) else if is_last device segment then repeats_segment device segment else silent device).replies
    next true = assembles_openly device segment (taken_at device.reassembly segment)
    next false = last (is_last device segment)

in_segments_openly : (device : State) (payload : List ℕ) → AllByRecursion TellsOpenly (hears_in_segments device payload).replies
unfolding hears_in_segments
in_segments_openly device payload = by (is_segment payload)
  where
    by : (b : Bool) → AllByRecursion TellsOpenly (if b then hears_segment device payload else hears_openly device payload).replies
    by true = segment_openly device payload
    by false = whole_openly device payload

kind_openly : (kind : Kind) (device : State) (payload drawn : List ℕ) → takes_openly kind ≡ true → AllByRecursion TellsOpenly (hears_by kind device payload drawn).replies
kind_openly Lock device payload drawn openly = absurd (let no : false ≡ true = openly in cc)
kind_openly Configurable device payload drawn openly = in_segments_openly device payload
kind_openly _ device payload drawn openly = whole_openly device payload

pub heard_openly : (device : State) (payload drawn : List ℕ) → takes_openly device.kind ≡ true → AllByRecursion TellsOpenly (device_replies device (Hears payload drawn))
unfolding device_replies outcome_of hears
heard_openly device payload drawn openly = by device.awake
  where
    by : (b : Bool) → AllByRecursion TellsOpenly (if b then hears_by device.kind (active device) payload drawn else silent device).replies
    by true = kind_openly device.kind (active device) payload drawn openly
    by false = tt

-- ---- a tick, a wake-up, a hand

late_true : (device new : State) (answer : Option Plan) → CanBeAnswered answer → new.sessions ≡ record { taken = device.sessions.taken; status = SUCCESS } → asks_to_wake new ≡ asks_to_wake device
    → AllTrue new (option_to_list (option_map (λ plan. worded (answer_plan plan) (final_report device)) answer))
late_true device new None ends is asks = tt
late_true device new (Some plan) ends is asks =
    (inl (worded_told (swapped plan.channel) plan.outer (final_report device) ends tt (let small : wire_id device.sessions.taken < 64 = omega arith in small) ∙ rw (is, asks) refl), tt)

ticks_true : (device : State) → CanBeAnswered device.work.answer → AllTrue (ticked device).device (ticked device).replies
unfolding ticked
ticks_true device ends = none (device.work_left == 0)
  where
    last : (b : Bool) → (λ (o : Outcome). AllTrue o.device o.replies) (if b then works_out (aged device) else silent (record (aged device) { work_left = device.work_left - 1 }))
    last true = late_true (aged device) (works_out (aged device)).device device.work.answer ends refl refl
    last false = tt

    none : (b : Bool) → (λ (o : Outcome). AllTrue o.device o.replies)
        (if b then silent (aged device) else if device.work_left == 1 then works_out (aged device) else silent (record (aged device) { work_left = device.work_left - 1 }))
    none true = tt
    none false = last (device.work_left == 1)

wakes_true : (device : State) → AllTrue (woken device).device (woken device).replies
unfolding woken
wakes_true device = by (listens device.kind)
  where
    by : (b : Bool) → (λ (o : Outcome). AllTrue o.device o.replies)
        (if b then silent device else record { device = record device { awake = true; active_at = device.clock }; replies = form WakeUpNotification ∷ [] })
    by true = tt
    by false = (inr notification_none, tt)

hand_told : (device : State) (report : Option InfoMessage) → ((message : InfoMessage) → report ≡ Some message → IsValue message) → AllTrue device (option_to_list (option_map (λ report. form report) report))
hand_told device None value = tt
hand_told device (Some report) value = (inr (value_none None no_outer report tt (value report refl)), tt)

hand_value : (device : State) (value : ℕ) (message : InfoMessage) → main_told device value ≡ Some message → IsValue message
hand_value device value message e = report_value (main_name_of device.kind) value message (if_some (device.awake && tells_by_hand device.kind && tells device.kind (main_name_of device.kind)) _ message e)

sets_true : (device : State) (value : ℕ) → AllTrue (set_by_hand device value).device (set_by_hand device value).replies
unfolding set_by_hand
sets_true device value =
    hand_told (set_by_hand device value).device (main_told device (by_hand (main_name_of device.kind) value)) (hand_value device (by_hand (main_name_of device.kind) value))

pub replies_true : (device : State) (event : DeviceEvent) → CanSay device → AllByRecursion (TellsTrue (device_after device event)) (device_replies device event)
unfolding device_after device_replies outcome_of
replies_true device (Hears payload drawn) can = hears_true device payload drawn
replies_true device (Ticks drawn) can = ticks_true device can.answer
replies_true device Wakes can = wakes_true device
replies_true device (Sets value) can = sets_true device value
