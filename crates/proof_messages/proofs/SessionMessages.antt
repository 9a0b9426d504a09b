-- What a device makes of the message of a session.
use Rattle.std.proofs.Common.{◌≡◌, ◌≢◌, ℕ, ◌+◌, ◌≤◌, ◌⊎◌, inl, inr, Bool, true, false, if◌then◌else◌, Option, Some, None, List, ◌∷◌, refl, ap, sym, ◌∙◌, subst}
use Rattle.std.specs.Prelude.{Err}
use Rattle.zw_base.specs.declared.order.Order.{Order}
use Rattle.supervision.specs.Session.{wire_id}
use Rattle.supervision.specs.Device.{is_new, is_again, heard_of}
use Rattle.supervision.specs.declared.session.TheConstants.{WORKING}
use Rattle.supervision.specs.declared.device_book.Heard.{Heard}
use Rattle.supervision.specs.declared.device_book.Heard.TheVariants.{New, Again, Old}
use Rattle.class_core.specs.declared.fault.ClassFault.TheVariants.{UnknownClass, UnknownCommand}
use Rattle.class_core.specs.Reading.{byte_at, in_class}
use Rattle.class_core.specs.MessageReading.{message_at}
use Rattle.class_info.specs.InfoReading.{info_at, own_at}
use Rattle.encap.specs.Opening.{Message, begins_with, opened_at}
use Rattle.encap.specs.Written.{checked_form, addressed_form, supervised_form}
use Rattle.encap.specs.declared.plan.Plan.{Plan}
use Rattle.encap.specs.declared.plan.Supervised.{Supervised}
use Rattle.encap.specs.declared.plan.Ends.{Ends}
use Rattle.encap.specs.declared.plan.Outer.{Outer}
use Rattle.encap.specs.declared.plan.Outer.TheVariants.{None as no_outer, Crc16, Security, Transport}
use Rattle.transport_segments.specs.Taking.{is_segment}
use Rattle.host_orders.specs.Refusals.{IsFit}
use Rattle.host_orders.specs.Wrapping.{ends_of, message_of, supervised_of}
use Rattle.host_orders.specs.declared.carriage.Carriage.{Carriage}
use Rattle.device_kinds.specs.declared.kind.Kind.{Kind}
use Rattle.device_kinds.specs.declared.kind.Kind.TheVariants.{Relay, Switch, Dimmer, Lock, Sensor, Thermostat, Strip, Configurable}
use Rattle.device_kinds.specs.declared.verdict.Verdict.{Verdict}
use Rattle.device_kinds.specs.declared.verdict.Verdict.TheVariants.{NoSupport, Fails, Makes, Works}
use Rattle.device_kinds.specs.Kind.{lists}
use Rattle.device_sim.specs.device_stack.State.{State, Outcome, silent, value_of, last_level_of}
use Rattle.device_kinds.specs.Judging.{judged_message}
use Rattle.device_kinds.specs.Effects.{end_of, effect_in_session}
use Rattle.device_sim.specs.device_stack.Effects.{effect_of, takes, after_effect}
use Rattle.device_sim.specs.device_stack.Hearing.{answers, answers_bytes, hears_openly, hears_nonces, hears_securely, hears_in_segments, hears_by, active, hears}
use Rattle.device_sim.specs.Event.{Hears, outcome_of, device_after}
use Rattle.device_sim.proofs.LawLemmas.{not_working}
use Rattle.proof_messages.specs.Asking.{message_in, takes_openly, verdict_on, HasTaken, IsLeft, Follows}
use Rattle.proof_messages.proofs.Bare.{never_begins}
use Rattle.proof_messages.proofs.OpenedMessages.{message_opens, target_is}

-- ---- how the bytes of a message begin

abbrev pub IsHeaded : List ℕ → Type 0
IsHeaded payload = (rest : List ℕ) × ((payload ≡ 86 ∷ 1 ∷ rest) ⊎ ((payload ≡ 96 ∷ 13 ∷ rest) ⊎ (payload ≡ 108 ∷ 1 ∷ rest)))

addressed_headed : (channel : Option Ends) (asked : Supervised) (inner : List ℕ) → IsHeaded (addressed_form channel (supervised_form (Some asked) inner))
addressed_headed None asked inner = (_, inr (inr refl))
addressed_headed (Some ends) asked inner = (_, inr (inl refl))

checked_headed : (outer : Outer) (inner : List ℕ) → IsHeaded inner → IsHeaded (checked_form outer inner)
checked_headed Crc16 inner is = (_, inl refl)
checked_headed no_outer inner is = is
checked_headed Security inner is = is
checked_headed Transport inner is = is

pub message_headed : (carriage : Carriage) (order : Order) (session : ℕ) → IsHeaded (message_of carriage order session)
message_headed carriage order session = checked_headed carriage.outer _ (addressed_headed (ends_of order.end) _ _)

by_heads : (P : List ℕ → Type 0) (payload : List ℕ) → ((rest : List ℕ) → P (86 ∷ 1 ∷ rest)) → ((rest : List ℕ) → P (96 ∷ 13 ∷ rest)) → ((rest : List ℕ) → P (108 ∷ 1 ∷ rest))
    → IsHeaded payload → P payload
by_heads P payload crc channel get (rest, inl e) = subst P (sym e) (crc rest)
by_heads P payload crc channel get (rest, inr (inl e)) = subst P (sym e) (channel rest)
by_heads P payload crc channel get (rest, inr (inr e)) = subst P (sym e) (get rest)

pub headed_no_segment : (payload : List ℕ) → IsHeaded payload → is_segment payload ≡ false
headed_no_segment payload is = by_heads (λ p. is_segment p ≡ false) payload (λ rest. refl) (λ rest. refl) (λ rest. refl) is

pub headed_not_sealed : (payload : List ℕ) → IsHeaded payload → begins_with payload 0x98 0x81 ≡ false
headed_not_sealed payload is =
    by_heads (λ p. begins_with p 0x98 0x81 ≡ false) payload (λ rest. never_begins _ _) (λ rest. never_begins _ _)
    (λ rest. never_begins _ _) is

pub crc_unread : (rest : List ℕ) → info_at (86 ∷ 1 ∷ rest) ≡ Err (UnknownClass 86)
unfolding info_at message_at own_at byte_at
crc_unread rest = refl

pub channel_unread : (rest : List ℕ) → info_at (96 ∷ 13 ∷ rest) ≡ Err (UnknownClass 96)
unfolding info_at message_at own_at byte_at
channel_unread rest = refl

pub get_unread : (rest : List ℕ) → info_at (108 ∷ 1 ∷ rest) ≡ Err (UnknownCommand 108 1)
unfolding info_at message_at own_at byte_at in_class
get_unread rest = refl

-- ---- a session is taken, or nothing happens

taken_as : (device : State) (plan : Plan) (asked : Supervised) (verdict : Verdict) → device.sessions.status ≢ WORKING
    → HasTaken device (takes device plan asked verdict) (device.sessions.taken + 1) verdict
taken_as device plan asked (Makes settings) free = record { free = free; sessions = refl; made = (refl, refl); work = refl; empty = refl }
taken_as device plan asked (Works settings) free = record { free = free; sessions = refl; made = (refl, refl); work = refl; empty = refl }
taken_as device plan asked Fails free = record { free = free; sessions = refl; made = (refl, refl); work = refl; empty = refl }
taken_as device plan asked NoSupport free = record { free = free; sessions = refl; made = (refl, refl); work = refl; empty = refl }

pub left : (device : State) → IsLeft device device
left device = (record { journal = refl; sessions = refl; work_left = refl; work = refl }, refl)

abbrev plan_with : Bool → Supervised → Option Ends → Outer → Plan
plan_with batch asked channel outer = record { batch = batch; session = Some asked; channel = channel; outer = outer }

abbrev judged_by : State → Option Ends → Bool → List (List ℕ) → Verdict
judged_by device channel batch commands = judged_message device.kind (value_of device) (last_level_of device) (end_of channel) batch commands

pub supervised_follows : (device : State) (batch : Bool) (asked : Supervised) (channel : Option Ends) (outer : Outer) (commands : List (List ℕ)) → lists device.kind 0x6C ≡ true
    → Follows device (answers device (record { plan = record { batch = batch; session = Some asked; channel = channel; outer = outer }; commands = commands })).device
    (judged_message device.kind (value_of device) (last_level_of device) (end_of channel) batch commands) (heard_of device.sessions asked.id)
unfolding answers effect_of
supervised_follows device batch asked channel outer commands known = rw known (new (is_new device.sessions asked.id) refl)
  where
    again : (b : Bool)
        → Follows device (after_effect device (plan_with batch asked channel outer) (effect_in_session device.kind device.journal (plan_with batch asked channel outer) commands (if b then Again device.sessions.status else Old)))
        (judged_by device channel batch commands) (if b then Again device.sessions.status else Old)
    again true = left device
    again false = left device

    new : (b : Bool) → is_new device.sessions asked.id ≡ b
        → Follows device (after_effect device (plan_with batch asked channel outer) (effect_in_session device.kind device.journal (plan_with batch asked channel outer) commands (if b then New (device.sessions.taken + 1) else (if is_again device.sessions asked.id then Again device.sessions.status else Old))))
        (judged_by device channel batch commands) (if b then New (device.sessions.taken + 1) else (if is_again device.sessions asked.id then Again device.sessions.status else Old))
    new true e = taken_as device (plan_with batch asked channel outer) asked (judged_by device channel batch commands) (not_working device.sessions asked.id e)
    new false e = again (is_again device.sessions asked.id)

-- ---- a device that is active

active_follows : (device new : State) (verdict : Verdict) (heard : Heard) → Follows (active device) new verdict heard → Follows device new verdict heard
active_follows device new verdict (New session) is = record { free = is.free; sessions = is.sessions; made = is.made; work = is.work; empty = is.empty }
active_follows device new verdict (Again status) (is, same) = (record { journal = is.journal; sessions = is.sessions; work_left = is.work_left; work = is.work }, same)
active_follows device new verdict Old (is, same) = (record { journal = is.journal; sessions = is.sessions; work_left = is.work_left; work = is.work }, same)

pub active_left : (device : State) → IsLeft device (active device)
active_left device = (record { journal = refl; sessions = refl; work_left = refl; work = refl }, refl)

-- ---- by kind

pub openly_by : (kind : Kind) (device : State) (payload drawn : List ℕ) → takes_openly kind ≡ true → is_segment payload ≡ false → hears_by kind device payload drawn ≡ hears_openly device payload
unfolding hears_in_segments
openly_by Switch device payload drawn is whole = refl
openly_by Dimmer device payload drawn is whole = refl
openly_by Sensor device payload drawn is whole = refl
openly_by Thermostat device payload drawn is whole = refl
openly_by Strip device payload drawn is whole = refl
openly_by Configurable device payload drawn is whole = rw whole refl
openly_by Relay device payload drawn is whole = cc
openly_by Lock device payload drawn is whole = cc

pub knows_supervision : (kind : Kind) → takes_openly kind ≡ true → lists kind 0x6C ≡ true
knows_supervision Switch is = refl
knows_supervision Dimmer is = refl
knows_supervision Sensor is = refl
knows_supervision Thermostat is = refl
knows_supervision Strip is = refl
knows_supervision Configurable is = refl
knows_supervision Relay is = cc
knows_supervision Lock is = cc

pub opened_device : (device : State) (payload : List ℕ) (message : Message) → opened_at payload ≡ Some message
    → (hears_openly device payload).device ≡ (answers device message).device
unfolding hears_openly answers_bytes
opened_device device payload message e = rw e refl

pub awake_after : (device : State) (payload drawn : List ℕ) → device.awake ≡ true
    → device_after device (Hears payload drawn) ≡ (hears_by device.kind (active device) payload drawn).device
unfolding device_after outcome_of hears
awake_after device payload drawn e = rw e refl

pub asleep_after : (device : State) (payload drawn : List ℕ) → device.awake ≡ false → device_after device (Hears payload drawn) ≡ device
unfolding device_after outcome_of hears
asleep_after device payload drawn e = rw e refl

pub message_followed : (device : State) (drawn : List ℕ) (carriage : Carriage) (order : Order) (session : ℕ)
    → IsFit carriage.actuator order → order.end ≤ 127 → device.awake ≡ true → takes_openly device.kind ≡ true
    → Follows device (device_after device (Hears (message_of carriage order session) drawn)) (verdict_on device carriage order) (heard_of device.sessions (wire_id session))
message_followed device drawn carriage order session fit end awake takes =
    let payload = message_of carriage order session in
    let message = message_in carriage order session in
    let heard = heard_of device.sessions (wire_id session) in
    let is : device_after device (Hears payload drawn) ≡ (answers (active device) message).device =
    awake_after device payload drawn awake
    ∙ (ap (λ (o : Outcome). o.device) (openly_by device.kind (active device) payload drawn takes (headed_no_segment payload (message_headed carriage order session)))
    ∙ opened_device (active device) payload message (message_opens carriage order session fit end)) in
    let follows = supervised_follows (active device) message.plan.batch (supervised_of carriage.actuator order session) message.plan.channel message.plan.outer message.commands (knows_supervision device.kind takes) in
    let at_end : Follows (active device) (answers (active device) message).device (verdict_on device carriage order) heard =
    subst (λ (end : ℕ). Follows (active device) (answers (active device) message).device
    (judged_message device.kind (value_of device) (last_level_of device) end message.plan.batch message.commands) heard) (target_is order.end) follows in
    subst (λ (new : State). Follows device new (verdict_on device carriage order) heard) (sym is) (active_follows device _ _ heard at_end)

-- ---- who does not hear it

secure_left : (device : State) (payload drawn : List ℕ) → IsHeaded payload → hears_securely device payload drawn ≡ silent device
unfolding hears_securely
secure_left device payload drawn is =
    rw (headed_not_sealed payload is)
    (by_heads (λ p. hears_nonces device drawn (info_at p) ≡ silent device) payload (λ rest. rw (crc_unread rest) refl) (λ rest. rw (channel_unread rest) refl) (λ rest. rw (get_unread rest) refl) is)

relay_left : (device : State) (batch : Bool) (asked : Supervised) (channel : Option Ends) (outer : Outer) (commands : List (List ℕ)) → lists device.kind 0x6C ≡ false
    → (answers device (record { plan = record { batch = batch; session = Some asked; channel = channel; outer = outer }; commands = commands })).device ≡ device
unfolding answers effect_of
relay_left device batch asked channel outer commands none = rw none refl

deaf_by : (kind : Kind) (device : State) (payload drawn : List ℕ) (message : Message) → takes_openly kind ≡ false → IsHeaded payload → opened_at payload ≡ Some message
    → (lists kind 0x6C ≡ false → (answers device message).device ≡ device) → (hears_by kind device payload drawn).device ≡ device
deaf_by Relay device payload drawn message is headed opened none = opened_device device payload message opened ∙ none refl
deaf_by Lock device payload drawn message is headed opened none = ap (λ (o : Outcome). o.device) (secure_left device payload drawn headed)
deaf_by Switch device payload drawn message is headed opened none = cc
deaf_by Dimmer device payload drawn message is headed opened none = cc
deaf_by Sensor device payload drawn message is headed opened none = cc
deaf_by Thermostat device payload drawn message is headed opened none = cc
deaf_by Strip device payload drawn message is headed opened none = cc
deaf_by Configurable device payload drawn message is headed opened none = cc

pub message_unheard : (device : State) (drawn : List ℕ) (carriage : Carriage) (order : Order) (session : ℕ)
    → IsFit carriage.actuator order → order.end ≤ 127 → takes_openly device.kind ≡ false → IsLeft device (device_after device (Hears (message_of carriage order session) drawn))
message_unheard device drawn carriage order session fit end deaf = by device.awake refl
  where
    by : (b : Bool) → device.awake ≡ b → IsLeft device (device_after device (Hears (message_of carriage order session) drawn))
    by true e =
        let payload = message_of carriage order session in
        let message = message_in carriage order session in
        let same : device_after device (Hears payload drawn) ≡ active device =
        awake_after device payload drawn e
        ∙ deaf_by device.kind (active device) payload drawn message deaf (message_headed carriage order session) (message_opens carriage order session fit end)
        (λ none. relay_left (active device) message.plan.batch (supervised_of carriage.actuator order session) message.plan.channel message.plan.outer message.commands none) in
        subst (λ (new : State). IsLeft device new) (sym same) (active_left device)
    by false e = subst (λ (new : State). IsLeft device new) (sym (asleep_after device (message_of carriage order session) drawn e)) (left device)
