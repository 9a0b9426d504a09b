-- What a lock makes of a message that was sealed for its live nonce.
use Rattle.std.proofs.Common.{◌≡◌, ℕ, ◌+◌, ◌-◌, ◌≤◌, ◌==◌, Bool, true, false, not, nat_lt, if◌then◌else◌, Option, Some, None, List, ◌∷◌, ◌++◌, length, get_or, refl, ap, sym, ◌∙◌, subst, arith}
use Rattle.std.specs.Prelude.{slice_index, nat_le, suc}
use Rattle.std.specs.Option.{option_map}
use Rattle.std.proofs.lemmas.Bool.{eqb-true}
use Rattle.std.proofs.lemmas.Bool.Decides.{Decides-eqb, nat_tests}
use Rattle.std.proofs.lemmas.List.{get_or-append_right}
use Rattle.zw_base.specs.declared.order.Order.{Order}
use Rattle.supervision.specs.Session.{wire_id}
use Rattle.supervision.specs.Device.{is_new, is_again, heard_of}
use Rattle.supervision.specs.declared.session.TheConstants.{WORKING}
use Rattle.supervision.specs.declared.device_book.Heard.{Heard}
use Rattle.supervision.specs.declared.device_book.Heard.TheVariants.{New, Again, Old}
use Rattle.s0_crypto.specs.declared.key_pair.Keys.{Keys}
use Rattle.s0_crypto.specs.declared.ends.SealEnds.{SealEnds}
use Rattle.s0_crypto.specs.Seal.{Seals, code_of}
use Rattle.s0_crypto.specs.Opening.{sender_nonce_in}
use Rattle.s0_crypto.proofs.MessageLemmas.{length_of_layout, nonce_of_layout}
use Rattle.s0_crypto.proofs.OpeningLemmas.{length-code_of, one_plain_text}
use Rattle.s0_crypto.proofs.StreamLemmas.{length-ofb_from}
use Rattle.s0_session.specs.declared.account.Account.{Account}
use Rattle.s0_session.specs.Nonces.{nonce_spent, with_first}
use Rattle.encap.specs.Wraps.{is_crc16}
use Rattle.encap.specs.Written.{AreEnds}
use Rattle.encap.specs.Opening.{Message, begins_with, opened_at}
use Rattle.encap.specs.declared.plan.Plan.{Plan}
use Rattle.encap.specs.declared.plan.Supervised.{Supervised}
use Rattle.encap.specs.declared.plan.Ends.{Ends}
use Rattle.encap.specs.declared.plan.Outer.{Outer}
use Rattle.encap.specs.declared.plan.Outer.TheVariants.{Security}
use Rattle.host_orders.specs.Refusals.{IsFit}
use Rattle.host_orders.specs.Wrapping.{ends_of, message_of, supervised_of}
use Rattle.host_orders.specs.declared.carriage.Carriage.{Carriage}
use Rattle.device_kinds.specs.declared.kind.Kind.{Kind}
use Rattle.device_kinds.specs.declared.kind.Kind.TheVariants.{Lock}
use Rattle.device_kinds.specs.declared.verdict.Verdict.{Verdict}
use Rattle.device_kinds.specs.Kind.{lists, host_node}
use Rattle.device_sim.specs.device_stack.State.{State, Outcome, value_of, last_level_of}
use Rattle.device_kinds.specs.Answers.{swapped, answer_plan, worded}
use Rattle.device_kinds.specs.Judging.{judged_message, status_of}
use Rattle.s0_crypto.specs.Sealing.{keys_of, cipher_text_of, unsealed_at, sealed_text}
use Rattle.s0_crypto.proofs.SealingLemmas.{opened_is}
use Rattle.device_kinds.specs.Effects.{end_of, effect_in_session}
use Rattle.device_sim.specs.device_stack.Effects.{effect_of, answer_of, after_effect}
use Rattle.device_sim.specs.device_stack.Hearing.{Answered, answers, sent_sealed, hears_sealed, hears_securely, hears_by, active}
use Rattle.device_sim.specs.Event.{Hears, device_after, device_replies}
use Rattle.proof_messages.specs.Asking.{message_in, verdict_on, Follows}
use Rattle.proof_messages.specs.Reporting.{HasAnswered}
use Rattle.proof_messages.proofs.OpenedMessages.{message_opens, target_is}
use Rattle.proof_messages.proofs.SessionMessages.{supervised_follows, awake_after}
use Rattle.proof_messages.specs.Locks.{AsksToAnswer, IsLock}
use Rattle.proof_messages.proofs.DeviceReports.{spent, own_heard, taken_own, text_length}
use Rattle.proof_messages.proofs.LockPayloads.{heard_so}
use Rattle.host_node.proofs.Keeps.{second_holds}
use Rattle.host_node.proofs.Keeps.{first_holds}
use Rattle.device_sim.proofs.NonceLemmas.{long_enough as not_short}

-- ---- sealing and opening

-- the named byte of a message
named_at : (own text code : List ℕ) (named : ℕ) → length own ≡ 8 → length code ≡ 8
    → slice_index (0x98 ∷ 0x81 ∷ (own ++ (text ++ named ∷ code))) (length text + 10) ≡ named
named_at own text code named eight last =
    let here : length text + 10 ≡ suc (suc (length text + 8)) = omega arith in
    ap (λ (n : ℕ). get_or (0x98 ∷ 0x81 ∷ (own ++ (text ++ named ∷ code))) n 0) here
    ∙ (get_or-append_right own (text ++ named ∷ code) 8 (length text + 8) 0 eight (omega arith)
    ∙ (ap (λ (n : ℕ). get_or (text ++ named ∷ code) n 0) (let same : length text + 8 - 8 ≡ length text = omega arith in same)
    ∙ (get_or-append_right text (named ∷ code) (length text) (length text) 0 refl (omega arith)
    ∙ ap (λ (n : ℕ). get_or (named ∷ code) n 0) (let same : length text - length text ≡ 0 = omega arith in same))))

record IsSealedText (keys : Keys) (own nonce : List ℕ) (ends : SealEnds) (plain : List ℕ) : Type 0 where
  long : 20 ≤ length (sealed_text keys own nonce ends plain)
  class : slice_index (sealed_text keys own nonce ends plain) 0 ≡ 0x98
  command : slice_index (sealed_text keys own nonce ends plain) 1 ≡ 0x81
  named : slice_index (sealed_text keys own nonce ends plain) (length (sealed_text keys own nonce ends plain) - 9) ≡ slice_index nonce 0
  opened : unsealed_at keys nonce ends (sealed_text keys own nonce ends plain) ≡ Some plain

is_sealed_text : (keys : Keys) (own nonce : List ℕ) (ends : SealEnds) (plain : List ℕ) → length own ≡ 8 → IsSealedText keys own nonce ends plain
unfolding sealed_text
is_sealed_text keys own nonce ends plain eight =
    let text : List ℕ = cipher_text_of keys own nonce plain in
    let code : List ℕ = code_of keys (own ++ nonce) ends text in
    let bytes : List ℕ = 0x98 ∷ 0x81 ∷ (own ++ (text ++ slice_index nonce 0 ∷ code)) in
    let last : length code ≡ 8 = length-code_of keys (own ++ nonce) ends text in
    let size : length bytes ≡ length text + 19 = length_of_layout own text code (slice_index nonce 0) eight last refl in
    let more : length text ≡ suc (length plain) = length-ofb_from keys.encrypt (own ++ nonce) 0 (0 ∷ plain) in
    let many : 20 ≤ length bytes = omega (arith, size, more) in
    let place : length bytes - 9 ≡ length text + 10 = omega (arith, size) in
    let names : slice_index bytes (length bytes - 9) ≡ slice_index nonce 0 = ap (λ (n : ℕ). slice_index bytes n) place ∙ named_at own text code (slice_index nonce 0) eight last in
    let own_is : sender_nonce_in bytes ≡ own = nonce_of_layout own text code (slice_index nonce 0) eight refl in
    let seals : Seals keys own nonce ends plain bytes = record { cipher_text = text; enciphers = refl; layout = refl } in
    let found : Seals keys (sender_nonce_in bytes) nonce ends plain bytes = subst (λ (n : List ℕ). Seals keys n nonce ends plain bytes) (sym own_is) seals in
    let found_eight : length (sender_nonce_in bytes) ≡ 8 = ap length own_is ∙ eight in
    record {
      long = many;
      class = refl;
      command = refl;
      named = names;
      opened = sym (opened_is keys nonce ends bytes plain many refl refl names found
          (λ other text long_one is. one_plain_text keys other nonce ends plain text bytes long_one found_eight found is));
    }

pub sealed_opens : (keys : Keys) (own nonce plain : List ℕ) (ends : SealEnds) → length own ≡ 8 → unsealed_at keys nonce ends (sealed_text keys own nonce ends plain) ≡ Some plain
sealed_opens keys own nonce plain ends eight = (is_sealed_text keys own nonce ends plain eight).opened

-- ---- a lock that hears it

spends_live : (account : Account) (nonce : List ℕ) (first : ℕ) → account.live ≡ Some nonce → first ≡ slice_index nonce 0 → nonce_spent account first ≡ Some nonce
spends_live account nonce first live named =
    ap (λ (l : Option (List ℕ)). with_first l first) live
    ∙ rw (named, (Decides-eqb (slice_index nonce 0) (slice_index nonce 0)).1 refl) refl

begun : (payload : List ℕ) → 20 ≤ length payload → slice_index payload 0 ≡ 0x98 → slice_index payload 1 ≡ 0x81 → begins_with payload 0x98 0x81 ≡ true
begun payload long class command = rw (let two : nat_le 2 (length payload) ≡ true = grind (arith, nat_tests) in two, class, command) refl

hears_message : (device : State) (own nonce drawn plain : List ℕ) (message : Message) → length own ≡ 8 → device.given.live ≡ Some nonce
    → opened_at plain ≡ Some message → is_crc16 message.plan.outer ≡ false
    → hears_securely device (sealed_text (keys_of device.key) own nonce (record { sender = host_node; receiver = device.node }) plain) drawn
    ≡ sent_sealed (answers (spent device (slice_index nonce 0)) message)
unfolding hears_securely hears_sealed
hears_message device own nonce drawn plain message eight live opened clear =
    let keys : Keys = keys_of device.key in
    let ends : SealEnds = record { sender = host_node; receiver = device.node } in
    let is = is_sealed_text keys own nonce ends plain eight in
    rw (
      begun (sealed_text keys own nonce ends plain) is.long is.class is.command,
      not_short (length (sealed_text keys own nonce ends plain)) is.long,
      is.named,
      spends_live device.given nonce (slice_index nonce 0) live refl,
      is.opened,
      opened,
      clear,
    )
    refl

-- an answer that waits changes nothing else
sent_follows : (old : State) (answered : Answered) (verdict : Verdict) (heard : Heard) → Follows old answered.device verdict heard → Follows old (sent_sealed answered).device verdict heard
sent_follows old answered verdict heard follows = by answered.answer refl heard follows
  where
    by : (answer : Option (List ℕ)) → answered.answer ≡ answer → (heard : Heard) → Follows old answered.device verdict heard → Follows old (sent_sealed answered).device verdict heard
    by None e heard is = rw e is
    by (Some text) e (New session) is = rw e (record { free = is.free; sessions = is.sessions; made = is.made; work = is.work; empty = is.empty })
    by (Some text) e (Again status) (is, same) = rw e (record { journal = is.journal; sessions = is.sessions; work_left = is.work_left; work = is.work }, same)
    by (Some text) e Old (is, same) = rw e (record { journal = is.journal; sessions = is.sessions; work_left = is.work_left; work = is.work }, same)

-- so does a nonce that is spent, and being active
spent_follows : (device new : State) (first : ℕ) (verdict : Verdict) (heard : Heard) → Follows (spent (active device) first) new verdict heard → Follows device new verdict heard
spent_follows device new first verdict (New session) is = record { free = is.free; sessions = is.sessions; made = is.made; work = is.work; empty = is.empty }
spent_follows device new first verdict (Again status) (is, same) = (record { journal = is.journal; sessions = is.sessions; work_left = is.work_left; work = is.work }, same)
spent_follows device new first verdict Old (is, same) = (record { journal = is.journal; sessions = is.sessions; work_left = is.work_left; work = is.work }, same)

sealed_heard : (device : State) (own nonce drawn : List ℕ) (carriage : Carriage) (order : Order) (session : ℕ)
    → IsFit carriage.actuator order → order.end ≤ 127 → carriage.outer ≡ Security → device.awake ≡ true → device.kind ≡ Lock → length own ≡ 8 → device.given.live ≡ Some nonce
    → device_after device (Hears (sealed_text (keys_of device.key) own nonce (record { sender = host_node; receiver = device.node }) (message_of carriage order session)) drawn)
    ≡ (sent_sealed (answers (spent (active device) (slice_index nonce 0)) (message_in carriage order session))).device
sealed_heard device own nonce drawn carriage order session fit end sealed awake kind eight live =
    let message = message_in carriage order session in
    let payload = sealed_text (keys_of device.key) own nonce (record { sender = host_node; receiver = device.node }) (message_of carriage order session) in
    awake_after device payload drawn awake
    ∙ (ap (λ (k : Kind). (hears_by k (active device) payload drawn).device) kind
    ∙ ap (λ (o : Outcome). o.device)
    (hears_message (active device) own nonce drawn (message_of carriage order session) message eight live (message_opens carriage order session fit end) (rw sealed refl)))

pub sealed_followed : (device : State) (own nonce drawn : List ℕ) (carriage : Carriage) (order : Order) (session : ℕ)
    → IsFit carriage.actuator order → order.end ≤ 127 → carriage.outer ≡ Security → device.awake ≡ true → device.kind ≡ Lock → length own ≡ 8 → device.given.live ≡ Some nonce
    → Follows device (device_after device (Hears (sealed_text (keys_of device.key) own nonce (record { sender = host_node; receiver = device.node }) (message_of carriage order session)) drawn))
    (verdict_on device carriage order) (heard_of device.sessions (wire_id session))
sealed_followed device own nonce drawn carriage order session fit end sealed awake kind eight live =
    let message = message_in carriage order session in
    let heard = heard_of device.sessions (wire_id session) in
    let hearer : State = spent (active device) (slice_index nonce 0) in
    let known : lists device.kind 0x6C ≡ true = ap (λ (k : Kind). lists k 0x6C) kind in
    let follows = supervised_follows hearer message.plan.batch (supervised_of carriage.actuator order session) message.plan.channel message.plan.outer message.commands known in
    let at_end : Follows hearer (answers hearer message).device (verdict_on device carriage order) heard =
    subst (λ (end : ℕ). Follows hearer (answers hearer message).device
    (judged_message hearer.kind (value_of hearer) (last_level_of hearer) end message.plan.batch message.commands) heard) (target_is order.end) follows in
    subst (λ (new : State). Follows device new (verdict_on device carriage order) heard)
    (sym (sealed_heard device own nonce drawn carriage order session fit end sealed awake kind eight live))
    (spent_follows device _ (slice_index nonce 0) (verdict_on device carriage order) heard
    (sent_follows hearer (answers hearer message) (verdict_on device carriage order) heard at_end))

-- ---- what waits then

abbrev plan_with : Bool → Supervised → Option Ends → Outer → Plan
plan_with batch asked channel outer = record { batch = batch; session = Some asked; channel = channel; outer = outer }

-- the device after commands of a session, by what its id is
abbrev sent_by : State → Plan → List (List ℕ) → Heard → State
sent_by device plan commands heard = (sent_sealed (record {
  device = after_effect device plan (effect_in_session device.kind device.journal plan commands heard);
  answer = option_map (worded (answer_plan plan)) (answer_of device plan (effect_in_session device.kind device.journal plan commands heard));
})).device

supervised_answered : (device : State) (batch : Bool) (asked : Supervised) (channel : Option Ends) (outer : Outer) (commands : List (List ℕ)) → AreEnds (swapped channel) → lists device.kind 0x6C ≡ true
    → HasAnswered device (sent_sealed (answers device (record { plan = record { batch = batch; session = Some asked; channel = channel; outer = outer }; commands = commands }))).device (heard_of device.sessions asked.id)
unfolding answers effect_of
supervised_answered device batch asked channel outer commands ends known = rw known (new (is_new device.sessions asked.id) refl)
  where
    again : (b : Bool) → is_again device.sessions asked.id ≡ b → HasAnswered device (sent_by device (plan_with batch asked channel outer) commands (if b then Again device.sessions.status else Old)) (if b then Again device.sessions.status else Old)
    again true e = (_, (refl, (own_heard (swapped channel) outer device device asked device.sessions.status ends (eqb-true asked.id (wire_id device.sessions.taken) (second_holds (nat_lt 0 device.sessions.taken) _ e)) refl refl, (text_length (swapped channel) outer device asked device.sessions.status).1)))
    again false e = refl

    new : (b : Bool) → is_new device.sessions asked.id ≡ b
        → HasAnswered device (sent_by device (plan_with batch asked channel outer) commands (if b then New (device.sessions.taken + 1) else (if is_again device.sessions asked.id then Again device.sessions.status else Old)))
        (if b then New (device.sessions.taken + 1) else (if is_again device.sessions asked.id then Again device.sessions.status else Old))
    new true e = (
      _,
      (
        refl,
        (
          taken_own (plan_with batch asked channel outer) (swapped channel) outer device asked (judged_message device.kind (value_of device) (last_level_of device) (end_of channel) batch commands) ends
              (eqb-true asked.id (wire_id (device.sessions.taken + 1)) (first_holds _ (not (device.sessions.status == WORKING)) e)),
          (text_length (swapped channel) outer device asked (status_of (judged_message device.kind (value_of device) (last_level_of device) (end_of channel) batch commands))).1,
        ),
      ),
    )
    new false e = again (is_again device.sessions asked.id) refl

spent_answered : (device new : State) (first : ℕ) (heard : Heard) → HasAnswered (spent (active device) first) new heard → HasAnswered device new heard
spent_answered device new first (New session) is = is
spent_answered device new first (Again status) is = is
spent_answered device new first Old is = is

swapped_ends : (end : ℕ) → end ≤ 127 → AreEnds (swapped (ends_of end))
swapped_ends end most = by (nat_lt 0 end)
  where
    by : (b : Bool) → AreEnds (swapped (if b then Some (record { source = 0; target = end }) else None))
    by true = (most, omega arith)
    by false = tt

pub sealed_answered : (device : State) (own nonce drawn : List ℕ) (carriage : Carriage) (order : Order) (session : ℕ)
    → IsFit carriage.actuator order → order.end ≤ 127 → carriage.outer ≡ Security → device.awake ≡ true → device.kind ≡ Lock → length own ≡ 8 → device.given.live ≡ Some nonce
    → HasAnswered device (device_after device (Hears (sealed_text (keys_of device.key) own nonce (record { sender = host_node; receiver = device.node }) (message_of carriage order session)) drawn))
    (heard_of device.sessions (wire_id session))
sealed_answered device own nonce drawn carriage order session fit end sealed awake kind eight live =
    let message = message_in carriage order session in
    let heard = heard_of device.sessions (wire_id session) in
    let hearer : State = spent (active device) (slice_index nonce 0) in
    let known : lists device.kind 0x6C ≡ true = ap (λ (k : Kind). lists k 0x6C) kind in
    subst (λ (new : State). HasAnswered device new heard)
    (sym (sealed_heard device own nonce drawn carriage order session fit end sealed awake kind eight live))
    (spent_answered device (sent_sealed (answers hearer message)).device (slice_index nonce 0) heard
    (supervised_answered hearer message.plan.batch (supervised_of carriage.actuator order session) message.plan.channel message.plan.outer message.commands (swapped_ends order.end end) known))

-- ---- what it says then

abbrev said_by : State → Plan → List (List ℕ) → Heard → List (List ℕ)
said_by device plan commands heard = (sent_sealed (record {
  device = after_effect device plan (effect_in_session device.kind device.journal plan commands heard);
  answer = option_map (worded (answer_plan plan)) (answer_of device plan (effect_in_session device.kind device.journal plan commands heard));
})).replies

supervised_asks : (device : State) (batch : Bool) (asked : Supervised) (channel : Option Ends) (outer : Outer) (commands : List (List ℕ)) → lists device.kind 0x6C ≡ true
    → AsksToAnswer (sent_sealed (answers device (record { plan = record { batch = batch; session = Some asked; channel = channel; outer = outer }; commands = commands }))).replies (heard_of device.sessions asked.id)
unfolding answers effect_of
supervised_asks device batch asked channel outer commands known = rw known (new (is_new device.sessions asked.id))
  where
    again : (b : Bool) → AsksToAnswer (said_by device (plan_with batch asked channel outer) commands (if b then Again device.sessions.status else Old)) (if b then Again device.sessions.status else Old)
    again true = refl
    again false = refl

    new : (b : Bool)
        → AsksToAnswer (said_by device (plan_with batch asked channel outer) commands (if b then New (device.sessions.taken + 1) else (if is_again device.sessions asked.id then Again device.sessions.status else Old)))
        (if b then New (device.sessions.taken + 1) else (if is_again device.sessions asked.id then Again device.sessions.status else Old))
    new true = refl
    new false = again (is_again device.sessions asked.id)

pub sealed_asks : (device : State) (own nonce drawn : List ℕ) (carriage : Carriage) (order : Order) (session : ℕ)
    → IsFit carriage.actuator order → order.end ≤ 127 → carriage.outer ≡ Security → IsLock device → length own ≡ 8 → device.given.live ≡ Some nonce
    → AsksToAnswer (device_replies device (Hears (sealed_text (keys_of device.key) own nonce (record { sender = host_node; receiver = device.node }) (message_of carriage order session)) drawn))
    (heard_of device.sessions (wire_id session))
sealed_asks device own nonce drawn carriage order session fit end sealed is eight live =
    let message = message_in carriage order session in
    let payload = sealed_text (keys_of device.key) own nonce (record { sender = host_node; receiver = device.node }) (message_of carriage order session) in
    let heard = heard_of device.sessions (wire_id session) in
    let hearer : State = spent (active device) (slice_index nonce 0) in
    heard_so (λ new replies. AsksToAnswer replies heard) device payload drawn is
    (subst (λ (o : Outcome). AsksToAnswer o.replies heard)
    (sym (hears_message (active device) own nonce drawn (message_of carriage order session) message eight live (message_opens carriage order session fit end) (rw sealed refl)))
    (supervised_asks hearer message.plan.batch (supervised_of carriage.actuator order session) message.plan.channel message.plan.outer message.commands (ap (λ (k : Kind). lists k 0x6C) is.kind)))
