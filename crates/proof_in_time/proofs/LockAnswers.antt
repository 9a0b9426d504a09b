-- What a lock in step with the host answers: to a Nonce Get, to the sealed message of a session, and to the live nonce of the host.
use Rattle.std.proofs.Common.{◌≡◌, ◌≢◌, ◌≤◌, ℕ, ◌+◌, Bool, true, Option, Some, List, [], ◌∷◌, ◌++◌, length, refl, sym, ap, ◌∙◌, subst, arith}
use Rattle.std.specs.Prelude.{is_some, slice_index}
use Rattle.zw_base.specs.declared.order.Order.{Order}
use Rattle.supervision.specs.Device.{Taken, heard_of}
use Rattle.supervision.specs.Session.{wire_id}
use Rattle.supervision.specs.declared.device_book.Heard.{Heard}
use Rattle.supervision.specs.declared.device_book.Heard.TheVariants.{Again, New}
use Rattle.supervision.specs.declared.session.TheConstants.{WORKING}
use Rattle.class_info.specs.InfoSpelling.{form}
use Rattle.class_info.specs.declared.message.InfoMessage.TheVariants.{NonceGet}
use Rattle.encap.specs.declared.plan.Outer.TheVariants as outers
use Rattle.s0_crypto.specs.Sealing.{keys_of, sealed_text}
use Rattle.s0_crypto.specs.declared.ends.SealEnds.{SealEnds}
use Rattle.s0_crypto.specs.declared.key_pair.Keys.{Keys}
use Rattle.s0_session.specs.Nonces.{nonce_given}
use Rattle.s0_session.specs.declared.account.Account.{Account}
use Rattle.device_kinds.specs.declared.kind.Kind.TheVariants as kinds
use Rattle.device_sim.specs.Event.{DeviceEvent, Hears, device_after, device_replies}
use Rattle.device_sim.specs.State.{State, host_node}
use Rattle.host_orders.specs.Refusals.{IsFit}
use Rattle.host_orders.specs.Wrapping.{message_of}
use Rattle.host_orders.specs.declared.carriage.Carriage.{Carriage}
use Rattle.host_heard.specs.Telling.{heard_at}
use Rattle.host_heard.specs.declared.payload.Heard.TheVariants.{Messages}
use Rattle.host_heard.specs.declared.told.Told.TheVariants.{Report}
use Rattle.device_kinds.specs.Answers.{report_status}
use Rattle.host_model.specs.State.{HostState}
use Rattle.host_model.specs.Taking.{ends_from}
use Rattle.proof_course.specs.HostNonceFacts.{NonceFacts as HostFacts}
use Rattle.proof_course.specs.HostNonces as host
use Rattle.proof_course.specs.NodeNonces.{taken_as}
use Rattle.proof_messages.specs.Asking.{Follows, HasTaken, IsLeft, verdict_on}
use Rattle.proof_messages.specs.Ending.{HasEnded}
use Rattle.proof_messages.specs.Locks.{AsksToAnswer, IsLock, Offers, SealsFor, SealsIf, Spends}
use Rattle.proof_messages.specs.Numbers.{IsNonce}
use Rattle.proof_messages.specs.Payloads.{IsOffer, report_of}
use Rattle.proof_messages.specs.Reporting.{HasAnswered, PendingTellsOwn, asks_now}
use Rattle.proof_messages.specs.Waiting.{SaysSealed, WaitsOwn}
use Rattle.proof_messages.proofs.NonceNumbers.{one_nonce}
use Rattle.proof_course_sealed.specs.Courses.{Courses}
use Rattle.proof_course_sealed.specs.Host.{AtHost}
use Rattle.proof_course_sealed.specs.Lock.{AtLock}
use Rattle.proof_course_sealed.specs.Meaning.{Past}
use Rattle.proof_in_time.specs.Answering.{IsInStep, Last, Next}
use Rattle.proof_in_time.specs.Exchange.{EndsForLive, IsForLive, OffersLive, ReportWaits, SaysOne, ShowsLive}
use Rattle.proof_in_time.proofs.Answered.{heard_last, heard_next}

-- the nonce that it gives is live then
pub nonce_offered : (drawn : List ℕ) (old new : State) (replies : List (List ℕ)) → Offers drawn old new replies → SaysOne (ShowsLive new) replies
nonce_offered drawn old new replies offers = record { reply = report_of (nonce_given old.given drawn); says = offers.says; is = record { nonce = nonce_given old.given drawn; live = ap (λ (a : Account). a.live) offers.given; is = refl } }

-- ---- a sealed message

-- what is known of a lock that hears one
pub record Laws : Type 0 where
  pub ended : (device : State) (event : DeviceEvent) (finals : List ℕ) → HasEnded device finals → (more : List ℕ) × HasEnded (device_after device event) (finals ++ more)
  pub spends : (device : State) (own nonce plain drawn : List ℕ) → IsLock device → length own ≡ 8
      → Spends (slice_index nonce 0) device (device_after device (Hears (sealed_text (keys_of device.key) own nonce (record { sender = host_node; receiver = device.node }) plain) drawn))
      (device_replies device (Hears (sealed_text (keys_of device.key) own nonce (record { sender = host_node; receiver = device.node }) plain) drawn))
  pub heard : (device : State) (own nonce drawn : List ℕ) (carriage : Carriage) (order : Order) (session : ℕ) → IsFit carriage.actuator order → order.end ≤ 127 → carriage.outer ≡ outers.Security → device.awake ≡ true → device.kind ≡ kinds.Lock
      → length own ≡ 8 → device.given.live ≡ Some nonce
      → Follows device (device_after device (Hears (sealed_text (keys_of device.key) own nonce (record { sender = host_node; receiver = device.node }) (message_of carriage order session)) drawn))
      (verdict_on device carriage order) (heard_of device.sessions (wire_id session))
  pub answered : (device : State) (own nonce drawn : List ℕ) (carriage : Carriage) (order : Order) (session : ℕ) → IsFit carriage.actuator order → order.end ≤ 127 → carriage.outer ≡ outers.Security → device.awake ≡ true → device.kind ≡ kinds.Lock
      → length own ≡ 8 → device.given.live ≡ Some nonce
      → HasAnswered device (device_after device (Hears (sealed_text (keys_of device.key) own nonce (record { sender = host_node; receiver = device.node }) (message_of carriage order session)) drawn))
      (heard_of device.sessions (wire_id session))
  pub asks : (device : State) (own nonce drawn : List ℕ) (carriage : Carriage) (order : Order) (session : ℕ) → IsFit carriage.actuator order → order.end ≤ 127 → carriage.outer ≡ outers.Security → IsLock device → length own ≡ 8
      → device.given.live ≡ Some nonce
      → AsksToAnswer (device_replies device (Hears (sealed_text (keys_of device.key) own nonce (record { sender = host_node; receiver = device.node }) (message_of carriage order session)) drawn))
      (heard_of device.sessions (wire_id session))

-- it takes the session, or took it last
module _ (laws : Laws) (past : Past) (c : Courses) (device : State) (session : ℕ) (drawn : List ℕ) (at : AtLock past c device) (payload : List ℕ) (sealed : IsForLive session device payload) where
  abbrev text : List ℕ
  text = sealed_text (keys_of device.key) sealed.own sealed.nonce (record { sender = host_node; receiver = device.node }) (message_of sealed.message.carriage sealed.message.order session)

  abbrev new : State
  new = device_after device (Hears text drawn)

  abbrev replies : List (List ℕ)
  replies = device_replies device (Hears text drawn)

  lock : IsLock new
  lock = (laws.spends device sealed.own sealed.nonce (message_of sealed.message.carriage sealed.message.order session) drawn at.lock sealed.eight).lock

  over : new.sessions.status ≢ WORKING
  over = (laws.ended device (Hears text drawn) c.sessions.ends at.ended).1.at_rest lock.idle

  as_heard : (heard : Heard) → heard_of device.sessions (wire_id session) ≡ heard → Follows device new (verdict_on device sealed.message.carriage sealed.message.order) heard × (HasAnswered device new heard × AsksToAnswer replies heard)
  as_heard heard e =
      let m = sealed.message in
      subst (λ (h : Heard). Follows device new (verdict_on device m.carriage m.order) h × (HasAnswered device new h × AsksToAnswer replies h)) e (
        laws.heard device sealed.own sealed.nonce drawn m.carriage m.order session m.fit m.end m.outer at.lock.awake at.lock.kind sealed.eight sealed.live,
        (
          laws.answered device sealed.own sealed.nonce drawn m.carriage m.order session m.fit m.end m.outer at.lock.awake at.lock.kind sealed.eight sealed.live,
          laws.asks device sealed.own sealed.nonce drawn m.carriage m.order session m.fit m.end m.outer at.lock sealed.eight sealed.live,
        ),
      )

  taken : IsInStep session device → ReportWaits session new × (replies ≡ form NonceGet ∷ [])
  taken (Next next done) =
      let so : HasTaken device new (device.sessions.taken + 1) (verdict_on device sealed.message.carriage sealed.message.order) × (PendingTellsOwn new × (replies ≡ form NonceGet ∷ [])) =
      as_heard (New (device.sessions.taken + 1)) (heard_next device.sessions (wire_id session) session next done.over refl) in
      (record { taken = ap (λ (t : Taken). t.taken) so.0.sessions ∙ sym next; over = over; waits = so.1.0 }, so.1.1)
  taken (Last last some work) =
      let so : IsLeft device new × (PendingTellsOwn new × (replies ≡ form NonceGet ∷ [])) = as_heard (Again device.sessions.status) (heard_last device.sessions (wire_id session) session last some refl) in
      (record { taken = ap (λ (t : Taken). t.taken) so.0.0.sessions ∙ sym last; over = over; waits = so.1.0 }, so.1.1)

  pub message_taken : IsInStep session device → ReportWaits session (device_after device (Hears payload drawn)) × (device_replies device (Hears payload drawn) ≡ form NonceGet ∷ [])
  message_taken step =
      let same : text ≡ payload = sym (sealed.is ∙ ap (λ (plain : List ℕ). sealed_text (keys_of device.key) sealed.own sealed.nonce (record { sender = host_node; receiver = device.node }) plain) sealed.message.is) in
      subst (λ (p : List ℕ). ReportWaits session (device_after device (Hears p drawn)) × (device_replies device (Hears p drawn) ≡ form NonceGet ∷ [])) same (taken step)

-- ---- the nonce of the host

-- the laws of what it seals
pub record SealLaws : Type 0 where
  pub offer : (device : State) (nonces : List (List ℕ)) (number : ℕ) (payload drawn : List ℕ) (offer : IsOffer nonces number payload) → IsLock device
      → SealsIf offer.nonce drawn (taken_as (is_some device.sealing.pending) device.sealing.seen number) device (device_after device (Hears payload drawn)) (device_replies device (Hears payload drawn))
  pub says : (device new : State) (shown : List (List ℕ)) (number seen : ℕ) (nonce drawn : List ℕ) (replies : List (List ℕ)) → SealsFor nonce drawn seen device new replies → IsNonce shown number nonce → length drawn ≡ 8
      → WaitsOwn device → SaysSealed shown number device replies
  pub taken : (c : host.Nonces) → HostFacts c → c.is_live ≡ true → taken_as true c.seen c.given ≡ Some c.given

module _ (laws : SealLaws) (past : Past) (n session : ℕ) (c : Courses) (text : Option ℕ) (tasks : List ℕ) (h : HostState) (device : State) (payload drawn : List ℕ) (at : AtLock past c device) (at_host : AtHost past n c text tasks h)
    (facts : HostFacts c.host) (stands : device.node ≡ n) (offers : OffersLive n h payload) (waits : ReportWaits session device) (eight : length drawn ≡ 8) where
  is : IsNonce past.shown c.host.given offers.nonce
  is = at_host.gave.last offers.nonce offers.live

  abbrev offer : IsOffer past.shown c.host.given payload
  offer = record { nonce = offers.nonce; is = is; text = offers.is }

  found : taken_as (is_some device.sealing.pending) device.sealing.seen c.host.given ≡ Some c.host.given
  found =
      ap (λ (b : Bool). taken_as b device.sealing.seen c.host.given) (ap (λ (p : Option (List ℕ)). is_some p) waits.waits.1.0)
      ∙ (ap (λ (k : ℕ). taken_as true k c.host.given) at.saw.count ∙ laws.taken c.host facts (sym at_host.gave.lives ∙ ap (λ (o : Option (List ℕ)). is_some o) offers.live))

  says : SaysSealed past.shown c.host.given device (device_replies device (Hears payload drawn))
  says =
      laws.says device (device_after device (Hears payload drawn)) past.shown c.host.given c.host.given offers.nonce drawn (device_replies device (Hears payload drawn))
      (subst (λ (o : Option ℕ). SealsIf offers.nonce drawn o device (device_after device (Hears payload drawn)) (device_replies device (Hears payload drawn))) found (laws.offer device past.shown c.host.given payload drawn offer at.lock)) is eight at.own

  keys : keys_of device.key ≡ h.keys
  keys = at.keys ∙ sym at_host.keys

  ends : device.sealing.ends ≡ ends_from n
  ends = at.lock.ends ∙ ap {B = SealEnds} (λ (k : ℕ). record { sender = k; receiver = host_node }) stands

  -- it is what waited
  short : length says.plain ≤ 26
  short =
      let both : Some says.plain ≡ Some waits.waits.0 = sym says.waited ∙ waits.waits.1.0 in
      let same : says.plain ≡ waits.waits.0 = cc in
      let long = ap (λ (l : List ℕ). length l) same in
      let few = waits.waits.1.1.1 in
      omega (arith, long, few)

  pub report_said : SaysOne (EndsForLive n session h) (device_replies device (Hears payload drawn))
  report_said =
      let same : says.sealed.nonce ≡ offers.nonce = one_nonce past.shown c.host.given says.sealed.nonce offers.nonce says.sealed.is is in
      record {
        reply = says.reply;
        says = says.says;
        is = record {
          plain = says.plain;
          status = device.sessions.status;
          over = waits.over;
          tells = record {
            wakes = asks_now device;
            heard = subst (λ (k : ℕ). heard_at says.plain ≡ Messages (Report (wire_id k) (report_status device.sessions.status) (asks_now device) ∷ [])) waits.taken says.own;
          };
          few = short;
          own = says.sealed.own;
          nonce = offers.nonce;
          eight = says.sealed.eight;
          live = offers.live;
          is = says.sealed.text
              ∙ (ap (λ (k : Keys). sealed_text k says.sealed.own says.sealed.nonce device.sealing.ends says.plain) keys
              ∙ (ap (λ (e : SealEnds). sealed_text h.keys says.sealed.own says.sealed.nonce e says.plain) ends ∙ ap (λ (nonce : List ℕ). sealed_text h.keys says.sealed.own nonce (ends_from n) says.plain) same));
        };
      }
