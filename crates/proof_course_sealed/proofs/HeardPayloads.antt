-- A lock hears a payload of the host in its courses, by what the payload holds.
use Rattle.std.proofs.Common.{◌≡◌, ℕ, ◌<◌, ◌⊎◌, inl, inr, Bool, true, false, ◌&&◌, not, if◌then◌else◌, Option, Some, None, List, [], ◌∷◌, ◌++◌, length, refl, ap, sym, ◌∙◌, subst}
use Rattle.std.specs.Prelude.{slice_index, is_some}
use Rattle.supervision.specs.Session.{wire_id}
use Rattle.supervision.specs.Device.{Taken, is_new, heard_of, after_get}
use Rattle.s0_crypto.specs.declared.key_pair.Keys.{Keys}
use Rattle.s0_crypto.specs.declared.ends.SealEnds.{SealEnds}
use Rattle.s0_session.specs.declared.account.Account.{Account}
use Rattle.s0_session.specs.Nonces.{nonce_given}
use Rattle.s0_session.specs.Sending.{Sending}
use Rattle.class_info.specs.InfoSpelling.{form}
use Rattle.class_info.specs.declared.message.InfoMessage.TheVariants.{NonceGet}
use Rattle.host_orders.specs.Wrapping.{message_of}
use Rattle.host_node.specs.State.{ends_to}
use Rattle.host_model.specs.Taking.{ends_from}
use Rattle.proof_course.specs.Sessions.{Course, Message, Command, hears, after_all}
use Rattle.proof_course.specs.NodeNonces as node_nonces
use Rattle.proof_course.specs.NodeNonces.{taken_as}
use Rattle.proof_course.specs.NodeNonceFacts.{NonceFacts as NodeFacts}
use Rattle.proof_course.specs.HostNonces as host
use Rattle.proof_course.specs.NonceLaws.{NamesLive, TakesOffer}
use Rattle.s0_crypto.specs.Sealing.{keys_of}
use Rattle.device_sim.specs.State.{State, host_node}
use Rattle.device_sim.specs.Event.{DeviceEvent, Hears, device_after, device_replies}
use Rattle.proof_messages.specs.Asking.{verdict_on, IsLeft, Follows}
use Rattle.proof_messages.specs.Landing.{HasLanded, LandsAs}
use Rattle.proof_messages.specs.Others.{IsOther}
use Rattle.proof_messages.specs.Reporting.{asks_now}
use Rattle.proof_course_plain.specs.Device.{finishes}
use Rattle.proof_course_plain.specs.Meaning.{Reports as TellsReport}
use Rattle.proof_course_plain.specs.Making.{Names}
use Rattle.proof_course_plain.proofs.Devices.{Took, Ended, Adds, adds, took_get}
use Rattle.proof_messages.specs.Numbers.{HasGiven}
use Rattle.proof_messages.specs.Payloads.{report_of, IsOffer, IsSealed}
use Rattle.proof_messages.specs.Locks.{IsLock, Ignores, Offers, SealsFor, SealsIf, Spends, SpendsNone}
use Rattle.proof_messages.specs.Waiting.{SaysSealed}
use Rattle.proof_messages.proofs.Texts.{report_form}
use Rattle.proof_course_sealed.specs.Labels.{Held, Sealed, Offer, Up, Of_host, Down, Of_node, as_session, as_node}
use Rattle.proof_course_sealed.specs.Courses.{Courses, HasSeen}
use Rattle.proof_course_sealed.specs.Meaning.{Past, IsNeither, HoldsMessage, HostMeans}
use Rattle.proof_course_sealed.specs.Lock.{IsUnsaid, AtLock}
use Rattle.proof_course_sealed.specs.Device.{Nothing, Tells, Gives, Asks, given_by, with_more, HearsAs, NamesNonce}
use Rattle.proof_course_sealed.proofs.LockStates.{Laws, still, still_keys, still_given, still_saw, ignored, none_more, follows_whole, Gave, nonce_gave, none_numbered}
use Rattle.proof_course_sealed.proofs.UnsealedMessages.{others_leave}

-- ---- a nonce leaves all of sessions

pub offer_left : Laws → (past : Past) (device : State) (number : ℕ) (payload drawn : List ℕ) → IsLock device → IsOffer past.shown number payload
    → IsLeft device (device_after device (Hears payload drawn))
offer_left laws past device number payload drawn lock offer =
    others_leave laws.left payload (subst (λ (p : List ℕ). IsOther p) (report_form offer.nonce ∙ sym offer.text) (laws.no_message offer.nonce)) device drawn lock

module _ (laws : Laws) (past : Past) (node : ℕ) (c : Courses) (device : State) (payload drawn : List ℕ) (at : AtLock past c device) (stands : device.node ≡ node) where
  abbrev event : DeviceEvent
  event = Hears payload drawn

  abbrev new : State
  new = device_after device event

  abbrev replies : List (List ℕ)
  replies = device_replies device event

  -- ---- a message that names a nonce

  module _ (session number : ℕ) (is : HoldsMessage past node session number payload) where
    abbrev text : List ℕ
    text = message_of is.is.asked.carriage is.is.asked.order session

    pub sealed_so : IsSealed (keys_of device.key) (record { sender = host_node; receiver = device.node }) past.given number text payload
    sealed_so =
        subst (λ (k : Keys). IsSealed k (record { sender = host_node; receiver = device.node }) past.given number text payload) (sym at.keys)
        (subst (λ (n : ℕ). IsSealed past.keys (record { sender = host_node; receiver = n }) past.given number text payload) (sym stands)
        (subst (λ (plain : List ℕ). IsSealed past.keys (ends_to node) past.given number plain payload) is.is.text_is is.sealed))

    -- a lock that gave no nonce hears none
    pub never_unsaid : IsUnsaid past c.node device.given → ⊥
    never_unsaid un = none_numbered past.given number is.sealed.nonce un.none is.sealed.is

    pub unnamed_spends : HasGiven past.given c.node.given c.node.is_live device.given → node_nonces.names c.node number ≡ false → SpendsNone device new replies
    unnamed_spends has other =
        subst (λ (p : List ℕ). SpendsNone device (device_after device (Hears p drawn)) (device_replies device (Hears p drawn))) (sym sealed_so.text)
        (laws.unnamed device sealed_so.own sealed_so.nonce text drawn at.lock sealed_so.eight (laws.spends_none past.given c.node number device.given sealed_so.nonce has sealed_so.is other))

    pub message_followed : HasGiven past.given c.node.given c.node.is_live device.given → NamesLive c.node number → node_nonces.names c.node number ≡ true
        → Follows device new (verdict_on device is.is.asked.carriage is.is.asked.order) (heard_of device.sessions (wire_id session))
    message_followed has live named =
        laws.follows device past.given c.node number is.is.asked.carriage is.is.asked.order session payload drawn at.lock has is.is.fit is.is.end is.is.outer sealed_so live named

    spends : Spends (slice_index sealed_so.nonce 0) device new replies
    spends =
        subst (λ (p : List ℕ). Spends (slice_index sealed_so.nonce 0) device (device_after device (Hears p drawn)) (device_replies device (Hears p drawn))) (sym sealed_so.text)
        (laws.sealed device sealed_so.own sealed_so.nonce text drawn at.lock sealed_so.eight)

    -- whether it answers or not, by what the host's nonces are then
    module _ (since : ℕ) (has : HasGiven past.given c.node.given c.node.is_live device.given) (live : NamesLive c.node number) (named : node_nonces.names c.node number ≡ true) where
      abbrev message : Message
      message = record { session = session; is_segment = false }

      abbrev heard : Course
      heard = hears c.sessions since (Command message) true

      follows : Follows device new (verdict_on device is.is.asked.carriage is.is.asked.order) (heard_of device.sessions (wire_id session))
      follows = message_followed has live named

      lands : LandsAs device new message false
      lands = laws.lands device new (verdict_on device is.is.asked.carriage is.is.asked.order) session follows

      took : Took device.sessions heard.device
      took = subst (λ (t : Taken). Took t (after_get c.sessions.device (wire_id session))) (sym at.sessions) (took_get c.sessions.device (wire_id session))

      ended : Ended heard.device new.sessions
      ended = subst (λ (t : Taken). HasLanded t message false new.sessions) at.sessions lands.sessions

      added : Adds heard.device c.sessions.ends new
      added =
          let more = laws.ended device event c.sessions.ends at.ended in
          adds device new heard.device c.sessions.ends more.0 at.ended more.1 took ended

      kept_by : (b : Bool) → (if b then None else c.sessions.kept) ≡ None
      kept_by true = refl
      kept_by false = at.kept

      kept : (final : Option ℕ) → (after_all heard (finishes final)).kept ≡ None
      kept None = kept_by (is_new c.sessions.device (wire_id session))
      kept (Some status) = kept_by (is_new c.sessions.device (wire_id session))

      spent : HasGiven past.given (node_nonces.hears c.node (node_nonces.Sealed number)).given (node_nonces.hears c.node (node_nonces.Sealed number)).is_live new.given
      spent =
          subst (λ (a : Account). HasGiven past.given (node_nonces.hears c.node (node_nonces.Sealed number)).given (node_nonces.hears c.node (node_nonces.Sealed number)).is_live a) (sym spends.given)
          (laws.spends past.given c.node number device.given sealed_so.nonce has sealed_so.is)

      heard_at : (h : host.Nonces) → HasSeen h.seen h.waits new.sealing.seen new.sealing.pending
          → AtLock past (record { sessions = after_all heard (finishes added.final); node = node_nonces.hears c.node (node_nonces.Sealed number); host = h }) new
      heard_at h saw = record {
        lock = spends.lock;
        keys = still_keys laws past c device event at;
        sessions = added.device heard refl;
        kept = kept added.final;
        whole = follows_whole device new (verdict_on device is.is.asked.carriage is.is.asked.order) (heard_of device.sessions (wire_id session)) follows at.whole;
        ended = added.ended heard refl;
        can = laws.can device event at.can;
        gave = inl spent;
        saw = saw;
        own =
            laws.waits device past.given c.node number is.is.asked.carriage is.is.asked.order session payload drawn at.lock has is.is.fit is.is.end is.is.outer sealed_so live named at.own spends.lock;
      }

      pub message_heard : (joined : Bool) → HearsAs past node c device since (Up (Sealed session number)) joined event
      message_heard joined = by spends.answers
        where
          by : ((new.sealing ≡ device.sealing) × (replies ≡ [])) ⊎ ((waits : List ℕ) × ((new.sealing ≡ record device.sealing { pending = Some waits }) × (replies ≡ form NonceGet ∷ [])))
              → HearsAs past node c device since (Up (Sealed session number)) joined event
          by (inl (same, silent)) = record {
            hearing = record { message = true; nonce = false; final = added.final; reply = Nothing };
            more = [];
            may = added.may heard refl;
            at = none_more past (record { sessions = after_all heard (finishes added.final); node = node_nonces.hears c.node (node_nonces.Sealed number); host = c.host }) new
                (heard_at c.host (still_saw laws past c device event at same));
            says = (silent, refl);
          }
          by (inr (waits, (sealing, asks))) = record {
            hearing = record { message = true; nonce = false; final = added.final; reply = Asks };
            more = [];
            may = added.may heard refl;
            at = none_more past (record { sessions = after_all heard (finishes added.final); node = node_nonces.hears c.node (node_nonces.Sealed number); host = host.after c.host host.Waits }) new
                (heard_at (host.after c.host host.Waits) (record { count = ap (λ (s : Sending). s.seen) sealing ∙ at.saw.count; waiting = λ e. refl }));
            says = (asks, refl);
          }

  -- ---- what changes nothing of the courses

  module _ (since : ℕ) (joined : Bool) where
    -- by what the nonces of the node are then
    nothing_by : (held : Held) → node_nonces.hears c.node (as_node held) ≡ c.node → Ignores device new replies → IsLeft device new → HearsAs past node c device since held joined event
    nothing_by held same ignores left = record {
      hearing = record { message = false; nonce = false; final = None; reply = Nothing };
      more = [];
      may = tt;
      at = subst (λ (n : node_nonces.Nonces). AtLock (with_more past []) (record { sessions = c.sessions; node = n; host = c.host }) new) (sym same)
          (none_more past c new (ignored laws past c device event at ignores left.1));
      says = (ignores.silent, refl);
    }

    -- a message that names no nonce
    unnamed_heard : (session number : ℕ) → HoldsMessage past node session number payload → HasGiven past.given c.node.given c.node.is_live device.given → node_nonces.names c.node number ≡ false
        → HearsAs past node c device since (Up (Sealed session number)) joined event
    unnamed_heard session number is has other =
        let none = unnamed_spends session number is has other in
        nothing_by (Up (Sealed session number)) (still_live (node_nonces.names c.node number) other) none.ignores none.left
      where
        live_by : (b : Bool) → b && true ≡ b
        live_by true = refl
        live_by false = refl

        still_live : (b : Bool) → b ≡ false → record c.node { is_live = c.node.is_live && not b } ≡ c.node
        still_live b e =
            ap (λ (b : Bool). record c.node { is_live = c.node.is_live && not b }) e
            ∙ ap (λ (live : Bool). record c.node { is_live = live }) (live_by c.node.is_live)

    pub sealed_heard : (session number : ℕ) → HoldsMessage past node session number payload → NamesLive c.node number
        → HearsAs past node c device since (Up (Sealed session number)) joined event
    sealed_heard session number is live = given_by_it at.gave
      where
        named_by : HasGiven past.given c.node.given c.node.is_live device.given → (b : Bool) → node_nonces.names c.node number ≡ b → HearsAs past node c device since (Up (Sealed session number)) joined event
        named_by has true e = message_heard session number is since has live e joined
        named_by has false e = unnamed_heard session number is has e

        given_by_it : HasGiven past.given c.node.given c.node.is_live device.given ⊎ IsUnsaid past c.node device.given → HearsAs past node c device since (Up (Sealed session number)) joined event
        given_by_it (inl has) = named_by has (node_nonces.names c.node number) refl
        given_by_it (inr un) = absurd (never_unsaid session number is un)

    -- ---- a nonce of the host

    module _ (number : ℕ) (offer : IsOffer past.shown number payload) (takes : TakesOffer c.host number) (eight : length drawn ≡ 8) where
      left : IsLeft device new
      left = offer_left laws past device number payload drawn at.lock offer

      -- a report that waits is sealed for it
      report_told : (found : ℕ) → found ≡ number → taken_as c.host.waits c.host.seen number ≡ Some found → SealsFor offer.nonce drawn found device new replies
          → HearsAs past node c device since (Up (Offer number)) joined event
      report_told found same taken seals = record {
        hearing = record { message = false; nonce = true; final = None; reply = Tells number };
        more = [];
        may = tt;
        at = none_more past (record { sessions = c.sessions; node = c.node; host = host.seals c.host (taken_as c.host.waits c.host.seen number) false }) new
            (subst (λ (o : Option ℕ). AtLock past (record { sessions = c.sessions; node = c.node; host = host.seals c.host o false }) new) (sym taken)
            (still laws past c device event at past.given c.node (record c.host { seen = found; waits = false }) seals.lock seals.sessions left.1
            (still_given laws past c device event at seals.given) seen (inr (ap (λ (s : Sending). s.pending) seals.sealing))));
        says = record {
          reply = said.reply;
          says = said.says;
          means = record { text = said.plain; is = own; sealed = sealed };
          took = subst (λ (t : Taken). 0 < t.taken) at.sessions said.took;
          heard = refl;
          offered = refl;
          found = taken ∙ ap Some same;
        };
      }
        where
          said : SaysSealed past.shown number device replies
          said = laws.says device new past.shown number found offer.nonce drawn replies seals offer.is eight at.own

          seen : HasSeen found false new.sealing.seen new.sealing.pending
          seen = subst (λ (s : Sending). HasSeen found false s.seen s.pending) (sym seals.sealing) (record { count = refl; waiting = λ e. e })

          own : TellsReport c.sessions.device.taken c.sessions.device.status said.plain
          own = subst (λ (t : Taken). TellsReport t.taken t.status said.plain) at.sessions (record { asks = asks_now device; heard = said.own; is_status = at.can.status })

          sealed : IsSealed past.keys (ends_from node) past.shown number said.plain said.reply
          sealed =
              subst (λ (k : Keys). IsSealed k (ends_from node) past.shown number said.plain said.reply) at.keys
              (subst (λ (n : ℕ). IsSealed (keys_of device.key) (record { sender = n; receiver = host_node }) past.shown number said.plain said.reply) stands
              (subst (λ (e : SealEnds). IsSealed (keys_of device.key) e past.shown number said.plain said.reply) at.lock.ends said.sealed))

      pub offer_heard : HearsAs past node c device since (Up (Offer number)) joined event
      offer_heard = by device.sealing.pending refl
        where
          taken_by : c.host.waits ≡ true → (found : Option ℕ) → taken_as true device.sealing.seen number ≡ found → SealsIf offer.nonce drawn found device new replies
              → HearsAs past node c device since (Up (Offer number)) joined event
          taken_by waits None e seals = nothing_by (Up (Offer number)) refl seals left
          taken_by waits (Some found) e seals =
              let taken : taken_as c.host.waits c.host.seen number ≡ Some found =
              ap (λ (b : Bool). taken_as b c.host.seen number) waits ∙ (ap (λ (k : ℕ). taken_as true k number) (sym at.saw.count) ∙ e) in
              report_told found (takes found taken) taken seals

          seals : SealsIf offer.nonce drawn (taken_as (is_some device.sealing.pending) device.sealing.seen number) device new replies
          seals = laws.offer device past.shown number payload drawn offer at.lock

          by : (pending : Option (List ℕ)) → device.sealing.pending ≡ pending → HearsAs past node c device since (Up (Offer number)) joined event
          by None e = nothing_by (Up (Offer number)) refl
              (subst (λ (p : Option (List ℕ)). SealsIf offer.nonce drawn (taken_as (is_some p) device.sealing.seen number) device new replies) e seals) left
          by (Some waits) e = taken_by (at.saw.waiting (ap (λ (p : Option (List ℕ)). is_some p) e)) (taken_as true device.sealing.seen number) refl
              (subst (λ (p : Option (List ℕ)). SealsIf offer.nonce drawn (taken_as (is_some p) device.sealing.seen number) device new replies) e seals)

    -- ---- what is neither

    module _ (is : IsNeither payload) (facts : NodeFacts c.node) (eight : length drawn ≡ 8) (none : joined ≡ false → c.node.given ≡ 0) where
      nonce_given_now : Offers drawn device new replies → IsLeft device new → HearsAs past node c device since Of_host joined event
      nonce_given_now offers left = record {
        hearing = record { message = false; nonce = false; final = None; reply = Gives };
        more = gave.more;
        may = tt;
        at = still laws past c device event at (past.given ++ gave.more) (given_by Gives joined c.node) c.host offers.lock offers.sessions left.1
            (subst (λ (a : Account). HasGiven (past.given ++ gave.more) (given_by Gives joined c.node).given (given_by Gives joined c.node).is_live a
            ⊎ IsUnsaid (with_more past gave.more) (given_by Gives joined c.node) a) (sym offers.given) gave.gave)
            (still_saw laws past c device event at offers.sealing) (inl (ap (λ (s : Sending). s.pending) offers.sealing));
        says = record {
          reply = report_of (nonce_given device.given drawn);
          says = offers.says;
          means = λ e. record { nonce = nonce_given device.given drawn; is = gave.shown e; text = refl };
          live = gave.live;
          unheard = refl;
        };
      }
        where
          gave : Gave past c.node device.given drawn joined
          gave = nonce_gave laws past c.node device.given drawn joined eight facts none at.gave

      pub other_heard : HearsAs past node c device since Of_host joined event
      other_heard = by (laws.unnumbered device payload drawn at.lock is.0)
        where
          left : IsLeft device new
          left = is.1 device drawn at.lock

          by : Ignores device new replies ⊎ Offers drawn device new replies → HearsAs past node c device since Of_host joined event
          by (inl ignores) = nothing_by Of_host refl ignores left
          by (inr offers) = nonce_given_now offers left

-- ---- any payload

pub payload_heard : Laws → (past : Past) (node : ℕ) (c : Courses) (device : State) (since : ℕ) (held : Held) (joined : Bool) (payload drawn : List ℕ)
    → AtLock past c device → NodeFacts c.node → device.node ≡ node → length drawn ≡ 8 → HostMeans past node payload held → Names c.sessions.device (as_session held) → NamesNonce c held
    → (joined ≡ false → c.node.given ≡ 0) → HearsAs past node c device since held joined (Hears payload drawn)
payload_heard laws past node c device since (Up (Sealed session number)) joined payload drawn at facts stands eight is names one none =
    sealed_heard laws past node c device payload drawn at stands since joined session number is one
payload_heard laws past node c device since (Up (Offer number)) joined payload drawn at facts stands eight is names one none =
    offer_heard laws past node c device payload drawn at stands since joined number is one eight
payload_heard laws past node c device since Of_host joined payload drawn at facts stands eight is names one none =
    other_heard laws past node c device payload drawn at stands since joined is facts eight none
payload_heard laws past node c device since (Down said) joined payload drawn at facts stands eight is names one none = absurd is
payload_heard laws past node c device since Of_node joined payload drawn at facts stands eight is names one none = absurd is
