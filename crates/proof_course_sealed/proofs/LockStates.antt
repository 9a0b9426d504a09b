-- A lock in its courses: where it takes no session, and as it gives a nonce.
use Rattle.std.proofs.Common.{◌≡◌, ℕ, zero, suc, ◌+◌, ◌≤◌, ◌⊎◌, inl, inr, Bool, true, false, Option, Some, None, List, [], ◌∷◌, ◌++◌, length, refl, ap, sym, ◌∙◌, subst, append-nil, arith}
use Rattle.std.specs.Prelude.{slice_index, is_some}
use Rattle.std.proofs.lemmas.Bool.{eq-eqb}
use Rattle.zw_base.specs.declared.order.Order.{Order}
use Rattle.supervision.specs.Session.{wire_id}
use Rattle.supervision.specs.Device.{Taken, heard_of}
use Rattle.supervision.specs.declared.device_book.Heard.{Heard}
use Rattle.supervision.specs.declared.device_book.Heard.TheVariants.{New, Again, Old}
use Rattle.s0_session.specs.declared.account.Account.{Account}
use Rattle.s0_session.specs.Nonces.{nonce_given, after_give, given_from, nonce_spent, after_spend}
use Rattle.s0_session.specs.Sending.{Sending}
use Rattle.transport_segments.specs.Kept.{Empty}
use Rattle.class_info.specs.InfoSpelling.{form}
use Rattle.class_info.specs.declared.message.InfoMessage.TheVariants.{NonceReport}
use Rattle.encap.specs.declared.plan.Outer.TheVariants as outers
use Rattle.host_orders.specs.Refusals.{IsFit, is_bad}
use Rattle.host_orders.specs.Settings.{settings}
use Rattle.host_orders.specs.Wrapping.{message_of}
use Rattle.host_orders.specs.declared.carriage.Carriage.{Carriage}
use Rattle.proof_course.specs.Parts.{numbered}
use Rattle.proof_course.specs.NodeNonces as node
use Rattle.proof_course.specs.NodeNonces.{taken_as}
use Rattle.proof_course.specs.NodeNonceFacts.{NonceFacts as NodeFacts}
use Rattle.proof_course.specs.HostNonces as host
use Rattle.proof_course.specs.NonceLaws.{NamesLive}
use Rattle.device_kinds.specs.declared.verdict.Verdict.{Verdict}
use Rattle.device_kinds.specs.Kind.{lists, listens}
use Rattle.s0_crypto.specs.Sealing.{keys_of, sealed_text}
use Rattle.device_stack.specs.Ticking.{ticked, woken, set_by_hand}
use Rattle.device_sim.specs.State.{State, host_node}
use Rattle.device_sim.specs.Event.{DeviceEvent, Hears, Ticks, Wakes, Sets, outcome_of, device_after, device_replies}
use Rattle.proof_course_plain.specs.proof_device.GoingOn.{IsSame}
use Rattle.proof_messages.specs.Ending.{HasEnded}
use Rattle.proof_messages.specs.Asking.{verdict_on, MakesOnly, IsLeft, Follows}
use Rattle.proof_messages.specs.Landing.{LandsAs}
use Rattle.proof_messages.specs.Others.{IsOther}
use Rattle.proof_messages.specs.Reporting.{CanSay}
use Rattle.proof_course_plain.specs.Making.{HearsNone}
use Rattle.proof_course_plain.proofs.Devices.{no_more, at_rest}
use Rattle.proof_messages.specs.Numbers.{IsNonce, HasGiven, brought_by, with_given}
use Rattle.proof_messages.specs.Payloads.{IsOffer, IsSealed, IsUnnumbered}
use Rattle.proof_messages.specs.Locks.{IsLock, Ignores, Offers, SealsFor, SealsIf, Spends, SpendsNone, IsUnheard}
use Rattle.proof_messages.specs.Waiting.{WaitsOwn, SaysSealed}
use Rattle.proof_course_sealed.specs.Courses.{Courses, HasSeen}
use Rattle.proof_course_sealed.specs.Meaning.{Past}
use Rattle.proof_course_sealed.specs.Lock.{IsUnsaid, AtLock}
use Rattle.proof_course_sealed.specs.Device.{Gives, given_by, with_more}
use Rattle.proof_course_plain.proofs.proof_serial_Outer.{wrong as not_true}

-- ---- the laws of devices, of messages and of each end's nonces

pub record Laws : Type 0 where
  pub ended : (device : State) (event : DeviceEvent) (finals : List ℕ) → HasEnded device finals → (more : List ℕ) × HasEnded (device_after device event) (finals ++ more)
  pub same : (device : State) (event : DeviceEvent) → IsSame device (device_after device event)
  pub can : (device : State) (event : DeviceEvent) → CanSay device → CanSay (device_after device event)
  pub lands : (old new : State) (verdict : Verdict) (session : ℕ)
      → Follows old new verdict (heard_of old.sessions (wire_id session)) → LandsAs old new (record { session = session; is_segment = false }) false
  pub asked : (device : State) (carriage : Carriage) (order : Order) → is_bad carriage.actuator order.what ≡ false → MakesOnly (settings carriage.actuator order) (verdict_on device carriage order)
  pub left : (device : State) (payload drawn : List ℕ) → IsOther payload → lists device.kind 0x6C ≡ true → IsLeft device (device_after device (Hears payload drawn))
  pub no_message : (nonce : List ℕ) → IsOther (form (NonceReport nonce))
  pub gives : (nonces : List (List ℕ)) (c : node.Nonces) (account : Account) (drawn : List ℕ) → length drawn ≡ 8 → HasGiven nonces c.given c.is_live account
      → HasGiven (with_given nonces account drawn) (node.after c node.Gives).given (node.after c node.Gives).is_live (after_give account drawn)
  pub offered : (nonces : List (List ℕ)) (given : ℕ) (live : Bool) (account : Account) (drawn : List ℕ) → HasGiven nonces given live (after_give account drawn) → IsNonce nonces given (nonce_given account drawn)
  pub spends : (nonces : List (List ℕ)) (c : node.Nonces) (number : ℕ) (account : Account) (nonce : List ℕ) → HasGiven nonces c.given c.is_live account → IsNonce nonces number nonce
      → HasGiven nonces (node.hears c (node.Sealed number)).given (node.hears c (node.Sealed number)).is_live (after_spend account (slice_index nonce 0))
  pub spends_none : (nonces : List (List ℕ)) (c : node.Nonces) (number : ℕ) (account : Account) (nonce : List ℕ) → HasGiven nonces c.given c.is_live account → IsNonce nonces number nonce
      → node.names c number ≡ false → nonce_spent account (slice_index nonce 0) ≡ None
  pub unnumbered : (device : State) (payload drawn : List ℕ) → IsLock device → IsUnnumbered payload
      → Ignores device (device_after device (Hears payload drawn)) (device_replies device (Hears payload drawn))
      ⊎ Offers drawn device (device_after device (Hears payload drawn)) (device_replies device (Hears payload drawn))
  pub offer : (device : State) (nonces : List (List ℕ)) (number : ℕ) (payload drawn : List ℕ) (offer : IsOffer nonces number payload) → IsLock device
      → SealsIf offer.nonce drawn (taken_as (is_some device.sealing.pending) device.sealing.seen number) device (device_after device (Hears payload drawn)) (device_replies device (Hears payload drawn))
  pub sealed : (device : State) (own nonce plain drawn : List ℕ) → IsLock device → length own ≡ 8
      → Spends (slice_index nonce 0) device (device_after device (Hears (sealed_text (keys_of device.key) own nonce (record { sender = host_node; receiver = device.node }) plain) drawn))
      (device_replies device (Hears (sealed_text (keys_of device.key) own nonce (record { sender = host_node; receiver = device.node }) plain) drawn))
  pub unnamed : (device : State) (own nonce plain drawn : List ℕ) → IsLock device → length own ≡ 8 → nonce_spent device.given (slice_index nonce 0) ≡ None
      → SpendsNone device (device_after device (Hears (sealed_text (keys_of device.key) own nonce (record { sender = host_node; receiver = device.node }) plain) drawn))
      (device_replies device (Hears (sealed_text (keys_of device.key) own nonce (record { sender = host_node; receiver = device.node }) plain) drawn))
  pub unheard : (device : State) (event : DeviceEvent) → IsLock device → IsUnheard event → Ignores device (device_after device event) (device_replies device event)
  pub follows : (device : State) (given : List (List ℕ)) (c : node.Nonces) (number : ℕ) (carriage : Carriage) (order : Order) (session : ℕ) (payload drawn : List ℕ) → IsLock device
      → HasGiven given c.given c.is_live device.given → IsFit carriage.actuator order → order.end ≤ 127 → carriage.outer ≡ outers.Security
      → IsSealed (keys_of device.key) (record { sender = host_node; receiver = device.node }) given number (message_of carriage order session) payload → NamesLive c number → node.names c number ≡ true
      → Follows device (device_after device (Hears payload drawn)) (verdict_on device carriage order) (heard_of device.sessions (wire_id session))
  pub waits : (device : State) (given : List (List ℕ)) (c : node.Nonces) (number : ℕ) (carriage : Carriage) (order : Order) (session : ℕ) (payload drawn : List ℕ) → IsLock device
      → HasGiven given c.given c.is_live device.given → IsFit carriage.actuator order → order.end ≤ 127 → carriage.outer ≡ outers.Security
      → IsSealed (keys_of device.key) (record { sender = host_node; receiver = device.node }) given number (message_of carriage order session) payload → NamesLive c number → node.names c number ≡ true
      → WaitsOwn device → IsLock (device_after device (Hears payload drawn)) → WaitsOwn (device_after device (Hears payload drawn))
  pub still_waits : (old new : State) → IsLock old → IsLock new → new.sessions ≡ old.sessions
      → (new.sealing.pending ≡ old.sealing.pending) ⊎ (new.sealing.pending ≡ None) → WaitsOwn old → WaitsOwn new
  pub says : (device new : State) (shown : List (List ℕ)) (number seen : ℕ) (nonce drawn : List ℕ) (replies : List (List ℕ)) → SealsFor nonce drawn seen device new replies
      → IsNonce shown number nonce → length drawn ≡ 8 → WaitsOwn device → SaysSealed shown number device replies

-- ---- where it takes no session

module _ (laws : Laws) (past : Past) (c : Courses) (device : State) (event : DeviceEvent) (at : AtLock past c device) where
  abbrev new : State
  new = device_after device event

  -- no session ends then: a lock is never at work
  still_ended : IsLock new → new.sessions ≡ device.sessions → HasEnded new c.sessions.ends
  still_ended lock sessions =
      let more = laws.ended device event c.sessions.ends at.ended in
      let now = at_rest new (c.sessions.ends ++ more.0) more.1 (more.1.at_rest lock.idle) in
      let before = at_rest device c.sessions.ends at.ended (at.ended.at_rest at.lock.idle) in
      let none : more.0 ≡ [] = no_more c.sessions.ends more.0 (now.1 ∙ (ap (λ (t : Taken). t.taken) sessions ∙ sym before.1)) in
      subst (λ (l : List ℕ). HasEnded new l) (ap (λ (l : List ℕ). c.sessions.ends ++ l) none ∙ append-nil c.sessions.ends) more.1

  pub still_keys : keys_of new.key ≡ past.keys
  still_keys = ap (λ (key : List ℕ). keys_of key) (laws.same device event).key ∙ at.keys

  -- the nonces of both ends may go on
  pub still : (given : List (List ℕ)) (n : node.Nonces) (h : host.Nonces) → IsLock new → new.sessions ≡ device.sessions → new.reassembly ≡ device.reassembly
      → HasGiven given n.given n.is_live new.given ⊎ IsUnsaid (record past { given = given }) n new.given → HasSeen h.seen h.waits new.sealing.seen new.sealing.pending
      → (new.sealing.pending ≡ device.sealing.pending) ⊎ (new.sealing.pending ≡ None) → AtLock (record past { given = given }) (record { sessions = c.sessions; node = n; host = h }) new
  still given n h lock sessions whole gave saw waits = record {
    lock = lock;
    keys = still_keys;
    sessions = sessions ∙ at.sessions;
    kept = at.kept;
    whole = whole ∙ at.whole;
    ended = still_ended lock sessions;
    can = laws.can device event at.can;
    gave = gave;
    saw = saw;
    own = laws.still_waits device new at.lock lock sessions waits at.own;
  }

  pub still_given : new.given ≡ device.given → HasGiven past.given c.node.given c.node.is_live new.given ⊎ IsUnsaid past c.node new.given
  still_given same = subst (λ (account : Account). HasGiven past.given c.node.given c.node.is_live account ⊎ IsUnsaid past c.node account) (sym same) at.gave

  pub still_saw : new.sealing ≡ device.sealing → HasSeen c.host.seen c.host.waits new.sealing.seen new.sealing.pending
  still_saw same = subst (λ (s : Sending). HasSeen c.host.seen c.host.waits s.seen s.pending) (sym same) at.saw

  pub ignored : Ignores device new (device_replies device event) → new.reassembly ≡ device.reassembly → AtLock past c new
  ignored is whole =
      still past.given c.node c.host is.lock is.sessions whole (still_given is.given) (still_saw is.sealing) (inl (ap (λ (s : Sending). s.pending) is.sealing))

-- no nonce more is given
pub none_more : (past : Past) (c : Courses) (device : State) → AtLock past c device → AtLock (with_more past []) c device
none_more past c device at = subst (λ (l : List (List ℕ)). AtLock (record past { given = l }) c device) (sym (append-nil past.given)) at

-- ---- where nothing is heard

ticks_whole : (device : State) → device.work_left ≡ 0 → (ticked device).device.reassembly ≡ device.reassembly
unfolding ticked
ticks_whole device idle = rw (eq-eqb device.work_left 0 idle) refl

wakes_whole : (device : State) → (woken device).device.reassembly ≡ device.reassembly
unfolding woken
wakes_whole device = by (listens device.kind) refl
  where
    by : (b : Bool) → listens device.kind ≡ b → (woken device).device.reassembly ≡ device.reassembly
    by true e = rw e refl
    by false e = rw e refl

unheard_whole : (device : State) (event : DeviceEvent) → device.work_left ≡ 0 → HearsNone event → (device_after device event).reassembly ≡ device.reassembly
unfolding device_after outcome_of set_by_hand
unheard_whole device (Hears payload drawn) idle none = absurd none
unheard_whole device (Ticks drawn) idle none = ticks_whole device idle
unheard_whole device Wakes idle none = wakes_whole device
unheard_whole device (Sets value) idle none = refl

none_heard : (event : DeviceEvent) → HearsNone event → IsUnheard event
none_heard (Hears payload drawn) none = none
none_heard (Ticks drawn) none = tt
none_heard Wakes none = tt
none_heard (Sets value) none = tt

pub other_event : Laws → (past : Past) (c : Courses) (device : State) (event : DeviceEvent) → AtLock past c device → HearsNone event
    → AtLock past c (device_after device event) × (device_replies device event ≡ [])
other_event laws past c device event at none =
    let is = laws.unheard device event at.lock (none_heard event none) in
    (ignored laws past c device event at is (unheard_whole device event at.lock.idle none), is.silent)

-- ---- what a message leaves of what is kept of segments

pub follows_whole : (old now : State) (verdict : Verdict) (heard : Heard) → Follows old now verdict heard → old.reassembly ≡ Empty → now.reassembly ≡ Empty
follows_whole old now verdict (New session) follows whole = follows.empty
follows_whole old now verdict (Again status) follows whole = follows.1 ∙ whole
follows_whole old now verdict Old follows whole = follows.1 ∙ whole

-- ---- a nonce is given

-- what the courses have of the nonces then: one that has joined says it, so it counts as given
pub record Gave (past : Past) (c : node.Nonces) (account : Account) (drawn : List ℕ) (joined : Bool) : Type 0 where
  pub more : List (List ℕ)
  pub gave : HasGiven (past.given ++ more) (given_by Gives joined c).given (given_by Gives joined c).is_live (after_give account drawn)
      ⊎ IsUnsaid (with_more past more) (given_by Gives joined c) (after_give account drawn)
  pub shown : joined ≡ true → IsNonce (past.given ++ more) (given_by Gives joined c).given (nonce_given account drawn)
  pub live : joined ≡ true → (given_by Gives joined c).is_live ≡ true

given_live : (c : node.Nonces) → (node.after c node.Gives).is_live ≡ true
given_live c = by c.is_live refl
  where
    by : (b : Bool) → c.is_live ≡ b → (node.gives c b).is_live ≡ true
    by true e = e
    by false e = refl

is_empty : {A : Type 0} (l : List A) → length l ≡ 0 → l ≡ []
is_empty [] e = refl
is_empty (x ∷ l) e = absurd (grind (arith, e))

-- one that has joined says a nonce that was given before, or a new one
said_given : Laws → (past : Past) (c : node.Nonces) (account : Account) (drawn : List ℕ) → length drawn ≡ 8 → HasGiven past.given c.given c.is_live account → Gave past c account drawn true
said_given laws past c account drawn eight has =
    let now = laws.gives past.given c account drawn eight has in
    record {
      more = brought_by account.live account.given drawn;
      gave = inl now;
      shown = λ e. laws.offered (with_given past.given account drawn) (node.after c node.Gives).given (node.after c node.Gives).is_live account drawn now;
      live = λ e. given_live c;
    }

-- the nonce that it said to nobody is its first, and is said now
first_said : (past : Past) (c : node.Nonces) (nonce drawn : List ℕ) → past.given ≡ [] → c.given ≡ 0 → c.is_live ≡ false → IsNonce (nonce ∷ []) 1 nonce
    → Gave past c (record { given = 1; live = Some nonce }) drawn true
first_said past c nonce drawn none count dead is = record {
  more = nonce ∷ [];
  gave = inl now;
  shown = λ e. now.last nonce refl;
  live = λ e. given_live c;
}
  where
    gives_first : (node.gives c false).given ≡ 1
    gives_first = ap (λ (n : ℕ). n + 1) count

    last : (own : List ℕ) → Some nonce ≡ Some own → IsNonce (nonce ∷ []) 1 own
    last own e = subst (λ (l : List ℕ). IsNonce (nonce ∷ []) 1 l) (let same : nonce ≡ own = cc in same) is

    first : HasGiven (nonce ∷ []) 1 true (record { given = 1; live = Some nonce })
    first = record { count = refl; all = refl; lives = refl; last = last }

    now : HasGiven (past.given ++ nonce ∷ []) (node.gives c c.is_live).given (node.gives c c.is_live).is_live (record { given = 1; live = Some nonce })
    now =
        subst (λ (b : Bool). HasGiven (past.given ++ nonce ∷ []) (node.gives c b).given (node.gives c b).is_live (record { given = 1; live = Some nonce })) (sym dead)
        (subst (λ (n : ℕ). HasGiven (past.given ++ nonce ∷ []) n true (record { given = 1; live = Some nonce })) (sym gives_first)
        (subst (λ (l : List (List ℕ)). HasGiven (l ++ nonce ∷ []) 1 true (record { given = 1; live = Some nonce })) (sym none) first))

-- one that has not joined gives its first nonce, and says it to nobody
first_unsaid : Laws → (past : Past) (c : node.Nonces) (account : Account) (drawn : List ℕ) → length drawn ≡ 8 → HasGiven past.given c.given c.is_live account
    → c.given ≡ 0 → NodeFacts c → IsUnsaid (with_more past []) c (after_give account drawn)
first_unsaid laws past c account drawn eight has count facts = record {
  none = append-nil past.given ∙ none;
  count = count;
  dead = dead;
  nonce = nonce_given account drawn;
  account_is = ap {B = Account} (λ (n : ℕ). record { given = n; live = Some (nonce_given account drawn) }) one;
  is = nonce_is;
}
  where
    dead_by : (b : Bool) → c.is_live ≡ b → c.is_live ≡ false
    dead_by true e = absurd (let some = facts.lives e in omega (arith, some, count))
    dead_by false e = e

    dead : c.is_live ≡ false
    dead = dead_by c.is_live refl

    none : past.given ≡ []
    none = is_empty past.given (has.all ∙ count)

    none_by : (live : Option (List ℕ)) → account.live ≡ live → account.live ≡ None
    none_by (Some nonce) e = not_true (sym dead ∙ (sym has.lives ∙ ap is_some e))
    none_by None e = e

    no_live : account.live ≡ None
    no_live = none_by account.live refl

    one : given_from account.live account.given ≡ 1
    one = ap (λ (live : Option (List ℕ)). given_from live account.given) no_live ∙ ap (λ (n : ℕ). n + 1) (has.count ∙ count)

    gives_first : (node.gives c false).given ≡ 1
    gives_first = ap (λ (n : ℕ). n + 1) count

    offered : IsNonce (with_given past.given account drawn) (node.gives c c.is_live).given (nonce_given account drawn)
    offered = laws.offered (with_given past.given account drawn) (node.after c node.Gives).given (node.after c node.Gives).is_live account drawn (laws.gives past.given c account drawn eight has)

    brought : brought_by account.live account.given drawn ≡ nonce_given account drawn ∷ []
    brought = rw no_live refl

    nonce_is : IsNonce (nonce_given account drawn ∷ []) 1 (nonce_given account drawn)
    nonce_is =
        subst (λ (l : List (List ℕ)). IsNonce l 1 (nonce_given account drawn)) (ap (λ (l : List (List ℕ)). l ++ brought_by account.live account.given drawn) none ∙ brought)
        (subst (λ (n : ℕ). IsNonce (with_given past.given account drawn) n (nonce_given account drawn)) gives_first
        (subst (λ (b : Bool). IsNonce (with_given past.given account drawn) (node.gives c b).given (nonce_given account drawn)) dead offered))

pub nonce_gave : Laws → (past : Past) (c : node.Nonces) (account : Account) (drawn : List ℕ) (joined : Bool) → length drawn ≡ 8 → NodeFacts c → (joined ≡ false → c.given ≡ 0)
    → HasGiven past.given c.given c.is_live account ⊎ IsUnsaid past c account → Gave past c account drawn joined
nonce_gave laws past c account drawn true eight facts none (inl has) = said_given laws past c account drawn eight has
nonce_gave laws past c account drawn true eight facts none (inr un) =
    subst (λ (a : Account). Gave past c a drawn true) (sym un.account_is) (first_said past c un.nonce drawn un.none un.count un.dead un.is)
nonce_gave laws past c account drawn false eight facts none (inl has) =
    record { more = []; gave = inr (first_unsaid laws past c account drawn eight has (none refl) facts); shown = λ e. not_true e; live = λ e. not_true e }
nonce_gave laws past c account drawn false eight facts none (inr un) = record {
  more = [];
  gave = inr (record {
    none = append-nil past.given ∙ un.none;
    count = un.count;
    dead = un.dead;
    nonce = un.nonce;
    account_is = ap (λ (a : Account). after_give a drawn) un.account_is;
    is = un.is;
  });
  shown = λ e. not_true e;
  live = λ e. not_true e;
}

-- a lock that said no nonce hears nothing sealed
pub none_numbered : (nonces : List (List ℕ)) (number : ℕ) (nonce : List ℕ) → nonces ≡ [] → IsNonce nonces number nonce → ⊥
none_numbered nonces number nonce none is = by number (subst (λ (l : List (List ℕ)). numbered l number ≡ nonce ∷ []) none is.given)
  where
    by : (n : ℕ) → numbered [] n ≡ nonce ∷ [] → ⊥
    by zero e = absurd (grind (arith, e))
    by (suc n) e = absurd (grind (arith, e))
