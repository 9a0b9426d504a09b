-- A lock that hears the sealed message of a session, and what waits then.
use Rattle.std.proofs.Common.{◌≡◌, ℕ, ◌+◌, ◌<◌, ◌≤◌, ◌==◌, Bool, true, false, not, nat_lt, if◌then◌else◌, Some, None, List, [], ◌∷◌, length, refl, ap, sym, ◌∙◌, subst, ◌⊎◌, inl, inr, arith}
use Rattle.std.specs.Prelude.{◌&&◌, nat_le}
use Rattle.std.proofs.lemmas.Bool.Decides.{nat_tests}
use Rattle.zw_base.specs.declared.order.Order.{Order}
use Rattle.supervision.specs.Session.{wire_id}
use Rattle.supervision.specs.Device.{Taken, is_new, is_again, heard_of}
use Rattle.supervision.specs.declared.session.TheConstants.{WORKING}
use Rattle.supervision.specs.declared.device_book.Heard.TheVariants.{New, Again, Old}
use Rattle.encap.specs.declared.plan.Outer.TheVariants.{Security}
use Rattle.host_heard.specs.declared.payload.Heard.TheVariants.{Messages}
use Rattle.host_heard.specs.declared.told.Told.TheVariants.{Report}
use Rattle.host_orders.specs.Refusals.{IsFit}
use Rattle.host_orders.specs.Wrapping.{message_of}
use Rattle.host_orders.specs.declared.carriage.Carriage.{Carriage}
use Rattle.device_kinds.specs.declared.kind.Kind.{Kind}
use Rattle.device_kinds.specs.declared.kind.Kind.TheVariants.{Lock}
use Rattle.device_kinds.specs.declared.verdict.Verdict.{Verdict}
use Rattle.device_kinds.specs.Kind.{listens, host_node}
use Rattle.device_kinds.specs.Answers.{report_status}
use Rattle.s0_crypto.specs.Sealing.{keys_of, sealed_text}
use Rattle.device_sim.specs.device_stack.State.{State, fresh}
use Rattle.device_sim.specs.Event.{Hears, device_after}
use Rattle.proof_messages.specs.Asking.{verdict_on, Follows}
use Rattle.proof_messages.specs.Reporting.{asks_now, TellsOwn, HasAnswered}
use Rattle.proof_course.specs.NodeNonces as node
use Rattle.proof_course.specs.NonceLaws.{NamesLive}
use Rattle.proof_messages.specs.Numbers.{IsNonce, HasGiven}
use Rattle.proof_messages.specs.Payloads.{IsSealed}
use Rattle.proof_messages.specs.Locks.{IsLock, SealsFor}
use Rattle.proof_messages.specs.Waiting.{WaitsOwn, SaysSealed}
use Rattle.proof_messages.proofs.NonceNumbers.{found_live}

-- ---- what a report of a lock tells does not hang on more than its sessions

never_asks : (device : State) → IsLock device → asks_now device ≡ false
never_asks device is = ap (λ (k : Kind). not (device.sessions.status == WORKING) && (not (listens k) && nat_le 101 device.node)) is.kind ∙ none (not (device.sessions.status == WORKING))
  where
    none : (b : Bool) → b && false ≡ false
    none true = refl
    none false = refl

tells_still : (old new : State) (text : List ℕ) → IsLock old → IsLock new → new.sessions ≡ old.sessions → TellsOwn old text → TellsOwn new text
tells_still old new text before now sessions tells =
    tells
    ∙ (ap (λ (t : Taken). Messages (Report (wire_id t.taken) (report_status t.status) (asks_now old) ∷ [])) (sym sessions)
    ∙ ap (λ (b : Bool). Messages (Report (wire_id new.sessions.taken) (report_status new.sessions.status) b ∷ [])) (never_asks old before ∙ sym (never_asks new now)))

pub some_same : (a b : List ℕ) → Some a ≡ Some b → a ≡ b
some_same a b e = cc

no_some : (a : List ℕ) → None ≡ Some a → ⊥
no_some a e = grind (arith, e)

pub waits_still : (old new : State) → IsLock old → IsLock new → new.sessions ≡ old.sessions → (new.sealing.pending ≡ old.sealing.pending) ⊎ (new.sealing.pending ≡ None) → WaitsOwn old → WaitsOwn new
waits_still old new before now sessions (inl same) waits text e =
    let own = waits text (sym same ∙ e) in
    (subst (λ (t : Taken). 0 < t.taken) (sym sessions) own.0, tells_still old new text before now sessions own.1)
waits_still old new before now sessions (inr none) waits text e = absurd (no_some text (sym none ∙ e))

pub fresh_waits : (node : ℕ) (key : List ℕ) → WaitsOwn (fresh node Lock key)
fresh_waits node key text e = absurd (no_some text e)

-- ---- what waits after a message

waits_this : (new : State) (text : List ℕ) → new.sealing.pending ≡ Some text → 0 < new.sessions.taken → TellsOwn new text → WaitsOwn new
waits_this new text is took tells other e = (took, subst (λ (t : List ℕ). TellsOwn new t) (some_same text other (sym is ∙ e)) tells)

waits_by : (old new : State) (id : ℕ) (verdict : Verdict) → IsLock old → IsLock new → WaitsOwn old → Follows old new verdict (heard_of old.sessions id) → HasAnswered old new (heard_of old.sessions id) → WaitsOwn new
waits_by old new id verdict before now waits = new_by (is_new old.sessions id)
  where
    again_by : (b : Bool) → is_again old.sessions id ≡ b → Follows old new verdict (if b then Again old.sessions.status else Old) → HasAnswered old new (if b then Again old.sessions.status else Old) → WaitsOwn new
    again_by true e follows (text, (is, (tells, few))) =
        let some : 0 < old.sessions.taken = grind (arith, nat_tests, prefix (nat_lt 0 old.sessions.taken) (id == wire_id old.sessions.taken) e) in
        waits_this new text is (subst (λ (t : Taken). 0 < t.taken) (sym follows.0.sessions) some) tells
      where
        prefix : (a b : Bool) → a && b ≡ true → a ≡ true
        prefix true b e = refl
        prefix false b e = absurd (grind (arith, e))
    again_by false e follows same = waits_still old new before now follows.0.sessions (inl same) waits

    new_by : (b : Bool) → Follows old new verdict (if b then New (old.sessions.taken + 1) else (if is_again old.sessions id then Again old.sessions.status else Old))
        → HasAnswered old new (if b then New (old.sessions.taken + 1) else (if is_again old.sessions id then Again old.sessions.status else Old)) → WaitsOwn new
    new_by true follows (text, (is, (tells, few))) = waits_this new text is (subst (λ (t : Taken). 0 < t.taken) (sym follows.sessions) (omega arith)) tells
    new_by false follows answered = again_by (is_again old.sessions id) refl follows answered

-- ---- the message

-- what is known of a lock that hears the message of a session, sealed for its live nonce (`proof_messages`)
pub record Laws : Type 0 where
  pub heard : (device : State) (own nonce drawn : List ℕ) (carriage : Carriage) (order : Order) (session : ℕ) → IsFit carriage.actuator order → order.end ≤ 127 → carriage.outer ≡ Security → device.awake ≡ true → device.kind ≡ Lock
      → length own ≡ 8 → device.given.live ≡ Some nonce
      → Follows device (device_after device (Hears (sealed_text (keys_of device.key) own nonce (record { sender = host_node; receiver = device.node }) (message_of carriage order session)) drawn))
      (verdict_on device carriage order) (heard_of device.sessions (wire_id session))
  pub answered : (device : State) (own nonce drawn : List ℕ) (carriage : Carriage) (order : Order) (session : ℕ) → IsFit carriage.actuator order → order.end ≤ 127 → carriage.outer ≡ Security → device.awake ≡ true → device.kind ≡ Lock
      → length own ≡ 8 → device.given.live ≡ Some nonce
      → HasAnswered device (device_after device (Hears (sealed_text (keys_of device.key) own nonce (record { sender = host_node; receiver = device.node }) (message_of carriage order session)) drawn))
      (heard_of device.sessions (wire_id session))

live_is : (device : State) (given : List (List ℕ)) (c : node.Nonces) (number : ℕ) (nonce : List ℕ) → HasGiven given c.given c.is_live device.given → IsNonce given number nonce → NamesLive c number → node.names c number ≡ true → device.given.live ≡ Some nonce
live_is device given c number nonce has is itself named = found_live given c.given number c.is_live device.given nonce has is itself named

pub message_followed : Laws → (device : State) (given : List (List ℕ)) (c : node.Nonces) (number : ℕ) (carriage : Carriage) (order : Order) (session : ℕ) (payload drawn : List ℕ) → IsLock device
    → HasGiven given c.given c.is_live device.given → IsFit carriage.actuator order → order.end ≤ 127 → carriage.outer ≡ Security
    → IsSealed (keys_of device.key) (record { sender = host_node; receiver = device.node }) given number (message_of carriage order session) payload → NamesLive c number → node.names c number ≡ true
    → Follows device (device_after device (Hears payload drawn)) (verdict_on device carriage order) (heard_of device.sessions (wire_id session))
message_followed laws device given c number carriage order session payload drawn is has fit end outer sealed itself named =
    subst (λ (p : List ℕ). Follows device (device_after device (Hears p drawn)) (verdict_on device carriage order) (heard_of device.sessions (wire_id session))) (sym sealed.text)
    (laws.heard device sealed.own sealed.nonce drawn carriage order session fit end outer is.awake is.kind sealed.eight (live_is device given c number sealed.nonce has sealed.is itself named))

pub message_waits : Laws → (device : State) (given : List (List ℕ)) (c : node.Nonces) (number : ℕ) (carriage : Carriage) (order : Order) (session : ℕ) (payload drawn : List ℕ) → IsLock device
    → HasGiven given c.given c.is_live device.given → IsFit carriage.actuator order → order.end ≤ 127 → carriage.outer ≡ Security
    → IsSealed (keys_of device.key) (record { sender = host_node; receiver = device.node }) given number (message_of carriage order session) payload → NamesLive c number → node.names c number ≡ true
    → WaitsOwn device → IsLock (device_after device (Hears payload drawn)) → WaitsOwn (device_after device (Hears payload drawn))
message_waits laws device given c number carriage order session payload drawn is has fit end outer sealed itself named waits now =
    waits_by device (device_after device (Hears payload drawn)) (wire_id session) (verdict_on device carriage order) is now waits
    (message_followed laws device given c number carriage order session payload drawn is has fit end outer sealed itself named)
    (subst (λ (p : List ℕ). HasAnswered device (device_after device (Hears p drawn)) (heard_of device.sessions (wire_id session))) (sym sealed.text)
    (laws.answered device sealed.own sealed.nonce drawn carriage order session fit end outer is.awake is.kind sealed.eight (live_is device given c number sealed.nonce has sealed.is itself named)))

-- ---- the answer

pub says_sealed : (device new : State) (shown : List (List ℕ)) (number seen : ℕ) (nonce drawn : List ℕ) (replies : List (List ℕ)) → SealsFor nonce drawn seen device new replies → IsNonce shown number nonce → length drawn ≡ 8
    → WaitsOwn device → SaysSealed shown number device replies
says_sealed device new shown number seen nonce drawn replies seals is eight waits =
    let own = waits seals.plain seals.waited in
    record {
      plain = seals.plain;
      waited = seals.waited;
      reply = sealed_text (keys_of device.key) drawn nonce device.sealing.ends seals.plain;
      says = seals.says;
      sealed = record { own = drawn; nonce = nonce; eight = eight; is = is; text = refl };
      took = own.0;
      own = own.1;
    }
