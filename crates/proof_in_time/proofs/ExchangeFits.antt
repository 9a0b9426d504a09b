-- What a lock says in a sealed exchange has 1 to 46 bytes, so that it comes to the chip.
use Rattle.std.proofs.Common.{◌≡◌, ◌≤◌, ℕ, suc, ◌+◌, inl, inr, List, length, refl, sym, ap, ◌∙◌, subst, arith}
use Rattle.std.specs.Prelude.{◌⊎◌, Some}
use Rattle.class_info.specs.InfoSpelling.{form}
use Rattle.class_info.specs.declared.message.InfoMessage.TheVariants.{NonceGet}
use Rattle.s0_session.specs.declared.account.Account.{Account}
use Rattle.s0_crypto.specs.Sealing.{cipher_text_of, sealed_text}
use Rattle.s0_crypto.specs.declared.ends.SealEnds.{SealEnds}
use Rattle.s0_crypto.specs.declared.key_pair.Keys.{Keys}
use Rattle.device_sim.specs.State.{State}
use Rattle.host_model.specs.State.{HostState}
use Rattle.host_model.specs.Taking.{ends_from}
use Rattle.world_model.specs.State.{Machine}
use Rattle.proof_messages.specs.Numbers.{HasGiven, IsNonce}
use Rattle.proof_messages.proofs.SealedByNumber.{sealed_length}
use Rattle.proof_course_plain.proofs.Replies.{one_place, one_stands}
use Rattle.proof_course_sealed.specs.Courses.{Courses}
use Rattle.proof_course_sealed.specs.Lock.{AtLock, IsUnsaid}
use Rattle.proof_course_sealed.specs.Meaning.{Past}
use Rattle.proof_in_time.specs.Exchange.{EndsForLive, IsThere, ShowsLive}
use Rattle.proof_in_time.specs.Locks.{LockInStep}

abbrev pub Fits : List ℕ → Type 0
Fits payload = (1 ≤ length payload) × (length payload ≤ 46)

-- a Nonce Get
pub get_fits : (payload : List ℕ) → payload ≡ form NonceGet → Fits payload
get_fits payload is = let long : length payload ≡ 2 = ap (λ (p : List ℕ). length p) is in (omega (arith, long), omega (arith, long))

-- a nonce of the lock
live_eight : (past : Past) (c : Courses) (device : State) (nonce : List ℕ) → AtLock past c device → device.given.live ≡ Some nonce → length nonce ≡ 8
live_eight past c device nonce at live = by at.gave
  where
    by : HasGiven past.given c.node.given c.node.is_live device.given ⊎ IsUnsaid past c.node device.given → length nonce ≡ 8
    by (inl has) =
        let is : IsNonce past.given c.node.given nonce = has.last nonce live in
        is.eight
    by (inr unsaid) =
        let both : Some nonce ≡ Some unsaid.nonce = sym live ∙ ap (λ (account : Account). account.live) unsaid.account_is in
        let same : nonce ≡ unsaid.nonce = cc in
        ap (λ (l : List ℕ). length l) same ∙ unsaid.is.eight

pub shows_fits : (n : ℕ) (m : Machine) → LockInStep n m → (at : IsThere n m.outside.devices) → (payload : List ℕ) → ShowsLive at.device payload → Fits payload
shows_fits n m step at payload shows =
    let has = step.follows.outside.mesh.device in
    let same : has.device ≡ at.device =
    one_stands m.outside.devices has.place at.place has.device at.device has.stands at.stands (one_place n m.outside.devices has.place at.place has.first at.first) in
    let eight : length shows.nonce ≡ 8 = live_eight step.past step.courses at.device shows.nonce (subst (λ (device : State). AtLock step.past step.courses device) same has.at) shows.live in
    let long : length payload ≡ suc (suc (length shows.nonce)) = ap (λ (p : List ℕ). length p) shows.is in
    (omega (arith, eight, long), omega (arith, eight, long))

-- a report of the end, sealed
sealed_size : (keys : Keys) (own nonce : List ℕ) (ends : SealEnds) (plain : List ℕ) → length (sealed_text keys own nonce ends plain) ≡ length own + length plain + 12
unfolding sealed_text
sealed_size keys own nonce ends plain = sealed_length keys own nonce ends plain (sealed_text keys own nonce ends plain) (record { cipher_text = cipher_text_of keys own nonce plain; enciphers = refl; layout = refl })

pub ends_fits : (n session : ℕ) (h : HostState) (payload : List ℕ) → EndsForLive n session h payload → Fits payload
ends_fits n session h payload ends =
    let long : length payload ≡ length ends.own + length ends.plain + 12 =
    ap (λ (p : List ℕ). length p) ends.is ∙ sealed_size h.keys ends.own ends.nonce (ends_from n) ends.plain in
    let eight = ends.eight in
    let few = ends.few in
    (omega (arith, long, eight), omega (arith, long, eight, few))
