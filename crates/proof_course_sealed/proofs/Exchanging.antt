-- Each payload of a sealed exchange is what the next step asks for.
use Rattle.std.proofs.Common.{◌≡◌, ◌≤◌, ◌<◌, ℕ, ◌+◌, ◌-◌, ◌%◌, ◌==◌, ◌&&◌, nat_lt, inl, inr, Bool, true, false, if◌then◌else◌, Option, Some, None, List, [], ◌∷◌, ◌++◌, length, refl, sym, ap, ◌∙◌, subst, append-nil, arith}
use Rattle.std.specs.Prelude.{◌⊎◌, is_some, slice_index}
use Rattle.std.proofs.lemmas.Bool.{eq-eqb, eqb-true}
use Rattle.std.proofs.lemmas.Bool.Decides.{nat_tests}
use Rattle.s0_session.specs.Nonces.{live_of}
use Rattle.s0_session.specs.Sending.{seen_after, taken_from}
use Rattle.class_info.specs.InfoSpelling.{form}
use Rattle.class_info.specs.declared.message.InfoMessage.TheVariants as info
use Rattle.encap.specs.Opening.{begins_with}
use Rattle.device_sim.specs.State.{State}
use Rattle.host_heard.specs.Telling.{heard_at}
use Rattle.host_heard.specs.declared.payload.Heard.{Heard}
use Rattle.host_heard.specs.declared.payload.Heard.TheVariants.{Messages}
use Rattle.host_heard.specs.declared.told.Told.{Told}
use Rattle.host_heard.specs.declared.told.Told.TheVariants.{NonceGet, NonceReport}
use Rattle.host_model.specs.Events.{HostEvent}
use Rattle.host_model.specs.State.{HostState, node_of}
use Rattle.host_model.specs.Taking.{AreTaken, IsTaken, NonceGetEvents, NonceReportEvents, PayloadEvents, ends_from}
use Rattle.proof_course.specs.HostNonceFacts.{NonceFacts as HostFacts}
use Rattle.proof_course.specs.HostNonces as host
use Rattle.proof_course.specs.NodeNonceFacts.{NonceFacts as NodeFacts}
use Rattle.proof_course.specs.NodeNonces as node
use Rattle.proof_course.specs.NodeNonces.{taken_as}
use Rattle.proof_messages.specs.Numbers.{HasGiven, IsNonce}
use Rattle.proof_messages.specs.Payloads.{report_of}
use Rattle.proof_messages.proofs.Texts.{is_text, report_open}
use Rattle.proof_course_sealed.specs.Courses.{Courses}
use Rattle.proof_course_sealed.specs.Exchange.{GivesOne, Gives_new, IsLiveOffer, Keeps_none, Offers_live, TakesOne}
use Rattle.proof_course_sealed.specs.Host.{AtHost}
use Rattle.proof_course_sealed.specs.Labels.{Down, Held, Of_host, Of_node, Reports, Shows, Up}
use Rattle.proof_course_sealed.specs.Lock.{AtLock, IsUnsaid}
use Rattle.proof_course_sealed.specs.Meaning.{NodeMeans, Past}
use Rattle.proof_course_sealed.proofs.HostJudgements.{get_heard, report_heard}
use Rattle.proof_course_sealed.proofs.LockStates.{none_numbered}

-- ---- counts

never_both : (a : Bool) → a && false ≡ false
never_both true = refl
never_both false = refl

both_are : (a b : Bool) → a ≡ true → b ≡ true → a && b ≡ true
both_are true b x y = y
both_are false b x y = absurd (grind (arith, x))

-- the last nonce is taken, whether it was seen or not
seen_again : (seen : ℕ) → 0 < seen → seen_after seen (seen % 256) ≡ Some seen
seen_again seen some =
    let more : nat_lt 0 seen ≡ true = grind (arith, nat_tests, some) in
    ap (λ (b : Bool). if b then Some seen else (if seen % 256 == (seen + 1) % 256 then Some (seen + 1) else None)) (both_are (nat_lt 0 seen) (seen % 256 == seen % 256) more (eq-eqb (seen % 256) (seen % 256) refl))

seen_next : (seen : ℕ) → seen_after seen ((seen + 1) % 256) ≡ Some (seen + 1)
seen_next seen =
    ap (λ (b : Bool). if b then Some seen else (if (seen + 1) % 256 == (seen + 1) % 256 then Some (seen + 1) else None))
    (ap (λ (b : Bool). nat_lt 0 seen && b) (other ((seen + 1) % 256 == seen % 256) refl) ∙ never_both (nat_lt 0 seen))
    ∙ ap (λ (b : Bool). if b then Some (seen + 1) else None) (eq-eqb ((seen + 1) % 256) ((seen + 1) % 256) refl)
  where
    other : (b : Bool) → ((seen + 1) % 256 == seen % 256) ≡ b → ((seen + 1) % 256 == seen % 256) ≡ false
    other true e = absurd (let bad : (seen + 1) % 256 ≡ seen % 256 = eqb-true ((seen + 1) % 256) (seen % 256) e in omega (arith, bad))
    other false e = e

last_or_next : (seen given : ℕ) → seen ≤ given → given ≤ seen + 1 → (given ≡ seen) ⊎ (given ≡ seen + 1)
last_or_next seen given ahead after = by (nat_lt seen given) refl
  where
    by : (b : Bool) → nat_lt seen given ≡ b → (given ≡ seen) ⊎ (given ≡ seen + 1)
    by true e = let less : seen < given = grind (arith, nat_tests, e) in inr (omega (arith, less, after))
    by false e = let most : given ≤ seen = grind (arith, nat_tests, e) in inl (omega (arith, most, ahead))

last_taken : (seen given : ℕ) → seen ≤ given → given ≤ seen + 1 → 0 < given → seen_after seen (given % 256) ≡ Some given
last_taken seen given ahead after some = by (last_or_next seen given ahead after)
  where
    by : (given ≡ seen) ⊎ (given ≡ seen + 1) → seen_after seen (given % 256) ≡ Some given
    by (inl same) = subst (λ (k : ℕ). seen_after seen (k % 256) ≡ Some k) (sym same) (seen_again seen (subst (λ (k : ℕ). 0 < k) same some))
    by (inr next) = subst (λ (k : ℕ). seen_after seen (k % 256) ≡ Some k) (sym next) (seen_next seen)

-- ---- the lock shows its nonce

-- a frame of the node on the air that has the text of a Nonce Report brings a nonce of its
shows_nonce : (past : Past) (n : ℕ) (payload nonce : List ℕ) (held : Held) → NodeMeans past n payload held → payload ≡ report_of nonce → (number : ℕ) × (other : List ℕ) × IsNonce past.given number other
shows_nonce past n payload nonce (Up sent) means text = absurd means
shows_nonce past n payload nonce Of_host means text = absurd means
shows_nonce past n payload nonce (Down (Shows number)) means text = (number, means.nonce, means.is)
shows_nonce past n payload nonce (Down (Reports session status number)) means text =
    let sealed = means.sealed in
    let begins = (is_text past.keys sealed.own sealed.nonce (ends_from n) means.text sealed.eight).begins in
    let bad : false ≡ true = sym (report_open nonce) ∙ (ap (λ (l : List ℕ). begins_with l 0x98 0x81) (sym text ∙ sealed.text) ∙ begins) in
    absurd (grind (arith, bad))
shows_nonce past n payload nonce Of_node means text =
    let bad : 0x80 ≡ 0x40 = ap (λ (l : List ℕ). slice_index l 1) (sym text ∙ means) in
    absurd (omega (arith, bad))

pub live_shown : (past : Past) (n : ℕ) (c : Courses) (device : State) (nonce payload : List ℕ) (held : Held) → AtLock past c device → device.given.live ≡ Some nonce → NodeMeans past n payload held → payload ≡ report_of nonce
    → IsLiveOffer past c payload
live_shown past n c device nonce payload held at live means text = by at.gave
  where
    shown : (number : ℕ) × (other : List ℕ) × IsNonce past.given number other
    shown = shows_nonce past n payload nonce held means text

    by : HasGiven past.given c.node.given c.node.is_live device.given ⊎ IsUnsaid past c.node device.given → IsLiveOffer past c payload
    by (inl has) = record { offer = record { nonce = nonce; is = has.last nonce live; text = text }; live = sym has.lives ∙ ap (λ (o : Option (List ℕ)). is_some o) live }
    by (inr un) = absurd (none_numbered past.given shown.0 shown.1 un.none shown.2)

-- ---- the host takes it, and seals for it

-- what one message of a payload comes to
alone : (h : HostState) (n : ℕ) (payload : List ℕ) (message : Told) (events : List HostEvent) → heard_at payload ≡ Messages (message ∷ []) → PayloadEvents h n payload (heard_at payload) events → IsTaken h n payload false message events
alone h n payload message events heard is = by (subst (λ (x : Heard). PayloadEvents h n payload x events) heard is)
  where
    by : AreTaken h n payload false (message ∷ []) events → IsTaken h n payload false message events
    by (first, rest, are, taken, over) = subst (λ (es : List HostEvent). IsTaken h n payload false message es) (sym (are ∙ (ap (λ l. first ++ l) over ∙ append-nil first))) taken

pub nonce_counted : (past : Past) (n : ℕ) (c : Courses) (text : Option ℕ) (tasks : List ℕ) (h : HostState) (payload : List ℕ) → AtHost past n c text tasks h → NodeFacts c.node → (offers : IsLiveOffer past c payload)
    → seen_after (node_of h n).seen (slice_index offers.offer.nonce 0) ≡ Some c.node.given
nonce_counted past n c text tasks h payload at facts offers =
    let ahead = facts.one_ahead in
    let sent = facts.sent_seen in
    ap (λ (k : ℕ). seen_after k (slice_index offers.offer.nonce 0)) at.saw.count
    ∙ (ap (λ (first : ℕ). seen_after c.node.seen first) offers.offer.is.first ∙ last_taken c.node.seen c.node.given facts.seen_given (omega (arith, ahead, sent)) (facts.lives offers.live))

pub nonce_taken : (h : HostState) (n seen : ℕ) (plain nonce payload : List ℕ) (events : List HostEvent) → length nonce ≡ 8 → payload ≡ report_of nonce → (node_of h n).pending ≡ Some plain
    → seen_after (node_of h n).seen (slice_index nonce 0) ≡ Some seen → PayloadEvents h n payload (heard_at payload) events → TakesOne n seen nonce h events
nonce_taken h n seen plain nonce payload events eight text pending counts is =
    by (subst (λ (o : Option ℕ). NonceReportEvents h n nonce o events) (ap (λ (p : Option (List ℕ)). taken_from p (node_of h n).seen (slice_index nonce 0)) pending ∙ counts)
    (alone h n payload (NonceReport nonce) events (ap heard_at text ∙ report_heard nonce eight) is))
  where
    by : NonceReportEvents h n nonce (Some seen) events → TakesOne n seen nonce h events
    by (own, text, seals, are, sure) = record { own = own; text = text; seals = seals; are = are }

-- ---- the host gives its nonce, and the lock takes it

pub nonce_asked : (h : HostState) (n : ℕ) (payload : List ℕ) (events : List HostEvent) → payload ≡ form info.NonceGet → PayloadEvents h n payload (heard_at payload) events → GivesOne n events
nonce_asked h n payload events text is = by (live_of h.nonces n) (alone h n payload NonceGet events (ap heard_at text ∙ get_heard) is)
  where
    by : (live : Option (List ℕ)) → NonceGetEvents n live events → GivesOne n events
    by (Some nonce) are = Offers_live are
    by None (drawn, eight, inl are) = Gives_new drawn eight are
    by None (drawn, eight, inr are) = Keeps_none are

pub offer_taken : (c : host.Nonces) → HostFacts c → c.is_live ≡ true → taken_as true c.seen c.given ≡ Some c.given
offer_taken c facts live =
    let ahead = facts.one_ahead in
    let sent = facts.sent_seen in
    let shown = facts.seen_shown in
    let given = facts.shown_given in
    last_taken c.seen c.given (omega (arith, shown, given)) (omega (arith, ahead, sent)) (facts.lives live)
