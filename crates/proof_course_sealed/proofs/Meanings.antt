-- What payloads are stays what it was, as more orders, sessions and nonces come.
use Rattle.std.proofs.Common.{◌≡◌, ℕ, Bool, true, false, if◌then◌else◌, Some, None, List, [], ◌∷◌, length, refl, ap, sym, ◌∙◌, subst}
use Rattle.std.specs.Prelude.{◌&&◌, nat_le, take, drop}
use Rattle.class_info.specs.InfoSpelling.{form}
use Rattle.class_info.specs.declared.message.InfoMessage.TheVariants.{NonceGet}
use Rattle.air_frames.specs.declared.frame.Heading.{Heading}
use Rattle.air_frames.specs.declared.frame.Heading.TheVariants.{Outward, Homeward}
use Rattle.air_frames.specs.Ages.{is_class}
use Rattle.air_frames.specs.Nonces.{nonce_in}
use Rattle.s0_crypto.specs.declared.key_pair.Keys.{Keys}
use Rattle.s0_crypto.specs.declared.ends.SealEnds.{SealEnds}
use Rattle.s0_crypto.specs.Sealing.{sealed_text}
use Rattle.proof_course.specs.Parts.{numbered}
use Rattle.proof_messages.specs.Numbers.{IsNonce}
use Rattle.proof_messages.specs.Payloads.{IsOffer, IsSealed}
use Rattle.proof_messages.proofs.NonceNumbers.{nonce_stays as more_given}
use Rattle.proof_messages.proofs.NonceNumbers.{numbered-more as numbered-append}
use Rattle.proof_course_sealed.specs.Labels.{Held, Sealed, Offer, Reports, Shows, Up, Of_host, Down, Of_node}
use Rattle.proof_course_sealed.specs.Meaning.{Past, GoesOn, Grows, IsSealedMessage, HostMeans, NodeMeans}
use Rattle.proof_course_sealed.specs.Air.{MeansBy}

-- ---- nonces keep their numbers

pub nonce_stays : (old new : List (List ℕ)) (number : ℕ) (nonce : List ℕ) → GoesOn old new → IsNonce old number nonce → IsNonce new number nonce
nonce_stays old new number nonce goes is = subst (λ (l : List (List ℕ)). IsNonce l number nonce) (sym goes.is) (more_given old goes.more number nonce is)

pub offer_stays : (old new : List (List ℕ)) (number : ℕ) (payload : List ℕ) → GoesOn old new → IsOffer old number payload → IsOffer new number payload
offer_stays old new number payload goes is = record { nonce = is.nonce; is = nonce_stays old new number is.nonce goes is.is; text = is.text }

sealed_stays : (keys later : Keys) (ends : SealEnds) (old new : List (List ℕ)) (number : ℕ) (plain payload : List ℕ) → later ≡ keys → GoesOn old new → IsSealed keys ends old number plain payload
    → IsSealed later ends new number plain payload
sealed_stays keys later ends old new number plain payload same goes is = record {
  own = is.own;
  nonce = is.nonce;
  eight = is.eight;
  is = nonce_stays old new number is.nonce goes is.is;
  text = is.text ∙ ap (λ (k : Keys). sealed_text k is.own is.nonce ends plain) (sym same);
}

-- ---- meanings stay

numbered_stays : {X : Type 0} (old new : List X) (number : ℕ) (item : X) → GoesOn old new → numbered old number ≡ item ∷ [] → numbered new number ≡ item ∷ []
numbered_stays {X} old new number item goes e = subst (λ (l : List X). numbered l number ≡ item ∷ []) (sym goes.is) (numbered-append old goes.more number item e)

pub sealed_message_stays : (past later : Past) (session : ℕ) (text : List ℕ) → Grows past later → IsSealedMessage past session text → IsSealedMessage later session text
sealed_message_stays past later session text grows is = record {
  number = is.number;
  asked = is.asked;
  carried = numbered_stays past.commands later.commands session is.number grows.commands is.carried;
  accepted = numbered_stays past.orders later.orders is.number is.asked grows.orders is.accepted;
  fit = is.fit;
  end = is.end;
  outer = is.outer;
  text_is = is.text_is;
}

pub host_means_stays : (past later : Past) (node : ℕ) (payload : List ℕ) (held : Held) → Grows past later → HostMeans past node payload held → HostMeans later node payload held
host_means_stays past later node payload (Up (Sealed session number)) grows is = record {
  text = is.text;
  is = sealed_message_stays past later session is.text grows is.is;
  sealed = sealed_stays past.keys later.keys _ past.given later.given number is.text payload grows.keys grows.given is.sealed;
}
host_means_stays past later node payload (Up (Offer number)) grows is = offer_stays past.shown later.shown number payload grows.shown is
host_means_stays past later node payload Of_host grows is = is
host_means_stays past later node payload (Down said) grows is = absurd is
host_means_stays past later node payload Of_node grows is = absurd is

pub node_means_stays : (past later : Past) (node : ℕ) (payload : List ℕ) (held : Held) → Grows past later → NodeMeans past node payload held → NodeMeans later node payload held
node_means_stays past later node payload (Up sent) grows is = absurd is
node_means_stays past later node payload Of_host grows is = absurd is
node_means_stays past later node payload (Down (Reports session status number)) grows is = record {
  text = is.text;
  is = is.is;
  sealed = sealed_stays past.keys later.keys _ past.shown later.shown number is.text payload grows.keys grows.shown is.sealed;
}
node_means_stays past later node payload (Down (Shows number)) grows is = offer_stays past.given later.given number payload grows.given is
node_means_stays past later node payload Of_node grows is = is

pub means_by_stays : (heading : Heading) (own : Bool) (past later : Past) (node : ℕ) (payload : List ℕ) (held : Held) → Grows past later → MeansBy heading own past node payload held → MeansBy heading own later node payload held
means_by_stays Outward true past later node payload held grows is = host_means_stays past later node payload held grows is
means_by_stays Homeward true past later node payload held grows is = node_means_stays past later node payload held grows is
means_by_stays Outward false past later node payload held grows is = is
means_by_stays Homeward false past later node payload held grows is = is

-- ---- which payloads show a nonce, and which are of Security 0

-- a Security message shows none
never_shown : (long : Bool) (payload : List ℕ) → (if long && false then Some (take 8 (drop 2 payload)) else None) ≡ None
never_shown true payload = refl
never_shown false payload = refl

sealed_none : (keys : Keys) (own nonce : List ℕ) (ends : SealEnds) (plain : List ℕ) → nonce_in (sealed_text keys own nonce ends plain) ≡ None
unfolding sealed_text
sealed_none keys own nonce ends plain = never_shown (nat_le 10 (length (sealed_text keys own nonce ends plain))) (sealed_text keys own nonce ends plain)

sealed_class : (keys : Keys) (own nonce : List ℕ) (ends : SealEnds) (plain : List ℕ) → is_class (sealed_text keys own nonce ends plain) 0x98 ≡ true
unfolding sealed_text
sealed_class keys own nonce ends plain = refl

pub shows_none : (keys : Keys) (ends : SealEnds) (nonces : List (List ℕ)) (number : ℕ) (plain payload : List ℕ) → IsSealed keys ends nonces number plain payload → nonce_in payload ≡ None
shows_none keys ends nonces number plain payload is = ap nonce_in is.text ∙ sealed_none keys is.own is.nonce ends plain

pub get_shows_none : (payload : List ℕ) → payload ≡ form NonceGet → nonce_in payload ≡ None
get_shows_none payload is = ap nonce_in is

-- a payload of Security 0, as the air counts it
pub sealed_is_security : (keys : Keys) (ends : SealEnds) (nonces : List (List ℕ)) (number : ℕ) (plain payload : List ℕ) → IsSealed keys ends nonces number plain payload → is_class payload 0x98 ≡ true
sealed_is_security keys ends nonces number plain payload is = ap (λ (p : List ℕ). is_class p 0x98) is.text ∙ sealed_class keys is.own is.nonce ends plain

pub offer_is_security : (nonces : List (List ℕ)) (number : ℕ) (payload : List ℕ) → IsOffer nonces number payload → is_class payload 0x98 ≡ true
offer_is_security nonces number payload is = ap (λ (p : List ℕ). is_class p 0x98) is.text
