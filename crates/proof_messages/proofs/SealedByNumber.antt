-- What the host seals, and what it opens.
use Rattle.std.proofs.Common.{◌≡◌, ℕ, suc, ◌+◌, Bool, true, false, if◌then◌else◌, Option, Some, None, List, ◌∷◌, ◌++◌, length, refl, ap, sym, ◌∙◌, subst, inl, inr, arith, length-append}
use Rattle.std.specs.Prelude.{slice_index, nat_le}
use Rattle.std.proofs.lemmas.Bool.Decides.{nat_tests}
use Rattle.std.proofs.lemmas.Bool.{eq-eqb}
use Rattle.s0_crypto.specs.declared.key_pair.Keys.{Keys}
use Rattle.s0_crypto.specs.declared.ends.SealEnds.{SealEnds}
use Rattle.s0_crypto.specs.Seal.{Seals, code_of}
use Rattle.s0_crypto.specs.Opening.{sender_nonce_in, IsGood}
use Rattle.s0_crypto.proofs.MessageLemmas.{nonce_of_layout}
use Rattle.s0_crypto.proofs.OpeningLemmas.{good_from_seals, length-code_of, one_plain_text}
use Rattle.s0_crypto.proofs.StreamLemmas.{length-ofb_from}
use Rattle.s0_session.specs.Nonces.{account_of, live_of, with_first, nonce_spent}
use Rattle.s0_crypto.specs.Sealing.{cipher_text_of, sealed_text}
use Rattle.s0_crypto.proofs.SealingLemmas.{sealed_is}
use Rattle.host_heard.specs.Telling.{heard_at}
use Rattle.host_heard.specs.declared.payload.Heard.{Heard}
use Rattle.host_heard.specs.declared.payload.Heard.TheVariants.{Messages, Sealed}
use Rattle.host_heard.specs.declared.told.Told.{Told}
use Rattle.host_node.specs.State.{NodeState, SealsText, ends_to}
use Rattle.host_model.specs.State.{HostState}
use Rattle.host_model.specs.Events.{HostEvent, Spends}
use Rattle.host_model.specs.After.{after}
use Rattle.host_model.specs.Taking.{AreTaken, named_by, ends_from, IsOpened, SealedEvents, PayloadEvents}
use Rattle.proof_course.specs.HostNonces as host
use Rattle.proof_course.specs.NonceLaws.{NamesGiven}
use Rattle.proof_messages.specs.Numbers.{IsNonce, HasGiven}
use Rattle.proof_messages.specs.Payloads.{IsSealed}
use Rattle.proof_messages.specs.Opened.{OpensAs}
use Rattle.proof_messages.proofs.NonceNumbers.{found_live, none_named}
use Rattle.host_model.proofs.Taken.{same_either as same_sides}
use Rattle.proof_messages.proofs.Texts.{IsText, is_text}
use Rattle.proof_messages.proofs.LockSessions.{some_same}
use Rattle.proof_messages.proofs.DeviceReports.{same_messages as messages_same}

-- ---- what a sealed text is

seals_of : (keys : Keys) (own nonce : List ℕ) (ends : SealEnds) (plain : List ℕ) → Seals keys own nonce ends plain (sealed_text keys own nonce ends plain)
unfolding sealed_text
seals_of keys own nonce ends plain = record { cipher_text = cipher_text_of keys own nonce plain; enciphers = refl; layout = refl }

record IsMade (keys : Keys) (nonce : List ℕ) (ends : SealEnds) (plain payload : List ℕ) : Type 0 where
  text : IsText nonce payload
  good : IsGood keys nonce ends payload
  only : (other : List ℕ) → Seals keys (sender_nonce_in payload) nonce ends other payload → other ≡ plain

made : (keys : Keys) (ends : SealEnds) (nonces : List (List ℕ)) (number : ℕ) (plain payload : List ℕ) (is : IsSealed keys ends nonces number plain payload) → IsMade keys is.nonce ends plain payload
made keys ends nonces number plain payload is =
    let seals : Seals keys is.own is.nonce ends plain payload = subst (λ (p : List ℕ). Seals keys is.own is.nonce ends plain p) (sym is.text) (seals_of keys is.own is.nonce ends plain) in
    let own_is : sender_nonce_in payload ≡ is.own = nonce_of_layout is.own seals.cipher_text (code_of keys (is.own ++ is.nonce) ends seals.cipher_text) (slice_index is.nonce 0) is.eight seals.layout in
    record {
      text = subst (λ (p : List ℕ). IsText is.nonce p) (sym is.text) (is_text keys is.own is.nonce ends plain is.eight);
      good = good_from_seals keys is.own is.nonce ends plain payload is.eight seals;
      only = λ other x. one_plain_text keys is.own is.nonce ends other plain payload is.eight (ap length own_is ∙ is.eight) x seals;
    }

-- ---- the host opens it

named_first : (nonce payload : List ℕ) (live : Option (List ℕ)) → IsText nonce payload → named_by payload live ≡ with_first live (slice_index nonce 0)
named_first nonce payload None text = refl
named_first nonce payload (Some own) text =
    let long : nat_le 20 (length payload) ≡ true = grind (arith, nat_tests, text.many) in
    rw (long, text.named, same_sides (slice_index nonce 0) (slice_index own 0)) refl

heard_sealed : (nonce payload : List ℕ) → IsText nonce payload → heard_at payload ≡ Sealed
unfolding heard_at
heard_sealed nonce payload text = rw text.begins refl

opened_so : (h : HostState) (n : ℕ) (nonce plain payload : List ℕ) (messages : List Told) (events : List HostEvent) → IsMade h.keys nonce (ends_from n) plain payload → heard_at plain ≡ Messages messages
    → IsOpened h n nonce payload events → OpensAs h n payload messages events true
opened_so h n nonce plain payload messages events is heard (inl unkept) = inl unkept
opened_so h n nonce plain payload messages events is heard (inr (inl (inl bad, e))) = absurd (bad is.good)
opened_so h n nonce plain payload messages events is heard (inr (inl (inr unread, e))) = absurd (unread.untold messages (ap heard_at (is.only unread.plain unread.seals) ∙ heard))
opened_so h n nonce plain payload messages events is heard (inr (inr (told, rest, opens, e, taken))) =
    let same : told ≡ messages = messages_same told messages (sym opens.tells ∙ (ap heard_at (is.only opens.plain opens.seals) ∙ heard)) in
    inr (rest, e, subst (λ (l : List Told). AreTaken (after h (Spends n)) n payload true l rest) same taken)

pub sealed_opens : (h : HostState) (n : ℕ) (nonces : List (List ℕ)) (c : host.Nonces) (number : ℕ) (plain payload : List ℕ) (messages : List Told) (events : List HostEvent)
    → HasGiven nonces c.given c.is_live (account_of h.nonces n) → IsSealed h.keys (ends_from n) nonces number plain payload → NamesGiven c number → heard_at plain ≡ Messages messages
    → PayloadEvents h n payload (heard_at payload) events → OpensAs h n payload messages events (host.names c number)
sealed_opens h n nonces c number plain payload messages events has is itself heard does = by (host.names c number) refl
  where
    so : IsMade h.keys is.nonce (ends_from n) plain payload
    so = made h.keys (ends_from n) nonces number plain payload is

    sealed : SealedEvents h n payload (named_by payload (live_of h.nonces n)) events
    sealed = subst (λ (k : Heard). PayloadEvents h n payload k events) (heard_sealed is.nonce payload so.text) does

    first : SealedEvents h n payload (nonce_spent (account_of h.nonces n) (slice_index is.nonce 0)) events
    first = subst (λ (o : Option (List ℕ)). SealedEvents h n payload o events) (named_first is.nonce payload (live_of h.nonces n) so.text) sealed

    by : (b : Bool) → host.names c number ≡ b → OpensAs h n payload messages events b
    by false e = subst (λ (o : Option (List ℕ)). SealedEvents h n payload o events) (none_named nonces c.given number c.is_live (account_of h.nonces n) is.nonce has is.is e) first
    by true e =
        let live : live_of h.nonces n ≡ Some is.nonce = found_live nonces c.given number c.is_live (account_of h.nonces n) is.nonce has is.is itself e in
        let found : with_first (live_of h.nonces n) (slice_index is.nonce 0) ≡ Some is.nonce =
        ap (λ (o : Option (List ℕ)). with_first o (slice_index is.nonce 0)) live ∙ ap (λ (b : Bool). if b then Some is.nonce else None) (eq-eqb (slice_index is.nonce 0) (slice_index is.nonce 0) refl) in
        opened_so h n is.nonce plain payload messages events so heard (subst (λ (o : Option (List ℕ)). SealedEvents h n payload o events) found first)

-- ---- the host seals

pub layout_length : (own text code : List ℕ) (named : ℕ) → length (0x98 ∷ 0x81 ∷ (own ++ (text ++ named ∷ code))) ≡ length own + (length text + length code) + 3
layout_length own text code named =
    let outer = length-append own (text ++ named ∷ code) in
    let inner = length-append text (named ∷ code) in
    omega (arith, outer, inner)

pub sealed_length : (keys : Keys) (own nonce : List ℕ) (ends : SealEnds) (plain bytes : List ℕ) → Seals keys own nonce ends plain bytes → length bytes ≡ length own + length plain + 12
sealed_length keys own nonce ends plain bytes s =
    let code : List ℕ = code_of keys (own ++ nonce) ends s.cipher_text in
    let whole = layout_length own s.cipher_text code (slice_index nonce 0) in
    let size : length bytes ≡ length own + (length s.cipher_text + length code) + 3 = ap length s.layout ∙ whole in
    let text : length s.cipher_text ≡ suc (length plain) = ap length s.enciphers ∙ length-ofb_from keys.encrypt (own ++ nonce) 0 (0 ∷ plain) in
    let last : length code ≡ 8 = length-code_of keys (own ++ nonce) ends s.cipher_text in
    omega (arith, size, text, last)

pub seals_waiting : (n : NodeState) (keys : Keys) (own other nonce another text : List ℕ) (nonces : List (List ℕ)) (number : ℕ) → SealsText n keys own nonce text → SealsText n keys other another text
    → length other ≡ 8 → IsNonce nonces number nonce → (plain : List ℕ) × ((n.pending ≡ Some plain) × IsSealed keys (ends_to n.node) nonces number plain text)
seals_waiting n keys own other nonce another text nonces number x y eight is =
    let plain : x.plain ≡ y.plain = some_same x.plain y.plain (sym x.is_pending ∙ y.is_pending) in
    let one = sealed_length keys own nonce (ends_to n.node) x.plain text x.seals in
    let two = sealed_length keys other another (ends_to n.node) y.plain text y.seals in
    let long : length x.plain ≡ length y.plain = ap length plain in
    (x.plain, (x.is_pending, record { own = own; nonce = nonce; eight = omega (arith, one, two, long, eight); is = is; text = sealed_is keys own nonce (ends_to n.node) x.plain text x.seals }))
