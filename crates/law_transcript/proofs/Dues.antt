-- What is not due: a payload that is no message of a session, begins as no other text and was asked for by no line.
use Rattle.std.proofs.Common.{◌≡◌, ◌⊎◌, ℕ, ◌+◌, ◌*◌, ◌==◌, Bool, false, List, [], ◌∷◌, ◌++◌, length, refl, inl, inr, ap, sym, subst, ◌∙◌, arith}
use Rattle.std.specs.Prelude.{zero, suc, ◌<◌, true, take, drop, slice_index, if◌then◌else◌}
use Rattle.std.proofs.Math.Seq.{take-append_seam}
use Rattle.std.proofs.lemmas.List.{length-append}
use Rattle.std.proofs.lemmas.List.FromFn.{length-map-range_with_len}
use Rattle.s0_crypto.specs.declared.ends.SealEnds.{SealEnds}
use Rattle.s0_crypto.specs.declared.key_pair.Keys.{Keys}
use Rattle.s0_crypto.specs.Modes.{ofb, ofb_from}
use Rattle.s0_crypto.specs.Seal.{code_of}
use Rattle.s0_crypto.specs.Sealing.{keys_of, sealed_text}
use Rattle.s0_crypto.proofs.OpeningLemmas.{length-code_of}
use Rattle.transport_segments.specs.Segment.{segment_text}
use Rattle.transport_segments.specs.Parts.{slice_at}
use Rattle.law_transcript.specs.Worked.{network_key}
use Rattle.std.proofs.lemmas.Bool.Decides.{nat_tests}
use Rattle.zw_text.specs.declared.entry.Entry.{Entry}
use Rattle.zw_text.specs.Transcript.{sessions}
use Rattle.law_transcript.specs.Lists.{Has}
use Rattle.law_transcript.specs.Payloads.{IsDue, IsOfSession, IsAskedFor, IsNonceReport, nonce_get, no_more_information}
use Rattle.law_transcript.specs.Units.{Carried}

-- the class and the command that bytes begin with, as one number
abbrev pub head_of : List ℕ → ℕ
head_of [] = 0
head_of (class ∷ []) = class
head_of (class ∷ command ∷ rest) = 256 * class + command

pub differ : (a b : ℕ) → (a == b) ≡ false → a ≡ b → ⊥
differ a b other is = grind (arith, nat_tests)

-- texts that a number tells apart
pub unlike : (number : List ℕ → ℕ) (one other : List ℕ) → (number one == number other) ≡ false → one ≡ other → ⊥
unlike number one other differs is = differ (number one) (number other) differs (ap number is)

pub not_due : (listing : List Entry → ℕ → List ℕ) (key : List ℕ) (past : List Entry) (carried : Carried)
    → (IsOfSession listing key past carried (length (sessions carried.node past)) → ⊥) → (carried.payload ≡ nonce_get → ⊥)
    → (IsNonceReport key past carried → ⊥) → (carried.payload ≡ no_more_information → ⊥) → (IsAskedFor listing past carried → ⊥)
    → IsDue listing key past carried → ⊥
not_due listing key past carried message get report more asked due = elim due [
  | inl of ↦ message of
  | inr (inl of) ↦ get of
  | inr (inr (inl of)) ↦ report of
  | inr (inr (inr (inl of))) ↦ more of
  | inr (inr (inr (inr of))) ↦ asked of
]

-- the payload begins as no Nonce Get, Nonce Report or No More Information
pub no_other : (listing : List Entry → ℕ → List ℕ) (key : List ℕ) (past : List Entry) (carried : Carried)
    → (head_of carried.payload == 0x9840) ≡ false → (head_of carried.payload == 0x9880) ≡ false → (head_of carried.payload == 0x8408) ≡ false
    → (IsOfSession listing key past carried (length (sessions carried.node past)) → ⊥) → (IsAskedFor listing past carried → ⊥)
    → IsDue listing key past carried → ⊥
no_other listing key past carried get report more message asked =
    not_due listing key past carried message (λ of. differ _ _ get (ap head_of of)) (λ of. differ _ _ report (ap head_of of.text))
    (λ of. differ _ _ more (ap head_of of)) asked

-- ---- messages of sessions

take_eight : (own rest : List ℕ) → length own ≡ 8 → take 8 (own ++ rest) ≡ own
take_eight own rest eight = subst (λ (count : ℕ). take count (own ++ rest) ≡ own) eight (take-append_seam own rest)

-- a message that is sealed under a nonce of eight bytes for this one shows that nonce
pub sealed_as : (own nonce shown given plain payload : List ℕ) → length own ≡ 8 → take 8 (drop 2 payload) ≡ shown → given ≡ nonce
    → payload ≡ sealed_text (keys_of network_key) own nonce (record { sender = 1; receiver = 4 }) plain
    → payload ≡ sealed_text (keys_of network_key) shown given (record { sender = 1; receiver = 4 }) plain
unfolding sealed_text
sealed_as own nonce shown given plain payload eight shows gives text =
    let is : own ≡ shown = sym (take_eight own _ eight) ∙ sym (ap (λ p. take 8 (drop 2 p)) text) ∙ shows in
    text ∙ ap (λ (own : List ℕ). sealed_text (keys_of network_key) own nonce (record { sender = 1; receiver = 4 }) plain) is
    ∙ ap (λ (nonce : List ℕ). sealed_text (keys_of network_key) shown nonce (record { sender = 1; receiver = 4 }) plain) (sym gives)

-- the parts of a sealed message have their lengths
cipher_length : (key vector text : List ℕ) → length (ofb key vector text) ≡ length text
unfolding ofb_from
cipher_length key vector text = length-map-range_with_len _ 0 (length text)

all_lengths : (own text code plain : List ℕ) (byte : ℕ) → length own ≡ 8 → length text ≡ suc (length plain) → length code ≡ 8
    → suc (suc (length (own ++ (text ++ byte ∷ code)))) ≡ length plain + 20
all_lengths own text code plain byte eight of_text of_code = omega (arith, eight, of_text, of_code, length-append own (text ++ byte ∷ code), length-append text (byte ∷ code))

sealed_size : (keys : Keys) (own nonce : List ℕ) (ends : SealEnds) (plain : List ℕ) → length own ≡ 8 → length (sealed_text keys own nonce ends plain) ≡ length plain + 20
unfolding sealed_text
sealed_size keys own nonce ends plain eight =
    let cipher : List ℕ = ofb keys.encrypt (own ++ nonce) (0 ∷ plain) in
    all_lengths own cipher (code_of keys (own ++ nonce) ends cipher) plain (slice_index nonce 0) eight (cipher_length keys.encrypt (own ++ nonce) (0 ∷ plain))
    (length-code_of keys (own ++ nonce) ends cipher)

-- so one of seven bytes has no 28 when sealed
pub sealed_length : (own nonce plain payload : List ℕ) → length own ≡ 8 → length plain ≡ 7 → length payload ≡ 28
    → payload ≡ sealed_text (keys_of network_key) own nonce (record { sender = 1; receiver = 4 }) plain → ⊥
sealed_length own nonce plain payload eight seven long text =
    let ends : SealEnds = record { sender = 1; receiver = 4 } in
    let size = sealed_size (keys_of network_key) own nonce ends plain eight in
    let same : length payload ≡ length (sealed_text (keys_of network_key) own nonce ends plain) = ap (λ (p : List ℕ). length p) text in
    omega (arith, long, same, size, seven)

-- ---- what a node has sealed

-- what does not begin as a Security message was not sealed
pub not_sealed : (one payload own nonce plain : List ℕ) → Has (one ∷ []) payload → (head_of one == 0x9881) ≡ false
    → payload ≡ sealed_text (keys_of network_key) own nonce (record { sender = 4; receiver = 1 }) plain → ⊥
unfolding sealed_text
not_sealed one payload own nonce plain (inl same) other text = differ (head_of one) 0x9881 other (ap head_of same ∙ ap head_of text)
not_sealed one payload own nonce plain (inr never) other text = never

empty_is : (plain : List ℕ) → length plain ≡ 0 → plain ≡ []
empty_is [] none = refl
empty_is (byte ∷ more) none = absurd (omega (arith, none))

-- and in twenty bytes nothing is
pub sealed_nothing : (one payload own nonce plain : List ℕ) → Has (one ∷ []) payload → length one ≡ 20 → length own ≡ 8
    → payload ≡ sealed_text (keys_of network_key) own nonce (record { sender = 4; receiver = 1 }) plain → plain ≡ []
sealed_nothing one payload own nonce plain (inl same) twenty eight text =
    let ends : SealEnds = record { sender = 4; receiver = 1 } in
    let size = sealed_size (keys_of network_key) own nonce ends plain eight in
    let is : length one ≡ length (sealed_text (keys_of network_key) own nonce ends plain) = ap (λ (p : List ℕ). length p) (same ∙ text) in
    empty_is plain (omega (arith, twenty, is, size))
sealed_nothing one payload own nonce plain (inr never) twenty eight text = absurd never

-- ---- segments

-- a segment begins with the class of Transport Service
pub is_cut : (id size offset : ℕ) (payload : List ℕ) → slice_index (segment_text id size offset payload) 0 ≡ 85
is_cut id size offset payload = begins (offset == 0) _ _ _
  where
    begins : (first : Bool) (one other check : List ℕ) → slice_index ((if first then 85 ∷ one else 85 ∷ other) ++ check) 0 ≡ 85
    begins true one other check = refl
    begins false one other check = refl

at_most_one : (place : ℕ) → 39 * place < 47 → (0 ≡ place) ⊎ (1 ≡ place)
at_most_one zero within = inl refl
at_most_one (suc zero) within = inr refl
at_most_one (suc (suc place)) within = absurd (omega (arith, within))

-- a segment of a message of 47 bytes is one of two
pub cut_at : (message : List ℕ) (session : ℕ) (payload : List ℕ) (place : ℕ) → 39 * place < 47
    → payload ≡ segment_text session 47 (39 * place) (slice_at message place)
    → (payload ≡ segment_text session 47 0 (slice_at message 0)) ⊎ (payload ≡ segment_text session 47 39 (slice_at message 1))
cut_at message session payload place within text = elim (at_most_one place within) [
  | inl first ↦ inl (subst (λ (place : ℕ). payload ≡ segment_text session 47 (39 * place) (slice_at message place)) (sym first) text)
  | inr second ↦ inr (subst (λ (place : ℕ). payload ≡ segment_text session 47 (39 * place) (slice_at message place)) (sym second) text)
]
