-- What stands in the text of a Nonce Report and of a sealed message.
use Rattle.std.proofs.Common.{◌≡◌, ℕ, suc, ◌+◌, ◌-◌, ◌≤◌, true, false, nat_lt, List, ◌∷◌, ◌++◌, length, get_or, refl, ap, ◌∙◌, subst, arith}
use Rattle.std.specs.Prelude.{slice_index, nat_le, Ok}
use Rattle.std.proofs.lemmas.Bool.Decides.{nat_tests}
use Rattle.std.proofs.lemmas.List.{get_or-append_right}
use Rattle.s0_crypto.specs.declared.key_pair.Keys.{Keys}
use Rattle.s0_crypto.specs.declared.ends.SealEnds.{SealEnds}
use Rattle.s0_crypto.specs.Seal.{code_of}
use Rattle.s0_crypto.proofs.MessageLemmas.{length_of_layout}
use Rattle.s0_crypto.proofs.OpeningLemmas.{length-code_of}
use Rattle.s0_crypto.proofs.StreamLemmas.{length-ofb_from}
use Rattle.class_info.specs.declared.message.InfoMessage.TheVariants.{NonceGet, NonceReport}
use Rattle.class_info.specs.InfoReading.{info_at}
use Rattle.class_info.specs.InfoSpelling.{form}
use Rattle.class_info.proofs.InfoLaws.{again}
use Rattle.class_info.proofs.FormLaws.{form_spells}
use Rattle.class_info.proofs.OwnLaws.{written_wholes}
use Rattle.encap.specs.Opening.{begins_with}
use Rattle.s0_crypto.specs.Sealing.{cipher_text_of, sealed_text}
use Rattle.proof_messages.specs.Payloads.{report_of}
use Rattle.host_model.proofs.Pumps.{and_false as never_ends}

-- ---- a Nonce Report

pub report_form : (nonce : List ℕ) → form (NonceReport nonce) ≡ report_of nonce
report_form nonce = ap (λ (l : List ℕ). 0x98 ∷ 0x80 ∷ l) (written_wholes nonce)

pub report_read : (nonce : List ℕ) → length nonce ≡ 8 → info_at (report_of nonce) ≡ Ok (NonceReport nonce)
report_read nonce eight = subst (λ (text : List ℕ). info_at text ≡ Ok (NonceReport nonce)) (report_form nonce) (again (form (NonceReport nonce)) (NonceReport nonce) (form_spells (NonceReport nonce) eight))

pub report_open : (nonce : List ℕ) → begins_with (report_of nonce) 0x98 0x81 ≡ false
report_open nonce = never_ends _

pub get_read : info_at (form NonceGet) ≡ Ok NonceGet
get_read = again (form NonceGet) NonceGet (form_spells NonceGet tt)

-- ---- a sealed message

named_at : (own text code : List ℕ) (named : ℕ) → length own ≡ 8 → slice_index (0x98 ∷ 0x81 ∷ (own ++ (text ++ named ∷ code))) (length text + 10) ≡ named
named_at own text code named eight =
    let here : length text + 10 ≡ suc (suc (length text + 8)) = omega arith in
    ap (λ (n : ℕ). get_or (0x98 ∷ 0x81 ∷ (own ++ (text ++ named ∷ code))) n 0) here
    ∙ (get_or-append_right own (text ++ named ∷ code) 8 (length text + 8) 0 eight (omega arith)
    ∙ (ap (λ (n : ℕ). get_or (text ++ named ∷ code) n 0) (let same : length text + 8 - 8 ≡ length text = omega arith in same)
    ∙ (get_or-append_right text (named ∷ code) (length text) (length text) 0 refl (omega arith)
    ∙ ap (λ (n : ℕ). get_or (named ∷ code) n 0) (let same : length text - length text ≡ 0 = omega arith in same))))

pub record IsText (nonce text : List ℕ) : Type 0 where
  pub begins : begins_with text 0x98 0x81 ≡ true
  pub long : nat_lt (length text) 20 ≡ false
  pub many : 20 ≤ length text
  pub named : slice_index text (length text - 9) ≡ slice_index nonce 0

pub is_text : (keys : Keys) (own nonce : List ℕ) (ends : SealEnds) (plain : List ℕ) → length own ≡ 8 → IsText nonce (sealed_text keys own nonce ends plain)
unfolding sealed_text
is_text keys own nonce ends plain eight =
    let text : List ℕ = cipher_text_of keys own nonce plain in
    let code : List ℕ = code_of keys (own ++ nonce) ends text in
    let bytes : List ℕ = 0x98 ∷ 0x81 ∷ (own ++ (text ++ slice_index nonce 0 ∷ code)) in
    let last : length code ≡ 8 = length-code_of keys (own ++ nonce) ends text in
    let size : length bytes ≡ length text + 19 = length_of_layout own text code (slice_index nonce 0) eight last refl in
    let more : length text ≡ suc (length plain) = length-ofb_from keys.encrypt (own ++ nonce) 0 (0 ∷ plain) in
    let many : 20 ≤ length bytes = omega (arith, size, more) in
    let two : nat_le 2 (length bytes) ≡ true = grind (arith, nat_tests) in
    let place : length bytes - 9 ≡ length text + 10 = omega (arith, size) in
    record {
      begins = rw two refl;
      long = grind (arith, nat_tests);
      many = many;
      named = ap (λ (n : ℕ). slice_index bytes n) place ∙ named_at own text code (slice_index nonce 0) eight;
    }
