-- The one text that is sealed answers the second Nonce Get; no other request seals anything.
use Rattle.std.proofs.Common.{[], ◌∷◌, ◌++◌, List, ℕ, refl, sym, inl}
use Rattle.std.specs.Prelude.{codes, drop, take}
use Rattle.s0_crypto.specs.Modes.{ofb}
use Rattle.s0_crypto.specs.Seal.{Seals}
use Rattle.s0_crypto.specs.Sealing.{keys_of, sealed_text}
use Rattle.zw_text.specs.declared.entry.Entry.{Entry}
use Rattle.law_transcript.specs.Units.{Carried}
use Rattle.law_transcript.specs.Worked.{bytes, network_key, sealed_exchange}
use Rattle.law_transcript.proofs.Deciding.{kept_after}
use Rattle.law_transcript.proofs.Sealing.{sealed_set, set_code, set_ends, set_nonce, set_own, set_plain, set_with}
use Rattle.proof_notes.specs.law_time.WorkedUnits.{by_host}
use Rattle.proof_notes.proofs.Computing.{computing}
use Rattle.proof_notes.proofs.Lists.{each-append}
use Rattle.proof_nonces.specs.Sealing.{HasAsked, IsSealedSo, IsToldSince, MaySeal}
use Rattle.proof_nonces.proofs.Unsealed.{all_may, all_nothing, is_unsealed}
use Rattle.proof_nonces.proofs.worked.worked_seals.Goals as goal

-- up to the second Nonce Get, from there up to the text, the text, and what follows
abbrev unit : List ℕ
unit = bytes (codes "010900130402984025021C")

abbrev upto : List Entry
upto = take 35 sealed_exchange ++ by_host (codes "010900130402984025021C") ∷ []

abbrev since : List Entry
since = take 13 (drop 36 sealed_exchange)

abbrev front : List Entry
front = take 49 sealed_exchange

abbrev sealed : Entry
sealed = by_host (codes "01220013041B98816B71E54E0F8EE3186CCEA9D132AB2C95018A573A88D6BE287E25038F")

abbrev rest : List Entry
rest = drop 50 sealed_exchange

abbrev text : Carried
text = record { node = 4; payload = set_with set_code }

seals : Seals (keys_of network_key) set_own set_nonce set_ends set_plain (set_with set_code)
unfolding sealed_text
seals = record { cipher_text = ofb (keys_of network_key).encrypt (set_own ++ set_nonce) (0 ∷ set_plain); enciphers = refl; layout = sym sealed_set }

question : HasAsked 4 front
unfolding computing
question = record {
  before = take 35 sealed_exchange;
  unit = unit;
  since = since;
  are = refl;
  new = refl;
  asks = inl refl;
  unused = all_nothing 4 upto since (kept_after is_unsealed upto since refl);
}

told : IsToldSince (keys_of network_key) 4 upto since set_nonce
unfolding computing
told = record {
  first = since;
  later = [];
  are = refl;
  one = record { node = 4; payload = 0x98 ∷ 0x80 ∷ set_nonce };
  brought = inl refl;
  of = refl;
  tells = (refl, tt);
}

so : IsSealedSo (keys_of network_key) front text
unfolding computing question
so = record { question = question; own = set_own; nonce = set_nonce; text = set_plain; own_eight = refl; seals = seals; told = told }

first_may : MaySeal (keys_of network_key) front sealed
unfolding computing
first_may = λ new. ((λ is. so), tt)

pub returns : goal.returns
unfolding computing
returns c =
    each-append (MaySeal (keys_of network_key)) [] front (sealed ∷ rest) (all_may (keys_of network_key) [] front (kept_after is_unsealed [] front refl))
    (first_may, all_may (keys_of network_key) (front ++ sealed ∷ []) rest (kept_after is_unsealed (front ++ sealed ∷ []) rest refl))
