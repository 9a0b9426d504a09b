use Rattle.std.proofs.Common.{◌≡◌, ℕ, ◌+◌, ◌≤◌, List, ap, ◌∙◌, ◌++◌, ◌∷◌, length, take, slice_index, arith, length-append, length-take}
use Rattle.s0_crypto.specs.declared.key_pair.Keys.{Keys}
use Rattle.s0_crypto.specs.declared.ends.SealEnds.{SealEnds}
use Rattle.s0_crypto.proofs.StreamLemmas.{length-ofb_from}
use Rattle.s0_crypto.specs.Modes.{ofb, cbc_mac}
use Rattle.s0_crypto.specs.Seal.{covered, code_of, Seals}
use Rattle.s0_crypto.proofs.MessageLemmas.{layout_built}
use Rattle.s0_crypto.proofs.sealing.seal.Goals as goal

-- a code has at most eight bytes
code_bytes : (keys : Keys) (vector : List ℕ) (ends : SealEnds) (text : List ℕ) → length (code_of keys vector ends text) ≤ 8
unfolding code_of
code_bytes keys vector ends text = omega (arith, length-take {A = ℕ})

pub returns-clause-seals : goal.returns-clause-seals
unfolding code_of
returns-clause-seals c = record {
  cipher_text = c.in_ok-text.text;
  enciphers = c.in_ok-text.ensures ∙ ap (λ v. ofb c.args.keys.now.encrypt v (0 ∷ c.args.plain.now)) c.join-vector.ensures;
  layout =
      layout_built c.args.sender_nonce c.in_ok-text.text c.code-code.result (slice_index c.args.receiver_nonce 0)
      c.new-bytes.ensures c.in_ok-extend.ensures.ok c.in_ok-extend-2.ensures.ok
      (c.in_ok-extend-3.ensures.ok ∙ ap (λ t. c.extend-2.new.self ++ t) c.as_slice-cipher_text.ensures)
      c.in_ok-push.ensures.ok c.in_ok-extend-4.ensures.ok
      ∙ ap (λ code. 0x98 ∷ 0x81 ∷ (c.args.sender_nonce ++ (c.in_ok-text.text ++ slice_index c.args.receiver_nonce 0 ∷ code)))
      (c.code-code.ensures ∙ ap (λ v. take 8 (cbc_mac c.args.keys.now.code (covered v c.args.ends.now c.as_slice-cipher_text.result.now))) c.join-vector.ensures
      ∙ ap (λ t. take 8 (cbc_mac c.args.keys.now.code (covered (c.args.sender_nonce ++ c.args.receiver_nonce) c.args.ends.now t))) c.as_slice-cipher_text.ensures);
}

-- what seals is 20 bytes longer, at most
short_of_seals : {keys : Keys} {own named : List ℕ} {ends : SealEnds} {plain bytes : List ℕ} → length own ≡ 8
    → Seals keys own named ends plain bytes → length bytes ≤ length plain + 20
short_of_seals {keys} {own} {named} {ends} {plain} {bytes} eight s =
    let text : length s.cipher_text ≡ length plain + 1 = ap length s.enciphers ∙ length-ofb_from keys.encrypt (own ++ named) 0 (0 ∷ plain) ∙ omega arith in
    let code : length (code_of keys (own ++ named) ends s.cipher_text) ≤ 8 = code_bytes keys (own ++ named) ends s.cipher_text in
    let whole : length bytes ≡ length (0x98 ∷ 0x81 ∷ (own ++ (s.cipher_text ++ slice_index named 0 ∷ code_of keys (own ++ named) ends s.cipher_text))) = ap length s.layout in
    let all : length bytes ≡ 2 + (length own + (length s.cipher_text + (1 + length (code_of keys (own ++ named) ends s.cipher_text)))) = whole ∙ simp length-append (omega arith) in
    omega arith

pub returns-clause-short : goal.returns-clause-short
returns-clause-short c = short_of_seals (omega arith) (returns-clause-seals c)
