-- Nothing is sealed in the first; and two bytes are no seal.
use Rattle.std.proofs.Common.{◌≡◌, ℕ, Bool, List, [], ◌∷◌, ◌++◌, refl}
use Rattle.std.specs.Prelude.{slice_index}
use Rattle.proof_transcript.proofs.Deciding.{kept}
use Rattle.proof_transcript.proofs.Computing.{computing}
use Rattle.s0_crypto.specs.declared.key_pair.Keys.{Keys}
use Rattle.s0_crypto.specs.Opening.{sender_nonce_in}
use Rattle.s0_crypto.specs.Seal.{code_of}
use Rattle.host_heard.specs.declared.told.Told.{Told}
use Rattle.proof_transcript.specs.law_transcript.Nodes.{controller}
use Rattle.proof_transcript.specs.law_host.Worked.{begun}
use Rattle.proof_known.specs.Noted.{IsOpenedTo, may_note}
use Rattle.proof_known.specs.WorkedNotes.{ended_by_nothing}
use Rattle.proof_known.proofs.noted.worked_opening.Goals as goal

no_seal : (own cipher code : List ℕ) (first : ℕ) → 152 ∷ 129 ∷ [] ≡ 152 ∷ 129 ∷ (own ++ (cipher ++ first ∷ code)) → ⊥
no_seal [] [] code first is = cc
no_seal [] (byte ∷ cipher) code first is = cc
no_seal (byte ∷ own) cipher code first is = cc

no_opening : (keys : Keys) (node : ℕ) (such : Told → Bool) → IsOpenedTo keys node (152 ∷ 129 ∷ []) such → ⊥
no_opening keys node such opens =
    let own : List ℕ = sender_nonce_in (152 ∷ 129 ∷ []) in
    no_seal own opens.seals.cipher_text (code_of keys (own ++ opens.nonce) (record { sender = node; receiver = controller }) opens.seals.cipher_text) (slice_index opens.nonce 0) opens.seals.layout

pub returns-clause-openly : goal.returns-clause-openly
unfolding computing
returns-clause-openly c = λ keys. (tt, (tt, (tt, (tt, (tt, ((tt, tt), tt))))))

pub returns-clause-anything : goal.returns-clause-anything
unfolding computing
returns-clause-anything c = kept may_note (begun ++ ended_by_nothing) refl

pub returns-clause-nothing : goal.returns-clause-nothing
unfolding computing
returns-clause-nothing c = λ keys law. no_opening keys 2 _ law.1.1.1.1.1.0.0
