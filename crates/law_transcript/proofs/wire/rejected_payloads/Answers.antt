use Rattle.std.proofs.Common.{◌≡◌, ℕ, suc, ◌*◌, List, [], ◌∷◌, length, slice_index, refl, inl, inr, ap, subst, ◌∙◌, arith}
use Rattle.std.specs.Prelude.{replicate, take, codes, ⊤}
use Rattle.class_info.specs.InfoReading.{nonce_at}
use Rattle.s0_crypto.specs.Sealing.{sealed_text}
use Rattle.host_heard.specs.Telling.{heard_at}
use Rattle.host_heard.specs.declared.told.Told.{Told}
use Rattle.host_heard.specs.declared.told.Told.TheVariants.{NonceGet, NonceReport}
use Rattle.law_transcript.specs.Lists.{Has}
use Rattle.law_transcript.specs.Nodes.{listing_of, always}
use Rattle.law_transcript.specs.Payloads.{messages_of}
use Rattle.law_transcript.specs.Units.{Carried}
use Rattle.law_transcript.specs.Worked.{bytes, network_key, the_switch, the_lock, the_plug}
use Rattle.law_transcript.specs.WorkedCases.{the_dimmer}
use Rattle.law_transcript.specs.WorkedWrongPayloads.{sent_otherwise, sent_earlier, sent_unbegun, sent_by_new_list, sealed_unasked, sent_openly, sealed_for_none, sealed_for_longer, sealed_otherwise, sealed_longer, sent_whole, cut_otherwise, cut_of_another, cut_past_end, nonce_unasked, nonce_of_another, nonce_of_another_sealed, nonce_for_nothing, nonce_otherwise, nonce_shorter, set_unasked, set_by_new_list, set_otherwise, set_of_another, set_refused, get_unasked}
use Rattle.law_transcript.proofs.Computing.{computing}
use Rattle.law_transcript.proofs.Dues.{head_of, differ, not_due, no_other, sealed_as, sealed_length, is_cut, cut_at, not_sealed, sealed_nothing}
use Rattle.law_transcript.proofs.Sealing.{set_own, set_nonce, set_plain, sealed_set}
use Rattle.law_transcript.proofs.wire.rejected_payloads.Goals as goal

-- what an answer unfolds to see how a message is sealed
unfoldable sealing : ⊤
unfolding sealed_text nonce_at
sealing = tt

-- the nonce that a message tells
abbrev nonce_of : Told → List ℕ
nonce_of (NonceReport nonce) = nonce
nonce_of _ = []

-- nine bytes are no Nonce Report of an eight-byte nonce
shorter : (nonce : List ℕ) → 9 ≡ suc (suc (length nonce)) → length nonce ≡ 8 → ⊥
shorter nonce nine eight = omega (arith, nine, eight)

-- the message that is cut
abbrev the_message : List ℕ
the_message = 0x6C ∷ 1 ∷ 1 ∷ 0x2B ∷ 0x70 ∷ 7 ∷ 0 ∷ 0 ∷ 0x25 ∷ 1 ∷ replicate 37 1

pub returns-clause-otherwise : goal.returns-clause-otherwise
unfolding computing sealing
returns-clause-otherwise c = λ law.
    no_other (always (listing_of (the_switch ∷ []))) [] (take 3 sent_otherwise) (record { node = 2; payload = bytes (codes "6C0102032501FF") }) refl refl refl
    (λ of. differ 2 1 refl (ap (λ p. slice_index p 2) of)) (λ asked. asked) law.1.1.1.0.0

pub returns-clause-unbegun : goal.returns-clause-unbegun
unfolding computing sealing
returns-clause-unbegun c = λ law.
    no_other (always (listing_of (the_switch ∷ []))) [] (take 2 sent_unbegun) (record { node = 2; payload = bytes (codes "6C0101032501FF") }) refl refl refl
    (λ of. of) (λ asked. asked) law.1.1.0.0

pub returns-clause-sealed_unasked : goal.returns-clause-sealed_unasked
unfolding computing sealing
returns-clause-sealed_unasked c = λ law.
    no_other (always (listing_of (the_switch ∷ []))) network_key (take 4 sealed_unasked) (record { node = 2; payload = bytes (codes "98816B71E54E0F8EE3186CCEA9D132EC2C950186B8E96CB32FAC98") }) refl refl refl
    (λ of. differ 0x9881 0x6C01 refl (ap head_of of)) (λ asked. asked) law.1.1.1.1.0.0

pub returns-clause-openly : goal.returns-clause-openly
unfolding computing sealing
returns-clause-openly c = λ law.
    no_other (always (listing_of (the_lock ∷ []))) network_key (take 6 sent_openly) (record { node = 4; payload = bytes (codes "6C0101036201FF") }) refl refl refl
    (λ of. differ 0x6C01 0x9881 refl (ap head_of of.text)) (λ asked. asked) law.1.1.1.1.1.1.0.0

pub returns-clause-for_none : goal.returns-clause-for_none
unfolding computing sealing
returns-clause-for_none c = λ law.
    no_other (always (listing_of (the_lock ∷ []))) network_key (take 5 sealed_for_none) (record { node = 4; payload = bytes (codes "98816B71E54E0F8EE3186CCEA9D132AB2C95018A573A88D6BE287E") }) refl refl refl
    (λ of. elim of.given [ inl told ↦ told | inr sealed ↦ sealed.brought ]) (λ asked. asked) law.1.1.1.1.1.0.0

pub returns-clause-sealed_otherwise : goal.returns-clause-sealed_otherwise
unfolding computing sealing
returns-clause-sealed_otherwise c = λ law.
    no_other (always (listing_of (the_lock ∷ []))) network_key (take 6 sealed_otherwise) (record { node = 4; payload = bytes (codes "98816B71E54E0F8EE3186CCEA9D132AB2C95018A573A88D6BE287F") }) refl refl refl
    (λ of. differ 0x7F 0x7E refl (ap (λ p. slice_index p 26) (sealed_as of.own of.nonce set_own set_nonce set_plain _ of.own_eight refl (elim of.given [ inl told ↦ elim told [ inl same ↦ ap nonce_of same | inr never ↦ absurd never ] | inr sealed ↦ absurd (not_sealed (bytes (codes "988001ED7E19638089D9")) sealed.payload sealed.own sealed.nonce sealed.plain sealed.brought refl sealed.text) ]) of.text ∙ sealed_set))) (λ asked. asked) law.1.1.1.1.1.1.0.0

pub returns-clause-longer : goal.returns-clause-longer
unfolding computing sealing
returns-clause-longer c = λ law.
    no_other (always (listing_of (the_lock ∷ []))) network_key (take 6 sealed_longer) (record { node = 4; payload = bytes (codes "98816B71E54E0F8EE3180043E3ABAF95F9180A01007A9081702057BB") }) refl refl refl
    (λ of. sealed_length of.own of.nonce set_plain _ of.own_eight refl refl of.text) (λ asked. asked) law.1.1.1.1.1.1.0.0

pub returns-clause-whole : goal.returns-clause-whole
unfolding computing sealing
returns-clause-whole c = λ law.
    no_other (always (listing_of (the_plug ∷ []))) [] (take 5 sent_whole) (record {
      node = 8;
      payload = bytes (codes "6C01012B70070000250101010101010101010101010101010101010101010101010101010101010101010101010101");
    }) refl refl refl
    (λ of. differ 0x6C 85 refl (ap (λ p. slice_index p 0) of.text ∙ is_cut 1 47 (39 * of.place) _)) (λ asked. asked) law.1.1.1.1.1.0.0

pub returns-clause-cut_otherwise : goal.returns-clause-cut_otherwise
unfolding computing sealing
returns-clause-cut_otherwise c = λ law.
    no_other (always (listing_of (the_plug ∷ []))) [] (take 5 cut_otherwise) (record {
      node = 8;
      payload = bytes (codes "55C02F106C01012B7007000025010101010101010201010101010101010101010101010101010101010101E167");
    }) refl refl refl
    (λ of. elim (cut_at the_message 1 _ of.place of.within of.text) [ inl first ↦ differ 2 1 refl (ap (λ p. slice_index p 20) first) | inr second ↦ differ 0x55C0 0x55E0 refl (ap head_of second) ]) (λ asked. asked) law.1.1.1.1.1.0.0

pub returns-clause-past_end : goal.returns-clause-past_end
unfolding computing sealing
returns-clause-past_end c = λ law.
    no_other (always (listing_of (the_plug ∷ []))) [] (take 5 cut_past_end) (record { node = 8; payload = bytes (codes "55E02F104E43CF") }) refl refl refl
    (λ of. elim (cut_at the_message 1 _ of.place of.within of.text) [ inl first ↦ differ 0x55E0 0x55C0 refl (ap head_of first) | inr second ↦ differ 78 39 refl (ap (λ p. slice_index p 4) second) ]) (λ asked. asked) law.1.1.1.1.1.0.0

pub returns-clause-nonce_unasked : goal.returns-clause-nonce_unasked
unfolding computing sealing
returns-clause-nonce_unasked c = λ law.
    not_due (always (listing_of (the_lock ∷ []))) network_key (take 0 nonce_unasked) (record { node = 4; payload = bytes (codes "9880019E0A1249BB594F") }) (λ of. of)
    (λ get. differ 0x9880 0x9840 refl (ap head_of get)) (λ report. elim report.asked [ inl told ↦ told | inr sealed ↦ sealed.brought ])
    (λ more. differ 0x9880 0x8408 refl (ap head_of more)) (λ asked. asked) law.0.0

pub returns-clause-nonce_of_another : goal.returns-clause-nonce_of_another
unfolding computing sealing
returns-clause-nonce_of_another c = λ law.
    not_due (always (listing_of (the_lock ∷ []))) network_key (take 1 nonce_of_another) (record { node = 12; payload = bytes (codes "9880019E0A1249BB594F") }) (λ of. of)
    (λ get. differ 0x9880 0x9840 refl (ap head_of get)) (λ report. elim report.asked [ inl told ↦ told | inr sealed ↦ sealed.brought ])
    (λ more. differ 0x9880 0x8408 refl (ap head_of more)) (λ asked. asked) law.1.0.0

pub returns-clause-nonce_of_another_sealed : goal.returns-clause-nonce_of_another_sealed
unfolding computing sealing
returns-clause-nonce_of_another_sealed c = λ law.
    not_due (always (listing_of (the_lock ∷ []))) network_key (take 1 nonce_of_another_sealed) (record { node = 12; payload = bytes (codes "9880019E0A1249BB594F") }) (λ of. of)
    (λ get. differ 0x9880 0x9840 refl (ap head_of get)) (λ report. elim report.asked [ inl told ↦ told | inr sealed ↦ sealed.brought ])
    (λ more. differ 0x9880 0x8408 refl (ap head_of more)) (λ asked. asked) law.1.0.0

-- nothing tells nothing
tells_none : (plain : List ℕ) → plain ≡ [] → Has (messages_of (heard_at plain)) NonceGet → ⊥
unfolding computing
tells_none plain none tells = subst (λ (p : List ℕ). Has (messages_of (heard_at p)) NonceGet) none tells

pub returns-clause-nonce_for_nothing : goal.returns-clause-nonce_for_nothing
unfolding computing
returns-clause-nonce_for_nothing c = λ law.
    not_due (always (listing_of (the_lock ∷ []))) network_key (take 1 nonce_for_nothing) (record { node = 4; payload = bytes (codes "98800201020304050607") }) (λ of. of)
    (λ get. differ 0x9880 0x9840 refl (ap head_of get))
    (λ report. elim report.asked [
      | inl told ↦ told
      | inr sealed ↦ tells_none sealed.plain
          (sealed_nothing (bytes (codes "98810AED115731C616E72C01829AA826FC9B263F")) sealed.payload sealed.own sealed.nonce sealed.plain sealed.brought refl sealed.own_eight sealed.text) sealed.tells
    ])
    (λ more. differ 0x9880 0x8408 refl (ap head_of more)) (λ asked. asked) law.1.0.0

pub returns-clause-nonce_shorter : goal.returns-clause-nonce_shorter
unfolding computing sealing
returns-clause-nonce_shorter c = λ law.
    not_due (always (listing_of (the_lock ∷ []))) network_key (take 1 nonce_shorter) (record { node = 4; payload = bytes (codes "9880019E0A1249BB59") }) (λ of. of)
    (λ get. differ 0x9880 0x9840 refl (ap head_of get)) (λ report. shorter report.nonce (ap (λ p. length p) report.text) report.eight)
    (λ more. differ 0x9880 0x8408 refl (ap head_of more)) (λ asked. asked) law.1.0.0

pub returns-clause-set_unasked : goal.returns-clause-set_unasked
unfolding computing sealing
returns-clause-set_unasked c = λ law.
    no_other (always (listing_of (the_switch ∷ []))) [] (take 0 set_unasked) (record { node = 2; payload = bytes (codes "2501FF") }) refl refl refl
    (λ of. of) (λ asked. asked) law.0.0

pub returns-clause-set_otherwise : goal.returns-clause-set_otherwise
unfolding computing sealing
returns-clause-set_otherwise c = λ law.
    no_other (always (listing_of (the_switch ∷ []))) [] (take 1 set_otherwise) (record { node = 2; payload = bytes (codes "250100") }) refl refl refl
    (λ of. of) (λ asked. elim asked [ inl same ↦ differ 255 0 refl (ap (λ (carried : Carried). slice_index carried.payload 2) same) | inr never ↦ never ]) law.1.0.0

pub returns-clause-set_of_another : goal.returns-clause-set_of_another
unfolding computing sealing
returns-clause-set_of_another c = λ law.
    no_other (always (listing_of (the_switch ∷ []))) [] (take 1 set_of_another) (record { node = 3; payload = bytes (codes "2501FF") }) refl refl refl
    (λ of. of) (λ asked. elim asked [ inl same ↦ differ 2 3 refl (ap (λ (carried : Carried). carried.node) same) | inr never ↦ never ]) law.1.0.0

pub returns-clause-earlier : goal.returns-clause-earlier
unfolding computing sealing
returns-clause-earlier c = λ law.
    no_other (always (listing_of (the_switch ∷ []))) [] (take 7 sent_earlier) (record { node = 2; payload = bytes (codes "6C0101032501FF") }) refl refl refl
    (λ of. differ 1 2 refl (ap (λ p. slice_index p 2) of)) (λ asked. asked) law.1.1.1.1.1.1.1.0.0

pub returns-clause-new_list : goal.returns-clause-new_list
unfolding computing sealing
returns-clause-new_list c = λ law.
    no_other (always (listing_of (the_dimmer ∷ []))) [] (take 4 sent_by_new_list) (record { node = 2; payload = bytes (codes "6C018103260163") }) refl refl refl
    (λ of. differ 0x81 1 refl (ap (λ p. slice_index p 2) of)) (λ asked. asked) law.1.1.1.1.0.0

pub returns-clause-for_longer : goal.returns-clause-for_longer
unfolding computing sealing
returns-clause-for_longer c = λ law.
    no_other (always (listing_of (the_lock ∷ []))) network_key (take 6 sealed_for_longer) (record { node = 4; payload = bytes (codes "98816B71E54E0F8EE3186CCEA9D132AB2C95013AA2BEFDC2FEF985") }) refl refl refl
    (λ of. differ 0x3A 0x8A refl (ap (λ p. slice_index p 19)
    (sealed_as of.own of.nonce set_own set_nonce set_plain _ of.own_eight refl (elim of.given [ inl told ↦ elim told [ inl same ↦ ap nonce_of same | inr never ↦ absurd never ] | inr sealed ↦ absurd (not_sealed (bytes (codes "988001ED7E19638089D905")) sealed.payload sealed.own sealed.nonce sealed.plain sealed.brought refl sealed.text) ]) of.text
    ∙ sealed_set))) (λ asked. asked) law.1.1.1.1.1.1.0.0

pub returns-clause-nonce_otherwise : goal.returns-clause-nonce_otherwise
unfolding computing sealing
returns-clause-nonce_otherwise c = λ law.
    no_other (always (listing_of (the_lock ∷ []))) network_key (take 1 nonce_otherwise) (record { node = 4; payload = bytes (codes "2501FF") }) refl refl refl
    (λ of. of) (λ asked. asked) law.1.0.0

pub returns-clause-set_refused : goal.returns-clause-set_refused
unfolding computing sealing
returns-clause-set_refused c = λ law.
    no_other (always (listing_of (the_switch ∷ []))) [] (take 2 set_refused) (record { node = 2; payload = bytes (codes "2501FF") }) refl refl refl
    (λ of. of) (λ asked. asked) law.1.1.0.0

pub returns-clause-get_unasked : goal.returns-clause-get_unasked
unfolding computing sealing
returns-clause-get_unasked c = λ law.
    no_other (always (listing_of (the_switch ∷ []))) [] (take 0 get_unasked) (record { node = 2; payload = bytes (codes "2502") }) refl refl refl
    (λ of. of) (λ asked. asked) law.0.0

pub returns-clause-cut_of_another : goal.returns-clause-cut_of_another
unfolding computing sealing
returns-clause-cut_of_another c = λ law.
    no_other (always (listing_of (the_plug ∷ []))) [] (take 5 cut_of_another) (record {
      node = 8;
      payload = bytes (codes "55C02F206C01012B700700002501010101010101010101010101010101010101010101010101010101010152E8");
    }) refl refl refl
    (λ of. elim (cut_at the_message 1 _ of.place of.within of.text) [ inl first ↦ differ 0x20 0x10 refl (ap (λ p. slice_index p 3) first) | inr second ↦ differ 0x55C0 0x55E0 refl (ap head_of second) ]) (λ asked. asked) law.1.1.1.1.1.0.0

pub returns-clause-set_new_list : goal.returns-clause-set_new_list
unfolding computing sealing
returns-clause-set_new_list c = λ law.
    no_other (always (listing_of (the_dimmer ∷ []))) [] (take 2 set_by_new_list) (record { node = 2; payload = bytes (codes "260163") }) refl refl refl
    (λ of. of) (λ asked. elim asked [ inl same ↦ differ 0x2501 0x2601 refl (ap (λ (carried : Carried). head_of carried.payload) same) | inr never ↦ never ]) law.1.1.0.0
