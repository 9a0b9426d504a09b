use Rattle.std.proofs.Common.{length, ap, sym, ◌∙◌, arith}
use Rattle.s0_crypto.specs.Opening.{vector_of, HasOtherSequence, IsGood}
use Rattle.s0_crypto.proofs.OpeningLemmas.{good_from_seals, one_plain_text, block_is, sequence_is, bad_code_told, no_bad_code, sequence_told, no_sequence, never_badly_coded, never_good, sealed_not_bad, sealed_not_other, seals_from_parts, badly, coded, header_of}
use Rattle.s0_crypto.proofs.opening.unseal.Goals as goal

pub returns-then-bytes-lt-SHORTEST-clause-sealed : goal.returns-then-bytes-lt-SHORTEST-clause-sealed
returns-then-bytes-lt-SHORTEST-clause-sealed c = λ sn plain n s.
    let long = (good_from_seals c.args.keys.now sn c.args.receiver_nonce c.args.ends.now plain c.args.bytes.now n s).coded.long in
    absurd (omega (arith, long))

pub returns-then-not-same-clause-sealed : goal.returns-then-not-same-clause-sealed
returns-then-not-same-clause-sealed c =
    let bad = badly c.args.keys.now c.args.receiver_nonce c.args.ends.now c.args.bytes.now c.if-bytes-lt-SHORTEST.false c.eight.ensures c.join-vector.ensures c.code-want.ensures c.eight-got.ensures c.same.ensures c.if-not-same.true in
    λ sn plain n s. absurd (sealed_not_bad c.args.keys.now c.args.receiver_nonce c.args.ends.now c.args.bytes.now _ _ sn plain bad n s)

pub returns-then-not-same-clause-bad_code : goal.returns-then-not-same-clause-bad_code
returns-then-not-same-clause-bad_code c =
    let bad = badly c.args.keys.now c.args.receiver_nonce c.args.ends.now c.args.bytes.now c.if-bytes-lt-SHORTEST.false c.eight.ensures c.join-vector.ensures c.code-want.ensures c.eight-got.ensures c.same.ensures c.if-not-same.true in
    bad_code_told c.args.keys.now c.args.receiver_nonce c.args.ends.now c.args.bytes.now _ _ bad

pub returns-then-not-same-clause-sequence : goal.returns-then-not-same-clause-sequence
returns-then-not-same-clause-sequence c =
    let bad = badly c.args.keys.now c.args.receiver_nonce c.args.ends.now c.args.bytes.now c.if-bytes-lt-SHORTEST.false c.eight.ensures c.join-vector.ensures c.code-want.ensures c.eight-got.ensures c.same.ensures c.if-not-same.true in
    no_sequence c.args.keys.now c.args.receiver_nonce c.args.ends.now c.args.bytes.now _ (never_badly_coded c.args.keys.now c.args.receiver_nonce c.args.ends.now c.args.bytes.now _ _ bad) (λ byte e. cc e)

pub returns-then-sequence-ne0-clause-sealed : goal.returns-then-sequence-ne0-clause-sealed
returns-then-sequence-ne0-clause-sealed c =
    let coded = coded c.args.keys.now c.args.receiver_nonce c.args.ends.now c.args.bytes.now c.if-bytes-lt-SHORTEST.false c.eight.ensures c.join-vector.ensures c.code-want.ensures c.eight-got.ensures c.same.ensures c.if-not-same.false in
    let block = block_is c.args.keys.now.encrypt c.args.receiver_nonce c.args.bytes.now c.eight.ensures c.join-vector.ensures c.encrypt-block.ensures in
    let other : HasOtherSequence c.args.keys.now c.args.receiver_nonce c.args.ends.now c.args.bytes.now _ = record { coded = coded; is_sequence = sequence_is c.args.keys.now c.args.receiver_nonce c.args.bytes.now block; not_zero = c.if-sequence-ne0.true } in
    λ sn plain n s. absurd (sealed_not_other c.args.keys.now c.args.receiver_nonce c.args.ends.now c.args.bytes.now _ sn plain other n s)

pub returns-then-sequence-ne0-clause-bad_code : goal.returns-then-sequence-ne0-clause-bad_code
returns-then-sequence-ne0-clause-bad_code c =
    let coded = coded c.args.keys.now c.args.receiver_nonce c.args.ends.now c.args.bytes.now c.if-bytes-lt-SHORTEST.false c.eight.ensures c.join-vector.ensures c.code-want.ensures c.eight-got.ensures c.same.ensures c.if-not-same.false in
    no_bad_code c.args.keys.now c.args.receiver_nonce c.args.ends.now c.args.bytes.now _ coded (λ want got e. cc e)

pub returns-then-sequence-ne0-clause-sequence : goal.returns-then-sequence-ne0-clause-sequence
returns-then-sequence-ne0-clause-sequence c =
    let coded = coded c.args.keys.now c.args.receiver_nonce c.args.ends.now c.args.bytes.now c.if-bytes-lt-SHORTEST.false c.eight.ensures c.join-vector.ensures c.code-want.ensures c.eight-got.ensures c.same.ensures c.if-not-same.false in
    let block = block_is c.args.keys.now.encrypt c.args.receiver_nonce c.args.bytes.now c.eight.ensures c.join-vector.ensures c.encrypt-block.ensures in
    let other : HasOtherSequence c.args.keys.now c.args.receiver_nonce c.args.ends.now c.args.bytes.now _ = record { coded = coded; is_sequence = sequence_is c.args.keys.now c.args.receiver_nonce c.args.bytes.now block; not_zero = c.if-sequence-ne0.true } in
    sequence_told c.args.keys.now c.args.receiver_nonce c.args.ends.now c.args.bytes.now _ other

pub returns-in_default-clause-bad_code : goal.returns-in_default-clause-bad_code
returns-in_default-clause-bad_code c =
    let coded = coded c.args.keys.now c.args.receiver_nonce c.args.ends.now c.args.bytes.now c.if-bytes-lt-SHORTEST.false c.eight.ensures c.join-vector.ensures c.code-want.ensures c.eight-got.ensures c.same.ensures c.if-not-same.false in
    no_bad_code c.args.keys.now c.args.receiver_nonce c.args.ends.now c.args.bytes.now _ coded (λ want got e. cc e)

pub returns-in_default-clause-sequence : goal.returns-in_default-clause-sequence
returns-in_default-clause-sequence c =
    let coded = coded c.args.keys.now c.args.receiver_nonce c.args.ends.now c.args.bytes.now c.if-bytes-lt-SHORTEST.false c.eight.ensures c.join-vector.ensures c.code-want.ensures c.eight-got.ensures c.same.ensures c.if-not-same.false in
    let block = block_is c.args.keys.now.encrypt c.args.receiver_nonce c.args.bytes.now c.eight.ensures c.join-vector.ensures c.encrypt-block.ensures in
    let good : IsGood c.args.keys.now c.args.receiver_nonce c.args.ends.now c.args.bytes.now = record { coded = coded; zero = sym (sequence_is c.args.keys.now c.args.receiver_nonce c.args.bytes.now block) ∙ c.if-sequence-ne0.false } in
    no_sequence c.args.keys.now c.args.receiver_nonce c.args.ends.now c.args.bytes.now _ (never_good c.args.keys.now c.args.receiver_nonce c.args.ends.now c.args.bytes.now good) (λ byte e. cc e)

pub returns-in_default-clause-memory_last : goal.returns-in_default-clause-memory_last
returns-in_default-clause-memory_last c =
    let coded = coded c.args.keys.now c.args.receiver_nonce c.args.ends.now c.args.bytes.now c.if-bytes-lt-SHORTEST.false c.eight.ensures c.join-vector.ensures c.code-want.ensures c.eight-got.ensures c.same.ensures c.if-not-same.false in
    let block = block_is c.args.keys.now.encrypt c.args.receiver_nonce c.args.bytes.now c.eight.ensures c.join-vector.ensures c.encrypt-block.ensures in
    let good : IsGood c.args.keys.now c.args.receiver_nonce c.args.ends.now c.args.bytes.now = record { coded = coded; zero = sym (sequence_is c.args.keys.now c.args.receiver_nonce c.args.bytes.now block) ∙ c.if-sequence-ne0.false } in
    λ _. good

pub returns-clause-opened : goal.returns-clause-opened
returns-clause-opened c =
    let coded = coded c.args.keys.now c.args.receiver_nonce c.args.ends.now c.args.bytes.now c.if-bytes-lt-SHORTEST.false c.eight.ensures c.join-vector.ensures c.code-want.ensures c.eight-got.ensures c.same.ensures c.if-not-same.false in
    let block = block_is c.args.keys.now.encrypt c.args.receiver_nonce c.args.bytes.now c.eight.ensures c.join-vector.ensures c.encrypt-block.ensures in
    let good : IsGood c.args.keys.now c.args.receiver_nonce c.args.ends.now c.args.bytes.now = record { coded = coded; zero = sym (sequence_is c.args.keys.now c.args.receiver_nonce c.args.bytes.now block) ∙ c.if-sequence-ne0.false } in
    let seals = seals_from_parts c.args.keys.now c.args.receiver_nonce c.args.ends.now c.args.bytes.now c.in-Ok.plain good (header_of c.args.bytes.now c.if-bytes-lt-SHORTEST.false (c.requires.header c.if-bytes-lt-SHORTEST.false).0 (c.requires.header c.if-bytes-lt-SHORTEST.false).1)
    (c.requires.named c.if-bytes-lt-SHORTEST.false) (c.in-Ok.ensures (vector_of c.args.receiver_nonce c.args.bytes.now) block) in
    seals

pub returns-clause-sealed : goal.returns-clause-sealed
returns-clause-sealed c =
    let coded = coded c.args.keys.now c.args.receiver_nonce c.args.ends.now c.args.bytes.now c.if-bytes-lt-SHORTEST.false c.eight.ensures c.join-vector.ensures c.code-want.ensures c.eight-got.ensures c.same.ensures c.if-not-same.false in
    let block = block_is c.args.keys.now.encrypt c.args.receiver_nonce c.args.bytes.now c.eight.ensures c.join-vector.ensures c.encrypt-block.ensures in
    let good : IsGood c.args.keys.now c.args.receiver_nonce c.args.ends.now c.args.bytes.now = record { coded = coded; zero = sym (sequence_is c.args.keys.now c.args.receiver_nonce c.args.bytes.now block) ∙ c.if-sequence-ne0.false } in
    let seals = seals_from_parts c.args.keys.now c.args.receiver_nonce c.args.ends.now c.args.bytes.now c.in-Ok.plain good (header_of c.args.bytes.now c.if-bytes-lt-SHORTEST.false (c.requires.header c.if-bytes-lt-SHORTEST.false).0 (c.requires.header c.if-bytes-lt-SHORTEST.false).1)
    (c.requires.named c.if-bytes-lt-SHORTEST.false) (c.in-Ok.ensures (vector_of c.args.receiver_nonce c.args.bytes.now) block) in
    λ sn plain n s. one_plain_text c.args.keys.now sn c.args.receiver_nonce c.args.ends.now c.in-Ok.plain plain c.args.bytes.now n (ap length (sym c.eight.ensures) ∙ (omega arith)) seals s

pub returns-clause-bad_code : goal.returns-clause-bad_code
returns-clause-bad_code c =
    let coded = coded c.args.keys.now c.args.receiver_nonce c.args.ends.now c.args.bytes.now c.if-bytes-lt-SHORTEST.false c.eight.ensures c.join-vector.ensures c.code-want.ensures c.eight-got.ensures c.same.ensures c.if-not-same.false in
    no_bad_code c.args.keys.now c.args.receiver_nonce c.args.ends.now c.args.bytes.now _ coded (λ want got e. cc e)

pub returns-clause-sequence : goal.returns-clause-sequence
returns-clause-sequence c =
    let coded = coded c.args.keys.now c.args.receiver_nonce c.args.ends.now c.args.bytes.now c.if-bytes-lt-SHORTEST.false c.eight.ensures c.join-vector.ensures c.code-want.ensures c.eight-got.ensures c.same.ensures c.if-not-same.false in
    let block = block_is c.args.keys.now.encrypt c.args.receiver_nonce c.args.bytes.now c.eight.ensures c.join-vector.ensures c.encrypt-block.ensures in
    let good : IsGood c.args.keys.now c.args.receiver_nonce c.args.ends.now c.args.bytes.now = record { coded = coded; zero = sym (sequence_is c.args.keys.now c.args.receiver_nonce c.args.bytes.now block) ∙ c.if-sequence-ne0.false } in
    no_sequence c.args.keys.now c.args.receiver_nonce c.args.ends.now c.args.bytes.now _ (never_good c.args.keys.now c.args.receiver_nonce c.args.ends.now c.args.bytes.now good) (λ byte e. cc e)
