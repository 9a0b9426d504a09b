-- So many lines and ticks have begun as the serial line tells; and where each of them began the chip's link had done its parts up to there, and had written nothing since the event
-- before.
use Rattle.std.proofs.Common.{◌≡◌, suc, ◌+◌, Bool, true, false, if◌then◌else◌, List, [], ◌∷◌, ◌++◌, length, take, refl, sym, ap, ◌∙◌, subst, append-nil, append_assoc, arith}
use Rattle.std.specs.List.{AllByRecursion}
use Rattle.serial_link.specs.Rules.{Step}
use Rattle.zw_words.specs.declared.side.Side.{Side}
use Rattle.zw_words.specs.declared.side.Side.TheVariants.{Chip}
use Rattle.law_wire.specs.law_transcript.Lists.{shown_after}
use Rattle.law_wire.specs.Serial.{SerialEvent}
use Rattle.law_wire.specs.Serial.SerialEvent.{Writes}
use Rattle.law_wire.specs.Links.{Moment, WriteLast, WritesThere, ends_round, joined, moments_of, steps_in, unit_by}
use Rattle.proof_line.specs.Links.{IsMute, KnowsEvents, LinkNow, life_steps, start_at}
use Rattle.proof_line.specs.Linked.{flags_of, rounds_in}
use Rattle.proof_line.proofs.Moments.{steps_one}

-- ---- how many

pub many_starts : (side : Side) (before : List Moment) (events : List SerialEvent) (parts : List (List Step)) → length parts ≡ length events
    → length (shown_after (start_at side) before (moments_of events parts)) ≡ rounds_in (flags_of events)
many_starts side before [] [] same = refl
many_starts side before [] (part ∷ parts) same = absurd (omega (arith, same))
many_starts side before (event ∷ events) [] same = absurd (omega (arith, same))
many_starts side before (event ∷ events) (part ∷ parts) same =
    let one : Moment = record { event = event; steps = part } in
    let rest = many_starts side (before ++ one ∷ []) events parts (omega (arith, same)) in
    by (ends_round event) (life_steps side before part) (shown_after (start_at side) (before ++ one ∷ []) (moments_of events parts)) rest
  where
    by : (b : Bool) (x : List Step) (later : List (List Step)) → length later ≡ rounds_in (flags_of events) → length ((if b then x ∷ [] else []) ++ later) ≡ rounds_in (b ∷ flags_of events)
    by true x later rest = omega (arith, rest)
    by false x later rest = rest

pub starts_many : (piped : Bool) (side : Side) (events : List SerialEvent) (now : LinkNow) → KnowsEvents piped side events now → length now.starts ≡ rounds_in (flags_of events)
starts_many piped side events now knows = sym (ap (λ (l : List (List Step)). length l) knows.at.starts) ∙ many_starts side [] events knows.parts knows.each

pub rounds_both : (a b : List Bool) → rounds_in (a ++ b) ≡ rounds_in a + rounds_in b
rounds_both [] b = let none : rounds_in b ≡ 0 + rounds_in b = omega arith in none
rounds_both (true ∷ a) b = let rest = rounds_both a b in let whole : suc (rounds_in (a ++ b)) ≡ suc (rounds_in a) + rounds_in b = omega (arith, rest) in whole
rounds_both (false ∷ a) b = rounds_both a b

-- ---- which it is

pub start_is : (done : List Moment) (events : List SerialEvent) (parts : List (List Step)) → length parts ≡ length events → (front back : List Bool) → flags_of events ≡ front ++ true ∷ back
    → (before after : List (List Step)) (life : List Step) → shown_after (start_at Chip) done (moments_of events parts) ≡ before ++ life ∷ after → length before ≡ rounds_in front
    → life ≡ steps_in done ++ joined (take (suc (length front)) parts)
start_is done [] parts same [] back flags before after life starts many = absurd cc
start_is done [] parts same (b ∷ front) back flags before after life starts many = absurd cc
start_is done (event ∷ events) [] same front back flags before after life starts many = absurd (omega (arith, same))
start_is done (event ∷ events) (part ∷ parts) same [] back flags before after life starts many =
    let ends : ends_round event ≡ true = cc in
    let rest : List (List Step) = shown_after (start_at Chip) (done ++ record { event = event; steps = part } ∷ []) (moments_of events parts) in
    first before (ap (λ (b : Bool). (if b then (steps_in done ++ part) ∷ [] else []) ++ rest) (sym ends) ∙ starts) many ∙ ap (λ (l : List Step). steps_in done ++ l) (sym (append-nil part))
  where
    first : (before : List (List Step)) {rest : List (List Step)} → (steps_in done ++ part) ∷ rest ≡ before ++ life ∷ after → length before ≡ 0 → life ≡ steps_in done ++ part
    first [] are none = sym (let head : steps_in done ++ part ≡ life = cc in head)
    first (x ∷ before) are none = absurd (omega (arith, none))
start_is done (event ∷ events) (part ∷ parts) same (b ∷ front) back flags before after life starts many =
    let one : Moment = record { event = event; steps = part } in
    let is : ends_round event ≡ b = cc in
    let more : flags_of events ≡ front ++ true ∷ back = cc in
    let rest : List (List Step) = shown_after (start_at Chip) (done ++ one ∷ []) (moments_of events parts) in
    let (left, are, fewer) = later b before (ap (λ (c : Bool). (if c then (steps_in done ++ part) ∷ [] else []) ++ rest) (sym is) ∙ starts) many in
    start_is (done ++ one ∷ []) events parts (omega (arith, same)) front back more left after life are fewer
    ∙ ap (λ (l : List Step). l ++ joined (take (suc (length front)) parts)) (steps_one done one)
    ∙ append_assoc (steps_in done) part (joined (take (suc (length front)) parts))
  where
    later : (b : Bool) (before : List (List Step)) {rest : List (List Step)} → (if b then (steps_in done ++ part) ∷ [] else []) ++ rest ≡ before ++ life ∷ after → length before ≡ rounds_in (b ∷ front)
        → (left : List (List Step)) × (rest ≡ left ++ life ∷ after) × (length left ≡ rounds_in front)
    later true [] are many = absurd (omega (arith, many))
    later true (x ∷ before) are many = (before, (let tail : _ ≡ before ++ life ∷ after = cc in tail), omega (arith, many))
    later false before are many = (before, are, many)

-- ---- since the event before

last_mute : (steps : List Step) → WriteLast steps [] → AllByRecursion IsMute steps
last_mute [] last = tt
last_mute (step ∷ []) last = (last, tt)
last_mute (step ∷ next ∷ steps) last = (last.0, last_mute (next ∷ steps) last.1)

begins_no_unit : (event : SerialEvent) → ends_round event ≡ true → unit_by Chip event ≡ []
begins_no_unit (Writes on unit arriving lacking) begins = absurd (let none : false ≡ true = begins in cc)
begins_no_unit event begins = refl

pub start_mute : (events : List SerialEvent) (parts : List (List Step)) → length parts ≡ length events → AllByRecursion (WritesThere Chip) (moments_of events parts) → (front back : List Bool)
    → flags_of events ≡ front ++ true ∷ back → (part : List Step) × (joined (take (suc (length front)) parts) ≡ joined (take (length front) parts) ++ part) × AllByRecursion IsMute part
start_mute [] parts same writes [] back flags = absurd cc
start_mute [] parts same writes (b ∷ front) back flags = absurd cc
start_mute (event ∷ events) [] same writes front back flags = absurd (omega (arith, same))
start_mute (event ∷ events) (part ∷ parts) same writes [] back flags =
    let begins : ends_round event ≡ true = cc in (part, append-nil part, last_mute part (subst (WriteLast part) (begins_no_unit event begins) writes.0))
start_mute (event ∷ events) (part ∷ parts) same writes (b ∷ front) back flags =
    let more : flags_of events ≡ front ++ true ∷ back = cc in
    let (later, is, mute) = start_mute events parts (omega (arith, same)) writes.1 front back more in
    (later, ap (λ (l : List Step). part ++ l) is ∙ sym (append_assoc part (joined (take (length front) parts)) later), mute)
