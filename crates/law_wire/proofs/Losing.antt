-- What a restart loses where both sides have written in a stall.
use Rattle.std.proofs.Common.{◌≡◌, ℕ, List, [], ◌∷◌, length, refl, sym, ap, subst, ◌∙◌}
use Rattle.std.specs.Prelude.{false, codes, take, drop}
use Rattle.serial_link.specs.Rules.{Step, items_of}
use Rattle.zw_words.specs.declared.side.Side.{Side}
use Rattle.zw_words.specs.declared.side.Side.TheVariants.{Chip, Host}
use Rattle.zw_text.specs.declared.entry.Entry.{Entry}
use Rattle.zw_text.specs.declared.entry.Entry.TheVariants.{Cleared}
use Rattle.law_transcript.specs.Lists.{EachAfter, shown_after}
use Rattle.law_transcript.specs.Worked.{bytes}
use Rattle.law_wire.specs.Clearing.{lost_at, lost_by, clears, to_clear, AreTold, ClearsLine}
use Rattle.law_wire.specs.Links.{Moment, moments_of, steps_in, bytes_in, HearsInTime}
use Rattle.law_wire.specs.Serial.{SerialEvent, serial_events}
use Rattle.law_wire.specs.WorkedLinks.{both_cleared}
use Rattle.law_wire.proofs.Computing.{reckoning}
use Rattle.law_wire.proofs.Parts.{first_part, filled, filled_same, each_unheard, nothing_in}

-- where nothing was heard, all is left
all_left : (before here : List Step) (units : List (List ℕ)) → items_of before ≡ [] → items_of here ≡ []
    → drop (length (items_of here)) (drop (length (items_of before)) units) ≡ units
all_left before here units first second =
    ap (λ (n : ℕ). drop n (drop (length (items_of before)) units)) (ap length second) ∙ ap (λ (n : ℕ). drop n units) (ap length first)

lost_so : (events : List SerialEvent) (side : Side) (lost : ℕ) → ((parts : List (List Step)) → length parts ≡ length events
    → EachAfter (HearsInTime side) [] (moments_of events parts) → shown_after (lost_at side) [] (moments_of events parts) ≡ lost ∷ [])
    → (other : List SerialEvent) → other ≡ events → (parts : List (List Step)) → length parts ≡ length other
    → EachAfter (HearsInTime side) [] (moments_of other parts) → shown_after (lost_at side) [] (moments_of other parts) ≡ lost ∷ []
lost_so events side lost so other same =
    subst (λ (one : List SerialEvent). (parts : List (List Step)) → length parts ≡ length one
    → EachAfter (HearsInTime side) [] (moments_of one parts) → shown_after (lost_at side) [] (moments_of one parts) ≡ lost ∷ []) (sym same) so

chip_lost : (parts : List (List Step)) → length parts ≡ 4 → EachAfter (HearsInTime Chip) [] (moments_of (serial_events both_cleared) parts)
    → shown_after (lost_at Chip) [] (moments_of (serial_events both_cleared) parts) ≡ 11 ∷ []
unfolding reckoning
chip_lost parts four hears =
    let same : parts ≡ filled 4 parts = filled_same 4 parts four in
    let all : List (List Step) = filled 4 parts in
    let moments : List Moment = moments_of (serial_events both_cleared) all in
    let unheard = each_unheard Chip [] moments refl (subst (λ (some : List (List Step)). EachAfter (HearsInTime Chip) [] (moments_of (serial_events both_cleared) some)) same hears) in
    subst (λ (some : List (List Step)). shown_after (lost_at Chip) [] (moments_of (serial_events both_cleared) some) ≡ 11 ∷ []) (sym same)
    (ap (λ (left : List (List ℕ)). bytes_in left ∷ [])
    (all_left (steps_in (take 3 moments)) (first_part (drop 3 all)) (bytes (codes "01090013020225022501E6") ∷ []) (nothing_in (take 3 moments) (unheard.0, (unheard.1.0, (unheard.1.1.0, tt)))) unheard.1.1.1.0))

host_lost : (parts : List (List Step)) → length parts ≡ 4 → EachAfter (HearsInTime Host) [] (moments_of (serial_events both_cleared) parts)
    → shown_after (lost_at Host) [] (moments_of (serial_events both_cleared) parts) ≡ 7 ∷ []
unfolding reckoning
host_lost parts four hears =
    let same : parts ≡ filled 4 parts = filled_same 4 parts four in
    let all : List (List Step) = filled 4 parts in
    let moments : List Moment = moments_of (serial_events both_cleared) all in
    let unheard = each_unheard Host [] moments refl (subst (λ (some : List (List Step)). EachAfter (HearsInTime Host) [] (moments_of (serial_events both_cleared) some)) same hears) in
    subst (λ (some : List (List Step)). shown_after (lost_at Host) [] (moments_of (serial_events both_cleared) some) ≡ 7 ∷ []) (sym same)
    (ap (λ (left : List (List ℕ)). bytes_in left ∷ [])
    (all_left (steps_in (take 3 moments)) (first_part (drop 3 all)) (bytes (codes "010500130100E8") ∷ []) (nothing_in (take 3 moments) (unheard.0, (unheard.1.0, (unheard.1.1.0, tt)))) unheard.1.1.1.0))

-- so just this is told of it, whatever the links did
pub told_of_both : (transcript : List Entry) → serial_events transcript ≡ serial_events both_cleared → ClearsLine false transcript
    → AreTold (clears transcript) ((Cleared Host 11 ∷ Cleared Chip 7 ∷ []) ∷ [])
unfolding reckoning
told_of_both transcript same law =
    subst (λ (hosts : List ℕ). AreTold (clears transcript) (to_clear (11 ∷ []) hosts))
    (lost_so (serial_events both_cleared) Host 7 host_lost (serial_events transcript) same law.links.host.parts law.links.host.each law.links.host.hears)
    (subst (λ (chips : List ℕ). AreTold (clears transcript) (to_clear chips (lost_by Host transcript law.links.host.parts)))
    (lost_so (serial_events both_cleared) Chip 11 chip_lost (serial_events transcript) same law.links.chip.parts law.links.chip.each law.links.chip.hears)
    law.each)
