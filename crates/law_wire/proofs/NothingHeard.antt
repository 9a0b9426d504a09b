-- Neither side answers what never came.
use Rattle.std.proofs.Common.{◌≡◌, ℕ, List, [], refl, subst, arith}
use Rattle.std.specs.List.{AllByRecursion}
use Rattle.zw_words.specs.declared.side.Side.TheVariants.{Chip, Host}
use Rattle.law_wire.specs.Serial.{serial_events}
use Rattle.law_wire.specs.Links.{Moment, moments_of, steps_in, KeepsLink}
use Rattle.law_wire.specs.WorkedWrong.{host_answered_nothing, answered_nothing}
use Rattle.law_wire.proofs.Computing.{reckoning}
use Rattle.law_wire.proofs.Parts.{fill, all_texts, nothing_heard}
use Rattle.law_wire.proofs.Silence.{BeginsFrame, silent}

six_one : ◌≡◌ {A = ℕ} 6 1 → ⊥
six_one e = omega (arith, e)

pub answers_nothing : KeepsLink Chip answered_nothing → ⊥
unfolding reckoning fill
answers_nothing given =
    let link = fill Chip answered_nothing given in
    let moments : List Moment = moments_of (serial_events answered_nothing) link.parts in
    six_one (subst (λ (texts : List (List ℕ)). AllByRecursion BeginsFrame texts) (all_texts Chip moments link.writes)
    (silent [] (steps_in moments) link.obeys.0.1.answers (nothing_heard Chip [] moments refl link.hears))).0

pub host_answers_nothing : KeepsLink Host host_answered_nothing → ⊥
unfolding reckoning fill
host_answers_nothing given =
    let link = fill Host host_answered_nothing given in
    let moments : List Moment = moments_of (serial_events host_answered_nothing) link.parts in
    six_one (subst (λ (texts : List (List ℕ)). AllByRecursion BeginsFrame texts) (all_texts Host moments link.writes)
    (silent [] (steps_in moments) link.obeys.0.1.answers (nothing_heard Host [] moments refl link.hears))).0
