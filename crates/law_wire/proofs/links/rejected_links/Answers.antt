use Rattle.std.proofs.Common.{◌≡◌, ℕ, List, [], refl, ap, subst, arith}
use Rattle.std.specs.Prelude.{take, drop, slice_index}
use Rattle.std.specs.List.{AllByRecursion}
use Rattle.zw_words.specs.declared.side.Side.TheVariants.{Chip, Host}
use Rattle.law_wire.specs.Serial.{serial_events}
use Rattle.law_wire.specs.Links.{Moment, moments_of, steps_in, KeepsLink}
use Rattle.law_wire.specs.WorkedWrong.{spoken_over, host_spoke_over, answered_over_restart}
use Rattle.law_wire.proofs.Computing.{reckoning}
use Rattle.law_wire.proofs.NothingHeard.{answers_nothing, host_answers_nothing}
use Rattle.law_wire.proofs.Overspeaking.{AreSame, writes_same}
use Rattle.law_wire.proofs.Parts.{fill, all_texts, nothing_heard}
use Rattle.law_wire.proofs.Rejecting.{no_answer, no_collision, no_overrun, fourth_early, fourth_late, third_early, third_late, too_early, too_late, kept_waits}
use Rattle.law_wire.proofs.Silence.{BeginsFrame, silent}
use Rattle.law_wire.proofs.links.rejected_links.Goals as goal

pub returns-clause-nothing : goal.returns-clause-nothing
unfolding reckoning
returns-clause-nothing c = λ law. answers_nothing law.chip

pub returns-clause-host : goal.returns-clause-host
unfolding reckoning
returns-clause-host c = λ law. host_answers_nothing law.host

pub returns-clause-kept : goal.returns-clause-kept
returns-clause-kept c = kept_waits

-- a second frame while the first waits is no copy of it
five_four : ◌≡◌ {A = ℕ} 5 4 → ⊥
five_four e = omega (arith, e)

three_four : ◌≡◌ {A = ℕ} 3 4 → ⊥
three_four e = omega (arith, e)

abbrev second_byte : List ℕ → ℕ
second_byte bytes = slice_index bytes 1

over : KeepsLink Chip spoken_over → ⊥
unfolding reckoning fill
over given =
    let link = fill Chip spoken_over given in
    let moments : List Moment = moments_of (serial_events spoken_over) link.parts in
    five_four (ap second_byte (subst AreSame (all_texts Chip moments link.writes)
    (writes_same (steps_in moments) link.obeys.0.0.turn link.obeys.0.1.answers link.obeys.0.1.turns (nothing_heard Chip [] moments refl link.hears))))

host_over : KeepsLink Host host_spoke_over → ⊥
unfolding reckoning fill
host_over given =
    let link = fill Host host_spoke_over given in
    let moments : List Moment = moments_of (serial_events host_spoke_over) link.parts in
    three_four (ap second_byte (subst AreSame (all_texts Host moments link.writes)
    (writes_same (steps_in moments) link.obeys.0.0.turn link.obeys.0.1.answers link.obeys.0.1.turns (nothing_heard Host [] moments refl link.hears))))

pub returns-clause-over : goal.returns-clause-over
unfolding reckoning
returns-clause-over c = λ law. over law.chip

pub returns-clause-host_over : goal.returns-clause-host_over
unfolding reckoning
returns-clause-host_over c = λ law. host_over law.host

-- the new host has heard nothing
six_one : ◌≡◌ {A = ℕ} 6 1 → ⊥
six_one e = omega (arith, e)

over_restart : KeepsLink Host answered_over_restart → ⊥
unfolding reckoning fill
over_restart given =
    let link = fill Host answered_over_restart given in
    let moments : List Moment = moments_of (serial_events answered_over_restart) link.parts in
    six_one (subst (λ (texts : List (List ℕ)). AllByRecursion BeginsFrame texts) (all_texts Host (drop 3 moments) link.writes.1.1.1)
    (silent [] (steps_in (drop 3 moments)) link.obeys.1.0.1.answers (nothing_heard Host (take 3 moments) (drop 3 moments) refl link.hears.1.1.1))).0

pub returns-clause-restarted : goal.returns-clause-restarted
unfolding reckoning
returns-clause-restarted c = λ law. over_restart law.host

-- ---- a frame that is not answered, or answered CAN, and a copy at a wrong time

pub returns-clause-unanswered : goal.returns-clause-unanswered
returns-clause-unanswered c = λ law. no_answer law.host

pub returns-clause-collides : goal.returns-clause-collides
returns-clause-collides c = λ law. no_collision law.host

pub returns-clause-early : goal.returns-clause-early
returns-clause-early c = λ law. too_early law.chip

pub returns-clause-late : goal.returns-clause-late
returns-clause-late c = λ law. too_late law.chip

pub returns-clause-third_early : goal.returns-clause-third_early
returns-clause-third_early c = λ law. third_early law.chip

pub returns-clause-third_late : goal.returns-clause-third_late
returns-clause-third_late c = λ law. third_late law.chip

pub returns-clause-fourth_early : goal.returns-clause-fourth_early
returns-clause-fourth_early c = λ law. fourth_early law.chip

pub returns-clause-fourth_late : goal.returns-clause-fourth_late
returns-clause-fourth_late c = λ law. fourth_late law.chip

-- ---- a unit without room

pub returns-clause-overrun : goal.returns-clause-overrun
unfolding reckoning
returns-clause-overrun c = λ law. no_overrun law.chip.parts law.chip.each law.up
