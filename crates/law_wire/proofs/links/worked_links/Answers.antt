use Rattle.std.proofs.Common.{[], ◌∷◌, refl}
use Rattle.std.specs.Prelude.{false, true}
use Rattle.serial_link.specs.Rules.{heard, ticked, submitted}
use Rattle.serial_frame.specs.declared.item.Item.TheVariants.{Good}
use Rattle.serial_frame.specs.declared.unit.Unit.TheVariants.{Framed}
use Rattle.zw_words.specs.declared.side.Side.TheVariants.{Host, Chip}
use Rattle.law_wire.specs.Serial.{ended}
use Rattle.law_wire.specs.WorkedCourses.{calling_back}
use Rattle.law_wire.specs.WorkedLinks.{acknowledged, copied_in}
use Rattle.law_wire.specs.WorkedWrong.{refused_restart}
use Rattle.law_wire.proofs.Computing.{reckoning}
use Rattle.law_wire.proofs.Judging.{both_links, keeps_link}
use Rattle.law_wire.proofs.Linked.{plain_links, repeated_links, lossy_links, cancelled_links, restarted_links, sleeping_links, sealed_links, cut_links}
use Rattle.law_wire.proofs.Moves.{acts_of}
use Rattle.law_wire.proofs.links.worked_links.Goals as goal

pub returns-clause-plain : goal.returns-clause-plain
returns-clause-plain c = plain_links

pub returns-clause-repeated : goal.returns-clause-repeated
returns-clause-repeated c = repeated_links

pub returns-clause-lossy : goal.returns-clause-lossy
returns-clause-lossy c = lossy_links

pub returns-clause-cancelled : goal.returns-clause-cancelled
returns-clause-cancelled c = cancelled_links

pub returns-clause-restarted : goal.returns-clause-restarted
returns-clause-restarted c = restarted_links

pub returns-clause-sleeping : goal.returns-clause-sleeping
returns-clause-sleeping c = sleeping_links

pub returns-clause-sealed : goal.returns-clause-sealed
returns-clause-sealed c = sealed_links

pub returns-clause-cut : goal.returns-clause-cut
returns-clause-cut c = cut_links

pub returns-clause-acknowledged : goal.returns-clause-acknowledged
unfolding reckoning keeps_link
returns-clause-acknowledged c =
    both_links true acknowledged
    (keeps_link Chip (ended true acknowledged) (acts_of Chip (ended true acknowledged)) refl refl refl refl refl)
    (keeps_link Host (ended true acknowledged) (acts_of Host (ended true acknowledged)) refl refl refl refl refl) refl refl

pub returns-clause-copied : goal.returns-clause-copied
unfolding reckoning keeps_link
returns-clause-copied c =
    both_links false (copied_in (16 ∷ 42 ∷ 78 ∷ []))
    (keeps_link Chip (ended false (copied_in (16 ∷ 42 ∷ 78 ∷ []))) (acts_of Chip (ended false (copied_in (16 ∷ 42 ∷ 78 ∷ [])))) refl refl refl refl refl)
    (keeps_link Host (ended false (copied_in (16 ∷ 42 ∷ 78 ∷ []))) (acts_of Host (ended false (copied_in (16 ∷ 42 ∷ 78 ∷ [])))) refl refl refl refl refl) refl refl

-- the host hears in the tick after the stall what came before
pub returns-clause-refused : goal.returns-clause-refused
unfolding reckoning keeps_link
returns-clause-refused c =
    both_links false refused_restart
    (keeps_link Chip refused_restart ([] ∷ (submitted calling_back ∷ []) ∷ [] ∷ [] ∷ [] ∷ []) refl refl refl refl refl)
    (keeps_link Host refused_restart ([] ∷ [] ∷ [] ∷ [] ∷ (ticked ∷ heard (Good (Framed calling_back)) ∷ []) ∷ []) refl refl refl refl refl) refl refl
