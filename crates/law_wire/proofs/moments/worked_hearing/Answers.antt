use Rattle.std.proofs.Common.{[], ◌∷◌, refl}
use Rattle.zw_words.specs.declared.side.Side.TheVariants.{Chip, Host}
use Rattle.law_wire.specs.WorkedCourses.{hears_ack}
use Rattle.law_wire.specs.WorkedLinks.{a_stall, a_tick, an_ack, answers_of_host, hears_so_many, steps_before}
use Rattle.law_wire.proofs.Judging.{hears_in_time}
use Rattle.law_wire.proofs.moments.worked_hearing.Goals as goal

pub returns-clause-stalled : goal.returns-clause-stalled
returns-clause-stalled c = hears_in_time Host (a_stall ∷ an_ack Chip ∷ []) (steps_before []) refl

pub returns-clause-over : goal.returns-clause-over
returns-clause-over c = hears_in_time Host (a_stall ∷ an_ack Chip ∷ a_tick ∷ []) (steps_before (hears_ack ∷ [])) refl

pub returns-clause-passes : goal.returns-clause-passes
returns-clause-passes c = hears_in_time Chip (answers_of_host 64) (hears_so_many 63) refl
