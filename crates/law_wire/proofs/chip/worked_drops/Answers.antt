use Rattle.std.proofs.Common.{[], ◌∷◌, refl}
use Rattle.law_transcript.specs.Worked.{the_switch}
use Rattle.law_wire.specs.Worked.{copied}
use Rattle.law_wire.specs.WorkedCourses.{copied_course}
use Rattle.law_wire.proofs.Computing.{reckoning}
use Rattle.law_wire.proofs.Entries.{drops_when_few}
use Rattle.law_wire.proofs.Serving.{repeated_drops, lossy_drops, cancelled_drops, restarted_drops, sleeping_drops, sealed_drops, cut_drops}
use Rattle.law_wire.proofs.Plain.{plain_drops}
use Rattle.law_wire.proofs.chip.worked_drops.Goals as goal

pub returns-clause-plain : goal.returns-clause-plain
returns-clause-plain c = plain_drops

pub returns-clause-copied : goal.returns-clause-copied
unfolding reckoning
returns-clause-copied c = drops_when_few (the_switch ∷ []) copied_course copied refl refl

pub returns-clause-repeated : goal.returns-clause-repeated
returns-clause-repeated c = repeated_drops

pub returns-clause-lossy : goal.returns-clause-lossy
returns-clause-lossy c = lossy_drops

pub returns-clause-cancelled : goal.returns-clause-cancelled
returns-clause-cancelled c = cancelled_drops

pub returns-clause-restarted : goal.returns-clause-restarted
returns-clause-restarted c = restarted_drops

pub returns-clause-sleeping : goal.returns-clause-sleeping
returns-clause-sleeping c = sleeping_drops

pub returns-clause-sealed : goal.returns-clause-sealed
returns-clause-sealed c = sealed_drops

pub returns-clause-cut : goal.returns-clause-cut
returns-clause-cut c = cut_drops
