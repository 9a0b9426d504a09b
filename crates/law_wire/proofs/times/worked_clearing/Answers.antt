use Rattle.std.proofs.Common.{List, [], ◌∷◌, refl}
use Rattle.std.specs.Prelude.{codes, false}
use Rattle.serial_link.specs.Rules.{Event, submitted}
use Rattle.zw_words.specs.declared.side.Side.TheVariants.{Chip, Host}
use Rattle.zw_text.specs.declared.entry.Entry.TheVariants.{Cleared}
use Rattle.law_transcript.specs.Worked.{bytes}
use Rattle.law_wire.specs.WorkedCourses.{calling_back}
use Rattle.law_wire.specs.WorkedLinks.{both_cleared, cleared_in_part}
use Rattle.law_wire.proofs.Computing.{reckoning}
use Rattle.law_wire.proofs.Judging.{both_links, keeps_link}
use Rattle.law_wire.proofs.Moves.{frame_in}
use Rattle.law_wire.proofs.times.worked_clearing.Goals as goal

-- each side submits its frame
abbrev chip_acts : List (List Event)
chip_acts = [] ∷ [] ∷ (submitted calling_back ∷ []) ∷ [] ∷ []

abbrev host_acts : List (List Event)
host_acts = [] ∷ (submitted (frame_in (bytes (codes "01090013020225022501E6"))) ∷ []) ∷ [] ∷ [] ∷ []

pub returns-clause-both : goal.returns-clause-both
unfolding reckoning keeps_link both_links
returns-clause-both c = record {
  links = both_links false both_cleared (keeps_link Chip both_cleared chip_acts refl refl refl refl refl) (keeps_link Host both_cleared host_acts refl refl refl refl refl) refl refl;
  each = (refl, tt);
  only = refl;
}

pub returns-clause-in_part : goal.returns-clause-in_part
unfolding reckoning keeps_link both_links
returns-clause-in_part c = record {
  links = both_links false cleared_in_part (keeps_link Chip cleared_in_part chip_acts refl refl refl refl refl) (keeps_link Host cleared_in_part host_acts refl refl refl refl refl) refl refl;
  each = ((Cleared Chip 7 ∷ [], refl), tt);
  only = refl;
}
