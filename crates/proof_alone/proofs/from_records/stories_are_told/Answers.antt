use Rattle.std.proofs.Common.{[], ◌∷◌}
use Rattle.zw_text.specs.declared.entry.Entry.TheVariants.{Said}
use Rattle.host_keep.specs.Kept.{first_kept}
use Rattle.proof_line.proofs.Lists.{each-append}
use Rattle.proof_alone.specs.Answering.{AsOrdered}
use Rattle.proof_alone.proofs.Storied.{story_ordered, story_tells}
use Rattle.proof_alone.proofs.from_records.stories_are_told.Goals as goal

pub returns-clause-tells : goal.returns-clause-tells
returns-clause-tells c = λ records story words legal is. story_tells first_kept records story (Said words ∷ []) legal is (tt, tt)

pub returns-clause-ordered : goal.returns-clause-ordered
returns-clause-ordered c = λ records story words is. each-append AsOrdered [] story (Said words ∷ []) (story_ordered [] first_kept records story is) (tt, tt)
