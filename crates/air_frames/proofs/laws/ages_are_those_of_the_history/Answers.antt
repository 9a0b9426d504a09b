use Rattle.air_frames.proofs.Aged.{refusal_is}
use Rattle.air_frames.proofs.laws.ages_are_those_of_the_history.Goals as goal

pub returns : goal.returns
returns c = refusal_is
