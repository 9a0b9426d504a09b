use Rattle.proof_once.proofs.Headline.{headline, headline_one}
use Rattle.proof_once.proofs.laws.headlines_follow.Goals as goal

pub returns-clause-one : goal.returns-clause-one
returns-clause-one c =
    headline_one c.laws_follow.ensures.laws c.ties_keep_once_only.ensures c.ties_confirm_what_was_set.ensures c.laws_of_transcripts_follow.ensures.once c.laws_of_transcripts_follow.ensures.confirms

pub returns-clause-whole : goal.returns-clause-whole
returns-clause-whole c =
    headline c.laws_follow.ensures.laws c.ties_keep_once_only.ensures c.ties_confirm_what_was_set.ensures c.laws_of_transcripts_follow.ensures.once c.laws_of_transcripts_follow.ensures.confirms
