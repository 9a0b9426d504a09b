use Rattle.std.proofs.Common.{List, [], ◌∷◌, ◌++◌, subst}
use Rattle.zw_text.specs.declared.entry.Entry.TheVariants.{Said}
use Rattle.host_keep.specs.Kept.{first_kept}
use Rattle.host_keep.specs.declared.record.Record.{Record}
use Rattle.proof_line.specs.proof_host.RecordsTold.{TellRecords}
use Rattle.proof_line.proofs.HeldRecords.{one_reading}
use Rattle.proof_alone.proofs.from_records.hosts_keep_their_tables_after_a_story.Goals as goal

pub returns : goal.returns
returns c = λ keys texts records story words are legal is.
    c.hosts_keep_their_tables_from_records.ensures keys texts story (Said words ∷ [])
    (λ others others_are others_legal.
    subst (λ (l : List Record). TellRecords first_kept l (story ++ Said words ∷ [])) (one_reading c.a_text_is_of_one_record.ensures records others texts are others_are)
    (c.stories_are_told.ensures.tells records story words legal is))
    (c.stories_are_told.ensures.ordered records story words is)
