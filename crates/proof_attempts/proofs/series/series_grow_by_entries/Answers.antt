-- One entry behind others.
use Rattle.zw_text.specs.declared.entry.Entry.{Entry}
use Rattle.zw_text.specs.declared.entry.Entry.TheVariants.{Said, Refused}
use Rattle.proof_requests.proofs.proof_waking_Apart.{IsWordless}
use Rattle.proof_attempts.specs.Series.{IsOfNoLine}
use Rattle.proof_attempts.proofs.SeriesSteps.{series_one, series_said, series_starts}
use Rattle.proof_attempts.proofs.series.series_grow_by_entries.Goals as goal

wordless : (e : Entry) → IsOfNoLine e → IsWordless e
wordless (Said words) none = none
wordless (Refused refusal) none = none
wordless e none = tt

pub returns-clause-one : goal.returns-clause-one
returns-clause-one c = λ n past e none. series_one n past e (wordless e none)

pub returns-clause-said : goal.returns-clause-said
returns-clause-said c = series_said

pub returns-clause-starts : goal.returns-clause-starts
returns-clause-starts c = series_starts
