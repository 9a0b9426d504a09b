use Rattle.std.proofs.Common.{◌≡◌, [], refl}
use Rattle.zw_words.specs.declared.side.Side.TheVariants.{Host}
use Rattle.zw_text.specs.declared.entry.Entry.TheVariants.{Dropped, Said}
use Rattle.law_time.proofs.Computing.{computing}
use Rattle.law_host.proofs.legal.rejected_run.Goals as goal

said_dropped : Said [] ≡ Dropped Host → ⊥
said_dropped e = cc

pub returns-clause-records : goal.returns-clause-records
returns-clause-records c after legal = c.rejected_records.ensures.ordered (legal.records refl)

pub returns-clause-line : goal.returns-clause-line
returns-clause-line c after legal = c.rejected_links.ensures.nothing legal.line.links

pub returns-clause-end : goal.returns-clause-end
unfolding computing
returns-clause-end c after legal = said_dropped legal.line.marks.1.1.1.1.1.1.0

pub returns-clause-host : goal.returns-clause-host
unfolding computing
returns-clause-host c after legal = legal.host.legal.prompt.begins.1.1.1.1.0
