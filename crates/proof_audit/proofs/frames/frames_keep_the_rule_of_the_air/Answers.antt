-- What is known of frames goes with the entries, and the lines of a table break no rule of frames.
use Rattle.std.proofs.Common.{[]}
use Rattle.audit_rules.specs.AirRule.{breaks_air}
use Rattle.proof_audit.proofs.FramesKept.{frames_keep, legible_show, table_free}
use Rattle.proof_audit.proofs.TableRows.{each-end}
use Rattle.proof_audit.proofs.WithTable.{table-keeps}
use Rattle.proof_audit.proofs.frames.frames_keep_the_rule_of_the_air.Goals as goal

pub returns-clause-run : goal.returns-clause-run
returns-clause-run c = frames_keep

pub returns-clause-table : goal.returns-clause-table
returns-clause-table c = λ transcript table all keeps. each-end breaks_air [] transcript table keeps (table-keeps breaks_air table_free transcript table all)

pub returns-clause-legible : goal.returns-clause-legible
returns-clause-legible c = legible_show
