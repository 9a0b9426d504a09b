-- What was picked in order is found so, and the lines of a table send nothing.
use Rattle.std.proofs.Common.{[]}
use Rattle.audit_rules.specs.PayloadRule.{breaks_payload}
use Rattle.proof_audit.proofs.PayloadsKept.{payloads_keep, table_free}
use Rattle.proof_audit.proofs.TableRows.{each-end}
use Rattle.proof_audit.proofs.WithTable.{table-keeps}
use Rattle.proof_audit.proofs.payloads.carried_payloads_keep_their_rule.Goals as goal

pub returns-clause-run : goal.returns-clause-run
returns-clause-run c = payloads_keep

pub returns-clause-table : goal.returns-clause-table
returns-clause-table c = λ transcript table all keeps. each-end breaks_payload [] transcript table keeps (table-keeps breaks_payload table_free transcript table all)
