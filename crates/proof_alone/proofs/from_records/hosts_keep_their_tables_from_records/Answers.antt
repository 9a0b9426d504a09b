use Rattle.std.specs.Prelude.{Some}
use Rattle.proof_alone.specs.State.{first_alone}
use Rattle.proof_alone.proofs.TablesSince.{tables_since}
use Rattle.proof_alone.proofs.from_records.hosts_keep_their_tables_from_records.Goals as goal

pub returns : goal.returns
returns c = λ keys texts.
    tables_since c.a_restart_keeps_what_is_held.ensures.opened c.hosts_keep_their_tables.ensures.walk c.laws_follow.ensures.laws
    c.records_keep_facts.ensures.opened (first_alone keys (Some texts)) texts
