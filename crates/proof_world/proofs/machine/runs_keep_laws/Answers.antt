-- The laws follow from the facts, which hold over restarts too.
use Rattle.std.proofs.Common.{[]}
use Rattle.proof_device.specs.world_model.State.{first_machine}
use Rattle.proof_world.proofs.machine.runs_keep_laws.Goals as goal

pub returns-clause-laws : goal.returns-clause-laws
returns-clause-laws c = λ keys records devices events empty may well.
    let first = c.the_machine_keeps_facts.ensures.first keys records devices in
    c.laws_follow.ensures.laws _ _
    (c.the_machine_keeps_facts.ensures.all [] (first_machine keys records devices) events first may
    (c.restarts_go_on.ensures.all [] (first_machine keys records devices) events first (c.restarts_go_on.ensures.first keys records empty) may well).0)

pub returns-clause-tables : goal.returns-clause-tables
returns-clause-tables c = λ keys records devices events empty may well.
    let first = c.the_machine_keeps_facts.ensures.first keys records devices in
    c.laws_follow.ensures.tables _ _
    (c.the_machine_keeps_facts.ensures.all [] (first_machine keys records devices) events first may
    (c.restarts_go_on.ensures.all [] (first_machine keys records devices) events first (c.restarts_go_on.ensures.first keys records empty) may well).0)

pub returns-clause-stores : goal.returns-clause-stores
returns-clause-stores c = λ keys records devices events empty may well.
    let first = c.the_machine_keeps_facts.ensures.first keys records devices in
    c.laws_follow.ensures.stores _ _
    (c.the_machine_keeps_facts.ensures.all [] (first_machine keys records devices) events first may
    (c.restarts_go_on.ensures.all [] (first_machine keys records devices) events first (c.restarts_go_on.ensures.first keys records empty) may well).0)
