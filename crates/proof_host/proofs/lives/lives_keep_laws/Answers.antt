-- The facts go from the beginning through all lives.
use Rattle.std.proofs.Common.{[], sym, subst}
use Rattle.host_model.specs.host_keep.Kept.{Kept}
use Rattle.host_model.specs.Holding.{Holds}
use Rattle.host_model.specs.State.{first_host}
use Rattle.proof_host.specs.Lives.{entries_of_lives, last_of_lives}
use Rattle.proof_host.proofs.HostsFromRecords.{nothing_kept, nothing_legal}
use Rattle.proof_host.proofs.lives.lives_keep_laws.Goals as goal

pub returns-clause-laws : goal.returns-clause-laws
returns-clause-laws c = λ keys lives are.
    c.laws_follow.ensures.laws (entries_of_lives keys (first_host keys) [] lives) (last_of_lives keys (first_host keys) [] lives)
    (c.lives_keep_facts.ensures keys [] (first_host keys) [] lives (c.first_facts_hold.ensures keys)
    (subst (λ (k : Kept). Holds (first_host keys) k) (sym nothing_kept) (c.a_host_begins_with_what_is_kept.ensures keys).holds) nothing_legal are)

pub returns-clause-tables : goal.returns-clause-tables
returns-clause-tables c = λ keys lives are.
    c.laws_follow.ensures.tables (entries_of_lives keys (first_host keys) [] lives) (last_of_lives keys (first_host keys) [] lives)
    (c.lives_keep_facts.ensures keys [] (first_host keys) [] lives (c.first_facts_hold.ensures keys)
    (subst (λ (k : Kept). Holds (first_host keys) k) (sym nothing_kept) (c.a_host_begins_with_what_is_kept.ensures keys).holds) nothing_legal are)

pub returns-clause-stores : goal.returns-clause-stores
returns-clause-stores c = λ keys lives are.
    c.laws_follow.ensures.stores (entries_of_lives keys (first_host keys) [] lives) (last_of_lives keys (first_host keys) [] lives)
    (c.lives_keep_facts.ensures keys [] (first_host keys) [] lives (c.first_facts_hold.ensures keys)
    (subst (λ (k : Kept). Holds (first_host keys) k) (sym nothing_kept) (c.a_host_begins_with_what_is_kept.ensures keys).holds) nothing_legal are)
