-- The induction from the beginning.
use Rattle.std.proofs.Common.{ℕ, zero, suc, [], ◌≡◌, refl}
use Rattle.zw_text.specs.Transcript.{outcome}
use Rattle.host_model.specs.State.{first_host}
use Rattle.host_model.specs.Did.{after_all}
use Rattle.proof_host.specs.Entries.{entries_all}
use Rattle.proof_host.specs.Tables.{outcome_in}
use Rattle.proof_host.specs.Facts.{entries_of_runs, last_of_runs}
use Rattle.proof_host.proofs.laws.hosts_keep_laws.Goals as goal

first_told : (number : ℕ) → outcome number [] ≡ outcome_in [] number
first_told zero = refl
first_told (suc k) = refl

pub returns-clause-laws : goal.returns-clause-laws
returns-clause-laws c = λ keys runs are.
    c.laws_follow.ensures.laws (entries_of_runs (first_host keys) runs) (last_of_runs (first_host keys) runs)
    (c.restarts_keep_facts.ensures.runs [] (first_host keys) runs (c.first_facts_hold.ensures keys) are)

pub returns-clause-tables : goal.returns-clause-tables
returns-clause-tables c = λ keys runs are.
    c.laws_follow.ensures.tables (entries_of_runs (first_host keys) runs) (last_of_runs (first_host keys) runs)
    (c.restarts_keep_facts.ensures.runs [] (first_host keys) runs (c.first_facts_hold.ensures keys) are)

pub returns-clause-run : goal.returns-clause-run
returns-clause-run c = λ keys events may.
    c.laws_follow.ensures.laws (entries_all (first_host keys) events) (after_all (first_host keys) events)
    (c.events_keep_facts.ensures.all [] (first_host keys) events (c.first_facts_hold.ensures keys) may)

pub returns-clause-told : goal.returns-clause-told
returns-clause-told c = λ keys events may. c.outcomes_are_told.ensures.all [] (first_host keys) events (c.first_facts_hold.ensures keys) first_told may

pub returns-clause-stores : goal.returns-clause-stores
returns-clause-stores c = λ keys runs are.
    c.laws_follow.ensures.stores (entries_of_runs (first_host keys) runs) (last_of_runs (first_host keys) runs)
    (c.restarts_keep_facts.ensures.runs [] (first_host keys) runs (c.first_facts_hold.ensures keys) are)
