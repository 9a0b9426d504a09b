use Rattle.std.proofs.Common.{sym, ap, subst}
use Rattle.host_keep.specs.Kept.{first_kept, kept_of}
use Rattle.host_model.specs.State.{HostState, HostParts, first_host}
use Rattle.host_model.specs.Opening.{restored_all}
use Rattle.host_model.specs.Records.{records_at}
use Rattle.host_model.specs.Did.{texts_of}
use Rattle.host_core.specs.Recorded.{TablesAreTold}
use Rattle.host_core.proofs.Tables.{are_told, added_told, tables_on}
use Rattle.host_core.proofs.TablesKept.{first_told, event_told, did_told, restarted_told, all_taken_up_told}
use Rattle.host_core.proofs.laws.tables_stand_in_the_records.Goals as goal

pub returns-clause-new : goal.returns-clause-new
returns-clause-new c = λ keys told. first_told told keys

pub returns-clause-open : goal.returns-clause-open
returns-clause-open c = λ keys number told host o.
    let others = c.a_restart_needs_the_records_alone.ensures.others in
    let laws = c.a_record_restores_what_it_says.ensures in
    subst (λ (h : HostState). TablesAreTold told h) (sym (ap (λ (p : HostParts). p.state) o.state))
    (restarted_told told (restored_all (first_host keys) o.records) (kept_of o.records) (c.legal_records_restore_the_host.ensures.holds keys o.records o.legal).holds
    (c.a_restart_keeps_what_is_held.ensures.opened keys o.records o.legal).holds
    (all_taken_up_told others laws.may laws.holds laws.facts told (first_host keys) first_kept o.records (c.facts_are_kept.ensures.first keys)
    (c.a_host_begins_with_what_is_kept.ensures keys) o.legal (are_told o.records told o.are) (first_told told keys)))

pub returns-clause-event : goal.returns-clause-event
returns-clause-event c = λ h event told told' may range adds t.
    let records = records_at h event in
    event_told c.a_restart_needs_the_records_alone.ensures.others told' h event may (added_told records told told' range adds) (tables_on told told' (texts_of records) h adds t)

pub returns-clause-events : goal.returns-clause-events
returns-clause-events c = λ events old new before all shelf shelf' d t. did_told c.a_restart_needs_the_records_alone.ensures.others events old new before all shelf shelf' d t

pub returns-clause-fed : goal.returns-clause-fed
returns-clause-fed c = λ old new bytes before all shelf shelf' f t.
    did_told c.a_restart_needs_the_records_alone.ensures.others f.events old.state new.state before all shelf shelf' f.did t

pub returns-clause-fed_prefix : goal.returns-clause-fed_prefix
returns-clause-fed_prefix c = λ old new bytes before all shelf shelf' f t.
    let others = c.a_restart_needs_the_records_alone.ensures.others in
    did_told others f.begun f.mid.state new.state f.some all f.kept shelf' f.did (did_told others f.fed.events old.state f.mid.state before f.some shelf f.kept f.fed.did t)
