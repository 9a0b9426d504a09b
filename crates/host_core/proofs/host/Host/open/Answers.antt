-- Each record is read and taken up, and then the host restarts.
use Rattle.std.proofs.Common.{◌≡◌, ℕ, List, Option, Err, Result, refl, sym, ap, ◌∙◌, subst, arith}
use Rattle.s0_crypto.specs.declared.key_pair.Keys.{Keys}
use Rattle.host_keep.specs.Legal.{IsFirstBad}
use Rattle.host_model.specs.State.{first_host}
use Rattle.s0_crypto.specs.Sealing.{keys_of}
use Rattle.host_core.specs.Opening.{Takes, MayTakeNone}
use Rattle.host_core.specs.Recorded.{TablesAreTold}
use Rattle.host_core.specs.declared.opening.OpenFault.{OpenFault}
use Rattle.host_core.specs.declared.opening.OpenFault.TheVariants.{BadRecord}
use Rattle.host_model.proofs.EventLists.{rose_less}
use Rattle.host_core.proofs.Opened.{TookUp, fresh, took_none, took_more, first_bad, opens, read_none, read_more, read_on}
use Rattle.host_core.proofs.host.Host.open.Goals as goal

fault_is : {A : Type 0} (fault : OpenFault) (at : ℕ) → (let r : Result A OpenFault = Err fault in r) ≡ Err (BadRecord at) → fault ≡ BadRecord at
fault_is fault at e = cc

pub loop-at-init : goal.loop-at-init
loop-at-init g c =
    let keys = keys_of c.args.key in
    record {
      took = took_none keys (g.P.Keeper.shelf c.args.keeper.now).records c.in_ok-core.core (c.legal_records_restore_the_host.ensures.nothing (first_host keys))
          (c.in_ok-core.ensures ∙ ap (λ (k : Keys). fresh (first_host k)) c.keys.ensures);
      number = refl;
      records = refl;
      reads = read_none (g.P.Keeper.reads c.args.keeper.now);
      never_falls = omega arith;
    }

pub loop-at-preserved : goal.loop-at-preserved
loop-at-preserved g c =
    let so_far = c.loop-at.invariant in
    let at = c.loop-at.at in
    record {
      took = took_more c.a_record_restores_what_it_says.ensures.may c.legal_records_restore_the_host.ensures.holds c.records_go_on.ensures.legal c.legal_records_restore_the_host.ensures.more c.legal_records_restore_the_host.ensures.one
          (keys_of c.args.key) (g.P.Keeper.shelf c.args.keeper.now).records at c.loop-at.core c.take_up.new.core so_far.took
          (subst (λ (o : Option (List (List ℕ))). Takes o at c.loop-at.core c.take_up.new.core) so_far.records c.in_default.ensures.takes);
      number = c.take_up.ensures.number ∙ so_far.number;
      records = c.take_up.ensures.records ∙ so_far.records;
      reads = read_more at (g.P.Keeper.reads c.args.keeper.now) (g.P.Keeper.reads c.loop-at.keeper) (g.P.Keeper.reads c.take_up.new.keeper) so_far.reads c.in_default.ensures.reads;
      never_falls = omega (arith, so_far.never_falls, c.take_up.ensures.never_falls);
    }

pub returns-in_err-core-clause-reads_never_fall : goal.returns-in_err-core-clause-reads_never_fall
returns-in_err-core-clause-reads_never_fall g c = read_none (g.P.Keeper.reads c.args.keeper.now)

pub returns-in-Err-clause-reads_never_fall : goal.returns-in-Err-clause-reads_never_fall
returns-in-Err-clause-reads_never_fall g c =
    read_on c.loop-at.at (g.P.Keeper.reads c.args.keeper.now) (g.P.Keeper.reads c.loop-at.keeper) (g.P.Keeper.reads c.take_up.new.keeper) c.loop-at.invariant.reads c.take_up.ensures.read

pub returns-clause-reads_never_fall : goal.returns-clause-reads_never_fall
returns-clause-reads_never_fall g c = rose_less 0 c.loop-at.at (g.P.Keeper.reads c.args.keeper.now) (g.P.Keeper.reads c.loop-at.keeper) (omega arith) c.loop-at.invariant.reads

pub returns-in-Err-clause-bad : goal.returns-in-Err-clause-bad
returns-in-Err-clause-bad g c = λ at texts e told.
    let so_far = c.loop-at.invariant in
    let here = c.loop-at.at in
    let none = c.in-Err.ensures.bad at (ap (λ (f : OpenFault). Err f) (fault_is c.in-Err.fault at e)) in
    subst (λ (k : ℕ). IsFirstBad texts k) (sym none.0)
    (first_bad c.a_record_restores_what_it_says.ensures.may c.legal_records_restore_the_host.ensures.holds (keys_of c.args.key) texts here c.loop-at.core
    (subst (λ (o : Option (List (List ℕ))). TookUp (keys_of c.args.key) o here c.loop-at.core) told so_far.took)
    (subst (λ (o : Option (List (List ℕ))). MayTakeNone o here c.loop-at.core.state) (so_far.records ∙ told) none.1))

pub returns-clause-opens : goal.returns-clause-opens
returns-clause-opens g c =
    let number = g.P.Keeper.number c.args.keeper.now in
    let end : c.loop-at.at ≡ c.count-at-end.result = omega (arith, c.loop-at-test.false, c.loop-at.auto.at-end) in
    opens (keys_of c.args.key) (g.P.Keeper.shelf c.args.keeper.now).records number c.loop-at.core c.restart.new.self
    (subst (λ (k : ℕ). TookUp (keys_of c.args.key) (g.P.Keeper.shelf c.args.keeper.now).records k c.loop-at.core) (end ∙ c.count-at-end.ensures) c.loop-at.invariant.took)
    (g.met.P.Keeper.tells_all c.args.keeper.now) c.restart.ensures

pub returns-clause-tables : goal.returns-clause-tables
returns-clause-tables g c =
    subst (λ (o : Option (List (List ℕ))). TablesAreTold o c.restart.new.self.state) (sym c.loop-at.invariant.records)
    (c.tables_stand_in_the_records.ensures.open (keys_of c.args.key) (g.P.Keeper.number c.args.keeper.now) (g.P.Keeper.shelf c.args.keeper.now).records c.restart.new.self (returns-clause-opens g c))
