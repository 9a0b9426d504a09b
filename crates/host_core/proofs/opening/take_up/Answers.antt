use Rattle.std.proofs.Common.{◌≡◌, ℕ, Err, Result, sym, ap, ◌∙◌}
use Rattle.host_keep.specs.declared.record.Record.{Record}
use Rattle.host_model.specs.Restoring.{may_restore}
use Rattle.host_core.specs.declared.opening.OpenFault.{OpenFault}
use Rattle.host_core.specs.declared.opening.OpenFault.TheVariants.{BadRecord}
use Rattle.host_core.proofs.opening.take_up.Goals as goal

same_place : {A : Type 0} (at place : ℕ) → (let r : Result A OpenFault = Err (BadRecord at) in r) ≡ Err (BadRecord place) → place ≡ at
same_place at place e = cc

pub returns-else-branch-clause-bad : goal.returns-else-branch-clause-bad
returns-else-branch-clause-bad g c = λ place e.
    let found = c.in-Ok.ensures.found in (
      same_place c.args.at place e,
      (
        found.0,
        found.1,
        λ one is.
            ap (λ (r : Record). may_restore c.args.core.now.state r) (c.a_text_is_of_one_record.ensures one c.in-Ok.next found.0 is found.2)
            ∙ sym c.in_ok-restore.ensures.taken ∙ c.if-branch.false,
      ),
    )
