use Rattle.std.proofs.Common.{ap, ◌∙◌}
use Rattle.std.specs.Prelude.{unwrap_or}
use Rattle.audit_table.specs.Knowing.{nothing_known}
use Rattle.audit_table.proofs.Maps.{lookup-by}
use Rattle.audit_table.proofs.values.known_of.Goals as goal

pub returns-in-Some : goal.returns-in-Some
returns-in-Some c =
    ap (λ known. unwrap_or known nothing_known) (c.in-Some.ensures.value ∙ lookup-by _ c.args.values.now.entries c.args.property.now c.by_properties.ensures)

pub returns-in-None : goal.returns-in-None
returns-in-None c =
    ap (λ known. unwrap_or known nothing_known) (c.in-None.ensures.value ∙ lookup-by _ c.args.values.now.entries c.args.property.now c.by_properties.ensures)
