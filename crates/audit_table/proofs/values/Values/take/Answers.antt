use Rattle.std.proofs.Common.{ap, ◌∙◌}
use Rattle.audit_table.proofs.Maps.{values-reset}
use Rattle.audit_table.proofs.values.Values.take.Goals as goal

pub returns-clause-rest : goal.returns-clause-rest
returns-clause-rest c =
    values-reset (λ known. known.entries) c.self.inside.nodes.items c.args.self.now c.from-place.result c.args.node c.replace.new.dest
    c.self.view_is (c.from-place.ensures ∙ c.number.ensures.value) (ap (λ known. known.entries) c.replace.ensures.after ∙ c.new.ensures.empty)
