use Rattle.std.proofs.Common.{◌≡◌, List, ℕ, ◌++◌, ◌∙◌, ap, sym, subst, string_bytes}
use Rattle.unit_report.specs.Named.{Named, Shows}
use Rattle.unit_report.specs.Report.{AddsItems}
use Rattle.unit_report.proofs.Lines.{named-all}
use Rattle.unit_report.proofs.reporting.report.Goals as goal

pub returns : goal.returns
returns c =
    let new : c.extend.new.self ≡ c.add_items.new.out ++ string_bytes c.in_ok-line.line =
    c.in_ok-extend.ensures.ok ∙ ap (λ (t : List ℕ). c.add_items.new.out ++ t) c.as_bytes.ensures.value in
    let added = subst (λ (old : List ℕ). AddsItems c.args.from c.args.bytes.now old c.add_items.new.out c.in_ok-rest.rest) c.new-out.ensures c.in_ok-rest.ensures in
    subst (λ (t : List ℕ). Shows (Named c.args.from c.args.bytes.now) t) (sym new)
    (named-all _ _ _ _ _ added c.in_ok-line.ensures)
