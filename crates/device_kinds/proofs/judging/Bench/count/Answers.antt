use Rattle.std.proofs.Common.{◌≡◌, ◌+◌, ◌<◌, ℕ, Bool, sym, ◌∙◌, ap, arith}
use Rattle.std.specs.Prelude.{count_by, not, ◌==◌}
use Rattle.zw_base.specs.declared.property.Name.TheVariants as names
use Rattle.zw_base.specs.declared.property.Property.{Property}
use Rattle.device_kinds.specs.Kind.{all_nodes, nodes_from}
use Rattle.device_kinds.specs.Values.{value_by, value_after}
use Rattle.device_kinds.specs.Judging.{is_member, member_count}
use Rattle.device_kinds.proofs.NodeLemmas.{count_in, count_out, count_done, not_zero, is_zero}
use Rattle.device_kinds.proofs.judging.Bench.count.Goals as goal
use Rattle.device_kinds.proofs.judging.Bench.count.Goals.{then-value_with-ne0, else-value_with-ne0}

pub loop-before-preserved : goal.loop-before-preserved
loop-before-preserved c =
    let at : ℕ → Property = λ n. record { end = c.args.self.now.end; name = names.Member 1 n } in
    let values : Property → ℕ = λ property. value_by c.args.self.now.made.now property (value_after c.args.self.now.journal.now property 0) in
    let p : ℕ → Bool = is_member values c.args.settings.now c.args.self.now.end in
    let less : c.loop-before.before < 232 = omega arith in
    let value : c.value_with.result ≡ value_by c.args.settings.now (at (c.loop-before.before + 1)) (values (at (c.loop-before.before + 1))) =
    c.value_with.ensures
    ∙ ap (λ (x : ℕ). value_by c.args.settings.now (at c.node.result) x) c.value.ensures
    ∙ ap (λ (n : ℕ). value_by c.args.settings.now (at n) (values (at n))) c.node.ensures in
    let tests : not (c.value_with.result == 0) ≡ p (c.loop-before.before + 1) = ap (λ (v : ℕ). not (v == 0)) value in
    elim c.if-value_with-ne0.branch [
      | then-value_with-ne0 w ↦ record {
        counted =
            ap (λ (n : ℕ). n + count_by p (nodes_from (c.loop-before.before + 1))) w.count-is
            ∙ count_in p c.loop-before.before c.loop-before.count (count_by p all_nodes) less (sym tests ∙ not_zero c.value_with.result w.if-value_with-ne0.true) c.loop-before.invariant.counted;
        small = omega arith;
      }
      | else-value_with-ne0 w ↦ record {
        counted =
            ap (λ (n : ℕ). n + count_by p (nodes_from (c.loop-before.before + 1))) w.count-is
            ∙ count_out p c.loop-before.before c.loop-before.count (count_by p all_nodes) less (sym tests ∙ is_zero c.value_with.result w.if-value_with-ne0.false) c.loop-before.invariant.counted;
        small = omega arith;
      }
    ]

pub returns-clause-value : goal.returns-clause-value
unfolding member_count
returns-clause-value c =
    let values : Property → ℕ = λ property. value_by c.args.self.now.made.now property (value_after c.args.self.now.journal.now property 0) in
    let p : ℕ → Bool = is_member values c.args.settings.now c.args.self.now.end in
    let full : 232 ≡ c.loop-before.before = omega arith in
    count_done p c.loop-before.count (count_by p all_nodes) (ap (λ (n : ℕ). c.loop-before.count + count_by p (nodes_from n)) full ∙ c.loop-before.invariant.counted)
