use Rattle.std.proofs.Common.{◌≡◌, ◌+◌, ◌<◌, ℕ, List, ◌∷◌, length, drop, sym, ◌∙◌, ap, arith}
use Rattle.std.proofs.lemmas.List.{drop_more}
use Rattle.zw_base.specs.declared.property.Property.{Property}
use Rattle.zw_base.specs.declared.property.Setting.{Setting}
use Rattle.class_info.specs.InfoReading.{info_at}
use Rattle.device_kinds.specs.Values.{value_by, value_after, level_after}
use Rattle.device_kinds.specs.Settings.{merged}
use Rattle.device_kinds.specs.Judging.{judged}
use Rattle.device_kinds.proofs.JudgingLemmas.{judged_step}
use Rattle.device_kinds.proofs.judging.judge_all.Goals as goal

pub loop-command-preserved : goal.loop-command-preserved
loop-command-preserved c =
    let values : Property → ℕ = λ property. value_after c.args.journal.now property 0 in
    let last : ℕ = level_after c.args.journal.now 99 in
    let less : c.loop-command.command-index < length c.args.commands.now = omega arith in
    let split : drop c.loop-command.command-index c.args.commands.now ≡ c.command-item.result ∷ drop (c.loop-command.command-index + 1) c.args.commands.now =
    drop_more c.args.commands.now c.loop-command.command-index c.command-item.result less
    ∙ ap (λ (x : List ℕ). x ∷ drop (c.loop-command.command-index + 1) c.args.commands.now) (sym c.command-item.is) in
    let verdict =
    ap (λ (x : List ℕ). judged c.args.kind (λ property. value_by c.loop-command.made property (values property)) last c.args.end (info_at x)) (sym c.as_slice-in-loop-command.ensures)
    ∙ ap (λ (x : List Setting). judged c.args.kind (λ property. value_by x property (values property)) last c.args.end (info_at c.as_slice-in-loop-command.result.now)) (sym c.as_slice.ensures)
    ∙ sym c.in_ok-verdict.ensures ∙ c.in-Makes.is in
    let made =
    c.in_ok-made-in-Makes.ensures
    ∙ ap (λ (x : List Setting). merged x c.as_slice-in-Makes-2.result.now) c.as_slice-in-Makes.ensures
    ∙ ap (λ (x : List Setting). merged c.loop-command.made x) c.as_slice-in-Makes-2.ensures in
    judged_step c.args.kind values last c.args.end c.loop-command.made c.in_ok-made-in-Makes.made c.in-Makes.settings c.command-item.result
    (drop c.loop-command.command-index c.args.commands.now) (drop (c.loop-command.command-index + 1) c.args.commands.now) verdict made split
    ∙ c.loop-command.invariant
