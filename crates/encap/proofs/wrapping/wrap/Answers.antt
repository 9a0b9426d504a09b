use Rattle.std.proofs.Common.{◌≡◌, ℕ, List, Bool, None, ap, sym, ◌∙◌}
use Rattle.encap.specs.Written.{batch_text, only_of, batched_form, supervised_form, addressed_form, checked_form, written_form, too_long, too_long_by}
use Rattle.encap.proofs.FormLemmas.{form_wraps}
use Rattle.encap.proofs.wrapping.wrap.Goals as goal
use Rattle.encap.proofs.wrapping.wrap.Goals.{then-plan+in_ok-batched, else-plan+in_ok-batched-2}

pub returns-clause-wraps : goal.returns-clause-wraps
returns-clause-wraps c =
    let items : c.as_slice-commands.result.now ≡ c.args.commands.now.items = c.as_slice-commands.ensures in
    let batched : c.if-plan.batched ≡ batched_form c.args.plan.now.batch c.args.commands.now.items =
    elim c.if-plan.branch [
      | then-plan+in_ok-batched w ↦
          (w.batched-is ∙ w.in_ok-batched.ensures ∙ ap batch_text items
          ∙ sym (ap (λ (b : Bool). batched_form b c.args.commands.now.items) w.if-plan.true))
      | else-plan+in_ok-batched-2 w ↦
          (w.batched-is ∙ w.in_ok-batched-2.ensures ∙ ap only_of items
          ∙ sym (ap (λ (b : Bool). batched_form b c.args.commands.now.items) w.if-plan.false))
    ] in
    let fits : too_long c.args.plan.now c.args.commands.now.items ≡ None =
    ap (λ (x : List (List ℕ)). too_long_by c.args.plan.now.batch c.args.plan.now.session x) (sym items) ∙ sym c.unfit.ensures ∙ c.in_default.is in
    let form : c.in_ok-checked.field-0 ≡ written_form c.args.plan.now c.args.commands.now.items =
    c.in_ok-checked.ensures
    ∙ ap (checked_form c.args.plan.now.outer)
    (c.in_ok-addressed.ensures.form
    ∙ ap (addressed_form c.args.plan.now.channel)
    (c.in_ok-supervised.ensures ∙ ap (supervised_form c.args.plan.now.session) batched)) in
    form_wraps c.args.plan.now c.args.commands.now.items c.in_ok-checked.field-0 c.requires.wrappable c.in_ok-addressed.ensures.ends fits form
