use Rattle.std.proofs.Common.{◌≡◌, ℕ, List, ◌++◌, drop, sym, ap, subst, ◌∙◌}
use Rattle.std.proofs.lemmas.List.{take-append-drop}
use Rattle.class_info.specs.InfoSpelling.{form, Spells}
use Rattle.class_info.proofs.FormLaws.{form_spells}
use Rattle.class_info.proofs.writing.write.Goals as goal

pub returns-clause-spelled : goal.returns-clause-spelled
returns-clause-spelled c =
    let m = c.args.message.now in
    let whole : c.put_fields.new.out ≡ form m = c.in_ok-put_fields.ensures.ok ∙ ap (λ (x : List ℕ). x ++ drop 2 (form m)) (c.in_ok-out.ensures ∙ c.head.ensures) ∙ take-append-drop 2 (form m) in
    subst (λ (bytes : List ℕ). Spells m bytes) (sym whole) (form_spells m c.in_ok-put_fields.ensures.range)
