use Rattle.std.proofs.Common.{◌≡◌, ℕ, List, ap, sym, ◌∙◌, subst}
use Rattle.encap.specs.Written.{written_form}
use Rattle.device_kinds.specs.Answers.{worded}
use Rattle.device_kinds.specs.Worded.{IsShort}
use Rattle.device_kinds.proofs.WordedLemmas.{worded_short, wrappable, are_short}
use Rattle.device_kinds.proofs.answers.word.Goals as goal

pub wrap-requires-clause-wrappable : goal.wrap-requires-clause-wrappable
wrap-requires-clause-wrappable c =
    wrappable c.args.plan.now c.in_ok-commands.commands.items c.args.message.now c.requires.alone c.requires.unsupervised c.requires.answer c.in_ok-commands.ensures

pub wrap-requires-clause-short : goal.wrap-requires-clause-short
wrap-requires-clause-short c = are_short c.in_ok-commands.commands.items c.args.message.now c.requires.answer c.in_ok-commands.ensures

pub returns-in-Ok-clause-short : goal.returns-in-Ok-clause-short
returns-in-Ok-clause-short c =
    let same : c.in-Ok.text ≡ worded c.args.plan.now c.args.message.now =
    c.in-Ok.ensures.form ∙ ap (λ (x : List (List ℕ)). written_form c.args.plan.now x) c.in_ok-commands.ensures in
    subst (λ (x : List ℕ). IsShort x) (sym same)
    (worded_short c.args.plan.now c.args.message.now c.requires.alone c.requires.unsupervised c.requires.answer)
