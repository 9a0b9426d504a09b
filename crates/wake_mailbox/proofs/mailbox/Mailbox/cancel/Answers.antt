-- What is taken out stood at the first place of that command.
use Rattle.std.proofs.Common.{◌≡◌, ℕ, List, Contains, refl, sym, ap, subst, ◌∙◌}
use Rattle.wake_mailbox.specs.Mailbox.{Waiting}
use Rattle.wake_mailbox.proofs.Places.{takes_out}
use Rattle.wake_mailbox.proofs.mailbox.Mailbox.cancel.Goals as goal

pub returns-in-Some-clause-waits : goal.returns-in-Some-clause-waits
returns-in-Some-clause-waits c =
    let same : c.deref.result.now ≡ c.args.self.now.commands =
    c.deref.ensures.value ∙ ap (λ (m : Waiting). m.commands) c.self.view_is in
    (λ _. subst (λ (xs : List ℕ). Contains xs c.args.command) same (c.in-Some.ensures.waits.0 refl), λ _. refl)

pub returns-in-Some-clause-ok : goal.returns-in-Some-clause-ok
returns-in-Some-clause-ok c =
    let same : c.deref.result.now ≡ c.args.self.now.commands =
    c.deref.ensures.value ∙ ap (λ (m : Waiting). m.commands) c.self.view_is in
    rw (c.remove.ensures.items, ← same, ← c.deref.ensures.value)
    (takes_out c.deref.result.now c.in-Some.place c.args.command (sym c.in-Some.ensures.place))
