use Rattle.std.proofs.Common.{◌≡◌, List, ℕ, [], ◌++◌, ◌∷◌, ap, sym, ◌∙◌, append-nil}
use Rattle.encap.proofs.BatchLemmas.{list_end, one_read}
use Rattle.encap.proofs.batch.collect.Goals as goal

pub loop-command-preserved : goal.loop-command-preserved
loop-command-preserved c = λ commands is.
    let kept = c.loop-command.invariant commands is in
    let read = one_read kept.0 c.loop-command.rest.now c.in-Some.command.now c.in-Some.after.now commands c.loop-command.commands.items kept.1 c.in-Some.ensures.split kept.2 in
    let pushed : c.push.new.self.items ≡ c.loop-command.commands.items ++ c.in-Some.command.now ∷ [] =
    c.in_ok-push.ensures.ok ∙ ap (λ (x : List ℕ). c.loop-command.commands.items ++ x ∷ []) c.in_ok-from_slice.ensures in
    (read.0, read.1, read.2 ∙ ap (λ (x : List (List ℕ)). x ++ read.0) (sym pushed))

pub returns : goal.returns
returns c = λ commands is.
    let kept = c.loop-command.invariant commands is in
    sym (kept.2 ∙ ap (λ (x : List (List ℕ)). c.loop-command.commands.items ++ x) (list_end kept.0 c.loop-command.rest.now kept.1 c.in_default.ensures.short)
    ∙ append-nil c.loop-command.commands.items)
