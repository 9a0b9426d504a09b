-- Taking out the first place of a command.
use Rattle.std.proofs.Common.{◌≡◌, ◌≢◌, ℕ, suc, zero, List, [], ◌∷◌, ◌++◌, Contains, ap, sym, ◌∙◌, arith}
use Rattle.std.proofs.lemmas.Bool.Decides.{nat_tests}
use Rattle.wake_mailbox.specs.Mailbox.{TakesOut}
use Rattle.host_node.specs.Steps.{without}

-- a number at the head is passed over where it is another one
without_head : (first command : ℕ) (rest : List ℕ) → first ≢ command → without (first ∷ rest) command ≡ first ∷ without rest command
without_head first command rest other = grind (arith, nat_tests)

-- what stands before is passed over
without_passes : (before after : List ℕ) (command : ℕ) → ¬ Contains before command
    → without (before ++ command ∷ after) command ≡ before ++ after
without_passes [] after command none = grind (arith, nat_tests)
without_passes (first ∷ rest) after command none =
    without_head first command (rest ++ command ∷ after) (λ e. none (zero, omega arith, e))
    ∙ ap (λ (l : List ℕ). first ∷ l) (without_passes rest after command (λ within. none (suc within.0, omega (arith, within.1), within.2)))

pub taken_out_is_without : {old new : List ℕ} {command : ℕ} → TakesOut old new command → new ≡ without old command
taken_out_is_without {old} {new} {command} t =
    t.stay ∙ sym (without_passes t.before t.after command t.first) ∙ ap (λ (l : List ℕ). without l command) (sym t.stood)
