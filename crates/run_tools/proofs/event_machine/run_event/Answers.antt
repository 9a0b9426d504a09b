use Rattle.std.proofs.Common.{◌≡◌, ◌∙◌, subst, OnErr, ℕ, List, [], ◌∷◌, ◌++◌, map, ap}
use Rattle.event_flow.specs.declared.entry.EventEntry.{EventEntry}
use Rattle.event_flow.specs.Steps.{entries}
use Rattle.run_lines.proofs.Pieces.{OnErr-always}
use Rattle.run_tools.specs.Events.{entry_line, line_pieces, said_line}
use Rattle.run_tools.proofs.EventPieces.{all_left, first_there, leading_following}
use Rattle.std.proofs.lemmas.Result.{on_err_weaker}
use Rattle.run_tools.proofs.event_machine.run_event.Goals as goal

pub returns-in_err-said-clause-prefix : goal.returns-in_err-said-clause-prefix
returns-in_err-said-clause-prefix c = OnErr-always _ _ (all_left _ (line_pieces c.args.world.now c.args.line.now) c.requires)

pub returns-in_err-push-clause-prefix : goal.returns-in_err-push-clause-prefix
returns-in_err-push-clause-prefix c =
    OnErr-always _ _ (all_left _ (line_pieces c.args.world.now c.args.line.now) (c.in_err-push.ensures.err ∙ c.requires))

pub returns-in_err-step-clause-prefix : goal.returns-in_err-step-clause-prefix
returns-in_err-step-clause-prefix c =
    OnErr-always _ _ (first_there c.args.out.now.items c.push.new.self.items (map entry_line (entries c.args.world.now c.args.line.now)) (said_line c.args.line.now) c.requires
    (c.in_ok-push.ensures.ok ∙ ap (λ (piece : List ℕ). c.args.out.now.items ++ piece ∷ []) (c.as_slice-text.ensures ∙ c.in_ok-said.ensures)))

pub returns-clause-prefix : goal.returns-clause-prefix
returns-clause-prefix c =
    let same : c.as_slice-told.result.now ≡ entries c.args.world.now c.args.line.now =
    c.as_slice-told.ensures ∙ c.in_ok-step.ensures.entries ∙ ap (λ (es : List EventEntry). es ++ entries c.args.world.now c.args.line.now) c.new-entries.ensures in
    on_err_weaker _ (leading_following c.args.out.now.items c.push.new.self.items c.add_entries.new.out.items (map entry_line (entries c.args.world.now c.args.line.now)) (said_line c.args.line.now) c.requires
    (c.in_ok-push.ensures.ok ∙ ap (λ (piece : List ℕ). c.args.out.now.items ++ piece ∷ []) (c.as_slice-text.ensures ∙ c.in_ok-said.ensures)))
    (subst (λ (es : List EventEntry). OnErr c.add_entries.result ((rest : List (List ℕ)) × (c.push.new.self.items ++ map entry_line es ≡ c.add_entries.new.out.items ++ rest))) same c.add_entries.ensures.prefix)
