use Rattle.std.proofs.Common.{◌≡◌, subst, List, ℕ, [], OnErr, OnOk}
use Rattle.run_lines.proofs.Pieces.{OnErr-always}
use Rattle.std.proofs.lemmas.Result.{on_err_weaker}
use Rattle.run_lines.proofs.Growing.{prefix_any, on_ok}
use Rattle.include_world.specs.World.{WorldState}
use Rattle.run_include.specs.Run.{AnswersLine, StopsLine, pieces_of}
use Rattle.run_include.proofs.IncludeRun.{answers_line, stops_line}
use Rattle.run_include.proofs.machine.IncludeMachine.run_one.Goals as goal

pub returns-in_err-stepped-clause-err : goal.returns-in_err-stepped-clause-err
returns-in_err-stepped-clause-err g c =
    OnErr-always _ _ (subst (λ (w : WorldState). StopsLine c.args.text.now c.args.line.now w c.step-stepped.new.self c.add_entries-added.new.out.items) c.self.view_is
    (stops_line c.args.text.now c.args.line.now c.self.inside.world c.step-stepped.new.self _ c.step-stepped.new.out.items c.as_slice.result.now _ c.add_entries-added.new.out.items
    c.new-entries.ensures c.as_slice.ensures c.requires c.in_err-stepped.ensures.added c.in_err-stepped.ensures.err
    (prefix_any c.add_entries-added.result c.args.out.now.items (pieces_of c.as_slice.result.now) c.add_entries-added.new.out.items c.add_entries-added.ensures.ok c.add_entries-added.ensures.prefix)))

pub returns-clause-ok : goal.returns-clause-ok
returns-clause-ok g c =
    on_ok _ _ _ (λ is. subst (λ (w : WorldState). AnswersLine c.args.text.now c.args.line.now w c.step-stepped.new.self c.add_entries-added.new.out.items) c.self.view_is
    (answers_line c.args.text.now c.args.line.now c.self.inside.world c.step-stepped.new.self _ c.step-stepped.new.out.items c.as_slice.result.now _ c.add_entries-added.new.out.items
    c.new-entries.ensures c.as_slice.ensures c.requires c.in_ok-stepped.ensures.added c.in_ok-stepped.ensures.ok is)) c.add_entries-added.ensures.ok

pub returns-clause-err : goal.returns-clause-err
returns-clause-err g c =
    on_err_weaker _ (λ prefix. subst (λ (w : WorldState). StopsLine c.args.text.now c.args.line.now w c.step-stepped.new.self c.add_entries-added.new.out.items) c.self.view_is
    (stops_line c.args.text.now c.args.line.now c.self.inside.world c.step-stepped.new.self _ c.step-stepped.new.out.items c.as_slice.result.now _ c.add_entries-added.new.out.items
    c.new-entries.ensures c.as_slice.ensures c.requires c.in_ok-stepped.ensures.added (c.in_ok-stepped.ensures.ok.0, c.in_ok-stepped.ensures.ok.2) prefix)) c.add_entries-added.ensures.prefix
