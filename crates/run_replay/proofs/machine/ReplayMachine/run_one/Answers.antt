use Rattle.std.proofs.Common.{refl, subst}
use Rattle.std.specs.Prelude.{Some, Ok, false}
use Rattle.run_lines.proofs.Pieces.{OnErr-always}
use Rattle.run_lines.specs.Pieces.{pieces_of}
use Rattle.std.proofs.lemmas.Result.{on_err_weaker}
use Rattle.run_lines.proofs.Growing.{prefix_any, on_ok}
use Rattle.run_replay.specs.Machine.{ReplayState}
use Rattle.run_replay.specs.Replay.{AnswersLine, StopsLine, point_of}
use Rattle.run_replay.proofs.ReplayRun.{answers_line, stops_line, no_line, part_of, said_is}
use Rattle.run_replay.proofs.machine.ReplayMachine.run_one.Goals as goal

pub returns-in_err-said_entry-clause-err : goal.returns-in_err-said_entry-clause-err
returns-in_err-said_entry-clause-err g c =
    OnErr-always _ _ (no_line c.args.text.now (point_of c.args.self.now (g.P.Keeper.shelf c.args.keeper.now)) c.args.out.now.items c.requires.empty (Ok (Some c.args.line.now)) refl)

pub returns-in_err-push-clause-err : goal.returns-in_err-push-clause-err
returns-in_err-push-clause-err g c =
    OnErr-always _ _ (no_line c.args.text.now (point_of c.args.self.now (g.P.Keeper.shelf c.args.keeper.now)) c.args.out.now.items c.requires.empty (Ok (Some c.args.line.now)) refl)

pub returns-in_err-stepped-clause-err : goal.returns-in_err-stepped-clause-err
returns-in_err-stepped-clause-err g c =
    OnErr-always _ _ (subst (λ (w : ReplayState). StopsLine c.args.text.now c.args.line.now (point_of w (g.P.Keeper.shelf c.args.keeper.now)) (point_of c.step-stepped.new.self (g.P.Keeper.shelf c.step-stepped.new.keeper)) c.add_entries-added.new.out.items) c.self.view_is
    (stops_line c.args.text.now c.args.line.now (point_of c.self.inside.replay (g.P.Keeper.shelf c.args.keeper.now)) (point_of c.step-stepped.new.self (g.P.Keeper.shelf c.step-stepped.new.keeper)) c.push.new.self.items c.step-stepped.new.out.items c.as_slice.result.now c.args.out.now.items c.add_entries-added.new.out.items (said_is c.args.text.now c.args.line.now c.new-entries.result.items c.push.new.self.items c.in_ok-said_entry.field-0 c.new-entries.ensures c.in_ok-said_entry.ensures c.in_ok-push.ensures.ok) c.as_slice.ensures c.requires.empty c.in_err-stepped.ensures.err
    (prefix_any c.add_entries-added.result c.args.out.now.items (pieces_of false c.as_slice.result.now) c.add_entries-added.new.out.items c.add_entries-added.ensures.ok c.add_entries-added.ensures.prefix)))

pub returns-clause-ok : goal.returns-clause-ok
returns-clause-ok g c =
    on_ok _ _ _ (λ is. subst (λ (w : ReplayState). AnswersLine c.args.text.now c.args.line.now (point_of w (g.P.Keeper.shelf c.args.keeper.now)) (point_of c.step-stepped.new.self (g.P.Keeper.shelf c.step-stepped.new.keeper)) c.add_entries-added.new.out.items) c.self.view_is
    (answers_line c.args.text.now c.args.line.now (point_of c.self.inside.replay (g.P.Keeper.shelf c.args.keeper.now)) (point_of c.step-stepped.new.self (g.P.Keeper.shelf c.step-stepped.new.keeper)) c.push.new.self.items c.step-stepped.new.out.items c.as_slice.result.now c.args.out.now.items c.add_entries-added.new.out.items (said_is c.args.text.now c.args.line.now c.new-entries.result.items c.push.new.self.items c.in_ok-said_entry.field-0 c.new-entries.ensures c.in_ok-said_entry.ensures c.in_ok-push.ensures.ok) c.as_slice.ensures c.requires.empty c.in_ok-stepped.ensures.ok is)) c.add_entries-added.ensures.ok

pub returns-clause-err : goal.returns-clause-err
returns-clause-err g c =
    on_err_weaker _ (λ prefix. subst (λ (w : ReplayState). StopsLine c.args.text.now c.args.line.now (point_of w (g.P.Keeper.shelf c.args.keeper.now)) (point_of c.step-stepped.new.self (g.P.Keeper.shelf c.step-stepped.new.keeper)) c.add_entries-added.new.out.items) c.self.view_is
    (stops_line c.args.text.now c.args.line.now (point_of c.self.inside.replay (g.P.Keeper.shelf c.args.keeper.now)) (point_of c.step-stepped.new.self (g.P.Keeper.shelf c.step-stepped.new.keeper)) c.push.new.self.items c.step-stepped.new.out.items c.as_slice.result.now c.args.out.now.items c.add_entries-added.new.out.items (said_is c.args.text.now c.args.line.now c.new-entries.result.items c.push.new.self.items c.in_ok-said_entry.field-0 c.new-entries.ensures c.in_ok-said_entry.ensures c.in_ok-push.ensures.ok) c.as_slice.ensures c.requires.empty (part_of c.args.line.now _ _ c.in_ok-stepped.ensures.ok) prefix)) c.add_entries-added.ensures.prefix
