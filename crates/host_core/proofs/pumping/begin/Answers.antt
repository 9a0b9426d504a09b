-- A session begins for the command that waited longest.
use Rattle.std.proofs.Common.{ℕ, ◌+◌, ap, sym, ◌∙◌}
use Rattle.host_model.specs.State.{HostParts}
use Rattle.host_step_bytes.specs.Calls.{Scene, scene}
use Rattle.host_core.proofs.Served.{oldest_waits, begins_may_as, session_begun}
use Rattle.host_core.proofs.pumping.begin.Goals as goal

pub unwrap-command-requires : goal.unwrap-command-requires
unwrap-command-requires g c =
    oldest_waits c.a_pump_ends.ensures.may c.args.core.now.state c.args.node c.node-state.ensures.facts c.requires.served c.requires.idle c.node-state.result.now c.oldest.result c.node-state.ensures.value c.oldest.ensures

pub begin-requires : goal.begin-requires
begin-requires g c =
    begins_may_as c.a_pump_ends.ensures.may c.args.core.now.state c.args.node c.node-state.ensures.facts c.requires.served c.requires.idle c.node-state.result.now c.node-state.ensures.value _ _
    (ap (λ (k : ℕ). k + 1) c.sessions-before.ensures) (sym c.oldest.ensures ∙ c.unwrap-command.ensures)

pub returns-clause-ok : goal.returns-clause-ok
returns-clause-ok g c =
    let a : Scene = scene c.args.core.now.state c.args.out.now.items (g.P.Keeper.shelf c.args.keeper.now) in
    let b : Scene = scene c.begin.new.core.state c.begin.new.out.items (g.P.Keeper.shelf c.begin.new.keeper) in
    session_begun c.args.node _ _ c.in_ok-begin.field-0 a b
    (begins_may_as c.a_pump_ends.ensures.may c.args.core.now.state c.args.node c.node-state.ensures.facts c.requires.served c.requires.idle c.node-state.result.now c.node-state.ensures.value _ _
    (ap (λ (k : ℕ). k + 1) c.sessions-before.ensures) (sym c.oldest.ensures ∙ c.unwrap-command.ensures))
    c.in_ok-begin.ensures.in_range c.in_ok-begin.ensures.kept (ap (λ (p : HostParts). p.state) c.in_ok-begin.ensures.state) c.in_ok-begin.ensures.outs c.begin.ensures.never_falls
