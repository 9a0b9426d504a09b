-- An interview ends well with it, or it tells the request under way.
use Rattle.std.proofs.Common.{◌≡◌, ap, sym, ◌∙◌, arith}
use Rattle.std.specs.Prelude.{None}
use Rattle.host_model.specs.State.{HostParts}
use Rattle.host_step_bytes.specs.Calls.{Scene, scene, Are}
use Rattle.std.proofs.lemmas.Bool.Decides.{nat_tests}
use Rattle.host_requests.specs.State.{RequestsState}
use Rattle.host_requests.specs.Events.RequestsEvent.{Updates}
use Rattle.host_requests.specs.Events.{interviewed_by}
use Rattle.host_model.specs.Taking.{InterviewEvents, told_requests}
use Rattle.host_step_bytes.proofs.CallLists.{does_as}
use Rattle.host_step_bytes.proofs.Followed.{no_interview, interviewed_as, requests_alone}
use Rattle.host_step_bytes.proofs.judging.take_update.Goals as goal

pub returns-in_default-clause-ok : goal.returns-in_default-clause-ok
returns-in_default-clause-ok g c =
    let a : Scene = scene c.args.core.now.state c.args.out.now.items (g.P.Keeper.shelf c.args.keeper.now) in
    let b : Scene = scene c.updated.new.self.state c.updated.new.out.items (g.P.Keeper.shelf c.args.keeper.now) in
    let none : interviewed_by c.args.core.now.state.requests c.args.update ≡ None =
    ap (λ (r : RequestsState). interviewed_by r c.args.update) (sym c.requests.ensures) ∙ sym c.interviewed_by.ensures ∙ c.in_default.is in
    does_as (Are (told_requests (Updates c.args.update))) (InterviewEvents c.args.update (interviewed_by c.args.core.now.state.requests c.args.update)) a b
    (requests_alone (Updates c.args.update) a.host b.host a.outs b.outs tt (ap (λ (p : HostParts). p.state) c.in_ok-updated.ensures.state) c.in_ok-updated.ensures.outs a.shelf)
    (λ events are. no_interview c.args.update (interviewed_by c.args.core.now.state.requests c.args.update) events none are)

pub returns-clause-ok : goal.returns-clause-ok
returns-clause-ok g c =
    let a : Scene = scene c.args.core.now.state c.args.out.now.items (g.P.Keeper.shelf c.args.keeper.now) in
    let b : Scene = scene c.interviewed.new.core.state c.interviewed.new.out.items (g.P.Keeper.shelf c.interviewed.new.keeper) in
    let told = rw c.in-Some-2.is at c.in_ok-found.ensures in
    interviewed_as c.args.update _ told.0 _ c.interviewed_by.result c.in-Some.capability _ c.in_ok-interviewed.field-0 a b told.1
    (c.interviewed_by.ensures ∙ ap (λ (r : RequestsState). interviewed_by r c.args.update) c.requests.ensures) c.in-Some.is (grind (arith, nat_tests))
    c.in_ok-interviewed.ensures.in_range c.in_ok-interviewed.ensures.kept (ap (λ (p : HostParts). p.state) c.in_ok-interviewed.ensures.state) c.in_ok-interviewed.ensures.outs c.interviewed.ensures.never_falls
