-- It names no live nonce, or spends it.
use Rattle.std.proofs.Common.{List, [], ◌∷◌, refl, ap, sym, ◌∙◌, subst, arith, inl}
use Rattle.std.specs.Prelude.{true}
use Rattle.zw_base.proofs.Results.{on_err}
use Rattle.host_model.specs.State.{HostParts}
use Rattle.host_model.proofs.EventLists.{none_added}
use Rattle.host_step_bytes.specs.Calls.{Scene, scene, Does, Are}
use Rattle.host_step_bytes.proofs.CallLists.{stops_at_once, then_stops}
use Rattle.host_heard.specs.declared.told.Told.{Told}
use Rattle.host_model.specs.Taking.{AreTaken}
use Rattle.host_step_kept.specs.Opening.{opening}
use Rattle.host_step_bytes.proofs.Unsealed.{unnamed_unread, opening_did, opened_no_further, in_vain_is, opened_and_taken}
use Rattle.host_step_kept.specs.declared.opening.Opened.TheVariants.{Unkept, InVain}
use Rattle.host_step_bytes.proofs.messages.take_sealed.Goals as goal

pub returns-in_err-unread-clause-err : goal.returns-in_err-unread-clause-err
returns-in_err-unread-clause-err g c =
    let a : Scene = scene c.args.core.now.state c.args.out.now.items (g.P.Keeper.shelf c.args.keeper.now) in
    let b : Scene = scene c.args.core.now.state c.unread.new.out.items (g.P.Keeper.shelf c.args.keeper.now) in
    on_err c.from_residual.result (stops_at_once a b refl c.in_err-unread.ensures.err (none_added a.shelf.records) (omega arith))

pub returns-in_default-clause-ok : goal.returns-in_default-clause-ok
returns-in_default-clause-ok g c =
    let a : Scene = scene c.args.core.now.state c.args.out.now.items (g.P.Keeper.shelf c.args.keeper.now) in
    let b : Scene = scene c.args.core.now.state c.unread.new.out.items (g.P.Keeper.shelf c.args.keeper.now) in
    unnamed_unread c.args.node c.args.payload.now _ a b (sym c.nonce_named.ensures ∙ c.in_default.is) refl c.in_ok-unread.ensures.outs (none_added a.shelf.records) (omega arith)

pub returns-in_err-open-clause-err : goal.returns-in_err-open-clause-err
returns-in_err-open-clause-err g c =
    let a : Scene = scene c.args.core.now.state c.args.out.now.items (g.P.Keeper.shelf c.args.keeper.now) in
    let b : Scene = scene c.open.new.core.state c.open.new.out.items (g.P.Keeper.shelf c.open.new.keeper) in
    on_err c.from_residual-in_err-open.result (stops_at_once a b (ap (λ (p : HostParts). p.state) c.in_err-open.ensures.err.0) c.in_err-open.ensures.err.1 c.in_err-open.ensures.no_record c.open.ensures.never_falls)

pub returns-in_err-take_all-in-Opens-clause-err : goal.returns-in_err-take_all-in-Opens-clause-err
returns-in_err-take_all-in-Opens-clause-err g c =
    let a : Scene = scene c.args.core.now.state c.args.out.now.items (g.P.Keeper.shelf c.args.keeper.now) in
    let b : Scene = scene c.open.new.core.state c.open.new.out.items (g.P.Keeper.shelf c.open.new.keeper) in
    let named = sym c.nonce_named.ensures ∙ c.in-Some.is in
    let d : Scene = scene c.take_all.new.core.state c.take_all.new.out.items (g.P.Keeper.shelf c.take_all.new.keeper) in
    on_err c.from_residual-in_err-take_all-in-Opens.result
    (then_stops (Are (opening c.args.node c.args.payload.now c.in_ok-open.field-0 ∷ [])) a b d (opening_did c.args.node c.args.payload.now c.in-Some.nonce c.in_ok-open.field-0 a b named c.in_ok-open.ensures.in_range c.in_ok-open.ensures.kept (ap (λ (p : HostParts). p.state) c.in_ok-open.ensures.state) c.in_ok-open.ensures.outs c.open.ensures.never_falls) c.in_err-take_all-in-Opens.ensures.err)

pub returns-in-Unkept-clause-ok : goal.returns-in-Unkept-clause-ok
returns-in-Unkept-clause-ok g c =
    let a : Scene = scene c.args.core.now.state c.args.out.now.items (g.P.Keeper.shelf c.args.keeper.now) in
    let b : Scene = scene c.open.new.core.state c.open.new.out.items (g.P.Keeper.shelf c.open.new.keeper) in
    let named = sym c.nonce_named.ensures ∙ c.in-Some.is in
    opened_no_further c.args.node c.args.payload.now c.in-Some.nonce c.in_ok-open.field-0 Unkept a b named c.in-Unkept.is (inl refl) (opening_did c.args.node c.args.payload.now c.in-Some.nonce c.in_ok-open.field-0 a b named c.in_ok-open.ensures.in_range c.in_ok-open.ensures.kept (ap (λ (p : HostParts). p.state) c.in_ok-open.ensures.state) c.in_ok-open.ensures.outs c.open.ensures.never_falls)

pub returns-in-InVain-clause-ok : goal.returns-in-InVain-clause-ok
returns-in-InVain-clause-ok g c =
    let a : Scene = scene c.args.core.now.state c.args.out.now.items (g.P.Keeper.shelf c.args.keeper.now) in
    let b : Scene = scene c.open.new.core.state c.open.new.out.items (g.P.Keeper.shelf c.open.new.keeper) in
    let named = sym c.nonce_named.ensures ∙ c.in-Some.is in
    opened_no_further c.args.node c.args.payload.now c.in-Some.nonce c.in_ok-open.field-0 InVain a b named c.in-InVain.is
    (in_vain_is c.args.core.now.state c.args.node c.args.payload.now c.in-Some.nonce c.in_ok-open.field-0 c.in-InVain.is c.in_ok-open.ensures.opens) (opening_did c.args.node c.args.payload.now c.in-Some.nonce c.in_ok-open.field-0 a b named c.in_ok-open.ensures.in_range c.in_ok-open.ensures.kept (ap (λ (p : HostParts). p.state) c.in_ok-open.ensures.state) c.in_ok-open.ensures.outs c.open.ensures.never_falls)

pub returns-in_ok-take_all-in-Opens-clause-ok : goal.returns-in_ok-take_all-in-Opens-clause-ok
returns-in_ok-take_all-in-Opens-clause-ok g c =
    let a : Scene = scene c.args.core.now.state c.args.out.now.items (g.P.Keeper.shelf c.args.keeper.now) in
    let b : Scene = scene c.open.new.core.state c.open.new.out.items (g.P.Keeper.shelf c.open.new.keeper) in
    let named = sym c.nonce_named.ensures ∙ c.in-Some.is in
    let d : Scene = scene c.take_all.new.core.state c.take_all.new.out.items (g.P.Keeper.shelf c.take_all.new.keeper) in
    opened_and_taken c.args.node c.args.payload.now c.in-Some.nonce c.in_ok-open.field-0 c.in-Opens.messages a b d named c.in-Opens.is c.in_ok-open.ensures.opens (opening_did c.args.node c.args.payload.now c.in-Some.nonce c.in_ok-open.field-0 a b named c.in_ok-open.ensures.in_range c.in_ok-open.ensures.kept (ap (λ (p : HostParts). p.state) c.in_ok-open.ensures.state) c.in_ok-open.ensures.outs c.open.ensures.never_falls)
    (subst (λ (l : List Told). Does (AreTaken b.host c.args.node c.args.payload.now true l) b d) c.as_slice.ensures c.in_ok-take_all-in-Opens.ensures.ok)
