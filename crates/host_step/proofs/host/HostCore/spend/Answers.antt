use Rattle.std.proofs.Common.{ℕ, refl, sym, ap, ◌∙◌}
use Rattle.std.specs.Prelude.{slice_set, None}
use Rattle.s0_session.specs.Nonces.{restored_account}
use Rattle.host_model.specs.State.{HostState}
use Rattle.host_model.specs.After.{spending}
use Rattle.host_step.specs.Inside.{parts_of}
use Rattle.host_step.proofs.Kept.{kept_by}
use Rattle.host_step.proofs.host.HostCore.spend.Goals as goal

pub invariant_of-self : goal.invariant_of-self
invariant_of-self c =
    kept_by (λ (h : HostState). spending h c.args.node) (parts_of c.self.inside) c.args.self.now _ c.self.view_is c.requires
    refl refl (sym (c.restore.ensures ∙ ap (λ (k : ℕ). slice_set c.self.inside.nonces c.args.node (restored_account k None)) c.given-given.ensures)) refl refl
