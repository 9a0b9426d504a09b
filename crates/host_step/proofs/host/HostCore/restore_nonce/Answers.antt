use Rattle.std.proofs.Common.{refl, sym}
use Rattle.host_model.specs.State.{HostState}
use Rattle.host_model.specs.Restoring.{given_again}
use Rattle.host_step.specs.Inside.{parts_of}
use Rattle.host_step.proofs.Kept.{kept_by}
use Rattle.host_step.proofs.host.HostCore.restore_nonce.Goals as goal

pub invariant_of-self : goal.invariant_of-self
invariant_of-self c =
    kept_by (λ (h : HostState). given_again h c.args.node c.args.given c.args.nonce) (parts_of c.self.inside) c.args.self.now _ c.self.view_is c.requires.facts refl refl (sym c.restore.ensures) refl refl
