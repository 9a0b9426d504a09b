-- A device stays of the kind of its node.
use Rattle.std.proofs.Common.{List, [], ◌∷◌, ap, sym, ◌∙◌}
use Rattle.std.specs.List.{AllByRecursion}
use Rattle.device_sim.specs.State.{State}
use Rattle.audit_books.specs.Asking.{kind_at}
use Rattle.proof_headline.specs.proof_device.GoingOn.{AreSame}
use Rattle.proof_audit.specs.Books.{IsOfItsKind}

pub kinds_stay : (olds news : List State) → AreSame olds news → AllByRecursion IsOfItsKind olds → AllByRecursion IsOfItsKind news
kinds_stay [] [] same kinds = tt
kinds_stay [] (new ∷ news) same kinds = absurd same
kinds_stay (old ∷ olds) [] same kinds = absurd same
kinds_stay (old ∷ olds) (new ∷ news) same kinds = (same.0.kind ∙ (kinds.0 ∙ ap kind_at (sym same.0.node)), kinds_stay olds news same.1 kinds.1)
