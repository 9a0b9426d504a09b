use Rattle.std.proofs.Common.{◌≡◌, ℕ, List, length, take, None, ap, ◌∙◌, arith}
use Rattle.std.specs.Vec.{with_items}
use Rattle.std.proofs.lemmas.List.{with_items_is}
use Rattle.std.specs.Prelude.{Option, replicate}
use Rattle.std.proofs.lemmas.List.{take-replicate, length-replicate}
use Rattle.transport_segments.specs.Kept.{kept_of}
use Rattle.transport_segments.proofs.KeptLemmas.{kept_of-some}
use Rattle.transport_segments.proofs.assembler.Assembler.begin.Goals as goal

pub returns : goal.returns
returns c =
    let shown : (with_items c.self.inside.places c.forget.new.places).items ≡ c.forget.new.places = with_items_is c.self.inside.places c.forget.new.places (c.forget.auto.places ∙ c.deref_mut.ensures.len) in
    ap (λ (x : List (Option ℕ)). kept_of c.args.id (take c.args.size x)) shown ∙
    (let filled : c.forget.new.places ≡ replicate (length c.deref_mut.result.now) None = c.forget.ensures in
    ap (λ (x : List (Option ℕ)). kept_of c.args.id (take c.args.size x)) filled
    ∙ ap (kept_of c.args.id) (take-replicate c.args.size (length c.deref_mut.result.now) None (omega arith))
    ∙ kept_of-some c.args.id (replicate c.args.size None) (omega (arith, length-replicate {A = Option ℕ})))
