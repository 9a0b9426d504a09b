use Rattle.std.proofs.Common.{◌≡◌, ℕ, List, take, ap, ◌∙◌, arith}
use Rattle.std.specs.Vec.{with_items}
use Rattle.std.proofs.lemmas.List.{with_items_is}
use Rattle.std.specs.Prelude.{Option}
use Rattle.transport_segments.specs.Kept.{kept_of}
use Rattle.transport_segments.specs.Places.{written}
use Rattle.transport_segments.proofs.KeptLemmas.{puts}
use Rattle.transport_segments.proofs.assembler.Assembler.put.Goals as goal

pub returns : goal.returns
returns c =
    let shown : (with_items c.self.inside.places c.write.new.places).items ≡ c.write.new.places = with_items_is c.self.inside.places c.write.new.places (c.write.auto.places ∙ c.deref_mut.ensures.len) in
    ap (λ (x : List (Option ℕ)). kept_of c.self.inside.id (take c.self.inside.size x)) shown ∙
    ap (λ (x : List (Option ℕ)). kept_of c.self.inside.id (take c.self.inside.size x)) c.write.ensures
    ∙ ap (λ (x : List (Option ℕ)). kept_of c.self.inside.id (take c.self.inside.size (written x c.args.offset c.args.payload.now))) c.deref_mut.ensures.value
    ∙ puts c.self.inside.id c.self.inside.size c.self.inside.places.items c.args.self.now c.args.offset c.args.payload.now (omega arith) c.self.view_is c.requires.from_one c.requires.inside
