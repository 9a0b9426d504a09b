use Rattle.std.proofs.Common.{is_some, ◌∙◌, ap, subst, [], ◌∷◌, List, Some}
use Rattle.std.specs.FinMap as map
use Rattle.zw_base.specs.declared.property.Property.{Property}
use Rattle.value_store.specs.declared.stored.Stored.{Stored}
use Rattle.value_store.specs.Values.{Key, Reserves, Values}
use Rattle.value_store.proofs.Seen.{same_set, same_stored, stay_set}
use Rattle.value_store.proofs.store.Store.hear_report.Goals as goal

-- setting what was reserved is setting it at once
pub returns-clause-ok : goal.returns-clause-ok
returns-clause-ok c =
    let old = c.args.self.now in
    let new = c.reserve.new.self in
    let law : Reserves old new c.args.node (c.args.property ∷ []) =
    subst (λ (ps : List Property). Reserves old new c.args.node ps) c.from_ref.ensures.value c.in_ok-reserve.ensures.ok in
    let key : Key = (c.args.node, c.args.property) in
    c.set.ensures
    ∙ same_set old new c.args.node c.args.property law (record { confirmed = c.stored-stored.result.confirmed; heard = Some c.args.value })
    ∙ ap (λ (s : Stored). map.insert old key (record { confirmed = s.confirmed; heard = Some c.args.value }))
    (c.stored-stored.ensures ∙ same_stored old new c.args.node c.args.property law)

-- what was kept stays
pub returns-clause-stay : goal.returns-clause-stay
returns-clause-stay c n p kept = ap (λ (v : Values). is_some (map.get v (n, p))) c.set.ensures ∙ stay_set c.reserve.new.self _ _ n p (c.in_ok-reserve.ensures.stay n p kept)
